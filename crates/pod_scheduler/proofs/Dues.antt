-- Where the look-up is the store itself, what begins on a pod is what is due for it.
use Rattle.std.proofs.Common.{ℕ, zero, ◌≡◌, ◌∙◌, ◌<◌, ◌+◌, Bool, true, false, true≢false, List, [], ◌∷◌, length, map, Option, Some, None, refl, sym, ap, subst, arith, if◌then◌else◌}
use Rattle.std.specs.Prelude.{◌↔◌, is_some, slice_get}
use Rattle.std.proofs.lemmas.List.{length-append, length-map}
use Rattle.kube_parts.specs.declared.uid.Uid.{Uid}
use Rattle.kube_objects.specs.declared.key.Key.{Key}
use Rattle.kube_parts.specs.declared.names.Due.{Due}
use Rattle.kube_objects.specs.declared.objects.Pod.{Pod as PodData}
use Rattle.kube_objects.specs.declared.objects.Object.TheVariants.{Pod}
use Rattle.kube_objects.specs.Bindings.{is_scheduled}
use Rattle.kube_objects.specs.Keys.{AreRows}
use Rattle.call_types.specs.declared.setup.Setup.{Setup}
use Rattle.call_types.specs.declared.request.Request.{Request}
use Rattle.call_types.specs.declared.request.Request.TheVariants as requests
use Rattle.binder_model.specs.Due.{IsDue}
use Rattle.binder_model.specs.World.{World}
use Rattle.delayed_binding.specs.declared.choice.Choice.{Choice}
use Rattle.delayed_binding.specs.declared.choice.Choice.TheVariants.{Assign, Prepare, Wait, NoNode}
use Rattle.delayed_binding.specs.ChoiceLaw.{IsDueBy}
use Rattle.delayed_binding.specs.Choices.{IsChoice}
use Rattle.delayed_binding.specs.WriteLaw.{written_keys}
use Rattle.delayed_binding.specs.Writes.{joined, prepare_write, writes_of}
use Rattle.delayed_binding.proofs.Allowed.{prepared_have_writes, prepared_writes_are_there}
use Rattle.delayed_binding.proofs.Dues.{choices_are_due}
use Rattle.pod_scheduler.specs.Decisions.{BeginsIf, begun_with, binding, last_refused, present, writes_for}
use Rattle.pod_scheduler.specs.DueLaw.{AreUidsKnown, BeginsWhatIsDue, IsDueAt, first_call}
use Rattle.pod_scheduler.specs.Schedules.{schedule_call}
use Rattle.pod_scheduler.proofs.Present.{is_update, writes_are_updates}

-- the first write that prepares a node is there
record HasFirst (xs : List (Option Request)) : Type 0 where
  write : Request
  rest : List (Option Request)
  is : xs ≡ Some write ∷ rest

has_first : (xs : List (Option Request)) → is_some (joined (slice_get xs zero)) ≡ true → HasFirst xs
has_first [] h = absurd (true≢false (sym h))
has_first (None ∷ xs) h = absurd (true≢false (sym h))
has_first (Some w ∷ xs) h = record { write = w; rest = xs; is = refl }

some_writes : (node : List ℕ) (bs : List (Key × Key)) (ps : List Key) → 0 < length bs + length ps → 0 < length (written_keys (Prepare node bs ps))
some_writes node bs ps some =
    let a = length-append (map (λ (pair : Key × Key). pair.1) bs) ps in
    let b = length-map bs (λ (pair : Key × Key). pair.1) in
    omega (arith, a, b, some)

module _ (setup : Setup) (w : World) (p : PodData) where
  -- the call of an update is due as preparing is
  update_due : (r : Request) (action : Option Due) → is_update r ≡ true → (name : List ℕ) (bs : List (Key × Key)) (ps : List Key)
      → IsDueBy setup w p (Prepare name bs ps) action ↔ IsDueAt setup w p (Some r) action
  update_due (requests.Update new given) (Some action) h name bs ps = (λ x. x, λ x. x)
  update_due (requests.Update new given) None h name bs ps = (λ x. x, λ x. x)
  update_due _ action h name bs ps = absurd (true≢false (sym h))

  -- the first call of what begins with these writes
  call_is : (writes : List Request) (r : Request) (rest : List Request) → writes ≡ r ∷ rest → is_update r ≡ true → first_call (begun_with writes) ≡ Some r
  unfolding schedule_call
  call_is writes r rest is h = ap (λ ws. first_call (begun_with ws)) is ∙ by r h
    where
      by : (x : Request) → is_update x ≡ true → first_call (begun_with (x ∷ rest)) ≡ Some x
      by (requests.Update new given) h = refl
      by _ h = absurd (true≢false (sym h))

  module _ (order : AreRows w.store.rows) (known : AreUidsKnown w.store.rows p) (last : Option (List ℕ)) (action : Option Due) where
    due_by : (choice : Choice) → IsChoice w.store.rows p last choice → IsDueBy setup w p choice action ↔ IsDueAt setup w p (first_call (begun_with (writes_for w.store.rows p choice))) action
    unfolding prepare_write schedule_call
    due_by (Assign name) f = by p.meta.uid known.pod
      where
        by : (u : Option Uid) → is_some u ≡ true → IsDueBy setup w p (Assign name) action ↔ IsDueAt setup w p (first_call (begun_with (binding p u name))) action
        by None h = absurd (true≢false (sym h))
        by (Some uid) h = (λ x. x, λ x. x)
    due_by (Prepare name bs ps) f =
        let rows = w.store.rows in
        let choice = Prepare name bs ps in
        let there = prepared_writes_are_there rows p last choice zero order f (some_writes name bs ps (prepared_have_writes rows p last choice order f)) in
        let first = has_first (writes_of rows choice) there in
        let update = writes_are_updates rows choice zero first.write (ap (λ xs. joined (slice_get xs zero)) first.is) in
        let writes : writes_for rows p choice ≡ first.write ∷ present first.rest = ap (λ b. if b then present (writes_of rows choice) else []) known.claims ∙ ap present first.is in
        subst (λ c. IsDueBy setup w p choice action ↔ IsDueAt setup w p c action)
        (sym (call_is (writes_for rows p choice) first.write (present first.rest) writes update)) (update_due first.write action update name bs ps)
    due_by Wait f = (λ x. x, λ x. x)
    due_by NoNode f = (λ x. x, λ x. x)

through : {A B C : Type 0} → A ↔ B → B ↔ C → A ↔ C
through f g = (λ a. g.0 (f.0 a), λ c. f.1 (g.1 c))

pub begins_what_is_due : BeginsWhatIsDue
begins_what_is_due setup w p refused op action order plain unscheduled known begins = by (is_scheduled p) unscheduled begins
  where
    by : (scheduled : Bool) → scheduled ≡ false → BeginsIf scheduled w.store.rows refused p op → IsDue setup w (Pod p) action ↔ IsDueAt setup w p (first_call op) action
    by true e b = absurd (true≢false e)
    by false e b =
        let last = last_refused w.store.rows p refused in
        let due = choices_are_due setup w p last b.choice action order plain unscheduled b.chosen in
        subst (λ o. IsDue setup w (Pod p) action ↔ IsDueAt setup w p (first_call o) action) (sym b.begins) (through due (due_by setup w p order known last action b.choice b.chosen))
