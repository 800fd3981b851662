-- Claim protection acts on what is due of it.
use Rattle.std.proofs.Common.{◌≡◌, ◌∙◌, ℕ, List, [], ◌∷◌, Bool, true, false, true≢false, Option, Some, inl, inr, refl, sym, ap, subst}
use Rattle.std.specs.Prelude.{◌||◌, is_some}
use Rattle.std.specs.List.{list_any}
use Rattle.kube_objects.specs.declared.key.Key.{Key}
use Rattle.kube_parts.specs.declared.names.Due.{Due}
use Rattle.kube_parts.specs.declared.names.Due.TheVariants as dues
use Rattle.kube_parts.specs.declared.parts.Kind.TheVariants as kinds
use Rattle.kube_objects.specs.declared.objects.Claim.{Claim as ClaimData}
use Rattle.kube_objects.specs.declared.objects.Object.{Object}
use Rattle.kube_objects.specs.declared.objects.Object.TheVariants.{Class, Node, Volume, Claim, Pod}
use Rattle.kube_objects.specs.Bindings.{is_deleting, is_protected_claim, uses}
use Rattle.kube_objects.specs.Keys.{key_of, row_at}
use Rattle.kube_objects.proofs.KeyOrder.{row_at_key}
use Rattle.call_types.specs.declared.entry.Entry.{Entry}
use Rattle.call_types.specs.declared.request.Request.TheVariants as requests
use Rattle.call_types.specs.declared.request.SeatKind.{SeatKind}
use Rattle.call_types.specs.declared.request.SeatKind.TheVariants as seats
use Rattle.call_types.specs.declared.setup.Setup.{Setup}
use Rattle.binder_model.specs.Answers.{after, is_user, list, outcome}
use Rattle.binder_model.specs.Devices.{device_answer}
use Rattle.binder_model.specs.Due.{claim_guard_due, guard_due}
use Rattle.binder_model.specs.Imports.{ImportsPass}
use Rattle.binder_model.specs.Reading.{follows}
use Rattle.binder_model.specs.World.{World, effect, log_after, on_devices, reply_to, world, world_after}
use Rattle.informer_cache.specs.All.{all_objects}
use Rattle.model_laws.proofs.Histories.{rows_stand_in_order}
use Rattle.model_laws.proofs.Lists.{IsIn}
use Rattle.model_laws.proofs.Readings.{found_stands, lists_tell_what_stands, member_stands}
use Rattle.protect_sync.specs.Decisions.{claim_guard_begins, claim_guard_for}
use Rattle.protect_sync.specs.ClaimGuards.{claim_guard_call, claim_moved, unguarded_claim, claim_write_over}
use Rattle.protect_sync.specs.declared.claims.ClaimGuardStep.TheVariants as steps
use Rattle.worker_core.specs.declared.role.Role.{Role}
use Rattle.worker_core.specs.declared.task.First.{First}
use Rattle.worker_core.specs.declared.task.Task.TheVariants as tasks
use Rattle.worker_core.specs.States.{ActorState}
use Rattle.worker_core.specs.Tasks.{IsDecision, IsFirstOf, claim_guard_first, under_after}
use Rattle.settle_writes.specs.Writes.Writes.{IsStored}
use Rattle.settle_writes.proofs.Writes.Claims.{claim_guard_lasts, claim_unguard_lasts}
use Rattle.settle_alike.specs.Alike.Alike.{AreAlike}
use Rattle.settle_alike.proofs.Alike.Binding.{claim_guard_plain}
use Rattle.settle_alike.proofs.Alike.Rows.{plain_claim}
use Rattle.settle_slot.specs.Slot.Slots.{IsDecisionPoint, own_entry}
use Rattle.settle_slot.specs.Slot.Would.{AtOnce, Later, WouldLast}
use Rattle.settle_due.specs.Upkeep.Acts.{ClaimGuardsAct}
use Rattle.settle_due.proofs.Upkeep.Deciding.{BeginsLasting, acts_by, claim_alike, stored}
use Rattle.settle_due.proofs.Upkeep.Guards.{GuardOrUnguard, IsGuard, IsUnguard, one_of}
use Rattle.settle_due.proofs.Upkeep.Known.{rows_known}
use Rattle.settle_measure.proofs.Left.Others.{any_in as any_of}

-- tests over rows

-- no row of these passes where each that would stands among others, of which none does
pub none_among : (p : Object → Bool) (xs rows : List Object) → ((o : Object) → IsIn o xs → p o ≡ true → IsIn o rows) → list_any p rows ≡ false → list_any p xs ≡ false
none_among p [] rows there none = refl
none_among p (x ∷ xs) rows there none = by (p x) refl (none_among p xs rows (λ o h e. there o (inr h) e) none)
  where
    by : (b : Bool) → p x ≡ b → list_any p xs ≡ false → (p x || list_any p xs) ≡ false
    by true e rest = absurd (true≢false (sym (any_of p x rows (there x (inl refl) e) e) ∙ none))
    by false e rest = rw e rest

pub or_true : (b : Bool) → (b || true) ≡ true
or_true true = refl
or_true false = refl

-- only pods use a claim
pub uses_pod : (c : ClaimData) (o : Object) → uses c o ≡ true → (key_of o).kind ≡ kinds.Pod
uses_pod c (Pod p) e = refl
uses_pod c (Class x) e = absurd (true≢false (sym e))
uses_pod c (Node x) e = absurd (true≢false (sym e))
uses_pod c (Volume x) e = absurd (true≢false (sym e))
uses_pod c (Claim x) e = absurd (true≢false (sym e))

-- a list changes nothing
pub list_stays : (setup : Setup) (w : World) (kind : SeatKind) (namespace : List ℕ) → world_after w (effect setup w kind (requests.List kinds.Pod (Some namespace))) ≡ w
unfolding effect on_devices device_answer outcome list world_after after log_after
list_stays setup w kind namespace = refl

is_used : Option Due → Bool
is_used (Some dues.Unguard) = false
is_used x = true

unguard_unused : (a b used : Bool) → guard_due a b used ≡ Some dues.Unguard → (a ≡ true) × (b ≡ true) × (used ≡ false)
unfolding is_used
unguard_unused true true false e = (refl, refl, refl)
unguard_unused true true true e = absurd (true≢false (ap is_used e))
unguard_unused true false used e = absurd (true≢false (ap is_used e))
unguard_unused false true used e = absurd (true≢false (ap is_used e))
unguard_unused false false used e = absurd (true≢false (ap is_used e))

is_there : Option Due → Bool
is_there (Some dues.Guard) = true
is_there x = false

guard_any : (a b used other : Bool) → guard_due a b used ≡ Some dues.Guard → guard_due a b other ≡ Some dues.Guard
unfolding is_there
guard_any false false used other e = refl
guard_any false true used other e = absurd (true≢false (sym (ap is_there e)))
guard_any true true false other e = absurd (true≢false (sym (ap is_there e)))
guard_any true true true other e = absurd (true≢false (sym (ap is_there e)))
guard_any true false used other e = absurd (true≢false (sym (ap is_there e)))

module _ (setup : Setup) (seat : ℕ) (role : Role) (start : List Entry) (key : Key) (c : ClaimData) (action : Due) (pass : ImportsPass setup.imports) (kind : role.kind ≡ seats.ClaimProtect)
    (there : row_at key (world setup start).store.rows ≡ Some (Claim c)) (due : claim_guard_due (world setup start).store.rows c ≡ Some action) where
  controller : is_user role.kind ≡ false
  controller = ap is_user kind

  module _ (s : ActorState) (h : List Entry) (p : IsDecisionPoint setup seat role start s h) (d : ClaimData)
      (is : row_at key (world setup h).store.rows ≡ Some (Claim d)) (same : plain_claim d ≡ plain_claim c) where
    s_kind : s.role.kind ≡ seats.ClaimProtect
    s_kind = ap (λ (r : Role). r.kind) p.role_is ∙ kind

    follows_it : (k : Key) → follows seats.ClaimProtect k.kind ≡ true → follows s.role.kind k.kind ≡ true
    follows_it k f = ap (λ x. follows x k.kind) s_kind ∙ f

    seen : row_at key (all_objects s.caches) ≡ Some (Claim d)
    seen = p.sees key (follows_it key (ap (λ (k : Key). follows seats.ClaimProtect k.kind) (sym (row_at_key key (Claim d) (world setup h).store.rows is)))) ∙ is

    due_here : claim_guard_due (world setup h).store.rows d ≡ Some action
    due_here = sym (claim_guard_plain (world setup h).store.rows d) ∙ ((λ i. claim_guard_due ((sym p.alike.rows) i) (same i)) ∙ (claim_guard_plain (world setup start).store.rows c ∙ due))

    on_store : IsStored (world setup h) (Claim d)
    on_store = stored setup h key (Claim d) pass is

    known : is_some d.meta.uid ≡ true
    known = rows_known setup h pass key (Claim d) is

    -- the pods that the caches show stand in the store
    unused_seen : list_any (uses d) (world setup h).store.rows ≡ false → list_any (uses d) (all_objects s.caches) ≡ false
    unused_seen none = none_among (uses d) (all_objects s.caches) (world setup h).store.rows
        (λ o i e. found_stands (key_of o) o (world setup h).store.rows
        (sym (p.sees (key_of o) (follows_it (key_of o) (ap (λ k. follows seats.ClaimProtect k) (uses_pod d o e)))) ∙ member_stands o (all_objects s.caches) p.ready.rows i)) none

    decided : (first : First) → IsDecision s.role s.memory (all_objects s.caches) key first → first ≡ claim_guard_first (claim_guard_for d (claim_guard_due (all_objects s.caches) d))
    decided first x = (subst (λ k. IsFirstOf k s.role.node s.memory (all_objects s.caches) key first) s_kind x) ∙ ap (λ y. claim_guard_first (claim_guard_begins (all_objects s.caches) y)) seen

    begins_by : GuardOrUnguard (claim_guard_due (world setup h).store.rows d) → BeginsLasting setup seat role start key s h
    unfolding claim_guard_call claim_moved
    begins_by (IsGuard e) =
        let due_seen : claim_guard_due (all_objects s.caches) d ≡ Some dues.Guard = guard_any (is_deleting d.meta) (is_protected_claim d) _ (list_any (uses d) (all_objects s.caches)) e in
        record {
          task = tasks.ClaimProtect (record { claim = d; step = steps.Adds });
          call = _;
          only = λ first x. decided first x ∙ ap (λ y. claim_guard_first (claim_guard_for d y)) due_seen;
          asks = refl;
          will = AtOnce p.alike (claim_guard_lasts setup (world setup h) role.kind d controller on_store e);
        }
    begins_by (IsUnguard e) =
        let parts = unguard_unused (is_deleting d.meta) (is_protected_claim d) (list_any (uses d) (world setup h).store.rows) e in
        let due_seen : claim_guard_due (all_objects s.caches) d ≡ Some dues.Unguard = rw (parts.0, parts.1, unused_seen parts.2) refl in
        record {
          task = tasks.ClaimProtect (record { claim = d; step = steps.ListsPods });
          call = requests.List kinds.Pod (Some d.meta.namespace);
          only = λ first x. decided first x ∙ ap (λ y. claim_guard_first (claim_guard_for d y)) due_seen;
          asks = rw known refl;
          will = Later p.alike (record
              { key = key; task = tasks.ClaimProtect (record { claim = d; step = steps.Drops }); call = claim_write_over d (unguarded_claim d) }) (after_list parts.2) (then_ e);
        }
      where
        after_list : list_any (uses d) (world setup h).store.rows ≡ false
            → under_after (record {
              key = key;
              task = tasks.ClaimProtect (record { claim = d; step = steps.ListsPods });
              call = requests.List
                  kinds.Pod (Some d.meta.namespace);
            }) (reply_to (effect setup (world setup h) role.kind (requests.List kinds.Pod (Some d.meta.namespace))))
            ≡ Some (record { key = key; task = tasks.ClaimProtect (record { claim = d; step = steps.Drops }); call = claim_write_over d (unguarded_claim d) })
        after_list none =
            let l = lists_tell_what_stands setup (world setup h) role.kind kinds.Pod (Some d.meta.namespace) (rows_stand_in_order setup h) in
            let unused : list_any (uses d) l.0 ≡ false = none_among (uses d) l.0 (world setup h).store.rows (λ o i e. found_stands (key_of o) o (world setup h).store.rows (l.1.1.1.stands o i)) none in
            ap (under_after (record {
              key = key;
              task = tasks.ClaimProtect (record { claim = d; step = steps.ListsPods });
              call = requests.List
                  kinds.Pod (Some d.meta.namespace);
            })) l.1.1.0 ∙ rw unused refl

        same_world : world setup (own_entry setup seat role.kind h (requests.List kinds.Pod (Some d.meta.namespace)) ∷ h) ≡ world setup h
        same_world = list_stays setup (world setup h) role.kind d.meta.namespace

        still : AreAlike (world setup start) (world setup (own_entry setup seat role.kind h (requests.List kinds.Pod (Some d.meta.namespace)) ∷ h))
        still = subst (AreAlike (world setup start)) (sym same_world) p.alike

        then_ : claim_guard_due (world setup h).store.rows d ≡ Some dues.Unguard
            → WouldLast setup seat role.kind start (own_entry setup seat role.kind h (requests.List kinds.Pod (Some d.meta.namespace)) ∷ h)
            (record { key = key; task = tasks.ClaimProtect (record { claim = d; step = steps.Drops }); call = claim_write_over d (unguarded_claim d) })
        then_ e = AtOnce still (claim_unguard_lasts setup _ role.kind d controller (subst (λ w. IsStored w (Claim d)) (sym same_world) on_store)
            (ap (λ (w : World). claim_guard_due w.store.rows d) same_world ∙ e))

    begins : BeginsLasting setup seat role start key s h
    begins = begins_by (one_of (is_deleting d.meta) (is_protected_claim d) (list_any (uses d) (world setup h).store.rows) action due_here)

  at_point : (s : ActorState) (h : List Entry) → IsDecisionPoint setup seat role start s h → BeginsLasting setup seat role start key s h
  at_point s h p = let at = claim_alike (world setup start) (world setup h) key c p.alike there in begins s h p at.claim at.is at.same

pub claim_guards_act : ClaimGuardsAct
claim_guards_act setup seat role start key c action pass kind there due = acts_by setup seat role start key (at_point setup seat role start key c action pass kind there due)
