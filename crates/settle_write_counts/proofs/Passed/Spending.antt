-- What a scheduler has under way costs no more writes than its pod may: each write of a preparation is done, and behind the last of them
-- each claim of the pod is under way.
use Rattle.std.proofs.Common.{◌≡◌, ◌≢◌, ◌∙◌, ℕ, ◌+◌, ◌≤◌, List, [], ◌∷◌, ◌++◌, Bool, true, false, true≢false, Option, Some, None, refl, sym, ap, subst, arith, length, length-append, if◌then◌else◌}
use Rattle.std.specs.Prelude.{◌&&◌, ◌||◌, bytes_eq, is_none, is_some, map, nat_lt, not, slice_get}
use Rattle.std.specs.List.{list_all}
use Rattle.std.proofs.lemmas.Bool.{and_parts}
use Rattle.std.proofs.lemmas.Bool.Decides.{nat_tests}
use Rattle.std.proofs.lemmas.Option.{slice_get_within}
use Rattle.std.proofs.lemmas.Slice.Eq.{bytes_eq-Decides}
use Rattle.kube_objects.specs.declared.key.Key.{Key}
use Rattle.kube_parts.specs.declared.parts.Kind.TheVariants as kinds
use Rattle.kube_objects.specs.declared.objects.Ref.{Ref}
use Rattle.kube_objects.specs.declared.objects.Claim.{Claim as ClaimData}
use Rattle.kube_objects.specs.declared.objects.Node.{Node as NodeData}
use Rattle.kube_objects.specs.declared.objects.Pod.{Pod as PodData}
use Rattle.kube_objects.specs.declared.objects.Volume.{Volume as VolumeData}
use Rattle.kube_objects.specs.declared.objects.Object.{Object}
use Rattle.kube_objects.specs.declared.objects.Object.TheVariants.{Claim, Class, Node, Pod, Volume}
use Rattle.kube_objects.specs.Bindings.{
  carries,
  has_key,
  has_name,
  is_available,
  is_completed,
  is_deleting,
  is_ended,
  is_scheduled,
  names_claim,
  pv_protection,
  refers_carrying,
  refers_for,
  selected_node,
  uid_carries,
  uid_fits,
}
use Rattle.kube_objects.specs.Keys.{AreRows, key_of, kind_index, put_row, row_at, rows_of}
use Rattle.kube_objects.proofs.KeyOrder.{row_at-put_row, row_at-put_row_other}
use Rattle.call_types.specs.declared.entry.Entry.{Entry}
use Rattle.call_types.specs.declared.reply.Change.TheVariants.{Modified}
use Rattle.call_types.specs.declared.reply.Reply.{Reply}
use Rattle.call_types.specs.declared.request.Request.{Request}
use Rattle.call_types.specs.declared.request.SeatKind.TheVariants as seats
use Rattle.call_types.specs.declared.setup.Setup.{Setup}
use Rattle.binder_model.specs.Answers.{Stores, after, reply_of}
use Rattle.binder_model.specs.BindWrites.{write_reference}
use Rattle.binder_model.specs.Choice.{AreShares, IsProvisioned, Share, TakesVolume, carries_claim, claims_of, has_carrier, is_under_way}
use Rattle.binder_model.specs.Imports.{ImportsPass}
use Rattle.binder_model.specs.Matching.{eligible, fits, is_admitted_on, is_selected, may_serve}
use Rattle.binder_model.specs.Store.{updated_object, with_meta, with_status_of}
use Rattle.binder_model.specs.World.{Effect, OnStore, effect, log_after, reply_to, world, world_after}
use Rattle.model_laws.proofs.Histories.{rows_stand_in_order}
use Rattle.model_laws.proofs.Lists.{none_some, one}
use Rattle.delayed_binding.proofs.Known.{AreApart, Each, IsStored as Stands}
use Rattle.pod_scheduler.specs.declared.schedule.ScheduleStep.TheVariants as steps
use Rattle.pod_scheduler.specs.Schedules.{is_refused, is_write, is_written, only_write, schedule_call, schedule_call_at, schedule_moved}
use Rattle.settle_measure.proofs.Binding.Binding.{seeking_parts}
use Rattle.settle_measure.specs.Left.Measure.{total}
use Rattle.settle_measure.proofs.Left.Others.{any_in}
use Rattle.settle_measure.proofs.Left.Sums.{found_in}
use Rattle.settle_measure.proofs.Left.Words.{value_put}
use Rattle.worker_core.specs.declared.task.Task.TheVariants as tasks
use Rattle.worker_core.specs.declared.task.Under.{Under}
use Rattle.worker_core.specs.Tasks.{under_after, with_call}
use Rattle.settle_writes.specs.Writes.Writes.{IsStored}
use Rattle.settle_due.proofs.Upkeep.Deciding.{stored}
use Rattle.settle_due.proofs.Upkeep.Reclaims.{has_uid}
use Rattle.settle_slot.specs.Slot.Slots.{own_entry}
use Rattle.settle_due.specs.Scheduling.Writes.{placing}
use Rattle.settle_due.proofs.Scheduling.Placing.{AreFrom, at_from, comes_to, later_from, others_stay, placed, still_stand}
use Rattle.settle_pays.proofs.Scheduler.Paying.{IsBehind, IsOpen, at_call, behind, next_of, refs_in, stays_there, took}
use Rattle.settle_pays.proofs.Scheduler.Taking.{IsTaken}
use Rattle.settle_write_counts.proofs.Passed.Costs.{Grows, beside_falls, costs_beside, costs_join, costs_on, pod_costs, put_grows}
use Rattle.settle_write_counts.proofs.Passed.Covered.{IsCovered, all_under, covered_next, takers_of}
use Rattle.model_laws.proofs.References.{refers_to}

-- as long as nobody else calls, the version and what is left to be written never rise together, and where what is under way ends, no more is
-- left than the pods may cost
pub data Spends (setup : Setup) (seat : ℕ) : ℕ → List Entry → Under → Type 0 where
  EachSpends : {n : ℕ} {h : List Entry} {u : Under} (m : ℕ) → (world setup (own_entry setup seat seats.Scheduler h u.call ∷ h)).store.version + m ≤ (world setup h).store.version + n
      → ((next : Under) → under_after u (reply_to (effect setup (world setup h) seats.Scheduler u.call)) ≡ Some next → Spends setup seat m (own_entry setup seat seats.Scheduler h u.call ∷ h) next)
      → (under_after u (reply_to (effect setup (world setup h) seats.Scheduler u.call)) ≡ None
      → costs_on (world setup (own_entry setup seat seats.Scheduler h u.call ∷ h)).store.rows ≤ m) → Spends setup seat n h u

pub spends_more : (setup : Setup) (seat few many : ℕ) (h : List Entry) (u : Under) → few ≤ many → Spends setup seat few h u → Spends setup seat many h u
spends_more setup seat few many h u le (EachSpends m version goes ends) = EachSpends m (omega (arith, version, le)) goes ends

-- ---- claims that are under way

by_carrier : (rows : List Object) (d : ClaimData) → has_carrier rows d ≡ true → is_under_way rows d ≡ true
by_carrier rows d e = by (is_completed d) (has_carrier rows d) (has_key selected_node d.meta.annotations) e
  where
    by : (done carried has : Bool) → carried ≡ true → (done || carried || has) ≡ true
    by true carried has f = refl
    by false true has f = refl
    by false false has f = absurd (true≢false (sym f))

by_node : (rows : List Object) (d : ClaimData) → has_key selected_node d.meta.annotations ≡ true → is_under_way rows d ≡ true
by_node rows d e = by (is_completed d) (has_carrier rows d) (has_key selected_node d.meta.annotations) e
  where
    by : (done carried has : Bool) → has ≡ true → (done || carried || has) ≡ true
    by true carried has f = refl
    by false true has f = refl
    by false false has f = f

-- if it is a claim, it is under way
abbrev is_claim_under : List Object → Object → Bool
is_claim_under rows (Claim d) = is_under_way rows d
is_claim_under rows o = true

-- if it is a claim, it has a node
abbrev has_node : Object → Bool
has_node (Claim d) = has_key selected_node d.meta.annotations
has_node o = true

with_a_node : (rows : List Object) (o : Object) → has_node o ≡ true → is_claim_under rows o ≡ true
with_a_node rows (Claim d) e = by_node rows d e
with_a_node rows (Class x) e = refl
with_a_node rows (Node x) e = refl
with_a_node rows (Volume x) e = refl
with_a_node rows (Pod x) e = refl

abbrev is_claim : Object → Bool
is_claim (Claim d) = true
is_claim o = false

-- a volume that may be taken for a claim that no volume carries, carries no claim that stands
module _ (rows : List Object) (v : VolumeData) (c d : ClaimData) (n : NodeData) (fit : eligible v c (Some n) ≡ true)
    (there : row_at (key_of (Volume v)) rows ≡ Some (Volume v)) (claim_there : Stands rows c) (free : has_carrier rows c ≡ false)
    (other_there : Stands rows d) (carried : carries v d ≡ true) where
  serves : may_serve v c ≡ true
  serves = by (is_deleting v.meta) (has_name pv_protection v.meta.finalizers) (fits v c) (is_selected c.selector v.meta.labels) (is_admitted_on v (Some n)) fit
    where
      by : (e f g k m : Bool) → (not e && f && g && k && m && may_serve v c) ≡ true → may_serve v c ≡ true
      by true f g k m is = absurd (true≢false (sym is))
      by false false g k m is = absurd (true≢false (sym is))
      by false true false k m is = absurd (true≢false (sym is))
      by false true true false m is = absurd (true≢false (sym is))
      by false true true true false is = absurd (true≢false (sym is))
      by false true true true true is = is

  names_same : (r : Ref) → names_claim r c ≡ true → names_claim r d ≡ true → key_of (Claim c) ≡ key_of (Claim d)
  names_same r a b =
      let x = and_parts (bytes_eq r.namespace c.meta.namespace) (bytes_eq r.name c.meta.name) a in
      let y = and_parts (bytes_eq r.namespace d.meta.namespace) (bytes_eq r.name d.meta.name) b in
      let space : c.meta.namespace ≡ d.meta.namespace = sym ((bytes_eq-Decides r.namespace c.meta.namespace).0 x.0) ∙ (bytes_eq-Decides r.namespace d.meta.namespace).0 y.0 in
      let own : c.meta.name ≡ d.meta.name = sym ((bytes_eq-Decides r.name c.meta.name).0 x.1) ∙ (bytes_eq-Decides r.name d.meta.name).0 y.1 in
      λ i. record { kind = kinds.PersistentVolumeClaim; namespace = space i; name = own i }

  same_key : key_of (Claim c) ≡ key_of (Claim d)
  same_key = by v.claim_ref carried serves
    where
      by : (x : Option Ref) → refers_carrying x d ≡ true → ((refers_for x c && not (is_ended v.phase)) || (is_available v.phase && is_none x)) ≡ true → key_of (Claim c) ≡ key_of (Claim d)
      by None e f = absurd (true≢false (sym e))
      by (Some r) e f = named (names_claim r c) (uid_fits r.uid c) (is_ended v.phase) (is_available v.phase) refl f
        where
          named : (own fits_ ended available : Bool) → names_claim r c ≡ own → (((own && fits_) && not ended) || (available && false)) ≡ true → key_of (Claim c) ≡ key_of (Claim d)
          named true fits_ ended available is g = names_same r is (and_parts (names_claim r d) (uid_carries r.uid d) e).0
          named false fits_ ended true is g = absurd (true≢false (sym g))
          named false fits_ ended false is g = absurd (true≢false (sym g))

  held_by_none : ⊥
  held_by_none =
      let same : d ≡ c = one_claim d c (sym other_there ∙ (ap (λ k. row_at k rows) (sym same_key) ∙ claim_there)) in
      true≢false (sym (any_in (carries_claim c) (Volume v) rows (found_in (key_of (Volume v)) rows (Volume v) there) (ap (carries v) (sym same) ∙ carried)) ∙ free)
    where
      taken_out : ClaimData → Option Object → ClaimData
      taken_out x (Some (Claim y)) = y
      taken_out x o = x

      one_claim : (x y : ClaimData) → Some (Claim x) ≡ Some (Claim y) → x ≡ y
      one_claim x y e = ap (taken_out x) e

none_first : (rs : List Request) → slice_get rs 0 ≡ None → length rs ≡ 0
none_first [] e = refl
none_first (r ∷ rs) e = none_some (sym e)

no_claims : (cs : List ClaimData) → length cs ≡ 0 → cs ≡ []
no_claims [] e = refl
no_claims (c ∷ cs) e = absurd (omega (arith, e))

-- ---- the task of one pod

module _ (setup : Setup) (seat : ℕ) (p : PodData) (writes : List Request) (are : (i : ℕ) (r : Request) → slice_get writes i ≡ Some r → is_write r ≡ true) where
  abbrev key : Key
  key = key_of (Pod p)

  abbrev rows_at : List Entry → List Object
  rows_at h = (world setup h).store.rows

  abbrev next : List Entry → Request → List Entry
  next h call = own_entry setup seat seats.Scheduler h call ∷ h

  abbrev answer : List Entry → Request → Reply
  answer h call = reply_to (effect setup (world setup h) seats.Scheduler call)

  -- what the other pods may cost
  abbrev others_at : List Entry → ℕ
  others_at h = total (costs_beside key (rows_at h)) (rows_at h)

  -- behind a write that was done nothing is under way only where none is left
  ended : (place : ℕ) (call : Request) (reply : Reply) → slice_get writes place ≡ Some call → is_refused reply ≡ false → is_written reply ≡ true
      → under_after (at_call setup seat key writes place call) reply ≡ None → slice_get writes (place + 1) ≡ None
  unfolding schedule_moved schedule_call
  ended place call reply here calm done none = by (is_refused reply) (is_written reply && nat_lt place (length writes)) calm goes none
    where
      goes : (is_written reply && nat_lt place (length writes)) ≡ true
      goes =
          let within = slice_get_within writes place call here in
          let below : nat_lt place (length writes) ≡ true = grind (arith, nat_tests, within) in
          rw (done, below) refl

      found : (o : Option Request) → slice_get writes (place + 1) ≡ o
          → with_call key (tasks.Schedule (record { writes = writes; step = steps.Writes (place + 1) })) (only_write o) ≡ None → slice_get writes (place + 1) ≡ None
      found None at e = at
      found (Some r) at e = write_is (is_write r) (are (place + 1) r at) e
        where
          write_is : (b : Bool) → b ≡ true → with_call key (tasks.Schedule (record { writes = writes; step = steps.Writes (place + 1) })) (if b then
              Some r else None) ≡ None → slice_get writes (place + 1) ≡ None
          write_is true is f = none_some (sym f)
          write_is false is f = absurd (true≢false (sym is))

      by : (a b : Bool) → a ≡ false → b ≡ true
          → with_call key (tasks.Schedule (record
          { writes = writes; step = if a then steps.Parked else if b then steps.Writes (place + 1) else steps.Done }))
          (schedule_call_at writes (if a then steps.Parked else if b then steps.Writes (place + 1) else steps.Done)) ≡ None → slice_get writes (place + 1) ≡ None
      by true b f g e = absurd (true≢false f)
      by false true f g e = found (slice_get writes (place + 1)) refl e
      by false false f g e = absurd (true≢false (sym g))

  -- what stands behind a write, with these claims still to be written
  record IsAfter (h : List Entry) (call : Request) (cs : List ClaimData) : Type 0 where
    version : (world setup (next h call)).store.version ≡ (world setup h).store.version + 1
    less : others_at (next h call) ≤ others_at h
    pod : row_at key (rows_at (next h call)) ≡ Some (Pod p)
    covered : Each (IsCovered (rows_at (next h call)) p.meta.namespace cs) p.claims

  after_write : (h : List Entry) (call : Request) (c : ClaimData) (cs : List ClaimData) (new old : Object)
      → rows_at (next h call) ≡ put_row new (rows_at h) → (world setup (next h call)).store.version ≡ (world setup h).store.version + 1
      → row_at (key_of new) (rows_at h) ≡ Some old → key_of new ≢ key → ((d : ClaimData) → Stands (rows_at h) d → carries_claim d old ≡ true → ⊥)
      → ((d : ClaimData) → new ≡ Claim d → is_under_way (put_row new (rows_at h)) d ≡ true)
      → ((d : ClaimData) → row_at (key_of (Claim c)) (put_row new (rows_at h)) ≡ Some (Claim d) → is_under_way (put_row new (rows_at h)) d ≡ true) → pod_costs (put_row new (rows_at h)) new ≡ 0
      → row_at key (rows_at h) ≡ Some (Pod p) → Each (IsCovered (rows_at h) p.meta.namespace (c ∷ cs)) p.claims → IsAfter h call cs
  after_write h call c cs new old rows_are version_is there apart none written served free pod covered = record {
    version = version_is;
    less = subst (λ rows. total (costs_beside key rows) rows ≤ others_at h) (sym rows_are) (beside_falls key new old (rows_at h) (rows_stand_in_order setup h) there grows free);
    pod = ap (row_at key) rows_are ∙ (row_at-put_row_other key new (rows_at h) apart ∙ pod);
    covered = subst (λ rows. Each (IsCovered rows p.meta.namespace cs) p.claims) (sym rows_are)
        (covered_next (rows_at h) (put_row new (rows_at h)) p.meta.namespace c cs grows served p.claims covered);
  }
    where
      grows : Grows (rows_at h) (put_row new (rows_at h))
      grows = put_grows (rows_at h) new old (rows_stand_in_order setup h) there none written

  -- a write, and what comes behind it
  spends : (n : ℕ) (h : List Entry) (place : ℕ) (call : Request) (cs : List ClaimData) (rest : List Request) → others_at h + length cs + 2 ≤ n
      → slice_get writes place ≡ Some call → is_refused (answer h call) ≡ false → is_written (answer h call) ≡ true
      → AreFrom writes (place + 1) rest → length rest ≡ length cs → IsAfter h call cs
      → ((r : Request) → slice_get writes (place + 1) ≡ Some r
      → Spends setup seat (others_at (next h call) + length cs + 1) (next h call) (at_call setup seat key writes (place + 1) r)) → Spends setup seat n h (at_call setup seat key writes place call)
  spends n h place call cs rest enough here calm done from many a goes =
      EachSpends (others_at (next h call) + length cs + 1) (let v = a.version in let l = a.less in omega (arith, v, l, enough))
      (λ u e. let m = next_of setup seat key writes place call (answer h call) u e in
      subst (Spends setup seat (others_at (next h call) + length cs + 1) (next h call)) (sym m.is) (goes u.call m.there))
      (λ e. ends (ended place call (answer h call) here calm done e))
    where
      pod_few : Each (IsCovered (rows_at (next h call)) p.meta.namespace []) p.claims → pod_costs (rows_at (next h call)) (Pod p) ≤ 1
      pod_few each = by (is_scheduled p) (list_all (is_under_way (rows_at (next h call))) (claims_of (rows_at (next h call)) p)) (all_under (rows_at (next h call)) p.meta.namespace p.claims each)
        where
          by : (b under : Bool) → under ≡ true → (if b then 0 else if under then 1 else 1 + length p.claims) ≤ 1
          by true under e = omega arith
          by false true e = omega arith
          by false false e = absurd (true≢false (sym e))

      ends : slice_get writes (place + 1) ≡ None → costs_on (rows_at (next h call)) ≤ others_at (next h call) + length cs + 1
      ends none =
          let empty = none_first rest (sym (at_from writes (place + 1) rest from) ∙ none) in
          let all : cs ≡ [] = no_claims cs (sym many ∙ empty) in
          let few = pod_few (subst (λ ds. Each (IsCovered (rows_at (next h call)) p.meta.namespace ds) p.claims) all a.covered) in
          let join = costs_join key 1 (rows_at (next h call)) (rows_stand_in_order setup (next h call))
          (λ o at. subst (λ x. pod_costs (rows_at (next h call)) x ≤ 1) (one (Pod p) o (sym a.pod ∙ at)) few) in
          omega (arith, join)

  module _ (pass : ImportsPass setup.imports) (name : List ℕ) where
    -- ---- a node is written on a claim

    module _ (h : List Entry) (c : ClaimData) (there : Stands (rows_at h) c) (open_ : IsOpen c) where
      on_store : IsStored (world setup h) (Claim c)
      on_store = stored setup h (key_of (Claim c)) (Claim c) pass there

      abbrev with_node : Object
      with_node = placed setup (world setup h) name c on_store

      is_placed : effect setup (world setup h) seats.Scheduler (placing name c) ≡ OnStore (Stores Modified with_node)
      is_placed = comes_to setup (world setup h) name c on_store seats.Scheduler refl false
          (stays_there setup seat key writes pass name (world setup h) c on_store (seeking_parts c open_.seeks).staying)

      rows_placed : rows_at (next h (placing name c)) ≡ put_row with_node (rows_at h)
      unfolding world_after after log_after
      rows_placed = ap (λ (x : Effect). (world_after (world setup h) x).store.rows) is_placed

      version_placed : (world setup (next h (placing name c))).store.version ≡ (world setup h).store.version + 1
      unfolding world_after after log_after
      version_placed = ap (λ (x : Effect). (world_after (world setup h) x).store.version) is_placed

      calm_placed : is_refused (answer h (placing name c)) ≡ false
      unfolding reply_to reply_of
      calm_placed = ap (λ (x : Effect). is_refused (reply_to x)) is_placed

      done_placed : is_written (answer h (placing name c)) ≡ true
      unfolding reply_to reply_of updated_object with_meta with_status_of
      done_placed = ap (λ (x : Effect). is_written (reply_to x)) is_placed

      under_placed : is_claim_under (put_row with_node (rows_at h)) with_node ≡ true
      unfolding updated_object with_meta with_status_of
      under_placed = with_a_node (put_row with_node (rows_at h)) with_node (ap is_some (value_put selected_node name c.meta.annotations))

      after_placed : (cs : List ClaimData) → row_at key (rows_at h) ≡ Some (Pod p) → Each (IsCovered (rows_at h) p.meta.namespace (c ∷ cs)) p.claims → IsAfter h (placing name c) cs
      unfolding updated_object with_meta with_status_of
      after_placed cs pod covered =
          after_write h (placing name c) c cs with_node (Claim c) rows_placed version_placed there
          (λ e. let k = ap (λ (j : Key). kind_index j.kind) e in omega (arith, k)) (λ d stands e. true≢false (sym e)) written
          (λ d at. written d (one with_node (Claim d) (sym (row_at-put_row with_node (rows_at h)) ∙ at))) refl pod covered
        where
          written : (d : ClaimData) → with_node ≡ Claim d → is_under_way (put_row with_node (rows_at h)) d ≡ true
          written d e = ap (is_claim_under (put_row with_node (rows_at h))) (sym e) ∙ under_placed

      kept : (k : Key) → key_of (Claim c) ≢ k → row_at k (rows_at (next h (placing name c))) ≡ row_at k (rows_at h)
      kept = others_stay setup (world setup h) name c on_store seats.Scheduler refl (stays_there setup seat key writes pass name (world setup h) c on_store (seeking_parts c open_.seeks).staying)

    counted : (cs : List ClaimData) → length (map (placing name) cs) ≡ length cs
    counted [] = refl
    counted (c ∷ cs) = let rest = counted cs in omega (arith, rest)

    -- one after the other
    places : (cs : List ClaimData) (place : ℕ) (h : List Entry) → AreFrom writes place (map (placing name) cs) → Each (Stands (rows_at h)) cs
        → Each IsOpen cs → AreApart cs → row_at key (rows_at h) ≡ Some (Pod p) → Each (IsCovered (rows_at h) p.meta.namespace cs) p.claims
        → (call : Request) → slice_get writes place ≡ Some call → Spends setup seat (others_at h + length cs + 1) h (at_call setup seat key writes place call)
    places [] place h from stand open_ apart pod covered call at = none_some (sym (at_from writes place [] from) ∙ at)
    places (c ∷ cs) place h from stand open_ apart pod covered call at =
        let same = one call (placing name c) (sym at ∙ at_from writes place (map (placing name) (c ∷ cs)) from) in
        let later = later_from writes place (placing name c) (map (placing name) cs) from in
        let a = after_placed h c stand.0 open_.0 cs pod covered in
        subst (λ r. Spends setup seat (others_at h + length (c ∷ cs) + 1) h (at_call setup seat key writes place r)) (sym same)
        (spends (others_at h + length (c ∷ cs) + 1) h place (placing name c) cs (map (placing name) cs) (omega arith) (at ∙ ap Some same)
        (calm_placed h c stand.0 open_.0) (done_placed h c stand.0 open_.0) later (counted cs) a
        (λ r there. places cs (place + 1) (next h (placing name c)) later
        (still_stand (rows_at h) (rows_at (next h (placing name c))) c cs (kept h c stand.0 open_.0) apart.0 stand.1) open_.1 apart.1 a.pod a.covered r there))

    -- ---- a volume is taken for a claim

    module _ (rows : List Object) (order : AreRows rows) (n : NodeData) (nodes : List ClaimData) (nodes_stand : Each (Stands rows) nodes)
        (nodes_open : Each IsOpen nodes) (nodes_apart : AreApart nodes) where
      module _ (c : ClaimData) (v : VolumeData) (place_of : ℕ) (taken : List ℕ)
          (at : slice_get (rows_of kinds.PersistentVolume rows) place_of ≡ Some (Volume v)) (fit : eligible v c (Some n) ≡ true) (h : List Entry)
          (there : row_at (key_of (Volume v)) (rows_at h) ≡ Some (Volume v)) (claim_there : Stands (rows_at h) c) (open_ : IsOpen c) (free : has_carrier (rows_at h) c ≡ false) where
        is_taken : IsTaken setup (world setup h) v c
        is_taken = took setup seat key writes pass name rows order n nodes nodes_stand nodes_open nodes_apart c v place_of taken at fit h there claim_there open_ free

        rows_taken : rows_at (next h (write_reference v c)) ≡ put_row (Volume is_taken.new) (rows_at h)
        unfolding world_after after log_after
        rows_taken = ap (λ (x : Effect). (world_after (world setup h) x).store.rows) is_taken.is

        version_taken : (world setup (next h (write_reference v c))).store.version ≡ (world setup h).store.version + 1
        unfolding world_after after log_after
        version_taken = ap (λ (x : Effect). (world_after (world setup h) x).store.version) is_taken.is

        calm_taken : is_refused (answer h (write_reference v c)) ≡ false
        unfolding reply_to reply_of
        calm_taken = ap (λ (x : Effect). is_refused (reply_to x)) is_taken.is

        done_taken : is_written (answer h (write_reference v c)) ≡ true
        unfolding reply_to reply_of
        done_taken = ap (λ (x : Effect). is_written (reply_to x)) is_taken.is

        under_taken : is_under_way (put_row (Volume is_taken.new) (rows_at h)) c ≡ true
        under_taken =
            let uid = has_uid c.meta.uid open_.known in
            by_carrier (put_row (Volume is_taken.new) (rows_at h)) c
            (any_in (carries_claim c) (Volume is_taken.new) (put_row (Volume is_taken.new) (rows_at h))
            (found_in (key_of (Volume is_taken.new)) (put_row (Volume is_taken.new) (rows_at h)) (Volume is_taken.new) (row_at-put_row (Volume is_taken.new) (rows_at h)))
            (ap (λ r. refers_carrying r c) is_taken.refers ∙ refers_to c uid.uid uid.is))

        after_taken : (cs : List ClaimData) → row_at key (rows_at h) ≡ Some (Pod p) → Each (IsCovered (rows_at h) p.meta.namespace (c ∷ cs)) p.claims → IsAfter h (write_reference v c) cs
        after_taken cs pod covered =
            after_write h (write_reference v c) c cs (Volume is_taken.new) (Volume v) rows_taken version_taken
            (ap (λ k. row_at k (rows_at h)) is_taken.key ∙ there) (λ e. let k = ap (λ (j : Key). kind_index j.kind) e in omega (arith, k))
            (λ d stands e. held_by_none (rows_at h) v c d n fit there claim_there free stands e) (λ d e. absurd (true≢false (sym (ap is_claim e)))) served refl pod covered
          where
            same_rows : row_at (key_of (Claim c)) (put_row (Volume is_taken.new) (rows_at h)) ≡ Some (Claim c)
            same_rows = row_at-put_row_other (key_of (Claim c)) (Volume is_taken.new) (rows_at h) (λ e. let k = ap (λ (j : Key). kind_index j.kind) e in omega (arith, k)) ∙ claim_there

            served : (d : ClaimData) → row_at (key_of (Claim c)) (put_row (Volume is_taken.new) (rows_at h)) ≡ Some (Claim d) → is_under_way (put_row (Volume is_taken.new) (rows_at h)) d ≡ true
            served d e = ap (is_claim_under (put_row (Volume is_taken.new) (rows_at h))) (one (Claim d) (Claim c) (sym e ∙ same_rows)) ∙ under_taken

      many : (cs : List ClaimData) (shares : List Share) (taken : List ℕ) (shared : AreShares rows n taken cs shares) → length (refs_in rows n cs shares taken shared) ≡ length (takers_of cs shares)
      many [] [] taken shared = refl
      many [] (TakesVolume p ∷ shares) taken shared = absurd shared
      many [] (IsProvisioned ∷ shares) taken shared = absurd shared
      many (c ∷ cs) [] taken shared = absurd shared
      many (c ∷ cs) (IsProvisioned ∷ shares) taken shared = many cs shares taken shared.2
      many (c ∷ cs) (TakesVolume p ∷ shares) taken shared = let rest = many cs shares (p ∷ taken) shared.1 in omega (arith, rest)

      many_with : (cs : List ClaimData) (shares : List Share) (taken : List ℕ) (shared : AreShares rows n taken cs shares)
          → length (refs_in rows n cs shares taken shared ++ map (placing name) nodes) ≡ length (takers_of cs shares ++ nodes)
      many_with cs shares taken shared =
          let a = length-append (refs_in rows n cs shares taken shared) (map (placing name) nodes) in
          let b = length-append (takers_of cs shares) nodes in
          let m = many cs shares taken shared in
          let k = counted nodes in
          omega (arith, a, b, m, k)

      pub takes : (cs : List ClaimData) (shares : List Share) (taken : List ℕ) (shared : AreShares rows n taken cs shares) (place : ℕ)
          (h : List Entry) → IsBehind setup seat key writes pass name rows order n nodes nodes_stand nodes_open nodes_apart h taken cs
          → Each (Stands rows) cs → Each IsOpen cs → AreApart cs
          → AreFrom writes place (refs_in rows n cs shares taken shared ++ map (placing name) nodes) → row_at key (rows_at h) ≡ Some (Pod p)
          → Each (IsCovered (rows_at h) p.meta.namespace (takers_of cs shares ++ nodes)) p.claims
          → (call : Request) → slice_get writes place ≡ Some call → Spends setup seat (others_at h + length (takers_of cs shares ++ nodes) + 1) h (at_call setup seat key writes place call)
      takes [] [] taken shared place h b stand open_ apart from pod covered call at = places nodes place h from (stand_here nodes nodes_stand) nodes_open nodes_apart pod covered call at
        where
          stand_here : (cs : List ClaimData) → Each (Stands rows) cs → Each (Stands (rows_at h)) cs
          stand_here [] each = tt
          stand_here (c ∷ cs) each = (b.claims c ∙ each.0, stand_here cs each.1)
      takes [] (TakesVolume q ∷ shares) taken shared place h b stand open_ apart from pod covered call at = absurd shared
      takes [] (IsProvisioned ∷ shares) taken shared place h b stand open_ apart from pod covered call at = absurd shared
      takes (c ∷ cs) [] taken shared place h b stand open_ apart from pod covered call at = absurd shared
      takes (c ∷ cs) (IsProvisioned ∷ shares) taken shared place h b stand open_ apart from pod covered call at =
          takes cs shares taken shared.2 place h (record { claims = b.claims; volumes = b.volumes; uncarried = b.uncarried.1 }) stand.1 open_.1 apart.1 from pod covered call at
      takes (c ∷ cs) (TakesVolume q ∷ shares) taken shared place h b stand open_ apart from pod covered call at =
          let v = shared.0.volume in
          let spot = shared.0.candidate.there in
          let fit = shared.0.candidate.eligible in
          let there = b.volumes q v spot shared.0.candidate.open_to in
          let claim_there = b.claims c ∙ stand.0 in
          let free = b.uncarried.0 in
          let rest = refs_in rows n cs shares (q ∷ taken) shared.1 ++ map (placing name) nodes in
          let same = one call (write_reference v c) (sym at ∙ at_from writes place (write_reference v c ∷ rest) from) in
          let later = later_from writes place (write_reference v c) rest from in
          let a = after_taken c v q taken spot fit h there claim_there open_.0 free (takers_of cs shares ++ nodes) pod covered in
          let after_it = behind setup seat key writes pass name rows order n nodes nodes_stand nodes_open nodes_apart c v q taken spot fit h there claim_there open_.0 free cs apart.0 b in
          subst (λ r. Spends setup seat (others_at h + length (c ∷ takers_of cs shares ++ nodes) + 1) h (at_call setup seat key writes place r)) (sym same)
          (spends (others_at h + length (c ∷ takers_of cs shares ++ nodes) + 1) h place (write_reference v c) (takers_of cs shares ++ nodes) rest
          (omega arith) (at ∙ ap Some same) (calm_taken c v q taken spot fit h there claim_there open_.0 free)
          (done_taken c v q taken spot fit h there claim_there open_.0 free) later (many_with cs shares (q ∷ taken) shared.1) a
          (λ r next_there. takes cs shares (q ∷ taken) shared.1 (place + 1) (next h (write_reference v c)) after_it stand.1 open_.1 apart.1 later a.pod a.covered r next_there))
