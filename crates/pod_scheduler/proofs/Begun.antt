-- There is one decision; what begins has its evidence, where the look-up shows what was told newest, and it has a next call.
use Rattle.std.proofs.Common.{ℕ, ◌≡◌, ◌∙◌, Bool, true, false, true≢false, ◌&&◌, List, [], ◌∷◌, filter_map, Option, Some, None, refl, sym, ap, subst, if◌then◌else◌}
use Rattle.std.specs.Prelude.{is_some, ⊤}
use Rattle.std.specs.List.{AllByRecursion, cons_option, list_all}
use Rattle.kube_parts.specs.declared.uid.Uid.{Uid}
use Rattle.kube_objects.specs.declared.key.Key.{Key}
use Rattle.kube_objects.specs.declared.objects.Claim.{Claim as ClaimData}
use Rattle.kube_objects.specs.declared.objects.Pod.{Pod as PodData}
use Rattle.kube_objects.specs.declared.objects.Object.{Object}
use Rattle.kube_objects.specs.declared.objects.Object.TheVariants.{Class, Node, Volume, Claim, Pod}
use Rattle.kube_objects.specs.Bindings.{is_scheduled}
use Rattle.kube_objects.specs.Keys.{AreRows, key_of, row_at}
use Rattle.kube_objects.proofs.KeyOrder.{row_at_key}
use Rattle.call_types.specs.declared.entry.Entry.{Entry}
use Rattle.call_types.specs.declared.request.Request.{Request}
use Rattle.call_types.specs.declared.request.Request.TheVariants as requests
use Rattle.call_types.specs.declared.request.SeatKind.TheVariants.{Scheduler}
use Rattle.binder_model.specs.Choice.{claim_named, claims_of}
use Rattle.call_types.specs.declared.request.SeatKind.TheVariants as seats
use Rattle.binder_model.specs.Licence.{AreOfKind, RowAllows}
use Rattle.informer_cache.specs.All.{all_objects}
use Rattle.model_laws.proofs.Lists.{none_some, one}
use Rattle.delayed_binding.specs.declared.choice.Choice.{Choice}
use Rattle.delayed_binding.specs.declared.choice.Choice.TheVariants.{Assign, Prepare, Wait, NoNode}
use Rattle.delayed_binding.specs.Choices.{IsChoice}
use Rattle.delayed_binding.specs.WriteLaw.{ShowsNewest, is_known}
use Rattle.delayed_binding.specs.Writes.{prepare_write, writes_of}
use Rattle.delayed_binding.proofs.Allowed.{assigned_pods_are_allowed, chosen_writes_are_allowed}
use Rattle.delayed_binding.proofs.Unique.{choices_are_unique}
use Rattle.pod_scheduler.specs.declared.schedule.ScheduleOp.{ScheduleOp}
use Rattle.pod_scheduler.specs.declared.tries.Tried.{Tried}
use Rattle.pod_scheduler.specs.BeginLaw.{BegunSchedulesHaveCalls, DecisionsAreUnique, DecisionsKeep}
use Rattle.pod_scheduler.specs.Decisions.{BeginsFor, BeginsIf, BeginsOn, are_known, begun_with, binding, is_known_in, last_refused, present, writes_for}
use Rattle.pod_scheduler.specs.Evidence.{MayUpdate, MayWrite, ScheduleKeeps}
use Rattle.pod_scheduler.specs.Schedules.{is_write, schedule_call}
use Rattle.pod_scheduler.proofs.Allowed.{each_may}
use Rattle.pod_scheduler.proofs.Present.{each_present, is_update, writes_are_updates}

-- one decision

for_one : (rows : List Object) (refused : List Tried) (p : PodData) (a b : Option ScheduleOp) → AreRows rows → BeginsFor rows refused p a → BeginsFor rows refused p b → a ≡ b
for_one rows refused p a b order f g =
    f.begins ∙ (ap (λ c. begun_with (writes_for rows p c)) (choices_are_unique rows p (last_refused rows p refused) f.choice g.choice order f.chosen g.chosen) ∙ sym g.begins)

if_one : (scheduled : Bool) (rows : List Object) (refused : List Tried) (p : PodData) (a b : Option ScheduleOp) → AreRows rows
    → BeginsIf scheduled rows refused p a → BeginsIf scheduled rows refused p b → a ≡ b
if_one true rows refused p a b order f g = f ∙ sym g
if_one false rows refused p a b order f g = for_one rows refused p a b order f g

pub decisions_are_unique : DecisionsAreUnique
decisions_are_unique rows refused (Some (Pod p)) a b order f g = if_one (is_scheduled p) rows refused p a b order f g
decisions_are_unique rows refused (Some (Class x)) a b order f g = f ∙ sym g
decisions_are_unique rows refused (Some (Node x)) a b order f g = f ∙ sym g
decisions_are_unique rows refused (Some (Volume x)) a b order f g = f ∙ sym g
decisions_are_unique rows refused (Some (Claim x)) a b order f g = f ∙ sym g
decisions_are_unique rows refused None a b order f g = f ∙ sym g

-- a machine begins on a pod that no node runs

pub record BeginsPod (rows : List Object) (refused : List Tried) (row : Option Object) (op : ScheduleOp) : Type 0 where
  pub pod : PodData
  pub is : row ≡ Some (Pod pod)
  pub unscheduled : is_scheduled pod ≡ false
  pub begins : BeginsFor rows refused pod (Some op)

begins_pod : (rows : List Object) (refused : List Tried) (row : Option Object) (op : ScheduleOp) → BeginsOn rows refused row (Some op) → BeginsPod rows refused row op
begins_pod rows refused (Some (Pod p)) op b = by (is_scheduled p) refl b
  where
    by : (scheduled : Bool) → is_scheduled p ≡ scheduled → BeginsIf scheduled rows refused p (Some op) → BeginsPod rows refused (Some (Pod p)) op
    by true is b = none_some (sym b)
    by false is b = record { pod = p; is = refl; unscheduled = is; begins = b }
begins_pod rows refused (Some (Class x)) op b = none_some (sym b)
begins_pod rows refused (Some (Node x)) op b = none_some (sym b)
begins_pod rows refused (Some (Volume x)) op b = none_some (sym b)
begins_pod rows refused (Some (Claim x)) op b = none_some (sym b)
begins_pod rows refused None op b = none_some (sym b)

-- the writes of the choice are there, each of one kind

-- what holds of the writes of a choice holds of what begins: of the binding of the pod, or of each write that prepares a node
module _ (rows : List Object) (p : PodData) (G : List Request → Type 0) (none : G []) where
  writes_by : (choice : Choice)
      → ((uid : Uid) (name : List ℕ) → choice ≡ Assign name → p.meta.uid ≡ Some uid → G (requests.BindPod (key_of (Pod p)) uid name ∷ []))
      → (are_known rows p ≡ true → G (present (writes_of rows choice)))
      → G (writes_for rows p choice)
  writes_by (Assign name) assign prepare = by p.meta.uid refl
    where
      by : (u : Option Uid) → p.meta.uid ≡ u → G (binding p u name)
      by None is = none
      by (Some uid) is = assign uid name refl is
  writes_by (Prepare node bs ps) assign prepare = by (are_known rows p) refl
    where
      by : (b : Bool) → are_known rows p ≡ b → G (if b then present (writes_of rows (Prepare node bs ps)) else [])
      by true is = prepare is
      by false is = none
  writes_by Wait assign prepare = none
  writes_by NoNode assign prepare = none

-- each claim of the pod has its UID
known_names : (rows : List Object) (namespace : List ℕ) (names : List (List ℕ))
    → list_all (λ name. is_known_in (claim_named rows namespace name)) names ≡ true → list_all is_known (filter_map (claim_named rows namespace) names) ≡ true
known_names rows namespace [] e = refl
known_names rows namespace (name ∷ names) e = by (claim_named rows namespace name) e (known_names rows namespace names)
  where
    both : (a b : Bool) {r : Bool} → (a && b) ≡ true → (b ≡ true → r ≡ true) → (a && r) ≡ true
    both true b h f = f h
    both false b h f = h

    by : (o : Option ClaimData) → (is_known_in o && list_all (λ x. is_known_in (claim_named rows namespace x)) names) ≡ true
        → (list_all (λ x. is_known_in (claim_named rows namespace x)) names ≡ true → list_all is_known (filter_map (claim_named rows namespace) names) ≡ true)
        → list_all is_known (cons_option o (filter_map (claim_named rows namespace) names)) ≡ true
    by None h f = f h
    by (Some c) h f = both (is_some c.meta.uid) (list_all (λ x. is_known_in (claim_named rows namespace x)) names) h f

pub all_known : (rows : List Object) (p : PodData) → are_known rows p ≡ true → list_all is_known (claims_of rows p) ≡ true
all_known rows p e = known_names rows p.meta.namespace p.claims e

-- the evidence

update_of : (mine : List Entry) (w : Request) → is_update w ≡ true → RowAllows seats.Scheduler mine w → MayUpdate mine w
update_of mine (requests.Update new given) h may = may
update_of mine _ h may = absurd (true≢false (sym h))

kept : (mine : List Entry) (writes : List Request) (op : ScheduleOp) → Some op ≡ begun_with writes → MayWrite mine writes → ScheduleKeeps op mine
kept mine [] op e may = none_some (sym e)
kept mine (w ∷ writes) op e may = subst (λ (x : ScheduleOp). ScheduleKeeps x mine) (sym (one op _ e)) may

module _ (rows : List Object) (mine : List Entry) (shows : ShowsNewest rows mine) (order : AreRows rows) (own : AreOfKind Scheduler mine)
    (p : PodData) (at : row_at (key_of (Pod p)) rows ≡ Some (Pod p)) (unscheduled : is_scheduled p ≡ false) (last : Option (List ℕ)) where
  bind_may : (uid : Uid) (name : List ℕ) → p.meta.uid ≡ Some uid → IsChoice rows p last (Assign name) → MayWrite mine (requests.BindPod (key_of (Pod p)) uid name ∷ [])
  bind_may uid name same f = ((assigned_pods_are_allowed rows (key_of (Pod p)) p uid last name mine at same unscheduled f shows own).1, tt)

  prepare_may : (choice : Choice) → IsChoice rows p last choice → are_known rows p ≡ true → MayWrite mine (present (writes_of rows choice))
  unfolding prepare_write
  prepare_may choice f known =
      each_may mine (present (writes_of rows choice)) (each_present (writes_of rows choice)
      (λ n w e. update_of mine w (writes_are_updates rows choice n w e) (chosen_writes_are_allowed rows p last choice n mine w order (all_known rows p known) f shows own e).1))

  writes_may : (choice : Choice) → IsChoice rows p last choice → MayWrite mine (writes_for rows p choice)
  writes_may choice f =
      writes_by rows p (MayWrite mine) tt choice (λ uid name is same. bind_may uid name same (subst (IsChoice rows p last) is f)) (prepare_may choice f)

pub decisions_keep : DecisionsKeep
decisions_keep caches mine refused key op stand order own begins =
    let rows = all_objects caches in
    let b = begins_pod rows refused (row_at key rows) op begins in
    let at : row_at (key_of (Pod b.pod)) rows ≡ Some (Pod b.pod) = ap (λ (k : Key). row_at k rows) (row_at_key key (Pod b.pod) rows b.is) ∙ b.is in
    kept mine (writes_for rows b.pod b.begins.choice) op b.begins.begins
    (writes_may rows mine stand.rows order own b.pod at b.unscheduled (last_refused rows b.pod refused) b.begins.choice b.begins.chosen)

-- the next call

-- the first of them is a write
abbrev IsFirstWrite : List Request → Type 0
IsFirstWrite [] = ⊤
IsFirstWrite (w ∷ writes) = is_write w ≡ true

update_is_write : (w : Request) → is_update w ≡ true → is_write w ≡ true
update_is_write (requests.Update new given) h = refl
update_is_write _ h = absurd (true≢false (sym h))

first_write : (writes : List Request) → AllByRecursion (λ w. is_update w ≡ true) writes → IsFirstWrite writes
first_write [] h = tt
first_write (w ∷ writes) h = update_is_write w h.0

calls : (writes : List Request) (op : ScheduleOp) → Some op ≡ begun_with writes → IsFirstWrite writes → is_some (schedule_call op) ≡ true
unfolding schedule_call
calls [] op e h = none_some (sym e)
calls (w ∷ writes) op e h = subst (λ (x : ScheduleOp). is_some (schedule_call x) ≡ true) (sym (one op _ e)) (ap (λ b. is_some (if b then Some w else None)) h)

pub begun_have_calls : BegunSchedulesHaveCalls
begun_have_calls rows refused row op begins =
    let b = begins_pod rows refused row op begins in
    let first = writes_by rows b.pod IsFirstWrite tt b.begins.choice (λ uid name is same. refl)
    (λ known. first_write (present (writes_of rows b.begins.choice)) (each_present (writes_of rows b.begins.choice) (writes_are_updates rows b.begins.choice))) in
    calls (writes_for rows b.pod b.begins.choice) op b.begins.begins first
