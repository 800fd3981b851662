-- The evidence of a machine goes on with the answer to its call: a write of a volume or of a claim tells nothing of classes and nodes.
use Rattle.std.proofs.Common.{ℕ, zero, suc, ◌≡◌, ◌∙◌, ◌+◌, Bool, true, false, true≢false, ◌&&◌, List, [], ◌∷◌, drop, length, Option, Some, None, inr, refl, sym, ap, subst, arith, if◌then◌else◌}
use Rattle.std.specs.Prelude.{nat_lt}
use Rattle.std.specs.List.{AllByRecursion}
use Rattle.kube_objects.specs.declared.key.Key.{Key}
use Rattle.kube_objects.specs.declared.objects.Claim.{Claim as ClaimData}
use Rattle.kube_objects.specs.declared.objects.Volume.{Volume as VolumeData}
use Rattle.kube_objects.specs.declared.objects.Object.{Object}
use Rattle.kube_objects.specs.declared.objects.Object.TheVariants.{Class, Node, Volume, Claim, Pod}
use Rattle.kube_objects.specs.Bindings.{class_of_claim}
use Rattle.call_types.specs.declared.entry.Entry.{Entry}
use Rattle.call_types.specs.declared.request.Request.{Request}
use Rattle.call_types.specs.declared.request.Request.TheVariants as requests
use Rattle.call_types.specs.declared.reply.Reply.{Reply}
use Rattle.call_types.specs.declared.reply.Reply.TheVariants.{Done}
use Rattle.binder_model.specs.At.{IsWrittenAt}
use Rattle.binder_model.specs.BinderLicence.{MayTake}
use Rattle.binder_model.specs.ObjectKeys.{class_key, node_key}
use Rattle.binder_model.specs.SchedulerLicence.{MaySelectNode}
use Rattle.binder_model.specs.Told.{IsNewest, Telling, later, newest, object_of, tells_of, told_of}
use Rattle.model_laws.proofs.Evidence.{claim_map, told_map, volume_map}
use Rattle.pod_scheduler.specs.declared.schedule.ScheduleOp.{ScheduleOp}
use Rattle.pod_scheduler.specs.declared.schedule.ScheduleStep.{ScheduleStep}
use Rattle.pod_scheduler.specs.declared.schedule.ScheduleStep.TheVariants as steps
use Rattle.pod_scheduler.specs.Evidence.{MayUpdate, MayWrite, ScheduleKeeps, StepKeeps}
use Rattle.pod_scheduler.specs.Schedules.{is_refused, is_written, schedule_call, schedule_moved, schedule_step_after}
use Rattle.pod_scheduler.proofs.Allowed.{each_may}

-- the entry tells nothing of classes and nodes
record IsQuiet (e : Entry) : Type 0 where
  classes : (name : List ℕ) → told_of e (class_key name) ≡ None
  nodes : (name : List ℕ) → told_of e (node_key name) ≡ None

untold : (e : Entry) (key : Key) (reply : Reply) → e.reply ≡ reply → tells_of e.request reply key ≡ None → told_of e key ≡ None
untold e key reply is none = by e.told
  where
    by : (b : Bool) → (if b then tells_of e.request e.reply key else None) ≡ None
    by true = ap (λ r. tells_of e.request r key) is ∙ none
    by false = refl

written_quiet : (e : Entry) (reply : Reply) → e.reply ≡ reply → is_written reply ≡ true → IsQuiet e
written_quiet e (Done (Volume v)) is h = record { classes = λ name. untold e (class_key name) (Done (Volume v)) is refl; nodes = λ name. untold e (node_key name) (Done (Volume v)) is refl }
written_quiet e (Done (Claim c)) is h = record { classes = λ name. untold e (class_key name) (Done (Claim c)) is refl; nodes = λ name. untold e (node_key name) (Done (Claim c)) is refl }
written_quiet e _ is h = absurd (true≢false (sym h))

module _ (mine : List Entry) (e : Entry) (quiet : IsQuiet e) where
  still : (key : Key) (o : Object) → told_of e key ≡ None → IsNewest mine key o → IsNewest (e ∷ mine) key o
  still key o none is = ap (λ (t : Option Telling). object_of (later t (newest mine key))) none ∙ is

  -- each row goes on

  take_on : (o new : VolumeData) → MayTake mine o new → MayTake (e ∷ mine) o new
  take_on o new may = record { live = may.live; told = inr may.told }

  select_on : (o new : ClaimData) → MaySelectNode mine o new → MaySelectNode (e ∷ mine) o new
  select_on o new may = record {
    undone = may.undone;
    class = may.class;
    class_newest = still (class_key (class_of_claim o)) (Class may.class) (quiet.classes (class_of_claim o)) may.class_newest;
    delayed = may.delayed;
    node = may.node;
    node_newest = still (node_key may.node.meta.name) (Node may.node) (quiet.nodes may.node.meta.name) may.node_newest;
    change = may.change;
  }

  volume_on : (new : VolumeData) (given : Option ℕ) → MayUpdate mine (requests.Update (Volume new) given) → MayUpdate (e ∷ mine) (requests.Update (Volume new) given)
  volume_on new given may =
      inr (told_map (volume_map {P = λ o. IsWrittenAt given new.meta.namespace new.meta.name o.meta × MayTake mine o new}
      {Q = λ o. IsWrittenAt given new.meta.namespace new.meta.name o.meta × MayTake (e ∷ mine) o new} (λ o h. (h.0, take_on o new h.1))) mine may)

  claim_on : (new : ClaimData) (given : Option ℕ) → MayUpdate mine (requests.Update (Claim new) given) → MayUpdate (e ∷ mine) (requests.Update (Claim new) given)
  claim_on new given may =
      inr (told_map (claim_map {P = λ o. IsWrittenAt given new.meta.namespace new.meta.name o.meta × MaySelectNode mine o new}
      {Q = λ o. IsWrittenAt given new.meta.namespace new.meta.name o.meta × MaySelectNode (e ∷ mine) o new} (λ o h. (h.0, select_on o new h.1))) mine may)

  update_on : (w : Request) → MayUpdate mine w → MayUpdate (e ∷ mine) w
  update_on (requests.Update (Volume new) given) may = volume_on new given may
  update_on (requests.Update (Claim new) given) may = claim_on new given may
  update_on (requests.Update (Class new) given) may = absurd may
  update_on (requests.Update (Node new) given) may = absurd may
  update_on (requests.Update (Pod new) given) may = absurd may
  update_on _ may = absurd may

  each_on : (writes : List Request) → AllByRecursion (MayUpdate mine) writes → AllByRecursion (MayUpdate (e ∷ mine)) writes
  each_on [] may = tt
  each_on (w ∷ writes) may = (update_on w may.0, each_on writes may.1)

-- the writes after the next one
rest_may : (mine : List Entry) (writes : List Request) (place : ℕ) → MayWrite mine (drop place writes) → AllByRecursion (MayUpdate mine) (drop (suc place) writes)
rest_may mine [] zero may = tt
rest_may mine [] (suc place) may = tt
rest_may mine (w ∷ writes) zero may = may.1
rest_may mine (w ∷ writes) (suc place) may = rest_may mine writes place may

next_place : (place : ℕ) → suc place ≡ place + 1
next_place place = omega arith

module _ (writes : List Request) (place : ℕ) (mine : List Entry) (e : Entry) (kept : MayWrite mine (drop place writes)) where
  written : is_written e.reply ≡ true → MayWrite (e ∷ mine) (drop (place + 1) writes)
  written h =
      let rest : AllByRecursion (MayUpdate mine) (drop (place + 1) writes) = subst (λ n. AllByRecursion (MayUpdate mine) (drop n writes)) (next_place place) (rest_may mine writes place kept) in
      each_may (e ∷ mine) (drop (place + 1) writes) (each_on mine e (written_quiet e e.reply refl h) (drop (place + 1) writes) rest)

  write_goes_on : (refused done more : Bool) → is_written e.reply ≡ done → StepKeeps (if refused then steps.Parked else if done && more then steps.Writes (place + 1) else steps.Done) writes (e ∷ mine)
  write_goes_on true done more h = tt
  write_goes_on false true true h = written h
  write_goes_on false true false h = tt
  write_goes_on false false more h = tt

step_goes_on : (step : ScheduleStep) (writes : List Request) (mine : List Entry) (e : Entry) → StepKeeps step writes mine → StepKeeps (schedule_step_after writes step e.reply) writes (e ∷ mine)
step_goes_on (steps.Writes place) writes mine e kept = write_goes_on writes place mine e kept (is_refused e.reply) (is_written e.reply) (nat_lt place (length writes)) refl
step_goes_on steps.Done writes mine e kept = tt
step_goes_on steps.Parked writes mine e kept = tt

pub evidence_goes_on : (op : ScheduleOp) (mine : List Entry) (e : Entry) → ScheduleKeeps op mine → schedule_call op ≡ Some e.request → e.told ≡ true
    → ScheduleKeeps (schedule_moved op e.reply) (e ∷ mine)
unfolding schedule_moved
evidence_goes_on op mine e kept call told = step_goes_on op.step op.writes mine e kept
