-- What the provisioner and reclaimer decides as an actor, what answers make of what it has under way, and which kinds it lists before
-- it decides: cases that the definitions give, and cases beside them that they do not. A choice of this project, as the actors are.
use Rattle.std.specs.Prelude.{ℕ, ◌≡◌, true, false, List, [], ◌∷◌, Option, Some, None, codes}
use Rattle.kube_objects.specs.declared.key.Key.{Key}
use Rattle.kube_parts.specs.declared.parts.Kind.{Kind}
use Rattle.kube_parts.specs.declared.parts.Kind.TheVariants as kinds
use Rattle.kube_parts.specs.declared.parts.VolumePhase.TheVariants as phases
use Rattle.kube_objects.specs.declared.objects.Object.{Object}
use Rattle.kube_objects.specs.declared.objects.Object.TheVariants.{Class, Node, Volume, Claim}
use Rattle.call_types.specs.declared.request.NewStatus.TheVariants as statuses
use Rattle.call_types.specs.declared.request.Request.{Request}
use Rattle.call_types.specs.declared.request.Request.TheVariants as requests
use Rattle.call_types.specs.declared.request.SeatKind.{SeatKind}
use Rattle.call_types.specs.declared.request.SeatKind.TheVariants as seats
use Rattle.call_types.specs.declared.reply.Refusal.TheVariants.{BackFault, Exhausted}
use Rattle.call_types.specs.declared.reply.Reply.{Reply}
use Rattle.call_types.specs.declared.reply.Reply.TheVariants as replies
use Rattle.binder_machines.specs.declared.machine.Machine.TheVariants as machines
use Rattle.binder_model.specs.ObjectKeys.{class_key}
use Rattle.informer_cache.specs.All.{AllKnown}
use Rattle.informer_cache.specs.Cache.{Known}
use Rattle.model_examples.specs.OpsRows.{ask_at_once, ask_on_node, deleting_c, id_1, make}
use Rattle.model_examples.specs.Reclaiming.{uid_a}
use Rattle.model_examples.specs.Samples.{a, c, chosen_c, ended_a, failed_a, fast, id_a, key_a, key_c, late, n1, released_a, still_bound_a, uid_c, zone}
use Rattle.reclaim_ops.specs.declared.erase.EraseStep.{EraseStep}
use Rattle.reclaim_ops.specs.declared.erase.EraseStep.TheVariants as erasing
use Rattle.reclaim_ops.specs.declared.provision.ProvisionStep.{ProvisionStep}
use Rattle.reclaim_ops.specs.declared.provision.ProvisionStep.TheVariants as providing
use Rattle.reclaim_ops.specs.Decisions.{at_step}
use Rattle.worker_core.specs.declared.role.Role.{Role}
use Rattle.worker_core.specs.declared.task.First.{First}
use Rattle.worker_core.specs.declared.task.First.TheVariants as firsts
use Rattle.worker_core.specs.declared.task.Task.{Task}
use Rattle.worker_core.specs.declared.task.Task.TheVariants as tasks
use Rattle.worker_core.specs.declared.task.Under.{Under}
use Rattle.worker_core.specs.declared.turn.Next.{Next}
use Rattle.worker_core.specs.declared.turn.Next.TheVariants as nexts
use Rattle.worker_core.specs.Memories.{no_memory}
use Rattle.worker_core.specs.Roles.{kinds_of}
use Rattle.worker_core.specs.States.{ActorState}
use Rattle.worker_core.specs.Tasks.{IsDecision, task_parks, under_after}
use Rattle.worker_core.specs.Turns.{IsTurn, first_unlisted}

-- a claim's machine under a class that provisions at once, one under a class that waits for a node, and a volume's, at a step

abbrev pub for_c : ProvisionStep → Task
for_c step = tasks.Provision (at_step c uid_c fast step)

abbrev pub on_node : ProvisionStep → Task
on_node step = tasks.Provision (at_step chosen_c uid_c late step)

abbrev pub of_a : EraseStep → Task
of_a step = tasks.Erase (record { volume = ended_a; step = step })

-- its decisions

abbrev pub role_of : SeatKind → Role
role_of kind = record { kind = kind; node = [] }

-- where the caches of an actor of this kind have these rows, this is the decision on the key
abbrev pub Decides : SeatKind → List Object → Key → First → Type 0
Decides kind rows key first = IsDecision (role_of kind) no_memory rows key first

pub record OpsDecisionExamples : Type 0 where
  pub claim_is_provisioned : Decides seats.Ops (Class fast ∷ Claim c ∷ []) key_c (firsts.Begins (for_c (providing.Provisions None)))
  pub it_is_not_left : Decides seats.Ops (Class fast ∷ Claim c ∷ []) key_c firsts.Drops → ⊥
  pub no_volume_is_made_before : Decides seats.Ops (Class fast ∷ Claim c ∷ []) key_c (firsts.Begins (for_c (providing.Creates id_1 None))) → ⊥
  pub deleting_claim_is_left : Decides seats.Ops (Class fast ∷ Claim deleting_c ∷ []) key_c firsts.Drops
  pub claim_without_its_class_is_left : Decides seats.Ops (Claim c ∷ []) key_c firsts.Drops
  pub claim_with_a_match_is_left : Decides seats.Ops (Class fast ∷ Volume a ∷ Claim c ∷ []) key_c firsts.Drops
  pub delayed_claim_waits_for_its_node : Decides seats.Ops (Class late ∷ Node n1 ∷ Claim c ∷ []) key_c firsts.Drops
  pub it_is_provisioned_on_its_node : Decides seats.Ops (Class late ∷ Node n1 ∷ Claim chosen_c ∷ []) key_c (firsts.Begins (on_node (providing.Provisions (Some zone))))
  pub absent_node_is_taken_back : Decides seats.Ops (Class late ∷ Claim chosen_c ∷ []) key_c (firsts.Begins (on_node providing.ClearsNode))
  pub ended_volume_is_read : Decides seats.Ops (Volume ended_a ∷ []) key_a (firsts.Begins (of_a erasing.ReadsVolume))
  pub its_data_are_not_erased_unread : Decides seats.Ops (Volume ended_a ∷ []) key_a (firsts.Begins (of_a (erasing.Erases uid_a))) → ⊥
  pub volume_to_be_kept_is_left : Decides seats.Ops (Volume released_a ∷ []) key_a firsts.Drops
  pub bound_volume_is_left : Decides seats.Ops (Volume still_bound_a ∷ []) key_a firsts.Drops
  pub class_is_left : Decides seats.Ops (Class fast ∷ Claim c ∷ []) (class_key (codes "slow")) firsts.Drops
  pub absent_volume_is_left : Decides seats.Ops [] key_a firsts.Drops
  pub no_other_key_is_queued : Decides seats.Ops (Volume ended_a ∷ Claim c ∷ []) key_a (firsts.Queues key_c) → ⊥
  pub it_binds_nothing : Decides seats.Ops (Class fast ∷ Volume a ∷ Claim c ∷ []) key_c (firsts.Begins (tasks.Binder (machines.Binds a c))) → ⊥
  pub binder_provisions_nothing : Decides seats.Binder (Class fast ∷ Claim c ∷ []) key_c (firsts.Begins (for_c (providing.Provisions None))) → ⊥
  pub binder_reclaims_nothing : Decides seats.Binder (Volume ended_a ∷ []) key_a (firsts.Begins (of_a erasing.ReadsVolume)) → ⊥

-- its moves

abbrev pub under : Key → Task → Request → Under
under key task call = record { key = key; task = task; call = call }

abbrev pub asking_for_c : Under
asking_for_c = under key_c (for_c (providing.Provisions None)) ask_at_once

abbrev pub asking_on_node : Under
asking_on_node = under key_c (on_node (providing.Provisions (Some zone))) ask_on_node

abbrev pub reading_a : Under
reading_a = under key_a (of_a erasing.ReadsVolume) (requests.Get key_a)

abbrev pub erasing_a : Under
erasing_a = under key_a (of_a (erasing.Erases uid_a)) (requests.Erase id_a)

abbrev pub deleting_a : Under
deleting_a = under key_a (of_a (erasing.Deletes uid_a)) (requests.Delete key_a (Some uid_a))

abbrev pub failing_a : Under
failing_a = under key_a (of_a erasing.WritesFailed) (requests.UpdateStatus key_a (statuses.Volume phases.Failed) (Some 8))

abbrev pub faulty : Reply
faulty = replies.Refused (BackFault 1)

abbrev pub exhausted : Reply
exhausted = replies.Refused (Exhausted 0)

pub record OpsMoveExamples : Type 0 where
  pub given_data_get_a_volume : under_after asking_for_c (replies.Provisioned id_1 None) ≡ Some (under key_c (for_c (providing.Creates id_1 None)) (make id_1 None))
  pub made_volume_is_the_end : under_after (under key_c (for_c (providing.Creates id_1 None)) (make id_1 None)) (replies.Done (Volume a)) ≡ None
  pub its_key_is_not_parked : task_parks (for_c (providing.Creates id_1 None)) (replies.Done (Volume a)) ≡ false
  pub fault_is_the_end : under_after asking_for_c faulty ≡ None
  pub key_of_the_fault_is_parked : task_parks (for_c (providing.Provisions None)) faulty ≡ true
  pub exhausted_at_once_parks : task_parks (for_c (providing.Provisions None)) exhausted ≡ true
  pub exhausted_node_is_taken_back : under_after asking_on_node exhausted ≡ Some (under key_c (on_node providing.ClearsNode) (requests.Update (Claim c) (Some 2)))
  pub its_key_is_not_parked_yet : task_parks (on_node (providing.Provisions (Some zone))) exhausted ≡ false
  pub found_volume_has_its_data_erased : under_after reading_a (replies.Found (Volume ended_a)) ≡ Some erasing_a
  pub volume_found_bound_is_left : under_after reading_a (replies.Found (Volume still_bound_a)) ≡ None
  pub its_key_is_done : task_parks (of_a erasing.ReadsVolume) (replies.Found (Volume still_bound_a)) ≡ false
  pub erased_volume_is_deleted : under_after erasing_a (replies.Erased true) ≡ Some deleting_a
  pub failed_erase_is_written : under_after erasing_a faulty ≡ Some failing_a
  pub it_deletes_nothing : under_after erasing_a faulty ≡ Some deleting_a → ⊥
  pub written_fault_is_the_end : under_after failing_a (replies.Done (Volume failed_a)) ≡ None
  pub it_is_not_parked : task_parks (of_a erasing.WritesFailed) (replies.Done (Volume failed_a)) ≡ false

-- what it lists

abbrev pub known : Kind → List Object → Option ℕ → Known
known kind objects from = record { rows = record { kind = kind; marks = []; objects = objects }; lists = record { whole = from; spaces = [] }; from = from }

-- the class and the claim are known, and the nodes as far as they were listed
abbrev pub knows : Option ℕ → AllKnown
knows nodes = record {
  classes = known kinds.StorageClass (Class fast ∷ []) (Some 9);
  nodes = known kinds.Node [] nodes;
  volumes = known kinds.PersistentVolume [] (Some 9);
  claims = known kinds.PersistentVolumeClaim (Claim c ∷ []) (Some 9);
  pods = known kinds.Pod [] None;
}

-- with these caches and nothing under way each turn gives this answer
abbrev pub Answers : AllKnown → Next → Type 0
Answers caches answer = (s new : ActorState) (given : Next) → s.role ≡ role_of seats.Ops → s.memory ≡ no_memory → s.under ≡ None → s.caches ≡ caches → IsTurn s new given → given ≡ answer

pub record OpsListExamples : Type 0 where
  pub nodes_are_still_to_be_listed : first_unlisted (knows None) (kinds_of seats.Ops) ≡ Some kinds.Node
  pub not_of_a_binder : first_unlisted (knows None) (kinds_of seats.Binder) ≡ None
  pub no_key_is_decided_before : Answers (knows None) (nexts.Call (requests.List kinds.Node None))
  pub then_each_kind_is_listed : first_unlisted (knows (Some 9)) (kinds_of seats.Ops) ≡ None
