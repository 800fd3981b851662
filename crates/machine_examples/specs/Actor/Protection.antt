-- What the protection controllers decide as actors, and what answers make of what they have under way: cases that the
-- definitions give, and cases beside them that they do not. A choice of this project, as the actors are.
use Rattle.std.specs.Prelude.{◌≡◌, true, false, codes, List, [], ◌∷◌, Some, None}
use Rattle.kube_objects.specs.declared.key.Key.{Key}
use Rattle.kube_parts.specs.declared.parts.Kind.TheVariants as kinds
use Rattle.kube_objects.specs.declared.objects.Claim.{Claim as ClaimData}
use Rattle.kube_objects.specs.declared.objects.Volume.{Volume as VolumeData}
use Rattle.kube_objects.specs.declared.objects.Object.{Object}
use Rattle.kube_objects.specs.declared.objects.Object.TheVariants.{Volume, Claim, Pod}
use Rattle.call_types.specs.declared.request.Request.{Request}
use Rattle.call_types.specs.declared.request.Request.TheVariants as requests
use Rattle.call_types.specs.declared.request.SeatKind.{SeatKind}
use Rattle.call_types.specs.declared.request.SeatKind.TheVariants as seats
use Rattle.call_types.specs.declared.reply.Refusal.TheVariants.{Conflict}
use Rattle.call_types.specs.declared.reply.Reply.{Reply}
use Rattle.call_types.specs.declared.reply.Reply.TheVariants as replies
use Rattle.binder_machines.specs.declared.machine.Machine.TheVariants as machines
use Rattle.protect_sync.specs.declared.claims.ClaimGuardStep.{ClaimGuardStep}
use Rattle.protect_sync.specs.declared.claims.ClaimGuardStep.TheVariants as claims
use Rattle.protect_sync.specs.declared.volumes.VolumeGuardStep.{VolumeGuardStep}
use Rattle.protect_sync.specs.declared.volumes.VolumeGuardStep.TheVariants as volumes
use Rattle.model_examples.specs.ProtectionRows.{bare_a, bare_c, guarded_a, leaving_a, leaving_c, loose_a, loose_c, put_claim, put_volume}
use Rattle.model_examples.specs.Samples.{a, c, key_a, key_c, leaving_bound_a, p}
use Rattle.worker_core.specs.declared.task.First.{First}
use Rattle.worker_core.specs.declared.task.First.TheVariants as firsts
use Rattle.worker_core.specs.declared.task.Task.{Task}
use Rattle.worker_core.specs.declared.task.Task.TheVariants as tasks
use Rattle.worker_core.specs.declared.task.Under.{Under}
use Rattle.worker_core.specs.Memories.{no_memory}
use Rattle.worker_core.specs.Roles.{IsBuiltKind}
use Rattle.worker_core.specs.Tasks.{IsDecision, task_parks, under_after}

-- a claim's and a volume's machine at a step

abbrev pub on_claim : ClaimGuardStep → ClaimData → Task
on_claim step x = tasks.ClaimProtect (record { claim = x; step = step })

abbrev pub on_volume : VolumeGuardStep → VolumeData → Task
on_volume step v = tasks.VolumeProtect (record { volume = v; step = step })

-- where the caches of an actor of this kind have these rows, this is the decision on the key
abbrev pub Decides : SeatKind → List Object → Key → First → Type 0
Decides kind rows key first = IsDecision (record { kind = kind; node = [] }) no_memory rows key first

pub record ProtectionDecisionExamples : Type 0 where
  pub bare_claim_gets_it : Decides seats.ClaimProtect (Claim bare_c ∷ []) key_c (firsts.Begins (on_claim claims.Adds bare_c))
  pub it_is_not_left : Decides seats.ClaimProtect (Claim bare_c ∷ []) key_c firsts.Drops → ⊥
  pub guarded_claim_is_left : Decides seats.ClaimProtect (Claim c ∷ []) key_c firsts.Drops
  pub leaving_claim_has_its_pods_listed : Decides seats.ClaimProtect (Claim leaving_c ∷ []) key_c (firsts.Begins (on_claim claims.ListsPods leaving_c))
  pub it_loses_nothing_before : Decides seats.ClaimProtect (Claim leaving_c ∷ []) key_c (firsts.Begins (on_claim claims.Drops leaving_c)) → ⊥
  pub leaving_claim_in_use_is_left : Decides seats.ClaimProtect (Claim leaving_c ∷ Pod p ∷ []) key_c firsts.Drops
  pub it_binds_nothing : Decides seats.ClaimProtect (Volume a ∷ Claim c ∷ []) key_c (firsts.Begins (tasks.Binder (machines.Binds a c))) → ⊥
  pub no_other_key_is_queued : Decides seats.VolumeProtect (Volume bare_a ∷ []) key_a (firsts.Queues key_c) → ⊥
  pub bare_volume_gets_it : Decides seats.VolumeProtect (Volume bare_a ∷ []) key_a (firsts.Begins (on_volume volumes.Adds bare_a))
  pub leaving_volume_loses_it : Decides seats.VolumeProtect (Volume leaving_a ∷ []) key_a (firsts.Begins (on_volume volumes.Drops leaving_a))
  pub leaving_bound_volume_is_left : Decides seats.VolumeProtect (Volume leaving_bound_a ∷ []) key_a firsts.Drops
  pub binder_adds_none : Decides seats.Binder (Claim bare_c ∷ []) key_c (firsts.Begins (on_claim claims.Adds bare_c)) → ⊥
  pub user_decides_nothing : Decides seats.User (Claim c ∷ []) key_c firsts.Drops → ⊥

-- what is under way for a key
abbrev pub under : Key → Task → Request → Under
under key task call = record { key = key; task = task; call = call }

abbrev pub pods_of_default : Request
pods_of_default = requests.List kinds.Pod (Some (codes "default"))

-- the pods are to be listed, or were listed
abbrev pub listing_for_c : Under
listing_for_c = under key_c (on_claim claims.ListsPods leaving_c) pods_of_default

abbrev pub dropping_from_c : Under
dropping_from_c = under key_c (on_claim claims.Drops leaving_c) (put_claim loose_c 6)

-- the write was refused, as it was decided on an older version
abbrev pub stale : Reply
stale = replies.Refused (Conflict 9)

pub record ProtectionMoveExamples : Type 0 where
  pub no_pod_drops_it : under_after listing_for_c (replies.Listed [] 9) ≡ Some dropping_from_c
  pub pod_that_uses_it_ends_it : under_after listing_for_c (replies.Listed (Pod p ∷ []) 9) ≡ None
  pub its_key_is_not_parked : task_parks (on_claim claims.ListsPods leaving_c) (replies.Listed (Pod p ∷ []) 9) ≡ false
  pub refused_list_ends_it : under_after listing_for_c stale ≡ None
  pub its_key_is_parked : task_parks (on_claim claims.ListsPods leaving_c) stale ≡ true
  pub dropped_is_the_end : under_after dropping_from_c (replies.Left (Claim loose_c)) ≡ None
  pub dropped_is_not_parked : task_parks (on_claim claims.Drops leaving_c) (replies.Left (Claim loose_c)) ≡ false
  pub added_is_the_end : under_after (under key_a (on_volume volumes.Adds bare_a) (put_volume guarded_a 3)) (replies.Done (Volume guarded_a)) ≡ None
  pub stale_write_is_the_end : under_after (under key_a (on_volume volumes.Drops leaving_a) (put_volume loose_a 3)) stale ≡ None
  pub stale_write_parks : task_parks (on_volume volumes.Drops leaving_a) stale ≡ true
  pub written_does_not : task_parks (on_volume volumes.Drops leaving_a) (replies.Done (Volume loose_a)) ≡ false

-- the kinds of actors that are built, and the one that is none
pub record BuiltKindExamples : Type 0 where
  pub binder : IsBuiltKind seats.Binder
  pub claim_protection : IsBuiltKind seats.ClaimProtect
  pub volume_protection : IsBuiltKind seats.VolumeProtect
  pub user_is_none : IsBuiltKind seats.User → ⊥
  pub node_agent : IsBuiltKind seats.Agent
  pub provisioner_and_reclaimer : IsBuiltKind seats.Ops
  pub scheduler : IsBuiltKind seats.Scheduler
