-- What a binder or a scheduler asks, and what a binder's decision does not ask for, computed. A choice of this project.
use Rattle.std.specs.Prelude.{ℕ, ◌≡◌, false, true, List, [], ◌∷◌, Some, None}
use Rattle.kube_parts.specs.declared.parts.Kind.{Kind}
use Rattle.kube_parts.specs.declared.parts.Kind.TheVariants as kinds
use Rattle.kube_parts.specs.declared.parts.VolumePhase.TheVariants as volumes
use Rattle.kube_types.specs.declared.lookup.Live.TheVariants.{NotAsked}
use Rattle.kube_objects.specs.declared.objects.Volume.{Volume as VolumeData}
use Rattle.kube_objects.specs.declared.objects.Claim.{Claim as ClaimData}
use Rattle.kube_objects.specs.declared.objects.Object.{Object}
use Rattle.kube_objects.specs.declared.objects.Object.TheVariants.{Volume, Claim}
use Rattle.call_types.specs.declared.request.Request.{Request}
use Rattle.call_types.specs.declared.request.Request.TheVariants as requests
use Rattle.call_types.specs.declared.request.SeatKind.{SeatKind}
use Rattle.call_types.specs.declared.request.SeatKind.TheVariants as seats
use Rattle.call_types.specs.declared.reply.Reply.TheVariants as replies
use Rattle.binder_model.specs.BindWrites.{write_reference}
use Rattle.binder_model.specs.Matching.{fits}
use Rattle.claim_sync.specs.ClaimDecision.{claim_decision}
use Rattle.claim_sync.specs.declared.action.ClaimStep.{ClaimStep}
use Rattle.claim_sync.specs.declared.action.ClaimStep.TheVariants as steps
use Rattle.informer_cache.specs.Cache.{Known}
use Rattle.sync_queue.specs.Work.{no_work}
use Rattle.worker_core.specs.declared.turn.Given.TheVariants as givens
use Rattle.worker_core.specs.Memories.{no_memory}
use Rattle.worker_core.specs.States.{ActorState}
use Rattle.size_law.specs.Law.Examples.{a, c, completed, entry, naming_a, reserved_a}
use Rattle.size_law.specs.Calls.Calls.{IsAsked, IsByActor, AreByActors}

-- an actor that was told nothing, and has given the list of volumes; and a binder and a scheduler that have

-- the cache of a kind of which nothing was told
abbrev pub knows_nothing : Kind → Known
knows_nothing kind = record { rows = record { kind = kind; marks = []; objects = [] }; lists = record { whole = None; spaces = [] }; from = None }

-- such an actor of this kind, with so many kinds left to list
abbrev pub new_actor : SeatKind → ℕ → ActorState
new_actor kind behind = record {
  role = record { kind = kind; node = [] };
  caches = record {
    classes = knows_nothing kinds.StorageClass;
    nodes = knows_nothing kinds.Node;
    volumes =
        knows_nothing kinds.PersistentVolume;
    claims = knows_nothing kinds.PersistentVolumeClaim;
    pods = knows_nothing kinds.Pod;
  };
  work = no_work;
  pass = record { behind = behind; event = true };
  memory = no_memory;
  under = None;
  given = Some (givens.Read kinds.PersistentVolume);
}

-- such a binder
abbrev pub new_binder : ActorState
new_binder = new_actor seats.Binder 3

-- such a scheduler
abbrev pub new_scheduler : ActorState
new_scheduler = new_actor seats.Scheduler 5

-- the list of all volumes
abbrev pub list_volumes : Request
list_volumes = requests.List kinds.PersistentVolume None

-- reading is asked without being told anything; giving a volume to a claim is not
pub record AskedExamples : Type 0 where
  pub lists : IsAsked seats.Binder [] list_volumes
  pub gives_what_was_never_told : IsAsked seats.Binder [] (write_reference a (c 3)) → ⊥
  pub scheduler_lists : IsAsked seats.Scheduler [] list_volumes
  pub scheduler_gives_what_was_never_told : IsAsked seats.Scheduler [] (write_reference a (c 3)) → ⊥
  pub lists_by_actor : IsByActor seats.Binder [] list_volumes
  pub scheduler_lists_by_actor : IsByActor seats.Scheduler [] list_volumes
  pub never_told_by_no_scheduler : IsByActor seats.Scheduler [] (write_reference a (c 3)) → ⊥
  pub user_may_give : IsByActor seats.User [] (write_reference a (c 3))
  pub history_by_actors : (told : List Object) (version : ℕ)
      → AreByActors (entry 6 seats.Scheduler list_volumes (replies.Listed told version) ∷ entry 5 seats.Binder list_volumes (replies.Listed told version) ∷ [])

-- the decision on a claim, where the look-up has this volume and the claim
abbrev pub decides : VolumeData → ClaimData → ClaimStep
decides v x = claim_decision (Volume v ∷ Claim x ∷ []) x NotAsked

-- where the binder does not ask for the size: a pair that was bound by hand, and a completed claim whose volume is free again
pub record DecisionExamples : Type 0 where
  pub fitting : decides (record a { phase = volumes.Available }) (c 3) ≡ steps.Bind
  pub too_small : decides (record a { phase = volumes.Available }) (c 9) ≡ steps.Nothing
  pub too_small_and_named : decides a (naming_a (c 9)) ≡ steps.Nothing
  pub too_small_and_reserved : decides reserved_a (c 9) ≡ steps.Nothing
  pub pair : decides reserved_a (naming_a (c 9)) ≡ steps.Bind
  pub pair_is_too_small : fits reserved_a (naming_a (c 9)) ≡ false
  pub restored : decides a (completed (naming_a (c 9))) ≡ steps.Bind
  pub restored_is_too_small : fits a (completed (naming_a (c 9))) ≡ false
