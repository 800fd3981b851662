-- Where a pod was tried in two quiet rounds after one another, the second search begins behind the node that was tried in the first.
-- A choice of this project, after the scheduler's volume binding plugin, which tries another node once the provisioner has taken `selected-node` back.
use Rattle.std.specs.Prelude.{ℕ, ◌≡◌, false, List, Some}
use Rattle.kube_objects.specs.declared.key.Key.{Key}
use Rattle.kube_parts.specs.declared.names.Due.TheVariants as dues
use Rattle.kube_objects.specs.declared.objects.Object.TheVariants.{Pod}
use Rattle.kube_objects.specs.declared.objects.Pod.{Pod as PodData}
use Rattle.kube_objects.specs.Bindings.{is_scheduled}
use Rattle.kube_objects.specs.Keys.{row_at}
use Rattle.call_types.specs.declared.entry.Entry.{Entry}
use Rattle.call_types.specs.declared.setup.Setup.{Setup}
use Rattle.binder_model.specs.Due.{IsDue}
use Rattle.binder_model.specs.World.{world}
use Rattle.actor_rounds.specs.declared.drainers.Drainer.{Drainer}
use Rattle.settle_tries.specs.Tries.Quiet.{AreCached, IsQuietRound, OnlyPrepares}
use Rattle.settle_tries.specs.Tries.Waiting.{WasTried}

-- it was tried by the decision that was made for it, in each of the rounds
abbrev pub SearchesGoOn : Type 0
SearchesGoOn =
    (setup : Setup) (ds between after : List Drainer) (h middle past : List Entry) (b left c rest : ℕ) (key : Key) (p : PodData)
    → IsQuietRound setup ds between h middle b left → IsQuietRound setup between after middle past c rest
    → AreCached setup ds h → OnlyPrepares setup (world setup h) → AreCached setup between middle
    → row_at key (world setup middle).store.rows ≡ Some (Pod p) → is_scheduled p ≡ false → IsDue setup (world setup middle) (Pod p) (Some dues.Prepare)
    → (first : WasTried setup ds between h middle b left key) → (second : WasTried setup between after middle past c rest key) → second.from ≡ Some first.node.meta.name
