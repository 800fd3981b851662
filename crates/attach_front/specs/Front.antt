-- The gate by what is attached, and what the laws of settling ask of it.
-- A choice of this project.
use Rattle.std.specs.Prelude.{ℕ, ◌≡◌, true, false, List, Some, None}
use Rattle.kube_parts.specs.declared.names.Due.{Due}
use Rattle.kube_parts.specs.declared.names.Due.TheVariants as dues
use Rattle.kube_parts.specs.declared.uid.Uid.{Uid}
use Rattle.kube_objects.specs.declared.key.Key.{Key}
use Rattle.kube_objects.specs.declared.objects.Pod.{Pod as PodData}
use Rattle.kube_objects.specs.declared.objects.Object.{Object}
use Rattle.kube_objects.specs.declared.objects.Object.TheVariants.{Pod}
use Rattle.kube_objects.specs.Keys.{row_at}
use Rattle.call_types.specs.declared.entry.Entry.{Entry}
use Rattle.call_types.specs.declared.request.Request.{Request}
use Rattle.call_types.specs.declared.request.Request.TheVariants.{Mount}
use Rattle.call_types.specs.declared.setup.Setup.{Setup}
use Rattle.binder_model.specs.Due.{IsDue}
use Rattle.binder_model.specs.Promises.{IsRunOf}
use Rattle.binder_model.specs.World.{World, world}
use Rattle.actor_rounds.specs.Rounds.{Lets}
use Rattle.settle_alike.specs.Alike.Alike.{AreAlike}
use Rattle.settle_slot.specs.Slot.Gates.{HoldsMountsAlone}
use Rattle.settle_progress.specs.Drains.Held.{AreUidsOf, LetsMountPass}
use Rattle.attach_law.specs.declared.attachment.Attachment.{Attachment}
use Rattle.attach_law.specs.Attached.{passes}
use Rattle.attach_law.specs.Next.{holds, next}

-- which requests reach the world while these volumes are attached
abbrev pub lets_of : Setup → List Attachment → Lets
lets_of setup att h request = passes (world setup h).store.rows att request

-- it holds back nothing but Mounts
abbrev pub MountsAloneAreHeld : Type 0
MountsAloneAreHeld = (setup : Setup) (att : List Attachment) → HoldsMountsAlone (lets_of setup att)

-- it answers alike in worlds that are alike
abbrev pub WorldsAlikePassAlike : Type 0
WorldsAlikePassAlike =
    (old new : World) (att : List Attachment) (request : Request) → AreAlike old new
    → passes old.store.rows att request ≡ passes new.store.rows att request

-- in a run where nothing is to be attached or detached: what is due and is not held passes
abbrev pub FreeMountsPass : Type 0
FreeMountsPass =
    (setup : Setup) (att : List Attachment) (start : List Entry) → IsRunOf setup start → next (world setup start) att ≡ None
    → (key : Key) (o : Object) (action : Due) → row_at key (world setup start).store.rows ≡ Some o
    → IsDue setup (world setup start) o (Some action) → holds (world setup start).store.rows att o action ≡ false
    → LetsMountPass setup (lets_of setup att) start o

-- what is held does not pass, whatever is attached, at any epoch
abbrev pub HeldMountsDoNotPass : Type 0
HeldMountsDoNotPass =
    (setup : Setup) (att : List Attachment) (past : List Entry) → IsRunOf setup past
    → (p : PodData) → holds (world setup past).store.rows att (Pod p) dues.Mount ≡ true
    → (epoch : ℕ) (uid : Uid) (claims : List Uid) → AreUidsOf (world setup past).store.rows p.meta.namespace p.claims claims
    → passes (world setup past).store.rows att (Mount p.node epoch uid claims) ≡ false
