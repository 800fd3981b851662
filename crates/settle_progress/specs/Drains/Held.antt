-- A round in which a gate holds back Mounts alone, some of those that are due. What is asked of the gate can be seen of it.
-- A choice of this project.
use Rattle.std.specs.Prelude.{ℕ, ◌≡◌, true, List, [], ◌∷◌, Option, Some, None, ⊤}
use Rattle.kube_parts.specs.declared.names.Due.TheVariants as dues
use Rattle.kube_parts.specs.declared.uid.Uid.{Uid}
use Rattle.kube_objects.specs.declared.objects.Claim.{Claim as ClaimData}
use Rattle.kube_objects.specs.declared.objects.Pod.{Pod as PodData}
use Rattle.kube_objects.specs.declared.objects.Object.{Object}
use Rattle.kube_objects.specs.declared.objects.Object.TheVariants.{Pod}
use Rattle.call_types.specs.declared.entry.Entry.{Entry}
use Rattle.call_types.specs.declared.request.Request.TheVariants.{Mount}
use Rattle.call_types.specs.declared.setup.Setup.{Setup}
use Rattle.binder_model.specs.Choice.{claim_named}
use Rattle.binder_model.specs.Due.{IsDue}
use Rattle.binder_model.specs.Promises.{IsRunOf}
use Rattle.binder_model.specs.World.{IsHistory, world}
use Rattle.actor_rounds.specs.declared.drainers.Drainer.{Drainer}
use Rattle.actor_rounds.specs.Rounds.{IsRound, Lets}
use Rattle.settle_writes.specs.Writes.Lasting.{HasLasting}
use Rattle.settle_alike.specs.Alike.Alike.{AreAlike}
pub use Rattle.settle_slot.specs.Slot.Gates.{HoldsMountsAlone}
use Rattle.settle_progress.specs.Epochs.Silent.{OnlyOvertakenAreSilent}
use Rattle.settle_progress.specs.Drains.Rounds.{HasDue}
use Rattle.settle_progress.specs.Drains.Settling.{MayDrain}

-- ---- the Mount of a pod

-- the UID of the claim, if there is a claim and it has one
abbrev pub uid_in : Option ClaimData → Option Uid
uid_in None = None
uid_in (Some c) = c.meta.uid

-- the claims of these names stand there, and have these UIDs, in order
abbrev pub AreUidsOf : List Object → List ℕ → List (List ℕ) → List Uid → Type 0
AreUidsOf rows namespace [] [] = ⊤
AreUidsOf rows namespace (name ∷ names) (uid ∷ uids) = (uid_in (claim_named rows namespace name) ≡ Some uid) × AreUidsOf rows namespace names uids
AreUidsOf rows namespace names uids = ⊥

-- at whatever epoch: each Mount of the pod, on its node, with the UIDs of its claims as they stand, reaches each world that is like that of
-- the start
abbrev pub MountsPass : Setup → Lets → List Entry → PodData → Type 0
MountsPass setup lets start p =
    (h : List Entry) (epoch : ℕ) (uid : Uid) (claims : List Uid) → IsHistory setup h → AreAlike (world setup start) (world setup h)
    → p.meta.uid ≡ Some uid → AreUidsOf (world setup start).store.rows p.meta.namespace p.claims claims
    → lets h (Mount p.node epoch uid claims) ≡ true

-- where the object is a pod whose Mount is due. Of any other nothing is asked
abbrev pub LetsMountPass : Setup → Lets → List Entry → Object → Type 0
LetsMountPass setup lets start (Pod p) = IsDue setup (world setup start) (Pod p) (Some dues.Mount) → MountsPass setup lets start p
LetsMountPass setup lets start o = ⊤

-- ---- the sentence

-- so a whole round that begins with something due, for an actor that is no stale agent, has an entry that lasts: where this is a Mount, one
-- that passes
abbrev pub HeldRoundsLast : Type 0
HeldRoundsLast =
    (setup : Setup) (lets : Lets) (ds after : List Drainer) (h past : List Entry) (b left : ℕ) → MayDrain setup h ds
    → OnlyOvertakenAreSilent setup ds h → IsRunOf setup past → IsRound lets past left ds h b after true
    → HoldsMountsAlone lets → (x : HasDue setup ds h) → LetsMountPass setup lets h x.object → HasLasting setup h past
