-- Worlds that differ in the nodes of claims, in versions, epochs and the count of device calls alone: the same nodes serve a pod in them.
-- A choice of this project.
use Rattle.std.specs.Prelude.{ℕ, ◌≡◌, Bool, false, not, List, Option, filter, map}
use Rattle.std.specs.List.{list_all}
use Rattle.std.specs.Ordering.{is_eq}
use Rattle.plain_data.specs.Pairs.{Pair, pair_key, text_cmp}
use Rattle.kube_parts.specs.declared.names.Due.TheVariants as dues
use Rattle.kube_objects.specs.declared.objects.Claim.{Claim as ClaimData}
use Rattle.kube_objects.specs.declared.objects.Meta.{Meta}
use Rattle.kube_objects.specs.declared.objects.Object.{Object}
use Rattle.kube_objects.specs.declared.objects.Object.TheVariants.{Claim, Pod}
use Rattle.kube_objects.specs.declared.objects.Pod.{Pod as PodData}
use Rattle.kube_objects.specs.Bindings.{class_of_claim, is_scheduled, selected_node}
use Rattle.kube_objects.specs.Keys.{row_at}
use Rattle.call_types.specs.declared.setup.Setup.{Setup}
use Rattle.binder_model.specs.Choice.{claims_of, is_under_way}
use Rattle.binder_model.specs.Due.{CanPrepare, IsDue, provision_due}
use Rattle.binder_model.specs.Matching.{is_delayed}
use Rattle.binder_model.specs.ObjectKeys.{class_key}
use Rattle.binder_model.specs.World.{World}
use Rattle.settle_measure.specs.Left.Tries.{TriesLeft}
use Rattle.settle_writes.specs.Writes.Lasting.{content_of}
use Rattle.settle_alike.specs.Alike.Alike.{AreAlike}
use Rattle.std.specs.Prelude.{Some}

-- the annotation is no selected node
abbrev pub is_no_node : Pair → Bool
is_no_node p = not (is_eq (text_cmp (pair_key p) selected_node))

-- the metadata without a selected node
abbrev pub without_node : Meta → Meta
without_node m = record m { annotations = filter is_no_node m.annotations }

-- the object but for its version, and a claim but for its node
abbrev pub rest_of : Object → Object
rest_of (Claim c) = content_of (Claim (record c { meta = without_node c.meta }))
rest_of o = content_of o

-- the objects but for their versions, and claims but for their nodes
abbrev pub rests_of : List Object → List Object
rests_of rows = map rest_of rows

-- the worlds have the same objects but for these, the same data and the same mounts
pub record AreNear (old new : World) : Type 0 where
  pub rows : rests_of old.store.rows ≡ rests_of new.store.rows
  pub stored : old.devices.stored ≡ new.devices.stored
  pub mounts : old.devices.mounts ≡ new.devices.mounts

-- worlds that are alike are near
abbrev pub AlikeAreNear : Type 0
AlikeAreNear = (old new : World) → AreAlike old new → AreNear old new

-- a pod that can be prepared can be prepared there
abbrev pub NearPrepares : Type 0
NearPrepares = (setup : Setup) (old new : World) (p q : PodData) → AreNear old new → content_of (Pod p) ≡ content_of (Pod q) → CanPrepare setup old p → CanPrepare setup new q

-- and has as many nodes left to be tried
abbrev pub NearTries : Type 0
NearTries =
    (setup : Setup) (old new : World) (p q : PodData) (refused : Option (List ℕ)) (k : ℕ) → AreNear old new → content_of (Pod p) ≡ content_of (Pod q)
    → TriesLeft setup old p refused k → TriesLeft setup new q refused k

-- what the provisioner has to do for a claim that has the same node is the same
abbrev pub NearProvisions : Type 0
NearProvisions = (setup : Setup) (old new : World) (c d : ClaimData) → AreNear old new → content_of (Claim c) ≡ content_of (Claim d) → provision_due setup old c ≡ provision_due setup new d

-- where its class does not wait for a pod, whatever node it has itself
abbrev pub NearImmediates : Type 0
NearImmediates =
    (setup : Setup) (old new : World) (c d : ClaimData) → AreNear old new → rest_of (Claim c) ≡ rest_of (Claim d)
    → is_delayed (row_at (class_key (class_of_claim c)) old.store.rows) ≡ false → provision_due setup old c ≡ provision_due setup new d

-- a pod that is to be bound to a node is so there
abbrev pub NearAssigns : Type 0
NearAssigns =
    (setup : Setup) (old new : World) (p q : PodData) → AreNear old new → content_of (Pod p) ≡ content_of (Pod q) → is_scheduled p ≡ false
    → IsDue setup old (Pod p) (Some dues.Assign) → IsDue setup new (Pod q) (Some dues.Assign)

-- one that is to be prepared is so there, where one of its claims is not under way
abbrev pub NearSearches : Type 0
NearSearches =
    (setup : Setup) (old new : World) (p q : PodData) → AreNear old new → content_of (Pod p) ≡ content_of (Pod q) → is_scheduled p ≡ false → IsDue setup old (Pod p) (Some dues.Prepare)
    → list_all (is_under_way new.store.rows) (claims_of new.store.rows q) ≡ false → IsDue setup new (Pod q) (Some dues.Prepare)
