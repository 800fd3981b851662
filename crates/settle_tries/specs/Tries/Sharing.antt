-- Actors leave claims shared as they are: no pod comes, no claim is completed no more, and only a claim that names no class gets one.
-- A choice of this project.
use Rattle.std.specs.Prelude.{ℕ, ◌≡◌, ◌⊎◌, Bool, true, false, List, [], Some}
use Rattle.kube_objects.specs.declared.key.Key.{Key}
use Rattle.kube_objects.specs.declared.objects.Claim.{Claim as ClaimData}
use Rattle.kube_objects.specs.declared.objects.Class.{Class as ClassData}
use Rattle.kube_objects.specs.declared.objects.Object.TheVariants.{Claim, Class, Pod}
use Rattle.kube_objects.specs.declared.objects.Pod.{Pod as PodData}
use Rattle.kube_objects.specs.Bindings.{class_of_claim, is_completed, is_scheduled}
use Rattle.kube_objects.specs.Keys.{row_at}
use Rattle.call_types.specs.declared.entry.Entry.{Entry}
use Rattle.call_types.specs.declared.setup.Setup.{Setup}
use Rattle.binder_model.specs.Promises.{IsRunOf}
use Rattle.binder_model.specs.World.{World, world}
use Rattle.actor_rounds.specs.declared.drainers.Drainer.{Drainer}
use Rattle.actor_rounds.specs.Drainers.{AreRoles, roles_of}
use Rattle.actor_rounds.specs.Rounds.{IsRound, Lets}
use Rattle.settle_budget.specs.Drains.Measured.{SharesWell}

-- the pod waited there too, with the same claims
pub record WaitedSo (w : World) (key : Key) (p : PodData) : Type 0 where
  pub pod : PodData
  pub there : row_at key w.store.rows ≡ Some (Pod pod)
  pub waits : is_scheduled pod ≡ false
  pub namespace : pod.meta.namespace ≡ p.meta.namespace
  pub claims : pod.claims ≡ p.claims

-- the claim stood there, was completed only if it is, and had this class or none
pub record StoodOpen (w : World) (key : Key) (c : ClaimData) : Type 0 where
  pub claim : ClaimData
  pub there : row_at key w.store.rows ≡ Some (Claim claim)
  pub completed : is_completed claim ≡ true → is_completed c ≡ true
  pub class : (class_of_claim claim ≡ class_of_claim c) ⊎ (class_of_claim claim ≡ [])

-- the class stands there still
pub record StandsStill (w : World) (key : Key) (x : ClassData) : Type 0 where
  pub class : ClassData
  pub there : row_at key w.store.rows ≡ Some (Class class)
  pub delayed : class.delayed ≡ x.delayed

-- each pod that waits waited before, each claim that is open was open, and each class that stood stands with the same mode of binding
pub record KeepsSharing (old new : World) : Type 0 where
  pub pods : (key : Key) (p : PodData) → row_at key new.store.rows ≡ Some (Pod p) → is_scheduled p ≡ false → WaitedSo old key p
  pub claims : (key : Key) (c : ClaimData) → row_at key new.store.rows ≡ Some (Claim c) → StoodOpen old key c
  pub classes : (key : Key) (x : ClassData) → row_at key old.store.rows ≡ Some (Class x) → StandsStill new key x

-- so in a round, whole or not
abbrev pub RoundsShareWell : Type 0
RoundsShareWell =
    (setup : Setup) (lets : Lets) (ds after : List Drainer) (h past : List Entry) (b left : ℕ) (whole : Bool) → AreRoles (roles_of ds)
    → IsRunOf setup past → IsRound lets past left ds h b after whole → SharesWell (world setup h) → SharesWell (world setup past)
