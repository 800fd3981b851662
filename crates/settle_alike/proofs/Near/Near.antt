-- Worlds that are near: what is the same in them.
use Rattle.std.proofs.Common.{◌≡◌, ◌∙◌, List, [], ◌∷◌, Bool, true, false, true≢false, Option, Some, None, refl, sym, ap, subst}
use Rattle.std.specs.Prelude.{option_map}
use Rattle.kube_objects.specs.declared.key.Key.{Key}
use Rattle.kube_objects.specs.declared.objects.Class.{Class as ClassData}
use Rattle.kube_objects.specs.declared.objects.Volume.{Volume as VolumeData}
use Rattle.kube_objects.specs.Bindings.{class_of_claim}
use Rattle.kube_objects.specs.Keys.{row_at}
use Rattle.binder_model.specs.Matching.{is_delayed}
use Rattle.binder_model.specs.ObjectKeys.{class_key}
use Rattle.model_laws.proofs.Lists.{none_some, one}
use Rattle.kube_objects.specs.declared.objects.Claim.{Claim as ClaimData}
use Rattle.kube_objects.specs.declared.objects.Pod.{Pod as PodData}
use Rattle.kube_objects.specs.declared.objects.Object.{Object}
use Rattle.kube_objects.specs.declared.objects.Object.TheVariants.{Class, Node, Volume, Claim, Pod}
use Rattle.call_types.specs.declared.setup.Setup.{Setup}
use Rattle.binder_model.specs.Due.{CanPrepare, provision_due}
use Rattle.binder_model.specs.World.{World}
use Rattle.settle_measure.specs.Left.Tries.{TriesLeft}
use Rattle.settle_writes.specs.Writes.Lasting.{content_of}
use Rattle.settle_alike.specs.Alike.Alike.{contents_of}
use Rattle.settle_alike.proofs.Alike.Rows.{plain_claim, plain_pod, plain_volume, plain_world}
use Rattle.settle_alike.specs.Near.Near.{AlikeAreNear, AreNear, NearAssigns, NearImmediates, NearPrepares, NearProvisions, NearSearches, NearTries, rest_of, rests_of}
use Rattle.settle_alike.proofs.Near.Annotations.{rest_claim}
use Rattle.settle_alike.proofs.Near.Provisioning.{immediate_rest, late_rest, provision_rest}
use Rattle.settle_alike.proofs.Near.Rows.{rest_world, row_rest}
use Rattle.settle_alike.proofs.Near.Serving.{prepare_from, prepare_to, volume_back}
use Rattle.settle_alike.proofs.Near.Trying.{left_from, left_to}
use Rattle.settle_alike.proofs.Near.Steps.{assigning_plain, assigns_any, is_assigning, is_searching, plain_step, searches_is, searches_so, searching_plain, step_rest, step_with}
use Rattle.binder_model.specs.Due.{IsDue, IsPodDue, IsStepDue}
use Rattle.binder_model.specs.Choice.{Assigns, GoesNowhere, Searches, Step, Waits, claims_of, is_under_way, step_of}
use Rattle.kube_objects.specs.Bindings.{is_scheduled}
use Rattle.kube_parts.specs.declared.names.Due.TheVariants as dues
use Rattle.kube_parts.specs.declared.names.Due.{Due}
use Rattle.std.specs.List.{list_all}

pub rest_content : (o : Object) → rest_of (content_of o) ≡ rest_of o
rest_content (Class x) = refl
rest_content (Node x) = refl
rest_content (Volume x) = refl
rest_content (Claim x) = refl
rest_content (Pod x) = refl

pub rests_contents : (rows : List Object) → rests_of (contents_of rows) ≡ rests_of rows
rests_contents [] = refl
rests_contents (o ∷ os) = let here = rest_content o in let rest = rests_contents os in λ i. here i ∷ rest i

pub alike_are_near : AlikeAreNear
alike_are_near old new a = record { rows = sym (rests_contents old.store.rows) ∙ (ap rests_of a.rows ∙ rests_contents new.store.rows); stored = a.stored; mounts = a.mounts }

-- a world is near to the one without versions, epochs and counts
pub near_plain : (w : World) → AreNear w (plain_world w)
near_plain w = record { rows = sym (rests_contents w.store.rows); stored = refl; mounts = refl }

pub no_nearer : (w : World) → AreNear w w
no_nearer w = record { rows = refl; stored = refl; mounts = refl }

pub then_near : (a b c : World) → AreNear a b → AreNear b c → AreNear a c
then_near a b c ab bc = record { rows = ab.rows ∙ bc.rows; stored = ab.stored ∙ bc.stored; mounts = ab.mounts ∙ bc.mounts }

pub back_near : (a b : World) → AreNear a b → AreNear b a
back_near a b ab = record { rows = sym ab.rows; stored = sym ab.stored; mounts = sym ab.mounts }

pub one_rest : (old new : World) → AreNear old new → rest_world old ≡ rest_world new
one_rest old new a = λ i. record { store = record { rows = a.rows i; version = 0 }; moment = []; log = []; devices = record { stored = a.stored i; epochs = []; mounts = a.mounts i; calls = 0 } }

abbrev pub pod_or : PodData → Object → PodData
pod_or p (Pod x) = x
pod_or p o = p

pub one_pod : (p q : PodData) → content_of (Pod p) ≡ content_of (Pod q) → plain_pod p ≡ plain_pod q
one_pod p q same = ap (pod_or p) same

abbrev pub claim_or : ClaimData → Object → ClaimData
claim_or c (Claim x) = x
claim_or c o = c

one_claim : (c d : ClaimData) → content_of (Claim c) ≡ content_of (Claim d) → plain_claim c ≡ plain_claim d
one_claim c d same = ap (claim_or c) same

pub one_rest_claim : (c d : ClaimData) → rest_of (Claim c) ≡ rest_of (Claim d) → rest_claim c ≡ rest_claim d
one_rest_claim c d same = ap (claim_or c) same

pub near_prepares : NearPrepares
near_prepares setup old new p q near pod k =
    let world = one_rest old new near in
    let at = one_pod p q pod in
    prepare_from setup new q (subst (λ (x : World × PodData). CanPrepare setup x.0 x.1) (λ i. (world i, at i)) (prepare_to setup old p k))

pub near_tries : NearTries
near_tries setup old new p q refused k near pod t =
    let world = one_rest old new near in
    let at = one_pod p q pod in
    left_from setup new q refused k (subst (λ (x : World × PodData). TriesLeft setup x.0 x.1 refused k) (λ i. (world i, at i)) (left_to setup old p refused k t))

pub near_provisions : NearProvisions
near_provisions setup old new c d near same =
    let world = one_rest old new near in
    let at = one_claim c d same in
    sym (provision_rest setup old c) ∙ ((λ i. provision_due setup (world i) (at i)) ∙ provision_rest setup new d)

pub near_immediates : NearImmediates
near_immediates setup old new c d near same at_once =
    let world = one_rest old new near in
    let claim = one_rest_claim c d same in
    let late : is_delayed (row_at (class_key (class_of_claim d)) new.store.rows) ≡ false =
    sym (late_rest new.store.rows d) ∙ (ap (λ (x : World × ClaimData). is_delayed (row_at (class_key (class_of_claim x.1)) x.0.store.rows))
    (λ i. ((sym world) i, (sym claim) i)) ∙ (late_rest old.store.rows c ∙ at_once)) in
    sym (immediate_rest setup old c at_once) ∙ ((λ i. provision_due setup (world i) (claim i)) ∙ immediate_rest setup new d late)

-- ---- pods that no node runs

scheduled_plain : (p q : PodData) → plain_pod p ≡ plain_pod q → is_scheduled p ≡ is_scheduled q
scheduled_plain p q same = ap (λ (x : PodData). is_scheduled x) same

-- the steps of the pod in both, where it is known whether all claims are under way
pub step_both : (old new : World) (p q : PodData) → AreNear old new → plain_pod p ≡ plain_pod q → (under_way : Bool)
    → plain_step (step_with old.store.rows p under_way) ≡ plain_step (step_with new.store.rows q under_way)
step_both old new p q near same under_way =
    let rows = near.rows in
    sym (step_rest old.store.rows p under_way) ∙ ((λ i. step_with (rows i) (same i) under_way) ∙ step_rest new.store.rows q under_way)

assign_due : (setup : Setup) (w : World) (p : PodData) (s : Step) → IsStepDue setup w p s (Some dues.Assign) → is_assigning s ≡ true
assign_due setup w p (Assigns n) due = refl
assign_due setup w p Searches due = absurd (true≢false (sym (ap is_preparing due.0)))
  where
    is_preparing : Due → Bool
    is_preparing dues.Prepare = true
    is_preparing action = false
assign_due setup w p GoesNowhere due = none_some (sym due)
assign_due setup w p Waits due = none_some (sym due)

due_assign : (setup : Setup) (w : World) (p : PodData) (s : Step) → is_assigning s ≡ true → IsStepDue setup w p s (Some dues.Assign)
due_assign setup w p (Assigns n) is = refl
due_assign setup w p Searches is = absurd (true≢false (sym is))
due_assign setup w p GoesNowhere is = absurd (true≢false (sym is))
due_assign setup w p Waits is = absurd (true≢false (sym is))

-- what is due for a pod that no node runs, by its step
pub waiting_due : (setup : Setup) (w : World) (p : PodData) (action : Option Due) → is_scheduled p ≡ false → IsDue setup w (Pod p) action → IsStepDue setup w p (step_of w.store.rows p) action
waiting_due setup w p action open_ due = subst (λ b. IsPodDue setup w p b action) open_ due

pub due_waiting : (setup : Setup) (w : World) (p : PodData) (action : Option Due) → is_scheduled p ≡ false → IsStepDue setup w p (step_of w.store.rows p) action → IsDue setup w (Pod p) action
due_waiting setup w p action open_ due = subst (λ b. IsPodDue setup w p b action) (sym open_) due

pub near_assigns : NearAssigns
near_assigns setup old new p q near pod open_ due =
    let same = one_pod p q pod in
    let a = list_all (is_under_way old.store.rows) (claims_of old.store.rows p) in
    let b = list_all (is_under_way new.store.rows) (claims_of new.store.rows q) in
    let here : is_assigning (step_with old.store.rows p a) ≡ true = assign_due setup old p (step_of old.store.rows p) (waiting_due setup old p (Some dues.Assign) open_ due) in
    let there : is_assigning (step_with new.store.rows q a) ≡ true = sym (assigning_plain (step_with new.store.rows q a))
    ∙ (sym (ap is_assigning (step_both old new p q near same a)) ∙ (assigning_plain (step_with old.store.rows p a) ∙ here)) in
    due_waiting setup new q (Some dues.Assign) (sym (scheduled_plain p q same) ∙ open_) (due_assign setup new q (step_of new.store.rows q) (assigns_any new.store.rows q a b there))

-- a pod that is to be prepared is searched for, and can be
pub prepare_due : (setup : Setup) (w : World) (p : PodData) (s : Step) → IsStepDue setup w p s (Some dues.Prepare) → (is_searching s ≡ true) × CanPrepare setup w p
prepare_due setup w p Searches due = (refl, due.1)
prepare_due setup w p (Assigns n) due = absurd (true≢false (ap is_preparing (one dues.Prepare dues.Assign due)))
  where
    is_preparing : Due → Bool
    is_preparing dues.Prepare = true
    is_preparing action = false
prepare_due setup w p GoesNowhere due = none_some (sym due)
prepare_due setup w p Waits due = none_some (sym due)

pub near_searches : NearSearches
near_searches setup old new p q near pod open_ due waits =
    let same = one_pod p q pod in
    let a = list_all (is_under_way old.store.rows) (claims_of old.store.rows p) in
    let found = prepare_due setup old p (step_of old.store.rows p) (waiting_due setup old p (Some dues.Prepare) open_ due) in
    let here = searches_so old.store.rows p a found.0 in
    let there : is_searching (step_with new.store.rows q false) ≡ true = sym (searching_plain (step_with new.store.rows q false))
    ∙ (sym (ap is_searching (step_both old new p q near same false)) ∙ (searching_plain (step_with old.store.rows p false) ∙ here)) in
    let step : step_of new.store.rows q ≡ Searches = ap (step_with new.store.rows q) waits ∙ searches_is (step_with new.store.rows q false) there in
    due_waiting setup new q (Some dues.Prepare) (sym (scheduled_plain p q same) ∙ open_)
    (subst (λ s. IsStepDue setup new q s (Some dues.Prepare)) (sym step) (refl, near_prepares setup old new p q near pod found.1))

-- ---- what stands there

abbrev class_or : ClassData → Object → ClassData
class_or c (Class x) = x
class_or c o = c

abbrev is_class : Object → Bool
is_class (Class x) = true
is_class o = false

abbrev is_claim : Object → Bool
is_claim (Claim x) = true
is_claim o = false

abbrev is_pod : Object → Bool
is_pod (Pod x) = true
is_pod o = false

-- what stands under the key
pub record StandsNear (w : World) (key : Key) (o : Object) : Type 0 where
  pub object : Object
  pub there : row_at key w.store.rows ≡ Some object
  pub same : rest_of object ≡ rest_of o

pub stands_near : (old new : World) (key : Key) (o : Object) → AreNear old new → row_at key new.store.rows ≡ Some o → StandsNear old key o
stands_near old new key o near there = by (row_at key old.store.rows) refl
  where
    met : option_map rest_of (row_at key old.store.rows) ≡ Some (rest_of o)
    met = sym (row_rest key old.store.rows) ∙ (ap (row_at key) near.rows ∙ (row_rest key new.store.rows ∙ ap (option_map rest_of) there))

    by : (x : Option Object) → row_at key old.store.rows ≡ x → StandsNear old key o
    by None e = none_some (sym (ap (option_map rest_of) e) ∙ met)
    by (Some p) e = record { object = p; there = e; same = one (rest_of p) (rest_of o) (sym (ap (option_map rest_of) e) ∙ met) }

pub record ClaimNear (w : World) (key : Key) (c : ClaimData) : Type 0 where
  pub claim : ClaimData
  pub there : row_at key w.store.rows ≡ Some (Claim claim)
  pub same : rest_of (Claim claim) ≡ rest_of (Claim c)

pub claim_near : (old new : World) (key : Key) (c : ClaimData) → AreNear old new → row_at key new.store.rows ≡ Some (Claim c) → ClaimNear old key c
claim_near old new key c near there = let s = stands_near old new key (Claim c) near there in by s.object s.there s.same
  where
    by : (o : Object) → row_at key old.store.rows ≡ Some o → rest_of o ≡ rest_of (Claim c) → ClaimNear old key c
    by (Claim d) e same = record { claim = d; there = e; same = same }
    by (Class x) e same = absurd (true≢false (sym (ap is_claim same)))
    by (Node x) e same = absurd (true≢false (sym (ap is_claim same)))
    by (Volume x) e same = absurd (true≢false (sym (ap is_claim same)))
    by (Pod x) e same = absurd (true≢false (sym (ap is_claim same)))

pub record ClassNear (w : World) (key : Key) (x : ClassData) : Type 0 where
  pub class : ClassData
  pub there : row_at key w.store.rows ≡ Some (Class class)
  pub delayed : class.delayed ≡ x.delayed

pub class_near : (old new : World) (key : Key) (x : ClassData) → AreNear old new → row_at key new.store.rows ≡ Some (Class x) → ClassNear old key x
class_near old new key x near there = let s = stands_near old new key (Class x) near there in by s.object s.there s.same
  where
    by : (o : Object) → row_at key old.store.rows ≡ Some o → rest_of o ≡ rest_of (Class x) → ClassNear old key x
    by (Class y) e same = record { class = y; there = e; delayed = ap (λ (z : Object). (class_or y z).delayed) same }
    by (Claim y) e same = absurd (true≢false (sym (ap is_class same)))
    by (Node y) e same = absurd (true≢false (sym (ap is_class same)))
    by (Volume y) e same = absurd (true≢false (sym (ap is_class same)))
    by (Pod y) e same = absurd (true≢false (sym (ap is_class same)))

pub record VolumeNear (w : World) (key : Key) (v : VolumeData) : Type 0 where
  pub volume : VolumeData
  pub there : row_at key w.store.rows ≡ Some (Volume volume)
  pub same : plain_volume volume ≡ plain_volume v

pub volume_near : (old new : World) (key : Key) (v : VolumeData) → AreNear old new → row_at key new.store.rows ≡ Some (Volume v) → VolumeNear old key v
volume_near old new key v near there =
    let s = stands_near old new key (Volume v) near there in
    let b = volume_back (row_at key old.store.rows) (plain_volume v) (ap (option_map rest_of) s.there ∙ ap Some s.same) in
    record { volume = b.volume; there = b.is; same = b.same }

pub record PodNear (w : World) (key : Key) (p : PodData) : Type 0 where
  pub pod : PodData
  pub there : row_at key w.store.rows ≡ Some (Pod pod)
  pub same : content_of (Pod pod) ≡ content_of (Pod p)

pub pod_near : (old new : World) (key : Key) (p : PodData) → AreNear old new → row_at key new.store.rows ≡ Some (Pod p) → PodNear old key p
pod_near old new key p near there = let s = stands_near old new key (Pod p) near there in by s.object s.there s.same
  where
    by : (o : Object) → row_at key old.store.rows ≡ Some o → rest_of o ≡ rest_of (Pod p) → PodNear old key p
    by (Pod q) e same = record { pod = q; there = e; same = same }
    by (Class y) e same = absurd (true≢false (sym (ap is_pod same)))
    by (Claim y) e same = absurd (true≢false (sym (ap is_pod same)))
    by (Node y) e same = absurd (true≢false (sym (ap is_pod same)))
    by (Volume y) e same = absurd (true≢false (sym (ap is_pod same)))
