-- A machine that begins has its evidence, where the look-up shows what was told newest.
use Rattle.std.proofs.Common.{◌≡◌, ℕ, List, [], Bool, true, false, true≢false, Option, Some, None, inl, refl, sym, ◌∙◌, ap, subst}
use Rattle.std.specs.Prelude.{is_some}
use Rattle.std.proofs.lemmas.Bool.{and_parts}
use Rattle.kube_parts.specs.declared.uid.Uid.{Uid}
use Rattle.kube_objects.specs.declared.key.Key.{Key}
use Rattle.kube_parts.specs.declared.parts.Kind.TheVariants as kinds
use Rattle.kube_types.specs.declared.lookup.Live.TheVariants.{NotAsked}
use Rattle.kube_objects.specs.declared.objects.Ref.{Ref}
use Rattle.kube_objects.specs.declared.objects.Volume.{Volume as VolumeData}
use Rattle.kube_objects.specs.declared.objects.Claim.{Claim as ClaimData}
use Rattle.kube_objects.specs.declared.objects.Class.{Class as ClassData}
use Rattle.kube_objects.specs.declared.objects.Object.{Object}
use Rattle.kube_objects.specs.declared.objects.Object.TheVariants.{Class, Node, Volume, Claim, Pod}
use Rattle.kube_objects.specs.Keys.{AreRows, key_of, row_at}
use Rattle.kube_objects.specs.Bindings.{is_completed, is_empty, is_ended, ref_uid}
use Rattle.kube_types.specs.Defaults.{IsDefaultOf, StandsIn}
use Rattle.kube_objects.proofs.KeyOrder.{row_at_key}
use Rattle.kube_objects.proofs.RowPlaces.{row_at_place}
use Rattle.call_types.specs.declared.entry.Entry.{Entry}
use Rattle.binder_model.specs.ObjectKeys.{claim_key, class_key}
use Rattle.binder_model.specs.BinderDue.{claim_with}
use Rattle.binder_model.specs.BinderLicence.{IsToldClass}
use Rattle.binder_model.specs.Reading.{LacksUid}
use Rattle.binder_model.specs.Told.{IsNewest, newest, object_of}
use Rattle.informer_cache.specs.All.{AllKnown, AllStandFor, all_objects}
use Rattle.claim_sync.specs.ClaimDecision.{claim_decision}
use Rattle.claim_sync.proofs.Assigned.{gets_class}
use Rattle.claim_sync.specs.declared.action.ClaimStep.{ClaimStep}
use Rattle.claim_sync.specs.declared.action.ClaimStep.TheVariants as steps
use Rattle.volume_sync.specs.VolumeDecision.{claim_by_reference, claim_by_uid, or_else, seen_claim, refers_by_uid, volume_decision}
use Rattle.volume_sync.specs.declared.action.VolumeAction.{VolumeAction}
use Rattle.volume_sync.specs.declared.action.VolumeAction.TheVariants as actions
use Rattle.model_laws.proofs.Lists.{none_some}
use Rattle.model_laws.proofs.Newest.{newest_claim, newest_volume}
use Rattle.binder_machines.specs.declared.decide.FirstMachine.{FirstMachine}
use Rattle.binder_machines.specs.declared.decide.FirstMachine.TheVariants.{Begins}
use Rattle.binder_machines.specs.declared.machine.Machine.{Machine}
use Rattle.binder_machines.specs.declared.machine.Machine.TheVariants.{Binds, ReadsClaim, ReadsVolume, AssignsClass}
use Rattle.binder_machines.specs.Machines.{machine_for}
use Rattle.binder_machines.specs.Evidence.{MachineKeeps, MayReadVolume, ToldThis}
use Rattle.binder_machines.specs.FirstSteps.{IsClaimFirst, IsFirst, first_of, lost_for, queue_of, volume_first}
use Rattle.binder_machines.proofs.Moves.{Seen, becomes, decided_keeps, found, lacks}
use Rattle.binder_machines.proofs.Shown.{completed_of, is_for_completed}
use Rattle.binder_machines.proofs.Tests.{empty_is}

-- the machine that begins, if one does
abbrev pub machine_in : FirstMachine → Option Machine
machine_in (Begins machine) = Some machine
machine_in _ = None

pub first_back : (m : Option Machine) (machine : Machine) → Begins machine ≡ first_of m → m ≡ Some machine
first_back None machine e = none_some (sym (ap machine_in e))
first_back (Some k) machine e = sym (ap machine_in e)

-- the reference of a volume that has a UID
pub record Known (v : VolumeData) : Type 0 where
  pub reference : Ref
  pub uid : Uid
  pub refers : v.claim_ref ≡ Some reference
  pub known : reference.uid ≡ Some uid

pub known_of : (v : VolumeData) → refers_by_uid v ≡ true → Known v
known_of v = by v.claim_ref refl
  where
    by_uid : (r : Ref) (u : Option Uid) → v.claim_ref ≡ Some r → r.uid ≡ u → is_some u ≡ true → Known v
    by_uid r None is known e = absurd (true≢false (sym e))
    by_uid r (Some uid) is known e = record { reference = r; uid = uid; refers = is; known = known }

    by : (x : Option Ref) → v.claim_ref ≡ x → is_some (ref_uid x) ≡ true → Known v
    by None is e = absurd (true≢false (sym e))
    by (Some r) is e = by_uid r r.uid is refl e

else_none : (claim : Option ClaimData) → or_else claim None ≡ claim
else_none None = refl
else_none (Some c) = refl

-- what the look-up shows of the claim of the reference
seen_row : (rows : List Object) (v : VolumeData) (k : Known v) → seen_claim rows v NotAsked ≡ claim_with k.uid (row_at (claim_key k.reference.namespace k.reference.name) rows)
seen_row rows v k =
    ap (λ x. claim_by_reference rows x NotAsked) k.refers
    ∙ (ap (λ (u : Option Uid). claim_by_uid rows k.reference u NotAsked) k.known
    ∙ else_none (claim_with k.uid (row_at (claim_key k.reference.namespace k.reference.name) rows)))

-- the look-up shows what was told newest
module _ (rows : List Object) (mine : List Entry) (order : AreRows rows) (shows : (key : Key) → row_at key rows ≡ object_of (newest mine key)) where
  newest_row : (key : Key) (o : Object) → row_at key rows ≡ Some o → IsNewest mine key o
  newest_row key o at = sym (shows key) ∙ at

  own_row : (key : Key) (o : Object) → row_at key rows ≡ Some o → IsNewest mine (key_of o) o
  own_row key o at = subst (λ k. IsNewest mine k o) (sym (row_at_key key o rows at)) (newest_row key o at)

  volume_keeps : (key : Key) (v : VolumeData) (machine : Machine) → row_at key rows ≡ Some (Volume v) → machine_for v (volume_decision rows v NotAsked) ≡ Some machine → MachineKeeps machine mine
  unfolding volume_decision
  volume_keeps key v machine at = decided_keeps v false (seen_claim rows v NotAsked) mine machine told lacking seen
    where
      told : ToldThis v mine
      told = newest_volume (λ u. u ≡ v) mine key v (newest_row key (Volume v) at) refl

      lacking : is_ended v.phase ≡ false → refers_by_uid v ≡ true → seen_claim rows v NotAsked ≡ None → Some (ReadsClaim v) ≡ Some machine → MachineKeeps machine mine
      lacking live has none s =
          let k = known_of v has in
          let lacking = lacks k.uid (row_at (claim_key k.reference.namespace k.reference.name) rows) (sym (seen_row rows v k) ∙ none) in
          becomes (ReadsClaim v) machine mine s
          (record {
            volume = told;
            live = live;
            reference = k.reference;
            uid = k.uid;
            refers = k.refers;
            known = k.known;
            asks = λ placed. record {
              volume = v;
              newest_volume = subst (λ (n : List ℕ). IsNewest mine (record { kind = kinds.PersistentVolume; namespace = n; name = v.meta.name }) (Volume v)) placed (own_row key (Volume v) at);
              reference = k.reference;
              refers = k.refers;
              named = refl;
              uid = k.uid;
              known = k.known;
              lacking = subst (λ o. LacksUid o k.uid) (shows (claim_key k.reference.namespace k.reference.name)) lacking;
            };
          })

      seen : (c : ClaimData) → refers_by_uid v ≡ true → seen_claim rows v NotAsked ≡ Some c → Seen v c mine
      seen c has is =
          let k = known_of v has in
          let place = claim_key k.reference.namespace k.reference.name in
          let f = found k.uid c (row_at place rows) (sym (seen_row rows v k) ∙ is) in
          record { reference = k.reference; uid = k.uid; refers = k.refers; known = k.known; has = f.has; claim = newest_claim (λ d. d ≡ c) mine place c (newest_row place (Claim c) f.is) refl }

  volume_begins : (key : Key) (v : VolumeData) (machine : Machine) → row_at key rows ≡ Some (Volume v) → Begins machine ≡ volume_first v (volume_decision rows v NotAsked) → MachineKeeps machine mine
  volume_begins key v machine at = by (volume_decision rows v NotAsked) refl
    where
      queues : (r : Option Ref) → Begins machine ≡ queue_of r → MachineKeeps machine mine
      queues None e = none_some (sym (ap machine_in e))
      queues (Some r) e = none_some (sym (ap machine_in e))

      by : (a : VolumeAction) → volume_decision rows v NotAsked ≡ a → Begins machine ≡ volume_first v a → MachineKeeps machine mine
      by actions.QueueClaim is e = queues v.claim_ref e
      by actions.Nothing is e = volume_keeps key v machine at (ap (machine_for v) is ∙ first_back (machine_for v actions.Nothing) machine e)
      by actions.ReadClaim is e = volume_keeps key v machine at (ap (machine_for v) is ∙ first_back (machine_for v actions.ReadClaim) machine e)
      by actions.Available is e = volume_keeps key v machine at (ap (machine_for v) is ∙ first_back (machine_for v actions.Available) machine e)
      by actions.Bound is e = volume_keeps key v machine at (ap (machine_for v) is ∙ first_back (machine_for v actions.Bound) machine e)
      by actions.Release is e = volume_keeps key v machine at (ap (machine_for v) is ∙ first_back (machine_for v actions.Release) machine e)
      by actions.Unbind is e = volume_keeps key v machine at (ap (machine_for v) is ∙ first_back (machine_for v actions.Unbind) machine e)

  -- a claim

  may_read : (key : Key) (c : ClaimData) → row_at key rows ≡ Some (Claim c) → is_completed c ≡ true → MayReadVolume c mine
  may_read key c at done = record {
    claim = newest_claim (λ d. d ≡ c) mine key c (newest_row key (Claim c) at) refl;
    completed = done;
    asks = record { claim = c; newest_claim = own_row key (Claim c) at; completed = done; named = refl };
  }

  lost_keeps : (key : Key) (c : ClaimData) → row_at key rows ≡ Some (Claim c) → is_completed c ≡ true → MachineKeeps (lost_for (is_empty c.volume_name) c) mine
  lost_keeps key c at done = by (is_empty c.volume_name) refl
    where
      by : (none : Bool) → is_empty c.volume_name ≡ none → MachineKeeps (lost_for none c) mine
      by true n = (newest_claim (λ d. d ≡ c) mine key c (newest_row key (Claim c) at) refl, record { completed = done; why = inl (empty_is c.volume_name n); same_modes = refl; same_amount = refl })
      by false n = may_read key c at done

  -- the default class of the look-up is that of the newest told classes
  told_default : (x : ClassData) → x.meta.namespace ≡ [] → IsDefaultOf (StandsIn rows) x → IsDefaultOf (IsToldClass mine) x
  told_default x placed default =
      record {
        there = subst (λ (n : List ℕ). IsNewest mine (record { kind = kinds.StorageClass; namespace = n; name = x.meta.name }) (Class x)) placed
            (newest_row (key_of (Class x)) (Class x) default.there);
        marked = default.marked;
        first = λ other told marked. default.first other (stands other told) marked;
      }
    where
      stands : (other : ClassData) → IsToldClass mine other → StandsIn rows other
      stands other told =
          let at : row_at (class_key other.meta.name) rows ≡ Some (Class other) = shows (class_key other.meta.name) ∙ told in
          subst (λ (k : Key). row_at k rows ≡ Some (Class other)) (sym (row_at_key (class_key other.meta.name) (Class other) rows at)) at

  class_keeps : (key : Key) (c : ClaimData) (x : ClassData) → row_at key rows ≡ Some (Claim c) → claim_decision rows c NotAsked ≡ steps.AssignClass
      → IsDefaultOf (StandsIn rows) x → MachineKeeps (AssignsClass c x) mine
  class_keeps key c x at decided default =
      let so = gets_class rows c NotAsked decided in (
        newest_claim (λ d. d ≡ c) mine key c (newest_row key (Claim c) at) refl,
        λ placed. record {
          undone = so.undone;
          staying = so.staying;
          unnamed = empty_is c.volume_name so.unnamed;
          classless = (and_parts _ _ so.assignable).0;
          class = x;
          default = told_default x placed default;
          change = refl;
        },
      )

  claim_begins : (key : Key) (c : ClaimData) (machine : Machine) → row_at key rows ≡ Some (Claim c) → IsClaimFirst rows c (claim_decision rows c NotAsked) (Begins machine) → MachineKeeps machine mine
  claim_begins key c machine at = by (claim_decision rows c NotAsked) refl
    where
      by : (s : ClaimStep) → claim_decision rows c NotAsked ≡ s → IsClaimFirst rows c s (Begins machine) → MachineKeeps machine mine
      by steps.Nothing is e = none_some (sym (ap machine_in e))
      by steps.ReadVolume is e = becomes (ReadsVolume c) machine mine (sym (ap machine_in e)) (may_read key c at (completed_of rows c (ap is_for_completed is)))
      by steps.Lost is e = becomes (lost_for (is_empty c.volume_name) c) machine mine (sym (ap machine_in e)) (lost_keeps key c at (completed_of rows c (ap is_for_completed is)))
      by steps.AssignClass is e = becomes (AssignsClass c e.class) machine mine (sym (ap machine_in e.begins)) (class_keeps key c e.class at is e.default)
      by steps.Bind is e =
          let v = e.volume in
          let stands = row_at_place kinds.PersistentVolume e.place (Volume v) rows order e.there in
          becomes (Binds v c) machine mine (sym (ap machine_in e.begins))
          (newest_volume (λ u. u ≡ v) mine (key_of (Volume v)) v (newest_row (key_of (Volume v)) (Volume v) stands) refl, newest_claim (λ d. d ≡ c) mine key c (newest_row key (Claim c) at) refl)

  begins_keep : (key : Key) (o : Option Object) (machine : Machine) → row_at key rows ≡ o → IsFirst rows o (Begins machine) → MachineKeeps machine mine
  begins_keep key (Some (Volume v)) machine at e = volume_begins key v machine at e
  begins_keep key (Some (Claim c)) machine at e = claim_begins key c machine at e
  begins_keep key None machine at e = none_some (sym (ap machine_in e))
  begins_keep key (Some (Class x)) machine at e = none_some (sym (ap machine_in e))
  begins_keep key (Some (Node x)) machine at e = none_some (sym (ap machine_in e))
  begins_keep key (Some (Pod x)) machine at e = none_some (sym (ap machine_in e))

pub keep : (caches : AllKnown) (mine : List Entry) (key : Key) (machine : Machine) → AllStandFor caches mine → AreRows (all_objects caches)
    → IsFirst (all_objects caches) (row_at key (all_objects caches)) (Begins machine) → MachineKeeps machine mine
keep caches mine key machine stand order first = begins_keep (all_objects caches) mine order stand.rows key (row_at key (all_objects caches)) machine refl first
