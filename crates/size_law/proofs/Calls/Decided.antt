-- A binding that begins is of a volume that suits the claim, or that carries it already.
use Rattle.std.proofs.Common.{◌≡◌, ◌⊎◌, ℕ, List, Bool, true, false, true≢false, Option, Some, None, inl, inr, refl, sym, ◌∙◌, ap, subst, if◌then◌else◌, arith}
use Rattle.std.specs.Prelude.{◌&&◌, ◌||◌, not, bytes_eq, is_none, is_some, nat_le, slice_get, ⊤}
use Rattle.std.specs.Bool.{beq}
use Rattle.std.proofs.lemmas.Bool.{and_parts, or_cases}
use Rattle.std.proofs.lemmas.Bool.Decides.{nat_tests}
use Rattle.kube_parts.specs.declared.uid.Uid.{Uid}
use Rattle.kube_objects.specs.declared.key.Key.{Key}
use Rattle.kube_types.specs.declared.lookup.Live.TheVariants.{NotAsked}
use Rattle.kube_parts.specs.declared.parts.Kind.TheVariants as kinds
use Rattle.kube_objects.specs.declared.objects.Ref.{Ref}
use Rattle.kube_objects.specs.declared.objects.Volume.{Volume as VolumeData}
use Rattle.kube_objects.specs.declared.objects.Claim.{Claim as ClaimData}
use Rattle.kube_objects.specs.declared.objects.Object.{Object}
use Rattle.kube_objects.specs.declared.objects.Object.TheVariants.{Class, Node, Volume, Claim, Pod}
use Rattle.kube_objects.specs.Keys.{row_at, rows_of}
use Rattle.kube_objects.specs.Bindings.{
  carries,
  class_of_claim,
  class_of_volume,
  is_completed,
  is_deleting,
  is_empty,
  is_for,
  is_lost,
  is_protected_volume,
  names_claim,
  refers_carrying,
  refers_for,
  uid_fits,
}
use Rattle.kube_objects.proofs.KeyOrder.{row_at_key}
use Rattle.binder_model.specs.BinderDue.{has_other_uid}
use Rattle.binder_model.specs.BindWrites.{next_write}
use Rattle.binder_model.specs.Matching.{covers, fits, eligible, has_match, is_selected, is_admitted_on, may_serve}
use Rattle.binder_model.specs.ObjectKeys.{volume_key}
use Rattle.volume_index.specs.VolumeIndex.{as_volume}
use Rattle.volume_sync.specs.VolumeDecision.{volume_decision}
use Rattle.volume_sync.specs.declared.action.VolumeAction.{VolumeAction}
use Rattle.volume_sync.specs.declared.action.VolumeAction.TheVariants as actions
use Rattle.claim_sync.specs.ClaimDecision.{IsVolumeFor, claim_decision, completed_step, is_blocked, may_assign, named_step, named_volume, unless_lost}
use Rattle.claim_sync.specs.declared.action.ClaimStep.{ClaimStep}
use Rattle.claim_sync.specs.declared.action.ClaimStep.TheVariants as steps
use Rattle.model_laws.proofs.Lists.{none_some, one}
use Rattle.binder_machines.specs.declared.decide.FirstMachine.{FirstMachine}
use Rattle.binder_machines.specs.declared.decide.FirstMachine.TheVariants.{Begins}
use Rattle.binder_machines.specs.declared.machine.Machine.{Machine}
use Rattle.binder_machines.specs.declared.machine.Machine.TheVariants.{Binds}
use Rattle.binder_machines.specs.FirstSteps.{IsClaimFirst, IsFirst, lost_for, queue_of, volume_first}
use Rattle.binder_machines.specs.Machines.{machine_for}
use Rattle.volume_index.proofs.PlacesBehind.{some_volume}
use Rattle.size_law.specs.Law.Fitting.{Fits, IsReservedFor, Suits}
use Rattle.claim_sync.proofs.Says.{lost_binds_none}
use Rattle.size_law.proofs.Law.Fields.{beq_same}
use Rattle.binder_machines.proofs.Begun.{first_back}

-- the volume may be given to the claim, or was
abbrev pub SuitsOrHas : VolumeData → ClaimData → Type 0
SuitsOrHas v c = Suits v c ⊎ (carries v c ≡ true)

abbrev pub MachineSuits : Machine → Type 0
MachineSuits (Binds v c) = SuitsOrHas v c
MachineSuits machine = ⊤

-- tests

pub fits_is : (v : VolumeData) (c : ClaimData) → fits v c ≡ true → Fits v c
fits_is v c e =
    let modes = and_parts (nat_le c.amount.bytes v.amount.bytes && bytes_eq (class_of_volume v) (class_of_claim c) && beq v.block c.block) (covers c.modes v.modes) e in
    let block = and_parts (nat_le c.amount.bytes v.amount.bytes && bytes_eq (class_of_volume v) (class_of_claim c)) (beq v.block c.block) modes.0 in
    let low : nat_le c.amount.bytes v.amount.bytes ≡ true = (and_parts (nat_le c.amount.bytes v.amount.bytes) (bytes_eq (class_of_volume v) (class_of_claim c)) block.0).0 in
    record { bytes = grind (arith, nat_tests); mode = beq_same v.block c.block block.1 }

eligible_fits : (v : VolumeData) (c : ClaimData) → eligible v c None ≡ true → fits v c ≡ true
eligible_fits v c e =
    let serve = and_parts (not (is_deleting v.meta) && is_protected_volume v && fits v c && is_selected c.selector v.meta.labels && is_admitted_on v None) (may_serve v c) e in
    let admitted = and_parts (not (is_deleting v.meta) && is_protected_volume v && fits v c && is_selected c.selector v.meta.labels) (is_admitted_on v None) serve.0 in
    let selected = and_parts (not (is_deleting v.meta) && is_protected_volume v && fits v c) (is_selected c.selector v.meta.labels) admitted.0 in
    (and_parts (not (is_deleting v.meta) && is_protected_volume v) (fits v c) selected.0).1

-- a volume that is for the claim is reserved for it, or carries it
for_it : (v : VolumeData) (c : ClaimData) → is_for v c ≡ true → IsReservedFor v c ⊎ (carries v c ≡ true)
for_it v c e = by v.claim_ref refl e
  where
    by_uid : (r : Ref) (u : Option Uid) → v.claim_ref ≡ Some r → r.uid ≡ u → names_claim r c ≡ true → uid_fits u c ≡ true → IsReservedFor v c ⊎ (carries v c ≡ true)
    by_uid r None is free names f = inl (record { reference = r; is = is; names = names; free = free })
    by_uid r (Some u) is known names f = inr (ap (λ x. refers_carrying x c) is ∙ rw (known, names) f)

    by : (x : Option Ref) → v.claim_ref ≡ x → refers_for x c ≡ true → IsReservedFor v c ⊎ (carries v c ≡ true)
    by None is t = absurd (true≢false (sym t))
    by (Some r) is t = let p = and_parts (names_claim r c) (uid_fits r.uid c) t in by_uid r r.uid is refl p.0 p.1

no_reference : (x : Option Ref) → is_none x ≡ true → x ≡ None
no_reference None e = refl
no_reference (Some r) e = absurd (true≢false (sym e))

is_bind : ClaimStep → Bool
is_bind steps.Bind = true
is_bind step = false

-- the volume that the claim names

completed_suits : (v : VolumeData) (c : ClaimData) → is_completed c ≡ true → c.volume_name ≡ v.meta.name → completed_step c NotAsked (Some v) ≡ steps.Bind → SuitsOrHas v c
unfolding is_bind
completed_suits v c done named e = by (has_other_uid v c) (is_none v.claim_ref || carries v c) (is_some (next_write v c)) refl e
  where
    by : (other opened writes : Bool) → (is_none v.claim_ref || carries v c) ≡ opened
        → (if other then unless_lost c steps.Lost else if opened && writes then steps.Bind else steps.Nothing) ≡ steps.Bind → SuitsOrHas v c
    by true opened writes o e = absurd (lost_binds_none (is_lost c.phase) e)
    by false false writes o e = absurd (true≢false (ap is_bind (sym e)))
    by false true false o e = absurd (true≢false (ap is_bind (sym e)))
    by false true true o e = elim (or_cases _ _ o) [
      | inl free ↦ inl (inr (inr (record { free = no_reference v.claim_ref free; named = named; completed = done })))
      | inr carry ↦ inr carry
    ]

named_suits : (v : VolumeData) (c : ClaimData) → is_completed c ≡ false → c.volume_name ≡ v.meta.name → named_step c (Some v) ≡ steps.Bind → SuitsOrHas v c
unfolding is_bind
named_suits v c undone named e = by (is_blocked v) (is_none v.claim_ref) (fits v c) (is_for v c) refl refl e
  where
    by : (blocked free fitting own : Bool) → fits v c ≡ fitting → is_for v c ≡ own
        → (if blocked then steps.Nothing else if (if free then fitting else own) then steps.Bind else steps.Nothing) ≡ steps.Bind → SuitsOrHas v c
    by true free fitting own f o e = absurd (true≢false (ap is_bind (sym e)))
    by false true true own f o e = inl (inl (fits_is v c f))
    by false true false own f o e = absurd (true≢false (ap is_bind (sym e)))
    by false false fitting true f o e = elim (for_it v c o) [
      | inl reserved ↦ inl (inr (inl (record { reserved = reserved; named = named; undone = undone })))
      | inr carry ↦ inr carry
    ]
    by false false fitting false f o e = absurd (true≢false (ap is_bind (sym e)))

-- the choice of the decision
module _ (rows : List Object) (c : ClaimData) (v : VolumeData) (place : ℕ) (there : slice_get (rows_of kinds.PersistentVolume rows) place ≡ Some (Volume v)) where
  chosen_named : row_at (volume_key c.volume_name) rows ≡ Some (Volume v) → (named_volume rows c ≡ Some v) × (c.volume_name ≡ v.meta.name)
  chosen_named at = (ap as_volume at, sym (ap (λ (k : Key). k.name) (row_at_key (volume_key c.volume_name) (Volume v) rows at)))

  best_suits : IsVolumeFor true rows c (Some place) → SuitsOrHas v c
  best_suits best =
      let k = best.candidate in
      let one : best.volume ≡ v = some_volume best.volume v (sym k.there ∙ there) in
      inl (inl (subst (λ u. Fits u c) one (fits_is best.volume c (eligible_fits best.volume c k.eligible))))

  binding_suits : IsVolumeFor (is_empty c.volume_name) rows c (Some place) → claim_decision rows c NotAsked ≡ steps.Bind → SuitsOrHas v c
  unfolding claim_decision is_bind
  binding_suits choice e = by (is_completed c) (is_deleting c.meta) (is_empty c.volume_name) (has_match rows c) refl choice e
    where
      by : (done deleting none match : Bool) → is_completed c ≡ done → IsVolumeFor none rows c (Some place)
          → (if done then (if none then unless_lost c steps.Lost else completed_step c NotAsked (named_volume rows c)) else if deleting then
          steps.Nothing else if none then (if match then steps.Bind else if may_assign rows c then steps.AssignClass else steps.Nothing) else named_step c (named_volume rows c)) ≡ steps.Bind
          → SuitsOrHas v c
      by true deleting true match d choice e = absurd (lost_binds_none (is_lost c.phase) e)
      by true deleting false match d choice e =
          let n = chosen_named (sym choice ∙ there) in
          completed_suits v c d n.1 (ap (completed_step c NotAsked) (sym n.0) ∙ e)
      by false true none match d choice e = absurd (true≢false (ap is_bind (sym e)))
      by false false true match d choice e = best_suits choice
      by false false false match d choice e =
          let n = chosen_named (sym choice ∙ there) in
          named_suits v c d n.1 (ap (named_step c) (sym n.0) ∙ e)

-- what begins

abbrev machine_in : FirstMachine → Option Machine
machine_in (Begins machine) = Some machine
machine_in first = None

-- no decision on a volume begins a binding
pub for_suits : (v : VolumeData) (a : VolumeAction) (machine : Machine) → machine_for v a ≡ Some machine → MachineSuits machine
for_suits v actions.Nothing machine e = none_some e
for_suits v actions.QueueClaim machine e = none_some e
for_suits v actions.ReadClaim machine e = subst MachineSuits (one _ machine e) tt
for_suits v actions.Available machine e = subst MachineSuits (one _ machine e) tt
for_suits v actions.Bound machine e = subst MachineSuits (one _ machine e) tt
for_suits v actions.Release machine e = subst MachineSuits (one _ machine e) tt
for_suits v actions.Unbind machine e = subst MachineSuits (one _ machine e) tt

queues : {G : Type 0} (r : Option Ref) (machine : Machine) → Begins machine ≡ queue_of r → G
queues None machine e = none_some (sym (ap machine_in e))
queues (Some r) machine e = none_some (sym (ap machine_in e))

volume_suits : (v : VolumeData) (a : VolumeAction) (machine : Machine) → Begins machine ≡ volume_first v a → MachineSuits machine
volume_suits v actions.QueueClaim machine e = queues v.claim_ref machine e
volume_suits v actions.Nothing machine e = for_suits v actions.Nothing machine (first_back _ machine e)
volume_suits v actions.ReadClaim machine e = for_suits v actions.ReadClaim machine (first_back _ machine e)
volume_suits v actions.Available machine e = for_suits v actions.Available machine (first_back _ machine e)
volume_suits v actions.Bound machine e = for_suits v actions.Bound machine (first_back _ machine e)
volume_suits v actions.Release machine e = for_suits v actions.Release machine (first_back _ machine e)
volume_suits v actions.Unbind machine e = for_suits v actions.Unbind machine (first_back _ machine e)

lost_suits : (none : Bool) (c : ClaimData) → MachineSuits (lost_for none c)
lost_suits true c = tt
lost_suits false c = tt

claim_suits : (rows : List Object) (c : ClaimData) (machine : Machine) (s : ClaimStep) → claim_decision rows c NotAsked ≡ s → IsClaimFirst rows c s (Begins machine) → MachineSuits machine
claim_suits rows c machine steps.Nothing is e = none_some (sym (ap machine_in e))
claim_suits rows c machine steps.ReadVolume is e = subst MachineSuits (one _ machine (sym (ap machine_in e))) tt
claim_suits rows c machine steps.AssignClass is e = subst MachineSuits (one _ machine (sym (ap machine_in e.begins))) tt
claim_suits rows c machine steps.Lost is e = subst MachineSuits (one _ machine (sym (ap machine_in e))) (lost_suits (is_empty c.volume_name) c)
claim_suits rows c machine steps.Bind is e = subst MachineSuits (one _ machine (sym (ap machine_in e.begins))) (binding_suits rows c e.volume e.place e.there e.choice is)

-- a machine that begins suits
pub begun_suits : (rows : List Object) (o : Option Object) (machine : Machine) → IsFirst rows o (Begins machine) → MachineSuits machine
begun_suits rows (Some (Volume v)) machine e = volume_suits v (volume_decision rows v NotAsked) machine e
begun_suits rows (Some (Claim c)) machine e = claim_suits rows c machine (claim_decision rows c NotAsked) refl e
begun_suits rows None machine e = none_some (sym (ap machine_in e))
begun_suits rows (Some (Class x)) machine e = none_some (sym (ap machine_in e))
begun_suits rows (Some (Node x)) machine e = none_some (sym (ap machine_in e))
begun_suits rows (Some (Pod x)) machine e = none_some (sym (ap machine_in e))
