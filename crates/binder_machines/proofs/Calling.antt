-- A machine that begins on what a store can hold has a next call.
use Rattle.std.proofs.Common.{◌≡◌, ℕ, List, [], ◌∷◌, Bool, true, false, true≢false, Option, Some, None, inl, inr, refl, sym, ◌∙◌, ap, subst, if◌then◌else◌}
use Rattle.std.specs.Prelude.{◌&&◌, ◌||◌, not, bytes_eq, is_none, is_some, slice_get}
use Rattle.std.proofs.lemmas.Bool.{and_parts, and_from, not-true, or_cases, or_left, or_right}
use Rattle.std.proofs.lemmas.Slice.Eq.{bytes_eq-Decides}
use Rattle.kube_objects.specs.declared.key.Key.{Key}
use Rattle.kube_parts.specs.declared.parts.Kind.TheVariants as kinds
use Rattle.kube_parts.specs.declared.parts.VolumePhase.{VolumePhase}
use Rattle.kube_parts.specs.declared.parts.VolumePhase.TheVariants as phases
use Rattle.kube_types.specs.declared.lookup.Live.TheVariants.{NotAsked}
use Rattle.kube_objects.specs.declared.objects.Ref.{Ref}
use Rattle.kube_objects.specs.declared.objects.Class.{Class as ClassData}
use Rattle.kube_objects.specs.declared.objects.Volume.{Volume as VolumeData}
use Rattle.kube_objects.specs.declared.objects.Claim.{Claim as ClaimData}
use Rattle.kube_objects.specs.declared.objects.Object.{Object}
use Rattle.kube_objects.specs.declared.objects.Object.TheVariants.{Class, Node, Volume, Claim, Pod}
use Rattle.kube_objects.specs.Keys.{key_of, row_at, rows_of}
use Rattle.kube_objects.specs.Bindings.{carries, is_available, is_bound, is_completed, is_deleting, is_empty, is_ended, is_for, is_lost, is_protected_volume}
use Rattle.kube_objects.proofs.KeyOrder.{row_at_key}
use Rattle.kube_objects.proofs.RowPlaces.{row_at_place}
use Rattle.call_types.specs.declared.request.Request.{Request}
use Rattle.call_types.specs.declared.request.Request.TheVariants.{Get}
use Rattle.call_types.specs.declared.reply.Refusal.TheVariants.{NotFound}
use Rattle.call_types.specs.declared.reply.Reply.TheVariants.{Found, Refused}
use Rattle.binder_model.specs.ObjectKeys.{volume_key}
use Rattle.binder_model.specs.BinderDue.{has_other_uid}
use Rattle.binder_model.specs.BindWrites.{claim_write, next_write, shows_bound, write_bound, write_claim_status, write_completion, write_reference}
use Rattle.binder_model.specs.Matching.{eligible, fits, may_serve}
use Rattle.volume_index.specs.VolumeIndex.{as_volume}
use Rattle.claim_sync.specs.ClaimDecision.{IsVolumeFor, claim_decision, completed_step, has_write, is_blocked, named_step, named_volume, unless_lost, unnamed_step}
use Rattle.claim_sync.specs.declared.action.ClaimStep.{ClaimStep}
use Rattle.claim_sync.specs.declared.action.ClaimStep.TheVariants as steps
use Rattle.volume_sync.specs.VolumeDecision.{free_action, refers_by_uid, referred_action, seen_claim, volume_decision}
use Rattle.volume_sync.specs.declared.action.VolumeAction.{VolumeAction}
use Rattle.volume_sync.specs.declared.action.VolumeAction.TheVariants as actions
use Rattle.model_laws.proofs.Lists.{none_some, one}
use Rattle.binder_machines.specs.declared.decide.FirstMachine.TheVariants.{Begins}
use Rattle.binder_machines.specs.declared.machine.Machine.{Machine}
use Rattle.binder_machines.specs.declared.machine.Machine.TheVariants.{Frees, Binds, MarksBound, ReadsClaim, Releases, Unbinds, ReadsVolume, AssignsClass, Loses}
use Rattle.binder_machines.specs.BeginLaw.{AreStored, BegunHaveCalls, ReadHaveCalls}
use Rattle.binder_machines.specs.FirstSteps.{IsClaimFirst, IsFirst, lost_for, queue_of, volume_first}
use Rattle.binder_machines.specs.Machines.{call_of, claim_read, confirmed_for, moved, volume_read, machine_for, may_bind, phase_call, read_of, write_class, write_phase}
use Rattle.binder_machines.proofs.Begun.{first_back, known_of, machine_in}
use Rattle.binder_machines.proofs.Shown.{free_reads_none}
use Rattle.model_laws.proofs.References.{carries_for}
use Rattle.model_laws.proofs.References.{available_lives as available_live}

calls : (a b : Machine) → Some a ≡ Some b → is_some (call_of a) ≡ true → is_some (call_of b) ≡ true
calls a b e is = subst (λ m. is_some (call_of m) ≡ true) (one a b e) is

phase_calls : (v : VolumeData) (phase : VolumePhase) → v.meta.namespace ≡ [] → is_some (phase_call v phase) ≡ true
phase_calls v phase placed = ap (λ (n : List ℕ). is_some (if is_empty n then Some (write_phase v phase) else None)) placed

-- volumes

known_to_read : (rows : List Object) (v : VolumeData) → volume_decision rows v NotAsked ≡ actions.ReadClaim → refers_by_uid v ≡ true
unfolding volume_decision
known_to_read rows v e = by (refers_by_uid v) e
  where
    by : (b : Bool) → (if not b then free_action v else if is_ended v.phase then actions.Nothing else referred_action v false (seen_claim rows v NotAsked)) ≡ actions.ReadClaim → b ≡ true
    by true e = refl
    by false e = absurd (free_reads_none (is_available v.phase) e)

read_calls : (v : VolumeData) → v.meta.namespace ≡ [] → is_some v.meta.uid ≡ true → refers_by_uid v ≡ true → is_some (call_of (ReadsClaim v)) ≡ true
unfolding call_of
read_calls v placed known has =
    let k = known_of v has in
    ap (λ (n : List ℕ). is_some (if is_empty n && is_some v.meta.uid then read_of v.claim_ref else None)) placed
    ∙ (ap (λ (b : Bool). is_some (if b then read_of v.claim_ref else None)) known ∙ ap (λ r. is_some (read_of r)) k.refers)

volume_calls : (rows : List Object) (v : VolumeData) (a : VolumeAction) (machine : Machine) → v.meta.namespace ≡ [] → is_some v.meta.uid ≡ true
    → volume_decision rows v NotAsked ≡ a → machine_for v a ≡ Some machine → is_some (call_of machine) ≡ true
unfolding call_of
volume_calls rows v actions.Nothing machine placed known is e = none_some e
volume_calls rows v actions.QueueClaim machine placed known is e = none_some e
volume_calls rows v actions.ReadClaim machine placed known is e = calls (ReadsClaim v) machine e (read_calls v placed known (known_to_read rows v is))
volume_calls rows v actions.Available machine placed known is e = calls (Frees v) machine e (phase_calls v _ placed)
volume_calls rows v actions.Bound machine placed known is e = calls (MarksBound v) machine e (phase_calls v _ placed)
volume_calls rows v actions.Release machine placed known is e = calls (Releases v) machine e (phase_calls v _ placed)
volume_calls rows v actions.Unbind machine placed known is e = calls (Unbinds v) machine e refl

volume_begun : (rows : List Object) (v : VolumeData) (a : VolumeAction) (machine : Machine) → v.meta.namespace ≡ [] → is_some v.meta.uid ≡ true
    → volume_decision rows v NotAsked ≡ a → Begins machine ≡ volume_first v a → is_some (call_of machine) ≡ true
volume_begun rows v actions.QueueClaim machine placed known is e = by v.claim_ref e
  where
    by : (r : Option Ref) → Begins machine ≡ queue_of r → is_some (call_of machine) ≡ true
    by None e = none_some (sym (ap machine_in e))
    by (Some r) e = none_some (sym (ap machine_in e))
volume_begun rows v actions.Nothing machine placed known is e = volume_calls rows v _ machine placed known is (first_back (machine_for v actions.Nothing) machine e)
volume_begun rows v actions.ReadClaim machine placed known is e = volume_calls rows v _ machine placed known is (first_back (machine_for v actions.ReadClaim) machine e)
volume_begun rows v actions.Available machine placed known is e = volume_calls rows v _ machine placed known is (first_back (machine_for v actions.Available) machine e)
volume_begun rows v actions.Bound machine placed known is e = volume_calls rows v _ machine placed known is (first_back (machine_for v actions.Bound) machine e)
volume_begun rows v actions.Release machine placed known is e = volume_calls rows v _ machine placed known is (first_back (machine_for v actions.Release) machine e)
volume_begun rows v actions.Unbind machine placed known is e = volume_calls rows v _ machine placed known is (first_back (machine_for v actions.Unbind) machine e)

-- a binding

-- the volume may be bound to the claim, and a write is left
record Bindable (v : VolumeData) (c : ClaimData) : Type 0 where
  reference : (is_none v.claim_ref || is_for v c) ≡ true
  write : is_some (next_write v c) ≡ true

next_is : (v : VolumeData) (c : ClaimData) → is_completed c ≡ false → is_ended v.phase ≡ false → is_protected_volume v ≡ true → is_some (next_write v c) ≡ true
unfolding next_write claim_write
next_is v c open_one live guarded = by (carries v c) (is_bound v.phase) (is_ended v.phase) (is_protected_volume v) (is_completed c) live guarded open_one
  where
    by : (carry bound ended guard done : Bool) → ended ≡ false → guard ≡ true → done ≡ false
        → is_some (if not carry then (if ended then None else Some (write_reference v c)) else if not bound then
        (if ended || not guard then None else Some (write_bound v)) else
        (if not (done && bytes_eq c.volume_name v.meta.name) then Some (write_completion v c) else if not (shows_bound c v) then Some (write_claim_status v c) else None)) ≡ true
    by carry bound true guard done l g d = absurd (true≢false l)
    by carry bound false false done l g d = absurd (true≢false (sym g))
    by carry bound false true true l g d = absurd (true≢false d)
    by false bound false true false l g d = refl
    by true false false true false l g d = refl
    by true true false true false l g d = refl

served_live : (v : VolumeData) (c : ClaimData) → may_serve v c ≡ true → is_ended v.phase ≡ false
served_live v c e = elim (or_cases (is_for v c && not (is_ended v.phase)) (is_available v.phase && is_none v.claim_ref) e) [
  | inl own ↦ not-true (is_ended v.phase) (and_parts (is_for v c) (not (is_ended v.phase)) own).1
  | inr open_one ↦ available_live v.phase (and_parts (is_available v.phase) (is_none v.claim_ref) open_one).0
]

served_reference : (v : VolumeData) (c : ClaimData) → may_serve v c ≡ true → (is_none v.claim_ref || is_for v c) ≡ true
served_reference v c e = elim (or_cases (is_for v c && not (is_ended v.phase)) (is_available v.phase && is_none v.claim_ref) e) [
  | inl own ↦ or_right (is_none v.claim_ref) (is_for v c) (and_parts (is_for v c) (not (is_ended v.phase)) own).0
  | inr open_one ↦ or_left (is_none v.claim_ref) (is_for v c) (and_parts (is_available v.phase) (is_none v.claim_ref) open_one).1
]

best_bindable : (v : VolumeData) (c : ClaimData) → is_completed c ≡ false → eligible v c None ≡ true → Bindable v c
best_bindable v c open_one e =
    let a = and_parts _ _ e in
    let b = and_parts _ _ a.0 in
    let d = and_parts _ _ b.0 in
    let f = and_parts _ _ d.0 in
    let g = and_parts _ _ f.0 in
    record { reference = served_reference v c a.1; write = next_is v c open_one (served_live v c a.1) g.1 }

pub written_reference : (v : VolumeData) (c : ClaimData) → (is_none v.claim_ref || carries v c) ≡ true → (is_none v.claim_ref || is_for v c) ≡ true
written_reference v c e = elim (or_cases (is_none v.claim_ref) (carries v c) e) [
  | inl none ↦ or_left (is_none v.claim_ref) (is_for v c) none
  | inr own ↦ or_right (is_none v.claim_ref) (is_for v c) (carries_for v c own)
]

unless_binds_none : (b : Bool) (s : ClaimStep) → (s ≡ steps.Bind → ⊥) → (if b then steps.Nothing else s) ≡ steps.Bind → ⊥
unless_binds_none true s none e = cc
unless_binds_none false s none e = none e

lost_binds_none : (c : ClaimData) → unless_lost c steps.Lost ≡ steps.Bind → ⊥
lost_binds_none c e = unless_binds_none (is_lost c.phase) steps.Lost (λ e. cc) e

completed_bindable : (v : VolumeData) (c : ClaimData) → completed_step c NotAsked (Some v) ≡ steps.Bind → Bindable v c
completed_bindable v c = by (has_other_uid v c) (has_write v c) refl
  where
    by : (other writes : Bool) → has_write v c ≡ writes → (if other then unless_lost c steps.Lost else if writes then steps.Bind else steps.Nothing) ≡ steps.Bind → Bindable v c
    by true writes w e = absurd (lost_binds_none c e)
    by false true w e = let parts = and_parts _ _ w in record { reference = written_reference v c parts.0; write = parts.1 }
    by false false w e = cc

open_blocked : (deleting guarded ended : Bool) → (deleting || not guarded || ended) ≡ false → (guarded ≡ true) × (ended ≡ false)
open_blocked true guarded ended e = absurd (true≢false e)
open_blocked false true ended e = (refl, e)
open_blocked false false ended e = absurd (true≢false e)

named_bindable : (v : VolumeData) (c : ClaimData) → is_completed c ≡ false → named_step c (Some v) ≡ steps.Bind → Bindable v c
named_bindable v c open_one = by (is_blocked v) (is_none v.claim_ref) (fits v c) (is_for v c) refl refl refl
  where
    may : (is_none v.claim_ref || is_for v c) ≡ true → is_blocked v ≡ false → Bindable v c
    may reference b = let parts = open_blocked (is_deleting v.meta) (is_protected_volume v) (is_ended v.phase) b in record { reference = reference; write = next_is v c open_one parts.1 parts.0 }

    by : (blocked none fitting own : Bool) → is_blocked v ≡ blocked → is_none v.claim_ref ≡ none → is_for v c ≡ own
        → (if blocked then steps.Nothing else if (if none then fitting else own) then steps.Bind else steps.Nothing) ≡ steps.Bind → Bindable v c
    by true none fitting own b n o e = cc
    by false true fitting own b n o e = may (or_left (is_none v.claim_ref) (is_for v c) n) b
    by false false fitting true b n o e = may (or_right (is_none v.claim_ref) (is_for v c) o) b
    by false false fitting false b n o e = cc

best_open : (rows : List Object) (c : ClaimData) → is_empty c.volume_name ≡ true → claim_decision rows c NotAsked ≡ steps.Bind → is_completed c ≡ false
unfolding claim_decision
best_open rows c none = by (is_completed c) (is_empty c.volume_name) none
  where
    by : (done empty : Bool) → empty ≡ true
        → (if done then (if empty then unless_lost c steps.Lost else completed_step c NotAsked (named_volume rows c)) else if is_deleting c.meta then
        steps.Nothing else if empty then unnamed_step rows c else named_step c (named_volume rows c)) ≡ steps.Bind → done ≡ false
    by true true n e = absurd (lost_binds_none c e)
    by true false n e = absurd (true≢false (sym n))
    by false empty n e = refl

given_bindable : (rows : List Object) (c : ClaimData) (v : VolumeData) → is_empty c.volume_name ≡ false → named_volume rows c ≡ Some v → claim_decision rows c NotAsked ≡ steps.Bind → Bindable v c
unfolding claim_decision
given_bindable rows c v given seen = by (is_completed c) (is_deleting c.meta) (is_empty c.volume_name) (named_volume rows c) refl given seen
  where
    by : (done deleting empty : Bool) (x : Option VolumeData) → is_completed c ≡ done → empty ≡ false → x ≡ Some v
        → (if done then (if empty then unless_lost c steps.Lost else completed_step c NotAsked x) else if deleting then steps.Nothing else if empty
        then unnamed_step rows c else named_step c x) ≡ steps.Bind → Bindable v c
    by done deleting true x d g s e = absurd (true≢false g)
    by true deleting false x d g s e = completed_bindable v c (sym (ap (completed_step c NotAsked) s) ∙ e)
    by false true false x d g s e = cc
    by false false false x d g s e = named_bindable v c d (sym (ap (named_step c) s) ∙ e)

-- the name of the volume to be bound is the one that the claim gives, if it gives one
record Chosen (v : VolumeData) (c : ClaimData) : Type 0 where
  named : (is_empty c.volume_name || bytes_eq c.volume_name v.meta.name) ≡ true
  bindable : Bindable v c

chosen : (rows : List Object) (c : ClaimData) (place : ℕ) (v : VolumeData) → IsVolumeFor (is_empty c.volume_name) rows c (Some place)
    → slice_get (rows_of kinds.PersistentVolume rows) place ≡ Some (Volume v) → claim_decision rows c NotAsked ≡ steps.Bind → Chosen v c
chosen rows c place v choice there decided = by (is_empty c.volume_name) refl choice
  where
    same_volume : (a b : VolumeData) → Some (Volume a) ≡ Some (Volume b) → a ≡ b
    same_volume a b e = one a b (ap as_volume e)

    by : (none : Bool) → is_empty c.volume_name ≡ none → IsVolumeFor none rows c (Some place) → Chosen v c
    by true n best =
        let same = same_volume best.volume v (sym best.candidate.there ∙ there) in
        record { named = or_left _ _ n; bindable = best_bindable v c (best_open rows c n decided) (subst (λ u. eligible u c None ≡ true) same best.candidate.eligible) }
    by false n at =
        let row : row_at (volume_key c.volume_name) rows ≡ Some (Volume v) = sym at ∙ there in
        let name : v.meta.name ≡ c.volume_name = ap (λ (k : Key). k.name) (row_at_key (volume_key c.volume_name) (Volume v) rows row) in
        record { named = or_right _ _ ((bytes_eq-Decides c.volume_name v.meta.name).1 (sym name)); bindable = given_bindable rows c v n (ap as_volume row) decided }

binding_calls : (v : VolumeData) (c : ClaimData) → v.meta.namespace ≡ [] → is_some c.meta.uid ≡ true → Chosen v c → is_some (call_of (Binds v c)) ≡ true
unfolding call_of
binding_calls v c placed known is =
    let may : may_bind v c ≡ true = and_from _ _ (and_from _ _ (and_from _ _ known (ap is_empty placed)) is.bindable.reference) is.named in
    ap (λ (b : Bool). is_some (if b then next_write v c else None)) may ∙ is.bindable.write

-- claims

claim_begun : (rows : List Object) (key : Key) (c : ClaimData) (machine : Machine) → AreStored rows → row_at key rows ≡ Some (Claim c)
    → IsClaimFirst rows c (claim_decision rows c NotAsked) (Begins machine) → is_some (call_of machine) ≡ true
unfolding call_of
claim_begun rows key c machine stored at = by (claim_decision rows c NotAsked) refl
  where
    known : is_some c.meta.uid ≡ true
    known = stored.known key (Claim c) at

    reads : is_some (call_of (ReadsVolume c)) ≡ true
    reads = ap (λ (b : Bool). is_some {T = Request} (if b then Some (Get (volume_key c.volume_name)) else None)) known

    lost : (none : Bool) → is_some (call_of (lost_for none c)) ≡ true
    lost true = refl
    lost false = reads

    assigns : (x : ClassData) → x.meta.namespace ≡ [] → is_some (call_of (AssignsClass c x)) ≡ true
    assigns x placed = ap (λ (b : Bool). is_some {T = Request} (if b then Some (write_class c x) else None)) (and_from _ _ known (ap is_empty placed))

    by : (s : ClaimStep) → claim_decision rows c NotAsked ≡ s → IsClaimFirst rows c s (Begins machine) → is_some (call_of machine) ≡ true
    by steps.Nothing is e = none_some (sym (ap machine_in e))
    by steps.ReadVolume is e = calls (ReadsVolume c) machine (sym (ap machine_in e)) reads
    by steps.AssignClass is e =
        let x = e.class in
        calls (AssignsClass c x) machine (sym (ap machine_in e.begins)) (assigns x (stored.placed_class (key_of (Class x)) x e.default.there))
    by steps.Lost is e = calls (lost_for (is_empty c.volume_name) c) machine (sym (ap machine_in e)) (lost (is_empty c.volume_name))
    by steps.Bind is e =
        let v = e.volume in
        let stands = row_at_place kinds.PersistentVolume e.place (Volume v) rows stored.order e.there in
        calls (Binds v c) machine (sym (ap machine_in e.begins)) (binding_calls v c (stored.placed (key_of (Volume v)) v stands) known (chosen rows c e.place v e.choice e.there is))

pub begun_have_calls : BegunHaveCalls
begun_have_calls rows key machine stored first = by (row_at key rows) refl first
  where
    by : (o : Option Object) → row_at key rows ≡ o → IsFirst rows o (Begins machine) → is_some (call_of machine) ≡ true
    by (Some (Volume v)) at e = volume_begun rows v (volume_decision rows v NotAsked) machine (stored.placed key v at) (stored.known key (Volume v) at) refl e
    by (Some (Claim c)) at e = claim_begun rows key c machine stored at e
    by None at e = none_some (sym (ap machine_in e))
    by (Some (Class x)) at e = none_some (sym (ap machine_in e))
    by (Some (Node x)) at e = none_some (sym (ap machine_in e))
    by (Some (Pod x)) at e = none_some (sym (ap machine_in e))

-- after a read

placed_call : (v : VolumeData) (r : Request) → call_of (ReadsClaim v) ≡ Some r → v.meta.namespace ≡ []
unfolding call_of
placed_call v r = by v.meta.namespace
  where
    by : (n : List ℕ) → (if is_empty n && is_some v.meta.uid then read_of v.claim_ref else None) ≡ Some r → n ≡ []
    by [] e = refl
    by (x ∷ n) e = none_some e

volume_goes_on : (v : VolumeData) (r : Request) (a : VolumeAction) (next : Machine) → call_of (ReadsClaim v) ≡ Some r → machine_for v a ≡ Some next → is_some (call_of next) ≡ true
unfolding call_of
volume_goes_on v r actions.Nothing next call e = none_some e
volume_goes_on v r actions.QueueClaim next call e = none_some e
volume_goes_on v r actions.ReadClaim next call e = calls (ReadsClaim v) next e (ap is_some call)
volume_goes_on v r actions.Available next call e = calls (Frees v) next e (phase_calls v phases.Available (placed_call v r call))
volume_goes_on v r actions.Bound next call e = calls (MarksBound v) next e (phase_calls v phases.Bound (placed_call v r call))
volume_goes_on v r actions.Release next call e = calls (Releases v) next e (phase_calls v phases.Released (placed_call v r call))
volume_goes_on v r actions.Unbind next call e = calls (Unbinds v) next e refl

claim_goes_on : (c : ClaimData) (s : ClaimStep) (next : Machine) → confirmed_for c s ≡ Some next → is_some (call_of next) ≡ true
unfolding call_of
claim_goes_on c steps.Lost next e = calls (Loses c) next e refl
claim_goes_on c steps.Nothing next e = none_some e
claim_goes_on c steps.ReadVolume next e = none_some e
claim_goes_on c steps.Bind next e = none_some e
claim_goes_on c steps.AssignClass next e = none_some e

pub read_have_calls : ReadHaveCalls
unfolding moved
read_have_calls (ReadsClaim v) next r (Refused NotFound) is call e = volume_goes_on v r (volume_read v None) next call e
read_have_calls (ReadsClaim v) next r (Found o) is call e = volume_goes_on v r (volume_read v (Some o)) next call e
read_have_calls (ReadsVolume c) next r (Refused NotFound) is call e = claim_goes_on c (claim_read c None) next e
read_have_calls (ReadsVolume c) next r (Found o) is call e = claim_goes_on c (claim_read c (Some o)) next e
read_have_calls (ReadsClaim v) next r _ is call e = none_some e
read_have_calls (ReadsVolume c) next r _ is call e = none_some e
read_have_calls machine next r reply is call e = absurd (true≢false (sym is))
