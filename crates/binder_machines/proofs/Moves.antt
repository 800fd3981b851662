-- The evidence of a machine goes on with the answer to its call.
use Rattle.std.proofs.Common.{◌≡◌, ◌≢◌, ◌⊎◌, List, [], ◌∷◌, Bool, true, false, true≢false, Option, Some, None, inl, inr, refl, sym, ◌∙◌, ap, subst, if◌then◌else◌}
use Rattle.std.specs.Prelude.{◌&&◌, ◌||◌, not, is_some, bytes_eq}
use Rattle.kube_parts.specs.declared.uid.Uid.{Uid}
use Rattle.kube_objects.specs.declared.objects.Ref.{Ref}
use Rattle.kube_objects.specs.declared.objects.Volume.{Volume as VolumeData}
use Rattle.kube_objects.specs.declared.objects.Claim.{Claim as ClaimData}
use Rattle.kube_objects.specs.declared.objects.Object.{Object}
use Rattle.kube_objects.specs.declared.objects.Object.TheVariants.{Class, Node, Volume, Claim, Pod}
use Rattle.kube_objects.specs.Bindings.{is_available, is_bound, is_completed, is_empty, is_ended, is_protected_volume, is_uid, ref_uid}
use Rattle.call_types.specs.declared.entry.Entry.{Entry}
use Rattle.call_types.specs.declared.request.Request.{Request}
use Rattle.call_types.specs.declared.request.Request.TheVariants.{Get}
use Rattle.call_types.specs.declared.reply.Refusal.TheVariants as refusals
use Rattle.call_types.specs.declared.reply.Reply.{Reply}
use Rattle.call_types.specs.declared.reply.Reply.TheVariants as replies
use Rattle.binder_model.specs.At.{HasUid, IsElsewhere, IsSameObject}
use Rattle.binder_model.specs.ObjectKeys.{claim_key, volume_key}
use Rattle.binder_model.specs.BinderDue.{claim_with, has_other_uid, is_reclaimed, is_uid_of_other}
use Rattle.binder_model.specs.BinderLicence.{IsCompletedVersion, IsGone, IsHere, IsNotCarrying, IsReferring, WasReadGone, WasReadLost}
use Rattle.binder_model.specs.Reading.{LacksUid}
use Rattle.binder_model.specs.Told.{SomeOf, TellsObject, IsLiveAnswer, objects_in}
use Rattle.volume_index.specs.VolumeIndex.{as_volume}
use Rattle.claim_sync.specs.ClaimDecision.{read_step, unless_lost}
use Rattle.claim_sync.specs.declared.action.ClaimStep.{ClaimStep}
use Rattle.claim_sync.specs.declared.action.ClaimStep.TheVariants as steps
use Rattle.volume_sync.specs.VolumeDecision.{claimed_action, free_action, refers_by_uid, referred_action}
use Rattle.volume_sync.specs.declared.action.VolumeAction.TheVariants as actions
use Rattle.model_laws.proofs.Evidence.{told_claim, told_volume}
use Rattle.model_laws.proofs.Lists.{none_some, one}
use Rattle.binder_machines.specs.declared.machine.Machine.{Machine}
use Rattle.binder_machines.specs.declared.machine.Machine.TheVariants.{Frees, Binds, MarksBound, ReadsClaim, Releases, Unbinds, ReadsVolume, Loses}
use Rattle.binder_machines.specs.Machines.{call_of, claim_of_uid, claim_read, confirmed_for, machine_for, moved, read_of, unbound_to, volume_read}
use Rattle.binder_machines.specs.Evidence.{MachineKeeps, MayReadClaim, MayReadVolume, ToldThis, ToldThisClaim}
use Rattle.safety_law.proofs.Invariant.Tests.{same_text, uid_is}
use Rattle.binder_machines.proofs.Tests.{bytes_differ, empty_is, filled_is, uid_differs, uid_of}

-- what an answer tells was told
tells : (P : Object → Type 0) (e : Entry) (reply : Reply) → e.told ≡ true → e.reply ≡ reply → SomeOf P (objects_in reply) → TellsObject P e
tells P e reply told is some = (told, subst (λ r. SomeOf P (objects_in r)) (sym is) some)

pub becomes : (a b : Machine) (mine : List Entry) → Some a ≡ Some b → MachineKeeps a mine → MachineKeeps b mine
becomes a b mine e kept = subst (λ k. MachineKeeps k mine) (one a b e) kept

-- the claim of the volume's reference was told, with the UID
pub record Seen (v : VolumeData) (c : ClaimData) (mine : List Entry) : Type 0 where
  pub reference : Ref
  pub uid : Uid
  pub refers : v.claim_ref ≡ Some reference
  pub known : reference.uid ≡ Some uid
  pub has : HasUid uid c
  pub claim : ToldThisClaim c mine

elsewhere : (v : VolumeData) (c : ClaimData) (mine : List Entry) → (s : Seen v c mine) → is_empty c.volume_name ≡ false → bytes_eq c.volume_name v.meta.name ≡ false → IsElsewhere v.meta.name s.uid c
elsewhere v c mine s filled other = record { claim = s.has; named = filled_is c.volume_name filled; other = bytes_differ c.volume_name v.meta.name other }

-- what is begun about a volume whose claim is there
claimed_keeps : (v : VolumeData) (c : ClaimData) (mine : List Entry) (next : Machine) → ToldThis v mine → is_ended v.phase ≡ false → Seen v c mine
    → machine_for v (claimed_action v c) ≡ Some next → MachineKeeps next mine
claimed_keeps v c mine next told live s = by (is_empty c.volume_name) (bytes_eq c.volume_name v.meta.name) (is_bound v.phase) (is_protected_volume v) (is_reclaimed v) refl refl refl refl
  where
    by : (none this bound guarded erased : Bool) → is_empty c.volume_name ≡ none → bytes_eq c.volume_name v.meta.name ≡ this → is_protected_volume v ≡ guarded → is_reclaimed v ≡ erased
        → machine_for v (if none then actions.QueueClaim else if this then
        (if bound || not guarded then actions.Nothing else actions.Bound) else if erased then actions.Release else actions.Unbind) ≡ Some next → MachineKeeps next mine
    by true this bound guarded erased n t g r e = none_some e
    by false true true guarded erased n t g r e = none_some e
    by false true false false erased n t g r e = none_some e
    by false true false true erased n t g r e =
        becomes (MarksBound v) next mine e (
          told,
          record {
            live = live;
            guarded = g;
            uid = s.uid;
            refers = uid_of v s.reference s.uid s.refers s.known;
            told = told_claim (IsHere v.meta.name s.uid) c mine s.claim (record { claim = s.has; names = inr (same_text c.volume_name v.meta.name t) });
          },
        )
    by false false bound guarded true n t g r e =
        becomes (Releases v) next mine e (
          told,
          record {
            live = live;
            reference = s.reference;
            uid = s.uid;
            refers = s.refers;
            known = s.known;
            why = inr (told_claim (IsElsewhere v.meta.name s.uid) c mine s.claim (elsewhere v c mine s n t), r);
          },
        )
    by false false bound guarded false n t g r e =
        becomes (Unbinds v) next mine e (
          told,
          record {
            live = live;
            uid = s.uid;
            refers = uid_of v s.reference s.uid s.refers s.known;
            elsewhere = told_claim (IsElsewhere v.meta.name s.uid) c mine s.claim (elsewhere v c mine s n t);
            kept = r;
            change = refl;
          },
        )

no_uid : (u : Option Uid) → is_some u ≡ false → u ≡ None
no_uid None e = refl
no_uid (Some u) e = absurd (true≢false e)

-- what is begun about a volume without the UID of a claim
free_keeps : (v : VolumeData) (mine : List Entry) (next : Machine) → ToldThis v mine → refers_by_uid v ≡ false → machine_for v (free_action v) ≡ Some next → MachineKeeps next mine
free_keeps v mine next told none = by (is_available v.phase)
  where
    by : (b : Bool) → machine_for v (if b then actions.Nothing else actions.Available) ≡ Some next → MachineKeeps next mine
    by true e = none_some e
    by false e = becomes (Frees v) next mine e (told, record { free = no_uid (ref_uid v.claim_ref) none })

-- what is begun about a volume, where this claim of its reference is seen
pub decided_keeps : (v : VolumeData) (asked : Bool) (claim : Option ClaimData) (mine : List Entry) (next : Machine) → ToldThis v mine
    → (is_ended v.phase ≡ false → refers_by_uid v ≡ true → claim ≡ None → machine_for v (referred_action v asked None) ≡ Some next → MachineKeeps next mine)
    → ((c : ClaimData) → refers_by_uid v ≡ true → claim ≡ Some c → Seen v c mine)
    → machine_for v (if not (refers_by_uid v) then free_action v else if is_ended v.phase then actions.Nothing else referred_action v asked claim) ≡ Some next → MachineKeeps next mine
decided_keeps v asked claim mine next told lacking seen = by (refers_by_uid v) (is_ended v.phase) claim refl refl refl
  where
    by : (known ended : Bool) (x : Option ClaimData) → refers_by_uid v ≡ known → is_ended v.phase ≡ ended → claim ≡ x
        → machine_for v (if not known then free_action v else if ended then actions.Nothing else referred_action v asked x) ≡ Some next → MachineKeeps next mine
    by false ended x k d c e = free_keeps v mine next told k e
    by true true x k d c e = none_some e
    by true false None k d c e = lacking d k c e
    by true false (Some x) k d c e = claimed_keeps v x mine next told d (seen x k c) e

-- the claim of a UID, in what was read

gone : (uid : Uid) (o : Option Object) → claim_with uid o ≡ None → IsGone uid o
unfolding claim_with
gone uid None e = tt
gone uid (Some (Claim c)) e = by (is_uid c.meta.uid uid) refl e
  where
    by : (b : Bool) → is_uid c.meta.uid uid ≡ b → (if b then Some c else None) ≡ None → HasUid uid c → ⊥
    by true t n is = none_some (sym n)
    by false t n is = uid_differs c.meta.uid uid t is
gone uid (Some _) e = tt

pub lacks : (uid : Uid) (o : Option Object) → claim_with uid o ≡ None → LacksUid o uid
lacks uid None e = tt
lacks uid (Some (Claim c)) e = gone uid (Some (Claim c)) e
lacks uid (Some _) e = tt

-- the claim that was found
pub record Found (uid : Uid) (c : ClaimData) (o : Option Object) : Type 0 where
  pub is : o ≡ Some (Claim c)
  pub has : HasUid uid c

pub found : (uid : Uid) (c : ClaimData) (o : Option Object) → claim_with uid o ≡ Some c → Found uid c o
unfolding claim_with
found uid c None e = none_some e
found uid c (Some (Claim d)) e = by (is_uid d.meta.uid uid) refl e
  where
    by : (b : Bool) → is_uid d.meta.uid uid ≡ b → (if b then Some d else None) ≡ Some c → Found uid c (Some (Claim d))
    by true t n = let same = one d c n in record { is = ap (λ x. Some (Claim x)) same; has = subst (HasUid uid) same (uid_is d.meta.uid uid t) }
    by false t n = none_some n
found uid c (Some _) e = none_some e

-- the read of a claim

record Call (v : VolumeData) (r : Ref) (request : Request) : Type 0 where
  key : request ≡ Get (claim_key r.namespace r.name)
  uid : Uid
  has : v.meta.uid ≡ Some uid

claim_was_asked : (v : VolumeData) (r : Ref) (request : Request) → v.claim_ref ≡ Some r → call_of (ReadsClaim v) ≡ Some request → Call v r request
unfolding call_of
claim_was_asked v r request refers = by (is_empty v.meta.namespace) v.meta.uid refl
  where
    by : (b : Bool) (u : Option Uid) → v.meta.uid ≡ u → (if b && is_some u then read_of v.claim_ref else None) ≡ Some request → Call v r request
    by false u h e = none_some e
    by true None h e = none_some e
    by true (Some u) h e = record { key = sym (one _ _ (sym (ap read_of refers) ∙ e)); uid = u; has = h }

-- what was read
record ReadAs (e : Entry) (o : Option Object) : Type 1 where
  live : (P : Option Object → Type 0) → P o → IsLiveAnswer e.reply P
  told : (P : Object → Type 0) (x : Object) → o ≡ Some x → P x → TellsObject P e

claim_goes_on : (v : VolumeData) (o : Option Object) (mine : List Entry) (e : Entry) (next : Machine) → MayReadClaim v mine → e.told ≡ true → call_of (ReadsClaim v) ≡ Some e.request
    → ReadAs e o → machine_for v (volume_read v o) ≡ Some next → MachineKeeps next (e ∷ mine)
unfolding volume_read
claim_goes_on v o mine e next kept told call read = decided_keeps v true (claim_of_uid (ref_uid v.claim_ref) o) (e ∷ mine) next (inr kept.volume) lacking seen
  where
    uid_is_its : claim_of_uid (ref_uid v.claim_ref) o ≡ claim_with kept.uid o
    uid_is_its = ap (λ u. claim_of_uid u o) (uid_of v kept.reference kept.uid kept.refers kept.known)

    lacking : is_ended v.phase ≡ false → refers_by_uid v ≡ true → claim_of_uid (ref_uid v.claim_ref) o ≡ None → Some (Releases v) ≡ Some next → MachineKeeps next (e ∷ mine)
    lacking live known none s =
        let c = claim_was_asked v kept.reference e.request kept.refers call in
        let same : IsSameObject v.meta v.meta = record { uid = c.uid; first = c.has; second = c.has } in
        let was : WasReadGone (e ∷ mine) v kept.reference kept.uid =
        inl (
          (told, c.key, read.live (IsGone kept.uid) (gone kept.uid o (sym uid_is_its ∙ none))),
          told_volume (IsReferring v kept.reference) v mine kept.volume (record { same = same; refers = kept.refers }),
        )
        in
        becomes (Releases v) next (e ∷ mine) s
        (inr kept.volume, record { live = kept.live; reference = kept.reference; uid = kept.uid; refers = kept.refers; known = kept.known; why = inl was })

    seen : (c : ClaimData) → refers_by_uid v ≡ true → claim_of_uid (ref_uid v.claim_ref) o ≡ Some c → Seen v c (e ∷ mine)
    seen c known is =
        let f = found kept.uid c o (sym uid_is_its ∙ is) in
        record {
          reference = kept.reference;
          uid = kept.uid;
          refers = kept.refers;
          known = kept.known;
          has = f.has;
          claim = inl (read.told _ (Claim c) f.is refl);
        }

-- the read of a volume

other_uid : (u : Option Uid) (c : ClaimData) → is_uid_of_other u c ≡ true → (uid : Uid) × (u ≡ Some uid) × (c.meta.uid ≢ Some uid)
other_uid None c e = absurd (true≢false (sym e))
other_uid (Some uid) c e = (uid, refl, uid_differs c.meta.uid uid (opposite (is_uid c.meta.uid uid) e))
  where
    opposite : (b : Bool) → not b ≡ true → b ≡ false
    opposite true h = sym h
    opposite false h = refl

not_carrying : (c : ClaimData) (o : Option Object) → read_step c (as_volume o) ≡ steps.Lost → IsNotCarrying c o
not_carrying c (Some (Volume v)) e = by (has_other_uid v c) refl e
  where
    by : (b : Bool) → has_other_uid v c ≡ b → (if b then unless_lost c steps.Lost else steps.Nothing) ≡ steps.Lost → IsNotCarrying c (Some (Volume v))
    by true t s = other_uid (ref_uid v.claim_ref) c t
    by false t s = cc
not_carrying c None e = tt
not_carrying c (Some (Class x)) e = tt
not_carrying c (Some (Node x)) e = tt
not_carrying c (Some (Claim x)) e = tt
not_carrying c (Some (Pod x)) e = tt

record VolumeCall (c : ClaimData) (request : Request) : Type 0 where
  key : request ≡ Get (volume_key c.volume_name)
  uid : Uid
  has : c.meta.uid ≡ Some uid

volume_was_asked : (c : ClaimData) (request : Request) → call_of (ReadsVolume c) ≡ Some request → VolumeCall c request
unfolding call_of
volume_was_asked c request = by c.meta.uid refl
  where
    by : (u : Option Uid) → c.meta.uid ≡ u → (if is_some u then Some (Get (volume_key c.volume_name)) else None) ≡ Some request → VolumeCall c request
    by None h e = none_some e
    by (Some u) h e = record { key = sym (one _ _ e); uid = u; has = h }

-- why a claim is Lost after the read
why_lost : (c : ClaimData) (o : Option Object) (mine : List Entry) (e : Entry) → MayReadVolume c mine → e.told ≡ true → call_of (ReadsVolume c) ≡ Some e.request → ReadAs e o
    → claim_read c o ≡ steps.Lost → (c.volume_name ≡ []) ⊎ WasReadLost (e ∷ mine) c
unfolding claim_read
why_lost c o mine e kept told call read is = by (is_completed c) (is_empty c.volume_name) refl is
  where
    by : (done empty : Bool) → is_empty c.volume_name ≡ empty
        → (if done then (if empty then unless_lost c steps.Lost else read_step c (as_volume o)) else steps.Nothing) ≡ steps.Lost → (c.volume_name ≡ []) ⊎ WasReadLost (e ∷ mine) c
    by false empty n s = cc
    by true true n s = inl (empty_is c.volume_name n)
    by true false n s =
        let k = volume_was_asked c e.request call in
        let same : IsSameObject c.meta c.meta = record { uid = k.uid; first = k.has; second = k.has } in
        inr (inl ((told, k.key, read.live (IsNotCarrying c) (not_carrying c o s)), told_claim (IsCompletedVersion c) c mine kept.claim (record { same = same; completed = kept.completed })))

volume_goes_on : (c : ClaimData) (o : Option Object) (mine : List Entry) (e : Entry) (next : Machine) → MayReadVolume c mine → e.told ≡ true → call_of (ReadsVolume c) ≡ Some e.request
    → ReadAs e o → confirmed_for c (claim_read c o) ≡ Some next → MachineKeeps next (e ∷ mine)
volume_goes_on c o mine e next kept told call read = by (claim_read c o) refl
  where
    by : (s : ClaimStep) → claim_read c o ≡ s → confirmed_for c s ≡ Some next → MachineKeeps next (e ∷ mine)
    by steps.Lost is n = becomes (Loses c) next (e ∷ mine) n (
      inr kept.claim,
      record
          { completed = kept.completed; why = why_lost c o mine e kept told call read is; same_modes = refl; same_amount = refl },
    )
    by steps.Nothing is n = none_some n
    by steps.ReadVolume is n = none_some n
    by steps.Bind is n = none_some n
    by steps.AssignClass is n = none_some n

-- what is left after unbinding

unbound_keeps : (v : VolumeData) (mine : List Entry) (next : Machine) → ToldThis v mine → unbound_to v ≡ Some next → MachineKeeps next mine
unbound_keeps v mine next told = by (refers_by_uid v) refl
  where
    by : (b : Bool) → refers_by_uid v ≡ b → (if b then None else machine_for v (free_action v)) ≡ Some next → MachineKeeps next mine
    by true k e = none_some e
    by false k e = free_keeps v mine next told k e

-- the answers of a read

read_none : (e : Entry) → e.told ≡ true → e.reply ≡ replies.Refused refusals.NotFound → ReadAs e None
read_none e told is = record { live = λ P p. subst (λ r. IsLiveAnswer r P) (sym is) p; told = λ P x none p. none_some none }

read_found : (e : Entry) (o : Object) → e.told ≡ true → e.reply ≡ replies.Found o → ReadAs e (Some o)
read_found e o told is = record {
  live = λ P p. subst (λ r. IsLiveAnswer r P) (sym is) p;
  told = λ P x some p. tells P e (replies.Found o) told is (inl (subst P (sym (one o x some)) p));
}

pub keeps_on : (machine next : Machine) (mine : List Entry) (e : Entry) → MachineKeeps machine mine → call_of machine ≡ Some e.request
    → e.told ≡ true → moved machine e.reply ≡ Some next → MachineKeeps next (e ∷ mine)
unfolding moved
keeps_on machine next mine e kept call told step = by machine e.reply refl kept call step
  where
    by : (k : Machine) (reply : Reply) → e.reply ≡ reply → MachineKeeps k mine → call_of k ≡ Some e.request → moved k reply ≡ Some next → MachineKeeps next (e ∷ mine)
    by (Binds v c) (replies.Done (Volume w)) is k call s = becomes (Binds w c) next (e ∷ mine) s (inl (tells _ e _ told is (inl refl)), inr k.1)
    by (Binds v c) (replies.Done (Claim d)) is k call s = becomes (Binds v d) next (e ∷ mine) s (inr k.0, inl (tells _ e _ told is (inl refl)))
    by (Unbinds v) (replies.Done (Volume w)) is k call s = unbound_keeps w (e ∷ mine) next (inl (tells _ e _ told is (inl refl))) s
    by (ReadsClaim v) (replies.Refused refusals.NotFound) is k call s = claim_goes_on v None mine e next k told call (read_none e told is) s
    by (ReadsClaim v) (replies.Found o) is k call s = claim_goes_on v (Some o) mine e next k told call (read_found e o told is) s
    by (ReadsVolume c) (replies.Refused refusals.NotFound) is k call s = volume_goes_on c None mine e next k told call (read_none e told is) s
    by (ReadsVolume c) (replies.Found o) is k call s = volume_goes_on c (Some o) mine e next k told call (read_found e o told is) s
    by _ _ is k call s = none_some s
