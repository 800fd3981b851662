-- What a binding goes on with carries its claim: the answer to each of its writes tells what was written.
use Rattle.std.proofs.Common.{◌≡◌, ◌⊎◌, ℕ, List, Bool, true, false, true≢false, Option, Some, None, inl, inr, refl, sym, ◌∙◌, ap, subst, if◌then◌else◌, arith}
use Rattle.std.specs.Prelude.{◌==◌, ◌||◌, ◌&&◌, not, bytes_eq, is_some, ⊤}
use Rattle.std.proofs.lemmas.Bool.{and_parts}
use Rattle.std.proofs.lemmas.Bool.Decides.{Decides-eqb}
use Rattle.std.proofs.lemmas.Option.{same_Some}
use Rattle.std.proofs.lemmas.Slice.Eq.{bytes_eq-Decides}
use Rattle.kube_parts.specs.declared.uid.Uid.{Uid}
use Rattle.kube_parts.specs.declared.parts.Kind.TheVariants as kinds
use Rattle.kube_parts.specs.declared.parts.VolumePhase.TheVariants as volumes
use Rattle.kube_objects.specs.declared.objects.Volume.{Volume as VolumeData}
use Rattle.kube_objects.specs.declared.objects.Claim.{Claim as ClaimData}
use Rattle.kube_objects.specs.declared.objects.Object.{Object}
use Rattle.kube_objects.specs.declared.objects.Object.TheVariants.{Volume, Claim}
use Rattle.kube_objects.specs.Keys.{meta_of, key_of, kind_index}
use Rattle.kube_objects.specs.Bindings.{bound_by_controller, carries, is_bound, is_empty, is_ended, is_protected_volume, names_claim, refers_carrying, uid_carries}
use Rattle.call_types.specs.declared.entry.Entry.{Entry}
use Rattle.call_types.specs.declared.setup.Setup.{Setup}
use Rattle.call_types.specs.declared.request.NewStatus.TheVariants as statuses
use Rattle.call_types.specs.declared.request.Request.{Request}
use Rattle.call_types.specs.declared.request.Request.TheVariants as requests
use Rattle.call_types.specs.declared.request.SeatKind.{SeatKind}
use Rattle.call_types.specs.declared.reply.Refusal.TheVariants as refusals
use Rattle.call_types.specs.declared.reply.Reply.{Reply}
use Rattle.call_types.specs.declared.reply.Reply.TheVariants as replies
use Rattle.binder_model.specs.Answers.{with_status}
use Rattle.binder_model.specs.BindWrites.{
  claim_write,
  completed_with,
  is_completed_with,
  next_write,
  ref_to,
  shows_bound,
  taken_for,
  write_bound,
  write_claim_status,
  write_completion,
  write_reference,
}
use Rattle.binder_model.specs.ObjectKeys.{claim_key, volume_key}
use Rattle.binder_model.specs.Store.{at_version, updated_object, with_meta, with_status_of}
use Rattle.binder_model.specs.Told.{ToldObject, own}
use Rattle.binder_model.specs.World.{World, Effect, OnStore, OnDevices, SetsMoment, IsHistory, effect, reply_to, world}
use Rattle.claim_sync.specs.declared.action.ClaimStep.{ClaimStep}
use Rattle.claim_sync.specs.declared.action.ClaimStep.TheVariants as steps
use Rattle.volume_sync.specs.VolumeDecision.{free_action, refers_by_uid}
use Rattle.model_laws.specs.Calls.{IsSecondDelete}
use Rattle.model_laws.specs.Stood.{Stood}
use Rattle.model_laws.proofs.Evidence.{told_map}
use Rattle.model_laws.proofs.Histories.{rows_stand_in_order}
use Rattle.model_laws.proofs.Identity.{placed_same}
use Rattle.model_laws.proofs.Lists.{none_some, one}
use Rattle.model_laws.proofs.Replies.{DoneBy, Wrote, Again, writing}
use Rattle.model_laws.proofs.Truths.{told_is_true}
use Rattle.safety_law.specs.Invariant.Writes.{EffectOf, Writes}
use Rattle.safety_law.proofs.Invariant.Effects.{effect_form}
use Rattle.safety_law.proofs.Invariant.Objects.{same_volume}
use Rattle.safety_law.proofs.Invariant.Whence.{updated_next, status_next}
use Rattle.safety_law.proofs.Invariant.StandsAt.{is_claim, is_volume, stands_it}
use Rattle.safety_law.proofs.Invariant.KeptBindings.{carries_on}
use Rattle.binder_machines.specs.declared.machine.Machine.{Machine}
use Rattle.binder_machines.specs.declared.machine.Machine.TheVariants.{Frees, Binds, MarksBound, ReadsClaim, Releases, Unbinds, ReadsVolume, AssignsClass, Loses}
use Rattle.binder_machines.specs.Evidence.{MachineKeeps, ToldThis, ToldThisClaim}
use Rattle.binder_machines.specs.Machines.{bind_call, call_of, claim_read, confirmed_for, machine_for, may_bind, moved, unbound_to, volume_read}
use Rattle.size_law.proofs.Calls.Decided.{MachineSuits, for_suits}
use Rattle.binder_machines.proofs.Tests.{empty_is}

-- an entry of a seat in its history, and the seat's entries before it
pub record IsAnswered (e : Entry) (before : List Entry) : Type 0 where
  pub setup : Setup
  pub rest : List Entry
  pub seat : ℕ
  pub history : IsHistory setup rest
  pub is_own : before ≡ own seat rest
  pub reply : e.reply ≡ reply_to (effect setup (world setup rest) e.kind e.request)

-- what Done tells was written, or is deleted again

done_by : (setup : Setup) (w : World) (kind : SeatKind) (request : Request) (o : Object) (x : Effect) → DoneBy w request o x → EffectOf setup w kind request x
    → Writes w kind request o ⊎ IsSecondDelete w request o
done_by setup w kind request o (OnStore _) (Wrote change) f = inl f
done_by setup w kind request o (OnStore _) (Again second) f = inr second
done_by setup w kind request o (OnDevices _) by f = elim by [ ]
done_by setup w kind request o (SetsMoment _) by f = elim by [ ]

abbrev deletes : Request → Bool
deletes (requests.Delete key given) = true
deletes request = false

done_writes : (e : Entry) (before : List Entry) (a : IsAnswered e before) (o : Object) → e.reply ≡ replies.Done o → deletes e.request ≡ false → Writes (world a.setup a.rest) e.kind e.request o
done_writes e before a o done keeps =
    let w = world a.setup a.rest in
    elim (done_by a.setup w e.kind e.request o _ ((writing a.setup w e.kind e.request).done o (sym a.reply ∙ done)) (effect_form a.setup w e.kind e.request (rows_stand_in_order a.setup a.rest))) [
      | inl wrote ↦ wrote
      | inr second ↦ absurd (true≢false (sym (ap deletes second.asked) ∙ keeps))
    ]

-- what was told stood

volume_stood : (e : Entry) (before : List Entry) (a : IsAnswered e before) (v : VolumeData) → ToldThis v before → Stood a.setup a.rest (Volume v)
volume_stood e before a v told = told_is_true a.setup a.rest a.seat (Volume v) a.history (subst (ToldObject (λ x. x ≡ Volume v)) a.is_own (told_map (is_volume v) before told))

claim_stood : (e : Entry) (before : List Entry) (a : IsAnswered e before) (c : ClaimData) → ToldThisClaim c before → Stood a.setup a.rest (Claim c)
claim_stood e before a c told = told_is_true a.setup a.rest a.seat (Claim c) a.history (subst (ToldObject (λ x. x ≡ Claim c)) a.is_own (told_map (is_claim c) before told))

-- the four writes

pub data BindingWrite (v : VolumeData) (c : ClaimData) : Request → Type 0 where
  Refers : BindingWrite v c (write_reference v c)
  Bounds : carries v c ≡ true → BindingWrite v c (write_bound v)
  Completes : carries v c ≡ true → BindingWrite v c (write_completion v c)
  Shows : carries v c ≡ true → BindingWrite v c (write_claim_status v c)

written : (v : VolumeData) (c : ClaimData) (a r : Request) → Some a ≡ Some r → BindingWrite v c a → BindingWrite v c r
written v c a r e b = subst (BindingWrite v c) (one a r e) b

claim_writes : (v : VolumeData) (c : ClaimData) (r : Request) → carries v c ≡ true → claim_write v c ≡ Some r → BindingWrite v c r
unfolding claim_write
claim_writes v c r carry = by (is_completed_with c v) (shows_bound c v)
  where
    by : (done shows : Bool) → (if not done then Some (write_completion v c) else if not shows then Some (write_claim_status v c) else None) ≡ Some r → BindingWrite v c r
    by false shows e = written v c _ r e (Completes carry)
    by true false e = written v c _ r e (Shows carry)
    by true true e = none_some e

which_write : (v : VolumeData) (c : ClaimData) (r : Request) → next_write v c ≡ Some r → BindingWrite v c r
unfolding next_write
which_write v c r = by (carries v c) (is_bound v.phase) (is_ended v.phase) (is_protected_volume v) refl
  where
    by : (carry bound ended guarded : Bool) → carries v c ≡ carry
        → (if not carry then (if ended then None else Some (write_reference v c)) else if not bound then
        (if ended || not guarded then None else Some (write_bound v)) else claim_write v c) ≡ Some r → BindingWrite v c r
    by false bound true guarded c1 e = none_some e
    by false bound false guarded c1 e = written v c _ r e Refers
    by true false true guarded c1 e = none_some e
    by true false false false c1 e = none_some e
    by true false false true c1 e = written v c _ r e (Bounds c1)
    by true true ended guarded c1 e = claim_writes v c r c1 e

-- what a binding asks, and that its volume has no namespace and its claim a UID
pub record IsOpen (v : VolumeData) (c : ClaimData) (r : Request) : Type 0 where
  pub write : BindingWrite v c r
  pub known : is_some c.meta.uid ≡ true
  pub placed : is_empty v.meta.namespace ≡ true

is_open : (v : VolumeData) (c : ClaimData) (r : Request) → bind_call v c ≡ Some r → IsOpen v c r
is_open v c r = by (may_bind v c) refl
  where
    by : (b : Bool) → may_bind v c ≡ b → (if b then next_write v c else None) ≡ Some r → IsOpen v c r
    by true may e =
        let front = and_parts _ _ (and_parts _ _ (and_parts _ _ may).0).0 in
        record { write = which_write v c r e; known = front.0; placed = front.1 }
    by false may e = none_some e

-- the reference to a claim carries it
pub reference_carries : (c : ClaimData) → is_some c.meta.uid ≡ true → refers_carrying (Some (ref_to c)) c ≡ true
reference_carries c known = by c.meta.uid refl known
  where
    by : (u : Option Uid) → c.meta.uid ≡ u → is_some u ≡ true → (names_claim (ref_to c) c && uid_carries u c) ≡ true
    by None e h = absurd (true≢false (sym h))
    by (Some u) e h =
        let namespaces : bytes_eq c.meta.namespace c.meta.namespace ≡ true = (bytes_eq-Decides c.meta.namespace c.meta.namespace).1 refl in
        let names : bytes_eq c.meta.name c.meta.name ≡ true = (bytes_eq-Decides c.meta.name c.meta.name).1 refl in
        let same : (u.0 == u.0) ≡ true = (Decides-eqb u.0 u.0).1 refl in
        rw (namespaces, names, e) same

-- what an update of a volume writes has its reference
updated_reference : (old : Object) (new w : VolumeData) (n : ℕ) → Volume w ≡ updated_object old (Volume new) n → w.claim_ref ≡ new.claim_ref
unfolding updated_object with_status_of with_meta
updated_reference (Volume a) new w n e = ap (λ (x : VolumeData). x.claim_ref) (same_volume w _ e)
updated_reference old new w n e = ap (λ (x : VolumeData). x.claim_ref) (same_volume w _ e)

updated_kind : (old : Object) (new : VolumeData) (n : ℕ) → kind_index (key_of (updated_object old (Volume new) n)).kind ≡ 2
unfolding updated_object with_status_of with_meta
updated_kind (Volume a) new n = refl
updated_kind old new n = refl

phased_reference : (v w : VolumeData) (new : Object) (n : ℕ) → with_status (statuses.Volume volumes.Bound) (Volume v) ≡ Some new → Volume w ≡ at_version new n → w.claim_ref ≡ v.claim_ref
unfolding with_status at_version with_meta
phased_reference v w new n fits e =
    let is : Volume w ≡ at_version (Volume (record v { phase = volumes.Bound })) n = e ∙ ap (λ x. at_version x n) (sym (same_Some _ _ fits)) in
    ap (λ (x : VolumeData). x.claim_ref) (same_volume w _ is)

other_kind : {G : Type 0} (a b : Object) → key_of a ≡ key_of b → (kind_index (key_of a).kind ≡ kind_index (key_of b).kind → ⊥) → G
other_kind a b e no_kind = absurd (no_kind (ap (λ k. kind_index k.kind) e))

completed_key : (c : ClaimData) (v : VolumeData) → key_of (Claim c) ≡ key_of (Claim (completed_with c v))
unfolding completed_with
completed_key c v =
    let same = placed_same (is_empty c.volume_name) bound_by_controller c.meta in
    λ i. record { kind = kinds.PersistentVolumeClaim; namespace = sym same.0 i; name = sym same.1 i }

taken_reference : (v : VolumeData) (c : ClaimData) → (taken_for v c).claim_ref ≡ Some (ref_to c)
unfolding taken_for
taken_reference v c = refl

module _ (e : Entry) (before : List Entry) (a : IsAnswered e before) (v : VolumeData) (c : ClaimData) (volume : ToldThis v before) (claim : ToldThisClaim c before) where
  -- a volume in the answer carries the claim
  volume_carries : (r : Request) → e.request ≡ r → BindingWrite v c r → is_some c.meta.uid ≡ true → is_empty v.meta.namespace ≡ true → (w : VolumeData)
      → e.reply ≡ replies.Done (Volume w) → carries w c ≡ true
  volume_carries _ asked Refers known placed w done =
      let f : Writes (world a.setup a.rest) e.kind (write_reference v c) (Volume w) =
      subst (λ q. Writes (world a.setup a.rest) e.kind q (Volume w)) asked (done_writes e before a (Volume w) done (ap deletes asked)) in
      ap (λ x. refers_carrying x c) (updated_reference f.old (taken_for v c) w _ f.is ∙ taken_reference v c) ∙ reference_carries c known
  volume_carries _ asked (Bounds carry) known placed w done =
      let f : Writes (world a.setup a.rest) e.kind (write_bound v) (Volume w) =
      subst (λ q. Writes (world a.setup a.rest) e.kind q (Volume w)) asked (done_writes e before a (Volume w) done (ap deletes asked)) in
      let keyed : key_of (Volume v) ≡ volume_key v.meta.name = λ i. record { kind = kinds.PersistentVolume; namespace = empty_is v.meta.namespace placed i; name = v.meta.name } in
      let it : f.old ≡ Volume v = stands_it a.setup a.rest (Volume v) f.old (volume_key v.meta.name) (volume_stood e before a v volume) keyed f.there f.version in
      ap (λ x. refers_carrying x c) (phased_reference v w f.new _ (subst (λ x. with_status (statuses.Volume volumes.Bound) x ≡ Some f.new) it f.fits) f.is) ∙ carry
  volume_carries _ asked (Completes carry) known placed w done =
      let f : Writes (world a.setup a.rest) e.kind (write_completion v c) (Volume w) =
      subst (λ q. Writes (world a.setup a.rest) e.kind q (Volume w)) asked (done_writes e before a (Volume w) done (ap deletes asked)) in
      let next = updated_next (world a.setup a.rest).store e.kind (Claim (completed_with c v)) (Some c.meta.version) (Volume w) f in
      let it : f.old ≡ Claim c = stands_it a.setup a.rest (Claim c) f.old (key_of (Claim (completed_with c v))) (claim_stood e before a c claim) (completed_key c v) f.there f.version in
      other_kind (Volume w) (Claim c) (next.key ∙ ap key_of it) (λ k. omega (arith, k))
  volume_carries _ asked (Shows carry) known placed w done =
      let f : Writes (world a.setup a.rest) e.kind (write_claim_status v c) (Volume w) =
      subst (λ q. Writes (world a.setup a.rest) e.kind q (Volume w)) asked (done_writes e before a (Volume w) done (ap deletes asked)) in
      let next = status_next (world a.setup a.rest).store e.kind (claim_key c.meta.namespace c.meta.name) (statuses.Claim _ v.modes (Some v.amount)) (Some c.meta.version) (Volume w) f in
      let it : f.old ≡ Claim c = stands_it a.setup a.rest (Claim c) f.old (claim_key c.meta.namespace c.meta.name) (claim_stood e before a c claim) refl f.there f.version in
      other_kind (Volume w) (Claim c) (next.key ∙ ap key_of it) (λ k. omega (arith, k))

  -- a claim in the answer is carried by the volume
  claim_carried : (r : Request) → e.request ≡ r → BindingWrite v c r → is_empty v.meta.namespace ≡ true → (d : ClaimData)
      → e.reply ≡ replies.Done (Claim d) → carries v d ≡ true
  claim_carried _ asked Refers placed d done =
      let f : Writes (world a.setup a.rest) e.kind (write_reference v c) (Claim d) =
      subst (λ q. Writes (world a.setup a.rest) e.kind q (Claim d)) asked (done_writes e before a (Claim d) done (ap deletes asked)) in
      let k = ap (λ o. kind_index (key_of o).kind) f.is ∙ updated_kind f.old (taken_for v c) _ in
      absurd (omega (arith, k))
  claim_carried _ asked (Bounds carry) placed d done =
      let f : Writes (world a.setup a.rest) e.kind (write_bound v) (Claim d) =
      subst (λ q. Writes (world a.setup a.rest) e.kind q (Claim d)) asked (done_writes e before a (Claim d) done (ap deletes asked)) in
      let next = status_next (world a.setup a.rest).store e.kind (volume_key v.meta.name) (statuses.Volume volumes.Bound) (Some v.meta.version) (Claim d) f in
      let keyed : key_of (Volume v) ≡ volume_key v.meta.name = λ i. record { kind = kinds.PersistentVolume; namespace = empty_is v.meta.namespace placed i; name = v.meta.name } in
      let it : f.old ≡ Volume v = stands_it a.setup a.rest (Volume v) f.old (volume_key v.meta.name) (volume_stood e before a v volume) keyed f.there f.version in
      other_kind (Claim d) (Volume v) (next.key ∙ ap key_of it) (λ k. omega (arith, k))
  claim_carried _ asked (Completes carry) placed d done =
      let f : Writes (world a.setup a.rest) e.kind (write_completion v c) (Claim d) =
      subst (λ q. Writes (world a.setup a.rest) e.kind q (Claim d)) asked (done_writes e before a (Claim d) done (ap deletes asked)) in
      let next = updated_next (world a.setup a.rest).store e.kind (Claim (completed_with c v)) (Some c.meta.version) (Claim d) f in
      let it : f.old ≡ Claim c = stands_it a.setup a.rest (Claim c) f.old (key_of (Claim (completed_with c v))) (claim_stood e before a c claim) (completed_key c v) f.there f.version in
      carries_on v c d (next.key ∙ ap key_of it) (next.keeps.uid ∙ ap (λ o. (meta_of o).uid) it) ∙ carry
  claim_carried _ asked (Shows carry) placed d done =
      let f : Writes (world a.setup a.rest) e.kind (write_claim_status v c) (Claim d) =
      subst (λ q. Writes (world a.setup a.rest) e.kind q (Claim d)) asked (done_writes e before a (Claim d) done (ap deletes asked)) in
      let next = status_next (world a.setup a.rest).store e.kind (claim_key c.meta.namespace c.meta.name) (statuses.Claim _ v.modes (Some v.amount)) (Some c.meta.version) (Claim d) f in
      let it : f.old ≡ Claim c = stands_it a.setup a.rest (Claim c) f.old (claim_key c.meta.namespace c.meta.name) (claim_stood e before a c claim) refl f.there f.version in
      carries_on v c d (next.key ∙ ap key_of it) (next.keeps.uid ∙ ap (λ o. (meta_of o).uid) it) ∙ carry

-- what goes on

-- the volume, or the claim, that an answer to a binding tells
abbrev TellsCarrying : Machine → Reply → Type 0
TellsCarrying (Binds v c) reply = ((w : VolumeData) → reply ≡ replies.Done (Volume w) → carries w c ≡ true) × ((d : ClaimData) → reply ≡ replies.Done (Claim d) → carries v d ≡ true)
TellsCarrying machine reply = ⊤

unbound_suits : (w : VolumeData) (next : Machine) → unbound_to w ≡ Some next → MachineSuits next
unbound_suits w next = by (refers_by_uid w)
  where
    by : (b : Bool) → (if b then None else machine_for w (free_action w)) ≡ Some next → MachineSuits next
    by true e = none_some e
    by false e = for_suits w (free_action w) next e

confirmed_suits : (c : ClaimData) (s : ClaimStep) (next : Machine) → confirmed_for c s ≡ Some next → MachineSuits next
confirmed_suits c steps.Lost next e = subst MachineSuits (one _ next e) tt
confirmed_suits c steps.Nothing next e = none_some e
confirmed_suits c steps.Bind next e = none_some e
confirmed_suits c steps.ReadVolume next e = none_some e
confirmed_suits c steps.AssignClass next e = none_some e

moved_suits : (machine next : Machine) (reply : Reply) → TellsCarrying machine reply → moved machine reply ≡ Some next → MachineSuits next
unfolding moved
moved_suits (Binds v c) next (replies.Done (Volume w)) t e = subst MachineSuits (one _ next e) (inr (t.0 w refl))
moved_suits (Binds v c) next (replies.Done (Claim d)) t e = subst MachineSuits (one _ next e) (inr (t.1 d refl))
moved_suits (Unbinds v) next (replies.Done (Volume w)) t e = unbound_suits w next e
moved_suits (ReadsClaim v) next (replies.Refused refusals.NotFound) t e = for_suits v (volume_read v None) next e
moved_suits (ReadsClaim v) next (replies.Found o) t e = for_suits v (volume_read v (Some o)) next e
moved_suits (ReadsVolume c) next (replies.Refused refusals.NotFound) t e = confirmed_suits c (claim_read c None) next e
moved_suits (ReadsVolume c) next (replies.Found o) t e = confirmed_suits c (claim_read c (Some o)) next e
moved_suits machine next reply t e = none_some e

tells_carrying : (machine : Machine) (e : Entry) (before : List Entry) → IsAnswered e before → MachineKeeps machine before → call_of machine ≡ Some e.request → TellsCarrying machine e.reply
unfolding call_of
tells_carrying (Binds v c) e before a kept call =
    let o = is_open v c e.request call in (
      λ w done. volume_carries e before a v c kept.0 kept.1 e.request refl o.write o.known o.placed w done,
      λ d done. claim_carried e before a v c kept.0 kept.1 e.request refl o.write o.placed d done,
    )
tells_carrying (Frees v) e before a kept call = tt
tells_carrying (MarksBound v) e before a kept call = tt
tells_carrying (ReadsClaim v) e before a kept call = tt
tells_carrying (Releases v) e before a kept call = tt
tells_carrying (Unbinds v) e before a kept call = tt
tells_carrying (ReadsVolume c) e before a kept call = tt
tells_carrying (AssignsClass c x) e before a kept call = tt
tells_carrying (Loses c) e before a kept call = tt

-- what an answer makes of a machine suits
pub goes_on_suits : (machine next : Machine) (e : Entry) (before : List Entry) → IsAnswered e before → MachineKeeps machine before → call_of machine ≡ Some e.request
    → moved machine e.reply ≡ Some next → MachineSuits next
goes_on_suits machine next e before a kept call is = moved_suits machine next e.reply (tells_carrying machine e before a kept call) is
