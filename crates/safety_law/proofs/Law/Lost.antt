-- No entry that writes phase Lost is answered Done.
use Rattle.std.proofs.Common.{sym, refl, subst, inl, inr, ap, ◌∙◌, true≢false}
use Rattle.std.specs.Prelude.{ℕ, ◌≡◌, Bool, true, false, List, [], ◌∷◌, Option, Some, is_some}
use Rattle.kube_parts.specs.declared.uid.Uid.{Uid}
use Rattle.kube_objects.specs.declared.key.Key.{Key}
use Rattle.kube_parts.specs.declared.parts.ClaimPhase.TheVariants as claims
use Rattle.kube_parts.specs.declared.parts.ClaimPhase.{ClaimPhase}
use Rattle.kube_parts.specs.declared.parts.Modes.{Modes}
use Rattle.kube_objects.specs.declared.objects.Amount.{Amount}
use Rattle.kube_objects.specs.declared.objects.Claim.{Claim as ClaimData}
use Rattle.kube_objects.specs.declared.objects.Object.{Object}
use Rattle.kube_objects.specs.declared.objects.Object.TheVariants.{Class, Node, Volume, Claim, Pod}
use Rattle.kube_objects.specs.Keys.{meta_of, key_of, row_at}
use Rattle.kube_objects.specs.Bindings.{is_completed, ref_uid}
use Rattle.call_types.specs.declared.entry.Entry.{Entry}
use Rattle.call_types.specs.declared.setup.Setup.{Setup}
use Rattle.call_types.specs.declared.request.NewStatus.{NewStatus}
use Rattle.call_types.specs.declared.request.NewStatus.TheVariants as statuses
use Rattle.call_types.specs.declared.request.SeatKind.{SeatKind}
use Rattle.call_types.specs.declared.request.SeatKind.TheVariants as seats
use Rattle.call_types.specs.declared.request.Request.TheVariants as requests
use Rattle.call_types.specs.declared.reply.Reply.{Reply}
use Rattle.call_types.specs.declared.reply.Reply.TheVariants.{Done}
use Rattle.binder_model.specs.Answers.{refuse, is_user, is_other_version, with_status, outcome, reply_of}
use Rattle.binder_model.specs.Devices.{device_answer}
use Rattle.binder_model.specs.ObjectKeys.{volume_key}
use Rattle.binder_model.specs.BinderLicence.{MayLose, WasReadLost, IsCompletedVersion, IsNotCarrying}
use Rattle.binder_model.specs.Licence.{ClaimPhaseMay, Licensed, Loses}
use Rattle.binder_model.specs.Told.{ToldClaim, After, TellsLive, own}
use Rattle.binder_model.specs.World.{World, world, effect, on_devices, reply_to}
use Rattle.binder_model.specs.SchedulerLicence.{MayAssign}
use Rattle.safety_law.proofs.Invariant.Carried.{carried}
use Rattle.safety_law.specs.Invariant.Was.{WasBound}
use Rattle.safety_law.specs.Invariant.Invariant.{NamesAtMost}
use Rattle.safety_law.proofs.Invariant.Came.{fresh, claim_came, row_was}
use Rattle.safety_law.proofs.Invariant.KeptBindings.{at_most_before, later_bound}
use Rattle.safety_law.specs.Invariant.Good.{Good}
use Rattle.safety_law.proofs.Invariant.Known.{invariant_of, told_was, told_claim, live_told}
use Rattle.safety_law.proofs.Invariant.Holders.{OwnStep, Own, Others, own_step}
use Rattle.safety_law.proofs.Law.Allowed.{at_claim}
use Rattle.safety_law.proofs.Law.Runs.{known, run_good}
use Rattle.binder_model.specs.Promises.{LostIsNeverDone, BindsHaveEvidence}
use Rattle.safety_law.proofs.Law.FirstWorld.{first_world_is_good}
use Rattle.safety_law.proofs.Law.Law.{room_for}
use Rattle.safety_law.proofs.Invariant.Tests.{known_uid}
use Rattle.std.proofs.Common.{arith}
use Rattle.binder_model.specs.Safe.{was_imported_as_lost}
use Rattle.safety_law.specs.Invariant.Writes.{IsStatus}
use Rattle.safety_law.proofs.Invariant.Whence.{status_next}
use Rattle.std.proofs.lemmas.Option.{none-some}
use Rattle.kube_objects.specs.Keys.{AreRows}
use Rattle.call_types.specs.declared.request.Request.{Request}
use Rattle.binder_model.specs.Answers.{Says, Stores, Removes, after}
use Rattle.binder_model.specs.World.{Effect, OnStore, OnDevices, SetsMoment, world_after}
use Rattle.model_laws.proofs.Replies.{done_writes_or_deletes_again}
use Rattle.safety_law.specs.Invariant.Writes.{EffectOf}
use Rattle.safety_law.proofs.Invariant.Effects.{effect_form}
use Rattle.kube_objects.specs.declared.objects.Volume.{Volume as VolumeData}
use Rattle.model_laws.specs.Stood.{Stood}
use Rattle.safety_law.proofs.Invariant.Came.{old_stood}

-- a claim that was completed, and not imported as Lost, was bound
was_bound : (setup : Setup) (past : List Entry) → Good setup past → (c : ClaimData) → Stood setup past (Claim c) → is_completed c ≡ true
    → was_imported_as_lost setup c.meta.uid ≡ false → WasBound setup past c
was_bound setup [] g c was done lost = g.completed (key_of (Claim c)) c was done lost
was_bound setup (e ∷ past) g c was done lost = elim was [
  | inl before ↦ later_bound setup e past c (was_bound setup past g.0 c before done lost)
  | inr now ↦ g.3.completed (key_of (Claim c)) c now done lost
]

-- the claim of this UID is there, and names the volume at most
record IsHereStill (setup : Setup) (past : List Entry) (u : Uid) (name : List ℕ) : Type 0 where
  key : Key
  claim : ClaimData
  there : row_at key (world setup past).store.rows ≡ Some (Claim claim)
  its : claim.meta.uid ≡ Some u
  most : NamesAtMost name claim

-- what is there and was there before this entry was there in between
here_before : (setup : Setup) (e : Entry) (past : List Entry) → Good setup (e ∷ past) → (u : Uid) (name : List ℕ) (c : ClaimData)
    → Stood setup past (Claim c) → c.meta.uid ≡ Some u → IsHereStill setup (e ∷ past) u name → IsHereStill setup past u name
here_before setup e past g u name c was its h = elim (g.1.row h.key (Claim h.claim) h.there) [
  | inl there ↦ record { key = h.key; claim = h.claim; there = there; its = h.its; most = h.most }
  | inr new ↦ elim (claim_came setup past h.claim new.write) [
    | inl began ↦ fresh began.room c.meta.uid (old_stood setup past (Claim c) was) (its ∙ sym h.its ∙ began.first.uid)
    | inr came ↦ record {
      key = key_of (Claim h.claim);
      claim = came.old;
      there = came.next.there;
      its = sym came.next.keeps.uid ∙ h.its;
      most =
          at_most_before name came.old h.claim came.next.keeps h.most;
    }
  ]
]

-- evidence after some telling includes the telling
told_of : (P : List Entry → Type 0) → ((e : Entry) (mine : List Entry) → P mine → P (e ∷ mine)) → (Q : Entry → Type 0) → (mine : List Entry) → After P Q mine → P mine
told_of P up Q [] h = absurd h
told_of P up Q (e ∷ mine) h = elim h [ inl now ↦ up e mine now.1 | inr more ↦ up e mine (told_of P up Q mine more) ]

same_claim_uid : (a : ClaimData) (u : Uid) (c : ClaimData) → a.meta.uid ≡ Some u → IsCompletedVersion a c → c.meta.uid ≡ Some u
same_claim_uid a u c known v = v.same.second ∙ sym v.same.first ∙ known

not_carrying : (a : ClaimData) (v : VolumeData) → IsNotCarrying a (Some (Volume v)) → a.meta.uid ≡ ref_uid v.claim_ref → ⊥
not_carrying a v other same = other.2 (same ∙ other.1)

-- a read cannot have found the volume of a claim lost that is there still
not_lost : (setup : Setup) (past : List Entry) → Good setup past → (seat : ℕ) (a : ClaimData) (u : Uid) → a.meta.uid ≡ Some u
    → was_imported_as_lost setup (Some u) ≡ false → IsHereStill setup past u a.volume_name → WasReadLost (own seat past) a → ⊥
not_lost setup [] g seat a u known lost here h = absurd h
not_lost setup (e ∷ past) g seat a u known lost here h = by (not_lost setup past g.0 seat a u known lost) (own_step seat e past)
  where
    before : ToldClaim (IsCompletedVersion a) (own seat past) → IsHereStill setup past u a.volume_name
    before p =
        let t = told_claim setup past (own seat past) (told_was setup past g.0 seat) (IsCompletedVersion a) p in
        here_before setup e past g u a.volume_name t.0 t.1 (same_claim_uid a u t.0 known t.2) here

    read : TellsLive (volume_key a.volume_name) (IsNotCarrying a) e → ToldClaim (IsCompletedVersion a) (own seat past) → ⊥
    read q p =
        let inv = invariant_of setup past g.0 in
        let t = told_claim setup past (own seat past) (told_was setup past g.0 seat) (IsCompletedVersion a) p in
        let its = same_claim_uid a u t.0 known t.2 in
        let d = before p in
        let b = was_bound setup past g.0 t.0 t.1 t.2.completed (ap (was_imported_as_lost setup) its ∙ lost) in
        let c = carried b.volume t.0 b.carries in
        let one_u : Some c.uid ≡ Some u = sym c.its ∙ its in
        let named = (inv.placed b.volume b.was).titled in
        let follows : d.claim.volume_name ≡ b.volume.meta.name =
        elim (inv.later (Claim t.0) d.key (Claim d.claim) t.1 d.there (d.its ∙ sym its)).keeps.named [ inl none ↦ absurd (named (sym b.names ∙ none)) | inr same ↦ same ∙ b.names ] in
        let name : a.volume_name ≡ b.volume.meta.name = elim d.most [ inl none ↦ absurd (named (sym follows ∙ none)) | inr is ↦ sym is ∙ follows ] in
        let s = inv.binding b.volume c.reference c.uid d.key d.claim b.was b.bound c.refers d.there (d.its ∙ sym one_u) (inr follows) in
        let there : row_at (volume_key a.volume_name) (world setup past).store.rows ≡ Some (Volume s.volume) = ap (λ n. row_at (volume_key n) (world setup past).store.rows) name ∙ s.there in
        let answer = live_told setup e past g (volume_key a.volume_name) (IsNotCarrying a) q in
        let other : IsNotCarrying a (Some (Volume s.volume)) = subst (IsNotCarrying a) there answer in
        let refers : ref_uid s.volume.claim_ref ≡ Some u = ap ref_uid s.refers ∙ c.refers.known ∙ one_u in
        not_carrying a s.volume other (known ∙ sym refers)

    cases : (IsHereStill setup past u a.volume_name → WasReadLost (own seat past) a → ⊥) → WasReadLost (own seat past) a → ⊥
    cases f more = f (before (told_of (ToldClaim (IsCompletedVersion a)) (λ x mine y. inr y) (TellsLive (volume_key a.volume_name) (IsNotCarrying a)) (own seat past) more)) more

    by : (IsHereStill setup past u a.volume_name → WasReadLost (own seat past) a → ⊥) → OwnStep seat e past → ⊥
    by f (Own at same) = elim (let x : WasReadLost (e ∷ own seat past) a = subst (λ (m : List Entry). WasReadLost m a) same h in x) [ inl now ↦ read now.0 now.1 | inr more ↦ cases f more ]
    by f (Others apart same) = cases f (subst (λ (m : List Entry). WasReadLost m a) same h)

-- a status that is answered Done was written on an object that stands

abbrev is_done : Reply → Bool
is_done (Done o) = true
is_done r = false

abbrev done_of : Object → Reply → Object
done_of none (Done o) = o
done_of none r = none

abbrev is_status : Request → Bool
is_status (requests.UpdateStatus key status given) = true
is_status request = false

status_done : (setup : Setup) (w : World) (kind : SeatKind) (key : Key) (status : NewStatus) (given : Option ℕ) (o : Object)
    → AreRows w.store.rows → reply_to (effect setup w kind (requests.UpdateStatus key status given)) ≡ Done o → IsStatus w.store kind key status given o
unfolding reply_to reply_of world_after after device_answer
status_done setup w kind key status given o rows done = by (effect setup w kind asked) refl (effect_form setup w kind asked rows) done
  where
    asked : Request
    asked = requests.UpdateStatus key status given

    by : (x : Effect) → effect setup w kind (requests.UpdateStatus key status given) ≡ x
        → EffectOf setup w kind (requests.UpdateStatus key status given) x → reply_to x ≡ Done o → IsStatus w.store kind key status given o
    by (OnStore (Says reply)) is form e =
        let again = done_writes_or_deletes_again setup w kind (requests.UpdateStatus key status given) o (ap reply_to is ∙ e) (ap (λ x. (world_after w x).store.version) is) in
        absurd (true≢false (ap is_status again.asked))
    by (OnStore (Stores change new)) is form e = subst (IsStatus w.store kind key status given) (ap (done_of new) e) form
    by (OnStore (Removes new)) is form e = absurd (true≢false (sym (ap is_done e)))
    by (OnDevices a) is form e = absurd (none-some _ form.1)
    by (SetsMoment at) is form e = absurd (true≢false (ap is_status form))

-- the claim on which it was written
claim_on : (phase : ClaimPhase) (modes : Modes) (amount : Option Amount) (old : Object)
    → is_some (with_status (statuses.Claim phase modes amount) old) ≡ true → (a : ClaimData) × (old ≡ Claim a)
unfolding with_status
claim_on phase modes amount (Claim a) e = (a, refl)
claim_on phase modes amount (Class a) e = absurd (true≢false (sym e))
claim_on phase modes amount (Node a) e = absurd (true≢false (sym e))
claim_on phase modes amount (Volume a) e = absurd (true≢false (sym e))
claim_on phase modes amount (Pod a) e = absurd (true≢false (sym e))

no_lost : (setup : Setup) (past : List Entry) → Good setup past
    → (seat : ℕ) (kind : SeatKind) (key : Key) (modes : Modes) (amount : Option Amount) (given : Option ℕ)
    → Licensed kind (own seat past) (requests.UpdateStatus key (statuses.Claim claims.Lost modes amount) given)
    → is_user kind ≡ false → (a : ClaimData) → row_at key (world setup past).store.rows ≡ Some (Claim a)
    → is_other_version given a.meta.version ≡ false → was_imported_as_lost setup a.meta.uid ≡ false → ⊥
no_lost setup past g seat seats.User key modes amount given l c a there v lost = absurd (true≢false c)
no_lost setup past g seat seats.Binder key modes amount given l c a there v lost =
    let inv = invariant_of setup past g in
    let row : MayLose (own seat past) a modes amount =
    at_claim setup past (own seat past) inv (known setup past g seat) a key given (ClaimPhaseMay Loses (own seat past) modes amount) l.1.0 l.1.1 there v in
    let b = inv.completed key a there row.completed lost in
    let u = known_uid a.meta.uid (inv.has (Claim a) (row_was setup past key (Claim a) there)) in
    elim row.why [
      | inl none ↦ (inv.placed b.volume b.was).titled (sym b.names ∙ none)
      | inr read ↦ not_lost setup past g seat a u.0 u.1 (ap (was_imported_as_lost setup) (sym u.1) ∙ lost) (record { key = key; claim = a; there = there; its = u.1; most = inr refl }) read
    ]
no_lost setup past g seat kind key modes amount given l c a there v lost = absurd l.1

-- in every run, no entry that writes phase Lost on a claim which was not imported as Lost is answered Done
pub lost_is_never_done : LostIsNeverDone
lost_is_never_done setup e past run key modes amount given o asked lost done =
    let status = statuses.Claim claims.Lost modes amount in
    let start = first_world_is_good setup run.imports in
    let short = room_for setup start (e ∷ past) run.short in
    let g = run_good setup start.invariant past (omega (arith, short)) run.run.0 in
    let reply : reply_to (effect setup (world setup past) e.kind (requests.UpdateStatus key status given)) ≡ Done o =
    ap (λ x. reply_to (effect setup (world setup past) e.kind x)) (sym asked) ∙ sym run.run.1 ∙ done in
    let u = status_done setup (world setup past) e.kind key status given o (invariant_of setup past g).order reply in
    let a = claim_on claims.Lost modes amount u.old (ap is_some u.fits) in
    let next = status_next (world setup past).store e.kind key status given o u in
    let same : (meta_of o).uid ≡ a.0.meta.uid = next.keeps.uid ∙ ap (λ x. (meta_of x).uid) a.1 in
    no_lost setup past g e.seat e.kind key modes amount given (subst (Licensed e.kind (own e.seat past)) asked run.run.2) u.controller a.0
    (u.there ∙ ap (λ (x : Object). Some x) a.1) (ap (λ (x : Object). is_other_version given (meta_of x).version) (sym a.1) ∙ u.version) (ap (was_imported_as_lost setup) (sym same) ∙ lost)

-- each BindPod that was answered Done has the evidence of its row

user_bind : (setup : Setup) (w : World) (key : Key) (uid : Uid) (node : List ℕ)
    → is_done (reply_to (effect setup w seats.User (requests.BindPod key uid node))) ≡ true → ⊥
unfolding effect on_devices device_answer outcome refuse reply_to reply_of
user_bind setup w key uid node e = true≢false (sym e)

bind_row : (setup : Setup) (w : World) (mine : List Entry) (kind : SeatKind) (key : Key) (uid : Uid) (node : List ℕ)
    → Licensed kind mine (requests.BindPod key uid node) → is_done (reply_to (effect setup w kind (requests.BindPod key uid node))) ≡ true
    → MayAssign mine key uid node
bind_row setup w mine seats.User key uid node l e = absurd (user_bind setup w key uid node e)
bind_row setup w mine seats.Scheduler key uid node l e = l.1
bind_row setup w mine kind key uid node l e = absurd l.1

pub binds_have_evidence : BindsHaveEvidence
binds_have_evidence setup e past run key uid node o asked done =
    let reply : reply_to (effect setup (world setup past) e.kind (requests.BindPod key uid node)) ≡ Done o =
    ap (λ x. reply_to (effect setup (world setup past) e.kind x)) (sym asked) ∙ sym run.run.1 ∙ done in
    bind_row setup (world setup past) (own e.seat past) e.kind key uid node (subst (Licensed e.kind (own e.seat past)) asked run.run.2) (ap is_done reply)
