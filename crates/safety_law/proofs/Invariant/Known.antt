-- What is known of the store by what a seat was told.
use Rattle.std.proofs.Common.{sym, refl, subst, inl, inr, ap, ◌∙◌}
use Rattle.std.specs.Prelude.{if◌then◌else◌, ℕ, ◌≡◌, ◌==◌, Bool, true, false, List, [], ◌∷◌, Option, Some, None}
use Rattle.kube_parts.specs.declared.uid.Uid.{Uid}
use Rattle.kube_objects.specs.declared.objects.Ref.{Ref}
use Rattle.kube_objects.specs.declared.objects.Volume.{Volume as VolumeData}
use Rattle.kube_objects.specs.declared.objects.Claim.{Claim as ClaimData}
use Rattle.kube_objects.specs.declared.objects.Object.{Object}
use Rattle.kube_objects.specs.declared.objects.Object.TheVariants.{Class, Node, Volume, Claim, Pod}
use Rattle.kube_objects.specs.Keys.{key_of, row_at}
use Rattle.kube_objects.proofs.KeyOrder.{row_at_key}
use Rattle.call_types.specs.declared.entry.Entry.{Entry}
use Rattle.call_types.specs.declared.setup.Setup.{Setup}
use Rattle.call_types.specs.declared.reply.Reply.{Reply}
use Rattle.binder_model.specs.Told.{SomeOf, ToldObject, ToldVolume, ToldClaim, IsVolumeWith, IsClaimWith, objects_in, TellsLive, IsLiveAnswer, own}
use Rattle.binder_model.specs.ObjectKeys.{claim_key}
use Rattle.binder_model.specs.At.{IsElsewhere}
use Rattle.binder_model.specs.BinderLicence.{IsReferring, IsGone, WasReadGone}
use Rattle.binder_model.specs.World.{world}
use Rattle.model_laws.specs.Reads.{found}
use Rattle.safety_law.specs.Invariant.Writes.{IsIn}
use Rattle.safety_law.specs.Invariant.Was.{IsNotThere, IsAway}
use Rattle.safety_law.specs.Invariant.Invariant.{Invariant, IsReferred, IsOld}
use Rattle.safety_law.specs.Invariant.Good.{Good, IsTrue}
use Rattle.safety_law.proofs.Invariant.Came.{row_was, older}
use Rattle.safety_law.proofs.Invariant.KeptBindings.{kept_not_there, other_stays}
use Rattle.kube_objects.specs.declared.key.Key.{Key}
use Rattle.call_types.specs.declared.request.Request.TheVariants as requests
use Rattle.model_laws.specs.Stood.{Stood}
use Rattle.binder_model.specs.World.{IsHistory}
use Rattle.model_laws.proofs.Truths.{entry_stood, told_is_true, told_live_is_true_now}

pub invariant_of : (setup : Setup) (past : List Entry) → Good setup past → Invariant setup past
invariant_of setup [] g = g
invariant_of setup (e ∷ past) g = g.3

-- an element of which P holds
pub some_in : (P : Object → Type 0) (os : List Object) → SomeOf P os → (o : Object) × IsIn o os × P o
some_in P [] h = absurd h
some_in P (o ∷ os) h = elim h [
  | inl is ↦ (o, inl refl, is)
  | inr more ↦ let r = some_in P os more in (r.0, inr r.1, r.2)
]

-- a good history is a history
history_of : (setup : Setup) (past : List Entry) → Good setup past → IsHistory setup past
history_of setup [] g = tt
history_of setup (e ∷ past) g = (history_of setup past g.0, g.2)

-- what an entry tells stood in the store
pub entry_tells : (setup : Setup) (e : Entry) (past : List Entry) → Good setup (e ∷ past) → (o : Object) → IsIn o (objects_in e.reply) → Stood setup (e ∷ past) o
entry_tells setup e past g o h = entry_stood setup e past o (subst (λ (r : Reply). IsIn o (objects_in r)) g.2 h)

-- an object that was told, of which P holds
pub told_one : (P : Object → Type 0) (mine : List Entry) → ToldObject P mine → (o : Object) × ToldObject (λ x. x ≡ o) mine × P o
told_one P [] h = absurd h
told_one P (e ∷ mine) h = elim h [
  | inl now ↦ let r = some_in P (objects_in e.reply) now.1 in (r.0, inl (now.0, r.1), r.2)
  | inr more ↦ let r = told_one P mine more in (r.0, inr r.1, r.2)
]

-- each object that the seat was told stood in the store
pub told_was : (setup : Setup) (past : List Entry) → Good setup past → (seat : ℕ) → IsTrue setup past (own seat past)
told_was setup past g seat P h = let r = told_one P (own seat past) h in (r.0, told_is_true setup past seat r.0 (history_of setup past g) r.1, r.2)

pub told_volume : (setup : Setup) (past mine : List Entry) → IsTrue setup past mine → (P : VolumeData → Type 0) → ToldVolume P mine
    → (v : VolumeData) × Stood setup past (Volume v) × P v
told_volume setup past mine t P h = let r = t (IsVolumeWith P) h in by r.0 r.1 r.2
  where
    by : (o : Object) → Stood setup past o → IsVolumeWith P o → (v : VolumeData) × Stood setup past (Volume v) × P v
    by (Volume v) was is = (v, was, is)
    by (Class x) was is = absurd is
    by (Node x) was is = absurd is
    by (Claim x) was is = absurd is
    by (Pod x) was is = absurd is

pub told_claim : (setup : Setup) (past mine : List Entry) → IsTrue setup past mine → (P : ClaimData → Type 0) → ToldClaim P mine
    → (c : ClaimData) × Stood setup past (Claim c) × P c
told_claim setup past mine t P h = let r = t (IsClaimWith P) h in by r.0 r.1 r.2
  where
    by : (o : Object) → Stood setup past o → IsClaimWith P o → (c : ClaimData) × Stood setup past (Claim c) × P c
    by (Claim c) was is = (c, was, is)
    by (Class x) was is = absurd is
    by (Node x) was is = absurd is
    by (Volume x) was is = absurd is
    by (Pod x) was is = absurd is

-- a claim that was told elsewhere is gone or elsewhere
pub elsewhere : (setup : Setup) (past mine : List Entry) → Invariant setup past → IsTrue setup past mine → (name : List ℕ) (uid : Uid)
    → ToldClaim (IsElsewhere name uid) mine → IsAway (world setup past) uid name
elsewhere setup past mine inv t name uid h k d there its =
    let r = told_claim setup past mine t (IsElsewhere name uid) h in
    let c : IsElsewhere name uid r.0 = r.2 in
    other_stays name r.0 d (inv.later (Claim r.0) k (Claim d) r.1 there (its ∙ sym c.claim)).keeps (record { named = c.named; other = c.other })

-- a live telling is true of this very moment

pub get_reply : (setup : Setup) (e : Entry) (past : List Entry) → Good setup (e ∷ past) → (key : Key) → e.request ≡ requests.Get key
    → e.reply ≡ found (row_at key (world setup past).store.rows)
get_reply setup e past g key asked = told_live_is_true_now setup e past key (history_of setup (e ∷ past) g) asked

live : (x : Option Object) (P : Option Object → Type 0) → IsLiveAnswer (found x) P → P x
live None P h = h
live (Some o) P h = h

pub live_told : (setup : Setup) (e : Entry) (past : List Entry) → Good setup (e ∷ past) → (key : Key) (P : Option Object → Type 0) → TellsLive key P e
    → P (row_at key (world setup past).store.rows)
live_told setup e past g key P q = live (row_at key (world setup past).store.rows) P (subst (λ (x : Reply). IsLiveAnswer x P) (get_reply setup e past g key q.1) q.2)

-- a claim that was read gone after it was referred to is gone for good

-- no claim of the UID stood at its key, so none stands anywhere
read_gone : (setup : Setup) (past : List Entry) → Invariant setup past → (r : Ref) (uid : Uid) → IsReferred setup past r uid
    → IsGone uid (row_at (claim_key r.namespace r.name) (world setup past).store.rows) → IsNotThere (world setup past) uid
read_gone setup past inv r uid n gone k c there its =
    let keyed : key_of (Claim c) ≡ claim_key r.namespace r.name = n.named c (row_was setup past k (Claim c) there) its in
    let at : row_at (claim_key r.namespace r.name) (world setup past).store.rows ≡ Some (Claim c) =
    ap (λ j. row_at j (world setup past).store.rows) (sym keyed ∙ row_at_key k (Claim c) _ there) ∙ there in
    let h : IsGone uid (Some (Claim c)) = subst (IsGone uid) at gone in
    h its

-- no claim has the UID, and no later write gives it
abbrev pub IsGoneForGood : Setup → List Entry → Uid → Type 0
IsGoneForGood setup past uid = IsNotThere (world setup past) uid × IsOld (world setup past).store.version (Some uid)

pub gone_read : (setup : Setup) (past : List Entry) → Good setup past → (seat : ℕ) (o : VolumeData) (r : Ref) (uid : Uid) → r.uid ≡ Some uid
    → WasReadGone (own seat past) o r uid → IsGoneForGood setup past uid
gone_read setup [] g seat o r uid known h = absurd h
gone_read setup (e ∷ past) g seat o r uid known h = by (gone_read setup past g.0 seat o r uid known) (e.seat == seat) h
  where
    on : IsGoneForGood setup past uid → IsGoneForGood setup (e ∷ past) uid
    on gone = (kept_not_there setup e past g.1 uid gone.1 gone.0, older _ _ (Some uid) g.1.rises gone.1)

    here : TellsLive (claim_key r.namespace r.name) (IsGone uid) e → ToldVolume (IsReferring o r) (own seat past) → IsGoneForGood setup (e ∷ past) uid
    here q p =
        let inv = invariant_of setup past g.0 in
        let t = told_volume setup past (own seat past) (told_was setup past g.0 seat) (IsReferring o r) p in
        let refers = inv.refers t.0 r uid t.1 (record { is = t.2.refers; known = known }) in
        on (read_gone setup past inv r uid refers (live_told setup e past g (claim_key r.namespace r.name) (IsGone uid) q), refers.old)

    by : (WasReadGone (own seat past) o r uid → IsGoneForGood setup past uid) → (b : Bool)
        → WasReadGone (if b then e ∷ own seat past else own seat past) o r uid → IsGoneForGood setup (e ∷ past) uid
    by f true h = elim h [ inl now ↦ here now.0 now.1 | inr more ↦ on (f more) ]
    by f false h = on (f h)
