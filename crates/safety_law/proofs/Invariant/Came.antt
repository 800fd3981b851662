-- Where what stood in the store came from at the newest entry.
use Rattle.std.proofs.Common.{sym, refl, inl, inr, ap, ◌∙◌, arith}
use Rattle.std.specs.Prelude.{ℕ, ◌≡◌, ◌⊎◌, ◌+◌, ◌≤◌, List, ◌∷◌, Option, Some}
use Rattle.kube_parts.specs.declared.uid.Uid.{Uid}
use Rattle.kube_objects.specs.declared.key.Key.{Key}
use Rattle.kube_objects.specs.declared.objects.Volume.{Volume as VolumeData}
use Rattle.kube_objects.specs.declared.objects.Claim.{Claim as ClaimData}
use Rattle.kube_objects.specs.declared.objects.Object.{Object}
use Rattle.kube_objects.specs.declared.objects.Object.TheVariants.{Class, Node, Volume, Claim, Pod}
use Rattle.kube_objects.specs.Keys.{meta_of, key_of, kind_index, row_at}
use Rattle.kube_parts.specs.Uids.{uid_of_serial}
use Rattle.kube_objects.proofs.KeyOrder.{row_at_key}
use Rattle.call_types.specs.declared.entry.Entry.{Entry}
use Rattle.call_types.specs.declared.setup.Setup.{Setup}
use Rattle.binder_model.specs.World.{World, world, effect}
use Rattle.model_laws.specs.Histories.{NamesOnce}
use Rattle.safety_law.specs.Invariant.Whence.{IsFirst, IsNext}
use Rattle.safety_law.specs.Invariant.Moves.{IsWritten}
use Rattle.safety_law.specs.Invariant.Was.{KindStep, Made, VolumeStep, VolumeStart, ClaimStep, ClaimStart}
use Rattle.safety_law.specs.Invariant.Invariant.{IsOld, IsLater}
use Rattle.safety_law.specs.Invariant.Good.{MovesAt}
use Rattle.std.proofs.lemmas.Option.{same_Some}
use Rattle.safety_law.proofs.Invariant.Objects.{volume_keyed, claim_keyed}
use Rattle.std.specs.Prelude.{◌<◌}
use Rattle.binder_model.specs.Imports.{most_serials}
use Rattle.model_laws.specs.Stood.{Stands, Stood}
use Rattle.model_laws.proofs.Identity.{names-own}
use Rattle.model_laws.proofs.Stood.{stood, stood_uid}

abbrev pub WrittenAt : Setup → Entry → List Entry → Object → Type 0
WrittenAt setup e past o = IsWritten (world setup past) (effect setup (world setup past) e.kind e.request) (Made setup past) o

pub row_stands : (w : World) (k : Key) (o : Object) → row_at k w.store.rows ≡ Some o → Stands w o
row_stands w k o is = ap (λ j. row_at j w.store.rows) (row_at_key k o w.store.rows is) ∙ is

pub row_was : (setup : Setup) (past : List Entry) (k : Key) (o : Object) → row_at k (world setup past).store.rows ≡ Some o → Stood setup past o
row_was setup past k o is = stood setup past o (row_stands (world setup past) k o is)

-- the newest entry wrote it, and it stands
pub record IsNew (setup : Setup) (e : Entry) (past : List Entry) (o : Object) : Type 0 where
  pub written : WrittenAt setup e past o
  pub stands : Stands (world setup (e ∷ past)) o

pub new_or : (setup : Setup) (e : Entry) (past : List Entry) → MovesAt setup e past → (o : Object) → Stood setup (e ∷ past) o → Stood setup past o ⊎ IsNew setup e past o
new_or setup e past m o was = elim was [
  | inl before ↦ inl before
  | inr now ↦ elim (m.row (key_of o) o now) [
    | inl same ↦ inl (stood setup past o same)
    | inr new ↦ inr (record { written = new; stands = now })
  ]
]

-- two that were written are one
pub one_written : (setup : Setup) (e : Entry) (past : List Entry) (a b : Object) → WrittenAt setup e past a → WrittenAt setup e past b → a ≡ b
one_written setup e past a b x y = same_Some a b (sym x.is ∙ y.is)

-- a volume that was made of a volume

pub record VolumeCame (setup : Setup) (past : List Entry) (v : VolumeData) : Type 0 where
  pub old : VolumeData
  pub next : IsNext (world setup past).store (Volume old) (Volume v)
  pub step : VolumeStep setup past old v

pub record VolumeBegan (setup : Setup) (past : List Entry) (v : VolumeData) : Type 0 where
  pub room : (world setup past).store.version + 1 < most_serials
  pub first : IsFirst (world setup past).store (Volume v)
  pub start : VolumeStart setup past v

pub volume_came : (setup : Setup) (past : List Entry) (v : VolumeData) → Made setup past (Volume v) → VolumeBegan setup past v ⊎ VolumeCame setup past v
volume_came setup past v (inl s) = inl (record { room = s.room; first = s.first; start = s.start })
volume_came setup past v (inr f) = by f.old f.next f.step (volume_keyed f.old v f.next.key)
  where
    by : (old : Object) → IsNext (world setup past).store old (Volume v) → KindStep setup past old (Volume v) → (a : VolumeData) × (old ≡ Volume a)
        → VolumeBegan setup past v ⊎ VolumeCame setup past v
    by (Volume a) n s h = inr (record { old = a; next = n; step = s })
    by (Class a) n s h = absurd (omega (arith, ap (λ o. kind_index (key_of o).kind) h.1))
    by (Node a) n s h = absurd (omega (arith, ap (λ o. kind_index (key_of o).kind) h.1))
    by (Claim a) n s h = absurd (omega (arith, ap (λ o. kind_index (key_of o).kind) h.1))
    by (Pod a) n s h = absurd (omega (arith, ap (λ o. kind_index (key_of o).kind) h.1))

pub record ClaimCame (setup : Setup) (past : List Entry) (c : ClaimData) : Type 0 where
  pub old : ClaimData
  pub next : IsNext (world setup past).store (Claim old) (Claim c)
  pub step : ClaimStep setup past old c

pub record ClaimBegan (setup : Setup) (past : List Entry) (c : ClaimData) : Type 0 where
  pub room : (world setup past).store.version + 1 < most_serials
  pub first : IsFirst (world setup past).store (Claim c)
  pub start : ClaimStart setup past c

pub claim_came : (setup : Setup) (past : List Entry) (c : ClaimData) → Made setup past (Claim c) → ClaimBegan setup past c ⊎ ClaimCame setup past c
claim_came setup past c (inl s) = inl (record { room = s.room; first = s.first; start = s.start })
claim_came setup past c (inr f) = by f.old f.next f.step (claim_keyed f.old c f.next.key)
  where
    by : (old : Object) → IsNext (world setup past).store old (Claim c) → KindStep setup past old (Claim c) → (a : ClaimData) × (old ≡ Claim a)
        → ClaimBegan setup past c ⊎ ClaimCame setup past c
    by (Claim a) n s h = inr (record { old = a; next = n; step = s })
    by (Class a) n s h = absurd (omega (arith, ap (λ o. kind_index (key_of o).kind) h.1))
    by (Node a) n s h = absurd (omega (arith, ap (λ o. kind_index (key_of o).kind) h.1))
    by (Volume a) n s h = absurd (omega (arith, ap (λ o. kind_index (key_of o).kind) h.1))
    by (Pod a) n s h = absurd (omega (arith, ap (λ o. kind_index (key_of o).kind) h.1))

-- UIDs

-- the UID of the next write is not one of an object that was
pub fresh : {G : Type 0} {version : ℕ} → version + 1 < most_serials → (uid : Option Uid) → IsOld version uid → uid ≡ Some (uid_of_serial (version + 1)) → G
fresh {version = version} room uid old is = absurd (old (version + 1) (omega arith) room is)

-- what stood has an old UID
pub old_stood : (setup : Setup) (past : List Entry) (o : Object) → Stood setup past o → IsOld (world setup past).store.version (meta_of o).uid
old_stood setup past o was n above below is = stood_uid setup past o (uid_of_serial n) was is n above below refl

pub older : (n m : ℕ) (uid : Option Uid) → n ≤ m → IsOld n uid → IsOld m uid
older n m uid low old k above below = old k (omega (arith, low, above)) below

-- one object, in time

pub itself : (o : Object) → IsLater o o
itself o = record { key = refl; keeps = record { uid = refl; named = names-own o; deleting = λ d. d } }

names_trans : (a b c : Object) → key_of b ≡ key_of a → NamesOnce a b → NamesOnce b c → NamesOnce a c
names_trans (Claim a) (Claim b) (Claim c) k m n = elim m [
  | inl none ↦ inl none
  | inr same ↦ elim n [ inl none ↦ inl (sym same ∙ none) | inr again ↦ inr (again ∙ same) ]
]
names_trans (Claim a) (Class b) c k m n = absurd (omega (arith, ap (λ j. kind_index j.kind) k))
names_trans (Claim a) (Node b) c k m n = absurd (omega (arith, ap (λ j. kind_index j.kind) k))
names_trans (Claim a) (Volume b) c k m n = absurd (omega (arith, ap (λ j. kind_index j.kind) k))
names_trans (Claim a) (Pod b) c k m n = absurd (omega (arith, ap (λ j. kind_index j.kind) k))
names_trans (Claim a) (Claim b) c k m n = n
names_trans a b c k m n = tt

pub then : {a b c : Object} → IsLater a b → IsLater b c → IsLater a c
then {a = a} {b = b} {c = c} x y = record {
  key = y.key ∙ x.key;
  keeps = record {
    uid = y.keeps.uid ∙ x.keeps.uid;
    named = names_trans a b c x.key x.keeps.named y.keeps.named;
    deleting = λ d. y.keeps.deleting (x.keeps.deleting d);
  };
}
