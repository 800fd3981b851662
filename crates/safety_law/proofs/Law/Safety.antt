-- What is safe by the invariant: the first three parts.
use Rattle.std.proofs.Common.{sym, refl, subst, inl, inr, ap, ◌∙◌}
use Rattle.std.proofs.lemmas.Option.{same_Some}
use Rattle.std.specs.Prelude.{◌≡◌, Bool, true, false, List, [], ◌∷◌, Some, is_some}
use Rattle.kube_objects.specs.declared.key.Key.{Key}
use Rattle.kube_parts.specs.declared.parts.Kind.TheVariants as kinds
use Rattle.kube_objects.specs.declared.objects.Volume.{Volume as VolumeData}
use Rattle.kube_objects.specs.declared.objects.Claim.{Claim as ClaimData}
use Rattle.kube_objects.specs.declared.objects.Object.TheVariants.{Volume, Claim}
use Rattle.kube_objects.specs.Keys.{key_of, row_at}
use Rattle.kube_objects.specs.Bindings.{refers_carrying}
use Rattle.kube_objects.proofs.KeyOrder.{row_at_key}
use Rattle.call_types.specs.declared.entry.Entry.{Entry}
use Rattle.call_types.specs.declared.setup.Setup.{Setup}
use Rattle.binder_model.specs.ObjectKeys.{volume_key}
use Rattle.binder_model.specs.World.{world}
use Rattle.binder_model.specs.Safe.{was_imported_as_lost, IsBoundTo, WasBoundTo, Counts, CountedAreBound, CountedAreApart, AreBindings, KeepsBound}
use Rattle.volume_index.proofs.PlacesBehind.{some_volume}
use Rattle.safety_law.specs.Invariant.Was.{WasBound}
use Rattle.safety_law.specs.Invariant.Invariant.{Invariant}
use Rattle.safety_law.specs.Invariant.Good.{MovesAt}
use Rattle.safety_law.proofs.Invariant.Came.{row_was}
use Rattle.safety_law.proofs.Invariant.KeptBindings.{bound_stays, later_bound}
use Rattle.safety_law.proofs.Invariant.Carried.{Carried, carried}

-- a claim that counts was carried by a Bound volume that it names

bound_now : (setup : Setup) (past : List Entry) (c : ClaimData) → IsBoundTo (world setup past).store.rows c → WasBound setup past c
bound_now setup past c b = record {
  volume = b.volume;
  was = row_was setup past (volume_key c.volume_name) (Volume b.volume) b.there;
  bound = b.bound;
  carries = b.carries;
  names = sym (ap (λ k. k.name) (row_at_key (volume_key c.volume_name) (Volume b.volume) (world setup past).store.rows b.there));
}

bound_once : (setup : Setup) (past : List Entry) (c : ClaimData) → WasBoundTo setup past c → WasBound setup past c
bound_once setup [] c b = bound_now setup [] c b
bound_once setup (e ∷ past) c b = elim b [ inl now ↦ bound_now setup (e ∷ past) c now | inr before ↦ later_bound setup e past c (bound_once setup past c before) ]

counted_was_bound : (setup : Setup) (past : List Entry) → Invariant setup past → (key : Key) (c : ClaimData)
    → row_at key (world setup past).store.rows ≡ Some (Claim c) → Counts setup past c → WasBound setup past c
counted_was_bound setup past inv key c is counts = by (was_imported_as_lost setup c.meta.uid) refl
  where
    by : (b : Bool) → was_imported_as_lost setup c.meta.uid ≡ b → WasBound setup past c
    by false lost = inv.completed key c is counts.completed lost
    by true lost = bound_once setup past c (counts.found lost)

-- the bindings

counted_bound : (setup : Setup) (past : List Entry) → Invariant setup past → CountedAreBound setup past
counted_bound setup past inv key c is counts =
    let b = counted_was_bound setup past inv key c is counts in
    let t = carried b.volume c b.carries in
    let s = inv.binding b.volume t.reference t.uid key c b.was b.bound t.refers is t.its (inr b.names) in
    record {
      volume = s.volume;
      there = ap (λ n. row_at (volume_key n) (world setup past).store.rows) b.names ∙ s.there;
      carries = ap (λ x. refers_carrying x c) (s.refers ∙ sym t.refers.is) ∙ b.carries;
      bound = s.bound;
    }

-- what one volume carries has one key
one_carried : (v : VolumeData) (c d : ClaimData) → Carried v c → Carried v d → key_of (Claim c) ≡ key_of (Claim d)
one_carried v c d x y =
    let r : x.reference ≡ y.reference = same_Some _ _ (sym x.refers.is ∙ y.refers.is) in
    let placed : c.meta.namespace ≡ d.meta.namespace = sym x.placed ∙ ap (λ z. z.namespace) r ∙ y.placed in
    let named : c.meta.name ≡ d.meta.name = sym x.named ∙ ap (λ z. z.name) r ∙ y.named in
    λ i. record { kind = kinds.PersistentVolumeClaim; namespace = placed i; name = named i }

counted_apart : (setup : Setup) (past : List Entry) → Invariant setup past → CountedAreApart setup past
counted_apart setup past inv j k c d at_j at_k counts_c counts_d same =
    let x = counted_bound setup past inv j c at_j counts_c in
    let y = counted_bound setup past inv k d at_k counts_d in
    let v : x.volume ≡ y.volume = some_volume x.volume y.volume (sym x.there ∙ ap (λ n. row_at (volume_key n) (world setup past).store.rows) same ∙ y.there) in
    let z : Carried x.volume d = subst (λ u. Carried u d) (sym v) (carried y.volume d y.carries) in
    sym (row_at_key j (Claim c) _ at_j) ∙ one_carried x.volume c d (carried x.volume c x.carries) z ∙ row_at_key k (Claim d) _ at_k

pub bindings_stand : (setup : Setup) (past : List Entry) → Invariant setup past → AreBindings setup past
bindings_stand setup past inv = record { bound = counted_bound setup past inv; apart = counted_apart setup past inv }

-- no Bound volume leaves
pub volumes_kept : (setup : Setup) (e : Entry) (past : List Entry) → Invariant setup past → MovesAt setup e past
    → KeepsBound (world setup past).store.rows (world setup (e ∷ past)).store.rows
volumes_kept setup e past inv m key v is bound = ap is_some (bound_stays setup e past inv m key v is bound _ refl).1
