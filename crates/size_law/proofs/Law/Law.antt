-- Each claim that counts gets enough: by what volumes and claims have of each other along a fitting run.
use Rattle.std.proofs.Common.{sym, refl, subst, inl, inr, ap, ◌∙◌, true≢false, arith}
use Rattle.std.proofs.lemmas.Option.{same_Some}
use Rattle.std.specs.Prelude.{ℕ, ◌+◌, ◌<◌, ◌≡◌, ◌⊎◌, Bool, true, false, List, [], ◌∷◌, Option, Some, None, is_some, length}
use Rattle.kube_parts.specs.declared.uid.Uid.{Uid}
use Rattle.kube_objects.specs.declared.key.Key.{Key}
use Rattle.kube_objects.specs.declared.objects.Ref.{Ref}
use Rattle.kube_objects.specs.declared.objects.Volume.{Volume as VolumeData}
use Rattle.kube_objects.specs.declared.objects.Claim.{Claim as ClaimData}
use Rattle.kube_objects.specs.declared.objects.Object.{Object}
use Rattle.kube_objects.specs.declared.objects.Object.TheVariants.{Class, Node, Volume, Claim, Pod}
use Rattle.kube_objects.specs.Keys.{meta_of, key_of, row_at}
use Rattle.kube_objects.specs.Bindings.{bind_completed, bound_by_controller, has_key, is_completed, ref_uid}
use Rattle.kube_objects.proofs.KeyOrder.{row_at_key}
use Rattle.call_types.specs.declared.entry.Entry.{Entry}
use Rattle.call_types.specs.declared.setup.Setup.{Setup}
use Rattle.binder_model.specs.Imports.{most_serials, imported_object}
use Rattle.binder_model.specs.ObjectKeys.{volume_key}
use Rattle.binder_model.specs.Run.{Run}
use Rattle.binder_model.specs.Safe.{was_imported_as_lost}
use Rattle.binder_model.specs.Told.{own}
use Rattle.binder_model.specs.World.{base, world, effect}
use Rattle.model_laws.specs.Stood.{Stands}
use Rattle.model_laws.proofs.Imported.{ComesFrom, import_row}
use Rattle.safety_law.specs.Invariant.Writes.{IsIn, Writes}
use Rattle.safety_law.proofs.Invariant.Moves.{moves, as_made}
use Rattle.safety_law.proofs.Invariant.Objects.{same_claim}
use Rattle.safety_law.specs.Invariant.Was.{Refers}
use Rattle.safety_law.specs.Invariant.Invariant.{Invariant}
use Rattle.safety_law.specs.Invariant.Good.{Good}
use Rattle.safety_law.proofs.Invariant.Carried.{carried}
use Rattle.safety_law.proofs.Invariant.Known.{invariant_of}
use Rattle.safety_law.proofs.Law.Allowed.{made}
use Rattle.safety_law.proofs.Law.Runs.{known, run_good}
use Rattle.model_laws.proofs.Stood.{few_writes}
use Rattle.safety_law.proofs.Law.FirstWorld.{first_world_is_good, other_kind}
use Rattle.safety_law.proofs.Law.Law.{room_for}
use Rattle.safety_law.proofs.Law.Safety.{bindings_stand}
use Rattle.size_law.specs.Law.Fitting.{Fits, AreFitting, is_marked}
use Rattle.size_law.specs.Law.Enough.{ImportsFit, IsMarkedLate, IsGivenByController, IsNamedByController, GetEnough, GetEnoughThroughout, ReferencesFit, RunsGetEnough, RunsReferFitting}
use Rattle.size_law.proofs.Law.Writes.{fitted}
use Rattle.size_law.proofs.Law.Kept.{FittingMoves, IsLaterClaim, AreByHand, Suited, kept}

-- the first world

record VolumeOrigin (imports : List Object) (v : VolumeData) : Type 0 where
  origin : VolumeData
  among : IsIn (Volume origin) imports
  bytes : v.amount.bytes ≡ origin.amount.bytes
  mode : v.block ≡ origin.block
  reference : v.claim_ref ≡ origin.claim_ref

record ClaimOrigin (imports : List Object) (c : ClaimData) : Type 0 where
  origin : ClaimData
  among : IsIn (Claim origin) imports
  bytes : c.amount.bytes ≡ origin.amount.bytes
  mode : c.block ≡ origin.block
  uid : c.meta.uid ≡ origin.meta.uid
  annotations : c.meta.annotations ≡ origin.meta.annotations

abbrev bytes_in : Object → ℕ
bytes_in (Volume v) = v.amount.bytes
bytes_in (Claim c) = c.amount.bytes
bytes_in o = 0

abbrev block_in : Object → Bool
block_in (Volume v) = v.block
block_in (Claim c) = c.block
block_in o = false

abbrev reference_in : Object → Option Ref
reference_in (Volume v) = v.claim_ref
reference_in o = None

volume_origin : (imports : List Object) (v : VolumeData) → ComesFrom imports imports (Volume v) → VolumeOrigin imports v
unfolding imported_object
volume_origin imports v i = by i.import i.given i.is
  where
    by : (o : Object) → IsIn o imports → Volume v ≡ imported_object imports o → VolumeOrigin imports v
    by (Volume a) h e = record { origin = a; among = h; bytes = ap bytes_in e; mode = ap block_in e; reference = ap reference_in e }
    by (Class a) h e = other_kind (Volume v) (imported_object imports (Class a)) e (λ k. omega (arith, k))
    by (Node a) h e = other_kind (Volume v) (imported_object imports (Node a)) e (λ k. omega (arith, k))
    by (Claim a) h e = other_kind (Volume v) (imported_object imports (Claim a)) e (λ k. omega (arith, k))
    by (Pod a) h e = other_kind (Volume v) (imported_object imports (Pod a)) e (λ k. omega (arith, k))

claim_origin : (imports : List Object) (c : ClaimData) → ComesFrom imports imports (Claim c) → ClaimOrigin imports c
unfolding imported_object
claim_origin imports c i = by i.import i.given i.is
  where
    by : (o : Object) → IsIn o imports → Claim c ≡ imported_object imports o → ClaimOrigin imports c
    by (Claim a) h e = record { origin = a; among = h; bytes = ap bytes_in e; mode = ap block_in e; uid = ap (λ o. (meta_of o).uid) e; annotations = ap (λ o. (meta_of o).annotations) e }
    by (Class a) h e = other_kind (Claim c) (imported_object imports (Class a)) e (λ k. omega (arith, k))
    by (Node a) h e = other_kind (Claim c) (imported_object imports (Node a)) e (λ k. omega (arith, k))
    by (Volume a) h e = other_kind (Claim c) (imported_object imports (Volume a)) e (λ k. omega (arith, k))
    by (Pod a) h e = other_kind (Claim c) (imported_object imports (Pod a)) e (λ k. omega (arith, k))

first_claims : (setup : Setup) → Invariant setup [] → (a : ClaimData) (k : Key) (b : ClaimData) → Stands (world setup []) (Claim a)
    → row_at k (world setup []).store.rows ≡ Some (Claim b) → b.meta.uid ≡ a.meta.uid → IsLaterClaim a b
first_claims setup inv a k b now is same =
    let b_now : Stands (world setup []) (Claim b) = ap (λ j. row_at j (world setup []).store.rows) (row_at_key k (Claim b) (world setup []).store.rows is) ∙ is in
    let keyed : key_of (Claim a) ≡ key_of (Claim b) = inv.keyed (Claim a) (Claim b) now b_now (sym same) in
    let one : a ≡ b = same_claim a b (same_Some (Claim a) (Claim b) (sym now ∙ ap (λ j. row_at j (world setup []).store.rows) keyed ∙ b_now)) in
    subst (IsLaterClaim a) one (record { bytes = refl; mode = refl; completed = λ done. done })

first_given : (setup : Setup) (j k : Key) (v : VolumeData) (c : ClaimData) (r : Ref) (uid : Uid)
    → row_at j (world setup []).store.rows ≡ Some (Volume v) → row_at k (world setup []).store.rows ≡ Some (Claim c)
    → Refers v r uid → c.meta.uid ≡ Some uid → ImportsFit setup (Some uid) → Fits v c
first_given setup j k v c r uid at_j at_k h its fit =
    let x = volume_origin setup.imports v (import_row setup.imports setup.imports j (Volume v) at_j) in
    let y = claim_origin setup.imports c (import_row setup.imports setup.imports k (Claim c) at_k) in
    let f = fit x.origin y.origin x.among y.among (ap ref_uid (sym x.reference ∙ h.is) ∙ h.known) (sym y.uid ∙ its) in
    let low = f.bytes in
    let wanted = y.bytes in
    let got = x.bytes in
    record { bytes = omega (arith, low, wanted, got); mode = x.mode ∙ f.mode ∙ sym y.mode }

-- a claim that was imported is marked and completed as it was
first_late : (setup : Setup) (c : ClaimData) → Stands (world setup []) (Claim c) → IsMarkedLate setup c.meta.uid → is_marked c.meta ≡ true → is_completed c ≡ true
first_late setup c was late marked =
    let y = claim_origin setup.imports c (import_row setup.imports setup.imports (key_of (Claim c)) (Claim c) was) in
    let done = late y.origin y.among (sym y.uid) (ap (has_key bound_by_controller) (sym y.annotations) ∙ marked) in
    ap (has_key bind_completed) y.annotations ∙ done

first_suited : (setup : Setup) → Invariant setup [] → Suited setup []
first_suited setup inv = record {
  claims = first_claims setup inv;
  late = first_late setup;
  given = λ j k v c r uid at_j at_k h its lost fit. inl (first_given setup j k v c r uid at_j at_k h its fit);
}

-- along a run

fitting_moves : (setup : Setup) (e : Entry) (past : List Entry) → base setup + length (e ∷ past) < most_serials → Good setup past
    → Run setup (e ∷ past) → AreFitting (e ∷ past) → FittingMoves setup e past
fitting_moves setup e past short g run fits =
    let inv = invariant_of setup past g in
    let low = few_writes setup past in
    let room : (world setup past).store.version + 1 < most_serials = omega (arith, low, short) in
    let knows = known setup past g e.seat in
    as_made (world setup past) e.request (effect setup (world setup past) e.kind e.request)
    (λ (o : Object) (w : Writes (world setup past) e.kind e.request o).
    (made setup past (own e.seat past) room inv knows e.kind e.request run.2 o w, fitted setup past (own e.seat past) inv knows e.kind e.request run.2 fits.1 o w))
    (moves setup (world setup past) e.kind e.request inv.order)

suited_of : (setup : Setup) → Invariant setup [] → (past : List Entry) → base setup + length past < most_serials → Run setup past → AreFitting past → Suited setup past
suited_of setup start [] short run fits = first_suited setup start
suited_of setup start (e ∷ past) short run fits =
    let g = run_good setup start (e ∷ past) short run in
    kept setup e past (invariant_of setup past g.0) g.3 (fitting_moves setup e past short g.0 run fits)
    (suited_of setup start past (omega (arith, short)) run.0 fits.0)

-- what it comes to

by_hand : {G : Type 0} (setup : Setup) (past : List Entry) → Suited setup past → (v : VolumeData) (c : ClaimData) → AreByHand setup past v c
    → IsGivenByController setup past v ⊎ IsNamedByController setup c → G
by_hand setup past s v c hand (inl d) =
    absurd (true≢false (sym (d.fresh hand.volume hand.volume_stood hand.same_volume (hand.volume_marks d.marked)) ∙ ap is_some hand.free))
by_hand setup past s v c hand (inr d) =
    absurd (true≢false (sym (s.late hand.claim hand.claim_stood (subst (IsMarkedLate setup) (sym hand.same_claim) d.fresh) (hand.claim_marks d.marked)) ∙ hand.undone))

get_enough : (setup : Setup) (past : List Entry) → Invariant setup past → Suited setup past → GetEnough setup past
get_enough setup past inv s key c is counts lost fit =
    let b = (bindings_stand setup past inv).bound key c is counts in
    let t = carried b.volume c b.carries in
    let given = s.given (volume_key c.volume_name) key b.volume c t.reference t.uid b.there is t.refers t.its
    (ap (was_imported_as_lost setup) (sym t.its) ∙ lost) (subst (ImportsFit setup) t.its fit) in
    record {
      volume = b.volume;
      there = b.there;
      enough = elim given [ inl f ↦ inl f | inr hand ↦ inr hand.pair ];
      decided = λ d. elim given [ inl f ↦ f | inr hand ↦ by_hand setup past s b.volume c hand d ];
    }

enough_throughout : (setup : Setup) → Invariant setup [] → (past : List Entry) → base setup + length past < most_serials → Run setup past → AreFitting past → GetEnoughThroughout setup past
enough_throughout setup start [] short run fits = get_enough setup [] start (first_suited setup start)
enough_throughout setup start (e ∷ past) short run fits =
    let g = run_good setup start (e ∷ past) short run in
    (get_enough setup (e ∷ past) g.3 (suited_of setup start (e ∷ past) short run fits), enough_throughout setup start past (omega (arith, short)) run.0 fits.0)

pub runs_get_enough : RunsGetEnough
runs_get_enough setup past run fits =
    let start = first_world_is_good setup run.imports in
    enough_throughout setup start.invariant past (room_for setup start past run.short) run.run fits

-- references

has_reference : {G : Type 0} (v : VolumeData) (uid : Uid) → ref_uid v.claim_ref ≡ Some uid → ((r : Ref) → Refers v r uid → G) → G
has_reference {G = G} v uid known f = by v.claim_ref refl known
  where
    by : (x : Option Ref) → v.claim_ref ≡ x → ref_uid x ≡ Some uid → G
    by None is e = absurd (true≢false (sym (ap is_some e)))
    by (Some r) is e = f r (record { is = is; known = e })

references_fit : (setup : Setup) (past : List Entry) → Suited setup past → ReferencesFit setup past
references_fit setup past s key other_key v c uid at_v at_c known its lost fit =
    has_reference v uid known (λ r h. elim (s.given key other_key v c r uid at_v at_c h its lost fit) [ inl f ↦ inl f | inr hand ↦ inr hand.pair ])

pub runs_refer_fitting : RunsReferFitting
runs_refer_fitting setup past run fits =
    let start = first_world_is_good setup run.imports in
    references_fit setup past (suited_of setup start.invariant past (room_for setup start past run.short) run.run fits)
