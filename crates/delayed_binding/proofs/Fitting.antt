-- A volume is given only to a claim that it fits: the references that are written are those of eligible volumes.
use Rattle.std.proofs.Common.{ℕ, ◌≡◌, ◌∙◌, Bool, true, false, not, ◌&&◌, List, map, Option, Some, None, refl, sym, ap, subst}
use Rattle.std.specs.Prelude.{slice_get}
use Rattle.kube_objects.specs.declared.key.Key.{Key}
use Rattle.kube_parts.specs.declared.parts.Kind.TheVariants as kinds
use Rattle.kube_objects.specs.declared.objects.Claim.{Claim as ClaimData}
use Rattle.kube_objects.specs.declared.objects.Node.{Node as NodeData}
use Rattle.kube_objects.specs.declared.objects.Pod.{Pod as PodData}
use Rattle.kube_objects.specs.declared.objects.Volume.{Volume as VolumeData}
use Rattle.kube_objects.specs.declared.objects.Object.{Object}
use Rattle.kube_objects.specs.declared.objects.Object.TheVariants.{Volume}
use Rattle.kube_objects.specs.Bindings.{is_deleting, is_protected_volume}
use Rattle.kube_objects.specs.Keys.{AreRows, key_of, row_at}
use Rattle.kube_objects.proofs.RowPlaces.{row_at_place}
use Rattle.call_types.specs.declared.request.Request.{Request}
use Rattle.binder_model.specs.BindWrites.{write_reference}
use Rattle.binder_model.specs.Choice.{claim_in, claims_of}
use Rattle.binder_model.specs.Matching.{eligible, fits, is_admitted_on, is_selected, may_serve}
use Rattle.volume_index.specs.VolumeIndex.{as_volume}
use Rattle.model_laws.proofs.Lists.{none_some, one}
use Rattle.delayed_binding.specs.declared.choice.Choice.TheVariants.{Assign, Prepare, Wait, NoNode}
use Rattle.delayed_binding.specs.Choices.{others_in, set_aside}
use Rattle.delayed_binding.specs.WriteLaw.{FitsIfReference, IsFitting, ReferencesFit}
use Rattle.delayed_binding.specs.Writes.{bind_write, node_write, prepare_write, reference_write, selecting_write}
use Rattle.delayed_binding.proofs.Allowed.{IsSearch, joined_some, made_of, searched}
use Rattle.delayed_binding.proofs.Known.{IsStored, others_stored, and_right}
use Rattle.delayed_binding.proofs.Written.{IsBound, IsOf, OfFirst, OfSecond, bound_at, item_of}

-- an eligible volume fits

and_left : (a b : Bool) → (a && b) ≡ true → a ≡ true
and_left true b e = refl
and_left false b e = e

fits_of : (v : VolumeData) (c : ClaimData) (n : NodeData) → eligible v c (Some n) ≡ true → fits v c ≡ true
fits_of v c n e =
    let own = not (is_deleting v.meta) && is_protected_volume v in
    let selected = is_selected c.selector v.meta.labels in
    let admitted = is_admitted_on v (Some n) in
    and_right (not (is_deleting v.meta) && is_protected_volume v) (fits v c)
    (and_left (own && fits v c) selected (and_left (own && fits v c && selected) admitted (and_left (own && fits v c && selected && admitted) (may_serve v c) e)))

-- a selection of a node gives no volume
selected_fits : (rows : List Object) (node : List ℕ) (c : Option ClaimData) (request : Request) → selecting_write node c ≡ Some request → FitsIfReference rows request
selected_fits rows node None request e = none_some e
selected_fits rows node (Some c) request e = subst (FitsIfReference rows) (one _ request e) tt

module _ (rows : List Object) (order : AreRows rows) (p : PodData) (last : Option (List ℕ)) (name : List ℕ) (bs : List (Key × Key)) (ps : List Key) (s : IsSearch rows p last name bs ps) where
  bound_fits : (i : ℕ) (pair : Key × Key) (request : Request) → slice_get bs i ≡ Some pair → bind_write rows pair ≡ Some request → FitsIfReference rows request
  bound_fits i pair request at e =
      let node = s.prepared.node in
      let others = others_in rows (claims_of rows p) in
      let b : IsBound rows node (IsStored rows) (set_aside rows) pair =
      bound_at rows node others s.prepared.prepares.shares (set_aside rows) (others_stored rows p) s.prepared.prepares.serves.shared i pair
      (subst (λ xs. slice_get xs i ≡ Some pair) s.prepared.prepares.binds_are at) in
      let volume_row : row_at (key_of (Volume b.volume)) rows ≡ Some (Volume b.volume) = row_at_place kinds.PersistentVolume b.place (Volume b.volume) rows order b.there in
      let claim_seen : claim_in (row_at pair.0 rows) ≡ Some b.claim = ap (λ k. claim_in (row_at k rows)) b.first ∙ ap claim_in b.holds in
      let volume_seen : as_volume (row_at pair.1 rows) ≡ Some b.volume = ap (λ k. as_volume (row_at k rows)) b.second ∙ ap as_volume volume_row in
      let is : bind_write rows pair ≡ Some (write_reference b.volume b.claim) =
      ap (λ x. reference_write x (as_volume (row_at pair.1 rows))) claim_seen ∙ ap (λ x. reference_write (Some b.claim) x) volume_seen in
      let fitting : IsFitting rows (write_reference b.volume b.claim) =
      record { volume = b.volume; claim = b.claim; volume_there = volume_row; claim_there = b.holds; is = refl; fits = fits_of b.volume b.claim node b.eligible } in
      subst (FitsIfReference rows) (one (write_reference b.volume b.claim) request (sym is ∙ e)) fitting

  all_fit : (nth : ℕ) (request : Request) → prepare_write rows (Prepare name bs ps) nth ≡ Some request → FitsIfReference rows request
  unfolding prepare_write
  all_fit nth request e = by (item_of (map (bind_write rows) bs) (map (node_write rows name) ps) nth (Some request) (joined_some _ request e))
    where
      by : IsOf (map (bind_write rows) bs) (map (node_write rows name) ps) nth (Some request) → FitsIfReference rows request
      by (OfFirst lt h) = let m = made_of (bind_write rows) bs nth (Some request) h in bound_fits nth m.item request m.at m.is
      by (OfSecond j is h) = let m = made_of (node_write rows name) ps j (Some request) h in selected_fits rows name (claim_in (row_at m.item rows)) request m.is

pub references_fit : ReferencesFit
unfolding prepare_write
references_fit rows p last (Prepare name bs ps) nth request order f e = all_fit rows order p last name bs ps (searched rows p last name bs ps f) nth request e
references_fit rows p last (Assign name) nth request order f e = none_some e
references_fit rows p last Wait nth request order f e = none_some e
references_fit rows p last NoNode nth request order f e = none_some e
