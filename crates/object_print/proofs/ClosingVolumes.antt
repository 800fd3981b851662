-- What stands between the brackets of a volume and of its parts is its data.
use Rattle.std.proofs.Common.{◌≡◌, [], ◌∷◌, ◌++◌, true, false, Option, Some, codes, option_map, refl, sym, ap, ◌∙◌}
use Rattle.serde_json.specs.Data.{Data, object}
use Rattle.json_text.specs.Build.{put_all}
use Rattle.kube_parts.specs.Words.{source_word, policy_word, volume_mode}
use Rattle.kube_parts.specs.declared.parts.SourceKind.{SourceKind}
use Rattle.kube_parts.specs.declared.parts.SourceKind.TheVariants.{Csi, Nfs, Local, HostPath}
use Rattle.kube_objects.specs.declared.objects.Volume.{Volume}
use Rattle.json_text.specs.Members.{extra_members, text, filled, with_options, with_member_text, member_texts}
use Rattle.object_print.specs.Parts.{modes_data, storage_data, ref_data, source_data, node_terms_data}
use Rattle.object_print.specs.Metadata.{head_pairs}
use Rattle.object_print.specs.Volumes.{volume_front, volume_back, volume_spec, volume_status_pairs, volume_status, volume_pairs, volume_data}
use Rattle.json_text.specs.Writing.{Writing, closed, opened, with_all, with_value, names_rise, with_some, with_texts}
use Rattle.json_text.proofs.Closing.{closes, no_extra}
use Rattle.json_text.proofs.MemberTexts.{closes_over}

spec_rises : (kind : SourceKind) (a b c d e f g h : Option Data)
    → names_rise ((codes "accessModes", a) ∷ (codes "capacity", b) ∷ (codes "claimRef", c) ∷ (source_word kind, d) ∷ (codes "nodeAffinity", e)
    ∷ (codes "persistentVolumeReclaimPolicy", f) ∷ (codes "storageClassName", g) ∷ (codes "volumeMode", h) ∷ []) ≡ true
spec_rises Csi a b c d e f g h = refl
spec_rises Nfs a b c d e f g h = refl
spec_rises Local a b c d e f g h = refl
spec_rises HostPath a b c d e f g h = refl

pub closes_volume_spec : (v : Volume) (w : Writing) → v.extra ≡ [] → closed 125 (with_all (volume_back v) (with_all (volume_front v) (opened 123 w))) ≡ with_value (volume_spec v) w
unfolding volume_spec
closes_volume_spec v w none =
    closes (volume_front v ++ volume_back v) w
    (spec_rises v.source.kind (Some (modes_data v.modes)) (Some (storage_data v.amount)) (option_map ref_data v.claim_ref)
    (Some (source_data v.source)) (option_map node_terms_data v.terms) (text (policy_word v.policy)) (filled v.class) (text (volume_mode v.block)))
    ∙ ap (λ ms. with_value (object (put_all (volume_front v ++ volume_back v) ms)) w) (sym (no_extra v.extra none))

pub closes_full_volume_spec : (v : Volume) (w : Writing)
    → closed 125 (with_texts (with_options with_member_text (volume_back v)
    (with_options with_member_text (volume_front v) (member_texts (extra_members v.extra)))) (opened 123 w)) ≡ with_value (volume_spec v) w
unfolding volume_spec
closes_full_volume_spec v w = closes_over (volume_front v ++ volume_back v) (extra_members v.extra) w

pub closes_volume_status : (v : Volume) (w : Writing) → closed 125 (with_all (volume_status_pairs v) (opened 123 w)) ≡ with_value (volume_status v) w
unfolding volume_status
closes_volume_status v w = closes (volume_status_pairs v) w refl

pub closes_volume : (v : Volume) (w : Writing)
    → closed 125 (with_some (codes "status") (Some (volume_status v))
    (with_some (codes "spec") (Some (volume_spec v)) (with_all (head_pairs (codes "v1") (codes "PersistentVolume") false v.meta) (opened 123 w)))) ≡ with_value (volume_data v) w
unfolding volume_data
closes_volume v w = closes (volume_pairs v) w refl
