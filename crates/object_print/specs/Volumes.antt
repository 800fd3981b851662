-- Volumes.
-- Source: Kubernetes API, PersistentVolume.
use Rattle.std.specs.Prelude.{[], ◌∷◌, ◌++◌, false, Some, codes, option_map}
use Rattle.serde_json.specs.Data.{Data, object}
use Rattle.json_text.specs.Build.{put_all}
use Rattle.kube_parts.specs.Words.{volume_mode, policy_word, source_word, volume_phase_word}
use Rattle.kube_objects.specs.declared.objects.Volume.{Volume}
use Rattle.json_text.specs.Members.{MemberList, text, filled, object_of, extra_members}
use Rattle.object_print.specs.Metadata.{head_pairs}
use Rattle.object_print.specs.Parts.{modes_data, storage_data, ref_data, source_data, node_terms_data}

-- the members of a volume's spec from `accessModes` to the source, whose name tells its kind
abbrev pub volume_front : Volume → MemberList
volume_front v =
    (codes "accessModes", Some (modes_data v.modes))
    ∷ (codes "capacity", Some (storage_data v.amount))
    ∷ (codes "claimRef", option_map ref_data v.claim_ref)
    ∷ (source_word v.source.kind, Some (source_data v.source))
    ∷ []

-- the members of a volume's spec from `nodeAffinity` to `volumeMode`
abbrev pub volume_back : Volume → MemberList
volume_back v =
    (codes "nodeAffinity", option_map node_terms_data v.terms)
    ∷ (codes "persistentVolumeReclaimPolicy", text (policy_word v.policy))
    ∷ (codes "storageClassName", filled v.class)
    ∷ (codes "volumeMode", text (volume_mode v.block))
    ∷ []

-- over the members that are kept
unfoldable pub volume_spec : Volume → Data
volume_spec v = object (put_all (volume_front v ++ volume_back v) (extra_members v.extra))

-- the one member of a volume's status: its phase
abbrev pub volume_status_pairs : Volume → MemberList
volume_status_pairs v = (codes "phase", text (volume_phase_word v.phase)) ∷ []

-- the status of a volume
unfoldable pub volume_status : Volume → Data
volume_status v = object_of (volume_status_pairs v)

-- the members of a volume's manifest
abbrev pub volume_pairs : Volume → MemberList
volume_pairs v =
    head_pairs (codes "v1") (codes "PersistentVolume") false v.meta
    ++ (codes "spec", Some (volume_spec v))
    ∷ (codes "status", Some (volume_status v))
    ∷ []

-- the manifest of a volume
unfoldable pub volume_data : Volume → Data
volume_data v = object_of (volume_pairs v)
