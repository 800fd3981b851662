-- Claims.
-- Source: Kubernetes API, PersistentVolumeClaim.
use Rattle.std.specs.Prelude.{[], ◌∷◌, ◌++◌, true, Option, Some, None, codes, option_map}
use Rattle.serde_json.specs.Data.{Data, string, object}
use Rattle.json_text.specs.Build.{put_all}
use Rattle.kube_parts.specs.Words.{volume_mode, mode_words, claim_phase_word}
use Rattle.kube_parts.specs.declared.parts.Modes.{Modes}
use Rattle.kube_objects.specs.declared.objects.Amount.{Amount}
use Rattle.kube_objects.specs.declared.objects.Claim.{Claim}
use Rattle.json_text.specs.Members.{MemberList, text, filled, filled_array, object_of, extra_members}
use Rattle.object_print.specs.Metadata.{head_pairs}
use Rattle.object_print.specs.Parts.{modes_data, storage_data, requests_data, selector_data}

-- the members of a claim's spec from `accessModes` to `selector`, in the order of their names
abbrev pub claim_front : Claim → MemberList
claim_front c =
    (codes "accessModes", Some (modes_data c.modes))
    ∷ (codes "resources", Some (requests_data c.amount))
    ∷ (codes "selector", option_map selector_data c.selector)
    ∷ []

-- the members of a claim's spec from `storageClassName` to `volumeName`
abbrev pub claim_back : Claim → MemberList
claim_back c =
    (codes "storageClassName", option_map string c.class)
    ∷ (codes "volumeMode", text (volume_mode c.block))
    ∷ (codes "volumeName", filled c.volume_name)
    ∷ []

-- over the members that are kept
unfoldable pub claim_spec : Claim → Data
claim_spec c = object (put_all (claim_front c ++ claim_back c) (extra_members c.extra))

-- the modes of what the claim got stand where it got something, or where there is one
abbrev pub got_modes : Option Amount → Modes → Option Data
got_modes None m = filled_array string (mode_words m)
got_modes (Some a) m = Some (modes_data m)

-- the members of a claim's status: the modes and the capacity that it got, and its phase
abbrev pub claim_status_pairs : Claim → MemberList
claim_status_pairs c =
    (codes "accessModes", got_modes c.got c.got_modes)
    ∷ (codes "capacity", option_map storage_data c.got)
    ∷ (codes "phase", text (claim_phase_word c.phase))
    ∷ []

-- the status of a claim
unfoldable pub claim_status : Claim → Data
claim_status c = object_of (claim_status_pairs c)

-- the members of a claim's manifest; the status is always printed
abbrev pub claim_pairs : Claim → MemberList
claim_pairs c =
    head_pairs (codes "v1") (codes "PersistentVolumeClaim") true c.meta
    ++ (codes "spec", Some (claim_spec c))
    ∷ (codes "status", Some (claim_status c))
    ∷ []

-- the manifest of a claim
unfoldable pub claim_data : Claim → Data
claim_data c = object_of (claim_pairs c)
