-- What stands between the brackets of a claim and of its parts is its data.
use Rattle.std.proofs.Common.{◌≡◌, [], ◌++◌, true, Some, codes, refl, sym, ap, ◌∙◌}
use Rattle.serde_json.specs.Data.{object}
use Rattle.json_text.specs.Build.{put_all}
use Rattle.kube_objects.specs.declared.objects.Claim.{Claim}
use Rattle.object_print.specs.Metadata.{head_pairs}
use Rattle.object_print.specs.Claims.{claim_front, claim_back, claim_spec, claim_status_pairs, claim_status, claim_pairs, claim_data}
use Rattle.json_text.specs.Writing.{Writing, closed, opened, with_all, with_value, with_some, with_texts}
use Rattle.json_text.specs.Members.{extra_members, with_options, with_member_text, member_texts}
use Rattle.json_text.proofs.Closing.{closes, no_extra}
use Rattle.json_text.proofs.MemberTexts.{closes_over}

pub closes_claim_spec : (c : Claim) (w : Writing) → c.extra ≡ [] → closed 125 (with_all (claim_back c) (with_all (claim_front c) (opened 123 w))) ≡ with_value (claim_spec c) w
unfolding claim_spec
closes_claim_spec c w none =
    closes (claim_front c ++ claim_back c) w refl
    ∙ ap (λ ms. with_value (object (put_all (claim_front c ++ claim_back c) ms)) w) (sym (no_extra c.extra none))

pub closes_full_claim_spec : (c : Claim) (w : Writing)
    → closed 125 (with_texts (with_options with_member_text (claim_back c)
    (with_options with_member_text (claim_front c) (member_texts (extra_members c.extra)))) (opened 123 w)) ≡ with_value (claim_spec c) w
unfolding claim_spec
closes_full_claim_spec c w = closes_over (claim_front c ++ claim_back c) (extra_members c.extra) w

pub closes_claim_status : (c : Claim) (w : Writing) → closed 125 (with_all (claim_status_pairs c) (opened 123 w)) ≡ with_value (claim_status c) w
unfolding claim_status
closes_claim_status c w = closes (claim_status_pairs c) w refl

pub closes_claim : (c : Claim) (w : Writing)
    → closed 125 (with_some (codes "status") (Some (claim_status c))
    (with_some (codes "spec") (Some (claim_spec c)) (with_all (head_pairs (codes "v1") (codes "PersistentVolumeClaim") true c.meta) (opened 123 w)))) ≡ with_value (claim_data c) w
unfolding claim_data
closes_claim c w = closes (claim_pairs c) w refl
