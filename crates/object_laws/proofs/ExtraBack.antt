-- The members that are kept as one text are read back from it, and kept again beside those that a reader knows.
use Rattle.std.proofs.Common.{◌≡◌, ℕ, ◌≤◌, List, [], true, Some, None, refl, sym, ap, ◌∙◌, arith}
use Rattle.serde_json.specs.Data.{object, Members, no_members, member}
use Rattle.serde_json.specs.Find.{get_member}
use Rattle.serde_json.proofs.OnLiterals.{serde_json_on_literals}
use Rattle.json_text.specs.Build.{put_all, pick, Good, GoodMembers, AreOthers, are_known}
use Rattle.json_text.proofs.Good.{good_object, no_float_good}
use Rattle.json_text.proofs.ReadBack.{read-compact_text}
use Rattle.json_text.proofs.PutAll.{get-put_all, others-put_all, others_all, not_other}
use Rattle.json_text.specs.Members.{MemberList, members_unless, extra_from, extra_members}
use Rattle.object_text.specs.declared.extra.Listed.{Listed}
use Rattle.object_text.specs.ExtraMembers.{is_listed_member, extra_text, extra_at}
use Rattle.object_laws.specs.Given.{AreExtra}

extra_none : extra_members [] ≡ no_members
unfolding extra_members serde_json_on_literals
extra_none = refl

extra_some : (n : ℕ) (ms : Members) → n ≤ 126 → GoodMembers n ms → extra_members (extra_text ms) ≡ ms
unfolding extra_members
extra_some n no_members shallow h = extra_none
extra_some n (member k d ms) shallow h =
    let deep : GoodMembers 126 (member k d ms) = record { canonical = h.canonical; shallow = omega (arith, h.shallow) } in
    let whole : Good 127 (object (member k d ms)) = good_object deep in
    ap extra_from (read-compact_text (object (member k d ms)) whole.canonical whole.shallow)
    ∙ ap (λ b. members_unless b (object (member k d ms))) (no_float_good whole)

-- the kept text gives its members
pub extra_back : (n : ℕ) (known : Listed) (kept : List ℕ) (ms : Members) → n ≤ 126 → AreExtra n known kept ms → extra_members kept ≡ ms
extra_back n known kept ms shallow h = ap extra_members h.text ∙ extra_some n ms shallow h.good

-- of a known name nothing else counts
pub spec_has : (known : Listed) (ps : MemberList) (ms : Members) (k : List ℕ) → AreOthers (is_listed_member known) ms → is_listed_member known k ≡ true → get_member k (put_all ps ms) ≡ pick k ps None
spec_has known ps ms k h is = get-put_all k ps ms ∙ ap (pick k ps) (not_other (is_listed_member known) k ms is h)

-- the members are kept again
pub kept_back : (n : ℕ) (known : Listed) (ps : MemberList) (kept : List ℕ) (ms : Members) → AreExtra n known kept ms
    → are_known (is_listed_member known) ps ≡ true → extra_at known (Some (object (put_all ps ms))) ≡ kept
unfolding extra_at
kept_back n known ps kept ms h is = ap extra_text (others-put_all (is_listed_member known) ps ms is ∙ others_all (is_listed_member known) ms h.others) ∙ sym h.text
