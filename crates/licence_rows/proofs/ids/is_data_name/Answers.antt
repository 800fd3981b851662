use Rattle.std.proofs.Common.{◌≡◌, ◌↔◌, ◌∷◌, IsTrue, ◌∙◌, subst}
use Rattle.kube_parts.specs.Uids.{uid_text}
use Rattle.licence_rows.proofs.Written.{written_is}
use Rattle.licence_rows.proofs.ids.is_data_name.Goals as goal

pub returns : goal.returns
returns c =
    let back : c.as_bytes-2.result.now ≡ uid_text c.args.uid = c.as_bytes-2.ensures.value
    ∙ written_is c.args.uid c.encode_lower-back.result.now c.hyphenated.result c.encode_lower-back.ensures.text (c.hyphenated.ensures ∙ c.from_u128-uuid.ensures) in
    let front : c.as_bytes.result.now ≡ c.args.text.now = c.as_bytes.ensures.value ∙ c.as_str.ensures in
    subst (λ t. IsTrue c.is_joined.result ↔ (t ≡ 112 ∷ 118 ∷ 99 ∷ 45 ∷ uid_text c.args.uid)) front
    (subst (λ u. IsTrue c.is_joined.result ↔ (c.as_bytes.result.now ≡ 112 ∷ 118 ∷ 99 ∷ 45 ∷ u)) back c.is_joined.ensures)
