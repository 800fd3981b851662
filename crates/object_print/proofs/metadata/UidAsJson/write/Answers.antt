use Rattle.std.proofs.Common.{ℕ, Ok, refl, ◌∙◌}
use Rattle.kube_parts.proofs.UidTexts.{text_is}
use Rattle.object_print.proofs.metadata.UidAsJson.write.Goals as goal

pub returns : goal.returns
returns c =
    let text = c.encode_lower.result.now in
    record { ok = rw (text_is {E = ℕ} (Ok text) c.args.self.now text c.hyphenated.result refl c.encode_lower.ensures.text (c.hyphenated.ensures ∙ c.from_u128-uuid.ensures)) at c.text.ensures.ok }
