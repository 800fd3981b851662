use Rattle.std.proofs.Common.{◌∙◌}
use Rattle.kube_parts.proofs.UidTexts.{text_is}
use Rattle.kube_parts.proofs.uid.Uid.text.Goals as goal

pub returns : goal.returns
returns c = text_is c.new.result c.args.self c.encode_lower-text.result.now c.hyphenated.result c.new.ensures c.encode_lower-text.ensures.text (c.hyphenated.ensures ∙ c.from_u128-uuid.ensures)
