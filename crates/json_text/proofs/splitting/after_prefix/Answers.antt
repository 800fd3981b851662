use Rattle.std.proofs.lemmas.Slice.Eq.{strip_prefix_is}
use Rattle.std.proofs.lemmas.Bool.Decides.{Decides-eqb}
use Rattle.json_text.proofs.CanonicalParts.{if_some}
use Rattle.json_text.proofs.splitting.after_prefix.Goals as goal

pub returns : goal.returns
returns c = if_some _ _ c.strip_prefix.result (strip_prefix_is Decides-eqb c.args.text.now c.args.prefix.now c.strip_prefix.result c.strip_prefix.ensures.cases)
