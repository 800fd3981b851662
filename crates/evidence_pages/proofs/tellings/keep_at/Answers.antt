use Rattle.std.proofs.Common.{◌∷◌}
use Rattle.std.proofs.lemmas.Result.{on_ok_weaker}
use Rattle.evidence_pages.proofs.Paging.{kept_behind}
use Rattle.evidence_pages.proofs.tellings.keep_at.Goals as goal

pub returns : goal.returns
returns c = on_ok_weaker c.add.result (λ adds mine pages. adds mine (c.args.entry.now ∷ mine) (kept_behind _ _ mine c.in_ok-kept.ensures) pages) c.add.ensures
