use Rattle.std.proofs.lemmas.Result.{on_ok_weaker}
use Rattle.evidence_pages.proofs.Paging.{alone_behind}
use Rattle.evidence_pages.proofs.tellings.tell_at.Goals as goal

pub returns : goal.returns
returns c = on_ok_weaker c.add.result (λ adds mine told pages. adds mine mine (alone_behind _ _ c.in_ok-told.ensures mine told) pages) c.add.ensures
