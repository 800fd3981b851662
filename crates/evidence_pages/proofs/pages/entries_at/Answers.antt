use Rattle.std.proofs.Common.{reverse, sym, subst}
use Rattle.evidence_pages.specs.declared.pages.Page.{Page}
use Rattle.evidence_pages.specs.Parts.{IsPart, Begins}
use Rattle.evidence_pages.proofs.Paging.{page_at}
use Rattle.evidence_pages.proofs.pages.entries_at.Goals as goal

pub returns-in-Ok : goal.returns-in-Ok
returns-in-Ok c = λ mine all.
    c.sought_on.ensures mine (subst (λ (p : Page). IsPart (reverse p.entries) mine) (sym c.index-pages-at.is) (page_at mine c.args.pages.now c.in-Ok.at c.index-pages-at.result c.in-Ok.ensures all))

pub returns-in-Err : goal.returns-in-Err
returns-in-Err c = λ mine all. Begins
