use Rattle.std.proofs.Common.{◌+◌, reverse, sym, subst}
use Rattle.evidence_pages.specs.Parts.{IsPart, Begins}
use Rattle.evidence_pages.proofs.Paging.{part_dropped, part_taken}
use Rattle.evidence_pages.proofs.pages.stretch_of.Goals as goal

pub returns-then-last-entries : goal.returns-then-last-entries
returns-then-last-entries c = λ mine part. Begins

pub returns-then-first-last : goal.returns-then-first-last
returns-then-first-last c = λ mine part. Begins

pub returns : goal.returns
returns c = λ mine part.
    let older = subst (λ xs. IsPart (reverse xs) mine) (sym c.split_at.ensures.front) (part_taken (c.args.last + 1) c.args.entries.now mine part) in
    subst (λ xs. IsPart (reverse xs) mine) (sym c.split_at-2.ensures.back) (part_dropped c.args.first c.split_at.result.0.now mine older)
