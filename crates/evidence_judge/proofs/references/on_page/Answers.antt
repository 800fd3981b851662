use Rattle.evidence_judge.proofs.references.on_page.Goals as goal

pub returns : goal.returns
returns c = λ mine index. c.about.ensures mine index.pages
