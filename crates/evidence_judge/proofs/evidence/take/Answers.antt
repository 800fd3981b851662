use Rattle.std.proofs.Common.{◌∷◌, [], ◌∙◌, ap, reverse}
use Rattle.std.proofs.lemmas.List.{reverse-append}
use Rattle.std.proofs.lemmas.Result.{on_ok_weaker}
use Rattle.call_types.specs.declared.entry.Entry.{Entry}
use Rattle.evidence_judge.proofs.evidence.take.Goals as goal

pub returns-clause-ok : goal.returns-clause-ok
returns-clause-ok c = on_ok_weaker c.push.result (λ put. ap reverse put ∙ reverse-append c.args.entries.now (c.in_ok-kept.kept ∷ []) ∙ ap
    (λ (x : Entry). x ∷ reverse c.args.entries.now) c.in_ok-kept.ensures) c.push.ensures.ok

pub returns-clause-index : goal.returns-clause-index
returns-clause-index c =
    let first = rw c.as_slice-noted.ensures at c.is_first-first.ensures in
    on_ok_weaker c.push.result (λ put index. c.in_ok-learn.ensures _ first index) c.push.ensures.ok

pub returns-clause-agents : goal.returns-clause-agents
returns-clause-agents c =
    let place = rw c.as_slice-noted.ensures at c.next_place-place.ensures in
    on_ok_weaker c.push.result (λ put. c.in_ok-learn-2.ensures _ place c.requires) c.push.ensures.ok
