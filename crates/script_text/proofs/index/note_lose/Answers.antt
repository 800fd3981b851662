use Rattle.std.proofs.Common.{◌<◌, ◌≤◌, subst}
use Rattle.script_text.proofs.Indexes.{loss_passed, loss_kept}
use Rattle.script_text.proofs.index.note_lose.Goals as goal
use Rattle.script_text.specs.Grammar.{most_losses}

pub returns-then-count-gt-MOST_LOSSES : goal.returns-then-count-gt-MOST_LOSSES
returns-then-count-gt-MOST_LOSSES c =
    let counted = rw c.as_str.ensures at c.count.ensures in
    loss_passed c.args._imports.now c.args.index.now c.args._before.now c.args.actor.now c.args.call c.args.after c.in_ok-name.name c.add.new.self
    c.requires c.in_ok-name.ensures c.in_ok-add.ensures.ok (subst (λ n. most_losses < n) counted c.if-count-gt-MOST_LOSSES.true)

pub returns : goal.returns
returns c =
    let counted = rw c.as_str.ensures at c.count.ensures in
    loss_kept c.args._imports.now c.args.index.now c.args._before.now c.args.actor.now c.args.call c.args.after c.in_ok-name.name c.add.new.self
    c.requires c.in_ok-name.ensures c.in_ok-add.ensures.ok (subst (λ n. n ≤ most_losses) counted c.if-count-gt-MOST_LOSSES.false)
