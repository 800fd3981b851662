use Rattle.std.proofs.Common.{◌<◌, ◌≤◌, subst}
use Rattle.script_text.proofs.Indexes.{restart_passed, restart_kept}
use Rattle.script_text.proofs.index.note_restart.Goals as goal
use Rattle.script_text.specs.Grammar.{most_restarts}

pub returns-then-count-gt-MOST_RESTARTS : goal.returns-then-count-gt-MOST_RESTARTS
returns-then-count-gt-MOST_RESTARTS c =
    let counted = rw c.as_str.ensures at c.count.ensures in
    restart_passed c.args._imports.now c.args.index.now c.args._before.now c.args.actor.now c.args.after c.in_ok-name.name c.add.new.self c.requires
    c.in_ok-name.ensures c.in_ok-add.ensures.ok (subst (λ n. most_restarts < n) counted c.if-count-gt-MOST_RESTARTS.true)

pub returns : goal.returns
returns c =
    let counted = rw c.as_str.ensures at c.count.ensures in
    restart_kept c.args._imports.now c.args.index.now c.args._before.now c.args.actor.now c.args.after c.in_ok-name.name c.add.new.self c.requires
    c.in_ok-name.ensures c.in_ok-add.ensures.ok (subst (λ n. n ≤ most_restarts) counted c.if-count-gt-MOST_RESTARTS.false)
