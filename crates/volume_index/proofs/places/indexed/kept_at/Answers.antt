use Rattle.std.proofs.Common.{◌≤◌, ◌<◌, ◌+◌, length, arith, ◌∙◌, ap, sym}
use Rattle.volume_index.proofs.PlacesKept.{answer_at, none_past}
use Rattle.volume_index.proofs.places.indexed.kept_at.Goals as goal

pub returns-then-nth-kept-clause-none : goal.returns-then-nth-kept-clause-none
returns-then-nth-kept-clause-none g c =
    let past : length c.args.kept.now ≤ c.args.start + c.args.nth = omega (arith, c.if-nth-kept.true, c.requires.bound) in
    none_past (g.W.Wanted.test c.args.wanted.now) c.args.kept.now c.args.start c.args.nth c.requires.counted past

pub returns-then-wants-clause-before : goal.returns-then-wants-clause-before
returns-then-wants-clause-before g c =
    let within : c.args.start + c.args.nth < length c.args.kept.now = omega (arith, c.if-nth-kept.false, c.requires.bound) in
    let answer = answer_at (g.W.Wanted.test c.args.wanted.now) c.args.kept.now c.args.start c.args.nth c.requires.counted c.index-kept-start.result within c.index-kept-start.is in
    answer.0 (ap (g.W.Wanted.test c.args.wanted.now) (sym c.get.ensures) ∙ sym c.wants.ensures ∙ c.if-wants.true)

pub returns-else-wants-clause-none : goal.returns-else-wants-clause-none
returns-else-wants-clause-none g c =
    let within : c.args.start + c.args.nth < length c.args.kept.now = omega (arith, c.if-nth-kept.false, c.requires.bound) in
    let answer = answer_at (g.W.Wanted.test c.args.wanted.now) c.args.kept.now c.args.start c.args.nth c.requires.counted c.index-kept-start.result within c.index-kept-start.is in
    answer.1 (ap (g.W.Wanted.test c.args.wanted.now) (sym c.get.ensures) ∙ sym c.wants.ensures ∙ c.if-wants.false)
