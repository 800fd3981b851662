use Rattle.std.proofs.Common.{◌<◌, ◌∙◌, ap, subst, sym, arith, length}
use Rattle.actor_work.specs.Lives.Lived.{AreLives, past_of}
use Rattle.actor_turns.specs.Steps.Living.{Lives as ActorLives}
use Rattle.actor_work.specs.Work.Working.{AreWorkedLives, SomeLives}
use Rattle.actor_work.proofs.Work.Passing.{as_many, orders_lives, serves_lives, some_life, then_lives}
use Rattle.actor_work.proofs.working.work.work.Goals as goal

pub turns-requires-clause-serves : goal.turns-requires-clause-serves
turns-requires-clause-serves g c = λ seat life.
    let d = c.of-desk.result in
    let of = c.of-desk.ensures in
    let lives = subst (λ s. AreLives s d.made d.first d.passes.items) (sym of.0)
    (subst (λ m. AreLives c.args.shared.now m d.first d.passes.items) (sym of.1) (subst (λ f. AreLives c.args.shared.now c.args.made f d.passes.items) (sym of.2)
    (subst (λ (v : _). AreLives c.args.shared.now c.args.made c.args.player.part.first v.items) (sym of.3) c.requires.lives))) in
    let many = ap (λ (v : _). length v.items) of.3 ∙ c.requires.many in
    serves_lives d.shared.now d.made d.first d.at d.passes.items c.args.player.part of.2 of.4 lives many seat life

pub turns-requires-clause-orders : goal.turns-requires-clause-orders
turns-requires-clause-orders g c = λ seat there.
    let d = c.of-desk.result in
    let of = c.of-desk.ensures in
    let many = ap (λ (v : _). length v.items) of.3 ∙ c.requires.many in
    orders_lives d.shared.now d.made d.first d.at d.passes.items c.args.player.part of.2 many seat there

pub returns-clause-lives : goal.returns-clause-lives
returns-clause-lives g c =
    let d = c.of-desk.result in
    let e = c.turns.new.desk in
    let of = c.of-desk.ensures in
    let lent = c.turns.ensures.lent in
    let lives = subst (λ s. AreLives s d.made d.first d.passes.items) (sym of.0)
    (subst (λ m. AreLives c.args.shared.now m d.first d.passes.items) (sym of.1) (subst (λ f. AreLives c.args.shared.now c.args.made f d.passes.items) (sym of.2)
    (subst (λ (v : _). AreLives c.args.shared.now c.args.made c.args.player.part.first v.items) (sym of.3) c.requires.lives))) in
    let many = ap (λ (v : _). length v.items) of.3 ∙ c.requires.many in
    let some : 0 < length d.passes.items = let life = some_life c.args.player.part c.requires.named in omega (arith, many, life) in
    let after = then_lives d.shared.now e.shared.now d.made e.made d.first e.first d.at e.at d.passes.items e.passes.items (ap (λ (t : _). t.0.now) lent)
    (ap (λ (t : _). t.1) lent) (ap (λ (t : _). t.2) lent) of.4 some lives c.in_ok-turns.ensures.serves c.in_ok-turns.ensures.orders in
    subst (λ (v : _). AreLives c.args.shared.now c.args.made c.args.player.part.first v.items) (sym c.into_passes.ensures)
    (subst (λ f. AreLives c.args.shared.now c.args.made f e.passes.items) of.2
    (subst (λ m. AreLives c.args.shared.now m d.first e.passes.items) of.1 (subst (λ s. AreLives s d.made d.first e.passes.items) of.0 after)))

pub returns-clause-many : goal.returns-clause-many
returns-clause-many g c =
    let d = c.of-desk.result in
    let e = c.turns.new.desk in
    let of = c.of-desk.ensures in
    let lent = c.turns.ensures.lent in
    let lives = subst (λ s. AreLives s d.made d.first d.passes.items) (sym of.0)
    (subst (λ m. AreLives c.args.shared.now m d.first d.passes.items) (sym of.1) (subst (λ f. AreLives c.args.shared.now c.args.made f d.passes.items) (sym of.2)
    (subst (λ (v : _). AreLives c.args.shared.now c.args.made c.args.player.part.first v.items) (sym of.3) c.requires.lives))) in
    let many = ap (λ (v : _). length v.items) of.3 ∙ c.requires.many in
    let some : 0 < length d.passes.items = let life = some_life c.args.player.part c.requires.named in omega (arith, many, life) in
    let after = as_many d.shared.now e.shared.now d.made e.made d.first e.first d.at e.at d.passes.items e.passes.items (ap (λ (t : _). t.0.now) lent)
    (ap (λ (t : _). t.1) lent) (ap (λ (t : _). t.2) lent) of.4 some lives c.in_ok-turns.ensures.serves c.in_ok-turns.ensures.orders in
    ap (λ (v : _). length v.items) c.into_passes.ensures ∙ after ∙ ap (λ (v : _). length v.items) of.3

pub returns-clause-each : goal.returns-clause-each
returns-clause-each g c = λ role idle lives.
    let of = c.of-desk.ensures in
    subst (λ (v : _). AreWorkedLives role c.turns.new.player (past_of v.items)) (sym c.into_passes.ensures)
    (c.in_ok-turns.ensures.each role idle (subst (λ (v : _). ActorLives role c.args.player (past_of v.items) idle) (sym of.3) lives))

pub returns-clause-lived : goal.returns-clause-lived
returns-clause-lived g c = λ role idle lives.
    let of = c.of-desk.ensures in
    subst (λ (v : _). SomeLives role c.turns.new.player (past_of v.items)) (sym c.into_passes.ensures)
    (c.in_ok-turns.ensures.lived role idle (subst (λ (v : _). ActorLives role c.args.player (past_of v.items) idle) (sym of.3) lives))
