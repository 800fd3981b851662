use Rattle.std.proofs.Common.{◌∙◌, ◌+◌, ◌<◌, ◌^◌, inl, inr, ap, refl, subst, sym, arith, length, Bool, List, ℕ}
use Rattle.call_types.specs.declared.entry.Entry.{Entry}
use Rattle.actor_turns.specs.declared.part.Part.{Part}
use Rattle.actor_turns.specs.Steps.Living.{HasLived}
use Rattle.actor_rounds.specs.Answers.Answered.{Lets}
use Rattle.worker_core.specs.States.{ActorState}
use Rattle.actor_turns.specs.Steps.Playing.{HasStepped, IsLife, Plays}
use Rattle.actor_turns.proofs.Lived.{lived_all, woken_lives}
use Rattle.actor_turns.proofs.Since.{woken_since}
use Rattle.actor_turns.proofs.Turning.{gone_on, not_gone, turned_all, turned_few}
use Rattle.actor_turns.proofs.player.turn.Goals as goal

pub loop-made-init : goal.loop-made-init
loop-made-init g c = record {
  few = omega arith;
  part = refl;
  count = omega arith;
  serves = λ seat there. there;
  orders = λ seat there. there;
  lets = refl;
  setup = refl;
  lent = refl;
  passes = λ all. refl;
  actors = λ before. before;
  some = c.requires.plays;
  lives = λ role idle lives. lives;
  gone = λ idle plays. not_gone (g.W.Answers.lets c.args.desk.now) idle (g.W.Answers.past c.args.desk.now) c.args.player.now plays;
}

pub step-requires-clause-named : goal.step-requires-clause-named
step-requires-clause-named g c = ap (λ (p : Part). p.named) c.loop-made.invariant.part ∙ c.requires.named

pub step-requires-clause-small : goal.step-requires-clause-small
step-requires-clause-small g c =
    let i = c.loop-made.invariant in
    record {
      seats = subst (λ (p : Part). p.first + length p.restarts < 2 ^ 32) (sym i.part) c.requires.seats;
      made = omega (arith, i.count, c.loop-made-test.true, c.requires.made);
    }

pub step-requires-clause-serves : goal.step-requires-clause-serves
step-requires-clause-serves g c = λ seat life.
    let i = c.loop-made.invariant in
    i.serves seat (c.requires.serves seat (subst (λ (p : Part). IsLife p seat) i.part life))

pub step-requires-clause-orders : goal.step-requires-clause-orders
step-requires-clause-orders g c = λ seat there.
    let i = c.loop-made.invariant in
    subst (λ (p : Part). IsLife p seat) (sym i.part) (c.requires.orders seat (i.orders seat there))

pub step-requires-clause-plays : goal.step-requires-clause-plays
step-requires-clause-plays g c = c.loop-made.invariant.some

pub returns-then-not-branch-clause-turned : goal.returns-then-not-branch-clause-turned
returns-then-not-branch-clause-turned g c = λ idle plays.
    let i = c.loop-made.invariant in
    let gone = i.gone idle plays in
    let old = c.loop-made.player in
    let mid = c.step.new.player in
    let h = (g.W.Answers.past c.loop-made.desk) in
    let after = (g.W.Answers.past c.step.new.desk) in
    let lets = g.W.Answers.lets c.args.desk.now in
    let stepped = λ (idle : ℕ → List Entry) (plays : Plays old h idle). subst (λ (l : Lets). HasStepped l idle h after old mid c.in_ok-step.field-0) i.lets (c.in_ok-step.ensures.stepped idle plays) in
    turned_few lets c.loop-made.made c.args.calls idle (g.W.Answers.past c.args.desk.now) h after c.args.player.now old mid
    (record mid { actor = c.wake.new.self }) c.loop-made-test.true i.part i.count gone
    (subst (λ (b : Bool). HasStepped lets idle h after old mid b) c.if-not-branch.true (stepped idle gone.plays)) refl refl refl refl
    c.step.ensures.part (ap (λ (x : ActorState). x.role) c.in_ok-wake.ensures.state)
    (λ mine stands. woken_since mid.actor c.wake.new.self mine c.in_ok-wake.ensures.state (c.in_ok-wake.ensures.stands mine stands))

pub loop-made-preserved : goal.loop-made-preserved
loop-made-preserved g c =
    let i = c.loop-made.invariant in
    let old = c.loop-made.player in
    let new = c.step.new.player in
    let h = (g.W.Answers.past c.loop-made.desk) in
    let after = (g.W.Answers.past c.step.new.desk) in
    let lets = g.W.Answers.lets c.args.desk.now in
    let made = λ (idle : ℕ → List Entry) (plays : Plays old h idle). subst
    (λ (b : Bool). HasStepped lets idle h after old new b) c.if-not-branch.false
    (subst (λ (l : Lets). HasStepped l idle h after old new c.in_ok-step.field-0) i.lets (c.in_ok-step.ensures.stepped idle plays)) in
    let count = (made i.some.idle i.some.plays).made in
    record {
      few = omega (arith, c.loop-made-test.true);
      part = c.step.ensures.part ∙ i.part;
      count = omega (arith, count, i.count);
      serves = λ seat there. c.in_ok-step.ensures.serves seat (i.serves seat there);
      orders = λ seat there. i.orders seat (c.in_ok-step.ensures.orders seat there);
      lets = c.step.ensures.lets ∙ i.lets;
      setup = c.step.ensures.setup ∙ i.setup;
      lent = c.step.ensures.lent ∙ i.lent;
      passes = λ all. c.in_ok-step.ensures.passes (i.lets ∙ all) ∙ i.passes all;
      actors = λ before. c.in_ok-step.ensures.actors (i.actors before);
      some = record { idle = i.some.idle; plays = (made i.some.idle i.some.plays).plays };
      lives = λ role idle lives. subst (λ (b : Bool). HasLived role after idle new b) c.if-not-branch.false (c.in_ok-step.ensures.lived role idle (i.lives role idle lives));
      gone = λ idle plays.
          let gone = i.gone idle plays in
          gone_on lets c.loop-made.made idle (g.W.Answers.past c.args.desk.now) h after c.args.player.now old new i.part i.count gone (made idle gone.plays);
    }

pub returns-clause-turned : goal.returns-clause-turned
returns-clause-turned g c = λ idle plays.
    let i = c.loop-made.invariant in
    turned_all (g.W.Answers.lets c.args.desk.now) c.loop-made.made c.args.calls idle (g.W.Answers.past c.args.desk.now)
    (g.W.Answers.past c.loop-made.desk) c.args.player.now c.loop-made.player (omega (arith, i.few, c.loop-made-test.false)) i.count (i.gone idle plays)

pub returns-then-not-branch-clause-actors : goal.returns-then-not-branch-clause-actors
returns-then-not-branch-clause-actors g c = λ before. c.in_ok-step.ensures.actors (c.loop-made.invariant.actors before)

pub returns-then-not-branch-clause-lives : goal.returns-then-not-branch-clause-lives
returns-then-not-branch-clause-lives g c = λ role idle lives.
    let i = c.loop-made.invariant in
    let mid = c.step.new.player in
    let after = (g.W.Answers.past c.step.new.desk) in
    let still = subst (λ (b : Bool). HasStepped (g.W.Answers.lets c.loop-made.desk) i.some.idle
    (g.W.Answers.past c.loop-made.desk) after c.loop-made.player mid b) c.if-not-branch.true (c.in_ok-step.ensures.stepped i.some.idle i.some.plays) in
    let same = still.made in
    inr (woken_lives role c.args.calls c.args.player.now mid c.wake.new.self after idle (omega (arith, same, i.count, c.loop-made-test.true)) c.in_ok-wake.ensures.state c.in_ok-wake.ensures.stands
    (subst (λ (b : Bool). HasLived role after idle mid b) c.if-not-branch.true (c.in_ok-step.ensures.lived role idle (i.lives role idle lives))))

pub returns-clause-lives : goal.returns-clause-lives
returns-clause-lives g c = λ role idle lives.
    let i = c.loop-made.invariant in
    inl (lived_all role c.args.calls c.args.player.now c.loop-made.player (g.W.Answers.past c.loop-made.desk) idle (omega (arith, i.count, i.few, c.loop-made-test.false)) (i.lives role idle lives))

pub returns-then-not-branch-clause-passes : goal.returns-then-not-branch-clause-passes
returns-then-not-branch-clause-passes g c = λ all. let i = c.loop-made.invariant in c.in_ok-step.ensures.passes (i.lets ∙ all) ∙ i.passes all
