use Rattle.std.proofs.Common.{◌≡◌, ◌<◌, ◌+◌, ◌-◌, ◌^◌, ◌∙◌, inl, inr, ap, refl, subst, sym, arith, length, Bool, List, ℕ}
use Rattle.call_types.specs.declared.entry.Entry.{Entry}
use Rattle.actor_rounds.specs.Answers.Answered.{Lets, all_pass}
use Rattle.worker_core.specs.Roles.{IsBuiltKind}
use Rattle.actor_turns.specs.declared.part.Part.{Part}
use Rattle.actor_turns.specs.declared.player.Player.{Player}
use Rattle.actor_turns.specs.Calls.{NoCalls}
use Rattle.actor_turns.specs.Steps.Playing.{HasTurned, IsLife}
use Rattle.actor_work.specs.Work.Steps.Reached.{HasPlayedTo}
use Rattle.actor_work.specs.Work.Working.{HasWorked}
use Rattle.actor_work.proofs.Work.Working.{calls_on, smaller, some_lives, turn_made, turn_reached, turn_stale, worked_lives}
use Rattle.actor_work.proofs.working.turns.turns.Goals as goal

pub loop-player-init : goal.loop-player-init
loop-player-init g c =
    let x = c.args.player.now in
    let none : x.made - x.made ≡ 0 = omega arith in
    record {
      end = refl;
      part = refl;
      held = refl;
      low = omega arith;
      high = omega arith;
      passes = c.requires.passes;
      serves = λ seat there. there;
      orders = λ seat there. there;
      lent = refl;
      calls = NoCalls none refl;
      reached = record { told = c.requires.plays.idle; plays = c.requires.plays.plays; rests = λ woken. absurd (cc) };
      lived = λ role idle lives. record { idle = idle; lives = lives };
      actors = λ before. before;
    }

pub turn-requires-clause-named : goal.turn-requires-clause-named
turn-requires-clause-named g c = ap (λ (p : Part). p.named) c.loop-player.invariant.part ∙ c.requires.named

pub turn-requires-clause-seats : goal.turn-requires-clause-seats
turn-requires-clause-seats g c = subst (λ (p : Part). p.first + length p.restarts < 2 ^ 32) (sym c.loop-player.invariant.part) c.requires.seats

pub turn-requires-clause-made : goal.turn-requires-clause-made
turn-requires-clause-made g c = let i = c.loop-player.invariant in omega (arith, i.end, i.high, i.low, c.requires.few, c.loop-player-test.true)

pub turn-requires-clause-plays : goal.turn-requires-clause-plays
turn-requires-clause-plays g c = let i = c.loop-player.invariant in record { idle = i.reached.told; plays = i.reached.plays }

pub turn-requires-clause-serves : goal.turn-requires-clause-serves
turn-requires-clause-serves g c = λ seat life.
    let i = c.loop-player.invariant in
    i.serves seat (c.requires.serves seat (subst (λ (p : Part). IsLife p seat) i.part life))

pub turn-requires-clause-orders : goal.turn-requires-clause-orders
turn-requires-clause-orders g c = λ seat there.
    let i = c.loop-player.invariant in
    subst (λ (p : Part). IsLife p seat) (sym i.part) (c.requires.orders seat (i.orders seat there))

-- what the turn made, where all pass
turned : (lets : Lets) (calls : ℕ) (told : ℕ → List Entry) (before after : List Entry) (old new : Player) → lets ≡ all_pass
    → HasTurned lets calls told before after old new → HasTurned all_pass calls told before after old new
turned lets calls told before after old new all t = subst (λ (l : Lets). HasTurned l calls told before after old new) all t

pub loop-player-preserved : goal.loop-player-preserved
loop-player-preserved g c =
    let i = c.loop-player.invariant in
    let start = c.args.player.now in
    let old = c.loop-player.player in
    let new = c.turn.new.player in
    let first = g.W.Answers.past c.args.desk.now in
    let before = g.W.Answers.past c.loop-player.desk in
    let after = g.W.Answers.past c.turn.new.desk in
    let calls = (c.args.player.now.made + c.args.calls) - old.made in
    let r = c.in_ok-turn.ensures in
    let t = turned (g.W.Answers.lets c.loop-player.desk) calls i.reached.told before after old new i.passes (r.turned i.reached.told i.reached.plays) in
    let made = turn_made calls i.reached.told before after old new t in
    let held = r.passes i.passes ∙ i.held in
    record {
      end = i.end;
      part = c.turn.ensures.part ∙ i.part;
      held = held;
      low = omega (arith, i.low, made.0);
      high = omega (arith, i.high, made.1);
      passes = c.turn.ensures.lets ∙ i.passes;
      serves = λ seat there. r.serves seat (i.serves seat there);
      orders = λ seat there. i.orders seat (r.orders seat there);
      lent = c.turn.ensures.lent ∙ i.lent;
      calls = calls_on start.held start old new calls i.reached.told first before after i.part held i.low made.0 i.calls t;
      reached = turn_reached (c.args.player.now.made + c.args.calls) i.reached.told before after old new i.high c.turn.ensures.part t;
      lived = λ role idle lives. some_lives role calls before after old new r.lives (i.lived role idle lives);
      actors = λ asked. r.actors (i.actors asked);
    }

pub returns-then-is_stuck-clause-held : goal.returns-then-is_stuck-clause-held
returns-then-is_stuck-clause-held g c = let i = c.loop-player.invariant in c.in_ok-turn.ensures.passes i.passes ∙ i.held

pub returns-then-is_stuck-clause-calls : goal.returns-then-is_stuck-clause-calls
returns-then-is_stuck-clause-calls g c =
    let i = c.loop-player.invariant in
    let start = c.args.player.now in
    let old = c.loop-player.player in
    let new = c.turn.new.player in
    let before = g.W.Answers.past c.loop-player.desk in
    let after = g.W.Answers.past c.turn.new.desk in
    let calls = (c.args.player.now.made + c.args.calls) - old.made in
    let r = c.in_ok-turn.ensures in
    let t = turned (g.W.Answers.lets c.loop-player.desk) calls i.reached.told before after old new i.passes (r.turned i.reached.told i.reached.plays) in
    let made = turn_made calls i.reached.told before after old new t in
    calls_on start.held start old new calls i.reached.told (g.W.Answers.past c.args.desk.now) before after i.part (r.passes i.passes ∙ i.held) i.low made.0 i.calls t

pub returns-then-is_stuck-clause-whole : goal.returns-then-is_stuck-clause-whole
returns-then-is_stuck-clause-whole g c =
    let i = c.loop-player.invariant in
    let old = c.loop-player.player in
    let new = c.turn.new.player in
    let before = g.W.Answers.past c.loop-player.desk in
    let after = g.W.Answers.past c.turn.new.desk in
    let calls = (c.args.player.now.made + c.args.calls) - old.made in
    let r = c.in_ok-turn.ensures in
    let stuck = c.is_stuck.ensures.stuck c.if-is_stuck.true in
    let reached = subst (λ (w : Bool). HasPlayedTo (c.args.player.now.made + c.args.calls) w old before) stuck.0 i.reached in
    let t = turned (g.W.Answers.lets c.loop-player.desk) calls reached.told before after old new i.passes (r.turned reached.told reached.plays) in
    let kind : c.kind-kind.result ≡ old.part.kind = c.kind-kind.ensures.kind ∙ c.requires.plays.plays.kind ∙ ap (λ (p : Part). p.kind) (sym i.part) in
    let stale = turn_stale (c.args.player.now.made + c.args.calls) before after old new reached
    (ap (λ (p : Part). p.named) i.part ∙ c.requires.named) (subst IsBuiltKind kind c.kind-kind.ensures.built) c.loop-player-test.true stuck.1 t in
    subst (λ (p : Part). HasWorked p (c.args.player.now.made + c.args.calls) new.made after) i.part (inr (omega (arith, stuck.1, c.loop-player-test.true, i.end), stale))

pub returns-then-is_stuck-clause-each : goal.returns-then-is_stuck-clause-each
returns-then-is_stuck-clause-each g c = λ role idle lives.
    let i = c.loop-player.invariant in
    let old = c.loop-player.player in
    let new = c.turn.new.player in
    let before = g.W.Answers.past c.loop-player.desk in
    let after = g.W.Answers.past c.turn.new.desk in
    let calls = (c.args.player.now.made + c.args.calls) - old.made in
    let r = c.in_ok-turn.ensures in
    let t = turned (g.W.Answers.lets c.loop-player.desk) calls i.reached.told before after old new i.passes (r.turned i.reached.told i.reached.plays) in
    let reached = turn_reached (c.args.player.now.made + c.args.calls) i.reached.told before after old new i.high c.turn.ensures.part t in
    worked_lives role new after reached.told reached.plays (some_lives role calls before after old new r.lives (i.lived role idle lives))

pub returns-then-is_stuck-clause-plays : goal.returns-then-is_stuck-clause-plays
returns-then-is_stuck-clause-plays g c =
    let i = c.loop-player.invariant in
    let old = c.loop-player.player in
    let new = c.turn.new.player in
    let before = g.W.Answers.past c.loop-player.desk in
    let after = g.W.Answers.past c.turn.new.desk in
    let calls = (c.args.player.now.made + c.args.calls) - old.made in
    let r = c.in_ok-turn.ensures in
    let t = turned (g.W.Answers.lets c.loop-player.desk) calls i.reached.told before after old new i.passes (r.turned i.reached.told i.reached.plays) in
    let reached = turn_reached (c.args.player.now.made + c.args.calls) i.reached.told before after old new i.high c.turn.ensures.part t in
    record { idle = reached.told; plays = reached.plays }

pub returns-then-is_stuck-clause-lived : goal.returns-then-is_stuck-clause-lived
returns-then-is_stuck-clause-lived g c = λ role idle lives.
    let i = c.loop-player.invariant in
    some_lives role ((c.args.player.now.made + c.args.calls) - c.loop-player.player.made) (g.W.Answers.past c.loop-player.desk)
    (g.W.Answers.past c.turn.new.desk) c.loop-player.player c.turn.new.player c.in_ok-turn.ensures.lives (i.lived role idle lives)

pub returns-then-is_stuck-clause-actors : goal.returns-then-is_stuck-clause-actors
returns-then-is_stuck-clause-actors g c = λ asked. c.in_ok-turn.ensures.actors (c.loop-player.invariant.actors asked)

pub returns-clause-whole : goal.returns-clause-whole
returns-clause-whole g c = let i = c.loop-player.invariant in inl (omega (arith, i.end, i.high, c.loop-player-test.false))

pub returns-clause-each : goal.returns-clause-each
returns-clause-each g c = λ role idle lives.
    let i = c.loop-player.invariant in
    worked_lives role c.loop-player.player (g.W.Answers.past c.loop-player.desk) i.reached.told i.reached.plays (i.lived role idle lives)

pub returns-clause-plays : goal.returns-clause-plays
returns-clause-plays g c = let i = c.loop-player.invariant in record { idle = i.reached.told; plays = i.reached.plays }

pub loop-player-smaller : goal.loop-player-smaller
loop-player-smaller g c =
    let i = c.loop-player.invariant in
    let old = c.loop-player.player in
    let new = c.turn.new.player in
    let before = g.W.Answers.past c.loop-player.desk in
    let after = g.W.Answers.past c.turn.new.desk in
    let end = c.args.player.now.made + c.args.calls in
    let r = c.in_ok-turn.ensures in
    let t = turned (g.W.Answers.lets c.loop-player.desk) (end - old.made) i.reached.told before after old new i.passes (r.turned i.reached.told i.reached.plays) in
    let made = turn_made (end - old.made) i.reached.told before after old new t in
    smaller end old.made new.made c.loop-player.woken c.loop-player-test.true made.0 (omega (arith, i.high, made.1)) (c.is_stuck.ensures.goes c.if-is_stuck.false)
