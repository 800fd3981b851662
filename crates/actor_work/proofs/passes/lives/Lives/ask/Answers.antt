use Rattle.std.proofs.Common.{refl, subst, ap, ℕ, List}
use Rattle.call_types.specs.declared.entry.Entry.{Entry}
use Rattle.binder_model.specs.Licence.{Licensed}
use Rattle.call_types.specs.declared.reply.Reply.{Reply}
use Rattle.call_types.specs.declared.setup.Setup.{Setup}
use Rattle.seat_lock.specs.declared.known.Known.{Known}
use Rattle.call_types.specs.declared.ask.Ask.{Ask}
use Rattle.shared_world.specs.Lines.{entries}
use Rattle.shared_world.specs.Passes.{HasCalled, setup_of}
use Rattle.actor_work.proofs.Lives.Living.{life_there, more_there, none_there, own_after, own_there, served_after}
use Rattle.actor_work.proofs.passes.lives.Lives.ask.Goals as goal
use Rattle.actor_rounds.proofs.Entries.{on_err}

pub call-requires-clause-pass : goal.call-requires-clause-pass
call-requires-clause-pass g c =
    let l = c.args.self.now in
    (life_there l.shared.now l.made l.first c.args.seat l.at l.passes.items c.index_mut.result.now c.requires.seat.0 c.requires.seat.1 c.index_mut.ensures.value c.requires.lives c.requires.latest).of

pub call-requires-clause-licensed : goal.call-requires-clause-licensed
call-requires-clause-licensed g c =
    let l = c.args.self.now in
    subst (λ (mine : List Entry). Licensed c.args.ask.now.kind mine c.args.ask.now.request)
    (own_there l.shared.now l.made l.first c.args.seat l.at l.passes.items c.index_mut.result.now c.requires.seat.0 c.requires.seat.1
    c.index_mut.ensures.value c.requires.lives c.requires.latest) c.requires.licensed

pub returns-clause-answered : goal.returns-clause-answered
returns-clause-answered g c =
    let l = c.args.self.now in
    let p = c.index_mut.result.now in
    let q = c.call.new.pass in
    let entry_at : ℕ → Entry = λ n. record { seat = n; kind = c.args.ask.now.kind; request = c.args.ask.now.request; reply = c.in_ok-reply.reply; told = c.args.told } in
    let life = life_there l.shared.now l.made l.first c.args.seat l.at l.passes.items c.index_mut.result.now c.requires.seat.0 c.requires.seat.1
    c.index_mut.ensures.value c.requires.lives c.requires.latest in
    let called = subst (λ n. HasCalled (setup_of l.shared.now) (entry_at n) p q) life.number c.in_ok-reply.ensures.called in (
      refl,
      more_there l.shared.now l.made l.first c.args.seat l.at l.passes.items c.index_mut.result.now c.requires.seat.0 c.requires.seat.1
          c.index_mut.ensures.value c.requires.lives c.requires.latest q (entry_at c.args.seat) called.mine,
    )

pub returns-clause-own : goal.returns-clause-own
returns-clause-own g c =
    let l = c.args.self.now in
    let p = c.index_mut.result.now in
    let q = c.call.new.pass in
    let entry_at : ℕ → Entry = λ n. record { seat = n; kind = c.args.ask.now.kind; request = c.args.ask.now.request; reply = c.in_ok-reply.reply; told = c.args.told } in
    let life = life_there l.shared.now l.made l.first c.args.seat l.at l.passes.items c.index_mut.result.now c.requires.seat.0 c.requires.seat.1
    c.index_mut.ensures.value c.requires.lives c.requires.latest in
    let called = subst (λ n. HasCalled (setup_of l.shared.now) (entry_at n) p q) life.number c.in_ok-reply.ensures.called in
    own_after l.shared.now l.made l.first c.args.seat l.at l.passes.items c.index_mut.result.now c.requires.seat.0 c.requires.seat.1
    c.index_mut.ensures.value c.requires.lives c.requires.latest q (entry_at c.args.seat) refl called

pub returns-clause-served : goal.returns-clause-served
returns-clause-served g c =
    let l = c.args.self.now in
    let p = c.index_mut.result.now in
    let q = c.call.new.pass in
    let entry_at : ℕ → Entry = λ n. record { seat = n; kind = c.args.ask.now.kind; request = c.args.ask.now.request; reply = c.in_ok-reply.reply; told = c.args.told } in
    let life = life_there l.shared.now l.made l.first c.args.seat l.at l.passes.items c.index_mut.result.now c.requires.seat.0 c.requires.seat.1
    c.index_mut.ensures.value c.requires.lives c.requires.latest in
    let called = subst (λ n. HasCalled (setup_of l.shared.now) (entry_at n) p q) life.number c.in_ok-reply.ensures.called in
    served_after l.shared.now l.made l.first c.args.seat l.at l.passes.items c.index_mut.result.now c.requires.seat.0 c.requires.seat.1
    c.index_mut.ensures.value c.requires.lives c.requires.latest q (entry_at c.args.seat) refl c.requires.reached c.in_ok-reply.ensures.pass c.in_ok-reply.ensures.numbers called

pub returns-in_err-reply-clause-err : goal.returns-in_err-reply-clause-err
returns-in_err-reply-clause-err g c =
    let l = c.args.self.now in
    on_err _ c.from_residual.result
    (none_there l.shared.now l.made l.first c.args.seat l.at l.passes.items c.index_mut.result.now c.requires.seat.0 c.requires.seat.1
    c.index_mut.ensures.value c.requires.lives c.requires.latest c.call.new.pass
    (ap (λ (w : Known Ask Reply Setup). entries w.own) c.in_err-reply.ensures.err))
