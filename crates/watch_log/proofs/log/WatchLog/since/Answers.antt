use Rattle.std.proofs.Common.{◌≡◌, ◌≤◌, sym, ap, subst, arith}
use Rattle.call_types.specs.declared.reply.Events.{Events}
use Rattle.binder_model.specs.Watching.{oldest, told_events}
use Rattle.watch_log.proofs.Numbered.{told_answer, told_of_window_answers}
use Rattle.watch_log.proofs.log.WatchLog.since.Goals as goal

pub returns-clause-told : goal.returns-clause-told
returns-clause-told c =
    subst (λ l. ◌≡◌ {A = Events} (record { events = c.in_ok-told.told; upto = c.reached_version-upto.result }) (told_events c.args.kind c.args.from l.version l.events)) c.self.view_is
    (told_answer c.args.kind c.args.from c.self.inside.base c.self.inside.version c.self.inside.events.items c.in_ok-told.told c.as_slice.result.now
    c.reached_version-upto.result c.self.invariant c.if-self-from.false c.in_ok-told.ensures c.as_slice.ensures c.reached_version-upto.ensures)

pub returns-clause-all : goal.returns-clause-all
returns-clause-all c =
    let version : c.self.inside.version ≡ c.args.self.now.version = ap (λ l. l.version) c.self.view_is in
    let up = c.if-self-from.false in
    let least = c.oldest-oldest.ensures.value in
    let old : oldest c.args.self.now.base c.args.self.now.version ≤ c.args.from = rw (sym least) c.if-from-oldest.false in
    told_of_window_answers c.args.kind c.args.from c.args.self.now (record { events = c.in_ok-told.told; upto = c.reached_version-upto.result })
    (returns-clause-told c) old (omega (arith, version, up))
