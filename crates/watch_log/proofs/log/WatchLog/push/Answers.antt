use Rattle.std.proofs.Common.{◌+◌, ◌∷◌, sym, ◌∙◌, ap, take}
use Rattle.binder_model.specs.Watching.{window}
use Rattle.watch_log.proofs.Numbered.{window_of_next, all_of_next}
use Rattle.watch_log.proofs.log.WatchLog.push.Goals as goal

pub invariant_of-self : goal.invariant_of-self
invariant_of-self c =
    rw c.put_first.ensures.items (window_of_next c.self.inside.base c.self.inside.version c.args.event c.self.inside.events.items c.self.invariant
    (c.requires.next ∙ ap (λ l. l.version + 1) (sym c.self.view_is)))

pub returns-clause-all : goal.returns-clause-all
returns-clause-all c =
    all_of_next c.args.self.now c.args.event _ _ _ (ap (λ l. l.base) c.self.view_is) (c.put_first.ensures.items ∙ ap (λ l. take window (c.args.event ∷ l.events)) c.self.view_is) c.requires.next
