use Rattle.std.proofs.Common.{refl}
use Rattle.std.proofs.lemmas.Option.{slice_get_read}
use Rattle.extended_runs.proofs.Noting.{catches_all, catches_first, catches_one}
use Rattle.extended_runs.proofs.sides.KeptSide.catch_up.Goals as goal

pub notes-init : goal.notes-init
notes-init c = λ given m added stands grows. catches_first c.args.world.now.setup c.history-history.ensures.imports given m added c.args.self.now stands

pub notes-preserved : goal.notes-preserved
notes-preserved c = λ given m added stands grows.
    catches_one c.args.world.now.setup c.history-history.ensures.imports given c.history-history.result.now c.args.world.now.past m added
    c.index-history-self.result c.notes.self _ c.history-history.ensures.entries grows c.history-history.ensures.history
    (slice_get_read c.history-history.result.now _ c.notes.self.noted c.index-history-self.result refl c.notes-test.true c.index-history-self.is)
    (record { quotas = c.in_ok-note.ensures.ok; sizes = c.note-in-notes.ensures; entered = refl; noted = refl })
    (c.notes.invariant given m added stands grows)

pub returns : goal.returns
returns c = λ given m added stands grows.
    catches_all c.args.world.now.setup c.history-history.ensures.imports given c.history-history.result.now c.args.world.now.past m added c.notes.self
    c.history-history.ensures.entries grows c.notes-test.false (c.notes.invariant given m added stands grows)
