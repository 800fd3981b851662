use Rattle.std.proofs.Common.{ℕ, List, subst, sym}
use Rattle.store_serving.specs.Lines.{IsFeedAt}
use Rattle.store_serving.proofs.Feeds.{front_read}
use Rattle.store_serving.proofs.reader.LineReader.next_line.Goals as goal

pub returns-in_ok-take_front-in-Some-clause-line : goal.returns-in_ok-take_front-in-Some-clause-line
returns-in_ok-take_front-in-Some-clause-line g c =
    front_read (g.S.Source.left c.args.source.now) c.args.self.now c.self.inside.held.items c.take_front.new.held.items c.in_ok-take_front-in-Some.field-0 c.in-Some.place
    (sym c.self.view_is) (subst (λ (bytes : List ℕ). IsFeedAt bytes c.in-Some.place) c.deref.ensures.value c.in-Some.ensures.some) c.in_ok-take_front-in-Some.ensures
