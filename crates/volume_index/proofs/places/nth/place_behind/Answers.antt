use Rattle.std.proofs.Common.{◌∙◌, ap, sym}
use Rattle.std.specs.Option.{option_copied}
use Rattle.volume_index.proofs.PlacesBehind.{gone_nth, next_nth}
use Rattle.volume_index.proofs.places.nth.place_behind.Goals as goal

pub returns-in-None : goal.returns-in-None
returns-in-None g c = gone_nth _ _ _ (sym c.volume_at.ensures ∙ ap option_copied c.in-None.is)

pub returns-in-Some : goal.returns-in-Some
returns-in-Some g c = next_nth (g.W.Wanted.test c.args.wanted.now) c.args.objects.now c.args.place c.in-Some.volume.now c.next_place.result (sym
    c.volume_at.ensures ∙ ap option_copied c.in-Some.is) c.next_place.ensures
