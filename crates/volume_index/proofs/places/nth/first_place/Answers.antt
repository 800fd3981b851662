use Rattle.volume_index.proofs.PlacesBehind.{first_nth}
use Rattle.volume_index.proofs.places.nth.first_place.Goals as goal

pub returns : goal.returns
returns g c = first_nth (g.W.Wanted.test c.args.wanted.now) c.args.objects.now c.next_place.result c.next_place.ensures
