use Rattle.volume_index.proofs.PlacesKept.{place_found, place_missed}
use Rattle.volume_index.proofs.places.indexed.place_in.Goals as goal

pub returns-in-Ok : goal.returns-in-Ok
returns-in-Ok c = place_found c.args.objects.now c.args.volume.now c.in-Ok.at c.in-Ok.ensures.bound c.in-Ok.ensures.position

pub returns-in-Err : goal.returns-in-Err
returns-in-Err c = place_missed c.args.objects.now c.args.volume.now _ c.in-Err.ensures.bound c.in-Err.ensures.position
