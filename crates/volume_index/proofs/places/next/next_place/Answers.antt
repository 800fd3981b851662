use Rattle.std.proofs.Common.{◌≡◌, length, arith}
use Rattle.volume_index.proofs.PlacesBehind.{all_seen}
use Rattle.volume_index.proofs.places.next.next_place.Goals as goal

pub loop-place-init : goal.loop-place-init
loop-place-init g c = λ place below v k. absurd (omega arith)

pub returns : goal.returns
returns g c =
    let same : c.loop-place.place ≡ length c.args.objects.now = omega arith in
    all_seen _ _ _ _ _ same c.loop-place.invariant
