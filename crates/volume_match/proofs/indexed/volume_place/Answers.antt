use Rattle.volume_match.proofs.Candidates.{located, never_lost}
use Rattle.volume_match.proofs.indexed.volume_place.Goals as goal

pub returns : goal.returns
returns g c =
    let rows = g.L.Lookup.rows c.args.lookup.now in
    let v = c.args.volume.now in
    record {
      some = located rows v c.requires.order c.requires.held c.place_near.result _ _ c.as_str-namespace.ensures c.as_str-name.ensures c.place_near.ensures.found;
      none = never_lost rows v c.requires.order c.requires.held c.place_near.result _ _ c.as_str-namespace.ensures c.as_str-name.ensures c.place_near.ensures.none;
    }
