use Rattle.std.specs.Option.{option_copied}
use Rattle.volume_match.specs.Passing.{found_place}
use Rattle.volume_match.proofs.IndexBest.{best_free, best_owned, free_of, none_owned, owned_of}
use Rattle.volume_match.proofs.indexed.best_passing.Goals as goal

pub best_owned-requires-clause-held : goal.best_owned-requires-clause-held
best_owned-requires-clause-held g c =
    let rows = g.L.Lookup.rows c.args.lookup.now in
    let stands = c.requires.stands in
    rw c.owned.ensures.list (owned_of rows c.args.index.now stands c.args.claim.now (option_copied c.args.node) (g.P.Places.places c.args.excluded.now))

pub best_free-requires-clause-held : goal.best_free-requires-clause-held
best_free-requires-clause-held g c =
    let rows = g.L.Lookup.rows c.args.lookup.now in
    let stands = c.requires.stands in
    rw c.free.ensures.list (free_of rows c.args.index.now stands c.args.claim.now (option_copied c.args.node) (g.P.Places.places c.args.excluded.now))

pub returns-in-Some-clause-best : goal.returns-in-Some-clause-best
returns-in-Some-clause-best g c =
    let rows = g.L.Lookup.rows c.args.lookup.now in
    let stands = c.requires.stands in
    let best = rw c.owned.ensures.list at c.in-Some.ensures in
    best_owned rows c.args.index.now stands c.args.claim.now (option_copied c.args.node) (g.P.Places.places c.args.excluded.now) c.args.only_own c.in-Some.at best

pub returns-then-only_own-clause-best : goal.returns-then-only_own-clause-best
returns-then-only_own-clause-best g c =
    let rows = g.L.Lookup.rows c.args.lookup.now in
    let stands = c.requires.stands in
    let none = rw c.owned.ensures.list at c.in-None.ensures in
    none_owned rows c.args.index.now stands c.args.claim.now (option_copied c.args.node) (g.P.Places.places c.args.excluded.now) c.args.only_own c.if-only_own.true none

pub returns-else-only_own-clause-best : goal.returns-else-only_own-clause-best
returns-else-only_own-clause-best g c =
    let rows = g.L.Lookup.rows c.args.lookup.now in
    let stands = c.requires.stands in
    let none = rw c.owned.ensures.list at c.in-None.ensures in
    let best = rw c.free.ensures.list at c.best_free.ensures.best in
    best_free rows c.args.index.now stands c.args.claim.now (option_copied c.args.node)
    (g.P.Places.places c.args.excluded.now) c.args.only_own c.if-only_own.false none (found_place c.best_free.result) best
