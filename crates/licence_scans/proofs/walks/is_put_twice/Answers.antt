use Rattle.std.proofs.Common.{arith, rules, ◌≡◌}
use Rattle.std.proofs.lemmas.Grind.{common_steps}
use Rattle.std.specs.declared.cmp.Ordering.TheVariants.{Less, Equal, Greater}
use Rattle.plain_data.specs.Pairs.{text_cmp}
use Rattle.licence_scans.proofs.Twice.{twice_past, twice_at, twice_before, twice_end}
use Rattle.licence_scans.proofs.walks.is_put_twice.Goals as goal

pub returns-then-not-same : goal.returns-then-not-same
returns-then-not-same c =
    let order : text_cmp (c.index-old-place.result).0 c.args.first.now ≡ Less = search rules in
    let e = twice_past c.args.first.now c.args.first_value.now c.args.second.now c.args.second_value.now c.args.old.now c.loop-place.place
    c.index-old-place.result c.requires c.loop-place-test.true c.index-old-place.is order in
    grind (arith, common_steps, e)

pub loop-place-preserved : goal.loop-place-preserved
loop-place-preserved c =
    let order : text_cmp (c.index-old-place.result).0 c.args.first.now ≡ Less = search rules in
    let e = twice_past c.args.first.now c.args.first_value.now c.args.second.now c.args.second_value.now c.args.old.now c.loop-place.place
    c.index-old-place.result c.requires c.loop-place-test.true c.index-old-place.is order in
    grind (arith, common_steps, e)

pub returns-in-Equal : goal.returns-in-Equal
returns-in-Equal c =
    let order : text_cmp (c.index-old-place.result).0 c.args.first.now ≡ Equal = search rules in
    let e = twice_at c.args.first.now c.args.first_value.now c.args.second.now c.args.second_value.now c.args.old.now c.loop-place.place
    c.index-old-place.result c.requires c.loop-place-test.true c.index-old-place.is order in
    grind (arith, common_steps, e)

pub returns-in-Greater : goal.returns-in-Greater
returns-in-Greater c =
    let order : text_cmp (c.index-old-place.result).0 c.args.first.now ≡ Greater = search rules in
    let e = twice_before c.args.first.now c.args.first_value.now c.args.second.now c.args.second_value.now c.args.old.now c.loop-place.place
    c.index-old-place.result c.requires c.loop-place-test.true c.index-old-place.is order in
    grind (arith, common_steps, e)

pub returns : goal.returns
returns c =
    let e = twice_end c.args.first.now c.args.first_value.now c.args.second.now c.args.second_value.now c.requires in
    grind (arith, common_steps, e)
