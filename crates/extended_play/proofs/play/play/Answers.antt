use Rattle.std.proofs.Common.{Some, ap, arith, length, refl, subst, List, ℕ, ◌≡◌}
use Rattle.std.specs.Prelude.{slice_get}
use Rattle.std.proofs.lemmas.Option.{slice_get_read}
use Rattle.side_calls.specs.declared.quotas.Quota.{Quota}
use Rattle.extended_text.specs.declared.sides.PlacedSide.{PlacedSide}
use Rattle.extended_runs.specs.Works.{given_of}
use Rattle.extended_play.specs.Steps.Walking.{BeginsWalk, LinesDone}
use Rattle.extended_play.proofs.Going.{are_done, some_so_far, some_walked, works_first, works_on}
use Rattle.extended_play.proofs.Walking.{side_some}
use Rattle.extended_play.proofs.play.play.Goals as goal

pub loop-side-init : goal.loop-side-init
loop-side-init c =
    let extended = c.args.extended.now in
    let begins = subst (λ (quotas : List Quota). BeginsWalk extended.script (record { quotas = quotas; reserve = extended.reserve }) c.args.budget c.in_ok-walk.walk)
    c.as_slice.ensures c.in_ok-walk.ensures.begins in
    works_first extended.script (given_of extended) c.args.budget extended.sides c.in_ok-walk.walk c.in_ok-walk.ensures.place begins

pub ask-requires : goal.ask-requires
ask-requires c =
    let extended = c.args.extended.now in
    let old = c.loop-side.walk in
    let done = c.in_ok-lines_before.ensures in
    side_some extended.script c.args.budget c.lines_before.new.self (some_walked extended.script c.args.budget done.done old c.lines_before.new.self done.walked
    (some_so_far extended.script (given_of extended) c.args.budget extended.sides c.loop-side.side-index old c.loop-side.invariant))

pub loop-side-preserved : goal.loop-side-preserved
loop-side-preserved c =
    let extended = c.args.extended.now in
    let index = c.loop-side.side-index in
    let x = c.side-item.result in
    let items = c.as_slice-side-items.result.now in
    let here = slice_get_read items (length items) index x refl c.loop-side-test.true c.side-item.is in
    let at = subst (λ (ss : List PlacedSide). slice_get ss index ≡ Some x) c.as_slice-side-items.ensures here in
    works_on extended.script (given_of extended) c.args.budget extended.sides index x c.loop-side.walk c.lines_before.new.self c.ask.new.self at
    c.in_ok-lines_before.ensures (c.in_ok-ask.ensures.walked extended.script c.args.budget) c.ask.ensures.place c.loop-side.invariant

pub end-requires : goal.end-requires
end-requires c =
    let extended = c.args.extended.now in
    let done = c.in_ok-lines_before-2.ensures in
    some_walked extended.script c.args.budget done.done c.loop-side.walk c.lines_before-2.new.self done.walked
    (some_so_far extended.script (given_of extended) c.args.budget extended.sides c.loop-side.side-index c.loop-side.walk c.loop-side.invariant)

pub returns : goal.returns
returns c =
    let extended = c.args.extended.now in
    let sides = ap length c.as_slice-side-items.ensures in
    let done = subst (λ (n : ℕ). LinesDone extended.script c.args.budget n c.loop-side.walk c.lines_before-2.new.self) (ap length c.as_slice-2.ensures) c.in_ok-lines_before-2.ensures in
    are_done extended.script (given_of extended) c.args.budget extended.sides c.loop-side.side-index c.loop-side.walk c.lines_before-2.new.self c.end.new.self _
    c.requires.readable (omega (arith, sides, c.loop-side-test.false)) c.loop-side.invariant done c.in_ok-ending.ensures c.into_parts-world.ensures.world c.into_parts-world.ensures.side
