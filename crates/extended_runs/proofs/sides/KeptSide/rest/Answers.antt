use Rattle.std.proofs.Common.{◌≡◌, ◌<◌, ◌∙◌, ◌++◌, ◌∷◌, [], List, Option, Some, ap, length, get_or, subst, sym}
use Rattle.std.specs.Prelude.{unwrap_or}
use Rattle.std.proofs.lemmas.Option.{unwrap_or-slice_get}
use Rattle.kube_objects.specs.declared.key.Key.{Key}
use Rattle.side_calls.specs.declared.asks.SideAsk.TheVariants.{Step as StepAsk}
use Rattle.side_calls.specs.declared.asks.SideReply.TheVariants.{Bytes}
use Rattle.side_calls.specs.declared.sizes.SizeRow.{SizeRow}
use Rattle.expand_ops.specs.Sizes.{Growth, after_step}
use Rattle.extended_runs.specs.declared.sides.KeptSide.{KeptSide}
use Rattle.extended_runs.specs.Steps.Sides.{left_in}
use Rattle.extended_runs.proofs.Resting.{next_lowers, place_stays, placed_entry, rests_all, rests_first, rests_one}
use Rattle.extended_runs.proofs.sides.KeptSide.rest.Goals as goal

pub row_at_place-row-requires : goal.row_at_place-row-requires
row_at_place-row-requires c =
    let next = sym c.step.ensures.step ∙ c.in-Some.is in
    let rows = c.rows.ensures.rows ∙ ap (λ (g : Growth). g.rows) c.in-Some.ensures.made in
    subst (λ (xs : List SizeRow). c.in-Some.step.place < length xs) (sym rows) (place_stays c.steps.self.sizes c.in-Some.step next)

pub steps-smaller : goal.steps-smaller
steps-smaller c =
    let next = sym c.step.ensures.step ∙ c.in-Some.is in
    let rows = ap (λ (s : KeptSide). s.sizes.rows) c.in_ok-enter.ensures.ok ∙ ap (λ (g : Growth). g.rows) c.in-Some.ensures.made in
    subst (λ (xs : List SizeRow). left_in xs < left_in c.steps.self.sizes.rows) (sym rows) (next_lowers c.steps.self.sizes c.in-Some.step next)

pub steps-init : goal.steps-init
steps-init c = λ setup given m stands. rests_first setup given m c.args.self.now stands

pub steps-preserved : goal.steps-preserved
steps-preserved c = λ setup given m stands.
    let s = c.in-Some.step in
    let old = c.steps.self in
    let d = c.row_at_place-row.result.now in
    let next = sym c.step.ensures.step ∙ c.in-Some.is in
    let rows = c.rows.ensures.rows ∙ ap (λ (g : Growth). g.rows) c.in-Some.ensures.made in
    let there : d ≡ get_or (after_step (Some s) old.sizes.rows) s.place d
    = ap (λ (o : Option SizeRow). unwrap_or o d) (sym c.row_at_place-row.ensures) ∙ unwrap_or-slice_get c.rows.result.now s.place d ∙ ap (λ (xs : List SizeRow). get_or xs s.place d) rows in
    let key : c.in_ok-key.key ≡ (get_or (after_step (Some s) old.sizes.rows) s.place d).key = c.in_ok-key.ensures ∙ ap (λ (x : SizeRow). x.key) there in
    let now = c.in_ok-enter.ensures.ok in
    rests_one setup given m old c.enter.new.self s d next (ap (λ (k : KeptSide). k.quotas) now) (ap (λ (k : KeptSide). k.sizes) now ∙ c.in-Some.ensures.made)
    (record {
      entered = ap (λ (k : KeptSide). k.entered) now ∙ ap (λ (k : Key). old.entered ++ placed_entry old.noted (StepAsk s.kind k) (Bytes s.bytes) ∷ []) key;
      noted = ap (λ (k : KeptSide). k.noted) now;
    })
    (c.steps.invariant setup given m stands)

pub returns : goal.returns
returns c = λ setup given m stands.
    let none = sym c.step.ensures.step ∙ c.in_default.is in
    rests_all setup given m c.steps.self _ none (ap (λ (g : Growth). record c.steps.self { sizes = g }) c.in_default.ensures.made) (c.steps.invariant setup given m stands)
