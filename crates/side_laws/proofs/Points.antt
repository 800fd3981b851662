-- What is counted at the points of a merged list: at first, after an entry of the world, and after an ask that is no growth.
use Rattle.std.proofs.Common.{◌≡◌, List, [], ◌∷◌, Option, refl, sym, subst, ap}
use Rattle.kube_objects.specs.declared.objects.Object.{Object}
use Rattle.kube_objects.specs.declared.objects.Object.TheVariants.{Class, Node, Volume, Claim, Pod}
use Rattle.kube_objects.specs.Keys.{row_at}
use Rattle.call_types.specs.declared.reply.Reply.{Reply}
use Rattle.binder_model.specs.Choice.{claim_in}
use Rattle.binder_model.specs.World.{effect, world, world_after}
use Rattle.model_laws.proofs.Histories.{rows_stand_in_order}
use Rattle.side_calls.specs.declared.asks.SideAsk.{SideAsk}
use Rattle.side_calls.specs.declared.asks.SideAsk.TheVariants.{Create, Grow, Step as StepAsk}
use Rattle.side_calls.specs.declared.sizes.GrowError.{GrowError}
use Rattle.quota_rules.specs.Counting.{claims_in, noted}
use Rattle.expand_ops.specs.Growing.{grown_if, sizes_grown}
use Rattle.expand_ops.specs.Sizes.{kept_after, next_step}
use Rattle.side_model.specs.Answers.{after_ask, side}
use Rattle.side_model.specs.Merged.{entries}
use Rattle.side_model.specs.Sides.{Side, counted_by, counted_in, growth_of}
use Rattle.side_laws.specs.Mirrors.{AsksCountAlike, CallsAreCounted, FirstIsCounted, IsNoGrowth, counted_at, objects_at}
use Rattle.side_laws.proofs.Mirrors.{notes_mirror}
use Rattle.side_laws.proofs.Quotas.{step_alike}
use Rattle.side_laws.proofs.Standing.{sizes_always_stand}
use Rattle.side_laws.proofs.Whole.{uids_at}

requests_count : (objects : List Object) → claims_in objects ≡ counted_in [] objects
requests_count [] = refl
requests_count (Class y ∷ xs) = requests_count xs
requests_count (Node y ∷ xs) = requests_count xs
requests_count (Volume y ∷ xs) = requests_count xs
requests_count (Claim y ∷ xs) = ap (λ zs. counted_by [] y ∷ zs) (requests_count xs)
requests_count (Pod y ∷ xs) = requests_count xs

pub first_is_counted : FirstIsCounted
first_is_counted setup given = requests_count (objects_at setup [])

pub calls_are_counted : CallsAreCounted
calls_are_counted setup given m e imports is =
    let w = world setup (entries m) in
    let sizes = (side setup given m).sizes in
    let order = rows_stand_in_order setup (entries m) in
    let mirror = notes_mirror setup w e.kind e.request sizes order (uids_at setup imports (entries m)) (sizes_always_stand setup given m is.0) in
    subst (λ (r : Reply). noted r (counted_in sizes w.store.rows) ≡ counted_in (kept_after r sizes) (world_after w (effect setup w e.kind e.request)).store.rows) (sym is.1) mirror

pub asks_count_alike : AsksCountAlike
asks_count_alike setup given m s none = by s.ask none
  where
    σ : Side
    σ = side setup given m

    by : (ask : SideAsk) → IsNoGrowth setup given m ask → counted_in (after_ask σ (objects_at setup m) ask).sizes (objects_at setup m) ≡ counted_at setup given m
    by (Create user object) h = refl
    by (Grow user key bytes) h =
        ap (λ (f : Option GrowError). counted_in (grown_if f (sizes_grown σ.sizes (objects_at setup m) key bytes (claim_in (row_at key (objects_at setup m)))) σ.sizes) (objects_at setup m)) h.1
    by (StepAsk kind key) h = step_alike (next_step (growth_of σ)) σ.sizes (objects_at setup m)
