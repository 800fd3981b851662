-- Where nothing is held back all that rests is settled, and what is first free is first due.
use Rattle.std.proofs.Common.{true≢false, refl, sym, inl, inr, Some, None}
use Rattle.kube_parts.specs.declared.names.Due.{Due}
use Rattle.kube_objects.specs.declared.key.Key.{Key}
use Rattle.kube_objects.specs.declared.objects.Object.{Object}
use Rattle.call_types.specs.declared.setup.Setup.{Setup}
use Rattle.binder_model.specs.Due.{IsDue, IsFirstDue, IsSettled}
use Rattle.binder_model.specs.World.{World, world}
use Rattle.actor_rounds.specs.Rounds.{Goes, NothingDue}
use Rattle.actor_rounds.specs.Rounds as rounds
use Rattle.front_rounds.specs.declared.front.AlwaysPass.{AlwaysPass}
use Rattle.front_rounds.specs.Behind.{AllRest, BudgetSpent, GoesOn, IsFirstFree, IsResting, NothingFree}
use Rattle.front_rounds.specs.Passing.{AlwaysPassingDrains, DrainsPassAlways, holds_none}

module _ (f : AlwaysPass) (setup : Setup) (w : World) where
  at_rest : (o : Object) → IsResting (holds_none f) setup w o → IsDue setup w o None
  at_rest o (inl none) = none
  at_rest o (inr h) = absurd (true≢false (sym h.held))

  settled : AllRest (holds_none f) setup w → IsSettled setup w
  settled rest key o there = at_rest o (rest key o there)

  first_due : (first : Key × Due) → IsFirstFree (holds_none f) setup w first → IsFirstDue setup w (Some first)
  first_due first x = record { object = x.object; there = x.there; due = x.due; first = λ earlier other there less. at_rest other (x.before earlier other there less) }

  first_free : (first : Key × Due) → IsFirstDue setup w (Some first) → IsFirstFree (holds_none f) setup w first
  first_free first x = record {
    object = x.object;
    there = x.there;
    due = x.due;
    free = refl;
    before = λ earlier other there less. inl (x.first earlier other there less);
  }

pub always_passing_drains : AlwaysPassingDrains
always_passing_drains setup last after past left f ds h b (NothingFree turned rest same entries less) = NothingDue (settled last setup (world setup h) rest) same entries less
always_passing_drains setup last after past left f ds h b (BudgetSpent first turned free none same entries less) =
    rounds.IsSpent first (first_due last setup (world setup h) first free) none same entries less
always_passing_drains setup last after past left f ds h b (GoesOn g first turned free some between middle rest whole round more) =
    Goes first (first_due g setup (world setup h) first free) some between middle rest whole round (always_passing_drains setup last after past left g between middle rest more)

pub drains_pass_always : DrainsPassAlways
drains_pass_always setup f after past left ds h b (NothingDue done same entries less) = NothingFree refl (λ key o there. inl (done key o there)) same entries less
drains_pass_always setup f after past left ds h b (rounds.IsSpent first due none same entries less) =
    BudgetSpent first refl (first_free f setup (world setup h) first due) none same entries less
drains_pass_always setup f after past left ds h b (Goes first due some between middle rest whole round more) =
    GoesOn f first refl (first_free f setup (world setup h) first due) some between middle rest whole round (drains_pass_always setup f after past left between middle rest more)
