-- What a drain comes to, and that its actors stay who they are.
use Rattle.std.proofs.Common.{◌≡◌, ◌⊎◌, ◌∙◌, ℕ, ◌<◌, ◌+◌, ◌-◌, List, [], Option, Some, inl, inr, sym, ap, subst, arith}
use Rattle.call_types.specs.declared.entry.Entry.{Entry}
use Rattle.binder_model.specs.Due.{IsSettled}
use Rattle.binder_model.specs.World.{world}
use Rattle.actor_rounds.specs.declared.drainers.Drainer.{Drainer}
use Rattle.actor_rounds.specs.Drainers.{AreAtRest, AreNew, roles_of, seats_of}
use Rattle.actor_rounds.specs.Longer.{GrowsWithin, IsLonger, users_of}
use Rattle.actor_rounds.specs.Rounds.{Lets, all_pass}
use Rattle.actor_rounds.proofs.DrainFacts.{drains_end, drains_grow, drains_longer, drains_none, drains_roles, drains_seats, drains_users}
use Rattle.actor_rounds.proofs.NewFacts.{new_roles_for, new_seats_for}
use Rattle.actor_rounds.proofs.Resting.{drains_rest, new_rest}
use Rattle.actor_rounds.proofs.RoundFacts.{roles_built}
use Rattle.script_text.specs.declared.script.Line.{Line}
use Rattle.script_text.specs.declared.script.Line.TheVariants.{Call, Drain, Lose, Restart, Turn}
use Rattle.script_text.specs.declared.script.Script.{Script}
use Rattle.actor_turns.specs.declared.part.Part.{Part}
use Rattle.worker_core.specs.declared.role.Role.{Role}
use Rattle.script_runs.specs.Budget.{raised}
use Rattle.script_runs.specs.Drains.{AllLinesKeepDrainers, AreDrainers, CallsLeaveEntries, DrainComesTo, DrainsComeTo, DrainsKeepDrainers, LinesKeepDrainers, NewOnesAreDrainers}
use Rattle.script_runs.specs.Parts.{part_of, role_of}
use Rattle.script_runs.specs.Replays.{AreMoves, IsDrain, IsMove, IsTurnLine, MoreMoves, NoMoves, Progress}

-- ---- what a drain comes to

module _ (lets : Lets) (script : Script) (option : Option ℕ) (before after : Progress) (d : IsDrain lets script option before after) where
  past_is : after.past ≡ d.past
  past_is = ap (λ (p : Progress). p.past) d.is

  pub drained_is : after.drained ≡ before.drained + d.made
  drained_is = ap (λ (p : Progress). p.drained) d.is

  budget_is : after.budget ≡ d.budget
  budget_is = ap (λ (p : Progress). p.budget) d.is

  -- what is not left of the budget are the calls that were made
  pub made_is : (d.budget - before.drained) - (d.budget - (before.drained + d.made)) ≡ after.drained - before.drained
  made_is = let few = d.few in let is = drained_is in omega (arith, few, is)

  -- as the entries are after the rounds, so they are at the history's next point
  pub at_end : (P : ℕ → List Entry → Type 0) → P ((d.budget - before.drained) - (d.budget - (before.drained + d.made))) d.past → P (after.drained - before.drained) after.past
  at_end P h = subst (P (after.drained - before.drained)) (sym past_is) (subst (λ n. P n d.past) made_is h)

  pub comes : DrainComesTo script before after
  comes = record {
    entries = at_end (λ n h. GrowsWithin (seats_of before.drainers) n before.past h) (drains_grow lets _ _ _ _ _ _ _ d.rounds);
    users = ap users_of past_is ∙ drains_users lets _ _ _ _ _ _ _ d.rounds (roles_built _ d.stand.roles);
    low = let is = drained_is in omega (arith, is);
    few = let few = d.few in let is = drained_is in let b = budget_is in omega (arith, few, is, b);
    ends = by (drains_end lets _ _ _ _ _ _ _ d.rounds);
    none = λ settled. past_is ∙ drains_none lets _ _ _ _ _ _ _ d.rounds settled;
  }
    where
      by : IsSettled script.setup (world script.setup d.past) ⊎ (d.budget - (before.drained + d.made) ≡ 0) → IsSettled script.setup (world script.setup after.past) ⊎ (after.drained ≡ after.budget)
      by (inl settled) = inl (subst (λ h. IsSettled script.setup (world script.setup h)) (sym past_is) settled)
      by (inr spent) = inr (let few = d.few in let is = drained_is in let b = budget_is in omega (arith, spent, few, is, b))

pub drains_come_to : DrainsComeTo
drains_come_to = comes

pub calls_leave_entries : CallsLeaveEntries
calls_leave_entries script option before after d =
    at_end all_pass script option before after d (λ n h. IsLonger (seats_of before.drainers) n before.past h) (drains_longer _ _ _ _ _ _ _ d.rounds)

-- ---- who its actors are

pub new_ones_are_drainers : NewOnesAreDrainers
new_ones_are_drainers script first option p new = record {
  seats = new_seats_for first script.node_names p.drainers new;
  roles = new_roles_for first script.node_names p.drainers new;
  rests = λ given is unspent. new_rest first script.node_names p.drainers new;
}

-- what leaves the actors and the count of their calls leaves them so
pub same_drainers : (script : Script) (first : ℕ) (option : Option ℕ) (before after : Progress) → after.drainers ≡ before.drainers
    → after.drained ≡ before.drained → AreDrainers script first option before → AreDrainers script first option after
same_drainers script first option before after same count are = record {
  seats = ap seats_of same ∙ are.seats;
  roles = ap roles_of same ∙ are.roles;
  rests = λ given is unspent. subst AreAtRest (sym same) (are.rests given is (omega (arith, count, unspent)));
}

pub drains_keep_drainers : DrainsKeepDrainers
drains_keep_drainers lets script first option before after d are = record {
  seats = ap (λ (p : Progress). seats_of p.drainers) d.is ∙ drains_seats lets _ _ _ _ _ _ _ d.rounds ∙ are.seats;
  roles = ap (λ (p : Progress). roles_of p.drainers) d.is ∙ drains_roles lets _ _ _ _ _ _ _ d.rounds ∙ are.roles;
  rests = λ given is unspent.
      let count = drained_is lets script option before after d in
      let all : d.budget ≡ given = d.raises ∙ ap (λ o. raised o script.setup before.past before.budget) is in
      subst AreAtRest (sym (ap (λ (p : Progress). p.drainers) d.is))
      (drains_rest lets _ _ _ _ _ _ _ d.rounds (omega (arith, count, all, unspent)) (are.rests given is (omega (arith, count, unspent))));
}

turn_keeps : (script : Script) (first : ℕ) (option : Option ℕ) (lets : Lets) (role : Role) (part : Part) (calls : ℕ) (before after : Progress)
    → IsTurnLine lets [] role part calls before after → AreDrainers script first option before → AreDrainers script first option after
turn_keeps script first option lets role part calls before after (inl all) are =
    same_drainers script first option before after (ap (λ (p : Progress). p.drainers) all.is) (ap (λ (p : Progress). p.drained) all.is) are
turn_keeps script first option lets role part calls before after (inr few) are =
    same_drainers script first option before after (ap (λ (p : Progress). p.drainers) few.is) (ap (λ (p : Progress). p.drained) few.is) are

pub lines_keep_drainers : LinesKeepDrainers
lines_keep_drainers script first option (Call user request) before after move are =
    same_drainers script first option before after (ap (λ (p : Progress). p.drainers) move.is) (ap (λ (p : Progress). p.drained) move.is) are
lines_keep_drainers script first option (Lose actor call lost) before after move are = subst (AreDrainers script first option) (sym move) are
lines_keep_drainers script first option (Restart actor calls) before after move are = subst (AreDrainers script first option) (sym move) are
lines_keep_drainers script first option (Turn actor calls) before after move are =
    turn_keeps script first option all_pass (role_of actor) (part_of script actor) calls before after move are
lines_keep_drainers script first option Drain before after move are = drains_keep_drainers all_pass script first option before after move are

pub all_lines_keep_drainers : AllLinesKeepDrainers
all_lines_keep_drainers script first option end lines now (NoMoves none same) are = subst (AreDrainers script first option) (sym same) are
all_lines_keep_drainers script first option end lines now (MoreMoves line rest next is move more) are =
    all_lines_keep_drainers script first option end rest next more (lines_keep_drainers script first option line now next move are)
