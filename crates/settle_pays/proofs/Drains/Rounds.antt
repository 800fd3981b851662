-- Each entry of a round of the actors of a drain pays.
use Rattle.std.proofs.Common.{◌≡◌, ℕ, zero, suc, List, [], ◌∷◌, Some, subst}
use Rattle.std.specs.Prelude.{slice_get}
use Rattle.call_types.specs.declared.entry.Entry.{Entry}
use Rattle.call_types.specs.declared.setup.Setup.{Setup}
use Rattle.binder_model.specs.Promises.{IsRunOf}
use Rattle.model_laws.proofs.Growing.{runs_are_histories}
use Rattle.model_laws.proofs.Lists.{none_some, one}
use Rattle.worker_core.specs.Roles.{IsBuiltKind}
use Rattle.actor_rounds.specs.declared.drainers.Drainer.{Drainer}
use Rattle.actor_rounds.specs.Drainers.{AreAtRest, AreRoles, roles_of}
use Rattle.actor_rounds.specs.Rounds.{Lets, RoundOf}
use Rattle.actor_rounds.proofs.RoundFacts.{AreBuilt, roles_built}
use Rattle.settle_pays.specs.Pays.Pays.{HavePaid, IsPayer}
use Rattle.settle_pays.proofs.Pays.Entries.{paid_is_less}
use Rattle.settle_pays.proofs.Pays.Rounds.{rounds_of_payers_pay}
use Rattle.settle_pays.specs.Drains.All.{ImportsAllow, PaysOff, RoundsOfActorsPay}
use Rattle.settle_pays.proofs.Drains.Actors.{actors_pay}

built_at : (ds : List Drainer) → AreBuilt (roles_of ds) → (place : ℕ) (d : Drainer) → slice_get ds place ≡ Some d → IsBuiltKind d.actor.role.kind
built_at [] built place d at = none_some at
built_at (x ∷ ds) built zero d at = subst (λ (y : Drainer). IsBuiltKind y.actor.role.kind) (one x d at) built.0
built_at (x ∷ ds) built (suc place) d at = built_at ds built.1 place d at

-- entries of a run that pay pay off
pub pays_off : (setup : Setup) (earlier past : List Entry) → IsRunOf setup past → HavePaid setup earlier past → PaysOff setup earlier past
pays_off setup earlier past run paid = record { paid = paid; fallen = paid_is_less setup earlier past (runs_are_histories setup past run.run) paid }

module _ (setup : Setup) (allow : ImportsAllow setup) (ds : List Drainer) (roles : AreRoles (roles_of ds)) (rest : AreAtRest ds) where
  -- each of them is an actor that pays
  pub payer_at : (place : ℕ) (d : Drainer) → slice_get ds place ≡ Some d → IsPayer setup d
  payer_at place d at =
      let built = built_at ds (roles_built (roles_of ds) roles) place d at in
      record { built = built; rests = rest place d at; pays = actors_pay setup d.seat d.actor.role built allow }

-- each entry of a round of theirs pays
pub round_paid : (setup : Setup) (lets : Lets) (round : RoundOf lets) → ImportsAllow setup → AreRoles (roles_of round.drainers) → AreAtRest round.drainers
    → IsRunOf setup round.past → HavePaid setup round.start round.past
round_paid setup lets round allow roles rest run = rounds_of_payers_pay setup lets round run (payer_at setup allow round.drainers roles rest)

pub rounds_pay : RoundsOfActorsPay
rounds_pay setup lets round allow roles rest run = pays_off setup round.start round.past run (round_paid setup lets round allow roles rest run)
