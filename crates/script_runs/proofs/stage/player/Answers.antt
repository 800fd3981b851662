use Rattle.std.proofs.Common.{◌≡◌, ◌∙◌, ◌≤◌, ap, length, refl, subst, sym}
use Rattle.worker_core.specs.Roles.{IsBuiltKind}
use Rattle.actor_turns.specs.declared.part.Part.{Part}
use Rattle.script_lines.specs.declared.actors.Actor.{Actor}
use Rattle.script_lines.specs.declared.actors.Actor.TheVariants.{Agent, Worker}
use Rattle.script_lines.specs.Actors.{actor_word}
use Rattle.script_runs.specs.Parts.{seat_kind_of}
use Rattle.script_runs.specs.Parts.{role_of}
use Rattle.script_runs.proofs.Casting.{actor_built, few_restarts}
use Rattle.script_runs.proofs.stage.player.Goals as goal

role_kind : (actor : Actor) → (role_of actor).kind ≡ seat_kind_of actor
role_kind (Worker w) = refl
role_kind (Agent node) = refl

pub new_actor-requires-clause-built : goal.new_actor-requires-clause-built
new_actor-requires-clause-built c = subst (λ (x : Part). IsBuiltKind x.kind) (sym c.in_ok-part.ensures) (actor_built c.args.actor.now)

pub returns-clause-new : goal.returns-clause-new
returns-clause-new c = record {
  seat = sym (ap (λ (x : Part). x.first) c.in_ok-part.ensures);
  made = refl;
  held = c.new.ensures;
  kind = role_kind c.args.actor.now ∙ sym (ap (λ (x : Part). x.kind) c.in_ok-part.ensures);
  built = subst IsBuiltKind (sym (role_kind c.args.actor.now)) (actor_built c.args.actor.now);
  new = c.in_ok-working.ensures.is;
  stands = c.in_ok-working.ensures.stands;
}

pub returns-clause-few : goal.returns-clause-few
returns-clause-few c = subst (λ (x : Part). length x.restarts ≤ length c.args.lines.now) (sym c.in_ok-part.ensures) (few_restarts (actor_word c.args.actor.now) c.args.lines.now)
