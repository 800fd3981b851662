-- An actor that was told nothing stands for no entries.
use Rattle.std.proofs.Common.{ℕ, List, [], true≢false, refl, sym, ap, ◌∙◌, Option, subst, arith}
use Rattle.call_types.specs.declared.request.SeatKind.{SeatKind}
use Rattle.call_types.specs.declared.request.SeatKind.TheVariants as seats
use Rattle.worker_core.specs.declared.role.Role.{Role}
use Rattle.worker_core.specs.declared.turn.Given.{Given}
use Rattle.worker_core.specs.declared.turn.Pass.{Pass}
use Rattle.worker_core.specs.declared.task.Under.{Under}
use Rattle.worker_core.specs.Stands.{AnyIsUnderWay, AreOwn, GivenStands, IsNew, StandsFor, StartsSo}
use Rattle.worker_core.specs.States.{ActorState}

nobody : AreOwn []
nobody = record { setup = record { pools = []; faults = []; imports = [] }; past = []; seat = 0; imports = tt; short = omega arith; history = tt; own = refl }

starts_empty : (kind : SeatKind) (node : List ℕ) → StartsSo kind node []
starts_empty seats.User node = tt
starts_empty seats.Binder node = tt
starts_empty seats.Ops node = tt
starts_empty seats.Scheduler node = tt
starts_empty seats.ClaimProtect node = tt
starts_empty seats.VolumeProtect node = tt
starts_empty seats.Agent node = tt

pub begins : (role : Role) (s : ActorState) → IsNew role s → StandsFor s []
begins role s new = record {
  caches = new.caches;
  under_way = subst (λ (u : Option Under). AnyIsUnderWay s.role u []) (sym new.under) tt;
  pass = λ quiet. absurd (true≢false (sym (ap (λ (p : Pass). p.event) new.pass) ∙ quiet));
  memory = new.memory;
  licensed = tt;
  own = nobody;
  start = starts_empty s.role.kind s.role.node;
  given = subst (λ (g : Option Given). GivenStands s.role s.memory g s.under) (sym new.given) tt;
}
