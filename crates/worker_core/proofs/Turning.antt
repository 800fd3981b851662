-- A turn keeps what an actor stands for.
use Rattle.std.proofs.Common.{◌≡◌, ℕ, zero, suc, List, [], ◌∷◌, Bool, true, false, Option, Some, None, inl, inr, refl, sym, subst, arith, if◌then◌else◌}
use Rattle.std.specs.Prelude.{slice_get, ⊤}
use Rattle.kube_parts.specs.declared.parts.Kind.{Kind}
use Rattle.kube_objects.specs.Keys.{AreRows}
use Rattle.call_types.specs.declared.entry.Entry.{Entry}
use Rattle.call_types.specs.declared.request.Request.{Request}
use Rattle.call_types.specs.declared.request.SeatKind.{SeatKind}
use Rattle.call_types.specs.declared.request.SeatKind.TheVariants as seats
use Rattle.binder_model.specs.Reading.{follows}
use Rattle.informer_cache.specs.All.{AllKnown, AllStandFor, all_objects}
use Rattle.model_laws.proofs.Lists.{one, none_some}
use Rattle.sync_queue.specs.Work.{Work}
use Rattle.worker_core.specs.declared.role.Role.{Role}
use Rattle.worker_core.specs.declared.task.Under.{Under}
use Rattle.worker_core.specs.declared.turn.Given.{Given}
use Rattle.worker_core.specs.declared.turn.Given.TheVariants as givens
use Rattle.worker_core.specs.declared.turn.Next.{Next}
use Rattle.worker_core.specs.Memories.{Memory, memory_of}
use Rattle.worker_core.specs.Roles.{kind_in_order, kinds_of}
use Rattle.worker_core.specs.Stands.{AnyIsUnderWay, Begun, GivenStands, StandsFor}
use Rattle.worker_core.specs.States.{ActorState, start_call}
use Rattle.worker_core.specs.Tasks.{GivesCall}
use Rattle.worker_core.specs.Turns.{AfterKeys, Decides, Nothing, Begins, Drops, IsTurn, TurnBy, first_unlisted, is_listed, passing, unlisted}

-- the kinds that an actor lists and watches are those that it follows

abbrev pub AllFollow : SeatKind → List Kind → Type 0
AllFollow seat [] = ⊤
AllFollow seat (kind ∷ kinds) = (follows seat kind ≡ true) × AllFollow seat kinds

pub kinds_follow : (seat : SeatKind) → AllFollow seat (kinds_of seat)
kinds_follow seats.User = tt
kinds_follow seats.Binder = (refl, (refl, (refl, tt)))
kinds_follow seats.Ops = (refl, (refl, (refl, (refl, tt))))
kinds_follow seats.Scheduler = (refl, (refl, (refl, (refl, (refl, tt)))))
kinds_follow seats.ClaimProtect = (refl, (refl, tt))
kinds_follow seats.VolumeProtect = (refl, tt)
kinds_follow seats.Agent = (refl, tt)

pub at_follows : (seat : SeatKind) (kinds : List Kind) (place : ℕ) (kind : Kind) → AllFollow seat kinds → slice_get kinds place ≡ Some kind → follows seat kind ≡ true
at_follows seat [] place kind all e = none_some e
at_follows seat (k ∷ kinds) zero kind all e = subst (λ x. follows seat x ≡ true) (one k kind e) all.0
at_follows seat (k ∷ kinds) (suc place) kind all e = at_follows seat kinds place kind all.1 e

unlisted_follows : (seat : SeatKind) (c : AllKnown) (kinds : List Kind) (kind : Kind) → AllFollow seat kinds → first_unlisted c kinds ≡ Some kind → follows seat kind ≡ true
unlisted_follows seat c [] kind all e = none_some e
unlisted_follows seat c (k ∷ kinds) kind all e = by (is_listed c k) e (unlisted_follows seat c kinds kind all.1)
  where
    by : (b : Bool) → (if b then first_unlisted c kinds else Some k) ≡ Some kind → (first_unlisted c kinds ≡ Some kind → follows seat kind ≡ true) → follows seat kind ≡ true
    by true h more = more h
    by false h more = subst (λ x. follows seat x ≡ true) (one k kind h) all.0

-- what begins by a decision is under way
decided_way : (role : Role) (memory : Memory) (c : AllKnown) (mine : List Entry) → AllStandFor c mine → AreRows (all_objects c)
    → first_unlisted c (kinds_of role.kind) ≡ None → memory ≡ memory_of role mine
    → (after : Work) (under : Option Under) (w : Work) → Decides role memory (all_objects c) after under w → AnyIsUnderWay role under mine
decided_way role memory c mine stand order listed is after under w (Nothing empty same none) = subst (λ u. AnyIsUnderWay role u mine) (sym none) tt
decided_way role memory c mine stand order listed is after under w (Begins u old gives same some) =
    subst (λ x. AnyIsUnderWay role x mine) (sym some) (Begun c stand order listed (subst (λ m. GivesCall role m (all_objects c) u) is gives))
decided_way role memory c mine stand order listed is after under w (Drops key first old none rest) = decided_way role memory c mine stand order listed is after under _ rest

-- another call is given
given_stands : (s : ActorState) (mine : List Entry) (given : Option Given) → StandsFor s mine → GivenStands s.role s.memory given s.under → StandsFor (record s { given = given }) mine
given_stands s mine given stands fits =
    record {
      caches = stands.caches;
      under_way = stands.under_way;
      pass = stands.pass;
      memory = stands.memory;
      licensed =
          stands.licensed;
      own = stands.own;
      start = stands.start;
      given = fits;
    }

pub turn_stands : (s new : ActorState) (answer : Next) (mine : List Entry) → AreRows (all_objects s.caches) → StandsFor s mine → IsTurn s new answer → StandsFor new mine
turn_stands s new answer mine order stands = by s.memory.stale s.under (start_call s.role s.memory) (unlisted s) (passing s) refl refl refl refl
  where
    follows_at : (place : ℕ) (kind : Kind) → kind_in_order s.role place ≡ Some kind → follows s.role.kind kind ≡ true
    follows_at place kind at = at_follows s.role.kind (kinds_of s.role.kind) place kind (kinds_follow s.role.kind) at

    keys : (w : Work) (under : Option Under) → AnyIsUnderWay s.role under mine → s.under ≡ None → start_call s.role s.memory ≡ None → AfterKeys s new answer w under → StandsFor new mine
    keys w (Some u) way none started b = subst (λ x. StandsFor x mine) (sym b.state) (record
        { caches = stands.caches; under_way = way; pass = stands.pass; memory = stands.memory; licensed = stands.licensed; own = stands.own; start = stands.start; given = tt })
    keys w None way none started (inl b) = subst (λ x. StandsFor x mine) (sym b.state) (record {
      caches = stands.caches;
      under_way = stands.under_way;
      pass = λ q place kind lt. absurd (omega (arith, lt));
      memory = stands.memory;
      licensed = stands.licensed;
      own = stands.own;
      start = stands.start;
      given = (follows_at 0 b.kind b.first, none, started);
    })
    keys w None way none started (inr b) = subst (λ x. StandsFor x mine) (sym b.state) (record {
      caches = stands.caches;
      under_way = stands.under_way;
      pass = stands.pass;
      memory = stands.memory;
      licensed =
          stands.licensed;
      own = stands.own;
      start = stands.start;
      given = tt;
    })

    by : (stale : Bool) (u : Option Under) (start : Option Request) (l p : Option Kind) → s.under ≡ u → start_call s.role s.memory ≡ start
        → unlisted s ≡ l → passing s ≡ p → TurnBy s new answer stale u start l p → StandsFor new mine
    by true u start l p eu es el ep t = subst (λ x. StandsFor x mine) (sym t.state) (given_stands s mine None stands tt)
    by false (Some u) start l p eu es el ep t = subst (λ x. StandsFor x mine) (sym t.state) (given_stands s mine (Some givens.Task) stands tt)
    by false None (Some request) l p eu es el ep t = subst (λ x. StandsFor x mine) (sym t.state) (given_stands s mine (Some givens.Start) stands eu)
    by false None None (Some kind) p eu es el ep t =
        subst (λ x. StandsFor x mine) (sym t.state)
        (given_stands s mine (Some (givens.Read kind)) stands (unlisted_follows s.role.kind s.caches (kinds_of s.role.kind) kind (kinds_follow s.role.kind) el, eu, es))
    by false None None None (Some kind) eu es el ep t =
        subst (λ x. StandsFor x mine) (sym t.state) (given_stands s mine (Some (givens.Read kind)) stands (follows_at s.pass.behind kind ep, eu, es))
    by false None None None None eu es el ep t = keys t.work t.under (decided_way s.role s.memory s.caches mine stands.caches order el stands.memory t.work t.under s.work t.decides) eu es t.then_
