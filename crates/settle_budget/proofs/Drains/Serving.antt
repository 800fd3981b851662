-- Each node that was given has its agent still after a round.
use Rattle.std.proofs.Common.{◌≡◌, ◌∙◌, ◌⊎◌, ℕ, List, [], ◌∷◌, ◌++◌, ◌≤◌, length, Bool, true, false, true≢false, Option, Some, None, inl, inr, refl, sym, ap, subst, arith}
use Rattle.std.specs.Prelude.{cond, option_map, slice_get}
use Rattle.kube_objects.specs.declared.objects.Object.TheVariants.{Node}
use Rattle.call_types.specs.declared.entry.Entry.{Entry}
use Rattle.call_types.specs.declared.request.Request.{Request}
use Rattle.call_types.specs.declared.request.Request.TheVariants as requests
use Rattle.call_types.specs.declared.request.SeatKind.{SeatKind}
use Rattle.call_types.specs.declared.request.SeatKind.TheVariants as seats
use Rattle.call_types.specs.declared.setup.Setup.{Setup}
use Rattle.binder_model.specs.Answers.{is_user}
use Rattle.binder_model.specs.Licence.{Licensed}
use Rattle.binder_model.specs.Run.{Run}
use Rattle.binder_model.specs.Told.{SomeOf, own}
use Rattle.model_laws.proofs.Growing.{runs_are_histories}
use Rattle.model_laws.proofs.Lists.{none_some, one}
use Rattle.worker_core.specs.declared.role.Role.{Role}
use Rattle.worker_core.specs.Roles.{IsBuiltKind}
use Rattle.actor_rounds.specs.declared.drainers.Drainer.{Drainer}
use Rattle.actor_rounds.specs.Drainers.{agent_of, roles_of, seats_of}
use Rattle.actor_rounds.specs.Longer.{users_of}
use Rattle.actor_rounds.proofs.RoundFacts.{roles_built, round_grows, round_roles, round_seats, round_users}
use Rattle.settle_alike.proofs.Alike.Rows.{get_mapped}
use Rattle.settle_progress.specs.Epochs.Epochs.{IsCurrent, TakesNoMore}
use Rattle.settle_progress.proofs.Epochs.Epochs.{rounds_keep_epochs}
use Rattle.settle_budget.specs.Nodes.Nodes.{CreatesNode, WasGiven}
use Rattle.settle_progress.specs.Drains.Rounds.{HasCurrent}
use Rattle.settle_budget.specs.Drains.Rounds.{AreOfActors, RoundsServeNodes}

-- ---- the entries of actors

no_user : (kind : SeatKind) → is_user kind ≡ false → IsBuiltKind kind
no_user seats.User is = absurd (true≢false is)
no_user seats.Binder is = tt
no_user seats.Ops is = tt
no_user seats.Scheduler is = tt
no_user seats.ClaimProtect is = tt
no_user seats.VolumeProtect is = tt
no_user seats.Agent is = tt

users_grow : (newer h : List Entry) → length (users_of h) ≤ length (users_of (newer ++ h))
users_grow [] h = omega arith
users_grow (e ∷ newer) h = by (is_user e.kind) (users_grow newer h)
  where
    by : (b : Bool) → length (users_of h) ≤ length (users_of (newer ++ h)) → length (users_of h) ≤ length (cond b (e ∷ users_of (newer ++ h)) (users_of (newer ++ h)))
    by true rest = omega (arith, rest)
    by false rest = rest

-- entries that add none of users are of actors
pub of_actors : (newer h : List Entry) → users_of (newer ++ h) ≡ users_of h → AreOfActors newer
of_actors [] h same = tt
of_actors (e ∷ newer) h same = by (is_user e.kind) refl same (of_actors newer h)
  where
    by : (b : Bool) → is_user e.kind ≡ b → cond b (e ∷ users_of (newer ++ h)) (users_of (newer ++ h)) ≡ users_of h → (users_of (newer ++ h) ≡ users_of h → AreOfActors newer) → AreOfActors (e ∷ newer)
    by true is more later = let few = users_grow newer h in let many = ap length more in absurd (omega (arith, few, many))
    by false is rest later = (no_user e.kind is, later rest)

-- ---- none of them creates a node

creates_none : (kind : SeatKind) (mine : List Entry) (node : List ℕ) (r : Request) → IsBuiltKind kind → Licensed kind mine r → CreatesNode node r → ⊥
creates_none kind mine node (requests.Create (Node n)) built may is = by kind built may
  where
    by : (k : SeatKind) → IsBuiltKind k → Licensed k mine (requests.Create (Node n)) → ⊥
    by seats.User built may = built
    by seats.Binder built may = may.1
    by seats.Ops built may = may.1
    by seats.Scheduler built may = may.1
    by seats.ClaimProtect built may = may.1
    by seats.VolumeProtect built may = may.1
    by seats.Agent built may = may.1
creates_none kind mine node _ built may is = is

given_before : (setup : Setup) (node : List ℕ) (newer h : List Entry) → Run setup (newer ++ h) → AreOfActors newer
    → SomeOf (λ e. CreatesNode node e.request) (newer ++ h) → SomeOf (λ e. CreatesNode node e.request) h
given_before setup node [] h run actors some = some
given_before setup node (e ∷ newer) h run actors (inl creates) = absurd (creates_none e.kind (own e.seat (newer ++ h)) node e.request actors.0 run.2 creates)
given_before setup node (e ∷ newer) h run actors (inr some) = given_before setup node newer h run.0 actors.1 some

-- ---- agents

-- an actor of the same role stands at the same place, with the same seat
record IsAt (ds : List Drainer) (place : ℕ) (d : Drainer) : Type 0 where
  drainer : Drainer
  there : slice_get ds place ≡ Some drainer
  role : drainer.actor.role ≡ d.actor.role
  seat : drainer.seat ≡ d.seat

still_at : (ds after : List Drainer) → roles_of after ≡ roles_of ds → seats_of after ≡ seats_of ds → (place : ℕ) (d : Drainer) → slice_get ds place ≡ Some d → IsAt after place d
still_at ds after roles seats_ place d there = by (slice_get after place) refl
  where
    role_there : option_map (λ (x : Drainer). x.actor.role) (slice_get after place) ≡ Some d.actor.role
    role_there =
        sym (get_mapped (λ (x : Drainer). x.actor.role) after place)
        ∙ (ap (λ (rs : List Role). slice_get rs place) roles ∙ (get_mapped (λ (x : Drainer). x.actor.role) ds place ∙ ap (option_map (λ (x : Drainer). x.actor.role)) there))

    seat_there : option_map (λ (x : Drainer). x.seat) (slice_get after place) ≡ Some d.seat
    seat_there = sym (get_mapped (λ (x : Drainer). x.seat) after place)
        ∙ (ap (λ (ss : List ℕ). slice_get ss place) seats_ ∙ (get_mapped (λ (x : Drainer). x.seat) ds place ∙ ap (option_map (λ (x : Drainer). x.seat)) there))

    by : (x : Option Drainer) → slice_get after place ≡ x → IsAt after place d
    by None e = none_some (sym (ap (option_map (λ (x : Drainer). x.seat)) e) ∙ seat_there)
    by (Some y) e = record {
      drainer = y;
      there = e;
      role = one y.actor.role d.actor.role (sym (ap (option_map (λ (x : Drainer). x.actor.role)) e) ∙ role_there);
      seat = one y.seat d.seat (sym (ap (option_map (λ (x : Drainer). x.seat)) e) ∙ seat_there);
    }

-- the role at a place
role_of : (ds : List Drainer) (place : ℕ) (d : Drainer) (node : List ℕ) → slice_get ds place ≡ Some d → d.actor.role ≡ agent_of node → slice_get (roles_of ds) place ≡ Some (agent_of node)
role_of ds place d node there role = get_mapped (λ (x : Drainer). x.actor.role) ds place ∙ (ap (option_map (λ (x : Drainer). x.actor.role)) there ∙ ap Some role)

pub rounds_serve_nodes : RoundsServeNodes
rounds_serve_nodes setup lets ds after h past b left whole run roles apart round served node given =
    record { place = c.place; drainer = at.drainer; there = at.there; role = at.role ∙ c.role; current = subst (IsCurrent setup past node) (sym at.seat) kept }
  where
    before : WasGiven setup past node → WasGiven setup h node
    before (inl imported) = inl imported
    before (inr some) =
        let g = round_grows lets past left ds h b after whole round in
        let users : users_of (g.longer.added ++ h) ≡ users_of h = ap users_of (sym g.longer.are) ∙ round_users lets past left ds h b after whole round (roles_built (roles_of ds) roles) in
        inr (given_before setup node g.longer.added h (subst (Run setup) g.longer.are run.run) (of_actors g.longer.added h users) (subst (SomeOf (λ e. CreatesNode node e.request)) g.longer.are some))

    c : HasCurrent setup ds h node
    c = served node (before given)

    at : IsAt after c.place c.drainer
    at = still_at ds after (round_roles lets past left ds h b after whole round) (round_seats lets past left ds h b after whole round) c.place c.drainer c.there

    others : (place : ℕ) (d : Drainer) → slice_get ds place ≡ Some d → d.actor.role ≡ agent_of node → (d.seat ≡ c.drainer.seat) ⊎ TakesNoMore node d.seat d.actor h
    others place d there role =
        let same : place ≡ c.place = apart place c.place node (role_of ds place d node there role) (role_of ds c.place c.drainer node c.there c.role) in
        inl (ap (λ (x : Drainer). x.seat) (one d c.drainer (sym there ∙ (ap (slice_get ds) same ∙ c.there))))

    kept : IsCurrent setup past node c.drainer.seat
    kept = rounds_keep_epochs setup lets ds after h past b left whole c.drainer.seat node (runs_are_histories setup past run.run) roles round others c.current
