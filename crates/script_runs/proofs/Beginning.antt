-- The stage before the first line, and how a replay goes through the lines and ends.
use Rattle.std.proofs.Common.{◌≡◌, ℕ, ◌≤◌, ◌+◌, ◌-◌, zero, suc, List, [], ◌∷◌, ◌++◌, length, drop, map, Option, Some, None, refl, sym, ◌∙◌, ap, subst, arith, append_assoc, append-nil}
use Rattle.std.specs.Prelude.{slice_get}
use Rattle.std.proofs.lemmas.List.{drop_all}
use Rattle.call_types.specs.declared.entry.Entry.{Entry}
use Rattle.binder_model.specs.World.{world}
use Rattle.model_laws.proofs.Lists.{none_some, one}
use Rattle.binder_model.specs.Due.{IsFirstDue, IsSettled}
use Rattle.world_core.specs.declared.drained.Drained.{Drained}
use Rattle.world_core.specs.declared.drained.Drained.TheVariants.{Settled, Spent}
use Rattle.actor_rounds.specs.declared.drainers.Drainer.{Drainer}
use Rattle.actor_rounds.specs.Drainers.{AreNew, AreStanding, HaveNoEntries, seats_of}
use Rattle.actor_rounds.specs.Rounds.{EndsWith, all_pass, made_of}
use Rattle.script_text.specs.declared.script.Line.{Line}
use Rattle.script_text.specs.declared.script.Script.{Script}
use Rattle.actor_turns.specs.declared.player.Player.{Player}
use Rattle.script_runs.specs.declared.stage.Stage.{Stage}
use Rattle.script_lines.specs.declared.actors.Actor.{Actor}
use Rattle.script_lines.specs.declared.actors.WorkerKind.TheVariants as workers
use Rattle.script_runs.specs.Budget.{first_budget}
use Rattle.script_runs.specs.Parts.{drain_seat, first_actor_seat, role_of}
use Rattle.script_runs.specs.Replays.{EndsAs, IsDrain, IsMove, IsReplay, MoreMoves, NoMoves, Progress, first_progress}
use Rattle.actor_turns.specs.Steps.Living.{Lives}
use Rattle.worker_core.specs.declared.role.Role.{Role}
use Rattle.actor_turns.specs.Steps.Playing.{EachPlayer, IsNewPlayer, Plays}
use Rattle.script_runs.specs.Steps.Settled.{IsNoted}
use Rattle.script_runs.specs.Steps.Standing.{
  AreNewPlayers,
  EachWithRole,
  Ended,
  HasAdded,
  HasMoved,
  IsBudget,
  SoFar,
  StageStands,
  actors_for,
  agents_for,
  end_of,
  part_from,
  parts_from,
  parts_in,
  seat_past,
  with_made,
  workers_of,
}
use Rattle.actor_turns.proofs.Lived.{new_lives}
use Rattle.actor_turns.proofs.Turning.{new_plays}
use Rattle.script_runs.proofs.Draining.{new_ones_are_drainers}
use Rattle.delayed_binding.proofs.Placing.{drop_at}

-- ---- the beginning

pub none_yet : (seats : List ℕ) → HaveNoEntries seats []
none_yet [] = tt
none_yet (seat ∷ seats) = (refl, none_yet seats)

first_most : (option : Option ℕ) → IsBudget option (first_budget option)
first_most (Some given) = refl
first_most None = omega arith

-- ---- the new drainers

pub new_ones : (script : Script) (first : ℕ) (ds : List Drainer) → AreNew first script.node_names ds → first ≡ drain_seat script → AreNew (drain_seat script) script.node_names ds
new_ones script first ds new is = subst (λ n. AreNew n script.node_names ds) is new

-- ---- the players

parts_new : (lines : List Line) (actors : List Actor) (first : ℕ) (xs : List Player) → AreNewPlayers lines actors first xs → parts_in xs ≡ parts_from lines actors first
parts_new lines [] first xs new = ap parts_in new
parts_new lines (actor ∷ actors) first [] new = absurd new
parts_new lines (actor ∷ actors) first (x ∷ xs) new =
    ap (λ p. p ∷ parts_in xs) new.0 ∙ ap (λ ps. part_from lines actor first ∷ ps) (parts_new lines actors (end_of (part_from lines actor first)) xs new.2)

each_new : (lines : List Line) (actors : List Actor) (first : ℕ) (xs : List Player) → AreNewPlayers lines actors first xs → EachWithRole IsNewPlayer actors xs
each_new lines [] first xs new place actor x there at = none_some there
each_new lines (a ∷ actors) first [] new place actor x there at = absurd new
each_new lines (a ∷ actors) first (y ∷ xs) new zero actor x there at =
    subst (λ (z : Player). IsNewPlayer (role_of actor) z) (one y x at) (subst (λ (b : Actor). IsNewPlayer (role_of b) y) (one a actor there) new.1)
each_new lines (a ∷ actors) first (y ∷ xs) new (suc place) actor x there at = each_new lines actors (end_of (part_from lines a first)) xs new.2 place actor x there at

-- each player is one of some actor
some_actor : (lines : List Line) (actors : List Actor) (first : ℕ) (xs : List Player) → AreNewPlayers lines actors first xs
    → (place : ℕ) (x : Player) → slice_get xs place ≡ Some x → (role : Role) × IsNewPlayer role x
some_actor lines [] first xs new place x at = none_some (ap (λ (ys : List Player). slice_get ys place) (sym new) ∙ at)
some_actor lines (a ∷ actors) first [] new place x at = absurd new
some_actor lines (a ∷ actors) first (y ∷ xs) new zero x at = (role_of a, subst (IsNewPlayer (role_of a)) (one y x at) new.1)
some_actor lines (a ∷ actors) first (y ∷ xs) new (suc place) x at = some_actor lines actors (end_of (part_from lines a first)) xs new.2 place x at

both_new : (lines : List Line) (ones others : List Actor) (first : ℕ) (xs ys : List Player) → AreNewPlayers lines ones first xs
    → AreNewPlayers lines others (seat_past lines ones first) ys → AreNewPlayers lines (ones ++ others) first (xs ++ ys)
both_new lines [] others first xs ys a b = subst (λ (zs : List Player). AreNewPlayers lines others first (zs ++ ys)) (sym a) b
both_new lines (actor ∷ ones) others first [] ys a b = absurd a
both_new lines (actor ∷ ones) others first (x ∷ xs) ys a b = (a.0, a.1, both_new lines ones others (end_of (part_from lines actor first)) xs ys a.2 b)

past_more : (lines : List Line) (ones others : List Actor) (first : ℕ) → seat_past lines (ones ++ others) first ≡ seat_past lines others (seat_past lines ones first)
past_more lines [] others first = refl
past_more lines (actor ∷ ones) others first = past_more lines ones others (end_of (part_from lines actor first))

-- players of some actors, and then of others
pub added_then : (lines : List Line) (ones others : List Actor) (first middle next : ℕ) (before between after : List Player)
    → HasAdded lines ones first middle before between → HasAdded lines others middle next between after → HasAdded lines (ones ++ others) first next before after
added_then lines ones others first middle next before between after a b = record {
  added = a.added ++ b.added;
  are = b.are ∙ ap (λ xs. xs ++ b.added) a.are ∙ append_assoc before a.added b.added;
  new = both_new lines ones others first a.added b.added a.new (subst (λ n. AreNewPlayers lines others n b.added) a.seat b.new);
  seat = b.seat ∙ ap (seat_past lines others) a.seat ∙ sym (past_more lines ones others first);
}

pub none_added : (lines : List Line) (first : ℕ) (players : List Player) → HasAdded lines [] first first players players
none_added lines first players = record { added = []; are = sym (append-nil players); new = refl; seat = refl }

pub one_added : (lines : List Line) (actor : Actor) (first next : ℕ) (x : Player) (before after : List Player) → x.part ≡ part_from lines actor first
    → IsNewPlayer (role_of actor) x → next ≡ end_of x.part → after ≡ before ++ x ∷ [] → HasAdded lines (actor ∷ []) first next before after
one_added lines actor first next x before after part new ends is = record { added = x ∷ []; are = is; new = (part, new, refl); seat = ends ∙ ap end_of part }

-- one more, and then those that are left
pub added_next : {X : Type 0} (lines : List Line) (actor_of : X → Actor) (items : List X) (index : ℕ) (item : X) (seat next end : ℕ)
    (before between after : List Player) → slice_get items index ≡ Some item
    → HasAdded lines (actor_of item ∷ []) seat next before between → HasAdded lines (map actor_of (drop (index + 1) items)) next end between after
    → HasAdded lines (map actor_of (drop index items)) seat end before after
added_next lines actor_of items index item seat next end before between after here first rest =
    subst (λ xs. HasAdded lines (map actor_of xs) seat end before after) (sym (drop_at items index item here))
    (added_then lines (actor_of item ∷ []) (map actor_of (drop (index + 1) items)) seat next end before between after first rest)

-- none is left
pub all_added : {X : Type 0} (lines : List Line) (actor_of : X → Actor) (items : List X) (index seat first : ℕ) (initial now : List Player) → length items ≤ index
    → ((end : ℕ) (after : List Player) → HasAdded lines (map actor_of (drop index items)) seat end now after
    → HasAdded lines (map actor_of items) first end initial after) → HasAdded lines (map actor_of items) first seat initial now
all_added lines actor_of items index seat first initial now over goes =
    goes seat now (subst (λ xs. HasAdded lines (map actor_of xs) seat seat now now) (sym (drop_all index items over)) (none_added lines seat now))

-- the workers of all kinds and the agents, added after each other
pub actors_added : (lines : List Line) (nodes : List (List ℕ)) (second third fourth fifth sixth end : ℕ) (none ones two three four five items : List Player) → none ≡ []
    → HasAdded lines (workers_of workers.Binder) first_actor_seat second none ones → HasAdded lines (workers_of workers.Ops) second third ones two
    → HasAdded lines (workers_of workers.Scheduler) third fourth two three
    → HasAdded lines (workers_of workers.Claims) fourth fifth three four → HasAdded lines (workers_of workers.Volumes) fifth sixth four five → HasAdded lines (agents_for nodes) sixth end five items
    → HasAdded lines (actors_for nodes) first_actor_seat end [] items
unfolding actors_for
actors_added lines nodes second third fourth fifth sixth end none ones two three four five items is_none binders ops schedulers claims volumes agents =
    let of_volumes = workers_of workers.Volumes ++ agents_for nodes in
    let of_claims = workers_of workers.Claims ++ of_volumes in
    let of_schedulers = workers_of workers.Scheduler ++ of_claims in
    let of_ops = workers_of workers.Ops ++ of_schedulers in
    let with_volumes = added_then lines (workers_of workers.Volumes) (agents_for nodes) fifth sixth end four five items volumes agents in
    let with_claims = added_then lines (workers_of workers.Claims) of_volumes fourth fifth end three four items claims with_volumes in
    let with_schedulers = added_then lines (workers_of workers.Scheduler) of_claims third fourth end two three items schedulers with_claims in
    let with_ops = added_then lines (workers_of workers.Ops) of_schedulers second third end ones two items ops with_schedulers in
    subst (λ xs. HasAdded lines (workers_of workers.Binder ++ of_ops) first_actor_seat end xs items) is_none
    (added_then lines (workers_of workers.Binder) of_ops first_actor_seat second end none ones items binders with_ops)

pub begins : (script : Script) (option : Option ℕ) (s : Stage) (first : ℕ) → s.world.past ≡ [] → s.world.setup ≡ script.setup
    → HasAdded script.lines (actors_for script.node_names) first_actor_seat first [] s.players.items
    → AreNew first script.node_names s.drainers → first ≡ drain_seat script
    → ((past : List Entry) → HaveNoEntries (seats_of s.drainers) past → AreStanding s.drainers past) → s.drained ≡ 0
    → s.budget ≡ first_budget option → s.settled ≡ None → StageStands script option (first_progress option s.drainers) s
begins script option s first past setup added are seat stand drained budget unsettled =
    let lines = script.lines in
    let actors = actors_for script.node_names in
    let items = s.players.items in
    let new = subst (AreNewPlayers lines actors first_actor_seat) (sym added.are) added.new in
    record {
      past = past;
      setup = setup;
      parts = parts_new lines actors first_actor_seat items new;
      plays = λ place x at named. let some = some_actor lines actors first_actor_seat items new place x at in subst (λ h. Plays x h (λ seat. [])) (sym past) (new_plays some.0 x some.1);
      lives = λ place actor x there at named. subst (λ h. Lives (role_of actor) x h (λ seat. [])) (sym past)
          (new_lives (role_of actor) x (each_new lines actors first_actor_seat items new place actor x there at));
      made = λ place x at. (some_actor lines actors first_actor_seat items new place x at).1.made;
      held = λ place x at. (some_actor lines actors first_actor_seat items new place x at).1.held;
      drainers = refl;
      are = new_ones_are_drainers script (drain_seat script) option (first_progress option s.drainers) (new_ones script first s.drainers are seat);
      standing = stand [] (none_yet (seats_of s.drainers));
      drained = drained;
      budget = budget;
      few = omega (arith, drained);
      most = subst (IsBudget option) (sym budget) (first_most option);
      settled = subst (IsNoted s.world.setup s.world.past) (sym unsettled) tt;
    }

pub new_made : (lines : List Line) (actors : List Actor) (first next : ℕ) (players : List Player) → HasAdded lines actors first next [] players → EachPlayer (λ x. x.made ≤ 0) players
new_made lines actors first next players added place x at =
    let m = (some_actor lines actors first players (subst (AreNewPlayers lines actors first) (sym added.are) added.new) place x at).1.made in
    omega (arith, m)

-- ---- the lines

pub so_far_first : (script : Script) (option : Option ℕ) (s : Stage) → AreNew (drain_seat script) script.node_names s.drainers
    → StageStands script option (first_progress option s.drainers) s → SoFar script option 0 s
so_far_first script option s new stands = record { first = s.drainers; new = new; progress = first_progress option s.drainers; stands = stands; moves = λ end rest. rest }

pub so_far_on : (script : Script) (option : Option ℕ) (place : ℕ) (line : Line) (old new : Stage) → slice_get script.lines place ≡ Some line
    → SoFar script option place old → HasMoved script option (IsMove script option line) old new → SoFar script option (place + 1) new
so_far_on script option place line old new at so moved =
    let leads = moved so.progress so.stands in
    record {
      first = so.first;
      new = so.new;
      progress = leads.after;
      stands = leads.stands;
      moves = λ end rest. so.moves end (MoreMoves line (drop (place + 1) script.lines) leads.after (drop_at script.lines place line at) leads.move rest);
    }

-- ---- the end

ends_as : (script : Script) (option : Option ℕ) (after : Progress) (s : Stage) (d : Drained) → StageStands script option after s
    → made_of d ≤ s.drained → EndsWith s.world.setup s.world.past (s.budget - (s.drained - made_of d)) d → EndsAs script.setup after (with_made s.drained d)
ends_as script option after s (Settled made) stands some ends =
    (stands.drained, subst (λ h. IsSettled script.setup (world script.setup h)) stands.past (subst (λ u. IsSettled u (world u s.world.past)) stands.setup ends))
ends_as script option after s (Spent made key due) stands some ends =
    let spent = ends.0 in
    let few = stands.few in
    let budget = stands.budget in (
      stands.drained,
      omega (arith, spent, some, few, budget),
      subst (λ h. IsFirstDue script.setup (world script.setup h) (Some (key, due))) stands.past (subst (λ u. IsFirstDue u (world u s.world.past) (Some (key, due))) stands.setup ends.1),
    )

pub has_ended : (script : Script) (option : Option ℕ) (old new : Stage) (d ending : Drained)
    → HasMoved script option (IsDrain all_pass script option) old new → made_of d ≤ new.drained
    → EndsWith new.world.setup new.world.past (new.budget - (new.drained - made_of d)) d → ending ≡ with_made new.drained d
    → (p : Progress) → StageStands script option p old → Ended script option p new ending
has_ended script option old new d ending moved some ends is p stands =
    let leads = moved p stands in
    record {
      after = leads.after;
      move = leads.move;
      stands = leads.stands;
      ends = subst (EndsAs script.setup leads.after) (sym is) (ends_as script option leads.after new d leads.stands some ends);
    }

pub replays : (script : Script) (option : Option ℕ) (place : ℕ) (before after : Stage) (past : List Entry) (ending : Drained)
    → length script.lines ≤ place → SoFar script option place before
    → ((p : Progress) → StageStands script option p before → Ended script option p after ending) → past ≡ after.world.past → IsReplay script option past ending
replays script option place before after past ending all so ended is =
    let e = ended so.progress so.stands in
    record {
      drainers = so.first;
      new = so.new;
      lines_done = so.progress;
      end = e.after;
      moves = so.moves so.progress (NoMoves (drop_all place script.lines all) refl);
      last = e.move;
      history = is ∙ e.stands.past;
      ends = e.ends;
    }
