-- In a replay users ask what lines say, so each pod that a node runs is on a node that the script names.
use Rattle.std.proofs.Common.{◌≡◌, ◌∙◌, ℕ, ◌+◌, zero, suc, List, [], ◌∷◌, ◌++◌, cond, Bool, true, false, true≢false, Option, Some, inl, inr, refl, sym, ap, subst}
use Rattle.std.specs.Prelude.{All, slice_get}
use Rattle.std.proofs.lemmas.List.Elements.{All-cons, All-head, All-nil, All-tail}
use Rattle.kube_objects.specs.declared.objects.Object.TheVariants.{Node}
use Rattle.call_types.specs.declared.entry.Entry.{Entry}
use Rattle.call_types.specs.declared.request.Request.{Request}
use Rattle.call_types.specs.declared.request.Request.TheVariants as requests
use Rattle.call_types.specs.declared.request.SeatKind.{SeatKind}
use Rattle.call_types.specs.declared.request.SeatKind.TheVariants as seats
use Rattle.call_types.specs.declared.setup.Setup.{Setup}
use Rattle.binder_model.specs.Answers.{is_user}
use Rattle.binder_model.specs.Licence.{Licensed}
use Rattle.binder_model.specs.Run.{Run}
use Rattle.binder_model.specs.Told.{SomeOf}
use Rattle.model_laws.proofs.Lists.{none_some, one, some_right}
use Rattle.world_core.specs.declared.drained.Drained.{Drained}
use Rattle.worker_core.specs.declared.role.Role.{Role}
use Rattle.worker_core.specs.Roles.{IsBuiltKind}
use Rattle.actor_rounds.specs.Longer.{users_of}
use Rattle.actor_rounds.specs.Rounds.{all_pass}
use Rattle.actor_rounds.proofs.Entries.{users_as_before}
use Rattle.settle_budget.specs.Nodes.Nodes.{CreatesNode, WasGiven}
use Rattle.settle_budget.proofs.Nodes.Nodes.{pods_are_on_given_nodes}
use Rattle.script_text.specs.declared.script.Line.{Line}
use Rattle.script_text.specs.declared.script.Line.TheVariants.{Call, Drain, Lose, Restart, Turn}
use Rattle.script_text.specs.declared.script.Script.{Script}
use Rattle.script_text.specs.Said.{created_node}
use Rattle.actor_turns.specs.declared.loss.Fate.{Fate}
use Rattle.actor_turns.specs.declared.loss.Fate.TheVariants.{LostAfter, LostBefore, Told}
use Rattle.actor_turns.specs.declared.part.Part.{Part}
use Rattle.actor_turns.specs.Calls.{AreCalls, IsCallBy, MoreCalls, NoCalls, is_held, seat_at}
use Rattle.actor_turns.specs.Fates.{fate_of}
use Rattle.script_runs.specs.Parts.{part_of, role_of}
use Rattle.script_runs.specs.Replays.{AreMoves, IsDrain, IsMove, IsReplay, IsTurnLine, MoreMoves, NoMoves, Progress, first_progress}
use Rattle.script_runs.proofs.Casting.{actor_built}
use Rattle.script_runs.proofs.Draining.{drains_come_to}
use Rattle.replay_laws.specs.Drains.Naming.{ArePodsOnNamed, NamesItsNodes, ReplayedPodsAreOnNamed}
use Rattle.replay_laws.proofs.Drains.Naming.{imports_named, lines_named}

-- ---- the entries of users

call_users : (held : Bool) (fate : Fate) (seat : ℕ) (kind : SeatKind) (past new : List Entry) → IsBuiltKind kind → IsCallBy all_pass held fate seat kind past new → users_of new ≡ users_of past
call_users true fate seat kind past new built call = ap users_of call.is
call_users false Told seat kind past new built call = users_as_before past new _ call.is built
call_users false LostAfter seat kind past new built call = users_as_before past new _ call.is built
call_users false LostBefore seat kind past new built call = ap users_of call

pub calls_users : (part : Part) (new : List Entry) → IsBuiltKind part.kind → (n count : ℕ) (past : List Entry) → AreCalls all_pass [] part new n count past → users_of new ≡ users_of past
calls_users part new built n count past (NoCalls none same) = ap users_of same
calls_users part new built n count past (MoreCalls rest middle some call more) =
    calls_users part new built (n + 1) rest middle more ∙ call_users (is_held [] n) (fate_of part.losses n) (seat_at part n) part.kind past middle built call

pub turn_users : (part : Part) (calls : ℕ) (now next : Progress) → IsBuiltKind part.kind → (role : Role) → IsTurnLine all_pass [] role part calls now next → users_of next.past ≡ users_of now.past
turn_users part calls now next built role (inl all) = ap (λ (p : Progress). users_of p.past) all.is ∙ calls_users part all.past built _ _ now.past all.made
turn_users part calls now next built role (inr few) = ap (λ (p : Progress). users_of p.past) few.is ∙ calls_users part few.past built _ _ now.past few.made

-- what is so of each call of a user's line is so of each entry of a user
module _ (script : Script) (option : Option ℕ) (P : Entry → Type 0) where
  abbrev Asked : List Entry → Type 0
  Asked past = All P (users_of past)

  -- each user's line that is one of these makes such an entry
  abbrev Makes : List Line → Type 0
  Makes lines = (place : ℕ) (user : ℕ) (request : Request) → slice_get lines place ≡ Some (Call user request) → (e : Entry) → e.request ≡ request → P e

  more_asked : (e : Entry) (past : List Entry) → P e → Asked past → Asked (e ∷ past)
  more_asked e past asks h = by (is_user e.kind)
    where
      by : (b : Bool) → All P (cond b (e ∷ users_of past) (users_of past))
      by true = All-cons P e (users_of past) asks h
      by false = h

  same_asked : (now next : Progress) → users_of next.past ≡ users_of now.past → Asked now.past → Asked next.past
  same_asked now next same h = subst (All P) (sym same) h

  drain_users : (now next : Progress) → IsDrain all_pass script option now next → users_of next.past ≡ users_of now.past
  drain_users now next d = (drains_come_to all_pass script option now next d).users

  move_asked : (line : Line) (now next : Progress) → Makes (line ∷ []) → IsMove script option line now next → Asked now.past → Asked next.past
  move_asked (Call user request) now next makes move h =
      let e : Entry = record { seat = user; kind = seats.User; request = request; reply = move.reply; told = true } in
      subst (λ (p : Progress). Asked p.past) (sym move.is) (more_asked e now.past (makes 0 user request refl e refl) h)
  move_asked (Lose actor call lost) now next makes move h = subst (λ (p : Progress). Asked p.past) (sym move) h
  move_asked (Restart actor calls) now next makes move h = subst (λ (p : Progress). Asked p.past) (sym move) h
  move_asked (Turn actor calls) now next makes move h = same_asked now next (turn_users (part_of script actor) calls now next (actor_built actor) (role_of actor) move) h
  move_asked Drain now next makes move h = same_asked now next (drain_users now next move) h

  moves_asked : (end : Progress) (lines : List Line) (now : Progress) → Makes lines → AreMoves script option end lines now → Asked now.past → Asked end.past
  moves_asked end lines now makes (NoMoves none same) h = subst (λ (p : Progress). Asked p.past) (sym same) h
  moves_asked end lines now makes (MoreMoves line rest next are move more) h =
      moves_asked end rest next (λ place user request at. makes (suc place) user request (ap (λ ls. slice_get ls (suc place)) are ∙ at)) more
      (move_asked line now next (first_makes) move h)
    where
      first_makes : Makes (line ∷ [])
      first_makes zero user request at = makes 0 user request (ap (λ ls. slice_get ls 0) are ∙ at)
      first_makes (suc place) user request at = none_some at

  replay_asked : (past : List Entry) (ending : Drained) → Makes script.lines → IsReplay script option past ending → Asked past
  replay_asked past ending makes replay =
      subst Asked (sym replay.history)
      (same_asked replay.lines_done replay.end (drain_users replay.lines_done replay.end replay.last)
      (moves_asked replay.lines_done script.lines (first_progress option replay.drainers) makes replay.moves (All-nil P)))

-- ---- the nodes that entries ask to create

-- a node that the entry asks to create is one that a line creates
abbrev AsksNamed : List Line → Entry → Type 0
AsksNamed lines e = (node : List ℕ) → CreatesNode node e.request → SomeOf (λ line. created_node line ≡ Some node) lines

pub created_by_line : (user : ℕ) (request : Request) (node : List ℕ) → CreatesNode node request → created_node (Call user request) ≡ Some node
created_by_line user (requests.Create (Node n)) node is = ap Some is
created_by_line user request node none = absurd none

some_at : (P : Line → Type 0) (lines : List Line) (place : ℕ) (line : Line) → slice_get lines place ≡ Some line → P line → SomeOf P lines
some_at P [] place line at p = none_some at
some_at P (x ∷ lines) zero line at p = inl (subst P (sym (one x line at)) p)
some_at P (x ∷ lines) (suc place) line at p = inr (some_at P lines place line at p)

lines_make : (lines : List Line) (place user : ℕ) (request : Request) → slice_get lines place ≡ Some (Call user request) → (e : Entry) → e.request ≡ request → AsksNamed lines e
lines_make lines place user request at e is node creates =
    some_at (λ line. created_node line ≡ Some node) lines place (Call user request) at (created_by_line user request node (subst (CreatesNode node) is creates))

-- no controller may ask for one
none_licensed : (kind : SeatKind) (mine : List Entry) (request : Request) (node : List ℕ) → is_user kind ≡ false → CreatesNode node request → Licensed kind mine request → ⊥
none_licensed seats.User mine (requests.Create (Node n)) node other is licensed = absurd (true≢false other)
none_licensed seats.Binder mine (requests.Create (Node n)) node other is licensed = licensed.1
none_licensed seats.Ops mine (requests.Create (Node n)) node other is licensed = licensed.1
none_licensed seats.Scheduler mine (requests.Create (Node n)) node other is licensed = licensed.1
none_licensed seats.ClaimProtect mine (requests.Create (Node n)) node other is licensed = licensed.1
none_licensed seats.VolumeProtect mine (requests.Create (Node n)) node other is licensed = licensed.1
none_licensed seats.Agent mine (requests.Create (Node n)) node other is licensed = licensed.1
none_licensed kind mine request node other none licensed = absurd none

-- the entry asks to create the node, and is a user's
abbrev pub UserCreates : List ℕ → Entry → Type 0
UserCreates node e = (is_user e.kind ≡ true) × CreatesNode node e.request

-- so it is a user of a run that asks to create a node
pub users_create : (setup : Setup) (node : List ℕ) (past : List Entry) → Run setup past → SomeOf (λ e. CreatesNode node e.request) past → SomeOf (UserCreates node) (users_of past)
users_create setup node [] run some = absurd some
users_create setup node (e ∷ past) run some = by (is_user e.kind) refl some (users_create setup node past run.0)
  where
    by : (b : Bool) → is_user e.kind ≡ b → SomeOf (λ x. CreatesNode node x.request) (e ∷ past)
        → (SomeOf (λ x. CreatesNode node x.request) past → SomeOf (UserCreates node) (users_of past)) → SomeOf (UserCreates node) (cond b (e ∷ users_of past) (users_of past))
    by true is (inl creates) later = inl (is, creates)
    by true is (inr more) later = inr (later more)
    by false is (inl creates) later = absurd (none_licensed e.kind _ e.request node is creates run.2)
    by false is (inr more) later = later more

-- and a line creates it
asked_named : (lines : List Line) (node : List ℕ) (users : List Entry) → All (AsksNamed lines) users → SomeOf (UserCreates node) users → SomeOf (λ line. created_node line ≡ Some node) lines
asked_named lines node [] asked some = absurd some
asked_named lines node (e ∷ users) asked (inl creates) = All-head (AsksNamed lines) e users asked node creates.1
asked_named lines node (e ∷ users) asked (inr more) = asked_named lines node users (All-tail (AsksNamed lines) e users asked) more

-- ---- the pods

-- a node that a user creates is one that a line creates
abbrev pub UsersCreateLines : List Line → List Entry → Type 0
UsersCreateLines lines past = (node : List ℕ) → SomeOf (UserCreates node) (users_of past) → SomeOf (λ line. created_node line ≡ Some node) lines

module _ (script : Script) (past : List Entry) (names : NamesItsNodes script) (run : Run script.setup past) (asked : UsersCreateLines script.lines past) where
  given_named : (node : List ℕ) → WasGiven script.setup past node → SomeOf (λ n. n ≡ node) script.node_names
  given_named node (inl import) = subst (SomeOf (λ n. n ≡ node)) (sym names) (imports_named node script.setup.imports script.lines import)
  given_named node (inr created) = subst (SomeOf (λ n. n ≡ node)) (sym names) (lines_named node script.setup.imports script.lines (asked node (users_create script.setup node past run created)))

  given_later : (newer h : List Entry) → past ≡ newer ++ h → (node : List ℕ) → WasGiven script.setup h node → WasGiven script.setup past node
  given_later newer h are node (inl import) = inl import
  given_later newer h are node (inr created) = inr (subst (SomeOf (λ e. CreatesNode node e.request)) (sym are) (some_right (λ e. CreatesNode node e.request) newer h created))

  -- a node that was given before is one that the script names
  pub given_before : (newer h : List Entry) → past ≡ newer ++ h → (node : List ℕ) → WasGiven script.setup h node → SomeOf (λ n. n ≡ node) script.node_names
  given_before newer h are node given = given_named node (given_later newer h are node given)

  pub pods_named : (newer h : List Entry) → past ≡ newer ++ h → ArePodsOnNamed script h
  pods_named newer h are key p there scheduled = given_before newer h are p.node (pods_are_on_given_nodes script.setup h key p there scheduled)

pub replay_creates : (script : Script) (option : Option ℕ) (past : List Entry) (ending : Drained) → IsReplay script option past ending → UsersCreateLines script.lines past
replay_creates script option past ending replay node some =
    asked_named script.lines node (users_of past) (replay_asked script option (AsksNamed script.lines) past ending (lines_make script.lines) replay) some

pub replayed_pods_are_on_named : ReplayedPodsAreOnNamed
replayed_pods_are_on_named script option past ending names run replay = pods_named script past names run (replay_creates script option past ending replay)
