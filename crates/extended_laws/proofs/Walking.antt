-- What an extended run is made of: the replay of the script with the lines that reached the world, and the answers of the side.
use Rattle.std.proofs.Common.{◌≡◌, ℕ, ◌+◌, List, [], ◌∷◌, ◌++◌, Bool, true, false, Option, inl, inr, refl, sym, ap, ◌∙◌, subst}
use Rattle.std.proofs.lemmas.List.{append_cancel_right}
use Rattle.call_types.specs.declared.entry.Entry.{Entry}
use Rattle.call_types.specs.declared.request.Request.{Request}
use Rattle.call_types.specs.declared.request.SeatKind.{SeatKind}
use Rattle.call_types.specs.declared.request.SeatKind.TheVariants as seats
use Rattle.call_types.specs.declared.setup.Setup.{Setup}
use Rattle.world_core.specs.declared.drained.Drained.{Drained}
use Rattle.actor_rounds.specs.Longer.{users_of}
use Rattle.actor_rounds.specs.Rounds.{all_pass}
use Rattle.actor_turns.specs.Calls.{AreCalls, IsCallBy, MoreCalls, NoCalls, is_held, seat_at}
use Rattle.actor_turns.specs.declared.loss.Fate.{Fate}
use Rattle.actor_turns.specs.declared.loss.Fate.TheVariants.{LostAfter, LostBefore, Told}
use Rattle.actor_turns.specs.declared.part.Part.{Part}
use Rattle.actor_turns.specs.Fates.{fate_of}
use Rattle.script_lines.specs.declared.actors.Actor.{Actor}
use Rattle.script_text.specs.declared.script.Line.{Line}
use Rattle.script_text.specs.declared.script.Line.TheVariants.{Call, Drain, Lose, Restart, Turn}
use Rattle.script_text.specs.declared.script.Script.{Script}
use Rattle.script_runs.specs.Parts.{part_of, role_of}
use Rattle.script_runs.specs.Played.{ArePlayed}
use Rattle.script_runs.specs.Replays.{AreMoves, IsDrain, IsMove, IsReplay, IsTurnLine, MoreMoves, NoMoves, Progress, first_progress}
use Rattle.script_runs.proofs.Casting.{actor_built}
use Rattle.script_runs.proofs.Draining.{drains_come_to}
use Rattle.worker_core.specs.Roles.{IsBuiltKind}
use Rattle.actor_rounds.proofs.Entries.{users_as_before}
use Rattle.extended_runs.proofs.Noting.{entries_with, steps_enter_nothing}
use Rattle.actor_turns.specs.Lives.{ArePlayedLives}
use Rattle.side_model.specs.Answers.{SideRun}
use Rattle.side_model.specs.Sides.{SideSetup}
use Rattle.side_model.specs.Merged.{Step, entries}
use Rattle.side_model.specs.Within.{HoldsBack, PassesQuota}
use Rattle.actor_rounds.specs.Drainers.{AreNew}
use Rattle.extended_runs.specs.Kept.{KeepsLine, LeavesClaim, LeavingOut, NoneLeft, with_lines}
use Rattle.side_calls.specs.declared.asks.SideReply.TheVariants.{OverQuota as OverQuotaReply}
use Rattle.side_calls.specs.declared.quotas.OverQuota.{OverQuota}
use Rattle.std.specs.Prelude.{option_map}
use Rattle.settle_budget.specs.Drains.Rounds.{AreOfActors}
use Rattle.settle_budget.proofs.Drains.Serving.{of_actors}
use Rattle.extended_runs.specs.Walks.{AreAfter, PassesLine, AreSteps, Asks, Ends, Holds, IsExtendedRun, PlaysLine, Plays, RestsHere, StepsOn, Walks, with_entries}
use Rattle.extended_runs.specs.Works.{Work, lines_in}
use Rattle.extended_laws.proofs.Leaving.{same_drain_seat, same_part, stood}

-- ---- the lines that reached the world

pub left_out : (script : Script) (given : SideSetup) (option : Option ℕ) (end : Progress) (all : List Step) (works : List Work) (kept : List Line) (now : Progress) (m : List Step)
    → Walks script given option end all works kept now m → LeavingOut (lines_in works) kept
left_out script given option end all works kept now m (Ends none empty e a) = NoneLeft (ap lines_in none) empty
left_out script given option end all works kept now m (Plays line rest later next after are is plays more) =
    KeepsLine line (lines_in rest) later (ap lines_in are) is (left_out script given option end all rest later next after more)
left_out script given option end all works kept now m (Holds user c over rest are held more) =
    LeavesClaim user c (lines_in rest) (ap lines_in are) (left_out script given option end all rest kept now _ more)
left_out script given option end all works kept now m (Asks user key bytes reply rest are answer more) =
    subst (λ lines. LeavingOut lines kept) (sym (ap lines_in are)) (left_out script given option end all rest kept now _ more)

-- ---- entries of the world

after_enters_nothing : (setup : Setup) (given : SideSetup) (line : Line) (after m : List Step) → AreAfter setup given line after m → entries after ≡ entries m
after_enters_nothing setup given Drain after m is = steps_enter_nothing setup given after m is
after_enters_nothing setup given (Call user request) after m is = ap entries is
after_enters_nothing setup given (Lose actor call lost) after m is = ap entries is
after_enters_nothing setup given (Restart actor calls) after m is = ap entries is
after_enters_nothing setup given (Turn actor calls) after m is = ap entries is

module _ (script : Script) (given : SideSetup) (option : Option ℕ) (end : Progress) (all : List Step) where
  played_past : (line : Line) (now next : Progress) (m after : List Step) → PlaysLine script given option line now next m after → entries m ≡ now.past → entries after ≡ next.past
  played_past line now next m after plays same =
      after_enters_nothing script.setup given line after (with_entries plays.added m) plays.rests
      ∙ entries_with plays.added m ∙ ap (λ h. plays.added ++ h) same ∙ sym plays.grows

  pub walked_past : (works : List Work) (kept : List Line) (now : Progress) (m : List Step) → Walks script given option end all works kept now m → entries m ≡ now.past → entries all ≡ end.past
  walked_past works kept now m (Ends none empty e a) same = ap entries a ∙ same ∙ sym (ap (λ (p : Progress). p.past) e)
  walked_past works kept now m (Plays line rest later next after are is plays more) same = walked_past rest later next after more (played_past line now next m after plays same)
  walked_past works kept now m (Holds user c over rest are held more) same = walked_past rest kept now _ more same
  walked_past works kept now m (Asks user key bytes reply rest are answer more) same = walked_past rest kept now _ more same

-- ---- the moves of the lines that reached the world, in the script with them alone

module _ (script : Script) (kept : List Line) (left : LeavingOut script.lines kept) (option : Option ℕ) where
  drain_there : (before after : Progress) → IsDrain all_pass script option before after → IsDrain all_pass (with_lines kept script) option before after
  drain_there before after d = record { past = d.past; made = d.made; budget = d.budget; ran = d.ran; raises = d.raises; stand = d.stand; few = d.few; rounds = d.rounds; is = d.is }

  move_there : (line : Line) (before after : Progress) → IsMove script option line before after → IsMove (with_lines kept script) option line before after
  move_there (Call user request) before after move = move
  move_there (Lose actor call lost) before after move = move
  move_there (Restart actor calls) before after move = move
  move_there (Turn actor calls) before after move = subst (λ (part : Part). IsTurnLine all_pass [] (role_of actor) part calls before after) (same_part script kept left actor) move
  move_there Drain before after move = drain_there before after move

  moves_there : (given : SideSetup) (end : Progress) (all : List Step) (works : List Work) (lines : List Line) (now : Progress) (m : List Step)
      → Walks script given option end all works lines now m → AreMoves (with_lines kept script) option end lines now
  moves_there given end all works lines now m (Ends none empty e a) = NoMoves empty e
  moves_there given end all works lines now m (Plays line rest later next after are is plays more) =
      MoreMoves line later next is (move_there line now next plays.move) (moves_there given end all rest later next after more)
  moves_there given end all works lines now m (Holds user c over rest are held more) = moves_there given end all rest lines now _ more
  moves_there given end all works lines now m (Asks user key bytes reply rest are answer more) = moves_there given end all rest lines now _ more

  played_there : (end : Progress) → ArePlayed script end → ArePlayed (with_lines kept script) end
  played_there end played place actor calls at =
      let found = stood script.lines kept left place (Turn actor calls) at in
      subst (λ (part : Part). ArePlayedLives [] (role_of actor) part (end.made part.name) end.past end.idle) (same_part script kept left actor) (played found.0 actor calls found.1)

-- ---- the replay

module _ (script : Script) (given : SideSetup) (works : List Work) (option : Option ℕ) (kept : List Line) (m : List Step) (ending : Drained)
    (run : IsExtendedRun script given works option kept m ending) where
  -- the history of the world is that of the end
  pub run_past : entries m ≡ run.end.past
  run_past =
      steps_enter_nothing script.setup given m (with_entries run.added run.between) run.rests ∙ entries_with run.added run.between
      ∙ ap (λ h. run.added ++ h) (walked_past script given option run.lines_done run.between works kept (first_progress option run.drainers) [] run.walks refl) ∙ sym run.grows

  module _ (lines : lines_in works ≡ script.lines) where
    pub run_leaves : LeavingOut script.lines kept
    run_leaves = subst (λ ls. LeavingOut ls kept) lines (left_out script given option run.lines_done run.between works kept (first_progress option run.drainers) [] run.walks)

    pub run_replays : IsReplay (with_lines kept script) option (entries m) ending
    run_replays = record {
      drainers = run.drainers;
      new = subst (λ n. AreNew n script.node_names run.drainers) (same_drain_seat script kept run_leaves) run.new;
      lines_done = run.lines_done;
      end = run.end;
      moves = moves_there script kept run_leaves option given run.lines_done run.between works kept (first_progress option run.drainers) [] run.walks;
      last = drain_there script kept run_leaves option run.lines_done run.end run.last;
      history = run_past;
      ends = run.ends;
    }

    pub run_played : ArePlayed script run.end → ArePlayed (with_lines kept script) run_replays.end
    unfolding run_replays
    run_played = played_there script kept run_leaves option run.end

-- ---- the answers of the side

world_runs : (setup : Setup) (given : SideSetup) (added : List Entry) (m : List Step) → SideRun setup given m → SideRun setup given (with_entries added m)
world_runs setup given [] m run = run
world_runs setup given (e ∷ added) m run = world_runs setup given added m run

steps_run : (setup : Setup) (given : SideSetup) (end m : List Step) → AreSteps setup given end m → SideRun setup given m → SideRun setup given end
steps_run setup given end m (RestsHere none is) run = subst (SideRun setup given) (sym is) run
steps_run setup given end m (StepsOn kind key reply answered more) run = steps_run setup given end _ more (run, answered)

after_runs : (setup : Setup) (given : SideSetup) (line : Line) (after m : List Step) → AreAfter setup given line after m → SideRun setup given m → SideRun setup given after
after_runs setup given Drain after m is run = steps_run setup given after m is run
after_runs setup given (Call user request) after m is run = subst (SideRun setup given) (sym is) run
after_runs setup given (Lose actor call lost) after m is run = subst (SideRun setup given) (sym is) run
after_runs setup given (Restart actor calls) after m is run = subst (SideRun setup given) (sym is) run
after_runs setup given (Turn actor calls) after m is run = subst (SideRun setup given) (sym is) run

module _ (script : Script) (given : SideSetup) (option : Option ℕ) (end : Progress) (all : List Step) where
  pub walks_run : (works : List Work) (kept : List Line) (now : Progress) (m : List Step) → Walks script given option end all works kept now m
      → SideRun script.setup given m → SideRun script.setup given all
  walks_run works kept now m (Ends none empty e a) run = subst (SideRun script.setup given) (sym a) run
  walks_run works kept now m (Plays line rest later next after are is plays more) run =
      walks_run rest later next after more (after_runs script.setup given line after (with_entries plays.added m) plays.rests (world_runs script.setup given plays.added m run))
  walks_run works kept now m (Holds user c over rest are held more) run = walks_run rest kept now _ more (run, ap (λ (o : Option OverQuota). option_map (λ x. OverQuotaReply x) o) held)
  walks_run works kept now m (Asks user key bytes reply rest are answered more) run = walks_run rest kept now _ more (run, answered)

-- each reply of the side is its answer
pub runs_answer : (script : Script) (given : SideSetup) (works : List Work) (option : Option ℕ) (kept : List Line) (m : List Step) (ending : Drained)
    → IsExtendedRun script given works option kept m ending → SideRun script.setup given m
runs_answer script given works option kept m ending run =
    steps_run script.setup given m (with_entries run.added run.between) run.rests
    (world_runs script.setup given run.added run.between (walks_run script given option run.lines_done run.between works kept (first_progress option run.drainers) [] run.walks tt))

-- ---- what is held back

call_users : (fate : Fate) (held : Bool) (seat : ℕ) (kind : SeatKind) (past new : List Entry) → IsBuiltKind kind → IsCallBy all_pass held fate seat kind past new → users_of new ≡ users_of past
call_users fate true seat kind past new built call = ap users_of call.is
call_users Told false seat kind past new built call = users_as_before past new _ call.is built
call_users LostAfter false seat kind past new built call = users_as_before past new _ call.is built
call_users LostBefore false seat kind past new built call = ap users_of call

calls_users : (held : List ℕ) (part : Part) (new : List Entry) → IsBuiltKind part.kind → (n count : ℕ) (past : List Entry)
    → AreCalls all_pass held part new n count past → users_of new ≡ users_of past
calls_users held part new built n count past (NoCalls none same) = ap users_of same
calls_users held part new built n count past (MoreCalls rest middle some call more) =
    calls_users held part new built (n + 1) rest middle more ∙ call_users (fate_of part.losses n) (is_held held n) (seat_at part n) part.kind past middle built call

pub turn_users : (actor : Actor) (part : Part) (calls : ℕ) (before after : Progress) → IsBuiltKind part.kind
    → IsTurnLine all_pass [] (role_of actor) part calls before after → users_of after.past ≡ users_of before.past
turn_users actor part calls before after built (inl made) = ap (λ (p : Progress). users_of p.past) made.is ∙ calls_users [] part made.past built _ _ before.past made.made
turn_users actor part calls before after built (inr made) = ap (λ (p : Progress). users_of p.past) made.is ∙ calls_users [] part made.past built _ _ before.past made.made

-- where entries were added of which none is a user's
pub added_actors : (before after added : List Entry) → users_of after ≡ users_of before → after ≡ added ++ before → AreOfActors added
added_actors before after added users grows = of_actors added before (ap users_of (sym grows) ∙ users)

pub added_none : (before added : List Entry) → before ≡ added ++ before → added ≡ []
added_none before added grows = append_cancel_right added [] before (sym grows)

module _ (setup : Setup) (given : SideSetup) where
  actor_passes : (m : List Step) (kind : SeatKind) (request : Request) → IsBuiltKind kind → PassesQuota setup given m kind request
  actor_passes m seats.User request built = absurd built
  actor_passes m seats.Binder request built = tt
  actor_passes m seats.Ops request built = tt
  actor_passes m seats.Scheduler request built = tt
  actor_passes m seats.ClaimProtect request built = tt
  actor_passes m seats.VolumeProtect request built = tt
  actor_passes m seats.Agent request built = tt

  actors_hold : (added : List Entry) (m : List Step) → AreOfActors added → HoldsBack setup given m → HoldsBack setup given (with_entries added m)
  actors_hold [] m are h = h
  actors_hold (e ∷ added) m are h = (actors_hold added m are.1 h, actor_passes (with_entries added m) e.kind e.request are.0)

  steps_hold : (end m : List Step) → AreSteps setup given end m → HoldsBack setup given m → HoldsBack setup given end
  steps_hold end m (RestsHere none is) h = subst (HoldsBack setup given) (sym is) h
  steps_hold end m (StepsOn kind key reply answered more) h = steps_hold end _ more h

  after_holds : (line : Line) (after m : List Step) → AreAfter setup given line after m → HoldsBack setup given m → HoldsBack setup given after
  after_holds Drain after m is h = steps_hold after m is h
  after_holds (Call user request) after m is h = subst (HoldsBack setup given) (sym is) h
  after_holds (Lose actor call lost) after m is h = subst (HoldsBack setup given) (sym is) h
  after_holds (Restart actor calls) after m is h = subst (HoldsBack setup given) (sym is) h
  after_holds (Turn actor calls) after m is h = subst (HoldsBack setup given) (sym is) h

module _ (script : Script) (given : SideSetup) (option : Option ℕ) where
  -- a line that is played holds back what it should
  line_holds : (line : Line) (now next : Progress) (m : List Step) (added : List Entry) → PassesLine script.setup given m line → IsMove script option line now next
      → next.past ≡ added ++ now.past → HoldsBack script.setup given m → HoldsBack script.setup given (with_entries added m)
  line_holds (Call user request) now next m added passes move grows h =
      let e : Entry = record { seat = user; kind = seats.User; request = request; reply = move.reply; told = true } in
      let held : HoldsBack script.setup given (with_entries (e ∷ []) m) = (h, passes) in
      subst (λ es. HoldsBack script.setup given (with_entries es m)) (append_cancel_right (e ∷ []) added now.past (sym (ap (λ (p : Progress). p.past) move.is) ∙ grows)) held
  line_holds (Lose actor call lost) now next m added passes move grows h =
      subst (λ es. HoldsBack script.setup given (with_entries es m)) (sym (added_none now.past added (sym (ap (λ (p : Progress). p.past) move) ∙ grows))) h
  line_holds (Restart actor calls) now next m added passes move grows h =
      subst (λ es. HoldsBack script.setup given (with_entries es m)) (sym (added_none now.past added (sym (ap (λ (p : Progress). p.past) move) ∙ grows))) h
  line_holds (Turn actor calls) now next m added passes move grows h =
      actors_hold script.setup given added m (added_actors now.past next.past added
      (turn_users actor (part_of script actor) calls now next (actor_built actor) move) grows) h
  line_holds Drain now next m added passes move grows h =
      actors_hold script.setup given added m (added_actors now.past next.past added (drains_come_to all_pass script option now next move).users grows) h

  walks_hold : (end : Progress) (all : List Step) (works : List Work) (kept : List Line) (now : Progress) (m : List Step) → Walks script given option end all works kept now m
      → HoldsBack script.setup given m → HoldsBack script.setup given all
  walks_hold end all works kept now m (Ends none empty e a) h = subst (HoldsBack script.setup given) (sym a) h
  walks_hold end all works kept now m (Plays line rest later next after are is plays more) h =
      walks_hold end all rest later next after more
      (after_holds script.setup given line after (with_entries plays.added m) plays.rests (line_holds line now next m plays.added plays.passes plays.move plays.grows h))
  walks_hold end all works kept now m (Holds user c over rest are held more) h = walks_hold end all rest kept now _ more h
  walks_hold end all works kept now m (Asks user key bytes reply rest are answered more) h = walks_hold end all rest kept now _ more h

-- no create of a user reached the world that a quota refused there
pub runs_hold : (script : Script) (given : SideSetup) (works : List Work) (option : Option ℕ) (kept : List Line) (m : List Step) (ending : Drained)
    → IsExtendedRun script given works option kept m ending → HoldsBack script.setup given m
runs_hold script given works option kept m ending run =
    steps_hold script.setup given m (with_entries run.added run.between) run.rests
    (actors_hold script.setup given run.added run.between
    (added_actors run.lines_done.past run.end.past run.added (drains_come_to all_pass script option run.lines_done run.end run.last).users run.grows)
    (walks_hold script given option run.lines_done run.between works kept (first_progress option run.drainers) [] run.walks tt))
