-- Each user's line stands once among the steps, of the world or of the side, and all stand in the order of the lines.
use Rattle.std.proofs.Common.{◌≡◌, ℕ, List, [], ◌∷◌, ◌++◌, Bool, true, false, Option, refl, sym, ap, ◌∙◌, append-nil, append_assoc}
use Rattle.std.specs.Prelude.{reverse, cond}
use Rattle.std.proofs.lemmas.Grind.{reverse_onto}
use Rattle.std.proofs.lemmas.List.{append_cancel_right}
use Rattle.call_types.specs.declared.entry.Entry.{Entry}
use Rattle.call_types.specs.declared.request.SeatKind.{SeatKind}
use Rattle.call_types.specs.declared.request.SeatKind.TheVariants as seats
use Rattle.call_types.specs.declared.setup.Setup.{Setup}
use Rattle.binder_model.specs.Answers.{is_user}
use Rattle.world_core.specs.declared.drained.Drained.{Drained}
use Rattle.actor_rounds.specs.Rounds.{all_pass}
use Rattle.worker_core.specs.Roles.{IsBuiltKind}
use Rattle.settle_budget.specs.Drains.Rounds.{AreOfActors}
use Rattle.script_text.specs.declared.script.Line.{Line}
use Rattle.script_text.specs.declared.script.Line.TheVariants.{Call, Drain, Lose, Restart, Turn}
use Rattle.script_text.specs.declared.script.Script.{Script}
use Rattle.script_runs.specs.Parts.{part_of}
use Rattle.script_runs.specs.Replays.{IsMove, Progress, first_progress}
use Rattle.script_runs.proofs.Casting.{actor_built}
use Rattle.script_runs.proofs.Draining.{drains_come_to}
use Rattle.side_model.specs.Sides.{SideSetup}
use Rattle.side_model.specs.Merged.{Step}
use Rattle.extended_runs.specs.Walks.{AreAfter, AreSteps, Asks, Ends, Holds, IsExtendedRun, Plays, RestsHere, StepsOn, Walks, with_entries}
use Rattle.extended_runs.specs.Works.{OfScript, Work}
use Rattle.extended_laws.specs.Users.{asked_in, asked_there, is_users_line, users_works}
use Rattle.extended_laws.proofs.Walking.{added_actors, added_none, turn_users}

-- what actors do asks nothing for users
actor_asks : (kind : SeatKind) (e : Entry) (asked : List Work) → IsBuiltKind kind → asked_there (is_user kind) e asked ≡ asked
actor_asks seats.User e asked built = absurd built
actor_asks seats.Binder e asked built = refl
actor_asks seats.Ops e asked built = refl
actor_asks seats.Scheduler e asked built = refl
actor_asks seats.ClaimProtect e asked built = refl
actor_asks seats.VolumeProtect e asked built = refl
actor_asks seats.Agent e asked built = refl

actors_ask : (added : List Entry) (m : List Step) → AreOfActors added → asked_in (with_entries added m) ≡ asked_in m
actors_ask [] m are = refl
actors_ask (e ∷ added) m are = actor_asks e.kind e (asked_in (with_entries added m)) are.0 ∙ actors_ask added m are.1

steps_ask : (setup : Setup) (given : SideSetup) (end m : List Step) → AreSteps setup given end m → asked_in end ≡ asked_in m
steps_ask setup given end m (RestsHere none is) = ap asked_in is
steps_ask setup given end m (StepsOn kind key reply answered more) = steps_ask setup given end _ more

after_asks : (setup : Setup) (given : SideSetup) (line : Line) (after m : List Step) → AreAfter setup given line after m → asked_in after ≡ asked_in m
after_asks setup given Drain after m is = steps_ask setup given after m is
after_asks setup given (Call user request) after m is = ap asked_in is
after_asks setup given (Lose actor call lost) after m is = ap asked_in is
after_asks setup given (Restart actor calls) after m is = ap asked_in is
after_asks setup given (Turn actor calls) after m is = ap asked_in is

-- with what one line asks, where it is a user's
abbrev and_line : Line → List Work → List Work
and_line line works = cond (is_users_line line) (OfScript line ∷ works) works

module _ (script : Script) (given : SideSetup) (option : Option ℕ) where
  line_asks : (line : Line) (now next : Progress) (m : List Step) (added : List Entry) → IsMove script option line now next → next.past ≡ added ++ now.past
      → asked_in (with_entries added m) ≡ and_line line (asked_in m)
  line_asks (Call user request) now next m added move grows =
      let e : Entry = record { seat = user; kind = seats.User; request = request; reply = move.reply; told = true } in
      ap (λ es. asked_in (with_entries es m)) (sym (append_cancel_right (e ∷ []) added now.past (sym (ap (λ (p : Progress). p.past) move.is) ∙ grows)))
  line_asks (Lose actor call lost) now next m added move grows =
      ap (λ es. asked_in (with_entries es m)) (added_none now.past added (sym (ap (λ (p : Progress). p.past) move) ∙ grows))
  line_asks (Restart actor calls) now next m added move grows =
      ap (λ es. asked_in (with_entries es m)) (added_none now.past added (sym (ap (λ (p : Progress). p.past) move) ∙ grows))
  line_asks (Turn actor calls) now next m added move grows =
      actors_ask added m (added_actors now.past next.past added (turn_users actor (part_of script actor) calls now next (actor_built actor) move) grows)
  line_asks Drain now next m added move grows =
      actors_ask added m (added_actors now.past next.past added (drains_come_to all_pass script option now next move).users grows)

  -- one work more is asked
  one_more : (work : Work) (asked rest : List Work) → reverse (work ∷ asked) ++ rest ≡ reverse asked ++ work ∷ rest
  one_more work asked rest = ap (λ ws. ws ++ rest) (reverse_onto asked work []) ∙ append_assoc (reverse asked) (work ∷ []) rest

  line_more : (line : Line) (asked rest : List Work) → reverse (and_line line asked) ++ users_works rest ≡ reverse asked ++ users_works (OfScript line ∷ rest)
  line_more line asked rest = by (is_users_line line)
    where
      by : (b : Bool) → reverse (cond b (OfScript line ∷ asked) asked) ++ users_works rest ≡ reverse asked ++ cond b (OfScript line ∷ users_works rest) (users_works rest)
      by true = one_more (OfScript line) asked (users_works rest)
      by false = refl

  walks_ask : (end : Progress) (all : List Step) (works : List Work) (kept : List Line) (now : Progress) (m : List Step) → Walks script given option end all works kept now m
      → reverse (asked_in all) ≡ reverse (asked_in m) ++ users_works works
  walks_ask end all works kept now m (Ends none empty e a) =
      ap (λ n. reverse (asked_in n)) a ∙ sym (append-nil (reverse (asked_in m))) ∙ ap (λ ws. reverse (asked_in m) ++ users_works ws) (sym none)
  walks_ask end all works kept now m (Plays line rest later next after are is plays more) =
      walks_ask end all rest later next after more
      ∙ ap (λ ws. reverse ws ++ users_works rest)
      (after_asks script.setup given line after (with_entries plays.added m) plays.rests ∙ line_asks line now next m plays.added plays.move plays.grows)
      ∙ line_more line (asked_in m) rest ∙ ap (λ ws. reverse (asked_in m) ++ users_works ws) (sym are)
  walks_ask end all works kept now m (Holds user c over rest are held more) =
      walks_ask end all rest kept now _ more ∙ one_more _ (asked_in m) (users_works rest) ∙ ap (λ ws. reverse (asked_in m) ++ users_works ws) (sym are)
  walks_ask end all works kept now m (Asks user key bytes reply rest are answered more) =
      walks_ask end all rest kept now _ more ∙ one_more _ (asked_in m) (users_works rest) ∙ ap (λ ws. reverse (asked_in m) ++ users_works ws) (sym are)

-- of the whole run
pub users_in_order : (script : Script) (given : SideSetup) (works : List Work) (option : Option ℕ) (kept : List Line) (m : List Step) (ending : Drained)
    → IsExtendedRun script given works option kept m ending → reverse (asked_in m) ≡ users_works works
users_in_order script given works option kept m ending run =
    ap reverse (steps_ask script.setup given m (with_entries run.added run.between) run.rests
    ∙ actors_ask run.added run.between
    (added_actors run.lines_done.past run.end.past run.added (drains_come_to all_pass script option run.lines_done run.end run.last).users run.grows))
    ∙ walks_ask script given option run.lines_done run.between works kept (first_progress option run.drainers) [] run.walks
