-- What one line does to a world and its side.
use Rattle.std.proofs.Common.{◌≡◌, ◌⊎◌, ℕ, ◌≤◌, ◌*◌, List, [], ◌∷◌, ◌++◌, Bool, Option, Some, None, inl, inr, refl, sym, ap, ◌∙◌, subst, arith}
use Rattle.std.specs.Prelude.{slice_get}
use Rattle.kube_objects.specs.declared.key.Key.{Key}
use Rattle.kube_objects.specs.declared.objects.Claim.{Claim as ClaimData}
use Rattle.kube_objects.specs.declared.objects.Object.{Object}
use Rattle.kube_objects.specs.declared.objects.Object.TheVariants.{Claim}
use Rattle.call_types.specs.declared.entry.Entry.{Entry}
use Rattle.call_types.specs.declared.request.Request.{Request}
use Rattle.call_types.specs.declared.request.Request.TheVariants.{Create}
use Rattle.call_types.specs.declared.request.SeatKind.TheVariants as seats
use Rattle.call_types.specs.declared.setup.Setup.{Setup}
use Rattle.model_laws.proofs.Lists.{none_some, one}
use Rattle.size_law.specs.Calls.Calls.{AreByActors}
use Rattle.actor_rounds.specs.Rounds.{all_pass}
use Rattle.actor_turns.specs.declared.part.Part.{Part}
use Rattle.worker_core.specs.declared.role.Role.{Role}
use Rattle.script_lines.specs.declared.actors.Actor.{Actor}
use Rattle.script_text.specs.declared.script.Line.{Line}
use Rattle.script_text.specs.declared.script.Line.TheVariants.{Call, Drain, Lose, Restart, Turn}
use Rattle.script_text.specs.declared.script.Script.{Script}
use Rattle.script_runs.specs.declared.stage.Stage.{Stage}
use Rattle.script_runs.specs.Parts.{part_of, role_of}
use Rattle.script_runs.specs.Replays.{IsMove, IsTurnLine, Progress}
use Rattle.script_runs.specs.Steps.Standing.{HasMoved, MadeAtMost, SomeStands, StageStands}
use Rattle.script_runs.proofs.Draining.{drains_come_to}
use Rattle.script_runs.proofs.Staying.{calls_grow}
use Rattle.side_calls.specs.declared.asks.SideAsk.TheVariants.{Create as CreateAsk, Grow}
use Rattle.side_calls.specs.declared.asks.SideEntry.{SideEntry}
use Rattle.side_calls.specs.declared.asks.SideReply.TheVariants.{OverQuota as OverQuotaReply}
use Rattle.side_calls.specs.declared.quotas.OverQuota.{OverQuota}
use Rattle.quota_rules.specs.Using.{Tally}
use Rattle.side_model.specs.Answers.{held_by}
use Rattle.side_model.specs.Merged.{OfSide, Step, entries}
use Rattle.side_model.specs.Sides.{SideSetup}
use Rattle.side_model.specs.Within.{PassesQuota}
use Rattle.extended_runs.specs.Steps.Sides.{CatchesUp, HasRested, IsAsked, SideStands, SomeSide}
use Rattle.extended_runs.specs.Walks.{AreAfter, Asks, Holds, PassesLine, Plays, with_entries}
use Rattle.extended_runs.specs.Works.{OfGrowth, OfScript}
use Rattle.extended_runs.specs.declared.sides.KeptSide.{KeptSide}
use Rattle.extended_runs.proofs.Noting.{entries_with, steps_enter_nothing}
use Rattle.extended_play.specs.Steps.Walking.{HasEntered, HasWalked, SomeWalks, WalkStands, WalksOn}
use Rattle.extended_play.specs.declared.walk.Walk.{Walk}

-- ---- the entries that a line adds

turn_adds : (role : Role) (part : Part) (calls : ℕ) (now next : Progress) → IsTurnLine all_pass [] role part calls now next → (added : List Entry) × (next.past ≡ added ++ now.past)
turn_adds role part calls now next (inl all) =
    let g = calls_grow all_pass [] part all.past _ _ now.past all.made in (g.newer, ap (λ (p : Progress). p.past) all.is ∙ g.are)
turn_adds role part calls now next (inr few) =
    let g = calls_grow all_pass [] part few.past _ _ now.past few.made in (g.newer, ap (λ (p : Progress). p.past) few.is ∙ g.are)

pub move_adds : (script : Script) (option : Option ℕ) (line : Line) (now next : Progress) → IsMove script option line now next → (added : List Entry) × (next.past ≡ added ++ now.past)
move_adds script option (Call user request) now next move = (_ ∷ [], ap (λ (p : Progress). p.past) move.is)
move_adds script option (Lose actor call lost) now next move = ([], ap (λ (p : Progress). p.past) move)
move_adds script option (Restart actor calls) now next move = ([], ap (λ (p : Progress). p.past) move)
move_adds script option (Turn actor calls) now next move = turn_adds (role_of actor) (part_of script actor) calls now next move
move_adds script option Drain now next move = let comes = (drains_come_to all_pass script option now next move).entries.longer in (comes.added, comes.are)

-- ---- the side is told

-- the side was told of the entries that were added to the world
pub told : (script : Script) (given : SideSetup) (option : Option ℕ) (before after : Progress) (m : List Step) (added : List Entry) (s : Stage) (old new : KeptSide)
    → StageStands script option after s → after.past ≡ added ++ before.past → entries m ≡ before.past
    → CatchesUp s.world.setup s.world.past old new → SideStands script.setup given m old → SideStands script.setup given (with_entries added m) new
told script given option before after m added s old new stage grows same caught side =
    subst (λ (u : Setup). SideStands u given (with_entries added m) new) stage.setup
    (caught given m added (subst (λ (u : Setup). SideStands u given m old) (sym stage.setup) side)
    (stage.past ∙ grows ∙ ap (λ h. added ++ h) (sym same)))

pub entries_then : (before after : List Entry) (m : List Step) (added : List Entry) → after ≡ added ++ before → entries m ≡ before → entries (with_entries added m) ≡ after
entries_then before after m added grows same = entries_with added m ∙ ap (λ h. added ++ h) same ∙ sym grows

pub entered : (script : Script) (option : Option ℕ) (line : Line) (old new : Walk) → HasMoved script option (IsMove script option line) old.stage new.stage
    → CatchesUp new.stage.world.setup new.stage.world.past old.side new.side → (AreByActors old.stage.world.past → AreByActors new.stage.world.past)
    → MadeAtMost (1000 * new.place) new.stage → HasEntered script option line old new
entered script option line old new moved caught actors made given p m stands =
    let leads = moved p stands.stage in
    let adds = move_adds script option line p leads.after leads.move in
    record {
      after = leads.after;
      move = leads.move;
      added = adds.0;
      grows = adds.1;
      stands = record {
        stage = leads.stands;
        side = told script given option p leads.after m adds.0 new.stage old.side new.side leads.stands adds.1 stands.same caught stands.side;
        same = entries_then p.past leads.after.past m adds.0 adds.1 stands.same;
        made = made;
        actors = actors stands.actors;
      };
    }

-- ---- what is needed of the stage and the side

pub stage_some : (script : Script) (option : Option ℕ) (w : Walk) → SomeWalks script option w → SomeStands script option w.stage
stage_some script option w some = record { progress = some.progress; stands = some.stands.stage }

pub side_some : (script : Script) (option : Option ℕ) (w : Walk) → SomeWalks script option w → SomeSide w.stage.world.setup w.stage.world.past w.side
side_some script option w some = record {
  given = some.given;
  steps = some.steps;
  stands = subst (λ (u : Setup). SideStands u some.given some.steps w.side) (sym some.stands.stage.setup) some.stands.side;
  same = some.stands.same ∙ sym some.stands.stage.past;
}

pub made_more : (few most : ℕ) (s : Stage) → few ≤ most → MadeAtMost few s → MadeAtMost most s
made_more few most s less made place x at = let n = made place x at in omega (arith, n, less)

-- ---- a line that reaches the world

plays_line : (script : Script) (given : SideSetup) (option : Option ℕ) (line : Line) (p : Progress) (m : List Step) (new : Walk) (after : List Step)
    (next : Progress) (added : List Entry) → PassesLine script.setup given m line → IsMove script option line p next → next.past ≡ added ++ p.past
    → AreAfter script.setup given line after (with_entries added m) → WalkStands script given option next after new → WalksOn script given option (OfScript line ∷ []) p m new
plays_line script given option line p m new after next added passes move grows rests stands = record {
  kept = line ∷ [];
  after = next;
  steps = after;
  stands = stands;
  goes = λ end all rest later walks. Plays line rest later next after refl refl (record { passes = passes; move = move; added = added; grows = grows; rests = rests }) walks;
}

-- a user's call that no quota holds back
abbrev pub PassesThere : Script → Request → Walk → Type 0
PassesThere script request w = (given : SideSetup) (m : List Step) → SideStands script.setup given m w.side → PassesQuota script.setup given m seats.User request

pub called : (script : Script) (option : Option ℕ) (user : ℕ) (request : Request) (old new : Walk) → PassesThere script request old → HasEntered script option (Call user request) old new
    → HasWalked script option (OfScript (Call user request) ∷ []) old new
called script option user request old new passes enters given p m stands =
    let e = enters given p m stands in
    plays_line script given option (Call user request) p m new (with_entries e.added m) e.after e.added (passes given m stands.side) e.move e.grows refl e.stands

pub create_passes : (script : Script) (object : Object) (w : Walk) → held_by w.side.quotas object ≡ None → PassesThere script (Create object) w
create_passes script object w none given m side = ap (λ (t : Tally). held_by t object) (sym side.quotas) ∙ none

pub other_passes : (script : Script) (request : Request) (w : Walk) → ((object : Object) → request ≡ Create object → ⊥) → PassesThere script request w
other_passes script (Create object) w other given m side = absurd (other object refl)
other_passes script request w other given m side = tt

-- a line that is no user's call and no drain
losing : (script : Script) (option : Option ℕ) (line : Line) (actor : Actor) (call : ℕ) (lost : Bool) (old new : Walk) → line ≡ Lose actor call lost → HasEntered script option line old new
    → HasWalked script option (OfScript line ∷ []) old new
losing script option line actor call lost old new is enters given p m stands =
    let e = enters given p m stands in
    plays_line script given option line p m new (with_entries e.added m) e.after e.added (subst (PassesLine script.setup given m) (sym is) tt) e.move e.grows
    (subst (λ l. AreAfter script.setup given l (with_entries e.added m) (with_entries e.added m)) (sym is) refl) e.stands

restarting : (script : Script) (option : Option ℕ) (line : Line) (actor : Actor) (calls : ℕ) (old new : Walk) → line ≡ Restart actor calls → HasEntered script option line old new
    → HasWalked script option (OfScript line ∷ []) old new
restarting script option line actor calls old new is enters given p m stands =
    let e = enters given p m stands in
    plays_line script given option line p m new (with_entries e.added m) e.after e.added (subst (PassesLine script.setup given m) (sym is) tt) e.move e.grows
    (subst (λ l. AreAfter script.setup given l (with_entries e.added m) (with_entries e.added m)) (sym is) refl) e.stands

turning : (script : Script) (option : Option ℕ) (line : Line) (actor : Actor) (calls : ℕ) (old new : Walk) → line ≡ Turn actor calls → HasEntered script option line old new
    → HasWalked script option (OfScript line ∷ []) old new
turning script option line actor calls old new is enters given p m stands =
    let e = enters given p m stands in
    plays_line script given option line p m new (with_entries e.added m) e.after e.added (subst (PassesLine script.setup given m) (sym is) tt) e.move e.grows
    (subst (λ l. AreAfter script.setup given l (with_entries e.added m) (with_entries e.added m)) (sym is) refl) e.stands

-- of a lose line, a restart line or a turn
abbrev pub IsNeither : Line → Type 0
IsNeither line = ((actor : Actor) × (call : ℕ) × (lost : Bool) × (line ≡ Lose actor call lost)) ⊎ (((actor : Actor) × (calls : ℕ) × (line ≡ Restart actor calls))
    ⊎ ((actor : Actor) × (calls : ℕ) × (line ≡ Turn actor calls)))

pub neither : (script : Script) (option : Option ℕ) (line : Line) (old new : Walk) → IsNeither line → HasEntered script option line old new → HasWalked script option (OfScript line ∷ []) old new
neither script option line old new (inl w) = losing script option line w.0 w.1 w.2 old new w.3
neither script option line old new (inr (inl w)) = restarting script option line w.0 w.1 old new w.2
neither script option line old new (inr (inr w)) = turning script option line w.0 w.1 old new w.2

-- a drain, after which growth goes on
abbrev pub Rests : KeptSide → KeptSide → Type 0
Rests old new = (setup : Setup) (given : SideSetup) (m : List Step) → SideStands setup given m old → HasRested setup given m new

pub draining : (script : Script) (option : Option ℕ) (old middle new : Walk) → HasEntered script option Drain old middle → Rests middle.side new.side
    → new.stage ≡ middle.stage → new.place ≡ middle.place → HasWalked script option (OfScript Drain ∷ []) old new
draining script option old middle new enters rests stage place given p m stands =
    let e = enters given p m stands in
    let r = rests script.setup given (with_entries e.added m) e.stands.side in
    plays_line script given option Drain p m new r.end e.after e.added tt e.move e.grows r.steps (record {
      stage = subst (StageStands script option e.after) (sym stage) e.stands.stage;
      side = r.stands;
      same = steps_enter_nothing script.setup given r.end (with_entries e.added m) r.steps ∙ e.stands.same;
      made = subst (λ s. MadeAtMost (1000 * new.place) s) (sym stage) (subst (λ n. MadeAtMost (1000 * n) middle.stage) (sym place) e.stands.made);
      actors = subst (λ (s : Stage). AreByActors s.world.past) (sym stage) e.stands.actors;
    })

-- a line that is there did its work
pub walked_there : (script : Script) (option : Option ℕ) (here : Line) (old new : Walk) → slice_get script.lines old.place ≡ Some here → HasWalked script option (OfScript here ∷ []) old new
    → (line : Line) → slice_get script.lines old.place ≡ Some line → HasWalked script option (OfScript line ∷ []) old new
walked_there script option here old new at walked line there = subst (λ (l : Line). HasWalked script option (OfScript l ∷ []) old new) (one here line (sym at ∙ there)) walked

-- ---- what the side answers

-- after an entry of the side alone
beside : (script : Script) (given : SideSetup) (option : Option ℕ) (p : Progress) (m : List Step) (s : SideEntry) (old new : Walk) → WalkStands script given option p m old
    → SideStands script.setup given (OfSide s ∷ m) new.side → new.stage ≡ old.stage → old.place ≤ new.place → WalkStands script given option p (OfSide s ∷ m) new
beside script given option p m s old new stands side stage place = record {
  stage = subst (StageStands script option p) (sym stage) stands.stage;
  side = side;
  same = stands.same;
  made = made_more (1000 * old.place) (1000 * new.place) new.stage (omega (arith, place)) (subst (MadeAtMost (1000 * old.place)) (sym stage) stands.made);
  actors = subst (λ (t : Stage). AreByActors t.world.past) (sym stage) stands.actors;
}

held_claim : (t : Tally) (object : Object) (over : OverQuota) → held_by t object ≡ Some over → (c : ClaimData) × (object ≡ Claim c)
held_claim t (Claim c) over is = (c, refl)
held_claim t object over is = none_some is

abbrev pub EntersHeld : ℕ → Object → OverQuota → KeptSide → KeptSide → Type 0
EntersHeld user object over old new = (setup : Setup) (given : SideSetup) (m : List Step) → SideStands setup given m old
    → SideStands setup given (OfSide (record { ask = CreateAsk user object; reply = OverQuotaReply over }) ∷ m) new

pub holding : (script : Script) (option : Option ℕ) (user : ℕ) (object : Object) (over : OverQuota) (old new : Walk) → held_by old.side.quotas object ≡ Some over
    → EntersHeld user object over old.side new.side → new.stage ≡ old.stage → old.place ≤ new.place
    → HasWalked script option (OfScript (Call user (Create object)) ∷ []) old new
holding script option user object over old new held enters stage place given p m stands =
    by (held_claim old.side.quotas object over held)
  where
    by : (c : ClaimData) × (object ≡ Claim c) → WalksOn script given option (OfScript (Call user (Create object)) ∷ []) p m new
    by found = record {
      kept = [];
      after = p;
      steps = OfSide (record { ask = CreateAsk user (Claim found.0); reply = OverQuotaReply over }) ∷ m;
      stands = beside script given option p m _ old new stands
          (subst (λ o. SideStands script.setup given (OfSide (record { ask = CreateAsk user o; reply = OverQuotaReply over }) ∷ m) new.side) found.1 (enters script.setup given m stands.side))
          stage place;
      goes = λ end all rest later walks. Holds user found.0 over rest (ap (λ o. OfScript (Call user (Create o)) ∷ rest) found.1)
          (ap (λ (t : Tally). held_by t (Claim found.0)) (sym stands.side.quotas) ∙ ap (λ o. held_by old.side.quotas o) (sym found.1) ∙ held) walks;
    }

abbrev pub AnswersGrowth : Setup → List Entry → ℕ → Key → ℕ → KeptSide → KeptSide → Type 0
AnswersGrowth setup past user key bytes old new = (given : SideSetup) (m : List Step) → SideStands setup given m old → entries m ≡ past → IsAsked setup given m user key bytes new

pub growing : (script : Script) (option : Option ℕ) (user : ℕ) (key : Key) (bytes : ℕ) (old new : Walk)
    → AnswersGrowth old.stage.world.setup old.stage.world.past user key bytes old.side new.side → new.stage ≡ old.stage → new.place ≡ old.place
    → HasWalked script option (OfGrowth user key bytes ∷ []) old new
growing script option user key bytes old new answers stage place given p m stands =
    let setup = stands.stage.setup in
    let asked = subst (λ (u : Setup). IsAsked u given m user key bytes new.side) setup
    (answers given m (subst (λ (u : Setup). SideStands u given m old.side) (sym setup) stands.side) (stands.same ∙ sym stands.stage.past)) in
    record {
      kept = [];
      after = p;
      steps = OfSide (record { ask = Grow user key bytes; reply = asked.reply }) ∷ m;
      stands = beside script given option p m _ old new stands asked.stands stage (omega (arith, place));
      goes = λ end all rest later walks. Asks user key bytes asked.reply rest refl asked.answered walks;
    }
