-- The works of an extended script are done one after the other, and then comes the last drain.
use Rattle.std.proofs.Common.{◌≡◌, ◌⊎◌, ℕ, ◌<◌, ◌≤◌, ◌+◌, List, [], ◌∷◌, ◌++◌, drop, length, Bool, true, false, Option, Some, inl, inr, refl, sym, ap, ◌∙◌, subst, arith, append_assoc, if◌then◌else◌}
use Rattle.std.specs.Prelude.{nat_le, slice_get}
use Rattle.std.proofs.lemmas.Bool.{le-leb, lt-leb}
use Rattle.std.proofs.lemmas.List.{drop_all}
use Rattle.delayed_binding.proofs.Placing.{drop_at}
use Rattle.size_law.specs.Calls.Calls.{AreByActors}
use Rattle.world_core.specs.Kept.{History}
use Rattle.world_core.specs.declared.drained.Drained.{Drained}
use Rattle.actor_rounds.specs.Rounds.{all_pass}
use Rattle.script_text.specs.declared.script.Line.{Line}
use Rattle.script_text.specs.declared.script.Script.{Script}
use Rattle.script_runs.specs.Limits.{IsReadable}
use Rattle.script_runs.specs.Replays.{Progress, first_progress}
use Rattle.script_runs.specs.Steps.Standing.{Ended, StageStands}
use Rattle.script_runs.proofs.Draining.{drains_come_to}
use Rattle.script_runs.proofs.Ending.{are_played}
use Rattle.side_model.specs.Sides.{SideSetup}
use Rattle.extended_text.specs.declared.sides.PlacedSide.{PlacedSide}
use Rattle.extended_text.specs.declared.sides.SideLine.{SideLine}
use Rattle.extended_text.specs.declared.sides.SideLine.TheVariants.{Grow, Quota, Reserve}
use Rattle.extended_runs.specs.Steps.Sides.{CatchesUp}
use Rattle.extended_runs.specs.Walks.{Ends, Walks, with_entries}
use Rattle.extended_runs.specs.Works.{OfScript, Work, sides_before, sides_behind, with_side, with_sides, works_from}
use Rattle.extended_runs.specs.declared.sides.KeptSide.{KeptSide}
use Rattle.extended_play.specs.Played.{IsPlayed}
use Rattle.extended_play.specs.Steps.Walking.{BeginsWalk, EndsWalk, HasWalked, LinesDone, SomeWalks, WorksSoFar, works_left}
use Rattle.extended_play.specs.declared.play.Played.{Played}
use Rattle.extended_play.specs.declared.walk.Walk.{Walk}
use Rattle.extended_runs.proofs.Noting.{steps_enter_nothing}
use Rattle.extended_play.proofs.Walking.{Rests, entries_then, told}

-- ---- works after works

pub walked_none : (script : Script) (option : Option ℕ) (w : Walk) → HasWalked script option [] w w
walked_none script option w given p m stands = record { kept = []; after = p; steps = m; stands = stands; goes = λ end all rest later walks. walks }

walked_then : (script : Script) (option : Option ℕ) (ones others : List Work) (a b c : Walk) → HasWalked script option ones a b → HasWalked script option others b c
    → HasWalked script option (ones ++ others) a c
walked_then script option ones others a b c first second given p m stands =
    let one = first given p m stands in
    let two = second given one.after one.steps one.stands in
    record {
      kept = one.kept ++ two.kept;
      after = two.after;
      steps = two.steps;
      stands = two.stands;
      goes = λ end all rest later walks.
          subst (λ works. Walks script given option end all works ((one.kept ++ two.kept) ++ later) p m) (sym (append_assoc ones others rest))
          (subst (λ kept. Walks script given option end all (ones ++ (others ++ rest)) kept p m) (sym (append_assoc one.kept two.kept later))
          (one.goes end all (others ++ rest) (two.kept ++ later) (two.goes end all rest later walks)));
    }

-- ---- what comes next

-- what a line of the side asks, and then these works
pub asks_then : (line : SideLine) (works : List Work) → with_side line [] ++ works ≡ with_side line works
asks_then (Grow user key bytes) works = refl
asks_then (Quota q) works = refl
asks_then (Reserve bytes) works = refl

-- a line of the script comes before what is asked behind it
line_next : (place : ℕ) (line : Line) (lines : List Line) (s : PlacedSide) (sides : List PlacedSide) → place < s.before
    → works_from place (line ∷ lines) (s ∷ sides) ≡ OfScript line ∷ works_from (place + 1) lines (s ∷ sides)
line_next place line lines s sides less = by (nat_le s.before place) (lt-leb s.before place less)
  where
    by : (b : Bool) → b ≡ false → with_sides (if b then s ∷ sides_before place sides else []) (OfScript line ∷ works_from (place + 1) lines (if b then sides_behind place sides else s ∷ sides))
        ≡ OfScript line ∷ works_from (place + 1) lines (s ∷ sides)
    by true e = absurd (cc)
    by false e = refl

-- what is asked at a place that is reached comes next
ask_next : (place : ℕ) (lines : List Line) (s : PlacedSide) (sides : List PlacedSide) → s.before ≤ place → works_from place lines (s ∷ sides) ≡ with_side s.line (works_from place lines sides)
ask_next place [] s sides few = refl
ask_next place (line ∷ lines) s sides few = by (nat_le s.before place) (le-leb s.before place few)
  where
    by : (b : Bool) → b ≡ true → with_sides (if b then s ∷ sides_before place sides else []) (OfScript line ∷ works_from (place + 1) lines (if b then sides_behind place sides else s ∷ sides))
        ≡ with_side s.line (works_from place (line ∷ lines) sides)
    by true e = refl
    by false e = absurd (cc)

-- ---- the lines up to a place

pub lines_one : (script : Script) (option : Option ℕ) (before : ℕ) (line : Line) (old middle : Walk) → old.place < before → slice_get script.lines old.place ≡ Some line
    → middle.place ≡ old.place + 1 → HasWalked script option (OfScript line ∷ []) old middle → (new : Walk) → LinesDone script option before middle new → LinesDone script option before old new
lines_one script option before line old middle less at place walked new done = record {
  done = OfScript line ∷ done.done;
  walked = walked_then script option (OfScript line ∷ []) done.done old middle new walked done.walked;
  asks = λ s sides is. ap (λ ls. works_from old.place ls (s ∷ sides)) here
      ∙ line_next old.place line (drop (old.place + 1) script.lines) s sides (omega (arith, less, is))
      ∙ ap (λ n. OfScript line ∷ works_left script n (s ∷ sides)) (sym place) ∙ ap (λ works. OfScript line ∷ works) (done.asks s sides is);
  rest = ap (λ ls. works_from old.place ls []) here ∙ ap (λ n. OfScript line ∷ works_left script n []) (sym place) ∙ ap (λ works. OfScript line ∷ works) done.rest;
  over = done.over;
}
  where
    here : drop old.place script.lines ≡ line ∷ drop (old.place + 1) script.lines
    here = drop_at script.lines old.place line at

pub lines_reached : (script : Script) (option : Option ℕ) (before : ℕ) (w : Walk) → before ≤ w.place → LinesDone script option before w w
lines_reached script option before w few = record {
  done = [];
  walked = walked_none script option w;
  asks = λ s sides is. ask_next w.place (drop w.place script.lines) s sides (omega (arith, few, is));
  rest = refl;
  over = inl few;
}

pub lines_over : (script : Script) (option : Option ℕ) (before : ℕ) (w : Walk) → length script.lines ≤ w.place → LinesDone script option before w w
lines_over script option before w all = record {
  done = [];
  walked = walked_none script option w;
  asks = λ s sides is. ap (λ ls. works_from w.place ls (s ∷ sides)) none ∙ ap (λ ls. with_side s.line (works_from w.place ls sides)) (sym none);
  rest = refl;
  over = inr all;
}
  where
    none : drop w.place script.lines ≡ []
    none = drop_all w.place script.lines all

-- ---- the beginning

pub works_first : (script : Script) (given : SideSetup) (option : Option ℕ) (sides : List PlacedSide) (w : Walk) → w.place ≡ 0 → BeginsWalk script given option w
    → WorksSoFar script given option sides 0 w
works_first script given option sides w start begins = record {
  drainers = begins.drainers;
  new = begins.new;
  kept = [];
  progress = first_progress option begins.drainers;
  steps = [];
  stands = begins.stands;
  goes = λ end all later walks.
      subst (λ n. Walks script given option end all (works_left script n sides) later (first_progress option begins.drainers) []) start walks;
}

pub some_so_far : (script : Script) (given : SideSetup) (option : Option ℕ) (sides : List PlacedSide) (place : ℕ) (w : Walk)
    → WorksSoFar script given option sides place w → SomeWalks script option w
some_so_far script given option sides place w so = record { given = given; progress = so.progress; steps = so.steps; stands = so.stands }

-- after works that were done
pub some_walked : (script : Script) (option : Option ℕ) (works : List Work) (old new : Walk) → HasWalked script option works old new → SomeWalks script option old → SomeWalks script option new
some_walked script option works old new walked some =
    let on = walked some.given some.progress some.steps some.stands in
    record { given = some.given; progress = on.after; steps = on.steps; stands = on.stands }

-- ---- one line of the side, and the lines of the script before it

pub works_on : (script : Script) (given : SideSetup) (option : Option ℕ) (sides : List PlacedSide) (place : ℕ) (s : PlacedSide) (old middle new : Walk)
    → slice_get sides place ≡ Some s → LinesDone script option s.before old middle → HasWalked script option (with_side s.line []) middle new → new.place ≡ middle.place
    → WorksSoFar script given option sides place old → WorksSoFar script given option sides (place + 1) new
works_on script given option sides place s old middle new at done walked same so =
    let on = walked_then script option done.done (with_side s.line []) old middle new done.walked walked given so.progress so.steps so.stands in
    record {
      drainers = so.drainers;
      new = so.new;
      kept = so.kept ++ on.kept;
      progress = on.after;
      steps = on.steps;
      stands = on.stands;
      goes = λ end all later walks.
          subst (λ kept. Walks script given option end all (works_left script 0 sides) kept (first_progress option so.drainers) []) (sym (append_assoc so.kept on.kept later))
          (so.goes end all (on.kept ++ later)
          (subst (λ works. Walks script given option end all works (on.kept ++ later) so.progress so.steps) works_are
          (on.goes end all (works_left script new.place (drop (place + 1) sides)) later walks)));
    }
  where
    later_works : List Work
    later_works = works_left script new.place (drop (place + 1) sides)

    works_are : (done.done ++ with_side s.line []) ++ later_works ≡ works_left script old.place (drop place sides)
    works_are =
        append_assoc done.done (with_side s.line []) later_works
        ∙ ap (λ works. done.done ++ works) (asks_then s.line later_works ∙ ap (λ n. with_side s.line (works_left script n (drop (place + 1) sides))) same)
        ∙ sym (done.asks s (drop (place + 1) sides) refl)
        ∙ ap (works_left script old.place) (sym (drop_at sides place s at))

-- ---- the end

pub has_ended : (script : Script) (option : Option ℕ) (old new : Walk) (middle : KeptSide) (ending : Drained)
    → ((p : Progress) → StageStands script option p old.stage → Ended script option p new.stage ending)
    → (AreByActors old.stage.world.past → AreByActors new.stage.world.past)
    → CatchesUp new.stage.world.setup new.stage.world.past old.side middle → Rests middle new.side → EndsWalk script option old new ending
has_ended script option old new middle ending ended actors caught rests given p m stands =
    let e = ended p stands.stage in
    let comes = (drains_come_to all_pass script option p e.after e.move).entries.longer in
    let side = told script given option p e.after m comes.added new.stage old.side middle e.stands comes.are stands.same caught stands.side in
    let r = rests script.setup given (with_entries comes.added m) side in
    record {
      after = e.after;
      move = e.move;
      added = comes.added;
      grows = comes.are;
      steps = r.end;
      rests = r.steps;
      stage = e.stands;
      side = r.stands;
      same = steps_enter_nothing script.setup given r.end (with_entries comes.added m) r.steps ∙ entries_then p.past e.after.past m comes.added comes.are stands.same;
      ends = e.ends;
      actors = actors stands.actors;
    }

-- no line is left
none_left : (script : Script) (place : ℕ) → (length script.lines ≤ place) ⊎ (length script.lines ≤ place) → works_left script place [] ≡ []
none_left script place (inl all) = ap (λ ls. works_from place ls []) (drop_all place script.lines all)
none_left script place (inr all) = ap (λ ls. works_from place ls []) (drop_all place script.lines all)

pub are_done : (script : Script) (given : SideSetup) (option : Option ℕ) (sides : List PlacedSide) (place : ℕ) (w middle new : Walk) (r : Played)
    → IsReadable script → length sides ≤ place → WorksSoFar script given option sides place w → LinesDone script option (length script.lines) w middle
    → EndsWalk script option middle new r.ending → r.world ≡ new.stage.world → r.side ≡ new.side → IsPlayed script given (works_left script 0 sides) option r
are_done script given option sides place w middle new r readable over so done ends world side =
    let on = done.walked given so.progress so.steps so.stands in
    let e = ends given on.after on.steps on.stands in
    record {
      kept = so.kept ++ (on.kept ++ []);
      steps = e.steps;
      run = record {
        drainers = so.drainers;
        new = so.new;
        lines_done = on.after;
        between = on.steps;
        walks = so.goes on.after on.steps (on.kept ++ [])
            (subst (λ works. Walks script given option on.after on.steps works (on.kept ++ []) so.progress so.steps) all_works (on.goes on.after on.steps [] [] (Ends refl refl refl refl)));
        end = e.after;
        last = e.move;
        added = e.added;
        grows = e.grows;
        rests = e.rests;
        ends = e.ends;
      };
      lives = are_played script option e.after new.stage readable e.stage;
      setup = ap (λ (h : History). h.setup) world ∙ e.stage.setup;
      history = ap (λ (h : History). h.past) world ∙ e.stage.past ∙ sym e.same;
      actors = subst (λ (h : History). AreByActors h.past) (sym world) e.actors;
      entered = ap (λ (s : KeptSide). s.entered) side ∙ e.side.entered;
      sizes = ap (λ (s : KeptSide). s.sizes) side ∙ e.side.sizes;
    }
  where
    all_works : done.done ++ [] ≡ works_left script w.place (drop place sides)
    all_works = ap (λ works. done.done ++ works) (sym (none_left script middle.place done.over)) ∙ sym done.rest ∙ ap (works_left script w.place) (sym (drop_all place sides over))
