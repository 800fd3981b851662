-- What is kept from line to line, whatever the lines are.
use Rattle.std.proofs.Common.{◌≡◌, ℕ, ◌<◌, List, [], ◌∷◌, Bool, true, Option, Some, None, Result, Ok, Err, refl, sym, subst}
use Rattle.std.specs.Prelude.{IfOk, IfSome, length}
use Rattle.call_types.specs.declared.entry.Entry.{Entry}
use Rattle.binder_model.specs.Imports.{ImportsPass}
use Rattle.binder_model.specs.Promises.{most_entries}
use Rattle.binder_model.specs.Run.{Run}
use Rattle.binder_model.specs.Safe.{Safe}
use Rattle.binder_model.specs.World.{IsHistory}
use Rattle.safety_law.proofs.Law.Law.{run_implies_safe}
use Rattle.store_lines.specs.declared.faults.LineFault.{LineFault}
use Rattle.store_lines.specs.declared.reading.StoreLine.{StoreLine}
use Rattle.store_lines.specs.declared.reading.StoreLine.TheVariants as lines
use Rattle.store_lines.specs.Lines.{HasImports, line_of}
use Rattle.store_lines.proofs.Setups.{each_passes}
use Rattle.store_server.specs.Answers.{StepAnswer, Begins, Enters, Refuses, Faults}
use Rattle.store_server.specs.Serving.{Opened, Served, ComesTo, AreAnswered, opened_after, served_after}
use Rattle.store_server.specs.Laws.{FencedIsRun, FencedIsSafe, ServedIsHistory}

-- ---- with the fence: imports that pass, and a run

record IsSound (o : Opened) : Type 0 where
  imports : ImportsPass o.setup.imports
  run : Run o.setup o.past

step_is_sound : (opened : Option Opened) (read : Result StoreLine LineFault) (answer : StepAnswer)
    → IfOk read HasImports → IfSome opened IsSound → ComesTo true opened read answer → IfSome (opened_after opened answer) IsSound
step_is_sound opened (Err fault) answer pass sound is = subst (λ (a : StepAnswer). IfSome (opened_after opened a) IsSound) (sym is) sound
step_is_sound None (Ok (lines.Setup s)) answer pass sound is = subst (λ (a : StepAnswer). IfSome (opened_after None a) IsSound) (sym is) (record { imports = pass; run = tt })
step_is_sound (Some o) (Ok (lines.Setup s)) answer pass sound is = subst (λ (a : StepAnswer). IfSome (opened_after (Some o) a) IsSound) (sym is) sound
step_is_sound None (Ok (lines.Ask a)) answer pass sound is = subst (λ (b : StepAnswer). IfSome (opened_after None b) IsSound) (sym is) tt
step_is_sound (Some o) (Ok (lines.Ask a)) (Enters e) pass sound is =
    subst (λ (x : Entry). IsSound (record { setup = o.setup; past = x ∷ o.past })) (sym is.1) (record { imports = sound.imports; run = (sound.run, refl, is.0) })
step_is_sound (Some o) (Ok (lines.Ask a)) (Refuses seat rule) pass sound is = sound
step_is_sound (Some o) (Ok (lines.Ask a)) (Begins s) pass sound is = absurd is
step_is_sound (Some o) (Ok (lines.Ask a)) (Faults fault) pass sound is = absurd is

stays_sound : (lines : List (List ℕ)) (answers : List StepAnswer) (s t : Served) → s.fenced ≡ true → IfSome s.opened IsSound
    → AreAnswered s lines answers t → IfSome t.opened IsSound
stays_sound [] [] s t fenced sound is = subst (λ (u : Served). IfSome u.opened IsSound) is sound
stays_sound [] (a ∷ answers) s t fenced sound is = absurd is
stays_sound (line ∷ lines) [] s t fenced sound is = absurd is
stays_sound (line ∷ lines) (a ∷ answers) s t fenced sound is =
    let comes : ComesTo true s.opened (line_of line) a = subst (λ (b : Bool). ComesTo b s.opened (line_of line) a) fenced is.0 in
    stays_sound lines answers (served_after s a) t fenced (step_is_sound s.opened (line_of line) a (each_passes line) sound comes) is.1

sound_is_run : (opened : Option Opened) → IfSome opened IsSound → IfSome opened (λ o. Run o.setup o.past)
sound_is_run None sound = tt
sound_is_run (Some o) sound = sound.run

sound_is_safe : (opened : Option Opened) → IfSome opened IsSound → IfSome opened (λ o. length o.past < most_entries → Safe o.setup o.past)
sound_is_safe None sound = tt
sound_is_safe (Some o) sound = λ short. run_implies_safe o.setup o.past (record { imports = sound.imports; short = short; run = sound.run })

pub fenced_is_run : FencedIsRun
fenced_is_run lines answers s is = sound_is_run s.opened (stays_sound lines answers (record { fenced = true; lines = 0; opened = None }) s refl tt is)

pub fenced_is_safe : FencedIsSafe
fenced_is_safe lines answers s is = sound_is_safe s.opened (stays_sound lines answers (record { fenced = true; lines = 0; opened = None }) s refl tt is)

-- ---- with the fence or without it

abbrev IsAnswered : Opened → Type 0
IsAnswered o = IsHistory o.setup o.past

step_is_history : (fenced : Bool) (opened : Option Opened) (read : Result StoreLine LineFault) (answer : StepAnswer)
    → IfSome opened IsAnswered → ComesTo fenced opened read answer → IfSome (opened_after opened answer) IsAnswered
step_is_history fenced opened (Err fault) answer had is = subst (λ (a : StepAnswer). IfSome (opened_after opened a) IsAnswered) (sym is) had
step_is_history fenced None (Ok (lines.Setup s)) answer had is = subst (λ (a : StepAnswer). IfSome (opened_after None a) IsAnswered) (sym is) tt
step_is_history fenced (Some o) (Ok (lines.Setup s)) answer had is = subst (λ (a : StepAnswer). IfSome (opened_after (Some o) a) IsAnswered) (sym is) had
step_is_history fenced None (Ok (lines.Ask a)) answer had is = subst (λ (b : StepAnswer). IfSome (opened_after None b) IsAnswered) (sym is) tt
step_is_history fenced (Some o) (Ok (lines.Ask a)) (Enters e) had is = subst (λ (x : Entry). IsHistory o.setup (x ∷ o.past)) (sym is.1) (had, refl)
step_is_history fenced (Some o) (Ok (lines.Ask a)) (Refuses seat rule) had is = had
step_is_history fenced (Some o) (Ok (lines.Ask a)) (Begins s) had is = absurd is
step_is_history fenced (Some o) (Ok (lines.Ask a)) (Faults fault) had is = absurd is

stays_history : (lines : List (List ℕ)) (answers : List StepAnswer) (s t : Served) → IfSome s.opened IsAnswered → AreAnswered s lines answers t → IfSome t.opened IsAnswered
stays_history [] [] s t had is = subst (λ (u : Served). IfSome u.opened IsAnswered) is had
stays_history [] (a ∷ answers) s t had is = absurd is
stays_history (line ∷ lines) [] s t had is = absurd is
stays_history (line ∷ lines) (a ∷ answers) s t had is =
    stays_history lines answers (served_after s a) t (step_is_history s.fenced s.opened (line_of line) a had is.0) is.1

pub served_is_history : ServedIsHistory
served_is_history fenced lines answers s is = stays_history lines answers (record { fenced = fenced; lines = 0; opened = None }) s tt is
