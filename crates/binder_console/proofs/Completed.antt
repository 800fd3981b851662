-- A task that is to be done is done, unless a read or a write fails or memory is wanting.
use Rattle.std.proofs.Common.{◌≡◌, ◌∙◌, ◌<◌, ℕ, List, String, Option, Some, None, Ok, Err, length, refl, sym, ap, subst, arith, inl, inr}
use Rattle.std.specs.declared.alloc.Global.{Global}
use Rattle.fault_io.specs.Reading.{IsLeft, IsLongerThan}
use Rattle.world_core.specs.declared.drained.Drained.{Drained}
use Rattle.world_core.specs.declared.drained.Drained.TheVariants.{Settled, Spent}
use Rattle.audit_check.specs.declared.verdict.Verdict.{Verdict}
use Rattle.audit_check.specs.declared.verdict.Verdict.TheVariants.{Yes, No}
use Rattle.object_text.specs.Listing.{list_of}
use Rattle.script_text.specs.declared.script.Script.{Script}
use Rattle.script_text.specs.Grammar.{script_of}
use Rattle.extended_text.specs.declared.sides.Extended.{Extended}
use Rattle.extended_text.specs.Extended.{extended_of}
use Rattle.side_model.specs.Merged.{entries}
use Rattle.history_read.specs.Grammar.{history_of}
use Rattle.binder_console.specs.declared.status.Status.{Status}
use Rattle.binder_console.specs.declared.status.Status.TheVariants.{Done, Usage, Refused, Unsettled, ReadFault, WriteFault, Memory, AuditNo}
use Rattle.binder_console.specs.declared.commands.Task.{Task}
use Rattle.binder_console.specs.declared.commands.Task.TheVariants.{Replay, Run, Check, Audit, Gen, Extend}
use Rattle.binder_console.specs.Audits.{verdict_status}
use Rattle.binder_console.specs.Commands.{task_of}
use Rattle.binder_console.specs.Ends.{EndsAnswered, EndsBy, Outside}
use Rattle.binder_console.specs.Exactly.{IsComplete, IsToBeDone, IsTold, IsToldOf, NoneFailed, ReplaysSettle, RunsBesideSettle, RunsSettle}
use Rattle.binder_console.specs.Inputs.{IsInput, IsInputOf, IsTooLongOf, most_input}
use Rattle.binder_console.specs.Outcomes.{Answers, OfInput, Refuses, RefusedWith, TooLong}
use Rattle.binder_console.specs.Replays.{status_of}

-- ---- the input

not_too_long : (most : Option ℕ) (left : Option (List ℕ)) (input : List ℕ) → IsToldOf most left input → IsTooLongOf most left → ⊥
not_too_long None left input told long = long
not_too_long (Some most) left input told long =
    let more : most < length input = subst (IsLongerThan most) told.0 long in
    let few = told.1 in
    absurd (omega (arith, more, few))

-- what was read is what the source told
same_input : (most : ℕ) (left : Option (List ℕ)) (input other : List ℕ) → IsToldOf (Some most) left input → IsInputOf (Some most) left other → input ≡ other
same_input most left input other told read = subst (λ (l : Option (List ℕ)). IsLeft l other) told.0 read.whole

-- ---- how drains end

not_unsettled : (ending : Drained) → Unsettled ≡ status_of ending → status_of ending ≡ Done → ⊥
not_unsettled ending ends done = let both : Unsettled ≡ Done = ends ∙ done in absurd (cc)

no_verdict_of_drains : (ending : Drained) → AuditNo ≡ status_of ending → ⊥
no_verdict_of_drains (Settled made) ends = absurd (cc)
no_verdict_of_drains (Spent made key due) ends = absurd (cc)

no_drain_of_verdicts : (verdict : Verdict) → Unsettled ≡ verdict_status verdict → ⊥
no_drain_of_verdicts Yes ends = absurd (cc)
no_drain_of_verdicts (No number rule) ends = absurd (cc)

-- ---- a task that is to be done

same_script : (input other : List ℕ) (script then_script : Script) → input ≡ other → script_of input ≡ Ok script → script_of other ≡ Ok then_script → script ≡ then_script
same_script input other script then_script same read then_read = let both : Ok script ≡ Ok then_script = sym read ∙ ap script_of same ∙ then_read in cc

same_extended : (input other : List ℕ) (extended then_extended : Extended) → input ≡ other → extended_of input ≡ Ok extended → extended_of other ≡ Ok then_extended → extended ≡ then_extended
same_extended input other extended then_extended same read then_read = let both : Ok extended ≡ Ok then_extended = sym read ∙ ap extended_of same ∙ then_read in cc

no_refusal : (task : Task) (left : Option (List ℕ)) (input other text : List ℕ) → IsTold task left input → IsToBeDone task input → IsInput task left other → Refuses task other text → ⊥
no_refusal (Replay budget) left input other text told done read refuses =
    let e : Ok done.0 ≡ Err refuses.bad = sym done.1 ∙ ap script_of (same_input 1048576 left input other told read) ∙ refuses.refused in absurd (cc)
no_refusal (Run workers calls budget) left input other text told done read refuses =
    let e : Ok done.0 ≡ Err refuses.bad = sym done.1 ∙ ap script_of (same_input 1048576 left input other told read) ∙ refuses.refused in absurd (cc)
no_refusal Check left input other text told done read refuses =
    let e : Ok done.0 ≡ Err refuses.error = sym done.1 ∙ ap list_of (same_input 1048576 left input other told read) ∙ refuses.refused in absurd (cc)
no_refusal Audit left input other text told done read refuses =
    let e : Ok done.0 ≡ Err refuses.bad = sym done.1 ∙ ap history_of (same_input 268435456 left input other told read) ∙ refuses.refused in absurd (cc)
no_refusal (Gen seed budget) left input other text told done read refuses = refuses
no_refusal (Extend budget) left input other text told done read refuses =
    let e : Ok done.0 ≡ Err refuses.bad = sym done.1 ∙ ap extended_of (same_input 1048576 left input other told read) ∙ refuses.refused in absurd (cc)

not_refused : (task : Task) (left : Option (List ℕ)) (input text : List ℕ) → IsTold task left input → IsToBeDone task input → RefusedWith task left text → ⊥
not_refused task left input text told done (TooLong long is) = not_too_long (most_input task) left input told long
not_refused task left input text told done (OfInput other read refuses) = no_refusal task left input other text told done read refuses

-- its drain has settled
settled : (task : Task) (left : Option (List ℕ)) (input other text : List ℕ) → IsTold task left input → IsToBeDone task input → IsInput task left other → Answers task Unsettled other text → ⊥
settled (Replay budget) left input other text told done read answers =
    let same = same_script input other done.0 answers.script (same_input 1048576 left input other told read) done.1 answers.read in
    let may = subst (λ (s : Script). ReplaysSettle s budget) same done.2 in
    not_unsettled answers.ending answers.ends (answers.promised.settling (may answers.past answers.ending answers.promised.calls))
settled (Run workers calls budget) left input other text told done read answers =
    let same = same_script input other done.0 answers.script (same_input 1048576 left input other told read) done.1 answers.read in
    let may = subst (λ (s : Script). RunsSettle s workers calls budget) same done.2 in
    not_unsettled answers.ending answers.ends (answers.promised.settling (may answers.past answers.ending answers.promised.calls_are))
settled Check left input other text told done read answers = let e : Unsettled ≡ Done = answers.0 in absurd (cc)
settled Audit left input other text told done read answers = no_drain_of_verdicts answers.verdict answers.ends
settled (Gen seed budget) left input other text told done read answers =
    not_unsettled answers.ending answers.ends (answers.promised.settling (done answers.past answers.ending answers.promised.calls))
settled (Extend budget) left input other text told done read answers =
    let promised = answers.promised in
    let same = same_extended input other done.0 answers.extended (same_input 1048576 left input other told read) done.1 answers.read in
    let may = subst (λ (e : Extended). RunsBesideSettle e budget) same done.2 in
    not_unsettled answers.ending answers.ends
    (promised.promised.settling (may answers.kept promised.left (entries answers.steps) answers.ending promised.promised.calls))

-- only an audit says no
judged : (task : Task) (input text : List ℕ) → Answers task AuditNo input text → IsComplete task AuditNo
judged (Replay budget) input text answers = absurd (no_verdict_of_drains answers.ending answers.ends)
judged (Run workers calls budget) input text answers = absurd (no_verdict_of_drains answers.ending answers.ends)
judged Check input text answers = absurd (let e : AuditNo ≡ Done = answers.0 in absurd (cc))
judged Audit input text answers = inr (inl refl)
judged (Gen seed budget) input text answers = absurd (no_verdict_of_drains answers.ending answers.ends)
judged (Extend budget) input text answers = absurd (no_verdict_of_drains answers.ending answers.ends)

done_is_complete : (task : Task) → IsComplete task Done
done_is_complete (Replay budget) = inl refl
done_is_complete (Run workers calls budget) = inl refl
done_is_complete Check = inl refl
done_is_complete Audit = inl refl
done_is_complete (Gen seed budget) = inl refl
done_is_complete (Extend budget) = inl refl

memory_is_complete : (task : Task) → IsComplete task Memory
memory_is_complete (Replay budget) = inr refl
memory_is_complete (Run workers calls budget) = inr refl
memory_is_complete Check = inr refl
memory_is_complete Audit = inr (inr refl)
memory_is_complete (Gen seed budget) = inr refl
memory_is_complete (Extend budget) = inr refl

-- ---- whatever the status

one_task : (asked : Option Task) (task other : Task) → asked ≡ Some task → asked ≡ Some other → other ≡ task
one_task asked task other is then_is = let both : Some other ≡ Some task = sym then_is ∙ is in cc

module _ (words : List (String Global)) (before after : Outside) (task : Task) (input : List ℕ)
    (asked : task_of words ≡ Some task) (told : IsTold task before.left input) (done : IsToBeDone task input) (none : NoneFailed before after) where
  of_task : (status : Status) → EndsAnswered status words before after → (other : List ℕ) × (text : List ℕ) × IsInput task before.left other × Answers task status other text
  of_task status e =
      let same = one_task (task_of words) task e.task asked e.asked in (
        e.answered.input,
        e.text,
        subst (λ (t : Task). IsInput t before.left e.answered.input) same e.answered.read,
        subst (λ (t : Task). Answers t status e.answered.input e.text) same e.answered.answered,
      )

  pub completed : (status : Status) → EndsBy status words before after → IsComplete task status
  completed Done e = done_is_complete task
  completed Unsettled e = let a = of_task Unsettled e in absurd (settled task before.left input a.0 a.1 told done a.2 a.3)
  completed AuditNo e = let a = of_task AuditNo e in judged task a.0 a.1 a.3
  completed Usage e = let both : Some task ≡ None = sym asked ∙ e.asked in absurd (cc)
  completed Refused e = absurd (not_refused task before.left input e.text told done
      (subst (λ (t : Task). RefusedWith t before.left e.text) (one_task (task_of words) task e.task asked e.asked) e.refused))
  completed ReadFault e = absurd (none.0 e.failed)
  completed WriteFault e = absurd (none.1 e.failed)
  completed Memory e = memory_is_complete task
