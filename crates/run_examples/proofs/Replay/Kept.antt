-- The examples of drains that go on from where the last one left their actors compute.
use Rattle.std.proofs.Common.{◌≡◌, ◌∙◌, ℕ, List, [], length, Option, Some, inl, inr, ap, subst, sym, arith}
use Rattle.std.specs.Prelude.{slice_get}
use Rattle.model_laws.proofs.Lists.{none_some, one}
use Rattle.sync_queue.specs.Work.{Work, no_work}
use Rattle.worker_core.specs.Stands.{IsNew}
use Rattle.actor_rounds.specs.declared.drainers.Drainer.{Drainer}
use Rattle.actor_rounds.specs.Drainers.{AreNew, of_kind}
use Rattle.actor_rounds.specs.Rounds.{all_pass}
use Rattle.call_types.specs.declared.request.SeatKind.TheVariants as seats
use Rattle.script_lines.specs.declared.actors.Actor.{Actor}
use Rattle.script_text.specs.declared.script.Script.{Script}
use Rattle.script_runs.specs.Parts.{part_of, role_of}
use Rattle.script_runs.specs.Replays.{IsDrain, IsTurnLine, Progress}
use Rattle.run_examples.specs.Replay.Drains.{KeptExamples, one_waits}

-- the third of new actors is a new binder
third_is_new : (first : ℕ) (nodes : List (List ℕ)) (ds : List Drainer) (d : Drainer) → AreNew first nodes ds → slice_get ds 2 ≡ Some d → IsNew (of_kind seats.Binder) d.actor
third_is_new first nodes ds d new at = by (one new.binder d (sym (ap (λ xs. slice_get xs 2) new.are) ∙ at)) new.binder_is.is_new
  where
    by : new.binder ≡ d → IsNew (of_kind seats.Binder) new.binder.actor → IsNew (of_kind seats.Binder) d.actor
    by same h = subst (λ (x : Drainer). IsNew (of_kind seats.Binder) x.actor) same h

waits_not : (w : Work) → w ≡ no_work → w ≡ one_waits → ⊥
waits_not w none some = let long : ◌≡◌ {A = ℕ} 0 1 = ap (λ (x : Work). length x.waiting) (sym none ∙ some) in absurd (omega (arith, long))

left : (script : Script) (option : Option ℕ) (before middle : Progress) (one_ : IsDrain all_pass script option before middle) → middle.drainers ≡ one_.ran
left script option before middle one_ = ap (λ (p : Progress). p.drainers) one_.is

-- the actor that the last drain left there is the one that stands there
the_same : (script : Script) (option : Option ℕ) (before middle : Progress) (one_ : IsDrain all_pass script option before middle) (d other : Drainer)
    → slice_get one_.ran 2 ≡ Some d → slice_get middle.drainers 2 ≡ Some other → d ≡ other
the_same script option before middle one_ d other ran at = one d other (sym ran ∙ ap (λ ds. slice_get ds 2) (sym (left script option before middle one_)) ∙ at)

turn_leaves : (script : Script) (actor : Actor) (calls : ℕ) (before after : Progress)
    → IsTurnLine all_pass [] (role_of actor) (part_of script actor) calls before after → after.drainers ≡ before.drainers
turn_leaves script actor calls before after (inl all) = ap (λ (p : Progress). p.drainers) all.is
turn_leaves script actor calls before after (inr few) = ap (λ (p : Progress). p.drainers) few.is

pub kept_cases : KeptExamples
kept_cases = record {
  no_queue_at_first = λ past ending r d at waits. waits_not d.actor.work (third_is_new _ _ r.drainers d r.new at).work waits;
  nothing_under_way_at_first = λ past ending r d u at busy. none_some (sym (third_is_new _ _ r.drainers d r.new at).under ∙ busy);
  a_drain_begins_with_what_the_last_one_left = λ script option before middle after one_ two d ran. ap (λ ds. slice_get ds 2) (left script option before middle one_) ∙ ran;
  not_with_another_queue = λ script option before middle after one_ two d other ran at none waits.
      waits_not other.actor.work (ap (λ (x : Drainer). x.actor.work) (sym (the_same script option before middle one_ d other ran at)) ∙ none) waits;
  nor_with_something_else_under_way = λ script option before middle after one_ two d other u ran at none busy.
      none_some (sym none ∙ ap (λ (x : Drainer). x.actor.under) (the_same script option before middle one_ d other ran at) ∙ busy);
  lines_between_leave_them = λ script option user request before after move. ap (λ (p : Progress). p.drainers) move.is;
  turns_too = λ script option actor calls before after move. turn_leaves script actor calls before after move;
}
