-- What begins on a pod, computed.
use Rattle.std.proofs.Common.{ℕ, ◌≡◌, Bool, true, false, true≢false, List, [], ◌∷◌, Option, Some, None, refl, sym, ap, subst}
use Rattle.std.specs.Prelude.{bytes_eq, codes, is_some}
use Rattle.plain_data.specs.Pairs.{value_at}
use Rattle.kube_objects.specs.declared.objects.Pod.{Pod as PodData}
use Rattle.kube_objects.specs.declared.objects.Object.{Object}
use Rattle.kube_objects.specs.declared.objects.Object.TheVariants.{Class, Node, Volume, Claim}
use Rattle.kube_objects.specs.Bindings.{is_scheduled, selected_node}
use Rattle.call_types.specs.declared.request.Request.{Request}
use Rattle.call_types.specs.declared.request.Request.TheVariants as requests
use Rattle.binder_model.specs.BindWrites.{taken_for}
use Rattle.pod_scheduler.specs.declared.schedule.ScheduleOp.{ScheduleOp}
use Rattle.pod_scheduler.specs.declared.tries.Tried.{Tried}
use Rattle.pod_scheduler.specs.Decisions.{BeginsFor, BeginsIf, BeginsOn, begun_with, last_refused, writes_for}
use Rattle.pod_scheduler.proofs.Begun.{decisions_are_unique}
use Rattle.machine_examples.proofs.Delayed.Computing.{chosen, holds, is_rising, rising_is}
use Rattle.machine_examples.specs.Schedule.Beginnings.{BindExamples, SelectExamples, nameless, on, open_rows, bound_rows, selected, tried, writing}
use Rattle.machine_examples.specs.Schedule.Moves.{pod_bind, reference, selection}
use Rattle.machine_examples.specs.Delayed.Scenes.{b, c, chosen_on, e, late, leaving, n1, pod, pod_of_two}

-- what begins, by a scan that computes
abbrev pub begun_on : List Object → List Tried → PodData → Option ScheduleOp
begun_on rows refused p = begun_with (writes_for rows p (chosen rows p (last_refused rows p refused)))

pub begins : (rows : List Object) (refused : List Tried) (p : PodData) (op : Option ScheduleOp) → is_rising rows ≡ true → is_scheduled p ≡ false
    → begun_on rows refused p ≡ op → BeginsOn rows refused (on p) op
begins rows refused p op rising unscheduled is =
    let last = last_refused rows p refused in
    let b : BeginsFor rows refused p op = record { choice = chosen rows p last; chosen = holds rows p last (chosen rows p last) rising refl; begins = sym is } in
    subst (λ s. BeginsIf s rows refused p op) (sym unscheduled) b

pub not_begun : (rows : List Object) (refused : List Tried) (p : PodData) (op : Option ScheduleOp) → is_rising rows ≡ true → is_scheduled p ≡ false
    → (begun_on rows refused p ≡ op → ⊥) → BeginsOn rows refused (on p) op → ⊥
not_begun rows refused p op rising unscheduled differs b =
    differs (decisions_are_unique rows refused (on p) (begun_on rows refused p) op (rising_is rows rising) (begins rows refused p (begun_on rows refused p) rising unscheduled refl) b)

-- tests that tell what begins apart

abbrev is_second : Option (List ℕ) → Bool
is_second None = false
is_second (Some node) = bytes_eq node (codes "n2")

abbrev selects_second : Request → Bool
selects_second (requests.Update (Claim c) given) = is_second (value_at selected_node c.meta.annotations)
selects_second request = false

abbrev first_selects_second : List Request → Bool
first_selects_second [] = false
first_selects_second (w ∷ writes) = selects_second w

abbrev op_selects_second : Option ScheduleOp → Bool
op_selects_second None = false
op_selects_second (Some op) = first_selects_second op.writes

pub bind_examples : BindExamples
bind_examples = record {
  pod_is_bound = begins bound_rows [] pod (writing (pod_bind ∷ [])) refl refl refl;
  bound_pod_is_left = refl;
  bound_pod_is_not_bound_again = λ e. true≢false (ap is_some e);
  pod_whose_claim_waits_is_left = begins (Class late ∷ Node n1 ∷ Claim (chosen_on (codes "n1") c) ∷ []) [] pod None refl refl refl;
  pod_whose_claim_waits_is_not_bound = not_begun (Class late ∷ Node n1 ∷ Claim (chosen_on (codes "n1") c) ∷ []) [] pod (writing (pod_bind ∷ [])) refl refl (λ e. true≢false (sym (ap is_some e)));
  pod_whose_claim_leaves_is_left = begins (Class late ∷ Node n1 ∷ Claim (leaving c) ∷ []) [] pod None refl refl refl;
  claim_is_no_pod = refl;
  absent_pod_is_left = refl;
}

pub select_examples : SelectExamples
unfolding taken_for
select_examples = record {
  first_node_is_selected = begins open_rows [] pod (writing (selected (codes "n1") ∷ [])) refl refl refl;
  reference_comes_before_the_selection = begins (Class late ∷ Node n1 ∷ Volume e ∷ Claim b ∷ Claim c ∷ []) [] pod_of_two (writing (reference ∷ selection ∷ [])) refl refl refl;
  claim_of_another_pod_is_not_written = begins (Class late ∷ Node n1 ∷ Claim b ∷ Claim c ∷ []) [] pod (writing (selected (codes "n1") ∷ [])) refl refl refl;
  node_after_the_refused_is_selected = begins open_rows (tried 7 (codes "n1") ∷ []) pod (writing (selected (codes "n2") ∷ [])) refl refl refl;
  refused_node_is_not_selected = not_begun open_rows (tried 7 (codes "n1") ∷ []) pod (writing (selected (codes "n1") ∷ [])) refl refl (λ e. true≢false (ap op_selects_second e));
  last_refused_counts = begins open_rows (tried 7 (codes "n2") ∷ tried 7 (codes "n1") ∷ []) pod (writing (selected (codes "n3") ∷ [])) refl refl refl;
  refusal_of_another_claim_does_not_count = begins open_rows (tried 8 (codes "n1") ∷ []) pod (writing (selected (codes "n1") ∷ [])) refl refl refl;
  refusal_of_each_claim_counts = refl;
  nothing_was_refused = refl;
  claim_without_a_uid_is_left = begins (Class late ∷ Node n1 ∷ Claim (nameless c) ∷ []) [] pod None refl refl refl;
  claims_are_known = refl;
  claim_without_a_uid_is_not = refl;
}
