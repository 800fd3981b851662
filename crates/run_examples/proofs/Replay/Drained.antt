-- The examples of drains compute.
use Rattle.std.proofs.Common.{◌≡◌, ◌≢◌, ℕ, ◌+◌, List, [], ◌∷◌, Bool, true, false, true≢false, Option, Some, None, ◌⊎◌, inl, inr, refl, sym, ◌∙◌, ap, subst, arith}
use Rattle.std.specs.Prelude.{is_none}
use Rattle.std.specs.declared.cmp.Ordering.{Ordering}
use Rattle.std.specs.declared.cmp.Ordering.TheVariants.{Less}
use Rattle.kube_objects.specs.declared.key.Key.{Key}
use Rattle.kube_parts.specs.declared.names.Due.{Due}
use Rattle.kube_parts.specs.declared.names.Due.TheVariants as dues
use Rattle.kube_objects.specs.declared.objects.Object.{Object}
use Rattle.kube_objects.specs.declared.objects.Object.TheVariants.{Volume}
use Rattle.kube_parts.specs.declared.parts.Kind.TheVariants as kinds
use Rattle.kube_objects.specs.Keys.{key_of, key_cmp, row_at}
use Rattle.kube_objects.proofs.KeyOrder.{row_at_key}
use Rattle.call_types.specs.declared.entry.Entry.{Entry}
use Rattle.call_types.specs.declared.reply.Reply.{Reply}
use Rattle.call_types.specs.declared.request.Request.{Request}
use Rattle.call_types.specs.declared.request.Request.TheVariants as requests
use Rattle.call_types.specs.declared.request.SeatKind.{SeatKind}
use Rattle.call_types.specs.declared.request.SeatKind.TheVariants as seats
use Rattle.binder_model.specs.Answers.{after, list, outcome}
use Rattle.binder_model.specs.BindWrites.{next_write, claim_write}
use Rattle.binder_model.specs.BinderDue.{volume_due, reference_due, referred_due, claim_with, claim_due, named_due, completed_due}
use Rattle.binder_model.specs.Devices.{device_answer}
use Rattle.binder_model.specs.Due.{IsDue, IsFirstDue, IsSettled, or_due}
use Rattle.binder_model.specs.Imports.{imported_object}
use Rattle.binder_model.specs.Store.{leaves}
use Rattle.binder_model.specs.World.{effect, on_devices, world, world_after}
use Rattle.model_examples.specs.DueActions.{pending_a}
use Rattle.model_examples.specs.Samples.{key_a}
use Rattle.model_examples.proofs.Tellings.{IsIn, differ, one}
use Rattle.model_laws.proofs.Readings.{found_stands as found_in}
use Rattle.actor_rounds.specs.Drainers.{HaveNoEntries, seats_of}
use Rattle.actor_rounds.specs.Rounds.{IsSpent, NothingDue, all_pass}
use Rattle.script_text.specs.declared.script.Script.{Script}
use Rattle.script_runs.specs.Drains.{DrainComesTo}
use Rattle.script_runs.specs.Parts.{drain_seat}
use Rattle.script_runs.specs.Replays.{IsDrain, NoMoves, Progress, first_progress}
use Rattle.script_runs.proofs.Draining.{drains_come_to, new_ones_are_drainers}
use Rattle.run_examples.specs.Replay.Calls.{reads}
use Rattle.run_examples.specs.Replay.Drains.{DrainExamples, Drains, SpentExamples, begins_with, node_script, volume_script}
use Rattle.run_examples.specs.Replay.Replays.{empty_script}
use Rattle.run_examples.proofs.Replay.Drainers.{drainers_new, drainers_of, drainers_stand}
use Rattle.run_examples.proofs.Replay.Firsts.{FirstCall, ends_so, first_call}
use Rattle.run_examples.proofs.Replay.Replayed.{nothing_due}
use Rattle.run_examples.proofs.Replay.Scheduled.{call_at, one_call_drain, ran_all}

-- ---- what is due in the world that begins with a volume

abbrev rows : List Object
rows = Volume pending_a ∷ []

unsettled : IsSettled volume_script.setup (world volume_script.setup []) → ⊥
unfolding imported_object leaves or_due volume_due reference_due referred_due claim_with claim_due named_due completed_due next_write claim_write
unsettled s = differ is_none (s key_a (Volume pending_a) refl) refl refl

abbrev is_less : Ordering → Bool
is_less Less = true
is_less o = false

abbrev is_available : Option Due → Bool
is_available (Some dues.Available) = true
is_available action = false

none_before : (earlier : Key) (o : Object) → key_of o ≡ earlier → key_cmp earlier key_a ≡ Less → IsIn o rows → ⊥
none_before earlier o k less (inl e) = differ is_less (sym (subst (λ k. key_cmp k key_a ≡ Less) (sym (ap key_of e ∙ k)) less)) refl refl
none_before earlier o k less (inr h) = h

due_first : (past : List Entry) → (world volume_script.setup past).store.rows ≡ rows → IsFirstDue volume_script.setup (world volume_script.setup past) (Some (key_a, dues.Available))
unfolding or_due volume_due reference_due referred_due claim_with claim_due named_due completed_due next_write claim_write
due_first past are = record {
  object = Volume pending_a;
  there = ap (row_at key_a) are;
  due = refl;
  first = λ earlier o e less. let there : row_at earlier rows ≡ Some o = sym (ap (row_at earlier) are) ∙ e in
      absurd (none_before earlier o (row_at_key earlier o rows there) less (found_in earlier o rows there));
}

rows_first : (world volume_script.setup []).store.rows ≡ rows
unfolding imported_object leaves
rows_first = refl

rows_listed : (world volume_script.setup (begins_with 7 ∷ [])).store.rows ≡ rows
unfolding world_after effect on_devices device_answer outcome list after imported_object leaves
rows_listed = refl

first_due : IsFirstDue volume_script.setup (world volume_script.setup []) (Some (key_a, dues.Available))
first_due = due_first [] rows_first

not_bound : IsFirstDue volume_script.setup (world volume_script.setup []) (Some (key_a, dues.Bound)) → ⊥
unfolding imported_object leaves or_due volume_due reference_due referred_due claim_with claim_due named_due completed_due next_write claim_write
not_bound f = differ is_available (sym (subst (λ o. IsDue volume_script.setup (world volume_script.setup []) o (Some dues.Bound)) (sym (one (Volume pending_a) f.object f.there)) f.due)) refl refl

-- ---- what its one call is

module _ (script : Script) (five : drain_seat script ≡ 5) (e : Entry) (d : Drains script 1 1 (e ∷ [])) where
  first : FirstCall (drain_seat script + 2) [] d.after.past
  first =
      first_call script (Some 1) (first_progress (Some 1) d.drainers) d.after d.drain
      (new_ones_are_drainers script (drain_seat script) (Some 1) (first_progress (Some 1) d.drainers) d.new)
      (λ (none : d.after.past ≡ []). let one_ : e ∷ [] ≡ [] = sym d.past_is ∙ none in absurd (cc)) refl

  its_call : first.entry ≡ e
  its_call = one first.entry e (sym (ends_so (e ∷ []) first.later first.entry [] 0 (sym d.past_is ∙ first.are) refl))

  its_seat : e.seat ≡ 7
  its_seat = ap (λ (x : Entry). x.seat) (sym its_call) ∙ first.of_seat ∙ ap (λ n. n + 2) five

  its_kind : e.kind ≡ seats.Scheduler
  its_kind = ap (λ (x : Entry). x.kind) (sym its_call) ∙ first.of_kind

  its_answer : e.told ≡ true
  its_answer = ap (λ (x : Entry). x.told) (sym its_call) ∙ first.was_told

  its_request : e.request ≡ requests.List kinds.PersistentVolume None
  its_request = ap (λ (x : Entry). x.request) (sym its_call) ∙ first.asks

not_at : (script : Script) (seat : ℕ) (told : Bool) → drain_seat script ≡ 5 → seat ≢ 7 → Drains script 1 1 (reads seat told ∷ []) → ⊥
not_at script seat told five other d = other (its_seat script five (reads seat told) d)

what_came : (script : Script) (budget made : ℕ) (past : List Entry) (d : Drains script budget made past) → DrainComesTo script (first_progress (Some budget) d.drainers) d.after
what_came script budget made past d = drains_come_to all_pass script (Some budget) (first_progress (Some budget) d.drainers) d.after d.drain

-- tests that tell requests apart

abbrev is_list : Request → Bool
is_list (requests.List kind namespace) = true
is_list request = false

abbrev is_scheduler : SeatKind → Bool
is_scheduler seats.Scheduler = true
is_scheduler kind = false

-- the budget of its drain
budget_of : (script : Script) (budget made : ℕ) (past : List Entry) (d : Drains script budget made past) → d.after.budget ≡ budget
budget_of script budget made past d = ap (λ (p : Progress). p.budget) d.drain.is ∙ d.drain.raises

short : Drains volume_script 1 0 [] → ⊥
short d = by (what_came volume_script 1 0 [] d).ends
  where
    by : IsSettled volume_script.setup (world volume_script.setup d.after.past) ⊎ (d.after.drained ≡ d.after.budget) → ⊥
    by (inl settled) = unsettled (subst (λ h. IsSettled volume_script.setup (world volume_script.setup h)) d.past_is settled)
    by (inr spent) = let b = budget_of volume_script 1 0 [] d in let m = d.made_is in absurd (omega (arith, spent, b, m))

-- one within a budget of none
too_many : Drains volume_script 0 1 (begins_with 7 ∷ []) → ⊥
too_many d =
    let few = (what_came volume_script 0 1 (begins_with 7 ∷ []) d).few in
    let b = budget_of volume_script 0 1 (begins_with 7 ∷ []) d in
    let m = d.made_is in
    absurd (omega (arith, few, b, m))

no_need : Drains empty_script 1 0 []
no_need = record {
  drainers = drainers_of empty_script;
  new = drainers_new (drain_seat empty_script) empty_script.node_names;
  after = first_progress (Some 1) (drainers_of empty_script);
  drain = record {
    past = [];
    made = 0;
    budget = 1;
    ran = drainers_of empty_script;
    raises = refl;
    stand = drainers_stand empty_script [] (refl, (refl, (refl, (refl, (refl, tt)))));
    few = omega arith;
    rounds = NothingDue nothing_due refl refl refl;
    is = refl;
  };
  past_is = refl;
  made_is = refl;
}

-- a first drain of one call of the scheduler
one_drained : (script : Script) (reply : Reply) → HaveNoEntries (seats_of (drainers_of script)) []
    → IsFirstDue script.setup (world script.setup []) (Some (key_a, dues.Available))
    → IsFirstDue script.setup (world script.setup (call_at (drain_seat script + 2) reply ∷ [])) (Some (key_a, dues.Available))
    → Drains script 1 1 (call_at (drain_seat script + 2) reply ∷ [])
one_drained script reply none due still = record {
  drainers = drainers_of script;
  new = drainers_new (drain_seat script) script.node_names;
  after = record (first_progress (Some 1) (ran_all script [] reply none (key_a, dues.Available) (key_a, dues.Available) due still)) {
    past = call_at (drain_seat script + 2) reply ∷ [];
    drained = 1;
  };
  drain = one_call_drain script [] reply none (key_a, dues.Available) (key_a, dues.Available) due still;
  past_is = refl;
  made_is = refl;
}

pub drain_cases : DrainExamples
drain_cases = record {
  the_scheduler_begins = one_drained volume_script (begins_with 7).reply (refl, (refl, (refl, (refl, (refl, tt))))) first_due (due_first (begins_with 7 ∷ []) rows_listed);
  also_where_there_is_an_agent =
      one_drained node_script (begins_with 7).reply (refl, (refl, (refl, (refl, (refl, (refl, tt)))))) first_due (due_first (begins_with 7 ∷ []) rows_listed);
  not_the_binder = not_at volume_script 5 true refl (λ (e : 5 ≡ 7). absurd (omega (arith, e)));
  not_volume_protection = not_at volume_script 9 true refl (λ (e : 9 ≡ 7). absurd (omega (arith, e)));
  not_the_agent_of_a_node = not_at node_script 10 true refl (λ (e : 10 ≡ 7). absurd (omega (arith, e)));
  not_a_seat_after_them = not_at volume_script 10 true refl (λ (e : 10 ≡ 7). absurd (omega (arith, e)));
  not_at_the_seat_of_the_binder = λ d. let seat : 5 ≡ 7 = its_seat volume_script refl (begins_with 5) d in absurd (omega (arith, seat));
  nor_at_that_of_the_agent = λ d. let seat : 10 ≡ 7 = its_seat node_script refl (begins_with 10) d in absurd (omega (arith, seat));
  not_a_user = not_at volume_script 4 true refl (λ (e : 4 ≡ 7). absurd (omega (arith, e)));
  not_a_user_at_its_seat = λ d. absurd (true≢false (sym (ap is_scheduler (its_kind volume_script refl (record (begins_with 7) { kind = seats.User }) d))));
  not_another_kind_at_its_seat = λ d. absurd (true≢false (sym (ap is_scheduler (its_kind volume_script refl (record (begins_with 7) { kind = seats.VolumeProtect }) d))));
  not_by_a_read_of_one_object = λ d. absurd (true≢false (sym (ap is_list (its_request volume_script refl (record (begins_with 7) { request = requests.Get key_a }) d))));
  not_by_a_watch = λ d. absurd (true≢false (sym (ap is_list (its_request volume_script refl (record (begins_with 7) { request = requests.Watch kinds.PersistentVolume 1 }) d))));
  not_with_its_answer_lost = λ d. absurd (true≢false (sym (its_answer volume_script refl (record (begins_with 7) { told = false }) d)));
  not_past_the_budget = too_many;
  not_short_of_it_while_something_is_due = short;
  none_where_nothing_is_due = no_need;
  not_even_one = λ d. let e : begins_with 7 ∷ [] ≡ [] = sym d.past_is ∙ (what_came empty_script 1 1 (begins_with 7 ∷ []) d).none nothing_due in absurd (cc);
}

-- ---- how it ends

-- with no budget no call is made
pub spent_drain : (script : Script) (first : Key × Due) → IsFirstDue script.setup (world script.setup []) (Some first)
    → IsDrain all_pass script (Some 0) (first_progress (Some 0) (drainers_of script)) (first_progress (Some 0) (drainers_of script))
spent_drain script first due = record {
  past = [];
  made = 0;
  budget = 0;
  ran = drainers_of script;
  raises = refl;
  stand = drainers_stand script [] (none_at (seats_of (drainers_of script)));
  few = omega arith;
  rounds = IsSpent first due refl refl refl refl;
  is = refl;
}
  where
    none_at : (ss : List ℕ) → HaveNoEntries ss []
    none_at [] = tt
    none_at (seat ∷ ss) = (refl, none_at ss)

pub spent_cases : SpentExamples
spent_cases = record {
  the_first_that_is_due = record {
    drainers = drainers_of volume_script;
    new = drainers_new (drain_seat volume_script) volume_script.node_names;
    lines_done = first_progress (Some 0) (drainers_of volume_script);
    end = first_progress (Some 0) (drainers_of volume_script);
    moves = NoMoves refl refl;
    last = spent_drain volume_script (key_a, dues.Available) first_due;
    history = refl;
    ends = (refl, refl, first_due);
  };
  not_another_action = λ r. not_bound (subst (λ h. IsFirstDue volume_script.setup (world volume_script.setup h) (Some (key_a, dues.Bound))) (sym r.history) r.ends.2);
  not_settled = λ r. unsettled (subst (λ h. IsSettled volume_script.setup (world volume_script.setup h)) (sym r.history) r.ends.1);
}
