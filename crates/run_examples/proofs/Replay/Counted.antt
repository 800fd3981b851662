-- The examples of calls compute.
use Rattle.std.proofs.Common.{◌≡◌, ℕ, ◌+◌, List, [], ◌∷◌, ◌++◌, length, length-append, Bool, true, false, true≢false, inl, inr, refl, sym, ◌∙◌, ap, subst, append-nil, None, arith}
use Rattle.kube_parts.specs.declared.parts.Kind.{Kind}
use Rattle.kube_parts.specs.declared.parts.Kind.TheVariants as kinds
use Rattle.call_types.specs.declared.entry.Entry.{Entry}
use Rattle.call_types.specs.declared.reply.Refusal.TheVariants.{NotFound}
use Rattle.call_types.specs.declared.reply.Reply.TheVariants.{Refused}
use Rattle.call_types.specs.declared.reply.Reply.{Reply}
use Rattle.call_types.specs.declared.request.Request.{Request}
use Rattle.call_types.specs.declared.request.Request.TheVariants.{Get}
use Rattle.call_types.specs.declared.request.Request.TheVariants as requests
use Rattle.call_types.specs.declared.request.SeatKind.TheVariants as seats
use Rattle.binder_model.specs.Reading.{follows}
use Rattle.worker_core.specs.Stands.{HasNoNews}
use Rattle.actor_rounds.specs.Answers.Answered.{all_pass}
use Rattle.actor_turns.specs.declared.loss.Fate.TheVariants.{Told}
use Rattle.actor_turns.specs.declared.part.Part.{Part}
use Rattle.actor_turns.specs.Fates.{fate_of}
use Rattle.actor_turns.specs.Calls.{AreCalls, IsCall, IsCallWith, MayEnd, MoreCalls, NoCalls, seat_at}
use Rattle.run_examples.specs.Replay.Calls.{CallExamples, EndExamples, SeatExamples, holds_lists, is_refused, lists, part, reads, some_key, watches, whole_pass}

pub seat_cases : SeatExamples
seat_cases = record {
  the_first_life = refl;
  after_one_call_the_next = refl;
  for_two_calls = refl;
  after_three_calls_the_last = refl;
  and_no_other_after_it = refl;
  not_before_its_time = λ (e : 6 ≡ 7). absurd (omega (arith, e));
}

-- ---- calls

abbrev first_seat : List Entry → ℕ
first_seat [] = 0
first_seat (e ∷ es) = e.seat

abbrev first_told : List Entry → Bool
first_told [] = true
first_told (e ∷ es) = e.told

-- one entry of this seat, whose answer was told
pub record LeavesOne (seat : ℕ) (past : List Entry) : Type 0 where
  pub entry : Entry
  pub are : past ≡ entry ∷ []
  pub of_seat : entry.seat ≡ seat
  pub was_told : entry.told ≡ true

abbrev first_request : List Entry → Request
first_request [] = Get some_key
first_request (e ∷ es) = e.request

-- a call of the first life that was told
abbrev entry_of : Request → Reply → Entry
entry_of request reply = record { seat = 5; kind = seats.Binder; request = request; reply = reply; told = true }

pub none_left : (p : Part) (new : List Entry) (n count : ℕ) (past : List Entry) → count ≡ 0 → AreCalls all_pass [] p new n count past → new ≡ past
none_left p new n count past none (NoCalls is are) = are
none_left p new n count past none (MoreCalls rest middle is call more) = absurd (omega (arith, is, none))

pub one_call : (p : Part) (new : List Entry) (n count : ℕ) (past : List Entry) → fate_of p.losses 1 ≡ Told → n ≡ 1 → count ≡ 1 → past ≡ []
    → AreCalls all_pass [] p new n count past → LeavesOne (seat_at p 1) new
one_call p new n count past fate at one none (NoCalls is are) = absurd (omega (arith, is, one))
one_call p new n count past fate at one none (MoreCalls rest middle is call more) =
    let first : IsCall all_pass [] p 1 [] middle = subst (λ m. IsCall all_pass [] p m [] middle) at (subst (λ h. IsCall all_pass [] p n h middle) none call) in
    let told : IsCallWith all_pass Told (seat_at p 1) p.kind [] middle = subst (λ f. IsCallWith all_pass f (seat_at p 1) p.kind [] middle) fate first in
    record { entry = _; are = none_left p new (n + 1) rest middle (omega (arith, is, one)) more ∙ told.is; of_seat = refl; was_told = refl }

pub call_cases : CallExamples
call_cases = record {
  told = record { request = Get some_key; reply = Refused NotFound; passes = refl; is = refl };
  not_of_the_next_life = λ h. let e : 6 ≡ 5 = ap first_seat h.is in absurd (omega (arith, e));
  not_lost = λ h. absurd (true≢false (sym (ap first_told h.is)));
  lost_after_its_effect = record { request = Get some_key; reply = Refused NotFound; passes = refl; is = refl };
  not_told = λ h. absurd (true≢false (ap first_told h.is));
  lost_before_its_effect = refl;
  without_an_entry = λ (h : reads 7 false ∷ [] ≡ []). absurd (cc);
  four_calls =
      MoreCalls {n = 1} {past = []} 3 (reads 5 true ∷ []) refl (record { request = Get some_key; reply = Refused NotFound; passes = refl; is = refl })
      (MoreCalls {n = 2} {past = reads 5 true ∷ []} 2 (reads 6 false ∷ reads 5 true ∷ []) refl (record { request = Get some_key; reply = Refused NotFound; passes = refl; is = refl })
      (MoreCalls {n = 3} {past = reads 6 false ∷ reads 5 true ∷ []} 1 (reads 6 true ∷ reads 6 false ∷ reads 5 true ∷ []) refl
      (record { request = Get some_key; reply = Refused NotFound; passes = refl; is = refl })
      (MoreCalls {n = 4} {past = reads 6 true ∷ reads 6 false ∷ reads 5 true ∷ []} 0 (reads 6 true ∷ reads 6 false ∷ reads 5 true ∷ []) refl refl (NoCalls refl refl))));
  no_call_without_its_entry = λ h. let are = (one_call part [] 1 1 [] refl refl refl refl h).are in absurd (cc);
  held_back = record { request = requests.List kinds.PersistentVolume None; licensed = (tt, (refl, tt)); held = refl; is = refl };
  which_leaves_no_entry = λ h. let e : lists kinds.PersistentVolume ∷ [] ≡ [] = h.is in absurd (cc);
  not_what_passes = λ h. absurd (true≢false h.held);
  nor_let_through_what_does_not = λ h. let asked : h.request ≡ requests.List kinds.PersistentVolume None = sym (ap first_request h.is) in
      absurd (true≢false (sym h.passes ∙ ap (λ r. holds_lists [] r) asked));
  not_another_call = λ h. let e : [] ≡ entry_of h.request h.reply ∷ [] = h.is in absurd (cc);
}

-- ---- how a turn may end

whole : (k : Kind) → follows seats.Binder k ≡ true → HasNoNews k whole_pass
whole kinds.PersistentVolume follows_it = refl
whole kinds.PersistentVolumeClaim follows_it = refl
whole kinds.StorageClass follows_it = refl
whole kinds.Node follows_it = absurd (true≢false (sym follows_it))
whole kinds.Pod follows_it = absurd (true≢false (sym follows_it))

after_a_read : (k : Kind) → follows seats.Binder k ≡ true → HasNoNews k (reads 5 true ∷ whole_pass)
after_a_read kinds.PersistentVolume follows_it = refl
after_a_read kinds.PersistentVolumeClaim follows_it = refl
after_a_read kinds.StorageClass follows_it = refl
after_a_read kinds.Node follows_it = absurd (true≢false (sym follows_it))
after_a_read kinds.Pod follows_it = absurd (true≢false (sym follows_it))

-- a binder's turn does not end where a kind has news
not_ended : (earlier mine : List Entry) (k : Kind) → follows seats.Binder k ≡ true → ((recent : List Entry) → mine ≡ recent ++ earlier → HasNoNews k recent → ⊥) → MayEnd seats.Binder earlier mine → ⊥
not_ended earlier mine k follows_it news (inl quiet) = news quiet.recent quiet.are (quiet.quiet k follows_it)
not_ended earlier mine k follows_it news (inr stale) = let agent : seats.Binder ≡ seats.Agent = stale.0 in absurd (cc)

pub has_news : (mine : List Entry) (k : Kind) → follows seats.Binder k ≡ true → (HasNoNews k mine → ⊥) → MayEnd seats.Binder [] mine → ⊥
has_news mine k follows_it news end = not_ended [] mine k follows_it (λ recent are none. news (subst (HasNoNews k) (sym (are ∙ append-nil recent)) none)) end

nothing_since : (recent earlier : List Entry) → earlier ≡ recent ++ earlier → HasNoNews kinds.StorageClass recent → ⊥
nothing_since [] earlier are none = none
nothing_since (e ∷ recent) earlier are none =
    let long : length earlier ≡ length (e ∷ recent ++ earlier) = ap length are in
    let both = length-append recent earlier in
    absurd (omega (arith, long, both))

not_told : MayEnd seats.Agent [] (is_refused false ∷ []) → ⊥
not_told (inl quiet) = subst (HasNoNews kinds.Pod) (sym (quiet.are ∙ append-nil quiet.recent)) (quiet.quiet kinds.Pod refl)
not_told (inr stale) = elim stale.1 [ inl told ↦ absurd (true≢false (sym told.0)) | inr none ↦ none ]

pub end_cases : EndExamples
end_cases = record {
  after_a_whole_pass = inl (record { recent = whole_pass; are = refl; quiet = whole });
  later_reads_change_nothing = inl (record { recent = reads 5 true ∷ whole_pass; are = refl; quiet = after_a_read });
  not_at_once = has_news [] kinds.StorageClass refl (λ none. none);
  not_before_the_pass_is_whole = has_news (watches kinds.PersistentVolumeClaim ∷ watches kinds.PersistentVolume ∷ []) kinds.StorageClass refl (λ none. none);
  not_where_a_list_came_after_it = has_news (lists kinds.StorageClass ∷ whole_pass) kinds.StorageClass refl (λ none. none);
  not_by_the_pass_of_an_earlier_turn = not_ended whole_pass whole_pass kinds.StorageClass refl (λ recent are none. nothing_since recent whole_pass are none);
  where_an_agent_is_stale = inr (refl, inl (refl, refl));
  and_at_once_from_then_on = inr (refl, inl (refl, refl));
  not_where_it_was_not_told = not_told;
  not_of_another_kind = has_news (is_refused true ∷ []) kinds.StorageClass refl (λ none. none);
}
