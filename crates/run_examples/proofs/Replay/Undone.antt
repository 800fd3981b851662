-- The examples of what turns may not leave undone compute.
use Rattle.std.proofs.Common.{◌≡◌, ℕ, ◌<◌, ◌≤◌, ◌+◌, List, [], ◌∷◌, ◌++◌, length, true, false, true≢false, Some, None, inl, inr, refl, sym, ◌∙◌, ap, subst, append-nil, arith}
use Rattle.kube_objects.specs.declared.key.Key.{Key}
use Rattle.kube_parts.specs.declared.parts.Kind.{Kind}
use Rattle.kube_parts.specs.declared.parts.Kind.TheVariants as kinds
use Rattle.kube_parts.specs.declared.parts.VolumePhase.TheVariants as volumes
use Rattle.kube_objects.specs.declared.objects.Object.{Object}
use Rattle.kube_objects.specs.declared.objects.Object.TheVariants.{Volume}
use Rattle.kube_objects.specs.Keys.{row_at}
use Rattle.call_types.specs.declared.entry.Entry.{Entry}
use Rattle.call_types.specs.declared.request.SeatKind.TheVariants as seats
use Rattle.binder_model.specs.Told.{newest, object_of, own}
use Rattle.volume_sync.specs.VolumeDecision.{volume_decision}
use Rattle.binder_machines.specs.declared.machine.Machine.TheVariants.{Frees}
use Rattle.binder_machines.specs.Machines.{call_of, write_phase}
use Rattle.model_examples.specs.Samples.{key_a}
use Rattle.worker_core.specs.declared.role.Role.{Role}
use Rattle.worker_core.specs.declared.task.Task.TheVariants as tasks
use Rattle.worker_core.specs.declared.task.Under.{Under}
use Rattle.attention_law.specs.Diligence.{Call, IsDueThroughout, IsKeyDue}
use Rattle.attention_law.specs.Resting.{AreNeeded, Brings, IsDone, IsSilentOnceStale, WasCalledSince}
use Rattle.attention_law.proofs.Dues.{asked_no_read, never_due}
use Rattle.attention_law.proofs.Showings.{one_showing}
use Rattle.actor_turns.specs.declared.loss.Fate.TheVariants.{Told}
use Rattle.actor_turns.specs.declared.loss.Loss.{Loss}
use Rattle.actor_turns.specs.declared.part.Part.{Part}
use Rattle.actor_turns.specs.Fates.{fate_of}
use Rattle.script_runs.specs.Examples.{binder_1}
use Rattle.script_runs.specs.Parts.{role_of}
use Rattle.actor_turns.specs.Calls.{AreCalls, AreOfLife, IsCallWith, MoreCalls, NoCalls, seat_at}
use Rattle.actor_turns.specs.Diligent.{IsNeededLife}
use Rattle.actor_turns.specs.Lives.{IsIdleLife, IsPlayedLife}
use Rattle.actor_turns.proofs.Diligent.{idle_lives_are_done, played_lives_are_needed}
use Rattle.script_runs.specs.Replays.{IsTurnLine, Progress, first_progress}
use Rattle.run_examples.specs.Replay.Calls.{told_calls, watches, whole_pass}
use Rattle.run_examples.specs.Replay.Replays.{plain_part}
use Rattle.run_examples.specs.Replay.Turns.{
  DoneExamples,
  LeftExamples,
  NeededExamples,
  NextLifeExamples,
  StaleExamples,
  agent_n,
  agent_part,
  is_stale,
  lists,
  lost_node,
  made_fewer,
  only_watches,
  pending_a,
  restarted_after,
  restarted_late,
  six,
  takes,
}
use Rattle.run_examples.proofs.Replay.Brought.{AreBrought, brought_at, no_binder_is_stale, only_life, silent_binder, watch_brings_none}
use Rattle.run_examples.proofs.Replay.Played.{never_idle, same_calls}
use Rattle.actor_rounds.specs.Answers.Answered.{all_pass}
use Rattle.machine_examples.proofs.Life.Computed.{listed_object as listed_row}

-- ---- of an actor that loses no call

told_count : (p : Part) (new : List Entry) (n count : ℕ) (past : List Entry) → p.losses ≡ [] → AreCalls all_pass [] p new n count past → length new ≡ length past + count
told_count p new n count past none (NoCalls is are) = let long = ap length are in omega (arith, is, long)
told_count p new n count past none (MoreCalls rest middle is call more) =
    let told : IsCallWith all_pass Told (seat_at p n) p.kind past middle = subst (λ (losses : List Loss). IsCallWith all_pass (fate_of losses n) (seat_at p n) p.kind past middle) none call in
    let here = ap length told.is in
    let later = told_count p new (n + 1) rest middle none more in
    omega (arith, is, here, later)

-- its calls are those of its entries
told_life : (p : Part) (seat made : ℕ) (past expected : List Entry) (since before : List Call) → AreOfLife [] p seat made past (since ++ before)
    → before ≡ [] → AreOfLife [] p seat made past (told_calls expected) → since ≡ told_calls expected
told_life p seat made past expected since before are none life =
    sym (append-nil since) ∙ ap (λ c. since ++ c) (sym none) ∙ same_calls (since ++ before) (told_calls expected) (are.of_seat ∙ sym life.of_seat) (are.left ∙ sym life.left)

-- ---- a life that is idle after six calls, and one that goes on

list_brings_none : (kind : Kind) (key : Key) → Brings key (lists kind []) → ⊥
list_brings_none kind key brings = true≢false (sym brings.has)

abbrev binder : Role
binder = role_of binder_1

its_six : AreOfLife [] plain_part 5 6 six (told_calls six)
its_six = record { of_seat = refl; left = refl }

six_calls : AreCalls all_pass [] plain_part six 1 6 []
six_calls =
    MoreCalls {n = 1} {past = []} 5 (lists kinds.PersistentVolume [] ∷ []) refl (record { request = _; reply = _; passes = refl; is = refl })
    (MoreCalls {n = 2} {past = lists kinds.PersistentVolume [] ∷ []} 4
    (lists kinds.PersistentVolumeClaim [] ∷ lists kinds.PersistentVolume [] ∷ []) refl (record { request = _; reply = _; passes = refl; is = refl })
    (MoreCalls {n = 3} {past = lists kinds.PersistentVolumeClaim [] ∷ lists kinds.PersistentVolume [] ∷ []} 3
    (lists kinds.StorageClass [] ∷ lists kinds.PersistentVolumeClaim [] ∷ lists kinds.PersistentVolume [] ∷ []) refl (record { request = _; reply = _; passes = refl; is = refl })
    (MoreCalls {n = 4} {past = lists kinds.StorageClass [] ∷ lists kinds.PersistentVolumeClaim [] ∷ lists kinds.PersistentVolume [] ∷ []} 2
    (watches kinds.PersistentVolume ∷ lists kinds.StorageClass [] ∷ lists kinds.PersistentVolumeClaim [] ∷ lists kinds.PersistentVolume [] ∷ [])
    refl (record { request = _; reply = _; passes = refl; is = refl })
    (MoreCalls {n = 5} {past = watches kinds.PersistentVolume ∷ lists kinds.StorageClass [] ∷ lists kinds.PersistentVolumeClaim [] ∷ lists
    kinds.PersistentVolume [] ∷ []} 1 (watches kinds.PersistentVolumeClaim ∷ watches kinds.PersistentVolume ∷ lists kinds.StorageClass [] ∷ lists
    kinds.PersistentVolumeClaim [] ∷ lists kinds.PersistentVolume [] ∷ []) refl (record { request = _; reply = _; passes = refl; is = refl })
    (MoreCalls {n = 6} {past = watches kinds.PersistentVolumeClaim ∷ watches kinds.PersistentVolume ∷ lists kinds.StorageClass [] ∷ lists
    kinds.PersistentVolumeClaim [] ∷ lists kinds.PersistentVolume [] ∷ []} 0 six refl (record { request = _; reply = _; passes = refl; is = refl })
    (NoCalls refl refl))))))

one_more : (after : Progress) → after.past ≡ watches kinds.PersistentVolume ∷ six → IsTurnLine all_pass [] (role_of binder_1) plain_part 7 (first_progress None []) after → ⊥
one_more after at (inl all) =
    let past : all.past ≡ watches kinds.PersistentVolume ∷ six = sym (ap (λ (p : Progress). p.past) all.is) ∙ at in
    let low : 5 ≤ 5 = omega arith in
    let high : 5 < 5 + 1 = omega arith in
    let life : IsNeededLife [] (role_of binder_1) plain_part 5 7 all.past [] =
    played_lives_are_needed [] (role_of binder_1) plain_part 5 7 all.past [] (all.lives 5 low high) in
    let since = told_life plain_part 5 7 all.past (watches kinds.PersistentVolume ∷ six) life.since [] life.are refl
    (subst (λ h. AreOfLife [] plain_part 5 7 h (told_calls (watches kinds.PersistentVolume ∷ six))) (sym past) (record { of_seat = refl; left = refl })) in
    (subst (AreNeeded seats.Binder) since life.needed).1 refl (record { whole = refl; quiet = refl })
one_more after at (inr fewer) =
    let past : length fewer.past ≡ 7 = ap length (sym (ap (λ (p : Progress). p.past) fewer.is) ∙ at) in
    let count : length fewer.past ≡ 0 + fewer.count = told_count plain_part fewer.past 1 fewer.count [] refl fewer.made in
    let few = fewer.few in
    absurd (omega (arith, past, count, few))

pub needed_cases : NeededExamples
needed_cases = record {
  as_many_as_its_actor_gives = λ lives. inl (record { past = six; made = six_calls; lives = lives; is = refl });
  not_one_more = one_more;
}

-- ---- a pending volume is due

abbrev rows : List Object
rows = Volume pending_a ∷ []

pending_due : (mine : List Entry) → ((key : Key) → row_at key rows ≡ object_of (newest mine key)) → IsKeyDue binder key_a mine
unfolding volume_decision call_of
pending_due mine shown = one_showing binder key_a mine rows under tt (record { order = (tt, tt); shown = shown }) tt refl (record { decided = refl; call = refl })
  where
    under : Under
    under = record { key = key_a; task = tasks.Binder (Frees pending_a); call = write_phase pending_a volumes.Available }

abbrev list_a : Entry
list_a = lists kinds.PersistentVolume (Volume pending_a ∷ [])

abbrev Shown : List Entry → Kind → List ℕ → List ℕ → Type 0
Shown mine kind namespace name = row_at (record { kind = kind; namespace = namespace; name = name }) rows ≡ object_of (newest mine (record { kind = kind; namespace = namespace; name = name }))

shown_one : (kind : Kind) (namespace name : List ℕ) → Shown (list_a ∷ []) kind namespace name
shown_one kinds.PersistentVolume namespace name = sym (listed_row 1 (row_at (record { kind = kinds.PersistentVolume; namespace = namespace; name = name }) rows))
shown_one kinds.PersistentVolumeClaim namespace name = refl
shown_one kinds.StorageClass namespace name = refl
shown_one kinds.Node namespace name = refl
shown_one kinds.Pod namespace name = refl

shown_two : (kind : Kind) (namespace name : List ℕ) → Shown (lists kinds.PersistentVolumeClaim [] ∷ list_a ∷ []) kind namespace name
shown_two kinds.PersistentVolume namespace name = shown_one kinds.PersistentVolume namespace name
shown_two kinds.PersistentVolumeClaim namespace name = refl
shown_two kinds.StorageClass namespace name = refl
shown_two kinds.Node namespace name = refl
shown_two kinds.Pod namespace name = refl

shown_three : (kind : Kind) (namespace name : List ℕ) → Shown (lists kinds.StorageClass [] ∷ lists kinds.PersistentVolumeClaim [] ∷ list_a ∷ []) kind namespace name
shown_three kinds.PersistentVolume namespace name = shown_one kinds.PersistentVolume namespace name
shown_three kinds.PersistentVolumeClaim namespace name = refl
shown_three kinds.StorageClass namespace name = refl
shown_three kinds.Node namespace name = refl
shown_three kinds.Pod namespace name = refl

-- it is so at each point from the list on, whatever watches without events come later

due_one : IsKeyDue binder key_a (list_a ∷ [])
due_one = pending_due _ (λ key. shown_one key.kind key.namespace key.name)

due_two : IsKeyDue binder key_a (lists kinds.PersistentVolumeClaim [] ∷ list_a ∷ [])
due_two = pending_due _ (λ key. shown_two key.kind key.namespace key.name)

due_three : IsKeyDue binder key_a (lists kinds.StorageClass [] ∷ lists kinds.PersistentVolumeClaim [] ∷ list_a ∷ [])
due_three = pending_due _ (λ key. shown_three key.kind key.namespace key.name)

due_four : IsKeyDue binder key_a (watches kinds.PersistentVolume ∷ lists kinds.StorageClass [] ∷ lists kinds.PersistentVolumeClaim [] ∷ list_a ∷ [])
due_four = pending_due _ (λ key. shown_three key.kind key.namespace key.name)

due_five : IsKeyDue binder key_a (watches kinds.PersistentVolumeClaim ∷ watches kinds.PersistentVolume ∷ lists kinds.StorageClass [] ∷ lists kinds.PersistentVolumeClaim [] ∷ list_a ∷ [])
due_five = pending_due _ (λ key. shown_three key.kind key.namespace key.name)

due_six : IsKeyDue binder key_a only_watches
due_six = pending_due _ (λ key. shown_three key.kind key.namespace key.name)

abbrev newer : List Call
newer = Some (watches kinds.StorageClass) ∷ Some (watches kinds.PersistentVolumeClaim) ∷ Some (watches kinds.PersistentVolume) ∷ Some
    (lists kinds.StorageClass []) ∷ Some (lists kinds.PersistentVolumeClaim []) ∷ []

-- it was not called for by a list or a watch, whatever calls came before
none_called : (start : List Call) → WasCalledSince binder key_a start newer → ⊥
none_called start (inl asked) = asked_no_read binder key_a _ (watches kinds.StorageClass).request kinds.StorageClass refl asked
none_called start (inr (inl asked)) = asked_no_read binder key_a _ (watches kinds.PersistentVolumeClaim).request kinds.PersistentVolumeClaim refl asked
none_called start (inr (inr (inl asked))) = asked_no_read binder key_a _ (watches kinds.PersistentVolume).request kinds.PersistentVolume refl asked
none_called start (inr (inr (inr (inl asked)))) = asked_no_read binder key_a _ (lists kinds.StorageClass []).request kinds.StorageClass refl asked
none_called start (inr (inr (inr (inr (inl asked))))) = asked_no_read binder key_a _ (lists kinds.PersistentVolumeClaim []).request kinds.PersistentVolumeClaim refl asked
none_called start (inr (inr (inr (inr (inr none))))) = none

brings_a : Brings key_a list_a
brings_a = record { kind = kinds.PersistentVolume; reads = refl; told = refl; has = refl }

left_a : (since : List Call) → since ≡ told_calls only_watches → IsDone binder [] since → ⊥
left_a since is done = none_called (Some list_a ∷ []) (done.brought key_a list_a newer [] is brings_a (due_six, (due_five, (due_four, (due_three, (due_two, due_one))))))

lost_earlier : IsDone binder [] (newer ++ (Some list_a ∷ None ∷ [])) → ⊥
lost_earlier done = none_called (Some list_a ∷ None ∷ []) (done.brought key_a list_a newer (None ∷ []) refl brings_a (due_six, (due_five, (due_four, (due_three, (due_two, due_one))))))

left_told : (after : Progress) → after.past ≡ only_watches → IsTurnLine all_pass [] (role_of binder_1) plain_part 50 (first_progress None []) after → ⊥
left_told after at (inl all) =
    let past : length all.past ≡ 6 = ap length (sym (ap (λ (p : Progress). p.past) all.is) ∙ at) in
    let count : length all.past ≡ 0 + 50 = told_count plain_part all.past 1 50 [] refl all.made in
    absurd (omega (arith, past, count))
left_told after at (inr fewer) =
    let past : fewer.past ≡ only_watches = sym (ap (λ (p : Progress). p.past) fewer.is) ∙ at in
    let long : length fewer.past ≡ 6 = ap length past in
    let count : length fewer.past ≡ 0 + fewer.count = told_count plain_part fewer.past 1 fewer.count [] refl fewer.made in
    let made : 0 + fewer.count ≡ 6 = omega (arith, long, count) in
    let seat : fewer.seat ≡ 5 = fewer.life in
    let its : AreOfLife [] plain_part fewer.seat (0 + fewer.count) fewer.past (told_calls only_watches) =
    subst (λ h. AreOfLife [] plain_part fewer.seat (0 + fewer.count) h (told_calls only_watches)) (sym past)
    (subst (λ n. AreOfLife [] plain_part fewer.seat n only_watches (told_calls only_watches)) (sym made)
    (subst (λ s. AreOfLife [] plain_part s 6 only_watches (told_calls only_watches)) (sym seat) (record { of_seat = refl; left = refl }))) in
    left_a fewer.since (told_life plain_part fewer.seat (0 + fewer.count) fewer.past only_watches fewer.since [] fewer.ends.are refl its)
    (idle_lives_are_done [] binder plain_part fewer.seat (0 + fewer.count) fewer.past [] fewer.since tt fewer.ends (no_binder_is_stale (own fewer.seat fewer.past)))

left_life : (since : List Call) → IsIdleLife [] (role_of binder_1) plain_part 5 6 only_watches [] since → ⊥
left_life since idle =
    left_a since (told_life plain_part 5 6 only_watches only_watches since [] idle.are refl (record { of_seat = refl; left = refl }))
    (idle_lives_are_done [] binder plain_part 5 6 only_watches [] since tt idle (no_binder_is_stale (own 5 only_watches)))

-- ---- lives that are done

-- nothing is due where nothing was told
nothing_due : (key : Key) → IsKeyDue binder key [] → ⊥
nothing_due key due = never_due binder key tt due

abbrev lossy : List Call
lossy = Some (watches kinds.StorageClass) ∷ Some (watches kinds.PersistentVolumeClaim) ∷ Some (watches kinds.PersistentVolume) ∷ None ∷ Some
    (lists kinds.StorageClass []) ∷ Some (lists kinds.PersistentVolumeClaim []) ∷ Some list_a ∷ []

done_lossy : IsDone binder [] lossy
done_lossy = record {
  passed = record { whole = refl; quiet = refl };
  brought = λ key e later earlier at brings due. brought_at binder [] [] lossy (
    (λ key brings due. absurd (watch_brings_none kinds.StorageClass key brings)),
    (
      (λ key brings due. absurd (watch_brings_none kinds.PersistentVolumeClaim key brings)),
      (
        (λ key brings due. absurd (watch_brings_none kinds.PersistentVolume key brings)),
        (
          (λ key brings due. absurd (list_brings_none kinds.StorageClass key brings)),
          ((λ key brings due. absurd (list_brings_none kinds.PersistentVolumeClaim key brings)), ((λ key brings due. inr (inr (inr tt))), tt)),
        ),
      ),
    ),
  )
      key e later earlier at brings due;
  due = λ key due. absurd (nothing_due key due.1.1.1.1.1.1.1);
}

six_end : IsIdleLife [] (role_of binder_1) plain_part 5 6 six [] (told_calls six) → IsTurnLine all_pass [] (role_of binder_1) plain_part 9 (first_progress None []) (made_fewer plain_part 6 six)
six_end idle = inr (record {
  count = 6;
  few = omega arith;
  past = six;
  made = six_calls;
  lives = λ seat low high. subst (λ s. IsPlayedLife [] (role_of binder_1) plain_part s 6 six []) (only_life seat low high)
      (record { since = told_calls six; are = idle.are; state = idle.state; played = idle.played });
  seat = 5;
  life = refl;
  since = told_calls six;
  ends = idle;
  is = refl;
})

pub left_cases : LeftExamples
left_cases = record {
  where_its_life_is_idle = six_end;
  not_where_a_life_is_left = left_life;
  not_where_a_told_key_is_left = left_told;
  a_lost_call_counts_for_it = done_lossy;
  not_one_lost_before_it_was_told = lost_earlier;
}

-- ---- a pass without events

-- it brings no key
quiet_brings : (before newer : List Call) → AreBrought binder before newer (told_calls whole_pass)
quiet_brings before newer = (
  λ key brings due. absurd (watch_brings_none kinds.StorageClass key brings),
  (λ key brings due. absurd (watch_brings_none kinds.PersistentVolumeClaim key brings), (λ key brings due. absurd (watch_brings_none kinds.PersistentVolume key brings), tt)),
)

done_quiet : IsDone binder [] (told_calls whole_pass)
done_quiet = record {
  passed = record { whole = refl; quiet = refl };
  brought = λ key e later earlier at brings due. brought_at binder [] [] (told_calls whole_pass) (quiet_brings [] []) key e later earlier at brings due;
  due = λ key due. absurd (nothing_due key due.1.1.1);
}

-- the volume that was told before is due at each point of it, and is not called for

due_later : (newer : List Entry) → ((kind : Kind) (namespace name : List ℕ) → Shown newer kind namespace name) → IsKeyDue binder key_a newer
due_later newer shown = pending_due newer (λ key. shown key.kind key.namespace key.name)

quiet_due : IsDueThroughout binder key_a (told_calls only_watches) (told_calls whole_pass)
quiet_due = (due_later _ shown_three, (due_later _ shown_three, (due_later _ shown_three, due_six)))

left_before : IsDone binder (told_calls only_watches) (told_calls whole_pass) → ⊥
left_before done = none_watched (done.due key_a quiet_due)
  where
    none_watched : WasCalledSince binder key_a (told_calls only_watches) (told_calls whole_pass) → ⊥
    none_watched (inl asked) = asked_no_read binder key_a _ (watches kinds.StorageClass).request kinds.StorageClass refl asked
    none_watched (inr (inl asked)) = asked_no_read binder key_a _ (watches kinds.PersistentVolumeClaim).request kinds.PersistentVolumeClaim refl asked
    none_watched (inr (inr (inl asked))) = asked_no_read binder key_a _ (watches kinds.PersistentVolume).request kinds.PersistentVolume refl asked
    none_watched (inr (inr (inr none))) = none

-- a call was lost before it
abbrev quiet_after_loss : List Call
quiet_after_loss = Some (watches kinds.StorageClass) ∷ Some (watches kinds.PersistentVolumeClaim) ∷ Some (watches kinds.PersistentVolume) ∷ None ∷ []

done_after_loss : IsDone binder (told_calls only_watches) quiet_after_loss
done_after_loss = record {
  passed = record { whole = refl; quiet = refl };
  brought = λ key e later earlier at brings due. brought_at binder (told_calls only_watches) [] quiet_after_loss (
    λ key brings due. absurd (watch_brings_none kinds.StorageClass key brings),
    (λ key brings due. absurd (watch_brings_none kinds.PersistentVolumeClaim key brings), (λ key brings due. absurd (watch_brings_none kinds.PersistentVolume key brings), tt)),
  )
      key e later earlier at brings due;
  due = λ key due. inr (inr (inr tt));
}

pub done_cases : DoneExamples
done_cases = record {
  after_a_whole_pass = done_quiet;
  not_at_once = λ done. true≢false (sym done.passed.whole);
  not_before_each_kind_was_watched = λ done. true≢false (sym done.passed.whole);
  not_where_the_pass_brought_an_event = λ done. true≢false done.passed.quiet;
  not_where_a_key_of_before_is_left = left_before;
  a_lost_call_since_counts_for_it = done_after_loss;
}

-- ---- the life that makes the next call

-- it has no calls yet
no_calls : AreOfLife [] restarted_late 6 6 six []
no_calls = record { of_seat = refl; left = refl }

new_life : (since : List Call) → IsIdleLife [] binder restarted_late 6 6 six [] since → ⊥
new_life since idle = never_idle restarted_late 6 6 six since (told_life restarted_late 6 6 six [] since [] idle.are refl no_calls) idle

other_life : (after : Progress) → after.past ≡ six → IsTurnLine all_pass [] (role_of binder_1) restarted_late 9 (first_progress None []) after → ⊥
other_life after at (inl all) =
    let past : length all.past ≡ 6 = ap length (sym (ap (λ (p : Progress). p.past) all.is) ∙ at) in
    let count : length all.past ≡ 0 + 9 = told_count restarted_late all.past 1 9 [] refl all.made in
    absurd (omega (arith, past, count))
other_life after at (inr fewer) =
    let past : fewer.past ≡ six = sym (ap (λ (p : Progress). p.past) fewer.is) ∙ at in
    let long : length fewer.past ≡ 6 = ap length past in
    let count : length fewer.past ≡ 0 + fewer.count = told_count restarted_late fewer.past 1 fewer.count [] refl fewer.made in
    let made : 0 + fewer.count ≡ 6 = omega (arith, long, count) in
    let seat : fewer.seat ≡ 6 = fewer.life ∙ ap (λ n. seat_at restarted_late (n + 1)) made in
    new_life fewer.since (subst (λ s. IsIdleLife [] binder restarted_late s 6 six [] fewer.since) seat
    (subst (λ n. IsIdleLife [] binder restarted_late fewer.seat n six [] fewer.since) made
    (subst (λ h. IsIdleLife [] binder restarted_late fewer.seat (0 + fewer.count) h [] fewer.since) past fewer.ends)))

earlier_needed : IsNeededLife [] binder restarted_late 5 7 six []
earlier_needed = record {
  since = told_calls six;
  are = record { of_seat = refl; left = refl };
  needed = (
    (((((tt, no_watch), no_watch), no_watch), λ is passed. true≢false (sym passed.whole)), λ is passed. true≢false (sym passed.whole)),
    λ is passed. true≢false (sym passed.whole),
  );
  silent = silent_binder (told_calls six ++ []);
}
  where
    no_watch : {passed : Type 0} → false ≡ true → passed → ⊥
    no_watch is passed = true≢false (sym is)

earlier_in_vain : IsNeededLife [] binder (restarted_after 7) 5 8 (watches kinds.PersistentVolume ∷ six) [] → ⊥
earlier_in_vain life =
    let since = told_life (restarted_after 7) 5 8 (watches kinds.PersistentVolume ∷ six) (watches kinds.PersistentVolume ∷ six) life.since [] life.are refl
    (record { of_seat = refl; left = refl }) in
    (subst (AreNeeded seats.Binder) since life.needed).1 refl (record { whole = refl; quiet = refl })

pub next_life_cases : NextLifeExamples
next_life_cases = record {
  each_call_of_an_earlier_life_was_needed = earlier_needed;
  not_a_watch_after_its_quiet_pass = earlier_in_vain;
  a_new_life_is_not_idle = new_life;
  not_where_an_earlier_life_is_idle = other_life;
}

-- ---- an agent

one_told : AreCalls all_pass [] agent_part (is_stale ∷ lost_node.past) 2 1 lost_node.past
one_told = MoreCalls {n = 2} {past = lost_node.past} 0 (is_stale ∷ lost_node.past) refl (record { request = _; reply = _; passes = refl; is = refl }) (NoCalls refl refl)

taken_back : (after : Progress) → after.past ≡ takes 5 3 ∷ is_stale ∷ lost_node.past → IsTurnLine all_pass [] (role_of agent_n) agent_part 2 lost_node after → ⊥
taken_back after at (inl all) =
    let past : all.past ≡ takes 5 3 ∷ is_stale ∷ lost_node.past = sym (ap (λ (p : Progress). p.past) all.is) ∙ at in
    let low : 5 ≤ 5 = omega arith in
    let high : 5 < 5 + 1 = omega arith in
    let life : IsNeededLife [] (role_of agent_n) agent_part 5 3 all.past [] =
    played_lives_are_needed [] (role_of agent_n) agent_part 5 3 all.past [] (all.lives 5 low high) in
    let since = told_life agent_part 5 3 all.past (takes 5 3 ∷ is_stale ∷ takes 5 1 ∷ []) life.since [] life.are refl
    (subst (λ h. AreOfLife [] agent_part 5 3 h (told_calls (takes 5 3 ∷ is_stale ∷ takes 5 1 ∷ []))) (sym past) (record { of_seat = refl; left = refl })) in
    let silent : IsSilentOnceStale seats.Agent (told_calls (takes 5 3 ∷ is_stale ∷ takes 5 1 ∷ [])) = subst (IsSilentOnceStale seats.Agent) (append-nil life.since ∙ since) life.silent in
    silent.1 (refl, inl (refl, refl))
taken_back after at (inr fewer) =
    let past : length fewer.past ≡ 4 = ap length (sym (ap (λ (p : Progress). p.past) fewer.is) ∙ at) in
    let count : length fewer.past ≡ 2 + fewer.count = told_count agent_part fewer.past 2 fewer.count lost_node.past refl fewer.made in
    let few = fewer.few in
    absurd (omega (arith, past, count, few))

pub stale_cases : StaleExamples
stale_cases = record {
  it_is_told_so = λ lives. inl (record { past = is_stale ∷ lost_node.past; made = one_told; lives = lives; is = refl });
  it_takes_no_node_back = taken_back;
}
