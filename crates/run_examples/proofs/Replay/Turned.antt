-- The examples of turns compute.
use Rattle.std.proofs.Common.{◌≡◌, ◌≤◌, ◌<◌, ℕ, ◌+◌, List, [], ◌∷◌, length, Bool, true, false, true≢false, Some, None, inl, inr, refl, sym, ap, subst, arith}
use Rattle.call_types.specs.declared.entry.Entry.{Entry}
use Rattle.call_types.specs.declared.request.SeatKind.{SeatKind}
use Rattle.call_types.specs.declared.request.SeatKind.TheVariants as seats
use Rattle.call_types.specs.declared.request.Request.{Request}
use Rattle.call_types.specs.declared.request.Request.TheVariants as requests
use Rattle.kube_parts.specs.declared.parts.Kind.TheVariants as kinds
use Rattle.attention_law.specs.Diligence.{entries}
use Rattle.binder_model.specs.Told.{own}
use Rattle.actor_turns.specs.declared.loss.Fate.{Fate}
use Rattle.actor_turns.specs.declared.loss.Fate.TheVariants.{Told, LostBefore, LostAfter}
use Rattle.actor_turns.specs.declared.part.Part.{Part}
use Rattle.actor_turns.specs.Fates.{fate_of}
use Rattle.actor_turns.specs.Calls.{AreCalls, IsCallWith, MayEnd, MoreCalls, NoCalls, seat_at}
use Rattle.actor_turns.specs.Lives.{IsPlayedLife}
use Rattle.actor_turns.proofs.Diligent.{idle_lives_may_end}
use Rattle.script_runs.specs.Examples.{binder_1}
use Rattle.script_runs.specs.Parts.{role_of}
use Rattle.script_runs.specs.Replays.{IsTurnLine, Progress, first_progress}
use Rattle.run_examples.specs.Replay.Calls.{told_calls, watches, whole_pass}
use Rattle.run_examples.specs.Replay.Replays.{FewerExamples, after_a_pass, plain_part}
use Rattle.run_examples.proofs.Replay.Counted.{end_cases}
use Rattle.run_examples.proofs.Replay.Played.{last_lists}
use Rattle.actor_rounds.specs.Answers.Answered.{all_pass}

-- ---- calls leave entries

call_grows : (fate : Fate) (seat : ℕ) (kind : SeatKind) (past new : List Entry) → IsCallWith all_pass fate seat kind past new → length past ≤ length new
call_grows Told seat kind past new call = let long = ap length call.is in omega (arith, long)
call_grows LostAfter seat kind past new call = let long = ap length call.is in omega (arith, long)
call_grows LostBefore seat kind past new call = let long = ap length call in omega (arith, long)

calls_grow : (p : Part) (new : List Entry) (n count : ℕ) (past : List Entry) → AreCalls all_pass [] p new n count past → length past ≤ length new
calls_grow p new n count past (NoCalls is are) = let long = ap length are in omega (arith, long)
calls_grow p new n count past (MoreCalls rest middle is call more) =
    let here = call_grows (fate_of p.losses n) (seat_at p n) p.kind past middle call in
    let later = calls_grow p new (n + 1) rest middle more in
    omega (arith, here, later)

-- where the first is told there is an entry more
told_grows : (p : Part) (new : List Entry) (n count : ℕ) (past : List Entry) → fate_of p.losses n ≡ Told → 0 < count → AreCalls all_pass [] p new n count past → length past < length new
told_grows p new n count past fate some (NoCalls is are) = absurd (omega (arith, is, some))
told_grows p new n count past fate some (MoreCalls rest middle is call more) =
    let told : IsCallWith all_pass Told (seat_at p n) p.kind past middle = subst (λ f. IsCallWith all_pass f (seat_at p n) p.kind past middle) fate call in
    let here = ap length told.is in
    let later = calls_grow p new (n + 1) rest middle more in
    omega (arith, here, later)

-- ---- turns

abbrev is_list : Request → Bool
is_list (requests.List kind namespace) = true
is_list request = false

-- its first call is not the watch of a kind that it did not list
no_lists : IsTurnLine all_pass [] (role_of binder_1) plain_part 9 (first_progress None []) after_a_pass → ⊥
no_lists (inl all) = let e : told_calls whole_pass ≡ [] = ap (λ (p : Progress). p.idle 5) all.is in absurd (cc)
no_lists (inr fewer) =
    let past : fewer.past ≡ whole_pass = sym (ap (λ (p : Progress). p.past) fewer.is) in
    let made : 0 + fewer.count ≡ 3 = sym (ap (λ (p : Progress). p.made plain_part.name) fewer.is) in
    let life : IsPlayedLife [] (role_of binder_1) plain_part 5 (0 + fewer.count) fewer.past [] = fewer.lives 5 (omega arith) (omega arith) in
    let its : IsPlayedLife [] (role_of binder_1) plain_part 5 3 whole_pass [] =
    subst (λ n. IsPlayedLife [] (role_of binder_1) plain_part 5 n whole_pass []) made (subst (λ h. IsPlayedLife [] (role_of binder_1) plain_part 5 (0 + fewer.count) h []) past life) in
    absurd (true≢false (sym (ap is_list (last_lists plain_part 5 3 whole_pass
    (Some (watches kinds.StorageClass) ∷ Some (watches kinds.PersistentVolumeClaim) ∷ []) [] (watches kinds.PersistentVolume) [] (record { of_seat = refl; left = refl }) refl its))))

all_three : IsTurnLine all_pass [] (role_of binder_1) plain_part 3 (first_progress None []) after_a_pass → ⊥
all_three (inl all) = let e : told_calls whole_pass ≡ [] = ap (λ (p : Progress). p.idle 5) all.is in absurd (cc)
all_three (inr fewer) =
    let same : 3 ≡ 0 + fewer.count = ap (λ (p : Progress). p.made plain_part.name) fewer.is in
    let few = fewer.few in
    absurd (omega (arith, same, few))

no_call : IsTurnLine all_pass [] (role_of binder_1) plain_part 9 after_a_pass after_a_pass → ⊥
no_call (inl all) =
    let same : 3 ≡ length all.past = ap (λ (p : Progress). length p.past) all.is in
    let more : 3 < length all.past = told_grows plain_part all.past 4 9 whole_pass refl (omega arith) all.made in
    absurd (omega (arith, same, more))
no_call (inr fewer) =
    let past : whole_pass ≡ fewer.past = ap (λ (p : Progress). p.past) fewer.is in
    let seat : fewer.seat ≡ 5 = fewer.life in
    let may = idle_lives_may_end [] (role_of binder_1) plain_part fewer.seat (3 + fewer.count) fewer.past (after_a_pass.idle fewer.seat) fewer.since tt fewer.ends in
    let ends : MayEnd seats.Binder (entries (after_a_pass.idle fewer.seat)) (own fewer.seat whole_pass) =
    subst (λ h. MayEnd seats.Binder (entries (after_a_pass.idle fewer.seat)) (own fewer.seat h)) (sym past) may in
    absurd (end_cases.not_by_the_pass_of_an_earlier_turn (subst (λ s. MayEnd seats.Binder (entries (after_a_pass.idle s)) (own s whole_pass)) seat ends))

pub fewer_cases : FewerExamples
fewer_cases = record { not_without_its_lists = no_lists; not_where_three_were_asked = all_three; the_next_begins_with_a_call = no_call }
