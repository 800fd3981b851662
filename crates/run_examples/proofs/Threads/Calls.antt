-- The examples of the calls of one actor compute.
use Rattle.std.proofs.Common.{◌≡◌, ℕ, ◌+◌, ◌<◌, ◌≤◌, Bool, true, false, true≢false, List, [], ◌∷◌, length, Some, None, inl, inr, refl, sym, ◌∙◌, ap, subst, arith}
use Rattle.kube_parts.specs.declared.parts.Kind.{Kind}
use Rattle.kube_parts.specs.declared.parts.Kind.TheVariants.{PersistentVolume, Pod}
use Rattle.call_types.specs.declared.entry.Entry.{Entry}
use Rattle.call_types.specs.declared.request.Request.TheVariants as requests
use Rattle.call_types.specs.declared.request.SeatKind.{SeatKind}
use Rattle.call_types.specs.declared.request.SeatKind.TheVariants as seats
use Rattle.binder_model.specs.Told.{own}
use Rattle.attention_law.specs.Diligence.{Call}
use Rattle.attention_law.specs.Resting.{IsPlayedSince}
use Rattle.worker_core.specs.States.{ActorState}
use Rattle.call_types.specs.declared.request.Request.{Request}
use Rattle.actor_turns.specs.Lives.{WasPlayed}
use Rattle.script_runs.specs.Parts.{role_of}
use Rattle.run_examples.specs.Replay.Calls.{some_key}
use Rattle.run_examples.proofs.Replay.Played.{binder_listed, binder_lost, binder_untold, list_volumes, was_first}
use Rattle.actor_rounds.specs.Rounds.{all_pass}
use Rattle.script_text.specs.declared.script.Line.{Line}
use Rattle.script_lines.specs.declared.actors.Actor.{Actor}
use Rattle.actor_turns.specs.declared.part.Part.{Part}
use Rattle.actor_turns.specs.Calls.{AreCalls, AreOfLife, IsCall, MoreCalls, NoCalls}
use Rattle.actor_turns.specs.Parts.{lives_of}
use Rattle.actor_work.specs.Work.Working.{HasWorked}
use Rattle.script_runs.specs.Examples.{binder_1}
use Rattle.script_threads.specs.Examples.{entry}
use Rattle.script_threads.specs.Started.{started_part}
use Rattle.script_threads.specs.Threads.{HasMadeCalls}
use Rattle.run_examples.specs.Threads.Calls.{HasMadeOne, LossExamples, MadeExamples, another_loses, listed, loses_first}
use Rattle.run_examples.specs.Threads.Works.{untold}

-- ---- cases that hold

-- an actor of one life that has made one call: its entries are those of its seat
pub one_made : (past mine : List Entry) (actor : Actor) (part : Part) (c : Call) (s : ActorState) → lives_of part ≡ 1 → AreCalls all_pass [] part mine 1 1 []
    → own part.first past ≡ own part.first mine → AreOfLife [] part part.first 1 past (c ∷ []) → IsPlayedSince (role_of actor) s [] (c ∷ []) → HasMadeCalls 1 past actor part
one_made past mine actor part c s one calls own_are are played = record {
  made = 1;
  mine = mine;
  calls_are = calls;
  own_are = λ seat life. subst (λ s. own s past ≡ own s mine) (at seat life.0 life.1) own_are;
  order = λ earlier later low lt high. absurd (omega (arith, low, lt, high, one));
  whole = inl refl;
  lives = λ seat life. record {
    before = [];
    life = record { since = c ∷ []; are = subst (λ n. AreOfLife [] part n 1 past (c ∷ [])) (at seat life.0 life.1) are; state = s; played = played };
  };
}
  where
    at : (seat : ℕ) → part.first ≤ seat → seat < part.first + lives_of part → part.first ≡ seat
    at seat low high = omega (arith, low, high, one)

-- one whose call was let through, with this entry
pub told_made : (past : List Entry) (actor : Actor) (part : Part) (e : Entry) (s : ActorState) → lives_of part ≡ 1 → IsCall all_pass [] part 1 [] (e ∷ [])
    → own part.first past ≡ own part.first (e ∷ []) → AreOfLife [] part part.first 1 past (Some e ∷ []) → IsPlayedSince (role_of actor) s [] (Some e ∷ []) → HasMadeCalls 1 past actor part
told_made past actor part e s one call own_are are played =
    one_made past (e ∷ []) actor part (Some e) s one (MoreCalls {n = 1} {past = []} 0 (e ∷ []) refl call (NoCalls refl refl)) own_are are played

-- ---- cases that do not

none_more : (part : Part) (new : List Entry) (n count : ℕ) (past : List Entry) → count ≡ 0 → AreCalls all_pass [] part new n count past → new ≡ past
none_more part new n count past none (NoCalls c is) = is
none_more part new n count past none (MoreCalls rest middle c call calls) = absurd (omega (arith, none, c))

pub first_call : (part : Part) (new : List Entry) (n count : ℕ) (past : List Entry) → n ≡ 1 → count ≡ 1 → past ≡ [] → AreCalls all_pass [] part new n count past → IsCall all_pass [] part 1 [] new
first_call part new n count past at one none (NoCalls c is) = absurd (omega (arith, one, c))
first_call part new n count past at one none (MoreCalls rest middle c call calls) =
    let last : new ≡ middle = none_more part new (n + 1) rest middle (omega (arith, one, c)) calls in
    subst (λ m. IsCall all_pass [] part m [] new) at (subst (λ h. IsCall all_pass [] part n h new) none (subst (IsCall all_pass [] part n past) (sym last) call))

-- it has made its one call, which left just the entries of its seat
pub its_call : (ls : List Line) (past : List Entry) → (did : HasMadeOne ls past) → IsCall all_pass [] (started_part ls binder_1 5) 1 [] did.mine
its_call ls past did = first_call (started_part ls binder_1 5) did.mine 1 did.made [] refl (all did.made did.whole) refl did.calls_are
  where
    all : (made : ℕ) → HasWorked (started_part ls binder_1 5) 1 made past → made ≡ 1
    all made (inl is) = is
    all made (inr fewer) = let agent : seats.Binder ≡ seats.Agent = fewer.1.0 in absurd (cc)

abbrev first_told : List Entry → Bool
first_told [] = true
first_told (e ∷ es) = e.told

abbrev first_kind : List Entry → SeatKind
first_kind [] = seats.Binder
first_kind (e ∷ es) = e.kind

abbrev is_binder : SeatKind → Bool
is_binder seats.Binder = true
is_binder kind = false

-- where no line loses it, it has one entry, told, as a binder

pub record HasOneTold (told : Bool) (mine : List Entry) : Type 0 where
  pub one : length mine ≡ 1
  pub of_kind : first_kind mine ≡ seats.Binder
  pub was_told : first_told mine ≡ told

told_one : (past : List Entry) → HasMadeOne [] past → HasOneTold true (own 5 past)
told_one past did =
    let call = its_call [] past did in
    let are = did.own_are 5 (omega arith, omega arith) ∙ ap (own 5) call.is in
    record { one = ap length are; of_kind = ap first_kind are; was_told = ap first_told are }

told_beside : (past : List Entry) → HasMadeOne (another_loses false) past → HasOneTold true (own 5 past)
told_beside past did =
    let call = its_call (another_loses false) past did in
    let are = did.own_are 5 (omega arith, omega arith) ∙ ap (own 5) call.is in
    record { one = ap length are; of_kind = ap first_kind are; was_told = ap first_told are }

lost_one : (past : List Entry) → HasMadeOne (loses_first true) past → HasOneTold false (own 5 past)
lost_one past did =
    let call = its_call (loses_first true) past did in
    let are = did.own_are 5 (omega arith, omega arith) ∙ ap (own 5) call.is in
    record { one = ap length are; of_kind = ap first_kind are; was_told = ap first_told are }

lost_none : (past : List Entry) → HasMadeOne (loses_first false) past → own 5 past ≡ []
lost_none past did =
    let call : did.mine ≡ [] = its_call (loses_first false) past did in
    did.own_are 5 (omega arith, omega arith) ∙ ap (own 5) call

-- its one call is the one with which a binder begins

abbrev is_volumes : Kind → Bool
is_volumes PersistentVolume = true
is_volumes kind = false

abbrev lists_volumes : Request → Bool
lists_volumes (requests.List kind namespace) = is_volumes kind
lists_volumes request = false

asked_first : (e : Entry) → HasMadeOne [] (e ∷ []) → AreOfLife [] (started_part [] binder_1 5) 5 1 (e ∷ []) (Some e ∷ []) → e.request ≡ list_volumes
asked_first e did are =
    let was : WasPlayed [] (role_of binder_1) (started_part [] binder_1 5) 5 did.made (e ∷ []) = did.lives 5 (omega arith, omega arith) in
    was_first (started_part [] binder_1 5) 5 (e ∷ []) e are (subst (λ n. WasPlayed [] (role_of binder_1) (started_part [] binder_1 5) 5 n (e ∷ [])) (all did.made did.whole) was)
  where
    all : (made : ℕ) → HasWorked (started_part [] binder_1 5) 1 made (e ∷ []) → made ≡ 1
    all made (inl is) = is
    all made (inr fewer) = let agent : seats.Binder ≡ seats.Agent = fewer.1.0 in absurd (cc)

pub made_cases : MadeExamples
made_cases = record {
  one_call = told_made _ binder_1 (started_part [] binder_1 5) listed _ refl (record { request = _; reply = _; passes = refl; is = refl }) refl (record { of_seat = refl; left = refl }) binder_listed;
  not_one_in_vain = λ did. absurd (true≢false (sym (ap lists_volumes (asked_first (record listed { request = requests.Get some_key }) did (record { of_seat = refl; left = refl })))));
  not_a_list_of_another_kind = λ did. absurd (true≢false (sym (ap lists_volumes (asked_first (entry 5 seats.Binder Pod) did (record { of_seat = refl; left = refl })))));
  others_call_between = told_made _ binder_1 (started_part [] binder_1 5) listed _ refl (record { request = _; reply = _; passes = refl; is = refl })
      refl (record { of_seat = refl; left = refl }) binder_listed;
  none_is_too_few = λ did. let one : 0 ≡ 1 = (told_one [] did).one in absurd (omega (arith, one));
  two_are_too_many = λ did. let one : 2 ≡ 1 = (told_one (listed ∷ listed ∷ []) did).one in absurd (omega (arith, one));
  not_at_anothers_seat = λ did. let one : 0 ≡ 1 = (told_one (entry 6 seats.Binder PersistentVolume ∷ []) did).one in absurd (omega (arith, one));
  not_as_another = λ did. absurd (true≢false (sym (ap is_binder (told_one (entry 5 seats.Ops PersistentVolume ∷ []) did).of_kind)));
  not_untold = λ did. absurd (true≢false (sym (told_one (untold listed ∷ []) did).was_told));
}

pub loss_cases : LossExamples
loss_cases = record {
  lost_before_it_leaves_none = one_made _ [] binder_1 (started_part (loses_first false) binder_1 5) None _ refl (MoreCalls {n = 1} {past = []} 0 []
      refl refl (NoCalls refl refl)) refl (record { of_seat = refl; left = refl }) binder_lost;
  no_entry_then = λ did. let none : listed ∷ [] ≡ [] = lost_none (listed ∷ []) did in absurd (cc);
  not_an_untold_one = λ did. let none : untold listed ∷ [] ≡ [] = lost_none (untold listed ∷ []) did in absurd (cc);
  lost_after_it_is_untold = told_made _ binder_1 (started_part (loses_first true) binder_1 5) (untold listed) _ refl (record
      { request = _; reply = _; passes = refl; is = refl }) refl (record { of_seat = refl; left = refl }) binder_untold;
  not_told_then = λ did. absurd (true≢false (lost_one (listed ∷ []) did).was_told);
  not_without_an_entry = λ did. let one : 0 ≡ 1 = (lost_one [] did).one in absurd (omega (arith, one));
  another_loses_its_own = told_made _ binder_1 (started_part (another_loses false) binder_1 5) listed _ refl (record
      { request = _; reply = _; passes = refl; is = refl }) refl (record { of_seat = refl; left = refl }) binder_listed;
  nothing_of_this_one = λ did. let one : 0 ≡ 1 = (told_beside [] did).one in absurd (omega (arith, one));
}
