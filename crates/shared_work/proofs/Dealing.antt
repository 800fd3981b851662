-- The passes of a new shared world, dealt to workers, and what the closed world has of them.
use Rattle.std.proofs.Common.{
  ◌≡◌,
  refl,
  sym,
  ◌∙◌,
  ap,
  subst,
  subst₂,
  arith,
  ℕ,
  suc,
  ◌+◌,
  ◌<◌,
  ◌≤◌,
  max,
  List,
  [],
  ◌∷◌,
  ◌++◌,
  All,
  IfOk,
  Ok,
  Err,
  Result,
  flat_map,
  fold,
  length,
  map,
  slice_index_or,
  sum_by,
}
use Rattle.std.specs.List.{AllByRecursion, AllZip}
use Rattle.std.proofs.lemmas.List.{length-map, map-append}
use Rattle.std.proofs.lemmas.List.Elements.{All-append, All-from_recursion, All-nil, recursion_from_All}
use Rattle.call_types.specs.declared.ask.Ask.{Ask}
use Rattle.call_types.specs.declared.entry.Entry.{Entry}
use Rattle.call_types.specs.declared.setup.Setup.{Setup}
use Rattle.call_types.specs.declared.reply.Reply.{Reply}
use Rattle.seat_lock.specs.declared.keeps.Keeps.{Ghosts}
use Rattle.seat_lock.specs.declared.pass.Pass.{Pass}
use Rattle.seat_lock.specs.Passes.{made_of, most_made, number_of, pass_count}
use Rattle.shared_world.specs.declared.shared.SharedWorld.{SharedWorld}
use Rattle.shared_world.specs.Lines.{Kept}
use Rattle.shared_world.specs.Passes.{AreFirst, IsFirst, IsIn, IsOf, past_given}
use Rattle.shared_work.specs.declared.crew.Hired.{Hired}
use Rattle.shared_work.specs.Crew.{Each, numbers_from}
use Rattle.shared_work.specs.Seats.{AreKept, lasting, numbers_of, seats_at, seats_of}
use Rattle.shared_work.specs.Steps.Jobs.{AreAllOk, CanWork, HasWorked, all_items}

split_each : {X : Type 0} (P : X → Type 0) (xs ys : List X) → AllByRecursion P (xs ++ ys) → AllByRecursion P xs × AllByRecursion P ys
split_each P [] ys all = (tt, all)
split_each P (x ∷ xs) ys all = let rest = split_each P xs ys all.1 in ((all.0, rest.0), rest.1)

module _ {k : Ghosts Kept Ask Reply Setup} where
  -- the seats are as they are in this history
  in_seats : (past : List Entry) (passes : List (Pass Kept Ask Reply Setup k)) → AllByRecursion (IsIn past) passes → seats_of passes ≡ seats_at past (numbers_of passes)
  in_seats past [] in_past = refl
  in_seats past (p ∷ passes) in_past = λ i. (number_of p, sym in_past.0.mine i) ∷ in_seats past passes in_past.1 i

  numbers_last : (passes : List (Pass Kept Ask Reply Setup k)) → map (λ (t : ℕ × ℕ × ℕ). t.0) (map lasting passes) ≡ numbers_of passes
  numbers_last [] = refl
  numbers_last (p ∷ passes) = ap (λ (ns : List ℕ). number_of p ∷ ns) (numbers_last passes)

  same_numbers : (before after : List (Pass Kept Ask Reply Setup k)) → AreKept before after → numbers_of after ≡ numbers_of before
  same_numbers before after kept = sym (numbers_last after) ∙ ap (map (λ (t : ℕ × ℕ × ℕ). t.0)) kept ∙ numbers_last before

-- what a pass keeps, where it met no other
abbrev Unmet : ℕ → ℕ × ℕ × ℕ → Type 0
Unmet made kept = (kept.1 ≡ 0) × (kept.2 ≡ made)

module _ {k : Ghosts Kept Ask Reply Setup} (made : ℕ) where
  counts : (passes : List (Pass Kept Ask Reply Setup k)) (n : ℕ) → AllByRecursion (Unmet made) (map lasting passes) → fold (λ (a : ℕ) p. a + pass_count p) n passes ≡ n + length passes
  counts [] n all = omega arith
  counts (p ∷ passes) n all = counts passes (n + pass_count p) all.1 ∙ (let none = all.0.0 in omega (arith, none))

  most_known : (passes : List (Pass Kept Ask Reply Setup k)) (n : ℕ) → n ≤ made → AllByRecursion (Unmet made) (map lasting passes) → fold (λ (a : ℕ) p. max a (made_of p)) n passes ≤ made
  most_known [] n le all = le
  most_known (p ∷ passes) n le all = most_known passes (max n (made_of p)) (let is = all.0.1 in omega (arith, is, le)) all.1

-- ---- new passes

module _ {k : Ghosts Kept Ask Reply Setup} (shared : SharedWorld) (made : ℕ) where
  -- they are new, and their numbers follow one another
  abbrev AreFrom : ℕ → List (Pass Kept Ask Reply Setup k) → Type 0
  AreFrom first [] = Unit {0}
  AreFrom first (p ∷ passes) = IsFirst shared made first p × AreFrom (first + 1) passes

  pub new_from : (first : ℕ) (passes : List (Pass Kept Ask Reply Setup k))
      → ((i : ℕ) (d : Pass Kept Ask Reply Setup k) → i < length passes → IsFirst shared made (first + i) (slice_index_or passes i d)) → AreFrom first passes
  new_from first [] each = tt
  new_from first (p ∷ passes) each = (
    subst (λ n. IsFirst shared made n p) (omega arith) (each 0 p (omega arith)),
    new_from (first + 1) passes (λ i d lt. subst (λ n. IsFirst shared made n (slice_index_or passes i d)) (omega arith) (each (suc i) d (omega (arith, lt)))),
  )

  new_both : (first : ℕ) (ps qs : List (Pass Kept Ask Reply Setup k)) → AreFrom first (ps ++ qs) → AreFrom first ps × AreFrom (first + length ps) qs
  new_both first [] qs new = (tt, subst (λ n. AreFrom n qs) (omega arith) new)
  new_both first (p ∷ ps) qs new = let rest = new_both (first + 1) ps qs new.1 in ((new.0, rest.0), subst (λ n. AreFrom n qs) (omega arith) rest.1)

  all_new_from : (first : ℕ) (passes : List (Pass Kept Ask Reply Setup k)) → AreFrom first passes → AllByRecursion (λ p. IsFirst shared made (number_of p) p) passes
  all_new_from first [] new = tt
  all_new_from first (p ∷ passes) new = (subst (λ n. IsFirst shared made n p) (sym new.0.number) new.0, all_new_from (first + 1) passes new.1)

  new_numbers : (first : ℕ) (passes : List (Pass Kept Ask Reply Setup k)) → AreFrom first passes → numbers_of passes ≡ numbers_from first (length passes)
  new_numbers first [] new = refl
  new_numbers first (p ∷ passes) new = λ i. new.0.number i ∷ new_numbers (first + 1) passes new.1 i

  new_seats : (first : ℕ) (passes : List (Pass Kept Ask Reply Setup k)) → AreFrom first passes → seats_of passes ≡ seats_at (past_given shared) (numbers_from first (length passes))
  new_seats first [] new = refl
  new_seats first (p ∷ passes) new = λ i. (new.0.number i, new.0.mine i) ∷ new_seats (first + 1) passes new.1 i

  unmet : (first : ℕ) (passes : List (Pass Kept Ask Reply Setup k)) → AreFrom first passes → AllByRecursion (Unmet made) (map lasting passes)
  unmet first [] new = tt
  unmet first (p ∷ passes) new = ((new.0.met, new.0.made_is), unmet (first + 1) passes new.1)

-- ---- jobs

module _ {k : Ghosts Kept Ask Reply Setup} {J W : Type 0} (worker : J → W) (passes : J → List (Pass Kept Ask Reply Setup k)) where
  abbrev pub hired_of : J → Hired W
  hired_of job = record { worker = worker job; seats = length (passes job) }

  can_work : (shared : SharedWorld) (needs : W → List (ℕ × List Entry) → Type 0) (made first : ℕ) (jobs : List J)
      → AreFrom shared made first (flat_map passes jobs) → Each (λ w seats. needs w (seats_at (past_given shared) seats)) first (map hired_of jobs)
      → AllByRecursion (λ job. CanWork needs shared made (worker job) (passes job)) jobs
  can_work shared needs made first [] new each = tt
  can_work shared needs made first (job ∷ jobs) new each =
      let both = new_both shared made first (passes job) (flat_map passes jobs) new in (
        (
          All-from_recursion (λ p. IsFirst shared made (number_of p) p) (passes job) (all_new_from shared made first (passes job) both.0),
          subst (needs (worker job)) (sym (new_seats shared made first (passes job) both.0)) each.0,
        ),
        can_work shared needs made (first + length (passes job)) jobs both.1 each.1,
      )

module _ {k : Ghosts Kept Ask Reply Setup} {J W V E : Type 0} (worker : J → W) (passes : J → List (Pass Kept Ask Reply Setup k))
    (items : V → List (Pass Kept Ask Reply Setup k)) (shared : SharedWorld) where
  -- what came of a job
  abbrev Came : (W → List (ℕ × List Entry) → List (ℕ × List Entry) → Type 0) → (W → List Entry → Type 0) → J → Result V E → Type 0
  Came does leaves job result = IfOk result (λ v. HasWorked does leaves shared (worker job) (passes job) (items v))

  came_each : (does : W → List (ℕ × List Entry) → List (ℕ × List Entry) → Type 0) (leaves : W → List Entry → Type 0) (jobs : List J) (results : List (Result V E)) → length results ≡ length jobs
      → ((i : ℕ) (d : J) (e : Result V E) → i < length jobs → Came does leaves (slice_index_or jobs i d) (slice_index_or results i e)) → AllZip (Came does leaves) jobs results
  came_each does leaves [] [] many each = tt
  came_each does leaves [] (r ∷ results) many each = absurd (omega (arith, many))
  came_each does leaves (job ∷ jobs) [] many each = absurd (omega (arith, many))
  came_each does leaves (job ∷ jobs) (r ∷ results) many each = (each 0 job r (omega arith), came_each does leaves jobs results (omega (arith, many)) (λ i d e lt. each (suc i) d e (omega (arith, lt))))

  module _ (does : W → List (ℕ × List Entry) → List (ℕ × List Entry) → Type 0) (leaves : W → List Entry → Type 0) where
    -- all passes came back, and are of the shared world
    all_kept : (jobs : List J) (results : List (Result V E)) → AllZip (Came does leaves) jobs results → AreAllOk results → AreKept (flat_map passes jobs) (all_items items results)
    all_kept [] [] came ok = refl
    all_kept [] (r ∷ results) came ok = absurd came
    all_kept (job ∷ jobs) [] came ok = absurd came
    all_kept (job ∷ jobs) (Err e ∷ results) came ok = absurd ok
    all_kept (job ∷ jobs) (Ok v ∷ results) came ok =
        map-append lasting (items v) (all_items items results)
        ∙ (λ i. came.0.1 i ++ all_kept jobs results came.1 ok i)
        ∙ sym (map-append lasting (passes job) (flat_map passes jobs))

    all_of : (jobs : List J) (results : List (Result V E)) → AllZip (Came does leaves) jobs results → AreAllOk results → All (IsOf shared) (all_items items results)
    all_of [] [] came ok = All-nil (IsOf shared)
    all_of [] (r ∷ results) came ok = absurd came
    all_of (job ∷ jobs) [] came ok = absurd came
    all_of (job ∷ jobs) (Err e ∷ results) came ok = absurd ok
    all_of (job ∷ jobs) (Ok v ∷ results) came ok = All-append (IsOf shared) (items v) (all_items items results) came.0.0 (all_of jobs results came.1 ok)

    -- what each worker did is what the closed world has
    all_done : (past : List Entry) (made first : ℕ) (jobs : List J) (results : List (Result V E)) → AllZip (Came does leaves) jobs results
        → AreAllOk results → AreFrom shared made first (flat_map passes jobs)
        → AllByRecursion (IsIn past) (all_items items results) → Each (λ w seats. does w (seats_at (past_given shared) seats) (seats_at past seats)) first (map (hired_of worker passes) jobs)
    all_done past made first [] [] came ok new in_past = tt
    all_done past made first [] (r ∷ results) came ok new in_past = absurd came
    all_done past made first (job ∷ jobs) [] came ok new in_past = absurd came
    all_done past made first (job ∷ jobs) (Err e ∷ results) came ok new in_past = absurd ok
    all_done past made first (job ∷ jobs) (Ok v ∷ results) came ok new in_past =
        let both = new_both shared made first (passes job) (flat_map passes jobs) new in
        let ins = split_each (IsIn past) (items v) (all_items items results) in_past in
        let numbers = same_numbers (passes job) (items v) came.0.1 ∙ new_numbers shared made first (passes job) both.0 in
        let after = in_seats past (items v) ins.0 ∙ ap (seats_at past) numbers in (
          subst₂ (does (worker job)) (new_seats shared made first (passes job) both.0) after came.0.2,
          all_done past made (first + length (passes job)) jobs results came.1 ok both.1 ins.1,
        )

    -- and what each has left holds of it
    all_left : (past : List Entry) (first : ℕ) (jobs : List J) (results : List (Result V E)) → AllZip (Came does leaves) jobs results
        → AreAllOk results → AllByRecursion (IsIn past) (all_items items results) → Each (λ w seats. leaves w past) first (map (hired_of worker passes) jobs)
    all_left past first [] [] came ok in_past = tt
    all_left past first [] (r ∷ results) came ok in_past = absurd came
    all_left past first (job ∷ jobs) [] came ok in_past = absurd came
    all_left past first (job ∷ jobs) (Err e ∷ results) came ok in_past = absurd ok
    all_left past first (job ∷ jobs) (Ok v ∷ results) came ok in_past =
        let ins = split_each (IsIn past) (items v) (all_items items results) in_past in
        (came.0.3.in_each past (All-from_recursion (IsIn past) (items v) ins.0), all_left past (first + length (passes job)) jobs results came.1 ok ins.1)

-- ---- the whole

module _ {k : Ghosts Kept Ask Reply Setup} {J W : Type 0} (worker : J → W) (passes : J → List (Pass Kept Ask Reply Setup k)) (shared : SharedWorld)
    (new : List (Pass Kept Ask Reply Setup k)) (jobs : List J) (crew : List (Hired W))
    (first : AreFirst shared new) (dealt : flat_map passes jobs ≡ new) (hired : map (hired_of worker passes) jobs ≡ crew) (given : List Entry) (given_is : past_given shared ≡ given) where
  all_new : AreFrom shared (length new) 1 (flat_map passes jobs)
  all_new = subst (AreFrom shared (length new) 1) (sym dealt)
      (new_from shared (length new) 1 new (λ i d lt. subst (λ n. IsFirst shared (length new) n (slice_index_or new i d)) (omega arith) (first i d lt)))

  pub may_work : (needs : W → List (ℕ × List Entry) → Type 0) (made : ℕ) → length new ≡ made
      → Each (λ w seats. needs w (seats_at given seats)) 1 crew → All (λ job. CanWork needs shared made (worker job) (passes job)) jobs
  may_work needs made made_is each =
      let here = subst (λ past. Each (λ w seats. needs w (seats_at past seats)) 1 (map (hired_of worker passes) jobs)) (sym given_is)
      (subst (λ c. Each (λ w seats. needs w (seats_at given seats)) 1 c) (sym hired) each) in
      let all = All-from_recursion (λ job. CanWork needs shared (length new) (worker job) (passes job)) jobs (can_work worker passes shared needs (length new) 1 jobs all_new here) in
      subst (λ n. All (λ job. CanWork needs shared n (worker job) (passes job)) jobs) made_is all

  module _ {V E : Type 0} (items : V → List (Pass Kept Ask Reply Setup k)) (does : W → List (ℕ × List Entry) → List (ℕ × List Entry) → Type 0) (leaves : W → List Entry → Type 0)
      (results : List (Result V E)) (all : List (Pass Kept Ask Reply Setup k))
      (many : length results ≡ length jobs) (each : (i : ℕ) (d : J) (e : Result V E) → i < length jobs → Came worker passes items shared does leaves
      (slice_index_or jobs i d) (slice_index_or results i e))
      (ok : AreAllOk results) (gathered : all ≡ all_items items results) where
    came : AllZip (Came worker passes items shared does leaves) jobs results
    came = came_each worker passes items shared does leaves jobs results many each

    pub of_shared : All (IsOf shared) all
    of_shared = subst (λ ps. All (IsOf shared) ps) (sym gathered) (all_of worker passes items shared does leaves jobs results came ok)

    kept : AreKept (flat_map passes jobs) all
    kept = ap (map lasting) gathered ∙ all_kept worker passes items shared does leaves jobs results came ok

    all_unmet : AllByRecursion (Unmet (length new)) (map lasting all)
    all_unmet = subst (AllByRecursion (Unmet (length new))) (sym kept) (unmet shared (length new) 1 (flat_map passes jobs) all_new)

    pub as_many : length all ≡ length new
    as_many = sym (length-map all lasting) ∙ ap length kept ∙ length-map (flat_map passes jobs) lasting ∙ ap length dealt

    pub counted : sum_by pass_count all ≡ length new
    counted = let c = counts (length new) all 0 all_unmet in let m = as_many in omega (arith, c, m)

    -- no pass is missing
    pub none_missing : sum_by pass_count all < most_made all → ⊥
    none_missing more = let c = counted in let m = most_known (length new) all 0 (omega arith) all_unmet in omega (arith, more, c, m)

    pub done_by_each : (past : List Entry) → All (IsIn past) all → Each (λ w seats. does w (seats_at given seats) (seats_at past seats)) 1 crew
    done_by_each past in_past =
        let ins = recursion_from_All (IsIn past) (all_items items results) (subst (λ ps. All (IsIn past) ps) gathered in_past) in
        subst (λ c. Each (λ w seats. does w (seats_at given seats) (seats_at past seats)) 1 c) hired
        (subst (λ g. Each (λ w seats. does w (seats_at g seats) (seats_at past seats)) 1 (map (hired_of worker passes) jobs)) given_is
        (all_done worker passes items shared does leaves past (length new) 1 jobs results came ok all_new ins))

    pub left_by_each : (past : List Entry) → All (IsIn past) all → Each (λ w seats. leaves w past) 1 crew
    left_by_each past in_past =
        let ins = recursion_from_All (IsIn past) (all_items items results) (subst (λ ps. All (IsIn past) ps) gathered in_past) in
        subst (λ c. Each (λ w seats. leaves w past) 1 c) hired (all_left worker passes items shared does leaves past 1 jobs results came ok ins)
