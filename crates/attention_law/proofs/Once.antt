-- A key stands once in a queue after each of its moves. Shown by counting: of each key there is at most one.
use Rattle.std.proofs.Common.{◌≡◌, ◌≤◌, ◌+◌, ℕ, suc, List, [], ◌∷◌, ◌++◌, Bool, true, false, Option, Some, None, refl, sym, ◌∙◌, ap, subst, arith, if◌then◌else◌}
use Rattle.std.specs.Prelude.{◌||◌, map}
use Rattle.std.specs.List.{list_any}
use Rattle.std.proofs.lemmas.Bool.{or_parts}
use Rattle.kube_objects.specs.declared.key.Key.{Key}
use Rattle.kube_objects.specs.Keys.{same_key}
use Rattle.kube_objects.proofs.SameKeys.{KeyCases, One, Two, key_cases, same_key_itself}
use Rattle.sync_queue.specs.Work.{AreOnce, StandsOnce, Taken, Work, added, begin_oldest, begun, done_by, finished, is_of, mark, mark_of, put_off, queued, released, retry_by, unparked, without_waiting}
use Rattle.attention_law.specs.Queues.{key_in, taken_keys}
use Rattle.attention_law.proofs.Queues.{marked_keys}

-- how often a key stands in a list

abbrev count_by : Bool → ℕ → ℕ
count_by true n = suc n
count_by false n = n

abbrev count : Key → List Key → ℕ
count k [] = 0
count k (x ∷ xs) = count_by (same_key k x) (count k xs)

count_append : (k : Key) (xs ys : List Key) → count k (xs ++ ys) ≡ count k xs + count k ys
count_append k [] ys = omega arith
count_append k (x ∷ xs) ys = by (same_key k x) (count_append k xs ys)
  where
    by : (b : Bool) → count k (xs ++ ys) ≡ count k xs + count k ys → count_by b (count k (xs ++ ys)) ≡ count_by b (count k xs) + count k ys
    by true e = omega (arith, e)
    by false e = e

count_one : (k : Key) (xs : List Key) → count k (xs ++ k ∷ []) ≡ count k xs + 1
count_one k xs = count_append k xs (k ∷ []) ∙ ap (λ b. count k xs + count_by b 0) (same_key_itself k)

none_counted : (k : Key) (xs : List Key) → list_any (same_key k) xs ≡ false → count k xs ≡ 0
none_counted k [] e = refl
none_counted k (x ∷ xs) e =
    let f = or_parts (same_key k x) (list_any (same_key k) xs) e in
    ap (λ b. count_by b (count k xs)) f.0 ∙ none_counted k xs f.1

counted_none : (k : Key) (xs : List Key) → count k xs ≡ 0 → list_any (same_key k) xs ≡ false
counted_none k [] e = refl
counted_none k (x ∷ xs) e = by (same_key k x) e (counted_none k xs)
  where
    by : (b : Bool) → count_by b (count k xs) ≡ 0 → (count k xs ≡ 0 → list_any (same_key k) xs ≡ false) → (b || list_any (same_key k) xs) ≡ false
    by true h rest = absurd (omega (arith, h))
    by false h rest = rest h

-- no key twice, said by counting

abbrev AtMostOnce : List Key → Type 0
AtMostOnce xs = (k : Key) → count k xs ≤ 1

once_counts : (xs : List Key) → AreOnce xs → AtMostOnce xs
once_counts [] once k = omega arith
once_counts (x ∷ xs) once k = by (key_cases k x) (once_counts xs once.1 k)
  where
    by : KeyCases k x → count k xs ≤ 1 → count_by (same_key k x) (count k xs) ≤ 1
    by (One e is) rest =
        let none : count k xs ≡ 0 = subst (λ y. count y xs ≡ 0) (sym is) (none_counted x xs once.0) in
        rw e (omega (arith, none))
    by (Two e differs) rest = rw e rest

counts_once : (xs : List Key) → AtMostOnce xs → AreOnce xs
counts_once [] few = tt
counts_once (x ∷ xs) few = (counted_none x xs (alone (same_key x x) (same_key_itself x) (few x)), counts_once xs (λ k. fewer (same_key k x) (few k)))
  where
    alone : (b : Bool) → b ≡ true → count_by b (count x xs) ≤ 1 → count x xs ≡ 0
    alone true own one = omega (arith, one)
    alone false own one = absurd (cc)

    fewer : {n : ℕ} (b : Bool) → count_by b n ≤ 1 → n ≤ 1
    fewer true h = omega (arith, h)
    fewer false h = h

-- a key that is left out

left_out : (j : Key) (xs : List Key) → list_any (same_key j) xs ≡ true → (k : Key) → count k xs ≡ count k (without_waiting (same_key j) xs) + count k (j ∷ [])
left_out j [] there k = absurd (cc)
left_out j (x ∷ xs) there k = by (key_cases j x) there (left_out j xs)
  where
    by : KeyCases j x → (same_key j x || list_any (same_key j) xs) ≡ true → (list_any (same_key j) xs ≡ true → (q : Key) → count q xs ≡ count q (without_waiting (same_key j) xs) + count q (j ∷ []))
        → count_by (same_key k x) (count k xs) ≡ count k (if same_key j x then xs else x ∷ without_waiting (same_key j) xs) + count k (j ∷ [])
    by (One e is) h rest = rw e (ap (λ y. count_by (same_key k y) (count k xs)) (sym is) ∙ plus (same_key k j) (count k xs))
      where
        plus : (b : Bool) (n : ℕ) → count_by b n ≡ n + count_by b 0
        plus true n = omega arith
        plus false n = omega arith
    by (Two e differs) h rest = rw e (more (count k xs) (count k (without_waiting (same_key j) xs)) (count k (j ∷ [])) (same_key k x) (rest (sym (ap (λ b. b || list_any (same_key j) xs) e) ∙ h) k))
      where
        more : (n m o : ℕ) (b : Bool) → n ≡ m + o → count_by b n ≡ count_by b m + o
        more n m o true is = omega (arith, is)
        more n m o false is = is

nothing_left_out : (j : Key) (xs : List Key) → list_any (same_key j) xs ≡ false → without_waiting (same_key j) xs ≡ xs
nothing_left_out j [] e = refl
nothing_left_out j (x ∷ xs) e =
    let f = or_parts (same_key j x) (list_any (same_key j) xs) e in
    ap (λ b. if b then xs else x ∷ without_waiting (same_key j) xs) f.0 ∙ ap (λ ys. x ∷ ys) (nothing_left_out j xs f.1)

-- the keys of a queue, counted over its three lists

abbrev tally : Key → Work → ℕ
tally k w = count k w.waiting + count k (taken_keys w) + count k w.parked

tally_all : (k : Key) (w : Work) → count k (w.waiting ++ taken_keys w ++ w.parked) ≡ tally k w
tally_all k w = count_append k (w.waiting ++ taken_keys w) w.parked ∙ ap (λ n. n + count k w.parked) (count_append k w.waiting (taken_keys w))

abbrev EachOnce : Work → Type 0
EachOnce w = (k : Key) → tally k w ≤ 1

each_once : (w : Work) → StandsOnce w → EachOnce w
each_once w once k = let few = once_counts (w.waiting ++ taken_keys w ++ w.parked) once k in let all = tally_all k w in omega (arith, few, all)

all_once : (w : Work) → EachOnce w → StandsOnce w
all_once w each = counts_once (w.waiting ++ taken_keys w ++ w.parked) (λ k. let few = each k in let all = tally_all k w in omega (arith, few, all))

-- a taken key that is released

taken_any : (j : Key) (ts : List Taken) → list_any (is_of j) ts ≡ list_any (same_key j) (map key_in ts)
taken_any j [] = refl
taken_any j (t ∷ ts) = ap (λ b. same_key j t.key || b) (taken_any j ts)

keys_without : (j : Key) (ts : List Taken) → map key_in (without_waiting (is_of j) ts) ≡ without_waiting (same_key j) (map key_in ts)
keys_without j [] = refl
keys_without j (t ∷ ts) = by (same_key j t.key) (keys_without j ts)
  where
    by : (b : Bool) → map key_in (without_waiting (is_of j) ts) ≡ without_waiting (same_key j) (map key_in ts)
        → map key_in (if b then ts else t ∷ without_waiting (is_of j) ts) ≡ (if b then map key_in ts else t.key ∷ without_waiting (same_key j) (map key_in ts))
    by true e = refl
    by false e = ap (λ xs. t.key ∷ xs) e

mark_there : (j : Key) (ts : List Taken) (again : Bool) → mark_of j ts ≡ Some again → list_any (is_of j) ts ≡ true
mark_there j [] again e = absurd (cc)
mark_there j (t ∷ ts) again e = by (is_of j t) e (mark_there j ts again)
  where
    by : (b : Bool) → (if b then Some t.again else mark_of j ts) ≡ Some again → (mark_of j ts ≡ Some again → list_any (is_of j) ts ≡ true) → (b || list_any (is_of j) ts) ≡ true
    by true h rest = refl
    by false h rest = rest h

released_counts : (j : Key) (w : Work) (again : Bool) → mark_of j w.taken ≡ Some again → (k : Key) → count k (taken_keys w) ≡ count k (taken_keys (released j w)) + count k (j ∷ [])
released_counts j w again e k =
    left_out j (taken_keys w) (sym (taken_any j w.taken) ∙ mark_there j w.taken again e) k ∙ ap (λ xs. count k xs + count k (j ∷ [])) (sym (keys_without j w.taken))

-- ---- the moves

pub added_once : (j : Key) (w : Work) → StandsOnce w → StandsOnce (added j w)
added_once j w once = all_once (added j w) (by (list_any (is_of j) w.taken) (list_any (same_key j) w.waiting) refl refl)
  where
    each : EachOnce w
    each = each_once w once

    -- a key that is parked goes to the waiting ones
    unparks : list_any (same_key j) w.parked ≡ true → EachOnce (queued j (unparked j w))
    unparks there k =
        let few = each k in
        let out = left_out j w.parked there k in
        let back = count_append k w.waiting (j ∷ []) in
        omega (arith, few, out, back)

    -- a key that stands nowhere
    comes : list_any (is_of j) w.taken ≡ false → list_any (same_key j) w.waiting ≡ false → list_any (same_key j) w.parked ≡ false → EachOnce (queued j (unparked j w))
    comes taken waits parks k = case (key_cases k j)
      where
        case : KeyCases k j → tally k (queued j (unparked j w)) ≤ 1
        case (One e is) =
            let a : count k w.waiting ≡ 0 = subst (λ y. count y w.waiting ≡ 0) (sym is) (none_counted j w.waiting waits) in
            let b : count k (taken_keys w) ≡ 0 = subst (λ y. count y (taken_keys w) ≡ 0) (sym is) (none_counted j (taken_keys w) (sym (taken_any j w.taken) ∙ taken)) in
            let c : count k w.parked ≡ 0 = subst (λ y. count y w.parked ≡ 0) (sym is) (none_counted j w.parked parks) in
            let same : count k (without_waiting (same_key j) w.parked) ≡ count k w.parked = ap (count k) (nothing_left_out j w.parked parks) in
            let back : count k (w.waiting ++ j ∷ []) ≡ count k w.waiting + 1 = count_append k w.waiting (j ∷ []) ∙ ap (λ t. count k w.waiting + count_by t 0) e in
            omega (arith, a, b, c, same, back)
        case (Two e differs) =
            let few = each k in
            let same : count k (without_waiting (same_key j) w.parked) ≡ count k w.parked = ap (count k) (nothing_left_out j w.parked parks) in
            let back : count k (w.waiting ++ j ∷ []) ≡ count k w.waiting + 0 = count_append k w.waiting (j ∷ []) ∙ ap (λ t. count k w.waiting + count_by t 0) e in
            omega (arith, few, same, back)

    parked : (p : Bool) → list_any (same_key j) w.parked ≡ p → list_any (is_of j) w.taken ≡ false → list_any (same_key j) w.waiting ≡ false → EachOnce (queued j (unparked j w))
    parked true ep et ew = unparks ep
    parked false ep et ew = comes et ew ep

    by : (t s : Bool) → list_any (is_of j) w.taken ≡ t → list_any (same_key j) w.waiting ≡ s → EachOnce (added j w)
    by true s et es = rw et (λ k. let few = each k in let same : count k (map key_in (map (mark j) w.taken)) ≡ count k (taken_keys w) = ap (count k)
        (marked_keys j w.taken) in omega (arith, few, same))
    by false true et es = rw (et, es) each
    by false false et es = rw (et, es) (parked (list_any (same_key j) w.parked) refl et es)

pub begun_once : (w : Work) → StandsOnce w → StandsOnce (begun w)
begun_once w once = all_once (begun w) (by w.waiting (each_once w once))
  where
    with_ : List Key → Work
    with_ ks = record { waiting = ks; taken = w.taken; parked = w.parked }

    keys_last : (ts : List Taken) (t : Taken) → map key_in (ts ++ t ∷ []) ≡ map key_in ts ++ t.key ∷ []
    keys_last [] t = refl
    keys_last (x ∷ ts) t = ap (λ xs. x.key ∷ xs) (keys_last ts t)

    by : (ks : List Key) → EachOnce (with_ ks) → EachOnce (begin_oldest ks w)
    by [] each = each_once w once
    by (j ∷ ks) each = λ k.
        let few = each k in
        let last : count k (map key_in (w.taken ++ (record { key = j; again = false }) ∷ [])) ≡ count k (taken_keys w) + count k (j ∷ []) =
        ap (count k) (keys_last w.taken (record { key = j; again = false })) ∙ count_append k (taken_keys w) (j ∷ []) in
        let first : count k (j ∷ ks) ≡ count k (j ∷ []) + count k ks = count_append k (j ∷ []) ks in
        omega (arith, few, last, first)

pub finished_once : (j : Key) (w : Work) → StandsOnce w → StandsOnce (finished j w)
finished_once j w once = all_once (finished j w) (by (mark_of j w.taken) refl)
  where
    each : EachOnce w
    each = each_once w once

    by : (m : Option Bool) → mark_of j w.taken ≡ m → EachOnce (done_by m j w)
    by None e = each
    by (Some false) e = λ k. let few = each k in let out = released_counts j w false e k in omega (arith, few, out)
    by (Some true) e = λ k. let few = each k in let out = released_counts j w true e k in let back = count_append k w.waiting (j ∷ []) in omega (arith, few, out, back)

pub put_off_once : (j : Key) (w : Work) → StandsOnce w → StandsOnce (put_off j w)
put_off_once j w once = all_once (put_off j w) (by (mark_of j w.taken) refl)
  where
    each : EachOnce w
    each = each_once w once

    by : (m : Option Bool) → mark_of j w.taken ≡ m → EachOnce (retry_by m j w)
    by None e = each
    by (Some false) e = λ k. let few = each k in let out = released_counts j w false e k in let back = count_append k w.parked (j ∷ []) in omega (arith, few, out, back)
    by (Some true) e = λ k. let few = each k in let out = released_counts j w true e k in let back = count_append k w.waiting (j ∷ []) in omega (arith, few, out, back)
