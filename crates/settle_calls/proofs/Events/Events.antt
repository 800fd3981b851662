-- What a watch tells is so much less to be told: a full answer tells the first events, any other all that there are.
use Rattle.std.proofs.Common.{◌≡◌, ◌∙◌, ℕ, ◌+◌, ◌≤◌, ◌<◌, zero, suc, List, [], ◌∷◌, ◌++◌, length, length-append, Bool, true, false, true≢false, inl, inr, refl, sym, ap, subst, arith, ◌⊎◌}
use Rattle.std.specs.Prelude.{◌==◌, ◌&&◌, cond, filter, nat_lt, reverse, take, ⊤}
use Rattle.std.proofs.lemmas.Bool.Decides.{nat_tests}
use Rattle.std.proofs.lemmas.Grind.{reverse_onto}
use Rattle.std.proofs.lemmas.List.{length-reverse}
use Rattle.std.proofs.lemmas.List.Elements.{filter-append}
use Rattle.kube_parts.specs.declared.parts.Kind.{Kind}
use Rattle.kube_objects.specs.Keys.{is_of_kind}
use Rattle.call_types.specs.declared.entry.Entry.{Entry}
use Rattle.call_types.specs.declared.reply.Event.{Event}
use Rattle.call_types.specs.declared.setup.Setup.{Setup}
use Rattle.binder_model.specs.Watching.{is_later, last_version, most_events, told_events}
use Rattle.binder_model.specs.World.{world}
use Rattle.model_laws.proofs.Versions.{versions_count_writes}
use Rattle.model_laws.proofs.Watched.{AreBetween, logs}
use Rattle.settle_calls.specs.Events.Telling.{WatchesTellLess}
use Rattle.settle_calls.specs.Events.Counts.{pending}
use Rattle.settle_calls.specs.Events.Telling.{IsToldSo, told}
use Rattle.model_laws.proofs.Lists.{IsIn}
use Rattle.settle_slot.proofs.Told.Exact.{in_filter}
use Rattle.settle_slot.proofs.Told.Exact.{in_reverse}

-- versions that fall from the newest event on, and versions that rise

abbrev AreBelow : ℕ → List Event → Type 0
AreBelow n [] = ⊤
AreBelow n (e ∷ es) = (e.version < n) × AreBelow n es

abbrev AreFalling : List Event → Type 0
AreFalling [] = ⊤
AreFalling (e ∷ es) = AreBelow e.version es × AreFalling es

abbrev AreAbove : ℕ → List Event → Type 0
AreAbove n [] = ⊤
AreAbove n (e ∷ es) = (n < e.version) × AreAbove n es

abbrev AreRising : ℕ → List Event → Type 0
AreRising low [] = ⊤
AreRising low (e ∷ es) = (low < e.version) × AreRising e.version es

below_all : (high : ℕ) (es : List Event) → AreBetween 0 high es → AreBelow (high + 1) es
below_all high [] b = tt
below_all high (e ∷ es) b = let up = b.1 in (omega (arith, up), below_all high es b.2)

falling : (setup : Setup) (past : List Entry) → AreFalling (world setup past).log
falling setup [] = tt
falling setup (e ∷ past) = elim (versions_count_writes setup (world setup past) e.kind e.request) [
  | inl kept ↦ subst AreFalling (sym kept.log) (falling setup past)
  | inr wrote ↦ subst AreFalling (sym wrote.log)
      (subst (λ n. AreBelow n (world setup past).log) (sym (wrote.at ∙ wrote.next)) (below_all (world setup past).store.version (world setup past).log (logs setup past 0)), falling setup past)
]

below_filter : (n : ℕ) (p : Event → Bool) (es : List Event) → AreBelow n es → AreBelow n (filter p es)
below_filter n p [] b = tt
below_filter n p (e ∷ es) b = by (p e) (below_filter n p es b.1)
  where
    by : (t : Bool) → AreBelow n (filter p es) → AreBelow n (cond t (e ∷ filter p es) (filter p es))
    by true rest = (b.0, rest)
    by false rest = rest

falling_filter : (p : Event → Bool) (es : List Event) → AreFalling es → AreFalling (filter p es)
falling_filter p [] f = tt
falling_filter p (e ∷ es) f = by (p e) (falling_filter p es f.1)
  where
    by : (t : Bool) → AreFalling (filter p es) → AreFalling (cond t (e ∷ filter p es) (filter p es))
    by true rest = (below_filter e.version p es f.0, rest)
    by false rest = rest

above_filter : (kind : Kind) (from : ℕ) (es : List Event) → AreAbove from (filter (is_later kind from) es)
above_filter kind from [] = tt
above_filter kind from (e ∷ es) = by (nat_lt from e.version) (is_of_kind kind e.object) refl (above_filter kind from es)
  where
    by : (t u : Bool) → nat_lt from e.version ≡ t → AreAbove from (filter (is_later kind from) es) → AreAbove from (cond (t && u) (e ∷ filter (is_later kind from) es) (filter (is_later kind from) es))
    by true true is rest = (grind (arith, nat_tests, is), rest)
    by true false is rest = rest
    by false u is rest = rest

below_append : (n : ℕ) (xs ys : List Event) → AreBelow n xs → AreBelow n ys → AreBelow n (xs ++ ys)
below_append n [] ys b c = c
below_append n (x ∷ xs) ys b c = (b.0, below_append n xs ys b.1 c)

below_reverse : (n : ℕ) (xs : List Event) → AreBelow n xs → AreBelow n (reverse xs)
below_reverse n [] b = tt
below_reverse n (x ∷ xs) b = subst (AreBelow n) (sym (reverse_onto xs x [])) (below_append n (reverse xs) (x ∷ []) (below_reverse n xs b.1) (b.0, tt))

rising_last : (low : ℕ) (xs : List Event) (x : Event) → AreRising low xs → AreBelow x.version xs → low < x.version → AreRising low (xs ++ x ∷ [])
rising_last low [] x r b lt = (lt, tt)
rising_last low (y ∷ ys) x r b lt = (r.0, rising_last y.version ys x r.1 b.1 b.0)

rising_reverse : (low : ℕ) (xs : List Event) → AreFalling xs → AreAbove low xs → AreRising low (reverse xs)
rising_reverse low [] f a = tt
rising_reverse low (x ∷ xs) f a = subst (AreRising low) (sym (reverse_onto xs x [])) (rising_last low (reverse xs) x (rising_reverse low xs f.1 a.1) (below_reverse x.version xs f.0) a.0)

-- the first of events that rise, and those after the last of them

abbrev is_above : ℕ → Event → Bool
is_above n e = nat_lt n e.version

abbrev above_in : ℕ → List Event → ℕ
above_in n es = length (filter (is_above n) es)

record FirstOf (low : ℕ) (n : ℕ) (xs : List Event) : Type 0 where
  up : low + length (take n xs) ≤ last_version low (take n xs)
  fewer : length (take n xs) + above_in (last_version low (take n xs)) xs ≤ length xs

above_few : (n : ℕ) (xs : List Event) → above_in n xs ≤ length xs
above_few n [] = omega arith
above_few n (x ∷ xs) = by (is_above n x) (above_few n xs)
  where
    by : (t : Bool) → above_in n xs ≤ length xs → length (cond t (x ∷ filter (is_above n) xs) (filter (is_above n) xs)) ≤ suc (length xs)
    by true h = omega (arith, h)
    by false h = omega (arith, h)

first_of : (low n : ℕ) (xs : List Event) → AreRising low xs → FirstOf low n xs
first_of low zero xs r = let h = above_few low xs in record { up = omega arith; fewer = omega (arith, h) }
first_of low (suc n) [] r = record { up = omega arith; fewer = omega arith }
first_of low (suc n) (x ∷ xs) r =
    let rest = first_of x.version n xs r.1 in
    let up = rest.up in let fewer = rest.fewer in let lt = r.0 in
    let no : is_above (last_version x.version (take n xs)) x ≡ false = grind (arith, nat_tests, up) in
    let few : above_in (last_version x.version (take n xs)) (x ∷ xs) ≡ above_in (last_version x.version (take n xs)) xs = rw no refl in
    record { up = omega (arith, up, lt); fewer = omega (arith, fewer, few) }

-- the order does not matter for how many there are
above_append : (n : ℕ) (xs ys : List Event) → above_in n (xs ++ ys) ≡ above_in n xs + above_in n ys
above_append n xs ys = ap length (filter-append (is_above n) xs ys) ∙ length-append (filter (is_above n) xs) (filter (is_above n) ys)

above_reverse : (n : ℕ) (xs : List Event) → above_in n (reverse xs) ≡ above_in n xs
above_reverse n [] = refl
above_reverse n (x ∷ xs) =
    let h = above_reverse n xs in
    let split : above_in n (reverse (x ∷ xs)) ≡ above_in n (reverse xs) + above_in n (x ∷ []) = ap (above_in n) (reverse_onto xs x []) ∙ above_append n (reverse xs) (x ∷ []) in
    let own : above_in n (x ∷ xs) ≡ above_in n (x ∷ []) + above_in n xs = above_append n (x ∷ []) xs in
    omega (arith, h, split, own)

above_later : (kind : Kind) (from upto : ℕ) (es : List Event) → from ≤ upto → above_in upto (filter (is_later kind from) es) ≡ pending kind upto es
above_later kind from upto [] le = refl
above_later kind from upto (e ∷ es) le = by (nat_lt from e.version) (nat_lt upto e.version) (is_of_kind kind e.object) refl refl (above_later kind from upto es le)
  where
    by : (a b c : Bool) → nat_lt from e.version ≡ a → nat_lt upto e.version ≡ b → above_in upto (filter (is_later kind from) es) ≡ pending kind upto es
        → above_in upto (cond (a && c) (e ∷ filter (is_later kind from) es) (filter (is_later kind from) es)) ≡ length
        (cond (b && c) (e ∷ filter (is_later kind upto) es) (filter (is_later kind upto) es))
    by true true true ea eb h = rw eb (ap suc h)
    by true false true ea eb h = rw eb h
    by false true true ea eb h = absurd (grind (arith, nat_tests, ea, eb, le))
    by false false true ea eb h = h
    by true true false ea eb h = h
    by true false false ea eb h = h
    by false true false ea eb h = h
    by false false false ea eb h = h

-- what is still to be told after a watch that was answered

pub none_pending : (kind : Kind) (from high : ℕ) (es : List Event) → high ≤ from → AreBetween 0 high es → pending kind from es ≡ 0
none_pending kind from high [] le b = refl
none_pending kind from high (e ∷ es) le b =
    let up = b.1 in
    let no : nat_lt from e.version ≡ false = grind (arith, nat_tests, up, le) in
    let rest = none_pending kind from high es le b.2 in
    rw no rest

-- one more event
pub one_more : (kind : Kind) (from : ℕ) (e : Event) (es : List Event) → pending kind from (e ∷ es) ≤ pending kind from es + cond (is_of_kind kind e.object) 1 0
one_more kind from e es = by (nat_lt from e.version) (is_of_kind kind e.object)
  where
    by : (a b : Bool) → length (cond (a && b) (e ∷ filter (is_later kind from) es) (filter (is_later kind from) es)) ≤ pending kind from es + cond b 1 0
    by true true = omega arith
    by true false = omega arith
    by false true = omega arith
    by false false = omega arith

-- less is told later
pub fewer_pending : (kind : Kind) (from later : ℕ) (es : List Event) → from ≤ later → pending kind later es ≤ pending kind from es
fewer_pending kind from later es le = let h = above_few later (filter (is_later kind from) es) in let e = above_later kind from later es le in omega (arith, h, e)

abbrev take_few_type : ℕ → List Event → Type 0
take_few_type n xs = length (take n xs) ≤ length xs

take_few : (n : ℕ) (xs : List Event) → take_few_type n xs
take_few zero xs = omega arith
take_few (suc n) [] = omega arith
take_few (suc n) (x ∷ xs) = let h = take_few n xs in omega (arith, h)

last_any : (a b : ℕ) (es : List Event) → 0 < length es → last_version a es ≡ last_version b es
last_any a b [] some = absurd (omega (arith, some))
last_any a b (e ∷ es) some = refl

pub told_so : WatchesTellLess
told_so setup past kind from full low is = by full is
  where
    rising : AreRising from (reverse (filter (is_later kind from) (world setup past).log))
    rising = rising_reverse from (filter (is_later kind from) (world setup past).log)
        (falling_filter (is_later kind from) (world setup past).log (falling setup past)) (above_filter kind from (world setup past).log)

    all : length (reverse (filter (is_later kind from) (world setup past).log)) ≡ pending kind from (world setup past).log
    all = length-reverse (filter (is_later kind from) (world setup past).log)

    by : (b : Bool) → (length (told kind from (world setup past).log) == most_events) ≡ b → IsToldSo kind from (world setup past).store.version (world setup past).log b
    by true e =
        let f = first_of from most_events (reverse (filter (is_later kind from) (world setup past).log)) rising in
        let up = f.up in let fewer = f.fewer in
        let n : length (told kind from (world setup past).log) ≡ most_events = grind (arith, nat_tests, e) in
        let last : last_version (world setup past).store.version (told kind from (world setup past).log) ≡ last_version from
        (told kind from (world setup past).log) = last_any _ _ (told kind from (world setup past).log) (omega (arith, n)) in
        let upto : (told_events kind from (world setup past).store.version (world setup past).log).upto ≡ last_version from (told kind from (world setup past).log) = rw e last in
        let count : above_in (last_version from (told kind from (world setup past).log))
        (reverse (filter (is_later kind from) (world setup past).log)) ≡ pending kind (last_version from (told kind from (world setup past).log)) (world setup past).log =
        above_reverse _ (filter (is_later kind from) (world setup past).log) ∙ above_later kind from _ (world setup past).log (omega (arith, up)) in
        let at : pending kind (told_events kind from (world setup past).store.version (world setup past).log).upto
        (world setup past).log ≡ pending kind (last_version from (told kind from (world setup past).log)) (world setup past).log = ap (λ u. pending kind u (world setup past).log) upto in
        record { fewer = omega (arith, fewer, count, at, all); reached = λ h. omega (arith, up, n, upto); whole = λ h. absurd (true≢false h) }
    by false e =
        let upto : (told_events kind from (world setup past).store.version (world setup past).log).upto ≡ (world setup past).store.version = rw e refl in
        let none = none_pending kind (world setup past).store.version (world setup past).store.version (world setup past).log (omega arith) (logs setup past 0) in
        let at : pending kind (told_events kind from (world setup past).store.version (world setup past).log).upto
        (world setup past).log ≡ pending kind (world setup past).store.version (world setup past).log = ap (λ u. pending kind u (world setup past).log) upto in
        let few = take_few most_events (reverse (filter (is_later kind from) (world setup past).log)) in
        record { fewer = omega (arith, none, at, few, all); reached = λ h. absurd (true≢false (sym h)); whole = λ h. upto }

-- an event after the version is told, or came after all that is told

first_or_later : (low n : ℕ) (xs : List Event) (y : Event) → AreRising low xs → IsIn y xs → IsIn y (take n xs) ⊎ (last_version low (take n xs) < y.version)
first_or_later low n [] y r i = absurd i
first_or_later low zero (x ∷ xs) y r i = inr (above low (x ∷ xs) y r i)
  where
    above : (l : ℕ) (zs : List Event) (y : Event) → AreRising l zs → IsIn y zs → l < y.version
    above l [] y r i = absurd i
    above l (z ∷ zs) y r (inl is) = subst (λ (e : Event). l < e.version) is r.0
    above l (z ∷ zs) y r (inr i) = let a = r.0 in let b = above z.version zs y r.1 i in omega (arith, a, b)
first_or_later low (suc n) (x ∷ xs) y r (inl is) = inl (inl is)
first_or_later low (suc n) (x ∷ xs) y r (inr i) = elim (first_or_later x.version n xs y r.1 i) [ inl there ↦ inl (inr there) | inr late ↦ inr late ]

pub told_or_later : (setup : Setup) (past : List Entry) (kind : Kind) (from : ℕ) (y : Event) → from ≤ (world setup past).store.version → IsIn y (world setup past).log → is_later kind from y ≡ true
    → IsIn y (told kind from (world setup past).log) ⊎ ((told_events kind from (world setup past).store.version (world setup past).log).upto < y.version)
told_or_later setup past kind from y low i later = by (length (told kind from (world setup past).log) == most_events) refl
  where
    rising : AreRising from (reverse (filter (is_later kind from) (world setup past).log))
    rising = rising_reverse from (filter (is_later kind from) (world setup past).log)
        (falling_filter (is_later kind from) (world setup past).log (falling setup past)) (above_filter kind from (world setup past).log)

    there : IsIn y (reverse (filter (is_later kind from) (world setup past).log))
    there = in_reverse y (filter (is_later kind from) (world setup past).log) (in_filter (is_later kind from) y (world setup past).log i later)

    whole : (n : ℕ) (xs : List Event) → (length (take n xs) == n) ≡ false → take n xs ≡ xs
    whole zero xs e = absurd (true≢false e)
    whole (suc n) [] e = refl
    whole (suc n) (x ∷ xs) e = ap (λ zs. x ∷ zs) (whole n xs (grind (arith, nat_tests, e)))

    by : (b : Bool) → (length (told kind from (world setup past).log) == most_events) ≡ b → IsIn y (told kind from (world setup past).log)
        ⊎ ((told_events kind from (world setup past).store.version (world setup past).log).upto < y.version)
    by true e =
        let n : length (told kind from (world setup past).log) ≡ most_events = grind (arith, nat_tests, e) in
        let last : last_version (world setup past).store.version (told kind from (world setup past).log) ≡ last_version from
        (told kind from (world setup past).log) = last_any _ _ (told kind from (world setup past).log) (omega (arith, n)) in
        let upto : (told_events kind from (world setup past).store.version (world setup past).log).upto ≡ last_version from (told kind from (world setup past).log) = rw e last in
        elim (first_or_later from most_events (reverse (filter (is_later kind from) (world setup past).log)) y rising there) [ inl t ↦ inl t | inr late ↦ inr (omega (arith, upto, late)) ]
    by false e = inl (subst (IsIn y) (sym (whole most_events (reverse (filter (is_later kind from) (world setup past).log)) e)) there)
