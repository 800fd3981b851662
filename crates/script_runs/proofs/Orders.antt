-- Lists of parts in the order of their seats, with names of their own; and lists of players of which one has moved.
use Rattle.std.proofs.Common.{◌≡◌, ◌≢◌, ℕ, ◌<◌, ◌≤◌, ◌+◌, zero, suc, List, [], ◌∷◌, ◌++◌, length, set, Bool, true, false, true≢false, if◌then◌else◌, Some, refl, sym, ◌∙◌, ap, subst, arith}
use Rattle.std.specs.Prelude.{bytes_eq, slice_get}
use Rattle.model_laws.proofs.Lists.{none_some, one}
use Rattle.actor_turns.specs.declared.part.Part.{Part}
use Rattle.actor_turns.specs.declared.player.Player.{Player}
use Rattle.actor_turns.specs.Steps.Playing.{IsLife}
use Rattle.actor_turns.specs.Parts.{lives_of}
use Rattle.script_runs.specs.Steps.Standing.{parts_in}
use Rattle.settle_writes.proofs.Writes.Valid.{flipped}

-- ---- the seats

abbrev pub AreInOrder : ℕ → List Part → ℕ → Type 0
AreInOrder low [] high = low ≤ high
AreInOrder low (p ∷ ps) high = (low ≤ p.first) × AreInOrder (p.first + lives_of p) ps high

pub order_low : (low : ℕ) (ps : List Part) (high : ℕ) → AreInOrder low ps high → low ≤ high
order_low low [] high order = order
order_low low (p ∷ ps) high order = let h = order_low (p.first + lives_of p) ps high order.1 in let l = order.0 in omega (arith, h, l)

-- a life's seat is between the ends
pub life_between : (low : ℕ) (ps : List Part) (high i : ℕ) (p : Part) (seat : ℕ) → AreInOrder low ps high → slice_get ps i ≡ Some p → IsLife p seat → (low ≤ seat) × (seat < high)
life_between low [] high i p seat order at life = none_some at
life_between low (x ∷ ps) high zero p seat order at life =
    let h = order_low (x.first + lives_of x) ps high order.1 in
    let own : IsLife x seat = subst (λ (y : Part). IsLife y seat) (sym (one x p at)) life in
    let l = order.0 in
    let a = own.0 in
    let b = own.1 in
    (omega (arith, l, a), omega (arith, h, b))
life_between low (x ∷ ps) high (suc i) p seat order at life =
    let rest = life_between (x.first + lives_of x) ps high i p seat order.1 at life in
    let l = order.0 in
    let a = rest.0 in
    (omega (arith, l, a), rest.1)

-- a seat is one of a life of one part alone
pub one_owner : (low : ℕ) (ps : List Part) (high i j : ℕ) (p q : Part) (seat : ℕ) → AreInOrder low ps high → slice_get ps i ≡ Some p → slice_get ps j ≡ Some q → IsLife p seat → IsLife q seat → i ≡ j
one_owner low [] high i j p q seat order at there own other = none_some at
one_owner low (x ∷ ps) high zero zero p q seat order at there own other = refl
one_owner low (x ∷ ps) high zero (suc j) p q seat order at there own other =
    let later = (life_between (x.first + lives_of x) ps high j q seat order.1 there other).0 in
    let mine : IsLife x seat = subst (λ (y : Part). IsLife y seat) (sym (one x p at)) own in
    let b = mine.1 in
    absurd (omega (arith, later, b))
one_owner low (x ∷ ps) high (suc i) zero p q seat order at there own other =
    let later = (life_between (x.first + lives_of x) ps high i p seat order.1 at own).0 in
    let mine : IsLife x seat = subst (λ (y : Part). IsLife y seat) (sym (one x q there)) other in
    let b = mine.1 in
    absurd (omega (arith, later, b))
one_owner low (x ∷ ps) high (suc i) (suc j) p q seat order at there own other = ap suc (one_owner (x.first + lives_of x) ps high i j p q seat order.1 at there own other)

-- ---- the names

abbrev pub differs_from : List ℕ → List (List ℕ) → Bool
differs_from name [] = true
differs_from name (other ∷ names) = if bytes_eq name other then false else differs_from name names

abbrev pub all_differ : List (List ℕ) → Bool
all_differ [] = true
all_differ (name ∷ names) = if differs_from name names then all_differ names else false

-- the first of names that differ, and the others
pub first_differs : (name : List ℕ) (names : List (List ℕ)) → all_differ (name ∷ names) ≡ true → (differs_from name names ≡ true) × (all_differ names ≡ true)
first_differs name names = by (differs_from name names)
  where
    by : (b : Bool) → (if b then all_differ names else false) ≡ true → (b ≡ true) × (all_differ names ≡ true)
    by true all = (refl, all)
    by false all = absurd (true≢false (sym all))

pub differs_at : (name : List ℕ) (names : List (List ℕ)) (i : ℕ) (other : List ℕ) → differs_from name names ≡ true → slice_get names i ≡ Some other → bytes_eq name other ≡ false
differs_at name [] i other all at = none_some at
differs_at name (x ∷ names) i other all at = by (bytes_eq name x) refl all i at (differs_at name names)
  where
    by : (b : Bool) → bytes_eq name x ≡ b → (if b then false else differs_from name names) ≡ true → (i : ℕ) → slice_get (x ∷ names) i ≡ Some other
        → ((j : ℕ) (o : List ℕ) → differs_from name names ≡ true → slice_get names j ≡ Some o → bytes_eq name o ≡ false) → bytes_eq name other ≡ false
    by true e all i at next = absurd (true≢false (sym all))
    by false e all zero at next = ap (bytes_eq name) (sym (one x other at)) ∙ e
    by false e all (suc i) at next = next i other all at

differs_more : (name : List ℕ) (xs ys : List (List ℕ)) → differs_from name xs ≡ true → differs_from name ys ≡ true → differs_from name (xs ++ ys) ≡ true
differs_more name [] ys a b = b
differs_more name (x ∷ xs) ys a b = by (bytes_eq name x) a (differs_more name xs ys)
  where
    by : (t : Bool) → (if t then false else differs_from name xs) ≡ true
        → (differs_from name xs ≡ true → differs_from name ys ≡ true → differs_from name (xs ++ ys) ≡ true) → (if t then false else differs_from name (xs ++ ys)) ≡ true
    by true a rest = absurd (true≢false (sym a))
    by false a rest = rest a b

-- names that differ, and others that differ from each of them
pub all_more : (xs ys : List (List ℕ)) → all_differ xs ≡ true → ((i : ℕ) (name : List ℕ) → slice_get xs i ≡ Some name → differs_from name ys ≡ true)
    → all_differ ys ≡ true → all_differ (xs ++ ys) ≡ true
all_more [] ys all apart later = later
all_more (x ∷ xs) ys all apart later =
    let first = first_differs x xs all in
    rw (differs_more x xs ys first.0 (apart 0 x refl)) (all_more xs ys first.1 (λ i name at. apart (suc i) name at) later)

pub other_name : (names : List (List ℕ)) (i j : ℕ) (a b : List ℕ) → all_differ names ≡ true → slice_get names i ≡ Some a → slice_get names j ≡ Some b → i ≢ j → bytes_eq a b ≡ false
other_name [] i j a b all at there differs = none_some at
other_name (x ∷ names) zero zero a b all at there differs = absurd (differs refl)
other_name (x ∷ names) zero (suc j) a b all at there differs = subst (λ y. bytes_eq y b ≡ false) (one x a at) (differs_at x names j b (first_differs x names all).0 there)
other_name (x ∷ names) (suc i) zero a b all at there differs = subst (λ y. bytes_eq a y ≡ false) (one x b there) (flipped x a (differs_at x names i a (first_differs x names all).0 at))
other_name (x ∷ names) (suc i) (suc j) a b all at there differs = other_name names i j a b (first_differs x names all).1 at there (λ e. differs (ap suc e))

-- ---- one player in place of another

pub get_set_same : (xs : List Player) (i : ℕ) (x : Player) → i < length xs → slice_get (set xs i x) i ≡ Some x
get_set_same [] i x lt = absurd (omega (arith, lt))
get_set_same (y ∷ xs) zero x lt = refl
get_set_same (y ∷ xs) (suc i) x lt = get_set_same xs i x (omega (arith, lt))

pub get_set_other : (xs : List Player) (i j : ℕ) (x : Player) → j ≢ i → slice_get (set xs i x) j ≡ slice_get xs j
get_set_other [] i j x other = refl
get_set_other (y ∷ xs) zero zero x other = absurd (other refl)
get_set_other (y ∷ xs) zero (suc j) x other = refl
get_set_other (y ∷ xs) (suc i) zero x other = refl
get_set_other (y ∷ xs) (suc i) (suc j) x other = get_set_other xs i j x (λ e. other (ap suc e))

pub parts_set : (xs : List Player) (i : ℕ) (x new : Player) → slice_get xs i ≡ Some x → new.part ≡ x.part → parts_in (set xs i new) ≡ parts_in xs
parts_set [] i x new at same = refl
parts_set (y ∷ xs) zero x new at same = ap (λ p. p ∷ parts_in xs) (same ∙ ap (λ (z : Player). z.part) (sym (one y x at)))
parts_set (y ∷ xs) (suc i) x new at same = ap (λ ps. y.part ∷ ps) (parts_set xs i x new at same)

pub part_at_place : (xs : List Player) (i : ℕ) (x : Player) → slice_get xs i ≡ Some x → slice_get (parts_in xs) i ≡ Some x.part
part_at_place [] i x at = none_some at
part_at_place (y ∷ xs) zero x at = ap (λ (z : Player). Some z.part) (one y x at)
part_at_place (y ∷ xs) (suc i) x at = part_at_place xs i x at
