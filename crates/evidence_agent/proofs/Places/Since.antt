-- An entry at a place, and what is known of those after it.
use Rattle.std.proofs.Common.{
  ◌≡◌,
  ℕ,
  zero,
  suc,
  ◌<◌,
  ◌≤◌,
  List,
  [],
  ◌∷◌,
  ◌++◌,
  length,
  get_or,
  reverse,
  Bool,
  true,
  false,
  true≢false,
  Option,
  Some,
  None,
  inl,
  inr,
  refl,
  sym,
  ◌∙◌,
  ap,
  arith,
  subst,
  if◌then◌else◌,
}
use Rattle.std.specs.Prelude.{◌⊎◌}
use Rattle.std.proofs.lemmas.List.{reverse-append}
use Rattle.call_types.specs.declared.entry.Entry.{Entry}
use Rattle.evidence_agent.specs.declared.by_place.topics.Topic.{Topic}
use Rattle.evidence_agent.specs.Places.Topics.{last_of, speaks}
use Rattle.binder_model.specs.Told.{SomeOf}
use Rattle.evidence_agent.specs.Places.Steps.Since.{Here, IsNever, IsQuietBehind, IsUpto, Later, Since, StandsAt}

pub stands_below : (mine : List Entry) (place : ℕ) (entry : Entry) → StandsAt mine place entry → place < length mine
stands_below [] place entry h = absurd h
stands_below (e ∷ mine) place entry (inl h) = omega (arith, h.0)
stands_below (e ∷ mine) place entry (inr h) = let below = stands_below mine place entry h in omega (arith, below)

length_more : (xs : List Entry) (x : Entry) → length (xs ++ x ∷ []) ≡ suc (length xs)
length_more [] x = refl
length_more (y ∷ ys) x = ap suc (length_more ys x)

before_all : (xs : List Entry) (x : Entry) → StandsAt (xs ++ x ∷ []) 0 x
before_all [] x = inl (refl, refl)
before_all (y ∷ ys) x = inr (before_all ys x)

one_more : (xs : List Entry) (x : Entry) (place : ℕ) (entry : Entry) → StandsAt xs place entry → StandsAt (xs ++ x ∷ []) (suc place) entry
one_more [] x place entry h = absurd h
one_more (y ∷ ys) x place entry (inl h) = inl (length_more ys x ∙ ap suc h.0, h.1)
one_more (y ∷ ys) x place entry (inr h) = inr (one_more ys x place entry h)

-- what is read at a place of the list that stands oldest first
pub read_stands : (xs : List Entry) (i : ℕ) (d : Entry) → i < length xs → StandsAt (reverse xs) i (get_or xs i d)
read_stands [] i d h = absurd (omega (arith, h))
read_stands (x ∷ xs) zero d h = subst (λ ys. StandsAt ys 0 x) (sym (reverse-append (x ∷ []) xs)) (before_all (reverse xs) x)
read_stands (x ∷ xs) (suc i) d h = subst (λ ys. StandsAt ys (suc i) (get_or xs i d)) (sym (reverse-append (x ∷ []) xs)) (one_more (reverse xs) x i
    (get_or xs i d) (read_stands xs i d (omega (arith, h))))

-- of what stands at a place something holds
pub stands_some : (P : Entry → Type 0) (mine : List Entry) (place : ℕ) (entry : Entry) → StandsAt mine place entry → P entry → SomeOf P mine
stands_some P [] place entry h p = absurd h
stands_some P (e ∷ mine) place entry (inl h) p = inl (subst P (sym h.1) p)
stands_some P (e ∷ mine) place entry (inr h) p = inr (stands_some P mine place entry h p)

pub since_below : (q : Entry → Bool) (mine : List Entry) (place : ℕ) (entry : Entry) → Since q mine place entry → place < length mine
since_below q mine place entry (Here {mine = older} e at) = omega (arith, at)
since_below q mine place entry (Later {mine = older} e quiet since) = let below = since_below q older place entry since in omega (arith, below)

-- the topic is one of which each entry speaks that passes the test
abbrev pub Hears : Topic → (Entry → Bool) → Type 0
Hears t q = (e : Entry) → q e ≡ true → speaks t e ≡ true

pub is_quiet : (t : Topic) (q : Entry → Bool) → Hears t q → (e : Entry) → speaks t e ≡ false → q e ≡ false
is_quiet t q hears e quiet = by (q e) (hears e)
  where
    by : (b : Bool) → (b ≡ true → speaks t e ≡ true) → b ≡ false
    by true h = absurd (true≢false (sym (h refl) ∙ quiet))
    by false h = refl

some_place : (a b : ℕ) → Some a ≡ Some b → a ≡ b
some_place a b e = cc

last_below : (t : Topic) (mine : List Entry) (place : ℕ) → last_of t mine ≡ Some place → place < length mine
last_below t [] place h = absurd (true≢false (sym (ap is_there h)))
  where
    is_there : Option ℕ → Bool
    is_there None = false
    is_there (Some n) = true
last_below t (e ∷ mine) place h = by (speaks t e) h (last_below t mine place)
  where
    by : (b : Bool) → (if b then Some (length mine) else last_of t mine) ≡ Some place → (last_of t mine ≡ Some place → place < length mine) → place < suc (length mine)
    by true is below = let at = some_place _ _ is in omega (arith, at)
    by false is below = let under = below is in omega (arith, under)

pub last_since : (t : Topic) (q : Entry → Bool) → Hears t q → (mine : List Entry) (place : ℕ) (entry : Entry) → last_of t mine ≡ Some place → StandsAt mine place entry → Since q mine place entry
last_since t q hears [] place entry is stands = absurd stands
last_since t q hears (e ∷ mine) place entry is stands = by (speaks t e) refl is stands (last_since t q hears mine place entry)
  where
    by : (b : Bool) → speaks t e ≡ b → (if b then Some (length mine) else last_of t mine) ≡ Some place → ((length mine ≡ place) × (e ≡ entry))
        ⊎ StandsAt mine place entry → (last_of t mine ≡ Some place → StandsAt mine place entry → Since q mine place entry) → Since q (e ∷ mine) place entry
    by true said last (inl h) rest = subst (Since q (e ∷ mine) place) h.1 (Here e h.0)
    by true said last (inr h) rest = let at = some_place _ _ last in let below = stands_below mine place entry h in absurd (omega (arith, at, below))
    by false said last (inl h) rest = let below = last_below t mine place last in let at = h.0 in absurd (omega (arith, at, below))
    by false said last (inr h) rest = Later e (is_quiet t q hears e said) (rest last h)

pub last_never : (t : Topic) (q : Entry → Bool) → Hears t q → (mine : List Entry) → last_of t mine ≡ None → IsNever q mine
last_never t q hears [] is = tt
last_never t q hears (e ∷ mine) is = by (speaks t e) refl is (last_never t q hears mine)
  where
    is_there : Option ℕ → Bool
    is_there None = false
    is_there (Some n) = true

    by : (b : Bool) → speaks t e ≡ b → (if b then Some (length mine) else last_of t mine) ≡ None → (last_of t mine ≡ None → IsNever q mine) → (q e ≡ false) × IsNever q mine
    by true said none rest = absurd (true≢false (ap is_there none))
    by false said none rest = (is_quiet t q hears e said, rest none)

-- the entries up to a place are not behind it
quiet_upto : (q : Entry → Bool) (place : ℕ) (mine : List Entry) → length mine ≤ suc place → IsQuietBehind q place mine
quiet_upto q place [] h = tt
quiet_upto q place (e ∷ mine) h = ((λ after. absurd (omega (arith, h, after))), quiet_upto q place mine (omega (arith, h)))

pub last_behind : (t : Topic) (q : Entry → Bool) → Hears t q → (place : ℕ) (mine : List Entry) → IsUpto place (last_of t mine) → IsQuietBehind q place mine
last_behind t q hears place [] upto = tt
last_behind t q hears place (e ∷ mine) upto = by (speaks t e) refl upto (last_behind t q hears place mine)
  where
    by : (b : Bool) → speaks t e ≡ b → IsUpto place (if b then Some (length mine) else last_of t mine)
        → (IsUpto place (last_of t mine) → IsQuietBehind q place mine) → (place < length mine → q e ≡ false) × IsQuietBehind q place mine
    by true said last rest = ((λ after. absurd (omega (arith, last, after))), quiet_upto q place mine (omega (arith, last)))
    by false said last rest = ((λ after. is_quiet t q hears e said), rest last)
