-- Lives that follow one another, and what a history has of them.
use Rattle.std.proofs.Common.{
  ◌≡◌,
  ◌≢◌,
  ◌⊎◌,
  inl,
  inr,
  ℕ,
  zero,
  suc,
  ◌+◌,
  ◌<◌,
  ◌≤◌,
  List,
  [],
  ◌∷◌,
  ◌++◌,
  length,
  slice_index_or,
  slice_set,
  Bool,
  true,
  false,
  refl,
  sym,
  ◌∙◌,
  ap,
  subst,
  subst₂,
  arith,
  if◌then◌else◌,
  append_assoc,
}
use Rattle.std.specs.Prelude.{◌==◌}
use Rattle.std.proofs.lemmas.List.{append-nil, get_or-set_other, get_or-set_same, length-append, length-set}
use mathlib.Core.Logic.{dite}
use native.Mathlib.Decide.{ℕ_discrete}
use Rattle.call_types.specs.declared.entry.Entry.{Entry}
use Rattle.binder_model.specs.Told.{own}
use Rattle.shared_world.specs.Passes.{Begins}
use Rattle.actor_work.specs.Lives.Order.{AreOrdered, ComesAfter, Follows, HasSeenEarlier, HasTold, IsReached, Knowledge, StandsBefore, known_at}

pub own_both : (s : ℕ) (newer older : List Entry) → own s (newer ++ older) ≡ own s newer ++ own s older
own_both s [] older = refl
own_both s (e ∷ newer) older = by (e.seat == s) (own_both s newer older)
  where
    by : (b : Bool) → own s (newer ++ older) ≡ own s newer ++ own s older
        → (if b then e ∷ own s (newer ++ older) else own s (newer ++ older)) ≡ (if b then e ∷ own s newer else own s newer) ++ own s older
    by true rest = ap (λ (es : List Entry). e ∷ es) rest
    by false rest = rest

-- ---- beginnings

pub begins_on : (a b c : List Entry) → Begins a b → Begins b c → Begins a c
begins_on a b c x y = (x.0 ++ y.0, x.1 ∙ ap (λ (es : List Entry). x.0 ++ es) y.1 ∙ sym (append_assoc x.0 y.0 c))

pub begins_self : (a : List Entry) → Begins a a
begins_self a = ([], refl)

pub begins_none : (a b : List Entry) → b ≡ [] → Begins a b
begins_none a b none = (a, sym (append-nil a) ∙ ap (λ (es : List Entry). a ++ es) (sym none))

pub begins_own : (s : ℕ) (a b : List Entry) → Begins a b → Begins (own s a) (own s b)
begins_own s a b x = (own s x.0, ap (own s) x.1 ∙ own_both s x.0 b)

empty : (a : List Entry) → length a ≡ 0 → a ≡ []
empty [] none = refl
empty (e ∷ a) none = absurd (omega (arith, none))

longer : (a b : List Entry) (x : Begins a b) → length a ≡ length x.0 + length b
longer a b x = ap length x.1 ∙ length-append x.0 b

-- two lists that begin with one another are the same
pub begins_both : (a b : List Entry) → Begins a b → Begins b a → a ≡ b
begins_both a b x y =
    let m = longer a b x in
    let n = longer b a y in
    let none : x.0 ≡ [] = empty x.0 (omega (arith, m, n)) in
    x.1 ∙ ap (λ (es : List Entry). es ++ b) none

-- ---- the life at one place, changed

module _ (lives : List Knowledge) (place : ℕ) (now : Knowledge) (within : place < length lives) where
  here : known_at (slice_set lives place now) place ≡ now
  here = get_or-set_same lives place now ([], []) within

  there : (i : ℕ) → i ≢ place → known_at (slice_set lives place now) i ≡ known_at lives i
  there i other = get_or-set_other lives place i now ([], []) other

  long : length (slice_set lives place now) ≡ length lives
  long = length-set lives place now

  -- of each place, where it holds of the new value and of the old ones
  each : (P : ℕ → Knowledge → Type 0) → P place now → ((i : ℕ) → i ≢ place → P i (known_at lives i)) → (i : ℕ) → P i (known_at (slice_set lives place now) i)
  each P new old i = dite (ℕ_discrete i place)
      (λ e. subst₂ P (sym e) (sym (ap (known_at (slice_set lives place now)) e ∙ here)) new)
      (λ n. subst (P i) (sym (there i n)) (old i n))

  module _ (first : ℕ) where
    -- a life that has seen more, with the entries that it had
    module _ (same : now.0 ≡ (known_at lives place).0) (more : Begins now.1 (known_at lives place).1) where
      seen_more : (earlier later : ℕ) (before : Knowledge) → Follows earlier later before (known_at lives place) → Follows earlier later before now
      seen_more earlier later before (inl none) = inl (same ∙ none)
      seen_more earlier later before (inr after) =
          inr (record { point = after.point; begins = begins_on now.1 (known_at lives place).1 after.point more after.begins; all = after.all; none = after.none })

      same_before : (earlier later : ℕ) (after : Knowledge) → Follows earlier later (known_at lives place) after → Follows earlier later now after
      same_before earlier later after = subst (λ (mine : List Entry). (after.0 ≡ []) ⊎ ComesAfter earlier later mine after.1) (sym same)

      pub learnt_order : own (first + place) now.1 ≡ now.0 → AreOrdered first lives → AreOrdered first (slice_set lives place now)
      learnt_order mine order = record {
        selves = λ i lt. each (λ j k. j < length lives → own (first + j) k.1 ≡ k.0) (λ _. mine) (λ j other lt'. order.selves j lt') i (omega (arith, lt, long));
        follow = λ i j lt in_them. each (λ n k. i < n → n < length lives → Follows (first + i) (first + n) (known_at (slice_set lives place now) i) k)
            (λ lt' in'. each (λ m k. m < place → Follows (first + m) (first + place) k now) (λ lt''. absurd (omega (arith, lt'')))
            (λ m other lt''. seen_more (first + m) (first + place) (known_at lives m) (order.follow m place lt'' in')) i lt')
            (λ n other lt' in'. each (λ m k. m < n → Follows (first + m) (first + n) k (known_at lives n))
            (λ lt''. same_before (first + place) (first + n) (known_at lives n) (order.follow place n lt'' in'))
            (λ m other' lt''. order.follow m n lt'' in') i lt') j lt (omega (arith, in_them, long));
      }

    -- the life that is reached, with one entry more
    module _ (e : Entry) (mine : now.0 ≡ e ∷ (known_at lives place).0) (more : Begins now.1 (known_at lives place).1) (only : own (first + place) now.1 ≡ now.0)
        (later : (j : ℕ) → place < j → j < length lives → (known_at lives j).0 ≡ []) where
      called_after : (m : ℕ) → m < place → AreOrdered first lives → HasSeenEarlier first place lives → Follows (first + m) (first + place) (known_at lives m) now
      called_after m lt order reached = by (order.follow m place lt within)
        where
          by : Follows (first + m) (first + place) (known_at lives m) (known_at lives place) → Follows (first + m) (first + place) (known_at lives m) now
          by (inl none) = inr (record {
            point = (known_at lives place).1;
            begins = more;
            all = reached.knows m (omega (arith, lt));
            none = order.selves place within ∙ none;
          })
          by (inr after) = inr (record { point = after.point; begins = begins_on now.1 (known_at lives place).1 after.point more after.begins; all = after.all; none = after.none })

      pub called_order : AreOrdered first lives → HasSeenEarlier first place lives → AreOrdered first (slice_set lives place now)
      called_order order reached = record {
        selves = λ i lt. each (λ j k. j < length lives → own (first + j) k.1 ≡ k.0) (λ _. only) (λ j other lt'. order.selves j lt') i (omega (arith, lt, long));
        follow = λ i j lt in_them. each (λ n k. i < n → n < length lives → Follows (first + i) (first + n) (known_at (slice_set lives place now) i) k)
            (λ lt' in'. each (λ m k. m < place → Follows (first + m) (first + place) k now) (λ lt''. absurd (omega (arith, lt'')))
            (λ m other lt''. called_after m lt'' order reached) i lt')
            (λ n other lt' in'. each (λ m k. m < n → Follows (first + m) (first + n) k (known_at lives n))
            (λ lt''. inl (later n lt'' in'))
            (λ m other' lt''. order.follow m n lt'' in') i lt') j lt (omega (arith, in_them, long));
      }

      pub called_reached : HasSeenEarlier first place lives → IsReached first place (slice_set lives place now)
      called_reached reached = record {
        seen = record {
          within = omega (arith, within, long);
          knows = λ i le. subst (λ (k : Knowledge). Begins (own (first + i) k.1) (known_at (slice_set lives place now) i).0) (sym here)
              (each (λ j k. j ≤ place → Begins (own (first + j) now.1) k.0) (λ _. ([], only))
              (λ j other le'. begins_on (own (first + j) now.1) (own (first + j) (known_at lives place).1) (known_at lives j).0
              (begins_own (first + j) now.1 (known_at lives place).1 more) (reached.knows j le')) i le);
        };
        called = inr (λ none. some e (known_at lives place).0 (sym mine ∙ (ap (λ (k : Knowledge). k.0) (sym here) ∙ none)));
      }
        where
          some : (e : Entry) (es : List Entry) → e ∷ es ≡ [] → ⊥
          some e es none = absurd (let n = ap length none in omega (arith, n))

-- ---- one life after another

-- lives that have no entry, of seats of which they have seen what was handed in
pub unused_order : (first : ℕ) (lives : List Knowledge) → ((i : ℕ) → i < length lives → (own (first + i) (known_at lives i).1 ≡ (known_at lives i).0) × ((known_at lives i).0 ≡ []))
    → AreOrdered first lives
unused_order first lives unused = record { selves = λ i lt. (unused i lt).0; follow = λ i j lt in_them. inl (unused j in_them).1 }

-- the first life has seen its own
pub seen_first : (first : ℕ) (lives : List Knowledge) → 0 < length lives → AreOrdered first lives → IsReached first 0 lives
seen_first first lives some order = record {
  seen = record {
    within = some;
    knows = λ i le. let zero_is : 0 ≡ i = omega (arith, le) in
        subst (λ (n : ℕ). Begins (own (first + n) (known_at lives 0).1) (known_at lives n).0) zero_is ([], order.selves 0 some);
  };
  called = inl refl;
}

-- the lives from the one that is reached to below another one were told to the life at a place behind them
pub record IsTold (first at place next : ℕ) (lives : List Knowledge) : Type 0 where
  pub reached : HasSeenEarlier first at lives
  pub told : (i : ℕ) → at < next → i < next → Begins (own (first + i) (known_at lives place).1) (known_at lives i).0

pub none_told : (first at place : ℕ) (lives : List Knowledge) → HasSeenEarlier first at lives → IsTold first at place at lives
none_told first at place lives reached = record { reached = reached; told = λ i lt below. absurd (omega (arith, lt)) }

pub one_told : (first at place next : ℕ) (lives after : List Knowledge) → AreOrdered first lives → place < length lives → at ≤ next → next < place
    → HasTold next place lives after → IsTold first at place next lives → IsTold first at place (next + 1) after
one_told first at place next lives after order in_them low high told before =
    subst (IsTold first at place (next + 1)) (sym told.is) record {
      reached = record {
        within = let n = long lives place new in_them in let m = before.reached.within in omega (arith, n, m);
        knows = λ i le. subst₂ (λ (k l : Knowledge). Begins (own (first + i) k.1) l.0) (sym (same at (λ e. omega (arith, e, low, high))))
            (sym (same i (λ e. omega (arith, e, le, low, high)))) (before.reached.knows i le);
      };
      told = λ i lt below. subst₂ (λ (k l : Knowledge). Begins (own (first + i) k.1) l.0) (sym (here lives place new in_them)) (sym (same i (λ e. omega (arith, e, below, high)))) (by i below);
    }
  where
    new : Knowledge
    new = ((known_at lives place).0, told.now)

    same : (i : ℕ) → i ≢ place → known_at (slice_set lives place new) i ≡ known_at lives i
    same i other = there lives place new in_them i other

    -- what the one that was told last had seen
    last : (i : ℕ) → Begins (own (first + i) (known_at lives next).1) (known_at lives i).0 → Begins (own (first + i) told.now) (known_at lives i).0
    last i has = begins_on (own (first + i) told.now) (own (first + i) (known_at lives next).1) (known_at lives i).0 (begins_own (first + i) told.now (known_at lives next).1 told.new) has

    by : (i : ℕ) → i < next + 1 → Begins (own (first + i) told.now) (known_at lives i).0
    by i below = dite (ℕ_discrete i next)
        (λ e. subst (λ (n : ℕ). Begins (own (first + n) told.now) (known_at lives n).0) (sym e) (last next ([], order.selves next (omega (arith, high, in_them)))))
        (λ n. dite (ℕ_discrete at next)
        (λ e. last i (subst (λ (m : ℕ). Begins (own (first + i) (known_at lives m).1) (known_at lives i).0) e (before.reached.knows i (omega (arith, below, n, e)))))
        (λ more. begins_on (own (first + i) told.now) (own (first + i) (known_at lives place).1) (known_at lives i).0
        (begins_own (first + i) told.now (known_at lives place).1 told.old) (before.told i (omega (arith, more, low)) (omega (arith, below, n)))))

pub all_told : (first at place : ℕ) (lives : List Knowledge) → AreOrdered first lives → place < length lives → at ≤ place → IsTold first at place place lives → HasSeenEarlier first place lives
all_told first at place lives order in_them le told = dite (ℕ_discrete at place)
    (λ e. subst (λ (n : ℕ). HasSeenEarlier first n lives) e told.reached)
    (λ n. record {
      within = in_them;
      knows = λ i below. dite (ℕ_discrete i place)
          (λ e. subst (λ (m : ℕ). Begins (own (first + m) (known_at lives place).1) (known_at lives m).0) (sym e) ([], order.selves place in_them))
          (λ m. told.told i (omega (arith, n, le)) (omega (arith, below, m)));
    })

-- ---- a history of which each life knows its part

module _ (first : ℕ) (lives : List Knowledge) (order : AreOrdered first lives) (past : List Entry)
    (begins : (i : ℕ) → i < length lives → Begins past (known_at lives i).1) (mine : (i : ℕ) → i < length lives → own (first + i) past ≡ (known_at lives i).0) where
  after_point : (i j : ℕ) → i < length lives → j < length lives → ComesAfter (first + i) (first + j) (known_at lives i).0 (known_at lives j).1 → StandsBefore (first + i) (first + j) past
  after_point i j in_i in_j after =
      let since = begins_on past (known_at lives j).1 after.point (begins j in_j) after.begins in
      let parts : own (first + i) past ≡ own (first + i) since.0 ++ own (first + i) after.point = ap (own (first + i)) since.1 ∙ own_both (first + i) since.0 after.point in
      let a = ap length (sym (mine i in_i) ∙ parts) ∙ length-append (own (first + i) since.0) (own (first + i) after.point) in
      let b = longer (own (first + i) after.point) (known_at lives i).0 after.all in
      record { late = since.0; early = after.point; is = since.1; all = empty (own (first + i) since.0) (omega (arith, a, b)); none = after.none }

  pub in_order : (i j : ℕ) → i < j → j < length lives → StandsBefore (first + i) (first + j) past
  in_order i j lt in_j = by (order.follow i j lt in_j)
    where
      by : Follows (first + i) (first + j) (known_at lives i) (known_at lives j) → StandsBefore (first + i) (first + j) past
      by (inl none) = record { late = []; early = past; is = refl; all = refl; none = mine j in_j ∙ none }
      by (inr after) = after_point i j (omega (arith, lt, in_j)) in_j after
