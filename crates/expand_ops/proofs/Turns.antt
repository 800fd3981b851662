-- A step keeps the numbers of a row in turn, and takes no more than is free; a row that goes gives back what it took.
use Rattle.std.proofs.Common.{◌≡◌, ℕ, zero, suc, ◌+◌, ◌<◌, ◌≤◌, List, [], ◌∷◌, Bool, true, false, cond, Option, Some, None, refl, sym, subst, ap, ◌∙◌, arith, length, get_or, slice_set, true≢false}
use Rattle.std.specs.Prelude.{◌-◌, ◌&&◌, nat_lt, nat_le, is_some}
use Rattle.std.specs.Ordering.{is_eq}
use Rattle.std.proofs.lemmas.Bool.{and_parts}
use Rattle.std.proofs.lemmas.Bool.Decides.{nat_tests}
use Rattle.plain_data.specs.Rows.{IsAfter, without}
use Rattle.plain_data.proofs.RowFacts.{rising_without}
use Rattle.kube_objects.specs.declared.key.Key.{Key}
use Rattle.kube_objects.specs.declared.objects.Object.{Object}
use Rattle.kube_objects.specs.declared.objects.Object.TheVariants.{Class, Node, Volume, Claim, Pod}
use Rattle.kube_objects.specs.Keys.{key_cmp, key_of}
use Rattle.kube_objects.proofs.KeyOrder.{key_cmp_total}
use Rattle.call_types.specs.declared.reply.Reply.{Reply}
use Rattle.call_types.specs.declared.reply.Reply.TheVariants.{Left}
use Rattle.side_calls.specs.declared.sizes.SizeRow.{SizeRow}
use Rattle.side_calls.specs.declared.sizes.SizeStep.{SizeStep}
use Rattle.side_calls.specs.declared.sizes.StepKind.{StepKind}
use Rattle.side_calls.specs.declared.sizes.StepKind.TheVariants as kinds
use Rattle.expand_ops.specs.Sizes.{AreInTurn, AreSizes, Growth, IsGrowth, IsInTurn, kept_after, size_key, taken_by, without_left}
use Rattle.expand_ops.specs.Sizes.{after_step, changed_at, first_step, made, next_step, or_later, step_of}

abbrev pub taken_of : SizeRow → ℕ
taken_of x = x.stored - x.first

-- ---- a row that goes

module _ (k : Key) where
  turns_without : (xs : List SizeRow) → AreInTurn xs → AreInTurn (without key_cmp size_key k xs)
  turns_without [] t = tt
  turns_without (x ∷ xs) t = by (is_eq (key_cmp x.key k)) (turns_without xs t.1)
    where
      by : (b : Bool) → AreInTurn (without key_cmp size_key k xs) → AreInTurn (cond b xs (x ∷ without key_cmp size_key k xs))
      by true rest = t.1
      by false rest = (t.0, rest)

  taken_without : (xs : List SizeRow) → taken_by (without key_cmp size_key k xs) ≤ taken_by xs
  taken_without [] = omega arith
  taken_without (x ∷ xs) = by (is_eq (key_cmp x.key k)) (taken_without xs)
    where
      by : (b : Bool) → taken_by (without key_cmp size_key k xs) ≤ taken_by xs → taken_by (cond b xs (x ∷ without key_cmp size_key k xs)) ≤ (x.stored - x.first) + taken_by xs
      by true rest = omega arith
      by false rest = omega (arith, rest)

without_growth : (k : Key) (g : Growth) → IsGrowth g → IsGrowth (record { reserve = g.reserve; rows = without key_cmp size_key k g.rows })
without_growth k g is = record {
  order = rising_without key_cmp_total size_key k g.rows is.order;
  turns = turns_without k g.rows is.turns;
  few = let less = taken_without k g.rows in let few = is.few in omega (arith, less, few);
}

left_growth : (o : Object) (g : Growth) → IsGrowth g → IsGrowth (record { reserve = g.reserve; rows = without_left o g.rows })
left_growth (Class x) g is = is
left_growth (Node x) g is = is
left_growth (Volume x) g is = is
left_growth (Claim x) g is = without_growth (key_of (Claim x)) g is
left_growth (Pod x) g is = is

pub kept_growth : (reply : Reply) (g : Growth) → IsGrowth g → IsGrowth (record { reserve = g.reserve; rows = kept_after reply g.rows })
kept_growth (Left o) g is = left_growth o g is
kept_growth reply g is = is

-- ---- a step

-- a step that a row can make
record MakesStep (free : ℕ) (x : SizeRow) (k : StepKind) (n : ℕ) : Type 0 where
  turn : IsInTurn (made k n x)
  taken : taken_of (made k n x) ≤ taken_of x + free

data_step : (free : ℕ) (x : SizeRow) → IsInTurn x → (nat_lt x.stored x.asked && nat_le (x.asked - x.stored) free) ≡ true → MakesStep free x kinds.Data x.asked
data_step free x t e =
    let tests = and_parts (nat_lt x.stored x.asked) (nat_le (x.asked - x.stored) free) e in
    let more : nat_lt x.stored x.asked ≡ true = tests.0 in
    let fits : nat_le (x.asked - x.stored) free ≡ true = tests.1 in
    let above : x.stored < x.asked = grind (arith, nat_tests) in
    let few : x.asked - x.stored ≤ free = grind (arith, nat_tests) in
    let volume = t.volume in
    let first = t.first in
    record { turn = record { given = t.given; volume = omega (arith, above, volume); first = omega (arith, above, first) }; taken = omega (arith, above, few, first) }

volume_step : (free : ℕ) (x : SizeRow) → IsInTurn x → nat_lt x.volume x.stored ≡ true → MakesStep free x kinds.Volume x.stored
volume_step free x t e =
    let above : x.volume < x.stored = grind (arith, nat_tests) in
    let given = t.given in
    record { turn = record { given = omega (arith, above, given); volume = omega arith; first = t.first }; taken = omega arith }

given_step : (free : ℕ) (x : SizeRow) → IsInTurn x → MakesStep free x kinds.Given x.volume
given_step free x t = record { turn = record { given = omega arith; volume = t.volume; first = t.first }; taken = omega arith }

pub same_some : {A : Type 0} (a b : A) → Some a ≡ Some b → a ≡ b
same_some a b e = cc

pub no_some : {A : Type 0} (a : A) → None ≡ Some a → ⊥
no_some a e = true≢false (sym (ap is_some e))

abbrev Steps : ℕ → SizeRow → StepKind × ℕ → Type 0
Steps free x step = MakesStep free x step.0 step.1

makes_given : (free : ℕ) (x : SizeRow) → IsInTurn x → (step : StepKind × ℕ) (b : Bool) → cond b (Some (kinds.Given, x.volume)) None ≡ Some step → Steps free x step
makes_given free x t step true f = subst (Steps free x) (same_some (kinds.Given, x.volume) step f) (given_step free x t)
makes_given free x t step false f = absurd (no_some step f)

makes_volume : (free : ℕ) (x : SizeRow) → IsInTurn x → (step : StepKind × ℕ) (b : Bool) → nat_lt x.volume x.stored ≡ b
    → cond b (Some (kinds.Volume, x.stored)) (cond (nat_lt x.given x.volume) (Some (kinds.Given, x.volume)) None) ≡ Some step → Steps free x step
makes_volume free x t step true e f = subst (Steps free x) (same_some (kinds.Volume, x.stored) step f) (volume_step free x t e)
makes_volume free x t step false e f = makes_given free x t step (nat_lt x.given x.volume) f

makes_any : (free : ℕ) (x : SizeRow) → IsInTurn x → (step : StepKind × ℕ) (b : Bool) → (nat_lt x.stored x.asked && nat_le (x.asked - x.stored) free) ≡ b
    → cond b (Some (kinds.Data, x.asked)) (cond (nat_lt x.volume x.stored) (Some (kinds.Volume, x.stored)) (cond (nat_lt x.given x.volume) (Some (kinds.Given, x.volume)) None)) ≡ Some step
    → Steps free x step
makes_any free x t step true e f = subst (Steps free x) (same_some (kinds.Data, x.asked) step f) (data_step free x t e)
makes_any free x t step false e f = makes_volume free x t step (nat_lt x.volume x.stored) refl f

makes_step : (free : ℕ) (x : SizeRow) → IsInTurn x → (step : StepKind × ℕ) → step_of free x ≡ Some step → Steps free x step
makes_step free x t step e = makes_any free x t step (nat_lt x.stored x.asked && nat_le (x.asked - x.stored) free) refl e

-- ---- the rows in which a step is made

pub record FirstAt (free place : ℕ) (xs : List SizeRow) (s : SizeStep) : Type 0 where
  pub at : ℕ
  pub is : s.place ≡ place + at
  pub there : at < length xs
  pub gives : (d : SizeRow) → step_of free (get_or xs at d) ≡ Some (s.kind, s.bytes)

module _ (free : ℕ) where
  pub first_is : (xs : List SizeRow) (place : ℕ) (s : SizeStep) → first_step free place xs ≡ Some s → FirstAt free place xs s
  first_is [] place s e = absurd (no_some s e)
  first_is (x ∷ xs) place s e = by (step_of free x) refl e (first_is xs (place + 1) s)
    where
      by : (r : Option (StepKind × ℕ)) → step_of free x ≡ r → or_later place r (first_step free (place + 1) xs) ≡ Some s
          → (first_step free (place + 1) xs ≡ Some s → FirstAt free (place + 1) xs s) → FirstAt free place (x ∷ xs) s
      by None none f rest =
          let r = rest f in
          let at = r.at in
          let is = r.is in
          let there = r.there in
          record { at = suc at; is = omega (arith, is); there = omega (arith, there); gives = λ d. r.gives d }
      by (Some step) some f rest =
          let same = same_some (record { kind = step.0; place = place; bytes = step.1 }) s f in
          record {
            at = 0;
            is = let p = ap (λ (z : SizeStep). z.place) same in omega (arith, p);
            there = omega arith;
            gives = λ d. some ∙ ap (λ (z : SizeStep). Some (z.kind, z.bytes)) same;
          }

  changed_turns : (xs : List SizeRow) (i : ℕ) (k : StepKind) (n : ℕ) → AreInTurn xs → i < length xs
      → ((d : SizeRow) → step_of free (get_or xs i d) ≡ Some (k, n)) → AreInTurn (changed_at i (made k n) xs)
  changed_turns [] i k n t lt e = tt
  changed_turns (x ∷ xs) zero k n t lt e = ((makes_step free x t.0 (k, n) (e x)).turn, t.1)
  changed_turns (x ∷ xs) (suc i) k n t lt e = (t.0, changed_turns xs i k n t.1 (omega arith) e)

  changed_taken : (xs : List SizeRow) (i : ℕ) (k : StepKind) (n : ℕ) → AreInTurn xs → i < length xs
      → ((d : SizeRow) → step_of free (get_or xs i d) ≡ Some (k, n)) → taken_by (changed_at i (made k n) xs) ≤ taken_by xs + free
  changed_taken [] i k n t lt e = omega arith
  changed_taken (x ∷ xs) zero k n t lt e = let m = (makes_step free x t.0 (k, n) (e x)).taken in omega (arith, m)
  changed_taken (x ∷ xs) (suc i) k n t lt e = let rest = changed_taken xs i k n t.1 (omega arith) e in omega (arith, rest)

pub made_key : (k : StepKind) (n : ℕ) (x : SizeRow) → (made k n x).key ≡ x.key
made_key kinds.Data n x = refl
made_key kinds.Volume n x = refl
made_key kinds.Given n x = refl

made_after : (k : StepKind) (n : ℕ) (x : SizeRow) (xs : List SizeRow) → IsAfter key_cmp size_key x xs → IsAfter key_cmp size_key (made k n x) xs
made_after k n x [] a = tt
made_after k n x (y ∷ ys) a = (rw (made_key k n x) a.0, made_after k n x ys a.1)

after_made : (k : StepKind) (n : ℕ) (z : SizeRow) (xs : List SizeRow) (i : ℕ) → IsAfter key_cmp size_key z xs → IsAfter key_cmp size_key z (changed_at i (made k n) xs)
after_made k n z [] i a = tt
after_made k n z (x ∷ xs) zero a = (rw (made_key k n x) a.0, a.1)
after_made k n z (x ∷ xs) (suc i) a = (a.0, after_made k n z xs i a.1)

changed_rise : (k : StepKind) (n : ℕ) (xs : List SizeRow) (i : ℕ) → AreSizes xs → AreSizes (changed_at i (made k n) xs)
changed_rise k n [] i r = tt
changed_rise k n (x ∷ xs) zero r = (made_after k n x xs r.0, r.1)
changed_rise k n (x ∷ xs) (suc i) r = (after_made k n x xs i r.0, changed_rise k n xs i r.1)

-- the place of the next step is one of the rows
pub step_there : (g : Growth) (s : SizeStep) → next_step g ≡ Some s → s.place < length g.rows
step_there g s e = let f = first_is (g.reserve - taken_by g.rows) g.rows 0 s e in let is = f.is in let there = f.there in omega (arith, is, there)

pub step_growth : (g : Growth) (s : Option SizeStep) → IsGrowth g → next_step g ≡ s → IsGrowth (record { reserve = g.reserve; rows = after_step s g.rows })
step_growth g None is e = is
step_growth g (Some s) is e =
    let free = g.reserve - taken_by g.rows in
    let f = first_is free g.rows 0 s e in
    let at : s.place ≡ f.at = let is = f.is in omega (arith, is) in
    record {
      order = changed_rise s.kind s.bytes g.rows s.place is.order;
      turns = rw at (changed_turns free g.rows f.at s.kind s.bytes is.turns f.there f.gives);
      few = rw at (let more = changed_taken free g.rows f.at s.kind s.bytes is.turns f.there f.gives in let few = is.few in omega (arith, more, few));
    }

pub taken_few : (g : Growth) → IsGrowth g → taken_by g.rows ≤ g.reserve
taken_few g is = is.few

-- what is changed at a place is set there
pub changed_set : (f : SizeRow → SizeRow) (xs : List SizeRow) (i : ℕ) (d : SizeRow) → i < length xs → changed_at i f xs ≡ slice_set xs i (f (get_or xs i d))
changed_set f [] i d lt = absurd (omega arith)
changed_set f (x ∷ xs) zero d lt = refl
changed_set f (x ∷ xs) (suc i) d lt = ap (λ ys. x ∷ ys) (changed_set f xs i d (omega arith))
