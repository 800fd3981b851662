-- The passes of a new shared world: cut in three, and together again.
use Rattle.std.proofs.Common.{◌≡◌, ◌+◌, ◌<◌, ℕ, List, ◌∷◌, ◌++◌, Option, Some, None, All, drop, length, length-drop, length-take, get_or-drop, slice_index_or, sym, ◌∙◌, ap, subst, take, arith}
use Rattle.std.proofs.lemmas.List.{get_or-take}
use Rattle.std.proofs.lemmas.List.Elements.{All-append, All-cons}
use Rattle.call_types.specs.declared.ask.Ask.{Ask}
use Rattle.call_types.specs.declared.setup.Setup.{Setup}
use Rattle.call_types.specs.declared.reply.Reply.{Reply}
use Rattle.seat_lock.specs.declared.keeps.Keeps.{Ghosts}
use Rattle.seat_lock.specs.declared.pass.Pass.{Pass}
use Rattle.shared_world.specs.declared.shared.SharedWorld.{SharedWorld}
use Rattle.shared_world.specs.Lines.{Kept}
use Rattle.shared_world.specs.Passes.{AreFirst, IsFirst}
use Rattle.actor_work.specs.Work.Beginning.{AreFrom}

abbrev or_else : {X : Type 0} → X → Option X → X
or_else x None = x
or_else x (Some y) = y

-- what was found at a place
pub found_of : {X : Type 0} (P : X → Type 0) (xs : List X) (n : ℕ) (found : Option X) (x : X) → All P xs → n < length xs → found ≡ Some x → found ≡ Some (slice_index_or xs n x) → P x
found_of P xs n found x all lt is at = subst P (ap (or_else x) (sym at ∙ is)) (all n x lt)

pub all_three : {X : Type 0} (P : X → Type 0) (x : X) (xs ys all : List X) → all ≡ x ∷ (xs ++ ys) → P x → All P xs → All P ys → All P all
all_three P x xs ys all is first second third = subst (All P) (sym is) (All-cons P x (xs ++ ys) first (All-append P xs ys second third))

module _ {k : Ghosts Kept Ask Reply Setup} (shared : SharedWorld) (made : ℕ) where
  first_from : (passes : List (Pass Kept Ask Reply Setup k)) → AreFirst shared passes → length passes ≡ made → AreFrom shared made 1 passes
  first_from passes are long i d lt =
      subst (λ n. IsFirst shared n (1 + i) (slice_index_or passes i d)) long (subst (λ n. IsFirst shared (length passes) n (slice_index_or passes i d)) (omega arith) (are i d lt))

  take_from : (first n : ℕ) (passes : List (Pass Kept Ask Reply Setup k)) → AreFrom shared made first passes → AreFrom shared made first (take n passes)
  take_from first n passes from i d lt =
      let fewer = length-take n passes in
      subst (IsFirst shared made (first + i)) (sym (get_or-take n passes i d (omega (arith, lt, fewer)))) (from i d (omega (arith, lt, fewer)))

  drop_from : (first n : ℕ) (passes : List (Pass Kept Ask Reply Setup k)) → AreFrom shared made first passes → AreFrom shared made (first + n) (drop n passes)
  drop_from first n passes from i d lt =
      let fewer = length-drop n passes in
      subst (λ m. IsFirst shared made m (slice_index_or (drop n passes) i d)) (omega arith)
      (subst (IsFirst shared made (first + (n + i))) (sym (get_or-drop n passes i d)) (from (n + i) d (omega (arith, lt, fewer))))

  -- the passes of a new world without the last ones, cut at a place
  module _ (passes left : List (Pass Kept Ask Reply Setup k)) (n at : ℕ) (are : AreFirst shared passes) (long : length passes ≡ made) (left_are : left ≡ take n passes) where
    left_from : AreFrom shared made 1 left
    left_from = subst (AreFrom shared made 1) (sym left_are) (take_from 1 n passes (first_from passes are long))

    pub before_from : (before : List (Pass Kept Ask Reply Setup k)) → before ≡ take at left → AreFrom shared made 1 before
    before_from before is = subst (AreFrom shared made 1) (sym is) (take_from 1 at left left_from)

    pub behind_from : (behind : List (Pass Kept Ask Reply Setup k)) → behind ≡ drop at left → AreFrom shared made (at + 1) behind
    behind_from behind is = subst (λ n. AreFrom shared made n behind) (omega arith) (subst (AreFrom shared made (1 + at)) (sym is) (drop_from 1 at left left_from))
