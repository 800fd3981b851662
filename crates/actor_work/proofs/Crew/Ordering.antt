-- The order of an actor's lives, in what their passes know and in a history that has all of it.
use Rattle.std.proofs.Common.{◌≡◌, ◌+◌, ◌-◌, ◌<◌, ◌≤◌, ℕ, List, [], ◌∷◌, length, slice_index_or, sym, ◌∙◌, ap, subst, subst₂, arith, All}
use Rattle.std.specs.List.{AllByRecursion}
use Rattle.std.proofs.lemmas.List.Elements.{All-from_recursion}
use Rattle.call_types.specs.declared.ask.Ask.{Ask}
use Rattle.call_types.specs.declared.entry.Entry.{Entry}
use Rattle.call_types.specs.declared.setup.Setup.{Setup}
use Rattle.call_types.specs.declared.reply.Reply.{Reply}
use Rattle.binder_model.specs.Told.{own}
use Rattle.seat_lock.specs.declared.keeps.Keeps.{Ghosts}
use Rattle.seat_lock.specs.declared.pass.Pass.{Pass}
use Rattle.seat_lock.specs.Passes.{number_of}
use Rattle.shared_world.specs.declared.shared.SharedWorld.{SharedWorld}
use Rattle.shared_world.specs.Lines.{Kept}
use Rattle.shared_world.specs.Passes.{Begins, IsFirst, IsIn, mine_of, seen_by}
use Rattle.actor_turns.specs.declared.part.Part.{Part}
use Rattle.actor_turns.specs.Parts.{lives_of}
use Rattle.actor_work.specs.Lives.Lived.{AreLives, EachLife, known_by_all}
use Rattle.actor_work.specs.Lives.Order.{AreInOrder, Knowledge, StandsBefore, known_at}
use Rattle.actor_work.proofs.Lives.Following.{in_order, unused_order}
use Rattle.actor_work.proofs.Lives.Living.{as_long, known_there, life_at, own_at}
use Rattle.actor_work.proofs.Crew.Seating.{AreUnused}

module _ {k : Ghosts Kept Ask Reply Setup} (shared : SharedWorld) (made : ℕ) where
  first_known : (first many i : ℕ) (passes : List (Pass Kept Ask Reply Setup k)) → AllByRecursion (λ p. IsFirst shared made (number_of p) p) passes → AreUnused shared made first many passes
      → i < length passes → (own (first + i) (known_at (known_by_all passes) i).1 ≡ (known_at (known_by_all passes) i).0) × ((known_at (known_by_all passes) i).0 ≡ [])
  first_known first many i [] new unused lt = absurd (omega (arith, lt))
  first_known first many i (p ∷ passes) new unused lt =
      let x = slice_index_or (p ∷ passes) i p in
      let is = All-from_recursion (λ q. IsFirst shared made (number_of q) q) (p ∷ passes) new i p lt in
      let life = life_at shared made first i (p ∷ passes) p unused.lives lt in
      let none : mine_of x ≡ [] = sym (own_at shared made first i (p ∷ passes) p unused.lives lt) ∙ ap (own (first + i)) unused.none in
      subst (λ (n : Knowledge). (own (first + i) n.1 ≡ n.0) × (n.0 ≡ [])) (sym (known_there (p ∷ passes) i p lt))
      (ap (λ (n : ℕ). own n (seen_by x)) (sym life.number) ∙ ap (own (number_of x)) is.seen ∙ sym is.mine, none)

  -- new passes of seats without entries may be those of lives
  pub unused_lives : (first many : ℕ) (passes : List (Pass Kept Ask Reply Setup k)) → AllByRecursion (λ p. IsFirst shared made (number_of p) p) passes
      → AreUnused shared made first many passes → AreLives shared made first passes
  unused_lives first many passes new unused = record {
    each = unused.lives;
    order = unused_order first (known_by_all passes) (λ i lt. first_known first many i passes new unused (let n = as_long passes in omega (arith, lt, n)));
  }

  in_known : (first i : ℕ) (passes : List (Pass Kept Ask Reply Setup k)) (past : List Entry) → EachLife shared made first passes → All (IsIn past) passes
      → i < length passes → Begins past (known_at (known_by_all passes) i).1 × (own (first + i) past ≡ (known_at (known_by_all passes) i).0)
  in_known first i [] past lives in_past lt = absurd (omega (arith, lt))
  in_known first i (p ∷ passes) past lives in_past lt =
      let is = in_past i p lt in
      let life = life_at shared made first i (p ∷ passes) p lives lt in
      subst (λ (n : Knowledge). Begins past n.1 × (own (first + i) past ≡ n.0)) (sym (known_there (p ∷ passes) i p lt))
      (is.seen, ap (λ (n : ℕ). own n past) (sym life.number) ∙ is.mine)

  -- the lives stand in order in each history that has what their passes know
  pub lives_in_order : (part : Part) (passes : List (Pass Kept Ask Reply Setup k)) → AreLives shared made part.first passes → length passes ≡ lives_of part
      → (past : List Entry) → All (IsIn past) passes → AreInOrder part past
  lives_in_order part passes lives many past in_past earlier later low lt high =
      let long = as_long passes in
      let known = λ (n : ℕ) (in_them : n < length (known_by_all passes)). in_known part.first n passes past lives.each in_past (omega (arith, in_them, long)) in
      let a : part.first + (earlier - part.first) ≡ earlier = omega (arith, low) in
      let b : part.first + (later - part.first) ≡ later = omega (arith, low, lt) in
      subst₂ (λ (m : ℕ) (n : ℕ). StandsBefore m n past) a b
      (in_order part.first (known_by_all passes) lives.order past (λ n in_them. (known n in_them).0) (λ n in_them. (known n in_them).1)
      (earlier - part.first) (later - part.first) (omega (arith, low, lt)) (omega (arith, low, lt, high, many, long)))
