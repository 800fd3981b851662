-- The passes of a new shared world as those of an actor's lives.
use Rattle.std.proofs.Common.{◌≡◌, ◌+◌, ◌<◌, ℕ, suc, length, List, [], ◌∷◌, ◌++◌, slice_index_or, refl, sym, ◌∙◌, ap, subst, arith, All}
use Rattle.std.proofs.lemmas.List.Elements.{All-cons, All-nil}
use Rattle.call_types.specs.declared.ask.Ask.{Ask}
use Rattle.call_types.specs.declared.entry.Entry.{Entry}
use Rattle.call_types.specs.declared.setup.Setup.{Setup}
use Rattle.call_types.specs.declared.reply.Reply.{Reply}
use Rattle.binder_model.specs.Told.{own}
use Rattle.seat_lock.specs.declared.keeps.Keeps.{Ghosts}
use Rattle.seat_lock.specs.declared.pass.Pass.{Pass}
use Rattle.actor_work.specs.Lives.Lived.{AreLives, EachLife, IsLife, known_by_all, past_of}
use Rattle.actor_work.specs.Lives.Order.{Knowledge, known_at}
use Rattle.actor_work.proofs.Lives.Following.{unused_order}
use Rattle.actor_work.proofs.Lives.Living.{as_long, known_there}
use Rattle.shared_world.specs.declared.shared.SharedWorld.{SharedWorld}
use Rattle.shared_world.specs.Lines.{Kept}
use Rattle.shared_world.specs.Passes.{IsFirst, IsOf, mine_of, past_given}
use Rattle.actor_work.specs.Work.Beginning.{AreFrom}

module _ {k : Ghosts Kept Ask Reply Setup} (shared : SharedWorld) (made : ℕ) (given : past_given shared ≡ []) where
  no_entries : (seat : ℕ) (p : Pass Kept Ask Reply Setup k) → IsFirst shared made seat p → mine_of p ≡ []
  no_entries seat p is = is.mine ∙ ap (own seat) given

  first_life : (seat : ℕ) (p : Pass Kept Ask Reply Setup k) → IsFirst shared made seat p → IsLife shared made seat p
  first_life seat p is =
      let none = no_entries seat p is in
      record {
        of = is.of;
        made_is = is.made_is;
        met = is.met;
        number = is.number;
        only = ap (own seat) none ∙ sym none;
        none = λ other differs. ap (own other) none;
      }

  head_first : (first : ℕ) (p : Pass Kept Ask Reply Setup k) (passes : List (Pass Kept Ask Reply Setup k)) → AreFrom shared made first (p ∷ passes) → IsFirst shared made first p
  head_first first p passes from = subst (λ n. IsFirst shared made n p) (omega arith) (from 0 p (omega arith))

  tail_first : (first : ℕ) (p : Pass Kept Ask Reply Setup k) (passes : List (Pass Kept Ask Reply Setup k)) → AreFrom shared made first (p ∷ passes) → AreFrom shared made (first + 1) passes
  tail_first first p passes from i d lt = subst (λ n. IsFirst shared made n (slice_index_or passes i d)) (omega arith) (from (suc i) d (omega (arith, lt)))

  first_each : (first : ℕ) (passes : List (Pass Kept Ask Reply Setup k)) → AreFrom shared made first passes → EachLife shared made first passes
  first_each first [] from = tt
  first_each first (p ∷ passes) from = (first_life first p (head_first first p passes from), first_each (first + 1) passes (tail_first first p passes from))

  pub first_past : (first : ℕ) (passes : List (Pass Kept Ask Reply Setup k)) → AreFrom shared made first passes → past_of passes ≡ []
  first_past first [] from = refl
  first_past first (p ∷ passes) from =
      ap (λ (es : List Entry). es ++ mine_of p) (first_past (first + 1) passes (tail_first first p passes from)) ∙ no_entries first p (head_first first p passes from)

  pub first_lives : (first : ℕ) (passes : List (Pass Kept Ask Reply Setup k)) → AreFrom shared made first passes → AreLives shared made first passes
  first_lives first passes from = record {
    each = first_each first passes from;
    order = unused_order first (known_by_all passes) (λ i lt. first_known i (let n = as_long passes in omega (arith, lt, n)));
  }
    where
      first_known : (i : ℕ) → i < length passes → (own (first + i) (known_at (known_by_all passes) i).1 ≡ (known_at (known_by_all passes) i).0) × ((known_at (known_by_all passes) i).0 ≡ [])
      first_known i lt = by passes from lt
        where
          -- some pass, for the places that there are not
          by : (ps : List (Pass Kept Ask Reply Setup k)) → AreFrom shared made first ps → i < length ps
              → (own (first + i) (known_at (known_by_all ps) i).1 ≡ (known_at (known_by_all ps) i).0) × ((known_at (known_by_all ps) i).0 ≡ [])
          by [] from' lt' = absurd (omega (arith, lt'))
          by (p ∷ ps) from' lt' =
              let first_is = from' i p lt' in
              subst (λ (x : Knowledge). (own (first + i) x.1 ≡ x.0) × (x.0 ≡ [])) (sym (known_there (p ∷ ps) i p lt'))
              (ap (own (first + i)) first_is.seen ∙ sym first_is.mine, no_entries (first + i) (slice_index_or (p ∷ ps) i p) first_is)

pub all_of : {k : Ghosts Kept Ask Reply Setup} (shared : SharedWorld) (made first : ℕ) (passes : List (Pass Kept Ask Reply Setup k)) → EachLife shared made first passes → All (IsOf shared) passes
all_of shared made first [] lives = All-nil (IsOf shared)
all_of shared made first (p ∷ passes) lives = All-cons (IsOf shared) p passes lives.0.of (all_of shared made (first + 1) passes lives.1)
