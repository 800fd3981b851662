-- The passes of an actor's lives, before its work and after it.
use Rattle.std.proofs.Common.{◌≡◌, ◌<◌, ◌≤◌, ◌+◌, ◌-◌, ℕ, List, length, true, sym, ap, subst, arith}
use Rattle.call_types.specs.declared.ask.Ask.{Ask}
use Rattle.call_types.specs.declared.setup.Setup.{Setup}
use Rattle.call_types.specs.declared.reply.Reply.{Reply}
use Rattle.seat_lock.specs.declared.keeps.Keeps.{Ghosts}
use Rattle.seat_lock.specs.declared.pass.Pass.{Pass}
use Rattle.actor_work.specs.Lives.Lived.{AreLives, IsServed, known_by_all}
use Rattle.actor_work.specs.Lives.Order.{IsReached}
use Rattle.actor_work.proofs.Lives.Following.{seen_first}
use Rattle.actor_work.proofs.Lives.Living.{as_long}
use Rattle.shared_world.specs.Lines.{Kept}
use Rattle.shared_world.specs.declared.shared.SharedWorld.{SharedWorld}
use Rattle.actor_turns.specs.declared.part.Part.{Part}
use Rattle.actor_turns.specs.Parts.{lives_by, lives_of}
use Rattle.actor_turns.specs.Steps.Playing.{IsLife}

-- an actor that is named has a life
pub some_life : (part : Part) → part.named ≡ true → 0 < lives_of part
some_life part named = let lives : lives_of part ≡ 1 + length part.restarts = ap (λ b. lives_by b (length part.restarts)) named in omega (arith, lives)

module _ {k : Ghosts Kept Ask Reply Setup} where
  -- the passes that are there are those of the actor's lives, of which none has called here
  pub serves_lives : (shared : SharedWorld) (made first at : ℕ) (passes : List (Pass Kept Ask Reply Setup k)) (part : Part) → first ≡ part.first → at ≡ 0
      → AreLives shared made first passes → length passes ≡ lives_of part → (seat : ℕ) → IsLife part seat → IsServed shared made first at passes seat
  serves_lives shared made first at passes part is none lives many seat life =
      let low = life.0 in
      let high = life.1 in
      let long = as_long passes in
      let some : 0 < length (known_by_all passes) = omega (arith, low, high, many, long) in
      subst (λ (n : ℕ). IsServed shared made first n passes seat) (sym none)
      (lives, seen_first first (known_by_all passes) some lives.order, omega (arith, is, low), omega (arith, is, many, high))

  pub orders_lives : (shared : SharedWorld) (made first at : ℕ) (passes : List (Pass Kept Ask Reply Setup k)) (part : Part) → first ≡ part.first
      → length passes ≡ lives_of part → (seat : ℕ) → IsServed shared made first at passes seat → IsLife part seat
  orders_lives shared made first at passes part is many seat there = let low = there.2 in let high = there.3 in (omega (arith, is, low), omega (arith, is, many, high))

  -- what holds the passes has stayed what it is: the same seats are served
  module _ (shared then_shared : SharedWorld) (made then_made first then_first at then_at : ℕ) (before after : List (Pass Kept Ask Reply Setup k))
      (same_shared : then_shared ≡ shared) (same_made : then_made ≡ made) (same_first : then_first ≡ first) (none : at ≡ 0)
      (some : 0 < length before) (lives : AreLives shared made first before)
      (on : (other : ℕ) → IsServed shared made first at before other → IsServed then_shared then_made then_first then_at after other)
      (back : (other : ℕ) → IsServed then_shared then_made then_first then_at after other → IsServed shared made first at before other) where
    last : IsServed then_shared then_made then_first then_at after (first + (length before - 1))
    last =
        let long = as_long before in
        let reached = subst (λ (n : ℕ). IsReached first n (known_by_all before)) (sym none) (seen_first first (known_by_all before) (omega (arith, some, long)) lives.order) in
        on (first + (length before - 1)) (lives, reached, omega arith, omega (arith, some))

    pub then_lives : AreLives shared made first after
    then_lives = subst (λ s. AreLives s made first after) same_shared
        (subst (λ m. AreLives then_shared m first after) same_made (subst (λ f. AreLives then_shared then_made f after) same_first last.0))

    pub as_many : length after ≡ length before
    as_many =
        let high = last.3 in
        let more : length before ≤ length after = omega (arith, high, same_first, some) in
        let at_end = back (then_first + (length after - 1)) (last.0, last.1, omega arith, omega (arith, more, some)) in
        let low = at_end.3 in
        omega (arith, more, low, same_first, some)
