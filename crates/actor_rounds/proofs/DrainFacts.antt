-- What follows from how a drain was made.
use Rattle.std.proofs.Common.{◌≡◌, ◌⊎◌, ◌∙◌, ◌+◌, ◌-◌, ◌≤◌, ℕ, List, Some, refl, sym, ap, subst, inl, inr, arith}
use Rattle.call_types.specs.declared.entry.Entry.{Entry}
use Rattle.call_types.specs.declared.setup.Setup.{Setup}
use Rattle.binder_model.specs.World.{world}
use Rattle.world_core.specs.declared.drained.Drained.{Drained}
use Rattle.world_core.specs.declared.drained.Drained.TheVariants.{Settled, Spent}
use Rattle.binder_model.specs.Due.{IsSettled}
use Rattle.settle_check.proofs.Settled.{not_settled}
use Rattle.actor_rounds.specs.declared.drainers.Drainer.{Drainer}
use Rattle.actor_rounds.specs.Drainers.{roles_of, seats_of}
use Rattle.actor_rounds.specs.Longer.{GrowsWithin, IsLonger, users_of}
use Rattle.actor_rounds.specs.Rounds.{Drains, EndsHere, Goes, Lets, NothingDue, IsSpent, all_pass, made_of}
use Rattle.actor_rounds.proofs.Entries.{longer_then, not_longer, not_within, within_then}
use Rattle.actor_rounds.proofs.RoundFacts.{AreBuilt, round_grows, round_left, round_longer, round_roles, round_seats, round_users}

module _ (lets : Lets) (setup : Setup) (after : List Drainer) (past : List Entry) (left : ℕ) where
  pub drains_left : (ds : List Drainer) (h : List Entry) (b : ℕ) → Drains lets setup after past left ds h b → left ≤ b
  drains_left ds h b (NothingDue settled same entries rest) = omega arith
  drains_left ds h b (IsSpent first due none same entries rest) = omega arith
  drains_left ds h b (Goes first due some between middle rest whole round more) =
      let low = drains_left _ _ _ more in
      let high = round_left _ _ _ _ _ _ _ _ round in
      omega arith

  -- a drain that finds the world settled makes no call
  pub drains_none : (ds : List Drainer) (h : List Entry) (b : ℕ) → Drains lets setup after past left ds h b → IsSettled setup (world setup h) → past ≡ h
  drains_none ds h b (NothingDue settled same entries rest) nothing = entries
  drains_none ds h b (IsSpent first due none same entries rest) nothing = entries
  drains_none ds h b (Goes first due some between middle rest whole round more) nothing = absurd (not_settled setup (world setup h) first due nothing)

  -- it ends settled, or with no call left
  pub drains_end : (ds : List Drainer) (h : List Entry) (b : ℕ) → Drains lets setup after past left ds h b → IsSettled setup (world setup past) ⊎ (left ≡ 0)
  drains_end ds h b (NothingDue settled same entries rest) = inl (subst (λ p. IsSettled setup (world setup p)) (sym entries) settled)
  drains_end ds h b (IsSpent first due none same entries rest) = inr (rest ∙ none)
  drains_end ds h b (Goes first due some between middle rest whole round more) = drains_end _ _ _ more

  -- the seats stay, and the roles

  pub drains_seats : (ds : List Drainer) (h : List Entry) (b : ℕ) → Drains lets setup after past left ds h b → seats_of after ≡ seats_of ds
  drains_seats ds h b (NothingDue settled same entries rest) = ap seats_of same
  drains_seats ds h b (IsSpent first due none same entries rest) = ap seats_of same
  drains_seats ds h b (Goes first due some between middle rest whole round more) = drains_seats _ _ _ more ∙ round_seats _ _ _ _ _ _ _ _ round

  pub drains_roles : (ds : List Drainer) (h : List Entry) (b : ℕ) → Drains lets setup after past left ds h b → roles_of after ≡ roles_of ds
  drains_roles ds h b (NothingDue settled same entries rest) = ap roles_of same
  drains_roles ds h b (IsSpent first due none same entries rest) = ap roles_of same
  drains_roles ds h b (Goes first due some between middle rest whole round more) = drains_roles _ _ _ more ∙ round_roles _ _ _ _ _ _ _ _ round

  -- the entries are the earlier ones and then some of the drainers' seats, no more than calls were made
  pub drains_grow : (ds : List Drainer) (h : List Entry) (b : ℕ) → Drains lets setup after past left ds h b → GrowsWithin (seats_of ds) (b - left) h past
  drains_grow ds h b (NothingDue settled same entries rest) = not_within (seats_of ds) (b - left) h past entries
  drains_grow ds h b (IsSpent first due none same entries rest) = not_within (seats_of ds) (b - left) h past entries
  drains_grow ds h b (Goes first due some between middle rest whole round more) =
      let low = drains_left _ _ _ more in
      let high = round_left _ _ _ _ _ _ _ _ round in
      within_then (seats_of ds) (b - rest) (rest - left) (b - left) h middle past (omega arith) (round_grows _ _ _ _ _ _ _ _ round)
      (subst (λ seats. GrowsWithin seats (rest - left) middle past) (round_seats _ _ _ _ _ _ _ _ round) (drains_grow _ _ _ more))

  -- none of them is a user's
  pub drains_users : (ds : List Drainer) (h : List Entry) (b : ℕ) → Drains lets setup after past left ds h b → AreBuilt (roles_of ds) → users_of past ≡ users_of h
  drains_users ds h b (NothingDue settled same entries rest) built = ap users_of entries
  drains_users ds h b (IsSpent first due none same entries rest) built = ap users_of entries
  drains_users ds h b (Goes first due some between middle rest whole round more) built =
      drains_users _ _ _ more (subst AreBuilt (sym (round_roles _ _ _ _ _ _ _ _ round)) built) ∙ round_users _ _ _ _ _ _ _ _ round built

module _ (setup : Setup) (after : List Drainer) (past : List Entry) (left : ℕ) where
  ends_longer : (seats : List ℕ) (h : List Entry) (b : ℕ) → past ≡ h → left ≡ b → IsLonger seats (b - left) h past
  ends_longer seats h b entries rest =
      let made : 0 ≡ b - left = omega arith in
      subst (λ p. IsLonger seats (b - left) h p) (sym entries) (subst (λ n. IsLonger seats n h h) made (not_longer seats h))

  -- where no call is held back the entries are the earlier ones and then as many of the drainers' seats as calls were made
  pub drains_longer : (ds : List Drainer) (h : List Entry) (b : ℕ) → Drains all_pass setup after past left ds h b → IsLonger (seats_of ds) (b - left) h past
  drains_longer ds h b (NothingDue settled same entries rest) = ends_longer (seats_of ds) h b entries rest
  drains_longer ds h b (IsSpent first due none same entries rest) = ends_longer (seats_of ds) h b entries rest
  drains_longer ds h b (Goes first due some between middle rest whole round more) =
      let low = drains_left all_pass setup after past left _ _ _ more in
      let high = round_left _ _ _ _ _ _ _ _ round in
      let made : (b - rest) + (rest - left) ≡ b - left = omega arith in
      let then_ = subst (λ seats. IsLonger seats (rest - left) middle past) (round_seats _ _ _ _ _ _ _ _ round) (drains_longer _ _ _ more) in
      subst (λ n. IsLonger (seats_of ds) n h past) made (longer_then (seats_of ds) (b - rest) (rest - left) h middle past (round_longer _ _ _ _ _ _ _ round) then_)

-- a drain that ends has made the rounds that it has made
pub ends_here : (setup : Setup) (ds : List Drainer) (past : List Entry) (budget left : ℕ) (drained : Drained)
    → EndsHere setup past budget left (Some drained) → Drains all_pass setup ds past left ds past left
ends_here setup ds past budget left (Settled made) ends = NothingDue ends.0 refl refl refl
ends_here setup ds past budget left (Spent made key due) ends =
    let count = ends.1 in
    let all = ends.0.0 in
    let none : left ≡ 0 = omega arith in
    IsSpent (key, due) ends.0.1 none refl refl refl

-- what a drain has made when it ends
pub drained_all : (setup : Setup) (initial ds : List Drainer) (first past : List Entry) (budget left : ℕ) (d : Drained)
    → ((after : List Drainer) (p : List Entry) (l : ℕ) → Drains all_pass setup after p l ds past left → Drains all_pass setup after p l initial first budget)
    → EndsHere setup past budget left (Some d) → Drains all_pass setup ds past (budget - made_of d) initial first budget
drained_all setup initial ds first past budget left d goes ends =
    let count : left + made_of d ≡ budget = ends.1 in
    let rest : left ≡ budget - made_of d = omega arith in
    subst (λ (n : ℕ). Drains all_pass setup ds past n initial first budget) rest (goes ds past left (ends_here setup ds past budget left d ends))

pub drained_longer : (setup : Setup) (initial ds : List Drainer) (first past : List Entry) (budget made : ℕ) → made ≤ budget
    → Drains all_pass setup ds past (budget - made) initial first budget → IsLonger (seats_of initial) made first past
drained_longer setup initial ds first past budget made few all =
    let count : budget - (budget - made) ≡ made = omega arith in
    subst (λ (n : ℕ). IsLonger (seats_of initial) n first past) count (drains_longer setup ds past (budget - made) initial first budget all)

pub ends_few : (setup : Setup) (past : List Entry) (budget left : ℕ) (d : Drained) → EndsHere setup past budget left (Some d) → made_of d ≤ budget
ends_few setup past budget left d ends = let count : left + made_of d ≡ budget = ends.1 in omega arith
