-- What follows from how a round was made.
use Rattle.std.proofs.Common.{
  ◌≡◌,
  ◌≢◌,
  ◌∙◌,
  ◌+◌,
  ◌-◌,
  ◌≤◌,
  ◌<◌,
  ℕ,
  zero,
  suc,
  List,
  [],
  ◌∷◌,
  ◌++◌,
  Bool,
  true,
  false,
  true≢false,
  ◌&&◌,
  Some,
  refl,
  sym,
  ap,
  subst,
  inl,
  inr,
  arith,
  set,
  take,
  drop,
  length,
  get_or,
  append_assoc,
  add-one,
}
use Rattle.std.specs.Bool.{⊤}
use Rattle.std.specs.Prelude.{◌==◌, ◌⊎◌, map, slice_get, option_map}
use Rattle.std.proofs.lemmas.Bool.Decides.{Decides-eqb}
use Rattle.std.proofs.lemmas.Option.{get_or_from_slice_get, slice_get-get_or, slice_get-map, slice_get_within}
use Rattle.std.proofs.lemmas.List.{drop-set-lt, take_more_set}
use Rattle.std.proofs.Math.Seq.{drop-cons, map-set_same}
use Rattle.call_types.specs.declared.entry.Entry.{Entry}
use Rattle.call_types.specs.declared.request.SeatKind.TheVariants.{Agent, Scheduler}
use Rattle.binder_model.specs.Told.{own}
use Rattle.worker_core.specs.declared.role.Role.{Role}
use Rattle.worker_core.specs.Absorbs.{woken}
use Rattle.worker_core.specs.Roles.{IsBuiltKind}
use Rattle.worker_core.specs.Stands.{MayBeIdle}
use Rattle.worker_core.specs.States.{ActorState}
use Rattle.actor_rounds.specs.declared.drainers.Drainer.{Drainer}
use Rattle.actor_rounds.specs.Drainers.{AreRoles, AreSeats, agent_of, of_kind, roles_of, seats_of}
use Rattle.actor_rounds.specs.Longer.{GrowsWithin, HasGrown, IsLonger, IsOneOf, users_of}
use Rattle.actor_rounds.specs.Rounds.{Ends, IsRound, Lets, RoundOf, Runs, Turns, all_pass}
use Rattle.actor_rounds.proofs.Entries.{grown_others, longer_then, longer_wider, not_longer, not_within, within_then, within_wider}
use Rattle.actor_rounds.proofs.RunFacts.{run_grows, run_left, run_longer, run_part, run_role, run_users}

-- each role is of a kind that is built

abbrev pub AreBuilt : List Role → Type 0
AreBuilt [] = ⊤
AreBuilt (role ∷ roles) = IsBuiltKind role.kind × AreBuilt roles

agents_built : (nodes : List (List ℕ)) → AreBuilt (map agent_of nodes)
agents_built [] = tt
agents_built (node ∷ nodes) = (tt, agents_built nodes)

pub roles_built : (roles : List Role) → AreRoles roles → AreBuilt roles
roles_built roles these = subst AreBuilt (sym these.are) (tt, (tt, (tt, (tt, (tt, agents_built these.nodes)))))

first_of : (seat : ℕ) (seats : List ℕ) (s : ℕ) → IsOneOf (seat ∷ []) s → IsOneOf (seat ∷ seats) s
first_of seat seats s (inl is) = inl is
first_of seat seats s (inr none) = elim none [ ]

module _ (lets : Lets) (past : List Entry) (left : ℕ) where
  pub round_left : (ds : List Drainer) (h : List Entry) (b : ℕ) (after : List Drainer) (whole : Bool) → IsRound lets past left ds h b after whole → left ≤ b
  round_left ds h b after whole (Ends entries rest) = omega arith
  round_left ds h b after whole (Turns d ran middle rest idle seat runs more) =
      let low = round_left _ _ _ _ _ more in
      let high = run_left _ _ _ _ _ _ _ _ _ runs in
      omega arith

  -- a round that is not whole has spent the budget
  pub round_part : (ds : List Drainer) (h : List Entry) (b : ℕ) (after : List Drainer) (whole : Bool) → IsRound lets past left ds h b after whole → whole ≡ false → left ≡ 0
  round_part ds h b after whole (Ends entries rest) not = absurd (true≢false not)
  round_part ds h b after whole (Turns {whole = others} d ran middle rest idle seat runs more) not =
      by idle others not (run_part _ _ _ _ _ _ _ _ _ runs) (round_part _ _ _ _ _ more) (round_left _ _ _ _ _ more)
    where
      by : (i o : Bool) → (i && o) ≡ false → (i ≡ false → rest ≡ 0) → (o ≡ false → left ≡ 0) → left ≤ rest → left ≡ 0
      by true true all ran_out went low = absurd (true≢false all)
      by true false all ran_out went low = went refl
      by false o all ran_out went low = let none = ran_out refl in omega arith

  -- the seats stay, and the roles

  pub round_seats : (ds : List Drainer) (h : List Entry) (b : ℕ) (after : List Drainer) (whole : Bool) → IsRound lets past left ds h b after whole → seats_of after ≡ seats_of ds
  round_seats ds h b after whole (Ends entries rest) = refl
  round_seats ds h b after whole (Turns d ran middle rest idle seat runs more) = cc (seat, round_seats _ _ _ _ _ more)

  pub round_roles : (ds : List Drainer) (h : List Entry) (b : ℕ) (after : List Drainer) (whole : Bool) → IsRound lets past left ds h b after whole → roles_of after ≡ roles_of ds
  round_roles ds h b after whole (Ends entries rest) = refl
  round_roles ds h b after whole (Turns {ds = others} {after = later} d ran middle rest idle seat runs more) =
      ap (λ (r : Role). r ∷ roles_of later) (run_role _ _ _ _ _ _ _ _ _ runs) ∙ ap (λ (rs : List Role). d.actor.role ∷ rs) (round_roles _ _ _ _ _ more)

  -- the entries are the earlier ones and then some of the drainers' seats, no more than calls were made
  pub round_grows : (ds : List Drainer) (h : List Entry) (b : ℕ) (after : List Drainer) (whole : Bool) → IsRound lets past left ds h b after whole → GrowsWithin (seats_of ds) (b - left) h past
  round_grows ds h b after whole (Ends entries rest) = not_within [] (b - left) h past entries
  round_grows ds h b after whole (Turns {ds = others} d ran middle rest idle seat runs more) =
      let low = round_left _ _ _ _ _ more in
      let high = run_left _ _ _ _ _ _ _ _ _ runs in
      let seats = d.seat ∷ seats_of others in
      within_then seats (b - rest) (rest - left) (b - left) h middle past (omega arith)
      (within_wider (d.seat ∷ []) seats (first_of d.seat (seats_of others)) (b - rest) h middle (run_grows _ _ _ _ _ _ _ _ _ runs))
      (within_wider (seats_of others) seats (λ s one. inr one) (rest - left) middle past (round_grows _ _ _ _ _ more))

  -- none of them is a user's
  pub round_users : (ds : List Drainer) (h : List Entry) (b : ℕ) (after : List Drainer) (whole : Bool) → IsRound lets past left ds h b after whole → AreBuilt (roles_of ds) → users_of past ≡ users_of h
  round_users ds h b after whole (Ends entries rest) built = ap users_of entries
  round_users ds h b after whole (Turns d ran middle rest idle seat runs more) built = round_users _ _ _ _ _ more built.1 ∙ run_users _ _ _ _ _ _ _ _ _ runs built.0

-- where no call is held back the entries are the earlier ones and then as many of the drainers' seats as calls were made
module _ (past : List Entry) (left : ℕ) where
  pub round_longer : (ds : List Drainer) (h : List Entry) (b : ℕ) (after : List Drainer) (whole : Bool) → IsRound all_pass past left ds h b after whole → IsLonger (seats_of ds) (b - left) h past
  round_longer ds h b after whole (Ends entries rest) =
      let made : 0 ≡ b - left = omega arith in
      subst (λ p. IsLonger [] (b - left) h p) (sym entries) (subst (λ n. IsLonger [] n h h) made (not_longer [] h))
  round_longer ds h b after whole (Turns {ds = others} d ran middle rest idle seat runs more) =
      let low = round_left all_pass _ _ _ _ _ _ _ more in
      let high = run_left _ _ _ _ _ _ _ _ _ runs in
      let made : (b - rest) + (rest - left) ≡ b - left = omega arith in
      let seats = d.seat ∷ seats_of others in
      subst (λ n. IsLonger seats n h past) made (longer_then seats (b - rest) (rest - left) h middle past
      (longer_wider (d.seat ∷ []) seats (first_of d.seat (seats_of others)) (b - rest) h middle (run_longer _ _ _ _ _ _ _ _ runs))
      (longer_wider (seats_of others) seats (λ s one. inr one) (rest - left) middle past (round_longer _ _ _ _ _ more)))

-- one drainer in place of another

get_set_same : (ds : List Drainer) (i : ℕ) (d : Drainer) → i < length ds → slice_get (set ds i d) i ≡ Some d
get_set_same [] i d lt = absurd (omega arith)
get_set_same (x ∷ xs) zero d lt = refl
get_set_same (x ∷ xs) (suc i) d lt = get_set_same xs i d (omega arith)

get_set_other : (ds : List Drainer) (i j : ℕ) (d : Drainer) → j ≢ i → slice_get (set ds i d) j ≡ slice_get ds j
get_set_other [] i j d other = refl
get_set_other (x ∷ xs) zero zero d other = absurd (other refl)
get_set_other (x ∷ xs) zero (suc j) d other = refl
get_set_other (x ∷ xs) (suc i) zero d other = refl
get_set_other (x ∷ xs) (suc i) (suc j) d other = get_set_other xs i j d (λ e. other (ap suc e))

-- Q holds of each of the first n drainers and its seat's entries
abbrev pub EachBelow : ℕ → (ActorState → List Entry → Type 0) → List Drainer → List Entry → Type 0
EachBelow n Q ds past = (place : ℕ) (d : Drainer) → place < n → slice_get ds place ≡ Some d → Q d.actor (own d.seat past)

-- the actor may be idle
abbrev pub IsIdleAt : ActorState → List Entry → Type 0
IsIdleAt s mine = MayBeIdle s.role s.memory mine

pub seat_at : (ds : List Drainer) (i : ℕ) (d : Drainer) → slice_get ds i ≡ Some d → slice_get (seats_of ds) i ≡ Some d.seat
seat_at ds i d at = slice_get-map (λ (x : Drainer). x.seat) ds i ∙ ap (option_map (λ (x : Drainer). x.seat)) at

some_is : {X : Type 0} (a b : X) → Some a ≡ Some b → a ≡ b
some_is a b e = cc

pub same_or_not : (i j : ℕ) → (i ≡ j) ⊎ (i ≢ j)
same_or_not i j = by (i == j) refl
  where
    by : (b : Bool) → (i == j) ≡ b → (i ≡ j) ⊎ (i ≢ j)
    by true e = inl ((Decides-eqb i j).0 e)
    by false e = inr (λ is. true≢false (sym ((Decides-eqb i j).1 is) ∙ e))

-- drainers at two places have two seats
not_seat : (ds : List Drainer) (i j : ℕ) (d x : Drainer) → AreSeats (seats_of ds) → slice_get ds i ≡ Some d → slice_get ds j ≡ Some x → j ≢ i → IsOneOf (d.seat ∷ []) x.seat → ⊥
not_seat ds i j d x seats at there other (inl same) = other (seats.differ j i d.seat (subst (λ s. slice_get (seats_of ds) j ≡ Some s) (sym same) (seat_at ds j x there)) (seat_at ds i d at))
not_seat ds i j d x seats at there other (inr none) = elim none [ ]

-- a drainer's calls leave what holds of the others and their entries
pub each_set : (Q : ActorState → List Entry → Type 0) (n m : ℕ) (ds : List Drainer) (i : ℕ) (d ran : Drainer) (h past : List Entry)
    → AreSeats (seats_of ds) → slice_get ds i ≡ Some d → HasGrown (d.seat ∷ []) h past → ((place : ℕ) → place < m → place ≢ i → place < n)
    → EachBelow n Q ds h → Q ran.actor (own ran.seat past) → EachBelow m Q (set ds i ran) past
each_set Q n m ds i d ran h past seats at grown within each here place x lt found = by (same_or_not place i)
  where
    by : (place ≡ i) ⊎ (place ≢ i) → Q x.actor (own x.seat past)
    by (inl is) =
        let e : ran ≡ x = some_is ran x (sym (get_set_same ds i ran (slice_get_within ds i d at)) ∙ ap (slice_get (set ds i ran)) (sym is) ∙ found) in
        subst (λ (y : Drainer). Q y.actor (own y.seat past)) e here
    by (inr other) =
        let there : slice_get ds place ≡ Some x = sym (get_set_other ds i place ran other) ∙ found in
        let entries = grown_others (d.seat ∷ []) h past grown x.seat (not_seat ds i place d x seats at there other) in
        subst (Q x.actor) (sym entries) (each place x (within place lt other) there)

-- the turns so far, and one more

and_assoc : (a b c : Bool) → ((a && b) && c) ≡ (a && (b && c))
and_assoc true b c = refl
and_assoc false b c = refl

from_here : (lets : Lets) (past : List Entry) (left : ℕ) (ds : List Drainer) (i : ℕ) (d ran : Drainer) (h middle : List Entry) (b rest : ℕ) (idle : Bool) (after : List Drainer) (whole : Bool)
    → slice_get ds i ≡ Some d → ran.seat ≡ d.seat → Runs lets d.seat ran.actor middle rest idle (woken d.actor) h b
    → IsRound lets past left (drop (i + 1) (set ds i ran)) middle rest after whole → IsRound lets past left (drop i ds) h b (ran ∷ after) (idle && whole)
from_here lets past left ds i d ran h middle b rest idle after whole at seat runs more =
    let lt : i < length ds = slice_get_within ds i d at in
    let one : i < i + 1 = omega arith in
    let rest_same : drop (i + 1) (set ds i ran) ≡ drop (i + 1) ds = drop-set-lt (i + 1) ds i ran one in
    let here : drop i ds ≡ d ∷ drop (i + 1) ds = drop-cons ds i d lt ∙ ap (λ (x : Drainer). x ∷ drop (suc i) ds) (get_or_from_slice_get ds i d d at)
    ∙ ap (λ (n : ℕ). d ∷ drop n ds) (sym (add-one i)) in
    subst (λ (xs : List Drainer). IsRound lets past left xs h b (ran ∷ after) (idle && whole)) (sym here)
    (Turns d ran middle rest idle seat runs (subst (λ (xs : List Drainer). IsRound lets past left xs middle rest after whole) rest_same more))

pub turn_more : (lets : Lets) (initial : List Drainer) (first : List Entry) (budget : ℕ) (ds : List Drainer) (i : ℕ) (d ran : Drainer) (h middle : List Entry) (b rest : ℕ) (so_far idle : Bool)
    → ((past : List Entry) (left : ℕ) (after : List Drainer) (whole : Bool) → IsRound lets past left (drop i ds) h b after whole
    → IsRound lets past left initial first budget (take i ds ++ after) (so_far && whole))
    → slice_get ds i ≡ Some d → ran.seat ≡ d.seat → Runs lets d.seat ran.actor middle rest idle (woken d.actor) h b
    → (past : List Entry) (left : ℕ) (after : List Drainer) (whole : Bool) → IsRound lets past left (drop (i + 1) (set ds i ran)) middle rest after whole
    → IsRound lets past left initial first budget (take (i + 1) (set ds i ran) ++ after) ((so_far && idle) && whole)
turn_more lets initial first budget ds i d ran h middle b rest so_far idle goes at seat runs past left after whole more =
    let lt : i < length ds = slice_get_within ds i d at in
    let lists : take i ds ++ (ran ∷ after) ≡ take (i + 1) (set ds i ran) ++ after =
    sym (ap (λ (xs : List Drainer). xs ++ after) (take_more_set ds i ran lt) ∙ append_assoc (take i ds) (ran ∷ []) after) in
    let made = goes past left (ran ∷ after) (idle && whole) (from_here lets past left ds i d ran h middle b rest idle after whole at seat runs more) in
    subst (λ (xs : List Drainer). IsRound lets past left initial first budget xs ((so_far && idle) && whole)) lists
    (subst (λ (w : Bool). IsRound lets past left initial first budget (take i ds ++ (ran ∷ after)) w) (sym (and_assoc so_far idle whole)) made)

-- all turns
pub turns_end : (lets : Lets) (initial : List Drainer) (first : List Entry) (budget : ℕ) (ds : List Drainer) (n : ℕ) (h : List Entry) (b : ℕ) (so_far : Bool) → n ≡ length ds
    → ((past : List Entry) (left : ℕ) (after : List Drainer) (whole : Bool) → IsRound lets past left (drop n ds) h b after whole
    → IsRound lets past left initial first budget (take n ds ++ after) (so_far && whole))
    → IsRound lets h b initial first budget ds so_far
turns_end lets initial first budget ds n h b so_far all goes =
    let none : drop n ds ≡ [] = ap (λ (k : ℕ). drop k ds) all ∙ drop_all ds in
    let lists : take n ds ++ [] ≡ ds = append_nil (take n ds) ∙ ap (λ (k : ℕ). take k ds) all ∙ take_all ds in
    let made = goes h b [] true (subst (λ (xs : List Drainer). IsRound lets h b xs h b [] true) (sym none) (Ends refl refl)) in
    subst (λ (xs : List Drainer). IsRound lets h b initial first budget xs so_far) lists (subst (λ (w : Bool). IsRound lets h b initial first budget (take n ds ++ []) w) (and_true so_far) made)
  where
    and_true : (a : Bool) → (a && true) ≡ a
    and_true true = refl
    and_true false = refl

    drop_all : (xs : List Drainer) → drop (length xs) xs ≡ []
    drop_all [] = refl
    drop_all (x ∷ xs) = drop_all xs

    take_all : (xs : List Drainer) → take (length xs) xs ≡ xs
    take_all [] = refl
    take_all (x ∷ xs) = ap (λ (ys : List Drainer). x ∷ ys) (take_all xs)

    append_nil : (xs : List Drainer) → xs ++ [] ≡ xs
    append_nil [] = refl
    append_nil (x ∷ xs) = ap (λ (ys : List Drainer). x ∷ ys) (append_nil xs)

-- the seats are kept
pub seats_set : (ds : List Drainer) (i : ℕ) (d ran : Drainer) → slice_get ds i ≡ Some d → ran.seat ≡ d.seat → seats_of (set ds i ran) ≡ seats_of ds
seats_set ds i d ran at seat = map-set_same (λ (x : Drainer). x.seat) ds i ran d (seat ∙ ap (λ (x : Drainer). x.seat) (sym (get_or_from_slice_get ds i d d at)))

-- so are the roles
pub roles_set : (ds : List Drainer) (i : ℕ) (d ran : Drainer) → slice_get ds i ≡ Some d → ran.actor.role ≡ d.actor.role → roles_of (set ds i ran) ≡ roles_of ds
roles_set ds i d ran at role = map-set_same (λ (x : Drainer). x.actor.role) ds i ran d (role ∙ ap (λ (x : Drainer). x.actor.role) (sym (get_or_from_slice_get ds i d d at)))

-- the first of them is no agent
pub first_steady : (ds : List Drainer) (roles : List Role) (place : ℕ) (d : Drainer) → roles_of ds ≡ roles → AreRoles roles → place ≡ 0 → slice_get ds place ≡ Some d → d.actor.role.kind ≢ Agent
first_steady ds roles place d same these first at agent =
    let here : slice_get (roles_of ds) 0 ≡ Some d.actor.role = slice_get-map (λ (x : Drainer). x.actor.role) ds 0
    ∙ ap (option_map (λ (x : Drainer). x.actor.role)) (ap (slice_get ds) (sym first) ∙ at) in
    let its : of_kind Scheduler ≡ d.actor.role = some_is (of_kind Scheduler) d.actor.role (sym (ap (λ (rs : List Role). slice_get rs 0) (same ∙ these.are)) ∙ here) in
    let two : Scheduler ≡ Agent = ap (λ (r : Role). r.kind) its ∙ agent in
    absurd (cc)

-- the seat of a drainer is one of the seats
pub one_of_seats : (ds : List Drainer) (i : ℕ) (d : Drainer) → slice_get ds i ≡ Some d → (seat : ℕ) → IsOneOf (d.seat ∷ []) seat → IsOneOf (seats_of ds) seat
one_of_seats [] i d at seat one = absurd cc
one_of_seats (x ∷ xs) zero d at seat (inl is) = inl (ap (λ (y : Drainer). y.seat) (some_is x d at) ∙ is)
one_of_seats (x ∷ xs) zero d at seat (inr none) = elim none [ ]
one_of_seats (x ∷ xs) (suc i) d at seat one = inr (one_of_seats xs i d at seat one)

pub length_set : (ds : List Drainer) (i : ℕ) (d : Drainer) → length (set ds i d) ≡ length ds
length_set [] i d = refl
length_set (x ∷ xs) zero d = refl
length_set (x ∷ xs) (suc i) d = ap suc (length_set xs i d)

length_seats : (ds : List Drainer) → length (seats_of ds) ≡ length ds
length_seats [] = refl
length_seats (x ∷ xs) = ap suc (length_seats xs)

pub same_length : (ds es : List Drainer) → seats_of ds ≡ seats_of es → length ds ≡ length es
same_length ds es same = sym (length_seats ds) ∙ ap length same ∙ length_seats es

pub and_then : (a b w : Bool) → a ≡ true → w ≡ b → w ≡ (a && b)
and_then true b w holds is = is
and_then false b w holds is = absurd (true≢false (sym holds))

pub and_else : (a b w : Bool) → a ≡ false → w ≡ a → w ≡ (a && b)
and_else true b w fails is = absurd (true≢false fails)
and_else false b w fails is = is

-- a read at a place of as many drainers as at first
pub at_place : (initial ds : List Drainer) (i : ℕ) (d : Drainer) → seats_of ds ≡ seats_of initial → i < length initial → d ≡ get_or ds i d → slice_get ds i ≡ Some d
at_place initial ds i d seats lt is =
    let same = same_length ds initial seats in
    let within : i < length ds = omega arith in
    slice_get-get_or ds i d within ∙ ap (λ (x : Drainer). Some x) (sym is)

-- fewer calls are left than at first, once the first drainer had its turn
pub fewer_left : (place rest left budget : ℕ) → rest ≤ left → left ≤ budget → (0 < place → 0 < budget → left < budget) → (place ≡ 0 → 0 < left → rest < left) → 0 < budget → rest < budget
fewer_left zero rest zero budget low few before some any = omega arith
fewer_left zero rest (suc left) budget low few before some any = let less : rest < suc left = some refl (omega arith) in omega arith
fewer_left (suc place) rest left budget low few before some any = let less : left < budget = before (omega arith) any in omega arith

-- a round that is whole ends so
pub whole_round : (lets : Lets) (round : RoundOf lets) → round.whole ≡ true → IsRound lets round.past round.left round.drainers round.start round.budget round.after true
whole_round lets round whole = subst (λ w. IsRound lets round.past round.left round.drainers round.start round.budget round.after w) whole round.is_round
