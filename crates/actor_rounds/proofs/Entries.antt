-- A history that has grown by calls of some seats.
use Rattle.std.proofs.Common.{◌≡◌, ◌≤◌, ◌∙◌, ◌+◌, ℕ, List, [], ◌∷◌, ◌++◌, Bool, true, false, true≢false, cond, refl, sym, ap, subst, inl, append_assoc, length-append, arith, Result, Ok, Err}
use Rattle.std.specs.Prelude.{OnErr}
use Rattle.call_types.specs.declared.entry.Entry.{Entry}
use Rattle.call_types.specs.declared.request.SeatKind.{SeatKind}
use Rattle.call_types.specs.declared.request.SeatKind.TheVariants as seats
use Rattle.binder_model.specs.Answers.{is_user}
use Rattle.binder_model.specs.Told.{own}
use Rattle.model_laws.proofs.Evidence.{own_other}
use Rattle.worker_core.specs.Roles.{IsBuiltKind}
use Rattle.actor_rounds.specs.Longer.{AreToldOf, GrowsWithin, HasGrown, IsLonger, IsOneOf, users_of}

told_append : (seats : List ℕ) (es fs : List Entry) → AreToldOf seats es → AreToldOf seats fs → AreToldOf seats (es ++ fs)
told_append seats [] fs a b = b
told_append seats (e ∷ es) fs a b = (a.0, a.1, told_append seats es fs a.2 b)

told_wider : (a b : List ℕ) → ((seat : ℕ) → IsOneOf a seat → IsOneOf b seat) → (es : List Entry) → AreToldOf a es → AreToldOf b es
told_wider a b wider [] told = tt
told_wider a b wider (e ∷ es) told = (wider e.seat told.0, told.1, told_wider a b wider es told.2)

pub not_longer : (seats : List ℕ) (h : List Entry) → IsLonger seats 0 h h
not_longer seats h = record { added = []; are = refl; count = refl; of_seats = tt }

-- one call more
pub one_longer : (seats : List ℕ) (e : Entry) (h : List Entry) → IsOneOf seats e.seat → e.told ≡ true → IsLonger seats 1 h (e ∷ h)
one_longer seats e h of_seat told = record { added = e ∷ []; are = refl; count = refl; of_seats = (of_seat, told, tt) }

pub longer_then : (seats : List ℕ) (a b : ℕ) (h middle past : List Entry) → IsLonger seats a h middle → IsLonger seats b middle past → IsLonger seats (a + b) h past
longer_then seats a b h middle past first second = record {
  added = second.added ++ first.added;
  are = second.are ∙ ap (λ es. second.added ++ es) first.are ∙ sym (append_assoc second.added first.added h);
  count = omega (arith, length-append second.added first.added, first.count, second.count);
  of_seats = told_append seats second.added first.added second.of_seats first.of_seats;
}

pub longer_wider : (a b : List ℕ) → ((seat : ℕ) → IsOneOf a seat → IsOneOf b seat) → (made : ℕ) (h past : List Entry) → IsLonger a made h past → IsLonger b made h past
longer_wider a b wider made h past l = record { added = l.added; are = l.are; count = l.count; of_seats = told_wider a b wider l.added l.of_seats }

pub grown_wider : (a b : List ℕ) → ((seat : ℕ) → IsOneOf a seat → IsOneOf b seat) → (h past : List Entry) → HasGrown a h past → HasGrown b h past
grown_wider a b wider h past g = record { made = g.made; longer = longer_wider a b wider g.made h past g.longer }

pub grown_then : (seats : List ℕ) (h middle past : List Entry) → HasGrown seats h middle → HasGrown seats middle past → HasGrown seats h past
grown_then seats h middle past first second = record { made = first.made + second.made; longer = longer_then seats first.made second.made h middle past first.longer second.longer }

pub not_grown : (seats : List ℕ) (h past : List Entry) → past ≡ h → HasGrown seats h past
not_grown seats h past is = record { made = 0; longer = subst (λ p. IsLonger seats 0 h p) (sym is) (not_longer seats h) }

-- no more entries than calls

pub not_within : (seats : List ℕ) (calls : ℕ) (h past : List Entry) → past ≡ h → GrowsWithin seats calls h past
not_within seats calls h past is = record { made = 0; few = omega arith; longer = subst (λ p. IsLonger seats 0 h p) (sym is) (not_longer seats h) }

pub one_within : (seats : List ℕ) (e : Entry) (h : List Entry) → IsOneOf seats e.seat → e.told ≡ true → GrowsWithin seats 1 h (e ∷ h)
one_within seats e h of_seat told = record { made = 1; few = omega arith; longer = one_longer seats e h of_seat told }

pub within_then : (seats : List ℕ) (a b calls : ℕ) (h middle past : List Entry) → a + b ≤ calls → GrowsWithin seats a h middle → GrowsWithin seats b middle past → GrowsWithin seats calls h past
within_then seats a b calls h middle past few first second = record {
  made = first.made + second.made;
  few = let f = first.few in let s = second.few in omega (arith, few, f, s);
  longer = longer_then seats first.made second.made h middle past first.longer second.longer;
}

pub within_more : (seats : List ℕ) (a b : ℕ) (h past : List Entry) → a ≤ b → GrowsWithin seats a h past → GrowsWithin seats b h past
within_more seats a b h past few g = record { made = g.made; few = let f = g.few in omega (arith, few, f); longer = g.longer }

pub within_wider : (a b : List ℕ) → ((seat : ℕ) → IsOneOf a seat → IsOneOf b seat) → (calls : ℕ) (h past : List Entry) → GrowsWithin a calls h past → GrowsWithin b calls h past
within_wider a b wider calls h past g = record { made = g.made; few = g.few; longer = longer_wider a b wider g.made h past g.longer }

-- and one call more
pub grown_more : (seat : ℕ) (first h past : List Entry) (e : Entry) → HasGrown (seat ∷ []) first h → past ≡ e ∷ h → e.seat ≡ seat → e.told ≡ true → HasGrown (seat ∷ []) first past
grown_more seat first h past e before is of_seat told =
    subst (λ p. HasGrown (seat ∷ []) first p) (sym is)
    (grown_then (seat ∷ []) first h (e ∷ h) before (record { made = 1; longer = one_longer (seat ∷ []) e h (inl (sym of_seat)) told }))

-- the entries of any other seat are as before

others_as_before : (seats : List ℕ) (seat : ℕ) → (IsOneOf seats seat → ⊥) → (es h : List Entry) → AreToldOf seats es → own seat (es ++ h) ≡ own seat h
others_as_before seats seat other [] h told = refl
others_as_before seats seat other (e ∷ es) h told =
    own_other e (es ++ h) seat (λ is. other (subst (IsOneOf seats) (sym is) told.0)) ∙ others_as_before seats seat other es h told.2

pub grown_others : (seats : List ℕ) (h past : List Entry) → HasGrown seats h past → (seat : ℕ) → (IsOneOf seats seat → ⊥) → own seat past ≡ own seat h
grown_others seats h past g seat other = ap (own seat) g.longer.are ∙ others_as_before seats seat other g.longer.added h g.longer.of_seats

-- an actor's call is no user's

built_other : (kind : SeatKind) → IsBuiltKind kind → is_user kind ≡ false
built_other seats.User built = absurd built
built_other seats.Binder built = refl
built_other seats.Ops built = refl
built_other seats.Scheduler built = refl
built_other seats.ClaimProtect built = refl
built_other seats.VolumeProtect built = refl
built_other seats.Agent built = refl

pub users_as_before : (h past : List Entry) (e : Entry) → past ≡ e ∷ h → IsBuiltKind e.kind → users_of past ≡ users_of h
users_as_before h past e is built = ap users_of is ∙ by (is_user e.kind) (built_other e.kind built)
  where
    by : (b : Bool) → b ≡ false → cond b (e ∷ users_of h) (users_of h) ≡ users_of h
    by true other = absurd (true≢false other)
    by false other = refl

pub on_err : {T E : Type 0} (X : Type 0) (r : Result T E) → X → OnErr r X
on_err X (Ok t) x = tt
on_err X (Err e) x = x
