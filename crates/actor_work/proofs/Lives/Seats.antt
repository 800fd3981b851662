-- By which actor each request was asked, seat by seat.
use Rattle.std.proofs.Common.{◌≡◌, ℕ, List, [], ◌∷◌, Bool, true, false, refl, sym, ◌∙◌, ap, subst, if◌then◌else◌}
use Rattle.std.specs.Prelude.{◌==◌}
use Rattle.std.proofs.lemmas.Bool.Decides.{Decides-eqb}
use Rattle.call_types.specs.declared.entry.Entry.{Entry}
use Rattle.binder_model.specs.Told.{own}
use Rattle.model_laws.proofs.Evidence.{own_mine}
use Rattle.size_law.specs.Calls.Calls.{AreByActors, IsByActor}
use Rattle.actor_work.specs.Lives.Seats.{ActorsBySeats}

-- a seat's own entries are all of that seat
own_own : (seat : ℕ) (past : List Entry) → own seat (own seat past) ≡ own seat past
own_own seat [] = refl
own_own seat (e ∷ past) = by (e.seat == seat) refl (own_own seat past)
  where
    by : (b : Bool) → (e.seat == seat) ≡ b → own seat (own seat past) ≡ own seat past → own seat (if b then e ∷ own seat past else own seat past) ≡ (if b then e ∷ own seat past else own seat past)
    by true is rest = own_mine e (own seat past) seat ((Decides-eqb e.seat seat).0 is) ∙ ap (λ (es : List Entry). e ∷ es) rest
    by false is rest = rest

-- of each seat also without the newest entry
each_before : (e : Entry) (past : List Entry) → ((seat : ℕ) → AreByActors (own seat (e ∷ past))) → (seat : ℕ) → AreByActors (own seat past)
each_before e past each seat = by (e.seat == seat) (each seat)
  where
    by : (b : Bool) → AreByActors (if b then e ∷ own seat past else own seat past) → AreByActors (own seat past)
    by true all = all.0
    by false all = all

-- the newest entry, after its own seat's
newest_asked : (e : Entry) (past : List Entry) → AreByActors (own e.seat (e ∷ past)) → IsByActor e.kind (own e.seat past) e.request
newest_asked e past all = subst (λ (mine : List Entry). IsByActor e.kind mine e.request) (own_own e.seat past) (subst AreByActors (own_mine e past e.seat refl) all).1

gathered : (past : List Entry) → ((seat : ℕ) → AreByActors (own seat past)) → AreByActors past
gathered [] each = tt
gathered (e ∷ past) each = (gathered past (each_before e past each), newest_asked e past (each e.seat))

parted : (past : List Entry) → AreByActors past → (seat : ℕ) → AreByActors (own seat past)
parted [] all seat = tt
parted (e ∷ past) all seat = by (e.seat == seat) refl (parted past all.0 seat)
  where
    by : (b : Bool) → (e.seat == seat) ≡ b → AreByActors (own seat past) → AreByActors (if b then e ∷ own seat past else own seat past)
    by true is rest =
        let same : e.seat ≡ seat = (Decides-eqb e.seat seat).0 is in
        (rest, subst (λ (mine : List Entry). IsByActor e.kind mine e.request) (sym (ap (λ s. own s (own seat past)) same ∙ own_own seat past ∙ sym (ap (λ s. own s past) same))) all.1)
    by false is rest = rest

pub actors_by_seats : ActorsBySeats
actors_by_seats past = (parted past, gathered past)
