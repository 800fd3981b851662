-- The entries of a seat without the newest one are those of the seat in an earlier history.
use Rattle.std.proofs.Common.{◌≡◌, ◌<◌, ℕ, List, [], ◌∷◌, length, Bool, true, false, true≢false, refl, sym, ◌∙◌, ap, subst, arith, if◌then◌else◌}
use Rattle.std.specs.Prelude.{◌==◌}
use Rattle.call_types.specs.declared.entry.Entry.{Entry}
use Rattle.call_types.specs.declared.setup.Setup.{Setup}
use Rattle.binder_model.specs.Licence.{AreOfKind}
use Rattle.binder_model.specs.Told.{own}
use Rattle.binder_model.specs.World.{IsHistory}
use Rattle.worker_core.specs.Stands.{AreLicensed, AreOwn, StandsFor, StartsSo}
use Rattle.worker_core.specs.States.{ActorState}
use Rattle.worker_core.specs.declared.role.Role.{Role}
use Rattle.call_types.specs.declared.request.SeatKind.{SeatKind}
use Rattle.call_types.specs.declared.request.SeatKind.TheVariants as seats

-- the history in which an entry is the newest of its seat
pub record IsNewestOwn (setup : Setup) (whole : List Entry) (e : Entry) (mine : List Entry) : Type 0 where
  pub past : List Entry
  pub seat : ℕ
  pub history : IsHistory setup (e ∷ past)
  pub own_before : mine ≡ own seat past
  pub shorter : length past < length whole

abbrev head_of : Entry → List Entry → Entry
head_of none [] = none
head_of none (e ∷ es) = e

abbrev tail_of : List Entry → List Entry
tail_of [] = []
tail_of (e ∷ es) = es

abbrev is_filled : List Entry → Bool
is_filled [] = false
is_filled (e ∷ es) = true

pub newest_own : (setup : Setup) (past : List Entry) (seat : ℕ) (e : Entry) (mine : List Entry) → IsHistory setup past → e ∷ mine ≡ own seat past → IsNewestOwn setup past e mine
newest_own setup [] seat e mine history is = absurd (true≢false (ap is_filled is))
newest_own setup (x ∷ past) seat e mine history is = by (x.seat == seat) refl (newest_own setup past seat e mine history.0)
  where
    by : (b : Bool) → (x.seat == seat) ≡ b → (e ∷ mine ≡ own seat past → IsNewestOwn setup past e mine) → IsNewestOwn setup (x ∷ past) e mine
    by true at more =
        let front : e ∷ mine ≡ x ∷ own seat past = is ∙ ap (λ b. if b then x ∷ own seat past else own seat past) at in
        record { past = past; seat = seat; history = subst (λ y. IsHistory setup (y ∷ past)) (sym (ap (head_of e) front)) history; own_before = ap tail_of front; shorter = omega arith }
    by false at more =
        let n = more (is ∙ ap (λ b. if b then x ∷ own seat past else own seat past) at) in
        let less = n.shorter in
        record { past = n.past; seat = n.seat; history = n.history; own_before = n.own_before; shorter = omega (arith, less) }

pub own_past : (e : Entry) (mine : List Entry) → AreOwn (e ∷ mine) → AreOwn mine
own_past e mine all =
    let n = newest_own all.setup all.past all.seat e mine all.history all.own in
    let less = n.shorter in
    let few = all.short in
    record { setup = all.setup; past = n.past; seat = n.seat; imports = all.imports; short = omega (arith, less, few); history = n.history.0; own = n.own_before }

pub all_of_kind : (kind : SeatKind) (mine : List Entry) → AreLicensed kind mine → AreOfKind kind mine
all_of_kind kind [] l = tt
all_of_kind kind (e ∷ mine) l = (l.1, all_of_kind kind mine l.0)

-- what an actor knows of its entries, and of those that came before
pub record Stood (role : Role) (mine : List Entry) : Type 0 where
  pub licensed : AreLicensed role.kind mine
  pub own : AreOwn mine
  pub start : StartsSo role.kind role.node mine

starts_before : (kind : SeatKind) (node : List ℕ) (e : Entry) (mine : List Entry) → StartsSo kind node (e ∷ mine) → StartsSo kind node mine
starts_before seats.Agent node e mine s = s.1
starts_before seats.User node e mine s = tt
starts_before seats.Binder node e mine s = tt
starts_before seats.Ops node e mine s = tt
starts_before seats.Scheduler node e mine s = tt
starts_before seats.ClaimProtect node e mine s = tt
starts_before seats.VolumeProtect node e mine s = tt

pub stood_before : (role : Role) (e : Entry) (mine : List Entry) → Stood role (e ∷ mine) → Stood role mine
stood_before role e mine s = record { licensed = s.licensed.0; own = own_past e mine s.own; start = starts_before role.kind role.node e mine s.start }

pub stood : (s : ActorState) (mine : List Entry) → StandsFor s mine → Stood s.role mine
stood s mine stands = record { licensed = stands.licensed; own = stands.own; start = stands.start }
