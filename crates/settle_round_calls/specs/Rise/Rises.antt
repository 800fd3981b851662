-- How much one call of a controller may raise what the world has still to do, whatever the call was decided on: also a task that was
-- decided on an older world. Node agents are left out.
-- A choice of this project.
use Rattle.std.specs.Prelude.{ℕ, ◌≢◌, ◌≤◌, ◌+◌, ◌*◌, List, [], ◌∷◌, ◌++◌, Option, Some, None}
use Rattle.kube_parts.specs.declared.uid.Uid.{Uid}
use Rattle.kube_objects.specs.declared.objects.Object.{Object}
use Rattle.kube_objects.specs.declared.objects.Object.TheVariants.{Volume}
use Rattle.kube_objects.specs.Bindings.{ref_uid}
use Rattle.call_types.specs.declared.entry.Entry.{Entry}
use Rattle.call_types.specs.declared.request.Request.{Request}
use Rattle.call_types.specs.declared.request.Request.TheVariants as requests
use Rattle.call_types.specs.declared.request.SeatKind.{SeatKind}
use Rattle.call_types.specs.declared.request.SeatKind.TheVariants as seats
use Rattle.call_types.specs.declared.setup.Setup.{Setup}
use Rattle.binder_model.specs.Licence.{AreOfKind}
use Rattle.binder_model.specs.Promises.{IsRunOf}
use Rattle.binder_model.specs.World.{world}
use Rattle.settle_measure.specs.Left.Measure.{total, volumes_in, work_left}
use Rattle.worker_core.specs.Roles.{IsBuiltKind}
use Rattle.settle_calls.specs.Slots.Slots.{writes_since}
use Rattle.settle_pays.specs.Drains.All.{ImportsAllow}

-- what one write may add: a volume has at most 10 to do, and the claim that it carried at most 18 more; a claim that is written at most
-- 18. A scheduler takes a volume that carries no claim, and nothing else that it writes adds anything
abbrev pub most_rise : SeatKind → ℕ
most_rise seats.Scheduler = 3
most_rise kind = 28

-- the data of one claim may be erased
abbrev pub erase_rise : Request → ℕ
erase_rise (requests.Erase id) = 1
erase_rise request = 0

-- a call of a controller raises what is left to do by no more for each write, and by one if it is an Erase
abbrev pub CallsRaiseLittle : Type 0
CallsRaiseLittle =
    (setup : Setup) (e : Entry) (h : List Entry) → ImportsAllow setup → IsBuiltKind e.kind → e.kind ≢ seats.Agent → IsRunOf setup (e ∷ h)
    → work_left setup (world setup (e ∷ h)) ≤ work_left setup (world setup h) + most_rise e.kind * writes_since setup h (e ∷ h) + erase_rise e.request

-- the same of entries of one kind, one after the other
abbrev pub erases_rise : List Entry → ℕ
erases_rise [] = 0
erases_rise (e ∷ newer) = erase_rise e.request + erases_rise newer

-- so do these entries, by the sum
abbrev pub EntriesRaiseLittle : Type 0
EntriesRaiseLittle =
    (setup : Setup) (kind : SeatKind) (newer h : List Entry) → ImportsAllow setup → IsBuiltKind kind → kind ≢ seats.Agent → AreOfKind kind newer → IsRunOf setup (newer ++ h)
    → work_left setup (world setup (newer ++ h)) ≤ work_left setup (world setup h) + most_rise kind * writes_since setup h (newer ++ h) + erases_rise newer

-- a volume that carries no claim: it has no reference, or one without a UID
abbrev pub one_if_none : Option Uid → ℕ
one_if_none None = 1
one_if_none (Some uid) = 0

-- one for such a volume
abbrev pub is_untaken : Object → ℕ
is_untaken (Volume v) = one_if_none (ref_uid v.claim_ref)
is_untaken o = 0

-- how many of these there are
abbrev pub untaken_in : List Object → ℕ
untaken_in rows = total is_untaken rows

-- they are no more than the volumes
abbrev pub UntakenAreVolumes : Type 0
UntakenAreVolumes = (rows : List Object) → untaken_in rows ≤ volumes_in rows

-- A scheduler adds 3 only where it takes such a volume: for a claim that is gone, or that needs it no more. It takes each once at most,
-- since it lets none go
abbrev pub SchedulersRaiseLittle : Type 0
SchedulersRaiseLittle =
    (setup : Setup) (newer h : List Entry) → AreOfKind seats.Scheduler newer → IsRunOf setup (newer ++ h)
    → work_left setup (world setup (newer ++ h)) + 3 * untaken_in (world setup (newer ++ h)).store.rows ≤ work_left setup (world setup h) + 3 * untaken_in (world setup h).store.rows
