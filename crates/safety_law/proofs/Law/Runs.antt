-- A run whose first world meets the invariant meets it throughout.
use Rattle.std.proofs.Common.{refl}
use Rattle.std.specs.Prelude.{ℕ, List, [], ◌∷◌}
use Rattle.call_types.specs.declared.entry.Entry.{Entry}
use Rattle.call_types.specs.declared.setup.Setup.{Setup}
use Rattle.binder_model.specs.World.{world, effect}
use Rattle.binder_model.specs.Told.{own}
use Rattle.binder_model.specs.Run.{Run}
use Rattle.safety_law.proofs.Invariant.Moves.{moves, as_made}
use Rattle.safety_law.specs.Invariant.Good.{MovesAt, Good}
use Rattle.safety_law.proofs.Invariant.Kept.{kept}
use Rattle.safety_law.proofs.Invariant.Known.{invariant_of, told_was, gone_read}
use Rattle.safety_law.proofs.Law.Allowed.{Known, made}
use Rattle.std.proofs.Common.{arith}
use Rattle.std.specs.Prelude.{ℕ, ◌+◌, ◌<◌, length}
use Rattle.binder_model.specs.Imports.{most_serials}
use Rattle.binder_model.specs.World.{base}
use Rattle.safety_law.specs.Law.Runs.{RunsAreGood}
use Rattle.model_laws.proofs.Stood.{few_writes}

-- what a seat knows after a good history
pub known : (setup : Setup) (past : List Entry) → Good setup past → (seat : ℕ) → Known setup past (own seat past)
known setup past g seat = record {
  seat = seat;
  is_own = refl;
  told = told_was setup past g seat;
  gone = λ o r uid is h. (gone_read setup past g seat o r uid is h).0;
}

-- how the store moves at the newest entry of a run
pub run_moves : (setup : Setup) (e : Entry) (past : List Entry) → base setup + length (e ∷ past) < most_serials → Good setup past
    → Run setup (e ∷ past) → MovesAt setup e past
run_moves setup e past short g run =
    let inv = invariant_of setup past g in
    let low = few_writes setup past in
    let room : (world setup past).store.version + 1 < most_serials = omega (arith, low, short) in
    as_made (world setup past) e.request (effect setup (world setup past) e.kind e.request)
    (made setup past (own e.seat past) room inv (known setup past g e.seat) e.kind e.request run.2) (moves setup (world setup past) e.kind e.request inv.order)

-- a run that begins in a world which meets the invariant meets it throughout
pub run_good : RunsAreGood
run_good setup start [] short run = start
run_good setup start (e ∷ past) short run =
    let g = run_good setup start past (omega (arith, short)) run.0 in
    let m = run_moves setup e past short g run in
    (g, m, run.1, kept setup e past (invariant_of setup past g) m)
