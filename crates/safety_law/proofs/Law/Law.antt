-- Each run is safe: by the invariant along it, from a first world that its imports make.
use Rattle.std.proofs.Common.{arith, subst, sym}
use Rattle.std.proofs.lemmas.List.{length-reverse}
use Rattle.std.specs.Prelude.{◌+◌, ◌<◌, List, [], ◌∷◌, length, reverse}
use Rattle.call_types.specs.declared.entry.Entry.{Entry}
use Rattle.call_types.specs.declared.setup.Setup.{Setup}
use Rattle.binder_model.specs.Imports.{most_serials}
use Rattle.binder_model.specs.World.{base}
use Rattle.binder_model.specs.Run.{Run}
use Rattle.binder_model.specs.Told.{own}
use Rattle.binder_model.specs.Safe.{Safe}
use Rattle.binder_model.specs.Promises.{RunImpliesSafe, most_entries}
use Rattle.safety_law.proofs.Invariant.Known.{invariant_of, told_was}
use Rattle.safety_law.proofs.Law.Runs.{run_good}
use Rattle.safety_law.proofs.Mounts.Mounted.{mounts_kept}
use Rattle.safety_law.specs.Law.Law.{IsGoodStart, EachRunIsSafe}
use Rattle.safety_law.proofs.Law.FirstWorld.{first_world_is_good}
use Rattle.safety_law.proofs.Law.Safety.{bindings_stand, volumes_kept}
use Rattle.safety_law.proofs.Law.Erased.{erases_well}

-- a run from a good start is safe
safe_of : (setup : Setup) → IsGoodStart setup → (past : List Entry) → base setup + length past < most_serials → Run setup past → Safe setup past
safe_of setup start [] short run = bindings_stand setup [] start.invariant
safe_of setup start (e ∷ past) short run =
    let g = run_good setup start.invariant (e ∷ past) short run in
    let inv = invariant_of setup past g.0 in (
      record {
        bindings = bindings_stand setup (e ∷ past) g.3;
        volumes = volumes_kept setup e past inv g.1;
        claims = mounts_kept setup e past g run start.mountless start.loose;
        erased = erases_well setup past (own e.seat past) inv (told_was setup past g.0 e.seat) e.kind e.request e.reply run.2 run.1;
      },
      safe_of setup start past (omega (arith, short)) run.0,
    )

-- a history of fewer than 2^60 entries does not use up the serials
pub room_for : (setup : Setup) → IsGoodStart setup → (past : List Entry) → length past < most_entries → base setup + length past < most_serials
room_for setup start past short = let low = start.low in omega (arith, low, short)

pub run_implies_safe : RunImpliesSafe
run_implies_safe setup past run =
    let start = first_world_is_good setup run.imports in
    safe_of setup start past (room_for setup start past run.short) run.run

pub each_run_is_safe : EachRunIsSafe
each_run_is_safe setup entries imports short run =
    run_implies_safe setup (reverse entries) (record { imports = imports; short = subst (λ n. n < most_entries) (sym (length-reverse entries)) short; run = run })
