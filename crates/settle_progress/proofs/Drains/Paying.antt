-- A drain whose rounds pay for themselves ends settled where its budget is greater than what the world may cost.
use Rattle.std.proofs.Common.{◌≡◌, List, ◌++◌, length, length-append, ap, subst, arith}
use Rattle.call_types.specs.declared.entry.Entry.{Entry}
use Rattle.call_types.specs.declared.setup.Setup.{Setup}
use Rattle.binder_model.specs.Promises.{IsRunOf}
use Rattle.binder_model.specs.Run.{Run}
use Rattle.binder_model.specs.World.{world}
use Rattle.model_laws.proofs.OlderRuns.{run_back as run_older}

pub run_of_older : (setup : Setup) (newer h past : List Entry) → past ≡ newer ++ h → IsRunOf setup past → IsRunOf setup h
run_of_older setup newer h past are r =
    let short = r.short in
    let same : length past ≡ length (newer ++ h) = ap length are in
    let sum = length-append newer h in
    record { imports = r.imports; short = omega (arith, short, same, sum); run = run_older setup newer h (subst (Run setup) are r.run) }
