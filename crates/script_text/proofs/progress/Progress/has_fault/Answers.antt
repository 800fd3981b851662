use Rattle.std.proofs.Common.{◌∙◌}
use Rattle.script_text.proofs.Faults.{given_at}
use Rattle.script_text.proofs.progress.Progress.has_fault.Goals as goal

pub returns : goal.returns
returns c =
    let place = rw c.deref.ensures.value at c.fault_place.ensures in
    c.is_ok.ensures.value ∙ given_at c.args.call _ c.fault_place.result c.requires.faults place.at place.gap
