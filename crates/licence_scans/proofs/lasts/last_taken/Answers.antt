use Rattle.std.proofs.Common.{◌+◌, reverse, ap, sym, ◌∙◌}
use Rattle.std.proofs.lemmas.List.{get_or_read}
use Rattle.call_types.specs.declared.entry.Entry.{Entry}
use Rattle.binder_model.specs.AgentLicence.{epoch_in}
use Rattle.licence_scans.proofs.Fronts.{tail_is}
use Rattle.licence_scans.proofs.Since.{epoch_after, epoch_last, epoch_none}
use Rattle.licence_scans.proofs.lasts.last_taken.Goals as goal

pub returns-in-None : goal.returns-in-None
returns-in-None c = epoch_none c.args.node.now (reverse c.args.mine.now) c.in-None.ensures

pub returns-in-Some-epoch_in : goal.returns-in-Some-epoch_in
returns-in-Some-epoch_in c =
    let last = c.in-Some.ensures in (
      epoch_last c.args.node.now c.args.mine.now c.in-Some.place last
          ∙ ap (λ (e : Entry). epoch_in c.args.node.now e)
          (get_or_read c.args.mine.now c.in-Some.place last.entry last.within last.there c.index-mine-place.result ∙ sym c.index-mine-place.is) ∙ sym c.epoch_in.ensures ∙ c.in-Some-epoch_in.is,
      epoch_after c.args.node.now c.args.mine.now c.in-Some.place last ∙ ap reverse (sym (tail_is c.args.mine.now (c.in-Some.place + 1))),
    )
