use Rattle.std.proofs.Common.{Some, ◌+◌, reverse, ap, sym, ◌∙◌}
use Rattle.std.proofs.lemmas.List.{get_or_read}
use Rattle.call_types.specs.declared.entry.Entry.{Entry}
use Rattle.licence_scans.specs.Keyed.{key_at}
use Rattle.licence_scans.proofs.Fronts.{tail_is}
use Rattle.licence_scans.proofs.Since.{get_after, get_last, get_none}
use Rattle.licence_scans.proofs.lasts.last_get.Goals as goal

pub returns-in-None : goal.returns-in-None
returns-in-None c = get_none (key_at c.args.kind c.args.namespace.now c.args.name.now) (reverse c.args.mine.now) c.in-None.ensures

pub returns-in-Some : goal.returns-in-Some
returns-in-Some c =
    let key = key_at c.args.kind c.args.namespace.now c.args.name.now in
    let last = c.in-Some.ensures in (
      get_last key c.args.mine.now c.in-Some.place last ∙ ap (λ (e : Entry). Some e.reply) (get_or_read c.args.mine.now c.in-Some.place last.entry last.within last.there c.index-mine-place.result),
      get_after key c.args.mine.now c.in-Some.place last ∙ ap reverse (sym (tail_is c.args.mine.now (c.in-Some.place + 1))),
    )
