use Rattle.std.proofs.Common.{◌≡◌, ◌<◌, ◌+◌, Some, ap, sym, subst, ◌∙◌}
use Rattle.std.specs.Prelude.{IfSome, OnSome, remove, slice_index_or}
use Rattle.std.proofs.lemmas.Option.{slice_get-get_or}
use Rattle.sync_queue.proofs.lanes.take_out.Goals as goal

pub returns : goal.returns
returns c =
    let old = c.args.list.now in
    let new = c.remove.new.self in
    let i = c.args.at in
    let r = c.unwrap.ensures in
    let cut = subst (λ r. OnSome r (new.items ≡ remove old.items i)) r c.remove.ensures.items in
    let at = subst (λ r. IfSome r (λ y. y ≡ slice_index_or old.items i y)) r c.remove.ensures.value in
    record {
      place = slice_get-get_or old.items i c.unwrap.result (subst (λ n. i < n) old.ok.0 c.requires) ∙ ap Some (sym at);
      items = cut;
      len = subst (λ r. OnSome r (new.len + 1 ≡ old.len)) r c.remove.ensures.len;
      capacity = c.remove.ensures.capacity;
    }
