use Rattle.std.proofs.Common.{◌∙◌, ap, sym, ℕ, List}
use Rattle.plain_data.specs.Pairs.{without_key}
use Rattle.bind_writes.proofs.Freed.{unbound_marked}
use Rattle.bind_writes.proofs.unbinding.unbound_if.Goals as goal

pub returns-then-is_marked : goal.returns-then-is_marked
returns-then-is_marked c =
    unbound_marked c.args.volume.now c.in_ok-free.free c.drop_key.new.self c.in_ok-free.ensures (sym c.requires ∙ c.if-is_marked.true)
    (c.drop_key.ensures ∙ ap (λ (m : List ℕ). without_key m c.in_ok-free.free.meta.annotations) c.in_ok-mark.ensures)
