use Rattle.std.proofs.Common.{◌≡◌, ◌∙◌, ◌+◌, ◌-◌, length, refl, sym, ap, arith}
use Rattle.std.proofs.lemmas.Option.{slice_get_read}
use Rattle.std.proofs.lemmas.Result.{IfOk-weaker}
use Rattle.delayed_binding.specs.Steps.Nth.{node_write_at}
use Rattle.delayed_binding.proofs.Nth.{got, write_first, write_second}
use Rattle.delayed_binding.proofs.writes.prepared_write.Goals as goal

pub returns-then-nth-binds : goal.returns-then-nth-binds
returns-then-nth-binds g c =
    let rows = g.L.Lookup.rows c.args.lookup.now in
    let at = slice_get_read c.args.binds.now (length c.args.binds.now) c.args.nth c.index-binds-nth.result refl c.if-nth-binds.true c.index-binds-nth.is in
    IfOk-weaker c.bind_write.result _ _ (λ w h. h ∙ sym (write_first rows c.args.node.now c.args.binds.now c.args.provisions.now c.args.nth c.index-binds-nth.result at)) c.bind_write.ensures

pub returns-else-nth-binds : goal.returns-else-nth-binds
returns-else-nth-binds g c =
    let rows = g.L.Lookup.rows c.args.lookup.now in
    let rest = c.args.nth - length c.args.binds.now in
    let is : c.args.nth ≡ length c.args.binds.now + (c.args.nth - length c.args.binds.now) = omega (arith, c.if-nth-binds.false) in
    IfOk-weaker c.node_write_at.result _ _ (λ w h. h ∙
    (ap (node_write_at rows c.args.node.now)
    (got c.get-key.result c.args.provisions.now rest c.get-key.ensures.lookup.1 c.get-key.ensures.lookup.3)
    ∙ sym (write_second rows c.args.node.now c.args.binds.now c.args.provisions.now c.args.nth rest is))) c.node_write_at.ensures
