use Rattle.std.proofs.Common.{◌∙◌, sym, true, bytes_eq, ◌≡◌}
use Rattle.std.proofs.lemmas.Map.Text.{is_eq-slice_cmp}
use Rattle.label_rules.proofs.Walks.{tied}
use Rattle.label_rules.proofs.key_order.Goals as goal

pub returns-then-is_same : goal.returns-then-is_same
returns-then-is_same c =
    let same : bytes_eq c.args.label.now c.args.wanted.now ≡ true = sym c.is_same.ensures ∙ c.if-is_same.true in
    sym (tied _ (is_eq-slice_cmp c.args.label.now c.args.wanted.now ∙ same))
