use Rattle.std.proofs.Common.{◌≡◌, ◌==◌, List, ℕ, length, sym, ap, ◌∙◌}
use Rattle.store_serving.proofs.Feeds.{alone_left, none_read}
use Rattle.store_serving.proofs.reader.last_line.Goals as goal

pub returns-then-is_empty : goal.returns-then-is_empty
returns-then-is_empty c =
    none_read c.args.held.now.items (ap (λ (xs : List ℕ). length xs == 0) (sym c.as_slice.ensures.value) ∙ sym c.is_empty.ensures ∙ c.if-is_empty.true)

pub returns : goal.returns
returns c =
    let left : c.replace.new.dest.items ≡ c.new.result.items = λ i. (c.replace.ensures.after i).items in
    let line : c.replace.result.items ≡ c.args.held.now.items = λ i. (c.replace.ensures.value i).items in
    alone_left c.args.held.now.items c.replace.new.dest.items c.from_vec.result c.requires
    (ap (λ (xs : List ℕ). length xs == 0) (sym c.as_slice.ensures.value) ∙ sym c.is_empty.ensures ∙ c.if-is_empty.false)
    (left ∙ c.new.ensures.items) (c.from_vec.ensures ∙ line)
