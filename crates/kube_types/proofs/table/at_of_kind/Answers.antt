use Rattle.std.proofs.Common.{◌∙◌, ◌+◌, length, ap, refl, sym, subst, arith}
use Rattle.std.proofs.lemmas.Option.{slice_get_read}
use Rattle.kube_objects.specs.Keys.{IsKindStart, same_kind}
use Rattle.kube_types.proofs.KindPlaces.{none_past, none_there, one_there}
use Rattle.kube_types.proofs.table.at_of_kind.Goals as goal

pub returns-then-place-rows : goal.returns-then-place-rows
returns-then-place-rows c =
    let start = c.kind_start-start.result in
    let begins = subst (λ k. IsKindStart k c.args.rows.now start) c.kind_index.ensures.value c.kind_start-start.ensures.start in
    none_past c.args.rows.now c.requires c.args.kind start c.args.place begins c.kind_start-start.ensures.bound (omega (arith, c.if-place-rows.true, c.kind_start-start.ensures.bound))

pub returns-then-same_kind : goal.returns-then-same_kind
returns-then-same_kind c =
    let rows = c.args.rows.now in
    let start = c.kind_start-start.result in
    let o = c.index-rows-start.result in
    let begins = subst (λ k. IsKindStart k rows start) c.kind_index.ensures.value c.kind_start-start.ensures.start in
    let at = slice_get_read rows (length rows) (start + c.args.place) o refl (omega (arith, c.if-place-rows.false, c.kind_start-start.ensures.bound)) c.index-rows-start.is in
    one_there rows c.requires c.args.kind start c.args.place begins c.kind_start-start.ensures.bound o at
    (sym (ap (λ k. same_kind k c.args.kind) c.kind_of.ensures) ∙ (sym c.same_kind.ensures ∙ c.if-same_kind.true))

pub returns-else-same_kind : goal.returns-else-same_kind
returns-else-same_kind c =
    let rows = c.args.rows.now in
    let start = c.kind_start-start.result in
    let o = c.index-rows-start.result in
    let begins = subst (λ k. IsKindStart k rows start) c.kind_index.ensures.value c.kind_start-start.ensures.start in
    let at = slice_get_read rows (length rows) (start + c.args.place) o refl (omega (arith, c.if-place-rows.false, c.kind_start-start.ensures.bound)) c.index-rows-start.is in
    none_there rows c.requires c.args.kind start c.args.place begins c.kind_start-start.ensures.bound o at
    (sym (ap (λ k. same_kind k c.args.kind) c.kind_of.ensures) ∙ (sym c.same_kind.ensures ∙ c.if-same_kind.false))
