use Rattle.std.proofs.Common.{◌∙◌, ap, sym}
use Rattle.std.specs.Option.{option_copied}
use Rattle.kube_types.proofs.DefaultScan.{absent, first_now, not_first, unmarked}
use Rattle.kube_types.proofs.defaults.earlier.Goals.{else-is_default-via-then-is_default+else-comes_first, else-is_default-via-else-is_default}
use Rattle.kube_types.proofs.defaults.earlier.Goals as goal

pub returns-in-None : goal.returns-in-None
returns-in-None g c = absent (g.L.Lookup.rows c.args.lookup.now) c.args.place c.args.before (sym c.class_at.ensures ∙ ap option_copied c.in-None.is) c.requires

pub returns-else-is_default : goal.returns-else-is_default
returns-else-is_default g c =
    let there = sym c.class_at.ensures ∙ ap option_copied c.in-Some.is in
    elim c.else-is_default.branch [
      | else-is_default-via-then-is_default+else-comes_first w ↦
          not_first (g.L.Lookup.rows c.args.lookup.now) c.args.place c.args.before _ there (sym c.is_default.ensures ∙ w.if-is_default.true)
          (sym w.comes_first.ensures ∙ w.if-comes_first.false) c.requires
      | else-is_default-via-else-is_default w ↦
          unmarked (g.L.Lookup.rows c.args.lookup.now) c.args.place c.args.before _ there (sym c.is_default.ensures ∙ w.if-is_default.false) c.requires
    ]

pub returns-then-comes_first : goal.returns-then-comes_first
returns-then-comes_first g c =
    let there = sym c.class_at.ensures ∙ ap option_copied c.in-Some.is in
    first_now (g.L.Lookup.rows c.args.lookup.now) c.args.place c.args.before _ there (sym c.is_default.ensures ∙ c.if-is_default.true) (sym c.comes_first.ensures ∙ c.if-comes_first.true) c.requires
