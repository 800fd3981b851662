use Rattle.std.proofs.Common.{rules, ◌∙◌, subst, sym}
use Rattle.licence_record.specs.Defaulted.{IsDefaultNamed}
use Rattle.licence_record.specs.Judged.{Judges}
use Rattle.licence_record.proofs.Judging.{lift, no}
use Rattle.licence_writes.proofs.Assigning.{assign_none, assign_row}
use Rattle.licence_writes.proofs.assign.assigns.Goals as goal

pub returns-in-None : goal.returns-in-None
returns-in-None g c = no _ _ (λ w row. assign_none (g.R.Record.told c.args.seat.now) c.args.old.now c.args.new.now (search rules) row)

pub returns-in-Some : goal.returns-in-Some
returns-in-Some g c =
    let mine = g.R.Record.told c.args.seat.now in
    let named = subst (λ n. Judges (g.R.Record.whole c.args.seat.now) c.is_default.result (IsDefaultNamed mine n)) c.as_str.ensures c.is_default.ensures in
    lift _ _ _ _ (λ b is. assign_row mine c.args.old.now c.args.new.now c.in-Some.name b (sym c.is_completed.ensures ∙ c.if-is_completed.false)
    (sym c.is_deleting.ensures ∙ c.if-is_deleting.false) (c.is_unnamed.ensures.0 c.if-not-is_unnamed.false)
    (c.is_classless.ensures.0 c.if-not-is_classless.false) (c.is_claim_class.ensures.0 c.if-not-is_claim_class.false) c.in-Some.is is) named
