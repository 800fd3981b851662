use Rattle.std.proofs.Common.{sym, ◌∙◌, subst}
use Rattle.binder_model.specs.Licence.{AtClaim, ClaimMay, binder_claim}
use Rattle.licence_record.specs.Judged.{Judges}
use Rattle.licence_writes.proofs.binder.binder_claim.Goals as goal

pub returns-then-is_completed : goal.returns-then-is_completed
returns-then-is_completed g c =
    let mine = g.R.Record.told c.args.seat.now in
    let new = c.args.new.now in
    subst (λ b. Judges (g.R.Record.whole c.args.seat.now) c.completes.result (AtClaim mine new c.args.given (ClaimMay (binder_claim b) mine new)))
    (sym (sym c.is_completed.ensures ∙ c.if-is_completed.true)) c.completes.ensures

pub returns-else-is_completed : goal.returns-else-is_completed
returns-else-is_completed g c =
    let mine = g.R.Record.told c.args.seat.now in
    let new = c.args.new.now in
    subst (λ b. Judges (g.R.Record.whole c.args.seat.now) c.may_assign_class.result
    (AtClaim mine new c.args.given (ClaimMay (binder_claim b) mine new))) (sym (sym c.is_completed.ensures ∙ c.if-is_completed.false)) c.may_assign_class.ensures
