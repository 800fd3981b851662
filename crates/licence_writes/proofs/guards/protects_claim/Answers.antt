use Rattle.std.proofs.Common.{sym, ◌∙◌, subst}
use Rattle.binder_model.specs.Licence.{AtClaim, ClaimMay, claim_guard}
use Rattle.licence_record.specs.Judged.{Judges}
use Rattle.licence_writes.proofs.guards.protects_claim.Goals as goal

pub returns-then-is_protected_claim : goal.returns-then-is_protected_claim
returns-then-is_protected_claim g c =
    let mine = g.R.Record.told c.args.seat.now in
    let new = c.args.new.now in
    subst (λ b. Judges (g.R.Record.whole c.args.seat.now) c.guards_claim.result (AtClaim mine new c.args.given (ClaimMay (claim_guard b) mine new)))
    (sym (sym c.is_protected_claim.ensures ∙ c.if-is_protected_claim.true)) c.guards_claim.ensures

pub returns-else-is_protected_claim : goal.returns-else-is_protected_claim
returns-else-is_protected_claim g c =
    let mine = g.R.Record.told c.args.seat.now in
    let new = c.args.new.now in
    subst (λ b. Judges (g.R.Record.whole c.args.seat.now) c.unguards_claim.result
    (AtClaim mine new c.args.given (ClaimMay (claim_guard b) mine new))) (sym (sym c.is_protected_claim.ensures ∙ c.if-is_protected_claim.false)) c.unguards_claim.ensures
