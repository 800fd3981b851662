use Rattle.std.proofs.Common.{sym, ◌∙◌, true≢false}
use Rattle.licence_record.proofs.Judging.{lift}
use Rattle.licence_rules.proofs.Licences.{licensed_row}
use Rattle.licence_rules.proofs.licence.is_licensed.Goals as goal

pub returns : goal.returns
returns g c = lift _ _ _ _ (λ b is. licensed_row c.args.kind (g.R.Record.told c.args.seat.now) c.args.request.now b
    (λ user. true≢false (sym (c.is_user.ensures.1 user) ∙ c.if-is_user.false)) is) c.is_allowed.ensures
