use Rattle.std.proofs.Common.{List, [], Option, subst}
use Rattle.std.specs.Prelude.{unwrap_or, MatchResult}
use Rattle.call_types.specs.declared.entry.Entry.{Entry}
use Rattle.binder_model.specs.Licence.{IsRefusedBy, Licensed}
use Rattle.audit_check.proofs.seats.Seats.judge.Goals as goal

pub returns : goal.returns
returns c =
    subst
    (λ (o : Option (List Entry)). MatchResult c.judge_by.result (λ _. Licensed c.args.kind (unwrap_or o []) c.args.request.now) (IsRefusedBy c.args.kind (unwrap_or o []) c.args.request.now))
    c.get.ensures.value c.judge_by.ensures
