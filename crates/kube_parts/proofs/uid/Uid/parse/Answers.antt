use Rattle.kube_parts.proofs.UidTexts.{read_some, read_none}
use Rattle.kube_parts.proofs.uid.Uid.parse.Goals as goal

pub returns-in-Ok : goal.returns-in-Ok
returns-in-Ok c = read_some c.as_u128.result c.in-Ok.uuid c.args.text.now c.as_u128.ensures c.in-Ok.ensures.bytes

pub returns-in-Err : goal.returns-in-Err
returns-in-Err c = read_none c.try_parse.result c.in-Err.field-0 c.args.text.now c.in-Err.is c.try_parse.ensures.ok
