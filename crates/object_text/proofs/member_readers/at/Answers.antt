use Rattle.std.proofs.Common.{Some}
use Rattle.serde_json.specs.View.{view}
use Rattle.object_text.proofs.WholeParts.{at_whole}
use Rattle.object_text.proofs.member_readers.at.Goals as goal

pub returns-in-Some-clause-whole : goal.returns-in-Some-clause-whole
returns-in-Some-clause-whole c h = rw (c.get.ensures, c.name.ensures) (at_whole c.args.member (Some (view c.in-Some.value.now)) (rw c.in-Some.is at h))
