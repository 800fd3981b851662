use Rattle.object_print.proofs.ObjectFloats.{object_free}
use Rattle.object_print.proofs.laws.objects_hold_no_float.Goals as goal

pub returns : goal.returns
returns c = object_free
