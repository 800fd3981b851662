use Rattle.std.proofs.Common.{◌≡◌, [], drop}
use Rattle.serde_json.specs.View.{items_view}
use Rattle.object_text.specs.MemberReaders.{texts_from}
use Rattle.object_text.proofs.member_readers.texts_of.Given as goal

abbrev pub invariant-loop-value : goal.invariant-loop-value
invariant-loop-value l = texts_from l.member (items_view (drop l.value-index l.values)) l.found ≡ texts_from l.member (items_view l.values) []
