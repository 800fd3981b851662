use Rattle.std.proofs.Common.{◌≡◌, []}
use Rattle.serde_json.specs.View.{members_view}
use Rattle.object_text.specs.MemberReaders.{pairs_from}
use Rattle.object_text.proofs.member_readers.pairs_of.Given as goal

abbrev pub invariant-loop-key : goal.invariant-loop-key
invariant-loop-key l = pairs_from l.member (members_view l.key-iterator) l.found ≡ pairs_from l.member (members_view l.map.entries) []
