use Rattle.std.proofs.Common.{◌≡◌, [], drop}
use Rattle.serde_json.specs.View.{items_view}
use Rattle.history_lines.specs.Members.{items_from}
use Rattle.history_lines.proofs.members.items_of.Given as goal

abbrev pub invariant-loop-value : goal.invariant-loop-value
invariant-loop-value g l = items_from g.T.FromJson.read (items_view (drop l.value-index l.values)) l.found ≡ items_from g.T.FromJson.read (items_view l.values) []
