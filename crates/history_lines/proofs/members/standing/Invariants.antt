use Rattle.std.proofs.Common.{◌≡◌, drop}
use Rattle.serde_json.specs.View.{view}
use Rattle.history_lines.specs.Members.{standing, look_in}
use Rattle.history_lines.proofs.members.standing.Given as goal

-- the first that stands is among those that are left
abbrev pub invariant-loop-one : goal.invariant-loop-one
invariant-loop-one g l = standing g.T.Worded.word (drop l.one-index l.all) (look_in (view l.value)) ≡ standing g.T.Worded.word l.all (look_in (view l.value))
