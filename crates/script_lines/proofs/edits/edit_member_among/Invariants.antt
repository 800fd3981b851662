use Rattle.std.proofs.Common.{◌≡◌, ◌++◌, drop}
use Rattle.std.specs.Prelude.{filter}
use Rattle.std.specs.Option.{option_to_list}
use Rattle.serde_json.specs.View.{view}
use Rattle.script_lines.specs.Members.{stands, the_one}
use Rattle.script_lines.proofs.edits.edit_member_among.Given as goal

-- the one among those found so far and those that are left
abbrev pub invariant-loop-edit : goal.invariant-loop-edit
invariant-loop-edit l = the_one (option_to_list l.found ++ filter (stands (view l.line)) (drop l.edit-index l.edits)) ≡ the_one (filter (stands (view l.line)) l.edits)
