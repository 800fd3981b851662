use Rattle.std.proofs.Common.{ℕ, List, [], ◌+◌, ◌*◌, false}
use Rattle.json_text.specs.Splitting.{ItemsThen, MembersThen}
use Rattle.json_text.proofs.splitting.+values.Given as goal

abbrev pub decreases-after_value : goal.decreases-after_value
decreases-after_value l = 3 * l.levels

abbrev pub decreases-after_items : goal.decreases-after_items
decreases-after_items l = 3 * l.levels + 1

abbrev pub decreases-split_member : goal.decreases-split_member
decreases-split_member l = 3 * l.levels + 1

abbrev pub decreases-after_members : goal.decreases-after_members
decreases-after_members l = 3 * l.levels + 2

-- whatever the rest is, items that go on here are items from the front
abbrev pub invariant-after_items-loop : goal.invariant-after_items-loop
invariant-after_items-loop l = (rest : List ℕ) → ItemsThen l.levels l.later rest l.left → ItemsThen l.levels false rest l.text

-- the same of members
abbrev pub invariant-after_members-loop : goal.invariant-after_members-loop
invariant-after_members-loop l = (rest : List ℕ) → MembersThen l.levels l.later l.last rest l.left → MembersThen l.levels false [] rest l.text
