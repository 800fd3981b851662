-- What the owned values stand for.
-- A choice of this project.
use Rattle.std.specs.Prelude.{ℕ, List, Bool, if◌then◌else◌}
use Rattle.serde_json.specs.Data.{Data, null, boolean, number, string, array, object, Members, no_members, member, put}
use Rattle.serde_json.specs.View.{view}
use Rattle.json_text.specs.declared.tree.Tree.{Tree}

-- the JSON value that an owned tree holds
abbrev pub tree_data : Tree → Data
tree_data t = view t.value

-- the members of an object
abbrev pub members_in : Data → Members
members_in null = no_members
members_in (boolean b) = no_members
members_in (number n) = no_members
members_in (string s) = no_members
members_in (array ds) = no_members
members_in (object ms) = ms

-- the members whose names are not known, after those of acc
abbrev pub others_from : (List ℕ → Bool) → Members → Members → Members
others_from known no_members acc = acc
others_from known (member k d ms) acc = if known k then others_from known ms acc else others_from known ms (put k d acc)

-- the members whose names are not known, in the order of their names
abbrev pub others : (List ℕ → Bool) → Members → Members
others known ms = others_from known ms no_members

-- the same, where the names rise
abbrev pub unknown : (List ℕ → Bool) → Members → Members
unknown known no_members = no_members
unknown known (member k d ms) = if known k then unknown known ms else member k d (unknown known ms)
