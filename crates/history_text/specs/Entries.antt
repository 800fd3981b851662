-- Setups and entries of a history, and their lines.
-- A choice of this project: the history format.
use Rattle.std.specs.Prelude.{ℕ, List, [], ◌∷◌, Some, codes}
use Rattle.serde_json.specs.Data.{Data}
use Rattle.serde_json.specs.Written.{compact_text}
use Rattle.json_text.specs.Build.{number_data}
use Rattle.call_types.specs.Words.{seat_word}
use Rattle.call_types.specs.declared.entry.Entry.{Entry}
use Rattle.call_types.specs.declared.setup.Pool.{Pool}
use Rattle.call_types.specs.declared.setup.Setup.{Setup}
use Rattle.json_text.specs.Members.{MemberList, text, whole, flag, array_data, filled_array, object_of, within}
use Rattle.object_print.specs.Objects.{object_data}
use Rattle.history_text.specs.Requests.{request_data}
use Rattle.history_text.specs.Replies.{topology_pairs, reply_data}

-- the members of an entry: who asked, what was asked, and what was answered
abbrev pub entry_pairs : Entry → MemberList
entry_pairs e =
    (codes "ask", Some (request_data e.request))
    ∷ (codes "kind", text (seat_word e.kind))
    ∷ (codes "reply", Some (reply_data e.reply))
    ∷ (codes "seat", whole e.seat)
    ∷ (codes "told", flag e.told)
    ∷ []

-- the same as an object
unfoldable pub entry_data : Entry → Data
entry_data e = object_of (entry_pairs e)

-- the line of an entry
unfoldable pub entry_line : Entry → List ℕ
entry_line e = compact_text (entry_data e)

-- a pool shows its label and value where it has a topology
abbrev pub pool_pairs : Pool → MemberList
pool_pairs p = (codes "bytes", whole p.bytes) ∷ (codes "name", text p.name) ∷ (codes "provisioner", text p.provisioner) ∷ topology_pairs p.topology

-- a pool of the setup, as an object
unfoldable pub pool_data : Pool → Data
pool_data p = object_of (pool_pairs p)

-- imports stand only where there are some
abbrev pub setup_pairs : Setup → MemberList
setup_pairs s =
    (codes "faults", Some (array_data number_data s.faults))
    ∷ (codes "imports", filled_array object_data s.imports)
    ∷ (codes "pools", Some (array_data pool_data s.pools))
    ∷ []

-- what a world begins with: pools, planned faults and imported objects, as an object
unfoldable pub setup_data : Setup → Data
setup_data s = within (codes "setup") (object_of (setup_pairs s))

-- the first line of a history
unfoldable pub setup_line : Setup → List ℕ
setup_line s = compact_text (setup_data s)
