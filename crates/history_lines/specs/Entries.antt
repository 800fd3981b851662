-- The entry or the setup of a line: the one whose printed line it is.
-- A choice of this project: the history format.
use Rattle.std.specs.Prelude.{ℕ, nat_lt, List, [], ◌∷◌, ◌++◌, Bool, true, ◌&&◌, if◌then◌else◌, Option, Some, None, codes, bytes_eq, is_none}
use Rattle.serde_json.specs.Data.{Data}
use Rattle.kube_objects.specs.declared.objects.Object.{Object}
use Rattle.call_types.specs.declared.request.SeatKind.{SeatKind}
use Rattle.call_types.specs.declared.request.Request.{Request}
use Rattle.call_types.specs.declared.reply.Reply.{Reply}
use Rattle.call_types.specs.declared.entry.Entry.{Entry}
use Rattle.call_types.specs.declared.setup.Pool.{Pool}
use Rattle.call_types.specs.declared.setup.Setup.{Setup}
use Rattle.binder_model.specs.Imports.{import_fault}
use Rattle.object_text.specs.Reading.{value_of}
use Rattle.history_text.specs.Entries.{entry_line, setup_line}
use Rattle.history_lines.specs.Answers.{◌>>=◌, taken}
use Rattle.history_lines.specs.Words.{seat_named}
use Rattle.history_lines.specs.Members.{Look, look_in, text_at, number_in, number_at, flag_at, object_in, list_at, some_list_at, some_topology_at}
use Rattle.history_lines.specs.Requests.{request_in}
use Rattle.history_lines.specs.Replies.{reply_in}

-- the value, where it is printed as this line
abbrev pub printed_as : {X : Type 0} → (X → List ℕ) → List ℕ → X → Option X
printed_as line_of line x = if bytes_eq (line_of x) line then Some x else None

-- ---- entries

-- the request of an entry
abbrev pub asked_at : Look → Option Request
asked_at m = m (codes "ask") >>= λ d. request_in d

-- which kind of client asked
abbrev pub seat_kind_at : Look → Option SeatKind
seat_kind_at m = text_at (codes "kind") m >>= λ s. seat_named s

-- the reply of an entry
abbrev pub replied_at : Look → Option Reply
replied_at m = m (codes "reply") >>= λ d. reply_in d

-- an entry, by its members
abbrev pub entry_at : Look → Option Entry
entry_at m = do
  request ← asked_at m
  kind ← seat_kind_at m
  reply ← replied_at m
  seat ← number_at (codes "seat") m
  told ← flag_at (codes "told") m
  Some (record { seat = seat; kind = kind; request = request; reply = reply; told = told })

-- an entry, as an object
unfoldable pub entry_in : Data → Option Entry
entry_in d = entry_at (look_in d)

-- the entry of a line
unfoldable pub entry_of : List ℕ → Option Entry
entry_of line = do
  d ← taken (value_of line)
  e ← entry_in d
  printed_as entry_line line e

-- ---- setups

-- a pool of the setup, by its members
abbrev pub pool_at : Look → Option Pool
pool_at m = do
  bytes ← number_at (codes "bytes") m
  name ← text_at (codes "name") m
  provisioner ← text_at (codes "provisioner") m
  topology ← some_topology_at m
  Some (record { name = name; provisioner = provisioner; bytes = bytes; topology = topology })

-- a pool of the setup, as an object
unfoldable pub pool_in : Data → Option Pool
pool_in d = pool_at (look_in d)

-- the number comes after this one, if there is one
abbrev pub is_above : Option ℕ → ℕ → Bool
is_above None n = true
is_above (Some m) n = nat_lt m n

-- each number is greater than the one before it
abbrev pub rise_from : Option ℕ → List ℕ → Bool
rise_from last [] = true
rise_from last (n ∷ ns) = is_above last n && rise_from (Some n) ns

-- the numbers rise, each once
abbrev pub rise : List ℕ → Bool
rise ns = rise_from None ns

-- each object is imported after those before it
abbrev pub pass_after : List Object → List Object → Bool
pass_after before [] = true
pass_after before (o ∷ os) = is_none (import_fault before o) && pass_after (before ++ o ∷ []) os

-- the store takes these objects as imports, in this order
abbrev pub imports_pass : List Object → Bool
imports_pass imports = pass_after [] imports

-- pools, faults that rise, and imports that pass
abbrev pub parts_with : List Pool → List ℕ → List Object → Option Setup
parts_with pools faults imports =
    if rise faults && imports_pass imports then Some (record { pools = pools; faults = faults; imports = imports }) else None

-- a setup, by its members
abbrev pub parts_at : Look → Option Setup
parts_at m = do
  faults ← list_at number_in (codes "faults") m
  imports ← some_list_at object_in (codes "imports") m
  pools ← list_at pool_in (codes "pools") m
  parts_with pools faults imports

-- a setup, as an object
unfoldable pub parts_in : Data → Option Setup
parts_in d = parts_at (look_in d)

-- a setup, under the member `setup` of the first line
unfoldable pub setup_in : Data → Option Setup
setup_in d = look_in d (codes "setup") >>= λ parts. parts_in parts

-- the setup of a line
unfoldable pub setup_of : List ℕ → Option Setup
setup_of line = do
  d ← taken (value_of line)
  s ← setup_in d
  printed_as setup_line line s
