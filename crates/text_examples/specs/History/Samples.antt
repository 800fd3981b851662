-- Setups and entries that the examples share.
-- A choice of this project: the history format.
use Rattle.std.specs.Prelude.{ℕ, List, [], true, Err, Option, Some, None, codes}
use Rattle.std.specs.declared.result.Result.{Result}
use Rattle.kube_parts.specs.Uids.{uid_of_serial}
use Rattle.kube_parts.specs.declared.uid.Uid.{Uid}
use Rattle.kube_objects.specs.declared.objects.Object.{Object}
use Rattle.kube_objects.specs.declared.objects.Object.TheVariants as objects
use Rattle.call_types.specs.declared.request.Request.TheVariants as asks
use Rattle.call_types.specs.declared.request.SeatKind.TheVariants as seats
use Rattle.call_types.specs.declared.reply.Reply.TheVariants as replies
use Rattle.call_types.specs.declared.entry.Entry.{Entry}
use Rattle.call_types.specs.declared.setup.Setup.{Setup}
use Rattle.history_read.specs.declared.errors.HistoryReason.{HistoryReason}
use Rattle.history_read.specs.declared.errors.BadHistoryLine.{BadHistoryLine}
use Rattle.call_types.specs.declared.histories.History.{History}

abbrev pub no_setup : Setup
no_setup = record { pools = []; faults = []; imports = [] }

abbrev pub no_setup_line : List ℕ
no_setup_line = codes "{\"setup\":{\"faults\":[],\"pools\":[]}}"

-- an agent takes a node, and is told its first epoch
abbrev pub taken : Entry
taken = record { seat = 9; kind = seats.Agent; request = asks.TakeNode (codes "n"); reply = replies.Epoch 1; told = true }

abbrev pub taken_line : List ℕ
taken_line = codes "{\"ask\":{\"do\":\"take\",\"node\":\"n\"},\"kind\":\"Agent\",\"reply\":{\"epoch\":1},\"seat\":9,\"told\":true}"

-- a node without more, with this UID
abbrev pub node_named : List ℕ → Option Uid → Object
node_named name uid = objects.Node (record
    { meta = record { namespace = []; name = name; uid = uid; version = 0; created = []; deleted = None; labels = []; annotations = []; finalizers = [] }; extra = [] })

abbrev pub node_n : Object
node_n = node_named (codes "n") (Some (uid_of_serial 9))

abbrev pub with_imports : List Object → Setup
with_imports imports = record { pools = []; faults = []; imports = imports }

-- a text is refused at this line for this reason
abbrev pub at_fault : ℕ → HistoryReason → Result History BadHistoryLine
at_fault n reason = Err (record { line = n; reason = reason })
