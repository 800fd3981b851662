-- Setups and entries that a text can give, whatever their length.
-- A choice of this project: the history format. Lines that are read nest at most 127 levels, as every JSON text that is read.
use Rattle.std.specs.Prelude.{◌≡◌, ℕ, ◌^◌, ◌<◌, ◌≤◌, List, true, IfSome, All, ⊤}
use Rattle.serde_json.specs.Data.{depth}
use Rattle.plain_data.specs.Pairs.{ArePairs}
use Rattle.call_types.specs.declared.request.NewStatus.{NewStatus}
use Rattle.call_types.specs.declared.request.NewStatus.TheVariants as statuses
use Rattle.call_types.specs.declared.request.Request.{Request}
use Rattle.call_types.specs.declared.request.Request.TheVariants as asks
use Rattle.call_types.specs.declared.reply.Event.{Event}
use Rattle.call_types.specs.declared.reply.Events.{Events}
use Rattle.call_types.specs.declared.reply.MountRow.{MountRow}
use Rattle.call_types.specs.declared.reply.Refusal.{Refusal}
use Rattle.call_types.specs.declared.reply.Refusal.TheVariants as refusals
use Rattle.call_types.specs.declared.reply.Reply.{Reply}
use Rattle.call_types.specs.declared.reply.Reply.TheVariants as replies
use Rattle.call_types.specs.declared.entry.Entry.{Entry}
use Rattle.call_types.specs.declared.setup.Pool.{Pool}
use Rattle.call_types.specs.declared.setup.Setup.{Setup}
use Rattle.binder_model.specs.Imports.{ImportsPass}
use Rattle.history_text.specs.Entries.{entry_data, setup_data}
use Rattle.history_lines.specs.Entries.{rise}
use Rattle.object_laws.specs.Given.{IsGivenObject, IsAmount, IsUid}

-- a number of 64 bits
abbrev pub IsNumber : ℕ → Type 0
IsNumber n = n < 2 ^ 64

-- a new status that a line can give
abbrev pub IsStatus : NewStatus → Type 0
IsStatus (statuses.Volume phase) = ⊤
IsStatus (statuses.Claim phase modes amount) = IfSome amount IsAmount

-- a request that a line can give: its numbers have 64 bits, its UIDs 128, and its objects are ones that a manifest can give
abbrev pub IsRequest : Request → Type 0
IsRequest (asks.Create object) = IsGivenObject object
IsRequest (asks.Update object version) = IsGivenObject object × IfSome version IsNumber
IsRequest (asks.UpdateStatus key status version) = IsStatus status × IfSome version IsNumber
IsRequest (asks.Edit key edit) = ⊤
IsRequest (asks.Delete key uid) = IfSome uid IsUid
IsRequest (asks.Get key) = ⊤
IsRequest (asks.List kind namespace) = ⊤
IsRequest (asks.Watch kind from) = IsNumber from
IsRequest (asks.BindPod key uid node) = IsUid uid
IsRequest (asks.FinishPod key uid node epoch) = IsUid uid × IsNumber epoch
IsRequest (asks.Provision name provisioner bytes labels) = IsNumber bytes × IfSome labels ArePairs
IsRequest (asks.Erase id) = ⊤
IsRequest (asks.TakeNode node) = ⊤
IsRequest (asks.Mounts node epoch) = IsNumber epoch
IsRequest (asks.Mount node epoch pod claims) = IsNumber epoch × IsUid pod × All IsUid claims
IsRequest (asks.Unmount node epoch pod) = IsNumber epoch × IsUid pod
IsRequest (asks.SetTime moment) = ⊤

-- a watch event that a line can give
pub record IsEvent (e : Event) : Type 0 where
  pub object : IsGivenObject e.object
  pub version : IsNumber e.version

-- a mount that a line can give
pub record IsMountRow (row : MountRow) : Type 0 where
  pub pod : IsUid row.pod
  pub claims : All IsUid row.claims

-- the answer of a watch that a line can give
pub record AreEvents (e : Events) : Type 0 where
  pub events : All IsEvent e.events
  pub upto : IsNumber e.upto

-- a refusal that a line can give
abbrev pub IsRefusal : Refusal → Type 0
IsRefusal refusals.NotFound = ⊤
IsRefusal refusals.AlreadyExists = ⊤
IsRefusal (refusals.Conflict current) = IsNumber current
IsRefusal (refusals.Invalid field) = ⊤
IsRefusal (refusals.Forbidden rule) = ⊤
IsRefusal (refusals.Gone oldest) = IsNumber oldest
IsRefusal (refusals.Exhausted free) = IsNumber free
IsRefusal (refusals.BackFault planned) = IsNumber planned
IsRefusal (refusals.StaleEpoch current) = IsNumber current
IsRefusal (refusals.Assigned node) = ⊤

-- a reply that a line can give
abbrev pub IsReply : Reply → Type 0
IsReply (replies.Done object) = IsGivenObject object
IsReply (replies.Left object) = IsGivenObject object
IsReply (replies.Found object) = IsGivenObject object
IsReply (replies.Listed items version) = All IsGivenObject items × IsNumber version
IsReply (replies.Events events) = AreEvents events
IsReply (replies.Provisioned id topology) = ⊤
IsReply (replies.Erased removed) = ⊤
IsReply (replies.Epoch epoch) = IsNumber epoch
IsReply (replies.Mounted rows) = All IsMountRow rows
IsReply replies.Timed = ⊤
IsReply (replies.Refused refusal) = IsRefusal refusal

-- an entry that a line can give
pub record IsEntry (e : Entry) : Type 0 where
  pub seat : IsNumber e.seat
  pub request : IsRequest e.request
  pub reply : IsReply e.reply

-- a pool that the first line can give
abbrev pub IsPool : Pool → Type 0
IsPool p = IsNumber p.bytes

-- the faults rise, and a world may begin with the imports
pub record IsSetup (s : Setup) : Type 0 where
  pub pools : All IsPool s.pools
  pub faults : All IsNumber s.faults
  pub rising : rise s.faults ≡ true
  pub imports : All IsGivenObject s.imports
  pub passing : ImportsPass s.imports

-- a history that a text can give
pub record IsTextHistory (s : Setup) (es : List Entry) : Type 0 where
  pub setup : IsSetup s
  pub entries : All IsEntry es

-- ---- levels

-- the line of the entry nests no deeper than is read
abbrev pub IsShallow : Entry → Type 0
IsShallow e = depth (entry_data e) ≤ 127

-- no line nests deeper than is read
pub record AreShallow (s : Setup) (es : List Entry) : Type 0 where
  pub setup : depth (setup_data s) ≤ 127
  pub entries : All IsShallow es
