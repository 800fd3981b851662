-- The words that tell what stands in a line, and the value that a word names. A choice of this project: the history format.
use Rattle.std.specs.Prelude.{ℕ, List, [], ◌∷◌, Option, codes}
use Rattle.kube_parts.specs.Named.{value_named}
use Rattle.kube_parts.specs.Words.{field_word, rule_word}
use Rattle.kube_parts.specs.declared.names.Field.{Field}
use Rattle.kube_parts.specs.declared.names.Field.TheVariants as fields
use Rattle.kube_parts.specs.declared.names.Rule.{Rule}
use Rattle.kube_parts.specs.declared.names.Rule.TheVariants as rules
use Rattle.call_types.specs.declared.request.SeatKind.{SeatKind}
use Rattle.call_types.specs.declared.request.SeatKind.TheVariants as seats
use Rattle.call_types.specs.declared.reply.Change.{Change}
use Rattle.call_types.specs.declared.reply.Change.TheVariants as changes
use Rattle.call_types.specs.Words.{change_word, seat_word}
use Rattle.history_lines.specs.declared.words.AskWord.{AskWord}
use Rattle.history_lines.specs.declared.words.AskWord.TheVariants as asks
use Rattle.history_lines.specs.declared.words.EditWord.{EditWord}
use Rattle.history_lines.specs.declared.words.EditWord.TheVariants as edits
use Rattle.history_lines.specs.declared.words.ReplyWord.{ReplyWord}
use Rattle.history_lines.specs.declared.words.ReplyWord.TheVariants as replies
use Rattle.history_lines.specs.declared.words.RefusalWord.{RefusalWord}
use Rattle.history_lines.specs.declared.words.RefusalWord.TheVariants as refusals

-- ---- what is asked: the member `do`

-- the word of a request, as its `do` has it
abbrev pub asked_word : AskWord → List ℕ
asked_word asks.Create = codes "create"
asked_word asks.Update = codes "update"
asked_word asks.Status = codes "status"
asked_word asks.Edit = codes "edit"
asked_word asks.Delete = codes "delete"
asked_word asks.Get = codes "get"
asked_word asks.List = codes "list"
asked_word asks.Watch = codes "watch"
asked_word asks.Bind = codes "bind"
asked_word asks.Finish = codes "finish"
asked_word asks.Provision = codes "provision"
asked_word asks.Erase = codes "erase"
asked_word asks.Take = codes "take"
asked_word asks.Mounts = codes "mounts"
asked_word asks.Mount = codes "mount"
asked_word asks.Unmount = codes "unmount"
asked_word asks.Time = codes "time"

-- the words of the seventeen requests
abbrev pub all_asks : List AskWord
all_asks =
    asks.Create ∷ asks.Update ∷ asks.Status ∷ asks.Edit ∷ asks.Delete ∷ asks.Get ∷ asks.List ∷ asks.Watch ∷ asks.Bind ∷ asks.Finish
    ∷ asks.Provision ∷ asks.Erase ∷ asks.Take ∷ asks.Mounts ∷ asks.Mount ∷ asks.Unmount ∷ asks.Time ∷ []

-- the request of a word, if it is that of one
abbrev pub ask_named : List ℕ → Option AskWord
ask_named word = value_named asked_word all_asks word

-- ---- edits, replies: the member that stands

-- the member that tells an edit
abbrev pub edited_word : EditWord → List ℕ
edited_word edits.AddFinalizer = codes "addFinalizer"
edited_word edits.DropFinalizer = codes "dropFinalizer"
edited_word edits.DropLabel = codes "dropLabel"
edited_word edits.DropAnnotation = codes "dropAnnotation"
edited_word edits.SetLabel = codes "setLabel"
edited_word edits.SetAnnotation = codes "setAnnotation"
edited_word edits.SetVolumeName = codes "setVolumeName"
edited_word edits.SetPolicy = codes "setPolicy"
edited_word edits.SetClaimRef = codes "setClaimRef"
edited_word edits.ClearClaimRef = codes "clearClaimRef"

-- the members of the ten edits, in the order in which they are looked for
abbrev pub all_edits : List EditWord
all_edits =
    edits.AddFinalizer ∷ edits.DropFinalizer ∷ edits.DropLabel ∷ edits.DropAnnotation ∷ edits.SetLabel ∷ edits.SetAnnotation
    ∷ edits.SetVolumeName ∷ edits.SetPolicy ∷ edits.SetClaimRef ∷ edits.ClearClaimRef ∷ []

-- the member that tells a reply
abbrev pub replied_word : ReplyWord → List ℕ
replied_word replies.Done = codes "done"
replied_word replies.Left = codes "left"
replied_word replies.Found = codes "found"
replied_word replies.Listed = codes "listed"
replied_word replies.Events = codes "events"
replied_word replies.Provisioned = codes "driver"
replied_word replies.Erased = codes "erased"
replied_word replies.Epoch = codes "epoch"
replied_word replies.Mounted = codes "mounted"
replied_word replies.Timed = codes "timed"
replied_word replies.Refused = codes "refused"

-- the members of the eleven replies, in the order in which they are looked for
abbrev pub all_replies : List ReplyWord
all_replies =
    replies.Done ∷ replies.Left ∷ replies.Found ∷ replies.Listed ∷ replies.Events ∷ replies.Provisioned ∷ replies.Erased
    ∷ replies.Epoch ∷ replies.Mounted ∷ replies.Timed ∷ replies.Refused ∷ []

-- ---- refusals: the member `refused`

-- the word of a refusal
abbrev pub refused_word : RefusalWord → List ℕ
refused_word refusals.NotFound = codes "NotFound"
refused_word refusals.AlreadyExists = codes "AlreadyExists"
refused_word refusals.Conflict = codes "Conflict"
refused_word refusals.Invalid = codes "Invalid"
refused_word refusals.Forbidden = codes "Forbidden"
refused_word refusals.Gone = codes "Gone"
refused_word refusals.Exhausted = codes "Exhausted"
refused_word refusals.BackFault = codes "BackFault"
refused_word refusals.StaleEpoch = codes "StaleEpoch"
refused_word refusals.Assigned = codes "Assigned"

-- the words of the ten refusals
abbrev pub all_refusals : List RefusalWord
all_refusals =
    refusals.NotFound ∷ refusals.AlreadyExists ∷ refusals.Conflict ∷ refusals.Invalid ∷ refusals.Forbidden ∷ refusals.Gone
    ∷ refusals.Exhausted ∷ refusals.BackFault ∷ refusals.StaleEpoch ∷ refusals.Assigned ∷ []

-- the refusal of a word, if it is that of one
abbrev pub refusal_named : List ℕ → Option RefusalWord
refusal_named word = value_named refused_word all_refusals word

-- ---- values with one printed word

-- the seven kinds of clients
abbrev pub all_seats : List SeatKind
all_seats = seats.User ∷ seats.Binder ∷ seats.Ops ∷ seats.Scheduler ∷ seats.ClaimProtect ∷ seats.VolumeProtect ∷ seats.Agent ∷ []

-- the kind of client of a word, if it is that of one
abbrev pub seat_named : List ℕ → Option SeatKind
seat_named word = value_named seat_word all_seats word

-- the three changes that a watch tells
abbrev pub all_changes : List Change
all_changes = changes.Added ∷ changes.Modified ∷ changes.Deleted ∷ []

-- the change of a word, if it is that of one
abbrev pub change_named : List ℕ → Option Change
change_named word = value_named change_word all_changes word

-- the fields that a refusal may name as invalid
abbrev pub all_fields : List Field
all_fields =
    fields.Name ∷ fields.Namespace ∷ fields.Capacity ∷ fields.Request ∷ fields.AccessModes ∷ fields.ClaimRef ∷ fields.Provisioner
    ∷ fields.NodeName ∷ fields.Claims ∷ fields.Finalizers ∷ fields.Time ∷ fields.Kind ∷ fields.From ∷ fields.Spec ∷ fields.VolumeName
    ∷ fields.Source ∷ fields.VolumeMode ∷ fields.NodeAffinity ∷ fields.Parameters ∷ fields.Policy ∷ fields.BindingMode ∷ fields.Deletion ∷ []

-- the field of a word, if it is that of one
abbrev pub field_named : List ℕ → Option Field
field_named word = value_named field_word all_fields word

-- the rules that may forbid a request
abbrev pub all_rules : List Rule
all_rules = rules.Verb ∷ rules.Annotation ∷ rules.Finalizer ∷ rules.ClaimRef ∷ rules.Policy ∷ []

-- the rule of a word, if it is that of one
abbrev pub rule_named : List ℕ → Option Rule
rule_named word = value_named rule_word all_rules word
