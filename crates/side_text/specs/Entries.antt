-- Entries of the side, and their lines.
-- A choice of this project: the format of extended histories. An ask has the `do` and the members of its line, or those of the step.
use Rattle.std.specs.Prelude.{ℕ, ◌==◌, List, [], ◌∷◌, true, if◌then◌else◌, Option, Some, None, codes}
use Rattle.serde_json.specs.Data.{Data}
use Rattle.serde_json.specs.Written.{compact_text}
use Rattle.kube_objects.specs.declared.key.Key.{Key}
use Rattle.kube_objects.specs.declared.objects.Object.{Object}
use Rattle.json_text.specs.Members.{MemberList, flag, object_of, text, whole}
use Rattle.object_print.specs.Objects.{object_data}
use Rattle.history_text.specs.Requests.{key_pairs}
use Rattle.side_calls.specs.declared.asks.SideAsk.{SideAsk}
use Rattle.side_calls.specs.declared.asks.SideAsk.TheVariants as asks
use Rattle.side_calls.specs.declared.asks.SideReply.{SideReply}
use Rattle.side_calls.specs.declared.asks.SideReply.TheVariants as replies
use Rattle.side_calls.specs.declared.quotas.OverQuota.{OverQuota}
use Rattle.side_calls.specs.declared.quotas.OverQuota.TheVariants.{OverBytes, OverClaims}
use Rattle.side_calls.specs.declared.sizes.GrowError.{GrowError}
use Rattle.side_calls.specs.declared.sizes.GrowError.TheVariants as errors
use Rattle.side_calls.specs.declared.sizes.StepKind.{StepKind}
use Rattle.side_text.specs.declared.entries.PlacedEntry.{PlacedEntry}
use Rattle.side_text.specs.Words.{step_word, why_word}

-- ---- asks

-- the user, left out where it is the first
abbrev pub other_user : ℕ → Option Data
other_user user = if user == 1 then None else whole user

-- the members of a user's create
abbrev pub create_pairs : ℕ → Object → MemberList
create_pairs user object = (codes "do", text (codes "create")) ∷ (codes "object", Some (object_data object)) ∷ (codes "user", other_user user) ∷ []

-- the members of a user's wish that a claim grow
abbrev pub grow_pairs : ℕ → Key → ℕ → MemberList
grow_pairs user key bytes =
    (codes "bytes", whole bytes)
    ∷ (codes "do", text (codes "grow"))
    ∷ (codes "name", text key.name)
    ∷ (codes "namespace", text key.namespace)
    ∷ (codes "user", other_user user)
    ∷ []

-- the members of a step of growth: which number it raises, and of which claim
abbrev pub step_pairs : StepKind → Key → MemberList
step_pairs kind key = (codes "do", text (step_word kind)) ∷ key_pairs key

-- the members of an ask
abbrev pub ask_pairs : SideAsk → MemberList
ask_pairs (asks.Create user object) = create_pairs user object
ask_pairs (asks.Grow user key bytes) = grow_pairs user key bytes
ask_pairs (asks.Step kind key) = step_pairs kind key

-- the same as an object
unfoldable pub ask_data : SideAsk → Data
ask_data ask = object_of (ask_pairs ask)

-- ---- replies

-- a limit that would be passed, and what was used of it
abbrev pub over_pairs : List ℕ → ℕ → ℕ → MemberList
over_pairs word used limit = (codes "limit", whole limit) ∷ (codes "refused", text word) ∷ (codes "used", whole used) ∷ []

-- a quota that refuses
abbrev pub quota_pairs : OverQuota → MemberList
quota_pairs (OverBytes used limit) = over_pairs (codes "OverBytes") used limit
quota_pairs (OverClaims used limit) = over_pairs (codes "OverClaims") used limit

-- that a claim may not grow, and the word for why
abbrev pub ungrown_pairs : List ℕ → MemberList
ungrown_pairs why = (codes "refused", text (codes "NotGrowable")) ∷ (codes "why", text why) ∷ []

-- why a claim did not grow
abbrev pub error_pairs : GrowError → MemberList
error_pairs (errors.NotGrowable why) = ungrown_pairs (why_word why)
error_pairs (errors.OverBytes used limit) = over_pairs (codes "OverBytes") used limit

-- the members of a reply
abbrev pub reply_pairs : SideReply → MemberList
reply_pairs replies.Done = (codes "done", flag true) ∷ []
reply_pairs (replies.Bytes bytes) = (codes "bytes", whole bytes) ∷ []
reply_pairs (replies.OverQuota over) = quota_pairs over
reply_pairs (replies.NotGrown error) = error_pairs error

-- the same as an object
unfoldable pub reply_data : SideReply → Data
reply_data reply = object_of (reply_pairs reply)

-- ---- entries

-- the members of an entry: how many entries of the history come before it, what was asked, and what was answered
abbrev pub entry_pairs : PlacedEntry → MemberList
entry_pairs e = (codes "after", whole e.after) ∷ (codes "ask", Some (ask_data e.entry.ask)) ∷ (codes "reply", Some (reply_data e.entry.reply)) ∷ []

-- the same as an object
unfoldable pub side_data : PlacedEntry → Data
side_data e = object_of (entry_pairs e)

-- the line of an entry
abbrev pub side_line : PlacedEntry → List ℕ
side_line e = compact_text (side_data e)
