-- When a life of an actor is diligent: told of nothing new, it does not go on reading for ever and leave a key undecided
-- for which its rules give a call. The newest call stands first.
-- A choice of this project, after the work queue and the resync of a controller in client-go.
use Rattle.std.specs.Prelude.{ℕ, ◌≡◌, ◌≤◌, ◌⊎◌, ◌+◌, Bool, true, false, not, List, [], ◌∷◌, ◌++◌, Option, Some, None, ⊤, if◌then◌else◌}
use Rattle.kube_objects.specs.declared.key.Key.{Key}
use Rattle.kube_parts.specs.declared.parts.Kind.{Kind}
use Rattle.kube_objects.specs.declared.objects.Object.{Object}
use Rattle.kube_objects.specs.Keys.{AreRows, row_at, same_kind}
use Rattle.call_types.specs.declared.entry.Entry.{Entry}
use Rattle.call_types.specs.declared.request.Request.{Request}
use Rattle.call_types.specs.declared.request.Request.TheVariants as requests
use Rattle.call_types.specs.declared.reply.Refusal.TheVariants.{Gone}
use Rattle.call_types.specs.declared.reply.Reply.{Reply}
use Rattle.call_types.specs.declared.reply.Reply.TheVariants as replies
use Rattle.binder_model.specs.Told.{newest, object_of}
use Rattle.worker_core.specs.declared.role.Role.{Role}
use Rattle.worker_core.specs.declared.task.First.{First}
use Rattle.worker_core.specs.declared.task.First.TheVariants as firsts
use Rattle.worker_core.specs.declared.task.Task.{Task}
use Rattle.worker_core.specs.declared.task.Under.{Under}
use Rattle.worker_core.specs.Absorbs.{is_none_of}
use Rattle.worker_core.specs.Memories.{memory_of}
use Rattle.worker_core.specs.Tasks.{GivesCall, IsDecision, task_call}

-- the calls of a life

-- a call with the entry that it left, or none where it was lost before its effect
abbrev pub Call : Type 0
Call = Option Entry

-- the entries that the calls left
abbrev pub entries : List Call → List Entry
entries [] = []
entries (None ∷ calls) = entries calls
entries (Some e ∷ calls) = e ∷ entries calls

-- what the rules give

-- the rows stand in order, and show of each key the newest that was told
pub record Shows (mine : List Entry) (rows : List Object) : Type 0 where
  pub order : AreRows rows
  pub shown : (key : Key) → row_at key rows ≡ object_of (newest mine key)

-- the decision begins with a call
pub record BeginsCall (first : First) : Type 0 where
  pub task : Task
  pub request : Request
  pub begins : first ≡ firsts.Begins task
  pub call : task_call task ≡ Some request

-- after these entries the rules give the life a call for the key: on some rows that show the newest told they give one, and
-- on no such rows they decide anything else
pub record IsKeyDue (role : Role) (key : Key) (mine : List Entry) : Type 0 where
  pub rows : List Object
  pub shows : Shows mine rows
  pub under : Under
  pub own : under.key ≡ key
  pub gives : GivesCall role (memory_of role mine) rows under
  pub only : (other : List Object) → Shows mine other → (first : First) → IsDecision role (memory_of role mine) other key first → BeginsCall first

-- the request is a call that the rules give for the key after these entries
pub record IsAskedFor (role : Role) (key : Key) (mine : List Entry) (request : Request) : Type 0 where
  pub rows : List Object
  pub shows : Shows mine rows
  pub under : Under
  pub own : under.key ≡ key
  pub gives : GivesCall role (memory_of role mine) rows under
  pub call : request ≡ under.call

-- quiet calls

-- nothing is asked but to read, or to take a node
abbrev pub is_read : Request → Bool
is_read (requests.List kind namespace) = true
is_read (requests.Watch kind from) = true
is_read (requests.Get key) = true
is_read (requests.TakeNode node) = true
is_read (requests.Mounts node epoch) = true
is_read request = false

-- the answer has an event, or is Gone
abbrev pub is_news : Reply → Bool
is_news (replies.Events events) = not (is_none_of events.events)
is_news (replies.Refused (Gone oldest)) = true
is_news reply = false

-- the call was told, is one that reads, and brought no news
pub record IsQuiet (e : Entry) : Type 0 where
  pub told : e.told ≡ true
  pub reads : is_read e.request ≡ true
  pub no_news : is_news e.reply ≡ false

-- no call was lost, and each is quiet
abbrev pub AreQuiet : List Call → Type 0
AreQuiet [] = ⊤
AreQuiet (None ∷ calls) = ⊥
AreQuiet (Some e ∷ calls) = IsQuiet e × AreQuiet calls

-- watches

-- the request is a watch of this kind
abbrev pub watches_kind : Kind → Request → Bool
watches_kind kind (requests.Watch k from) = same_kind k kind
watches_kind kind request = false

-- how many of the calls watched the kind
abbrev pub watches : Kind → List Call → ℕ
watches kind [] = 0
watches kind (None ∷ calls) = watches kind calls
watches kind (Some e ∷ calls) = if watches_kind kind e.request then watches kind calls + 1 else watches kind calls

-- the rule

-- the key is due at each point from the calls `before` on, up to those that came since
abbrev pub IsDueThroughout : Role → Key → List Call → List Call → Type 0
IsDueThroughout role key before [] = IsKeyDue role key (entries before)
IsDueThroughout role key before (call ∷ since) = IsKeyDue role key (entries (call ∷ since ++ before)) × IsDueThroughout role key before since

-- a call that the rules give for the key was asked since
abbrev pub WasAskedSince : Role → Key → List Call → List Call → Type 0
WasAskedSince role key before [] = ⊥
WasAskedSince role key before (None ∷ since) = WasAskedSince role key before since
WasAskedSince role key before (Some e ∷ since) = IsAskedFor role key (entries (since ++ before)) e.request ⊎ WasAskedSince role key before since

-- four watches of a kind among the calls: a first and a fourth, and at least two between them. From the first to the fourth
-- each call is quiet
pub record AreFourWatches (kind : Kind) (first fourth : Entry) (between : List Call) : Type 0 where
  pub opens : watches_kind kind first.request ≡ true
  pub closes : watches_kind kind fourth.request ≡ true
  pub many : 2 ≤ watches kind between
  pub quiet : AreQuiet (Some fourth ∷ between ++ Some first ∷ [])

-- where there are four such watches, a key that is due at each point between them was called for between them. Four, since
-- the first may end a pass that had events; before the third the life was idle and was woken; before the fourth it decided
-- each key
abbrev pub IsDiligent : Role → List Call → Type 0
IsDiligent role calls = (kind : Kind) (first fourth : Entry) (earlier between later : List Call) → calls ≡ later ++ (Some fourth ∷ between ++ Some first ∷ earlier)
    → AreFourWatches kind first fourth between → (key : Key) → IsDueThroughout role key (Some first ∷ earlier) between → WasAskedSince role key (Some first ∷ earlier) between
