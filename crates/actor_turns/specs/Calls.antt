-- The calls of an actor, counted over its lives, lost ones and those that are held back too. The newest entry of a history
-- stands first.
-- A choice of this project, after what a controller of Kubernetes meets: calls are lost, and it is restarted.
use Rattle.std.specs.Prelude.{ℕ, zero, suc, ◌≡◌, ◌≤◌, ◌<◌, ◌⊎◌, ◌+◌, ◌==◌, ◌&&◌, not, nat_lt, Bool, true, false, List, [], ◌∷◌, ◌++◌, is_some, map, if◌then◌else◌}
use Rattle.kube_parts.specs.declared.parts.Kind.{Kind}
use Rattle.call_types.specs.declared.entry.Entry.{Entry}
use Rattle.call_types.specs.declared.request.Request.{Request}
use Rattle.call_types.specs.declared.request.SeatKind.{SeatKind}
use Rattle.call_types.specs.declared.reply.Reply.{Reply}
use Rattle.binder_model.specs.Licence.{Licensed}
use Rattle.binder_model.specs.Reading.{follows}
use Rattle.binder_model.specs.Told.{own}
use Rattle.attention_law.specs.Diligence.{Call, entries}
use Rattle.attention_law.specs.Resting.{WasToldStale}
use Rattle.worker_core.specs.Stands.{HasNoNews}
use Rattle.actor_rounds.specs.Answers.Answered.{Lets}
use Rattle.actor_turns.specs.declared.loss.Fate.{Fate}
use Rattle.actor_turns.specs.declared.loss.Fate.TheVariants.{Told, LostBefore, LostAfter}
use Rattle.actor_turns.specs.Fates.{fate_of}
use Rattle.actor_turns.specs.declared.part.Part.{Part}

-- how many of the restarts come before the call of this number: a restart comes after so many calls
abbrev pub restarts_before : ℕ → List ℕ → ℕ
restarts_before n [] = 0
restarts_before n (after ∷ restarts) = if nat_lt after n then 1 + restarts_before n restarts else restarts_before n restarts

-- the seat of the life that makes the call of this number
abbrev pub seat_at : Part → ℕ → ℕ
seat_at part n = part.first + restarts_before n part.restarts

-- the entries are one more: a call of this seat and kind that was let through, whose answer was told or not
pub record IsOneMore (lets : Lets) (seat : ℕ) (kind : SeatKind) (told : Bool) (past new : List Entry) : Type 0 where
  pub request : Request
  pub reply : Reply
  pub passes : lets past request ≡ true
  pub is : new ≡ (record { seat = seat; kind = kind; request = request; reply = reply; told = told }) ∷ past

-- a call with this fate: one that is lost before its effect leaves no entry, one that is lost after it an entry that was
-- not told
abbrev pub IsCallWith : Lets → Fate → ℕ → SeatKind → List Entry → List Entry → Type 0
IsCallWith lets Told seat kind past new = IsOneMore lets seat kind true past new
IsCallWith lets LostAfter seat kind past new = IsOneMore lets seat kind false past new
IsCallWith lets LostBefore seat kind past new = new ≡ past

-- a call that was held back: it was licensed, and leaves no entry
pub record IsHeldCall (lets : Lets) (seat : ℕ) (kind : SeatKind) (past new : List Entry) : Type 0 where
  pub request : Request
  pub licensed : Licensed kind (own seat past) request
  pub held : lets past request ≡ false
  pub is : new ≡ past

-- a call that was held back, or one with this fate
abbrev pub IsCallBy : Lets → Bool → Fate → ℕ → SeatKind → List Entry → List Entry → Type 0
IsCallBy lets true fate seat kind past new = IsHeldCall lets seat kind past new
IsCallBy lets false fate seat kind past new = IsCallWith lets fate seat kind past new

-- the number is one of these: the numbers of an actor's calls that were held back
abbrev pub is_held : List ℕ → ℕ → Bool
is_held [] n = false
is_held (m ∷ held) n = if m == n then true else is_held held n

-- the call of this number
abbrev pub IsCall : Lets → List ℕ → Part → ℕ → List Entry → List Entry → Type 0
IsCall lets held part n past new = IsCallBy lets (is_held held n) (fate_of part.losses n) (seat_at part n) part.kind past new

-- so many calls from the one of this number on, in order, up to the entries `new`
pub data AreCalls (lets : Lets) (held : List ℕ) (part : Part) (new : List Entry) : ℕ → ℕ → List Entry → Type 0 where
  NoCalls : {n count : ℕ} {past : List Entry} → count ≡ 0 → new ≡ past → AreCalls lets held part new n count past
  MoreCalls : {n count : ℕ} {past : List Entry} (rest : ℕ) (middle : List Entry) → count ≡ rest + 1 → IsCall lets held part n past middle
      → AreCalls lets held part new (n + 1) rest middle → AreCalls lets held part new n count past

-- of the kinds that the actor follows there is no news after the earlier ones of its entries: the last told list of the
-- whole kind or watch of it is a watch without events, and stands after them
pub record IsQuietSince (kind : SeatKind) (earlier mine : List Entry) : Type 0 where
  pub recent : List Entry
  pub are : mine ≡ recent ++ earlier
  pub quiet : (k : Kind) → follows kind k ≡ true → HasNoNews k recent

-- a turn may give fewer calls than its line says where its life has no news since it was last given fewer, or is an agent's
-- that was told that its epoch is stale
abbrev pub MayEnd : SeatKind → List Entry → List Entry → Type 0
MayEnd kind earlier mine = IsQuietSince kind earlier mine ⊎ WasToldStale kind mine

-- ---- the calls of each life, the newest first

-- a call with this fate leaves an entry
abbrev pub leaves_entry : Fate → Bool
leaves_entry Told = true
leaves_entry LostAfter = true
leaves_entry LostBefore = false

-- of the actor's calls up to this number those of the life at the seat, the newest first: whether each leaves an entry
abbrev pub left_by : List ℕ → Part → ℕ → ℕ → List Bool
left_by held part seat zero = []
left_by held part seat (suc n) = if seat_at part (suc n) == seat then (not (is_held held (suc n)) && leaves_entry (fate_of part.losses (suc n))) ∷
    left_by held part seat n else left_by held part seat n

-- these are the calls of the life at the seat, where the actor has made so many over all lives, and those of these numbers
-- were held back: their entries are those of the seat, and a call has none where it was held back or is lost before its
-- effect
pub record AreOfLife (held : List ℕ) (part : Part) (seat made : ℕ) (past : List Entry) (calls : List Call) : Type 0 where
  pub of_seat : entries calls ≡ own seat past
  pub left : map is_some calls ≡ left_by held part seat made

-- the calls of each life when a turn last gave it fewer than it was to make; those of the seat are these now
abbrev pub and_idle : {X : Type 0} → ℕ → X → (ℕ → X) → ℕ → X
and_idle seat mine idle other = if other == seat then mine else idle other
