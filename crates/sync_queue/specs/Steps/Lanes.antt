-- How the map of stages and the three lists of keys go together: choices of this project, which no public clause names.
use Rattle.std.specs.Prelude.{◌≡◌, ℕ, ◌+◌, ◌≤◌, Bool, true, false, List, [], ◌∷◌, ◌++◌, Option, None, Some, map, length, if◌then◌else◌}
use Rattle.std.specs.List.{list_any}
use Rattle.kube_objects.specs.declared.key.Key.{Key}
use Rattle.std.specs.VecDeque.{deque_len, deque_capacity}
use Rattle.indexmap.specs.IndexMap.{get, keys}
use Rattle.sync_queue.specs.declared.lanes.Lanes.{Lanes}
use Rattle.sync_queue.specs.declared.lanes.KeyStage.{KeyStage}
use Rattle.sync_queue.specs.declared.lanes.KeyStage.TheVariants.{Waiting, Taken, Again, Parked, Gone}
use Rattle.kube_objects.specs.Keys.{same_key}
use Rattle.sync_queue.specs.Work.{Work, AreOnce}
use Rattle.sync_queue.specs.Steps.Places.{AreBelow, key_there, keys_at}
use Rattle.sync_queue.specs.Work.{Taken as TakenKey}

-- tests of a key's stage, None where the map has no such key
abbrev pub is_waiting : Option KeyStage → Bool
is_waiting None = false
is_waiting (Some Waiting) = true
is_waiting (Some Taken) = false
is_waiting (Some Again) = false
is_waiting (Some Parked) = false
is_waiting (Some Gone) = false

-- the key is taken
abbrev pub is_taken : Option KeyStage → Bool
is_taken None = false
is_taken (Some Waiting) = false
is_taken (Some Taken) = true
is_taken (Some Again) = true
is_taken (Some Parked) = false
is_taken (Some Gone) = false

-- the key is taken, and queued again
abbrev pub is_again : Option KeyStage → Bool
is_again None = false
is_again (Some Waiting) = false
is_again (Some Taken) = false
is_again (Some Again) = true
is_again (Some Parked) = false
is_again (Some Gone) = false

-- the key is parked
abbrev pub is_parked : Option KeyStage → Bool
is_parked None = false
is_parked (Some Waiting) = false
is_parked (Some Taken) = false
is_parked (Some Again) = false
is_parked (Some Parked) = true
is_parked (Some Gone) = false

-- the list has the keys whose stage passes the test, each once
pub record IsLane (test : Option KeyStage → Bool) (stage : Key → Option KeyStage) (ks : List Key) : Type 0 where
  pub says : (k : Key) → list_any (same_key k) ks ≡ test (stage k)
  pub once : AreOnce ks

-- each key stands on the list of its stage
pub record AreLanes (stage : Key → Option KeyStage) (ws ts ps : List Key) : Type 0 where
  pub waiting : IsLane is_waiting stage ws
  pub taken : IsLane is_taken stage ts
  pub parked : IsLane is_parked stage ps

-- the taken keys, each with its mark
abbrev pub marks : (Key → Option KeyStage) → List Key → List TakenKey
marks stage ks = map (λ k. record { key = k; again = is_again (stage k) }) ks

-- the work that stages and lists stand for
abbrev pub work_of : (Key → Option KeyStage) → List Key → List Key → List Key → Work
work_of stage ws ts ps = record { waiting = ws; taken = marks stage ts; parked = ps }

-- the key that was parked first, where one is
abbrev pub wake_oldest : List Key → Work → Work
wake_oldest [] w = w
wake_oldest (k ∷ ks) w = record { waiting = w.waiting ++ k ∷ []; taken = w.taken; parked = ks }

-- the key that was parked first waits again
abbrev pub woken_first : Work → Work
woken_first w = wake_oldest w.parked w

-- the key alone has another stage
abbrev pub IsSet : (Key → Option KeyStage) → Key → Option KeyStage → (Key → Option KeyStage) → Type 0
IsSet old k s new = (q : Key) → new q ≡ (if same_key k q then s else old q)

-- lists of these lengths and capacities have room for all keys each
pub record HaveRoom (w t p a b c : ℕ) : Type 0 where
  pub waiting : w + t + p ≤ a
  pub taken : w + t + p ≤ b
  pub parked : w + t + p ≤ c

-- the stage of a key in the map
abbrev pub stage_in : Lanes → Key → Option KeyStage
stage_in l = get same_key l.stages

-- the key at a place of the map
abbrev pub key_in : Lanes → ℕ → Key
key_in l place = key_there (keys l.stages) place

-- the keys of a list of places
abbrev pub keys_in : Lanes → List ℕ → List Key
keys_in l places = keys_at (keys l.stages) places

-- the key that stands there among those that are taken
abbrev pub taken_in : Lanes → ℕ → Key
taken_in l at = key_there (keys_in l l.taken.items) at

-- the work that the map and the lists stand for
abbrev pub work_in : Lanes → Work
work_in l = work_of (stage_in l) (keys_in l l.waiting.items) (keys_in l l.taken.items) (keys_in l l.parked.items)

-- the places on the lists are those of keys
pub record AreKeys (l : Lanes) : Type 0 where
  pub waiting : AreBelow (length (keys l.stages)) l.waiting.items
  pub taken : AreBelow (length (keys l.stages)) l.taken.items
  pub parked : AreBelow (length (keys l.stages)) l.parked.items

-- each key stands on the list of its stage, and has room on the others
pub record IsSound (l : Lanes) : Type 0 where
  pub lanes : AreLanes (stage_in l) (keys_in l l.waiting.items) (keys_in l l.taken.items) (keys_in l l.parked.items)
  pub places : AreKeys l
  pub room : HaveRoom (deque_len l.waiting) (deque_len l.taken) (deque_len l.parked) (deque_capacity l.waiting) (deque_capacity l.taken) (deque_capacity l.parked)

-- each list has room for one key more than there are
abbrev pub HasRoomForOne : Lanes → Type 0
HasRoomForOne l = HaveRoom (deque_len l.waiting + 1) (deque_len l.taken) (deque_len l.parked) (deque_capacity l.waiting) (deque_capacity l.taken) (deque_capacity l.parked)
