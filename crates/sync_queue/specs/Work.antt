-- The work queue of a controller, as three lists of keys.
-- Source: client-go, util/workqueue; that a key can be parked is a choice of this project.
use Rattle.std.specs.Prelude.{◌≡◌, Bool, true, false, List, [], ◌∷◌, ◌++◌, Option, None, Some, if◌then◌else◌, map}
use Rattle.std.specs.List.{list_any}
use Rattle.kube_objects.specs.declared.key.Key.{Key}
use Rattle.kube_objects.specs.Keys.{same_key}

-- client-go util/workqueue: a key in processing, and whether it is dirty, that is, was added again since it was taken
pub record Taken : Type 0 where
  pub key : Key
  pub again : Bool

-- client-go util/workqueue: the queue, oldest first, and the keys in processing. That a key can be parked until it is added or all are woken is a choice of this project
pub record Work : Type 0 where
  pub waiting : List Key
  pub taken : List Taken
  pub parked : List Key

-- client-go util/workqueue, New
abbrev pub no_work : Work
no_work = record { waiting = []; taken = []; parked = [] }

-- the list without the first item that passes the test (of a key that stands once: without the key)
abbrev pub without_waiting : {X : Type 0} → (X → Bool) → List X → List X
without_waiting test [] = []
without_waiting test (x ∷ xs) = if test x then xs else x ∷ without_waiting test xs

-- the taken key is this one
abbrev pub is_of : Key → Taken → Bool
is_of k t = same_key k t.key

-- client-go util/workqueue, whether a key in processing is dirty; None where it is not in processing
abbrev pub mark_of : Key → List Taken → Option Bool
mark_of k [] = None
mark_of k (t ∷ ts) = if is_of k t then Some t.again else mark_of k ts

-- client-go util/workqueue, Add: a key in processing becomes dirty
abbrev pub mark : Key → Taken → Taken
mark k t = if is_of k t then record { key = t.key; again = true } else t

-- the key waits, behind all others
abbrev pub queued : Key → Work → Work
queued k w = record { waiting = w.waiting ++ k ∷ []; taken = w.taken; parked = w.parked }

-- the key is parked, behind all others
abbrev pub put_aside : Key → Work → Work
put_aside k w = record { waiting = w.waiting; taken = w.taken; parked = w.parked ++ k ∷ [] }

-- the key is taken, and will come again
abbrev pub marked : Key → Work → Work
marked k w = record { waiting = w.waiting; taken = map (mark k) w.taken; parked = w.parked }

-- the key is not parked any more
abbrev pub unparked : Key → Work → Work
unparked k w = record { waiting = w.waiting; taken = w.taken; parked = without_waiting (same_key k) w.parked }

-- client-go util/workqueue, Add: what is dirty already stays, what is in processing comes again, the rest goes last
abbrev pub added : Key → Work → Work
added k w =
    if list_any (is_of k) w.taken then marked k w
    else if list_any (same_key k) w.waiting then w
    else queued k (unparked k w)

-- client-go util/workqueue, Get: the head of the queue
abbrev pub oldest_of : List Key → Option Key
oldest_of [] = None
oldest_of (k ∷ ks) = Some k

-- its head moves into processing, and is not dirty any more
abbrev pub begin_oldest : List Key → Work → Work
begin_oldest [] w = w
begin_oldest (k ∷ ks) w = record { waiting = ks; taken = w.taken ++ (record { key = k; again = false }) ∷ []; parked = w.parked }

-- client-go util/workqueue, Get: the oldest is in processing
abbrev pub begun : Work → Work
begun w = begin_oldest w.waiting w

-- client-go util/workqueue, Done: the key is not in processing any more
abbrev pub released : Key → Work → Work
released k w = record { waiting = w.waiting; taken = without_waiting (is_of k) w.taken; parked = w.parked }

-- by whether the key is dirty
abbrev pub done_by : Option Bool → Key → Work → Work
done_by None k w = w
done_by (Some false) k w = released k w
done_by (Some true) k w = queued k (released k w)

-- client-go util/workqueue, Done: what is dirty goes last
abbrev pub finished : Key → Work → Work
finished k w = done_by (mark_of k w.taken) k w

-- by whether the key is dirty
abbrev pub retry_by : Option Bool → Key → Work → Work
retry_by None k w = w
retry_by (Some false) k w = put_aside k (released k w)
retry_by (Some true) k w = queued k (released k w)

-- a choice of this project, where client-go has AddRateLimited: a key that was not added again is parked
abbrev pub put_off : Key → Work → Work
put_off k w = retry_by (mark_of k w.taken) k w

-- a choice of this project: parked keys wait again, in the order in which they were parked
abbrev pub woken : Work → Work
woken w = record { waiting = w.waiting ++ w.parked; taken = w.taken; parked = [] }

-- no key twice
abbrev pub AreOnce : List Key → Type 0
AreOnce [] = Unit {0}
AreOnce (k ∷ ks) = (list_any (same_key k) ks ≡ false) × AreOnce ks

-- a key stands once: it waits, is taken or is parked
abbrev pub StandsOnce : Work → Type 0
StandsOnce w = AreOnce (w.waiting ++ map (λ t. t.key) w.taken ++ w.parked)
