-- Which keys wait and which are parked, after each move of a queue.
use Rattle.std.proofs.Common.{◌≡◌, ◌⊎◌, List, [], ◌∷◌, ◌++◌, Bool, true, false, Option, Some, None, inl, inr, refl, sym, ◌∙◌, ap, if◌then◌else◌}
use Rattle.std.specs.Prelude.{◌||◌, map}
use Rattle.std.specs.List.{list_any}
use Rattle.std.proofs.lemmas.Bool.{or_cases}
use Rattle.kube_objects.specs.declared.key.Key.{Key}
use Rattle.kube_objects.specs.Keys.{key_of, same_key}
use Rattle.kube_objects.proofs.SameKeys.{same_key-Decides}
use Rattle.kube_parts.specs.declared.parts.Kind.{Kind}
use Rattle.informer_cache.specs.Cache.{objects_of}
use Rattle.informer_cache.specs.All.{AllKnown, cache_of}
use Rattle.model_laws.proofs.Lists.{one, none_some}
use Rattle.sync_queue.specs.Work.{Work, added, begun, done_by, finished, is_of, mark_of, oldest_of, put_off, retry_by, without_waiting}
use Rattle.sync_queue.proofs.LaneFacts.{any-append}
use Rattle.worker_core.specs.declared.task.First.{First}
use Rattle.worker_core.specs.declared.task.First.TheVariants as firsts
use Rattle.worker_core.specs.Absorbs.{all_added, kind_added, kinds_added}
use Rattle.worker_core.specs.States.{is_parked, waits}
use Rattle.worker_core.specs.Turns.{dropped}

pub is_key : (a b : Key) → same_key a b ≡ true → a ≡ b
is_key a b e = (same_key-Decides a b).0 e

in_front : (key : Key) (xs ys : List Key) → list_any (same_key key) xs ≡ true → list_any (same_key key) (xs ++ ys) ≡ true
in_front key xs ys e = any-append (same_key key) xs ys ∙ ap (λ b. b || list_any (same_key key) ys) e

only : (b : Bool) → (b || false) ≡ true → b ≡ true
only true e = refl
only false e = e

-- what is left out was there
left_was : (key : Key) (p : Key → Bool) (xs : List Key) → list_any (same_key key) (without_waiting p xs) ≡ true → list_any (same_key key) xs ≡ true
left_was key p [] e = e
left_was key p (x ∷ xs) e = by (p x) e (left_was key p xs) (same_key key x) refl
  where
    by : (b : Bool) → list_any (same_key key) (if b then xs else x ∷ without_waiting p xs) ≡ true
        → (list_any (same_key key) (without_waiting p xs) ≡ true → list_any (same_key key) xs ≡ true) → (c : Bool) → same_key key x ≡ c → (same_key key x || list_any (same_key key) xs) ≡ true
    by b h more true is = ap (λ c. c || list_any (same_key key) xs) is
    by true h more false is = ap (λ c. c || list_any (same_key key) xs) is ∙ h
    by false h more false is = ap (λ c. c || list_any (same_key key) xs) is ∙ more (sym (ap (λ c. c || list_any (same_key key) (without_waiting p xs)) is) ∙ h)

-- a key is added

pub added_waits : (k key : Key) (w : Work) → waits key w ≡ true → waits key (added k w) ≡ true
added_waits k key w e = by (list_any (is_of k) w.taken) (list_any (same_key k) w.waiting) refl refl
  where
    by : (t s : Bool) → list_any (is_of k) w.taken ≡ t → list_any (same_key k) w.waiting ≡ s → waits key (added k w) ≡ true
    by true s et es = rw et e
    by false true et es = rw (et, es) e
    by false false et es = rw (et, es) (in_front key w.waiting (k ∷ []) e)

pub added_parks : (k key : Key) (w : Work) → is_parked key (added k w) ≡ true → is_parked key w ≡ true
added_parks k key w = by (list_any (is_of k) w.taken) (list_any (same_key k) w.waiting) refl refl
  where
    by : (t s : Bool) → list_any (is_of k) w.taken ≡ t → list_any (same_key k) w.waiting ≡ s → is_parked key (added k w) ≡ true → is_parked key w ≡ true
    by true s et es e = rw et at e
    by false true et es e = rw (et, es) at e
    by false false et es e =
        let f : list_any (same_key key) (without_waiting (same_key k) w.parked) ≡ true = rw (et, es) at e in
        left_was key (same_key k) w.parked f

pub all_waits : (ks : List Key) (key : Key) (w : Work) → waits key w ≡ true → waits key (all_added ks w) ≡ true
all_waits [] key w e = e
all_waits (k ∷ ks) key w e = all_waits ks key (added k w) (added_waits k key w e)

pub all_parks : (ks : List Key) (key : Key) (w : Work) → is_parked key (all_added ks w) ≡ true → is_parked key w ≡ true
all_parks [] key w e = e
all_parks (k ∷ ks) key w e = added_parks k key w (all_parks ks key (added k w) e)

-- a key is done, or put off

pub finished_waits : (k key : Key) (w : Work) → waits key w ≡ true → waits key (finished k w) ≡ true
finished_waits k key w e = by (mark_of k w.taken)
  where
    by : (m : Option Bool) → waits key (done_by m k w) ≡ true
    by None = e
    by (Some false) = e
    by (Some true) = in_front key w.waiting (k ∷ []) e

pub finished_parks : (k key : Key) (w : Work) → is_parked key (finished k w) ≡ true → is_parked key w ≡ true
finished_parks k key w = by (mark_of k w.taken)
  where
    by : (m : Option Bool) → is_parked key (done_by m k w) ≡ true → is_parked key w ≡ true
    by None e = e
    by (Some false) e = e
    by (Some true) e = e

pub put_off_waits : (k key : Key) (w : Work) → waits key w ≡ true → waits key (put_off k w) ≡ true
put_off_waits k key w e = by (mark_of k w.taken)
  where
    by : (m : Option Bool) → waits key (retry_by m k w) ≡ true
    by None = e
    by (Some false) = e
    by (Some true) = in_front key w.waiting (k ∷ []) e

pub put_off_parks : (k key : Key) (w : Work) → is_parked key (put_off k w) ≡ true → (is_parked key w ≡ true) ⊎ (k ≡ key)
put_off_parks k key w = by (mark_of k w.taken)
  where
    by : (m : Option Bool) → is_parked key (retry_by m k w) ≡ true → (is_parked key w ≡ true) ⊎ (k ≡ key)
    by None e = inl e
    by (Some true) e = inl e
    by (Some false) e = elim (or_cases (list_any (same_key key) w.parked) (list_any (same_key key) (k ∷ [])) (sym (any-append (same_key key) w.parked (k ∷ [])) ∙ e)) [
      | inl before ↦ inl before
      | inr now ↦ inr (sym (is_key key k (only (same_key key k) now)))
    ]

-- the oldest key is taken

abbrev work_with : List Key → Work → Work
work_with ks w = record { waiting = ks; taken = w.taken; parked = w.parked }

begun_at : (ks : List Key) (k key : Key) (w : Work) → oldest_of ks ≡ Some k → waits key (work_with ks w) ≡ true → (k ≡ key) ⊎ (waits key (begun (work_with ks w)) ≡ true)
begun_at [] k key w old e = none_some old
begun_at (j ∷ ks) k key w old e = elim (or_cases (same_key key j) (list_any (same_key key) ks) e) [
  | inl own ↦ inl (sym (one j k old) ∙ sym (is_key key j own))
  | inr more ↦ inr more
]

pub begun_waits : (k key : Key) (w : Work) → oldest_of w.waiting ≡ Some k → waits key w ≡ true → (k ≡ key) ⊎ (waits key (begun w) ≡ true)
begun_waits k key w old e = begun_at w.waiting k key w old e

pub begun_parks : (key : Key) (w : Work) → is_parked key (begun w) ≡ true → is_parked key w ≡ true
begun_parks key w = by w.waiting
  where
    by : (ks : List Key) → is_parked key (begun (work_with ks w)) ≡ true → is_parked key w ≡ true
    by [] e = e
    by (k ∷ ks) e = e

-- a key is decided without a call

pub dropped_waits : (first : First) (k key : Key) (w : Work) → oldest_of w.waiting ≡ Some k → waits key w ≡ true → (k ≡ key) ⊎ (waits key (dropped first k w) ≡ true)
dropped_waits first k key w old e = elim (begun_waits k key w old e) [ inl own ↦ inl own | inr more ↦ inr (by first more) ]
  where
    by : (f : First) → waits key (begun w) ≡ true → waits key (dropped f k w) ≡ true
    by firsts.Drops h = finished_waits k key (begun w) h
    by (firsts.Queues other) h = finished_waits k key (added other (begun w)) (added_waits other key (begun w) h)
    by (firsts.Begins task) h = finished_waits k key (begun w) h

pub dropped_parks : (first : First) (k key : Key) (w : Work) → is_parked key (dropped first k w) ≡ true → is_parked key w ≡ true
dropped_parks firsts.Drops k key w e = begun_parks key w (finished_parks k key (begun w) e)
dropped_parks (firsts.Queues other) k key w e = begun_parks key w (added_parks other key (begun w) (finished_parks k key (added other (begun w)) e))
dropped_parks (firsts.Begins task) k key w e = begun_parks key w (finished_parks k key (begun w) e)

-- the cached keys are queued

pub cached_waits : (c : AllKnown) (kinds : List Kind) (key : Key) (w : Work) → waits key w ≡ true → waits key (kinds_added c kinds w) ≡ true
cached_waits c [] key w e = e
cached_waits c (kind ∷ kinds) key w e = cached_waits c kinds key (kind_added c kind w) (all_waits (map key_of (objects_of (cache_of kind c))) key w e)

pub cached_parks : (c : AllKnown) (kinds : List Kind) (key : Key) (w : Work) → is_parked key (kinds_added c kinds w) ≡ true → is_parked key w ≡ true
cached_parks c [] key w e = e
cached_parks c (kind ∷ kinds) key w e = all_parks (map key_of (objects_of (cache_of kind c))) key w (cached_parks c kinds key (kind_added c kind w) e)
