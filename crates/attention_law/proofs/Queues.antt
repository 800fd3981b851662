-- Which keys are taken after each move of a queue, and that a cached key waits after a wake.
use Rattle.std.proofs.Common.{◌≡◌, List, [], ◌∷◌, ◌++◌, Bool, true, false, true≢false, Option, Some, None, inl, inr, refl, sym, ◌∙◌, ap, subst, if◌then◌else◌}
use Rattle.std.specs.Prelude.{◌||◌, map}
use Rattle.std.specs.List.{list_any}
use Rattle.std.specs.Ordering.{is_eq}
use Rattle.kube_objects.specs.declared.key.Key.{Key}
use Rattle.kube_parts.specs.declared.parts.Kind.{Kind}
use Rattle.kube_objects.specs.declared.objects.Object.{Object}
use Rattle.kube_objects.specs.Keys.{key_cmp, key_of, row_at, same_key}
use Rattle.kube_objects.proofs.KeyOrder.{row_at_key}
use Rattle.kube_objects.proofs.SameKeys.{same_key_itself}
use Rattle.informer_cache.specs.Cache.{objects_of}
use Rattle.informer_cache.specs.All.{AllKnown, cache_of}
use Rattle.model_laws.proofs.Lists.{IsIn, none_some, one}
use Rattle.sync_queue.specs.Work.{Taken, Work, added, begin_oldest, begun, done_by, finished, is_of, mark, oldest_of, put_off, retry_by}
use Rattle.sync_queue.proofs.LaneFacts.{any-append}
use Rattle.worker_core.specs.Absorbs.{all_added, kind_added, kinds_added}
use Rattle.worker_core.specs.States.{waits}
use Rattle.attention_law.specs.Queues.{key_in, taken_keys}
use Rattle.worker_core.proofs.KeyMoves.{all_waits, cached_waits, is_key}

-- keys that are added

pub marked_keys : (k : Key) (ts : List Taken) → map key_in (map (mark k) ts) ≡ map key_in ts
marked_keys k [] = refl
marked_keys k (t ∷ ts) = ap (λ x. x ∷ map key_in (map (mark k) ts)) (own (is_of k t)) ∙ ap (λ xs. t.key ∷ xs) (marked_keys k ts)
  where
    own : (b : Bool) → key_in (if b then record { key = t.key; again = true } else t) ≡ t.key
    own true = refl
    own false = refl

pub added_taken : (k : Key) (w : Work) → taken_keys (added k w) ≡ taken_keys w
added_taken k w = by (list_any (is_of k) w.taken) (list_any (same_key k) w.waiting) refl refl
  where
    by : (t s : Bool) → list_any (is_of k) w.taken ≡ t → list_any (same_key k) w.waiting ≡ s → taken_keys (added k w) ≡ taken_keys w
    by true s et es = rw et (marked_keys k w.taken)
    by false true et es = rw (et, es) refl
    by false false et es = rw (et, es) refl

pub all_taken : (ks : List Key) (w : Work) → taken_keys (all_added ks w) ≡ taken_keys w
all_taken [] w = refl
all_taken (k ∷ ks) w = all_taken ks (added k w) ∙ added_taken k w

pub cached_taken : (c : AllKnown) (kinds : List Kind) (w : Work) → taken_keys (kinds_added c kinds w) ≡ taken_keys w
cached_taken c [] w = refl
cached_taken c (kind ∷ kinds) w = cached_taken c kinds (kind_added c kind w) ∙ all_taken (map key_of (objects_of (cache_of kind c))) w

-- a key that is taken, and one that is given back

no_taken : (ts : List Taken) → map key_in ts ≡ [] → ts ≡ []
no_taken [] e = refl
no_taken (t ∷ ts) e = none_some (sym (ap head e))
  where
    head : List Key → Option Key
    head [] = None
    head (x ∷ xs) = Some x

pub begun_taken : (k : Key) (w : Work) → oldest_of w.waiting ≡ Some k → taken_keys w ≡ [] → taken_keys (begun w) ≡ k ∷ []
begun_taken k w old none = by w.waiting old
  where
    by : (ks : List Key) → oldest_of ks ≡ Some k → taken_keys (begin_oldest ks w) ≡ k ∷ []
    by [] e = none_some e
    by (j ∷ js) e = ap (λ ts. map key_in (ts ++ (record { key = j; again = false }) ∷ [])) (no_taken w.taken none) ∙ ap (λ x. x ∷ []) (one j k e)

abbrev with_taken : List Taken → Work → Work
with_taken ts w = record { waiting = w.waiting; taken = ts; parked = w.parked }

-- the one key that is taken
data IsTaken (k : Key) (ts : List Taken) : Type 0 where
  Alone : (again : Bool) → ts ≡ (record { key = k; again = again }) ∷ [] → IsTaken k ts

is_taken : (k : Key) (ts : List Taken) → map key_in ts ≡ k ∷ [] → IsTaken k ts
is_taken k [] e = none_some (ap head e)
  where
    head : List Key → Option Key
    head [] = None
    head (x ∷ xs) = Some x
is_taken k (t ∷ ts) e =
    let own : t.key ≡ k = one t.key k (ap head e) in
    Alone t.again (ap (λ x. (record { key = x; again = t.again }) ∷ ts) own ∙ ap (λ xs. (record { key = k; again = t.again }) ∷ xs) (no_taken ts (ap tail e)))
  where
    head : List Key → Option Key
    head [] = None
    head (x ∷ xs) = Some x

    tail : List Key → List Key
    tail [] = []
    tail (x ∷ xs) = xs

pub finished_taken : (k : Key) (w : Work) → taken_keys w ≡ k ∷ [] → taken_keys (finished k w) ≡ []
finished_taken k w e = by (is_taken k w.taken e)
  where
    held : Bool → Work
    held again = with_taken ((record { key = k; again = again }) ∷ []) w

    freed : (again : Bool) → map key_in (if same_key k k then [] else (record { key = k; again = again }) ∷ []) ≡ []
    freed again = ap (λ b. map key_in (if b then [] else (record { key = k; again = again }) ∷ [])) (same_key_itself k)

    ends : (again : Bool) → taken_keys (done_by (Some again) k (held again)) ≡ []
    ends true = freed true
    ends false = freed false

    alone : (again : Bool) → taken_keys (finished k (held again)) ≡ []
    alone again = ap (λ b. taken_keys (done_by (if b then Some again else None) k (held again))) (same_key_itself k) ∙ ends again

    by : IsTaken k w.taken → taken_keys (finished k w) ≡ []
    by (Alone again is) = ap (λ ts. taken_keys (finished k (with_taken ts w))) is ∙ alone again

pub put_off_taken : (k : Key) (w : Work) → taken_keys w ≡ k ∷ [] → taken_keys (put_off k w) ≡ []
put_off_taken k w e = by (is_taken k w.taken e)
  where
    held : Bool → Work
    held again = with_taken ((record { key = k; again = again }) ∷ []) w

    freed : (again : Bool) → map key_in (if same_key k k then [] else (record { key = k; again = again }) ∷ []) ≡ []
    freed again = ap (λ b. map key_in (if b then [] else (record { key = k; again = again }) ∷ [])) (same_key_itself k)

    ends : (again : Bool) → taken_keys (retry_by (Some again) k (held again)) ≡ []
    ends true = freed true
    ends false = freed false

    alone : (again : Bool) → taken_keys (put_off k (held again)) ≡ []
    alone again = ap (λ b. taken_keys (retry_by (if b then Some again else None) k (held again))) (same_key_itself k) ∙ ends again

    by : IsTaken k w.taken → taken_keys (put_off k w) ≡ []
    by (Alone again is) = ap (λ ts. taken_keys (put_off k (with_taken ts w))) is ∙ alone again

-- a key waits once it was added, where none is taken

or_true : (a : Bool) → (a || true) ≡ true
or_true true = refl
or_true false = refl

added_self : (k : Key) (w : Work) → taken_keys w ≡ [] → waits k (added k w) ≡ true
added_self k w none = ap (λ ts. waits k (added k (with_taken ts w))) (no_taken w.taken none) ∙ by (list_any (same_key k) w.waiting) refl
  where
    by : (s : Bool) → list_any (same_key k) w.waiting ≡ s → waits k (added k (with_taken [] w)) ≡ true
    by true e = rw e e
    by false e = rw e (any-append (same_key k) w.waiting (k ∷ []) ∙ ap (λ b. list_any (same_key k) w.waiting || (b || false)) (same_key_itself k) ∙ or_true (list_any (same_key k) w.waiting))

pub all_self : (ks : List Key) (k : Key) (w : Work) → list_any (same_key k) ks ≡ true → taken_keys w ≡ [] → waits k (all_added ks w) ≡ true
all_self [] k w there none = absurd (true≢false (sym there))
all_self (x ∷ xs) k w there none = by (same_key k x) refl (all_self xs k (added x w))
  where
    by : (b : Bool) → same_key k x ≡ b → (list_any (same_key k) xs ≡ true → taken_keys (added x w) ≡ [] → waits k (all_added xs (added x w)) ≡ true) → waits k (all_added xs (added x w)) ≡ true
    by true e more = all_waits xs k (added x w) (subst (λ y. waits k (added y w) ≡ true) (is_key k x e) (added_self k w none))
    by false e more = more (sym (ap (λ b. b || list_any (same_key k) xs) e) ∙ there) (added_taken x w ∙ none)

pub cached_self : (c : AllKnown) (kinds : List Kind) (kind : Kind) (k : Key) (w : Work) → IsIn kind kinds
    → list_any (same_key k) (map key_of (objects_of (cache_of kind c))) ≡ true → taken_keys w ≡ [] → waits k (kinds_added c kinds w) ≡ true
cached_self c [] kind k w is there none = absurd is
cached_self c (x ∷ xs) kind k w (inl own) there none =
    cached_waits c xs k (kind_added c x w) (subst (λ y. waits k (kind_added c y w) ≡ true) (sym own) (all_self (map key_of (objects_of (cache_of kind c))) k w there none))
cached_self c (x ∷ xs) kind k w (inr more) there none =
    cached_self c xs kind k (kind_added c x w) more there (all_taken (map key_of (objects_of (cache_of x c))) w ∙ none)

-- a key that has a row is among the keys of the rows
pub row_any : (k : Key) (o : Object) (os : List Object) → row_at k os ≡ Some o → list_any (same_key k) (map key_of os) ≡ true
row_any k o [] e = none_some e
row_any k o (y ∷ ys) e = by (is_eq (key_cmp (key_of y) k)) refl e (row_any k o ys)
  where
    by : (b : Bool) → is_eq (key_cmp (key_of y) k) ≡ b → (if b then Some y else row_at k ys) ≡ Some o
        → (row_at k ys ≡ Some o → list_any (same_key k) (map key_of ys) ≡ true) → (same_key k (key_of y) || list_any (same_key k) (map key_of ys)) ≡ true
    by true is h more =
        let own : key_of y ≡ k = row_at_key k y (y ∷ ys) (ap (λ b. if b then Some y else row_at k ys) is) in
        ap (λ b. b || list_any (same_key k) (map key_of ys)) (subst (λ j. same_key k j ≡ true) (sym own) (same_key_itself k))
    by false is h more = ap (λ b. same_key k (key_of y) || b) (more h) ∙ or_true (same_key k (key_of y))
