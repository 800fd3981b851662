-- A key that is added waits, or is in work and comes again; and it stays so while others are added. Once its work is over it waits.
use Rattle.std.proofs.Common.{◌≡◌, ◌∙◌, List, [], ◌∷◌, ◌++◌, Bool, true, false, true≢false, Some, inl, inr, refl, sym, ap, subst, if◌then◌else◌}
use Rattle.std.specs.Prelude.{cond, map, ◌||◌}
use Rattle.std.specs.List.{list_any}
use Rattle.kube_objects.specs.declared.key.Key.{Key}
use Rattle.kube_parts.specs.declared.parts.Kind.{Kind}
use Rattle.kube_objects.specs.Keys.{key_of, same_key}
use Rattle.kube_objects.proofs.SameKeys.{same_key_itself}
use Rattle.informer_cache.specs.All.{AllKnown, cache_of}
use Rattle.informer_cache.specs.Cache.{objects_of}
use Rattle.model_laws.proofs.Lists.{IsIn, none_some, one}
use Rattle.sync_queue.specs.Work.{Taken, Work, added, finished, is_of, mark, mark_of, put_off}
use Rattle.sync_queue.proofs.LaneFacts.{any-append}
use Rattle.worker_core.specs.Absorbs.{all_added, kind_added, kinds_added}
use Rattle.worker_core.specs.States.{waits}
use Rattle.worker_core.proofs.KeyMoves.{added_waits, is_key}
use Rattle.settle_progress.specs.Wakes.Wakes.{ComesAgain}

-- marks

mark_same : (j : Key) (t : Taken) (k : Key) → is_of k (mark j t) ≡ is_of k t
mark_same j t k = by (is_of j t)
  where
    by : (b : Bool) → is_of k (if b then record { key = t.key; again = true } else t) ≡ is_of k t
    by true = refl
    by false = refl

mark_again : (j : Key) (t : Taken) → t.again ≡ true → (mark j t).again ≡ true
mark_again j t e = by (is_of j t)
  where
    by : (b : Bool) → (if b then record { key = t.key; again = true } else t).again ≡ true
    by true = refl
    by false = e

-- a mark stays
marks_stay : (j k : Key) (ts : List Taken) → mark_of k ts ≡ Some true → mark_of k (map (mark j) ts) ≡ Some true
marks_stay j k [] e = none_some e
marks_stay j k (t ∷ ts) e = by (is_of k t) refl e (marks_stay j k ts)
  where
    by : (b : Bool) → is_of k t ≡ b → cond b (Some t.again) (mark_of k ts) ≡ Some true
        → (mark_of k ts ≡ Some true → mark_of k (map (mark j) ts) ≡ Some true) → cond (is_of k (mark j t)) (Some (mark j t).again) (mark_of k (map (mark j) ts)) ≡ Some true
    by true is m rest = ap (λ b. cond b (Some (mark j t).again) (mark_of k (map (mark j) ts))) (mark_same j t k ∙ is) ∙ ap Some (mark_again j t (one t.again true m))
    by false is m rest = ap (λ b. cond b (Some (mark j t).again) (mark_of k (map (mark j) ts))) (mark_same j t k ∙ is) ∙ rest m

-- a key in work is marked
marked_self : (k : Key) (ts : List Taken) → list_any (is_of k) ts ≡ true → mark_of k (map (mark k) ts) ≡ Some true
marked_self k [] e = absurd (true≢false (sym e))
marked_self k (t ∷ ts) e = by (is_of k t) refl e (marked_self k ts)
  where
    by : (b : Bool) → is_of k t ≡ b → (b || list_any (is_of k) ts) ≡ true → (list_any (is_of k) ts ≡ true → mark_of k (map (mark k) ts) ≡ Some true)
        → cond (is_of k (mark k t)) (Some (mark k t).again) (mark_of k (map (mark k) ts)) ≡ Some true
    by true is any rest = ap (λ b. cond b (Some (mark k t).again) (mark_of k (map (mark k) ts))) (mark_same k t k ∙ is)
        ∙ ap Some (ap (λ b. (if b then record { key = t.key; again = true } else t).again) is)
    by false is any rest = ap (λ b. cond b (Some (mark k t).again) (mark_of k (map (mark k) ts))) (mark_same k t k ∙ is) ∙ rest any

or_true : (a : Bool) → (a || true) ≡ true
or_true true = refl
or_true false = refl

last_waits : (k : Key) (ks : List Key) → list_any (same_key k) (ks ++ k ∷ []) ≡ true
last_waits k ks = any-append (same_key k) ks (k ∷ []) ∙ (ap (λ b. list_any (same_key k) ks || (b || false)) (same_key_itself k) ∙ or_true (list_any (same_key k) ks))

added_comes : (k : Key) (w : Work) → ComesAgain k (added k w)
added_comes k w = by (list_any (is_of k) w.taken) (list_any (same_key k) w.waiting) refl refl
  where
    by : (a b : Bool) → list_any (is_of k) w.taken ≡ a → list_any (same_key k) w.waiting ≡ b → ComesAgain k (added k w)
    by true b ea eb = rw ea (inr (marked_self k w.taken ea))
    by false true ea eb = rw (ea, eb) (inl eb)
    by false false ea eb = rw (ea, eb) (inl (last_waits k w.waiting))

added_stays : (j k : Key) (w : Work) → ComesAgain k w → ComesAgain k (added j w)
added_stays j k w (inl there) = inl (added_waits j k w there)
added_stays j k w (inr again) = by (list_any (is_of j) w.taken) (list_any (same_key j) w.waiting) refl refl
  where
    by : (a b : Bool) → list_any (is_of j) w.taken ≡ a → list_any (same_key j) w.waiting ≡ b → ComesAgain k (added j w)
    by true b ea eb = rw ea (inr (marks_stay j k w.taken again))
    by false true ea eb = rw (ea, eb) (inr again)
    by false false ea eb = rw (ea, eb) (inr again)

all_stay : (ks : List Key) (k : Key) (w : Work) → ComesAgain k w → ComesAgain k (all_added ks w)
all_stay [] k w c = c
all_stay (x ∷ xs) k w c = all_stay xs k (added x w) (added_stays x k w c)

all_come : (ks : List Key) (k : Key) (w : Work) → list_any (same_key k) ks ≡ true → ComesAgain k (all_added ks w)
all_come [] k w there = absurd (true≢false (sym there))
all_come (x ∷ xs) k w there = by (same_key k x) refl there (all_come xs k (added x w))
  where
    by : (b : Bool) → same_key k x ≡ b → (b || list_any (same_key k) xs) ≡ true → (list_any (same_key k) xs ≡ true → ComesAgain k (all_added xs (added x w))) → ComesAgain k (all_added xs (added x w))
    by true e any more = all_stay xs k (added x w) (subst (λ y. ComesAgain k (added y w)) (is_key k x e) (added_comes k w))
    by false e any more = more any

kinds_stay : (c : AllKnown) (kinds : List Kind) (k : Key) (w : Work) → ComesAgain k w → ComesAgain k (kinds_added c kinds w)
kinds_stay c [] k w a = a
kinds_stay c (x ∷ xs) k w a = kinds_stay c xs k (kind_added c x w) (all_stay (map key_of (objects_of (cache_of x c))) k w a)

pub kinds_come : (c : AllKnown) (kinds : List Kind) (kind : Kind) (k : Key) (w : Work) → IsIn kind kinds
    → list_any (same_key k) (map key_of (objects_of (cache_of kind c))) ≡ true → ComesAgain k (kinds_added c kinds w)
kinds_come c [] kind k w i there = absurd i
kinds_come c (x ∷ xs) kind k w (inl is) there =
    kinds_stay c xs k (kind_added c x w) (all_come (map key_of (objects_of (cache_of x c))) k w (subst (λ y. list_any (same_key k) (map key_of (objects_of (cache_of y c))) ≡ true) (sym is) there))
kinds_come c (x ∷ xs) kind k w (inr more) there = kinds_come c xs kind k (kind_added c x w) more there

-- once its work is over, a marked key waits
pub finished_comes : (k : Key) (w : Work) → mark_of k w.taken ≡ Some true → waits k (finished k w) ≡ true
finished_comes k w e = rw e (last_waits k w.waiting)

pub put_off_comes : (k : Key) (w : Work) → mark_of k w.taken ≡ Some true → waits k (put_off k w) ≡ true
put_off_comes k w e = rw e (last_waits k w.waiting)
