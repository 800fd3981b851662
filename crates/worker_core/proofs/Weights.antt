-- Deciding the oldest key leaves less to decide.
use Rattle.std.proofs.Common.{◌≡◌, ◌≢◌, ◌+◌, ◌<◌, ◌≤◌, List, [], ◌∷◌, ◌++◌, map, Bool, true, false, Some, refl, sym, ◌∙◌, ap, subst, arith, if◌then◌else◌}
use Rattle.std.specs.Prelude.{◌==◌}
use Rattle.std.specs.List.{list_any}
use Rattle.std.proofs.lemmas.Bool.{or_parts}
use Rattle.kube_objects.specs.declared.key.Key.{Key}
use Rattle.kube_objects.specs.Keys.{kind_index}
use Rattle.kube_objects.specs.Keys.{same_key}
use Rattle.sync_queue.specs.Work.{Work, Taken, StandsOnce, added, begun, finished, done_by, is_of, mark, mark_of, marked, queued, unparked}
use Rattle.kube_objects.proofs.SameKeys.{same_key_itself}
use Rattle.sync_queue.proofs.KeyFacts.{key_is}
use Rattle.sync_queue.proofs.LaneFacts.{any-append}
use Rattle.worker_core.specs.Steps.Weights.{weight, weight_of}

weight-append : (xs ys : List Key) → weight (xs ++ ys) ≡ weight xs + weight ys
weight-append [] ys = omega arith
weight-append (x ∷ xs) ys = let h = weight-append xs ys in omega (arith, h)

weight_least : (k : Key) → 1 ≤ weight_of k
weight_least k = by (kind_index k.kind == 2)
  where
    by : (b : Bool) → 1 ≤ (if b then 2 else 1)
    by true = omega arith
    by false = omega arith

-- a key that is taken last, and not before, is not marked
mark_last : (k : Key) (ts : List Taken) → list_any (same_key k) (map (λ (t : Taken). t.key) ts) ≡ false → mark_of k (ts ++ (record { key = k; again = false }) ∷ []) ≡ Some false
mark_last k [] h = rw (same_key_itself k) refl
mark_last k (t ∷ ts) h =
    let parts = or_parts (same_key k t.key) (list_any (same_key k) (map (λ (u : Taken). u.key) ts)) h in
    let first : same_key k t.key ≡ false = parts.0 in
    rw first (mark_last k ts parts.1)

-- marking another key marks this one not
mark_other : (claim k : Key) (ts : List Taken) → claim ≢ k → mark_of k (map (mark claim) ts) ≡ mark_of k ts
mark_other claim k [] other = refl
mark_other claim k (t ∷ ts) other = by (is_of claim t) refl (is_of k t) refl (mark_other claim k ts other)
  where
    by : (b : Bool) → is_of claim t ≡ b → (c : Bool) → is_of k t ≡ c → mark_of k (map (mark claim) ts) ≡ mark_of k ts → mark_of k (map (mark claim) (t ∷ ts)) ≡ mark_of k (t ∷ ts)
    by true e true f h = absurd (other (key_is claim t.key e ∙ sym (key_is k t.key f)))
    by true e false f h = rw (e, f) h
    by false e true f h = rw (e, f) refl
    by false e false f h = rw (e, f) h

-- the taken keys are not the oldest one that waits
not_taken : (k : Key) (ks parked : List Key) (taken : List Taken) → list_any (same_key k) (ks ++ map (λ (t : Taken). t.key) taken ++ parked) ≡ false
    → list_any (same_key k) (map (λ (t : Taken). t.key) taken) ≡ false
not_taken k ks parked taken h =
    let front = or_parts _ _ (sym (any-append (same_key k) (ks ++ map (λ (t : Taken). t.key) taken) parked) ∙ h) in
    (or_parts _ _ (sym (any-append (same_key k) ks (map (λ (t : Taken). t.key) taken)) ∙ front.0)).1

-- what waits once a key is done
done_waiting : (k : Key) (w : Work) → mark_of k w.taken ≡ Some false → (finished k w).waiting ≡ w.waiting
done_waiting k w e = ap (λ m. (done_by m k w).waiting) e

module _ (k : Key) (ks : List Key) (taken : List Taken) (parked : List Key) (once : StandsOnce (record { waiting = k ∷ ks; taken = taken; parked = parked })) where
  fresh : mark_of k (taken ++ (record { key = k; again = false }) ∷ []) ≡ Some false
  fresh = mark_last k taken (not_taken k ks parked taken once.0)

  pub drops_one : weight (finished k (begun (record { waiting = k ∷ ks; taken = taken; parked = parked }))).waiting < weight (k ∷ ks)
  drops_one =
      let least = weight_least k in
      let e = ap weight (done_waiting k (begun (record { waiting = k ∷ ks; taken = taken; parked = parked })) fresh) in
      let lt : weight ks < weight_of k + weight ks = omega (arith, least) in
      subst (λ n. n < weight (k ∷ ks)) (sym e) lt

  -- a volume's key is done, and a claim's is queued
  pub queues_one : (claim : Key) → kind_index k.kind ≡ 2 → kind_index claim.kind ≡ 3
      → weight (finished k (added claim (begun (record { waiting = k ∷ ks; taken = taken; parked = parked })))).waiting < weight (k ∷ ks)
  queues_one claim volume of =
      by (list_any (is_of claim) (taken ++ (record { key = k; again = false }) ∷ [])) (list_any (same_key claim) ks) refl refl
    where
      b : Work
      b = begun (record { waiting = k ∷ ks; taken = taken; parked = parked })

      other : claim ≢ k
      other e = absurd (omega (arith, ap (λ (x : Key). kind_index x.kind) e, volume, of))

      two : weight_of k ≡ 2
      two = rw volume refl

      one : weight_of claim ≡ 1
      one = rw of refl

      ends : (w : Work) → mark_of k w.taken ≡ Some false → weight w.waiting < weight (k ∷ ks) → weight (finished k w).waiting < weight (k ∷ ks)
      ends w e lt = subst (λ n. n < weight (k ∷ ks)) (sym (ap weight (done_waiting k w e))) lt

      by : (t s : Bool) → list_any (is_of claim) b.taken ≡ t → list_any (same_key claim) ks ≡ s → weight (finished k (added claim b)).waiting < weight (k ∷ ks)
      by true s et es = rw et (ends (marked claim b) (mark_other claim k _ other ∙ fresh) (omega (arith, two)))
      by false true et es = rw (et, es) (ends b fresh (omega (arith, two)))
      by false false et es = rw (et, es) (ends (queued claim (unparked claim b)) fresh
          (let e = weight-append ks (claim ∷ []) in
          let f : weight (claim ∷ []) ≡ weight_of claim + 0 = refl in
          omega (arith, two, one, e, f)))
