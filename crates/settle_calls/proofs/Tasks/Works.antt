-- What the moves of a queue do to what its keys may come to.
use Rattle.std.proofs.Common.{◌≡◌, ◌≢◌, ◌∙◌, ℕ, ◌+◌, ◌≤◌, List, [], ◌∷◌, ◌++◌, Bool, true, false, true≢false, Option, Some, None, refl, sym, ap, subst, arith, if◌then◌else◌}
use Rattle.std.specs.Prelude.{cond, map, ◌||◌}
use Rattle.std.specs.List.{list_any}
use Rattle.kube_objects.specs.declared.key.Key.{Key}
use Rattle.kube_objects.specs.Keys.{same_key}
use Rattle.kube_objects.proofs.SameKeys.{KeyCases, One, Two, key_cases, same_key-Decides}
use Rattle.model_laws.proofs.Lists.{none_some, one}
use Rattle.sync_queue.specs.Work.{AreOnce, Taken, Work, added, begin_oldest, begun, done_by, finished, is_of, mark, mark_of, oldest_of, put_off, retry_by, without_waiting}
use Rattle.settle_calls.specs.Tasks.Costs.{again_cost, keys_cost, work_cost}

module _ (f : Key → ℕ) where
  pub cost_append : (xs ys : List Key) → keys_cost f (xs ++ ys) ≡ keys_cost f xs + keys_cost f ys
  cost_append [] ys = omega arith
  cost_append (x ∷ xs) ys = let h = cost_append xs ys in omega (arith, h)

  again_append : (xs ys : List Taken) → again_cost f (xs ++ ys) ≡ again_cost f xs + again_cost f ys
  again_append [] ys = omega arith
  again_append (x ∷ xs) ys = let h = again_append xs ys in omega (arith, h)

  -- the oldest is begun
  pub begun_cost : (k : Key) (w : Work) → oldest_of w.waiting ≡ Some k → work_cost f (begun w) + f k ≡ work_cost f w
  begun_cost k w old = by w.waiting refl old
    where
      by : (ks : List Key) → w.waiting ≡ ks → oldest_of ks ≡ Some k → work_cost f (begin_oldest ks w) + f k ≡ keys_cost f w.waiting + again_cost f w.taken
      by [] e o = none_some o
      by (j ∷ js) e o =
          let same : f j ≡ f k = ap f (one j k o) in
          let split = again_append w.taken ((record { key = j; again = false }) ∷ []) in
          let all : keys_cost f w.waiting ≡ f j + keys_cost f js = ap (keys_cost f) e in
          omega (arith, same, split, all)

  -- a key that is in work is given back

  less : (k : Key) (ts : List Taken) → again_cost f (without_waiting (is_of k) ts) ≤ again_cost f ts
  less k [] = omega arith
  less k (t ∷ ts) = by (is_of k t) (less k ts)
    where
      by : (b : Bool) → again_cost f (without_waiting (is_of k) ts) ≤ again_cost f ts → again_cost f (cond b ts (t ∷ without_waiting (is_of k) ts)) ≤ (if t.again then f t.key else 0) + again_cost f ts
      by true h = omega arith
      by false h = omega (arith, h)

  less_own : (k : Key) (ts : List Taken) → mark_of k ts ≡ Some true → again_cost f (without_waiting (is_of k) ts) + f k ≤ again_cost f ts
  less_own k [] e = none_some e
  less_own k (t ∷ ts) e = by (is_of k t) refl e (less_own k ts)
    where
      by : (b : Bool) → is_of k t ≡ b → cond b (Some t.again) (mark_of k ts) ≡ Some true → (mark_of k ts ≡ Some true → again_cost f (without_waiting (is_of k) ts) + f k ≤ again_cost f ts)
          → again_cost f (cond b ts (t ∷ without_waiting (is_of k) ts)) + f k ≤ (if t.again then f t.key else 0) + again_cost f ts
      by true is m rest =
          let same : f k ≡ f t.key = ap f ((same_key-Decides k t.key).0 is) in
          let again : t.again ≡ true = one t.again true m in
          rw again (omega (arith, same))
      by false is m rest = let h = rest m in omega (arith, h)

  pub finished_cost : (k : Key) (w : Work) → work_cost f (finished k w) ≤ work_cost f w
  finished_cost k w = by (mark_of k w.taken) refl
    where
      by : (m : Option Bool) → mark_of k w.taken ≡ m → work_cost f (done_by m k w) ≤ work_cost f w
      by None e = omega arith
      by (Some false) e = let h = less k w.taken in omega (arith, h)
      by (Some true) e = let h = less_own k w.taken e in let split = cost_append w.waiting (k ∷ []) in omega (arith, h, split)

  pub put_off_cost : (k : Key) (w : Work) → work_cost f (put_off k w) ≤ work_cost f w
  put_off_cost k w = by (mark_of k w.taken) refl
    where
      by : (m : Option Bool) → mark_of k w.taken ≡ m → work_cost f (retry_by m k w) ≤ work_cost f w
      by None e = omega arith
      by (Some false) e = let h = less k w.taken in omega (arith, h)
      by (Some true) e = let h = less_own k w.taken e in let split = cost_append w.waiting (k ∷ []) in omega (arith, h, split)

  -- a key is added, with at most one in work

  unmarked : (k : Key) (us : List Taken) → list_any (same_key k) (map (λ (u : Taken). u.key) us) ≡ false → map (mark k) us ≡ us
  unmarked k [] e = refl
  unmarked k (u ∷ us) e = by (is_of k u) refl e (unmarked k us)
    where
      by : (b : Bool) → is_of k u ≡ b → (b || list_any (same_key k) (map (λ (x : Taken). x.key) us)) ≡ false
          → (list_any (same_key k) (map (λ (x : Taken). x.key) us) ≡ false → map (mark k) us ≡ us) → map (mark k) (u ∷ us) ≡ u ∷ us
      by true is none rest = absurd (true≢false none)
      by false is none rest = rw is (ap (λ xs. u ∷ xs) (rest none))

  again_mark : (k : Key) (ts : List Taken) → AreOnce (map (λ (t : Taken). t.key) ts) → again_cost f (map (mark k) ts) ≤ again_cost f ts + f k
  again_mark k [] once = omega arith
  again_mark k (t ∷ ts) once = by (is_of k t) refl (again_mark k ts once.1)
    where
      by : (b : Bool) → is_of k t ≡ b → again_cost f (map (mark k) ts) ≤ again_cost f ts + f k → again_cost f (map (mark k) (t ∷ ts)) ≤ again_cost f (t ∷ ts) + f k
      by true is h =
          let same : k ≡ t.key = (same_key-Decides k t.key).0 is in
          let cost : f t.key ≡ f k = ap f (sym same) in
          let rest : again_cost f (map (mark k) ts) ≡ again_cost f ts =
          ap (again_cost f) (unmarked k ts (subst (λ j. list_any (same_key j) (map (λ (u : Taken). u.key) ts) ≡ false) (sym same) once.0)) in
          rw is (omega (arith, cost, rest))
      by false is h = rw is (omega (arith, h))

  pub added_cost : (k : Key) (w : Work) → AreOnce (map (λ (t : Taken). t.key) w.taken) → work_cost f (added k w) ≤ work_cost f w + f k
  added_cost k w once = by (list_any (is_of k) w.taken) (list_any (same_key k) w.waiting) refl refl
    where
      by : (a b : Bool) → list_any (is_of k) w.taken ≡ a → list_any (same_key k) w.waiting ≡ b → work_cost f (added k w) ≤ work_cost f w + f k
      by true b ea eb = let h = again_mark k w.taken once in rw ea (omega (arith, h))
      by false true ea eb = rw (ea, eb) (omega arith)
      by false false ea eb = let split = cost_append w.waiting (k ∷ []) in rw (ea, eb) (omega (arith, split))

-- another cost, no higher but at one key
module _ (f g : Key → ℕ) (j : Key) (others : (k : Key) → k ≢ j → g k ≤ f k) where
  pub cost_without : (ks : List Key) → list_any (same_key j) ks ≡ false → keys_cost g ks ≤ keys_cost f ks
  cost_without [] e = omega arith
  cost_without (k ∷ ks) e = by (key_cases j k) (cost_without ks)
    where
      by : KeyCases j k → (list_any (same_key j) ks ≡ false → keys_cost g ks ≤ keys_cost f ks) → keys_cost g (k ∷ ks) ≤ keys_cost f (k ∷ ks)
      by (One is same) rest = absurd (true≢false (sym (ap (λ b. b || list_any (same_key j) ks) is) ∙ e))
      by (Two is differs) rest = let h = others k (λ s. differs (sym s)) in let r = rest (sym (ap (λ b. b || list_any (same_key j) ks) is) ∙ e) in omega (arith, h, r)

  again_without : (us : List Taken) → list_any (same_key j) (map (λ (u : Taken). u.key) us) ≡ false → again_cost g us ≤ again_cost f us
  again_without [] e = omega arith
  again_without (u ∷ us) e = by u.again (key_cases j u.key) (again_without us)
    where
      by : (b : Bool) → KeyCases j u.key → (list_any (same_key j) (map (λ (x : Taken). x.key) us) ≡ false → again_cost g us ≤ again_cost f us)
          → (if b then g u.key else 0) + again_cost g us ≤ (if b then f u.key else 0) + again_cost f us
      by b (One is same) rest = absurd (true≢false (sym (ap (λ x. x || list_any (same_key j) (map (λ (v : Taken). v.key) us)) is) ∙ e))
      by true (Two is differs) rest = let h = others u.key (λ s. differs (sym s)) in let r =
          rest (sym (ap (λ x. x || list_any (same_key j) (map (λ (v : Taken). v.key) us)) is) ∙ e) in omega (arith, h, r)
      by false (Two is differs) rest = let r = rest (sym (ap (λ x. x || list_any (same_key j) (map (λ (v : Taken). v.key) us)) is) ∙ e) in omega (arith, r)

module _ (f g : Key → ℕ) (j : Key) (d : ℕ) (others : (k : Key) → k ≢ j → g k ≤ f k) (own : g j ≤ f j + d) where
  pub changed_cost : (ks : List Key) → AreOnce ks → keys_cost g ks ≤ keys_cost f ks + d
  changed_cost [] once = omega arith
  changed_cost (k ∷ ks) once = by (key_cases j k) (changed_cost ks once.1)
    where
      by : KeyCases j k → keys_cost g ks ≤ keys_cost f ks + d → keys_cost g (k ∷ ks) ≤ keys_cost f (k ∷ ks) + d
      by (One is same) later =
          let rest = cost_without f g j others ks (subst (λ x. list_any (same_key x) ks ≡ false) (sym same) once.0) in
          let gk : g k ≡ g j = ap g (sym same) in
          let fk : f k ≡ f j = ap f (sym same) in
          omega (arith, own, rest, gk, fk)
      by (Two is differs) later = let h = others k (λ s. differs (sym s)) in omega (arith, h, later)

  pub changed_again : (ts : List Taken) → AreOnce (map (λ (t : Taken). t.key) ts) → again_cost g ts ≤ again_cost f ts + d
  changed_again [] once = omega arith
  changed_again (t ∷ ts) once = by t.again (key_cases j t.key) (changed_again ts once.1)
    where
      by : (b : Bool) → KeyCases j t.key → again_cost g ts ≤ again_cost f ts + d → (if b then g t.key else 0) + again_cost g ts ≤ (if b then f t.key else 0) + again_cost f ts + d
      by true (One is same) later =
          let rest = again_without f g j others ts (subst (λ x. list_any (same_key x) (map (λ (u : Taken). u.key) ts) ≡ false) (sym same) once.0) in
          let gk : g t.key ≡ g j = ap g (sym same) in
          let fk : f t.key ≡ f j = ap f (sym same) in
          omega (arith, own, rest, gk, fk)
      by false (One is same) later = omega (arith, later)
      by true (Two is differs) later = let h = others t.key (λ s. differs (sym s)) in omega (arith, h, later)
      by false (Two is differs) later = omega (arith, later)

-- ---- a cost that is nowhere higher

pub keys_less : (f g : Key → ℕ) (ks : List Key) → ((k : Key) → g k ≤ f k) → keys_cost g ks ≤ keys_cost f ks
keys_less f g [] each = omega arith
keys_less f g (k ∷ ks) each = let h = each k in let rest = keys_less f g ks each in omega (arith, h, rest)

again_less : (f g : Key → ℕ) (ts : List Taken) → ((k : Key) → g k ≤ f k) → again_cost g ts ≤ again_cost f ts
again_less f g [] each = omega arith
again_less f g (t ∷ ts) each = by t.again (each t.key) (again_less f g ts each)
  where
    by : (b : Bool) → g t.key ≤ f t.key → again_cost g ts ≤ again_cost f ts → (if b then g t.key else 0) + again_cost g ts ≤ (if b then f t.key else 0) + again_cost f ts
    by true h rest = omega (arith, h, rest)
    by false h rest = omega (arith, rest)

pub work_less : (f g : Key → ℕ) (w : Work) → ((k : Key) → g k ≤ f k) → work_cost g w ≤ work_cost f w
work_less f g w each = let a = keys_less f g w.waiting each in let b = again_less f g w.taken each in omega (arith, a, b)

-- ---- no key is in work

pub none_again : (f : Key → ℕ) (ts : List Taken) → map (λ (t : Taken). t.key) ts ≡ [] → again_cost f ts ≡ 0
none_again f [] e = refl
none_again f (t ∷ ts) e = none_some (sym (ap oldest_of e))
