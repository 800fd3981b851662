-- Keys at places of the map, and lists of such places.
use Rattle.std.proofs.Common.{◌≡◌, ℕ, ◌<◌, ◌≤◌, zero, suc, Bool, true, false, cond, ◌||◌, List, [], ◌∷◌, ◌++◌, length, Some, slice_get, refl, sym, ap, subst, ◌∙◌, arith}
use Rattle.std.specs.List.{list_any}
use Rattle.std.specs.Prelude.{remove}
use Rattle.std.specs.Map.{keys_of}
use Rattle.std.proofs.lemmas.Bool.{or_parts}
use Rattle.kube_objects.specs.declared.key.Key.{Key}
use Rattle.kube_objects.specs.Keys.{same_key}
use Rattle.kube_objects.proofs.SameKeys.{same_key_itself, same_key_swapped}
use Rattle.sync_queue.specs.Work.{AreOnce, without_waiting}
use Rattle.sync_queue.specs.Steps.Places.{AreBelow, key_there, keys_at}

module _ (ks : List Key) where
  pub keys_push : (places : List ℕ) (p : ℕ) → keys_at ks (places ++ p ∷ []) ≡ keys_at ks places ++ key_there ks p ∷ []
  keys_push [] p = refl
  keys_push (i ∷ is) p = ap (λ js. key_there ks i ∷ js) (keys_push is p)

  pub keys_remove : (places : List ℕ) (at : ℕ) → keys_at ks (remove places at) ≡ remove (keys_at ks places) at
  keys_remove [] zero = refl
  keys_remove [] (suc at) = refl
  keys_remove (i ∷ is) zero = refl
  keys_remove (i ∷ is) (suc at) = ap (λ js. key_there ks i ∷ js) (keys_remove is at)

  pub there_at : (places : List ℕ) (at p : ℕ) → slice_get places at ≡ Some p → key_there (keys_at ks places) at ≡ key_there ks p
  there_at [] at p e = absurd cc
  there_at (i ∷ is) zero p e = ap (key_there ks) (some_is e)
    where
      some_is : Some i ≡ Some p → i ≡ p
      some_is e = cc
  there_at (i ∷ is) (suc at) p e = there_at is at p e

  pub length-keys_at : (places : List ℕ) → length (keys_at ks places) ≡ length places
  length-keys_at [] = refl
  length-keys_at (i ∷ is) = ap suc (length-keys_at is)

pub below_push : (n : ℕ) (places : List ℕ) (p : ℕ) → p < n → AreBelow n places → AreBelow n (places ++ p ∷ [])
below_push n [] p lt b = (lt, tt)
below_push n (i ∷ is) p lt b = (b.0, below_push n is p lt b.1)

pub below_remove : (n : ℕ) (places : List ℕ) (at : ℕ) → AreBelow n places → AreBelow n (remove places at)
below_remove n [] zero b = tt
below_remove n [] (suc at) b = tt
below_remove n (i ∷ is) zero b = b.1
below_remove n (i ∷ is) (suc at) b = (b.0, below_remove n is at b.1)

pub below_at : (n : ℕ) (places : List ℕ) (at p : ℕ) → slice_get places at ≡ Some p → AreBelow n places → p < n
below_at n [] at p e b = absurd cc
below_at n (i ∷ is) zero p e b = subst (λ j. j < n) (some_is e) b.0
  where
    some_is : Some i ≡ Some p → i ≡ p
    some_is e = cc
below_at n (i ∷ is) (suc at) p e b = below_at n is at p e b.1

pub below_more : (n m : ℕ) (places : List ℕ) → n ≤ m → AreBelow n places → AreBelow m places
below_more n m [] le b = tt
below_more n m (i ∷ is) le b = let lt = b.0 in (omega (arith, le, lt), below_more n m is le b.1)

-- a new key leaves the others in their places
there_more : (ks : List Key) (k : Key) (i : ℕ) → i < length ks → key_there (ks ++ k ∷ []) i ≡ key_there ks i
there_more [] k i lt = absurd (omega arith)
there_more (j ∷ js) k zero lt = refl
there_more (j ∷ js) k (suc i) lt = there_more js k i (omega arith)

pub there_last : (ks : List Key) (k : Key) → key_there (ks ++ k ∷ []) (length ks) ≡ k
there_last [] k = refl
there_last (j ∷ js) k = there_last js k

pub longer : (ks : List Key) (k : Key) → length (ks ++ k ∷ []) ≡ suc (length ks)
longer [] k = refl
longer (j ∷ js) k = ap suc (longer js k)

pub keys_more : (ks : List Key) (k : Key) (places : List ℕ) → AreBelow (length ks) places → keys_at (ks ++ k ∷ []) places ≡ keys_at ks places
keys_more ks k [] b = refl
keys_more ks k (i ∷ is) b =
    let here = there_more ks k i b.0 in
    let rest = keys_more ks k is b.1 in
    λ n. here n ∷ rest n

pub any_there : (ks : List Key) (at : ℕ) → at < length ks → list_any (same_key (key_there ks at)) ks ≡ true
any_there [] at lt = absurd (omega arith)
any_there (k ∷ ks) zero lt = ap (λ b. b || list_any (same_key k) ks) (same_key_itself k)
any_there (k ∷ ks) (suc at) lt = ap (λ b. same_key (key_there ks at) k || b) (any_there ks at (omega arith)) ∙ or_true (same_key (key_there ks at) k)
  where
    or_true : (b : Bool) → (b || true) ≡ true
    or_true true = refl
    or_true false = refl

-- where no key stands twice, to take one out by its place is to take out the key
pub remove_once : (ks : List Key) (at : ℕ) → AreOnce ks → at < length ks → remove ks at ≡ without_waiting (same_key (key_there ks at)) ks
remove_once [] at once lt = absurd (omega arith)
remove_once (k ∷ ks) zero once lt = sym (ap (λ b. cond b ks (k ∷ without_waiting (same_key k) ks)) (same_key_itself k))
remove_once (k ∷ ks) (suc at) once lt =
    let other = same_key_swapped (key_there ks at) k ∙ apart ks at once.0 (omega arith) in
    ap (λ js. k ∷ js) (remove_once ks at once.1 (omega arith)) ∙ sym (ap (λ b. cond b ks (k ∷ without_waiting (same_key (key_there ks at)) ks)) other)
  where
    apart : (js : List Key) (i : ℕ) → list_any (same_key k) js ≡ false → i < length js → same_key k (key_there js i) ≡ false
    apart [] i h lt = absurd (omega arith)
    apart (j ∷ js) zero h lt = (or_parts (same_key k j) (list_any (same_key k) js) h).0
    apart (j ∷ js) (suc i) h lt = apart js i (or_parts (same_key k j) (list_any (same_key k) js) h).1 (omega arith)

module _ {X : Type 0} where
  pub length-keys_of : (es : List (Key × X)) → length (keys_of es) ≡ length es
  length-keys_of [] = refl
  length-keys_of (e ∷ es) = ap suc (length-keys_of es)

  -- the key of the entry at a place
  pub entry_key : (es : List (Key × X)) (i : ℕ) (k : Key) (x : X) → slice_get es i ≡ Some (k, x) → key_there (keys_of es) i ≡ k
  entry_key [] i k x e = absurd cc
  entry_key (y ∷ es) zero k x e = by e
    where
      by : Some y ≡ Some (k, x) → y.0 ≡ k
      by e = cc
  entry_key (y ∷ es) (suc i) k x e = entry_key es i k x e

  -- there is one
  pub entry_there : (es : List (Key × X)) (i : ℕ) → i < length (keys_of es) → (x : X) × (slice_get es i ≡ Some (key_there (keys_of es) i, x))
  entry_there [] i lt = absurd (omega arith)
  entry_there (y ∷ es) zero lt = (y.1, refl)
  entry_there (y ∷ es) (suc i) lt = entry_there es i (omega arith)

  -- a new entry, which comes last
  pub keys_of_more : (es : List (Key × X)) (k : Key) (x : X) → keys_of (es ++ (k, x) ∷ []) ≡ keys_of es ++ k ∷ []
  keys_of_more [] k x = refl
  keys_of_more (e ∷ es) k x = ap (λ js. e.0 ∷ js) (keys_of_more es k x)
