-- What is found of a key after an edit of the rows.
use Rattle.std.proofs.Common.{
  ◌≡◌,
  ◌⊎◌,
  ℕ,
  ◌+◌,
  ◌<◌,
  List,
  [],
  ◌∷◌,
  ◌++◌,
  length,
  take,
  get_or,
  arith,
  Bool,
  true,
  false,
  true≢false,
  Option,
  Some,
  None,
  inl,
  inr,
  refl,
  sym,
  ◌∙◌,
  ap,
  subst,
  if◌then◌else◌,
}
use Rattle.std.specs.Prelude.{nat_lt, option_map, is_some, bytes_eq}
use Rattle.std.proofs.lemmas.List.{take_more}
use Rattle.std.proofs.lemmas.Bool.Decides.{nat_tests}
use Rattle.std.specs.declared.cmp.Ordering.{Ordering}
use Rattle.std.specs.declared.cmp.Ordering.TheVariants.{Less, Equal, Greater}
use Rattle.std.specs.Ordering.{is_eq, match_ordering}
use Rattle.std.proofs.lemmas.Cmp.{nat_list_cmp_total}
use Rattle.std.proofs.lemmas.Map.Lookups.{exact_bytes}
use Rattle.std.proofs.lemmas.Slice.Eq.{bytes_eq-Decides}
use Rattle.plain_data.specs.Pairs.{text_cmp}
use Rattle.plain_data.specs.Rows.{put, find}
use Rattle.plain_data.proofs.RowLookups.{find-put, find-put_other}
use Rattle.kube_parts.specs.declared.parts.Kind.{Kind}
use Rattle.kube_objects.specs.declared.key.Key.{Key}
use Rattle.kube_objects.specs.declared.objects.Object.{Object}
use Rattle.kube_objects.specs.Keys.{AreRows, key_cmp, key_of, kind_of, row_at, put_row, without_row, same_key}
use Rattle.kube_objects.proofs.KeyOrder.{key_cmp_total, other_key, row_at-put_row, row_at-put_row_other, row_at-without_row, row_at-without_row_other}
use Rattle.kube_objects.proofs.SameKeys.{KeyCases, One, Two, key_cases, same_key_ordered}
use Rattle.binder_model.specs.Told.{first_some}
use Rattle.informer_cache.specs.declared.marks.Mark.{Mark}
use Rattle.informer_cache.specs.declared.lists.Space.{Space}
use Rattle.informer_cache.specs.Marks.{mark_key, mark_at, put_mark, space_name, space_at, put_space, space_version, greater}
use Rattle.informer_cache.specs.Knowledge.{AreOfKind}

pub mark_at-put : (m : Mark) (ms : List Mark) (k : Key) → mark_at k (put_mark m ms) ≡ (if same_key m.key k then Some m else mark_at k ms)
mark_at-put m ms k = by (key_cases m.key k)
  where
    by : KeyCases m.key k → mark_at k (put_mark m ms) ≡ (if same_key m.key k then Some m else mark_at k ms)
    by (One e is) = rw e (subst (λ j. mark_at j (put_mark m ms) ≡ Some m) is (find-put key_cmp_total mark_key m ms))
    by (Two e differs) = rw e (find-put_other key_cmp_total mark_key k m ms (other_key m.key k differs))

pub row_at-put : (o : Object) (os : List Object) (k : Key) → row_at k (put_row o os) ≡ (if same_key (key_of o) k then Some o else row_at k os)
row_at-put o os k = by (key_cases (key_of o) k)
  where
    by : KeyCases (key_of o) k → row_at k (put_row o os) ≡ (if same_key (key_of o) k then Some o else row_at k os)
    by (One e is) = rw e (subst (λ j. row_at j (put_row o os) ≡ Some o) is (row_at-put_row o os))
    by (Two e differs) = rw e (row_at-put_row_other k o os differs)

pub row_at-without : (j : Key) (os : List Object) (k : Key) → AreRows os → row_at k (without_row j os) ≡ (if same_key j k then None else row_at k os)
row_at-without j os k rows = by (key_cases j k)
  where
    by : KeyCases j k → row_at k (without_row j os) ≡ (if same_key j k then None else row_at k os)
    by (One e is) = rw e (subst (λ i. row_at i (without_row j os) ≡ None) is (row_at-without_row j os rows))
    by (Two e differs) = rw e (row_at-without_row_other j k os differs)

pub of_kind-put : (kind : Kind) (o : Object) (os : List Object) → kind_of o ≡ kind → AreOfKind kind os → AreOfKind kind (put_row o os)
of_kind-put kind o [] is h = (is, tt)
of_kind-put kind o (x ∷ xs) is h = by (key_cmp (key_of x) (key_of o)) (of_kind-put kind o xs is h.1)
  where
    by : (r : Ordering) → AreOfKind kind (put_row o xs) → AreOfKind kind (match_ordering r (x ∷ put_row o xs) (o ∷ xs) (o ∷ x ∷ xs))
    by Less rest = (h.0, rest)
    by Equal rest = (is, h.1)
    by Greater rest = (is, h)

pub of_kind-without : (kind : Kind) (k : Key) (os : List Object) → AreOfKind kind os → AreOfKind kind (without_row k os)
of_kind-without kind k [] h = tt
of_kind-without kind k (x ∷ xs) h = by (key_cmp (key_of x) k) (of_kind-without kind k xs h.1)
  where
    by : (r : Ordering) → AreOfKind kind (without_row k xs) → AreOfKind kind (if is_eq r then xs else x ∷ without_row k xs)
    by Less rest = (h.0, rest)
    by Equal rest = h.1
    by Greater rest = (h.0, rest)

-- what is found once a row was put at the end
module _ {X : Type 0} (key : X → Key) where
  find-last : (xs : List X) (x : X) (k : Key) → find key_cmp key k (xs ++ x ∷ []) ≡ first_some (find key_cmp key k xs) (if same_key (key x) k then Some x else None)
  find-last [] x k = ap (λ b. if b then Some x else None) (same_key_ordered (key x) k)
  find-last (y ∷ ys) x k = by (is_eq (key_cmp (key y) k)) (find-last ys x k)
    where
      by : (b : Bool) → find key_cmp key k (ys ++ x ∷ []) ≡ first_some (find key_cmp key k ys) (if same_key (key x) k then Some x else None)
          → (if b then Some y else find key_cmp key k (ys ++ x ∷ [])) ≡ first_some (if b then Some y else find key_cmp key k ys) (if same_key (key x) k then Some x else None)
      by true h = refl
      by false h = h

  pub find-take : (xs : List X) (i : ℕ) (x : X) (k : Key) → i < length xs → x ≡ get_or xs i x
      → find key_cmp key k (take (i + 1) xs) ≡ first_some (find key_cmp key k (take i xs)) (if same_key (key x) k then Some x else None)
  find-take xs i x k lt is = ap (find key_cmp key k) (take_more xs i x lt ∙ ap (λ y. take i xs ++ y ∷ []) (sym is)) ∙ find-last (take i xs) x k

  -- what is found then was found before, or is the row at the end
  pub found-take : (xs : List X) (i : ℕ) (x : X) (k : Key) → i < length xs → x ≡ get_or xs i x
      → is_some (find key_cmp key k (take (i + 1) xs)) ≡ true → (is_some (find key_cmp key k (take i xs)) ≡ true) ⊎ (key x ≡ k)
  found-take xs i x k lt is found = by (find key_cmp key k (take i xs)) (key_cases (key x) k) (ap is_some (sym (find-take xs i x k lt is)) ∙ found)
    where
      by : (f : Option X) → KeyCases (key x) k → is_some (first_some f (if same_key (key x) k then Some x else None)) ≡ true → (is_some f ≡ true) ⊎ (key x ≡ k)
      by (Some y) t h = inl refl
      by None (One e same) h = inr same
      by None (Two e differs) h = absurd (true≢false (sym h ∙ rw e refl))

-- namespaces

space_at-put : (s : Space) (ss : List Space) (n : List ℕ) → space_at n (put_space s ss) ≡ (if bytes_eq s.namespace n then Some s else space_at n ss)
space_at-put s ss n = by (bytes_eq s.namespace n) refl
  where
    other : (r : Ordering) → text_cmp s.namespace n ≡ r → bytes_eq s.namespace n ≡ false → is_eq r ≡ false
    other Less e differs = refl
    other Equal e differs = absurd (true≢false (sym ((bytes_eq-Decides s.namespace n).1 (exact_bytes s.namespace n e)) ∙ differs))
    other Greater e differs = refl

    by : (b : Bool) → bytes_eq s.namespace n ≡ b → space_at n (put_space s ss) ≡ (if b then Some s else space_at n ss)
    by true e = subst (λ m. space_at m (put_space s ss) ≡ Some s) ((bytes_eq-Decides s.namespace n).0 e) (find-put nat_list_cmp_total space_name s ss)
    by false e = find-put_other nat_list_cmp_total space_name n s ss (other (text_cmp s.namespace n) refl e)

pub raised_space : (ss next : List Space) (name given : List ℕ) (version r : ℕ) → given ≡ name
    → Some r ≡ greater (Some version) (space_version name ss) → next ≡ put_space (record { namespace = given; version = r }) ss → (n : List ℕ)
    → space_version n next ≡ (if bytes_eq name n then greater (Some version) (space_version n ss) else space_version n ss)
raised_space ss next name given version r named is put n = ap (space_version n) put
    ∙ ap (λ m. space_version n (put_space (record { namespace = m; version = r }) ss)) named
    ∙ ap (option_map (λ (s : Space). s.version)) (space_at-put (record { namespace = name; version = r }) ss n) ∙ by (bytes_eq name n) refl
  where
    by : (b : Bool) → bytes_eq name n ≡ b → option_map (λ (s : Space). s.version) (if b then Some (record { namespace = name; version = r }) else
        space_at n ss) ≡ (if b then greater (Some version) (space_version n ss) else space_version n ss)
    by true e = subst (λ m. Some r ≡ greater (Some version) (space_version m ss)) ((bytes_eq-Decides name n).0 e) is
    by false e = refl

pub greater_assoc : (a b c : Option ℕ) → greater a (greater b c) ≡ greater (greater a b) c
greater_assoc None b c = refl
greater_assoc (Some a) None c = refl
greater_assoc (Some a) (Some b) None = by (nat_lt a b)
  where
    by : (t : Bool) → (if t then Some b else Some a) ≡ greater (if t then Some b else Some a) None
    by true = refl
    by false = refl
greater_assoc (Some a) (Some b) (Some c) = by (nat_lt b c) (nat_lt a b) (nat_lt a c) refl refl refl
  where
    by : (bc ab ac : Bool) → nat_lt b c ≡ bc → nat_lt a b ≡ ab → nat_lt a c ≡ ac → greater (Some a) (if bc then Some c else Some b) ≡ greater (if ab then Some b else Some a) (Some c)
    by true true true e f g = rw (e, g) refl
    by true true false e f g = absurd (grind (arith, nat_tests))
    by true false true e f g = refl
    by true false false e f g = refl
    by false true true e f g = rw (e, f) refl
    by false true false e f g = rw (e, f) refl
    by false false true e f g = absurd (grind (arith, nat_tests))
    by false false false e f g = rw (f, g) refl

greater_swap : (a b : Option ℕ) → greater a b ≡ greater b a
greater_swap None None = refl
greater_swap None (Some b) = refl
greater_swap (Some a) None = refl
greater_swap (Some a) (Some b) = by (nat_lt a b) (nat_lt b a) refl refl
  where
    by : (ab ba : Bool) → nat_lt a b ≡ ab → nat_lt b a ≡ ba → (if ab then Some b else Some a) ≡ (if ba then Some a else Some b)
    by true true e f = absurd (grind (arith, nat_tests))
    by true false e f = refl
    by false true e f = refl
    by false false e f = let same : a ≡ b = grind (arith, nat_tests) in ap Some same

-- a version is raised in the middle as in front
pub greater_inside : (a b c : Option ℕ) → greater a (greater b c) ≡ greater b (greater a c)
greater_inside a b c = greater_assoc a b c ∙ ap (λ x. greater x c) (greater_swap a b) ∙ sym (greater_assoc b a c)

-- an object that stands is the first of its key; another is put in
pub first_there : (os : List Object) (o x : Object) (key : Key) → key ≡ key_of o → Some x ≡ row_at key os → (k : Key)
    → row_at k os ≡ first_some (row_at k os) (if same_key (key_of o) k then Some o else None)
first_there os o x key own found k = by (row_at k os) (key_cases (key_of o) k) (λ same. subst (λ j. Some x ≡ row_at j os) (own ∙ same) found)
  where
    by : (f : Option Object) → KeyCases (key_of o) k → (key_of o ≡ k → Some x ≡ f) → f ≡ first_some f (if same_key (key_of o) k then Some o else None)
    by (Some y) t h = refl
    by None (One e same) h = absurd (true≢false (ap is_some (h same)))
    by None (Two e differs) h = rw e refl

pub first_new : (os next : List Object) (o copy : Object) (key : Key) → key ≡ key_of o → copy ≡ o → None ≡ row_at key os → next ≡ put_row copy os
    → (k : Key) → row_at k next ≡ first_some (row_at k os) (if same_key (key_of o) k then Some o else None)
first_new os next o copy key own same none put k = ap (row_at k) put ∙ ap (λ x. row_at k (put_row x os)) same ∙ row_at-put o os k
    ∙ by (row_at k os) (key_cases (key_of o) k) (λ is. subst (λ j. None ≡ row_at j os) (own ∙ is) none)
  where
    by : (f : Option Object) → KeyCases (key_of o) k → (key_of o ≡ k → None ≡ f) → (if same_key (key_of o) k then Some o else f) ≡ first_some f (if same_key (key_of o) k then Some o else None)
    by (Some y) (One e is) h = absurd (true≢false (sym (ap is_some (h is))))
    by (Some y) (Two e differs) h = rw e refl
    by None t h = refl
