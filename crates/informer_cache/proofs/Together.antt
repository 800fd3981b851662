-- The objects of all kinds, one kind after another.
use Rattle.std.proofs.Common.{◌≡◌, ◌<◌, ◌==◌, ℕ, List, [], ◌∷◌, ◌++◌, Bool, true, false, Option, Some, None, refl, sym, ◌∙◌, ap, subst, arith, if◌then◌else◌}
use Rattle.std.specs.Prelude.{⊤}
use Rattle.std.specs.declared.cmp.Ordering.{Ordering}
use Rattle.std.specs.declared.cmp.Ordering.TheVariants.{Less, Equal, Greater}
use Rattle.std.specs.Ordering.{is_eq, nat_cmp, ordering_then, MatchOrdering}
use Rattle.std.proofs.lemmas.Cmp.{ranked}
use Rattle.std.proofs.lemmas.Bool.Decides.{nat_tests}
use Rattle.plain_data.specs.Rows.{IsAfter}
use Rattle.plain_data.specs.Pairs.{text_cmp}
use Rattle.kube_parts.specs.declared.parts.Kind.{Kind}
use Rattle.kube_parts.specs.declared.parts.Kind.TheVariants as kinds
use Rattle.kube_objects.specs.declared.key.Key.{Key}
use Rattle.kube_objects.specs.declared.objects.Object.{Object}
use Rattle.kube_objects.specs.Keys.{AreRows, key_cmp, key_of, kind_index, kind_of, is_of_kind, row_at, rows_of, same_key}
use Rattle.binder_model.specs.Told.{first_some}
use Rattle.informer_cache.specs.Knowledge.{AreOfKind}
use Rattle.kube_objects.proofs.SameKeys.{same_key_ordered}

append_nil : (xs : List Object) → xs ++ [] ≡ xs
append_nil [] = refl
append_nil (x ∷ xs) = ap (λ ys. x ∷ ys) (append_nil xs)

-- all are of later kinds
abbrev pub AreLater : ℕ → List Object → Type 0
AreLater n [] = ⊤
AreLater n (o ∷ os) = (n < kind_index (kind_of o)) × AreLater n os

key_less : (a b : Key) → kind_index a.kind < kind_index b.kind → key_cmp a b ≡ Less
key_less a b lt = by (nat_cmp (kind_index a.kind) (kind_index b.kind)) (text_cmp a.namespace b.namespace) (text_cmp a.name b.name) (ranked (kind_index a.kind) (kind_index b.kind) _ refl)
  where
    by : (r s t : Ordering) → MatchOrdering r (kind_index a.kind < kind_index b.kind) (kind_index a.kind ≡ kind_index b.kind) (kind_index b.kind <
        kind_index a.kind) → ordering_then (ordering_then r s) t ≡ Less
    by Less s t h = refl
    by Equal s t h = absurd (omega arith)
    by Greater s t h = absurd (omega arith)

after_later : (x : Object) (zs : List Object) → AreLater (kind_index (kind_of x)) zs → IsAfter key_cmp key_of x zs
after_later x [] h = tt
after_later x (z ∷ zs) h = (key_less (key_of x) (key_of z) h.0, after_later x zs h.1)

after_append : (x : Object) (ys zs : List Object) → IsAfter key_cmp key_of x ys → AreLater (kind_index (kind_of x)) zs → IsAfter key_cmp key_of x (ys ++ zs)
after_append x [] zs a h = after_later x zs h
after_append x (y ∷ ys) zs a h = (a.0, after_append x ys zs a.1 h)

rising_append : (k : Kind) (xs zs : List Object) → AreRows xs → AreOfKind k xs → AreRows zs → AreLater (kind_index k) zs → AreRows (xs ++ zs)
rising_append k [] zs r o s h = s
rising_append k (x ∷ xs) zs r o s h = (after_append x xs zs r.0 (subst (λ j. AreLater (kind_index j) zs) (sym o.0) h), rising_append k xs zs r.1 o.1 s h)

later_append : (n : ℕ) (xs ys : List Object) → AreLater n xs → AreLater n ys → AreLater n (xs ++ ys)
later_append n [] ys h k = k
later_append n (x ∷ xs) ys h k = (h.0, later_append n xs ys h.1 k)

later_kind : (n : ℕ) (k : Kind) (os : List Object) → AreOfKind k os → n < kind_index k → AreLater n os
later_kind n k [] h lt = tt
later_kind n k (o ∷ os) h lt = (subst (λ j. n < kind_index j) (sym h.0) lt, later_kind n k os h.1 lt)

rows_append : (kind : Kind) (xs ys : List Object) → rows_of kind (xs ++ ys) ≡ rows_of kind xs ++ rows_of kind ys
rows_append kind [] ys = refl
rows_append kind (x ∷ xs) ys = by (is_of_kind kind x) (rows_append kind xs ys)
  where
    by : (b : Bool) → rows_of kind (xs ++ ys) ≡ rows_of kind xs ++ rows_of kind ys
        → (if b then x ∷ rows_of kind (xs ++ ys) else rows_of kind (xs ++ ys)) ≡ (if b then x ∷ rows_of kind xs else rows_of kind xs) ++ rows_of kind ys
    by true h = ap (λ zs. x ∷ zs) h
    by false h = h

rows_own : (k : Kind) (os : List Object) → AreOfKind k os → rows_of k os ≡ os
rows_own k [] h = refl
rows_own k (o ∷ os) h = by (is_of_kind k o) (subst (λ j. (kind_index j == kind_index k) ≡ true) (sym h.0) (grind (arith, nat_tests))) (rows_own k os h.1)
  where
    by : (b : Bool) → b ≡ true → rows_of k os ≡ os → (if b then o ∷ rows_of k os else rows_of k os) ≡ o ∷ os
    by b e rest = rw e (ap (λ zs. o ∷ zs) rest)

rows_other : (k kind : Kind) (os : List Object) → AreOfKind k os → (kind_index k == kind_index kind) ≡ false → rows_of kind os ≡ []
rows_other k kind [] h e = refl
rows_other k kind (o ∷ os) h e = by (is_of_kind kind o) (subst (λ j. (kind_index j == kind_index kind) ≡ false) (sym h.0) e) (rows_other k kind os h.1 e)
  where
    by : (b : Bool) → b ≡ false → rows_of kind os ≡ [] → (if b then o ∷ rows_of kind os else rows_of kind os) ≡ []
    by b no_other rest = rw no_other rest

find_append : (key : Key) (xs ys : List Object) → row_at key (xs ++ ys) ≡ first_some (row_at key xs) (row_at key ys)
find_append key [] ys = refl
find_append key (x ∷ xs) ys = by (is_eq (key_cmp (key_of x) key)) (find_append key xs ys)
  where
    by : (b : Bool) → row_at key (xs ++ ys) ≡ first_some (row_at key xs) (row_at key ys)
        → (if b then Some x else row_at key (xs ++ ys)) ≡ first_some (if b then Some x else row_at key xs) (row_at key ys)
    by true h = refl
    by false h = h

row_other : (k : Kind) (key : Key) (os : List Object) → AreOfKind k os → (kind_index k == kind_index key.kind) ≡ false → row_at key os ≡ None
row_other k key [] h e = refl
row_other k key (o ∷ os) h e = by (is_eq (key_cmp (key_of o) key)) (same_key_ordered (key_of o) key ∙ differs) (row_other k key os h.1 e)
  where
    differs : same_key (key_of o) key ≡ false
    differs = rw (subst (λ j. (kind_index j == kind_index key.kind) ≡ false) (sym h.0) e) refl

    by : (b : Bool) → b ≡ false → row_at key os ≡ None → (if b then Some o else row_at key os) ≡ None
    by b no_other rest = rw no_other rest

none_first : (a : Option Object) → first_some a None ≡ a
none_first None = refl
none_first (Some o) = refl

abbrev pub list_of : List Object → List Object → List Object → List Object → List Object → Kind → List Object
list_of a b c d e kinds.StorageClass = a
list_of a b c d e kinds.Node = b
list_of a b c d e kinds.PersistentVolume = c
list_of a b c d e kinds.PersistentVolumeClaim = d
list_of a b c d e kinds.Pod = e

-- five lists, one for each kind in order
module _ (a b c d e : List Object) (ra : AreRows a) (rb : AreRows b) (rc : AreRows c) (rd : AreRows d) (re : AreRows e)
    (ka : AreOfKind kinds.StorageClass a) (kb : AreOfKind kinds.Node b) (kc : AreOfKind kinds.PersistentVolume c) (kd : AreOfKind kinds.PersistentVolumeClaim d) (ke : AreOfKind kinds.Pod e) where
  pub together : AreRows (a ++ (b ++ (c ++ (d ++ e))))
  together =
      let le : AreLater 3 e = later_kind 3 kinds.Pod e ke (omega arith) in
      let ld : AreLater 2 (d ++ e) = later_append 2 d e (later_kind 2 kinds.PersistentVolumeClaim d kd (omega arith)) (later_kind 2 kinds.Pod e ke (omega arith)) in
      let lc : AreLater 1 (c ++ (d ++ e)) = later_append 1 c (d ++ e) (later_kind 1 kinds.PersistentVolume c kc (omega arith)) (later_append 1 d e
      (later_kind 1 kinds.PersistentVolumeClaim d kd (omega arith)) (later_kind 1 kinds.Pod e ke (omega arith))) in
      let lb : AreLater 0 (b ++ (c ++ (d ++ e))) =
      later_append 0 b (c ++ (d ++ e)) (later_kind 0 kinds.Node b kb (omega arith))
      (later_append 0 c (d ++ e) (later_kind 0 kinds.PersistentVolume c kc (omega arith))
      (later_append 0 d e (later_kind 0 kinds.PersistentVolumeClaim d kd (omega arith)) (later_kind 0 kinds.Pod e ke (omega arith)))) in
      rising_append kinds.StorageClass a _ ra ka
      (rising_append kinds.Node b _ rb kb (rising_append kinds.PersistentVolume c _ rc kc (rising_append kinds.PersistentVolumeClaim d e rd kd re le) ld) lc) lb

  apart_rows : (kind : Kind) → rows_of kind (a ++ (b ++ (c ++ (d ++ e)))) ≡ rows_of kind a ++ (rows_of kind b ++ (rows_of kind c ++ (rows_of kind d ++ rows_of kind e)))
  apart_rows kind =
      rows_append kind a (b ++ (c ++ (d ++ e)))
      ∙ ap (λ xs. rows_of kind a ++ xs) (rows_append kind b (c ++ (d ++ e)) ∙ ap (λ xs. rows_of kind b ++ xs) (rows_append kind c (d ++ e) ∙ ap (λ xs. rows_of kind c ++ xs) (rows_append kind d e)))

  apart_row : (key : Key) → row_at key (a ++ (b ++ (c ++ (d ++ e)))) ≡ first_some (row_at key a) (first_some (row_at key b) (first_some (row_at key c) (first_some (row_at key d) (row_at key e))))
  apart_row key =
      find_append key a (b ++ (c ++ (d ++ e)))
      ∙ ap (first_some (row_at key a)) (find_append key b (c ++ (d ++ e)) ∙ ap (first_some (row_at key b)) (find_append key c (d ++ e) ∙ ap (first_some (row_at key c)) (find_append key d e)))

  pub own_rows : (kind : Kind) → rows_of kind (a ++ (b ++ (c ++ (d ++ e)))) ≡ list_of a b c d e kind
  own_rows kinds.StorageClass = apart_rows kinds.StorageClass
      ∙ rw (
        rows_own kinds.StorageClass a ka,
        rows_other kinds.Node kinds.StorageClass b kb refl,
        rows_other kinds.PersistentVolume kinds.StorageClass c kc refl,
        rows_other kinds.PersistentVolumeClaim kinds.StorageClass d kd refl,
        rows_other kinds.Pod kinds.StorageClass e ke refl,
      ) (append_nil a)
  own_rows kinds.Node = apart_rows kinds.Node
      ∙ rw (
        rows_other kinds.StorageClass kinds.Node a ka refl,
        rows_own kinds.Node b kb,
        rows_other kinds.PersistentVolume kinds.Node c kc refl,
        rows_other kinds.PersistentVolumeClaim kinds.Node d kd refl,
        rows_other kinds.Pod kinds.Node e ke refl,
      ) (append_nil b)
  own_rows kinds.PersistentVolume = apart_rows kinds.PersistentVolume
      ∙ rw (
        rows_other kinds.StorageClass kinds.PersistentVolume a ka refl,
        rows_other kinds.Node kinds.PersistentVolume b kb refl,
        rows_own kinds.PersistentVolume c kc,
        rows_other kinds.PersistentVolumeClaim kinds.PersistentVolume d kd refl,
        rows_other kinds.Pod kinds.PersistentVolume e ke refl,
      ) (append_nil c)
  own_rows kinds.PersistentVolumeClaim = apart_rows kinds.PersistentVolumeClaim
      ∙ rw (
        rows_other kinds.StorageClass kinds.PersistentVolumeClaim a ka refl,
        rows_other kinds.Node kinds.PersistentVolumeClaim b kb refl,
        rows_other kinds.PersistentVolume kinds.PersistentVolumeClaim c kc refl,
        rows_own kinds.PersistentVolumeClaim d kd,
        rows_other kinds.Pod kinds.PersistentVolumeClaim e ke refl,
      ) (append_nil d)
  own_rows kinds.Pod = apart_rows kinds.Pod
      ∙ rw (
        rows_other kinds.StorageClass kinds.Pod a ka refl,
        rows_other kinds.Node kinds.Pod b kb refl,
        rows_other kinds.PersistentVolume kinds.Pod c kc refl,
        rows_other kinds.PersistentVolumeClaim kinds.Pod d kd refl,
        rows_own kinds.Pod e ke,
      ) refl

  -- where the others have no row of the key
  pub own_row : (key : Key) → row_at key (a ++ (b ++ (c ++ (d ++ e)))) ≡ row_at key (list_of a b c d e key.kind)
  own_row key = apart_row key ∙ by key.kind refl
    where
      by : (k : Kind) → key.kind ≡ k → first_some (row_at key a) (first_some (row_at key b) (first_some (row_at key c) (first_some (row_at key d) (row_at key e)))) ≡ row_at key (list_of a b c d e k)
      by kinds.StorageClass is = rw (
        row_other kinds.Node key b kb (rw is refl),
        row_other kinds.PersistentVolume key c kc (rw is refl),
        row_other
            kinds.PersistentVolumeClaim key d kd (rw is refl),
        row_other kinds.Pod key e ke (rw is refl),
      ) (none_first (row_at key a))
      by kinds.Node is = rw (
        row_other kinds.StorageClass key a ka (rw is refl),
        row_other kinds.PersistentVolume key c kc (rw is refl),
        row_other
            kinds.PersistentVolumeClaim key d kd (rw is refl),
        row_other kinds.Pod key e ke (rw is refl),
      ) (none_first (row_at key b))
      by kinds.PersistentVolume is = rw (
        row_other kinds.StorageClass key a ka (rw is refl),
        row_other kinds.Node key b kb (rw is refl),
        row_other
            kinds.PersistentVolumeClaim key d kd (rw is refl),
        row_other kinds.Pod key e ke (rw is refl),
      ) (none_first (row_at key c))
      by kinds.PersistentVolumeClaim is = rw (
        row_other kinds.StorageClass key a ka (rw is refl),
        row_other kinds.Node key b kb (rw is refl),
        row_other kinds.PersistentVolume key c kc (rw is refl),
        row_other kinds.Pod key e ke (rw is refl),
      ) (none_first (row_at key d))
      by kinds.Pod is = rw (
        row_other kinds.StorageClass key a ka (rw is refl),
        row_other kinds.Node key b kb (rw is refl),
        row_other
            kinds.PersistentVolume key c kc (rw is refl),
        row_other kinds.PersistentVolumeClaim key d kd (rw is refl),
      ) refl
