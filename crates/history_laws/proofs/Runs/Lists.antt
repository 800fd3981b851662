-- A fact of each element says so of rows that are found, put or taken out, of a list turned round, and of some element.
use Rattle.std.proofs.Common.{subst, sym, inl, inr}
use Rattle.std.specs.Prelude.{◌≡◌, List, [], ◌∷◌, Bool, true, false, Option, Some, IfSome, All, reverse, if◌then◌else◌}
use Rattle.std.specs.declared.cmp.Ordering.{Ordering}
use Rattle.std.specs.declared.cmp.Ordering.TheVariants.{Less, Equal, Greater}
use Rattle.std.specs.Ordering.{is_eq, match_ordering}
use Rattle.std.proofs.lemmas.Grind.{reverse_onto}
use Rattle.std.proofs.lemmas.List.Elements.{All-nil, All-cons, All-append, All-head, All-tail}
use Rattle.plain_data.specs.Rows.{put, find, without}
use Rattle.binder_model.specs.Told.{SomeOf}

module _ {K X : Type 0} (cmp : K → K → Ordering) (key : X → K) (P : X → Type 0) where
  pub find_all : (k : K) (xs : List X) → All P xs → IfSome (find cmp key k xs) P
  find_all k [] h = tt
  find_all k (y ∷ ys) h = by (is_eq (cmp (key y) k)) (find_all k ys (All-tail P y ys h))
    where
      by : (b : Bool) → IfSome (find cmp key k ys) P → IfSome (if b then Some y else find cmp key k ys) P
      by true rest = All-head P y ys h
      by false rest = rest

  pub put_all : (x : X) (xs : List X) → P x → All P xs → All P (put cmp key x xs)
  put_all x [] is h = All-cons P x [] is (All-nil P)
  put_all x (y ∷ ys) is h = by (cmp (key y) (key x)) (put_all x ys is (All-tail P y ys h))
    where
      by : (o : Ordering) → All P (put cmp key x ys) → All P (match_ordering o (y ∷ put cmp key x ys) (x ∷ ys) (x ∷ y ∷ ys))
      by Less rest = All-cons P y _ (All-head P y ys h) rest
      by Equal rest = All-cons P x ys is (All-tail P y ys h)
      by Greater rest = All-cons P x (y ∷ ys) is h

  pub without_all : (k : K) (xs : List X) → All P xs → All P (without cmp key k xs)
  without_all k [] h = h
  without_all k (y ∷ ys) h = by (is_eq (cmp (key y) k)) (without_all k ys (All-tail P y ys h))
    where
      by : (b : Bool) → All P (without cmp key k ys) → All P (if b then ys else y ∷ without cmp key k ys)
      by true rest = All-tail P y ys h
      by false rest = All-cons P y _ (All-head P y ys h) rest

pub reverse_all : {X : Type 0} (P : X → Type 0) (xs : List X) → All P xs → All P (reverse xs)
reverse_all P [] h = h
reverse_all P (x ∷ xs) h =
    subst (All P) (sym (reverse_onto xs x [])) (All-append P (reverse xs) (x ∷ []) (reverse_all P xs (All-tail P x xs h)) (All-cons P x [] (All-head P x xs h) (All-nil P)))

-- some element has both
pub some_all : {X : Type 0} (P Q : X → Type 0) (xs : List X) → SomeOf P xs → All Q xs → (x : X) × (P x × Q x)
some_all P Q [] h all = absurd h
some_all P Q (x ∷ xs) h all = elim h [ inl is ↦ (x, (is, All-head Q x xs all)) | inr more ↦ some_all P Q xs more (All-tail Q x xs all) ]

pub some_value : {X : Type 0} (P : X → Type 0) (o : Option X) (x : X) → o ≡ Some x → IfSome o P → P x
some_value {X = X} P o x e h = let g : IfSome (Some x) P = subst (λ (y : Option X). IfSome y P) e h in g
