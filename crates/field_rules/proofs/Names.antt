-- Names of objects, byte by byte.
use Rattle.std.proofs.Common.{
  ◌≡◌,
  ◌==◌,
  ◌+◌,
  ◌<◌,
  ℕ,
  suc,
  arith,
  Bool,
  true,
  false,
  ◌&&◌,
  List,
  [],
  ◌∷◌,
  Option,
  Some,
  None,
  refl,
  sym,
  ◌∙◌,
  ap,
  if◌then◌else◌,
  length,
  drop,
  get_or,
  add-one,
  drop-cons,
}
use Rattle.std.specs.List.{list_all, onto_first, slice_split}
use Rattle.std.specs.Prelude.{◌||◌, ◌-◌, slice_get}
use Rattle.std.proofs.lemmas.Bool.Decides.{Decides-eqb}
use Rattle.binder_model.specs.Fields.{is_lower_or_digit, is_lower_or_digit_at, is_name_byte, is_label}
use Rattle.field_rules.specs.Faults.{after_byte, byte_fits, ends_well, reads_as_label}

abbrev is_dot : ℕ → Bool
is_dot c = c == 46

and_assoc : (a b c : Bool) → (a && b && c) ≡ (a && (b && c))
and_assoc true b c = refl
and_assoc false b c = refl

-- bytes of names with a letter or digit at the end, read from the first byte on
ends_are : (c : ℕ) (cs : List ℕ) → (list_all is_name_byte (c ∷ cs) && is_lower_or_digit_at (slice_get (c ∷ cs) (length cs))) ≡ ends_well c cs
ends_are c [] = by (is_lower_or_digit c)
  where
    by : (b : Bool) → ((b || c == 45) && true && b) ≡ b
    by true = refl
    by false = with_none (c == 45)
      where
        with_none : (d : Bool) → (d && true && false) ≡ false
        with_none true = refl
        with_none false = refl
ends_are c (d ∷ ds) = and_assoc (is_name_byte c) (list_all is_name_byte (d ∷ ds)) _ ∙ ap (λ b. is_name_byte c && b) (ends_are d ds)

-- a label begins with a letter or digit and ends well
pub label_by_ends : (c : ℕ) (cs : List ℕ) → is_label (c ∷ cs) ≡ (is_lower_or_digit c && ends_well c cs)
label_by_ends c cs =
    let last : length (c ∷ cs) - 1 ≡ length cs = omega arith in
    rw last (turned (list_all is_name_byte (c ∷ cs)) (is_lower_or_digit c) (is_lower_or_digit_at (slice_get (c ∷ cs) (length cs))) ∙ ap (λ b. is_lower_or_digit c && b) (ends_are c cs))
  where
    turned : (a b d : Bool) → (a && b && d) ≡ (b && (a && d))
    turned true true d = refl
    turned true false d = refl
    turned false true d = refl
    turned false false d = refl

pub label_is : (part : List ℕ) → is_label part ≡ reads_as_label part
label_is [] = refl
label_is (c ∷ cs) = label_by_ends c cs

-- parts of names, the first of which goes on after this byte
abbrev pub goes_on : ℕ → List (List ℕ) → Bool
goes_on last [] = false
goes_on last (p ∷ ps) = ends_well last p && list_all is_label ps

-- whether the bytes that are left make parts of names, after the last byte of a part or at the start of one
abbrev pub goes_well : Option ℕ → List ℕ → Bool
goes_well None bytes = list_all is_label (slice_split is_dot bytes)
goes_well (Some last) bytes = goes_on last (slice_split is_dot bytes)

onto_none : (c : ℕ) (ps : List (List ℕ)) → (ps ≡ [] → ⊥) → list_all is_label (onto_first c ps) ≡ (is_lower_or_digit c && goes_on c ps)
onto_none c [] some = absurd (some refl)
onto_none c (p ∷ ps) some = ap (λ b. b && list_all is_label ps) (label_by_ends c p) ∙ and_assoc (is_lower_or_digit c) (ends_well c p) (list_all is_label ps)

onto_some : (last c : ℕ) (ps : List (List ℕ)) → (ps ≡ [] → ⊥) → goes_on last (onto_first c ps) ≡ (is_name_byte last && goes_on c ps)
onto_some last c [] some = absurd (some refl)
onto_some last c (p ∷ ps) some = and_assoc (is_name_byte last) (ends_well c p) (list_all is_label ps)

some_part : (bytes : List ℕ) → slice_split is_dot bytes ≡ [] → ⊥
some_part [] e = cc
some_part (c ∷ cs) e = by (c == 46) (slice_split is_dot cs) e
  where
    by : (b : Bool) (ps : List (List ℕ)) → (if b then [] ∷ ps else onto_first c ps) ≡ [] → ⊥
    by true ps e = cc
    by false [] e = cc
    by false (p ∷ ps) e = cc

-- one byte more
pub goes_well-cons : (last : Option ℕ) (c : ℕ) (cs : List ℕ) → goes_well last (c ∷ cs) ≡ (byte_fits last c && goes_well (after_byte c) cs)
goes_well-cons None c cs = by (c == 46) refl
  where
    by : (b : Bool) → (c == 46) ≡ b → list_all is_label (if b then [] ∷ slice_split is_dot cs else onto_first c (slice_split is_dot cs)) ≡
        (is_lower_or_digit c && goes_well (if b then None else Some c) cs)
    by true e = let is : c ≡ 46 = (Decides-eqb c 46).0 e in rw is refl
    by false e = onto_none c (slice_split is_dot cs) (some_part cs)
goes_well-cons (Some last) c cs = by (c == 46)
  where
    by : (b : Bool) → goes_on last (if b then [] ∷ slice_split is_dot cs else onto_first c (slice_split is_dot cs)) ≡
        ((if b then is_lower_or_digit last else is_name_byte last) && goes_well (if b then None else Some c) cs)
    by true = refl
    by false = onto_some last c (slice_split is_dot cs) (some_part cs)

pub goes_well-drop : (last : Option ℕ) (bytes : List ℕ) (i : ℕ) → i < length bytes
    → goes_well last (drop i bytes) ≡ (byte_fits last (get_or bytes i 0) && goes_well (after_byte (get_or bytes i 0)) (drop (i + 1) bytes))
goes_well-drop last bytes i lt = rw (drop-cons bytes i 0 lt, add-one) (goes_well-cons last (get_or bytes i 0) (drop (suc i) bytes))

pub ends_well-drop : (last : ℕ) (bytes : List ℕ) (i : ℕ) → i < length bytes → ends_well last (drop i bytes) ≡ (is_name_byte last && ends_well (get_or bytes i 0) (drop (i + 1) bytes))
ends_well-drop last bytes i lt = rw (drop-cons bytes i 0 lt, add-one) refl

-- what the tests of a step tell of the whole
pub stops : (whole now test rest : Bool) → whole ≡ now → now ≡ (test && rest) → test ≡ false → false ≡ whole
stops whole now test rest e f g = sym (e ∙ f ∙ ap (λ t. t && rest) g)

pub goes : (whole now test rest : Bool) → whole ≡ now → now ≡ (test && rest) → test ≡ true → whole ≡ rest
goes whole now test rest e f g = e ∙ f ∙ ap (λ t. t && rest) g
