-- What was read is printed as it is read again.
-- Source: a choice of this project: a printed line is a manifest.
use Rattle.std.specs.Prelude.{◌≡◌, ℕ, ◌≤◌, List, [], ◌∷◌, length, All, Ok}
use Rattle.kube_objects.specs.declared.objects.Object.{Object}
use Rattle.object_print.specs.Objects.{object_line}
use Rattle.object_text.specs.Reading.{most_bytes, read_text_of}
use Rattle.object_text.specs.Listing.{list_of}

-- the line of an object gives the object, as a manifest and as a list of one
pub record LineGivesBack (o : Object) : Type 0 where
  pub manifest : read_text_of (object_line o) ≡ Ok o
  pub listed : list_of (object_line o) ≡ Ok (o ∷ [])

-- where it is no longer than a manifest may be: members that a manifest leaves out are printed
abbrev pub IsReadAgain : Object → Type 0
IsReadAgain o = length (object_line o) ≤ most_bytes → LineGivesBack o

-- what the text of a manifest gives
abbrev pub TextIsReadAgain : Type 0
TextIsReadAgain = (text : List ℕ) (o : Object) → read_text_of text ≡ Ok o → IsReadAgain o

-- and each object that the text of a list gives
abbrev pub ListIsReadAgain : Type 0
ListIsReadAgain = (text : List ℕ) (os : List Object) → list_of text ≡ Ok os → All IsReadAgain os
