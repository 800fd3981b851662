-- What printing and reading say of each other.
-- A choice of this project.
use Rattle.std.specs.Prelude.{◌≡◌, ℕ, ◌≤◌, List, [], ◌∷◌, length, true, All, Ok}
use Rattle.std.specs.Str.{is_utf8}
use Rattle.serde_json.specs.Data.{Data}
use Rattle.json_text.specs.Build.{Good}
use Rattle.json_text.specs.Canonical.{IsLine}
use Rattle.kube_objects.specs.declared.objects.Object.{Object}
use Rattle.object_print.specs.Objects.{object_data, object_line}
use Rattle.object_text.specs.Reading.{most_bytes, object_of, read_text_of}
use Rattle.object_text.specs.Listing.{list_of}
use Rattle.object_laws.specs.Given.{IsGivenObject}

-- the JSON of an object gives the object
abbrev pub PrintedGivesBack : Type 0
PrintedGivesBack = (o : Object) → IsGivenObject o → object_of (object_data o) ≡ Ok o

-- its line is read as the object, where it is UTF-8 and no longer than a manifest may be
abbrev pub LineIsRead : Type 0
LineIsRead = (o : Object) → IsGivenObject o → is_utf8 (object_line o) ≡ true → length (object_line o) ≤ most_bytes → read_text_of (object_line o) ≡ Ok o

-- and so does a reader of lists read it, as the one object
abbrev pub LineIsListed : Type 0
LineIsListed = (o : Object) → IsGivenObject o → is_utf8 (object_line o) ≡ true → length (object_line o) ≤ most_bytes → list_of (object_line o) ≡ Ok (o ∷ [])

-- its JSON is canonical and nests no deeper than is read
abbrev pub PrintedIsCanonical : Type 0
PrintedIsCanonical = (o : Object) → IsGivenObject o → Good 127 (object_data o)

-- its line has no line feed
abbrev pub PrintedIsLine : Type 0
PrintedIsLine = (o : Object) → IsGivenObject o → IsLine (object_line o)

-- two objects have two lines
abbrev pub LinesAreApart : Type 0
LinesAreApart = (o p : Object) → IsGivenObject o → IsGivenObject p → object_line o ≡ object_line p → o ≡ p

-- what a canonical value gives is an object that a manifest can give
abbrev pub ValueGives : Type 0
ValueGives = (d : Data) (o : Object) → Good 127 d → object_of d ≡ Ok o → IsGivenObject o

-- and so is what the text of a manifest gives
abbrev pub TextGives : Type 0
TextGives = (text : List ℕ) (o : Object) → read_text_of text ≡ Ok o → IsGivenObject o

-- and each object that the text of a list gives
abbrev pub ListGives : Type 0
ListGives = (text : List ℕ) (os : List Object) → list_of text ≡ Ok os → All IsGivenObject os
