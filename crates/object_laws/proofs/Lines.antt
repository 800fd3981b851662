-- The line of an object is one line, tells it from every other, and is read as the object.
use Rattle.std.proofs.Common.{◌≡◌, ◌≤◌, [], ◌∷◌, length, true, false, Result, Ok, refl, ap, ◌∙◌}
use Rattle.serde_json.specs.Data.{Data}
use Rattle.serde_json.specs.Written.{compact_text}
use Rattle.std.specs.Str.{is_utf8}
use Rattle.std.proofs.lemmas.Bool.{le-ltb}
use Rattle.json_text.specs.Canonical.{IsLine}
use Rattle.json_text.proofs.Deep.{one_value_of}
use Rattle.json_text.proofs.ReadBack.{read-compact_text}
use Rattle.json_text.proofs.Good.{no_float_good}
use Rattle.kube_objects.specs.Keys.{kind_of}
use Rattle.kube_parts.specs.declared.parts.Kind.{Kind}
use Rattle.kube_parts.specs.declared.parts.Kind.TheVariants as kinds
use Rattle.kube_objects.specs.declared.objects.Object.{Object}
use Rattle.object_print.specs.Objects.{object_data, object_line}
use Rattle.object_print.proofs.LineLaws.{objects_are_lines}
use Rattle.object_text.specs.declared.errors.ObjectError.{ObjectError}
use Rattle.object_text.specs.Reading.{most_bytes, object_of, read_text_of}
use Rattle.object_text.specs.Listing.{is_list, item_of, list_in, list_of}
use Rattle.json_text.proofs.WholeSizes.{least_whole}
use Rattle.object_laws.specs.Given.{IsGivenObject}
use Rattle.object_laws.proofs.Canonical.{object_good}
use Rattle.object_laws.proofs.Back.{TellsKind, object_tells, object_back}

pub printed_is_line : (o : Object) → IsGivenObject o → IsLine (object_line o)
printed_is_line o h = let good = object_good o h in objects_are_lines o good.canonical

same_object : (o p : Object) (r : Result Object ObjectError) → r ≡ Ok o → r ≡ Ok p → o ≡ p
same_object o p r e f = cc

pub lines_are_apart : (o p : Object) → IsGivenObject o → IsGivenObject p → object_line o ≡ object_line p → o ≡ p
unfolding object_line
lines_are_apart o p ho hp same =
    let good = object_good o ho in
    let other = object_good p hp in
    let values : object_data o ≡ object_data p = one_value_of (object_data o) (object_data p) good.canonical other.canonical same in
    same_object o p (object_of (object_data o)) (object_back o ho) (ap object_of values ∙ object_back p hp)

pub line_is_read : (o : Object) → IsGivenObject o → is_utf8 (object_line o) ≡ true → length (object_line o) ≤ most_bytes → read_text_of (object_line o) ≡ Ok o
unfolding object_line read_text_of
line_is_read o h utf8 short =
    let good = object_good o h in
    rw (le-ltb most_bytes (length (object_line o)) short, utf8, read-compact_text (object_data o) good.canonical good.shallow) (object_back o h)

-- no kind is named as lists are
no_list : (kind : Kind) (d : Data) → TellsKind kind d → is_list d ≡ false
no_list kinds.StorageClass d h = rw h.name refl
no_list kinds.Node d h = rw h.name refl
no_list kinds.PersistentVolume d h = rw h.name refl
no_list kinds.PersistentVolumeClaim d h = rw h.name refl
no_list kinds.Pod d h = rw h.name refl

pub line_is_listed : (o : Object) → IsGivenObject o → is_utf8 (object_line o) ≡ true → length (object_line o) ≤ most_bytes → list_of (object_line o) ≡ Ok (o ∷ [])
unfolding object_line list_of list_in item_of
line_is_listed o h utf8 short =
    let good = object_good o h in
    let tells = object_tells o h in
    rw (
      utf8,
      read-compact_text (object_data o) good.canonical good.shallow,
      tells.members,
      no_list (kind_of o) (object_data o) tells,
      least_whole (object_data o) (no_float_good good),
      le-ltb most_bytes (length (compact_text (object_data o))) short,
      object_back o h,
    ) refl
