-- The objects of one manifest, or of a list of manifests.
-- Source: Kubernetes API, List; the numbers of the items in refusals and the limit are a choice of this project.
use Rattle.std.specs.Prelude.{ℕ, ◌+◌, List, [], ◌∷◌, ◌++◌, Bool, false, nat_lt, if◌then◌else◌, Ok, Err, Option, Some, None, codes, bytes_eq}
use Rattle.std.specs.declared.result.Result.{Result}
use Rattle.serde_json.specs.Data.{Data, Items, no_items, item}
use Rattle.json_text.specs.Look.{text_in}
use Rattle.kube_objects.specs.declared.objects.Object.{Object}
use Rattle.object_text.specs.declared.errors.Member.TheVariants as members
use Rattle.object_text.specs.declared.errors.ObjectError.{ObjectError}
use Rattle.object_text.specs.declared.errors.ObjectError.TheVariants.{NotObject, TooLong}
use Rattle.object_text.specs.declared.errors.ListError.{ListError}
use Rattle.object_text.specs.MemberReaders.{at, needed_items}
use Rattle.object_text.specs.Reading.{is_object, most_bytes, object_of, value_of}
use Rattle.json_text.specs.Sizes.{least_bytes}

-- the compact text of the value has more bytes than a manifest may have, even if each number that is not whole had as few as it can
abbrev pub is_long : Data → Bool
is_long d = nat_lt most_bytes (least_bytes d)

-- the object of an item of at most so many bytes
unfoldable pub item_of : Data → Result Object ObjectError
item_of d = if is_long d then Err TooLong else object_of d

-- the refusal of the item of this number, for this reason
abbrev pub refused : {X : Type 0} → ℕ → ObjectError → Result X ListError
refused n e = Err (record { item = n; reason = e })

-- the first refusal with the number of its item, else what the next step makes of the object
abbrev pub with_item : ℕ → Result Object ObjectError → (Object → Result (List Object) ListError) → Result (List Object) ListError
with_item n (Ok o) next = next o
with_item n (Err e) next = refused n e

-- the objects of items, the first of which has this number, behind those that were found
abbrev pub items_from : ℕ → Items → List Object → Result (List Object) ListError
items_from n no_items found = Ok found
items_from n (item d ds) found = with_item n (item_of d) (λ o. items_from (n + 1) ds (found ++ o ∷ []))

-- the text is there and is this name
abbrev pub is_named : List ℕ → Option (List ℕ) → Bool
is_named name None = false
is_named name (Some s) = bytes_eq s name

-- an object of kind `List`; its other members are not looked at
abbrev pub is_list : Data → Bool
is_list d = is_named (codes "List") (text_in (at members.Kind (Some d)))

-- the objects of a list's items, numbered from 1; a list without items is refused as its first
abbrev pub list_items : Result Items ObjectError → Result (List Object) ListError
list_items (Ok ds) = items_from 1 ds []
list_items (Err e) = refused 1 e

-- a list of one object, refused as item 1
abbrev pub one_item : Result Object ObjectError → Result (List Object) ListError
one_item (Ok o) = Ok (o ∷ [])
one_item (Err e) = refused 1 e

-- the objects of a value: those of a list, or the one that it is; a value that is no object is refused as item 1
unfoldable pub list_in : Data → Result (List Object) ListError
list_in d =
    if is_object d then (if is_list d then list_items (needed_items members.Items (Some d)) else one_item (item_of d)) else refused 1 NotObject

-- the same of a text that may not be JSON
abbrev pub list_from : Result Data ObjectError → Result (List Object) ListError
list_from (Ok d) = list_in d
list_from (Err e) = refused 1 e

-- the objects of a text, in order
unfoldable pub list_of : List ℕ → Result (List Object) ListError
list_of text = list_from (value_of text)
