-- What was read from a text is printed as UTF-8, so that it is read again.
use Rattle.std.proofs.Common.{ℕ, ◌+◌, List, [], ◌∷◌, ◌++◌, length, nat_lt, Some, Result, Ok, Err, IfOk}
use Rattle.std.specs.List.{All}
use Rattle.std.proofs.lemmas.List.Elements.{All-nil, All-cons, All-head, All-tail}
use Rattle.serde_json.specs.Data.{Data, Items, no_items, item}
use Rattle.kube_objects.specs.declared.objects.Object.{Object}
use Rattle.object_text.specs.declared.errors.Member.TheVariants as members
use Rattle.object_text.specs.declared.errors.ObjectError.{ObjectError}
use Rattle.object_text.specs.declared.errors.ObjectError.TheVariants.{TooLong}
use Rattle.object_text.specs.declared.errors.ListError.{ListError}
use Rattle.object_text.specs.MemberReaders.{needed_items}
use Rattle.object_text.specs.Reading.{is_object, most_bytes, object_of, read_text_of, value_of}
use Rattle.object_text.specs.Listing.{is_long, item_of, with_item, items_from, is_list, list_items, one_item, list_in, list_from, list_of}
use Rattle.object_laws.specs.Given.{IsGivenObject}
use Rattle.object_laws.specs.Again.{IsReadAgain, TextIsReadAgain, ListIsReadAgain}
use Rattle.object_laws.proofs.GivesParts.{step, if_ok, of_ok}
use Rattle.object_laws.proofs.Texts.{text_gives, list_gives}
use Rattle.object_laws.proofs.Lines.{line_is_read, line_is_listed}
use Rattle.object_laws.proofs.Utf8Texts.{HasUtf8, ItemsUtf8}
use Rattle.object_laws.proofs.Utf8Objects.{Each, each_append, ObjectUtf8, line_utf8}
use Rattle.object_laws.proofs.Utf8Readers.{needed_items_read_utf8}
use Rattle.object_laws.proofs.Utf8Kinds.{object_read_utf8, value_read_utf8}

again : (o : Object) → IsGivenObject o → ObjectUtf8 o → IsReadAgain o
again o is h short = record { manifest = line_is_read o is (line_utf8 o is h) short; listed = line_is_listed o is (line_utf8 o is h) short }

-- ---- the text of a manifest

text_utf8 : (text : List ℕ) → IfOk (read_text_of text) ObjectUtf8
unfolding read_text_of
text_utf8 text = if_ok ObjectUtf8 (nat_lt most_bytes (length text)) (Err TooLong) _ (λ e. tt) (λ e. step HasUtf8 ObjectUtf8 (value_of text) _ (value_read_utf8 text) (λ d h. object_read_utf8 d h))

pub text_is_read_again : TextIsReadAgain
text_is_read_again text o e = again o (text_gives text o e) (of_ok ObjectUtf8 (read_text_of text) o (text_utf8 text) e)

-- ---- lists

abbrev AreUtf8 : List Object → Type 0
AreUtf8 os = Each ObjectUtf8 os

item_utf8 : (d : Data) → HasUtf8 d → IfOk (item_of d) ObjectUtf8
unfolding item_of
item_utf8 d h = if_ok ObjectUtf8 (is_long d) (Err TooLong) (object_of d) (λ e. tt) (λ e. object_read_utf8 d h)

next_utf8 : (n : ℕ) (r : Result Object ObjectError) (next : Object → Result (List Object) ListError) → IfOk r ObjectUtf8
    → ((o : Object) → ObjectUtf8 o → IfOk (next o) AreUtf8) → IfOk (with_item n r next) AreUtf8
next_utf8 n (Ok o) next h k = k o h
next_utf8 n (Err e) next h k = tt

items_utf8 : (n : ℕ) (ds : Items) (found : List Object) → ItemsUtf8 ds → AreUtf8 found → IfOk (items_from n ds found) AreUtf8
items_utf8 n no_items found h k = k
items_utf8 n (item d ds) found h k = next_utf8 n (item_of d) _ (item_utf8 d h.0) (λ o u. items_utf8 (n + 1) ds (found ++ o ∷ []) h.1 (each_append ObjectUtf8 found (o ∷ []) k (u, tt)))

list_items_utf8 : (r : Result Items ObjectError) → IfOk r ItemsUtf8 → IfOk (list_items r) AreUtf8
list_items_utf8 (Ok ds) h = items_utf8 1 ds [] h tt
list_items_utf8 (Err e) h = tt

one_item_utf8 : (r : Result Object ObjectError) → IfOk r ObjectUtf8 → IfOk (one_item r) AreUtf8
one_item_utf8 (Ok o) h = (h, tt)
one_item_utf8 (Err e) h = tt

list_in_utf8 : (d : Data) → HasUtf8 d → IfOk (list_in d) AreUtf8
unfolding list_in
list_in_utf8 d h =
    if_ok AreUtf8 (is_object d) _ _ (λ e.
    if_ok AreUtf8 (is_list d) (list_items (needed_items members.Items (Some d))) (one_item (item_of d))
    (λ f. list_items_utf8 (needed_items members.Items (Some d)) (needed_items_read_utf8 members.Items (Some d) h))
    (λ f. one_item_utf8 (item_of d) (item_utf8 d h))) (λ e. tt)

list_from_utf8 : (r : Result Data ObjectError) → IfOk r HasUtf8 → IfOk (list_from r) AreUtf8
list_from_utf8 (Ok d) h = list_in_utf8 d h
list_from_utf8 (Err e) h = tt

list_utf8 : (text : List ℕ) → IfOk (list_of text) AreUtf8
unfolding list_of
list_utf8 text = list_from_utf8 (value_of text) (value_read_utf8 text)

all_again : (os : List Object) → All IsGivenObject os → AreUtf8 os → All IsReadAgain os
all_again [] is h = All-nil IsReadAgain
all_again (o ∷ os) is h = All-cons IsReadAgain o os (again o (All-head IsGivenObject o os is) h.0) (all_again os (All-tail IsGivenObject o os is) h.1)

pub list_is_read_again : ListIsReadAgain
list_is_read_again text os e = all_again os (list_gives text os e) (of_ok AreUtf8 (list_of text) os (list_utf8 text) e)
