-- What the text of a manifest, or of a list of manifests, gives are objects that a manifest can give.
use Rattle.std.proofs.Common.{◌≡◌, ℕ, ◌+◌, ◌≤◌, List, [], ◌∷◌, ◌++◌, length, nat_lt, Bool, true, false, if◌then◌else◌, Option, Some, None, IfSome, Result, Ok, Err, IfOk, refl, arith}
use Rattle.std.specs.Str.{is_utf8}
use Rattle.std.specs.List.{All}
use Rattle.std.specs.Bool.{⊤}
use Rattle.std.proofs.lemmas.List.Elements.{All-nil, All-cons, All-append}
use Rattle.serde_json.specs.Data.{Data, null, boolean, number, string, array, object, Items, no_items, item}
use Rattle.serde_json.specs.Read.{read}
use Rattle.serde_json.proofs.Nesting.{depth-read}
use Rattle.json_text.specs.Look.{unless_null}
use Rattle.json_text.proofs.Good.{good_read}
use Rattle.json_text.proofs.ReadValues.{canonical-read}
use Rattle.kube_objects.specs.declared.objects.Object.{Object}
use Rattle.object_text.specs.declared.errors.Member.{Member}
use Rattle.object_text.specs.declared.errors.Member.TheVariants as members
use Rattle.object_text.specs.declared.errors.ObjectError.{ObjectError}
use Rattle.object_text.specs.declared.errors.ObjectError.TheVariants.{TooLong}
use Rattle.object_text.specs.declared.errors.ListError.{ListError}
use Rattle.object_text.specs.MemberWords.{member_word}
use Rattle.object_text.specs.MemberReaders.{at, as_items, needed_from, needed, needed_items}
use Rattle.object_text.specs.Reading.{is_object, most_bytes, object_of, read_text_of, value_in, value_of}
use Rattle.object_text.specs.Listing.{is_long, item_of, with_item, items_from, is_list, list_items, one_item, list_in, list_from, list_of}
use Rattle.object_laws.specs.Given.{IsGivenObject}
use Rattle.object_laws.specs.Laws.{TextGives, ListGives}
use Rattle.object_laws.proofs.GivesParts.{step, if_ok, of_ok}
use Rattle.object_laws.proofs.Gives.{IsSound, sound_given}
use Rattle.object_laws.proofs.PartsRead.{IsTaken, AreTaken, HasTakenParts, read_taken, taken_reads, taken_parts, taken_member}

-- ---- values that were read

-- it is canonical, where it holds no float
sound_taken : (n : ℕ) (d : Data) → n ≤ 127 → IsTaken n d → IsSound d
sound_taken n d le t none = let own = taken_reads n d le t in good_read d (canonical-read own.0 d own.1 none) (depth-read own.0 d own.1)

sound_whole : (d : Data) → IsTaken 127 d → IsSound d
sound_whole d t = sound_taken 127 d (omega arith) t

value_given : (text : List ℕ) → IfOk (value_of text) (IsTaken 127)
value_given text = by (is_utf8 text) (read text) refl
  where
    in_given : (o : Option Data) → read text ≡ o → IfOk (value_in o) (IsTaken 127)
    in_given None e = tt
    in_given (Some d) e = read_taken text d e

    by : (b : Bool) (o : Option Data) → read text ≡ o → IfOk (value_in (if b then o else None)) (IsTaken 127)
    by true o e = in_given o e
    by false o e = tt

-- ---- the text of a manifest

text_given : (text : List ℕ) → IfOk (read_text_of text) IsGivenObject
unfolding read_text_of
text_given text =
    if_ok IsGivenObject (nat_lt most_bytes (length text)) (Err TooLong) _ (λ e. tt)
    (λ e. step (IsTaken 127) IsGivenObject (value_of text) _ (value_given text) (λ d h. sound_given d (sound_whole d h)))

pub text_gives : TextGives
text_gives text o e = of_ok IsGivenObject (read_text_of text) o (text_given text) e

-- ---- the items of a list

abbrev AreSound : Items → Type 0
AreSound no_items = ⊤
AreSound (item d ds) = IsSound d × AreSound ds

sound_items : (ds : Items) → AreTaken 125 ds → AreSound ds
sound_items no_items h = tt
sound_items (item d ds) h = (sound_taken 125 d (omega arith) h.0, sound_items ds h.1)

taken_at : (m : Member) (d : Data) → IsTaken 127 d → IfSome (at m (Some d)) (IsTaken 126)
taken_at m d t = by d (taken_parts 126 d t)
  where
    by : (e : Data) → HasTakenParts 126 e → IfSome (at m (Some e)) (IsTaken 126)
    by null h = tt
    by (boolean b) h = tt
    by (number x) h = tt
    by (string s) h = tt
    by (array ds) h = tt
    by (object ms) h = taken_member 126 (member_word m) ms h

sound_as : (m : Member) (d : Data) → IsTaken 126 d → IfOk (as_items m d) AreSound
sound_as m d t = by d (taken_parts 125 d t)
  where
    by : (e : Data) → HasTakenParts 125 e → IfOk (as_items m e) AreSound
    by null h = tt
    by (boolean b) h = tt
    by (number x) h = tt
    by (string s) h = tt
    by (array ds) h = sound_items ds h
    by (object ms) h = tt

needed_taken : (n : ℕ) (m : Member) (o : Option Data) → IfSome o (IsTaken n) → IfOk (needed_from m (unless_null o)) (IsTaken n)
needed_taken n m None h = tt
needed_taken n m (Some null) h = tt
needed_taken n m (Some (boolean b)) h = h
needed_taken n m (Some (number k)) h = h
needed_taken n m (Some (string s)) h = h
needed_taken n m (Some (array ds)) h = h
needed_taken n m (Some (object ms)) h = h

items_sound : (m : Member) (d : Data) → IsTaken 127 d → IfOk (needed_items m (Some d)) AreSound
items_sound m d h = step (IsTaken 126) AreSound (needed m (Some d)) _ (needed_taken 126 m (at m (Some d)) (taken_at m d h)) (λ e k. sound_as m e k)

-- ---- lists

abbrev AreGiven : List Object → Type 0
AreGiven os = All IsGivenObject os

one_given : (o : Object) → IsGivenObject o → AreGiven (o ∷ [])
one_given o h = All-cons IsGivenObject o [] h (All-nil IsGivenObject)

item_given : (d : Data) → IsSound d → IfOk (item_of d) IsGivenObject
unfolding item_of
item_given d h = if_ok IsGivenObject (is_long d) (Err TooLong) (object_of d) (λ e. tt) (λ e. sound_given d h)

next_given : (n : ℕ) (r : Result Object ObjectError) (next : Object → Result (List Object) ListError) → IfOk r IsGivenObject
    → ((o : Object) → IsGivenObject o → IfOk (next o) AreGiven) → IfOk (with_item n r next) AreGiven
next_given n (Ok o) next h k = k o h
next_given n (Err e) next h k = tt

items_given : (n : ℕ) (ds : Items) (found : List Object) → AreSound ds → AreGiven found → IfOk (items_from n ds found) AreGiven
items_given n no_items found s h = h
items_given n (item d ds) found s h =
    next_given n (item_of d) _ (item_given d s.0) (λ o is. items_given (n + 1) ds (found ++ o ∷ []) s.1 (All-append IsGivenObject found (o ∷ []) h (one_given o is)))

list_items_given : (r : Result Items ObjectError) → IfOk r AreSound → IfOk (list_items r) AreGiven
list_items_given (Ok ds) h = items_given 1 ds [] h (All-nil IsGivenObject)
list_items_given (Err e) h = tt

one_item_given : (r : Result Object ObjectError) → IfOk r IsGivenObject → IfOk (one_item r) AreGiven
one_item_given (Ok o) h = one_given o h
one_item_given (Err e) h = tt

list_given : (d : Data) → IsTaken 127 d → IfOk (list_in d) AreGiven
unfolding list_in
list_given d h =
    if_ok AreGiven (is_object d) _ _ (λ e.
    if_ok AreGiven (is_list d) (list_items (needed_items members.Items (Some d))) (one_item (item_of d)) (λ f. list_items_given (needed_items members.Items (Some d)) (items_sound members.Items d h))
    (λ f. one_item_given (item_of d) (item_given d (sound_whole d h)))) (λ e. tt)

list_from_given : (r : Result Data ObjectError) → IfOk r (IsTaken 127) → IfOk (list_from r) AreGiven
list_from_given (Ok d) h = list_given d h
list_from_given (Err e) h = tt

list_of_given : (text : List ℕ) → IfOk (list_of text) AreGiven
unfolding list_of
list_of_given text = list_from_given (value_of text) (value_given text)

pub list_gives : ListGives
list_gives text os e = of_ok AreGiven (list_of text) os (list_of_given text) e
