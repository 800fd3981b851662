-- What a member of an object gives, which may be absent. An object may be absent too, as the value of an absent member.
-- Source: Kubernetes API conventions, "Optional vs. Required"; the refusals and their order are a choice of this project.
use Rattle.std.specs.Prelude.{ℕ, ◌==◌, ◌^◌, nat_le, List, [], ◌∷◌, ◌++◌, length, Bool, ◌&&◌, if◌then◌else◌, Ok, Err, Option, Some, None, codes, unwrap_or}
use Rattle.std.specs.List.{list_all}
use Rattle.std.specs.Char.{is_ascii_digit}
use Rattle.std.specs.Str.Parse.{digits_value}
use Rattle.std.specs.declared.result.Result.{Result}
use Rattle.serde_json.specs.Data.{Data, null, boolean, number, string, array, object, Items, no_items, item, Members, no_members, member}
use Rattle.serde_json.specs.Find.{get}
use Rattle.json_text.specs.Look.{unless_null}
use Rattle.plain_data.specs.Pairs.{Pair, put_pair}
use Rattle.kube_parts.specs.declared.uid.Uid.{Uid}
use Rattle.kube_parts.specs.Uids.{uid_of_text}
use Rattle.object_text.specs.declared.errors.Member.{Member}
use Rattle.object_text.specs.declared.errors.ObjectError.{ObjectError}
use Rattle.object_text.specs.declared.errors.ObjectError.TheVariants.{Missing, WrongType}
use Rattle.object_text.specs.MemberWords.{member_word}
use Rattle.object_text.specs.Answers.{◌>>=◌}

-- the member of an object; none where there is no object
abbrev pub at : Member → Option Data → Option Data
at m None = None
at m (Some d) = get (member_word m) d

-- ---- values of a type

-- the text of a value; another value is of the wrong type
abbrev pub as_text : Member → Data → Result (List ℕ) ObjectError
as_text m null = Err (WrongType m)
as_text m (boolean b) = Err (WrongType m)
as_text m (number n) = Err (WrongType m)
as_text m (string s) = Ok s
as_text m (array ds) = Err (WrongType m)
as_text m (object ms) = Err (WrongType m)

-- the items of an array; another value is of the wrong type
abbrev pub as_items : Member → Data → Result Items ObjectError
as_items m null = Err (WrongType m)
as_items m (boolean b) = Err (WrongType m)
as_items m (number n) = Err (WrongType m)
as_items m (string s) = Err (WrongType m)
as_items m (array ds) = Ok ds
as_items m (object ms) = Err (WrongType m)

-- the value itself, where it is an object
abbrev pub as_object : Member → Data → Result Data ObjectError
as_object m null = Err (WrongType m)
as_object m (boolean b) = Err (WrongType m)
as_object m (number n) = Err (WrongType m)
as_object m (string s) = Err (WrongType m)
as_object m (array ds) = Err (WrongType m)
as_object m (object ms) = Ok (object ms)

-- ---- members that have to be there: null is as absent

-- the value, or that the member is missing
abbrev pub needed_from : Member → Option Data → Result Data ObjectError
needed_from m None = Err (Missing m)
needed_from m (Some d) = Ok d

-- the value of a member that must be there; null counts as absent
abbrev pub needed : Member → Option Data → Result Data ObjectError
needed m place = needed_from m (unless_null (at m place))

-- the text of a member that must be there
abbrev pub needed_text : Member → Option Data → Result (List ℕ) ObjectError
needed_text m place = needed m place >>= λ d. as_text m d

-- the items of a member that must be there
abbrev pub needed_items : Member → Option Data → Result Items ObjectError
needed_items m place = needed m place >>= λ d. as_items m d

-- the object of a member that must be there
abbrev pub needed_object : Member → Option Data → Result Data ObjectError
needed_object m place = needed m place >>= λ d. as_object m d

-- an object on the way to a required member: null is as absent
abbrev pub way_from : Member → Option Data → Result (Option Data) ObjectError
way_from m None = Ok None
way_from m (Some d) = as_object m d >>= λ o. Ok (Some o)

-- the object that further members are looked for in, which must be there
abbrev pub needed_way : Member → Option Data → Result (Option Data) ObjectError
needed_way m place = way_from m (unless_null (at m place))

-- ---- members that may be absent: null is of the wrong type

-- also on the way to a member that may be absent
abbrev pub some_object_at : Member → Option Data → Result (Option Data) ObjectError
some_object_at m place = way_from m (at m place)

-- the text of a value, or the other text where the value is absent
abbrev pub text_from : Member → List ℕ → Option Data → Result (List ℕ) ObjectError
text_from m other None = Ok other
text_from m other (Some d) = as_text m d

-- the text of a member, or the other text where it is absent
abbrev pub text_or : Member → List ℕ → Option Data → Result (List ℕ) ObjectError
text_or m other place = text_from m other (at m place)

-- the text of a value that may be absent
abbrev pub optional_from : Member → Option Data → Result (Option (List ℕ)) ObjectError
optional_from m None = Ok None
optional_from m (Some d) = as_text m d >>= λ s. Ok (Some s)

-- the text of a member that may be absent
abbrev pub optional_text : Member → Option Data → Result (Option (List ℕ)) ObjectError
optional_text m place = optional_from m (at m place)

-- the items of a value that may be absent
abbrev pub optional_items_from : Member → Option Data → Result (Option Items) ObjectError
optional_items_from m None = Ok None
optional_items_from m (Some d) = as_items m d >>= λ ds. Ok (Some ds)

-- the items of a member that may be absent
abbrev pub optional_items : Member → Option Data → Result (Option Items) ObjectError
optional_items m place = optional_items_from m (at m place)

-- ---- lists and maps of texts

-- the texts of items, behind those that were found; an item that is no text is of the wrong type
abbrev pub texts_from : Member → Items → List (List ℕ) → Result (List (List ℕ)) ObjectError
texts_from m no_items found = Ok found
texts_from m (item d ds) found = as_text m d >>= λ s. texts_from m ds (found ++ s ∷ [])

-- the texts of items that may be absent; none where they are
abbrev pub texts_or_none : Member → Option Items → Result (List (List ℕ)) ObjectError
texts_or_none m None = Ok []
texts_or_none m (Some ds) = texts_from m ds []

-- the texts of a member that is an array; none where it is absent
abbrev pub texts_at : Member → Option Data → Result (List (List ℕ)) ObjectError
texts_at m place = optional_items m place >>= λ o. texts_or_none m o

-- the texts of members by their names, over the pairs that were found
abbrev pub pairs_from : Member → Members → List Pair → Result (List Pair) ObjectError
pairs_from m no_members found = Ok found
pairs_from m (member k d ms) found = as_text m d >>= λ s. pairs_from m ms (put_pair k s found)

-- the texts of an object's members by their names; another value is of the wrong type
abbrev pub pairs_in : Member → Data → Result (List Pair) ObjectError
pairs_in m null = Err (WrongType m)
pairs_in m (boolean b) = Err (WrongType m)
pairs_in m (number n) = Err (WrongType m)
pairs_in m (string s) = Err (WrongType m)
pairs_in m (array ds) = Err (WrongType m)
pairs_in m (object ms) = pairs_from m ms []

-- the same of a value that may be absent; no pairs where it is
abbrev pub pairs_or_none : Member → Option Data → Result (List Pair) ObjectError
pairs_or_none m None = Ok []
pairs_or_none m (Some d) = pairs_in m d

-- the pairs of a member, as labels and annotations; none where it is absent
abbrev pub pairs_at : Member → Option Data → Result (List Pair) ObjectError
pairs_at m place = pairs_or_none m (at m place)

-- ---- texts of a form

-- the UID that was read, or that the member is of the wrong type
abbrev pub uid_from : Member → Option Uid → Result Uid ObjectError
uid_from m None = Err (WrongType m)
uid_from m (Some u) = Ok u

-- RFC 9562: a UUID
abbrev pub uid_named : Member → List ℕ → Result Uid ObjectError
uid_named m s = uid_from m (uid_of_text s)

-- the UID of a text that may be absent
abbrev pub uid_or_none : Member → Option (List ℕ) → Result (Option Uid) ObjectError
uid_or_none m None = Ok None
uid_or_none m (Some s) = uid_named m s >>= λ u. Ok (Some u)

-- the UID of a member that may be absent
abbrev pub uid_at : Member → Option Data → Result (Option Uid) ObjectError
uid_at m place = optional_text m place >>= λ o. uid_or_none m o

-- a moment as RFC 3339 writes it to the second, in 20 bytes
abbrev pub stamp_named : Member → List ℕ → Result (List ℕ) ObjectError
stamp_named m s = if length s == 20 then Ok s else Err (WrongType m)

-- the timestamp of a value that may be absent
abbrev pub stamp_from : Member → Option Data → Result (Option (List ℕ)) ObjectError
stamp_from m None = Ok None
stamp_from m (Some d) = as_text m d >>= λ s. stamp_named m s >>= λ t. Ok (Some t)

-- here null is as absent
abbrev pub stamp_at : Member → Option Data → Result (Option (List ℕ)) ObjectError
stamp_at m place = stamp_from m (unless_null (at m place))

-- the timestamp of a member; the empty text where it is absent
abbrev pub stamp_or_empty : Member → Option Data → Result (List ℕ) ObjectError
stamp_or_empty m place = stamp_at m place >>= λ o. Ok (unwrap_or o [])

-- one or more decimal digits, of a number up to 2^62
abbrev pub is_version : List ℕ → Bool
is_version s = nat_le 1 (length s) && list_all is_ascii_digit s && nat_le (digits_value 10 s) (2 ^ 62)

-- the resourceVersion of a text of digits; another text is of the wrong type
abbrev pub version_named : Member → List ℕ → Result ℕ ObjectError
version_named m s = if is_version s then Ok (digits_value 10 s) else Err (WrongType m)

-- the resourceVersion of a member; 0 where it is absent
abbrev pub version_at : Member → Option Data → Result ℕ ObjectError
version_at m place = text_or m (codes "0") place >>= λ s. version_named m s
