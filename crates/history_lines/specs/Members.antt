-- What the members of a value in a line give; nothing where one is absent or of another type.
-- A choice of this project: the history format.
use Rattle.std.specs.Prelude.{ℕ, List, [], ◌∷◌, ◌++◌, Bool, if◌then◌else◌, Option, Some, None, codes, is_some}
use Rattle.serde_json.specs.Data.{Data, Items, no_items, item}
use Rattle.serde_json.specs.Find.{get}
use Rattle.json_text.specs.Look.{text_in, whole_in, boolean_in, items_in}
use Rattle.plain_data.specs.Pairs.{Pair}
use Rattle.kube_parts.specs.Named.{kind_named}
use Rattle.kube_parts.specs.Uids.{uid_of_text}
use Rattle.kube_parts.specs.declared.parts.Kind.{Kind}
use Rattle.kube_parts.specs.declared.parts.Modes.{Modes}
use Rattle.kube_objects.specs.declared.key.Key.{Key}
use Rattle.kube_objects.specs.declared.objects.Amount.{Amount}
use Rattle.kube_objects.specs.declared.objects.DataId.{DataId}
use Rattle.kube_objects.specs.declared.objects.Object.{Object}
use Rattle.kube_parts.specs.declared.uid.Uid.{Uid}
use Rattle.object_text.specs.declared.errors.Member.TheVariants as members
use Rattle.object_text.specs.MemberReaders.{pairs_in}
use Rattle.object_text.specs.PartReaders.{amount_in, modes_from, no_modes}
use Rattle.object_text.specs.Reading.{object_of}
use Rattle.history_lines.specs.Answers.{◌>>=◌, taken}

-- the value of each member by its name
abbrev pub Look : Type 0
Look = List ℕ → Option Data

-- the members of an object
abbrev pub look_in : Data → Look
look_in d = λ k. get k d

-- the first of these whose member stands
abbrev pub standing : {X : Type 0} → (X → List ℕ) → List X → Look → Option X
standing word [] m = None
standing word (x ∷ xs) m = if is_some (m (word x)) then Some x else standing word xs m

-- ---- texts, numbers, booleans

-- a text that has to be there
abbrev pub text_at : List ℕ → Look → Option (List ℕ)
text_at k m = text_in (m k)

-- the empty one where it is absent
abbrev pub filled_from : Option Data → Option (List ℕ)
filled_from None = Some []
filled_from (Some d) = text_in (Some d)

-- a text, the empty one where the member is absent
abbrev pub filled_at : List ℕ → Look → Option (List ℕ)
filled_at k m = filled_from (m k)

-- the text of a value that may be absent
abbrev pub some_text_from : Option Data → Option (Option (List ℕ))
some_text_from None = Some None
some_text_from (Some d) = text_in (Some d) >>= λ s. Some (Some s)

-- a text that may be absent
abbrev pub some_text_at : List ℕ → Look → Option (Option (List ℕ))
some_text_at k m = some_text_from (m k)

-- a whole number of 64 bits that is not negative
abbrev pub number_in : Data → Option ℕ
number_in d = whole_in (Some d)

-- a number that has to be there
abbrev pub number_at : List ℕ → Look → Option ℕ
number_at k m = whole_in (m k)

-- the number of a value that may be absent
abbrev pub some_number_from : Option Data → Option (Option ℕ)
some_number_from None = Some None
some_number_from (Some d) = number_in d >>= λ n. Some (Some n)

-- a number that may be absent
abbrev pub some_number_at : List ℕ → Look → Option (Option ℕ)
some_number_at k m = some_number_from (m k)

-- true or false, which has to be there
abbrev pub flag_at : List ℕ → Look → Option Bool
flag_at k m = boolean_in (m k)

-- ---- ids and amounts

-- RFC 9562: a UUID
abbrev pub uid_in : Data → Option Uid
uid_in d = text_in (Some d) >>= λ s. uid_of_text s

-- a UID that has to be there
abbrev pub uid_at : List ℕ → Look → Option Uid
uid_at k m = m k >>= λ d. uid_in d

-- the UID of a value that may be absent
abbrev pub some_uid_from : Option Data → Option (Option Uid)
some_uid_from None = Some None
some_uid_from (Some d) = uid_in d >>= λ u. Some (Some u)

-- a UID that may be absent
abbrev pub some_uid_at : List ℕ → Look → Option (Option Uid)
some_uid_at k m = some_uid_from (m k)

-- the amount of a quantity
abbrev pub quantity_in : Data → Option Amount
quantity_in d = taken (amount_in members.Storage d)

-- the amount of a value that may be absent
abbrev pub some_amount_from : Option Data → Option (Option Amount)
some_amount_from None = Some None
some_amount_from (Some d) = quantity_in d >>= λ a. Some (Some a)

-- an amount that may be absent
abbrev pub some_amount_at : List ℕ → Look → Option (Option Amount)
some_amount_at k m = some_amount_from (m k)

-- ---- objects, lists and maps

-- the object of a manifest, whatever its length
abbrev pub object_in : Data → Option Object
object_in d = taken (object_of d)

-- an object that has to be there, by its manifest
abbrev pub object_at : List ℕ → Look → Option Object
object_at k m = m k >>= λ d. object_in d

-- what the items give, behind what was found
abbrev pub items_from : {X : Type 0} → (Data → Option X) → Items → List X → Option (List X)
items_from read no_items found = Some found
items_from read (item d ds) found = read d >>= λ x. items_from read ds (found ++ x ∷ [])

-- the values of a list's items, each read in its turn
abbrev pub list_in : {X : Type 0} → (Data → Option X) → Option Data → Option (List X)
list_in read o = items_in o >>= λ ds. items_from read ds []

-- what each item of an array gives
abbrev pub list_at : {X : Type 0} → (Data → Option X) → List ℕ → Look → Option (List X)
list_at read k m = list_in read (m k)

-- the same of a list that may be absent: then there are none
abbrev pub some_list_from : {X : Type 0} → (Data → Option X) → Option Data → Option (List X)
some_list_from read None = Some []
some_list_from read (Some d) = list_in read (Some d)

-- the same of an array that may be absent: nothing then
abbrev pub some_list_at : {X : Type 0} → (Data → Option X) → List ℕ → Look → Option (List X)
some_list_at read k m = some_list_from read (m k)

-- access modes that have to be there
abbrev pub modes_at : List ℕ → Look → Option Modes
modes_at k m = items_in (m k) >>= λ ds. taken (modes_from ds no_modes)

-- the labels of a value that may be absent
abbrev pub some_labels_from : Option Data → Option (Option (List Pair))
some_labels_from None = Some None
some_labels_from (Some d) = taken (pairs_in members.Labels d) >>= λ ps. Some (Some ps)

-- labels that may be absent
abbrev pub some_labels_at : Look → Option (Option (List Pair))
some_labels_at m = some_labels_from (m (codes "labels"))

-- ---- keys, ids of data, topologies

-- the kind of an object, by its word
abbrev pub kind_at : Look → Option Kind
kind_at m = text_at (codes "kind") m >>= λ s. kind_named s

-- a key without a namespace has the empty one
abbrev pub key_at : Look → Option Key
key_at m = do
  kind ← kind_at m
  namespace ← filled_at (codes "namespace") m
  name ← text_at (codes "name") m
  Some (record { kind = kind; namespace = namespace; name = name })

-- the driver and the handle by which a back end knows data
abbrev pub data_id_at : Look → Option DataId
data_id_at m = do
  driver ← text_at (codes "driver") m
  id ← text_at (codes "id") m
  Some (record { driver = driver; id = id })

-- a label and its value
abbrev pub topology_from : Option Data → Look → Option (Option (List ℕ × List ℕ))
topology_from None m = Some None
topology_from (Some d) m = text_in (Some d) >>= λ label. text_at (codes "value") m >>= λ value. Some (Some (label, value))

-- the label and the value of a topology; both or neither
abbrev pub some_topology_at : Look → Option (Option (List ℕ × List ℕ))
some_topology_at m = topology_from (m (codes "label")) m
