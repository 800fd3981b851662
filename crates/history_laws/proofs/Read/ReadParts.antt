-- What the members of a line that was read give is what a text can give.
use Rattle.std.proofs.Common.{◌≡◌, ℕ, ◌++◌, List, [], ◌∷◌, Option, Some, None, IfSome, Result, Ok, Err, IfOk, codes, refl, subst, arith}
use Rattle.std.specs.List.{All}
use Rattle.std.proofs.lemmas.List.Elements.{All-nil, All-cons, All-append}
use Rattle.serde_json.specs.Data.{Data, null, boolean, number, string, array, object, unsigned, negative, float, Items, no_items, item, no_members}
use Rattle.serde_json.specs.Find.{get, get_member}
use Rattle.serde_json.proofs.Nesting.{depth-read}
use Rattle.json_text.specs.Look.{text_in, whole_in}
use Rattle.json_text.specs.Members.{MemberList, object_of as object_with}
use Rattle.json_text.proofs.Good.{good_read}
use Rattle.json_text.proofs.PutAll.{get-put_all}
use Rattle.json_text.proofs.ReadValues.{canonical-read}
use Rattle.quantity_text.specs.declared.errors.AmountError.{AmountError}
use Rattle.quantity_text.specs.Quantity.{amount_of}
use Rattle.plain_data.specs.Pairs.{ArePairs}
use Rattle.kube_parts.specs.Uids.{uid_of_text}
use Rattle.kube_parts.proofs.UidFits.{uid_fits}
use Rattle.object_text.specs.declared.errors.ObjectError.{ObjectError}
use Rattle.object_text.specs.declared.errors.Member.TheVariants as members
use Rattle.object_text.specs.MemberReaders.{pairs_in, pairs_or_none}
use Rattle.object_text.specs.PartReaders.{quantity_text, amount_from, amount_in}
use Rattle.object_text.specs.Reading.{object_of}
use Rattle.object_laws.specs.Given.{IsGivenObject, IsAmount, IsUid}
use Rattle.object_laws.proofs.GivesParts.{past as then_past, pairs_given}
use Rattle.object_laws.proofs.Gives.{IsSound, sound_given}
use Rattle.object_laws.proofs.PartsRead.{IsTaken, AreTaken, HasTakenParts, taken_reads, taken_parts, taken_member}
use Rattle.history_lines.specs.Answers.{◌>>=◌, taken}
use Rattle.history_lines.specs.Members.{
  Look,
  look_in,
  number_in,
  number_at,
  some_number_from,
  some_number_at,
  uid_in,
  uid_at,
  some_uid_from,
  some_uid_at,
  quantity_in,
  some_amount_from,
  some_amount_at,
  object_in,
  object_at,
  items_from,
  list_in,
  list_at,
  some_list_from,
  some_list_at,
  some_labels_from,
  some_labels_at,
}
use Rattle.history_laws.specs.Read.Given.{IsNumber}

-- ---- steps of a reader

-- the next step, after a value of which the fact holds
pub step : {A B : Type 0} (P : A → Type 0) (Q : B → Type 0) (o : Option A) (f : A → Option B) → IfSome o P → ((a : A) → P a → IfSome (f a) Q) → IfSome (o >>= f) Q
step P Q None f h k = tt
step P Q (Some a) f h k = k a h

-- the next step, whatever the value
pub past : {A B : Type 0} (Q : B → Type 0) (o : Option A) (f : A → Option B) → ((a : A) → IfSome (f a) Q) → IfSome (o >>= f) Q
past Q None f k = tt
past Q (Some a) f k = k a

of_taken : {X : Type 0} (P : X → Type 0) (r : Result X ObjectError) → IfOk r P → IfSome (taken r) P
of_taken P (Ok x) h = h
of_taken P (Err e) h = tt

-- ---- values that stand in a line

-- it stands in a value that was read
abbrev pub IsRead : Data → Type 0
IsRead d = IsTaken 127 d

abbrev pub AllRead : Look → Type 0
AllRead m = (k : List ℕ) → IfSome (m k) IsRead

weaker : (d : Data) → IsTaken 126 d → IsRead d
weaker d t = record { source = t.source; numbers = t.numbers; shallow = omega (arith, t.shallow); value = t.value }

some_weaker : (o : Option Data) → IfSome o (IsTaken 126) → IfSome o IsRead
some_weaker None t = tt
some_weaker (Some d) t = weaker d t

pub looks : (d : Data) → IsRead d → AllRead (look_in d)
looks d t k = by d (taken_parts 126 d t)
  where
    by : (e : Data) → HasTakenParts 126 e → IfSome (get k e) IsRead
    by null h = tt
    by (boolean b) h = tt
    by (number n) h = tt
    by (string s) h = tt
    by (array ds) h = tt
    by (object ms) h = some_weaker (get_member k ms) (taken_member 126 k ms h)

sound : (d : Data) → IsRead d → IsSound d
sound d t none = let own = taken_reads 127 d (omega arith) t in good_read d (canonical-read own.0 d own.1 none) (depth-read own.0 d own.1)

-- ---- numbers

number_given : (o : Option Data) → IfSome o IsRead → IfSome (whole_in o) IsNumber
number_given None t = tt
number_given (Some null) t = tt
number_given (Some (boolean b)) t = tt
number_given (Some (number (unsigned n))) t = let good = sound (number (unsigned n)) t refl in good.canonical
number_given (Some (number (negative z))) t = tt
number_given (Some (number (float x))) t = tt
number_given (Some (string s)) t = tt
number_given (Some (array ds)) t = tt
number_given (Some (object ms)) t = tt

pub number_in_given : (d : Data) → IsRead d → IfSome (number_in d) IsNumber
number_in_given d t = number_given (Some d) t

pub number_at_given : (k : List ℕ) (m : Look) → AllRead m → IfSome (number_at k m) IsNumber
number_at_given k m all = number_given (m k) (all k)

abbrev pub IsSomeNumber : Option ℕ → Type 0
IsSomeNumber o = IfSome o IsNumber

pub some_number_given : (k : List ℕ) (m : Look) → AllRead m → IfSome (some_number_at k m) IsSomeNumber
some_number_given k m all = by (m k) (all k)
  where
    by : (o : Option Data) → IfSome o IsRead → IfSome (some_number_from o) IsSomeNumber
    by None t = tt
    by (Some d) t = step IsNumber IsSomeNumber (number_in d) (λ n. Some (Some n)) (number_in_given d t) (λ n is. is)

-- ---- ids and amounts

pub uid_in_given : (d : Data) → IfSome (uid_in d) IsUid
uid_in_given d = past IsUid (text_in (Some d)) uid_of_text (λ s. uid_fits s)

pub uid_at_given : (k : List ℕ) (m : Look) → IfSome (uid_at k m) IsUid
uid_at_given k m = past IsUid (m k) uid_in uid_in_given

pub some_uid_given : (k : List ℕ) (m : Look) → IfSome (some_uid_at k m) (λ u. IfSome u IsUid)
some_uid_given k m = by (m k)
  where
    by : (o : Option Data) → IfSome (some_uid_from o) (λ u. IfSome u IsUid)
    by None = tt
    by (Some d) = step IsUid (λ u. IfSome u IsUid) (uid_in d) (λ u. Some (Some u)) (uid_in_given d) (λ u is. is)

amount_given : (d : Data) → IfOk (amount_in members.Storage d) IsAmount
amount_given d = then_past IsAmount (quantity_text members.Storage d) _ (λ s. from s (amount_of s) refl)
  where
    from : (s : List ℕ) (r : Result ℕ AmountError) → amount_of s ≡ r → IfOk (amount_from members.Storage s r) IsAmount
    from s (Ok n) e = e
    from s (Err x) e = tt

pub some_amount_given : (k : List ℕ) (m : Look) → IfSome (some_amount_at k m) (λ a. IfSome a IsAmount)
some_amount_given k m = by (m k)
  where
    by : (o : Option Data) → IfSome (some_amount_from o) (λ a. IfSome a IsAmount)
    by None = tt
    by (Some d) = step IsAmount (λ a. IfSome a IsAmount) (quantity_in d) (λ a. Some (Some a)) (of_taken IsAmount (amount_in members.Storage d) (amount_given d)) (λ a is. is)

-- ---- objects, lists and maps

pub object_in_given : (d : Data) → IsRead d → IfSome (object_in d) IsGivenObject
object_in_given d t = of_taken IsGivenObject (object_of d) (sound_given d (sound d t))

pub object_at_given : (k : List ℕ) (m : Look) → AllRead m → IfSome (object_at k m) IsGivenObject
object_at_given k m all = step IsRead IsGivenObject (m k) object_in (all k) object_in_given

items_given : {X : Type 0} (read : Data → Option X) (P : X → Type 0) → ((d : Data) → IsRead d → IfSome (read d) P) → (ds : Items) → AreTaken 126 ds
    → (found : List X) → All P found → IfSome (items_from read ds found) (All P)
items_given read P each no_items t found h = h
items_given read P each (item d ds) t found h =
    step P (All P) (read d) (λ x. items_from read ds (found ++ x ∷ [])) (each d (weaker d t.0))
    (λ x is. items_given read P each ds t.1 (found ++ x ∷ []) (All-append P found (x ∷ []) h (All-cons P x [] is (All-nil P))))

list_given : {X : Type 0} (read : Data → Option X) (P : X → Type 0) → ((d : Data) → IsRead d → IfSome (read d) P) → (o : Option Data) → IfSome o IsRead → IfSome (list_in read o) (All P)
list_given read P each None t = tt
list_given read P each (Some null) t = tt
list_given read P each (Some (boolean b)) t = tt
list_given read P each (Some (number n)) t = tt
list_given read P each (Some (string s)) t = tt
list_given read P each (Some (array ds)) t = items_given read P each ds (taken_parts 126 (array ds) t) [] (All-nil P)
list_given read P each (Some (object ms)) t = tt

pub list_at_given : {X : Type 0} (read : Data → Option X) (P : X → Type 0) → ((d : Data) → IsRead d → IfSome (read d) P) → (k : List ℕ) (m : Look) → AllRead m → IfSome (list_at read k m) (All P)
list_at_given read P each k m all = list_given read P each (m k) (all k)

pub some_list_given : {X : Type 0} (read : Data → Option X) (P : X → Type 0) → ((d : Data) → IsRead d → IfSome (read d) P) → (k : List ℕ) (m : Look)
    → AllRead m → IfSome (some_list_at read k m) (All P)
some_list_given {X = X} read P each k m all = by (m k) (all k)
  where
    by : (o : Option Data) → IfSome o IsRead → IfSome (some_list_from read o) (All P)
    by None t = All-nil P
    by (Some d) t = list_given read P each (Some d) t

labels_given : (d : Data) → IfOk (pairs_in members.Labels d) ArePairs
labels_given d =
    let place : MemberList = (codes "labels", Some d) ∷ [] in
    let stands = get-put_all (codes "labels") place no_members in
    subst (λ (o : Option Data). IfOk (pairs_or_none members.Labels o) ArePairs) stands (pairs_given members.Labels (Some (object_with place)))

pub some_labels_given : (m : Look) → IfSome (some_labels_at m) (λ l. IfSome l ArePairs)
some_labels_given m = by (m (codes "labels"))
  where
    by : (o : Option Data) → IfSome (some_labels_from o) (λ l. IfSome l ArePairs)
    by None = tt
    by (Some d) = step ArePairs (λ l. IfSome l ArePairs) (taken (pairs_in members.Labels d)) (λ ps. Some (Some ps)) (of_taken ArePairs (pairs_in members.Labels d) (labels_given d)) (λ ps is. is)
