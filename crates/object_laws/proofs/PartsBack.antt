-- What is printed of texts, lists of texts, pairs, ids, amounts, modes and expressions is read again.
use Rattle.std.proofs.Common.{◌≡◌, ℕ, List, [], ◌∷◌, ◌++◌, Bool, true, false, Option, Some, None, Ok, Less, refl, sym, ap, ◌∙◌, append-nil, append_assoc}
use Rattle.std.specs.Prelude.{IfSome, option_map}
use Rattle.std.specs.declared.result.Result.{Result}
use Rattle.serde_json.specs.Data.{Data, string, object, Members, no_members, member}
use Rattle.json_text.specs.Canonical.{IsBefore}
use Rattle.json_text.specs.Look.{unless_null}
use Rattle.json_text.specs.Build.{put_some, pick}
use Rattle.json_text.proofs.ReadBack.{join, join-nil, join-one, Parted, parted_more, parted_none, put-join}
use Rattle.json_text.proofs.PutAll.{get-put_all}
use Rattle.plain_data.specs.Pairs.{Pair, ArePairs, put_pair, text_cmp, pair_key}
use Rattle.plain_data.specs.Rows.{IsAfter}
use Rattle.kube_parts.specs.declared.uid.Uid.{Uid}
use Rattle.kube_parts.specs.declared.parts.Modes.{Modes}
use Rattle.kube_parts.specs.declared.parts.Op.{Op}
use Rattle.kube_objects.specs.declared.objects.Amount.{Amount}
use Rattle.kube_objects.specs.declared.objects.Expr.{Expr}
use Rattle.kube_parts.specs.Words.{op_word, volume_mode, mode_words}
use Rattle.kube_parts.specs.Named.{block_named, op_named}
use Rattle.kube_parts.proofs.NamedWords.{blocks_inverse, ops_inverse}
use Rattle.kube_parts.proofs.UidTexts.{reads_back}
use Rattle.json_text.specs.Members.{MemberList, filled, filled_array, items_data, put_pairs, filled_pairs, object_of}
use Rattle.object_print.specs.Metadata.{uid_data}
use Rattle.object_print.specs.Parts.{modes_data, expr_pairs, expr_data}
use Rattle.object_text.specs.declared.errors.Member.{Member}
use Rattle.object_text.specs.declared.errors.Member.TheVariants as members
use Rattle.object_text.specs.declared.errors.ObjectError.{ObjectError}
use Rattle.object_text.specs.Answers.{◌>>=◌}
use Rattle.object_text.specs.MemberWords.{member_word}
use Rattle.object_text.specs.MemberReaders.{
  at,
  as_text,
  as_items,
  needed_from,
  needed_text,
  needed_way,
  way_from,
  some_object_at,
  text_from,
  text_or,
  optional_from,
  optional_text,
  optional_items_from,
  texts_from,
  texts_or_none,
  texts_at,
  pairs_from,
  pairs_or_none,
  pairs_at,
  uid_from,
  uid_or_none,
  uid_at,
}
use Rattle.object_text.specs.PartReaders.{amount_from, amount_in, quantity_at, no_modes, modes_from, modes_at, known, block_at, op_at, expr_of, exprs_from, exprs_or_none, exprs_at}
use Rattle.object_laws.specs.Given.{IsUid, IsAmount}

-- the next step goes on with the value
pub next : {A B : Type 0} {r : Result A ObjectError} {a : A} (f : A → Result B ObjectError) → r ≡ Ok a → (r >>= f) ≡ f a
next f h = ap (λ r. r >>= f) h

-- a member of an object that is printed from a list
pub object_has : (m : Member) (ps : MemberList) → at m (Some (object_of ps)) ≡ pick (member_word m) ps None
object_has m ps = get-put_all (member_word m) ps no_members

-- ---- texts

pub text_back : (m : Member) (place : Option Data) (s : List ℕ) → at m place ≡ filled s → text_or m [] place ≡ Ok s
text_back m place s h = ap (text_from m []) h ∙ by s
  where
    by : (t : List ℕ) → text_from m [] (filled t) ≡ Ok t
    by [] = refl
    by (x ∷ xs) = refl

-- a text that always stands, whatever would stand for it
pub shown_text_back : (m : Member) (other : List ℕ) (place : Option Data) (s : List ℕ) → at m place ≡ Some (string s) → text_or m other place ≡ Ok s
shown_text_back m other place s h = ap (text_from m other) h

pub optional_text_back : (m : Member) (place : Option Data) (o : Option (List ℕ)) → at m place ≡ option_map string o → optional_text m place ≡ Ok o
optional_text_back m place o h = ap (optional_from m) h ∙ by o
  where
    by : (p : Option (List ℕ)) → optional_from m (option_map string p) ≡ Ok p
    by None = refl
    by (Some s) = refl

pub needed_text_back : (m : Member) (place : Option Data) (s : List ℕ) → at m place ≡ Some (string s) → needed_text m place ≡ Ok s
needed_text_back m place s h = ap (λ p. needed_from m (unless_null p) >>= λ d. as_text m d) h

-- ---- objects on the way

pub needed_way_back : (m : Member) (place : Option Data) (ms : Members) → at m place ≡ Some (object ms) → needed_way m place ≡ Ok (Some (object ms))
needed_way_back m place ms h = ap (λ p. way_from m (unless_null p)) h

pub object_at_back : (m : Member) (place : Option Data) (ms : Members) → at m place ≡ Some (object ms) → some_object_at m place ≡ Ok (Some (object ms))
object_at_back m place ms h = ap (way_from m) h

-- ---- lists of texts

texts_items : (m : Member) (ss found : List (List ℕ)) → texts_from m (items_data string ss) found ≡ Ok (found ++ ss)
texts_items m [] found = ap Ok (sym (append-nil found))
texts_items m (s ∷ ss) found = texts_items m ss (found ++ s ∷ []) ∙ ap Ok (append_assoc found (s ∷ []) ss)

pub texts_back : (m : Member) (place : Option Data) (ss : List (List ℕ)) → at m place ≡ filled_array string ss → texts_at m place ≡ Ok ss
texts_back m place ss h = ap (λ p. optional_items_from m p >>= λ o. texts_or_none m o) h ∙ by ss
  where
    by : (ts : List (List ℕ)) → (optional_items_from m (filled_array string ts) >>= λ o. texts_or_none m o) ≡ Ok ts
    by [] = refl
    by (t ∷ ts) = texts_items m (t ∷ ts) []

-- ---- pairs

-- the members of pairs in their order
abbrev members_of : List Pair → Members
members_of [] = no_members
members_of (p ∷ ps) = member p.0 (string p.1) (members_of ps)

before_members : (p : Pair) (ps : List Pair) → IsAfter text_cmp pair_key p ps → IsBefore p.0 (members_of ps)
before_members p [] h = tt
before_members p (q ∷ ps) h = (h.0, before_members p ps h.1)

put_pairs_join : (ps : List Pair) (done : Members) → ArePairs ps → Parted done (members_of ps) → put_pairs ps done ≡ join done (members_of ps)
unfolding Parted put_some
put_pairs_join [] done rising h = sym (join-nil done)
put_pairs_join (p ∷ ps) done rising h =
    ap (put_pairs ps) (put-join done p.0 (string p.1) h.0)
    ∙ put_pairs_join ps (join done (member p.0 (string p.1) no_members)) rising.1 (parted_more (members_of ps) done p.0 (string p.1) (before_members p ps rising.0) h.1)
    ∙ join-one done p.0 (string p.1) (members_of ps)

-- where the pairs rise they are the members in that order
put_pairs_members : (ps : List Pair) → ArePairs ps → put_pairs ps no_members ≡ members_of ps
unfolding join
put_pairs_members ps rising = put_pairs_join ps no_members rising (parted_none (members_of ps))

-- the key comes after all of these
ComesAfter : List Pair → List ℕ → Type 0
ComesAfter [] k = Unit {0}
ComesAfter (p ∷ ps) k = (text_cmp p.0 k ≡ Less) × ComesAfter ps k

Apart : List Pair → List Pair → Type 0
Apart found [] = Unit {0}
Apart found (p ∷ ps) = ComesAfter found p.0 × Apart found ps

put_pair_last : (ps : List Pair) (p : Pair) → ComesAfter ps p.0 → put_pair p.0 p.1 ps ≡ ps ++ p ∷ []
unfolding ComesAfter
put_pair_last [] p h = refl
put_pair_last (q ∷ ps) p h = rw h.0 (ap (λ l. q ∷ l) (put_pair_last ps p h.1))

after_more : (found : List Pair) (p : Pair) (k : List ℕ) → ComesAfter found k → text_cmp p.0 k ≡ Less → ComesAfter (found ++ p ∷ []) k
unfolding ComesAfter
after_more [] p k h less = (less, tt)
after_more (q ∷ found) p k h less = (h.0, after_more found p k h.1 less)

apart_more : (found ps : List Pair) (p : Pair) → Apart found ps → IsAfter text_cmp pair_key p ps → Apart (found ++ p ∷ []) ps
unfolding Apart
apart_more found [] p a h = tt
apart_more found (q ∷ ps) p a h = (after_more found p q.0 a.0 h.0, apart_more found ps p a.1 h.1)

apart_none : (ps : List Pair) → Apart [] ps
unfolding Apart ComesAfter
apart_none [] = tt
apart_none (p ∷ ps) = (tt, apart_none ps)

pairs_members : (m : Member) (ps found : List Pair) → ArePairs ps → Apart found ps → pairs_from m (members_of ps) found ≡ Ok (found ++ ps)
unfolding Apart
pairs_members m [] found rising apart = ap Ok (sym (append-nil found))
pairs_members m (p ∷ ps) found rising apart =
    ap (pairs_from m (members_of ps)) (put_pair_last found p apart.0)
    ∙ pairs_members m ps (found ++ p ∷ []) rising.1 (apart_more found ps p apart.1 rising.0)
    ∙ ap Ok (append_assoc found (p ∷ []) ps)

pub pairs_back : (m : Member) (place : Option Data) (ps : List Pair) → ArePairs ps → at m place ≡ filled_pairs ps → pairs_at m place ≡ Ok ps
pairs_back m place ps rising h = ap (pairs_or_none m) h ∙ by ps rising
  where
    by : (qs : List Pair) → ArePairs qs → pairs_or_none m (filled_pairs qs) ≡ Ok qs
    by [] r = refl
    by (q ∷ qs) r = ap (λ ms. pairs_from m ms []) (put_pairs_members (q ∷ qs) r) ∙ pairs_members m (q ∷ qs) [] r (apart_none (q ∷ qs))

-- ---- ids and amounts

pub uid_back : (m : Member) (place : Option Data) (o : Option Uid) → IfSome o IsUid → at m place ≡ option_map uid_data o → uid_at m place ≡ Ok o
uid_back m place o is h = ap (λ p. optional_from m p >>= λ s. uid_or_none m s) h ∙ by o is
  where
    by : (u : Option Uid) → IfSome u IsUid → (optional_from m (option_map uid_data u) >>= λ s. uid_or_none m s) ≡ Ok u
    by None bits = refl
    by (Some u) bits = ap (λ r. uid_from m r >>= λ v. Ok (Some v)) (reads_back u bits)

pub quantity_back : (m : Member) (place : Option Data) (a : Amount) → IsAmount a → at m place ≡ Some (string a.text) → quantity_at m place ≡ Ok a
unfolding quantity_at
quantity_back m place a is h = ap (λ p. needed_from m (unless_null p) >>= λ d. amount_in m d) h ∙ ap (amount_from m a.text) is

-- ---- modes

pub modes_items : (m : Modes) → modes_from (items_data string (mode_words m)) no_modes ≡ Ok m
modes_items m = by m.rwo m.rox m.rwx m.rwop
  where
    by : (a b c d : Bool) → modes_from (items_data string (mode_words (record { rwo = a; rox = b; rwx = c; rwop = d }))) no_modes ≡ Ok (record { rwo = a; rox = b; rwx = c; rwop = d })
    by false false false false = refl
    by false false false true = refl
    by false false true false = refl
    by false false true true = refl
    by false true false false = refl
    by false true false true = refl
    by false true true false = refl
    by false true true true = refl
    by true false false false = refl
    by true false false true = refl
    by true false true false = refl
    by true false true true = refl
    by true true false false = refl
    by true true false true = refl
    by true true true false = refl
    by true true true true = refl

pub modes_back : (place : Option Data) (m : Modes) → at members.AccessModes place ≡ Some (modes_data m) → modes_at place ≡ Ok m
unfolding modes_at modes_data
modes_back place m h =
    ap (λ p. (needed_from members.AccessModes (unless_null p) >>= λ d. as_items members.AccessModes d) >>= λ ds. modes_from ds no_modes) h ∙ modes_items m

pub block_back : (place : Option Data) (b : Bool) → at members.VolumeMode place ≡ Some (string (volume_mode b)) → block_at place ≡ Ok b
unfolding block_at
block_back place b h =
    next (λ s. known members.VolumeMode (block_named s)) (shown_text_back members.VolumeMode (volume_mode false) place (volume_mode b) h)
    ∙ ap (known members.VolumeMode) (blocks_inverse.back b)

-- ---- expressions

op_back : (place : Option Data) (op : Op) → at members.Operator place ≡ Some (string (op_word op)) → op_at place ≡ Ok op
unfolding op_at
op_back place op h =
    next (λ s. known members.Operator (op_named s)) (needed_text_back members.Operator place (op_word op) h)
    ∙ ap (known members.Operator) (ops_inverse.back op)

expr_back : (e : Expr) → expr_of (expr_data e) ≡ Ok e
unfolding expr_of expr_data
expr_back e =
    let place : Option Data = Some (object_of (expr_pairs e)) in
    rw (
      needed_text_back members.Key place e.key (object_has members.Key (expr_pairs e)),
      op_back place e.op (object_has members.Operator (expr_pairs e)),
      texts_back members.Values place e.values (object_has members.Values (expr_pairs e)),
    ) refl

exprs_items : (es found : List Expr) → exprs_from (items_data expr_data es) found ≡ Ok (found ++ es)
exprs_items [] found = ap Ok (sym (append-nil found))
exprs_items (e ∷ es) found = next (λ x. exprs_from (items_data expr_data es) (found ++ x ∷ [])) (expr_back e) ∙ exprs_items es (found ++ e ∷ []) ∙ ap Ok (append_assoc found (e ∷ []) es)

pub exprs_back : (place : Option Data) (es : List Expr) → at members.MatchExpressions place ≡ filled_array expr_data es → exprs_at place ≡ Ok es
unfolding exprs_at
exprs_back place es h = ap (λ p. optional_items_from members.MatchExpressions p >>= λ o. exprs_or_none o) h ∙ by es
  where
    by : (fs : List Expr) → (optional_items_from members.MatchExpressions (filled_array expr_data fs) >>= λ o. exprs_or_none o) ≡ Ok fs
    by [] = refl
    by (f ∷ fs) = exprs_items (f ∷ fs) []
