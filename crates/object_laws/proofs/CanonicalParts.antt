-- The parts of printed objects are canonical, and nest no deeper than is said.
use Rattle.std.proofs.Common.{ℕ, suc, List, [], ◌∷◌, ◌++◌, Bool, true, false, ◌==◌, Option, Some, None, if◌then◌else◌, decimal, codes, option_map}
use Rattle.serde_json.specs.Data.{Data, string, Members, no_members, member}
use Rattle.json_text.specs.Build.{put_some, Good, GoodItems, GoodMembers, GoodOption, GoodPairs}
use Rattle.json_text.proofs.Good.{good_none, good_put_some, good_object, good_object_of, good_string, good_item, good_items, good_array}
use Rattle.plain_data.specs.Pairs.{Pair}
use Rattle.kube_parts.specs.Words.{mode_words}
use Rattle.kube_parts.specs.declared.uid.Uid.{Uid}
use Rattle.kube_parts.specs.declared.parts.SourceKind.{SourceKind}
use Rattle.kube_parts.specs.declared.parts.SourceKind.TheVariants.{Csi, Nfs, Local, HostPath}
use Rattle.kube_objects.specs.declared.objects.Meta.{Meta}
use Rattle.json_text.specs.Members.{text, filled, counted, items_data, array_data, filled_array, put_pairs, filled_pairs, filled_object, within}
use Rattle.object_print.specs.Metadata.{uid_data, filled_or_always, front_pairs, back_pairs, meta_data}
use Rattle.object_print.specs.Parts.{
  modes_data,
  storage_pairs,
  storage_data,
  requests_data,
  ref_pairs,
  ref_data,
  source_pairs,
  source_data,
  expr_pairs,
  expr_data,
  term_pairs,
  term_data,
  node_terms_data,
  selector_pairs,
  selector_data,
}

-- each value is good
abbrev pub AllGood : {X : Type 0} → ℕ → (X → Data) → Type 0
AllGood {X = X} n data_of = (x : X) → Good n (data_of x)

-- ---- the printing words

pub good_filled : (n : ℕ) (s : List ℕ) → GoodOption n (filled s)
good_filled n [] = tt
good_filled n (x ∷ xs) = good_string

good_counted : (n v : ℕ) → GoodOption n (counted v)
good_counted n v = by (v == 0)
  where
    by : (b : Bool) → GoodOption n (if b then None else text (decimal v))
    by true = tt
    by false = good_string

pub good_option : {X : Type 0} (n : ℕ) (data_of : X → Data) (o : Option X) → AllGood n data_of → GoodOption n (option_map data_of o)
good_option n data_of None h = tt
good_option n data_of (Some x) h = h x

pub good_texts : (n : ℕ) → AllGood n string
good_texts n s = good_string

good_items_data : {X : Type 0} (n : ℕ) (data_of : X → Data) (xs : List X) → AllGood n data_of → GoodItems n (items_data data_of xs)
good_items_data n data_of [] h = good_items
good_items_data n data_of (x ∷ xs) h = good_item (h x) (good_items_data n data_of xs h)

good_array_data : {X : Type 0} (n : ℕ) (data_of : X → Data) (xs : List X) → AllGood n data_of → Good (suc n) (array_data data_of xs)
good_array_data n data_of xs h = good_array (good_items_data n data_of xs h)

pub good_filled_array : {X : Type 0} (n : ℕ) (data_of : X → Data) (xs : List X) → AllGood n data_of → GoodOption (suc n) (filled_array data_of xs)
good_filled_array n data_of [] h = tt
good_filled_array n data_of (x ∷ xs) h = good_array_data n data_of (x ∷ xs) h

good_put_pairs : (n : ℕ) (ps : List Pair) (ms : Members) → GoodMembers n ms → GoodMembers n (put_pairs ps ms)
good_put_pairs n [] ms h = h
good_put_pairs n (p ∷ ps) ms h = good_put_pairs n ps (put_some p.0 (text p.1) ms) (good_put_some p.0 (text p.1) good_string h)

pub good_filled_pairs : (n : ℕ) (ps : List Pair) → GoodOption (suc n) (filled_pairs ps)
good_filled_pairs n [] = tt
good_filled_pairs n (p ∷ ps) = good_object (good_put_pairs n (p ∷ ps) no_members good_none)

pub good_filled_object : (n : ℕ) (ms : Members) → GoodMembers n ms → GoodOption (suc n) (filled_object ms)
good_filled_object n no_members h = tt
good_filled_object n (member k d ms) h = good_object h

good_within : (n : ℕ) (k : List ℕ) (d : Data) → Good n d → Good (suc n) (within k d)
good_within n k d h = good_object_of n ((k, Some d) ∷ []) (h, tt)

-- ---- metadata

good_uid : (n : ℕ) → AllGood n uid_data
good_uid n u = good_string

pub good_some_uid : (n : ℕ) (uid : Option Uid) → GoodOption n (option_map uid_data uid)
good_some_uid n uid = good_option n uid_data uid (good_uid n)

good_namespace : (n : ℕ) (b : Bool) (s : List ℕ) → GoodOption n (filled_or_always b s)
good_namespace n true s = good_string
good_namespace n false s = good_filled n s

pub good_meta : (n : ℕ) (b : Bool) (m : Meta) → Good (suc (suc n)) (meta_data b m)
unfolding meta_data
good_meta n b m =
    good_object_of (suc n) (front_pairs m ++ back_pairs b m) (
      good_filled_pairs n m.annotations,
      (
        good_filled (suc n) m.created,
        (
          good_option (suc n) string m.deleted (good_texts (suc n)),
          (
            good_filled_array n string m.finalizers (good_texts n),
            (good_filled_pairs n m.labels, (good_string, (good_namespace (suc n) b m.namespace, (good_counted (suc n) m.version, (good_some_uid (suc n) m.uid, tt))))),
          ),
        ),
      ),
    )

-- ---- parts

pub good_modes : (n : ℕ) → AllGood (suc n) modes_data
unfolding modes_data
good_modes n m = good_array_data n string (mode_words m) (good_texts n)

pub good_storage : (n : ℕ) → AllGood (suc n) storage_data
unfolding storage_data
good_storage n a = good_object_of n (storage_pairs a) (good_string, tt)

pub good_requests : (n : ℕ) → AllGood (suc (suc n)) requests_data
unfolding requests_data
good_requests n a = good_within (suc n) (codes "requests") (storage_data a) (good_storage n a)

pub good_ref : (n : ℕ) → AllGood (suc n) ref_data
unfolding ref_data
good_ref n r = good_object_of n (ref_pairs r) (good_string, (good_string, (good_some_uid n r.uid, tt)))

good_source_pairs : (n : ℕ) (kind : SourceKind) (first second : List ℕ) → GoodPairs n (source_pairs kind first second)
good_source_pairs n Csi first second = (good_string, (good_string, tt))
good_source_pairs n Nfs first second = (good_string, (good_string, tt))
good_source_pairs n Local first second = (good_string, tt)
good_source_pairs n HostPath first second = (good_string, tt)

pub good_source : (n : ℕ) → AllGood (suc n) source_data
unfolding source_data
good_source n s = good_object_of n (source_pairs s.kind s.first s.second) (good_source_pairs n s.kind s.first s.second)

good_expr : (n : ℕ) → AllGood (suc (suc n)) expr_data
unfolding expr_data
good_expr n e = good_object_of (suc n) (expr_pairs e) (good_string, (good_string, (good_filled_array n string e.values (good_texts n), tt)))

good_term : (n : ℕ) → AllGood (suc (suc (suc (suc n)))) term_data
unfolding term_data
good_term n es = good_object_of (suc (suc (suc n))) (term_pairs es) (good_filled_array (suc (suc n)) expr_data es (good_expr n), tt)

pub good_node_terms : (n : ℕ) → AllGood (suc (suc (suc (suc (suc (suc (suc n))))))) node_terms_data
unfolding node_terms_data
good_node_terms n t = good_within _ _ _ (good_within _ _ _ (good_array_data _ term_data t.terms (good_term n)))

pub good_selector : (n : ℕ) → AllGood (suc (suc (suc (suc n)))) selector_data
unfolding selector_data
good_selector n s = good_object_of (suc (suc (suc n))) (selector_pairs s) (good_filled_array (suc (suc n)) expr_data s.exprs (good_expr n), (good_filled_pairs (suc (suc n)) s.labels, tt))
