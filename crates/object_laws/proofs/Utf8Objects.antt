-- The line of an object whose texts are all UTF-8 is UTF-8.
use Rattle.std.proofs.Common.{◌≡◌, ℕ, ◌^◌, ◌≤◌, List, [], ◌∷◌, ◌++◌, Bool, true, false, ◌&&◌, ◌==◌, Option, Some, None, IfSome, if◌then◌else◌, decimal, codes, option_map, IsUtf8, inl, refl, arith}
use Rattle.std.specs.Bool.{⊤}
use Rattle.std.specs.Int.{to_be_bytes, w128}
use Rattle.std.specs.Str.{is_utf8}
use Rattle.std.proofs.lemmas.Str.{IsUtf8-from_ascii, is_utf8-from_IsUtf8}
use Rattle.std.proofs.lemmas.Bool.{and_parts}
use Rattle.std.proofs.lemmas.Fmt.{IsAscii-decimal}
use Rattle.json.proofs.Printed.Utf8.{are_ascii, IsUtf8-are_ascii}
use Rattle.serde_json.specs.Data.{Data, null, boolean, number, string, array, object, Members, no_members, member}
use Rattle.serde_json.specs.Read.{read}
use Rattle.serde_json.specs.Written.{has_float}
use Rattle.uuid.specs.Text.{lower}
use Rattle.uuid.proofs.TextLemmas.{hyphenated_ascii}
use Rattle.json_text.specs.Build.{put_some, put_all}
use Rattle.plain_data.specs.Pairs.{Pair}
use Rattle.kube_parts.specs.Uids.{uid_text}
use Rattle.kube_parts.specs.Words.{volume_mode, binding_mode, words_if, mode_words, policy_word, volume_phase_word, claim_phase_word, source_word, op_word}
use Rattle.kube_parts.specs.declared.uid.Uid.{Uid}
use Rattle.kube_parts.specs.declared.parts.Modes.{Modes}
use Rattle.kube_parts.specs.declared.parts.Policy.{Policy}
use Rattle.kube_parts.specs.declared.parts.Policy.TheVariants as policies
use Rattle.kube_parts.specs.declared.parts.VolumePhase.{VolumePhase}
use Rattle.kube_parts.specs.declared.parts.VolumePhase.TheVariants as volume_phases
use Rattle.kube_parts.specs.declared.parts.ClaimPhase.{ClaimPhase}
use Rattle.kube_parts.specs.declared.parts.ClaimPhase.TheVariants as claim_phases
use Rattle.kube_parts.specs.declared.parts.SourceKind.{SourceKind}
use Rattle.kube_parts.specs.declared.parts.SourceKind.TheVariants.{Csi, Nfs, Local, HostPath}
use Rattle.kube_parts.specs.declared.parts.Op.{Op}
use Rattle.kube_parts.specs.declared.parts.Op.TheVariants as ops
use Rattle.kube_objects.specs.declared.objects.Meta.{Meta}
use Rattle.kube_objects.specs.declared.objects.Amount.{Amount}
use Rattle.kube_objects.specs.declared.objects.Ref.{Ref}
use Rattle.kube_objects.specs.declared.objects.Source.{Source}
use Rattle.kube_objects.specs.declared.objects.Expr.{Expr}
use Rattle.kube_objects.specs.declared.objects.Selector.{Selector}
use Rattle.kube_objects.specs.declared.objects.NodeTerms.{NodeTerms}
use Rattle.kube_objects.specs.declared.objects.Volume.{Volume}
use Rattle.kube_objects.specs.declared.objects.Claim.{Claim}
use Rattle.kube_objects.specs.declared.objects.Class.{Class}
use Rattle.kube_objects.specs.declared.objects.Node.{Node}
use Rattle.kube_objects.specs.declared.objects.Pod.{Pod}
use Rattle.kube_objects.specs.declared.objects.Object.{Object}
use Rattle.kube_objects.specs.declared.objects.Object.TheVariants as objects
use Rattle.json_text.specs.Trees.{members_in}
use Rattle.json_text.specs.Members.{
  MemberList,
  text,
  filled,
  counted,
  object_of,
  items_data,
  array_data,
  filled_array,
  put_pairs,
  filled_pairs,
  filled_object,
  within,
  members_unless,
  extra_from,
  extra_members,
}
use Rattle.object_print.specs.Metadata.{uid_data, filled_or_always, front_pairs, back_pairs, head_pairs, meta_data}
use Rattle.object_print.specs.Parts.{
  modes_data,
  storage_pairs,
  storage_data,
  requests_data,
  ref_pairs,
  ref_data,
  source_pairs,
  source_data,
  expr_pairs,
  expr_data,
  term_pairs,
  term_data,
  node_terms_data,
  selector_pairs,
  selector_data,
}
use Rattle.object_print.specs.Volumes.{volume_front, volume_back, volume_spec, volume_status_pairs, volume_status, volume_pairs, volume_data}
use Rattle.object_print.specs.Claims.{claim_front, claim_back, claim_spec, got_modes, claim_status_pairs, claim_status, claim_pairs, claim_data}
use Rattle.object_print.specs.Objects.{class_back, class_data, pod_spec, pod_pairs, pod_data, node_pairs, node_data, object_data, object_line}
use Rattle.object_laws.specs.Given.{IsMeta, IsVolume, IsClaim, IsClass, IsNode, IsPod, IsGivenObject}
use Rattle.object_laws.proofs.Utf8Texts.{HasUtf8, ItemsUtf8, MembersUtf8, put_utf8, text_utf8}
use Rattle.object_laws.proofs.Utf8Read.{read_utf8}

-- ---- objects whose texts are UTF-8

abbrev pub Each : {X : Type 0} → (X → Type 0) → List X → Type 0
Each P [] = ⊤
Each P (x ∷ xs) = P x × Each P xs

abbrev pub PairUtf8 : Pair → Type 0
PairUtf8 p = IsUtf8 p.0 × IsUtf8 p.1

pub record MetaUtf8 (m : Meta) : Type 0 where
  pub namespace : IsUtf8 m.namespace
  pub name : IsUtf8 m.name
  pub created : IsUtf8 m.created
  pub deleted : IfSome m.deleted IsUtf8
  pub labels : Each PairUtf8 m.labels
  pub annotations : Each PairUtf8 m.annotations
  pub finalizers : Each IsUtf8 m.finalizers

abbrev pub AmountUtf8 : Amount → Type 0
AmountUtf8 a = IsUtf8 a.text

abbrev pub RefUtf8 : Ref → Type 0
RefUtf8 r = IsUtf8 r.namespace × IsUtf8 r.name

abbrev pub SourceUtf8 : Source → Type 0
SourceUtf8 s = IsUtf8 s.first × IsUtf8 s.second

abbrev pub ExprUtf8 : Expr → Type 0
ExprUtf8 e = IsUtf8 e.key × Each IsUtf8 e.values

abbrev pub TermUtf8 : List Expr → Type 0
TermUtf8 es = Each ExprUtf8 es

abbrev pub TermsUtf8 : NodeTerms → Type 0
TermsUtf8 t = Each TermUtf8 t.terms

abbrev pub SelectorUtf8 : Selector → Type 0
SelectorUtf8 s = Each PairUtf8 s.labels × Each ExprUtf8 s.exprs

pub record VolumeUtf8 (v : Volume) : Type 0 where
  pub meta : MetaUtf8 v.meta
  pub amount : AmountUtf8 v.amount
  pub class : IsUtf8 v.class
  pub claim_ref : IfSome v.claim_ref RefUtf8
  pub source : SourceUtf8 v.source
  pub terms : IfSome v.terms TermsUtf8
  pub extra : IsUtf8 v.extra

pub record ClaimUtf8 (c : Claim) : Type 0 where
  pub meta : MetaUtf8 c.meta
  pub amount : AmountUtf8 c.amount
  pub class : IfSome c.class IsUtf8
  pub selector : IfSome c.selector SelectorUtf8
  pub volume_name : IsUtf8 c.volume_name
  pub got : IfSome c.got AmountUtf8
  pub extra : IsUtf8 c.extra

pub record ClassUtf8 (c : Class) : Type 0 where
  pub meta : MetaUtf8 c.meta
  pub provisioner : IsUtf8 c.provisioner
  pub parameters : Each PairUtf8 c.parameters
  pub extra : IsUtf8 c.extra

pub record NodeUtf8 (n : Node) : Type 0 where
  pub meta : MetaUtf8 n.meta
  pub extra : IsUtf8 n.extra

-- its claims are not printed apart
pub record PodUtf8 (p : Pod) : Type 0 where
  pub meta : MetaUtf8 p.meta
  pub node : IsUtf8 p.node
  pub extra : IsUtf8 p.extra

abbrev pub ObjectUtf8 : Object → Type 0
ObjectUtf8 (objects.Class c) = ClassUtf8 c
ObjectUtf8 (objects.Node n) = NodeUtf8 n
ObjectUtf8 (objects.Volume v) = VolumeUtf8 v
ObjectUtf8 (objects.Claim c) = ClaimUtf8 c
ObjectUtf8 (objects.Pod p) = PodUtf8 p

-- ---- the printing words

abbrev are_names : MemberList → Bool
are_names [] = true
are_names (p ∷ ps) = are_ascii p.0 && are_names ps

abbrev ValuesUtf8 : MemberList → Type 0
ValuesUtf8 [] = ⊤
ValuesUtf8 (p ∷ ps) = IfSome p.1 HasUtf8 × ValuesUtf8 ps

pub put_some_utf8 : (k : List ℕ) (o : Option Data) (ms : Members) → IsUtf8 k → IfSome o HasUtf8 → MembersUtf8 ms → MembersUtf8 (put_some k o ms)
unfolding put_some
put_some_utf8 k None ms hk h hm = hm
put_some_utf8 k (Some d) ms hk h hm = put_utf8 k d ms hk h hm

put_all_utf8 : (ps : MemberList) (ms : Members) → are_names ps ≡ true → ValuesUtf8 ps → MembersUtf8 ms → MembersUtf8 (put_all ps ms)
put_all_utf8 [] ms e h hm = hm
put_all_utf8 (p ∷ ps) ms e h hm =
    let parts = and_parts (are_ascii p.0) (are_names ps) e in
    put_all_utf8 ps (put_some p.0 p.1 ms) parts.1 h.1 (put_some_utf8 p.0 p.1 ms (IsUtf8-are_ascii p.0 parts.0) h.0 hm)

object_of_utf8 : (ps : MemberList) → are_names ps ≡ true → ValuesUtf8 ps → HasUtf8 (object_of ps)
object_of_utf8 ps e h = put_all_utf8 ps no_members e h tt

filled_utf8 : (s : List ℕ) → IsUtf8 s → IfSome (filled s) HasUtf8
filled_utf8 [] h = tt
filled_utf8 (x ∷ xs) h = h

counted_utf8 : (n : ℕ) → n ≤ 2 ^ 62 → IfSome (counted n) HasUtf8
counted_utf8 n small = by (n == 0)
  where
    by : (b : Bool) → IfSome (if b then None else text (decimal n)) HasUtf8
    by true = tt
    by false = IsUtf8-from_ascii (decimal n) (IsAscii-decimal n (omega arith))

option_utf8 : {X : Type 0} (P : X → Type 0) (data_of : X → Data) (o : Option X) → ((x : X) → P x → HasUtf8 (data_of x)) → IfSome o P → IfSome (option_map data_of o) HasUtf8
option_utf8 P data_of None f h = tt
option_utf8 P data_of (Some x) f h = f x h

items_data_utf8 : {X : Type 0} (P : X → Type 0) (data_of : X → Data) (xs : List X) → ((x : X) → P x → HasUtf8 (data_of x)) → Each P xs → ItemsUtf8 (items_data data_of xs)
items_data_utf8 P data_of [] f h = tt
items_data_utf8 P data_of (x ∷ xs) f h = (f x h.0, items_data_utf8 P data_of xs f h.1)

array_utf8 : {X : Type 0} (P : X → Type 0) (data_of : X → Data) (xs : List X) → ((x : X) → P x → HasUtf8 (data_of x)) → Each P xs → HasUtf8 (array_data data_of xs)
array_utf8 P data_of xs f h = items_data_utf8 P data_of xs f h

filled_array_utf8 : {X : Type 0} (P : X → Type 0) (data_of : X → Data) (xs : List X) → ((x : X) → P x → HasUtf8 (data_of x)) → Each P xs → IfSome (filled_array data_of xs) HasUtf8
filled_array_utf8 P data_of [] f h = tt
filled_array_utf8 P data_of (x ∷ xs) f h = array_utf8 P data_of (x ∷ xs) f h

string_utf8 : (s : List ℕ) → IsUtf8 s → HasUtf8 (string s)
string_utf8 s h = h

put_pairs_utf8 : (ps : List Pair) (ms : Members) → Each PairUtf8 ps → MembersUtf8 ms → MembersUtf8 (put_pairs ps ms)
put_pairs_utf8 [] ms h hm = hm
put_pairs_utf8 (p ∷ ps) ms h hm = put_pairs_utf8 ps (put_some p.0 (text p.1) ms) h.1 (put_some_utf8 p.0 (text p.1) ms h.0.0 h.0.1 hm)

filled_pairs_utf8 : (ps : List Pair) → Each PairUtf8 ps → IfSome (filled_pairs ps) HasUtf8
filled_pairs_utf8 [] h = tt
filled_pairs_utf8 (p ∷ ps) h = put_pairs_utf8 (p ∷ ps) no_members h tt

filled_object_utf8 : (ms : Members) → MembersUtf8 ms → IfSome (filled_object ms) HasUtf8
filled_object_utf8 no_members h = tt
filled_object_utf8 (member k d ms) h = h

within_utf8 : (k : List ℕ) (d : Data) → are_ascii k ≡ true → HasUtf8 d → HasUtf8 (within k d)
within_utf8 k d e h = object_of_utf8 ((k, Some d) ∷ []) (rw e refl) (h, tt)

-- the members that are kept
pub members_in_utf8 : (d : Data) → HasUtf8 d → MembersUtf8 (members_in d)
members_in_utf8 null h = tt
members_in_utf8 (boolean b) h = tt
members_in_utf8 (number n) h = tt
members_in_utf8 (string s) h = tt
members_in_utf8 (array ds) h = tt
members_in_utf8 (object ms) h = h

extra_utf8 : (kept : List ℕ) → IsUtf8 kept → MembersUtf8 (extra_members kept)
unfolding extra_members
extra_utf8 kept h = by (read kept) (read_utf8 kept h)
  where
    unless : (b : Bool) (d : Data) → HasUtf8 d → MembersUtf8 (members_unless b d)
    unless true d k = tt
    unless false d k = members_in_utf8 d k

    by : (o : Option Data) → IfSome o HasUtf8 → MembersUtf8 (extra_from o)
    by None k = tt
    by (Some d) k = unless (has_float d) d k

-- ---- words

pub each_append : {X : Type 0} (P : X → Type 0) (xs ys : List X) → Each P xs → Each P ys → Each P (xs ++ ys)
each_append P [] ys h k = k
each_append P (x ∷ xs) ys h k = (h.0, each_append P xs ys h.1 k)

word_if_utf8 : (b : Bool) (w : List ℕ) → are_ascii w ≡ true → Each IsUtf8 (words_if b w)
word_if_utf8 true w e = (IsUtf8-are_ascii w e, tt)
word_if_utf8 false w e = tt

mode_words_utf8 : (m : Modes) → Each IsUtf8 (mode_words m)
mode_words_utf8 m =
    each_append IsUtf8 _ _ (each_append IsUtf8 _ _ (each_append IsUtf8 _ _ (word_if_utf8 m.rwo _ refl) (word_if_utf8 m.rox _ refl)) (word_if_utf8 m.rwx _ refl)) (word_if_utf8 m.rwop _ refl)

pub policy_utf8 : (p : Policy) → IsUtf8 (policy_word p)
policy_utf8 policies.Retain = IsUtf8-are_ascii _ refl
policy_utf8 policies.Delete = IsUtf8-are_ascii _ refl
policy_utf8 policies.Recycle = IsUtf8-are_ascii _ refl

volume_phase_utf8 : (p : VolumePhase) → IsUtf8 (volume_phase_word p)
volume_phase_utf8 volume_phases.Pending = IsUtf8-are_ascii _ refl
volume_phase_utf8 volume_phases.Available = IsUtf8-are_ascii _ refl
volume_phase_utf8 volume_phases.Bound = IsUtf8-are_ascii _ refl
volume_phase_utf8 volume_phases.Released = IsUtf8-are_ascii _ refl
volume_phase_utf8 volume_phases.Failed = IsUtf8-are_ascii _ refl

claim_phase_utf8 : (p : ClaimPhase) → IsUtf8 (claim_phase_word p)
claim_phase_utf8 claim_phases.Pending = IsUtf8-are_ascii _ refl
claim_phase_utf8 claim_phases.Bound = IsUtf8-are_ascii _ refl
claim_phase_utf8 claim_phases.Lost = IsUtf8-are_ascii _ refl

op_utf8 : (op : Op) → IsUtf8 (op_word op)
op_utf8 ops.In = IsUtf8-are_ascii _ refl
op_utf8 ops.NotIn = IsUtf8-are_ascii _ refl
op_utf8 ops.Exists = IsUtf8-are_ascii _ refl
op_utf8 ops.DoesNotExist = IsUtf8-are_ascii _ refl

volume_mode_utf8 : (b : Bool) → IsUtf8 (volume_mode b)
volume_mode_utf8 true = IsUtf8-are_ascii _ refl
volume_mode_utf8 false = IsUtf8-are_ascii _ refl

binding_mode_utf8 : (b : Bool) → IsUtf8 (binding_mode b)
binding_mode_utf8 true = IsUtf8-are_ascii _ refl
binding_mode_utf8 false = IsUtf8-are_ascii _ refl

pub uid_utf8 : (u : Uid) → HasUtf8 (uid_data u)
unfolding uid_text
uid_utf8 u = IsUtf8-from_ascii _ (hyphenated_ascii lower (to_be_bytes w128 u.0) (inl refl))

pub uid_option_utf8 : (o : Option Uid) → IfSome (option_map uid_data o) HasUtf8
uid_option_utf8 None = tt
uid_option_utf8 (Some u) = uid_utf8 u

-- ---- metadata and parts

namespace_utf8 : (b : Bool) (s : List ℕ) → IsUtf8 s → IfSome (filled_or_always b s) HasUtf8
namespace_utf8 true s h = h
namespace_utf8 false s h = filled_utf8 s h

meta_utf8 : (b : Bool) (m : Meta) → IsMeta b m → MetaUtf8 m → HasUtf8 (meta_data b m)
unfolding meta_data
meta_utf8 b m is h =
    object_of_utf8 (front_pairs m ++ back_pairs b m) refl (
      filled_pairs_utf8 m.annotations h.annotations,
      (
        filled_utf8 m.created h.created,
        (
          option_utf8 IsUtf8 string m.deleted string_utf8 h.deleted,
          (
            filled_array_utf8 IsUtf8 string m.finalizers string_utf8 h.finalizers,
            (filled_pairs_utf8 m.labels h.labels, (h.name, (namespace_utf8 b m.namespace h.namespace, (counted_utf8 m.version is.version, (uid_option_utf8 m.uid, tt))))),
          ),
        ),
      ),
    )

modes_utf8 : (m : Modes) → HasUtf8 (modes_data m)
unfolding modes_data
modes_utf8 m = array_utf8 IsUtf8 string (mode_words m) string_utf8 (mode_words_utf8 m)

storage_utf8 : (a : Amount) → AmountUtf8 a → HasUtf8 (storage_data a)
unfolding storage_data
storage_utf8 a h = object_of_utf8 (storage_pairs a) refl (h, tt)

requests_utf8 : (a : Amount) → AmountUtf8 a → HasUtf8 (requests_data a)
unfolding requests_data
requests_utf8 a h = within_utf8 (codes "requests") (storage_data a) refl (storage_utf8 a h)

ref_utf8 : (r : Ref) → RefUtf8 r → HasUtf8 (ref_data r)
unfolding ref_data
ref_utf8 r h = object_of_utf8 (ref_pairs r) refl (h.1, (h.0, (uid_option_utf8 r.uid, tt)))

source_of_utf8 : (kind : SourceKind) (first second : List ℕ) → IsUtf8 first → IsUtf8 second → HasUtf8 (object_of (source_pairs kind first second))
source_of_utf8 Csi first second h k = object_of_utf8 (source_pairs Csi first second) refl (h, (k, tt))
source_of_utf8 Nfs first second h k = object_of_utf8 (source_pairs Nfs first second) refl (k, (h, tt))
source_of_utf8 Local first second h k = object_of_utf8 (source_pairs Local first second) refl (h, tt)
source_of_utf8 HostPath first second h k = object_of_utf8 (source_pairs HostPath first second) refl (h, tt)

source_utf8 : (s : Source) → SourceUtf8 s → HasUtf8 (source_data s)
unfolding source_data
source_utf8 s h = source_of_utf8 s.kind s.first s.second h.0 h.1

expr_utf8 : (e : Expr) → ExprUtf8 e → HasUtf8 (expr_data e)
unfolding expr_data
expr_utf8 e h = object_of_utf8 (expr_pairs e) refl (h.0, (op_utf8 e.op, (filled_array_utf8 IsUtf8 string e.values string_utf8 h.1, tt)))

term_utf8 : (es : List Expr) → TermUtf8 es → HasUtf8 (term_data es)
unfolding term_data
term_utf8 es h = object_of_utf8 (term_pairs es) refl (filled_array_utf8 ExprUtf8 expr_data es expr_utf8 h, tt)

terms_utf8 : (t : NodeTerms) → TermsUtf8 t → HasUtf8 (node_terms_data t)
unfolding node_terms_data
terms_utf8 t h = within_utf8 (codes "required") _ refl (within_utf8 (codes "nodeSelectorTerms") _ refl (array_utf8 TermUtf8 term_data t.terms term_utf8 h))

selector_utf8 : (s : Selector) → SelectorUtf8 s → HasUtf8 (selector_data s)
unfolding selector_data
selector_utf8 s h = object_of_utf8 (selector_pairs s) refl (filled_array_utf8 ExprUtf8 expr_data s.exprs expr_utf8 h.1, (filled_pairs_utf8 s.labels h.0, tt))

-- ---- objects

source_word_ascii : (kind : SourceKind) → are_ascii (source_word kind) ≡ true
source_word_ascii Csi = refl
source_word_ascii Nfs = refl
source_word_ascii Local = refl
source_word_ascii HostPath = refl

volume_names : (v : Volume) → are_names (volume_front v ++ volume_back v) ≡ true
volume_names v = rw (source_word_ascii v.source.kind) refl

volume_spec_utf8 : (v : Volume) → VolumeUtf8 v → HasUtf8 (volume_spec v)
unfolding volume_spec
volume_spec_utf8 v h =
    put_all_utf8 (volume_front v ++ volume_back v) (extra_members v.extra) (volume_names v) (
      modes_utf8 v.modes,
      (
        storage_utf8 v.amount h.amount,
        (
          option_utf8 RefUtf8 ref_data v.claim_ref ref_utf8 h.claim_ref,
          (source_utf8 v.source h.source, (option_utf8 TermsUtf8 node_terms_data v.terms terms_utf8 h.terms, (policy_utf8 v.policy, (filled_utf8 v.class h.class, (volume_mode_utf8 v.block, tt))))),
        ),
      ),
    )
    (extra_utf8 v.extra h.extra)

volume_status_utf8 : (v : Volume) → HasUtf8 (volume_status v)
unfolding volume_status
volume_status_utf8 v = object_of_utf8 (volume_status_pairs v) refl (volume_phase_utf8 v.phase, tt)

volume_utf8 : (v : Volume) → IsVolume v → VolumeUtf8 v → HasUtf8 (volume_data v)
unfolding volume_data
volume_utf8 v is h = object_of_utf8 (volume_pairs v) refl (
  IsUtf8-are_ascii _ refl,
  (IsUtf8-are_ascii _ refl, (meta_utf8 false v.meta is.meta h.meta, (volume_spec_utf8 v h, (volume_status_utf8 v, tt)))),
)

claim_spec_utf8 : (c : Claim) → ClaimUtf8 c → HasUtf8 (claim_spec c)
unfolding claim_spec
claim_spec_utf8 c h =
    put_all_utf8 (claim_front c ++ claim_back c) (extra_members c.extra) refl (
      modes_utf8 c.modes,
      (
        requests_utf8 c.amount h.amount,
        (
          option_utf8 SelectorUtf8 selector_data c.selector selector_utf8 h.selector,
          (option_utf8 IsUtf8 string c.class string_utf8 h.class, (volume_mode_utf8 c.block, (filled_utf8 c.volume_name h.volume_name, tt))),
        ),
      ),
    )
    (extra_utf8 c.extra h.extra)

got_modes_utf8 : (got : Option Amount) (m : Modes) → IfSome (got_modes got m) HasUtf8
got_modes_utf8 None m = filled_array_utf8 IsUtf8 string (mode_words m) string_utf8 (mode_words_utf8 m)
got_modes_utf8 (Some a) m = modes_utf8 m

claim_status_utf8 : (c : Claim) → ClaimUtf8 c → HasUtf8 (claim_status c)
unfolding claim_status
claim_status_utf8 c h = object_of_utf8 (claim_status_pairs c) refl (got_modes_utf8 c.got c.got_modes, (option_utf8 AmountUtf8 storage_data c.got storage_utf8 h.got, (claim_phase_utf8 c.phase, tt)))

claim_utf8 : (c : Claim) → IsClaim c → ClaimUtf8 c → HasUtf8 (claim_data c)
unfolding claim_data
claim_utf8 c is h = object_of_utf8 (claim_pairs c) refl (IsUtf8-are_ascii _ refl, (IsUtf8-are_ascii _ refl, (meta_utf8 true c.meta is.meta h.meta, (claim_spec_utf8 c h, (claim_status_utf8 c h, tt)))))

class_utf8 : (c : Class) → IsClass c → ClassUtf8 c → HasUtf8 (class_data c)
unfolding class_data
class_utf8 c is h =
    put_all_utf8 (head_pairs (codes "storage.k8s.io/v1") (codes "StorageClass") false c.meta ++ class_back c) (extra_members c.extra) refl (
      IsUtf8-are_ascii _ refl,
      (
        IsUtf8-are_ascii _ refl,
        (meta_utf8 false c.meta is.meta h.meta, (filled_pairs_utf8 c.parameters h.parameters, (h.provisioner, (policy_utf8 c.policy, (binding_mode_utf8 c.delayed, tt))))),
      ),
    )
    (extra_utf8 c.extra h.extra)

pod_spec_utf8 : (p : Pod) → PodUtf8 p → MembersUtf8 (pod_spec p)
pod_spec_utf8 p h = put_all_utf8 ((codes "nodeName", filled p.node) ∷ []) (extra_members p.extra) refl (filled_utf8 p.node h.node, tt) (extra_utf8 p.extra h.extra)

pod_utf8 : (p : Pod) → IsPod p → PodUtf8 p → HasUtf8 (pod_data p)
unfolding pod_data
pod_utf8 p is h = object_of_utf8 (pod_pairs p) refl
    (IsUtf8-are_ascii _ refl, (IsUtf8-are_ascii _ refl, (meta_utf8 true p.meta is.meta h.meta, (filled_object_utf8 (pod_spec p) (pod_spec_utf8 p h), tt))))

node_utf8 : (n : Node) → IsNode n → NodeUtf8 n → HasUtf8 (node_data n)
unfolding node_data
node_utf8 n is h = object_of_utf8 (node_pairs n) refl
    (IsUtf8-are_ascii _ refl, (IsUtf8-are_ascii _ refl, (meta_utf8 false n.meta is.meta h.meta, (filled_object_utf8 (extra_members n.extra) (extra_utf8 n.extra h.extra), tt))))

object_utf8 : (o : Object) → IsGivenObject o → ObjectUtf8 o → HasUtf8 (object_data o)
unfolding object_data
object_utf8 (objects.Class c) is h = class_utf8 c is h
object_utf8 (objects.Node n) is h = node_utf8 n is h
object_utf8 (objects.Volume v) is h = volume_utf8 v is h
object_utf8 (objects.Claim c) is h = claim_utf8 c is h
object_utf8 (objects.Pod p) is h = pod_utf8 p is h

pub line_utf8 : (o : Object) → IsGivenObject o → ObjectUtf8 o → is_utf8 (object_line o) ≡ true
unfolding object_line
line_utf8 o is h = is_utf8-from_IsUtf8 (object_line o) (text_utf8 (object_data o) (object_utf8 o is h))
