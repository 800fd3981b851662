-- What is printed of metadata is read again.
use Rattle.std.proofs.Common.{
  ◌≡◌,
  ℕ,
  ◌^◌,
  ◌<◌,
  ◌≤◌,
  ◌==◌,
  List,
  [],
  ◌∷◌,
  ◌++◌,
  length,
  nat_le,
  Bool,
  true,
  false,
  if◌then◌else◌,
  Option,
  Some,
  None,
  Ok,
  codes,
  decimal,
  refl,
  sym,
  ap,
  ◌∙◌,
  arith,
  rules,
}
use Rattle.std.specs.Prelude.{IfSome, option_map, unwrap_or}
use Rattle.std.specs.List.{list_all}
use Rattle.std.specs.Char.{is_ascii_digit}
use Rattle.std.specs.Str.Parse.{digits_value}
use Rattle.std.proofs.lemmas.Bool.{eqb-true}
use Rattle.std.proofs.lemmas.Bool.Decides.{nat_tests}
use Rattle.std.proofs.lemmas.Fmt.{decimal_nonempty, digits_decimal, digits_value-decimal}
use Rattle.std.proofs.lemmas.Str.Parse.{IsNumeralModel, numerals_by_value}
use Rattle.serde_json.specs.Data.{Data, string}
use Rattle.serde_json.specs.Find.{get}
use Rattle.json_text.specs.Look.{unless_null}
use Rattle.kube_objects.specs.declared.objects.Meta.{Meta}
use Rattle.json_text.specs.Members.{MemberList, filled, counted, object_of}
use Rattle.object_print.specs.Metadata.{filled_or_always, front_pairs, back_pairs, meta_data}
use Rattle.object_text.specs.declared.errors.Member.{Member}
use Rattle.object_text.specs.declared.errors.Member.TheVariants as members
use Rattle.object_text.specs.Answers.{◌>>=◌}
use Rattle.object_text.specs.MemberReaders.{at, as_object, needed_from, needed_object, text_from, stamp_from, stamp_at, stamp_or_empty, version_named, version_at}
use Rattle.object_text.specs.MetaReaders.{kept_namespace, namespace_at, identity_at, marks_at, meta_of}
use Rattle.object_laws.specs.Given.{IsStamp, IsStampOrEmpty, IsNamespace, IsMeta}
use Rattle.object_laws.proofs.PartsBack.{next, object_has, needed_text_back, shown_text_back, texts_back, pairs_back, uid_back}

-- ---- moments

stamp_is : (m : Member) (s : List ℕ) → IsStamp s → stamp_from m (Some (string s)) ≡ Ok (Some s)
stamp_is m s h = rw h refl

stamp_back : (m : Member) (place : Option Data) (o : Option (List ℕ)) → IfSome o IsStamp → at m place ≡ option_map string o → stamp_at m place ≡ Ok o
stamp_back m place o is h = ap (λ p. stamp_from m (unless_null p)) h ∙ by o is
  where
    by : (t : Option (List ℕ)) → IfSome t IsStamp → stamp_from m (unless_null (option_map string t)) ≡ Ok t
    by None k = refl
    by (Some s) k = stamp_is m s k

created_back : (m : Member) (place : Option Data) (s : List ℕ) → IsStampOrEmpty s → at m place ≡ filled s → stamp_or_empty m place ≡ Ok s
created_back m place s is h = ap (λ p. stamp_from m (unless_null p) >>= λ o. Ok (unwrap_or o [])) h ∙ by s is
  where
    by : (t : List ℕ) → IsStampOrEmpty t → (stamp_from m (unless_null (filled t)) >>= λ o. Ok (unwrap_or o [])) ≡ Ok t
    by [] k = refl
    by (x ∷ xs) k = next (λ o. Ok (unwrap_or o [])) (stamp_is m (x ∷ xs) k)

-- ---- versions

digits_back : (m : Member) (s : List ℕ) (n : ℕ) → 0 < length s → list_all is_ascii_digit s ≡ true → digits_value 10 s ≡ n → n ≤ 2 ^ 62 → version_named m s ≡ Ok n
digits_back m s n some digits is small =
    let one : nat_le 1 (length s) ≡ true = grind (arith, nat_tests) in
    let least : nat_le n (2 ^ 62) ≡ true = grind (arith, nat_tests) in
    rw (one, digits, is, least) refl

decimal_back : (m : Member) (n : ℕ) → n ≤ 2 ^ 62 → version_named m (decimal n) ≡ Ok n
decimal_back m n small =
    let fits : n < 2 ^ 64 = omega arith in
    let digits_model : IsNumeralModel (λ ds. list_all is_ascii_digit ds ≡ true) (digits_value 10) = numerals_by_value _ (search rules) in
    digits_back m (decimal n) n (decimal_nonempty n fits) (digits_decimal digits_model n fits) (digits_value-decimal digits_model n fits) small

version_back : (m : Member) (place : Option Data) (n : ℕ) → n ≤ 2 ^ 62 → at m place ≡ counted n → version_at m place ≡ Ok n
version_back m place n small h = ap (λ p. text_from m (codes "0") p >>= λ s. version_named m s) h ∙ by (n == 0) refl
  where
    by : (b : Bool) → (n == 0) ≡ b → (text_from m (codes "0") (if b then None else Some (string (decimal n))) >>= λ s. version_named m s) ≡ Ok n
    by true e = ap Ok (sym (eqb-true n 0 e))
    by false e = decimal_back m n small

-- ---- namespaces

namespace_back : (namespaced : Bool) (place : Option Data) (s : List ℕ) → IsNamespace namespaced s → at members.Namespace place ≡ filled_or_always namespaced s → namespace_at namespaced place ≡ Ok s
namespace_back true place s is h = next (λ t. Ok t) (shown_text_back members.Namespace (codes "default") place s h)
namespace_back false place s is h = ap (λ p. text_from members.Namespace (codes "default") p >>= λ t. Ok (kept_namespace false t)) (h ∙ ap filled is) ∙ ap Ok (sym is)

-- ---- metadata

abbrev meta_pairs : Bool → Meta → MemberList
meta_pairs namespaced m = front_pairs m ++ back_pairs namespaced m

identity_back : (namespaced : Bool) (m : Meta) → IsMeta namespaced m
    → identity_at namespaced (Some (object_of (meta_pairs namespaced m))) ≡ Ok (record { name = m.name; namespace = m.namespace; uid = m.uid; version = m.version })
unfolding identity_at
identity_back namespaced m h =
    let place : Option Data = Some (object_of (meta_pairs namespaced m)) in
    let ps : MemberList = meta_pairs namespaced m in
    rw (
      needed_text_back members.Name place m.name (object_has members.Name ps),
      namespace_back namespaced place m.namespace h.namespace (object_has members.Namespace ps),
      uid_back members.Uid place m.uid h.uid (object_has members.Uid ps),
      version_back members.ResourceVersion place m.version h.version (object_has members.ResourceVersion ps),
    ) refl

marks_back : (namespaced : Bool) (m : Meta) → IsMeta namespaced m
    → marks_at (Some (object_of (meta_pairs namespaced m))) ≡ Ok (record { created = m.created; deleted = m.deleted; labels = m.labels; annotations = m.annotations; finalizers = m.finalizers })
unfolding marks_at
marks_back namespaced m h =
    let place : Option Data = Some (object_of (meta_pairs namespaced m)) in
    let ps : MemberList = meta_pairs namespaced m in
    rw (
      created_back members.CreationTimestamp place m.created h.created (object_has members.CreationTimestamp ps),
      stamp_back members.DeletionTimestamp place m.deleted h.deleted (object_has members.DeletionTimestamp ps),
      pairs_back members.Labels place m.labels h.labels (object_has members.Labels ps),
      pairs_back members.Annotations place m.annotations h.annotations (object_has members.Annotations ps),
      texts_back members.Finalizers place m.finalizers (object_has members.Finalizers ps),
    ) refl

pub meta_back : (namespaced : Bool) (m : Meta) (d : Data) → IsMeta namespaced m → get (codes "metadata") d ≡ Some (meta_data namespaced m) → meta_of namespaced d ≡ Ok m
unfolding meta_of meta_data
meta_back namespaced m d is h =
    let found : needed_object members.Metadata (Some d) ≡ Ok (object_of (meta_pairs namespaced m)) = ap (λ p. needed_from members.Metadata (unless_null p) >>= λ v. as_object members.Metadata v) h in
    rw (found, identity_back namespaced m is, marks_back namespaced m is) refl
