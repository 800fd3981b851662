-- Objects hold no float.
use Rattle.std.proofs.Common.{◌≡◌, ℕ, List, [], ◌∷◌, ◌++◌, Bool, true, false, Option, Some, None, codes, refl}
use Rattle.serde_json.specs.Data.{string}
use Rattle.serde_json.specs.Written.{has_float}
use Rattle.kube_parts.specs.Words.{mode_words}
use Rattle.kube_parts.specs.declared.parts.Modes.{Modes}
use Rattle.kube_parts.specs.declared.parts.SourceKind.{SourceKind}
use Rattle.kube_parts.specs.declared.parts.SourceKind.TheVariants.{Csi, Nfs, Local, HostPath}
use Rattle.kube_objects.specs.declared.objects.Amount.{Amount}
use Rattle.kube_objects.specs.declared.objects.Meta.{Meta}
use Rattle.kube_objects.specs.declared.objects.Object.TheVariants as objects
use Rattle.json_text.specs.Members.{filled, extra_members}
use Rattle.object_print.specs.Metadata.{uid_data, filled_or_always, front_pairs, back_pairs, head_pairs, meta_data}
use Rattle.object_print.specs.Parts.{
  modes_data,
  storage_pairs,
  ref_pairs,
  expr_pairs,
  term_pairs,
  selector_pairs,
  storage_data,
  requests_data,
  ref_data,
  source_pairs,
  source_data,
  expr_data,
  term_data,
  node_terms_data,
  selector_data,
}
use Rattle.object_print.specs.Volumes.{volume_front, volume_back, volume_status_pairs, volume_pairs, volume_spec, volume_status, volume_data}
use Rattle.object_print.specs.Claims.{claim_front, claim_back, claim_status_pairs, claim_pairs, got_modes, claim_spec, claim_status, claim_data}
use Rattle.object_print.specs.Objects.{class_back, pod_pairs, node_pairs, class_data, pod_spec, pod_data, node_data, object_data}
use Rattle.json_text.proofs.NoFloats.{
  NoFloat,
  NoFloats,
  FloatFree,
  float_put_all,
  float_object_of,
  float_filled,
  float_counted,
  float_option,
  float_array,
  float_filled_array,
  string_free,
  float_filled_pairs,
  float_filled_object,
  float_within,
  float_extra,
}

pub uid_free : FloatFree uid_data
uid_free u = refl

pub namespace_free : (b : Bool) (s : List ℕ) → NoFloat (filled_or_always b s)
namespace_free true s = refl
namespace_free false s = float_filled s

pub meta_free : (b : Bool) (m : Meta) → has_float (meta_data b m) ≡ false
unfolding meta_data
meta_free b m =
    float_object_of (front_pairs m ++ back_pairs b m) (
      float_filled_pairs m.annotations,
      (
        float_filled m.created,
        (
          float_option string m.deleted string_free,
          (
            float_filled_array string m.finalizers string_free,
            (float_filled_pairs m.labels, (refl, (namespace_free b m.namespace, (float_counted m.version, (float_option uid_data m.uid uid_free, tt))))),
          ),
        ),
      ),
    )

pub modes_free : FloatFree modes_data
unfolding modes_data
modes_free m = float_array string (mode_words m) string_free

pub storage_free : FloatFree storage_data
unfolding storage_data
storage_free a = float_object_of (storage_pairs a) (refl, tt)

requests_free : FloatFree requests_data
unfolding requests_data
requests_free a = float_within (codes "requests") (storage_data a) (storage_free a)

pub ref_free : FloatFree ref_data
unfolding ref_data
ref_free r = float_object_of (ref_pairs r) (refl, (refl, (float_option uid_data r.uid uid_free, tt)))

source_pairs_free : (kind : SourceKind) (first second : List ℕ) → NoFloats (source_pairs kind first second)
source_pairs_free Csi first second = (refl, (refl, tt))
source_pairs_free Nfs first second = (refl, (refl, tt))
source_pairs_free Local first second = (refl, tt)
source_pairs_free HostPath first second = (refl, tt)

source_free : FloatFree source_data
unfolding source_data
source_free s = float_object_of (source_pairs s.kind s.first s.second) (source_pairs_free s.kind s.first s.second)

expr_free : FloatFree expr_data
unfolding expr_data
expr_free e = float_object_of (expr_pairs e) (refl, (refl, (float_filled_array string e.values string_free, tt)))

term_free : FloatFree term_data
unfolding term_data
term_free es = float_object_of (term_pairs es) (float_filled_array expr_data es expr_free, tt)

node_terms_free : FloatFree node_terms_data
unfolding node_terms_data
node_terms_free t = float_within _ _ (float_within _ _ (float_array term_data t.terms term_free))

selector_free : FloatFree selector_data
unfolding selector_data
selector_free s = float_object_of (selector_pairs s) (float_filled_array expr_data s.exprs expr_free, (float_filled_pairs s.labels, tt))

volume_spec_free : FloatFree volume_spec
unfolding volume_spec
volume_spec_free v =
    float_put_all (volume_front v ++ volume_back v) (extra_members v.extra) (
      modes_free v.modes,
      (
        storage_free v.amount,
        (float_option ref_data v.claim_ref ref_free, (source_free v.source, (float_option node_terms_data v.terms node_terms_free, (refl, (float_filled v.class, (refl, tt)))))),
      ),
    )
    (float_extra v.extra)

volume_status_free : FloatFree volume_status
unfolding volume_status
volume_status_free v = float_object_of (volume_status_pairs v) (refl, tt)

pub volume_free : FloatFree volume_data
unfolding volume_data
volume_free v = float_object_of (volume_pairs v) (refl, (refl, (meta_free false v.meta, (volume_spec_free v, (volume_status_free v, tt)))))

claim_spec_free : FloatFree claim_spec
unfolding claim_spec
claim_spec_free c =
    float_put_all (claim_front c ++ claim_back c) (extra_members c.extra)
    (modes_free c.modes, (requests_free c.amount, (float_option selector_data c.selector selector_free, (float_option string c.class string_free, (refl, (float_filled c.volume_name, tt))))))
    (float_extra c.extra)

got_modes_free : (got : Option Amount) (m : Modes) → NoFloat (got_modes got m)
got_modes_free None m = float_filled_array string (mode_words m) string_free
got_modes_free (Some a) m = modes_free m

claim_status_free : FloatFree claim_status
unfolding claim_status
claim_status_free c = float_object_of (claim_status_pairs c) (got_modes_free c.got c.got_modes, (float_option storage_data c.got storage_free, (refl, tt)))

pub claim_free : FloatFree claim_data
unfolding claim_data
claim_free c = float_object_of (claim_pairs c) (refl, (refl, (meta_free true c.meta, (claim_spec_free c, (claim_status_free c, tt)))))

pub class_free : FloatFree class_data
unfolding class_data
class_free c =
    float_put_all (head_pairs (codes "storage.k8s.io/v1") (codes "StorageClass") false c.meta ++ class_back c) (extra_members c.extra)
    (refl, (refl, (meta_free false c.meta, (float_filled_pairs c.parameters, (refl, (refl, (refl, tt)))))))
    (float_extra c.extra)

pub pod_free : FloatFree pod_data
unfolding pod_data
pod_free p =
    float_object_of (pod_pairs p) (
      refl,
      (
        refl,
        (
          meta_free true p.meta,
          (
            float_filled_object (pod_spec p)
                (float_put_all ((codes "nodeName", filled p.node) ∷ []) (extra_members p.extra) (float_filled p.node, tt) (float_extra p.extra)),
            tt,
          ),
        ),
      ),
    )

pub node_free : FloatFree node_data
unfolding node_data
node_free n = float_object_of (node_pairs n) (refl, (refl, (meta_free false n.meta, (float_filled_object (extra_members n.extra) (float_extra n.extra), tt))))

pub object_free : FloatFree object_data
unfolding object_data
object_free (objects.Class c) = class_free c
object_free (objects.Node n) = node_free n
object_free (objects.Volume v) = volume_free v
object_free (objects.Claim c) = claim_free c
object_free (objects.Pod p) = pod_free p
