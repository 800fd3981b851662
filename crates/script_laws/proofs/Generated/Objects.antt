-- The objects of generated scripts are those of manifests, one level less deep.
use Rattle.std.proofs.Common.{ℕ, zero, suc, ◌+◌, ◌<◌, List, [], Bool, true, false, codes, refl, arith}
use Rattle.std.specs.Fmt.{digits}
use Rattle.serde_json.specs.Data.{no_members}
use Rattle.json_text.proofs.Good.{good_none}
use Rattle.quantity_text.specs.Quantity.{amount_of, unsigned_amount, refuse, scaled, scale_of, value_of, has_too_many_digits}
use Rattle.kube_objects.specs.declared.objects.Object.TheVariants.{Class, Node, Volume, Claim}
use Rattle.object_text.specs.declared.extra.Listed.{Listed}
use Rattle.object_text.specs.declared.extra.Listed.TheVariants as listed
use Rattle.kube_parts.specs.declared.parts.SourceKind.TheVariants.{Nfs}
use Rattle.object_laws.specs.Given.{AreExtra, IsAmount, IsMeta, IsNamespace}
use Rattle.script_laws.specs.Read.Given.{IsLineObject}
use Rattle.script_laws.proofs.Read.Kept.{Keeps}
use Rattle.script_laws.proofs.Read.Shallow.{object_less}
use Rattle.object_laws.proofs.ExtraBack.{extra_back}
use Rattle.script_gen.specs.Objects.{named_meta, gibibytes, class_named, zoned_node, volume_of, sized_claim, numbered}

pub meta_given : (namespaced : Bool) (namespace name : List ℕ) → IsNamespace namespaced namespace → IsMeta namespaced (named_meta namespace name)
meta_given namespaced namespace name is = record { namespace = is; uid = tt; version = omega arith; created = tt; deleted = tt; labels = tt; annotations = tt }

-- nothing is kept

no_extra : (n : ℕ) (known : Listed) → AreExtra n known [] no_members
no_extra n known = record { text = refl; others = tt; good = good_none }

keeps_none : (n : ℕ) → Keeps n []
keeps_none n = rw (extra_back 0 listed.Node [] no_members (omega arith) (no_extra 0 listed.Node)) good_none

-- 1 to 16 GiB
pub sized : (k : ℕ) → k < 16 → IsAmount (gibibytes (1 + k))
unfolding digits amount_of unsigned_amount refuse scaled scale_of value_of has_too_many_digits
sized zero h = refl
sized (suc zero) h = refl
sized (suc (suc zero)) h = refl
sized (suc (suc (suc zero))) h = refl
sized (suc (suc (suc (suc zero)))) h = refl
sized (suc (suc (suc (suc (suc zero))))) h = refl
sized (suc (suc (suc (suc (suc (suc zero)))))) h = refl
sized (suc (suc (suc (suc (suc (suc (suc zero))))))) h = refl
sized (suc (suc (suc (suc (suc (suc (suc (suc zero)))))))) h = refl
sized (suc (suc (suc (suc (suc (suc (suc (suc (suc zero))))))))) h = refl
sized (suc (suc (suc (suc (suc (suc (suc (suc (suc (suc zero)))))))))) h = refl
sized (suc (suc (suc (suc (suc (suc (suc (suc (suc (suc (suc zero))))))))))) h = refl
sized (suc (suc (suc (suc (suc (suc (suc (suc (suc (suc (suc (suc zero)))))))))))) h = refl
sized (suc (suc (suc (suc (suc (suc (suc (suc (suc (suc (suc (suc (suc zero))))))))))))) h = refl
sized (suc (suc (suc (suc (suc (suc (suc (suc (suc (suc (suc (suc (suc (suc zero)))))))))))))) h = refl
sized (suc (suc (suc (suc (suc (suc (suc (suc (suc (suc (suc (suc (suc (suc (suc zero))))))))))))))) h = refl
sized (suc (suc (suc (suc (suc (suc (suc (suc (suc (suc (suc (suc (suc (suc (suc (suc n)))))))))))))))) h = absurd (omega arith)

-- ---- the objects

pub class_given : (name : List ℕ) (delayed : Bool) → IsLineObject (Class (class_named name delayed))
class_given name delayed = record {
  given = record {
    meta = meta_given false [] name refl;
    policy = tt;
    parameters = tt;
    extra = (no_members, no_extra 126 listed.Class);
  };
  levels = (object_less (Class (class_named name delayed)) (keeps_none 125)).shallow;
}

pub node_given : (name zone : List ℕ) → IsLineObject (Node (zoned_node name zone))
node_given name zone = record {
  given = record {
    meta = record { namespace = refl; uid = tt; version = omega arith; created = tt; deleted = tt; labels = (tt, tt); annotations = tt };
    extra = (no_members, no_extra 125 listed.Node);
  };
  levels = (object_less (Node (zoned_node name zone)) (keeps_none 124)).shallow;
}

pub volume_given : (i k : ℕ) (many : Bool) → k < 16 → IsLineObject (Volume (volume_of i (1 + k) many))
volume_given i k many h = record {
  given = record {
    meta = meta_given false [] (numbered (codes "v") i) refl;
    amount = sized k h;
    claim_ref = tt;
    source = tt;
    extra = (no_members, record { extra = no_extra 125 (listed.Volume Nfs); free = refl });
  };
  levels = (object_less (Volume (volume_of i (1 + k) many)) (keeps_none 124)).shallow;
}

pub claim_given : (name : List ℕ) (k : ℕ) (class : List ℕ) → k < 16 → IsLineObject (Claim (sized_claim name (1 + k) class))
claim_given name k class h = record {
  given = record {
    meta = meta_given true (codes "default") name tt;
    amount = sized k h;
    selector = tt;
    got = tt;
    extra = (no_members, no_extra 125 listed.Claim);
  };
  levels = (object_less (Claim (sized_claim name (1 + k) class)) (keeps_none 124)).shallow;
}
