-- What is printed of a class is read again.
use Rattle.std.proofs.Common.{◌≡◌, ℕ, List, ◌++◌, Bool, true, false, Option, Some, None, Ok, codes, refl, ap, ◌∙◌, arith}
use Rattle.serde_json.specs.Data.{Data, string, object, Members}
use Rattle.serde_json.specs.Find.{get_member}
use Rattle.json_text.specs.Build.{put_all, pick}
use Rattle.kube_parts.specs.Words.{policy_word, binding_mode}
use Rattle.kube_parts.specs.declared.parts.Policy.{Policy}
use Rattle.kube_parts.specs.declared.parts.Policy.TheVariants.{Retain, Delete, Recycle}
use Rattle.kube_objects.specs.declared.objects.Class.{Class}
use Rattle.json_text.specs.Members.{MemberList}
use Rattle.object_print.specs.Metadata.{head_pairs}
use Rattle.object_print.specs.Objects.{class_back as back_pairs, class_data}
use Rattle.object_text.specs.declared.errors.Member.TheVariants as members
use Rattle.object_text.specs.declared.extra.Listed.TheVariants as listed
use Rattle.object_text.specs.MemberReaders.{at}
use Rattle.object_text.specs.PartReaders.{class_policy_at, delayed_at}
use Rattle.object_text.specs.KindReaders.{class_of}
use Rattle.object_text.specs.ExtraMembers.{is_listed_member}
use Rattle.object_laws.specs.Given.{IsClassPolicy, AreExtra, IsClass}
use Rattle.object_laws.proofs.ExtraBack.{extra_back, spec_has, kept_back}
use Rattle.object_laws.proofs.PartsBack.{needed_text_back, pairs_back}
use Rattle.object_laws.proofs.MetaBack.{meta_back}

policy_back : (place : Option Data) (p : Policy) → IsClassPolicy p → at members.ReclaimPolicy place ≡ Some (string (policy_word p)) → class_policy_at place ≡ Ok p
unfolding class_policy_at
policy_back place Retain h e = rw e refl
policy_back place Delete h e = rw e refl
policy_back place Recycle h e = absurd h

delayed_back : (place : Option Data) (b : Bool) → at members.VolumeBindingMode place ≡ Some (string (binding_mode b)) → delayed_at place ≡ Ok b
unfolding delayed_at
delayed_back place false e = rw e refl
delayed_back place true e = rw e refl

abbrev pub class_pairs : Class → MemberList
class_pairs c = head_pairs (codes "storage.k8s.io/v1") (codes "StorageClass") false c.meta ++ back_pairs c

pub class_is : (c : Class) (ms : Members) → AreExtra 126 listed.Class c.extra ms → class_data c ≡ object (put_all (class_pairs c) ms)
unfolding class_data
class_is c ms h = ap (λ es. object (put_all (class_pairs c) es)) (extra_back 126 listed.Class c.extra ms (omega arith) h)

pub class_has : (c : Class) (ms : Members) → AreExtra 126 listed.Class c.extra ms → (k : List ℕ) → is_listed_member listed.Class k ≡ true
    → get_member k (put_all (class_pairs c) ms) ≡ pick k (class_pairs c) None
class_has c ms h k is = spec_has listed.Class (class_pairs c) ms k h.others is

members_back : (c : Class) (h : IsClass c) → class_of (object (put_all (class_pairs c) h.extra.0)) ≡ Ok c
unfolding class_of
members_back c h =
    let ms : Members = h.extra.0 in
    let whole : Data = object (put_all (class_pairs c) ms) in
    let has = class_has c ms h.extra.1 in
    rw (
      meta_back false c.meta whole h.meta (has (codes "metadata") refl),
      needed_text_back members.Provisioner (Some whole) c.provisioner (has (codes "provisioner") refl),
      policy_back (Some whole) c.policy h.policy (has (codes "reclaimPolicy") refl),
      delayed_back (Some whole) c.delayed (has (codes "volumeBindingMode") refl),
      pairs_back members.Parameters (Some whole) c.parameters h.parameters (has (codes "parameters") refl),
      kept_back 126 listed.Class (class_pairs c) c.extra ms h.extra.1 refl,
    ) refl

pub class_back : (c : Class) → IsClass c → class_of (class_data c) ≡ Ok c
class_back c h = ap class_of (class_is c h.extra.0 h.extra.1) ∙ members_back c h
