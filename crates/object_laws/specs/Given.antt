-- Objects that a manifest can give.
-- Source: Kubernetes API, the members and their types; RFC 9562 and RFC 3339. What stands for a member that is left out, and that
-- the members that no reader knows are kept as one text, are choices of this project.
use Rattle.std.specs.Prelude.{◌≡◌, ℕ, ◌^◌, ◌<◌, ◌≤◌, List, [], ◌∷◌, length, Bool, true, false, Some, None, IfSome, Ok, codes, ⊤}
use Rattle.serde_json.specs.Data.{Members, object}
use Rattle.serde_json.specs.Find.{get_member}
use Rattle.json_text.specs.Look.{unless_null}
use Rattle.json_text.specs.Build.{AreOthers, GoodMembers}
use Rattle.plain_data.specs.Pairs.{ArePairs}
use Rattle.quantity_text.specs.Quantity.{amount_of}
use Rattle.kube_parts.specs.declared.uid.Uid.{Uid}
use Rattle.kube_parts.specs.declared.parts.Policy.{Policy}
use Rattle.kube_parts.specs.declared.parts.Policy.TheVariants.{Retain, Delete, Recycle}
use Rattle.kube_parts.specs.declared.parts.SourceKind.{SourceKind}
use Rattle.kube_parts.specs.declared.parts.SourceKind.TheVariants.{Csi, Nfs, Local, HostPath}
use Rattle.kube_objects.specs.declared.objects.Meta.{Meta}
use Rattle.kube_objects.specs.declared.objects.Amount.{Amount}
use Rattle.kube_objects.specs.declared.objects.Ref.{Ref}
use Rattle.kube_objects.specs.declared.objects.Source.{Source}
use Rattle.kube_objects.specs.declared.objects.Selector.{Selector}
use Rattle.kube_objects.specs.declared.objects.Volume.{Volume}
use Rattle.kube_objects.specs.declared.objects.Claim.{Claim}
use Rattle.kube_objects.specs.declared.objects.Class.{Class}
use Rattle.kube_objects.specs.declared.objects.Node.{Node}
use Rattle.kube_objects.specs.declared.objects.Pod.{Pod}
use Rattle.kube_objects.specs.declared.objects.Object.{Object}
use Rattle.kube_objects.specs.declared.objects.Object.TheVariants as objects
use Rattle.object_text.specs.declared.extra.Listed.{Listed}
use Rattle.object_text.specs.declared.extra.Listed.TheVariants as listed
use Rattle.object_text.specs.ExtraMembers.{is_listed_member, extra_text}
use Rattle.object_text.specs.PartReaders.{claims_at}

-- ---- metadata

-- a UUID has 128 bits
abbrev pub IsUid : Uid → Type 0
IsUid u = u.0 < 2 ^ 128

-- a moment to the second, in 20 bytes
abbrev pub IsStamp : List ℕ → Type 0
IsStamp s = length s ≡ 20

-- it is empty where no time of creation is known
abbrev pub IsStampOrEmpty : List ℕ → Type 0
IsStampOrEmpty [] = ⊤
IsStampOrEmpty (x ∷ xs) = IsStamp (x ∷ xs)

-- objects of kinds without namespaces have none
abbrev pub IsNamespace : Bool → List ℕ → Type 0
IsNamespace true s = ⊤
IsNamespace false s = s ≡ []

-- metadata that a manifest can give, of a kind with namespaces or without
pub record IsMeta (namespaced : Bool) (m : Meta) : Type 0 where
  pub namespace : IsNamespace namespaced m.namespace
  pub uid : IfSome m.uid IsUid
  pub version : m.version ≤ 2 ^ 62
  pub created : IsStampOrEmpty m.created
  pub deleted : IfSome m.deleted IsStamp
  pub labels : ArePairs m.labels
  pub annotations : ArePairs m.annotations

-- ---- parts

-- the bytes are those of the text
abbrev pub IsAmount : Amount → Type 0
IsAmount a = amount_of a.text ≡ Ok a.bytes

-- a claimRef whose UID, if it is set, has 128 bits
abbrev pub IsRef : Ref → Type 0
IsRef r = IfSome r.uid IsUid

-- these sources have one text
abbrev pub HasItsTexts : SourceKind → List ℕ → Type 0
HasItsTexts Csi second = ⊤
HasItsTexts Nfs second = ⊤
HasItsTexts Local second = second ≡ []
HasItsTexts HostPath second = second ≡ []

-- a source that has the texts of its kind and no other
abbrev pub IsSource : Source → Type 0
IsSource s = HasItsTexts s.kind s.second

-- a label selector whose labels are in order, each key once
abbrev pub IsSelector : Selector → Type 0
IsSelector s = ArePairs s.labels

-- the policies that a class may have
abbrev pub IsClassPolicy : Policy → Type 0
IsClassPolicy Retain = ⊤
IsClassPolicy Delete = ⊤
IsClassPolicy Recycle = ⊥

-- ---- the members that are kept

-- the kept text is that of these members: unknown to the reader, in order, canonical, and nesting at most so deep
pub record AreExtra (n : ℕ) (known : Listed) (kept : List ℕ) (ms : Members) : Type 0 where
  pub text : kept ≡ extra_text ms
  pub others : AreOthers (is_listed_member known) ms
  pub good : GoodMembers n ms

-- no member of this name stands there, or it is null
abbrev pub IsFree : List ℕ → Members → Type 0
IsFree k ms = unless_null (get_member k ms) ≡ None

-- no source that would count before this one
abbrev pub NoneBefore : SourceKind → Members → Type 0
NoneBefore Csi ms = ⊤
NoneBefore Nfs ms = IsFree (codes "csi") ms
NoneBefore Local ms = IsFree (codes "csi") ms × IsFree (codes "nfs") ms
NoneBefore HostPath ms = IsFree (codes "csi") ms × IsFree (codes "nfs") ms × IsFree (codes "local") ms

-- members that a volume keeps beside a source of this kind
pub record AreVolumeExtra (kind : SourceKind) (kept : List ℕ) (ms : Members) : Type 0 where
  pub extra : AreExtra 125 (listed.Volume kind) kept ms
  pub free : NoneBefore kind ms

-- the claims of a pod are those that its kept members name
pub record ArePodExtra (p : Pod) (ms : Members) : Type 0 where
  pub extra : AreExtra 125 listed.Pod p.extra ms
  pub claims : claims_at (Some (object ms)) ≡ Ok p.claims

-- ---- objects

-- a volume that a manifest can give
pub record IsVolume (v : Volume) : Type 0 where
  pub meta : IsMeta false v.meta
  pub amount : IsAmount v.amount
  pub claim_ref : IfSome v.claim_ref IsRef
  pub source : IsSource v.source
  pub extra : (ms : Members) × AreVolumeExtra v.source.kind v.extra ms

-- a claim that a manifest can give
pub record IsClaim (c : Claim) : Type 0 where
  pub meta : IsMeta true c.meta
  pub amount : IsAmount c.amount
  pub selector : IfSome c.selector IsSelector
  pub got : IfSome c.got IsAmount
  pub extra : (ms : Members) × AreExtra 125 listed.Claim c.extra ms

-- a storage class that a manifest can give
pub record IsClass (c : Class) : Type 0 where
  pub meta : IsMeta false c.meta
  pub policy : IsClassPolicy c.policy
  pub parameters : ArePairs c.parameters
  pub extra : (ms : Members) × AreExtra 126 listed.Class c.extra ms

-- a node that a manifest can give
pub record IsNode (n : Node) : Type 0 where
  pub meta : IsMeta false n.meta
  pub extra : (ms : Members) × AreExtra 125 listed.Node n.extra ms

-- a pod that a manifest can give
pub record IsPod (p : Pod) : Type 0 where
  pub meta : IsMeta true p.meta
  pub extra : (ms : Members) × ArePodExtra p ms

-- an object that a manifest can give
abbrev pub IsGivenObject : Object → Type 0
IsGivenObject (objects.Class c) = IsClass c
IsGivenObject (objects.Node n) = IsNode n
IsGivenObject (objects.Volume v) = IsVolume v
IsGivenObject (objects.Claim c) = IsClaim c
IsGivenObject (objects.Pod p) = IsPod p
