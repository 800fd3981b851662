-- The orders in which volumes stand in an index.
-- Source: the volume index that `pv_controller.go` calls has number of access modes and size; what comes before and after
-- these is a choice of this project.
use Rattle.std.specs.Prelude.{ℕ, Bool, List, [], Option, Some, None}
use Rattle.std.specs.declared.cmp.Ordering.{Ordering}
use Rattle.std.specs.Ordering.{nat_cmp, ordering_then}
use Rattle.plain_data.specs.Pairs.{text_cmp}
use Rattle.plain_data.specs.Rows.{IsRising}
use Rattle.kube_objects.specs.declared.objects.Ref.{Ref}
use Rattle.kube_objects.specs.declared.objects.Volume.{Volume as VolumeData}
use Rattle.kube_objects.specs.Bindings.{class_of_volume}
use Rattle.kube_objects.specs.Bindings.{count_one, mode_count}

-- what a claim asks first of a volume: its class and volume mode, and then how many modes and bytes it has
pub record Size : Type 0 where
  pub class : List ℕ
  pub block : Bool
  pub modes : ℕ
  pub bytes : ℕ

-- the size of a volume
abbrev pub size_of : VolumeData → Size
size_of v = record { class = class_of_volume v; block = v.block; modes = mode_count v.modes; bytes = v.amount.bytes }

-- by class, then volume mode
abbrev pub group_cmp : Size → Size → Ordering
group_cmp a b = ordering_then (text_cmp a.class b.class) (nat_cmp (count_one a.block) (count_one b.block))

-- by class, then volume mode, fewer modes, fewer bytes
abbrev pub size_cmp : Size → Size → Ordering
size_cmp a b = ordering_then (ordering_then (group_cmp a b) (nat_cmp a.modes b.modes)) (nat_cmp a.bytes b.bytes)

-- by name; volumes have no namespace, and where they had one it would come last
abbrev pub name_cmp : VolumeData → VolumeData → Ordering
name_cmp v u = ordering_then (text_cmp v.meta.name u.meta.name) (text_cmp v.meta.namespace u.meta.namespace)

-- by size, then name
abbrev pub by_size : VolumeData → VolumeData → Ordering
by_size v u = ordering_then (size_cmp (size_of v) (size_of u)) (name_cmp v u)

-- the namespace and name of a claim
pub record Owner : Type 0 where
  pub namespace : List ℕ
  pub name : List ℕ

-- the claim that a reference names
abbrev pub owner_in : Option Ref → Owner
owner_in None = record { namespace = []; name = [] }
owner_in (Some r) = record { namespace = r.namespace; name = r.name }

-- the claim that the volume refers to
abbrev pub owner_of : VolumeData → Owner
owner_of v = owner_in v.claim_ref

-- by namespace, then name
abbrev pub owner_cmp : Owner → Owner → Ordering
owner_cmp a b = ordering_then (text_cmp a.namespace b.namespace) (text_cmp a.name b.name)

-- fewer modes, fewer bytes, then name: the order of volumes that a claim prefers alike otherwise
abbrev pub need_cmp : VolumeData → VolumeData → Ordering
need_cmp v u = ordering_then (ordering_then (nat_cmp (mode_count v.modes) (mode_count u.modes)) (nat_cmp v.amount.bytes u.amount.bytes)) (name_cmp v u)

-- by the claim that they refer to, then as claims prefer them
abbrev pub by_owner : VolumeData → VolumeData → Ordering
by_owner v u = ordering_then (owner_cmp (owner_of v) (owner_of u)) (need_cmp v u)

-- volumes in such an order, none twice
abbrev pub AreInOrder : (VolumeData → VolumeData → Ordering) → List VolumeData → Type 0
AreInOrder cmp vs = IsRising cmp (λ v. v) vs
