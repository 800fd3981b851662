-- Keys of objects, in order.
-- Source: Kubernetes API, ObjectMeta, and Kubernetes documentation, "Object Names and IDs"; the order is a choice of this project.
use Rattle.std.specs.Prelude.{ℕ, ◌==◌, ◌<◌, ◌≤◌, ◌&&◌, List, Option, Bool, bytes_eq, filter}
use Rattle.std.specs.List.Sorted.{IsPartitionPoint}
use Rattle.std.specs.declared.cmp.Ordering.{Ordering}
use Rattle.std.specs.Ordering.{nat_cmp, ordering_then}
use Rattle.plain_data.specs.Pairs.{text_cmp}
use Rattle.plain_data.specs.Rows.{IsRising, IsAt, IsGap, put, find, without}
use Rattle.kube_parts.specs.declared.parts.Kind.{Kind}
use Rattle.kube_parts.specs.declared.parts.Kind.TheVariants.{StorageClass, PersistentVolume, PersistentVolumeClaim}
use Rattle.kube_parts.specs.declared.parts.Kind.TheVariants as kinds
use Rattle.kube_objects.specs.declared.objects.Meta.{Meta}
use Rattle.kube_objects.specs.declared.objects.Object.{Object}
use Rattle.kube_objects.specs.declared.objects.Object.TheVariants.{Class, Node, Volume, Claim, Pod}
use Rattle.kube_objects.specs.declared.key.Key.{Key}

-- Kubernetes API: ObjectMeta of an object
abbrev pub meta_of : Object → Meta
meta_of (Class x) = x.meta
meta_of (Node x) = x.meta
meta_of (Volume x) = x.meta
meta_of (Claim x) = x.meta
meta_of (Pod x) = x.meta

-- the kind of an object
abbrev pub kind_of : Object → Kind
kind_of (Class x) = StorageClass
kind_of (Node x) = kinds.Node
kind_of (Volume x) = PersistentVolume
kind_of (Claim x) = PersistentVolumeClaim
kind_of (Pod x) = kinds.Pod

-- the order of kinds, a choice of this project
abbrev pub kind_index : Kind → ℕ
kind_index StorageClass = 0
kind_index kinds.Node = 1
kind_index PersistentVolume = 2
kind_index PersistentVolumeClaim = 3
kind_index kinds.Pod = 4

-- whether two kinds are one
abbrev pub same_kind : Kind → Kind → Bool
same_kind a b = kind_index a == kind_index b

-- the key under which an object stands: its kind, namespace and name
abbrev pub key_of : Object → Key
key_of o = record { kind = kind_of o; namespace = (meta_of o).namespace; name = (meta_of o).name }

-- whether two keys are one. Kubernetes object names and IDs: one object of a kind has a given name at a time in a namespace
abbrev pub same_key : Key → Key → Bool
same_key a b = same_kind a.kind b.kind && bytes_eq a.namespace b.namespace && bytes_eq a.name b.name

-- by kind, then namespace, then name: a choice of this project
abbrev pub key_cmp : Key → Key → Ordering
key_cmp a b = ordering_then (ordering_then (nat_cmp (kind_index a.kind) (kind_index b.kind)) (text_cmp a.namespace b.namespace)) (text_cmp a.name b.name)

-- objects in the order of their keys, no key twice
abbrev pub AreRows : List Object → Type 0
AreRows os = IsRising key_cmp key_of os

-- the object that stands under the key, if any
abbrev pub row_at : Key → List Object → Option Object
row_at k os = find key_cmp key_of k os

-- the objects with this one under its key, in place of one that stood there
abbrev pub put_row : Object → List Object → List Object
put_row o os = put key_cmp key_of o os

-- the objects without the one under the key
abbrev pub without_row : Key → List Object → List Object
without_row k os = without key_cmp key_of k os

-- the object under the key stands at this place
abbrev pub IsRowAt : List Object → Key → ℕ → Type 0
IsRowAt os k i = IsAt key_cmp key_of k os i

-- no object stands under the key, and this is the place where one would stand
abbrev pub IsRowGap : List Object → Key → ℕ → Type 0
IsRowGap os k i = IsGap key_cmp key_of k os i

-- the object is one of this kind
abbrev pub is_of_kind : Kind → Object → Bool
is_of_kind kind o = same_kind (kind_of o) kind

-- the objects of a kind, in the order of namespace and name
abbrev pub rows_of : Kind → List Object → List Object
rows_of kind os = filter (is_of_kind kind) os

-- the objects of earlier kinds stand before this place, and those of this kind and of later ones from it on
abbrev pub IsKindStart : ℕ → List Object → ℕ → Type 0
IsKindStart index os i = IsPartitionPoint (λ o. kind_index (kind_of o) < index) (λ o. index ≤ kind_index (kind_of o)) os i
