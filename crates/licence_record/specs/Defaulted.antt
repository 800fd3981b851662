-- The default one of the classes that were told newest, as it is asked for by its name.
-- A choice of this project.
use Rattle.std.specs.Prelude.{ℕ, ◌≡◌, ◌≢◌, List, [], true}
use Rattle.std.specs.declared.cmp.Ordering.TheVariants.{Greater}
use Rattle.kube_objects.specs.declared.objects.Class.{Class as ClassData}
use Rattle.kube_objects.specs.declared.objects.Object.{Object}
use Rattle.kube_objects.specs.declared.objects.Object.TheVariants.{Class}
use Rattle.kube_types.specs.Defaults.{IsDefaultOf, class_cmp, is_default}
use Rattle.call_types.specs.declared.entry.Entry.{Entry}
use Rattle.binder_model.specs.BinderLicence.{IsToldClass}

-- the class of this name is the default one
pub record IsDefaultNamed (mine : List Entry) (name : List ℕ) : Type 0 where
  pub class : ClassData
  pub default : IsDefaultOf (IsToldClass mine) class
  pub named : class.meta.name ≡ name

-- the class is marked, and no marked one of those that were told newest comes before it
pub record IsFirstMarked (mine : List Entry) (class : ClassData) : Type 0 where
  pub marked : is_default class ≡ true
  pub first : (other : ClassData) → IsToldClass mine other → is_default other ≡ true → class_cmp class other ≢ Greater

-- the object is a class with this property
abbrev pub IsClassWith : (ClassData → Type 0) → Object → Type 0
IsClassWith P (Class x) = P x
IsClassWith P _ = ⊥

-- the class, which is in no namespace, is marked
abbrev pub IsMarked : ClassData → Type 0
IsMarked x = (x.meta.namespace ≡ []) × (is_default x ≡ true)

-- the other class comes before this one
abbrev pub IsBefore : ClassData → ClassData → Type 0
IsBefore class other = class_cmp class other ≡ Greater
