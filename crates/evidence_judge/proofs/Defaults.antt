-- The default class among the caches is that of the newest told.
use Rattle.std.proofs.Common.{◌≡◌, ℕ, List, [], Some, sym, ◌∙◌, ap, subst}
use Rattle.kube_objects.specs.declared.key.Key.{Key}
use Rattle.kube_objects.specs.declared.objects.Class.{Class as ClassData}
use Rattle.kube_objects.specs.declared.objects.Object.TheVariants.{Class}
use Rattle.kube_types.specs.Defaults.{IsDefaultAt, StandsIn}
use Rattle.kube_objects.specs.Keys.{key_of, row_at}
use Rattle.kube_types.specs.Steps.Scan.{as_class, class_at}
use Rattle.call_types.specs.declared.entry.Entry.{Entry}
use Rattle.binder_model.specs.BinderLicence.{IsToldClass}
use Rattle.binder_model.specs.ObjectKeys.{class_key}
use Rattle.informer_cache.specs.All.{AllKnown, AllStandFor, all_objects}
use Rattle.licence_rows.proofs.NewestKeys.{newest_keyed}
use Rattle.licence_record.specs.Defaulted.{IsDefaultNamed}
use Rattle.model_laws.proofs.Lists.{one}

module _ (c : AllKnown) (mine : List Entry) (all : AllStandFor c mine) where
  told_stands : (other : ClassData) → IsToldClass mine other → StandsIn (all_objects c) other
  told_stands other told =
      let keyed : key_of (Class other) ≡ class_key other.meta.name = newest_keyed mine (class_key other.meta.name) (Class other) told in
      subst (λ (k : Key). row_at k (all_objects c) ≡ Some (Class other)) (sym keyed) (all.rows (class_key other.meta.name) ∙ told)

  stands_told : (class : ClassData) → class.meta.namespace ≡ [] → StandsIn (all_objects c) class → IsToldClass mine class
  stands_told class unplaced stands =
      sym (all.rows (class_key class.meta.name)) ∙ subst (λ n. row_at (record (class_key class.meta.name) { namespace = n }) (all_objects c) ≡ Some (Class class)) unplaced stands

  pub default_by : (place : ℕ) (class : ClassData) (name : List ℕ) → IsDefaultAt (all_objects c) place → Some class ≡ class_at (all_objects c) place
      → class.meta.namespace ≡ [] → class.meta.name ≡ name → IsDefaultNamed mine name
  default_by place class name d at unplaced named =
      let same : class ≡ d.class = one class d.class (at ∙ ap as_class d.at) in record {
        class = d.class;
        default = record {
          there = stands_told d.class (subst (λ (x : ClassData). x.meta.namespace ≡ []) same unplaced) d.default.there;
          marked = d.default.marked;
          first = λ other told marked. d.default.first other (told_stands other told) marked;
        };
        named = subst (λ (x : ClassData). x.meta.name ≡ name) same named;
      }
