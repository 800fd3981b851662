-- Which claims grow, and each reason why another does not. A choice of this project.
use Rattle.std.specs.Prelude.{ℕ, ◌≡◌, true, false, List, [], ◌∷◌, Option, Some, None, codes}
use Rattle.kube_parts.specs.declared.parts.ClaimPhase.TheVariants as phases
use Rattle.kube_objects.specs.declared.objects.Volume.{Volume as VolumeData}
use Rattle.kube_objects.specs.declared.objects.Object.{Object}
use Rattle.kube_objects.specs.declared.objects.Object.TheVariants.{Class, Claim, Volume}
use Rattle.model_examples.specs.Samples.{amount, bound_a, bound_c, bound_for_other, deleting, key_a, key_c, key_d, nameless_c, uncompleted_c}
use Rattle.side_calls.specs.declared.sizes.GrowError.{GrowError}
use Rattle.side_calls.specs.declared.sizes.GrowError.TheVariants.{NotGrowable, OverBytes}
use Rattle.side_calls.specs.declared.sizes.SizeRow.{SizeRow}
use Rattle.side_calls.specs.declared.sizes.Why.TheVariants as reasons
use Rattle.quota_rules.specs.Using.{Tally}
use Rattle.expand_ops.specs.Growing.{grow_fault, lets_grow, rows_grown}
use Rattle.side_examples.specs.Samples.{class_with, counted, gibi, growable, here, lets, provisioned, quota, row, three, volume_with}

-- ---- classes

pub record LetsExamples : Type 0 where
  -- the member must stand and be true
  pub true_lets : lets_grow lets ≡ true
  pub among_others : lets_grow (codes "{\"a\":[1],\"allowVolumeExpansion\":true,\"z\":null}") ≡ true
  pub not_false : lets_grow (codes "{\"allowVolumeExpansion\":false}") ≡ false
  pub not_a_text : lets_grow (codes "{\"allowVolumeExpansion\":\"true\"}") ≡ false
  pub no_member : lets_grow (codes "{\"allow\":true}") ≡ false
  pub nothing : lets_grow [] ≡ false

-- ---- reasons

-- the claim counts with so much against a quota of 8 gibibytes
abbrev pub tally : ℕ → Tally
tally size = record { quotas = quota here 8 1 ∷ []; counted = counted here (codes "c") 2 size ∷ [] }

-- why the claim c, which counts with its request, does not grow to so much among these objects
abbrev pub fault_to : ℕ → List Object → Option GrowError
fault_to size objects = grow_fault (tally 3) [] objects key_c (gibi size)

-- the volume as it was provisioned
abbrev pub own : VolumeData
own = volume_with provisioned

pub record FaultExamples : Type 0 where
  -- it grows to what the quota has left, and to what it asks for already
  pub grows : fault_to 8 growable ≡ None
  pub to_the_same : fault_to 3 growable ≡ None
  -- one gibibyte more is too much for the quota, though there is no claim more
  pub over : fault_to 9 growable ≡ Some (OverBytes (gibi 3) (gibi 8))
  -- no claim of the key: none at all, or an object of another kind
  pub absent : grow_fault (tally 3) [] growable key_d (gibi 4) ≡ Some (NotGrowable reasons.Absent)
  pub volume : grow_fault (tally 3) [] growable key_a (gibi 4) ≡ Some (NotGrowable reasons.Absent)
  pub deleting_claim : fault_to 4 (three (class_with lets) own (record bound_c { meta = deleting bound_c.meta })) ≡ Some (NotGrowable reasons.Deleting)
  -- not bound: by its phase, without the annotation, with no volume, with one that is another's, or by its status
  pub pending : fault_to 4 (three (class_with lets) own (record bound_c { phase = phases.Pending })) ≡ Some (NotGrowable reasons.NotBound)
  pub lost : fault_to 4 (three (class_with lets) own (record bound_c { phase = phases.Lost })) ≡ Some (NotGrowable reasons.NotBound)
  pub not_completed : fault_to 4 (three (class_with lets) own uncompleted_c) ≡ Some (NotGrowable reasons.NotBound)
  pub no_volume : fault_to 4 (Class (class_with lets) ∷ Claim bound_c ∷ []) ≡ Some (NotGrowable reasons.NotBound)
  pub names_none : fault_to 4 (three (class_with lets) own nameless_c) ≡ Some (NotGrowable reasons.NotBound)
  pub anothers : fault_to 4 (three (class_with lets) bound_for_other bound_c) ≡ Some (NotGrowable reasons.NotBound)
  pub given_nothing : fault_to 4 (three (class_with lets) own (record bound_c { got = None })) ≡ Some (NotGrowable reasons.NotBound)
  pub given_less : fault_to 4 (three (class_with lets) own (record bound_c { got = Some (amount 4) })) ≡ Some (NotGrowable reasons.NotBound)
  -- nobody provisioned the volume
  pub static : fault_to 4 (three (class_with lets) bound_a bound_c) ≡ Some (NotGrowable reasons.Static)
  -- the class lets no claim grow, or is absent
  pub class : fault_to 4 (three (class_with []) own bound_c) ≡ Some (NotGrowable reasons.Class)
  pub no_class : fault_to 4 (Volume own ∷ Claim bound_c ∷ []) ≡ Some (NotGrowable reasons.Class)
  -- less than it asks for: its request, or what it grew to
  pub smaller : fault_to 2 growable ≡ Some (NotGrowable reasons.Smaller)
  pub smaller_than_grown : grow_fault (tally 6) (row 6 5 5 5 5 ∷ []) growable key_c (gibi 5) ≡ Some (NotGrowable reasons.Smaller)
  -- of more reasons the first
  pub deleting_before_class : fault_to 4 (three (class_with []) own (record bound_c { meta = deleting bound_c.meta })) ≡ Some (NotGrowable reasons.Deleting)
  pub bound_before_static : fault_to 4 (three (class_with []) bound_a uncompleted_c) ≡ Some (NotGrowable reasons.NotBound)
  pub static_before_class : fault_to 4 (three (class_with []) bound_a bound_c) ≡ Some (NotGrowable reasons.Static)
  pub class_before_smaller : fault_to 2 (three (class_with []) own bound_c) ≡ Some (NotGrowable reasons.Class)

-- ---- rows

-- the rows after the claim c, which asked for so much, was asked to grow to so much
abbrev pub rows_to : ℕ → ℕ → List SizeRow → List SizeRow
rows_to old size sizes = rows_grown (tally old) sizes growable key_c (gibi size)

pub record RowExamples : Type 0 where
  -- the first growth makes a row, of what the status and the volume have
  pub first : rows_to 3 7 [] ≡ row 7 5 5 5 5 ∷ []
  -- a later one changes what it asks for alone
  pub later : rows_to 7 8 (row 7 5 6 7 5 ∷ []) ≡ row 8 5 6 7 5 ∷ []
  -- it may ask for less than is stored
  pub within : rows_to 3 4 [] ≡ row 4 5 5 5 5 ∷ []
  -- one that is refused changes nothing
  pub over : rows_to 7 9 (row 7 5 6 7 5 ∷ []) ≡ row 7 5 6 7 5 ∷ []
