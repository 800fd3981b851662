-- Which volume may be bound to a claim, and which of two a claim prefers: cases that hold, and for each condition one
-- that misses it alone.
-- Source: Kubernetes documentation, "Persistent Volumes" (Binding), and the volume index of `pv_controller.go`; else a
-- choice of this project, as the definitions are.
use Rattle.std.specs.Prelude.{ℕ, ◌≡◌, Bool, true, false, List, [], ◌∷◌, Option, Some, None, codes}
use Rattle.std.specs.declared.cmp.Ordering.{Ordering}
use Rattle.std.specs.declared.cmp.Ordering.TheVariants.{Less, Equal, Greater}
use Rattle.kube_parts.specs.declared.parts.Modes.{Modes}
use Rattle.kube_parts.specs.declared.parts.VolumePhase.TheVariants as volumes
use Rattle.kube_objects.specs.declared.objects.Node.{Node as NodeData}
use Rattle.kube_objects.specs.declared.objects.Claim.{Claim as ClaimData}
use Rattle.kube_objects.specs.declared.objects.Volume.{Volume as VolumeData}
use Rattle.kube_objects.specs.declared.objects.Object.{Object}
use Rattle.kube_objects.specs.declared.objects.Object.TheVariants.{Class, Volume, Claim}
use Rattle.kube_objects.specs.Bindings.{beta_class}
use Rattle.binder_model.specs.Store.{no_modes}
use Rattle.binder_model.specs.Provisioning.{terms_for}
use Rattle.binder_model.specs.Matching.{eligible, match_cmp, IsBest}
use Rattle.model_examples.specs.Samples.{once, amount, zone, a, c, fast, n1, in_phase, with_reference, deleting, name_c, other_ref_c, taken_a, bound_a, prebound_a, selecting_c}

-- the volume may be bound to the claim, or may not, where no node is given; and on the sample node
abbrev pub Serves : VolumeData → ClaimData → Bool → Type 0
Serves v x answer = eligible v x None ≡ answer

abbrev pub ServesOn : NodeData → VolumeData → ClaimData → Bool → Type 0
ServesOn n v x answer = eligible v x (Some n) ≡ answer

abbrev pub volume_of_class : List ℕ → VolumeData
volume_of_class name = record a { class = name }

abbrev pub claim_of_class : Option (List ℕ) → ClaimData
claim_of_class name = record c { class = name }

-- the class stands in the older annotation, and another one in the field
abbrev pub volume_by_annotation : VolumeData
volume_by_annotation = let old = volume_of_class (codes "fast") in record old { meta = record old.meta { annotations = (beta_class, codes "slow") ∷ [] } }

abbrev pub claim_by_annotation : ClaimData
claim_by_annotation = let old = claim_of_class (Some (codes "fast")) in record old { meta = record old.meta { annotations = (beta_class, codes "slow") ∷ [] } }

abbrev pub with_modes : Modes → VolumeData
with_modes modes = record a { modes = modes }

abbrev pub wanting : Modes → ClaimData
wanting modes = record c { modes = modes }

abbrev pub read_only : Modes
read_only = record no_modes { rox = true }

abbrev pub read_write_many : Modes
read_write_many = record no_modes { rwx = true }

abbrev pub for_one_pod : Modes
for_one_pod = record no_modes { rwop = true }

abbrev pub labelled_a : VolumeData
labelled_a = record a { meta = record a.meta { labels = zone } }

-- a volume that nodes of a zone reach
abbrev pub in_zone : List ℕ → VolumeData
in_zone name = record a { terms = terms_for (Some (codes "zone", name)) }

-- pre-bound to a claim of the name in another namespace, and to one of another name
abbrev pub prebound_in_x : VolumeData
prebound_in_x = with_reference (Some (record name_c { namespace = codes "x" })) a

abbrev pub prebound_to_d : VolumeData
prebound_to_d = with_reference (Some (record name_c { name = codes "d" })) a

pub record EligibleExamples : Type 0 where
  pub free_volume : Serves a c true
  pub of_the_very_size : Serves (record a { amount = amount 3 }) c true
  pub too_small : Serves (record a { amount = amount 2 }) c false
  pub deleting_volume : Serves (record a { meta = deleting a.meta }) c false
  pub unprotected_volume : Serves (record a { meta = record a.meta { finalizers = [] } }) c false
  pub of_other_class : Serves (volume_of_class (codes "fast")) c false
  pub of_no_class : Serves (volume_of_class []) c false
  pub of_no_class_for_a_claim_without : Serves (volume_of_class []) (claim_of_class None) true
  pub of_no_class_for_the_empty_class : Serves (volume_of_class []) (claim_of_class (Some [])) true
  pub of_a_class_for_a_claim_without : Serves a (claim_of_class None) false
  pub class_in_the_annotation : Serves volume_by_annotation c true
  pub class_of_the_claim_in_its_annotation : Serves a claim_by_annotation true
  pub block_for_a_claim_of_files : Serves (record a { block = true }) c false
  pub files_for_a_claim_of_a_block : Serves a (record c { block = true }) false
  pub block_for_a_claim_of_a_block : Serves (record a { block = true }) (record c { block = true }) true
  pub more_modes_than_wanted : Serves (with_modes (record once { rwx = true })) c true
  pub lacks_read_write_once : Serves (with_modes read_only) (wanting once) false
  pub lacks_read_only_many : Serves (with_modes once) (wanting read_only) false
  pub lacks_read_write_many : Serves (with_modes once) (wanting read_write_many) false
  pub lacks_one_pod : Serves (with_modes once) (wanting for_one_pod) false
  pub lacks_one_of_two : Serves (with_modes once) (wanting (record once { rwx = true })) false
  pub not_selected : Serves a selecting_c false
  pub selected : Serves labelled_a selecting_c true
  pub far_from_the_node : ServesOn n1 (in_zone (codes "z2")) c false
  pub near_the_node : ServesOn n1 (in_zone (codes "z1")) c true
  pub far_where_no_node_is_given : Serves (in_zone (codes "z2")) c true
  pub not_available_yet : Serves (in_phase volumes.Pending a) c false
  pub not_available_but_for_it : Serves (in_phase volumes.Pending prebound_a) c true
  pub available_and_for_it : Serves prebound_a c true
  pub taken_for_it : Serves taken_a c true
  pub bound_for_it : Serves bound_a c true
  pub released_for_it : Serves (in_phase volumes.Released taken_a) c false
  pub failed_for_it : Serves (in_phase volumes.Failed taken_a) c false
  pub for_other_name : Serves prebound_to_d c false
  pub for_other_namespace : Serves prebound_in_x c false
  pub for_other_uid : Serves (with_reference (Some other_ref_c) a) c false

-- the order in which a claim prefers volumes: each rule over the next

-- the first volume comes before the second, or they are alike
abbrev pub Compares : VolumeData → VolumeData → Ordering → Type 0
Compares v u order = match_cmp c v u ≡ order

-- a volume of this name and size, and one with these modes
abbrev pub sized : List ℕ → ℕ → VolumeData
sized name gibibytes = record a { meta = record a.meta { name = name }; amount = amount gibibytes }

abbrev pub large_own : VolumeData
large_own = with_reference (Some name_c) (sized (codes "z") 9)

pub record PreferenceExamples : Type 0 where
  pub own_before_smaller : Compares large_own a Less
  pub own_before_fewer_modes : Compares (record large_own { modes = record once { rwx = true } }) a Less
  pub other_after_own : Compares a large_own Greater
  pub fewer_modes_before_smaller : Compares (sized (codes "z") 9) (with_modes (record once { rwx = true })) Less
  pub read_write_once_is_a_mode : Compares (with_modes read_only) (with_modes (record once { rox = true })) Less
  pub read_only_many_is_a_mode : Compares a (with_modes (record once { rox = true })) Less
  pub read_write_many_is_a_mode : Compares a (with_modes (record once { rwx = true })) Less
  pub one_pod_is_a_mode : Compares a (with_modes (record once { rwop = true })) Less
  pub two_modes_before_three : Compares (with_modes (record once { rwx = true })) (with_modes (record once { rox = true; rwx = true })) Less
  pub which_mode_is_not_asked : Compares (with_modes read_only) (sized (codes "b") 5) Less
  pub smaller_before_first_name : Compares (sized (codes "z") 4) a Less
  pub first_name_last : Compares a (sized (codes "b") 5) Less
  pub second_name_after : Compares (sized (codes "b") 5) a Greater
  pub itself : Compares a a Equal

-- the best of the candidates, by its place among the volumes

abbrev pub two_free : List Object
two_free = Class fast ∷ Volume a ∷ Volume (sized (codes "b") 4) ∷ Claim c ∷ []

abbrev pub one_own : List Object
one_own = Volume a ∷ Volume large_own ∷ Claim c ∷ []

abbrev pub far_rows : List Object
far_rows = Volume (in_zone (codes "z2")) ∷ Claim c ∷ []

pub record BestExamples : Type 0 where
  pub smaller_is_best : IsBest two_free c None false [] (Some 1)
  pub larger_is_not : IsBest two_free c None false [] (Some 0) → ⊥
  pub none_is_no_answer : IsBest two_free c None false [] None → ⊥
  pub no_volume_stands_there : IsBest two_free c None false [] (Some 2) → ⊥
  pub other_where_best_is_given_away : IsBest two_free c None false (1 ∷ []) (Some 0)
  pub given_away_is_not : IsBest two_free c None false (1 ∷ []) (Some 1) → ⊥
  pub none_of_its_own : IsBest two_free c None true [] None
  pub other_is_not_its_own : IsBest one_own c None true [] (Some 0) → ⊥
  pub its_own : IsBest one_own c None true [] (Some 1)
  pub none_near_the_node : IsBest far_rows c (Some n1) false [] None
  pub far_is_not_best : IsBest far_rows c (Some n1) false [] (Some 0) → ⊥
