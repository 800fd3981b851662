-- What is done about a key on a look-up alone: cases that the definitions give, each beside others that they give otherwise.
-- A choice of this project, as the machines are.
use Rattle.std.specs.Prelude.{List, [], ◌∷◌, Some}
use Rattle.kube_parts.specs.declared.parts.VolumePhase.TheVariants as volumes
use Rattle.kube_objects.specs.declared.objects.Object.{Object}
use Rattle.kube_objects.specs.declared.objects.Object.TheVariants.{Volume, Claim}
use Rattle.binder_machines.specs.declared.decide.FirstMachine.{FirstMachine}
use Rattle.binder_machines.specs.declared.decide.FirstMachine.TheVariants.{Drops, Queues, Begins}
use Rattle.binder_machines.specs.declared.machine.Machine.TheVariants.{Frees, MarksBound, ReadsClaim, Releases, Unbinds, ReadsVolume, Loses}
use Rattle.binder_machines.specs.FirstSteps.{IsFirst}
use Rattle.model_examples.specs.Samples.{a, bound_a, bound_c, bound_for_other, c, elsewhere_c, here_c, in_phase, key_c, nameless_c, other_c, prebound_a, released_a, taken_a}
use Rattle.model_examples.specs.BinderReleases.{reclaimed_a}

-- where the look-up shows these objects, this is done about the object
abbrev pub On : List Object → Object → FirstMachine → Type 0
On rows o first = IsFirst rows (Some o) first

pub record VolumeExamples : Type 0 where
  pub pending_becomes_available : On (Volume (in_phase volumes.Pending a) ∷ []) (Volume (in_phase volumes.Pending a)) (Begins (Frees (in_phase volumes.Pending a)))
  pub prebound_by_a_user_becomes_available : On [] (Volume (in_phase volumes.Pending prebound_a)) (Begins (Frees (in_phase volumes.Pending prebound_a)))
  pub available_is_dropped : On (Volume a ∷ []) (Volume a) Drops
  pub claim_that_is_not_seen_is_read : On (Volume taken_a ∷ []) (Volume taken_a) (Begins (ReadsClaim taken_a))
  pub claim_of_another_uid_is_read : On (Volume taken_a ∷ Claim other_c ∷ []) (Volume taken_a) (Begins (ReadsClaim taken_a))
  pub released_is_dropped : On (Volume released_a ∷ []) (Volume released_a) Drops
  pub claim_that_names_none_is_queued : On (Volume taken_a ∷ Claim c ∷ []) (Volume taken_a) (Queues key_c)
  pub claim_that_names_it_marks_it : On (Volume taken_a ∷ Claim here_c ∷ []) (Volume taken_a) (Begins (MarksBound taken_a))
  pub bound_is_dropped : On (Volume bound_a ∷ Claim bound_c ∷ []) (Volume bound_a) Drops
  pub claim_elsewhere_unbinds_it : On (Volume bound_a ∷ Claim elsewhere_c ∷ []) (Volume bound_a) (Begins (Unbinds bound_a))
  pub claim_elsewhere_releases_reclaimed : On (Volume reclaimed_a ∷ Claim elsewhere_c ∷ []) (Volume reclaimed_a) (Begins (Releases reclaimed_a))

pub record ClaimExamples : Type 0 where
  pub volume_that_is_not_seen_is_read : On (Claim bound_c ∷ []) (Claim bound_c) (Begins (ReadsVolume bound_c))
  pub volume_of_another_claim_is_read : On (Volume bound_for_other ∷ Claim bound_c ∷ []) (Claim bound_c) (Begins (ReadsVolume bound_c))
  pub completed_without_a_name_is_lost : On (Claim nameless_c ∷ []) (Claim nameless_c) (Begins (Loses nameless_c))
  pub bound_claim_is_dropped : On (Volume bound_a ∷ Claim bound_c ∷ []) (Claim bound_c) Drops
  pub claim_without_a_match_is_dropped : On (Claim c ∷ []) (Claim c) Drops
