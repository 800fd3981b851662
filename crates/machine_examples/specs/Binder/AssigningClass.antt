-- The default class in retrospect: when a claim gets it, the one update that sets it, and phase Lost that is not written twice. Cases that
-- the definitions give, each beside others that they give otherwise.
-- A choice of this project, as the machines are.
use Rattle.std.specs.Prelude.{◌≡◌, true, List, [], ◌∷◌, Some, None, codes}
use Rattle.kube_parts.specs.declared.parts.ClaimPhase.TheVariants as claims
use Rattle.kube_types.specs.declared.lookup.Live.TheVariants.{NotAsked, Absent}
use Rattle.kube_objects.specs.declared.objects.Claim.{Claim as ClaimData}
use Rattle.kube_objects.specs.declared.objects.Class.{Class as ClassData}
use Rattle.kube_objects.specs.declared.objects.Volume.{Volume as VolumeData}
use Rattle.kube_objects.specs.declared.objects.Object.{Object}
use Rattle.kube_objects.specs.declared.objects.Object.TheVariants.{Class, Volume, Claim}
use Rattle.kube_objects.specs.Bindings.{beta_class, is_default_class}
use Rattle.kube_types.specs.Defaults.{IsDefaultOf, StandsIn}
use Rattle.call_types.specs.declared.request.Request.TheVariants.{Update}
use Rattle.call_types.specs.declared.reply.Refusal.TheVariants.{Conflict}
use Rattle.call_types.specs.declared.reply.Reply.TheVariants.{Done, Refused}
use Rattle.claim_sync.specs.ClaimDecision.{claim_decision}
use Rattle.claim_sync.specs.declared.action.ClaimStep.{ClaimStep}
use Rattle.claim_sync.specs.declared.action.ClaimStep.TheVariants.{Nothing, Bind, AssignClass, Lost}
use Rattle.binder_machines.specs.declared.machine.Machine.TheVariants.{AssignsClass}
use Rattle.binder_machines.specs.Machines.{call_of, moved, parks_at}
use Rattle.model_examples.specs.Samples.{a, bound_a, bound_c, bound_for_other, c, completed_c, deleting, fast, naming, nameless_c, standing, with_uid}

-- a claim that names no class, and a volume of no class
abbrev pub classless_c : ClaimData
classless_c = record c { class = None }

abbrev pub classless_a : VolumeData
classless_a = record a { class = [] }

-- the class of the samples, marked as the default one; and one that is marked, and was created a second later
abbrev pub marked : ClassData
marked = record fast { meta = record fast.meta { annotations = (is_default_class, codes "true") ∷ [] } }

abbrev pub newer : ClassData
newer = record marked { meta = record (standing [] (codes "new") 7 7 [] ((is_default_class, codes "true") ∷ [])) { created = codes "2000-01-01T00:00:01Z" } }

-- the claim with the name of the class
abbrev pub classed_c : ClaimData
classed_c = record classless_c { class = Some (codes "slow") }

abbrev pub lost : ClaimData → ClaimData
lost claim = record claim { phase = claims.Lost }

-- where the look-up shows these objects, this is done about the claim
abbrev pub Does : List Object → ClaimData → ClaimStep → Type 0
Does rows claim step = claim_decision rows claim NotAsked ≡ step

pub record AssigningExamples : Type 0 where
  pub classless_claim_gets_the_default : Does (Class marked ∷ []) classless_c AssignClass
  pub match_is_taken_first : Does (Class marked ∷ Volume classless_a ∷ []) classless_c Bind
  pub without_a_marked_class_none_is_assigned : Does (Class fast ∷ []) classless_c Nothing
  pub class_stays : Does (Class marked ∷ []) c Nothing
  pub empty_class_stays : Does (Class marked ∷ []) (record c { class = Some [] }) Nothing
  pub older_annotation_stays : Does (Class marked ∷ []) (record classless_c { meta = record classless_c.meta { annotations = (beta_class, codes "slow") ∷ [] } }) Nothing
  pub deleting_claim_gets_none : Does (Class marked ∷ []) (record classless_c { meta = deleting classless_c.meta }) Nothing
  pub claim_that_names_a_volume_gets_none : Does (Class marked ∷ []) (naming (codes "b") classless_c) Nothing
  pub completed_claim_gets_none : Does (Class marked ∷ []) (record (lost nameless_c) { class = None }) Nothing
  pub older_default_is_not_it : IsDefaultOf (StandsIn (Class newer ∷ Class marked ∷ [])) marked → ⊥

pub record ClassWriteExamples : Type 0 where
  pub sets_the_class_alone : call_of (AssignsClass classless_c marked) ≡ Some (Update (Claim classed_c) (Some 2))
  pub claim_without_uid_is_left : call_of (AssignsClass (with_uid None classless_c) marked) ≡ None
  pub class_in_a_namespace_is_left : call_of (AssignsClass classless_c (record marked { meta = record marked.meta { namespace = codes "x" } })) ≡ None
  pub ends_with_its_answer : moved (AssignsClass classless_c marked) (Done (Claim classed_c)) ≡ None
  pub refusal_parks : parks_at (AssignsClass classless_c marked) (Refused (Conflict 3)) ≡ true

pub record LostOnceExamples : Type 0 where
  pub nameless_claim_is_lost : Does [] nameless_c Lost
  pub nameless_stays_lost : Does [] (lost nameless_c) Nothing
  pub lost_claim_is_not_read : Does [] (lost completed_c) Nothing
  pub absence_is_not_written_again : claim_decision [] (lost completed_c) Absent ≡ Nothing
  pub volume_of_another_claim_is_no_reason : Does (Volume bound_for_other ∷ []) (lost bound_c) Nothing
  pub volume_that_carries_it_is_bound : Does (Volume bound_a ∷ []) (lost bound_c) Bind
