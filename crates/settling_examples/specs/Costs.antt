-- What an object and a slot cost at most in calls: small cases, and worlds in which all is listed again.
-- A choice of this project.
use Rattle.std.specs.Prelude.{ℕ, ◌≡◌, true, List, [], ◌∷◌, codes}
use Rattle.kube_parts.specs.declared.parts.VolumePhase.{VolumePhase}
use Rattle.kube_parts.specs.declared.parts.VolumePhase.TheVariants as volumes
use Rattle.kube_objects.specs.declared.objects.Object.{Object}
use Rattle.kube_objects.specs.declared.objects.Object.TheVariants.{Class, Claim, Node, Pod, Volume}
use Rattle.kube_objects.specs.Bindings.{no_provisioner}
use Rattle.call_types.specs.declared.request.SeatKind.{SeatKind}
use Rattle.call_types.specs.declared.request.SeatKind.TheVariants as seats
use Rattle.settle_measure.specs.Left.Small.{free, meta, open_claim}
use Rattle.settle_round_calls.specs.Slots.Costs.{made_calls, own_calls}
use Rattle.settle_round_calls.specs.Slots.Slots.{again_calls, ended_in, objects_calls, ops_sweep_calls}
use Rattle.settle_round_calls.specs.Rest.ShortRounds.{agent_sweep_calls, sweep_calls}
use Rattle.settling_examples.specs.Ending.{class_of, copies, pod_on}

-- ---- what an object costs

-- a number for each role, in this order: a user, the binder, ops, the scheduler, claim protection, volume protection, an agent
abbrev pub by_roles : (SeatKind → ℕ) → List ℕ
by_roles calls = calls seats.User ∷ calls seats.Binder ∷ calls seats.Ops ∷ calls seats.Scheduler ∷ calls seats.ClaimProtect ∷ calls seats.VolumeProtect ∷ calls seats.Agent ∷ []

abbrev pub costs : Object → List ℕ
costs o = by_roles (λ kind. own_calls kind o)

-- a volume of this phase
abbrev pub volume_in : VolumePhase → Object
volume_in phase = Volume (free phase)

-- a pod that names these claims
abbrev pub pod_naming : List (List ℕ) → Object
pod_naming names = Pod (record (pod_on (codes "p") []) { claims = names })

pub record CostExamples : Type 0 where
  -- a volume costs the binder three and volume protection one, and ops three once it has ended
  pub pending : costs (volume_in volumes.Pending) ≡ 0 ∷ 3 ∷ 0 ∷ 0 ∷ 0 ∷ 1 ∷ 0 ∷ []
  pub available : costs (volume_in volumes.Available) ≡ 0 ∷ 3 ∷ 0 ∷ 0 ∷ 0 ∷ 1 ∷ 0 ∷ []
  pub bound : costs (volume_in volumes.Bound) ≡ 0 ∷ 3 ∷ 0 ∷ 0 ∷ 0 ∷ 1 ∷ 0 ∷ []
  pub released : costs (volume_in volumes.Released) ≡ 0 ∷ 3 ∷ 3 ∷ 0 ∷ 0 ∷ 1 ∷ 0 ∷ []
  pub failed : costs (volume_in volumes.Failed) ≡ 0 ∷ 3 ∷ 3 ∷ 0 ∷ 0 ∷ 1 ∷ 0 ∷ []
  -- as one that is made for a claim does, which has not ended
  pub made : by_roles made_calls ≡ 0 ∷ 3 ∷ 0 ∷ 0 ∷ 0 ∷ 1 ∷ 0 ∷ []
  -- a claim costs the binder, ops and claim protection two each
  pub claim : costs (Claim open_claim) ≡ 0 ∷ 2 ∷ 2 ∷ 0 ∷ 2 ∷ 0 ∷ 0 ∷ []
  -- a pod costs the scheduler one, and an agent three and two for each claim that it names
  pub pod : costs (pod_naming []) ≡ 0 ∷ 0 ∷ 0 ∷ 1 ∷ 0 ∷ 0 ∷ 3 ∷ []
  pub one_claim : costs (pod_naming (codes "c" ∷ [])) ≡ 0 ∷ 0 ∷ 0 ∷ 1 ∷ 0 ∷ 0 ∷ 5 ∷ []
  pub two_claims : costs (pod_naming (codes "c" ∷ codes "d" ∷ [])) ≡ 0 ∷ 0 ∷ 0 ∷ 1 ∷ 0 ∷ 0 ∷ 7 ∷ []
  pub placed : costs (Pod (pod_on (codes "p") (codes "n"))) ≡ 0 ∷ 0 ∷ 0 ∷ 1 ∷ 0 ∷ 0 ∷ 5 ∷ []
  -- a class and a node cost nobody any
  pub class : costs (Class (class_of true no_provisioner)) ≡ 0 ∷ 0 ∷ 0 ∷ 0 ∷ 0 ∷ 0 ∷ 0 ∷ []
  pub node : costs (Node (record { meta = meta [] (codes "n") 3 []; extra = [] })) ≡ 0 ∷ 0 ∷ 0 ∷ 0 ∷ 0 ∷ 0 ∷ 0 ∷ []

-- ---- what a slot costs

-- what all these objects cost
abbrev pub costs_of : List Object → List ℕ
costs_of rows = by_roles (λ kind. objects_calls kind rows)

-- an open volume and one that has ended, a claim, and a pod that names one
abbrev pub four_objects : List Object
four_objects = volume_in volumes.Available ∷ volume_in volumes.Released ∷ Claim open_claim ∷ pod_naming (codes "c" ∷ []) ∷ []

pub record SlotExamples : Type 0 where
  -- what the objects cost, and for each claim a volume that may be made: three for the binder, one for volume protection
  pub nothing : costs_of [] ≡ 0 ∷ 0 ∷ 0 ∷ 0 ∷ 0 ∷ 0 ∷ 0 ∷ []
  pub four : costs_of four_objects ≡ 0 ∷ 11 ∷ 5 ∷ 1 ∷ 2 ∷ 3 ∷ 5 ∷ []
  pub two_claims : costs_of (Claim open_claim ∷ Claim open_claim ∷ []) ≡ 0 ∷ 10 ∷ 4 ∷ 0 ∷ 4 ∷ 2 ∷ 0 ∷ []
  -- 513 writes have 3,591 calls left. An agent is left three for its one kind and three for each pod, the binder 15 for its three kinds and five for
  -- each claim, and ops 24 for its four kinds and two for each claim: what is more than these is made again
  pub agent_none : again_calls seats.Agent (copies 1196 (pod_naming [])) ≡ 0
  pub agent_some : again_calls seats.Agent (copies 1197 (pod_naming [])) ≡ 3
  pub binder_none : again_calls seats.Binder (copies 715 (Claim open_claim)) ≡ 0
  pub binder_some : again_calls seats.Binder (copies 716 (Claim open_claim)) ≡ 4
  pub ops_none : again_calls seats.Ops (copies 1783 (Claim open_claim)) ≡ 0
  pub ops_some : again_calls seats.Ops (copies 1784 (Claim open_claim)) ≡ 1

-- ---- what ops and an agent list again

-- a claim, and a volume of each phase
abbrev pub each_phase : List Object
each_phase = Claim open_claim ∷ volume_in volumes.Pending ∷ volume_in volumes.Available ∷ volume_in volumes.Bound ∷ volume_in volumes.Released ∷ volume_in volumes.Failed ∷ []

pub record SweepExamples : Type 0 where
  -- a volume that is Released or Failed has ended
  pub none_ended : ended_in [] ≡ 0
  pub two_ended : ended_in each_phase ≡ 2
  -- two for each claim, three for each volume that has ended and 24 for the kinds, beyond 3,591
  pub rows_few_claims : ops_sweep_calls (copies 1783 (Claim open_claim)) ≡ 0
  pub rows_claims : ops_sweep_calls (copies 1784 (Claim open_claim)) ≡ 1
  pub rows_few_ended : ops_sweep_calls (copies 1189 (volume_in volumes.Released)) ≡ 0
  pub rows_ended : ops_sweep_calls (copies 1190 (volume_in volumes.Released)) ≡ 3
  pub rows_open : ops_sweep_calls (copies 1190 (volume_in volumes.Available)) ≡ 0
  -- the same by how many claims and volumes there are
  pub by_few_claims : sweep_calls 1783 0 ≡ 0
  pub by_claims : sweep_calls 1784 0 ≡ 1
  pub by_few_volumes : sweep_calls 0 1189 ≡ 0
  pub by_volumes : sweep_calls 0 1190 ≡ 3
  pub by_both : sweep_calls 1000 1000 ≡ 1433
  -- and of an agent by how many pods: three for each and for its kind
  pub by_few_pods : agent_sweep_calls 1196 ≡ 0
  pub by_pods : agent_sweep_calls 1197 ≡ 3
