-- The stated budget and the worlds that are small, the classes and shared claims of drains that end, the nodes, the agents and the
-- turn lines of a script, and the number of a volume: small cases.
-- A choice of this project.
use Rattle.std.specs.Prelude.{ℕ, ◌≡◌, zero, suc, Bool, true, false, List, [], ◌∷◌, Option, Some, None, codes}
use Rattle.kube_parts.specs.declared.parts.Policy.TheVariants as policies
use Rattle.kube_parts.specs.declared.parts.VolumePhase.TheVariants as volumes
use Rattle.kube_objects.specs.declared.objects.Claim.{Claim as ClaimData}
use Rattle.kube_objects.specs.declared.objects.Class.{Class as ClassData}
use Rattle.kube_objects.specs.declared.objects.Pod.{Pod as PodData}
use Rattle.kube_objects.specs.declared.objects.Object.{Object}
use Rattle.kube_objects.specs.declared.objects.Object.TheVariants.{Claim, Class, Pod, Volume}
use Rattle.kube_objects.specs.Bindings.{no_provisioner}
use Rattle.call_types.specs.declared.entry.Entry.{Entry}
use Rattle.call_types.specs.declared.reply.Reply.TheVariants.{Epoch}
use Rattle.call_types.specs.declared.request.Request.TheVariants.{TakeNode}
use Rattle.call_types.specs.declared.request.SeatKind.TheVariants as seats
use Rattle.call_types.specs.declared.setup.Setup.{Setup}
use Rattle.binder_model.specs.Devices.{no_devices}
use Rattle.binder_model.specs.Store.{first_moment}
use Rattle.binder_model.specs.World.{World}
use Rattle.script_lines.specs.declared.actors.Actor.TheVariants.{Agent}
use Rattle.script_text.specs.declared.script.Line.{Line}
use Rattle.script_text.specs.declared.script.Line.TheVariants.{Drain, Turn}
use Rattle.script_text.specs.declared.script.Script.{Script}
use Rattle.settle_measure.specs.Left.Small.{completed, meta, open_claim, volume_of}
use Rattle.settle_budget.specs.Drains.Budget.{IsSmallWorld, enough_calls}
use Rattle.settle_round_calls.specs.Rest.ShortRounds.{HasShortRounds, stated_calls}
use Rattle.settle_budget.specs.Drains.Measured.{SharesWell}
use Rattle.settle_budget.specs.Drains.Selections.{NoneProvisionsLate}
use Rattle.replay_laws.specs.Drains.Naming.{ArePodsOnNamed}
use Rattle.volume_index.specs.VolumePlaces.{IsNth, has_size}
use Rattle.replay_laws.specs.Settles.Settling.{AllowsSettling, LeaveAgents, NoAgentIsStale}

-- a world of these objects
abbrev pub world_with : List Object → World
world_with rows = record { store = record { rows = rows; version = 9 }; moment = first_moment; log = []; devices = no_devices }

-- a setup that imports these objects, with these faults planned
abbrev pub setup_with : List ℕ → List Object → Setup
setup_with faults imports = record { pools = []; faults = faults; imports = imports }

-- a pod of this name, on this node or none, that names the claim
abbrev pub pod_on : List ℕ → List ℕ → PodData
pod_on name node = record { meta = meta (codes "ns") name 5 []; claims = codes "c" ∷ []; node = node; extra = [] }

-- ---- the budget

-- faults of so many calls, from the first on
unfoldable pub faults_upto : ℕ → List ℕ
faults_upto zero = []
faults_upto (suc n) = suc n ∷ faults_upto n

pub record BudgetExamples : Type 0 where
  -- 16384 times the square of 16 where nothing stands, and of 18 where two objects do; twice that where a planned fault is ahead
  pub nothing : enough_calls 0 0 ≡ 4194304
  pub pair : enough_calls 2 0 ≡ 5308416
  pub fault : enough_calls 2 1 ≡ 10616832
  -- two objects and 508 faults are few; with one fault more they are not, nor with the claims that a pod names
  pub few : IsSmallWorld (setup_with (faults_upto 508) []) (world_with (Claim open_claim ∷ Claim open_claim ∷ []))
  pub many : IsSmallWorld (setup_with (faults_upto 509) []) (world_with (Claim open_claim ∷ Claim open_claim ∷ [])) → ⊥

-- ---- the calls of a round

pub record CallExamples : Type 0 where
  -- 256 for each of 16 where nothing stands, for each of 18 where two objects do, and for one more where a planned fault is ahead
  pub nothing : stated_calls (setup_with [] []) (world_with []) ≡ 4096
  pub pair : stated_calls (setup_with [] []) (world_with (Claim open_claim ∷ Claim open_claim ∷ [])) ≡ 4608
  pub fault : stated_calls (setup_with (1 ∷ []) []) (world_with (Claim open_claim ∷ Claim open_claim ∷ [])) ≡ 4864
  -- a pod counts as one, and for each claim that it names
  pub named : stated_calls (setup_with [] []) (world_with (Pod (pod_on (codes "p") []) ∷ [])) ≡ 4608

-- ---- worlds whose rounds are short

-- so many objects that are the same
unfoldable pub copies : ℕ → Object → List Object
copies zero o = []
copies (suc n) o = o ∷ copies n o

pub record SizeExamples : Type 0 where
  -- 8,192 claims are such a world, and one claim more is none
  pub largest : HasShortRounds (world_with (copies 8192 (Claim open_claim)))
  pub too_large : HasShortRounds (world_with (copies 8193 (Claim open_claim))) → ⊥
  -- the claims that pods name do not count in it, nor whether a node runs them
  pub naming : HasShortRounds (world_with (copies 8192 (Pod (pod_on (codes "p") []))))
  pub placed : HasShortRounds (world_with (copies 8192 (Pod (pod_on (codes "p") (codes "n")))))

-- ---- classes, and claims that pods share

-- a class with this binding mode and this provisioner
abbrev pub class_of : Bool → List ℕ → ClassData
class_of delayed provisioner = record { meta = meta [] (codes "slow") 4 []; provisioner = provisioner; policy = policies.Retain; delayed = delayed; parameters = []; extra = [] }

pub record ClassExamples : Type 0 where
  -- volumes that are made by hand, and volumes that are provisioned at once
  pub by_hand : NoneProvisionsLate (setup_with [] (Class (class_of true no_provisioner) ∷ [])) []
  pub at_once : NoneProvisionsLate (setup_with [] (Class (class_of false (codes "d")) ∷ [])) []
  -- but not a class that provisions for a pod
  pub late : NoneProvisionsLate (setup_with [] (Class (class_of true (codes "d")) ∷ [])) [] → ⊥

-- a class that waits for a pod or not, the claim, and two pods that name it, of which one is on this node or on none
abbrev pub shared_rows : Bool → ClaimData → List ℕ → List Object
shared_rows delayed c node = Class (class_of delayed (codes "d")) ∷ Claim c ∷ Pod (pod_on (codes "p") node) ∷ Pod (pod_on (codes "q") []) ∷ []

-- the claim and the two pods, where no class stands
abbrev pub unclassed_rows : ClaimData → List ℕ → List Object
unclassed_rows c node = Claim c ∷ Pod (pod_on (codes "p") node) ∷ Pod (pod_on (codes "q") []) ∷ []

pub record SharingExamples : Type 0 where
  -- two pods may share a claim that is completed, or whose class binds at once; and only one of them may wait
  pub of_completed : SharesWell (world_with (shared_rows true completed []))
  pub of_immediate : SharesWell (world_with (shared_rows false open_claim []))
  pub of_one : SharesWell (world_with (shared_rows true open_claim (codes "n")))
  -- but two that wait may not share an open one that waits for them
  pub of_late : SharesWell (world_with (shared_rows true open_claim [])) → ⊥
  -- of a class that is absent a claim may be shared that is completed, or for which one pod waits; an absent class does not bind at once
  pub completed_without_a_class : SharesWell (world_with (unclassed_rows completed []))
  pub one_waits_without_a_class : SharesWell (world_with (unclassed_rows open_claim (codes "n")))
  pub open_without_a_class : SharesWell (world_with (unclassed_rows open_claim [])) → ⊥

-- ---- the nodes of a script

-- a script that imports a pod on this node, and names these nodes
abbrev pub script_naming : List ℕ → List (List ℕ) → Script
script_naming node names = record { setup = setup_with [] (Pod (pod_on (codes "p") node) ∷ []); lines = []; node_names = names; sizes = [] }

pub record NamingExamples : Type 0 where
  -- a pod on a node that is named, and one that no node runs
  pub named : ArePodsOnNamed (script_naming (codes "n") (codes "m" ∷ codes "n" ∷ [])) []
  pub waiting : ArePodsOnNamed (script_naming [] []) []
  -- but not one on a node that is not named
  pub unnamed : ArePodsOnNamed (script_naming (codes "n") (codes "m" ∷ [])) [] → ⊥

-- ---- the agents of a script's drains

-- a script without lines that names the node n: the agent of its drains has the seat 10
abbrev pub one_node : Script
one_node = script_naming (codes "n") (codes "n" ∷ [])

-- the agent of this seat took the node and was told this epoch
abbrev pub takes : ℕ → ℕ → Entry
takes seat epoch = record { seat = seat; kind = seats.Agent; request = TakeNode (codes "n"); reply = Epoch epoch; told = true }

pub record AgentExamples : Type 0 where
  -- it took no node, or it took it last
  pub none_taken : NoAgentIsStale one_node 5 []
  pub took_last : NoAgentIsStale one_node 5 (takes 10 2 ∷ takes 4 1 ∷ [])
  -- but not where another took the node after it
  pub overtaken : NoAgentIsStale one_node 5 (takes 4 2 ∷ takes 10 1 ∷ []) → ⊥

-- ---- the turn lines of agents

-- a call of the agent of the node n
abbrev pub agent_turn : Line
agent_turn = Turn (Agent (codes "n")) 1

pub record LineExamples : Type 0 where
  -- an agent has its turn before the first drain, or no line drains
  pub before_it : LeaveAgents (agent_turn ∷ Drain ∷ Drain ∷ [])
  pub no_drain : LeaveAgents (agent_turn ∷ [])
  -- but not behind the first drain, whether or not another drain follows
  pub behind_it : LeaveAgents (Drain ∷ agent_turn ∷ []) → ⊥
  pub between : LeaveAgents (Drain ∷ agent_turn ∷ Drain ∷ []) → ⊥

-- ---- what a drain needs to end settled

pub record AllowanceExamples : Type 0 where
  -- where nothing stands, the budget for nothing is enough, and one call less is not
  pub enough : AllowsSettling (setup_with [] []) [] [] 4194304
  pub too_little : AllowsSettling (setup_with [] []) [] [] 4194303 → ⊥
  -- nor is it enough where a planned fault is ahead
  pub with_a_fault : AllowsSettling (setup_with (1 ∷ []) []) [] [] 4194304 → ⊥
  -- a class may wait for a pod and provision, but no two pods that wait may then share an open claim of it
  pub late : AllowsSettling (setup_with [] (Class (class_of true (codes "d")) ∷ [])) [] [] 4734976
  pub badly_shared : AllowsSettling (setup_with [] (shared_rows true open_claim [])) [] [] 10000000 → ⊥

-- ---- the number of a volume

-- volumes of nine, five and seven bytes, by their names
abbrev pub three_volumes : List Object
three_volumes = Volume (volume_of (codes "a") 9 None volumes.Available) ∷ Volume (volume_of (codes "b") 5 None volumes.Available) ∷ Volume (volume_of (codes "c") 7 None volumes.Available) ∷ []

-- the volume of this number, of the volume mode, stands at this place
abbrev pub IsNumbered : Bool → ℕ → Option ℕ → Type 0
IsNumbered block nth place = IsNth (has_size block (codes "slow")) three_volumes nth place

pub record NumberExamples : Type 0 where
  -- by size, from 0
  pub smallest : IsNumbered false 0 (Some 1)
  pub middle : IsNumbered false 1 (Some 2)
  pub largest : IsNumbered false 2 (Some 0)
  pub no_more : IsNumbered false 3 None
  pub no_block : IsNumbered true 0 None
  -- but not by name, nor of another volume mode, nor none where there is one
  pub by_name : IsNumbered false 0 (Some 0) → ⊥
  pub other_mode : IsNumbered true 0 (Some 1) → ⊥
  pub missing : IsNumbered false 2 None → ⊥
