-- Each node that counts as refused was selected by the seat for that claim, and then the seat was told the claim, as it was written later,
-- not completed and without this node. A choice of this project.
use Rattle.std.specs.Prelude.{◌≡◌, true, List, Some}
use Rattle.kube_objects.specs.declared.objects.Claim.{Claim as ClaimData}
use Rattle.kube_objects.specs.declared.objects.Object.TheVariants.{Claim}
use Rattle.call_types.specs.declared.entry.Entry.{Entry}
use Rattle.call_types.specs.declared.request.Request.{Request}
use Rattle.call_types.specs.declared.request.Request.TheVariants.{Update}
use Rattle.call_types.specs.declared.reply.Reply.{Reply}
use Rattle.call_types.specs.declared.reply.Reply.TheVariants.{Done}
use Rattle.binder_model.specs.At.{HasUid}
use Rattle.binder_model.specs.Told.{After, IsClaimWith, SomeOf, TellsObject}
use Rattle.pod_scheduler.specs.declared.tries.Tried.{Tried}
use Rattle.pod_scheduler.specs.Tries.{is_refusal, node_selected_for, tries_of}

-- the claim has the node, at the version that is kept
pub record HasNode (t : Tried) (c : ClaimData) : Type 0 where
  pub claim : HasUid t.claim c
  pub node : node_selected_for c ≡ Some t.node
  pub version : t.version ≡ c.meta.version

-- the entry selected the node: a write of the claim that was done
abbrev pub Selecting : Tried → Request → Reply → Type 0
Selecting t (Update (Claim asked) given) (Done (Claim c)) = HasNode t c
Selecting t request reply = ⊥

-- the entry selected the node of this try
abbrev pub Selects : Tried → Entry → Type 0
Selects t e = (e.told ≡ true) × Selecting t e.request e.reply

-- the entry tells the claim without the node
pub record IsWithout (t : Tried) (c : ClaimData) : Type 0 where
  pub claim : HasUid t.claim c
  pub refused : is_refusal t c ≡ true

-- the entry told the claim without that node
abbrev pub TellsRefused : Tried → Entry → Type 0
TellsRefused t e = TellsObject (IsClaimWith (IsWithout t)) e

-- what stands selected was selected
abbrev pub SelectedWereSelected : Type 0
SelectedWereSelected = (mine : List Entry) (t : Tried) → SomeOf (λ u. u ≡ t) (tries_of mine).selected → SomeOf (Selects t) mine

-- a refused node was selected, and then the claim was told without it
abbrev pub RefusedWereRefused : Type 0
RefusedWereRefused = (mine : List Entry) (t : Tried) → SomeOf (λ u. u ≡ t) (tries_of mine).refused → After (SomeOf (Selects t)) (TellsRefused t) mine
