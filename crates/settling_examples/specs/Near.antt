-- Worlds that are near: small cases.
-- A choice of this project.
use Rattle.std.specs.Prelude.{List, ℕ, [], ◌∷◌, codes}
use Rattle.kube_objects.specs.declared.objects.Claim.{Claim as ClaimData}
use Rattle.kube_objects.specs.declared.objects.Object.TheVariants.{Claim}
use Rattle.kube_objects.specs.Bindings.{selected_node}
use Rattle.settle_measure.specs.Left.Small.{completed, open_claim}
use Rattle.settle_alike.specs.Near.Near.{AreNear}
use Rattle.settling_examples.specs.Ending.{world_with}

-- the open claim, with this node
abbrev pub claim_with : List ℕ → ClaimData
claim_with node = record open_claim { meta = record open_claim.meta { annotations = (selected_node, node) ∷ [] } }

pub record NearExamples : Type 0 where
  -- a claim has another node, or none
  pub other_node : AreNear (world_with (Claim (claim_with (codes "n")) ∷ [])) (world_with (Claim (claim_with (codes "m")) ∷ []))
  pub no_node : AreNear (world_with (Claim (claim_with (codes "n")) ∷ [])) (world_with (Claim open_claim ∷ []))
  -- but not where it is completed, or gone
  pub completed_since : AreNear (world_with (Claim open_claim ∷ [])) (world_with (Claim completed ∷ [])) → ⊥
  pub gone : AreNear (world_with (Claim open_claim ∷ [])) (world_with []) → ⊥
