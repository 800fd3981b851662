-- Examples of what passes, and of attachments that are apart and under each mount.
-- A choice of this project.
use Rattle.std.specs.Prelude.{◌≡◌, true, false, [], ◌∷◌, Some, None}
use Rattle.kube_objects.specs.declared.objects.Object.TheVariants.{Claim}
use Rattle.call_types.specs.declared.request.Request.TheVariants.{Mount, TakeNode}
use Rattle.attach_law.specs.Attached.{AreApart, AreCarried, claim_with, own_volume, passes, volume_with}
use Rattle.attach_examples.specs.Small.{claim, claim_uid, first_uid, mounted, n1, n2, no_uid, on, once, rows_by, volume_by, volume_uid, world_of}

-- objects by UID, and a claim's own volume
pub record UidExamples : Type 0 where
  pub volume : volume_with volume_uid (rows_by once) ≡ Some (volume_by once)
  pub claim_there : claim_with claim_uid (rows_by once) ≡ Some claim
  -- a UID is of one kind
  pub no_volume : volume_with claim_uid (rows_by once) ≡ None
  pub no_claim : claim_with volume_uid (rows_by once) ≡ None
  pub own : own_volume (rows_by once) claim ≡ Some (volume_by once)
  -- the volume that is named must carry the claim, and stand
  pub anothers : own_volume (rows_by once) (record claim { meta = record (claim.meta) { uid = Some no_uid } }) ≡ None
  pub gone : own_volume (Claim claim ∷ []) claim ≡ None

-- which requests pass
pub record PassingExamples : Type 0 where
  pub mount : passes (rows_by once) (on n1 false ∷ []) (Mount n1 1 first_uid (claim_uid ∷ [])) ≡ true
  -- attached to another node, or to none
  pub elsewhere : passes (rows_by once) (on n2 false ∷ []) (Mount n1 1 first_uid (claim_uid ∷ [])) ≡ false
  pub nowhere : passes (rows_by once) [] (Mount n1 1 first_uid (claim_uid ∷ [])) ≡ false
  -- a claim that is not there
  pub no_claim : passes (rows_by once) (on n1 false ∷ []) (Mount n1 1 first_uid (no_uid ∷ [])) ≡ false
  -- each of the claims
  pub one_of_two : passes (rows_by once) (on n1 false ∷ []) (Mount n1 1 first_uid (claim_uid ∷ no_uid ∷ [])) ≡ false
  -- a Mount without claims, and each other request
  pub none : passes (rows_by once) [] (Mount n1 1 first_uid []) ≡ true
  pub other : passes (rows_by once) [] (TakeNode n1) ≡ true

-- one volume on two nodes
pub record ApartExamples : Type 0 where
  pub many : AreApart (on n1 true ∷ on n2 true ∷ [])
  pub one_node : AreApart (on n1 false ∷ [])
  pub mixed : AreApart (on n1 true ∷ on n2 false ∷ []) → ⊥
  pub single : AreApart (on n1 false ∷ on n2 false ∷ []) → ⊥

-- what is mounted is attached
pub record CarriedExamples : Type 0 where
  pub there : AreCarried (world_of (rows_by once) mounted) (on n1 false ∷ [])
  pub no_mount : AreCarried (world_of (rows_by once) []) []
  pub elsewhere : AreCarried (world_of (rows_by once) mounted) (on n2 false ∷ []) → ⊥
  pub no_volume : AreCarried (world_of (Claim claim ∷ []) mounted) (on n1 false ∷ []) → ⊥
