-- A completed claim that was seen in phase Bound has been bound, as its binder showed it or as it was imported.
-- A choice of this project. It holds of claims that were imported as Lost too.
use Rattle.std.specs.Prelude.{◌≡◌, true, List}
use Rattle.kube_objects.specs.declared.objects.Claim.{Claim as ClaimData}
use Rattle.kube_objects.specs.declared.objects.Object.TheVariants.{Claim}
use Rattle.kube_objects.specs.Bindings.{is_completed}
use Rattle.call_types.specs.declared.entry.Entry.{Entry}
use Rattle.call_types.specs.declared.setup.Setup.{Setup}
use Rattle.binder_model.specs.BindWrites.{is_claim_bound}
use Rattle.binder_model.specs.Promises.{IsRunOf}
use Rattle.model_laws.specs.Stood.{Stood}
use Rattle.safety_law.specs.Invariant.Was.{WasBound}

-- a Bound volume carried each claim that stood completed and in phase Bound, and the claim names that volume
abbrev pub ShownClaimsWereBound : Type 0
ShownClaimsWereBound =
    (setup : Setup) (past : List Entry) → IsRunOf setup past → (c : ClaimData) → Stood setup past (Claim c)
    → is_completed c ≡ true → is_claim_bound c.phase ≡ true → WasBound setup past c
