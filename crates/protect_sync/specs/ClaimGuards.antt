-- What claim protection has under way for one claim: its next call, and what the answer to it makes of the machine.
-- Source: `processPVC`, `askInformer` and `askAPIServer` of the pvc-protection controller.
use Rattle.std.specs.Prelude.{Bool, true, false, Option, Some, None, is_some, if◌then◌else◌}
use Rattle.std.specs.List.{list_any}
use Rattle.kube_parts.specs.declared.parts.Kind.TheVariants as kinds
use Rattle.kube_objects.specs.declared.objects.Claim.{Claim as ClaimData}
use Rattle.kube_objects.specs.declared.objects.Object.TheVariants.{Claim}
use Rattle.kube_objects.specs.Bindings.{pvc_protection, uses}
use Rattle.call_types.specs.declared.request.Request.{Request}
use Rattle.call_types.specs.declared.request.Request.TheVariants.{List as ListOf, Update}
use Rattle.call_types.specs.declared.reply.Reply.{Reply}
use Rattle.call_types.specs.declared.reply.Reply.TheVariants.{Listed, Refused}
use Rattle.binder_model.specs.GuardLicence.{guarded_meta, unguarded_meta}
use Rattle.protect_sync.specs.declared.claims.ClaimGuardOp.{ClaimGuardOp}
use Rattle.protect_sync.specs.declared.claims.ClaimGuardStep.{ClaimGuardStep}
use Rattle.protect_sync.specs.declared.claims.ClaimGuardStep.TheVariants as steps

-- the claim with the finalizer, and without it

-- the claim with its protection finalizer
abbrev pub guarded_claim : ClaimData → ClaimData
guarded_claim c = record c { meta = guarded_meta pvc_protection c.meta }

-- the claim without its protection finalizer
abbrev pub unguarded_claim : ClaimData → ClaimData
unguarded_claim c = record c { meta = unguarded_meta pvc_protection c.meta }

-- the write of a claim that was told, at its version
abbrev pub claim_write_over : ClaimData → ClaimData → Request
claim_write_over c new = Update (Claim new) (Some c.meta.version)

-- the list of the pods of the claim's namespace. An object has a UID from its creation on. So the test fails in no history
abbrev pub list_call : ClaimData → Option Request
list_call c = if is_some c.meta.uid then Some (ListOf kinds.Pod (Some c.meta.namespace)) else None

-- the call at a step
abbrev pub claim_guard_call_at : ClaimGuardStep → ClaimData → Option Request
claim_guard_call_at steps.Adds c = Some (claim_write_over c (guarded_claim c))
claim_guard_call_at steps.ListsPods c = list_call c
claim_guard_call_at steps.Drops c = Some (claim_write_over c (unguarded_claim c))
claim_guard_call_at steps.Done c = None
claim_guard_call_at steps.Parked c = None

-- the next call, or none where nothing is left to be asked
unfoldable pub claim_guard_call : ClaimGuardOp → Option Request
claim_guard_call op = claim_guard_call_at op.step op.claim

-- where the step leads: a machine that has ended stays so, a refusal parks the key, and a list that tells a scheduled pod which
-- uses the claim leaves the finalizer
abbrev pub claim_guard_step_after : ClaimGuardStep → ClaimData → Reply → ClaimGuardStep
claim_guard_step_after steps.Done c reply = steps.Done
claim_guard_step_after steps.Parked c reply = steps.Parked
claim_guard_step_after step c (Refused refusal) = steps.Parked
claim_guard_step_after steps.ListsPods c (Listed items version) = if list_any (uses c) items then steps.Done else steps.Drops
claim_guard_step_after step c reply = steps.Done

-- what the answer to the next call makes of the machine
unfoldable pub claim_moved : ClaimGuardOp → Reply → ClaimGuardOp
claim_moved op reply = record op { step = claim_guard_step_after op.step op.claim reply }

-- the key is parked
abbrev pub claim_parks : ClaimGuardStep → Bool
claim_parks steps.Parked = true
claim_parks step = false
