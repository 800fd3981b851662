-- The evidence of a machine goes on with the answer to its call.
use Rattle.std.proofs.Common.{◌≡◌, ℕ, List, ◌∷◌, Bool, true, false, Option, Some, None, inl, inr, refl, sym, subst, if◌then◌else◌}
use Rattle.std.specs.Prelude.{is_some}
use Rattle.std.specs.List.{list_any}
use Rattle.kube_parts.specs.declared.uid.Uid.{Uid}
use Rattle.kube_parts.specs.declared.parts.Kind.TheVariants as kinds
use Rattle.kube_objects.specs.declared.objects.Volume.{Volume as VolumeData}
use Rattle.kube_objects.specs.declared.objects.Claim.{Claim as ClaimData}
use Rattle.kube_objects.specs.declared.objects.Object.{Object}
use Rattle.call_types.specs.declared.entry.Entry.{Entry}
use Rattle.call_types.specs.declared.request.Request.{Request}
use Rattle.call_types.specs.declared.request.Request.TheVariants.{List as ListOf}
use Rattle.call_types.specs.declared.reply.Reply.{Reply}
use Rattle.call_types.specs.declared.reply.Reply.TheVariants as replies
use Rattle.kube_objects.specs.Bindings.{uses}
use Rattle.binder_model.specs.GuardLicence.{IsDeletingVersion, IsPodList, TellsUnused}
use Rattle.model_laws.proofs.Evidence.{told_claim}
use Rattle.model_laws.proofs.Lists.{none_some, one}
use Rattle.protect_sync.specs.declared.claims.ClaimGuardOp.{ClaimGuardOp}
use Rattle.protect_sync.specs.declared.claims.ClaimGuardStep.{ClaimGuardStep}
use Rattle.protect_sync.specs.declared.claims.ClaimGuardStep.TheVariants as claims
use Rattle.protect_sync.specs.declared.volumes.VolumeGuardOp.{VolumeGuardOp}
use Rattle.protect_sync.specs.declared.volumes.VolumeGuardStep.{VolumeGuardStep}
use Rattle.protect_sync.specs.declared.volumes.VolumeGuardStep.TheVariants as volumes
use Rattle.protect_sync.specs.ClaimGuards as on_claims
use Rattle.protect_sync.specs.ClaimGuards.{claim_guard_call, claim_moved, list_call}
use Rattle.protect_sync.specs.Evidence.{ClaimKeeps, ClaimStepKeeps, MayDrop, MayList, VolumeKeeps, VolumeStepKeeps}
use Rattle.protect_sync.specs.VolumeGuards as on_volumes
use Rattle.protect_sync.specs.VolumeGuards.{volume_guard_call, volume_moved}

-- what was asked, and the UID of the claim for which it was asked
record Asked (c : ClaimData) (request : Request) : Type 0 where
  is : request ≡ ListOf kinds.Pod (Some c.meta.namespace)
  uid : Uid
  has : c.meta.uid ≡ Some uid

asked : (c : ClaimData) (request : Request) → list_call c ≡ Some request → Asked c request
asked c request = by c.meta.uid refl
  where
    by : (u : Option Uid) → c.meta.uid ≡ u → (if is_some u then Some (ListOf kinds.Pod (Some c.meta.namespace)) else None) ≡ Some request → Asked c request
    by None h e = none_some e
    by (Some u) h e = record { is = sym (one _ _ e); uid = u; has = h }

-- a list that told none which uses the claim, after the claim was told
dropping : (c : ClaimData) (mine : List Entry) (e : Entry) (items : List Object) (version : ℕ) → MayList c mine → Asked c e.request → e.told ≡ true
    → e.reply ≡ replies.Listed items version → list_any (uses c) items ≡ false → MayDrop c (e ∷ mine)
dropping c mine e items version kept call told is none =
    let told_none : IsPodList c (ListOf kinds.Pod (Some c.meta.namespace)) (replies.Listed items version) = (refl, none) in
    let tells : TellsUnused c e = (told, subst (λ r. IsPodList c e.request r) (sym is) (subst (λ q. IsPodList c q (replies.Listed items version)) (sym call.is) told_none)) in
    let version_told : IsDeletingVersion c c = record { same = record { uid = call.uid; first = call.has; second = call.has }; deleting = kept.deleting } in
    record {
      told = inr kept.told;
      deleting = kept.deleting;
      unused = inl (tells, told_claim (IsDeletingVersion c) c mine kept.told version_told);
    }

listing : (c : ClaimData) (mine : List Entry) (e : Entry) → MayList c mine → list_call c ≡ Some e.request → e.told ≡ true
    → ClaimStepKeeps (on_claims.claim_guard_step_after claims.ListsPods c e.reply) c (e ∷ mine)
listing c mine e kept call told = by e.reply refl
  where
    by_use : (items : List Object) (version : ℕ) (b : Bool) → e.reply ≡ replies.Listed items version → list_any (uses c) items ≡ b
        → ClaimStepKeeps (if b then claims.Done else claims.Drops) c (e ∷ mine)
    by_use items version true is h = tt
    by_use items version false is h = dropping c mine e items version kept (asked c e.request call) told is h

    by : (reply : Reply) → e.reply ≡ reply → ClaimStepKeeps (on_claims.claim_guard_step_after claims.ListsPods c reply) c (e ∷ mine)
    by (replies.Listed items version) is = by_use items version (list_any (uses c) items) is refl
    by (replies.Refused r) is = tt
    by _ is = tt

-- after a write nothing is left
added : (c : ClaimData) (reply : Reply) (mine : List Entry) → ClaimStepKeeps (on_claims.claim_guard_step_after claims.Adds c reply) c mine
added c (replies.Refused r) mine = tt
added c _ mine = tt

dropped : (c : ClaimData) (reply : Reply) (mine : List Entry) → ClaimStepKeeps (on_claims.claim_guard_step_after claims.Drops c reply) c mine
dropped c (replies.Refused r) mine = tt
dropped c _ mine = tt

claim_step_goes_on : (step : ClaimGuardStep) (c : ClaimData) (mine : List Entry) (e : Entry) → ClaimStepKeeps step c mine
    → on_claims.claim_guard_call_at step c ≡ Some e.request → e.told ≡ true → ClaimStepKeeps (on_claims.claim_guard_step_after step c e.reply) c (e ∷ mine)
claim_step_goes_on claims.ListsPods c mine e kept call told = listing c mine e kept call told
claim_step_goes_on claims.Adds c mine e kept call told = added c e.reply (e ∷ mine)
claim_step_goes_on claims.Drops c mine e kept call told = dropped c e.reply (e ∷ mine)
claim_step_goes_on claims.Done c mine e kept call told = none_some call
claim_step_goes_on claims.Parked c mine e kept call told = none_some call

pub claim_goes_on : (op : ClaimGuardOp) (mine : List Entry) (e : Entry) → ClaimKeeps op mine → claim_guard_call op ≡ Some e.request → e.told ≡ true → ClaimKeeps (claim_moved op e.reply) (e ∷ mine)
unfolding claim_guard_call claim_moved
claim_goes_on op mine e kept call told = claim_step_goes_on op.step op.claim mine e kept call told

volume_step_goes_on : (step : VolumeGuardStep) (v : VolumeData) (reply : Reply) (mine : List Entry) → VolumeStepKeeps (on_volumes.volume_guard_step_after step reply) v mine
volume_step_goes_on volumes.Adds v (replies.Refused r) mine = tt
volume_step_goes_on volumes.Adds v _ mine = tt
volume_step_goes_on volumes.Drops v (replies.Refused r) mine = tt
volume_step_goes_on volumes.Drops v _ mine = tt
volume_step_goes_on volumes.Done v reply mine = tt
volume_step_goes_on volumes.Parked v reply mine = tt

pub volume_goes_on : (op : VolumeGuardOp) (mine : List Entry) (e : Entry) → VolumeKeeps op mine → volume_guard_call op ≡ Some e.request
    → e.told ≡ true → VolumeKeeps (volume_moved op e.reply) (e ∷ mine)
unfolding volume_moved
volume_goes_on op mine e kept call told = volume_step_goes_on op.step op.volume e.reply (e ∷ mine)
