-- The evidence of a claim's machine goes on with the answer to its call.
use Rattle.std.proofs.Common.{◌≡◌, ℕ, List, ◌∷◌, Bool, true, false, Option, Some, inl, inr, refl, sym, subst, if◌then◌else◌}
use Rattle.std.specs.Prelude.{is_none, not}
use Rattle.std.proofs.lemmas.Bool.{and_parts, not-true}
use Rattle.plain_data.specs.Pairs.{Pair}
use Rattle.kube_parts.specs.declared.uid.Uid.{Uid}
use Rattle.kube_objects.specs.declared.objects.DataId.{DataId}
use Rattle.kube_objects.specs.declared.objects.Class.{Class as ClassData}
use Rattle.kube_objects.specs.declared.objects.Claim.{Claim as ClaimData}
use Rattle.kube_objects.specs.declared.objects.Object.TheVariants.{Class, Claim}
use Rattle.kube_objects.specs.Bindings.{class_of_claim, is_completed, is_deleting, is_empty}
use Rattle.call_types.specs.declared.entry.Entry.{Entry}
use Rattle.call_types.specs.declared.reply.Refusal.TheVariants.{Exhausted}
use Rattle.call_types.specs.declared.reply.Reply.{Reply}
use Rattle.call_types.specs.declared.reply.Reply.TheVariants.{Provisioned, Refused}
use Rattle.binder_model.specs.At.{HasUid}
use Rattle.binder_model.specs.ObjectKeys.{class_key, claim_key}
use Rattle.binder_model.specs.OpsLicence.{AreLabels, GaveData, IsExhausted}
use Rattle.binder_model.specs.Provisioning.{data_name, is_wanting}
use Rattle.model_laws.proofs.Lists.{none_some, one}
use Rattle.model_laws.proofs.Newest.{newest_claim}
use Rattle.reclaim_ops.specs.declared.provision.ProvisionOp.{ProvisionOp}
use Rattle.reclaim_ops.specs.declared.provision.ProvisionStep.{ProvisionStep}
use Rattle.reclaim_ops.specs.declared.provision.ProvisionStep.TheVariants as steps
use Rattle.reclaim_ops.specs.Evidence.{MayAsk, MayClear, MayCreateOver, ProvisionKeeps, ProvisionStepKeeps}
use Rattle.reclaim_ops.specs.Provisions.{ask_call, provision_call_at, provision_call, provision_moved, provision_step_after}
use Rattle.reclaim_ops.proofs.Tellings.{still_newest}

-- a claim that wants a volume is not completed
pub wanting_undone : (c : ClaimData) → is_wanting c ≡ true → is_completed c ≡ false
wanting_undone c wanting =
    let named = and_parts _ (is_none c.selector) wanting in
    let staying = and_parts _ (is_empty c.volume_name) named.0 in
    not-true (is_completed c) (and_parts (not (is_completed c)) (not (is_deleting c.meta)) staying.0).0

-- the answer to the call for data
module _ (c : ClaimData) (uid : Uid) (x : ClassData) (labels : Option (List Pair)) (mine : List Entry) (e : Entry)
    (kept : MayAsk c uid x labels mine) (asked : ask_call c uid x labels ≡ e.request) (told : e.told ≡ true) where
  given : (id : DataId) (topology : Option (List ℕ × List ℕ)) → e.reply ≡ Provisioned id topology → MayCreateOver c uid x id topology (e ∷ mine)
  given id topology is =
      let gave : GaveData (data_name uid) id topology e.request e.reply =
      subst (λ r. GaveData (data_name uid) id topology e.request r) (sym is) (subst (λ q. GaveData (data_name uid) id topology q (Provisioned id topology)) asked (refl, refl, refl)) in
      record {
        current = record {
          known = kept.current.known;
          newest = still_newest mine e (Provisioned id topology) (claim_key c.meta.namespace c.meta.name) (Claim c) is refl kept.current.newest;
          class_newest = still_newest mine e (Provisioned id topology) (class_key (class_of_claim c)) (Class x) is refl kept.current.class_newest;
        };
        given = inl ((told, gave), newest_claim (HasUid uid) mine (claim_key c.meta.namespace c.meta.name) c kept.current.newest kept.current.known);
      }

  -- no pool has the bytes on the node that was chosen
  cleared : (free : ℕ) → e.reply ≡ Refused (Exhausted free) → AreLabels mine c true labels → MayClear c uid (e ∷ mine)
  cleared free is placed =
      let none : IsExhausted (data_name uid) e.request e.reply =
      subst (λ r. IsExhausted (data_name uid) e.request r) (sym is) (subst (λ q. IsExhausted (data_name uid) q (Refused (Exhausted free))) asked refl) in
      let this = newest_claim (λ o. o ≡ c) mine (claim_key c.meta.namespace c.meta.name) c kept.current.newest refl in
      record {
        known = kept.current.known;
        told = inr this;
        undone = wanting_undone c kept.wanting;
        node = placed.0;
        selected = placed.1;
        why = inl (inl ((told, none), this));
      }

  exhausted : (delayed : Bool) → x.delayed ≡ delayed → (free : ℕ) → e.reply ≡ Refused (Exhausted free) → ProvisionStepKeeps (if delayed then steps.ClearsNode else steps.Parked) c uid x (e ∷ mine)
  exhausted true late free is = cleared free is (subst (λ b. AreLabels mine c b labels) late kept.placed)
  exhausted false late free is = tt

  asking : (reply : Reply) → e.reply ≡ reply → ProvisionStepKeeps (provision_step_after (steps.Provisions labels) x reply) c uid x (e ∷ mine)
  asking (Provisioned id topology) is = given id topology is
  asking (Refused (Exhausted free)) is = exhausted x.delayed refl free is
  asking (Refused _) is = tt
  asking _ is = tt

-- after a write nothing is left

created : (id : DataId) (topology : Option (List ℕ × List ℕ)) (c : ClaimData) (uid : Uid) (x : ClassData) (reply : Reply) (mine : List Entry)
    → ProvisionStepKeeps (provision_step_after (steps.Creates id topology) x reply) c uid x mine
created id topology c uid x (Refused r) mine = tt
created id topology c uid x _ mine = tt

taken_back : (c : ClaimData) (uid : Uid) (x : ClassData) (reply : Reply) (mine : List Entry) → ProvisionStepKeeps (provision_step_after steps.ClearsNode x reply) c uid x mine
taken_back c uid x (Refused r) mine = tt
taken_back c uid x _ mine = tt

step_goes_on : (step : ProvisionStep) (c : ClaimData) (uid : Uid) (x : ClassData) (mine : List Entry) (e : Entry)
    → ProvisionStepKeeps step c uid x mine → provision_call_at step c uid x ≡ Some e.request → e.told ≡ true
    → ProvisionStepKeeps (provision_step_after step x e.reply) c uid x (e ∷ mine)
step_goes_on (steps.Provisions labels) c uid x mine e kept call told = asking c uid x labels mine e kept (one _ _ call) told e.reply refl
step_goes_on (steps.Creates id topology) c uid x mine e kept call told = created id topology c uid x e.reply (e ∷ mine)
step_goes_on steps.ClearsNode c uid x mine e kept call told = taken_back c uid x e.reply (e ∷ mine)
step_goes_on steps.Done c uid x mine e kept call told = none_some call
step_goes_on steps.Parked c uid x mine e kept call told = none_some call

pub provision_goes_on : (op : ProvisionOp) (mine : List Entry) (e : Entry) → ProvisionKeeps op mine → provision_call op ≡ Some e.request
    → e.told ≡ true → ProvisionKeeps (provision_moved op e.reply) (e ∷ mine)
unfolding provision_call provision_moved
provision_goes_on op mine e kept call told = step_goes_on op.step op.claim op.uid op.class mine e kept call told
