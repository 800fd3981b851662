-- What the machine's first call comes to is what is due of provisioning.
use Rattle.std.proofs.Common.{◌≡◌, ◌∙◌, true, List, Option, Some, None, refl, sym, ap}
use Rattle.kube_objects.specs.declared.key.Key.{Key}
use Rattle.kube_objects.specs.declared.objects.Claim.{Claim as ClaimData}
use Rattle.kube_objects.specs.declared.objects.Object.{Object}
use Rattle.kube_objects.specs.declared.objects.Object.TheVariants.{Claim}
use Rattle.kube_objects.specs.Bindings.{is_completed}
use Rattle.kube_objects.specs.Keys.{row_at}
use Rattle.call_types.specs.declared.setup.Setup.{Setup}
use Rattle.binder_model.specs.Due.{provision_due}
use Rattle.binder_model.specs.Store.{State}
use Rattle.binder_model.specs.World.{World}
use Rattle.reclaim_ops.specs.declared.provision.ProvisionOp.{ProvisionOp}
use Rattle.reclaim_ops.specs.declared.provision.ProvisionStep.{ProvisionStep}
use Rattle.reclaim_ops.specs.declared.provision.ProvisionStep.TheVariants as steps
use Rattle.reclaim_ops.specs.Decisions.{claim_begins, claim_for}
use Rattle.reclaim_ops.specs.DueLaw.{due_at, due_of_provision}
use Rattle.reclaim_ops.specs.Provisions.{provision_call_at, provision_call}
use Rattle.reclaim_ops.proofs.Dues.{begins_what_is_due}
use Rattle.settle_check.specs.Steps.Asking.{call_due}

-- a claim that stands under the key is decided
pub decided_for : (rows : List Object) (key stands_under : Key) (c : ClaimData) (op : Option ProvisionOp) → key ≡ stands_under
    → row_at stands_under rows ≡ Some (Claim c) → op ≡ claim_begins rows (row_at key rows) → op ≡ claim_for rows c
decided_for rows key stands_under c op same at is = is ∙ ap (claim_begins rows) (ap (λ (k : Key). row_at k rows) same ∙ at)

module _ (setup : Setup) (w : World) where
  first_call : (op : ProvisionOp) → call_due setup w op.class.delayed (provision_call op) ≡ due_of_provision setup w (Some op)
  unfolding provision_call
  first_call op = by op.step
    where
      by : (step : ProvisionStep) → call_due setup w op.class.delayed (provision_call_at step op.claim op.uid op.class) ≡ due_at setup w op step
      by (steps.Provisions labels) = refl
      by (steps.Creates id topology) = refl
      by steps.ClearsNode = refl
      by steps.Done = refl
      by steps.Parked = refl

  -- nothing begins
  pub none_begins : (s : State) (c : ClaimData) (op : Option ProvisionOp) → s ≡ w.store → op ≡ claim_for s.rows c → op ≡ None → None ≡ provision_due setup w c
  none_begins s c op same is none =
      let here : None ≡ claim_for w.store.rows c = sym none ∙ is ∙ ap (λ (t : State). claim_for t.rows c) same in ap (due_of_provision setup w) here ∙ begins_what_is_due setup w c

  -- a machine begins, with its first call
  pub one_begins : (s : State) (c : ClaimData) (found : Option ProvisionOp) (op : ProvisionOp) → s ≡ w.store → found ≡ claim_for s.rows c
      → found ≡ Some op → call_due setup w op.class.delayed (provision_call op) ≡ provision_due setup w c
  one_begins s c found op same is some =
      let here : Some op ≡ claim_for w.store.rows c = sym some ∙ is ∙ ap (λ (t : State). claim_for t.rows c) same in first_call op ∙ ap (due_of_provision setup w) here ∙ begins_what_is_due setup w c

  -- a completed claim wants nothing
  pub completed_wants_none : (c : ClaimData) → is_completed c ≡ true → None ≡ provision_due setup w c
  completed_wants_none c done = rw done refl
