-- When the Mount of a pod is due: the pod is scheduled, stays, and each of its claims is ready. No other action is due then.
use Rattle.std.proofs.Common.{sym, refl, ap, ◌∙◌, true≢false}
use Rattle.std.specs.Prelude.{if◌then◌else◌, not, ◌&&◌, ◌≡◌, Bool, true, false, Option, Some, None}
use Rattle.std.specs.List.{list_all}
use Rattle.kube_parts.specs.declared.names.Due.{Due}
use Rattle.kube_parts.specs.declared.names.Due.TheVariants as dues
use Rattle.kube_objects.specs.declared.objects.Pod.{Pod as PodData}
use Rattle.kube_objects.specs.declared.objects.Object.TheVariants.{Pod}
use Rattle.kube_objects.specs.Bindings.{is_deleting, is_scheduled}
use Rattle.call_types.specs.declared.setup.Setup.{Setup}
use Rattle.binder_model.specs.Choice.{Step, claim_named, step_of}
use Rattle.binder_model.specs.Choice as choices
use Rattle.binder_model.specs.Due.{IsDue, IsPodDue, IsStepDue, is_pod_mounted, is_ready}
use Rattle.binder_model.specs.World.{World}
use Rattle.model_laws.proofs.Lists.{none_some, one}

-- what is so when a Mount is due
pub record IsMountDue (w : World) (p : PodData) : Type 0 where
  pub scheduled : is_scheduled p ≡ true
  pub staying : is_deleting p.meta ≡ false
  pub ready : list_all (λ name. is_ready w.store.rows (claim_named w.store.rows p.meta.namespace name)) p.claims ≡ true

abbrev is_mount_due : Due → Bool
is_mount_due dues.Mount = true
is_mount_due action = false

abbrev due_of : Option Due → Bool
due_of None = false
due_of (Some action) = is_mount_due action

pub mount_due : (setup : Setup) (w : World) (p : PodData) → IsDue setup w (Pod p) (Some dues.Mount) → IsMountDue w p
mount_due setup w p due = by (is_scheduled p) refl due
  where
    no_step : (s : Step) → IsStepDue setup w p s (Some dues.Mount) → ⊥
    no_step (choices.Assigns n) e = true≢false (ap due_of e)
    no_step choices.Searches e = true≢false (ap is_mount_due e.0)
    no_step s e = none_some (sym e)

    agent : (d m : Bool) (ready : Bool) → is_deleting p.meta ≡ d
        → list_all (λ name. is_ready w.store.rows (claim_named w.store.rows p.meta.namespace name)) p.claims ≡ ready
        → Some dues.Mount ≡ (if d then Some dues.Finish else if not m && ready then Some dues.Mount else None) → (d ≡ false) × (ready ≡ true)
    agent true m ready a b e = absurd (true≢false (ap due_of e))
    agent false true ready a b e = none_some (sym e)
    agent false false true a b e = (refl, refl)
    agent false false false a b e = none_some (sym e)

    by : (b : Bool) → is_scheduled p ≡ b → IsPodDue setup w p b (Some dues.Mount) → IsMountDue w p
    by true s d =
        let ready = list_all (λ name. is_ready w.store.rows (claim_named w.store.rows p.meta.namespace name)) p.claims in
        let t = agent (is_deleting p.meta) (is_pod_mounted w.devices p) ready refl refl d in
        record { scheduled = s; staying = t.0; ready = t.1 }
    by false s d = absurd (no_step (step_of w.store.rows p) d)

pub one_action : (setup : Setup) (w : World) (p : PodData) (action : Due) → IsDue setup w (Pod p) (Some action) → IsDue setup w (Pod p) (Some dues.Mount)
    → is_scheduled p ≡ true → action ≡ dues.Mount
one_action setup w p action a b s = by (is_scheduled p) s a b
  where
    by : (x : Bool) → x ≡ true → IsPodDue setup w p x (Some action) → IsPodDue setup w p x (Some dues.Mount) → action ≡ dues.Mount
    by true e a b = one action dues.Mount (a ∙ sym b)
    by false e a b = absurd (true≢false (sym e))
