-- What the scheduler and the node agents have to do does not look at versions. Which nodes serve a pod, and at which step the
-- scheduler stands with it but for the nodes of claims, is the same already in worlds that are near.
use Rattle.std.proofs.Common.{◌≡◌, ◌∙◌, List, Bool, true, false, Option, Some, None, refl, sym, ap, subst, if◌then◌else◌}
use Rattle.std.specs.Prelude.{◌&&◌, ◌||◌, map, not, option_map}
use Rattle.std.specs.List.{list_all}
use Rattle.kube_parts.specs.declared.names.Due.{Due}
use Rattle.kube_parts.specs.declared.names.Due.TheVariants as dues
use Rattle.kube_objects.specs.declared.objects.Claim.{Claim as ClaimData}
use Rattle.kube_objects.specs.declared.objects.Pod.{Pod as PodData}
use Rattle.kube_objects.specs.declared.objects.Object.{Object}
use Rattle.kube_objects.specs.declared.objects.Object.TheVariants.{Class, Node, Volume, Claim, Pod}
use Rattle.kube_objects.specs.Bindings.{has_key, is_completed, is_deleting, is_protected_claim, selected_node}
use Rattle.kube_objects.specs.Keys.{row_at}
use Rattle.call_types.specs.declared.setup.Setup.{Setup}
use Rattle.binder_model.specs.BindWrites.{is_claim_bound}
use Rattle.binder_model.specs.Choice.{Assigns, GoesNowhere, Searches, Step, Waits, carries_claim, claim_named, claims_of, has_carrier, is_under_way, step_of}
use Rattle.binder_model.specs.Due.{IsPodDue, IsStepDue, agent_due, carried_by, is_pod_mounted, is_ready}
use Rattle.binder_model.specs.ObjectKeys.{volume_key}
use Rattle.binder_model.specs.World.{World}
use Rattle.settle_alike.specs.Near.Near.{AreNear}
use Rattle.settle_alike.proofs.Near.Near.{back_near, near_plain, near_prepares, step_both}
use Rattle.settle_alike.proofs.Near.Steps.{plain_step, step_with}
use Rattle.settle_writes.specs.Writes.Lasting.{content_of}
use Rattle.settle_alike.specs.Alike.Alike.{contents_of}
use Rattle.settle_alike.proofs.Alike.Binding.{carries_plain}
use Rattle.settle_alike.proofs.Alike.Rows.{all_mapped, all_same, any_mapped, chosen_mapped, named_plain, plain_claim, plain_pod, plain_world, row_plain}

-- the claims of a pod

claims_plain : (rows : List Object) (p : PodData) → claims_of (contents_of rows) (plain_pod p) ≡ map plain_claim (claims_of rows p)
claims_plain rows p = chosen_mapped plain_claim (claim_named rows p.meta.namespace) (claim_named (contents_of rows) p.meta.namespace) (named_plain rows p.meta.namespace) p.claims

all_claims : (rows : List Object) (p : PodData) (f g : ClaimData → Bool) → ((c : ClaimData) → f (plain_claim c) ≡ g c)
    → list_all f (claims_of (contents_of rows) (plain_pod p)) ≡ list_all g (claims_of rows p)
all_claims rows p f g same = ap (list_all f) (claims_plain rows p) ∙ all_mapped plain_claim f g same (claims_of rows p)

-- the step of a pod

carrier_plain : (rows : List Object) (c : ClaimData) → has_carrier (contents_of rows) (plain_claim c) ≡ has_carrier rows c
carrier_plain rows c = any_mapped content_of (carries_claim (plain_claim c)) (carries_claim c) each rows
  where
    each : (o : Object) → carries_claim (plain_claim c) (content_of o) ≡ carries_claim c o
    each (Class x) = refl
    each (Node x) = refl
    each (Volume x) = carries_plain x c
    each (Claim x) = refl
    each (Pod x) = refl

under_way_plain : (rows : List Object) (c : ClaimData) → is_under_way (contents_of rows) (plain_claim c) ≡ is_under_way rows c
under_way_plain rows c = ap (λ b. is_completed c || b || has_key selected_node c.meta.annotations) (carrier_plain rows c)

under_way_same : (rows : List Object) (p : PodData)
    → list_all (is_under_way (contents_of rows)) (claims_of (contents_of rows) (plain_pod p)) ≡ list_all (is_under_way rows) (claims_of rows p)
under_way_same rows p = all_claims rows p (is_under_way (contents_of rows)) (is_under_way rows) (under_way_plain rows)

step_plain : (w : World) (p : PodData) → plain_step (step_of w.store.rows p) ≡ plain_step (step_of (contents_of w.store.rows) (plain_pod p))
step_plain w p =
    step_both w (plain_world w) p (plain_pod p) (near_plain w) refl (list_all (is_under_way w.store.rows) (claims_of w.store.rows p))
    ∙ ap (λ b. plain_step (step_with (contents_of w.store.rows) (plain_pod p) b)) (sym (under_way_same w.store.rows p))

-- what an agent has to do

carried_plain : (c : ClaimData) (x : Option Object) → carried_by (plain_claim c) (option_map content_of x) ≡ carried_by c x
carried_plain c None = refl
carried_plain c (Some (Class x)) = refl
carried_plain c (Some (Node x)) = refl
carried_plain c (Some (Volume x)) = carries_plain x c
carried_plain c (Some (Claim x)) = refl
carried_plain c (Some (Pod x)) = refl

ready_plain : (rows : List Object) (x : Option ClaimData) → is_ready (contents_of rows) (option_map plain_claim x) ≡ is_ready rows x
ready_plain rows None = refl
ready_plain rows (Some c) =
    ap (λ b. not (is_deleting c.meta) && is_protected_claim c && is_completed c && is_claim_bound c.phase && b)
    (ap (carried_by (plain_claim c)) (row_plain (volume_key c.volume_name) rows) ∙ carried_plain c (row_at (volume_key c.volume_name) rows))

pub agent_plain : (w : World) (p : PodData) → agent_due (plain_world w) (plain_pod p) ≡ agent_due w p
agent_plain w p =
    ap (λ b. if is_deleting p.meta then Some dues.Finish else if not (is_pod_mounted w.devices p) && b then Some dues.Mount else None)
    (all_same (λ name. is_ready (contents_of w.store.rows) (claim_named (contents_of w.store.rows) p.meta.namespace name))
    (λ name. is_ready w.store.rows (claim_named w.store.rows p.meta.namespace name))
    (λ name. ap (is_ready (contents_of w.store.rows)) (named_plain w.store.rows p.meta.namespace name) ∙ ready_plain w.store.rows (claim_named w.store.rows p.meta.namespace name)) p.claims)

-- what is due by a step: the version of the node to which a pod goes does not matter, nor do nodes of claims

due_plain : (setup : Setup) (w : World) (p : PodData) (s : Step) (action : Option Due) → IsStepDue setup w p s action → IsStepDue setup w p (plain_step s) action
due_plain setup w p (Assigns n) action due = due
due_plain setup w p GoesNowhere action due = due
due_plain setup w p Waits action due = due
due_plain setup w p Searches action due = due

plain_due : (setup : Setup) (w : World) (p : PodData) (s : Step) (action : Option Due) → IsStepDue setup w p (plain_step s) action → IsStepDue setup w p s action
plain_due setup w p (Assigns n) action due = due
plain_due setup w p GoesNowhere action due = due
plain_due setup w p Waits action due = due
plain_due setup w p Searches action due = due

module _ (setup : Setup) (old new : World) (p q : PodData) (near : AreNear old new) (same : content_of (Pod p) ≡ content_of (Pod q)) where
  near_due : (s : Step) (action : Option Due) → IsStepDue setup old p s action → IsStepDue setup new q s action
  near_due (Assigns n) action due = due
  near_due GoesNowhere action due = due
  near_due Waits action due = due
  near_due Searches None none = λ k. none (near_prepares setup new old q p (back_near old new near) (sym same) k)
  near_due Searches (Some action) due = (due.0, near_prepares setup old new p q near same due.1)

  step_due : (s t : Step) (action : Option Due) → plain_step s ≡ plain_step t → IsStepDue setup old p s action → IsStepDue setup new q t action
  step_due s t action steps due = plain_due setup new q t action (subst (λ x. IsStepDue setup new q x action) steps (due_plain setup new q s action (near_due s action due)))

module _ (setup : Setup) (w : World) (p : PodData) where
  pub pod_due_to : (b : Bool) (action : Option Due) → IsPodDue setup w p b action → IsPodDue setup (plain_world w) (plain_pod p) b action
  pod_due_to true action due = due ∙ sym (agent_plain w p)
  pod_due_to false action due =
      step_due setup w (plain_world w) p (plain_pod p) (near_plain w) refl (step_of w.store.rows p) (step_of (contents_of w.store.rows) (plain_pod p)) action (step_plain w p) due

  pub pod_due_from : (b : Bool) (action : Option Due) → IsPodDue setup (plain_world w) (plain_pod p) b action → IsPodDue setup w p b action
  pod_due_from true action due = due ∙ agent_plain w p
  pod_due_from false action due =
      step_due setup (plain_world w) w (plain_pod p) p (back_near w (plain_world w) (near_plain w)) refl
      (step_of (contents_of w.store.rows) (plain_pod p)) (step_of w.store.rows p) action (sym (step_plain w p)) due
