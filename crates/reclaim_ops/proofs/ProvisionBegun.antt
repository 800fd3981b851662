-- What begins on a claim has its evidence, where the look-up shows what was told newest and the nodes were listed; and it has a next call.
use Rattle.std.proofs.Common.{◌≡◌, ◌∙◌, ℕ, List, Bool, true, false, true≢false, Option, Some, None, inr, refl, sym, ap, subst, if◌then◌else◌}
use Rattle.std.specs.Prelude.{is_some, not, ◌&&◌}
use Rattle.std.proofs.lemmas.Bool.{and_parts}
use Rattle.plain_data.specs.Pairs.{value_at}
use Rattle.kube_parts.specs.declared.uid.Uid.{Uid}
use Rattle.kube_objects.specs.declared.key.Key.{Key}
use Rattle.kube_parts.specs.declared.parts.Kind.TheVariants as kinds
use Rattle.kube_objects.specs.declared.objects.Class.{Class as ClassData}
use Rattle.kube_objects.specs.declared.objects.Claim.{Claim as ClaimData}
use Rattle.kube_objects.specs.declared.objects.Object.{Object}
use Rattle.kube_objects.specs.declared.objects.Object.TheVariants.{Class, Node, Volume, Claim, Pod}
use Rattle.kube_objects.specs.Bindings.{class_of_claim, selected_node}
use Rattle.kube_objects.specs.Keys.{kind_of, row_at, same_kind}
use Rattle.kube_objects.proofs.KeyOrder.{row_at_key}
use Rattle.call_types.specs.declared.entry.Entry.{Entry}
use Rattle.binder_model.specs.Matching.{has_match}
use Rattle.binder_model.specs.ObjectKeys.{class_key, claim_key, node_key}
use Rattle.binder_model.specs.OpsLicence.{AreLabels}
use Rattle.binder_model.specs.Provisioning.{is_wanting, provisions}
use Rattle.binder_model.specs.Told.{IsNewest, newest, object_of}
use Rattle.informer_cache.specs.All.{AllKnown, AllStandFor, all_objects}
use Rattle.model_laws.proofs.Lists.{none_some, one}
use Rattle.model_laws.proofs.Newest.{newest_claim}
use Rattle.reclaim_ops.specs.declared.provision.ProvisionOp.{ProvisionOp}
use Rattle.reclaim_ops.specs.declared.provision.ProvisionStep.{ProvisionStep}
use Rattle.reclaim_ops.specs.declared.provision.ProvisionStep.TheVariants as steps
use Rattle.reclaim_ops.specs.BeginLaw.{BegunProvisionsHaveCalls, ParkedProvisionsHaveEnded}
use Rattle.reclaim_ops.specs.Decisions.{at_step, begins_at, by_class, claim_begins, claim_for, delayed_step, first_step, node_step}
use Rattle.reclaim_ops.specs.Evidence.{IsCurrent, MayDecide, ProvisionKeeps, ProvisionStepKeeps}
use Rattle.reclaim_ops.specs.Provisions.{provision_call_at, provision_call, provision_parks}
use Rattle.reclaim_ops.proofs.Listings.{absent, listed_is_told}
use Rattle.reclaim_ops.proofs.ProvisionMoves.{wanting_undone}

becomes : (a b : ProvisionOp) (mine : List Entry) → Some a ≡ Some b → ProvisionKeeps a mine → ProvisionKeeps b mine
becomes a b mine e kept = subst (λ (k : ProvisionOp). ProvisionKeeps k mine) (one a b e) kept

module _ (rows : List Object) (mine : List Entry) (shows : (key : Key) → row_at key rows ≡ object_of (newest mine key)) (may : MayDecide mine) where
  newest_row : (key : Key) (o : Object) → row_at key rows ≡ Some o → IsNewest mine key o
  newest_row key o at = sym (shows key) ∙ at

  -- what stands under a node's key is a node
  other_kind : (node : List ℕ) (o : Object) → same_kind (kind_of o) kinds.Node ≡ false → row_at (node_key node) rows ≡ Some o → ⊥
  other_kind node o other at = true≢false (ap (λ (k : Key). same_kind k.kind kinds.Node) (sym (row_at_key (node_key node) o rows at)) ∙ other)

  module _ (c : ClaimData) (uid : Uid) (x : ClassData) (current : IsCurrent c uid x mine) (wanting : is_wanting c ≡ true) where
    on_node : (node : List ℕ) (row : Option Object) → value_at selected_node c.meta.annotations ≡ Some node → provisions x ≡ true → x.delayed ≡ true
        → row_at (node_key node) rows ≡ row → ProvisionStepKeeps (node_step row) c uid x mine
    on_node node (Some (Node n)) selected real late at =
        let labels : AreLabels mine c true (Some n.meta.labels) = (node, selected, (n, (newest_row (node_key node) (Node n) at, refl))) in
        record { current = current; wanting = wanting; real = real; placed = subst (λ b. AreLabels mine c b (Some n.meta.labels)) (sym late) labels }
    on_node node None selected real late at = record {
      known = current.known;
      told = newest_claim (λ o. o ≡ c) mine (claim_key c.meta.namespace c.meta.name) c current.newest refl;
      undone = wanting_undone c wanting;
      node = node;
      selected = selected;
      why = inr (absent (newest mine (node_key node)) (listed_is_told kinds.Node mine (node_key node) may.nodes refl) (sym (shows (node_key node)) ∙ at));
    }
    on_node node (Some (Class o)) selected real late at = absurd (other_kind node (Class o) refl at)
    on_node node (Some (Volume o)) selected real late at = absurd (other_kind node (Volume o) refl at)
    on_node node (Some (Claim o)) selected real late at = absurd (other_kind node (Claim o) refl at)
    on_node node (Some (Pod o)) selected real late at = absurd (other_kind node (Pod o) refl at)

    step_becomes : (a b : ProvisionStep) → Some a ≡ Some b → ProvisionStepKeeps a c uid x mine → ProvisionStepKeeps b c uid x mine
    step_becomes a b e kept = subst (λ s. ProvisionStepKeeps s c uid x mine) (one a b e) kept

    step_keeps : (step : ProvisionStep) → first_step rows c x ≡ Some step → ProvisionStepKeeps step c uid x mine
    step_keeps step e = by (provisions x) x.delayed (value_at selected_node c.meta.annotations) refl refl refl e
      where
        by : (real delayed : Bool) (node : Option (List ℕ)) → provisions x ≡ real → x.delayed ≡ delayed → value_at selected_node c.meta.annotations ≡ node
            → (if not real then None else if delayed then delayed_step rows node else Some (steps.Provisions None)) ≡ Some step → ProvisionStepKeeps step c uid x mine
        by false _ _ real late selected h = none_some h
        by true false _ real late selected h =
            step_becomes (steps.Provisions None) step h (record { current = current; wanting = wanting; real = real; placed = subst (λ b. AreLabels mine c b None) (sym late) refl })
        by true true None real late selected h = none_some h
        by true true (Some node) real late selected h = step_becomes (node_step (row_at (node_key node) rows)) step h (on_node node (row_at (node_key node) rows) selected real late refl)

    begun : (op : ProvisionOp) → begins_at c uid x (first_step rows c x) ≡ Some op → ProvisionKeeps op mine
    begun op = by (first_step rows c x) refl
      where
        by : (s : Option ProvisionStep) → first_step rows c x ≡ s → begins_at c uid x s ≡ Some op → ProvisionKeeps op mine
        by None is e = none_some e
        by (Some step) is e = becomes (at_step c uid x step) op mine e (step_keeps step is)

  claim_keeps : (c : ClaimData) (op : ProvisionOp) → IsNewest mine (claim_key c.meta.namespace c.meta.name) (Claim c) → claim_for rows c ≡ Some op → ProvisionKeeps op mine
  claim_keeps c op newest_is = by (is_wanting c && not (has_match rows c)) c.meta.uid (row_at (class_key (class_of_claim c)) rows) refl refl refl
    where
      by : (b : Bool) (u : Option Uid) (row : Option Object) → (is_wanting c && not (has_match rows c)) ≡ b → c.meta.uid ≡ u
          → row_at (class_key (class_of_claim c)) rows ≡ row → (if b then by_class rows c u row else None) ≡ Some op → ProvisionKeeps op mine
      by false u row on known at e = none_some e
      by true None row on known at e = none_some e
      by true (Some uid) (Some (Class x)) on known at e =
          begun c uid x (record { known = known; newest = newest_is; class_newest = newest_row (class_key (class_of_claim c)) (Class x) at })
          (and_parts (is_wanting c) (not (has_match rows c)) on).0 op e
      by true (Some uid) None on known at e = none_some e
      by true (Some uid) (Some (Node o)) on known at e = none_some e
      by true (Some uid) (Some (Volume o)) on known at e = none_some e
      by true (Some uid) (Some (Claim o)) on known at e = none_some e
      by true (Some uid) (Some (Pod o)) on known at e = none_some e

pub provision_decisions : (caches : AllKnown) (mine : List Entry) (key : Key) (op : ProvisionOp) → AllStandFor caches mine → MayDecide mine
    → claim_begins (all_objects caches) (row_at key (all_objects caches)) ≡ Some op → ProvisionKeeps op mine
provision_decisions caches mine key op stand may = by (row_at key (all_objects caches)) refl
  where
    own : (c : ClaimData) → row_at key (all_objects caches) ≡ Some (Claim c) → IsNewest mine (claim_key c.meta.namespace c.meta.name) (Claim c)
    own c at = subst (λ k. IsNewest mine k (Claim c)) (sym (row_at_key key (Claim c) (all_objects caches) at)) (sym (stand.rows key) ∙ at)

    by : (row : Option Object) → row_at key (all_objects caches) ≡ row → claim_begins (all_objects caches) row ≡ Some op → ProvisionKeeps op mine
    by (Some (Claim c)) at e = claim_keeps (all_objects caches) mine stand.rows may c op (own c at) e
    by None at e = none_some e
    by (Some (Class o)) at e = none_some e
    by (Some (Node o)) at e = none_some e
    by (Some (Volume o)) at e = none_some e
    by (Some (Pod o)) at e = none_some e

-- next calls

has_call : (a b : ProvisionOp) → Some a ≡ Some b → is_some (provision_call a) ≡ true → is_some (provision_call b) ≡ true
has_call a b e is = subst (λ (k : ProvisionOp). is_some (provision_call k) ≡ true) (one a b e) is

-- a first step has a call
abbrev CallsAt : ClaimData → Uid → ClassData → Option ProvisionStep → Type 0
CallsAt c uid x s = (op : ProvisionOp) → begins_at c uid x s ≡ Some op → is_some (provision_call op) ≡ true

node_calls : (c : ClaimData) (uid : Uid) (x : ClassData) (row : Option Object) → CallsAt c uid x (Some (node_step row))
unfolding provision_call
node_calls c uid x (Some (Node n)) op e = has_call (at_step c uid x (steps.Provisions (Some n.meta.labels))) op e refl
node_calls c uid x None op e = has_call (at_step c uid x steps.ClearsNode) op e refl
node_calls c uid x (Some _) op e = has_call (at_step c uid x steps.ClearsNode) op e refl

step_calls : (rows : List Object) (c : ClaimData) (uid : Uid) (x : ClassData) → CallsAt c uid x (first_step rows c x)
unfolding provision_call
step_calls rows c uid x = by (provisions x) x.delayed (value_at selected_node c.meta.annotations)
  where
    by : (real delayed : Bool) (node : Option (List ℕ)) → CallsAt c uid x (if not real then None else if delayed then delayed_step rows node else Some (steps.Provisions None))
    by false _ _ op e = none_some e
    by true false _ op e = has_call (at_step c uid x (steps.Provisions None)) op e refl
    by true true None op e = none_some e
    by true true (Some node) op e = node_calls c uid x (row_at (node_key node) rows) op e

class_calls : (rows : List Object) (c : ClaimData) (u : Option Uid) (row : Option Object) (op : ProvisionOp) → by_class rows c u row ≡ Some op → is_some (provision_call op) ≡ true
class_calls rows c (Some uid) (Some (Class x)) op e = step_calls rows c uid x op e
class_calls rows c (Some uid) None op e = none_some e
class_calls rows c (Some uid) (Some _) op e = none_some e
class_calls rows c None row op e = none_some e

claim_calls : (rows : List Object) (c : ClaimData) (op : ProvisionOp) → claim_for rows c ≡ Some op → is_some (provision_call op) ≡ true
claim_calls rows c op = by (is_wanting c && not (has_match rows c))
  where
    by : (b : Bool) → (if b then by_class rows c c.meta.uid (row_at (class_key (class_of_claim c)) rows) else None) ≡ Some op → is_some (provision_call op) ≡ true
    by true e = class_calls rows c c.meta.uid (row_at (class_key (class_of_claim c)) rows) op e
    by false e = none_some e

pub begun_provisions_have_calls : BegunProvisionsHaveCalls
begun_provisions_have_calls rows (Some (Claim c)) op e = claim_calls rows c op e
begun_provisions_have_calls rows None op e = none_some e
begun_provisions_have_calls rows (Some _) op e = none_some e

-- what is parked has ended

pub parked_provisions_have_ended : ParkedProvisionsHaveEnded
unfolding provision_call
parked_provisions_have_ended op = by op.step
  where
    by : (step : ProvisionStep) → provision_parks step ≡ true → provision_call_at step op.claim op.uid op.class ≡ None
    by steps.Parked e = refl
    by (steps.Provisions labels) e = absurd (true≢false (sym e))
    by (steps.Creates id topology) e = absurd (true≢false (sym e))
    by steps.ClearsNode e = absurd (true≢false (sym e))
    by steps.Done e = absurd (true≢false (sym e))
