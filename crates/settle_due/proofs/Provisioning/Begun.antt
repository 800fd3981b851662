-- What begins on a claim, and that it is the same on rows that agree.
use Rattle.std.proofs.Common.{◌≡◌, ◌∙◌, ◌⊎◌, ℕ, List, Bool, true, false, true≢false, Option, Some, None, inl, inr, refl, sym, ap, if◌then◌else◌}
use Rattle.std.specs.Prelude.{◌&&◌, is_some, not}
use Rattle.plain_data.specs.Pairs.{value_at}
use Rattle.kube_objects.specs.declared.key.Key.{Key}
use Rattle.kube_parts.specs.declared.uid.Uid.{Uid}
use Rattle.kube_parts.specs.declared.parts.Kind.{Kind}
use Rattle.kube_parts.specs.declared.parts.Kind.TheVariants as kinds
use Rattle.kube_objects.specs.declared.objects.Class.{Class as ClassData}
use Rattle.kube_objects.specs.declared.objects.Claim.{Claim as ClaimData}
use Rattle.kube_objects.specs.declared.objects.Object.{Object}
use Rattle.kube_objects.specs.declared.objects.Object.TheVariants.{Class, Node, Volume, Claim, Pod}
use Rattle.kube_objects.specs.Bindings.{class_of_claim, has_key, selected_node}
use Rattle.kube_objects.specs.Keys.{AreRows, row_at}
use Rattle.call_types.specs.declared.request.SeatKind.TheVariants as seats
use Rattle.binder_model.specs.Matching.{has_match}
use Rattle.binder_model.specs.ObjectKeys.{class_key, node_key}
use Rattle.binder_model.specs.Provisioning.{is_wanting, provisions}
use Rattle.binder_model.specs.Reading.{follows}
use Rattle.reclaim_ops.specs.declared.provision.ProvisionOp.{ProvisionOp}
use Rattle.reclaim_ops.specs.declared.provision.ProvisionStep.{ProvisionStep}
use Rattle.reclaim_ops.specs.declared.provision.ProvisionStep.TheVariants as steps
use Rattle.reclaim_ops.specs.Decisions.{at_step, begins_at, by_class, claim_for, delayed_step, first_step, node_step}
use Rattle.settle_due.proofs.Binding.Matches.{match_same}

-- a node was selected for the claim
abbrev pub HasNode : ClaimData → Type 0
HasNode c = has_key selected_node c.meta.annotations ≡ true

-- under a class that is not delayed data are asked for on any node; else a node was selected
abbrev pub IsChosen : ClaimData → ClassData → ProvisionStep → Type 0
IsChosen c x step = ((x.delayed ≡ false) × (step ≡ steps.Provisions None)) ⊎ HasNode c

pub data Begun (c : ClaimData) (op : Option ProvisionOp) : Type 0 where
  BeginsNone : op ≡ None → Begun c op
  BeginsOne : (uid : Uid) (x : ClassData) (step : ProvisionStep) → op ≡ Some (at_step c uid x step) → IsChosen c x step → Begun c op

stepped : (rows : List Object) (c : ClaimData) (uid : Uid) (x : ClassData) → Begun c (begins_at c uid x (first_step rows c x))
stepped rows c uid x = by (provisions x) x.delayed (value_at selected_node c.meta.annotations) refl refl
  where
    by : (real delayed : Bool) (node : Option (List ℕ)) → x.delayed ≡ delayed → value_at selected_node c.meta.annotations ≡ node
        → Begun c (begins_at c uid x (if not real then None else if delayed then delayed_step rows node else Some (steps.Provisions None)))
    by false delayed _ late selected = BeginsNone refl
    by true false _ late selected = BeginsOne uid x (steps.Provisions None) refl (inl (late, refl))
    by true true None late selected = BeginsNone refl
    by true true (Some node) late selected = BeginsOne uid x (node_step (row_at (node_key node) rows)) refl (inr (ap is_some selected))

pub begun : (rows : List Object) (c : ClaimData) → Begun c (claim_for rows c)
begun rows c = by (is_wanting c && not (has_match rows c)) c.meta.uid (row_at (class_key (class_of_claim c)) rows)
  where
    by : (b : Bool) (u : Option Uid) (row : Option Object) → Begun c (if b then by_class rows c u row else None)
    by false u row = BeginsNone refl
    by true None row = BeginsNone refl
    by true (Some uid) None = BeginsNone refl
    by true (Some uid) (Some (Class x)) = stepped rows c uid x
    by true (Some uid) (Some (Node o)) = BeginsNone refl
    by true (Some uid) (Some (Volume o)) = BeginsNone refl
    by true (Some uid) (Some (Claim o)) = BeginsNone refl
    by true (Some uid) (Some (Pod o)) = BeginsNone refl

-- what the binder follows the provisioner follows
follows_too : (k : Kind) → follows seats.Binder k ≡ true → follows seats.Ops k ≡ true
follows_too kinds.StorageClass f = refl
follows_too kinds.Node f = refl
follows_too kinds.PersistentVolume f = refl
follows_too kinds.PersistentVolumeClaim f = refl
follows_too kinds.Pod f = absurd (true≢false (sym f))

module _ (xs ys : List Object) (c : ClaimData) (same : (k : Key) → follows seats.Ops k.kind ≡ true → row_at k xs ≡ row_at k ys) where
  delayed_same : (node : Option (List ℕ)) → delayed_step xs node ≡ delayed_step ys node
  delayed_same None = refl
  delayed_same (Some node) = ap (λ row. Some (node_step row)) (same (node_key node) refl)

  class_same : (u : Option Uid) (row : Option Object) → by_class xs c u row ≡ by_class ys c u row
  class_same None row = refl
  class_same (Some uid) None = refl
  class_same (Some uid) (Some (Class x)) =
      ap (λ s. begins_at c uid x (if not (provisions x) then None else if x.delayed then s else Some (steps.Provisions None))) (delayed_same (value_at selected_node c.meta.annotations))
  class_same (Some uid) (Some (Node o)) = refl
  class_same (Some uid) (Some (Volume o)) = refl
  class_same (Some uid) (Some (Claim o)) = refl
  class_same (Some uid) (Some (Pod o)) = refl

  pub begins_same : AreRows xs → AreRows ys → claim_for xs c ≡ claim_for ys c
  begins_same order ordered =
      let found = match_same xs ys c order ordered (λ k f. same k (follows_too k.kind f)) in
      let begins = class_same c.meta.uid (row_at (class_key (class_of_claim c)) xs) ∙ ap (by_class ys c c.meta.uid) (same (class_key (class_of_claim c)) refl) in
      λ i. if is_wanting c && not (found i) then begins i else None
