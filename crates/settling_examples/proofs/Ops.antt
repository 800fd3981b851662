-- What ops may still write, and claims of which nothing is due of provisioning, computed.
use Rattle.std.proofs.Common.{◌≡◌, ◌∙◌, List, [], Option, Some, refl, sym, ap}
use Rattle.std.specs.Prelude.{codes}
use Rattle.kube_objects.specs.declared.objects.Claim.{Claim as ClaimData}
use Rattle.kube_objects.specs.declared.objects.Object.{Object}
use Rattle.kube_objects.specs.declared.objects.Object.TheVariants.{Claim}
use Rattle.kube_objects.specs.Bindings.{no_provisioner}
use Rattle.kube_parts.specs.Uids.{uid_text}
use Rattle.uuid.specs.Text.{by_index}
use Rattle.binder_model.specs.Due.{provision_due}
use Rattle.binder_model.specs.Imports.{imported_object}
use Rattle.binder_model.specs.Store.{leaves}
use Rattle.binder_model.specs.World.{world}
use Rattle.model_laws.proofs.Lists.{none_some}
use Rattle.settle_measure.specs.Left.Small.{open_claim}
use Rattle.settling_examples.specs.Ending.{faults_upto}
use Rattle.settling_examples.specs.Ops.{LeftExamples, NoneDueExamples, OpsExamples, with_claim, with_pool}

pub ops_examples : OpsExamples
unfolding faults_upto uid_text by_index
ops_examples = record { alone = refl; beside = refl; has_own = refl; own_ended = refl; ended = refl; deleted = refl; faults = refl; node = refl; node_of_own = refl; all = refl }

pub left_examples : LeftExamples
unfolding uid_text by_index
left_examples = record {
  none_there = refl;
  pending = refl;
  available = refl;
  bound = refl;
  to_go = refl;
  released = refl;
  failed = refl;
  other = refl;
  no_uid = refl;
  of_claim = refl;
  of_new_claim = refl;
  of_open = refl;
  of_open_to_go = refl;
  of_released = refl;
  of_failed = refl;
  of_released_to_go = refl;
  of_class = refl;
  of_pod = refl;
  of_node = refl;
}

abbrev claim_in : ClaimData → Option Object → ClaimData
claim_in c (Some (Claim d)) = d
claim_in c o = c

-- the claim as it stands after its import
abbrev stands : List Object → ClaimData
stands imports = claim_in open_claim (Some (imported_object imports (Claim open_claim)))

pub none_due_examples : NoneDueExamples
unfolding imported_object leaves
none_due_examples = record {
  by_hand = record { claim = stands (with_claim no_provisioner); there = refl; none = refl };
  no_pool = record { claim = stands (with_claim (codes "csi")); there = refl; none = refl };
  small_pool = record { claim = stands (with_claim (codes "csi")); there = refl; none = refl };
  large_pool = λ i.
      let same : stands (with_claim (codes "csi")) ≡ i.claim = ap (claim_in open_claim) i.there in
      none_some (sym i.none ∙ ap (provision_due (with_pool 5) (world (with_pool 5) [])) (sym same));
  absent = λ i. none_some i.there;
}
