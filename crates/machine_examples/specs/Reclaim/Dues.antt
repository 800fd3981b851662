-- What is due of what begins on a claim, by worlds whose devices can give the data and such whose devices cannot; and which requests read a kind.
-- A choice of this project, as the law is that ties what begins to what is due.
use Rattle.std.specs.Prelude.{◌≡◌, true, false, [], Option, Some, None}
use Rattle.kube_parts.specs.declared.names.Due.{Due}
use Rattle.kube_parts.specs.declared.names.Due.TheVariants as dues
use Rattle.kube_parts.specs.declared.parts.Kind.TheVariants as kinds
use Rattle.call_types.specs.declared.request.Request.TheVariants as requests
use Rattle.call_types.specs.declared.setup.Setup.{Setup}
use Rattle.reclaim_ops.specs.declared.provision.ProvisionOp.{ProvisionOp}
use Rattle.reclaim_ops.specs.declared.provision.ProvisionStep.TheVariants as steps
use Rattle.reclaim_ops.specs.BeginLaw.{lists_or_watches}
use Rattle.reclaim_ops.specs.DueLaw.{due_of_provision}
use Rattle.model_examples.specs.DueActions.{far_setup, pool_setup, small_setup, with_rows}
use Rattle.model_examples.specs.Samples.{id_a, key_a, zone}
use Rattle.machine_examples.specs.Reclaim.ProvisionMoves.{at_once, on_node}

-- in a world without objects whose pools are these
abbrev pub DueIn : Setup → Option ProvisionOp → Option Due → Type 0
DueIn setup op action = due_of_provision setup (with_rows []) op ≡ action

pub record DueExamples : Type 0 where
  pub provision_where_a_pool_fits : DueIn pool_setup (Some (at_once (steps.Provisions None))) (Some dues.Provision)
  pub nothing_where_no_pool_fits : DueIn small_setup (Some (at_once (steps.Provisions None))) None
  pub provision_where_a_pool_fits_the_node : DueIn pool_setup (Some (on_node (steps.Provisions (Some zone)))) (Some dues.Provision)
  pub clear_where_the_pool_is_small : DueIn small_setup (Some (on_node (steps.Provisions (Some zone)))) (Some dues.ClearNode)
  pub clear_where_the_pool_is_far : DueIn far_setup (Some (on_node (steps.Provisions (Some zone)))) (Some dues.ClearNode)
  pub clear_where_the_node_is_absent : DueIn pool_setup (Some (on_node steps.ClearsNode)) (Some dues.ClearNode)
  pub nothing_where_nothing_begins : DueIn pool_setup None None
  pub nothing_after_the_end : DueIn pool_setup (Some (at_once steps.Done)) None
  pub list_is_a_read : lists_or_watches (requests.List kinds.Node None) ≡ true
  pub watch_is_a_read : lists_or_watches (requests.Watch kinds.Node 3) ≡ true
  pub single_read_is_none : lists_or_watches (requests.Get key_a) ≡ false
  pub erase_is_none : lists_or_watches (requests.Erase id_a) ≡ false
