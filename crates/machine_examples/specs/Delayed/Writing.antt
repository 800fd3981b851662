-- What is written to prepare a node, on small look-ups. A choice of this project.
use Rattle.std.specs.Prelude.{ℕ, ◌≡◌, List, [], ◌∷◌, Option, Some, None, codes}
use Rattle.kube_objects.specs.declared.objects.Object.{Object}
use Rattle.kube_objects.specs.declared.objects.Object.TheVariants.{Class, Node, Volume, Claim}
use Rattle.call_types.specs.declared.request.Request.{Request}
use Rattle.call_types.specs.declared.request.Request.TheVariants.{Update}
use Rattle.binder_model.specs.BindWrites.{write_reference}
use Rattle.delayed_binding.specs.declared.choice.Choice.{Choice}
use Rattle.delayed_binding.specs.declared.choice.Choice.TheVariants.{Assign, Prepare, Wait, NoNode}
use Rattle.delayed_binding.specs.Writes.{prepare_write}
use Rattle.machine_examples.specs.Delayed.Choosing.{key_b, key_c, key_e}
use Rattle.machine_examples.specs.Delayed.Scenes.{b, c, chosen_on, e, late, n1}

abbrev pub rows : List Object
rows = Class late ∷ Node n1 ∷ Volume e ∷ Claim b ∷ Claim c ∷ []

-- the one claim takes the volume, and the other is to be provisioned
abbrev pub choice : Choice
choice = Prepare (codes "n1") ((key_c, key_e) ∷ []) (key_b ∷ [])

abbrev pub Writes : List Object → Choice → ℕ → Option Request → Type 0
Writes rs x nth request = prepare_write rs x nth ≡ request

pub record WriteExamples : Type 0 where
  pub reference_comes_first : Writes rows choice 0 (Some (write_reference e c))
  pub node_comes_then : Writes rows choice 1 (Some (Update (Claim (chosen_on (codes "n1") b)) (Some 8)))
  pub nothing_comes_after : Writes rows choice 2 None
  pub other_claim_is_not_written : Writes rows choice 1 (Some (Update (Claim (chosen_on (codes "n1") c)) (Some 7))) → ⊥
  pub older_node_is_written_over : Writes (Claim (chosen_on (codes "n2") b) ∷ []) choice 1 (Some (Update (Claim (chosen_on (codes "n1") b)) (Some 8)))
  pub absent_claim_has_no_reference : Writes (Volume e ∷ []) choice 0 None
  pub absent_volume_has_no_reference : Writes (Claim b ∷ Claim c ∷ []) choice 0 None
  pub absent_claim_has_no_node : Writes (Volume e ∷ Claim c ∷ []) choice 1 None
  pub assignment_writes_nothing : Writes rows (Assign (codes "n1")) 0 None
  pub waiting_writes_nothing : Writes rows Wait 0 None
  pub no_node_writes_nothing : Writes rows NoNode 0 None
