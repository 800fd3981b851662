-- Lines of generated scripts, beside lines that they are not.
-- A choice of this project, as the definitions are.
use Rattle.std.specs.Prelude.{◌≡◌, ◌≢◌, true, false, None, codes}
use Rattle.kube_objects.specs.declared.objects.Object.TheVariants.{Volume, Claim, Pod}
use Rattle.call_types.specs.declared.request.Request.TheVariants.{Delete}
use Rattle.script_text.specs.declared.script.Line.TheVariants.{Call}
use Rattle.script_gen.specs.Objects.{volume_of, sized_claim, claim_key, pod_with}
use Rattle.script_gen.specs.Generated.{creates, volume_line, claim_line, pod_line, delete_line}

pub record LineExamples : Type 0 where
  pub volume : volume_line 1 0 ≡ creates (Volume (volume_of 0 7 false))
  pub next_volume : volume_line 1 1 ≡ creates (Volume (volume_of 1 13 false))
  pub many_writers : volume_line 0 0 ≡ creates (Volume (volume_of 0 16 true))
  pub claim : claim_line 1 0 ≡ creates (Claim (sized_claim (codes "c0") 6 (codes "slow")))
  pub fast_claim : claim_line 1 1 ≡ creates (Claim (sized_claim (codes "c1") 9 (codes "fast")))
  pub pod : pod_line 3 ≡ creates (Pod (pod_with (codes "p3") (codes "l3")))
  pub delete : delete_line 1 0 ≡ Call 1 (Delete (claim_key (codes "c151")) None)
  pub last_delete : delete_line 1 63 ≡ Call 1 (Delete (claim_key (codes "c27")) None)
  pub not_of_eight : volume_line 1 0 ≢ creates (Volume (volume_of 0 8 false))
  pub not_of_many : volume_line 1 0 ≢ creates (Volume (volume_of 0 7 true))
  pub not_slow : claim_line 1 1 ≢ creates (Claim (sized_claim (codes "c1") 9 (codes "slow")))
  pub not_the_next : delete_line 1 0 ≢ Call 1 (Delete (claim_key (codes "c39")) None)
