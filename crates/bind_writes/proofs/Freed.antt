-- What is unbound where the controller had made the binding.
use Rattle.std.proofs.Common.{◌≡◌, ◌∙◌, List, true, None, refl, ap}
use Rattle.plain_data.specs.Pairs.{Pair, without_key}
use Rattle.kube_objects.specs.declared.objects.Volume.{Volume as VolumeData}
use Rattle.kube_objects.specs.Bindings.{bound_by_controller, has_key}
use Rattle.binder_model.specs.BindWrites.{unbound_volume}

marked : (v : VolumeData) (annotations : List Pair) → has_key bound_by_controller v.meta.annotations ≡ true
    → annotations ≡ without_key bound_by_controller v.meta.annotations → record v { claim_ref = None; meta = record v.meta { annotations = annotations } } ≡ unbound_volume v
unfolding unbound_volume
marked v annotations h k = rw (h, k) refl

-- the copy without the mark and the reference
pub unbound_marked : (v f : VolumeData) (annotations : List Pair) → f ≡ v → has_key bound_by_controller v.meta.annotations ≡ true
    → annotations ≡ without_key bound_by_controller f.meta.annotations → record f { claim_ref = None; meta = record f.meta { annotations = annotations } } ≡ unbound_volume v
unbound_marked v f annotations e h k =
    ap (λ (w : VolumeData). record w { claim_ref = None; meta = record w.meta { annotations = annotations } }) e
    ∙ marked v annotations h (k ∙ ap (λ (w : VolumeData). without_key bound_by_controller w.meta.annotations) e)
