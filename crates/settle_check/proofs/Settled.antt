-- Where something is due the world is not settled.
use Rattle.std.proofs.Common.{Bool, true, false, Some, None}
use Rattle.kube_objects.specs.declared.key.Key.{Key}
use Rattle.kube_parts.specs.declared.names.Due.{Due}
use Rattle.kube_objects.specs.declared.objects.Pod.{Pod as PodData}
use Rattle.kube_objects.specs.declared.objects.Object.{Object}
use Rattle.kube_objects.specs.declared.objects.Object.TheVariants.{Class, Node, Volume, Claim, Pod}
use Rattle.kube_objects.specs.Bindings.{is_scheduled}
use Rattle.call_types.specs.declared.setup.Setup.{Setup}
use Rattle.binder_model.specs.Choice.{Assigns, GoesNowhere, Searches, Step, Waits, step_of}
use Rattle.binder_model.specs.Due.{IsDue, IsFirstDue, IsPodDue, IsSettled, IsStepDue}
use Rattle.binder_model.specs.World.{World}

not_both_steps : (setup : Setup) (w : World) (p : PodData) (step : Step) (action : Due) → IsStepDue setup w p step (Some action) → IsStepDue setup w p step None → ⊥
not_both_steps setup w p GoesNowhere action some none = absurd cc
not_both_steps setup w p (Assigns n) action some none = absurd cc
not_both_steps setup w p Waits action some none = absurd cc
not_both_steps setup w p Searches action some none = none some.1

not_both_of_pod : (setup : Setup) (w : World) (p : PodData) (scheduled : Bool) (action : Due) → IsPodDue setup w p scheduled (Some action) → IsPodDue setup w p scheduled None → ⊥
not_both_of_pod setup w p true action some none = absurd cc
not_both_of_pod setup w p false action some none = not_both_steps setup w p (step_of w.store.rows p) action some none

not_both : (setup : Setup) (w : World) (o : Object) (action : Due) → IsDue setup w o (Some action) → IsDue setup w o None → ⊥
not_both setup w (Volume v) action some none = absurd cc
not_both setup w (Claim c) action some none = absurd cc
not_both setup w (Pod p) action some none = not_both_of_pod setup w p (is_scheduled p) action some none
not_both setup w (Class x) action some none = absurd cc
not_both setup w (Node x) action some none = absurd cc

pub not_settled : (setup : Setup) (w : World) (first : Key × Due) → IsFirstDue setup w (Some first) → IsSettled setup w → ⊥
not_settled setup w first due settled = not_both setup w due.object first.1 due.due (settled first.0 due.object due.there)
