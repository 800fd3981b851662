-- Claims that need a volume need one in worlds that are near.
use Rattle.std.proofs.Common.{◌≡◌, ◌∙◌, sym, ap}
use Rattle.std.specs.Prelude.{◌&&◌, not}
use Rattle.kube_objects.specs.declared.objects.Claim.{Claim as ClaimData}
use Rattle.kube_objects.specs.declared.objects.Object.TheVariants.{Claim}
use Rattle.kube_objects.specs.Bindings.{is_completed}
use Rattle.binder_model.specs.Choice.{has_carrier, is_other}
use Rattle.binder_model.specs.World.{World}
use Rattle.settle_alike.specs.Near.Near.{AreNear, rest_of, rests_of}
use Rattle.settle_alike.proofs.Near.Annotations.{completed_rest, rest_claim}
use Rattle.settle_alike.proofs.Near.Near.{one_rest_claim}
use Rattle.settle_alike.proofs.Near.Serving.{carrier_rest}

pub other_near : (old new : World) (c d : ClaimData) → AreNear old new → rest_of (Claim c) ≡ rest_of (Claim d) → is_other old.store.rows c ≡ is_other new.store.rows d
other_near old new c d near same =
    let rest = one_rest_claim c d same in
    let completed : is_completed c ≡ is_completed d = sym (completed_rest c) ∙ (ap is_completed rest ∙ completed_rest d) in
    let carried : has_carrier old.store.rows c ≡ has_carrier new.store.rows d = sym (carrier_rest old.store.rows c)
    ∙ (ap (has_carrier (rests_of old.store.rows)) rest ∙ (ap (λ rows. has_carrier rows (rest_claim d)) near.rows ∙ carrier_rest new.store.rows d)) in
    λ i. not (completed i) && not (carried i)
