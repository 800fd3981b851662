use Rattle.std.proofs.Common.{◌≡◌, true, sym, subst}
use Rattle.std.specs.List.{Contains}
use Rattle.kube_objects.specs.declared.objects.Volume.{Volume as VolumeData}
use Rattle.volume_index.specs.VolumeIndex.{is_owned}
use Rattle.volume_index.specs.VolumeOrders.{AreInOrder, by_owner}
use Rattle.volume_index.specs.Steps.VolumePlaces.{IsKept}
use Rattle.volume_index.specs.VolumePlaces.{is_of_claim}
use Rattle.volume_index.proofs.PlacesOwned.{owned_counted, owned_kept}
use Rattle.volume_index.proofs.places.indexed.owned_place.Goals as goal

pub kept_place-requires-clause-counted : goal.kept_place-requires-clause-counted
kept_place-requires-clause-counted c =
    let held = subst (λ vs. (u : VolumeData) → Contains vs u → is_owned u ≡ true) (sym c.owned-owned.ensures.list) c.requires in
    owned_counted c.args.claim.now.namespace.now c.args.claim.now.name.now c.owned-owned.result.now c.owner_start-start.result
    c.owned-owned.ensures.order held c.owner_start-start.ensures.start c.owner_start-start.ensures.bound

pub returns : goal.returns
returns c = λ rows order is stands.
    let namespace = c.args.claim.now.namespace.now in
    let name = c.args.claim.now.name.now in
    let sorted = subst (AreInOrder by_owner) c.owned-owned.ensures.list c.owned-owned.ensures.order in
    c.kept_place.ensures rows order is (subst (IsKept (is_of_claim namespace name) rows) (sym c.owned-owned.ensures.list) (owned_kept namespace name rows order c.args.index.now stands sorted))
