use Rattle.std.proofs.Common.{◌≡◌, ◌∙◌, ap, subst}
use Rattle.std.specs.List.Sorted.{IsBinarySearchResult}
use Rattle.std.specs.Ordering.{ordering_then}
use Rattle.plain_data.proofs.RowFacts.{searched}
use Rattle.volume_index.specs.VolumeOrders.{Size, name_cmp, size_cmp, size_of}
use Rattle.volume_index.proofs.VolumeOrders.{by_size_total}
use Rattle.volume_index.proofs.order.size_place.Goals as goal

pub returns : goal.returns
returns c =
    let facts = c.place_of.ensures in
    let size = c.size_in-size.ensures in
    let found : Size = record { class = c.size_in-size.result.class.now; block = c.size_in-size.result.block; modes = c.size_in-size.result.modes; bytes = c.size_in-size.result.bytes } in
    let of_it : found ≡ size_of c.deref.result.now = (λ i. record { class = size.class i; block = size.block i; modes = size.modes i; bytes = size.bytes i }) in
    let is : found ≡ size_of c.args.volume.now = of_it ∙ ap size_of c.deref.ensures in
    let position = subst (λ s. IsBinarySearchResult (λ y. ordering_then (size_cmp (size_of y) s) (name_cmp y c.args.volume.now)) c.args.volumes.now c.place_of.result) is facts.position in
    let place = searched by_size_total (λ v. v) c.args.volume.now _ _ c.requires facts.bound position in
    record { bound = facts.bound; at = place.at; gap = place.gap }
