use Rattle.std.proofs.Common.{sym, subst}
use Rattle.std.specs.List.Sorted.{IsPermutation}
use Rattle.std.proofs.lemmas.Result.{IfOk-weaker}
use Rattle.volume_index.specs.Steps.IndexEdits.{HaveOwnNames}
use Rattle.volume_index.specs.VolumeIndex.{StandsFor, volumes_in}
use Rattle.volume_index.proofs.IndexRows.{own_names, own_names-permuted, stands_alike}
use Rattle.volume_index.proofs.index.VolumeIndex.of.Goals as goal

pub of_volumes-requires : goal.of_volumes-requires
of_volumes-requires c =
    let own = own_names c.args.rows.now c.requires in
    let sorted = own_names-permuted c.in_ok-volumes.volumes.items c.sort_unstable_by.new.self.items c.sort_unstable_by.ensures.permutation (subst HaveOwnNames (sym c.in_ok-volumes.ensures) own) in
    subst HaveOwnNames (sym c.deref.ensures.value) sorted

pub returns : goal.returns
returns c =
    let same : IsPermutation (volumes_in c.args.rows.now) c.deref.result.now =
    subst (λ vs. IsPermutation vs c.deref.result.now) c.in_ok-volumes.ensures
    (subst (IsPermutation c.in_ok-volumes.volumes.items) (sym c.deref.ensures.value) c.sort_unstable_by.ensures.permutation) in
    IfOk-weaker c.of_volumes.result (λ index. StandsFor index c.deref.result.now) (λ index. StandsFor index (volumes_in c.args.rows.now))
    (λ index stands. stands_alike index (volumes_in c.args.rows.now) c.deref.result.now same stands) c.of_volumes.ensures
