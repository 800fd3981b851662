use Rattle.std.proofs.Common.{rules, refl, subst, ap, ◌∙◌, ◌++◌, ◌∷◌, []}
use Rattle.std.proofs.lemmas.Cmp.{nat_list_cmp_total}
use Rattle.plain_data.proofs.RowFacts.{put_gap, rising_put}
use Rattle.device_model.specs.declared.mounts.NodeRows.{NodeRows}
use Rattle.device_model.specs.Kept.{node_name, AreNodes}
use Rattle.device_model.proofs.NodeLists.{put_at_node, put_new_node, rising_set, mounts_set}
use Rattle.device_model.proofs.mounts.put_in.Goals as goal

pub returns-in_err-push-in-Ok-clause-err : goal.returns-in_err-push-in-Ok-clause-err
returns-in_err-push-in-Ok-clause-err c =
    let was = c.index_mut.ensures.value in
    let same = mounts_set c.args.nodes.now.items c.in-Ok.at c.index_mut.result.now
    (record { node = c.index_mut.result.now.node; rows = c.push.new.self }) (ap (λ (n : NodeRows). n.node) was) (c.in_err-push-in-Ok.ensures.items ∙ ap (λ (n : NodeRows). n.rows.items) was) in
    search rules

pub returns-in_err-push-in-Ok-clause-rising : goal.returns-in_err-push-in-Ok-clause-rising
returns-in_err-push-in-Ok-clause-rising c = rising_set c.args.nodes.now.items c.in-Ok.at c.index_mut.result.now _ (ap (λ (n : NodeRows). n.node) c.index_mut.ensures.value) c.requires

pub returns-in_ok-push-in-Ok-clause-ok : goal.returns-in_ok-push-in-Ok-clause-ok
returns-in_ok-push-in-Ok-clause-ok c =
    let at = rw c.deref.ensures.value at c.in-Ok.ensures.at in
    let was = c.index_mut.ensures.value in
    put_at_node c.args.node c.args.row c.args.nodes.now.items c.in-Ok.at c.index_mut.result.now _ c.requires at (ap (λ (n : NodeRows). n.node) was)
    (c.in_ok-push-in-Ok.ensures.items ∙ ap (λ (n : NodeRows). n.rows.items ++ c.args.row ∷ []) was)

pub returns-in_ok-push-in-Ok-clause-rising : goal.returns-in_ok-push-in-Ok-clause-rising
returns-in_ok-push-in-Ok-clause-rising c = rising_set c.args.nodes.now.items c.in-Ok.at c.index_mut.result.now _ (ap (λ (n : NodeRows). n.node) c.index_mut.ensures.value) c.requires

pub returns-in_ok-insert-in-Err-clause-ok : goal.returns-in_ok-insert-in-Err-clause-ok
returns-in_ok-insert-in-Err-clause-ok c =
    let gap = rw c.deref.ensures.value at c.in-Err.ensures.gap in
    rw c.in_ok-insert-in-Err.ensures.items (put_new_node c.args.node c.args.row c.args.nodes.now.items c.in-Err.at _ c.requires gap refl
    (rw c.in_ok-push-in-Err.ensures.items (rw c.new-rows.ensures.items refl)))

pub returns-in_ok-insert-in-Err-clause-rising : goal.returns-in_ok-insert-in-Err-clause-rising
returns-in_ok-insert-in-Err-clause-rising c =
    let gap = rw c.deref.ensures.value at c.in-Err.ensures.gap in
    rw c.in_ok-insert-in-Err.ensures.items (subst AreNodes (put_gap nat_list_cmp_total node_name _ _ refl _ _ gap) (rising_put nat_list_cmp_total node_name _ _ c.requires))
