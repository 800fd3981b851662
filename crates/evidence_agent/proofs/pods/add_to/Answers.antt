use Rattle.std.proofs.lemmas.Result.{on_ok_weaker}
use Rattle.evidence_agent.proofs.Paging.{pods_set, pods_insert}
use Rattle.evidence_agent.proofs.pods.add_to.Goals as goal

pub returns-in-Ok : goal.returns-in-Ok
returns-in-Ok c =
    let within = rw c.deref.ensures.value at c.in-Ok.ensures in
    on_ok_weaker c.put_last.result (λ put mine told all. pods_set mine c.args.told told c.args.pages.now.items c.in-Ok.at c.index_mut.result.now
    c.put_last.new.page within c.index_mut.ensures.value put all) c.put_last.ensures

pub returns-in_ok-insert-in-Err : goal.returns-in_ok-insert-in-Err
returns-in_ok-insert-in-Err c = λ mine told all. rw c.in_ok-insert-in-Err.ensures.items (pods_insert mine c.args.told told c.args.pages.now.items c.in-Err.at _ c.in_ok-page-in-Err.ensures all)
