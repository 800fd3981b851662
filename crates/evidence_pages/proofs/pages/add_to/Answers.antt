use Rattle.std.proofs.lemmas.Result.{on_ok_weaker}
use Rattle.evidence_pages.proofs.Paging.{pages_grow, pages_set, pages_insert}
use Rattle.evidence_pages.proofs.pages.add_to.Goals as goal

pub returns-then-has_entry : goal.returns-then-has_entry
returns-then-has_entry c = λ mine after behind all. pages_grow mine after (λ small part. (behind small part).0) c.args.pages.now.items all

pub returns-else-has_entry : goal.returns-else-has_entry
returns-else-has_entry c =
    let within = rw c.deref.ensures.value at c.in-Ok.ensures in
    on_ok_weaker c.put_last.result (λ put mine after behind all. pages_set mine after c.args.entry behind c.args.pages.now.items c.in-Ok.at
    c.index_mut.result.now c.put_last.new.page within c.index_mut.ensures.value put all) c.put_last.ensures

pub returns-in_ok-insert-in-Err : goal.returns-in_ok-insert-in-Err
returns-in_ok-insert-in-Err c = λ mine after behind all. rw c.in_ok-insert-in-Err.ensures.items (pages_insert mine after c.args.entry behind
    c.args.pages.now.items c.in-Err.at _ c.in_ok-page-in-Err.ensures all)
