use Rattle.std.proofs.Common.{sym, subst}
use Rattle.std.proofs.lemmas.Result.{on_ok_weaker}
use Rattle.plain_data.proofs.RowFacts.{rising_put}
use Rattle.kube_objects.specs.Keys.{AreRows, key_of}
use Rattle.kube_objects.proofs.KeyOrder.{key_cmp_total}
use Rattle.informer_cache.proofs.Found.{first_new, first_there}
use Rattle.informer_cache.proofs.merge.put_first.Goals as goal

pub returns-in-Some-clause-found : goal.returns-in-Some-clause-found
returns-in-Some-clause-found c = first_there c.args.sorted.now.items c.args.object.now _ c.in_ok-key.key c.in_ok-key.ensures (rw c.deref.ensures.value at c.in-Some.ensures)

pub returns-clause-rows : goal.returns-clause-rows
returns-clause-rows c =
    on_ok_weaker c.put_object.result (λ put. subst AreRows (sym put) (rising_put key_cmp_total key_of c.in_ok-copy-in-None.field-0 c.args.sorted.now.items c.requires)) c.put_object.ensures.ok

pub returns-clause-found : goal.returns-clause-found
returns-clause-found c =
    on_ok_weaker c.put_object.result (λ put. first_new c.args.sorted.now.items c.put_object.new.objects.items c.args.object.now
    c.in_ok-copy-in-None.field-0 c.in_ok-key.key c.in_ok-key.ensures c.in_ok-copy-in-None.ensures (rw c.deref.ensures.value at c.in-None.ensures) put) c.put_object.ensures.ok
