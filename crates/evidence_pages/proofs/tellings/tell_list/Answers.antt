use Rattle.std.proofs.Common.{◌≡◌, sym, arith}
use Rattle.model_laws.proofs.Evidence.{some_at}
use Rattle.evidence_pages.proofs.tellings.tell_list.Goals as goal

pub loop-object-preserved : goal.loop-object-preserved
loop-object-preserved c = λ mine all pages. c.in_ok-tell_object.ensures mine (all c.object-item.result
    (some_at (λ x. x ≡ c.object-item.result) c.args.objects.now c.loop-object.object-index c.object-item.result (omega arith) (sym c.object-item.is))) (c.loop-object.invariant mine all pages)
