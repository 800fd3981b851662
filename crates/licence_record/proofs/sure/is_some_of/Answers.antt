use Rattle.std.proofs.Common.{refl, subst, arith}
use Rattle.model_laws.proofs.Evidence.{some_at}
use Rattle.licence_record.proofs.sure.is_some_of.Goals as goal

pub returns-then-test : goal.returns-then-test
returns-then-test g c = (
  (λ _. some_at (g.T.SureTest.allows c.args.test.now) c.args.objects.now c.loop-object.object-index c.object-item.result (omega arith)
      (subst (g.T.SureTest.allows c.args.test.now) c.object-item.is (c.if-test.ensures.0 refl))),
  (λ _ _. refl),
)
