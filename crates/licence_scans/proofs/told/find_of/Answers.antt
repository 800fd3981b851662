use Rattle.std.proofs.Common.{◌≡◌, refl, sym, arith}
use Rattle.model_laws.proofs.Evidence.{some_at}
use Rattle.licence_scans.proofs.told.find_of.Goals as goal

pub returns-then-test : goal.returns-then-test
returns-then-test g c = record {
  holds = c.if-test.ensures.0 refl;
  among = some_at (λ x. x ≡ c.object-item.result) c.args.objects.now c.loop-object.object-index c.object-item.result (omega arith) (sym c.object-item.is);
}
