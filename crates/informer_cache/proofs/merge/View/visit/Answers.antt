use Rattle.std.proofs.Common.{subst, sym}
use Rattle.std.proofs.lemmas.Result.{on_ok_weaker}
use Rattle.informer_cache.specs.Steps.Views.{sight_of}
use Rattle.informer_cache.specs.Knowledge.{telling_of}
use Rattle.informer_cache.proofs.Seen.{HasKey, put_on, seen_has}
use Rattle.informer_cache.proofs.merge.View.visit.Goals as goal

pub store-requires-clause-object : goal.store-requires-clause-object
store-requires-clause-object c = subst (HasKey c.args.key.now) (sym c.in-Some.ensures) (seen_has (sight_of c.args.self.now) c.args.key.now)

pub returns-else-is_lacked-clause-on : goal.returns-else-is_lacked-clause-on
returns-else-is_lacked-clause-on c =
    on_ok_weaker c.store.result
    (λ told. put_on (sight_of c.args.self.now) c.args.next.now c.store.new.self c.args.key.now (telling_of c.in-Some.told) c.store.ensures.kind (sym c.in-Some.ensures) told c.requires.right)
    c.store.ensures.told
