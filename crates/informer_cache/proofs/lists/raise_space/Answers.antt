use Rattle.std.proofs.Common.{◌∙◌, ap}
use Rattle.std.proofs.lemmas.Result.{on_ok_weaker}
use Rattle.std.specs.Prelude.{Some}
use Rattle.informer_cache.specs.Marks.{greater}
use Rattle.informer_cache.proofs.Found.{raised_space}
use Rattle.informer_cache.proofs.lists.raise_space.Goals as goal

pub returns-clause-ok : goal.returns-clause-ok
returns-clause-ok c =
    let known = rw c.deref.ensures.value at c.version_in-known.ensures in
    on_ok_weaker c.put_in.result
    (λ put. raised_space c.args.spaces.now.items c.put_in.new.spaces.items c.args.namespace.now c.in_ok-namespace.namespace c.args.version
    c.raised-version.result c.in_ok-namespace.ensures (c.raised-version.ensures ∙ ap (greater (Some c.args.version)) known) put)
    c.put_in.ensures.ok
