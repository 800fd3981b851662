use Rattle.std.proofs.Common.{◌∙◌, subst, sym}
use Rattle.volume_index.specs.Keeping.{Keeps}
use Rattle.informer_cache.proofs.Kept.{keeps_absent, tells_absent}
use Rattle.informer_cache.proofs.rows.put_absent.Goals as goal

pub returns-clause-told : goal.returns-clause-told
returns-clause-told c = tells_absent c.requires.kept c.in_ok-mark.ensures.0 c.in_ok-mark.ensures.1 c.in_ok-put_in.ensures.ok c.take_out-before.ensures.without

pub returns-clause-kept : goal.returns-clause-kept
returns-clause-kept c = keeps_absent c.requires.kept c.in_ok-mark.ensures.0 c.in_ok-mark.ensures.1 c.in_ok-put_in.ensures.ok c.take_out-before.ensures.without

pub returns-clause-index : goal.returns-clause-index
returns-clause-index c =
    subst (Keeps c.leave.new.self) (sym c.take_out-before.ensures.without)
    (c.leave.ensures c.args.objects.now.items c.args.key.now c.requires.kept.ordered (sym (c.as_ref.ensures.value ∙ c.take_out-before.ensures.taken)) c.requires.index)
