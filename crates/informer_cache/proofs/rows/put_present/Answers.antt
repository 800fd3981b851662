use Rattle.std.proofs.Common.{◌∙◌, ap, subst, sym}
use Rattle.volume_index.specs.Keeping.{Keeps}
use Rattle.kube_objects.specs.declared.key.Key.{Key}
use Rattle.kube_objects.specs.declared.objects.Object.{Object}
use Rattle.kube_objects.specs.Keys.{put_row}
use Rattle.informer_cache.proofs.Kept.{keeps_mark, keeps_present, tells_present}
use Rattle.informer_cache.proofs.rows.put_present.Goals as goal

pub returns-in_err-before-clause-kept : goal.returns-in_err-before-clause-kept
returns-in_err-before-clause-kept c = keeps_mark c.requires.kept c.in_ok-mark.ensures.0 c.in_ok-mark.ensures.1 c.in_ok-put_in.ensures.ok c.in_err-before.ensures.err

pub returns-clause-told : goal.returns-clause-told
returns-clause-told c =
    tells_present c.requires.kept c.in_ok-mark.ensures.0 c.in_ok-mark.ensures.1 c.in_ok-put_in.ensures.ok c.args.object.now c.requires.key
    (c.in_ok-before.ensures.ok ∙ ap (λ (o : Object). put_row o c.args.objects.now.items) c.in_ok-copy.ensures)

pub returns-in_err-follow-clause-kept : goal.returns-in_err-follow-clause-kept
returns-in_err-follow-clause-kept c =
    keeps_present c.requires.kept c.in_ok-mark.ensures.0 c.in_ok-mark.ensures.1 c.in_ok-put_in.ensures.ok c.args.object.now
    (ap (λ (k : Key). k.kind) c.requires.key) c.requires.key (c.in_ok-before.ensures.ok ∙ ap (λ (o : Object). put_row o c.args.objects.now.items) c.in_ok-copy.ensures)

pub returns-clause-kept : goal.returns-clause-kept
returns-clause-kept c =
    keeps_present c.requires.kept c.in_ok-mark.ensures.0 c.in_ok-mark.ensures.1 c.in_ok-put_in.ensures.ok c.args.object.now
    (ap (λ (k : Key). k.kind) c.requires.key) c.requires.key (c.in_ok-before.ensures.ok ∙ ap (λ (o : Object). put_row o c.args.objects.now.items) c.in_ok-copy.ensures)

pub returns-clause-index : goal.returns-clause-index
returns-clause-index c =
    subst (Keeps c.follow.new.self) (sym (c.in_ok-before.ensures.ok ∙ ap (λ (o : Object). put_row o c.args.objects.now.items) c.in_ok-copy.ensures))
    (c.follow.ensures.keeps c.args.objects.now.items c.args.key.now c.requires.kept.ordered (sym (c.as_ref.ensures.value ∙ c.in_ok-before.ensures.before)) c.requires.key c.requires.index)
