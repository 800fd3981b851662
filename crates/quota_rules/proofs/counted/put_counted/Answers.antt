use Rattle.std.proofs.Common.{sym, subst, ◌∙◌}
use Rattle.kube_objects.specs.declared.objects.Object.TheVariants.{Claim}
use Rattle.kube_objects.specs.Keys.{key_of}
use Rattle.kube_objects.proofs.KeyOrder.{key_cmp_total}
use Rattle.plain_data.proofs.RowFacts.{put_at, put_gap, rising_put}
use Rattle.quota_rules.specs.Counting.{AreCounted, counted_key}
use Rattle.quota_rules.proofs.counted.put_counted.Goals as goal

pub returns-in-Ok-clause-ok : goal.returns-in-Ok-clause-ok
returns-in-Ok-clause-ok c =
    let at = rw c.deref.ensures.value at c.in-Ok.ensures.at in
    sym (put_at key_cmp_total counted_key (key_of (Claim c.args.claim.now)) c.args.x c.requires.key _ _ at)

pub returns-in-Ok-clause-rising : goal.returns-in-Ok-clause-rising
returns-in-Ok-clause-rising c =
    let at = rw c.deref.ensures.value at c.in-Ok.ensures.at in
    subst AreCounted (put_at key_cmp_total counted_key (key_of (Claim c.args.claim.now)) c.args.x c.requires.key _ _ at) (rising_put key_cmp_total counted_key c.args.x _ c.requires.order)

pub returns-in_ok-insert-in-Err-clause-ok : goal.returns-in_ok-insert-in-Err-clause-ok
returns-in_ok-insert-in-Err-clause-ok c =
    let gap = rw c.deref.ensures.value at c.in-Err.ensures.gap in
    c.in_ok-insert-in-Err.ensures.items ∙ sym (put_gap key_cmp_total counted_key (key_of (Claim c.args.claim.now)) c.args.x c.requires.key _ _ gap)

pub returns-in_ok-insert-in-Err-clause-rising : goal.returns-in_ok-insert-in-Err-clause-rising
returns-in_ok-insert-in-Err-clause-rising c =
    let gap = rw c.deref.ensures.value at c.in-Err.ensures.gap in
    let is = put_gap key_cmp_total counted_key (key_of (Claim c.args.claim.now)) c.args.x c.requires.key _ _ gap in
    rw c.in_ok-insert-in-Err.ensures.items (subst AreCounted is (rising_put key_cmp_total counted_key c.args.x _ c.requires.order))
