use Rattle.std.proofs.Common.{sym, subst, ◌∙◌}
use Rattle.kube_objects.specs.declared.objects.Object.TheVariants.{Claim}
use Rattle.kube_objects.specs.Keys.{key_of}
use Rattle.kube_objects.proofs.KeyOrder.{key_cmp_total}
use Rattle.plain_data.proofs.RowFacts.{without_at, without_gap, rising_without}
use Rattle.quota_rules.specs.Counting.{AreCounted, counted_key}
use Rattle.quota_rules.proofs.counted.drop_claim.Goals as goal

pub returns-in-Ok-clause-without : goal.returns-in-Ok-clause-without
returns-in-Ok-clause-without c =
    let at = rw c.deref.ensures.value at c.in-Ok.ensures.at in
    c.remove.ensures.items ∙ sym (without_at key_cmp_total counted_key (key_of (Claim c.args.claim.now)) _ _ at)

pub returns-in-Ok-clause-rising : goal.returns-in-Ok-clause-rising
returns-in-Ok-clause-rising c =
    let at = rw c.deref.ensures.value at c.in-Ok.ensures.at in
    let is = without_at key_cmp_total counted_key (key_of (Claim c.args.claim.now)) _ _ at in
    rw c.remove.ensures.items (subst AreCounted is (rising_without key_cmp_total counted_key (key_of (Claim c.args.claim.now)) _ c.requires))

pub returns-in-Err-clause-without : goal.returns-in-Err-clause-without
returns-in-Err-clause-without c =
    let gap = rw c.deref.ensures.value at c.in-Err.ensures.gap in
    sym (without_gap key_cmp_total counted_key (key_of (Claim c.args.claim.now)) _ _ c.requires gap)
