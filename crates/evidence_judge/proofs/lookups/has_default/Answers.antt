use Rattle.std.proofs.Common.{◌∙◌, ap, subst, sym}
use Rattle.std.specs.Option.{option_copied}
use Rattle.kube_types.specs.Defaults.{IsDefaultPlace}
use Rattle.informer_cache.specs.All.{all_objects}
use Rattle.evidence_judge.proofs.Defaults.{default_by}
use Rattle.evidence_judge.proofs.lookups.has_default.Goals as goal

pub returns-in-Some-class_at : goal.returns-in-Some-class_at
returns-in-Some-class_at c = λ mine all told.
    let named = c.is_class_named.ensures told in
    default_by c.args.caches.now mine all c.in-Some.place c.in-Some-class_at.class.now c.args.name.now
    (subst (IsDefaultPlace (all_objects c.args.caches.now)) c.in-Some.is c.default_class.ensures)
    (sym (ap option_copied c.in-Some-class_at.is) ∙ c.class_at.ensures) named.0 named.1
