use Rattle.std.proofs.Common.{subst}
use Rattle.kube_objects.specs.declared.objects.Claim.{Claim as ClaimData}
use Rattle.kube_objects.specs.declared.objects.Class.{Class as ClassData}
use Rattle.kube_objects.specs.declared.objects.Object.TheVariants.{Class, Claim}
use Rattle.kube_objects.specs.Bindings.{class_of_claim}
use Rattle.binder_model.specs.ObjectKeys.{claim_key, class_key}
use Rattle.binder_model.specs.Told.{IsNewest}
use Rattle.licence_writes.proofs.OpsRows.Creating.{create_absent, create_classless, create_row}
use Rattle.licence_record.proofs.Judging.{lift, no}
use Rattle.licence_writes.proofs.create.create_for.Goals as goal

pub returns-in-None : goal.returns-in-None
returns-in-None g c =
    let mine = g.R.Record.told c.args.seat.now in
    let r = c.args.reference.now in
    no _ _ (λ w row.
    let none : (x : ClaimData) → IsNewest mine (claim_key r.namespace r.name) (Claim x) → ⊥ =
    subst (λ n. (x : ClaimData) → IsNewest mine (claim_key r.namespace n) (Claim x) → ⊥) c.as_str-name.ensures
    (subst (λ n. (x : ClaimData) → IsNewest mine (claim_key n c.as_str-name.result.now) (Claim x) → ⊥) c.as_str-namespace.ensures (c.in-None.ensures.none w)) in
    create_absent mine c.args.new.now r c.requires.refers none row)

pub returns-in-None-newest_class : goal.returns-in-None-newest_class
returns-in-None-newest_class g c =
    let mine = g.R.Record.told c.args.seat.now in
    let r = c.args.reference.now in
    let newest : IsNewest mine (claim_key r.namespace r.name) (Claim c.in-Some.claim.now) =
    subst (λ n. IsNewest mine (claim_key r.namespace n) (Claim c.in-Some.claim.now)) c.as_str-name.ensures
    (subst (λ n. IsNewest mine (claim_key n c.as_str-name.result.now) (Claim c.in-Some.claim.now)) c.as_str-namespace.ensures c.in-Some.ensures.some) in
    no _ _ (λ w row.
    let none : (x : ClassData) → IsNewest mine (class_key (class_of_claim c.in-Some.claim.now)) (Class x) → ⊥ =
    subst (λ n. (x : ClassData) → IsNewest mine (class_key n) (Class x) → ⊥) c.class_of_claim.ensures (c.in-None-newest_class.ensures.none w) in
    create_classless mine c.args.new.now r c.in-Some.claim.now c.requires.refers newest none row)

pub returns-in-Some-newest_class : goal.returns-in-Some-newest_class
returns-in-Some-newest_class g c =
    let mine = g.R.Record.told c.args.seat.now in
    let r = c.args.reference.now in
    let newest : IsNewest mine (claim_key r.namespace r.name) (Claim c.in-Some.claim.now) =
    subst (λ n. IsNewest mine (claim_key r.namespace n) (Claim c.in-Some.claim.now)) c.as_str-name.ensures
    (subst (λ n. IsNewest mine (claim_key n c.as_str-name.result.now) (Claim c.in-Some.claim.now)) c.as_str-namespace.ensures c.in-Some.ensures.some) in
    let class_newest : IsNewest mine (class_key (class_of_claim c.in-Some.claim.now)) (Class c.in-Some-newest_class.class.now) =
    subst (λ n. IsNewest mine (class_key n) (Class c.in-Some-newest_class.class.now)) c.class_of_claim.ensures c.in-Some-newest_class.ensures.some in
    lift _ _ _ _ (λ b is. create_row mine c.args.new.now r c.args.uid c.in-Some.claim.now c.in-Some-newest_class.class.now b c.requires.refers
    c.requires.known newest class_newest is) c.creates.ensures
