-- The same is due in worlds that are alike.
use Rattle.std.proofs.Common.{◌≡◌, ◌∙◌, [], Option, Some, None, refl, sym, ap, subst}
use Rattle.std.specs.Prelude.{option_map}
use Rattle.kube_objects.specs.declared.key.Key.{Key}
use Rattle.kube_parts.specs.declared.names.Due.{Due}
use Rattle.kube_objects.specs.declared.objects.Claim.{Claim as ClaimData}
use Rattle.kube_objects.specs.declared.objects.Object.{Object}
use Rattle.kube_objects.specs.declared.objects.Object.TheVariants.{Class, Node, Volume, Claim, Pod}
use Rattle.kube_objects.specs.Bindings.{is_scheduled}
use Rattle.kube_objects.specs.Keys.{row_at}
use Rattle.call_types.specs.declared.setup.Setup.{Setup}
use Rattle.binder_model.specs.Due.{IsDue, or_due, provision_due, reclaim_due, volume_guard_due}
use Rattle.binder_model.specs.World.{World}
use Rattle.model_laws.proofs.Lists.{none_some, one}
use Rattle.settle_writes.specs.Writes.Lasting.{content_of}
use Rattle.settle_alike.specs.Alike.Alike.{AlikeIsDue, AlikeIsSettled, AreAlike}
use Rattle.settle_alike.proofs.Alike.Binding.{claim_due_plain, claim_guard_plain, volume_due_plain}
use Rattle.settle_alike.proofs.Alike.Pods.{pod_due_from, pod_due_to}
use Rattle.settle_alike.proofs.Alike.Rows.{plain_claim, plain_world, row_plain}
use Rattle.settle_alike.proofs.Near.Near.{near_plain, near_provisions}

pub provision_plain : (setup : Setup) (w : World) (c : ClaimData) → provision_due setup (plain_world w) (plain_claim c) ≡ provision_due setup w c
provision_plain setup w c = sym (near_provisions setup w (plain_world w) c (plain_claim c) (near_plain w) refl)

due_to : (setup : Setup) (w : World) (o : Object) (action : Option Due) → IsDue setup w o action → IsDue setup (plain_world w) (content_of o) action
due_to setup w (Class x) action due = due
due_to setup w (Node x) action due = due
due_to setup w (Volume v) action due = due ∙ ap (λ d. or_due d (or_due (reclaim_due v) (volume_guard_due v))) (sym (volume_due_plain w.store.rows v))
due_to setup w (Claim c) action due =
    let guard = sym (claim_guard_plain w.store.rows c) in
    let bind = sym (claim_due_plain w.store.rows c) in
    let provision = sym (provision_plain setup w c) in
    due ∙ (λ i. or_due (guard i) (or_due (bind i) (provision i)))
due_to setup w (Pod p) action due = pod_due_to setup w p (is_scheduled p) action due

due_from : (setup : Setup) (w : World) (o : Object) (action : Option Due) → IsDue setup (plain_world w) (content_of o) action → IsDue setup w o action
due_from setup w (Class x) action due = due
due_from setup w (Node x) action due = due
due_from setup w (Volume v) action due = due ∙ ap (λ d. or_due d (or_due (reclaim_due v) (volume_guard_due v))) (volume_due_plain w.store.rows v)
due_from setup w (Claim c) action due =
    let guard = claim_guard_plain w.store.rows c in
    let bind = claim_due_plain w.store.rows c in
    let provision = provision_plain setup w c in
    due ∙ (λ i. or_due (guard i) (or_due (bind i) (provision i)))
due_from setup w (Pod p) action due = pod_due_from setup w p (is_scheduled p) action due

pub one_plain : (old new : World) → AreAlike old new → plain_world old ≡ plain_world new
one_plain old new alike =
    let rows = alike.rows in
    let stored = alike.stored in
    let mounts = alike.mounts in
    λ i. record { store = record { rows = rows i; version = 0 }; moment = []; log = []; devices = record { stored = stored i; epochs = []; mounts = mounts i; calls = 0 } }

pub alike_is_due : AlikeIsDue
alike_is_due setup old new o p action alike same due =
    due_from setup new p action (subst (λ x. IsDue setup (plain_world new) x action) same (subst (λ w. IsDue setup w (content_of o) action) (one_plain old new alike) (due_to setup old o action due)))

-- settled

record IsRow (x : Option Object) (o : Object) : Type 0 where
  row : Object
  is : x ≡ Some row
  same : content_of row ≡ content_of o

row_back : (x : Option Object) (o : Object) → option_map content_of x ≡ Some (content_of o) → IsRow x o
row_back None o e = none_some e
row_back (Some row) o e = record { row = row; is = refl; same = one (content_of row) (content_of o) e }

-- what stands under a key stands there in a world that is alike
alike_row : (old new : World) (key : Key) (o : Object) → AreAlike old new → row_at key new.store.rows ≡ Some o → IsRow (row_at key old.store.rows) o
alike_row old new key o alike there =
    row_back (row_at key old.store.rows) o (sym (row_plain key old.store.rows) ∙ (ap (row_at key) alike.rows ∙ (row_plain key new.store.rows ∙ ap (option_map content_of) there)))

pub alike_is_settled : AlikeIsSettled
alike_is_settled setup old new alike settled key o there =
    let r = alike_row old new key o alike there in
    alike_is_due setup old new r.row o None alike r.same (settled key r.row r.is)
