-- Each object stands at a key that an import or a user's entry gave, or at that of the volume of a claim whose UID one of them gave.
use Rattle.std.proofs.Common.{◌≡◌, ◌≢◌, ◌∙◌, ℕ, ◌+◌, ◌*◌, ◌≤◌, List, [], ◌∷◌, length, cond, Bool, true, false, true≢false, Option, Some, None, inl, inr, refl, sym, ap, subst, arith}
use Rattle.std.specs.Prelude.{◌⊎◌, ◌&&◌}
use Rattle.std.proofs.lemmas.List.Sums.{sum_by-cons}
use Rattle.kube_parts.specs.declared.uid.Uid.{Uid}
use Rattle.kube_objects.specs.declared.key.Key.{Key}
use Rattle.kube_objects.specs.declared.objects.Volume.{Volume as VolumeData}
use Rattle.kube_objects.specs.declared.objects.Object.{Object}
use Rattle.kube_objects.specs.declared.objects.Object.TheVariants.{Class, Node, Volume, Claim, Pod}
use Rattle.kube_objects.specs.Keys.{AreRows, key_of, kind_index, kind_of, meta_of, row_at}
use Rattle.kube_parts.specs.Uids.{uid_of_serial}
use Rattle.kube_objects.proofs.KeyOrder.{row_at_key}
use Rattle.call_types.specs.declared.entry.Entry.{Entry}
use Rattle.call_types.specs.declared.request.Request.{Request}
use Rattle.call_types.specs.declared.request.Request.TheVariants as requests
use Rattle.call_types.specs.declared.request.SeatKind.{SeatKind}
use Rattle.call_types.specs.declared.request.SeatKind.TheVariants as seats
use Rattle.call_types.specs.declared.setup.Setup.{Setup}
use Rattle.binder_model.specs.Answers.{is_user}
use Rattle.binder_model.specs.Licence.{Licensed}
use Rattle.binder_model.specs.ObjectKeys.{claim_key, volume_key}
use Rattle.binder_model.specs.OpsLicence.{MayCreate}
use Rattle.binder_model.specs.Provisioning.{data_name}
use Rattle.binder_model.specs.Run.{Run}
use Rattle.binder_model.specs.Store.{admitted_object, at_version, created_object, marked_object, with_meta, without_status}
use Rattle.binder_model.specs.Told.{own}
use Rattle.binder_model.specs.World.{IsHistory, World, effect, world}
use Rattle.model_laws.specs.Stood.{Stood}
use Rattle.model_laws.proofs.Growing.{runs_are_histories}
use Rattle.model_laws.proofs.Histories.{rows_stand_in_order}
use Rattle.model_laws.proofs.Identity.{IsVersionOf, at_version_keeps, key-at_version, key-created, key-marked, key-updated, status_kept, updated_keeps}
use Rattle.model_laws.proofs.Imported.{from_key, from_uid, import_row}
use Rattle.model_laws.proofs.Lists.{IsIn}
use Rattle.model_laws.proofs.Newest.{newest_told}
use Rattle.model_laws.proofs.Stood.{stood}
use Rattle.model_laws.proofs.Truths.{told_is_true}
use Rattle.model_laws.proofs.Versions.{meta-with_meta}
use Rattle.safety_law.specs.Invariant.Moves.{IsWritten}
use Rattle.safety_law.specs.Invariant.Writes.{Writes}
use Rattle.safety_law.proofs.Invariant.Moves.{moves}
use Rattle.settle_measure.proofs.Left.Sums.{others_behind, stands}
use Rattle.settle_budget.specs.Objects.Objects.{ObjectsAreFew, asks_create, creations, is_create}
use Rattle.settle_write_counts.proofs.Rounds.Made.{made_name as made_volume}

-- ---- the keys that were given

-- the key of the volume that may be made for a claim with this UID; where there is none, a key that nothing asks for
abbrev made_key : Option Uid → Key
made_key None = volume_key []
made_key (Some uid) = volume_key (data_name uid)

-- those of an object: its own, and that of the volume which may be made for it
abbrev with_keys : Key → Option Uid → List Key → List Key
with_keys key uid keys = key ∷ made_key uid ∷ keys

abbrev import_keys : List Object → List Key
import_keys [] = []
import_keys (o ∷ os) = with_keys (key_of o) (meta_of o).uid (import_keys os)

-- with those of an object that a user's entry asks to create, at this version
abbrev asked_keys : Request → Bool → ℕ → List Key → List Key
asked_keys (requests.Create o) true version keys = with_keys (key_of o) (Some (uid_of_serial version)) keys
asked_keys (requests.Create o) false version keys = keys
asked_keys request user version keys = keys

abbrev given_keys : Setup → List Entry → List Key
given_keys setup [] = import_keys setup.imports
given_keys setup (e ∷ past) = asked_keys e.request (is_user e.kind) ((world setup past).store.version + 1) (given_keys setup past)

imports_two : (os : List Object) → length (import_keys os) ≡ 2 * length os
imports_two [] = refl
imports_two (o ∷ os) = let rest = imports_two os in omega (arith, rest)

asked_two : (request : Request) (user : Bool) (version : ℕ) (keys : List Key) → length (asked_keys request user version keys) ≤ 2 * cond (user && is_create request) 1 0 + length keys
asked_two (requests.Create o) true version keys = omega arith
asked_two (requests.Create o) false version keys = omega arith
asked_two request user version keys = by user
  where
    by : (b : Bool) → length keys ≤ 2 * cond (b && is_create request) 1 0 + length keys
    by true = omega arith
    by false = omega arith

given_two : (setup : Setup) (past : List Entry) → length (given_keys setup past) ≤ 2 * (length setup.imports + creations past)
given_two setup [] = let two = imports_two setup.imports in omega (arith, two)
given_two setup (e ∷ past) =
    let rest = given_two setup past in
    let more = asked_two e.request (is_user e.kind) ((world setup past).store.version + 1) (given_keys setup past) in
    let count : creations (e ∷ past) ≡ cond (asks_create e) 1 0 + creations past = sum_by-cons (λ x. cond (asks_create x) 1 0) e past in
    omega (arith, rest, more, count)

-- ---- an object at such a key

-- it stands at one of these keys, and the volume that may be made for it, if it is a claim, would
record IsPlaced (keys : List Key) (o : Object) : Type 0 where
  at : IsIn (key_of o) keys
  volume : kind_index (kind_of o) ≡ 3 → (uid : Uid) → (meta_of o).uid ≡ Some uid → IsIn (volume_key (data_name uid)) keys

-- what is written over it does too
over : (keys : List Key) (old o : Object) → key_of o ≡ key_of old → (meta_of o).uid ≡ (meta_of old).uid → IsPlaced keys old → IsPlaced keys o
over keys old o keyed same placed = record {
  at = subst (λ k. IsIn k keys) (sym keyed) placed.at;
  volume = λ kind uid has. placed.volume (ap (λ (k : Key). kind_index k.kind) (sym keyed) ∙ kind) uid (sym same ∙ has);
}

more : (keys all : List Key) → ((key : Key) → IsIn key keys → IsIn key all) → (o : Object) → IsPlaced keys o → IsPlaced all o
more keys all wider o placed = record { at = wider (key_of o) placed.at; volume = λ kind uid has. wider (volume_key (data_name uid)) (placed.volume kind uid has) }

-- that whose keys are given
new_placed : (o : Object) (key : Key) (uid : Option Uid) (keys : List Key) → key_of o ≡ key → (meta_of o).uid ≡ uid → IsPlaced (with_keys key uid keys) o
new_placed o key uid keys keyed has = record { at = inl (sym keyed); volume = λ kind own_uid is. inr (inl (ap made_key (sym has ∙ is))) }

-- ---- imports

import_placed : (os : List Object) (x o : Object) → IsIn x os → key_of o ≡ key_of x → (meta_of o).uid ≡ (meta_of x).uid → IsPlaced (import_keys os) o
import_placed [] x o among keyed same = absurd among
import_placed (y ∷ os) x o (inl is) keyed same = new_placed o (key_of y) (meta_of y).uid (import_keys os) (keyed ∙ ap key_of (sym is)) (same ∙ ap (λ z. (meta_of z).uid) (sym is))
import_placed (y ∷ os) x o (inr later) keyed same = more (import_keys os) (import_keys (y ∷ os)) (λ key i. inr (inr i)) o (import_placed os x o later keyed same)

-- ---- calls

created_uid : (default : Option (List ℕ)) (o : Object) (n : ℕ) (moment : List ℕ) → (meta_of (created_object default o n moment)).uid ≡ Some (uid_of_serial n)
unfolding created_object
created_uid default o n moment = ap (λ m. m.uid) (meta-with_meta (admitted_object default (without_status o)) _)

marked_uid : (o : Object) (n : ℕ) (moment : List ℕ) → (meta_of (marked_object o n moment)).uid ≡ (meta_of o).uid
unfolding marked_object
marked_uid o n moment = ap (λ m. m.uid) (meta-with_meta o _)

-- of controllers only ops creates, and only volumes
record IsMade (mine : List Entry) (x : Object) : Type 0 where
  volume : VolumeData
  is : x ≡ Volume volume
  may : MayCreate mine volume

makes : (kind : SeatKind) (mine : List Entry) (x : Object) → is_user kind ≡ false → Licensed kind mine (requests.Create x) → IsMade mine x
makes seats.Ops mine (Volume v) other may = record { volume = v; is = refl; may = may.1 }
makes seats.Ops mine (Class x) other may = absurd may.1
makes seats.Ops mine (Node x) other may = absurd may.1
makes seats.Ops mine (Claim x) other may = absurd may.1
makes seats.Ops mine (Pod x) other may = absurd may.1
makes seats.User mine x other may = absurd (true≢false other)
makes seats.Binder mine x other may = absurd may.1
makes seats.Scheduler mine x other may = absurd may.1
makes seats.ClaimProtect mine x other may = absurd may.1
makes seats.VolumeProtect mine x other may = absurd may.1
makes seats.Agent mine x other may = absurd may.1

module _ (setup : Setup) (past : List Entry) (history : IsHistory setup past) (all : (x : Object) → Stood setup past x → IsPlaced (given_keys setup past) x) (kind : SeatKind) (seat : ℕ) where
  abbrev here : World
  here = world setup past

  abbrev keys_now : Request → List Key
  keys_now r = asked_keys r (is_user kind) (here.store.version + 1) (given_keys setup past)

  -- what stands at a key is placed, and so is what is written over it
  over_row : (key : Key) (old o : Object) → row_at key here.store.rows ≡ Some old → key_of o ≡ key_of old → (meta_of o).uid ≡ (meta_of old).uid → IsPlaced (given_keys setup past) o
  over_row key old o there keyed same = over (given_keys setup past) old o keyed same (all old
      (stood setup past old (ap (λ k. row_at k here.store.rows) (row_at_key key old here.store.rows there) ∙ there)))

  new_row : (x o : Object) → Licensed kind (own seat past) (requests.Create x) → key_of o ≡ key_of x
      → (meta_of o).uid ≡ Some (uid_of_serial (here.store.version + 1)) → (user : Bool) → is_user kind ≡ user
      → IsPlaced (asked_keys (requests.Create x) user (here.store.version + 1) (given_keys setup past)) o
  new_row x o may keyed has true is = new_placed o (key_of x) (Some (uid_of_serial (here.store.version + 1))) (given_keys setup past) keyed has
  new_row x o may keyed has false is =
      let m = makes kind (own seat past) x is may in
      let c = m.may in
      let told = told_is_true setup past seat (Claim c.claim) history (newest_told (own seat past) (claim_key c.claim.meta.namespace c.claim.meta.name) (Claim c.claim) c.newest) in
      let key : key_of o ≡ volume_key (data_name c.uid) = keyed ∙ (ap key_of m.is ∙ made_volume m.volume c.claim c.uid c.class c.id c.topology c.object) in
      record {
        at = subst (λ k. IsIn k (given_keys setup past)) (sym key) ((all (Claim c.claim) told).volume refl c.uid c.known);
        volume = λ of_claim uid its. absurd (let volume = ap (λ (k : Key). kind_index k.kind) key in omega (arith, volume, of_claim));
      }

  wrote : (r : Request) (o : Object) → Licensed kind (own seat past) r → Writes here kind r o → IsPlaced (keys_now r) o
  unfolding at_version with_meta
  wrote (requests.Create x) o may i = new_row x o may (ap key_of i.is ∙ key-created _ x _ _) (ap (λ y. (meta_of y).uid) i.is ∙ created_uid _ x _ _) (is_user kind) refl
  wrote (requests.Update x given) o may u =
      over_row (key_of x) u.old o u.there (ap key_of u.is ∙ (key-updated u.old x (here.store.version + 1) ∙ sym (row_at_key (key_of x) u.old here.store.rows u.there)))
      (ap (λ y. (meta_of y).uid) u.is ∙ (updated_keeps u.old x (here.store.version + 1) u.fault).uid)
  wrote (requests.UpdateStatus key status given) o may i =
      let v : IsVersionOf i.old (Some i.new) = subst (IsVersionOf i.old) i.fits (status_kept status i.old) in
      over_row key i.old o i.there (ap key_of i.is ∙ (key-at_version i.new (here.store.version + 1) ∙ v.1))
      (ap (λ y. (meta_of y).uid) i.is ∙ (at_version_keeps i.old i.new (here.store.version + 1) v.0 v.2).uid)
  wrote (requests.Edit key change) o may e =
      let u = e.update in
      over_row (key_of e.new) u.old o u.there (ap key_of u.is ∙ (key-updated u.old e.new (here.store.version + 1) ∙ sym (row_at_key (key_of e.new) u.old here.store.rows u.there)))
      (ap (λ y. (meta_of y).uid) u.is ∙ (updated_keeps u.old e.new (here.store.version + 1) u.fault).uid)
  wrote (requests.Delete key given) o may i =
      over_row key i.old o i.there (ap key_of i.is ∙ key-marked i.old (here.store.version + 1) here.moment) (ap (λ y. (meta_of y).uid) i.is ∙ marked_uid i.old (here.store.version + 1) here.moment)
  wrote (requests.BindPod key uid node) o may i = over_row key (Pod i.pod) o i.there (ap key_of i.is) (ap (λ y. (meta_of y).uid) i.is)
  wrote (requests.FinishPod key uid node epoch) o may i = over_row key (Pod i.pod) o i.there (ap key_of i.is) (ap (λ y. (meta_of y).uid) i.is)
  wrote _ o may i = absurd i

-- ---- histories

wider : (request : Request) (user : Bool) (version : ℕ) (keys : List Key) (key : Key) → IsIn key keys → IsIn key (asked_keys request user version keys)
wider (requests.Create o) true version keys key i = inr (inr i)
wider (requests.Create o) false version keys key i = i
wider request user version keys key i = i

-- all that ever stood is placed
placed : (setup : Setup) (past : List Entry) → Run setup past → (o : Object) → Stood setup past o → IsPlaced (given_keys setup past) o
placed setup [] run o there =
    let c = import_row setup.imports setup.imports (key_of o) o there in
    import_placed setup.imports c.import o c.given (from_key setup.imports setup.imports o c) (from_uid setup.imports setup.imports o c)
placed setup (e ∷ past) run o (inl earlier) =
    more (given_keys setup past) (given_keys setup (e ∷ past))
    (λ key i. wider e.request (is_user e.kind) ((world setup past).store.version + 1) (given_keys setup past) key i) o (placed setup past run.0 o earlier)
placed setup (e ∷ past) run o (inr now) =
    by (placed setup past run.0) ((moves setup (world setup past) e.kind e.request (rows_stand_in_order setup past)).row (key_of o) o now)
  where
    by : ((x : Object) → Stood setup past x → IsPlaced (given_keys setup past) x) → (row_at (key_of o) (world setup past).store.rows ≡ Some o)
        ⊎ IsWritten (world setup past) (effect setup (world setup past) e.kind e.request) (Writes (world setup past) e.kind e.request) o → IsPlaced (given_keys setup (e ∷ past)) o
    by all (inl before) = more (given_keys setup past) (given_keys setup (e ∷ past)) (λ key i. wider e.request (is_user e.kind)
        ((world setup past).store.version + 1) (given_keys setup past) key i) o (all o (stood setup past o before))
    by all (inr written) = wrote setup past (runs_are_histories setup past run.0) all e.kind e.seat e.request o run.2 written.write

-- ---- they are counted by their keys

-- the keys without one of them
record IsWithout (keys : List Key) (key : Key) : Type 0 where
  rest : List Key
  fewer : length rest + 1 ≤ length keys
  keeps : (other : Key) → IsIn other keys → other ≢ key → IsIn other rest

without : (keys : List Key) (key : Key) → IsIn key keys → IsWithout keys key
without [] key i = absurd i
without (k ∷ ks) key (inl is) = record { rest = ks; fewer = omega arith; keeps = keep }
  where
    keep : (other : Key) → IsIn other (k ∷ ks) → other ≢ key → IsIn other ks
    keep other (inl here_) differs = absurd (differs (sym here_ ∙ is))
    keep other (inr later) differs = later
without (k ∷ ks) key (inr i) = let w = without ks key i in let few = w.fewer in record { rest = k ∷ w.rest; fewer = omega (arith, few); keeps = keep w }
  where
    keep : (w : IsWithout ks key) (other : Key) → IsIn other (k ∷ ks) → other ≢ key → IsIn other (k ∷ w.rest)
    keep w other (inl here_) differs = inl here_
    keep w other (inr later) differs = inr (w.keeps other later differs)

-- no key stands twice, so there are no more objects than keys
few_rows : (rows : List Object) (keys : List Key) → AreRows rows → ((o : Object) → IsIn o rows → IsIn (key_of o) keys) → length rows ≤ length keys
few_rows [] keys order each = omega arith
few_rows (o ∷ os) keys order each =
    let w = without keys (key_of o) (each o (inl refl)) in
    let fewer = w.fewer in
    let rest = few_rows os w.rest order.1 (λ x i. w.keeps (key_of x) (each x (inr i)) (others_behind o os order.0 x i)) in
    omega (arith, fewer, rest)

pub objects_are_few : ObjectsAreFew
objects_are_few setup past run =
    let rows = (world setup past).store.rows in
    let order = rows_stand_in_order setup past in
    let few = few_rows rows (given_keys setup past) order (λ o i. (placed setup past run o (stood setup past o (stands rows order o i))).at) in
    let two = given_two setup past in
    omega (arith, few, two)
