-- A deletion stays: what stands now is deleting where an earlier version of it was, and so is each version in between.
use Rattle.std.proofs.Common.{◌≡◌, ◌∙◌, ◌<◌, ◌+◌, ◌⊎◌, List, [], ◌∷◌, Some, inl, inr, true, length, sym, subst, ap, arith}
use Rattle.kube_parts.specs.declared.uid.Uid.{Uid}
use Rattle.kube_objects.specs.declared.key.Key.{Key}
use Rattle.kube_objects.specs.declared.objects.Object.{Object}
use Rattle.kube_objects.specs.Keys.{key_of, meta_of, row_at}
use Rattle.kube_objects.specs.Bindings.{is_deleting}
use Rattle.kube_parts.specs.Uids.{uid_of_serial}
use Rattle.kube_objects.proofs.KeyOrder.{row_at_key}
use Rattle.call_types.specs.declared.entry.Entry.{Entry}
use Rattle.call_types.specs.declared.setup.Setup.{Setup}
use Rattle.binder_model.specs.Imports.{ImportsPass, most_serials}
use Rattle.binder_model.specs.Promises.{most_entries}
use Rattle.binder_model.specs.World.{effect, world}
use Rattle.model_laws.specs.Stood.{Stands, Stood}
use Rattle.model_laws.proofs.Histories.{rows_stand_in_order}
use Rattle.model_laws.proofs.Imported.{pass_base}
use Rattle.model_laws.proofs.Lists.{one}
use Rattle.model_laws.proofs.Stood.{few_writes, one_uid_one_key, stood, stood_uid, version_stood}
use Rattle.safety_law.specs.Invariant.Moves.{IsWritten, Moves}
use Rattle.safety_law.specs.Invariant.Whence.{Whence}
use Rattle.safety_law.specs.Invariant.Writes.{Writes}
use Rattle.safety_law.proofs.Invariant.Moves.{moves}
use Rattle.safety_law.proofs.Invariant.Whence.{whence}
use Rattle.safety_law.specs.Pods.Deletion.{DeletionsStay}

shorter : (e : Entry) (past : List Entry) → length (e ∷ past) < most_entries → length past < most_entries
shorter e past short = omega (arith, short)

-- how the newest entry moves the store
module _ (setup : Setup) (e : Entry) (past : List Entry) where
  moved : Moves (world setup past) e.request (effect setup (world setup past) e.kind e.request) (Writes (world setup past) e.kind e.request)
  moved = moves setup (world setup past) e.kind e.request (rows_stand_in_order setup past)

  came : (o : Object) → Writes (world setup past) e.kind e.request o → Whence (world setup past).store o
  came o write = whence (world setup past).store e.kind (world setup past).moment _ e.request o write

  -- a UID that stood is not given again
  not_given : ImportsPass setup.imports → length (e ∷ past) < most_entries → (o : Object) (uid : Uid) → Stood setup past o → (meta_of o).uid ≡ Some uid
      → Some uid ≡ Some (uid_of_serial ((world setup past).store.version + 1)) → ⊥
  not_given pass short o uid was its given =
      let low = few_writes setup past in
      let most = pass_base [] setup.imports pass in
      let small : (world setup past).store.version + 1 < most_serials = omega (arith, low, most, short) in
      stood_uid setup past o uid was its ((world setup past).store.version + 1) (omega arith) small (one uid _ given)

-- what stands is deleting where an object of its UID that stood is

same_now : (setup : Setup) (past : List Entry) → ImportsPass setup.imports → length past < most_entries → (a : Object) (k : Key) (b : Object) (uid : Uid)
    → Stands (world setup past) a → row_at k (world setup past).store.rows ≡ Some b → (meta_of a).uid ≡ Some uid → (meta_of b).uid ≡ Some uid → a ≡ b
same_now setup past pass short a k b uid now is ea eb =
    let key : key_of b ≡ k = row_at_key k b (world setup past).store.rows is in
    let there : row_at (key_of b) (world setup past).store.rows ≡ Some b = ap (λ j. row_at j (world setup past).store.rows) key ∙ is in
    let same : key_of a ≡ key_of b = one_uid_one_key setup past pass short a b uid (stood setup past a now) (stood setup past b there) ea eb in
    one a b (sym now ∙ ap (λ j. row_at j (world setup past).store.rows) same ∙ there)

still : (setup : Setup) (past : List Entry) → ImportsPass setup.imports → length past < most_entries → (a : Object) (k : Key) (b : Object) (uid : Uid)
    → Stood setup past a → row_at k (world setup past).store.rows ≡ Some b → (meta_of a).uid ≡ Some uid → (meta_of b).uid ≡ Some uid
    → is_deleting (meta_of a) ≡ true → is_deleting (meta_of b) ≡ true
still setup [] pass short a k b uid was is ea eb d = subst (λ o. is_deleting (meta_of o) ≡ true) (same_now setup [] pass short a k b uid was is ea eb) d
still setup (e ∷ past) pass short a k b uid (inr now) is ea eb d =
    subst (λ o. is_deleting (meta_of o) ≡ true) (same_now setup (e ∷ past) pass short a k b uid now is ea eb) d
still setup (e ∷ past) pass short a k b uid (inl before) is ea eb d =
    by (λ j x there ex. still setup past pass (shorter e past short) a j x uid before there ea ex d) ((moved setup e past).row k b is)
  where
    followed : ((j : Key) (x : Object) → row_at j (world setup past).store.rows ≡ Some x → (meta_of x).uid ≡ Some uid → is_deleting (meta_of x) ≡ true)
        → Whence (world setup past).store b → is_deleting (meta_of b) ≡ true
    followed on (inl first) = absurd (not_given setup e past pass short a uid before ea (sym eb ∙ first.uid))
    followed on (inr over) = over.next.keeps.deleting (on (key_of b) over.old over.next.there (sym over.next.keeps.uid ∙ eb))

    by : ((j : Key) (x : Object) → row_at j (world setup past).store.rows ≡ Some x → (meta_of x).uid ≡ Some uid → is_deleting (meta_of x) ≡ true)
        → (row_at k (world setup past).store.rows ≡ Some b) ⊎ IsWritten (world setup past) (effect setup (world setup past) e.kind e.request) (Writes (world setup past) e.kind e.request) b
        → is_deleting (meta_of b) ≡ true
    by on (inl there) = on k b there eb
    by on (inr new) = followed on (came setup e past b new.write)

-- and so is each later version

pub deletions_stay : DeletionsStay
deletions_stay setup [] pass short a b uid sa sb ea eb low d = still setup [] pass short a (key_of b) b uid sa sb ea eb d
deletions_stay setup (e ∷ past) pass short a b uid sa (inr now) ea eb low d = still setup (e ∷ past) pass short a (key_of b) b uid sa now ea eb d
deletions_stay setup (e ∷ past) pass short a b uid (inl sa) (inl sb) ea eb low d = deletions_stay setup past pass (shorter e past short) a b uid sa sb ea eb low d
deletions_stay setup (e ∷ past) pass short a b uid (inr now) (inl sb) ea eb low d =
    by (λ was. deletions_stay setup past pass (shorter e past short) a b uid was sb ea eb low d) ((moved setup e past).row (key_of a) a now)
  where
    version : Whence (world setup past).store a → (meta_of a).version ≡ (world setup past).store.version + 1
    version (inl first) = first.version
    version (inr over) = over.next.version

    by : (Stood setup past a → is_deleting (meta_of b) ≡ true)
        → (row_at (key_of a) (world setup past).store.rows ≡ Some a) ⊎ IsWritten (world setup past) (effect setup (world setup past) e.kind e.request) (Writes (world setup past) e.kind e.request) a
        → is_deleting (meta_of b) ≡ true
    by before (inl there) = before (stood setup past a there)
    by before (inr new) =
        let next = version (came setup e past a new.write) in
        let high = version_stood setup past b sb in
        absurd (omega (arith, next, high, low))
