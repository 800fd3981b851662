-- What stood in the store at some time of a history, and what was told of it. Lists of entries begin with the newest.
-- A choice of this project, as the definitions are; their sources stand in `binder_model`.
use Rattle.std.specs.Prelude.{ℕ, ◌≡◌, ◌⊎◌, ◌<◌, List, [], ◌∷◌, Some, length}
use Rattle.kube_parts.specs.declared.uid.Uid.{Uid}
use Rattle.kube_objects.specs.declared.key.Key.{Key}
use Rattle.kube_objects.specs.declared.objects.Object.{Object}
use Rattle.kube_objects.specs.Keys.{meta_of, key_of, row_at}
use Rattle.call_types.specs.declared.entry.Entry.{Entry}
use Rattle.call_types.specs.declared.setup.Setup.{Setup}
use Rattle.call_types.specs.declared.request.Request.TheVariants.{Get}
use Rattle.binder_model.specs.Imports.{ImportsPass}
use Rattle.binder_model.specs.Told.{ToldObject, own}
use Rattle.binder_model.specs.World.{World, base, world, IsHistory}
use Rattle.binder_model.specs.Promises.{most_entries}
use Rattle.model_laws.specs.Reads.{found}

-- the object stands in the store, under its key
abbrev pub Stands : World → Object → Type 0
Stands w o = row_at (key_of o) w.store.rows ≡ Some o

-- the object stood in the store at first or after some of the entries
abbrev pub Stood : Setup → List Entry → Object → Type 0
Stood setup [] o = Stands (world setup []) o
Stood setup (e ∷ past) o = Stood setup past o ⊎ Stands (world setup (e ∷ past)) o

-- one version, one object: of a key, and of all keys above the version with which the world began, since two imports may
-- have one version
abbrev pub OneVersionOneObject : Type 0
OneVersionOneObject =
    (setup : Setup) (past : List Entry) (o p : Object) → Stood setup past o → Stood setup past p
    → (meta_of o).version ≡ (meta_of p).version → (key_of o ≡ key_of p) ⊎ (base setup < (meta_of o).version) → o ≡ p

-- one UID, one key
abbrev pub OneUidOneKey : Type 0
OneUidOneKey =
    (setup : Setup) (past : List Entry) → ImportsPass setup.imports → length past < most_entries
    → (o p : Object) (uid : Uid) → Stood setup past o → Stood setup past p
    → (meta_of o).uid ≡ Some uid → (meta_of p).uid ≡ Some uid → key_of o ≡ key_of p

-- told is true: what a seat was told stood in the store
abbrev pub ToldIsTrue : Type 0
ToldIsTrue =
    (setup : Setup) (past : List Entry) (seat : ℕ) (o : Object)
    → IsHistory setup past → ToldObject (λ x. x ≡ o) (own seat past) → Stood setup past o

-- told live is true at that moment
abbrev pub ToldLiveIsTrueNow : Type 0
ToldLiveIsTrueNow =
    (setup : Setup) (e : Entry) (past : List Entry) (key : Key)
    → IsHistory setup (e ∷ past) → e.request ≡ Get key → e.reply ≡ found (row_at key (world setup past).store.rows)
