-- The side store: snapshots and their contents, and what each call of it does.
-- Source: VolumeSnapshot and VolumeSnapshotContent of `snapshot.storage.k8s.io/v1`. The calls are a choice of this project,
-- and so is it that a snapshot leaves before the data of its content are erased.
use Rattle.std.specs.Prelude.{ℕ, ◌+◌, ◌==◌, Bool, true, false, List, [], ◌++◌, Option, Some, None, Ok, Err, codes, decimal, is_some, if◌then◌else◌}
use Rattle.std.specs.List.{list_any}
use Rattle.std.specs.declared.cmp.Ordering.{Ordering}
use Rattle.std.specs.declared.result.Result.{Result}
use Rattle.std.specs.Ordering.{ordering_then}
use Rattle.plain_data.specs.Pairs.{text_cmp}
use Rattle.plain_data.specs.Rows.{IsRising, IsAt, IsGap, put, find, without}
use Rattle.kube_objects.specs.declared.objects.DataId.{DataId}
use Rattle.kube_objects.specs.declared.objects.Object.{Object}
use Rattle.kube_objects.specs.declared.objects.Object.TheVariants as objects
use Rattle.kube_objects.specs.Bindings.{is_completed}
use Rattle.kube_objects.specs.Keys.{row_at}
use Rattle.kube_objects.specs.Sources.{data_id_of}
use Rattle.kube_parts.specs.declared.parts.Kind.TheVariants as kinds
use Rattle.kube_parts.specs.declared.parts.Policy.{Policy}
use Rattle.snapshot_bind.specs.declared.rows.Snapshot.{Snapshot as SnapshotData}
use Rattle.snapshot_bind.specs.declared.rows.Content.{Content as ContentData}
use Rattle.snapshot_bind.specs.declared.rows.SnapRow.TheVariants as rows
use Rattle.snapshot_bind.specs.declared.calls.SnapAsk.{SnapAsk}
use Rattle.snapshot_bind.specs.declared.calls.SnapAsk.TheVariants as asks
use Rattle.snapshot_bind.specs.declared.calls.SnapReply.{SnapReply}
use Rattle.snapshot_bind.specs.declared.calls.SnapReply.TheVariants.{Listed, Found, Made, Left, Refused}
use Rattle.snapshot_bind.specs.declared.calls.SnapRefusal.{SnapRefusal}
use Rattle.snapshot_bind.specs.declared.calls.SnapRefusal.TheVariants.{NotFound, AlreadyExists, Conflict, SnapshotBound, NoSource}
use Rattle.snapshot_bind.specs.declared.effect.Effect.{Effect}
use Rattle.snapshot_bind.specs.declared.effect.Effect.TheVariants.{Answers, PutsSnapshot, PutsContent, TakesSnapshot, TakesContent}

-- the rows of the side, and how many writes made them
pub record Side : Type 0 where
  pub number : ℕ
  pub snapshots : List SnapshotData
  pub contents : List ContentData

-- a side of this number and these rows
abbrev pub side_of : ℕ → List SnapshotData → List ContentData → Side
side_of number snapshots contents = record { number = number; snapshots = snapshots; contents = contents }

-- the side before its first write
abbrev pub empty_side : Side
empty_side = side_of 0 [] []

-- the namespace and the name of a snapshot
abbrev pub SnapKey : Type 0
SnapKey = List ℕ × List ℕ

-- by namespace, and within a namespace by name
abbrev pub snap_cmp : SnapKey → SnapKey → Ordering
snap_cmp a b = ordering_then (text_cmp a.0 b.0) (text_cmp a.1 b.1)

-- the key of a snapshot
abbrev pub snapshot_key : SnapshotData → SnapKey
snapshot_key s = (s.namespace, s.name)

-- contents go by their names
abbrev pub content_key : ContentData → List ℕ
content_key c = c.name

-- the key of the snapshot that a content is for
abbrev pub owner_key : ContentData → SnapKey
owner_key c = (c.namespace, c.snapshot)

-- snapshots in the order of their keys, no key twice
abbrev pub AreSnapshots : List SnapshotData → Type 0
AreSnapshots ss = IsRising snap_cmp snapshot_key ss

-- contents in the order of their names, no name twice
abbrev pub AreContents : List ContentData → Type 0
AreContents cs = IsRising text_cmp content_key cs

-- the snapshot of a key
abbrev pub snapshot_at : SnapKey → List SnapshotData → Option SnapshotData
snapshot_at k ss = find snap_cmp snapshot_key k ss

-- the content of a name
abbrev pub content_at : List ℕ → List ContentData → Option ContentData
content_at n cs = find text_cmp content_key n cs

-- with the snapshot written over the one of its key, or at its place
abbrev pub put_snapshot : SnapshotData → List SnapshotData → List SnapshotData
put_snapshot s ss = put snap_cmp snapshot_key s ss

-- with the content written over the one of its name, or at its place
abbrev pub put_content : ContentData → List ContentData → List ContentData
put_content c cs = put text_cmp content_key c cs

-- without the snapshot of a key
abbrev pub without_snapshot : SnapKey → List SnapshotData → List SnapshotData
without_snapshot k ss = without snap_cmp snapshot_key k ss

-- without the content of a name
abbrev pub without_content : List ℕ → List ContentData → List ContentData
without_content n cs = without text_cmp content_key n cs

-- the snapshot of the key stands at this place
abbrev pub IsSnapshotAt : List SnapshotData → SnapKey → ℕ → Type 0
IsSnapshotAt ss k i = IsAt snap_cmp snapshot_key k ss i

-- a snapshot of the key would stand at this place
abbrev pub IsSnapshotGap : List SnapshotData → SnapKey → ℕ → Type 0
IsSnapshotGap ss k i = IsGap snap_cmp snapshot_key k ss i

-- the content of the name stands at this place
abbrev pub IsContentAt : List ContentData → List ℕ → ℕ → Type 0
IsContentAt cs n i = IsAt text_cmp content_key n cs i

-- a content of the name would stand at this place
abbrev pub IsContentGap : List ContentData → List ℕ → ℕ → Type 0
IsContentGap cs n i = IsGap text_cmp content_key n cs i

-- some snapshot has this UID
abbrev pub has_uid : ℕ → List SnapshotData → Bool
has_uid uid ss = list_any (λ (s : SnapshotData). s.uid == uid) ss

-- the answer that a call gives by what it does
abbrev pub reply_of : Effect → SnapReply
reply_of (Answers reply) = reply
reply_of (PutsSnapshot s) = Made (rows.Snapshot s)
reply_of (PutsContent c) = Made (rows.Content c)
reply_of (TakesSnapshot s) = Left (rows.Snapshot s)
reply_of (TakesContent c) = Left (rows.Content c)

-- the side after a call that did this: each write raises the number by one
abbrev pub after : Side → Effect → Side
after σ (Answers reply) = σ
after σ (PutsSnapshot s) = side_of (σ.number + 1) (put_snapshot s σ.snapshots) σ.contents
after σ (PutsContent c) = side_of (σ.number + 1) σ.snapshots (put_content c σ.contents)
after σ (TakesSnapshot s) = side_of (σ.number + 1) (without_snapshot (snapshot_key s) σ.snapshots) σ.contents
after σ (TakesContent c) = side_of (σ.number + 1) σ.snapshots (without_content (content_key c) σ.contents)

-- refused, and so nothing changes
abbrev pub refused : SnapRefusal → Effect
refused why = Answers (Refused why)

-- refused where the test holds
unfoldable pub refuse : Bool → SnapRefusal → Effect → Effect
refuse true why next = refused why
refuse false why next = next

-- what users ask

-- the snapshot that a user makes: bound to nothing
abbrev pub new_snapshot : ℕ → List ℕ → List ℕ → List ℕ → Policy → SnapshotData
new_snapshot number namespace name claim policy = record {
  namespace = namespace;
  name = name;
  uid = number;
  version = number;
  claim = claim;
  policy = policy;
  content = [];
  deleting = false;
}

-- the content that a user hands in: bound to no UID, its data there
abbrev pub new_content : ℕ → List ℕ → List ℕ → List ℕ → Policy → DataId → ContentData
new_content number name namespace snapshot policy source = record {
  name = name;
  version = number;
  namespace = namespace;
  snapshot = snapshot;
  uid = None;
  policy = policy;
  source = source;
  there = true;
}

-- the snapshot is marked as deleting; a second time changes nothing
unfoldable pub unsnap : ℕ → Option SnapshotData → Effect
unsnap number None = refused NotFound
unsnap number (Some s) = if s.deleting then Answers (Made (rows.Snapshot s)) else PutsSnapshot (record s { version = number; deleting = true })

-- the content leaves unless a snapshot has its UID
unfoldable pub release : List SnapshotData → ContentData → Option ℕ → Effect
release ss c None = TakesContent c
release ss c (Some uid) = refuse (has_uid uid ss) (SnapshotBound uid) (TakesContent c)

-- the row of a content leaves, and its data stay
unfoldable pub uncontent : List SnapshotData → Option ContentData → Effect
uncontent ss None = refused NotFound
uncontent ss (Some c) = release ss c c.uid

-- what workers ask

-- one snapshot
unfoldable pub get : Option SnapshotData → Effect
get None = refused NotFound
get (Some s) = Answers (Found s)

-- the data of an object, where it is a volume
unfoldable pub data_in : Option Object → Option DataId
data_in (Some (objects.Volume v)) = Some (data_id_of v.source)
data_in _ = None

-- the data of the volume that an object names, where it is a completed claim
unfoldable pub claimed_data : List Object → Option Object → Option DataId
claimed_data world (Some (objects.Claim c)) = if is_completed c then data_in (row_at (record { kind = kinds.PersistentVolume; namespace = []; name = c.volume_name }) world) else None
claimed_data world _ = None

-- the data from which a snapshot of the claim is cut
abbrev pub source_of : List Object → List ℕ → List ℕ → Option DataId
source_of world namespace claim = claimed_data world (row_at (record { kind = kinds.PersistentVolumeClaim; namespace = namespace; name = claim }) world)

-- the name of the content that is cut for the snapshot of a UID
abbrev pub cut_name : ℕ → List ℕ
cut_name uid = codes "snapcontent-" ++ decimal uid

-- the content that is cut for a snapshot: bound to it, of its policy
abbrev pub cut_content : ℕ → SnapshotData → DataId → ContentData
cut_content number s source = record {
  name = cut_name s.uid;
  version = number;
  namespace = s.namespace;
  snapshot = s.name;
  uid = Some s.uid;
  policy = s.policy;
  source = source;
  there = true;
}

-- it is cut where there is something to cut from
unfoldable pub cut_from : ℕ → SnapshotData → Option DataId → Effect
cut_from number s None = refused NoSource
cut_from number s (Some source) = PutsContent (cut_content number s source)

-- the snapshot stands and has this UID, no content of the name stands, and there is something to cut from
unfoldable pub cut : Side → ℕ → List Object → Option SnapshotData → Effect
cut σ uid world None = refused NotFound
cut σ uid world (Some s) =
    if s.uid == uid then refuse (is_some (content_at (cut_name s.uid) σ.contents)) AlreadyExists (cut_from (σ.number + 1) s (source_of world s.namespace s.claim))
    else refused NotFound

-- the snapshot that stands at this version, or why a write at it is refused
unfoldable pub snapshot_of_version : ℕ → Option SnapshotData → Result SnapshotData SnapRefusal
snapshot_of_version version None = Err NotFound
snapshot_of_version version (Some s) = if s.version == version then Ok s else Err (Conflict s.version)

-- the content that stands at this version, or why a write at it is refused
unfoldable pub content_of_version : ℕ → Option ContentData → Result ContentData SnapRefusal
content_of_version version None = Err NotFound
content_of_version version (Some c) = if c.version == version then Ok c else Err (Conflict c.version)

-- the write that is made of the row, or the refusal
unfoldable pub write : {X : Type 0} → Result X SnapRefusal → (X → Effect) → Effect
write (Err why) change = refused why
write (Ok x) change = change x

-- the content with a UID
abbrev pub bound_content : ℕ → ℕ → ContentData → ContentData
bound_content number uid c = record c { version = number; uid = Some uid }

-- the content once its data are erased
abbrev pub erased_content : ℕ → ContentData → ContentData
erased_content number c = record c { version = number; there = false }

-- the snapshot that names a content
abbrev pub bound_snapshot : ℕ → List ℕ → SnapshotData → SnapshotData
bound_snapshot number content s = record s { version = number; content = content }

-- what a worker's call does, in a world of these objects; users' calls are none of a worker's
unfoldable pub worker_effect : List Object → Side → SnapAsk → Effect
worker_effect world σ asks.SnapList = Answers (Listed σ.snapshots σ.contents σ.number)
worker_effect world σ (asks.SnapGet namespace name) = get (snapshot_at (namespace, name) σ.snapshots)
worker_effect world σ (asks.Cut namespace name uid) = cut σ uid world (snapshot_at (namespace, name) σ.snapshots)
worker_effect world σ (asks.BindContent name version uid) =
    write (content_of_version version (content_at name σ.contents)) (λ c. PutsContent (bound_content (σ.number + 1) uid c))
worker_effect world σ (asks.BindSnapshot namespace name version content) =
    write (snapshot_of_version version (snapshot_at (namespace, name) σ.snapshots)) (λ s. PutsSnapshot (bound_snapshot (σ.number + 1) content s))
worker_effect world σ (asks.DropSnapshot namespace name version) =
    write (snapshot_of_version version (snapshot_at (namespace, name) σ.snapshots)) (λ s. TakesSnapshot s)
worker_effect world σ (asks.EraseSnap name version) =
    write (content_of_version version (content_at name σ.contents)) (λ c. PutsContent (erased_content (σ.number + 1) c))
worker_effect world σ (asks.DropContent name version) = write (content_of_version version (content_at name σ.contents)) (λ c. TakesContent c)
worker_effect world σ _ = refused NotFound

-- what a call does, in a world of these objects
unfoldable pub effect_of : List Object → Side → SnapAsk → Effect
effect_of world σ (asks.Snapshot namespace name claim policy) =
    refuse (is_some (snapshot_at (namespace, name) σ.snapshots)) AlreadyExists (PutsSnapshot (new_snapshot (σ.number + 1) namespace name claim policy))
effect_of world σ (asks.Content name namespace snapshot policy source) =
    refuse (is_some (content_at name σ.contents)) AlreadyExists (PutsContent (new_content (σ.number + 1) name namespace snapshot policy source))
effect_of world σ (asks.Unsnap namespace name) = unsnap (σ.number + 1) (snapshot_at (namespace, name) σ.snapshots)
effect_of world σ (asks.Uncontent name) = uncontent σ.snapshots (content_at name σ.contents)
effect_of world σ ask = worker_effect world σ ask
