-- A worker of the side: what it keeps of what it was told, and what it asks next by its rules.
-- Source: the snapshot controller and the sidecar of `snapshot.storage.k8s.io/v1`; the rules, their order and what is kept are a
-- choice of this project.
use Rattle.std.specs.Prelude.{ℕ, ◌≡◌, ◌==◌, ◌&&◌, not, Bool, true, false, List, [], ◌∷◌, Option, Some, None, ⊤, bytes_eq, is_none, is_some, map, if◌then◌else◌}
use Rattle.std.specs.List.{list_any}
use Rattle.plain_data.specs.Pairs.{text_cmp}
use Rattle.plain_data.specs.Rows.{put, without}
use Rattle.kube_objects.specs.Bindings.{is_delete, is_empty}
use Rattle.snapshot_bind.specs.declared.rows.Snapshot.{Snapshot as SnapshotData}
use Rattle.snapshot_bind.specs.declared.rows.Content.{Content as ContentData}
use Rattle.snapshot_bind.specs.declared.rows.SnapRow.{SnapRow}
use Rattle.snapshot_bind.specs.declared.rows.SnapRow.TheVariants as rows
use Rattle.snapshot_bind.specs.declared.calls.SnapAsk.{SnapAsk}
use Rattle.snapshot_bind.specs.declared.calls.SnapAsk.TheVariants as asks
use Rattle.snapshot_bind.specs.declared.calls.SnapEntry.{SnapEntry}
use Rattle.snapshot_bind.specs.declared.calls.SnapReply.{SnapReply}
use Rattle.snapshot_bind.specs.declared.calls.SnapReply.TheVariants.{Listed, Found, Made, Left, Refused}
use Rattle.snapshot_bind.specs.declared.calls.SnapRefusal.TheVariants.{NotFound}
use Rattle.snapshot_bind.specs.Licences.{SnapLicensed}
use Rattle.snapshot_bind.specs.SideStore.{AreContents, AreSnapshots, SnapKey, content_key, snap_cmp, snapshot_key}
use Rattle.snapshot_worker.specs.declared.seen.SeenSnapshot.{SeenSnapshot}
use Rattle.snapshot_worker.specs.declared.seen.SeenContent.{SeenContent}

-- what a worker keeps: the rows of its last list, as its own calls changed them, and the UIDs of that list's snapshots
pub record Worker : Type 0 where
  pub listed : Bool
  pub snapshots : List SeenSnapshot
  pub contents : List SeenContent
  pub uids : List ℕ

-- a worker that was told nothing
abbrev pub new_worker : Worker
new_worker = record { listed = false; snapshots = []; contents = []; uids = [] }

-- what it asks next

-- what the first of the rows that ask asks
abbrev pub first_ask : {X : Type 0} → (X → Option SnapAsk) → List X → Option SnapAsk
first_ask f [] = None
first_ask f (x ∷ xs) = if is_some (f x) then f x else first_ask f xs

-- the first content of which this holds
abbrev pub first_content : (ContentData → Bool) → List SeenContent → Option ContentData
first_content p [] = None
first_content p (x ∷ xs) = if p x.row then Some x.row else first_content p xs

-- there is a UID, and it is this one
abbrev pub is_same_uid : Option ℕ → ℕ → Bool
is_same_uid None uid = false
is_same_uid (Some own) uid = own == uid

-- the content has this UID
abbrev pub has_this_uid : ℕ → ContentData → Bool
has_this_uid uid c = is_same_uid c.uid uid

-- the content is for the snapshot, and has no UID
abbrev pub is_free_for : SnapshotData → ContentData → Bool
is_free_for s c = is_none c.uid && bytes_eq c.namespace s.namespace && bytes_eq c.snapshot s.name

-- for a snapshot that waits: it is to name the content with its UID; else the content that is for it is to get its UID; else one
-- is to be cut, where it has a claim to cut from
abbrev pub waiting_ask : SnapshotData → Option ContentData → Option ContentData → Option SnapAsk
waiting_ask s (Some c) free = Some (asks.BindSnapshot s.namespace s.name s.version c.name)
waiting_ask s None (Some c) = Some (asks.BindContent c.name c.version s.uid)
waiting_ask s None None = if is_empty s.claim then None else Some (asks.Cut s.namespace s.name s.uid)

-- for a snapshot that stays: one that names no content waits
abbrev pub staying_ask : List SeenContent → SnapshotData → Option SnapAsk
staying_ask cs s = if is_empty s.content then waiting_ask s (first_content (has_this_uid s.uid) cs) (first_content (is_free_for s) cs) else None

-- for a snapshot: one that a user deleted leaves
abbrev pub told_ask : List SeenContent → SnapshotData → Option SnapAsk
told_ask cs s = if s.deleting then Some (asks.DropSnapshot s.namespace s.name s.version) else staying_ask cs s

-- one that was dropped asks for nothing
abbrev pub snapshot_ask : List SeenContent → SeenSnapshot → Option SnapAsk
snapshot_ask cs x = if x.dropped then None else told_ask cs x.row

-- for a content that is to be deleted, whose snapshot the last list lacked: look for that snapshot, and then erase the data
abbrev pub erasing_ask : SeenContent → Option SnapAsk
erasing_ask x = if x.gone then Some (asks.EraseSnap x.row.name x.row.version) else Some (asks.SnapGet x.row.namespace x.row.snapshot)

-- some snapshot of the last list had this UID
abbrev pub is_among : ℕ → List ℕ → Bool
is_among uid uids = list_any (λ (own : ℕ). own == uid) uids

-- for a content with this UID whose data are there: they are erased where it is to be deleted and its snapshot left
abbrev pub left_ask : List ℕ → SeenContent → ℕ → Option SnapAsk
left_ask uids x uid = if is_delete x.row.policy && not (is_among uid uids) then erasing_ask x else None

-- for a content with this UID: it leaves once its data are erased
abbrev pub bound_ask : List ℕ → SeenContent → ℕ → Option SnapAsk
bound_ask uids x uid = if x.row.there then left_ask uids x uid else Some (asks.DropContent x.row.name x.row.version)

-- for a content, by its UID: one without asks for nothing
abbrev pub content_ask_by : List ℕ → SeenContent → Option ℕ → Option SnapAsk
content_ask_by uids x None = None
content_ask_by uids x (Some uid) = bound_ask uids x uid

-- for a content: one that was dropped asks for nothing
abbrev pub content_ask : List ℕ → SeenContent → Option SnapAsk
content_ask uids x = if x.dropped then None else content_ask_by uids x x.row.uid

-- the first ask, if there is one, else the other
abbrev pub or_else : Option SnapAsk → Option SnapAsk → Option SnapAsk
or_else (Some ask) other = Some ask
or_else None other = other

-- what the rows ask for, snapshots before contents
abbrev pub rows_ask : Worker → Option SnapAsk
rows_ask w = or_else (first_ask (snapshot_ask w.contents) w.snapshots) (first_ask (content_ask w.uids) w.contents)

-- it begins with a list; then it has no ask exactly where no row asks
abbrev pub next_of : Worker → Option SnapAsk
next_of w = if w.listed then rows_ask w else Some asks.SnapList

-- what it keeps of an answer

-- the first of the rows that ask, changed
abbrev pub change_first : {X : Type 0} → (X → Option SnapAsk) → (X → X) → List X → List X
change_first f g [] = []
change_first f g (x ∷ xs) = if is_some (f x) then g x ∷ xs else x ∷ change_first f g xs

-- a snapshot is kept by its key
abbrev pub seen_key : SeenSnapshot → SnapKey
seen_key x = snapshot_key x.row

-- and a content by its name
abbrev pub seen_name : SeenContent → List ℕ
seen_name x = content_key x.row

-- a snapshot as it is told
abbrev pub fresh_snapshot : SnapshotData → SeenSnapshot
fresh_snapshot s = record { row = s; dropped = false }

-- a content as it is told
abbrev pub fresh_content : ContentData → SeenContent
fresh_content c = record { row = c; dropped = false; gone = false }

-- a row that a call wrote
abbrev pub keep_row : Worker → SnapRow → Worker
keep_row w (rows.Snapshot s) = record w { snapshots = put snap_cmp seen_key (fresh_snapshot s) w.snapshots }
keep_row w (rows.Content c) = record w { contents = put text_cmp seen_name (fresh_content c) w.contents }

-- a row that left
abbrev pub take_row : Worker → SnapRow → Worker
take_row w (rows.Snapshot s) = record w { snapshots = without snap_cmp seen_key (snapshot_key s) w.snapshots }
take_row w (rows.Content c) = record w { contents = without text_cmp seen_name (content_key c) w.contents }

-- a list begins anew
abbrev pub listed_from : Worker → SnapReply → Worker
listed_from w (Listed snapshots contents number) = record {
  listed = true;
  snapshots = map fresh_snapshot snapshots;
  contents = map fresh_content contents;
  uids = map (λ (s : SnapshotData). s.uid) snapshots;
}
listed_from w _ = w

-- the snapshot asks for nothing until the next list
abbrev pub dropped_snapshot : SeenSnapshot → SeenSnapshot
dropped_snapshot x = record x { dropped = true }

-- nor does the content
abbrev pub dropped_content : SeenContent → SeenContent
dropped_content x = record x { dropped = true }

-- the snapshot that asked is dropped
abbrev pub drop_snapshot : Worker → Worker
drop_snapshot w = record w { snapshots = change_first (snapshot_ask w.contents) dropped_snapshot w.snapshots }

-- the content that asked is dropped
abbrev pub drop_content : Worker → Worker
drop_content w = record w { contents = change_first (content_ask w.uids) dropped_content w.contents }

-- the answer to a look tells that no snapshot of the key has this UID
abbrev pub lacks_uid : Option ℕ → SnapReply → Bool
lacks_uid own (Refused NotFound) = true
lacks_uid own (Found s) = not (is_same_uid own s.uid)
lacks_uid own _ = false

-- the content for whose snapshot was looked: its data are to be erased, or it is dropped
abbrev pub looked_for : SnapReply → SeenContent → SeenContent
looked_for reply x = if lacks_uid x.row.uid reply then record x { gone = true } else dropped_content x

-- after a look for the snapshot of a content
abbrev pub after_get : Worker → SnapReply → Worker
after_get w reply = record w { contents = change_first (content_ask w.uids) (looked_for reply) w.contents }

-- after any other call: a row is written or leaves; else the row that asked is dropped, as this tells
abbrev pub after_call : Worker → SnapReply → Worker → Worker
after_call w (Made row) refused = keep_row w row
after_call w (Left row) refused = take_row w row
after_call w _ refused = refused

-- the call is a look
abbrev pub is_look : SnapAsk → Bool
is_look (asks.SnapGet namespace name) = true
is_look _ = false

-- after a call that a content asked for
abbrev pub after_content : Worker → SnapAsk → SnapReply → Worker
after_content w ask reply = if is_look ask then after_get w reply else after_call w reply (drop_content w)

-- after a call that a row asked for
abbrev pub after_row : Worker → SnapAsk → SnapReply → Worker
after_row w ask reply = if is_some (first_ask (snapshot_ask w.contents) w.snapshots) then after_call w reply (drop_snapshot w) else after_content w ask reply

-- what the worker keeps once its next ask was answered
abbrev pub absorb_of : Worker → SnapAsk → SnapReply → Worker
absorb_of w ask reply = if w.listed then after_row w ask reply else listed_from w reply

-- a list tells rows in order, no key twice
abbrev pub ListsInOrder : SnapReply → Type 0
ListsInOrder (Listed snapshots contents number) = AreSnapshots snapshots × AreContents contents
ListsInOrder _ = ⊤

-- the calls of a worker's life, the newest first, and what it keeps after them: it begins with nothing, is woken at any time, and
-- makes the asks that it gives, whatever is answered
pub data Lives : List SnapEntry → Worker → Type 0 where
  Begins : Lives [] new_worker
  Wakes : (mine : List SnapEntry) (w : Worker) → Lives mine w → Lives mine (record w { listed = false })
  Asks : (e : SnapEntry) (mine : List SnapEntry) (w : Worker) → Lives mine w → next_of w ≡ Some e.ask → Lives (e ∷ mine) (absorb_of w e.ask e.reply)

-- each ask that a worker gives is licensed by its own earlier calls
abbrev pub EachAskIsLicensed : Type 0
EachAskIsLicensed = (mine : List SnapEntry) (w : Worker) → Lives mine w → (ask : SnapAsk) → next_of w ≡ Some ask → SnapLicensed mine ask
