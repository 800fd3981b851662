-- A cache of one kind: what it stands for, and what each call makes of it.
-- Source: client-go, tools/cache: the store of a reflector, which lists a kind and then watches it. That the newest that was told of
-- a key is known of it, in whatever order answers come, is a choice of this project.
use Rattle.std.specs.Prelude.{ℕ, ◌≡◌, true, List, [], Option, Some, None, map, if◌then◌else◌}
use Rattle.kube_parts.specs.declared.parts.Kind.{Kind}
use Rattle.kube_objects.specs.declared.key.Key.{Key}
use Rattle.kube_objects.specs.declared.objects.Object.{Object}
use Rattle.kube_objects.specs.Keys.{key_of, meta_of, row_at}
use Rattle.call_types.specs.declared.entry.Entry.{Entry}
use Rattle.call_types.specs.declared.request.Request.{Request}
use Rattle.call_types.specs.declared.reply.Event.{Event}
use Rattle.call_types.specs.declared.reply.Reply.{Reply}
use Rattle.call_types.specs.declared.reply.Reply.TheVariants.{Done, Left, Listed, Events}
use Rattle.binder_model.specs.Told.{Telling, later, newest, object_of, presence, told_of}
use Rattle.binder_model.specs.Reading.{Following, Unlisted, ListedAt, following_of, follow_on}
use Rattle.informer_cache.specs.declared.cache.NextRead.{NextRead}
use Rattle.informer_cache.specs.declared.cache.NextRead.TheVariants as asks
use Rattle.informer_cache.specs.Knowledge.{RowState, ListState, telling_in, told_at, tells_key}

-- what a cache knows, and the version from which its kind may be watched, where it is listed
pub record Known : Type 0 where
  pub rows : RowState
  pub lists : ListState
  pub from : Option ℕ

-- what the cache knows of a key: an object or an absence, at the version at which it was told
abbrev pub known_of : Known → Key → Option Telling
known_of c key = telling_in c.rows c.lists key

-- the kind of a cache
abbrev pub kind_known : Known → Kind
kind_known c = c.rows.kind

-- the objects that the cache has, in the order of their keys
abbrev pub objects_of : Known → List Object
objects_of c = c.rows.objects

-- API concepts, "Efficient detection of changes": a watch goes on from the version of the list, or from the one that it reached
abbrev pub watch_from : Following → Option ℕ
watch_from Unlisted = None
watch_from (ListedAt version None) = Some version
watch_from (ListedAt version (Some upto)) = Some upto

-- the read that keeps the cache up to date
abbrev pub ask_from : Option ℕ → NextRead
ask_from None = asks.List
ask_from (Some version) = asks.Watch version

-- what the cache asks next: a list, or a watch from where it is
abbrev pub ask_of : Known → NextRead
ask_of c = ask_from c.from

-- what the cache of a kind knows is what the seat with these entries was told: of each key the newest, an object in its
-- rows exactly where the newest told is one, and the read is the one that the seat may make
pub record CacheStandsFor (c : Known) (mine : List Entry) : Type 0 where
  pub known : (key : Key) → key.kind ≡ kind_known c → known_of c key ≡ newest mine key
  pub rows : (key : Key) → key.kind ≡ kind_known c → row_at key (objects_of c) ≡ object_of (newest mine key)
  pub from : c.from ≡ watch_from (following_of mine (kind_known c))

-- of each key of its kind the cache knows the later of what it is told and of what it knew
pub record Learns (before after : Known) (tells : Key → Option Telling) : Type 0 where
  pub kind : kind_known after ≡ kind_known before
  pub known : (key : Key) → key.kind ≡ kind_known before → known_of after key ≡ later (tells key) (known_of before key)

-- an entry of this request and reply, which the seat was told
pub record IsTold (e : Entry) (request : Request) (reply : Reply) : Type 0 where
  pub told : e.told ≡ true
  pub asked : e.request ≡ request
  pub answered : e.reply ≡ reply

-- an entry that tells the seat nothing of the kind, and nothing of where it stands with it
pub record IsQuiet (kind : Kind) (e : Entry) : Type 0 where
  pub tells : (key : Key) → key.kind ≡ kind → told_of e key ≡ None
  pub follows : (f : Following) → (if e.told then follow_on e.request e.reply kind f else f) ≡ f

-- an entry of a write that was done, or with which the object left, which the seat was told
pub record IsDone (e : Entry) (object : Object) : Type 0 where
  pub told : e.told ≡ true
  pub answered : e.reply ≡ Done object

-- the entry told that the object of the key has left, at this version
pub record IsLeft (e : Entry) (key : Key) (version : ℕ) : Type 0 where
  pub told : e.told ≡ true
  pub object : Object
  pub answered : e.reply ≡ Left object
  pub own : key_of object ≡ key
  pub at : (meta_of object).version ≡ version

-- what such a write tells
abbrev pub tells_done : Object → Key → Option Telling
tells_done o key = tells_key (key_of o) (presence o) key

-- what is told of a key when an object has left
abbrev pub tells_left : Key → ℕ → Key → Option Telling
tells_left gone version key = tells_key gone (told_at version None) key

-- the keys of the objects in the answer of a list or a watch
abbrev pub keys_in : Reply → List Key
keys_in (Listed items version) = map key_of items
keys_in (Events events) = map (λ (e : Event). key_of e.object) events.events
keys_in _ = []
