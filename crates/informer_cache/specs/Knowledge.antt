-- What a cache knows of one kind. A list tells of the keys that it lacks too, so beside the keys that were told one by
-- one the versions of the lists are kept. A choice of this project, after the store of an informer in client-go.
use Rattle.std.specs.Prelude.{ℕ, ◌≡◌, Bool, true, List, [], ◌∷◌, Option, Some, None, option_map, bytes_eq, ⊤, if◌then◌else◌}
use Rattle.std.specs.Option.{option_copied}
use Rattle.kube_parts.specs.declared.parts.Kind.{Kind}
use Rattle.kube_objects.specs.declared.key.Key.{Key}
use Rattle.kube_objects.specs.declared.objects.Object.{Object}
use Rattle.kube_objects.specs.Keys.{AreRows, kind_of, key_of, row_at, same_key}
use Rattle.call_types.specs.declared.reply.Event.{Event}
use Rattle.binder_model.specs.Told.{Telling, first_some, of_event}
use Rattle.informer_cache.specs.declared.told.Told.{Told}
use Rattle.informer_cache.specs.declared.marks.Mark.{Mark}
use Rattle.informer_cache.specs.declared.lists.Space.{Space}
use Rattle.informer_cache.specs.Marks.{AreMarks, mark_at, space_version, greater}

-- what was told of keys one by one

-- the rows of a cache: its kind, what was told last of each key, and the objects
pub record RowState : Type 0 where
  pub kind : Kind
  pub marks : List Mark
  pub objects : List Object

-- a key that has a version was told of then: the object that stands under it, or that there is none
abbrev pub told_at : ℕ → Option Object → Telling
told_at version object = record { version = version; object = object }

-- what was told last of a key
abbrev pub row_told : List Mark → List Object → Key → Option Telling
row_told marks objects key = option_map (λ m. told_at m.version (row_at key objects)) (mark_at key marks)

-- the objects are of this kind
abbrev pub AreOfKind : Kind → List Object → Type 0
AreOfKind kind [] = ⊤
AreOfKind kind (o ∷ os) = (kind_of o ≡ kind) × AreOfKind kind os

-- rows in order, of one kind, each with a version
pub record AreKept (kind : Kind) (marks : List Mark) (objects : List Object) : Type 0 where
  pub marked : AreMarks marks
  pub ordered : AreRows objects
  pub of_kind : AreOfKind kind objects
  pub covered : (key : Key) → mark_at key marks ≡ None → row_at key objects ≡ None

-- what was told, as the definitions have it
abbrev pub telling_of : Told → Telling
telling_of t = told_at t.version (option_copied t.object)

-- what the lists told of the keys that they lack

-- the versions of the last lists: of the whole kind, and of each namespace
pub record ListState : Type 0 where
  pub whole : Option ℕ
  pub spaces : List Space

-- the version of the newest list in which the key would stand
abbrev pub lacked : ListState → Key → Option ℕ
lacked l key = greater (space_version key.namespace l.spaces) l.whole

-- a list is one of all namespaces or of one
abbrev pub covers : Option (List ℕ) → Key → Bool
covers None key = true
covers (Some namespace) key = bytes_eq namespace key.namespace

-- what a list tells of a key that it does not have
abbrev pub absence : Option ℕ → Option Telling
absence version = option_map (λ v. told_at v None) version

-- what was told of a key by itself, or else that the lists lacked it
abbrev pub telling_in : RowState → ListState → Key → Option Telling
telling_in rows lists key = first_some (row_told rows.marks rows.objects key) (absence (lacked lists key))

-- what is told of one key
abbrev pub tells_key : Key → Telling → Key → Option Telling
tells_key key t k = if same_key key k then Some t else None

-- what one event tells
abbrev pub event_tells : Event → Key → Option Telling
event_tells e key = tells_key (key_of e.object) (of_event e.change e.object e.version) key
