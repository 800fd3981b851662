-- What is known before a list and after it, as the code finds it. A choice of this project.
use Rattle.std.specs.Prelude.{ℕ, ◌≡◌, ◌⊎◌, nat_lt, Bool, false, List, Option, Some, None, if◌then◌else◌}
use Rattle.kube_objects.specs.declared.key.Key.{Key}
use Rattle.kube_objects.specs.declared.objects.Object.{Object}
use Rattle.kube_objects.specs.Keys.{row_at}
use Rattle.binder_model.specs.Told.{Telling, first_some, later, listing}
use Rattle.informer_cache.specs.Knowledge.{RowState, ListState, absence, covers, lacked, row_told, telling_in}
use Rattle.informer_cache.specs.Marks.{greater}

-- the same after a list of a namespace, or of all
abbrev pub lacked_after : ListState → Option (List ℕ) → ℕ → Key → Option ℕ
lacked_after l namespace version key = if covers namespace key then greater (Some version) (lacked l key) else lacked l key

-- what a list tells of a key, where it has it in its scope
abbrev pub list_tells : Option (List ℕ) → ℕ → List Object → Key → Option Telling
list_tells namespace version items key = if covers namespace key then Some (listing version (row_at key items)) else None

-- what is known before a list, and the list
pub record Sight : Type 0 where
  pub rows : RowState
  pub lists : ListState
  pub namespace : Option (List ℕ)
  pub version : ℕ
  pub items : List Object

-- what is known of a key after the list
abbrev pub seen : Sight → Key → Option Telling
seen s key = later (list_tells s.namespace s.version s.items key) (telling_in s.rows s.lists key)

-- these rows, after the list, tell of the key what is known
abbrev pub Fits : Sight → RowState → Key → Type 0
Fits s next key = first_some (row_told next.marks next.objects key) (absence (lacked_after s.lists s.namespace s.version key)) ≡ seen s key

-- they tell so of each key of the kind, or nothing
abbrev pub AreRight : Sight → RowState → Type 0
AreRight s next = (key : Key) → key.kind ≡ s.rows.kind → (row_told next.marks next.objects key ≡ None) ⊎ Fits s next key

-- and what they told so they tell still
abbrev pub GoesOn : Sight → RowState → RowState → Type 0
GoesOn s before next = ((next.kind ≡ before.kind) × AreRight s next) × ((key : Key) → Fits s before key → Fits s next key)

-- an older version than the one that is known
abbrev pub is_older : ℕ → Option ℕ → Bool
is_older version None = false
is_older version (Some known) = nat_lt version known
