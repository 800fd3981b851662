-- The sizes of the claims that grew, and the steps by which a growth goes through.
-- Source: Kubernetes documentation, "Persistent Volumes", Expanding Persistent Volumes Claims: the storage behind the volume grows,
-- then the volume's capacity, then that in the claim's status. That all growth comes out of one reserve is a choice of this project.
use Rattle.std.specs.Prelude.{ℕ, ◌≤◌, ◌+◌, ◌-◌, ◌&&◌, nat_lt, nat_le, List, [], ◌∷◌, Option, Some, None, if◌then◌else◌, ⊤, zero, suc}
use Rattle.plain_data.specs.Rows.{IsRising, find, without}
use Rattle.kube_objects.specs.declared.key.Key.{Key}
use Rattle.kube_objects.specs.declared.objects.Object.{Object}
use Rattle.kube_objects.specs.declared.objects.Object.TheVariants.{Claim}
use Rattle.kube_objects.specs.Keys.{key_cmp, key_of}
use Rattle.call_types.specs.declared.reply.Reply.{Reply}
use Rattle.call_types.specs.declared.reply.Reply.TheVariants.{Left}
use Rattle.side_calls.specs.declared.sizes.SizeRow.{SizeRow}
use Rattle.side_calls.specs.declared.sizes.SizeStep.{SizeStep}
use Rattle.side_calls.specs.declared.sizes.StepKind.{StepKind}
use Rattle.side_calls.specs.declared.sizes.StepKind.TheVariants.{Data, Volume, Given}

-- the bytes that all growth may take together, and the rows of the claims that grew
pub record Growth : Type 0 where
  pub reserve : ℕ
  pub rows : List SizeRow

-- the key of a row
abbrev pub size_key : SizeRow → Key
size_key x = x.key

-- in the order of their keys, no key twice
abbrev pub AreSizes : List SizeRow → Type 0
AreSizes rows = IsRising key_cmp size_key rows

-- the row of a key, if there is one
abbrev pub size_at : Key → List SizeRow → Option SizeRow
size_at key rows = find key_cmp size_key key rows

-- the claim was given no more than its volume has, the volume has no more than is stored, and what is stored never fell
pub record IsInTurn (x : SizeRow) : Type 0 where
  pub given : x.given ≤ x.volume
  pub volume : x.volume ≤ x.stored
  pub first : x.first ≤ x.stored

-- each row is so
abbrev pub AreInTurn : List SizeRow → Type 0
AreInTurn [] = ⊤
AreInTurn (x ∷ xs) = IsInTurn x × AreInTurn xs

-- the bytes of the reserve that the rows have taken: what is stored beyond what was stored first
abbrev pub taken_by : List SizeRow → ℕ
taken_by [] = 0
taken_by (x ∷ xs) = (x.stored - x.first) + taken_by xs

-- what holds of the rows at any time
pub record IsGrowth (g : Growth) : Type 0 where
  pub order : AreSizes g.rows
  pub turns : AreInTurn g.rows
  pub few : taken_by g.rows ≤ g.reserve

-- ---- what calls of the world leave

-- the row of a claim goes when the claim leaves, and its growth is free again
abbrev pub without_left : Object → List SizeRow → List SizeRow
without_left (Claim c) rows = without key_cmp size_key (key_of (Claim c)) rows
without_left o rows = rows

-- the rows after a call with this reply
abbrev pub kept_after : Reply → List SizeRow → List SizeRow
kept_after (Left o) rows = without_left o rows
kept_after reply rows = rows

-- ---- steps

-- the number of a row that rises next, and what it becomes; what is stored rises only where so many bytes are free
abbrev pub step_of : ℕ → SizeRow → Option (StepKind × ℕ)
step_of free x =
    if nat_lt x.stored x.asked && nat_le (x.asked - x.stored) free then Some (Data, x.asked)
    else if nat_lt x.volume x.stored then Some (Volume, x.stored)
    else if nat_lt x.given x.volume then Some (Given, x.volume)
    else None

-- the step of the row at this place, or else one of a later row
abbrev pub or_later : ℕ → Option (StepKind × ℕ) → Option SizeStep → Option SizeStep
or_later place None later = later
or_later place (Some step) later = Some (record { kind = step.0; place = place; bytes = step.1 })

-- the step of the first row that can make one, of the rows from this place on
abbrev pub first_step : ℕ → ℕ → List SizeRow → Option SizeStep
first_step free place [] = None
first_step free place (x ∷ xs) = or_later place (step_of free x) (first_step free (place + 1) xs)

-- the step that is made next; none exactly where no row can make one
abbrev pub next_step : Growth → Option SizeStep
next_step g = first_step (g.reserve - taken_by g.rows) 0 g.rows

-- a row with a step of this kind made
abbrev pub made : StepKind → ℕ → SizeRow → SizeRow
made Data bytes x = record x { stored = bytes }
made Volume bytes x = record x { volume = bytes }
made Given bytes x = record x { given = bytes }

-- the rows with the one at this place changed
abbrev pub changed_at : ℕ → (SizeRow → SizeRow) → List SizeRow → List SizeRow
changed_at place f [] = []
changed_at zero f (x ∷ xs) = f x ∷ xs
changed_at (suc place) f (x ∷ xs) = x ∷ changed_at place f xs

-- the rows after a step, if one was made
abbrev pub after_step : Option SizeStep → List SizeRow → List SizeRow
after_step None rows = rows
after_step (Some s) rows = changed_at s.place (made s.kind s.bytes) rows
