-- Workers of two kinds: each needs and does what one of its kind does.
-- A choice of this project.
use Rattle.std.specs.Prelude.{ℕ, List}
use Rattle.call_types.specs.declared.entry.Entry.{Entry}
use Rattle.shared_work.specs.declared.worker.OneOf.{OneOf}
use Rattle.shared_work.specs.declared.worker.OneOf.TheVariants.{First, Second}

module _ {A B : Type 0} where
  abbrev pub needs_of : (A → List (ℕ × List Entry) → Type 0) → (B → List (ℕ × List Entry) → Type 0) → OneOf A B → List (ℕ × List Entry) → Type 0
  needs_of first second (First worker) before = first worker before
  needs_of first second (Second worker) before = second worker before

  abbrev pub does_of : (A → List (ℕ × List Entry) → List (ℕ × List Entry) → Type 0) → (B → List (ℕ × List Entry) → List (ℕ × List Entry) → Type 0)
      → OneOf A B → List (ℕ × List Entry) → List (ℕ × List Entry) → Type 0
  does_of first second (First worker) before after = first worker before after
  does_of first second (Second worker) before after = second worker before after

  abbrev pub leaves_of : (A → List Entry → Type 0) → (B → List Entry → Type 0) → OneOf A B → List Entry → Type 0
  leaves_of first second (First worker) past = first worker past
  leaves_of first second (Second worker) past = second worker past
