-- Rows are kept in order, and what they tell after an edit.
use Rattle.std.proofs.Common.{◌≡◌, ℕ, List, Bool, true, false, Some, None, true≢false, refl, sym, ◌∙◌, ap, if◌then◌else◌}
use Rattle.std.specs.Prelude.{option_map, is_some}
use Rattle.plain_data.proofs.RowFacts.{rising_put, rising_without}
use Rattle.kube_parts.specs.declared.parts.Kind.{Kind}
use Rattle.kube_objects.specs.declared.key.Key.{Key}
use Rattle.kube_objects.specs.declared.objects.Object.{Object}
use Rattle.kube_objects.specs.Keys.{key_of, kind_of, row_at, put_row, without_row, same_key}
use Rattle.kube_objects.proofs.KeyOrder.{key_cmp_total}
use Rattle.informer_cache.specs.declared.marks.Mark.{Mark}
use Rattle.informer_cache.specs.Marks.{mark_key, mark_at, put_mark}
use Rattle.informer_cache.specs.Knowledge.{AreKept, row_told, told_at}
use Rattle.informer_cache.proofs.Found.{mark_at-put, row_at-put, row_at-without, of_kind-put, of_kind-without}

module _ (kind : Kind) (m : Mark) (ms : List Mark) (os : List Object) (kept : AreKept kind ms os) where
  -- where a key has no mark after one was put in, it had none before, and is another
  unmarked : (k : Key) → mark_at k (put_mark m ms) ≡ None → (same_key m.key k ≡ false) × (mark_at k ms ≡ None)
  unmarked k none = by (same_key m.key k) refl (sym (mark_at-put m ms k) ∙ none)
    where
      by : (b : Bool) → same_key m.key k ≡ b → (if b then Some m else mark_at k ms) ≡ None → (b ≡ false) × (mark_at k ms ≡ None)
      by true e h = absurd (true≢false (ap is_some h))
      by false e h = (refl, h)

  -- what is found after the object of the mark's key was put in
  put_by : (o : Object) → m.key ≡ key_of o → (k : Key) → row_at k (put_row o os) ≡ (if same_key m.key k then Some o else row_at k os)
  put_by o key k = row_at-put o os k ∙ ap (λ j. if same_key j k then Some o else row_at k os) (sym key)

  pub kept_mark : AreKept kind (put_mark m ms) os
  kept_mark = record {
    marked = rising_put key_cmp_total mark_key m ms kept.marked;
    ordered = kept.ordered;
    of_kind = kept.of_kind;
    covered = λ k none. kept.covered k (unmarked k none).1;
  }

  pub kept_present : (o : Object) → kind_of o ≡ kind → m.key ≡ key_of o → AreKept kind (put_mark m ms) (put_row o os)
  kept_present o is key = record {
    marked = rising_put key_cmp_total mark_key m ms kept.marked;
    ordered = rising_put key_cmp_total key_of o os kept.ordered;
    of_kind = of_kind-put kind o os is kept.of_kind;
    covered = λ k none. put_by o key k ∙ rw (unmarked k none).0 (kept.covered k (unmarked k none).1);
  }

  pub kept_absent : AreKept kind (put_mark m ms) (without_row m.key os)
  kept_absent = record {
    marked = rising_put key_cmp_total mark_key m ms kept.marked;
    ordered = rising_without key_cmp_total key_of m.key os kept.ordered;
    of_kind = of_kind-without kind m.key os kept.of_kind;
    covered = λ k none. row_at-without m.key os k kept.ordered ∙ rw (unmarked k none).0 (kept.covered k (unmarked k none).1);
  }

  pub told_present : (o : Object) → m.key ≡ key_of o → (k : Key) → row_told (put_mark m ms) (put_row o os) k ≡ (if same_key m.key k then Some (told_at m.version (Some o)) else row_told ms os k)
  told_present o key k =
      ap (λ n. option_map (λ (x : Mark). told_at x.version (row_at k (put_row o os))) n) (mark_at-put m ms k)
      ∙ ap (λ r. option_map (λ (x : Mark). told_at x.version r) (if same_key m.key k then Some m else mark_at k ms)) (put_by o key k)
      ∙ by (same_key m.key k)
    where
      by : (b : Bool) → option_map (λ (x : Mark). told_at x.version (if b then Some o else row_at k os))
          (if b then Some m else mark_at k ms) ≡ (if b then Some (told_at m.version (Some o)) else row_told ms os k)
      by true = refl
      by false = refl

  pub told_absent : (k : Key) → row_told (put_mark m ms) (without_row m.key os) k ≡ (if same_key m.key k then Some (told_at m.version None) else row_told ms os k)
  told_absent k =
      ap (λ n. option_map (λ (x : Mark). told_at x.version (row_at k (without_row m.key os))) n) (mark_at-put m ms k)
      ∙ ap (λ r. option_map (λ (x : Mark). told_at x.version r) (if same_key m.key k then Some m else mark_at k ms)) (row_at-without m.key os k kept.ordered)
      ∙ by (same_key m.key k)
    where
      by : (b : Bool) → option_map (λ (x : Mark). told_at x.version (if b then None else row_at k os))
          (if b then Some m else mark_at k ms) ≡ (if b then Some (told_at m.version None) else row_told ms os k)
      by true = refl
      by false = refl

-- the same, where the key, the version and the object are given
module _ {kind : Kind} {key : Key} {version : ℕ} {m : Mark} {ms next_ms : List Mark} {os next_os : List Object} (kept : AreKept kind ms os)
    (key_is : m.key ≡ key) (version_is : m.version ≡ version) (marks : next_ms ≡ put_mark m ms) where
  pub tells_present : (o : Object) → key_of o ≡ key → next_os ≡ put_row o os → (k : Key) → row_told next_ms next_os k ≡ (if same_key key k then Some (told_at version (Some o)) else row_told ms os k)
  tells_present o own objects k = rw (marks, objects, sym key_is, sym version_is) (told_present kind m ms os kept o (key_is ∙ sym own) k)

  pub tells_absent : next_os ≡ without_row key os → (k : Key) → row_told next_ms next_os k ≡ (if same_key key k then Some (told_at version None) else row_told ms os k)
  tells_absent objects k = rw (marks, objects, sym key_is, sym version_is) (told_absent kind m ms os kept k)

  pub keeps_present : (o : Object) → kind_of o ≡ kind → key_of o ≡ key → next_os ≡ put_row o os → AreKept kind next_ms next_os
  keeps_present o is own objects = rw (marks, objects) (kept_present kind m ms os kept o is (key_is ∙ sym own))

  pub keeps_mark : next_os ≡ os → AreKept kind next_ms next_os
  keeps_mark same = rw (marks, same) (kept_mark kind m ms os kept)

  pub keeps_absent : next_os ≡ without_row key os → AreKept kind next_ms next_os
  keeps_absent objects = rw (marks, objects, sym key_is) (kept_absent kind m ms os kept)
