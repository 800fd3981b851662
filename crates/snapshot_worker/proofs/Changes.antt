-- Rows in order stay so where one is changed and keeps its key, where rows of a list are kept, and where one is put at its place.
use Rattle.std.specs.Prelude.{ℕ, ◌≡◌, Bool, true, false, List, [], ◌∷◌, Option, is_some, map, if◌then◌else◌}
use Rattle.std.proofs.Common.{refl, sym, ap, subst, Result, Ok, Err, IfOk, IfErr, OnOk, OnErr, ◌∙◌}
use Rattle.std.specs.declared.cmp.Ordering.{Ordering}
use Rattle.std.specs.Cmp.{IsTotalOrder}
use Rattle.plain_data.specs.Rows.{IsAfter, IsAt, IsGap, IsRising, placed_row, put}
use Rattle.plain_data.proofs.RowFacts.{put_at, put_gap, rising_put}
use Rattle.snapshot_bind.specs.declared.calls.SnapReply.{SnapReply}
use Rattle.snapshot_bind.specs.declared.calls.SnapAsk.{SnapAsk}
use Rattle.snapshot_worker.specs.declared.seen.SeenContent.{SeenContent}
use Rattle.snapshot_worker.specs.Workers.{change_first, dropped_content, lacks_uid, looked_for, seen_name}

module _ {K X : Type 0} (cmp : K → K → Ordering) (key : X → K) where
  -- another row of the same key
  same_after : (x y : X) (xs : List X) → key y ≡ key x → IsAfter cmp key x xs → IsAfter cmp key y xs
  same_after x y [] e after = tt
  same_after x y (z ∷ zs) e after = (ap (λ k. cmp k (key z)) e ∙ after.0, same_after x y zs e after.1)

  module _ (f : X → Option SnapAsk) (g : X → X) (keeps : (x : X) → key (g x) ≡ key x) where
    after_change : (x : X) (xs : List X) → IsAfter cmp key x xs → IsAfter cmp key x (change_first f g xs)
    after_change x [] after = tt
    after_change x (y ∷ ys) after = by (is_some (f y)) (after_change x ys after.1)
      where
        by : (b : Bool) → IsAfter cmp key x (change_first f g ys) → IsAfter cmp key x (if b then g y ∷ ys else y ∷ change_first f g ys)
        by true later = (ap (cmp (key x)) (keeps y) ∙ after.0, after.1)
        by false later = (after.0, later)

    pub rising_change : (xs : List X) → IsRising cmp key xs → IsRising cmp key (change_first f g xs)
    rising_change [] rising = tt
    rising_change (y ∷ ys) rising = by (is_some (f y)) (rising_change ys rising.1)
      where
        by : (b : Bool) → IsRising cmp key (change_first f g ys) → IsRising cmp key (if b then g y ∷ ys else y ∷ change_first f g ys)
        by true later = (same_after y (g y) ys (keeps y) rising.0, rising.1)
        by false later = (after_change y ys rising.0, later)

  module _ {Y : Type 0} (from : Y → X) where
    after_map : (y : Y) (ys : List Y) → IsAfter cmp (λ z. key (from z)) y ys → IsAfter cmp key (from y) (map from ys)
    after_map y [] after = tt
    after_map y (z ∷ zs) after = (after.0, after_map y zs after.1)

    pub rising_map : (ys : List Y) → IsRising cmp (λ z. key (from z)) ys → IsRising cmp key (map from ys)
    rising_map [] rising = tt
    rising_map (y ∷ ys) rising = (after_map y ys rising.0, rising_map ys rising.1)

-- a look changes no name
pub looked_name : (reply : SnapReply) (x : SeenContent) → seen_name (looked_for reply x) ≡ seen_name x
looked_name reply x = by (lacks_uid x.row.uid reply)
  where
    by : (b : Bool) → seen_name (if b then record x { gone = true } else dropped_content x) ≡ seen_name x
    by true = refl
    by false = refl

-- a content whose snapshot is lacking is told so, and else it is dropped
pub looked_gone : (reply : SnapReply) (x : SeenContent) → lacks_uid x.row.uid reply ≡ true → looked_for reply x ≡ record x { gone = true }
looked_gone reply x e = rw e refl

pub looked_dropped : (reply : SnapReply) (x : SeenContent) → lacks_uid x.row.uid reply ≡ false → looked_for reply x ≡ dropped_content x
looked_dropped reply x e = rw e refl

-- a row at its place in the order is put there
module _ {K X : Type 0} {cmp : K → K → Ordering} (o : IsTotalOrder cmp) (key : X → K) where
  placed_is : (rows : List X) (place : Result ℕ ℕ) (x : X) → IfOk place (IsAt cmp key (key x) rows) → IfErr place (IsGap cmp key (key x) rows) → put cmp key x rows ≡ placed_row rows place x
  placed_is rows (Ok i) x at gap = put_at o key (key x) x refl rows i at
  placed_is rows (Err i) x at gap = put_gap o key (key x) x refl rows i gap

  pub kept_put : {A E : Type 0} (r : Result A E) (old new : List X) (place : Result ℕ ℕ) (x : X) → IfOk place (IsAt cmp key (key x) old) → IfErr place (IsGap cmp key (key x) old)
      → OnOk r (new ≡ placed_row old place x) → OnOk r (new ≡ put cmp key x old)
  kept_put (Ok a) old new place x at gap is = is ∙ sym (placed_is old place x at gap)
  kept_put (Err e) old new place x at gap is = tt

  pub kept_rising : {A E : Type 0} (r : Result A E) (old new : List X) (x : X) → IsRising cmp key old → OnOk r (new ≡ put cmp key x old) → OnErr r (new ≡ old) → IsRising cmp key new
  kept_rising (Ok a) old new x rising ok err = subst (IsRising cmp key) (sym ok) (rising_put o key x old rising)
  kept_rising (Err e) old new x rising ok err = subst (IsRising cmp key) (sym err) rising
