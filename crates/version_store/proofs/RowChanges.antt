-- The rows and their index after one object was put among them.
use Rattle.std.proofs.Common.{◌≡◌, ℕ, List, Option, Some, IfSome, refl, ap, subst, sym, ◌∙◌, set}
use Rattle.std.specs.List.{insert}
use Rattle.plain_data.proofs.RowFacts.{put_at, put_gap, rising_put}
use Rattle.kube_objects.specs.declared.key.Key.{Key}
use Rattle.kube_objects.specs.declared.objects.Object.{Object}
use Rattle.kube_objects.specs.Keys.{AreRows, IsRowAt, IsRowGap, key_of, put_row, row_at}
use Rattle.volume_index.specs.VolumeIndex.{Index}
use Rattle.kube_objects.proofs.KeyOrder.{key_cmp_total}
use Rattle.volume_index.specs.Keeping.{Keeps, rows_with}

pub rows_replaced : (rows : List Object) (o : Object) (at : ℕ) → IsRowAt rows (key_of o) at → set rows at o ≡ put_row o rows
rows_replaced rows o at stands = sym (put_at key_cmp_total key_of _ o refl rows at stands)

pub rows_inserted : (rows after : List Object) (o : Object) (at : ℕ) → IsRowGap rows (key_of o) at → after ≡ insert rows at o → after ≡ put_row o rows
rows_inserted rows after o at gap is = is ∙ sym (put_gap key_cmp_total key_of _ o refl rows at gap)

pub rows_rise : (rows after : List Object) (o : Object) → AreRows rows → after ≡ put_row o rows → AreRows after
rows_rise rows after o order put = subst AreRows (sym put) (rising_put key_cmp_total key_of o rows order)

-- the index follows the copy of an object that was put in, under the key where `before` stood
pub index_put : (index follows : Option Index) (rows after : List Object) (before : Option Object) (o told : Object)
    → ((os : List Object) (key : Key) → AreRows os → row_at key os ≡ before → IfSome (Some told) (λ x. key_of x ≡ key) → Keeps index os → Keeps follows (rows_with key (Some told) os))
    → AreRows rows → row_at (key_of o) rows ≡ before → told ≡ o → Keeps index rows → after ≡ put_row o rows → Keeps follows after
index_put index follows rows after before o told follow rising stood is keeps put =
    subst (Keeps follows) (ap (λ x. put_row x rows) is ∙ sym put) (follow rows (key_of o) rising stood (ap key_of is) keeps)
