-- What a growth makes of the rows: they stay in order, in turn and within the reserve.
use Rattle.std.proofs.Common.{◌≡◌, ℕ, ◌+◌, ◌≤◌, List, [], ◌∷◌, Bool, true, false, cond, Option, Some, None, refl, sym, subst, ap, ◌∙◌, arith, get_or, slice_set, Less, Equal, Greater}
use Rattle.std.specs.Prelude.{◌-◌, ◌==◌, ◌&&◌, not}
use Rattle.std.specs.declared.cmp.Ordering.{Ordering}
use Rattle.std.specs.Ordering.{is_eq, match_ordering}
use Rattle.std.proofs.lemmas.Bool.{and_parts, not-false}
use Rattle.std.proofs.lemmas.Bool.Decides.{nat_tests}
use Rattle.plain_data.specs.Rows.{IsAt, put}
use Rattle.plain_data.proofs.RowFacts.{find_at, find_gap, put_at, rising_put}
use Rattle.plain_data.proofs.RowLookups.{found_key}
use Rattle.kube_parts.specs.declared.uid.Uid.{Uid}
use Rattle.kube_objects.specs.declared.key.Key.{Key}
use Rattle.kube_objects.specs.declared.objects.Amount.{Amount}
use Rattle.kube_objects.specs.declared.objects.Claim.{Claim as ClaimData}
use Rattle.kube_objects.specs.declared.objects.Volume.{Volume as VolumeData}
use Rattle.kube_objects.specs.declared.objects.Object.{Object}
use Rattle.kube_objects.specs.Bindings.{carries, is_completed, is_deleting}
use Rattle.kube_objects.specs.Keys.{key_cmp, row_at}
use Rattle.kube_objects.proofs.KeyOrder.{equal_keys, key_cmp_total}
use Rattle.binder_model.specs.Choice.{claim_in}
use Rattle.binder_model.specs.ObjectKeys.{volume_key}
use Rattle.side_calls.specs.declared.sizes.GrowError.{GrowError}
use Rattle.side_calls.specs.declared.sizes.SizeRow.{SizeRow}
use Rattle.side_calls.specs.declared.sizes.Why.{Why}
use Rattle.quota_rules.specs.Using.{Tally}
use Rattle.expand_ops.specs.Growing.{claim_lets, fault_if, grow_fault, has_bytes, holds_volume, is_bound_claim, volume_in, why_claim, why_if, why_volume}
use Rattle.expand_ops.specs.Growing.{first_row, grown_if, grown_row, grown_rows, row_from, rows_grown, sizes_grown}
use Rattle.expand_ops.specs.Sizes.{AreInTurn, AreSizes, Growth, IsGrowth, IsInTurn, size_at, size_key, taken_by}
use Rattle.expand_ops.proofs.Turns.{no_some, same_some, taken_of}

-- ---- a row that is put

-- the row of a key has the key
pub row_key : (key : Key) (x : SizeRow) (xs : List SizeRow) → size_at key xs ≡ Some x → x.key ≡ key
row_key key x xs e = equal_keys x.key key (found_key key_cmp_total size_key key x xs e)

pub grown_at : (first : SizeRow) (xs : List SizeRow) (i : ℕ) (d : SizeRow) → IsAt key_cmp size_key first.key xs i
    → grown_rows (grown_row (size_at first.key xs) first first.asked) xs ≡ slice_set xs i (record (get_or xs i d) { asked = first.asked })
grown_at first xs i d at =
    let found = find_at key_cmp_total size_key first.key xs i d at in
    let row : SizeRow = record (get_or xs i d) { asked = first.asked } in
    let key : row.key ≡ first.key = row_key first.key (get_or xs i d) xs found in
    ap (λ (o : Option SizeRow). grown_rows (grown_row o first first.asked) xs) found ∙ put_at key_cmp_total size_key first.key row key xs i at

put_turns : (x : SizeRow) (xs : List SizeRow) → IsInTurn x → AreInTurn xs → AreInTurn (put key_cmp size_key x xs)
put_turns x [] t ts = (t, tt)
put_turns x (y ∷ ys) t ts = by (key_cmp y.key x.key) (put_turns x ys t ts.1)
  where
    by : (o : Ordering) → AreInTurn (put key_cmp size_key x ys) → AreInTurn (match_ordering o (y ∷ put key_cmp size_key x ys) (x ∷ ys) (x ∷ y ∷ ys))
    by Less rest = (ts.0, rest)
    by Equal rest = (t, ts.1)
    by Greater rest = (t, ts)

put_taken : (x : SizeRow) (xs : List SizeRow) → taken_by (put key_cmp size_key x xs) ≤ taken_by xs + taken_of x
put_taken x [] = omega arith
put_taken x (y ∷ ys) = by (key_cmp y.key x.key) (put_taken x ys)
  where
    by : (o : Ordering) → taken_by (put key_cmp size_key x ys) ≤ taken_by ys + taken_of x
        → taken_by (match_ordering o (y ∷ put key_cmp size_key x ys) (x ∷ ys) (x ∷ y ∷ ys)) ≤ ((y.stored - y.first) + taken_by ys) + taken_of x
    by Less rest = omega (arith, rest)
    by Equal rest = omega arith
    by Greater rest = omega arith

put_over : (x old : SizeRow) (xs : List SizeRow) → AreSizes xs → size_at x.key xs ≡ Some old → taken_of x ≡ taken_of old → taken_by (put key_cmp size_key x xs) ≤ taken_by xs
put_over x old [] r e same = absurd (no_some old e)
put_over x old (y ∷ ys) r e same = by (key_cmp y.key x.key) refl e (put_over x old ys r.1)
  where
    by : (o : Ordering) → key_cmp y.key x.key ≡ o → cond (is_eq o) (Some y) (size_at x.key ys) ≡ Some old
        → (size_at x.key ys ≡ Some old → taken_of x ≡ taken_of old → taken_by (put key_cmp size_key x ys) ≤ taken_by ys)
        → taken_by (match_ordering o (y ∷ put key_cmp size_key x ys) (x ∷ ys) (x ∷ y ∷ ys)) ≤ (y.stored - y.first) + taken_by ys
    by Less o f rest = let h = rest f same in omega (arith, h)
    by Equal o f rest = let h : taken_of y ≡ taken_of old = ap taken_of (same_some y old f) in omega (arith, h, same)
    by Greater o f rest = absurd (no_some old (sym (find_gap key_cmp_total size_key x.key (y ∷ ys) 0 r o) ∙ e))

turn_at : (key : Key) (x : SizeRow) (xs : List SizeRow) → AreInTurn xs → size_at key xs ≡ Some x → IsInTurn x
turn_at key x [] t e = absurd (no_some x e)
turn_at key x (y ∷ ys) t e = by (is_eq (key_cmp y.key key)) e (turn_at key x ys t.1)
  where
    by : (b : Bool) → cond b (Some y) (size_at key ys) ≡ Some x → (size_at key ys ≡ Some x → IsInTurn x) → IsInTurn x
    by true f rest = subst IsInTurn (same_some y x f) t.0
    by false f rest = rest f

-- ---- the capacity in the status of a claim that may grow is its volume's

no_why : (b : Bool) (why : Why) (next : Option Why) → why_if b why next ≡ None → (b ≡ false) × (next ≡ None)
no_why true why next e = absurd (no_some why (sym e))
no_why false why next e = (refl, e)

bound_bytes : (c : ClaimData) (v : VolumeData) (got : Amount) → holds_volume c v ≡ true → c.got ≡ Some got → got.bytes ≡ v.amount.bytes
bound_bytes c v got h e =
    let t = and_parts (is_bound_claim c.phase && is_completed c && carries v c) (has_bytes c.got v.amount.bytes) h in
    let f : has_bytes (Some got) v.amount.bytes ≡ true = ap (λ (a : Option Amount). has_bytes a v.amount.bytes) (sym e) ∙ t.1 in
    let g : (got.bytes == v.amount.bytes) ≡ true = f in
    grind (arith, nat_tests)

why_bytes : (grows : Bool) (objects : List Object) (c : ClaimData) (v : VolumeData) (got : Amount) → why_claim grows objects (Some c) ≡ None
    → volume_in (row_at (volume_key c.volume_name) objects) ≡ Some v → c.got ≡ Some got → got.bytes ≡ v.amount.bytes
why_bytes grows objects c v got e is has =
    let t = no_why (is_deleting c.meta) _ _ e in
    let u : why_volume grows c (Some v) ≡ None = ap (λ (x : Option VolumeData). why_volume grows c x) (sym is) ∙ t.1 in
    let s = no_why (not (holds_volume c v)) _ _ u in
    bound_bytes c v got (not-false _ s.0) has

-- where nothing stands against a growth, neither part does
pub fault_parts : (why : Option Why) (next : Option GrowError) → fault_if why next ≡ None → (why ≡ None) × (next ≡ None)
fault_parts None next e = (refl, e)
fault_parts (Some why) next e = absurd (no_some _ (sym e))

-- ---- the rows

module _ (g : Growth) (is : IsGrowth g) (key : Key) (bytes : ℕ) where
  row_growth : (uid : Uid) (got : Amount) (v : VolumeData) → got.bytes ≡ v.amount.bytes
      → IsGrowth (record { reserve = g.reserve; rows = row_from g.rows key bytes (Some uid) (Some got) (Some v) })
  row_growth uid got v same = by (size_at key g.rows) refl
    where
      new : SizeRow
      new = first_row key uid got v bytes

      by : (x : Option SizeRow) → size_at key g.rows ≡ x → IsGrowth (record { reserve = g.reserve; rows = grown_rows (grown_row x new bytes) g.rows })
      by None e = record {
        order = rising_put key_cmp_total size_key new g.rows is.order;
        turns = put_turns new g.rows (record { given = omega (arith, same); volume = omega arith; first = omega arith }) is.turns;
        few = let more = put_taken new g.rows in let few = is.few in omega (arith, more, few);
      }
      by (Some x) e =
          let row : SizeRow = record x { asked = bytes } in
          let own : size_at row.key g.rows ≡ Some x = ap (λ k. size_at k g.rows) (row_key key x g.rows e) ∙ e in
          let turn = turn_at key x g.rows is.turns e in
          record {
            order = rising_put key_cmp_total size_key row g.rows is.order;
            turns = put_turns row g.rows (record { given = turn.given; volume = turn.volume; first = turn.first }) is.turns;
            few = let more = put_over row x g.rows is.order own refl in let few = is.few in omega (arith, more, few);
          }

  from_growth : (objects : List Object) (c : ClaimData) (uid : Option Uid) (got : Option Amount) (v : Option VolumeData)
      → c.got ≡ got → volume_in (row_at (volume_key c.volume_name) objects) ≡ v → why_claim (claim_lets objects (Some c)) objects (Some c) ≡ None
      → IsGrowth (record { reserve = g.reserve; rows = row_from g.rows key bytes uid got v })
  from_growth objects c (Some uid) (Some got) (Some v) has volume e = row_growth uid got v (why_bytes _ objects c v got e volume has)
  from_growth objects c None got v has volume e = is
  from_growth objects c (Some uid) None v has volume e = is
  from_growth objects c (Some uid) (Some got) None has volume e = is

  claimed_growth : (objects : List Object) (c : Option ClaimData) → why_claim (claim_lets objects c) objects c ≡ None
      → IsGrowth (record { reserve = g.reserve; rows = sizes_grown g.rows objects key bytes c })
  claimed_growth objects None why = is
  claimed_growth objects (Some c) why = from_growth objects c c.meta.uid c.got (volume_in (row_at (volume_key c.volume_name) objects)) refl refl why

pub unfaulted_growth : (g : Growth) (t : Tally) (objects : List Object) (key : Key) (bytes : ℕ) → IsGrowth g → grow_fault t g.rows objects key bytes ≡ None
    → IsGrowth (record { reserve = g.reserve; rows = sizes_grown g.rows objects key bytes (claim_in (row_at key objects)) })
unfaulted_growth g t objects key bytes is e = claimed_growth g is key bytes objects (claim_in (row_at key objects)) (fault_parts _ _ e).0

pub grown_growth : (g : Growth) (t : Tally) (objects : List Object) (key : Key) (bytes : ℕ) → IsGrowth g
    → IsGrowth (record { reserve = g.reserve; rows = rows_grown t g.rows objects key bytes })
grown_growth g t objects key bytes is = by (grow_fault t g.rows objects key bytes) refl
  where
    new : List SizeRow
    new = sizes_grown g.rows objects key bytes (claim_in (row_at key objects))

    by : (f : Option GrowError) → grow_fault t g.rows objects key bytes ≡ f → IsGrowth (record { reserve = g.reserve; rows = grown_if f new g.rows })
    by None e = unfaulted_growth g t objects key bytes is e
    by (Some error) e = is
