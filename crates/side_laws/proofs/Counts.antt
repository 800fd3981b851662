-- A claim that grows counts with its growth, and each other claim as before.
use Rattle.std.proofs.Common.{◌≡◌, ℕ, ◌+◌, ◌<◌, ◌≤◌, List, [], ◌∷◌, Bool, true, false, cond, Option, Some, None, refl, sym, subst, ap, ◌∙◌, arith, length, true≢false, Less}
use Rattle.std.specs.Prelude.{◌-◌, ◌^◌, ◌&&◌, bytes_eq, not}
use Rattle.std.specs.Ordering.{is_eq}
use Rattle.std.proofs.lemmas.Bool.{and_parts}
use Rattle.std.proofs.lemmas.Bool.Decides.{nat_tests}
use Rattle.std.proofs.lemmas.Cmp.{tied_itself}
use Rattle.std.proofs.lemmas.Slice.Eq.{bytes_eq-Decides}
use Rattle.plain_data.specs.Rows.{IsAfter, put}
use Rattle.kube_parts.specs.declared.uid.Uid.{Uid}
use Rattle.kube_objects.specs.declared.key.Key.{Key}
use Rattle.kube_objects.specs.declared.objects.Amount.{Amount}
use Rattle.kube_objects.specs.declared.objects.Claim.{Claim as ClaimData}
use Rattle.kube_objects.specs.declared.objects.Volume.{Volume as VolumeData}
use Rattle.kube_objects.specs.declared.objects.Object.{Object}
use Rattle.kube_objects.specs.declared.objects.Object.TheVariants.{Class, Node, Volume, Claim, Pod}
use Rattle.kube_objects.specs.Bindings.{carries, is_completed, is_deleting, is_uid}
use Rattle.kube_objects.specs.Keys.{AreRows, key_cmp, key_of, row_at, without_row}
use Rattle.kube_objects.proofs.KeyOrder.{key_cmp_total, row_at_key, row_at-without_row}
use Rattle.call_types.specs.declared.setup.Setup.{Setup}
use Rattle.binder_model.specs.Choice.{claim_in}
use Rattle.binder_model.specs.Imports.{ImportsPass}
use Rattle.binder_model.specs.Promises.{most_entries}
use Rattle.binder_model.specs.ObjectKeys.{volume_key}
use Rattle.binder_model.specs.World.{world}
use Rattle.model_laws.specs.Stood.{Stands}
use Rattle.model_laws.proofs.Histories.{rows_stand_in_order}
use Rattle.model_laws.proofs.Stood.{one_uid_one_key, stood as stands_stood}
use Rattle.side_calls.specs.declared.sizes.SizeRow.{SizeRow}
use Rattle.quota_rules.specs.Counting.{HasRoom, grown_in, is_claim_of}
use Rattle.quota_rules.specs.Using.{Tally}
use Rattle.expand_ops.specs.Growing.{asked_by, asked_now, claim_lets, fault_by, fault_if, grow_fault, has_bytes, holds_volume, is_bound_claim, volume_in, why_bound, why_claim, why_if, why_volume}
use Rattle.expand_ops.specs.Growing.{first_row, grown_if, grown_row, row_from, rows_grown, sizes_grown}
use Rattle.side_calls.specs.declared.sizes.Why.{Why}
use Rattle.side_calls.specs.declared.sizes.Why.TheVariants as reasons
use Rattle.expand_ops.specs.Sizes.{size_at, size_key}
use Rattle.expand_ops.proofs.Grown.{fault_parts, row_key}
use Rattle.side_model.specs.Answers.{side}
use Rattle.side_model.specs.Merged.{Step, entries}
use Rattle.side_model.specs.Sides.{SideSetup, counted_by, counted_in, tally_of}
use Rattle.side_laws.specs.Mirrors.{GrowthIsCounted}
use Rattle.side_laws.proofs.Growths.{no_smaller}
use Rattle.side_laws.proofs.Mirrors.{itself, none_some, same_claim, skipped_row, some_is}
use Rattle.side_laws.proofs.Quotas.{other_asked, own_asked, without_it}

-- what is found behind an object comes after it
after_found : (x : Object) (xs : List Object) (key : Key) (o : Object) → IsAfter key_cmp key_of x xs → row_at key xs ≡ Some o → key_cmp (key_of x) (key_of o) ≡ Less
after_found x [] key o a e = none_some o e
after_found x (y ∷ ys) key o a e = by (is_eq (key_cmp (key_of y) key)) e (after_found x ys key o a.1)
  where
    by : (b : Bool) → cond b (Some y) (row_at key ys) ≡ Some o → (row_at key ys ≡ Some o → key_cmp (key_of x) (key_of o) ≡ Less) → key_cmp (key_of x) (key_of o) ≡ Less
    by true f rest = subst (λ (z : Object). key_cmp (key_of x) (key_of z) ≡ Less) (some_is y o f) a.0
    by false f rest = rest f

has_uid : (y : ClaimData) (u : Uid) → is_uid y.meta.uid u ≡ true → y.meta.uid ≡ Some u
has_uid y u e = by y.meta.uid e
  where
    by : (x : Option Uid) → is_uid x u ≡ true → x ≡ Some u
    by None f = absurd (true≢false (sym f))
    by (Some v) f = let n : v.0 ≡ u.0 = grind (arith, nat_tests) in ap (λ (k : ℕ). Some (record { 0 = k })) n

-- the claim c of this UID has the row, and asks for so many bytes more than before
module _ (sizes : List SizeRow) (row : SizeRow) (c : ClaimData) (uid : Uid) (more : ℕ) (at : key_of (Claim c) ≡ row.key) (has : c.meta.uid ≡ Some uid)
    (asks : row.asked ≡ asked_by (size_at (key_of (Claim c)) sizes) c + more) (low : row.asked < 2 ^ 64) where
  abbrev IsOnlyOne : List Object → Type 0
  IsOnlyOne xs = (key : Key) (d : ClaimData) → row_at key xs ≡ Some (Claim d) → d.meta.uid ≡ Some uid → d ≡ c

  record Counts (xs : List Object) : Type 0 where
    room : HasRoom c.meta.namespace uid more (counted_in sizes xs)
    grown : grown_in c.meta.namespace uid more (counted_in sizes xs) ≡ counted_in (put key_cmp size_key row sizes) xs

  only_tail : (x : Object) (xs : List Object) → IsAfter key_cmp key_of x xs → IsOnlyOne (x ∷ xs) → IsOnlyOne xs
  only_tail x xs after only key d f u =
      let keyed : key_of (Claim d) ≡ key = row_at_key key (Claim d) xs f in
      let less : key_cmp (key_of x) (key_of (Claim d)) ≡ Less = after_found x xs key (Claim d) after f in
      let apart : is_eq (key_cmp (key_of x) key) ≡ false = ap is_eq (ap (λ (k : Key). key_cmp (key_of x) k) (sym keyed) ∙ less) in
      only key d (rw apart f) u

  is_own : is_claim_of c.meta.namespace uid (counted_by sizes c) ≡ true
  is_own =
      let name : bytes_eq c.meta.namespace c.meta.namespace ≡ true = (bytes_eq-Decides c.meta.namespace c.meta.namespace).1 refl in
      let id : is_uid c.meta.uid uid ≡ true = rw has (itself uid) in
      rw (name, id) refl

  own_counts : (xs : List Object) → AreRows (Claim c ∷ xs) → Counts (Claim c ∷ xs)
  own_counts xs order =
      let equal : is_eq (key_cmp (key_of (Claim c)) row.key) ≡ true = ap (λ (k : Key). is_eq (key_cmp k row.key)) at ∙ ap is_eq (tied_itself key_cmp_total row.key) in
      let without = row_at-without_row row.key (Claim c ∷ xs) order in
      let gone : row_at row.key xs ≡ None = subst (λ (a : Bool). row_at row.key (cond a xs (Claim c ∷ without_row row.key xs)) ≡ None) equal without in
      let fits : row.asked ≤ asked_by (size_at (key_of (Claim c)) sizes) c + more = omega (arith, asks) in
      let own = own_asked [] sizes row c at more fits in
      let head = ap (λ (n : ℕ). (record { key = key_of (Claim c); claim = c.meta.uid; asked = n }) ∷ counted_in sizes xs) (sym asks ∙ sym own) in
      let tail = ap (λ zs. counted_by (put key_cmp size_key row sizes) c ∷ zs) (sym (without_it [] sizes row xs gone)) in
      record { room = rw is_own (subst (λ (n : ℕ). n < 2 ^ 64) asks low); grown = rw is_own (head ∙ tail) }

  counts : (xs : List Object) → AreRows xs → row_at row.key xs ≡ Some (Claim c) → IsOnlyOne xs → Counts xs
  counts [] order e only = none_some (Claim c) e
  counts (Claim y ∷ xs) order e only = by (is_claim_of c.meta.namespace uid (counted_by sizes y)) refl (counts xs order.1)
    where
      found : row_at (key_of (Claim y)) (Claim y ∷ xs) ≡ Some (Claim y)
      found = let equal : is_eq (key_cmp (key_of (Claim y)) (key_of (Claim y))) ≡ true = ap is_eq (tied_itself key_cmp_total (key_of (Claim y))) in rw equal refl

      apart : (b : Bool) → is_eq (key_cmp (key_of (Claim y)) row.key) ≡ b → cond b (Some (Claim y)) (row_at row.key xs) ≡ Some (Claim c)
          → is_claim_of c.meta.namespace uid (counted_by sizes y) ≡ false → (is_eq (key_cmp (key_of (Claim y)) row.key) ≡ false) × (row_at row.key xs ≡ Some (Claim c))
      apart false b f other = (b, f)
      apart true b f other =
          let same : y ≡ c = same_claim y c (some_is (Claim y) (Claim c) f) in
          let own : is_claim_of c.meta.namespace uid (counted_by sizes y) ≡ true = ap (λ (z : ClaimData). is_claim_of c.meta.namespace uid (counted_by sizes z)) same ∙ is_own in
          absurd (true≢false (sym own ∙ other))

      by : (b : Bool) → is_claim_of c.meta.namespace uid (counted_by sizes y) ≡ b → (row_at row.key xs ≡ Some (Claim c) → IsOnlyOne xs → Counts xs) → Counts (Claim y ∷ xs)
      by true t rest =
          let tests = and_parts (bytes_eq y.meta.namespace c.meta.namespace) (is_uid y.meta.uid uid) t in
          let same : y ≡ c = only (key_of (Claim y)) y found (has_uid y uid tests.1) in
          subst (λ (z : ClaimData). Counts (Claim z ∷ xs)) (sym same) (own_counts xs (subst (λ (z : ClaimData). AreRows (Claim z ∷ xs)) same order))
      by false t rest =
          let behind = apart (is_eq (key_cmp (key_of (Claim y)) row.key)) refl e t in
          let r = rest behind.1 (only_tail (Claim y) xs order.0 only) in
          let asked = other_asked [] sizes row y behind.0 in
          let head = ap (λ (n : ℕ). (record { key = key_of (Claim y); claim = y.meta.uid; asked = n }) ∷ counted_in (put key_cmp size_key row sizes) xs) (sym asked) in
          record { room = rw t r.room; grown = rw t (ap (λ zs. counted_by sizes y ∷ zs) r.grown ∙ head) }
  counts (Class y ∷ xs) order e only =
      let r = counts xs order.1 (skipped_row (Class y) c (row_at row.key xs) (is_eq (key_cmp (key_of (Class y)) row.key)) (λ k. omega (arith, k)) e) (only_tail (Class y) xs order.0 only) in
      record { room = r.room; grown = r.grown }
  counts (Node y ∷ xs) order e only =
      let r = counts xs order.1 (skipped_row (Node y) c (row_at row.key xs) (is_eq (key_cmp (key_of (Node y)) row.key)) (λ k. omega (arith, k)) e) (only_tail (Node y) xs order.0 only) in
      record { room = r.room; grown = r.grown }
  counts (Volume y ∷ xs) order e only =
      let r = counts xs order.1 (skipped_row (Volume y) c (row_at row.key xs) (is_eq (key_cmp (key_of (Volume y)) row.key)) (λ k. omega (arith, k)) e) (only_tail (Volume y) xs order.0 only) in
      record { room = r.room; grown = r.grown }
  counts (Pod y ∷ xs) order e only =
      let r = counts xs order.1 (skipped_row (Pod y) c (row_at row.key xs) (is_eq (key_cmp (key_of (Pod y)) row.key)) (λ k. omega (arith, k)) e) (only_tail (Pod y) xs order.0 only) in
      record { room = r.room; grown = r.grown }

-- ---- a claim that may grow has a volume, and a capacity in its status

not_why : (b : Bool) (why : Why) (next : Option Why) → why_if b why next ≡ None → next ≡ None
not_why true why next e = none_some why (sym e)
not_why false why next e = e

volume_there : (grows : Bool) (c : ClaimData) (x : Option VolumeData) → why_volume grows c x ≡ None → (v : VolumeData) × ((x ≡ Some v) × (holds_volume c v ≡ true))
volume_there grows c None e = none_some _ (sym e)
volume_there grows c (Some v) e = (v, (refl, by (holds_volume c v) refl e))
  where
    by : (b : Bool) → holds_volume c v ≡ b → why_if (not b) reasons.NotBound (why_bound grows v) ≡ None → holds_volume c v ≡ true
    by true h f = h
    by false h f = none_some _ (sym f)

got_there : (x : Option Amount) (bytes : ℕ) → has_bytes x bytes ≡ true → (got : Amount) × (x ≡ Some got)
got_there None bytes e = absurd (true≢false (sym e))
got_there (Some got) bytes e = (got, refl)

-- the row of a claim that grows is the key's, and asks for the bytes
row_facts : (key : Key) (new : SizeRow) (bytes : ℕ) (sizes : List SizeRow) (o : Option SizeRow) → new.key ≡ key → new.asked ≡ bytes → size_at key sizes ≡ o
    → ((grown_row o new bytes).key ≡ key) × ((grown_row o new bytes).asked ≡ bytes)
row_facts key new bytes sizes None k a e = (k, a)
row_facts key new bytes sizes (Some x) k a e = (row_key key x sizes e, refl)

-- of two claims that stand and have one UID, one is the other
one_claim : (setup : Setup) (m : List Step) → ImportsPass setup.imports → length (entries m) < most_entries → (c : ClaimData) (uid : Uid) (key : Key)
    → row_at key (world setup (entries m)).store.rows ≡ Some (Claim c) → c.meta.uid ≡ Some uid
    → (k : Key) (d : ClaimData) → row_at k (world setup (entries m)).store.rows ≡ Some (Claim d) → d.meta.uid ≡ Some uid → d ≡ c
one_claim setup m imports short c uid key is has k d f u =
    let os = (world setup (entries m)).store.rows in
    let keyed : key_of (Claim c) ≡ key = row_at_key key (Claim c) os is in
    let other : key_of (Claim d) ≡ k = row_at_key k (Claim d) os f in
    let stands : Stands (world setup (entries m)) (Claim c) = ap (λ (j : Key). row_at j os) keyed ∙ is in
    let stood : Stands (world setup (entries m)) (Claim d) = ap (λ (j : Key). row_at j os) other ∙ f in
    let one = one_uid_one_key setup (entries m) imports short (Claim d) (Claim c) uid (stands_stood setup (entries m) (Claim d) stood) (stands_stood setup (entries m) (Claim c) stands) u has in
    same_claim d c (some_is (Claim d) (Claim c) (sym stood ∙ ap (λ (j : Key). row_at j os) one ∙ stands))

-- ---- the whole

module _ (setup : Setup) (given : SideSetup) (m : List Step) (key : Key) (bytes : ℕ) (c : ClaimData) (uid : Uid) where
  abbrev sizes : List SizeRow
  sizes = (side setup given m).sizes

  abbrev objects : List Object
  objects = (world setup (entries m)).store.rows

  abbrev tally : Tally
  tally = tally_of (side setup given m) objects

  -- with nothing against it
  unfaulted : row_at key objects ≡ Some (Claim c) → grow_fault tally sizes objects key bytes ≡ None
      → (why_claim (claim_lets objects (Some c)) objects (Some c) ≡ None) × (fault_by tally key bytes (asked_by (size_at key sizes) c) ≡ None)
  unfaulted is fault =
      fault_parts _ _ (subst
      (λ (o : Option Object). fault_if (why_claim (claim_lets objects (claim_in o)) objects (claim_in o)) (fault_by tally key bytes (asked_now sizes key (claim_in o))) ≡ None)
      is fault)

  rows_are : (got : Amount) (v : VolumeData) → row_at key objects ≡ Some (Claim c) → c.meta.uid ≡ Some uid → grow_fault tally sizes objects key bytes ≡ None
      → c.got ≡ Some got → volume_in (row_at (volume_key c.volume_name) objects) ≡ Some v
      → rows_grown tally sizes objects key bytes ≡ put key_cmp size_key (grown_row (size_at key sizes) (first_row key uid got v bytes) bytes) sizes
  rows_are got v is has fault gets volume =
      ap (λ (f : Option _). grown_if f (sizes_grown sizes objects key bytes (claim_in (row_at key objects))) sizes) fault
      ∙ ap (λ (o : Option Object). sizes_grown sizes objects key bytes (claim_in o)) is
      ∙ ap (λ (u : Option Uid). row_from sizes key bytes u c.got (volume_in (row_at (volume_key c.volume_name) objects))) has
      ∙ ap (λ (a : Option Amount). row_from sizes key bytes (Some uid) a (volume_in (row_at (volume_key c.volume_name) objects))) gets
      ∙ ap (λ (x : Option VolumeData). row_from sizes key bytes (Some uid) (Some got) x) volume

pub growth_is_counted : GrowthIsCounted
growth_is_counted setup given m imports short key bytes c uid below is has fault =
    let xs = (side setup given m).sizes in
    let os = (world setup (entries m)).store.rows in
    let parts = unfaulted setup given m key bytes c uid is fault in
    let there = volume_there _ c _ (not_why (is_deleting c.meta) _ _ parts.0) in
    let holds = and_parts (is_bound_claim c.phase && is_completed c && carries there.0 c) (has_bytes c.got there.0.amount.bytes) there.1.1 in
    let gets = got_there c.got there.0.amount.bytes holds.1 in
    let row : SizeRow = grown_row (size_at key xs) (first_row key uid gets.0 there.0 bytes) bytes in
    let facts = row_facts key (first_row key uid gets.0 there.0 bytes) bytes xs (size_at key xs) refl refl refl in
    let keyed : key_of (Claim c) ≡ key = row_at_key key (Claim c) os is in
    let low : asked_by (size_at key xs) c ≤ bytes = no_smaller _ key bytes (asked_by (size_at key xs) c) parts.1 in
    let asked : row.asked ≡ bytes = facts.1 in
    let before : asked_by (size_at (key_of (Claim c)) xs) c ≡ asked_by (size_at key xs) c = ap (λ (k : Key). asked_by (size_at k xs) c) keyed in
    let asks : row.asked ≡ asked_by (size_at (key_of (Claim c)) xs) c + (bytes - asked_by (size_at key xs) c) = omega (arith, asked, before, low) in
    let only : (k : Key) (d : ClaimData) → row_at k os ≡ Some (Claim d) → d.meta.uid ≡ Some uid → d ≡ c = λ k d f u. one_claim setup m imports short c uid key is has k d f u in
    let r = counts xs row c uid (bytes - asked_by (size_at key xs) c) (keyed ∙ sym facts.0) has asks (subst (λ (n : ℕ). n < 2 ^ 64) (sym asked) below) os
    (rows_stand_in_order setup (entries m)) (ap (λ (k : Key). row_at k os) facts.0 ∙ is) only in
    record { room = r.room; grown = r.grown ∙ ap (λ (zs : List SizeRow). counted_in zs os) (sym (rows_are setup given m key bytes c uid gets.0 there.0 is has fault gets.1 there.1.0)) }
