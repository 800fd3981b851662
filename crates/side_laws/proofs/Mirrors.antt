-- What is counted changes as the claims of a world do.
use Rattle.std.proofs.Common.{◌≡◌, ℕ, List, [], ◌∷◌, Bool, true, false, cond, Option, Some, None, refl, sym, subst, ap, ◌∙◌, arith, true≢false, Less, Equal, Greater}
use Rattle.std.proofs.lemmas.Bool.Decides.{nat_tests}
use Rattle.std.proofs.lemmas.Cmp.{tied_itself}
use Rattle.std.specs.Prelude.{is_some, ◌==◌, ⊤}
use Rattle.std.specs.declared.cmp.Ordering.{Ordering}
use Rattle.std.specs.Ordering.{is_eq, match_ordering}
use Rattle.plain_data.specs.Rows.{IsAfter, find, put, without}
use Rattle.plain_data.proofs.RowFacts.{find_gap}
use Rattle.plain_data.proofs.RowLookups.{find-without_other}
use Rattle.kube_objects.specs.declared.key.Key.{Key}
use Rattle.kube_parts.specs.declared.uid.Uid.{Uid}
use Rattle.kube_objects.specs.declared.objects.Claim.{Claim as ClaimData}
use Rattle.kube_objects.specs.declared.objects.Pod.{Pod as PodData}
use Rattle.kube_objects.specs.declared.objects.Object.{Object}
use Rattle.kube_objects.specs.declared.objects.Object.TheVariants.{Class, Node, Volume, Claim, Pod}
use Rattle.kube_objects.specs.Keys.{AreRows, key_cmp, key_of, kind_index, kind_of, meta_of, put_row, row_at, without_row}
use Rattle.kube_objects.proofs.KeyOrder.{key_cmp_total, other_key, row_at_key, row_at-without_row}
use Rattle.call_types.specs.declared.request.Request.{Request}
use Rattle.call_types.specs.declared.reply.Change.{Change}
use Rattle.call_types.specs.declared.reply.Change.TheVariants.{Added, Modified, Deleted}
use Rattle.call_types.specs.declared.reply.Reply.{Reply}
use Rattle.call_types.specs.declared.reply.Reply.TheVariants as replies
use Rattle.side_calls.specs.declared.sizes.SizeRow.{SizeRow}
use Rattle.binder_model.specs.Answers.{Says, Stores, Removes, reply_of, after}
use Rattle.binder_model.specs.World.{World, Effect, OnStore, OnDevices, SetsMoment, effect, reply_to, world_after}
use Rattle.model_laws.specs.Calls.{IsSecondDelete}
use Rattle.model_laws.specs.Histories.{KeepsIdentity}
use Rattle.model_laws.proofs.Changes.{ChangeOf, IsInPlace, outcome_changes}
use Rattle.model_laws.proofs.Effects.{OnEffect, on_effects}
use Rattle.model_laws.proofs.Said.{IsOfDevices, Sayings, EffectSays, effect_said}
use Rattle.quota_rules.specs.declared.counted.Counted.{Counted}
use Rattle.quota_rules.specs.Counting.{AreCounted, counted_key, counted_of, noted, shares_uid, with_claim, with_object, without_object}
use Rattle.expand_ops.specs.Growing.{asked_by}
use Rattle.expand_ops.specs.Sizes.{kept_after, size_at, size_key, without_left}
use Rattle.side_model.specs.Sides.{counted_by, counted_in}
use Rattle.side_laws.specs.Mirrors.{HaveUids, NotesMirror, SizesStand}
use Rattle.side_laws.proofs.Bytes.{BytesOf, IsPutBytes, KeepsBytes, outcome_bytes}

pub some_is : {A : Type 0} (a b : A) → Some a ≡ Some b → a ≡ b
some_is a b e = cc

pub none_some : {A B : Type 0} (a : A) → None ≡ Some a → B
none_some a e = absurd (true≢false (sym (ap is_some e)))

abbrev claim_or : ClaimData → Object → ClaimData
claim_or d (Claim c) = c
claim_or d o = d

pub same_claim : (a b : ClaimData) → Claim a ≡ Claim b → a ≡ b
same_claim a b e = ap (claim_or a) e

-- an object that stands under the key of a claim is one
pub claim_there : (c : ClaimData) (o : Object) → key_of o ≡ key_of (Claim c) → (a : ClaimData) × (o ≡ Claim a)
claim_there c (Claim a) e = (a, refl)
claim_there c (Class a) e = absurd (let f = ap (λ (k : Key). kind_index k.kind) e in omega (arith, f))
claim_there c (Node a) e = absurd (let f = ap (λ (k : Key). kind_index k.kind) e in omega (arith, f))
claim_there c (Volume a) e = absurd (let f = ap (λ (k : Key). kind_index k.kind) e in omega (arith, f))
claim_there c (Pod a) e = absurd (let f = ap (λ (k : Key). kind_index k.kind) e in omega (arith, f))

-- a claim that is found is none of an object of another kind
pub skipped_row : (o : Object) (c : ClaimData) (rest : Option Object) (b : Bool) → (kind_index (kind_of o) ≡ kind_index (kind_of (Claim c)) → ⊥)
    → cond b (Some o) rest ≡ Some (Claim c) → rest ≡ Some (Claim c)
skipped_row o c rest true other e = absurd (other (ap kind_index (ap kind_of (some_is o (Claim c) e))))
skipped_row o c rest false other e = e

module _ (sizes : List SizeRow) where
  -- ---- what is found

  pub found : (key : Key) (c : ClaimData) (rows : List Object) → row_at key rows ≡ Some (Claim c) → find key_cmp counted_key key (counted_in sizes rows) ≡ Some (counted_by sizes c)
  found key c [] e = none_some (Claim c) e
  found key c (Claim y ∷ xs) e = by (is_eq (key_cmp (key_of (Claim y)) key)) e (found key c xs)
    where
      by : (b : Bool) → cond b (Some (Claim y)) (row_at key xs) ≡ Some (Claim c)
          → (row_at key xs ≡ Some (Claim c) → find key_cmp counted_key key (counted_in sizes xs) ≡ Some (counted_by sizes c))
          → cond b (Some (counted_by sizes y)) (find key_cmp counted_key key (counted_in sizes xs)) ≡ Some (counted_by sizes c)
      by true f rest = ap (λ (z : ClaimData). Some (counted_by sizes z)) (same_claim y c (some_is (Claim y) (Claim c) f))
      by false f rest = rest f
  found key c (Class y ∷ xs) e = found key c xs (skipped_row (Class y) c (row_at key xs) (is_eq (key_cmp (key_of (Class y)) key)) (λ k. omega (arith, k)) e)
  found key c (Node y ∷ xs) e = found key c xs (skipped_row (Node y) c (row_at key xs) (is_eq (key_cmp (key_of (Node y)) key)) (λ k. omega (arith, k)) e)
  found key c (Volume y ∷ xs) e = found key c xs (skipped_row (Volume y) c (row_at key xs) (is_eq (key_cmp (key_of (Volume y)) key)) (λ k. omega (arith, k)) e)
  found key c (Pod y ∷ xs) e = found key c xs (skipped_row (Pod y) c (row_at key xs) (is_eq (key_cmp (key_of (Pod y)) key)) (λ k. omega (arith, k)) e)

  pub if_none : (b : Bool) (x : Object) (rest : Option Object) → cond b (Some x) rest ≡ None → (b ≡ false) × (rest ≡ None)
  if_none true x rest e = absurd (true≢false (ap is_some e))
  if_none false x rest e = (refl, e)

  missing : (key : Key) (rows : List Object) → row_at key rows ≡ None → find key_cmp counted_key key (counted_in sizes rows) ≡ None
  missing key [] e = refl
  missing key (Claim y ∷ xs) e = let t = if_none (is_eq (key_cmp (key_of (Claim y)) key)) (Claim y) (row_at key xs) e in rw t.0 (missing key xs t.1)
  missing key (Class y ∷ xs) e = missing key xs (if_none (is_eq (key_cmp (key_of (Class y)) key)) (Class y) (row_at key xs) e).1
  missing key (Node y ∷ xs) e = missing key xs (if_none (is_eq (key_cmp (key_of (Node y)) key)) (Node y) (row_at key xs) e).1
  missing key (Volume y ∷ xs) e = missing key xs (if_none (is_eq (key_cmp (key_of (Volume y)) key)) (Volume y) (row_at key xs) e).1
  missing key (Pod y ∷ xs) e = missing key xs (if_none (is_eq (key_cmp (key_of (Pod y)) key)) (Pod y) (row_at key xs) e).1

  -- ---- a claim that is put

  none_after : (y : PodData) (xs : List Object) → IsAfter key_cmp key_of (Pod y) xs → counted_in sizes xs ≡ []
  none_after y [] a = refl
  none_after y (Claim z ∷ xs) a = absurd (let f : 2 ≡ 0 = ap place a.0 in omega (arith, f))
    where
      place : Ordering → ℕ
      place Less = 0
      place Equal = 1
      place Greater = 2
  none_after y (Class z ∷ xs) a = none_after y xs a.1
  none_after y (Node z ∷ xs) a = none_after y xs a.1
  none_after y (Volume z ∷ xs) a = none_after y xs a.1
  none_after y (Pod z ∷ xs) a = none_after y xs a.1

  put_claim : (c : ClaimData) (rows : List Object) → AreRows rows → counted_in sizes (put_row (Claim c) rows) ≡ put key_cmp counted_key (counted_by sizes c) (counted_in sizes rows)
  put_claim c [] r = refl
  put_claim c (Class y ∷ xs) r = put_claim c xs r.1
  put_claim c (Node y ∷ xs) r = put_claim c xs r.1
  put_claim c (Volume y ∷ xs) r = put_claim c xs r.1
  put_claim c (Claim y ∷ xs) r = by (key_cmp (key_of (Claim y)) (key_of (Claim c))) (put_claim c xs r.1)
    where
      by : (o : Ordering) → counted_in sizes (put_row (Claim c) xs) ≡ put key_cmp counted_key (counted_by sizes c) (counted_in sizes xs)
          → counted_in sizes (match_ordering o (Claim y ∷ put_row (Claim c) xs) (Claim c ∷ xs) (Claim c ∷ Claim y ∷ xs))
          ≡ match_ordering o (counted_by sizes y ∷ put key_cmp counted_key (counted_by sizes c) (counted_in sizes xs)) (counted_by sizes c ∷ counted_in sizes xs)
          (counted_by sizes c ∷ counted_by sizes y ∷ counted_in sizes xs)
      by Less rest = ap (λ zs. counted_by sizes y ∷ zs) rest
      by Equal rest = refl
      by Greater rest = refl
  put_claim c (Pod y ∷ xs) r = rw (none_after y xs r.0) refl

  counted_after : (x : Counted) (o : Object) → x.key ≡ key_of o → (os : List Object) → IsAfter key_cmp key_of o os → IsAfter key_cmp counted_key x (counted_in sizes os)
  counted_after x o e [] a = tt
  counted_after x o e (Class y ∷ os) a = counted_after x o e os a.1
  counted_after x o e (Node y ∷ os) a = counted_after x o e os a.1
  counted_after x o e (Volume y ∷ os) a = counted_after x o e os a.1
  counted_after x o e (Claim y ∷ os) a = (rw e a.0, counted_after x o e os a.1)
  counted_after x o e (Pod y ∷ os) a = counted_after x o e os a.1

  counted_rise : (rows : List Object) → AreRows rows → AreCounted (counted_in sizes rows)
  counted_rise [] r = tt
  counted_rise (Class y ∷ os) r = counted_rise os r.1
  counted_rise (Node y ∷ os) r = counted_rise os r.1
  counted_rise (Volume y ∷ os) r = counted_rise os r.1
  counted_rise (Claim y ∷ os) r = (counted_after (counted_by sizes y) (Claim y) refl os r.0, counted_rise os r.1)
  counted_rise (Pod y ∷ os) r = counted_rise os r.1

  -- ---- an object that is no claim

  record IsOther (o : Object) : Type 0 where
    skipped : (zs : List Object) → counted_in sizes (o ∷ zs) ≡ counted_in sizes zs
    apart : (y : ClaimData) → is_eq (key_cmp (key_of (Claim y)) (key_of o)) ≡ false

  abbrev Skips : Object → Type 0
  Skips y = (zs : List Object) → counted_in sizes (y ∷ zs) ≡ counted_in sizes zs

  put_past : (o y : Object) → IsOther o → Skips y → (xs : List Object) (r : Ordering) → counted_in sizes (put_row o xs) ≡ counted_in sizes xs
      → counted_in sizes (match_ordering r (y ∷ put_row o xs) (o ∷ xs) (o ∷ y ∷ xs)) ≡ counted_in sizes xs
  put_past o y is skips xs Less rest = skips (put_row o xs) ∙ rest
  put_past o y is skips xs Equal rest = is.skipped xs
  put_past o y is skips xs Greater rest = is.skipped (y ∷ xs) ∙ skips xs

  without_past : (o y : Object) → Skips y → (xs : List Object) (b : Bool) → counted_in sizes (without_row (key_of o) xs) ≡ counted_in sizes xs
      → counted_in sizes (cond b xs (y ∷ without_row (key_of o) xs)) ≡ counted_in sizes xs
  without_past o y skips xs true rest = refl
  without_past o y skips xs false rest = skips (without_row (key_of o) xs) ∙ rest

  put_other : (o : Object) → IsOther o → (rows : List Object) → counted_in sizes (put_row o rows) ≡ counted_in sizes rows
  put_other o is [] = is.skipped []
  put_other o is (Claim y ∷ xs) = by (key_cmp (key_of (Claim y)) (key_of o)) (is.apart y) (put_other o is xs)
    where
      by : (r : Ordering) → is_eq r ≡ false → counted_in sizes (put_row o xs) ≡ counted_in sizes xs
          → counted_in sizes (match_ordering r (Claim y ∷ put_row o xs) (o ∷ xs) (o ∷ Claim y ∷ xs)) ≡ counted_by sizes y ∷ counted_in sizes xs
      by Less e rest = ap (λ zs. counted_by sizes y ∷ zs) rest
      by Equal e rest = absurd (true≢false e)
      by Greater e rest = is.skipped (Claim y ∷ xs)
  put_other o is (Class y ∷ xs) = put_past o (Class y) is (λ zs. refl) xs (key_cmp (key_of (Class y)) (key_of o)) (put_other o is xs)
  put_other o is (Node y ∷ xs) = put_past o (Node y) is (λ zs. refl) xs (key_cmp (key_of (Node y)) (key_of o)) (put_other o is xs)
  put_other o is (Volume y ∷ xs) = put_past o (Volume y) is (λ zs. refl) xs (key_cmp (key_of (Volume y)) (key_of o)) (put_other o is xs)
  put_other o is (Pod y ∷ xs) = put_past o (Pod y) is (λ zs. refl) xs (key_cmp (key_of (Pod y)) (key_of o)) (put_other o is xs)

  without_other : (o : Object) → IsOther o → (rows : List Object) → counted_in sizes (without_row (key_of o) rows) ≡ counted_in sizes rows
  without_other o is [] = refl
  without_other o is (Claim y ∷ xs) = rw (is.apart y) (ap (λ zs. counted_by sizes y ∷ zs) (without_other o is xs))
  without_other o is (Class y ∷ xs) = without_past o (Class y) (λ zs. refl) xs (is_eq (key_cmp (key_of (Class y)) (key_of o))) (without_other o is xs)
  without_other o is (Node y ∷ xs) = without_past o (Node y) (λ zs. refl) xs (is_eq (key_cmp (key_of (Node y)) (key_of o))) (without_other o is xs)
  without_other o is (Volume y ∷ xs) = without_past o (Volume y) (λ zs. refl) xs (is_eq (key_cmp (key_of (Volume y)) (key_of o))) (without_other o is xs)
  without_other o is (Pod y ∷ xs) = without_past o (Pod y) (λ zs. refl) xs (is_eq (key_cmp (key_of (Pod y)) (key_of o))) (without_other o is xs)

  -- ---- a claim that leaves

  without_claim : (c : ClaimData) (rows : List Object) → counted_in sizes (without_row (key_of (Claim c)) rows) ≡ without key_cmp counted_key (key_of (Claim c)) (counted_in sizes rows)
  without_claim c [] = refl
  without_claim c (Class y ∷ xs) = without_claim c xs
  without_claim c (Node y ∷ xs) = without_claim c xs
  without_claim c (Volume y ∷ xs) = without_claim c xs
  without_claim c (Claim y ∷ xs) = by (is_eq (key_cmp (key_of (Claim y)) (key_of (Claim c)))) (without_claim c xs)
    where
      by : (b : Bool) → counted_in sizes (without_row (key_of (Claim c)) xs) ≡ without key_cmp counted_key (key_of (Claim c)) (counted_in sizes xs)
          → counted_in sizes (cond b xs (Claim y ∷ without_row (key_of (Claim c)) xs))
          ≡ cond b (counted_in sizes xs) (counted_by sizes y ∷ without key_cmp counted_key (key_of (Claim c)) (counted_in sizes xs))
      by true rest = refl
      by false rest = ap (λ zs. counted_by sizes y ∷ zs) rest
  without_claim c (Pod y ∷ xs) = without_claim c xs

-- the sizes of another claim do not matter to those that stand
module _ (sizes : List SizeRow) (k : Key) where
  pub apart_back : (j : Key) → is_eq (key_cmp j k) ≡ false → is_eq (key_cmp k j) ≡ false
  apart_back j e = other_key k j (λ same. true≢false (sym itself ∙ at_itself same))
    where
      itself : is_eq (key_cmp k k) ≡ true
      itself = ap is_eq (tied_itself key_cmp_total k)

      at_itself : k ≡ j → is_eq (key_cmp k k) ≡ false
      at_itself same = subst (λ (z : Key). is_eq (key_cmp z k) ≡ false) (sym same) e

  same_by : (y : ClaimData) → is_eq (key_cmp (key_of (Claim y)) k) ≡ false → counted_by (without key_cmp size_key k sizes) y ≡ counted_by sizes y
  same_by y e =
      let kept = find-without_other key_cmp_total size_key k (key_of (Claim y)) sizes (apart_back (key_of (Claim y)) e) in
      ap (λ (x : Option SizeRow). record { key = key_of (Claim y); claim = y.meta.uid; asked = asked_by x y }) kept

  dropped : (rows : List Object) → row_at k rows ≡ None → counted_in (without key_cmp size_key k sizes) rows ≡ counted_in sizes rows
  dropped [] e = refl
  dropped (Class y ∷ xs) e = dropped xs (if_none sizes (is_eq (key_cmp (key_of (Class y)) k)) (Class y) (row_at k xs) e).1
  dropped (Node y ∷ xs) e = dropped xs (if_none sizes (is_eq (key_cmp (key_of (Node y)) k)) (Node y) (row_at k xs) e).1
  dropped (Volume y ∷ xs) e = dropped xs (if_none sizes (is_eq (key_cmp (key_of (Volume y)) k)) (Volume y) (row_at k xs) e).1
  dropped (Pod y ∷ xs) e = dropped xs (if_none sizes (is_eq (key_cmp (key_of (Pod y)) k)) (Pod y) (row_at k xs) e).1
  dropped (Claim y ∷ xs) e =
      let t = if_none sizes (is_eq (key_cmp (key_of (Claim y)) k)) (Claim y) (row_at k xs) e in
      ap (λ z. z ∷ counted_in (without key_cmp size_key k sizes) xs) (same_by y t.0) ∙ ap (λ zs. counted_by sizes y ∷ zs) (dropped xs t.1)

-- ---- one call

put_same : (x : Counted) (xs : List Counted) → AreCounted xs → find key_cmp counted_key x.key xs ≡ Some x → put key_cmp counted_key x xs ≡ xs
put_same x [] r e = none_some x e
put_same x (y ∷ ys) r e = by (key_cmp y.key x.key) refl e (put_same x ys r.1)
  where
    by : (o : Ordering) → key_cmp y.key x.key ≡ o → cond (is_eq o) (Some y) (find key_cmp counted_key x.key ys) ≡ Some x
        → (find key_cmp counted_key x.key ys ≡ Some x → put key_cmp counted_key x ys ≡ ys)
        → match_ordering o (y ∷ put key_cmp counted_key x ys) (x ∷ ys) (x ∷ y ∷ ys) ≡ y ∷ ys
    by Less o f rest = ap (λ zs. y ∷ zs) (rest f)
    by Equal o f rest = ap (λ z. z ∷ ys) (sym (some_is y x f))
    by Greater o f rest = none_some x (sym (find_gap key_cmp_total counted_key x.key (y ∷ ys) 0 r o) ∙ e)

pub itself : (u : Uid) → (u.0 == u.0) ≡ true
itself u = grind (arith, nat_tests)

pub shares_itself : (uid other : Option Uid) (u : Uid) → uid ≡ Some u → other ≡ uid → shares_uid uid other ≡ true
shares_itself uid other u e same = rw (same, e) (itself u)

module _ (w : World) (sizes : List SizeRow) (order : AreRows w.store.rows) (uids : HaveUids w.store.rows) (stand : SizesStand sizes w.store.rows) where
  -- a claim that is counted is counted no second time
  again : (c a : ClaimData) → row_at (key_of (Claim c)) w.store.rows ≡ Some (Claim a) → c.meta.uid ≡ a.meta.uid
      → with_claim c (counted_in sizes w.store.rows) ≡ counted_in sizes w.store.rows
  again c a is same =
      let has = uids (key_of (Claim c)) (Claim a) is in
      let here : find key_cmp counted_key (key_of (Claim c)) (counted_in sizes w.store.rows) ≡ Some (counted_by sizes a) = found sizes (key_of (Claim c)) a w.store.rows is in
      let shares : shares_uid a.meta.uid c.meta.uid ≡ true = shares_itself a.meta.uid c.meta.uid has.0 has.1 same in
      rw (here, shares) refl

  -- none of a new key has grown
  ungrown : (c : ClaimData) → row_at (key_of (Claim c)) w.store.rows ≡ None → counted_by sizes c ≡ counted_of c
  ungrown c none = by (size_at (key_of (Claim c)) sizes) refl
    where
      by : (x : Option SizeRow) → size_at (key_of (Claim c)) sizes ≡ x → counted_by sizes c ≡ counted_of c
      by None e = rw e refl
      by (Some x) e = let t = stand (key_of (Claim c)) x e in none_some (Claim t.0) (sym none ∙ t.1.0)

  -- another version of a claim is counted alike
  alike : (c a : ClaimData) → key_of (Claim a) ≡ key_of (Claim c) → c.meta.uid ≡ a.meta.uid → c.amount.bytes ≡ a.amount.bytes → counted_by sizes c ≡ counted_by sizes a
  alike c a key uid bytes = by (size_at (key_of (Claim c)) sizes) refl
    where
      by : (x : Option SizeRow) → size_at (key_of (Claim c)) sizes ≡ x → counted_by sizes c ≡ counted_by sizes a
      by None e = let f : size_at (key_of (Claim a)) sizes ≡ None = ap (λ k. size_at k sizes) key ∙ e in rw (e, f, key, uid, bytes) refl
      by (Some x) e = let f : size_at (key_of (Claim a)) sizes ≡ Some x = ap (λ k. size_at k sizes) key ∙ e in rw (e, f, key, uid) refl

  class_other : (x : _) → IsOther sizes (Class x)
  class_other x = record { skipped = λ zs. refl; apart = λ y. refl }

  node_other : (x : _) → IsOther sizes (Node x)
  node_other x = record { skipped = λ zs. refl; apart = λ y. refl }

  volume_other : (x : _) → IsOther sizes (Volume x)
  volume_other x = record { skipped = λ zs. refl; apart = λ y. refl }

  pod_other : (x : _) → IsOther sizes (Pod x)
  pod_other x = record { skipped = λ zs. refl; apart = λ y. refl }

  -- a new object
  added : (o : Object) → row_at (key_of o) w.store.rows ≡ None → with_object o (counted_in sizes w.store.rows) ≡ counted_in sizes (put_row o w.store.rows)
  added (Claim c) none =
      let here = missing sizes (key_of (Claim c)) w.store.rows none in
      let same = ungrown c none in
      let puts = put_claim sizes c w.store.rows order in
      rw here (sym (puts ∙ ap (λ z. put key_cmp counted_key z (counted_in sizes w.store.rows)) same))
  added (Class x) none = sym (put_other sizes (Class x) (class_other x) w.store.rows)
  added (Node x) none = sym (put_other sizes (Node x) (node_other x) w.store.rows)
  added (Volume x) none = sym (put_other sizes (Volume x) (volume_other x) w.store.rows)
  added (Pod x) none = sym (put_other sizes (Pod x) (pod_other x) w.store.rows)

  -- an object over an old one
  over_claim : (c : ClaimData) (old : Object) → row_at (key_of (Claim c)) w.store.rows ≡ Some old → KeepsIdentity old (Claim c) → KeepsBytes old (Claim c)
      → with_claim c (counted_in sizes w.store.rows) ≡ counted_in sizes (put_row (Claim c) w.store.rows)
  over_claim c old is keeps bytes = by (claim_there c old (row_at_key (key_of (Claim c)) old w.store.rows is))
    where
      by : (a : ClaimData) × (old ≡ Claim a) → with_claim c (counted_in sizes w.store.rows) ≡ counted_in sizes (put_row (Claim c) w.store.rows)
      by t =
          let a = t.0 in
          let at : row_at (key_of (Claim c)) w.store.rows ≡ Some (Claim a) = is ∙ ap (λ (z : Object). Some z) t.1 in
          let key : key_of (Claim a) ≡ key_of (Claim c) = row_at_key (key_of (Claim c)) (Claim a) w.store.rows at in
          let uid : c.meta.uid ≡ a.meta.uid = keeps.uid ∙ ap (λ (z : Object). (meta_of z).uid) t.1 in
          let size : KeepsBytes (Claim a) (Claim c) = subst (λ (z : Object). KeepsBytes z (Claim c)) t.1 bytes in
          let same = alike c a key uid size in
          let here = found sizes (key_of (Claim c)) a w.store.rows at in
          let stays = put_same (counted_by sizes c) (counted_in sizes w.store.rows) (counted_rise sizes w.store.rows order) (here ∙ ap (λ (z : Counted). Some z) (sym same)) in
          again c a at uid ∙ sym (put_claim sizes c w.store.rows order ∙ stays)

  over_any : (o old : Object) → row_at (key_of o) w.store.rows ≡ Some old → KeepsIdentity old o → KeepsBytes old o
      → with_object o (counted_in sizes w.store.rows) ≡ counted_in sizes (put_row o w.store.rows)
  over_any (Claim c) old is keeps bytes = over_claim c old is keeps bytes
  over_any (Class x) old is keeps bytes = sym (put_other sizes (Class x) (class_other x) w.store.rows)
  over_any (Node x) old is keeps bytes = sym (put_other sizes (Node x) (node_other x) w.store.rows)
  over_any (Volume x) old is keeps bytes = sym (put_other sizes (Volume x) (volume_other x) w.store.rows)
  over_any (Pod x) old is keeps bytes = sym (put_other sizes (Pod x) (pod_other x) w.store.rows)

  stored : (change : Change) (o : Object) → IsInPlace w.store.rows change o → IsPutBytes w.store.rows change o
      → with_object o (counted_in sizes w.store.rows) ≡ counted_in sizes (put_row o w.store.rows)
  stored Added o place bytes = added o place
  stored Modified o place bytes =
      let same : bytes.0 ≡ place.0 = some_is bytes.0 place.0 (sym bytes.1.0 ∙ place.1.0) in
      over_any o place.0 place.1.0 place.1.1 (subst (λ (z : Object). KeepsBytes z o) same bytes.1.1)
  stored Deleted o place bytes =
      let same : bytes.0 ≡ place.0 = some_is bytes.0 place.0 (sym bytes.1.0 ∙ place.1.0) in
      over_any o place.0 place.1.0 place.1.1 (subst (λ (z : Object). KeepsBytes z o) same bytes.1.1)

  -- an object that leaves
  removed : (o : Object) → without_object o (counted_in sizes w.store.rows) ≡ counted_in (without_left o sizes) (without_row (key_of o) w.store.rows)
  removed (Claim c) =
      sym (dropped sizes (key_of (Claim c)) (without_row (key_of (Claim c)) w.store.rows) (row_at-without_row (key_of (Claim c)) w.store.rows order) ∙ without_claim sizes c w.store.rows)
  removed (Class x) = sym (without_other sizes (Class x) (class_other x) w.store.rows)
  removed (Node x) = sym (without_other sizes (Node x) (node_other x) w.store.rows)
  removed (Volume x) = sym (without_other sizes (Volume x) (volume_other x) w.store.rows)
  removed (Pod x) = sym (without_other sizes (Pod x) (pod_other x) w.store.rows)

  -- what is said without a write
  second : (o : Object) → row_at (key_of o) w.store.rows ≡ Some o → with_object o (counted_in sizes w.store.rows) ≡ counted_in sizes w.store.rows
  second (Claim c) is = again c c is refl
  second (Class x) is = refl
  second (Node x) is = refl
  second (Volume x) is = refl
  second (Pod x) is = refl

  abbrev IsQuiet : Request → Reply → Type 0
  IsQuiet request (replies.Done o) = row_at (key_of o) w.store.rows ≡ Some o
  IsQuiet request (replies.Left o) = ⊥
  IsQuiet request reply = ⊤

  quiet_devices : (request : Request) (reply : Reply) → IsOfDevices reply → IsQuiet request reply
  quiet_devices request (replies.Done o) is = absurd is
  quiet_devices request (replies.Left o) is = absurd is
  quiet_devices request reply is = tt

  second_stands : (request : Request) (o : Object) → IsSecondDelete w request o → row_at (key_of o) w.store.rows ≡ Some o
  second_stands request o s = ap (λ k. row_at k w.store.rows) (row_at_key s.key o w.store.rows s.there) ∙ s.there

  quiet : (request : Request) → Sayings w request (IsQuiet request)
  quiet request = record {
    refused = λ r. tt;
    again = λ o s. second_stands request o s;
    found = λ key o is. tt;
    listed = λ k namespace. tt;
    watched = λ k from. tt;
    timed = tt;
    device = quiet_devices request;
  }

  silent : (request : Request) (reply : Reply) → IsQuiet request reply → noted reply (counted_in sizes w.store.rows) ≡ counted_in (kept_after reply sizes) w.store.rows
  silent request (replies.Done o) is = second o is
  silent request (replies.Left o) is = absurd is
  silent request reply is = refl

  by_effect : (request : Request) (x : Effect) → OnEffect (ChangeOf w.store.rows) x → OnEffect (BytesOf w.store.rows) x → EffectSays (IsQuiet request) x
      → noted (reply_to x) (counted_in sizes w.store.rows) ≡ counted_in (kept_after (reply_to x) sizes) (world_after w x).store.rows
  unfolding reply_to reply_of world_after after
  by_effect request (OnStore (Says reply)) place bytes said = silent request reply said
  by_effect request (OnStore (Stores change o)) place bytes said = stored change o place.on bytes.on
  by_effect request (OnStore (Removes o)) place bytes said = removed o
  by_effect request (OnDevices a) place bytes said = silent request a.reply said.1
  by_effect request (SetsMoment at) place bytes said = refl

pub notes_mirror : NotesMirror
notes_mirror setup w kind request sizes order uids stand =
    by_effect w sizes order uids stand request (effect setup w kind request)
    (on_effects (λ r. tt) setup w kind request (λ stale. outcome_changes w.store kind request w.moment stale))
    (on_effects (λ r. tt) setup w kind request (λ stale. outcome_bytes w.store kind request w.moment stale))
    ((effect_said setup w kind request (quiet w sizes order uids stand request)).said)
