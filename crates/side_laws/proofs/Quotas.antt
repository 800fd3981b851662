-- At each step of a fair run the use of a namespace stays below its quota, or falls, or stays.
use Rattle.std.proofs.Common.{◌≡◌, ℕ, zero, suc, ◌+◌, ◌≤◌, List, [], ◌∷◌, Bool, true, false, cond, Option, Some, None, inl, inr, refl, sym, subst, ap, ◌∙◌, arith, true≢false}
use Rattle.std.proofs.lemmas.Bool.Decides.{nat_tests}
use Rattle.std.proofs.lemmas.Slice.Eq.{bytes_eq-Decides}
use Rattle.std.specs.Prelude.{nat_lt, bytes_eq, is_some}
use Rattle.plain_data.specs.Rows.{find, put, without}
use Rattle.plain_data.proofs.RowLookups.{find-put, find-put_other}
use Rattle.std.specs.Ordering.{is_eq}
use Rattle.kube_objects.specs.declared.key.Key.{Key}
use Rattle.kube_objects.specs.declared.objects.Claim.{Claim as ClaimData}
use Rattle.kube_objects.specs.declared.objects.Object.{Object}
use Rattle.kube_objects.specs.declared.objects.Object.TheVariants.{Class, Node, Volume, Claim, Pod}
use Rattle.kube_objects.specs.Keys.{AreRows, key_cmp, key_of, row_at, without_row}
use Rattle.kube_objects.proofs.KeyOrder.{key_cmp_total, row_at-without_row}
use Rattle.call_types.specs.declared.reply.Reply.{Reply}
use Rattle.call_types.specs.declared.reply.Reply.TheVariants.{Done, Left}
use Rattle.side_calls.specs.declared.quotas.OverQuota.TheVariants.{OverBytes, OverClaims}
use Rattle.side_calls.specs.declared.quotas.Quota.{Quota}
use Rattle.side_calls.specs.declared.quotas.Used.{Used}
use Rattle.quota_rules.specs.declared.counted.Counted.{Counted}
use Rattle.quota_rules.specs.Counting.{counted_key, counted_of, is_same_claim, noted, with_claim}
use Rattle.quota_rules.specs.Using.{Tally, bytes_by, claims_by, if_in, over_in, over_quota, quota_of, used_by}
use Rattle.side_calls.specs.declared.sizes.SizeRow.{SizeRow}
use Rattle.side_calls.specs.declared.sizes.SizeStep.{SizeStep}
use Rattle.side_calls.specs.declared.sizes.StepKind.{StepKind}
use Rattle.side_calls.specs.declared.sizes.StepKind.TheVariants as kinds
use Rattle.expand_ops.specs.Growing.{asked_by}
use Rattle.expand_ops.specs.Sizes.{after_step, changed_at, made, size_at, size_key}
use Rattle.expand_ops.proofs.Turns.{made_key}
use Rattle.side_model.specs.Answers.{held_by}
use Rattle.side_model.specs.Sides.{counted_by, counted_in}
use Rattle.side_laws.proofs.Mirrors.{apart_back, if_none, none_some, same_claim, skipped_row, some_is}
use Rattle.side_model.specs.Within.{IsKept}
use Rattle.side_laws.proofs.Sums.{put_bytes, put_claims, without_bytes, without_claims}

pub no_less : (used later limit first : ℕ) → later ≤ used → IsKept used limit first → IsKept later limit first
no_less used later limit first le (inl a) = inl (omega (arith, le, a))
no_less used later limit first le (inr a) = inr (omega (arith, le, a))

-- what a use and more of it come to, where nothing stands against them
record FitsQuota (q : Quota) (used more : Used) : Type 0 where
  bytes : used.bytes + more.bytes ≤ q.bytes
  claims : used.claims + more.claims ≤ q.claims

no_some : {A B : Type 0} (a : A) → Some a ≡ None → B
no_some a e = absurd (true≢false (ap is_some e))

fits : (q : Quota) (used more : Used) → over_quota (Some q) used more ≡ None → FitsQuota q used more
fits q used more e = by (nat_lt q.bytes (used.bytes + more.bytes)) (nat_lt q.claims (used.claims + more.claims)) refl refl e
  where
    by : (a b : Bool) → nat_lt q.bytes (used.bytes + more.bytes) ≡ a → nat_lt q.claims (used.claims + more.claims) ≡ b
        → cond a (Some (OverBytes used.bytes q.bytes)) (cond b (Some (OverClaims used.claims q.claims)) None) ≡ None → FitsQuota q used more
    by true b ea eb f = no_some _ f
    by false true ea eb f = no_some _ f
    by false false ea eb f = record { bytes = grind (arith, nat_tests); claims = grind (arith, nat_tests) }

-- what a call of the world makes of the use of a namespace
module _ (q : Quota) (t : Tally) (has : quota_of q.namespace t.quotas ≡ Some q) (bytes claims : ℕ) where
  abbrev pub Kept : List Counted → Type 0
  Kept xs = IsKept (bytes_by q.namespace xs) q.bytes bytes × IsKept (claims_by q.namespace xs) q.claims claims

  over_none : (c : ClaimData) → held_by t (Claim c) ≡ None → over_in t c.meta.namespace (record { bytes = c.amount.bytes; claims = 1 }) ≡ None
  over_none c e = e

  put_kept : (c : ClaimData) → held_by t (Claim c) ≡ None → Kept t.counted → Kept (put key_cmp counted_key (counted_of c) t.counted)
  put_kept c passes kept =
      by (bytes_eq c.meta.namespace q.namespace) refl (put_bytes q.namespace (counted_of c) t.counted) (put_claims q.namespace (counted_of c) t.counted)
    where
      by : (b : Bool) → bytes_eq c.meta.namespace q.namespace ≡ b
          → bytes_by q.namespace (put key_cmp counted_key (counted_of c) t.counted) ≤ bytes_by q.namespace t.counted + if_in q.namespace c.meta.namespace c.amount.bytes
          → claims_by q.namespace (put key_cmp counted_key (counted_of c) t.counted) ≤ claims_by q.namespace t.counted + if_in q.namespace c.meta.namespace 1
          → Kept (put key_cmp counted_key (counted_of c) t.counted)
      by false e more one =
          let z : if_in q.namespace c.meta.namespace c.amount.bytes ≡ 0 = ap (λ (b : Bool). cond b c.amount.bytes 0) e in
          let y : if_in q.namespace c.meta.namespace 1 ≡ 0 = ap (λ (b : Bool). cond b 1 0) e in
          (no_less (bytes_by q.namespace t.counted) _ q.bytes bytes (omega (arith, more, z)) kept.0, no_less (claims_by q.namespace t.counted) _ q.claims claims (omega (arith, one, y)) kept.1)
      by true e more one =
          let same : c.meta.namespace ≡ q.namespace = (bytes_eq-Decides c.meta.namespace q.namespace).0 e in
          let f : over_in t q.namespace (record { bytes = c.amount.bytes; claims = 1 }) ≡ None =
          ap (λ (n : List ℕ). over_in t n (record { bytes = c.amount.bytes; claims = 1 })) (sym same) ∙ over_none c passes in
          let g : over_quota (Some q) (used_by q.namespace t.counted) (record { bytes = c.amount.bytes; claims = 1 }) ≡ None =
          ap (λ (x : Option Quota). over_quota x (used_by q.namespace t.counted) (record { bytes = c.amount.bytes; claims = 1 })) (sym has) ∙ f in
          let fit = fits q (used_by q.namespace t.counted) (record { bytes = c.amount.bytes; claims = 1 }) g in
          let low = fit.bytes in
          let few = fit.claims in
          let z : if_in q.namespace c.meta.namespace c.amount.bytes ≡ c.amount.bytes = ap (λ (b : Bool). cond b c.amount.bytes 0) e in
          let y : if_in q.namespace c.meta.namespace 1 ≡ 1 = ap (λ (b : Bool). cond b 1 0) e in
          (inl (omega (arith, more, z, low)), inl (omega (arith, one, y, few)))

  claim_kept : (c : ClaimData) → (is_same_claim (find key_cmp counted_key (key_of (Claim c)) t.counted) c.meta.uid ≡ false → held_by t (Claim c) ≡ None) → Kept t.counted
      → Kept (with_claim c t.counted)
  claim_kept c new kept = by (is_same_claim (find key_cmp counted_key (key_of (Claim c)) t.counted) c.meta.uid) refl
    where
      by : (b : Bool) → is_same_claim (find key_cmp counted_key (key_of (Claim c)) t.counted) c.meta.uid ≡ b → Kept (cond b t.counted (put key_cmp counted_key (counted_of c) t.counted))
      by true e = kept
      by false e = put_kept c (new e) kept

  left_kept : (c : ClaimData) → Kept t.counted → Kept (without key_cmp counted_key (key_of (Claim c)) t.counted)
  left_kept c kept = (
    no_less (bytes_by q.namespace t.counted) _ q.bytes bytes (without_bytes q.namespace (key_of (Claim c)) t.counted) kept.0,
    no_less (claims_by q.namespace t.counted) _ q.claims claims (without_claims q.namespace (key_of (Claim c)) t.counted) kept.1,
  )

  pub noted_kept : (reply : Reply)
      → ((c : ClaimData) → reply ≡ Done (Claim c) → is_same_claim (find key_cmp counted_key (key_of (Claim c)) t.counted) c.meta.uid ≡ false → held_by t (Claim c) ≡ None)
      → Kept t.counted → Kept (noted reply t.counted)
  noted_kept (Done (Claim c)) new kept = claim_kept c (new c refl) kept
  noted_kept (Done (Class x)) new kept = kept
  noted_kept (Done (Node x)) new kept = kept
  noted_kept (Done (Volume x)) new kept = kept
  noted_kept (Done (Pod x)) new kept = kept
  noted_kept (Left (Claim c)) new kept = left_kept c kept
  noted_kept (Left (Class x)) new kept = kept
  noted_kept (Left (Node x)) new kept = kept
  noted_kept (Left (Volume x)) new kept = kept
  noted_kept (Left (Pod x)) new kept = kept
  noted_kept reply new kept = kept

-- ---- growth

-- how many claims there are does not depend on their sizes
pub claims_same : (namespace : List ℕ) (a b : List SizeRow) (rows : List Object) → claims_by namespace (counted_in a rows) ≡ claims_by namespace (counted_in b rows)
claims_same namespace a b [] = refl
claims_same namespace a b (Class y ∷ xs) = claims_same namespace a b xs
claims_same namespace a b (Node y ∷ xs) = claims_same namespace a b xs
claims_same namespace a b (Volume y ∷ xs) = claims_same namespace a b xs
claims_same namespace a b (Claim y ∷ xs) = ap (λ n. if_in namespace y.meta.namespace 1 + n) (claims_same namespace a b xs)
claims_same namespace a b (Pod y ∷ xs) = claims_same namespace a b xs

-- rows in which each claim asks alike
counted_alike : (a b : List SizeRow) → ((c : ClaimData) → asked_by (size_at (key_of (Claim c)) a) c ≡ asked_by (size_at (key_of (Claim c)) b) c) → (rows : List Object)
    → counted_in a rows ≡ counted_in b rows
counted_alike a b same [] = refl
counted_alike a b same (Class y ∷ xs) = counted_alike a b same xs
counted_alike a b same (Node y ∷ xs) = counted_alike a b same xs
counted_alike a b same (Volume y ∷ xs) = counted_alike a b same xs
counted_alike a b same (Claim y ∷ xs) =
    ap (λ (n : ℕ). (record { key = key_of (Claim y); claim = y.meta.uid; asked = n }) ∷ counted_in a xs) (same y) ∙ ap (λ zs. counted_by b y ∷ zs) (counted_alike a b same xs)
counted_alike a b same (Pod y ∷ xs) = counted_alike a b same xs

made_asked : (k : StepKind) (n : ℕ) (x : SizeRow) → (made k n x).asked ≡ x.asked
made_asked kinds.Data n x = refl
made_asked kinds.Volume n x = refl
made_asked kinds.Given n x = refl

-- a step leaves what is asked
changed_asked : (k : StepKind) (n : ℕ) (key : Key) (c : ClaimData) (xs : List SizeRow) (i : ℕ) → asked_by (size_at key (changed_at i (made k n) xs)) c ≡ asked_by (size_at key xs) c
changed_asked k n key c [] i = refl
changed_asked k n key c (x ∷ xs) zero = ap (λ (j : Key). asked_by (cond (is_eq (key_cmp j key)) (Some (made k n x)) (size_at key xs)) c) (made_key k n x) ∙ by (is_eq (key_cmp x.key key))
  where
    by : (b : Bool) → asked_by (cond b (Some (made k n x)) (size_at key xs)) c ≡ asked_by (cond b (Some x) (size_at key xs)) c
    by true = made_asked k n x
    by false = refl
changed_asked k n key c (x ∷ xs) (suc i) = by (is_eq (key_cmp x.key key)) (changed_asked k n key c xs i)
  where
    by : (b : Bool) → asked_by (size_at key (changed_at i (made k n) xs)) c ≡ asked_by (size_at key xs) c
        → asked_by (cond b (Some x) (size_at key (changed_at i (made k n) xs))) c ≡ asked_by (cond b (Some x) (size_at key xs)) c
    by true rest = refl
    by false rest = rest

pub step_alike : (s : Option SizeStep) (sizes : List SizeRow) (rows : List Object) → counted_in (after_step s sizes) rows ≡ counted_in sizes rows
step_alike None sizes rows = refl
step_alike (Some s) sizes rows = counted_alike (changed_at s.place (made s.kind s.bytes) sizes) sizes (λ c. changed_asked s.kind s.bytes (key_of (Claim c)) c sizes s.place) rows

-- a row that is put changes what the claim of its key asks, and no other
module _ (namespace : List ℕ) (sizes : List SizeRow) (row : SizeRow) where
  -- what counts with the row, and what a claim asks for with it and without it
  abbrev grown : List Object → List Counted
  grown rows = counted_in (put key_cmp size_key row sizes) rows

  abbrev grown_asked : ClaimData → ℕ
  grown_asked y = asked_by (size_at (key_of (Claim y)) (put key_cmp size_key row sizes)) y

  abbrev old_asked : ClaimData → ℕ
  old_asked y = asked_by (size_at (key_of (Claim y)) sizes) y

  pub other_asked : (y : ClaimData) → is_eq (key_cmp (key_of (Claim y)) row.key) ≡ false
      → grown_asked y ≡ old_asked y
  other_asked y e = ap (λ (o : Option SizeRow). asked_by o y) (find-put_other key_cmp_total size_key (key_of (Claim y)) row sizes (apart_back [] row.key (key_of (Claim y)) e))

  pub without_it : (rows : List Object) → row_at row.key rows ≡ None → grown rows ≡ counted_in sizes rows
  without_it [] e = refl
  without_it (Class y ∷ xs) e = without_it xs (if_none [] (is_eq (key_cmp (key_of (Class y)) row.key)) (Class y) (row_at row.key xs) e).1
  without_it (Node y ∷ xs) e = without_it xs (if_none [] (is_eq (key_cmp (key_of (Node y)) row.key)) (Node y) (row_at row.key xs) e).1
  without_it (Volume y ∷ xs) e = without_it xs (if_none [] (is_eq (key_cmp (key_of (Volume y)) row.key)) (Volume y) (row_at row.key xs) e).1
  without_it (Pod y ∷ xs) e = without_it xs (if_none [] (is_eq (key_cmp (key_of (Pod y)) row.key)) (Pod y) (row_at row.key xs) e).1
  without_it (Claim y ∷ xs) e =
      let t = if_none [] (is_eq (key_cmp (key_of (Claim y)) row.key)) (Claim y) (row_at row.key xs) e in
      ap (λ (n : ℕ). (record { key = key_of (Claim y); claim = y.meta.uid; asked = n }) ∷ grown xs) (other_asked y t.0)
      ∙ ap (λ zs. counted_by sizes y ∷ zs) (without_it xs t.1)

  module _ (c : ClaimData) (at : key_of (Claim c) ≡ row.key) (more : ℕ) (asks : row.asked ≤ old_asked c + more) where
    pub own_asked : grown_asked c ≡ row.asked
    own_asked = ap (λ (k : Key). asked_by (size_at k (put key_cmp size_key row sizes)) c) at ∙ ap (λ (o : Option SizeRow). asked_by o c) (find-put key_cmp_total size_key row sizes)

    pub grown_bytes : (rows : List Object) → AreRows rows → row_at row.key rows ≡ Some (Claim c)
        → bytes_by namespace (grown rows) ≤ bytes_by namespace (counted_in sizes rows) + if_in namespace c.meta.namespace more
    grown_bytes [] order e = none_some (Claim c) e
    grown_bytes (Claim y ∷ xs) order e = by (is_eq (key_cmp (key_of (Claim y)) row.key)) refl e (grown_bytes xs order.1)
      where
        here : y ≡ c → row_at row.key xs ≡ None
            → if_in namespace y.meta.namespace (grown_asked y) + bytes_by namespace (grown xs)
            ≤ (if_in namespace y.meta.namespace (old_asked y) + bytes_by namespace (counted_in sizes xs)) + if_in namespace c.meta.namespace more
        here same none =
            let rest : bytes_by namespace (grown xs) ≡ bytes_by namespace (counted_in sizes xs) = ap (bytes_by namespace) (without_it xs none) in
            rw same (by_namespace (bytes_eq c.meta.namespace namespace) rest)
          where
            by_namespace : (b : Bool) → bytes_by namespace (grown xs) ≡ bytes_by namespace (counted_in sizes xs)
                → cond b (grown_asked c) 0 + bytes_by namespace (grown xs)
                ≤ (cond b (old_asked c) 0 + bytes_by namespace (counted_in sizes xs)) + cond b more 0
            by_namespace true rest = let own = own_asked in omega (arith, rest, own, asks)
            by_namespace false rest = omega (arith, rest)

        by : (b : Bool) → is_eq (key_cmp (key_of (Claim y)) row.key) ≡ b → cond b (Some (Claim y)) (row_at row.key xs) ≡ Some (Claim c)
            → (row_at row.key xs ≡ Some (Claim c) → bytes_by namespace (grown xs) ≤ bytes_by namespace (counted_in sizes xs) + if_in namespace c.meta.namespace more)
            → if_in namespace y.meta.namespace (grown_asked y) + bytes_by namespace (grown xs)
            ≤ (if_in namespace y.meta.namespace (old_asked y) + bytes_by namespace (counted_in sizes xs)) + if_in namespace c.meta.namespace more
        by true b f rest =
            let without = row_at-without_row row.key (Claim y ∷ xs) order in
            let gone : row_at row.key xs ≡ None = subst (λ (a : Bool). row_at row.key (cond a xs (Claim y ∷ without_row row.key xs)) ≡ None) b without in
            here (same_claim y c (some_is (Claim y) (Claim c) f)) gone
        by false b f rest =
            let h = rest f in
            let same : if_in namespace y.meta.namespace (grown_asked y) ≡ if_in namespace y.meta.namespace (old_asked y) = ap (if_in namespace y.meta.namespace) (other_asked y b) in
            omega (arith, h, same)
    grown_bytes (Class y ∷ xs) order e = grown_bytes xs order.1 (skipped_row (Class y) c (row_at row.key xs) (is_eq (key_cmp (key_of (Class y)) row.key)) (λ k. omega (arith, k)) e)
    grown_bytes (Node y ∷ xs) order e = grown_bytes xs order.1 (skipped_row (Node y) c (row_at row.key xs) (is_eq (key_cmp (key_of (Node y)) row.key)) (λ k. omega (arith, k)) e)
    grown_bytes (Volume y ∷ xs) order e = grown_bytes xs order.1 (skipped_row (Volume y) c (row_at row.key xs) (is_eq (key_cmp (key_of (Volume y)) row.key)) (λ k. omega (arith, k)) e)
    grown_bytes (Pod y ∷ xs) order e = grown_bytes xs order.1 (skipped_row (Pod y) c (row_at row.key xs) (is_eq (key_cmp (key_of (Pod y)) row.key)) (λ k. omega (arith, k)) e)
