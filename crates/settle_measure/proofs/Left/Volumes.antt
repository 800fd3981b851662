-- A write of one volume: what is then left to do.
use Rattle.std.proofs.Common.{◌≡◌, ◌∙◌, ℕ, ◌+◌, ◌≤◌, List, [], Bool, true, false, Some, refl, ap, arith}
use Rattle.std.specs.Prelude.{cond}
use Rattle.kube_objects.specs.declared.objects.Claim.{Claim as ClaimData}
use Rattle.kube_objects.specs.declared.objects.Volume.{Volume as VolumeData}
use Rattle.kube_objects.specs.declared.objects.Object.{Object}
use Rattle.kube_objects.specs.declared.objects.Object.TheVariants.{Class, Node, Volume, Claim, Pod}
use Rattle.kube_objects.specs.Keys.{AreRows, key_of, put_row, row_at, same_key}
use Rattle.binder_model.specs.ObjectKeys.{claim_key}
use Rattle.binder_model.specs.Devices.{Devices}
use Rattle.kube_objects.proofs.SameKeys.{same_key-Decides}
use Rattle.model_laws.proofs.Lists.{IsIn}
use Rattle.settle_measure.specs.Left.Measure.{claim_left, left_on, object_left, volume_left}
use Rattle.settle_measure.proofs.Left.Sums.{Pays, one_pays, paid_at, put_falls}
use Rattle.settle_measure.proofs.Left.Others.{Harmless, as_good_put, claim_less, volume_less, volume_puts_no_claim}

module _ (rows : List Object) (d : Devices) (order : AreRows rows) (v new : VolumeData) (same : key_of (Volume new) ≡ key_of (Volume v))
    (there : row_at (key_of (Volume v)) rows ≡ Some (Volume v)) where
  after_put : List Object
  after_put = put_row (Volume new) rows

  abbrev pub AllHarmless : Type 0
  AllHarmless = (c : ClaimData) → IsIn (Claim c) rows → Harmless v new c

  -- the claim under the key pays so much
  abbrev pub ClaimPays : List ℕ → List ℕ → ℕ → Type 0
  ClaimPays namespace name n = (c : ClaimData) → IsIn (Claim c) rows → key_of (Claim c) ≡ claim_key namespace name → claim_left (put_row (Volume new) rows) d c + n ≤ claim_left rows d c

  each_pays : (namespace name : List ℕ) (n : ℕ) → AllHarmless → ClaimPays namespace name n → (o : Object) → IsIn o rows
      → Pays (object_left rows d) (object_left (put_row (Volume new) rows) d) (paid_at (claim_key namespace name) n) o
  each_pays namespace name n safe pay (Class x) i = omega arith
  each_pays namespace name n safe pay (Node x) i = omega arith
  each_pays namespace name n safe pay (Volume u) i = let h = volume_less rows (put_row (Volume new) rows) d d u (volume_puts_no_claim new rows) (λ e. e) in omega (arith, h)
  each_pays namespace name n safe pay (Pod p) i = omega arith
  each_pays namespace name n safe pay (Claim c) i = by (same_key (key_of (Claim c)) (claim_key namespace name)) refl
    where
      by : (b : Bool) → same_key (key_of (Claim c)) (claim_key namespace name) ≡ b → claim_left (put_row (Volume new) rows) d c + cond b n 0 ≤ claim_left rows d c
      by true e = pay c i ((same_key-Decides (key_of (Claim c)) (claim_key namespace name)).0 e)
      by false e = let h = claim_less rows (put_row (Volume new) rows) d d c (λ name e. e) (as_good_put v new rows order same there c (safe c i)) in omega (arith, h)

  pub volume_put_paid : (namespace name : List ℕ) (n : ℕ) (payer : Object) → row_at (claim_key namespace name) rows ≡ Some payer → AllHarmless → ClaimPays namespace name n
      → left_on (put_row (Volume new) rows) d + volume_left rows d v + n ≤ left_on rows d + volume_left rows d new
  volume_put_paid namespace name n payer standing safe pay =
      let sums = put_falls (object_left rows d) (object_left (put_row (Volume new) rows) d) (paid_at (claim_key namespace name) n) (Volume new)
      (Volume v) rows order (ap (λ k. row_at k rows) same ∙ there) (λ o i differs. each_pays namespace name n safe pay o i) in
      let paid = one_pays (claim_key namespace name) n payer rows standing in
      let mine = volume_less rows (put_row (Volume new) rows) d d new (volume_puts_no_claim new rows) (λ e. e) in
      omega (arith, sums, paid, mine)

  pub volume_put : AllHarmless → left_on (put_row (Volume new) rows) d + volume_left rows d v ≤ left_on rows d + volume_left rows d new
  volume_put safe =
      let sums = put_falls (object_left rows d) (object_left (put_row (Volume new) rows) d) (paid_at (claim_key [] []) 0) (Volume new) (Volume v) rows order (ap (λ k. row_at k rows) same ∙ there)
      (λ o i differs. each_pays [] [] 0 safe (λ c j e. let h = claim_less rows (put_row (Volume new) rows) d d c (λ name e. e)
      (as_good_put v new rows order same there c (safe c j)) in omega (arith, h)) o i) in
      let mine = volume_less rows (put_row (Volume new) rows) d d new (volume_puts_no_claim new rows) (λ e. e) in
      omega (arith, sums, mine)
