-- Writes at a key where no claim has its volume: of claims and pods, of new volumes, of objects that leave.
use Rattle.std.proofs.Common.{◌≡◌, ◌≢◌, ◌∙◌, ◌⊎◌, ℕ, ◌+◌, ◌≤◌, List, Bool, true, false, true≢false, Some, None, inl, inr, refl, sym, ap, subst, arith}
use Rattle.std.specs.Prelude.{cond}
use Rattle.kube_objects.specs.declared.key.Key.{Key}
use Rattle.kube_objects.specs.declared.objects.Claim.{Claim as ClaimData}
use Rattle.kube_objects.specs.declared.objects.Pod.{Pod as PodData}
use Rattle.kube_objects.specs.declared.objects.Volume.{Volume as VolumeData}
use Rattle.kube_objects.specs.declared.objects.Object.{Object}
use Rattle.kube_objects.specs.declared.objects.Object.TheVariants.{Class, Node, Volume, Claim, Pod}
use Rattle.kube_objects.specs.Bindings.{is_completed, is_deleting, is_empty}
use Rattle.kube_objects.specs.Keys.{AreRows, key_of, kind_index, put_row, row_at, same_key, without_row}
use Rattle.kube_objects.proofs.KeyOrder.{row_at-put_row, row_at-put_row_other, row_at-without_row, row_at-without_row_other}
use Rattle.kube_objects.proofs.SameKeys.{key_tells, same_key-Decides}
use Rattle.binder_model.specs.ObjectKeys.{claim_key, volume_key}
use Rattle.binder_model.specs.Devices.{Devices}
use Rattle.model_laws.proofs.Lists.{IsIn, one}
use Rattle.settle_measure.specs.Left.Measure.{claim_left, completed_left, has_offer, is_held_by, is_seeking, left_on, object_left, offers_claim, pod_left, seeks, total}
use Rattle.settle_measure.proofs.Left.Sums.{Pays, falls, found_in, gone_falls, new_falls, none_paid, none_pays, one_at_most, one_pays, paid_at, put_falls, stands, total_sum}
use Rattle.settle_measure.proofs.Left.Others.{AsGood, DataStay, ErasedStay, NoneSeeks, any_found, any_in, claim_less, volume_less}

-- all rows but that of one key stay
abbrev pub Agree : List Object → List Object → Key → Type 0
Agree rows rows_after k = (j : Key) → k ≢ j → row_at j rows_after ≡ row_at j rows

pub put_agrees : (o : Object) (rows : List Object) → Agree rows (put_row o rows) (key_of o)
put_agrees o rows j differs = row_at-put_row_other j o rows differs

pub without_agrees : (k : Key) (rows : List Object) → Agree rows (without_row k rows) k
without_agrees k rows j differs = row_at-without_row_other k j rows differs

-- the claim has nothing at this key
pub record Useless (rows rows_after : List Object) (k : Key) (c : ClaimData) : Type 0 where
  pub held : is_completed c ≡ false → is_deleting c.meta ≡ false → is_held_by c (row_at k rows) ≡ false
  pub offered : is_completed c ≡ false → is_deleting c.meta ≡ false → (o : Object) → row_at k rows ≡ Some o → offers_claim c o ≡ false
  pub done : is_completed c ≡ true → k ≡ volume_key c.volume_name → completed_left c (row_at k rows_after) ≤ completed_left c (row_at k rows)

module _ (rows rows_after : List Object) (k : Key) (order : AreRows rows) (agree : Agree rows rows_after k) (c : ClaimData) (u : Useless rows rows_after k c) where
  keeps_held : is_completed c ≡ false → is_deleting c.meta ≡ false → (j : Key) → (is_empty c.volume_name ≡ true) ⊎ (j ≡ volume_key c.volume_name)
      → is_held_by c (row_at j rows) ≡ true → is_held_by c (row_at j rows_after) ≡ true
  keeps_held open_ staying j which e = elim (key_tells k j) [
    | inl is ↦ absurd (true≢false (sym e ∙ ap (λ i. is_held_by c (row_at i rows)) (sym is) ∙ u.held open_ staying))
    | inr differs ↦ ap (is_held_by c) (agree j differs) ∙ e
  ]

  keeps_offer : is_completed c ≡ false → is_deleting c.meta ≡ false → is_empty c.volume_name ≡ true → has_offer rows c ≡ true → has_offer rows_after c ≡ true
  keeps_offer open_ staying empty e =
      let f = any_found (offers_claim c) rows e in
      let at = stands rows order f.object f.among in
      elim (key_tells k (key_of f.object)) [
        | inl is ↦ absurd (true≢false (sym f.passes ∙ u.offered open_ staying f.object (ap (λ i. row_at i rows) is ∙ at)))
        | inr differs ↦ any_in (offers_claim c) f.object rows_after (found_in (key_of f.object) rows_after f.object (agree (key_of f.object) differs ∙ at)) f.passes
      ]

  keeps_done : is_completed c ≡ true → completed_left c (row_at (volume_key c.volume_name) rows_after) ≤ completed_left c (row_at (volume_key c.volume_name) rows)
  keeps_done completed = elim (key_tells k (volume_key c.volume_name)) [
    | inl is ↦ subst (λ j. completed_left c (row_at j rows_after) ≤ completed_left c (row_at j rows)) is (u.done completed is)
    | inr differs ↦ let e : completed_left c (row_at (volume_key c.volume_name) rows_after) ≡ completed_left c
        (row_at (volume_key c.volume_name) rows) = ap (completed_left c) (agree (volume_key c.volume_name) differs) in omega (arith, e)
  ]

  pub as_good : AsGood rows rows_after c
  as_good = record { held = keeps_held; holder = keeps_offer; done = keeps_done }

-- a key of a claim or a pod, or where nothing stands
pub useless_kind : (rows rows_after : List Object) (k : Key) (o : Object) (c : ClaimData) → row_at k rows ≡ Some o → is_held_by c (Some o) ≡ false
    → offers_claim c o ≡ false → ((name : List ℕ) → k ≢ volume_key name) → Useless rows rows_after k c
useless_kind rows rows_after k o c there held offered differs = record {
  held = λ open_ staying. ap (is_held_by c) there ∙ held;
  offered = λ open_ staying p at. ap (offers_claim c) (one p o (sym at ∙ there)) ∙ offered;
  done = λ completed is. absurd (differs c.volume_name is);
}

pub claim_key_differs : (c : ClaimData) (name : List ℕ) → key_of (Claim c) ≢ volume_key name
claim_key_differs c name e = let n : 3 ≡ 2 = ap (λ (k : Key). kind_index k.kind) e in absurd (omega (arith, n))

pub pod_key_differs : (p : PodData) (name : List ℕ) → key_of (Pod p) ≢ volume_key name
pod_key_differs p name e = let n : 4 ≡ 2 = ap (λ (k : Key). kind_index k.kind) e in absurd (omega (arith, n))

pub pod_claim_differs : (p : PodData) (namespace name : List ℕ) → key_of (Pod p) ≢ claim_key namespace name
pod_claim_differs p namespace name e = let n : 4 ≡ 3 = ap (λ (k : Key). kind_index k.kind) e in absurd (omega (arith, n))

-- what nothing was done to does not rise
pub record AllStay (rows rows_after : List Object) (d devices_after : Devices) : Type 0 where
  pub seeks : NoneSeeks rows rows_after
  pub datum : DataStay d devices_after
  pub erased : (v : VolumeData) → ErasedStay d devices_after v
  pub pods : (p : PodData) → IsIn (Pod p) rows → pod_left devices_after p ≤ pod_left d p
  pub claims : (c : ClaimData) → IsIn (Claim c) rows → AsGood rows rows_after c

module _ (rows rows_after : List Object) (d devices_after : Devices) (all : AllStay rows rows_after d devices_after) where
  pub each_less : (o : Object) → IsIn o rows → object_left rows_after devices_after o ≤ object_left rows d o
  each_less (Class x) i = omega arith
  each_less (Node x) i = omega arith
  each_less (Volume v) i = volume_less rows rows_after d devices_after v all.seeks (all.erased v)
  each_less (Pod p) i = all.pods p i
  each_less (Claim c) i = claim_less rows rows_after d devices_after c all.datum (all.claims c i)

  none_pay : (o : Object) → IsIn o rows → Pays (object_left rows d) (object_left rows_after devices_after) none_paid o
  none_pay o i = let h = each_less o i in omega (arith, h)

  pub claim_paying : (namespace name : List ℕ) (n : ℕ)
      → ((c : ClaimData) → IsIn (Claim c) rows → key_of (Claim c) ≡ claim_key namespace name → claim_left rows_after devices_after c + n ≤ claim_left rows d c)
      → (o : Object) → IsIn o rows → Pays (object_left rows d) (object_left rows_after devices_after) (paid_at (claim_key namespace name) n) o
  claim_paying namespace name n pay (Class x) i = omega arith
  claim_paying namespace name n pay (Node x) i = omega arith
  claim_paying namespace name n pay (Volume v) i = let h = each_less (Volume v) i in omega (arith, h)
  claim_paying namespace name n pay (Pod p) i = let h = each_less (Pod p) i in omega (arith, h)
  claim_paying namespace name n pay (Claim c) i = by (same_key (key_of (Claim c)) (claim_key namespace name)) refl
    where
      by : (b : Bool) → same_key (key_of (Claim c)) (claim_key namespace name) ≡ b → claim_left rows_after devices_after c + cond b n 0 ≤ claim_left rows d c
      by true e = pay c i ((same_key-Decides (key_of (Claim c)) (claim_key namespace name)).0 e)
      by false e = let h = each_less (Claim c) i in omega (arith, h)

  pub devices_total : rows_after ≡ rows → total (object_left rows_after devices_after) rows ≤ left_on rows d
  devices_total same =
      let h = falls (object_left rows d) (object_left rows_after devices_after) none_paid rows (λ o i. none_pay o i) in
      let z = none_pays rows in
      omega (arith, h, z)

pub put_total : (rows : List Object) (d : Devices) (new old : Object) → AreRows rows → row_at (key_of new) rows ≡ Some old → AllStay rows (put_row new rows) d d
    → left_on (put_row new rows) d + object_left rows d old ≤ left_on rows d + object_left (put_row new rows) d new
put_total rows d new old order there all =
    let h = put_falls (object_left rows d) (object_left (put_row new rows) d) none_paid new old rows order there (λ o i differs. none_pay rows (put_row new rows) d d all o i) in
    let z = none_pays rows in
    omega (arith, h, z)

pub gone_total : (rows : List Object) (d : Devices) (k : Key) (old : Object) → AreRows rows → row_at k rows ≡ Some old → AllStay rows (without_row k rows) d d
    → left_on (without_row k rows) d + object_left rows d old ≤ left_on rows d
gone_total rows d k old order there all =
    let h = gone_falls (object_left rows d) (object_left (without_row k rows) d) none_paid k old rows order there (λ o i differs. none_pay rows (without_row k rows) d d all o i) in
    let z = none_pays rows in
    omega (arith, h, z)

-- what leaves may cost the claim under one key so much
pub gone_costs : (rows : List Object) (d : Devices) (k : Key) (old : Object) (namespace name : List ℕ) (n : ℕ) → AreRows rows → row_at k rows ≡ Some old → NoneSeeks rows (without_row k rows)
    → ((c : ClaimData) → IsIn (Claim c) rows → claim_left (without_row k rows) d c ≤ claim_left rows d c + paid_at (claim_key namespace name) n (Claim c))
    → left_on (without_row k rows) d + object_left rows d old ≤ left_on rows d + n
gone_costs rows d k old namespace name n order there none cost =
    let h = gone_falls (λ o. object_left rows d o + paid_at (claim_key namespace name) n o) (object_left (without_row k rows) d) none_paid k old rows order there (λ o i differs. each o i) in
    let z = none_pays rows in
    let split = total_sum (object_left rows d) (paid_at (claim_key namespace name) n) rows in
    let most = one_at_most (claim_key namespace name) n rows order in
    omega (arith, h, z, split, most)
  where
    each : (o : Object) → IsIn o rows → Pays (λ x. object_left rows d x + paid_at (claim_key namespace name) n x) (object_left (without_row k rows) d) none_paid o
    each (Class x) i = omega arith
    each (Node x) i = omega arith
    each (Volume v) i = let h = volume_less rows (without_row k rows) d d v none (λ e. e) in omega (arith, h)
    each (Pod p) i = omega arith
    each (Claim c) i = let h = cost c i in omega (arith, h)

pub new_total : (rows : List Object) (d : Devices) (new : Object) (namespace name : List ℕ) (n : ℕ) (payer : Object)
    → row_at (key_of new) rows ≡ None → row_at (claim_key namespace name) rows ≡ Some payer → AllStay rows (put_row new rows) d d
    → ((c : ClaimData) → IsIn (Claim c) rows → key_of (Claim c) ≡ claim_key namespace name → claim_left (put_row new rows) d c + n ≤ claim_left rows d c)
    → left_on (put_row new rows) d + n ≤ left_on rows d + object_left (put_row new rows) d new
new_total rows d new namespace name n payer free standing all pay =
    let h = new_falls (object_left rows d) (object_left (put_row new rows) d) (paid_at (claim_key namespace name) n) new rows free
    (λ o i. claim_paying rows (put_row new rows) d d all namespace name n pay o i) in
    let p = one_pays (claim_key namespace name) n payer rows standing in
    omega (arith, h, p)

-- a claim is written anew

pub claim_seeks : (rows : List Object) (c new : ClaimData) → key_of (Claim new) ≡ key_of (Claim c) → row_at (key_of (Claim c)) rows ≡ Some (Claim c)
    → (is_seeking new ≡ true → is_seeking c ≡ true) → NoneSeeks rows (put_row (Claim new) rows)
claim_seeks rows c new same there less namespace name e = by (key_tells (key_of (Claim new)) (claim_key namespace name))
  where
    by : (key_of (Claim new) ≡ claim_key namespace name) ⊎ (key_of (Claim new) ≢ claim_key namespace name) → seeks (row_at (claim_key namespace name) rows) ≡ true
    by (inl is) =
        let now : row_at (claim_key namespace name) (put_row (Claim new) rows) ≡ Some (Claim new) = ap (λ k. row_at k (put_row (Claim new) rows)) (sym is) ∙ row_at-put_row (Claim new) rows in
        let was : row_at (claim_key namespace name) rows ≡ Some (Claim c) = ap (λ k. row_at k rows) (sym is ∙ same) ∙ there in
        ap seeks was ∙ less (sym (ap seeks now) ∙ e)
    by (inr differs) = sym (ap seeks (row_at-put_row_other (claim_key namespace name) (Claim new) rows differs)) ∙ e

pub claim_put : (rows : List Object) (d : Devices) (c new : ClaimData) → AreRows rows → key_of (Claim new) ≡ key_of (Claim c)
    → row_at (key_of (Claim c)) rows ≡ Some (Claim c) → (is_seeking new ≡ true → is_seeking c ≡ true)
    → left_on (put_row (Claim new) rows) d + claim_left rows d c ≤ left_on rows d + claim_left rows d new
claim_put rows d c new order same there less =
    let at : row_at (key_of (Claim new)) rows ≡ Some (Claim c) = ap (λ k. row_at k rows) same ∙ there in
    let good = λ (e : ClaimData). as_good rows (put_row (Claim new) rows) (key_of (Claim new)) order (put_agrees (Claim new) rows) e
    (useless_kind rows (put_row (Claim new) rows) (key_of (Claim new)) (Claim c) e at refl refl (claim_key_differs new)) in
    let h = put_total rows d (Claim new) (Claim c) order at
    (record { seeks = claim_seeks rows c new same there less; datum = λ name e. e; erased = λ v e. e; pods = λ p i. omega arith; claims = λ e i. good e }) in
    let mine = claim_less rows (put_row (Claim new) rows) d d new (λ name e. e) (good new) in
    omega (arith, h, mine)

pub claim_gone : (rows : List Object) (d : Devices) (c : ClaimData) → AreRows rows → row_at (key_of (Claim c)) rows ≡ Some (Claim c)
    → left_on (without_row (key_of (Claim c)) rows) d + claim_left rows d c ≤ left_on rows d
claim_gone rows d c order there =
    gone_total rows d (key_of (Claim c)) (Claim c) order there (record {
      seeks = λ namespace name e. elim (key_tells (key_of (Claim c)) (claim_key namespace name)) [
        | inl is ↦ absurd (true≢false (sym e ∙ ap seeks (ap (λ k. row_at k (without_row (key_of (Claim c)) rows)) (sym is) ∙ row_at-without_row (key_of (Claim c)) rows order)))
        | inr differs ↦ sym (ap seeks (row_at-without_row_other (key_of (Claim c)) (claim_key namespace name) rows differs)) ∙ e
      ];
      datum = λ name e. e;
      erased = λ v e. e;
      pods = λ p i. omega arith;
      claims = λ e i. as_good rows (without_row (key_of (Claim c)) rows) (key_of (Claim c)) order (without_agrees (key_of (Claim c)) rows) e
          (useless_kind rows (without_row (key_of (Claim c)) rows) (key_of (Claim c)) (Claim c) e there refl refl (claim_key_differs c));
    })

-- pods

pub pod_put : (rows : List Object) (d : Devices) (p new : PodData) → AreRows rows → key_of (Pod new) ≡ key_of (Pod p) → row_at (key_of (Pod p)) rows ≡ Some (Pod p)
    → left_on (put_row (Pod new) rows) d + pod_left d p ≤ left_on rows d + pod_left d new
pod_put rows d p new order same there =
    let at : row_at (key_of (Pod new)) rows ≡ Some (Pod p) = ap (λ k. row_at k rows) same ∙ there in
    put_total rows d (Pod new) (Pod p) order at (record {
      seeks = λ namespace name e. sym (ap seeks (row_at-put_row_other (claim_key namespace name) (Pod new) rows (pod_claim_differs new namespace name))) ∙ e;
      datum = λ name e. e;
      erased = λ v e. e;
      pods = λ q i. omega arith;
      claims = λ e i. as_good rows (put_row (Pod new) rows) (key_of (Pod new)) order (put_agrees (Pod new) rows) e
          (useless_kind rows (put_row (Pod new) rows) (key_of (Pod new)) (Pod p) e at refl refl (pod_key_differs new));
    })

pub pod_gone : (rows : List Object) (d : Devices) (p : PodData) → AreRows rows → row_at (key_of (Pod p)) rows ≡ Some (Pod p)
    → left_on (without_row (key_of (Pod p)) rows) d + pod_left d p ≤ left_on rows d
pod_gone rows d p order there =
    gone_total rows d (key_of (Pod p)) (Pod p) order there (record {
      seeks = λ namespace name e. sym (ap seeks (row_at-without_row_other (key_of (Pod p)) (claim_key namespace name) rows (pod_claim_differs p namespace name))) ∙ e;
      datum = λ name e. e;
      erased = λ v e. e;
      pods = λ q i. omega arith;
      claims = λ e i. as_good rows (without_row (key_of (Pod p)) rows) (key_of (Pod p)) order (without_agrees (key_of (Pod p)) rows) e
          (useless_kind rows (without_row (key_of (Pod p)) rows) (key_of (Pod p)) (Pod p) e there refl refl (pod_key_differs p));
    })
