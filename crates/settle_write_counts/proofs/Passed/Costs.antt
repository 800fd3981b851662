-- What pods without a node may still cost a scheduler in writes, by how their claims stand: a claim that is under way stays so, whatever is
-- written over another object.
use Rattle.std.proofs.Common.{◌≡◌, ◌≢◌, ◌∙◌, ◌⊎◌, ℕ, ◌+◌, ◌≤◌, List, [], ◌∷◌, Bool, true, false, true≢false, Option, Some, None, inl, inr, refl, sym, ap, subst, arith, length, if◌then◌else◌}
use Rattle.std.specs.Prelude.{◌&&◌, ◌||◌, filter_map}
use Rattle.std.specs.List.{cons_option, list_all}
use Rattle.kube_objects.specs.declared.key.Key.{Key}
use Rattle.kube_objects.specs.declared.objects.Claim.{Claim as ClaimData}
use Rattle.kube_objects.specs.declared.objects.Object.{Object}
use Rattle.kube_objects.specs.declared.objects.Object.TheVariants.{Class, Node, Volume, Claim, Pod}
use Rattle.kube_objects.specs.Bindings.{has_key, is_completed, is_scheduled, selected_node}
use Rattle.kube_objects.specs.Keys.{AreRows, key_of, put_row, row_at, same_key}
use Rattle.kube_objects.proofs.KeyOrder.{row_at-put_row, row_at-put_row_other, row_at_key}
use Rattle.kube_objects.proofs.SameKeys.{key_tells, same_key-Decides}
use Rattle.binder_model.specs.Choice.{carries_claim, claim_in, claim_named, claims_of, has_carrier, is_under_way}
use Rattle.binder_model.specs.ObjectKeys.{claim_key}
use Rattle.model_laws.proofs.Lists.{IsIn, one}
use Rattle.delayed_binding.proofs.Known.{claim_of_row}
use Rattle.settle_measure.specs.Left.Measure.{total}
use Rattle.settle_measure.proofs.Left.Others.{Found, any_found, any_in}
use Rattle.settle_measure.proofs.Left.Sums.{falls, found_in, none_paid, none_pays, one_at_most, one_pays, paid_at, put_falls, stands, total_sum}
use Rattle.settle_write_counts.specs.Scheduler.Pods.{pod_writes}

-- ---- a claim that is under way stays so

-- a claim that is not under way now stood so before
abbrev pub Grows : List Object → List Object → Type 0
Grows old new = (key : Key) (d : ClaimData) → row_at key new ≡ Some (Claim d) → is_under_way new d ≡ false → (row_at key old ≡ Some (Claim d)) × (is_under_way old d ≡ false)

-- where each volume that carried it is there still
open_before : (old new : List Object) (d : ClaimData) → (has_carrier old d ≡ true → has_carrier new d ≡ true) → is_under_way new d ≡ false → is_under_way old d ≡ false
open_before old new d more e = by (is_completed d) (has_carrier old d) (has_carrier new d) (has_key selected_node d.meta.annotations) more e
  where
    by : (done was now has : Bool) → (was ≡ true → now ≡ true) → (done || now || has) ≡ false → (done || was || has) ≡ false
    by false false false has m f = f
    by false true false has m f = absurd (true≢false (sym (m refl)))
    by false was true has m f = absurd (true≢false f)
    by true was now has m f = absurd (true≢false f)

-- an object is written over one that carries no claim, and if it is a claim, then this is under way
pub put_grows : (rows : List Object) (new old : Object) → AreRows rows → row_at (key_of new) rows ≡ Some old
    → ((d : ClaimData) → row_at (key_of (Claim d)) rows ≡ Some (Claim d) → carries_claim d old ≡ true → ⊥)
    → ((d : ClaimData) → new ≡ Claim d → is_under_way (put_row new rows) d ≡ true) → Grows rows (put_row new rows)
put_grows rows new old order there none written key d at waits = by (key_tells (key_of new) key)
  where
    carried : row_at (key_of (Claim d)) rows ≡ Some (Claim d) → has_carrier rows d ≡ true → has_carrier (put_row new rows) d ≡ true
    carried stands_there has = at_key (key_tells (key_of new) (key_of found.object))
      where
        found : Found (carries_claim d) rows
        found = any_found (carries_claim d) rows has

        is_there : row_at (key_of found.object) rows ≡ Some found.object
        is_there = stands rows order found.object found.among

        at_key : (key_of new ≡ key_of found.object) ⊎ (key_of new ≢ key_of found.object) → has_carrier (put_row new rows) d ≡ true
        at_key (inl same) = absurd (none d stands_there (subst (λ x. carries_claim d x ≡ true) (one found.object old (sym is_there ∙ (ap (λ k. row_at k rows) (sym same) ∙ there))) found.passes))
        at_key (inr other) = any_in (carries_claim d) found.object (put_row new rows) (found_in (key_of found.object) (put_row new rows) found.object
            (row_at-put_row_other (key_of found.object) new rows other ∙ is_there)) found.passes

    by : (key_of new ≡ key) ⊎ (key_of new ≢ key) → (row_at key rows ≡ Some (Claim d)) × (is_under_way rows d ≡ false)
    by (inl same) = absurd (true≢false (sym (written d (one new (Claim d) (sym (row_at-put_row new rows) ∙ (ap (λ k. row_at k (put_row new rows)) same ∙ at)))) ∙ waits))
    by (inr other) =
        let before : row_at key rows ≡ Some (Claim d) = sym (row_at-put_row_other key new rows other) ∙ at in
        let own : row_at (key_of (Claim d)) rows ≡ Some (Claim d) = ap (λ k. row_at k rows) (row_at_key key (Claim d) rows before) ∙ before in
        (before, open_before rows (put_row new rows) d (carried own) waits)

-- so a pod that has a claim that is not under way had one before
waited : (old new : List Object) → Grows old new → (namespace : List ℕ) (names : List (List ℕ))
    → list_all (is_under_way new) (filter_map (claim_named new namespace) names) ≡ false → list_all (is_under_way old) (filter_map (claim_named old namespace) names) ≡ false
waited old new grows namespace [] e = e
waited old new grows namespace (name ∷ names) e = by (claim_named new namespace name) refl e (waited old new grows namespace names)
  where
    more : (o : Option ClaimData) → list_all (is_under_way old) (filter_map (claim_named old namespace) names) ≡ false
        → list_all (is_under_way old) (cons_option o (filter_map (claim_named old namespace) names)) ≡ false
    more None rest = rest
    more (Some c) rest = and_right (is_under_way old c) (list_all (is_under_way old) (filter_map (claim_named old namespace) names)) rest
      where
        and_right : (a b : Bool) → b ≡ false → (a && b) ≡ false
        and_right true b f = f
        and_right false b f = refl

    waits : (c : ClaimData) → claim_named old namespace name ≡ Some c → is_under_way old c ≡ false
        → list_all (is_under_way old) (cons_option (claim_named old namespace name) (filter_map (claim_named old namespace) names)) ≡ false
    waits c at open_ = rw at (ap (λ b. b && list_all (is_under_way old) (filter_map (claim_named old namespace) names)) open_)

    by : (o : Option ClaimData) → claim_named new namespace name ≡ o
        → list_all (is_under_way new) (cons_option o (filter_map (claim_named new namespace) names)) ≡ false
        → (list_all (is_under_way new) (filter_map (claim_named new namespace) names) ≡ false → list_all (is_under_way old) (filter_map (claim_named old namespace) names) ≡ false)
        → list_all (is_under_way old) (cons_option (claim_named old namespace name) (filter_map (claim_named old namespace) names)) ≡ false
    by None at f rest = more (claim_named old namespace name) (rest f)
    by (Some d) at f rest = test (is_under_way new d) refl f
      where
        test : (b : Bool) → is_under_way new d ≡ b → (b && list_all (is_under_way new) (filter_map (claim_named new namespace) names)) ≡ false
            → list_all (is_under_way old) (cons_option (claim_named old namespace name) (filter_map (claim_named old namespace) names)) ≡ false
        test true is g = more (claim_named old namespace name) (rest g)
        test false is g =
            let before = grows (claim_key namespace name) d (claim_of_row (row_at (claim_key namespace name) new) d at) is in
            waits d (ap claim_in before.0) before.1

-- ---- what a pod may cost

-- a pod with a claim that is not under way may be prepared, with a write for each claim; another may be bound, once
abbrev pub pod_costs : List Object → Object → ℕ
pod_costs rows (Pod p) = if is_scheduled p then 0 else if list_all (is_under_way rows) (claims_of rows p) then 1 else 1 + length p.claims
pod_costs rows o = 0

abbrev pub costs_on : List Object → ℕ
costs_on rows = total (pod_costs rows) rows

-- what the pods cost but for that of this key
abbrev pub costs_beside : Key → List Object → Object → ℕ
costs_beside key rows o = if same_key (key_of o) key then 0 else pod_costs rows o

costs_few : (rows : List Object) (o : Object) → pod_costs rows o + 0 ≤ pod_writes o
costs_few rows (Pod p) = by (is_scheduled p) (list_all (is_under_way rows) (claims_of rows p))
  where
    by : (a b : Bool) → (if a then 0 else if b then 1 else 1 + length p.claims) + 0 ≤ (if a then 0 else 1 + length p.claims)
    by true b = omega arith
    by false true = omega arith
    by false false = omega arith
costs_few rows (Class x) = omega arith
costs_few rows (Node x) = omega arith
costs_few rows (Volume x) = omega arith
costs_few rows (Claim x) = omega arith

pub costs_bounded : (rows : List Object) → costs_on rows ≤ total pod_writes rows
costs_bounded rows =
    let f = falls pod_writes (pod_costs rows) none_paid rows (λ o i. costs_few rows o) in
    let z = none_pays rows in
    omega (arith, f, z)

costs_less : (old new : List Object) → Grows old new → (o : Object) → pod_costs new o ≤ pod_costs old o
costs_less old new grows (Pod p) = by (is_scheduled p) (list_all (is_under_way new) (claims_of new p)) (list_all (is_under_way old) (claims_of old p)) (waited old new grows p.meta.namespace p.claims)
  where
    by : (a now was : Bool) → (now ≡ false → was ≡ false) → (if a then 0 else if now then 1 else 1 + length p.claims) ≤ (if a then 0 else if was then 1 else 1 + length p.claims)
    by true now was w = omega arith
    by false true true w = omega arith
    by false true false w = omega arith
    by false false false w = omega arith
    by false false true w = absurd (true≢false (w refl))
costs_less old new grows (Class x) = omega arith
costs_less old new grows (Node x) = omega arith
costs_less old new grows (Volume x) = omega arith
costs_less old new grows (Claim x) = omega arith

-- ---- the pod of one key, and the others

pub costs_apart : (key : Key) (o : Object) (rows : List Object) → AreRows rows → row_at key rows ≡ Some o → total (costs_beside key rows) rows + pod_costs rows o ≤ costs_on rows
costs_apart key o rows order there =
    let f = falls (pod_costs rows) (costs_beside key rows) (paid_at key (pod_costs rows o)) rows each in
    let g = one_pays key (pod_costs rows o) o rows there in
    omega (arith, f, g)
  where
    each : (x : Object) → IsIn x rows → costs_beside key rows x + paid_at key (pod_costs rows o) x ≤ pod_costs rows x
    each x i = by (same_key (key_of x) key) refl
      where
        by : (b : Bool) → same_key (key_of x) key ≡ b → (if b then 0 else pod_costs rows x) + (if b then pod_costs rows o else 0) ≤ pod_costs rows x
        by true e =
            let is : x ≡ o = one x o (sym (stands rows order x i) ∙ (ap (λ k. row_at k rows) ((same_key-Decides (key_of x) key).0 e) ∙ there)) in
            let same = ap (pod_costs rows) is in
            omega (arith, same)
        by false e = omega arith

pub costs_join : (key : Key) (n : ℕ) (rows : List Object) → AreRows rows → ((o : Object) → row_at key rows ≡ Some o → pod_costs rows o ≤ n) → costs_on rows ≤ total (costs_beside key rows) rows + n
costs_join key n rows order few =
    let f = falls (λ o. costs_beside key rows o + paid_at key n o) (pod_costs rows) none_paid rows each in
    let s = total_sum (costs_beside key rows) (paid_at key n) rows in
    let m = one_at_most key n rows order in
    let z = none_pays rows in
    omega (arith, f, s, m, z)
  where
    each : (x : Object) → IsIn x rows → pod_costs rows x + 0 ≤ costs_beside key rows x + paid_at key n x
    each x i = by (same_key (key_of x) key) refl
      where
        by : (b : Bool) → same_key (key_of x) key ≡ b → pod_costs rows x + 0 ≤ (if b then 0 else pod_costs rows x) + (if b then n else 0)
        by true e = let le = few x (ap (λ k. row_at k rows) (sym ((same_key-Decides (key_of x) key).0 e)) ∙ stands rows order x i) in omega (arith, le)
        by false e = omega arith

-- ---- a write

pub beside_falls : (key : Key) (new old : Object) (rows : List Object) → AreRows rows → row_at (key_of new) rows ≡ Some old → Grows rows (put_row new rows) → pod_costs (put_row new rows) new ≡ 0
    → total (costs_beside key (put_row new rows)) (put_row new rows) ≤ total (costs_beside key rows) rows
beside_falls key new old rows order there grows free =
    let p = put_falls (costs_beside key rows) (costs_beside key (put_row new rows)) none_paid new old rows order there (λ o i other. each o) in
    let z = none_pays rows in
    let n = none_here in
    omega (arith, p, z, n)
  where
    each : (o : Object) → costs_beside key (put_row new rows) o + 0 ≤ costs_beside key rows o
    each o = by (same_key (key_of o) key) (costs_less rows (put_row new rows) grows o)
      where
        by : (b : Bool) → pod_costs (put_row new rows) o ≤ pod_costs rows o → (if b then 0 else pod_costs (put_row new rows) o) + 0 ≤ (if b then 0 else pod_costs rows o)
        by true less = omega arith
        by false less = omega (arith, less)

    none_here : costs_beside key (put_row new rows) new ≡ 0
    none_here = by (same_key (key_of new) key)
      where
        by : (b : Bool) → (if b then 0 else pod_costs (put_row new rows) new) ≡ 0
        by true = refl
        by false = free

pub costs_fall : (new old : Object) (rows : List Object) → AreRows rows → row_at (key_of new) rows ≡ Some old → Grows rows (put_row new rows)
    → pod_costs (put_row new rows) new ≡ 0 → costs_on (put_row new rows) + pod_costs rows old ≤ costs_on rows
costs_fall new old rows order there grows free =
    let p = put_falls (pod_costs rows) (pod_costs (put_row new rows)) none_paid new old rows order there (λ o i other. let less = costs_less rows (put_row new rows) grows o in omega (arith, less)) in
    let z = none_pays rows in
    omega (arith, p, z, free)
