-- What a map of seats has after one more entry.
use Rattle.std.proofs.Common.{◌≡◌, ℕ, ◌==◌, ◌<◌, Bool, true, false, cond, List, [], ◌∷◌, Option, Some, None, refl, ap, sym, ◌∙◌, inl, inr, if◌then◌else◌, eq-eqb, arith}
use Rattle.std.specs.Prelude.{unwrap_or}
use Rattle.std.specs.Ordering.{nat_cmp, is_eq}
use Rattle.std.specs.BTreeMap.{BTreeMap, get, UpdatesBy, Updates}
use Rattle.std.proofs.lemmas.Bool.{ne_eqb}
use Rattle.std.proofs.lemmas.Bool.Decides.{eqb_tells}
use Rattle.std.proofs.lemmas.Cmp.{ranked, by_ranked}
use Rattle.call_types.specs.declared.entry.Entry.{Entry}

-- a number is found at itself alone
found_at : (k q : ℕ) → is_eq (nat_cmp k q) ≡ (k == q)
found_at k q =
    by_ranked (k < q) (k ≡ q) (q < k) (nat_cmp k q) (ranked k q (nat_cmp k q) refl)
    (λ is below. ap is_eq is ∙ sym (ne_eqb k q (λ e. omega arith)))
    (λ is same. ap is_eq is ∙ sym (eq-eqb k q same))
    (λ is above. ap is_eq is ∙ sym (ne_eqb k q (λ e. omega arith)))

-- the evidence of one seat was taken out, and put back with one entry more
pub noted_next : (old middle new : BTreeMap ℕ (List Entry)) (e : Entry) (kept after : List Entry)
    → UpdatesBy nat_cmp (nat_cmp e.seat) old middle None
    → Updates nat_cmp middle new e.seat (Some after)
    → after ≡ e ∷ kept
    → kept ≡ unwrap_or (get nat_cmp old e.seat) []
    → (q : ℕ) → unwrap_or (get nat_cmp new q) [] ≡ (if e.seat == q then e ∷ unwrap_or (get nat_cmp old q) [] else unwrap_or (get nat_cmp old q) [])
noted_next old middle new e kept after taken put more is q =
    let before : List Entry = unwrap_or (get nat_cmp old q) [] in
    elim (eqb_tells e.seat q) [
      | inl hit ↦
          let at : is_eq (nat_cmp e.seat q) ≡ true = found_at e.seat q ∙ hit.0 in
          let now : get nat_cmp new q ≡ Some after = put.0 q ∙ ap (λ (b : Bool). cond b (Some after) (get nat_cmp middle q)) at in
          let then_kept : kept ≡ before = is ∙ ap (λ (s : ℕ). unwrap_or (get nat_cmp old s) []) hit.1 in
          ap (λ (o : Option (List Entry)). unwrap_or o []) now ∙ more ∙ ap (λ (xs : List Entry). e ∷ xs) then_kept
          ∙ sym (ap (λ (b : Bool). if b then e ∷ before else before) hit.0)
      | inr miss ↦
          let at : is_eq (nat_cmp e.seat q) ≡ false = found_at e.seat q ∙ miss.0 in
          ap (λ (o : Option (List Entry)). unwrap_or o []) (put.2 q at ∙ taken.2 q at)
          ∙ sym (ap (λ (b : Bool). if b then e ∷ before else before) miss.0)
    ]
