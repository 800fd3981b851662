-- The annotations of a claim but for its node: what is read of them, and what a write of the node leaves of them.
use Rattle.std.proofs.Common.{◌≡◌, ◌∙◌, ℕ, List, [], ◌∷◌, Bool, true, false, Some, refl, sym, ap, if◌then◌else◌}
use Rattle.std.specs.Prelude.{cond, filter, not, is_some, option_map, unwrap_or}
use Rattle.std.specs.declared.cmp.Ordering.{Ordering}
use Rattle.std.specs.declared.cmp.Ordering.TheVariants.{Less, Equal, Greater}
use Rattle.std.specs.Ordering.{is_eq, match_ordering}
use Rattle.std.proofs.lemmas.Cmp.{nat_list_cmp_total}
use Rattle.plain_data.specs.Pairs.{Pair, pair_at, pair_key, put_pair, text_cmp, value_at, without_key}
use Rattle.kube_objects.specs.declared.objects.Claim.{Claim as ClaimData}
use Rattle.kube_objects.specs.Bindings.{beta_class, bind_completed, class_of_claim, is_completed, selected_node}
use Rattle.settle_alike.specs.Near.Near.{is_no_node, without_node}

-- the claim but for its version and its node
abbrev pub rest_claim : ClaimData → ClaimData
rest_claim c = record c { meta = record (without_node c.meta) { version = 0 } }

-- another annotation is found as before
found_rest : (k : List ℕ) (ps : List Pair) → is_eq (text_cmp selected_node k) ≡ false → pair_at k (filter is_no_node ps) ≡ pair_at k ps
found_rest k [] other = refl
found_rest k (p ∷ ps) other = by (text_cmp (pair_key p) selected_node) refl (found_rest k ps other)
  where
    keeps : pair_at k (filter is_no_node ps) ≡ pair_at k ps → pair_at k (p ∷ filter is_no_node ps) ≡ pair_at k (p ∷ ps)
    keeps rest = ap (λ z. if is_eq (text_cmp (pair_key p) k) then Some p else z) rest

    by : (r : Ordering) → text_cmp (pair_key p) selected_node ≡ r → pair_at k (filter is_no_node ps) ≡ pair_at k ps
        → pair_at k (cond (not (is_eq (text_cmp (pair_key p) selected_node))) (p ∷ filter is_no_node ps) (filter is_no_node ps)) ≡ pair_at k (p ∷ ps)
    by Less e rest = ap (λ r. pair_at k (cond (not (is_eq r)) (p ∷ filter is_no_node ps) (filter is_no_node ps))) e ∙ keeps rest
    by Greater e rest = ap (λ r. pair_at k (cond (not (is_eq r)) (p ∷ filter is_no_node ps) (filter is_no_node ps))) e ∙ keeps rest
    by Equal e rest =
        let none : is_eq (text_cmp (pair_key p) k) ≡ false = ap is_eq (nat_list_cmp_total.congr (pair_key p) selected_node k e) ∙ other in
        ap (λ r. pair_at k (cond (not (is_eq r)) (p ∷ filter is_no_node ps) (filter is_no_node ps))) e ∙ (rest ∙ sym (ap (λ b. if b then Some p else pair_at k ps) none))

pub value_rest : (k : List ℕ) (ps : List Pair) → is_eq (text_cmp selected_node k) ≡ false → value_at k (filter is_no_node ps) ≡ value_at k ps
value_rest k ps other = ap (option_map (λ (q : Pair). q.1)) (found_rest k ps other)

pub completed_rest : (c : ClaimData) → is_completed (rest_claim c) ≡ is_completed c
completed_rest c = ap is_some (value_rest bind_completed c.meta.annotations refl)

pub class_rest : (c : ClaimData) → class_of_claim (rest_claim c) ≡ class_of_claim c
class_rest c = ap (λ x. unwrap_or x (unwrap_or c.class [])) (value_rest beta_class c.meta.annotations refl)

-- ---- writes of a node

pub rest_put : (node : List ℕ) (ps : List Pair) → filter is_no_node (put_pair selected_node node ps) ≡ filter is_no_node ps
rest_put node [] = refl
rest_put node (p ∷ ps) = by (text_cmp (pair_key p) selected_node) refl (rest_put node ps)
  where
    by : (r : Ordering) → text_cmp (pair_key p) selected_node ≡ r → filter is_no_node (put_pair selected_node node ps) ≡ filter is_no_node ps
        → filter is_no_node (match_ordering r (p ∷ put_pair selected_node node ps) ((selected_node, node) ∷ ps) ((selected_node, node) ∷ p ∷ ps)) ≡ filter is_no_node (p ∷ ps)
    by Less e rest = ap (λ qs. cond (is_no_node p) (p ∷ qs) qs) rest
    by Equal e rest = sym (ap (λ r. cond (not (is_eq r)) (p ∷ filter is_no_node ps) (filter is_no_node ps)) e)
    by Greater e rest = refl

pub rest_without : (ps : List Pair) → filter is_no_node (without_key selected_node ps) ≡ filter is_no_node ps
rest_without [] = refl
rest_without (p ∷ ps) = by (is_eq (text_cmp (pair_key p) selected_node)) refl (rest_without ps)
  where
    by : (b : Bool) → is_eq (text_cmp (pair_key p) selected_node) ≡ b → filter is_no_node (without_key selected_node ps) ≡ filter is_no_node ps
        → filter is_no_node (if b then ps else p ∷ without_key selected_node ps) ≡ filter is_no_node (p ∷ ps)
    by true e rest = sym (ap (λ b. cond (not b) (p ∷ filter is_no_node ps) (filter is_no_node ps)) e)
    by false e rest = ap (λ qs. cond (is_no_node p) (p ∷ qs) qs) rest
