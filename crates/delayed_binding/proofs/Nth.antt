-- The nth write, by which list it comes from.
use Rattle.std.proofs.Common.{ℕ, zero, suc, ◌≡◌, ◌∙◌, ◌+◌, List, [], ◌∷◌, ◌++◌, length, map, Option, Some, None, refl, sym, ap, arith}
use Rattle.std.proofs.Common.{Bor, get_or, ◌<◌, ◌≤◌}
use Rattle.std.specs.Prelude.{IfSome, slice_get}
use Rattle.std.specs.List.{HoldsAt}
use Rattle.std.specs.Option.{MatchOption, option_copied}
use Rattle.std.proofs.lemmas.Option.{slice_get_past, slice_get_read}
use Rattle.kube_objects.specs.declared.key.Key.{Key}
use Rattle.kube_objects.specs.declared.objects.Object.{Object}
use Rattle.model_laws.proofs.Lists.{none_some, one}
use Rattle.delayed_binding.specs.declared.choice.Choice.TheVariants.{Prepare}
use Rattle.delayed_binding.specs.Writes.{bind_write, joined, node_write, prepare_write}
use Rattle.delayed_binding.specs.Steps.Nth.{node_write_at}

-- what was got at a place
pub got : (r : Option (Bor Key)) (ks : List Key) (j : ℕ) → IfSome r (λ x. x.now ≡ get_or ks j x.now)
    → MatchOption r (length ks ≤ j) (λ x. (j < length ks) × HoldsAt {X = Key} (λ y. x.now ≡ y) ks j) → option_copied r ≡ slice_get ks j
got None ks j h m = sym (slice_get_past ks j m)
got (Some x) ks j h m = sym (slice_get_read ks (length ks) j x.now refl m.0 h)

module _ (rows : List Object) (node : List ℕ) where
  first_at : (bs : List (Key × Key)) (ps : List Key) (n : ℕ) (pair : Key × Key) → slice_get bs n ≡ Some pair
      → joined (slice_get (map (bind_write rows) bs ++ map (node_write rows node) ps) n) ≡ bind_write rows pair
  first_at [] ps n pair at = none_some at
  first_at (b ∷ bs) ps zero pair at = ap (bind_write rows) (one b pair at)
  first_at (b ∷ bs) ps (suc n) pair at = first_at bs ps n pair at

  node_at_place : (ps : List Key) (j : ℕ) → joined (slice_get (map (node_write rows node) ps) j) ≡ node_write_at rows node (slice_get ps j)
  node_at_place [] j = refl
  node_at_place (p ∷ ps) zero = refl
  node_at_place (p ∷ ps) (suc j) = node_at_place ps j

  second_at : (bs : List (Key × Key)) (ps : List Key) (n j : ℕ) → n ≡ length bs + j
      → joined (slice_get (map (bind_write rows) bs ++ map (node_write rows node) ps) n) ≡ node_write_at rows node (slice_get ps j)
  second_at [] ps n j is = let same : n ≡ j = omega (arith, is) in ap (λ k. joined (slice_get (map (node_write rows node) ps) k)) same ∙ node_at_place ps j
  second_at (b ∷ bs) ps zero j is = absurd (omega (arith, is))
  second_at (b ∷ bs) ps (suc n) j is = second_at bs ps n j (omega (arith, is))

  pub write_first : (bs : List (Key × Key)) (ps : List Key) (n : ℕ) (pair : Key × Key) → slice_get bs n ≡ Some pair → prepare_write rows (Prepare node bs ps) n ≡ bind_write rows pair
  unfolding prepare_write
  write_first bs ps n pair at = first_at bs ps n pair at

  pub write_second : (bs : List (Key × Key)) (ps : List Key) (n j : ℕ) → n ≡ length bs + j → prepare_write rows (Prepare node bs ps) n ≡ node_write_at rows node (slice_get ps j)
  unfolding prepare_write
  write_second bs ps n j is = second_at bs ps n j is
