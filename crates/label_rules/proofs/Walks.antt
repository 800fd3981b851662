-- A walk over labels and wanted pairs together.
use Rattle.std.proofs.Common.{◌≡◌, ◌≤◌, ◌<◌, ◌+◌, ◌-◌, ℕ, true, false, List, [], ◌∷◌, length, get_or, take, drop, bytes_eq, ◌==◌, refl, sym, ◌∙◌, ap, subst, arith}
use Rattle.std.specs.List.{list_all}
use Rattle.std.specs.Ordering.{is_eq}
use Rattle.std.specs.declared.cmp.Ordering.{Ordering}
use Rattle.std.specs.declared.cmp.Ordering.TheVariants.{Less, Equal, Greater}
use Rattle.std.proofs.lemmas.Cmp.{nat_list_cmp_total}
use Rattle.std.proofs.lemmas.List.{drop_more, drop_all, take_all}
use Rattle.plain_data.specs.Pairs.{Pair, ArePairs, pair_key, text_cmp}
use Rattle.plain_data.proofs.RowFacts.{find_gap}
use Rattle.label_rules.specs.Selectors.{has_pair}

-- what is left of two lists that rise says of them what is said of the whole ones
pub record AreLeft (labels wanted some_labels some_wanted : List Pair) : Type 0 where
  pub labels_rise : ArePairs some_labels
  pub wanted_rise : ArePairs some_wanted
  pub same : list_all (has_pair some_labels) some_wanted ≡ list_all (has_pair labels) wanted

-- a label below all wanted pairs is none of them
below : (x w : Pair) (xs ws : List Pair) → text_cmp x.0 w.0 ≡ Less → ArePairs (w ∷ ws) → list_all (has_pair (x ∷ xs)) (w ∷ ws) ≡ list_all (has_pair xs) (w ∷ ws)
below x w xs [] h r = rw h refl
below x w xs (v ∷ vs) h r =
    rw (h, below x v xs vs (nat_list_cmp_total.trans x.0 w.0 v.0 h r.0.0) r.1) refl

-- a label that one pair asks for is asked for by no later one
once : (x w : Pair) (xs ws : List Pair) → text_cmp x.0 w.0 ≡ Equal → ArePairs (w ∷ ws) → list_all (has_pair (x ∷ xs)) ws ≡ list_all (has_pair xs) ws
once x w xs [] h r = refl
once x w xs (v ∷ vs) h r = below x v xs vs (nat_list_cmp_total.congr x.0 w.0 v.0 h ∙ r.0.0) r.1

above : (x w : Pair) (xs ws : List Pair) → text_cmp x.0 w.0 ≡ Greater → ArePairs (x ∷ xs) → list_all (has_pair (x ∷ xs)) (w ∷ ws) ≡ false
above x w xs ws h r = rw (find_gap nat_list_cmp_total pair_key w.0 (x ∷ xs) 0 r h) refl

front : (left : List Pair) (w : Pair) → 1 ≤ length left → w ≡ get_or left 0 w → left ≡ w ∷ drop 1 left
front [] w some e = absurd (omega arith)
front (y ∷ ys) w some e = ap (λ z. z ∷ ys) (sym e)

-- what a pattern takes from behind the first pair
pub rest_whole : (left : List Pair) → take (length left - 1) (drop 1 left) ≡ drop 1 left
rest_whole [] = refl
rest_whole (y ∷ ys) = take_all (length (y ∷ ys) - 1) ys (omega arith)

pub ended : (labels wanted left : List Pair) (i : ℕ) → length labels ≤ i → AreLeft labels wanted (drop i labels) left → (length left == 0) ≡ list_all (has_pair labels) wanted
ended labels wanted [] i le a = a.same
ended labels wanted (w ∷ ws) i le a = let some : (length (w ∷ ws) == 0) ≡ false = grind arith in some ∙ rest_none ∙ a.same
  where
    rest_none : false ≡ list_all (has_pair (drop i labels)) (w ∷ ws)
    rest_none = rw (drop_all i labels le) refl

module _ (labels wanted left : List Pair) (i : ℕ) (x w : Pair) (some_label : i < length labels) (x_is : x ≡ get_or labels i x)
    (some_pair : 1 ≤ length left) (w_is : w ≡ get_or left 0 w) (a : AreLeft labels wanted (drop i labels) left) where
  pair_first : left ≡ w ∷ drop 1 left
  pair_first = front left w some_pair w_is

  label_first : drop i labels ≡ x ∷ drop (i + 1) labels
  label_first = drop_more labels i x some_label ∙ ap (λ z. z ∷ drop (i + 1) labels) (sym x_is)

  here : AreLeft labels wanted (x ∷ drop (i + 1) labels) (w ∷ drop 1 left)
  here = subst (λ xs. AreLeft labels wanted xs (w ∷ drop 1 left)) label_first (subst (AreLeft labels wanted (drop i labels)) pair_first a)

  pub left_below : text_cmp x.0 w.0 ≡ Less → AreLeft labels wanted (drop (i + 1) labels) left
  left_below h = subst (AreLeft labels wanted (drop (i + 1) labels)) (sym pair_first) record {
    labels_rise = here.labels_rise.1;
    wanted_rise = here.wanted_rise;
    same = sym (below x w (drop (i + 1) labels) (drop 1 left) h here.wanted_rise) ∙ here.same;
  }

  pub left_found : text_cmp x.0 w.0 ≡ Equal → bytes_eq w.1 x.1 ≡ true → AreLeft labels wanted (drop (i + 1) labels) (drop 1 left)
  left_found h e = record {
    labels_rise = here.labels_rise.1;
    wanted_rise = here.wanted_rise.1;
    same = sym (once x w (drop (i + 1) labels) (drop 1 left) h here.wanted_rise) ∙ sym found_pair ∙ here.same;
  }
    where
      found_pair : list_all (has_pair (x ∷ drop (i + 1) labels)) (w ∷ drop 1 left) ≡ list_all (has_pair (x ∷ drop (i + 1) labels)) (drop 1 left)
      found_pair = rw (h, e) refl

  pub passed : text_cmp x.0 w.0 ≡ Greater → false ≡ list_all (has_pair labels) wanted
  passed h = sym (above x w (drop (i + 1) labels) (drop 1 left) h here.labels_rise) ∙ here.same

-- an order that is no Less and no Greater
pub tied : (o : Ordering) → is_eq o ≡ true → o ≡ Equal
tied Less e = absurd cc
tied Equal e = refl
tied Greater e = absurd cc
