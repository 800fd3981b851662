-- The whole script of a seed.
use Rattle.std.proofs.Common.{◌≡◌, ℕ, zero, suc, ◌+◌, ◌*◌, List, [], ◌∷◌, ◌++◌, length, refl, ap, sym, arith, length-append}
use Rattle.quantity_text.specs.Quantity.{amount_of, unsigned_amount, refuse, scaled, scale_of, value_of, has_too_many_digits}
use Rattle.script_text.specs.declared.script.Line.{Line}
use Rattle.script_text.specs.declared.script.Line.TheVariants.{Drain}
use Rattle.script_text.specs.Said.{agents_of, nodes_of}
use Rattle.script_gen.specs.Generated.{
  each_below,
  class_lines,
  node_lines,
  volume_line,
  claim_line,
  late_claim_line,
  pod_line,
  delete_line,
  volume_lines,
  claim_lines,
  pod_lines,
  delete_lines,
  generated_lines,
  generated,
}
use Rattle.script_laws.specs.Read.Scripts.{AreLinesAfter}
use Rattle.script_laws.specs.Generated.Laws.{CountsLines, GeneratedIsScript}
use Rattle.script_laws.proofs.Generated.Agents.{none_below, creates_below}
use Rattle.script_laws.proofs.Generated.Lines.{StandsAt, stands_next, after_append, first_after, first_stands, volumes_after, claims_after, pods_after, drain_after, deletes_after}

-- ---- how many lines

-- so many lines of each number
length_each : (k : ℕ) (lines : ℕ → List Line) (n : ℕ) → ((i : ℕ) → length (lines i) ≡ k) → length (each_below n lines) ≡ n * k
unfolding each_below
length_each k lines zero each = let none : length (each_below zero lines) ≡ 0 = refl in omega (arith, none)
length_each k lines (suc n) each =
    let here : length (lines n) ≡ k = each n in
    let before : length (each_below n lines) ≡ n * k = length_each k lines n each in
    let both : length (each_below n lines ++ lines n) ≡ length (each_below n lines) + length (lines n) = length-append (each_below n lines) (lines n) in
    grind (arith, here, before, both)

count_lines : (seed : ℕ) → length (generated_lines seed) ≡ 711
unfolding generated_lines
count_lines seed =
    let volumes : length (volume_lines seed) ≡ 256 = length_each 1 _ 256 (λ i. refl) in
    let claims : length (claim_lines seed) ≡ 256 = length_each 1 _ 256 (λ i. refl) in
    let pods : length pod_lines ≡ 128 = length_each 2 _ 64 (λ i. refl) in
    let deletes : length (delete_lines seed) ≡ 64 = length_each 1 _ 64 (λ i. refl) in
    simp length-append (omega arith)

pub counts_lines : CountsLines
unfolding generated
counts_lines seed = ap (λ (n : ℕ). 1 + n) (count_lines seed)

-- ---- what stands before each group

volumes_stand : (seed : ℕ) → StandsAt (class_lines ++ node_lines ++ volume_lines seed) 262
volumes_stand seed =
    stands_next (class_lines ++ node_lines) (volume_lines seed) 6 256 first_stands
    (none_below 256 (λ i. volume_line seed i ∷ []) (λ i others. refl)) (creates_below 1 (λ i. volume_line seed i ∷ []) 256 (λ i. refl))

claims_stand : (seed : ℕ) → StandsAt (class_lines ++ node_lines ++ volume_lines seed ++ claim_lines seed) 518
claims_stand seed =
    stands_next (class_lines ++ node_lines ++ volume_lines seed) (claim_lines seed) 262 256 (volumes_stand seed)
    (none_below 256 (λ i. claim_line seed i ∷ []) (λ i others. refl)) (creates_below 1 (λ i. claim_line seed i ∷ []) 256 (λ i. refl))

pods_stand : (seed : ℕ) → StandsAt (class_lines ++ node_lines ++ volume_lines seed ++ claim_lines seed ++ pod_lines) 646
pods_stand seed =
    stands_next (class_lines ++ node_lines ++ volume_lines seed ++ claim_lines seed) pod_lines 518 128 (claims_stand seed)
    (none_below 64 (λ i. late_claim_line i ∷ pod_line i ∷ []) (λ i others. refl)) (creates_below 2 (λ i. late_claim_line i ∷ pod_line i ∷ []) 64 (λ i. refl))

drain_stands : (seed : ℕ) → StandsAt (class_lines ++ node_lines ++ volume_lines seed ++ claim_lines seed ++ pod_lines ++ Drain ∷ []) 646
drain_stands seed =
    stands_next (class_lines ++ node_lines ++ volume_lines seed ++ claim_lines seed ++ pod_lines) (Drain ∷ []) 646 0 (pods_stand seed) (λ others. refl) refl

all_stand : (seed : ℕ) → StandsAt (generated_lines seed) 646
unfolding generated_lines
all_stand seed =
    stands_next (class_lines ++ node_lines ++ volume_lines seed ++ claim_lines seed ++ pod_lines ++ Drain ∷ []) (delete_lines seed) 646 0 (drain_stands seed)
    (none_below 64 (λ i. delete_line seed i ∷ []) (λ i others. refl)) (creates_below 0 (λ i. delete_line seed i ∷ []) 64 (λ i. refl))

all_after : (seed : ℕ) → AreLinesAfter [] (agents_of [] (generated_lines seed)) [] (generated_lines seed)
unfolding generated_lines
all_after seed =
    let agents = agents_of [] (class_lines ++ node_lines ++ volume_lines seed ++ claim_lines seed ++ pod_lines ++ Drain ∷ [] ++ delete_lines seed) in
    let first = class_lines ++ node_lines in
    let volumes = first ++ volume_lines seed in
    let claims = volumes ++ claim_lines seed in
    let pods = claims ++ pod_lines in
    let drained = pods ++ Drain ∷ [] in
    after_append agents [] drained (delete_lines seed)
    (after_append agents [] pods (Drain ∷ [])
    (after_append agents [] claims pod_lines
    (after_append agents [] volumes (claim_lines seed)
    (after_append agents [] first (volume_lines seed) (first_after agents) (volumes_after agents first seed first_stands))
    (claims_after agents volumes seed (volumes_stand seed)))
    (pods_after agents claims (claims_stand seed)))
    (drain_after agents pods))
    (deletes_after agents drained seed)

pub generated_is_script : GeneratedIsScript
unfolding generated amount_of unsigned_amount refuse scaled scale_of value_of has_too_many_digits
generated_is_script seed =
    let count : length (generated_lines seed) ≡ 711 = count_lines seed in
    record {
      imports = tt;
      nodes = sym (ap nodes_of (all_stand seed).agents);
      pools = (refl, tt);
      few_pools = omega arith;
      faults = tt;
      fault_numbers = λ k d h. absurd (omega arith);
      few_faults = omega arith;
      lines = all_after seed;
      few_lines = omega arith;
    }
