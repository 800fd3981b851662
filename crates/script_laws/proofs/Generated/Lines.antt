-- The lines of generated scripts, each after those before it, pass no limit.
use Rattle.std.proofs.Common.{
  ◌≡◌,
  ℕ,
  zero,
  suc,
  ◌+◌,
  ◌*◌,
  ◌<◌,
  nat_lt,
  true,
  false,
  List,
  [],
  ◌∷◌,
  ◌++◌,
  length,
  None,
  Option,
  refl,
  ap,
  sym,
  subst,
  ◌∙◌,
  append_assoc,
  append-nil,
  le-ltb,
  arith,
  codes,
}
use Rattle.plain_data.specs.Pairs.{Pair}
use Rattle.kube_objects.specs.declared.objects.Object.{Object}
use Rattle.script_lines.specs.declared.errors.Reason.TheVariants.{TooManyObjects, TooManyNodes}
use Rattle.script_text.specs.declared.script.Line.{Line}
use Rattle.script_text.specs.declared.script.Line.TheVariants.{Drain}
use Rattle.script_text.specs.Said.{agents_of, objects_of, and_node, created_node, creates as count_of}
use Rattle.script_text.specs.Grammar.{line_limit, first_of, passed}
use Rattle.script_gen.specs.Draws.{draw}
use Rattle.script_gen.specs.Generated.{
  creates,
  each_below,
  class_lines,
  node_lines,
  volume_line,
  claim_line,
  late_claim_line,
  pod_line,
  delete_line,
  volume_lines,
  claim_lines,
  pod_lines,
  delete_lines,
}
use Rattle.script_gen.specs.Objects.{numbered}
use Rattle.script_laws.specs.Read.Given.{IsLineObject}
use Rattle.script_laws.specs.Read.Scripts.{AreLinesAfter}
use Rattle.script_laws.proofs.Generated.Agents.{MakesNoNode, agents_append, none_below, creates_append, creates_below}
use Rattle.script_laws.proofs.Generated.Objects.{class_given, node_given, volume_given, claim_given}
use Rattle.script_laws.proofs.Generated.Pods.{pod_given}

-- ---- lists of lines

pub after_append : (agents : List Pair) (before xs ys : List Line) → AreLinesAfter [] agents before xs → AreLinesAfter [] agents (before ++ xs) ys → AreLinesAfter [] agents before (xs ++ ys)
after_append agents before [] ys h k = subst (λ (b : List Line). AreLinesAfter [] agents b ys) (append-nil before) k
after_append agents before (line ∷ xs) ys h k =
    let moved : before ++ line ∷ xs ≡ (before ++ line ∷ []) ++ xs = sym (append_assoc before (line ∷ []) xs) in
    (h.0, h.1, after_append agents (before ++ line ∷ []) xs ys h.2 (subst (λ (b : List Line). AreLinesAfter [] agents b ys) moved k))

each_after : (agents : List Pair) (before : List Line) (n : ℕ) (lines : ℕ → List Line)
    → ((i : ℕ) → i < n → AreLinesAfter [] agents (before ++ each_below i lines) (lines i)) → AreLinesAfter [] agents before (each_below n lines)
unfolding each_below
each_after agents before zero lines each = tt
each_after agents before (suc n) lines each =
    after_append agents before (each_below n lines) (lines n)
    (each_after agents before n lines (λ i h. each i (omega arith)))
    (each n (omega arith))

-- ---- what was created before a line

abbrev pub the_agents : List Pair
the_agents = agents_of [] (class_lines ++ node_lines)

pub record StandsAt (before : List Line) (n : ℕ) : Type 0 where
  pub agents : agents_of [] before ≡ the_agents
  pub objects : count_of before ≡ n

pub stands_next : (before xs : List Line) (n m : ℕ) → StandsAt before n → MakesNoNode xs → count_of xs ≡ m → StandsAt (before ++ xs) (n + m)
stands_next before xs n m stands none made = record {
  agents = agents_append [] before xs ∙ none (agents_of [] before) ∙ stands.agents;
  objects = creates_append before xs ∙ (λ k. stands.objects k + made k);
}

create_after : (agents : List Pair) (before : List Line) (n : ℕ) (o : Object) → StandsAt before n → n < 1024 → created_node (creates o) ≡ None → IsLineObject o
    → AreLinesAfter [] agents before (creates o ∷ [])
create_after agents before n o stands few none is =
    let count : count_of (before ++ creates o ∷ []) ≡ n + 1 = creates_append before (creates o ∷ []) ∙ ap (λ (k : ℕ). k + 1) stands.objects in
    let objects : nat_lt 1024 (objects_of [] (before ++ creates o ∷ [])) ≡ false = le-ltb 1024 (objects_of [] (before ++ creates o ∷ [])) (omega (arith, count)) in
    let nodes : agents_of [] (before ++ creates o ∷ []) ≡ the_agents =
    agents_append [] before (creates o ∷ []) ∙ ap (λ (name : Option (List ℕ)). and_node (agents_of [] before) name) none ∙ stands.agents in
    let limit : line_limit [] (before ++ creates o ∷ []) (creates o) ≡ None =
    (λ k. first_of (passed (objects k) TooManyObjects) (passed (nat_lt 8 (length (nodes k))) TooManyNodes)) in
    ((refl, is), limit, tt)

-- ---- the lines of each group

pub first_after : (agents : List Pair) → AreLinesAfter [] agents [] (class_lines ++ node_lines)
first_after agents = (
  (refl, class_given (codes "fast") false),
  refl,
  (
    (refl, class_given (codes "late") true),
    refl,
    (
      (refl, node_given (codes "n0") (codes "z0")),
      refl,
      (
        (refl, node_given (codes "n1") (codes "z1")),
        refl,
        (
          (refl, node_given (codes "n2") (codes "z0")),
          refl,
          (
            (refl, node_given (codes "n3") (codes "z1")),
            refl,
            tt,
          ),
        ),
      ),
    ),
  ),
)

pub first_stands : StandsAt (class_lines ++ node_lines) 6
first_stands = record { agents = refl; objects = refl }

pub volumes_after : (agents : List Pair) (before : List Line) (seed : ℕ) → StandsAt before 6 → AreLinesAfter [] agents before (volume_lines seed)
volumes_after agents before seed stands =
    each_after agents before 256 (λ i. volume_line seed i ∷ []) (λ i h.
    create_after agents (before ++ each_below i (λ j. volume_line seed j ∷ [])) (6 + i * 1) _
    (stands_next before (each_below i (λ j. volume_line seed j ∷ [])) 6 (i * 1) stands
    (none_below i (λ j. volume_line seed j ∷ []) (λ j others. refl)) (creates_below 1 (λ j. volume_line seed j ∷ []) i (λ j. refl)))
    (omega arith) refl
    (volume_given i (draw seed (2 * i + 1) 16) _ (omega arith)))

pub claims_after : (agents : List Pair) (before : List Line) (seed : ℕ) → StandsAt before 262 → AreLinesAfter [] agents before (claim_lines seed)
claims_after agents before seed stands =
    each_after agents before 256 (λ i. claim_line seed i ∷ []) (λ i h.
    create_after agents (before ++ each_below i (λ j. claim_line seed j ∷ [])) (262 + i * 1) _
    (stands_next before (each_below i (λ j. claim_line seed j ∷ [])) 262 (i * 1) stands
    (none_below i (λ j. claim_line seed j ∷ []) (λ j others. refl)) (creates_below 1 (λ j. claim_line seed j ∷ []) i (λ j. refl)))
    (omega arith) refl
    (claim_given (numbered (codes "c") i) (draw seed (2 * i + 513) 16) _ (omega arith)))

abbrev pair : ℕ → List Line
pair i = late_claim_line i ∷ pod_line i ∷ []

pair_after : (agents : List Pair) (before : List Line) (n i : ℕ) → StandsAt before n → n < 1000 → i < 64 → AreLinesAfter [] agents before (pair i)
pair_after agents before n i stands few h =
    after_append agents before (late_claim_line i ∷ []) (pod_line i ∷ [])
    (create_after agents before n _ stands (omega arith) refl (claim_given (numbered (codes "l") i) 0 (codes "late") (omega arith)))
    (create_after agents (before ++ late_claim_line i ∷ []) (n + 1) _
    (stands_next before (late_claim_line i ∷ []) n 1 stands (λ others. refl) refl)
    (omega arith) refl (pod_given i h))

pub pods_after : (agents : List Pair) (before : List Line) → StandsAt before 518 → AreLinesAfter [] agents before pod_lines
pods_after agents before stands =
    each_after agents before 64 pair (λ i h.
    pair_after agents (before ++ each_below i pair) (518 + i * 2) i
    (stands_next before (each_below i pair) 518 (i * 2) stands (none_below i pair (λ j others. refl)) (creates_below 2 pair i (λ j. refl)))
    (omega arith) h)

pub drain_after : (agents : List Pair) (before : List Line) → AreLinesAfter [] agents before (Drain ∷ [])
drain_after agents before = (tt, refl, tt)

pub deletes_after : (agents : List Pair) (before : List Line) (seed : ℕ) → AreLinesAfter [] agents before (delete_lines seed)
deletes_after agents before seed = each_after agents before 64 (λ i. delete_line seed i ∷ []) (λ i h. ((refl, (tt, tt)), refl, tt))
