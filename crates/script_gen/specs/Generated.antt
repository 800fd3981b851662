-- The script that a seed gives, line by line: which objects it creates, and with which draws.
-- A choice of this project: a script of many objects to be tried and timed.
use Rattle.std.specs.Prelude.{ℕ, zero, suc, ◌==◌, ◌+◌, ◌*◌, List, [], ◌∷◌, ◌++◌, true, false, if◌then◌else◌, None, codes}
use Rattle.kube_objects.specs.declared.objects.Object.{Object}
use Rattle.kube_objects.specs.declared.objects.Object.TheVariants.{Class, Node, Volume, Claim, Pod}
use Rattle.call_types.specs.declared.request.Request.TheVariants.{Create, Delete}
use Rattle.script_text.specs.declared.script.Line.{Line}
use Rattle.script_text.specs.declared.script.Line.TheVariants.{Call, Drain}
use Rattle.script_text.specs.declared.script.Script.{Script}
use Rattle.script_gen.specs.Draws.{draw}
use Rattle.script_gen.specs.Objects.{numbered, pool, pool_size, class_named, zoned_node, volume_of, sized_claim, pod_with, claim_key}

-- each line is the first user's
abbrev pub creates : Object → Line
creates object = Call 1 (Create object)

-- ---- the lines of each number

-- volume i, of 1 to 16 GiB; one of four may have many writers
abbrev pub volume_line : ℕ → ℕ → Line
volume_line seed i = creates (Volume (volume_of i (1 + draw seed (2 * i + 1) 16) (draw seed (2 * i + 2) 4 == 0)))

-- one of four claims is of class fast
abbrev pub class_drawn : ℕ → List ℕ
class_drawn n = if n == 3 then codes "fast" else codes "slow"

-- claim i, of 1 to 16 GiB, drawn after all volumes
abbrev pub claim_line : ℕ → ℕ → Line
claim_line seed i = creates (Claim (sized_claim (numbered (codes "c") i) (1 + draw seed (2 * i + 513) 16) (class_drawn (draw seed (2 * i + 514) 4))))

-- claim i of class late, of 1 GiB, for pod i
abbrev pub late_claim_line : ℕ → Line
late_claim_line i = creates (Claim (sized_claim (numbered (codes "l") i) 1 (codes "late")))

-- pod i, which uses late claim i
abbrev pub pod_line : ℕ → Line
pod_line i = creates (Pod (pod_with (numbered (codes "p") i) (numbered (codes "l") i)))

-- drawn after all claims; a name may come again
abbrev pub delete_line : ℕ → ℕ → Line
delete_line seed i = Call 1 (Delete (claim_key (numbered (codes "c") (draw seed (i + 1025) 256))) None)

-- ---- all lines

-- two classes: fast binds at once, late for the first consumer
abbrev pub class_lines : List Line
class_lines = creates (Class (class_named (codes "fast") false)) ∷ creates (Class (class_named (codes "late") true)) ∷ []

-- four nodes, two in each of two zones
abbrev pub node_lines : List Line
node_lines =
    creates (Node (zoned_node (codes "n0") (codes "z0")))
    ∷ creates (Node (zoned_node (codes "n1") (codes "z1")))
    ∷ creates (Node (zoned_node (codes "n2") (codes "z0")))
    ∷ creates (Node (zoned_node (codes "n3") (codes "z1")))
    ∷ []

-- the lines of each number below n, in order
unfoldable pub each_below : ℕ → (ℕ → List Line) → List Line
each_below zero lines = []
each_below (suc i) lines = each_below i lines ++ lines i

-- 256 volumes
abbrev pub volume_lines : ℕ → List Line
volume_lines seed = each_below 256 (λ i. volume_line seed i ∷ [])

-- 256 claims
abbrev pub claim_lines : ℕ → List Line
claim_lines seed = each_below 256 (λ i. claim_line seed i ∷ [])

-- each pod after its claim
abbrev pub pod_lines : List Line
pod_lines = each_below 64 (λ i. late_claim_line i ∷ pod_line i ∷ [])

-- 64 deletions of claims
abbrev pub delete_lines : ℕ → List Line
delete_lines seed = each_below 64 (λ i. delete_line seed i ∷ [])

-- all is created and settles; then claims are deleted
unfoldable pub generated_lines : ℕ → List Line
generated_lines seed =
    class_lines ++ node_lines ++ volume_lines seed ++ claim_lines seed ++ pod_lines ++ Drain ∷ [] ++ delete_lines seed

-- the names of these nodes, in order
abbrev pub node_names : List (List ℕ)
node_names = codes "n0" ∷ codes "n1" ∷ codes "n2" ∷ codes "n3" ∷ []

-- the script of a seed: one pool, no faults, no imports, and these lines
unfoldable pub generated : ℕ → Script
generated seed = record {
  setup = record { pools = pool ∷ []; faults = []; imports = [] };
  lines = generated_lines seed;
  node_names = node_names;
  sizes = pool_size ∷ [];
}
