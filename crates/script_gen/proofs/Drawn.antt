-- The lines that draws give.
use Rattle.std.proofs.Common.{◌≡◌, ℕ, ◌==◌, ◌+◌, ◌*◌, codes, refl, ◌∙◌}
use Rattle.std.specs.Prelude.{None}
use Rattle.kube_objects.specs.declared.objects.Object.TheVariants.{Volume, Claim}
use Rattle.call_types.specs.declared.request.Request.TheVariants.{Delete}
use Rattle.script_text.specs.declared.script.Line.TheVariants.{Call}
use Rattle.script_gen.specs.Draws.{draw}
use Rattle.script_gen.specs.Objects.{numbered, volume_of, sized_claim, claim_key}
use Rattle.script_gen.specs.Generated.{creates, volume_line, class_drawn, claim_line, delete_line}

-- a draw of this number
drawn_at : (seed other n m k drawn : ℕ) → other ≡ seed → n ≡ m → drawn ≡ draw other n k → drawn ≡ draw seed m k
drawn_at seed other n m k drawn same at is = is ∙ (λ i. draw (same i) (at i) k)

pub volume_at : (seed other n m i size many : ℕ) → other ≡ seed → n ≡ 2 * i + 1 → m ≡ 2 * i + 2 → size ≡ draw seed n 16 → many ≡ draw other m 4
    → creates (Volume (volume_of i (1 + size) (many == 0))) ≡ volume_line seed i
volume_at seed other n m i size many same first second size_is many_is =
    let s : size ≡ draw seed (2 * i + 1) 16 = drawn_at seed seed n (2 * i + 1) 16 size refl first size_is in
    let t : many ≡ draw seed (2 * i + 2) 4 = drawn_at seed other m (2 * i + 2) 4 many same second many_is in
    λ k. creates (Volume (volume_of i (1 + s k) (t k == 0)))

pub claim_at : (seed other n m i size class : ℕ) → other ≡ seed → n ≡ 2 * i + 513 → m ≡ 2 * i + 514 → size ≡ draw seed n 16 → class ≡ draw other m 4
    → creates (Claim (sized_claim (numbered (codes "c") i) (1 + size) (class_drawn class))) ≡ claim_line seed i
claim_at seed other n m i size class same first second size_is class_is =
    let s : size ≡ draw seed (2 * i + 513) 16 = drawn_at seed seed n (2 * i + 513) 16 size refl first size_is in
    let t : class ≡ draw seed (2 * i + 514) 4 = drawn_at seed other m (2 * i + 514) 4 class same second class_is in
    λ k. creates (Claim (sized_claim (numbered (codes "c") i) (1 + s k) (class_drawn (t k))))

pub delete_at : (seed n i claim : ℕ) → n ≡ i + 1025 → claim ≡ draw seed n 256
    → Call 1 (Delete (claim_key (numbered (codes "c") claim)) None) ≡ delete_line seed i
delete_at seed n i claim at claim_is =
    let s : claim ≡ draw seed (i + 1025) 256 = drawn_at seed seed n (i + 1025) 256 claim refl at claim_is in
    λ k. Call 1 (Delete (claim_key (numbered (codes "c") (s k))) None)
