-- What a text in pieces is after more was put at its end.
use Rattle.std.proofs.Common.{◌≡◌, ℕ, get_or, ◌+◌, ◌-◌, ◌<◌, ◌≤◌, List, [], ◌∷◌, ◌++◌, length, take, drop, refl, sym, ap, ◌∙◌, arith, append_assoc, append-nil, take_all, length-drop}
use Rattle.std.proofs.lemmas.List.{take-append-le, drop-append-le, drop_all, drop_more, drop-drop}
use Rattle.piece_print.specs.declared.pieces.Piece.{Piece}
use Rattle.piece_print.specs.Pieces.{joined, owned}

pub owned_more : (ps : List Piece) (p : Piece) → owned (ps ++ p ∷ []) ≡ owned ps + p.own
owned_more [] p = omega arith
owned_more (q ∷ ps) p = omega (arith, owned_more ps p)

pub joined_more : (ps : List Piece) (own more : List ℕ) → owned ps ≤ length own → joined ps (own ++ more) ≡ joined ps own ++ more
joined_more [] own more h = refl
joined_more (p ∷ ps) own more h =
    let fits : p.own ≤ length own = omega (arith, h) in
    let rest : owned ps ≤ length (drop p.own own) = omega (arith, h, length-drop p.own own) in
    ap (λ front. front ++ (p.shared ++ joined ps (drop p.own (own ++ more)))) (take-append-le p.own own more fits)
    ∙ ap (λ back. take p.own own ++ (p.shared ++ joined ps back)) (drop-append-le p.own own more fits)
    ∙ ap (λ back. take p.own own ++ (p.shared ++ back)) (joined_more ps (drop p.own own) more rest)
    ∙ ap (λ back. take p.own own ++ back) (sym (append_assoc p.shared (joined ps (drop p.own own)) more))
    ∙ sym (append_assoc (take p.own own) (p.shared ++ joined ps (drop p.own own)) more)

-- a piece that has all the own bytes which are left
joined_last : (ps : List Piece) (p : Piece) (own : List ℕ) → owned ps + p.own ≡ length own → joined (ps ++ p ∷ []) own ≡ joined ps own ++ p.shared
joined_last [] p own h =
    let all : length own ≤ p.own = omega (arith, h) in
    ap (λ front. front ++ (p.shared ++ drop p.own own)) (take_all p.own own all)
    ∙ ap (λ back. own ++ (p.shared ++ back)) (drop_all p.own own all)
    ∙ ap (λ back. own ++ back) (append-nil p.shared)
joined_last (q ∷ ps) p own h =
    let rest : owned ps + p.own ≡ length (drop q.own own) = omega (arith, h, length-drop q.own own) in
    ap (λ back. take q.own own ++ (q.shared ++ back)) (joined_last ps p (drop q.own own) rest)
    ∙ ap (λ back. take q.own own ++ back) (sym (append_assoc q.shared (joined ps (drop q.own own)) p.shared))
    ∙ sym (append_assoc (take q.own own) (q.shared ++ joined ps (drop q.own own)) p.shared)

pub joined_shared : (ps : List Piece) (p : Piece) (own more : List ℕ) → owned ps ≤ length own → owned ps + p.own ≡ length (own ++ more)
    → joined (ps ++ p ∷ []) (own ++ more) ≡ joined ps own ++ (more ++ p.shared)
joined_shared ps p own more within ends =
    joined_last ps p (own ++ more) ends
    ∙ ap (λ front. front ++ p.shared) (joined_more ps own more within)
    ∙ append_assoc (joined ps own) more p.shared

-- ---- one piece on

pub owned_next : (ps : List Piece) (i : ℕ) (p : Piece) → i < length ps → p ≡ get_or ps i p → owned (drop i ps) ≡ p.own + owned (drop (i + 1) ps)
owned_next ps i p lt is = ap owned (drop_more ps i p lt ∙ ap (λ (q : Piece). q ∷ drop (i + 1) ps) (sym is))

pub joined_next : (ps : List Piece) (i : ℕ) (p : Piece) (own : List ℕ) (at : ℕ) (shared : List ℕ) → i < length ps → p ≡ get_or ps i p → shared ≡ p.shared
    → joined (drop i ps) (drop at own) ≡ (take (at + p.own - at) (drop at own) ++ shared) ++ joined (drop (i + 1) ps) (drop (at + p.own) own)
joined_next ps i p own at shared lt is told =
    let same : at + p.own - at ≡ p.own = omega arith in
    ap (λ (qs : List Piece). joined qs (drop at own)) (drop_more ps i p lt ∙ ap (λ (q : Piece). q ∷ drop (i + 1) ps) (sym is))
    ∙ ap (λ back. take p.own (drop at own) ++ (p.shared ++ joined (drop (i + 1) ps) back)) (drop-drop p.own at own)
    ∙ sym (append_assoc (take p.own (drop at own)) p.shared (joined (drop (i + 1) ps) (drop (at + p.own) own)))
    ∙ ap (λ n. (take n (drop at own) ++ p.shared) ++ joined (drop (i + 1) ps) (drop (at + p.own) own)) (sym same)
    ∙ ap (λ s. (take (at + p.own - at) (drop at own) ++ s) ++ joined (drop (i + 1) ps) (drop (at + p.own) own)) (sym told)

-- the own bytes from a place on, as a slice
pub joined_end : (ps : List Piece) (i : ℕ) (own : List ℕ) (at : ℕ) → length ps ≤ i → take (length own - at) (drop at own) ≡ joined (drop i ps) (drop at own)
joined_end ps i own at le = take_all (length own - at) (drop at own) (omega (arith, length-drop at own)) ∙ ap (λ (qs : List Piece). joined qs (drop at own)) (sym (drop_all i ps le))
