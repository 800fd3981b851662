-- What is put at the end of a text is put at the end of a longer one.
use Rattle.std.proofs.Common.{◌≡◌, ℕ, List, [], ◌∷◌, ◌++◌, true, false, Some, refl, sym, ap, ◌∙◌, append_assoc, append-nil}
use Rattle.json.specs.Print.{quoted}
use Rattle.serde_json.specs.Data.{Data}
use Rattle.serde_json.specs.Written.{comma_if, compact_text}
use Rattle.json_text.specs.Members.{with_option}
use Rattle.json_text.specs.Writing.{Writing, after_comma, line_ended, with_text, with_value, with_key, with_member, opened, closed}
use Rattle.piece_print.specs.Writing.{behind}

pub behind_none : (v : Writing) → v ≡ ([], false) → behind [] v ≡ ([], false)
unfolding behind
behind_none v is = is

pub begun_behind : (s : List ℕ) (w v : Writing) → v ≡ (w.0, false) → behind s v ≡ ((behind s w).0, false)
unfolding behind
begun_behind s w v is = ap (λ (x : Writing). (s ++ x.0, x.1)) is

pub text_of_behind : (s : List ℕ) (w : Writing) → (behind s w).0 ≡ s ++ w.0
unfolding behind
text_of_behind s w = refl

pub text_of_tail : (s : List ℕ) (w : Writing) → s ≡ [] → (behind s w).0 ≡ w.0
unfolding behind
text_of_tail s w is = ap (λ x. x ++ w.0) is

pub line_behind : (s : List ℕ) (w v : Writing) → v ≡ line_ended w → behind s v ≡ line_ended (behind s w)
unfolding behind line_ended
line_behind s w v is = ap (behind s) is ∙ ap (λ t. (t, false)) (sym (append_assoc s w.0 (10 ∷ [])))

pub closed_behind : (c : ℕ) (s : List ℕ) (w v : Writing) → v ≡ closed c w → behind s v ≡ closed c (behind s w)
unfolding behind closed
closed_behind c s w v is = ap (behind s) is ∙ ap (λ t. (t, true)) (sym (append_assoc s w.0 (c ∷ [])))

comma_behind : (s : List ℕ) (w : Writing) → s ++ after_comma w ≡ after_comma (behind s w)
unfolding behind after_comma
comma_behind s w = sym (append_assoc s w.0 (comma_if w.1))

pub opened_behind : (c : ℕ) (s : List ℕ) (w v : Writing) → v ≡ opened c w → behind s v ≡ opened c (behind s w)
unfolding behind opened
opened_behind c s w v is = ap (behind s) is ∙ ap (λ t. (t, false)) (sym (append_assoc s (after_comma w) (c ∷ [])) ∙ ap (λ t. t ++ c ∷ []) (comma_behind s w))

text_put : (t s : List ℕ) (w : Writing) → behind s (with_text t w) ≡ with_text t (behind s w)
unfolding behind with_text
text_put t s w = ap (λ x. (x, true)) (sym (append_assoc s (after_comma w) t) ∙ ap (λ x. x ++ t) (comma_behind s w))

pub text_behind : (t s : List ℕ) (w v : Writing) → v ≡ with_text t w → behind s v ≡ with_text t (behind s w)
text_behind t s w v is = ap (behind s) is ∙ text_put t s w

pub value_behind : (d : Data) (s : List ℕ) (w v : Writing) → v ≡ with_value d w → behind s v ≡ with_value d (behind s w)
value_behind d s w v is = text_behind (compact_text d) s w v is

key_put : (k s : List ℕ) (w : Writing) → behind s (with_key k w) ≡ with_key k (behind s w)
unfolding behind with_key
key_put k s w = ap (λ x. (x, false))
    (sym (append_assoc s (after_comma w ++ quoted k) (58 ∷ []))
    ∙ ap (λ x. x ++ 58 ∷ []) (sym (append_assoc s (after_comma w) (quoted k)) ∙ ap (λ x. x ++ quoted k) (comma_behind s w)))

pub key_behind : (k s : List ℕ) (w v : Writing) → v ≡ with_key k w → behind s v ≡ with_key k (behind s w)
key_behind k s w v is = ap (behind s) is ∙ key_put k s w

pub member_behind : (k : List ℕ) (d : Data) (s : List ℕ) (w v : Writing) → v ≡ with_option with_member k (Some d) w → behind s v ≡ with_option with_member k (Some d) (behind s w)
unfolding with_option
member_behind k d s w v is = ap (behind s) is ∙ text_put (compact_text d) s (with_key k w) ∙ ap (with_text (compact_text d)) (key_put k s w)

-- the comma that is due is put, then a shared text, and the rest begins after it
pub shared_behind : (t s r : List ℕ) (w v u : Writing) → v ≡ with_text [] w → r ≡ s ++ (v.0 ++ t) → u ≡ ([], true) → behind r u ≡ with_text t (behind s w)
unfolding behind with_text
shared_behind t s r w v u comma put next =
    ap (behind r) next
    ∙ ap (λ x. (x, true))
    (append-nil r ∙ put ∙ ap (λ (y : Writing). s ++ (y.0 ++ t)) comma
    ∙ ap (λ x. s ++ (x ++ t)) (append-nil (after_comma w))
    ∙ sym (append_assoc s (after_comma w) t) ∙ ap (λ x. x ++ t) (comma_behind s w))
