-- A user's seat, line by line.
use Rattle.std.proofs.Common.{◌≡◌, ◌≢◌, refl, sym, ◌∙◌, ap, subst, append_assoc, eq-eqb, ne_eqb, true, ℕ, ◌+◌, ◌<◌, List, [], ◌∷◌, ◌++◌, drop, length, map, slice_index_or}
use Rattle.std.proofs.lemmas.List.{drop_more, reverse-append}
use Rattle.call_types.specs.declared.entry.Entry.{Entry}
use Rattle.call_types.specs.declared.request.Request.{Request}
use Rattle.call_types.specs.declared.request.SeatKind.TheVariants.{User}
use Rattle.script_text.specs.declared.script.Line.{Line}
use Rattle.script_text.specs.declared.script.Line.TheVariants.{Call, Lose, Restart, Turn, Drain}
use Rattle.shared_work.specs.Lines.{HasAsked, HasDone, asked_by, asked_if, asked_in, call_of, user_call}

-- nothing is done yet
pub none_done : (seat : ℕ × List Entry) → HasDone [] seat seat
none_done seat = ([], refl, refl)

-- a line in which the user asks nothing
pub passed_over : (line : Line) (lines : List Line) (before end : ℕ × List Entry) → asked_in before.0 line ≡ [] → HasDone lines before end → HasDone (line ∷ lines) before end
passed_over line lines before end none done = (done.0, done.1, done.2 ∙ ap (λ (asked : List Request). map (user_call before.0) (asked ++ asked_by before.0 lines)) (sym none))

-- a line in which it asks this
pub asked_first : (line : Line) (request : Request) (lines : List Line) (before now end : ℕ × List Entry) → asked_in before.0 line ≡ request ∷ []
    → HasAsked request before now → HasDone lines now end → HasDone (line ∷ lines) before end
asked_first line request lines before now end asks asked done =
    let e : Entry = record { seat = before.0; kind = User; request = request; reply = asked.0; told = true } in
    let same : now.0 ≡ before.0 = ap (λ (s : ℕ × List Entry). s.0) asked.1 in
    let grown : now.1 ≡ e ∷ before.1 = ap (λ (s : ℕ × List Entry). s.1) asked.1 in
    let late = done.0 in (
      late ++ e ∷ [],
      done.1 ∙ (λ i. (same i, (ap (λ (es : List Entry). late ++ es) grown ∙ sym (append_assoc late (e ∷ []) before.1)) i)),
      ap (map call_of) (reverse-append late (e ∷ []))
          ∙ ap (λ (calls : List _). call_of e ∷ calls) (done.2 ∙ (λ i. map (user_call (same i)) (asked_by (same i) lines)))
          ∙ ap (λ (requests : List Request). map (user_call before.0) (requests ++ asked_by before.0 lines)) (sym asks),
    )

-- a user's call line asks its request
pub own_line : (user by : ℕ) (request : Request) → by ≡ user → asked_in user (Call by request) ≡ request ∷ []
own_line user by request is = ap (λ (b : _). asked_if b request) (eq-eqb by user is)

-- a line that is no user's call asks nothing
pub no_call : (user : ℕ) (line : Line) → ((by : ℕ) (request : Request) → line ≡ Call by request → ⊥) → asked_in user line ≡ []
no_call user (Call by request) none = absurd (none by request refl)
no_call user (Lose actor call after) none = refl
no_call user (Restart actor after) none = refl
no_call user (Turn actor calls) none = refl
no_call user Drain none = refl

-- another user's call line asks nothing of this one
pub other_line : (user by : ℕ) (request : Request) → by ≢ user → asked_in user (Call by request) ≡ []
other_line user by request other = ap (λ (b : _). asked_if b request) (ne_eqb by user other)

-- the line at a place, and those after it
module _ (lines : List Line) (i : ℕ) (line : Line) (lt : i < length lines) (is : line ≡ slice_index_or lines i line) (before end : ℕ × List Entry) where
  from_here : drop i lines ≡ line ∷ drop (i + 1) lines
  from_here = drop_more lines i line lt ∙ ap (λ (l : Line). l ∷ drop (i + 1) lines) (sym is)

  pub over_line : asked_in before.0 line ≡ [] → HasDone (drop (i + 1) lines) before end → HasDone (drop i lines) before end
  over_line none done = subst (λ (ls : List Line). HasDone ls before end) (sym from_here) (passed_over line (drop (i + 1) lines) before end none done)

  pub with_line : (request : Request) (now : ℕ × List Entry) → asked_in before.0 line ≡ request ∷ [] → HasAsked request before now
      → HasDone (drop (i + 1) lines) now end → HasDone (drop i lines) before end
  with_line request now asks asked done = subst (λ (ls : List Line). HasDone ls before end) (sym from_here) (asked_first line request (drop (i + 1) lines) before now end asks asked done)
