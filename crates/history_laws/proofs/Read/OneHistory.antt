-- A text has at most one setup and list of entries.
use Rattle.std.proofs.Common.{◌≡◌, ℕ, List, [], ◌∷◌, ◌++◌, map, true, false, Option, Some, codes, bytes_eq, refl, sym, ap, ◌∙◌}
use Rattle.std.specs.List.{All}
use Rattle.std.proofs.lemmas.List.Elements.{All-head, All-tail}
use Rattle.serde_json.specs.Data.{Data}
use Rattle.json_text.specs.Build.{Good}
use Rattle.serde_json.specs.Written.{compact_text}
use Rattle.call_types.specs.declared.entry.Entry.{Entry}
use Rattle.call_types.specs.declared.setup.Setup.{Setup}
use Rattle.history_text.specs.Entries.{entry_data, entry_line, setup_data, setup_line}
use Rattle.history_lines.specs.Entries.{entry_in, setup_in}
use Rattle.history_read.specs.Grammar.{lines_of}
use Rattle.history_laws.specs.Read.Given.{IsEntry, IsSetup}
use Rattle.history_laws.specs.Read.Laws.{OneHistory}
use Rattle.json_text.proofs.Deep.{one_value_of}
use Rattle.history_laws.proofs.Read.EntriesBack.{entry_back, setup_back}
use Rattle.history_laws.proofs.Read.GoodLines.{entry_good, setup_good}
use Rattle.history_laws.proofs.Read.TextsRead.{not_end, end_first, lines_are}

-- two values of one text
one_value : {X : Type 0} (read : Data → Option X) (n : ℕ) (d e : Data) (x y : X) → Good n d → Good n e → read d ≡ Some x → read e ≡ Some y → compact_text d ≡ compact_text e → x ≡ y
one_value {X = X} read n d e x y good other first second same =
    let values : d ≡ e = one_value_of d e good.canonical other.canonical same in
    one x y (read d) first (ap read values ∙ second)
  where
    one : (a b : X) (o : Option X) → o ≡ Some a → o ≡ Some b → a ≡ b
    one a b o p q = cc

one_entry : (e f : Entry) → IsEntry e → IsEntry f → entry_line e ≡ entry_line f → e ≡ f
unfolding entry_line
one_entry e f is also same = one_value entry_in 131 (entry_data e) (entry_data f) e f (entry_good e is) (entry_good f also) (entry_back e is) (entry_back f also) same

one_setup : (s t : Setup) → IsSetup s → IsSetup t → setup_line s ≡ setup_line t → s ≡ t
unfolding setup_line
one_setup s t is also same = one_value setup_in 130 (setup_data s) (setup_data t) s t (setup_good s is) (setup_good t also) (setup_back s is) (setup_back t also) same

head_is : {X : Type 0} {x y : X} {xs ys : List X} → ◌≡◌ {A = List X} (x ∷ xs) (y ∷ ys) → x ≡ y
head_is h = cc

tail_is : {X : Type 0} {x y : X} {xs ys : List X} → ◌≡◌ {A = List X} (x ∷ xs) (y ∷ ys) → xs ≡ ys
tail_is h = cc

ends_apart : (e : Entry) → entry_line e ≡ codes "end" → ⊥
ends_apart e same = let no : bytes_eq (entry_line e) (codes "end") ≡ false = not_end e in let yes : bytes_eq (entry_line e) (codes "end") ≡ true = ap (λ l. bytes_eq l (codes "end")) same in cc

-- lines of entries up to the line `end`
one_list : (es fs : List Entry) (more others : List (List ℕ)) → All IsEntry es → All IsEntry fs → map entry_line es ++ codes "end" ∷ more ≡ map entry_line fs ++ codes "end" ∷ others → es ≡ fs
one_list [] [] more others is also same = refl
one_list [] (f ∷ fs) more others is also same = absurd (ends_apart f (sym (head_is same)))
one_list (e ∷ es) [] more others is also same = absurd (ends_apart e (head_is same))
one_list (e ∷ es) (f ∷ fs) more others is also same =
    let first : e ≡ f = one_entry e f (All-head IsEntry e es is) (All-head IsEntry f fs also) (head_is same) in
    let rest : es ≡ fs = one_list es fs more others (All-tail IsEntry e es is) (All-tail IsEntry f fs also) (tail_is same) in
    ap (λ x. x ∷ es) first ∙ ap (λ xs. f ∷ xs) rest

pub one_history : OneHistory
one_history text s t es fs is also h k =
    let a = end_first h.0 h.1 in
    let b = end_first k.0 k.1 in
    let first : lines_of text ≡ setup_line s ∷ (map entry_line es ++ codes "end" ∷ a.0) = lines_are text s es is h ∙ ap (λ l. setup_line s ∷ (map entry_line es ++ l)) a.1 in
    let second : lines_of text ≡ setup_line t ∷ (map entry_line fs ++ codes "end" ∷ b.0) = lines_are text t fs also k ∙ ap (λ l. setup_line t ∷ (map entry_line fs ++ l)) b.1 in
    let same = sym first ∙ second in
    (one_setup s t is.setup also.setup (head_is same), one_list es fs a.0 b.0 is.entries also.entries (tail_is same))
