-- A parse of the command of `clap`, and what the words say.
use Rattle.std.proofs.Common.{◌≡◌, ◌∙◌, inl, inr, true, refl, sym, ap, subst, List, [], ◌∷◌, None, Result, Ok, Err, IsErrAnd}
use Rattle.clap.specs.Walk.{first_of, rows_of}
use Rattle.clap.specs.Simple.{HasMatchesOf, app_of, is_simple, matches_of}
use Rattle.clap.specs.Matches.{first_value, found_of}
use Rattle.clap.specs.Values.{kind_of}
use Rattle.clap.specs.Kinds.{HasKind, Kinds}
use Rattle.clap.specs.Faults.{fault_of, is_simple_and_free}
use Rattle.clap.specs.declared.builder.command.Command.{Command}
use Rattle.clap.specs.declared.error.Error.{Error}
use Rattle.clap.specs.declared.error.kind.ErrorKind.TheVariants as kind
use Rattle.clap.specs.declared.parser.matches.ArgMatches.{ArgMatches}
use Rattle.clap.proofs.WalkLemmas.{first_value-rows}
use Rattle.command_words.specs.Grammar.{Reads, Text, words_by, words_of}
use Rattle.command_words.specs.Steps.Line.{Matches, line}
use Rattle.command_words.specs.declared.words.CommandWords.{CommandWords}
use Rattle.command_words.specs.declared.words.WordsError.{WordsError}
use Rattle.command_words.specs.declared.words.WordsError.TheVariants.{Usage, OutOfMemory}
use Rattle.command_words.proofs.Walking.{parse_fails, parse_ok}

module _ (l : Command) (words : List Text) (built : app_of l ≡ line) where
  pub parsed : (m : ArgMatches) → HasMatchesOf (app_of l) words m → (is_simple_and_free (app_of l) ≡ true → fault_of (app_of l) words ≡ []) → Matches words (Ok m)
  parsed m h k =
      let none : fault_of line words ≡ [] = ap (λ a. fault_of a words) (sym built) ∙ k (ap is_simple_and_free built) in
      let rows : rows_of (found_of m) ≡ matches_of line words = (h (ap is_simple built)).0 ∙ ap (λ a. matches_of a words) built in
      let same : words_by (λ id. first_of id (matches_of line words)) ≡ words_by (first_value (found_of m)) =
      ap words_by (λ i id. (ap (first_of id) (sym rows) ∙ sym (first_value-rows (found_of m) id)) i) in
      parse_ok words none ∙ same

  pub refused : (e : Error) → (is_simple_and_free (app_of l) ≡ true → HasKind (fault_of (app_of l) words) e) → (kind_of e ≡ kind.OutOfMemory → ⊥) → Matches words (Err Usage)
  refused e k other =
      let fails : HasKind (fault_of line words) e = subst (λ a. HasKind (fault_of a words) e) built (k (ap is_simple_and_free built)) in
      go (fault_of line words) refl fails
    where
      go : (f : Kinds) → fault_of line words ≡ f → HasKind f e → words_of words ≡ None
      go f is (inl memory) = absurd (other memory)
      go [] is (inr none) = absurd none
      go (x ∷ xs) is (inr among) = parse_fails words x xs is

-- a refusal is handed on as it is
pub passed_up : (words : List Text) (r : Result CommandWords WordsError) (e : WordsError) → IsErrAnd r (λ y. y ≡ e) → Matches words (Err e) → Reads r (words_of words)
passed_up words (Ok x) e is h = absurd is
passed_up words (Err y) e is h = go y (subst (λ z. Matches words (Err z)) (sym is) h)
  where
    go : (z : WordsError) → Matches words (Err z) → Reads (Err z) (words_of words)
    go Usage k = k
    go OutOfMemory k = tt
