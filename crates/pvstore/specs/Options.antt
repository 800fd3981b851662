-- The words behind `judge`. A choice of this project.
use Rattle.std.specs.Prelude.{ℕ, ◌≡◌, List, [], ◌∷◌, ◌++◌, Bool, true, false, if◌then◌else◌, Option, Some, None, codes, bytes_eq}
use Rattle.std.specs.List.{list_any}
use Rattle.pvstore.specs.declared.options.TakenWords.{TakenWords}
use Rattle.store_judge.specs.declared.printing.JudgeOptions.{JudgeOptions}

-- the words of the rules of an audit
abbrev pub all_rules : List (List ℕ)
all_rules =
    codes "Answer" ∷ codes "ClaimRef" ∷ codes "PhaseBound" ∷ codes "Completion" ∷ codes "DefaultClass" ∷ codes "Available" ∷ codes "Released" ∷ codes "Failed"
    ∷ codes "Unbind" ∷ codes "DropVolumeGuard" ∷ codes "DropClaimGuard" ∷ codes "AddGuard" ∷ codes "Provision" ∷ codes "CreateVolume" ∷ codes "Erase"
    ∷ codes "DeleteVolume" ∷ codes "Lost" ∷ codes "ClaimStatus" ∷ codes "SelectedNode" ∷ codes "BindPod" ∷ codes "Mount" ∷ codes "FinishPod" ∷ codes "Reading"
    ∷ codes "Kind" ∷ []

-- the word is one of these
abbrev pub is_among : List ℕ → List (List ℕ) → Bool
is_among word words = list_any (λ one. bytes_eq word one) words

-- the word is that of a rule
abbrev pub is_rule : List ℕ → Bool
is_rule word = is_among word all_rules

-- before the first word
abbrev pub untaken : TakenWords
untaken = record { json = false; without = []; waits = false }

-- a word that stands where none is waited for
abbrev pub take_option : TakenWords → List ℕ → Option TakenWords
take_option t word =
    if bytes_eq word (codes "--json") then Some (record t { json = true })
    else if bytes_eq word (codes "--without") then Some (record t { waits = true })
    else None

-- a rule that is left out
abbrev pub take_rule : TakenWords → List ℕ → Option TakenWords
take_rule t word = if is_rule word then Some (record t { without = t.without ++ word ∷ []; waits = false }) else None

-- one word more
abbrev pub take_word : TakenWords → List ℕ → Option TakenWords
take_word t word = if t.waits then take_rule t word else take_option t word

-- the words in their turn, as long as each is known
abbrev pub take_next : Option TakenWords → (TakenWords → Option TakenWords) → Option TakenWords
take_next None next = None
take_next (Some t) next = next t

-- all words
abbrev pub take_words : TakenWords → List (List ℕ) → Option TakenWords
take_words t [] = Some t
take_words t (word ∷ words) = take_next (take_word t word) (λ u. take_words u words)

-- the options, where no rule is waited for any more
abbrev pub options_from : Option TakenWords → Option JudgeOptions
options_from None = None
options_from (Some t) = if t.waits then None else Some (record { json = t.json; without = t.without })

-- the options of the words behind `judge`
abbrev pub options_of : List (List ℕ) → Option JudgeOptions
options_of words = options_from (take_words untaken words)

-- the word was taken, or is not known
abbrev pub IsTaken : Bool → TakenWords → Option TakenWords → Type 0
IsTaken true now answer = answer ≡ Some now
IsTaken false now answer = answer ≡ None
