-- The words of lines. A choice of this project.
use Rattle.std.specs.Prelude.{ℕ, List, [], ◌∷◌, Option, codes}
use Rattle.kube_parts.specs.Named.{value_named}
use Rattle.script_lines.specs.declared.verbs.Verb.{Verb}
use Rattle.script_lines.specs.declared.verbs.Verb.TheVariants.{Create, Update, Edit, Delete, Get, List as ListAll, Time, Pool, Fault, Import, Lose, Restart, Turn, Drain}

-- the word of a verb, as a line's `do` has it
abbrev pub verb_word : Verb → List ℕ
verb_word Create = codes "create"
verb_word Update = codes "update"
verb_word Edit = codes "edit"
verb_word Delete = codes "delete"
verb_word Get = codes "get"
verb_word ListAll = codes "list"
verb_word Time = codes "time"
verb_word Pool = codes "pool"
verb_word Fault = codes "fault"
verb_word Import = codes "import"
verb_word Lose = codes "lose"
verb_word Restart = codes "restart"
verb_word Turn = codes "turn"
verb_word Drain = codes "drain"

-- the fourteen verbs
abbrev pub all_verbs : List Verb
all_verbs = Create ∷ Update ∷ Edit ∷ Delete ∷ Get ∷ ListAll ∷ Time ∷ Pool ∷ Fault ∷ Import ∷ Lose ∷ Restart ∷ Turn ∷ Drain ∷ []

-- the verb of a word, if it is that of one
abbrev pub verb_named : List ℕ → Option Verb
verb_named word = value_named verb_word all_verbs word
