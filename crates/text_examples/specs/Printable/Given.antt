-- Short histories with values that a text can give, and some without; their texts, and texts that are not theirs.
-- A choice of this project, as the history format is.
use Rattle.std.specs.Prelude.{ℕ, ◌^◌, ◌++◌, List, [], ◌∷◌, true, codes}
use Rattle.kube_objects.specs.declared.key.Key.{Key}
use Rattle.kube_parts.specs.declared.parts.Kind.TheVariants as kinds
use Rattle.call_types.specs.declared.entry.Entry.{Entry}
use Rattle.call_types.specs.declared.setup.Setup.{Setup}
use Rattle.call_types.specs.declared.request.Request.{Request}
use Rattle.call_types.specs.declared.request.Request.TheVariants as requests
use Rattle.call_types.specs.declared.request.SeatKind.TheVariants.{User}
use Rattle.call_types.specs.declared.reply.Reply.TheVariants.{Refused}
use Rattle.call_types.specs.declared.reply.Refusal.TheVariants.{NotFound}
use Rattle.history_text.specs.Output.{history_text, with_lines}
use Rattle.history_laws.specs.Read.Given.{IsTextHistory, IsSetup}
use Rattle.history_laws.specs.Read.Texts.{IsTextOf, lines_before_end}
use Rattle.history_laws.specs.Runs.Laws.{HasOneHistory, IsAskedGiven, IsGivenRun}

abbrev pub bare : Setup
bare = record { pools = []; faults = []; imports = [] }

-- a user's call that finds nothing
abbrev pub finds_nothing : ℕ → Request → Entry
finds_nothing seat request = record { seat = seat; kind = User; request = request; reply = Refused NotFound; told = true }

abbrev pub looks : Request
looks = requests.Get (record { kind = kinds.Pod; namespace = codes "default"; name = codes "p" })

-- a watch from a version that no number of 64 bits is
abbrev pub watches_far : Request
watches_far = requests.Watch kinds.Pod (2 ^ 64)

pub record GivenExamples : Type 0 where
  pub nothing : IsTextHistory bare []
  pub a_call : IsTextHistory bare (finds_nothing 1 looks ∷ [])
  pub no_such_seat : IsTextHistory bare (finds_nothing (2 ^ 64) looks ∷ []) → ⊥
  pub no_such_version : IsTextHistory bare (finds_nothing 1 watches_far ∷ []) → ⊥
  pub no_falling_faults : IsSetup (record bare { faults = 2 ∷ 1 ∷ [] }) → ⊥
  pub asked : IsAskedGiven (finds_nothing 1 looks)
  pub not_asked : IsAskedGiven (finds_nothing 1 watches_far) → ⊥
  pub a_run : IsGivenRun bare []
  pub no_run_of_falling_faults : IsGivenRun (record bare { faults = 2 ∷ 1 ∷ [] }) [] → ⊥
  pub its_text : IsTextOf (history_text bare []) bare []
  pub not_without_its_end : IsTextOf (with_lines [] (lines_before_end bare [])) bare [] → ⊥
  pub alone : HasOneHistory (history_text bare []) bare []
  pub not_of_a_call : HasOneHistory (history_text bare []) bare (finds_nothing 1 looks ∷ []) → ⊥
