-- What ends the text of a history that was served: the line end, the objects and the numbers of the world.
-- A choice of this project: the output format of a replay. No drain was made, so what is due is due after no calls.
use Rattle.std.specs.Prelude.{ℕ, ◌≡◌, List, [], ◌∷◌, Option, Some, None, length, codes}
use Rattle.kube_objects.specs.declared.key.Key.{Key}
use Rattle.kube_parts.specs.declared.names.Due.{Due}
use Rattle.call_types.specs.declared.entry.Entry.{Entry}
use Rattle.call_types.specs.declared.setup.Setup.{Setup}
use Rattle.binder_model.specs.Due.{IsFirstDue}
use Rattle.binder_model.specs.World.{World, world}
use Rattle.device_model.specs.Kept.{count_there}
use Rattle.history_text.specs.declared.summary.Ending.{Ending}
use Rattle.history_text.specs.declared.summary.Ending.TheVariants.{Settled, Unsettled}
use Rattle.history_text.specs.declared.summary.Summary.{Summary}
use Rattle.history_text.specs.Summaries.{summary_of}
use Rattle.history_text.specs.Output.{final_lines, with_lines}
use Rattle.store_server.specs.Serving.{Opened}

-- settled, or the first action that is due
abbrev pub ending_of : Option (Key × Due) → Ending
ending_of None = Settled
ending_of (Some first) = Unsettled 0 first.0 first.1

-- the numbers of the world
unfoldable pub closing_summary : World → Option (Key × Due) → Summary
closing_summary w first = summary_of w.store.rows w.store.version (length w.devices.mounts) (count_there w.devices.stored) w.devices.calls (ending_of first)

-- the line end, the objects and the numbers
abbrev pub closing_lines : World → Option (Key × Due) → List (List ℕ)
closing_lines w first = codes "end" ∷ final_lines w.store.rows (closing_summary w first)

-- the text ends the history of these entries
pub record Closes (setup : Setup) (past : List Entry) (text : List ℕ) : Type 0 where
  pub first : Option (Key × Due)
  pub due : IsFirstDue setup (world setup past) first
  pub printed : text ≡ with_lines [] (closing_lines (world setup past) first)

-- the text that ends what was served; nothing where no setup was read
abbrev pub IsClosing : Option Opened → List ℕ → Type 0
IsClosing None text = text ≡ []
IsClosing (Some o) text = Closes o.setup o.past text
