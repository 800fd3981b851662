-- What a watch tells a text can give, where the log has such events.
use Rattle.std.proofs.Common.{arith}
use Rattle.std.specs.Prelude.{ℕ, ◌==◌, ◌^◌, ◌≤◌, Bool, true, false, List, [], ◌∷◌, All, take, filter, length, if◌then◌else◌}
use Rattle.std.proofs.lemmas.List.Elements.{All-head, All-tail, All-filter, All-take}
use Rattle.kube_parts.specs.declared.parts.Kind.{Kind}
use Rattle.call_types.specs.declared.reply.Event.{Event}
use Rattle.binder_model.specs.Watching.{oldest, is_later, events_after, last_version, most_events, reached_version, told_events}
use Rattle.history_laws.specs.Read.Given.{IsNumber, IsEvent, AreEvents}
use Rattle.history_laws.proofs.Runs.Lists.{reverse_all}

last_number : (none : ℕ) (es : List Event) → IsNumber none → All IsEvent es → IsNumber (last_version none es)
last_number none [] is h = is
last_number none (e ∷ es) is h = last_number e.version es (All-head IsEvent e es h).version (All-tail IsEvent e es h)

reached_number : (version : ℕ) (es : List Event) → IsNumber version → All IsEvent es → IsNumber (reached_version version es)
reached_number version es is h = by (length es == most_events)
  where
    by : (b : Bool) → IsNumber (if b then last_version version es else version)
    by true = last_number version es is h
    by false = is

pub told_given : (kind : Kind) (from version : ℕ) (log : List Event) → IsNumber version → All IsEvent log → AreEvents (told_events kind from version log)
told_given kind from version log is h =
    let told = All-take IsEvent most_events (events_after kind from log) (reverse_all IsEvent (filter (is_later kind from) log) (All-filter (is_later kind from) IsEvent log h)) in
    record { events = told; upto = reached_number version (take most_events (events_after kind from log)) is told }

pub oldest_number : (base version : ℕ) → base ≤ 2 ^ 62 → version ≤ 2 ^ 62 → IsNumber (oldest base version)
oldest_number base version low few = omega (arith, low, few)
