-- A watch reaches no further than the log.
use Rattle.std.proofs.Common.{◌≡◌, ◌⊎◌, ◌≤◌, ℕ, List, [], ◌∷◌, length, Bool, true, false, inl, inr, refl, sym, arith}
use Rattle.std.specs.Prelude.{◌==◌, take, filter}
use Rattle.kube_parts.specs.declared.parts.Kind.{Kind}
use Rattle.call_types.specs.declared.reply.Event.{Event}
use Rattle.binder_model.specs.Told.{SomeOf, own}
use Rattle.binder_model.specs.Watching.{events_after, is_later, last_version, most_events, told_events}
use Rattle.binder_model.specs.World.{watch}
use Rattle.model_laws.proofs.Lists.{some_filter, some_reverse, some_take}
use Rattle.model_laws.proofs.Watched.{AreBetween}

pub version_below : (high last : ℕ) (es : List Event) → AreBetween 0 high es → SomeOf (λ e. e.version ≡ last) es → last ≤ high
version_below high last [] b s = absurd s
version_below high last (e ∷ es) b (inl is) = let h = b.1 in omega (arith, h, is)
version_below high last (e ∷ es) b (inr more) = version_below high last es b.2 more

pub last_in : (none : ℕ) (es : List Event) → (last_version none es ≡ none) ⊎ SomeOf (λ e. e.version ≡ last_version none es) es
last_in none [] = inl refl
last_in none (e ∷ es) = elim (last_in e.version es) [ inl own ↦ inr (inl (sym own)) | inr more ↦ inr (inr more) ]

pub last_below : (k : Kind) (from high : ℕ) (log : List Event) → AreBetween 0 high log → last_version high (take most_events (events_after k from log)) ≤ high
last_below k from high log b = elim (last_in high (take most_events (events_after k from log))) [
  | inl is ↦ omega (arith, is)
  | inr more ↦ version_below high _ log b (some_filter _ (is_later k from) log (some_reverse _ (filter (is_later k from) log) (some_take _ most_events (events_after k from log) more)))
]

pub reached_below : (k : Kind) (from high : ℕ) (log : List Event) → AreBetween 0 high log → (told_events k from high log).upto ≤ high
reached_below k from high log b = by (length (take most_events (events_after k from log)) == most_events) refl
  where
    by : (full : Bool) → (length (take most_events (events_after k from log)) == most_events) ≡ full → (told_events k from high log).upto ≤ high
    by true is = rw is (last_below k from high log b)
    by false is = rw is (omega arith)
