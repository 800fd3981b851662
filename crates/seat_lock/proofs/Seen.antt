-- What views have seen still begins the lock's list after a step.
use Rattle.std.proofs.Common.{◌≡◌, ℕ, List, [], ◌∷◌, ◌++◌, set, sym, refl, ap, ◌∙◌, subst, ⊎_elim, Bool, true, false, if◌then◌else◌, append-nil}
use Rattle.std.specs.Prelude.{◌==◌}
use mathlib.Core.Option.{some-ne-none}
use Rattle.atomic_table.proofs.Lists.{at_set}
use Rattle.seat_lock.specs.declared.keeps.Entry.{Entry}
use Rattle.seat_lock.specs.declared.known.Known.{Known}
use Rattle.seat_lock.specs.History.{calls_of, StartsWith}
use Rattle.seat_lock.specs.Steps.Rule.{AreSeen, spent_view}
use Rattle.seat_lock.proofs.Views.{at_snoc, starts_more}

pub starts_none : {A R : Type 0} (log : List (Entry A R)) → StartsWith log []
starts_none log = (log, sym (append-nil log))

module _ {A R B : Type 0} where
  pub seen_set : (log : List (Entry A R)) (vs : List (Known A R B)) (i : ℕ) (w : Known A R B) → StartsWith log w.front → AreSeen log vs → AreSeen log (set vs i w)
  seen_set log vs i w front all j v at = ⊎_elim (λ (t : (j ≡ i) × (w ≡ v)). subst (λ (u : Known A R B). StartsWith log u.front) t.1 front) (λ t. all j v t.1) (at_set vs i j w v at)

  pub seen_snoc : (log : List (Entry A R)) (vs : List (Known A R B)) (w : Known A R B) → StartsWith log w.front → AreSeen log vs → AreSeen log (vs ++ w ∷ [])
  seen_snoc log vs w front all j v at = ⊎_elim (λ t. all j v t.0) (λ t. subst (λ (u : Known A R B). StartsWith log u.front) t.1 front) (at_snoc vs w v j at)

  pub seen_alone : (log : List (Entry A R)) (w : Known A R B) → StartsWith log w.front → AreSeen log (w ∷ [])
  seen_alone log w front = seen_snoc log [] w front (λ j v at. absurd (some-ne-none v (sym at)))

  pub seen_more : (e : Entry A R) (log log' : List (Entry A R)) (vs : List (Known A R B)) → log' ≡ e ∷ log → AreSeen log vs → AreSeen log' vs
  seen_more e log log' vs is all j v at = starts_more e log log' v.front is (all j v at)

  -- a view that is spent has seen nothing
  pub seen_spent : (log : List (Entry A R)) (vs : List (Known A R B)) (i : ℕ) → AreSeen log vs → AreSeen log (set vs i spent_view)
  seen_spent log vs i all = seen_set log vs i spent_view (starts_none log) all

module _ {A R : Type 0} where
  calls_both : (n : ℕ) (late older : List (Entry A R)) → calls_of n (late ++ older) ≡ calls_of n late ++ calls_of n older
  calls_both n [] older = refl
  calls_both n (e ∷ late) older = by (e.seat == n) (calls_both n late older)
    where
      by : (b : Bool) → calls_of n (late ++ older) ≡ calls_of n late ++ calls_of n older
          → (if b then e ∷ calls_of n (late ++ older) else calls_of n (late ++ older)) ≡ (if b then e ∷ calls_of n late else calls_of n late) ++ calls_of n older
      by true rest = ap (λ (es : List (Entry A R)). e ∷ es) rest
      by false rest = rest

  -- of the entries of a number, a beginning of the list has the oldest ones
  pub own_begins : (n : ℕ) (log front own : List (Entry A R)) → own ≡ calls_of n log → StartsWith log front → StartsWith own (calls_of n front)
  own_begins n log front own is starts = (calls_of n starts.0, is ∙ ap (calls_of n) starts.1 ∙ calls_both n starts.0 front)
