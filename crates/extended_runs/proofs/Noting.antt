-- The side takes note of the entries of its world, one after the other.
use Rattle.std.proofs.Common.{◌≡◌, ℕ, zero, suc, ◌+◌, ◌≤◌, List, [], ◌∷◌, ◌++◌, length, Some, refl, sym, ap, ◌∙◌, subst, arith, append_assoc, append-nil, length-append}
use Rattle.std.specs.Prelude.{reverse, slice_get}
use Rattle.std.proofs.lemmas.List.{length-reverse, reverse-append, reverse-reverse}
use Rattle.kube_objects.specs.declared.objects.Object.{Object}
use Rattle.call_types.specs.declared.entry.Entry.{Entry}
use Rattle.call_types.specs.declared.setup.Setup.{Setup}
use Rattle.binder_model.specs.Imports.{ImportsPass}
use Rattle.binder_model.specs.World.{IsHistory, world}
use Rattle.model_laws.proofs.Lists.{none_some, one}
use Rattle.quota_rules.specs.Counting.{claims_in, noted}
use Rattle.quota_rules.specs.Using.{Tally}
use Rattle.expand_ops.specs.Sizes.{Growth, kept_after}
use Rattle.side_model.specs.Sides.{SideSetup}
use Rattle.side_model.specs.Merged.{OfWorld, Step, entries}
use Rattle.settle_slot.proofs.Slot.Slots.{older}
use Rattle.side_laws.proofs.Points.{calls_are_counted, first_is_counted}
use Rattle.extended_runs.specs.declared.sides.KeptSide.{KeptSide}
use Rattle.extended_runs.specs.Placed.{placed}
use Rattle.extended_runs.specs.Steps.Sides.{IsCatchingUp, SideStands, tally_at}
use Rattle.extended_runs.specs.Walks.{AreSteps, RestsHere, StepsOn, with_entries}

-- ---- before the first step

pub begins : (setup : Setup) (given : SideSetup) (objects : List Object) (s : KeptSide) → objects ≡ (world setup []).store.rows
    → s.quotas ≡ record { quotas = given.quotas; counted = claims_in objects } → s.sizes ≡ record { reserve = given.reserve; rows = [] } → s.entered ≡ [] → s.noted ≡ 0
    → SideStands setup given [] s
begins setup given objects s rows quotas sizes entered noted = record {
  quotas = quotas ∙ ap (λ xs. record { quotas = given.quotas; counted = xs }) (ap claims_in rows ∙ first_is_counted setup given);
  sizes = sizes;
  entered = entered;
  noted = noted;
}

-- ---- lists

pub entries_with : (added : List Entry) (m : List Step) → entries (with_entries added m) ≡ added ++ entries m
entries_with [] m = refl
entries_with (e ∷ added) m = ap (λ h. e ∷ h) (entries_with added m)

-- steps of growth add no entry of the world
pub steps_enter_nothing : (setup : Setup) (given : SideSetup) (end m : List Step) → AreSteps setup given end m → entries end ≡ entries m
steps_enter_nothing setup given end m (RestsHere none is) = ap entries is
steps_enter_nothing setup given end m (StepsOn kind key reply answered more) = steps_enter_nothing setup given end _ more

placed_with : (added : List Entry) (m : List Step) → placed (with_entries added m) ≡ placed m
placed_with [] m = refl
placed_with (e ∷ added) m = placed_with added m

-- what stands behind a list
behind : {X : Type 0} (xs ys : List X) (n : ℕ) → n ≡ length xs → slice_get (xs ++ ys) n ≡ slice_get ys 0
behind [] ys zero e = refl
behind [] ys (suc n) e = absurd (omega (arith, e))
behind (x ∷ xs) ys zero e = absurd (omega (arith, e))
behind (x ∷ xs) ys (suc n) e = behind xs ys n (omega (arith, e))

-- the first of a reversed list is the last
pub record EndsWith {X : Type 0} (xs : List X) (x : X) : Type 0 where
  pub front : List X
  pub are : xs ≡ front ++ x ∷ []

first_is_last : {X : Type 0} (xs : List X) (x : X) → slice_get (reverse xs) 0 ≡ Some x → EndsWith xs x
first_is_last xs x at = by (reverse xs) refl at
  where
    by : (ys : List _) → reverse xs ≡ ys → slice_get ys 0 ≡ Some x → EndsWith xs x
    by [] is at = none_some at
    by (y ∷ ys) is at = record {
      front = reverse ys;
      are = sym (reverse-reverse xs) ∙ ap reverse (is ∙ ap (λ z. z ∷ ys) (one y x at)) ∙ reverse-append (x ∷ []) ys;
    }

-- ---- one entry

-- what an entry changes
pub record HasNoted (e : Entry) (old new : KeptSide) : Type 0 where
  pub quotas : new.quotas ≡ record old.quotas { counted = noted e.reply old.quotas.counted }
  pub sizes : new.sizes ≡ record old.sizes { rows = kept_after e.reply old.sizes.rows }
  pub entered : new.entered ≡ old.entered
  pub noted : new.noted ≡ old.noted + 1

module _ (setup : Setup) (pass : ImportsPass setup.imports) (given : SideSetup) where
  note_one : (m : List Step) (e : Entry) (old new : KeptSide) → IsHistory setup (e ∷ entries m) → SideStands setup given m old → HasNoted e old new → SideStands setup given (OfWorld e ∷ m) new
  note_one m e old new history stands has =
      record {
        quotas =
            has.quotas
            ∙ ap (λ (t : Tally). record t { counted = noted e.reply t.counted }) stands.quotas
            ∙ ap (λ xs. record (tally_at setup given m) { counted = xs }) (calls_are_counted setup given m e pass history);
        sizes = has.sizes ∙ ap (λ (g : Growth). record g { rows = kept_after e.reply g.rows }) stands.sizes;
        entered = has.entered ∙ stands.entered;
        noted = let is = has.noted in let before = stands.noted in omega (arith, is, before);
      }

  -- ---- all entries

  pub catches_first : (m : List Step) (added : List Entry) (s : KeptSide) → SideStands setup given m s → IsCatchingUp setup given m added s
  catches_first m added s stands = record { later = added; told = []; are = sym (append-nil added); stands = stands }

  pub catches_one : (history past : List Entry) (m : List Step) (added : List Entry) (e : Entry) (old new : KeptSide) → reverse history ≡ past → past ≡ added ++ entries m
      → IsHistory setup past → slice_get history old.noted ≡ Some e → HasNoted e old new → IsCatchingUp setup given m added old → IsCatchingUp setup given m added new
  catches_one history past m added e old new reversed grows is_history at has so =
      let last = first_is_last so.later e (sym (behind (reverse earlier) (reverse so.later) old.noted counts) ∙ ap (λ h. slice_get h old.noted) (sym all) ∙ at) in
      let split : past ≡ last.front ++ e ∷ earlier = parted ∙ ap (λ l. l ++ earlier) last.are ∙ append_assoc last.front (e ∷ []) earlier in
      let here : IsHistory setup (e ∷ entries (with_entries so.told m)) = subst (λ h. IsHistory setup (e ∷ h)) (sym (entries_with so.told m))
      (older setup last.front (e ∷ earlier) (subst (IsHistory setup) split is_history)) in
      record {
        later = last.front;
        told = e ∷ so.told;
        are = so.are ∙ ap (λ l. l ++ so.told) last.are ∙ append_assoc last.front (e ∷ []) so.told;
        stands = note_one (with_entries so.told m) e old new here so.stands has;
      }
    where
      earlier : List Entry
      earlier = so.told ++ entries m

      parted : past ≡ so.later ++ earlier
      parted = grows ∙ ap (λ l. l ++ entries m) so.are ∙ append_assoc so.later so.told (entries m)

      all : history ≡ reverse earlier ++ reverse so.later
      all = sym (reverse-reverse history) ∙ ap reverse (reversed ∙ parted) ∙ reverse-append so.later earlier

      counts : old.noted ≡ length (reverse earlier)
      counts = so.stands.noted ∙ ap length (entries_with so.told m) ∙ sym (length-reverse earlier)

  pub catches_all : (history past : List Entry) (m : List Step) (added : List Entry) (s : KeptSide) → reverse history ≡ past → past ≡ added ++ entries m
      → length history ≤ s.noted → IsCatchingUp setup given m added s → SideStands setup given (with_entries added m) s
  catches_all history past m added s reversed grows over so =
      subst (λ (h : List Entry). SideStands setup given (with_entries h m) s) (sym (so.are ∙ ap (λ l. l ++ so.told) (by so.later refl))) so.stands
    where
      few : length so.later ≤ 0
      few =
          let told = so.stands.noted in
          let with_m = ap length (entries_with so.told m) in
          let long = length-append so.told (entries m) in
          let parts = ap length (reversed ∙ grows ∙ ap (λ l. l ++ entries m) so.are ∙ append_assoc so.later so.told (entries m)) in
          let apart = length-append so.later (so.told ++ entries m) in
          let turned = length-reverse history in
          omega (arith, over, told, with_m, long, parts, apart, turned)

      by : (l : List Entry) → so.later ≡ l → so.later ≡ []
      by [] e = e
      by (x ∷ l) e = let count = ap length e in absurd (omega (arith, count, few))
