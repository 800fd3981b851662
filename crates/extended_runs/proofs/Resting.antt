-- What the side enters, and how its growth goes on until it rests.
use Rattle.std.proofs.Common.{◌≡◌, ℕ, zero, suc, ◌-◌, ◌<◌, ◌≤◌, List, [], ◌∷◌, ◌++◌, length, Bool, true, false, cond, Option, Some, None, refl, sym, ap, ap₂, ◌∙◌, subst, arith, get_or}
use Rattle.std.specs.Prelude.{reverse, nat_lt, nat_le, ◌==◌, ◌&&◌}
use Rattle.std.proofs.lemmas.Bool.{and_parts, le-ltb}
use Rattle.std.proofs.lemmas.Bool.Decides.{Decides-eqb}
use Rattle.std.proofs.lemmas.Grind.{reverse_onto}
use Rattle.kube_objects.specs.declared.key.Key.{Key}
use Rattle.kube_objects.specs.declared.objects.Object.{Object}
use Rattle.kube_objects.proofs.SameKeys.{same_key_itself}
use Rattle.call_types.specs.declared.setup.Setup.{Setup}
use Rattle.binder_model.specs.World.{world}
use Rattle.model_laws.proofs.Lists.{none_some, one}
use Rattle.side_calls.specs.declared.asks.SideAsk.{SideAsk}
use Rattle.side_calls.specs.declared.asks.SideAsk.TheVariants.{Create, Step as StepAsk}
use Rattle.side_calls.specs.declared.asks.SideEntry.{SideEntry}
use Rattle.side_calls.specs.declared.asks.SideReply.{SideReply}
use Rattle.side_calls.specs.declared.asks.SideReply.TheVariants.{Bytes, OverQuota}
use Rattle.side_calls.specs.declared.quotas.OverQuota.{OverQuota as Over}
use Rattle.side_calls.specs.declared.sizes.SizeRow.{SizeRow}
use Rattle.side_calls.specs.declared.sizes.SizeStep.{SizeStep}
use Rattle.side_calls.specs.declared.sizes.StepKind.{StepKind}
use Rattle.side_calls.specs.declared.sizes.StepKind.TheVariants.{Data, Given, Volume}
use Rattle.expand_ops.specs.Sizes.{Growth, after_step, changed_at, made, next_step, step_of, taken_by}
use Rattle.expand_ops.proofs.Turns.{first_is, made_key}
use Rattle.side_model.specs.Answers.{answer, key_at, kind_number, names_step, side}
use Rattle.side_model.specs.Sides.{SideSetup, growth_of}
use Rattle.side_model.specs.Merged.{OfSide, Step, entries}
use Rattle.side_laws.proofs.Quotas.{step_alike}
use Rattle.extended_runs.specs.declared.sides.KeptSide.{KeptSide}
use Rattle.side_text.specs.declared.entries.PlacedEntry.{PlacedEntry}
use Rattle.extended_runs.specs.Placed.{placed}
use Rattle.extended_runs.specs.Steps.Sides.{HasRested, IsResting, SideStands, left_in, left_of, tally_at, weighed}
use Rattle.extended_runs.specs.Walks.{RestsHere, StepsOn, step_entry}

-- ---- what is entered

-- the entry that comes after so many of the world
abbrev pub placed_entry : ℕ → SideAsk → SideReply → PlacedEntry
placed_entry after ask reply = record { after = after; entry = record { ask = ask; reply = reply } }

pub enters : (m : List Step) (ask : SideAsk) (reply : SideReply) (entered : List PlacedEntry) (noted : ℕ) → entered ≡ reverse (placed m) → noted ≡ length (entries m)
    → entered ++ placed_entry noted ask reply ∷ [] ≡ reverse (placed (OfSide (record { ask = ask; reply = reply }) ∷ m))
enters m ask reply entered noted is counts =
    ap₂ (λ es n. es ++ placed_entry n ask reply ∷ []) is counts ∙ sym (reverse_onto (placed m) (placed_entry (length (entries m)) ask reply) [])

-- only an entry is new
pub record HasEntered (ask : SideAsk) (reply : SideReply) (old new : KeptSide) : Type 0 where
  pub entered : new.entered ≡ old.entered ++ placed_entry old.noted ask reply ∷ []
  pub noted : new.noted ≡ old.noted

pub holds : (setup : Setup) (given : SideSetup) (m : List Step) (user : ℕ) (o : Object) (over : Over) (old new : KeptSide)
    → new ≡ record old { entered = old.entered ++ placed_entry old.noted (Create user o) (OverQuota over) ∷ [] }
    → SideStands setup given m old → SideStands setup given (OfSide (record { ask = Create user o; reply = OverQuota over }) ∷ m) new
holds setup given m user o over old new is stands = record {
  quotas = ap (λ (s : KeptSide). s.quotas) is ∙ stands.quotas;
  sizes = ap (λ (s : KeptSide). s.sizes) is ∙ stands.sizes;
  entered = ap (λ (s : KeptSide). s.entered) is ∙ enters m (Create user o) (OverQuota over) old.entered old.noted stands.entered stands.noted;
  noted = ap (λ (s : KeptSide). s.noted) is ∙ stands.noted;
}

-- ---- each step lowers what is left

no_more_weighed : (n : ℕ) (b : Bool) → weighed n b ≤ n
no_more_weighed n true = omega arith
no_more_weighed n false = omega arith

not_below : (n m : ℕ) → weighed n (nat_lt m m) ≡ 0
not_below n m = ap (weighed n) (le-ltb m m (omega arith))

weighs : (n : ℕ) (b : Bool) → b ≡ true → weighed n b ≡ n
weighs n b e = ap (weighed n) e

-- the row with its step made has less left
abbrev Lowers : SizeRow → StepKind × ℕ → Type 0
Lowers x step = left_of (made step.0 step.1 x) < left_of x

module _ (free : ℕ) (x : SizeRow) where
  data_lowers : (nat_lt x.stored x.asked && nat_le (x.asked - x.stored) free) ≡ true → Lowers x (Data, x.asked)
  data_lowers e =
      let tests = and_parts (nat_lt x.stored x.asked) (nat_le (x.asked - x.stored) free) e in
      let old = weighs 3 (nat_lt x.stored x.asked) tests.0 in
      let new = not_below 3 x.asked in
      let most = no_more_weighed 2 (nat_lt x.volume x.asked) in
      omega (arith, old, new, most)

  volume_lowers : nat_lt x.volume x.stored ≡ true → Lowers x (Volume, x.stored)
  volume_lowers e =
      let old = weighs 2 (nat_lt x.volume x.stored) e in
      let new = not_below 2 x.stored in
      let most = no_more_weighed 1 (nat_lt x.given x.stored) in
      omega (arith, old, new, most)

  given_lowers : nat_lt x.given x.volume ≡ true → Lowers x (Given, x.volume)
  given_lowers e =
      let old = weighs 1 (nat_lt x.given x.volume) e in
      let new = not_below 1 x.volume in
      omega (arith, old, new)

  step_lowers : (step : StepKind × ℕ) → step_of free x ≡ Some step → Lowers x step
  step_lowers step e = by (nat_lt x.stored x.asked && nat_le (x.asked - x.stored) free) refl e
    where
      at_last : (b : Bool) → nat_lt x.given x.volume ≡ b → cond b (Some (Given, x.volume)) None ≡ Some step → Lowers x step
      at_last true t f = subst (Lowers x) (one (Given, x.volume) step f) (given_lowers t)
      at_last false t f = none_some f

      then_volume : (b : Bool) → nat_lt x.volume x.stored ≡ b → cond b (Some (Volume, x.stored)) (cond (nat_lt x.given x.volume) (Some (Given, x.volume)) None) ≡ Some step → Lowers x step
      then_volume true t f = subst (Lowers x) (one (Volume, x.stored) step f) (volume_lowers t)
      then_volume false t f = at_last (nat_lt x.given x.volume) refl f

      by : (b : Bool) → (nat_lt x.stored x.asked && nat_le (x.asked - x.stored) free) ≡ b
          → cond b (Some (Data, x.asked)) (cond (nat_lt x.volume x.stored) (Some (Volume, x.stored)) (cond (nat_lt x.given x.volume) (Some (Given, x.volume)) None)) ≡ Some step → Lowers x step
      by true t f = subst (Lowers x) (one (Data, x.asked) step f) (data_lowers t)
      by false t f = then_volume (nat_lt x.volume x.stored) refl f

changed_lowers : (free : ℕ) (xs : List SizeRow) (i : ℕ) (k : StepKind) (n : ℕ) → i < length xs → ((d : SizeRow) → step_of free (get_or xs i d) ≡ Some (k, n))
    → left_in (changed_at i (made k n) xs) < left_in xs
changed_lowers free [] i k n lt gives = absurd (omega (arith, lt))
changed_lowers free (x ∷ xs) zero k n lt gives = let low = step_lowers free x (k, n) (gives x) in omega (arith, low)
changed_lowers free (x ∷ xs) (suc i) k n lt gives = let low = changed_lowers free xs i k n (omega (arith, lt)) gives in omega (arith, low)

pub next_lowers : (g : Growth) (s : SizeStep) → next_step g ≡ Some s → left_in (after_step (Some s) g.rows) < left_in g.rows
next_lowers g s e =
    let f = first_is (g.reserve - taken_by g.rows) g.rows 0 s e in
    let at : s.place ≡ f.at = let is = f.is in omega (arith, is) in
    subst (λ (i : ℕ). left_in (changed_at i (made s.kind s.bytes) g.rows) < left_in g.rows) (sym at)
    (changed_lowers (g.reserve - taken_by g.rows) g.rows f.at s.kind s.bytes f.there f.gives)

-- ---- the step that was made is the one that the side answers

length_changed : (f : SizeRow → SizeRow) (xs : List SizeRow) (i : ℕ) → length (changed_at i f xs) ≡ length xs
length_changed f [] i = refl
length_changed f (x ∷ xs) zero = refl
length_changed f (x ∷ xs) (suc i) = ap suc (length_changed f xs i)

pub place_stays : (g : Growth) (s : SizeStep) → next_step g ≡ Some s → s.place < length (after_step (Some s) g.rows)
place_stays g s e =
    let f = first_is (g.reserve - taken_by g.rows) g.rows 0 s e in
    let is = f.is in
    let there = f.there in
    let long = length_changed (made s.kind s.bytes) g.rows s.place in
    omega (arith, is, there, long)

key_there : (xs : List SizeRow) (i : ℕ) (k : StepKind) (n : ℕ) (d : SizeRow) → i < length xs → key_at i xs ≡ Some (get_or (changed_at i (made k n) xs) i d).key
key_there [] i k n d lt = absurd (omega (arith, lt))
key_there (x ∷ xs) zero k n d lt = ap (λ (key : Key). Some key) (sym (made_key k n x))
key_there (x ∷ xs) (suc i) k n d lt =
    let apart : (suc i == 0) ≡ false = by (suc i == 0) refl in
    let back : suc i - 1 ≡ i = omega arith in
    ap (λ b. cond b (Some x.key) (key_at (suc i - 1) xs)) apart ∙ ap (λ j. key_at j xs) back ∙ key_there xs i k n d (omega (arith, lt))
  where
    by : (b : Bool) → (suc i == 0) ≡ b → (suc i == 0) ≡ false
    by true e = absurd (let same = (Decides-eqb (suc i) 0).0 e in omega (arith, same))
    by false e = e

names_itself : (kind : StepKind) (key : Key) → names_step kind key kind (Some key) ≡ true
names_itself kind key = ap₂ (λ a b. a && b) ((Decides-eqb (kind_number kind) (kind_number kind)).1 refl) (same_key_itself key)

module _ (setup : Setup) (given : SideSetup) (m : List Step) (old new : KeptSide) (s : SizeStep) (d : SizeRow) where
  abbrev rows_then : List SizeRow
  rows_then = after_step (Some s) old.sizes.rows

  abbrev key_then : Key
  key_then = (get_or rows_then s.place d).key

  abbrev entry_then : SideEntry
  entry_then = step_entry s.kind key_then (Bytes s.bytes)

  module _ (next : next_step old.sizes ≡ Some s) (stands : SideStands setup given m old) where
    next_there : next_step (growth_of (side setup given m)) ≡ Some s
    next_there = ap next_step (sym stands.sizes) ∙ next

    rows_there : old.sizes.rows ≡ (side setup given m).sizes
    rows_there = ap (λ (g : Growth). g.rows) stands.sizes

    key_answered : key_at s.place (side setup given m).sizes ≡ Some key_then
    key_answered =
        let f = first_is (old.sizes.reserve - taken_by old.sizes.rows) old.sizes.rows 0 s next in
        let is = f.is in
        let there = f.there in
        ap (key_at s.place) (sym rows_there) ∙ key_there old.sizes.rows s.place s.kind s.bytes d (omega (arith, is, there))

    pub step_answered : answer setup given m (StepAsk s.kind key_then) ≡ Some (Bytes s.bytes)
    step_answered =
        ap (λ (o : Option SizeStep). reply o) next_there
        ∙ ap (λ (k : Option Key). cond (names_step s.kind key_then s.kind k) (Some (Bytes s.bytes)) None) key_answered
        ∙ ap (λ b. cond b (Some (Bytes s.bytes)) None) (names_itself s.kind key_then)
      where
        reply : Option SizeStep → Option SideReply
        reply None = None
        reply (Some t) = cond (names_step s.kind key_then t.kind (key_at t.place (side setup given m).sizes)) (Some (Bytes t.bytes)) None

    pub step_stands : new.quotas ≡ old.quotas → new.sizes ≡ record old.sizes { rows = rows_then } → HasEntered (StepAsk s.kind key_then) (Bytes s.bytes) old new
        → SideStands setup given (OfSide entry_then ∷ m) new
    step_stands quotas sizes has = record {
      quotas = quotas ∙ stands.quotas ∙ ap (λ xs. record (tally_at setup given m) { counted = xs })
          (sym (step_alike (next_step (growth_of (side setup given m))) (side setup given m).sizes (world setup (entries m)).store.rows));
      sizes = sizes ∙ ap₂ (λ (g : Growth) (o : Option SizeStep). record g { rows = after_step o g.rows }) stands.sizes (sym next_there);
      entered = has.entered ∙ enters m (StepAsk s.kind key_then) (Bytes s.bytes) old.entered old.noted stands.entered stands.noted;
      noted = has.noted ∙ stands.noted;
    }

-- ---- until it rests

pub rests_first : (setup : Setup) (given : SideSetup) (m : List Step) (s : KeptSide) → SideStands setup given m s → IsResting setup given m s
rests_first setup given m s stands = record { middle = m; stands = stands; goes = λ end steps. steps }

pub rests_one : (setup : Setup) (given : SideSetup) (m : List Step) (old new : KeptSide) (s : SizeStep) (d : SizeRow) → next_step old.sizes ≡ Some s
    → new.quotas ≡ old.quotas → new.sizes ≡ record old.sizes { rows = after_step (Some s) old.sizes.rows }
    → HasEntered (StepAsk s.kind (get_or (after_step (Some s) old.sizes.rows) s.place d).key) (Bytes s.bytes) old new → IsResting setup given m old → IsResting setup given m new
rests_one setup given m old new s d next quotas sizes has so = record {
  middle = OfSide (entry_then setup given so.middle old new s d) ∷ so.middle;
  stands = step_stands setup given so.middle old new s d next so.stands quotas sizes has;
  goes = λ end steps. so.goes end (StepsOn s.kind _ (Bytes s.bytes) (step_answered setup given so.middle old new s d next so.stands) steps);
}

pub rests_all :
    (setup : Setup) (given : SideSetup) (m : List Step) (old now : KeptSide) → next_step old.sizes ≡ None
    → now ≡ record old { sizes = record old.sizes { rows = after_step None old.sizes.rows } }
    → IsResting setup given m old → HasRested setup given m now
rests_all setup given m old now none is so = record {
  end = so.middle;
  steps = so.goes so.middle (RestsHere (ap next_step (sym so.stands.sizes) ∙ none) refl);
  stands = subst (SideStands setup given so.middle) (sym is) so.stands;
}
