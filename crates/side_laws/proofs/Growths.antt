-- What each ask makes of the rows of sizes: they stay in turn, within the reserve, and no number falls.
use Rattle.std.proofs.Common.{◌≡◌, ℕ, zero, suc, ◌<◌, ◌≤◌, List, [], ◌∷◌, Bool, true, false, cond, Option, Some, None, length, get_or, Less, Equal, Greater}
use Rattle.std.proofs.Common.{refl, sym, subst, ap, ◌∙◌, arith, true≢false}
use Rattle.std.specs.Prelude.{◌-◌, ◌&&◌, nat_lt, nat_le}
use Rattle.std.specs.declared.cmp.Ordering.{Ordering}
use Rattle.std.specs.Ordering.{is_eq}
use Rattle.std.proofs.lemmas.Bool.{and_parts}
use Rattle.std.proofs.lemmas.Bool.Decides.{nat_tests}
use Rattle.plain_data.specs.Rows.{put, without}
use Rattle.plain_data.proofs.RowLookups.{find-put, find-put_other, find-without, find-without_other, found_key}
use Rattle.kube_objects.specs.declared.key.Key.{Key}
use Rattle.kube_parts.specs.declared.uid.Uid.{Uid}
use Rattle.kube_objects.specs.declared.objects.Amount.{Amount}
use Rattle.kube_objects.specs.declared.objects.Claim.{Claim as ClaimData}
use Rattle.kube_objects.specs.declared.objects.Volume.{Volume as VolumeData}
use Rattle.kube_objects.specs.declared.objects.Object.{Object}
use Rattle.kube_objects.specs.declared.objects.Object.TheVariants.{Class, Node, Volume, Claim, Pod}
use Rattle.kube_objects.specs.Keys.{key_cmp, key_of, row_at}
use Rattle.kube_objects.proofs.KeyOrder.{equal_keys, key_cmp_total}
use Rattle.call_types.specs.declared.setup.Setup.{Setup}
use Rattle.call_types.specs.declared.reply.Reply.{Reply}
use Rattle.call_types.specs.declared.reply.Reply.TheVariants.{Left}
use Rattle.binder_model.specs.Choice.{claim_in}
use Rattle.binder_model.specs.ObjectKeys.{volume_key}
use Rattle.binder_model.specs.World.{world}
use Rattle.side_calls.specs.declared.asks.SideAsk.{SideAsk}
use Rattle.side_calls.specs.declared.asks.SideAsk.TheVariants.{Create, Grow, Step as StepAsk}
use Rattle.side_calls.specs.declared.sizes.GrowError.{GrowError}
use Rattle.side_calls.specs.declared.sizes.GrowError.TheVariants as errors
use Rattle.side_calls.specs.declared.sizes.SizeRow.{SizeRow}
use Rattle.side_calls.specs.declared.sizes.SizeStep.{SizeStep}
use Rattle.side_calls.specs.declared.sizes.StepKind.{StepKind}
use Rattle.side_calls.specs.declared.sizes.StepKind.TheVariants as kinds
use Rattle.side_calls.specs.declared.sizes.Why.TheVariants.{Smaller}
use Rattle.quota_rules.specs.Using.{Tally}
use Rattle.expand_ops.specs.Growing.{asked_by, asked_now, fault_by, first_row, grow_fault, grown_if, grown_row, grown_rows, over_by, row_from, sizes_grown, volume_in}
use Rattle.expand_ops.specs.Sizes.{AreSizes, Growth, IsGrowth, after_step, changed_at, kept_after, made, next_step, size_at, size_key, step_of, taken_by, without_left}
use Rattle.expand_ops.proofs.Turns.{first_is, kept_growth, made_key, step_growth}
use Rattle.expand_ops.proofs.Grown.{fault_parts, grown_growth}
use Rattle.side_model.specs.Answers.{after_ask, side}
use Rattle.side_model.specs.Grown.{IsNoLess, NeverFalls}
use Rattle.side_model.specs.Sides.{Side, SideSetup, growth_of, tally_of}
use Rattle.side_model.specs.Merged.{AtEach, Step, OfWorld, OfSide, entries}
use Rattle.side_laws.specs.Laws.{GrowthGoesInTurn}
use Rattle.side_laws.proofs.Mirrors.{none_some, some_is}

pub is_equal : (o : Ordering) → is_eq o ≡ true → o ≡ Equal
is_equal Less e = absurd (true≢false (sym e))
is_equal Equal e = refl
is_equal Greater e = absurd (true≢false (sym e))

pub claim_stands : (key : Key) (rows : List Object) (c : ClaimData) → claim_in (row_at key rows) ≡ Some c → row_at key rows ≡ Some (Claim c)
claim_stands key rows c e = by (row_at key rows) e
  where
    by : (o : Option Object) → claim_in o ≡ Some c → o ≡ Some (Claim c)
    by None e = none_some c e
    by (Some (Claim d)) e = ap (λ (z : ClaimData). Some (Claim z)) (some_is d c e)
    by (Some (Class d)) e = none_some c e
    by (Some (Node d)) e = none_some c e
    by (Some (Volume d)) e = none_some c e
    by (Some (Pod d)) e = none_some c e

asked_growth : (s : Side) (rows : List Object) (ask : SideAsk) → IsGrowth (growth_of s) → IsGrowth (growth_of (after_ask s rows ask))
asked_growth s rows (Create user object) is = is
asked_growth s rows (Grow user key bytes) is = grown_growth (growth_of s) (tally_of s rows) rows key bytes is
asked_growth s rows (StepAsk kind key) is = step_growth (growth_of s) (next_step (growth_of s)) is refl

module _ (setup : Setup) (given : SideSetup) where
  pub growth_at : (m : List Step) → IsGrowth (growth_of (side setup given m))
  growth_at [] = record { order = tt; turns = tt; few = omega arith }
  growth_at (OfWorld e ∷ m) = kept_growth e.reply (growth_of (side setup given m)) (growth_at m)
  growth_at (OfSide s ∷ m) = asked_growth (side setup given m) (world setup (entries m)).store.rows s.ask (growth_at m)

  each_growth : (m : List Step) → AtEach (λ n. IsGrowth (growth_of (side setup given n))) m
  each_growth [] = growth_at []
  each_growth (OfWorld e ∷ m) = (growth_at (OfWorld e ∷ m), each_growth m)
  each_growth (OfSide s ∷ m) = (growth_at (OfSide s ∷ m), each_growth m)

-- ---- no number falls

itself_less : (x y : SizeRow) → x ≡ y → IsNoLess x y
itself_less x y e = subst (IsNoLess x) e (record { asked = omega arith; given = omega arith; volume = omega arith; stored = omega arith })

-- from rows to rows
abbrev Rises : List SizeRow → List SizeRow → Type 0
Rises old new = (key : Key) (x y : SizeRow) → size_at key old ≡ Some x → size_at key new ≡ Some y → IsNoLess x y

rises_same : (xs : List SizeRow) → Rises xs xs
rises_same xs key x y e f = itself_less x y (some_is x y (sym e ∙ f))

rises_without : (k : Key) (xs : List SizeRow) → AreSizes xs → Rises xs (without key_cmp size_key k xs)
rises_without k xs r key x y e f = by (is_eq (key_cmp k key)) refl
  where
    by : (b : Bool) → is_eq (key_cmp k key) ≡ b → IsNoLess x y
    by false apart = itself_less x y (some_is x y (sym e ∙ sym (find-without_other key_cmp_total size_key k key xs apart) ∙ f))
    by true equal =
        let same : k ≡ key = equal_keys k key (is_equal (key_cmp k key) equal) in
        none_some y (sym (find-without key_cmp_total size_key k xs r) ∙ ap (λ (z : Key). size_at z (without key_cmp size_key k xs)) same ∙ f)

rises_left : (o : Object) (xs : List SizeRow) → AreSizes xs → Rises xs (without_left o xs)
rises_left (Claim c) xs r = rises_without (key_of (Claim c)) xs r
rises_left (Class c) xs r = rises_same xs
rises_left (Node c) xs r = rises_same xs
rises_left (Volume c) xs r = rises_same xs
rises_left (Pod c) xs r = rises_same xs

rises_kept : (reply : Reply) (xs : List SizeRow) → AreSizes xs → Rises xs (kept_after reply xs)
rises_kept (Left o) xs r = rises_left o xs r
rises_kept reply xs r = rises_same xs

-- a step raises its number
step_rises : (free : ℕ) (x : SizeRow) (step : StepKind × ℕ) → step_of free x ≡ Some step → IsNoLess x (made step.0 step.1 x)
step_rises free x step e = by (nat_lt x.stored x.asked && nat_le (x.asked - x.stored) free) refl e
  where
    Rising : StepKind × ℕ → Type 0
    Rising t = IsNoLess x (made t.0 t.1 x)

    data_rises : (nat_lt x.stored x.asked && nat_le (x.asked - x.stored) free) ≡ true → Rising (kinds.Data, x.asked)
    data_rises t =
        let more : nat_lt x.stored x.asked ≡ true = (and_parts (nat_lt x.stored x.asked) (nat_le (x.asked - x.stored) free) t).0 in
        let above : x.stored < x.asked = grind (arith, nat_tests) in
        record { asked = omega arith; given = omega arith; volume = omega arith; stored = omega (arith, above) }

    volume_rises : nat_lt x.volume x.stored ≡ true → Rising (kinds.Volume, x.stored)
    volume_rises t = let above : x.volume < x.stored = grind (arith, nat_tests) in record { asked = omega arith; given = omega arith; volume = omega (arith, above); stored = omega arith }

    given_rises : nat_lt x.given x.volume ≡ true → Rising (kinds.Given, x.volume)
    given_rises t = let above : x.given < x.volume = grind (arith, nat_tests) in record { asked = omega arith; given = omega (arith, above); volume = omega arith; stored = omega arith }

    by_given : (b : Bool) → nat_lt x.given x.volume ≡ b → cond b (Some (kinds.Given, x.volume)) None ≡ Some step → Rising step
    by_given true t f = subst Rising (some_is (kinds.Given, x.volume) step f) (given_rises t)
    by_given false t f = none_some step f

    by_volume : (b : Bool) → nat_lt x.volume x.stored ≡ b
        → cond b (Some (kinds.Volume, x.stored)) (cond (nat_lt x.given x.volume) (Some (kinds.Given, x.volume)) None) ≡ Some step → Rising step
    by_volume true t f = subst Rising (some_is (kinds.Volume, x.stored) step f) (volume_rises t)
    by_volume false t f = by_given (nat_lt x.given x.volume) refl f

    by : (b : Bool) → (nat_lt x.stored x.asked && nat_le (x.asked - x.stored) free) ≡ b
        → cond b (Some (kinds.Data, x.asked)) (cond (nat_lt x.volume x.stored) (Some (kinds.Volume, x.stored)) (cond (nat_lt x.given x.volume) (Some (kinds.Given, x.volume)) None)) ≡ Some step
        → Rising step
    by true t f = subst Rising (some_is (kinds.Data, x.asked) step f) (data_rises t)
    by false t f = by_volume (nat_lt x.volume x.stored) refl f

module _ (free : ℕ) (k : StepKind) (n : ℕ) where
  changed_rises : (xs : List SizeRow) (i : ℕ) → i < length xs → ((d : SizeRow) → step_of free (get_or xs i d) ≡ Some (k, n)) → Rises xs (changed_at i (made k n) xs)
  changed_rises [] i lt gives key x y e f = none_some x e
  changed_rises (z ∷ zs) zero lt gives key x y e f =
      by (is_eq (key_cmp z.key key)) e (subst (λ (j : Key). cond (is_eq (key_cmp j key)) (Some (made k n z)) (size_at key zs) ≡ Some y) (made_key k n z) f)
    where
      by : (b : Bool) → cond b (Some z) (size_at key zs) ≡ Some x → cond b (Some (made k n z)) (size_at key zs) ≡ Some y → IsNoLess x y
      by true p q = subst (λ (a : SizeRow). IsNoLess a y) (some_is z x p) (subst (IsNoLess z) (some_is (made k n z) y q) (step_rises free z (k, n) (gives z)))
      by false p q = itself_less x y (some_is x y (sym p ∙ q))
  changed_rises (z ∷ zs) (suc i) lt gives key x y e f = by (is_eq (key_cmp z.key key)) e f (changed_rises zs i (omega arith) gives key x y)
    where
      by : (b : Bool) → cond b (Some z) (size_at key zs) ≡ Some x → cond b (Some z) (size_at key (changed_at i (made k n) zs)) ≡ Some y
          → (size_at key zs ≡ Some x → size_at key (changed_at i (made k n) zs) ≡ Some y → IsNoLess x y) → IsNoLess x y
      by true p q rest = itself_less x y (some_is x y (sym p ∙ q))
      by false p q rest = rest p q

rises_step : (g : Growth) (s : Option SizeStep) → next_step g ≡ s → Rises g.rows (after_step s g.rows)
rises_step g None e = rises_same g.rows
rises_step g (Some s) e =
    let free = g.reserve - taken_by g.rows in
    let f = first_is free g.rows 0 s e in
    let at : s.place ≡ f.at = let is = f.is in omega (arith, is) in
    subst (λ (i : ℕ). Rises g.rows (changed_at i (made s.kind s.bytes) g.rows)) (sym at) (changed_rises free s.kind s.bytes g.rows f.at f.there f.gives)

-- a claim grows to no less than it asked for
rises_put : (xs : List SizeRow) (row : SizeRow) → ((x : SizeRow) → size_at row.key xs ≡ Some x → IsNoLess x row) → Rises xs (put key_cmp size_key row xs)
rises_put xs row no_less key x y e f = by (is_eq (key_cmp row.key key)) refl
  where
    by : (b : Bool) → is_eq (key_cmp row.key key) ≡ b → IsNoLess x y
    by false apart = itself_less x y (some_is x y (sym e ∙ sym (find-put_other key_cmp_total size_key key row xs apart) ∙ f))
    by true equal =
        let same : row.key ≡ key = equal_keys row.key key (is_equal (key_cmp row.key key) equal) in
        let is : row ≡ y = some_is row y (sym (find-put key_cmp_total size_key row xs) ∙ ap (λ (z : Key). size_at z (put key_cmp size_key row xs)) same ∙ f) in
        subst (IsNoLess x) is (no_less x (ap (λ (z : Key). size_at z xs) same ∙ e))

pub no_smaller : (t : Tally) (key : Key) (bytes asked : ℕ) → fault_by t key bytes asked ≡ None → asked ≤ bytes
no_smaller t key bytes asked e = by (nat_lt bytes asked) refl e
  where
    by : (b : Bool) → nat_lt bytes asked ≡ b → cond b (Some (errors.NotGrowable Smaller)) (over_by t key.namespace (bytes - asked)) ≡ None → asked ≤ bytes
    by true l f = none_some _ (sym f)
    by false l f = grind (arith, nat_tests)

rises_row : (xs : List SizeRow) (key : Key) (bytes : ℕ) (uid : Option Uid) (got : Option Amount) (v : Option VolumeData)
    → ((x : SizeRow) → size_at key xs ≡ Some x → x.asked ≤ bytes) → Rises xs (row_from xs key bytes uid got v)
rises_row xs key bytes None got v less = rises_same xs
rises_row xs key bytes (Some uid) None v less = rises_same xs
rises_row xs key bytes (Some uid) (Some got) None less = rises_same xs
rises_row xs key bytes (Some uid) (Some got) (Some v) less = by (size_at key xs) refl
  where
    new : SizeRow
    new = first_row key uid got v bytes

    by : (o : Option SizeRow) → size_at key xs ≡ o → Rises xs (grown_rows (grown_row o new bytes) xs)
    by None e = rises_put xs new (λ x f. none_some x (sym e ∙ f))
    by (Some old) e =
        let k : old.key ≡ key = equal_keys old.key key (found_key key_cmp_total size_key key old xs e) in
        let more : old.asked ≤ bytes = less old e in
        rises_put xs (record old { asked = bytes }) (λ x f.
        subst (λ (z : SizeRow). IsNoLess z (record old { asked = bytes })) (some_is old x (sym e ∙ ap (λ (z : Key). size_at z xs) (sym k) ∙ f))
        (record { asked = more; given = omega arith; volume = omega arith; stored = omega arith }))

rises_grown : (s : Side) (rows : List Object) (key : Key) (bytes : ℕ)
    → Rises s.sizes (grown_if (grow_fault (tally_of s rows) s.sizes rows key bytes) (sizes_grown s.sizes rows key bytes (claim_in (row_at key rows))) s.sizes)
rises_grown s rows key bytes = by (grow_fault (tally_of s rows) s.sizes rows key bytes) refl
  where
    claimed : (c : Option ClaimData) → claim_in (row_at key rows) ≡ c → fault_by (tally_of s rows) key bytes (asked_now s.sizes key c) ≡ None
        → Rises s.sizes (sizes_grown s.sizes rows key bytes c)
    claimed None e f = rises_same s.sizes
    claimed (Some c) e f =
        rises_row s.sizes key bytes c.meta.uid c.got (volume_in (row_at (volume_key c.volume_name) rows))
        (λ x at. let low = no_smaller (tally_of s rows) key bytes (asked_now s.sizes key (Some c)) f in subst (λ (o : Option SizeRow). asked_by o c ≤ bytes) at low)

    by : (f : Option GrowError) → grow_fault (tally_of s rows) s.sizes rows key bytes ≡ f → Rises s.sizes (grown_if f (sizes_grown s.sizes rows key bytes (claim_in (row_at key rows))) s.sizes)
    by None e = claimed (claim_in (row_at key rows)) refl (fault_parts _ _ e).1
    by (Some error) e = rises_same s.sizes

rises_ask : (s : Side) (rows : List Object) (ask : SideAsk) → Rises s.sizes (after_ask s rows ask).sizes
rises_ask s rows (Create user object) = rises_same s.sizes
rises_ask s rows (Grow user key bytes) = rises_grown s rows key bytes
rises_ask s rows (StepAsk kind key) = rises_step (growth_of s) (next_step (growth_of s)) refl

module _ (setup : Setup) (given : SideSetup) where
  never_falls : (m : List Step) → NeverFalls setup given m
  never_falls [] = tt
  never_falls (OfWorld e ∷ m) = (never_falls m, λ key x y f g same. rises_kept e.reply (side setup given m).sizes (growth_at setup given m).order key x y f g)
  never_falls (OfSide s ∷ m) = (never_falls m, λ key x y f g same. rises_ask (side setup given m) (world setup (entries m)).store.rows s.ask key x y f g)

pub growth_goes_in_turn : GrowthGoesInTurn
growth_goes_in_turn setup given m = record { turns = each_growth setup given m; rises = never_falls setup given m }
