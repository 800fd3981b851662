-- What the binder begins for a claim pays.
use Rattle.std.proofs.Common.{◌≡◌, ◌∙◌, ℕ, List, [], ◌∷◌, Bool, true, false, true≢false, Option, Some, None, inl, inr, refl, sym, ap, subst, if◌then◌else◌}
use Rattle.std.specs.Prelude.{◌&&◌, ◌||◌, is_none, is_some, not}
use Rattle.std.specs.List.{list_any}
use Rattle.std.proofs.lemmas.Bool.{and_parts}
use Rattle.kube_objects.specs.declared.key.Key.{Key}
use Rattle.kube_parts.specs.declared.uid.Uid.{Uid}
use Rattle.kube_parts.specs.declared.names.Due.TheVariants as dues
use Rattle.kube_types.specs.declared.lookup.Live.TheVariants.{NotAsked}
use Rattle.kube_parts.specs.declared.parts.ClaimPhase.{ClaimPhase}
use Rattle.kube_parts.specs.declared.parts.ClaimPhase.TheVariants as claims
use Rattle.kube_parts.specs.declared.parts.Kind.TheVariants as kinds
use Rattle.kube_objects.specs.declared.objects.Class.{Class as ClassData}
use Rattle.kube_objects.specs.declared.objects.Ref.{Ref}
use Rattle.kube_objects.specs.declared.objects.Claim.{Claim as ClaimData}
use Rattle.kube_objects.specs.declared.objects.Volume.{Volume as VolumeData}
use Rattle.kube_objects.specs.declared.objects.Object.{Object}
use Rattle.kube_objects.specs.declared.objects.Object.TheVariants.{Volume}
use Rattle.kube_objects.specs.Bindings.{beta_class, carries, has_key, is_completed, is_deleting, is_empty, is_for, is_lost, is_uid, lacks_class, names_claim, ref_uid, refers_carrying, uid_carries}
use Rattle.kube_objects.specs.Keys.{AreRows, is_of_kind, key_of, row_at, rows_of}
use Rattle.kube_objects.proofs.KeyOrder.{row_at_key}
use Rattle.call_types.specs.declared.entry.Entry.{Entry}
use Rattle.call_types.specs.declared.request.Request.{Request}
use Rattle.call_types.specs.declared.request.Request.TheVariants.{Get}
use Rattle.call_types.specs.declared.request.SeatKind.TheVariants as seats
use Rattle.call_types.specs.declared.setup.Setup.{Setup}
use Rattle.binder_model.specs.BinderDue.{has_other_uid, is_default_row, is_uid_of_other, named_due}
use Rattle.binder_model.specs.BindWrites.{next_write, write_reference}
use Rattle.binder_model.specs.Fields.{is_subdomain}
use Rattle.binder_model.specs.Imports.{ImportsPass}
use Rattle.binder_model.specs.Matching.{IsBestAt, eligible, fits, has_match, waits_for_pod}
use Rattle.binder_model.specs.ObjectKeys.{volume_key}
use Rattle.binder_model.specs.World.{world}
use Rattle.model_laws.proofs.Histories.{rows_stand_in_order}
use Rattle.model_laws.proofs.Lists.{IsIn, none_some, one, some_filter}
use Rattle.model_laws.proofs.Readings.{found_stands, member_stands}
use Rattle.volume_index.specs.VolumeIndex.{as_volume}
use Rattle.claim_sync.specs.declared.action.ClaimStep.{ClaimStep}
use Rattle.claim_sync.specs.declared.action.ClaimStep.TheVariants as claim_steps
use Rattle.claim_sync.specs.ClaimDecision.{IsVolumeFor, claim_decision, completed_step, has_write, is_blocked, is_open_to, may_assign, named_step, named_volume, unless_lost, unnamed_step}
use Rattle.binder_machines.specs.declared.decide.FirstMachine.TheVariants as binder_firsts
use Rattle.binder_machines.specs.declared.machine.Machine.{Machine}
use Rattle.binder_machines.specs.declared.machine.Machine.TheVariants as machines
use Rattle.binder_machines.specs.FirstSteps.{IsBindingTo, IsClaimFirst, lost_for}
use Rattle.binder_machines.specs.Machines.{call_of, confirmed_for, moved, write_class, write_lost}
use Rattle.settle_measure.specs.Left.Measure as measure
use Rattle.settle_measure.specs.Left.Lowers.{Lowers, StandsVolume, StandsClaim}
use Rattle.settle_measure.proofs.Binding.Alike.{class_pays}
use Rattle.settle_measure.proofs.Binding.Binding.{match_pays, named_reference_pays, completed_pays}
use Rattle.settle_measure.proofs.Binding.Claims.{lost_pays}
use Rattle.settle_writes.proofs.Writes.Fitting.{no_namespace, volume_facts}
use Rattle.settle_writes.proofs.Writes.Valid.{rows_are_valid}
use Rattle.settle_due.proofs.Binding.Best.{best_is_own}
use Rattle.settle_due.proofs.Binding.Matches.{AgreeForBinder, goes_over, match_same}
use Rattle.settle_due.proofs.Binding.Claims.{IsNone, IsOne, VolumeOr, at_place_in, volume_or}
use Rattle.settle_due.proofs.Upkeep.Volumes.{get_said, get_stays, got}
use Rattle.settle_due.proofs.Upkeep.Deciding.{volume_in}
use Rattle.settle_pays.proofs.Actors.Binding.{GoesOnWith, binds_pay}
use Rattle.settle_pays.proofs.Actors.Volumes.{drops_none, this_begins}
use Rattle.settle_pays.proofs.Actors.Walking.{MachinePays, PaysFrom, answer, read_pays, volume_stands, with_own, write_pays}

-- ---- small facts

lost_same : (p : ClaimPhase) → measure.is_lost p ≡ is_lost p
lost_same claims.Lost = refl
lost_same claims.Pending = refl
lost_same claims.Bound = refl

-- a volume whose reference has another UID does not carry the claim
other_free : (v : VolumeData) (c : ClaimData) → has_other_uid v c ≡ true → carries v c ≡ false
other_free v c e = by v.claim_ref e
  where
    and_no : (a b : Bool) → not b ≡ true → (a && b) ≡ false
    and_no true true f = absurd (true≢false (sym f))
    and_no true false f = refl
    and_no false b f = refl

    by_uid : (r : Ref) (u : Option Uid) → is_uid_of_other u c ≡ true → (names_claim r c && uid_carries u c) ≡ false
    by_uid r None f = absurd (true≢false (sym f))
    by_uid r (Some uid) f = and_no (names_claim r c) (is_uid c.meta.uid uid) f

    by : (r : Option Ref) → is_uid_of_other (ref_uid r) c ≡ true → refers_carrying r c ≡ false
    by None f = absurd (true≢false (sym f))
    by (Some r) f = by_uid r r.uid f

none_ref : (r : Option Ref) → is_none r ≡ true → r ≡ None
none_ref None e = refl
none_ref (Some r) e = absurd (true≢false (sym e))

-- where the binder may take the named volume, the binding is due
named_is_due : (v : VolumeData) (c : ClaimData) → is_blocked v ≡ false → is_open_to v c ≡ true → named_due c (Some (Volume v)) ≡ Some dues.Bind
unfolding named_due
named_is_due v c free open_ = rw free (by (is_none v.claim_ref) (fits v c) (is_for v c) open_)
  where
    by : (none fit own : Bool) → (if none then fit else own) ≡ true → (if none then (if fit then Some dues.Bind else None) else if own then Some dues.Bind else None) ≡ Some dues.Bind
    by true true own e = refl
    by true false own e = absurd (true≢false (sym e))
    by false fit true e = refl
    by false fit false e = absurd (true≢false (sym e))

-- the call of a machine that may be held back by a test
held_is : (b : Bool) (request call : Request) → (if b then Some request else None) ≡ Some call → request ≡ call
held_is true request call e = one request call e
held_is false request call e = none_some e

-- ---- the machines

module _ (setup : Setup) (seat : ℕ) (key : Key) where
  -- no volume that the claim names carries it
  abbrev IsAway : List Entry → ClaimData → Type 0
  IsAway h c = (v : VolumeData) → row_at (volume_key c.volume_name) (world setup h).store.rows ≡ Some (Volume v) → carries v c ≡ false

  loses_pay : (h : List Entry) (c : ClaimData) → StandsClaim (world setup h) c → is_completed c ≡ true → IsAway h c → is_lost c.phase ≡ false → MachinePays setup seat key h (machines.Loses c)
  unfolding call_of moved
  loses_pay h c sc completed away open_ call asks =
      subst (PaysFrom setup seat key h (machines.Loses c)) (one (write_lost c) call asks)
      (write_pays setup seat key h (machines.Loses c) (write_lost c) refl
      (lost_pays setup (world setup h) seats.Binder c c.got_modes c.got sc completed away (lost_same c.phase ∙ open_)) (λ n moves. none_some moves))

  confirmed_is : (c : ClaimData) (step : ClaimStep) (machine : Machine) → confirmed_for c step ≡ Some machine → machine ≡ machines.Loses c
  confirmed_is c claim_steps.Lost machine e = sym (one (machines.Loses c) machine e)
  confirmed_is c claim_steps.Nothing machine e = none_some e
  confirmed_is c claim_steps.ReadVolume machine e = none_some e
  confirmed_is c claim_steps.Bind machine e = none_some e
  confirmed_is c claim_steps.AssignClass machine e = none_some e

  read_loses : (c : ClaimData) (x : Option Object) (machine : Machine) → moved (machines.ReadsVolume c) (got x) ≡ Some machine → machine ≡ machines.Loses c
  unfolding moved
  read_loses c None machine e = confirmed_is c _ machine e
  read_loses c (Some o) machine e = confirmed_is c _ machine e

  -- the read of the volume, and phase Lost after it
  reads_pay : (h : List Entry) (c : ClaimData) → StandsClaim (world setup h) c → is_completed c ≡ true → IsAway h c → is_lost c.phase ≡ false → MachinePays setup seat key h (machines.ReadsVolume c)
  unfolding call_of
  reads_pay h c sc completed away open_ call asks =
      subst (PaysFrom setup seat key h (machines.ReadsVolume c)) (held_is _ (Get (volume_key c.volume_name)) call asks)
      (read_pays setup seat key h (machines.ReadsVolume c) (volume_key c.volume_name)
      (λ n moves. subst (MachinePays setup seat key (with_own setup seat h (Get (volume_key c.volume_name)))) (sym (loses n moves)) lost))
    where
      same : world setup (with_own setup seat h (Get (volume_key c.volume_name))) ≡ world setup h
      same = get_stays setup (world setup h) seats.Binder (volume_key c.volume_name)

      loses : (n : Machine) → moved (machines.ReadsVolume c) (answer setup h (Get (volume_key c.volume_name))) ≡ Some n → n ≡ machines.Loses c
      loses n moves = read_loses c (row_at (volume_key c.volume_name) (world setup h).store.rows) n
          (sym (ap (moved (machines.ReadsVolume c)) (get_said setup (world setup h) seats.Binder (volume_key c.volume_name))) ∙ moves)

      lost : MachinePays setup seat key (with_own setup seat h (Get (volume_key c.volume_name))) (machines.Loses c)
      lost = loses_pay (with_own setup seat h (Get (volume_key c.volume_name))) c (subst (λ w. StandsClaim w c) (sym same) sc) completed
          (subst (λ w. (v : VolumeData) → row_at (volume_key c.volume_name) w.store.rows ≡ Some (Volume v) → carries v c ≡ false) (sym same) away) open_

  assigns_pay : (h : List Entry) (c : ClaimData) (x : ClassData) → StandsClaim (world setup h) c → measure.is_seeking c ≡ true → lacks_class c ≡ true
      → has_match (world setup h).store.rows c ≡ false → MachinePays setup seat key h (machines.AssignsClass c x)
  unfolding call_of moved
  assigns_pay h c x sc seeking lacks none call asks =
      let l = and_parts (is_none c.class) (not (has_key beta_class c.meta.annotations)) lacks in
      subst (PaysFrom setup seat key h (machines.AssignsClass c x)) (held_is _ (write_class c x) call asks)
      (write_pays setup seat key h (machines.AssignsClass c x) (write_class c x) refl
      (class_pays setup (world setup h) seats.Binder c x.meta.name sc seeking (none_text c.class l.0) (not_true (has_key beta_class c.meta.annotations) l.1) none) (λ n moves. none_some moves))
    where
      none_text : (y : Option (List ℕ)) → is_none y ≡ true → y ≡ None
      none_text None e = refl
      none_text (Some y) e = absurd (true≢false (sym e))

      not_true : (b : Bool) → not b ≡ true → b ≡ false
      not_true true e = absurd (true≢false (sym e))
      not_true false e = refl

-- ---- the decision, on rows that are the store's where the binder follows

module _ (setup : Setup) (seat : ℕ) (key : Key) (h : List Entry) (pass : ImportsPass setup.imports) (cached : List Object) (ordered : AreRows cached)
    (agree : AgreeForBinder cached (world setup h).store.rows) (c : ClaimData) (sc : StandsClaim (world setup h) c) (machine : Machine) where
  abbrev rows : List Object
  rows = (world setup h).store.rows

  abbrev PaysHere : Machine → Type 0
  PaysHere m = MachinePays setup seat key h m

  abbrev Decided : ClaimStep → Type 0
  Decided step = IsClaimFirst cached c step (binder_firsts.Begins machine)

  volume_seen : (name : List ℕ) → row_at (volume_key name) cached ≡ row_at (volume_key name) rows
  volume_seen name = agree (volume_key name) refl

  begins : (m : Machine) → binder_firsts.Begins machine ≡ binder_firsts.Begins m → PaysHere m → PaysHere machine
  begins m e pays = subst PaysHere (sym (this_begins machine m e)) pays

  -- a volume that the claim names
  named_by : (v : VolumeData) → row_at (volume_key c.volume_name) rows ≡ Some (Volume v) → c.volume_name ≡ v.meta.name
  named_by v on = ap (λ (k : Key). k.name) (sym (row_at_key (volume_key c.volume_name) (Volume v) rows on))

  stands_named : (v : VolumeData) → row_at (volume_key c.volume_name) rows ≡ Some (Volume v) → StandsVolume (world setup h) v
  stands_named v on = volume_stands setup h v (ap (λ name. row_at (volume_key name) rows) (sym (named_by v on)) ∙ on)

  -- a volume has a name
  unnamed_away : is_empty c.volume_name ≡ true → IsAway setup seat key h c
  unnamed_away empty v on = absurd (no_name v.meta.name (ap is_empty (sym (named_by v on)) ∙ empty) (volume_facts v (rows_are_valid setup h pass (volume_key c.volume_name) (Volume v) on)).named)
    where
      no_name : (name : List ℕ) → is_empty name ≡ true → not (is_subdomain name) ≡ false → ⊥
      no_name [] e f = true≢false f
      no_name (x ∷ xs) e f = true≢false (sym e)

  -- a binding to the volume that the claim names
  binds_named : is_empty c.volume_name ≡ false → IsBindingTo cached c (binder_firsts.Begins machine) → (v : VolumeData) → row_at (volume_key c.volume_name) rows ≡ Some (Volume v) → GoesOnWith v c
      → (carries v c ≡ false → next_write v c ≡ Some (write_reference v c) → Lowers setup (world setup h) seats.Binder (write_reference v c) 1) → PaysHere machine
  binds_named named b v on goes first =
      let choice : IsVolumeFor false cached c (Some b.place) = subst (λ x. IsVolumeFor x cached c (Some b.place)) named b.choice in
      let same : b.volume ≡ v = ap (volume_in b.volume) (sym b.there ∙ (choice ∙ (volume_seen c.volume_name ∙ on))) in
      begins (machines.Binds b.volume c) b.begins (subst (λ x. PaysHere (machines.Binds x c)) (sym same) (binds_pay setup seat key h v c (stands_named v on) sc goes first))

  -- completed, and not with a volume that has it
  lost_unless : (step : ClaimStep) → Decided (unless_lost c step) → (is_lost c.phase ≡ false → Decided step → PaysHere machine) → PaysHere machine
  lost_unless step d on = by (is_lost c.phase) refl d
    where
      by : (b : Bool) → is_lost c.phase ≡ b → Decided (if b then claim_steps.Nothing else step) → PaysHere machine
      by true is e = drops_none machine e
      by false is e = on is e

  completed_on : is_completed c ≡ true → is_empty c.volume_name ≡ false → (v : VolumeData) → row_at (volume_key c.volume_name) rows ≡ Some (Volume v)
      → Decided (completed_step c NotAsked (Some v)) → PaysHere machine
  completed_on completed named v on d = by (has_other_uid v c) (has_write v c) refl refl d
    where
      by : (other writes : Bool) → has_other_uid v c ≡ other → has_write v c ≡ writes
          → Decided (if other then unless_lost c claim_steps.Lost else if writes then claim_steps.Bind else claim_steps.Nothing) → PaysHere machine
      by true writes eo ew e = lost_unless claim_steps.Lost e (λ open_ f. begins (machines.ReadsVolume c) (f ∙ ap (λ b. binder_firsts.Begins (lost_for b c)) named)
          (reads_pay setup seat key h c sc completed (λ u at. ap (λ x. carries x c) (ap (volume_in u) (sym at ∙ on)) ∙ other_free v c eo) open_))
      by false true eo ew e =
          let w = and_parts (is_none v.claim_ref || carries v c) (is_some (next_write v c)) ew in
          binds_named named e v on (inr (completed, named_by v on))
          (λ free next. completed_pays setup (world setup h) seats.Binder v c (stands_named v on) sc completed (named_by v on)
          (none_ref v.claim_ref (left_of_or (is_none v.claim_ref) (carries v c) free w.0)) next)
        where
          left_of_or : (a b : Bool) → b ≡ false → (a || b) ≡ true → a ≡ true
          left_of_or true b f g = refl
          left_of_or false b f g = absurd (true≢false (sym g ∙ f))
      by false false eo ew e = drops_none machine e

  completed_away : is_completed c ≡ true → row_at (volume_key c.volume_name) rows ≡ None → Decided (completed_step c NotAsked None) → PaysHere machine
  completed_away completed on d =
      lost_unless claim_steps.ReadVolume d (λ open_ f. begins (machines.ReadsVolume c) f (reads_pay setup seat key h c sc completed (λ v at. none_some (sym on ∙ at)) open_))

  completed_so : is_completed c ≡ true → is_empty c.volume_name ≡ false → Decided (completed_step c NotAsked (named_volume cached c)) → PaysHere machine
  completed_so completed named d = by (volume_or c.volume_name rows (row_at (volume_key c.volume_name) rows) refl)
    where
      by : VolumeOr (row_at (volume_key c.volume_name) rows) → PaysHere machine
      by (IsNone on) = completed_away completed on (subst (λ y. Decided (completed_step c NotAsked (as_volume y))) (volume_seen c.volume_name ∙ on) d)
      by (IsOne v on) = completed_on completed named v on (subst (λ y. Decided (completed_step c NotAsked (as_volume y))) (volume_seen c.volume_name ∙ on) d)

  -- open, and it names a volume
  named_on : is_completed c ≡ false → is_deleting c.meta ≡ false → is_empty c.volume_name ≡ false → (v : VolumeData)
      → row_at (volume_key c.volume_name) rows ≡ Some (Volume v) → Decided (named_step c (Some v)) → PaysHere machine
  named_on open_ staying named v on d = by (is_blocked v) (is_open_to v c) refl refl d
    where
      by : (blocked free : Bool) → is_blocked v ≡ blocked → is_open_to v c ≡ free
          → Decided (if blocked then claim_steps.Nothing else if free then claim_steps.Bind else claim_steps.Nothing) → PaysHere machine
      by true free eb ef e = drops_none machine e
      by false true eb ef e =
          binds_named named e v on (inl (open_, staying))
          (λ free next. named_reference_pays setup (world setup h) seats.Binder v c (stands_named v on) sc open_ staying named (named_by v on) (named_is_due v c eb ef) free)
      by false false eb ef e = drops_none machine e

  named_so : is_completed c ≡ false → is_deleting c.meta ≡ false → is_empty c.volume_name ≡ false → Decided (named_step c (named_volume cached c)) → PaysHere machine
  named_so open_ staying named d = by (volume_or c.volume_name rows (row_at (volume_key c.volume_name) rows) refl)
    where
      by : VolumeOr (row_at (volume_key c.volume_name) rows) → PaysHere machine
      by (IsNone on) = drops_none machine (subst (λ y. Decided (named_step c (as_volume y))) (volume_seen c.volume_name ∙ on) d)
      by (IsOne v on) = named_on open_ staying named v on (subst (λ y. Decided (named_step c (as_volume y))) (volume_seen c.volume_name ∙ on) d)

  -- open, and it names none

  match_seen : has_match cached c ≡ has_match rows c
  match_seen = match_same cached rows c ordered (rows_stand_in_order setup h) agree

  matched : is_completed c ≡ false → is_deleting c.meta ≡ false → is_empty c.volume_name ≡ true → IsBindingTo cached c (binder_firsts.Begins machine) → PaysHere machine
  matched open_ staying empty b =
      begins (machines.Binds b.volume c) b.begins
      (binds_pay setup seat key h b.volume c (volume_stands setup h b.volume at) sc (inl (open_, staying))
      (λ free next. match_pays setup (world setup h) seats.Binder b.volume c (volume_stands setup h b.volume at) sc seeking
      (ap (λ v. eligible v c None) same ∙ best.candidate.eligible) free own_first))
    where
      best : IsBestAt cached c None (waits_for_pod cached c) [] b.place
      best = subst (λ x. IsVolumeFor x cached c (Some b.place)) empty b.choice

      same : b.volume ≡ best.volume
      same = ap (volume_in b.volume) (sym b.there ∙ best.candidate.there)

      seeking : measure.is_seeking c ≡ true
      seeking = rw (open_, staying, empty) refl

      among : IsIn (Volume b.volume) cached
      among = some_filter (λ z. z ≡ Volume b.volume) (is_of_kind kinds.PersistentVolume) cached (at_place_in (rows_of kinds.PersistentVolume cached) b.place (Volume b.volume) b.there)

      on : row_at (key_of (Volume b.volume)) rows ≡ Some (Volume b.volume)
      on = member_stands (Volume b.volume) rows (rows_stand_in_order setup h) (goes_over cached rows ordered agree (Volume b.volume) refl among)

      at : row_at (volume_key b.volume.meta.name) rows ≡ Some (Volume b.volume)
      at = ap (λ namespace. row_at (record { kind = kinds.PersistentVolume; namespace = namespace; name = b.volume.meta.name }) rows)
          (sym (no_namespace b.volume (rows_are_valid setup h pass (key_of (Volume b.volume)) (Volume b.volume) on))) ∙ on

      own_first : (u : VolumeData) → row_at (key_of (Volume u)) rows ≡ Some (Volume u) → eligible u c None ≡ true → is_for u c ≡ true → is_for b.volume c ≡ true
      own_first u there fit own =
          ap (λ v. is_for v c) same
          ∙ best_is_own cached c (waits_for_pod cached c) b.place best u
          (goes_over rows cached (rows_stand_in_order setup h) (λ k g. sym (agree k g)) (Volume u) refl (found_stands (key_of (Volume u)) (Volume u) rows there)) fit own

  unnamed_so : is_completed c ≡ false → is_deleting c.meta ≡ false → is_empty c.volume_name ≡ true → Decided (unnamed_step cached c) → PaysHere machine
  unnamed_so open_ staying empty d = by (has_match cached c) (may_assign cached c) refl refl d
    where
      seeking : measure.is_seeking c ≡ true
      seeking = rw (open_, staying, empty) refl

      by : (found may : Bool) → has_match cached c ≡ found → may_assign cached c ≡ may
          → Decided (if found then claim_steps.Bind else if may then claim_steps.AssignClass else claim_steps.Nothing) → PaysHere machine
      by true may ef em e = matched open_ staying empty e
      by false true ef em e =
          let l = and_parts (lacks_class c) (list_any is_default_row cached) em in
          begins (machines.AssignsClass c e.class) e.begins (assigns_pay setup seat key h c e.class sc seeking l.0 (sym match_seen ∙ ef))
      by false false ef em e = drops_none machine e

  pub claim_begun_pays : Decided (claim_decision cached c NotAsked) → PaysHere machine
  unfolding claim_decision
  claim_begun_pays d = by (is_completed c) (is_empty c.volume_name) (is_deleting c.meta) refl refl refl d
    where
      by : (completed empty deleting : Bool) → is_completed c ≡ completed → is_empty c.volume_name ≡ empty → is_deleting c.meta ≡ deleting
          → Decided (if completed then (if empty then unless_lost c claim_steps.Lost else completed_step c NotAsked (named_volume cached c)) else if
          deleting then claim_steps.Nothing else if empty then unnamed_step cached c else named_step c (named_volume cached c))
          → PaysHere machine
      by true true deleting ec ee ed e =
          lost_unless claim_steps.Lost e (λ open_ f. begins (machines.Loses c) (f ∙ ap (λ b. binder_firsts.Begins (lost_for b c)) ee) (loses_pay setup seat key h c sc ec (unnamed_away ee) open_))
      by true false deleting ec ee ed e = completed_so ec ee e
      by false empty true ec ee ed e = drops_none machine e
      by false true false ec ee ed e = unnamed_so ec ed ee e
      by false false false ec ee ed e = named_so ec ed ee e
