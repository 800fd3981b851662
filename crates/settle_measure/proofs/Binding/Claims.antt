-- Writes of claims: the third and the fourth write of a binding, Lost, and the node of a claim.
use Rattle.std.proofs.Common.{◌≡◌, ◌∙◌, ◌⊎◌, ℕ, ◌+◌, ◌≤◌, Bool, true, false, true≢false, Option, Some, None, inl, inr, refl, sym, ap, subst, arith}
use Rattle.std.specs.Prelude.{bytes_eq, not, ◌&&◌, ◌==◌, is_some}
use Rattle.std.specs.Bool.{beq}
use Rattle.std.proofs.lemmas.Bool.Decides.{nat_tests}
use Rattle.std.proofs.lemmas.Bool.{and_from, and_parts}
use Rattle.std.proofs.lemmas.Slice.Eq.{bytes_eq-Decides}
use Rattle.kube_parts.specs.declared.parts.ClaimPhase.{ClaimPhase}
use Rattle.kube_parts.specs.declared.parts.ClaimPhase.TheVariants as claims
use Rattle.kube_parts.specs.declared.parts.Modes.{Modes}
use Rattle.kube_objects.specs.declared.objects.Amount.{Amount}
use Rattle.kube_objects.specs.declared.objects.Claim.{Claim as ClaimData}
use Rattle.kube_objects.specs.declared.objects.Volume.{Volume as VolumeData}
use Rattle.kube_objects.specs.declared.objects.Object.{Object}
use Rattle.kube_objects.specs.declared.objects.Object.TheVariants.{Class, Node, Volume, Claim, Pod}
use Rattle.kube_objects.specs.Bindings.{bind_completed, bound_by_controller, yes, is_completed, is_deleting, is_empty, is_protected_claim, is_bound, carries}
use Rattle.kube_objects.specs.Keys.{key_of, put_row, row_at}
use Rattle.call_types.specs.declared.request.NewStatus.TheVariants as statuses
use Rattle.call_types.specs.declared.request.Request.TheVariants.{Update, UpdateStatus}
use Rattle.call_types.specs.declared.request.SeatKind.{SeatKind}
use Rattle.call_types.specs.declared.setup.Setup.{Setup}
use Rattle.binder_model.specs.Answers.{with_status}
use Rattle.binder_model.specs.BindWrites.{annotated_meta, annotated_meta_if, completed_with, shows_bound}
use Rattle.binder_model.specs.ObjectKeys.{claim_key, volume_key}
use Rattle.binder_model.specs.Same.{same_amount, same_modes}
use Rattle.binder_model.specs.Store.{at_version, has_no_names, leaves, updated_object, with_meta, with_status_of}
use Rattle.binder_model.specs.World.{Effect, World, effect, world_after}
use Rattle.model_laws.proofs.Lists.{one}
use Rattle.safety_law.specs.Invariant.Writes.{IsLeaving, IsStatus, IsUpdate}
use Rattle.settle_measure.specs.Left.Measure.{claim_left, completed_left, guard_left, is_lost, is_seeking, left_of, left_on, open_left, unless}
use Rattle.settle_measure.specs.Binding.Pays.{CompletionPays, LostPays, StatusPays}
use Rattle.settle_measure.specs.Left.Lowers.{Lowers, StandsClaim}
use Rattle.settle_measure.proofs.Left.Aside.{claim_put}
use Rattle.settle_measure.proofs.Left.Entries.{Put, Took, came}
use Rattle.settle_measure.proofs.Left.Others.{bound_left}
use Rattle.settle_measure.proofs.Left.Words.{carries_alike, value_put}

-- the claim as an update writes it
abbrev pub rewritten_claim : ClaimData → ClaimData → ℕ → ClaimData
rewritten_claim c x version = record x {
  phase = c.phase;
  got_modes = c.got_modes;
  got = c.got;
  meta = record x.meta
      { uid = c.meta.uid; version = version; created = c.meta.created; deleted = c.meta.deleted };
}

-- the claim with another status, as it is written
abbrev pub with_claim_status : ClaimData → ClaimPhase → Modes → Option Amount → ℕ → ClaimData
with_claim_status c phase modes amount version = record c { phase = phase; got_modes = modes; got = amount; meta = record c.meta { version = version } }

module _ (setup : Setup) (w : World) (kind : SeatKind) (c : ClaimData) (s : StandsClaim w c) where
  pub moved_claim : (x : Effect) (new : ClaimData) → Put w x (Claim new) → left_of (world_after w x) ≡ left_on (put_row (Claim new) w.store.rows) w.devices
  moved_claim x new put = ap (λ rows. left_on rows (world_after w x).devices) put.rows ∙ ap (left_on (put_row (Claim new) w.store.rows)) put.devices

  pub lowered_claim : (x : Effect) (new : ClaimData) (n : ℕ) → key_of (Claim new) ≡ key_of (Claim c) → Put w x (Claim new) → (is_seeking new ≡ true → is_seeking c ≡ true)
      → claim_left w.store.rows w.devices new + n ≤ claim_left w.store.rows w.devices c → left_of (world_after w x) + n ≤ left_of w
  lowered_claim x new n same put seek less =
      let sum = claim_put w.store.rows w.devices c new s.order same s.there seek in
      let is = moved_claim x new put in
      omega (arith, sum, is, less)

  pub claim_update_lowers : (x : ClaimData) (given : Option ℕ) (n : ℕ) → key_of (Claim x) ≡ key_of (Claim c) → leaves (Claim (rewritten_claim c x (w.store.version + 1))) ≡ false
      → (is_seeking (rewritten_claim c x (w.store.version + 1)) ≡ true → is_seeking c ≡ true)
      → claim_left w.store.rows w.devices (rewritten_claim c x (w.store.version + 1)) + n ≤ claim_left w.store.rows w.devices c
      → Lowers setup w kind (Update (Claim x) given) n
  unfolding updated_object with_meta with_status_of
  claim_update_lowers x given n same remains seek less o e =
      let m = came setup w kind (Update (Claim x) given) o s.order e in
      by m.write m.store
    where
      is_new : IsUpdate w.store kind (Claim x) given o → o ≡ Claim (rewritten_claim c x (w.store.version + 1))
      is_new i =
          let old : i.old ≡ Claim c = one i.old (Claim c) (sym i.there ∙ ap (λ k. row_at k w.store.rows) same ∙ s.there) in
          i.is ∙ ap (λ p. updated_object p (Claim x) (w.store.version + 1)) old

      by : IsUpdate w.store kind (Claim x) given o
          → Put w (effect setup w kind (Update (Claim x) given)) o ⊎ Took w (effect setup w kind (Update (Claim x) given)) (Update (Claim x) given) o
          → left_of (world_after w (effect setup w kind (Update (Claim x) given))) + n ≤ left_of w
      by i (inl put) = lowered_claim _ (rewritten_claim c x (w.store.version + 1)) n same (subst (Put w _) (is_new i) put) seek less
      by i (inr took) = absurd (true≢false (sym (subst (IsLeaving (Update (Claim x) given)) (is_new i) took.leaves) ∙ remains))

  pub claim_status_lowers : (phase : ClaimPhase) (modes : Modes) (amount : Option Amount) (given : Option ℕ) (n : ℕ)
      → claim_left w.store.rows w.devices (with_claim_status c phase modes amount (w.store.version + 1)) + n ≤ claim_left w.store.rows w.devices c
      → Lowers setup w kind (UpdateStatus (claim_key c.meta.namespace c.meta.name) (statuses.Claim phase modes amount) given) n
  unfolding at_version with_meta with_status leaves
  claim_status_lowers phase modes amount given n less o e =
      let m = came setup w kind (UpdateStatus (claim_key c.meta.namespace c.meta.name) (statuses.Claim phase modes amount) given) o s.order e in
      by m.write m.store
    where
      is_new : (i : IsStatus w.store kind (claim_key c.meta.namespace c.meta.name) (statuses.Claim phase modes amount) given o)
          → o ≡ Claim (with_claim_status c phase modes amount (w.store.version + 1))
      is_new i =
          let old : i.old ≡ Claim c = one i.old (Claim c) (sym i.there ∙ s.there) in
          let fits : Some (Claim (record c { phase = phase; got_modes = modes; got = amount })) ≡ Some i.new = sym (ap (with_status (statuses.Claim phase modes amount)) old) ∙ i.fits in
          i.is ∙ ap (λ x. at_version x (w.store.version + 1)) (sym (one (Claim (record c { phase = phase; got_modes = modes; got = amount })) i.new fits))

      by : IsStatus w.store kind (claim_key c.meta.namespace c.meta.name) (statuses.Claim phase modes amount) given o
          → Put w (effect setup w kind (UpdateStatus (claim_key c.meta.namespace c.meta.name) (statuses.Claim phase modes amount) given)) o
          ⊎ Took w (effect setup w kind (UpdateStatus (claim_key c.meta.namespace c.meta.name) (statuses.Claim phase modes amount) given))
          (UpdateStatus (claim_key c.meta.namespace c.meta.name) (statuses.Claim phase modes amount) given) o
          → left_of (world_after w (effect setup w kind (UpdateStatus (claim_key c.meta.namespace c.meta.name) (statuses.Claim phase modes amount) given))) + n ≤ left_of w
      by i (inl put) = lowered_claim _ (with_claim_status c phase modes amount (w.store.version + 1)) n refl (subst (Put w _) (is_new i) put) (λ h. h) less
      by i (inr took) = absurd (true≢false (sym (subst (IsLeaving (UpdateStatus (claim_key c.meta.namespace c.meta.name) (statuses.Claim phase modes amount) given)) (is_new i) took.leaves) ∙ s.stays))

-- the third write

-- the completed claim, marked as the controller's work or not
abbrev completed_as : Bool → ClaimData → VolumeData → ℕ → ClaimData
completed_as b c v n = rewritten_claim c (record c { volume_name = v.meta.name; meta = annotated_meta bind_completed (annotated_meta_if b bound_by_controller c.meta) }) n

completed_now : (b : Bool) (c : ClaimData) (v : VolumeData) (n : ℕ) → is_completed (completed_as b c v n) ≡ true
completed_now true c v n = ap is_some (value_put bind_completed yes (annotated_meta_if true bound_by_controller c.meta).annotations)
completed_now false c v n = ap is_some (value_put bind_completed yes (annotated_meta_if false bound_by_controller c.meta).annotations)

carried_same : (b : Bool) (c : ClaimData) (v : VolumeData) (n : ℕ) → carries v (completed_as b c v n) ≡ carries v c
carried_same true c v n = carries_alike v c (completed_as true c v n) refl refl refl
carried_same false c v n = carries_alike v c (completed_as false c v n) refl refl refl

guard_same : (b : Bool) (c : ClaimData) (v : VolumeData) (n : ℕ)
    → guard_left (is_deleting (completed_as b c v n).meta) (is_protected_claim (completed_as b c v n)) ≡ guard_left (is_deleting c.meta) (is_protected_claim c)
guard_same true c v n = refl
guard_same false c v n = refl

key_same : (b : Bool) (c : ClaimData) (v : VolumeData) (n : ℕ) → key_of (Claim (completed_as b c v n)) ≡ key_of (Claim c)
key_same true c v n = refl
key_same false c v n = refl

at_most_one : (b : Bool) → unless b 1 ≤ 1
at_most_one true = omega arith
at_most_one false = omega arith

completed_weight : (w : World) (b : Bool) (c : ClaimData) (v : VolumeData) (n : ℕ) → row_at (volume_key v.meta.name) w.store.rows ≡ Some (Volume v)
    → carries v c ≡ true → is_bound v.phase ≡ true → is_completed c ≡ false → is_deleting c.meta ≡ false
    → claim_left w.store.rows w.devices (completed_as b c v n) + 1 ≤ claim_left w.store.rows w.devices c
completed_weight w b c v n there carried bound open_ staying =
    let done = completed_now b c v n in
    let row : completed_left (completed_as b c v n) (row_at (volume_key v.meta.name) w.store.rows) ≡ completed_left (completed_as b c v n)
    (Some (Volume v)) = ap (completed_left (completed_as b c v n)) there in
    let is_carried = carried_same b c v n ∙ carried in
    let is : completed_left (completed_as b c v n) (Some (Volume v)) ≡ unless (shows_bound (completed_as b c v n) v) 1 = bound_left (completed_as b c v n) v is_carried bound in
    let small = at_most_one (shows_bound (completed_as b c v n) v) in
    let guard = guard_same b c v n in
    let now : claim_left w.store.rows w.devices (completed_as b c v n) ≡ completed_left (completed_as b c v n)
    (row_at (volume_key v.meta.name) w.store.rows) + guard_left (is_deleting (completed_as b c v n).meta) (is_protected_claim (completed_as b c v n)) = rw done refl in
    let was : claim_left w.store.rows w.devices c ≡ (2 + open_left w.store.rows w.devices c) + guard_left (is_deleting c.meta) (is_protected_claim c) = rw (open_, staying) refl in
    omega (arith, row, is, small, guard, now, was)

not_seeking : (c : ClaimData) → is_completed c ≡ true → is_seeking c ≡ true → ⊥
not_seeking c e f =
    let p = and_parts (not (is_completed c) && not (is_deleting c.meta)) (is_empty c.volume_name) f in
    let q = and_parts (not (is_completed c)) (not (is_deleting c.meta)) p.0 in
    true≢false (sym q.0 ∙ ap not e)

pub completion_pays : CompletionPays
unfolding completed_with leaves
completion_pays setup w kind v c s sc carried bound open_ staying =
    claim_update_lowers setup w kind c sc (completed_with c v) (Some c.meta.version) 1 (key_same (is_empty c.volume_name) c v 0)
    (ap (λ b. b && has_no_names (completed_with c v).meta.finalizers) staying)
    (λ h. absurd (not_seeking (completed_as (is_empty c.volume_name) c v (w.store.version + 1)) (completed_now (is_empty c.volume_name) c v (w.store.version + 1)) h))
    (completed_weight w (is_empty c.volume_name) c v (w.store.version + 1) s.there carried bound open_ staying)

-- the fourth write

same_beq : (b : Bool) → beq b b ≡ true
same_beq true = refl
same_beq false = refl

modes_same : (m : Modes) → same_modes m m ≡ true
modes_same m = and_from (beq m.rwo m.rwo && beq m.rox m.rox && beq m.rwx m.rwx) (beq m.rwop m.rwop)
    (and_from (beq m.rwo m.rwo && beq m.rox m.rox) (beq m.rwx m.rwx) (and_from (beq m.rwo m.rwo) (beq m.rox m.rox) (same_beq m.rwo) (same_beq m.rox)) (same_beq m.rwx)) (same_beq m.rwop)

amount_same : (a : Amount) → same_amount a a ≡ true
amount_same a = let n : (a.bytes == a.bytes) ≡ true = grind (arith, nat_tests) in and_from (bytes_eq a.text a.text) (a.bytes == a.bytes) ((bytes_eq-Decides a.text a.text).1 refl) n

pub status_pays : StatusPays
status_pays setup w kind v c sc completed there carried bound differs =
    let new : ClaimData = with_claim_status c claims.Bound v.modes (Some v.amount) (w.store.version + 1) in
    let is_carried : carries v new ≡ true = carries_alike v c new refl refl refl ∙ carried in
    let shows : shows_bound new v ≡ true = and_from (same_modes v.modes v.modes) (same_amount v.amount v.amount) (modes_same v.modes) (amount_same v.amount) in
    let after : completed_left new (Some (Volume v)) ≡ 0 = bound_left new v is_carried bound ∙ ap (λ b. unless b 1) shows in
    let before : completed_left c (Some (Volume v)) ≡ 1 = bound_left c v carried bound ∙ ap (λ b. unless b 1) differs in
    let now : claim_left w.store.rows w.devices new ≡ 0 + guard_left (is_deleting c.meta) (is_protected_claim c) =
    rw (completed, there) (ap (λ n. n + guard_left (is_deleting c.meta) (is_protected_claim c)) after) in
    let was : claim_left w.store.rows w.devices c ≡ 1 + guard_left (is_deleting c.meta) (is_protected_claim c) =
    rw (completed, there) (ap (λ n. n + guard_left (is_deleting c.meta) (is_protected_claim c)) before) in
    claim_status_lowers setup w kind c sc claims.Bound v.modes (Some v.amount) (Some c.meta.version) 1 (omega (arith, now, was))

-- Lost

away_left : (c : ClaimData) (o : Option Object) → ((v : VolumeData) → o ≡ Some (Volume v) → carries v c ≡ false) → completed_left c o ≡ 5 + unless (is_lost c.phase) 1
away_left c None away = refl
away_left c (Some (Class x)) away = refl
away_left c (Some (Node x)) away = refl
away_left c (Some (Claim x)) away = refl
away_left c (Some (Pod x)) away = refl
away_left c (Some (Volume v)) away = let e = away v refl in rw e refl

pub lost_pays : LostPays
lost_pays setup w kind c modes amount sc completed away fresh =
    let new : ClaimData = with_claim_status c claims.Lost modes amount (w.store.version + 1) in
    let a = away_left new (row_at (volume_key c.volume_name) w.store.rows) (λ v at. carries_alike v c new refl refl refl ∙ away v at) in
    let b = away_left c (row_at (volume_key c.volume_name) w.store.rows) away in
    let n : unless (is_lost c.phase) 1 ≡ 1 = rw fresh refl in
    let now : claim_left w.store.rows w.devices new ≡ completed_left new (row_at (volume_key c.volume_name) w.store.rows) + guard_left
    (is_deleting c.meta) (is_protected_claim c) = rw completed refl in
    let was : claim_left w.store.rows w.devices c ≡ completed_left c (row_at (volume_key c.volume_name) w.store.rows) + guard_left (is_deleting c.meta) (is_protected_claim c) = rw completed refl in
    claim_status_lowers setup w kind c sc claims.Lost modes amount (Some c.meta.version) 1 (omega (arith, a, b, n, now, was))
