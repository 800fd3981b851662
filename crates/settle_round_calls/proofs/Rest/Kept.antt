-- A slot of a scheduler makes no object, and calls no back end: claims, volumes and planned faults are no more behind it.
use Rattle.std.proofs.Common.{◌≡◌, ◌∙◌, ℕ, ◌≤◌, List, [], ◌∷◌, Bool, true, false, Some, inl, inr, refl, sym, ap, subst, arith, if◌then◌else◌}
use Rattle.std.specs.Prelude.{nat_lt}
use Rattle.kube_objects.specs.declared.key.Key.{Key}
use Rattle.kube_parts.specs.declared.names.Field.TheVariants as fields
use Rattle.kube_parts.specs.declared.parts.Kind.{Kind}
use Rattle.kube_parts.specs.declared.parts.Kind.TheVariants as kinds
use Rattle.kube_objects.specs.declared.objects.Object.{Object}
use Rattle.kube_objects.specs.declared.objects.Object.TheVariants.{Class, Node, Volume, Claim, Pod}
use Rattle.kube_objects.specs.Keys.{AreRows, key_of, kind_of, row_at}
use Rattle.kube_objects.proofs.KeyOrder.{row_at_key}
use Rattle.call_types.specs.declared.entry.Entry.{Entry}
use Rattle.call_types.specs.declared.reply.Refusal.TheVariants.{Gone, Invalid}
use Rattle.call_types.specs.declared.reply.Reply.{Reply}
use Rattle.call_types.specs.declared.reply.Reply.TheVariants.{Events, Refused}
use Rattle.call_types.specs.declared.request.Request.{Request}
use Rattle.call_types.specs.declared.request.Request.TheVariants as requests
use Rattle.call_types.specs.declared.request.SeatKind.TheVariants as seats
use Rattle.call_types.specs.declared.setup.Setup.{Setup}
use Rattle.binder_model.specs.Answers.{Says}
use Rattle.binder_model.specs.Devices.{device_answer, epoch_if_stale}
use Rattle.binder_model.specs.Licence.{Licensed}
use Rattle.binder_model.specs.Promises.{IsRunOf}
use Rattle.binder_model.specs.Store.{State}
use Rattle.binder_model.specs.Told.{own}
use Rattle.binder_model.specs.Watching.{oldest, told_events}
use Rattle.binder_model.specs.World.{OnStore, World, base, effect, on_devices, watch, world, world_after}
use Rattle.model_laws.proofs.Histories.{rows_stand_in_order}
use Rattle.safety_law.specs.Invariant.Moves.{written_by}
use Rattle.safety_law.specs.Invariant.Whence.{IsNext}
use Rattle.safety_law.specs.Invariant.Writes.{Writes}
use Rattle.safety_law.proofs.Invariant.Effects.{effect_form}
use Rattle.safety_law.proofs.Invariant.Whence.{bound_next, finished_next, marked_next, status_next, updated_next}
use Rattle.settle_measure.specs.Left.Measure.{claims_in, faults_left, total, volumes_in}
use Rattle.settle_measure.proofs.Left.Sums.{none_paid, none_pays, put_falls}
use Rattle.worker_core.specs.declared.role.Role.{Role}
use Rattle.worker_core.specs.Absorbs.{woken}
use Rattle.worker_core.specs.Roles.{IsBuiltKind}
use Rattle.worker_core.specs.States.{ActorState}
use Rattle.actor_rounds.specs.Rounds.{Lets, Runs, told_entry}
use Rattle.settle_calls.proofs.Events.Rows.{without_total}
use Rattle.settle_writes.proofs.Done.Doing.{write_asked}
use Rattle.settle_write_counts.proofs.Rounds.Nodes.{IsMoved}
use Rattle.settle_write_counts.proofs.Rounds.Runs.{IsCalled, run_moves}
use Rattle.settle_write_counts.proofs.Rounds.Slots.{ComesTo, Leaves, Wrote, comes_to}

-- ---- rows

-- so much for each object, by its kind
abbrev pub of_kind : (Kind → ℕ) → Object → ℕ
of_kind f o = f (kind_of o)

abbrev pub is_volume : Kind → ℕ
is_volume kinds.PersistentVolume = 1
is_volume kind = 0

abbrev pub is_claim : Kind → ℕ
is_claim kinds.PersistentVolumeClaim = 1
is_claim kind = 0

pub volumes_are : (rows : List Object) → volumes_in rows ≡ total (of_kind is_volume) rows
volumes_are [] = refl
volumes_are (Class x ∷ os) = let rest = volumes_are os in omega (arith, rest)
volumes_are (Node x ∷ os) = let rest = volumes_are os in omega (arith, rest)
volumes_are (Volume x ∷ os) = let rest = volumes_are os in omega (arith, rest)
volumes_are (Claim x ∷ os) = let rest = volumes_are os in omega (arith, rest)
volumes_are (Pod x ∷ os) = let rest = volumes_are os in omega (arith, rest)

pub claims_are : (rows : List Object) → claims_in rows ≡ total (of_kind is_claim) rows
claims_are [] = refl
claims_are (Class x ∷ os) = let rest = claims_are os in omega (arith, rest)
claims_are (Node x ∷ os) = let rest = claims_are os in omega (arith, rest)
claims_are (Volume x ∷ os) = let rest = claims_are os in omega (arith, rest)
claims_are (Claim x ∷ os) = let rest = claims_are os in omega (arith, rest)
claims_are (Pod x ∷ os) = let rest = claims_are os in omega (arith, rest)

-- a row is put in place of one that counts no less, or leaves
pub over_less : (f : Object → ℕ) (old new : List Object) → AreRows old → (o was : Object) → row_at (key_of o) old ≡ Some was → f o ≤ f was → IsMoved old new o → total f new ≤ total f old
over_less f old new order o was there less (inl put) =
    let e = ap (total f) put in
    let h = put_falls f f none_paid o was old order there (λ x i other. omega arith) in
    let z = none_pays old in
    omega (arith, e, h, z, less)
over_less f old new order o was there less (inr gone) =
    let e = ap (total f) gone in
    let h = without_total f (key_of o) old in
    omega (arith, e, h)

-- such is one of its kind
pub over_stays : (f : Kind → ℕ) (old new : List Object) → AreRows old → (o was : Object) → row_at (key_of o) old ≡ Some was → IsMoved old new o → total (of_kind f) new ≤ total (of_kind f) old
over_stays f old new order o was there moved =
    let same : of_kind f was ≡ of_kind f o = ap (λ (k : Key). f k.kind) (row_at_key (key_of o) was old there) in
    over_less (of_kind f) old new order o was there (omega (arith, same)) moved

-- ---- each call

-- no more claims, volumes and planned faults
pub record Stays (setup : Setup) (w v : World) : Type 0 where
  pub claims : claims_in v.store.rows ≤ claims_in w.store.rows
  pub volumes : volumes_in v.store.rows ≤ volumes_in w.store.rows
  pub faults : faults_left setup v.devices ≤ faults_left setup w.devices

module _ (setup : Setup) (w : World) (mine : List Entry) where
  -- a scheduler writes over what stands
  over : (order : AreRows w.store.rows) (f : Kind → ℕ) (o : Object) (rows : List Object) → IsMoved w.store.rows rows o → (request : Request)
      → Licensed seats.Scheduler mine request → Writes w seats.Scheduler request o → total (of_kind f) rows ≤ total (of_kind f) w.store.rows
  over order f o rows moved request may i = by request may i
    where
      next : (old : Object) → IsNext w.store old o → total (of_kind f) rows ≤ total (of_kind f) w.store.rows
      next old n = over_stays f w.store.rows rows order o old n.there moved

      by : (request : Request) → Licensed seats.Scheduler mine request → Writes w seats.Scheduler request o → total (of_kind f) rows ≤ total (of_kind f) w.store.rows
      by (requests.Create x) may i = absurd may.1
      by (requests.Update new given) may i = next i.old (updated_next w.store seats.Scheduler new given o i)
      by (requests.UpdateStatus key status given) may i = next i.old (status_next w.store seats.Scheduler key status given o i)
      by (requests.Edit key change) may i = absurd may.1
      by (requests.Delete key given) may i = next i.old (marked_next w.store w.moment key given o i)
      by (requests.BindPod key uid node) may i = next (Pod i.pod) (bound_next w.store seats.Scheduler key uid node o i)
      by (requests.FinishPod key uid node epoch) may i = next (Pod i.pod) (finished_next w.store seats.Scheduler key uid node (epoch_if_stale w.devices node epoch) o i)
      by _ may i = absurd i

  -- and calls no device
  same_devices : (request : Request) → Licensed seats.Scheduler mine request → (world_after w (effect setup w seats.Scheduler request)).devices ≡ w.devices
  unfolding effect on_devices device_answer world_after watch
  same_devices (requests.Update o given) may = refl
  same_devices (requests.UpdateStatus key status given) may = refl
  same_devices (requests.Delete key given) may = refl
  same_devices (requests.Get key) may = refl
  same_devices (requests.List k namespace) may = refl
  same_devices (requests.BindPod key uid node) may = refl
  same_devices (requests.Watch k from) may = by (nat_lt w.store.version from) (nat_lt from (oldest (base setup) w.store.version))
    where
      by : (ahead gone : Bool)
          → (world_after w (if ahead then OnStore (Says (Refused (Invalid fields.From))) else if gone then OnStore
          (Says (Refused (Gone (oldest (base setup) w.store.version)))) else OnStore (Says (Events (told_events k from w.store.version w.log))))).devices ≡ w.devices
      by true gone = refl
      by false true = refl
      by false false = refl
  same_devices (requests.FinishPod key uid node epoch) may = refl
  same_devices _ may = absurd may.1

  call_stays : AreRows w.store.rows → (request : Request) → Licensed seats.Scheduler mine request → Stays setup w (world_after w (effect setup w seats.Scheduler request))
  call_stays order request may = by (comes_to w (effect setup w seats.Scheduler request))
    where
      fewer : faults_left setup (world_after w (effect setup w seats.Scheduler request)).devices ≤ faults_left setup w.devices
      fewer = let e = ap (faults_left setup) (same_devices request may) in omega (arith, e)

      asked : (o : Object) → written_by (effect setup w seats.Scheduler request) ≡ Some o → Writes w seats.Scheduler request o
      asked o written = write_asked setup w seats.Scheduler request o (effect setup w seats.Scheduler request) (effect_form setup w seats.Scheduler request order) written

      by : ComesTo w (effect setup w seats.Scheduler request) → Stays setup w (world_after w (effect setup w seats.Scheduler request))
      by (Leaves same) =
          let c = ap (λ (s : State). claims_in s.rows) same in
          let v = ap (λ (s : State). volumes_in s.rows) same in
          record { claims = omega (arith, c); volumes = omega (arith, v); faults = fewer }
      by (Wrote o written version moved) =
          let c = over order is_claim o (world_after w (effect setup w seats.Scheduler request)).store.rows moved request may (asked o written) in
          let v = over order is_volume o (world_after w (effect setup w seats.Scheduler request)).store.rows moved request may (asked o written) in
          let cw = claims_are w.store.rows in
          let ca = claims_are (world_after w (effect setup w seats.Scheduler request)).store.rows in
          let vw = volumes_are w.store.rows in
          let va = volumes_are (world_after w (effect setup w seats.Scheduler request)).store.rows in
          record { claims = omega (arith, c, cw, ca); volumes = omega (arith, v, vw, va); faults = fewer }

-- ---- the slot

pub scheduler_keeps : (setup : Setup) (lets : Lets) (seat : ℕ) (old after : ActorState) (h past : List Entry) (b left : ℕ) (idle : Bool)
    → old.role.kind ≡ seats.Scheduler → IsRunOf setup past → Runs lets seat after past left idle (woken old) h b
    → Stays setup (world setup h) (world setup past)
scheduler_keeps setup lets seat old after h past b left idle kind run runs =
    run_moves setup lets seat after past left idle run old.role (subst IsBuiltKind (sym kind) tt) (Stays setup)
    (λ w. record { claims = omega arith; volumes = omega arith; faults = omega arith }) joins calls (woken old) h b runs refl
  where
    joins : (u v w : World) → Stays setup u v → Stays setup v w → Stays setup u w
    joins u v w first then_ =
        let a = first.claims in
        let b = then_.claims in
        let c = first.volumes in
        let d = then_.volumes in
        let e = first.faults in
        let f = then_.faults in
        record { claims = omega (arith, a, b); volumes = omega (arith, c, d); faults = omega (arith, e, f) }

    calls : (x : ActorState) (request : Request) (reply : Reply) (g : List Entry) → x.role ≡ old.role → IsCalled setup seat x request reply g
        → Stays setup (world setup g) (world setup (told_entry seat x request reply ∷ g))
    calls x request reply g is called =
        let of : x.role.kind ≡ seats.Scheduler = ap (λ (r : Role). r.kind) is ∙ kind in
        let here = call_stays setup (world setup g) (own seat g) (rows_stand_in_order setup g) request (subst (λ k. Licensed k (own seat g) request) of called.may) in
        subst (λ k. Stays setup (world setup g) (world_after (world setup g) (effect setup (world setup g) k request))) (sym of) here
