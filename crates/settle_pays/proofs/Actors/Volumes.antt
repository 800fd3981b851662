-- What the binder begins for a volume pays.
use Rattle.std.proofs.Common.{◌≡◌, ◌∙◌, ℕ, ◌+◌, List, Bool, true, false, true≢false, Option, Some, None, refl, sym, ap, subst, if◌then◌else◌}
use Rattle.std.specs.Prelude.{◌&&◌, ◌||◌, bytes_eq, is_some, not}
use Rattle.kube_objects.specs.declared.key.Key.{Key}
use Rattle.kube_parts.specs.declared.uid.Uid.{Uid}
use Rattle.kube_parts.specs.declared.names.Due.TheVariants as dues
use Rattle.kube_types.specs.declared.lookup.Live.TheVariants.{NotAsked}
use Rattle.kube_parts.specs.declared.parts.VolumePhase.{VolumePhase}
use Rattle.kube_parts.specs.declared.parts.VolumePhase.TheVariants as volumes
use Rattle.kube_objects.specs.declared.objects.Ref.{Ref}
use Rattle.kube_objects.specs.declared.objects.Claim.{Claim as ClaimData}
use Rattle.kube_objects.specs.declared.objects.Volume.{Volume as VolumeData}
use Rattle.kube_objects.specs.declared.objects.Object.{Object}
use Rattle.kube_objects.specs.declared.objects.Object.TheVariants.{Volume}
use Rattle.kube_objects.specs.Bindings.{bound_by_controller, has_key, is_available, is_bound, is_empty, is_ended, is_protected_volume, ref_uid}
use Rattle.kube_objects.specs.Keys.{key_of, put_row, row_at}
use Rattle.call_types.specs.declared.entry.Entry.{Entry}
use Rattle.call_types.specs.declared.reply.Reply.{Reply}
use Rattle.call_types.specs.declared.request.Request.{Request}
use Rattle.call_types.specs.declared.request.Request.TheVariants.{Get}
use Rattle.call_types.specs.declared.request.SeatKind.TheVariants as seats
use Rattle.call_types.specs.declared.setup.Setup.{Setup}
use Rattle.binder_model.specs.BinderDue.{claim_with, is_reclaimed, reference_due, referred_due, uid_due, volume_due}
use Rattle.plain_data.specs.Pairs.{without_key}
use Rattle.binder_model.specs.BindWrites.{unbound_volume, without_uid, write_unbound}
use Rattle.binder_model.specs.ObjectKeys.{claim_key}
use Rattle.binder_model.specs.World.{effect, world}
use Rattle.model_laws.proofs.Lists.{none_some, one}
use Rattle.volume_sync.specs.declared.action.VolumeAction.TheVariants as actions
use Rattle.volume_sync.specs.VolumeDecision.{claim_by_reference, claim_by_uid, claim_of, claimed_action, free_action, or_else, referred_action, volume_decision}
use Rattle.binder_machines.specs.declared.decide.FirstMachine.TheVariants as binder_firsts
use Rattle.binder_machines.specs.declared.machine.Machine.{Machine}
use Rattle.binder_machines.specs.declared.machine.Machine.TheVariants as machines
use Rattle.binder_machines.specs.FirstSteps.{queue_of, volume_first}
use Rattle.binder_machines.specs.Machines.{call_of, machine_for, moved, phase_call, read_of, unbound_to, volume_read, write_phase}
use Rattle.settle_measure.specs.Left.Lowers.{Lowers, StandsVolume}
use Rattle.settle_measure.proofs.Binding.Stages.{at_key, available_pays, bound_pays, release_pays, rewritten, unbind_pays}
use Rattle.settle_due.proofs.Upkeep.Volumes.{begins_one, get_said, get_stays, got, machine_in}
use Rattle.settle_pays.proofs.Actors.Answered.{Answered, Goes, Refuses, Stays, volume_updated}
use Rattle.settle_pays.proofs.Actors.Walking.{MachinePays, PaysFrom, answer, new_volume, read_pays, with_own, write_pays}

-- ---- what begins, by what is due

pub data VolumeBegun (rows : List Object) (v : VolumeData) (machine : Machine) : Type 0 where
  Frees : machine ≡ machines.Frees v → volume_due rows v ≡ Some dues.Available → VolumeBegun rows v machine
  Bounds : machine ≡ machines.MarksBound v → volume_due rows v ≡ Some dues.Bound → VolumeBegun rows v machine
  Releases : machine ≡ machines.Releases v → volume_due rows v ≡ Some dues.Release → VolumeBegun rows v machine
  Unbinds : machine ≡ machines.Unbinds v → volume_due rows v ≡ Some dues.Unbind → VolumeBegun rows v machine
  Reads : (r : Ref) (uid : Uid) → machine ≡ machines.ReadsClaim v → v.claim_ref ≡ Some r → r.uid ≡ Some uid → is_ended v.phase ≡ false
      → claim_with uid (row_at (claim_key r.namespace r.name) rows) ≡ None → volume_due rows v ≡ Some dues.Release → VolumeBegun rows v machine

pub this_begins : (a b : Machine) → binder_firsts.Begins a ≡ binder_firsts.Begins b → a ≡ b
this_begins a b e = ap (machine_in a) e

pub drops_none : {X : Type 0} (machine : Machine) → binder_firsts.Begins machine ≡ binder_firsts.Drops → X
drops_none machine e = absurd (true≢false (ap begins_one e))

queues_none : {X : Type 0} (machine : Machine) (r : Option Ref) → binder_firsts.Begins machine ≡ queue_of r → X
queues_none machine None e = absurd (true≢false (ap begins_one e))
queues_none machine (Some r) e = absurd (true≢false (ap begins_one e))

module _ (rows : List Object) (v : VolumeData) (machine : Machine) where
  free_begun : volume_due rows v ≡ (if is_available v.phase then None else Some dues.Available) → binder_firsts.Begins machine ≡ volume_first v (free_action v) → VolumeBegun rows v machine
  free_begun due e = by (is_available v.phase) due e
    where
      by : (b : Bool) → volume_due rows v ≡ (if b then None else Some dues.Available)
          → binder_firsts.Begins machine ≡ volume_first v (if b then actions.Nothing else actions.Available) → VolumeBegun rows v machine
      by true d e = drops_none machine e
      by false d e = Frees (this_begins machine (machines.Frees v) e) d

  claimed_begun : (c : ClaimData) → volume_due rows v ≡ referred_due v (Some c) → binder_firsts.Begins machine ≡ volume_first v (claimed_action v c) → VolumeBegun rows v machine
  unfolding referred_due
  claimed_begun c due e = by (is_empty c.volume_name) (bytes_eq c.volume_name v.meta.name) (is_bound v.phase || not (is_protected_volume v)) (is_reclaimed v) due e
    where
      by : (empty same rests reclaimed : Bool)
          → volume_due rows v ≡ (if empty then None else if same then (if rests then None else Some dues.Bound) else if reclaimed then Some dues.Release else Some dues.Unbind)
          → binder_firsts.Begins machine ≡ volume_first v
          (if empty then actions.QueueClaim else if same then (if rests then actions.Nothing else actions.Bound) else if reclaimed then actions.Release else actions.Unbind)
          → VolumeBegun rows v machine
      by true same rests reclaimed d e = queues_none machine v.claim_ref e
      by false true true reclaimed d e = drops_none machine e
      by false true false reclaimed d e = Bounds (this_begins machine (machines.MarksBound v) e) d
      by false false rests true d e = Releases (this_begins machine (machines.Releases v) e) d
      by false false rests false d e = Unbinds (this_begins machine (machines.Unbinds v) e) d

  referred_begun : (r : Ref) (uid : Uid) → v.claim_ref ≡ Some r → r.uid ≡ Some uid → is_ended v.phase ≡ false
      → volume_due rows v ≡ referred_due v (claim_with uid (row_at (claim_key r.namespace r.name) rows))
      → binder_firsts.Begins machine ≡ volume_first v (referred_action v false (or_else (claim_with uid (row_at (claim_key r.namespace r.name) rows)) None)) → VolumeBegun rows v machine
  unfolding referred_due
  referred_begun r uid refers known open_ due e = by (claim_with uid (row_at (claim_key r.namespace r.name) rows)) refl due e
    where
      by : (x : Option ClaimData) → claim_with uid (row_at (claim_key r.namespace r.name) rows) ≡ x → volume_due rows v ≡ referred_due v x
          → binder_firsts.Begins machine ≡ volume_first v (referred_action v false (or_else x None)) → VolumeBegun rows v machine
      by None is d e = Reads r uid (this_begins machine (machines.ReadsClaim v) e) refers known open_ is d
      by (Some c) is d e = claimed_begun c d e

  -- by the rows that are looked at, of which the claim's stands as in the store
  pub volume_begun : (seen : List Object) → ((r : Ref) → row_at (claim_key r.namespace r.name) seen ≡ row_at (claim_key r.namespace r.name) rows)
      → binder_firsts.Begins machine ≡ volume_first v (volume_decision seen v NotAsked) → VolumeBegun rows v machine
  unfolding volume_due reference_due volume_decision
  volume_begun seen same e = by v.claim_ref refl e
    where
      by_uid : (r : Ref) → v.claim_ref ≡ Some r → (u : Option Uid) → r.uid ≡ u
          → binder_firsts.Begins machine ≡ volume_first v
          (if not (is_some u) then free_action v else if is_ended v.phase then actions.Nothing else referred_action v false (claim_by_uid seen r u NotAsked)) → VolumeBegun rows v machine
      by_uid r refers None known e = free_begun (ap (reference_due rows v) refers ∙ ap (uid_due rows v r) known) e
      by_uid r refers (Some uid) known e = ended (is_ended v.phase) refl e
        where
          ended : (b : Bool) → is_ended v.phase ≡ b
              → binder_firsts.Begins machine ≡ volume_first v (if b then actions.Nothing else referred_action v false (claim_of seen r uid NotAsked)) → VolumeBegun rows v machine
          ended true is e = drops_none machine e
          ended false is e =
              referred_begun r uid refers known is
              (ap (reference_due rows v) refers ∙ (ap (uid_due rows v r) known ∙ ap (λ b. if b then None else referred_due v (claim_with uid (row_at (claim_key r.namespace r.name) rows))) is))
              (subst (λ x. binder_firsts.Begins machine ≡ volume_first v (referred_action v false (or_else (claim_with uid x) None))) (same r) e)

      by : (r : Option Ref) → v.claim_ref ≡ r
          → binder_firsts.Begins machine ≡ volume_first v
          (if not (is_some (ref_uid r)) then free_action v else if is_ended v.phase then actions.Nothing else referred_action v false
          (claim_by_reference seen r NotAsked)) → VolumeBegun rows v machine
      by None refers e = free_begun (ap (reference_due rows v) refers) e
      by (Some r) refers e = by_uid r refers r.uid refl e

-- ---- the machines

-- the call of a machine that writes a phase
phase_is : (v : VolumeData) (phase : VolumePhase) (call : Request) → phase_call v phase ≡ Some call → call ≡ write_phase v phase
phase_is v phase call e = by (is_empty v.meta.namespace) e
  where
    by : (b : Bool) → (if b then Some (write_phase v phase) else None) ≡ Some call → call ≡ write_phase v phase
    by true found = sym (one (write_phase v phase) call found)
    by false found = none_some found

-- a volume without a UID in its reference is to be Available
free_due : (rows : List Object) (v : VolumeData) → ref_uid v.claim_ref ≡ None → is_available v.phase ≡ false → volume_due rows v ≡ Some dues.Available
unfolding volume_due reference_due
free_due rows v none open_ = by v.claim_ref none
  where
    test : (if is_available v.phase then None else Some dues.Available) ≡ Some dues.Available
    test = ap (λ b. if b then None else Some dues.Available) open_

    by : (r : Option Ref) → ref_uid r ≡ None → reference_due rows v r ≡ Some dues.Available
    by None e = test
    by (Some r) e = ap (uid_due rows v r) e ∙ test

-- what follows the unbinding
record FreesNext (v : VolumeData) (machine : Machine) : Type 0 where
  is : machine ≡ machines.Frees v
  uid : ref_uid v.claim_ref ≡ None
  phase : is_available v.phase ≡ false

frees_next : (v : VolumeData) (machine : Machine) → unbound_to v ≡ Some machine → FreesNext v machine
frees_next v machine e = by (ref_uid v.claim_ref) refl e
  where
    free : (b : Bool) → is_available v.phase ≡ b → ref_uid v.claim_ref ≡ None → machine_for v (if b then actions.Nothing else actions.Available) ≡ Some machine → FreesNext v machine
    free true is uid found = none_some found
    free false is uid found = record { is = sym (one (machines.Frees v) machine found); uid = uid; phase = is }

    by : (u : Option Uid) → ref_uid v.claim_ref ≡ u → (if is_some u then None else machine_for v (free_action v)) ≡ Some machine → FreesNext v machine
    by None uid found = free (is_available v.phase) refl uid found
    by (Some uid) is found = none_some found

unbound_key : (v : VolumeData) → key_of (Volume (unbound_volume v)) ≡ key_of (Volume v)
unfolding unbound_volume
unbound_key v = by (has_key bound_by_controller v.meta.annotations)
  where
    by : (b : Bool) → key_of (Volume
        (if b then record v { claim_ref = None; meta = record v.meta { annotations = without_key bound_by_controller v.meta.annotations } } else
        record v { claim_ref = without_uid v.claim_ref })) ≡ key_of (Volume v)
    by true = refl
    by false = refl

-- a machine that writes a phase has no other call

frees_end : (v : VolumeData) (reply : Reply) → moved (machines.Frees v) reply ≡ None
unfolding moved
frees_end v reply = refl

marks_end : (v : VolumeData) (reply : Reply) → moved (machines.MarksBound v) reply ≡ None
unfolding moved
marks_end v reply = refl

releases_end : (v : VolumeData) (reply : Reply) → moved (machines.Releases v) reply ≡ None
unfolding moved
releases_end v reply = refl

-- the call of a machine that reads a claim
read_is : (v : VolumeData) (r : Ref) (call : Request) → v.claim_ref ≡ Some r → call_of (machines.ReadsClaim v) ≡ Some call → call ≡ Get (claim_key r.namespace r.name)
unfolding call_of
read_is v r call refers e = by (is_empty v.meta.namespace && is_some v.meta.uid) (v.claim_ref) refers e
  where
    by : (b : Bool) (x : Option Ref) → x ≡ Some r → (if b then read_of x else None) ≡ Some call → call ≡ Get (claim_key r.namespace r.name)
    by true None is found = none_some is
    by true (Some q) is found = sym (one (Get (claim_key q.namespace q.name)) call found) ∙ ap (λ (x : Ref). Get (claim_key x.namespace x.name)) (one q r is)
    by false x is found = none_some found

-- what follows the read, where it finds no claim with the UID of the reference
read_releases : (v : VolumeData) (r : Ref) (uid : Uid) (x : Option Object) (machine : Machine) → v.claim_ref ≡ Some r → r.uid ≡ Some uid
    → is_ended v.phase ≡ false → claim_with uid x ≡ None → moved (machines.ReadsClaim v) (got x) ≡ Some machine → machine ≡ machines.Releases v
unfolding moved volume_read
read_releases v r uid x machine refers known open_ away e = by x away e
  where
    own : ref_uid v.claim_ref ≡ Some uid
    own = ap ref_uid refers ∙ known

    releases : (y : Option Object) → claim_with uid y ≡ None → machine_for v (volume_read v y) ≡ Some (machines.Releases v)
    releases y none = rw (own, open_) (ap (λ c. machine_for v (referred_action v true c)) none)

    by : (y : Option Object) → claim_with uid y ≡ None → moved (machines.ReadsClaim v) (got y) ≡ Some machine → machine ≡ machines.Releases v
    by None none found = one machine (machines.Releases v) (sym found ∙ releases None none)
    by (Some o) none found = one machine (machines.Releases v) (sym found ∙ releases (Some o) none)

module _ (setup : Setup) (seat : ℕ) (key : Key) where
  -- a phase is the last write
  phase_pays : (h : List Entry) (v : VolumeData) (phase : VolumePhase) (machine : Machine) → call_of machine ≡ phase_call v phase
      → ((reply : Reply) → moved machine reply ≡ None) → Lowers setup (world setup h) seats.Binder (write_phase v phase) 1
      → MachinePays setup seat key h machine
  phase_pays h v phase machine call ends lowers given asks =
      subst (PaysFrom setup seat key h machine) (sym (phase_is v phase given (sym call ∙ asks)))
      (write_pays setup seat key h machine (write_phase v phase) refl lowers (λ n moves. none_some (sym (ends _) ∙ moves)))

  frees_pay : (h : List Entry) (v : VolumeData) → StandsVolume (world setup h) v → volume_due (world setup h).store.rows v ≡ Some dues.Available → MachinePays setup seat key h (machines.Frees v)
  unfolding call_of
  frees_pay h v s due = phase_pays h v volumes.Available (machines.Frees v) refl (frees_end v) (available_pays setup (world setup h) seats.Binder v s due)

  bounds_pay : (h : List Entry) (v : VolumeData) → StandsVolume (world setup h) v → volume_due (world setup h).store.rows v ≡ Some dues.Bound → MachinePays setup seat key h (machines.MarksBound v)
  unfolding call_of
  bounds_pay h v s due = phase_pays h v volumes.Bound (machines.MarksBound v) refl (marks_end v) (bound_pays setup (world setup h) seats.Binder v s due)

  releases_pay : (h : List Entry) (v : VolumeData) → StandsVolume (world setup h) v → volume_due (world setup h).store.rows v ≡ Some dues.Release → MachinePays setup seat key h (machines.Releases v)
  unfolding call_of
  releases_pay h v s due = phase_pays h v volumes.Released (machines.Releases v) refl (releases_end v) (release_pays setup (world setup h) seats.Binder v s due)

  -- the volume without its UID, as it is written
  abbrev unbound : List Entry → VolumeData → VolumeData
  unbound h v = rewritten v (unbound_volume v) ((world setup h).store.version + 1)

  -- unbinding, and phase Available after it
  unbinds_pay : (h : List Entry) (v : VolumeData) → StandsVolume (world setup h) v → volume_due (world setup h).store.rows v ≡ Some dues.Unbind → MachinePays setup seat key h (machines.Unbinds v)
  unfolding call_of moved
  unbinds_pay h v s due call asks =
      subst (PaysFrom setup seat key h (machines.Unbinds v)) (one (write_unbound v) call asks)
      (write_pays setup seat key h (machines.Unbinds v) (write_unbound v) refl (unbind_pays setup (world setup h) seats.Binder v s due)
      (λ n moves. by n moves (volume_updated setup (world setup h) seats.Binder v (unbound_volume v) (Some v.meta.version)
      (ap (λ k. row_at k (world setup h).store.rows) (unbound_key v) ∙ at_key setup (world setup h) seats.Binder v s))))
    where
      then_free : (n : Machine) → (world setup (with_own setup seat h (write_unbound v))).store.rows ≡ put_row (Volume (unbound h v)) (world setup
          h).store.rows → FreesNext (unbound h v) n → MachinePays setup seat key (with_own setup seat h (write_unbound v)) n
      then_free n put f =
          subst (MachinePays setup seat key (with_own setup seat h (write_unbound v))) (sym f.is)
          (frees_pay (with_own setup seat h (write_unbound v)) (unbound h v) (new_volume setup seat h (write_unbound v) v (unbound h v) s (unbound_key v) put) (free_due _ (unbound h v) f.uid f.phase))

      by : (n : Machine) → moved (machines.Unbinds v) (answer setup h (write_unbound v)) ≡ Some n
          → Answered (world setup h) (Volume (unbound h v)) (effect setup (world setup h) seats.Binder (write_unbound v)) → MachinePays setup seat key (with_own setup seat h (write_unbound v)) n
      by n moves (Refuses refusal is) = none_some (sym (ap (moved (machines.Unbinds v)) is) ∙ moves)
      by n moves (Goes is) = none_some (sym (ap (moved (machines.Unbinds v)) is) ∙ moves)
      by n moves (Stays is put) = then_free n put (frees_next (unbound h v) n (sym (ap (moved (machines.Unbinds v)) is) ∙ moves))

  -- the read of the claim, and phase Released after it
  reads_pay : (h : List Entry) (v : VolumeData) (r : Ref) (uid : Uid) → StandsVolume (world setup h) v → v.claim_ref ≡ Some r → r.uid ≡ Some uid
      → is_ended v.phase ≡ false → claim_with uid (row_at (claim_key r.namespace r.name) (world setup h).store.rows) ≡ None
      → volume_due (world setup h).store.rows v ≡ Some dues.Release → MachinePays setup seat key h (machines.ReadsClaim v)
  reads_pay h v r uid s refers known open_ away due call asks =
      subst (PaysFrom setup seat key h (machines.ReadsClaim v)) (sym (read_is v r call refers asks))
      (read_pays setup seat key h (machines.ReadsClaim v) (claim_key r.namespace r.name)
      (λ n moves. subst (MachinePays setup seat key (with_own setup seat h (Get (claim_key r.namespace r.name)))) (sym (released n moves))
      (releases_pay (with_own setup seat h (Get (claim_key r.namespace r.name))) v (subst (λ w. StandsVolume w v) (sym same) s)
      (subst (λ w. volume_due w.store.rows v ≡ Some dues.Release) (sym same) due))))
    where
      same : world setup (with_own setup seat h (Get (claim_key r.namespace r.name))) ≡ world setup h
      same = get_stays setup (world setup h) seats.Binder (claim_key r.namespace r.name)

      released : (n : Machine) → moved (machines.ReadsClaim v) (answer setup h (Get (claim_key r.namespace r.name))) ≡ Some n → n ≡ machines.Releases v
      released n moves = read_releases v r uid (row_at (claim_key r.namespace r.name) (world setup h).store.rows) n refers known open_ away
          (sym (ap (moved (machines.ReadsClaim v)) (get_said setup (world setup h) seats.Binder (claim_key r.namespace r.name))) ∙ moves)

  -- whatever begins for a volume pays
  pub begun_pays : (h : List Entry) (v : VolumeData) (machine : Machine) → StandsVolume (world setup h) v → VolumeBegun (world setup h).store.rows v machine → MachinePays setup seat key h machine
  begun_pays h v machine s (Frees is due) = subst (MachinePays setup seat key h) (sym is) (frees_pay h v s due)
  begun_pays h v machine s (Bounds is due) = subst (MachinePays setup seat key h) (sym is) (bounds_pay h v s due)
  begun_pays h v machine s (Releases is due) = subst (MachinePays setup seat key h) (sym is) (releases_pay h v s due)
  begun_pays h v machine s (Unbinds is due) = subst (MachinePays setup seat key h) (sym is) (unbinds_pay h v s due)
  begun_pays h v machine s (Reads r uid is refers known open_ away due) = subst (MachinePays setup seat key h) (sym is) (reads_pay h v r uid s refers known open_ away due)
