-- The four writes of a binding pay, in order: each on the volume and the claim as the one before it left them.
use Rattle.std.proofs.Common.{◌≡◌, ◌∙◌, ◌⊎◌, ℕ, ◌+◌, List, Bool, true, false, true≢false, Option, Some, None, inl, inr, refl, sym, ap, subst, if◌then◌else◌}
use Rattle.std.specs.Prelude.{◌&&◌, ◌||◌, bytes_eq, is_none, is_some, not}
use Rattle.std.proofs.lemmas.Bool.{and_from}
use Rattle.std.proofs.lemmas.Slice.Eq.{bytes_eq-Decides}
use Rattle.kube_objects.specs.declared.key.Key.{Key}
use Rattle.kube_parts.specs.declared.uid.Uid.{Uid}
use Rattle.kube_parts.specs.declared.parts.ClaimPhase.TheVariants as claims
use Rattle.kube_parts.specs.declared.parts.VolumePhase.TheVariants as volumes
use Rattle.kube_objects.specs.declared.objects.Meta.{Meta}
use Rattle.kube_objects.specs.declared.objects.Ref.{Ref}
use Rattle.kube_objects.specs.declared.objects.Claim.{Claim as ClaimData}
use Rattle.kube_objects.specs.declared.objects.Volume.{Volume as VolumeData}
use Rattle.kube_objects.specs.declared.objects.Object.TheVariants.{Claim, Volume}
use Rattle.kube_objects.specs.Bindings.{
  bind_completed,
  bound_by_controller,
  carries,
  is_bound,
  is_completed,
  is_deleting,
  is_empty,
  is_ended,
  is_protected_volume,
  ref_uid,
  refers_carrying,
  uid_carries,
  names_claim,
  yes,
}
use Rattle.kube_objects.specs.Keys.{key_of, put_row, row_at}
use Rattle.call_types.specs.declared.entry.Entry.{Entry}
use Rattle.call_types.specs.declared.request.Request.{Request}
use Rattle.call_types.specs.declared.request.SeatKind.TheVariants as seats
use Rattle.call_types.specs.declared.setup.Setup.{Setup}
use Rattle.binder_model.specs.BindWrites.{
  annotated_meta,
  annotated_meta_if,
  claim_write,
  completed_with,
  is_completed_with,
  next_write,
  shows_bound,
  taken_for,
  write_bound,
  write_claim_status,
  write_completion,
  write_reference,
}
use Rattle.binder_model.specs.ObjectKeys.{volume_key}
use Rattle.binder_model.specs.Same.{same_amount, same_modes}
use Rattle.binder_model.specs.World.{effect, world}
use Rattle.field_rules.proofs.Equalities.{same_amount-Decides, same_modes-Decides}
use Rattle.model_laws.proofs.Lists.{none_some, one}
use Rattle.binder_machines.specs.declared.machine.Machine.{Machine}
use Rattle.binder_machines.specs.declared.machine.Machine.TheVariants as machines
use Rattle.binder_machines.specs.Machines.{call_of, may_bind, moved}
use Rattle.settle_measure.specs.Left.Lowers.{Lowers, StandsVolume, StandsClaim}
use Rattle.settle_measure.proofs.Left.Words.{annotated_name, annotated_namespace, carries_alike, value_put}
use Rattle.settle_measure.proofs.Binding.Claims.{completion_pays, rewritten_claim, status_pays, with_claim_status}
use Rattle.settle_measure.proofs.Binding.References.{refers_to}
use Rattle.settle_measure.proofs.Binding.Stages.{at_key, bound_write_pays, phased, rewritten}
use Rattle.settle_pays.proofs.Actors.Answered.{Answered, Goes, Refuses, Stays, claim_stated, claim_updated, volume_phased, volume_updated}
use Rattle.settle_pays.proofs.Actors.Walking.{MachinePays, PaysFrom, answer, new_claim, new_volume, same_claim, same_volume, with_own, write_pays}

-- ---- which of the four writes is next

-- the write is the first of the four that is not yet seen as done
pub data Stage (v : VolumeData) (c : ClaimData) (call : Request) : Type 0 where
  First : carries v c ≡ false → is_ended v.phase ≡ false → call ≡ write_reference v c → Stage v c call
  Second : carries v c ≡ true → is_bound v.phase ≡ false → is_ended v.phase ≡ false → call ≡ write_bound v → Stage v c call
  Third : carries v c ≡ true → is_bound v.phase ≡ true → is_completed_with c v ≡ false → call ≡ write_completion v c → Stage v c call
  Fourth : carries v c ≡ true → is_bound v.phase ≡ true → is_completed_with c v ≡ true → shows_bound c v ≡ false → call ≡ write_claim_status v c → Stage v c call

-- the next write of a binding is one of these
pub stage : (v : VolumeData) (c : ClaimData) (call : Request) → next_write v c ≡ Some call → Stage v c call
unfolding next_write claim_write
stage v c call e = by (carries v c) (is_ended v.phase) (is_bound v.phase) (is_protected_volume v) (is_completed_with c v) (shows_bound c v) refl refl refl refl refl e
  where
    by : (carrying ended bound guarded completed shown : Bool) → carries v c ≡ carrying → is_ended v.phase ≡ ended → is_bound v.phase ≡ bound
        → is_completed_with c v ≡ completed → shows_bound c v ≡ shown
        → (if not carrying then (if ended then None else Some (write_reference v c)) else if not bound then
        (if ended || not guarded then None else Some (write_bound v)) else if not completed then Some
        (write_completion v c) else if not shown then Some (write_claim_status v c) else None) ≡ Some call
        → Stage v c call
    by false true bound guarded completed shown ec ee eb ed es n = none_some n
    by false false bound guarded completed shown ec ee eb ed es n = First ec ee (sym (one _ call n))
    by true true false guarded completed shown ec ee eb ed es n = none_some n
    by true false false false completed shown ec ee eb ed es n = none_some n
    by true false false true completed shown ec ee eb ed es n = Second ec eb ee (sym (one _ call n))
    by true ended true guarded false shown ec ee eb ed es n = Third ec eb ed (sym (one _ call n))
    by true ended true guarded true false ec ee eb ed es n = Fourth ec eb ed es (sym (one _ call n))
    by true ended true guarded true true ec ee eb ed es n = none_some n

-- the call of a machine that binds is the next of the four
bind_is : (v : VolumeData) (c : ClaimData) (call : Request) → call_of (machines.Binds v c) ≡ Some call → next_write v c ≡ Some call
unfolding call_of
bind_is v c call e = by (may_bind v c) e
  where
    by : (b : Bool) → (if b then next_write v c else None) ≡ Some call → next_write v c ≡ Some call
    by true found = found
    by false found = none_some found

-- ---- what the writes leave

-- the claim is open and stays, or is completed with the volume
abbrev pub GoesOnWith : VolumeData → ClaimData → Type 0
GoesOnWith v c = ((is_completed c ≡ false) × (is_deleting c.meta ≡ false)) ⊎ ((is_completed c ≡ true) × (c.volume_name ≡ v.meta.name))

with_same_name : (v new : VolumeData) (c : ClaimData) → new.meta.name ≡ v.meta.name → GoesOnWith v c → GoesOnWith new c
with_same_name v new c same (inl open_) = inl open_
with_same_name v new c same (inr done) = inr (done.0, done.1 ∙ sym same)

completed_so : (v : VolumeData) (c : ClaimData) → is_completed c ≡ true → c.volume_name ≡ v.meta.name → is_completed_with c v ≡ true
completed_so v c completed named = and_from (is_completed c) (bytes_eq c.volume_name v.meta.name) completed ((bytes_eq-Decides c.volume_name v.meta.name).1 named)

-- a volume that carries a claim has its UID
carried_uid : (v : VolumeData) (c : ClaimData) → carries v c ≡ true → (uid : Uid) × (ref_uid v.claim_ref ≡ Some uid)
carried_uid v c e = by v.claim_ref e
  where
    none : (b : Bool) → (b && false) ≡ true → ⊥
    none true f = true≢false (sym f)
    none false f = true≢false (sym f)

    by_uid : (r : Ref) (u : Option Uid) → (names_claim r c && uid_carries u c) ≡ true → (uid : Uid) × (u ≡ Some uid)
    by_uid r None f = absurd (none (names_claim r c) f)
    by_uid r (Some uid) f = (uid, refl)

    by : (r : Option Ref) → refers_carrying r c ≡ true → (uid : Uid) × (ref_uid r ≡ Some uid)
    by None f = absurd (true≢false (sym f))
    by (Some r) f = by_uid r r.uid f

taken_key : (v : VolumeData) (c : ClaimData) (n : ℕ) → key_of (Volume (rewritten v (taken_for v c) n)) ≡ key_of (Volume v)
unfolding taken_for
taken_key v c n = let a = annotated_namespace (is_none v.claim_ref) bound_by_controller v.meta in let b = annotated_name (is_none v.claim_ref) bound_by_controller v.meta in
    λ i. record { kind = (key_of (Volume v)).kind; namespace = a i; name = b i }

taken_carries : (v : VolumeData) (c : ClaimData) (n : ℕ) (uid : Uid) → c.meta.uid ≡ Some uid → carries (rewritten v (taken_for v c) n) c ≡ true
unfolding taken_for
taken_carries v c n uid has = refers_to c uid has

abbrev done_meta : VolumeData → ClaimData → Meta
done_meta v c = annotated_meta bind_completed (annotated_meta_if (is_empty c.volume_name) bound_by_controller c.meta)

done_key : (v : VolumeData) (c : ClaimData) (n : ℕ) → key_of (Claim (rewritten_claim c (completed_with c v) n)) ≡ key_of (Claim c)
unfolding completed_with
done_key v c n = let a = annotated_namespace (is_empty c.volume_name) bound_by_controller c.meta in let b = annotated_name (is_empty c.volume_name) bound_by_controller c.meta in
    λ i. record { kind = (key_of (Claim c)).kind; namespace = a i; name = b i }

done_completed : (v : VolumeData) (c : ClaimData) (n : ℕ) → is_completed (rewritten_claim c (completed_with c v) n) ≡ true
unfolding completed_with
done_completed v c n = ap is_some (value_put bind_completed yes (annotated_meta_if (is_empty c.volume_name) bound_by_controller c.meta).annotations)

done_named : (v : VolumeData) (c : ClaimData) (n : ℕ) → (rewritten_claim c (completed_with c v) n).volume_name ≡ v.meta.name
unfolding completed_with
done_named v c n = refl

done_carried : (v : VolumeData) (c : ClaimData) (n : ℕ) → carries v (rewritten_claim c (completed_with c v) n) ≡ carries v c
unfolding completed_with
done_carried v c n = carries_alike v c (rewritten_claim c (completed_with c v) n) (ap (λ (k : Key). k.namespace) (done_key v c n)) (ap (λ (k : Key). k.name) (done_key v c n)) refl

-- ---- the walk

module _ (setup : Setup) (seat : ℕ) (key : Key) where
  abbrev Pays : List Entry → VolumeData → ClaimData → Type 0
  Pays h v c = MachinePays setup seat key h (machines.Binds v c)

  -- the objects as the four writes leave them

  abbrev next_version : List Entry → ℕ
  next_version h = (world setup h).store.version + 1

  abbrev taken_volume : List Entry → VolumeData → ClaimData → VolumeData
  taken_volume h v c = rewritten v (taken_for v c) (next_version h)

  abbrev bound_volume : List Entry → VolumeData → VolumeData
  bound_volume h v = phased v volumes.Bound (next_version h)

  abbrev done_claim : List Entry → VolumeData → ClaimData → ClaimData
  done_claim h v c = rewritten_claim c (completed_with c v) (next_version h)

  abbrev shown_claim : List Entry → VolumeData → ClaimData → ClaimData
  shown_claim h v c = with_claim_status c claims.Bound v.modes (Some v.amount) (next_version h)

  -- what an answer to a write makes of the machine
  volume_next : (h : List Entry) (v new : VolumeData) (c : ClaimData) (call : Request) → Answered (world setup h) (Volume new) (effect setup (world setup h) seats.Binder call)
      → ((world setup (with_own setup seat h call)).store.rows ≡ put_row (Volume new) (world setup h).store.rows → Pays (with_own setup seat h call) new c)
      → (n : Machine) → moved (machines.Binds v c) (answer setup h call) ≡ Some n → MachinePays setup seat key (with_own setup seat h call) n
  unfolding moved
  volume_next h v new c call (Refuses refusal is) on n moves = none_some (sym (ap (moved (machines.Binds v c)) is) ∙ moves)
  volume_next h v new c call (Goes is) on n moves = none_some (sym (ap (moved (machines.Binds v c)) is) ∙ moves)
  volume_next h v new c call (Stays is put) on n moves =
      subst (MachinePays setup seat key (with_own setup seat h call)) (one (machines.Binds new c) n (sym (ap (moved (machines.Binds v c)) is) ∙ moves)) (on put)

  claim_next : (h : List Entry) (v : VolumeData) (c new : ClaimData) (call : Request) → Answered (world setup h) (Claim new) (effect setup (world setup h) seats.Binder call)
      → ((world setup (with_own setup seat h call)).store.rows ≡ put_row (Claim new) (world setup h).store.rows → Pays (with_own setup seat h call) v new)
      → (n : Machine) → moved (machines.Binds v c) (answer setup h call) ≡ Some n → MachinePays setup seat key (with_own setup seat h call) n
  unfolding moved
  claim_next h v c new call (Refuses refusal is) on n moves = none_some (sym (ap (moved (machines.Binds v c)) is) ∙ moves)
  claim_next h v c new call (Goes is) on n moves = none_some (sym (ap (moved (machines.Binds v c)) is) ∙ moves)
  claim_next h v c new call (Stays is put) on n moves =
      subst (MachinePays setup seat key (with_own setup seat h call)) (one (machines.Binds v new) n (sym (ap (moved (machines.Binds v c)) is) ∙ moves)) (on put)

  -- after the last write nothing is left to be written
  shown_ends : (h : List Entry) (v : VolumeData) (c : ClaimData) → carries v c ≡ true → is_bound v.phase ≡ true → is_completed_with c v ≡ true → shows_bound c v ≡ true → Pays h v c
  shown_ends h v c carried bound completed shown call asks = by (stage v c call (bind_is v c call asks))
    where
      by : Stage v c call → PaysFrom setup seat key h (machines.Binds v c) call
      by (First free going is) = absurd (true≢false (sym carried ∙ free))
      by (Second so open_ going is) = absurd (true≢false (sym bound ∙ open_))
      by (Third so on open_ is) = absurd (true≢false (sym completed ∙ open_))
      by (Fourth so on done open_ is) = absurd (true≢false (sym shown ∙ open_))

  -- the fourth write
  fourth : (h : List Entry) (v : VolumeData) (c : ClaimData) → StandsVolume (world setup h) v → StandsClaim (world setup h) c → carries v c ≡ true
      → is_bound v.phase ≡ true → is_completed c ≡ true → c.volume_name ≡ v.meta.name → Pays h v c
  fourth h v c s sc carried bound completed named call asks = by (stage v c call (bind_is v c call asks))
    where
      shows : shows_bound (shown_claim h v c) v ≡ true
      shows = and_from (same_modes v.modes v.modes) (same_amount v.amount v.amount) ((same_modes-Decides v.modes v.modes).1 refl) ((same_amount-Decides v.amount v.amount).1 refl)

      there : row_at (volume_key c.volume_name) (world setup h).store.rows ≡ Some (Volume v)
      there = ap (λ name. row_at (volume_key name) (world setup h).store.rows) named ∙ s.there

      writes : shows_bound c v ≡ false → PaysFrom setup seat key h (machines.Binds v c) (write_claim_status v c)
      writes open_ =
          write_pays setup seat key h (machines.Binds v c) (write_claim_status v c) refl (status_pays setup (world setup h) seats.Binder v c sc completed there carried bound open_)
          (claim_next h v c (shown_claim h v c) (write_claim_status v c) (claim_stated setup (world setup h) seats.Binder c claims.Bound v.modes (Some v.amount) (Some c.meta.version) sc.there)
          (λ put. shown_ends (with_own setup seat h (write_claim_status v c)) v (shown_claim h v c)
          (carries_alike v c (shown_claim h v c) refl refl refl ∙ carried) bound (completed_so v (shown_claim h v c) completed named) shows))

      by : Stage v c call → PaysFrom setup seat key h (machines.Binds v c) call
      by (First free going is) = absurd (true≢false (sym carried ∙ free))
      by (Second so open_ going is) = absurd (true≢false (sym bound ∙ open_))
      by (Third so on open_ is) = absurd (true≢false (sym (completed_so v c completed named) ∙ open_))
      by (Fourth so on done open_ is) = subst (PaysFrom setup seat key h (machines.Binds v c)) (sym is) (writes open_)

  -- the third write, and those after it
  third : (h : List Entry) (v : VolumeData) (c : ClaimData) → StandsVolume (world setup h) v → StandsClaim (world setup h) c → carries v c ≡ true
      → is_bound v.phase ≡ true → GoesOnWith v c → Pays h v c
  third h v c s sc carried bound (inr done) call asks = fourth h v c s sc carried bound done.0 done.1 call asks
  third h v c s sc carried bound (inl open_) call asks = by (stage v c call (bind_is v c call asks))
    where
      writes : PaysFrom setup seat key h (machines.Binds v c) (write_completion v c)
      writes =
          write_pays setup seat key h (machines.Binds v c) (write_completion v c) refl (completion_pays setup (world setup h) seats.Binder v c s sc carried bound open_.0 open_.1)
          (claim_next h v c (done_claim h v c) (write_completion v c)
          (claim_updated setup (world setup h) seats.Binder c (completed_with c v) (Some c.meta.version) (ap (λ k. row_at k (world setup h).store.rows) (done_key v c 0) ∙ sc.there))
          (λ put. fourth (with_own setup seat h (write_completion v c)) v (done_claim h v c)
          (same_volume setup seat h (write_completion v c) c (done_claim h v c) sc put v s)
          (new_claim setup seat h (write_completion v c) c (done_claim h v c) sc put refl) (done_carried v c (next_version h) ∙ carried) bound
          (done_completed v c (next_version h)) (done_named v c (next_version h))))

      by : Stage v c call → PaysFrom setup seat key h (machines.Binds v c) call
      by (First free going is) = absurd (true≢false (sym carried ∙ free))
      by (Second so unbound going is) = absurd (true≢false (sym bound ∙ unbound))
      by (Third so on incomplete is) = subst (PaysFrom setup seat key h (machines.Binds v c)) (sym is) writes
      by (Fourth so on done unshown is) = absurd (true≢false (sym done ∙ ap (λ b. b && bytes_eq c.volume_name v.meta.name) open_.0))

  -- the second write, and those after it
  second : (h : List Entry) (v : VolumeData) (c : ClaimData) → StandsVolume (world setup h) v → StandsClaim (world setup h) c → carries v c ≡ true → GoesOnWith v c → Pays h v c
  second h v c s sc carried goes call asks = by (stage v c call (bind_is v c call asks))
    where
      writes : is_bound v.phase ≡ false → is_ended v.phase ≡ false → PaysFrom setup seat key h (machines.Binds v c) (write_bound v)
      writes open_ going =
          let u = carried_uid v c carried in
          write_pays setup seat key h (machines.Binds v c) (write_bound v) refl (bound_write_pays setup (world setup h) seats.Binder v u.0 s u.1 going open_)
          (volume_next h v (bound_volume h v) c (write_bound v) (volume_phased setup (world setup h) seats.Binder v volumes.Bound (Some v.meta.version) s.there)
          (λ put. third (with_own setup seat h (write_bound v)) (bound_volume h v) c
          (new_volume setup seat h (write_bound v) v (bound_volume h v) s refl put)
          (same_claim setup seat h (write_bound v) v (bound_volume h v) s refl put c sc) carried refl (with_same_name v (bound_volume h v) c refl goes)))

      on : is_bound v.phase ≡ true → PaysFrom setup seat key h (machines.Binds v c) call
      on bound = third h v c s sc carried bound goes call asks

      by : Stage v c call → PaysFrom setup seat key h (machines.Binds v c) call
      by (First free going is) = absurd (true≢false (sym carried ∙ free))
      by (Second so open_ going is) = subst (PaysFrom setup seat key h (machines.Binds v c)) (sym is) (writes open_ going)
      by (Third so bound incomplete is) = on bound
      by (Fourth so bound done unshown is) = on bound

  -- all four, where the first pays if it is to be made
  pub binds_pay : (h : List Entry) (v : VolumeData) (c : ClaimData) → StandsVolume (world setup h) v → StandsClaim (world setup h) c → GoesOnWith v c
      → (carries v c ≡ false → next_write v c ≡ Some (write_reference v c) → Lowers setup (world setup h) seats.Binder (write_reference v c) 1) → Pays h v c
  binds_pay h v c s sc goes first call asks = by (stage v c call (bind_is v c call asks))
    where
      writes : carries v c ≡ false → next_write v c ≡ Some (write_reference v c) → PaysFrom setup seat key h (machines.Binds v c) (write_reference v c)
      writes free next =
          write_pays setup seat key h (machines.Binds v c) (write_reference v c) refl (first free next)
          (volume_next h v (taken_volume h v c) c (write_reference v c)
          (volume_updated setup (world setup h) seats.Binder v (taken_for v c) (Some v.meta.version)
          (ap (λ k. row_at k (world setup h).store.rows) (taken_key v c 0) ∙ at_key setup (world setup h) seats.Binder v s))
          (λ put. second (with_own setup seat h (write_reference v c)) (taken_volume h v c) c
          (new_volume setup seat h (write_reference v c) v (taken_volume h v c) s (taken_key v c (next_version h)) put)
          (same_claim setup seat h (write_reference v c) v (taken_volume h v c) s (taken_key v c (next_version h)) put c sc)
          (taken_carries v c (next_version h) sc.uid sc.has) (with_same_name v (taken_volume h v c) c (ap (λ (k : Key). k.name) (taken_key v c (next_version h))) goes)))

      on : carries v c ≡ true → PaysFrom setup seat key h (machines.Binds v c) call
      on carried = second h v c s sc carried goes call asks

      by : Stage v c call → PaysFrom setup seat key h (machines.Binds v c) call
      by (First free going is) = subst (PaysFrom setup seat key h (machines.Binds v c)) (sym is) (writes free (bind_is v c call asks ∙ ap Some is))
      by (Second so open_ going is) = on so
      by (Third so bound incomplete is) = on so
      by (Fourth so bound done unshown is) = on so
