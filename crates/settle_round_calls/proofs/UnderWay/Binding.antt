-- A binding has four writes: each that is done leaves fewer.
use Rattle.std.proofs.Common.{◌≡◌, ◌∙◌, ℕ, ◌+◌, ◌≤◌, List, [], ◌∷◌, Bool, true, false, true≢false, Option, Some, None, refl, sym, ap, subst, arith, if◌then◌else◌}
use Rattle.std.specs.Prelude.{◌&&◌, ◌||◌, bytes_eq, is_none, is_some}
use Rattle.std.proofs.lemmas.Bool.{and_from}
use Rattle.std.proofs.lemmas.Slice.Eq.{bytes_eq-Decides}
use Rattle.kube_parts.specs.declared.uid.Uid.{Uid}
use Rattle.kube_parts.specs.declared.parts.ClaimPhase.TheVariants as claims
use Rattle.kube_parts.specs.declared.parts.VolumePhase.TheVariants as volumes
use Rattle.kube_objects.specs.declared.objects.Claim.{Claim as ClaimData}
use Rattle.kube_objects.specs.declared.objects.Ref.{Ref}
use Rattle.kube_objects.specs.declared.objects.Volume.{Volume as VolumeData}
use Rattle.kube_objects.specs.declared.objects.Object.{Object}
use Rattle.kube_objects.specs.declared.objects.Object.TheVariants.{Class, Node, Volume, Claim, Pod}
use Rattle.kube_objects.specs.Bindings.{bind_completed, bound_by_controller, carries, is_bound, is_completed, is_empty, is_for, refers_carrying, yes}
use Rattle.kube_objects.specs.Keys.{key_of}
use Rattle.call_types.specs.declared.entry.Entry.{Entry}
use Rattle.call_types.specs.declared.reply.Reply.TheVariants as replies
use Rattle.call_types.specs.declared.request.Request.{Request}
use Rattle.call_types.specs.declared.request.NewStatus.TheVariants as statuses
use Rattle.call_types.specs.declared.request.SeatKind.{SeatKind}
use Rattle.call_types.specs.declared.setup.Setup.{Setup}
use Rattle.binder_model.specs.Answers.{with_status}
use Rattle.binder_model.specs.BindWrites.{
  annotated_meta_if,
  completed_with,
  is_completed_with,
  next_write,
  ref_to,
  shows_bound,
  taken_for,
  write_bound,
  write_claim_status,
  write_completion,
  write_reference,
}
use Rattle.binder_model.specs.ObjectKeys.{claim_key, volume_key}
use Rattle.binder_model.specs.Same.{same_amount, same_modes}
use Rattle.binder_model.specs.Store.{at_version, updated_object, with_meta, with_status_of}
use Rattle.binder_model.specs.Told.{IsClaimWith, IsVolumeWith, own}
use Rattle.binder_model.specs.World.{IsHistory, world}
use Rattle.field_rules.proofs.Equalities.{same_amount-Decides, same_modes-Decides}
use Rattle.model_laws.specs.Stood.{Stood}
use Rattle.model_laws.proofs.Evidence.{told_map}
use Rattle.model_laws.proofs.Lists.{none_some, one}
use Rattle.model_laws.proofs.Truths.{told_is_true}
use Rattle.safety_law.specs.Invariant.Writes.{Writes}
use Rattle.binder_machines.specs.declared.machine.Machine.TheVariants.{Binds}
use Rattle.binder_machines.specs.Evidence.{ToldThis, ToldThisClaim}
use Rattle.binder_machines.specs.Machines.{call_of, moved}
use Rattle.settle_measure.proofs.Binding.Claims.{rewritten_claim, with_claim_status}
use Rattle.settle_measure.proofs.Binding.References.{refers_to}
use Rattle.settle_measure.proofs.Binding.Stages.{phased}
use Rattle.settle_measure.proofs.Left.Words.{annotated_name, annotated_namespace, carries_alike, value_put}
use Rattle.settle_writes.proofs.Done.Doing.{stands_it}
use Rattle.settle_calls.specs.Tasks.Ends.{done_by}
use Rattle.settle_pays.proofs.Actors.Binding.{First, Fourth, Second, Stage, Third, stage}
use Rattle.settle_round_calls.proofs.UnderWay.Counts.{binds_left, machine_if}

-- the claim has a UID, and the volume no namespace
record IsNextOf (v : VolumeData) (c : ClaimData) (call : Request) : Type 0 where
  uid : Uid
  has : c.meta.uid ≡ Some uid
  bare : v.meta.namespace ≡ []
  at : Stage v c call

next_of : (v : VolumeData) (c : ClaimData) (call : Request) → call_of (Binds v c) ≡ Some call → IsNextOf v c call
unfolding call_of
next_of v c call e = by c.meta.uid v.meta.namespace refl refl e
  where
    of : (b : Bool) → (if b then next_write v c else None) ≡ Some call → next_write v c ≡ Some call
    of true is = is
    of false is = none_some is

    by : (u : Option Uid) (n : List ℕ) → c.meta.uid ≡ u → v.meta.namespace ≡ n
        → (if is_some u && is_empty n && (is_none v.claim_ref || is_for v c) &&
        (is_empty c.volume_name || bytes_eq c.volume_name v.meta.name) then next_write v c else None) ≡ Some call → IsNextOf v c call
    by None n eu en is = none_some is
    by (Some uid) (x ∷ xs) eu en is = none_some is
    by (Some uid) [] eu en is = record { uid = uid; has = eu; bare = en; at = stage v c call (of _ is) }

-- ---- how many are left

abbrev left_by : Bool → Bool → Bool → Bool → ℕ
left_by a b d e = if a then (if b then (if d then (if e then 0 else 1) else 2) else 3) else 4

left_three : (a b d e : Bool) → a ≡ true → left_by a b d e ≤ 3
left_three false b d e h = absurd (true≢false (sym h))
left_three true false d e h = omega arith
left_three true true false e h = omega arith
left_three true true true false h = omega arith
left_three true true true true h = omega arith

left_two : (a b d e : Bool) → a ≡ true → b ≡ true → left_by a b d e ≤ 2
left_two false b d e h i = absurd (true≢false (sym h))
left_two true false d e h i = absurd (true≢false (sym i))
left_two true true false e h i = omega arith
left_two true true true false h i = omega arith
left_two true true true true h i = omega arith

left_one : (a b d e : Bool) → a ≡ true → b ≡ true → d ≡ true → left_by a b d e ≤ 1
left_one false b d e h i j = absurd (true≢false (sym h))
left_one true false d e h i j = absurd (true≢false (sym i))
left_one true true false e h i j = absurd (true≢false (sym j))
left_one true true true false h i j = omega arith
left_one true true true true h i j = omega arith

left_none : (a b d e : Bool) → a ≡ true → b ≡ true → d ≡ true → e ≡ true → left_by a b d e ≤ 0
left_none false b d e h i j k = absurd (true≢false (sym h))
left_none true false d e h i j k = absurd (true≢false (sym i))
left_none true true false e h i j k = absurd (true≢false (sym j))
left_none true true true false h i j k = absurd (true≢false (sym k))
left_none true true true true h i j k = omega arith

is_four : (a b d e : Bool) → a ≡ false → left_by a b d e ≡ 4
is_four false b d e h = refl
is_four true b d e h = absurd (true≢false h)

is_three : (a b d e : Bool) → a ≡ true → b ≡ false → left_by a b d e ≡ 3
is_three true false d e h i = refl
is_three true true d e h i = absurd (true≢false i)
is_three false b d e h i = absurd (true≢false (sym h))

is_two : (a b d e : Bool) → a ≡ true → b ≡ true → d ≡ false → left_by a b d e ≡ 2
is_two true true false e h i j = refl
is_two true true true e h i j = absurd (true≢false j)
is_two true false d e h i j = absurd (true≢false (sym i))
is_two false b d e h i j = absurd (true≢false (sym h))

is_one : (a b d e : Bool) → a ≡ true → b ≡ true → d ≡ true → e ≡ false → left_by a b d e ≡ 1
is_one true true true false h i j k = refl
is_one true true true true h i j k = absurd (true≢false k)
is_one true true false e h i j k = absurd (true≢false (sym j))
is_one true false d e h i j k = absurd (true≢false (sym i))
is_one false b d e h i j k = absurd (true≢false (sym h))

-- ---- the objects as they are written

abbrev volume_in : Object → Option VolumeData
volume_in (Volume v) = Some v
volume_in o = None

abbrev claim_in : Object → Option ClaimData
claim_in (Claim c) = Some c
claim_in o = None

abbrev ref_in : Object → Option Ref
ref_in (Volume v) = v.claim_ref
ref_in o = None

taken_ref : (v : VolumeData) (c : ClaimData) (old : Object) (n : ℕ) → (ref_in (updated_object old (Volume (taken_for v c)) n) ≡ Some (ref_to c))
    × (claim_in (updated_object old (Volume (taken_for v c)) n) ≡ None)
unfolding updated_object with_meta with_status_of taken_for
taken_ref v c (Volume x) n = (refl, refl)
taken_ref v c (Claim x) n = (refl, refl)
taken_ref v c (Class x) n = (refl, refl)
taken_ref v c (Node x) n = (refl, refl)
taken_ref v c (Pod x) n = (refl, refl)

bound_is : (v : VolumeData) (old new : Object) (n : ℕ) → old ≡ Volume v → with_status (statuses.Volume volumes.Bound) old ≡ Some new → at_version new n ≡ Volume (phased v volumes.Bound n)
unfolding with_status at_version with_meta
bound_is v old new n same fits = ap (λ o. at_version o n) (sym (one (Volume (record v { phase = volumes.Bound })) new (ap (with_status (statuses.Volume volumes.Bound)) (sym same) ∙ fits)))

done_is : (c x : ClaimData) (old : Object) (n : ℕ) → old ≡ Claim c → updated_object old (Claim x) n ≡ Claim (rewritten_claim c x n)
unfolding updated_object with_meta with_status_of
done_is c x old n same = ap (λ o. updated_object o (Claim x) n) same

shown_is : (v : VolumeData) (c : ClaimData) (old new : Object) (n : ℕ) → old ≡ Claim c
    → with_status (statuses.Claim claims.Bound v.modes (Some v.amount)) old ≡ Some new → at_version new n ≡ Claim (with_claim_status c claims.Bound v.modes (Some v.amount) n)
unfolding with_status at_version with_meta
shown_is v c old new n same fits = ap (λ o. at_version o n) (sym
    (one (Claim (record c { phase = claims.Bound; got_modes = v.modes; got = Some v.amount })) new (ap (with_status (statuses.Claim claims.Bound v.modes (Some v.amount))) (sym same) ∙ fits)))

done_key : (v : VolumeData) (c : ClaimData) → key_of (Claim c) ≡ key_of (Claim (completed_with c v))
unfolding completed_with
done_key v c =
    let a = annotated_namespace (is_empty c.volume_name) bound_by_controller c.meta in
    let b = annotated_name (is_empty c.volume_name) bound_by_controller c.meta in
    λ i. record { kind = (key_of (Claim c)).kind; namespace = (sym a) i; name = (sym b) i }

module _ (v : VolumeData) (c : ClaimData) (n : ℕ) where
  abbrev done_claim : ClaimData
  done_claim = rewritten_claim c (completed_with c v) n

  done_carried : carries v done_claim ≡ carries v c
  unfolding completed_with
  done_carried = carries_alike v c done_claim (annotated_namespace (is_empty c.volume_name) bound_by_controller c.meta) (annotated_name (is_empty c.volume_name) bound_by_controller c.meta) refl

  done_completed : is_completed_with done_claim v ≡ true
  unfolding completed_with
  done_completed = and_from (is_completed done_claim) (bytes_eq v.meta.name v.meta.name)
      (ap is_some (value_put bind_completed yes (annotated_meta_if (is_empty c.volume_name) bound_by_controller c.meta).annotations)) ((bytes_eq-Decides v.meta.name v.meta.name).1 refl)

-- ---- what a write leaves of the binding

-- the volume or the claim as it was answered takes the place of the one that was written
next_left : (v : VolumeData) (c : ClaimData) (o : Object) (k : ℕ) → ((w : VolumeData) → volume_in o ≡ Some w → binds_left w c ≤ k)
    → ((d : ClaimData) → claim_in o ≡ Some d → binds_left v d ≤ k) → machine_if (moved (Binds v c) (replies.Done o)) ≤ k
unfolding moved
next_left v c (Volume w) k volume claim = volume w refl
next_left v c (Claim d) k volume claim = claim d refl
next_left v c (Class x) k volume claim = omega arith
next_left v c (Node x) k volume claim = omega arith
next_left v c (Pod x) k volume claim = omega arith

ref_of : (o : Object) (w : VolumeData) → volume_in o ≡ Some w → ref_in o ≡ w.claim_ref
ref_of (Volume x) w e = ap (λ (y : VolumeData). y.claim_ref) (one x w e)
ref_of (Claim x) w e = none_some e
ref_of (Class x) w e = none_some e
ref_of (Node x) w e = none_some e
ref_of (Pod x) w e = none_some e

module _ (setup : Setup) (seat : ℕ) (h : List Entry) (history : IsHistory setup h) (kind : SeatKind) (v : VolumeData) (c : ClaimData) (o : Object)
    (volume : ToldThis v (own seat h)) (claim : ToldThisClaim c (own seat h)) where
  is_volume : (x : Object) → IsVolumeWith (λ u. u ≡ v) x → x ≡ Volume v
  is_volume (Volume u) e = ap (λ y. Volume y) e
  is_volume (Class x) e = absurd e
  is_volume (Node x) e = absurd e
  is_volume (Claim x) e = absurd e
  is_volume (Pod x) e = absurd e

  is_claim : (x : Object) → IsClaimWith (λ d. d ≡ c) x → x ≡ Claim c
  is_claim (Claim d) e = ap (λ y. Claim y) e
  is_claim (Class x) e = absurd e
  is_claim (Node x) e = absurd e
  is_claim (Volume x) e = absurd e
  is_claim (Pod x) e = absurd e

  volume_stood : Stood setup h (Volume v)
  volume_stood = told_is_true setup h seat (Volume v) history (told_map is_volume (own seat h) volume)

  claim_stood : Stood setup h (Claim c)
  claim_stood = told_is_true setup h seat (Claim c) history (told_map is_claim (own seat h) claim)

  abbrev n : ℕ
  n = (world setup h).store.version + 1

  abbrev Fewer : Request → Type 0
  Fewer call = Writes (world setup h) kind call o → machine_if (moved (Binds v c) (replies.Done o)) + 1 ≤ binds_left v c

  first : (uid : Uid) → c.meta.uid ≡ Some uid → carries v c ≡ false → Fewer (write_reference v c)
  first uid has free u =
      let made = taken_ref v c u.old n in
      let few = next_left v c o 3
      (λ w e. left_three (carries w c) (is_bound w.phase) (is_completed_with c w) (shows_bound c w)
      (ap (λ r. refers_carrying r c) (sym (ref_of o w e) ∙ (ap ref_in u.is ∙ made.0)) ∙ refers_to c uid has))
      (λ d e. none_some (sym (ap claim_in u.is ∙ made.1) ∙ e)) in
      let all = is_four (carries v c) (is_bound v.phase) (is_completed_with c v) (shows_bound c v) free in
      omega (arith, few, all)

  second : v.meta.namespace ≡ [] → carries v c ≡ true → is_bound v.phase ≡ false → Fewer (write_bound v)
  second bare carried open_ i =
      let keyed : key_of (Volume v) ≡ volume_key v.meta.name = rw bare refl in
      let is : o ≡ Volume (phased v volumes.Bound n) = i.is ∙ bound_is v i.old i.new n (stands_it setup h (Volume v) i.old (volume_key v.meta.name) volume_stood keyed i.there i.version) i.fits in
      let few = next_left v c o 2
      (λ w e. subst (λ x. binds_left x c ≤ 2) (one (phased v volumes.Bound n) w (sym (ap volume_in is) ∙ e))
      (left_two (carries v c) true (is_completed_with c (phased v volumes.Bound n)) (shows_bound c (phased v volumes.Bound n)) carried refl))
      (λ d e. none_some (sym (ap claim_in is) ∙ e)) in
      let all = is_three (carries v c) (is_bound v.phase) (is_completed_with c v) (shows_bound c v) carried open_ in
      omega (arith, few, all)

  third : carries v c ≡ true → is_bound v.phase ≡ true → is_completed_with c v ≡ false → Fewer (write_completion v c)
  third carried bound open_ u =
      let keyed = done_key v c in
      let is : o ≡ Claim (rewritten_claim c (completed_with c v) n) = u.is
      ∙ done_is c (completed_with c v) u.old n (stands_it setup h (Claim c) u.old (key_of (Claim (completed_with c v))) claim_stood keyed u.there u.version) in
      let few = next_left v c o 1
      (λ w e. none_some (sym (ap volume_in is) ∙ e))
      (λ d e. subst (λ x. binds_left v x ≤ 1) (one (rewritten_claim c (completed_with c v) n) d (sym (ap claim_in is) ∙ e))
      (left_one (carries v (rewritten_claim c (completed_with c v) n)) (is_bound v.phase)
      (is_completed_with (rewritten_claim c (completed_with c v) n) v) (shows_bound (rewritten_claim c (completed_with c v) n) v) (done_carried v c n ∙ carried) bound (done_completed v c n))) in
      let all = is_two (carries v c) (is_bound v.phase) (is_completed_with c v) (shows_bound c v) carried bound open_ in
      omega (arith, few, all)

  fourth : carries v c ≡ true → is_bound v.phase ≡ true → is_completed_with c v ≡ true → shows_bound c v ≡ false → Fewer (write_claim_status v c)
  fourth carried bound completed open_ i =
      let is : o ≡ Claim (with_claim_status c claims.Bound v.modes (Some v.amount) n) = i.is
      ∙ shown_is v c i.old i.new n (stands_it setup h (Claim c) i.old (claim_key c.meta.namespace c.meta.name) claim_stood refl i.there i.version) i.fits in
      let shows = and_from (same_modes v.modes v.modes) (same_amount v.amount v.amount) ((same_modes-Decides v.modes v.modes).1 refl) ((same_amount-Decides v.amount v.amount).1 refl) in
      let few = next_left v c o 0
      (λ w e. none_some (sym (ap volume_in is) ∙ e))
      (λ d e. subst (λ x. binds_left v x ≤ 0) (one (with_claim_status c claims.Bound v.modes (Some v.amount) n) d (sym (ap claim_in is) ∙ e))
      (left_none (carries v (with_claim_status c claims.Bound v.modes (Some v.amount) n)) (is_bound v.phase)
      (is_completed_with (with_claim_status c claims.Bound v.modes (Some v.amount) n) v) (shows_bound (with_claim_status c claims.Bound v.modes (Some v.amount) n) v)
      (carries_alike v c (with_claim_status c claims.Bound v.modes (Some v.amount) n) refl refl refl ∙ carried) bound completed shows)) in
      let all = is_one (carries v c) (is_bound v.phase) (is_completed_with c v) (shows_bound c v) carried bound completed open_ in
      omega (arith, few, all)

  pub binds_wrote : (call : Request) → call_of (Binds v c) ≡ Some call → Fewer call
  binds_wrote call e = let x = next_of v c call e in by x.uid x.has x.bare x.at
    where
      by : (uid : Uid) → c.meta.uid ≡ Some uid → v.meta.namespace ≡ [] → Stage v c call → Fewer call
      by uid has bare (First a e is) = subst Fewer (sym is) (first uid has a)
      by uid has bare (Second a b e is) = subst Fewer (sym is) (second bare a b)
      by uid has bare (Third a b d is) = subst Fewer (sym is) (third a b d)
      by uid has bare (Fourth a b d g is) = subst Fewer (sym is) (fourth a b d g)

-- a binding whose next call is made has a write left, and such a call that is done is counted
pub binds_some : (v : VolumeData) (c : ClaimData) (call : Request) → call_of (Binds v c) ≡ Some call → 1 ≤ binds_left v c
binds_some v c call e = by (next_of v c call e).at
  where
    by : Stage v c call → 1 ≤ binds_left v c
    by (First a e is) = let all = is_four (carries v c) (is_bound v.phase) (is_completed_with c v) (shows_bound c v) a in omega (arith, all)
    by (Second a b e is) = let all = is_three (carries v c) (is_bound v.phase) (is_completed_with c v) (shows_bound c v) a b in omega (arith, all)
    by (Third a b d is) = let all = is_two (carries v c) (is_bound v.phase) (is_completed_with c v) (shows_bound c v) a b d in omega (arith, all)
    by (Fourth a b d g is) = let all = is_one (carries v c) (is_bound v.phase) (is_completed_with c v) (shows_bound c v) a b d g in omega (arith, all)

pub binds_done : (v : VolumeData) (c : ClaimData) (call : Request) (o : Object) → call_of (Binds v c) ≡ Some call → done_by call (replies.Done o) ≡ 1
binds_done v c call o e = by (next_of v c call e).at
  where
    by : Stage v c call → done_by call (replies.Done o) ≡ 1
    by (First a e is) = ap (λ r. done_by r (replies.Done o)) is
    by (Second a b e is) = ap (λ r. done_by r (replies.Done o)) is
    by (Third a b d is) = ap (λ r. done_by r (replies.Done o)) is
    by (Fourth a b d g is) = ap (λ r. done_by r (replies.Done o)) is
