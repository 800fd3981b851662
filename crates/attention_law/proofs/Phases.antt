-- How far a life has come since the first of the watches, and how each step goes on.
use Rattle.std.proofs.Common.{◌≡◌, ◌≢◌, ◌⊎◌, ℕ, zero, suc, ◌+◌, ◌<◌, ◌≤◌, List, [], length, Bool, true, false, true≢false, Some, inl, inr, refl, sym, ◌∙◌, ap, subst, arith, if◌then◌else◌}
use Rattle.std.specs.Prelude.{map, slice_get}
use Rattle.std.specs.List.{list_any}
use Rattle.std.proofs.lemmas.Option.{slice_get_within}
use Rattle.kube_objects.specs.declared.key.Key.{Key}
use Rattle.kube_parts.specs.declared.parts.Kind.{Kind}
use Rattle.kube_parts.specs.declared.parts.Kind.TheVariants as kinds
use Rattle.kube_objects.specs.Keys.{AreRows, key_of, same_key, same_kind}
use Rattle.informer_cache.specs.Cache.{objects_of}
use Rattle.call_types.specs.declared.entry.Entry.{Entry}
use Rattle.call_types.specs.declared.request.Request.{Request}
use Rattle.call_types.specs.declared.request.SeatKind.{SeatKind}
use Rattle.call_types.specs.declared.request.SeatKind.TheVariants as seats
use Rattle.informer_cache.specs.All.{AllKnown, all_objects, cache_of}
use Rattle.model_laws.proofs.Lists.{IsIn, none_some, one}
use Rattle.worker_core.specs.declared.role.Role.{Role}
use Rattle.worker_core.specs.declared.turn.Next.{Next}
use Rattle.worker_core.specs.declared.turn.Next.TheVariants as nexts
use Rattle.worker_core.specs.declared.turn.Pass.{Pass}
use Rattle.worker_core.specs.Absorbs.{woken}
use Rattle.worker_core.specs.Roles.{IsBuiltKind, kinds_of}
use Rattle.worker_core.specs.Rules.{WasCalled}
use Rattle.worker_core.specs.Stands.{StandsFor}
use Rattle.worker_core.specs.States.{ActorState, call_in, waits}
use Rattle.worker_core.specs.Turns.{IsTurn}
use Rattle.worker_core.proofs.Answered.{passed, turn_role}
use Rattle.worker_core.proofs.KeysKept.{turn_keys}
use Rattle.worker_core.proofs.Quiet.{alike, itself}
use Rattle.attention_law.specs.Diligence.{IsAskedFor, IsKeyDue, watches_kind}
use Rattle.attention_law.proofs.Dues.{IsCached, due_cached, not_dropped, was_asked}
use Rattle.attention_law.proofs.Passing.{Goes, GoesOn, Stays}
use Rattle.attention_law.specs.Queues.{OneTaken, taken_keys, under_keys}
use Rattle.attention_law.proofs.Queues.{cached_self, row_any}
use Rattle.attention_law.proofs.Turned.{Kept, PassAfter, Renewed, Rests, idle_rests, turn_pass, turn_taken}

-- a kind's place among the kinds that an actor follows

abbrev place_of : SeatKind → Kind → ℕ
place_of seats.Binder kinds.PersistentVolume = 0
place_of seats.Binder kinds.PersistentVolumeClaim = 1
place_of seats.Binder kind = 2
place_of seats.Ops kinds.PersistentVolume = 0
place_of seats.Ops kinds.PersistentVolumeClaim = 1
place_of seats.Ops kinds.StorageClass = 2
place_of seats.Ops kind = 3
place_of seats.Scheduler kinds.PersistentVolume = 0
place_of seats.Scheduler kinds.PersistentVolumeClaim = 1
place_of seats.Scheduler kinds.StorageClass = 2
place_of seats.Scheduler kinds.Node = 3
place_of seats.Scheduler kind = 4
place_of seats.ClaimProtect kinds.PersistentVolumeClaim = 0
place_of seats.ClaimProtect kind = 1
place_of seat kind = 0

place_is : (seat : SeatKind) (i : ℕ) (kind : Kind) → IsBuiltKind seat → slice_get (kinds_of seat) i ≡ Some kind → i ≡ place_of seat kind
place_is seats.Binder zero kind built e = ap (place_of seats.Binder) (one kinds.PersistentVolume kind e)
place_is seats.Binder (suc zero) kind built e = ap (place_of seats.Binder) (one kinds.PersistentVolumeClaim kind e)
place_is seats.Binder (suc (suc zero)) kind built e = ap (place_of seats.Binder) (one kinds.StorageClass kind e)
place_is seats.Binder (suc (suc (suc i))) kind built e = none_some e
place_is seats.Ops zero kind built e = ap (place_of seats.Ops) (one kinds.PersistentVolume kind e)
place_is seats.Ops (suc zero) kind built e = ap (place_of seats.Ops) (one kinds.PersistentVolumeClaim kind e)
place_is seats.Ops (suc (suc zero)) kind built e = ap (place_of seats.Ops) (one kinds.StorageClass kind e)
place_is seats.Ops (suc (suc (suc zero))) kind built e = ap (place_of seats.Ops) (one kinds.Node kind e)
place_is seats.Ops (suc (suc (suc (suc i)))) kind built e = none_some e
place_is seats.ClaimProtect zero kind built e = ap (place_of seats.ClaimProtect) (one kinds.PersistentVolumeClaim kind e)
place_is seats.ClaimProtect (suc zero) kind built e = ap (place_of seats.ClaimProtect) (one kinds.Pod kind e)
place_is seats.ClaimProtect (suc (suc i)) kind built e = none_some e
place_is seats.VolumeProtect zero kind built e = refl
place_is seats.VolumeProtect (suc i) kind built e = none_some e
place_is seats.User i kind built e = absurd built
place_is seats.Scheduler zero kind built e = ap (place_of seats.Scheduler) (one kinds.PersistentVolume kind e)
place_is seats.Scheduler (suc zero) kind built e = ap (place_of seats.Scheduler) (one kinds.PersistentVolumeClaim kind e)
place_is seats.Scheduler (suc (suc zero)) kind built e = ap (place_of seats.Scheduler) (one kinds.StorageClass kind e)
place_is seats.Scheduler (suc (suc (suc zero))) kind built e = ap (place_of seats.Scheduler) (one kinds.Node kind e)
place_is seats.Scheduler (suc (suc (suc (suc zero)))) kind built e = ap (place_of seats.Scheduler) (one kinds.Pod kind e)
place_is seats.Scheduler (suc (suc (suc (suc (suc i))))) kind built e = none_some e
place_is seats.Agent zero kind built e = refl
place_is seats.Agent (suc i) kind built e = none_some e

-- the phases: how many watches of the kind, at this place of the pass, came since the first; whether the pass has the kind
-- behind it; and whether the key waits

pub data Phase (place : ℕ) (key : Key) (s : ActorState) (n : ℕ) : Type 0 where
  -- the pass of the first watch, and the next one
  Opened : n ≡ 0 → place < s.pass.behind → Phase place key s n
  Began : n ≡ 0 → s.pass.behind ≤ place → s.pass.event ≡ false → Phase place key s n
  -- the kind was watched again, in a pass without events; then the life was woken
  Passed : n ≡ 1 → place < s.pass.behind → s.pass.event ≡ false → Phase place key s n
  Woken : n ≡ 1 → s.pass.behind ≤ place → s.pass.event ≡ false → waits key s.work ≡ true → Phase place key s n
  -- the kind was watched once more, and the key still waits
  Waits : n ≡ 2 → place < s.pass.behind → s.pass.event ≡ false → waits key s.work ≡ true → Phase place key s n

pub few_watches : (place : ℕ) (key : Key) (s : ActorState) (n : ℕ) → Phase place key s n → n ≤ 2
few_watches place key s n (Opened is past) = omega (arith, is)
few_watches place key s n (Began is before quiet) = omega (arith, is)
few_watches place key s n (Passed is past quiet) = omega (arith, is)
few_watches place key s n (Woken is before quiet there) = omega (arith, is)
few_watches place key s n (Waits is past quiet there) = omega (arith, is)

abbrev behind_in : Pass → ℕ
behind_in p = p.behind

abbrev event_in : Pass → Bool
event_in p = p.event

-- the phase goes over to a state with the same pass, in which the key goes on waiting
same_phase : (place : ℕ) (key : Key) (s new : ActorState) (n : ℕ) → new.pass ≡ s.pass → (waits key s.work ≡ true → waits key new.work ≡ true) → Phase place key s n → Phase place key new n
same_phase place key s new n same stays (Opened is past) = Opened is (subst (λ p. place < behind_in p) (sym same) past)
same_phase place key s new n same stays (Began is before quiet) = Began is (subst (λ p. behind_in p ≤ place) (sym same) before) (ap event_in same ∙ quiet)
same_phase place key s new n same stays (Passed is past quiet) = Passed is (subst (λ p. place < behind_in p) (sym same) past) (ap event_in same ∙ quiet)
same_phase place key s new n same stays (Woken is before quiet there) = Woken is (subst (λ p. behind_in p ≤ place) (sym same) before) (ap event_in same ∙ quiet) (stays there)
same_phase place key s new n same stays (Waits is past quiet there) = Waits is (subst (λ p. place < behind_in p) (sym same) past) (ap event_in same ∙ quiet) (stays there)

-- a turn

module _ (key : Key) (s turned : ActorState) (mine : List Entry) (stands : StandsFor s mine) (order : AreRows (all_objects s.caches)) (due : IsKeyDue s.role key mine) where
  -- in a turn a key that is due goes on waiting, or is called for
  goes_on_waiting : (answer : Next) → IsTurn s turned answer → (WasCalled s answer key → ⊥) → waits key s.work ≡ true → waits key turned.work ≡ true
  goes_on_waiting answer turn no_call there = by (waits key turned.work) refl
    where
      by : (b : Bool) → waits key turned.work ≡ b → waits key turned.work ≡ true
      by true e = e
      by false e = elim ((turn_keys s turned answer turn).stops key there e) [
        | inl called ↦ absurd (no_call called)
        | inr dropped ↦ absurd (not_dropped s mine key stands order due dropped)
      ]

  pub called_or_waits : (request : Request) → IsTurn s turned (nexts.Call request) → IsAskedFor s.role key mine request ⊎ (waits key s.work ≡ true → waits key turned.work ≡ true)
  called_or_waits request turn = by (waits key s.work) (waits key turned.work) refl refl
    where
      by : (a b : Bool) → waits key s.work ≡ a → waits key turned.work ≡ b → IsAskedFor s.role key mine request ⊎ (waits key s.work ≡ true → waits key turned.work ≡ true)
      by a true ea eb = inr (λ e. eb)
      by false false ea eb = inr (λ e. absurd (true≢false (sym e ∙ ea)))
      by true false ea eb = elim ((turn_keys s turned (nexts.Call request) turn).stops key ea eb) [
        | inl called ↦ inl (was_asked s mine key stands order request called)
        | inr dropped ↦ absurd (not_dropped s mine key stands order due dropped)
      ]

renewed : (place : ℕ) (key : Key) (s turned : ActorState) (n : ℕ) → s.pass.event ≡ true → turned.pass ≡ record { behind = 0; event = false } → Phase place key s n → Phase place key turned n
renewed place key s turned n brought is (Opened zero_ past) = Began zero_ (subst (λ p. behind_in p ≤ place) (sym is) (omega arith)) (ap event_in is)
renewed place key s turned n brought is (Began zero_ before quiet) = absurd (true≢false (sym brought ∙ quiet))
renewed place key s turned n brought is (Passed one_ past quiet) = absurd (true≢false (sym brought ∙ quiet))
renewed place key s turned n brought is (Woken one_ before quiet there) = absurd (true≢false (sym brought ∙ quiet))
renewed place key s turned n brought is (Waits two past quiet there) = absurd (true≢false (sym brought ∙ quiet))

pub turn_phase : (place : ℕ) (key : Key) (s turned : ActorState) (answer : Next) (n : ℕ) → IsTurn s turned answer
    → (waits key s.work ≡ true → waits key turned.work ≡ true) → Phase place key s n → Phase place key turned n
turn_phase place key s turned answer n turn stays phase = by (turn_pass s turned answer turn)
  where
    by : PassAfter s turned → Phase place key turned n
    by (Kept same) = same_phase place key s turned n same stays phase
    by (Renewed brought is) = renewed place key s turned n brought is phase

-- an answer

module _ (seat : SeatKind) (built : IsBuiltKind seat) (kind : Kind) (place : ℕ) (at : slice_get (kinds_of seat) place ≡ Some kind) (key : Key)
    (s new : ActorState) (n : ℕ) (stays : waits key s.work ≡ true → waits key new.work ≡ true) where
  -- the kind itself was watched
  own_watch : s.pass.behind ≡ place → new.pass.behind ≡ s.pass.behind + 1 → (s.pass.event ≡ false → new.pass.event ≡ false) → Phase place key s n → Phase place key new (n + 1)
  own_watch own on still (Opened is past) = absurd (omega (arith, own, past))
  own_watch own on still (Began is before quiet) = Passed (omega (arith, is)) (omega (arith, own, on)) (still quiet)
  own_watch own on still (Passed is past quiet) = absurd (omega (arith, own, past))
  own_watch own on still (Woken is before quiet there) = Waits (omega (arith, is)) (omega (arith, own, on)) (still quiet) (stays there)
  own_watch own on still (Waits is past quiet there) = absurd (omega (arith, own, past))

  -- another kind was watched
  other_watch : s.pass.behind ≢ place → new.pass.behind ≡ s.pass.behind + 1 → (s.pass.event ≡ false → new.pass.event ≡ false) → Phase place key s n → Phase place key new n
  other_watch differs on still (Opened is past) = Opened is (omega (arith, past, on))
  other_watch differs on still (Began is before quiet) = Began is (omega (arith, differs, before, on)) (still quiet)
  other_watch differs on still (Passed is past quiet) = Passed is (omega (arith, past, on)) (still quiet)
  other_watch differs on still (Woken is before quiet there) = Woken is (omega (arith, differs, before, on)) (still quiet) (stays there)
  other_watch differs on still (Waits is past quiet there) = Waits is (omega (arith, past, on)) (still quiet) (stays there)

  pub answer_phase : (request : Request) → s.role.kind ≡ seat → Goes s new request → Phase place key s n → Phase place key new (if watches_kind kind request then n + 1 else n)
  answer_phase request of_seat (Stays none same) phase = subst (λ b. Phase place key new (if b then n + 1 else n)) (sym (none kind)) (same_phase place key s new n same stays phase)
  answer_phase request of_seat (GoesOn k from is follows on still) phase = by (same_kind k kind) refl
    where
      follows_at : slice_get (kinds_of seat) s.pass.behind ≡ Some k
      follows_at = ap (λ x. slice_get (kinds_of x) s.pass.behind) (sym of_seat) ∙ follows

      counts : (b : Bool) → same_kind k kind ≡ b → Phase place key new (if b then n + 1 else n) → Phase place key new (if watches_kind kind request then n + 1 else n)
      counts b e p = subst (λ c. Phase place key new (if c then n + 1 else n)) (sym (ap (watches_kind kind) is ∙ e)) p

      by : (b : Bool) → same_kind k kind ≡ b → Phase place key new (if watches_kind kind request then n + 1 else n)
      by true e =
          let own : s.pass.behind ≡ place = place_is seat s.pass.behind k built follows_at ∙ ap (place_of seat) (alike k kind e) ∙ sym (place_is seat place kind built at) in
          counts true e (own_watch own on still phase)
      by false e = counts false e (other_watch differs on still phase)
        where
          differs : s.pass.behind ≢ place
          differs own =
              let same : k ≡ kind = one k kind (sym follows_at ∙ ap (λ i. slice_get (kinds_of seat) i) own ∙ at) in
              true≢false (sym (itself kind) ∙ subst (λ x. same_kind x kind ≡ false) same e)

-- the first watch
pub opens : (seat : SeatKind) (kind : Kind) (key : Key) (s new : ActorState) (request : Request) → s.role.kind ≡ seat
    → watches_kind kind request ≡ true → Goes s new request → (slice_get (kinds_of seat) s.pass.behind ≡ Some kind) × Phase s.pass.behind key new 0
opens seat kind key s new request of_seat watch (Stays none same) = absurd (true≢false (sym watch ∙ none kind))
opens seat kind key s new request of_seat watch (GoesOn k from is follows on still) =
    let same : k ≡ kind = alike k kind (sym (ap (watches_kind kind) is) ∙ watch) in
    (ap (λ x. slice_get (kinds_of x) s.pass.behind) (sym of_seat) ∙ follows ∙ ap Some same, Opened refl (omega (arith, on)))

-- the place of a kind does not depend on the pass
pub same_place : (seat : SeatKind) (kind : Kind) (i j : ℕ) → IsBuiltKind seat → slice_get (kinds_of seat) i ≡ Some kind → slice_get (kinds_of seat) j ≡ Some kind → i ≡ j
same_place seat kind i j built ei ej = place_is seat i kind built ei ∙ sym (place_is seat j kind built ej)

-- an idle turn and a wake of an actor for which a key is due

module _ (key : Key) (s turned new : ActorState) (mine : List Entry) (built : IsBuiltKind s.role.kind) (stands : StandsFor s mine)
    (order : AreRows (all_objects s.caches)) (due : IsKeyDue s.role key mine) (own : OneTaken s) (fresh : s.memory.stale ≡ false)
    (turn : IsTurn s turned nexts.Idle) (wakes : new ≡ woken turned) where
  rests : Rests s turned
  rests = idle_rests s turned turn fresh

  -- the key is cached, and waits after the wake
  pub waits_now : waits key new.work ≡ true
  waits_now = ap (λ (x : ActorState). waits key x.work) wakes ∙ cached_self turned.caches (kinds_of turned.role.kind) key.kind key turned.work followed there none
    where
      cached : IsCached s.role.kind key s.caches
      cached = due_cached s.role mine key built due s.caches stands.caches order (λ k o e. row_any k o _ e)

      same_kinds : kinds_of turned.role.kind ≡ kinds_of s.role.kind
      same_kinds = ap (λ (r : Role). kinds_of r.kind) (turn_role s turned nexts.Idle turn)

      followed : IsIn key.kind (kinds_of turned.role.kind)
      followed = subst (λ ks. IsIn key.kind ks) (sym same_kinds) cached.followed

      there : list_any (same_key key) (map key_of (objects_of (cache_of key.kind turned.caches))) ≡ true
      there = subst (λ (c : AllKnown). list_any (same_key key) (map key_of (objects_of (cache_of key.kind c))) ≡ true) (sym rests.caches) cached.there

      none : taken_keys turned.work ≡ []
      none = turn_taken s turned nexts.Idle turn own ∙ ap under_keys rests.none

  -- a key that waits is decided before the life is idle
  pub decided : waits key s.work ≡ true → ⊥
  decided there =
      let still = goes_on_waiting key s turned mine stands order due nexts.Idle turn (λ called. none_some (ap call_in called.call)) there in
      let gone : waits key turned.work ≡ false = ap (λ ks. list_any (same_key key) ks) rests.empty in
      true≢false (sym still ∙ gone)

module _ (seat : SeatKind) (built : IsBuiltKind seat) (kind : Kind) (place : ℕ) (at : slice_get (kinds_of seat) place ≡ Some kind) (key : Key)
    (s turned new : ActorState) (mine : List Entry) (n : ℕ) (of_seat : s.role.kind ≡ seat)
    (stands : StandsFor s mine) (order : AreRows (all_objects s.caches)) (due : IsKeyDue s.role key mine) (own : OneTaken s)
    (fresh : s.memory.stale ≡ false) (turn : IsTurn s turned nexts.Idle) (wakes : new ≡ woken turned) where
  built_now : IsBuiltKind s.role.kind
  built_now = subst IsBuiltKind (sym of_seat) built

  -- the pass has each kind behind it
  past_it : place < s.pass.behind
  past_it =
      let all : length (kinds_of seat) ≤ s.pass.behind =
      passed (kinds_of seat) s.pass.behind (ap (λ k. slice_get (kinds_of k) s.pass.behind) (sym of_seat) ∙ (idle_rests s turned turn fresh).passed) in
      let low : place < length (kinds_of seat) = slice_get_within (kinds_of seat) place kind at in
      omega (arith, all, low)

  pass_now : new.pass ≡ record { behind = 0; event = false }
  pass_now = ap (λ (x : ActorState). x.pass) wakes

  behind_now : new.pass.behind ≤ place
  behind_now = subst (λ p. behind_in p ≤ place) (sym pass_now) (omega arith)

  waits_then : waits key new.work ≡ true
  waits_then = waits_now key s turned new mine built_now stands order due own fresh turn wakes

  never_waited : waits key s.work ≡ true → ⊥
  never_waited = decided key s turned new mine built_now stands order due own fresh turn wakes

  pub wake_phase : Phase place key s n → Phase place key new n
  wake_phase (Opened is past) = Began is behind_now (ap event_in pass_now)
  wake_phase (Began is before quiet) = let past = past_it in absurd (omega (arith, past, before))
  wake_phase (Passed is past quiet) = Woken is behind_now (ap event_in pass_now) waits_then
  wake_phase (Woken is before quiet there) = absurd (never_waited there)
  wake_phase (Waits is past quiet there) = absurd (never_waited there)
