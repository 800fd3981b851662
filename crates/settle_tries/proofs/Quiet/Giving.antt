-- A claim that has no node at the end of a quiet round had none behind the scheduler's slot, or was written in it.
use Rattle.std.proofs.Common.{◌≡◌, ◌≢◌, ◌∙◌, ◌⊎◌, ℕ, ◌≤◌, List, [], ◌∷◌, ◌++◌, append_assoc, Bool, true, false, true≢false, Option, Some, None, inl, inr, refl, sym, ap, subst}
use Rattle.std.specs.Prelude.{is_some}
use Rattle.kube_objects.specs.declared.key.Key.{Key}
use Rattle.kube_parts.specs.declared.names.Due.{Due}
use Rattle.kube_parts.specs.declared.names.Due.TheVariants as dues
use Rattle.kube_objects.specs.declared.objects.Claim.{Claim as ClaimData}
use Rattle.kube_objects.specs.declared.objects.Object.{Object}
use Rattle.kube_objects.specs.declared.objects.Object.TheVariants.{Claim, Pod}
use Rattle.kube_objects.specs.Bindings.{has_key, selected_node}
use Rattle.kube_objects.specs.Keys.{row_at}
use Rattle.call_types.specs.declared.entry.Entry.{Entry}
use Rattle.call_types.specs.declared.request.SeatKind.TheVariants as seats
use Rattle.call_types.specs.declared.setup.Setup.{Setup}
use Rattle.binder_model.specs.Due.{claim_guard_due, or_due, provision_due}
use Rattle.binder_model.specs.BinderDue.{claim_due}
use Rattle.binder_model.specs.Promises.{IsRunOf}
use Rattle.binder_model.specs.World.{effect, world}
use Rattle.model_laws.proofs.Histories.{rows_stand_in_order}
use Rattle.model_laws.proofs.Lists.{one}
use Rattle.settle_measure.specs.Left.Measure.{work_left}
use Rattle.worker_core.specs.declared.role.Role.{Role}
use Rattle.worker_core.specs.Absorbs.{woken}
use Rattle.worker_core.specs.Roles.{IsBuiltKind}
use Rattle.actor_rounds.specs.declared.drainers.Drainer.{Drainer}
use Rattle.actor_rounds.specs.Rounds.{all_pass}
use Rattle.actor_rounds.proofs.RunFacts.{run_grows}
use Rattle.settle_writes.specs.Writes.Lasting.{Lasts, content_of}
use Rattle.settle_alike.proofs.Alike.Calls.{LastsOrAlike, calls_last_or_leave_alike}
use Rattle.settle_alike.proofs.Alike.Equal.{Known, object_known}
use Rattle.settle_pays.specs.Pays.Pays.{HavePaid}
use Rattle.settle_budget.specs.Drains.Budget.{AreAlwaysInOrder}
use Rattle.settle_alike.proofs.Near.Near.{claim_near, near_provisions}
use Rattle.settle_tries.specs.Tries.Deciding.{IsWithin}
use Rattle.settle_tries.specs.Tries.Quiet.{AreCached, IsQuietRound, OnlyPrepares}
use Rattle.settle_tries.specs.Tries.Taking.{HasNone, IsGiven, IsWritten, TakenWereGiven}
use Rattle.settle_tries.proofs.Slots.Coming.{lasting_are_decided}
use Rattle.settle_tries.proofs.Moves.Moving.{one_node_so}
use Rattle.settle_tries.proofs.Moves.Parts.{HasParts, parts_of}
use Rattle.settle_tries.proofs.Moves.Points.{near_ahead, order_within, run_within}
use Rattle.settle_tries.proofs.Quiet.Quiet.{
  all_paid,
  at_first,
  at_second,
  first_paid,
  first_there,
  near_first,
  ops_idle,
  ops_paid,
  ops_stays,
  scheduler_idle,
  second_order,
  second_run,
  stands_alike,
  stays_up,
  tail_alike,
}
use Rattle.settle_tries.proofs.Quiet.Taking.{StandsThere, claim_in, taken_were_due}

-- ---- the entry that changes a claim

record IsChange (setup : Setup) (key : Key) (h past : List Entry) : Type 0 where
  newer : List Entry
  older : List Entry
  entry : Entry
  are : past ≡ newer ++ (entry ∷ older ++ h)
  before : ClaimData
  stood : row_at key (world setup (older ++ h)).store.rows ≡ Some (Claim before)
  now : ClaimData
  stands : row_at key (world setup (entry ∷ older ++ h)).store.rows ≡ Some (Claim now)
  changes : content_of (Claim before) ≢ content_of (Claim now)

module _ (setup : Setup) (key : Key) (h past : List Entry) (at : (x : List Entry) → IsWithin h x past → StandsThere setup key x) (c : ClaimData)
    (was : row_at key (world setup h).store.rows ≡ Some (Claim c)) where
  change : (ahead newer : List Entry) (d : ClaimData) → past ≡ ahead ++ (newer ++ h)
      → row_at key (world setup (newer ++ h)).store.rows ≡ Some (Claim d) → content_of (Claim c) ≢ content_of (Claim d) → IsChange setup key h past
  change ahead [] d are there differs = absurd (differs (ap (λ x. content_of (Claim (claim_in c x))) (sym was ∙ there)))
  change ahead (e ∷ newer) d are there differs = by (at (newer ++ h) w) (λ x at_x other. change (ahead ++ (e ∷ [])) newer x w.ahead at_x other)
    where
      w : IsWithin h (newer ++ h) past
      w = record { newer = ahead ++ (e ∷ []); older = newer; ahead = are ∙ sym (append_assoc ahead (e ∷ []) (newer ++ h)); behind = refl }

      by : StandsThere setup key (newer ++ h)
          → ((x : ClaimData) → row_at key (world setup (newer ++ h)).store.rows ≡ Some (Claim x) → content_of (Claim c) ≢ content_of (Claim x) → IsChange setup key h past) → IsChange setup key h past
      by s before = test (object_known (content_of (Claim s.claim)) (content_of (Claim d)))
        where
          test : Known (content_of (Claim s.claim) ≡ content_of (Claim d)) → IsChange setup key h past
          test (inr changes) = record { newer = ahead; older = newer; entry = e; are = are; before = s.claim; stood = s.there; now = d; stands = there; changes = changes }
          test (inl same) = before s.claim s.there (λ first. differs (first ∙ same))

-- it lasts
change_lasts : (setup : Setup) (key : Key) (h past : List Entry) (x : IsChange setup key h past) → Lasts setup (world setup (x.older ++ h)) x.entry.kind x.entry.request
change_lasts setup key h past x = by (calls_last_or_leave_alike setup (world setup (x.older ++ h)) x.entry.kind x.entry.request (rows_stand_in_order setup (x.older ++ h)))
  where
    by : LastsOrAlike (world setup (x.older ++ h)) (effect setup (world setup (x.older ++ h)) x.entry.kind x.entry.request) → Lasts setup (world setup (x.older ++ h)) x.entry.kind x.entry.request
    by (inl lasts) = lasts
    by (inr alike) =
        let s = stands_alike setup (x.older ++ h) (x.entry ∷ x.older ++ h) key (Claim x.now) alike x.stands in
        absurd (x.changes (sym (ap content_of (one s.object (Claim x.before) (sym s.there ∙ x.stood))) ∙ s.same))

-- ---- what is due for a claim

some_due : (a b : Option Due) (action : Due) → (z : Due) × (Some z ≡ or_due a (or_due b (Some action)))
unfolding or_due
some_due (Some x) b action = (x, refl)
some_due None (Some x) action = (x, refl)
some_due None None action = (action, refl)

abbrev is_pod : Object → Bool
is_pod (Pod p) = true
is_pod o = false

pub none_due : (setup : Setup) (h : List Entry) (key : Key) (c : ClaimData) (action : Due) → OnlyPrepares setup (world setup h)
    → row_at key (world setup h).store.rows ≡ Some (Claim c) → provision_due setup (world setup h) c ≡ Some action → ⊥
none_due setup h key c action only there due =
    let z = some_due (claim_guard_due (world setup h).store.rows c) (claim_due (world setup h).store.rows c) action in
    let p = only key (Claim c) z.0 there (z.1 ∙ ap (λ y. or_due (claim_guard_due (world setup h).store.rows c) (or_due (claim_due (world setup h).store.rows c) y)) (sym due)) in
    true≢false (sym (ap is_pod p.is))

-- ---- a quiet round

module _ (setup : Setup) (ds after : List Drainer) (h past : List Entry) (b left : ℕ) (q : IsQuietRound setup ds after h past b left)
    (p : HasParts all_pass past left ds h b after) (cached : AreCached setup ds h) (only : OnlyPrepares setup (world setup h))
    (key : Key) (d : ClaimData) (is : row_at key (world setup past).store.rows ≡ Some (Claim d)) (none : has_key selected_node d.meta.annotations ≡ false) where
  abbrev middle : List Entry
  middle = p.first.middle

  within : IsWithin h middle past
  within = at_first setup ds after h past b left q p

  paid : HavePaid setup h past
  paid = all_paid setup ds after h past b left q p

  up : work_left setup (world setup h) ≤ work_left setup (world setup past)
  up = stays_up setup ds after h past b left q p

  run : IsRunOf setup middle
  run = run_within setup h past q.run q.order paid up middle within

  order : AreAlwaysInOrder setup middle
  order = order_within setup h past q.run q.order paid up middle within

  -- behind the scheduler's slot
  behind : StandsThere setup key middle
  behind = let n = claim_near (world setup middle) (world setup past) key d (near_ahead setup h past q.run q.order paid up middle within) is in record { claim = n.claim; there = n.there }

  kind : p.first.drainer.actor.role.kind ≡ seats.Scheduler
  kind = ap (λ (r : Role). r.kind) p.scheduler

  -- where it has a node there ops takes it back, so something was due
  was_due : has_key selected_node behind.claim.meta.annotations ≡ true → provision_due setup (world setup middle) behind.claim ≡ Some dues.ClearNode
  was_due had =
      let alike = tail_alike setup ds after h past b left q p in
      let s = stands_alike setup p.second.middle past key (Claim d) alike is in
      let n = claim_near (world setup p.second.middle) (world setup past) key d (near_ahead setup h past q.run q.order paid up p.second.middle (at_second setup ds after h past b left q p)) is in
      let same : content_of (Claim n.claim) ≡ content_of (Claim d) = sym (ap content_of (one s.object (Claim n.claim) (sym s.there ∙ n.there))) ∙ s.same in
      taken_were_due setup p.second.drainer.seat p.second.drainer.actor p.second.ran.actor middle p.second.middle p.first.rest p.second.rest true key
      behind.claim n.claim (ap (λ (r : Role). r.kind) p.ops)
      (second_run setup ds after h past b left q p) (second_order setup ds after h past b left q p)
      (ops_idle setup ds after h past b left q p cached) p.second.runs (ops_paid setup ds after h past b left q p) (ops_stays setup ds after h past b left q p)
      behind.there n.there had (ap is_some (one_node_so n.claim d same) ∙ none)

  -- so it was not so when the round began
  before : StandsThere setup key h
  before = let n = claim_near (world setup h) (world setup middle) key behind.claim (near_first setup ds after h past b left q p cached) behind.there in record { claim = n.claim; there = n.there }

  other : has_key selected_node behind.claim.meta.annotations ≡ true → content_of (Claim before.claim) ≢ content_of (Claim behind.claim)
  other had same =
      none_due setup h key before.claim dues.ClearNode only before.there
      (near_provisions setup (world setup h) (world setup middle) before.claim behind.claim (near_first setup ds after h past b left q p cached) same ∙ was_due had)

  stands_at : (x : List Entry) → IsWithin h x middle → StandsThere setup key x
  stands_at x w =
      let i = first_paid setup ds after h past b left q p cached in
      let n = claim_near (world setup x) (world setup middle) key behind.claim (near_ahead setup h middle run order i.behind i.down x w) behind.there in
      record { claim = n.claim; there = n.there }

  written : has_key selected_node behind.claim.meta.annotations ≡ true → IsWritten setup p.first.drainer h middle key
  written had =
      let grown = run_grows all_pass p.first.drainer.seat p.first.ran.actor middle p.first.rest true (woken p.first.drainer.actor) h b p.first.runs in
      let x = change setup key h middle stands_at before.claim before.there [] grown.longer.added behind.claim grown.longer.are
      (ap (λ es. row_at key (world setup es).store.rows) (sym grown.longer.are) ∙ behind.there) (other had) in
      record {
        newer = x.newer;
        older = x.older;
        entry = x.entry;
        are = x.are;
        call =
            lasting_are_decided setup p.first.drainer.seat p.first.drainer.actor p.first.ran.actor h middle b p.first.rest true x.newer x.older
            x.entry (subst IsBuiltKind (sym kind) tt) run (scheduler_idle setup ds after h past b left q p cached) p.first.runs x.are
            (change_lasts setup key h middle x);
        before = x.before;
        stood = x.stood;
        now = x.now;
        stands = x.stands;
        changes = x.changes;
      }

  either : HasNone setup middle key ⊎ IsWritten setup p.first.drainer h middle key
  either = by (has_key selected_node behind.claim.meta.annotations) refl
    where
      by : (has : Bool) → has_key selected_node behind.claim.meta.annotations ≡ has → HasNone setup middle key ⊎ IsWritten setup p.first.drainer h middle key
      by true had = inr (written had)
      by false lacks = inl (record { claim = behind.claim; there = behind.there; none = lacks })

  given : IsGiven setup ds h past key
  given = record {
    first = p.first.drainer;
    scheduler = kind;
    middle = middle;
    within = within;
    slot = record { there = first_there setup ds after h past b left q p cached; after = p.first.ran.actor; before = b; left = p.first.rest; runs = p.first.runs };
    either = either;
  }

pub taken_were_given : TakenWereGiven
taken_were_given setup ds after h past b left key d q cached only is none =
    given setup ds after h past b left q (parts_of all_pass past left ds h b after q.may.may.stand.roles q.round) cached only key d is none
