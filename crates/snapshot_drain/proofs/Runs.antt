-- A drain is at its end after at most one run more than the rows weigh.
use Rattle.std.specs.Prelude.{ℕ, zero, suc, ◌+◌, ◌*◌, ◌≤◌, ◌<◌, ◌==◌, ◌≡◌, Bool, true, false, List, [], ◌∷◌, Option, Some, None, is_some, length, map, if◌then◌else◌}
use Rattle.std.proofs.Common.{refl, sym, ◌∙◌, ap, inr, arith, true≢false}
use Rattle.std.proofs.lemmas.Bool.{eq-eqb}
use Rattle.kube_objects.specs.declared.objects.Object.{Object}
use Rattle.snapshot_bind.specs.declared.calls.SnapAsk.{SnapAsk}
use Rattle.snapshot_bind.specs.declared.calls.SnapAsk.TheVariants as asks
use Rattle.snapshot_bind.specs.declared.calls.SnapEntry.{SnapEntry}
use Rattle.snapshot_bind.specs.declared.effect.Effect.{Effect}
use Rattle.snapshot_bind.specs.declared.effect.Effect.TheVariants.{Answers, PutsSnapshot, PutsContent, TakesSnapshot, TakesContent}
use Rattle.snapshot_bind.specs.Licences.{SnapLicensed}
use Rattle.snapshot_bind.specs.Rules.{EachOf, IsSideRun, SideCall, own, side_after}
use Rattle.snapshot_bind.specs.SideStore.{Side, after, effect_of, reply_of, worker_effect}
use Rattle.snapshot_worker.specs.Workers.{Asks, Lives, Wakes, Worker, fresh_content, fresh_snapshot, next_of}
use Rattle.snapshot_worker.proofs.Lives.{each_ask_is_licensed}
use Rattle.snapshot_drain.specs.Alone.{IsAlone, content_load, measure, side_by, snapshot_load, worker_by}
use Rattle.snapshot_drain.specs.Drains.{IsWrite, NamesContent, total, weight}
use Rattle.snapshot_drain.specs.Runs.{EachDrainEnds, asks_of, drain_of, go_on, is_still, turns_for, unless_still, with_writes, writes_of}
use Rattle.snapshot_drain.proofs.Alone.{each_step_lowers, lists_make_alone, lower_alone}
use Rattle.snapshot_drain.proofs.Names.{names_are_kept}

-- a worker's ask hands in no content
names_none : (mine : List SnapEntry) (ask : SnapAsk) → SnapLicensed mine ask → NamesContent ask
unfolding SnapLicensed
names_none mine (asks.Content name namespace snapshot policy source) licensed = absurd licensed
names_none mine (asks.Snapshot namespace name claim policy) licensed = tt
names_none mine (asks.Unsnap namespace name) licensed = tt
names_none mine (asks.Uncontent name) licensed = tt
names_none mine asks.SnapList licensed = tt
names_none mine (asks.SnapGet namespace name) licensed = tt
names_none mine (asks.Cut namespace name uid) licensed = tt
names_none mine (asks.BindContent name version uid) licensed = tt
names_none mine (asks.BindSnapshot namespace name version content) licensed = tt
names_none mine (asks.DropSnapshot namespace name version) licensed = tt
names_none mine (asks.EraseSnap name version) licensed = tt
names_none mine (asks.DropContent name version) licensed = tt

load_of_list : {X Y : Type 0} (f : X → ℕ) (fresh : Y → X) (n : ℕ) (ys : List Y) → ((y : Y) → f (fresh y) ≡ n) → total f (map fresh ys) ≡ n * length ys
load_of_list f fresh n [] h = omega arith
load_of_list f fresh n (y ∷ ys) h = let first = h y in let rest = load_of_list f fresh n ys h in omega (arith, first, rest)

-- an effect that lowers the weight if it writes pays for its write
pays : (σ : Side) (effect : Effect) → (IsWrite effect → weight (after σ effect) < weight σ) → weight (after σ effect) + writes_of effect ≤ weight σ
pays σ (Answers reply) low = omega arith
pays σ (PutsSnapshot s) low = let less = low tt in omega (arith, less)
pays σ (PutsContent c) low = let less = low tt in omega (arith, less)
pays σ (TakesSnapshot s) low = let less = low tt in omega (arith, less)
pays σ (TakesContent c) low = let less = low tt in omega (arith, less)

module _ (world : List Object) (seat : ℕ) where
  -- the worker's own calls are those of the seat, in a run without a content of the empty name
  record IsServed (past : List SideCall) (w : Worker) : Type 0 where
    run : IsSideRun past
    names : EachOf (λ (c : SideCall). NamesContent c.entry.ask) past
    life : Lives (own seat past) w

  -- the call of an ask
  abbrev call_of : List SideCall → SnapAsk → SideCall
  call_of past ask = record { seat = seat; world = world; entry = record { ask = ask; reply = reply_of (effect_of world (side_after past) ask) } }

  served_next : (past : List SideCall) (w : Worker) (ask : SnapAsk) → IsServed past w → next_of w ≡ Some ask → IsServed (call_of past ask ∷ past) (worker_by world (side_after past) w ask)
  served_next past w ask served e =
      let licensed = each_ask_is_licensed (own seat past) w served.life ask e in
      record {
        run = (served.run, refl, inr licensed);
        names = (names_none (own seat past) ask licensed, served.names);
        life = by (seat == seat) (eq-eqb seat seat refl);
      }
    where
      by : (b : Bool) → b ≡ true → Lives (if b then (call_of past ask).entry ∷ own seat past else own seat past) (worker_by world (side_after past) w ask)
      by true same = Asks (call_of past ask).entry (own seat past) w served.life e
      by false same = absurd (true≢false (sym same))

  -- the asks from here end, and no more writes are made than the weight falls by
  record Rests (n : ℕ) (past : List SideCall) (w : Worker) : Type 0 where
    last : List SideCall
    worker : Worker
    writes : ℕ
    served : IsServed last worker
    is : asks_of world n (side_after past) w ≡ Some (record { side = side_after last; worker = worker; writes = writes })
    falls : weight (side_after last) + writes ≤ weight (side_after past)

  rests_next : (n : ℕ) (past : List SideCall) (w : Worker) (ask : SnapAsk) → next_of w ≡ Some ask
      → weight (side_by world (side_after past) ask) + writes_of (effect_of world (side_after past) ask) ≤ weight (side_after past)
      → Rests n (call_of past ask ∷ past) (worker_by world (side_after past) w ask) → Rests (suc n) past w
  rests_next n past w ask e paid rest = record {
    last = rest.last;
    worker = rest.worker;
    writes = writes_of (effect_of world (side_after past) ask) + rest.writes;
    served = rest.served;
    is = ap (go_on world (asks_of world n) (side_after past) w) e ∙ ap (with_writes (writes_of (effect_of world (side_after past) ask))) rest.is;
    falls = let later = rest.falls in omega (arith, later, paid);
  }

  rests : (n : ℕ) (past : List SideCall) (w : Worker) → IsServed past w → IsAlone (side_after past) w → measure (side_after past) w < n → Rests n past w
  rests zero past w served alone low = absurd (omega (arith, low))
  rests (suc n) past w served alone low = by (next_of w) refl (λ p v s a l. rests n p v s a l)
    where
      by : (o : Option SnapAsk) → next_of w ≡ o → ((p : List SideCall) (v : Worker) → IsServed p v → IsAlone (side_after p) v → measure (side_after p) v < n → Rests n p v) → Rests (suc n) past w
      by None e rest = record { last = past; worker = w; writes = 0; served = served; is = ap (go_on world (asks_of world n) (side_after past) w) e; falls = omega arith }
      by (Some ask) e rest =
          let names = names_are_kept past served.names in
          let step = each_step_lowers past served.run names w alone world ask e in
          let paid = pays (side_after past) (effect_of world (side_after past) ask) (lower_alone past served.run names w alone world ask e) in
          let lower = step.lower in
          rests_next n past w ask e paid (rest (call_of past ask ∷ past) (worker_by world (side_after past) w ask) (served_next past w ask served e) step.alone (omega (arith, lower, low)))

  -- a run ends
  runs : (past : List SideCall) (w : Worker) → IsServed past w → Rests (turns_for (side_after past)) past (record w { listed = false })
  unfolding effect_of worker_effect
  runs past w served =
      let woken : Worker = record w { listed = false } in
      let begun : IsServed past woken = record { run = served.run; names = served.names; life = Wakes (own seat past) w served.life } in
      let alone = lists_make_alone (side_after past) world woken refl in
      let snapshots = load_of_list snapshot_load fresh_snapshot 1 (side_after past).snapshots (λ s. refl) in
      let contents = load_of_list content_load fresh_content 2 (side_after past).contents (λ c. refl) in
      let turns : turns_for (side_after past) ≡ suc (3 * weight (side_after past) + length (side_after past).snapshots + 2 * length (side_after past).contents + 1) = omega arith in
      rw turns (rests_next _ past woken asks.SnapList refl (omega arith)
      (rests _ (call_of past asks.SnapList ∷ past) (worker_by world (side_after past) woken asks.SnapList) (served_next past woken asks.SnapList begun refl) alone
      (omega (arith, snapshots, contents))))

  drains : (n : ℕ) (past : List SideCall) (w : Worker) → IsServed past w → weight (side_after past) < n → is_some (drain_of world n (side_after past) w) ≡ true
  drains zero past w served low = absurd (omega (arith, low))
  drains (suc n) past w served low =
      let run = runs past w served in
      ap (λ o. is_some (unless_still (drain_of world n) o)) run.is ∙ by run run.writes run.falls (λ p v s l. drains n p v s l)
    where
      by : (run : Rests (turns_for (side_after past)) past (record w { listed = false })) (writes : ℕ) → weight (side_after run.last) + writes ≤ weight (side_after past)
          → ((p : List SideCall) (v : Worker) → IsServed p v → weight (side_after p) < n → is_some (drain_of world n (side_after p) v) ≡ true)
          → is_some (if is_still writes then Some (record { side = side_after run.last; worker = run.worker; writes = writes }) else drain_of world n (side_after run.last) run.worker) ≡ true
      by run zero falls rest = refl
      by run (suc k) falls rest = rest run.last run.worker run.served (omega (arith, falls, low))

pub each_drain_ends : EachDrainEnds
each_drain_ends world seat past run names w life = drains world seat (weight (side_after past) + 1) past w (record { run = run; names = names; life = life }) (omega arith)
