-- Each call of a controller, and entries one after the other.
use Rattle.std.proofs.Common.{◌≡◌, ◌≢◌, ◌∙◌, ℕ, ◌+◌, ◌*◌, ◌-◌, ◌≤◌, List, [], ◌∷◌, ◌++◌, Option, Some, None, refl, sym, ap, subst, arith, length}
use Rattle.kube_objects.specs.declared.objects.Object.{Object}
use Rattle.kube_objects.specs.declared.objects.Object.TheVariants.{Class, Node, Volume, Claim, Pod}
use Rattle.kube_objects.specs.Bindings.{ref_uid}
use Rattle.kube_parts.specs.declared.uid.Uid.{Uid}
use Rattle.kube_parts.specs.Uids.{uid_of_serial}
use Rattle.call_types.specs.declared.entry.Entry.{Entry}
use Rattle.call_types.specs.declared.request.Request.{Request}
use Rattle.call_types.specs.declared.request.Request.TheVariants as requests
use Rattle.call_types.specs.declared.request.SeatKind.{SeatKind}
use Rattle.call_types.specs.declared.request.SeatKind.TheVariants as seats
use Rattle.call_types.specs.declared.setup.Setup.{Setup}
use Rattle.binder_model.specs.Answers.{Removes, Says, Stores, after}
use Rattle.binder_model.specs.Devices.{DeviceAnswer, device_answer}
use Rattle.binder_model.specs.Licence.{Licensed, Reads, RowAllows, allows, row_of}
use Rattle.binder_model.specs.Promises.{IsRunOf}
use Rattle.binder_model.specs.Told.{own}
use Rattle.binder_model.specs.World.{Effect, IsHistory, OnDevices, OnStore, SetsMoment, World, effect, world, world_after}
use Rattle.model_laws.proofs.Growing.{runs_are_histories}
use Rattle.model_laws.proofs.Histories.{rows_stand_in_order}
use Rattle.model_laws.proofs.Lists.{none_some}
use Rattle.model_laws.proofs.Uids.{rises}
use Rattle.safety_law.specs.Invariant.Moves.{written_by}
use Rattle.safety_law.specs.Invariant.Writes.{EffectOf}
use Rattle.safety_law.proofs.Invariant.Effects.{effect_form}
use Rattle.settle_measure.specs.Left.Lowers.{with_devices}
use Rattle.settle_measure.specs.Left.Measure.{faults_left, left_of, work_left}
use Rattle.settle_measure.proofs.Left.Entries.{came}
use Rattle.settle_measure.proofs.Left.Faults.{calls_stay}
use Rattle.settle_measure.proofs.Upkeep.Provisions.{provision_stays}
use Rattle.worker_core.specs.Roles.{IsBuiltKind}
use Rattle.settle_pays.proofs.Pays.Calls.{calls_rise}
use Rattle.settle_progress.proofs.Epochs.Silent.{older_run}
use Rattle.settle_pays.specs.Actors.Reclaiming.{UidsFit}
use Rattle.settle_pays.proofs.Actors.Ids.{data_are_few}
use Rattle.settle_pays.proofs.Actors.Reclaiming.{own_names}
use Rattle.settle_calls.specs.Slots.Slots.{writes_since}
use Rattle.settle_round_calls.specs.Rise.Rises.{CallsRaiseLittle, EntriesRaiseLittle, SchedulersRaiseLittle, UntakenAreVolumes, erase_rise, erases_rise, most_rise, one_if_none, untaken_in}
use Rattle.settle_round_calls.proofs.Rise.Devices.{erase_costs}
use Rattle.settle_round_calls.proofs.Rise.Scheduling.{Spends, scheduler_spends}
use Rattle.settle_round_calls.proofs.Rise.Writes.{IsPlain, write_costs, writing}

-- ---- what a call comes to

-- nothing changes that is looked at, an object is written, or the devices answer
data ComesTo (w : World) (x : Effect) : Type 0 where
  Leaves : (world_after w x).store ≡ w.store → left_of (world_after w x) ≡ left_of w → ComesTo w x
  Wrote : (o : Object) → written_by x ≡ Some o → (world_after w x).store.version ≡ w.store.version + 1 → ComesTo w x
  Asked : (a : DeviceAnswer) → x ≡ OnDevices a → (world_after w x).store ≡ w.store → left_of (world_after w x) ≡ left_of (with_devices w a) → ComesTo w x

comes_to : (w : World) (x : Effect) → ComesTo w x
unfolding world_after after
comes_to w (OnStore (Says reply)) = Leaves refl refl
comes_to w (OnStore (Stores change o)) = Wrote o refl refl
comes_to w (OnStore (Removes o)) = Wrote o refl refl
comes_to w (OnDevices a) = Asked a refl refl refl
comes_to w (SetsMoment at) = Leaves refl refl

-- ---- the devices

row_allows : (kind : SeatKind) (mine : List Entry) (r : Request) → IsBuiltKind kind → Licensed kind mine r → RowAllows kind mine r
row_allows seats.User mine r built may = absurd built
row_allows seats.Binder mine r built may = may.1
row_allows seats.Ops mine r built may = may.1
row_allows seats.Scheduler mine r built may = may.1
row_allows seats.ClaimProtect mine r built may = may.1
row_allows seats.VolumeProtect mine r built may = may.1
row_allows seats.Agent mine r built may = may.1

-- the calls of node agents are of no row of another controller
abbrev AreReads : SeatKind → List ℕ → ℕ → Uid → List Uid → Type 0
AreReads kind node epoch pod claims =
    (row_of kind (requests.TakeNode node) ≡ Reads (requests.TakeNode node)) × (row_of kind (requests.Mounts node epoch) ≡ Reads (requests.Mounts node epoch))
    × (row_of kind (requests.Mount node epoch pod claims) ≡ Reads (requests.Mount node epoch pod claims)) × (row_of kind (requests.Unmount node epoch pod) ≡ Reads (requests.Unmount node epoch pod))

are_reads : (kind : SeatKind) → IsBuiltKind kind → kind ≢ seats.Agent → (node : List ℕ) (epoch : ℕ) (pod : Uid) (claims : List Uid) → AreReads kind node epoch pod claims
are_reads seats.User built agent node epoch pod claims = absurd built
are_reads seats.Binder built agent node epoch pod claims = (refl, refl, refl, refl)
are_reads seats.Ops built agent node epoch pod claims = (refl, refl, refl, refl)
are_reads seats.Scheduler built agent node epoch pod claims = (refl, refl, refl, refl)
are_reads seats.ClaimProtect built agent node epoch pod claims = (refl, refl, refl, refl)
are_reads seats.VolumeProtect built agent node epoch pod claims = (refl, refl, refl, refl)
are_reads seats.Agent built agent node epoch pod claims = absurd (agent refl)

module _ (setup : Setup) (h : List Entry) (run : IsRunOf setup h) (fit : UidsFit setup) (seat : ℕ) (kind : SeatKind) (built : IsBuiltKind kind) (agent : kind ≢ seats.Agent) where
  asked_costs : (r : Request) (a : DeviceAnswer) → Licensed kind (own seat h) r → device_answer setup (world setup h).devices r ≡ Some a
      → left_of (with_devices (world setup h) a) ≤ left_of (world setup h) + erase_rise r
  unfolding device_answer
  asked_costs (requests.Provision name provisioner bytes labels) a may e = let stays =
      provision_stays setup (world setup h) name provisioner bytes labels a (rows_stand_in_order setup h) e in omega (arith, stays)
  asked_costs (requests.Erase id) a may e = erase_costs setup (world setup h) id a (rows_stand_in_order setup h) (own_names setup h run fit) (length h) run.short (data_are_few setup h) e
  asked_costs (requests.TakeNode node) a may e =
      absurd (subst (allows kind (own seat h)) (are_reads kind built agent node 0 (uid_of_serial 0) []).0 (row_allows kind (own seat h) (requests.TakeNode node) built may))
  asked_costs (requests.Mounts node epoch) a may e =
      absurd (subst (allows kind (own seat h)) (are_reads kind built agent node epoch (uid_of_serial 0) []).1 (row_allows kind (own seat h) (requests.Mounts node epoch) built may))
  asked_costs (requests.Mount node epoch pod claims) a may e =
      absurd (subst (allows kind (own seat h)) (are_reads kind built agent node epoch pod claims).2 (row_allows kind (own seat h) (requests.Mount node epoch pod claims) built may))
  asked_costs (requests.Unmount node epoch pod) a may e =
      absurd (subst (allows kind (own seat h)) (are_reads kind built agent node epoch pod []).3 (row_allows kind (own seat h) (requests.Unmount node epoch pod) built may))
  asked_costs _ a may e = none_some e

-- a scheduler asks the devices for nothing
scheduler_asks_none : (setup : Setup) (w : World) (mine : List Entry) (r : Request) (a : DeviceAnswer) → Licensed seats.Scheduler mine r → device_answer setup w.devices r ≡ Some a → ⊥
unfolding device_answer
scheduler_asks_none setup w mine (requests.Provision name provisioner bytes labels) a may e = may.1
scheduler_asks_none setup w mine (requests.Erase id) a may e = may.1
scheduler_asks_none setup w mine (requests.TakeNode node) a may e = may.1
scheduler_asks_none setup w mine (requests.Mounts node epoch) a may e = may.1
scheduler_asks_none setup w mine (requests.Mount node epoch pod claims) a may e = may.1
scheduler_asks_none setup w mine (requests.Unmount node epoch pod) a may e = may.1
scheduler_asks_none setup w mine _ a may e = none_some e

-- ---- each write

module _ (setup : Setup) (h : List Entry) (history : IsHistory setup h) (seat : ℕ) where
  abbrev after_call : SeatKind → Request → World
  after_call kind r = world_after (world setup h) (effect setup (world setup h) kind r)

  scheduled : (r : Request) (o : Object) → Licensed seats.Scheduler (own seat h) r → written_by (effect setup (world setup h) seats.Scheduler r) ≡ Some o
      → Spends (left_of (world setup h)) (untaken_in (world setup h).store.rows) (left_of (after_call seats.Scheduler r)) (untaken_in (after_call seats.Scheduler r).store.rows)
  scheduled r o may written =
      let c = came setup (world setup h) seats.Scheduler r o (rows_stand_in_order setup h) written in
      scheduler_spends setup seat h history o (effect setup (world setup h) seats.Scheduler r) r r refl may c.write c.store

  plain_left : (kind : SeatKind) (r : Request) (o : Object) → IsPlain kind → Licensed kind (own seat h) r
      → written_by (effect setup (world setup h) kind r) ≡ Some o → left_of (after_call kind r) ≤ left_of (world setup h) + 28
  plain_left kind r o plain may written =
      let c = came setup (world setup h) kind r o (rows_stand_in_order setup h) written in
      write_costs (world setup h) (effect setup (world setup h) kind r) r o (rows_stand_in_order setup h) (writing setup seat h history o kind r plain may c.write) c.store

  write_left : (kind : SeatKind) (r : Request) (o : Object) → IsBuiltKind kind → kind ≢ seats.Agent → Licensed kind (own seat h) r
      → written_by (effect setup (world setup h) kind r) ≡ Some o → left_of (after_call kind r) ≤ left_of (world setup h) + most_rise kind
  write_left seats.User r o built agent may written = absurd built
  write_left seats.Agent r o built agent may written = absurd (agent refl)
  write_left seats.Scheduler r o built agent may written = (scheduled r o may written).rise
  write_left seats.Binder r o built agent may written = plain_left seats.Binder r o tt may written
  write_left seats.Ops r o built agent may written = plain_left seats.Ops r o tt may written
  write_left seats.ClaimProtect r o built agent may written = plain_left seats.ClaimProtect r o tt may written
  write_left seats.VolumeProtect r o built agent may written = plain_left seats.VolumeProtect r o tt may written

-- ---- each call

more : (a b p q : ℕ) → a ≤ b → a ≤ b + p + q
more a b p q le = omega (arith, le)

once : (m before now : ℕ) → now ≡ before + 1 → m * (now - before) ≡ m
once m before now e = let n : now - before ≡ 1 = omega (arith, e) in ap (λ x. m * x) n ∙ (omega arith)

with_faults : (left faults left_after faults_after p q : ℕ) → left_after ≤ left + p + q → faults_after ≤ faults → left_after + faults_after ≤ left + faults + p + q
with_faults left faults left_after faults_after p q le less = omega (arith, le, less)

plus_less : (now left most whole q : ℕ) → now ≤ left + most → whole ≡ most → now ≤ left + whole + q
plus_less now left most whole q le all = omega (arith, le, all)

erased : (now on left p q : ℕ) → now ≡ on → on ≤ left + q → now ≤ left + p + q
erased now on left p q same le = omega (arith, same, le)

pub faults_stay : (setup : Setup) (w : World) (kind : SeatKind) (r : Request) → faults_left setup (world_after w (effect setup w kind r)).devices ≤ faults_left setup w.devices
faults_stay setup w kind r = calls_stay setup w.devices (world_after w (effect setup w kind r)).devices (calls_rise setup w kind r)

pub calls_raise_little : CallsRaiseLittle
calls_raise_little setup e h allow built agent run =
    with_faults (left_of (world setup h)) (faults_left setup (world setup h).devices) (left_of (world setup (e ∷ h)))
    (faults_left setup (world setup (e ∷ h)).devices) (most_rise e.kind * writes_since setup h (e ∷ h)) (erase_rise e.request)
    (by (comes_to (world setup h) (effect setup (world setup h) e.kind e.request))) (faults_stay setup (world setup h) e.kind e.request)
  where
    here : IsRunOf setup h
    here = older_run setup (e ∷ []) h run

    may : Licensed e.kind (own e.seat h) e.request
    may = run.run.2

    by : ComesTo (world setup h) (effect setup (world setup h) e.kind e.request)
        → left_of (world setup (e ∷ h)) ≤ left_of (world setup h) + most_rise e.kind * writes_since setup h (e ∷ h) + erase_rise e.request
    by (Leaves store left) = more _ _ _ _ (let same = left in omega (arith, same))
    by (Wrote o written version) =
        let less = write_left setup h (runs_are_histories setup h here.run) e.seat e.kind e.request o built agent may written in
        let all = once (most_rise e.kind) (world setup h).store.version (world setup (e ∷ h)).store.version version in
        plus_less (left_of (world setup (e ∷ h))) (left_of (world setup h)) (most_rise e.kind) (most_rise e.kind * writes_since setup h (e ∷ h)) (erase_rise e.request) less all
    by (Asked a is store left) =
        let form = subst (EffectOf setup (world setup h) e.kind e.request) is (effect_form setup (world setup h) e.kind e.request (rows_stand_in_order setup h)) in
        let costs = asked_costs setup h here allow.uids e.seat e.kind built agent e.request a may form.1 in
        erased (left_of (world setup (e ∷ h))) (left_of (with_devices (world setup h) a)) (left_of (world setup h)) (most_rise e.kind * writes_since setup h (e ∷ h)) (erase_rise e.request) left costs

-- ---- entries

-- writes of one kind join
join : (kind : SeatKind) (a b c : ℕ) → a ≤ b → b ≤ c → most_rise kind * (b - a) + most_rise kind * (c - b) ≡ most_rise kind * (c - a)
join seats.User a b c low high = omega (arith, low, high)
join seats.Binder a b c low high = omega (arith, low, high)
join seats.Ops a b c low high = omega (arith, low, high)
join seats.Scheduler a b c low high = omega (arith, low, high)
join seats.ClaimProtect a b c low high = omega (arith, low, high)
join seats.VolumeProtect a b c low high = omega (arith, low, high)
join seats.Agent a b c low high = omega (arith, low, high)

then_more : (first middle last p q r x y : ℕ) → middle ≤ first + p + y → last ≤ middle + q + x → p + q ≡ r → last ≤ first + r + (x + y)
then_more first middle last p q r x y low high sum = omega (arith, low, high, sum)

pub entries_raise_little : EntriesRaiseLittle
entries_raise_little setup kind [] h allow built agent each run = more _ _ _ _ (omega arith)
entries_raise_little setup kind (e ∷ newer) h allow built agent each run =
    then_more (work_left setup (world setup h)) (work_left setup (world setup (newer ++ h))) (work_left setup (world setup (e ∷ newer ++ h)))
    (most_rise kind * writes_since setup h (newer ++ h)) (most_rise kind * writes_since setup (newer ++ h) (e ∷ newer ++ h))
    (most_rise kind * writes_since setup h (e ∷ newer ++ h)) (erase_rise e.request) (erases_rise newer)
    (entries_raise_little setup kind newer h allow built agent each.1 (older_run setup (e ∷ []) (newer ++ h) run))
    (subst (λ k. work_left setup (world setup (e ∷ newer ++ h)) ≤ work_left setup (world setup (newer ++ h)) + most_rise k * writes_since setup
    (newer ++ h) (e ∷ newer ++ h) + erase_rise e.request) each.0
    (calls_raise_little setup e (newer ++ h) allow (subst IsBuiltKind (sym each.0) built) (λ is. agent (sym each.0 ∙ is)) run))
    (join kind (world setup h).store.version (world setup (newer ++ h)).store.version (world setup (e ∷ newer ++ h)).store.version (rises setup newer h) (rises setup (e ∷ []) (newer ++ h)))

-- ---- schedulers

scheduler_call : (setup : Setup) (h : List Entry) (seat : ℕ) (r : Request) → IsHistory setup h → Licensed seats.Scheduler (own seat h) r
    → left_of (world_after (world setup h) (effect setup (world setup h) seats.Scheduler r)) + 3 * untaken_in
    (world_after (world setup h) (effect setup (world setup h) seats.Scheduler r)).store.rows ≤ left_of (world setup h) + 3 * untaken_in (world setup h).store.rows
scheduler_call setup h seat r history may = by (comes_to (world setup h) (effect setup (world setup h) seats.Scheduler r))
  where
    by : ComesTo (world setup h) (effect setup (world setup h) seats.Scheduler r)
        → left_of (world_after (world setup h) (effect setup (world setup h) seats.Scheduler r)) + 3 * untaken_in
        (world_after (world setup h) (effect setup (world setup h) seats.Scheduler r)).store.rows ≤ left_of (world setup h) + 3 * untaken_in (world setup h).store.rows
    by (Leaves store left) = let same = ap (λ s. untaken_in s.rows) store in omega (arith, left, same)
    by (Wrote o written version) = (scheduled setup h history seat r o may written).paid
    by (Asked a is store left) = absurd (scheduler_asks_none setup (world setup h) (own seat h) r a may
        (subst (EffectOf setup (world setup h) seats.Scheduler r) is (effect_form setup (world setup h) seats.Scheduler r (rows_stand_in_order setup h))).1)

pub schedulers_raise_little : SchedulersRaiseLittle
schedulers_raise_little setup [] h each run = omega arith
schedulers_raise_little setup (e ∷ newer) h each run =
    let before = older_run setup (e ∷ []) (newer ++ h) run in
    let rest = schedulers_raise_little setup newer h each.1 before in
    let may : Licensed seats.Scheduler (own e.seat (newer ++ h)) e.request = subst (λ k. Licensed k (own e.seat (newer ++ h)) e.request) each.0 run.run.2 in
    let now : left_of (world setup (e ∷ newer ++ h)) + 3 * untaken_in (world setup (e ∷ newer ++ h)).store.rows ≤ left_of
    (world setup (newer ++ h)) + 3 * untaken_in (world setup (newer ++ h)).store.rows =
    subst (λ k. left_of (world_after (world setup (newer ++ h)) (effect setup (world setup (newer ++ h)) k e.request)) + 3 * untaken_in
    (world_after (world setup (newer ++ h)) (effect setup (world setup (newer ++ h)) k e.request)).store.rows
    ≤ left_of (world setup (newer ++ h)) + 3 * untaken_in (world setup (newer ++ h)).store.rows) (sym each.0)
    (scheduler_call setup (newer ++ h) e.seat e.request (runs_are_histories setup (newer ++ h) before.run) may) in
    let faults = faults_stay setup (world setup (newer ++ h)) e.kind e.request in
    omega (arith, rest, now, faults)

-- ---- volumes that carry no claim

pub untaken_are_volumes : UntakenAreVolumes
untaken_are_volumes [] = omega arith
untaken_are_volumes (Class x ∷ os) = let rest = untaken_are_volumes os in omega (arith, rest)
untaken_are_volumes (Node x ∷ os) = let rest = untaken_are_volumes os in omega (arith, rest)
untaken_are_volumes (Volume v ∷ os) = let rest = untaken_are_volumes os in let few = by (ref_uid v.claim_ref) in omega (arith, rest, few)
  where
    by : (u : Option Uid) → one_if_none u ≤ 1
    by None = omega arith
    by (Some uid) = omega arith
untaken_are_volumes (Claim x ∷ os) = let rest = untaken_are_volumes os in omega (arith, rest)
untaken_are_volumes (Pod x ∷ os) = let rest = untaken_are_volumes os in omega (arith, rest)
