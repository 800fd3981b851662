-- An agent acts on a pod whose claims are all ready: it reads each claim and its volume, and mounts the pod.
use Rattle.std.proofs.Common.{◌≡◌, ◌∙◌, ℕ, List, [], ◌∷◌, ◌++◌, Bool, true, false, true≢false, Option, Some, None, refl, sym, ap, subst, length, inl, inr}
use Rattle.std.specs.Prelude.{◌&&◌, ◌||◌, bytes_eq, map, not, slice_get, ⊤}
use Rattle.std.specs.List.{list_all}
use Rattle.std.proofs.lemmas.Bool.{and_parts, or_parts}
use Rattle.std.proofs.lemmas.Slice.Eq.{bytes_eq-Decides}
use Rattle.kube_objects.specs.declared.key.Key.{Key}
use Rattle.kube_parts.specs.declared.names.Due.TheVariants as dues
use Rattle.kube_parts.specs.declared.uid.Uid.{Uid}
use Rattle.kube_objects.specs.declared.objects.Claim.{Claim as ClaimData}
use Rattle.kube_objects.specs.declared.objects.Pod.{Pod as PodData}
use Rattle.kube_objects.specs.declared.objects.Ref.{Ref}
use Rattle.kube_objects.specs.declared.objects.Volume.{Volume as VolumeData}
use Rattle.kube_objects.specs.declared.objects.Object.{Object}
use Rattle.kube_objects.specs.declared.objects.Object.TheVariants.{Class, Node, Volume, Claim, Pod}
use Rattle.kube_objects.specs.Bindings.{carries, has_name, is_completed, is_deleting, is_protected_claim, names_claim, refers_carrying, uid_carries}
use Rattle.kube_objects.specs.Keys.{row_at}
use Rattle.kube_objects.proofs.KeyOrder.{row_at_key}
use Rattle.call_types.specs.declared.entry.Entry.{Entry}
use Rattle.call_types.specs.declared.reply.Reply.TheVariants.{Found}
use Rattle.call_types.specs.declared.request.Request.{Request}
use Rattle.call_types.specs.declared.request.Request.TheVariants as requests
use Rattle.call_types.specs.declared.request.SeatKind.TheVariants as seats
use Rattle.call_types.specs.declared.setup.Setup.{Setup}
use Rattle.binder_model.specs.BindWrites.{is_claim_bound}
use Rattle.binder_model.specs.Choice.{claim_in, claim_named}
use Rattle.binder_model.specs.Devices.{is_mounted_on}
use Rattle.binder_model.specs.Due.{carried_by, is_pod_uid_mounted, is_ready}
use Rattle.binder_model.specs.Fields.{has_twice}
use Rattle.binder_model.specs.Imports.{ImportsPass}
use Rattle.binder_model.specs.ObjectKeys.{claim_key, volume_key}
use Rattle.binder_model.specs.World.{World, effect, reply_to, world}
use Rattle.node_agent.specs.declared.agent.AgentOp.{AgentOp}
use Rattle.node_agent.specs.declared.step.AgentStep.{AgentStep}
use Rattle.node_agent.specs.declared.step.AgentStep.TheVariants as steps
use Rattle.node_agent.specs.declared.step.ReadyClaim.{ReadyClaim}
use Rattle.node_agent.specs.Agents.{agent_call, agent_moved, is_agent_ready, is_claim_read, is_volume_read, next_step, step_for, uids_of}
use Rattle.worker_core.specs.declared.task.First.{First}
use Rattle.worker_core.specs.declared.task.First.TheVariants as firsts
use Rattle.worker_core.specs.declared.task.Task.TheVariants as tasks
use Rattle.worker_core.specs.declared.task.Under.{Under}
use Rattle.worker_core.specs.Tasks.{under_after, with_call}
use Rattle.actor_rounds.specs.Drainers.{agent_of}
use Rattle.settle_writes.specs.Writes.Lasting.{Lasts}
use Rattle.settle_writes.proofs.Writes.Valid.{rows_are_valid}
use Rattle.settle_writes.proofs.Writes.Pods.{claims_once}
use Rattle.settle_alike.specs.Alike.Alike.{AreAlike}
use Rattle.settle_slot.specs.Slot.Slots.{own_entry}
use Rattle.settle_slot.specs.Slot.Would.{AtOnce, Later, WouldLast}
use Rattle.settle_due.proofs.Upkeep.Deciding.{DecisionLasts, volume_in}
use Rattle.settle_due.proofs.Upkeep.Known.{rows_known}
use Rattle.settle_due.proofs.Upkeep.Reclaims.{HasUid, has_uid}
use Rattle.settle_due.proofs.Upkeep.Volumes.{get_said, get_stays, got}
use Rattle.settle_progress.specs.Agents.Acts.{AgentWouldActOn, AgentsAct, MountsAct}
use Rattle.settle_progress.proofs.Agents.Finishing.{finishes_act}
use Rattle.settle_progress.proofs.Agents.Lasting.{mount_lasts}
use Rattle.settle_progress.proofs.Agents.Points.{IsDecided, IsMountDue, agent_acts_each, decided_so, mount_due, mount_or_finish}

-- a claim that a pod may use, as it stands

record IsReadyClaim (rows : List Object) (namespace name : List ℕ) : Type 0 where
  claim : ClaimData
  there : row_at (claim_key namespace name) rows ≡ Some (Claim claim)
  ready : is_agent_ready claim ≡ true
  volume : VolumeData
  volume_there : row_at (volume_key claim.volume_name) rows ≡ Some (Volume volume)
  carried : carries volume claim ≡ true

record IsCarriedBy (c : ClaimData) (x : Option Object) : Type 0 where
  volume : VolumeData
  is : x ≡ Some (Volume volume)
  carried : carries volume c ≡ true

carried_so : (c : ClaimData) (x : Option Object) → carried_by c x ≡ true → IsCarriedBy c x
carried_so c (Some (Volume v)) e = record { volume = v; is = refl; carried = e }
carried_so c None e = absurd (true≢false (sym e))
carried_so c (Some (Class x)) e = absurd (true≢false (sym e))
carried_so c (Some (Node x)) e = absurd (true≢false (sym e))
carried_so c (Some (Claim x)) e = absurd (true≢false (sym e))
carried_so c (Some (Pod x)) e = absurd (true≢false (sym e))

ready_so : (rows : List Object) (namespace name : List ℕ) → is_ready rows (claim_named rows namespace name) ≡ true → IsReadyClaim rows namespace name
ready_so rows namespace name e = by (row_at (claim_key namespace name) rows) refl e
  where
    split : (a b c d f : Bool) → (a && b && c && d && f) ≡ true → ((a && b && c && d) ≡ true) × (f ≡ true)
    split true true true true f g = (refl, g)
    split true true true false f g = absurd (true≢false (sym g))
    split true true false d f g = absurd (true≢false (sym g))
    split true false c d f g = absurd (true≢false (sym g))
    split false b c d f g = absurd (true≢false (sym g))

    by : (x : Option Object) → row_at (claim_key namespace name) rows ≡ x → is_ready rows (claim_in x) ≡ true → IsReadyClaim rows namespace name
    by (Some (Claim c)) there f =
        let parts = split (not (is_deleting c.meta)) (is_protected_claim c) (is_completed c) (is_claim_bound c.phase) (carried_by c (row_at (volume_key c.volume_name) rows)) f in
        let v = carried_so c (row_at (volume_key c.volume_name) rows) parts.1 in
        record { claim = c; there = there; ready = parts.0; volume = v.volume; volume_there = v.is; carried = v.carried }
    by None there f = absurd (true≢false (sym f))
    by (Some (Class x)) there f = absurd (true≢false (sym f))
    by (Some (Node x)) there f = absurd (true≢false (sym f))
    by (Some (Volume x)) there f = absurd (true≢false (sym f))
    by (Some (Pod x)) there f = absurd (true≢false (sym f))

-- a volume carries claims of one name

names_of : (x : Option Ref) (c : ClaimData) → refers_carrying x c ≡ true → (r : Ref) → x ≡ Some r → r.name ≡ c.meta.name
names_of x c e r is =
    let all : (names_claim r c && uid_carries r.uid c) ≡ true = ap (λ y. refers_carrying y c) (sym is) ∙ e in
    let named = and_parts (bytes_eq r.namespace c.meta.namespace) (bytes_eq r.name c.meta.name) (and_parts (names_claim r c) (uid_carries r.uid c) all).0 in
    (bytes_eq-Decides r.name c.meta.name).0 named.1

one_name : (v : VolumeData) (a b : ClaimData) → carries v a ≡ true → carries v b ≡ true → a.meta.name ≡ b.meta.name
one_name v a b ea eb = by v.claim_ref refl
  where
    by : (x : Option Ref) → v.claim_ref ≡ x → a.meta.name ≡ b.meta.name
    by None is = absurd (true≢false (sym (ap (λ y. refers_carrying y a) (sym is) ∙ ea)))
    by (Some r) is = sym (names_of v.claim_ref a ea r is) ∙ names_of v.claim_ref b eb r is

-- claims that have one volume have one name
same_volume : (rows : List Object) (namespace a b : List ℕ) (x : IsReadyClaim rows namespace a) (y : IsReadyClaim rows namespace b) → x.claim.volume_name ≡ y.claim.volume_name → a ≡ b
same_volume rows namespace a b x y same =
    let volumes : x.volume ≡ y.volume = ap (volume_in x.volume) (sym x.volume_there ∙ (ap (λ n. row_at (volume_key n) rows) same ∙ y.volume_there)) in
    let names = one_name y.volume x.claim y.claim (subst (λ v. carries v x.claim ≡ true) volumes x.carried) y.carried in
    let left : x.claim.meta.name ≡ a = ap (λ (k : Key). k.name) (row_at_key (claim_key namespace a) (Claim x.claim) rows x.there) in
    let right : y.claim.meta.name ≡ b = ap (λ (k : Key). k.name) (row_at_key (claim_key namespace b) (Claim y.claim) rows y.there) in
    sym left ∙ (names ∙ right)

-- the claims that were counted, and the names that are left

abbrev names_in : List ReadyClaim → List (List ℕ)
names_in ready = map (λ r. r.claim) ready

abbrev AreCounted : List Object → List ℕ → List ReadyClaim → Type 0
AreCounted rows namespace [] = ⊤
AreCounted rows namespace (r ∷ ready) = ((x : IsReadyClaim rows namespace r.claim) × (x.claim.volume_name ≡ r.volume)) × AreCounted rows namespace ready

counted_more : (rows : List Object) (namespace : List ℕ) (ready : List ReadyClaim) (r : ReadyClaim) → AreCounted rows namespace ready
    → (x : IsReadyClaim rows namespace r.claim) → x.claim.volume_name ≡ r.volume → AreCounted rows namespace (ready ++ r ∷ [])
counted_more rows namespace [] r all x of = ((x, of), tt)
counted_more rows namespace (y ∷ ready) r all x of = (all.0, counted_more rows namespace ready r all.1 x of)

pub names_more : (ready : List ReadyClaim) (r : ReadyClaim) (names : List (List ℕ)) → names_in ready ++ (r.claim ∷ names) ≡ names_in (ready ++ r ∷ []) ++ names
names_more [] r names = refl
names_more (y ∷ ready) r names = ap (λ ns. y.claim ∷ ns) (names_more ready r names)

pub next_name : (ready : List ReadyClaim) (names : List (List ℕ)) → slice_get (names_in ready ++ names) (length ready) ≡ slice_get names 0
next_name [] names = refl
next_name (r ∷ ready) names = next_name ready names

in_name : (n : List ℕ) (xs ys : List (List ℕ)) → has_name n (xs ++ n ∷ ys) ≡ true
in_name n [] ys = let itself : bytes_eq n n ≡ true = (bytes_eq-Decides n n).1 refl in rw itself refl
in_name n (x ∷ xs) ys = by (bytes_eq x n) (in_name n xs ys)
  where
    by : (b : Bool) → has_name n (xs ++ n ∷ ys) ≡ true → (b || has_name n (xs ++ n ∷ ys)) ≡ true
    by true e = refl
    by false e = e

-- the next name was not counted yet
unread : (ready : List ReadyClaim) (name : List ℕ) (names : List (List ℕ)) → has_twice (names_in ready ++ name ∷ names) ≡ false → is_claim_read name ready ≡ false
unread [] name names once = refl
unread (r ∷ ready) name names once = by (bytes_eq r.claim name) refl (unread ready name names parts.1)
  where
    parts : (has_name r.claim (names_in ready ++ name ∷ names) ≡ false) × (has_twice (names_in ready ++ name ∷ names) ≡ false)
    parts = or_parts (has_name r.claim (names_in ready ++ name ∷ names)) (has_twice (names_in ready ++ name ∷ names)) once

    by : (b : Bool) → bytes_eq r.claim name ≡ b → is_claim_read name ready ≡ false → (b || is_claim_read name ready) ≡ false
    by true e rest =
        let same : r.claim ≡ name = (bytes_eq-Decides r.claim name).0 e in
        absurd (true≢false (sym (ap (λ n. has_name n (names_in ready ++ name ∷ names)) same ∙ in_name name (names_in ready) names) ∙ parts.0))
    by false e rest = rest

-- nor was its volume
unshared : (rows : List Object) (namespace name : List ℕ) (x : IsReadyClaim rows namespace name) (ready : List ReadyClaim)
    → AreCounted rows namespace ready → is_claim_read name ready ≡ false → is_volume_read x.claim.volume_name ready ≡ false
unshared rows namespace name x [] all none = refl
unshared rows namespace name x (r ∷ ready) all none = by (bytes_eq r.volume x.claim.volume_name) refl (unshared rows namespace name x ready all.1 parts.1)
  where
    parts : (bytes_eq r.claim name ≡ false) × (is_claim_read name ready ≡ false)
    parts = or_parts (bytes_eq r.claim name) (is_claim_read name ready) none

    by : (b : Bool) → bytes_eq r.volume x.claim.volume_name ≡ b → is_volume_read x.claim.volume_name ready ≡ false → (b || is_volume_read x.claim.volume_name ready) ≡ false
    by true e rest =
        let same : r.claim ≡ name = same_volume rows namespace r.claim name all.0.0 x (all.0.1 ∙ (bytes_eq-Decides r.volume x.claim.volume_name).0 e) in
        absurd (true≢false (sym ((bytes_eq-Decides r.claim name).1 same) ∙ parts.0))
    by false e rest = rest

abbrev step_at : List (List ℕ) → AgentStep
step_at [] = steps.MountsPod
step_at (name ∷ names) = steps.ReadsClaim name

-- the step for what is left
step_is : (p : PodData) (ready : List ReadyClaim) (names : List (List ℕ)) → p.claims ≡ names_in ready ++ names → has_twice (names_in ready ++ names) ≡ false → step_for p ready ≡ step_at names
step_is p ready names split once = ap (next_step ready) (ap (λ ns. slice_get ns (length ready)) split ∙ next_name ready names) ∙ by names once
  where
    by : (ns : List (List ℕ)) → has_twice (names_in ready ++ ns) ≡ false → next_step ready (slice_get ns 0) ≡ step_at ns
    by [] e = refl
    by (name ∷ more) e = rw (unread ready name more e) refl

module _ (setup : Setup) (seat : ℕ) (node : List ℕ) (start : List Entry) (key : Key) (pass : ImportsPass setup.imports) (h : List Entry)
    (alike : AreAlike (world setup start) (world setup h)) (first : First)
    (d : IsDecided setup node key h dues.Mount first) where
  due : IsMountDue (world setup h) d.pod
  due = mount_due (world setup h) d.pod d.due

  unmounted : is_mounted_on node d.uid (world setup h).devices.mounts ≡ false
  unmounted = (λ i. is_pod_uid_mounted (world setup h).devices ((sym d.placed) i) ((sym d.known) i)) ∙ due.unmounted

  once : has_twice d.pod.claims ≡ false
  once = claims_once d.pod (rows_are_valid setup h pass key (Pod d.pod) d.there)

  abbrev op_at : List ReadyClaim → AgentStep → AgentOp
  op_at ready step = record { node = node; epoch = d.epoch; pod = d.pod; uid = d.uid; ready = ready; step = step }

  abbrev call_at : List ReadyClaim → List (List ℕ) → Request
  call_at ready [] = requests.Mount node d.epoch d.uid (uids_of ready)
  call_at ready (name ∷ names) = requests.Get (claim_key d.pod.meta.namespace name)

  abbrev under_at : List ReadyClaim → List (List ℕ) → Under
  under_at ready names = record { key = key; task = tasks.Agent (op_at ready (step_at names)); call = call_at ready names }

  asks : (ready : List ReadyClaim) (names : List (List ℕ)) → agent_call (op_at ready (step_at names)) ≡ Some (call_at ready names)
  unfolding agent_call
  asks ready [] = refl
  asks ready (name ∷ names) = refl

  -- a claim, and then its volume, are read
  abbrev volume_under : List ReadyClaim → List ℕ → ClaimData → Under
  volume_under ready name c = record { key = key; task = tasks.Agent (op_at ready (steps.ReadsVolume name c)); call = requests.Get (volume_key c.volume_name) }

  claim_read : (ready : List ReadyClaim) (name : List ℕ) (names : List (List ℕ)) (c : ClaimData) → is_agent_ready c ≡ true
      → is_volume_read c.volume_name ready ≡ false → under_after (under_at ready (name ∷ names)) (Found (Claim c)) ≡ Some (volume_under ready name c)
  unfolding agent_call agent_moved
  claim_read ready name names c is none = rw (is, none) refl

  volume_read : (ready : List ReadyClaim) (name : List ℕ) (names : List (List ℕ)) (c : ClaimData) (v : VolumeData) (uid : Uid) → carries v c ≡ true → c.meta.uid ≡ Some uid
      → step_for d.pod (ready ++ record { claim = name; uid = uid; volume = c.volume_name } ∷ []) ≡ step_at names
      → under_after (volume_under ready name c) (Found (Volume v)) ≡ Some (under_at (ready ++ record { claim = name; uid = uid; volume = c.volume_name } ∷ []) names)
  unfolding agent_moved
  volume_read ready name names c v uid carried known step =
      rw (carried, known) (ap (λ st. with_call key
      (tasks.Agent (op_at (ready ++ record { claim = name; uid = uid; volume = c.volume_name } ∷ []) st))
      (agent_call (op_at (ready ++ record { claim = name; uid = uid; volume = c.volume_name } ∷ []) st))) step
      ∙ ap (with_call key (tasks.Agent (op_at (ready ++ record { claim = name; uid = uid; volume = c.volume_name } ∷ []) (step_at names))))
      (asks (ready ++ record { claim = name; uid = uid; volume = c.volume_name } ∷ []) names))

  will : (names : List (List ℕ)) (ready : List ReadyClaim) (now : List Entry) → world setup now ≡ world setup h
      → d.pod.claims ≡ names_in ready ++ names → AreCounted (world setup h).store.rows d.pod.meta.namespace ready
      → list_all (λ name. is_ready (world setup h).store.rows (claim_named (world setup h).store.rows d.pod.meta.namespace name)) names ≡ true
      → WouldLast setup seat seats.Agent start now (under_at ready names)
  will [] ready now same split counted readies =
      AtOnce (subst (AreAlike (world setup start)) (sym same) alike)
      (subst (λ w. Lasts setup w seats.Agent (requests.Mount node d.epoch d.uid (uids_of ready))) (sym same)
      (mount_lasts setup (world setup h) seats.Agent node d.epoch d.uid (uids_of ready) refl d.current unmounted))
  will (name ∷ names) ready now same split counted readies =
      Later still (volume_under ready name x.claim) first_read
      (Later (subst (AreAlike (world setup start)) (sym same_claim) alike) (under_at (ready ++ counted_claim ∷ []) names) second_read
      (will names (ready ++ counted_claim ∷ []) h_volume same_volume_read (split ∙ names_more ready counted_claim names)
      (counted_more (world setup h).store.rows d.pod.meta.namespace ready counted_claim counted x refl) parts.1))
    where
      still : AreAlike (world setup start) (world setup now)
      still = subst (AreAlike (world setup start)) (sym same) alike

      parts : (is_ready (world setup h).store.rows (claim_named (world setup h).store.rows d.pod.meta.namespace name) ≡ true)
          × (list_all (λ n. is_ready (world setup h).store.rows (claim_named (world setup h).store.rows d.pod.meta.namespace n)) names ≡ true)
      parts =
          and_parts (is_ready (world setup h).store.rows (claim_named (world setup h).store.rows d.pod.meta.namespace name))
          (list_all (λ n. is_ready (world setup h).store.rows (claim_named (world setup h).store.rows d.pod.meta.namespace n)) names) readies

      x : IsReadyClaim (world setup h).store.rows d.pod.meta.namespace name
      x = ready_so (world setup h).store.rows d.pod.meta.namespace name parts.0

      known : HasUid x.claim.meta.uid
      known = has_uid x.claim.meta.uid (rows_known setup h pass (claim_key d.pod.meta.namespace name) (Claim x.claim) x.there)

      counted_claim : ReadyClaim
      counted_claim = record { claim = name; uid = known.uid; volume = x.claim.volume_name }

      once_here : has_twice (names_in ready ++ name ∷ names) ≡ false
      once_here = ap has_twice (sym split) ∙ once

      none : is_volume_read x.claim.volume_name ready ≡ false
      none = unshared (world setup h).store.rows d.pod.meta.namespace name x ready counted (unread ready name names once_here)

      step : step_for d.pod (ready ++ record { claim = name; uid = known.uid; volume = x.claim.volume_name } ∷ []) ≡ step_at names
      step =
          step_is d.pod (ready ++ counted_claim ∷ []) names (split ∙ names_more ready counted_claim names) (ap has_twice (sym (names_more ready counted_claim names)) ∙ once_here)

      h_claim : List Entry
      h_claim = own_entry setup seat seats.Agent now (requests.Get (claim_key d.pod.meta.namespace name)) ∷ now

      same_claim : world setup h_claim ≡ world setup h
      same_claim = get_stays setup (world setup now) seats.Agent (claim_key d.pod.meta.namespace name) ∙ same

      h_volume : List Entry
      h_volume = own_entry setup seat seats.Agent h_claim (requests.Get (volume_key x.claim.volume_name)) ∷ h_claim

      same_volume_read : world setup h_volume ≡ world setup h
      same_volume_read = get_stays setup (world setup h_claim) seats.Agent (volume_key x.claim.volume_name) ∙ same_claim

      said : (now_ : List Entry) → world setup now_ ≡ world setup h → (k : Key) (o : Object) → row_at k (world setup h).store.rows ≡ Some o
          → reply_to (effect setup (world setup now_) seats.Agent (requests.Get k)) ≡ Found o
      said now_ s k o there = get_said setup (world setup now_) seats.Agent k ∙ ap got (ap (λ (w : World). row_at k w.store.rows) s ∙ there)

      first_read : under_after (under_at ready (name ∷ names))
          (reply_to (effect setup (world setup now) seats.Agent (requests.Get (claim_key d.pod.meta.namespace name)))) ≡ Some (volume_under ready name x.claim)
      first_read = ap (under_after (under_at ready (name ∷ names))) (said now same (claim_key d.pod.meta.namespace name) (Claim x.claim) x.there) ∙ claim_read ready name names x.claim x.ready none

      second_read : under_after (volume_under ready name x.claim)
          (reply_to (effect setup (world setup h_claim) seats.Agent (requests.Get (volume_key x.claim.volume_name)))) ≡ Some (under_at (ready ++ counted_claim ∷ []) names)
      second_read =
          ap (under_after (volume_under ready name x.claim)) (said h_claim same_claim (volume_key x.claim.volume_name) (Volume x.volume) x.volume_there)
          ∙ volume_read ready name names x.claim x.volume known.uid x.carried known.is step

  begins : first ≡ firsts.Begins (tasks.Agent (op_at [] (step_at d.pod.claims)))
  begins =
      d.is
      ∙ (rw (due.staying, d.unremembered due.staying due.unmounted) refl
      ∙ ap (λ st. firsts.Begins (tasks.Agent (op_at [] st))) (step_is d.pod [] d.pod.claims refl once))

  pub lasts : DecisionLasts setup seat (agent_of node) start key h first
  lasts = record {
    task = tasks.Agent (op_at [] (step_at d.pod.claims));
    call = call_at [] d.pod.claims;
    is = begins;
    asks = asks [] d.pod.claims;
    will = will d.pod.claims [] h refl refl tt due.ready;
  }

pub mounts_act : MountsAct
mounts_act setup seat role start key p pass is there scheduled due =
    subst (λ r. AgentWouldActOn setup seat r start key) (sym is)
    (agent_acts_each setup seat (agent_of p.node) start key
    (λ s h point holding first d. lasts setup seat p.node start key pass h point.alike first
    (decided_so setup seat p.node start key p pass refl there scheduled s h point holding dues.Mount due first d)))

pub agents_act : AgentsAct
agents_act setup seat role start key p action pass is there scheduled due = elim (mount_or_finish (world setup start) p action due) [
  | inl mount ↦ mounts_act setup seat role start key p pass is there scheduled mount
  | inr finish ↦ finishes_act setup seat role start key p pass is there scheduled finish
]
