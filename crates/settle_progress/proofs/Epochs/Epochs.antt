-- The epoch of a node stays once its agent took it.
use Rattle.std.proofs.Common.{◌≡◌, ◌∙◌, ◌⊎◌, ℕ, ◌-◌, suc, List, [], ◌∷◌, ◌++◌, Bool, true, false, true≢false, Option, Some, None, inl, inr, refl, sym, ap, subst, if◌then◌else◌}
use Rattle.std.specs.Prelude.{bytes_eq, is_some, option_map, slice_get}
use Rattle.std.proofs.lemmas.Slice.Eq.{bytes_eq-Decides}
use Rattle.call_types.specs.declared.entry.Entry.{Entry}
use Rattle.call_types.specs.declared.reply.Reply.{Reply}
use Rattle.call_types.specs.declared.reply.Reply.TheVariants as replies
use Rattle.call_types.specs.declared.request.Request.{Request}
use Rattle.call_types.specs.declared.request.Request.TheVariants as requests
use Rattle.call_types.specs.declared.request.SeatKind.{SeatKind}
use Rattle.call_types.specs.declared.request.SeatKind.TheVariants as seats
use Rattle.call_types.specs.declared.setup.Setup.{Setup}
use Rattle.binder_model.specs.AgentLicence.{epoch_in, epoch_told, last_epoch}
use Rattle.binder_model.specs.Answers.{is_user, reply_of}
use Rattle.binder_model.specs.Devices.{device_answer, epoch_of, take_node}
use Rattle.binder_model.specs.Licence.{Licensed}
use Rattle.binder_model.specs.Told.{first_some, own}
use Rattle.binder_model.specs.World.{IsHistory, OnDevices, World, effect, on_devices, refused_rule, reply_to, world, world_after}
use Rattle.informer_cache.specs.All.{cache_of}
use Rattle.informer_cache.specs.Cache.{ask_of}
use Rattle.model_laws.proofs.Evidence.{own_mine}
use Rattle.model_laws.proofs.Lists.{none_some, one}
use Rattle.node_agent.specs.HistoryLaw.{is_take_of}
use Rattle.safety_law.specs.Invariant.Holders.{epoch_now}
use Rattle.safety_law.proofs.Invariant.DeviceMoves.{device_moves}
use Rattle.attention_law.proofs.Turned.{calls_fresh}
use Rattle.safety_law.proofs.Invariant.Holders.{Others, Own, OwnStep, own_step}
use Rattle.worker_core.specs.declared.role.Role.{Role}
use Rattle.worker_core.specs.declared.task.Task.{Task}
use Rattle.worker_core.specs.declared.task.Under.{Under}
use Rattle.worker_core.specs.declared.turn.Given.{Given}
use Rattle.worker_core.specs.declared.turn.Given.TheVariants as givens
use Rattle.worker_core.specs.declared.turn.Next.TheVariants.{Call}
use Rattle.worker_core.specs.declared.turn.Outcome.TheVariants.{Lost, Told}
use Rattle.worker_core.specs.Absorbs.{woken}
use Rattle.worker_core.specs.Memories.{Memory, memory_of}
use Rattle.worker_core.specs.Roles.{IsBuiltKind}
use Rattle.worker_core.specs.Stands.{AnyIsUnderWay, StandsFor}
use Rattle.worker_core.specs.States.{ActorState, agent_start, asked, call_under, given_call, start_of}
use Rattle.worker_core.proofs.Answered.{answer_licensed, gives_asked}
use Rattle.worker_core.proofs.ByKind.{epoch_stands}
use Rattle.worker_core.proofs.Machines.{keeps_under}
use Rattle.worker_core.proofs.Owning.{stood}
use Rattle.worker_core.proofs.Turning.{turn_stands}
use Rattle.actor_rounds.specs.declared.drainers.Drainer.{Drainer}
use Rattle.actor_rounds.specs.Drainers.{agent_of, roles_of}
use Rattle.actor_rounds.specs.Rounds.{Asks, Ends, IsHeld, IsIdle, IsRound, IsSpent, Lets, Runs, Turns, told_entry}
use Rattle.actor_rounds.proofs.RoundFacts.{AreBuilt, round_grows, roles_built}
use Rattle.actor_rounds.proofs.RunFacts.{run_grows, still_role}
use Rattle.worker_core.proofs.Answered.{turn_role}
use Rattle.settle_slot.proofs.Slot.Slots.{older, run_older}
use Rattle.settle_progress.specs.Epochs.Epochs.{AgentsTakeTheirOwn, EpochsStay, IsCurrent, RoundsKeepEpochs, TakesNoMore}
use Rattle.worker_core.proofs.Starts.{task_takes_none}
use Rattle.worker_core.proofs.Starts.{read_takes_none}

-- a call that takes a node, by what it is answered

taking_node : (node : List ℕ) (request : Request) → is_take_of node request ≡ true → request ≡ requests.TakeNode node
taking_node node (requests.TakeNode taken) e = ap (λ n. requests.TakeNode n) ((bytes_eq-Decides taken node).0 e)
taking_node node _ e = absurd (true≢false (sym e))

epoch_one : (a b : ℕ) → replies.Epoch a ≡ replies.Epoch b → a ≡ b
epoch_one a b e = ap (λ r. of r) e
  where
    of : Reply → ℕ
    of (replies.Epoch n) = n
    of r = a

abbrev is_epoch : Reply → Bool
is_epoch (replies.Epoch n) = true
is_epoch r = false

-- the epoch that is told is the node's
module _ (setup : Setup) (w : World) (kind : SeatKind) (node : List ℕ) (epoch : ℕ) where
  told_by : (b : Bool) → reply_to (if b then refused_rule else OnDevices (take_node w.devices node)) ≡ replies.Epoch epoch
      → epoch ≡ epoch_of node (world_after w (if b then refused_rule else OnDevices (take_node w.devices node))).devices.epochs
  unfolding reply_to reply_of take_node world_after
  told_by true e = absurd (true≢false (sym (ap is_epoch e)))
  told_by false e = let itself : bytes_eq node node ≡ true = (bytes_eq-Decides node node).1 refl in rw itself (sym (epoch_one _ _ e))

  told_epoch : reply_to (effect setup w kind (requests.TakeNode node)) ≡ replies.Epoch epoch → epoch ≡ epoch_of node (world_after w (effect setup w kind (requests.TakeNode node))).devices.epochs
  unfolding effect on_devices device_answer
  told_epoch e = told_by (is_user kind) e

pub epoch_is : (node : List ℕ) (request : Request) (reply : Reply) (epoch : ℕ) → epoch_told node request reply ≡ Some epoch → (request ≡ requests.TakeNode node) × (reply ≡ replies.Epoch epoch)
epoch_is node (requests.TakeNode name) (replies.Epoch n) epoch e = by (bytes_eq name node) refl e
  where
    by : (b : Bool) → bytes_eq name node ≡ b → (if b then Some n else None) ≡ Some epoch → (requests.TakeNode name ≡ requests.TakeNode node) × (replies.Epoch n ≡ replies.Epoch epoch)
    by true is f = (ap (λ (x : List ℕ). requests.TakeNode x) ((bytes_eq-Decides name node).0 is), ap (λ (x : ℕ). replies.Epoch x) (one n epoch f))
    by false is f = none_some f
epoch_is node request reply epoch e = none_some e

told_of_take : (node : List ℕ) (request : Request) (reply : Reply) (epoch : ℕ) → request ≡ requests.TakeNode node → reply ≡ replies.Epoch epoch → epoch_told node request reply ≡ Some epoch
told_of_take node request reply epoch asked is =
    let itself : bytes_eq node node ≡ true = (bytes_eq-Decides node node).1 refl in
    (λ i. epoch_told node (asked i) (is i)) ∙ rw itself refl

-- one entry

module _ (setup : Setup) (e : Entry) (past : List Entry) (seat : ℕ) (node : List ℕ)
    (reply : e.reply ≡ reply_to (effect setup (world setup past) e.kind e.request)) (current : IsCurrent setup past node seat) where
  -- that takes not the node
  untaken : is_take_of node e.request ≡ false → epoch_now setup (e ∷ past) node ≡ epoch_now setup past node
  untaken none = elim ((device_moves setup (world setup past) e.kind e.request).move.epoch node) [
    | inl same ↦ same
    | inr t ↦ absurd (true≢false (sym (ap (is_take_of node) t.asked ∙ (bytes_eq-Decides node node).1 refl) ∙ none))
  ]

  untold : is_take_of node e.request ≡ false → epoch_in node e ≡ None
  untold none = by (epoch_in node e) refl
    where
      asks : (b : Bool) (k : ℕ) → (if b then epoch_told node e.request e.reply else None) ≡ Some k → is_take_of node e.request ≡ true
      asks true k is = ap (is_take_of node) (epoch_is node e.request e.reply k is).0 ∙ (bytes_eq-Decides node node).1 refl
      asks false k is = none_some is

      by : (x : Option ℕ) → epoch_in node e ≡ x → epoch_in node e ≡ None
      by None is = is
      by (Some k) is = absurd (true≢false (sym (asks e.told k is) ∙ none))

  passed_by : is_take_of node e.request ≡ false → IsCurrent setup (e ∷ past) node seat
  passed_by none epoch is = by (own_step seat e past)
    where
      by : OwnStep seat e past → epoch ≡ epoch_now setup (e ∷ past) node
      by (Own mine front) = current epoch (sym (ap (λ x. first_some x (last_epoch node (own seat past))) (untold none)) ∙ (ap (last_epoch node) (sym front) ∙ is)) ∙ sym (untaken none)
      by (Others apart front) = current epoch (ap (last_epoch node) (sym front) ∙ is) ∙ sym (untaken none)

  -- or is the seat's own, and told
  taken_by : e.seat ≡ seat → e.told ≡ true → IsCurrent setup (e ∷ past) node seat
  taken_by mine told epoch is = by (epoch_told node e.request e.reply) refl
    where
      flag : epoch_in node e ≡ epoch_told node e.request e.reply
      flag = rw told refl

      first : first_some (epoch_told node e.request e.reply) (last_epoch node (own seat past)) ≡ Some epoch
      first = sym (ap (λ x. first_some x (last_epoch node (own seat past))) flag) ∙ (ap (last_epoch node) (sym (own_mine e past seat mine)) ∙ is)

      none_taken : epoch_told node e.request e.reply ≡ None → epoch_now setup (e ∷ past) node ≡ epoch_now setup past node
      none_taken none = elim ((device_moves setup (world setup past) e.kind e.request).move.epoch node) [
        | inl same ↦ same
        | inr t ↦ none_some (sym none ∙ told_of_take node e.request e.reply _ t.asked (reply ∙ t.reply_is))
      ]

      by : (x : Option ℕ) → epoch_told node e.request e.reply ≡ x → epoch ≡ epoch_now setup (e ∷ past) node
      by None none = current epoch (sym (ap (λ x. first_some x (last_epoch node (own seat past))) none) ∙ first) ∙ sym (none_taken none)
      by (Some k) t =
          let asked = epoch_is node e.request e.reply k t in
          let same : k ≡ epoch = one k epoch (sym (ap (λ x. first_some x (last_epoch node (own seat past))) t) ∙ first) in
          let now : k ≡ epoch_of node (world_after (world setup past)
          (effect setup (world setup past) e.kind (requests.TakeNode node))).devices.epochs =
          told_epoch setup (world setup past) e.kind node k (ap (λ r. reply_to (effect setup (world setup past) e.kind r)) (sym asked.0) ∙ (sym reply ∙ asked.1)) in
          sym same ∙ (now ∙ ap (λ r. epoch_of node (world_after (world setup past) (effect setup (world setup past) e.kind r)).devices.epochs) (sym asked.0))

  pub entry_stays : (is_take_of node e.request ≡ true → (e.seat ≡ seat) × (e.told ≡ true)) → IsCurrent setup (e ∷ past) node seat
  entry_stays own_take = by (is_take_of node e.request) refl
    where
      by : (b : Bool) → is_take_of node e.request ≡ b → IsCurrent setup (e ∷ past) node seat
      by true is = let o = own_take is in taken_by o.0 o.1
      by false is = passed_by is

pub epochs_stay : EpochsStay
epochs_stay setup [] past seat node history own_takes current = current
epochs_stay setup (e ∷ newer) past seat node history own_takes current =
    entry_stays setup e (newer ++ past) seat node history.1 (epochs_stay setup newer past seat node history.0 own_takes.1 current) own_takes.0

-- which actors take nodes

abbrev pub is_agent : SeatKind → Bool
is_agent seats.Agent = true
is_agent kind = false

start_takes_own : (own_node node : List ℕ) (epoch : Option ℕ) (told : Bool) (r : Request) → agent_start own_node epoch told ≡ Some r → is_take_of node r ≡ true → (own_node ≡ node) × (epoch ≡ None)
start_takes_own own_node node None told r e t = ((bytes_eq-Decides own_node node).0 (ap (is_take_of node) (one _ r e) ∙ t), refl)
start_takes_own own_node node (Some epoch) false r e t = absurd (true≢false (sym t ∙ ap (is_take_of node) (sym (one _ r e))))
start_takes_own own_node node (Some epoch) true r e t = none_some e

-- an agent takes its own, of which it was told no epoch
agent_takes_own : (s : ActorState) (mine : List Entry) (request : Request) (node : List ℕ) → s.role.kind ≡ seats.Agent → StandsFor s mine
    → asked s ≡ Some request → is_take_of node request ≡ true → (s.role ≡ agent_of node) × (last_epoch node mine ≡ None)
agent_takes_own s mine request node is stands ask takes = by s.given ask
  where
    starts : (s.role.node ≡ node) × (s.memory.epoch ≡ None) → (s.role ≡ agent_of node) × (last_epoch node mine ≡ None)
    starts x =
        let role : s.role ≡ agent_of node = λ i. record { kind = is i; node = x.0 i } in
        (role, sym (ap (λ (m : Memory). m.epoch) (stands.memory ∙ ap (λ r. memory_of r mine) role) ∙ epoch_stands (agent_of node) mine) ∙ x.1)

    task : (u : Option Under) → AnyIsUnderWay s.role u mine → option_map call_under u ≡ Some request → (s.role ≡ agent_of node) × (last_epoch node mine ≡ None)
    task None way c = none_some c
    task (Some u) way c = let k = keeps_under s.role u mine (stood s mine stands) way in absurd (true≢false (sym takes ∙ task_takes_none node u.task request (k.of_kind ∙ is) (k.call ∙ c)))

    by : (g : Option Given) → given_call s g ≡ Some request → (s.role ≡ agent_of node) × (last_epoch node mine ≡ None)
    by None c = none_some c
    by (Some givens.Task) c = task s.under stands.under_way c
    by (Some givens.Start) c = starts (start_takes_own s.role.node node s.memory.epoch (is_some s.memory.mounts) request (subst (λ kind. start_of kind s.role.node s.memory ≡ Some request) is c) takes)
    by (Some (givens.Read kind)) c = absurd (true≢false (sym takes ∙ (ap (is_take_of node) (sym (one _ request c)) ∙ read_takes_none node kind (ask_of (cache_of kind s.caches)))))

-- by the licence no other kind of actor takes any
licensed_agent : (kind : SeatKind) (mine : List Entry) (node : List ℕ) → IsBuiltKind kind → Licensed kind mine (requests.TakeNode node) → kind ≡ seats.Agent
licensed_agent seats.User mine node built l = absurd built
licensed_agent seats.Agent mine node built l = refl
licensed_agent seats.Binder mine node built l = absurd l.1
licensed_agent seats.Ops mine node built l = absurd l.1
licensed_agent seats.Scheduler mine node built l = absurd l.1
licensed_agent seats.ClaimProtect mine node built l = absurd l.1
licensed_agent seats.VolumeProtect mine node built l = absurd l.1

pub agents_take_their_own : AgentsTakeTheirOwn
agents_take_their_own seat s given h request node built ready turn takes =
    let asked_it : request ≡ requests.TakeNode node = taking_node node request takes in
    let licensed : Licensed s.role.kind (own seat h) request = answer_licensed s given (Call request) (own seat h) built ready.rows ready.stands.told turn in
    let kind : s.role.kind ≡ seats.Agent = licensed_agent s.role.kind (own seat h) node built (subst (Licensed s.role.kind (own seat h)) asked_it licensed) in
    let same : given.role ≡ s.role = turn_role s given (Call request) turn in
    let stands : StandsFor given (own seat h) = turn_stands s given (Call request) (own seat h) ready.rows ready.stands.told turn in
    let own_node = agent_takes_own given (own seat h) request node (ap (λ (r : Role). r.kind) same ∙ kind) stands (sym (gives_asked s given (Call request) turn)) takes in
    (sym same ∙ own_node.0, own_node.1)

-- what was told stays told

told_still : (node : List ℕ) (seat : ℕ) (e : Entry) (h : List Entry) → is_some (last_epoch node (own seat h)) ≡ true → is_some (last_epoch node (own seat (e ∷ h))) ≡ true
told_still node seat e h told = by (own_step seat e h)
  where
    first : (x y : Option ℕ) → is_some y ≡ true → is_some (first_some x y) ≡ true
    first None y t = t
    first (Some a) y t = refl

    by : OwnStep seat e h → is_some (last_epoch node (own seat (e ∷ h))) ≡ true
    by (Own mine front) = ap (λ es. is_some (last_epoch node es)) front ∙ first (epoch_in node e) (last_epoch node (own seat h)) told
    by (Others apart front) = ap (λ es. is_some (last_epoch node es)) front ∙ told

pub takes_none_later : (node : List ℕ) (seat : ℕ) (s : ActorState) (newer h : List Entry) → TakesNoMore node seat s h → TakesNoMore node seat s (newer ++ h)
takes_none_later node seat s newer h (inl stale) = inl stale
takes_none_later node seat s newer h (inr told) = inr (on newer)
  where
    on : (es : List Entry) → is_some (last_epoch node (own seat (es ++ h))) ≡ true
    on [] = told
    on (e ∷ es) = told_still node seat e (es ++ h) (on es)

-- a slot and a round

module _ (setup : Setup) (lets : Lets) (seat target : ℕ) (node : List ℕ) (after : ActorState) (past : List Entry) (left : ℕ) (idle : Bool) (history : IsHistory setup past) where
  pub run_stays : (s : ActorState) (h : List Entry) (b : ℕ) → Runs lets seat after past left idle s h b → IsBuiltKind s.role.kind
      → (s.role ≡ agent_of node → (seat ≡ target) ⊎ TakesNoMore node seat s h) → IsCurrent setup h node target → IsCurrent setup past node target
  run_stays s h b (IsSpent none state entries rest busy) built own_node current = subst (λ x. IsCurrent setup x node target) (sym entries) current
  run_stays s h b (IsIdle some ready turn entries rest calm) built own_node current = subst (λ x. IsCurrent setup x node target) (sym entries) current
  run_stays s h b (Asks given next request reply some ready turn passes absorbs more) built own_node current =
      run_stays next (told_entry seat given request reply ∷ h) (b - 1) more (subst (λ (r : Role). IsBuiltKind r.kind) (sym role) built) (λ is. later (own_node (sym role ∙ is)))
      (entry_stays setup (told_entry seat given request reply) h target node whole.1 current
      (λ takes. let t = agents_take_their_own seat s given h request node built ready turn takes in takes_so t.1 (own_node t.0)))
    where
      role : next.role ≡ s.role
      role = still_role s given next (Call request) request (Told reply) turn absorbs

      whole : IsHistory setup (told_entry seat given request reply ∷ h)
      whole = run_older setup lets seat after past left idle next _ _ more history

      not_stale : {X : Type 0} → s.memory.stale ≡ true → X
      not_stale stale = absurd (true≢false (sym stale ∙ calls_fresh s given request turn))

      later : (seat ≡ target) ⊎ TakesNoMore node seat s h → (seat ≡ target) ⊎ TakesNoMore node seat next (told_entry seat given request reply ∷ h)
      later (inl same) = inl same
      later (inr (inl stale)) = not_stale stale
      later (inr (inr told)) = inr (inr (told_still node seat (told_entry seat given request reply) h told))

      takes_so : last_epoch node (own seat h) ≡ None → (seat ≡ target) ⊎ TakesNoMore node seat s h → (seat ≡ target) × (true ≡ true)
      takes_so none (inl same) = (same, refl)
      takes_so none (inr (inl stale)) = not_stale stale
      takes_so none (inr (inr told)) = absurd (true≢false (sym told ∙ ap is_some none))
  run_stays s h b (IsHeld given next request some ready turn held absorbs more) built own_node current =
      run_stays next h (b - 1) more (subst (λ (r : Role). IsBuiltKind r.kind) (sym role) built) (λ is. later (own_node (sym role ∙ is))) current
    where
      role : next.role ≡ s.role
      role = still_role s given next (Call request) request Lost turn absorbs

      later : (seat ≡ target) ⊎ TakesNoMore node seat s h → (seat ≡ target) ⊎ TakesNoMore node seat next h
      later (inl same) = inl same
      later (inr (inl stale)) = absurd (true≢false (sym stale ∙ calls_fresh s given request turn))
      later (inr (inr told)) = inr (inr told)

-- the seat is the target's, or takes the node no more, past further entries
abbrev pub MayNotTake : List ℕ → ℕ → ℕ → ActorState → List Entry → Type 0
MayNotTake node target seat s h = (seat ≡ target) ⊎ TakesNoMore node seat s h

pub may_not_later : (node : List ℕ) (target seat : ℕ) (s : ActorState) (newer h past : List Entry) → past ≡ newer ++ h → MayNotTake node target seat s h → MayNotTake node target seat s past
may_not_later node target seat s newer h past are (inl same) = inl same
may_not_later node target seat s newer h past are (inr none) = inr (subst (TakesNoMore node seat s) (sym are) (takes_none_later node seat s newer h none))

module _ (setup : Setup) (lets : Lets) (past : List Entry) (left target : ℕ) (node : List ℕ) (history : IsHistory setup past) where
  pub round_stays : (ds : List Drainer) (h : List Entry) (b : ℕ) (after : List Drainer) (whole : Bool) → IsRound lets past left ds h b after whole → AreBuilt (roles_of ds)
      → ((place : ℕ) (d : Drainer) → slice_get ds place ≡ Some d → d.actor.role ≡ agent_of node → MayNotTake node target d.seat d.actor h)
      → IsCurrent setup h node target → IsCurrent setup past node target
  round_stays ds h b after whole (Ends entries rest) built own_node current = subst (λ x. IsCurrent setup x node target) (sym entries) current
  round_stays _ h b _ _ (Turns {ds = ds} {after = after} {whole = whole} d ran middle rest idle seat run more) built own_node current =
      let g = round_grows lets past left ds middle rest after whole more in
      let before : IsHistory setup middle = older setup g.longer.added middle (subst (IsHistory setup) g.longer.are history) in
      let slot = run_grows lets d.seat ran.actor middle rest idle (woken d.actor) h b run in
      round_stays ds middle rest after whole more built.1 (λ place x at is. may_not_later node target x.seat x.actor slot.longer.added h middle slot.longer.are (own_node (suc place) x at is))
      (run_stays setup lets d.seat target node ran.actor middle rest idle before (woken d.actor) h b run built.0 (λ is. own_node 0 d refl is) current)

pub rounds_keep_epochs : RoundsKeepEpochs
rounds_keep_epochs setup lets ds after h past b left whole seat node history roles round own_node current =
    round_stays setup lets past left seat node history ds h b after whole round (roles_built (roles_of ds) roles) own_node current
