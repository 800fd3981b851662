-- No agent of the drains is stale where no turn line behind the first drain line names an agent.
use Rattle.std.proofs.Common.{◌≡◌, ◌≢◌, ◌∙◌, ℕ, ◌+◌, ◌<◌, suc, List, [], ◌∷◌, Bool, true, false, true≢false, Option, Some, inl, inr, refl, sym, ap, subst}
use Rattle.std.specs.Prelude.{slice_get}
use Rattle.call_types.specs.declared.entry.Entry.{Entry}
use Rattle.call_types.specs.declared.reply.Reply.{Reply}
use Rattle.call_types.specs.declared.request.Request.{Request}
use Rattle.call_types.specs.declared.request.Request.TheVariants as requests
use Rattle.call_types.specs.declared.request.SeatKind.{SeatKind}
use Rattle.call_types.specs.declared.request.SeatKind.TheVariants as seats
use Rattle.call_types.specs.declared.setup.Setup.{Setup}
use Rattle.binder_model.specs.AgentLicence.{last_epoch}
use Rattle.binder_model.specs.Devices.{epoch_of}
use Rattle.binder_model.specs.Licence.{Licensed}
use Rattle.binder_model.specs.Promises.{IsRunOf}
use Rattle.binder_model.specs.Told.{own}
use Rattle.binder_model.specs.World.{world}
use Rattle.model_laws.proofs.Evidence.{own_other}
use Rattle.model_laws.proofs.Growing.{runs_are_histories}
use Rattle.model_laws.proofs.Lists.{none_some, one}
use Rattle.node_agent.specs.HistoryLaw.{is_take_of}
use Rattle.worker_core.specs.Roles.{IsBuiltKind}
use Rattle.actor_rounds.specs.declared.drainers.Drainer.{Drainer}
use Rattle.actor_rounds.specs.Drainers.{AreRoles, agent_of, roles_of, seats_for, seats_of}
use Rattle.actor_rounds.specs.Longer.{IsOneOf}
use Rattle.actor_rounds.specs.Rounds.{Drains, Goes, IsSpent, NothingDue, all_pass}
use Rattle.actor_rounds.proofs.DrainFacts.{drains_grow}
use Rattle.actor_rounds.proofs.RoundFacts.{round_roles, round_seats}
use Rattle.settle_progress.specs.Epochs.Epochs.{IsCurrent}
use Rattle.settle_progress.proofs.Epochs.Epochs.{epochs_stay, rounds_keep_epochs}
use Rattle.settle_progress.proofs.Drains.Paying.{run_of_older}
use Rattle.settle_progress.proofs.Drains.Rounds.{is_agent}
use Rattle.script_lines.specs.declared.actors.Actor.TheVariants.{Agent, Worker}
use Rattle.script_lines.specs.declared.actors.WorkerKind.{WorkerKind}
use Rattle.script_lines.specs.declared.actors.WorkerKind.TheVariants as workers
use Rattle.script_text.specs.declared.script.Line.{Line}
use Rattle.script_text.specs.declared.script.Line.TheVariants.{Call, Drain, Lose, Restart, Turn}
use Rattle.script_text.specs.declared.script.Script.{Script}
use Rattle.actor_turns.specs.declared.loss.Fate.{Fate}
use Rattle.actor_turns.specs.declared.loss.Fate.TheVariants.{LostAfter, LostBefore, Told}
use Rattle.actor_turns.specs.declared.part.Part.{Part}
use Rattle.actor_turns.specs.Calls.{AreCalls, IsCallBy, MoreCalls, NoCalls, is_held, seat_at}
use Rattle.actor_turns.specs.Fates.{fate_of}
use Rattle.script_runs.specs.Limits.{IsReadable}
use Rattle.script_runs.specs.Parts.{drain_roles, drain_seat, drain_seats, kind_of_worker, part_of, role_of}
use Rattle.script_runs.specs.Drains.{AreDrainers}
use Rattle.script_runs.specs.Replays.{AreMoves, IsDrain, IsMove, IsTurnLine, IsUserCall, MoreMoves, NoMoves, Progress, first_progress}
use Rattle.script_runs.proofs.Draining.{drains_keep_drainers, lines_keep_drainers, new_ones_are_drainers}
use Rattle.script_runs.proofs.Casting.{actor_built, known_at, named_at, within_at}
use Rattle.script_runs.proofs.Staying.{calls_grow, keeps_devices}
use Rattle.replay_laws.proofs.Drains.Apart.{one_at}
use Rattle.replay_laws.proofs.Drains.Moves.{move_grows, moves_grow, no_user, turn_others}
use Rattle.replay_laws.proofs.Drains.Silent.{role_there}
use Rattle.actor_rounds.proofs.RoundFacts.{seat_at as seat_there}
use Rattle.replay_laws.specs.Settles.Settling.{LeaveAgents, LeftAgentsAreAwake, NoAgentIsStale, TurnNoAgent, turns_agent}
use Rattle.replay_laws.proofs.Settles.Names.{nodes_apart}

-- agents whose seats have no entries were told no epoch
pub unused_are_awake : (script : Script) (first : ℕ) (past : List Entry) → ((seat : ℕ) → IsOneOf (seats_for first script.node_names) seat → own seat past ≡ []) → NoAgentIsStale script first past
unused_are_awake script first past none place seat node at_seat at_role epoch told =
    none_some (sym (ap (last_epoch node) (none seat (one_at (seats_for first script.node_names) place seat at_seat))) ∙ told)

-- ---- one entry

-- a worker takes no node
worker_takes_none : (kind : SeatKind) (mine : List Entry) (request : Request) (node : List ℕ) → IsBuiltKind kind → is_agent kind ≡ false
    → is_take_of node request ≡ true → Licensed kind mine request → ⊥
worker_takes_none seats.User mine (requests.TakeNode n) node built other takes licensed = absurd built
worker_takes_none seats.Binder mine (requests.TakeNode n) node built other takes licensed = licensed.1
worker_takes_none seats.Ops mine (requests.TakeNode n) node built other takes licensed = licensed.1
worker_takes_none seats.Scheduler mine (requests.TakeNode n) node built other takes licensed = licensed.1
worker_takes_none seats.ClaimProtect mine (requests.TakeNode n) node built other takes licensed = licensed.1
worker_takes_none seats.VolumeProtect mine (requests.TakeNode n) node built other takes licensed = licensed.1
worker_takes_none seats.Agent mine (requests.TakeNode n) node built other takes licensed = absurd (true≢false other)
worker_takes_none kind mine request node built other takes licensed = absurd (true≢false (sym takes))

module _ (setup : Setup) (seat : ℕ) (node : List ℕ) where
  -- nor does a user
  user_leaves : (user : ℕ) (request : Request) (reply : Reply) (past : List Entry) → seat ≢ user → IsCurrent setup past node seat
      → IsCurrent setup ((record { seat = user; kind = seats.User; request = request; reply = reply; told = true }) ∷ past) node seat
  user_leaves user request reply past other current epoch told =
      current epoch (ap (last_epoch node) (sym (own_other _ past seat other)) ∙ told) ∙ sym (ap (λ d. epoch_of node d.epochs) (keeps_devices setup (world setup past) seats.User request refl).keeps)

  worker_leaves : (e : Entry) (past : List Entry) → IsRunOf setup (e ∷ past) → IsBuiltKind e.kind → is_agent e.kind ≡ false → IsCurrent setup past node seat → IsCurrent setup (e ∷ past) node seat
  worker_leaves e past run built other current =
      epochs_stay setup (e ∷ []) past seat node (runs_are_histories setup (e ∷ past) run.run)
      ((λ takes. absurd (worker_takes_none e.kind (own e.seat past) e.request node built other takes run.run.2)), tt) current

  call_leaves : (held : Bool) (fate : Fate) (mine : ℕ) (kind : SeatKind) (past new : List Entry) → IsBuiltKind kind → is_agent kind ≡ false
      → IsRunOf setup new → IsCallBy all_pass held fate mine kind past new → IsCurrent setup past node seat → IsCurrent setup new node seat
  call_leaves true fate mine kind past new built other run call current = subst (λ h. IsCurrent setup h node seat) (sym call.is) current
  call_leaves false Told mine kind past new built other run call current =
      subst (λ h. IsCurrent setup h node seat) (sym call.is) (worker_leaves _ past (subst (IsRunOf setup) call.is run) built other current)
  call_leaves false LostAfter mine kind past new built other run call current =
      subst (λ h. IsCurrent setup h node seat) (sym call.is) (worker_leaves _ past (subst (IsRunOf setup) call.is run) built other current)
  call_leaves false LostBefore mine kind past new built other run call current = subst (λ h. IsCurrent setup h node seat) (sym call) current

  calls_leave : (part : Part) (new : List Entry) → IsBuiltKind part.kind → is_agent part.kind ≡ false → IsRunOf setup new
      → (n count : ℕ) (past : List Entry) → AreCalls all_pass [] part new n count past → IsCurrent setup past node seat → IsCurrent setup new node seat
  calls_leave part new built other run n count past (NoCalls none same) current = subst (λ h. IsCurrent setup h node seat) (sym same) current
  calls_leave part new built other run n count past (MoreCalls rest middle some call more) current =
      let grown = calls_grow all_pass [] part new (n + 1) rest middle more in
      let here = run_of_older setup grown.newer middle new grown.are run in
      calls_leave part new built other run (n + 1) rest middle more (call_leaves (is_held [] n) (fate_of part.losses n) (seat_at part n) part.kind past middle built other here call current)

no_agent : (kind : WorkerKind) → is_agent (kind_of_worker kind) ≡ false
no_agent workers.Binder = refl
no_agent workers.Ops = refl
no_agent workers.Scheduler = refl
no_agent workers.Claims = refl
no_agent workers.Volumes = refl

-- ---- the lines

module _ (script : Script) (option : Option ℕ) (readable : IsReadable script) where
  -- each agent of the drains took no epoch of its node but the one that the node has
  abbrev Awake : List Entry → Type 0
  Awake past = NoAgentIsStale script (drain_seat script) past

  user_awake : (user : ℕ) (request : Request) (now next : Progress) → user < 5 → IsUserCall user request now next → Awake now.past → Awake next.past
  user_awake user request now next few move awake place seat node at_seat at_role =
      subst (λ (p : Progress). IsCurrent script.setup p.past node seat) (sym move.is)
      (user_leaves script.setup seat node user request move.reply now.past
      (no_user script option readable user few seat (one_at (drain_seats script) place seat at_seat)) (awake place seat node at_seat at_role))

  -- a turn of a worker
  turn_awake : (part : Part) (calls : ℕ) (now next : Progress) → IsBuiltKind part.kind → is_agent part.kind ≡ false → (role : _)
      → IsRunOf script.setup next.past → IsTurnLine all_pass [] role part calls now next → Awake now.past → Awake next.past
  turn_awake part calls now next built other role run (inl all) awake place seat node at_seat at_role =
      let same = ap (λ (p : Progress). p.past) all.is in
      subst (λ h. IsCurrent script.setup h node seat) (sym same)
      (calls_leave script.setup seat node part all.past built other (subst (IsRunOf script.setup) same run) _ _ now.past all.made (awake place seat node at_seat at_role))
  turn_awake part calls now next built other role run (inr few) awake place seat node at_seat at_role =
      let same = ap (λ (p : Progress). p.past) few.is in
      subst (λ h. IsCurrent script.setup h node seat) (sym same)
      (calls_leave script.setup seat node part few.past built other (subst (IsRunOf script.setup) same run) _ _ now.past few.made (awake place seat node at_seat at_role))

  -- a drain: its agents take no nodes but their own
  module _ (place seat : ℕ) (node : List ℕ) (at_seat : slice_get (drain_seats script) place ≡ Some seat)
      (at_role : slice_get (drain_roles script) place ≡ Some (agent_of node)) (after : List Drainer) (past : List Entry) (left : ℕ) (run : IsRunOf script.setup past) where
    own_node : (ds : List Drainer) → seats_of ds ≡ drain_seats script → roles_of ds ≡ drain_roles script → (i : ℕ) (d : Drainer)
        → slice_get ds i ≡ Some d → d.actor.role ≡ agent_of node → d.seat ≡ seat
    own_node ds seats_are roles_are i d there role =
        let same : i ≡ place = nodes_apart script.node_names readable.order i place node (ap (λ rs. slice_get rs i) (sym roles_are) ∙ (role_there ds i d there ∙ ap Some role)) at_role in
        one d.seat seat (sym (seat_there ds i d there) ∙ (ap (λ ss. slice_get ss i) seats_are ∙ (ap (slice_get (drain_seats script)) same ∙ at_seat)))

    drains_leave : (ds : List Drainer) (h : List Entry) (b : ℕ) → seats_of ds ≡ drain_seats script → roles_of ds ≡ drain_roles script
        → Drains all_pass script.setup after past left ds h b → IsCurrent script.setup h node seat → IsCurrent script.setup past node seat
    drains_leave ds h b seats_are roles_are (NothingDue settled same entries rest) current = subst (λ es. IsCurrent script.setup es node seat) (sym entries) current
    drains_leave ds h b seats_are roles_are (IsSpent first due none same entries rest) current = subst (λ es. IsCurrent script.setup es node seat) (sym entries) current
    drains_leave ds h b seats_are roles_are (Goes first due some between middle rest whole round more) current =
        let g = drains_grow all_pass script.setup after past left between middle rest more in
        let here = run_of_older script.setup g.longer.added middle past g.longer.are run in
        let roles : AreRoles (roles_of ds) = record { nodes = script.node_names; are = roles_are } in
        drains_leave between middle rest (round_seats all_pass middle rest ds h b between whole round ∙ seats_are) (round_roles all_pass middle rest ds h b between whole round ∙ roles_are) more
        (rounds_keep_epochs script.setup all_pass ds between h middle b rest whole seat node
        (runs_are_histories script.setup middle here.run) roles round (λ i d there role. inl (own_node ds seats_are roles_are i d there role)) current)

  abbrev Are : Progress → Type 0
  Are p = AreDrainers script (drain_seat script) option p

  drain_awake : (now next : Progress) → IsRunOf script.setup next.past → IsDrain all_pass script option now next → Are now → Awake now.past → Awake next.past
  drain_awake now next run d are awake place seat node at_seat at_role =
      let same = ap (λ (p : Progress). p.past) d.is in
      subst (λ h. IsCurrent script.setup h node seat) (sym same)
      (drains_leave place seat node at_seat at_role d.ran d.past _ (subst (IsRunOf script.setup) same run) now.drainers now.past _ are.seats are.roles d.rounds (awake place seat node at_seat at_role))

  -- the line stands in the script
  abbrev IsThere : Line → Type 0
  IsThere line = (place : ℕ) × (slice_get script.lines place ≡ Some line)

  one_awake : (line : Line) (now next : Progress) → IsThere line → turns_agent line ≡ false → IsRunOf script.setup next.past → IsMove script option line now next
      → Are now → Awake now.past → Awake next.past
  one_awake (Call user request) now next there none run move are awake = user_awake user request now next (within_at script.lines there.0 (Call user request) readable.lines there.1).1 move awake
  one_awake (Lose actor call lost) now next there none run move are awake = subst (λ (p : Progress). Awake p.past) (sym move) awake
  one_awake (Restart actor calls) now next there none run move are awake = subst (λ (p : Progress). Awake p.past) (sym move) awake
  one_awake (Turn (Worker w) calls) now next there none run move are awake =
      turn_awake (part_of script (Worker w)) calls now next (actor_built (Worker w)) (no_agent w.kind) (role_of (Worker w)) run move awake
  one_awake (Turn (Agent node) calls) now next there none run move are awake = absurd (true≢false none)
  one_awake Drain now next there none run move are awake = drain_awake now next run move are awake

  module _ (end : Progress) (run : IsRunOf script.setup end.past) where
    run_at : (lines : List Line) (next : Progress) → AreMoves script option end lines next → IsRunOf script.setup next.past
    run_at lines next more = let grown = moves_grow script option end lines next more in run_of_older script.setup grown.newer next.past end.past grown.are run

    all_awake : (lines : List Line) (now : Progress) → ((place : ℕ) (line : Line) → slice_get lines place ≡ Some line → IsThere line)
        → TurnNoAgent lines → AreMoves script option end lines now → Are now → Awake now.past → Awake end.past
    all_awake lines now among none (NoMoves empty same) are awake = subst (λ (p : Progress). Awake p.past) (sym same) awake
    all_awake lines now among none (MoreMoves line rest next is move more) are awake =
        let these = subst TurnNoAgent is none in
        all_awake rest next (λ place x at. among (suc place) x (ap (λ ls. slice_get ls (suc place)) is ∙ at)) these.1 more
        (lines_keep_drainers script (drain_seat script) option line now next move are)
        (one_awake line now next (among 0 line (ap (λ ls. slice_get ls 0) is)) these.0 (run_at rest next more) move are awake)

    -- before the first drain their seats have no entries
    abbrev AreUnused : Progress → Type 0
    AreUnused p = (seat : ℕ) → IsOneOf (drain_seats script) seat → own seat p.past ≡ []

    -- what the first line leaves, and what the later ones leave of it
    first_awake : (line : Line) (rest : List Line) (now next : Progress) → IsThere line
        → ((place : ℕ) (x : Line) → slice_get rest place ≡ Some x → IsThere x) → LeaveAgents (line ∷ rest) → IsMove script option line now next
        → AreMoves script option end rest next → Are now → AreUnused now
        → (LeaveAgents rest → AreUnused next → Awake end.past) → Awake end.past
    first_awake (Call user request) rest now next there among leave move more are unused later =
        later leave (λ seat one_. ap (λ (p : Progress). own seat p.past) move.is
        ∙ (own_other _ now.past seat (no_user script option readable user (within_at script.lines there.0 (Call user request) readable.lines there.1).1 seat one_) ∙ unused seat one_))
    first_awake (Lose actor call lost) rest now next there among leave move more are unused later = later leave (λ seat one_. ap (λ (p : Progress). own seat p.past) move ∙ unused seat one_)
    first_awake (Restart actor calls) rest now next there among leave move more are unused later = later leave (λ seat one_. ap (λ (p : Progress). own seat p.past) move ∙ unused seat one_)
    first_awake (Turn actor calls) rest now next there among leave move more are unused later =
        later leave (λ seat one_. turn_others script option readable actor calls now next (named_at script.lines there.0 actor calls there.1)
        (known_at script.node_names script.lines there.0 (Turn actor calls) readable.known there.1) move seat one_ ∙ unused seat one_)
    first_awake Drain rest now next there among leave move more are unused later =
        all_awake rest next among leave more (drains_keep_drainers all_pass script (drain_seat script) option now next move are)
        (drain_awake now next (run_at rest next more) move are (unused_are_awake script (drain_seat script) now.past unused))

    left_awake : (lines : List Line) (now : Progress) → ((place : ℕ) (line : Line) → slice_get lines place ≡ Some line → IsThere line)
        → LeaveAgents lines → AreMoves script option end lines now → Are now → AreUnused now → Awake end.past
    left_awake lines now among leave (NoMoves empty same) are unused = subst (λ (p : Progress). Awake p.past) (sym same) (unused_are_awake script (drain_seat script) now.past unused)
    left_awake lines now among leave (MoreMoves line rest next is move more) are unused =
        let behind : (place : ℕ) (x : Line) → slice_get rest place ≡ Some x → IsThere x = λ place x at. among (suc place) x (ap (λ ls. slice_get ls (suc place)) is ∙ at) in
        let kept = lines_keep_drainers script (drain_seat script) option line now next move are in
        first_awake line rest now next (among 0 line (ap (λ ls. slice_get ls 0) is)) behind (subst LeaveAgents is leave) move more are unused
        (λ leave_rest unused_next. left_awake rest next behind leave_rest more kept unused_next)

pub left_agents_are_awake : LeftAgentsAreAwake
left_agents_are_awake script option past ending readable run leave replay =
    left_awake script option readable replay.lines_done run_there script.lines (first_progress option replay.drainers) (λ place line at. (place, at)) leave replay.moves
    (new_ones_are_drainers script (drain_seat script) option (first_progress option replay.drainers) replay.new) (λ seat among. refl)
  where
    run_there : IsRunOf script.setup replay.lines_done.past
    run_there =
        let grown = move_grows script option Drain replay.lines_done replay.end replay.last in
        run_of_older script.setup grown.newer replay.lines_done.past replay.end.past grown.are (subst (IsRunOf script.setup) replay.history run)
