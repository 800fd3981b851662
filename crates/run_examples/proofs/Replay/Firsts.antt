-- The first two calls of a drain: they are its scheduler's, at its seat, and list kinds, the volumes first.
use Rattle.std.proofs.Common.{
  ◌≡◌,
  ◌≢◌,
  ◌<◌,
  ℕ,
  ◌+◌,
  ◌-◌,
  zero,
  suc,
  List,
  [],
  ◌∷◌,
  ◌++◌,
  length,
  length-append,
  Bool,
  true,
  false,
  true≢false,
  Option,
  Some,
  None,
  refl,
  sym,
  ◌∙◌,
  ap,
  subst,
  append_assoc,
  arith,
  if◌then◌else◌,
}
use Rattle.std.specs.Prelude.{is_some, slice_get}
use Rattle.kube_parts.specs.declared.parts.Kind.{Kind}
use Rattle.kube_parts.specs.declared.parts.Kind.TheVariants as kinds
use Rattle.call_types.specs.declared.entry.Entry.{Entry}
use Rattle.call_types.specs.declared.request.Request.{Request}
use Rattle.call_types.specs.declared.request.Request.TheVariants as requests
use Rattle.call_types.specs.declared.request.SeatKind.{SeatKind}
use Rattle.call_types.specs.declared.request.SeatKind.TheVariants as seats
use Rattle.call_types.specs.declared.reply.Reply.{Reply}
use Rattle.call_types.specs.declared.reply.Reply.TheVariants as replies
use Rattle.call_types.specs.declared.setup.Setup.{Setup}
use Rattle.binder_model.specs.Reading.{Unlisted, follow_on, following_of}
use Rattle.binder_model.specs.Told.{own}
use Rattle.informer_cache.specs.Cache.{ask_from, watch_from}
use Rattle.informer_cache.specs.All.{AllKnown, AllStandFor, cache_of}
use Rattle.model_laws.proofs.Evidence.{own_mine}
use Rattle.model_laws.proofs.Lists.{none_some, one}
use Rattle.worker_core.specs.declared.role.Role.{Role}
use Rattle.worker_core.specs.declared.task.Under.{Under}
use Rattle.worker_core.specs.declared.turn.Next.{Next}
use Rattle.worker_core.specs.declared.turn.Next.TheVariants as nexts
use Rattle.worker_core.specs.declared.turn.Outcome.TheVariants.{Told}
use Rattle.worker_core.specs.Absorbs.{woken}
use Rattle.worker_core.specs.Roles.{IsBuiltKind, kinds_of}
use Rattle.worker_core.specs.Stands.{AnyIsUnderWay, Begun, IsUnderWay, StandsFor, WentOn}
use Rattle.worker_core.specs.States.{ActorState, call_in, read_of_kind, read_request, start_call}
use Rattle.worker_core.specs.Turns.{IsTurn, TurnBy, first_unlisted, is_listed, passing, unlisted}
use Rattle.worker_core.proofs.ByKind.{built_fresh}
use Rattle.actor_rounds.specs.declared.drainers.Drainer.{Drainer}
use Rattle.actor_rounds.specs.Drainers.{of_kind, roles_of, seats_of}
use Rattle.actor_rounds.specs.Rounds.{Asks, Drains, Ends, Goes, IsHeld, IsIdle, IsRound, IsSpent, NothingDue, Runs, Turns, all_pass, told_entry}
use Rattle.actor_rounds.proofs.DrainFacts.{drains_longer}
use Rattle.actor_rounds.proofs.RoundFacts.{round_longer}
use Rattle.actor_rounds.proofs.RunFacts.{run_longer, still_role}
use Rattle.worker_core.proofs.Answered.{turn_role}
use Rattle.script_text.specs.declared.script.Line.{Line}
use Rattle.script_text.specs.declared.script.Script.{Script}
use Rattle.script_runs.specs.Parts.{drain_seat}
use Rattle.script_runs.specs.Drains.{AreDrainers}
use Rattle.script_runs.specs.Replays.{AreMoves, IsDrain, IsReplay, MoreMoves, NoMoves, Progress, first_progress}
use Rattle.script_runs.proofs.Draining.{all_lines_keep_drainers, new_ones_are_drainers}
use Rattle.world_core.specs.declared.drained.Drained.{Drained}
use Rattle.worker_core.proofs.PassRules.{unlisted_not as lacking_from}

-- ---- no lines

pub no_lines : (script : Script) (option : Option ℕ) (done now : Progress) (ls : List Line) → ls ≡ [] → AreMoves script option done ls now → done ≡ now
no_lines script option done now ls none (NoMoves are is) = is
no_lines script option done now ls none (MoreMoves line rest next are move more) = absurd (cc)

-- ---- an entry at a place

in_middle : (xs : List Entry) (y : Entry) (zs : List Entry) (n : ℕ) → length xs ≡ n → slice_get (xs ++ y ∷ zs) n ≡ Some y
in_middle [] y zs zero is = refl
in_middle [] y zs (suc n) is = absurd (omega (arith, is))
in_middle (x ∷ xs) y zs zero is = absurd (omega (arith, is))
in_middle (x ∷ xs) y zs (suc n) is = in_middle xs y zs n (omega (arith, is))

-- of a list that ends so, where what comes after the entry is as long as the list is after the place
pub ends_so : (all xs : List Entry) (y : Entry) (zs : List Entry) (n : ℕ) → all ≡ xs ++ y ∷ zs → length all ≡ n + 1 + length zs → slice_get all n ≡ Some y
ends_so all xs y zs n is long =
    let both = length-append xs (y ∷ zs) in
    let same : length all ≡ length (xs ++ y ∷ zs) = ap length is in
    ap (λ es. slice_get es n) is ∙ in_middle xs y zs n (omega (arith, both, same, long))

-- ---- the call of a scheduler to which some kind was never listed

-- the kind is not listed at any point
abbrev NeverListed : Kind → List Entry → Type 0
NeverListed kind [] = following_of [] kind ≡ Unlisted
NeverListed kind (e ∷ mine) = (following_of (e ∷ mine) kind ≡ Unlisted) × NeverListed kind mine

never_now : (kind : Kind) (mine : List Entry) → NeverListed kind mine → following_of mine kind ≡ Unlisted
never_now kind [] never = never
never_now kind (e ∷ mine) never = never.0

pub not_listed : (kind : Kind) (c : AllKnown) (mine : List Entry) → AllStandFor c mine → following_of mine kind ≡ Unlisted → is_listed c kind ≡ false
not_listed kind c mine stand none =
    ap is_some ((stand.each kind).from ∙ ap (λ k. watch_from (following_of mine k)) (stand.kinds kind) ∙ ap watch_from none)

-- one of the first two kinds of a scheduler
abbrev IsFirstKind : Kind → Type 0
IsFirstKind kinds.PersistentVolume = Unit {0}
IsFirstKind kinds.PersistentVolumeClaim = Unit {0}
IsFirstKind kind = ⊥

-- the caches lack some kind
some_lacks : (kind : Kind) (c : AllKnown) → IsFirstKind kind → is_listed c kind ≡ false → first_unlisted c (kinds_of seats.Scheduler) ≢ None
some_lacks kinds.PersistentVolume c first not all =
    none_some (sym all ∙ ap (λ b. if b then first_unlisted c (kinds.PersistentVolumeClaim ∷ kinds.StorageClass ∷ kinds.Node ∷ kinds.Pod ∷ []) else Some kinds.PersistentVolume) not)
some_lacks kinds.PersistentVolumeClaim c first not all = by (is_listed c kinds.PersistentVolume) all
  where
    by : (b : Bool) → (if b then first_unlisted c (kinds.PersistentVolumeClaim ∷ kinds.StorageClass ∷ kinds.Node ∷ kinds.Pod ∷ []) else Some kinds.PersistentVolume) ≡ None → ⊥
    by true none = none_some (sym none ∙ ap (λ b. if b then first_unlisted c (kinds.StorageClass ∷ kinds.Node ∷ kinds.Pod ∷ []) else Some kinds.PersistentVolumeClaim) not)
    by false none = none_some (sym none)
some_lacks kinds.StorageClass c first not all = first
some_lacks kinds.Node c first not all = first
some_lacks kinds.Pod c first not all = first

-- a kind that is not listed is asked for by a list
pub asked_list : (c : AllKnown) (k : Kind) → is_listed c k ≡ false → read_of_kind c k ≡ requests.List k None
asked_list c k not = by (cache_of k c).from not
  where
    by : (from : Option ℕ) → is_some from ≡ false → read_request k (ask_from from) ≡ requests.List k None
    by None h = refl
    by (Some version) h = absurd (true≢false h)

-- nothing is under way
no_way : (role : Role) (kind : Kind) (u : Under) (mine : List Entry) → role ≡ of_kind seats.Scheduler → IsFirstKind kind → NeverListed kind mine → IsUnderWay role u mine → ⊥
no_way role kind u mine is first never (Begun c stand order listed gives) =
    some_lacks kind c first (not_listed kind c mine stand (never_now kind mine never)) (ap (λ (r : Role). first_unlisted c (kinds_of r.kind)) (sym is) ∙ listed)
no_way role kind u [] is first never (WentOn before e past split way told asked moves) = none_some (ap (λ (es : List Entry). slice_get es 0) split)
no_way role kind u (x ∷ mine) is first never (WentOn before e past split way told asked moves) =
    no_way role kind before past is first (subst (NeverListed kind) (ap rest_of split) never.1) way
  where
    rest_of : List Entry → List Entry
    rest_of [] = []
    rest_of (y ∷ ys) = ys

-- the answer lists the first kind that is lacking
pub record ListsNext (s : ActorState) (answer : Next) : Type 0 where
  pub kind : Kind
  pub lacks : unlisted s ≡ Some kind
  pub call : answer ≡ nexts.Call (requests.List kind None)

lists_next : (s given : ActorState) (answer : Next) (mine : List Entry) (kind : Kind) → s.role ≡ of_kind seats.Scheduler → StandsFor s mine
    → IsFirstKind kind → NeverListed kind mine → IsTurn s given answer → ListsNext s answer
lists_next s given answer mine kind is stands first never turn = by s.memory.stale s.under (start_call s.role s.memory) (unlisted s) (passing s) refl refl refl refl turn
  where
    kind_is : s.role.kind ≡ seats.Scheduler
    kind_is = ap (λ (r : Role). r.kind) is

    fresh : s.memory.stale ≡ false
    fresh = built_fresh s mine (subst IsBuiltKind (sym kind_is) tt) (λ agent. let two : seats.Scheduler ≡ seats.Agent = sym kind_is ∙ agent in absurd (cc)) stands

    by : (stale : Bool) (u : Option Under) (start : Option Request) (l p : Option Kind) → s.memory.stale ≡ stale → s.under ≡ u
        → start_call s.role s.memory ≡ start → unlisted s ≡ l → TurnBy s given answer stale u start l p → ListsNext s answer
    by true u start l p es eu et el t = absurd (true≢false (sym es ∙ fresh))
    by false (Some u) start l p es eu et el t = absurd (no_way s.role kind u mine is first never (subst (λ (o : Option Under). AnyIsUnderWay s.role o mine) eu stands.under_way))
    by false None (Some request) l p es eu et el t = none_some (ap (λ (r : Role). start_call r s.memory) (sym is) ∙ et)
    by false None None (Some k) p es eu et el t =
        record { kind = k; lacks = el; call = t.call ∙ ap (λ (r : Request). nexts.Call r) (asked_list s.caches k (lacking_from s.caches (kinds_of s.role.kind) k el)) }
    by false None None None p es eu et el t =
        absurd (some_lacks kind s.caches first (not_listed kind s.caches mine stands.caches (never_now kind mine never))
        (ap (λ (k : SeatKind). first_unlisted s.caches (kinds_of k)) (sym kind_is) ∙ el))

-- ---- how its run begins

-- it lists a kind that is lacking, and goes on
pub record RunBegins (seat : ℕ) (after : ActorState) (past : List Entry) (left : ℕ) (idle : Bool) (s : ActorState) (h : List Entry) (b : ℕ) (never : Kind) : Type 0 where
  pub next : ActorState
  pub without : is_listed s.caches never ≡ false
  pub entry : Entry
  pub kind : Kind
  pub lacks : unlisted s ≡ Some kind
  pub asks : entry.request ≡ requests.List kind None
  pub of_seat : entry.seat ≡ seat
  pub of_kind : entry.kind ≡ seats.Scheduler
  pub was_told : entry.told ≡ true
  pub role : next.role ≡ s.role
  pub goes : Runs all_pass seat after past left idle next (entry ∷ h) (b - 1)

run_begins : (seat : ℕ) (after : ActorState) (past : List Entry) (left : ℕ) (idle : Bool) (s : ActorState) (h : List Entry) (b : ℕ) (kind : Kind)
    → s.role ≡ of_kind seats.Scheduler → IsFirstKind kind → NeverListed kind (own seat h) → 0 < b
    → Runs all_pass seat after past left idle s h b → RunBegins seat after past left idle s h b kind
run_begins seat after past left idle s h b kind is first never some (IsSpent none state entries rest busy) = absurd (omega (arith, none, some))
run_begins seat after past left idle s h b kind is first never some (IsIdle more ready turn entries rest calm) =
    let l = lists_next s after nexts.Idle (own seat h) kind is ready.stands.told first never turn in none_some (ap call_in l.call)
run_begins seat after past left idle s h b kind is first never some (Asks given next request reply more ready turn passes absorbs goes) =
    let l = lists_next s given (nexts.Call request) (own seat h) kind is ready.stands.told first never turn in
    record {
      next = next;
      without = not_listed kind s.caches (own seat h) ready.stands.told.caches (never_now kind (own seat h) never);
      entry = told_entry seat given request reply;
      kind = l.kind;
      lacks = l.lacks;
      asks = one request (requests.List l.kind None) (ap call_in l.call);
      of_seat = refl;
      of_kind = ap (λ (r : Role). r.kind) (turn_role s given (nexts.Call request) turn ∙ is);
      was_told = refl;
      role = still_role s given next (nexts.Call request) request (Told reply) turn absorbs;
      goes = goes;
    }
run_begins seat after past left idle s h b kind is first never some (IsHeld given next request more ready turn held absorbs goes) = absurd (true≢false held)

-- what a list of the volumes leaves unlisted
claims_unlisted : (e : Entry) → e.request ≡ requests.List kinds.PersistentVolume None → following_of (e ∷ []) kinds.PersistentVolumeClaim ≡ Unlisted
claims_unlisted e asks = by e.told e.request e.reply asks
  where
    by : (told : Bool) (request : Request) (reply : Reply) → request ≡ requests.List kinds.PersistentVolume None
        → (if told then follow_on request reply kinds.PersistentVolumeClaim Unlisted else Unlisted) ≡ Unlisted
    by false request reply is = refl
    by true request reply is = subst (λ r. follow_on r reply kinds.PersistentVolumeClaim Unlisted ≡ Unlisted) (sym is) (listed reply)
      where
        listed : (reply : Reply) → follow_on (requests.List kinds.PersistentVolume None) reply kinds.PersistentVolumeClaim Unlisted ≡ Unlisted
        listed (replies.Listed items version) = refl
        listed _ = refl

-- ---- how a drain begins

-- the run of its first actor, and what came after it
pub record DrainBegins (d : Drainer) (h past : List Entry) (b : ℕ) : Type 0 where
  pub after : ActorState
  pub middle : List Entry
  pub left : ℕ
  pub idle : Bool
  pub runs : Runs all_pass d.seat after middle left idle (woken d.actor) h b
  pub later : List Entry
  pub are : past ≡ later ++ middle

round_begins : (past : List Entry) (left : ℕ) (ds : List Drainer) (h : List Entry) (b : ℕ) (after : List Drainer) (whole : Bool) (d : Drainer)
    → slice_get ds 0 ≡ Some d → IsRound all_pass past left ds h b after whole → DrainBegins d h past b
round_begins past left ds h b after whole d there (Ends entries same) = none_some there
round_begins past left ds h b after whole d there (Turns x ran middle rest idle seat runs others) =
    let l = round_longer _ _ _ _ _ _ _ others in
    record {
      after = ran.actor;
      middle = middle;
      left = rest;
      idle = idle;
      runs = subst (λ (y : Drainer). Runs all_pass y.seat ran.actor middle rest idle (woken y.actor) h b) (one x d there) runs;
      later = l.added;
      are = l.are;
    }

drain_begins : (setup : Setup) (after : List Drainer) (past : List Entry) (left : ℕ) (ds : List Drainer) (h : List Entry) (b : ℕ) (d : Drainer)
    → past ≢ h → slice_get ds 0 ≡ Some d → Drains all_pass setup after past left ds h b → DrainBegins d h past b × (0 < b)
drain_begins setup after past left ds h b d more at (NothingDue settled same entries rest) = absurd (more entries)
drain_begins setup after past left ds h b d more at (IsSpent first due none same entries rest) = absurd (more entries)
drain_begins setup after past left ds h b d more at (Goes first due some between middle rest whole round goes) =
    let begins = round_begins middle rest ds h b between whole d at round in
    let l = drains_longer _ _ _ _ _ _ _ goes in (
      record {
        after = begins.after;
        middle = begins.middle;
        left = begins.left;
        idle = begins.idle;
        runs = begins.runs;
        later = l.added ++ begins.later;
        are = l.are ∙ ap (λ es. l.added ++ es) begins.are ∙ sym (append_assoc l.added begins.later begins.middle);
      },
      some,
    )

-- the actors of a drain begin with the scheduler

first_is : (ds : List Drainer) (seat : ℕ) (role : Role) (other_seats : List ℕ) (other_roles : List Role) → seats_of ds ≡ seat ∷ other_seats
    → roles_of ds ≡ role ∷ other_roles → (d : Drainer) × (slice_get ds 0 ≡ Some d) × (d.seat ≡ seat) × (d.actor.role ≡ role)
first_is [] seat role ss rs at_seats at_roles = none_some (ap (λ (xs : List ℕ). slice_get xs 0) at_seats)
first_is (d ∷ ds) seat role ss rs at_seats at_roles =
    (d, refl, one d.seat seat (ap (λ (xs : List ℕ). slice_get xs 0) at_seats), one d.actor.role role (ap (λ (xs : List Role). slice_get xs 0) at_roles))

-- the actors of the last drain of a replay
pub last_drainers : (script : Script) (option : Option ℕ) (past : List Entry) (ending : Drained) (r : IsReplay script option past ending) → AreDrainers script (drain_seat script) option r.lines_done
last_drainers script option past ending r =
    all_lines_keep_drainers script (drain_seat script) option r.lines_done script.lines (first_progress option r.drainers) r.moves
    (new_ones_are_drainers script (drain_seat script) option (first_progress option r.drainers) r.new)

-- the first call of a drain that makes one
pub record FirstCall (seat : ℕ) (h past : List Entry) : Type 0 where
  pub entry : Entry
  pub later : List Entry
  pub are : past ≡ later ++ entry ∷ h
  pub of_seat : entry.seat ≡ seat
  pub of_kind : entry.kind ≡ seats.Scheduler
  pub was_told : entry.told ≡ true
  pub asks : entry.request ≡ requests.List kinds.PersistentVolume None

-- and the second of one that may make two
pub record SecondCall (h past : List Entry) : Type 0 where
  pub first : Entry
  pub entry : Entry
  pub later : List Entry
  pub are : past ≡ later ++ entry ∷ first ∷ h
  pub kind : Kind
  pub asks : entry.request ≡ requests.List kind None

module _ (script : Script) (option : Option ℕ) (before after : Progress) (drain : IsDrain all_pass script option before after)
    (are : AreDrainers script (drain_seat script) option before) (more : after.past ≢ before.past) (none : own (drain_seat script + 2) before.past ≡ []) where
  past_is : after.past ≡ drain.past
  past_is = ap (λ (p : Progress). p.past) drain.is

  head : (d : Drainer) × (slice_get before.drainers 0 ≡ Some d) × (d.seat ≡ drain_seat script + 2) × (d.actor.role ≡ of_kind seats.Scheduler)
  head = first_is before.drainers (drain_seat script + 2) (of_kind seats.Scheduler) _ _ are.seats are.roles

  begins : DrainBegins head.0 before.past drain.past (drain.budget - before.drained)
  begins = (drain_begins _ _ _ _ _ _ _ head.0 (λ same. more (past_is ∙ same)) head.1 drain.rounds).0

  some_left : 0 < drain.budget - before.drained
  some_left = (drain_begins _ _ _ _ _ _ _ head.0 (λ same. more (past_is ∙ same)) head.1 drain.rounds).1

  nothing_told : own head.0.seat before.past ≡ []
  nothing_told = ap (λ s. own s before.past) head.2 ∙ none

  run : RunBegins head.0.seat begins.after begins.middle begins.left begins.idle (woken head.0.actor) before.past (drain.budget - before.drained) kinds.PersistentVolume
  run = run_begins _ _ _ _ _ _ _ _ kinds.PersistentVolume head.3 tt (subst (NeverListed kinds.PersistentVolume) (sym nothing_told) refl) some_left begins.runs

  pub first_call : FirstCall (drain_seat script + 2) before.past after.past
  first_call =
      let l = run_longer _ _ _ _ _ _ _ _ run.goes in
      record {
        entry = run.entry;
        later = begins.later ++ l.added;
        are = past_is ∙ begins.are ∙ ap (λ es. begins.later ++ es) l.are ∙ sym (append_assoc begins.later l.added (run.entry ∷ before.past));
        of_seat = run.of_seat ∙ head.2;
        of_kind = run.of_kind;
        was_told = run.was_told;
        asks = run.asks ∙ ap (λ k. requests.List k None) volumes;
      }
    where
      lacking : first_unlisted head.0.actor.caches (kinds_of seats.Scheduler) ≡ Some run.kind
      lacking = ap (λ (r : Role). first_unlisted head.0.actor.caches (kinds_of r.kind)) (sym head.3) ∙ run.lacks

      volumes : run.kind ≡ kinds.PersistentVolume
      volumes =
          one run.kind kinds.PersistentVolume
          (sym lacking ∙ ap (λ b. if b then first_unlisted head.0.actor.caches
          (kinds.PersistentVolumeClaim ∷ kinds.StorageClass ∷ kinds.Node ∷ kinds.Pod ∷ []) else Some kinds.PersistentVolume) run.without)

  pub second_call : 1 < drain.budget - before.drained → SecondCall before.past after.past
  unfolding run first_call
  second_call two =
      let next = run_begins _ _ _ _ _ _ _ _ kinds.PersistentVolumeClaim (run.role ∙ head.3) tt never (omega (arith, two)) run.goes in
      let l = run_longer _ _ _ _ _ _ _ _ next.goes in
      record {
        first = run.entry;
        entry = next.entry;
        later = begins.later ++ l.added;
        are = past_is ∙ begins.are ∙ ap (λ es. begins.later ++ es) l.are ∙ sym (append_assoc begins.later l.added (next.entry ∷ run.entry ∷ before.past));
        kind = next.kind;
        asks = next.asks;
      }
    where
      mine : own head.0.seat (run.entry ∷ before.past) ≡ run.entry ∷ []
      mine = own_mine run.entry before.past head.0.seat run.of_seat ∙ ap (λ es. run.entry ∷ es) nothing_told

      never : NeverListed kinds.PersistentVolumeClaim (own head.0.seat (run.entry ∷ before.past))
      never = subst (NeverListed kinds.PersistentVolumeClaim) (sym mine) (claims_unlisted run.entry first_call.asks, refl)
