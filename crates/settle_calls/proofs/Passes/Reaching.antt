-- How far an actor has come with the kinds that it follows: what it reads is no older than its slot, and a kind behind its pass is as it stands.
use Rattle.std.proofs.Common.{◌≡◌, ◌∙◌, ◌⊎◌, ℕ, ◌+◌, ◌≤◌, ◌<◌, List, [], ◌∷◌, length, Bool, true, false, Option, Some, None, inl, inr, refl, sym, ap, subst, arith, if◌then◌else◌}
use Rattle.std.specs.Prelude.{◌==◌, nat_lt, not, option_map}
use Rattle.std.proofs.lemmas.Bool.Decides.{nat_tests}
use Rattle.kube_parts.specs.declared.parts.Kind.{Kind}
use Rattle.kube_objects.specs.Keys.{same_kind}
use Rattle.kube_objects.proofs.SameKeys.{same_kind-Decides}
use Rattle.call_types.specs.declared.entry.Entry.{Entry}
use Rattle.call_types.specs.declared.reply.Reply.{Reply}
use Rattle.call_types.specs.declared.reply.Reply.TheVariants as replies
use Rattle.call_types.specs.declared.request.Request.{Request}
use Rattle.call_types.specs.declared.request.Request.TheVariants as requests
use Rattle.call_types.specs.declared.setup.Setup.{Setup}
use Rattle.call_types.specs.Kinds.{reads_kind}
use Rattle.binder_model.specs.Told.{own}
use Rattle.binder_model.specs.Watching.{most_events, told_events}
use Rattle.informer_cache.specs.All.{AllKnown}
use Rattle.model_laws.proofs.Lists.{none_some, one}
use Rattle.model_laws.proofs.Uids.{rises}
use Rattle.worker_core.specs.declared.role.Role.{Role}
use Rattle.worker_core.specs.declared.task.Under.{Under}
use Rattle.worker_core.specs.declared.turn.Given.{Given}
use Rattle.worker_core.specs.declared.turn.Given.TheVariants as givens
use Rattle.worker_core.specs.declared.turn.Next.TheVariants.{Call}
use Rattle.worker_core.specs.declared.turn.Outcome.TheVariants.{Told}
use Rattle.worker_core.specs.declared.turn.Pass.{Pass}
use Rattle.worker_core.specs.Absorbs.{given_told, is_passing, learned, pass_after, read_told, task_told, told_to}
use Rattle.worker_core.specs.Memories.{Memory}
use Rattle.worker_core.specs.Roles.{IsBuiltKind, kind_in_order, kinds_of}
use Rattle.worker_core.specs.States.{ActorState, asked, call_in, call_under, given_call, start_call}
use Rattle.worker_core.specs.Turns.{IsTurn, TurnBy, passing, unlisted}
use Rattle.worker_core.proofs.Answered.{gives_asked, passed}
use Rattle.worker_core.proofs.ByKind.{placed}
use Rattle.worker_core.proofs.PassRules.{watches_follow}
use Rattle.worker_core.proofs.Turning.{turn_stands}
use Rattle.attention_law.proofs.Kept.{turns_queues}
use Rattle.attention_law.proofs.Turned.{answer_role, calls_fresh}
use Rattle.actor_rounds.specs.Rounds.{IsReady, told_entry}
use Rattle.actor_rounds.proofs.RunFacts.{turn_memory}
use Rattle.worker_core.proofs.Answered.{turn_role}
use Rattle.settle_calls.proofs.Events.Calls.{gone_from, listed_from, unread_from, watched_from}
use Rattle.settle_calls.proofs.Events.Events.{told_so}
use Rattle.settle_calls.proofs.Passes.First.{nil_right}
use Rattle.settle_calls.proofs.Passes.Given.{FindsGone, GivenSo, GivesRead, GivesStart, GivesTask, IsTold, Lists, Reads, given_so, read_called, start_called, task_called}
use Rattle.settle_calls.proofs.Events.Points.{WritesLight}
use Rattle.settle_calls.specs.Events.Telling.{told}
use Rattle.binder_model.specs.World.{IsHistory, base as base_of, world}
use Rattle.settle_calls.specs.Events.Ahead.{from_of}
use Rattle.settle_calls.specs.Passes.Passes.{IsCallGiven, KindsHaveReached}

pub first_low : (setup : Setup) (h : List Entry) → base_of setup ≤ (world setup h).store.version
first_low setup h = subst (λ es. base_of setup ≤ (world setup es).store.version) (nil_right h) (rises setup h [])

-- what was reached, after one call
module _ (setup : Setup) (seat base : ℕ) (x : ActorState) (request : Request) (reply : Reply) (h : List Entry)
    (given : IsCallGiven setup seat x request reply h) (begun : base ≤ (world setup h).store.version) where
  pub light_of : WritesLight x.role.kind reply
  light_of = by (given_so x request given.ask)
    where
      by : GivenSo x → WritesLight x.role.kind reply
      by (GivesTask e) = (task_called setup seat x request reply h given e).light
      by (GivesStart e) = (start_called setup seat x request reply h given e).light
      by (GivesRead kind e) = (read_called setup seat x request reply h given kind e).light

  -- a kind has reached so far, whether it is the one that was read or not
  pub reached_on : (k : Kind) (from : ℕ) → ((f : ℕ) → from_of seat h k ≡ Some f → base ≤ f) → from_of seat (told_entry seat x request reply ∷ h) k ≡ Some from → base ≤ from
  reached_on k from before is = by (given_so x request given.ask)
    where
      kept : reads_kind k request ≡ false → base ≤ from
      kept unread = before from (sym (unread_from seat (told_entry seat x request reply) h refl refl k unread) ∙ is)

      read_it : (kind : Kind) → Reads setup seat x kind request reply h → (b : Bool) → same_kind kind k ≡ b → base ≤ from
      read_it kind (Lists none asks answered) false other = kept (ap (reads_kind k) asks ∙ other)
      read_it kind (FindsGone f gone some passes asks old answered) false other = kept (ap (reads_kind k) asks ∙ other)
      read_it kind (IsTold f some passes asks low within answered) false other = kept (ap (reads_kind k) asks ∙ other)
      read_it kind (Lists none asks answered) true same =
          let k_is : kind ≡ k = (same_kind-Decides kind k).0 same in
          let now = listed_from seat (told_entry seat x request reply) h refl refl kind _ (world setup h).store.version asks answered in
          let v = one (world setup h).store.version from (sym now ∙ (ap (from_of seat (told_entry seat x request reply ∷ h)) k_is ∙ is)) in
          omega (arith, v, begun)
      read_it kind (FindsGone f gone some passes asks old answered) true same =
          let k_is : kind ≡ k = (same_kind-Decides kind k).0 same in
          none_some (sym (gone_from seat (told_entry seat x request reply) h refl refl kind f gone asks answered) ∙ (ap (from_of seat (told_entry seat x request reply ∷ h)) k_is ∙ is))
      read_it kind (IsTold f some passes asks low within answered) true same =
          let k_is : kind ≡ k = (same_kind-Decides kind k).0 same in
          let now = watched_from seat (told_entry seat x request reply) h refl refl kind f f (world setup h).store.version (world setup h).log asks answered some in
          let u = one (told_events kind f (world setup h).store.version (world setup h).log).upto from (sym now ∙ (ap (from_of seat (told_entry seat x request reply ∷ h)) k_is ∙ is)) in
          let old = before f (ap (from_of seat h) (sym k_is) ∙ some) in
          up_to (length (told kind f (world setup h).log) == most_events) refl u old
        where
          up_to : (full : Bool) → (length (told kind f (world setup h).log) == most_events) ≡ full
              → (told_events kind f (world setup h).store.version (world setup h).log).upto ≡ from → base ≤ f → base ≤ from
          up_to true e u old = let r = (told_so setup h kind f true low e).reached refl in omega (arith, r, u, old)
          up_to false e u old = let r = (told_so setup h kind f false low e).whole refl in omega (arith, r, u, begun)

      by : GivenSo x → base ≤ from
      by (GivesTask e) = kept ((task_called setup seat x request reply h given e).unread k)
      by (GivesStart e) = kept ((start_called setup seat x request reply h given e).unread k)
      by (GivesRead kind e) = read_it kind (read_called setup seat x request reply h given kind e).reads (same_kind kind k) refl

-- a turn decides keys past the pass, or leaves all but what is given
pub data TurnOf (s given : ActorState) : Type 0 where
  IsPast : s.under ≡ None → unlisted s ≡ None → passing s ≡ None → TurnOf s given
  IsBefore : (g : Option Given) → given ≡ record s { given = g } → TurnOf s given

pub turn_of : (s given : ActorState) (request : Request) → IsTurn s given (Call request) → TurnOf s given
turn_of s given request turn = by s.memory.stale s.under (start_call s.role s.memory) (unlisted s) (passing s) refl refl refl turn
  where
    by : (stale : Bool) (u : Option Under) (start : Option Request) (l p : Option Kind) → s.under ≡ u → unlisted s ≡ l → passing s ≡ p
        → TurnBy s given (Call request) stale u start l p → TurnOf s given
    by true u start l p eu el ep t = none_some (sym (ap call_in t.idle))
    by false (Some u) start l p eu el ep t = IsBefore (Some givens.Task) t.state
    by false None (Some r) l p eu el ep t = IsBefore (Some givens.Start) t.state
    by false None None (Some k) p eu el ep t = IsBefore (Some (givens.Read k)) t.state
    by false None None None (Some k) eu el ep t = IsBefore (Some (givens.Read k)) t.state
    by false None None None None eu el ep t = IsPast eu el ep

-- how far the pass goes on with one call
pub data PassOn (seat : ℕ) (x next : ActorState) (entries : List Entry) (version : ℕ) : Type 0 where
  Stands : next.pass.behind ≡ x.pass.behind → PassOn seat x next entries version
  GoesOn : (kind : Kind) → kind_in_order x.role x.pass.behind ≡ Some kind → from_of seat entries kind ≡ Some version → next.pass.behind ≡ x.pass.behind + 1 → PassOn seat x next entries version

-- nothing is under way after the answer to a call that is no task's
pub none_told : (x : ActorState) (request : Request) (reply : Reply) (caches : AllKnown) → x.under ≡ None → asked x ≡ Some request → (told_to x caches request reply).under ≡ None
none_told x request reply caches none ask = by (given_so x request ask)
  where
    by : GivenSo x → (told_to x caches request reply).under ≡ None
    by (GivesTask e) = none_some (sym (ap (option_map call_under) none) ∙ (ap (given_call x) (sym e) ∙ ask))
    by (GivesStart e) = ap (λ (y : ActorState). y.under) (ap (given_told (learned x caches request reply) request reply) e) ∙ none
    by (GivesRead kind e) = ap (λ (y : ActorState). y.under) (ap (given_told (learned x caches request reply) request reply) e) ∙ none

pub at_or_before : (i n : ℕ) → i < n + 1 → (i < n) ⊎ (i ≡ n)
at_or_before i n lt = by (nat_lt i n) refl
  where
    by : (b : Bool) → nat_lt i n ≡ b → (i < n) ⊎ (i ≡ n)
    by true e = inl (grind (arith, nat_tests))
    by false e = inr (grind (arith, nat_tests))

-- one seat

module _ (setup : Setup) (seat : ℕ) where
  -- a call that was given and told
  pub given_at : (s given : ActorState) (h : List Entry) (request : Request) (reply : Reply) → IsBuiltKind s.role.kind → IsReady seat s h
      → IsTurn s given (Call request) → IsHistory setup (told_entry seat given request reply ∷ h) → IsCallGiven setup seat given request reply h
  given_at s given h request reply built ready turn whole = record {
    built = subst (λ (r : Role). IsBuiltKind r.kind) (sym (turn_role s given (Call request) turn)) built;
    stands = turn_stands s given (Call request) (own seat h) ready.rows ready.stands.told turn;
    queue = turns_queues s given (Call request) turn ready.stands.queue;
    ask = sym (gives_asked s given (Call request) turn);
    fresh = ap (λ (x : Memory). x.stale) (turn_memory s given (Call request) turn) ∙ calls_fresh s given request turn;
    history = whole;
    passes = λ kind from eg is. watches_follow s given (Call request) kind from turn eg (ap Call is);
  }

  -- the kinds behind the pass have reached a version
  abbrev pub ReachedBehind : ℕ → Role → Pass → List Entry → Type 0
  ReachedBehind reached role pass h = (place : ℕ) (kind : Kind) (from : ℕ) → place < pass.behind → kind_in_order role place ≡ Some kind → from_of seat h kind ≡ Some from → reached ≤ from

  pub pass_on : (x : ActorState) (request : Request) (reply : Reply) (h : List Entry) (given : IsCallGiven setup seat x request reply h)
      (caches : AllKnown) → PassOn seat x (told_to x caches request reply) (told_entry seat x request reply ∷ h) (world setup h).store.version
  pass_on x request reply h given caches = by (given_so x request given.ask)
    where
      is_read : (kind : Kind) → x.given ≡ Some (givens.Read kind) → told_to x caches request reply ≡ read_told (learned x caches request reply) kind request reply
      is_read kind eg = ap (given_told (learned x caches request reply) request reply) eg

      behind_is : (kind : Kind) (q : Request) (a : Reply) → x.given ≡ Some (givens.Read kind) → request ≡ q → reply ≡ a
          → (told_to x caches request reply).pass.behind ≡ (pass_after x.pass (is_passing (passing x) kind) q a).behind
      behind_is kind q a eg asks answered = ap (λ (y : ActorState). y.pass.behind) (is_read kind eg)
          ∙ (ap (λ r. (pass_after x.pass (is_passing (passing x) kind) r reply).behind) asks ∙ ap (λ r. (pass_after x.pass (is_passing (passing x) kind) q r).behind) answered)

      told_by : (kind : Kind) (from : ℕ) → x.given ≡ Some (givens.Read kind) → from_of seat h kind ≡ Some from → passing x ≡ Some kind
          → request ≡ requests.Watch kind from → from ≤ (world setup h).store.version → reply ≡ replies.Events (told_events kind from (world setup h).store.version (world setup h).log)
          → (full : Bool) → (length (told kind from (world setup h).log) == most_events) ≡ full
          → PassOn seat x (told_to x caches request reply) (told_entry seat x request reply ∷ h) (world setup h).store.version
      told_by kind from eg some passes asks low answered full e = with_full full e
        where
          goes : (f : Bool) → (length (told kind from (world setup h).log) == most_events) ≡ f → (told_to x caches request reply).pass.behind ≡ (if not f then x.pass.behind + 1 else x.pass.behind)
          goes f e2 =
              let is_p : is_passing (passing x) kind ≡ true = ap (λ k. is_passing k kind) passes ∙ (same_kind-Decides kind kind).1 refl in
              behind_is kind (requests.Watch kind from) _ eg asks answered
              ∙ (ap (λ p. (pass_after x.pass p (requests.Watch kind from)
              (replies.Events (told_events kind from (world setup h).store.version (world setup h).log))).behind) is_p ∙ ap (λ f. if not f then x.pass.behind + 1 else x.pass.behind) e2)

          with_full : (f : Bool) → (length (told kind from (world setup h).log) == most_events) ≡ f
              → PassOn seat x (told_to x caches request reply) (told_entry seat x request reply ∷ h) (world setup h).store.version
          with_full true e2 = Stands (goes true e2)
          with_full false e2 =
              let now = watched_from seat (told_entry seat x request reply) h refl refl kind from from (world setup h).store.version (world setup h).log asks answered some in
              GoesOn kind passes (now ∙ ap Some ((told_so setup h kind from false low e2).whole refl)) (goes false e2)

      read_by : (kind : Kind) → x.given ≡ Some (givens.Read kind) → Reads setup seat x kind request reply h
          → PassOn seat x (told_to x caches request reply) (told_entry seat x request reply ∷ h) (world setup h).store.version
      read_by kind eg (Lists none asks answered) = Stands (behind_is kind (requests.List kind None) reply eg asks refl)
      read_by kind eg (FindsGone from gone some passes asks old answered) = Stands (behind_is kind (requests.Watch kind from) _ eg asks answered)
      read_by kind eg (IsTold from some passes asks low within answered) = told_by kind from eg some passes asks low answered (length (told kind from (world setup h).log) == most_events) refl

      by : GivenSo x → PassOn seat x (told_to x caches request reply) (told_entry seat x request reply ∷ h) (world setup h).store.version
      by (GivesTask eg) =
          let t = task_called setup seat x request reply h given eg in
          Stands (ap (λ (y : ActorState). y.pass.behind) (ap (given_told (learned x caches request reply) request reply) eg ∙ ap (task_told (learned x caches request reply) reply) t.there))
      by (GivesStart eg) = Stands (ap (λ (y : ActorState). y.pass.behind) (ap (given_told (learned x caches request reply) request reply) eg))
      by (GivesRead kind eg) = read_by kind eg (read_called setup seat x request reply h given kind eg).reads

  -- and those behind it after one call have too
  pub behind_on : (version : ℕ) (x : ActorState) (request : Request) (reply : Reply) (h : List Entry) → IsCallGiven setup seat x request reply h
      → version ≤ (world setup h).store.version → ReachedBehind version x.role x.pass h → (caches : AllKnown)
      → ReachedBehind version (told_to x caches request reply).role (told_to x caches request reply).pass (told_entry seat x request reply ∷ h)
  behind_on version x request reply h given begun behind caches place kind from lt there is = on (pass_on x request reply h given caches)
    where
      role : (told_to x caches request reply).role ≡ x.role
      role = answer_role x caches request (Told reply)

      there_before : kind_in_order x.role place ≡ Some kind
      there_before = ap (λ (r : Role). kind_in_order r place) (sym role) ∙ there

      kept : place < x.pass.behind → version ≤ from
      kept before = reached_on setup seat version x request reply h given begun kind from (λ f e. behind place kind f before there_before e) is

      on : PassOn seat x (told_to x caches request reply) (told_entry seat x request reply ∷ h) (world setup h).store.version → version ≤ from
      on (Stands stays) = kept (omega (arith, lt, stays))
      on (GoesOn k at_k reached_k goes) = elim (at_or_before place x.pass.behind (omega (arith, lt, goes))) [
        | inl before ↦ kept before
        | inr here ↦
            let k_is : Some k ≡ Some kind = sym at_k ∙ (ap (kind_in_order x.role) (sym here) ∙ there_before) in
            let v = one (world setup h).store.version from (sym reached_k ∙ (ap (from_of seat (told_entry seat x request reply ∷ h)) (one k kind k_is) ∙ is)) in
            omega (arith, v, begun)
      ]

  -- so past the pass each kind has
  pub reached_all : (base : ℕ) (role : Role) (pass : Pass) (h : List Entry) → ReachedBehind base role pass h → kind_in_order role pass.behind ≡ None → KindsHaveReached base seat role.kind h
  reached_all base role pass h behind over kind from f is =
      let p = placed role.kind kind f in
      let within = p.within in
      let all = passed (kinds_of role.kind) pass.behind over in
      behind p.place kind from (omega (arith, within, all)) p.at is
