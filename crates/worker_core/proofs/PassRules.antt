-- When passes begin, have an event and go on.
use Rattle.std.proofs.Common.{◌≡◌, ◌≢◌, ◌⊎◌, ℕ, ◌+◌, List, [], ◌∷◌, length, Bool, true, false, true≢false, Option, Some, None, inl, inr, refl, sym, ◌∙◌, ap, subst, if◌then◌else◌}
use Rattle.std.specs.Prelude.{◌==◌, ◌&&◌, ◌||◌, not, is_some}
use Rattle.std.proofs.lemmas.Bool.Decides.{Decides-eqb}
use Rattle.kube_parts.specs.declared.parts.Kind.{Kind}
use Rattle.call_types.specs.declared.request.Request.{Request}
use Rattle.call_types.specs.declared.request.Request.TheVariants as requests
use Rattle.call_types.specs.declared.reply.Event.{Event}
use Rattle.call_types.specs.declared.reply.Reply.{Reply}
use Rattle.call_types.specs.declared.reply.Reply.TheVariants as replies
use Rattle.binder_model.specs.Watching.{most_events}
use Rattle.informer_cache.specs.Cache.{ask_from}
use Rattle.informer_cache.specs.All.{AllKnown, cache_of}
use Rattle.model_laws.proofs.Lists.{none_some, one}
use Rattle.sync_queue.specs.Work.{Work}
use Rattle.worker_core.specs.declared.task.Under.{Under}
use Rattle.worker_core.specs.declared.turn.Given.{Given}
use Rattle.worker_core.specs.declared.turn.Given.TheVariants as givens
use Rattle.worker_core.specs.declared.turn.Next.{Next}
use Rattle.worker_core.specs.declared.turn.Next.TheVariants as nexts
use Rattle.worker_core.specs.declared.turn.Outcome.TheVariants as outcomes
use Rattle.worker_core.specs.declared.turn.Pass.{Pass}
use Rattle.worker_core.specs.Absorbs.{absorbed, given_told, is_none_of, is_passing, learned, lost_given, lost_under, pass_after, task_told, woken}
use Rattle.worker_core.specs.Roles.{kind_in_order, kinds_of}
use Rattle.worker_core.specs.Rules.{BroughtEvent, EventsAreBrought, PassesBegin, PassesGoOn, WatchesFollowThePass, WokenIsBusy}
use Rattle.worker_core.specs.States.{ActorState, call_in, read_of_kind, read_request, start_call}
use Rattle.worker_core.specs.Turns.{AfterKeys, IsTurn, TurnBy, first_unlisted, is_listed, passing, unlisted}
use Rattle.worker_core.proofs.Quiet.{itself}

abbrev pass_of : ActorState → Pass
pass_of s = s.pass

abbrev BeginsOne : ActorState → ActorState → Type 0
BeginsOne s new = (s.pass.event ≡ true) × (passing s ≡ None) × (new.pass ≡ record { behind = 0; event = false })

pub passes_begin : PassesBegin
passes_begin s new answer = by s.memory.stale s.under (start_call s.role s.memory) (unlisted s) (passing s) refl
  where
    keys : (w : Work) (under : Option Under) → passing s ≡ None → AfterKeys s new answer w under → new.pass ≢ s.pass → BeginsOne s new
    keys w (Some u) over b other = absurd (other (ap pass_of b.state))
    keys w None over (inl b) other = (b.brought, over, ap pass_of b.state)
    keys w None over (inr b) other = absurd (other (ap pass_of b.state))

    by : (stale : Bool) (u : Option Under) (start : Option Request) (l p : Option Kind) → passing s ≡ p → TurnBy s new answer stale u start l p → new.pass ≢ s.pass → BeginsOne s new
    by true u start l p over t other = absurd (other (ap pass_of t.state))
    by false (Some u) start l p over t other = absurd (other (ap pass_of t.state))
    by false None (Some request) l p over t other = absurd (other (ap pass_of t.state))
    by false None None (Some kind) p over t other = absurd (other (ap pass_of t.state))
    by false None None None (Some kind) over t other = absurd (other (ap pass_of t.state))
    by false None None None None over t other = keys t.work t.under over t.then_ other

-- events

filled : (es : List Event) → not (is_none_of es) ≡ true → es ≢ []
filled [] e same = true≢false (sym e)
filled (x ∷ es) e same = none_some (sym (ap head same))
  where
    head : List Event → Option Event
    head [] = None
    head (y ∷ ys) = Some y

or_right : (a b : Bool) → (a || b) ≡ true → a ≡ false → b ≡ true
or_right true b e f = absurd (true≢false f)
or_right false b e f = e

pass_brought : (pass : Pass) (passes : Bool) (request : Request) (reply : Reply) → (pass_after pass passes request reply).event ≡ true → pass.event ≡ false → BroughtEvent request (outcomes.Told reply)
pass_brought pass passes (requests.Watch k from) (replies.Events events) e f = filled events.events (or_right pass.event _ e f)
pass_brought pass passes (requests.Watch k from) _ e f = tt
pass_brought pass passes _ reply e f = absurd (true≢false (sym e ∙ f))

told_brought : (s : ActorState) (caches : AllKnown) (request : Request) (reply : Reply) (g : Option Given)
    → (given_told (learned s caches request reply) request reply g).pass.event ≡ true → s.pass.event ≡ false → BroughtEvent request (outcomes.Told reply)
told_brought s caches request reply None e f = absurd (true≢false (sym e ∙ f))
told_brought s caches request reply (Some givens.Start) e f = absurd (true≢false (sym e ∙ f))
told_brought s caches request reply (Some (givens.Read kind)) e f = pass_brought s.pass (is_passing (passing s) kind) request reply e f
told_brought s caches request reply (Some givens.Task) e f = by s.under e
  where
    by : (u : Option Under) → (task_told (learned s caches request reply) reply u).pass.event ≡ true → BroughtEvent request (outcomes.Told reply)
    by None h = absurd (true≢false (sym h ∙ f))
    by (Some u) h = absurd (true≢false (sym h ∙ f))

lost_pass : (s : ActorState) (g : Option Given) → (lost_given s g).pass ≡ s.pass
lost_pass s None = refl
lost_pass s (Some givens.Start) = refl
lost_pass s (Some (givens.Read kind)) = refl
lost_pass s (Some givens.Task) = by s.under
  where
    by : (u : Option Under) → (lost_under s u).pass ≡ s.pass
    by None = refl
    by (Some u) = refl

pub events_are_brought : EventsAreBrought
events_are_brought s caches request (outcomes.Told reply) e f = told_brought s caches request reply s.given e f
events_are_brought s caches request outcomes.Lost e f = absurd (true≢false (sym e ∙ ap (λ (p : Pass). p.event) (lost_pass s s.given) ∙ f))

-- going on

pub passes_go_on : PassesGoOn
passes_go_on s caches kind from outcomes.Lost given next = inr tt
passes_go_on s caches kind from (outcomes.Told (replies.Events events)) given next = by (length events.events == most_events) refl
  where
    passes : is_passing (passing s) kind ≡ true
    passes = ap (λ o. is_passing o kind) next ∙ itself kind

    behind_of : ActorState → ℕ
    behind_of x = x.pass.behind

    after : (absorbed s caches (requests.Watch kind from) (outcomes.Told (replies.Events events))).pass.behind
        ≡ (if is_passing (passing s) kind && not (length events.events == most_events) then s.pass.behind + 1 else s.pass.behind)
    after = ap (λ g. behind_of (given_told (learned s caches (requests.Watch kind from) (replies.Events events)) (requests.Watch kind from) (replies.Events events) g)) given

    by : (full : Bool) → (length events.events == most_events) ≡ full
        → ((absorbed s caches (requests.Watch kind from) (outcomes.Told (replies.Events events))).pass.behind ≡ s.pass.behind + 1) ⊎ (length events.events ≡ most_events)
    by true is = inr ((Decides-eqb (length events.events) most_events).0 is)
    by false is = inl (after ∙ ap (λ b. if b && not (length events.events == most_events) then s.pass.behind + 1 else s.pass.behind) passes
        ∙ ap (λ b. if not b then s.pass.behind + 1 else s.pass.behind) is)
passes_go_on s caches kind from (outcomes.Told _) given next = inr tt

-- watches

abbrev is_watch : Request → Bool
is_watch (requests.Watch kind from) = true
is_watch request = false

pub unlisted_not : (c : AllKnown) (kinds : List Kind) (kind : Kind) → first_unlisted c kinds ≡ Some kind → is_listed c kind ≡ false
unlisted_not c [] kind e = none_some e
unlisted_not c (k ∷ kinds) kind e = by (is_listed c k) refl e (unlisted_not c kinds kind)
  where
    by : (b : Bool) → is_listed c k ≡ b → (if b then first_unlisted c kinds else Some k) ≡ Some kind → (first_unlisted c kinds ≡ Some kind → is_listed c kind ≡ false) → is_listed c kind ≡ false
    by true is h more = more h
    by false is h more = subst (λ x. is_listed c x ≡ false) (one k kind h) is

lists : (f : Option ℕ) (kind : Kind) → is_some f ≡ false → is_watch (read_request kind (ask_from f)) ≡ false
lists None kind e = refl
lists (Some from) kind e = absurd (true≢false e)

abbrev kind_in : Option Given → Option Kind
kind_in (Some (givens.Read kind)) = Some kind
kind_in g = None

abbrev given_of : ActorState → Option Given
given_of s = s.given

pub watches_follow : WatchesFollowThePass
watches_follow s new answer kind from turn given call = by s.memory.stale s.under (start_call s.role s.memory) (unlisted s) (passing s) refl refl turn
  where
    -- the turn gives the read of this kind
    read_is : (k : Kind) → given_of new ≡ Some (givens.Read k) → k ≡ kind
    read_is k is = one k kind (ap kind_in (sym is ∙ given))

    no_read : (g : Option Given) → given_of new ≡ g → kind_in g ≡ None → passing new ≡ Some kind
    no_read g is none = none_some (sym none ∙ ap kind_in (sym is ∙ given))

    keys : (w : Work) (under : Option Under) → AfterKeys s new answer w under → passing new ≡ Some kind
    keys w (Some u) b = no_read _ (ap given_of b.state) refl
    keys w None (inl b) = ap passing b.state ∙ b.first ∙ ap Some (read_is b.kind (ap given_of b.state))
    keys w None (inr b) = no_read _ (ap given_of b.state) refl

    by : (stale : Bool) (u : Option Under) (start : Option Request) (l p : Option Kind) → unlisted s ≡ l → passing s ≡ p → TurnBy s new answer stale u start l p → passing new ≡ Some kind
    by true u start l p el ep t = no_read _ (ap given_of t.state) refl
    by false (Some u) start l p el ep t = no_read _ (ap given_of t.state) refl
    by false None (Some request) l p el ep t = no_read _ (ap given_of t.state) refl
    by false None None (Some k) p el ep t =
        let none = lists (cache_of k s.caches).from k (unlisted_not s.caches (kinds_of s.role.kind) k el) in
        let watch : Some (read_of_kind s.caches k) ≡ Some (requests.Watch kind from) = ap call_in (sym t.call ∙ call) in
        absurd (true≢false (sym (ap is_watch (one _ (requests.Watch kind from) watch)) ∙ none))
    by false None None None (Some k) el ep t = ap passing t.state ∙ ep ∙ ap Some (read_is k (ap given_of t.state))
    by false None None None None el ep t = keys t.work t.under t.then_

-- after a wake

idle_passes : (s new : ActorState) (answer : Next) → IsTurn s new answer → s.memory.stale ≡ false → is_some (passing s) ≡ true → answer ≢ nexts.Idle
idle_passes s new answer turn fresh passes idle = by s.memory.stale s.under (start_call s.role s.memory) (unlisted s) (passing s) refl refl turn
  where
    no_call : (r : Request) → answer ≡ nexts.Call r → ⊥
    no_call r e = none_some (ap call_in (sym idle ∙ e))

    by : (stale : Bool) (u : Option Under) (start : Option Request) (l p : Option Kind) → s.memory.stale ≡ stale → passing s ≡ p → TurnBy s new answer stale u start l p → ⊥
    by true u start l p es ep t = true≢false (sym es ∙ fresh)
    by false (Some u) start l p es ep t = no_call _ t.call
    by false None (Some request) l p es ep t = no_call _ t.call
    by false None None (Some kind) p es ep t = no_call _ t.call
    by false None None None (Some kind) es ep t = no_call _ t.call
    by false None None None None es ep t = true≢false (sym passes ∙ ap is_some ep)

pub woken_busy : (s : ActorState) → is_some (kind_in_order s.role 0) ≡ true → WokenIsBusy (woken s)
woken_busy s some new answer turn fresh = idle_passes (woken s) new answer turn fresh some
