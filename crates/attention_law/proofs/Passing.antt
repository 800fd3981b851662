-- What an answer without news makes of the pass.
use Rattle.std.proofs.Common.{◌≡◌, ℕ, ◌+◌, List, ◌∷◌, length, Bool, true, false, true≢false, Option, Some, None, inl, inr, refl, sym, ◌∙◌, ap, subst, arith}
use Rattle.std.proofs.lemmas.Bool.{not-false}
use Rattle.kube_parts.specs.declared.parts.Kind.{Kind}
use Rattle.call_types.specs.declared.entry.Entry.{Entry}
use Rattle.call_types.specs.declared.request.Request.{Request}
use Rattle.call_types.specs.declared.request.Request.TheVariants as requests
use Rattle.call_types.specs.declared.reply.Refusal.TheVariants.{Gone}
use Rattle.call_types.specs.declared.reply.Reply.{Reply}
use Rattle.call_types.specs.declared.reply.Reply.TheVariants as replies
use Rattle.informer_cache.specs.declared.cache.NextRead.{NextRead}
use Rattle.informer_cache.specs.declared.cache.NextRead.TheVariants as asks
use Rattle.informer_cache.specs.Cache.{IsTold, ask_of}
use Rattle.informer_cache.specs.All.{AllKnown, cache_of}
use Rattle.model_laws.proofs.Lists.{none_some, one}
use Rattle.worker_core.specs.declared.task.Under.{Under}
use Rattle.worker_core.specs.declared.turn.Given.{Given}
use Rattle.worker_core.specs.declared.turn.Given.TheVariants as givens
use Rattle.worker_core.specs.declared.turn.Next.TheVariants as nexts
use Rattle.worker_core.specs.declared.turn.Outcome.TheVariants as outcomes
use Rattle.worker_core.specs.declared.turn.Pass.{Pass}
use Rattle.worker_core.specs.Absorbs.{absorbed, given_told, learned, pass_after, task_told}
use Rattle.worker_core.specs.Roles.{IsBuiltKind}
use Rattle.worker_core.specs.Rules.{BroughtEvent, IsAskedAgain, IsWatchAnswer}
use Rattle.worker_core.specs.Stands.{AreOwn, StandsFor}
use Rattle.worker_core.specs.States.{ActorState, asked, given_call, read_request}
use Rattle.worker_core.specs.Turns.{IsTurn, passing}
use Rattle.worker_core.proofs.Answered.{gives_asked}
use Rattle.worker_core.proofs.ByKind.{start_reads_none}
use Rattle.worker_core.proofs.Passes.{none_of}
use Rattle.worker_core.proofs.PassRules.{events_are_brought, passes_go_on, watches_follow}
use Rattle.worker_core.proofs.Quiet.{itself}
use Rattle.worker_core.proofs.Watches.{watches_are_answered}
use Rattle.attention_law.specs.Diligence.{IsQuiet, is_news, watches_kind}
use Rattle.attention_law.specs.Resting.{is_watch}
use Rattle.attention_law.proofs.Dues.{under_no_watch}

-- what an answer without news makes of the pass: a watch is that of the pass's kind, and the pass goes on to the next
pub data Goes (s new : ActorState) (request : Request) : Type 0 where
  Stays : ((kind : Kind) → watches_kind kind request ≡ false) → new.pass ≡ s.pass → Goes s new request
  GoesOn : (kind : Kind) (from : ℕ) → request ≡ requests.Watch kind from → passing s ≡ Some kind → new.pass.behind ≡ s.pass.behind + 1
      → (s.pass.event ≡ false → new.pass.event ≡ false) → Goes s new request

-- the call that is asked is a read of the kind
module _ (s : ActorState) (mine : List Entry) (kind : Kind) (from : ℕ) (stands : StandsFor s mine) where
  abbrev kind_watched : Request → Option Kind
  kind_watched (requests.Watch k f) = Some k
  kind_watched r = None

  read_kind : (k : Kind) (ask : NextRead) → Some (read_request k ask) ≡ Some (requests.Watch kind from) → k ≡ kind
  read_kind k asks.List e = none_some (ap kind_watched (one _ (requests.Watch kind from) e))
  read_kind k (asks.Watch f) e = one k kind (ap kind_watched (one _ (requests.Watch kind from) e))

  pub given_read : asked s ≡ Some (requests.Watch kind from) → s.given ≡ Some (givens.Read kind)
  given_read = by s.given refl
    where
      by : (g : Option Given) → s.given ≡ g → given_call s g ≡ Some (requests.Watch kind from) → s.given ≡ Some (givens.Read kind)
      by None at e = none_some e
      by (Some givens.Task) at e = absurd (under_no_watch s.role s.under mine kind from stands.under_way e)
      by (Some givens.Start) at e = absurd (true≢false (sym (itself kind) ∙ start_reads_none s.role.kind s.role.node s.memory (requests.Watch kind from) kind e))
      by (Some (givens.Read k)) at e = at ∙ ap (λ x. Some (givens.Read x)) (read_kind k (ask_of (cache_of k s.caches)) e)

-- any other answer leaves the pass
module _ (s : ActorState) (caches : AllKnown) (request : Request) (reply : Reply) (other : is_watch request ≡ false) where
  pass_stays : (pass : Pass) (passes : Bool) → pass_after pass passes request reply ≡ pass
  pass_stays pass passes = by request other
    where
      by : (r : Request) → is_watch r ≡ false → pass_after pass passes r reply ≡ pass
      by (requests.Watch kind from) e = absurd (true≢false e)
      by _ e = refl

  pub told_stays : (absorbed s caches request (outcomes.Told reply)).pass ≡ s.pass
  told_stays = by s.given
    where
      task : (u : Option Under) → (task_told (learned s caches request reply) reply u).pass ≡ s.pass
      task None = refl
      task (Some u) = refl

      by : (g : Option Given) → (given_told (learned s caches request reply) request reply g).pass ≡ s.pass
      by None = refl
      by (Some givens.Task) = task s.under
      by (Some givens.Start) = refl
      by (Some (givens.Read kind)) = pass_stays s.pass _

module _ (s turned new : ActorState) (mine : List Entry) (e : Entry) (request : Request) (reply : Reply) (built : IsBuiltKind turned.role.kind)
    (turn : IsTurn s turned (nexts.Call request)) (stands : StandsFor turned mine)
    (told : IsTold e request reply) (own : AreOwn (e ∷ mine)) (quiet : IsQuiet e) (takes : new ≡ absorbed turned new.caches request (outcomes.Told reply)) where
  is_asked : asked turned ≡ Some request
  is_asked = sym (gives_asked s turned (nexts.Call request) turn)

  calm : is_news reply ≡ false
  calm = ap is_news (sym told.answered) ∙ quiet.no_news

  after : ActorState
  after = absorbed turned new.caches request (outcomes.Told reply)

  -- the watch brought no event
  no_event : (kind : Kind) (from : ℕ) → IsWatchAnswer reply → BroughtEvent (requests.Watch kind from) (outcomes.Told reply) → ⊥
  no_event kind from = by reply calm
    where
      by : (r : Reply) → is_news r ≡ false → IsWatchAnswer r → BroughtEvent (requests.Watch kind from) (outcomes.Told r) → ⊥
      by (replies.Events events) c a b = b (none_of events.events (not-false _ c))
      by (replies.Refused (Gone oldest)) c a b = true≢false c
      by _ c a b = a

  not_again : IsWatchAnswer reply → IsAskedAgain (outcomes.Told reply) → ⊥
  not_again = by reply calm
    where
      by : (r : Reply) → is_news r ≡ false → IsWatchAnswer r → IsAskedAgain (outcomes.Told r) → ⊥
      by (replies.Events events) c a again =
          let empty : length events.events ≡ 0 = ap length (none_of events.events (not-false _ c)) in
          let full : length events.events ≡ 64 = again in
          omega (arith, empty, full)
      by (replies.Refused (Gone oldest)) c a b = true≢false c
      by _ c a b = a

  watch_goes : (kind : Kind) (from : ℕ) → request ≡ requests.Watch kind from → Goes turned new request
  watch_goes kind from is = GoesOn kind from is follows on quiet_still
    where
      at : asked turned ≡ Some (requests.Watch kind from)
      at = is_asked ∙ ap Some is

      given : turned.given ≡ Some (givens.Read kind)
      given = given_read turned mine kind from stands at

      follows : passing turned ≡ Some kind
      follows = watches_follow s turned (nexts.Call request) kind from turn given (ap (λ r. nexts.Call r) is)

      answered : IsWatchAnswer reply
      answered = watches_are_answered turned mine kind from e reply built stands at (subst (λ r. IsTold e r reply) is told) own

      taken : new ≡ absorbed turned new.caches (requests.Watch kind from) (outcomes.Told reply)
      taken = takes ∙ ap (λ r. absorbed turned new.caches r (outcomes.Told reply)) is

      on : new.pass.behind ≡ turned.pass.behind + 1
      on = elim (passes_go_on turned new.caches kind from (outcomes.Told reply) given follows) [
        | inl next ↦ ap (λ (x : ActorState). x.pass.behind) taken ∙ next
        | inr again ↦ absurd (not_again answered again)
      ]

      quiet_still : turned.pass.event ≡ false → new.pass.event ≡ false
      quiet_still f = by new.pass.event refl
        where
          by : (b : Bool) → new.pass.event ≡ b → new.pass.event ≡ false
          by false is2 = is2
          by true is2 = absurd (no_event kind from answered
              (events_are_brought turned new.caches (requests.Watch kind from) (outcomes.Told reply) (sym (ap (λ (x : ActorState). x.pass.event) taken) ∙ is2) f))

  pub told_goes : Goes turned new request
  told_goes = by request refl
    where
      other : (r : Request) → request ≡ r → is_watch r ≡ false → ((kind : Kind) → watches_kind kind r ≡ false) → Goes turned new request
      other r is o none = Stays (λ kind. ap (watches_kind kind) is ∙ none kind) (ap (λ (x : ActorState). x.pass) takes ∙ told_stays turned new.caches request reply (ap is_watch is ∙ o))

      by : (r : Request) → request ≡ r → Goes turned new request
      by (requests.Watch kind from) is = watch_goes kind from is
      by _ is = other _ is refl (λ kind. refl)
