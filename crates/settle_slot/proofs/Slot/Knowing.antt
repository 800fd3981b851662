-- What a seat knows of the kinds behind its pass stays as the actor goes on, and grows with each watch that was not full.
use Rattle.std.proofs.Common.{◌≡◌, ◌∙◌, ◌⊎◌, ℕ, ◌+◌, ◌<◌, List, [], ◌∷◌, length, Bool, true, false, Option, Some, None, inl, inr, refl, sym, ap, subst, arith, if◌then◌else◌}
use Rattle.std.specs.Prelude.{◌==◌, ◌&&◌, not, nat_lt}
use Rattle.std.proofs.lemmas.Bool.Decides.{nat_tests}
use Rattle.kube_parts.specs.declared.parts.Kind.{Kind}
use Rattle.call_types.specs.declared.entry.Entry.{Entry}
use Rattle.call_types.specs.declared.reply.Reply.{Reply}
use Rattle.call_types.specs.declared.reply.Reply.TheVariants as replies
use Rattle.call_types.specs.declared.request.Request.{Request}
use Rattle.call_types.specs.declared.request.Request.TheVariants as requests
use Rattle.call_types.specs.declared.request.SeatKind.{SeatKind}
use Rattle.call_types.specs.declared.setup.Setup.{Setup}
use Rattle.binder_model.specs.Licence.{Licensed}
use Rattle.binder_model.specs.Told.{own}
use Rattle.binder_model.specs.Watching.{most_events}
use Rattle.binder_model.specs.World.{IsHistory}
use Rattle.informer_cache.specs.declared.cache.NextRead.{NextRead}
use Rattle.informer_cache.specs.declared.cache.NextRead.TheVariants as asks
use Rattle.informer_cache.specs.All.{AllKnown, cache_of}
use Rattle.informer_cache.specs.Cache.{ask_of}
use Rattle.model_laws.proofs.Lists.{one}
use Rattle.worker_core.specs.declared.turn.Pass.{Pass}
use Rattle.worker_core.specs.declared.role.Role.{Role}
use Rattle.worker_core.specs.declared.task.Under.{Under}
use Rattle.worker_core.specs.declared.turn.Given.{Given}
use Rattle.worker_core.specs.declared.turn.Given.TheVariants as givens
use Rattle.worker_core.specs.declared.turn.Next.{Next}
use Rattle.worker_core.specs.declared.turn.Next.TheVariants.{Call}
use Rattle.worker_core.specs.declared.turn.Outcome.TheVariants.{Lost, Told}
use Rattle.worker_core.specs.Absorbs.{absorbed, given_told, is_passing, learned, lost_given, lost_under, pass_after, task_told}
use Rattle.worker_core.specs.Roles.{IsBuiltKind, kind_in_order, kinds_of}
use Rattle.worker_core.specs.Stands.{AreLicensed, StandsFor}
use Rattle.worker_core.specs.States.{ActorState, asked, read_of_kind, read_request}
use Rattle.worker_core.specs.Turns.{IsTurn, passing}
use Rattle.worker_core.proofs.Answered.{answer_licensed, gives_asked, passed}
use Rattle.worker_core.proofs.ByKind.{placed, watch_licensed}
use Rattle.worker_core.proofs.Quiet.{alike}
use Rattle.attention_law.proofs.Turned.{Kept, PassAfter, Renewed, answer_role, turn_pass}
use Rattle.actor_rounds.specs.Rounds.{IsReady, told_entry}
use Rattle.worker_core.proofs.Answered.{turn_role}
use Rattle.settle_slot.specs.Told.Exact.{WatchesFrom}
use Rattle.settle_slot.specs.Told.Knowing.{KnowsKind}
use Rattle.settle_slot.proofs.Told.Knowing.{watches_make_known}
use Rattle.settle_slot.proofs.Told.Staying.{known_is_exact, knowledge_stays}
use Rattle.settle_slot.specs.Slot.Slots.{KnowsBehind, SeesStore}

-- watches that were licensed started where they may
pub watches_from : (kind : SeatKind) (mine : List Entry) (k : Kind) → IsBuiltKind kind → AreLicensed kind mine → WatchesFrom k mine
watches_from kind [] k built l = tt
watches_from kind (e ∷ mine) k built l = (watches_from kind mine k built l.0, λ from is. watch_licensed kind mine k from built (subst (Licensed kind mine) is l.2))

pub at_or_before : (i n : ℕ) → i < n + 1 → (i < n) ⊎ (i ≡ n)
at_or_before i n lt = by (nat_lt i n) refl
  where
    by : (b : Bool) → nat_lt i n ≡ b → (i < n) ⊎ (i ≡ n)
    by true e = inl (grind (arith, nat_tests))
    by false e = inr (grind (arith, nat_tests))

-- past its pass, an actor that knows what is behind sees the store
pub sees : (setup : Setup) (seat : ℕ) (s : ActorState) (h : List Entry) → IsHistory setup h → StandsFor s (own seat h) → KnowsBehind setup seat s.role s.pass h → passing s ≡ None → SeesStore setup s h
sees setup seat s h history stands knows over key f =
    let p = placed s.role.kind key.kind f in
    let past = passed (kinds_of s.role.kind) s.pass.behind over in
    let within = p.within in
    stands.caches.rows key ∙ known_is_exact setup h seat key history (knows p.place key.kind (omega (arith, within, past)) p.at key refl)

-- one call, whose answer was told
module _ (setup : Setup) (seat : ℕ) (role : Role) (pass : Pass) (h : List Entry) (e : Entry) (history : IsHistory setup (e ∷ h))
    (mine : e.seat ≡ seat) (told : e.told ≡ true) (knows : KnowsBehind setup seat role pass h) where
  kept : KnowsBehind setup seat role pass (e ∷ h)
  kept place kind lt at = knowledge_stays setup e h seat kind history mine told (knows place kind lt at)

  watched : (kind : Kind) (from : ℕ) → e.request ≡ requests.Watch kind from → WatchesFrom kind (own seat (e ∷ h)) → (reply : Reply) → e.reply ≡ reply
      → KnowsBehind setup seat role (pass_after pass (is_passing (kind_in_order role pass.behind) kind) (requests.Watch kind from) reply) (e ∷ h)
  watched kind from asks starts (replies.Events events) answered = λ place k lt at. by place k at (is_passing (kind_in_order role pass.behind) kind) (length events.events == most_events) refl refl lt
    where
      this_kind : (place : ℕ) (k : Kind) → kind_in_order role place ≡ Some k → place ≡ pass.behind → is_passing (kind_in_order role pass.behind) kind ≡ true → k ≡ kind
      this_kind place k at here passing_ =
          let there : kind_in_order role pass.behind ≡ Some k = ap (kind_in_order role) (sym here) ∙ at in
          alike k kind (sym (ap (λ o. is_passing o kind) there) ∙ passing_)

      by : (place : ℕ) (k : Kind) → kind_in_order role place ≡ Some k → (p full : Bool) → is_passing (kind_in_order role pass.behind) kind ≡ p → (length events.events == most_events) ≡ full
          → place < (if p && not full then pass.behind + 1 else pass.behind) → KnowsKind setup (e ∷ h) seat k
      by place k at true false is_passing_ full lt = elim (at_or_before place pass.behind lt) [
        | inl before ↦ kept place k before at
        | inr here ↦ subst (λ x. KnowsKind setup (e ∷ h) seat x) (sym (this_kind place k at here is_passing_))
            (watches_make_known setup e h seat kind from events history starts mine told asks answered full)
      ]
      by place k at true true is_passing_ full lt = kept place k lt at
      by place k at false full is_passing_ is_full lt = kept place k lt at
  watched kind from asks starts _ answered = kept

  -- by what was given
  read : (caches : AllKnown) (kind : Kind) → e.request ≡ read_of_kind caches kind → ((from : ℕ) → e.request ≡ requests.Watch kind from → WatchesFrom kind (own seat (e ∷ h)))
      → KnowsBehind setup seat role (pass_after pass (is_passing (kind_in_order role pass.behind) kind) e.request e.reply) (e ∷ h)
  read caches kind is starts = by (ask_of (cache_of kind caches)) is
    where
      by : (a : NextRead) → e.request ≡ read_request kind a → KnowsBehind setup seat role (pass_after pass (is_passing (kind_in_order role pass.behind) kind) e.request e.reply) (e ∷ h)
      by asks.List at = subst (λ r. KnowsBehind setup seat role (pass_after pass (is_passing (kind_in_order role pass.behind) kind) r e.reply) (e ∷ h)) (sym at) kept
      by (asks.Watch from) at = subst (λ r. KnowsBehind setup seat role
          (pass_after pass (is_passing (kind_in_order role pass.behind) kind) r e.reply) (e ∷ h)) (sym at) (watched kind from at (starts from at) e.reply refl)

pass_of : ActorState → Pass
pass_of s = s.pass

-- a turn leaves what is known behind the pass, since it keeps the pass or begins one
pub turned_knows : (setup : Setup) (seat : ℕ) (s given : ActorState) (answer : Next) (h : List Entry) → IsTurn s given answer
    → KnowsBehind setup seat s.role s.pass h → KnowsBehind setup seat given.role given.pass h
turned_knows setup seat s given answer h turn knows = subst (λ r. KnowsBehind setup seat r given.pass h) (sym (turn_role s given answer turn)) (by (turn_pass s given answer turn))
  where
    by : PassAfter s given → KnowsBehind setup seat s.role given.pass h
    by (Kept same) = subst (λ p. KnowsBehind setup seat s.role p h) (sym same) knows
    by (Renewed brought is) = subst (λ p. KnowsBehind setup seat s.role p h) (sym is) (λ place kind lt at. absurd (omega (arith, lt)))

-- what a call that was told makes of it
module _ (setup : Setup) (seat : ℕ) (s given : ActorState) (request : Request) (reply : Reply) (h : List Entry) (built : IsBuiltKind s.role.kind)
    (ready : IsReady seat s h) (turn : IsTurn s given (Call request))
    (history : IsHistory setup (told_entry seat given request reply ∷ h)) (knows : KnowsBehind setup seat s.role s.pass h) where
  abbrev entry : Entry
  entry = told_entry seat given request reply

  front : own seat (entry ∷ h) ≡ entry ∷ own seat h
  front = let is : (seat == seat) ≡ true = grind (arith, nat_tests) in rw is refl

  starts : (kind : Kind) (from : ℕ) → request ≡ requests.Watch kind from → WatchesFrom kind (own seat (entry ∷ h))
  starts kind from is =
      let may : Licensed s.role.kind (own seat h) request = answer_licensed s given (Call request) (own seat h) built ready.rows ready.stands.told turn in
      subst (WatchesFrom kind) (sym front) (
        watches_from s.role.kind (own seat h) kind built ready.stands.told.licensed,
        λ start at. watch_licensed
            s.role.kind (own seat h) kind start built (subst (Licensed s.role.kind (own seat h)) at may),
      )

  given_knows : KnowsBehind setup seat given.role given.pass h
  given_knows = turned_knows setup seat s given (Call request) h turn knows

  stays : KnowsBehind setup seat given.role given.pass (entry ∷ h)
  stays = kept setup seat given.role given.pass h entry history refl refl given_knows

  by_given : (caches : AllKnown) (g : Option Given) → given.given ≡ g → KnowsBehind setup seat given.role (given_told (learned given caches request reply) request reply g).pass (entry ∷ h)
  by_given caches None at = stays
  by_given caches (Some givens.Start) at = stays
  by_given caches (Some givens.Task) at = by given.under
    where
      by : (u : Option Under) → KnowsBehind setup seat given.role (task_told (learned given caches request reply) reply u).pass (entry ∷ h)
      by None = stays
      by (Some u) = stays
  by_given caches (Some (givens.Read kind)) at =
      let is : request ≡ read_of_kind given.caches kind = one request (read_of_kind given.caches kind) (gives_asked s given (Call request) turn ∙ asked_read given kind at) in
      read setup seat given.role given.pass h entry history refl refl given_knows given.caches kind is (starts kind)
    where
      asked_read : (x : ActorState) (k : Kind) → x.given ≡ Some (givens.Read k) → asked x ≡ Some (read_of_kind x.caches k)
      asked_read x k e = rw e refl

  pub told_knows : (next : ActorState) → next ≡ absorbed given next.caches request (Told reply) → KnowsBehind setup seat next.role next.pass (entry ∷ h)
  told_knows next is =
      let role : next.role ≡ given.role = ap (λ (t : ActorState). t.role) is ∙ answer_role given next.caches request (Told reply) in
      subst (λ r. KnowsBehind setup seat r next.pass (entry ∷ h)) (sym role)
      (subst (λ p. KnowsBehind setup seat given.role p (entry ∷ h)) (sym (ap pass_is is)) (by_given next.caches given.given refl))
    where
      pass_is : ActorState → Pass
      pass_is x = x.pass

-- and one that was lost
pub lost_knows : (setup : Setup) (seat : ℕ) (given next : ActorState) (request : Request) (h : List Entry)
    → KnowsBehind setup seat given.role given.pass h → next ≡ absorbed given next.caches request Lost → KnowsBehind setup seat next.role next.pass h
lost_knows setup seat given next request h knows is =
    let role : next.role ≡ given.role = ap (λ (t : ActorState). t.role) is ∙ answer_role given next.caches request Lost in
    let pass : next.pass ≡ given.pass = ap (λ (t : ActorState). t.pass) is ∙ by given.given in
    subst (λ r. KnowsBehind setup seat r next.pass h) (sym role) (subst (λ p. KnowsBehind setup seat given.role p h) (sym pass) knows)
  where
    by_under : (u : Option Under) → (lost_under given u).pass ≡ given.pass
    by_under None = refl
    by_under (Some u) = refl

    by : (g : Option Given) → (lost_given given g).pass ≡ given.pass
    by None = refl
    by (Some givens.Start) = refl
    by (Some (givens.Read kind)) = refl
    by (Some givens.Task) = by_under given.under
