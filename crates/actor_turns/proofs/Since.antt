-- What an actor's pass stands for after some of its entries: turns, answers, lost calls and wakes keep it, and where the
-- actor is idle there is no news since.
use Rattle.std.proofs.Common.{◌≡◌, ◌≤◌, ◌++◌, List, [], ◌∷◌, length, Bool, true, false, true≢false, Option, Some, None, inl, inr, refl, sym, ◌∙◌, ap, subst, arith}
use Rattle.std.specs.Prelude.{◌&&◌, option_map}
use Rattle.kube_parts.specs.declared.parts.Kind.{Kind}
use Rattle.kube_objects.specs.Keys.{same_kind}
use Rattle.call_types.specs.declared.entry.Entry.{Entry}
use Rattle.call_types.specs.declared.request.Request.{Request}
use Rattle.call_types.specs.declared.request.Request.TheVariants as requests
use Rattle.call_types.specs.declared.request.SeatKind.{SeatKind}
use Rattle.call_types.specs.declared.reply.Reply.{Reply}
use Rattle.binder_model.specs.Reading.{Unlisted, following_of, follows}
use Rattle.call_types.specs.Kinds.{reads_kind}
use Rattle.informer_cache.specs.declared.cache.NextRead.{NextRead}
use Rattle.informer_cache.specs.declared.cache.NextRead.TheVariants as asks
use Rattle.informer_cache.specs.Cache.{IsTold, ask_from, ask_of, watch_from}
use Rattle.informer_cache.specs.All.{AllKnown, cache_of}
use Rattle.model_laws.proofs.Lists.{one, none_some}
use Rattle.sync_queue.specs.Work.{Work}
use Rattle.worker_core.specs.declared.role.Role.{Role}
use Rattle.worker_core.specs.declared.task.Under.{Under}
use Rattle.worker_core.specs.declared.turn.Given.{Given}
use Rattle.worker_core.specs.declared.turn.Given.TheVariants as givens
use Rattle.worker_core.specs.declared.turn.Next.{Next}
use Rattle.worker_core.specs.declared.turn.Next.TheVariants as nexts
use Rattle.worker_core.specs.declared.turn.Outcome.TheVariants as outcomes
use Rattle.worker_core.specs.declared.turn.Pass.{Pass}
use Rattle.worker_core.specs.Absorbs.{absorbed, given_told, is_passing, learned, lost_given, lost_to, lost_under, pass_after, task_told, told_to, woken}
use Rattle.worker_core.specs.Roles.{IsBuiltKind, kinds_of}
use Rattle.worker_core.specs.Stands.{AnyIsUnderWay, AreLicensed, GivenStands, HasNoNews, PassStands, StandsFor}
use Rattle.worker_core.specs.States.{ActorState, asked, call_in, call_under, given_call, read_request, start_call}
use Rattle.worker_core.specs.Turns.{AfterKeys, IsTurn, TurnBy, passing, unlisted}
use Rattle.worker_core.proofs.Answered.{passed}
use Rattle.worker_core.proofs.ByKind.{placed, start_reads_none}
use Rattle.worker_core.proofs.Machines.{task_reads_none, under_calls}
use Rattle.worker_core.proofs.Passes.{kept_pass, untold_pass, watch_pass}
use Rattle.worker_core.proofs.Quiet.{alike, quiet_listed, quiet_on, unread}
use Rattle.worker_core.proofs.Absorbing.{list_unlisted}
use Rattle.actor_turns.specs.Calls.{IsQuietSince}
use Rattle.actor_turns.specs.Steps.Playing.{StandsSince}

-- a turn keeps the pass, or begins one
turn_pass : (s new : ActorState) (answer : Next) (recent : List Entry) → IsTurn s new answer → PassStands s.role s.pass recent → PassStands new.role new.pass recent
turn_pass s new answer recent turn stands = by s.memory.stale s.under (start_call s.role s.memory) (unlisted s) (passing s) turn
  where
    same : (x : ActorState) → new ≡ x → PassStands x.role x.pass recent → PassStands new.role new.pass recent
    same x is h = subst (λ (y : ActorState). PassStands y.role y.pass recent) (sym is) h

    keys : (w : Work) (under : Option Under) → AfterKeys s new answer w under → PassStands new.role new.pass recent
    keys w (Some u) b = same _ b.state stands
    keys w None (inl b) = same _ b.state (λ q place kind lt. absurd (omega (arith, lt)))
    keys w None (inr b) = same _ b.state stands

    by : (stale : Bool) (u : Option Under) (start : Option Request) (l p : Option Kind) → TurnBy s new answer stale u start l p → PassStands new.role new.pass recent
    by true u start l p t = same _ t.state stands
    by false (Some u) start l p t = same _ t.state stands
    by false None (Some request) l p t = same _ t.state stands
    by false None None (Some kind) p t = same _ t.state stands
    by false None None None (Some kind) t = same _ t.state stands
    by false None None None None t = keys t.work t.under t.then_

-- what has no news lately has none
no_news : (kind : Kind) (recent earlier : List Entry) → HasNoNews kind recent → HasNoNews kind (recent ++ earlier)
no_news kind [] earlier quiet = absurd quiet
no_news kind (e ∷ recent) earlier quiet = by (e.told && reads_kind kind e.request) refl (no_news kind recent earlier)
  where
    by : (b : Bool) → (e.told && reads_kind kind e.request) ≡ b → (HasNoNews kind recent → HasNoNews kind (recent ++ earlier)) → HasNoNews kind (e ∷ (recent ++ earlier))
    by true own more = rw own (rw own at quiet)
    by false other more = rw other (more (rw other at quiet))

abbrev is_list : NextRead → Bool
is_list asks.List = true
is_list (asks.Watch from) = false

-- a list of a kind that is not listed
list_recent : (role : Role) (pass : Pass) (recent earlier : List Entry) (e : Entry) (kind : Kind) → IsBuiltKind role.kind
    → PassStands role pass recent → AreLicensed role.kind (recent ++ earlier) → following_of (recent ++ earlier) kind ≡ Unlisted
    → e.request ≡ requests.List kind None → PassStands role pass (e ∷ recent)
list_recent role pass recent earlier e kind built stands l none is = λ quiet place k lt at. by k (same_kind kind k) refl (stands quiet place k lt at)
  where
    by : (k : Kind) (b : Bool) → same_kind kind k ≡ b → HasNoNews k recent → HasNoNews k (e ∷ recent)
    by k true same q = absurd (quiet_listed role.kind kind (recent ++ earlier) built l (subst (λ x. HasNoNews x (recent ++ earlier)) (sym (alike kind k same)) (no_news k recent earlier q)) none)
    by k false same q = quiet_on k recent e (unread k e (ap (reads_kind k) is ∙ same)) q

-- the pass of a state stands for entries
abbrev Passes : List Entry → ActorState → Type 0
Passes recent x = PassStands x.role x.pass recent

module _ (s : ActorState) (earlier recent : List Entry) (e : Entry) (request : Request) (built : IsBuiltKind s.role.kind)
    (stands : StandsFor s (recent ++ earlier)) (pass : Passes recent s) (ask : asked s ≡ Some request) where
  told_pass : (caches : AllKnown) (reply : Reply) → IsTold e request reply → Passes (e ∷ recent) (told_to s caches request reply)
  told_pass caches reply is = by s.given stands.given refl
    where
      under : (u : Option Under) → AnyIsUnderWay s.role u (recent ++ earlier) → option_map call_under u ≡ Some request → Passes (e ∷ recent) (task_told (learned s caches request reply) reply u)
      under None way c = none_some c
      under (Some u) way c = kept_pass s.role s.pass recent e pass (λ kind. task_reads_none u.task e.request kind
          (under_calls s.role u (recent ++ earlier) way ∙ ap Some (one u.call request c ∙ sym is.asked)))

      read : (k : Kind) (a : NextRead) → ask_of (cache_of k s.caches) ≡ a → read_request k a ≡ request → PassStands s.role (pass_after s.pass (is_passing (passing s) k) request reply) (e ∷ recent)
      read k asks.List at r =
          let from = (stands.caches.each k).from ∙ ap (λ x. watch_from (following_of (recent ++ earlier) x)) (stands.caches.kinds k) in
          subst (λ q. PassStands s.role (pass_after s.pass (is_passing (passing s) k) q reply) (e ∷ recent)) r
          (list_recent s.role s.pass recent earlier e k built pass stands.licensed (list_unlisted (following_of (recent ++ earlier) k) (sym (ap ask_from from) ∙ at)) (is.asked ∙ sym r))
      read k (asks.Watch from) at r =
          subst (λ q. PassStands s.role (pass_after s.pass (is_passing (passing s) k) q reply) (e ∷ recent)) r
          (watch_pass s.role s.pass recent e pass k from is.told (is.asked ∙ sym r) reply is.answered)

      by : (g : Option Given) → GivenStands s.role s.memory g s.under → s.given ≡ g → Passes (e ∷ recent) (given_told (learned s caches request reply) request reply g)
      by None f eg = none_some (ap (given_call s) (sym eg) ∙ ask)
      by (Some givens.Task) f eg = under s.under stands.under_way (ap (given_call s) (sym eg) ∙ ask)
      by (Some givens.Start) f eg = kept_pass s.role s.pass recent e pass (λ kind. start_reads_none s.role.kind s.role.node s.memory e.request kind
          (ap (given_call s) (sym eg) ∙ ask ∙ ap Some (sym is.asked)))
      by (Some (givens.Read k)) f eg = read k (ask_of (cache_of k s.caches)) refl (one _ request (ap (given_call s) (sym eg) ∙ ask))

-- a call that was lost leaves the pass
lost_pass : (s : ActorState) (recent : List Entry) → Passes recent s → Passes recent (lost_to s)
lost_pass s recent pass = by s.given
  where
    under : (u : Option Under) → Passes recent (lost_under s u)
    under None = pass
    under (Some u) = pass

    by : (g : Option Given) → Passes recent (lost_given s g)
    by (Some givens.Task) = under s.under
    by (Some (givens.Read kind)) = pass
    by (Some givens.Start) = pass
    by None = pass

-- ---- the whole

-- an answer that was told
pub told_since : (old new : ActorState) (earlier mine : List Entry) (e : Entry) (request : Request) (reply : Reply) → IsBuiltKind old.role.kind → asked old ≡ Some request → IsTold e request reply
    → new ≡ absorbed old new.caches request (outcomes.Told reply) → (StandsFor old mine → StandsFor new (e ∷ mine)) → StandsSince old earlier mine → StandsSince new earlier (e ∷ mine)
told_since old new earlier mine e request reply built ask is state absorbs since = record {
  stands = absorbs since.stands;
  recent = e ∷ since.recent;
  are = ap (λ m. e ∷ m) since.are;
  pass = subst (Passes (e ∷ since.recent)) (sym state) (told_pass old earlier since.recent e request built (subst (StandsFor old) since.are since.stands) since.pass ask new.caches reply is);
}

-- a call that was lost after its effect
pub lost_since : (old new : ActorState) (earlier mine : List Entry) (e : Entry) (request : Request) → e.told ≡ false
    → new ≡ absorbed old new.caches request outcomes.Lost → (StandsFor old mine → StandsFor new (e ∷ mine)) → StandsSince old earlier mine → StandsSince new earlier (e ∷ mine)
lost_since old new earlier mine e request lost state absorbs since = record {
  stands = absorbs since.stands;
  recent = e ∷ since.recent;
  are = ap (λ m. e ∷ m) since.are;
  pass = subst (Passes (e ∷ since.recent)) (sym state) (untold_pass (lost_to old).role (lost_to old).pass since.recent e (lost_pass old since.recent since.pass) lost);
}

-- one that was lost before it
pub none_since : (old new : ActorState) (earlier mine : List Entry) (request : Request)
    → new ≡ absorbed old new.caches request outcomes.Lost → (StandsFor old mine → StandsFor new mine) → StandsSince old earlier mine → StandsSince new earlier mine
none_since old new earlier mine request state absorbs since = record {
  stands = absorbs since.stands;
  recent = since.recent;
  are = since.are;
  pass = subst (Passes since.recent) (sym state) (lost_pass old since.recent since.pass);
}

pub turn_since : (old new : ActorState) (answer : Next) (earlier mine : List Entry) → IsTurn old new answer
    → (StandsFor old mine → StandsFor new mine) → StandsSince old earlier mine → StandsSince new earlier mine
turn_since old new answer earlier mine turn keeps since = record {
  stands = keeps since.stands;
  recent = since.recent;
  are = since.are;
  pass = turn_pass old new answer since.recent turn since.pass;
}

-- a wake begins a pass, which stands for nothing yet
pub woken_since : (old new : ActorState) (mine : List Entry) → new ≡ woken old → StandsFor new mine → StandsSince new mine mine
woken_since old new mine state stands = record {
  stands = stands;
  recent = [];
  are = refl;
  pass = subst (Passes []) (sym state) (λ quiet place kind lt. absurd (omega (arith, lt)));
}

-- so does an actor that was told nothing
pub new_since : (s : ActorState) → StandsFor s [] → StandsSince s [] []
new_since s stands = record { stands = stands; recent = []; are = refl; pass = stands.pass }

abbrev AreQuiet : SeatKind → List Entry → Type 0
AreQuiet kind recent = (k : Kind) → follows kind k ≡ true → HasNoNews k recent

-- where an actor is idle its kinds have no news since
pub quiet_since : (s new : ActorState) (answer : Next) (earlier mine : List Entry) → s.memory.stale ≡ false → StandsSince s earlier mine
    → IsTurn s new answer → answer ≡ nexts.Idle → IsQuietSince s.role.kind earlier mine
quiet_since s new answer earlier mine fresh since turn idle = record {
  recent = since.recent;
  are = since.are;
  quiet = by s.memory.stale s.under (start_call s.role s.memory) (unlisted s) (passing s) refl refl turn;
}
  where
    each : s.pass.event ≡ false → length (kinds_of s.role.kind) ≤ s.pass.behind → (k : Kind) → follows s.role.kind k ≡ true → HasNoNews k since.recent
    each quiet past k f = let p = placed s.role.kind k f in let within = p.within in since.pass quiet p.place k (omega (arith, within, past)) p.at

    no_call : (r : Request) → answer ≡ nexts.Call r → AreQuiet s.role.kind since.recent
    no_call r e = none_some (ap call_in (sym idle ∙ e))

    keys : (w : Work) (under : Option Under) → length (kinds_of s.role.kind) ≤ s.pass.behind → AfterKeys s new answer w under → AreQuiet s.role.kind since.recent
    keys w (Some u) past b = no_call _ b.call
    keys w None past (inl b) = no_call _ b.call
    keys w None past (inr b) = each b.quiet past

    by : (stale : Bool) (u : Option Under) (start : Option Request) (l p : Option Kind) → s.memory.stale ≡ stale → passing s ≡ p
        → TurnBy s new answer stale u start l p → AreQuiet s.role.kind since.recent
    by true u start l p at ep t = absurd (true≢false (sym at ∙ fresh))
    by false (Some u) start l p at ep t = no_call _ t.call
    by false None (Some request) l p at ep t = no_call _ t.call
    by false None None (Some kind) p at ep t = no_call _ t.call
    by false None None None (Some kind) at ep t = no_call _ t.call
    by false None None None None at ep t = keys t.work t.under (passed (kinds_of s.role.kind) s.pass.behind ep) t.then_
