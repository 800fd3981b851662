-- What an actor stands for after an answer, after a call that was lost, and after a wake.
use Rattle.std.proofs.Common.{◌≡◌, List, ◌∷◌, Bool, true, false, true≢false, Option, Some, None, refl, sym, ◌∙◌, ap, subst, arith, if◌then◌else◌, Result, Ok, Err}
use Rattle.std.specs.Prelude.{option_map, OnOk}
use Rattle.kube_parts.specs.declared.parts.Kind.{Kind}
use Rattle.call_types.specs.declared.entry.Entry.{Entry}
use Rattle.call_types.specs.declared.request.Request.{Request}
use Rattle.call_types.specs.declared.reply.Reply.{Reply}
use Rattle.binder_model.specs.Licence.{Licensed}
use Rattle.binder_model.specs.Told.{later, newest, object_of, tells_of}
use Rattle.binder_model.specs.Reading.{Following, Unlisted, ListedAt, following_of}
use Rattle.informer_cache.specs.declared.cache.NextRead.{NextRead}
use Rattle.informer_cache.specs.declared.cache.NextRead.TheVariants as asks
use Rattle.informer_cache.specs.Cache.{IsTold, ask_from, ask_of, kind_known, watch_from}
use Rattle.informer_cache.specs.All.{AllKnown, AllStandFor, cache_of}
use Rattle.informer_cache.proofs.Stands.{quiet_stands, untold_quiet}
use Rattle.model_laws.proofs.Lists.{one, none_some}
use Rattle.worker_core.specs.declared.role.Role.{Role}
use Rattle.worker_core.specs.declared.task.Under.{Under}
use Rattle.worker_core.specs.declared.turn.Given.{Given}
use Rattle.worker_core.specs.declared.turn.Given.TheVariants as givens
use Rattle.worker_core.specs.declared.turn.Outcome.{Outcome}
use Rattle.worker_core.specs.declared.turn.Outcome.TheVariants as outcomes
use Rattle.worker_core.specs.Absorbs.{absorbed, given_told, is_passing, learned, lost_given, lost_to, lost_under, pass_after, task_told, told_to, woken}
use Rattle.worker_core.specs.Memories.{memory_after, memory_of}
use Rattle.call_types.specs.Kinds.{reads_kind}
use Rattle.worker_core.specs.Roles.{IsBuiltKind}
use Rattle.worker_core.specs.Stands.{AnyIsUnderWay, AreLicensed, AreOwn, GivenStands, IsUnderWay, PassStands, StandsFor, StartsSo, WentOn}
use Rattle.worker_core.specs.States.{ActorState, asked, call_under, given_call, read_request}
use Rattle.worker_core.specs.Tasks.{under_after}
use Rattle.worker_core.specs.Turns.{passing}
use Rattle.worker_core.proofs.ByKind.{start_reads_none}
use Rattle.worker_core.proofs.Licensed.{licensed}
use Rattle.worker_core.proofs.Machines.{task_reads_none, under_calls}
use Rattle.worker_core.proofs.Starts.{starts_on}
use Rattle.worker_core.proofs.Passes.{kept_pass, list_pass, untold_pass, watch_pass}

-- what is under way

goes_on : (role : Role) (u : Under) (mine : List Entry) (e : Entry) (reply : Reply) → IsUnderWay role u mine → u.call ≡ e.request → e.told ≡ true
    → e.reply ≡ reply → AnyIsUnderWay role (under_after u reply) (e ∷ mine)
goes_on role u mine e reply way call told answered = by (under_after u reply) refl
  where
    by : (next : Option Under) → under_after u reply ≡ next → AnyIsUnderWay role next (e ∷ mine)
    by None is = tt
    by (Some next) is = WentOn u e mine refl way told (sym call) (ap (under_after u) answered ∙ is)

call_reads_none : (role : Role) (u : Under) (mine : List Entry) (e : Entry) → IsUnderWay role u mine → u.call ≡ e.request → (kind : Kind) → reads_kind kind e.request ≡ false
call_reads_none role u mine e way call kind = task_reads_none u.task e.request kind (under_calls role u mine way ∙ ap Some call)

-- the memory

told_memory : (s : ActorState) (mine : List Entry) (e : Entry) (request : Request) (reply : Reply) → s.memory ≡ memory_of s.role mine
    → IsTold e request reply → memory_after s.role request reply s.memory ≡ memory_of s.role (e ∷ mine)
told_memory s mine e request reply is told =
    ap (memory_after s.role request reply) is
    ∙ ap (λ r. memory_after s.role request r (memory_of s.role mine)) (sym told.answered)
    ∙ ap (λ r. memory_after s.role r e.reply (memory_of s.role mine)) (sym told.asked)
    ∙ ap (λ b. if b then memory_after s.role e.request e.reply (memory_of s.role mine) else memory_of s.role mine) (sym told.told)

untold_memory : (s : ActorState) (mine : List Entry) (e : Entry) → s.memory ≡ memory_of s.role mine → e.told ≡ false → s.memory ≡ memory_of s.role (e ∷ mine)
untold_memory s mine e is lost = is ∙ ap (λ b. if b then memory_after s.role e.request e.reply (memory_of s.role mine) else memory_of s.role mine) (sym lost)

-- the whole

abbrev is_list : NextRead → Bool
is_list asks.List = true
is_list (asks.Watch from) = false

pub list_unlisted : (f : Following) → ask_from (watch_from f) ≡ asks.List → f ≡ Unlisted
list_unlisted Unlisted e = refl
list_unlisted (ListedAt version None) e = absurd (true≢false (sym (ap is_list e)))
list_unlisted (ListedAt version (Some upto)) e = absurd (true≢false (sym (ap is_list e)))

module _ (s : ActorState) (mine : List Entry) (e : Entry) (request : Request) (built : IsBuiltKind s.role.kind) (stands : StandsFor s mine)
    (ask : asked s ≡ Some request) (asks_it : e.request ≡ request) (kind : e.kind ≡ s.role.kind) (own : AreOwn (e ∷ mine)) where
  all_licensed : AreLicensed s.role.kind (e ∷ mine)
  all_licensed = (stands.licensed, kind, subst (λ r. Licensed s.role.kind mine r) (sym asks_it) (licensed s mine request built stands ask))

  starts : StartsSo s.role.kind s.role.node (e ∷ mine)
  starts = starts_on s mine e stands (ask ∙ ap Some (sym asks_it))

  pub told_stands : (caches : AllKnown) (reply : Reply) → IsTold e request reply → AllStandFor caches (e ∷ mine) → StandsFor (told_to s caches request reply) (e ∷ mine)
  told_stands caches reply is after = by s.given stands.given refl
    where
      memory : memory_after s.role request reply s.memory ≡ memory_of s.role (e ∷ mine)
      memory = told_memory s mine e request reply stands.memory is

      under : (u : Option Under) → s.under ≡ u → AnyIsUnderWay s.role u mine → option_map call_under u ≡ Some request → StandsFor (task_told (learned s caches request reply) reply u) (e ∷ mine)
      under None eu way c = none_some c
      under (Some u) eu way c =
          let call : u.call ≡ e.request = one u.call request c ∙ sym asks_it in
          record {
            caches = after;
            under_way = goes_on s.role u mine e reply way call is.told is.answered;
            pass = kept_pass s.role s.pass mine e stands.pass (call_reads_none s.role u mine e way call);
            memory = memory;
            licensed = all_licensed;
            own = own;
            start = starts;
            given = tt;
          }

      -- a call of the start
      start_read : s.given ≡ Some givens.Start → (k : Kind) → reads_kind k e.request ≡ false
      start_read eg k = start_reads_none s.role.kind s.role.node s.memory e.request k (ap (given_call s) (sym eg) ∙ ask ∙ ap Some (sym asks_it))

      read : (k : Kind) (ask : NextRead) → ask_of (cache_of k s.caches) ≡ ask → read_request k ask ≡ request → PassStands s.role (pass_after s.pass (is_passing (passing s) k) request reply) (e ∷ mine)
      read k asks.List at r =
          let from = (stands.caches.each k).from ∙ ap (λ x. watch_from (following_of mine x)) (stands.caches.kinds k) in
          subst (λ q. PassStands s.role (pass_after s.pass (is_passing (passing s) k) q reply) (e ∷ mine)) r
          (list_pass s.role s.pass mine e stands.pass k built stands.licensed (list_unlisted (following_of mine k) (sym (ap ask_from from) ∙ at)) (asks_it ∙ sym r))
      read k (asks.Watch from) at r =
          subst (λ q. PassStands s.role (pass_after s.pass (is_passing (passing s) k) q reply) (e ∷ mine)) r
          (watch_pass s.role s.pass mine e stands.pass k from is.told (asks_it ∙ sym r) reply is.answered)

      by : (g : Option Given) → GivenStands s.role s.memory g s.under → s.given ≡ g → StandsFor (given_told (learned s caches request reply) request reply g) (e ∷ mine)
      by None f eg = none_some (ap (given_call s) (sym eg) ∙ ask)
      by (Some givens.Task) f eg = under s.under refl stands.under_way (ap (given_call s) (sym eg) ∙ ask)
      by (Some givens.Start) f eg = record {
        caches = after;
        under_way = subst (λ u. AnyIsUnderWay s.role u (e ∷ mine)) (sym f) tt;
        pass = kept_pass s.role s.pass mine e stands.pass (start_read eg);
        memory = memory;
        licensed = all_licensed;
        own = own;
        start = starts;
        given = tt;
      }
      by (Some (givens.Read k)) f eg = record {
        caches = after;
        under_way = subst (λ u. AnyIsUnderWay s.role u (e ∷ mine)) (sym f.1) tt;
        pass = read k (ask_of (cache_of k s.caches)) refl (one _ request (ap (given_call s) (sym eg) ∙ ask));
        memory = memory;
        licensed = all_licensed;
        own = own;
        start = starts;
        given = tt;
      }

  quiet_caches : e.told ≡ false → AllStandFor s.caches (e ∷ mine)
  quiet_caches lost = record {
    kinds = stands.caches.kinds;
    each = λ k. quiet_stands (cache_of k s.caches) mine e (untold_quiet (kind_known (cache_of k s.caches)) e lost) (stands.caches.each k);
    rows = λ key. stands.caches.rows key ∙ ap (λ b. object_of (later (if b then tells_of e.request e.reply key else None) (newest mine key))) (sym lost);
  }

  pub lost_after : e.told ≡ false → StandsFor (lost_to s) (e ∷ mine)
  lost_after lost = by s.given stands.given refl
    where
      under : (u : Option Under) → s.under ≡ u → option_map call_under u ≡ Some request → StandsFor (lost_under s u) (e ∷ mine)
      under None eu c = none_some c
      under (Some u) eu c = record {
        caches = quiet_caches lost;
        under_way = tt;
        pass = untold_pass s.role s.pass mine e stands.pass lost;
        memory = untold_memory s mine e stands.memory lost;
        licensed = all_licensed;
        own = own;
        start = starts;
        given = tt;
      }

      rest : s.under ≡ None → StandsFor (record s { given = None }) (e ∷ mine)
      rest none = record {
        caches = quiet_caches lost;
        under_way = subst (λ u. AnyIsUnderWay s.role u (e ∷ mine)) (sym none) tt;
        pass =
            untold_pass s.role s.pass mine e stands.pass lost;
        memory = untold_memory s mine e stands.memory lost;
        licensed = all_licensed;
        own = own;
        start = starts;
        given = tt;
      }

      by : (g : Option Given) → GivenStands s.role s.memory g s.under → s.given ≡ g → StandsFor (lost_given s g) (e ∷ mine)
      by None f eg = none_some (ap (given_call s) (sym eg) ∙ ask)
      by (Some givens.Task) f eg = under s.under refl (ap (given_call s) (sym eg) ∙ ask)
      by (Some givens.Start) f eg = rest f
      by (Some (givens.Read k)) f eg = rest f.1

pub lost_before : (s : ActorState) (mine : List Entry) → StandsFor s mine → StandsFor (lost_to s) mine
lost_before s mine stands = by s.given
  where
    rest : StandsFor (record s { given = None }) mine
    rest = record {
      caches = stands.caches;
      under_way = stands.under_way;
      pass = stands.pass;
      memory = stands.memory;
      licensed =
          stands.licensed;
      own = stands.own;
      start = stands.start;
      given = tt;
    }

    under : (u : Option Under) → StandsFor (lost_under s u) mine
    under None = rest
    under (Some u) = record {
      caches = stands.caches;
      under_way = tt;
      pass = stands.pass;
      memory = stands.memory;
      licensed =
          stands.licensed;
      own = stands.own;
      start = stands.start;
      given = tt;
    }

    by : (g : Option Given) → StandsFor (lost_given s g) mine
    by (Some givens.Task) = under s.under
    by (Some (givens.Read kind)) = rest
    by (Some givens.Start) = rest
    by None = rest

pub woken_stands : (s : ActorState) (mine : List Entry) → StandsFor s mine → StandsFor (woken s) mine
woken_stands s mine stands = record {
  caches = stands.caches;
  under_way = stands.under_way;
  pass = λ quiet place kind lt. absurd
      (omega (arith, lt));
  memory = stands.memory;
  licensed = stands.licensed;
  own = stands.own;
  start = stands.start;
  given = stands.given;
}

-- answers of functions

pub on_ok : {X E : Type 0} (r : Result X E) (P Q : Type 0) → OnOk r P → (P → Q) → OnOk r Q
on_ok (Ok x) P Q h f = f h
on_ok (Err e) P Q h f = tt

pub on_both : {X E : Type 0} (r : Result X E) (P Q R : Type 0) → OnOk r P → OnOk r Q → (P → Q → R) → OnOk r R
on_both (Ok x) P Q R h k f = f h k
on_both (Err e) P Q R h k f = tt

pub caches_by : {E : Type 0} (r : Result (Unit {0}) E) (before mid after : AllKnown) (request : Request) (reply : Reply) → OnOk r (after ≡ mid)
    → ((mine : List Entry) (e : Entry) → IsTold e request reply → AllStandFor before mine → AllStandFor mid (e ∷ mine))
    → OnOk r ((mine : List Entry) (e : Entry) → IsTold e request reply → AllStandFor before mine → AllStandFor after (e ∷ mine))
caches_by (Ok x) before mid after request reply same learn = λ mine e is stands. subst (λ c. AllStandFor c (e ∷ mine)) (sym same) (learn mine e is stands)
caches_by (Err x) before mid after request reply same learn = tt

-- the whole call

abbrev reply_in : Outcome → Option Reply
reply_in (outcomes.Told reply) = Some reply
reply_in outcomes.Lost = None

pub take_caches : (outcome : Outcome) (given : Reply) (request : Request) (before after : AllKnown) → outcome ≡ outcomes.Told given
    → ((mine : List Entry) (e : Entry) → IsTold e request given → AllStandFor before mine → AllStandFor after (e ∷ mine))
    → (mine : List Entry) (e : Entry) (reply : Reply) → outcome ≡ outcomes.Told reply → IsTold e request reply → AllStandFor before mine → AllStandFor after (e ∷ mine)
take_caches outcome given request before after was learn mine e reply is told stands =
    learn mine e (record { told = told.told; asked = told.asked; answered = told.answered ∙ one reply given (ap reply_in (sym is ∙ was)) }) stands

module _ (old new : ActorState) (request : Request) (outcome : Outcome) (built : IsBuiltKind old.role.kind) (ask : asked old ≡ Some request)
    (state : new ≡ absorbed old new.caches request outcome) where
  pub told_by : ((mine : List Entry) (e : Entry) (reply : Reply) → outcome ≡ outcomes.Told reply → IsTold e request reply → AllStandFor old.caches mine → AllStandFor new.caches (e ∷ mine))
      → (mine : List Entry) (e : Entry) (reply : Reply) → outcome ≡ outcomes.Told reply → IsTold e request reply → e.kind ≡ old.role.kind
      → AreOwn (e ∷ mine) → StandsFor old mine → StandsFor new (e ∷ mine)
  told_by caches mine e reply is told kind own stands =
      subst (λ x. StandsFor x (e ∷ mine)) (sym (state ∙ ap (absorbed old new.caches request) is))
      (told_stands old mine e request built stands ask told.asked kind own new.caches reply told (caches mine e reply is told stands.caches))

  pub lost_by : (mine : List Entry) (e : Entry) → outcome ≡ outcomes.Lost → e.told ≡ false → e.request ≡ request → e.kind ≡ old.role.kind
      → AreOwn (e ∷ mine) → StandsFor old mine → StandsFor new (e ∷ mine)
  lost_by mine e is lost asks_it kind own stands =
      subst (λ x. StandsFor x (e ∷ mine)) (sym (state ∙ ap (absorbed old new.caches request) is)) (lost_after old mine e request built stands ask asks_it kind own lost)
