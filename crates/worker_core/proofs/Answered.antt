-- The answer of a turn: a call that is licensed, or idle where the kinds have no news.
use Rattle.std.proofs.Common.{◌≡◌, ℕ, ◌≤◌, zero, suc, List, [], ◌∷◌, length, Bool, true, false, Option, Some, None, inl, inr, refl, sym, ◌∙◌, ap, subst, arith}
use Rattle.std.specs.Prelude.{option_map, slice_get}
use Rattle.kube_parts.specs.declared.parts.Kind.{Kind}
use Rattle.kube_objects.specs.Keys.{AreRows}
use Rattle.call_types.specs.declared.entry.Entry.{Entry}
use Rattle.call_types.specs.declared.request.Request.{Request}
use Rattle.binder_model.specs.Reading.{follows}
use Rattle.informer_cache.specs.All.{all_objects}
use Rattle.model_laws.proofs.Lists.{none_some}
use Rattle.sync_queue.specs.Work.{Work}
use Rattle.worker_core.specs.declared.role.Role.{Role}
use Rattle.worker_core.specs.declared.task.Under.{Under}
use Rattle.worker_core.specs.declared.turn.Next.{Next}
use Rattle.worker_core.specs.declared.turn.Next.TheVariants as nexts
use Rattle.worker_core.specs.Roles.{IsBuiltKind, kinds_of}
use Rattle.worker_core.specs.Stands.{HasNoNews, IsLicensedAnswer, MayBeIdle, StandsFor}
use Rattle.worker_core.specs.States.{ActorState, asked, call_in, call_under, start_call}
use Rattle.worker_core.specs.Turns.{AfterKeys, IsTurn, TurnBy, passing, unlisted}
use Rattle.worker_core.proofs.ByKind.{placed}
use Rattle.worker_core.proofs.Licensed.{licensed}
use Rattle.worker_core.proofs.Turning.{turn_stands}

-- the call that a turn gives is the one that is then asked
pub gives_asked : (s new : ActorState) (answer : Next) → IsTurn s new answer → call_in answer ≡ asked new
gives_asked s new answer = by s.memory.stale s.under (start_call s.role s.memory) (unlisted s) (passing s) refl refl
  where
    keys : (w : Work) (under : Option Under) → AfterKeys s new answer w under → call_in answer ≡ asked new
    keys w (Some u) b = rw (b.call, b.state) refl
    keys w None (inl b) = rw (b.call, b.state) refl
    keys w None (inr b) = rw (b.idle, b.state) refl

    by : (stale : Bool) (u : Option Under) (start : Option Request) (l p : Option Kind) → s.under ≡ u → start_call s.role s.memory ≡ start
        → TurnBy s new answer stale u start l p → call_in answer ≡ asked new
    by true u start l p is at t = rw (t.idle, t.state) refl
    by false (Some u) start l p is at t = rw (t.call, t.state) (ap (option_map call_under) (sym is))
    by false None (Some request) l p is at t = rw (t.call, t.state) (sym at)
    by false None None (Some kind) p is at t = rw (t.call, t.state) refl
    by false None None None (Some kind) is at t = rw (t.call, t.state) refl
    by false None None None None is at t = keys t.work t.under t.then_

-- what an actor is stays
pub turn_role : (s new : ActorState) (answer : Next) → IsTurn s new answer → new.role ≡ s.role
turn_role s new answer = by s.memory.stale s.under (start_call s.role s.memory) (unlisted s) (passing s)
  where
    role_of : ActorState → Role
    role_of x = x.role

    keys : (w : Work) (under : Option Under) → AfterKeys s new answer w under → new.role ≡ s.role
    keys w (Some u) b = ap role_of b.state
    keys w None (inl b) = ap role_of b.state
    keys w None (inr b) = ap role_of b.state

    by : (stale : Bool) (u : Option Under) (start : Option Request) (l p : Option Kind) → TurnBy s new answer stale u start l p → new.role ≡ s.role
    by true u start l p t = ap role_of t.state
    by false (Some u) start l p t = ap role_of t.state
    by false None (Some request) l p t = ap role_of t.state
    by false None None (Some kind) p t = ap role_of t.state
    by false None None None (Some kind) t = ap role_of t.state
    by false None None None None t = keys t.work t.under t.then_

pub answer_licensed : (s new : ActorState) (answer : Next) (mine : List Entry) → IsBuiltKind s.role.kind → AreRows (all_objects s.caches)
    → StandsFor s mine → IsTurn s new answer → IsLicensedAnswer s.role.kind mine answer
answer_licensed s new answer mine built order stands turn = by answer refl
  where
    same : new.role.kind ≡ s.role.kind
    same = ap (λ (r : Role). r.kind) (turn_role s new answer turn)

    by : (a : Next) → answer ≡ a → IsLicensedAnswer s.role.kind mine a
    by nexts.Idle at = tt
    by (nexts.Call r) at = subst (λ k. IsLicensedAnswer k mine (nexts.Call r)) same (licensed new mine r (subst IsBuiltKind (sym same) built)
        (turn_stands s new answer mine order stands turn) (sym (gives_asked s new answer turn) ∙ ap call_in at))

-- past the last kind, each kind is behind
pub passed : {X : Type 0} (xs : List X) (place : ℕ) → slice_get xs place ≡ None → length xs ≤ place
passed [] place e = omega arith
passed (x ∷ xs) zero e = none_some (sym e)
passed (x ∷ xs) (suc place) e = let h = passed xs place e in omega (arith, h)

pub idle_quiet : (s new : ActorState) (answer : Next) (mine : List Entry) → StandsFor s mine → IsTurn s new answer → answer ≡ nexts.Idle → MayBeIdle s.role s.memory mine
idle_quiet s new answer mine stands turn idle = by s.memory.stale s.under (start_call s.role s.memory) (unlisted s) (passing s) refl refl turn
  where
    each : s.pass.event ≡ false → length (kinds_of s.role.kind) ≤ s.pass.behind → (k : Kind) → follows s.role.kind k ≡ true → HasNoNews k mine
    each quiet past k f = let p = placed s.role.kind k f in let within = p.within in stands.pass quiet p.place k (omega (arith, within, past)) p.at

    no_call : (r : Request) → answer ≡ nexts.Call r → MayBeIdle s.role s.memory mine
    no_call r e = none_some (ap call_in (sym idle ∙ e))

    keys : (w : Work) (under : Option Under) → length (kinds_of s.role.kind) ≤ s.pass.behind → AfterKeys s new answer w under → MayBeIdle s.role s.memory mine
    keys w (Some u) past b = no_call _ b.call
    keys w None past (inl b) = no_call _ b.call
    keys w None past (inr b) = inr (each b.quiet past)

    by : (stale : Bool) (u : Option Under) (start : Option Request) (l p : Option Kind) → s.memory.stale ≡ stale → passing s ≡ p
        → TurnBy s new answer stale u start l p → MayBeIdle s.role s.memory mine
    by true u start l p at ep t = inl at
    by false (Some u) start l p at ep t = no_call _ t.call
    by false None (Some request) l p at ep t = no_call _ t.call
    by false None None (Some kind) p at ep t = no_call _ t.call
    by false None None None (Some kind) at ep t = no_call _ t.call
    by false None None None None at ep t = keys t.work t.under (passed (kinds_of s.role.kind) s.pass.behind ep) t.then_
