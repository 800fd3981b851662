-- Calls that are never held back (reads, and those of the start), and the tasks of those that are.
use Rattle.std.proofs.Common.{◌≡◌, ◌∙◌, ℕ, ◌≤◌, List, Bool, true, false, true≢false, Option, Some, None, refl, sym, ap, arith}
use Rattle.std.specs.Prelude.{is_some, option_map}
use Rattle.kube_parts.specs.declared.parts.Kind.{Kind}
use Rattle.call_types.specs.declared.entry.Entry.{Entry}
use Rattle.call_types.specs.declared.reply.Reply.TheVariants as replies
use Rattle.call_types.specs.declared.request.Request.{Request}
use Rattle.call_types.specs.declared.request.Request.TheVariants as requests
use Rattle.call_types.specs.declared.request.SeatKind.{SeatKind}
use Rattle.call_types.specs.declared.request.SeatKind.TheVariants as seats
use Rattle.informer_cache.specs.declared.cache.NextRead.{NextRead}
use Rattle.informer_cache.specs.declared.cache.NextRead.TheVariants as asks
use Rattle.informer_cache.specs.All.{AllKnown, cache_of}
use Rattle.informer_cache.specs.Cache.{ask_of}
use Rattle.model_laws.proofs.Lists.{none_some, one}
use Rattle.worker_core.specs.declared.task.Under.{Under}
use Rattle.worker_core.specs.declared.turn.Given.TheVariants as givens
use Rattle.worker_core.specs.Absorbs.{lost_given, lost_to, lost_under}
use Rattle.worker_core.specs.Memories.{Memory}
use Rattle.worker_core.specs.Stands.{AnyIsUnderWay, StandsFor}
use Rattle.worker_core.specs.States.{ActorState, agent_start, asked, call_under, given_call, read_of_kind, read_request, start_of}
use Rattle.worker_core.proofs.Machines.{under_calls}
use Rattle.actor_rounds.specs.Rounds.{Lets}
use Rattle.settle_slot.specs.Slot.Gates.{HoldsMountsAlone, is_mount}
use Rattle.settle_calls.specs.Slots.Slots.{PassesReads, is_own_read}
use Rattle.settle_calls.specs.Tasks.Tasks.{task_left}
use Rattle.settle_calls.proofs.Passes.Given.{GivenSo, GivesRead, GivesStart, GivesTask, given_so}
use Rattle.settle_calls.proofs.Tasks.Tasks.{under_goes}
use Rattle.settle_calls.specs.Tasks.Ends.{done_by}

-- no read is a Mount, so where Mounts alone are held back no read is
read_is_no_mount : (request : Request) → is_own_read request ≡ true → is_mount request ≡ false
read_is_no_mount (requests.Mount node epoch pod claims) own = absurd (true≢false (sym own))
read_is_no_mount _ own = refl

pub reads_pass : (lets : Lets) → HoldsMountsAlone lets → PassesReads lets
reads_pass lets holds h request own = holds h request (read_is_no_mount request own)

-- a call of the start is one that is not held back
pub start_is_read : (kind : SeatKind) (node : List ℕ) (m : Memory) (request : Request) → start_of kind node m ≡ Some request → is_own_read request ≡ true
start_is_read seats.Agent node m request e = by m.epoch (is_some m.mounts) e
  where
    by : (epoch : Option ℕ) (told : Bool) → agent_start node epoch told ≡ Some request → is_own_read request ≡ true
    by None told h = ap is_own_read (sym (one _ request h))
    by (Some epoch) false h = ap is_own_read (sym (one _ request h))
    by (Some epoch) true h = none_some h
start_is_read seats.User node m request e = none_some e
start_is_read seats.Binder node m request e = none_some e
start_is_read seats.Ops node m request e = none_some e
start_is_read seats.Scheduler node m request e = none_some e
start_is_read seats.ClaimProtect node m request e = none_some e
start_is_read seats.VolumeProtect node m request e = none_some e

pub kind_is_read : (caches : AllKnown) (kind : Kind) → is_own_read (read_of_kind caches kind) ≡ true
kind_is_read caches kind = by (ask_of (cache_of kind caches))
  where
    by : (a : NextRead) → is_own_read (read_request kind a) ≡ true
    by asks.List = refl
    by (asks.Watch from) = refl

-- nor is a call where nothing is under way
pub own_read : (x : ActorState) (request : Request) → x.under ≡ None → asked x ≡ Some request → is_own_read request ≡ true
own_read x request none ask = by (given_so x request ask)
  where
    by : GivenSo x → is_own_read request ≡ true
    by (GivesTask e) = none_some (sym (ap (option_map call_under) none) ∙ (ap (given_call x) (sym e) ∙ ask))
    by (GivesStart e) = start_is_read x.role.kind x.role.node x.memory request (ap (given_call x) (sym e) ∙ ask)
    by (GivesRead kind e) = ap is_own_read (sym (one (read_of_kind x.caches kind) request (ap (given_call x) (sym e) ∙ ask))) ∙ kind_is_read x.caches kind

done_none : (request : Request) → done_by request replies.Timed ≡ 0
done_none (requests.Delete key given) = refl
done_none _ = refl

-- a call that is held back is a task's
pub held_task : (lets : Lets) (x : ActorState) (request : Request) (h : List Entry) → PassesReads lets → asked x ≡ Some request → lets h request ≡ false → x.given ≡ Some givens.Task
held_task lets x request h passes ask held = by (given_so x request ask)
  where
    passed_it : is_own_read request ≡ true → x.given ≡ Some givens.Task
    passed_it e = absurd (true≢false (sym (passes h request e) ∙ held))

    by : GivenSo x → x.given ≡ Some givens.Task
    by (GivesTask e) = e
    by (GivesStart e) = passed_it (start_is_read x.role.kind x.role.node x.memory request (ap (given_call x) (sym e) ∙ ask))
    by (GivesRead kind e) = passed_it (ap is_own_read (sym (one (read_of_kind x.caches kind) request (ap (given_call x) (sym e) ∙ ask))) ∙ kind_is_read x.caches kind)

pub record HeldTask (x : ActorState) : Type 0 where
  pub under : Under
  pub there : x.under ≡ Some under
  pub is : lost_to x ≡ lost_under x (Some under)
  pub some : 1 ≤ task_left under.task

pub held_called : (x : ActorState) (mine : List Entry) (request : Request) → StandsFor x mine → asked x ≡ Some request → x.given ≡ Some givens.Task → HeldTask x
held_called x mine request stands ask eg = by x.under refl stands.under_way (ap (given_call x) (sym eg) ∙ ask)
  where
    by : (u : Option Under) → x.under ≡ u → AnyIsUnderWay x.role u mine → option_map call_under u ≡ Some request → HeldTask x
    by None eu way c = none_some c
    by (Some u) eu way c =
        let goes = under_goes u replies.Timed (under_calls x.role u mine way) in
        let none = done_none u.call in
        record { under = u; there = eu; is = ap (lost_given x) eg ∙ ap (lost_under x) eu; some = omega (arith, goes, none) }
