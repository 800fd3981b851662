-- One key decided: what is left is less, and goes on.
use Rattle.std.proofs.Common.{◌≡◌, ◌<◌, List, [], ◌∷◌, Option, Some, None, refl, sym, ◌∙◌, ap, subst}
use Rattle.kube_objects.specs.declared.key.Key.{Key}
use Rattle.kube_objects.specs.declared.objects.Object.{Object}
use Rattle.kube_objects.specs.Keys.{kind_index}
use Rattle.call_types.specs.declared.request.Request.{Request}
use Rattle.sync_queue.specs.Work.{Work, Taken, StandsOnce, added, begun, finished, oldest_of}
use Rattle.model_laws.proofs.Lists.{one, none_some}
use Rattle.worker_core.specs.declared.role.Role.{Role}
use Rattle.worker_core.specs.declared.task.First.{First}
use Rattle.worker_core.specs.declared.task.First.TheVariants as firsts
use Rattle.worker_core.specs.declared.task.Task.{Task}
use Rattle.worker_core.specs.declared.task.Under.{Under}
use Rattle.worker_core.specs.Memories.{Memory}
use Rattle.worker_core.specs.Steps.Weights.{weight}
use Rattle.worker_core.specs.Tasks.{GivesCall, GivesNone, IsDecision, task_call}
use Rattle.worker_core.specs.Turns.{Decides, Nothing, Begins, Drops, dropped}
use Rattle.worker_core.proofs.Machines.{queued_kinds}
use Rattle.worker_core.proofs.Weights.{drops_one, queues_one}

abbrev pub task_in : First → Option Task
task_in (firsts.Begins task) = Some task
task_in _ = None

module _ (role : Role) (memory : Memory) (rows : List Object) where
  less_at : (ws : List Key) (taken : List Taken) (parked : List Key) (key : Key) (first : First) → StandsOnce (record { waiting = ws; taken = taken; parked = parked }) → oldest_of ws ≡ Some key
      → IsDecision role memory rows key first → weight (dropped first key (record { waiting = ws; taken = taken; parked = parked })).waiting < weight ws
  less_at [] taken parked key first once old decided = none_some old
  less_at (k ∷ ks) taken parked key first once old decided = by first (one k key old) decided
    where
      by : (f : First) → k ≡ key → IsDecision role memory rows key f → weight (dropped f key (record { waiting = k ∷ ks; taken = taken; parked = parked })).waiting < weight (k ∷ ks)
      by firsts.Drops is d = subst (λ (j : Key). weight (finished j (begun (record { waiting = k ∷ ks; taken = taken; parked = parked }))).waiting <
          weight (k ∷ ks)) is (drops_one k ks taken parked once)
      by (firsts.Begins task) is d = subst (λ (j : Key). weight
          (finished j (begun (record { waiting = k ∷ ks; taken = taken; parked = parked }))).waiting < weight (k ∷ ks)) is (drops_one k ks taken parked once)
      by (firsts.Queues other) is d =
          let q = queued_kinds role memory rows key other d in
          let from : kind_index k.kind ≡ 2 = ap (λ (j : Key). kind_index j.kind) is ∙ q.0 in
          subst (λ (j : Key). weight (finished j (added other (begun (record { waiting = k ∷ ks; taken = taken; parked = parked })))).waiting <
          weight (k ∷ ks)) is (queues_one k ks taken parked once other from q.1)

  -- or ends
  pub ends_empty : (w after : Work) → None ≡ oldest_of w.waiting → after ≡ begun w → Decides role memory rows after None w
  ends_empty w after none is = Nothing empty (is ∙ same w empty) refl
    where
      empty_of : (ws : List Key) → None ≡ oldest_of ws → ws ≡ []
      empty_of [] e = refl
      empty_of (k ∷ ks) e = none_some e

      empty : w.waiting ≡ []
      empty = empty_of w.waiting none

      same : (v : Work) → v.waiting ≡ [] → begun v ≡ v
      same v e = by v.waiting e
        where
          by : (ws : List Key) → ws ≡ [] → begun (record v { waiting = ws }) ≡ record v { waiting = ws }
          by [] e = refl
          by (k ∷ ks) e = none_some (sym (ap oldest_of e))

  pub ends_call : (w after : Work) (u : Under) → Some u.key ≡ oldest_of w.waiting → after ≡ begun w → GivesCall role memory rows u → Decides role memory rows after (Some u) w
  ends_call w after u old is gives = Begins u (sym old) gives is refl

  -- one key was decided, and gave no call
  pub record Dropped (w queue : Work) : Type 0 where
    pub key : Key
    pub first : First
    pub old : Some key ≡ oldest_of w.waiting
    pub none : GivesNone role memory rows key first
    pub is : queue ≡ dropped first key w

  module _ (w taken done queue : Work) (key : Key) (found : Option Key) (first : First) (old : found ≡ oldest_of w.waiting) (some : found ≡ Some key)
      (begins : taken ≡ begun w) (decided : IsDecision role memory rows key first) (is : queue ≡ done) where
    pub drops : first ≡ firsts.Drops → done ≡ finished key taken → Dropped w queue
    drops f d = record {
      key = key;
      first = firsts.Drops;
      old = sym some ∙ old;
      none = record { decided = subst (λ (x : First). IsDecision role memory rows key x) f decided; none = λ task e. none_some (ap task_in e) };
      is = is ∙ d ∙ ap (finished key) begins;
    }

    pub queues : (other : Key) (more : Work) → first ≡ firsts.Queues other → more ≡ added other taken → done ≡ finished key more → Dropped w queue
    queues other more f a d = record {
      key = key;
      first = firsts.Queues other;
      old = sym some ∙ old;
      none = record { decided = subst (λ (x : First). IsDecision role memory rows key x) f decided; none = λ task e. none_some (ap task_in e) };
      is = is ∙ d ∙ ap (finished key) (a ∙ ap (added other) begins);
    }

    pub gives_none : (task : Task) (call : Option Request) → first ≡ firsts.Begins task → call ≡ task_call task → call ≡ None → done ≡ finished key taken → Dropped w queue
    gives_none task call f c n d = record {
      key = key;
      first = firsts.Begins task;
      old = sym some ∙ old;
      none = record {
        decided = subst (λ (x : First). IsDecision role memory rows key x) f decided;
        none = λ other e. sym (ap task_call (one task other (ap task_in e))) ∙ (sym c ∙ n);
      };
      is = is ∙ d ∙ ap (finished key) begins;
    }

  pub less_by : (w queue : Work) → StandsOnce w → Dropped w queue → weight queue.waiting < weight w.waiting
  less_by w queue once d = subst (λ (q : Work). weight q.waiting < weight w.waiting) (sym d.is) (less_at w.waiting w.taken w.parked d.key d.first once (sym d.old) d.none.decided)

  pub on_by : (w queue : Work) → Dropped w queue → (after : Work) (under : Option Under) → Decides role memory rows after under queue → Decides role memory rows after under w
  on_by w queue d after under rest = Drops d.key d.first (sym d.old) d.none (subst (λ (q : Work). Decides role memory rows after under q) d.is rest)
