-- The examples of schedulers compute.
use Rattle.std.proofs.Common.{◌≡◌, ◌≤◌, ℕ, List, [], ◌∷◌, Bool, true, false, true≢false, Option, Some, None, inl, inr, refl, sym, ◌∙◌, ap, subst, arith, if◌then◌else◌}
use Rattle.std.specs.Prelude.{bytes_eq, codes}
use Rattle.plain_data.specs.Pairs.{value_at}
use Rattle.kube_objects.specs.declared.key.Key.{Key}
use Rattle.kube_parts.specs.declared.parts.Kind.{Kind}
use Rattle.kube_parts.specs.declared.parts.Kind.TheVariants as kinds
use Rattle.kube_objects.specs.declared.objects.Claim.{Claim as ClaimData}
use Rattle.kube_objects.specs.declared.objects.Object.{Object}
use Rattle.kube_objects.specs.declared.objects.Object.TheVariants.{Class, Node, Volume, Claim, Pod}
use Rattle.kube_objects.specs.declared.objects.Pod.{Pod as PodData}
use Rattle.kube_objects.specs.Bindings.{selected_node}
use Rattle.kube_objects.specs.Keys.{key_of, kind_index, kind_of, row_at, same_key}
use Rattle.kube_objects.proofs.KeyOrder.{row_at_key}
use Rattle.call_types.specs.declared.entry.Entry.{Entry}
use Rattle.call_types.specs.declared.request.Request.{Request}
use Rattle.call_types.specs.declared.request.Request.TheVariants as requests
use Rattle.call_types.specs.declared.request.SeatKind.TheVariants as seats
use Rattle.binder_model.specs.Told.{Telling, later, listing, newest, object_of, presence}
use Rattle.informer_cache.proofs.Found.{row_at-put}
use Rattle.model_laws.proofs.Lists.{IsIn, one}
use Rattle.model_laws.proofs.Readings.{found_stands}
use Rattle.model_examples.specs.Samples.{entry_of, key_c, key_p, seat_of, tells_pod}
use Rattle.pod_scheduler.specs.declared.schedule.ScheduleOp.{ScheduleOp}
use Rattle.pod_scheduler.specs.declared.schedule.ScheduleStep.TheVariants as steps
use Rattle.pod_scheduler.specs.declared.tries.Tried.{Tried}
use Rattle.pod_scheduler.specs.Decisions.{BeginsOn}
use Rattle.pod_scheduler.specs.Schedules.{schedule_call}
use Rattle.pod_scheduler.proofs.Begun.{decisions_are_unique}
use Rattle.machine_examples.proofs.Delayed.Computing.{rising_is}
use Rattle.machine_examples.specs.Delayed.Scenes.{c, chosen_on, late, n1, n2, pod}
use Rattle.machine_examples.proofs.Schedule.Beginning.{begins as begins_on}
use Rattle.machine_examples.specs.Schedule.Beginnings.{scheduled}
use Rattle.machine_examples.specs.Schedule.Refusals.{at_version, first_choice, selects}
use Rattle.worker_core.specs.declared.role.Role.{Role}
use Rattle.worker_core.specs.declared.task.First.TheVariants as firsts
use Rattle.worker_core.specs.declared.task.Task.{Task}
use Rattle.worker_core.specs.declared.task.Task.TheVariants as tasks
use Rattle.worker_core.specs.declared.task.Under.{Under}
use Rattle.worker_core.specs.Memories.{memory_of}
use Rattle.worker_core.specs.Stands.{AreLicensed}
use Rattle.worker_core.specs.States.{ActorState}
use Rattle.worker_core.specs.Tasks.{GivesCall, IsPodFirst, task_call}
use Rattle.worker_core.proofs.Begins.{begins}
use Rattle.attention_law.specs.Diligence.{AreFourWatches, Call, IsAskedFor, IsDiligent, IsKeyDue, IsQuiet, Shows, WasAskedSince, entries, watches}
use Rattle.attention_law.specs.Played.{Begins, IsPlayed}
use Rattle.attention_law.specs.Showing.{IsDueInOrder}
use Rattle.attention_law.proofs.Alike.{rows_alike}
use Rattle.attention_law.proofs.Dues.{asked_no_watch}
use Rattle.attention_law.proofs.Following.{played_is_diligent, same_role, stands_now}
use Rattle.attention_law.proofs.Ordered.{rows_in_order}
use Rattle.machine_examples.proofs.Life.Computed.{NeverDue, diligent_where_none, listed_object}
use Rattle.machine_examples.proofs.Life.Counted.{read_in_time}
use Rattle.machine_examples.proofs.Life.Protected.{is_binder, not_due}
use Rattle.machine_examples.specs.Life.Agents.{watch_of_pods}
use Rattle.machine_examples.specs.Life.Schedules.{
  ScheduleDueExamples,
  ScheduleLifeExamples,
  SchedulePlayedExamples,
  returned,
  schedule_calls,
  scheduler,
  selection,
  selects_for,
  tells_all,
  tells_refused,
  unscheduled,
}

-- the rows of what was told

abbrev rows : ClaimData → PodData → List Object
rows x q = Class late ∷ Node n1 ∷ Claim x ∷ Pod q ∷ []

abbrev ShowsRows : List Object → List Entry → Type 0
ShowsRows os mine = (key : Key) → row_at key os ≡ object_of (newest mine key)

shown_all : (x : ClaimData) (q : PodData) → ShowsRows (rows x q) (seat_of seats.Scheduler (tells_all x q))
shown_all x q key = by key.kind
  where
    by : (of : Kind) → row_at (record key { kind = of }) (rows x q) ≡ object_of (newest (seat_of seats.Scheduler (tells_all x q)) (record key { kind = of }))
    by kinds.StorageClass = sym (listed_object late.meta.version (row_at (record key { kind = kinds.StorageClass }) (Class late ∷ [])))
    by kinds.Node = sym (listed_object n1.meta.version (row_at (record key { kind = kinds.Node }) (Node n1 ∷ [])))
    by kinds.PersistentVolume = refl
    by kinds.PersistentVolumeClaim = sym (listed_object x.meta.version (row_at (record key { kind = kinds.PersistentVolumeClaim }) (Claim x ∷ [])))
    by kinds.Pod = sym (listed_object q.meta.version (row_at (record key { kind = kinds.Pod }) (Pod q ∷ [])))

shown_pod : (q : PodData) → ShowsRows (Pod q ∷ []) (seat_of seats.Scheduler (tells_pod q ∷ []))
shown_pod q key = by key.kind
  where
    by : (of : Kind) → row_at (record key { kind = of }) (Pod q ∷ []) ≡ object_of (newest (seat_of seats.Scheduler (tells_pod q ∷ [])) (record key { kind = of }))
    by kinds.StorageClass = refl
    by kinds.Node = refl
    by kinds.PersistentVolume = refl
    by kinds.PersistentVolumeClaim = refl
    by kinds.Pod = sym (listed_object q.meta.version (row_at (record key { kind = kinds.Pod }) (Pod q ∷ [])))

shows_all : (x : ClaimData) (q : PodData) (mine : List Entry) → ShowsRows (rows x q) mine → Shows mine (rows x q)
shows_all x q mine shown = record { order = ((refl, (refl, (refl, tt))), ((refl, (refl, tt)), ((refl, tt), (tt, tt)))); shown = shown }

-- the pod whose claim needs a node

abbrev selecting : ScheduleOp
selecting = record { writes = selection ∷ []; step = steps.Writes 0 }

abbrev asks : Under
asks = record { key = key_p; task = tasks.Schedule selecting; call = selection }

asks_selection : schedule_call selecting ≡ Some selection
unfolding schedule_call
asks_selection = refl

module _ (mine : List Entry) (shown : ShowsRows (rows c pod) mine) (none : (memory_of scheduler mine).tries.refused ≡ []) where
  gives : GivesCall scheduler (memory_of scheduler mine) (rows c pod) asks
  gives = record {
    decided = subst (λ refused. BeginsOn (rows c pod) refused (Some (Pod pod)) (Some selecting)) (sym none) (begins_on (rows c pod) [] pod (Some selecting) refl refl refl);
    call = asks_selection;
  }

  due_in_order : IsDueInOrder scheduler key_p mine
  due_in_order = record {
    rows = rows c pod;
    shows = shows_all c pod mine shown;
    spaceless = λ is. absurd (true≢false (sym (ap is_binder is)));
    under = asks;
    own = refl;
    gives = gives;
  }

  pod_due : IsKeyDue scheduler key_p mine
  pod_due = rows_in_order scheduler key_p mine tt due_in_order

  asked_for : IsAskedFor scheduler key_p mine selection
  asked_for = record { rows = rows c pod; shows = shows_all c pod mine shown; under = asks; own = refl; gives = gives; call = refl }

-- a key under which no pod stands is not due

drops_other : (os : List Object) (mine : List Entry) (key : Key) (o : Object) → Shows mine os → row_at key os ≡ Some o
    → IsPodFirst os (memory_of scheduler mine).tries.refused (Some o) firsts.Drops → IsKeyDue scheduler key mine → ⊥
drops_other os mine key o shows at drops = not_due scheduler key mine os shows (subst (λ row. IsPodFirst os (memory_of scheduler mine).tries.refused row firsts.Drops) (sym at) drops)

drops_none : (os : List Object) (mine : List Entry) (key : Key) → Shows mine os → row_at key os ≡ None → IsKeyDue scheduler key mine → ⊥
drops_none os mine key shows at = not_due scheduler key mine os shows (subst (λ row. IsPodFirst os (memory_of scheduler mine).tries.refused row firsts.Drops) (sym at) refl)

-- so the key that is due is the pod's
due_is_pod : (mine : List Entry) → ShowsRows (rows c pod) mine → (key : Key) → IsKeyDue scheduler key mine → key_p ≡ key
due_is_pod mine shown key due = by (row_at key (rows c pod)) refl
  where
    shows : Shows mine (rows c pod)
    shows = shows_all c pod mine shown

    other : {G : Type 0} (a b : Object) → a ≡ b → (kind_index (kind_of a) ≡ kind_index (kind_of b) → ⊥) → G
    other a b same differs = absurd (differs (ap (λ o. kind_index (kind_of o)) same))

    is_pod : (q : PodData) → IsIn (Pod q) (rows c pod) → key_p ≡ key_of (Pod q)
    is_pod q (inl same) = other (Class late) (Pod q) same (λ e. omega (arith, e))
    is_pod q (inr (inl same)) = other (Node n1) (Pod q) same (λ e. omega (arith, e))
    is_pod q (inr (inr (inl same))) = other (Claim c) (Pod q) same (λ e. omega (arith, e))
    is_pod q (inr (inr (inr (inl same)))) = ap key_of same
    is_pod q (inr (inr (inr (inr h)))) = absurd h

    by : (row : Option Object) → row_at key (rows c pod) ≡ row → key_p ≡ key
    by None at = absurd (drops_none (rows c pod) mine key shows at due)
    by (Some (Pod q)) at = is_pod q (found_stands key (Pod q) (rows c pod) at) ∙ row_at_key key (Pod q) (rows c pod) at
    by (Some (Class x)) at = absurd (drops_other (rows c pod) mine key (Class x) shows at refl due)
    by (Some (Node x)) at = absurd (drops_other (rows c pod) mine key (Node x) shows at refl due)
    by (Some (Volume x)) at = absurd (drops_other (rows c pod) mine key (Volume x) shows at refl due)
    by (Some (Claim x)) at = absurd (drops_other (rows c pod) mine key (Claim x) shows at refl due)

-- where a pod with a node alone was told nothing is due
none_due : (mine : List Entry) → ShowsRows (Pod scheduled ∷ []) mine → (key : Key) → IsKeyDue scheduler key mine → ⊥
none_due mine shown key due = by (row_at key (Pod scheduled ∷ [])) refl
  where
    shows : Shows mine (Pod scheduled ∷ [])
    shows = record { order = (tt, tt); shown = shown }

    is_it : (o : Object) → IsIn o (Pod scheduled ∷ []) → Pod scheduled ≡ o
    is_it o (inl same) = same
    is_it o (inr h) = absurd h

    by : (row : Option Object) → row_at key (Pod scheduled ∷ []) ≡ row → ⊥
    by None at = drops_none (Pod scheduled ∷ []) mine key shows at due
    by (Some o) at = drops_other (Pod scheduled ∷ []) mine key o shows at
        (subst (λ x. IsPodFirst (Pod scheduled ∷ []) (memory_of scheduler mine).tries.refused (Some x) firsts.Drops) (is_it o (found_stands key o (Pod scheduled ∷ []) at)) refl) due

-- the pod whose claim lost its node

abbrev two_rows : List Object
two_rows = Class late ∷ Node n1 ∷ Node n2 ∷ Claim returned ∷ Pod pod ∷ []

-- the claim was told newest as it came back
abbrev told_before : Bool → Option Telling
told_before b = later (if b then Some (presence (Claim (at_version 10 (chosen_on (codes "n1") c)))) else None) None

settled : (b : Bool) → (if b then Some (Claim returned) else None) ≡ object_of (later (Some (listing 11 (if b then Some (Claim returned) else None))) (told_before b))
settled true = refl
settled false = refl

came_back : (key : Key) → row_at key (Claim returned ∷ []) ≡ object_of (later (Some (listing 11 (row_at key (Claim returned ∷ [])))) (told_before (same_key (key_of (Claim returned)) key)))
came_back key = subst (λ row. row ≡ object_of (later (Some (listing 11 row)) (told_before (same_key (key_of (Claim returned)) key))))
    (sym (row_at-put (Claim returned) [] key)) (settled (same_key (key_of (Claim returned)) key))

abbrev after_refusal : List Entry
after_refusal = seat_of seats.Scheduler tells_refused

shown_two : ShowsRows two_rows after_refusal
shown_two key = by key.kind
  where
    by : (of : Kind) → row_at (record key { kind = of }) two_rows ≡ object_of (newest after_refusal (record key { kind = of }))
    by kinds.StorageClass = sym (listed_object late.meta.version (row_at (record key { kind = kinds.StorageClass }) (Class late ∷ [])))
    by kinds.Node = sym (listed_object 3 (row_at (record key { kind = kinds.Node }) (Node n1 ∷ Node n2 ∷ [])))
    by kinds.PersistentVolume = refl
    by kinds.PersistentVolumeClaim = came_back (record key { kind = kinds.PersistentVolumeClaim })
    by kinds.Pod = sym (listed_object pod.meta.version (row_at (record key { kind = kinds.Pod }) (Pod pod ∷ [])))

shows_two : Shows after_refusal two_rows
shows_two = record { order = rising_is two_rows refl; shown = shown_two }

abbrev selecting_second : ScheduleOp
selecting_second = record { writes = selects_for returned n2 ∷ []; step = steps.Writes 0 }

abbrev refused_nodes : List Tried
refused_nodes = (memory_of scheduler after_refusal).tries.refused

begins_second : BeginsOn two_rows refused_nodes (Some (Pod pod)) (Some selecting_second)
begins_second = begins_on two_rows (first_choice ∷ []) pod (Some selecting_second) refl refl refl

asks_second : schedule_call selecting_second ≡ Some (selects_for returned n2)
unfolding schedule_call
asks_second = refl

second_asked : IsAskedFor scheduler key_p after_refusal (selects_for returned n2)
second_asked = record {
  rows = two_rows;
  shows = shows_two;
  under = record { key = key_p; task = tasks.Schedule selecting_second; call = selects_for returned n2 };
  own = refl;
  gives = record { decided = begins_second; call = asks_second };
  call = refl;
}

is_second : (task : Task) → IsPodFirst two_rows refused_nodes (Some (Pod pod)) (firsts.Begins task) → task_call task ≡ Some (selects_for returned n2)
is_second (tasks.Schedule op) d = ap schedule_call (one op selecting_second
    (decisions_are_unique two_rows refused_nodes (Some (Pod pod)) (Some op) (Some selecting_second) shows_two.order d begins_second)) ∙ asks_second
is_second _ d = absurd d

abbrev is_first_node : Option (List ℕ) → Bool
is_first_node None = false
is_first_node (Some node) = bytes_eq node (codes "n1")

abbrev selects_first : Request → Bool
selects_first (requests.Update (Claim x) given) = is_first_node (value_at selected_node x.meta.annotations)
selects_first request = false

first_not_asked : IsAskedFor scheduler key_p after_refusal (selects_for returned n1) → ⊥
first_not_asked a =
    let same : a.rows ≡ two_rows = rows_alike two_rows a.rows shows_two.order a.shows.order (λ k. a.shows.shown k ∙ sym (shown_two k)) in
    let decided : IsPodFirst two_rows refused_nodes (row_at key_p two_rows) (firsts.Begins a.under.task) =
    subst (λ rs. IsPodFirst rs refused_nodes (row_at key_p rs) (firsts.Begins a.under.task)) same
    (subst (λ k. IsPodFirst a.rows refused_nodes (row_at k a.rows) (firsts.Begins a.under.task)) a.own a.gives.decided) in
    let asked : selects_for returned n1 ≡ selects_for returned n2 = a.call ∙ one a.under.call (selects_for returned n2) (sym a.gives.call ∙ is_second a.under.task decided) in
    true≢false (ap selects_first asked)

pub due_examples : ScheduleDueExamples
due_examples = record {
  pod_whose_claim_needs_a_node = pod_due _ (shown_all c pod) refl;
  still_after_a_watch = pod_due _ (shown_all c pod) refl;
  its_node_is_asked_for = asked_for _ (shown_all c pod) refl;
  not_its_claim = not_due scheduler key_c _ (rows c pod) (shows_all c pod _ (shown_all c pod)) refl;
  node_after_the_refused_is_asked_for = second_asked;
  refused_node_is_not = first_not_asked;
  not_a_pod_whose_claim_waits = let x = chosen_on (codes "n1") c in not_due scheduler key_p _ (rows x pod) (shows_all x pod _ (shown_all x pod)) (begins_on (rows x pod) [] pod None refl refl refl);
  not_a_pod_with_a_node = not_due scheduler key_p _ (rows c scheduled) (shows_all c scheduled _ (shown_all c scheduled)) refl;
  not_a_pod_without_its_claim = not_due scheduler key_p _ (Pod pod ∷ []) (record { order = (tt, tt); shown = shown_pod pod }) (begins_on (Pod pod ∷ []) [] pod None refl refl refl);
}

-- the life that selects the node

abbrev before_selection : List Call
before_selection = schedule_calls (watch_of_pods ∷ watch_of_pods ∷ watch_of_pods ∷ tells_all c pod)

few_before : (kind : Kind) → watches kind (Some (entry_of seats.Scheduler (selects (codes "n1") 10)) ∷ before_selection) ≤ 3
few_before kinds.PersistentVolume = omega arith
few_before kinds.StorageClass = omega arith
few_before kinds.Node = omega arith
few_before kinds.PersistentVolumeClaim = omega arith
few_before kinds.Pod = omega arith

selects_it : (key : Key) → IsKeyDue scheduler key (entries before_selection) → IsAskedFor scheduler key (entries before_selection) selection
selects_it key due = subst (λ k. IsAskedFor scheduler k (entries before_selection) selection) (due_is_pod (entries before_selection)
    (shown_all c pod) key due) (asked_for (entries before_selection) (shown_all c pod) refl)

-- the life in which the pod is left

abbrev is_left : List Call
is_left = schedule_calls (watch_of_pods ∷ watch_of_pods ∷ [])

abbrev first_watch : List Call
first_watch = schedule_calls (watch_of_pods ∷ tells_all c pod)

none_asked : WasAskedSince scheduler key_p first_watch is_left → ⊥
none_asked = none
  where
    watches_none : (mine : List Entry) → IsAskedFor scheduler key_p mine watch_of_pods.request → ⊥
    watches_none mine = asked_no_watch scheduler key_p mine kinds.Pod 9

    none : WasAskedSince scheduler key_p first_watch is_left → ⊥
    none (inl asked) = watches_none _ asked
    none (inr (inl asked)) = watches_none _ asked
    none (inr (inr h)) = h

four : AreFourWatches kinds.Pod (entry_of seats.Scheduler watch_of_pods) (entry_of seats.Scheduler watch_of_pods) is_left
four = record { opens = refl; closes = refl; many = omega arith; quiet = (ok, (ok, (ok, (ok, tt)))) }
  where
    ok : IsQuiet (entry_of seats.Scheduler watch_of_pods)
    ok = record { told = refl; reads = refl; no_news = refl }

pod_left : IsDiligent scheduler (schedule_calls (unscheduled (tells_all c pod))) → ⊥
pod_left diligent = none_asked (diligent kinds.Pod (entry_of seats.Scheduler watch_of_pods) (entry_of seats.Scheduler watch_of_pods) (schedule_calls (tells_all c pod)) is_left [] refl four key_p
    (pod_due _ (shown_all c pod) refl, (pod_due _ (shown_all c pod) refl, pod_due _ (shown_all c pod) refl)))

pub life_examples : ScheduleLifeExamples
life_examples = record {
  its_node_is_selected = read_in_time scheduler (entry_of seats.Scheduler watch_of_pods) (entry_of seats.Scheduler (selects (codes "n1") 10)) before_selection few_before selects_it;
  nothing_is_due_of_a_pod_with_a_node = diligent_where_none scheduler _ nothing;
  not_where_a_pod_is_left = pod_left;
  nor_in_order = λ diligent. none_asked (diligent kinds.Pod (entry_of seats.Scheduler watch_of_pods) (entry_of seats.Scheduler watch_of_pods)
      (schedule_calls (tells_all c pod)) is_left [] refl four key_p
      (due_in_order _ (shown_all c pod) refl, (due_in_order _ (shown_all c pod) refl, due_in_order _ (shown_all c pod) refl)));
}
  where
    none_told : (key : Key) → IsKeyDue scheduler key [] → ⊥
    none_told key = not_due scheduler key [] [] (record { order = tt; shown = λ k. refl }) refl

    now : ShowsRows (Pod scheduled ∷ []) (seat_of seats.Scheduler (tells_pod scheduled ∷ []))
    now = shown_pod scheduled

    nothing : NeverDue scheduler (schedule_calls (unscheduled (tells_pod scheduled ∷ [])))
    nothing = (none_due _ now, (none_due _ now, (none_due _ now, (none_due _ now, (none_due _ now, none_told)))))

-- how a life is played

licensed : (s : ActorState) (calls : List Call) → IsPlayed scheduler s calls → AreLicensed seats.Scheduler (entries calls)
licensed s calls played = subst (λ (r : Role). AreLicensed r.kind (entries calls)) (same_role scheduler s calls played) (stands_now scheduler s calls played).licensed

pub played_examples : SchedulePlayedExamples
played_examples = record {
  a_new_life = λ s new. Begins refl new (begins scheduler s new);
  not_with_a_node_for_a_claim_that_was_not_told = λ s played. (licensed s (schedule_calls (selects (codes "n1") 10 ∷ [])) played).2.1;
  not_where_a_pod_is_left = λ s played. pod_left (played_is_diligent scheduler s (schedule_calls (unscheduled (tells_all c pod))) tt played);
}
