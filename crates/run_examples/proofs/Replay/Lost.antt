-- A life that lost one call is not idle while it was told of two keys and called for neither.
use Rattle.std.proofs.Common.{◌≡◌, ◌⊎◌, List, [], ◌∷◌, ◌++◌, true, true≢false, Option, Some, None, inl, inr, bytes_eq, codes, refl, sym, ◌∙◌, ap, subst, append-nil, ℕ}
use Rattle.std.specs.Prelude.{option_map}
use Rattle.std.specs.List.{list_any}
use Rattle.kube_objects.specs.declared.key.Key.{Key}
use Rattle.kube_parts.specs.declared.parts.Kind.{Kind}
use Rattle.kube_parts.specs.declared.parts.Kind.TheVariants as kinds
use Rattle.kube_objects.specs.declared.objects.Object.TheVariants.{Volume}
use Rattle.kube_objects.specs.declared.objects.Volume.{Volume as VolumeData}
use Rattle.kube_objects.specs.Keys.{row_at, same_key}
use Rattle.call_types.specs.declared.entry.Entry.{Entry}
use Rattle.call_types.specs.declared.request.Request.{Request}
use Rattle.call_types.specs.declared.request.Request.TheVariants as requests
use Rattle.call_types.specs.declared.request.SeatKind.TheVariants as seats
use Rattle.binder_model.specs.Told.{newest, object_of}
use Rattle.model_laws.proofs.Lists.{none_some, one}
use Rattle.model_examples.specs.ProtectionRows.{leaving_a}
use Rattle.model_examples.specs.Samples.{key_a}
use Rattle.informer_cache.specs.Cache.{keys_in}
use Rattle.protect_sync.specs.declared.volumes.VolumeGuardStep.TheVariants as volumes
use Rattle.protect_sync.specs.Decisions.{volume_guard_begins}
use Rattle.protect_sync.specs.VolumeGuards.{unguarded_volume, volume_guard_call, volume_write_over}
use Rattle.worker_core.specs.declared.role.Role.{Role}
use Rattle.worker_core.specs.declared.task.First.{First}
use Rattle.worker_core.specs.declared.task.First.TheVariants as firsts
use Rattle.worker_core.specs.declared.task.Task.{Task}
use Rattle.worker_core.specs.declared.task.Task.TheVariants as tasks
use Rattle.worker_core.specs.declared.task.Under.{Under}
use Rattle.worker_core.specs.declared.turn.Given.{Given}
use Rattle.worker_core.specs.declared.turn.Given.TheVariants as givens
use Rattle.worker_core.specs.declared.turn.Next.TheVariants as nexts
use Rattle.worker_core.specs.declared.turn.Outcome.{Outcome}
use Rattle.worker_core.specs.declared.turn.Outcome.TheVariants as outcomes
use Rattle.worker_core.specs.Absorbs.{given_told, learned, woken}
use Rattle.worker_core.specs.Roles.{IsBuiltKind}
use Rattle.worker_core.specs.Stands.{AnyIsUnderWay, GivenStands, StandsFor}
use Rattle.worker_core.specs.States.{ActorState, asked, call_under, given_call, waits}
use Rattle.worker_core.specs.Tasks.{task_call, volume_guard_first}
use Rattle.worker_core.proofs.Answered.{gives_asked}
use Rattle.worker_core.proofs.ByKind.{built_fresh, start_reads_none}
use Rattle.worker_core.proofs.KeysKept.{absorbed_keys}
use Rattle.worker_core.proofs.Machines.{task_reads_none, under_calls}
use Rattle.attention_law.specs.Diligence.{Call, IsAskedFor, IsKeyDue, entries}
use Rattle.attention_law.specs.Played.{IsPlayed, PlaysCall, Turns}
use Rattle.attention_law.specs.Queues.{OneTaken, taken_keys, under_keys}
use Rattle.attention_law.specs.Resting.{Brings, Drops, Hears, IsDone, IsPlayedSince, Misses, Resumes, Starts}
use Rattle.attention_law.proofs.Dues.{asked_no_read, never_due}
use Rattle.attention_law.proofs.Following.{no_list, one_taken, same_head, same_role, same_tail, stands_now}
use Rattle.attention_law.proofs.Needed.{played_on}
use Rattle.attention_law.proofs.Phases.{called_or_waits, decided}
use Rattle.attention_law.proofs.Queues.{all_self}
use Rattle.attention_law.proofs.Showings.{one_showing}
use Rattle.attention_law.proofs.Turned.{turn_taken}
use Rattle.script_runs.specs.Parts.{role_of}
use Rattle.actor_turns.specs.Calls.{AreOfLife}
use Rattle.actor_turns.specs.Lives.{IsIdleLife}
use Rattle.machine_examples.proofs.Life.Computed.{listed_object as listed_row}
use Rattle.run_examples.specs.Replay.Losses.{OneLossExamples, both_leave, leaving_b, left_two, listed, losing_part, lost_one, quiet_watch, volumes_1}
use Rattle.run_examples.proofs.Replay.Brought.{brought_at}
use Rattle.run_examples.proofs.Replay.Played.{same_calls}

abbrev guard : Role
guard = role_of volumes_1

abbrev list_both : Entry
list_both = listed both_leave

-- ---- both volumes are due, each for a write of its own

abbrev key_b : Key
key_b = record key_a { name = codes "b" }

-- the rows show what was told
abbrev ShowsBoth : List Entry → Kind → List ℕ → List ℕ → Type 0
ShowsBoth mine kind namespace name =
    row_at (record { kind = kind; namespace = namespace; name = name }) both_leave ≡ object_of (newest mine (record { kind = kind; namespace = namespace; name = name }))

shown_both : (kind : Kind) (namespace name : List ℕ) → ShowsBoth (list_both ∷ []) kind namespace name
shown_both kinds.PersistentVolume namespace name = sym (listed_row 3 (row_at (record { kind = kinds.PersistentVolume; namespace = namespace; name = name }) both_leave))
shown_both kinds.PersistentVolumeClaim namespace name = refl
shown_both kinds.StorageClass namespace name = refl
shown_both kinds.Node namespace name = refl
shown_both kinds.Pod namespace name = refl

-- the write that lets the volume go
abbrev lets_go : VolumeData → Request
lets_go v = volume_write_over v (unguarded_volume v)

abbrev goes_task : VolumeData → Task
goes_task v = tasks.VolumeProtect (record { volume = v; step = volumes.Drops })

due_there : (mine : List Entry) → ((key : Key) → row_at key both_leave ≡ object_of (newest mine key)) → (key : Key) (v : VolumeData)
    → volume_guard_first (volume_guard_begins (row_at key both_leave)) ≡ firsts.Begins (goes_task v) → task_call (goes_task v) ≡ Some (lets_go v) → IsKeyDue guard key mine
due_there mine shown key v begins call =
    one_showing guard key mine both_leave (record { key = key; task = goes_task v; call = lets_go v }) tt (record { order = ((refl, tt), (tt, tt)); shown = shown }) tt refl
    (record { decided = sym begins; call = call })

call_is : (v : VolumeData) → task_call (goes_task v) ≡ Some (lets_go v)
unfolding volume_guard_call
call_is v = refl

-- at both points at which it is asked for
due_a : (mine : List Entry) → ((key : Key) → row_at key both_leave ≡ object_of (newest mine key)) → IsKeyDue guard key_a mine
due_a mine shown = due_there mine shown key_a leaving_a refl (call_is leaving_a)

due_b : (mine : List Entry) → ((key : Key) → row_at key both_leave ≡ object_of (newest mine key)) → IsKeyDue guard key_b mine
due_b mine shown = due_there mine shown key_b leaving_b refl (call_is leaving_b)

shown_first : (key : Key) → row_at key both_leave ≡ object_of (newest (list_both ∷ []) key)
shown_first key = shown_both key.kind key.namespace key.name

shown_last : (key : Key) → row_at key both_leave ≡ object_of (newest (left_two both_leave) key)
shown_last key = shown_both key.kind key.namespace key.name

-- what is asked for a key is that write

abbrev task_in : First → Option Task
task_in (firsts.Begins task) = Some task
task_in first = None

asked_is : (mine : List Entry) → ((key : Key) → row_at key both_leave ≡ object_of (newest mine key)) → (key : Key) (v : VolumeData)
    → volume_guard_first (volume_guard_begins (row_at key both_leave)) ≡ firsts.Begins (goes_task v) → (request : Request) → IsAskedFor guard key mine request → request ≡ lets_go v
asked_is mine shown key v begins request a =
    let row : row_at a.under.key a.rows ≡ row_at key both_leave = a.shows.shown a.under.key ∙ ap (λ k. object_of (newest mine k)) a.own ∙ sym (shown key) in
    let task : a.under.task ≡ goes_task v = one a.under.task (goes_task v) (ap task_in (a.gives.decided ∙ ap (λ r. volume_guard_first (volume_guard_begins r)) row ∙ begins)) in
    a.call ∙ one a.under.call (lets_go v) (sym a.gives.call ∙ ap task_call task ∙ call_is v)

abbrev name_in : Request → List ℕ
name_in (requests.Update (Volume v) at) = v.meta.name
name_in request = []

not_both : (request : Request) → IsAskedFor guard key_a (list_both ∷ []) request → IsAskedFor guard key_b (list_both ∷ []) request → ⊥
not_both request a b =
    let first : request ≡ lets_go leaving_a = asked_is (list_both ∷ []) shown_first key_a leaving_a refl request a in
    let second : request ≡ lets_go leaving_b = asked_is (list_both ∷ []) shown_first key_b leaving_b refl request b in
    let both : lets_go leaving_a ≡ lets_go leaving_b = sym first ∙ second in
    true≢false (ap (λ r. bytes_eq (name_in r) (codes "a")) both)

-- ---- how the states of such a life follow one another

-- the newest call was told
record HasHeard (s : ActorState) (e : Entry) (rest : List Call) : Type 0 where
  before : ActorState
  played : IsPlayedSince guard before [] rest
  gives : PlaysCall before s e.request (outcomes.Told e.reply) (entries (rest ++ []))

heard_from : (s : ActorState) (e : Entry) (rest since : List Call) → e.told ≡ true → IsPlayedSince guard s [] since → since ≡ Some e ∷ rest → HasHeard s e rest
heard_from s e rest since was (Starts none_before none new stands) is = absurd (no_list (Some e) rest (sym none ∙ is))
heard_from s e rest since was (Hears old tail x request reply played at told gives stands) is =
    let same : x ≡ e = one x e (same_head (Some x) (Some e) tail rest (sym at ∙ is)) in
    let later : tail ≡ rest = same_tail (Some x) (Some e) tail rest (sym at ∙ is) in
    let asks : request ≡ e.request = sym told.asked ∙ ap (λ (y : Entry). y.request) same in
    let came : reply ≡ e.reply = sym told.answered ∙ ap (λ (y : Entry). y.reply) same in
    record {
      before = old;
      played = subst (IsPlayedSince guard old []) later played;
      gives = subst (λ r. PlaysCall old s r (outcomes.Told e.reply) (entries (rest ++ []))) asks
          (subst (λ y. PlaysCall old s request (outcomes.Told y) (entries (rest ++ []))) came (subst (λ c. PlaysCall old s request (outcomes.Told reply) (entries (c ++ []))) later gives));
    }
heard_from s e rest since was (Drops old tail request played at gives stands) is = none_some (same_head None (Some e) tail rest (sym at ∙ is))
heard_from s e rest since was (Misses old tail x request played at lost own gives stands) is =
    let same : x ≡ e = one x e (same_head (Some x) (Some e) tail rest (sym at ∙ is)) in
    absurd (true≢false (sym was ∙ sym (ap (λ (y : Entry). y.told) same) ∙ lost))
heard_from s e rest since was (Resumes old turned earlier made played at none turns wakes stands) is = absurd (no_list (Some e) rest (sym none ∙ is))

-- the newest call was lost before its effect
record HasLost (s : ActorState) (rest : List Call) : Type 0 where
  before : ActorState
  request : Request
  played : IsPlayedSince guard before [] rest
  gives : PlaysCall before s request outcomes.Lost (entries (rest ++ []))

lost_from : (s : ActorState) (rest since : List Call) → IsPlayedSince guard s [] since → since ≡ None ∷ rest → HasLost s rest
lost_from s rest since (Starts none_before none new stands) is = absurd (no_list None rest (sym none ∙ is))
lost_from s rest since (Hears old tail x request reply played at told gives stands) is = none_some (sym (same_head (Some x) None tail rest (sym at ∙ is)))
lost_from s rest since (Drops old tail request played at gives stands) is =
    let later : tail ≡ rest = same_tail None None tail rest (sym at ∙ is) in
    record {
      before = old;
      request = request;
      played = subst (IsPlayedSince guard old []) later played;
      gives = subst (λ c. PlaysCall old s request outcomes.Lost (entries (c ++ []))) later gives;
    }
lost_from s rest since (Misses old tail x request played at lost own gives stands) is = none_some (sym (same_head (Some x) None tail rest (sym at ∙ is)))
lost_from s rest since (Resumes old turned earlier made played at none turns wakes stands) is = absurd (no_list None rest (sym none ∙ is))

-- ---- the keys of a list wait

-- the list was given as a read, with nothing under way
record IsListing (s : ActorState) : Type 0 where
  kind : Kind
  given : s.given ≡ Some (givens.Read kind)
  free : s.under ≡ None

is_listing : (s : ActorState) (mine : List Entry) → StandsFor s mine → asked s ≡ Some list_both.request → IsListing s
is_listing s mine stands ask = by s.given refl ask stands.given
  where
    under : (u : Option Under) → AnyIsUnderWay s.role u mine → option_map call_under u ≡ Some list_both.request → IsListing s
    under None way e = none_some e
    under (Some u) way e = absurd (true≢false (task_reads_none u.task list_both.request kinds.PersistentVolume (under_calls s.role u mine way ∙ e)))

    by : (g : Option Given) → s.given ≡ g → given_call s g ≡ Some list_both.request → GivenStands s.role s.memory g s.under → IsListing s
    by None at e f = none_some e
    by (Some givens.Task) at e f = under s.under stands.under_way e
    by (Some givens.Start) at e f = absurd (true≢false (start_reads_none s.role.kind s.role.node s.memory list_both.request kinds.PersistentVolume e))
    by (Some (givens.Read k)) at e f = record { kind = k; given = at; free = f.1 }

listed_waits : (key : Key) (s new : ActorState) (mine : List Entry) → OneTaken s → PlaysCall s new list_both.request (outcomes.Told list_both.reply) mine
    → list_any (same_key key) (keys_in list_both.reply) ≡ true → waits key new.work ≡ true
listed_waits key s new mine own g has =
    ap (λ (x : ActorState). waits key x.work) g.takes
    ∙ ap (λ x. waits key (given_told (learned g.turned new.caches list_both.request list_both.reply) list_both.request list_both.reply x).work) listing.given
    ∙ all_self (keys_in list_both.reply) key g.turned.work has none
  where
    listing : IsListing g.turned
    listing = is_listing g.turned mine g.turns.stands (sym (gives_asked s g.turned (nexts.Call list_both.request) g.turns.turn))

    none : taken_keys g.turned.work ≡ []
    none = turn_taken s g.turned (nexts.Call list_both.request) g.turns.turn own ∙ ap under_keys listing.free

-- ---- a key that is due and waits is called for, or goes on waiting

module _ (key : Key) (s new : ActorState) (calls : List Call) (played : IsPlayedSince guard s [] calls) where
  life : IsPlayed guard s (calls ++ [])
  life = played_on guard s [] calls played

  goes_on : (request : Request) (outcome : Outcome) → PlaysCall s new request outcome (entries (calls ++ [])) → IsKeyDue guard key (entries (calls ++ []))
      → waits key s.work ≡ true → IsAskedFor guard key (entries (calls ++ [])) request ⊎ (waits key new.work ≡ true)
  goes_on request outcome g due there =
      elim (called_or_waits key s g.turned (entries (calls ++ [])) (stands_now guard s (calls ++ []) life) g.turns.order
      (subst (λ r. IsKeyDue r key (entries (calls ++ []))) (sym (same_role guard s (calls ++ []) life)) due) request g.turns.turn) [
        | inl called ↦ inl (subst (λ r. IsAskedFor r key (entries (calls ++ [])) request) (same_role guard s (calls ++ []) life) called)
        | inr stays ↦ inr ((absorbed_keys g.turned new request outcome g.takes).stays key (stays there))
      ]

  -- it is decided before the life is idle
  not_idle : (turned : ActorState) → Turns s turned nexts.Idle (entries (calls ++ [])) → IsKeyDue guard key (entries (calls ++ [])) → waits key s.work ≡ true → ⊥
  not_idle turned turns due there =
      let own = same_role guard s (calls ++ []) life in
      let built : IsBuiltKind s.role.kind = subst (λ (r : Role). IsBuiltKind r.kind) (sym own) tt in
      let stands = stands_now guard s (calls ++ []) life in
      let other : s.role.kind ≡ seats.Agent → ⊥ = (λ agent. let two : seats.VolumeProtect ≡ seats.Agent = sym (ap (λ (r : Role). r.kind) own) ∙ agent in absurd (cc)) in
      decided key s turned (woken turned) (entries (calls ++ [])) built stands turns.order (subst (λ r. IsKeyDue r key (entries (calls ++ []))) (sym own) due)
      (one_taken guard s (calls ++ []) life) (built_fresh s (entries (calls ++ [])) built other stands) turns.turn refl there

-- ---- the life that lost one call

module _ (s turned : ActorState) (played : IsPlayedSince guard s [] (lost_one both_leave)) (turns : Turns s turned nexts.Idle (left_two both_leave)) where
  last : HasHeard s quiet_watch (None ∷ Some list_both ∷ [])
  last = heard_from s quiet_watch (None ∷ Some list_both ∷ []) (lost_one both_leave) refl played refl

  lost : HasLost last.before (Some list_both ∷ [])
  lost = lost_from last.before (Some list_both ∷ []) (None ∷ Some list_both ∷ []) last.played refl

  first : HasHeard lost.before list_both []
  first = heard_from lost.before list_both [] (Some list_both ∷ []) refl lost.played refl

  waited : (key : Key) → list_any (same_key key) (keys_in list_both.reply) ≡ true → waits key lost.before.work ≡ true
  waited key has = listed_waits key first.before lost.before [] (one_taken guard first.before [] (played_on guard first.before [] [] first.played)) first.gives has

  -- a key that waits after the loss is left
  still : (key : Key) → IsKeyDue guard key (list_both ∷ []) → IsKeyDue guard key (left_two both_leave) → waits key last.before.work ≡ true → ⊥
  still key due later there =
      elim (goes_on key last.before s (None ∷ Some list_both ∷ []) last.played quiet_watch.request (outcomes.Told quiet_watch.reply) last.gives due there) [
        | inl called ↦ asked_no_read guard key (list_both ∷ []) quiet_watch.request kinds.PersistentVolume refl called
        | inr waiting ↦ not_idle key s s (lost_one both_leave) played turned turns later waiting
      ]

  one_is_left : ⊥
  one_is_left =
      elim (goes_on key_a lost.before last.before (Some list_both ∷ []) lost.played lost.request outcomes.Lost lost.gives (due_a (list_both ∷ []) shown_first) (waited key_a refl)) [
        | inr there ↦ still key_a (due_a (list_both ∷ []) shown_first) (due_a (left_two both_leave) shown_last) there
        | inl first_called ↦
            elim (goes_on key_b lost.before last.before (Some list_both ∷ []) lost.played lost.request outcomes.Lost lost.gives (due_b (list_both ∷ []) shown_first) (waited key_b refl)) [
              | inr there ↦ still key_b (due_b (list_both ∷ []) shown_first) (due_b (left_two both_leave) shown_last) there
              | inl second_called ↦ not_both lost.request first_called second_called
            ]
      ]

-- ---- the examples

of_life : AreOfLife [] losing_part 5 3 (left_two both_leave) (lost_one both_leave)
of_life = record { of_seat = refl; left = refl }

two_left : (since : List Call) → IsIdleLife [] guard losing_part 5 3 (left_two both_leave) [] since → ⊥
two_left since idle = one_is_left idle.state idle.turned (subst (IsPlayedSince guard idle.state []) its idle.played) idle.turns
  where
    its : since ≡ lost_one both_leave
    its = sym (append-nil since) ∙ same_calls (since ++ []) (lost_one both_leave) (idle.are.of_seat ∙ sym of_life.of_seat) (idle.are.left ∙ sym of_life.left)

watch_brings_no_key : (key : Key) → Brings key quiet_watch → ⊥
watch_brings_no_key key brings = true≢false (sym brings.has)

one_done : IsDone guard [] (lost_one (Volume leaving_a ∷ []))
one_done = record {
  passed = record { whole = refl; quiet = refl };
  brought = λ key e later earlier at brings due. brought_at guard [] [] (lost_one (Volume leaving_a ∷ []))
      ((λ key brings due. absurd (watch_brings_no_key key brings)), ((λ key brings due. inr tt), tt)) key e later earlier at brings due;
  due = λ key due. absurd (never_due guard key tt due.1.1.1);
}

pub one_loss_cases : OneLossExamples
one_loss_cases = record { of_one_volume = one_done; not_of_two = two_left }
