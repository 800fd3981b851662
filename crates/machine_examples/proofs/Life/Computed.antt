-- The examples compute.
use Rattle.std.proofs.Common.{◌≡◌, ◌≤◌, ℕ, List, [], ◌∷◌, ◌++◌, Bool, true, false, true≢false, Option, Some, None, inl, inr, refl, sym, ◌∙◌, ap, subst, arith, if◌then◌else◌}
use Rattle.std.specs.Prelude.{◌==◌, ◌&&◌, bytes_eq}
use Rattle.kube_objects.specs.declared.key.Key.{Key}
use Rattle.kube_parts.specs.declared.parts.Kind.TheVariants as kinds
use Rattle.kube_objects.specs.declared.objects.Object.{Object}
use Rattle.kube_objects.specs.declared.objects.Object.TheVariants.{Volume}
use Rattle.kube_objects.specs.declared.objects.Volume.{Volume as VolumeData}
use Rattle.kube_types.specs.declared.lookup.Live.TheVariants.{NotAsked}
use Rattle.kube_parts.specs.declared.parts.VolumePhase.TheVariants as volumes
use Rattle.kube_objects.specs.Bindings.{is_empty}
use Rattle.kube_objects.specs.Keys.{key_of, kind_index, row_at, same_key}
use Rattle.call_types.specs.declared.entry.Entry.{Entry}
use Rattle.call_types.specs.declared.request.Request.{Request}
use Rattle.call_types.specs.declared.request.Request.TheVariants as requests
use Rattle.call_types.specs.declared.request.SeatKind.TheVariants as seats
use Rattle.binder_model.specs.BinderDue.{claim_with}
use Rattle.binder_model.specs.Told.{Telling, later, listing, newest, object_of}
use Rattle.volume_sync.specs.VolumeDecision.{volume_decision}
use Rattle.binder_machines.specs.declared.decide.FirstMachine.{FirstMachine as BinderFirst}
use Rattle.binder_machines.specs.declared.decide.FirstMachine.TheVariants as binder_firsts
use Rattle.binder_machines.specs.declared.machine.Machine.{Machine}
use Rattle.binder_machines.specs.declared.machine.Machine.TheVariants.{Frees, ReadsClaim}
use Rattle.binder_machines.specs.FirstSteps.{IsFirst, volume_first}
use Rattle.binder_machines.specs.Machines.{call_of, write_phase}
use Rattle.informer_cache.proofs.Found.{row_at-put}
use Rattle.model_laws.proofs.Lists.{none_some, one}
use Rattle.model_examples.specs.Samples.{a, key_a, key_c, seat_of, taken_a, tells_volume}
use Rattle.worker_core.specs.declared.role.Role.{Role}
use Rattle.worker_core.specs.declared.task.First.{First}
use Rattle.worker_core.specs.declared.task.First.TheVariants as firsts
use Rattle.worker_core.specs.declared.task.Task.{Task}
use Rattle.worker_core.specs.declared.task.Task.TheVariants as tasks
use Rattle.worker_core.specs.Memories.{memory_of}
use Rattle.worker_core.specs.Stands.{AreLicensed}
use Rattle.worker_core.specs.States.{ActorState}
use Rattle.worker_core.specs.Tasks.{IsDecision}
use Rattle.worker_core.proofs.Begins.{begins}
use Rattle.attention_law.specs.Diligence.{BeginsCall, Call, IsAskedFor, IsDiligent, IsKeyDue, IsQuiet, Shows, WasAskedSince, entries}
use Rattle.attention_law.specs.Played.{Begins, IsPlayed}
use Rattle.attention_law.specs.Showing.{IsDueInOrder}
use Rattle.attention_law.proofs.Dues.{asked_no_watch}
use Rattle.attention_law.proofs.Following.{due_now, played_is_diligent, same_role, stands_now}
use Rattle.machine_examples.specs.Life.Lives.{DueExamples, LifeExamples, PlayedExamples, WatchExamples, binder, call, entry, frees, pending_a, watch, watched}

pub watch_examples : WatchExamples
watch_examples = record {
  four = record { opens = refl; closes = refl; many = omega arith; quiet = (ok, (ok, (ok, (ok, tt)))) };
  five = record { opens = refl; closes = refl; many = omega arith; quiet = (ok, (ok, (ok, (ok, (ok, tt))))) };
  beside_a_read = record { opens = refl; closes = refl; many = omega arith; quiet = (ok, (ok, (ok, (record { told = refl; reads = refl; no_news = refl }, (ok, tt))))) };
  beside_a_watch_of_claims = record { opens = refl; closes = refl; many = omega arith; quiet = (ok, (ok, (ok, (record { told = refl; reads = refl; no_news = refl }, (ok, tt))))) };
  not_three = λ f. let few : 2 ≤ 1 = f.many in omega (arith, few);
  not_by_a_watch_of_claims = λ f. let few : 2 ≤ 1 = f.many in omega (arith, few);
  not_with_a_lost_call = λ f. f.quiet.1.1.1;
  not_with_a_lost_answer = λ f. true≢false (sym f.quiet.1.1.1.0.told);
  not_with_an_event = λ f. true≢false f.quiet.1.1.1.0.no_news;
  not_where_one_is_gone = λ f. true≢false f.quiet.1.1.1.0.no_news;
  not_with_a_write = λ f. true≢false (sym f.quiet.1.1.1.0.reads);
}
  where
    ok : IsQuiet (entry watch)
    ok = record { told = refl; reads = refl; no_news = refl }

-- the rows of one told volume

pub listed_object : (version : ℕ) (row : Option Object) → object_of (Some (listing version row)) ≡ row
listed_object version None = refl
listed_object version (Some o) = refl

abbrev rows : VolumeData → List Object
rows v = Volume v ∷ []

later_none : (t : Option Telling) → later t None ≡ t
later_none None = refl
later_none (Some t) = refl

pub shown_one : (v : VolumeData) (key : Key) → row_at key (rows v) ≡ object_of (newest (seat_of seats.Binder (tells_volume v ∷ [])) key)
shown_one v key = by (kind_index kinds.PersistentVolume == kind_index key.kind) refl
    ∙ sym (ap object_of (later_none (if kind_index kinds.PersistentVolume == kind_index key.kind then Some (listing v.meta.version (row_at key (rows v))) else None)))
  where
    by : (b : Bool) → (kind_index kinds.PersistentVolume == kind_index key.kind) ≡ b
        → row_at key (rows v) ≡ object_of (if kind_index kinds.PersistentVolume == kind_index key.kind then Some (listing v.meta.version (row_at key (rows v))) else None)
    by true e = sym (ap (λ b. object_of (if b then Some (listing v.meta.version (row_at key (rows v))) else None)) e ∙ listed_object v.meta.version (row_at key (rows v)))
    by false e = row_at-put (Volume v) [] key
        ∙ ap (λ b. if b && bytes_eq v.meta.namespace key.namespace && bytes_eq v.meta.name key.name then Some (Volume v) else None) e
        ∙ sym (ap (λ b. object_of (if b then Some (listing v.meta.version (row_at key (rows v))) else None)) e)

-- a volume for which the rules give a call is due

abbrev machine_in : BinderFirst → Option Machine
machine_in (binder_firsts.Begins m) = Some m
machine_in first = None

module _ (v : VolumeData) (m : Machine) (request : Request) (asks : call_of m ≡ Some request) (mine : List Entry)
    (shown : (key : Key) → row_at key (rows v) ≡ object_of (newest mine key)) (there : row_at key_a (rows v) ≡ Some (Volume v))
    (decides : (rs : List Object) → Shows mine rs → volume_first v (volume_decision rs v NotAsked) ≡ binder_firsts.Begins m) where
  row : (rs : List Object) → Shows mine rs → row_at key_a rs ≡ Some (Volume v)
  row rs shows = shows.shown key_a ∙ sym (shown key_a) ∙ there

  is : (rs : List Object) → Shows mine rs → (first : BinderFirst) → IsFirst rs (row_at key_a rs) first → first ≡ binder_firsts.Begins m
  is rs shows first d = subst (λ r. IsFirst rs r first) (row rs shows) d ∙ decides rs shows

  only_ : (rs : List Object) → Shows mine rs → (first : First) → IsDecision binder (memory_of binder mine) rs key_a first → BeginsCall first
  only_ rs shows firsts.Drops d = none_some (ap machine_in (is rs shows binder_firsts.Drops d))
  only_ rs shows (firsts.Queues other) d = none_some (ap machine_in (is rs shows (binder_firsts.Queues other) d))
  only_ rs shows (firsts.Begins (tasks.Binder n)) d =
      record { task = tasks.Binder n; request = request; begins = refl; call = ap call_of (one n m (ap machine_in (is rs shows (binder_firsts.Begins n) d))) ∙ asks }
  only_ rs shows (firsts.Begins _) d = absurd d

  showing : Shows mine (rows v)
  showing = record { order = (tt, tt); shown = shown }

  due_by : IsKeyDue binder key_a mine
  due_by = record {
    rows = rows v;
    shows = showing;
    under = record { key = key_a; task = tasks.Binder m; call = request };
    own = refl;
    gives = record { decided = subst (λ r. IsFirst (rows v) r (binder_firsts.Begins m)) (sym (row (rows v) showing)) (sym (decides (rows v) showing)); call = asks };
    only = only_;
  }

frees_asks : (v : VolumeData) → v.meta.namespace ≡ [] → call_of (Frees v) ≡ Some (write_phase v volumes.Available)
unfolding call_of
frees_asks v none = ap (λ n. if is_empty n then Some (write_phase v volumes.Available) else None) none

pending_due : (mine : List Entry) → ((key : Key) → row_at key (rows pending_a) ≡ object_of (newest mine key)) → IsKeyDue binder key_a mine
unfolding volume_decision
pending_due mine shown = due_by pending_a (Frees pending_a) (write_phase pending_a volumes.Available) (frees_asks pending_a refl) mine shown refl (λ rs shows. refl)

reads_asks : call_of (ReadsClaim taken_a) ≡ Some (requests.Get key_c)
unfolding call_of
reads_asks = refl

-- where the look-up has no row of the claim, it is read
reads_unseen : (rs : List Object) → row_at key_c rs ≡ None → volume_first taken_a (volume_decision rs taken_a NotAsked) ≡ binder_firsts.Begins (ReadsClaim taken_a)
unfolding volume_decision claim_with
reads_unseen rs none = rw none refl

taken_due : (mine : List Entry) → ((key : Key) → row_at key (rows taken_a) ≡ object_of (newest mine key)) → IsKeyDue binder key_a mine
taken_due mine shown = due_by taken_a (ReadsClaim taken_a) (requests.Get key_c) reads_asks mine shown refl (λ rs shows. reads_unseen rs (shows.shown key_c ∙ sym (shown key_c)))

-- a key whose decision drops it is not due

not_due : (key : Key) (mine : List Entry) (rs : List Object) → Shows mine rs → IsFirst rs (row_at key rs) binder_firsts.Drops → IsKeyDue binder key mine → ⊥
not_due key mine rs shows drops due = none_some (ap task_in (due.only rs shows firsts.Drops drops).begins)
  where
    task_in : First → Option Task
    task_in (firsts.Begins task) = Some task
    task_in first = None

-- where nothing was told nothing is due
none_due : (key : Key) → IsKeyDue binder key [] → ⊥
none_due key = not_due key [] [] (record { order = tt; shown = λ k. refl }) refl

-- where an available volume was told nothing is due
available_drops : IsFirst (rows a) (Some (Volume a)) binder_firsts.Drops
unfolding volume_decision
available_drops = refl

available_none : (mine : List Entry) → ((key : Key) → row_at key (rows a) ≡ object_of (newest mine key)) → (key : Key) → IsKeyDue binder key mine → ⊥
available_none mine shown key = not_due key mine (rows a) (record { order = (tt, tt); shown = shown }) (subst
    (λ r. IsFirst (rows a) r binder_firsts.Drops) (sym (row_at-put (Volume a) [] key)) (by (same_key (key_of (Volume a)) key)))
  where
    by : (b : Bool) → IsFirst (rows a) (if b then Some (Volume a) else None) binder_firsts.Drops
    by true = available_drops
    by false = refl

other_drops : (v : VolumeData) (key : Key) → same_key (key_of (Volume v)) key ≡ false → IsFirst (rows v) (row_at key (rows v)) binder_firsts.Drops
other_drops v key other = subst (λ r. IsFirst (rows v) r binder_firsts.Drops) (sym (row_at-put (Volume v) [] key ∙ ap (λ b. if b then Some (Volume v) else None) other)) refl

pub due_examples : DueExamples
due_examples = record {
  pending_volume = pending_due _ (shown_one pending_a);
  still_after_a_watch = pending_due _ (shown_one pending_a);
  not_another_key = not_due key_c _ (rows pending_a) (record { order = (tt, tt); shown = shown_one pending_a }) (other_drops pending_a key_c refl);
  not_an_available_volume = available_none _ (shown_one a) key_a;
  not_before_it_was_told = none_due key_a;
  reference_without_its_claim = taken_due _ (shown_one taken_a);
}

-- whole lives

-- no key is due, at no point
abbrev pub NeverDue : Role → List Call → Type 0
NeverDue role [] = (key : Key) → IsKeyDue role key [] → ⊥
NeverDue role (c ∷ calls) = ((key : Key) → IsKeyDue role key (entries (c ∷ calls)) → ⊥) × NeverDue role calls

never_before : (role : Role) (calls later now : List Call) → NeverDue role calls → calls ≡ later ++ now → (key : Key) → IsKeyDue role key (entries now) → ⊥
never_before role [] [] now never e key due = never key (subst (λ c. IsKeyDue role key (entries c)) (sym e) due)
never_before role (c ∷ calls) [] now never e key due = never.0 key (subst (λ x. IsKeyDue role key (entries x)) (sym e) due)
never_before role [] (d ∷ later) now never e key due = none_some (ap head e)
  where
    head : List Call → Option Call
    head [] = None
    head (x ∷ xs) = Some x
never_before role (c ∷ calls) (d ∷ later) now never e key due = never_before role calls later now never.1 (ap tail e) key due
  where
    tail : List Call → List Call
    tail [] = []
    tail (x ∷ xs) = xs

appended : (later xs ys : List Call) (c : Call) → later ++ (c ∷ xs ++ ys) ≡ (later ++ c ∷ []) ++ (xs ++ ys)
appended [] xs ys c = refl
appended (d ∷ later) xs ys c = ap (λ x. d ∷ x) (appended later xs ys c)

pub diligent_where_none : (role : Role) (calls : List Call) → NeverDue role calls → IsDiligent role calls
diligent_where_none role calls never kind first fourth earlier between later e four key due =
    absurd (never_before role calls (later ++ Some fourth ∷ []) (between ++ Some first ∷ earlier) never
    (e ∙ appended later between (Some first ∷ earlier) (Some fourth)) key (due_now role key (Some first ∷ earlier) between due))

-- four watches with nothing between leave a due key
none_asked : (v : VolumeData) → WasAskedSince binder key_a (call watch ∷ call (tells_volume v) ∷ []) (call watch ∷ call watch ∷ []) → ⊥
none_asked v = none
  where
    watches_none : (mine : List Entry) → IsAskedFor binder key_a mine watch.request → ⊥
    watches_none mine = asked_no_watch binder key_a mine kinds.PersistentVolume 4

    none : WasAskedSince binder key_a (call watch ∷ call (tells_volume v) ∷ []) (call watch ∷ call watch ∷ []) → ⊥
    none (inl asked) = watches_none _ asked
    none (inr (inl asked)) = watches_none _ asked
    none (inr (inr h)) = h

left : (v : VolumeData) → ((mine : List Entry) → ((key : Key) → row_at key (rows v) ≡ object_of (newest mine key)) → IsKeyDue binder key_a mine) → IsDiligent binder (watched v) → ⊥
left v due diligent = none_asked v (diligent kinds.PersistentVolume (entry watch) (entry watch) (call (tells_volume v) ∷ [])
    (call watch ∷ call watch ∷ []) [] refl watch_examples.four key_a (due _ (shown_one v), (due _ (shown_one v), due _ (shown_one v))))

pub pending_left : IsDiligent binder (watched pending_a) → ⊥
pending_left = left pending_a pending_due

-- the calls that the rules give for one told volume

asked_read : IsAskedFor binder key_a (entries (call watch ∷ call watch ∷ call (tells_volume taken_a) ∷ [])) (requests.Get key_c)
unfolding taken_due due_by
asked_read = record {
  rows = due.rows;
  shows = due.shows;
  under = due.under;
  own = due.own;
  gives = due.gives;
  call = refl;
}
  where
    due : IsKeyDue binder key_a (entries (call watch ∷ call watch ∷ call (tells_volume taken_a) ∷ []))
    due = taken_due _ (shown_one taken_a)

-- the rows of one volume stand in order
pending_in_order : (mine : List Entry) → ((key : Key) → row_at key (rows pending_a) ≡ object_of (newest mine key)) → IsDueInOrder binder key_a mine
unfolding pending_due due_by
pending_in_order mine shown = record {
  rows = rows pending_a;
  shows = record { order = (tt, tt); shown = shown };
  spaceless = λ is. spaceless;
  under = (pending_due mine shown).under;
  own = (pending_due mine shown).own;
  gives = (pending_due mine shown).gives;
}
  where
    namespace_of : Option Object → List ℕ
    namespace_of (Some (Volume v)) = v.meta.namespace
    namespace_of row = []

    spaceless : (key : Key) (v : VolumeData) → row_at key (rows pending_a) ≡ Some (Volume v) → v.meta.namespace ≡ []
    spaceless key v e = sym (ap namespace_of (sym (row_at-put (Volume pending_a) [] key) ∙ e)) ∙ by (same_key (key_of (Volume pending_a)) key)
      where
        by : (b : Bool) → namespace_of (if b then Some (Volume pending_a) else None) ≡ []
        by true = refl
        by false = refl

pub life_examples : LifeExamples
life_examples = record {
  nothing_is_due = diligent_where_none binder (watched a) nothing;
  not_where_a_due_key_is_left = pending_left;
  nor_in_order = λ diligent. none_asked pending_a
      (diligent kinds.PersistentVolume (entry watch) (entry watch) (call (tells_volume pending_a) ∷ [])
      (call watch ∷ call watch ∷ []) [] refl watch_examples.four key_a
      (pending_in_order _ (shown_one pending_a), (pending_in_order _ (shown_one pending_a), pending_in_order _ (shown_one pending_a))));
  not_where_the_claim_is_not_read = left taken_a taken_due;
  the_claim_was_read = inr (inl asked_read);
}
  where
    told : (mine : List Entry) → ((key : Key) → newest mine key ≡ newest (seat_of seats.Binder (tells_volume a ∷ [])) key) → (key : Key) → IsKeyDue binder key mine → ⊥
    told mine same = available_none mine (λ key. shown_one a key ∙ sym (ap object_of (same key)))

    nothing : NeverDue binder (watched a)
    nothing = (told _ (λ key. refl), (told _ (λ key. refl), (told _ (λ key. refl), (told _ (λ key. refl), (told _ (λ key. refl), none_due)))))

licensed : (s : ActorState) (c : Call) → IsPlayed binder s (c ∷ []) → AreLicensed seats.Binder (entries (c ∷ []))
licensed s c played = subst (λ (r : Role). AreLicensed r.kind (entries (c ∷ []))) (same_role binder s (c ∷ []) played) (stands_now binder s (c ∷ []) played).licensed

pub played_examples : PlayedExamples
played_examples = record {
  a_new_life = λ s new. Begins refl new (begins binder s new);
  not_with_a_watch_before_a_list = λ s played. (licensed s (call watch) played).2.1.1;
  not_with_a_write_of_what_was_not_told = λ s played. (licensed s (call (frees a)) played).2.1.1;
  not_where_a_due_key_is_left = λ s played. pending_left (played_is_diligent binder s (watched pending_a) tt played);
}
