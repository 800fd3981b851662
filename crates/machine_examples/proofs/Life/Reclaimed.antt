-- The examples of ops compute.
use Rattle.std.proofs.Common.{◌≡◌, ◌≤◌, List, [], ◌∷◌, Bool, true, false, true≢false, Option, Some, None, inl, inr, refl, sym, ◌∙◌, ap, subst, arith, if◌then◌else◌}
use Rattle.kube_objects.specs.declared.key.Key.{Key}
use Rattle.kube_parts.specs.declared.parts.Kind.{Kind}
use Rattle.kube_parts.specs.declared.parts.Kind.TheVariants as kinds
use Rattle.kube_objects.specs.declared.objects.Class.{Class as ClassData}
use Rattle.kube_objects.specs.declared.objects.Claim.{Claim as ClaimData}
use Rattle.kube_objects.specs.declared.objects.Volume.{Volume as VolumeData}
use Rattle.kube_objects.specs.declared.objects.Object.{Object}
use Rattle.kube_objects.specs.declared.objects.Object.TheVariants.{Class, Volume, Claim}
use Rattle.kube_objects.specs.Keys.{AreRows, key_of, row_at, same_key}
use Rattle.call_types.specs.declared.entry.Entry.{Entry}
use Rattle.call_types.specs.declared.request.Request.{Request}
use Rattle.call_types.specs.declared.request.Request.TheVariants as requests
use Rattle.call_types.specs.declared.request.SeatKind.TheVariants as seats
use Rattle.binder_model.specs.Told.{newest, object_of}
use Rattle.informer_cache.proofs.Found.{row_at-put}
use Rattle.model_laws.proofs.Lists.{none_some}
use Rattle.model_examples.specs.OpsRows.{deleting_c}
use Rattle.model_examples.specs.Samples.{
  Exchange,
  a,
  c,
  chosen_c,
  deleting_a,
  ended_a,
  entry_of,
  fast,
  finds_none,
  key_a,
  key_c,
  late,
  released_a,
  seat_of,
  still_bound_a,
  tells_claim,
  tells_class,
  tells_volume,
  uid_c,
}
use Rattle.reclaim_ops.specs.declared.erase.EraseOp.{EraseOp}
use Rattle.reclaim_ops.specs.declared.erase.EraseStep.TheVariants as erase_steps
use Rattle.reclaim_ops.specs.declared.provision.ProvisionOp.{ProvisionOp}
use Rattle.reclaim_ops.specs.declared.provision.ProvisionStep.TheVariants as provision_steps
use Rattle.reclaim_ops.specs.Decisions.{claim_begins, volume_begins}
use Rattle.reclaim_ops.specs.Erasures.{erase_call}
use Rattle.reclaim_ops.specs.Provisions.{ask_call, clear_call, provision_call}
use Rattle.worker_core.specs.declared.role.Role.{Role}
use Rattle.worker_core.specs.declared.task.First.TheVariants as firsts
use Rattle.worker_core.specs.declared.task.Task.{Task}
use Rattle.worker_core.specs.declared.task.Task.TheVariants as tasks
use Rattle.worker_core.specs.declared.task.Under.{Under}
use Rattle.worker_core.specs.Memories.{memory_of}
use Rattle.worker_core.specs.Stands.{AreLicensed}
use Rattle.worker_core.specs.States.{ActorState}
use Rattle.worker_core.specs.Tasks.{GivesCall, ops_first}
use Rattle.worker_core.proofs.Begins.{begins}
use Rattle.worker_core.proofs.KeyMoves.{is_key}
use Rattle.attention_law.specs.Diligence.{AreFourWatches, Call, IsAskedFor, IsDiligent, IsKeyDue, IsDueThroughout, IsQuiet, WasAskedSince, entries, watches}
use Rattle.attention_law.specs.Played.{Begins, IsPlayed}
use Rattle.attention_law.specs.Showing.{IsDiligentInOrder, IsDueInOrder, IsDueInOrderThroughout}
use Rattle.attention_law.proofs.Dues.{asked_no_watch}
use Rattle.attention_law.proofs.Following.{played_is_diligent, same_role, stands_now}
use Rattle.attention_law.proofs.Ordered.{rows_in_order}
use Rattle.machine_examples.proofs.Life.Computed.{NeverDue, diligent_where_none, listed_object, shown_one}
use Rattle.machine_examples.proofs.Life.Counted.{read_in_time}
use Rattle.machine_examples.proofs.Life.Protected.{is_binder, not_due, shown_claim}
use Rattle.machine_examples.specs.Life.Reclaims.{OpsDueExamples, OpsLifeExamples, OpsPlayedExamples, claim_left, erases_unread, left_alone, ops, ops_calls, volume_left, watch_of}

-- the rows of a claim and its class that were told, and of a volume that was told before

abbrev with_class : ClassData → ClaimData → List Object
with_class k x = Class k ∷ Claim x ∷ []

shown_class : (k : ClassData) (x : ClaimData) (key : Key) → row_at key (with_class k x) ≡ object_of (newest (seat_of seats.Ops (tells_claim x ∷ tells_class k ∷ [])) key)
shown_class k x key = by key.kind
  where
    by : (of : Kind) → row_at (record key { kind = of }) (with_class k x) ≡ object_of (newest (seat_of seats.Ops (tells_claim x ∷ tells_class k ∷ [])) (record key { kind = of }))
    by kinds.StorageClass = sym (listed_object k.meta.version (row_at (record key { kind = kinds.StorageClass }) (Class k ∷ [])))
    by kinds.Node = refl
    by kinds.PersistentVolume = refl
    by kinds.PersistentVolumeClaim = sym (listed_object x.meta.version (row_at (record key { kind = kinds.PersistentVolumeClaim }) (Claim x ∷ [])))
    by kinds.Pod = refl

abbrev with_volume : ClassData → VolumeData → ClaimData → List Object
with_volume k v x = Class k ∷ Volume v ∷ Claim x ∷ []

shown_three : (k : ClassData) (v : VolumeData) (x : ClaimData) (key : Key)
    → row_at key (with_volume k v x) ≡ object_of (newest (seat_of seats.Ops (tells_claim x ∷ tells_class k ∷ tells_volume v ∷ [])) key)
shown_three k v x key = by key.kind
  where
    by : (of : Kind) → row_at (record key { kind = of }) (with_volume k v x) ≡ object_of (newest (seat_of seats.Ops (tells_claim x ∷ tells_class k ∷ tells_volume v ∷ [])) (record key { kind = of }))
    by kinds.StorageClass = sym (listed_object k.meta.version (row_at (record key { kind = kinds.StorageClass }) (Class k ∷ [])))
    by kinds.Node = refl
    by kinds.PersistentVolume = sym (listed_object v.meta.version (row_at (record key { kind = kinds.PersistentVolume }) (Volume v ∷ [])))
    by kinds.PersistentVolumeClaim = sym (listed_object x.meta.version (row_at (record key { kind = kinds.PersistentVolumeClaim }) (Claim x ∷ [])))
    by kinds.Pod = refl

-- a key is due where its decision begins with a call

module _ (key : Key) (mine : List Entry) (rows : List Object) (task : Task) (call : Request) (order : AreRows rows) (shown : (k : Key) → row_at k rows ≡ object_of (newest mine k))
    (gives : GivesCall ops (memory_of ops mine) rows (record { key = key; task = task; call = call })) where
  in_order : IsDueInOrder ops key mine
  in_order = record {
    rows = rows;
    shows = record { order = order; shown = shown };
    spaceless = λ is. absurd (true≢false (sym (ap is_binder is)));
    under = record { key = key; task = task; call = call };
    own = refl;
    gives = gives;
  }

  is_due : IsKeyDue ops key mine
  is_due = rows_in_order ops key mine tt in_order

  asked_for : IsAskedFor ops key mine call
  asked_for = record { rows = rows; shows = record { order = order; shown = shown }; under = record { key = key; task = task; call = call }; own = refl; gives = gives; call = refl }

-- a claim that is provisioned, and one whose node is taken back

asks_for_data : ProvisionOp
asks_for_data = record { claim = c; uid = uid_c; class = fast; step = provision_steps.Provisions None }

clears_its_node : ProvisionOp
clears_its_node = record { claim = chosen_c; uid = uid_c; class = late; step = provision_steps.ClearsNode }

claim_due : (mine : List Entry) → ((k : Key) → row_at k (with_class fast c) ≡ object_of (newest mine k)) → IsKeyDue ops key_c mine
unfolding provision_call asks_for_data
claim_due mine shown = is_due key_c mine (with_class fast c) (tasks.Provision asks_for_data) (ask_call c uid_c fast None) ((refl, tt), (tt, tt)) shown (record { decided = refl; call = refl })

node_due : (mine : List Entry) → ((k : Key) → row_at k (with_class late chosen_c) ≡ object_of (newest mine k)) → IsKeyDue ops key_c mine
unfolding provision_call clears_its_node
node_due mine shown = is_due key_c mine (with_class late chosen_c) (tasks.Provision clears_its_node) (clear_call chosen_c) ((refl, tt), (tt, tt)) shown (record { decided = refl; call = refl })

-- a volume that is reclaimed

reads_volume : EraseOp
reads_volume = record { volume = ended_a; step = erase_steps.ReadsVolume }

abbrev ShowsEnded : List Entry → Type 0
ShowsEnded mine = (k : Key) → row_at k (Volume ended_a ∷ []) ≡ object_of (newest mine k)

module _ (mine : List Entry) (shown : ShowsEnded mine) where
  abbrev reads : Under
  reads = record { key = key_a; task = tasks.Erase reads_volume; call = requests.Get key_a }

  gives_read : GivesCall ops (memory_of ops mine) (Volume ended_a ∷ []) reads
  unfolding erase_call reads_volume
  gives_read = record { decided = refl; call = refl }

  ended_in_order : IsDueInOrder ops key_a mine
  ended_in_order = in_order key_a mine (Volume ended_a ∷ []) (tasks.Erase reads_volume) (requests.Get key_a) (tt, tt) shown gives_read

  ended_due : IsKeyDue ops key_a mine
  ended_due = is_due key_a mine (Volume ended_a ∷ []) (tasks.Erase reads_volume) (requests.Get key_a) (tt, tt) shown gives_read

  ended_asked : IsAskedFor ops key_a mine (requests.Get key_a)
  ended_asked = asked_for key_a mine (Volume ended_a ∷ []) (tasks.Erase reads_volume) (requests.Get key_a) (tt, tt) shown gives_read

-- one told volume: where the decision on its row drops it, or the key is another, the key is not due

abbrev IsDropped : List Object → Option Object → Type 0
IsDropped rows row = firsts.Drops ≡ ops_first (claim_begins rows row) (volume_begins row)

module _ (v : VolumeData) (mine : List Entry) (shown : (k : Key) → row_at k (Volume v ∷ []) ≡ object_of (newest mine k)) where
  dropped_by : (key : Key) (b : Bool) → same_key (key_of (Volume v)) key ≡ b → IsDropped (Volume v ∷ []) (if b then Some (Volume v) else None) → IsKeyDue ops key mine → ⊥
  dropped_by key b at drops = not_due ops key mine (Volume v ∷ []) (record { order = (tt, tt); shown = shown }) (subst
      (λ row. IsDropped (Volume v ∷ []) row) (sym (row_at-put (Volume v) [] key ∙ ap (λ x. if x then Some (Volume v) else None) at)) drops)

  volume_none : IsDropped (Volume v ∷ []) (Some (Volume v)) → (key : Key) → IsKeyDue ops key mine → ⊥
  volume_none drops key = by (same_key (key_of (Volume v)) key) refl
    where
      by : (b : Bool) → same_key (key_of (Volume v)) key ≡ b → IsKeyDue ops key mine → ⊥
      by true at = dropped_by key true at drops
      by false at = dropped_by key false at refl

  due_is_its_key : (key : Key) → IsKeyDue ops key mine → key_of (Volume v) ≡ key
  due_is_its_key key due = by (same_key (key_of (Volume v)) key) refl
    where
      by : (b : Bool) → same_key (key_of (Volume v)) key ≡ b → key_of (Volume v) ≡ key
      by true at = is_key (key_of (Volume v)) key at
      by false at = absurd (dropped_by key false at refl due)

pub due_examples : OpsDueExamples
due_examples = record {
  claim_that_nothing_serves = claim_due _ (shown_class fast c);
  claim_whose_node_is_absent = node_due _ (shown_class late chosen_c);
  ended_volume = ended_due _ (shown_one ended_a);
  still_once_it_was_not_found = ended_due _ (shown_one ended_a);
  not_a_claim_that_a_volume_serves = not_due ops key_c _ (with_volume fast a c) (record { order = ((refl, (refl, tt)), ((refl, tt), (tt, tt))); shown = shown_three fast a c }) refl;
  not_a_claim_without_its_class = not_due ops key_c _ (Claim c ∷ []) (record { order = (tt, tt); shown = shown_claim c }) refl;
  not_a_claim_that_waits_for_its_node = not_due ops key_c _ (with_class late c) (record { order = ((refl, tt), (tt, tt)); shown = shown_class late c }) refl;
  not_a_deleting_claim = not_due ops key_c _ (with_class fast deleting_c) (record { order = ((refl, tt), (tt, tt)); shown = shown_class fast deleting_c }) refl;
  not_a_volume_to_be_kept = volume_none released_a _ (shown_one released_a) refl key_a;
  not_a_bound_volume = volume_none still_bound_a _ (shown_one still_bound_a) refl key_a;
  not_a_deleting_volume = volume_none deleting_a _ (shown_one deleting_a) refl key_a;
}

-- the life that reads the volume

-- the calls before the read that came before the fourth watch
abbrev before_read : List Call
before_read = let w = watch_of kinds.PersistentVolume in ops_calls (w ∷ finds_none key_a ∷ w ∷ w ∷ finds_none key_a ∷ tells_volume ended_a ∷ [])

few_before : (kind : Kind) → watches kind (Some (entry_of seats.Ops (finds_none key_a)) ∷ before_read) ≤ 3
few_before kinds.PersistentVolume = omega arith
few_before kinds.StorageClass = omega arith
few_before kinds.Node = omega arith
few_before kinds.PersistentVolumeClaim = omega arith
few_before kinds.Pod = omega arith

-- a key that is due before the read is that of the volume, and the read is a call for it
reads_it : (key : Key) → IsKeyDue ops key (entries before_read) → IsAskedFor ops key (entries before_read) (requests.Get key_a)
reads_it key due = subst (λ k. IsAskedFor ops k (entries before_read) (requests.Get key_a))
    (due_is_its_key ended_a (entries before_read) (shown_one ended_a) key due) (ended_asked (entries before_read) (shown_one ended_a))

-- the lives in which nothing is read

abbrev is_left : Kind → List Call
is_left kind = ops_calls (watch_of kind ∷ watch_of kind ∷ [])

none_asked : (kind : Kind) (key : Key) (told : List Exchange) → WasAskedSince ops key (ops_calls (watch_of kind ∷ told)) (is_left kind) → ⊥
none_asked kind key told = none
  where
    watches_none : (mine : List Entry) → IsAskedFor ops key mine (watch_of kind).request → ⊥
    watches_none mine = asked_no_watch ops key mine kind 9

    none : WasAskedSince ops key (ops_calls (watch_of kind ∷ told)) (is_left kind) → ⊥
    none (inl asked) = watches_none _ asked
    none (inr (inl asked)) = watches_none _ asked
    none (inr (inr h)) = h

is_quiet : (kind : Kind) → IsQuiet (entry_of seats.Ops (watch_of kind))
is_quiet kind = record { told = refl; reads = refl; no_news = refl }

abbrev AreFour : Kind → Type 0
AreFour kind = AreFourWatches kind (entry_of seats.Ops (watch_of kind)) (entry_of seats.Ops (watch_of kind)) (is_left kind)

four_of_volumes : AreFour kinds.PersistentVolume
four_of_volumes = let q = is_quiet kinds.PersistentVolume in record { opens = refl; closes = refl; many = omega arith; quiet = (q, (q, (q, (q, tt)))) }

four_of_claims : AreFour kinds.PersistentVolumeClaim
four_of_claims = let q = is_quiet kinds.PersistentVolumeClaim in record { opens = refl; closes = refl; many = omega arith; quiet = (q, (q, (q, (q, tt)))) }

left : (kind : Kind) (key : Key) (told : List Exchange) → AreFour kind → IsDueThroughout ops key (ops_calls (watch_of kind ∷ told)) (is_left kind)
    → IsDiligent ops (ops_calls (left_alone kind told)) → ⊥
left kind key told four due diligent = none_asked kind key told (diligent kind (entry_of seats.Ops (watch_of kind))
    (entry_of seats.Ops (watch_of kind)) (ops_calls told) (is_left kind) [] refl four key due)

left_in_order : (kind : Kind) (key : Key) (told : List Exchange) → AreFour kind
    → IsDueInOrderThroughout ops key (ops_calls (watch_of kind ∷ told)) (is_left kind) → IsDiligentInOrder ops (ops_calls (left_alone kind told)) → ⊥
left_in_order kind key told four due diligent =
    none_asked kind key told (diligent kind (entry_of seats.Ops (watch_of kind)) (entry_of seats.Ops (watch_of kind)) (ops_calls told) (is_left kind) [] refl four key due)

ended_left : IsDiligent ops (ops_calls (volume_left ended_a)) → ⊥
ended_left = left kinds.PersistentVolume key_a (tells_volume ended_a ∷ []) four_of_volumes (ended_due _ (shown_one ended_a), (ended_due _ (shown_one ended_a), ended_due _ (shown_one ended_a)))

claim_is_left : IsDiligent ops (ops_calls claim_left) → ⊥
claim_is_left = left kinds.PersistentVolumeClaim key_c (tells_claim c ∷ tells_class fast ∷ []) four_of_claims
    (claim_due _ (shown_class fast c), (claim_due _ (shown_class fast c), claim_due _ (shown_class fast c)))

pub life_examples : OpsLifeExamples
life_examples = record {
  its_volume_is_read = read_in_time ops (entry_of seats.Ops (watch_of kinds.PersistentVolume)) (entry_of seats.Ops (finds_none key_a)) before_read few_before reads_it;
  nothing_is_due_of_a_volume_to_be_kept = diligent_where_none ops _ nothing;
  not_where_an_ended_volume_is_left = ended_left;
  nor_in_order = left_in_order kinds.PersistentVolume key_a (tells_volume ended_a ∷ []) four_of_volumes
      (ended_in_order _ (shown_one ended_a), (ended_in_order _ (shown_one ended_a), ended_in_order _ (shown_one ended_a)));
  not_where_a_claim_is_left = claim_is_left;
}
  where
    kept : (mine : List Entry) → ((k : Key) → row_at k (Volume released_a ∷ []) ≡ object_of (newest mine k)) → (key : Key) → IsKeyDue ops key mine → ⊥
    kept mine shown = volume_none released_a mine shown refl

    none_told : (key : Key) → IsKeyDue ops key [] → ⊥
    none_told key = not_due ops key [] [] (record { order = tt; shown = λ k. refl }) refl

    now : (k : Key) → row_at k (Volume released_a ∷ []) ≡ object_of (newest (seat_of seats.Ops (tells_volume released_a ∷ [])) k)
    now = shown_one released_a

    nothing : NeverDue ops (ops_calls (volume_left released_a))
    nothing = (kept _ now, (kept _ now, (kept _ now, (kept _ now, (kept _ now, none_told)))))

-- how a life is played

licensed : (s : ActorState) (calls : List Call) → IsPlayed ops s calls → AreLicensed seats.Ops (entries calls)
licensed s calls played = subst (λ (r : Role). AreLicensed r.kind (entries calls)) (same_role ops s calls played) (stands_now ops s calls played).licensed

pub played_examples : OpsPlayedExamples
played_examples = record {
  a_new_life = λ s new. Begins refl new (begins ops s new);
  not_with_an_erase_of_what_was_not_read = λ s played. none_some (licensed s (ops_calls erases_unread) played).2.1.last;
  not_where_an_ended_volume_is_left = λ s played. ended_left (played_is_diligent ops s (ops_calls (volume_left ended_a)) tt played);
  not_where_a_claim_is_left = λ s played. claim_is_left (played_is_diligent ops s (ops_calls claim_left) tt played);
}
