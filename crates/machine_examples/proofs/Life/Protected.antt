-- The examples of protection compute.
use Rattle.std.proofs.Common.{◌≡◌, List, [], ◌∷◌, Bool, true, false, true≢false, Option, Some, None, inl, inr, refl, sym, ap, arith}
use Rattle.std.specs.Prelude.{codes}
use Rattle.kube_objects.specs.declared.key.Key.{Key}
use Rattle.kube_parts.specs.declared.parts.Kind.{Kind}
use Rattle.kube_parts.specs.declared.parts.Kind.TheVariants as kinds
use Rattle.kube_objects.specs.declared.objects.Claim.{Claim as ClaimData}
use Rattle.kube_objects.specs.declared.objects.Object.{Object}
use Rattle.kube_objects.specs.declared.objects.Object.TheVariants.{Volume, Claim, Pod}
use Rattle.kube_objects.specs.declared.objects.Pod.{Pod as PodData}
use Rattle.kube_objects.specs.Keys.{row_at}
use Rattle.call_types.specs.declared.entry.Entry.{Entry}
use Rattle.call_types.specs.declared.request.Request.{Request}
use Rattle.call_types.specs.declared.request.Request.TheVariants as requests
use Rattle.call_types.specs.declared.request.SeatKind.{SeatKind}
use Rattle.call_types.specs.declared.request.SeatKind.TheVariants as seats
use Rattle.binder_model.specs.Told.{newest, object_of}
use Rattle.model_laws.proofs.Lists.{none_some}
use Rattle.model_examples.specs.ProtectionRows.{bare_a, bare_c, leaving_a, leaving_c, other_p}
use Rattle.model_examples.specs.Samples.{c, key_a, key_c, leaving_bound_a, p, seat_of, tells_claim, tells_pod, tells_volume}
use Rattle.protect_sync.specs.declared.claims.ClaimGuardStep.TheVariants as claims
use Rattle.protect_sync.specs.declared.volumes.VolumeGuardStep.TheVariants as volumes
use Rattle.protect_sync.specs.ClaimGuards.{claim_guard_call, guarded_claim, claim_write_over}
use Rattle.protect_sync.specs.VolumeGuards.{guarded_volume, unguarded_volume, volume_guard_call, volume_write_over}
use Rattle.worker_core.specs.declared.role.Role.{Role}
use Rattle.worker_core.specs.declared.task.First.{First}
use Rattle.worker_core.specs.declared.task.First.TheVariants as firsts
use Rattle.worker_core.specs.declared.task.Task.{Task}
use Rattle.worker_core.specs.declared.task.Task.TheVariants as tasks
use Rattle.worker_core.specs.Memories.{memory_of}
use Rattle.worker_core.specs.Tasks.{GivesCall, IsDecision}
use Rattle.attention_law.specs.Diligence.{AreFourWatches, IsAskedFor, IsDiligent, IsKeyDue, IsQuiet, Shows, WasAskedSince}
use Rattle.attention_law.proofs.Dues.{asked_no_watch}
use Rattle.attention_law.proofs.Following.{played_is_diligent}
use Rattle.attention_law.proofs.Ordered.{rows_in_order}
use Rattle.machine_examples.proofs.Life.Computed.{listed_object, shown_one}
use Rattle.machine_examples.specs.Life.Lives.{watch}
use Rattle.machine_examples.specs.Life.Protection.{ProtectionDueExamples, ProtectionLifeExamples, claim_guard, guard_call, guard_entry, guard_watched, volume_guard}

-- the rows of what was told

pub shown_claim : (x : ClaimData) (key : Key) → row_at key (Claim x ∷ []) ≡ object_of (newest (seat_of seats.ClaimProtect (tells_claim x ∷ [])) key)
shown_claim x key = by key.kind
  where
    by : (k : Kind) → row_at (record key { kind = k }) (Claim x ∷ []) ≡ object_of (newest (seat_of seats.ClaimProtect (tells_claim x ∷ [])) (record key { kind = k }))
    by kinds.StorageClass = refl
    by kinds.Node = refl
    by kinds.PersistentVolume = refl
    by kinds.PersistentVolumeClaim = sym (listed_object x.meta.version (row_at (record key { kind = kinds.PersistentVolumeClaim }) (Claim x ∷ [])))
    by kinds.Pod = refl

shown_both : (x : ClaimData) (q : PodData) (key : Key) → row_at key (Claim x ∷ Pod q ∷ []) ≡ object_of (newest (seat_of seats.ClaimProtect (tells_pod q ∷ tells_claim x ∷ [])) key)
shown_both x q key = by key.kind
  where
    by : (k : Kind) → row_at (record key { kind = k }) (Claim x ∷ Pod q ∷ []) ≡ object_of (newest (seat_of seats.ClaimProtect (tells_pod q ∷ tells_claim x ∷ [])) (record key { kind = k }))
    by kinds.StorageClass = refl
    by kinds.Node = refl
    by kinds.PersistentVolume = refl
    by kinds.PersistentVolumeClaim = sym (listed_object x.meta.version (row_at (record key { kind = kinds.PersistentVolumeClaim }) (Claim x ∷ [])))
    by kinds.Pod = sym (listed_object q.meta.version (row_at (record key { kind = kinds.Pod }) (Pod q ∷ [])))

abbrev pods_of_default : Request
pods_of_default = requests.List kinds.Pod (Some (codes "default"))

-- a key is due where its decision begins with a call

abbrev pub is_binder : SeatKind → Bool
is_binder seats.Binder = true
is_binder kind = false

claim_due : (mine : List Entry) (rows : List Object) (task : Task) (call : Request) → Shows mine rows
    → GivesCall claim_guard (memory_of claim_guard mine) rows (record { key = key_c; task = task; call = call }) → IsKeyDue claim_guard key_c mine
claim_due mine rows task call shows gives = rows_in_order claim_guard key_c mine tt (record {
  rows = rows;
  shows = shows;
  spaceless = λ is. absurd (true≢false (sym (ap is_binder is)));
  under = record { key = key_c; task = task; call = call };
  own = refl;
  gives = gives;
})

volume_due : (mine : List Entry) (rows : List Object) (task : Task) (call : Request) → Shows mine rows
    → GivesCall volume_guard (memory_of volume_guard mine) rows (record { key = key_a; task = task; call = call }) → IsKeyDue volume_guard key_a mine
volume_due mine rows task call shows gives = rows_in_order volume_guard key_a mine tt (record {
  rows = rows;
  shows = shows;
  spaceless = λ is. absurd (true≢false (sym (ap is_binder is)));
  under = record { key = key_a; task = task; call = call };
  own = refl;
  gives = gives;
})

-- and not where it is dropped
pub not_due : (role : Role) (key : Key) (mine : List Entry) (rows : List Object) → Shows mine rows → IsDecision role (memory_of role mine) rows key firsts.Drops → IsKeyDue role key mine → ⊥
not_due role key mine rows shows drops due = none_some (ap task_in (due.only rows shows firsts.Drops drops).begins)
  where
    task_in : First → Option Task
    task_in (firsts.Begins task) = Some task
    task_in first = None

bare_volume_due : (mine : List Entry) → ((key : Key) → row_at key (Volume bare_a ∷ []) ≡ object_of (newest mine key)) → IsKeyDue volume_guard key_a mine
unfolding volume_guard_call
bare_volume_due mine shown = volume_due mine (Volume bare_a ∷ []) (tasks.VolumeProtect (record { volume = bare_a; step = volumes.Adds }))
    (volume_write_over bare_a (guarded_volume bare_a)) (record { order = (tt, tt); shown = shown }) (record { decided = refl; call = refl })

pub due_examples : ProtectionDueExamples
unfolding claim_guard_call volume_guard_call
due_examples = record {
  bare_claim = claim_due _ (Claim bare_c ∷ []) (tasks.ClaimProtect (record { claim = bare_c; step = claims.Adds }))
      (claim_write_over bare_c (guarded_claim bare_c)) (record { order = (tt, tt); shown = shown_claim bare_c }) (record { decided = refl; call = refl });
  leaving_claim = claim_due _ (Claim leaving_c ∷ []) (tasks.ClaimProtect (record { claim = leaving_c; step = claims.ListsPods })) pods_of_default
      (record { order = (tt, tt); shown = shown_claim leaving_c }) (record { decided = refl; call = refl });
  leaving_claim_beside_a_pod_of_another =
      claim_due _ (Claim leaving_c ∷ Pod other_p ∷ []) (tasks.ClaimProtect (record { claim = leaving_c; step = claims.ListsPods })) pods_of_default
      (record { order = ((refl, tt), (tt, tt)); shown = shown_both leaving_c other_p }) (record { decided = refl; call = refl });
  not_a_leaving_claim_in_use = not_due claim_guard key_c _ (Claim leaving_c ∷ Pod p ∷ []) (record { order = ((refl, tt), (tt, tt)); shown = shown_both leaving_c p }) refl;
  not_a_guarded_claim = not_due claim_guard key_c _ (Claim c ∷ []) (record { order = (tt, tt); shown = shown_claim c }) refl;
  bare_volume = bare_volume_due _ (shown_one bare_a);
  leaving_volume = volume_due _ (Volume leaving_a ∷ []) (tasks.VolumeProtect (record { volume = leaving_a; step = volumes.Drops }))
      (volume_write_over leaving_a (unguarded_volume leaving_a)) (record { order = (tt, tt); shown = shown_one leaving_a }) (record { decided = refl; call = refl });
  not_a_leaving_bound_volume = not_due volume_guard key_a _ (Volume leaving_bound_a ∷ []) (record { order = (tt, tt); shown = shown_one leaving_bound_a }) refl;
}

-- lives

four : AreFourWatches kinds.PersistentVolume (guard_entry watch) (guard_entry watch) (guard_call watch ∷ guard_call watch ∷ [])
four = record { opens = refl; closes = refl; many = omega arith; quiet = (ok, (ok, (ok, (ok, tt)))) }
  where
    ok : IsQuiet (guard_entry watch)
    ok = record { told = refl; reads = refl; no_news = refl }

none_asked : WasAskedSince volume_guard key_a (guard_call watch ∷ guard_call (tells_volume bare_a) ∷ []) (guard_call watch ∷ guard_call watch ∷ []) → ⊥
none_asked = none
  where
    watches_none : (mine : List Entry) → IsAskedFor volume_guard key_a mine watch.request → ⊥
    watches_none mine = asked_no_watch volume_guard key_a mine kinds.PersistentVolume 4

    none : WasAskedSince volume_guard key_a (guard_call watch ∷ guard_call (tells_volume bare_a) ∷ []) (guard_call watch ∷ guard_call watch ∷ []) → ⊥
    none (inl asked) = watches_none _ asked
    none (inr (inl asked)) = watches_none _ asked
    none (inr (inr h)) = h

left : IsDiligent volume_guard (guard_watched bare_a) → ⊥
left diligent = none_asked (diligent kinds.PersistentVolume (guard_entry watch) (guard_entry watch) (guard_call (tells_volume bare_a) ∷ [])
    (guard_call watch ∷ guard_call watch ∷ []) [] refl four key_a (bare_volume_due _ (shown_one bare_a), (bare_volume_due _ (shown_one bare_a), bare_volume_due _ (shown_one bare_a))))

pub life_examples : ProtectionLifeExamples
life_examples = record {
  not_where_a_bare_volume_is_left = left;
  no_actor_leaves_it = λ s played. left (played_is_diligent volume_guard s (guard_watched bare_a) tt played);
}
