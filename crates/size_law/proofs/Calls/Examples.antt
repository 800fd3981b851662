-- What a binder asks, computed.
use Rattle.std.proofs.Common.{refl, true≢false, arith}
use Rattle.std.specs.Prelude.{ℕ, ◌≡◌, []}
use Rattle.kube_parts.specs.declared.parts.Kind.{Kind}
use Rattle.kube_parts.specs.declared.parts.Kind.TheVariants as kinds
use Rattle.call_types.specs.declared.request.SeatKind.{SeatKind}
use Rattle.call_types.specs.declared.request.SeatKind.TheVariants as seats
use Rattle.binder_model.specs.BindWrites.{next_write, taken_for, write_reference}
use Rattle.claim_sync.specs.ClaimDecision.{claim_decision}
use Rattle.informer_cache.specs.Cache.{CacheStandsFor}
use Rattle.informer_cache.specs.All.{AllStandFor, cache_of}
use Rattle.worker_core.specs.Stands as stands
use Rattle.model_laws.specs.Worked.{no_setup}
use Rattle.size_law.specs.Calls.Calls.{IsAsked}
use Rattle.size_law.specs.Law.Examples.{a, c}
use Rattle.size_law.specs.Calls.Examples.{AskedExamples, DecisionExamples, list_volumes, new_actor, new_binder, new_scheduler}
use Rattle.size_law.proofs.Calls.Turns.{asked_give_fitting}

caches_stand : (seat : SeatKind) (behind : ℕ) → AllStandFor (new_actor seat behind).caches []
caches_stand seat behind = record { kinds = kind_is; each = each; rows = λ key. refl }
  where
    kind_is : (kind : Kind) → (cache_of kind (new_actor seat behind).caches).rows.kind ≡ kind
    kind_is kinds.StorageClass = refl
    kind_is kinds.Node = refl
    kind_is kinds.PersistentVolume = refl
    kind_is kinds.PersistentVolumeClaim = refl
    kind_is kinds.Pod = refl

    each : (kind : Kind) → CacheStandsFor (cache_of kind (new_actor seat behind).caches) []
    each kinds.StorageClass = record { known = λ key is. refl; rows = λ key is. refl; from = refl }
    each kinds.Node = record { known = λ key is. refl; rows = λ key is. refl; from = refl }
    each kinds.PersistentVolume = record { known = λ key is. refl; rows = λ key is. refl; from = refl }
    each kinds.PersistentVolumeClaim = record { known = λ key is. refl; rows = λ key is. refl; from = refl }
    each kinds.Pod = record { known = λ key is. refl; rows = λ key is. refl; from = refl }

nothing : stands.AreOwn []
nothing = record { setup = no_setup; past = []; seat = 5; imports = tt; short = omega arith; history = tt; own = refl }

binder_stands : stands.StandsFor new_binder []
binder_stands = record {
  caches = caches_stand seats.Binder 3;
  under_way = tt;
  pass = λ quiet. absurd (true≢false quiet);
  memory = refl;
  licensed = tt;
  own = nothing;
  start = tt;
  given = (refl, refl, refl);
}

scheduler_stands : stands.StandsFor new_scheduler []
scheduler_stands = record {
  caches = caches_stand seats.Scheduler 5;
  under_way = tt;
  pass = λ quiet. absurd (true≢false quiet);
  memory = refl;
  licensed = tt;
  own = nothing;
  start = tt;
  given = (refl, refl, refl);
}

binder_lists : IsAsked seats.Binder [] list_volumes
binder_lists = record { actor = new_binder; of_kind = refl; stands = binder_stands; asks = refl }

scheduler_lists : IsAsked seats.Scheduler [] list_volumes
scheduler_lists = record { actor = new_scheduler; of_kind = refl; stands = scheduler_stands; asks = refl }

pub asked_examples : AskedExamples
unfolding taken_for
asked_examples = record {
  lists = binder_lists;
  gives_what_was_never_told = λ asked. asked_give_fitting seats.Binder [] (write_reference a (c 3)) asked;
  scheduler_lists = scheduler_lists;
  scheduler_gives_what_was_never_told = λ asked. asked_give_fitting seats.Scheduler [] (write_reference a (c 3)) asked;
  lists_by_actor = binder_lists;
  scheduler_lists_by_actor = scheduler_lists;
  never_told_by_no_scheduler = λ asked. asked_give_fitting seats.Scheduler [] (write_reference a (c 3)) asked;
  user_may_give = tt;
  history_by_actors = λ told version. ((tt, binder_lists), scheduler_lists);
}

pub decision_examples : DecisionExamples
unfolding claim_decision next_write
decision_examples = record {
  fitting = refl;
  too_small = refl;
  too_small_and_named = refl;
  too_small_and_reserved = refl;
  pair = refl;
  pair_is_too_small = refl;
  restored = refl;
  restored_is_too_small = refl;
}
