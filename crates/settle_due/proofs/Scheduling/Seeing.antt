-- What a scheduler has cached, where it decides, is what the store has; and a pod in a world that is alike.
use Rattle.std.proofs.Common.{◌∙◌, ap}
use Rattle.binder_model.specs.Reading.{follows}
use Rattle.binder_model.specs.World.{world}
use Rattle.informer_cache.specs.All.{all_objects}
use Rattle.model_laws.proofs.Histories.{rows_stand_in_order}
use Rattle.worker_core.specs.declared.role.Role.{Role}
use Rattle.attention_law.proofs.Alike.{rows_alike}
use Rattle.settle_due.specs.Scheduling.Acts.{SchedulersSeeAll}

pub schedulers_see_all : SchedulersSeeAll
schedulers_see_all setup seat role start s h kind p =
    let s_kind = ap (λ (r : Role). r.kind) p.role_is ∙ kind in
    rows_alike (world setup h).store.rows (all_objects s.caches) (rows_stand_in_order setup h) p.ready.rows (λ k. p.sees k (ap (λ x. follows x k.kind) s_kind))
