-- An agent that took its node first may decide each key by its caches.
use Rattle.std.proofs.Common.{◌≡◌, ℕ, List, [], ◌∷◌, Some, sym, subst}
use Rattle.kube_objects.specs.declared.key.Key.{Key}
use Rattle.kube_objects.specs.Keys.{row_at}
use Rattle.call_types.specs.declared.entry.Entry.{Entry}
use Rattle.call_types.specs.declared.request.SeatKind.TheVariants as seats
use Rattle.binder_model.specs.AgentLicence.{last_epoch}
use Rattle.informer_cache.specs.All.{AllKnown, AllStandFor, all_objects}
use Rattle.node_agent.specs.Evidence.{MayDecide}
use Rattle.node_agent.specs.HistoryLaw.{TakesFirst}
use Rattle.node_agent.specs.StartLaw.{AreLicensed as AreAgents}
use Rattle.node_agent.proofs.Histories.{takers_may_decide}
use Rattle.worker_core.specs.Stands.{AreLicensed, AreOwn}

pub are_agents : (mine : List Entry) → AreLicensed seats.Agent mine → AreAgents mine
are_agents [] licensed = tt
are_agents (e ∷ mine) licensed = (are_agents mine licensed.0, licensed.2)

pub may_decide : (node : List ℕ) (epoch : ℕ) (c : AllKnown) (mine : List Entry) (key : Key) → AreLicensed seats.Agent mine → AreOwn mine → TakesFirst node mine
    → last_epoch node mine ≡ Some epoch → AllStandFor c mine → MayDecide node epoch (row_at key (all_objects c)) mine
may_decide node epoch c mine key licensed own start current stand =
    subst (MayDecide node epoch (row_at key (all_objects c))) (sym own.own)
    (takers_may_decide own.setup own.past own.seat node epoch c key own.imports own.short own.history
    (subst AreAgents own.own (are_agents mine licensed))
    (subst (TakesFirst node) own.own start)
    (subst (λ m. last_epoch node m ≡ Some epoch) own.own current)
    (subst (AllStandFor c) own.own stand))
