use Rattle.std.proofs.Common.{ap, sym, ◌∙◌, subst, refl}
use Rattle.kube_objects.specs.Keys.{AreRows}
use Rattle.binder_model.specs.Store.{State}
use Rattle.binder_model.specs.World.{world}
use Rattle.model_laws.proofs.Histories.{rows_stand_in_order}
use Rattle.extended_runs.proofs.Noting.{begins}
use Rattle.extended_runs.proofs.sides.KeptSide.new.Goals as goal

pub of-requires : goal.of-requires
of-requires c = subst AreRows (sym (c.objects.ensures ∙ ap (λ (s : State). s.rows) c.store.ensures)) (rows_stand_in_order c.args.world.now.setup c.args.world.now.past)

pub returns : goal.returns
returns c =
    begins c.args.world.now.setup (record { quotas = c.args.quotas.now; reserve = c.args.reserve }) c.objects.result.now _
    (c.objects.ensures ∙ ap (λ (s : State). s.rows) c.store.ensures ∙ ap (λ h. (world c.args.world.now.setup h).store.rows) c.requires)
    c.in_ok-of.ensures c.new.ensures c.new-2.ensures refl
