use Rattle.std.specs.Option.{option_copied}
use Rattle.worker_core.proofs.Resting.{for_binder, for_claims, for_ops, for_scheduler, for_volumes}
use Rattle.worker_core.proofs.rests.rests.Goals as goal

pub returns-in-Binder : goal.returns-in-Binder
returns-in-Binder g c = for_binder (g.L.Lookup.rows c.args.lookup.now) (option_copied c.args.row) c.rests_for_binder.result c.args.kind c.in-Binder.is c.rests_for_binder.ensures

pub returns-in-Ops : goal.returns-in-Ops
returns-in-Ops g c = for_ops (g.L.Lookup.rows c.args.lookup.now) (option_copied c.args.row) c.rests_for_ops.result c.args.kind c.in-Ops.is c.rests_for_ops.ensures

pub returns-in-Scheduler : goal.returns-in-Scheduler
returns-in-Scheduler g c = for_scheduler (g.L.Lookup.rows c.args.lookup.now) (option_copied c.args.row) c.rests_for_scheduler.result c.args.kind c.in-Scheduler.is c.rests_for_scheduler.ensures

pub returns-in-ClaimProtect : goal.returns-in-ClaimProtect
returns-in-ClaimProtect g c = for_claims (g.L.Lookup.rows c.args.lookup.now) (option_copied c.args.row) c.rests_for_claims.result c.args.kind c.in-ClaimProtect.is c.rests_for_claims.ensures

pub returns-in-VolumeProtect : goal.returns-in-VolumeProtect
returns-in-VolumeProtect g c = for_volumes (g.L.Lookup.rows c.args.lookup.now) (option_copied c.args.row) c.rests_for_volumes.result c.args.kind c.in-VolumeProtect.is c.rests_for_volumes.ensures
