use Rattle.std.proofs.Common.{◌≡◌, ◌↔◌, drop}
use Rattle.binder_model.specs.Edits.{without_name}
use Rattle.licence_scans.proofs.walks.is_without_name.Given as goal

-- what is left of both is to be tested still
abbrev pub invariant-loop-item : goal.invariant-loop-item
invariant-loop-item l = (drop l.place l.new ≡ without_name l.name (drop l.item-index l.old)) ↔ (l.new ≡ without_name l.name l.old)
