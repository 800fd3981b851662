use Rattle.std.proofs.Common.{◌∷◌, ap₂, refl}
use Rattle.volume_sync.specs.VolumeTable.{free_rows}
use Rattle.volume_sync.proofs.table.free_rows.Goals as goal

pub returns : goal.returns
unfolding free_rows
returns c =
    ap₂ ◌∷◌ c.row.ensures (ap₂ ◌∷◌ c.row-2.ensures refl)
