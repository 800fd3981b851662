use Rattle.std.proofs.Common.{◌∷◌, ap₂, refl}
use Rattle.volume_sync.specs.VolumeTable.{referred_rows}
use Rattle.volume_sync.proofs.table.referred_rows.Goals as goal

pub returns : goal.returns
unfolding referred_rows
returns c =
    ap₂ ◌∷◌ c.row.ensures (ap₂ ◌∷◌ c.row-2.ensures
    (ap₂ ◌∷◌ c.row-3.ensures (ap₂ ◌∷◌ c.row-4.ensures (ap₂ ◌∷◌ c.row-5.ensures (ap₂ ◌∷◌ c.row-6.ensures (ap₂ ◌∷◌ c.row-7.ensures (ap₂ ◌∷◌ c.row-8.ensures refl)))))))
