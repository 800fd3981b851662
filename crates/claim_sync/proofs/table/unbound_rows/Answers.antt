use Rattle.std.proofs.Common.{◌∷◌, ap₂, refl}
use Rattle.claim_sync.specs.ClaimTable.{unbound_rows}
use Rattle.claim_sync.proofs.table.unbound_rows.Goals as goal

pub returns : goal.returns
unfolding unbound_rows
returns c =
    ap₂ ◌∷◌ c.row.ensures (ap₂ ◌∷◌ c.row-2.ensures
    (ap₂ ◌∷◌ c.row-3.ensures (ap₂ ◌∷◌ c.row-4.ensures (ap₂ ◌∷◌ c.row-5.ensures (ap₂ ◌∷◌ c.row-6.ensures (ap₂ ◌∷◌ c.row-7.ensures (ap₂ ◌∷◌ c.row-8.ensures refl)))))))
