-- Rows stand in order in every world.
use Rattle.std.specs.Prelude.{Bool, true, false, cond, List, [], ◌∷◌}
use Rattle.plain_data.proofs.RowFacts.{rising_put, rising_without}
use Rattle.kube_objects.specs.declared.objects.Object.{Object}
use Rattle.kube_objects.specs.Keys.{AreRows, key_of, put_row}
use Rattle.kube_objects.proofs.KeyOrder.{key_cmp_total}
use Rattle.binder_model.specs.Store.{State}
use Rattle.binder_model.specs.Imports.{rows_of_imports, is_dropped, imported_object}
use Rattle.binder_model.specs.Answers.{Outcome, Says, Stores, Removes, after}
use Rattle.binder_model.specs.World.{World, Effect, OnStore, OnDevices, SetsMoment, world, effect, world_after}
use Rattle.model_laws.specs.Histories.{RowsStandInOrder}

pub rows_after : (s : State) (x : Outcome) → AreRows s.rows → AreRows (after s x).rows
unfolding after
rows_after s (Says r) k = k
rows_after s (Stores c o) k = rising_put key_cmp_total key_of o s.rows k
rows_after s (Removes o) k = rising_without key_cmp_total key_of (key_of o) s.rows k

rows_of_effect : (w : World) (x : Effect) → AreRows w.store.rows → AreRows (world_after w x).store.rows
unfolding world_after
rows_of_effect w (OnStore o) k = rows_after w.store o k
rows_of_effect w (OnDevices a) k = k
rows_of_effect w (SetsMoment at) k = k

-- the rows of imports stand in order
pub import_rows_rise : (imports os : List Object) → AreRows (rows_of_imports imports os)
import_rows_rise imports [] = tt
import_rows_rise imports (o ∷ os) = by (is_dropped o) (import_rows_rise imports os)
  where
    by : (b : Bool) → AreRows (rows_of_imports imports os) → AreRows (cond b (rows_of_imports imports os) (put_row (imported_object imports o) (rows_of_imports imports os)))
    by true rows = rows
    by false rows = rising_put key_cmp_total key_of (imported_object imports o) _ rows

pub rows_stand_in_order : RowsStandInOrder
rows_stand_in_order setup [] = import_rows_rise setup.imports setup.imports
rows_stand_in_order setup (e ∷ past) = rows_of_effect (world setup past) (effect setup (world setup past) e.kind e.request) (rows_stand_in_order setup past)
