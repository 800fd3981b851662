-- All parts of the invariant are kept where the store moves.
use Rattle.std.specs.Prelude.{List, ◌∷◌}
use Rattle.call_types.specs.declared.entry.Entry.{Entry}
use Rattle.call_types.specs.declared.setup.Setup.{Setup}
use Rattle.safety_law.specs.Invariant.Invariant.{Invariant}
use Rattle.safety_law.specs.Invariant.Good.{MovesAt}
use Rattle.safety_law.proofs.Invariant.KeptObjects.{kept_keyed, kept_has, kept_later, kept_placed}
use Rattle.safety_law.proofs.Invariant.KeptBindings.{kept_refers, kept_guarded, kept_binding, kept_completed, kept_released, kept_lasts}

pub kept : (setup : Setup) (e : Entry) (past : List Entry) → Invariant setup past → MovesAt setup e past → Invariant setup (e ∷ past)
kept setup e past inv m = record {
  order = m.order;
  has = kept_has setup e past inv m;
  keyed = kept_keyed setup e past inv m;
  later = kept_later setup e past inv m;
  placed = kept_placed setup e past inv m;
  refers = kept_refers setup e past inv m;
  guarded = kept_guarded setup e past inv m;
  binding = kept_binding setup e past inv m;
  completed = kept_completed setup e past inv m;
  released = kept_released setup e past inv m;
  lasts = kept_lasts setup e past inv m;
}
