-- Without imports every completed claim counts, so Safe says the five plain sentences.
use Rattle.std.specs.Prelude.{◌≡◌, List, [], ◌∷◌}
use Rattle.call_types.specs.declared.entry.Entry.{Entry}
use Rattle.call_types.specs.declared.setup.Setup.{Setup}
use Rattle.binder_model.specs.World.{world}
use Rattle.binder_model.specs.Safe.{AreBindings, Safe}
use Rattle.model_laws.specs.NoImports.{SaysAsBefore}
use Rattle.model_laws.proofs.Without.{no_imports_say_as_before}
use Rattle.safety_law.specs.Law.WithoutImports.{CompletedAreBound, CompletedAreApart, IsPlainlySafe, SafeWithoutImports}

module _ (setup : Setup) (none : setup.imports ≡ []) where
  said : SaysAsBefore setup
  said = no_imports_say_as_before setup none

  -- at one point
  bound_of : (past : List Entry) → AreBindings setup past → CompletedAreBound (world setup past).store.rows
  bound_of past b = λ key claim there done. b.bound key claim there (said.counts past claim done)

  apart_of : (past : List Entry) → AreBindings setup past → CompletedAreApart (world setup past).store.rows
  apart_of past b = λ key other_key claim other there other_there done other_done one.
      b.apart key other_key claim other there other_there (said.counts past claim done) (said.counts past other other_done) one

  bindings_of : (past : List Entry) → CompletedAreBound (world setup past).store.rows → CompletedAreApart (world setup past).store.rows → AreBindings setup past
  bindings_of past bound apart = record {
    bound = λ key claim there counts. bound key claim there counts.completed;
    apart = λ key other_key claim other there other_there counts other_counts one. apart key other_key claim other there other_there counts.completed other_counts.completed one;
  }

  plain : (past : List Entry) → Safe setup past → IsPlainlySafe setup past
  plain [] safe = record { bound = bound_of [] safe; apart = apart_of [] safe; volumes = tt; claims = tt; erased = tt }
  plain (e ∷ past) safe =
      let before = plain past safe.1 in
      record {
        bound = (bound_of (e ∷ past) safe.0.bindings, before.bound);
        apart = (apart_of (e ∷ past) safe.0.bindings, before.apart);
        volumes = (safe.0.volumes, before.volumes);
        claims = (safe.0.claims, before.claims);
        erased = (safe.0.erased, before.erased);
      }

  safe : (past : List Entry) → IsPlainlySafe setup past → Safe setup past
  safe [] p = bindings_of [] p.bound p.apart
  safe (e ∷ past) p = (
    record { bindings = bindings_of (e ∷ past) p.bound.0 p.apart.0; volumes = p.volumes.0; claims = p.claims.0; erased = p.erased.0 },
    safe past (record { bound = p.bound.1; apart = p.apart.1; volumes = p.volumes.1; claims = p.claims.1; erased = p.erased.1 }),
  )

pub safe_without_imports : SafeWithoutImports
safe_without_imports setup past none = (plain setup none past, safe setup none past)
