-- What a world keeps from call to call, and what it begins with.
use Rattle.std.proofs.Common.{sym, ap, subst, ◌∙◌, arith}
use Rattle.std.specs.Prelude.{◌≡◌, ◌+◌, ◌-◌, ◌<◌, ◌^◌, List, [], ◌∷◌, ◌++◌, reverse, length}
use Rattle.std.proofs.lemmas.List.{length-reverse, reverse-append}
use Rattle.call_types.specs.declared.entry.Entry.{Entry}
use Rattle.call_types.specs.declared.setup.Setup.{Setup}
use Rattle.call_types.specs.declared.request.SeatKind.{SeatKind}
use Rattle.call_types.specs.declared.request.Request.{Request}
use Rattle.call_types.specs.declared.reply.Event.{Event}
use Rattle.call_types.specs.declared.reply.Reply.{Reply}
use Rattle.binder_model.specs.Store.{first_moment}
use Rattle.binder_model.specs.Imports.{ImportsPass, base_of, rows_of_imports}
use Rattle.binder_model.specs.Devices.{epoch_of, no_devices}
use Rattle.binder_model.specs.World.{World, base, first_world, world}
use Rattle.binder_model.specs.Promises.{most_entries}
use Rattle.model_laws.proofs.Imported.{pass_base}
use Rattle.model_laws.proofs.Stood.{few_writes}
use Rattle.watch_log.specs.Kept.{Log, AreAll, LogStandsFor}
use Rattle.world_core.specs.declared.parts.Parts.{Parts}
use Rattle.world_core.specs.Moves.{AreOf, MayMove, AreAsBefore, IsAnswered}
use Rattle.world_core.specs.Kept.{IsKept}
use Rattle.world_core.proofs.Numbers.{few_calls, few_epochs}

pub may_move : (setup : Setup) (past : List Entry) (parts : Parts) → IsKept setup past parts → MayMove parts
may_move setup past parts k =
    let a = k.stand in
    let short = k.short in
    let low = pass_base [] setup.imports k.imports in
    let writes = few_writes setup past in
    let calls = few_calls setup past in
    let version : (world setup past).store.version < 2 ^ 62 - 1 = omega (arith, low, writes, short) in
    record {
      version = subst (λ s. s.version < 2 ^ 62 - 1) (sym a.store) version;
      calls = subst (λ d. d.devices.calls < 2 ^ 63) (sym a.devices) (omega (arith, calls, short));
      epochs = λ node. let epochs = few_epochs setup past node in subst (λ d. epoch_of node d.devices.epochs < 2 ^ 63) (sym a.devices) (omega (arith, epochs, short));
      logged = a.version ∙ ap (λ s. s.version) (sym a.store);
    }

-- want of memory

same_log : (old new : Log) (all : List Event) → new.base ≡ old.base → new.version ≡ old.version → new.events ≡ old.events → LogStandsFor old all → LogStandsFor new all
same_log old new all base version events s = record {
  all = subst (λ b. AreAll b new.version all) (sym base) (subst (λ v. AreAll old.base v all) (sym version) s.all);
  kept = events ∙ s.kept;
}

as_before : (setup : Setup) (old new : Parts) (w : World) → AreAsBefore old new → AreOf setup old w → AreOf setup new w
as_before setup old new w b a = record {
  store = b.store ∙ a.store;
  moment = b.moment ∙ a.moment;
  devices = b.devices ∙ a.devices;
  base = b.base ∙ a.base;
  version = b.version ∙ a.version;
  log = same_log old.log new.log w.log b.base b.version b.events a.log;
}

pub kept_as_before : (setup : Setup) (past : List Entry) (old new : Parts) → AreAsBefore old new → IsKept setup past old → IsKept setup past new
kept_as_before setup past old new b k = record {
  imports = k.imports;
  short = k.short;
  history = k.history;
  stand = as_before setup old new (world setup past) b k.stand;
}

-- the beginning

pub first_parts : (setup : Setup) (parts : Parts) → parts.store ≡ record { rows = rows_of_imports setup.imports setup.imports; version = base_of setup.imports }
    → parts.log.base ≡ parts.store.version → parts.log.version ≡ parts.store.version → LogStandsFor parts.log []
    → parts.devices ≡ record { setup = record { pools = setup.pools; faults = setup.faults; imports = [] }; devices = no_devices }
    → parts.moment ≡ first_moment → AreOf setup parts (first_world setup)
first_parts setup parts store base version log devices moment = record {
  store = store;
  moment = moment;
  devices = devices;
  base = base ∙ ap (λ s. s.version) store;
  version = version ∙ ap (λ s. s.version) store;
  log = log;
}

pub kept_first : (setup : Setup) (parts : Parts) → ImportsPass setup.imports → AreOf setup parts (first_world setup) → IsKept setup [] parts
kept_first setup parts pass a = record { imports = pass; short = omega arith; history = tt; stand = a }

-- one entry more

pub newest : (xs : List Entry) (x : Entry) → reverse (xs ++ x ∷ []) ≡ x ∷ reverse xs
newest xs x = reverse-append xs (x ∷ [])

pub kept_next : (setup : Setup) (past : List Entry) (old new : Parts) (e : Entry) (told : Reply) → IsKept setup past old → length past + 1 < most_entries
    → IsAnswered old new e.kind e.request (told, e.reply) → IsKept setup (e ∷ past) new
kept_next setup past old new e told k short a = record {
  imports = k.imports;
  short = omega (arith, short);
  history = (k.history, a.kept setup (world setup past) k.stand);
  stand = a.moved setup (world setup past) k.stand;
}

-- the entry that a call appends, by the reply and its copy
pub entry_kept : (setup : Setup) (past : List Entry) (old new : Parts) (kind : SeatKind) (request : Request) (told kept : Reply) → IsKept setup past old
    → IsAnswered old new kind request (told, kept) → kept ≡ told
entry_kept setup past old new kind request told kept k a = a.kept setup (world setup past) k.stand ∙ sym (a.told setup (world setup past) k.stand)

pub next_past : (before grown after : List Entry) (e : Entry) → grown ≡ before → after ≡ grown ++ e ∷ [] → reverse after ≡ e ∷ reverse before
next_past before grown after e same is = ap reverse (is ∙ ap (λ xs. xs ++ e ∷ []) same) ∙ newest before e

pub still_short : (before : List Entry) → length before + 1 < most_entries → length (reverse before) + 1 < most_entries
still_short before short = subst (λ n. n + 1 < most_entries) (sym (length-reverse before)) short
