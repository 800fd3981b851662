-- A setup without imports.
use Rattle.std.proofs.Common.{sym, subst, ap, ◌∙◌, true≢false, arith}
use Rattle.std.specs.Prelude.{ℕ, ◌≡◌, ◌-◌, max, false, List, [], Option}
use Rattle.std.specs.List.{list_any}
use Rattle.kube_parts.specs.declared.uid.Uid.{Uid}
use Rattle.kube_objects.specs.declared.objects.Object.{Object}
use Rattle.binder_model.specs.Store.{first_moment}
use Rattle.binder_model.specs.Devices.{no_devices}
use Rattle.binder_model.specs.Imports.{ImportsPass, base_of, rows_of_imports}
use Rattle.binder_model.specs.Watching.{window, oldest}
use Rattle.binder_model.specs.World.{base}
use Rattle.binder_model.specs.Safe.{is_lost_import, was_imported_as_lost}
use Rattle.model_laws.specs.NoImports.{NoImportsSayAsBefore}

from_zero : (n : ℕ) → max 0 n ≡ n
from_zero n = omega arith

pub no_imports_say_as_before : NoImportsSayAsBefore
no_imports_say_as_before setup none =
    let no_base : base setup ≡ 0 = ap base_of none in
    let lost : (uid : Option Uid) → was_imported_as_lost setup uid ≡ false = λ uid. ap (λ (os : List Object). list_any (is_lost_import os uid) os) none in
    record {
      passes = subst ImportsPass (sym none) tt;
      begins = ap (λ (os : List Object). record { store = record { rows = rows_of_imports os os; version = base_of os }; moment = first_moment; log = []; devices = no_devices }) none;
      base_is = no_base;
      served = λ version. ap (λ n. oldest n version) no_base ∙ from_zero (version - window);
      none_lost = lost;
      counts = λ past claim completed. record { completed = completed; found = λ is. absurd (true≢false (sym is ∙ lost claim.meta.uid)) };
    }
