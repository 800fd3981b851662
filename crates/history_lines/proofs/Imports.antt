-- Imports that pass after those before them.
use Rattle.std.proofs.Common.{◌≡◌, ℕ, List, [], ◌∷◌, ◌++◌, Bool, true, false, ◌&&◌, if◌then◌else◌, Option, Some, None, Result, Ok, Err, bytes_eq, refl, sym, ◌∙◌, ap, subst}
use Rattle.std.specs.Prelude.{◌↔◌, IfOk, IsTrue, is_none, codes}
use Rattle.serde_json.specs.Data.{Data}
use Rattle.plain_data.specs.declared.copies.OutOfMemory.{OutOfMemory}
use Rattle.kube_parts.specs.declared.names.ImportFault.{ImportFault}
use Rattle.kube_objects.specs.declared.objects.Object.{Object}
use Rattle.call_types.specs.declared.setup.Pool.{Pool}
use Rattle.call_types.specs.declared.setup.Setup.{Setup}
use Rattle.binder_model.specs.Imports.{import_fault, PassAfter, ImportsPass}
use Rattle.object_text.specs.Reading.{value_of}
use Rattle.history_text.specs.Entries.{setup_line}
use Rattle.history_lines.specs.declared.errors.Unread.{Unread}
use Rattle.history_lines.specs.Answers.{◌>>=◌, taken, PartGives}
use Rattle.history_lines.specs.Members.{Look, look_in, number_in, object_in, list_at, some_list_at}
use Rattle.history_lines.specs.Entries.{pass_after, rise, pool_in, parts_with, parts_at, parts_in, setup_in, printed_as, setup_of}

-- ---- the test is the one that worlds ask for

passing : (before os : List Object) → pass_after before os ≡ true → PassAfter before os
passing before [] h = tt
passing before (o ∷ os) h = by (import_fault before o) refl (λ more. passing (before ++ o ∷ []) os more) h
  where
    by : (fault : Option ImportFault) → import_fault before o ≡ fault
        → (pass_after (before ++ o ∷ []) os ≡ true → PassAfter (before ++ o ∷ []) os)
        → (is_none fault && pass_after (before ++ o ∷ []) os) ≡ true → PassAfter before (o ∷ os)
    by None none rest more = (none, rest more)
    by (Some fault) some rest more = absurd (cc)

pub imports_tested : (before os : List Object) → PassAfter before os → pass_after before os ≡ true
imports_tested before [] p = refl
imports_tested before (o ∷ os) p = rw p.0 (imports_tested (before ++ o ∷ []) os p.1)

-- so the answer is that of the test
pub test_of : (imports : List Object) (r : Result Bool OutOfMemory) → IfOk r (λ passes. IsTrue passes ↔ ImportsPass imports) → IfOk r (λ passes. passes ≡ pass_after [] imports)
test_of imports (Err e) means = tt
test_of imports (Ok passes) means = by passes (pass_after [] imports) refl means
  where
    by : (a b : Bool) → pass_after [] imports ≡ b → IsTrue a ↔ ImportsPass imports → a ≡ pass_after [] imports
    by true b is m = sym (imports_tested [] imports (m.0 refl))
    by false true is m = m.1 (passing [] imports is) ∙ sym is
    by false false is m = sym is

-- a step that gives something was given something
step : {A B : Type 0} (o : Option A) (f : A → Option B) (b : B) → (o >>= f) ≡ Some b → (a : A) × (f a ≡ Some b)
step None f b h = absurd (cc)
step (Some a) f b h = (a, h)

with_passing : (pools : List Pool) (faults : List ℕ) (imports : List Object) (s : Setup) → parts_with pools faults imports ≡ Some s → ImportsPass s.imports
with_passing pools faults imports s h = by (rise faults) (pass_after [] imports) refl h
  where
    by : (r p : Bool) → pass_after [] imports ≡ p → (if r && p then Some (record { pools = pools; faults = faults; imports = imports }) else None) ≡ Some s → ImportsPass s.imports
    by true true pass is = let same : imports ≡ s.imports = cc in subst ImportsPass same (passing [] imports pass)
    by true false pass is = absurd (cc)
    by false p pass is = absurd (cc)

parts_passing : (m : Look) (s : Setup) → parts_at m ≡ Some s → ImportsPass s.imports
parts_passing m s h =
    let a = step (list_at number_in (codes "faults") m)
    (λ faults. some_list_at object_in (codes "imports") m >>= λ imports. list_at pool_in (codes "pools") m >>= λ pools. parts_with pools faults imports) s h in
    let b = step (some_list_at object_in (codes "imports") m) (λ imports. list_at pool_in (codes "pools") m >>= λ pools. parts_with pools a.0 imports) s a.1 in
    let c = step (list_at pool_in (codes "pools") m) (λ pools. parts_with pools a.0 b.0) s b.1 in
    with_passing c.0 a.0 b.0 s c.1

read_passing : (d : Data) (s : Setup) → setup_in d ≡ Some s → ImportsPass s.imports
unfolding setup_in parts_in
read_passing d s h = let a = step (look_in d (codes "setup")) parts_in s h in parts_passing (look_in a.0) s a.1

printed_passing : (line : List ℕ) (o : Option Setup) (s : Setup) → ((t : Setup) → o ≡ Some t → ImportsPass t.imports) → (o >>= λ t. printed_as setup_line line t) ≡ Some s → ImportsPass s.imports
printed_passing line None s passes h = absurd (cc)
printed_passing line (Some t) s passes h = by (bytes_eq (setup_line t) line) h
  where
    by : (b : Bool) → (if b then Some t else None) ≡ Some s → ImportsPass s.imports
    by true is = let same : t ≡ s = cc in passes s (ap Some same)
    by false is = absurd (cc)

setup_passes : (line : List ℕ) (s : Setup) → setup_of line ≡ Some s → ImportsPass s.imports
unfolding setup_of
setup_passes line s h =
    let a = step (taken (value_of line)) (λ d. setup_in d >>= λ t. printed_as setup_line line t) s h in
    printed_passing line (setup_in a.0) s (read_passing a.0) a.1

pub read_passes : (line : List ℕ) (r : Result Setup Unread) → PartGives r (setup_of line) → IfOk r (λ s. ImportsPass s.imports)
read_passes line (Ok s) is = setup_passes line s is
read_passes line (Err e) is = tt
