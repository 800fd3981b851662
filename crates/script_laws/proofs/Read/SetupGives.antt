-- What the readers of pools, faults and imported objects give is what a text can give, and its JSON is UTF-8.
use Rattle.std.proofs.Common.{◌≡◌, ℕ, List, [], ◌∷◌, false, Option, Some, None, IfSome, Result, Ok, Err, IfOk, IsUtf8, refl, sym, subst}
use Rattle.std.specs.Bool.{⊤}
use Rattle.json.proofs.Printed.Utf8.{IsUtf8-are_ascii}
use Rattle.serde_json.specs.Data.{unsigned, negative, float, Data, null, boolean, number, string, array, object}
use Rattle.quantity_text.specs.Quantity.{amount_of}
use Rattle.quantity_text.specs.declared.errors.AmountError.{AmountError}
use Rattle.kube_objects.specs.declared.objects.Amount.{Amount}
use Rattle.call_types.specs.declared.setup.Pool.{Pool}
use Rattle.history_text.specs.Replies.{topology_pairs}
use Rattle.object_text.specs.declared.errors.Member.TheVariants as manifests
use Rattle.object_text.specs.declared.errors.ObjectError.{ObjectError}
use Rattle.object_text.specs.PartReaders.{quantity_text, amount_from, amount_in}
use Rattle.object_laws.proofs.GivesParts.{step as object_step}
use Rattle.object_laws.proofs.Utf8Texts.{HasUtf8}
use Rattle.script_lines.specs.declared.line_member.LineMember.TheVariants as members
use Rattle.script_lines.specs.Members.{at, needed, text_of, text_at, new_call_at, object_at, size_taken, size_at, value_from, topology_from, topology_at}
use Rattle.kube_parts.specs.declared.names.ImportFault.{ImportFault}
use Rattle.kube_objects.specs.declared.objects.Object.{Object}
use Rattle.binder_model.specs.Imports.{import_fault}
use Rattle.script_lines.specs.declared.errors.Reason.TheVariants.{BadValue}
use Rattle.script_lines.specs.Answers.{unless}
use Rattle.script_text.specs.declared.script.Line.{Line}
use Rattle.script_text.specs.Said.{has_begun}
use Rattle.script_text.specs.declared.script.Meaning.{Meaning}
use Rattle.script_text.specs.declared.script.Meaning.TheVariants as meanings
use Rattle.script_text.specs.LineReaders.{pool_line, fault_line, unless_fault, import_line}
use Rattle.script_print.specs.Printing.{pool_pairs, pool_data, import_pairs, import_data}
use Rattle.script_laws.specs.Read.Given.{IsNewCall, IsLineObject}
use Rattle.script_laws.proofs.Read.Values.{step, unless_gives, WasRead, at_read, needed_read}
use Rattle.script_laws.proofs.Read.MembersGive.{text_of_gives, text_gives, new_call_gives, ObjectGiven, object_gives}
use Rattle.script_laws.proofs.Read.LinesGive.{object_of_utf8, object_utf8, PairsUtf8}

-- a pool that a text can give, with its size as it was written, and whose JSON is UTF-8
pub record PoolGiven (pool : Pool) (size : List ℕ) : Type 0 where
  pub sized : amount_of size ≡ Ok pool.bytes
  pub utf8 : HasUtf8 (pool_data pool size)

-- ---- sizes

record SizeGiven (a : Amount) : Type 0 where
  pub sized : amount_of a.text ≡ Ok a.bytes
  pub utf8 : IsUtf8 a.text

size_from : (s : List ℕ) (r : Result ℕ AmountError) → amount_of s ≡ r → IsUtf8 s → IfOk (amount_from manifests.Storage s r) SizeGiven
size_from s (Ok n) e u = record { sized = e; utf8 = u }
size_from s (Err x) e u = tt

digits_utf8 : (d : Data) → HasUtf8 d → IfOk (quantity_text manifests.Storage d) IsUtf8
digits_utf8 null h = tt
digits_utf8 (boolean b) h = tt
digits_utf8 (number (unsigned n)) h = h
digits_utf8 (number (negative z)) h = tt
digits_utf8 (number (float x)) h = tt
digits_utf8 (string s) h = h
digits_utf8 (array ds) h = tt
digits_utf8 (object ms) h = tt

size_taken_gives : (r : Result Amount ObjectError) → IfOk r SizeGiven → IfOk (size_taken r) SizeGiven
size_taken_gives (Ok a) h = h
size_taken_gives (Err e) h = tt

size_gives : (d : Data) → WasRead 127 d → IfOk (size_at d) SizeGiven
size_gives d h =
    step (WasRead 126) SizeGiven (needed members.Bytes d) _ (needed_read 126 members.Bytes d h) (λ e k.
    size_taken_gives (amount_in manifests.Storage e) (object_step IsUtf8 SizeGiven (quantity_text manifests.Storage e) _ (digits_utf8 e k.utf8) (λ s u. size_from s (amount_of s) refl u)))

-- ---- topologies

abbrev TopologyUtf8 : Option (List ℕ × List ℕ) → Type 0
TopologyUtf8 None = ⊤
TopologyUtf8 (Some t) = IsUtf8 t.0 × IsUtf8 t.1

value_gives : (label : List ℕ) (o : Option Data) → IsUtf8 label → IfSome o (WasRead 126) → IfOk (value_from label o) TopologyUtf8
value_gives label None u h = tt
value_gives label (Some d) u h = step IsUtf8 TopologyUtf8 (text_of members.Value d) _ (text_of_gives members.Value d h.utf8) (λ value v. (u, v))

topology_from_gives : (label value : Option Data) → IfSome label (WasRead 126) → IfSome value (WasRead 126) → IfOk (topology_from label value) TopologyUtf8
topology_from_gives None None h k = tt
topology_from_gives None (Some d) h k = tt
topology_from_gives (Some d) value h k = step IsUtf8 TopologyUtf8 (text_of members.Label d) _ (text_of_gives members.Label d h.utf8) (λ label u. value_gives label value u k)

topology_gives : (d : Data) → WasRead 127 d → IfOk (topology_at d) TopologyUtf8
topology_gives d h = topology_from_gives (at members.Label d) (at members.Value d) (at_read 126 members.Label d h) (at_read 126 members.Value d h)

topology_utf8 : (t : Option (List ℕ × List ℕ)) → TopologyUtf8 t → PairsUtf8 (topology_pairs t)
topology_utf8 None h = tt
topology_utf8 (Some t) h = (IsUtf8-are_ascii _ refl, h.0, (IsUtf8-are_ascii _ refl, h.1, tt))

-- ---- lines

abbrev pub IsPool : Meaning → Type 0
IsPool (meanings.Pool pool size) = PoolGiven pool size
IsPool (meanings.Fault call) = ⊥
IsPool (meanings.Import o) = ⊥
IsPool (meanings.Line line) = ⊥

pub pool_gives : (d : Data) → WasRead 127 d → IfOk (pool_line d) IsPool
unfolding pool_line pool_data
pool_gives d h =
    step IsUtf8 IsPool (text_at (members.Of manifests.Name) d) _ (text_gives 126 (members.Of manifests.Name) d h) (λ name a.
    step IsUtf8 IsPool (text_at (members.Of manifests.Provisioner) d) _ (text_gives 126 (members.Of manifests.Provisioner) d h) (λ provisioner b.
    step SizeGiven IsPool (size_at d) _ (size_gives d h) (λ size s.
    step TopologyUtf8 IsPool (topology_at d) _ (topology_gives d h) (λ topology t.
    record {
      sized = s.sized;
      utf8 = object_of_utf8 (pool_pairs
          (record { name = name; provisioner = provisioner; bytes = size.bytes; topology = topology }) size.text)
          (IsUtf8-are_ascii _ refl, IsUtf8-are_ascii _ refl, (IsUtf8-are_ascii _ refl, s.utf8, (IsUtf8-are_ascii _ refl, a, (IsUtf8-are_ascii _ refl, b, topology_utf8 topology t))));
    }))))

-- the number of a call that none of these is
abbrev pub IsFault : List ℕ → Meaning → Type 0
IsFault faults (meanings.Pool pool size) = ⊥
IsFault faults (meanings.Fault call) = IsNewCall faults call
IsFault faults (meanings.Import o) = ⊥
IsFault faults (meanings.Line line) = ⊥

pub fault_gives : (faults : List ℕ) (d : Data) → IfOk (fault_line faults d) (IsFault faults)
unfolding fault_line
fault_gives faults d = step (IsNewCall faults) (IsFault faults) (new_call_at members.Call faults d) _ (new_call_gives members.Call faults d) (λ call is. is)

-- an imported object that a text can give before any call and after these objects, and whose JSON is UTF-8
pub record ImportGiven (lines : List Line) (before : List Object) (o : Object) : Type 0 where
  pub object : IsLineObject o
  pub early : has_begun lines ≡ false
  pub passes : import_fault before o ≡ None
  pub utf8 : HasUtf8 (import_data o)

abbrev pub IsImport : List Line → List Object → Meaning → Type 0
IsImport lines before (meanings.Pool pool size) = ⊥
IsImport lines before (meanings.Fault call) = ⊥
IsImport lines before (meanings.Import o) = ImportGiven lines before o
IsImport lines before (meanings.Line line) = ⊥

import_utf8 : (o : Object) → ObjectGiven o → HasUtf8 (import_data o)
unfolding import_data
import_utf8 o is = object_of_utf8 (import_pairs o) (IsUtf8-are_ascii _ refl, IsUtf8-are_ascii _ refl, (IsUtf8-are_ascii _ refl, object_utf8 o is, tt))

-- the object is this one, before any call
record IsEarly (lines : List Line) (o early : Object) : Type 0 where
  pub same : early ≡ o
  pub none : has_begun lines ≡ false

passed_import : (lines : List Line) (before : List Object) (o : Object) (fault : Option ImportFault) → ObjectGiven o → has_begun lines ≡ false
    → import_fault before o ≡ fault → IfOk (unless_fault fault o) (IsImport lines before)
passed_import lines before o None is early e = record { object = is.given; early = early; passes = e; utf8 = import_utf8 o is }
passed_import lines before o (Some fault) is early e = tt

pub import_gives : (lines : List Line) (before : List Object) (d : Data) → WasRead 127 d → IfOk (import_line lines before d) (IsImport lines before)
unfolding import_line
import_gives lines before d h =
    step ObjectGiven (IsImport lines before) (object_at d) _ (object_gives d h) (λ o is.
    step (IsEarly lines o) (IsImport lines before) (unless (has_begun lines) (BadValue members.Do) o) _
    (unless_gives (IsEarly lines o) (has_begun lines) (BadValue members.Do) o (λ e. record { same = refl; none = e })) (λ early k.
    passed_import lines before early (import_fault before early) (subst ObjectGiven (sym k.same) is) k.none refl))
