use Rattle.std.proofs.Common.{◌≡◌, ℕ, List, ◌∷◌, Bool, true, false, Option, Some, refl, ap, arith}
use Rattle.std.specs.Fmt.{digits}
use Rattle.kube_objects.specs.declared.objects.Object.TheVariants.{Volume, Claim}
use Rattle.call_types.specs.declared.request.Request.TheVariants.{Create, Delete}
use Rattle.script_text.specs.declared.script.Line.{Line}
use Rattle.script_text.specs.declared.script.Line.TheVariants.{Call}
use Rattle.script_gen.specs.Draws.{state_after}
use Rattle.text_examples.specs.Gen.Lines.{LineExamples}

-- ---- parts of lines, by which two lines are told apart

abbrev bytes_in : Line → ℕ
bytes_in (Call user (Create (Volume v))) = v.amount.bytes
bytes_in line = 0

abbrev many_in : Line → Bool
many_in (Call user (Create (Volume v))) = v.modes.rwx
many_in line = false

abbrev first_of : Option (List ℕ) → ℕ
first_of (Some (c ∷ cs)) = c
first_of _ = 0

abbrev class_in : Line → ℕ
class_in (Call user (Create (Claim c))) = first_of c.class
class_in line = 0

abbrev second_of : List ℕ → ℕ
second_of (a ∷ b ∷ cs) = b
second_of _ = 0

abbrev name_in : Line → ℕ
name_in (Call user (Delete key uid)) = second_of key.name
name_in line = 0

pub line_examples : LineExamples
unfolding state_after digits
line_examples = record {
  volume = refl;
  next_volume = refl;
  many_writers = refl;
  claim = refl;
  fast_claim = refl;
  pod = refl;
  delete = refl;
  last_delete = refl;
  not_of_eight = λ h. let e : 7516192768 ≡ 8589934592 = ap bytes_in h in omega (arith, e);
  not_of_many = λ h. let e : false ≡ true = ap many_in h in cc;
  not_slow = λ h. let e : 102 ≡ 115 = ap class_in h in omega (arith, e);
  not_the_next = λ h. let e : 49 ≡ 51 = ap name_in h in omega (arith, e);
}
