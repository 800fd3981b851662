-- Extended scripts: what the side's lines mean, which line is at fault and why, and what texts are.
-- A choice of this project: the format of extended scripts, and its limits.
use Rattle.std.specs.Prelude.{◌≡◌, ℕ, zero, suc, List, [], ◌∷◌, Ok, Err, Some, codes}
use Rattle.std.specs.declared.result.Result.{Result}
use Rattle.kube_parts.specs.declared.parts.Kind.TheVariants.{PersistentVolumeClaim}
use Rattle.object_text.specs.declared.errors.Member.TheVariants as manifests
use Rattle.script_lines.specs.declared.line_member.LineMember.TheVariants as members
use Rattle.script_lines.specs.declared.errors.Reason.{Reason}
use Rattle.script_lines.specs.declared.errors.Reason.TheVariants.{BadQuantity, BadValue, Missing, NotWhole, TooManyLines, TooManyQuotas, UnknownDo, WrongType}
use Rattle.script_lines.specs.declared.errors.BadLine.{BadLine}
use Rattle.script_lines.specs.Answers.{◌>>=◌}
use Rattle.script_text.specs.declared.script.Line.TheVariants.{Drain}
use Rattle.script_text.specs.Grammar.{script_of}
use Rattle.side_calls.specs.declared.quotas.Quota.{Quota as QuotaData}
use Rattle.extended_text.specs.declared.progress.SideSaid.{SideSaid}
use Rattle.extended_text.specs.declared.sides.Extended.{Extended}
use Rattle.extended_text.specs.declared.sides.SideLine.{SideLine}
use Rattle.extended_text.specs.declared.sides.SideLine.TheVariants.{Grow, Quota, Reserve}
use Rattle.extended_text.specs.Extended.{blanked, extended_of}
use Rattle.extended_text.specs.Sides.{and_word, no_sides, side_in, side_line}

-- ---- one line

-- what a line of the side means, after what was said before
abbrev pub means_after : SideSaid → List ℕ → Result SideLine Reason
means_after said line = side_in line >>= λ side. side_line side.0 said side.1

-- what it means where it is the first
abbrev pub means : List ℕ → Result SideLine Reason
means line = means_after no_sides line

abbrev pub a_quota : List ℕ → ℕ → ℕ → QuotaData
a_quota namespace bytes claims = record { namespace = namespace; bytes = bytes; claims = claims }

abbrev pub grows : List ℕ → List ℕ → ℕ → ℕ → SideLine
grows namespace name bytes user = Grow user (record { kind = PersistentVolumeClaim; namespace = namespace; name = name }) bytes

-- after a line that gave the namespace `a` a quota
abbrev pub after_a : SideSaid
after_a = record no_sides { quotas = a_quota (codes "a") 5 1 ∷ [] }

-- after a line that gave bytes for growth
abbrev pub after_reserve : SideSaid
after_reserve = record no_sides { reserve = Some 0 }

pub record QuotaExamples : Type 0 where
  pub whole : means (codes "{\"do\":\"quota\",\"namespace\":\"a\",\"bytes\":\"1Ki\",\"claims\":2}") ≡ Ok (Quota (a_quota (codes "a") 1024 2))
  pub of_nothing : means (codes "{\"do\":\"quota\",\"namespace\":\"a\",\"bytes\":\"0\",\"claims\":0}") ≡ Ok (Quota (a_quota (codes "a") 0 0))
  pub any_text_is_a_namespace : means (codes "{\"do\":\"quota\",\"namespace\":\"\",\"bytes\":5,\"claims\":1024}") ≡ Ok (Quota (a_quota [] 5 1024))
  pub no_namespace : means (codes "{\"do\":\"quota\",\"bytes\":\"x\",\"claims\":-1}") ≡ Err (Missing (members.Of manifests.Namespace))
  pub no_bytes : means (codes "{\"do\":\"quota\",\"namespace\":\"a\",\"claims\":-1}") ≡ Err (Missing members.Bytes)
  pub no_quantity : means (codes "{\"do\":\"quota\",\"namespace\":\"a\",\"bytes\":\"1 Gi\",\"claims\":1}") ≡ Err (BadQuantity members.Bytes)
  pub a_fraction_of_bytes : means (codes "{\"do\":\"quota\",\"namespace\":\"a\",\"bytes\":1.5,\"claims\":1}") ≡ Err NotWhole
  pub no_claims : means (codes "{\"do\":\"quota\",\"namespace\":\"a\",\"bytes\":5}") ≡ Err (Missing members.Claims)
  pub too_many_claims : means (codes "{\"do\":\"quota\",\"namespace\":\"a\",\"bytes\":5,\"claims\":1025}") ≡ Err (BadValue members.Claims)
  pub fewer_than_no_claims : means (codes "{\"do\":\"quota\",\"namespace\":\"a\",\"bytes\":5,\"claims\":-1}") ≡ Err (BadValue members.Claims)
  pub a_fraction_of_claims : means (codes "{\"do\":\"quota\",\"namespace\":\"a\",\"bytes\":5,\"claims\":0.5}") ≡ Err NotWhole
  pub claims_as_a_text : means (codes "{\"do\":\"quota\",\"namespace\":\"a\",\"bytes\":5,\"claims\":\"1\"}") ≡ Err (WrongType members.Claims)
  pub another_namespace : means_after after_a (codes "{\"do\":\"quota\",\"namespace\":\"b\",\"bytes\":5,\"claims\":1}") ≡ Ok (Quota (a_quota (codes "b") 5 1))
  pub twice_before_all_else : means_after after_a (codes "{\"do\":\"quota\",\"namespace\":\"a\",\"bytes\":\"x\",\"claims\":-1}") ≡ Err (BadValue (members.Of manifests.Namespace))

pub record ReserveExamples : Type 0 where
  pub whole : means (codes "{\"do\":\"reserve\",\"bytes\":\"8Gi\"}") ≡ Ok (Reserve 8589934592)
  pub no_bytes : means (codes "{\"do\":\"reserve\"}") ≡ Err (Missing members.Bytes)
  pub twice : means_after after_reserve (codes "{\"do\":\"reserve\",\"bytes\":\"8Gi\"}") ≡ Err (BadValue members.Do)
  pub its_bytes_come_before : means_after after_reserve (codes "{\"do\":\"reserve\",\"bytes\":\"Gi\"}") ≡ Err (BadQuantity members.Bytes)

pub record GrowExamples : Type 0 where
  pub whole : means (codes "{\"do\":\"grow\",\"namespace\":\"a\",\"name\":\"c\",\"bytes\":\"1Ki\",\"user\":3}") ≡ Ok (grows (codes "a") (codes "c") 1024 3)
  pub by_default : means (codes "{\"do\":\"grow\",\"name\":\"c\",\"bytes\":\"1Ki\"}") ≡ Ok (grows (codes "default") (codes "c") 1024 1)
  pub no_name : means (codes "{\"do\":\"grow\",\"bytes\":\"x\"}") ≡ Err (Missing (members.Of manifests.Name))
  pub namespace_before_name : means (codes "{\"do\":\"grow\",\"namespace\":5}") ≡ Err (WrongType (members.Of manifests.Namespace))
  pub bytes_before_user : means (codes "{\"do\":\"grow\",\"name\":\"c\",\"bytes\":\"x\",\"user\":5}") ≡ Err (BadQuantity members.Bytes)
  pub no_such_user : means (codes "{\"do\":\"grow\",\"name\":\"c\",\"bytes\":5,\"user\":5}") ≡ Err (BadValue members.User)

-- ---- limits

abbrev pub times : {X : Type 0} → ℕ → X → List X
times zero x = []
times (suc n) x = x ∷ times n x

-- what is said with the side's line of this number, where so many quotas of `a` were given before
abbrev pub with_text : ℕ → ℕ → List ℕ → Result SideSaid Reason
with_text quotas n line = side_in line >>= λ side. and_word (record no_sides { quotas = times quotas (a_quota (codes "a") 5 1) }) n side.0 side.1

-- how many quotas there are then
abbrev pub quotas_then : ℕ → ℕ → List ℕ → Result ℕ Reason
quotas_then quotas n line = with_text quotas n line >>= λ said. Ok (count said.quotas)
  where
    count : List QuotaData → ℕ
    count [] = 0
    count (q ∷ qs) = suc (count qs)

pub record LimitExamples : Type 0 where
  pub quotas : quotas_then 63 1 (codes "{\"do\":\"quota\",\"namespace\":\"b\",\"bytes\":5,\"claims\":1}") ≡ Ok 64
  pub too_many_quotas : quotas_then 64 1 (codes "{\"do\":\"quota\",\"namespace\":\"b\",\"bytes\":5,\"claims\":1}") ≡ Err TooManyQuotas
  pub its_faults_come_before : quotas_then 64 1 (codes "{\"do\":\"quota\",\"namespace\":\"b\",\"bytes\":5,\"claims\":-1}") ≡ Err (BadValue members.Claims)
  pub the_last_line : quotas_then 0 4096 (codes "{\"do\":\"reserve\",\"bytes\":5}") ≡ Ok 0
  pub too_many_lines : quotas_then 0 4097 (codes "{\"do\":\"reserve\",\"bytes\":5}") ≡ Err TooManyLines
  pub lines_before_quotas : quotas_then 64 4097 (codes "{\"do\":\"quota\",\"namespace\":\"b\",\"bytes\":5,\"claims\":1}") ≡ Err TooManyLines

-- ---- whole texts

abbrev pub at_fault : ℕ → Reason → Result Extended BadLine
at_fault line reason = Err (record { line = line; reason = reason })

pub record FaultExamples : Type 0 where
  pub the_side_first : extended_of (codes "{\"do\":\"drain\"}\n{\"do\":\"reserve\"}\n{\"do\":\"turn\",\"actor\":\"nobody\",\"calls\":1}\n") ≡ at_fault 2 (Missing members.Bytes)
  pub the_script_first : extended_of (codes "{\"do\":\"drain\"}\n{\"do\":\"turn\",\"actor\":\"nobody\",\"calls\":1}\n{\"do\":\"reserve\"}\n") ≡ at_fault 2 (BadValue members.Actor)
  pub the_first_of_the_side : extended_of (codes "{\"do\":\"reserve\"}\n{\"do\":\"grow\"}\n") ≡ at_fault 1 (Missing members.Bytes)
  pub an_unknown_word : extended_of (codes "{\"do\":\"reserve\",\"bytes\":5}\n{\"do\":\"resize\",\"bytes\":5}\n") ≡ at_fault 2 UnknownDo
  pub no_side_line_in_a_script : script_of (codes "{\"do\":\"drain\"}\n{\"do\":\"reserve\",\"bytes\":5}\n") ≡ Err (record { line = 2; reason = UnknownDo })
  pub twice_over_other_lines : extended_of (codes "{\"do\":\"reserve\",\"bytes\":5}\n\n{\"do\":\"drain\"}\n{\"do\":\"reserve\",\"bytes\":5}\n") ≡ at_fault 4 (BadValue members.Do)

pub record TextExamples : Type 0 where
  pub empty : extended_of [] ≡ Ok
      (record {
        script = record { setup = record { pools = []; faults = []; imports = [] }; lines = []; node_names = []; sizes = [] };
        quotas = [];
        reserve = 0;
        sides = [];
      })
  pub places_are_among_the_lines_of_the_script : extended_of (codes
      "{\"do\":\"grow\",\"name\":\"c\",\"bytes\":5}\n{\"do\":\"fault\",\"call\":3}\n\n{\"do\":\"drain\"}\n{\"do\":\"reserve\",\"bytes\":7}\n{\"do\":\"drain\"}\n{\"do\":\"quota\",\"namespace\":\"a\",\"bytes\":5,\"claims\":1}")
      ≡ Ok
      (record {
        script = record { setup = record { pools = []; faults = 3 ∷ []; imports = [] }; lines = Drain ∷ Drain ∷ []; node_names = []; sizes = [] };
        quotas = a_quota (codes "a") 5 1 ∷ [];
        reserve = 7;
        sides = record { before = 0; number = 1; line = grows (codes "default") (codes "c") 5 1 } ∷ record { before = 1; number = 5; line = Reserve 7 } ∷ record
            { before = 2; number = 7; line = Quota (a_quota (codes "a") 5 1) } ∷ [];
      })
  pub nothing_is_left_of_a_side_line : blanked (codes "{\"do\":\"grow\"}") ≡ []
  pub another_line_is_left : blanked (codes "{\"do\":\"drain\"}") ≡ codes "{\"do\":\"drain\"}"
  pub what_is_no_object_is_left : blanked (codes "[\"grow\"]") ≡ codes "[\"grow\"]"
