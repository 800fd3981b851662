-- A setup that is read has imports with which a world may begin.
use Rattle.std.proofs.Common.{◌≡◌, ℕ, List, [], ◌∷◌, Bool, true, false, Option, Some, None, Result, Ok, Err, refl, subst, if◌then◌else◌}
use Rattle.std.specs.Prelude.{IfOk, is_some, nat_lt, length, codes}
use Rattle.serde_json.specs.Data.{Data}
use Rattle.serde_json.specs.Find.{get}
use Rattle.call_types.specs.declared.setup.Setup.{Setup}
use Rattle.script_lines.specs.declared.errors.BadLine.{BadLine}
use Rattle.script_text.specs.declared.script.Line.{Line}
use Rattle.script_text.specs.declared.script.Line.TheVariants.{Call, Lose, Restart, Turn, Drain}
use Rattle.script_text.specs.declared.script.Script.{Script}
use Rattle.script_text.specs.Grammar.{script_of}
use Rattle.history_lines.specs.Entries.{setup_of}
use Rattle.history_lines.proofs.Imports.{read_passes}
use Rattle.store_asks.specs.declared.asks.StoreAsk.{StoreAsk}
use Rattle.store_asks.specs.declared.errors.AskMember.{AskMember}
use Rattle.store_asks.specs.Asks.{ask_in}
use Rattle.store_lines.specs.declared.faults.LineFault.{LineFault}
use Rattle.store_lines.specs.declared.faults.LineFault.TheVariants.{TooLong, UnknownLine}
use Rattle.store_lines.specs.declared.faults.StoreLineError.{StoreLineError}
use Rattle.store_lines.specs.declared.reading.StoreLine.{StoreLine}
use Rattle.store_lines.specs.Faults.{StoreLineGives}
use Rattle.store_lines.specs.Lines.{◌>>=◌, HasImports, as_ask, as_call, as_setup, call_among, call_of, line_by, line_of, most_store_line_bytes, object_in}

abbrev Pass : Result StoreLine LineFault → Type 0
Pass read = IfOk read HasImports

ask_passes : (r : Result StoreAsk AskMember) → Pass (as_ask r)
ask_passes (Ok a) = tt
ask_passes (Err m) = tt

line_passes : (line : Line) → Pass (call_of line)
line_passes (Call user request) = tt
line_passes (Lose actor call after) = tt
line_passes (Restart actor after) = tt
line_passes (Turn actor calls) = tt
line_passes Drain = tt

among_pass : (lines : List Line) → Pass (call_among lines)
among_pass [] = tt
among_pass (line ∷ []) = line_passes line
among_pass (line ∷ next ∷ rest) = tt

call_passes : (r : Result Script BadLine) → Pass (as_call r)
call_passes (Ok s) = among_pass s.lines
call_passes (Err b) = tt

setup_passes_as : (line : List ℕ) (o : Option Setup) → setup_of line ≡ o → Pass (as_setup o)
setup_passes_as line None is = tt
setup_passes_as line (Some s) is = read_passes line (Ok s) is

one_passes : (a b c : Bool) (x y z : Result StoreLine LineFault) → Pass x → Pass y → Pass z → Pass (if a then x else if b then y else if c then z else Err UnknownLine)
one_passes true b c x y z p q r = p
one_passes false true c x y z p q r = q
one_passes false false true x y z p q r = r
one_passes false false false x y z p q r = tt

by_passes : (line : List ℕ) (d : Data) → Pass (line_by line d)
by_passes line d =
    one_passes (is_some (get (codes "ask") d)) (is_some (get (codes "do") d)) (is_some (get (codes "setup") d)) (as_ask (ask_in d)) (as_call (script_of line)) (as_setup (setup_of line))
    (ask_passes (ask_in d)) (call_passes (script_of line)) (setup_passes_as line (setup_of line) refl)

value_passes : (line : List ℕ) (r : Result Data LineFault) → Pass (r >>= λ d. line_by line d)
value_passes line (Ok d) = by_passes line d
value_passes line (Err fault) = tt

small_passes : (b : Bool) (r : Result StoreLine LineFault) → Pass r → Pass (if b then Err TooLong else r)
small_passes true r p = tt
small_passes false r p = p

pub each_passes : (line : List ℕ) → Pass (line_of line)
unfolding line_of
each_passes line = small_passes (nat_lt most_store_line_bytes (length line)) (object_in line >>= λ d. line_by line d) (value_passes line (object_in line))

pub reads_pass : (line : List ℕ) (r : Result StoreLine StoreLineError) → StoreLineGives r (line_of line) → IfOk r HasImports
reads_pass line (Ok l) is = subst (λ (read : Result StoreLine LineFault). Pass read) is (each_passes line)
reads_pass line (Err e) is = tt
