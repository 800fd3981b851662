use Rattle.std.proofs.Common.{◌≡◌, true, drop}
use Rattle.std.specs.List.{list_all}
use Rattle.std.specs.Char.{is_ascii_digit}
use Rattle.std.specs.Str.Parse.{digits_value_after}
use Rattle.quantity_text.specs.Steps.Capped.{capped}
use Rattle.quantity_text.proofs.digits.number_behind.Given as goal

abbrev pub invariant-loop-digit : goal.invariant-loop-digit
invariant-loop-digit l =
    (list_all is_ascii_digit (drop l.digit-index l.digits) ≡ true)
    × (capped (digits_value_after 10 l.number (drop l.digit-index l.digits)) ≡ capped (digits_value_after 10 l.front l.digits))
