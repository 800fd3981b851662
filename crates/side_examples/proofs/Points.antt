-- Short lists of steps, computed.
use Rattle.std.proofs.Common.{refl, arith, inl, inr, List, [], ◌∷◌, Option, Some, Bool, true, false}
use Rattle.std.specs.Prelude.{is_none, is_some}
use Rattle.model_examples.proofs.Tellings.{differ}
use Rattle.std.specs.Fmt.{digits}
use Rattle.std.specs.Str.{is_utf8, chars}
use Rattle.serde_json.proofs.OnLiterals.{serde_json_on_literals}
use mathlib.Core.Bool.{xor}
use Rattle.binder_model.specs.Store.{with_meta, admitted_object, without_status, created_object, leaves, lacks_node}
use Rattle.binder_model.specs.Fields.{faulty, claim_fault, kind_fault, create_fault}
use Rattle.binder_model.specs.Guard.{breaks, guard}
use Rattle.binder_model.specs.Imports.{imported_object}
use Rattle.binder_model.specs.Answers.{refuse_field, refuse_rule, guard_on, create, outcome, reply_of, after}
use Rattle.binder_model.specs.Devices.{device_answer}
use Rattle.binder_model.specs.World.{effect, on_devices, reply_to, world_after, log_after}
use Rattle.model_examples.specs.Samples.{key_c}
use Rattle.side_calls.specs.declared.asks.SideEntry.{SideEntry}
use Rattle.side_calls.specs.declared.asks.SideReply.{SideReply}
use Rattle.side_calls.specs.declared.asks.SideReply.TheVariants as replies
use Rattle.side_model.specs.Within.{IsKept}
use Rattle.side_laws.proofs.Growths.{growth_goes_in_turn}
use Rattle.side_examples.specs.Samples.{here, quota, row}
use Rattle.side_examples.specs.Points.{given, grown, grows, setup}
use Rattle.side_examples.specs.Points.{GrownExamples, HoldsBackExamples, MergedExamples, SideRunExamples, WithinExamples}

abbrev is_some_side : List SideEntry → Bool
is_some_side [] = false
is_some_side (x ∷ xs) = true

abbrev is_no_side : List SideEntry → Bool
is_no_side [] = true
is_no_side (x ∷ xs) = false

abbrev is_refused : Option SideReply → Bool
is_refused (Some (replies.NotGrown error)) = true
is_refused reply = false

not_kept : IsKept 2 1 1 → ⊥
not_kept (inl n) = omega (arith, n)
not_kept (inr n) = omega (arith, n)

not_kept_4 : IsKept 4 2 3 → ⊥
not_kept_4 (inl n) = omega (arith, n)
not_kept_4 (inr n) = omega (arith, n)

pub merged_examples : MergedExamples
merged_examples = record {
  entries_of = refl;
  sides_of = refl;
  each = (refl, (refl, refl));
  not_each = λ h. differ is_some_side h.0 refl refl;
  not_before = λ h. differ is_no_side h.1 refl refl;
}

pub side_run_examples : SideRunExamples
unfolding serde_json_on_literals digits is_utf8 chars imported_object with_meta leaves
side_run_examples = record {
  growth = ((((tt, refl), refl), refl), refl);
  held = (((((tt, refl), refl), refl), refl), refl);
  rows = refl;
  other_answer = λ h. differ is_refused h.1 refl refl;
  not_the_next = λ h. differ is_none h.1 refl refl;
  one_too_many = λ h. differ is_none h.1 refl refl;
  passing_create = λ h. differ is_none h.1 refl refl;
}

pub holds_back_examples : HoldsBackExamples
unfolding serde_json_on_literals digits is_utf8 chars imported_object with_meta leaves
holds_back_examples = record {
  node = (tt, refl);
  list = (tt, tt);
  controller = (tt, tt);
  claim_too_many = λ h. differ is_some h.1 refl refl;
}

pub within_examples : WithinExamples
unfolding imported_object effect on_devices device_answer outcome create refuse_field refuse_rule guard_on guard breaks create_fault kind_fault claim_fault faulty
    serde_json_on_literals digits is_utf8 chars lacks_node admitted_object without_status created_object with_meta leaves reply_to world_after reply_of after log_after xor
within_examples = record {
  first = refl;
  later = refl;
  created = refl;
  not_within = λ h. not_kept (h.0 (quota here 8 1) refl).claims;
  by_limit = inl (omega arith);
  by_imports = inr (omega arith);
  by_neither = not_kept_4;
  imports = λ q has. record { bytes = inr (omega arith); claims = inr (omega arith) };
}

pub grown_examples : GrownExamples
unfolding serde_json_on_literals digits is_utf8 chars imported_object with_meta leaves
grown_examples = record {
  no_less = record { asked = omega arith; given = omega arith; volume = omega arith; stored = omega arith };
  asked_fell = λ h. let n = h.asked in omega (arith, n);
  given_fell = λ h. let n = h.given in omega (arith, n);
  volume_fell = λ h. let n = h.volume in omega (arith, n);
  stored_fell = λ h. let n = h.stored in omega (arith, n);
  rises = (growth_goes_in_turn setup given (grows 7 ∷ grows 6 ∷ [])).rises.1;
  not_back = λ h. let n = (h key_c (row 7 5 5 5 5) (row 6 5 5 5 5) refl refl refl).asked in omega (arith, n);
  throughout = growth_goes_in_turn setup given grown;
}
