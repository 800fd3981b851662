-- What is next and held, and turns, computed.
use Rattle.std.proofs.Common.{refl, sym, ap, true≢false}
use Rattle.std.specs.Prelude.{Bool, true, false, Option, Some, None, is_none}
use Rattle.attach_law.specs.declared.attachment.AttachAsk.{AttachAsk}
use Rattle.attach_law.specs.declared.attachment.AttachAsk.TheVariants.{Detach}
use Rattle.attach_law.specs.Calls.{AttachRefusal}
use Rattle.attach_examples.specs.Turning.{DoneExamples, HeldExamples, MergedExamples, NextExamples, TurnExamples}

pub next_examples : NextExamples
next_examples = record {
  first_pod = refl;
  refused = refl;
  second_pod = refl;
  unused = refl;
  gone = refl;
  under_a_mount = refl;
  unscheduled = refl;
  deleting = refl;
  not_completed = refl;
}

pub held_examples : HeldExamples
held_examples = record { second_node = refl; attached = refl; free = refl; another_action = refl; no_pod = refl }

abbrev is_refusal : Option AttachRefusal → Bool
is_refusal None = false
is_refusal (Some why) = true

pub done_examples : DoneExamples
done_examples = record {
  attach = (refl, refl);
  detach = (refl, refl);
  refused = λ done. true≢false (ap is_refusal done.0);
  again = λ done. true≢false done.1;
  under_a_mount = λ done. true≢false (ap is_refusal done.0);
}

-- a call that detaches
abbrev detaches : Option AttachAsk → Bool
detaches (Some (Detach u node)) = true
detaches ask = false

pub turn_examples : TurnExamples
turn_examples = record {
  moves = (refl, (refl, (refl, refl)));
  part = (refl, refl);
  stops = λ turned. true≢false (sym (ap is_none turned.1.0));
  order = λ turned. true≢false (ap detaches turned.0);
  nothing = (refl, refl);
}

pub merged_examples : MergedExamples
merged_examples = record { no_entries = refl; nothing = refl }
