use Rattle.std.proofs.Common.{◌≡◌, ℕ, List, [], ◌∷◌, None, refl, ap, arith}
use Rattle.kube_parts.specs.declared.names.LicenceRule.TheVariants.{Reading, Kind}
use Rattle.kube_parts.specs.declared.parts.Kind.TheVariants as kinds
use Rattle.call_types.specs.declared.entry.Entry.{Entry}
use Rattle.call_types.specs.declared.reply.Reply.{Reply}
use Rattle.call_types.specs.declared.reply.Reply.TheVariants.{Listed}
use Rattle.call_types.specs.declared.request.SeatKind.TheVariants.{User, Binder}
use Rattle.call_types.specs.declared.request.Request.TheVariants as requests
use Rattle.binder_model.specs.Answers.{list, outcome, reply_of, after}
use Rattle.binder_model.specs.Devices.{device_answer}
use Rattle.binder_model.specs.Licence.{IsRefusedBy}
use Rattle.binder_model.specs.Run.{Run}
use Rattle.binder_model.specs.World.{effect, on_devices, reply_to, world_after, log_after}
use Rattle.audit_check.specs.declared.verdict.AuditRule.TheVariants.{Answer, Licence}
use Rattle.audit_check.specs.declared.verdict.Verdict.{Verdict}
use Rattle.audit_check.specs.declared.verdict.Verdict.TheVariants.{Yes, No}
use Rattle.audit_check.specs.Verdicts.{IsVerdict}
use Rattle.audit_check.proofs.Verdicts.{one_verdict}
use Rattle.run_examples.specs.Audit.Verdicts.{bare, lists, VerdictExamples}

abbrev again : List Entry
again = lists 5 Binder 0 ∷ lists 5 Binder 0 ∷ []

abbrev then_wrong : List Entry
then_wrong = lists 5 Binder 0 ∷ lists 5 Binder 1 ∷ []

version_of : Reply → ℕ
version_of (Listed items version) = version
version_of reply = 0

other_version : Listed [] 1 ≡ Listed [] 0 → ⊥
unfolding version_of
other_version h = let e : 1 ≡ 0 = ap version_of h in omega (arith, e)

run_of_one : Run bare (lists 5 Binder 0 ∷ [])
unfolding effect on_devices device_answer outcome list reply_to reply_of
run_of_one = (tt, refl, (tt, (refl, tt)))

listed_before : IsRefusedBy Binder (lists 5 Binder 0 ∷ []) (requests.List kinds.PersistentVolume None) Reading
listed_before = record { refused = λ h. h.1.1; mixed = λ n. absurd (n (refl, tt)); row = λ are. refl }

was_a_user : IsRefusedBy Binder (lists 5 User 0 ∷ []) (requests.List kinds.PersistentVolume None) Kind
was_a_user = record {
  refused = λ h. let e = h.0.0 in cc;
  mixed = λ n. refl;
  row = λ are. let e = are.0 in cc;
}

a_second : IsVerdict bare again (No 2 (Licence Reading))
unfolding effect on_devices device_answer outcome list reply_to reply_of world_after after log_after
a_second = record {
  before = lists 5 Binder 0 ∷ [];
  entry = lists 5 Binder 0;
  later = [];
  stand = refl;
  place = refl;
  run = run_of_one;
  breaks = (refl, listed_before);
}

a_wrong : IsVerdict bare (lists 5 Binder 1 ∷ lists 5 Binder 0 ∷ []) (No 1 Answer)
unfolding effect on_devices device_answer outcome list reply_to reply_of
a_wrong = record {
  before = [];
  entry = lists 5 Binder 1;
  later = lists 5 Binder 0 ∷ [];
  stand = refl;
  place = refl;
  run = tt;
  breaks = λ h. other_version h;
}

a_wrong_first : IsVerdict bare then_wrong (No 2 Answer)
unfolding effect on_devices device_answer outcome list reply_to reply_of world_after after log_after
a_wrong_first = record {
  before = lists 5 Binder 0 ∷ [];
  entry = lists 5 Binder 1;
  later = [];
  stand = refl;
  place = refl;
  run = run_of_one;
  breaks = λ h. other_version h;
}

another : IsVerdict bare (lists 5 User 0 ∷ lists 5 Binder 0 ∷ []) (No 2 (Licence Kind))
unfolding effect on_devices device_answer outcome list reply_to reply_of world_after after log_after
another = record {
  before = lists 5 User 0 ∷ [];
  entry = lists 5 Binder 0;
  later = [];
  stand = refl;
  place = refl;
  run = (tt, refl, tt);
  breaks = (refl, was_a_user);
}

number : Verdict → ℕ
number Yes = 0
number (No n rule) = n

other_entry : No 1 (Licence Reading) ≡ No 2 (Licence Reading) → ⊥
unfolding number
other_entry h = let e : 1 ≡ 2 = ap number h in omega (arith, e)

pub verdict_examples : VerdictExamples
unfolding effect on_devices device_answer outcome list reply_to reply_of world_after after log_after
verdict_examples = record {
  nothing = tt;
  a_list = run_of_one;
  two_seats = (run_of_one, refl, (tt, (refl, tt)));
  users_list_again = ((tt, refl, tt), refl, tt);
  a_second_list = a_second;
  a_wrong_answer = a_wrong;
  a_wrong_answer_first = a_wrong_first;
  another_kind = another;
  no_second_list = λ run. run.2.1.1;
  not_the_first_entry = λ first. other_entry (one_verdict bare again (No 1 (Licence Reading)) (No 2 (Licence Reading)) first a_second);
  not_its_licence = λ first. let e = one_verdict bare then_wrong (No 2 (Licence Reading)) (No 2 Answer) first a_wrong_first in cc;
}
