-- Verdicts on short histories, beside verdicts that they do not get.
-- A choice of this project, as the verdicts are.
use Rattle.std.specs.Prelude.{ℕ, [], ◌∷◌, true, None}
use Rattle.kube_parts.specs.declared.names.LicenceRule.TheVariants.{Reading, Kind}
use Rattle.kube_parts.specs.declared.parts.Kind.TheVariants as kinds
use Rattle.call_types.specs.declared.entry.Entry.{Entry}
use Rattle.call_types.specs.declared.setup.Setup.{Setup}
use Rattle.call_types.specs.declared.request.SeatKind.{SeatKind}
use Rattle.call_types.specs.declared.request.SeatKind.TheVariants.{User, Binder}
use Rattle.call_types.specs.declared.request.Request.TheVariants as requests
use Rattle.call_types.specs.declared.reply.Reply.TheVariants.{Listed}
use Rattle.audit_check.specs.declared.verdict.AuditRule.TheVariants.{Answer, Licence}
use Rattle.audit_check.specs.declared.verdict.Verdict.TheVariants.{Yes, No}
use Rattle.audit_check.specs.Verdicts.{IsVerdict}

abbrev pub bare : Setup
bare = record { pools = []; faults = []; imports = [] }

-- a list of the volumes that shows none, at a version
abbrev pub lists : ℕ → SeatKind → ℕ → Entry
lists seat kind version = record { seat = seat; kind = kind; request = requests.List kinds.PersistentVolume None; reply = Listed [] version; told = true }

pub record VerdictExamples : Type 0 where
  pub nothing : IsVerdict bare [] Yes
  pub a_list : IsVerdict bare (lists 5 Binder 0 ∷ []) Yes
  pub two_seats : IsVerdict bare (lists 5 Binder 0 ∷ lists 6 Binder 0 ∷ []) Yes
  pub users_list_again : IsVerdict bare (lists 1 User 0 ∷ lists 1 User 0 ∷ []) Yes
  pub a_second_list : IsVerdict bare (lists 5 Binder 0 ∷ lists 5 Binder 0 ∷ []) (No 2 (Licence Reading))
  pub a_wrong_answer : IsVerdict bare (lists 5 Binder 1 ∷ lists 5 Binder 0 ∷ []) (No 1 Answer)
  pub a_wrong_answer_first : IsVerdict bare (lists 5 Binder 0 ∷ lists 5 Binder 1 ∷ []) (No 2 Answer)
  pub another_kind : IsVerdict bare (lists 5 User 0 ∷ lists 5 Binder 0 ∷ []) (No 2 (Licence Kind))
  pub no_second_list : IsVerdict bare (lists 5 Binder 0 ∷ lists 5 Binder 0 ∷ []) Yes → ⊥
  pub not_the_first_entry : IsVerdict bare (lists 5 Binder 0 ∷ lists 5 Binder 0 ∷ []) (No 1 (Licence Reading)) → ⊥
  pub not_its_licence : IsVerdict bare (lists 5 Binder 0 ∷ lists 5 Binder 1 ∷ []) (No 2 (Licence Reading)) → ⊥
