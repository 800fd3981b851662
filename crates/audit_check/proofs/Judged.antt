-- What an audit keeps from entry to entry, and what it answers.
use Rattle.std.proofs.Common.{
  ◌≡◌,
  ℕ,
  ◌==◌,
  ◌+◌,
  ◌<◌,
  ◌≤◌,
  ◌↔◌,
  Bool,
  true,
  false,
  List,
  ◌∷◌,
  Some,
  None,
  Ok,
  Err,
  Result,
  MatchResult,
  reverse,
  take,
  length,
  get_or,
  refl,
  ap,
  sym,
  ◌∙◌,
  subst,
  if◌then◌else◌,
  take_all,
}
use Rattle.std.proofs.lemmas.Bool.{iff_false}
use Rattle.kube_parts.specs.declared.names.LicenceRule.{LicenceRule}
use Rattle.call_types.specs.declared.entry.Entry.{Entry}
use Rattle.call_types.specs.declared.reply.Reply.{Reply}
use Rattle.call_types.specs.declared.setup.Setup.{Setup}
use Rattle.binder_model.specs.World.{world, effect, reply_to}
use Rattle.binder_model.specs.Told.{own}
use Rattle.binder_model.specs.Licence.{IsRefusedBy, Licensed}
use Rattle.model_laws.proofs.Evidence.{newest_first}
use Rattle.world_core.specs.Kept.{reply_in}
use Rattle.audit_check.specs.declared.auditor.Auditor.{Auditor}
use Rattle.audit_check.specs.declared.seats.Seats.{Seats}
use Rattle.audit_check.specs.declared.verdict.AuditRule.{AuditRule}
use Rattle.audit_check.specs.declared.verdict.AuditRule.TheVariants.{Answer, Licence}
use Rattle.audit_check.specs.Verdicts.{Breaks, HasItsAnswer}
use Rattle.audit_check.specs.Steps.Noted.{AreOwn, IsNoted, noted}
use Rattle.audit_check.specs.Steps.Judged.{AuditorStands, rule_of}

-- ---- one entry

own_noted : (old new : Seats) (e : Entry) (past : List Entry) → AreOwn old past → IsNoted old new e → AreOwn new (e ∷ past)
own_noted old new e past are is = λ seat. is seat ∙ ap (λ (xs : List Entry). if e.seat == seat then e ∷ xs else xs) (are seat)

-- what the world answers is the answer of the entries that stand
answer_of : (old : Auditor) (setup : Setup) (past : List Entry) (e : Entry) → AuditorStands old setup past
    → reply_in old.world e.kind e.request ≡ reply_to (effect setup (world setup past) e.kind e.request)
answer_of old setup past e stands = λ i. reply_to (effect (stands.begun i) (world (stands.begun i) (stands.passed i)) e.kind e.request)

pub breaking : (old : Auditor) (e : Entry) (reply : Reply) (answered : Bool) (allowed : Result Unit LicenceRule) (rule : AuditRule)
    → ((answered ≡ true) ↔ (reply ≡ e.reply))
    → MatchResult allowed (λ _. Licensed e.kind (noted old.seats e.seat) e.request) (IsRefusedBy e.kind (noted old.seats e.seat) e.request)
    → reply ≡ reply_in old.world e.kind e.request
    → Some rule ≡ rule_of answered allowed
    → (setup : Setup) (past : List Entry) → AuditorStands old setup past → Breaks setup past e rule
breaking old e reply false allowed rule same may is gives setup past stands =
    let first : Answer ≡ rule = cc in
    let wrong : HasItsAnswer setup past e → ⊥ = λ h. iff_false same refl (is ∙ answer_of old setup past e stands ∙ sym h) in
    subst (λ (r : AuditRule). Breaks setup past e r) first wrong
breaking old e reply true (Ok u) rule same may is gives setup past stands = cc
breaking old e reply true (Err r) rule same may is gives setup past stands =
    let licence : Licence r ≡ rule = cc in
    let right : HasItsAnswer setup past e = sym (same.0 refl) ∙ is ∙ answer_of old setup past e stands in
    let refused : IsRefusedBy e.kind (own e.seat past) e.request r = subst (λ (mine : List Entry). IsRefusedBy e.kind mine e.request r) (stands.owned e.seat) may in
    subst (λ (r : AuditRule). Breaks setup past e r) licence (right, refused)

pub standing : (old new : Auditor) (e : Entry) (reply : Reply) (answered : Bool) (allowed : Result Unit LicenceRule)
    → ((answered ≡ true) ↔ (reply ≡ e.reply))
    → MatchResult allowed (λ _. Licensed e.kind (noted old.seats e.seat) e.request) (IsRefusedBy e.kind (noted old.seats e.seat) e.request)
    → reply ≡ reply_in old.world e.kind e.request
    → None ≡ rule_of answered allowed
    → new.world.setup ≡ old.world.setup
    → new.world.past ≡ (record { seat = e.seat; kind = e.kind; request = e.request; reply = reply; told = e.told }) ∷ old.world.past
    → IsNoted old.seats new.seats e
    → (setup : Setup) (past : List Entry) → AuditorStands old setup past → AuditorStands new setup (e ∷ past)
standing old new e reply false allowed same may is gives kept put is_noted setup past stands = cc
standing old new e reply true (Err r) same may is gives kept put is_noted setup past stands = cc
standing old new e reply true (Ok u) same may is gives kept put is_noted setup past stands =
    let told : reply ≡ e.reply = same.0 refl in
    let right : HasItsAnswer setup past e = sym told ∙ is ∙ answer_of old setup past e stands in
    let licensed : Licensed e.kind (own e.seat past) e.request = subst (λ (mine : List Entry). Licensed e.kind mine e.request) (stands.owned e.seat) may in
    record {
      begun = kept ∙ stands.begun;
      passed = put ∙ (λ i. (record { seat = e.seat; kind = e.kind; request = e.request; reply = told i; told = e.told }) ∷ stands.passed i);
      owned = own_noted old.seats new.seats e past stands.owned is_noted;
      run = (stands.run, right, licensed);
    }

-- ---- entries in their order

pub next_stands : (a : Auditor) (setup : Setup) (xs : List Entry) (i : ℕ) (d : Entry) → i < length xs
    → AuditorStands a setup (get_or xs i d ∷ reverse (take i xs)) → AuditorStands a setup (reverse (take (i + 1) xs))
next_stands a setup xs i d h stands = subst (λ (past : List Entry). AuditorStands a setup past) (sym (newest_first xs i d h)) stands

pub all_stand : (a : Auditor) (setup : Setup) (xs : List Entry) (i : ℕ) → length xs ≤ i → AuditorStands a setup (reverse (take i xs)) → AuditorStands a setup (reverse xs)
all_stand a setup xs i h stands = subst (λ (ys : List Entry). AuditorStands a setup (reverse ys)) (take_all i xs h) stands
