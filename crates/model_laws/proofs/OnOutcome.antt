-- A fact of outcomes that holds of every answer passes the refusals that come before it.
use Rattle.std.specs.Prelude.{ℕ, ◌≡◌, Bool, true, false, Option, Some, None}
use Rattle.std.proofs.Common.{refl}
use Rattle.kube_parts.specs.declared.names.Field.{Field}
use Rattle.kube_parts.specs.declared.names.Rule.{Rule}
use Rattle.call_types.specs.declared.reply.Refusal.{Refusal}
use Rattle.call_types.specs.declared.reply.Reply.{Reply}
use Rattle.binder_model.specs.Answers.{Outcome, Says, refuse, refuse_field, refuse_rule, refuse_stale}

pub record OnOutcome (P : Outcome → Type 0) (x : Outcome) : Type 0 where
  pub holds : P x

-- P holds of every answer
abbrev pub OfAnswers : (Outcome → Type 0) → Type 0
OfAnswers P = (reply : Reply) → P (Says reply)

pub says : {P : Outcome → Type 0} → OfAnswers P → (reply : Reply) → OnOutcome P (Says reply)
says s reply = record { holds = s reply }

pub refused_or : {P : Outcome → Type 0} → OfAnswers P → (b : Bool) (r : Refusal) (x : Outcome) → OnOutcome P x → OnOutcome P (refuse b r x)
unfolding refuse
refused_or s true r x k = says s _
refused_or s false r x k = k

pub field_or : {P : Outcome → Type 0} → OfAnswers P → (f : Option Field) (x : Outcome) → (f ≡ None → OnOutcome P x) → OnOutcome P (refuse_field f x)
unfolding refuse_field
field_or s (Some f) x k = says s _
field_or s None x k = k refl

pub rule_or : {P : Outcome → Type 0} → OfAnswers P → (f : Option Rule) (x : Outcome) → OnOutcome P x → OnOutcome P (refuse_rule f x)
unfolding refuse_rule
rule_or s (Some f) x k = says s _
rule_or s None x k = k

pub stale_or : {P : Outcome → Type 0} → OfAnswers P → (f : Option ℕ) (x : Outcome) → OnOutcome P x → OnOutcome P (refuse_stale f x)
unfolding refuse_stale
stale_or s (Some f) x k = says s _
stale_or s None x k = k
