-- Whether the entries of a seat have one kind is decided, so one rule refuses a request.
use Rattle.std.proofs.Common.{◌≡◌, ℕ, zero, suc, List, [], ◌∷◌, refl, ap, sym, ◌∙◌, inl, inr}
use Rattle.std.specs.Prelude.{◌⊎◌}
use Rattle.std.proofs.lemmas.Bool.{cases_eq}
use Rattle.kube_parts.specs.declared.names.LicenceRule.{LicenceRule}
use Rattle.call_types.specs.declared.entry.Entry.{Entry}
use Rattle.call_types.specs.declared.request.Request.{Request}
use Rattle.call_types.specs.declared.request.SeatKind.{SeatKind}
use Rattle.call_types.specs.declared.request.SeatKind.TheVariants.{User, Binder, Ops, Scheduler, ClaimProtect, VolumeProtect, Agent}
use Rattle.binder_model.specs.Licence.{AreOfKind, IsRefusedBy}

abbrev place : SeatKind → ℕ
place User = 0
place Binder = 1
place Ops = 2
place Scheduler = 3
place ClaimProtect = 4
place VolumeProtect = 5
place Agent = 6

abbrev at_place : ℕ → SeatKind
at_place zero = User
at_place (suc zero) = Binder
at_place (suc (suc zero)) = Ops
at_place (suc (suc (suc zero))) = Scheduler
at_place (suc (suc (suc (suc zero)))) = ClaimProtect
at_place (suc (suc (suc (suc (suc zero))))) = VolumeProtect
at_place (suc (suc (suc (suc (suc (suc n)))))) = Agent

back : (k : SeatKind) → at_place (place k) ≡ k
back User = refl
back Binder = refl
back Ops = refl
back Scheduler = refl
back ClaimProtect = refl
back VolumeProtect = refl
back Agent = refl

same_or_not : (a b : SeatKind) → (a ≡ b) ⊎ (a ≡ b → ⊥)
same_or_not a b = elim (cases_eq (place a) (place b)) [
  | inl same ↦ inl (sym (back a) ∙ ap at_place same ∙ back b)
  | inr other ↦ inr (λ e. other (ap place e))
]

are_or_not : (kind : SeatKind) (mine : List Entry) → AreOfKind kind mine ⊎ (AreOfKind kind mine → ⊥)
are_or_not kind [] = inl tt
are_or_not kind (e ∷ mine) = elim (same_or_not e.kind kind) [
  | inr other ↦ inr (λ are. other are.0)
  | inl same ↦ elim (are_or_not kind mine) [ inl are ↦ inl (same, are) | inr not ↦ inr (λ are. not are.1) ]
]

pub one_rule : (kind : SeatKind) (mine : List Entry) (request : Request) (r s : LicenceRule) → IsRefusedBy kind mine request r → IsRefusedBy kind mine request s → r ≡ s
one_rule kind mine request r s p q = elim (are_or_not kind mine) [
  | inl are ↦ p.row are ∙ sym (q.row are)
  | inr not ↦ p.mixed not ∙ sym (q.mixed not)
]
