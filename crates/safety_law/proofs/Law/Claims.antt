-- What each row of the licence lets a controller make of a claim, as a step.
use Rattle.std.proofs.Common.{sym, refl, subst, inl, inr, ap, ◌∙◌, true≢false}
use Rattle.std.specs.Prelude.{ℕ, ◌≡◌, true, List, is_some, option_map}
use Rattle.std.proofs.lemmas.Cmp.{nat_list_cmp_total}
use Rattle.plain_data.specs.Pairs.{Pair, value_at, put_pair, without_key}
use Rattle.plain_data.specs.Pairs as pairs
use Rattle.plain_data.proofs.RowLookups.{find-put_other, find-without_other}
use Rattle.kube_parts.specs.declared.parts.Kind.TheVariants as kinds
use Rattle.kube_objects.specs.declared.objects.Meta.{Meta}
use Rattle.kube_objects.specs.declared.objects.Volume.{Volume as VolumeData}
use Rattle.kube_objects.specs.declared.objects.Claim.{Claim as ClaimData}
use Rattle.kube_objects.specs.declared.objects.Object.TheVariants.{Claim}
use Rattle.kube_objects.specs.Keys.{key_of}
use Rattle.kube_objects.specs.Bindings.{is_completed, bind_completed, bound_by_controller, selected_node, pvc_protection, is_empty, is_protected_claim}
use Rattle.call_types.specs.declared.entry.Entry.{Entry}
use Rattle.call_types.specs.declared.setup.Setup.{Setup}
use Rattle.binder_model.specs.BindWrites.{completed_with}
use Rattle.binder_model.specs.BinderLicence.{MayComplete, MayAssignClass, IsBoundFor}
use Rattle.binder_model.specs.GuardLicence.{IsDeletingVersion, TellsUnused, MayUnguardClaim}
use Rattle.binder_model.specs.Licence.{GuardsClaim}
use Rattle.binder_model.specs.OpsLicence.{MayClearNode}
use Rattle.binder_model.specs.SchedulerLicence.{MaySelectNode}
use Rattle.binder_model.specs.Told.{ToldClaim, After, own}
use Rattle.safety_law.specs.Invariant.Was.{ClaimStep}
use Rattle.safety_law.proofs.Invariant.KeptBindings.{carries_on}
use Rattle.safety_law.specs.Invariant.Good.{IsTrue}
use Rattle.safety_law.proofs.Invariant.Known.{told_volume}
use Rattle.safety_law.proofs.Law.Rows.{annotated_guards}
use Rattle.model_laws.proofs.Identity.{placed_same}

-- what an update and a status leave in the store
abbrev pub stored_claim : ClaimData → ClaimData → ℕ → ClaimData
stored_claim o new n = record new {
  phase = o.phase;
  got_modes = o.got_modes;
  got = o.got;
  meta = record new.meta
      { uid = o.meta.uid; version = n; created = o.meta.created; deleted = o.meta.deleted };
}

-- what keeps the mark of completion
pub same_claim : (setup : Setup) (past : List Entry) (o new : ClaimData) → is_completed new ≡ is_completed o
    → is_protected_claim new ≡ is_protected_claim o → ClaimStep setup past o new
same_claim setup past o new same guards = record { completed = λ done. inl (sym same ∙ done); loose = λ none. inl (sym guards ∙ none) }

completed_guards : (o : ClaimData) (v : VolumeData) → is_protected_claim (completed_with o v) ≡ is_protected_claim o
unfolding completed_with
completed_guards o v = annotated_guards pvc_protection (is_empty o.volume_name) bound_by_controller o.meta

completed_key : (o : ClaimData) (v : VolumeData) (n : ℕ) → key_of (Claim (stored_claim o (completed_with o v) n)) ≡ key_of (Claim o)
unfolding completed_with
completed_key o v n =
    let k = placed_same (is_empty o.volume_name) bound_by_controller o.meta in
    λ i. record { kind = kinds.PersistentVolumeClaim; namespace = k.0 i; name = k.1 i }

completed_name : (o : ClaimData) (v : VolumeData) → (completed_with o v).volume_name ≡ v.meta.name
unfolding completed_with
completed_name o v = refl

-- the row Completion
pub complete_step : (setup : Setup) (past mine : List Entry) → IsTrue setup past mine → (o new : ClaimData) (n : ℕ) → MayComplete mine o new
    → ClaimStep setup past o (stored_claim o new n)
complete_step setup past mine true_of o new n row =
    let t = told_volume setup past mine true_of (IsBoundFor o new) row in
    let b : IsBoundFor o new t.0 = t.2 in
    subst (λ (x : ClaimData). ClaimStep setup past o (stored_claim o x n)) (sym b.change) record {
      completed = λ done. inr (record {
        volume = t.0;
        was = t.1;
        bound = b.bound;
        carries = carries_on t.0 o (stored_claim o (completed_with o t.0) n) (completed_key o t.0 n) refl ∙ b.carries;
        names = completed_name o t.0;
      });
      loose = λ none. inl (sym (completed_guards o t.0) ∙ none);
    }

-- the row DefaultClass
pub assign_step : (setup : Setup) (past mine : List Entry) (o new : ClaimData) (n : ℕ) → MayAssignClass mine o new → ClaimStep setup past o (stored_claim o new n)
assign_step setup past mine o new n row = same_claim setup past o (stored_claim o new n) (ap (λ (x : ClaimData). is_completed x) row.change) (ap (λ (x : ClaimData). is_protected_claim x) row.change)

-- the selected node is another annotation

pub select_keeps : (node : List ℕ) (ps : List Pair) → value_at bind_completed (put_pair selected_node node ps) ≡ value_at bind_completed ps
select_keeps node ps = ap (λ x. option_map (λ (p : Pair). p.1) x) (find-put_other nat_list_cmp_total pairs.pair_key bind_completed (selected_node, node) ps refl)

pub clear_keeps : (ps : List Pair) → value_at bind_completed (without_key selected_node ps) ≡ value_at bind_completed ps
clear_keeps ps = ap (λ x. option_map (λ (p : Pair). p.1) x) (find-without_other nat_list_cmp_total pairs.pair_key selected_node bind_completed ps refl)

-- the rows SelectedNode
pub select_step : (setup : Setup) (past mine : List Entry) (o new : ClaimData) (n : ℕ) → MaySelectNode mine o new → ClaimStep setup past o (stored_claim o new n)
select_step setup past mine o new n row =
    same_claim setup past o (stored_claim o new n)
    (ap (λ (x : ClaimData). is_completed x) row.change ∙ ap is_some (select_keeps row.node.meta.name o.meta.annotations)) (ap (λ (x : ClaimData). is_protected_claim x) row.change)

pub clear_step : (setup : Setup) (past mine : List Entry) (o new : ClaimData) (n : ℕ) → MayClearNode mine o new → ClaimStep setup past o (stored_claim o new n)
clear_step setup past mine o new n row =
    same_claim setup past o (stored_claim o new n) (ap (λ (x : ClaimData). is_completed x) row.change ∙ ap is_some (clear_keeps o.meta.annotations))
    (ap (λ (x : ClaimData). is_protected_claim x) row.change)

-- the rows AddGuard and DropClaimGuard
pub guard_claim_step : (setup : Setup) (past : List Entry) (o new : ClaimData) (n : ℕ) → is_protected_claim new ≡ true → GuardsClaim o new
    → ClaimStep setup past o (stored_claim o new n)
guard_claim_step setup past o new n guards row = record {
  completed = λ done. inl (sym (ap (λ (m : Meta). is_some (value_at bind_completed m.annotations)) row.guard.change) ∙ done);
  loose = λ none. absurd (true≢false (sym guards ∙ none));
}

pub unguard_claim_step : (setup : Setup) (past mine : List Entry) (seat : ℕ) → mine ≡ own seat past → (o new : ClaimData) (n : ℕ)
    → MayUnguardClaim mine o new → ClaimStep setup past o (stored_claim o new n)
unguard_claim_step setup past mine seat is_own o new n row = record {
  completed = λ done. inl (sym (ap (λ (x : ClaimData). is_completed x) row.change) ∙ done);
  loose = λ none. inr (record { seat = seat; deleting = row.deleting; unused = subst (After (ToldClaim (IsDeletingVersion o)) (TellsUnused o)) is_own row.unused });
}
