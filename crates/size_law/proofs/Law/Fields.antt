-- What updates keep: bytes, volume modes, the mark of the controller and that of completion.
use Rattle.std.proofs.Common.{sym, refl, ap, ◌∙◌, true≢false, arith}
use Rattle.std.proofs.lemmas.Bool.{and_parts, or_parts, not-false}
use Rattle.std.proofs.lemmas.Bool.Decides.{nat_tests}
use Rattle.std.proofs.lemmas.Cmp.{nat_list_cmp_total}
use Rattle.std.specs.Prelude.{ℕ, ◌≡◌, ◌==◌, Bool, true, false, not, ◌&&◌, ◌||◌, List, Option, Some, None, is_some, is_none, bytes_eq, option_map}
use Rattle.std.specs.Bool.{beq}
use Rattle.plain_data.specs.Pairs.{Pair, value_at, put_pair, without_key}
use Rattle.plain_data.specs.Pairs as pairs
use Rattle.plain_data.proofs.RowLookups.{find-put_other, find-without_other}
use Rattle.kube_parts.specs.declared.uid.Uid.{Uid}
use Rattle.kube_objects.specs.declared.objects.Amount.{Amount}
use Rattle.kube_objects.specs.declared.objects.Meta.{Meta}
use Rattle.kube_objects.specs.declared.objects.Ref.{Ref}
use Rattle.kube_objects.specs.declared.objects.Volume.{Volume as VolumeData}
use Rattle.kube_objects.specs.declared.objects.Claim.{Claim as ClaimData}
use Rattle.kube_objects.specs.declared.objects.Object.{Object}
use Rattle.kube_objects.specs.declared.objects.Object.TheVariants.{Volume, Claim}
use Rattle.kube_objects.specs.Keys.{meta_of}
use Rattle.kube_objects.specs.Bindings.{bind_completed, bound_by_controller, selected_node, yes}
use Rattle.binder_model.specs.BindWrites.{annotated_meta_if}
use Rattle.binder_model.specs.Fields.{update_fault, changed_field, keeps_class, same_claim_spec}
use Rattle.binder_model.specs.Same.{same_option, same_modes, same_amount, same_selector, same_ref}
use Rattle.binder_model.specs.Guard.{annotations_before, clears_released, changes_annotation, has_uid}
use Rattle.safety_law.specs.Invariant.Was.{Refers}
use Rattle.safety_law.proofs.Law.Users.{Passes, same_refs, same_texts}
use Rattle.model_laws.proofs.Identity.{faulty_none}
use Rattle.size_law.specs.Law.Fitting.{is_marked}

-- fields that an update keeps

pub beq_same : (a b : Bool) → beq a b ≡ true → a ≡ b
beq_same true true e = refl
beq_same true false e = absurd (true≢false (sym e))
beq_same false true e = absurd (true≢false (sym e))
beq_same false false e = refl

same_bytes : (a b : Amount) → same_amount a b ≡ true → a.bytes ≡ b.bytes
same_bytes a b e =
    let t : (a.bytes == b.bytes) ≡ true = (and_parts (bytes_eq a.text b.text) (a.bytes == b.bytes) e).1 in
    grind (arith, nat_tests)

pub volume_fixed : (a b : VolumeData) → update_fault (Volume a) (Volume b) ≡ None → (b.amount.bytes ≡ a.amount.bytes) × (b.block ≡ a.block)
unfolding update_fault changed_field
volume_fixed a b e =
    let source = faulty_none _ _ _ e in
    let mode = faulty_none _ _ _ source.1 in
    let amount = faulty_none _ _ _ mode.1 in
    (sym (same_bytes a.amount b.amount (not-false _ amount.0)), sym (beq_same a.block b.block (not-false _ mode.0)))

pub claim_fixed : (a b : ClaimData) → update_fault (Claim a) (Claim b) ≡ None → (b.amount.bytes ≡ a.amount.bytes) × (b.block ≡ a.block)
unfolding update_fault changed_field
claim_fixed a b e =
    let spec = and_parts (same_claim_spec a b) (keeps_class a b) (not-false _ (faulty_none _ _ _ e).0) in
    let selectors = and_parts (same_modes a.modes b.modes && same_amount a.amount b.amount && beq a.block b.block && same_option same_selector
    a.selector b.selector) (bytes_eq a.extra b.extra) spec.0 in
    let blocks = and_parts (same_modes a.modes b.modes && same_amount a.amount b.amount && beq a.block b.block) (same_option same_selector a.selector b.selector) selectors.0 in
    let sizes = and_parts (same_modes a.modes b.modes && same_amount a.amount b.amount) (beq a.block b.block) blocks.0 in
    let amounts = and_parts (same_modes a.modes b.modes) (same_amount a.amount b.amount) sizes.0 in
    (sym (same_bytes a.amount b.amount amounts.1), sym (beq_same a.block b.block sizes.1))

-- another annotation leaves the mark

pub completion_leaves_mark : (ps : List Pair) → value_at bound_by_controller (put_pair bind_completed yes ps) ≡ value_at bound_by_controller ps
completion_leaves_mark ps = ap (λ x. option_map (λ (p : Pair). p.1) x) (find-put_other nat_list_cmp_total pairs.pair_key bound_by_controller (bind_completed, yes) ps refl)

pub select_leaves_mark : (node : List ℕ) (ps : List Pair) → value_at bound_by_controller (put_pair selected_node node ps) ≡ value_at bound_by_controller ps
select_leaves_mark node ps = ap (λ x. option_map (λ (p : Pair). p.1) x) (find-put_other nat_list_cmp_total pairs.pair_key bound_by_controller (selected_node, node) ps refl)

pub clear_leaves_mark : (ps : List Pair) → value_at bound_by_controller (without_key selected_node ps) ≡ value_at bound_by_controller ps
clear_leaves_mark ps = ap (λ x. option_map (λ (p : Pair). p.1) x) (find-without_other nat_list_cmp_total pairs.pair_key selected_node bound_by_controller ps refl)

-- a volume that had a reference is not marked anew
pub taken_marks : (x : Option Ref) (m : Meta) → is_some x ≡ true → is_marked (annotated_meta_if (is_none x) bound_by_controller m) ≡ is_marked m
taken_marks None m e = absurd (true≢false (sym e))
taken_marks (Some r) m e = refl

-- what the guard leaves of a user's write

-- where no reference is cleared, the mark stays as it is
pub mark_same : (old : Option Object) (new : Object) → clears_released old new ≡ false → Passes old new
    → value_at bound_by_controller (annotations_before old) ≡ value_at bound_by_controller (meta_of new).annotations
mark_same old new kept p = same_texts _ _ (not-false _ (by (changes_annotation old new bound_by_controller) (clears_released old new) kept (or_parts _ _ p.annotation).1))
  where
    by : (changes clears : Bool) → clears ≡ false → (changes && not (clears && is_none (value_at bound_by_controller (meta_of new).annotations))) ≡ false → changes ≡ false
    by false clears c e = refl
    by true false c e = absurd (true≢false e)
    by true true c e = absurd (true≢false c)

-- a reference with a UID that stands after a user's write stood before it, and the write did not clear it
pub record IsKept (old new : VolumeData) : Type 0 where
  pub reference : old.claim_ref ≡ new.claim_ref
  pub clears : clears_released (Some (Volume old)) (Volume new) ≡ false

none_false : (a : Bool) (x : Option Ref) (r : Ref) → x ≡ Some r → (a && is_none x) ≡ false
none_false true x r is = ap is_none is
none_false false x r is = refl

pub user_keeps : (o new : VolumeData) (r : Ref) (uid : Uid) → Passes (Some (Volume o)) (Volume new) → Refers new r uid → IsKept o new
user_keeps o new r uid p h =
    let clears : clears_released (Some (Volume o)) (Volume new) ≡ false = none_false _ new.claim_ref r h.is in
    let given : has_uid new.claim_ref ≡ true = ap has_uid h.is ∙ ap is_some h.known in
    record {
      reference = same_refs _ _ (by (same_option same_ref o.claim_ref new.claim_ref) (has_uid o.claim_ref) (has_uid new.claim_ref)
          (clears_released (Some (Volume o)) (Volume new)) given clears p.reference);
      clears = clears;
    }
  where
    by : (same before after clears : Bool) → after ≡ true → clears ≡ false → (not same && (before || after) && not clears) ≡ false → same ≡ true
    by true before after clears a c e = refl
    by false before after true a c e = absurd (true≢false c)
    by false true after false a c e = absurd (true≢false e)
    by false false true false a c e = absurd (true≢false e)
    by false false false false a c e = absurd (true≢false (sym a))
