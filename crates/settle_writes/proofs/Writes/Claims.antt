-- Each write of a claim as it stands is done, and lasts.
use Rattle.std.proofs.Common.{◌≡◌, ◌≢◌, ◌∙◌, ◌⊎◌, ℕ, ◌+◌, List, [], ◌∷◌, ◌++◌, Bool, true, false, true≢false, Option, Some, inl, inr, refl, sym, ap, arith, length}
use Rattle.std.specs.Prelude.{◌&&◌, ◌||◌, bytes_eq, cond, not, is_none, is_some, option_map}
use Rattle.std.specs.List.{list_any}
use Rattle.std.specs.Ordering.{is_eq}
use Rattle.std.proofs.lemmas.Bool.{and_parts, and_right}
use Rattle.std.proofs.lemmas.Cmp.{nat_list_cmp_total}
use Rattle.std.proofs.lemmas.Slice.Eq.{bytes_eq-Decides}
use Rattle.plain_data.specs.Rows.{find}
use Rattle.plain_data.specs.Pairs.{Pair, pair_key, put_pair, text_cmp, value_at, without_key}
use Rattle.plain_data.proofs.RowLookups.{find-put}
use Rattle.kube_parts.specs.declared.parts.ClaimPhase.{ClaimPhase}
use Rattle.kube_parts.specs.declared.parts.ClaimPhase.TheVariants as claims
use Rattle.kube_parts.specs.declared.parts.Modes.{Modes}
use Rattle.kube_objects.specs.declared.objects.Amount.{Amount}
use Rattle.kube_objects.specs.declared.objects.Meta.{Meta}
use Rattle.kube_objects.specs.declared.objects.Claim.{Claim as ClaimData}
use Rattle.kube_objects.specs.declared.objects.Object.{Object}
use Rattle.kube_objects.specs.declared.objects.Object.TheVariants.{Claim}
use Rattle.kube_objects.specs.Bindings.{
  beta_class,
  bind_completed,
  bound_by_controller,
  has_key,
  has_name,
  is_completed,
  is_deleting,
  is_empty,
  is_lost,
  is_protected_claim,
  pvc_protection,
  selected_node,
  yes,
  uses,
}
use Rattle.kube_objects.specs.Keys.{key_of, meta_of, row_at}
use Rattle.call_types.specs.declared.request.NewStatus.TheVariants as statuses
use Rattle.call_types.specs.declared.request.Request.TheVariants.{UpdateStatus}
use Rattle.call_types.specs.declared.request.SeatKind.{SeatKind}
use Rattle.call_types.specs.declared.setup.Setup.{Setup}
use Rattle.binder_model.specs.Answers.{is_user, with_status}
use Rattle.binder_model.specs.BindWrites.{annotated_meta, annotated_meta_if, completed_with, shows_bound}
use Rattle.binder_model.specs.Fields.{adds_finalizer, has_twice, keeps_class, may_get_class}
use Rattle.binder_model.specs.GuardLicence.{guarded_meta, unguarded_meta}
use Rattle.binder_model.specs.ObjectKeys.{claim_key}
use Rattle.binder_model.specs.Same.{same_amount, same_modes, same_option}
use Rattle.binder_model.specs.Store.{at_version, updated_object, with_meta, with_status_of}
use Rattle.binder_model.specs.World.{World}
use Rattle.field_rules.proofs.Equalities.{same_amount-Decides, same_modes-Decides}
use Rattle.settle_writes.specs.Writes.Lasting.{Lasts, content_of}
use Rattle.settle_writes.specs.Writes.Writes.{ClaimGuardLasts, ClaimUnguardLasts, ClassLasts, ClearLasts, CompletionLasts, IsStored, LostLasts, NodeLasts, StatusLasts, update_claim}
use Rattle.settle_writes.proofs.Writes.Fitting.{adds_none, claim_facts, claim_fits, class_kept, drops_add_none, drops_once}
use Rattle.settle_writes.proofs.Writes.Making.{status_lasts, update_lasts}
use Rattle.settle_writes.proofs.Writes.Valid.{twice_last}
use Rattle.settle_writes.proofs.Writes.Volumes.{guard_lacks, unguard_has}
use Rattle.model_laws.proofs.FinalizerNames.{without_lacks as dropped}
use Rattle.model_laws.proofs.FinalizerNames.{has_appended as last_there}
use Rattle.plain_data.proofs.PairValues.{value_put}

abbrev claim_in : ClaimData → Object → ClaimData
claim_in c (Claim x) = x
claim_in c o = c

-- a volume's name that stays
named_alike : (name : List ℕ) → (not (is_empty name) && not (bytes_eq name name)) ≡ false
named_alike name = let e : bytes_eq name name ≡ true = (bytes_eq-Decides name name).1 refl in rw e (and_right (not (is_empty name)) false refl)

module _ (setup : Setup) (w : World) (kind : SeatKind) (controller : is_user kind ≡ false) (c : ClaimData) (s : IsStored w (Claim c)) where
  -- an update of metadata, of the volume's name and of the class alone
  updates : (m : Meta) (name : List ℕ) (class : Option (List ℕ)) → m.name ≡ c.meta.name → m.namespace ≡ c.meta.namespace
      → keeps_class c (record c { meta = m; volume_name = name; class = class }) ≡ true → (not (is_empty c.volume_name) && not (bytes_eq c.volume_name name)) ≡ false → has_twice m.finalizers ≡ false
      → (is_deleting c.meta && adds_finalizer c.meta.finalizers m.finalizers) ≡ false
      → content_of (Claim c) ≢ content_of (updated_object (Claim c) (Claim (record c { meta = m; volume_name = name; class = class })) (w.store.version + 1))
      → Lasts setup w kind (update_claim c (record c { meta = m; volume_name = name; class = class }))
  unfolding updated_object with_meta with_status_of
  updates m name class named placed keeps names once adds differs =
      let key : key_of (Claim (record c { meta = m; volume_name = name; class = class })) ≡ key_of (Claim c) = rw (named, placed) refl in
      update_lasts setup w kind controller (Claim c) (Claim (record c { meta = m; volume_name = name; class = class })) (ap (λ k. row_at k w.store.rows) key ∙ s.there)
      (claim_fits c m name class s.valid named placed keeps names once adds) refl differs

  -- of metadata alone, with the finalizers as they were
  annotates : (m : Meta) → m.name ≡ c.meta.name → m.namespace ≡ c.meta.namespace → m.finalizers ≡ c.meta.finalizers
      → content_of (Claim c) ≢ content_of (updated_object (Claim c) (Claim (record c { meta = m })) (w.store.version + 1))
      → Lasts setup w kind (update_claim c (record c { meta = m }))
  annotates m named placed same differs =
      updates m c.volume_name c.class named placed (class_kept c m c.volume_name) (named_alike c.volume_name)
      (ap has_twice same ∙ (claim_facts c s.valid).once) (and_right (is_deleting c.meta) _ (ap (adds_finalizer c.meta.finalizers) same ∙ adds_none c.meta.finalizers)) differs

  status_is : (phase : ClaimPhase) (modes : Modes) (amount : Option Amount)
      → content_of (Claim c) ≢ content_of (at_version (Claim (record c { phase = phase; got_modes = modes; got = amount })) (w.store.version + 1))
      → Lasts setup w kind (UpdateStatus (claim_key c.meta.namespace c.meta.name) (statuses.Claim phase modes amount) (Some c.meta.version))
  unfolding with_status at_version with_meta
  status_is phase modes amount differs =
      status_lasts setup w kind controller (Claim c) (claim_key c.meta.namespace c.meta.name) (statuses.Claim phase modes amount)
      (Claim (record c { phase = phase; got_modes = modes; got = amount })) s.there refl refl differs

-- status

pub status_is_lasting : StatusLasts
unfolding at_version with_meta
status_is_lasting setup w kind v c controller s shows =
    status_is setup w kind controller c s claims.Bound v.modes (Some v.amount) (λ e. true≢false (sym (ap (λ o. shows_bound (claim_in c o) v) e ∙ shown) ∙ shows))
  where
    shown : shows_bound (record c { phase = claims.Bound; got_modes = v.modes; got = Some v.amount }) v ≡ true
    shown =
        let a : same_modes v.modes v.modes ≡ true = (same_modes-Decides v.modes v.modes).1 refl in
        let b : same_amount v.amount v.amount ≡ true = (same_amount-Decides v.amount v.amount).1 refl in
        rw (a, b) refl

pub lost_lasts : LostLasts
unfolding at_version with_meta
lost_lasts setup w kind c modes amount controller s lost = status_is setup w kind controller c s claims.Lost modes amount (λ e. true≢false (sym (ap (λ o. is_lost (claim_in c o).phase) e) ∙ lost))

-- the third write

key_there : (k v : List ℕ) (ps : List Pair) → has_key k (put_pair k v ps) ≡ true
key_there k v ps = ap is_some (ap (option_map (λ (p : Pair). p.1)) (find-put nat_list_cmp_total pair_key (k, v) ps))

abbrev completes : ClaimData → Object → Bool
completes c o = is_completed (claim_in c o)

pub completion_lasts : CompletionLasts
unfolding completed_with updated_object with_meta with_status_of
completion_lasts setup w kind v c controller s open_ names = by (is_empty c.volume_name)
  where
    allowed : (name : List ℕ) → (is_empty name ≡ true) ⊎ (name ≡ v.meta.name) → (not (is_empty name) && not (bytes_eq name v.meta.name)) ≡ false
    allowed name (inl empty) = rw empty refl
    allowed name (inr same) = let e : bytes_eq name v.meta.name ≡ true = (bytes_eq-Decides name v.meta.name).1 same in rw e (and_right (not (is_empty name)) false refl)

    by : (b : Bool) → Lasts setup w kind (update_claim c (record c { volume_name = v.meta.name; meta = annotated_meta bind_completed (annotated_meta_if b bound_by_controller c.meta) }))
    by true = updates setup w kind controller c s
        (annotated_meta bind_completed (annotated_meta bound_by_controller c.meta)) v.meta.name c.class refl refl
        (class_kept c (annotated_meta bind_completed (annotated_meta bound_by_controller c.meta)) v.meta.name) (allowed c.volume_name names) (claim_facts c s.valid).once
        (and_right (is_deleting c.meta) _ (adds_none c.meta.finalizers))
        (λ e. true≢false (sym (ap (completes c) e ∙ key_there bind_completed yes (annotated_meta bound_by_controller c.meta).annotations) ∙ open_))
    by false = updates setup w kind controller c s (annotated_meta bind_completed c.meta) v.meta.name c.class refl refl
        (class_kept c (annotated_meta bind_completed c.meta) v.meta.name) (allowed c.volume_name names) (claim_facts c s.valid).once
        (and_right (is_deleting c.meta) _ (adds_none c.meta.finalizers)) (λ e. true≢false (sym (ap (completes c) e ∙ key_there bind_completed yes c.meta.annotations) ∙ open_))

-- the class

abbrev has_class_in : ClaimData → Object → Bool
has_class_in c o = is_none (claim_in c o).class

pub class_lasts : ClassLasts
unfolding updated_object with_meta with_status_of
class_lasts setup w kind c class controller s lacks open_ =
    let p = and_parts (is_none c.class) (not (has_key beta_class c.meta.annotations)) lacks in
    updates setup w kind controller c s c.meta c.volume_name (Some class) refl refl keeps (named_alike c.volume_name) (claim_facts c s.valid).once
    (and_right (is_deleting c.meta) _ (adds_none c.meta.finalizers)) (λ e. true≢false (sym p.0 ∙ ap (has_class_in c) e))
  where
    keeps : keeps_class c (record c { class = Some class }) ≡ true
    keeps = or_right (same_option bytes_eq c.class (Some class)) (may_get_class c) (rw (lacks, open_) refl)
      where
        or_right : (a b : Bool) → b ≡ true → (a || b) ≡ true
        or_right true b e = refl
        or_right false b e = e

-- the node

abbrev node_in : ClaimData → Object → Option (List ℕ)
node_in c o = value_at selected_node (claim_in c o).meta.annotations

pub node_lasts : NodeLasts
unfolding updated_object with_meta with_status_of
node_lasts setup w kind c node controller s differs =
    annotates setup w kind controller c s (record c.meta { annotations = put_pair selected_node node c.meta.annotations }) refl refl refl
    (λ e. differs (ap (node_in c) e ∙ value_put selected_node node c.meta.annotations))

-- protection

pub claim_guard_lasts : ClaimGuardLasts
unfolding updated_object with_meta with_status_of
claim_guard_lasts setup w kind c controller s due =
    let l = guard_lacks (is_deleting c.meta) (is_protected_claim c) (list_any (uses c) w.store.rows) due in
    updates setup w kind controller c s (guarded_meta pvc_protection c.meta) c.volume_name c.class refl refl
    (class_kept c (guarded_meta pvc_protection c.meta) c.volume_name) (named_alike c.volume_name)
    (twice_last pvc_protection c.meta.finalizers l.1 ∙ (claim_facts c s.valid).once) (ap (λ b. b && adds_finalizer c.meta.finalizers (c.meta.finalizers ++ pvc_protection ∷ [])) l.0)
    (λ e. true≢false (sym (ap (λ (o : Object). has_name pvc_protection (meta_of o).finalizers) e ∙ last_there pvc_protection c.meta.finalizers) ∙ l.1))

pub claim_unguard_lasts : ClaimUnguardLasts
unfolding updated_object with_meta with_status_of
claim_unguard_lasts setup w kind c controller s due =
    let l = unguard_has (is_deleting c.meta) (is_protected_claim c) (list_any (uses c) w.store.rows) due in
    updates setup w kind controller c s (unguarded_meta pvc_protection c.meta) c.volume_name c.class refl refl
    (class_kept c (unguarded_meta pvc_protection c.meta) c.volume_name) (named_alike c.volume_name)
    (drops_once pvc_protection c.meta.finalizers (claim_facts c s.valid).once) (and_right (is_deleting c.meta) _ (drops_add_none pvc_protection c.meta.finalizers))
    (λ e. true≢false (sym l.1 ∙ ap (λ (o : Object). has_name pvc_protection (meta_of o).finalizers) e ∙ dropped pvc_protection c.meta.finalizers))

-- a key that is there goes

one_fewer : (k : List ℕ) (ps : List Pair) → has_key k ps ≡ true → length (without_key k ps) + 1 ≡ length ps
one_fewer k [] e = absurd (true≢false (sym e))
one_fewer k (p ∷ ps) e = by (is_eq (text_cmp (pair_key p) k)) e (one_fewer k ps)
  where
    by : (b : Bool) → is_some (option_map (λ (q : Pair). q.1) (cond b (Some p) (find text_cmp pair_key k ps))) ≡ true → (has_key k ps ≡ true → length (without_key k ps) + 1 ≡ length ps)
        → length (cond b ps (p ∷ without_key k ps)) + 1 ≡ length (p ∷ ps)
    by true e rest = omega arith
    by false e rest = let h = rest e in omega (arith, h)

abbrev annotations_in : ClaimData → Object → ℕ
annotations_in c o = length (claim_in c o).meta.annotations

pub clear_lasts : ClearLasts
unfolding updated_object with_meta with_status_of
clear_lasts setup w kind c controller s has =
    annotates setup w kind controller c s (record c.meta { annotations = without_key selected_node c.meta.annotations }) refl refl refl
    (λ e. let fewer = one_fewer selected_node c.meta.annotations has in let same = ap (annotations_in c) e in omega (arith, fewer, same))
