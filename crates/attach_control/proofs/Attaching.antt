-- A call that is asked for: whose volume it attaches, and that what it attaches is used.
use Rattle.std.proofs.Common.{sym, refl, ap, subst, ◌∙◌}
use Rattle.std.specs.Prelude.{if◌then◌else◌, not, ◌&&◌, ◌⊎◌, ℕ, ◌≡◌, Bool, true, false, List, Option, Some, None, bytes_eq, is_none}
use Rattle.kube_parts.specs.declared.uid.Uid.{Uid}
use Rattle.kube_objects.specs.declared.key.Key.{Key}
use Rattle.kube_objects.specs.declared.objects.Claim.{Claim as ClaimData}
use Rattle.kube_objects.specs.declared.objects.Pod.{Pod as PodData}
use Rattle.kube_objects.specs.declared.objects.Volume.{Volume as VolumeData}
use Rattle.kube_objects.specs.declared.objects.Object.{Object}
use Rattle.kube_objects.specs.declared.objects.Object.TheVariants.{Volume, Claim, Pod}
use Rattle.kube_objects.specs.Keys.{AreRows, key_of, row_at}
use Rattle.kube_objects.specs.Bindings.{carries, has_name, is_completed, is_scheduled}
use Rattle.kube_objects.proofs.KeyOrder.{row_at_key}
use Rattle.binder_model.specs.Choice.{claim_named}
use Rattle.binder_model.specs.Devices.{rows_on}
use Rattle.binder_model.specs.ObjectKeys.{claim_key, volume_key}
use Rattle.binder_model.specs.World.{World}
use Rattle.model_laws.proofs.Lists.{IsIn, none_some, one}
use Rattle.model_laws.proofs.Readings.{found_stands}
use Rattle.safety_law.proofs.Invariant.Tests.{text_same, uid_same}
use Rattle.attach_law.specs.declared.attachment.Attachment.{Attachment}
use Rattle.attach_law.specs.declared.attachment.AttachAsk.{AttachAsk}
use Rattle.attach_law.specs.declared.attachment.AttachAsk.TheVariants.{Attach}
use Rattle.attach_law.specs.Attached.{is_attached, is_of, own_volume, volume_with}
use Rattle.attach_law.specs.Calls.{AttachRefusal, after_attach, attach_fault, attach_fault_of, attach_new, new_attachment, put_attachment, unless_refused, user_of}
use Rattle.attach_law.specs.Next.{ask_for_claim, ask_for_uid, ask_for_volume, is_idle, is_used, is_used_claim, is_user_on}
use Rattle.attach_law.proofs.ByUid.{UidsOnce, own_stands, row_named, volume_is}
use Rattle.attach_law.proofs.Listed.{any_here, both_true}
use Rattle.attach_law.proofs.Lists.{put_among, put_from, put_there}

-- ---- what is asked

-- the claim is there, its own volume has a UID, and of that volume is asked
pub record IsAskedFor (rows : List Object) (att : List Attachment) (node : List ℕ) (x : Option ClaimData) (ask : AttachAsk) : Type 0 where
  pub claim : ClaimData
  pub there : x ≡ Some claim
  pub own : VolumeData
  pub its : own_volume rows claim ≡ Some own
  pub uid : Uid
  pub has : own.meta.uid ≡ Some uid
  pub call : ask ≡ Attach uid node
  pub apart : is_attached uid node att ≡ false
  pub free : attach_fault rows uid node att ≡ None

pub asked_for : (rows : List Object) (att : List Attachment) (node : List ℕ) (x : Option ClaimData) (ask : AttachAsk) → ask_for_claim rows att node x ≡ Some ask → IsAskedFor rows att node x ask
asked_for rows att node None ask e = none_some e
asked_for rows att node (Some c) ask e = by (is_completed c) e
  where
    uid : (v : VolumeData) → own_volume rows c ≡ Some v → (y : Option Uid) → v.meta.uid ≡ y → ask_for_uid rows att node y ≡ Some ask → IsAskedFor rows att node (Some c) ask
    uid v its None has e = none_some e
    uid v its (Some u) has e = tests (is_attached u node att) (attach_fault rows u node att) refl refl e
      where
        tests : (b : Bool) (f : Option AttachRefusal) → is_attached u node att ≡ b → attach_fault rows u node att ≡ f
            → (if not b && is_none f then Some (Attach u node) else None) ≡ Some ask → IsAskedFor rows att node (Some c) ask
        tests false None s t e = record { claim = c; there = refl; own = v; its = its; uid = u; has = has; call = sym (one (Attach u node) ask e); apart = s; free = t }
        tests false (Some why) s t e = none_some e
        tests true f s t e = none_some e

    volume : (y : Option VolumeData) → own_volume rows c ≡ y → ask_for_volume rows att node y ≡ Some ask → IsAskedFor rows att node (Some c) ask
    volume None its e = none_some e
    volume (Some v) its e = uid v its v.meta.uid refl e

    by : (b : Bool) → (if b then ask_for_volume rows att node (own_volume rows c) else None) ≡ Some ask → IsAskedFor rows att node (Some c) ask
    by true e = volume (own_volume rows c) refl e
    by false e = none_some e

-- ---- what it leaves

-- the volume is there, and its new attachment stands among the others
pub record IsPut (rows : List Object) (u : Uid) (node : List ℕ) (att : List Attachment) : Type 0 where
  pub volume : VolumeData
  pub there : volume_with u rows ≡ Some volume
  pub put : after_attach rows u node att ≡ put_attachment (new_attachment volume u node) att

pub attach_puts : (rows : List Object) (u : Uid) (node : List ℕ) (att : List Attachment) → attach_fault rows u node att ≡ None → is_attached u node att ≡ false → IsPut rows u node att
attach_puts rows u node att free apart = by (volume_with u rows) refl
  where
    by : (x : Option VolumeData) → volume_with u rows ≡ x → IsPut rows u node att
    by None there = none_some (sym free ∙ ap (λ y. attach_fault_of y u node att) there)
    by (Some v) there = record {
      volume = v;
      there = there;
      put =
          ap (λ f. unless_refused f (attach_new (volume_with u rows) u node att) att) free
          ∙ ap (λ y. attach_new y u node att) there
          ∙ ap (λ b. if b then att else put_attachment (new_attachment v u node) att) apart;
    }

module _ (rows : List Object) (u : Uid) (node : List ℕ) (att : List Attachment) (put : IsPut rows u node att) where
  pub grows : (a : Attachment) → IsIn a att → IsIn a (after_attach rows u node att)
  grows a h = subst (IsIn a) (sym put.put) (put_among (new_attachment put.volume u node) att a h)

  -- what stands there is the new one, or stood there
  pub new_or : (a : Attachment) → IsIn a (after_attach rows u node att) → (new_attachment put.volume u node ≡ a) ⊎ IsIn a att
  new_or a h = put_from (new_attachment put.volume u node) att a (subst (IsIn a) put.put h)

  pub is_there : is_attached u node (after_attach rows u node att) ≡ true
  is_there =
      any_here (is_of u node) (after_attach rows u node att) (new_attachment put.volume u node)
      (subst (IsIn (new_attachment put.volume u node)) (sym put.put) (put_there (new_attachment put.volume u node) att))
      (both_true (uid_same u u refl) (text_same node node refl))

-- ---- it is used

module _ (w : World) (order : AreRows w.store.rows) (once : UidsOnce w.store.rows) where
  -- a pod that is there, is scheduled and names the claim uses it, and so the claim's own volume
  pub used_by : (p : PodData) (name : List ℕ) (c : ClaimData) (v : VolumeData) (u : Uid) (a : Attachment) → IsIn (Pod p) w.store.rows → is_scheduled p ≡ true → has_name name p.claims ≡ true
      → claim_named w.store.rows p.meta.namespace name ≡ Some c → own_volume w.store.rows c ≡ Some v → v.meta.uid ≡ Some u → a.volume ≡ u → a.node ≡ p.node → is_idle w a ≡ false
  used_by p name c v u a in_p scheduled named its own has volume node =
      ap (λ b. not b && is_none (user_of w.store.rows a.volume (rows_on a.node w.devices.mounts))) used
    where
      row : row_at (claim_key p.meta.namespace name) w.store.rows ≡ Some (Claim c)
      row = row_named w.store.rows p.meta.namespace name c its

      key : key_of (Claim c) ≡ claim_key p.meta.namespace name
      key = row_at_key (claim_key p.meta.namespace name) (Claim c) w.store.rows row

      stands : (row_at (volume_key c.volume_name) w.store.rows ≡ Some (Volume v)) × (carries v c ≡ true)
      stands = own_stands w.store.rows c v own

      uses_it : is_user_on p.node c (Pod p) ≡ true
      uses_it =
          let space : bytes_eq p.meta.namespace c.meta.namespace ≡ true = text_same p.meta.namespace c.meta.namespace (ap (λ (k : Key). k.namespace) (sym key)) in
          let name_is : has_name c.meta.name p.claims ≡ true = ap (λ n. has_name n p.claims) (ap (λ (k : Key). k.name) key) ∙ named in
          both_true (text_same p.node p.node refl) (both_true (both_true scheduled space) name_is)

      used_claim : is_used_claim w.store.rows v p.node (Claim c) ≡ true
      used_claim = both_true stands.1 (any_here (is_user_on p.node c) w.store.rows (Pod p) in_p uses_it)

      is : volume_with a.volume w.store.rows ≡ Some v
      is = ap (λ x. volume_with x w.store.rows) volume ∙ volume_is w.store.rows order once (volume_key c.volume_name) v u stands.0 has

      used : is_used w.store.rows (volume_with a.volume w.store.rows) a.node ≡ true
      used =
          ap (λ x. is_used w.store.rows x a.node) is ∙ ap (λ n. is_used w.store.rows (Some v) n) node
          ∙ any_here (is_used_claim w.store.rows v p.node) w.store.rows (Claim c) (found_stands (claim_key p.meta.namespace name) (Claim c) w.store.rows row) used_claim
