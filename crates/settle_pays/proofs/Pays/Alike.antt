-- What is left to do does not look at versions, epochs or the count of device calls.
use Rattle.std.proofs.Common.{◌≡◌, ◌∙◌, ℕ, ◌+◌, List, [], ◌∷◌, Option, Some, None, refl, sym, ap}
use Rattle.std.specs.Prelude.{cond, option_map}
use Rattle.kube_parts.specs.declared.uid.Uid.{Uid}
use Rattle.kube_objects.specs.declared.objects.Ref.{Ref}
use Rattle.kube_objects.specs.declared.objects.Claim.{Claim as ClaimData}
use Rattle.kube_objects.specs.declared.objects.Object.{Object}
use Rattle.kube_objects.specs.declared.objects.Object.TheVariants.{Class, Node, Volume, Claim, Pod}
use Rattle.kube_objects.specs.Bindings.{is_completed, is_deleting, is_empty}
use Rattle.kube_objects.specs.Keys.{row_at}
use Rattle.binder_model.specs.Devices.{Devices, has_data}
use Rattle.binder_model.specs.ObjectKeys.{claim_key, volume_key}
use Rattle.binder_model.specs.Provisioning.{data_name}
use Rattle.binder_model.specs.World.{World}
use Rattle.settle_measure.specs.Left.Measure.{
  binding_left,
  completed_left,
  has_class,
  has_offer,
  is_awaited,
  is_held_by,
  left_of,
  left_on,
  object_left,
  offers_claim,
  open_left,
  provision_left,
  seeking_left,
  seeks,
  total,
  unless,
}
use Rattle.settle_writes.specs.Writes.Lasting.{content_of}
use Rattle.settle_alike.specs.Alike.Alike.{AreAlike, contents_of}
use Rattle.settle_alike.proofs.Alike.Binding.{carries_plain}
use Rattle.settle_alike.proofs.Alike.Rows.{any_mapped, plain_claim, row_plain}

seeks_plain : (o : Option Object) → seeks (option_map content_of o) ≡ seeks o
seeks_plain None = refl
seeks_plain (Some (Class x)) = refl
seeks_plain (Some (Node x)) = refl
seeks_plain (Some (Volume x)) = refl
seeks_plain (Some (Claim x)) = refl
seeks_plain (Some (Pod x)) = refl

awaited_plain : (rows : List Object) (r : Option Ref) → is_awaited (contents_of rows) r ≡ is_awaited rows r
awaited_plain rows None = refl
awaited_plain rows (Some r) = ap seeks (row_plain (claim_key r.namespace r.name) rows) ∙ seeks_plain (row_at (claim_key r.namespace r.name) rows)

held_plain : (c : ClaimData) (o : Option Object) → is_held_by (plain_claim c) (option_map content_of o) ≡ is_held_by c o
held_plain c None = refl
held_plain c (Some (Class x)) = refl
held_plain c (Some (Node x)) = refl
held_plain c (Some (Volume v)) = let e = carries_plain v c in rw e refl
held_plain c (Some (Claim x)) = refl
held_plain c (Some (Pod x)) = refl

offers_plain : (c : ClaimData) (o : Object) → offers_claim (plain_claim c) (content_of o) ≡ offers_claim c o
offers_plain c (Class x) = refl
offers_plain c (Node x) = refl
offers_plain c (Volume v) = let e = carries_plain v c in rw e refl
offers_plain c (Claim x) = refl
offers_plain c (Pod x) = refl

completed_plain : (c : ClaimData) (o : Option Object) → completed_left (plain_claim c) (option_map content_of o) ≡ completed_left c o
completed_plain c None = refl
completed_plain c (Some (Class x)) = refl
completed_plain c (Some (Node x)) = refl
completed_plain c (Some (Volume v)) = let e = carries_plain v c in rw e refl
completed_plain c (Some (Claim x)) = refl
completed_plain c (Some (Pod x)) = refl

module _ (rows : List Object) (d : Devices) where
  held_at : (c : ClaimData) (name : List ℕ) → is_held_by (plain_claim c) (row_at (volume_key name) (contents_of rows)) ≡ is_held_by c (row_at (volume_key name) rows)
  held_at c name = ap (is_held_by (plain_claim c)) (row_plain (volume_key name) rows) ∙ held_plain c (row_at (volume_key name) rows)

  provision_plain : (c : ClaimData) (uid : Option Uid) → provision_left (contents_of rows) d (plain_claim c) uid ≡ provision_left rows d c uid
  provision_plain c None = refl
  provision_plain c (Some uid) = let e = held_at c (data_name uid) in λ i. unless (e i) 8 + unless (has_data d (data_name uid)) 1

  seeking_plain : (c : ClaimData) → seeking_left (contents_of rows) d (plain_claim c) ≡ seeking_left rows d c
  seeking_plain c =
      let o : has_offer (contents_of rows) (plain_claim c) ≡ has_offer rows c = any_mapped content_of (offers_claim (plain_claim c)) (offers_claim c) (offers_plain c) rows in
      let p = provision_plain c c.meta.uid in
      λ i. unless (has_class c) 1 + (unless (o i) 4 + p i)

  open_plain : (c : ClaimData) → open_left (contents_of rows) d (plain_claim c) ≡ open_left rows d c
  open_plain c = let s = seeking_plain c in let e = held_at c c.volume_name in λ i. cond (is_empty c.volume_name) (s i) (unless (e i) 4)

  binding_plain : (c : ClaimData) → binding_left (contents_of rows) d (plain_claim c) ≡ binding_left rows d c
  binding_plain c =
      let e = ap (completed_left (plain_claim c)) (row_plain (volume_key c.volume_name) rows) ∙ completed_plain c (row_at (volume_key c.volume_name) rows) in
      let o = open_plain c in
      λ i. cond (is_completed c) (e i) (unless (is_deleting c.meta) (2 + o i))

  object_plain : (o : Object) → object_left (contents_of rows) d (content_of o) ≡ object_left rows d o
  object_plain (Class x) = refl
  object_plain (Node x) = refl
  object_plain (Volume v) = let e = awaited_plain rows v.claim_ref in rw e refl
  object_plain (Claim c) = let e = binding_plain c in rw e refl
  object_plain (Pod p) = refl

  total_plain : (os : List Object) → total (object_left (contents_of rows) d) (contents_of os) ≡ total (object_left rows d) os
  total_plain [] = refl
  total_plain (o ∷ os) = let h = object_plain o in let t = total_plain os in λ i. h i + t i

-- only data and mounts are looked at
same_devices : (rows : List Object) (a b : Devices) → a.stored ≡ b.stored → a.mounts ≡ b.mounts → left_on rows a ≡ left_on rows b
same_devices rows a b stored mounts = λ i. left_on rows (record { stored = stored i; epochs = []; mounts = mounts i; calls = 0 })

pub left_alike : (old new : World) → AreAlike old new → left_of old ≡ left_of new
left_alike old new alike =
    sym (total_plain old.store.rows old.devices old.store.rows)
    ∙ (ap (λ rows. left_on rows old.devices) alike.rows
    ∙ (total_plain new.store.rows old.devices new.store.rows
    ∙ same_devices new.store.rows old.devices new.devices alike.stored alike.mounts))
