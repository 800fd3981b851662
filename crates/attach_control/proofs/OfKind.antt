-- What is looked for among objects of one kind alone is found among the objects of that kind as among all.
use Rattle.std.proofs.Common.{refl, ap}
use Rattle.std.specs.Prelude.{if◌then◌else◌, ℕ, ◌≡◌, ◌||◌, List, [], ◌∷◌, Some}
use Rattle.std.specs.List.{list_any}
use Rattle.kube_parts.specs.declared.uid.Uid.{Uid}
use Rattle.kube_parts.specs.declared.parts.Kind.TheVariants as kinds
use Rattle.kube_objects.specs.declared.objects.Claim.{Claim as ClaimData}
use Rattle.kube_objects.specs.declared.objects.Volume.{Volume as VolumeData}
use Rattle.kube_objects.specs.declared.objects.Object.{Object}
use Rattle.kube_objects.specs.declared.objects.Object.TheVariants.{Class, Node, Volume, Claim, Pod}
use Rattle.kube_objects.specs.Keys.{rows_of}
use Rattle.kube_objects.specs.Bindings.{is_uid}
use Rattle.binder_model.specs.Told.{first_some}
use Rattle.attach_law.specs.declared.attachment.Attachment.{Attachment}
use Rattle.attach_law.specs.Attached.{claim_with, volume_with}
use Rattle.attach_law.specs.Next.{ask_for, first_asked, is_used_claim, is_user_on}

pub claim_of_kind : (u : Uid) (rows : List Object) → claim_with u (rows_of kinds.PersistentVolumeClaim rows) ≡ claim_with u rows
claim_of_kind u [] = refl
claim_of_kind u (Claim c ∷ os) = ap (λ x. if is_uid c.meta.uid u then Some c else x) (claim_of_kind u os)
claim_of_kind u (Class x ∷ os) = claim_of_kind u os
claim_of_kind u (Node x ∷ os) = claim_of_kind u os
claim_of_kind u (Volume x ∷ os) = claim_of_kind u os
claim_of_kind u (Pod x ∷ os) = claim_of_kind u os

pub volume_of_kind : (u : Uid) (rows : List Object) → volume_with u (rows_of kinds.PersistentVolume rows) ≡ volume_with u rows
volume_of_kind u [] = refl
volume_of_kind u (Volume v ∷ os) = ap (λ x. if is_uid v.meta.uid u then Some v else x) (volume_of_kind u os)
volume_of_kind u (Class x ∷ os) = volume_of_kind u os
volume_of_kind u (Node x ∷ os) = volume_of_kind u os
volume_of_kind u (Claim x ∷ os) = volume_of_kind u os
volume_of_kind u (Pod x ∷ os) = volume_of_kind u os

pub users_of_kind : (node : List ℕ) (c : ClaimData) (rows : List Object) → list_any (is_user_on node c) (rows_of kinds.Pod rows) ≡ list_any (is_user_on node c) rows
users_of_kind node c [] = refl
users_of_kind node c (Pod p ∷ os) = ap (λ b. is_user_on node c (Pod p) || b) (users_of_kind node c os)
users_of_kind node c (Class x ∷ os) = users_of_kind node c os
users_of_kind node c (Node x ∷ os) = users_of_kind node c os
users_of_kind node c (Volume x ∷ os) = users_of_kind node c os
users_of_kind node c (Claim x ∷ os) = users_of_kind node c os

pub used_of_kind : (all : List Object) (v : VolumeData) (node : List ℕ) (rows : List Object)
    → list_any (is_used_claim all v node) (rows_of kinds.PersistentVolumeClaim rows) ≡ list_any (is_used_claim all v node) rows
used_of_kind all v node [] = refl
used_of_kind all v node (Claim c ∷ os) = ap (λ b. is_used_claim all v node (Claim c) || b) (used_of_kind all v node os)
used_of_kind all v node (Class x ∷ os) = used_of_kind all v node os
used_of_kind all v node (Node x ∷ os) = used_of_kind all v node os
used_of_kind all v node (Volume x ∷ os) = used_of_kind all v node os
used_of_kind all v node (Pod x ∷ os) = used_of_kind all v node os

pub asked_of_kind : (all : List Object) (att : List Attachment) (rows : List Object) → first_asked all att (rows_of kinds.Pod rows) ≡ first_asked all att rows
asked_of_kind all att [] = refl
asked_of_kind all att (Pod p ∷ os) = ap (first_some (ask_for all att (Pod p))) (asked_of_kind all att os)
asked_of_kind all att (Class x ∷ os) = asked_of_kind all att os
asked_of_kind all att (Node x ∷ os) = asked_of_kind all att os
asked_of_kind all att (Volume x ∷ os) = asked_of_kind all att os
asked_of_kind all att (Claim x ∷ os) = asked_of_kind all att os
