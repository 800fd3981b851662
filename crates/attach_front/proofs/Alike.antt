-- What passes is seen of objects without their versions.
use Rattle.std.proofs.Common.{sym, refl, ap, ◌∙◌, true≢false}
use Rattle.std.specs.Prelude.{if◌then◌else◌, ℕ, ◌≡◌, Bool, true, false, List, [], ◌∷◌, Option, Some, None, option_map}
use Rattle.kube_parts.specs.declared.uid.Uid.{Uid}
use Rattle.kube_objects.specs.declared.objects.Claim.{Claim as ClaimData}
use Rattle.kube_objects.specs.declared.objects.Object.{Object}
use Rattle.kube_objects.specs.declared.objects.Object.TheVariants.{Class, Node, Volume, Claim, Pod}
use Rattle.kube_objects.specs.Keys.{row_at}
use Rattle.kube_objects.specs.Bindings.{carries, is_uid}
use Rattle.call_types.specs.declared.request.Request.{Request}
use Rattle.call_types.specs.declared.request.Request.TheVariants as requests
use Rattle.binder_model.specs.ObjectKeys.{volume_key}
use Rattle.settle_writes.specs.Writes.Lasting.{content_of}
use Rattle.settle_alike.specs.Alike.Alike.{contents_of}
use Rattle.settle_alike.proofs.Alike.Rows.{all_same, plain_claim, plain_volume, row_plain}
use Rattle.safety_law.proofs.Invariant.KeptBindings.{carries_on}
use Rattle.attach_law.specs.declared.attachment.Attachment.{Attachment}
use Rattle.attach_law.specs.Attached.{claim_with, is_claim_attached, is_volume_attached, own_in, passes}
use Rattle.attach_front.specs.Front.{MountsAloneAreHeld, WorldsAlikePassAlike}

pub mounts_alone_are_held : MountsAloneAreHeld
mounts_alone_are_held setup att h (requests.Mount node epoch pod claims) other = absurd (true≢false other)
mounts_alone_are_held setup att h request other = refl

claim_plain : (u : Uid) (rows : List Object) → claim_with u (contents_of rows) ≡ option_map plain_claim (claim_with u rows)
claim_plain u [] = refl
claim_plain u (Claim c ∷ os) = by (is_uid c.meta.uid u) (claim_plain u os)
  where
    by : (b : Bool) → claim_with u (contents_of os) ≡ option_map plain_claim (claim_with u os)
        → (if b then Some (plain_claim c) else claim_with u (contents_of os)) ≡ option_map plain_claim (if b then Some c else claim_with u os)
    by true rest = refl
    by false rest = rest
claim_plain u (Class x ∷ os) = claim_plain u os
claim_plain u (Node x ∷ os) = claim_plain u os
claim_plain u (Volume x ∷ os) = claim_plain u os
claim_plain u (Pod x ∷ os) = claim_plain u os

own_plain : (c : ClaimData) (o : Option Object) (node : List ℕ) (att : List Attachment)
    → is_volume_attached (own_in (plain_claim c) (option_map content_of o)) node att ≡ is_volume_attached (own_in c o) node att
own_plain c None node att = refl
own_plain c (Some (Volume v)) node att =
    ap (λ b. is_volume_attached (if b then Some (plain_volume v) else None) node att) (carries_on v c (plain_claim c) refl refl) ∙ by (carries v c)
  where
    by : (b : Bool) → is_volume_attached (if b then Some (plain_volume v) else None) node att ≡ is_volume_attached (if b then Some v else None) node att
    by true = refl
    by false = refl
own_plain c (Some (Class x)) node att = refl
own_plain c (Some (Node x)) node att = refl
own_plain c (Some (Claim x)) node att = refl
own_plain c (Some (Pod x)) node att = refl

attached_plain : (rows : List Object) (c : Option ClaimData) (node : List ℕ) (att : List Attachment)
    → is_claim_attached (contents_of rows) (option_map plain_claim c) node att ≡ is_claim_attached rows c node att
attached_plain rows None node att = refl
attached_plain rows (Some c) node att =
    ap (λ o. is_volume_attached (own_in (plain_claim c) o) node att) (row_plain (volume_key c.volume_name) rows)
    ∙ own_plain c (row_at (volume_key c.volume_name) rows) node att

uid_plain : (rows : List Object) (u : Uid) (node : List ℕ) (att : List Attachment)
    → is_claim_attached (contents_of rows) (claim_with u (contents_of rows)) node att ≡ is_claim_attached rows (claim_with u rows) node att
uid_plain rows u node att = ap (λ x. is_claim_attached (contents_of rows) x node att) (claim_plain u rows) ∙ attached_plain rows (claim_with u rows) node att

passes_plain : (rows : List Object) (att : List Attachment) (request : Request) → passes (contents_of rows) att request ≡ passes rows att request
passes_plain rows att (requests.Mount node epoch pod claims) =
    all_same (λ u. is_claim_attached (contents_of rows) (claim_with u (contents_of rows)) node att) (λ u. is_claim_attached rows (claim_with u rows) node att)
    (λ u. uid_plain rows u node att) claims
passes_plain rows att request = refl

pub worlds_alike_pass_alike : WorldsAlikePassAlike
worlds_alike_pass_alike old new att request alike =
    sym (passes_plain old.store.rows att request) ∙ ap (λ rows. passes rows att request) alike.rows ∙ passes_plain new.store.rows att request
