-- What the binder, the protection controllers and ops have to do does not look at versions.
use Rattle.std.proofs.Common.{◌≡◌, ◌∙◌, ℕ, List, Bool, true, false, Option, Some, None, refl, sym, ap, if◌then◌else◌}
use Rattle.std.specs.Prelude.{◌&&◌, ◌||◌, not, is_none, is_some, option_map}
use Rattle.kube_parts.specs.declared.uid.Uid.{Uid}
use Rattle.kube_parts.specs.declared.names.Due.TheVariants as dues
use Rattle.kube_objects.specs.declared.objects.Ref.{Ref}
use Rattle.kube_objects.specs.declared.objects.Claim.{Claim as ClaimData}
use Rattle.kube_objects.specs.declared.objects.Volume.{Volume as VolumeData}
use Rattle.kube_objects.specs.declared.objects.Object.{Object}
use Rattle.kube_objects.specs.declared.objects.Object.TheVariants.{Class, Node, Volume, Claim, Pod}
use Rattle.kube_objects.specs.Bindings.{
  carries,
  class_of_claim,
  is_available,
  is_bound,
  is_completed,
  is_deleting,
  is_empty,
  is_ended,
  is_for,
  is_protected_claim,
  is_protected_volume,
  is_uid,
  lacks_class,
  names_claim,
  ref_uid,
  refers_carrying,
  refers_for,
  uid_carries,
  uid_fits,
  uses,
}
use Rattle.kube_objects.specs.Keys.{row_at}
use Rattle.binder_model.specs.BinderDue.{claim_due, claim_with, completed_due, has_other_uid, is_default_row, is_uid_of_other, lost_due, named_due, reference_due, referred_due, uid_due, volume_due}
use Rattle.binder_model.specs.BindWrites.{claim_write, is_completed_with, next_write, shows_bound, write_bound, write_claim_status, write_completion, write_reference}
use Rattle.binder_model.specs.Due.{claim_guard_due, guard_due}
use Rattle.binder_model.specs.Matching.{binder_takes, eligible, fits, has_match, is_delayed, is_selected, only_own_passes, waits_for_pod}
use Rattle.binder_model.specs.ObjectKeys.{claim_key, class_key, volume_key}
use Rattle.settle_writes.specs.Writes.Lasting.{content_of}
use Rattle.settle_alike.specs.Alike.Alike.{contents_of}
use Rattle.settle_alike.proofs.Alike.Rows.{any_mapped, plain_claim, plain_volume, row_plain}

-- references see names and UIDs

uid_carries_plain : (u : Option Uid) (c : ClaimData) → uid_carries u (plain_claim c) ≡ uid_carries u c
uid_carries_plain None c = refl
uid_carries_plain (Some u) c = refl

pub carries_plain : (v : VolumeData) (c : ClaimData) → carries (plain_volume v) (plain_claim c) ≡ carries v c
carries_plain v c = by v.claim_ref
  where
    by : (r : Option Ref) → refers_carrying r (plain_claim c) ≡ refers_carrying r c
    by None = refl
    by (Some r) = ap (λ b. names_claim r c && b) (uid_carries_plain r.uid c)

uid_fits_plain : (u : Option Uid) (c : ClaimData) → uid_fits u (plain_claim c) ≡ uid_fits u c
uid_fits_plain None c = refl
uid_fits_plain (Some u) c = refl

pub for_plain : (v : VolumeData) (c : ClaimData) → is_for (plain_volume v) (plain_claim c) ≡ is_for v c
for_plain v c = by v.claim_ref
  where
    by : (r : Option Ref) → refers_for r (plain_claim c) ≡ refers_for r c
    by None = refl
    by (Some r) = ap (λ b. names_claim r c && b) (uid_fits_plain r.uid c)

other_uid_plain : (v : VolumeData) (c : ClaimData) → has_other_uid (plain_volume v) (plain_claim c) ≡ has_other_uid v c
other_uid_plain v c = by (ref_uid v.claim_ref)
  where
    by : (u : Option Uid) → is_uid_of_other u (plain_claim c) ≡ is_uid_of_other u c
    by None = refl
    by (Some u) = refl

pub own_plain : (b : Bool) (v : VolumeData) (c : ClaimData) → only_own_passes b (plain_volume v) (plain_claim c) ≡ only_own_passes b v c
own_plain true v c = for_plain v c
own_plain false v c = refl

pub eligible_plain : (v : VolumeData) (c : ClaimData) → eligible (plain_volume v) (plain_claim c) None ≡ eligible v c None
eligible_plain v c = ap (λ b. not (is_deleting v.meta) && is_protected_volume v && fits v c && is_selected c.selector v.meta.labels && true &&
    ((b && not (is_ended v.phase)) || (is_available v.phase && is_none v.claim_ref))) (for_plain v c)

-- a volume

referred_plain : (v : VolumeData) (uid : Uid) (x : Option Object) → referred_due (plain_volume v) (claim_with uid (option_map content_of x)) ≡ referred_due v (claim_with uid x)
unfolding referred_due claim_with
referred_plain v uid None = refl
referred_plain v uid (Some (Class x)) = refl
referred_plain v uid (Some (Node x)) = refl
referred_plain v uid (Some (Volume x)) = refl
referred_plain v uid (Some (Pod x)) = refl
referred_plain v uid (Some (Claim c)) = by (is_uid c.meta.uid uid)
  where
    by : (b : Bool) → referred_due (plain_volume v) (if b then Some (plain_claim c) else None) ≡ referred_due v (if b then Some c else None)
    by true = refl
    by false = refl

pub volume_due_plain : (rows : List Object) (v : VolumeData) → volume_due (contents_of rows) (plain_volume v) ≡ volume_due rows v
unfolding volume_due reference_due
volume_due_plain rows v = by v.claim_ref
  where
    by_uid : (r : Ref) (u : Option Uid) → uid_due (contents_of rows) (plain_volume v) r u ≡ uid_due rows v r u
    by_uid r None = refl
    by_uid r (Some uid) = ap (λ x. if is_ended v.phase then None else x) (ap (λ x. referred_due (plain_volume v) (claim_with uid x))
        (row_plain (claim_key r.namespace r.name) rows) ∙ referred_plain v uid (row_at (claim_key r.namespace r.name) rows))

    by : (r : Option Ref) → reference_due (contents_of rows) (plain_volume v) r ≡ reference_due rows v r
    by None = refl
    by (Some r) = by_uid r r.uid

-- a claim

some_if : {X : Type 0} (b : Bool) (x y : Option X) → is_some (if b then x else y) ≡ (if b then is_some x else is_some y)
some_if true x y = refl
some_if false x y = refl

-- whether there is a next write
abbrev is_left : Bool → Bool → Bool → Bool → Bool → Bool → Bool
is_left carrying ended bound guarded completed shown =
    if not carrying then (if ended then false else true)
    else if not bound then (if ended || not guarded then false else true)
    else if not completed then true
    else if not shown then true
    else false

next_is : (v : VolumeData) (c : ClaimData) → is_some (next_write v c) ≡ is_left (carries v c) (is_ended v.phase) (is_bound v.phase) (is_protected_volume v) (is_completed_with c v) (shows_bound c v)
unfolding next_write claim_write
next_is v c = by (carries v c) (is_ended v.phase) (is_bound v.phase) (is_protected_volume v) (is_completed_with c v) (shows_bound c v)
  where
    by : (carrying ended bound guarded completed shown : Bool)
        → is_some (if not carrying then (if ended then None else Some (write_reference v c)) else if not bound then (if ended || not guarded then None else Some (write_bound v))
        else if not completed then Some (write_completion v c) else if not shown then Some (write_claim_status v c) else None)
        ≡ is_left carrying ended bound guarded completed shown
    by false true bound guarded completed shown = refl
    by false false bound guarded completed shown = refl
    by true true false guarded completed shown = refl
    by true false false true completed shown = refl
    by true false false false completed shown = refl
    by true ended true guarded false shown = refl
    by true ended true guarded true false = refl
    by true ended true guarded true true = refl

next_plain : (v : VolumeData) (c : ClaimData) → is_some (next_write (plain_volume v) (plain_claim c)) ≡ is_some (next_write v c)
next_plain v c =
    next_is (plain_volume v) (plain_claim c)
    ∙ (ap (λ b. is_left b (is_ended v.phase) (is_bound v.phase) (is_protected_volume v) (is_completed_with c v) (shows_bound c v)) (carries_plain v c) ∙ sym (next_is v c))

completed_plain : (c : ClaimData) (x : Option Object) → completed_due (plain_claim c) (option_map content_of x) ≡ completed_due c x
unfolding completed_due
completed_plain c None = refl
completed_plain c (Some (Class x)) = refl
completed_plain c (Some (Node x)) = refl
completed_plain c (Some (Claim x)) = refl
completed_plain c (Some (Pod x)) = refl
completed_plain c (Some (Volume v)) =
    let other = other_uid_plain v c in
    let carried = carries_plain v c in
    let next = next_plain v c in
    λ i. if other i then lost_due c else if (is_none v.claim_ref || carried i) && next i then Some dues.Bind else None

named_due_plain : (c : ClaimData) (x : Option Object) → named_due (plain_claim c) (option_map content_of x) ≡ named_due c x
unfolding named_due
named_due_plain c None = refl
named_due_plain c (Some (Class x)) = refl
named_due_plain c (Some (Node x)) = refl
named_due_plain c (Some (Claim x)) = refl
named_due_plain c (Some (Pod x)) = refl
named_due_plain c (Some (Volume v)) =
    ap (λ b. if is_deleting v.meta || not (is_protected_volume v) || is_ended v.phase then None else if is_none v.claim_ref then
    (if fits v c then Some dues.Bind else None) else if b then Some dues.Bind else None) (for_plain v c)

delayed_plain : (x : Option Object) → is_delayed (option_map content_of x) ≡ is_delayed x
delayed_plain None = refl
delayed_plain (Some (Class x)) = refl
delayed_plain (Some (Node x)) = refl
delayed_plain (Some (Volume x)) = refl
delayed_plain (Some (Claim x)) = refl
delayed_plain (Some (Pod x)) = refl

-- whether the class under a key is a delayed one
pub delayed_at : (rows : List Object) (name : List ℕ) → is_delayed (row_at (class_key name) (contents_of rows)) ≡ is_delayed (row_at (class_key name) rows)
delayed_at rows name = ap is_delayed (row_plain (class_key name) rows) ∙ delayed_plain (row_at (class_key name) rows)

takes_plain : (rows : List Object) (c : ClaimData) (o : Object) → binder_takes (contents_of rows) (plain_claim c) (content_of o) ≡ binder_takes rows c o
takes_plain rows c (Class x) = refl
takes_plain rows c (Node x) = refl
takes_plain rows c (Claim x) = refl
takes_plain rows c (Pod x) = refl
takes_plain rows c (Volume v) =
    let fit = eligible_plain v c in
    let own = ap (λ b. only_own_passes b (plain_volume v) (plain_claim c)) (delayed_at rows (class_of_claim c)) ∙ own_plain (waits_for_pod rows c) v c in
    λ i. fit i && own i

pub match_plain : (rows : List Object) (c : ClaimData) → has_match (contents_of rows) (plain_claim c) ≡ has_match rows c
match_plain rows c = any_mapped content_of (binder_takes (contents_of rows) (plain_claim c)) (binder_takes rows c) (takes_plain rows c) rows

default_plain : (o : Object) → is_default_row (content_of o) ≡ is_default_row o
default_plain (Class x) = refl
default_plain (Node x) = refl
default_plain (Volume x) = refl
default_plain (Claim x) = refl
default_plain (Pod x) = refl

pub claim_due_plain : (rows : List Object) (c : ClaimData) → claim_due (contents_of rows) (plain_claim c) ≡ claim_due rows c
unfolding claim_due
claim_due_plain rows c =
    let done = ap (completed_due (plain_claim c)) (row_plain (volume_key c.volume_name) rows) ∙ completed_plain c (row_at (volume_key c.volume_name) rows) in
    let named = ap (named_due (plain_claim c)) (row_plain (volume_key c.volume_name) rows) ∙ named_due_plain c (row_at (volume_key c.volume_name) rows) in
    let found = match_plain rows c in
    let class = any_mapped content_of is_default_row is_default_row default_plain rows in
    λ i. if is_completed c then (if is_empty c.volume_name then lost_due c else done i) else if is_deleting c.meta then None
    else if is_empty c.volume_name then (if found i then Some dues.Bind else (if lacks_class c && class i then Some dues.AssignClass else None)) else named i

-- protection

uses_plain : (c : ClaimData) (o : Object) → uses (plain_claim c) (content_of o) ≡ uses c o
uses_plain c (Class x) = refl
uses_plain c (Node x) = refl
uses_plain c (Volume x) = refl
uses_plain c (Claim x) = refl
uses_plain c (Pod x) = refl

pub claim_guard_plain : (rows : List Object) (c : ClaimData) → claim_guard_due (contents_of rows) (plain_claim c) ≡ claim_guard_due rows c
claim_guard_plain rows c = ap (guard_due (is_deleting c.meta) (is_protected_claim c)) (any_mapped content_of (uses (plain_claim c)) (uses c) (uses_plain c) rows)
