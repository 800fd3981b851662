-- A best match is there where some volume can be taken, and a default class where some class is marked.
use Rattle.std.proofs.Common.{ℕ, zero, suc, ◌≡◌, ◌∙◌, Bool, true, false, true≢false, ◌&&◌, ◌||◌, List, [], ◌∷◌, length, Option, Some, None, is_some, slice_get, cond, refl, sym, ap}
use Rattle.std.specs.List.{list_any}
use Rattle.std.proofs.lemmas.Bool.{and_from}
use Rattle.kube_parts.specs.declared.parts.Kind.{Kind}
use Rattle.kube_parts.specs.declared.parts.Kind.TheVariants as kinds
use Rattle.kube_objects.specs.declared.objects.Claim.{Claim as ClaimData}
use Rattle.kube_objects.specs.declared.objects.Object.{Object}
use Rattle.kube_objects.specs.declared.objects.Object.TheVariants.{Class, Node, Volume, Claim, Pod}
use Rattle.kube_objects.specs.Keys.{AreRows, is_of_kind, rows_of}
use Rattle.kube_objects.specs.Bindings.{lacks_class}
use Rattle.kube_types.specs.Defaults.{IsDefaultPlace}
use Rattle.kube_objects.proofs.RowPlaces.{row_at_place}
use Rattle.binder_model.specs.BinderDue.{is_default_row}
use Rattle.claim_sync.specs.ClaimDecision.{may_assign}
use Rattle.binder_model.specs.Matching.{IsBest, binder_takes, eligible, has_match, only_own_passes, waits_for_pod}

-- what holds of objects of one kind alone is asked of those of the kind
any_of_kind : (kind : Kind) (p : Object → Bool) → ((o : Object) → is_of_kind kind o ≡ false → p o ≡ false) → (rows : List Object) → list_any p rows ≡ list_any p (rows_of kind rows)
any_of_kind kind p refused [] = refl
any_of_kind kind p refused (o ∷ rows) = by_kind (is_of_kind kind o) refl (any_of_kind kind p refused rows)
  where
    by_kind : (b : Bool) → is_of_kind kind o ≡ b → list_any p rows ≡ list_any p (rows_of kind rows) → (p o || list_any p rows) ≡ list_any p (cond b (o ∷ rows_of kind rows) (rows_of kind rows))
    by_kind true e same = ap (λ r. p o || r) same
    by_kind false e same = ap (λ b. b || list_any p rows) (refused o e) ∙ same

some_any : (p : Object → Bool) (os : List Object) (i : ℕ) (o : Object) → slice_get os i ≡ Some o → p o ≡ true → list_any p os ≡ true
some_any p [] i o there h = cc
some_any p (x ∷ os) zero o there h =
    let same : x ≡ o = cc in
    ap (λ b. b || list_any p os) (ap p same ∙ h)
some_any p (x ∷ os) (suc i) o there h = or_true (p x) (list_any p os) (some_any p os i o there h)
  where
    or_true : (a b : Bool) → b ≡ true → (a || b) ≡ true
    or_true true b e = refl
    or_true false b e = e

none_any : (p : Object → Bool) (os : List Object) → ((i : ℕ) (o : Object) → slice_get os i ≡ Some o → p o ≡ true → ⊥) → list_any p os ≡ false
none_any p [] refused = refl
none_any p (x ∷ os) refused = by_head (p x) refl (none_any p os (λ i. refused (suc i)))
  where
    by_head : (b : Bool) → p x ≡ b → list_any p os ≡ false → (p x || list_any p os) ≡ false
    by_head true e rest = absurd (refused 0 x refl e)
    by_head false e rest = ap (λ b. b || list_any p os) e ∙ rest

others_refused : (rows : List Object) (c : ClaimData) (o : Object) → is_of_kind kinds.PersistentVolume o ≡ false → binder_takes rows c o ≡ false
others_refused rows c (Class x) h = refl
others_refused rows c (Node x) h = refl
others_refused rows c (Volume x) h = cc
others_refused rows c (Claim x) h = refl
others_refused rows c (Pod x) h = refl

left_true : (a b : Bool) → (a && b) ≡ true → a ≡ true
left_true true b h = refl
left_true false b h = cc

right_true : (a b : Bool) → (a && b) ≡ true → b ≡ true
right_true true b h = h
right_true false b h = cc

pub best_matches : (rows : List Object) (c : ClaimData) (answer : Option ℕ) → IsBest rows c None (waits_for_pod rows c) [] answer → is_some answer ≡ has_match rows c
best_matches rows c (Some place) best =
    let k = best.candidate in
    let takes : binder_takes rows c (Volume best.volume) ≡ true = and_from (eligible best.volume c None) (only_own_passes (waits_for_pod rows c) best.volume c) k.eligible k.own in
    sym (any_of_kind kinds.PersistentVolume (binder_takes rows c) (others_refused rows c) rows
    ∙ some_any (binder_takes rows c) (rows_of kinds.PersistentVolume rows) place (Volume best.volume) k.there takes)
best_matches rows c None best =
    sym (any_of_kind kinds.PersistentVolume (binder_takes rows c) (others_refused rows c) rows ∙ none_any (binder_takes rows c) (rows_of kinds.PersistentVolume rows) refused)
  where
    refused : (i : ℕ) (o : Object) → slice_get (rows_of kinds.PersistentVolume rows) i ≡ Some o → binder_takes rows c o ≡ true → ⊥
    refused i (Class x) there h = cc
    refused i (Node x) there h = cc
    refused i (Volume v) there h =
        best i v (record {
          there = there;
          open_to = refl;
          own = right_true (eligible v c None) (only_own_passes (waits_for_pod rows c) v c) h;
          eligible = left_true (eligible v c None) (only_own_passes (waits_for_pod rows c) v c) h;
        })
    refused i (Claim x) there h = cc
    refused i (Pod x) there h = cc

-- the default class

unmarked_kinds : (o : Object) → is_of_kind kinds.StorageClass o ≡ false → is_default_row o ≡ false
unmarked_kinds (Class x) h = cc
unmarked_kinds (Node x) h = refl
unmarked_kinds (Volume x) h = refl
unmarked_kinds (Claim x) h = refl
unmarked_kinds (Pod x) h = refl

marked_rows : (rows : List Object) → list_any is_default_row rows ≡ list_any is_default_row (rows_of kinds.StorageClass rows)
marked_rows rows = any_of_kind kinds.StorageClass is_default_row unmarked_kinds rows

-- a claim that has a class gets none
pub none_wanted : (rows : List Object) (c : ClaimData) → lacks_class c ≡ false → may_assign rows c ≡ false
none_wanted rows c e = ap (λ b. b && list_any is_default_row rows) e

assignable_is : (rows : List Object) (c : ClaimData) (b : Bool) → lacks_class c ≡ true → list_any is_default_row rows ≡ b → may_assign rows c ≡ b
assignable_is rows c b lacks any = ap (λ x. x && list_any is_default_row rows) lacks ∙ any

-- without classes none is marked
pub none_of_none : (rows : List Object) (c : ClaimData) → lacks_class c ≡ true → length (rows_of kinds.StorageClass rows) ≡ 0 → may_assign rows c ≡ false
none_of_none rows c lacks empty = assignable_is rows c false lacks (marked_rows rows ∙ by (rows_of kinds.StorageClass rows) empty)
  where
    by : (classes : List Object) → length classes ≡ 0 → list_any is_default_row classes ≡ false
    by [] e = refl
    by (x ∷ xs) e = cc

pub default_matches : (rows : List Object) (c : ClaimData) (answer : Option ℕ) → AreRows rows → lacks_class c ≡ true → IsDefaultPlace rows answer → is_some answer ≡ may_assign rows c
default_matches rows c (Some place) order lacks default =
    sym (assignable_is rows c true lacks (marked_rows rows ∙ some_any is_default_row (rows_of kinds.StorageClass rows) place (Class default.class) default.at default.default.marked))
default_matches rows c None order lacks default = sym (assignable_is rows c false lacks (marked_rows rows ∙ none_any is_default_row (rows_of kinds.StorageClass rows) refused))
  where
    refused : (i : ℕ) (o : Object) → slice_get (rows_of kinds.StorageClass rows) i ≡ Some o → is_default_row o ≡ true → ⊥
    refused i (Class x) there h = true≢false (sym h ∙ default x (row_at_place kinds.StorageClass i (Class x) rows order there))
    refused i (Node x) there h = cc
    refused i (Volume x) there h = cc
    refused i (Claim x) there h = cc
    refused i (Pod x) there h = cc

-- a claim that names no volume has a best match where there is a match
pub match_alone : (empty is_empty matched : Bool) → empty ≡ is_empty → empty ≡ true → matched ≡ (is_empty && matched)
match_alone empty is_empty matched same alone = ap (λ (b : Bool). b && matched) (sym alone ∙ same)
