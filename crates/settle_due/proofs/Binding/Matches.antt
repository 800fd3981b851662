-- Whether a volume matches a claim is the same on two lists of rows that agree on what the binder follows.
use Rattle.std.proofs.Common.{◌≡◌, ◌∙◌, List, Bool, true, false, true≢false, None, refl, sym, ap}
use Rattle.std.specs.Prelude.{◌&&◌}
use Rattle.std.specs.List.{list_any}
use Rattle.kube_objects.specs.declared.key.Key.{Key}
use Rattle.kube_parts.specs.declared.parts.Kind.TheVariants as kinds
use Rattle.kube_objects.specs.declared.objects.Claim.{Claim as ClaimData}
use Rattle.kube_objects.specs.declared.objects.Object.{Object}
use Rattle.kube_objects.specs.declared.objects.Object.TheVariants.{Class, Node, Volume, Claim, Pod}
use Rattle.kube_objects.specs.Bindings.{class_of_claim}
use Rattle.kube_objects.specs.Keys.{AreRows, key_of, row_at}
use Rattle.call_types.specs.declared.request.SeatKind.TheVariants as seats
use Rattle.binder_model.specs.Matching.{binder_takes, eligible, has_match, is_delayed, only_own_passes}
use Rattle.binder_model.specs.ObjectKeys.{class_key}
use Rattle.binder_model.specs.Reading.{follows}
use Rattle.model_laws.proofs.Lists.{IsIn}
use Rattle.model_laws.proofs.Readings.{found_stands, member_stands}
use Rattle.settle_alike.proofs.Alike.Rows.{any_same}
use Rattle.settle_due.proofs.Upkeep.Claims.{none_among}

-- the rows agree on each key of a kind that the binder follows
abbrev pub AgreeForBinder : List Object → List Object → Type 0
AgreeForBinder xs ys = (k : Key) → follows seats.Binder k.kind ≡ true → row_at k xs ≡ row_at k ys

-- what passes a test among rows passes it among others, where each that would stands there
pub some_among : (p : Object → Bool) (xs rows : List Object) → ((o : Object) → IsIn o xs → p o ≡ true → IsIn o rows) → list_any p xs ≡ true → list_any p rows ≡ true
some_among p xs rows there some = by (list_any p rows) refl
  where
    by : (b : Bool) → list_any p rows ≡ b → list_any p rows ≡ true
    by true e = e
    by false e = absurd (true≢false (sym some ∙ none_among p xs rows there e))

-- what stands among the one rows stands among the others
pub goes_over : (xs ys : List Object) → AreRows xs → AgreeForBinder xs ys → (o : Object) → follows seats.Binder (key_of o).kind ≡ true → IsIn o xs → IsIn o ys
goes_over xs ys order same o f i = found_stands (key_of o) o ys (sym (same (key_of o) f) ∙ member_stands o xs order i)

-- only volumes are taken
takes_volume : (rows : List Object) (c : ClaimData) (o : Object) → binder_takes rows c o ≡ true → (key_of o).kind ≡ kinds.PersistentVolume
takes_volume rows c (Volume v) e = refl
takes_volume rows c (Class x) e = absurd (true≢false (sym e))
takes_volume rows c (Node x) e = absurd (true≢false (sym e))
takes_volume rows c (Claim x) e = absurd (true≢false (sym e))
takes_volume rows c (Pod x) e = absurd (true≢false (sym e))

takes_same : (xs ys : List Object) (c : ClaimData) → AgreeForBinder xs ys → (o : Object) → binder_takes xs c o ≡ binder_takes ys c o
takes_same xs ys c same (Volume v) = ap (λ x. eligible v c None && only_own_passes (is_delayed x) v c) (same (class_key (class_of_claim c)) refl)
takes_same xs ys c same (Class x) = refl
takes_same xs ys c same (Node x) = refl
takes_same xs ys c same (Claim x) = refl
takes_same xs ys c same (Pod x) = refl

pub match_same : (xs ys : List Object) (c : ClaimData) → AreRows xs → AreRows ys → AgreeForBinder xs ys → has_match xs c ≡ has_match ys c
match_same xs ys c order ordered same = any_same (binder_takes xs c) (binder_takes ys c) (takes_same xs ys c same) xs ∙ by (has_match ys c) refl
  where
    taken : (o : Object) → binder_takes ys c o ≡ true → follows seats.Binder (key_of o).kind ≡ true
    taken o t = ap (λ k. follows seats.Binder k) (takes_volume ys c o t)

    by : (b : Bool) → has_match ys c ≡ b → list_any (binder_takes ys c) xs ≡ has_match ys c
    by true e = some_among (binder_takes ys c) ys xs (λ o i t. goes_over ys xs ordered (λ k f. sym (same k f)) o (taken o t) i) e ∙ sym e
    by false e = none_among (binder_takes ys c) xs ys (λ o i t. goes_over xs ys order same o (taken o t) i) e ∙ sym e
