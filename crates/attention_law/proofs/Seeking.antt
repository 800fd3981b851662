-- A claim for which a volume is sought gets a call on all rows that show the same as rows in order.
use Rattle.std.proofs.Common.{◌≡◌, ℕ, zero, suc, List, [], ◌∷◌, Bool, true, false, Some, None, inl, inr, refl, ◌∙◌, ap, slice_get, is_some, if◌then◌else◌}
use Rattle.std.specs.Prelude.{◌&&◌, ◌||◌, not, is_none, bytes_eq}
use Rattle.std.specs.List.{list_any}
use Rattle.std.specs.Ordering.{is_eq}
use Rattle.std.proofs.lemmas.Bool.{and_parts, not-true, or_cases}
use Rattle.kube_objects.specs.declared.key.Key.{Key}
use Rattle.kube_parts.specs.declared.parts.Kind.{Kind}
use Rattle.kube_objects.specs.declared.objects.Object.{Object}
use Rattle.kube_objects.specs.declared.objects.Volume.{Volume as VolumeData}
use Rattle.kube_objects.specs.declared.objects.Claim.{Claim as ClaimData}
use Rattle.kube_objects.specs.Bindings.{carries, is_available, is_bound, is_completed, is_deleting, is_empty, is_ended, is_for, is_protected_volume}
use Rattle.kube_objects.specs.Keys.{is_of_kind, key_cmp, key_of, row_at, rows_of, same_key}
use Rattle.kube_objects.proofs.SameKeys.{same_key_itself, same_key_ordered}
use Rattle.binder_model.specs.BindWrites.{claim_write, next_write, shows_bound, write_bound, write_claim_status, write_completion, write_reference}
use Rattle.binder_model.specs.Matching.{eligible, fits, is_admitted_on, is_selected, may_serve}
use Rattle.binder_machines.specs.Machines.{bind_call, may_bind}
use Rattle.model_laws.proofs.Lists.{none_some, one}
use Rattle.model_laws.proofs.References.{available_lives as live}

-- lists of rows

or_true : (a : Bool) → (a || true) ≡ true
or_true true = refl
or_true false = refl

pub found_any : (p : Object → Bool) (k : Key) (o : Object) (os : List Object) → row_at k os ≡ Some o → p o ≡ true → list_any p os ≡ true
found_any p k o [] e h = none_some e
found_any p k o (y ∷ ys) e h = by (is_eq (key_cmp (key_of y) k)) e (λ f. found_any p k o ys f h)
  where
    by : (b : Bool) → (if b then Some y else row_at k ys) ≡ Some o → (row_at k ys ≡ Some o → list_any p ys ≡ true) → (p y || list_any p ys) ≡ true
    by true f more = ap (λ b. b || list_any p ys) (ap p (one y o f) ∙ h)
    by false f more = ap (λ b. p y || b) (more f) ∙ or_true (p y)

-- what stands at a place has a row under its key, maybe another object
pub placed_row : (kind : Kind) (i : ℕ) (o : Object) (os : List Object) → slice_get (rows_of kind os) i ≡ Some o → is_some (row_at (key_of o) os) ≡ true
placed_row kind i o [] e = none_some e
placed_row kind i o (y ∷ ys) e = by (is_of_kind kind y) i e (λ j. placed_row kind j o ys)
  where
    later : is_some (row_at (key_of o) ys) ≡ true → (b : Bool) → is_some (if b then Some y else row_at (key_of o) ys) ≡ true
    later h true = refl
    later h false = h

    here : y ≡ o → is_some (if is_eq (key_cmp (key_of y) (key_of o)) then Some y else row_at (key_of o) ys) ≡ true
    here same = ap (λ b. is_some (if b then Some y else row_at (key_of o) ys)) (same_key_ordered (key_of y) (key_of o) ∙ ap (λ x. same_key (key_of x) (key_of o)) same ∙ same_key_itself (key_of o))

    by : (b : Bool) (j : ℕ) → slice_get (if b then y ∷ rows_of kind ys else rows_of kind ys) j ≡ Some o → ((k : ℕ) → slice_get (rows_of kind ys) k ≡ Some o → is_some (row_at (key_of o) ys) ≡ true)
        → is_some (if is_eq (key_cmp (key_of y) (key_of o)) then Some y else row_at (key_of o) ys) ≡ true
    by true zero f more = here (one y o f)
    by true (suc j) f more = later (more j f) (is_eq (key_cmp (key_of y) (key_of o)))
    by false j f more = later (more j f) (is_eq (key_cmp (key_of y) (key_of o)))

-- an eligible volume gives a write

pub record Serves (v : VolumeData) (c : ClaimData) : Type 0 where
  pub live : is_ended v.phase ≡ false
  pub guarded : is_protected_volume v ≡ true
  pub open_to : (is_none v.claim_ref || is_for v c) ≡ true

pub serves : (v : VolumeData) (c : ClaimData) → eligible v c None ≡ true → Serves v c
serves v c e = record { live = kinds_.0; guarded = guarded_; open_to = kinds_.1 }
  where
    parts : ((not (is_deleting v.meta) && is_protected_volume v && fits v c && is_selected c.selector v.meta.labels && is_admitted_on v None) ≡ true) × (may_serve v c ≡ true)
    parts = and_parts _ (may_serve v c) e

    guarded_ : is_protected_volume v ≡ true
    guarded_ = (and_parts (not (is_deleting v.meta)) (is_protected_volume v)
        (and_parts _ (fits v c) (and_parts _ (is_selected c.selector v.meta.labels) (and_parts _ (is_admitted_on v None) parts.0).0).0).0).1

    kinds_ : (is_ended v.phase ≡ false) × ((is_none v.claim_ref || is_for v c) ≡ true)
    kinds_ = elim (or_cases (is_for v c && not (is_ended v.phase)) (is_available v.phase && is_none v.claim_ref) parts.1) [
      | inl own ↦ let h = and_parts (is_for v c) (not (is_ended v.phase)) own in (not-true (is_ended v.phase) h.1, ap (λ b. is_none v.claim_ref || b) h.0 ∙ or_true (is_none v.claim_ref))
      | inr free ↦ let h = and_parts (is_available v.phase) (is_none v.claim_ref) free in (live v.phase h.0, ap (λ b. b || is_for v c) h.1)
    ]

-- some write is made for a claim that is not completed
writes : (v : VolumeData) (c : ClaimData) → Serves v c → is_completed c ≡ false → is_some (next_write v c) ≡ true
unfolding next_write claim_write
writes v c s open_ = by (carries v c) (is_bound v.phase)
  where
    unfinished : is_some (claim_write v c) ≡ true
    unfinished = ap (λ b. is_some (if not (b && bytes_eq c.volume_name v.meta.name) then Some (write_completion v c) else if not (shows_bound c v) then Some (write_claim_status v c) else None)) open_

    first : is_some (if is_ended v.phase then None else Some (write_reference v c)) ≡ true
    first = ap (λ b. is_some (if b then None else Some (write_reference v c))) s.live

    second : is_some (if is_ended v.phase || not (is_protected_volume v) then None else Some (write_bound v)) ≡ true
    second = ap (λ b. is_some (if b || not (is_protected_volume v) then None else Some (write_bound v))) s.live ∙ ap (λ b. is_some (if not b then None else Some (write_bound v))) s.guarded

    by : (a b : Bool) → is_some (if not a then (if is_ended v.phase then None else Some (write_reference v c)) else if not b then
        (if is_ended v.phase || not (is_protected_volume v) then None else Some (write_bound v)) else claim_write v c) ≡ true
    by false b = first
    by true false = second
    by true true = unfinished

pub binds : (v : VolumeData) (c : ClaimData) → Serves v c → is_completed c ≡ false → is_empty c.volume_name ≡ true → is_some c.meta.uid ≡ true → v.meta.namespace ≡ [] → is_some (bind_call v c) ≡ true
binds v c s open_ unnamed known none = ap (λ b. is_some (if b then next_write v c else None)) may ∙ writes v c s open_
  where
    may : may_bind v c ≡ true
    may = ap (λ b. b && is_empty v.meta.namespace && (is_none v.claim_ref || is_for v c) && (is_empty c.volume_name || bytes_eq c.volume_name v.meta.name)) known
        ∙ ap (λ n. is_empty n && (is_none v.claim_ref || is_for v c) && (is_empty c.volume_name || bytes_eq c.volume_name v.meta.name)) none
        ∙ ap (λ b. b && (is_empty c.volume_name || bytes_eq c.volume_name v.meta.name)) s.open_to
        ∙ ap (λ b. b || bytes_eq c.volume_name v.meta.name) unnamed
