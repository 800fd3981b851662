-- What a write of one object does to the weights of the others.
use Rattle.std.proofs.Common.{◌≡◌, ◌≢◌, ◌∙◌, ◌⊎◌, ℕ, ◌+◌, ◌≤◌, List, [], ◌∷◌, Bool, true, false, true≢false, Option, Some, None, inl, inr, refl, sym, ap, subst, arith}
use Rattle.std.specs.Prelude.{cond, not, ◌&&◌, ◌||◌}
use Rattle.std.specs.List.{list_any}
use Rattle.kube_parts.specs.declared.uid.Uid.{Uid}
use Rattle.kube_objects.specs.declared.key.Key.{Key}
use Rattle.kube_parts.specs.declared.parts.VolumePhase.{VolumePhase}
use Rattle.kube_parts.specs.declared.parts.VolumePhase.TheVariants as volumes
use Rattle.kube_objects.specs.declared.objects.Ref.{Ref}
use Rattle.kube_objects.specs.declared.objects.Claim.{Claim as ClaimData}
use Rattle.kube_objects.specs.declared.objects.Volume.{Volume as VolumeData}
use Rattle.kube_objects.specs.declared.objects.Object.{Object}
use Rattle.kube_objects.specs.declared.objects.Object.TheVariants.{Volume}
use Rattle.kube_objects.specs.Bindings.{carries, is_bound, is_completed, is_deleting, is_empty, is_ended, ref_uid}
use Rattle.kube_objects.specs.Keys.{AreRows, key_of, kind_index, put_row, row_at, without_row}
use Rattle.kube_objects.specs.Sources.{data_id_of}
use Rattle.kube_objects.proofs.KeyOrder.{row_at-put_row, row_at-put_row_other, row_at-without_row_other}
use Rattle.kube_objects.proofs.SameKeys.{key_tells}
use Rattle.binder_model.specs.BindWrites.{shows_bound}
use Rattle.binder_model.specs.ObjectKeys.{claim_key, volume_key}
use Rattle.binder_model.specs.Devices.{Devices, has_data}
use Rattle.binder_model.specs.Provisioning.{data_name}
use Rattle.model_laws.proofs.Lists.{IsIn, one}
use Rattle.settle_measure.specs.Left.Measure.{
  binding_left,
  carried_left,
  claim_left,
  completed_left,
  has_offer,
  holds,
  offers,
  offers_claim,
  is_awaited,
  is_held_by,
  is_lost,
  is_over,
  life_left,
  open_left,
  provision_left,
  seeking_left,
  seeks,
  stage_left,
  unless,
  volume_left,
  was_erased,
}
use Rattle.settle_measure.proofs.Left.Sums.{found_in, stands}
pub use Rattle.safety_law.proofs.Mounts.Loose.{any_in}

pub unless_less : (b c : Bool) (n : ℕ) → (b ≡ true → c ≡ true) → unless c n ≤ unless b n
unless_less true true n h = omega arith
unless_less true false n h = absurd (true≢false (sym (h refl)))
unless_less false true n h = omega arith
unless_less false false n h = omega arith

-- lists

pub record Found (p : Object → Bool) (xs : List Object) : Type 0 where
  pub object : Object
  pub among : IsIn object xs
  pub passes : p object ≡ true

pub any_found : (p : Object → Bool) (xs : List Object) → list_any p xs ≡ true → Found p xs
any_found p [] e = absurd (true≢false (sym e))
any_found p (x ∷ xs) e = by (p x) refl e (any_found p xs)
  where
    by : (b : Bool) → p x ≡ b → (b || list_any p xs) ≡ true → (list_any p xs ≡ true → Found p xs) → Found p (x ∷ xs)
    by true is e rest = record { object = x; among = inl refl; passes = is }
    by false is e rest = let f = rest e in record { object = f.object; among = inr f.among; passes = f.passes }

-- claims

-- what a claim needs of the rows is there after it was there before
pub record AsGood (rows rows_after : List Object) (c : ClaimData) : Type 0 where
  pub held : is_completed c ≡ false → is_deleting c.meta ≡ false → (k : Key) → (is_empty c.volume_name ≡ true) ⊎ (k ≡ volume_key c.volume_name)
      → is_held_by c (row_at k rows) ≡ true → is_held_by c (row_at k rows_after) ≡ true
  pub holder : is_completed c ≡ false → is_deleting c.meta ≡ false → is_empty c.volume_name ≡ true → has_offer rows c ≡ true → has_offer rows_after c ≡ true
  pub done : is_completed c ≡ true → completed_left c (row_at (volume_key c.volume_name) rows_after) ≤ completed_left c (row_at (volume_key c.volume_name) rows)

abbrev pub DataStay : Devices → Devices → Type 0
DataStay d devices_after = (name : List ℕ) → has_data d name ≡ true → has_data devices_after name ≡ true

pub provision_less : (rows rows_after : List Object) (d devices_after : Devices) (c : ClaimData) (uid : Option Uid) → DataStay d devices_after
    → ((k : Key) → is_held_by c (row_at k rows) ≡ true → is_held_by c (row_at k rows_after) ≡ true) → provision_left rows_after devices_after c uid ≤ provision_left rows d c uid
provision_less rows rows_after d devices_after c None stay held = omega arith
provision_less rows rows_after d devices_after c (Some uid) stay held =
    let a = unless_less (is_held_by c (row_at (volume_key (data_name uid)) rows)) (is_held_by c (row_at (volume_key (data_name uid)) rows_after)) 8 (held (volume_key (data_name uid))) in
    let b = unless_less (has_data d (data_name uid)) (has_data devices_after (data_name uid)) 1 (stay (data_name uid)) in
    omega (arith, a, b)

open_less : (rows rows_after : List Object) (d devices_after : Devices) (c : ClaimData) → DataStay d devices_after → AsGood rows rows_after c
    → is_completed c ≡ false → is_deleting c.meta ≡ false → open_left rows_after devices_after c ≤ open_left rows d c
open_less rows rows_after d devices_after c stay good open_ staying = by (is_empty c.volume_name) refl
  where
    by : (b : Bool) → is_empty c.volume_name ≡ b
        → cond b (seeking_left rows_after devices_after c) (unless (is_held_by c (row_at (volume_key c.volume_name) rows_after)) 4) ≤ cond b
        (seeking_left rows d c) (unless (is_held_by c (row_at (volume_key c.volume_name) rows)) 4)
    by true e =
        let a = unless_less (has_offer rows c) (has_offer rows_after c) 4 (good.holder open_ staying e) in
        let b = provision_less rows rows_after d devices_after c c.meta.uid stay (λ k. good.held open_ staying k (inl e)) in
        omega (arith, a, b)
    by false e = unless_less (is_held_by c (row_at (volume_key c.volume_name) rows)) (is_held_by c (row_at (volume_key c.volume_name) rows_after)) 4
        (good.held open_ staying (volume_key c.volume_name) (inr refl))

pub binding_less : (rows rows_after : List Object) (d devices_after : Devices) (c : ClaimData) → DataStay d devices_after → AsGood rows rows_after c
    → binding_left rows_after devices_after c ≤ binding_left rows d c
binding_less rows rows_after d devices_after c stay good = by (is_completed c) (is_deleting c.meta) refl refl
  where
    by : (a b : Bool) → is_completed c ≡ a → is_deleting c.meta ≡ b
        → cond a (completed_left c (row_at (volume_key c.volume_name) rows_after)) (unless b (2 + open_left rows_after devices_after c)) ≤ cond a
        (completed_left c (row_at (volume_key c.volume_name) rows)) (unless b (2 + open_left rows d c))
    by true b ea eb = good.done ea
    by false true ea eb = omega arith
    by false false ea eb = let h = open_less rows rows_after d devices_after c stay good ea eb in omega (arith, h)

pub claim_less : (rows rows_after : List Object) (d devices_after : Devices) (c : ClaimData) → DataStay d devices_after → AsGood rows rows_after c
    → claim_left rows_after devices_after c ≤ claim_left rows d c
claim_less rows rows_after d devices_after c stay good = let h = binding_less rows rows_after d devices_after c stay good in omega (arith, h)

-- a completed claim that its volume carries

pub carried_most : (c : ClaimData) (v : VolumeData) → carried_left c v ≤ 1 + unless (is_lost c.phase) 1
carried_most c v = by (is_bound v.phase) (shows_bound c v)
  where
    by : (b s : Bool) → cond b (unless s 1) (1 + unless (is_lost c.phase) 1) ≤ 1 + unless (is_lost c.phase) 1
    by true true = omega arith
    by true false = omega arith
    by false s = omega arith

pub away_most : (c : ClaimData) (v : VolumeData) → completed_left c (Some (Volume v)) ≤ 5 + unless (is_lost c.phase) 1
away_most c v = by (carries v c && not (is_ended v.phase)) (carried_most c v)
  where
    by : (b : Bool) → carried_left c v ≤ 1 + unless (is_lost c.phase) 1 → cond b (carried_left c v) (5 + unless (is_lost c.phase) 1) ≤ 5 + unless (is_lost c.phase) 1
    by true h = omega (arith, h)
    by false h = omega arith

-- no claim is away whose volume is Bound and carries it
pub bound_left : (c : ClaimData) (v : VolumeData) → carries v c ≡ true → is_bound v.phase ≡ true → completed_left c (Some (Volume v)) ≡ unless (shows_bound c v) 1
bound_left c v carried bound = let going = bound_goes v.phase bound in rw (carried, going, bound) refl
  where
    bound_goes : (p : VolumePhase) → is_bound p ≡ true → is_ended p ≡ false
    bound_goes volumes.Bound e = refl
    bound_goes volumes.Pending e = refl
    bound_goes volumes.Available e = refl
    bound_goes volumes.Released e = absurd (true≢false (sym e))
    bound_goes volumes.Failed e = absurd (true≢false (sym e))

-- volumes

-- no claim begins to wait for a volume
abbrev pub NoneSeeks : List Object → List Object → Type 0
NoneSeeks rows rows_after = (namespace name : List ℕ) → seeks (row_at (claim_key namespace name) rows_after) ≡ true → seeks (row_at (claim_key namespace name) rows) ≡ true

pub awaited_less : (rows rows_after : List Object) → NoneSeeks rows rows_after → (r : Option Ref) → is_awaited rows_after r ≡ true → is_awaited rows r ≡ true
awaited_less rows rows_after none None e = e
awaited_less rows rows_after none (Some r) e = none r.namespace r.name e

stage_less : (a b : Bool) (v : VolumeData) (uid : Option Uid) → (a ≡ true → b ≡ true) → stage_left a uid v.phase ≤ stage_left b uid v.phase
stage_less a b v None h = let n = unless_less (not b) (not a) 4 (turned a b h) in omega (arith, n)
  where
    turned : (a b : Bool) → (a ≡ true → b ≡ true) → not b ≡ true → not a ≡ true
    turned true b h e = absurd (true≢false (sym e ∙ ap not (h refl)))
    turned false b h e = refl
stage_less a b v (Some uid) h = omega arith

-- what was erased stays so
abbrev pub ErasedStay : Devices → Devices → VolumeData → Type 0
ErasedStay d devices_after v = was_erased (data_id_of v.source) d.stored ≡ true → was_erased (data_id_of v.source) devices_after.stored ≡ true

life_less : (a o b c : Bool) → (b ≡ true → c ≡ true) → life_left a o c ≤ life_left a o b
life_less true o b c h = omega arith
life_less false o b c h = let n = unless_less b c 2 h in omega (arith, n)

pub volume_less : (rows rows_after : List Object) (d devices_after : Devices) (v : VolumeData) → NoneSeeks rows rows_after
    → ErasedStay d devices_after v → volume_left rows_after devices_after v ≤ volume_left rows d v
volume_less rows rows_after d devices_after v none erased =
    let a = stage_less (is_awaited rows_after v.claim_ref) (is_awaited rows v.claim_ref) v (ref_uid v.claim_ref) (awaited_less rows rows_after none v.claim_ref) in
    let b = life_less (is_deleting v.meta) (is_over (ref_uid v.claim_ref) v.phase) (was_erased (data_id_of v.source) d.stored) (was_erased (data_id_of v.source) devices_after.stored) erased in
    omega (arith, a, b)

-- the write of one volume

is_claim_index : (k : Key) → ℕ
is_claim_index k = kind_index k.kind

pub other_kind : (v : VolumeData) (namespace name : List ℕ) → key_of (Volume v) ≢ claim_key namespace name
other_kind v namespace name e = let n : 2 ≡ 3 = ap (λ k. kind_index k.kind) e in absurd (omega (arith, n))

pub volume_puts_no_claim : (v : VolumeData) (rows : List Object) → NoneSeeks rows (put_row (Volume v) rows)
volume_puts_no_claim v rows namespace name e = subst (λ o. seeks o ≡ true) (row_at-put_row_other (claim_key namespace name) (Volume v) rows (other_kind v namespace name)) e

pub volume_takes_no_claim : (v : VolumeData) (rows : List Object) → NoneSeeks rows (without_row (key_of (Volume v)) rows)
volume_takes_no_claim v rows namespace name e = subst (λ o. seeks o ≡ true) (row_at-without_row_other (key_of (Volume v)) (claim_key namespace name) rows (other_kind v namespace name)) e

-- the claim loses nothing where the volume is written anew
pub record Harmless (v new : VolumeData) (c : ClaimData) : Type 0 where
  pub held : is_completed c ≡ false → is_deleting c.meta ≡ false → (is_empty c.volume_name ≡ true) ⊎ (key_of (Volume v) ≡ volume_key c.volume_name) → holds v c ≡ true → holds new c ≡ true
  pub offered : is_completed c ≡ false → is_deleting c.meta ≡ false → is_empty c.volume_name ≡ true → offers v c ≡ true → offers new c ≡ true
  pub done : is_completed c ≡ true → key_of (Volume v) ≡ volume_key c.volume_name → completed_left c (Some (Volume new)) ≤ completed_left c (Some (Volume v))

module _ (v new : VolumeData) (rows : List Object) (order : AreRows rows) (same : key_of (Volume new) ≡ key_of (Volume v))
    (there : row_at (key_of (Volume v)) rows ≡ Some (Volume v)) (c : ClaimData) (safe : Harmless v new c) where
  put_here : (k : Key) → key_of (Volume v) ≡ k → row_at k (put_row (Volume new) rows) ≡ Some (Volume new)
  put_here k e = ap (λ j. row_at j (put_row (Volume new) rows)) (sym e ∙ sym same) ∙ row_at-put_row (Volume new) rows

  was_here : (k : Key) → key_of (Volume v) ≡ k → row_at k rows ≡ Some (Volume v)
  was_here k e = ap (λ j. row_at j rows) (sym e) ∙ there

  put_else : (k : Key) → key_of (Volume v) ≢ k → row_at k (put_row (Volume new) rows) ≡ row_at k rows
  put_else k differs = row_at-put_row_other k (Volume new) rows (λ e. differs (sym same ∙ e))

  keeps_held : is_completed c ≡ false → is_deleting c.meta ≡ false → (k : Key) → (is_empty c.volume_name ≡ true) ⊎ (k ≡ volume_key c.volume_name)
      → is_held_by c (row_at k rows) ≡ true → is_held_by c (row_at k (put_row (Volume new) rows)) ≡ true
  keeps_held open_ staying k which e = by (key_tells (key_of (Volume v)) k)
    where
      with_key : key_of (Volume v) ≡ k → (is_empty c.volume_name ≡ true) ⊎ (k ≡ volume_key c.volume_name) → (is_empty c.volume_name ≡ true) ⊎ (key_of (Volume v) ≡ volume_key c.volume_name)
      with_key is (inl empty) = inl empty
      with_key is (inr named) = inr (is ∙ named)

      by : (key_of (Volume v) ≡ k) ⊎ (key_of (Volume v) ≢ k) → is_held_by c (row_at k (put_row (Volume new) rows)) ≡ true
      by (inl is) = ap (is_held_by c) (put_here k is) ∙ safe.held open_ staying (with_key is which) (sym (ap (is_held_by c) (was_here k is)) ∙ e)
      by (inr differs) = ap (is_held_by c) (put_else k differs) ∙ e

  keeps_holder : is_completed c ≡ false → is_deleting c.meta ≡ false → is_empty c.volume_name ≡ true → has_offer rows c ≡ true → has_offer (put_row (Volume new) rows) c ≡ true
  keeps_holder open_ staying empty e =
      let f = any_found (offers_claim c) rows e in
      by f.object (stands rows order f.object f.among) f.passes (key_tells (key_of (Volume v)) (key_of f.object))
    where
      by : (o : Object) → row_at (key_of o) rows ≡ Some o → offers_claim c o ≡ true → (key_of (Volume v) ≡ key_of o) ⊎ (key_of (Volume v) ≢ key_of o) → has_offer (put_row (Volume new) rows) c ≡ true
      by o at passes (inl is) =
          let e : o ≡ Volume v = one o (Volume v) (sym at ∙ was_here (key_of o) is) in
          any_in (offers_claim c) (Volume new) (put_row (Volume new) rows) (found_in (key_of o) _ (Volume new) (put_here (key_of o) is))
          (safe.offered open_ staying empty (sym (ap (offers_claim c) e) ∙ passes))
      by o at passes (inr differs) = any_in (offers_claim c) o (put_row (Volume new) rows) (found_in (key_of o) _ o (put_else (key_of o) differs ∙ at)) passes

  keeps_done : is_completed c ≡ true → completed_left c (row_at (volume_key c.volume_name) (put_row (Volume new) rows)) ≤ completed_left c (row_at (volume_key c.volume_name) rows)
  keeps_done completed = by (key_tells (key_of (Volume v)) (volume_key c.volume_name))
    where
      by : (key_of (Volume v) ≡ volume_key c.volume_name) ⊎ (key_of (Volume v) ≢ volume_key c.volume_name)
          → completed_left c (row_at (volume_key c.volume_name) (put_row (Volume new) rows)) ≤ completed_left c (row_at (volume_key c.volume_name) rows)
      by (inl is) =
          let a : completed_left c (row_at (volume_key c.volume_name) (put_row (Volume new) rows)) ≡ completed_left c (Some (Volume new)) = ap (completed_left c) (put_here _ is) in
          let b : completed_left c (row_at (volume_key c.volume_name) rows) ≡ completed_left c (Some (Volume v)) = ap (completed_left c) (was_here _ is) in
          let h = safe.done completed is in
          omega (arith, a, b, h)
      by (inr differs) =
          let a : completed_left c (row_at (volume_key c.volume_name) (put_row (Volume new) rows)) ≡ completed_left c
          (row_at (volume_key c.volume_name) rows) = ap (completed_left c) (put_else _ differs) in
          omega (arith, a)

  pub as_good_put : AsGood rows (put_row (Volume new) rows) c
  as_good_put = record { held = keeps_held; holder = keeps_holder; done = keeps_done }
