-- A write of a controller at the version that stands is made, where its fields fit; and it lasts, where the content differs.
use Rattle.std.proofs.Common.{◌≡◌, ◌≢◌, ℕ, ◌+◌, List, Bool, true, false, true≢false, Option, Some, None, inl, refl, sym, ap, subst, arith}
use Rattle.std.specs.Prelude.{◌==◌, not}
use Rattle.std.proofs.lemmas.Bool.Decides.{nat_tests}
use Rattle.kube_objects.specs.declared.key.Key.{Key}
use Rattle.kube_objects.specs.declared.objects.Object.{Object}
use Rattle.kube_objects.specs.Keys.{key_of, meta_of, row_at}
use Rattle.call_types.specs.declared.request.NewStatus.{NewStatus}
use Rattle.call_types.specs.declared.request.Request.TheVariants.{Update, UpdateStatus}
use Rattle.call_types.specs.declared.request.SeatKind.{SeatKind}
use Rattle.call_types.specs.declared.request.SeatKind.TheVariants as seats
use Rattle.call_types.specs.declared.setup.Setup.{Setup}
use Rattle.binder_model.specs.Answers.{
  guard_on,
  is_other_version,
  is_user,
  outcome,
  refuse,
  refuse_field,
  refuse_rule,
  reply_of,
  update,
  update_status,
  with_status,
  write_of,
  write_outcome,
  written_if_fits,
}
use Rattle.binder_model.specs.Devices.{device_answer}
use Rattle.binder_model.specs.Fields.{update_fault}
use Rattle.binder_model.specs.Store.{State, at_version, leaves, updated_object}
use Rattle.binder_model.specs.World.{World, effect, on_devices, reply_to}
use Rattle.settle_writes.specs.Writes.Lasting.{IsChanged, IsLastingWrite, Lasts, content_of}

pub no_guard : (kind : SeatKind) (old : Option Object) (new : Object) → is_user kind ≡ false → guard_on kind old new ≡ None
unfolding guard_on
no_guard seats.User old new e = absurd (true≢false e)
no_guard seats.Binder old new e = refl
no_guard seats.Ops old new e = refl
no_guard seats.Scheduler old new e = refl
no_guard seats.ClaimProtect old new e = refl
no_guard seats.VolumeProtect old new e = refl
no_guard seats.Agent old new e = refl

same_version : (n : ℕ) → is_other_version (Some n) n ≡ false
same_version n = let e : (n == n) ≡ true = grind (arith, nat_tests) in ap not e

updates : (s : State) (kind : SeatKind) (old new : Object) → is_user kind ≡ false → update_fault old new ≡ None
    → update s kind new (Some (meta_of old).version) (Some old) ≡ write_outcome (updated_object old new (s.version + 1))
unfolding update refuse refuse_rule refuse_field
updates s kind old new controller fits = rw (same_version (meta_of old).version, no_guard kind (Some old) new controller, fits) refl

status_updates : (s : State) (kind : SeatKind) (status : NewStatus) (old new : Object) → is_user kind ≡ false → with_status status old ≡ Some new
    → update_status s kind status (Some (meta_of old).version) (Some old) ≡ write_outcome (at_version new (s.version + 1))
unfolding update_status refuse written_if_fits
status_updates s kind status old new controller fits = rw (controller, same_version (meta_of old).version, fits) refl

-- a write over what stands lasts where the content differs
pub written_lasts : (rows : List Object) (old o : Object) → row_at (key_of o) rows ≡ Some old → content_of old ≢ content_of o → IsLastingWrite rows (reply_of (write_outcome o))
unfolding reply_of
written_lasts rows old o there differs = by (leaves o)
  where
    by : (b : Bool) → IsLastingWrite rows (reply_of (write_of o b))
    by true = tt
    by false = subst (λ row. IsChanged row o) (sym there) differs

module _ (setup : Setup) (w : World) (kind : SeatKind) (controller : is_user kind ≡ false) (old : Object) where
  abbrev pub updated : Object → Object
  updated new = updated_object old new (w.store.version + 1)

  update_said : (new : Object) → row_at (key_of new) w.store.rows ≡ Some old → update_fault old new ≡ None
      → reply_to (effect setup w kind (Update new (Some (meta_of old).version))) ≡ reply_of (write_outcome (updated new))
  unfolding effect on_devices device_answer outcome reply_to
  update_said new there fits = rw there (ap reply_of (updates w.store kind old new controller fits))

  pub update_lasts : (new : Object) → row_at (key_of new) w.store.rows ≡ Some old → update_fault old new ≡ None → key_of (updated new) ≡ key_of new → content_of old ≢ content_of (updated new)
      → Lasts setup w kind (Update new (Some (meta_of old).version))
  update_lasts new there fits key differs =
      inl (subst (IsLastingWrite w.store.rows) (sym (update_said new there fits))
      (written_lasts w.store.rows old (updated new) (subst (λ k. row_at k w.store.rows ≡ Some old) (sym key) there) differs))

  abbrev pub at_next : Object → Object
  at_next new = at_version new (w.store.version + 1)

  status_said : (key : Key) (status : NewStatus) (new : Object) → row_at key w.store.rows ≡ Some old → with_status status old ≡ Some new
      → reply_to (effect setup w kind (UpdateStatus key status (Some (meta_of old).version))) ≡ reply_of (write_outcome (at_next new))
  unfolding effect on_devices device_answer outcome reply_to
  status_said key status new there fits = rw there (ap reply_of (status_updates w.store kind status old new controller fits))

  pub status_lasts : (key : Key) (status : NewStatus) (new : Object) → row_at key w.store.rows ≡ Some old → with_status status old ≡ Some new
      → key_of (at_next new) ≡ key → content_of old ≢ content_of (at_next new)
      → Lasts setup w kind (UpdateStatus key status (Some (meta_of old).version))
  status_lasts key status new there fits same differs =
      inl (subst (IsLastingWrite w.store.rows) (sym (status_said key status new there fits))
      (written_lasts w.store.rows old (at_next new) (subst (λ k. row_at k w.store.rows ≡ Some old) (sym same) there) differs))
