-- What such an actor calls for goes to the store, so a call of it that lasts is a write that was done.
use Rattle.std.proofs.Common.{◌≡◌, ◌∙◌, ◌⊎◌, ◌+◌, List, Bool, true, false, true≢false, Some, inl, inr, refl, sym, ap, subst}
use Rattle.kube_objects.specs.declared.objects.Object.{Object}
use Rattle.call_types.specs.declared.entry.Entry.{Entry}
use Rattle.call_types.specs.declared.request.Request.{Request}
use Rattle.call_types.specs.declared.request.Request.TheVariants as requests
use Rattle.call_types.specs.declared.request.SeatKind.{SeatKind}
use Rattle.call_types.specs.declared.request.SeatKind.TheVariants as seats
use Rattle.call_types.specs.declared.setup.Setup.{Setup}
use Rattle.binder_model.specs.Answers.{Outcome, Removes, Says, Stores, after, is_for_store}
use Rattle.binder_model.specs.Licence.{Licensed}
use Rattle.binder_model.specs.World.{Effect, OnDevices, OnStore, SetsMoment, World, effect, reply_to, world_after}
use Rattle.model_laws.proofs.Lists.{none_some}
use Rattle.safety_law.specs.Invariant.Moves.{written_by}
use Rattle.worker_core.specs.Roles.{IsBuiltKind}
use Rattle.settle_writes.specs.Writes.Lasting.{Lasts, LastsBetween}
use Rattle.settle_pays.proofs.Pays.Calls.{IsCalm, NeverLasts, lasting_writes, stored_effect, watch_never}
use Rattle.settle_round_calls.proofs.Slots.RoundCosts.{is_agent}
use Rattle.settle_due.specs.Begun.Begun.{begins_to_last}

-- ---- the actors

pub sure_built : (kind : SeatKind) → begins_to_last kind ≡ true → IsBuiltKind kind
sure_built seats.Binder sure = tt
sure_built seats.Scheduler sure = tt
sure_built seats.ClaimProtect sure = tt
sure_built seats.VolumeProtect sure = tt
sure_built seats.Ops sure = tt
sure_built seats.Agent sure = tt
sure_built seats.User sure = absurd (true≢false (sym sure))

pub no_agent : (kind : SeatKind) → begins_to_last kind ≡ true → is_agent kind ≡ false
no_agent seats.Agent sure = absurd (true≢false (sym sure))
no_agent seats.User sure = refl
no_agent seats.Binder sure = refl
no_agent seats.Ops sure = refl
no_agent seats.Scheduler sure = refl
no_agent seats.ClaimProtect sure = refl
no_agent seats.VolumeProtect sure = refl

-- ---- their calls

-- neither to the devices nor to the clock
abbrev is_aside : Request → Bool
is_aside (requests.SetTime at) = true
is_aside (requests.Provision name provisioner bytes labels) = true
is_aside (requests.Erase id) = true
is_aside (requests.TakeNode node) = true
is_aside (requests.Mounts node epoch) = true
is_aside (requests.Mount node epoch pod claims) = true
is_aside (requests.Unmount node epoch pod) = true
is_aside request = false

none_aside : (kind : SeatKind) (mine : List Entry) (request : Request) → begins_to_last kind ≡ true → Licensed kind mine request → is_aside request ≡ true → ⊥
none_aside seats.Binder mine (requests.SetTime at) sure may aside = may.1
none_aside seats.Binder mine (requests.Provision name provisioner bytes labels) sure may aside = may.1
none_aside seats.Binder mine (requests.Erase id) sure may aside = may.1
none_aside seats.Binder mine (requests.TakeNode node) sure may aside = may.1
none_aside seats.Binder mine (requests.Mounts node epoch) sure may aside = may.1
none_aside seats.Binder mine (requests.Mount node epoch pod claims) sure may aside = may.1
none_aside seats.Binder mine (requests.Unmount node epoch pod) sure may aside = may.1
none_aside seats.Scheduler mine (requests.SetTime at) sure may aside = may.1
none_aside seats.Scheduler mine (requests.Provision name provisioner bytes labels) sure may aside = may.1
none_aside seats.Scheduler mine (requests.Erase id) sure may aside = may.1
none_aside seats.Scheduler mine (requests.TakeNode node) sure may aside = may.1
none_aside seats.Scheduler mine (requests.Mounts node epoch) sure may aside = may.1
none_aside seats.Scheduler mine (requests.Mount node epoch pod claims) sure may aside = may.1
none_aside seats.Scheduler mine (requests.Unmount node epoch pod) sure may aside = may.1
none_aside seats.ClaimProtect mine (requests.SetTime at) sure may aside = may.1
none_aside seats.ClaimProtect mine (requests.Provision name provisioner bytes labels) sure may aside = may.1
none_aside seats.ClaimProtect mine (requests.Erase id) sure may aside = may.1
none_aside seats.ClaimProtect mine (requests.TakeNode node) sure may aside = may.1
none_aside seats.ClaimProtect mine (requests.Mounts node epoch) sure may aside = may.1
none_aside seats.ClaimProtect mine (requests.Mount node epoch pod claims) sure may aside = may.1
none_aside seats.ClaimProtect mine (requests.Unmount node epoch pod) sure may aside = may.1
none_aside seats.VolumeProtect mine (requests.SetTime at) sure may aside = may.1
none_aside seats.VolumeProtect mine (requests.Provision name provisioner bytes labels) sure may aside = may.1
none_aside seats.VolumeProtect mine (requests.Erase id) sure may aside = may.1
none_aside seats.VolumeProtect mine (requests.TakeNode node) sure may aside = may.1
none_aside seats.VolumeProtect mine (requests.Mounts node epoch) sure may aside = may.1
none_aside seats.VolumeProtect mine (requests.Mount node epoch pod claims) sure may aside = may.1
none_aside seats.VolumeProtect mine (requests.Unmount node epoch pod) sure may aside = may.1
none_aside seats.Ops mine request sure may aside = absurd (true≢false (sym sure))
none_aside seats.Agent mine request sure may aside = absurd (true≢false (sym sure))
none_aside seats.User mine request sure may aside = absurd (true≢false (sym sure))
none_aside _ mine _ sure may aside = absurd (true≢false (sym aside))

-- a watch, or a call on the store, or aside
kind_of_call : (setup : Setup) (w : World) (kind : SeatKind) (request : Request) → is_aside request ≡ false → (is_for_store request ≡ true) ⊎ NeverLasts setup w kind request
kind_of_call setup w kind (requests.Watch k from) none = inr (watch_never setup w kind k from)
kind_of_call setup w kind (requests.SetTime at) none = absurd (true≢false none)
kind_of_call setup w kind (requests.Provision name provisioner bytes labels) none = absurd (true≢false none)
kind_of_call setup w kind (requests.Erase id) none = absurd (true≢false none)
kind_of_call setup w kind (requests.TakeNode node) none = absurd (true≢false none)
kind_of_call setup w kind (requests.Mounts node epoch) none = absurd (true≢false none)
kind_of_call setup w kind (requests.Mount node epoch pod claims) none = absurd (true≢false none)
kind_of_call setup w kind (requests.Unmount node epoch pod) none = absurd (true≢false none)
kind_of_call setup w kind _ none = inl refl

written_rises : (w : World) (x : Effect) (o : Object) → written_by x ≡ Some o → (world_after w x).store.version ≡ w.store.version + 1
unfolding world_after after
written_rises w (OnStore (Says reply)) o written = none_some written
written_rises w (OnStore (Stores change x)) o written = refl
written_rises w (OnStore (Removes x)) o written = refl
written_rises w (OnDevices a) o written = none_some written
written_rises w (SetsMoment at) o written = none_some written

pub lasting_rises : (setup : Setup) (w : World) (kind : SeatKind) (mine : List Entry) (request : Request) → begins_to_last kind ≡ true
    → Licensed kind mine request → Lasts setup w kind request → (world_after w (effect setup w kind request)).store.version ≡ w.store.version + 1
lasting_rises setup w kind mine request sure may lasts = by (is_aside request) refl
  where
    stored : (x : Outcome) × ((effect setup w kind request ≡ OnStore x) × IsCalm w.store.rows x) → (world_after w (effect setup w kind request)).store.version ≡ w.store.version + 1
    stored (x, (same, calm)) =
        let writes = lasting_writes w x calm (subst (λ y. LastsBetween w (world_after w y) (reply_to y)) same lasts) in
        written_rises w (effect setup w kind request) writes.object (ap written_by same ∙ writes.written)

    so : (is_for_store request ≡ true) ⊎ NeverLasts setup w kind request → (world_after w (effect setup w kind request)).store.version ≡ w.store.version + 1
    so (inl is) = stored (stored_effect setup w kind request is)
    so (inr never) = absurd (never lasts)

    by : (b : Bool) → is_aside request ≡ b → (world_after w (effect setup w kind request)).store.version ≡ w.store.version + 1
    by true e = absurd (none_aside kind mine request sure may e)
    by false e = so (kind_of_call setup w kind request e)
