-- The newest told object of a key was told.
use Rattle.std.proofs.Common.{refl, sym, subst, inl, inr, ◌∙◌}
use Rattle.std.specs.Prelude.{ℕ, ◌≡◌, ◌⊎◌, Bool, true, false, List, [], ◌∷◌, Option, Some, None, nat_lt, if◌then◌else◌}
use Rattle.kube_objects.specs.declared.key.Key.{Key}
use Rattle.kube_objects.specs.declared.objects.Volume.{Volume as VolumeData}
use Rattle.kube_objects.specs.declared.objects.Claim.{Claim as ClaimData}
use Rattle.kube_objects.specs.declared.objects.Object.{Object}
use Rattle.kube_objects.specs.declared.objects.Object.TheVariants.{Volume, Claim}
use Rattle.kube_objects.specs.Keys.{meta_of, row_at}
use Rattle.call_types.specs.declared.entry.Entry.{Entry}
use Rattle.call_types.specs.declared.request.Request.{Request}
use Rattle.call_types.specs.declared.reply.Change.{Change}
use Rattle.call_types.specs.declared.reply.Change.TheVariants as changes
use Rattle.call_types.specs.declared.reply.Event.{Event}
use Rattle.call_types.specs.declared.reply.Reply.{Reply}
use Rattle.call_types.specs.declared.reply.Reply.TheVariants.{Done, Left, Listed, Events}
use Rattle.binder_model.specs.Told.{
  ToldObject,
  ToldVolume,
  ToldClaim,
  IsVolumeWith,
  IsClaimWith,
  TellsObject,
  Telling,
  presence,
  later,
  listing,
  of_event,
  told_by_events,
  tells_of,
  told_of,
  newest,
  object_of,
  IsNewest,
  objects_in,
  objects_of_event,
  objects_of_events,
}
use Rattle.model_laws.proofs.Evidence.{told_map}
use Rattle.model_laws.proofs.Readings.{found_stands}
use Rattle.model_laws.proofs.Lists.{IsIn, one, none_some, some_left, some_right}

later_of : (a b : Option Telling) (o : Object) → object_of (later a b) ≡ Some o → (object_of a ≡ Some o) ⊎ (object_of b ≡ Some o)
later_of None b o e = inr e
later_of (Some a) None o e = inl e
later_of (Some a) (Some b) o e = by (nat_lt a.version b.version) e
  where
    by : (t : Bool) → object_of (if t then Some b else Some a) ≡ Some o → (object_of (Some a) ≡ Some o) ⊎ (object_of (Some b) ≡ Some o)
    by true e = inr e
    by false e = inl e

-- an object that is told where a test holds
told_if : (b : Bool) (t : Telling) (o : Object) → object_of (if b then Some t else None) ≡ Some o → t.object ≡ Some o
told_if true t o e = e
told_if false t o e = none_some e

event_tells : (c : Change) (p o : Object) (version : ℕ) → (of_event c p version).object ≡ Some o → IsIn o (objects_of_event c p)
event_tells changes.Added p o version e = inl (one p o e)
event_tells changes.Modified p o version e = inl (one p o e)
event_tells changes.Deleted p o version e = none_some e

events_tell : (es : List Event) (key : Key) (o : Object) → object_of (told_by_events es key) ≡ Some o → IsIn o (objects_of_events es)
events_tell [] key o e = none_some e
events_tell (x ∷ es) key o e = elim (later_of _ (told_by_events es key) o e) [
  | inl here ↦ some_left (λ y. y ≡ o) (objects_of_event x.change x.object) (objects_of_events es) (event_tells x.change x.object o x.version (told_if _ (of_event x.change x.object x.version) o here))
  | inr more ↦ some_right (λ y. y ≡ o) (objects_of_event x.change x.object) (objects_of_events es) (events_tell es key o more)
]

list_tells : (items : List Object) (key : Key) (version : ℕ) (x : Option Object) (o : Object) → row_at key items ≡ x → (listing version x).object ≡ Some o → IsIn o items
list_tells items key version None o is e = none_some e
list_tells items key version (Some p) o is e = found_stands key o items (is ∙ e)

reply_tells : (request : Request) (reply : Reply) (key : Key) (o : Object) → object_of (tells_of request reply key) ≡ Some o → IsIn o (objects_in reply)
reply_tells request (Done p) key o e = inl (one p o (told_if _ (presence p) o e))
reply_tells request (Left p) key o e = absurd (none_some (told_if _ (record { version = (meta_of p).version; object = None }) o e))
reply_tells request (Listed items version) key o e = list_tells items key version (row_at key items) o refl (told_if _ (listing version (row_at key items)) o e)
reply_tells request (Events events) key o e = events_tell events.events key o e
reply_tells request reply key o e = none_some e

entry_told : (e : Entry) (key : Key) (o : Object) → object_of (told_of e key) ≡ Some o → TellsObject (λ x. x ≡ o) e
entry_told e key o is = by e.told refl is
  where
    by : (b : Bool) → e.told ≡ b → object_of (if b then tells_of e.request e.reply key else None) ≡ Some o → TellsObject (λ x. x ≡ o) e
    by true t is = (t, reply_tells e.request e.reply key o is)
    by false t is = none_some is

pub newest_told : (mine : List Entry) (key : Key) (o : Object) → IsNewest mine key o → ToldObject (λ x. x ≡ o) mine
newest_told [] key o e = none_some e
newest_told (x ∷ mine) key o e = elim (later_of (told_of x key) (newest mine key) o e) [
  | inl here ↦ inl (entry_told x key o here)
  | inr more ↦ inr (newest_told mine key o more)
]

-- what holds of the newest told volume, and of the newest told claim, holds of a told one

pub newest_volume : (P : VolumeData → Type 0) (mine : List Entry) (key : Key) (v : VolumeData) → IsNewest mine key (Volume v) → P v → ToldVolume P mine
newest_volume P mine key v is holds = told_map {P = λ x. x ≡ Volume v} {Q = IsVolumeWith P} (λ o same. subst (IsVolumeWith P) (sym same) holds) mine (newest_told mine key (Volume v) is)

pub newest_claim : (P : ClaimData → Type 0) (mine : List Entry) (key : Key) (c : ClaimData) → IsNewest mine key (Claim c) → P c → ToldClaim P mine
newest_claim P mine key c is holds = told_map {P = λ x. x ≡ Claim c} {Q = IsClaimWith P} (λ o same. subst (IsClaimWith P) (sym same) holds) mine (newest_told mine key (Claim c) is)
