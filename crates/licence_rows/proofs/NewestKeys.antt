-- What was told newest of a key stands under it.
use Rattle.std.proofs.Common.{refl, ◌∙◌, subst}
use Rattle.std.specs.Prelude.{ℕ, ◌≡◌, Bool, true, false, List, [], ◌∷◌, Option, Some, None, nat_lt, if◌then◌else◌}
use Rattle.kube_objects.specs.declared.key.Key.{Key}
use Rattle.kube_objects.specs.declared.objects.Object.{Object}
use Rattle.kube_objects.specs.Keys.{key_of, meta_of, row_at, same_key}
use Rattle.kube_objects.proofs.KeyOrder.{row_at_key}
use Rattle.kube_objects.proofs.SameKeys.{same_key-Decides}
use Rattle.call_types.specs.declared.entry.Entry.{Entry}
use Rattle.call_types.specs.declared.request.Request.{Request}
use Rattle.call_types.specs.declared.reply.Change.{Change}
use Rattle.call_types.specs.declared.reply.Change.TheVariants as changes
use Rattle.call_types.specs.declared.reply.Event.{Event}
use Rattle.call_types.specs.declared.reply.Reply.{Reply}
use Rattle.call_types.specs.declared.reply.Reply.TheVariants.{Done, Left, Listed, Events}
use Rattle.binder_model.specs.Told.{IsNewest, Telling, later, listing, lists_key, newest, object_of, of_event, presence, tells_of, told_by_events, told_of}
use Rattle.model_laws.proofs.Lists.{none_some, one}

later_either : (G : Type 0) (a b : Option Telling) (o : Object) → (object_of a ≡ Some o → G) → (object_of b ≡ Some o → G) → object_of (later a b) ≡ Some o → G
later_either G None b o f g e = g e
later_either G (Some a) None o f g e = f e
later_either G (Some a) (Some b) o f g e = by (nat_lt a.version b.version) e
  where
    by : (t : Bool) → object_of (if t then Some b else Some a) ≡ Some o → G
    by true e = g e
    by false e = f e

-- told where its key is this one
keyed_if : (p o : Object) (key : Key) (t : Telling) → (t.object ≡ Some o → p ≡ o) → object_of (if same_key (key_of p) key then Some t else None) ≡ Some o → key_of o ≡ key
keyed_if p o key t same e = by (same_key (key_of p) key) refl e
  where
    by : (b : Bool) → same_key (key_of p) key ≡ b → object_of (if b then Some t else None) ≡ Some o → key_of o ≡ key
    by true is e = subst (λ x. key_of x ≡ key) (same e) ((same_key-Decides (key_of p) key).0 is)
    by false is e = none_some e

event_same : (c : Change) (p o : Object) (version : ℕ) → (of_event c p version).object ≡ Some o → p ≡ o
event_same changes.Added p o version e = one p o e
event_same changes.Modified p o version e = one p o e
event_same changes.Deleted p o version e = none_some e

events_keyed : (es : List Event) (key : Key) (o : Object) → object_of (told_by_events es key) ≡ Some o → key_of o ≡ key
events_keyed [] key o e = none_some e
events_keyed (x ∷ es) key o e =
    later_either (key_of o ≡ key) (if same_key (key_of x.object) key then Some (of_event x.change x.object x.version) else None) (told_by_events es key) o
    (keyed_if x.object o key (of_event x.change x.object x.version) (event_same x.change x.object o x.version)) (events_keyed es key o) e

list_keyed : (items : List Object) (key : Key) (version : ℕ) (x : Option Object) (o : Object) → row_at key items ≡ x → (listing version x).object ≡ Some o → key_of o ≡ key
list_keyed items key version None o is e = none_some e
list_keyed items key version (Some p) o is e = row_at_key key o items (is ∙ e)

reply_keyed : (request : Request) (reply : Reply) (key : Key) (o : Object) → object_of (tells_of request reply key) ≡ Some o → key_of o ≡ key
reply_keyed request (Done p) key o e = keyed_if p o key (presence p) (one p o) e
reply_keyed request (Left p) key o e = keyed_if p o key (record { version = (meta_of p).version; object = None }) (λ n. none_some n) e
reply_keyed request (Listed items version) key o e = by (lists_key request key) e
  where
    by : (b : Bool) → object_of (if b then Some (listing version (row_at key items)) else None) ≡ Some o → key_of o ≡ key
    by true e = list_keyed items key version (row_at key items) o refl e
    by false e = none_some e
reply_keyed request (Events events) key o e = events_keyed events.events key o e
reply_keyed request reply key o e = none_some e

entry_keyed : (e : Entry) (key : Key) (o : Object) → object_of (told_of e key) ≡ Some o → key_of o ≡ key
entry_keyed e key o is = by e.told is
  where
    by : (b : Bool) → object_of (if b then tells_of e.request e.reply key else None) ≡ Some o → key_of o ≡ key
    by true is = reply_keyed e.request e.reply key o is
    by false is = none_some is

pub newest_keyed : (mine : List Entry) (key : Key) (o : Object) → IsNewest mine key o → key_of o ≡ key
newest_keyed [] key o e = none_some e
newest_keyed (x ∷ mine) key o e = later_either (key_of o ≡ key) (told_of x key) (newest mine key) o (entry_keyed x key o) (newest_keyed mine key o) e
