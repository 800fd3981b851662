-- What caches show of a node that was told absent.
use Rattle.std.proofs.Common.{◌≡◌, ℕ, List, [], ◌∷◌, Bool, true, false, Option, Some, None, refl, sym, ◌∙◌, if◌then◌else◌}
use Rattle.std.specs.Prelude.{nat_lt}
use Rattle.kube_parts.specs.declared.parts.Kind.TheVariants as kinds
use Rattle.kube_objects.specs.declared.objects.Object.{Object}
use Rattle.kube_objects.specs.declared.key.Key.{Key}
use Rattle.kube_objects.specs.Keys.{row_at, same_kind}
use Rattle.call_types.specs.declared.entry.Entry.{Entry}
use Rattle.call_types.specs.declared.request.Request.{Request}
use Rattle.call_types.specs.declared.request.Request.TheVariants as requests
use Rattle.call_types.specs.declared.reply.Reply.{Reply}
use Rattle.call_types.specs.declared.reply.Reply.TheVariants as replies
use Rattle.call_types.specs.declared.reply.Refusal.TheVariants.{Gone}
use Rattle.binder_model.specs.ObjectKeys.{node_key}
use Rattle.binder_model.specs.Reading.{Following, IsFrom, Unlisted, follow_on, following_of, reached_on}
use Rattle.binder_model.specs.Told.{IsAbsenceOf, IsNewest, IsNewestAbsent, Telling, later, newest, object_of, tells_of}
use Rattle.informer_cache.specs.All.{AllKnown, AllStandFor, all_objects, cache_of}
use Rattle.informer_cache.specs.Cache.{ask_of}
use Rattle.informer_cache.specs.declared.cache.NextRead.{NextRead}
use Rattle.informer_cache.specs.declared.cache.NextRead.TheVariants as asks
use Rattle.model_laws.proofs.Follows.{watched_before}
use Rattle.model_laws.proofs.Lists.{none_some}
use Rattle.evidence_pages.proofs.Reading.{from_by}

later_none : (a b : Option Telling) → later a b ≡ None → (a ≡ None) × (b ≡ None)
later_none None b h = (refl, h)
later_none (Some a) None h = none_some (sym h)
later_none (Some a) (Some b) h = by (nat_lt a.version b.version) h
  where
    by : (t : Bool) → (if t then Some b else Some a) ≡ None → (Some a ≡ None) × (Some b ≡ None)
    by true e = none_some (sym e)
    by false e = none_some (sym e)

-- where the nodes may be watched after an answer, it told of each of them, or they might have been watched before
step : (name : List ℕ) (request : Request) (reply : Reply) (f : Following) (from : ℕ) → ((n : ℕ) → IsFrom n f → ⊥)
    → IsFrom from (follow_on request reply kinds.Node f) → tells_of request reply (node_key name) ≡ None → ⊥
step name (requests.List kinds.Node None) (replies.Listed items version) f from rest h none = none_some (sym none)
step name (requests.List kinds.Pod None) (replies.Listed items version) f from rest h none = rest from h
step name (requests.List kinds.StorageClass None) (replies.Listed items version) f from rest h none = rest from h
step name (requests.List kinds.PersistentVolume None) (replies.Listed items version) f from rest h none = rest from h
step name (requests.List kinds.PersistentVolumeClaim None) (replies.Listed items version) f from rest h none = rest from h
step name (requests.Watch k at) (replies.Events events) f from rest h none = by (same_kind k kinds.Node) h
  where
    by : (b : Bool) → IsFrom from (if b then reached_on events.upto f else f) → ⊥
    by true x = watched_before events.upto from f ⊥ rest x
    by false x = rest from x
step name (requests.Watch k at) (replies.Refused (Gone oldest)) f from rest h none = by (same_kind k kinds.Node) h
  where
    by : (b : Bool) → IsFrom from (if b then Unlisted else f) → ⊥
    by true x = absurd x
    by false x = rest from x
step name _ _ f from rest h none = rest from h

-- where the nodes may be watched, each of them was told, or its absence
told_of_each : (name : List ℕ) (mine : List Entry) (from : ℕ) → IsFrom from (following_of mine kinds.Node) → newest mine (node_key name) ≡ None → ⊥
told_of_each name [] from h none = absurd h
told_of_each name (e ∷ mine) from h none =
    let both = later_none _ _ none in
    by e.told h both.0 (λ n x. told_of_each name mine n x both.1)
  where
    by : (b : Bool) → IsFrom from (if b then follow_on e.request e.reply kinds.Node (following_of mine kinds.Node) else following_of mine kinds.Node)
        → (if b then tells_of e.request e.reply (node_key name) else None) ≡ None → ((n : ℕ) → IsFrom n (following_of mine kinds.Node) → ⊥) → ⊥
    by false x none rest = rest from x
    by true x none rest = step name e.request e.reply (following_of mine kinds.Node) from rest x none

absence : (t : Option Telling) → (t ≡ None → ⊥) → object_of t ≡ None → IsAbsenceOf t
absence None some none = absurd (some refl)
absence (Some t) some none = none

pub absent_by : (c : AllKnown) (mine : List Entry) (name : List ℕ) (found : Option Object) (ask : NextRead) (from : ℕ)
    → found ≡ row_at (node_key name) (all_objects c) → found ≡ None → ask ≡ ask_of (cache_of kinds.Node c) → ask ≡ asks.Watch from → AllStandFor c mine → IsNewestAbsent mine (node_key name)
absent_by c mine name found ask from is none asked watch all =
    absence (newest mine (node_key name)) (told_of_each name mine from (from_by c mine kinds.Node ask from asked watch all)) (sym (all.rows (node_key name)) ∙ sym is ∙ none)

-- the newest told of a key
pub newest_by : (c : AllKnown) (key : Key) (found : Option Object) (o : Object) → found ≡ row_at key (all_objects c) → found ≡ Some o → (mine : List Entry) → AllStandFor c mine → IsNewest mine key o
newest_by c key found o is at mine all = sym (all.rows key) ∙ sym is ∙ at
