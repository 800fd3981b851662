-- Where all objects of a kind were listed once, of each key of the kind something was told; and caches show that they were listed.
use Rattle.std.proofs.Common.{◌≡◌, ◌∙◌, ℕ, List, [], ◌∷◌, Bool, true, false, true≢false, Option, Some, None, inl, inr, refl, sym, ap, subst, if◌then◌else◌}
use Rattle.std.specs.Prelude.{◌⊎◌, ◌==◌, is_some, nat_lt}
use Rattle.kube_objects.specs.declared.key.Key.{Key}
use Rattle.kube_parts.specs.declared.parts.Kind.{Kind}
use Rattle.kube_parts.specs.declared.parts.Kind.TheVariants as kinds
use Rattle.kube_objects.specs.Keys.{kind_index, row_at, same_kind}
use Rattle.call_types.specs.declared.entry.Entry.{Entry}
use Rattle.call_types.specs.declared.request.Request.{Request}
use Rattle.call_types.specs.declared.request.Request.TheVariants as requests
use Rattle.call_types.specs.declared.reply.Refusal.TheVariants.{Gone}
use Rattle.call_types.specs.declared.reply.Reply.{Reply}
use Rattle.call_types.specs.declared.reply.Reply.TheVariants.{Events, Listed, Refused}
use Rattle.binder_model.specs.Reading.{Following, ListedAt, Unlisted, follow_on, following_of, reached_on}
use Rattle.binder_model.specs.Told.{IsAbsenceOf, Telling, later, listing, newest, object_of, tells_of, told_of}
use Rattle.informer_cache.specs.Cache.{watch_from}
use Rattle.reclaim_ops.specs.BeginLaw.{DecidesStill, ListedMayDecide}
use Rattle.reclaim_ops.specs.Evidence.{IsListOf, WasListed}

-- something was told

later_left : (a b : Option Telling) → is_some a ≡ true → is_some (later a b) ≡ true
later_left None b h = absurd (true≢false (sym h))
later_left (Some a) None h = refl
later_left (Some a) (Some b) h = by (nat_lt a.version b.version)
  where
    by : (t : Bool) → is_some (if t then Some b else Some a) ≡ true
    by true = refl
    by false = refl

later_right : (a b : Option Telling) → is_some b ≡ true → is_some (later a b) ≡ true
later_right None b h = h
later_right (Some a) None h = absurd (true≢false (sym h))
later_right (Some a) (Some b) h = later_left (Some a) (Some b) refl

list_tells : (kind : Kind) (request : Request) (reply : Reply) (key : Key) → IsListOf kind request reply → kind ≡ key.kind → is_some (tells_of request reply key) ≡ true
list_tells kind (requests.List k None) (Listed items version) key is of =
    let same : (kind_index k == kind_index key.kind) ≡ true = subst (λ n. same_kind k n ≡ true) of is in
    ap (λ b. is_some (if b then Some (listing version (row_at key items)) else None)) same
list_tells kind _ _ key is of = absurd is

pub listed_is_told : (kind : Kind) (mine : List Entry) (key : Key) → WasListed kind mine → kind ≡ key.kind → is_some (newest mine key) ≡ true
listed_is_told kind [] key h of = absurd h
listed_is_told kind (e ∷ mine) key (inl is) of =
    let told : is_some (told_of e key) ≡ true = ap (λ b. is_some (if b then tells_of e.request e.reply key else None)) is.0 ∙ list_tells kind e.request e.reply key is.1 of in
    later_left (told_of e key) (newest mine key) told
listed_is_told kind (e ∷ mine) key (inr h) of = later_right (told_of e key) (newest mine key) (listed_is_told kind mine key h of)

pub absent : (t : Option Telling) → is_some t ≡ true → object_of t ≡ None → IsAbsenceOf t
absent None some none = absurd (true≢false (sym some))
absent (Some t) some none = none

-- a kind that the caches have listed was listed

is_listed : Following → Bool
is_listed Unlisted = false
is_listed (ListedAt version reached) = true

reached : (upto : ℕ) (f : Following) → is_listed (reached_on upto f) ≡ true → is_listed f ≡ true
unfolding is_listed
reached upto Unlisted h = h
reached upto (ListedAt version seen) h = refl

step_listed : (kind : Kind) (request : Request) (reply : Reply) (f : Following) → is_listed (follow_on request reply kind f) ≡ true → IsListOf kind request reply ⊎ (is_listed f ≡ true)
unfolding is_listed
step_listed kind (requests.List k None) (Listed items version) f h = by (same_kind k kind) refl h
  where
    by : (b : Bool) → same_kind k kind ≡ b → is_listed (if b then ListedAt version None else f) ≡ true → (same_kind k kind ≡ true) ⊎ (is_listed f ≡ true)
    by true is x = inl is
    by false is x = inr x
step_listed kind (requests.Watch k from) (Events events) f h = by (same_kind k kind) h
  where
    by : (b : Bool) → is_listed (if b then reached_on events.upto f else f) ≡ true → ⊥ ⊎ (is_listed f ≡ true)
    by true x = inr (reached events.upto f x)
    by false x = inr x
step_listed kind (requests.Watch k from) (Refused (Gone oldest)) f h = by (same_kind k kind) h
  where
    by : (b : Bool) → is_listed (if b then Unlisted else f) ≡ true → ⊥ ⊎ (is_listed f ≡ true)
    by true x = absurd (true≢false (sym x))
    by false x = inr x
step_listed kind _ _ f h = inr h

listed_in : (kind : Kind) (mine : List Entry) → is_listed (following_of mine kind) ≡ true → WasListed kind mine
unfolding is_listed
listed_in kind [] h = absurd (true≢false (sym h))
listed_in kind (e ∷ mine) h = by e.told refl h (listed_in kind mine)
  where
    by : (b : Bool) → e.told ≡ b → is_listed (if b then follow_on e.request e.reply kind (following_of mine kind) else following_of mine kind) ≡ true
        → (is_listed (following_of mine kind) ≡ true → WasListed kind mine) → WasListed kind (e ∷ mine)
    by false told x rest = inr (rest x)
    by true told x rest = elim (step_listed kind e.request e.reply (following_of mine kind) x) [ inl list ↦ inl (told, list) | inr before ↦ inr (rest before) ]

from_listed : (f : Following) → is_some (watch_from f) ≡ true → is_listed f ≡ true
unfolding is_listed
from_listed Unlisted h = absurd (true≢false (sym h))
from_listed (ListedAt version reached) h = refl

pub listed_may_decide : ListedMayDecide
listed_may_decide caches mine stand has =
    let from : caches.nodes.from ≡ watch_from (following_of mine kinds.Node) = (stand.each kinds.Node).from ∙ ap (λ k. watch_from (following_of mine k)) (stand.kinds kinds.Node) in
    record { nodes = listed_in kinds.Node mine (from_listed (following_of mine kinds.Node) (sym (ap is_some from) ∙ has)) }

pub decides_still : DecidesStill
decides_still mine e may = record { nodes = inr may.nodes }
