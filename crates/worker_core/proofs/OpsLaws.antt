-- A provisioner and reclaimer that has listed the kinds that it follows may decide each key by its caches.
use Rattle.std.proofs.Common.{◌≡◌, ℕ, zero, suc, List, [], ◌∷◌, Bool, true, false, Some, None, refl, sym, subst, if◌then◌else◌}
use Rattle.std.specs.Prelude.{slice_get}
use Rattle.kube_parts.specs.declared.parts.Kind.{Kind}
use Rattle.kube_parts.specs.declared.parts.Kind.TheVariants as kinds
use Rattle.call_types.specs.declared.entry.Entry.{Entry}
use Rattle.call_types.specs.declared.request.SeatKind.TheVariants as seats
use Rattle.informer_cache.specs.All.{AllKnown, AllStandFor}
use Rattle.model_laws.proofs.Lists.{none_some, one}
use Rattle.reclaim_ops.specs.Evidence.{MayDecide}
use Rattle.reclaim_ops.proofs.Listings.{listed_may_decide}
use Rattle.worker_core.specs.Roles.{kinds_of}
use Rattle.worker_core.specs.Turns.{first_unlisted, is_listed}

-- where none of the kinds is still to be listed, the one at each place is listed
pub listed_at : (c : AllKnown) (ks : List Kind) (place : ℕ) (kind : Kind) → first_unlisted c ks ≡ None → slice_get ks place ≡ Some kind → is_listed c kind ≡ true
listed_at c [] place kind none at = none_some at
listed_at c (k ∷ ks) zero kind none at = front (is_listed c k) refl none
  where
    front : (b : Bool) → is_listed c k ≡ b → (if b then first_unlisted c ks else Some k) ≡ None → is_listed c kind ≡ true
    front true is n = subst (λ x. is_listed c x ≡ true) (one k kind at) is
    front false is n = none_some (sym n)
listed_at c (k ∷ ks) (suc place) kind none at = after (is_listed c k) none (λ n. listed_at c ks place kind n at)
  where
    after : (b : Bool) → (if b then first_unlisted c ks else Some k) ≡ None → (first_unlisted c ks ≡ None → is_listed c kind ≡ true) → is_listed c kind ≡ true
    after true n more = more n
    after false n more = none_some (sym n)

pub may_decide : (c : AllKnown) (mine : List Entry) → AllStandFor c mine → first_unlisted c (kinds_of seats.Ops) ≡ None → MayDecide mine
may_decide c mine stand none = listed_may_decide c mine stand (listed_at c (kinds_of seats.Ops) 3 kinds.Node none refl)
