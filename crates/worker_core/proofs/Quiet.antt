-- Kinds without news.
use Rattle.std.proofs.Common.{◌≡◌, ℕ, List, [], ◌∷◌, Bool, true, false, true≢false, Some, None, refl, sym, ◌∙◌, ap, subst}
use Rattle.std.specs.Prelude.{◌&&◌}
use Rattle.kube_parts.specs.declared.parts.Kind.{Kind}
use Rattle.kube_objects.specs.Keys.{same_kind}
use Rattle.kube_objects.proofs.SameKeys.{same_kind-Decides}
use Rattle.call_types.specs.declared.entry.Entry.{Entry}
use Rattle.call_types.specs.declared.request.Request.{Request}
use Rattle.call_types.specs.declared.request.Request.TheVariants as requests
use Rattle.call_types.specs.declared.request.SeatKind.{SeatKind}
use Rattle.call_types.specs.declared.reply.Refusal.TheVariants as refusals
use Rattle.call_types.specs.declared.reply.Reply.{Reply}
use Rattle.call_types.specs.declared.reply.Reply.TheVariants as replies
use Rattle.binder_model.specs.Licence.{Licensed}
use Rattle.binder_model.specs.Reading.{Following, Unlisted, ListedAt, IsFrom, follow_on, following_of}
use Rattle.call_types.specs.Kinds.{reads_kind}
use Rattle.worker_core.specs.Roles.{IsBuiltKind}
use Rattle.worker_core.specs.Stands.{AreLicensed, HasNoNews, IsEmptyWatch}
use Rattle.worker_core.proofs.ByKind.{watch_licensed}

-- an entry that is no read of the kind, or was not told, brings no news of it
pub quiet_on : (kind : Kind) (mine : List Entry) (e : Entry) → (e.told && reads_kind kind e.request) ≡ false → HasNoNews kind mine → HasNoNews kind (e ∷ mine)
quiet_on kind mine e other quiet = rw other quiet

-- after a watch without events there is none
pub quiet_now : (kind : Kind) (mine : List Entry) (e : Entry) → (e.told && reads_kind kind e.request) ≡ true → IsEmptyWatch e.request e.reply → HasNoNews kind (e ∷ mine)
quiet_now kind mine e own empty = rw own empty

-- kinds that are the same
pub alike : (a b : Kind) → same_kind a b ≡ true → a ≡ b
alike a b e = (same_kind-Decides a b).0 e

pub itself : (a : Kind) → same_kind a a ≡ true
itself a = (same_kind-Decides a a).1 refl

-- a told entry that is no read of the kind
pub unread : (kind : Kind) (e : Entry) → reads_kind kind e.request ≡ false → (e.told && reads_kind kind e.request) ≡ false
unread kind e h = by e.told
  where
    by : (t : Bool) → (t && reads_kind kind e.request) ≡ false
    by true = h
    by false = refl

-- an entry that is no read of the kind leaves where the seat stands with it
follows_on : (kind : Kind) (request : Request) (reply : Reply) (f : Following) → reads_kind kind request ≡ false → follow_on request reply kind f ≡ f
follows_on kind (requests.List k None) (replies.Listed items version) f h = rw h refl
follows_on kind (requests.Watch k from) (replies.Refused (refusals.Gone oldest)) f h = rw h refl
follows_on kind (requests.Watch k from) (replies.Events events) f h = rw h refl
follows_on kind (requests.List k None) _ f h = refl
follows_on kind (requests.Watch k from) _ f h = refl
follows_on kind _ _ f h = refl

-- where the seat watches a kind it is listed

abbrev stands_listed : Following → Bool
stands_listed Unlisted = false
stands_listed (ListedAt version reached) = true

watch_listed : (kind k : Kind) (from : ℕ) (reply : Reply) (f : Following) → same_kind k kind ≡ true → IsFrom from f
    → IsEmptyWatch (requests.Watch k from) reply → follow_on (requests.Watch k from) reply kind f ≡ Unlisted → ⊥
watch_listed kind k from (replies.Events events) Unlisted same at empty e = at
watch_listed kind k from (replies.Events events) (ListedAt version reached) same at empty e =
    let h : ListedAt version (Some events.upto) ≡ Unlisted = rw same at e in
    true≢false (ap stands_listed h)
watch_listed kind k from _ f same at empty e = empty

empty_listed : (seat : SeatKind) (kind : Kind) (mine : List Entry) (request : Request) (reply : Reply) → IsBuiltKind seat
    → reads_kind kind request ≡ true → Licensed seat mine request → IsEmptyWatch request reply → follow_on request reply kind (following_of mine kind) ≡ Unlisted → ⊥
empty_listed seat kind mine (requests.Watch k from) reply built own may empty e =
    watch_listed kind k from reply (following_of mine kind) own (subst (λ x. IsFrom from (following_of mine x)) (alike k kind own) (watch_licensed seat mine k from built may)) empty e
empty_listed seat kind mine _ reply built own may empty e = empty

-- a kind without news is listed
pub quiet_listed : (seat : SeatKind) (kind : Kind) (mine : List Entry) → IsBuiltKind seat → AreLicensed seat mine → HasNoNews kind mine → following_of mine kind ≡ Unlisted → ⊥
quiet_listed seat kind [] built l q e = q
quiet_listed seat kind (x ∷ mine) built l q e = by x.told (reads_kind kind x.request) refl refl (quiet_listed seat kind mine built l.0)
  where
    by : (t r : Bool) → x.told ≡ t → reads_kind kind x.request ≡ r → (HasNoNews kind mine → following_of mine kind ≡ Unlisted → ⊥) → ⊥
    by true true told own before =
        let q2 : IsEmptyWatch x.request x.reply = rw (told, own) at q in
        let e2 : follow_on x.request x.reply kind (following_of mine kind) ≡ Unlisted = rw told at e in
        empty_listed seat kind mine x.request x.reply built own l.2 q2 e2
    by true false told own before =
        let q2 : HasNoNews kind mine = rw (told, own) at q in
        let e2 : follow_on x.request x.reply kind (following_of mine kind) ≡ Unlisted = rw told at e in
        before q2 (sym (follows_on kind x.request x.reply (following_of mine kind) own) ∙ e2)
    by false r told own before =
        let q2 : HasNoNews kind mine = rw told at q in
        let e2 : following_of mine kind ≡ Unlisted = rw told at e in
        before q2 e2
