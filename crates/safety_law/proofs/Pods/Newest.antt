-- The newest telling of a pod's key is not below any that told the pod; so a pod that it shows staying was never told deleting.
use Rattle.std.proofs.Common.{◌≡◌, ◌∙◌, ℕ, ◌≤◌, List, [], ◌∷◌, Bool, true, false, true≢false, Option, Some, None, inl, inr, refl, sym, subst, ap, arith, if◌then◌else◌}
use Rattle.std.specs.Prelude.{◌==◌, ◌⊎◌, nat_lt}
use Rattle.kube_parts.specs.declared.parts.Kind.{Kind}
use Rattle.kube_parts.specs.declared.parts.Kind.TheVariants as kinds
use Rattle.kube_objects.specs.declared.objects.Pod.{Pod as PodData}
use Rattle.kube_objects.specs.declared.objects.Object.{Object}
use Rattle.kube_objects.specs.declared.objects.Object.TheVariants.{Class, Node, Volume, Claim, Pod}
use Rattle.kube_objects.specs.Keys.{AreRows, key_of, row_at}
use Rattle.call_types.specs.declared.entry.Entry.{Entry}
use Rattle.call_types.specs.declared.setup.Setup.{Setup}
use Rattle.call_types.specs.declared.request.Request.{Request}
use Rattle.call_types.specs.declared.request.Request.TheVariants as requests
use Rattle.call_types.specs.declared.request.SeatKind.{SeatKind}
use Rattle.call_types.specs.declared.reply.Refusal.{Refusal}
use Rattle.call_types.specs.declared.reply.Reply.{Reply}
use Rattle.call_types.specs.declared.reply.Reply.TheVariants as replies
use Rattle.binder_model.specs.AgentLicence.{is_pod_list}
use Rattle.binder_model.specs.Answers.{reply_of}
use Rattle.binder_model.specs.Told.{IsPodWith, Telling, TellsObject, ToldObject, ToldPod, newest, object_of, objects_in, own, tells_of, told_of}
use Rattle.binder_model.specs.Watching.{oldest, told_events}
use Rattle.binder_model.specs.World.{IsHistory, World, base, effect, reply_to, watch, world}
use Rattle.model_laws.proofs.Goings.{lists_are_in_order}
use Rattle.model_laws.proofs.Histories.{rows_stand_in_order}
use Rattle.model_laws.proofs.Lists.{IsIn, some_is, some_map}
use Rattle.model_laws.proofs.Newest.{newest_told}
use Rattle.model_laws.proofs.Readings.{member_stands}
use Rattle.model_laws.proofs.Stood.{one_uid_one_key}
use Rattle.model_laws.proofs.Truths.{told_is_true}
use Rattle.safety_law.specs.Pods.Deletion.{IsDeletingPod, StayingWasNeverDeleting}
use Rattle.safety_law.specs.Pods.Tellings.{AreToldByReads, TellsByRead, is_watch_of_pods}
use Rattle.safety_law.proofs.Pods.Deletion.{deletions_stay}
use Rattle.safety_law.proofs.Pods.Told.{IsDated, IsDatedReply, IsFrom, dated, events_from, from_first, from_second, newest_dated, telling}

-- what is true of events and of refusals is true of the answer to a watch
watch_says : (P : Reply → Type 0) (setup : Setup) (w : World) (kind : SeatKind) (k : Kind) (from : ℕ) → ((r : Refusal) → P (replies.Refused r))
    → P (replies.Events (told_events k from w.store.version w.log)) → P (reply_to (effect setup w kind (requests.Watch k from)))
unfolding effect watch reply_to reply_of
watch_says P setup w kind k from refused events = by (nat_lt w.store.version from) (nat_lt from (oldest (base setup) w.store.version)) refl refl
  where
    by : (a b : Bool) → nat_lt w.store.version from ≡ a → nat_lt from (oldest (base setup) w.store.version) ≡ b → P (reply_to (effect setup w kind (requests.Watch k from)))
    by true b ea eb = rw ea (refused _)
    by false true ea eb = rw (ea, eb) (refused _)
    by false false ea eb = rw (ea, eb) events

-- an entry that tells a pod tells its key, at its version or a later one

module _ (setup : Setup) (e : Entry) (past : List Entry) (answered : e.reply ≡ reply_to (effect setup (world setup past) e.kind e.request))
    (p : PodData) (told : IsIn (Pod p) (objects_in e.reply)) where
  listed_from : (request : Request) (reply : Reply) → e.request ≡ request → e.reply ≡ reply → is_pod_list request reply ≡ true → IsFrom p.meta.version (tells_of request reply (key_of (Pod p)))
  listed_from (requests.List kinds.Pod None) (replies.Listed items version) asks is list =
      let same : reply_to (effect setup (world setup past) e.kind (requests.List kinds.Pod None)) ≡ replies.Listed items version =
      sym (answered ∙ ap (λ r. reply_to (effect setup (world setup past) e.kind r)) asks) ∙ is in
      let rows : AreRows items = lists_are_in_order setup (world setup past) e.kind kinds.Pod None items version (rows_stand_in_order setup past) same in
      let at : row_at (key_of (Pod p)) items ≡ Some (Pod p) = member_stands (Pod p) items rows (subst (λ r. IsIn (Pod p) (objects_in r)) is told) in
      rw at (omega arith)
  listed_from request reply asks is list = absurd (true≢false (sym list))

  watched_from : (request : Request) → e.request ≡ request → is_watch_of_pods request ≡ true → IsFrom p.meta.version (tells_of request e.reply (key_of (Pod p)))
  watched_from (requests.Watch kinds.Pod from) asks watch =
      subst Tells (sym (answered ∙ ap (λ r. reply_to (effect setup (world setup past) e.kind r)) asks))
      (watch_says Tells setup (world setup past) e.kind kinds.Pod from (λ r d h. absurd h) (λ d h. events_from _ (Pod p) d h)) (dated setup e past answered) told
    where
      Tells : Reply → Type 0
      Tells reply = IsDatedReply reply → IsIn (Pod p) (objects_in reply) → IsFrom p.meta.version (tells_of (requests.Watch kinds.Pod from) reply (key_of (Pod p)))
  watched_from request asks watch = absurd (true≢false (sym watch))

in_told : (p : PodData) (e : Entry) → TellsObject (λ x. x ≡ Pod p) e → TellsObject (IsPodWith (λ q. q ≡ p)) e
in_told p e t = (t.0, some_map (λ x is. subst (IsPodWith (λ q. q ≡ p)) (sym is) refl) (objects_in e.reply) t.1)

entry_from : (setup : Setup) (e : Entry) (past : List Entry) → e.reply ≡ reply_to (effect setup (world setup past) e.kind e.request) → TellsByRead e
    → (p : PodData) → TellsObject (λ x. x ≡ Pod p) e → IsFrom p.meta.version (told_of e (key_of (Pod p)))
entry_from setup e past answered reads p t = by (reads (telling (λ q. q ≡ p) e (in_told p e t)))
  where
    told : e.told ≡ true
    told = t.0

    by : (is_pod_list e.request e.reply ≡ true) ⊎ (is_watch_of_pods e.request ≡ true) → IsFrom p.meta.version (told_of e (key_of (Pod p)))
    by (inl list) = rw told (listed_from setup e past answered p t.1 e.request e.reply refl refl list)
    by (inr watch) = rw told (watched_from setup e past answered p t.1 e.request refl watch)

told_from : (setup : Setup) (past : List Entry) → IsHistory setup past → (seat : ℕ) → AreToldByReads (own seat past)
    → (p : PodData) → ToldObject (λ x. x ≡ Pod p) (own seat past) → IsFrom p.meta.version (newest (own seat past) (key_of (Pod p)))
told_from setup [] history seat reads p told = absurd told
told_from setup (e ∷ past) history seat reads p told = by (e.seat == seat) reads told (told_from setup past history.0 seat)
  where
    by : (b : Bool) → AreToldByReads (if b then e ∷ own seat past else own seat past) → ToldObject (λ x. x ≡ Pod p) (if b then e ∷ own seat past else own seat past)
        → (AreToldByReads (own seat past) → (q : PodData) → ToldObject (λ x. x ≡ Pod q) (own seat past) → IsFrom q.meta.version (newest (own seat past) (key_of (Pod q))))
        → IsFrom p.meta.version (newest (if b then e ∷ own seat past else own seat past) (key_of (Pod p)))
    by true r (inl now) rest = from_first p.meta.version (told_of e (key_of (Pod p))) (newest (own seat past) (key_of (Pod p))) (entry_from setup e past history.1 r.0 p now)
    by true r (inr more) rest = from_second p.meta.version (told_of e (key_of (Pod p))) (newest (own seat past) (key_of (Pod p))) (rest r.1 p more)
    by false r more rest = rest r p more

-- a pod that was told, of which P holds
told_one : (P : PodData → Type 0) (mine : List Entry) → ToldPod P mine → (p : PodData) × (ToldObject (λ x. x ≡ Pod p) mine × P p)
told_one P [] told = absurd told
told_one P (e ∷ mine) (inr more) = let r = told_one P mine more in (r.0, (inr r.1.0, r.1.1))
told_one P (e ∷ mine) (inl now) = let o = some_is (IsPodWith P) (objects_in e.reply) now.1 in by o.0 o.1.0 o.1.1
  where
    by : (o : Object) → IsIn o (objects_in e.reply) → IsPodWith P o → (p : PodData) × (ToldObject (λ x. x ≡ Pod p) (e ∷ mine) × P p)
    by (Pod p) there is = (p, (inl (now.0, there), is))
    by (Class x) there is = absurd is
    by (Node x) there is = absurd is
    by (Volume x) there is = absurd is
    by (Claim x) there is = absurd is

at_most : (version : ℕ) (p : PodData) (x : Option Telling) → IsFrom version x → IsDated x → object_of x ≡ Some (Pod p) → version ≤ p.meta.version
at_most version p None from dated_x is = absurd from
at_most version p (Some t) from dated_x is = let at = dated_x (Pod p) is in omega (arith, from, at)

pub staying_was_never_deleting : StayingWasNeverDeleting
staying_was_never_deleting setup past seat pass short history reads p uid shown its staying told =
    let q = told_one (IsDeletingPod uid) (own seat past) told in
    let was_q = told_is_true setup past seat (Pod q.0) history q.1.0 in
    let was_p = told_is_true setup past seat (Pod p) history (newest_told (own seat past) (key_of (Pod p)) (Pod p) shown) in
    let key : key_of (Pod q.0) ≡ key_of (Pod p) = one_uid_one_key setup past pass short (Pod q.0) (Pod p) uid was_q was_p q.1.1.same its in
    let from = subst (λ k. IsFrom q.0.meta.version (newest (own seat past) k)) key (told_from setup past history seat reads q.0 q.1.0) in
    let low = at_most q.0.meta.version p (newest (own seat past) (key_of (Pod p))) from (newest_dated setup past history seat (key_of (Pod p))) shown in
    true≢false (sym (deletions_stay setup past pass short (Pod q.0) (Pod p) uid was_q was_p q.1.1.same its low q.1.1.deleting) ∙ staying)
