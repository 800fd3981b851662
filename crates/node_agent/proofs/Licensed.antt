-- What the licence of an agent's earlier calls gives: no pod was finished that was not told deleting, and an agent that took its node
-- first has started.
use Rattle.std.proofs.Common.{◌≡◌, ◌∙◌, ℕ, List, [], ◌∷◌, Bool, true, false, true≢false, Some, None, inl, inr, refl, sym, ap}
use Rattle.std.specs.Prelude.{◌||◌, ◌⊎◌, not, is_some, if◌then◌else◌}
use Rattle.std.specs.List.{list_any}
use Rattle.std.proofs.lemmas.Bool.{and_parts}
use Rattle.std.proofs.lemmas.Bool.Decides.{Decides-eqb}
use Rattle.kube_parts.specs.declared.uid.Uid.{Uid}
use Rattle.kube_parts.specs.declared.parts.Kind.TheVariants as kinds
use Rattle.kube_objects.specs.declared.objects.Pod.{Pod as PodData}
use Rattle.kube_objects.specs.declared.objects.Object.{Object}
use Rattle.kube_objects.specs.declared.objects.Object.TheVariants.{Class, Node, Volume, Claim, Pod}
use Rattle.kube_objects.specs.Keys.{same_kind}
use Rattle.call_types.specs.declared.entry.Entry.{Entry}
use Rattle.call_types.specs.declared.request.Request.{Request}
use Rattle.call_types.specs.declared.request.Request.TheVariants as requests
use Rattle.call_types.specs.declared.request.SeatKind.TheVariants.{Agent}
use Rattle.call_types.specs.declared.reply.Refusal.TheVariants.{Gone}
use Rattle.call_types.specs.declared.reply.Reply.{Reply}
use Rattle.call_types.specs.declared.reply.Reply.TheVariants as replies
use Rattle.binder_model.specs.AgentLicence.{IsEndingPod, ListedPods, epoch_in, is_finish_of, is_pod_list, never_finished, since_epoch}
use Rattle.binder_model.specs.Licence.{Licensed}
use Rattle.binder_model.specs.Reading.{Following, IsFrom, Unlisted, follow_on, following_of, reached_on}
use Rattle.binder_model.specs.Same.{same_uid}
use Rattle.binder_model.specs.Told.{IsPodWith, ToldPod, objects_in}
use Rattle.model_laws.proofs.Evidence.{told_map}
use Rattle.model_laws.proofs.Follows.{watched_before}
use Rattle.safety_law.specs.Pods.Deletion.{IsDeletingPod}
use Rattle.safety_law.specs.Pods.Tellings.{is_pod, is_watch_of_pods}
use Rattle.node_agent.specs.Evidence.{HasStarted, StartedBy}
use Rattle.node_agent.specs.StartLaw.{LicensedHasStarted, TakenBy, TookFirst, UntoldIsUnfinished}

-- a pod is finished only where it was told deleting

pub pod_map : {P Q : PodData → Type 0} → ((p : PodData) → P p → Q p) → (o : Object) → IsPodWith P o → IsPodWith Q o
pod_map f (Pod p) h = f p h
pod_map f (Class x) h = absurd h
pod_map f (Node x) h = absurd h
pod_map f (Volume x) h = absurd h
pod_map f (Claim x) h = absurd h

same : (a b : Uid) → same_uid a b ≡ true → a ≡ b
same a b e = ap (λ (n : ℕ). record { 0 = n }) ((Decides-eqb a.0 b.0).0 e)

told_ending : (uid given : Uid) (node : List ℕ) (mine : List Entry) → given ≡ uid → ToldPod (IsEndingPod given node) mine → ToldPod (IsDeletingPod uid) mine
told_ending uid given node mine is told = told_map (pod_map (λ p h. record { same = h.same ∙ ap (λ (u : Uid). Some u) is; deleting = h.deleting })) mine told

finished : (uid : Uid) (mine : List Entry) (e : Entry) → Licensed Agent mine e.request → is_finish_of uid e.request ≡ true → ToldPod (IsDeletingPod uid) mine
finished uid mine e licensed = by e.request licensed
  where
    by : (request : Request) → Licensed Agent mine request → is_finish_of uid request ≡ true → ToldPod (IsDeletingPod uid) mine
    by (requests.FinishPod key given node epoch) l h = told_ending uid given node mine (same given uid h) l.1.told
    by _ l h = absurd (true≢false (sym h))

pub untold_is_unfinished : UntoldIsUnfinished
untold_is_unfinished uid [] licensed none = refl
untold_is_unfinished uid (e ∷ mine) licensed none = by (is_finish_of uid e.request) refl (untold_is_unfinished uid mine licensed.0 (λ t. none (inr t)))
  where
    by : (b : Bool) → is_finish_of uid e.request ≡ b → never_finished uid mine ≡ true → never_finished uid (e ∷ mine) ≡ true
    by true h rest = absurd (none (inr (finished uid mine e licensed.1 h)))
    by false h rest = ap (λ (b : Bool). not (b || list_any (λ x. is_finish_of uid x.request) mine)) h ∙ rest

-- the pods may be watched only where a list of all of them was told

step_listed : (request : Request) (reply : Reply) (f : Following) (L : Type 0) (from : ℕ) → ((n : ℕ) → IsFrom n f → L)
    → IsFrom from (follow_on request reply kinds.Pod f) → (is_pod_list request reply ≡ true) ⊎ L
step_listed (requests.List kinds.Pod None) (replies.Listed items version) f L from rest h = inl refl
step_listed (requests.List kinds.Node None) (replies.Listed items version) f L from rest h = inr (rest from h)
step_listed (requests.List kinds.StorageClass None) (replies.Listed items version) f L from rest h = inr (rest from h)
step_listed (requests.List kinds.PersistentVolume None) (replies.Listed items version) f L from rest h = inr (rest from h)
step_listed (requests.List kinds.PersistentVolumeClaim None) (replies.Listed items version) f L from rest h = inr (rest from h)
step_listed (requests.Watch k at) (replies.Events events) f L from rest h = by (same_kind k kinds.Pod) h
  where
    by : (b : Bool) → IsFrom from (if b then reached_on events.upto f else f) → (is_pod_list (requests.Watch k at) (replies.Events events) ≡ true) ⊎ L
    by true x = inr (watched_before events.upto from f L rest x)
    by false x = inr (rest from x)
step_listed (requests.Watch k at) (replies.Refused (Gone oldest)) f L from rest h = by (same_kind k kinds.Pod) h
  where
    by : (b : Bool) → IsFrom from (if b then Unlisted else f) → (is_pod_list (requests.Watch k at) (replies.Refused (Gone oldest)) ≡ true) ⊎ L
    by true x = absurd x
    by false x = inr (rest from x)
step_listed _ _ f L from rest h = inr (rest from h)

listed_in : (mine : List Entry) (from : ℕ) → IsFrom from (following_of mine kinds.Pod) → ListedPods mine
listed_in [] from h = absurd h
listed_in (e ∷ mine) from h = by e.told refl h (λ n x. listed_in mine n x)
  where
    by : (b : Bool) → e.told ≡ b → IsFrom from (if b then follow_on e.request e.reply kinds.Pod (following_of mine kinds.Pod) else following_of mine
        kinds.Pod) → ((n : ℕ) → IsFrom n (following_of mine kinds.Pod) → ListedPods mine) → ListedPods (e ∷ mine)
    by false told x rest = inr (rest from x)
    by true told x rest = elim (step_listed e.request e.reply (following_of mine kinds.Pod) (ListedPods mine) from rest x) [ inl list ↦ inl (told, list) | inr before ↦ inr before ]

-- that list was told since the node was taken
since : (node : List ℕ) (mine : List Entry) → TookFirst node mine → ListedPods mine → ListedPods (since_epoch node mine)
since node [] took listed = absurd listed
since node (e ∷ mine) took listed = by (is_some (epoch_in node e)) took listed (since node mine)
  where
    by : (b : Bool) → TakenBy b (e ∷ mine) (TookFirst node mine) → ListedPods (e ∷ mine)
        → (TookFirst node mine → ListedPods mine → ListedPods (since_epoch node mine)) → ListedPods (if b then [] else e ∷ since_epoch node mine)
    by true untold list rest = absurd (untold.unlisted list)
    by false before (inl here) rest = inl here
    by false before (inr later) rest = inr (rest before later)

watched : (mine : List Entry) (request : Request) → Licensed Agent mine request → is_watch_of_pods request ≡ true → ListedPods mine
watched mine (requests.Watch kinds.Pod from) licensed h = listed_in mine from licensed.1.1
watched mine (requests.Watch kinds.Node from) licensed h = absurd (true≢false (sym h))
watched mine (requests.Watch kinds.StorageClass from) licensed h = absurd (true≢false (sym h))
watched mine (requests.Watch kinds.PersistentVolume from) licensed h = absurd (true≢false (sym h))
watched mine (requests.Watch kinds.PersistentVolumeClaim from) licensed h = absurd (true≢false (sym h))
watched mine _ licensed h = absurd (true≢false (sym h))

pub licensed_has_started : LicensedHasStarted
licensed_has_started node [] licensed reads took = tt
licensed_has_started node (e ∷ mine) licensed reads took = by (is_some (epoch_in node e)) took (licensed_has_started node mine licensed.0 reads.1)
  where
    by : (b : Bool) → TakenBy b (e ∷ mine) (TookFirst node mine) → (TookFirst node mine → HasStarted node mine) → StartedBy b node e mine (HasStarted node mine)
    by true untold rest = untold.untold
    by false before rest = (
      λ tells. elim (reads.0 tells) [
        | inl list ↦ inl ((and_parts e.told (list_any is_pod (objects_in e.reply)) tells).0, list)
        | inr watch ↦ inr (since node mine before (watched mine e.request licensed.1 watch))
      ],
      rest before,
    )
