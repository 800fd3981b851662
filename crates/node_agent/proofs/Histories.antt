-- What an agent's seat asked and was told in a history: how it was told of pods, that it has started, and that it may decide.
use Rattle.std.proofs.Common.{◌≡◌, ◌∙◌, ℕ, List, [], ◌∷◌, Bool, true, false, true≢false, Option, Some, None, inl, inr, refl, sym, subst, ap, if◌then◌else◌}
use Rattle.std.specs.Prelude.{◌==◌, ◌&&◌, ◌||◌, bytes_eq, is_none, is_some}
use Rattle.std.specs.List.{list_any}
use Rattle.kube_objects.specs.declared.objects.Pod.{Pod as PodData}
use Rattle.kube_objects.specs.declared.objects.Object.TheVariants.{Pod}
use Rattle.kube_objects.specs.Keys.{row_at}
use Rattle.kube_objects.proofs.KeyOrder.{row_at_key}
use Rattle.call_types.specs.declared.entry.Entry.{Entry}
use Rattle.call_types.specs.declared.setup.Setup.{Setup}
use Rattle.call_types.specs.declared.request.Request.{Request}
use Rattle.call_types.specs.declared.request.Request.TheVariants as requests
use Rattle.call_types.specs.declared.reply.Reply.{Reply}
use Rattle.call_types.specs.declared.reply.Reply.TheVariants as replies
use Rattle.binder_model.specs.AgentLicence.{epoch_in, epoch_told, is_pod_list, last_epoch}
use Rattle.binder_model.specs.ObjectKeys.{pod_key}
use Rattle.binder_model.specs.Told.{IsNewest, first_some, objects_in, own}
use Rattle.binder_model.specs.World.{IsHistory, effect, reply_to, world}
use Rattle.informer_cache.specs.All.{all_objects}
use Rattle.safety_law.specs.Pods.Tellings.{AreToldByReads, is_pod, tells_pod}
use Rattle.safety_law.proofs.Pods.Newest.{staying_was_never_deleting}
use Rattle.safety_law.proofs.Pods.Asked.{agents_are_told_by_reads, take_mute}
use Rattle.node_agent.specs.HistoryLaw.{HistoriesTellByReads, TakersHaveStarted, TakersMayDecide, TakersTookFirst, TakesFirst, is_take_of}
use Rattle.node_agent.specs.StartLaw.{AreLicensed, IsUntold, TakenBy, TookFirst}
use Rattle.node_agent.proofs.Licensed.{licensed_has_started, untold_is_unfinished}

-- pods are told by reads

pub histories_tell_by_reads : HistoriesTellByReads
histories_tell_by_reads setup [] seat history licensed = tt
histories_tell_by_reads setup (e ∷ past) seat history licensed = by (e.seat == seat) licensed (histories_tell_by_reads setup past seat history.0)
  where
    by : (b : Bool) → AreLicensed (if b then e ∷ own seat past else own seat past) → (AreLicensed (own seat past) → AreToldByReads (own seat past))
        → AreToldByReads (if b then e ∷ own seat past else own seat past)
    by true l rest = (agents_are_told_by_reads setup e past (own seat past) history.1 l.1, rest l.0)
    by false l rest = rest l

-- a TakeNode tells no pod

record IsQuiet (e : Entry) : Type 0 where
  tells : tells_pod e ≡ false
  lists : is_pod_list e.request e.reply ≡ false

take_quiet : (setup : Setup) (e : Entry) (past : List Entry) (node : List ℕ) → e.reply ≡ reply_to (effect setup (world setup past) e.kind e.request)
    → is_take_of node e.request ≡ true → IsQuiet e
take_quiet setup e past node answered takes = by e.request refl takes
  where
    none_told : (told : Bool) → list_any is_pod (objects_in e.reply) ≡ false → (told && list_any is_pod (objects_in e.reply)) ≡ false
    none_told true none = none
    none_told false none = refl

    by : (request : Request) → e.request ≡ request → is_take_of node request ≡ true → IsQuiet e
    by (requests.TakeNode taken) asks t =
        let answer : e.reply ≡ reply_to (effect setup (world setup past) e.kind (requests.TakeNode taken)) = answered ∙ ap (λ r. reply_to (effect setup (world setup past) e.kind r)) asks in
        let none : objects_in e.reply ≡ [] = ap objects_in answer ∙ take_mute setup (world setup past) e.kind taken in
        record { tells = none_told e.told (ap (λ os. list_any is_pod os) none); lists = ap (λ r. is_pod_list r e.reply) asks }
    by _ asks t = absurd (true≢false (sym t))

untold_on : (e : Entry) (mine : List Entry) → IsQuiet e → IsUntold mine → IsUntold (e ∷ mine)
untold_on e mine quiet untold = record {
  untold = ap (λ b. b || list_any tells_pod mine) quiet.tells ∙ untold.untold;
  unlisted = λ listed. elim listed [ inl now ↦ true≢false (sym now.1 ∙ quiet.lists) | inr before ↦ untold.unlisted before ];
}

nothing_untold : IsUntold []
nothing_untold = record { untold = refl; unlisted = λ listed. listed }

first_none : (a b : Option ℕ) → is_none (first_some a b) ≡ true → (a ≡ None) × (is_none b ≡ true)
first_none None b none = (refl, none)
first_none (Some n) b none = absurd (true≢false (sym none))

-- before an epoch was told nothing was told
untold : (setup : Setup) (past : List Entry) (seat : ℕ) (node : List ℕ) → IsHistory setup past → TakesFirst node (own seat past)
    → is_none (last_epoch node (own seat past)) ≡ true → IsUntold (own seat past)
untold setup [] seat node history takes none = nothing_untold
untold setup (e ∷ past) seat node history takes none = by (e.seat == seat) takes none (untold setup past seat node history.0)
  where
    by : (b : Bool) → TakesFirst node (if b then e ∷ own seat past else own seat past) → is_none (last_epoch node (if b then e ∷ own seat past else own seat past)) ≡ true
        → (TakesFirst node (own seat past) → is_none (last_epoch node (own seat past)) ≡ true → IsUntold (own seat past))
        → IsUntold (if b then e ∷ own seat past else own seat past)
    by true t n rest =
        let before = (first_none (epoch_in node e) (last_epoch node (own seat past)) n).1 in
        untold_on e (own seat past) (take_quiet setup e past node history.1 (t.0 ∙ before)) (rest t.1 before)
    by false t n rest = rest t n

-- an entry that tells an epoch takes the node
take_of : (node : List ℕ) (e : Entry) → is_some (epoch_in node e) ≡ true → is_take_of node e.request ≡ true
take_of node e is = by e.told e.request e.reply is
  where
    named : (b : Bool) (epoch : ℕ) → is_some (if b then Some epoch else None) ≡ true → b ≡ true
    named true epoch h = refl
    named false epoch h = h

    by : (told : Bool) (request : Request) (reply : Reply) → is_some (if told then epoch_told node request reply else None) ≡ true → is_take_of node request ≡ true
    by false request reply h = absurd (true≢false (sym h))
    by true (requests.TakeNode taken) (replies.Epoch epoch) h = named (bytes_eq taken node) epoch h
    by true request reply h = absurd (true≢false (sym h))

pub takers_took_first : TakersTookFirst
takers_took_first setup [] seat node history takes = tt
takers_took_first setup (e ∷ past) seat node history takes = by (e.seat == seat) takes (takers_took_first setup past seat node history.0)
  where
    took : (b : Bool) → is_some (epoch_in node e) ≡ b → TakesFirst node (e ∷ own seat past) → TookFirst node (own seat past) → TakenBy b (e ∷ own seat past) (TookFirst node (own seat past))
    took true is t rest =
        let asks = take_of node e is in
        untold_on e (own seat past) (take_quiet setup e past node history.1 asks) (untold setup past seat node history.0 t.1 (sym t.0 ∙ asks))
    took false is t rest = rest

    by : (b : Bool) → TakesFirst node (if b then e ∷ own seat past else own seat past) → (TakesFirst node (own seat past) → TookFirst node (own seat past))
        → TookFirst node (if b then e ∷ own seat past else own seat past)
    by true t rest = took (is_some (epoch_in node e)) refl t (rest t.1)
    by false t rest = rest t

pub takers_have_started : TakersHaveStarted
takers_have_started setup past seat node history licensed takes =
    licensed_has_started node (own seat past) licensed (histories_tell_by_reads setup past seat history licensed) (takers_took_first setup past seat node history takes)

pub takers_may_decide : TakersMayDecide
takers_may_decide setup past seat node epoch caches key pass short history licensed takes current stand = record {
  current = current;
  started = takers_have_started setup past seat node history licensed takes;
  unfinished = λ p uid at its staying.
      untold_is_unfinished uid (own seat past) licensed
      (staying_was_never_deleting setup past seat pass short history (histories_tell_by_reads setup past seat history licensed) p uid (newest p at) its staying);
}
  where
    newest : (p : PodData) → row_at key (all_objects caches) ≡ Some (Pod p) → IsNewest (own seat past) (pod_key p.meta.namespace p.meta.name) (Pod p)
    newest p at = subst (λ k. IsNewest (own seat past) k (Pod p)) (sym (row_at_key key (Pod p) (all_objects caches) at)) (sym (stand.rows key) ∙ at)
