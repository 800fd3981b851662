-- What a seat was told a text can give, where a text can give its entries.
use Rattle.std.proofs.Common.{subst, sym, inl, inr}
use Rattle.std.specs.Prelude.{◌≡◌, ℕ, ◌==◌, Bool, true, false, List, [], ◌∷◌, Option, Some, None, IfSome, All, bytes_eq, is_some, if◌then◌else◌, ◌&&◌, ⊤}
use Rattle.std.proofs.lemmas.List.Elements.{All-nil, All-cons, All-head, All-tail, All-append}
use Rattle.kube_objects.specs.declared.key.Key.{Key}
use Rattle.kube_parts.specs.declared.parts.Kind.{Kind}
use Rattle.kube_objects.specs.declared.objects.Volume.{Volume as VolumeData}
use Rattle.kube_objects.specs.declared.objects.Claim.{Claim as ClaimData}
use Rattle.kube_objects.specs.declared.objects.Pod.{Pod as PodData}
use Rattle.kube_objects.specs.declared.objects.Object.{Object}
use Rattle.kube_objects.specs.declared.objects.Object.TheVariants.{Class, Node, Volume, Claim, Pod}
use Rattle.kube_objects.specs.Keys.{same_kind}
use Rattle.call_types.specs.declared.entry.Entry.{Entry}
use Rattle.call_types.specs.declared.request.Request.{Request}
use Rattle.call_types.specs.declared.request.Request.TheVariants as requests
use Rattle.call_types.specs.declared.reply.Change.{Change}
use Rattle.call_types.specs.declared.reply.Change.TheVariants as changes
use Rattle.call_types.specs.declared.reply.Event.{Event}
use Rattle.call_types.specs.declared.reply.Refusal.TheVariants as refusals
use Rattle.call_types.specs.declared.reply.Reply.{Reply}
use Rattle.call_types.specs.declared.reply.Reply.TheVariants as replies
use Rattle.binder_model.specs.Told.{
  own,
  first_some,
  objects_of_event,
  objects_of_events,
  objects_in,
  TellsObject,
  ToldObject,
  IsVolumeWith,
  IsClaimWith,
  IsPodWith,
  ToldVolume,
  ToldClaim,
  ToldPod,
  After,
  IsNewest,
}
use Rattle.binder_model.specs.Reading.{Following, Unlisted, ListedAt, reached_on, follow_on, following_of, IsFrom}
use Rattle.binder_model.specs.AgentLicence.{epoch_told, epoch_in, last_epoch, since_epoch, is_get_of, last_get}
use Rattle.model_laws.proofs.Newest.{newest_told}
use Rattle.object_laws.specs.Given.{IsVolume, IsClaim, IsPod, IsGivenObject}
use Rattle.history_laws.specs.Read.Given.{IsNumber, IsEvent, IsReply, IsEntry}
use Rattle.history_laws.proofs.Runs.Lists.{some_all, some_value}

pub own_all : (seat : ℕ) (past : List Entry) → All IsEntry past → All IsEntry (own seat past)
own_all seat [] h = h
own_all seat (e ∷ past) h = by (e.seat == seat) (own_all seat past (All-tail IsEntry e past h))
  where
    by : (b : Bool) → All IsEntry (own seat past) → All IsEntry (if b then e ∷ own seat past else own seat past)
    by true rest = All-cons IsEntry e _ (All-head IsEntry e past h) rest
    by false rest = rest

-- ---- objects

event_objects : (change : Change) (o : Object) → IsGivenObject o → All IsGivenObject (objects_of_event change o)
event_objects changes.Added o h = All-cons IsGivenObject o [] h (All-nil IsGivenObject)
event_objects changes.Modified o h = All-cons IsGivenObject o [] h (All-nil IsGivenObject)
event_objects changes.Deleted o h = All-nil IsGivenObject

events_objects : (es : List Event) → All IsEvent es → All IsGivenObject (objects_of_events es)
events_objects [] h = All-nil IsGivenObject
events_objects (e ∷ es) h = All-append IsGivenObject (objects_of_event e.change e.object) (objects_of_events es) (event_objects e.change e.object
    (All-head IsEvent e es h).object) (events_objects es (All-tail IsEvent e es h))

pub objects_given : (reply : Reply) → IsReply reply → All IsGivenObject (objects_in reply)
objects_given (replies.Done o) h = All-cons IsGivenObject o [] h (All-nil IsGivenObject)
objects_given (replies.Found o) h = All-cons IsGivenObject o [] h (All-nil IsGivenObject)
objects_given (replies.Listed items version) h = h.0
objects_given (replies.Events events) h = events_objects events.events h.events
objects_given reply h = All-nil IsGivenObject

pub told_object : (P : Object → Type 0) (mine : List Entry) → All IsEntry mine → ToldObject P mine → (o : Object) × (P o × IsGivenObject o)
told_object P mine all h =
    let r = some_all (TellsObject P) IsEntry mine h all in
    some_all P IsGivenObject (objects_in r.0.reply) r.1.0.1 (objects_given r.0.reply r.1.1.reply)

as_volume : (P : VolumeData → Type 0) (o : Object) → IsVolumeWith P o → IsGivenObject o → (v : VolumeData) × (P v × IsVolume v)
as_volume P (Volume v) p h = (v, (p, h))
as_volume P (Class x) p h = absurd p
as_volume P (Node x) p h = absurd p
as_volume P (Claim x) p h = absurd p
as_volume P (Pod x) p h = absurd p

pub told_volume : (P : VolumeData → Type 0) (mine : List Entry) → All IsEntry mine → ToldVolume P mine → (v : VolumeData) × (P v × IsVolume v)
told_volume P mine all h = let r = told_object (IsVolumeWith P) mine all h in as_volume P r.0 r.1.0 r.1.1

as_claim : (P : ClaimData → Type 0) (o : Object) → IsClaimWith P o → IsGivenObject o → (c : ClaimData) × (P c × IsClaim c)
as_claim P (Claim c) p h = (c, (p, h))
as_claim P (Class x) p h = absurd p
as_claim P (Node x) p h = absurd p
as_claim P (Volume x) p h = absurd p
as_claim P (Pod x) p h = absurd p

pub told_claim : (P : ClaimData → Type 0) (mine : List Entry) → All IsEntry mine → ToldClaim P mine → (c : ClaimData) × (P c × IsClaim c)
told_claim P mine all h = let r = told_object (IsClaimWith P) mine all h in as_claim P r.0 r.1.0 r.1.1

as_pod : (P : PodData → Type 0) (o : Object) → IsPodWith P o → IsGivenObject o → (p : PodData) × (P p × IsPod p)
as_pod P (Pod x) p h = (x, (p, h))
as_pod P (Class x) p h = absurd p
as_pod P (Node x) p h = absurd p
as_pod P (Volume x) p h = absurd p
as_pod P (Claim x) p h = absurd p

pub told_pod : (P : PodData → Type 0) (mine : List Entry) → All IsEntry mine → ToldPod P mine → (p : PodData) × (P p × IsPod p)
told_pod P mine all h = let r = told_object (IsPodWith P) mine all h in as_pod P r.0 r.1.0 r.1.1

pub tells_pod : (P : PodData → Type 0) (e : Entry) → IsEntry e → TellsObject (IsPodWith P) e → (p : PodData) × (P p × IsPod p)
tells_pod P e is h = let r = some_all (IsPodWith P) IsGivenObject (objects_in e.reply) h.1 (objects_given e.reply is.reply) in as_pod P r.0 r.1.0 r.1.1

pub volume_before : (P : VolumeData → Type 0) (Q : Entry → Type 0) (mine : List Entry) → All IsEntry mine → After (ToldVolume P) Q mine → (v : VolumeData) × (P v × IsVolume v)
volume_before P Q [] all h = absurd h
volume_before P Q (e ∷ mine) all h = elim h [
  | inl here ↦ told_volume P mine (All-tail IsEntry e mine all) here.1
  | inr more ↦ volume_before P Q mine (All-tail IsEntry e mine all) more
]

pub newest_given : (mine : List Entry) (key : Key) (o : Object) → All IsEntry mine → IsNewest mine key o → IsGivenObject o
newest_given mine key o all h = let r = told_object (λ x. x ≡ o) mine all (newest_told mine key o h) in subst IsGivenObject r.1.0 r.1.1

-- ---- versions from which a watch goes on

abbrev pub IsFollowed : Following → Type 0
IsFollowed Unlisted = ⊤
IsFollowed (ListedAt version reached) = IsNumber version × IfSome reached IsNumber

reached_given : (upto : ℕ) (f : Following) → IsNumber upto → IsFollowed f → IsFollowed (reached_on upto f)
reached_given upto Unlisted is h = tt
reached_given upto (ListedAt version reached) is h = (h.0, is)

follow_if : (b : Bool) (f g : Following) → IsFollowed f → IsFollowed g → IsFollowed (if b then f else g)
follow_if true f g h k = h
follow_if false f g h k = k

follow_given : (request : Request) (reply : Reply) (kind : Kind) (before : Following) → IsReply reply → IsFollowed before → IsFollowed (follow_on request reply kind before)
follow_given (requests.List k None) (replies.Listed items version) kind before h is = follow_if (same_kind k kind) _ before (h.1, tt) is
follow_given (requests.Watch k from) (replies.Refused (refusals.Gone oldest)) kind before h is = follow_if (same_kind k kind) _ before tt is
follow_given (requests.Watch k from) (replies.Events events) kind before h is = follow_if (same_kind k kind) _ before (reached_given events.upto before h.upto is) is
follow_given request reply kind before h is = is

following_given : (mine : List Entry) (kind : Kind) → All IsEntry mine → IsFollowed (following_of mine kind)
following_given [] kind all = tt
following_given (e ∷ mine) kind all =
    let rest = following_given mine kind (All-tail IsEntry e mine all) in
    follow_if e.told _ _ (follow_given e.request e.reply kind _ (All-head IsEntry e mine all).reply rest) rest

from_given : (from : ℕ) (f : Following) → IsFrom from f → IsFollowed f → IsNumber from
from_given from Unlisted h is = absurd h
from_given from (ListedAt version reached) (inl e) is = subst IsNumber (sym e) is.0
from_given from (ListedAt version reached) (inr e) is = some_value IsNumber reached from e is.1

pub watched_from : (mine : List Entry) (kind : Kind) (from : ℕ) → All IsEntry mine → IsFrom from (following_of mine kind) → IsNumber from
watched_from mine kind from all h = from_given from (following_of mine kind) h (following_given mine kind all)

-- ---- epochs, and single reads

told_epoch : (node : List ℕ) (request : Request) (reply : Reply) → IsReply reply → IfSome (epoch_told node request reply) IsNumber
told_epoch node (requests.TakeNode taken) (replies.Epoch epoch) h = by (bytes_eq taken node)
  where
    by : (b : Bool) → IfSome (if b then Some epoch else None) IsNumber
    by true = h
    by false = tt
told_epoch node request reply h = tt

epoch_here : (node : List ℕ) (e : Entry) → IsEntry e → IfSome (epoch_in node e) IsNumber
epoch_here node e is = by e.told (told_epoch node e.request e.reply is.reply)
  where
    by : (b : Bool) → IfSome (epoch_told node e.request e.reply) IsNumber → IfSome (if b then epoch_told node e.request e.reply else None) IsNumber
    by true h = h
    by false h = tt

first_given : (a b : Option ℕ) → IfSome a IsNumber → IfSome b IsNumber → IfSome (first_some a b) IsNumber
first_given (Some x) b h k = h
first_given None b h k = k

epochs_given : (node : List ℕ) (mine : List Entry) → All IsEntry mine → IfSome (last_epoch node mine) IsNumber
epochs_given node [] all = tt
epochs_given node (e ∷ mine) all = first_given (epoch_in node e) (last_epoch node mine) (epoch_here node e (All-head IsEntry e mine all)) (epochs_given node mine (All-tail IsEntry e mine all))

pub epoch_given : (node : List ℕ) (epoch : ℕ) (mine : List Entry) → All IsEntry mine → last_epoch node mine ≡ Some epoch → IsNumber epoch
epoch_given node epoch mine all h = some_value IsNumber (last_epoch node mine) epoch h (epochs_given node mine all)

pub since_all : (node : List ℕ) (mine : List Entry) → All IsEntry mine → All IsEntry (since_epoch node mine)
since_all node [] all = all
since_all node (e ∷ mine) all = by (is_some (epoch_in node e)) (since_all node mine (All-tail IsEntry e mine all))
  where
    by : (b : Bool) → All IsEntry (since_epoch node mine) → All IsEntry (if b then [] else e ∷ since_epoch node mine)
    by true rest = All-nil IsEntry
    by false rest = All-cons IsEntry e _ (All-head IsEntry e mine all) rest

gets_given : (key : Key) (recent : List Entry) → All IsEntry recent → IfSome (last_get key recent) IsReply
gets_given key [] all = tt
gets_given key (e ∷ recent) all = by (e.told && is_get_of key e.request) (gets_given key recent (All-tail IsEntry e recent all))
  where
    by : (b : Bool) → IfSome (last_get key recent) IsReply → IfSome (if b then Some e.reply else last_get key recent) IsReply
    by true rest = (All-head IsEntry e recent all).reply
    by false rest = rest

pub get_given : (key : Key) (o : Object) (recent : List Entry) → All IsEntry recent → last_get key recent ≡ Some (replies.Found o) → IsGivenObject o
get_given key o recent all h = some_value IsReply (last_get key recent) (replies.Found o) h (gets_given key recent all)
