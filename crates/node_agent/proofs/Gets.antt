-- What a live read, or a call that takes no node, leaves as it was.
use Rattle.std.proofs.Common.{◌≡◌, ◌∙◌, ℕ, List, [], ◌∷◌, Bool, true, false, true≢false, Option, Some, None, refl, sym, ap, if◌then◌else◌}
use Rattle.std.specs.Prelude.{◌||◌, not, bytes_eq, is_some}
use Rattle.std.specs.List.{list_any}
use Rattle.std.proofs.lemmas.Slice.Eq.{bytes_eq-Decides}
use Rattle.std.proofs.lemmas.Bool.{and_from, and_right, or_parts}
use Rattle.kube_objects.specs.declared.key.Key.{Key}
use Rattle.kube_parts.specs.declared.uid.Uid.{Uid}
use Rattle.kube_objects.specs.declared.objects.Object.{Object}
use Rattle.kube_objects.specs.Keys.{same_key}
use Rattle.kube_objects.proofs.SameKeys.{same_key-Decides, same_key_itself}
use Rattle.call_types.specs.declared.entry.Entry.{Entry}
use Rattle.call_types.specs.declared.request.Request.{Request}
use Rattle.call_types.specs.declared.request.Request.TheVariants as requests
use Rattle.call_types.specs.declared.reply.Reply.{Reply}
use Rattle.call_types.specs.declared.reply.Reply.TheVariants as replies
use Rattle.binder_model.specs.AgentLicence.{epoch_in, epoch_told, is_finish_of, is_get_of, last_epoch, last_get, never_finished, since_epoch, since_get}
use Rattle.binder_model.specs.ObjectKeys.{claim_key, volume_key}
use Rattle.binder_model.specs.Told.{first_some, later, newest, tells_of}
use Rattle.node_agent.specs.declared.step.ReadyClaim.{ReadyClaim}
use Rattle.node_agent.specs.Agents.{is_claim_read, is_volume_read}
use Rattle.node_agent.specs.Evidence.{AreFoundReady, IsFoundReady}

-- the last Get of a key

last_past : (key : Key) (e : Entry) (mine : List Entry) → is_get_of key e.request ≡ false → last_get key (e ∷ mine) ≡ last_get key mine
last_past key e mine other = ap (λ (b : Bool). if b then Some e.reply else last_get key mine) (and_right e.told (is_get_of key e.request) other)

since_past : (key : Key) (e : Entry) (mine : List Entry) → is_get_of key e.request ≡ false → since_get key (e ∷ mine) ≡ e ∷ since_get key mine
since_past key e mine other = ap (λ (b : Bool). if b then [] else e ∷ since_get key mine) (and_right e.told (is_get_of key e.request) other)

last_here : (key : Key) (e : Entry) (mine : List Entry) → e.told ≡ true → is_get_of key e.request ≡ true → last_get key (e ∷ mine) ≡ Some e.reply
last_here key e mine told get = ap (λ (b : Bool). if b then Some e.reply else last_get key mine) (and_from e.told (is_get_of key e.request) told get)

-- a told Get that found an object
pub record IsFound (key : Key) (o : Object) (e : Entry) : Type 0 where
  pub told : e.told ≡ true
  pub asked : e.request ≡ requests.Get key
  pub found : e.reply ≡ replies.Found o

other_key : (key other : Key) (e : Entry) → e.request ≡ requests.Get key → (key ≡ other → ⊥) → is_get_of other e.request ≡ false
other_key key other e is differ = ap (is_get_of other) is ∙ by (same_key key other) refl
  where
    by : (b : Bool) → same_key key other ≡ b → same_key key other ≡ false
    by true same = absurd (differ ((same_key-Decides key other).0 same))
    by false same = same

own_key : (key : Key) (e : Entry) → e.request ≡ requests.Get key → is_get_of key e.request ≡ true
own_key key e is = ap (is_get_of key) is ∙ same_key_itself key

pub last_found : (key : Key) (o : Object) (e : Entry) (mine : List Entry) → IsFound key o e → last_get key (e ∷ mine) ≡ Some (replies.Found o)
last_found key o e mine f = last_here key e mine f.told (own_key key e f.asked) ∙ ap (λ (r : Reply). Some r) f.found

-- a read of another key leaves what was found

name_in : Key → List ℕ
name_in k = k.name

other_claim : (namespace a b : List ℕ) → bytes_eq b a ≡ false → claim_key namespace a ≡ claim_key namespace b → ⊥
unfolding name_in
other_claim namespace a b e same = true≢false (sym ((bytes_eq-Decides b a).1 (sym (ap name_in same))) ∙ e)

other_volume : (a b : List ℕ) → bytes_eq b a ≡ false → volume_key a ≡ volume_key b → ⊥
unfolding name_in
other_volume a b e same = true≢false (sym ((bytes_eq-Decides b a).1 (sym (ap name_in same))) ∙ e)

claim_asked : (namespace name volume : List ℕ) (e : Entry) → e.request ≡ requests.Get (claim_key namespace name) → is_get_of (volume_key volume) e.request ≡ false
claim_asked namespace name volume e is = ap (is_get_of (volume_key volume)) is

volume_asked : (namespace name volume : List ℕ) (e : Entry) → e.request ≡ requests.Get (volume_key volume) → is_get_of (claim_key namespace name) e.request ≡ false
volume_asked namespace name volume e is = ap (is_get_of (claim_key namespace name)) is

read_past : (e : Entry) (recent : List Entry) (namespace name : List ℕ) (r : ReadyClaim) → (f : IsFoundReady recent namespace name r)
    → is_get_of (claim_key namespace name) e.request ≡ false → is_get_of (volume_key r.volume) e.request ≡ false → IsFoundReady (e ∷ recent) namespace name r
read_past e recent namespace name r f claim_other volume_other =
    let k = f.read in
    let other : is_get_of (volume_key k.claim.volume_name) e.request ≡ false = ap (λ (n : List ℕ). is_get_of (volume_key n) e.request) f.of ∙ volume_other in
    record {
      named = f.named;
      read = record {
        claim = k.claim;
        read = last_past (claim_key namespace name) e recent claim_other ∙ k.read;
        same = k.same;
        staying = k.staying;
        guarded = k.guarded;
        completed = k.completed;
        bound = k.bound;
        volume = k.volume;
        volume_read =
            ap (last_get (volume_key k.claim.volume_name)) (since_past (claim_key namespace name) e recent claim_other)
            ∙ (last_past (volume_key k.claim.volume_name) e (since_get (claim_key namespace name) recent) other ∙ k.volume_read);
        carries = k.carries;
      };
      of = f.of;
    }

-- a read of a claim that was not counted
pub claims_past : (e : Entry) (recent : List Entry) (namespace new : List ℕ) (ready : List ReadyClaim) (names : List (List ℕ))
    → e.request ≡ requests.Get (claim_key namespace new) → is_claim_read new ready ≡ false → AreFoundReady recent namespace ready names → AreFoundReady (e ∷ recent) namespace ready names
claims_past e recent namespace new [] names is unread all = tt
claims_past e recent namespace new (r ∷ ready) [] is unread all = absurd all
claims_past e recent namespace new (r ∷ ready) (name ∷ names) is unread all =
    let apart = or_parts (bytes_eq r.claim new) (is_claim_read new ready) unread in
    let named : bytes_eq name new ≡ false = ap (λ (n : List ℕ). bytes_eq n new) (sym all.0.named) ∙ apart.0 in (
      read_past e recent namespace name r all.0 (other_key (claim_key namespace new) (claim_key namespace name) e is (other_claim namespace new name named)) (claim_asked namespace new r.volume e is),
      claims_past e recent namespace new ready names is apart.1 all.1,
    )

-- a read of a volume that was not counted
pub volumes_past : (e : Entry) (recent : List Entry) (namespace new : List ℕ) (ready : List ReadyClaim) (names : List (List ℕ))
    → e.request ≡ requests.Get (volume_key new) → is_volume_read new ready ≡ false → AreFoundReady recent namespace ready names → AreFoundReady (e ∷ recent) namespace ready names
volumes_past e recent namespace new [] names is unread all = tt
volumes_past e recent namespace new (r ∷ ready) [] is unread all = absurd all
volumes_past e recent namespace new (r ∷ ready) (name ∷ names) is unread all =
    let apart = or_parts (bytes_eq r.volume new) (is_volume_read new ready) unread in (
      read_past e recent namespace name r all.0 (volume_asked namespace name new e is) (other_key (volume_key new) (volume_key r.volume) e is (other_volume new r.volume apart.0)),
      volumes_past e recent namespace new ready names is apart.1 all.1,
    )

-- the claim whose volume was found carrying it
pub claim_past : (e : Entry) (recent : List Entry) (namespace name volume : List ℕ) → e.request ≡ requests.Get (volume_key volume)
    → (last_get (claim_key namespace name) (e ∷ recent) ≡ last_get (claim_key namespace name) recent)
    × (since_get (claim_key namespace name) (e ∷ recent) ≡ e ∷ since_get (claim_key namespace name) recent)
claim_past e recent namespace name volume is =
    let other = volume_asked namespace name volume e is in
    (last_past (claim_key namespace name) e recent other, since_past (claim_key namespace name) e recent other)

-- the epoch of the node

pub no_epoch : (node : List ℕ) (e : Entry) (request : Request) → e.request ≡ request → ((reply : Reply) → epoch_told node request reply ≡ None) → epoch_in node e ≡ None
no_epoch node e request is none = ap (λ q. if e.told then epoch_told node q e.reply else None) is ∙ by e.told
  where
    by : (b : Bool) → (if b then epoch_told node request e.reply else None) ≡ None
    by true = none e.reply
    by false = refl

pub epoch_past : (node : List ℕ) (e : Entry) (mine : List Entry) → epoch_in node e ≡ None → last_epoch node (e ∷ mine) ≡ last_epoch node mine
epoch_past node e mine none = ap (λ (x : Option ℕ). first_some x (last_epoch node mine)) none

pub since_epoch_past : (node : List ℕ) (e : Entry) (mine : List Entry) → epoch_in node e ≡ None → since_epoch node (e ∷ mine) ≡ e ∷ since_epoch node mine
since_epoch_past node e mine none = ap (λ (x : Option ℕ). if is_some x then [] else e ∷ since_epoch node mine) none

-- what is newest, and what was finished

pub newest_past : (key : Key) (o : Object) (e : Entry) (mine : List Entry) → e.reply ≡ replies.Found o → newest (e ∷ mine) key ≡ newest mine key
newest_past key o e mine found = ap (λ (r : Reply). later (if e.told then tells_of e.request r key else None) (newest mine key)) found ∙ by e.told
  where
    by : (b : Bool) → later (if b then None else None) (newest mine key) ≡ newest mine key
    by true = refl
    by false = refl

pub never_past : (uid : Uid) (key : Key) (e : Entry) (mine : List Entry) → e.request ≡ requests.Get key → never_finished uid (e ∷ mine) ≡ never_finished uid mine
never_past uid key e mine is = ap (λ q. not (is_finish_of uid q || list_any (λ x. is_finish_of uid x.request) mine)) is
