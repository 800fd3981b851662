-- What the reads of an agent tell: the claims that it found.
use Rattle.std.proofs.Common.{sym, refl, subst, inl, inr, ap, ◌∙◌, true≢false}
use Rattle.std.specs.Prelude.{if◌then◌else◌, ℕ, ◌≡◌, ◌==◌, Bool, true, false, ◌&&◌, List, [], ◌∷◌, ◌++◌, Option, Some, None, is_some, unwrap_or}
use Rattle.kube_objects.specs.declared.key.Key.{Key}
use Rattle.kube_objects.specs.declared.objects.Object.{Object}
use Rattle.kube_objects.specs.Keys.{key_of, row_at}
use Rattle.kube_objects.proofs.KeyOrder.{row_at_key}
use Rattle.call_types.specs.declared.entry.Entry.{Entry}
use Rattle.call_types.specs.declared.setup.Setup.{Setup}
use Rattle.call_types.specs.declared.request.Request.{Request}
use Rattle.call_types.specs.declared.request.Request.TheVariants as requests
use Rattle.call_types.specs.declared.reply.Reply.{Reply}
use Rattle.call_types.specs.declared.reply.Reply.TheVariants.{Found}
use Rattle.binder_model.specs.Told.{SomeOf, own}
use Rattle.binder_model.specs.AgentLicence.{is_get_of, last_get, since_epoch, epoch_in}
use Rattle.binder_model.specs.World.{world}
use Rattle.model_laws.specs.Reads.{found}
use Rattle.safety_law.proofs.Invariant.Came.{row_was}
use Rattle.safety_law.specs.Invariant.Good.{Good}
use Rattle.std.proofs.lemmas.Bool.{and_parts}
use Rattle.kube_objects.proofs.SameKeys.{same_key-Decides}
use Rattle.safety_law.proofs.Invariant.Known.{get_reply}
use Rattle.model_laws.specs.Stood.{Stood}

get_of : (key : Key) (request : Request) → is_get_of key request ≡ true → request ≡ requests.Get key
get_of key (requests.Get asked) e = ap (λ (k : Key). requests.Get k) ((same_key-Decides asked key).0 e)
get_of key request e = absurd (true≢false (sym e))

-- what a Get found stands there
found_is : (x : Option Object) (o : Object) → found x ≡ Found o → x ≡ Some o
found_is None o e = absurd (true≢false (sym (ap is_found e)))
  where
    is_found : Reply → Bool
    is_found (Found y) = true
    is_found r = false
found_is (Some y) o e = ap (λ r. Some (of r)) e
  where
    of : Reply → Object
    of (Found z) = z
    of r = y

pub found_row : (setup : Setup) (e : Entry) (past : List Entry) → Good setup (e ∷ past) → (key : Key) (o : Object) → is_get_of key e.request ≡ true
    → e.reply ≡ Found o → row_at key (world setup past).store.rows ≡ Some o
found_row setup e past g key o q r =
    found_is (row_at key (world setup past).store.rows) o (sym (get_reply setup e past g key (get_of key e.request q)) ∙ r)

-- the object was, under the key
pub record WasAt (setup : Setup) (past : List Entry) (key : Key) (o : Object) : Type 0 where
  pub was : Stood setup past o
  pub keyed : key_of o ≡ key

-- the entries of a seat are in its list
abbrev pub IsEntryIn : Entry → List Entry → Type 0
IsEntryIn x mine = SomeOf (λ y. y ≡ x) mine

-- a Get among the own entries found what was
pub own_found : (setup : Setup) (past : List Entry) → Good setup past → (seat : ℕ) (x : Entry) (key : Key) (o : Object) → IsEntryIn x (own seat past)
    → is_get_of key x.request ≡ true → x.reply ≡ Found o → WasAt setup past key o
own_found setup [] g seat x key o h q r = absurd h
own_found setup (e ∷ past) g seat x key o h q r = by (own_found setup past g.0 seat x key o) (e.seat == seat) h
  where
    more : WasAt setup past key o → WasAt setup (e ∷ past) key o
    more w = record { was = inl w.was; keyed = w.keyed }

    here : e ≡ x → WasAt setup (e ∷ past) key o
    here is =
        let there = found_row setup e past g key o (subst (λ (y : Entry). is_get_of key y.request ≡ true) (sym is) q) (subst (λ (y : Entry). y.reply ≡ Found o) (sym is) r) in
        record { was = inl (row_was setup past key o there); keyed = row_at_key key o (world setup past).store.rows there }

    by : (IsEntryIn x (own seat past) → is_get_of key x.request ≡ true → x.reply ≡ Found o → WasAt setup past key o) → (b : Bool)
        → IsEntryIn x (if b then e ∷ own seat past else own seat past) → WasAt setup (e ∷ past) key o
    by f true h = elim h [ inl is ↦ here is | inr rest ↦ more (f rest q r) ]
    by f false h = more (f h q r)

-- the entry of the last Get
pub record IsLastGet (key : Key) (mine : List Entry) (reply : Reply) : Type 0 where
  pub entry : Entry
  pub is_in : IsEntryIn entry mine
  pub asked : is_get_of key entry.request ≡ true
  pub answer : entry.reply ≡ reply

pub last_get_in : (key : Key) (mine : List Entry) (reply : Reply) → last_get key mine ≡ Some reply → IsLastGet key mine reply
last_get_in key [] reply e = absurd (true≢false (sym (ap is_some e)))
last_get_in key (x ∷ mine) reply e = by (x.told && is_get_of key x.request) refl e (last_get_in key mine reply)
  where
    by : (b : Bool) → (x.told && is_get_of key x.request) ≡ b → (if b then Some x.reply else last_get key mine) ≡ Some reply
        → (last_get key mine ≡ Some reply → IsLastGet key mine reply) → IsLastGet key (x ∷ mine) reply
    by true t e f = record { entry = x; is_in = inl refl; asked = (and_parts x.told (is_get_of key x.request) t).1; answer = ap (λ z. unwrap_or z x.reply) e }
    by false t e f = let r = f e in record { entry = r.entry; is_in = inr r.is_in; asked = r.asked; answer = r.answer }

-- the entries since the epoch are among all
since_in : (node : List ℕ) (mine : List Entry) (x : Entry) → IsEntryIn x (since_epoch node mine) → IsEntryIn x mine
since_in node [] x h = absurd h
since_in node (e ∷ mine) x h = by (is_some (epoch_in node e)) h (since_in node mine x)
  where
    by : (b : Bool) → IsEntryIn x (if b then [] else e ∷ since_epoch node mine) → (IsEntryIn x (since_epoch node mine) → IsEntryIn x mine) → IsEntryIn x (e ∷ mine)
    by true h f = absurd h
    by false h f = elim h [ inl is ↦ inl is | inr more ↦ inr (f more) ]

front_in : (x : Entry) (xs ys : List Entry) → IsEntryIn x xs → IsEntryIn x (xs ++ ys)
front_in x [] ys h = absurd h
front_in x (y ∷ xs) ys h = elim h [ inl is ↦ inl is | inr more ↦ inr (front_in x xs ys more) ]

-- what the last Get in the recent entries found was, under its key
pub read_was : (setup : Setup) (past : List Entry) → Good setup past → (seat : ℕ) (node : List ℕ) (recent rest : List Entry)
    → since_epoch node (own seat past) ≡ recent ++ rest → (key : Key) (o : Object) → last_get key recent ≡ Some (Found o) → WasAt setup past key o
read_was setup past g seat node recent rest since key o read =
    let l = last_get_in key recent (Found o) read in
    own_found setup past g seat l.entry key o
    (since_in node (own seat past) l.entry (subst (λ (z : List Entry). IsEntryIn l.entry z) (sym since) (front_in l.entry recent rest l.is_in))) l.asked l.answer
