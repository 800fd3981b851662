-- What a literal list of entries tells, computed: so that a case can be refused by looking at each object told.
use Rattle.std.proofs.Common.{sym, refl, ap, inl, inr, true≢false, ◌∙◌}
use Rattle.std.specs.Prelude.{ℕ, ◌≡◌, ◌⊎◌, Bool, true, false, List, [], ◌∷◌, ◌++◌, Option, Some, None, if◌then◌else◌, is_some, unwrap_or, ◌==◌}
use Rattle.kube_objects.specs.declared.objects.Ref.{Ref}
use Rattle.kube_objects.specs.declared.key.Key.{Key}
use Rattle.kube_objects.specs.declared.objects.Class.{Class as ClassData}
use Rattle.kube_objects.specs.declared.objects.Node.{Node as NodeData}
use Rattle.kube_objects.specs.declared.objects.Pod.{Pod as PodData}
use Rattle.kube_objects.specs.declared.objects.Volume.{Volume as VolumeData}
use Rattle.kube_objects.specs.declared.objects.Claim.{Claim as ClaimData}
use Rattle.kube_objects.specs.declared.objects.Object.{Object}
use Rattle.kube_objects.specs.declared.objects.Object.TheVariants.{Class, Node, Volume, Claim, Pod}
use Rattle.call_types.specs.declared.entry.Entry.{Entry}
use Rattle.kube_objects.specs.Keys.{meta_of}
use Rattle.call_types.specs.declared.request.SeatKind.{SeatKind}
use Rattle.call_types.specs.declared.request.Request.{Request}
use Rattle.call_types.specs.declared.request.Request.TheVariants as requests
use Rattle.binder_model.specs.Told.{SomeOf, TellsObject, ToldObject, ToldVolume, ToldClaim, ToldPod, IsPodWith, IsVolumeWith, IsClaimWith, objects_in, After, TellsLive, IsNewest}
use Rattle.binder_model.specs.At.{IsWrittenAt}
use Rattle.binder_model.specs.Licence.{AreOfKind, AtVolume, AtClaim, AtVolumeKey, AtClaimKey}
use Rattle.model_laws.proofs.Newest.{newest_told}
use Rattle.model_examples.specs.Samples.{Exchange, seat_of}

-- two that a test tells apart
pub differ : {X : Type 0} {a b : X} (test : X → Bool) → a ≡ b → test a ≡ true → test b ≡ false → ⊥
differ test e at_a at_b = true≢false (sym at_a ∙ ap test e ∙ at_b)

-- tests that tell two values apart

abbrev pub is_version : ℕ → Option ℕ → Bool
is_version n given = unwrap_or given 0 == n

abbrev pub has_version : ℕ → Option Object → Bool
has_version n None = false
has_version n (Some o) = (meta_of o).version == n

abbrev pub name_of : Option Ref → List ℕ
name_of None = []
name_of (Some r) = r.name

-- sums of cases

pub neither : {A B : Type 0} → (A → ⊥) → (B → ⊥) → A ⊎ B → ⊥
neither f g (inl a) = f a
neither f g (inr b) = g b

pub sole : {A : Type 0} → A ⊎ ⊥ → A
sole (inl a) = a
sole (inr h) = absurd h

-- each entry has the seat's kind
pub own_kind : (kind : SeatKind) (xs : List Exchange) → AreOfKind kind (seat_of kind xs)
own_kind kind [] = tt
own_kind kind (x ∷ xs) = (refl, own_kind kind xs)

-- the objects that were told

abbrev pub heard_of : Entry → List Object
heard_of e = if e.told then objects_in e.reply else []

abbrev pub told_objects : List Entry → List Object
told_objects [] = []
told_objects (e ∷ mine) = heard_of e ++ told_objects mine

abbrev pub volumes_in : List Object → List VolumeData
volumes_in [] = []
volumes_in (Volume v ∷ os) = v ∷ volumes_in os
volumes_in (o ∷ os) = volumes_in os

abbrev pub claims_in : List Object → List ClaimData
claims_in [] = []
claims_in (Claim x ∷ os) = x ∷ claims_in os
claims_in (o ∷ os) = claims_in os

pub some_left : (P : Object → Type 0) (xs ys : List Object) → SomeOf P xs → SomeOf P (xs ++ ys)
some_left P [] ys h = absurd h
some_left P (x ∷ xs) ys (inl h) = inl h
some_left P (x ∷ xs) ys (inr h) = inr (some_left P xs ys h)

pub some_right : (P : Object → Type 0) (xs ys : List Object) → SomeOf P ys → SomeOf P (xs ++ ys)
some_right P [] ys h = h
some_right P (x ∷ xs) ys h = inr (some_right P xs ys h)

heard_some : (P : Object → Type 0) (e : Entry) → TellsObject P e → SomeOf P (heard_of e)
heard_some P e t = by e.told t.0
  where
    by : (b : Bool) → b ≡ true → SomeOf P (if b then objects_in e.reply else [])
    by true told = t.1
    by false told = absurd (true≢false (sym told))

pub told_some : (P : Object → Type 0) (mine : List Entry) → ToldObject P mine → SomeOf P (told_objects mine)
told_some P [] h = h
told_some P (e ∷ mine) (inl t) = some_left P (heard_of e) (told_objects mine) (heard_some P e t)
told_some P (e ∷ mine) (inr h) = some_right P (heard_of e) (told_objects mine) (told_some P mine h)

some_volume : (P : VolumeData → Type 0) (os : List Object) → SomeOf (IsVolumeWith P) os → SomeOf P (volumes_in os)
some_volume P [] h = h
some_volume P (Volume v ∷ os) (inl h) = inl h
some_volume P (Volume v ∷ os) (inr h) = inr (some_volume P os h)
some_volume P (o ∷ os) (inl h) = absurd h
some_volume P (o ∷ os) (inr h) = some_volume P os h

some_claim : (P : ClaimData → Type 0) (os : List Object) → SomeOf (IsClaimWith P) os → SomeOf P (claims_in os)
some_claim P [] h = h
some_claim P (Claim x ∷ os) (inl h) = inl h
some_claim P (Claim x ∷ os) (inr h) = inr (some_claim P os h)
some_claim P (o ∷ os) (inl h) = absurd h
some_claim P (o ∷ os) (inr h) = some_claim P os h

-- each volume, and each claim, that was told
pub told_volumes : (P : VolumeData → Type 0) (mine : List Entry) → ToldVolume P mine → SomeOf P (volumes_in (told_objects mine))
told_volumes P mine h = some_volume P (told_objects mine) (told_some (IsVolumeWith P) mine h)

pub told_claims : (P : ClaimData → Type 0) (mine : List Entry) → ToldClaim P mine → SomeOf P (claims_in (told_objects mine))
told_claims P mine h = some_claim P (told_objects mine) (told_some (IsClaimWith P) mine h)

-- the row at each volume, and each claim, that was told
pub volume_row : (Row : VolumeData → Type 0) (mine : List Entry) (new : VolumeData) (given : Option ℕ) → AtVolume mine new given Row
    → SomeOf (λ o. IsWrittenAt given new.meta.namespace new.meta.name o.meta × Row o) (volumes_in (told_objects mine))
volume_row Row mine new given h = told_volumes (λ o. IsWrittenAt given new.meta.namespace new.meta.name o.meta × Row o) mine h

pub claim_row : (Row : ClaimData → Type 0) (mine : List Entry) (new : ClaimData) (given : Option ℕ) → AtClaim mine new given Row
    → SomeOf (λ o. IsWrittenAt given new.meta.namespace new.meta.name o.meta × Row o) (claims_in (told_objects mine))
claim_row Row mine new given h = told_claims (λ o. IsWrittenAt given new.meta.namespace new.meta.name o.meta × Row o) mine h

pub volume_status_row : (Row : VolumeData → Type 0) (mine : List Entry) (key : Key) (given : Option ℕ) → AtVolumeKey mine key given Row
    → SomeOf (λ o. IsWrittenAt given key.namespace key.name o.meta × Row o) (volumes_in (told_objects mine))
volume_status_row Row mine key given h = told_volumes (λ o. IsWrittenAt given key.namespace key.name o.meta × Row o) mine h.1

pub claim_status_row : (Row : ClaimData → Type 0) (mine : List Entry) (key : Key) (given : Option ℕ) → AtClaimKey mine key given Row
    → SomeOf (λ o. IsWrittenAt given key.namespace key.name o.meta × Row o) (claims_in (told_objects mine))
claim_status_row Row mine key given h = told_claims (λ o. IsWrittenAt given key.namespace key.name o.meta × Row o) mine h.1

-- after

-- what was told before was told
pub after_told : (P : Object → Type 0) (Q : Entry → Type 0) (mine : List Entry) → After (ToldObject P) Q mine → ToldObject P mine
after_told P Q [] h = absurd h
after_told P Q (e ∷ mine) (inl h) = inr h.1
after_told P Q (e ∷ mine) (inr h) = inr (after_told P Q mine h)

abbrev pub is_get : Request → Bool
is_get (requests.Get key) = true
is_get request = false

abbrev pub has_get : List Entry → Bool
has_get [] = false
has_get (e ∷ mine) = if is_get e.request then true else has_get mine

-- no read was told where none was asked
pub never_read : (key : Key) (P : Option Object → Type 0) (mine : List Entry) → has_get mine ≡ false → SomeOf (TellsLive key P) mine → ⊥
never_read key P [] none h = h
never_read key P (e ∷ mine) none h = by (is_get e.request) refl none h (never_read key P mine)
  where
    by : (b : Bool) → is_get e.request ≡ b → (if b then true else has_get mine) ≡ false → TellsLive key P e ⊎ SomeOf (TellsLive key P) mine
        → (has_get mine ≡ false → SomeOf (TellsLive key P) mine → ⊥) → ⊥
    by true is none h more = true≢false none
    by false is none (inl t) more = true≢false (sym (ap is_get t.1) ∙ is)
    by false is none (inr h) more = more none h

-- the key that a request reads
abbrev pub key_read : Request → Option Key
key_read (requests.Get key) = Some key
key_read request = None

pub not_get : {request : Request} {key : Key} → request ≡ requests.Get key → is_get request ≡ false → ⊥
not_get e none = true≢false (sym (ap is_get e) ∙ none)

-- the newest told

abbrev pub IsIn : Object → List Object → Type 0
IsIn o os = SomeOf (λ x. x ≡ o) os

none_some : {X : Type 0} {x : X} → None ≡ Some x → ⊥
none_some e = true≢false (sym (ap is_some e))

pub one : {X : Type 0} (a b : X) → Some a ≡ Some b → a ≡ b
one a b e = ap (λ o. unwrap_or o a) e

-- the newest told object of a key is one that was told
pub newest_in : (mine : List Entry) (key : Key) (o : Object) → IsNewest mine key o → IsIn o (told_objects mine)
newest_in mine key o e = told_some (λ x. x ≡ o) mine (newest_told mine key o e)

-- of each kind

abbrev pub classes_in : List Object → List ClassData
classes_in [] = []
classes_in (Class x ∷ os) = x ∷ classes_in os
classes_in (o ∷ os) = classes_in os

abbrev pub nodes_in : List Object → List NodeData
nodes_in [] = []
nodes_in (Node x ∷ os) = x ∷ nodes_in os
nodes_in (o ∷ os) = nodes_in os

abbrev pub pods_in : List Object → List PodData
pods_in [] = []
pods_in (Pod x ∷ os) = x ∷ pods_in os
pods_in (o ∷ os) = pods_in os

abbrev claim_or : ClaimData → Object → ClaimData
claim_or x (Claim y) = y
claim_or x o = x

abbrev class_or : ClassData → Object → ClassData
class_or x (Class y) = y
class_or x o = x

abbrev node_or : NodeData → Object → NodeData
node_or x (Node y) = y
node_or x o = x

abbrev volume_or : VolumeData → Object → VolumeData
volume_or x (Volume y) = y
volume_or x o = x

abbrev pod_or : PodData → Object → PodData
pod_or x (Pod y) = y
pod_or x o = x

abbrev is_claim : Object → Bool
is_claim (Claim x) = true
is_claim o = false

abbrev is_class : Object → Bool
is_class (Class x) = true
is_class o = false

abbrev is_node : Object → Bool
is_node (Node x) = true
is_node o = false

abbrev is_volume : Object → Bool
is_volume (Volume x) = true
is_volume o = false

abbrev is_pod : Object → Bool
is_pod (Pod x) = true
is_pod o = false

pub claim_in : (y : ClaimData) (os : List Object) → IsIn (Claim y) os → SomeOf (λ x. x ≡ y) (claims_in os)
claim_in y [] h = h
claim_in y (Claim x ∷ os) (inl e) = inl (ap (claim_or x) e)
claim_in y (Claim x ∷ os) (inr h) = inr (claim_in y os h)
claim_in y (o ∷ os) (inl e) = absurd (true≢false (sym (ap is_claim e)))
claim_in y (o ∷ os) (inr h) = claim_in y os h

class_in : (y : ClassData) (os : List Object) → IsIn (Class y) os → SomeOf (λ x. x ≡ y) (classes_in os)
class_in y [] h = h
class_in y (Class x ∷ os) (inl e) = inl (ap (class_or x) e)
class_in y (Class x ∷ os) (inr h) = inr (class_in y os h)
class_in y (o ∷ os) (inl e) = absurd (true≢false (sym (ap is_class e)))
class_in y (o ∷ os) (inr h) = class_in y os h

pub node_in : (y : NodeData) (os : List Object) → IsIn (Node y) os → SomeOf (λ x. x ≡ y) (nodes_in os)
node_in y [] h = h
node_in y (Node x ∷ os) (inl e) = inl (ap (node_or x) e)
node_in y (Node x ∷ os) (inr h) = inr (node_in y os h)
node_in y (o ∷ os) (inl e) = absurd (true≢false (sym (ap is_node e)))
node_in y (o ∷ os) (inr h) = node_in y os h

pub volume_in : (y : VolumeData) (os : List Object) → IsIn (Volume y) os → SomeOf (λ x. x ≡ y) (volumes_in os)
volume_in y [] h = h
volume_in y (Volume x ∷ os) (inl e) = inl (ap (volume_or x) e)
volume_in y (Volume x ∷ os) (inr h) = inr (volume_in y os h)
volume_in y (o ∷ os) (inl e) = absurd (true≢false (sym (ap is_volume e)))
volume_in y (o ∷ os) (inr h) = volume_in y os h

pod_in : (y : PodData) (os : List Object) → IsIn (Pod y) os → SomeOf (λ x. x ≡ y) (pods_in os)
pod_in y [] h = h
pod_in y (Pod x ∷ os) (inl e) = inl (ap (pod_or x) e)
pod_in y (Pod x ∷ os) (inr h) = inr (pod_in y os h)
pod_in y (o ∷ os) (inl e) = absurd (true≢false (sym (ap is_pod e)))
pod_in y (o ∷ os) (inr h) = pod_in y os h

pub newest_claim : (mine : List Entry) (key : Key) (y : ClaimData) → IsNewest mine key (Claim y) → SomeOf (λ x. x ≡ y) (claims_in (told_objects mine))
newest_claim mine key y e = claim_in y (told_objects mine) (newest_in mine key (Claim y) e)

pub newest_class : (mine : List Entry) (key : Key) (y : ClassData) → IsNewest mine key (Class y) → SomeOf (λ x. x ≡ y) (classes_in (told_objects mine))
newest_class mine key y e = class_in y (told_objects mine) (newest_in mine key (Class y) e)

pub newest_node : (mine : List Entry) (key : Key) (y : NodeData) → IsNewest mine key (Node y) → SomeOf (λ x. x ≡ y) (nodes_in (told_objects mine))
newest_node mine key y e = node_in y (told_objects mine) (newest_in mine key (Node y) e)

pub newest_volume : (mine : List Entry) (key : Key) (y : VolumeData) → IsNewest mine key (Volume y) → SomeOf (λ x. x ≡ y) (volumes_in (told_objects mine))
newest_volume mine key y e = volume_in y (told_objects mine) (newest_in mine key (Volume y) e)

pub newest_pod : (mine : List Entry) (key : Key) (y : PodData) → IsNewest mine key (Pod y) → SomeOf (λ x. x ≡ y) (pods_in (told_objects mine))
newest_pod mine key y e = pod_in y (told_objects mine) (newest_in mine key (Pod y) e)

-- each pod that was told
some_pod : (P : PodData → Type 0) (os : List Object) → SomeOf (IsPodWith P) os → SomeOf P (pods_in os)
some_pod P [] h = h
some_pod P (Pod x ∷ os) (inl h) = inl h
some_pod P (Pod x ∷ os) (inr h) = inr (some_pod P os h)
some_pod P (o ∷ os) (inl h) = absurd h
some_pod P (o ∷ os) (inr h) = some_pod P os h

pub told_pods : (P : PodData → Type 0) (mine : List Entry) → ToldPod P mine → SomeOf P (pods_in (told_objects mine))
told_pods P mine h = some_pod P (told_objects mine) (told_some (IsPodWith P) mine h)

-- two objects that are the newest told of one key

abbrev pub volume_of : VolumeData → Option Object → VolumeData
volume_of x None = x
volume_of x (Some o) = volume_or x o
