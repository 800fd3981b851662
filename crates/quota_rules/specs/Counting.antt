-- The claims that are counted against quotas, each with the bytes that it asks for, in the order of their keys.
-- Source: Kubernetes documentation, "Resource Quotas", Storage Resource Quota: a claim counts with its request, from its creation
-- until it is gone. That it counts with its growth too is a choice of this project.
use Rattle.std.specs.Prelude.{ℕ, ◌+◌, ◌<◌, ◌^◌, ◌&&◌, Bool, true, false, List, [], ◌∷◌, Option, Some, None, bytes_eq, if◌then◌else◌}
use Rattle.plain_data.specs.Rows.{IsRising, find, put, without}
use Rattle.kube_objects.specs.declared.key.Key.{Key}
use Rattle.kube_parts.specs.declared.uid.Uid.{Uid}
use Rattle.kube_objects.specs.declared.objects.Claim.{Claim as ClaimData}
use Rattle.kube_objects.specs.declared.objects.Object.{Object}
use Rattle.kube_objects.specs.declared.objects.Object.TheVariants.{Claim}
use Rattle.kube_objects.specs.Bindings.{is_uid}
use Rattle.kube_objects.specs.Keys.{key_cmp, key_of}
use Rattle.call_types.specs.declared.reply.Reply.{Reply}
use Rattle.call_types.specs.declared.reply.Reply.TheVariants.{Done, Left}
use Rattle.quota_rules.specs.declared.counted.Counted.{Counted}

-- the key of the claim that is counted
abbrev pub counted_key : Counted → Key
counted_key x = x.key

-- in the order of their keys, no key twice
abbrev pub AreCounted : List Counted → Type 0
AreCounted xs = IsRising key_cmp counted_key xs

-- a claim that did not grow asks for its request
abbrev pub counted_of : ClaimData → Counted
counted_of c = record { key = key_of (Claim c); claim = c.meta.uid; asked = c.amount.bytes }

-- both UIDs are there, and are one
abbrev pub shares_uid : Option Uid → Option Uid → Bool
shares_uid None other = false
shares_uid (Some uid) other = is_uid other uid

-- what is counted at a key is the claim of this UID, and no earlier one of the same name
abbrev pub is_same_claim : Option Counted → Option Uid → Bool
is_same_claim None uid = false
is_same_claim (Some x) uid = shares_uid x.claim uid

-- a claim that is counted stays as it is counted; a new one is counted with its request
abbrev pub with_claim : ClaimData → List Counted → List Counted
with_claim c xs = if is_same_claim (find key_cmp counted_key (key_of (Claim c)) xs) c.meta.uid then xs else put key_cmp counted_key (counted_of c) xs

-- with an object that a call has written: claims alone are counted
abbrev pub with_object : Object → List Counted → List Counted
with_object (Claim c) xs = with_claim c xs
with_object o xs = xs

-- without an object that has left
abbrev pub without_object : Object → List Counted → List Counted
without_object (Claim c) xs = without key_cmp counted_key (key_of (Claim c)) xs
without_object o xs = xs

-- what is counted after a call with this reply: the object of a reply was written, or has left
abbrev pub noted : Reply → List Counted → List Counted
noted (Done o) xs = with_object o xs
noted (Left o) xs = without_object o xs
noted reply xs = xs

-- what is counted of these objects, none of which has grown
abbrev pub claims_in : List Object → List Counted
claims_in [] = []
claims_in (Claim c ∷ os) = counted_of c ∷ claims_in os
claims_in (o ∷ os) = claims_in os

-- ---- growth

-- the claim of this UID in this namespace
abbrev pub is_claim_of : List ℕ → Uid → Counted → Bool
is_claim_of namespace uid x = bytes_eq x.key.namespace namespace && is_uid x.claim uid

-- the claim asks for so many bytes more
abbrev pub grown_in : List ℕ → Uid → ℕ → List Counted → List Counted
grown_in namespace uid more [] = []
grown_in namespace uid more (x ∷ xs) = if is_claim_of namespace uid x then (record x { asked = x.asked + more }) ∷ xs else x ∷ grown_in namespace uid more xs

-- one of two propositions, by a test
abbrev pub HasRoomIf : Bool → Type 0 → Type 0 → Type 0
HasRoomIf true here later = here
HasRoomIf false here later = later

-- the claim of the UID is counted in the namespace, and with so many bytes more it asks for fewer than 2^64
abbrev pub HasRoom : List ℕ → Uid → ℕ → List Counted → Type 0
HasRoom namespace uid more [] = ⊥
HasRoom namespace uid more (x ∷ xs) = HasRoomIf (is_claim_of namespace uid x) (x.asked + more < 2 ^ 64) (HasRoom namespace uid more xs)
