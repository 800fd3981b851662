-- What caches that stand for the entries show of the reads of a controller.
use Rattle.std.proofs.Common.{◌≡◌, ℕ, List, Bool, true, false, true≢false, Option, Some, None, inl, inr, sym, ◌∙◌, ap, subst}
use Rattle.kube_parts.specs.declared.uid.Uid.{Uid}
use Rattle.kube_objects.specs.declared.key.Key.{Key}
use Rattle.kube_parts.specs.declared.parts.Kind.{Kind}
use Rattle.kube_parts.specs.declared.parts.Kind.TheVariants as kinds
use Rattle.kube_objects.specs.declared.objects.Ref.{Ref}
use Rattle.kube_objects.specs.declared.objects.Claim.{Claim as ClaimData}
use Rattle.kube_objects.specs.declared.objects.Volume.{Volume as VolumeData}
use Rattle.kube_objects.specs.declared.objects.Object.{Object}
use Rattle.kube_objects.specs.declared.objects.Object.TheVariants.{Volume, Claim}
use Rattle.kube_objects.specs.Bindings.{is_completed}
use Rattle.kube_objects.specs.Keys.{row_at}
use Rattle.call_types.specs.declared.entry.Entry.{Entry}
use Rattle.call_types.specs.declared.request.SeatKind.TheVariants as seats
use Rattle.call_types.specs.declared.request.Request.TheVariants as requests
use Rattle.binder_model.specs.Licence.{Licensed}
use Rattle.binder_model.specs.ObjectKeys.{claim_key, volume_key}
use Rattle.binder_model.specs.OpsLicence.{IsToErase}
use Rattle.binder_model.specs.Reading.{AsksForClaim, AsksForEnded, AsksForVolume, Following, Unlisted, ListedAt, IsDeletingIn, IsFrom, IsUnlisted, LacksUid, MayRead, following_of}
use Rattle.binder_model.specs.Told.{IsClaimWith}
use Rattle.informer_cache.specs.All.{AllKnown, AllStandFor, all_objects, cache_of}
use Rattle.informer_cache.specs.Cache.{ask_from, ask_of, watch_from}
use Rattle.informer_cache.specs.declared.cache.NextRead.{NextRead}
use Rattle.informer_cache.specs.declared.cache.NextRead.TheVariants as asks
use Rattle.evidence_pages.specs.Parts.{IsPart}
use Rattle.evidence_pages.proofs.Growing.{told_grows}

is_list : NextRead → Bool
is_list asks.List = true
is_list (asks.Watch from) = false

from_of : NextRead → ℕ
from_of asks.List = 0
from_of (asks.Watch from) = from

unlisted : (f : Following) → ask_from (watch_from f) ≡ asks.List → IsUnlisted f
unfolding is_list
unlisted Unlisted h = tt
unlisted (ListedAt version None) h = absurd (true≢false (sym (ap is_list h)))
unlisted (ListedAt version (Some upto)) h = absurd (true≢false (sym (ap is_list h)))

from_is : (f : Following) (from : ℕ) → ask_from (watch_from f) ≡ asks.Watch from → IsFrom from f
unfolding is_list from_of
from_is Unlisted from h = absurd (true≢false (ap is_list h))
from_is (ListedAt version None) from h = inl (sym (ap from_of h))
from_is (ListedAt version (Some upto)) from h = inr (ap (λ (a : NextRead). Some (from_of a)) h)

asks_all : (c : AllKnown) (mine : List Entry) (kind : Kind) → AllStandFor c mine → ask_of (cache_of kind c) ≡ ask_from (watch_from (following_of mine kind))
asks_all c mine kind all = ap ask_from ((all.each kind).from ∙ ap (λ k. watch_from (following_of mine k)) (all.kinds kind))

pub unlisted_by : (c : AllKnown) (mine : List Entry) (kind : Kind) (ask : NextRead) → ask ≡ ask_of (cache_of kind c) → ask ≡ asks.List → AllStandFor c mine → IsUnlisted (following_of mine kind)
unlisted_by c mine kind ask is list all = unlisted (following_of mine kind) (sym (asks_all c mine kind all) ∙ sym is ∙ list)

pub from_by : (c : AllKnown) (mine : List Entry) (kind : Kind) (ask : NextRead) (from : ℕ) → ask ≡ ask_of (cache_of kind c) → ask ≡ asks.Watch from
    → AllStandFor c mine → IsFrom from (following_of mine kind)
from_by c mine kind ask from is watch all = from_is (following_of mine kind) from (sym (asks_all c mine kind all) ∙ sym is ∙ watch)

pub asks_claim_by : (c : AllKnown) (mine : List Entry) (key : Key) (found : Option Object) (v : VolumeData) (r : Ref) (uid : Uid)
    → found ≡ row_at key (all_objects c) → v.claim_ref ≡ Some r → r.uid ≡ Some uid → key ≡ claim_key r.namespace r.name → LacksUid found uid
    → row_at (volume_key v.meta.name) (all_objects c) ≡ Some (Volume v) → AllStandFor c mine → AsksForClaim mine key
asks_claim_by c mine key found v r uid is refers known named lacking newest_is all = record {
  volume = v;
  newest_volume = sym (all.rows (volume_key v.meta.name)) ∙ newest_is;
  reference = r;
  refers = refers;
  named = named;
  uid = uid;
  known = known;
  lacking = subst (λ (o : Option Object). LacksUid o uid) (is ∙ all.rows key) lacking;
}

pub asks_volume_by : (c : AllKnown) (mine : List Entry) (key : Key) (claim : ClaimData) → is_completed claim ≡ true
    → key ≡ volume_key claim.volume_name → row_at (claim_key claim.meta.namespace claim.meta.name) (all_objects c) ≡ Some (Claim claim) → AllStandFor c mine → AsksForVolume mine key
asks_volume_by c mine key claim completed named newest_is all = record {
  claim = claim;
  newest_claim = sym (all.rows (claim_key claim.meta.namespace claim.meta.name)) ∙ newest_is;
  completed = completed;
  named = named;
}

pub asks_ended_by : (c : AllKnown) (mine : List Entry) (key : Key) (v : VolumeData) → Some (Volume v) ≡ row_at key (all_objects c) → IsToErase v → AllStandFor c mine → AsksForEnded mine key
asks_ended_by c mine key v is ended all = record { volume = v; newest_volume = sym (all.rows key) ∙ sym is; ended = ended }

pub lists_by : (small mine : List Entry) (namespace : List ℕ) → IsPart small mine
    → Licensed seats.ClaimProtect small (requests.List kinds.Pod (Some namespace)) → MayRead seats.ClaimProtect mine (requests.List kinds.Pod (Some namespace))
lists_by small mine namespace part may = told_grows (IsClaimWith (IsDeletingIn namespace)) small mine part may.1
