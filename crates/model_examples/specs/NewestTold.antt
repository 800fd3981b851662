-- What a seat was told: which answers tell an object, and which telling of a key is the newest.
-- A choice of this project. The newest exchange stands first.
use Rattle.std.specs.Prelude.{ℕ, ◌≡◌, List, [], ◌∷◌, Option, Some, None, codes}
use Rattle.kube_parts.specs.declared.parts.Kind.TheVariants as kinds
use Rattle.kube_objects.specs.declared.objects.Claim.{Claim as ClaimData}
use Rattle.kube_objects.specs.declared.objects.Object.{Object}
use Rattle.kube_objects.specs.declared.objects.Object.TheVariants.{Claim}
use Rattle.call_types.specs.declared.request.SeatKind.TheVariants as seats
use Rattle.call_types.specs.declared.request.Request.TheVariants as requests
use Rattle.call_types.specs.declared.reply.Change.TheVariants as changes
use Rattle.call_types.specs.declared.reply.Refusal.TheVariants as refusals
use Rattle.call_types.specs.declared.reply.Reply.TheVariants as replies
use Rattle.binder_model.specs.Told.{ToldObject, IsNewestAbsent, newest, object_of}
use Rattle.model_examples.specs.Samples.{Exchange, seat_of, heard, unheard, lists, lists_in, tells_claim, finds, finds_none, watches, c, d, claim_at, key_c}

-- the claim stands in what was told
abbrev pub Tells : List Exchange → Type 0
Tells xs = ToldObject (λ o. o ≡ Claim c) (seat_of seats.Binder xs)

-- a write of the claim that was done, and one by which it left
abbrev pub writes : Exchange
writes = heard (requests.Update (Claim c) None) (replies.Done (Claim c))

abbrev pub removes : Exchange
removes = heard (requests.Update (Claim c) None) (replies.Left (Claim c))

pub record ToldExamples : Type 0 where
  pub by_write : Tells (writes ∷ [])
  pub by_get : Tells (finds key_c (Claim c) ∷ [])
  pub by_list : Tells (lists kinds.PersistentVolumeClaim (Claim d ∷ Claim c ∷ []) 5 ∷ [])
  pub by_list_of_namespace : Tells (lists_in (codes "default") (Claim c ∷ []) 5 ∷ [])
  pub by_event_added : Tells (watches kinds.PersistentVolumeClaim changes.Added (Claim c) 2 ∷ [])
  pub by_event_modified : Tells (watches kinds.PersistentVolumeClaim changes.Modified (Claim c) 2 ∷ [])
  pub by_an_older_exchange : Tells (lists kinds.PersistentVolumeClaim [] 9 ∷ tells_claim c ∷ [])
  pub not_by_event_deleted : Tells (watches kinds.PersistentVolumeClaim changes.Deleted (Claim c) 2 ∷ []) → ⊥
  pub not_by_leaving : Tells (removes ∷ []) → ⊥
  pub not_by_lost_answer : Tells (unheard (tells_claim c) ∷ []) → ⊥
  pub not_by_request : Tells (heard (requests.Update (Claim c) None) (replies.Refused (refusals.Conflict 5)) ∷ []) → ⊥
  pub not_at_other_version : Tells (tells_claim (claim_at 5 c) ∷ []) → ⊥

-- the newest told of the claim's key

abbrev pub Newest : List Exchange → Option Object → Type 0
Newest xs o = object_of (newest (seat_of seats.Binder xs) key_c) ≡ o

abbrev pub Absent : List Exchange → Type 0
Absent xs = IsNewestAbsent (seat_of seats.Binder xs) key_c

abbrev pub c_5 : ClaimData
c_5 = claim_at 5 c

-- another claim, of a later version
abbrev pub d_9 : ClaimData
d_9 = claim_at 9 d

-- one answer with a change of two objects
abbrev pub two_events : Object → ℕ → Object → ℕ → Exchange
two_events first at second last = heard (requests.Watch kinds.PersistentVolumeClaim 1) (replies.Events (record {
  events = record { change = changes.Modified; object = first; version = at } ∷ record { change = changes.Modified; object = second; version = last } ∷ [];
  upto = last;
}))

pub record NewestExamples : Type 0 where
  pub by_write : Newest (writes ∷ []) (Some (Claim c))
  pub by_list : Newest (lists kinds.PersistentVolumeClaim (Claim d ∷ Claim c ∷ []) 9 ∷ []) (Some (Claim c))
  pub by_event : Newest (watches kinds.PersistentVolumeClaim changes.Modified (Claim c_5) 5 ∷ tells_claim c ∷ []) (Some (Claim c_5))
  pub greater_version_told_before : Newest (tells_claim c ∷ tells_claim c_5 ∷ []) (Some (Claim c_5))
  pub greater_version_told_after : Newest (tells_claim c_5 ∷ tells_claim c ∷ []) (Some (Claim c_5))
  pub lost_answer_tells_nothing : Newest (unheard (tells_claim c_5) ∷ tells_claim c ∷ []) (Some (Claim c))
  pub live_read_tells_no_newest : Newest (finds key_c (Claim c_5) ∷ tells_claim c ∷ []) (Some (Claim c))
  pub live_read_alone_tells_no_newest : Newest (finds key_c (Claim c) ∷ []) None
  pub absent_in_a_later_list : Absent (lists kinds.PersistentVolumeClaim (Claim d ∷ []) 9 ∷ tells_claim c ∷ [])
  pub absent_in_an_older_list : Newest (lists kinds.PersistentVolumeClaim [] 1 ∷ tells_claim c ∷ []) (Some (Claim c))
  pub absent_by_leaving : Absent (heard (requests.Update (Claim c) None) (replies.Left (Claim c_5)) ∷ tells_claim c ∷ [])
  pub absent_by_event_deleted : Absent (watches kinds.PersistentVolumeClaim changes.Deleted (Claim c) 5 ∷ tells_claim c ∷ [])
  pub list_of_other_kind_tells_no_absence : Newest (lists kinds.PersistentVolume [] 9 ∷ tells_claim c ∷ []) (Some (Claim c))
  pub list_of_namespace_tells_absence : Absent (heard (requests.List kinds.PersistentVolumeClaim (Some (codes "default"))) (replies.Listed [] 9) ∷ tells_claim c ∷ [])
  pub list_of_other_namespace_tells_no_absence : Newest (heard (requests.List kinds.PersistentVolumeClaim (Some (codes "x"))) (replies.Listed [] 9) ∷ tells_claim c ∷ []) (Some (Claim c))
  pub not_found_tells_no_absence : Newest (finds_none key_c ∷ tells_claim c ∷ []) (Some (Claim c))
  pub write_of_other_key_tells_nothing : Newest (heard (requests.Update (Claim d_9) None) (replies.Done (Claim d_9)) ∷ tells_claim c ∷ []) (Some (Claim c))
  pub leaving_of_other_key_tells_nothing : Newest (heard (requests.Update (Claim d_9) None) (replies.Left (Claim d_9)) ∷ tells_claim c ∷ []) (Some (Claim c))
  pub event_of_other_key_tells_nothing : Newest (watches kinds.PersistentVolumeClaim changes.Modified (Claim d_9) 9 ∷ tells_claim c ∷ []) (Some (Claim c))
  pub deletion_of_other_key_tells_nothing : Newest (watches kinds.PersistentVolumeClaim changes.Deleted (Claim d_9) 9 ∷ tells_claim c ∷ []) (Some (Claim c))
  pub later_of_two_events : Newest (two_events (Claim c) 2 (Claim c_5) 5 ∷ []) (Some (Claim c_5))
  pub event_behind_one_of_other_key : Newest (two_events (Claim d_9) 9 (Claim c_5) 10 ∷ tells_claim c ∷ []) (Some (Claim c_5))
  pub pods_of_the_namespace_tell_no_absence : Newest (lists_in (codes "default") [] 9 ∷ tells_claim c ∷ []) (Some (Claim c))
  pub nothing_told_is_no_absence : Absent [] → ⊥
  pub present_is_no_absence : Absent (tells_claim c ∷ []) → ⊥
