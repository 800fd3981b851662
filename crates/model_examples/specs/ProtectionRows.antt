-- Where the protection controllers may add and drop their finalizers, and where they may not: for each row cases that
-- hold, and for each of its conditions one that misses it alone. A choice of this project, as the rows are.
-- The newest exchange stands first.
use Rattle.std.specs.Prelude.{ℕ, List, [], ◌∷◌, Some, None, codes}
use Rattle.kube_parts.specs.declared.parts.Kind.TheVariants as kinds
use Rattle.kube_parts.specs.declared.parts.Policy.TheVariants as policies
use Rattle.kube_objects.specs.declared.objects.Claim.{Claim as ClaimData}
use Rattle.kube_objects.specs.declared.objects.Pod.{Pod as PodData}
use Rattle.kube_objects.specs.declared.objects.Volume.{Volume as VolumeData}
use Rattle.kube_objects.specs.declared.objects.Object.{Object}
use Rattle.kube_objects.specs.declared.objects.Object.TheVariants.{Volume, Claim, Pod}
use Rattle.kube_parts.specs.Uids.{uid_of_serial}
use Rattle.kube_objects.specs.Bindings.{pv_protection, pvc_protection}
use Rattle.call_types.specs.declared.request.SeatKind.TheVariants as seats
use Rattle.call_types.specs.declared.request.Request.{Request}
use Rattle.call_types.specs.declared.request.Request.TheVariants as requests
use Rattle.call_types.specs.declared.reply.Change.TheVariants as changes
use Rattle.call_types.specs.declared.reply.Reply.TheVariants as replies
use Rattle.model_examples.specs.Samples.{Allows, Refuses, Exchange, heard, unheard, lists, lists_in, tells_volume, tells_claim, a, c, with_uid, claim_at, deleting, p, waiting_p, leaving_bound_a}

abbrev pub own_mark : List ℕ
own_mark = codes "x/y"

abbrev pub volume_with : List (List ℕ) → VolumeData → VolumeData
volume_with finalizers v = record v { meta = record v.meta { finalizers = finalizers } }

abbrev pub claim_with : List (List ℕ) → ClaimData → ClaimData
claim_with finalizers old = record old { meta = record old.meta { finalizers = finalizers } }

abbrev pub put_volume : VolumeData → ℕ → Request
put_volume v version = requests.Update (Volume v) (Some version)

abbrev pub put_claim : ClaimData → ℕ → Request
put_claim x version = requests.Update (Claim x) (Some version)

-- AddGuard, for volumes

abbrev pub bare_a : VolumeData
bare_a = volume_with (own_mark ∷ []) a

abbrev pub guarded_a : VolumeData
guarded_a = volume_with (own_mark ∷ pv_protection ∷ []) a

abbrev pub leaving_bare_a : VolumeData
leaving_bare_a = let old = bare_a in record old { meta = deleting old.meta }

abbrev pub leaving_guarded_a : VolumeData
leaving_guarded_a = let old = guarded_a in record old { meta = deleting old.meta }

abbrev pub guarded_and_changed : VolumeData
guarded_and_changed = let new = guarded_a in record new { policy = policies.Delete }

pub record AddVolumeGuardExamples : Type 0 where
  pub adds_guard : Allows seats.VolumeProtect (tells_volume bare_a ∷ []) (put_volume guarded_a 3)
  pub deleting_volume_is_refused : Refuses seats.VolumeProtect (tells_volume leaving_bare_a ∷ []) (put_volume leaving_guarded_a 3)
  pub guarded_volume_is_refused : Refuses seats.VolumeProtect (tells_volume a ∷ []) (put_volume (volume_with (pv_protection ∷ pv_protection ∷ []) a) 3)
  pub drops_another_finalizer_is_refused : Refuses seats.VolumeProtect (tells_volume bare_a ∷ []) (put_volume a 3)
  pub changes_policy_too_is_refused : Refuses seats.VolumeProtect (tells_volume bare_a ∷ []) (put_volume guarded_and_changed 3)
  pub volume_never_told_is_refused : Refuses seats.VolumeProtect [] (put_volume guarded_a 3)
  pub other_version_is_refused : Refuses seats.VolumeProtect (tells_volume bare_a ∷ []) (put_volume guarded_a 2)

-- AddGuard, for claims

abbrev pub bare_c : ClaimData
bare_c = claim_with (own_mark ∷ []) c

abbrev pub guarded_c : ClaimData
guarded_c = claim_with (own_mark ∷ pvc_protection ∷ []) c

abbrev pub leaving_bare_c : ClaimData
leaving_bare_c = let old = bare_c in record old { meta = deleting old.meta }

abbrev pub leaving_guarded_c : ClaimData
leaving_guarded_c = let old = guarded_c in record old { meta = deleting old.meta }

abbrev pub guarded_and_named : ClaimData
guarded_and_named = let new = guarded_c in record new { volume_name = codes "a" }

pub record AddClaimGuardExamples : Type 0 where
  pub adds_guard : Allows seats.ClaimProtect (tells_claim bare_c ∷ []) (put_claim guarded_c 2)
  pub deleting_claim_is_refused : Refuses seats.ClaimProtect (tells_claim leaving_bare_c ∷ []) (put_claim leaving_guarded_c 2)
  pub guarded_claim_is_refused : Refuses seats.ClaimProtect (tells_claim c ∷ []) (put_claim (claim_with (pvc_protection ∷ pvc_protection ∷ []) c) 2)
  pub drops_another_finalizer_is_refused : Refuses seats.ClaimProtect (tells_claim bare_c ∷ []) (put_claim c 2)
  pub names_a_volume_too_is_refused : Refuses seats.ClaimProtect (tells_claim bare_c ∷ []) (put_claim guarded_and_named 2)
  pub claim_never_told_is_refused : Refuses seats.ClaimProtect [] (put_claim guarded_c 2)
  pub other_version_is_refused : Refuses seats.ClaimProtect (tells_claim bare_c ∷ []) (put_claim guarded_c 1)

-- DropVolumeGuard

abbrev pub leaving_a : VolumeData
leaving_a = let old = volume_with (own_mark ∷ pv_protection ∷ []) a in record old { meta = deleting old.meta }

abbrev pub loose_a : VolumeData
loose_a = volume_with (own_mark ∷ []) leaving_a

pub record DropVolumeGuardExamples : Type 0 where
  pub drops_guard : Allows seats.VolumeProtect (tells_volume leaving_a ∷ []) (put_volume loose_a 3)
  pub staying_volume_is_refused : Refuses seats.VolumeProtect (tells_volume a ∷ []) (put_volume (volume_with [] a) 3)
  pub bound_volume_is_refused : Refuses seats.VolumeProtect (tells_volume leaving_bound_a ∷ []) (put_volume (volume_with [] leaving_bound_a) 5)
  pub drops_another_finalizer_is_refused : Refuses seats.VolumeProtect (tells_volume leaving_a ∷ []) (put_volume (volume_with [] leaving_a) 3)
  pub volume_never_told_is_refused : Refuses seats.VolumeProtect [] (put_volume loose_a 3)
  pub other_version_is_refused : Refuses seats.VolumeProtect (tells_volume leaving_a ∷ []) (put_volume loose_a 2)
  pub no_version_is_refused : Refuses seats.VolumeProtect (tells_volume leaving_a ∷ []) (requests.Update (Volume loose_a) None)

-- DropClaimGuard

abbrev pub leaving_c : ClaimData
leaving_c = let old = claim_with (own_mark ∷ pvc_protection ∷ []) c in record old { meta = deleting (record old.meta { version = 6 }) }

abbrev pub loose_c : ClaimData
loose_c = claim_with (own_mark ∷ []) leaving_c

abbrev pub drop_guard : Request
drop_guard = put_claim loose_c 6

-- the pods of the claim's namespace, in one list
abbrev pub pods : List PodData → Exchange
pods ps = lists_in (codes "default") (objects ps) 9
  where
    objects : List PodData → List Object
    objects [] = []
    objects (x ∷ xs) = Pod x ∷ objects xs

-- another pod's claims; the same name of a claim in another namespace
abbrev pub other_p : PodData
other_p = record p { claims = codes "d" ∷ [] }

abbrev pub foreign_p : PodData
foreign_p = record p { meta = record p.meta { namespace = codes "x" } }

-- another claim of the name, and the claim before it was deleted
abbrev pub earlier_leaving_c : ClaimData
earlier_leaving_c = claim_at 5 (with_uid (Some (uid_of_serial 9)) leaving_c)

abbrev pub staying_c : ClaimData
staying_c = claim_with (own_mark ∷ pvc_protection ∷ []) c

abbrev pub lists_claims : Exchange
lists_claims = heard (requests.List kinds.PersistentVolumeClaim (Some (codes "default"))) (replies.Listed [] 9)

-- a watch that tells that the pod is gone
abbrev pub watches_it_go : Exchange
watches_it_go = heard (requests.Watch kinds.Pod 6) (replies.Events (record { events = record { change = changes.Deleted; object = Pod p; version = 9 } ∷ []; upto = 9 }))

pub record DropClaimGuardExamples : Type 0 where
  pub drops_guard_where_no_pod_is : Allows seats.ClaimProtect (pods [] ∷ tells_claim leaving_c ∷ []) drop_guard
  pub drops_guard_beside_waiting_pod : Allows seats.ClaimProtect (pods (waiting_p ∷ []) ∷ tells_claim leaving_c ∷ []) drop_guard
  pub drops_guard_beside_pod_of_other_claim : Allows seats.ClaimProtect (pods (other_p ∷ []) ∷ tells_claim leaving_c ∷ []) drop_guard
  pub drops_guard_beside_pod_of_other_namespace : Allows seats.ClaimProtect (pods (foreign_p ∷ []) ∷ tells_claim leaving_c ∷ []) drop_guard
  pub pod_that_uses_it_is_refused : Refuses seats.ClaimProtect (pods (waiting_p ∷ p ∷ []) ∷ tells_claim leaving_c ∷ []) drop_guard
  pub staying_claim_is_refused : Refuses seats.ClaimProtect (pods [] ∷ tells_claim leaving_c ∷ tells_claim staying_c ∷ []) (put_claim bare_c 2)
  pub no_list_is_refused : Refuses seats.ClaimProtect (tells_claim leaving_c ∷ []) drop_guard
  pub list_of_all_pods_is_refused : Refuses seats.ClaimProtect (lists kinds.Pod [] 9 ∷ tells_claim leaving_c ∷ []) drop_guard
  pub list_of_other_namespace_is_refused : Refuses seats.ClaimProtect (lists_in (codes "x") [] 9 ∷ tells_claim leaving_c ∷ []) drop_guard
  pub list_of_claims_is_refused : Refuses seats.ClaimProtect (lists_claims ∷ tells_claim leaving_c ∷ []) drop_guard
  pub watched_pods_alone_is_refused : Refuses seats.ClaimProtect (watches_it_go ∷ tells_claim leaving_c ∷ []) drop_guard
  pub answer_lost_is_refused : Refuses seats.ClaimProtect (unheard (pods []) ∷ tells_claim leaving_c ∷ []) drop_guard
  pub list_before_told_is_refused : Refuses seats.ClaimProtect (tells_claim leaving_c ∷ pods [] ∷ []) drop_guard
  pub list_before_told_deleting_is_refused : Refuses seats.ClaimProtect (tells_claim leaving_c ∷ pods [] ∷ tells_claim staying_c ∷ []) drop_guard
  pub list_after_other_claim_is_refused : Refuses seats.ClaimProtect (tells_claim leaving_c ∷ pods [] ∷ tells_claim earlier_leaving_c ∷ []) drop_guard
  pub drops_another_finalizer_is_refused : Refuses seats.ClaimProtect (pods [] ∷ tells_claim leaving_c ∷ []) (put_claim (claim_with [] leaving_c) 6)
  pub other_version_is_refused : Refuses seats.ClaimProtect (pods [] ∷ tells_claim leaving_c ∷ []) (put_claim loose_c 5)
