-- Imports that pass, and one that fails for each reason; the world that imports make. A choice of this project.
use Rattle.std.specs.Prelude.{ℕ, ◌+◌, ◌^◌, ◌≡◌, List, [], ◌∷◌, Option, Some, None, codes}
use Rattle.kube_parts.specs.declared.names.Field.TheVariants as fields
use Rattle.kube_parts.specs.declared.names.ImportFault.{ImportFault}
use Rattle.kube_parts.specs.declared.names.ImportFault.TheVariants as faults
use Rattle.kube_parts.specs.declared.parts.ClaimPhase.TheVariants as claims
use Rattle.kube_parts.specs.declared.parts.Kind.TheVariants as kinds
use Rattle.kube_parts.specs.declared.parts.VolumePhase.TheVariants as volumes
use Rattle.kube_parts.specs.declared.uid.Uid.{Uid}
use Rattle.kube_objects.specs.declared.objects.Meta.{Meta}
use Rattle.kube_objects.specs.declared.objects.Class.{Class as ClassData}
use Rattle.kube_objects.specs.declared.objects.Claim.{Claim as ClaimData}
use Rattle.kube_objects.specs.declared.objects.Pod.{Pod as PodData}
use Rattle.kube_objects.specs.declared.objects.Volume.{Volume as VolumeData}
use Rattle.kube_objects.specs.declared.objects.Object.{Object}
use Rattle.kube_objects.specs.declared.objects.Object.TheVariants.{Class, Node, Volume, Claim, Pod}
use Rattle.kube_parts.specs.Uids.{uid_of_serial}
use Rattle.kube_objects.specs.Bindings.{pv_protection}
use Rattle.call_types.specs.declared.setup.Setup.{Setup}
use Rattle.call_types.specs.declared.request.SeatKind.TheVariants as seats
use Rattle.call_types.specs.declared.request.Request.TheVariants as requests
use Rattle.call_types.specs.declared.reply.Refusal.TheVariants as refusals
use Rattle.call_types.specs.declared.reply.Reply.{Reply}
use Rattle.call_types.specs.declared.reply.Reply.TheVariants as replies
use Rattle.binder_model.specs.Store.{first_moment}
use Rattle.binder_model.specs.Imports.{import_fault, ImportsPass}
use Rattle.binder_model.specs.World.{first_world, base, effect, reply_to}
use Rattle.model_examples.specs.Samples.{
  amount,
  a,
  c,
  d,
  in_phase,
  with_reference,
  with_uid,
  deleting,
  name_c,
  ref_c,
  taken_a,
  bound_a,
  released_a,
  bound_c,
  fast,
  n1,
  p,
  waiting_p,
  elsewhere_c,
  here_c,
  lost_c,
}

-- the import of the object after those before it
abbrev pub FaultOf : List Object → Object → Option ImportFault → Type 0
FaultOf before o fault = import_fault before o ≡ fault

abbrev pub volume_uid : Option Uid → VolumeData → VolumeData
volume_uid uid v = record v { meta = record v.meta { uid = uid } }

abbrev pub volume_named : List ℕ → VolumeData → VolumeData
volume_named name v = record v { meta = record v.meta { name = name } }

abbrev pub volume_version : ℕ → VolumeData → VolumeData
volume_version version v = record v { meta = record v.meta { version = version } }

-- the greatest number that an import may have, and one more
abbrev pub most : ℕ
most = 2 ^ 61

abbrev pub too_great : ℕ
too_great = 2 ^ 61 + 1

-- a UID that no create gives
abbrev pub foreign_uid : Uid
foreign_uid = record { 0 = 7 }

-- 11111111-1111-4111-8111-111111111111, as other stores give them at random
abbrev pub random_uid : Uid
random_uid = record { 0 = 22685491128062564230891640495451214097 }

-- the first above those that creates give
abbrev pub above_serials : Uid
above_serials = uid_of_serial (2 ^ 62)

abbrev pub refers_with : Uid → VolumeData
refers_with uid = with_reference (Some (record ref_c { uid = Some uid })) a

-- another volume, with the UID of its own
abbrev pub b : VolumeData
b = volume_uid (Some (uid_of_serial 12)) (volume_named (codes "b") a)

-- a volume whose reference has the UID of the claim and another name
abbrev pub misnamed_a : VolumeData
misnamed_a = with_reference (Some (record ref_c { name = codes "d" })) a

pub record ImportFaultExamples : Type 0 where
  pub volume_passes : FaultOf [] (Volume taken_a) None
  pub claim_passes : FaultOf (Volume taken_a ∷ []) (Claim c) None
  pub class_passes : FaultOf [] (Class fast) None
  pub node_passes : FaultOf [] (Node n1) None
  pub pod_passes : FaultOf [] (Pod p) None
  pub no_uid : FaultOf [] (Volume (volume_uid None a)) (Some faults.MissingUid)
  pub greatest_version_passes : FaultOf [] (Volume (volume_version most a)) None
  pub version_too_great : FaultOf [] (Volume (volume_version too_great a)) (Some faults.Version)
  pub greatest_serial_passes : FaultOf [] (Volume (volume_uid (Some (uid_of_serial most)) a)) None
  pub serial_too_great : FaultOf [] (Volume (volume_uid (Some (uid_of_serial too_great)) a)) (Some faults.Serial)
  pub serial_in_reference_too_great : FaultOf [] (Volume (refers_with (uid_of_serial too_great))) (Some faults.Serial)
  pub foreign_uid_passes : FaultOf [] (Volume (volume_uid (Some foreign_uid) a)) None
  pub random_uid_passes : FaultOf [] (Volume (volume_uid (Some random_uid) a)) None
  pub random_uid_in_reference_passes : FaultOf [] (Volume (refers_with random_uid)) None
  pub uid_above_the_serials_passes : FaultOf [] (Volume (volume_uid (Some above_serials) a)) None
  pub random_uid_again : FaultOf (Volume (volume_uid (Some random_uid) a) ∷ []) (Claim (with_uid (Some random_uid) c)) (Some faults.UidAgain)
  pub bad_name : FaultOf [] (Volume (volume_named (codes "A") a)) (Some (faults.Value fields.Name))
  pub volume_in_namespace : FaultOf [] (Volume (record a { meta = record a.meta { namespace = codes "x" } })) (Some (faults.Value fields.Namespace))
  pub no_bytes : FaultOf [] (Claim (record c { amount = amount 0 })) (Some (faults.Value fields.Request))
  pub name_again : FaultOf (Volume a ∷ []) (Volume (volume_uid (Some (uid_of_serial 12)) a)) (Some faults.NameAgain)
  pub name_of_other_kind_passes : FaultOf (Class (record fast { meta = record fast.meta { name = codes "a" } }) ∷ []) (Volume a) None
  pub uid_again : FaultOf (Volume a ∷ []) (Volume (volume_uid (Some (uid_of_serial 1)) b)) (Some faults.UidAgain)
  pub uid_of_other_kind_again : FaultOf (Volume a ∷ []) (Claim (with_uid (Some (uid_of_serial 1)) c)) (Some faults.UidAgain)
  pub reference_to_other_name : FaultOf (Claim c ∷ []) (Volume misnamed_a) (Some faults.ClaimRef)
  pub reference_to_other_name_later : FaultOf (Volume misnamed_a ∷ []) (Claim c) (Some faults.ClaimRef)
  pub reference_to_no_claim : FaultOf (Node n1 ∷ []) (Volume (refers_with (uid_of_serial 5))) (Some faults.ClaimRef)
  pub reference_to_itself : FaultOf [] (Volume (refers_with (uid_of_serial 1))) (Some faults.ClaimRef)
  pub reference_to_absent_claim_passes : FaultOf (Claim d ∷ []) (Volume taken_a) None
  pub ended_for_claim_that_names_it : FaultOf (Claim here_c ∷ []) (Volume released_a) (Some faults.Phase)
  pub ended_for_claim_that_names_none : FaultOf (Volume (in_phase volumes.Failed taken_a) ∷ []) (Claim c) (Some faults.Phase)
  pub ended_for_claim_elsewhere_passes : FaultOf (Claim elsewhere_c ∷ []) (Volume released_a) None
  pub ended_for_absent_claim_passes : FaultOf (Claim d ∷ []) (Volume released_a) None
  pub first_is_the_uid : FaultOf (Volume a ∷ []) (Volume (volume_uid None (volume_version too_great a))) (Some faults.MissingUid)
  pub version_before_serial : FaultOf [] (Volume (volume_version too_great (refers_with (uid_of_serial too_great)))) (Some faults.Version)
  pub serial_before_value : FaultOf [] (Volume (volume_named (codes "A") (refers_with (uid_of_serial too_great)))) (Some faults.Serial)
  pub value_before_name : FaultOf (Claim c ∷ []) (Claim (record c { amount = amount 0 })) (Some (faults.Value fields.Request))
  pub name_before_uid : FaultOf (Volume a ∷ []) (Volume a) (Some faults.NameAgain)
  pub uid_before_reference : FaultOf (Claim c ∷ []) (Volume (volume_uid (Some (uid_of_serial 2)) misnamed_a)) (Some faults.UidAgain)
  pub reference_before_phase : FaultOf (Claim c ∷ []) (Volume (in_phase volumes.Released misnamed_a)) (Some faults.ClaimRef)
  pub all_pass : ImportsPass (Volume bound_a ∷ Claim bound_c ∷ Class fast ∷ Node n1 ∷ [])
  pub second_fails : ImportsPass (Volume a ∷ Volume a ∷ []) → ⊥
  pub last_fails : ImportsPass (Claim c ∷ Class fast ∷ Volume misnamed_a ∷ []) → ⊥

-- the world that imports make

abbrev pub setup_of : List Object → Setup
setup_of imports = record { pools = []; faults = []; imports = imports }

abbrev pub RowsAre : List Object → List Object → Type 0
RowsAre imports rows = (first_world (setup_of imports)).store.rows ≡ rows

abbrev pub bare_a : VolumeData
bare_a = record bound_a { meta = record bound_a.meta { finalizers = codes "x/y" ∷ []; created = [] } }

abbrev pub kept_a : VolumeData
kept_a = record bound_a { meta = record bound_a.meta { finalizers = codes "x/y" ∷ pv_protection ∷ []; created = first_moment } }

abbrev pub bare_c : ClaimData
bare_c = record c { meta = record c.meta { finalizers = [] }; phase = claims.Bound }

abbrev pub leaving_class : ClassData
leaving_class = record fast { meta = deleting fast.meta }

abbrev pub held_class : ClassData
held_class = record fast { meta = record (deleting fast.meta) { finalizers = codes "x/y" ∷ [] } }

abbrev pub leaving_waiting_p : PodData
leaving_waiting_p = record waiting_p { meta = deleting waiting_p.meta }

abbrev pub leaving_p : PodData
leaving_p = record p { meta = deleting p.meta }

-- the moment at which an object was created in the older store, and the metadata with a moment
abbrev pub long_ago : List ℕ
long_ago = codes "1999-12-31T23:59:59Z"

abbrev pub created_at : List ℕ → Meta → Meta
created_at moment m = record m { created = moment }

-- a watch as the first call
abbrev pub FirstWatch : List Object → ℕ → Reply → Type 0
FirstWatch imports from reply = reply_to (effect (setup_of imports) (first_world (setup_of imports)) seats.Binder (requests.Watch kinds.PersistentVolume from)) ≡ reply

pub record FirstWorldExamples : Type 0 where
  pub nothing : RowsAre [] []
  pub nothing_at_version_zero : base (setup_of []) ≡ 0
  pub in_order : RowsAre (Claim c ∷ Volume a ∷ Class fast ∷ []) (Class fast ∷ Volume a ∷ Claim c ∷ [])
  pub volume_is_protected : RowsAre (Volume bare_a ∷ []) (Volume kept_a ∷ [])
  pub claim_is_protected_and_pending : RowsAre (Claim bare_c ∷ []) (Claim c ∷ [])
  pub bound_claim_stays : RowsAre (Volume bound_a ∷ Claim bound_c ∷ []) (Volume bound_a ∷ Claim bound_c ∷ [])
  pub lost_without_volume : RowsAre (Claim bound_c ∷ []) (Claim lost_c ∷ [])
  pub lost_where_volume_is_not_bound : RowsAre (Volume taken_a ∷ Claim bound_c ∷ []) (Volume taken_a ∷ Claim lost_c ∷ [])
  pub lost_where_volume_has_no_uid : RowsAre (Volume (with_reference (Some name_c) bound_a) ∷ Claim bound_c ∷ []) (Volume (with_reference (Some name_c) bound_a) ∷ Claim lost_c ∷ [])
  pub lost_where_volume_has_other_name : RowsAre (Volume (volume_named (codes "b") bound_a) ∷ Claim bound_c ∷ []) (Volume (volume_named (codes "b") bound_a) ∷ Claim lost_c ∷ [])
  pub leaving_class_is_dropped : RowsAre (Class leaving_class ∷ []) []
  pub leaving_class_with_finalizer_stays : RowsAre (Class held_class ∷ []) (Class held_class ∷ [])
  pub leaving_waiting_pod_is_dropped : RowsAre (Pod leaving_waiting_p ∷ []) []
  pub leaving_pod_on_node_stays : RowsAre (Pod leaving_p ∷ []) (Pod leaving_p ∷ [])
  pub begins_with_greatest_version : base (setup_of (Volume bound_a ∷ Claim c ∷ [])) ≡ 5
  pub begins_with_greatest_serial : base (setup_of (Volume (volume_uid (Some (uid_of_serial 30)) bound_a) ∷ [])) ≡ 30
  pub begins_with_serial_in_reference : base (setup_of (Volume (refers_with (uid_of_serial 40)) ∷ [])) ≡ 40
  pub foreign_uid_has_no_serial : base (setup_of (Volume (volume_uid (Some foreign_uid) bound_a) ∷ [])) ≡ 5
  pub random_uid_has_no_serial : base (setup_of (Volume (volume_uid (Some random_uid) bound_a) ∷ [])) ≡ 5
  pub random_uid_in_reference_has_no_serial : base (setup_of (Volume (refers_with random_uid) ∷ [])) ≡ 3
  pub creation_of_class_stays : RowsAre (Class (record fast { meta = created_at long_ago fast.meta }) ∷ []) (Class (record fast { meta = created_at long_ago fast.meta }) ∷ [])
  pub creation_of_node_stays : RowsAre (Node (record n1 { meta = created_at long_ago n1.meta }) ∷ []) (Node (record n1 { meta = created_at long_ago n1.meta }) ∷ [])
  pub creation_of_volume_stays : RowsAre (Volume (record a { meta = created_at long_ago a.meta }) ∷ []) (Volume (record a { meta = created_at long_ago a.meta }) ∷ [])
  pub creation_of_claim_stays : RowsAre (Claim (record c { meta = created_at long_ago c.meta }) ∷ []) (Claim (record c { meta = created_at long_ago c.meta }) ∷ [])
  pub creation_of_pod_stays : RowsAre (Pod (record p { meta = created_at long_ago p.meta }) ∷ []) (Pod (record p { meta = created_at long_ago p.meta }) ∷ [])
  pub class_without_creation : RowsAre (Class (record fast { meta = created_at [] fast.meta }) ∷ []) (Class fast ∷ [])
  pub node_without_creation : RowsAre (Node (record n1 { meta = created_at [] n1.meta }) ∷ []) (Node n1 ∷ [])
  pub claim_without_creation : RowsAre (Claim (record c { meta = created_at [] c.meta }) ∷ []) (Claim c ∷ [])
  pub pod_without_creation : RowsAre (Pod (record p { meta = created_at [] p.meta }) ∷ []) (Pod p ∷ [])
  pub waiting_pod_stays : RowsAre (Pod waiting_p ∷ []) (Pod waiting_p ∷ [])
  pub watch_from_before_is_gone : FirstWatch (Volume bound_a ∷ []) 4 (replies.Refused (refusals.Gone 5))
  pub watch_from_the_beginning : FirstWatch (Volume bound_a ∷ []) 5 (replies.Events (record { events = []; upto = 5 }))
