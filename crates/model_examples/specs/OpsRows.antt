-- Where the provisioner may ask for data and make a volume over it, and where it may not: for each row cases that
-- hold, and for each of its conditions one that misses it alone. A choice of this project, as the rows are.
-- The newest exchange stands first.
use Rattle.std.specs.Prelude.{ℕ, List, [], ◌∷◌, Option, Some, None, codes}
use Rattle.plain_data.specs.Pairs.{Pair}
use Rattle.kube_parts.specs.declared.parts.Kind.TheVariants as kinds
use Rattle.kube_parts.specs.declared.parts.Policy.TheVariants as policies
use Rattle.kube_parts.specs.declared.uid.Uid.{Uid}
use Rattle.kube_objects.specs.declared.objects.Class.{Class as ClassData}
use Rattle.kube_objects.specs.declared.objects.Claim.{Claim as ClaimData}
use Rattle.kube_objects.specs.declared.objects.DataId.{DataId}
use Rattle.kube_objects.specs.declared.objects.Volume.{Volume as VolumeData}
use Rattle.kube_objects.specs.declared.objects.Object.TheVariants.{Volume}
use Rattle.kube_parts.specs.Uids.{uid_of_serial}
use Rattle.kube_objects.specs.Bindings.{no_provisioner}
use Rattle.call_types.specs.declared.request.SeatKind.TheVariants as seats
use Rattle.call_types.specs.declared.request.Request.{Request}
use Rattle.call_types.specs.declared.request.Request.TheVariants as requests
use Rattle.call_types.specs.declared.reply.Refusal.TheVariants as refusals
use Rattle.call_types.specs.declared.reply.Reply.TheVariants as replies
use Rattle.binder_model.specs.Provisioning.{data_name, provisioned_volume}
use Rattle.model_examples.specs.Samples.{
  Allows,
  Refuses,
  Exchange,
  heard,
  unheard,
  lists,
  tells_claim,
  tells_class,
  amount,
  c,
  naming,
  uid_c,
  completed_c,
  fast,
  late,
  zone,
  n1,
  chosen_c,
  deleting,
  claim_at,
  other_c,
  idle_class,
  no_uid_c,
  selecting_c,
  tells_three,
}

-- Provision

abbrev pub ask : Uid → List ℕ → ℕ → Option (List Pair) → Request
ask uid provisioner size labels = requests.Provision (data_name uid) provisioner (amount size).bytes labels

abbrev pub ask_at_once : Request
ask_at_once = ask uid_c (codes "x/y") 3 None

abbrev pub ask_on_node : Request
ask_on_node = ask uid_c (codes "x/y") 3 (Some zone)

abbrev pub deleting_c : ClaimData
deleting_c = record c { meta = deleting c.meta }

abbrev pub undone_c : ClaimData
undone_c = naming [] completed_c

-- a class of another name; and one of another provisioner, told later
abbrev pub other_class : ClassData
other_class = record fast { meta = record fast.meta { name = codes "quick" } }

abbrev pub moved_class : ClassData
moved_class = record fast { meta = record fast.meta { version = 9 }; provisioner = codes "y/z" }

pub record ProvisionExamples : Type 0 where
  pub asks_at_once : Allows seats.Ops (tells_three c fast n1) ask_at_once
  pub asks_on_chosen_node : Allows seats.Ops (tells_three chosen_c late n1) ask_on_node
  pub claim_without_uid_is_refused : Refuses seats.Ops (tells_three no_uid_c fast n1) ask_at_once
  pub claim_never_told_is_refused : Refuses seats.Ops (tells_class fast ∷ []) ask_at_once
  pub older_telling_of_the_claim_is_refused : Refuses seats.Ops (tells_claim undone_c ∷ tells_three c fast n1) ask_at_once
  pub claim_told_gone_is_refused : Refuses seats.Ops (lists kinds.PersistentVolumeClaim [] 9 ∷ tells_three c fast n1) ask_at_once
  pub completed_claim_is_refused : Refuses seats.Ops (tells_three undone_c fast n1) ask_at_once
  pub deleting_claim_is_refused : Refuses seats.Ops (tells_three deleting_c fast n1) ask_at_once
  pub claim_that_names_a_volume_is_refused : Refuses seats.Ops (tells_three (naming (codes "a") c) fast n1) ask_at_once
  pub claim_with_selector_is_refused : Refuses seats.Ops (tells_three selecting_c fast n1) ask_at_once
  pub class_never_told_is_refused : Refuses seats.Ops (tells_claim c ∷ []) ask_at_once
  pub class_of_other_name_is_refused : Refuses seats.Ops (tells_three c other_class n1) ask_at_once
  pub older_telling_of_the_class_is_refused : Refuses seats.Ops (tells_class moved_class ∷ tells_three c fast n1) ask_at_once
  pub other_provisioner_is_refused : Refuses seats.Ops (tells_three c fast n1) (ask uid_c (codes "y/z") 3 None)
  pub class_that_provisions_nothing_is_refused : Refuses seats.Ops (tells_three c idle_class n1) (ask uid_c no_provisioner 3 None)
  pub name_of_other_claim_is_refused : Refuses seats.Ops (tells_three c fast n1) (ask (uid_of_serial 9) (codes "x/y") 3 None)
  pub other_bytes_is_refused : Refuses seats.Ops (tells_three c fast n1) (ask uid_c (codes "x/y") 5 None)
  pub labels_without_delay_is_refused : Refuses seats.Ops (tells_three chosen_c fast n1) ask_on_node
  pub no_labels_under_delay_is_refused : Refuses seats.Ops (tells_three chosen_c late n1) ask_at_once
  pub other_labels_is_refused : Refuses seats.Ops (tells_three chosen_c late n1) (ask uid_c (codes "x/y") 3 (Some []))
  pub no_node_chosen_is_refused : Refuses seats.Ops (tells_three c late n1) ask_on_node
  pub chosen_node_never_told_is_refused : Refuses seats.Ops (tells_claim chosen_c ∷ tells_class late ∷ []) ask_on_node
  pub chosen_node_told_gone_is_refused : Refuses seats.Ops (lists kinds.Node [] 9 ∷ tells_three chosen_c late n1) ask_on_node

-- CreateVolume

-- another claim under the name, told later
abbrev pub next_c : ClaimData
next_c = claim_at 9 other_c

abbrev pub id_1 : DataId
id_1 = record { driver = codes "x/y"; id = codes "data-1" }

abbrev pub id_2 : DataId
id_2 = record id_1 { id = codes "data-2" }

abbrev pub gives : Uid → DataId → Option (List ℕ × List ℕ) → Exchange
gives uid id where_ = heard (ask uid (codes "x/y") 3 None) (replies.Provisioned id where_)

abbrev pub pool_pair : Option (List ℕ × List ℕ)
pool_pair = Some (codes "zone", codes "z1")

abbrev pub make : DataId → Option (List ℕ × List ℕ) → Request
make id where_ = requests.Create (Volume (provisioned_volume c uid_c fast id where_))

-- the volume with another policy than its class has
abbrev pub kept_volume : VolumeData
kept_volume = let new = provisioned_volume c uid_c fast id_1 None in record new { policy = policies.Retain }

abbrev pub exhausted : Exchange
exhausted = heard ask_at_once (replies.Refused (refusals.Exhausted 0))

pub record CreateVolumeExamples : Type 0 where
  pub makes_volume : Allows seats.Ops (gives uid_c id_1 None ∷ tells_three c fast n1) (make id_1 None)
  pub makes_volume_of_a_pool_with_label : Allows seats.Ops (gives uid_c id_1 pool_pair ∷ tells_three c fast n1) (make id_1 pool_pair)
  pub data_never_given_is_refused : Refuses seats.Ops (tells_three c fast n1) (make id_1 None)
  pub answer_lost_is_refused : Refuses seats.Ops (unheard (gives uid_c id_1 None) ∷ tells_three c fast n1) (make id_1 None)
  pub other_answer_is_refused : Refuses seats.Ops (exhausted ∷ tells_three c fast n1) (make id_1 None)
  pub given_before_told_is_refused : Refuses seats.Ops (tells_claim c ∷ gives uid_c id_1 None ∷ tells_class fast ∷ []) (make id_1 None)
  pub given_for_other_claim_is_refused : Refuses seats.Ops (gives (uid_of_serial 9) id_1 None ∷ tells_three c fast n1) (make id_1 None)
  pub other_data_is_refused : Refuses seats.Ops (gives uid_c id_1 None ∷ tells_three c fast n1) (make id_2 None)
  pub other_topology_is_refused : Refuses seats.Ops (gives uid_c id_1 None ∷ tells_three c fast n1) (make id_1 pool_pair)
  pub other_policy_is_refused : Refuses seats.Ops (gives uid_c id_1 None ∷ tells_three c fast n1) (requests.Create (Volume kept_volume))
  pub claim_without_uid_is_refused : Refuses seats.Ops (gives uid_c id_1 None ∷ tells_three no_uid_c fast n1) (requests.Create (Volume (provisioned_volume no_uid_c uid_c fast id_1 None)))
  pub claim_of_other_uid_now_is_refused : Refuses seats.Ops (gives uid_c id_1 None ∷ tells_claim next_c ∷ tells_three c fast n1)
      (requests.Create (Volume (provisioned_volume next_c uid_c fast id_1 None)))
  pub claim_told_gone_is_refused : Refuses seats.Ops (gives uid_c id_1 None ∷ lists kinds.PersistentVolumeClaim [] 9 ∷ tells_three c fast n1) (make id_1 None)
  pub class_never_told_is_refused : Refuses seats.Ops (gives uid_c id_1 None ∷ tells_claim c ∷ []) (make id_1 None)
  pub older_telling_of_the_class_is_refused : Refuses seats.Ops (gives uid_c id_1 None ∷ tells_class moved_class ∷ tells_three c fast n1) (make id_1 None)
