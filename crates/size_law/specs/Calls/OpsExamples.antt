-- Which volumes are made for a claim, and what of the requests of ops gives one: cases that hold, and cases beside them that must
-- not. A choice of this project, as the definitions are. The newest entry stands first.
use Rattle.std.specs.Prelude.{ℕ, false, List, [], ◌∷◌, Some, None, codes}
use Rattle.kube_parts.specs.declared.parts.Policy.TheVariants as policies
use Rattle.kube_parts.specs.declared.parts.VolumePhase.TheVariants as volumes
use Rattle.kube_objects.specs.declared.objects.DataId.{DataId}
use Rattle.kube_objects.specs.declared.objects.Class.{Class as ClassData}
use Rattle.kube_objects.specs.declared.objects.Volume.{Volume as VolumeData}
use Rattle.kube_objects.specs.declared.objects.Object.TheVariants.{Volume, Claim}
use Rattle.kube_parts.specs.Uids.{uid_of_serial}
use Rattle.call_types.specs.declared.entry.Entry.{Entry}
use Rattle.call_types.specs.declared.request.NewStatus.TheVariants as statuses
use Rattle.call_types.specs.declared.request.Request.TheVariants as requests
use Rattle.call_types.specs.declared.request.SeatKind.TheVariants as seats
use Rattle.binder_model.specs.BindWrites.{write_reference}
use Rattle.binder_model.specs.ObjectKeys.{volume_key}
use Rattle.binder_model.specs.Provisioning.{data_name, provisioned_volume}
use Rattle.binder_model.specs.Store.{no_modes}
use Rattle.model_laws.specs.Worked.{named}
use Rattle.size_law.specs.Law.Examples.{a, c, lists_claim, of_blocks}
use Rattle.size_law.specs.Law.Fitting.{Fits}
use Rattle.size_law.specs.Calls.Makes.{IsMadeFor, MakesFitting}

-- the class of the claims, and data that its provisioner gave
abbrev pub slow : ClassData
slow = record {
  meta = record (named [] (codes "slow")) { uid = Some (uid_of_serial 4); version = 1 };
  provisioner = codes "x/y";
  policy =
      policies.Delete;
  delayed = false;
  parameters = [];
  extra = [];
}

-- the data that a back end made
abbrev pub data_1 : DataId
data_1 = record { driver = codes "x/y"; id = codes "data-1" }

-- the volume that ops creates for the claim of so many gibibytes; and others beside it
abbrev pub made : ℕ → VolumeData
made size = provisioned_volume (c size) (uid_of_serial 2) slow data_1 None

-- the volume with no access mode
abbrev pub without_modes : VolumeData → VolumeData
without_modes v = record v { modes = no_modes }

-- the volume of another class
abbrev pub of_class_fast : VolumeData → VolumeData
of_class_fast v = record v { class = codes "fast" }

-- the volume without its claimRef
abbrev pub free : VolumeData → VolumeData
free v = record v { claim_ref = None }

-- the volume is made for the claim of its size, mode, modes and class, and for no other
pub record MadeExamples : Type 0 where
  pub for_the_claim : IsMadeFor (made 3) (c 3)
  pub it_fits : Fits (made 3) (c 3)
  pub not_for_a_larger_claim : IsMadeFor (made 3) (c 9) → ⊥
  pub it_does_not_fit_the_larger : Fits (made 3) (c 9) → ⊥
  pub nor_for_a_smaller_claim : IsMadeFor (made 9) (c 3) → ⊥
  pub not_for_a_claim_of_blocks : IsMadeFor (made 3) (of_blocks (c 3)) → ⊥
  pub not_with_other_modes : IsMadeFor (without_modes (made 3)) (c 3) → ⊥
  pub not_of_another_class : IsMadeFor (of_class_fast (made 3)) (c 3) → ⊥
  pub not_where_it_is_free : IsMadeFor (free (made 3)) (c 3) → ⊥

-- ops was told the claim of so many gibibytes
abbrev pub told_claim : ℕ → List Entry
told_claim size = lists_claim seats.Ops (c size) 2 ∷ []

-- ops creates what is made for a claim that it was told; its other calls give no volume
pub record MakingExamples : Type 0 where
  pub creates_what_is_made_for_the_claim : MakesFitting (told_claim 3) (requests.Create (Volume (made 3)))
  pub not_of_another_size : MakesFitting (told_claim 9) (requests.Create (Volume (made 3))) → ⊥
  pub not_for_a_claim_that_was_never_told : MakesFitting [] (requests.Create (Volume (made 3))) → ⊥
  pub not_a_volume_that_stands : MakesFitting (told_claim 3) (write_reference a (c 3)) → ⊥
  pub asking_for_data_gives_nothing : MakesFitting [] (requests.Provision (data_name (uid_of_serial 2)) (codes "x/y") 3 None)
  pub erasing_gives_nothing : MakesFitting [] (requests.Erase data_1)
  pub deleting_gives_nothing : MakesFitting [] (requests.Delete (volume_key (codes "a")) (Some (uid_of_serial 1)))
  pub writing_failed_gives_nothing : MakesFitting [] (requests.UpdateStatus (volume_key (codes "a")) (statuses.Volume volumes.Failed) (Some 1))
  pub clearing_a_node_gives_nothing : MakesFitting [] (requests.Update (Claim (c 3)) (Some 2))
