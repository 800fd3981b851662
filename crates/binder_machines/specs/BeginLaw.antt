-- On a look-up that shows what a store can hold, each machine that begins has a next call, and so has each one that goes on after a read: what
-- `call_of` tests holds back no decision. A choice of this project.
use Rattle.std.specs.Prelude.{◌≡◌, Bool, true, false, List, [], Some, is_some}
use Rattle.kube_objects.specs.declared.key.Key.{Key}
use Rattle.kube_objects.specs.declared.objects.Class.{Class as ClassData}
use Rattle.kube_objects.specs.declared.objects.Volume.{Volume as VolumeData}
use Rattle.kube_objects.specs.declared.objects.Object.{Object}
use Rattle.kube_objects.specs.declared.objects.Object.TheVariants.{Class, Volume}
use Rattle.kube_objects.specs.Keys.{AreRows, meta_of, row_at}
use Rattle.call_types.specs.declared.request.Request.{Request}
use Rattle.call_types.specs.declared.reply.Reply.{Reply}
use Rattle.binder_machines.specs.declared.decide.FirstMachine.TheVariants.{Begins}
use Rattle.binder_machines.specs.declared.machine.Machine.{Machine}
use Rattle.binder_machines.specs.declared.machine.Machine.TheVariants.{ReadsClaim, ReadsVolume}
use Rattle.binder_machines.specs.FirstSteps.{IsFirst}
use Rattle.binder_machines.specs.Machines.{call_of, moved}

-- each object has its UID, and a volume has no namespace, nor has a class
pub record AreStored (rows : List Object) : Type 0 where
  pub order : AreRows rows
  pub known : (key : Key) (o : Object) → row_at key rows ≡ Some o → is_some (meta_of o).uid ≡ true
  pub placed : (key : Key) (v : VolumeData) → row_at key rows ≡ Some (Volume v) → v.meta.namespace ≡ []
  pub placed_class : (key : Key) (x : ClassData) → row_at key rows ≡ Some (Class x) → x.meta.namespace ≡ []

-- what the binder begins has a call
abbrev pub BegunHaveCalls : Type 0
BegunHaveCalls = (rows : List Object) (key : Key) (machine : Machine) → AreStored rows → IsFirst rows (row_at key rows) (Begins machine) → is_some (call_of machine) ≡ true

-- the machine reads the other object of a binding
abbrev pub reads : Machine → Bool
reads (ReadsClaim v) = true
reads (ReadsVolume c) = true
reads machine = false

-- what follows such a read has a call
abbrev pub ReadHaveCalls : Type 0
ReadHaveCalls = (machine next : Machine) (request : Request) (reply : Reply) → reads machine ≡ true → call_of machine ≡ Some request → moved machine reply ≡ Some next → is_some (call_of next) ≡ true
