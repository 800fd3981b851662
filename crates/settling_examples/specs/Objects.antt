-- A run in which the provisioner makes a volume: one object more stands than was asked for. The newest entry stands first.
-- A choice of this project.
use Rattle.std.specs.Prelude.{ℕ, ◌≡◌, ◌*◌, ◌^◌, true, false, List, [], ◌∷◌, Some, None, codes, length}
use Rattle.kube_parts.specs.declared.parts.Kind.TheVariants as kinds
use Rattle.kube_parts.specs.declared.parts.Policy.TheVariants as policies
use Rattle.kube_objects.specs.declared.objects.Class.{Class as ClassData}
use Rattle.kube_objects.specs.declared.objects.DataId.{DataId}
use Rattle.kube_objects.specs.declared.objects.Object.TheVariants.{Claim, Class, Volume}
use Rattle.kube_parts.specs.Uids.{uid_of_serial}
use Rattle.call_types.specs.declared.entry.Entry.{Entry}
use Rattle.call_types.specs.declared.request.Request.{Request}
use Rattle.call_types.specs.declared.request.Request.TheVariants as requests
use Rattle.call_types.specs.declared.request.SeatKind.{SeatKind}
use Rattle.call_types.specs.declared.request.SeatKind.TheVariants as seats
use Rattle.call_types.specs.declared.setup.Setup.{Setup}
use Rattle.binder_model.specs.Provisioning.{data_name, provisioned_volume}
use Rattle.binder_model.specs.Run.{Run}
use Rattle.binder_model.specs.Store.{first_moment}
use Rattle.binder_model.specs.World.{effect, reply_to, world}
use Rattle.model_laws.specs.Worked.{amount, c, claim, named}
use Rattle.settle_budget.specs.Objects.Objects.{creations}

-- a back end with a pool of 10 gibibytes
abbrev pub pool_setup : Setup
pool_setup = record { pools = record { name = codes "pool"; provisioner = codes "x/y"; bytes = 10 * 2 ^ 30; topology = None } ∷ []; faults = []; imports = [] }

-- a class of its provisioner, as a user writes it, and as it stands
abbrev pub slow : ClassData
slow = record { meta = named [] (codes "slow"); provisioner = codes "x/y"; policy = policies.Delete; delayed = false; parameters = []; extra = [] }

abbrev pub slow_stands : ClassData
slow_stands = record slow { meta = record slow.meta { uid = Some (uid_of_serial 1); version = 1; created = first_moment } }

-- one more call of the seat, with the answer of the world
abbrev pub and_call : ℕ → SeatKind → Request → List Entry → List Entry
and_call seat kind request past = (record { seat = seat; kind = kind; request = request; reply = reply_to (effect pool_setup (world pool_setup past) kind request); told = true }) ∷ past

-- a user creates the class and a claim of 3 gibibytes
abbrev pub asked : List Entry
asked = and_call 1 seats.User (requests.Create (Claim (claim (codes "c") 3))) (and_call 1 seats.User (requests.Create (Class slow)) [])

-- ops lists both, is given data, and creates the volume
abbrev pub told : List Entry
told = and_call 5 seats.Ops (requests.List kinds.PersistentVolumeClaim None) (and_call 5 seats.Ops (requests.List kinds.StorageClass None) asked)

abbrev pub given : List Entry
given = and_call 5 seats.Ops (requests.Provision (data_name (uid_of_serial 2)) (codes "x/y") (amount 3).bytes None) told

abbrev pub data_1 : DataId
data_1 = record { driver = codes "x/y"; id = codes "data-1" }

abbrev pub made : List Entry
made = and_call 5 seats.Ops (requests.Create (Volume (provisioned_volume (c 2) (uid_of_serial 2) slow_stands data_1 None))) given

-- and the user creates the class again, which is refused
abbrev pub asked_again : List Entry
asked_again = and_call 1 seats.User (requests.Create (Class slow)) made

pub record ObjectExamples : Type 0 where
  -- it is a run; the class and the claim were asked for and stand, and then the volume stands too: once each would be too few
  pub is_run : Run pool_setup made
  pub asked_for : creations asked ≡ 2
  pub stand : length (world pool_setup asked).store.rows ≡ 2
  pub made_too : length (world pool_setup made).store.rows ≡ 3
  pub not_asked_for : creations made ≡ 2
  -- what a user asks for counts whatever the answer is
  pub refused : length (world pool_setup asked_again).store.rows ≡ 3
  pub counted : creations asked_again ≡ 3
