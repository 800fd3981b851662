-- How large what is left to do is, what planned faults add to it, and the measure that counts the nodes to be tried too.
-- A choice of this project.
use Rattle.std.specs.Prelude.{ℕ, ◌≡◌, ◌≤◌, ◌+◌, ◌*◌, true, List}
use Rattle.kube_objects.specs.declared.objects.Object.{Object}
use Rattle.call_types.specs.declared.setup.Setup.{Setup}
use Rattle.binder_model.specs.Devices.{Devices, is_planned}
use Rattle.settle_measure.specs.Left.Measure.{claims_in, faults_left, left_on, pods_in, volumes_in}

-- a planned call that was made is not ahead any more
abbrev pub BackFaultPays : Type 0
BackFaultPays = (setup : Setup) (before after : Devices) → after.calls ≡ before.calls + 1 → is_planned (before.calls + 1) setup.faults ≡ true → faults_left setup after + 1 ≤ faults_left setup before

-- the planned calls that are ahead are no more after further calls
abbrev pub CallsStay : Type 0
CallsStay = (setup : Setup) (before after : Devices) → before.calls ≤ after.calls → faults_left setup after ≤ faults_left setup before

-- what is left to do is no more than this, by the kinds of the objects
abbrev pub LeftIsBounded : Type 0
LeftIsBounded = (rows : List Object) (d : Devices) → left_on rows d ≤ 18 * claims_in rows + 10 * volumes_in rows + 4 * pods_in rows

-- the measure: ten for each thing left to do, and the nodes that the scheduler has still to try
abbrev pub measure : ℕ → ℕ → ℕ
measure work tries = 10 * work + tries
