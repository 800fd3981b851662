-- What the tables of what is due have in common. A choice of this project.
use Rattle.std.specs.Prelude.{ℕ, ◌+◌, ◌==◌, List, ◌++◌, Option, Some, None, drop, take, if◌then◌else◌}
use Rattle.kube_parts.specs.declared.names.Due.{Due}
use Rattle.kube_parts.specs.declared.names.Due.TheVariants as dues

-- all but what stands at the place: a condition of the binder's table is left out
abbrev pub without : {X : Type 0} → ℕ → List X → List X
without place xs = take place xs ++ drop (place + 1) xs

-- what is due as a number, which is the action of a row
abbrev pub due_number : Option Due → ℕ
due_number None = 0
due_number (Some dues.Available) = 1
due_number (Some dues.Bound) = 2
due_number (Some dues.Release) = 3
due_number (Some dues.Unbind) = 4
due_number (Some dues.Reclaim) = 5
due_number (Some dues.Guard) = 6
due_number (Some dues.Unguard) = 7
due_number (Some dues.Bind) = 8
due_number (Some dues.AssignClass) = 9
due_number (Some dues.Lost) = 10
due_number (Some dues.Provision) = 11
due_number (Some dues.ClearNode) = 12
due_number (Some dues.Prepare) = 13
due_number (Some dues.Assign) = 14
due_number (Some dues.Mount) = 15
due_number (Some dues.Finish) = 16

-- what is due, by its number in the table
abbrev pub due_numbered : ℕ → Option Due
due_numbered n =
    if n == 1 then Some dues.Available
    else if n == 2 then Some dues.Bound
    else if n == 3 then Some dues.Release
    else if n == 4 then Some dues.Unbind
    else if n == 5 then Some dues.Reclaim
    else if n == 6 then Some dues.Guard
    else if n == 7 then Some dues.Unguard
    else if n == 8 then Some dues.Bind
    else if n == 9 then Some dues.AssignClass
    else if n == 10 then Some dues.Lost
    else if n == 11 then Some dues.Provision
    else if n == 12 then Some dues.ClearNode
    else if n == 13 then Some dues.Prepare
    else if n == 14 then Some dues.Assign
    else if n == 15 then Some dues.Mount
    else if n == 16 then Some dues.Finish
    else None
