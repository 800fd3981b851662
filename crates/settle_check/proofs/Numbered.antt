-- What is due is what its number says.
use Rattle.std.proofs.Common.{◌≡◌, Option, Some, None, refl}
use Rattle.kube_parts.specs.declared.names.Due.{Due}
use Rattle.kube_parts.specs.declared.names.Due.TheVariants as dues
use Rattle.settle_check.specs.DueTables.{due_number, due_numbered}

pub numbered_back : (action : Option Due) → due_numbered (due_number action) ≡ action
numbered_back None = refl
numbered_back (Some dues.Available) = refl
numbered_back (Some dues.Bound) = refl
numbered_back (Some dues.Release) = refl
numbered_back (Some dues.Unbind) = refl
numbered_back (Some dues.Reclaim) = refl
numbered_back (Some dues.Guard) = refl
numbered_back (Some dues.Unguard) = refl
numbered_back (Some dues.Bind) = refl
numbered_back (Some dues.AssignClass) = refl
numbered_back (Some dues.Lost) = refl
numbered_back (Some dues.Provision) = refl
numbered_back (Some dues.ClearNode) = refl
numbered_back (Some dues.Prepare) = refl
numbered_back (Some dues.Assign) = refl
numbered_back (Some dues.Mount) = refl
numbered_back (Some dues.Finish) = refl
