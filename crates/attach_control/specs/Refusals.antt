-- Which refusal is told, and how far a turn has come that ends for want of memory.
-- A choice of this project.
use Rattle.std.specs.Prelude.{◌≡◌, List, Option, Some, ⊤}
use Rattle.binder_model.specs.World.{World}
use Rattle.attach_law.specs.declared.attachment.Attachment.{Attachment}
use Rattle.attach_law.specs.declared.attachment.AttachAsk.{AttachAsk}
use Rattle.attach_law.specs.Asks.{Makes}
use Rattle.attach_law.specs.Calls.{AttachRefusal, InUse, MultiAttach, NoVolume, NotAttached}
use Rattle.attach_control.specs.declared.error.AttachError.{AttachError}
use Rattle.attach_control.specs.declared.error.AttachError.TheVariants as errors

-- the error tells the refusal that there is
abbrev pub IsRefusal : Option AttachRefusal → AttachError → Type 0
IsRefusal fault errors.OutOfMemory = ⊥
IsRefusal fault errors.NoVolume = fault ≡ Some NoVolume
IsRefusal fault (errors.MultiAttach node) = fault ≡ Some (MultiAttach node)
IsRefusal fault (errors.InUse pod) = fault ≡ Some (InUse pod)
IsRefusal fault errors.NotAttached = fault ≡ Some NotAttached

-- or want of memory, which comes by itself
abbrev pub IsRefusalOrWant : Option AttachRefusal → AttachError → Type 0
IsRefusalOrWant fault errors.OutOfMemory = ⊤
IsRefusalOrWant fault error = IsRefusal fault error

-- some calls of a turn were made
pub record IsPartOfTurn (w : World) (old new : List Attachment) : Type 0 where
  pub asks : List AttachAsk
  pub made : Makes w old asks new
