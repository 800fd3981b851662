-- What is next is done when it is asked. A turn asks it again and again, until nothing is next.
-- A choice of this project.
use Rattle.std.specs.Prelude.{◌≡◌, true, false, List, [], ◌∷◌, Some, None}
use Rattle.binder_model.specs.World.{World}
use Rattle.attach_law.specs.declared.attachment.Attachment.{Attachment}
use Rattle.attach_law.specs.declared.attachment.AttachAsk.{AttachAsk}
use Rattle.attach_law.specs.declared.attachment.AttachAsk.TheVariants.{Attach, Detach}
use Rattle.attach_law.specs.Attached.{is_attached}
use Rattle.attach_law.specs.Calls.{after_attach, after_detach, attach_fault, detach_fault}
use Rattle.attach_law.specs.Next.{next}

-- the call is not refused, and changes what is attached
abbrev pub IsAskDone : World → List Attachment → AttachAsk → Type 0
IsAskDone w att (Attach u node) = (attach_fault w.store.rows u node att ≡ None) × (is_attached u node att ≡ false)
IsAskDone w att (Detach u node) = (detach_fault w u node att ≡ None) × (is_attached u node att ≡ true)

-- so of each call that is next
abbrev pub AsksAreDone : Type 0
AsksAreDone = (w : World) (att : List Attachment) (ask : AttachAsk) → next w att ≡ Some ask → IsAskDone w att ask

-- what is attached after the call
abbrev pub after_ask : World → AttachAsk → List Attachment → List Attachment
after_ask w (Attach u node) att = after_attach w.store.rows u node att
after_ask w (Detach u node) att = after_detach w u node att

-- these calls in order, each of them next when it is made, lead from the first list to the second
abbrev pub Makes : World → List Attachment → List AttachAsk → List Attachment → Type 0
Makes w att [] last = last ≡ att
Makes w att (ask ∷ asks) last = (next w att ≡ Some ask) × Makes w (after_ask w ask att) asks last

-- a turn: such calls, and after the last of them nothing is next
abbrev pub Turned : World → List Attachment → List AttachAsk → List Attachment → Type 0
Turned w att [] last = (next w att ≡ None) × (last ≡ att)
Turned w att (ask ∷ asks) last = (next w att ≡ Some ask) × Turned w (after_ask w ask att) asks last

-- a turn leaves nothing to be done
abbrev pub TurnsLeaveNothing : Type 0
TurnsLeaveNothing = (w : World) (att : List Attachment) (asks : List AttachAsk) (last : List Attachment) → Turned w att asks last → next w last ≡ None
