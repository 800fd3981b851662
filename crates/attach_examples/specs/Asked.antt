-- Examples of attach and detach, done and refused.
-- A choice of this project.
use Rattle.std.specs.Prelude.{◌≡◌, true, false, [], ◌∷◌, Some, None, codes}
use Rattle.attach_law.specs.declared.attachment.Attachment.{Attachment}
use Rattle.attach_law.specs.Calls.{InUse, MultiAttach, NoVolume, NotAttached, after_attach, after_detach, attach_fault, detach_fault, has_many, put_attachment}
use Rattle.attach_examples.specs.Small.{first_uid, mounted, n1, n2, no_uid, on, once, rows_by, several, volume_uid, world_of}

-- attach
pub record AttachExamples : Type 0 where
  pub done : attach_fault (rows_by once) volume_uid n1 [] ≡ None
  pub attached : after_attach (rows_by once) volume_uid n1 [] ≡ on n1 false ∷ []
  pub for_several : after_attach (rows_by several) volume_uid n1 [] ≡ on n1 true ∷ []
  pub second_node : after_attach (rows_by several) volume_uid n2 (on n1 true ∷ []) ≡ on n1 true ∷ on n2 true ∷ []
  -- refused, and nothing changes
  pub no_volume : attach_fault (rows_by once) no_uid n1 [] ≡ Some NoVolume
  pub stays : after_attach (rows_by once) no_uid n1 (on n1 false ∷ []) ≡ on n1 false ∷ []
  pub multi : attach_fault (rows_by once) volume_uid n2 (on n1 false ∷ []) ≡ Some (MultiAttach n1)
  -- both the modes of then and those of now are asked, and the least node is named
  pub of_then : attach_fault (rows_by several) volume_uid n2 (on n1 false ∷ []) ≡ Some (MultiAttach n1)
  pub of_now : attach_fault (rows_by once) volume_uid n2 (on n1 true ∷ []) ≡ Some (MultiAttach n1)
  pub least : attach_fault (rows_by once) volume_uid (codes "n3") (on n2 true ∷ on n1 true ∷ []) ≡ Some (MultiAttach n1)

-- attach of what is attached already
pub record AgainExamples : Type 0 where
  pub done : after_attach (rows_by once) volume_uid n1 (on n1 false ∷ []) ≡ on n1 false ∷ []
  -- it stays as it was attached, where the modes are others now
  pub as_then : after_attach (rows_by several) volume_uid n1 (on n1 false ∷ []) ≡ on n1 false ∷ []
  -- and it may be refused: the volume has left, or is on a second node and its modes were narrowed
  pub left : attach_fault [] volume_uid n1 (on n1 false ∷ []) ≡ Some NoVolume
  pub narrowed : attach_fault (rows_by once) volume_uid n1 (on n1 true ∷ on n2 true ∷ []) ≡ Some (MultiAttach n2)

-- detach
pub record DetachExamples : Type 0 where
  pub done : detach_fault (world_of (rows_by once) []) volume_uid n1 (on n1 false ∷ []) ≡ None
  pub detached : after_detach (world_of (rows_by several) []) volume_uid n1 (on n1 true ∷ on n2 true ∷ []) ≡ on n2 true ∷ []
  -- a pod that names the claim holds nothing, but its mount does
  pub in_use : detach_fault (world_of (rows_by once) mounted) volume_uid n1 (on n1 false ∷ []) ≡ Some (InUse first_uid)
  pub stays : after_detach (world_of (rows_by once) mounted) volume_uid n1 (on n1 false ∷ []) ≡ on n1 false ∷ []
  -- on that node alone
  pub other_node : detach_fault (world_of (rows_by several) mounted) volume_uid n2 (on n1 true ∷ on n2 true ∷ []) ≡ None
  pub not_attached : detach_fault (world_of (rows_by once) []) volume_uid n2 (on n1 false ∷ []) ≡ Some NotAttached

-- an attachment of another volume, by its name
abbrev other : Attachment
other = record (on n1 true) { volume = no_uid; name = codes "b" }

-- the order of the list, and modes for several nodes
pub record OrderExamples : Type 0 where
  pub by_name : put_attachment (on n2 true) (on n1 true ∷ other ∷ []) ≡ on n1 true ∷ on n2 true ∷ other ∷ []
  pub at_first : put_attachment (on n1 true) (on n2 true ∷ other ∷ []) ≡ on n1 true ∷ on n2 true ∷ other ∷ []
  pub at_last : put_attachment other (on n1 true ∷ on n2 true ∷ []) ≡ on n1 true ∷ on n2 true ∷ other ∷ []
  pub read_only : has_many (record once { rox = true }) ≡ true
  pub single : has_many (record once { rwop = true }) ≡ false
