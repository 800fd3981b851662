-- The rules of snapshots: rows and calls that meet them, and some that do not; and calls that are a run, and some that are none.
-- A choice of this project.
use Rattle.std.specs.Prelude.{ℕ, false, [], ◌∷◌, Some, None, codes}
use Rattle.kube_parts.specs.declared.parts.Policy.TheVariants as policies
use Rattle.snapshot_bind.specs.declared.rows.SnapRow.TheVariants as rows
use Rattle.snapshot_bind.specs.declared.calls.SnapAsk.TheVariants as asks
use Rattle.snapshot_bind.specs.declared.calls.SnapEntry.{SnapEntry}
use Rattle.snapshot_bind.specs.declared.calls.SnapReply.TheVariants.{Listed, Made, Refused}
use Rattle.snapshot_bind.specs.declared.calls.SnapRefusal.TheVariants.{NotFound, AlreadyExists}
use Rattle.snapshot_bind.specs.Rules.{AreApart, ErasesRightly, IsBound, IsSideRun, SideCall}
use Rattle.snapshot_law.specs.Samples.{bound, by_hand, cut_for_it, kept, side_with, told, waiting, world}

-- what a snapshot names is there, with its UID and its data
pub record BoundExamples : Type 0 where
  pub names_none : IsBound [] waiting
  pub names_its_own : IsBound (by_hand ∷ kept ∷ []) bound
  pub absent : IsBound (by_hand ∷ []) bound → ⊥
  pub of_another_uid : IsBound (record kept { uid = Some 2 } ∷ []) bound → ⊥
  pub without_uid : IsBound (record kept { uid = None } ∷ []) bound → ⊥
  pub without_data : IsBound (record kept { there = false } ∷ []) bound → ⊥

-- no two snapshots name one content
pub record ApartExamples : Type 0 where
  pub one : AreApart (bound ∷ [])
  pub beside_a_waiting_one : AreApart (bound ∷ record waiting { name = codes "t" } ∷ [])
  pub two_that_name_none : AreApart (waiting ∷ record waiting { name = codes "t" } ∷ [])
  pub two_of_one_content : AreApart (bound ∷ record bound { name = codes "t"; uid = 2 } ∷ []) → ⊥

-- data are erased of a content that is to be deleted, whose snapshot is gone
pub record ErasedExamples : Type 0 where
  pub gone : ErasesRightly (side_with [] (kept ∷ [])) (asks.EraseSnap (codes "k") 2) (Made (rows.Content kept))
  pub beside_another : ErasesRightly (side_with (record waiting { uid = 3 } ∷ []) (kept ∷ [])) (asks.EraseSnap (codes "k") 2) (Made (rows.Content kept))
  pub refused : ErasesRightly (side_with (bound ∷ []) (kept ∷ [])) (asks.EraseSnap (codes "k") 2) (Refused NotFound)
  pub its_snapshot_stands : ErasesRightly (side_with (bound ∷ []) (kept ∷ [])) (asks.EraseSnap (codes "k") 2) (Made (rows.Content kept)) → ⊥
  pub retained : ErasesRightly (side_with [] (record kept { policy = policies.Retain } ∷ [])) (asks.EraseSnap (codes "k") 2) (Made (rows.Content kept)) → ⊥
  pub never_bound : ErasesRightly (side_with [] (by_hand ∷ [])) (asks.EraseSnap (codes "h") 2) (Made (rows.Content by_hand)) → ⊥

-- a call of a seat in the world of the samples
abbrev pub by_seat : ℕ → SnapEntry → SideCall
by_seat seat entry = record { seat = seat; world = world; entry = entry }

-- a user makes the snapshot
abbrev pub made : SideCall
made = by_seat 1 (told (asks.Snapshot (codes "ns") (codes "s") (codes "c") policies.Delete) (Made (rows.Snapshot waiting)))

-- a worker lists it
abbrev pub listed : ℕ → SideCall
listed seat = by_seat seat (told asks.SnapList (Listed (waiting ∷ []) [] 1))

-- and cuts a content for it
abbrev pub cuts : ℕ → SideCall
cuts seat = by_seat seat (told (asks.Cut (codes "ns") (codes "s") 1) (Made (rows.Content cut_for_it)))

-- each answer is the side's, and each worker's ask licensed by what its own seat was told
pub record RunExamples : Type 0 where
  pub cut_after_a_list : IsSideRun (cuts 2 ∷ listed 2 ∷ made ∷ [])
  pub cut_by_anothers_list : IsSideRun (cuts 3 ∷ listed 2 ∷ made ∷ []) → ⊥
  pub cut_without_a_list : IsSideRun (cuts 2 ∷ made ∷ []) → ⊥
  pub wrong_answer : IsSideRun (by_seat 1 (told (asks.Snapshot (codes "ns") (codes "s") (codes "c") policies.Delete) (Refused AlreadyExists)) ∷ []) → ⊥
