-- The entries of a world and the calls that attach and detach beside it, in one list. The newest stands first.
-- A choice of this project.
use Rattle.std.specs.Prelude.{ℕ, ◌≡◌, true, List, [], ◌∷◌, ⊤}
use Rattle.kube_parts.specs.declared.uid.Uid.{Uid}
use Rattle.call_types.specs.declared.entry.Entry.{Entry}
use Rattle.call_types.specs.declared.setup.Setup.{Setup}
use Rattle.binder_model.specs.Promises.{IsRunOf}
use Rattle.binder_model.specs.World.{world}
use Rattle.attach_law.specs.declared.attachment.Attachment.{Attachment}
use Rattle.attach_law.specs.Attached.{AreApart, AreCarried, passes}
use Rattle.attach_law.specs.Calls.{after_attach, after_detach}

-- an entry of the world; or beside it an attach or a detach by anyone, done or refused
pub data Step : Type 0 where
  OfWorld : Entry → Step
  Attaches : Uid → List ℕ → Step
  Detaches : Uid → List ℕ → Step

-- the history of the world alone
abbrev pub entries : List Step → List Entry
entries [] = []
entries (OfWorld e ∷ m) = e ∷ entries m
entries (Attaches u node ∷ m) = entries m
entries (Detaches u node ∷ m) = entries m

-- what is attached by then. At first nothing is, and the world attaches nothing
abbrev pub attached : Setup → List Step → List Attachment
attached setup [] = []
attached setup (OfWorld e ∷ m) = attached setup m
attached setup (Attaches u node ∷ m) = after_attach (world setup (entries m)).store.rows u node (attached setup m)
attached setup (Detaches u node ∷ m) = after_detach (world setup (entries m)) u node (attached setup m)

-- each request passed, by what was attached just then
abbrev pub EachPassed : Setup → List Step → Type 0
EachPassed setup [] = ⊤
EachPassed setup (OfWorld e ∷ m) = EachPassed setup m × (passes (world setup (entries m)).store.rows (attached setup m) e.request ≡ true)
EachPassed setup (Attaches u node ∷ m) = EachPassed setup m
EachPassed setup (Detaches u node ∷ m) = EachPassed setup m

-- attachments are apart, and under each mount, as the list has come so far
pub record IsAttachedWell (setup : Setup) (m : List Step) : Type 0 where
  pub apart : AreApart (attached setup m)
  pub carried : AreCarried (world setup (entries m)) (attached setup m)

-- so at each point of the list
abbrev pub AtEachPoint : Setup → List Step → Type 0
AtEachPoint setup [] = IsAttachedWell setup []
AtEachPoint setup (s ∷ m) = IsAttachedWell setup (s ∷ m) × AtEachPoint setup m

-- the law of attachments: in a run whose requests passed they stand well at each point, whoever attaches and detaches
abbrev pub AttachmentsStand : Type 0
AttachmentsStand = (setup : Setup) (m : List Step) → IsRunOf setup (entries m) → EachPassed setup m → AtEachPoint setup m
