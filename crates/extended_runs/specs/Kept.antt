-- A script with some of its lines left out: users' creates of claims, which the side of an extended run holds back.
-- A choice of this project.
use Rattle.std.specs.Prelude.{ℕ, ◌≡◌, List, [], ◌∷◌}
use Rattle.kube_objects.specs.declared.objects.Claim.{Claim as ClaimData}
use Rattle.kube_objects.specs.declared.objects.Object.TheVariants.{Claim}
use Rattle.call_types.specs.declared.request.Request.TheVariants.{Create}
use Rattle.script_text.specs.declared.script.Line.{Line}
use Rattle.script_text.specs.declared.script.Line.TheVariants.{Call}
use Rattle.script_text.specs.declared.script.Script.{Script}

-- the script with these lines in place of its own
abbrev pub with_lines : List Line → Script → Script
with_lines kept script = record script { lines = kept }

-- a user's create of a claim
abbrev pub create_of : ℕ → ClaimData → Line
create_of user c = Call user (Create (Claim c))

-- the kept lines are those of the script in their order, but for some creates of claims
pub data LeavingOut : List Line → List Line → Type 0 where
  NoneLeft : {lines kept : List Line} → lines ≡ [] → kept ≡ [] → LeavingOut lines kept
  KeepsLine : {lines kept : List Line} (line : Line) (rest later : List Line) → lines ≡ line ∷ rest → kept ≡ line ∷ later → LeavingOut rest later → LeavingOut lines kept
  LeavesClaim : {lines kept : List Line} (user : ℕ) (c : ClaimData) (rest : List Line) → lines ≡ create_of user c ∷ rest → LeavingOut rest kept → LeavingOut lines kept
