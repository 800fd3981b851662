-- The version of the list with which a seat follows a kind, as one more entry comes.
use Rattle.std.proofs.Common.{◌≡◌, ℕ, List, Bool, true, false, if◌then◌else◌, Some, inl, refl, sym, ◌∙◌}
use Rattle.kube_parts.specs.declared.parts.Kind.{Kind}
use Rattle.call_types.specs.declared.entry.Entry.{Entry}
use Rattle.binder_model.specs.Reading.{Following, Unlisted, ListedAt, IsFrom, following_of, reached_on}
use Rattle.evidence_judge.specs.declared.lists.LastLists.{LastLists}
use Rattle.evidence_judge.specs.Steps.Lists.{AreListsOf, list_version, version_in}

-- what a watch is told leaves the list
pub watched : (is : Bool) (upto : ℕ) (f : Following) → list_version (if is then reached_on upto f else f) ≡ list_version f
watched true upto Unlisted = refl
watched true upto (ListedAt version reached) = refl
watched false upto f = refl

-- a watch may begin at the version of the list

from_listed : (f : Following) (from : ℕ) → list_version f ≡ Some from → IsFrom from f
from_listed Unlisted from is = cc
from_listed (ListedAt version reached) from is = inl (let e : version ≡ from = cc in sym e)

pub listed_from : (x : LastLists) (mine : List Entry) (kind : Kind) (from : ℕ) → AreListsOf x mine → version_in x kind ≡ Some from → IsFrom from (following_of mine kind)
listed_from x mine kind from are is = from_listed (following_of mine kind) from (sym (are kind) ∙ is)
