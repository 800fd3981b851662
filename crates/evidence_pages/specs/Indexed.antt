-- What an index is of the entries that it was given, newest first.
-- A choice of this project.
use Rattle.std.specs.Prelude.{◌≡◌, true, List, Some}
use Rattle.call_types.specs.declared.entry.Entry.{Entry}
use Rattle.call_types.specs.declared.request.SeatKind.{SeatKind}
use Rattle.binder_model.specs.Licence.{AreOfKind}
use Rattle.informer_cache.specs.All.{AllStandFor}
use Rattle.evidence_pages.specs.declared.index.PageIndex.{PageIndex}
use Rattle.evidence_pages.specs.Parts.{ArePages}

-- its pages are parts of the entries; the caches, where they know, stand for them; and the kind, where there is one, is that of all
pub record IsIndexOf (x : PageIndex) (mine : List Entry) : Type 0 where
  pub pages : ArePages x.pages mine
  pub known : x.known ≡ true → AllStandFor x.caches mine
  pub kinds : (kind : SeatKind) → x.kind ≡ Some kind → AreOfKind kind mine
