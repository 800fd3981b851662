-- Parts of what a seat was told, by which a row of the licence may be judged.
-- A choice of this project.
use Rattle.std.specs.Prelude.{◌≡◌, List, [], ◌∷◌, reverse, ⊤}
use Rattle.kube_objects.specs.declared.objects.Object.{Object}
use Rattle.call_types.specs.declared.entry.Entry.{Entry}
use Rattle.call_types.specs.declared.reply.Reply.TheVariants.{Done}
use Rattle.binder_model.specs.Told.{ToldObject}
use Rattle.evidence_pages.specs.declared.pages.Page.{Page}

-- some of the entries in their order, and between them told objects one by one, each after an entry that tells it
pub data IsPart : List Entry → List Entry → Type 0 where
  Begins : {mine : List Entry} → IsPart [] mine
  Skips : {small mine : List Entry} (e : Entry) → IsPart small mine → IsPart small (e ∷ mine)
  Keeps : {small mine : List Entry} (e : Entry) → IsPart small mine → IsPart (e ∷ small) (e ∷ mine)
  Tells : {small mine : List Entry} (t : Entry) (o : Object) → t.reply ≡ Done o → ToldObject (λ x. x ≡ o) mine → IsPart small mine → IsPart (t ∷ small) mine

-- each page holds such a part, the oldest first
abbrev pub ArePages : List Page → List Entry → Type 0
ArePages [] mine = ⊤
ArePages (p ∷ ps) mine = IsPart (reverse p.entries) mine × ArePages ps mine

-- the entry may stand behind each part of the one list, and the whole is a part of the other
abbrev pub MayStandBehind : Entry → List Entry → List Entry → Type 0
MayStandBehind entry mine after = (small : List Entry) → IsPart small mine → IsPart small after × IsPart (entry ∷ small) after
