-- Pages that get one entry more.
use Rattle.std.proofs.Common.{◌≡◌, ℕ, zero, suc, ◌<◌, List, [], ◌∷◌, ◌++◌, length, get_or, set, reverse, take, drop, arith, sym, ◌∙◌, ap, subst}
use Rattle.std.proofs.lemmas.List.{reverse-append, take-append-drop}
use Rattle.std.proofs.Math.Seq.{drop-append_seam, take-append_seam}
use Rattle.std.specs.List.{insert}
use Rattle.kube_objects.specs.declared.objects.Object.{Object}
use Rattle.call_types.specs.declared.entry.Entry.{Entry}
use Rattle.call_types.specs.declared.reply.Reply.TheVariants.{Done}
use Rattle.binder_model.specs.Told.{ToldObject}
use Rattle.evidence_pages.specs.declared.pages.Page.{Page}
use Rattle.evidence_pages.specs.Parts.{IsPart, Begins, Skips, Keeps, Tells, ArePages, MayStandBehind}

pub pages_grow : (mine after : List Entry) → ((small : List Entry) → IsPart small mine → IsPart small after) → (ps : List Page) → ArePages ps mine → ArePages ps after
pages_grow mine after grows [] h = tt
pages_grow mine after grows (p ∷ ps) h = (grows _ h.0, pages_grow mine after grows ps h.1)

pub page_at : (mine : List Entry) (ps : List Page) (i : ℕ) (d : Page) → i < length ps → ArePages ps mine → IsPart (reverse (get_or ps i d).entries) mine
page_at mine [] i d h all = absurd (omega (arith, h))
page_at mine (p ∷ ps) zero d h all = all.0
page_at mine (p ∷ ps) (suc i) d h all = page_at mine ps i d (omega (arith, h)) all.1

pub alone_behind : (t : Entry) (o : Object) → t.reply ≡ Done o → (mine : List Entry) → ToldObject (λ x. x ≡ o) mine → MayStandBehind t mine mine
alone_behind t o is mine told small part = (part, Tells t o is told part)

pub kept_behind : (e k : Entry) (mine : List Entry) → k ≡ e → MayStandBehind k mine (e ∷ mine)
kept_behind e k mine is small part = (Skips e part, subst (λ (x : Entry). IsPart (x ∷ small) (e ∷ mine)) (sym is) (Keeps e part))

-- an entry that says nothing more
pub pages_skip : (e : Entry) (mine : List Entry) (ps : List Page) → ArePages ps mine → ArePages ps (e ∷ mine)
pages_skip e mine ps all = pages_grow mine (e ∷ mine) (λ small part. Skips e part) ps all

grown : (mine after : List Entry) (entry : Entry) → MayStandBehind entry mine after → (was is : List Entry) → is ≡ was ++ entry ∷ [] → IsPart (reverse was) mine → IsPart (reverse is) after
grown mine after entry behind was is e part = subst (λ xs. IsPart xs after) (sym (ap reverse e ∙ reverse-append was (entry ∷ []))) (behind (reverse was) part).1

-- a page with the entry behind it, in its place
pub pages_set : (mine after : List Entry) (entry : Entry) → MayStandBehind entry mine after → (ps : List Page) (i : ℕ) (was is : Page)
    → i < length ps → was ≡ get_or ps i was → is.entries ≡ was.entries ++ entry ∷ [] → ArePages ps mine → ArePages (set ps i is) after
pages_set mine after entry behind [] i was is h at e all = absurd (omega (arith, h))
pages_set mine after entry behind (p ∷ ps) zero was is h at e all = (
  grown mine after entry behind was.entries is.entries e (subst (λ (x : Page). IsPart (reverse x.entries) mine) (sym at) all.0),
  pages_grow mine after (λ small part. (behind small part).0) ps all.1,
)
pages_set mine after entry behind (p ∷ ps) (suc i) was is h at e all =
    ((behind _ all.0).0, pages_set mine after entry behind ps i was is (omega (arith, h)) at e all.1)

-- a new page with the entry alone
pub pages_insert : (mine after : List Entry) (entry : Entry) → MayStandBehind entry mine after → (ps : List Page) (i : ℕ) (is : Page)
    → is.entries ≡ entry ∷ [] → ArePages ps mine → ArePages (insert ps i is) after
pages_insert mine after entry behind [] zero is e all = (grown mine after entry behind [] is.entries e Begins, tt)
pages_insert mine after entry behind [] (suc i) is e all = (grown mine after entry behind [] is.entries e Begins, tt)
pages_insert mine after entry behind (p ∷ ps) zero is e all = (grown mine after entry behind [] is.entries e Begins, pages_grow mine after (λ small part. (behind small part).0) (p ∷ ps) all)
pages_insert mine after entry behind (p ∷ ps) (suc i) is e all = ((behind _ all.0).0, pages_insert mine after entry behind ps i is e all.1)

-- a stretch of a part is a part

part_take : (k : ℕ) (small mine : List Entry) → IsPart small mine → IsPart (take k small) mine
part_take zero small mine part = Begins
part_take (suc k) small mine Begins = Begins
part_take (suc k) small mine (Skips e part) = Skips e (part_take (suc k) _ _ part)
part_take (suc k) small mine (Keeps e part) = Keeps e (part_take k _ _ part)
part_take (suc k) small mine (Tells t o is told part) = Tells t o is told (part_take k _ _ part)

part_drop : (k : ℕ) (small mine : List Entry) → IsPart small mine → IsPart (drop k small) mine
part_drop zero small mine part = part
part_drop (suc k) small mine Begins = Begins
part_drop (suc k) small mine (Skips e part) = Skips e (part_drop (suc k) _ _ part)
part_drop (suc k) small mine (Keeps e part) = Skips e (part_drop k _ _ part)
part_drop (suc k) small mine (Tells t o is told part) = part_drop k _ _ part

split : (k : ℕ) (xs : List Entry) → reverse xs ≡ reverse (drop k xs) ++ reverse (take k xs)
split k xs = ap reverse (sym (take-append-drop k xs)) ∙ reverse-append (take k xs) (drop k xs)

pub part_taken : (k : ℕ) (xs mine : List Entry) → IsPart (reverse xs) mine → IsPart (reverse (take k xs)) mine
part_taken k xs mine part =
    let back = reverse (drop k xs) in
    subst (λ l. IsPart l mine) (drop-append_seam back (reverse (take k xs))) (part_drop (length back) _ mine (subst (λ l. IsPart l mine) (split k xs) part))

pub part_dropped : (k : ℕ) (xs mine : List Entry) → IsPart (reverse xs) mine → IsPart (reverse (drop k xs)) mine
part_dropped k xs mine part =
    let back = reverse (drop k xs) in
    subst (λ l. IsPart l mine) (take-append_seam back (reverse (take k xs))) (part_take (length back) _ mine (subst (λ l. IsPart l mine) (split k xs) part))
