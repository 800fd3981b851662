-- Pages of pods that get one telling more.
use Rattle.std.proofs.Common.{◌≡◌, ℕ, zero, suc, ◌<◌, List, [], ◌∷◌, ◌++◌, length, get_or, set, arith, sym, inr, subst}
use Rattle.std.specs.List.{insert}
use Rattle.kube_objects.specs.declared.objects.Object.TheVariants.{Pod}
use Rattle.call_types.specs.declared.entry.Entry.{Entry}
use Rattle.evidence_agent.specs.Places.Places.{TellsAt}
use Rattle.evidence_agent.specs.declared.pods.ToldPod.{ToldPod}
use Rattle.evidence_agent.specs.declared.pods.PodPage.{PodPage}
use Rattle.evidence_agent.specs.Pods.{ArePods, AreTold}

told_last : (mine : List Entry) (t : ToldPod) → TellsAt mine t.place (Pod t.pod) → (ts : List ToldPod) → AreTold ts mine → AreTold (ts ++ t ∷ []) mine
told_last mine t h [] all = (h, tt)
told_last mine t h (s ∷ ts) all = (all.0, told_last mine t h ts all.1)

told_later : (e : Entry) (mine : List Entry) (ts : List ToldPod) → AreTold ts mine → AreTold ts (e ∷ mine)
told_later e mine [] all = tt
told_later e mine (t ∷ ts) all = (inr all.0, told_later e mine ts all.1)

pub pods_later : (e : Entry) (mine : List Entry) (ps : List PodPage) → ArePods ps mine → ArePods ps (e ∷ mine)
pods_later e mine [] all = tt
pods_later e mine (p ∷ ps) all = (told_later e mine p.told all.0, pods_later e mine ps all.1)

pub page_at : (mine : List Entry) (ps : List PodPage) (i : ℕ) (d : PodPage) → i < length ps → ArePods ps mine → AreTold (get_or ps i d).told mine
page_at mine [] i d h all = absurd (omega (arith, h))
page_at mine (p ∷ ps) zero d h all = all.0
page_at mine (p ∷ ps) (suc i) d h all = page_at mine ps i d (omega (arith, h)) all.1

pub pods_set : (mine : List Entry) (t : ToldPod) → TellsAt mine t.place (Pod t.pod) → (ps : List PodPage) (i : ℕ) (was is : PodPage) → i < length ps
    → was ≡ get_or ps i was → is.told ≡ was.told ++ t ∷ [] → ArePods ps mine → ArePods (set ps i is) mine
pods_set mine t h [] i was is lt at e all = absurd (omega (arith, lt))
pods_set mine t h (p ∷ ps) zero was is lt at e all = (subst (λ ts. AreTold ts mine) (sym e) (told_last mine t h was.told (subst (λ (x : PodPage). AreTold x.told mine) (sym at) all.0)), all.1)
pods_set mine t h (p ∷ ps) (suc i) was is lt at e all = (all.0, pods_set mine t h ps i was is (omega (arith, lt)) at e all.1)

one_told : (mine : List Entry) (t : ToldPod) → TellsAt mine t.place (Pod t.pod) → (is : PodPage) → is.told ≡ t ∷ [] → AreTold is.told mine
one_told mine t h is e = subst (λ ts. AreTold ts mine) (sym e) (h, tt)

pub pods_insert : (mine : List Entry) (t : ToldPod) → TellsAt mine t.place (Pod t.pod) → (ps : List PodPage) (i : ℕ) (is : PodPage) → is.told ≡ t ∷ [] → ArePods ps mine → ArePods (insert ps i is) mine
pods_insert mine t h [] zero is e all = (one_told mine t h is e, tt)
pods_insert mine t h [] (suc i) is e all = (one_told mine t h is e, tt)
pods_insert mine t h (p ∷ ps) zero is e all = (one_told mine t h is e, all)
pods_insert mine t h (p ∷ ps) (suc i) is e all = (all.0, pods_insert mine t h ps i is e all.1)
