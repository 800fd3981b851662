-- Nodes that all volumes admit alike give the same.
use Rattle.std.proofs.Common.{ℕ, ◌≡◌, ◌∙◌, ◌<◌, ◌≤◌, ◌+◌, Bool, true, false, true≢false, not, ◌&&◌, List, [], ◌∷◌, length, Option, Some, None, refl, sym, ap, subst, arith}
use Rattle.std.specs.Prelude.{slice_get}
use Rattle.std.specs.Bool.{OnTrue, beq}
use Rattle.std.specs.Ordering.{MatchOrdering, nat_cmp}
use Rattle.std.specs.declared.cmp.Ordering.{Ordering}
use Rattle.std.specs.declared.cmp.Ordering.TheVariants.{Less, Equal, Greater}
use Rattle.std.proofs.lemmas.Cmp.{ranked}
use Rattle.std.proofs.lemmas.Option.{slice_get_past}
use Rattle.kube_parts.specs.declared.parts.Kind.TheVariants as kinds
use Rattle.kube_objects.specs.declared.objects.Claim.{Claim as ClaimData}
use Rattle.kube_objects.specs.declared.objects.Node.{Node as NodeData}
use Rattle.kube_objects.specs.declared.objects.Volume.{Volume as VolumeData}
use Rattle.kube_objects.specs.declared.objects.Object.{Object}
use Rattle.kube_objects.specs.declared.objects.Object.TheVariants.{Volume}
use Rattle.kube_objects.specs.Bindings.{is_deleting, is_protected_volume}
use Rattle.kube_objects.specs.Keys.{rows_of}
use Rattle.volume_index.specs.VolumeIndex.{as_volume}
use Rattle.label_rules.specs.Selectors.{admits}
use Rattle.binder_model.specs.Choice.{AreShares, IsProvisioned, Share, TakesVolume}
use Rattle.binder_model.specs.Matching.{IsBest, IsCandidate, fits, is_selected, may_serve}
use Rattle.volume_match.specs.Volumes.{volume_at}
use Rattle.delayed_binding.specs.Choices.{ServesClaims, others_in, set_aside}
use Rattle.delayed_binding.specs.Steps.Alike.{AreAlike, HasRefused, IsLikeOne, alike_at}
use Rattle.delayed_binding.specs.Steps.Sharing.{HaveNoShares}

-- one look at a place

-- the volumes at the places below the bound admit both nodes or neither
abbrev pub AlikeBelow : List Object → NodeData → NodeData → ℕ → Type 0
AlikeBelow rows one other bound = (place : ℕ) → place < bound → alike_at one other (volume_at rows place) ≡ true

module _ (rows : List Object) (one other : NodeData) where
  pub alike_next : (place : ℕ) → AlikeBelow rows one other place → alike_at one other (volume_at rows place) ≡ true → AlikeBelow rows one other (place + 1)
  alike_next place below here k lt = by (nat_cmp k place) (ranked k place _ refl)
    where
      by : (o : Ordering) → MatchOrdering o (k < place) (k ≡ place) (place < k) → alike_at one other (volume_at rows k) ≡ true
      by Less less = below k less
      by Equal same = subst (λ i. alike_at one other (volume_at rows i) ≡ true) (sym same) here
      by Greater more = absurd (omega (arith, lt, more))

  -- past the last volume there is none
  pub alike_all : (count : ℕ) → count ≡ length (rows_of kinds.PersistentVolume rows) → AlikeBelow rows one other count → AreAlike rows one other
  alike_all count is below k = by (nat_cmp k count) (ranked k count _ refl)
    where
      past : length (rows_of kinds.PersistentVolume rows) ≤ k → alike_at one other (volume_at rows k) ≡ true
      past far = ap (λ o. alike_at one other (as_volume o)) (slice_get_past (rows_of kinds.PersistentVolume rows) k far)

      by : (o : Ordering) → MatchOrdering o (k < count) (k ≡ count) (count < k) → alike_at one other (volume_at rows k) ≡ true
      by Less less = below k less
      by Equal same = past (omega (arith, same, is))
      by Greater more = past (omega (arith, more, is))

-- the same shares

module _ (rows : List Object) (one other : NodeData) (alike : AreAlike rows one other) where
  admitted_alike : (place : ℕ) (v : VolumeData) → slice_get (rows_of kinds.PersistentVolume rows) place ≡ Some (Volume v) → admits v.terms one.meta.labels ≡ admits v.terms other.meta.labels
  admitted_alike place v there = equal (admits v.terms one.meta.labels) (admits v.terms other.meta.labels) (subst (λ o. alike_at one other (as_volume o) ≡ true) there (alike place))
    where
      equal : (a b : Bool) → beq a b ≡ true → a ≡ b
      equal true true h = refl
      equal true false h = absurd (true≢false (sym h))
      equal false true h = absurd (true≢false (sym h))
      equal false false h = refl

  module _ (c : ClaimData) (taken : List ℕ) where
    candidate_there : (place : ℕ) (v : VolumeData) → IsCandidate rows c (Some one) false taken place v → IsCandidate rows c (Some other) false taken place v
    candidate_there place v k = record {
      there = k.there;
      open_to = k.open_to;
      own = k.own;
      eligible = sym (ap (λ b. not (is_deleting v.meta) && is_protected_volume v && fits v c && is_selected c.selector v.meta.labels && b &&
          may_serve v c) (admitted_alike place v k.there)) ∙ k.eligible;
    }

    candidate_here : (place : ℕ) (v : VolumeData) → IsCandidate rows c (Some other) false taken place v → IsCandidate rows c (Some one) false taken place v
    candidate_here place v k = record {
      there = k.there;
      open_to = k.open_to;
      own = k.own;
      eligible = ap (λ b. not (is_deleting v.meta) && is_protected_volume v && fits v c && is_selected c.selector v.meta.labels && b && may_serve v c) (admitted_alike place v k.there) ∙ k.eligible;
    }

    best_here : (answer : Option ℕ) → IsBest rows c (Some other) false taken answer → IsBest rows c (Some one) false taken answer
    best_here None none = λ place v k. none place v (candidate_there place v k)
    best_here (Some place) best = record {
      volume = best.volume;
      candidate = candidate_here place best.volume best.candidate;
      first = λ at u k. best.first at u (candidate_there at u k);
    }

  shares_here : (cs : List ClaimData) (taken : List ℕ) (shares : List Share) → AreShares rows other taken cs shares → AreShares rows one taken cs shares
  shares_here [] taken [] are = tt
  shares_here [] taken (TakesVolume p ∷ shares) are = absurd are
  shares_here [] taken (IsProvisioned ∷ shares) are = absurd are
  shares_here (c ∷ cs) taken [] are = absurd are
  shares_here (c ∷ cs) taken (TakesVolume p ∷ shares) are = (best_here c taken (Some p) are.0, shares_here cs (p ∷ taken) shares are.1)
  shares_here (c ∷ cs) taken (IsProvisioned ∷ shares) are = (best_here c taken None are.0, are.1, shares_here cs taken shares are.2)

-- a node that is like the one that was refused has no shares either
like_refused : (rows : List Object) (others : List ClaimData) (refused : Option NodeData) (n : NodeData) → HasRefused rows others refused → IsLikeOne rows refused n → HaveNoShares rows n others
like_refused rows others None n none like = absurd like
like_refused rows others (Some m) n none like = λ shares are. none shares (shares_here rows m n like others (set_aside rows) shares are)

-- a node without shares does not serve the claims
pub none_closed : (rows : List Object) (claims others : List ClaimData) (n : NodeData) (none : Bool) → others ≡ others_in rows claims
    → OnTrue none (HaveNoShares rows n others) → none ≡ true → (m : NodeData) → n ≡ m → ServesClaims rows claims m → ⊥
none_closed rows claims others n true are none is m same serves = subst (HaveNoShares rows m) are (subst (λ k. HaveNoShares rows k others) same none) serves.0 serves.1.shared
none_closed rows claims others n false are none is m same serves = absurd (true≢false (sym is))

pub like_closed : (rows : List Object) (claims others : List ClaimData) (refused : Option NodeData) (n : NodeData) (like : Bool)
    → others ≡ others_in rows claims → HasRefused rows others refused → OnTrue like (IsLikeOne rows refused n) → like ≡ true → (m : NodeData) → n ≡ m → ServesClaims rows claims m → ⊥
like_closed rows claims others refused n true are none like is m same serves = none_closed rows claims others n true are (like_refused rows others refused n none like) is m same serves
like_closed rows claims others refused n false are none like is m same serves = absurd (true≢false (sym is))
