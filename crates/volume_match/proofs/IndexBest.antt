-- The best of both lists of an index is the best of all volumes.
use Rattle.std.proofs.Common.{ℕ, ◌≡◌, inl, inr, Bool, true, false, List, Option, Some, None}
use Rattle.kube_objects.specs.declared.objects.Node.{Node as NodeData}
use Rattle.kube_objects.specs.declared.objects.Claim.{Claim as ClaimData}
use Rattle.kube_objects.specs.declared.objects.Object.{Object}
use Rattle.binder_model.specs.Matching.{IsBest, IsBestAt}
use Rattle.volume_index.specs.VolumeIndex.{Index, StandsFor, is_free, is_owned, volumes_in}
use Rattle.volume_match.specs.Steps.Choices.{AreOf, HasNone, IsBestOf, IsBestOfAt}
use Rattle.volume_match.proofs.Candidates.{candidate_held}
use Rattle.volume_match.proofs.Fitting.{for_owned, free_other, owned_for, prefers_own, served}

module _ (rows : List Object) (i : Index) (stands : StandsFor i (volumes_in rows)) (c : ClaimData) (on : Option NodeData) (excluded : List ℕ) where
  pub owned_of : AreOf is_owned (volumes_in rows) i.owned
  owned_of v h = (stands.owned v).0 h

  pub free_of : AreOf is_free (volumes_in rows) i.free
  free_of v h = (stands.free v).0 h

  -- the best of those that refer to the claim comes before all free ones
  pub best_owned : (own : Bool) (at : ℕ) → IsBestOfAt rows c on own excluded i.owned at → IsBestAt rows c on own excluded at
  best_owned own at best =
      record {
        volume = best.volume;
        candidate = best.candidate;
        first = λ other u k. elim (served c on u k.eligible) [
          | inl mine ↦ best.first u ((stands.owned u).1 (candidate_held rows c on own excluded other u k, for_owned c on u mine)) other k
          | inr free ↦ prefers_own c on best.volume u (owned_for c on best.volume best.candidate.eligible (owned_of best.volume best.held).1) (free_other c on u free)
        ];
      }

  -- where only volumes for the claim are wanted, no other is looked for
  pub none_owned : (own : Bool) → own ≡ true → HasNone rows c on own excluded i.owned → IsBest rows c on own excluded None
  none_owned true e none = λ place u k. none u ((stands.owned u).1 (candidate_held rows c on true excluded place u k, for_owned c on u k.own)) place k
  none_owned false e none = absurd cc

  first_free : HasNone rows c on false excluded i.owned → (at : ℕ) → IsBestOfAt rows c on false excluded i.free at → IsBestAt rows c on false excluded at
  first_free none at best =
      record {
        volume = best.volume;
        candidate = best.candidate;
        first = λ other u k. elim (served c on u k.eligible) [
          | inl mine ↦ absurd (none u ((stands.owned u).1 (candidate_held rows c on false excluded other u k, for_owned c on u mine)) other k)
          | inr free ↦ best.first u ((stands.free u).1 (candidate_held rows c on false excluded other u k, free)) other k
        ];
      }

  nothing_free : HasNone rows c on false excluded i.owned → HasNone rows c on false excluded i.free → IsBest rows c on false excluded None
  nothing_free none also = λ place u k. elim (served c on u k.eligible) [
    | inl mine ↦ none u ((stands.owned u).1 (candidate_held rows c on false excluded place u k, for_owned c on u mine)) place k
    | inr free ↦ also u ((stands.free u).1 (candidate_held rows c on false excluded place u k, free)) place k
  ]

  -- where none refers to the claim, the best of the free ones is the best
  pub best_free : (own : Bool) → own ≡ false → HasNone rows c on own excluded i.owned → (answer : Option ℕ) → IsBestOf rows c on false excluded i.free answer → IsBest rows c on own excluded answer
  best_free true e none answer best = absurd cc
  best_free false e none None best = nothing_free none best
  best_free false e none (Some at) best = first_free none at best
