-- A scan of the volumes finds the best.
use Rattle.std.proofs.Common.{ℕ, ◌≡◌, ◌≢◌, ◌<◌, ◌+◌, nat_le, Bool, true, false, not, ◌&&◌, bytes_eq, List, length, Option, Some, None, slice_get, ◌∙◌, refl, sym, ap, subst}
use Rattle.std.proofs.lemmas.Bool.{and_left, and_parts, and_right, not-true}
use borrow.Author.Count.{below_more}
use Rattle.std.specs.Bool.{beq}
use Rattle.std.specs.Cmp.{IsTotalOrder}
use Rattle.std.specs.declared.cmp.Ordering.{Ordering}
use Rattle.std.specs.declared.cmp.Ordering.TheVariants.{Less, Equal, Greater}
use Rattle.std.specs.Ordering.{is_lt, is_gt, ordering_reverse}
use Rattle.std.proofs.lemmas.Cmp.{nat_cmp_total, nat_list_cmp_total, on_total, then_total, upto}
use Rattle.std.proofs.lemmas.Option.{slice_get_within}
use Rattle.kube_parts.specs.declared.parts.Kind.TheVariants as kinds
use Rattle.kube_objects.specs.declared.objects.Node.{Node as NodeData}
use Rattle.kube_objects.specs.declared.objects.Volume.{Volume as VolumeData}
use Rattle.kube_objects.specs.declared.objects.Claim.{Claim as ClaimData}
use Rattle.kube_objects.specs.declared.objects.Object.{Object}
use Rattle.kube_objects.specs.declared.objects.Object.TheVariants.{Volume}
use Rattle.kube_objects.specs.Keys.{rows_of}
use Rattle.kube_objects.specs.Bindings.{class_of_claim, class_of_volume, is_deleting, is_protected_volume}
use Rattle.binder_model.specs.Matching.{IsBest, IsCandidate, covers, eligible, for_last, is_admitted_on, is_excluded, is_selected, match_cmp, may_serve, only_own_passes}
use Rattle.kube_objects.specs.Bindings.{mode_count}
use Rattle.volume_match.specs.Steps.Scan.{IsBestBelow, comes_before, is_open, is_preferred, serves}
use Rattle.volume_index.specs.VolumeIndex.{as_volume}
use Rattle.volume_match.specs.Volumes.{volume_at}
use Rattle.volume_index.proofs.PlacesBehind.{as_volume_some}
use Rattle.volume_index.proofs.Scans.{reversed_is_no_greater}

pub match_total : (c : ClaimData) → IsTotalOrder (match_cmp c)
match_total c =
    then_total (then_total (then_total
    (on_total (λ (v : VolumeData). for_last v c) nat_cmp_total)
    (on_total (λ (v : VolumeData). mode_count v.modes) nat_cmp_total))
    (on_total (λ (v : VolumeData). v.amount.bytes) nat_cmp_total))
    (on_total (λ (v : VolumeData). v.meta.name) nat_list_cmp_total)

no_greater : (o : Ordering) → o ≢ Greater → is_gt o ≡ false
no_greater Less h = refl
no_greater Equal h = refl
no_greater Greater h = absurd (h refl)

not_greater : (o : Ordering) → is_gt o ≡ false → o ≢ Greater
not_greater Less h = λ (e : Less ≡ Greater). cc
not_greater Equal h = λ (e : Equal ≡ Greater). cc
not_greater Greater h = λ (e : Greater ≡ Greater). cc

less_is_no_greater : (o : Ordering) → is_lt o ≡ true → is_gt o ≡ false
less_is_no_greater Less h = refl
less_is_no_greater Equal h = refl
less_is_no_greater Greater h = cc

-- what is not after the middle one, which is not after the last, is not after the last
between : (c : ClaimData) (v u w : VolumeData) → is_gt (match_cmp c v u) ≡ false → match_cmp c u w ≢ Greater → match_cmp c v w ≢ Greater
between c v u w h k = not_greater (match_cmp c v w) (upto (match_total c) v u w h (no_greater (match_cmp c u w) k))

itself : (c : ClaimData) (v : VolumeData) → match_cmp c v v ≢ Greater
itself c v = not_greater (match_cmp c v v) (of_reverse (match_cmp c v v) ((match_total c).antisymm v v))
  where
    of_reverse : (o : Ordering) → o ≡ ordering_reverse o → is_gt o ≡ false
    of_reverse Less e = refl
    of_reverse Equal e = refl
    of_reverse Greater e = cc

pub open_candidate : (rows : List Object) (c : ClaimData) (on : Option NodeData) (own : Bool) (excluded : List ℕ) (place : ℕ) (v : VolumeData)
    → volume_at rows place ≡ Some v → is_open c on own excluded place v ≡ true → IsCandidate rows c on own excluded place v
open_candidate rows c on own excluded place v there open_now =
    let parts = and_parts (not (is_excluded excluded place)) (only_own_passes own v c && eligible v c on) open_now in
    let rest = and_parts (only_own_passes own v c) (eligible v c on) parts.1 in
    record {
      there = as_volume_some (slice_get (rows_of kinds.PersistentVolume rows) place) v there;
      open_to = not-true (is_excluded excluded place) parts.0;
      own = rest.0;
      eligible = rest.1;
    }

-- a candidate at a place is the volume there
candidate_there : (rows : List Object) (c : ClaimData) (on : Option NodeData) (own : Bool) (excluded : List ℕ) (place : ℕ) (v : VolumeData)
    → IsCandidate rows c on own excluded place v → volume_at rows place ≡ Some v
candidate_there rows c on own excluded place v k = ap as_volume k.there

-- a candidate is open
candidate_open : (rows : List Object) (c : ClaimData) (on : Option NodeData) (own : Bool) (excluded : List ℕ) (place : ℕ) (v : VolumeData)
    → IsCandidate rows c on own excluded place v → is_open c on own excluded place v ≡ true
candidate_open rows c on own excluded place v k = all_three (is_excluded excluded place) (only_own_passes own v c) (eligible v c on) k.open_to k.own k.eligible
  where
    all_three : (a b d : Bool) → a ≡ false → b ≡ true → d ≡ true → (not a && (b && d)) ≡ true
    all_three true b d x y z = cc
    all_three false false d x y z = cc
    all_three false true false x y z = cc
    all_three false true true x y z = refl

-- two candidates at one place are one volume
at_place_of : (rows : List Object) (c : ClaimData) (on : Option NodeData) (own : Bool) (excluded : List ℕ) (place : ℕ) (v : VolumeData)
    → volume_at rows place ≡ Some v → (u : VolumeData) → IsCandidate rows c on own excluded place u → match_cmp c v u ≢ Greater
at_place_of rows c on own excluded place v there u k =
    let same : Some v ≡ Some u = sym there ∙ candidate_there rows c on own excluded place u k in
    let e : v ≡ u = cc in
    subst (λ (w : VolumeData). match_cmp c v w ≢ Greater) e (itself c v)

at_place : (rows : List Object) (c : ClaimData) (on : Option NodeData) (own : Bool) (excluded : List ℕ) (place : ℕ) (v : VolumeData)
    → IsCandidate rows c on own excluded place v → (u : VolumeData) → IsCandidate rows c on own excluded place u → match_cmp c v u ≢ Greater
at_place rows c on own excluded place v q = at_place_of rows c on own excluded place v (candidate_there rows c on own excluded place v q)

candidate_below : (rows : List Object) (c : ClaimData) (on : Option NodeData) (own : Bool) (excluded : List ℕ) (count place : ℕ) (v : VolumeData)
    → count ≡ length (rows_of kinds.PersistentVolume rows) → IsCandidate rows c on own excluded place v → place < count
candidate_below rows c on own excluded count place v e k = subst (λ (n : ℕ). place < n) (sym e) (slice_get_within (rows_of kinds.PersistentVolume rows) place (Volume v) k.there)

-- where no candidate stands at the place, the best before it stays
pub passed_over : (rows : List Object) (c : ClaimData) (on : Option NodeData) (own : Bool) (excluded : List ℕ) (place : ℕ) (before : Option ℕ)
    → ((v : VolumeData) → IsCandidate rows c on own excluded place v → ⊥) → IsBestBelow rows c on own excluded place before → IsBestBelow rows c on own excluded (place + 1) before
passed_over rows c on own excluded place None none best =
    below_more (λ (k : ℕ). (v : VolumeData) → IsCandidate rows c on own excluded k v → ⊥) place best none
passed_over rows c on own excluded place (Some at) none best =
    record {
      volume = best.volume;
      candidate = best.candidate;
      first = below_more (λ (k : ℕ). (u : VolumeData) → IsCandidate rows c on own excluded k u → match_cmp c best.volume u ≢ Greater) place best.first (λ u k. absurd (none u k));
    }

-- where the volume at the place is not open, no candidate stands there
pub closed : (rows : List Object) (c : ClaimData) (on : Option NodeData) (own : Bool) (excluded : List ℕ) (place : ℕ) (v : VolumeData)
    → volume_at rows place ≡ Some v → is_open c on own excluded place v ≡ false → (u : VolumeData) → IsCandidate rows c on own excluded place u → ⊥
closed rows c on own excluded place v there shut u k =
    let same : Some u ≡ Some v = sym (candidate_there rows c on own excluded place u k) ∙ there in
    let e : u ≡ v = cc in
    let o : is_open c on own excluded place u ≡ true = candidate_open rows c on own excluded place u k in
    let x : true ≡ false = sym o ∙ (ap (is_open c on own excluded place) e ∙ shut) in
    cc

-- a volume that does not serve the claim is not open to it
pub unserved : (c : ClaimData) (on : Option NodeData) (own : Bool) (excluded : List ℕ) (place : ℕ) (v : VolumeData) → serves v c ≡ false → is_open c on own excluded place v ≡ false
unserved c on own excluded place v e =
    and_right (not (is_excluded excluded place)) (only_own_passes own v c && eligible v c on)
    (and_right (only_own_passes own v c) (eligible v c on)
    (by (nat_le c.amount.bytes v.amount.bytes) (may_serve v c) (not (is_deleting v.meta) && is_protected_volume v)
    (bytes_eq (class_of_volume v) (class_of_claim c)) (beq v.block c.block) (covers c.modes v.modes) (is_selected c.selector v.meta.labels) (is_admitted_on v on) e))
  where
    by : (le may kept class block modes selected admitted : Bool) → (le && may) ≡ false → (kept && (le && class && block && modes) && selected && admitted && may) ≡ false
    by true may kept class block modes selected admitted e = and_right (kept && (true && class && block && modes) && selected && admitted) may e
    by false may kept class block modes selected admitted e =
        and_left (kept && false && selected && admitted) may (and_left (kept && false && selected) admitted (and_left (kept && false) selected (and_right kept false refl)))

pub absent : (rows : List Object) (c : ClaimData) (on : Option NodeData) (own : Bool) (excluded : List ℕ) (place : ℕ) → volume_at rows place ≡ None
    → (u : VolumeData) → IsCandidate rows c on own excluded place u → ⊥
absent rows c on own excluded place gone u k =
    let x : Some u ≡ None = sym (candidate_there rows c on own excluded place u k) ∙ gone in
    cc

-- the candidate at the place is the best where the claim prefers it to the best before
pub taken : (rows : List Object) (c : ClaimData) (on : Option NodeData) (own : Bool) (excluded : List ℕ) (place : ℕ) (before : Option ℕ)
    (v : VolumeData) → IsCandidate rows c on own excluded place v → is_preferred rows c v before ≡ true
    → IsBestBelow rows c on own excluded place before → IsBestBelow rows c on own excluded (place + 1) (Some place)
taken rows c on own excluded place None v k preferred best =
    record {
      volume = v;
      candidate = k;
      first = below_more (λ (j : ℕ). (u : VolumeData) → IsCandidate rows c on own excluded j u → match_cmp c v u ≢ Greater) place
          (λ j below u q. absurd (best j below u q)) (at_place rows c on own excluded place v k);
    }
taken rows c on own excluded place (Some at) v k preferred best =
    let before : comes_before c v (Some best.volume) ≡ true =
    subst (λ (o : Option VolumeData). comes_before c v o ≡ true) (candidate_there rows c on own excluded at best.volume best.candidate) preferred in
    let le : is_gt (match_cmp c v best.volume) ≡ false = less_is_no_greater (match_cmp c v best.volume) before in
    record {
      volume = v;
      candidate = k;
      first = below_more (λ (j : ℕ). (u : VolumeData) → IsCandidate rows c on own excluded j u → match_cmp c v u ≢ Greater) place
          (λ j below u q. between c v best.volume u le (best.first j below u q)) (at_place rows c on own excluded place v k);
    }

-- the best before stays where the claim does not prefer the candidate at the place
pub kept : (rows : List Object) (c : ClaimData) (on : Option NodeData) (own : Bool) (excluded : List ℕ) (place : ℕ) (before : Option ℕ)
    (v : VolumeData) → volume_at rows place ≡ Some v → is_preferred rows c v before ≡ false → IsBestBelow rows c on own excluded place before → IsBestBelow rows c on own excluded (place + 1) before
kept rows c on own excluded place None v there preferred best = cc
kept rows c on own excluded place (Some at) v there preferred best =
    let before : comes_before c v (Some best.volume) ≡ false =
    subst (λ (o : Option VolumeData). comes_before c v o ≡ false) (candidate_there rows c on own excluded at best.volume best.candidate) preferred in
    let le : is_gt (match_cmp c best.volume v) ≡ false =
    subst (λ (o : Ordering). is_gt o ≡ false) (sym ((match_total c).antisymm best.volume v)) (reversed_is_no_greater (match_cmp c v best.volume) before) in
    record {
      volume = best.volume;
      candidate = best.candidate;
      first = below_more (λ (j : ℕ). (u : VolumeData) → IsCandidate rows c on own excluded j u → match_cmp c best.volume u ≢ Greater) place
          best.first (λ u q. between c best.volume v u le (at_place_of rows c on own excluded place v there u q));
    }

-- below the number of volumes stand all candidates
pub whole : (rows : List Object) (c : ClaimData) (on : Option NodeData) (own : Bool) (excluded : List ℕ) (count : ℕ) (answer : Option ℕ)
    → count ≡ length (rows_of kinds.PersistentVolume rows) → IsBestBelow rows c on own excluded count answer → IsBest rows c on own excluded answer
whole rows c on own excluded count None e best =
    λ place v k. best place (candidate_below rows c on own excluded count place v e k) v k
whole rows c on own excluded count (Some at) e best =
    record {
      volume = best.volume;
      candidate = best.candidate;
      first = λ other u k. best.first other (candidate_below rows c on own excluded count other u e k) u k;
    }
