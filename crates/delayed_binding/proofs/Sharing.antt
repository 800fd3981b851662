-- Claims get their shares one by one, and there is one way to share.
use Rattle.std.proofs.Common.{ℕ, zero, suc, ◌≡◌, ◌∙◌, true, false, true≢false, ◌||◌, ◌==◌, List, [], ◌∷◌, ◌++◌, Some, None, inl, inr, refl, sym, ap, subst, append_assoc}
use Rattle.std.specs.Prelude.{Bool, slice_get}
use Rattle.std.specs.Bool.{OnTrue}
use Rattle.kube_objects.specs.declared.key.Key.{Key}
use Rattle.kube_objects.specs.declared.objects.Claim.{Claim as ClaimData}
use Rattle.kube_objects.specs.declared.objects.Node.{Node as NodeData}
use Rattle.kube_objects.specs.declared.objects.Volume.{Volume as VolumeData}
use Rattle.kube_objects.specs.declared.objects.Object.{Object}
use Rattle.kube_objects.specs.declared.objects.Object.TheVariants.{Claim}
use Rattle.kube_objects.specs.Keys.{AreRows, key_of}
use Rattle.binder_model.specs.Choice.{AreShares, IsProvisioned, Share, TakesVolume, can_provision}
use Rattle.binder_model.specs.Matching.{IsBest, IsCandidate, is_excluded}
use Rattle.volume_match.specs.Volumes.{volume_at}
use Rattle.model_laws.proofs.Lists.{none_some, one}
use Rattle.delayed_binding.specs.Choices.{binds_of, pair_of, provisions_of, set_aside}
use Rattle.delayed_binding.specs.Steps.Sharing.{AreSame, HaveNoShares, Held, IsServedAs, IsLeftToProvision, IsSharedOut, IsUnserved, TakesBest, nothing_held, taken_by}
use Rattle.delayed_binding.proofs.Bests.{AreSetAside, aside_more, best_same, one_best, set_aside_is}

-- one share more

module _ (rows : List Object) (n : NodeData) where
  takes_more : (cs : List ClaimData) (shares : List Share) (taken : List ℕ) (c : ClaimData) (place : ℕ) → AreShares rows n taken cs shares
      → IsBest rows c (Some n) false (taken_by taken shares) (Some place) → AreShares rows n taken (cs ++ c ∷ []) (shares ++ TakesVolume place ∷ [])
  takes_more [] [] taken c place are best = (best, tt)
  takes_more [] (TakesVolume p ∷ shares) taken c place are best = absurd are
  takes_more [] (IsProvisioned ∷ shares) taken c place are best = absurd are
  takes_more (d ∷ ds) [] taken c place are best = absurd are
  takes_more (d ∷ ds) (TakesVolume p ∷ shares) taken c place are best = (are.0, takes_more ds shares (p ∷ taken) c place are.1 best)
  takes_more (d ∷ ds) (IsProvisioned ∷ shares) taken c place are best = (are.0, are.1, takes_more ds shares taken c place are.2 best)

  provisions_more : (cs : List ClaimData) (shares : List Share) (taken : List ℕ) (c : ClaimData) → AreShares rows n taken cs shares
      → IsBest rows c (Some n) false (taken_by taken shares) None → can_provision rows c ≡ true → AreShares rows n taken (cs ++ c ∷ []) (shares ++ IsProvisioned ∷ [])
  provisions_more [] [] taken c are none can = (none, can, tt)
  provisions_more [] (TakesVolume p ∷ shares) taken c are none can = absurd are
  provisions_more [] (IsProvisioned ∷ shares) taken c are none can = absurd are
  provisions_more (d ∷ ds) [] taken c are none can = absurd are
  provisions_more (d ∷ ds) (TakesVolume p ∷ shares) taken c are none can = (are.0, provisions_more ds shares (p ∷ taken) c are.1 none can)
  provisions_more (d ∷ ds) (IsProvisioned ∷ shares) taken c are none can = (are.0, are.1, provisions_more ds shares taken c are.2 none can)

  binds_more : (cs : List ClaimData) (shares : List Share) (taken : List ℕ) (c : ClaimData) (place : ℕ) → AreShares rows n taken cs shares
      → binds_of rows (cs ++ c ∷ []) (shares ++ TakesVolume place ∷ []) ≡ binds_of rows cs shares ++ pair_of c (volume_at rows place)
  binds_more [] [] taken c place are = append_nil (pair_of c (volume_at rows place))
    where
      append_nil : (xs : List (Key × Key)) → xs ++ [] ≡ xs
      append_nil [] = refl
      append_nil (x ∷ xs) = ap (λ ys. x ∷ ys) (append_nil xs)
  binds_more [] (TakesVolume p ∷ shares) taken c place are = absurd are
  binds_more [] (IsProvisioned ∷ shares) taken c place are = absurd are
  binds_more (d ∷ ds) [] taken c place are = absurd are
  binds_more (d ∷ ds) (TakesVolume p ∷ shares) taken c place are =
      ap (λ bs. pair_of d (volume_at rows p) ++ bs) (binds_more ds shares (p ∷ taken) c place are.1)
      ∙ sym (append_assoc (pair_of d (volume_at rows p)) (binds_of rows ds shares) (pair_of c (volume_at rows place)))
  binds_more (d ∷ ds) (IsProvisioned ∷ shares) taken c place are = binds_more ds shares taken c place are.2

  binds_kept : (cs : List ClaimData) (shares : List Share) (taken : List ℕ) (c : ClaimData) → AreShares rows n taken cs shares
      → binds_of rows (cs ++ c ∷ []) (shares ++ IsProvisioned ∷ []) ≡ binds_of rows cs shares
  binds_kept [] [] taken c are = refl
  binds_kept [] (TakesVolume p ∷ shares) taken c are = absurd are
  binds_kept [] (IsProvisioned ∷ shares) taken c are = absurd are
  binds_kept (d ∷ ds) [] taken c are = absurd are
  binds_kept (d ∷ ds) (TakesVolume p ∷ shares) taken c are = ap (λ bs. pair_of d (volume_at rows p) ++ bs) (binds_kept ds shares (p ∷ taken) c are.1)
  binds_kept (d ∷ ds) (IsProvisioned ∷ shares) taken c are = binds_kept ds shares taken c are.2

  keys_kept : (cs : List ClaimData) (shares : List Share) (taken : List ℕ) (c : ClaimData) (place : ℕ) → AreShares rows n taken cs shares
      → provisions_of (cs ++ c ∷ []) (shares ++ TakesVolume place ∷ []) ≡ provisions_of cs shares
  keys_kept [] [] taken c place are = refl
  keys_kept [] (TakesVolume p ∷ shares) taken c place are = absurd are
  keys_kept [] (IsProvisioned ∷ shares) taken c place are = absurd are
  keys_kept (d ∷ ds) [] taken c place are = absurd are
  keys_kept (d ∷ ds) (TakesVolume p ∷ shares) taken c place are = keys_kept ds shares (p ∷ taken) c place are.1
  keys_kept (d ∷ ds) (IsProvisioned ∷ shares) taken c place are = ap (λ ks. key_of (Claim d) ∷ ks) (keys_kept ds shares taken c place are.2)

  keys_more : (cs : List ClaimData) (shares : List Share) (taken : List ℕ) (c : ClaimData) → AreShares rows n taken cs shares
      → provisions_of (cs ++ c ∷ []) (shares ++ IsProvisioned ∷ []) ≡ provisions_of cs shares ++ key_of (Claim c) ∷ []
  keys_more [] [] taken c are = refl
  keys_more [] (TakesVolume p ∷ shares) taken c are = absurd are
  keys_more [] (IsProvisioned ∷ shares) taken c are = absurd are
  keys_more (d ∷ ds) [] taken c are = absurd are
  keys_more (d ∷ ds) (TakesVolume p ∷ shares) taken c are = keys_more ds shares (p ∷ taken) c are.1
  keys_more (d ∷ ds) (IsProvisioned ∷ shares) taken c are = ap (λ ks. key_of (Claim d) ∷ ks) (keys_more ds shares taken c are.2)

  taken_more : (shares : List Share) (taken : List ℕ) (place : ℕ) → taken_by taken (shares ++ TakesVolume place ∷ []) ≡ place ∷ taken_by taken shares
  taken_more [] taken place = refl
  taken_more (TakesVolume p ∷ shares) taken place = taken_more shares (p ∷ taken) place
  taken_more (IsProvisioned ∷ shares) taken place = taken_more shares taken place

  taken_kept : (shares : List Share) (taken : List ℕ) → taken_by taken (shares ++ IsProvisioned ∷ []) ≡ taken_by taken shares
  taken_kept [] taken = refl
  taken_kept (TakesVolume p ∷ shares) taken = taken_kept shares (p ∷ taken)
  taken_kept (IsProvisioned ∷ shares) taken = taken_kept shares taken

  same_more : (after xs ys : List ℕ) (place : ℕ) → AreSame after (place ∷ xs) → AreSame xs ys → AreSame after (place ∷ ys)
  same_more after xs ys place more same k = more k ∙ ap (λ b. (place == k) || b) (same k)

  -- none yet
  pub shared_none : (held : Held) → AreSame held.taken (set_aside rows) → held.binds ≡ [] → held.provisions ≡ [] → IsSharedOut rows n [] held
  shared_none held aside binds provisions = record { shares = []; are = tt; taken_are = aside; binds_are = binds; provisions_are = provisions }

  module _ (cs : List ClaimData) (held after : Held) (done : IsSharedOut rows n cs held) (c : ClaimData) where
    -- the next one takes a volume
    shared_taken : TakesBest rows n c held after → IsSharedOut rows n (cs ++ c ∷ []) after
    shared_taken t = record {
      shares = done.shares ++ TakesVolume t.place ∷ [];
      are = takes_more cs done.shares (set_aside rows) c t.place done.are (best_same rows c (Some n) false held.taken (taken_by (set_aside rows) done.shares) done.taken_are (Some t.place) t.best);
      taken_are = λ place. same_more after.taken held.taken (taken_by (set_aside rows) done.shares) t.place t.taken_are done.taken_are place
          ∙ sym (ap (λ ys. is_excluded ys place) (taken_more done.shares (set_aside rows) t.place));
      binds_are = t.binds_are ∙ (ap (λ bs. bs ++ pair_of c (volume_at rows t.place)) done.binds_are ∙ sym (binds_more cs done.shares (set_aside rows) c t.place done.are));
      provisions_are = t.provisions_are ∙ (done.provisions_are ∙ sym (keys_kept cs done.shares (set_aside rows) c t.place done.are));
    }

    -- the next one is to be provisioned
    shared_provisioned : IsLeftToProvision rows n c held after → IsSharedOut rows n (cs ++ c ∷ []) after
    shared_provisioned t = record {
      shares = done.shares ++ IsProvisioned ∷ [];
      are = provisions_more cs done.shares (set_aside rows) c done.are (best_same rows c (Some n) false held.taken (taken_by (set_aside rows) done.shares) done.taken_are None t.none) t.can;
      taken_are = λ place. ap (λ (h : Held). is_excluded h.taken place) t.after_is ∙ (done.taken_are place ∙ sym (ap (λ ys. is_excluded ys place) (taken_kept done.shares (set_aside rows))));
      binds_are = ap (λ (h : Held). h.binds) t.after_is ∙ (done.binds_are ∙ sym (binds_kept cs done.shares (set_aside rows) c done.are));
      provisions_are = ap (λ (h : Held). h.provisions) t.after_is ∙ (ap (λ ks. ks ++ key_of (Claim c) ∷ []) done.provisions_are ∙ sym (keys_more cs done.shares (set_aside rows) c done.are));
    }

    pub shared_more : IsServedAs rows n c held after true → IsSharedOut rows n (cs ++ c ∷ []) after
    shared_more g = elim g [ inl t ↦ shared_taken t | inr t ↦ shared_provisioned t ]

  -- what is a candidate where places are excluded is one where none are
  freed : (c : ClaimData) (taken : List ℕ) (place : ℕ) (v : VolumeData) → IsCandidate rows c (Some n) false taken place v → IsCandidate rows c (Some n) false [] place v
  freed c taken place v k = record { there = k.there; open_to = refl; own = k.own; eligible = k.eligible }

  -- a claim for which the node has nothing, even where all is left, gets no share
  no_share : (cs : List ClaimData) (i : ℕ) (c : ClaimData) → slice_get cs i ≡ Some c → IsUnserved rows n c nothing_held → (taken : List ℕ) (shares : List Share) → AreShares rows n taken cs shares → ⊥
  no_share [] i c at u taken shares are = none_some at
  no_share (d ∷ ds) i c at u taken [] are = are
  no_share (d ∷ ds) zero c at u taken (TakesVolume p ∷ shares) are =
      u.none p are.0.volume (freed c taken p are.0.volume (subst (λ e. IsCandidate rows e (Some n) false taken p are.0.volume) (one d c at) are.0.candidate))
  no_share (d ∷ ds) zero c at u taken (IsProvisioned ∷ shares) are = true≢false (sym (subst (λ e. can_provision rows e ≡ true) (one d c at) are.1) ∙ u.cannot)
  no_share (d ∷ ds) (suc i) c at u taken (TakesVolume p ∷ shares) are = no_share ds i c at u (p ∷ taken) shares are.1
  no_share (d ∷ ds) (suc i) c at u taken (IsProvisioned ∷ shares) are = no_share ds i c at u taken shares are.2

  pub unserved_none : (cs : List ClaimData) (i : ℕ) (c : ClaimData) → slice_get cs i ≡ Some c → (b : Bool) → OnTrue b (IsUnserved rows n c nothing_held) → OnTrue b (HaveNoShares rows n cs)
  unserved_none cs i c at true u = λ shares are. no_share cs i c at u (set_aside rows) shares are
  unserved_none cs i c at false u = tt

  module _ (order : AreRows rows) where
    -- two ways to share begin alike
    blocked : (cs : List ClaimData) (done : List Share) (taken : List ℕ) (c : ClaimData) (rest : List ClaimData) → AreSetAside rows taken
        → AreShares rows n taken cs done → IsBest rows c (Some n) false (taken_by taken done) None → can_provision rows c ≡ false → (all : List Share) → AreShares rows n taken (cs ++ c ∷ rest) all → ⊥
    blocked [] [] taken c rest aside are none cannot [] other = other
    blocked [] [] taken c rest aside are none cannot (TakesVolume q ∷ all) other = none q other.0.volume other.0.candidate
    blocked [] [] taken c rest aside are none cannot (IsProvisioned ∷ all) other = true≢false (sym other.1 ∙ cannot)
    blocked [] (TakesVolume p ∷ done) taken c rest aside are none cannot all other = are
    blocked [] (IsProvisioned ∷ done) taken c rest aside are none cannot all other = are
    blocked (d ∷ ds) [] taken c rest aside are none cannot all other = are
    blocked (d ∷ ds) (TakesVolume p ∷ done) taken c rest aside are none cannot [] other = other
    blocked (d ∷ ds) (TakesVolume p ∷ done) taken c rest aside are none cannot (TakesVolume q ∷ all) other =
        let same : q ≡ p = one q p (one_best rows order d (Some n) false taken aside (Some q) (Some p) other.0 are.0) in
        blocked ds done (p ∷ taken) c rest (aside_more rows taken p aside) are.1 none cannot all (subst (λ k. AreShares rows n (k ∷ taken) (ds ++ c ∷ rest) all) same other.1)
    blocked (d ∷ ds) (TakesVolume p ∷ done) taken c rest aside are none cannot (IsProvisioned ∷ all) other = other.0 p are.0.volume are.0.candidate
    blocked (d ∷ ds) (IsProvisioned ∷ done) taken c rest aside are none cannot [] other = other
    blocked (d ∷ ds) (IsProvisioned ∷ done) taken c rest aside are none cannot (TakesVolume q ∷ all) other = are.0 q other.0.volume other.0.candidate
    blocked (d ∷ ds) (IsProvisioned ∷ done) taken c rest aside are none cannot (IsProvisioned ∷ all) other = blocked ds done taken c rest aside are.2 none cannot all other.2

    -- where nothing serves the next one, the claims can have no shares
    pub not_shared : (cs : List ClaimData) (held : Held) → IsSharedOut rows n cs held → (c : ClaimData) (rest : List ClaimData) → IsUnserved rows n c held → HaveNoShares rows n (cs ++ c ∷ rest)
    not_shared cs held done c rest u all other =
        blocked cs done.shares (set_aside rows) c rest (set_aside_is rows) done.are
        (best_same rows c (Some n) false held.taken (taken_by (set_aside rows) done.shares) done.taken_are None u.none) u.cannot all other

    -- there is one way to share
    pub one_sharing : (cs : List ClaimData) (taken : List ℕ) (a b : List Share) → AreSetAside rows taken → AreShares rows n taken cs a → AreShares rows n taken cs b → a ≡ b
    one_sharing [] taken [] [] aside are others = refl
    one_sharing [] taken (TakesVolume p ∷ a) b aside are others = absurd are
    one_sharing [] taken (IsProvisioned ∷ a) b aside are others = absurd are
    one_sharing [] taken [] (TakesVolume p ∷ b) aside are others = absurd others
    one_sharing [] taken [] (IsProvisioned ∷ b) aside are others = absurd others
    one_sharing (c ∷ cs) taken [] b aside are others = absurd are
    one_sharing (c ∷ cs) taken (TakesVolume p ∷ a) [] aside are others = absurd others
    one_sharing (c ∷ cs) taken (IsProvisioned ∷ a) [] aside are others = absurd others
    one_sharing (c ∷ cs) taken (TakesVolume p ∷ a) (TakesVolume q ∷ b) aside are others =
        let same : q ≡ p = one q p (one_best rows order c (Some n) false taken aside (Some q) (Some p) others.0 are.0) in
        let rest = one_sharing cs (p ∷ taken) a b (aside_more rows taken p aside) are.1 (subst (λ k. AreShares rows n (k ∷ taken) cs b) same others.1) in
        ap (λ s. TakesVolume p ∷ s) rest ∙ ap (λ k. TakesVolume k ∷ b) (sym same)
    one_sharing (c ∷ cs) taken (TakesVolume p ∷ a) (IsProvisioned ∷ b) aside are others = absurd (others.0 p are.0.volume are.0.candidate)
    one_sharing (c ∷ cs) taken (IsProvisioned ∷ a) (TakesVolume q ∷ b) aside are others = absurd (are.0 q others.0.volume others.0.candidate)
    one_sharing (c ∷ cs) taken (IsProvisioned ∷ a) (IsProvisioned ∷ b) aside are others = ap (λ s. IsProvisioned ∷ s) (one_sharing cs taken a b aside are.2 others.2)
