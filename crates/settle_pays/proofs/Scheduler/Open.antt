-- The claims for which a node is sought seek a volume, and are known; which of them get the node alone.
use Rattle.std.proofs.Common.{◌≡◌, ℕ, List, [], ◌∷◌, Bool, true, false, true≢false, Option, Some, None, refl, sym, ap, if◌then◌else◌}
use Rattle.std.specs.Prelude.{◌&&◌, ◌||◌, cond, filter, map, not}
use Rattle.std.specs.List.{cons_option, filter_map, list_any}
use Rattle.std.specs.Ordering.{is_gt}
use Rattle.std.proofs.lemmas.Bool.{and_parts, or_parts}
use Rattle.kube_objects.specs.declared.objects.Claim.{Claim as ClaimData}
use Rattle.kube_objects.specs.declared.objects.Pod.{Pod as PodData}
use Rattle.kube_objects.specs.declared.objects.Object.{Object}
use Rattle.kube_objects.specs.declared.objects.Object.TheVariants.{Claim}
use Rattle.kube_objects.specs.Bindings.{class_of_claim, is_completed, is_deleting, is_empty}
use Rattle.kube_objects.specs.Keys.{key_of, row_at}
use Rattle.binder_model.specs.Choice.{IsProvisioned, Share, TakesVolume, by_size, claim_cmp, claim_named, claims_of, has_carrier, insert_claim, is_missing, is_other, is_served_elsewhere, lacks_claim}
use Rattle.binder_model.specs.Matching.{is_delayed}
use Rattle.binder_model.specs.ObjectKeys.{class_key}
use Rattle.delayed_binding.specs.Choices.{others_in, provisions_of}
use Rattle.delayed_binding.proofs.Known.{AreApart, Differ, Each}
use Rattle.settle_measure.specs.Left.Measure.{is_seeking}

-- what holds of each claim of a pod that is not fixed

each_inserted : (P : ClaimData → Type 0) (c : ClaimData) (ds : List ClaimData) → P c → Each P ds → Each P (insert_claim c ds)
each_inserted P c [] p each = (p, tt)
each_inserted P c (d ∷ ds) p each = by (is_gt (claim_cmp c d)) (each_inserted P c ds p each.1)
  where
    by : (b : Bool) → Each P (insert_claim c ds) → Each P (if b then d ∷ insert_claim c ds else c ∷ d ∷ ds)
    by true rest = (each.0, rest)
    by false rest = (p, each)

each_by_size : (P : ClaimData → Type 0) (cs : List ClaimData) → Each P cs → Each P (by_size cs)
each_by_size P [] each = tt
each_by_size P (c ∷ cs) each = each_inserted P c (by_size cs) each.0 (each_by_size P cs each.1)

each_chosen : (P Q : ClaimData → Type 0) (rows : List Object) → ((c : ClaimData) → is_other rows c ≡ true → P c → Q c) → (cs : List ClaimData) → Each P cs → Each Q (filter (is_other rows) cs)
each_chosen P Q rows q [] each = tt
each_chosen P Q rows q (c ∷ cs) each = by (is_other rows c) refl (each_chosen P Q rows q cs each.1)
  where
    by : (b : Bool) → is_other rows c ≡ b → Each Q (filter (is_other rows) cs) → Each Q (cond b (c ∷ filter (is_other rows) cs) (filter (is_other rows) cs))
    by true e rest = (q c e each.0, rest)
    by false e rest = rest

-- a claim of a pod that lacks none stays, and one that is served by the scheduler names no volume

record IsHere (rows : List Object) (c : ClaimData) : Type 0 where
  staying : is_deleting c.meta ≡ false
  here : is_served_elsewhere rows c ≡ false

each_here : (rows : List Object) (namespace : List ℕ) (names : List (List ℕ))
    → list_any (λ name. is_missing (claim_named rows namespace name)) names ≡ false → list_any (is_served_elsewhere rows) (filter_map (claim_named rows namespace) names) ≡ false
    → Each (IsHere rows) (filter_map (claim_named rows namespace) names)
each_here rows namespace [] whole here = tt
each_here rows namespace (name ∷ names) whole here = by (claim_named rows namespace name) whole here (each_here rows namespace names)
  where
    by : (o : Option ClaimData) → (is_missing o || list_any (λ x. is_missing (claim_named rows namespace x)) names) ≡ false
        → list_any (is_served_elsewhere rows) (cons_option o (filter_map (claim_named rows namespace) names)) ≡ false
        → (list_any (λ x. is_missing (claim_named rows namespace x)) names ≡ false
        → list_any (is_served_elsewhere rows) (filter_map (claim_named rows namespace) names) ≡ false → Each (IsHere rows) (filter_map (claim_named rows namespace) names))
        → Each (IsHere rows) (cons_option o (filter_map (claim_named rows namespace) names))
    by None w h rest = absurd (true≢false w)
    by (Some c) w h rest =
        let a = or_parts (is_deleting c.meta) (list_any (λ x. is_missing (claim_named rows namespace x)) names) w in
        let b = or_parts (is_served_elsewhere rows c) (list_any (is_served_elsewhere rows) (filter_map (claim_named rows namespace) names)) h in
        (record { staying = a.0; here = b.0 }, rest a.1 b.1)

seeks_of : (rows : List Object) (c : ClaimData) → is_other rows c ≡ true → IsHere rows c → is_seeking c ≡ true
seeks_of rows c other here = by (is_completed c) (is_deleting c.meta) (is_empty c.volume_name) (and_parts (not (is_completed c)) (not (has_carrier rows c)) other).0 here.staying here.here
  where
    by : (done deleting empty : Bool) → not done ≡ true → deleting ≡ false
        → (not done && (not empty || not (is_delayed (row_at (class_key (class_of_claim c)) rows)))) ≡ false → (not done && not deleting && empty) ≡ true
    by true deleting empty o s h = absurd (true≢false (sym o))
    by false true empty o s h = absurd (true≢false s)
    by false false true o s h = refl
    by false false false o s h = absurd (true≢false h)

pub others_seek : (rows : List Object) (p : PodData) → lacks_claim rows p ≡ false → list_any (is_served_elsewhere rows) (claims_of rows p) ≡ false
    → Each (λ c. is_seeking c ≡ true) (others_in rows (claims_of rows p))
others_seek rows p whole here =
    each_by_size (λ c. is_seeking c ≡ true) (filter (is_other rows) (claims_of rows p))
    (each_chosen (IsHere rows) (λ c. is_seeking c ≡ true) rows (seeks_of rows) (claims_of rows p) (each_here rows p.meta.namespace p.claims whole here))

-- the claims that get the node alone

abbrev pub placed_of : List ClaimData → List Share → List ClaimData
placed_of (c ∷ cs) (TakesVolume place ∷ shares) = placed_of cs shares
placed_of (c ∷ cs) (IsProvisioned ∷ shares) = c ∷ placed_of cs shares
placed_of _ _ = []

pub provisions_are : (cs : List ClaimData) (shares : List Share) → provisions_of cs shares ≡ map (λ c. key_of (Claim c)) (placed_of cs shares)
provisions_are [] shares = refl
provisions_are (c ∷ cs) [] = refl
provisions_are (c ∷ cs) (TakesVolume place ∷ shares) = provisions_are cs shares
provisions_are (c ∷ cs) (IsProvisioned ∷ shares) = ap (λ ks. key_of (Claim c) ∷ ks) (provisions_are cs shares)

pub each_placed : (P : ClaimData → Type 0) (cs : List ClaimData) (shares : List Share) → Each P cs → Each P (placed_of cs shares)
each_placed P [] shares each = tt
each_placed P (c ∷ cs) [] each = tt
each_placed P (c ∷ cs) (TakesVolume place ∷ shares) each = each_placed P cs shares each.1
each_placed P (c ∷ cs) (IsProvisioned ∷ shares) each = (each.0, each_placed P cs shares each.1)

pub placed_apart : (cs : List ClaimData) (shares : List Share) → AreApart cs → AreApart (placed_of cs shares)
placed_apart [] shares apart = tt
placed_apart (c ∷ cs) [] apart = tt
placed_apart (c ∷ cs) (TakesVolume place ∷ shares) apart = placed_apart cs shares apart.1
placed_apart (c ∷ cs) (IsProvisioned ∷ shares) apart = (each_placed (Differ c) cs shares apart.0, placed_apart cs shares apart.1)
