-- The choice by scans that compute, and that what they find is the choice: so examples are computed.
use Rattle.std.proofs.Common.{ℕ, zero, suc, ◌≡◌, ◌<◌, ◌+◌, ◌∙◌, Bool, true, false, true≢false, ◌&&◌, List, [], ◌∷◌, length, Option, Some, None, refl, sym, ap, subst, arith, if◌then◌else◌}
use Rattle.std.specs.Prelude.{is_some, slice_get}
use Rattle.std.specs.List.{list_all}
use Rattle.std.specs.Bool.{beq}
use Rattle.std.specs.declared.cmp.Ordering.{Ordering}
use Rattle.std.specs.declared.cmp.Ordering.TheVariants.{Less, Equal, Greater}
use Rattle.std.proofs.lemmas.Bool.{and_from}
use Rattle.kube_parts.specs.declared.parts.Kind.TheVariants as kinds
use Rattle.kube_objects.specs.declared.objects.Claim.{Claim as ClaimData}
use Rattle.kube_objects.specs.declared.objects.Node.{Node as NodeData}
use Rattle.kube_objects.specs.declared.objects.Pod.{Pod as PodData}
use Rattle.kube_objects.specs.declared.objects.Volume.{Volume as VolumeData}
use Rattle.kube_objects.specs.declared.objects.Object.{Object}
use Rattle.kube_objects.specs.Keys.{AreRows, key_cmp, key_of, rows_of}
use Rattle.plain_data.specs.Rows.{IsAfter}
use Rattle.binder_model.specs.Choice.{AreShares, IsProvisioned, Share, TakesVolume, can_provision, claims_of, fixed_admit, volume_admits}
use Rattle.binder_model.specs.Matching.{IsBest}
use Rattle.volume_match.specs.Steps.Scan.{IsBestBelow, is_open, is_preferred}
use Rattle.volume_match.specs.Volumes.{volume_at}
use Rattle.volume_match.proofs.Scans.{absent, closed, kept, open_candidate, passed_over, taken, whole}
use Rattle.model_laws.proofs.Lists.{none_some, one}
use Rattle.delayed_binding.specs.declared.choice.Choice.{Choice}
use Rattle.delayed_binding.specs.declared.choice.Choice.TheVariants.{Assign, Prepare, Wait, NoNode}
use Rattle.delayed_binding.specs.Choices.{
  AreAdmitted,
  IsChoice,
  IsChoiceAt,
  IsCompleted,
  IsPreparedOn,
  IsSearching,
  IsServedElsewhere,
  IsUnderWay,
  LacksClaim,
  ServesClaims,
  ServesAll,
  Stage,
  binds_of,
  is_past,
  others_in,
  provisions_of,
  set_aside,
  stage_of,
}
use Rattle.delayed_binding.specs.Steps.Scans.{IsFirstInTurn, ServesInTurn, as_node}
use Rattle.delayed_binding.proofs.Bests.{AreSetAside, aside_more, one_best, set_aside_is}
use Rattle.delayed_binding.proofs.Rounds.{first_turn, found_first, no_turn, none_found, second_turn}
use Rattle.delayed_binding.proofs.Unique.{choices_are_unique}

-- rows in order

abbrev is_less : Ordering → Bool
is_less Less = true
is_less o = false

abbrev is_after : Object → List Object → Bool
is_after x [] = true
is_after x (y ∷ ys) = is_less (key_cmp (key_of x) (key_of y)) && is_after x ys

abbrev pub is_rising : List Object → Bool
is_rising [] = true
is_rising (x ∷ xs) = is_after x xs && is_rising xs

and_left : (a b : Bool) → (a && b) ≡ true → a ≡ true
and_left true b h = refl
and_left false b h = h

and_right : (a b : Bool) → (a && b) ≡ true → b ≡ true
and_right true b h = h
and_right false b h = absurd (true≢false (sym h))

less_is : (o : Ordering) → is_less o ≡ true → o ≡ Less
less_is Less h = refl
less_is Equal h = absurd (true≢false (sym h))
less_is Greater h = absurd (true≢false (sym h))

after_is : (x : Object) (xs : List Object) → is_after x xs ≡ true → IsAfter key_cmp key_of x xs
after_is x [] h = tt
after_is x (y ∷ ys) h = (
  less_is (key_cmp (key_of x) (key_of y)) (and_left (is_less (key_cmp (key_of x) (key_of y))) (is_after x ys) h),
  after_is x
      ys (and_right (is_less (key_cmp (key_of x) (key_of y))) (is_after x ys) h),
)

pub rising_is : (xs : List Object) → is_rising xs ≡ true → AreRows xs
rising_is [] h = tt
rising_is (x ∷ xs) h = (after_is x xs (and_left (is_after x xs) (is_rising xs) h), rising_is xs (and_right (is_after x xs) (is_rising xs) h))

-- the best volume

abbrev better : List Object → ClaimData → NodeData → List ℕ → ℕ → Option VolumeData → Option ℕ → Option ℕ
better rows c n out place None before = before
better rows c n out place (Some v) before = if is_open c (Some n) false out place v then (if is_preferred rows c v before then Some place else before) else before

abbrev best_below : List Object → ClaimData → NodeData → List ℕ → ℕ → Option ℕ
best_below rows c n out zero = None
best_below rows c n out (suc place) = better rows c n out place (volume_at rows place) (best_below rows c n out place)

abbrev best_of : List Object → ClaimData → NodeData → List ℕ → Option ℕ
best_of rows c n out = best_below rows c n out (length (rows_of kinds.PersistentVolume rows))

module _ (rows : List Object) (c : ClaimData) (n : NodeData) (out : List ℕ) where
  better_is : (place : ℕ) (o : Option VolumeData) (before : Option ℕ) → volume_at rows place ≡ o → IsBestBelow rows c (Some n) false out place before
      → IsBestBelow rows c (Some n) false out (place + 1) (better rows c n out place o before)
  better_is place None before there h = passed_over rows c (Some n) false out place before (absent rows c (Some n) false out place there) h
  better_is place (Some v) before there h = by (is_open c (Some n) false out place v) (is_preferred rows c v before) refl refl
    where
      by : (opened preferred : Bool) → is_open c (Some n) false out place v ≡ opened → is_preferred rows c v before ≡ preferred
          → IsBestBelow rows c (Some n) false out (place + 1) (if opened then (if preferred then Some place else before) else before)
      by true true k p = taken rows c (Some n) false out place before v (open_candidate rows c (Some n) false out place v there k) p h
      by true false k p = kept rows c (Some n) false out place before v there p h
      by false preferred k p = passed_over rows c (Some n) false out place before (closed rows c (Some n) false out place v there k) h

  below_is : (bound : ℕ) → IsBestBelow rows c (Some n) false out bound (best_below rows c n out bound)
  below_is zero = λ place lt v k. absurd (omega (arith, lt))
  below_is (suc place) = subst (λ bound. IsBestBelow rows c (Some n) false out bound (best_below rows c n out (suc place))) (next place) (better_is
      place (volume_at rows place) (best_below rows c n out place) refl (below_is place))
    where
      next : (k : ℕ) → k + 1 ≡ suc k
      next k = omega arith

  best_is : IsBest rows c (Some n) false out (best_of rows c n out)
  best_is = whole rows c (Some n) false out (length (rows_of kinds.PersistentVolume rows)) (best_of rows c n out) refl (below_is (length (rows_of kinds.PersistentVolume rows)))

-- shares

abbrev with_share : Share → Option (List Share) → Option (List Share)
with_share s None = None
with_share s (Some shares) = Some (s ∷ shares)

abbrev share_by : List Object → ClaimData → List ℕ → Option ℕ → (List ℕ → Option (List Share)) → Option (List Share)
share_by rows c out (Some place) rest = with_share (TakesVolume place) (rest (place ∷ out))
share_by rows c out None rest = if can_provision rows c then with_share IsProvisioned (rest out) else None

abbrev shares_of : List Object → NodeData → List ℕ → List ClaimData → Option (List Share)
shares_of rows n out [] = Some []
shares_of rows n out (c ∷ cs) = share_by rows c out (best_of rows c n out) (λ taken. shares_of rows n taken cs)

-- a first share, and the others
record IsWith (s : Share) (o : Option (List Share)) (shares : List Share) : Type 0 where
  rest : List Share
  is : o ≡ Some rest
  whole : s ∷ rest ≡ shares

with_is : (s : Share) (o : Option (List Share)) (shares : List Share) → with_share s o ≡ Some shares → IsWith s o shares
with_is s None shares h = none_some h
with_is s (Some rest) shares h = record { rest = rest; is = refl; whole = one (s ∷ rest) shares h }

with_none : (s : Share) (o : Option (List Share)) → with_share s o ≡ None → o ≡ None
with_none s None h = refl
with_none s (Some rest) h = none_some (sym h)

module _ (rows : List Object) (n : NodeData) where
  some_are : (cs : List ClaimData) (out : List ℕ) (shares : List Share) → shares_of rows n out cs ≡ Some shares → AreShares rows n out cs shares
  some_are [] out shares h = subst (AreShares rows n out []) (one [] shares h) tt
  some_are (c ∷ cs) out shares h = by (best_of rows c n out) (best_is rows c n out) h (some_are cs)
    where
      provided : (b : Bool) → can_provision rows c ≡ b → IsBest rows c (Some n) false out None
          → (if b then with_share IsProvisioned (shares_of rows n out cs) else None) ≡ Some shares
          → ((out : List ℕ) (shares : List Share) → shares_of rows n out cs ≡ Some shares → AreShares rows n out cs shares) → AreShares rows n out (c ∷ cs) shares
      provided true can none h rest =
          let w = with_is IsProvisioned (shares_of rows n out cs) shares h in
          subst (AreShares rows n out (c ∷ cs)) w.whole (none, can, rest out w.rest w.is)
      provided false can none h rest = none_some h

      by : (o : Option ℕ) → IsBest rows c (Some n) false out o → share_by rows c out o (λ taken. shares_of rows n taken cs) ≡ Some shares
          → ((out : List ℕ) (shares : List Share) → shares_of rows n out cs ≡ Some shares → AreShares rows n out cs shares) → AreShares rows n out (c ∷ cs) shares
      by (Some place) best h rest =
          let w = with_is (TakesVolume place) (shares_of rows n (place ∷ out) cs) shares h in
          subst (AreShares rows n out (c ∷ cs)) w.whole (best, rest (place ∷ out) w.rest w.is)
      by None none h rest = provided (can_provision rows c) refl none h rest

  module _ (order : AreRows rows) where
    none_are : (cs : List ClaimData) (out : List ℕ) → AreSetAside rows out → shares_of rows n out cs ≡ None → (shares : List Share) → AreShares rows n out cs shares → ⊥
    none_are [] out aside h shares are = none_some (sym h)
    none_are (c ∷ cs) out aside h shares are = by (best_of rows c n out) (best_is rows c n out) h shares are (λ taken kept e all these. none_are cs taken kept e all these)
      where
        provided : (b : Bool) → can_provision rows c ≡ b → (if b then with_share IsProvisioned (shares_of rows n out cs) else None) ≡ None
            → (shares : List Share) → IsBest rows c (Some n) false out None → AreShares rows n out (c ∷ cs) shares
            → ((taken : List ℕ) → AreSetAside rows taken → shares_of rows n taken cs ≡ None → (all : List Share) → AreShares rows n taken cs all → ⊥) → ⊥
        provided b can h [] none are rest = are
        provided b can h (TakesVolume q ∷ shares) none are rest = none q are.0.volume are.0.candidate
        provided true can h (IsProvisioned ∷ shares) none are rest = rest out aside (with_none IsProvisioned (shares_of rows n out cs) h) shares are.2
        provided false can h (IsProvisioned ∷ shares) none are rest = true≢false (sym are.1 ∙ can)

        by : (o : Option ℕ) → IsBest rows c (Some n) false out o → share_by rows c out o (λ taken. shares_of rows n taken cs) ≡ None → (shares : List Share) → AreShares rows n out (c ∷ cs) shares
            → ((taken : List ℕ) → AreSetAside rows taken → shares_of rows n taken cs ≡ None → (all : List Share) → AreShares rows n taken cs all → ⊥) → ⊥
        by (Some place) best h [] are rest = are
        by (Some place) best h (TakesVolume q ∷ shares) are rest =
            let same : q ≡ place = one q place (one_best rows order c (Some n) false out aside (Some q) (Some place) are.0 best) in
            rest (place ∷ out) (aside_more rows out place aside) (with_none (TakesVolume place) (shares_of rows n (place ∷ out) cs) h) shares
            (subst (λ k. AreShares rows n (k ∷ out) cs shares) same are.1)
        by (Some place) best h (IsProvisioned ∷ shares) are rest = are.0 place best.volume best.candidate
        by None none h shares are rest = provided (can_provision rows c) refl h shares none are rest

-- whether a node serves

abbrev serving : List Object → List ClaimData → NodeData → Option (List Share)
serving rows claims n = if list_all (fixed_admit rows n) claims then shares_of rows n (set_aside rows) (others_in rows claims) else None

abbrev serves : List Object → List ClaimData → NodeData → Bool
serves rows claims n = is_some (serving rows claims n)

module _ (rows : List Object) (order : AreRows rows) (claims : List ClaimData) (n : NodeData) where
  serving_is : (shares : List Share) → serving rows claims n ≡ Some shares → ServesAll rows claims n shares
  serving_is shares = by (list_all (fixed_admit rows n) claims) refl
    where
      by : (b : Bool) → list_all (fixed_admit rows n) claims ≡ b → (if b then shares_of rows n (set_aside rows) (others_in rows claims) else None) ≡ Some shares → ServesAll rows claims n shares
      by true fixed h = record { fixed = fixed; shared = some_are rows n (others_in rows claims) (set_aside rows) shares h }
      by false fixed h = none_some h

  not_serving : serves rows claims n ≡ false → ServesClaims rows claims n → ⊥
  not_serving h s = by (list_all (fixed_admit rows n) claims) refl h
    where
      none_of : (o : Option (List Share)) → is_some o ≡ false → o ≡ None
      none_of None h = refl
      none_of (Some x) h = absurd (true≢false h)

      by : (b : Bool) → list_all (fixed_admit rows n) claims ≡ b → is_some (if b then shares_of rows n (set_aside rows) (others_in rows claims) else None) ≡ false → ⊥
      by true fixed h = none_are rows n order (others_in rows claims) (set_aside rows) (set_aside_is rows) (none_of (shares_of rows n (set_aside rows) (others_in rows claims)) h) s.0 s.1.shared
      by false fixed h = true≢false (sym s.1.fixed ∙ fixed)

-- what would be prepared there

abbrev pub prepared_there : List Object → List ClaimData → NodeData → Option (List Share) → Option Choice
prepared_there rows claims n None = None
prepared_there rows claims n (Some shares) = Some (Prepare n.meta.name (binds_of rows (others_in rows claims) shares) (provisions_of (others_in rows claims) shares))

pub there_is : (rows : List Object) (claims : List ClaimData) (n : NodeData) (found : Option Choice) → is_rising rows ≡ true
    → prepared_there rows claims n (serving rows claims n) ≡ found → IsPreparedOn rows claims n found
there_is rows claims n found rising is = subst (IsPreparedOn rows claims n) is (by (serving rows claims n) refl)
  where
    by : (o : Option (List Share)) → serving rows claims n ≡ o → IsPreparedOn rows claims n (prepared_there rows claims n o)
    by None e = not_serving rows (rising_is rows rising) claims n (ap is_some e)
    by (Some shares) e = (refl, record { shares = shares; serves = serving_is rows (rising_is rows rising) claims n shares e; binds_are = refl; provisions_are = refl })

-- the first node that passes a test

abbrev node_if : (NodeData → Bool) → Option NodeData → Option NodeData → Option NodeData
node_if test None rest = rest
node_if test (Some n) rest = if test n then Some n else rest

abbrev first_in : (NodeData → Bool) → List Object → Option NodeData
first_in test [] = None
first_in test (o ∷ os) = node_if test (as_node (Some o)) (first_in test os)

record IsFound (test : NodeData → Bool) (os : List Object) (n : NodeData) : Type 0 where
  place : ℕ
  there : as_node (slice_get os place) ≡ Some n
  passes : test n ≡ true
  first : (k : ℕ) → k < place → (m : NodeData) → as_node (slice_get os k) ≡ Some m → test m ≡ true → ⊥

abbrev HasNone : (NodeData → Bool) → List Object → Type 0
HasNone test os = (k : ℕ) (m : NodeData) → as_node (slice_get os k) ≡ Some m → test m ≡ true → ⊥

abbrev IsFirstIn : (NodeData → Bool) → List Object → Option NodeData → Type 0
IsFirstIn test os None = HasNone test os
IsFirstIn test os (Some n) = IsFound test os n

later : (test : NodeData → Bool) (o : Object) (os : List Object) (found : Option NodeData)
    → ((m : NodeData) → as_node (Some o) ≡ Some m → test m ≡ true → ⊥) → IsFirstIn test os found → IsFirstIn test (o ∷ os) found
later test o os None none h = all
  where
    all : HasNone test (o ∷ os)
    all zero m at pass = none m at pass
    all (suc k) m at pass = h k m at pass
later test o os (Some n) none f = record { place = suc f.place; there = f.there; passes = f.passes; first = first }
  where
    first : (k : ℕ) → k < suc f.place → (m : NodeData) → as_node (slice_get (o ∷ os) k) ≡ Some m → test m ≡ true → ⊥
    first zero lt m at pass = none m at pass
    first (suc k) lt m at pass = f.first k (omega (arith, lt)) m at pass

first_is : (test : NodeData → Bool) (os : List Object) → IsFirstIn test os (first_in test os)
first_is test [] = λ k m at pass. none_some at
first_is test (o ∷ os) = by (as_node (Some o)) refl (first_is test os)
  where
    tested : (b : Bool) (n : NodeData) → test n ≡ b → as_node (Some o) ≡ Some n → IsFirstIn test os (first_in test os) → IsFirstIn test (o ∷ os) (if b then Some n else first_in test os)
    tested true n pass at rest = record { place = 0; there = at; passes = pass; first = λ k lt. absurd (omega (arith, lt)) }
    tested false n pass at rest = later test o os (first_in test os) (λ m is p. true≢false (sym p ∙ ap test (one m n (sym is ∙ at)) ∙ pass)) rest

    by : (x : Option NodeData) → as_node (Some o) ≡ x → IsFirstIn test os (first_in test os) → IsFirstIn test (o ∷ os) (node_if test x (first_in test os))
    by None at rest = later test o os (first_in test os) (λ m is p. none_some (sym at ∙ is)) rest
    by (Some n) at rest = tested (test n) n refl at rest

-- the choice

abbrev assigned_to : Option NodeData → Choice
assigned_to None = NoNode
assigned_to (Some n) = Assign n.meta.name

abbrev prepared_by : List Object → List ClaimData → NodeData → Option (List Share) → Choice
prepared_by rows claims n None = NoNode
prepared_by rows claims n (Some shares) = Prepare n.meta.name (binds_of rows (others_in rows claims) shares) (provisions_of (others_in rows claims) shares)

abbrev prepared_on : List Object → List ClaimData → Option NodeData → Option NodeData → Choice
prepared_on rows claims (Some n) second = prepared_by rows claims n (serving rows claims n)
prepared_on rows claims None (Some n) = prepared_by rows claims n (serving rows claims n)
prepared_on rows claims None None = NoNode

abbrev in_turn_serves : List Object → List ClaimData → Option (List ℕ) → Bool → NodeData → Bool
in_turn_serves rows claims last past n = beq (is_past last n) past && serves rows claims n

abbrev first_serving : List Object → List ClaimData → Option (List ℕ) → Bool → Option NodeData
first_serving rows claims last past = first_in (in_turn_serves rows claims last past) (rows_of kinds.Node rows)

abbrev chosen_at : Stage → List Object → List ClaimData → Option (List ℕ) → Choice
chosen_at LacksClaim rows claims last = NoNode
chosen_at IsCompleted rows claims last = assigned_to (first_in (λ n. list_all (volume_admits rows n) claims) (rows_of kinds.Node rows))
chosen_at IsServedElsewhere rows claims last = Wait
chosen_at IsUnderWay rows claims last = Wait
chosen_at IsSearching rows claims last = prepared_on rows claims (first_serving rows claims last true) (first_serving rows claims last false)

abbrev pub chosen : List Object → PodData → Option (List ℕ) → Choice
chosen rows p last = chosen_at (stage_of rows p) rows (claims_of rows p) last

beq_true : (a b : Bool) → beq a b ≡ true → a ≡ b
beq_true true true h = refl
beq_true true false h = absurd (true≢false (sym h))
beq_true false true h = absurd (true≢false (sym h))
beq_true false false h = refl

beq_itself : (a b : Bool) → a ≡ b → beq a b ≡ true
beq_itself true true h = refl
beq_itself false false h = refl
beq_itself true false h = absurd (true≢false h)
beq_itself false true h = absurd (true≢false (sym h))

module _ (rows : List Object) (order : AreRows rows) (claims : List ClaimData) (last : Option (List ℕ)) where
  assigned_is : (found : Option NodeData) → IsFirstIn (λ n. list_all (volume_admits rows n) claims) (rows_of kinds.Node rows) found → IsChoiceAt IsCompleted rows claims last (assigned_to found)
  assigned_is None none = none_found rows order (AreAdmitted rows claims) (length (rows_of kinds.Node rows)) refl (λ k lt m at holds. none k m at holds)
  assigned_is (Some n) f = record { node = n; named = refl; first = found_first rows order (AreAdmitted rows claims) f.place n f.there f.passes f.first }

  no_serving : (n : NodeData) (past : Bool) → ServesInTurn rows claims last past n → in_turn_serves rows claims last past n ≡ true
  no_serving n past s = and_from (beq (is_past last n) past) (serves rows claims n) (beq_itself (is_past last n) past s.turn) (by (serves rows claims n) refl)
    where
      by : (b : Bool) → serves rows claims n ≡ b → b ≡ true
      by true h = refl
      by false h = absurd (not_serving rows order claims n h s.serves)

  turn_none : (past : Bool) → HasNone (in_turn_serves rows claims last past) (rows_of kinds.Node rows) → IsFirstInTurn rows claims last past None
  turn_none past none = none_found rows order (ServesInTurn rows claims last past) (length (rows_of kinds.Node rows)) refl (λ k lt m at s. none k m at (no_serving m past s))

  turn_some : (past : Bool) (n : NodeData) (o : Option (List Share)) → serving rows claims n ≡ o
      → IsFound (in_turn_serves rows claims last past) (rows_of kinds.Node rows) n → IsFirstInTurn rows claims last past (Some (prepared_by rows claims n o))
  turn_some past n None is f = absurd (true≢false (sym (sym (ap is_some is) ∙ and_right (beq (is_past last n) past) (serves rows claims n) f.passes)))
  turn_some past n (Some shares) is f = record {
    place = f.place;
    node = n;
    there = f.there;
    turn = beq_true (is_past last n) past (and_left (beq (is_past last n) past) (serves rows claims n) f.passes);
    preparing = (refl, record { shares = shares; serves = serving_is rows order claims n shares is; binds_are = refl; provisions_are = refl });
    first = λ k lt m at s. f.first k lt m at (no_serving m past s);
  }

  prepared_is : (first second : Option NodeData) → IsFirstIn (in_turn_serves rows claims last true) (rows_of kinds.Node rows) first
      → IsFirstIn (in_turn_serves rows claims last false) (rows_of kinds.Node rows) second → IsChoiceAt IsSearching rows claims last (prepared_on rows claims first second)
  prepared_is (Some n) second f g = first_turn rows claims last order (prepared_by rows claims n (serving rows claims n)) (turn_some true n (serving rows claims n) refl f)
  prepared_is None (Some n) f g = second_turn rows claims last order (prepared_by rows claims n (serving rows claims n)) (turn_none true f) (turn_some false n (serving rows claims n) refl g)
  prepared_is None None f g = no_turn rows claims last order (turn_none true f) (turn_none false g)

  at_stage : (stage : Stage) → IsChoiceAt stage rows claims last (chosen_at stage rows claims last)
  at_stage LacksClaim = refl
  at_stage IsCompleted = assigned_is (first_in (λ n. list_all (volume_admits rows n) claims) (rows_of kinds.Node rows)) (first_is
      (λ n. list_all (volume_admits rows n) claims) (rows_of kinds.Node rows))
  at_stage IsServedElsewhere = refl
  at_stage IsUnderWay = refl
  at_stage IsSearching = prepared_is (first_serving rows claims last true) (first_serving rows claims last false) (first_is
      (in_turn_serves rows claims last true) (rows_of kinds.Node rows)) (first_is (in_turn_serves rows claims last false) (rows_of kinds.Node rows))

chosen_is : (rows : List Object) (p : PodData) (last : Option (List ℕ)) → AreRows rows → IsChoice rows p last (chosen rows p last)
chosen_is rows p last order = at_stage rows order (claims_of rows p) last (stage_of rows p)

-- an example that holds, and one that must not

pub holds : (rows : List Object) (p : PodData) (last : Option (List ℕ)) (choice : Choice) → is_rising rows ≡ true → chosen rows p last ≡ choice → IsChoice rows p last choice
holds rows p last choice rising is = subst (IsChoice rows p last) is (chosen_is rows p last (rising_is rows rising))

pub fails : (rows : List Object) (p : PodData) (last : Option (List ℕ)) (choice : Choice) → is_rising rows ≡ true → (chosen rows p last ≡ choice → ⊥) → IsChoice rows p last choice → ⊥
fails rows p last choice rising differs f = differs (choices_are_unique rows p last (chosen rows p last) choice (rising_is rows rising) (chosen_is rows p last (rising_is rows rising)) f)
