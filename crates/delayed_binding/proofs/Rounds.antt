-- What a scan of the nodes finds is the first in the round.
use Rattle.std.proofs.Common.{
  ℕ,
  zero,
  suc,
  ◌≡◌,
  ◌≢◌,
  ◌<◌,
  ◌∙◌,
  Bool,
  true,
  false,
  true≢false,
  List,
  [],
  ◌∷◌,
  length,
  cond,
  filter,
  ◌⊎◌,
  Option,
  Some,
  None,
  inl,
  inr,
  refl,
  sym,
  ap,
  subst,
  arith,
  if◌then◌else◌,
}
use Rattle.std.specs.Prelude.{slice_get}
use Rattle.std.specs.Bool.{beq}
use Rattle.std.specs.declared.cmp.Ordering.{Ordering}
use Rattle.std.specs.declared.cmp.Ordering.TheVariants.{Less, Equal, Greater}
use Rattle.std.specs.Ordering.{MatchOrdering, is_gt, nat_cmp, ordering_then}
use Rattle.std.proofs.lemmas.Cmp.{nat_list_cmp_total, ranked, tied_itself}
use Rattle.std.proofs.lemmas.Option.{slice_get_within}
use Rattle.plain_data.specs.Pairs.{text_cmp}
use Rattle.plain_data.specs.Rows.{IsAfter, IsRising}
use Rattle.kube_objects.specs.declared.key.Key.{Key}
use Rattle.kube_parts.specs.declared.parts.Kind.TheVariants as kinds
use Rattle.kube_objects.specs.declared.objects.Claim.{Claim as ClaimData}
use Rattle.kube_objects.specs.declared.objects.Node.{Node as NodeData}
use Rattle.kube_objects.specs.declared.objects.Object.{Object}
use Rattle.kube_objects.specs.declared.objects.Object.TheVariants.{Class, Node, Volume, Claim, Pod}
use Rattle.kube_objects.specs.Bindings.{is_empty}
use Rattle.kube_objects.specs.Keys.{AreRows, is_of_kind, key_cmp, key_of, row_at, rows_of}
use Rattle.kube_objects.proofs.KeyOrder.{row_at_key}
use Rattle.kube_objects.proofs.RowPlaces.{place_of_row, row_at_place}
use Rattle.binder_model.specs.ObjectKeys.{node_key}
use Rattle.model_laws.proofs.Lists.{none_some, one}
use Rattle.delayed_binding.specs.declared.choice.Choice.{Choice}
use Rattle.delayed_binding.specs.declared.choice.Choice.TheVariants.{Assign, Prepare, Wait, NoNode}
use Rattle.delayed_binding.specs.Choices.{HasNoNode, IsChoiceAt, IsFirstNode, IsPreparing, IsSearching, IsThere, ServesClaims, is_past, round_cmp}
use Rattle.delayed_binding.specs.Steps.Scans.{IsFirstInTurn, IsFirstOrNone, IsFoundInTurn, NoneBelow, ServesInTurn, as_node, in_turn, node_at}

-- places of what is chosen from rows in order rise with the keys

module _ {K X : Type 0} (cmp : K → K → Ordering) (key : X → K) (p : X → Bool) where
  after_at : (y x : X) (xs : List X) (i : ℕ) → IsAfter cmp key y xs → slice_get (filter p xs) i ≡ Some x → cmp (key y) (key x) ≡ Less
  after_at y x [] i a h = none_some h
  after_at y x (z ∷ zs) i a h = by (p z) i h (λ j. after_at y x zs j a.1)
    where
      by : (b : Bool) (i : ℕ) → slice_get (cond b (z ∷ filter p zs) (filter p zs)) i ≡ Some x → ((j : ℕ) → slice_get (filter p zs) j ≡ Some x → cmp (key y) (key x) ≡ Less) → cmp (key y) (key x) ≡ Less
      by true zero h rest = subst (λ w. cmp (key y) (key w) ≡ Less) (one z x h) a.0
      by true (suc i) h rest = rest i h
      by false i h rest = rest i h

  pub places_rise : (x y : X) (xs : List X) (i j : ℕ) → IsRising cmp key xs → i < j → slice_get (filter p xs) i ≡ Some x → slice_get (filter p xs) j ≡ Some y → cmp (key x) (key y) ≡ Less
  places_rise x y [] i j r lt h k = none_some h
  places_rise x y (z ∷ zs) i j r lt h k = by (p z) i j lt h k (λ a b. places_rise x y zs a b r.1) (λ b. after_at z y zs b r.0)
    where
      by : (b : Bool) (i j : ℕ) → i < j → slice_get (cond b (z ∷ filter p zs) (filter p zs)) i ≡ Some x → slice_get (cond b (z ∷ filter p zs) (filter p zs)) j ≡ Some y
          → ((a b : ℕ) → a < b → slice_get (filter p zs) a ≡ Some x → slice_get (filter p zs) b ≡ Some y → cmp (key x) (key y) ≡ Less)
          → ((b : ℕ) → slice_get (filter p zs) b ≡ Some y → cmp (key z) (key y) ≡ Less)
          → cmp (key x) (key y) ≡ Less
      by true i zero lt h k rest front = absurd (omega (arith, lt))
      by true zero (suc j) lt h k rest front = subst (λ w. cmp (key w) (key y) ≡ Less) (one z x h) (front j k)
      by true (suc i) (suc j) lt h k rest front = rest i j (omega (arith, lt)) h k
      by false i j lt h k rest front = rest i j lt h k

-- the nodes of the look-up, and their places

pub empty_is : (xs : List ℕ) → is_empty xs ≡ true → xs ≡ []
empty_is [] e = refl
empty_is (x ∷ xs) e = absurd (true≢false (sym e))

pub record SeenNode (n : NodeData) (o : Option Object) : Type 0 where
  pub is : o ≡ Some (Node n)
  pub plain : n.meta.namespace ≡ []

pub seen_node : (o : Option Object) (n : NodeData) → as_node o ≡ Some n → SeenNode n o
seen_node None n e = none_some e
seen_node (Some (Class x)) n e = none_some e
seen_node (Some (Volume x)) n e = none_some e
seen_node (Some (Claim x)) n e = none_some e
seen_node (Some (Pod x)) n e = none_some e
seen_node (Some (Node x)) n e = by (is_empty x.meta.namespace) refl e
  where
    by : (b : Bool) → is_empty x.meta.namespace ≡ b → (if b then Some x else None) ≡ Some n → SeenNode n (Some (Node x))
    by false h e = none_some e
    by true h e =
        let same = one x n e in
        record { is = ap (λ y. Some (Node y)) same; plain = subst (λ (y : NodeData). y.meta.namespace ≡ []) same (empty_is x.meta.namespace h) }

pub as_node_plain : (n : NodeData) → n.meta.namespace ≡ [] → as_node (Some (Node n)) ≡ Some n
as_node_plain n e = ap (λ (s : List ℕ). if is_empty s then Some n else None) e

module _ (rows : List Object) (order : AreRows rows) where
  -- the key of a node that stands in no namespace
  plain_key : (n : NodeData) → n.meta.namespace ≡ [] → key_of (Node n) ≡ node_key n.meta.name
  plain_key n e = ap (λ (s : List ℕ). record { kind = kinds.Node; namespace = s; name = n.meta.name }) e

  pub node_there : (place : ℕ) (n : NodeData) → node_at rows place ≡ Some n → IsThere rows n
  node_there place n e =
      let seen = seen_node (slice_get (rows_of kinds.Node rows) place) n e in
      subst (λ k. row_at k rows ≡ Some (Node n)) (plain_key n seen.plain) (row_at_place kinds.Node place (Node n) rows order seen.is)

  -- a node of the look-up stands in no namespace
  pub there_plain : (n : NodeData) → IsThere rows n → n.meta.namespace ≡ []
  there_plain n there = ap (λ (k : Key). k.namespace) (row_at_key (node_key n.meta.name) (Node n) rows there)

  pub there_at : (n : NodeData) → IsThere rows n → (place : ℕ) × (node_at rows place ≡ Some n)
  there_at n there =
      let at = place_of_row kinds.Node (node_key n.meta.name) (Node n) rows refl there in
      (at.0, ap as_node at.1 ∙ as_node_plain n (there_plain n there))

  by_name : (n m : NodeData) → n.meta.namespace ≡ [] → m.meta.namespace ≡ [] → key_cmp (key_of (Node n)) (key_of (Node m)) ≡ text_cmp n.meta.name m.meta.name
  by_name n m e f =
      ap (λ (k : Key). key_cmp k (key_of (Node m))) (plain_key n e) ∙ ap (λ (k : Key). key_cmp (node_key n.meta.name) k) (plain_key m f)

  less_is : (o : Ordering) → o ≡ Less → o ≢ Greater
  less_is o e g = absurd (true≢false (sym (ap is_gt g) ∙ ap is_gt e))

  equal_is : (o : Ordering) → o ≡ Equal → o ≢ Greater
  equal_is o e g = absurd (true≢false (sym (ap is_gt g) ∙ ap is_gt e))

  -- of the nodes of which P holds, the one at the first place is the first by name
  pub first_by_name : (P : NodeData → Type 0) (place : ℕ) (n : NodeData) → node_at rows place ≡ Some n → NoneBelow rows P place → (other : NodeData)
      → IsThere rows other → P other → text_cmp n.meta.name other.meta.name ≢ Greater
  first_by_name P place n at below other there holds =
      let spot = there_at other there in
      by_place spot.0 spot.1 (nat_cmp place spot.0) (ranked place spot.0 _ refl)
    where
      by_place : (k : ℕ) → node_at rows k ≡ Some other → (o : Ordering) → MatchOrdering o (place < k) (place ≡ k) (k < place) → text_cmp n.meta.name other.meta.name ≢ Greater
      by_place k e Greater lt = absurd (below k lt other e holds)
      by_place k e Equal same =
          let is : n ≡ other = one n other (sym at ∙ ap (node_at rows) same ∙ e) in
          equal_is _ (ap (λ (m : NodeData). text_cmp n.meta.name m.meta.name) (sym is) ∙ tied_itself nat_list_cmp_total n.meta.name)
      by_place k e Less lt =
          let here = seen_node (slice_get (rows_of kinds.Node rows) place) n at in
          let later = seen_node (slice_get (rows_of kinds.Node rows) k) other e in
          less_is _ (sym (by_name n other here.plain later.plain) ∙ places_rise key_cmp key_of (is_of_kind kinds.Node) (Node n) (Node other) rows place k order lt here.is later.is)

  -- the first that is found by places
  pub found_first : (P : NodeData → Type 0) (place : ℕ) (n : NodeData) → node_at rows place ≡ Some n → P n → NoneBelow rows P place → IsFirstOrNone rows P (Some n)
  found_first P place n at holds below = record { there = node_there place n at; holds = holds; first = first_by_name P place n at below }

  -- and none where there is none at any place
  pub none_found : (P : NodeData → Type 0) (count : ℕ) → count ≡ length (rows_of kinds.Node rows) → NoneBelow rows P count → HasNoNode rows P
  none_found P count is below n there holds =
      let spot = there_at n there in
      below spot.0 (subst (λ c. spot.0 < c) (sym is) (slice_get_within (rows_of kinds.Node rows) spot.0 (Node n) (seen_node (slice_get (rows_of kinds.Node rows) spot.0) n spot.1).is)) n spot.1 holds

-- the nodes of one turn

pub not_in_turn : (last : Option (List ℕ)) (past : Bool) (o : Option NodeData) → in_turn last past o ≡ None → (n : NodeData) → o ≡ Some n → is_past last n ≡ past → ⊥
not_in_turn last past None e n is turn = none_some is
not_in_turn last past (Some m) e n is turn =
    let same : beq (is_past last m) past ≡ true = ap (λ b. beq b past) (ap (is_past last) (one m n is) ∙ turn) ∙ beq_itself past in
    none_some (sym (sym (ap (λ b. if b then Some m else None) same) ∙ e))
  where
    beq_itself : (b : Bool) → beq b b ≡ true
    beq_itself true = refl
    beq_itself false = refl

pub record IsInTurn (last : Option (List ℕ)) (past : Bool) (o : Option NodeData) (n : NodeData) : Type 0 where
  pub is : o ≡ Some n
  pub turn : is_past last n ≡ past

pub is_in_turn : (last : Option (List ℕ)) (past : Bool) (o : Option NodeData) (n : NodeData) → in_turn last past o ≡ Some n → IsInTurn last past o n
is_in_turn last past None n e = none_some e
is_in_turn last past (Some m) n e = by (beq (is_past last m) past) refl e
  where
    equal : (a b : Bool) → beq a b ≡ true → a ≡ b
    equal true true h = refl
    equal true false h = absurd (true≢false (sym h))
    equal false true h = absurd (true≢false (sym h))
    equal false false h = refl

    by : (b : Bool) → beq (is_past last m) past ≡ b → (if b then Some m else None) ≡ Some n → IsInTurn last past (Some m) n
    by false h e = none_some e
    by true h e = record { is = e; turn = sym (ap (is_past last) (one m n e)) ∙ equal (is_past last m) past h }

-- both turns together

module _ (rows : List Object) (claims : List ClaimData) (last : Option (List ℕ)) where
  prepared_is : (n : NodeData) (choice : Choice) → IsPreparing rows claims n choice → IsFirstNode rows last (ServesClaims rows claims) n → IsChoiceAt IsSearching rows claims last choice
  prepared_is n (Prepare name binds provisions) p first = record { node = n; named = p.0; first = first; prepares = p.1 }
  prepared_is n (Assign name) p first = absurd p
  prepared_is n Wait p first = absurd p
  prepared_is n NoNode p first = absurd p

  serves_is : (n : NodeData) (choice : Choice) → IsPreparing rows claims n choice → ServesClaims rows claims n
  serves_is n (Prepare name binds provisions) p = (p.1.shares, p.1.serves)
  serves_is n (Assign name) p = absurd p
  serves_is n Wait p = absurd p
  serves_is n NoNode p = absurd p

  -- the order within a turn is that by name, and a node that is past the one refused last comes first
  within : (a b : NodeData) (x y : Bool) → is_past last a ≡ x → is_past last b ≡ y → x ≡ y → text_cmp a.meta.name b.meta.name ≢ Greater → round_cmp last a b ≢ Greater
  within a b x y h k same less e =
      less (sym (alike (is_past last a) (is_past last b) (h ∙ same ∙ sym k)) ∙ e)
    where
      alike : (x y : Bool) → x ≡ y → ordering_then (nat_cmp (if x then 0 else 1) (if y then 0 else 1)) (text_cmp a.meta.name b.meta.name) ≡ text_cmp a.meta.name b.meta.name
      alike true true same = refl
      alike false false same = refl
      alike true false same = absurd (true≢false same)
      alike false true same = absurd (true≢false (sym same))

  before : (a b : NodeData) → is_past last a ≡ true → is_past last b ≡ false → round_cmp last a b ≢ Greater
  before a b h k e = absurd (true≢false (sym (ap is_gt (sym (apart (is_past last a) (is_past last b) h k) ∙ e))))
    where
      apart : (x y : Bool) → x ≡ true → y ≡ false → ordering_then (nat_cmp (if x then 0 else 1) (if y then 0 else 1)) (text_cmp a.meta.name b.meta.name) ≡ Less
      apart true false x y = refl
      apart true true x y = absurd (true≢false y)
      apart false y x k = absurd (true≢false (sym x))

  module _ (order : AreRows rows) where
    found_node : (past : Bool) (choice : Choice) (f : IsFoundInTurn rows claims last past choice)
        → ((other : NodeData) → IsThere rows other → ServesClaims rows claims other → is_past last other ≢ past
        → round_cmp last f.node other ≢ Greater) → IsChoiceAt IsSearching rows claims last choice
    found_node past choice f across =
        prepared_is f.node choice f.preparing (record { there = node_there rows order f.place f.node f.there; holds = serves_is f.node choice f.preparing; first = first })
      where
        first : (other : NodeData) → IsThere rows other → ServesClaims rows claims other → round_cmp last f.node other ≢ Greater
        first other there serves = by (bool_tells (is_past last other) past)
          where
            bool_tells : (a b : Bool) → (a ≡ b) ⊎ (a ≢ b)
            bool_tells true true = inl refl
            bool_tells false false = inl refl
            bool_tells true false = inr true≢false
            bool_tells false true = inr (λ e. true≢false (sym e))

            by : (is_past last other ≡ past) ⊎ (is_past last other ≢ past) → round_cmp last f.node other ≢ Greater
            by (inl same) = within f.node other past past f.turn same refl
                (first_by_name rows order (ServesInTurn rows claims last past) f.place f.node f.there f.first other there (record { turn = same; serves = serves }))
            by (inr differs) = across other there serves differs

    pub first_turn : (choice : Choice) → IsFirstInTurn rows claims last true (Some choice) → IsChoiceAt IsSearching rows claims last choice
    first_turn choice f = found_node true choice f across
      where
        across : (other : NodeData) → IsThere rows other → ServesClaims rows claims other → is_past last other ≢ true → round_cmp last f.node other ≢ Greater
        across other there serves differs = before f.node other f.turn (not_true (is_past last other) differs)
          where
            not_true : (b : Bool) → b ≢ true → b ≡ false
            not_true true h = absurd (h refl)
            not_true false h = refl

    pub second_turn : (choice : Choice) → IsFirstInTurn rows claims last true None → IsFirstInTurn rows claims last false (Some choice) → IsChoiceAt IsSearching rows claims last choice
    second_turn choice none f = found_node false choice f across
      where
        across : (other : NodeData) → IsThere rows other → ServesClaims rows claims other → is_past last other ≢ false → round_cmp last f.node other ≢ Greater
        across other there serves differs = absurd (none other there (record { turn = not_false (is_past last other) differs; serves = serves }))
          where
            not_false : (b : Bool) → b ≢ false → b ≡ true
            not_false true h = refl
            not_false false h = absurd (h refl)

    pub no_turn : IsFirstInTurn rows claims last true None → IsFirstInTurn rows claims last false None → IsChoiceAt IsSearching rows claims last NoNode
    no_turn none nor n there serves = by (is_past last n) refl
      where
        by : (b : Bool) → is_past last n ≡ b → ⊥
        by true e = none n there (record { turn = e; serves = serves })
        by false e = nor n there (record { turn = e; serves = serves })
