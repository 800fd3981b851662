-- Which nodes serve a pod does not rest on versions, nor on the nodes of claims.
use Rattle.std.proofs.Common.{◌≡◌, ◌≢◌, ◌∙◌, ℕ, List, [], ◌∷◌, Bool, true, false, true≢false, Option, Some, None, refl, sym, ap, subst, if◌then◌else◌}
use Rattle.std.specs.declared.cmp.Ordering.TheVariants.{Greater}
use Rattle.std.specs.Prelude.{◌&&◌, ◌||◌, filter, is_none, map, not, option_map, slice_get}
use Rattle.std.specs.List.{list_all}
use Rattle.std.specs.Ordering.{is_gt, nat_cmp, ordering_then}
use Rattle.plain_data.specs.Pairs.{text_cmp}
use Rattle.kube_parts.specs.declared.parts.Kind.TheVariants as kinds
use Rattle.kube_parts.specs.declared.uid.Uid.{Uid}
use Rattle.kube_objects.specs.declared.objects.Node.{Node as NodeData}
use Rattle.kube_objects.specs.declared.objects.Claim.{Claim as ClaimData}
use Rattle.kube_objects.specs.declared.objects.Volume.{Volume as VolumeData}
use Rattle.kube_objects.specs.declared.objects.Pod.{Pod as PodData}
use Rattle.kube_objects.specs.declared.objects.Object.{Object}
use Rattle.kube_objects.specs.declared.objects.Object.TheVariants.{Class, Node, Volume, Claim, Pod}
use Rattle.kube_objects.specs.Bindings.{class_of_claim, class_of_volume, is_available, is_deleting, is_ended, is_protected_volume, mode_count}
use Rattle.kube_objects.specs.Keys.{row_at, rows_of}
use Rattle.call_types.specs.declared.setup.Setup.{Setup}
use Rattle.label_rules.specs.Selectors.{admits}
use Rattle.binder_model.specs.Choice.{
  AreShares,
  IsProvisioned,
  Serves,
  Share,
  TakesVolume,
  admits_if_carrying,
  admits_node,
  by_size,
  can_provision,
  carries_claim,
  claim_cmp,
  claim_named,
  claims_of,
  class_provisions,
  fixed_admit,
  has_carrier,
  insert_claim,
  is_other,
  others_of,
  volume_admits,
}
use Rattle.binder_model.specs.Due.{CanPrepare, is_served_on, share_is_served, shares_are_served}
use Rattle.binder_model.specs.Matching.{IsBest, IsCandidate, covers, eligible, is_selected, match_cmp}
use Rattle.binder_model.specs.ObjectKeys.{class_key, node_key, volume_key}
use Rattle.binder_model.specs.World.{World}
use Rattle.model_laws.proofs.Lists.{none_some}
use Rattle.settle_alike.proofs.Alike.Rows.{all_mapped, any_mapped, chosen_mapped, filter_mapped, get_mapped, plain_node, plain_pod, plain_volume}
use Rattle.settle_alike.specs.Near.Near.{rest_of, rests_of}
use Rattle.settle_alike.proofs.Near.Annotations.{class_rest, completed_rest, rest_claim}
use Rattle.settle_alike.proofs.Near.Rows.{carries_rest, for_rest, named_rest, rest_world, row_rest, rows_rest}
use Rattle.std.specs.Bool.{beq}
use Rattle.std.specs.Prelude.{bytes_eq, nat_le}

-- the claims of a pod

pub claims_rest : (rows : List Object) (p : PodData) → claims_of (rests_of rows) (plain_pod p) ≡ map rest_claim (claims_of rows p)
claims_rest rows p = chosen_mapped rest_claim (claim_named rows p.meta.namespace) (claim_named (rests_of rows) p.meta.namespace) (named_rest rows p.meta.namespace) p.claims

pub all_claims : (rows : List Object) (p : PodData) (f g : ClaimData → Bool) → ((c : ClaimData) → f (rest_claim c) ≡ g c)
    → list_all f (claims_of (rests_of rows) (plain_pod p)) ≡ list_all g (claims_of rows p)
all_claims rows p f g same = ap (list_all f) (claims_rest rows p) ∙ all_mapped rest_claim f g same (claims_of rows p)

-- nodes

admits_rest : (n : NodeData) (x : Option Object) → admits_node (option_map rest_of x) (plain_node n) ≡ admits_node x n
admits_rest n None = refl
admits_rest n (Some (Class x)) = refl
admits_rest n (Some (Node x)) = refl
admits_rest n (Some (Volume x)) = refl
admits_rest n (Some (Claim x)) = refl
admits_rest n (Some (Pod x)) = refl

pub volume_rest : (rows : List Object) (n : NodeData) (c : ClaimData) → volume_admits (rests_of rows) (plain_node n) (rest_claim c) ≡ volume_admits rows n c
volume_rest rows n c = ap (λ x. admits_node x (plain_node n)) (row_rest (volume_key c.volume_name) rows) ∙ admits_rest n (row_at (volume_key c.volume_name) rows)

pub carrier_rest : (rows : List Object) (c : ClaimData) → has_carrier (rests_of rows) (rest_claim c) ≡ has_carrier rows c
carrier_rest rows c = any_mapped rest_of (carries_claim (rest_claim c)) (carries_claim c) each rows
  where
    each : (o : Object) → carries_claim (rest_claim c) (rest_of o) ≡ carries_claim c o
    each (Class x) = refl
    each (Node x) = refl
    each (Volume x) = carries_rest x c
    each (Claim x) = refl
    each (Pod x) = refl

-- the shares of a node

insert_rest : (c : ClaimData) (ds : List ClaimData) → insert_claim (rest_claim c) (map rest_claim ds) ≡ map rest_claim (insert_claim c ds)
insert_rest c [] = refl
insert_rest c (d ∷ ds) = by (is_gt (claim_cmp c d)) (insert_rest c ds)
  where
    by : (b : Bool) → insert_claim (rest_claim c) (map rest_claim ds) ≡ map rest_claim (insert_claim c ds)
        → (if b then rest_claim d ∷ insert_claim (rest_claim c) (map rest_claim ds) else rest_claim c ∷ rest_claim d ∷ map rest_claim ds)
        ≡ map rest_claim (if b then d ∷ insert_claim c ds else c ∷ d ∷ ds)
    by true rest = ap (λ xs. rest_claim d ∷ xs) rest
    by false rest = refl

by_size_rest : (cs : List ClaimData) → by_size (map rest_claim cs) ≡ map rest_claim (by_size cs)
by_size_rest [] = refl
by_size_rest (c ∷ cs) = ap (insert_claim (rest_claim c)) (by_size_rest cs) ∙ insert_rest c (by_size cs)

other_rest : (rows : List Object) (c : ClaimData) → is_other (rests_of rows) (rest_claim c) ≡ is_other rows c
other_rest rows c = let completed = completed_rest c in let carrier = carrier_rest rows c in λ i. not (completed i) && not (carrier i)

pub others_rest : (rows : List Object) (p : PodData) → others_of (rests_of rows) (plain_pod p) ≡ map rest_claim (others_of rows p)
others_rest rows p =
    ap (λ cs. by_size (filter (is_other (rests_of rows)) cs)) (claims_rest rows p)
    ∙ (ap by_size (filter_mapped rest_claim (is_other (rests_of rows)) (is_other rows) (other_rest rows) (claims_of rows p)) ∙ by_size_rest (filter (is_other rows) (claims_of rows p)))

admitting_rest : (n : NodeData) (c : ClaimData) (o : Object) → admits_if_carrying (plain_node n) (rest_claim c) (rest_of o) ≡ admits_if_carrying n c o
admitting_rest n c (Class x) = refl
admitting_rest n c (Node x) = refl
admitting_rest n c (Volume x) = ap (λ b. not b || admits x.terms n.meta.labels) (carries_rest x c)
admitting_rest n c (Claim x) = refl
admitting_rest n c (Pod x) = refl

fixed_rest : (rows : List Object) (n : NodeData) (c : ClaimData) → fixed_admit (rests_of rows) (plain_node n) (rest_claim c) ≡ fixed_admit rows n c
fixed_rest rows n c =
    let completed = completed_rest c in
    let volume = volume_rest rows n c in
    let carriers = all_mapped rest_of (admits_if_carrying (plain_node n) (rest_claim c)) (admits_if_carrying n c) (admitting_rest n c) rows in
    λ i. (not (completed i) || volume i) && carriers i

provisions_rest : (x : Option Object) → class_provisions (option_map rest_of x) ≡ class_provisions x
provisions_rest None = refl
provisions_rest (Some (Class x)) = refl
provisions_rest (Some (Node x)) = refl
provisions_rest (Some (Volume x)) = refl
provisions_rest (Some (Claim x)) = refl
provisions_rest (Some (Pod x)) = refl

pub class_row_rest : (rows : List Object) (c : ClaimData) → row_at (class_key (class_of_claim (rest_claim c))) (rests_of rows) ≡ option_map rest_of (row_at (class_key (class_of_claim c)) rows)
class_row_rest rows c = ap (λ name. row_at (class_key name) (rests_of rows)) (class_rest c) ∙ row_rest (class_key (class_of_claim c)) rows

can_rest : (rows : List Object) (c : ClaimData) → can_provision (rests_of rows) (rest_claim c) ≡ can_provision rows c
can_rest rows c = ap (λ b. is_none c.selector && b) (ap class_provisions (class_row_rest rows c) ∙ provisions_rest (row_at (class_key (class_of_claim c)) rows))

-- an object that is a volume but for its version is one
pub record IsVolume (x : Option Object) (plain : VolumeData) : Type 0 where
  pub volume : VolumeData
  pub is : x ≡ Some (Volume volume)
  pub same : plain_volume volume ≡ plain

abbrev volume_in : VolumeData → Option Object → VolumeData
volume_in v (Some (Volume x)) = x
volume_in v o = v

abbrev is_volume : Option Object → Bool
is_volume (Some (Volume x)) = true
is_volume o = false

pub volume_back : (x : Option Object) (v : VolumeData) → option_map rest_of x ≡ Some (Volume v) → IsVolume x v
volume_back None v e = none_some e
volume_back (Some (Volume x)) v e = record { volume = x; is = refl; same = ap (volume_in v) e }
volume_back (Some (Class x)) v e = absurd (true≢false (sym (ap is_volume e)))
volume_back (Some (Node x)) v e = absurd (true≢false (sym (ap is_volume e)))
volume_back (Some (Claim x)) v e = absurd (true≢false (sym (ap is_volume e)))
volume_back (Some (Pod x)) v e = absurd (true≢false (sym (ap is_volume e)))

cmp_rest : (c : ClaimData) (v u : VolumeData) → match_cmp (rest_claim c) (plain_volume v) (plain_volume u) ≡ match_cmp c v u
cmp_rest c v u =
    let a = for_rest v c in
    let b = for_rest u c in
    λ i. ordering_then (ordering_then (ordering_then (nat_cmp (if a i then 0 else 1) (if b i then 0 else 1))
    (nat_cmp (mode_count v.modes) (mode_count u.modes))) (nat_cmp v.amount.bytes u.amount.bytes)) (text_cmp v.meta.name u.meta.name)

eligible_rest : (v : VolumeData) (c : ClaimData) (n : NodeData) → eligible (plain_volume v) (rest_claim c) (Some (plain_node n)) ≡ eligible v c (Some n)
eligible_rest v c n =
    let class = class_rest c in
    let own = for_rest v c in
    λ i. not (is_deleting v.meta) && is_protected_volume v && (nat_le c.amount.bytes v.amount.bytes && bytes_eq (class_of_volume v) (class i) && beq v.block c.block && covers c.modes v.modes)
    && is_selected c.selector v.meta.labels && admits v.terms n.meta.labels && ((own i && not (is_ended v.phase)) || (is_available v.phase && is_none v.claim_ref))

module _ (rows : List Object) (c : ClaimData) (n : NodeData) (taken : List ℕ) where
  volumes_rest : (place : ℕ) → slice_get (rows_of kinds.PersistentVolume (rests_of rows)) place ≡ option_map rest_of (slice_get (rows_of kinds.PersistentVolume rows) place)
  volumes_rest place = ap (λ os. slice_get os place) (rows_rest kinds.PersistentVolume rows) ∙ get_mapped rest_of (rows_of kinds.PersistentVolume rows) place

  abbrev Candidate : ℕ → VolumeData → Type 0
  Candidate place v = IsCandidate rows c (Some n) false taken place v

  abbrev RestCandidate : ℕ → VolumeData → Type 0
  RestCandidate place v = IsCandidate (rests_of rows) (rest_claim c) (Some (plain_node n)) false taken place v

  candidate_to : (place : ℕ) (v : VolumeData) → Candidate place v → RestCandidate place (plain_volume v)
  candidate_to place v k = record { there = volumes_rest place ∙ ap (option_map rest_of) k.there; open_to = k.open_to; own = k.own; eligible = eligible_rest v c n ∙ k.eligible }

  record Back (place : ℕ) (v : VolumeData) : Type 0 where
    volume : VolumeData
    same : plain_volume volume ≡ v
    candidate : Candidate place volume

  candidate_from : (place : ℕ) (v : VolumeData) → RestCandidate place v → Back place v
  candidate_from place v k =
      let b = volume_back (slice_get (rows_of kinds.PersistentVolume rows) place) v (sym (volumes_rest place) ∙ k.there) in
      let at : RestCandidate place (plain_volume b.volume) = subst (RestCandidate place) (sym b.same) k in
      record { volume = b.volume; same = b.same; candidate = record { there = b.is; open_to = at.open_to; own = at.own; eligible = sym (eligible_rest b.volume c n) ∙ at.eligible } }

  best_to : (x : Option ℕ) → IsBest rows c (Some n) false taken x → IsBest (rests_of rows) (rest_claim c) (Some (plain_node n)) false taken x
  best_to None none = λ place v k. let b = candidate_from place v k in none place b.volume b.candidate
  best_to (Some place) best = record {
    volume = plain_volume best.volume;
    candidate = candidate_to place best.volume best.candidate;
    first = λ other v k. let b = candidate_from other v k in
        subst (λ u. match_cmp (rest_claim c) (plain_volume best.volume) u ≢ Greater) b.same (subst (λ r. r ≢ Greater) (sym (cmp_rest c best.volume b.volume)) (best.first other b.volume b.candidate));
  }

  best_from : (x : Option ℕ) → IsBest (rests_of rows) (rest_claim c) (Some (plain_node n)) false taken x → IsBest rows c (Some n) false taken x
  best_from None none = λ place v k. none place (plain_volume v) (candidate_to place v k)
  best_from (Some place) best =
      let b = candidate_from place best.volume best.candidate in
      record {
        volume = b.volume;
        candidate = b.candidate;
        first = λ other v k. subst (λ r. r ≢ Greater) (cmp_rest c b.volume v)
            (subst (λ u. match_cmp (rest_claim c) u (plain_volume v) ≢ Greater) (sym b.same) (best.first other (plain_volume v) (candidate_to other v k)));
      }

shares_to : (rows : List Object) (n : NodeData) (taken : List ℕ) (cs : List ClaimData) (shares : List Share) → AreShares rows n taken cs shares
    → AreShares (rests_of rows) (plain_node n) taken (map rest_claim cs) shares
shares_to rows n taken [] [] are = tt
shares_to rows n taken [] (s ∷ ss) are = absurd are
shares_to rows n taken (c ∷ cs) [] are = absurd are
shares_to rows n taken (c ∷ cs) (TakesVolume place ∷ ss) are = (best_to rows c n taken (Some place) are.0, shares_to rows n (place ∷ taken) cs ss are.1)
shares_to rows n taken (c ∷ cs) (IsProvisioned ∷ ss) are = (best_to rows c n taken None are.0, can_rest rows c ∙ are.1, shares_to rows n taken cs ss are.2)

shares_from : (rows : List Object) (n : NodeData) (taken : List ℕ) (cs : List ClaimData) (shares : List Share)
    → AreShares (rests_of rows) (plain_node n) taken (map rest_claim cs) shares → AreShares rows n taken cs shares
shares_from rows n taken [] [] are = tt
shares_from rows n taken [] (s ∷ ss) are = absurd are
shares_from rows n taken (c ∷ cs) [] are = absurd are
shares_from rows n taken (c ∷ cs) (TakesVolume place ∷ ss) are = (best_from rows c n taken (Some place) are.0, shares_from rows n (place ∷ taken) cs ss are.1)
shares_from rows n taken (c ∷ cs) (IsProvisioned ∷ ss) are = (best_from rows c n taken None are.0, sym (can_rest rows c) ∙ are.1, shares_from rows n taken cs ss are.2)

-- what the devices can give

module _ (setup : Setup) (w : World) (n : NodeData) where
  served_rest : (c : ClaimData) (u : Option Uid) (x : Option Object) → is_served_on setup (rest_world w) (plain_node n) (rest_claim c) u (option_map rest_of x) ≡ is_served_on setup w n c u x
  served_rest c None x = refl
  served_rest c (Some uid) None = refl
  served_rest c (Some uid) (Some (Class x)) = refl
  served_rest c (Some uid) (Some (Node x)) = refl
  served_rest c (Some uid) (Some (Volume x)) = refl
  served_rest c (Some uid) (Some (Claim x)) = refl
  served_rest c (Some uid) (Some (Pod x)) = refl

  pub share_rest : (c : ClaimData) (s : Share) → share_is_served setup (rest_world w) (plain_node n) (rest_claim c) s ≡ share_is_served setup w n c s
  share_rest c (TakesVolume place) = refl
  share_rest c IsProvisioned = ap (is_served_on setup (rest_world w) (plain_node n) (rest_claim c) c.meta.uid) (class_row_rest w.store.rows c)
      ∙ served_rest c c.meta.uid (row_at (class_key (class_of_claim c)) w.store.rows)

  given_rest : (cs : List ClaimData) (ss : List Share) → shares_are_served setup (rest_world w) (plain_node n) (map rest_claim cs) ss ≡ shares_are_served setup w n cs ss
  given_rest [] [] = refl
  given_rest [] (s ∷ ss) = refl
  given_rest (c ∷ cs) [] = refl
  given_rest (c ∷ cs) (s ∷ ss) = let here = share_rest c s in let rest = given_rest cs ss in λ i. here i && rest i

-- an object that is a node but for its version is one
pub record IsNode (x : Option Object) (plain : NodeData) : Type 0 where
  pub node : NodeData
  pub is : x ≡ Some (Node node)
  pub same : plain_node node ≡ plain

abbrev node_in_row : NodeData → Option Object → NodeData
node_in_row n (Some (Node x)) = x
node_in_row n o = n

abbrev is_node : Option Object → Bool
is_node (Some (Node x)) = true
is_node o = false

pub node_back : (x : Option Object) (n : NodeData) → option_map rest_of x ≡ Some (Node n) → IsNode x n
node_back None n e = none_some e
node_back (Some (Node x)) n e = record { node = x; is = refl; same = ap (node_in_row n) e }
node_back (Some (Class x)) n e = absurd (true≢false (sym (ap is_node e)))
node_back (Some (Volume x)) n e = absurd (true≢false (sym (ap is_node e)))
node_back (Some (Claim x)) n e = absurd (true≢false (sym (ap is_node e)))
node_back (Some (Pod x)) n e = absurd (true≢false (sym (ap is_node e)))

module _ (w : World) (p : PodData) where
  pub serves_to : (n : NodeData) (ss : List Share) → Serves w.store.rows p n ss → Serves (rests_of w.store.rows) (plain_pod p) (plain_node n) ss
  serves_to n ss s = record {
    fixed = all_claims w.store.rows p (fixed_admit (rests_of w.store.rows) (plain_node n)) (fixed_admit w.store.rows n) (fixed_rest w.store.rows n) ∙ s.fixed;
    shared = subst (λ cs. AreShares (rests_of w.store.rows) (plain_node n) [] cs ss) (sym (others_rest w.store.rows p)) (shares_to w.store.rows n [] (others_of w.store.rows p) ss s.shared);
  }

  pub serves_from : (n : NodeData) (ss : List Share) → Serves (rests_of w.store.rows) (plain_pod p) (plain_node n) ss → Serves w.store.rows p n ss
  serves_from n ss s = record {
    fixed = sym (all_claims w.store.rows p (fixed_admit (rests_of w.store.rows) (plain_node n)) (fixed_admit w.store.rows n) (fixed_rest w.store.rows n)) ∙ s.fixed;
    shared = shares_from w.store.rows n [] (others_of w.store.rows p) ss (subst (λ cs. AreShares (rests_of w.store.rows) (plain_node n) [] cs ss) (others_rest w.store.rows p) s.shared);
  }

module _ (setup : Setup) (w : World) (p : PodData) where
  pub all_given : (n : NodeData) (ss : List Share)
      → shares_are_served setup (rest_world w) (plain_node n) (others_of (rests_of w.store.rows) (plain_pod p)) ss ≡ shares_are_served setup w n (others_of w.store.rows p) ss
  all_given n ss = ap (λ cs. shares_are_served setup (rest_world w) (plain_node n) cs ss) (others_rest w.store.rows p) ∙ given_rest setup w n (others_of w.store.rows p) ss

  pub prepare_to : CanPrepare setup w p → CanPrepare setup (rest_world w) (plain_pod p)
  prepare_to k = record {
    node = plain_node k.node;
    there = row_rest (node_key k.node.meta.name) w.store.rows ∙ ap (option_map rest_of) k.there;
    shares = k.shares;
    serves = serves_to w p k.node k.shares k.serves;
    given = all_given k.node k.shares ∙ k.given;
  }

  pub prepare_from : CanPrepare setup (rest_world w) (plain_pod p) → CanPrepare setup w p
  prepare_from k =
      let b = node_back (row_at (node_key k.node.meta.name) w.store.rows) k.node (sym (row_rest (node_key k.node.meta.name) w.store.rows) ∙ k.there) in
      let named : b.node.meta.name ≡ k.node.meta.name = ap (λ (x : NodeData). x.meta.name) b.same in
      record {
        node = b.node;
        there = ap (λ name. row_at (node_key name) w.store.rows) named ∙ b.is;
        shares = k.shares;
        serves = serves_from w p b.node k.shares (subst (λ x. Serves (rests_of w.store.rows) (plain_pod p) x k.shares) (sym b.same) k.serves);
        given = sym (all_given b.node k.shares) ∙ subst (λ x. shares_are_served setup (rest_world w) x (others_of (rests_of w.store.rows) (plain_pod p)) k.shares ≡ true) (sym b.same) k.given;
      }
