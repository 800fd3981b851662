-- What a choice of the scheduler comes to: the node to which a pod is bound; the volumes that are taken, or the claims that get a node.
use Rattle.std.proofs.Common.{◌≡◌, ◌∙◌, ℕ, List, [], ◌∷◌, ◌++◌, Bool, true, false, true≢false, Option, Some, None, inl, inr, refl, sym, ap, subst, if◌then◌else◌}
use Rattle.std.specs.Prelude.{◌&&◌, ◌||◌, cond, filter, is_some, map, not, slice_get}
use Rattle.std.specs.List.{list_all, list_any}
use Rattle.std.specs.Ordering.{is_gt}
use Rattle.plain_data.specs.Pairs.{value_at}
use Rattle.kube_objects.specs.declared.key.Key.{Key}
use Rattle.kube_parts.specs.declared.parts.Kind.TheVariants as kinds
use Rattle.kube_objects.specs.declared.objects.Claim.{Claim as ClaimData}
use Rattle.kube_objects.specs.declared.objects.Node.{Node as NodeData}
use Rattle.kube_objects.specs.declared.objects.Pod.{Pod as PodData}
use Rattle.kube_objects.specs.declared.objects.Volume.{Volume as VolumeData}
use Rattle.kube_objects.specs.declared.objects.Object.{Object}
use Rattle.kube_objects.specs.declared.objects.Object.TheVariants.{Class, Node, Volume, Claim, Pod}
use Rattle.kube_objects.specs.Bindings.{carries, is_completed, selected_node}
use Rattle.kube_objects.specs.Keys.{AreRows, key_of, meta_of, row_at}
use Rattle.kube_objects.proofs.RowPlaces.{row_at_place}
use Rattle.binder_model.specs.BindWrites.{write_reference}
use Rattle.binder_model.specs.Choice.{
  AreShares,
  IsProvisioned,
  Share,
  TakesVolume,
  are_completed,
  by_size,
  carries_claim,
  claim_cmp,
  claim_in,
  claim_named,
  claims_of,
  has_carrier,
  insert_claim,
  is_other,
  is_served_elsewhere,
  is_under_way,
  lacks_claim,
}
use Rattle.binder_model.specs.ObjectKeys.{claim_key}
use Rattle.volume_index.specs.VolumeIndex.{as_volume}
use Rattle.call_types.specs.declared.request.Request.{Request}
use Rattle.volume_match.specs.Volumes.{volume_at}
use Rattle.model_laws.proofs.Lists.{IsIn}
use Rattle.model_laws.proofs.Readings.{found_stands}
use Rattle.delayed_binding.specs.declared.choice.Choice.{Choice}
use Rattle.delayed_binding.specs.declared.choice.Choice.TheVariants.{Assign, Prepare}
use Rattle.delayed_binding.specs.Choices.{
  IsAssigned,
  IsChoice,
  IsChoiceAt,
  IsCompleted,
  IsPrepared,
  IsSearching,
  IsServedElsewhere,
  IsUnderWay,
  LacksClaim,
  Stage,
  binds_of,
  others_in,
  pair_of,
  provisions_of,
  set_aside,
}
use Rattle.delayed_binding.specs.Writes.{bind_write, node_write, reference_write, selecting_write}
use Rattle.delayed_binding.proofs.Known.{Each, IsSought, IsStored as Stands, others_sought, others_stored}
use Rattle.delayed_binding.proofs.Written.{bound_at}
use Rattle.pod_scheduler.specs.Decisions.{are_known, is_known_in, present, writes_for}
use Rattle.pod_scheduler.proofs.Begun.{all_known}
use Rattle.settle_due.proofs.Upkeep.Claims.{none_among}
use Rattle.settle_due.proofs.Upkeep.Known.{AreKnown}
use Rattle.settle_due.specs.Scheduling.Writes.{AreWritesOn, IsApart, Places, Takes, placing}
use Rattle.settle_due.proofs.Scheduling.Placing.{SomeOpen}

-- the node to which a pod is bound

abbrev pub is_assign : Choice → Bool
is_assign (Assign name) = true
is_assign choice = false

pub assigned_of : (stage : Stage) (rows : List Object) (claims : List ClaimData) (last : Option (List ℕ)) (name : List ℕ)
    → IsChoiceAt stage rows claims last (Assign name) → IsAssigned rows claims name
assigned_of LacksClaim rows claims last name f = absurd (true≢false (ap is_assign f))
assigned_of IsCompleted rows claims last name f = f
assigned_of IsServedElsewhere rows claims last name f = absurd (true≢false (ap is_assign f))
assigned_of IsUnderWay rows claims last name f = absurd (true≢false (ap is_assign f))
assigned_of IsSearching rows claims last name f = absurd f

-- a search for a node: some claim is not under way

abbrev is_prepare : Choice → Bool
is_prepare (Prepare name binds provisions) = true
is_prepare choice = false

pub record IsSearch (rows : List Object) (p : PodData) (last : Option (List ℕ)) (name : List ℕ) (binds : List (Key × Key)) (provisions : List Key) : Type 0 where
  pub prepared : IsPrepared rows (claims_of rows p) last name binds provisions
  pub whole : lacks_claim rows p ≡ false
  pub here : list_any (is_served_elsewhere rows) (claims_of rows p) ≡ false
  pub waiting : list_all (is_under_way rows) (claims_of rows p) ≡ false

module _ (rows : List Object) (p : PodData) (last : Option (List ℕ)) (name : List ℕ) (binds : List (Key × Key)) (provisions : List Key) where
  search_at : (lacks done elsewhere under : Bool) → lacks_claim rows p ≡ lacks → list_any (is_served_elsewhere rows) (claims_of rows p) ≡ elsewhere
      → list_all (is_under_way rows) (claims_of rows p) ≡ under
      → IsChoiceAt (if lacks then LacksClaim else if done then IsCompleted else if elsewhere then IsServedElsewhere else if under then IsUnderWay
      else IsSearching) rows (claims_of rows p) last (Prepare name binds provisions)
      → IsSearch rows p last name binds provisions
  search_at true done elsewhere under l e u f = absurd (true≢false (ap is_prepare f))
  search_at false true elsewhere under l e u f = absurd f
  search_at false false true under l e u f = absurd (true≢false (ap is_prepare f))
  search_at false false false true l e u f = absurd (true≢false (ap is_prepare f))
  search_at false false false false l e u f = record { prepared = f; whole = l; here = e; waiting = u }

  pub search_of : IsChoice rows p last (Prepare name binds provisions) → IsSearch rows p last name binds provisions
  search_of f = search_at (lacks_claim rows p) (are_completed rows p) (list_any (is_served_elsewhere rows) (claims_of rows p)) (list_all (is_under_way rows) (claims_of rows p)) refl refl refl f

-- so one of the claims that are not fixed has no node

open_in : (rows : List Object) (cs : List ClaimData) → list_all (is_under_way rows) cs ≡ false → SomeOpen (filter (is_other rows) cs)
open_in rows [] e = absurd (true≢false e)
open_in rows (c ∷ cs) e = by (is_completed c) (has_carrier rows c) (value_at selected_node c.meta.annotations) refl e (open_in rows cs)
  where
    by : (done carried : Bool) (x : Option (List ℕ)) → value_at selected_node c.meta.annotations ≡ x
        → ((done || carried || is_some x) && list_all (is_under_way rows) cs) ≡ false → (list_all (is_under_way rows) cs ≡ false → SomeOpen (filter (is_other rows) cs))
        → SomeOpen (cond (not done && not carried) (c ∷ filter (is_other rows) cs) (filter (is_other rows) cs))
    by false false None is e rest = inl is
    by false false (Some node) is e rest = inr (rest e)
    by false true x is e rest = rest e
    by true false x is e rest = rest e
    by true true x is e rest = rest e

open_inserted : (c : ClaimData) (ds : List ClaimData) → SomeOpen (c ∷ ds) → SomeOpen (insert_claim c ds)
open_inserted c [] some = some
open_inserted c (d ∷ ds) some = by (is_gt (claim_cmp c d)) some (open_inserted c ds)
  where
    by : (b : Bool) → SomeOpen (c ∷ d ∷ ds) → (SomeOpen (c ∷ ds) → SomeOpen (insert_claim c ds)) → SomeOpen (if b then d ∷ insert_claim c ds else c ∷ d ∷ ds)
    by true (inl open_) rest = inr (rest (inl open_))
    by true (inr (inl open_)) rest = inl open_
    by true (inr (inr more)) rest = inr (rest (inr more))
    by false some rest = some

open_by_size : (cs : List ClaimData) → SomeOpen cs → SomeOpen (by_size cs)
open_by_size [] some = some
open_by_size (c ∷ cs) (inl open_) = open_inserted c (by_size cs) (inl open_)
open_by_size (c ∷ cs) (inr more) = open_inserted c (by_size cs) (inr (open_by_size cs more))

pub some_open : (rows : List Object) (p : PodData) → list_all (is_under_way rows) (claims_of rows p) ≡ false → SomeOpen (others_in rows (claims_of rows p))
some_open rows p e = open_by_size (filter (is_other rows) (claims_of rows p)) (open_in rows (claims_of rows p) e)

-- each claim of a pod has its UID

known_in : (x : Option Object) → ((o : Object) → x ≡ Some o → is_some (meta_of o).uid ≡ true) → is_known_in (claim_in x) ≡ true
known_in None known = refl
known_in (Some (Claim c)) known = known (Claim c) refl
known_in (Some (Class x)) known = refl
known_in (Some (Node x)) known = refl
known_in (Some (Volume x)) known = refl
known_in (Some (Pod x)) known = refl

pub claims_known : (rows : List Object) → AreKnown rows → (p : PodData) → are_known rows p ≡ true
claims_known rows known p = by p.claims
  where
    by : (names : List (List ℕ)) → list_all (λ name. is_known_in (claim_named rows p.meta.namespace name)) names ≡ true
    by [] = refl
    by (name ∷ names) =
        let here : is_known_in (claim_named rows p.meta.namespace name) ≡ true = known_in (row_at (claim_key p.meta.namespace name) rows) (known (claim_key p.meta.namespace name)) in
        rw (here, by names) refl

-- no volume carries a claim that is not fixed
carried_by_none : (rows : List Object) (c : ClaimData) (v : VolumeData) → IsIn (Volume v) rows → has_carrier rows c ≡ false → carries v c ≡ false
carried_by_none rows c v there none = by (carries v c) (none_among (carries_claim c) (Volume v ∷ []) rows only none)
  where
    only : (o : Object) → IsIn o (Volume v ∷ []) → carries_claim c o ≡ true → IsIn o rows
    only o (inl is) e = subst (λ x. IsIn x rows) is there
    only o (inr more) e = absurd more

    by : (b : Bool) → (b || false) ≡ false → b ≡ false
    by true e = e
    by false e = e

-- the writes: where no volume is taken, each of the claims gets the node; where one is taken, the first write is its reference

abbrev pub is_empty_list : {X : Type 0} → List X → Bool
is_empty_list [] = true
is_empty_list (x ∷ xs) = false

all_provided : (rows : List Object) (n : NodeData) (cs : List ClaimData) (shares : List Share) (taken : List ℕ) → AreShares rows n taken cs shares
    → binds_of rows cs shares ≡ [] → provisions_of cs shares ≡ map (λ c. key_of (Claim c)) cs
all_provided rows n [] [] taken are none = refl
all_provided rows n [] (TakesVolume place ∷ shares) taken are none = absurd are
all_provided rows n [] (IsProvisioned ∷ shares) taken are none = absurd are
all_provided rows n (c ∷ cs) [] taken are none = absurd are
all_provided rows n (c ∷ cs) (TakesVolume place ∷ shares) taken are none =
    let pair : pair_of c (volume_at rows place) ≡ (key_of (Claim c), key_of (Volume are.0.volume)) ∷ [] = ap (λ o. pair_of c (as_volume o)) are.0.candidate.there in
    absurd (true≢false (sym (ap is_empty_list none) ∙ ap (λ ps. is_empty_list (ps ++ binds_of rows cs shares)) pair))
all_provided rows n (c ∷ cs) (IsProvisioned ∷ shares) taken are none = ap (λ ks. key_of (Claim c) ∷ ks) (all_provided rows n cs shares taken are.2 none)

pub node_writes : (rows : List Object) (name : List ℕ) (cs : List ClaimData) → Each (Stands rows) cs → present (map (node_write rows name) (map (λ c. key_of (Claim c)) cs)) ≡ map (placing name) cs
node_writes rows name [] stand = refl
node_writes rows name (c ∷ cs) stand =
    let here : node_write rows name (key_of (Claim c)) ≡ Some (placing name c) = ap (λ o. selecting_write name (claim_in o)) stand.0 in
    ap (λ o. present (o ∷ map (node_write rows name) (map (λ (d : ClaimData). key_of (Claim d)) cs))) here ∙ ap (λ ws. placing name c ∷ ws) (node_writes rows name cs stand.1)

-- the first write takes a volume
pub record TakesFirst (rows : List Object) (writes : List Request) : Type 0 where
  pub volume : VolumeData
  pub claim : ClaimData
  pub rest : List Request
  pub are : writes ≡ write_reference volume claim ∷ rest
  pub apart : IsApart rows volume claim

module _ (rows : List Object) (order : AreRows rows) (p : PodData) (known : are_known rows p ≡ true) (last : Option (List ℕ)) (name : List ℕ) where
  abbrev others : List ClaimData
  others = others_in rows (claims_of rows p)

  pub written : (binds : List (Key × Key)) (provisions : List Key) → writes_for rows p (Prepare name binds provisions) ≡ present (map (bind_write rows) binds ++ map (node_write rows name) provisions)
  written binds provisions = ap (λ b. if b then present (map (bind_write rows) binds ++ map (node_write rows name) provisions) else []) known

  -- a volume that is taken stands, as does its claim
  bind_is : (pair : Key × Key) (c : ClaimData) (v : VolumeData) → pair.0 ≡ key_of (Claim c) → pair.1 ≡ key_of (Volume v) → IsApart rows v c → bind_write rows pair ≡ Some (write_reference v c)
  bind_is pair c v first second apart =
      ap (λ x. reference_write x (as_volume (row_at pair.1 rows))) (ap claim_in (ap (λ k. row_at k rows) first ∙ apart.claim))
      ∙ ap (λ x. reference_write (Some c) x) (ap as_volume (ap (λ k. row_at k rows) second ∙ apart.volume))

  -- where a volume is taken, its reference is written first
  pub takes_first : (pair : Key × Key) (more : List (Key × Key)) (provisions : List Key) → IsSearch rows p last name (pair ∷ more) provisions
      → TakesFirst rows (writes_for rows p (Prepare name (pair ∷ more) provisions))
  takes_first pair more provisions search =
      let shares = search.prepared.prepares.shares in
      let b = bound_at rows search.prepared.node {P = IsSought rows} others shares (set_aside rows)
      (others_sought rows p (all_known rows p known) search.here) search.prepared.prepares.serves.shared 0 pair (ap (λ bs. slice_get bs 0) (sym search.prepared.prepares.binds_are)) in
      let there = row_at_place kinds.PersistentVolume b.place (Volume b.volume) rows order b.there in
      let apart : IsApart rows b.volume b.claim = record {
        volume = there;
        claim = b.holds.stored;
        known = b.holds.known;
        uncarried = carried_by_none rows b.claim b.volume (found_stands (key_of (Volume b.volume)) (Volume b.volume) rows there) b.holds.uncarried;
      } in
      record {
        volume = b.volume;
        claim = b.claim;
        rest = _;
        are = written (pair ∷ more) provisions ∙ ap (λ o. present (o ∷ (map (bind_write rows) more ++ map (node_write rows name) provisions))) (bind_is pair b.claim b.volume b.first b.second apart);
        apart = apart;
      }

  pub are_writes : (binds : List (Key × Key)) (provisions : List Key) → IsSearch rows p last name binds provisions → AreWritesOn rows p name (writes_for rows p (Prepare name binds provisions))
  are_writes [] provisions search =
      let shares = search.prepared.prepares.shares in
      let provided = search.prepared.prepares.provisions_are
      ∙ all_provided rows search.prepared.node others shares (set_aside rows) search.prepared.prepares.serves.shared (sym search.prepared.prepares.binds_are) in
      Places (written [] provisions ∙ (ap (λ ks. present (map (node_write rows name) ks)) provided ∙ node_writes rows name others (others_stored rows p)))
  are_writes (pair ∷ more) provisions search = let first = takes_first pair more provisions search in Takes first.volume first.claim first.rest first.are first.apart
