-- The writes of a choice, and the assignment of a pod, are allowed after what the seat was told.
use Rattle.std.proofs.Common.{
  ℕ,
  zero,
  suc,
  ◌≡◌,
  ◌<◌,
  ◌+◌,
  ◌∙◌,
  Bool,
  true,
  false,
  true≢false,
  not,
  ◌&&◌,
  ◌||◌,
  ◌==◌,
  List,
  [],
  ◌∷◌,
  ◌++◌,
  length,
  map,
  Option,
  Some,
  None,
  refl,
  sym,
  ap,
  subst,
  arith,
  option_map,
  if◌then◌else◌,
}
use Rattle.std.specs.Prelude.{is_none, is_some, slice_get}
use Rattle.std.specs.List.{cons_option, filter_map, list_all, list_any}
use Rattle.std.proofs.lemmas.List.{length-map}
use Rattle.std.proofs.lemmas.Option.{slice_get-map}
use Rattle.kube_parts.specs.declared.uid.Uid.{Uid}
use Rattle.kube_objects.specs.declared.key.Key.{Key}
use Rattle.kube_parts.specs.declared.parts.Kind.TheVariants as kinds
use Rattle.kube_parts.specs.declared.parts.VolumePhase.{VolumePhase}
use Rattle.kube_objects.specs.declared.objects.Class.{Class as ClassData}
use Rattle.kube_objects.specs.declared.objects.Claim.{Claim as ClaimData}
use Rattle.kube_objects.specs.declared.objects.Node.{Node as NodeData}
use Rattle.kube_objects.specs.declared.objects.Pod.{Pod as PodData}
use Rattle.kube_objects.specs.declared.objects.Ref.{Ref}
use Rattle.kube_objects.specs.declared.objects.Volume.{Volume as VolumeData}
use Rattle.kube_objects.specs.declared.objects.Object.{Object}
use Rattle.kube_objects.specs.declared.objects.Object.TheVariants.{Class, Node, Volume, Claim, Pod}
use Rattle.kube_objects.specs.Bindings.{
  bound_by_controller,
  carries,
  class_of_claim,
  is_available,
  is_completed,
  is_deleting,
  is_empty,
  is_ended,
  is_for,
  is_protected_volume,
  names_claim,
  refers_carrying,
  refers_for,
  uid_carries,
  uid_fits,
}
use Rattle.kube_objects.specs.Keys.{AreRows, kind_index, row_at, rows_of}
use Rattle.kube_objects.proofs.RowPlaces.{row_at_place}
use Rattle.label_rules.specs.Selectors.{admits}
use Rattle.call_types.specs.declared.entry.Entry.{Entry}
use Rattle.call_types.specs.declared.request.Request.{Request}
use Rattle.call_types.specs.declared.request.Request.TheVariants.{Update}
use Rattle.binder_model.specs.At.{IsWrittenAt}
use Rattle.binder_model.specs.BinderLicence.{IsFreeFor, IsTaken, MayTake}
use Rattle.binder_model.specs.BindWrites.{taken_for, write_reference}
use Rattle.binder_model.specs.Choice.{
  AreShares,
  admits_node,
  are_completed,
  carries_claim,
  claim_in,
  claim_named,
  claims_of,
  has_carrier,
  is_missing,
  is_served_elsewhere,
  is_under_way,
  lacks_claim,
  volume_admits,
}
use Rattle.binder_model.specs.Fields.{has_twice}
use Rattle.call_types.specs.declared.request.SeatKind.TheVariants as seats
use Rattle.binder_model.specs.Licence.{RowAllows}
use Rattle.binder_model.specs.Matching.{eligible, fits, is_admitted_on, is_delayed, is_selected, may_serve}
use Rattle.binder_model.specs.ObjectKeys.{class_key, node_key, claim_key, volume_key}
use Rattle.binder_model.specs.SchedulerLicence.{AreReadyOn, MaySelectNode}
use Rattle.binder_model.specs.Told.{IsNewest, ToldClaim, ToldVolume}
use Rattle.volume_index.specs.VolumeIndex.{as_volume}
use Rattle.model_laws.proofs.Evidence.{told_claim, told_volume}
use Rattle.model_laws.proofs.Lists.{none_some, one}
use Rattle.model_laws.proofs.Identity.{placed_same}
use Rattle.model_laws.proofs.Newest.{newest_claim, newest_volume}
use Rattle.delayed_binding.specs.declared.choice.Choice.{Choice}
use Rattle.delayed_binding.specs.declared.choice.Choice.TheVariants.{Assign, Prepare, Wait, NoNode}
use Rattle.delayed_binding.specs.Choices.{
  IsAssigned,
  IsChoice,
  IsChoiceAt,
  IsCompleted,
  IsPrepared,
  IsSearching,
  IsServedElsewhere,
  IsUnderWay,
  LacksClaim,
  Stage,
  binds_of,
  others_in,
  provisions_of,
  set_aside,
}
use Rattle.delayed_binding.specs.WriteLaw.{
  OthersAreUnchanged,
  AssignedPodsAreAllowed,
  ChosenWritesAreAllowed,
  HasWrite,
  IsUnwritten,
  PreparedHaveWrites,
  PreparedWritesAreAllowed,
  PreparedWritesAreThere,
  ShowsNewest,
  WritesAreApart,
  is_known,
  written_keys,
}
use Rattle.delayed_binding.specs.Writes.{bind_write, joined, node_write, placed_on, prepare_write, reference_write, selecting_write}
use Rattle.delayed_binding.proofs.Known.{Each, IsSome, IsSought, claim_of_row, others_apart, others_sought, others_stored, some_others, and_right}
use Rattle.delayed_binding.proofs.Scanning.{carriers_are_volumes}
use Rattle.delayed_binding.proofs.Written.{IsBound, IsOf, IsToProvision, OfFirst, OfSecond, bound_at, item_of, one_bind, one_provision, provided_at, some_write}
use Rattle.model_laws.proofs.References.{available_lives}

-- a reference, on an eligible volume for a claim that no volume carries

serves_of : (v : VolumeData) (c : ClaimData) (n : NodeData) → eligible v c (Some n) ≡ true → may_serve v c ≡ true
serves_of v c n e = and_right (not (is_deleting v.meta) && is_protected_volume v && fits v c && is_selected c.selector v.meta.labels && is_admitted_on v (Some n)) (may_serve v c) e

lives : (own ended available none : Bool) → (available ≡ true → ended ≡ false) → ((own && not ended) || (available && none)) ≡ true → ended ≡ false
lives own false available none h e = refl
lives own true true none h e = h refl
lives true true false none h e = absurd (true≢false (sym e))
lives false true false none h e = absurd (true≢false (sym e))

own_of : (own ended available : Bool) → ((own && not ended) || (available && false)) ≡ true → own ≡ true
own_of true ended available e = refl
own_of false ended true e = absurd (true≢false (sym e))
own_of false ended false e = absurd (true≢false (sym e))

free_by : (named : Bool) (uid : Option Uid) (c : ClaimData) → (named && uid_fits uid c) ≡ true → (named && uid_carries uid c) ≡ false → (named ≡ true) × (uid ≡ None)
free_by true None c own out = (refl, refl)
free_by true (Some u) c own out = absurd (true≢false (sym own ∙ out))
free_by false uid c own out = absurd (true≢false (sym own))

free_for : (r : Option Ref) (c : ClaimData) (phase : VolumePhase) → ((refers_for r c && not (is_ended phase)) || (is_available phase && is_none r)) ≡ true → refers_carrying r c ≡ false → IsFreeFor r c
free_for None c phase serves out = tt
free_for (Some r) c phase serves out = free_by (names_claim r c) r.uid c (own_of (refers_for (Some r) c) (is_ended phase) (is_available phase) serves) out

reference_allowed : (mine : List Entry) (v : VolumeData) (c : ClaimData) (n : NodeData) → ToldVolume (λ o. o ≡ v) mine → ToldClaim (λ o. o ≡ c) mine
    → is_known c ≡ true → eligible v c (Some n) ≡ true → carries v c ≡ false → RowAllows seats.Scheduler mine (write_reference v c)
unfolding taken_for
reference_allowed mine v c n volume claim known e out =
    let new = taken_for v c in
    let same = placed_same (is_none v.claim_ref) bound_by_controller v.meta in
    let serves = serves_of v c n e in
    let taken : IsTaken v new c = record { known = known; free = free_for v.claim_ref c v.phase serves out; change = refl } in
    let row : MayTake mine v new = record {
      live = lives (is_for v c) (is_ended v.phase) (is_available v.phase) (is_none v.claim_ref)
          (available_lives v.phase) serves;
      told = told_claim (IsTaken v new) c mine claim taken;
    } in
    told_volume (λ o. IsWrittenAt (Some v.meta.version) new.meta.namespace new.meta.name o.meta × MayTake mine o new) v mine volume
    (record { version = refl; placed = sym same.0; named = sym same.1 }, row)

-- no volume of the rows carries the claim
uncarried : (rows : List Object) (c : ClaimData) (v : VolumeData) (place : ℕ) → has_carrier rows c ≡ false
    → slice_get (rows_of kinds.PersistentVolume rows) place ≡ Some (Volume v) → carries v c ≡ false
uncarried rows c v place none there = by (carries v c) refl
  where
    any_at : (os : List Object) (i : ℕ) → slice_get os i ≡ Some (Volume v) → carries v c ≡ true → list_any (carries_claim c) os ≡ true
    any_at [] i at h = none_some at
    any_at (o ∷ os) zero at h = ap (λ b. b || list_any (carries_claim c) os) (ap (carries_claim c) (one o (Volume v) at) ∙ h)
    any_at (o ∷ os) (suc i) at h = or_true (carries_claim c o) (any_at os i at h)
      where
        or_true : (a : Bool) {b : Bool} → b ≡ true → (a || b) ≡ true
        or_true true e = refl
        or_true false e = e

    by : (b : Bool) → carries v c ≡ b → carries v c ≡ false
    by false h = h
    by true h = absurd (true≢false (sym (sym (carriers_are_volumes c rows) ∙ any_at (rows_of kinds.PersistentVolume rows) place there h) ∙ none))

-- the node, on a claim of a delayed class

record IsDelayedClass (o : Option Object) : Type 0 where
  class : ClassData
  is : o ≡ Some (Class class)
  delayed : class.delayed ≡ true

delayed_class : (o : Option Object) → is_delayed o ≡ true → IsDelayedClass o
delayed_class None e = absurd (true≢false (sym e))
delayed_class (Some (Class x)) e = record { class = x; is = refl; delayed = e }
delayed_class (Some (Node x)) e = absurd (true≢false (sym e))
delayed_class (Some (Volume x)) e = absurd (true≢false (sym e))
delayed_class (Some (Claim x)) e = absurd (true≢false (sym e))
delayed_class (Some (Pod x)) e = absurd (true≢false (sym e))

node_allowed : (mine : List Entry) (c : ClaimData) (n : NodeData) (name : List ℕ) (x : ClassData) → ToldClaim (λ o. o ≡ c) mine → name ≡ n.meta.name
    → is_completed c ≡ false → IsNewest mine (class_key (class_of_claim c)) (Class x) → x.delayed ≡ true
    → IsNewest mine (node_key n.meta.name) (Node n) → RowAllows seats.Scheduler mine (Update (Claim (placed_on name c)) (Some c.meta.version))
node_allowed mine c n name x claim named open_ class delayed node =
    let new = placed_on name c in
    let row : MaySelectNode mine c new = record { undone = open_; class = x; class_newest = class; delayed = delayed; node = n; node_newest = node; change = ap (λ s. placed_on s c) named } in
    told_claim (λ o. IsWrittenAt (Some c.meta.version) new.meta.namespace new.meta.name o.meta × MaySelectNode mine o new) c mine claim
    (record { version = refl; placed = refl; named = refl }, row)

-- a search for a node, taken apart

abbrev is_assign : Choice → Bool
is_assign (Assign name) = true
is_assign choice = false

abbrev is_prepare : Choice → Bool
is_prepare (Prepare name binds provisions) = true
is_prepare choice = false

abbrev stage_at : Bool → Bool → Bool → Bool → Stage
stage_at lacks completed elsewhere under = if lacks then LacksClaim else if completed then IsCompleted else if elsewhere then IsServedElsewhere else if under then IsUnderWay else IsSearching

pub record IsSearch (rows : List Object) (p : PodData) (last : Option (List ℕ)) (name : List ℕ) (bs : List (Key × Key)) (ps : List Key) : Type 0 where
  pub prepared : IsPrepared rows (claims_of rows p) last name bs ps
  served : list_any (is_served_elsewhere rows) (claims_of rows p) ≡ false
  waiting : list_all (is_under_way rows) (claims_of rows p) ≡ false

search_of : (rows : List Object) (p : PodData) (last : Option (List ℕ)) (name : List ℕ) (bs : List (Key × Key)) (ps : List Key)
    (lacks done elsewhere under : Bool) → list_any (is_served_elsewhere rows) (claims_of rows p) ≡ elsewhere
    → list_all (is_under_way rows) (claims_of rows p) ≡ under → IsChoiceAt (stage_at lacks done elsewhere under) rows (claims_of rows p) last (Prepare name bs ps) → IsSearch rows p last name bs ps
search_of rows p last name bs ps true done elsewhere under s w f = absurd (true≢false (ap is_prepare f))
search_of rows p last name bs ps false true elsewhere under s w f = absurd f
search_of rows p last name bs ps false false true under s w f = absurd (true≢false (ap is_prepare f))
search_of rows p last name bs ps false false false true s w f = absurd (true≢false (ap is_prepare f))
search_of rows p last name bs ps false false false false s w f = record { prepared = f; served = s; waiting = w }

record IsAssignment (rows : List Object) (p : PodData) (name : List ℕ) : Type 0 where
  assigned : IsAssigned rows (claims_of rows p) name
  whole : lacks_claim rows p ≡ false
  completed : are_completed rows p ≡ true

assignment_of : (rows : List Object) (p : PodData) (last : Option (List ℕ)) (name : List ℕ) (lacks done elsewhere under : Bool)
    → lacks_claim rows p ≡ lacks → are_completed rows p ≡ done → IsChoiceAt (stage_at lacks done elsewhere under) rows (claims_of rows p) last (Assign name) → IsAssignment rows p name
assignment_of rows p last name true done elsewhere under l d f = absurd (true≢false (ap is_assign f))
assignment_of rows p last name false true elsewhere under l d f = record { assigned = f; whole = l; completed = d }
assignment_of rows p last name false false true under l d f = absurd (true≢false (ap is_assign f))
assignment_of rows p last name false false false true l d f = absurd (true≢false (ap is_assign f))
assignment_of rows p last name false false false false l d f = absurd f

-- what stands at a place of a list that was made from another

pub record IsMade {X Y : Type 0} (f : X → Y) (xs : List X) (i : ℕ) (y : Y) : Type 0 where
  pub item : X
  pub at : slice_get xs i ≡ Some item
  pub is : f item ≡ y

pub made_of : {X Y : Type 0} (f : X → Y) (xs : List X) (i : ℕ) (y : Y) → slice_get (map f xs) i ≡ Some y → IsMade f xs i y
made_of {X} {Y} f xs i y e = by (slice_get xs i) refl (sym (slice_get-map f xs i) ∙ e)
  where
    by : (o : Option X) → slice_get xs i ≡ o → option_map f o ≡ Some y → IsMade f xs i y
    by None at e = none_some e
    by (Some x) at e = record { item = x; at = at; is = one (f x) y e }

made_at : {X Y : Type 0} (f : X → Y) (xs : List X) (i : ℕ) (x : X) → slice_get xs i ≡ Some x → slice_get (map f xs) i ≡ Some (f x)
made_at f xs i x at = slice_get-map f xs i ∙ ap (λ o. option_map f o) at

in_first : {X : Type 0} (xs ys : List X) (i : ℕ) (x : X) → slice_get xs i ≡ Some x → slice_get (xs ++ ys) i ≡ Some x
in_first [] ys i x at = none_some at
in_first (y ∷ xs) ys zero x at = at
in_first (y ∷ xs) ys (suc i) x at = in_first xs ys i x at

in_second : {X : Type 0} (xs ys : List X) (i j : ℕ) (x : X) → i ≡ length xs + j → slice_get ys j ≡ Some x → slice_get (xs ++ ys) i ≡ Some x
in_second [] ys i j x is at = let same : i ≡ j = omega (arith, is) in ap (slice_get ys) same ∙ at
in_second (y ∷ xs) ys zero j x is at = absurd (omega (arith, is))
in_second (y ∷ xs) ys (suc i) j x is at = in_second xs ys i j x (omega (arith, is)) at

has_item : {X : Type 0} (xs : List X) (i : ℕ) → i < length xs → (x : X) × (slice_get xs i ≡ Some x)
has_item [] i lt = absurd (omega (arith, lt))
has_item (x ∷ xs) zero lt = (x, refl)
has_item (x ∷ xs) (suc i) lt = has_item xs i (omega (arith, lt))

pub joined_some : {X : Type 0} (o : Option (Option X)) (x : X) → joined o ≡ Some x → o ≡ Some (Some x)
joined_some None x e = none_some e
joined_some (Some o) x e = ap Some e

-- volumes are written, and then claims

abbrev is_volume_key : Key → Bool
is_volume_key k = kind_index k.kind == 2

abbrev is_written_kind : Key → Bool
is_written_kind k = kind_index k.kind == 2 || kind_index k.kind == 3

-- later rows keep what the next write is made from
record KeepsNext (rows later : List Object) (written : List Key) (binds nth : ℕ) : Type 0 where
  next : (key : Key) → slice_get written nth ≡ Some key → row_at key later ≡ row_at key rows
  claims : (key : Key) → nth < binds → is_volume_key key ≡ false → row_at key later ≡ row_at key rows
  rest : (key : Key) → is_written_kind key ≡ false → row_at key later ≡ row_at key rows

module _ (rows : List Object) (order : AreRows rows) (p : PodData) (last : Option (List ℕ)) (name : List ℕ) (bs : List (Key × Key)) (ps : List Key) (s : IsSearch rows p last name bs ps) where
  abbrev others : List ClaimData
  others = others_in rows (claims_of rows p)

  abbrev node : NodeData
  node = s.prepared.node

  abbrev written : List Key
  written = written_keys (Prepare name bs ps)

  -- each item, by what is known of the claims
  module _ {P : ClaimData → Type 0} (each : Each P others) where
    bound : (i : ℕ) (pair : Key × Key) → slice_get bs i ≡ Some pair → IsBound rows node P (set_aside rows) pair
    bound i pair at = bound_at rows node others s.prepared.prepares.shares (set_aside rows) each s.prepared.prepares.serves.shared i pair
        (subst (λ xs. slice_get xs i ≡ Some pair) s.prepared.prepares.binds_are at)

    provided : (i : ℕ) (key : Key) → slice_get ps i ≡ Some key → IsToProvision rows P key
    provided i key at = provided_at rows node others s.prepared.prepares.shares (set_aside rows) each s.prepared.prepares.serves.shared i key
        (subst (λ xs. slice_get xs i ≡ Some key) s.prepared.prepares.provisions_are at)

  volume_key_at : (i : ℕ) (pair : Key × Key) → slice_get bs i ≡ Some pair → is_volume_key pair.1 ≡ true
  volume_key_at i pair at = ap is_volume_key (bound (others_stored rows p) i pair at).second

  claim_key_at : (i : ℕ) (key : Key) → slice_get ps i ≡ Some key → is_volume_key key ≡ false
  claim_key_at i key at = ap is_volume_key (provided (others_stored rows p) i key at).is

  written_kind : (i : ℕ) (key : Key) → slice_get written i ≡ Some key → is_written_kind key ≡ true
  written_kind i key at = by (item_of (map (λ (pair : Key × Key). pair.1) bs) ps i key at)
    where
      by : IsOf (map (λ (pair : Key × Key). pair.1) bs) ps i key → is_written_kind key ≡ true
      by (OfFirst lt h) =
          let m = made_of (λ (pair : Key × Key). pair.1) bs i key h in
          ap is_written_kind (sym m.is ∙ (bound (others_stored rows p) i m.item m.at).second)
      by (OfSecond j is h) = ap is_written_kind (provided (others_stored rows p) j key h).is

  -- an object of another kind is not written
  other_kind : (nth : ℕ) (key : Key) → is_written_kind key ≡ false → IsUnwritten (Prepare name bs ps) nth key
  other_kind nth key h i lt at = true≢false (sym (written_kind i key at) ∙ h)

  apart : has_twice p.claims ≡ false → (i j : ℕ) (key : Key) → slice_get written i ≡ Some key → slice_get written j ≡ Some key → i ≡ j
  apart once i j key at bt = by (item_of (map (λ (pair : Key × Key). pair.1) bs) ps i key at) (item_of (map (λ (pair : Key × Key). pair.1) bs) ps j key bt)
    where
      in_binds : (i : ℕ) → slice_get (map (λ (pair : Key × Key). pair.1) bs) i ≡ Some key → IsMade (λ (pair : Key × Key). pair.1) bs i key
      in_binds i h = made_of (λ (pair : Key × Key). pair.1) bs i key h

      crossed : (i j : ℕ) → slice_get (map (λ (pair : Key × Key). pair.1) bs) i ≡ Some key → slice_get ps j ≡ Some key → ⊥
      crossed i j h k =
          let m = in_binds i h in
          true≢false (sym (volume_key_at i m.item m.at) ∙ ap is_volume_key m.is ∙ claim_key_at j key k)

      shifted : (i j a b n : ℕ) → i ≡ n + a → j ≡ n + b → a ≡ b → i ≡ j
      shifted i j a b n x y z = omega (arith, x, y, z)

      by : IsOf (map (λ (pair : Key × Key). pair.1) bs) ps i key → IsOf (map (λ (pair : Key × Key). pair.1) bs) ps j key → i ≡ j
      by (OfFirst lt h) (OfFirst mt k) =
          let m = in_binds i h in
          let n = in_binds j k in
          one_bind rows node order others s.prepared.prepares.shares (set_aside rows) s.prepared.prepares.serves.shared i j m.item n.item
          (subst (λ xs. slice_get xs i ≡ Some m.item) s.prepared.prepares.binds_are m.at) (subst (λ xs. slice_get xs j ≡ Some n.item) s.prepared.prepares.binds_are n.at) (m.is ∙ sym n.is)
      by (OfFirst lt h) (OfSecond b y k) = absurd (crossed i b h k)
      by (OfSecond a x h) (OfFirst mt k) = absurd (crossed j a k h)
      by (OfSecond a x h) (OfSecond b y k) =
          shifted i j a b (length (map (λ (pair : Key × Key). pair.1) bs)) x y
          (one_provision rows node others s.prepared.prepares.shares (set_aside rows) (others_apart rows p once) s.prepared.prepares.serves.shared a b key
          (subst (λ xs. slice_get xs a ≡ Some key) s.prepared.prepares.provisions_are h) (subst (λ xs. slice_get xs b ≡ Some key) s.prepared.prepares.provisions_are k))

  -- what is written next is not written before
  next_unwritten : has_twice p.claims ≡ false → (nth : ℕ) (key : Key) → slice_get written nth ≡ Some key → IsUnwritten (Prepare name bs ps) nth key
  next_unwritten once nth key at i lt h = let same = apart once i nth key h at in absurd (omega (arith, same, lt))

  -- a claim is not written before its volume is
  claim_unwritten : (nth : ℕ) (key : Key) → nth < length bs → is_volume_key key ≡ false → IsUnwritten (Prepare name bs ps) nth key
  claim_unwritten nth key below h i lt at = by (item_of (map (λ (pair : Key × Key). pair.1) bs) ps i key at)
    where
      by : IsOf (map (λ (pair : Key × Key). pair.1) bs) ps i key → ⊥
      by (OfFirst mt k) =
          let m = made_of (λ (pair : Key × Key). pair.1) bs i key k in
          true≢false (sym (volume_key_at i m.item m.at) ∙ ap is_volume_key m.is ∙ h)
      by (OfSecond j is k) = let n = length-map bs (λ (pair : Key × Key). pair.1) in absurd (omega (arith, is, n, lt, below))

  -- the writes on the rows themselves
  bind_there : (i : ℕ) (pair : Key × Key) → slice_get bs i ≡ Some pair → is_some (bind_write rows pair) ≡ true
  bind_there i pair at =
      let b = bound (others_stored rows p) i pair at in
      let claim : claim_in (row_at pair.0 rows) ≡ Some b.claim = ap (λ k. claim_in (row_at k rows)) b.first ∙ ap claim_in b.holds in
      let volume : as_volume (row_at pair.1 rows) ≡ Some b.volume = ap (λ k. as_volume (row_at k rows)) b.second
      ∙ ap as_volume (row_at_place kinds.PersistentVolume b.place (Volume b.volume) rows order b.there) in
      ap (λ c. is_some (reference_write c (as_volume (row_at pair.1 rows)))) claim ∙ ap (λ v. is_some (reference_write (Some b.claim) v)) volume

  node_there : (i : ℕ) (key : Key) → slice_get ps i ≡ Some key → is_some (node_write rows name key) ≡ true
  node_there i key at =
      let d = provided (others_stored rows p) i key at in
      ap (λ c. is_some (selecting_write name c)) (ap (λ k. claim_in (row_at k rows)) d.is ∙ ap claim_in d.holds)

  write_there : (nth : ℕ) → nth < length written → is_some (prepare_write rows (Prepare name bs ps) nth) ≡ true
  unfolding prepare_write
  write_there nth lt = let item = has_item written nth lt in by item.0 (item_of (map (λ (pair : Key × Key). pair.1) bs) ps nth item.0 item.1)
    where
      by : (key : Key) → IsOf (map (λ (pair : Key × Key). pair.1) bs) ps nth key → is_some (joined (slice_get (map (bind_write rows) bs ++ map (node_write rows name) ps) nth)) ≡ true
      by key (OfFirst mt h) =
          let m = made_of (λ (pair : Key × Key). pair.1) bs nth key h in
          ap (λ o. is_some (joined o)) (in_first (map (bind_write rows) bs) (map (node_write rows name) ps) nth (bind_write rows m.item)
          (made_at (bind_write rows) bs nth m.item m.at)) ∙ bind_there nth m.item m.at
      by key (OfSecond j is h) =
          let a = length-map bs (λ (pair : Key × Key). pair.1) in
          let b = length-map bs (bind_write rows) in
          let place : nth ≡ length (map (bind_write rows) bs) + j = is ∙ ap (λ n. n + j) (a ∙ sym b) in
          ap (λ o. is_some (joined o)) (in_second (map (bind_write rows) bs) (map (node_write rows name) ps) nth j (node_write rows name key) place
          (made_at (node_write rows name) ps j key h)) ∙ node_there j key h

  -- the writes on later rows, which keep what the next write is made from

  keeps_next : has_twice p.claims ≡ false → (later : List Object) (nth : ℕ) → OthersAreUnchanged rows later (Prepare name bs ps) nth → KeepsNext rows later written (length bs) nth
  keeps_next once later nth kept = record {
    next = λ key at. kept key (next_unwritten once nth key at);
    claims = λ key below h. kept key (claim_unwritten nth key below h);
    rest = λ key h. kept key (other_kind nth key h);
  }

  keeps_all : (nth : ℕ) → KeepsNext rows rows written (length bs) nth
  keeps_all nth = record { next = λ key at. refl; claims = λ key below h. refl; rest = λ key h. refl }

  module _ (later : List Object) (nth : ℕ) (mine : List Entry) (known : list_all is_known (claims_of rows p) ≡ true)
      (kept : KeepsNext rows later written (length bs) nth) (shows : ShowsNewest later mine) where
    newest_of : (key : Key) (o : Object) → row_at key later ≡ row_at key rows → row_at key rows ≡ Some o → IsNewest mine key o
    newest_of key o same at = sym (shows key) ∙ same ∙ at

    sought : Each (IsSought rows) others
    sought = others_sought rows p known s.served

    answered : (a b : Request) → Some a ≡ Some b → RowAllows seats.Scheduler mine a → RowAllows seats.Scheduler mine b
    answered a b e may = subst (λ r. RowAllows seats.Scheduler mine r) (one a b e) may

    bind_allowed : (pair : Key × Key) (request : Request) → nth < length bs → slice_get bs nth ≡ Some pair → bind_write later pair ≡ Some request → RowAllows seats.Scheduler mine request
    bind_allowed pair request below at e =
        let b = bound sought nth pair at in
        let c = b.claim in
        let v = b.volume in
        let claim_row : row_at pair.0 rows ≡ Some (Claim c) = ap (λ k. row_at k rows) b.first ∙ b.holds.stored in
        let volume_row : row_at pair.1 rows ≡ Some (Volume v) = ap (λ k. row_at k rows) b.second ∙ row_at_place kinds.PersistentVolume b.place (Volume v) rows order b.there in
        let claim_same = kept.claims pair.0 below (ap is_volume_key b.first) in
        let volume_same = kept.next pair.1 (in_first (map (λ (x : Key × Key). x.1) bs) ps nth pair.1 (made_at (λ (x : Key × Key). x.1) bs nth pair at)) in
        let seen : bind_write later pair ≡ Some (write_reference v c) =
        ap (λ x. reference_write x (as_volume (row_at pair.1 later))) (ap claim_in (claim_same ∙ claim_row))
        ∙ ap (λ x. reference_write (Some c) x) (ap as_volume (volume_same ∙ volume_row)) in
        answered (write_reference v c) request (sym seen ∙ e)
        (reference_allowed mine v c node (newest_volume (λ u. u ≡ v) mine pair.1 v (newest_of pair.1 (Volume v) volume_same volume_row) refl)
        (newest_claim (λ d. d ≡ c) mine pair.0 c (newest_of pair.0 (Claim c) claim_same claim_row) refl)
        b.holds.known b.eligible (uncarried rows c v b.place b.holds.uncarried b.there))

    provision_allowed : (key : Key) (j : ℕ) (request : Request) → nth ≡ length bs + j → slice_get ps j ≡ Some key → node_write later name key ≡ Some request → RowAllows seats.Scheduler mine request
    provision_allowed key j request place at e =
        let d = provided sought j key at in
        let c = d.claim in
        let x = delayed_class (row_at (class_key (class_of_claim c)) rows) d.holds.delayed in
        let claim_row : row_at key rows ≡ Some (Claim c) = ap (λ k. row_at k rows) d.is ∙ d.holds.stored in
        let n = length-map bs (λ (pair : Key × Key). pair.1) in
        let claim_same = kept.next key (in_second (map (λ (pair : Key × Key). pair.1) bs) ps nth j key (omega (arith, n, place)) at) in
        let seen : node_write later name key ≡ Some (Update (Claim (placed_on name c)) (Some c.meta.version)) =
        ap (selecting_write name) (ap claim_in (claim_same ∙ claim_row)) in
        answered (Update (Claim (placed_on name c)) (Some c.meta.version)) request (sym seen ∙ e)
        (node_allowed mine c node name x.class (newest_claim (λ d. d ≡ c) mine key c (newest_of key (Claim c) claim_same claim_row) refl) s.prepared.named d.holds.undone
        (newest_of (class_key (class_of_claim c)) (Class x.class) (kept.rest (class_key (class_of_claim c)) refl) x.is) x.delayed
        (newest_of (node_key node.meta.name) (Node node) (kept.rest (node_key node.meta.name) refl) s.prepared.first.there))

    allowed : (request : Request) → prepare_write later (Prepare name bs ps) nth ≡ Some request → RowAllows seats.Scheduler mine request
    unfolding prepare_write
    allowed request e = by (item_of (map (bind_write later) bs) (map (node_write later name) ps) nth (Some request) (joined_some _ request e))
      where
        by : IsOf (map (bind_write later) bs) (map (node_write later name) ps) nth (Some request) → RowAllows seats.Scheduler mine request
        by (OfFirst lt h) =
            let m = made_of (bind_write later) bs nth (Some request) h in
            let n = length-map bs (bind_write later) in
            bind_allowed m.item request (omega (arith, n, lt)) m.at m.is
        by (OfSecond j is h) =
            let m = made_of (node_write later name) ps j (Some request) h in
            let n = length-map bs (bind_write later) in
            provision_allowed m.item j request (omega (arith, n, is)) m.at m.is

  have_writes : HasWrite (Prepare name bs ps)
  have_writes = subst (λ xs. 0 < length xs + length ps) (sym s.prepared.prepares.binds_are)
      (subst (λ xs. 0 < length (binds_of rows others s.prepared.prepares.shares) + length xs) (sym s.prepared.prepares.provisions_are)
      (by others (some_others rows p s.waiting) s.prepared.prepares.serves.shared))
    where
      by : (cs : List ClaimData) → IsSome cs → AreShares rows node (set_aside rows) cs s.prepared.prepares.shares
          → 0 < length (binds_of rows cs s.prepared.prepares.shares) + length (provisions_of cs s.prepared.prepares.shares)
      by [] none are = absurd none
      by (c ∷ cs) some are = some_write rows node c cs s.prepared.prepares.shares (set_aside rows) are

-- the laws

pub searched : (rows : List Object) (p : PodData) (last : Option (List ℕ)) (name : List ℕ) (bs : List (Key × Key)) (ps : List Key)
    → IsChoice rows p last (Prepare name bs ps) → IsSearch rows p last name bs ps
searched rows p last name bs ps f = search_of rows p last name bs ps (lacks_claim rows p) (are_completed rows p) (list_any (is_served_elsewhere rows)
    (claims_of rows p)) (list_all (is_under_way rows) (claims_of rows p)) refl refl f

pub prepared_writes_are_allowed : PreparedWritesAreAllowed
unfolding prepare_write
prepared_writes_are_allowed rows later p last (Prepare name bs ps) nth mine request order known f kept shows own e =
    let s = searched rows p last name bs ps f in
    (own, allowed rows order p last name bs ps s later nth mine known.known (keeps_next rows order p last name bs ps s known.once later nth kept) shows request e)
prepared_writes_are_allowed rows later p last (Assign name) nth mine request order known f kept shows own e = none_some e
prepared_writes_are_allowed rows later p last Wait nth mine request order known f kept shows own e = none_some e
prepared_writes_are_allowed rows later p last NoNode nth mine request order known f kept shows own e = none_some e

pub chosen_writes_are_allowed : ChosenWritesAreAllowed
unfolding prepare_write
chosen_writes_are_allowed rows p last (Prepare name bs ps) nth mine request order known f shows own e =
    let s = searched rows p last name bs ps f in
    (own, allowed rows order p last name bs ps s rows nth mine known (keeps_all rows order p last name bs ps s nth) shows request e)
chosen_writes_are_allowed rows p last (Assign name) nth mine request order known f shows own e = none_some e
chosen_writes_are_allowed rows p last Wait nth mine request order known f shows own e = none_some e
chosen_writes_are_allowed rows p last NoNode nth mine request order known f shows own e = none_some e

pub writes_are_apart : WritesAreApart
writes_are_apart rows p last (Prepare name bs ps) i j key order known f at bt = apart rows order p last name bs ps (searched rows p last name bs ps f) known.once i j key at bt
writes_are_apart rows p last (Assign name) i j key order known f at bt = none_some at
writes_are_apart rows p last Wait i j key order known f at bt = none_some at
writes_are_apart rows p last NoNode i j key order known f at bt = none_some at

pub prepared_writes_are_there : PreparedWritesAreThere
prepared_writes_are_there rows p last (Prepare name bs ps) nth order f lt = write_there rows order p last name bs ps (searched rows p last name bs ps f) nth lt
prepared_writes_are_there rows p last (Assign name) nth order f lt = absurd (omega (arith, lt))
prepared_writes_are_there rows p last Wait nth order f lt = absurd (omega (arith, lt))
prepared_writes_are_there rows p last NoNode nth order f lt = absurd (omega (arith, lt))

pub prepared_have_writes : PreparedHaveWrites
prepared_have_writes rows p last (Prepare name bs ps) order f = have_writes rows order p last name bs ps (searched rows p last name bs ps f)
prepared_have_writes rows p last (Assign name) order f = tt
prepared_have_writes rows p last Wait order f = tt
prepared_have_writes rows p last NoNode order f = tt

-- the pod on its node

record IsAdmitting (o : Option Object) (n : NodeData) : Type 0 where
  volume : VolumeData
  is : o ≡ Some (Volume volume)
  admits : admits volume.terms n.meta.labels ≡ true

admitting : (o : Option Object) (n : NodeData) → admits_node o n ≡ true → IsAdmitting o n
admitting None n e = absurd (true≢false (sym e))
admitting (Some (Volume v)) n e = record { volume = v; is = refl; admits = e }
admitting (Some (Class x)) n e = absurd (true≢false (sym e))
admitting (Some (Node x)) n e = absurd (true≢false (sym e))
admitting (Some (Claim x)) n e = absurd (true≢false (sym e))
admitting (Some (Pod x)) n e = absurd (true≢false (sym e))

module _ (rows : List Object) (mine : List Entry) (shows : ShowsNewest rows mine) (n : NodeData) (namespace : List ℕ) where
  seen : (key : Key) (o : Object) → row_at key rows ≡ Some o → IsNewest mine key o
  seen key o at = sym (shows key) ∙ at

  all_ready : (names : List (List ℕ)) → list_any (λ name. is_missing (claim_named rows namespace name)) names ≡ false
      → list_all is_completed (filter_map (claim_named rows namespace) names) ≡ true
      → list_all (volume_admits rows n) (filter_map (claim_named rows namespace) names) ≡ true → AreReadyOn mine n namespace names
  all_ready [] whole done admitted = tt
  all_ready (name ∷ names) whole done admitted = by (claim_named rows namespace name) refl whole done admitted (all_ready names)
    where
      or_right : (a b : Bool) → (a || b) ≡ false → b ≡ false
      or_right true b e = absurd (true≢false e)
      or_right false b e = e

      and_left : (a b : Bool) → (a && b) ≡ true → a ≡ true
      and_left true b e = refl
      and_left false b e = e

      by : (o : Option ClaimData) → claim_named rows namespace name ≡ o
          → (is_missing o || list_any (λ x. is_missing (claim_named rows namespace x)) names) ≡ false
          → list_all is_completed (cons_option o (filter_map (claim_named rows namespace) names)) ≡ true
          → list_all (volume_admits rows n) (cons_option o (filter_map (claim_named rows namespace) names)) ≡ true
          → (list_any (λ x. is_missing (claim_named rows namespace x)) names ≡ false
          → list_all is_completed (filter_map (claim_named rows namespace) names) ≡ true
          → list_all (volume_admits rows n) (filter_map (claim_named rows namespace) names) ≡ true → AreReadyOn mine n namespace names)
          → AreReadyOn mine n namespace (name ∷ names)
      by None at whole done admitted rest = absurd (true≢false whole)
      by (Some c) at whole done admitted rest =
          let v = admitting (row_at (volume_key c.volume_name) rows) n
          (and_left (volume_admits rows n c) (list_all (volume_admits rows n) (filter_map (claim_named rows namespace) names)) admitted) in (
            record {
              claim = c;
              newest = seen (claim_key namespace name) (Claim c) (claim_of_row (row_at (claim_key namespace name) rows) c at);
              completed = and_left (is_completed c) (list_all is_completed (filter_map (claim_named rows namespace) names)) done;
              volume = v.volume;
              volume_newest = seen (volume_key c.volume_name) (Volume v.volume) v.is;
              admitted = v.admits;
            },
            rest (or_right (is_missing (Some c)) (list_any (λ x. is_missing (claim_named rows namespace x)) names) whole)
                (and_right (is_completed c) (list_all is_completed (filter_map (claim_named rows namespace) names)) done)
                (and_right (volume_admits rows n c) (list_all (volume_admits rows n) (filter_map (claim_named rows namespace) names)) admitted),
          )

no_name : (xs : List ℕ) → not (is_empty xs) ≡ false → xs ≡ []
no_name [] e = refl
no_name (x ∷ xs) e = absurd (true≢false e)

pub assigned_pods_are_allowed : AssignedPodsAreAllowed
assigned_pods_are_allowed rows key p uid last name mine at same unscheduled f shows own =
    let a = assignment_of rows p last name (lacks_claim rows p) (are_completed rows p) (list_any (is_served_elsewhere rows) (claims_of rows p))
    (list_all (is_under_way rows) (claims_of rows p)) refl refl f in
    let n = a.assigned.node in
    let there : row_at (node_key name) rows ≡ Some (Node n) = ap (λ x. row_at (node_key x) rows) a.assigned.named ∙ a.assigned.first.there in (
      own,
      record {
        pod = p;
        newest = sym (shows key) ∙ at;
        same = same;
        unscheduled = no_name p.node unscheduled;
        on = n;
        node_newest = sym (shows (node_key name)) ∙ there;
        ready = all_ready rows mine shows n p.meta.namespace p.claims a.whole a.completed a.assigned.first.holds;
      },
    )
