-- What a write does to the nodes that are selected for claims.
use Rattle.std.proofs.Common.{◌≡◌, ◌∙◌, ◌⊎◌, ℕ, ◌+◌, ◌≤◌, List, [], ◌∷◌, Bool, true, false, Option, Some, None, inl, inr, refl, ap, subst, arith, if◌then◌else◌}
use Rattle.std.specs.Prelude.{option_map}
use Rattle.std.specs.declared.cmp.Ordering.{Ordering}
use Rattle.std.specs.declared.cmp.Ordering.TheVariants.{Less, Equal, Greater}
use Rattle.std.specs.Ordering.{is_eq, match_ordering}
use Rattle.plain_data.specs.Pairs.{Pair, pair_at, pair_key, put_pair, text_cmp, value_at, without_key}
use Rattle.kube_objects.specs.declared.key.Key.{Key}
use Rattle.kube_parts.specs.declared.parts.VolumePhase.{VolumePhase}
use Rattle.kube_objects.specs.declared.objects.Claim.{Claim as ClaimData}
use Rattle.kube_objects.specs.declared.objects.Volume.{Volume as VolumeData}
use Rattle.kube_objects.specs.declared.objects.Object.{Object}
use Rattle.kube_objects.specs.declared.objects.Object.TheVariants.{Class, Node, Volume, Claim, Pod}
use Rattle.kube_objects.specs.Bindings.{selected_node}
use Rattle.kube_objects.specs.Keys.{AreRows, key_of, kind_index, kind_of, meta_of, put_row, row_at, without_row}
use Rattle.kube_objects.proofs.KeyOrder.{row_at_key}
use Rattle.call_types.specs.declared.entry.Entry.{Entry}
use Rattle.call_types.specs.declared.request.NewStatus.TheVariants as statuses
use Rattle.call_types.specs.declared.request.Request.{Request}
use Rattle.call_types.specs.declared.request.Request.TheVariants as requests
use Rattle.call_types.specs.declared.request.SeatKind.{SeatKind}
use Rattle.call_types.specs.declared.request.SeatKind.TheVariants as seats
use Rattle.call_types.specs.declared.setup.Setup.{Setup}
use Rattle.binder_model.specs.Answers.{is_other_version, with_status}
use Rattle.binder_model.specs.At.{IsWrittenAt}
use Rattle.binder_model.specs.Licence.{RowAllows}
use Rattle.binder_model.specs.ObjectKeys.{claim_key}
use Rattle.binder_model.specs.OpsLicence.{MayClearNode}
use Rattle.binder_model.specs.SchedulerLicence.{MaySelectNode}
use Rattle.binder_model.specs.Store.{admitted_object, at_version, created_object, marked_object, updated_object, with_meta, with_status_of, without_status}
use Rattle.binder_model.specs.Told.{IsClaimWith, ToldClaim, ToldObject, own}
use Rattle.binder_model.specs.World.{IsHistory, World, world}
use Rattle.model_laws.proofs.Histories.{rows_stand_in_order}
use Rattle.model_laws.proofs.Lists.{none_some, one}
use Rattle.model_laws.proofs.Truths.{told_is_true}
use Rattle.safety_law.specs.Invariant.Writes.{IsUpdate, Writes}
use Rattle.settle_measure.specs.Left.Measure.{total}
use Rattle.settle_measure.proofs.Left.Sums.{gone_falls, none_paid, none_pays, put_falls}
use Rattle.settle_calls.proofs.Events.Rows.{put_total, without_total}
use Rattle.settle_writes.proofs.Done.Doing.{stands_it, told_one}
use Rattle.settle_write_counts.specs.Rounds.Counts.{nodes_in, nodes_on, one_if, selections_in}

-- ---- annotations

fewer : (node : List ℕ) (ps : List Pair) → value_at selected_node ps ≡ Some node → selections_in (without_key selected_node ps) + 1 ≤ selections_in ps
fewer node [] e = none_some e
fewer node (p ∷ ps) e = by (is_eq (text_cmp (pair_key p) selected_node)) refl e (fewer node ps)
  where
    by : (b : Bool) → is_eq (text_cmp (pair_key p) selected_node) ≡ b → option_map (λ (q : Pair). q.1) (if b then Some p else pair_at selected_node ps) ≡ Some node
        → (value_at selected_node ps ≡ Some node → selections_in (without_key selected_node ps) + 1 ≤ selections_in ps)
        → selections_in (if b then ps else p ∷ without_key selected_node ps) + 1 ≤ one_if b + selections_in ps
    by true is h rest = omega arith
    by false is h rest =
        let r = rest h in
        let none : one_if (is_eq (text_cmp (pair_key p) selected_node)) ≡ 0 = ap one_if is in
        omega (arith, r, none)

one_few : (b : Bool) → one_if b ≤ 1
one_few true = omega arith
one_few false = omega arith

one_more : (k v : List ℕ) (ps : List Pair) → selections_in (put_pair k v ps) ≤ selections_in ps + 1
one_more k v [] = let few = one_few (is_eq (text_cmp k selected_node)) in omega (arith, few)
one_more k v (p ∷ ps) = by (text_cmp (pair_key p) k) (one_more k v ps) (one_few (is_eq (text_cmp k selected_node)))
  where
    by : (r : Ordering) → selections_in (put_pair k v ps) ≤ selections_in ps + 1 → one_if (is_eq (text_cmp k selected_node)) ≤ 1
        → selections_in (match_ordering r (p ∷ put_pair k v ps) ((k, v) ∷ ps) ((k, v) ∷ p ∷ ps)) ≤ selections_in (p ∷ ps) + 1
    by Less rest few = omega (arith, rest)
    by Equal rest few = omega (arith, few)
    by Greater rest few = omega (arith, few)

-- ---- rows

-- an object was written, and stands or has left
abbrev pub IsMoved : List Object → List Object → Object → Type 0
IsMoved old new o = (new ≡ put_row o old) ⊎ (new ≡ without_row (key_of o) old)

moved_few : (old new : List Object) (o : Object) → IsMoved old new o → total nodes_on new ≤ total nodes_on old + nodes_on o
moved_few old new o (inl put) = let e = ap (total nodes_on) put in let h = put_total nodes_on o old in omega (arith, e, h)
moved_few old new o (inr gone) = let e = ap (total nodes_on) gone in let h = without_total nodes_on (key_of o) old in omega (arith, e, h)

pub moved_over : (old new : List Object) (o was : Object) → AreRows old → row_at (key_of o) old ≡ Some was → IsMoved old new o → total nodes_on new + nodes_on was ≤ total nodes_on old + nodes_on o
moved_over old new o was order there (inl put) =
    let e = ap (total nodes_on) put in
    let h = put_falls nodes_on nodes_on none_paid o was old order there (λ x i other. omega arith) in
    let z = none_pays old in
    omega (arith, e, h, z)
moved_over old new o was order there (inr gone) =
    let e = ap (total nodes_on) gone in
    let h = gone_falls nodes_on nodes_on none_paid (key_of o) was old order there (λ x i other. omega arith) in
    let z = none_pays old in
    omega (arith, e, h, z)

-- ---- what is no claim has no node

pub updated_none : (old : Object) (v : VolumeData) (n : ℕ) → nodes_on (updated_object old (Volume v) n) ≡ 0
unfolding updated_object with_meta with_status_of
updated_none (Class x) v n = refl
updated_none (Node x) v n = refl
updated_none (Volume x) v n = refl
updated_none (Claim x) v n = refl
updated_none (Pod x) v n = refl

marked_none : (o : Object) (n : ℕ) (moment : List ℕ) → kind_index (kind_of o) ≡ 2 → nodes_on (marked_object o n moment) ≡ 0
unfolding marked_object with_meta
marked_none (Class x) n moment e = refl
marked_none (Node x) n moment e = refl
marked_none (Volume v) n moment e = refl
marked_none (Claim c) n moment e = absurd (omega (arith, e))
marked_none (Pod p) n moment e = refl

pub phase_none : (phase : VolumePhase) (old new : Object) (n : ℕ) → with_status (statuses.Volume phase) old ≡ Some new → nodes_on (at_version new n) ≡ 0
unfolding with_status at_version with_meta
phase_none phase (Volume v) new n e = subst (λ o. nodes_on (at_version o n) ≡ 0) (one _ new e) refl
phase_none phase (Class x) new n e = none_some e
phase_none phase (Node x) new n e = none_some e
phase_none phase (Claim x) new n e = none_some e
phase_none phase (Pod x) new n e = none_some e

-- ---- a claim is written over the one that was told

-- a write of ops that takes a node back
abbrev pub taken_back : Request → ℕ
taken_back (requests.Update (Claim c) given) = 1
taken_back r = 0

pub record Rests (w : World) (new : ClaimData) (o : Object) (Row : ClaimData → Type 0) : Type 0 where
  pub on : ClaimData
  pub row : Row on
  pub there : row_at (key_of o) w.store.rows ≡ Some (Claim on)
  pub nodes : nodes_on o ≡ selections_in new.meta.annotations

module _ (setup : Setup) (seat : ℕ) (h : List Entry) (history : IsHistory setup h) where
  pub rests : (kind : SeatKind) (new : ClaimData) (given : Option ℕ) (o : Object) (Row : ClaimData → Type 0)
      → ToldClaim (λ c. IsWrittenAt given new.meta.namespace new.meta.name c.meta × Row c) (own seat h) → IsUpdate (world setup h).store kind (Claim new) given o
      → Rests (world setup h) new o Row
  unfolding updated_object with_meta with_status_of
  rests kind new given o Row told u = by t.0 t.1 t.2
    where
      t : (x : Object) × ToldObject (λ y. y ≡ x) (own seat h) × IsClaimWith (λ c. IsWrittenAt given new.meta.namespace new.meta.name c.meta × Row c) x
      t = told_one (IsClaimWith (λ c. IsWrittenAt given new.meta.namespace new.meta.name c.meta × Row c)) (own seat h) told

      by : (x : Object) → ToldObject (λ y. y ≡ x) (own seat h) → IsClaimWith (λ c. IsWrittenAt given new.meta.namespace new.meta.name c.meta × Row c) x → Rests (world setup h) new o Row
      by (Claim c) it is =
          let keyed : key_of (Claim c) ≡ key_of (Claim new) = λ i. claim_key (is.0.placed i) (is.0.named i) in
          let same : u.old ≡ Claim c = stands_it setup h (Claim c) u.old (key_of (Claim new)) (told_is_true setup h seat (Claim c) history it) keyed
          u.there (subst (λ g. is_other_version g (meta_of u.old).version ≡ false) is.0.version u.version) in
          let is_o : o ≡ updated_object (Claim c) (Claim new) ((world setup h).store.version + 1) = u.is ∙ ap (λ y. updated_object y (Claim new) ((world setup h).store.version + 1)) same in
          record { on = c; row = is.1; there = ap (λ y. row_at (key_of y) (world setup h).store.rows) is_o ∙ (u.there ∙ ap Some same); nodes = ap nodes_on is_o }
      by (Class x) it is = absurd is
      by (Node x) it is = absurd is
      by (Volume x) it is = absurd is
      by (Pod x) it is = absurd is

  -- ---- a scheduler selects one node with a write at most

  module _ (o : Object) (rows : List Object) (moved : IsMoved (world setup h).store.rows rows o) where
    pub no_node : nodes_on o ≡ 0 → total nodes_on rows ≤ nodes_in (world setup h)
    no_node none = let few = moved_few (world setup h).store.rows rows o moved in omega (arith, few, none)

    pub scheduled_nodes : (r : Request) → RowAllows seats.Scheduler (own seat h) r → Writes (world setup h) seats.Scheduler r o → total nodes_on rows ≤ nodes_in (world setup h) + 1
    unfolding at_version with_meta
    scheduled_nodes (requests.Update (Claim new) given) may u =
        let r = rests seats.Scheduler new given o (λ c. MaySelectNode (own seat h) c new) may u in
        let over = moved_over (world setup h).store.rows rows o (Claim r.on) (rows_stand_in_order setup h) r.there moved in
        let nodes = r.nodes in
        let change : selections_in new.meta.annotations ≡ selections_in (put_pair selected_node r.row.node.meta.name r.on.meta.annotations) =
        ap (λ (c : ClaimData). selections_in c.meta.annotations) r.row.change in
        let more = one_more selected_node r.row.node.meta.name r.on.meta.annotations in
        omega (arith, over, nodes, change, more)
    scheduled_nodes (requests.Update (Volume new) given) may i = let none = no_node (ap nodes_on i.is ∙ updated_none i.old new ((world setup h).store.version + 1)) in omega (arith, none)
    scheduled_nodes (requests.Update (Class x) given) may i = absurd may
    scheduled_nodes (requests.Update (Node x) given) may i = absurd may
    scheduled_nodes (requests.Update (Pod x) given) may i = absurd may
    scheduled_nodes (requests.BindPod key uid node) may i = let none = no_node (ap nodes_on i.is) in omega (arith, none)
    scheduled_nodes (requests.Create x) may i = absurd may
    scheduled_nodes (requests.UpdateStatus key status given) may i = absurd may
    scheduled_nodes (requests.Edit key change) may i = absurd may
    scheduled_nodes (requests.Delete key given) may i = absurd may
    scheduled_nodes (requests.FinishPod key uid node epoch) may i = absurd may
    scheduled_nodes _ may i = absurd i

    -- ---- ops takes a node back with each write of a claim

    pub ops_nodes : (r : Request) → RowAllows seats.Ops (own seat h) r → Writes (world setup h) seats.Ops r o → total nodes_on rows + taken_back r ≤ nodes_in (world setup h)
    unfolding created_object admitted_object without_status at_version with_meta
    ops_nodes (requests.Update (Claim new) given) may u =
        let r = rests seats.Ops new given o (λ c. MayClearNode (own seat h) c new) may u in
        let over = moved_over (world setup h).store.rows rows o (Claim r.on) (rows_stand_in_order setup h) r.there moved in
        let nodes = r.nodes in
        let change : selections_in new.meta.annotations ≡ selections_in (without_key selected_node r.on.meta.annotations) = ap (λ (c : ClaimData). selections_in c.meta.annotations) r.row.change in
        let less = fewer r.row.node r.on.meta.annotations r.row.selected in
        omega (arith, over, nodes, change, less)
    ops_nodes (requests.Create (Volume v)) may i = let none = no_node (ap nodes_on i.is) in omega (arith, none)
    ops_nodes (requests.Create (Class x)) may i = absurd may
    ops_nodes (requests.Create (Node x)) may i = absurd may
    ops_nodes (requests.Create (Claim x)) may i = absurd may
    ops_nodes (requests.Create (Pod x)) may i = absurd may
    ops_nodes (requests.UpdateStatus key (statuses.Volume phase) given) may i = let none =
        no_node (ap nodes_on i.is ∙ phase_none phase i.old i.new ((world setup h).store.version + 1) i.fits) in omega (arith, none)
    ops_nodes (requests.UpdateStatus key (statuses.Claim phase modes amount) given) may i = absurd may
    ops_nodes (requests.Delete key (Some uid)) may i =
        let own_kind : kind_index (kind_of i.old) ≡ 2 = ap (λ (k : Key). kind_index k.kind) (row_at_key key i.old (world setup h).store.rows i.there) ∙ ap kind_index may.0 in
        let none = no_node (ap nodes_on i.is ∙ marked_none i.old ((world setup h).store.version + 1) (world setup h).moment own_kind) in
        omega (arith, none)
    ops_nodes (requests.Delete key None) may i = absurd may
    ops_nodes (requests.Update (Volume x) given) may i = absurd may
    ops_nodes (requests.Update (Class x) given) may i = absurd may
    ops_nodes (requests.Update (Node x) given) may i = absurd may
    ops_nodes (requests.Update (Pod x) given) may i = absurd may
    ops_nodes (requests.BindPod key uid node) may i = absurd may
    ops_nodes (requests.Edit key change) may i = absurd may
    ops_nodes (requests.FinishPod key uid node epoch) may i = absurd may
    ops_nodes _ may i = absurd i
