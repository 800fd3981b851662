-- An actor that is neither the scheduler nor ops selects no node.
use Rattle.std.proofs.Common.{◌≡◌, ◌≢◌, ◌∙◌, ℕ, ◌+◌, ◌≤◌, List, [], ◌∷◌, Bool, true, false, Option, Some, refl, ap, subst, arith}
use Rattle.std.specs.declared.cmp.Ordering.{Ordering}
use Rattle.std.specs.declared.cmp.Ordering.TheVariants.{Less, Equal, Greater}
use Rattle.std.specs.Ordering.{is_eq, match_ordering}
use Rattle.plain_data.specs.Pairs.{Pair, pair_key, put_pair, text_cmp}
use Rattle.kube_parts.specs.declared.parts.ClaimPhase.{ClaimPhase}
use Rattle.kube_parts.specs.declared.parts.Modes.{Modes}
use Rattle.kube_objects.specs.declared.objects.Amount.{Amount}
use Rattle.kube_objects.specs.declared.objects.Claim.{Claim as ClaimData}
use Rattle.kube_objects.specs.declared.objects.Meta.{Meta}
use Rattle.kube_objects.specs.declared.objects.Volume.{Volume as VolumeData}
use Rattle.kube_objects.specs.declared.objects.Object.{Object}
use Rattle.kube_objects.specs.declared.objects.Object.TheVariants.{Class, Node, Volume, Claim, Pod}
use Rattle.kube_objects.specs.Bindings.{bind_completed, bound_by_controller, is_completed, is_empty, is_protected_claim, selected_node, yes}
use Rattle.kube_objects.specs.Keys.{key_of, row_at}
use Rattle.kube_objects.proofs.KeyOrder.{row_at_key}
use Rattle.call_types.specs.declared.entry.Entry.{Entry}
use Rattle.call_types.specs.declared.request.NewStatus.TheVariants as statuses
use Rattle.call_types.specs.declared.request.Request.{Request}
use Rattle.call_types.specs.declared.request.Request.TheVariants as requests
use Rattle.call_types.specs.declared.request.SeatKind.{SeatKind}
use Rattle.call_types.specs.declared.request.SeatKind.TheVariants as seats
use Rattle.call_types.specs.declared.setup.Setup.{Setup}
use Rattle.binder_model.specs.Answers.{with_status}
use Rattle.binder_model.specs.BinderLicence.{IsBoundFor}
use Rattle.binder_model.specs.BindWrites.{annotated_meta_if, completed_with}
use Rattle.binder_model.specs.Licence.{ClaimMay, Licensed, binder_claim, claim_guard}
use Rattle.binder_model.specs.Store.{at_version, with_meta}
use Rattle.binder_model.specs.Told.{IsVolumeWith, ToldObject, own}
use Rattle.binder_model.specs.World.{IsHistory, world}
use Rattle.model_laws.proofs.Histories.{rows_stand_in_order}
use Rattle.model_laws.proofs.Lists.{none_some, one}
use Rattle.safety_law.specs.Invariant.Writes.{Writes}
use Rattle.settle_measure.specs.Left.Measure.{total}
use Rattle.worker_core.specs.Roles.{IsBuiltKind}
use Rattle.settle_writes.proofs.Done.Doing.{told_one}
use Rattle.settle_write_counts.specs.Rounds.Counts.{nodes_in, nodes_on, one_if, selections_in}
use Rattle.settle_write_counts.proofs.Rounds.Nodes.{IsMoved, moved_over, no_node, phase_none, rests, updated_none}

-- ---- annotations

-- another annotation is no node
put_other : (k v : List ℕ) (ps : List Pair) → is_eq (text_cmp k selected_node) ≡ false → selections_in (put_pair k v ps) ≤ selections_in ps
put_other k v [] other = let none : one_if (is_eq (text_cmp k selected_node)) ≡ 0 = ap one_if other in omega (arith, none)
put_other k v (p ∷ ps) other = by (text_cmp (pair_key p) k) (put_other k v ps other) (ap one_if other)
  where
    by : (r : Ordering) → selections_in (put_pair k v ps) ≤ selections_in ps → one_if (is_eq (text_cmp k selected_node)) ≡ 0
        → selections_in (match_ordering r (p ∷ put_pair k v ps) ((k, v) ∷ ps) ((k, v) ∷ p ∷ ps)) ≤ selections_in (p ∷ ps)
    by Less rest none = omega (arith, rest)
    by Equal rest none = omega (arith, none)
    by Greater rest none = omega (arith, none)

completed_few : (c : ClaimData) (v : VolumeData) → selections_in (completed_with c v).meta.annotations ≤ selections_in c.meta.annotations
unfolding completed_with
completed_few c v = by (is_empty c.volume_name)
  where
    by : (b : Bool) → selections_in (put_pair bind_completed yes (annotated_meta_if b bound_by_controller c.meta).annotations) ≤ selections_in c.meta.annotations
    by true =
        let first = put_other bound_by_controller yes c.meta.annotations refl in
        let second = put_other bind_completed yes (put_pair bound_by_controller yes c.meta.annotations) refl in
        omega (arith, first, second)
    by false = put_other bind_completed yes c.meta.annotations refl

-- what the binder and claim protection may write of a claim

module _ (mine : List Entry) (new c : ClaimData) where
  binder_few : (b : Bool) → ClaimMay (binder_claim b) mine new c → selections_in new.meta.annotations ≤ selections_in c.meta.annotations
  binder_few true may = by t.0 t.2
    where
      t : (x : Object) × ToldObject (λ y. y ≡ x) mine × IsVolumeWith (IsBoundFor c new) x
      t = told_one (IsVolumeWith (IsBoundFor c new)) mine may

      by : (x : Object) → IsVolumeWith (IsBoundFor c new) x → selections_in new.meta.annotations ≤ selections_in c.meta.annotations
      by (Volume v) is =
          let same : selections_in new.meta.annotations ≡ selections_in (completed_with c v).meta.annotations = ap (λ (x : ClaimData). selections_in x.meta.annotations) is.change in
          let few = completed_few c v in
          omega (arith, same, few)
      by (Class x) is = absurd is
      by (Node x) is = absurd is
      by (Claim x) is = absurd is
      by (Pod x) is = absurd is
  binder_few false may = let same : selections_in new.meta.annotations ≡ selections_in c.meta.annotations = ap (λ (x : ClaimData). selections_in x.meta.annotations) may.change in omega (arith, same)

  guard_few : (b : Bool) → ClaimMay (claim_guard b) mine new c → selections_in new.meta.annotations ≤ selections_in c.meta.annotations
  guard_few true may = let same : selections_in new.meta.annotations ≡ selections_in c.meta.annotations = ap (λ (m : Meta). selections_in m.annotations) may.guard.change in omega (arith, same)
  guard_few false may = let same : selections_in new.meta.annotations ≡ selections_in c.meta.annotations = ap (λ (x : ClaimData). selections_in x.meta.annotations) may.change in omega (arith, same)

-- a status of a claim leaves its annotations
status_same : (phase : ClaimPhase) (modes : Modes) (amount : Option Amount) (old new : Object) (n : ℕ)
    → with_status (statuses.Claim phase modes amount) old ≡ Some new → (nodes_on (at_version new n) ≡ nodes_on old) × (key_of (at_version new n) ≡ key_of old)
unfolding with_status at_version with_meta
status_same phase modes amount (Claim c) new n e = subst (λ o. (nodes_on (at_version o n) ≡ nodes_on (Claim c)) × (key_of (at_version o n) ≡ key_of (Claim c))) (one _ new e) (refl, refl)
status_same phase modes amount (Class x) new n e = none_some e
status_same phase modes amount (Node x) new n e = none_some e
status_same phase modes amount (Volume x) new n e = none_some e
status_same phase modes amount (Pod x) new n e = none_some e

-- ---- the writes

module _ (setup : Setup) (seat : ℕ) (h : List Entry) (history : IsHistory setup h) (o : Object) (rows : List Object) (moved : IsMoved (world setup h).store.rows rows o) where
  binder_nodes : (r : Request) → Licensed seats.Binder (own seat h) r → Writes (world setup h) seats.Binder r o → total nodes_on rows ≤ nodes_in (world setup h)
  unfolding at_version with_meta
  binder_nodes (requests.Update (Claim new) given) may u =
      let r = rests setup seat h history seats.Binder new given o (λ c. ClaimMay (binder_claim (is_completed new)) (own seat h) new c) may.1 u in
      let few = moved_over (world setup h).store.rows rows o (Claim r.on) (rows_stand_in_order setup h) r.there moved in
      let nodes = r.nodes in
      let less = binder_few (own seat h) new r.on (is_completed new) r.row in
      omega (arith, few, nodes, less)
  binder_nodes (requests.Update (Volume new) given) may i = no_node setup seat h history o rows moved (ap nodes_on i.is ∙ updated_none i.old new ((world setup h).store.version + 1))
  binder_nodes (requests.UpdateStatus key (statuses.Volume phase) given) may i =
      no_node setup seat h history o rows moved (ap nodes_on i.is ∙ phase_none phase i.old i.new ((world setup h).store.version + 1) i.fits)
  binder_nodes (requests.UpdateStatus key (statuses.Claim phase modes amount) given) may i =
      let same = status_same phase modes amount i.old i.new ((world setup h).store.version + 1) i.fits in
      let keyed : key_of o ≡ key = ap key_of i.is ∙ (same.1 ∙ row_at_key key i.old (world setup h).store.rows i.there) in
      let few = moved_over (world setup h).store.rows rows o i.old (rows_stand_in_order setup h) (ap (λ k. row_at k (world setup h).store.rows) keyed ∙ i.there) moved in
      let nodes : nodes_on o ≡ nodes_on i.old = ap nodes_on i.is ∙ same.0 in
      omega (arith, few, nodes)
  binder_nodes (requests.Update (Class x) given) may i = absurd may.1
  binder_nodes (requests.Update (Node x) given) may i = absurd may.1
  binder_nodes (requests.Update (Pod x) given) may i = absurd may.1
  binder_nodes (requests.Create x) may i = absurd may.1
  binder_nodes (requests.Edit key change) may i = absurd may.1
  binder_nodes (requests.Delete key given) may i = absurd may.1
  binder_nodes (requests.BindPod key uid node) may i = absurd may.1
  binder_nodes (requests.FinishPod key uid node epoch) may i = absurd may.1
  binder_nodes _ may i = absurd i

  claim_guard_nodes : (r : Request) → Licensed seats.ClaimProtect (own seat h) r → Writes (world setup h) seats.ClaimProtect r o → total nodes_on rows ≤ nodes_in (world setup h)
  claim_guard_nodes (requests.Update (Claim new) given) may u =
      let r = rests setup seat h history seats.ClaimProtect new given o (λ c. ClaimMay (claim_guard (is_protected_claim new)) (own seat h) new c) may.1 u in
      let few = moved_over (world setup h).store.rows rows o (Claim r.on) (rows_stand_in_order setup h) r.there moved in
      let nodes = r.nodes in
      let less = guard_few (own seat h) new r.on (is_protected_claim new) r.row in
      omega (arith, few, nodes, less)
  claim_guard_nodes (requests.Update (Volume x) given) may i = absurd may.1
  claim_guard_nodes (requests.Update (Class x) given) may i = absurd may.1
  claim_guard_nodes (requests.Update (Node x) given) may i = absurd may.1
  claim_guard_nodes (requests.Update (Pod x) given) may i = absurd may.1
  claim_guard_nodes (requests.Create x) may i = absurd may.1
  claim_guard_nodes (requests.UpdateStatus key status given) may i = absurd may.1
  claim_guard_nodes (requests.Edit key change) may i = absurd may.1
  claim_guard_nodes (requests.Delete key given) may i = absurd may.1
  claim_guard_nodes (requests.BindPod key uid node) may i = absurd may.1
  claim_guard_nodes (requests.FinishPod key uid node epoch) may i = absurd may.1
  claim_guard_nodes _ may i = absurd i

  volume_guard_nodes : (r : Request) → Licensed seats.VolumeProtect (own seat h) r → Writes (world setup h) seats.VolumeProtect r o → total nodes_on rows ≤ nodes_in (world setup h)
  volume_guard_nodes (requests.Update (Volume new) given) may i = no_node setup seat h history o rows moved (ap nodes_on i.is ∙ updated_none i.old new ((world setup h).store.version + 1))
  volume_guard_nodes (requests.Update (Claim x) given) may i = absurd may.1
  volume_guard_nodes (requests.Update (Class x) given) may i = absurd may.1
  volume_guard_nodes (requests.Update (Node x) given) may i = absurd may.1
  volume_guard_nodes (requests.Update (Pod x) given) may i = absurd may.1
  volume_guard_nodes (requests.Create x) may i = absurd may.1
  volume_guard_nodes (requests.UpdateStatus key status given) may i = absurd may.1
  volume_guard_nodes (requests.Edit key change) may i = absurd may.1
  volume_guard_nodes (requests.Delete key given) may i = absurd may.1
  volume_guard_nodes (requests.BindPod key uid node) may i = absurd may.1
  volume_guard_nodes (requests.FinishPod key uid node epoch) may i = absurd may.1
  volume_guard_nodes _ may i = absurd i

  agent_nodes : (r : Request) → Licensed seats.Agent (own seat h) r → Writes (world setup h) seats.Agent r o → total nodes_on rows ≤ nodes_in (world setup h)
  unfolding at_version with_meta
  agent_nodes (requests.FinishPod key uid node epoch) may i = no_node setup seat h history o rows moved (ap nodes_on i.is)
  agent_nodes (requests.Update x given) may i = absurd may.1
  agent_nodes (requests.Create x) may i = absurd may.1
  agent_nodes (requests.UpdateStatus key status given) may i = absurd may.1
  agent_nodes (requests.Edit key change) may i = absurd may.1
  agent_nodes (requests.Delete key given) may i = absurd may.1
  agent_nodes (requests.BindPod key uid node) may i = absurd may.1
  agent_nodes _ may i = absurd i

  pub other_nodes : (kind : SeatKind) (r : Request) → IsBuiltKind kind → kind ≢ seats.Scheduler → kind ≢ seats.Ops → Licensed kind (own seat h) r
      → Writes (world setup h) kind r o → total nodes_on rows ≤ nodes_in (world setup h)
  other_nodes seats.User r built scheduler ops may writes = absurd built
  other_nodes seats.Scheduler r built scheduler ops may writes = absurd (scheduler refl)
  other_nodes seats.Ops r built scheduler ops may writes = absurd (ops refl)
  other_nodes seats.Binder r built scheduler ops may writes = binder_nodes r may writes
  other_nodes seats.ClaimProtect r built scheduler ops may writes = claim_guard_nodes r may writes
  other_nodes seats.VolumeProtect r built scheduler ops may writes = volume_guard_nodes r may writes
  other_nodes seats.Agent r built scheduler ops may writes = agent_nodes r may writes
