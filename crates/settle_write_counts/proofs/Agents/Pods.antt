-- How many pods stand, and what a call of an actor does to them.
use Rattle.std.proofs.Common.{◌≡◌, ◌∙◌, ℕ, ◌+◌, ◌≤◌, List, [], ◌∷◌, Bool, true, false, Option, Some, None, inl, inr, refl, ap, arith}
use Rattle.std.specs.Prelude.{not, ⊤, bytes_eq}
use Rattle.kube_objects.specs.declared.key.Key.{Key}
use Rattle.kube_parts.specs.declared.names.Field.TheVariants as fields
use Rattle.kube_parts.specs.declared.parts.Kind.{Kind}
use Rattle.kube_parts.specs.declared.parts.Kind.TheVariants as kinds
use Rattle.kube_objects.specs.declared.objects.Object.{Object}
use Rattle.kube_objects.specs.declared.objects.Object.TheVariants.{Class, Node, Volume, Claim, Pod}
use Rattle.kube_objects.specs.declared.objects.Pod.{Pod as PodData}
use Rattle.kube_parts.specs.declared.uid.Uid.{Uid}
use Rattle.kube_objects.specs.Bindings.{is_deleting}
use Rattle.kube_objects.specs.Keys.{AreRows, key_of, kind_of, row_at, without_row}
use Rattle.kube_objects.proofs.KeyOrder.{row_at_key}
use Rattle.call_types.specs.declared.entry.Entry.{Entry}
use Rattle.call_types.specs.declared.reply.Refusal.{Refusal}
use Rattle.call_types.specs.declared.reply.Refusal.TheVariants as refusals
use Rattle.call_types.specs.declared.request.Request.{Request}
use Rattle.call_types.specs.declared.request.Request.TheVariants as requests
use Rattle.call_types.specs.declared.request.SeatKind.{SeatKind}
use Rattle.call_types.specs.declared.request.SeatKind.TheVariants as seats
use Rattle.call_types.specs.declared.setup.Setup.{Setup}
use Rattle.binder_model.specs.Answers.{Outcome, Removes, Says, Stores, after, finish, outcome, pod_with, refuse, refuse_stale}
use Rattle.binder_model.specs.Devices.{device_answer, epoch_if_stale}
use Rattle.binder_model.specs.Licence.{Licensed}
use Rattle.binder_model.specs.Store.{State, at_version}
use Rattle.binder_model.specs.World.{OnStore, World, effect, on_devices, world_after}
use Rattle.model_laws.proofs.Identity.{key-created}
use Rattle.model_laws.proofs.Lists.{none_some, one}
use Rattle.safety_law.specs.Invariant.Moves.{written_by}
use Rattle.safety_law.specs.Invariant.Whence.{IsNext}
use Rattle.safety_law.specs.Invariant.Writes.{Writes}
use Rattle.safety_law.proofs.Invariant.Whence.{bound_next, finished_next, marked_next, status_next, updated_next}
use Rattle.settle_measure.specs.Left.Measure.{pods_in, total}
use Rattle.settle_measure.proofs.Left.Sums.{gone_falls, none_paid, none_pays, put_falls}
use Rattle.worker_core.specs.Roles.{IsBuiltKind}
use Rattle.settle_calls.proofs.Events.Rows.{put_total, without_total}
use Rattle.settle_write_counts.proofs.Rounds.Nodes.{IsMoved}

-- ---- rows

abbrev of_kind : Kind → ℕ
of_kind kinds.Pod = 1
of_kind kind = 0

abbrev pub is_pod : Object → ℕ
is_pod o = of_kind (kind_of o)

pub pods_are : (rows : List Object) → pods_in rows ≡ total is_pod rows
pods_are [] = refl
pods_are (Class x ∷ os) = let rest = pods_are os in omega (arith, rest)
pods_are (Node x ∷ os) = let rest = pods_are os in omega (arith, rest)
pods_are (Volume x ∷ os) = let rest = pods_are os in omega (arith, rest)
pods_are (Claim x ∷ os) = let rest = pods_are os in omega (arith, rest)
pods_are (Pod x ∷ os) = let rest = pods_are os in omega (arith, rest)

module _ (old new : List Object) (order : AreRows old) (o : Object) where
  -- a row is put in place of another, or leaves
  over_stays : (was : Object) → row_at (key_of o) old ≡ Some was → IsMoved old new o → pods_in new ≤ pods_in old
  over_stays was there (inl put) =
      let e = ap (total is_pod) put in
      let h = put_falls is_pod is_pod none_paid o was old order there (λ x i other. omega arith) in
      let z = none_pays old in
      let same : is_pod was ≡ is_pod o = ap (λ (k : Key). of_kind k.kind) (row_at_key (key_of o) was old there) in
      let a = pods_are old in
      let b = pods_are new in
      omega (arith, e, h, z, same, a, b)
  over_stays was there (inr gone) =
      let e = ap (total is_pod) gone in
      let h = without_total is_pod (key_of o) old in
      let a = pods_are old in
      let b = pods_are new in
      omega (arith, e, h, a, b)

  -- what is no pod is put where nothing stood
  none_stays : is_pod o ≡ 0 → IsMoved old new o → pods_in new ≤ pods_in old
  none_stays none (inl put) =
      let e = ap (total is_pod) put in
      let h = put_total is_pod o old in
      let a = pods_are old in
      let b = pods_are new in
      omega (arith, e, h, none, a, b)
  none_stays none (inr gone) =
      let e = ap (total is_pod) gone in
      let h = without_total is_pod (key_of o) old in
      let a = pods_are old in
      let b = pods_are new in
      omega (arith, e, h, a, b)

  -- a pod leaves
  pod_leaves : (p : PodData) → row_at (key_of o) old ≡ Some (Pod p) → new ≡ without_row (key_of o) old → pods_in new + 1 ≤ pods_in old
  pod_leaves p there gone =
      let e = ap (total is_pod) gone in
      let h = gone_falls is_pod is_pod none_paid (key_of o) (Pod p) old order there (λ x i other. omega arith) in
      let z = none_pays old in
      let a = pods_are old in
      let b = pods_are new in
      omega (arith, e, h, z, a, b)

-- ---- what an actor writes

-- none creates a pod
no_pod : (kind : SeatKind) (mine : List Entry) (x : Object) → IsBuiltKind kind → Licensed kind mine (requests.Create x) → is_pod x ≡ 0
no_pod kind mine (Class x) built may = refl
no_pod kind mine (Node x) built may = refl
no_pod kind mine (Volume x) built may = refl
no_pod kind mine (Claim x) built may = refl
no_pod seats.User mine (Pod x) built may = absurd built
no_pod seats.Binder mine (Pod x) built may = absurd may.1
no_pod seats.Ops mine (Pod x) built may = absurd may.1
no_pod seats.Scheduler mine (Pod x) built may = absurd may.1
no_pod seats.ClaimProtect mine (Pod x) built may = absurd may.1
no_pod seats.VolumeProtect mine (Pod x) built may = absurd may.1
no_pod seats.Agent mine (Pod x) built may = absurd may.1

-- what is written stands in place of what stood, or is no pod
module _ (w : World) (order : AreRows w.store.rows) (mine : List Entry) (kind : SeatKind) (built : IsBuiltKind kind) (o : Object) (rows : List Object) (moved : IsMoved w.store.rows rows o) where
  over : (old : Object) → IsNext w.store old o → pods_in rows ≤ pods_in w.store.rows
  over old next = over_stays w.store.rows rows order o old next.there moved

  pub writes_stay : (request : Request) → Licensed kind mine request → Writes w kind request o → pods_in rows ≤ pods_in w.store.rows
  writes_stay (requests.Create x) may i = none_stays w.store.rows rows order o (ap is_pod i.is ∙ (ap (λ (k : Key). of_kind k.kind) (key-created _ x _ _) ∙ no_pod kind mine x built may)) moved
  writes_stay (requests.Update new given) may i = over i.old (updated_next w.store kind new given o i)
  writes_stay (requests.UpdateStatus key status given) may i = over i.old (status_next w.store kind key status given o i)
  writes_stay (requests.Edit key change) may i = over i.update.old (updated_next w.store kind i.new None o i.update)
  writes_stay (requests.Delete key given) may i = over i.old (marked_next w.store w.moment key given o i)
  writes_stay (requests.BindPod key uid node) may i = over (Pod i.pod) (bound_next w.store kind key uid node o i)
  writes_stay (requests.FinishPod key uid node epoch) may i = over (Pod i.pod) (finished_next w.store kind key uid node (epoch_if_stale w.devices node epoch) o i)
  writes_stay _ may i = absurd i

-- ---- what an agent writes

-- the end of a pod puts no object
abbrev PutsNone : Outcome → Type 0
PutsNone (Stores change o) = ⊥
PutsNone x = ⊤

refused : (b : Bool) (refusal : Refusal) (x : Outcome) → PutsNone x → PutsNone (refuse b refusal x)
unfolding refuse
refused true refusal x none = tt
refused false refusal x none = none

ends : (s : State) (stale : Option ℕ) (node : List ℕ) (p : Option PodData) → PutsNone (finish s stale node p)
unfolding finish refuse_stale
ends s stale node None = tt
ends s (Some current) node (Some p) = tt
ends s None node (Some p) = refused (not (is_deleting p.meta)) (refusals.Invalid fields.Deletion) (refuse (not (bytes_eq p.node node))
    (refusals.Invalid fields.NodeName) (Removes (at_version (Pod p) (s.version + 1))))
    (refused (not (bytes_eq p.node node)) (refusals.Invalid fields.NodeName) (Removes (at_version (Pod p) (s.version + 1))) tt)

took : (w : World) (x : Outcome) (o : Object) → PutsNone x → written_by (OnStore x) ≡ Some o → (world_after w (OnStore x)).store.rows ≡ without_row (key_of o) w.store.rows
unfolding world_after after
took w (Says reply) o none e = none_some e
took w (Stores change p) o none e = absurd none
took w (Removes p) o none e = ap (λ q. without_row (key_of q) w.store.rows) (one p o e)

module _ (setup : Setup) (w : World) (order : AreRows w.store.rows) (mine : List Entry) (o : Object) where
  abbrev rows_after : Request → List Object
  rows_after request = (world_after w (effect setup w seats.Agent request)).store.rows

  finished : (key : Key) (uid : Uid) (node : List ℕ) (epoch : ℕ)
      → written_by (effect setup w seats.Agent (requests.FinishPod key uid node epoch)) ≡ Some o → rows_after (requests.FinishPod key uid node epoch) ≡ without_row (key_of o) w.store.rows
  unfolding effect on_devices device_answer outcome refuse
  finished key uid node epoch written = took w (finish w.store (epoch_if_stale w.devices node epoch) node (pod_with uid (row_at key w.store.rows))) o
      (ends w.store (epoch_if_stale w.devices node epoch) node (pod_with uid (row_at key w.store.rows))) written

  pub agent_takes : (request : Request) → Licensed seats.Agent mine request → written_by (effect setup w seats.Agent request) ≡ Some o
      → Writes w seats.Agent request o → pods_in (rows_after request) + 1 ≤ pods_in w.store.rows
  agent_takes (requests.FinishPod key uid node epoch) may written i =
      let n = finished_next w.store seats.Agent key uid node (epoch_if_stale w.devices node epoch) o i in
      pod_leaves w.store.rows (rows_after (requests.FinishPod key uid node epoch)) order o i.pod n.there (finished key uid node epoch written)
  agent_takes (requests.Update x given) may written i = absurd may.1
  agent_takes (requests.Create x) may written i = absurd may.1
  agent_takes (requests.UpdateStatus key status given) may written i = absurd may.1
  agent_takes (requests.Edit key change) may written i = absurd may.1
  agent_takes (requests.Delete key given) may written i = absurd may.1
  agent_takes (requests.BindPod key uid node) may written i = absurd may.1
  agent_takes _ may written i = absurd i
