-- The evidence of a machine goes on with the answer to its call.
use Rattle.std.proofs.Common.{◌≡◌, ◌∙◌, ℕ, List, [], ◌∷◌, Bool, true, false, true≢false, Option, Some, None, inl, inr, refl, sym, ap, subst, length, slice_get, if◌then◌else◌}
use Rattle.std.specs.Prelude.{◌++◌, ◌&&◌, ◌==◌, not, bytes_eq}
use Rattle.std.proofs.lemmas.Bool.{and_parts, and_from, not-true}
use Rattle.std.proofs.lemmas.Bool.Decides.{Decides-eqb}
use Rattle.std.proofs.lemmas.Slice.Eq.{bytes_eq-Decides}
use Rattle.kube_objects.specs.declared.key.Key.{Key}
use Rattle.kube_parts.specs.declared.uid.Uid.{Uid}
use Rattle.kube_objects.specs.declared.objects.Claim.{Claim as ClaimData}
use Rattle.kube_objects.specs.declared.objects.Volume.{Volume as VolumeData}
use Rattle.kube_objects.specs.declared.objects.Object.{Object}
use Rattle.kube_objects.specs.declared.objects.Object.TheVariants.{Class, Node, Volume, Claim, Pod}
use Rattle.kube_objects.specs.Bindings.{carries, is_completed, is_deleting, is_protected_claim}
use Rattle.call_types.specs.declared.entry.Entry.{Entry}
use Rattle.call_types.specs.declared.request.Request.{Request}
use Rattle.call_types.specs.declared.request.Request.TheVariants as requests
use Rattle.call_types.specs.declared.reply.MountRow.{MountRow}
use Rattle.call_types.specs.declared.reply.Reply.{Reply}
use Rattle.call_types.specs.declared.reply.Reply.TheVariants as replies
use Rattle.binder_model.specs.AgentLicence.{epoch_in, has_row, is_of_epoch, lacks_pod, last_get, since_epoch, since_get, was_told_unmounted}
use Rattle.binder_model.specs.BindWrites.{is_claim_bound}
use Rattle.binder_model.specs.ObjectKeys.{claim_key, pod_key, volume_key}
use Rattle.binder_model.specs.Reading.{FoundNaming}
use Rattle.binder_model.specs.Told.{object_of}
use Rattle.model_laws.proofs.Lists.{none_some, one}
use Rattle.node_agent.specs.declared.agent.AgentOp.{AgentOp}
use Rattle.node_agent.specs.declared.step.AgentStep.{AgentStep}
use Rattle.node_agent.specs.declared.step.AgentStep.TheVariants as steps
use Rattle.node_agent.specs.declared.step.ReadyClaim.{ReadyClaim}
use Rattle.node_agent.specs.Agents.{
  after_claim,
  after_last,
  after_mounts,
  after_unmount,
  agent_after,
  agent_call,
  agent_moved,
  agent_call_at,
  is_claim_read,
  is_agent_ready,
  is_volume_read,
  next_step,
  ready_by,
  ready_claim,
}
use Rattle.node_agent.specs.Evidence.{AgentKeeps, AreFoundReady, IsFoundReady, MayEnd, MayReadForPod, MayReadClaim, MayReadVolume, StepKeeps, at_rest}
use Rattle.node_agent.proofs.Gets.{IsFound, claim_past, claims_past, epoch_past, last_found, never_past, newest_past, no_epoch, since_epoch_past, volumes_past}

-- the evidence on the pod, after a Get that found an object, with these claims counted
abbrev pod_past : (op : AgentOp) (mine : List Entry) (key : Key) (o : Object) (e : Entry) (ready : List ReadyClaim) → (m : MayReadForPod op mine)
    → IsFound key o e → AreFoundReady (e ∷ m.recent) op.pod.meta.namespace ready op.pod.claims → MayReadForPod (record op { ready = ready }) (e ∷ mine)
pod_past op mine key o e ready m f all =
    let none : epoch_in op.node e ≡ None = no_epoch op.node e (requests.Get key) f.asked (λ reply. refl) in
    record {
      current = epoch_past op.node e mine none ∙ m.current;
      recent = e ∷ m.recent;
      teller = m.teller;
      earlier = m.earlier;
      since = since_epoch_past op.node e mine none ∙ ap (λ (xs : List Entry). e ∷ xs) m.since;
      listed = m.listed;
      told = m.told;
      on_node = m.on_node;
      newest = ap object_of (newest_past (pod_key op.pod.meta.namespace op.pod.meta.name) o e mine f.found) ∙ m.newest;
      staying = m.staying;
      ready = all;
      unfinished = never_past op.uid key e mine f.asked ∙ m.unfinished;
    }

-- what is done next about the pod
pub next_keeps : (op : AgentOp) (mine : List Entry) → MayReadForPod op mine → StepKeeps (next_step op.ready (slice_get op.pod.claims (length op.ready))) op mine
next_keeps op mine m = by (slice_get op.pod.claims (length op.ready)) refl
  where
    by_read : (name : List ℕ) (b : Bool) → slice_get op.pod.claims (length op.ready) ≡ Some name → is_claim_read name op.ready ≡ b
        → StepKeeps (if b then steps.Parked else steps.ReadsClaim name) op mine
    by_read name true place h = tt
    by_read name false place h = record { pod = m; next = record { place = place; unread = h } }

    by : (x : Option (List ℕ)) → slice_get op.pod.claims (length op.ready) ≡ x → StepKeeps (next_step op.ready x) op mine
    by None place = record { pod = m; whole = place }
    by (Some name) place = by_read name (is_claim_read name op.ready) place refl

-- after the read of a claim

found_claim : (op : AgentOp) (name : List ℕ) (c : ClaimData) (mine : List Entry) (e : Entry) → MayReadClaim op name mine
    → IsFound (claim_key op.pod.meta.namespace name) (Claim c) e → is_agent_ready c ≡ true → is_volume_read c.volume_name op.ready ≡ false → MayReadVolume op name c (e ∷ mine)
found_claim op name c mine e kept f ready apart =
    let m = kept.pod in
    let key = claim_key op.pod.meta.namespace name in
    let all = claims_past e m.recent op.pod.meta.namespace name op.ready op.pod.claims f.asked kept.next.unread m.ready in
    let naming : FoundNaming (volume_key c.volume_name) e.reply = subst (λ r. FoundNaming (volume_key c.volume_name) r) (sym f.found) refl in
    record {
      pod = pod_past op mine key (Claim c) e op.ready m f all;
      next = kept.next;
      read = last_found key (Claim c) e m.recent f;
      ready = ready;
      apart = apart;
      naming = inl (f.told, naming);
    }

claim_goes_on : (op : AgentOp) (name : List ℕ) (mine : List Entry) (e : Entry) → MayReadClaim (at_rest op) name mine
    → e.request ≡ requests.Get (claim_key op.pod.meta.namespace name) → e.told ≡ true → StepKeeps (after_claim name op.ready e.reply) (at_rest op) (e ∷ mine)
claim_goes_on op name mine e kept asked told = by e.reply refl
  where
    by_test : (c : ClaimData) (a b : Bool) → e.reply ≡ replies.Found (Claim c) → is_agent_ready c ≡ a → is_volume_read c.volume_name op.ready ≡ b
        → StepKeeps (if a && not b then steps.ReadsVolume name c else steps.Parked) (at_rest op) (e ∷ mine)
    by_test c true false found r v = found_claim (at_rest op) name c mine e kept (record { told = told; asked = asked; found = found }) r v
    by_test c true true found r v = tt
    by_test c false b found r v = tt

    by : (reply : Reply) → e.reply ≡ reply → StepKeeps (after_claim name op.ready reply) (at_rest op) (e ∷ mine)
    by (replies.Found (Claim c)) is = by_test c (is_agent_ready c) (is_volume_read c.volume_name op.ready) is refl refl
    by (replies.Found (Class x)) is = tt
    by (replies.Found (Node x)) is = tt
    by (replies.Found (Volume x)) is = tt
    by (replies.Found (Pod x)) is = tt
    by _ is = tt

-- after the read of a volume

-- one claim more was counted
counted : (recent : List Entry) (namespace name : List ℕ) (r : ReadyClaim) (ready : List ReadyClaim) (names : List (List ℕ))
    → AreFoundReady recent namespace ready names → slice_get names (length ready) ≡ Some name → IsFoundReady recent namespace name r → AreFoundReady recent namespace (ready ++ r ∷ []) names
counted recent namespace name r [] [] all place found = none_some place
counted recent namespace name r [] (n ∷ names) all place found = (subst (λ (x : List ℕ). IsFoundReady recent namespace x r) (sym (one n name place)) found, tt)
counted recent namespace name r (x ∷ ready) [] all place found = absurd all
counted recent namespace name r (x ∷ ready) (n ∷ names) all place found = (all.0, counted recent namespace name r ready names all.1 place found)

-- the claim was found ready, and its volume was found carrying it
found_ready : (op : AgentOp) (name : List ℕ) (c : ClaimData) (v : VolumeData) (uid : Uid) (mine : List Entry) (e : Entry)
    → (kept : MayReadVolume op name c mine) → IsFound (volume_key c.volume_name) (Volume v) e → carries v c ≡ true → c.meta.uid ≡ Some uid
    → IsFoundReady (e ∷ kept.pod.recent) op.pod.meta.namespace name (record { claim = name; uid = uid; volume = c.volume_name })
found_ready op name c v uid mine e kept f carried known =
    let recent = kept.pod.recent in
    let key = claim_key op.pod.meta.namespace name in
    let past = claim_past e recent op.pod.meta.namespace name c.volume_name f.asked in
    let front = and_parts (not (is_deleting c.meta) && is_protected_claim c && is_completed c) (is_claim_bound c.phase) kept.ready in
    let middle = and_parts (not (is_deleting c.meta) && is_protected_claim c) (is_completed c) front.0 in
    let first = and_parts (not (is_deleting c.meta)) (is_protected_claim c) middle.0 in
    record {
      named = refl;
      read = record {
        claim = c;
        read = past.0 ∙ kept.read;
        same = known;
        staying = not-true (is_deleting c.meta) first.0;
        guarded = first.1;
        completed = middle.1;
        bound = front.1;
        volume = v;
        volume_read = ap (last_get (volume_key c.volume_name)) past.1 ∙ last_found (volume_key c.volume_name) (Volume v) e (since_get key recent) f;
        carries = carried;
      };
      of = refl;
    }

volume_goes_on : (op : AgentOp) (name : List ℕ) (c : ClaimData) (mine : List Entry) (e : Entry) → MayReadVolume (at_rest op) name c mine
    → e.request ≡ requests.Get (volume_key c.volume_name) → e.told ≡ true → AgentKeeps (agent_after op (steps.ReadsVolume name c) (ready_by (steps.ReadsVolume name c) e.reply) e.reply) (e ∷ mine)
volume_goes_on op name c mine e kept asked told = by e.reply refl
  where
    by_uid : (v : VolumeData) (u : Option Uid) → e.reply ≡ replies.Found (Volume v) → carries v c ≡ true → c.meta.uid ≡ u
        → AgentKeeps (agent_after op (steps.ReadsVolume name c) (ready_claim name c u) (replies.Found (Volume v))) (e ∷ mine)
    by_uid v None found carried known = tt
    by_uid v (Some uid) found carried known =
        let f : IsFound (volume_key c.volume_name) (Volume v) e = record { told = told; asked = asked; found = found } in
        let r : ReadyClaim = record { claim = name; uid = uid; volume = c.volume_name } in
        let m = kept.pod in
        let before = volumes_past e m.recent op.pod.meta.namespace c.volume_name op.ready op.pod.claims asked kept.apart m.ready in
        let all = counted (e ∷ m.recent) op.pod.meta.namespace name r op.ready op.pod.claims before kept.next.place (found_ready (at_rest op) name c v uid mine e kept f carried known) in
        next_keeps (record (at_rest op) { ready = op.ready ++ r ∷ [] }) (e ∷ mine) (pod_past (at_rest op) mine (volume_key c.volume_name) (Volume v) e (op.ready ++ r ∷ []) m f all)

    by_carry : (v : VolumeData) (b : Bool) → e.reply ≡ replies.Found (Volume v) → carries v c ≡ b
        → AgentKeeps (agent_after op (steps.ReadsVolume name c) (if b then ready_claim name c c.meta.uid else None) (replies.Found (Volume v))) (e ∷ mine)
    by_carry v true found h = by_uid v c.meta.uid found h refl
    by_carry v false found h = tt

    by : (reply : Reply) → e.reply ≡ reply → AgentKeeps (agent_after op (steps.ReadsVolume name c) (ready_by (steps.ReadsVolume name c) reply) reply) (e ∷ mine)
    by (replies.Found (Volume v)) is = by_carry v (carries v c) is refl
    by (replies.Found (Class x)) is = tt
    by (replies.Found (Node x)) is = tt
    by (replies.Found (Claim x)) is = tt
    by (replies.Found (Pod x)) is = tt
    by _ is = tt

-- a pod that is to go

ending_past : (op : AgentOp) (mine : List Entry) (e : Entry) → epoch_in op.node e ≡ None → MayEnd op mine → MayEnd op (e ∷ mine)
ending_past op mine e none kept = record { current = epoch_past op.node e mine none ∙ kept.current; told = inr kept.told }

unmount_goes_on : (op : AgentOp) (mine : List Entry) (e : Entry) → MayEnd op mine → e.request ≡ requests.Unmount op.node op.epoch op.uid → StepKeeps (after_unmount e.reply) op (e ∷ mine)
unmount_goes_on op mine e kept asked = by e.reply
  where
    by : (reply : Reply) → StepKeeps (after_unmount reply) op (e ∷ mine)
    by (replies.Mounted rows) = ending_past op mine e (no_epoch op.node e (requests.Unmount op.node op.epoch op.uid) asked (λ reply. refl)) kept
    by _ = tt

-- the list of the mounts that lacks the pod
unmounted : (op : AgentOp) (mine : List Entry) (e : Entry) (rows : List MountRow) → epoch_in op.node e ≡ None → e.told ≡ true
    → e.request ≡ requests.Mounts op.node op.epoch → e.reply ≡ replies.Mounted rows → has_row op.uid rows ≡ false → was_told_unmounted op.node op.epoch op.uid (since_epoch op.node (e ∷ mine)) ≡ true
unmounted op mine e rows none told asked is lacks =
    let of_epoch : is_of_epoch op.node op.epoch e.request ≡ true = ap (is_of_epoch op.node op.epoch) asked
    ∙ and_from (bytes_eq op.node op.node) (op.epoch == op.epoch) ((bytes_eq-Decides op.node op.node).1 refl) ((Decides-eqb op.epoch op.epoch).1 refl) in
    let lacking : lacks_pod op.uid e.reply ≡ true = ap (lacks_pod op.uid) is ∙ ap not lacks in
    let all : (e.told && is_of_epoch op.node op.epoch e.request && lacks_pod op.uid e.reply) ≡ true =
    and_from (e.told && is_of_epoch op.node op.epoch e.request) (lacks_pod op.uid e.reply) (and_from e.told (is_of_epoch op.node op.epoch e.request) told of_epoch) lacking in
    ap (was_told_unmounted op.node op.epoch op.uid) (since_epoch_past op.node e mine none) ∙ first (e.told && is_of_epoch op.node op.epoch e.request && lacks_pod op.uid e.reply) _ all
  where
    first : (b x : Bool) → b ≡ true → (if b then true else x) ≡ true
    first true x h = refl
    first false x h = absurd (true≢false (sym h))

mounts_go_on : (op : AgentOp) (mine : List Entry) (e : Entry) → MayEnd op mine → e.request ≡ requests.Mounts op.node op.epoch → e.told ≡ true → StepKeeps (after_mounts op.uid e.reply) op (e ∷ mine)
mounts_go_on op mine e kept asked told = by e.reply refl
  where
    none : epoch_in op.node e ≡ None
    none = no_epoch op.node e (requests.Mounts op.node op.epoch) asked (λ reply. refl)

    by_row : (rows : List MountRow) (b : Bool) → e.reply ≡ replies.Mounted rows → has_row op.uid rows ≡ b → StepKeeps (if b then steps.Parked else steps.Finishes) op (e ∷ mine)
    by_row rows true is h = tt
    by_row rows false is h = record { ending = ending_past op mine e none kept; unmounted = unmounted op mine e rows none told asked is h }

    by : (reply : Reply) → e.reply ≡ reply → StepKeeps (after_mounts op.uid reply) op (e ∷ mine)
    by (replies.Mounted rows) is = by_row rows (has_row op.uid rows) is refl
    by _ is = tt

last_keeps : (reply : Reply) (op : AgentOp) (mine : List Entry) → StepKeeps (after_last reply) op mine
last_keeps (replies.Refused r) op mine = tt
last_keeps _ op mine = tt

was_asked : (a : Request) (e : Entry) → Some a ≡ Some e.request → e.request ≡ a
was_asked a e is = sym (one a e.request is)

step_goes_on : (step : AgentStep) (op : AgentOp) (mine : List Entry) (e : Entry) → StepKeeps step (at_rest op) mine
    → agent_call_at op step ≡ Some e.request → e.told ≡ true → AgentKeeps (agent_after op step (ready_by step e.reply) e.reply) (e ∷ mine)
step_goes_on (steps.ReadsClaim name) op mine e kept call told = claim_goes_on op name mine e kept (was_asked _ e call) told
step_goes_on (steps.ReadsVolume name c) op mine e kept call told = volume_goes_on op name c mine e kept (was_asked _ e call) told
step_goes_on steps.MountsPod op mine e kept call told = last_keeps e.reply (at_rest op) (e ∷ mine)
step_goes_on steps.Unmounts op mine e kept call told = unmount_goes_on (at_rest op) mine e kept (was_asked _ e call)
step_goes_on steps.ReadsMounts op mine e kept call told = mounts_go_on (at_rest op) mine e kept (was_asked _ e call) told
step_goes_on steps.Finishes op mine e kept call told = last_keeps e.reply (at_rest op) (e ∷ mine)
step_goes_on steps.Done op mine e kept call told = none_some call
step_goes_on steps.Parked op mine e kept call told = none_some call

pub goes_on : (op : AgentOp) (mine : List Entry) (e : Entry) → AgentKeeps op mine → agent_call op ≡ Some e.request → e.told ≡ true → AgentKeeps (agent_moved op e.reply) (e ∷ mine)
unfolding agent_call agent_moved
goes_on op mine e kept call told = step_goes_on op.step op mine e kept call told
