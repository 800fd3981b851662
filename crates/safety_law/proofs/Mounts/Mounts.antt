-- What is mounted is a scheduled pod's, whose claims it names.
use Rattle.std.proofs.Common.{sym, refl, subst, inl, inr, ap, ◌∙◌, true≢false}
use Rattle.std.specs.Prelude.{ℕ, ◌≡◌, ◌⊎◌, Bool, true, false, List, [], ◌∷◌, Some, bytes_eq}
use Rattle.std.proofs.lemmas.Slice.Eq.{bytes_eq-Decides}
use Rattle.kube_parts.specs.declared.uid.Uid.{Uid}
use Rattle.kube_objects.specs.declared.objects.Claim.{Claim as ClaimData}
use Rattle.kube_objects.specs.declared.objects.Pod.{Pod as PodData}
use Rattle.kube_objects.specs.declared.objects.Object.TheVariants.{Claim}
use Rattle.kube_objects.specs.Bindings.{has_name, is_scheduled, is_deleting}
use Rattle.call_types.specs.declared.entry.Entry.{Entry}
use Rattle.call_types.specs.declared.setup.Setup.{Setup}
use Rattle.call_types.specs.declared.request.SeatKind.{SeatKind}
use Rattle.call_types.specs.declared.request.SeatKind.TheVariants as seats
use Rattle.call_types.specs.declared.request.Request.{Request}
use Rattle.call_types.specs.declared.request.Request.TheVariants as requests
use Rattle.call_types.specs.declared.reply.Reply.TheVariants.{Found}
use Rattle.binder_model.specs.Answers.{is_user}
use Rattle.binder_model.specs.Devices.{MountAt}
use Rattle.binder_model.specs.Told.{TellsObject, IsPodWith, own}
use Rattle.binder_model.specs.ObjectKeys.{claim_key}
use Rattle.binder_model.specs.AgentLicence.{AreReadReady, last_get, never_finished}
use Rattle.binder_model.specs.Licence.{Licensed, AreOfKind}
use Rattle.binder_model.specs.World.{world}
use Rattle.binder_model.specs.Run.{Run}
use Rattle.safety_law.specs.Invariant.DeviceMoves.{MountIn}
use Rattle.safety_law.specs.Invariant.Good.{Good}
use Rattle.safety_law.specs.Invariant.Holders.{Holds}
use Rattle.safety_law.proofs.Mounts.Unmounted.{MountedBy, new_mount, unmounted}
use Rattle.safety_law.specs.Mounts.Mounts.{IsSplit, StandsOn, UidIn, NamesUid, IsPodMount, IsHalfReady, Mountless}
use Rattle.safety_law.proofs.Mounts.Since.{has_taken, told_since}
use Rattle.safety_law.proofs.Mounts.Pods.{pod_next, pods_stay}
use Rattle.safety_law.proofs.Mounts.Ready.{read_was}
use Rattle.std.proofs.lemmas.Bool.{or_right}

-- the name and the read of a UID among those that are ready
pub record IsReadyFor (recent : List Entry) (namespace : List ℕ) (names : List (List ℕ)) (u : Uid) : Type 0 where
  pub name : List ℕ
  pub named : has_name name names ≡ true
  pub claim : ClaimData
  pub read : last_get (claim_key namespace name) recent ≡ Some (Found (Claim claim))
  pub its : claim.meta.uid ≡ Some u
  pub staying : is_deleting claim.meta ≡ false

has_first : (name : List ℕ) (names : List (List ℕ)) → has_name name (name ∷ names) ≡ true
has_first name names = let same : bytes_eq name name ≡ true = (bytes_eq-Decides name name).1 refl in rw same refl

ready_for : (recent : List Entry) (namespace : List ℕ) (names : List (List ℕ)) (uids : List Uid) → AreReadReady recent namespace names uids
    → (u : Uid) → UidIn u uids → IsReadyFor recent namespace names u
ready_for recent namespace [] [] r u h = absurd h
ready_for recent namespace [] (x ∷ xs) r u h = absurd r
ready_for recent namespace (n ∷ ns) [] r u h = absurd r
ready_for recent namespace (n ∷ ns) (x ∷ xs) r u h = elim h [
  | inl is ↦ record { name = n; named = has_first n ns; claim = r.0.claim; read = r.0.read; its = r.0.same ∙ ap (λ (z : Uid). Some z) is; staying = r.0.staying }
  | inr more ↦
      let f = ready_for recent namespace ns xs r.1 u more in
      record { name = f.name; named = or_right (bytes_eq n f.name) (has_name f.name ns) f.named; claim = f.claim; read = f.read; its = f.its; staying = f.staying }
]

-- the seat of an allowed Mount is an agent's throughout
mount_agents : (mine : List Entry) (kind : SeatKind) (node : List ℕ) (epoch : ℕ) (pod : Uid) (claims : List Uid) → is_user kind ≡ false
    → Licensed kind mine (requests.Mount node epoch pod claims) → AreOfKind seats.Agent mine
mount_agents mine seats.User node epoch pod claims c l = absurd (true≢false c)
mount_agents mine seats.Agent node epoch pod claims c l = l.0
mount_agents mine kind node epoch pod claims c l = absurd l.1

-- who mounts, is half ready for each claim
pub half_ready : (setup : Setup) (e : Entry) (past : List Entry) → Run setup (e ∷ past) → (m : MountAt) → MountedBy setup e past m → (u : Uid)
    → UidIn u m.row.claims → IsHalfReady setup past e.seat m.node u
half_ready setup e past run m by_this u h =
    let row = by_this.row in
    let r = ready_for row.recent row.shown.meta.namespace row.shown.claims m.row.claims row.ready u h in
    record {
      recent = row.recent;
      teller = row.teller;
      earlier = row.earlier;
      split = record { since = row.since; listed = row.listed };
      pod = row.shown;
      told = row.told;
      node_is = row.on_node.placed;
      scheduled = row.on_node.scheduled;
      uid = m.row.pod;
      known = row.on_node.same;
      unfinished = row.unfinished;
      name = r.name;
      named = r.named;
      claim = r.claim;
      read = r.read;
      its = r.its;
      staying = r.staying;
    }

pub mount_is_agents : (setup : Setup) (e : Entry) (past : List Entry) → Run setup (e ∷ past) → (m : MountAt) → MountedBy setup e past m
    → AreOfKind seats.Agent (own e.seat past)
mount_is_agents setup e past run m b = mount_agents (own e.seat past) e.kind m.node b.epoch m.row.pod m.row.claims b.controller (subst (Licensed e.kind (own e.seat past)) b.asked run.2)

-- the pod for which the holder is half ready stands, and the claim that it found was
pub shown_stands : (setup : Setup) (past : List Entry) → Good setup past → Run setup past → (node : List ℕ) (seat : ℕ) → Holds setup past node seat
    → AreOfKind seats.Agent (own seat past)
    → (recent : List Entry) (teller : Entry) (earlier : List Entry) → IsSplit node (own seat past) recent teller earlier → (p : PodData) (uid : Uid)
    → TellsObject (IsPodWith (λ x. x ≡ p)) teller → p.node ≡ node → is_scheduled p ≡ true → p.meta.uid ≡ Some uid
    → never_finished uid (own seat past) ≡ true → StandsOn (world setup past) p
shown_stands setup past g run node seat holds agents recent teller earlier split p uid told on scheduled known never =
    let t = has_taken setup past seat node _ holds in
    pods_stay setup past g run node seat holds p uid on scheduled known (told_since setup past g run seat node t.0 t.1 agents recent teller earlier split p told) never

-- the claims that a pod names go with it
same_names_uid : (setup : Setup) (e : Entry) (past : List Entry) (p : PodData) (u : Uid) → NamesUid setup past p u → NamesUid setup (e ∷ past) p u
same_names_uid setup e past p u n = record { name = n.name; named = n.named; claim = n.claim; was = inl n.was; placed = n.placed; called = n.called; its = n.its }

abbrev is_finish : Request → Bool
is_finish (requests.FinishPod key uid node epoch) = true
is_finish request = false

pub mounted : (setup : Setup) (past : List Entry) → Good setup past → Run setup past → Mountless setup → (m : MountAt)
    → MountIn m (world setup past).devices.mounts → IsPodMount setup past m
mounted setup [] g run start m h = absurd (start m h)
mounted setup (e ∷ past) g run start m h = by (mounted setup past g.0 run.0 start m) (new_mount setup e past run m h)
  where
    -- the pod of a mount that was there before stands on
    on : MountIn m (world setup past).devices.mounts → IsPodMount setup past m → IsPodMount setup (e ∷ past) m
    on there i = record {
      pod = i.pod;
      stands = pod_next setup e past g run i.pod m.row.pod i.scheduled i.uid i.stands
          (λ fin. unmounted setup past g.0 run.0 i.pod.node e.seat fin.epoch m.row.pod fin.holds fin.row.unmounted m there (sym i.node) refl);
      uid = i.uid;
      node = i.node;
      scheduled = i.scheduled;
      names = λ u x. same_names_uid setup e past i.pod u (i.names u x);
    }

    new : MountedBy setup e past m → IsPodMount setup (e ∷ past) m
    new b =
        let row = b.row in
        let split : IsSplit m.node (own e.seat past) row.recent row.teller row.earlier = record { since = row.since; listed = row.listed } in
        let s = shown_stands setup past g.0 run.0 m.node e.seat b.holds
        (mount_is_agents setup e past run m b) row.recent row.teller row.earlier split row.shown m.row.pod row.told row.on_node.placed row.on_node.scheduled row.on_node.same row.unfinished in
        record {
          pod = row.shown;
          stands = pod_next setup e past g run row.shown m.row.pod row.on_node.scheduled row.on_node.same s (λ fin. true≢false (sym (ap is_finish fin.asked) ∙ ap is_finish b.asked));
          uid = row.on_node.same;
          node = row.on_node.placed;
          scheduled = row.on_node.scheduled;
          names = λ u x.
              let r = ready_for row.recent row.shown.meta.namespace row.shown.claims m.row.claims row.ready u x in
              let w = read_was setup past g.0 e.seat m.node row.recent (row.teller ∷ row.earlier) row.since (claim_key row.shown.meta.namespace r.name) (Claim r.claim) r.read in
              record { name = r.name; named = r.named; claim = r.claim; was = inl w.was; placed = ap (λ k. k.namespace) w.keyed; called = ap (λ k. k.name) w.keyed; its = r.its };
        }

    by : (MountIn m (world setup past).devices.mounts → IsPodMount setup past m)
        → MountIn m (world setup past).devices.mounts ⊎ MountedBy setup e past m → IsPodMount setup (e ∷ past) m
    by f (inl there) = on there (f there)
    by f (inr b) = new b
