-- The law of attachments, step by step: each claim of a mount stands, has been bound, and its own volume is attached to the node.
use Rattle.std.proofs.Common.{sym, refl, subst, inl, inr, ap, ◌∙◌, true≢false}
use Rattle.std.proofs.lemmas.Bool.{and_parts}
use Rattle.std.proofs.lemmas.Option.{none-some}
use Rattle.std.specs.Prelude.{if◌then◌else◌, not, ℕ, ◌≡◌, Bool, true, false, List, [], ◌∷◌, Option, Some, None, bytes_eq, is_some}
use Rattle.std.specs.List.{list_any}
use Rattle.kube_parts.specs.declared.uid.Uid.{Uid}
use Rattle.kube_objects.specs.declared.key.Key.{Key}
use Rattle.kube_objects.specs.declared.objects.Claim.{Claim as ClaimData}
use Rattle.kube_objects.specs.declared.objects.Volume.{Volume as VolumeData}
use Rattle.kube_objects.specs.declared.objects.Object.{Object}
use Rattle.kube_objects.specs.declared.objects.Object.TheVariants.{Volume, Claim}
use Rattle.kube_objects.specs.Keys.{key_of, row_at}
use Rattle.kube_objects.specs.Bindings.{refers_carrying}
use Rattle.kube_objects.proofs.KeyOrder.{row_at_key}
use Rattle.call_types.specs.declared.entry.Entry.{Entry}
use Rattle.call_types.specs.declared.setup.Setup.{Setup}
use Rattle.call_types.specs.declared.request.SeatKind.{SeatKind}
use Rattle.call_types.specs.declared.request.Request.TheVariants as requests
use Rattle.binder_model.specs.AgentLicence.{AreReadReady, IsReadReady}
use Rattle.binder_model.specs.Answers.{after, is_user}
use Rattle.binder_model.specs.Devices.{DeviceAnswer, MountAt, device_answer, rows_on}
use Rattle.binder_model.specs.Imports.{ImportsPass}
use Rattle.binder_model.specs.ObjectKeys.{claim_key, volume_key}
use Rattle.binder_model.specs.Run.{Run}
use Rattle.binder_model.specs.Safe.{IsBoundTo, is_mounted, is_uid_mounted}
use Rattle.binder_model.specs.Same.{same_uid}
use Rattle.binder_model.specs.Store.{State}
use Rattle.binder_model.specs.World.{OnDevices, World, effect, on_devices, refused_rule, world, world_after}
use Rattle.model_laws.specs.Stood.{Stood}
use Rattle.safety_law.specs.Invariant.Good.{Good}
use Rattle.safety_law.specs.Invariant.Invariant.{Invariant, IsLater}
use Rattle.safety_law.specs.Invariant.Was.{WasBound}
use Rattle.safety_law.proofs.Invariant.Came.{claim_came, itself, row_was, volume_came}
use Rattle.safety_law.proofs.Invariant.Carried.{carried}
use Rattle.safety_law.proofs.Invariant.KeptBindings.{later_bound}
use Rattle.safety_law.proofs.Invariant.Known.{invariant_of}
use Rattle.safety_law.proofs.Invariant.Objects.{claim_keyed, some_claim}
use Rattle.safety_law.proofs.Invariant.Tests.{same_text}
use Rattle.safety_law.specs.Law.Law.{IsGoodStart}
use Rattle.safety_law.proofs.Law.FirstWorld.{first_world_is_good}
use Rattle.safety_law.proofs.Law.Law.{room_for}
use Rattle.safety_law.proofs.Law.Runs.{run_good}
use Rattle.safety_law.proofs.Mounts.Mounted.{mounts_kept}
use Rattle.safety_law.proofs.Mounts.Ready.{read_was}
use Rattle.safety_law.proofs.Mounts.Unmounted.{MountedBy, new_mount}
use Rattle.model_laws.proofs.Lists.{IsIn}
use Rattle.model_laws.proofs.Readings.{member_stands}
use Rattle.volume_index.proofs.PlacesBehind.{some_volume}
use Rattle.attach_law.specs.declared.attachment.Attachment.{Attachment}
use Rattle.attach_law.specs.Attached.{AreApart, AreCarried, claim_with, is_attached, is_claim_attached, is_of, is_uid_attached, is_volume_attached, own_volume, passes, volume_with}
use Rattle.attach_law.specs.Calls.{NotAttached, after_attach, after_detach, carries_uid, in_use, unless_refused, user_of, without_attachment}
use Rattle.attach_law.specs.Merged.{AtEachPoint, AttachmentsStand, Attaches, Detaches, EachPassed, IsAttachedWell, OfWorld, Step, attached, entries}
use Rattle.attach_law.proofs.ByUid.{UidsOnce, claim_is, found_claim, own_is, uid_of, uid_test, volume_is}
use Rattle.attach_law.proofs.Listed.{all_here, any_gives, any_here, left_by}
use Rattle.attach_law.proofs.Lists.{attach_apart, attach_grows, detach_apart, more_attached, no_user, row_of_mount}
use Rattle.attach_law.proofs.Shown.{from_later, shown_was_bound}

-- UIDs are given once
once_in : (setup : Setup) (past : List Entry) → Invariant setup past → UidsOnce (world setup past).store.rows
once_in setup past inv a b uid a_there b_there a_its b_its =
    inv.keyed a b (row_was setup past (key_of a) a a_there) (row_was setup past (key_of b) b b_there) (a_its ∙ sym b_its)

-- ---- a claim that has been bound

bound_to : (setup : Setup) (past : List Entry) → Invariant setup past → (key : Key) (c : ClaimData) → row_at key (world setup past).store.rows ≡ Some (Claim c)
    → WasBound setup past c → IsBoundTo (world setup past).store.rows c
bound_to setup past inv key c is b =
    let t = carried b.volume c b.carries in
    let s = inv.binding b.volume t.reference t.uid key c b.was b.bound t.refers is t.its (inr b.names) in
    record {
      volume = s.volume;
      there = ap (λ n. row_at (volume_key n) (world setup past).store.rows) b.names ∙ s.there;
      carries = ap (λ x. refers_carrying x c) (s.refers ∙ sym t.refers.is) ∙ b.carries;
      bound = s.bound;
    }

-- a claim of a mount stands, has been bound, and its own volume is attached
record IsOnVolume (setup : Setup) (past : List Entry) (att : List Attachment) (node : List ℕ) (u : Uid) : Type 0 where
  key : Key
  claim : ClaimData
  there : row_at key (world setup past).store.rows ≡ Some (Claim claim)
  its : claim.meta.uid ≡ Some u
  bound : WasBound setup past claim
  attached : is_claim_attached (world setup past).store.rows (Some claim) node att ≡ true

abbrev AreOnVolumes : Setup → List Entry → List Attachment → Type 0
AreOnVolumes setup past att = (m : MountAt) (u : Uid) → IsIn m (world setup past).devices.mounts → IsIn u m.row.claims → IsOnVolume setup past att m.node u

-- the volume that it is bound to
attached_own : (setup : Setup) (past : List Entry) → Invariant setup past → (att : List Attachment) (node : List ℕ) (u : Uid) → (h : IsOnVolume setup past att node u)
    → (b : IsBoundTo (world setup past).store.rows h.claim) → is_uid_attached b.volume.meta.uid node att ≡ true
attached_own setup past inv att node u h b = ap (λ x. is_volume_attached x node att) (sym (own_is (world setup past).store.rows h.claim b.volume b.there b.carries)) ∙ h.attached

-- ---- an entry

-- what stands there afterwards is the same claim
record IsClaimOn (setup : Setup) (e : Entry) (past : List Entry) (key : Key) (c : ClaimData) : Type 0 where
  now : ClaimData
  there : row_at key (world setup (e ∷ past)).store.rows ≡ Some (Claim now)
  later : IsLater (Claim c) (Claim now)

claim_on : (setup : Setup) (e : Entry) (past : List Entry) → Good setup (e ∷ past) → (key : Key) (c : ClaimData) → row_at key (world setup past).store.rows ≡ Some (Claim c)
    → (x : Option Object) → row_at key (world setup (e ∷ past)).store.rows ≡ x → is_some x ≡ true → IsClaimOn setup e past key c
claim_on setup e past g key c is None now some = absurd (true≢false (sym some))
claim_on setup e past g key c is (Some o) now some =
    let keyed = row_at_key key o (world setup (e ∷ past)).store.rows now in
    let l = claim_keyed o c (row_at_key key (Claim c) (world setup past).store.rows is ∙ sym keyed) in
    by l.0 (now ∙ ap (λ x. Some x) l.1)
  where
    by : (d : ClaimData) → row_at key (world setup (e ∷ past)).store.rows ≡ Some (Claim d) → IsClaimOn setup e past key c
    by d at = elim (g.1.row key (Claim d) at) [
      | inl same ↦ let one_c : c ≡ d = some_claim c d (sym is ∙ same) in record { now = d; there = at; later = subst (λ x. IsLater (Claim c) (Claim x)) one_c (itself (Claim c)) }
      | inr new ↦ elim (claim_came setup past d new.write) [
        | inl began ↦ absurd (none-some _ (sym began.first.free ∙ ap (λ j. row_at j (world setup past).store.rows) (row_at_key key (Claim d) (world setup (e ∷ past)).store.rows at) ∙ is))
        | inr came ↦
            let moved = ap (λ j. row_at j (world setup past).store.rows) (row_at_key key (Claim d) (world setup (e ∷ past)).store.rows at) in
            let old : came.old ≡ c = some_claim came.old c (sym came.next.there ∙ moved ∙ is) in
            record { now = d; there = at; later = subst (λ x. IsLater (Claim x) (Claim d)) old (record { key = came.next.key; keeps = came.next.keeps }) }
      ]
    ]

-- a volume that stands under one name before and after is one volume
same_volume_on : (setup : Setup) (e : Entry) (past : List Entry) → Good setup (e ∷ past) → (k : Key) (v w : VolumeData) → row_at k (world setup past).store.rows ≡ Some (Volume v)
    → row_at k (world setup (e ∷ past)).store.rows ≡ Some (Volume w) → w.meta.uid ≡ v.meta.uid
same_volume_on setup e past g k v w is now = elim (g.1.row k (Volume w) now) [
  | inl same ↦ ap (λ (x : VolumeData). x.meta.uid) (some_volume w v (sym same ∙ is))
  | inr new ↦ elim (volume_came setup past w new.write) [
    | inl began ↦ absurd (none-some _ (sym began.first.free ∙ ap (λ j. row_at j (world setup past).store.rows) (row_at_key k (Volume w) (world setup (e ∷ past)).store.rows now) ∙ is))
    | inr came ↦
        let moved = ap (λ j. row_at j (world setup past).store.rows) (row_at_key k (Volume w) (world setup (e ∷ past)).store.rows now) in
        came.next.keeps.uid ∙ ap (λ (x : VolumeData). x.meta.uid) (some_volume came.old v (sym came.next.there ∙ moved ∙ is))
  ]
]

held_on : (setup : Setup) (e : Entry) (past : List Entry) → Good setup (e ∷ past) → (att : List Attachment) (node : List ℕ) (u : Uid) → (h : IsOnVolume setup past att node u)
    → is_some (row_at h.key (world setup (e ∷ past)).store.rows) ≡ true → IsOnVolume setup (e ∷ past) att node u
held_on setup e past g att node u h stays =
    let inv = invariant_of setup past g.0 in
    let on = claim_on setup e past g h.key h.claim h.there _ refl stays in
    let was : WasBound setup past on.now = from_later setup past inv h.claim on.now on.later h.bound in
    let bound : WasBound setup (e ∷ past) on.now = later_bound setup e past on.now was in
    let before = bound_to setup past inv h.key h.claim h.there h.bound in
    let now = bound_to setup (e ∷ past) g.3 h.key on.now on.there bound in
    let named : h.claim.volume_name ≡ on.now.volume_name = elim on.later.keeps.named [
      | inl none ↦ absurd ((inv.placed h.bound.volume h.bound.was).titled (sym h.bound.names ∙ none))
      | inr same ↦ sym same
    ] in
    let under = ap (λ n. row_at (volume_key n) (world setup past).store.rows) (sym named) ∙ before.there in
    let uid = same_volume_on setup e past g (volume_key on.now.volume_name) before.volume now.volume under now.there in
    let own = own_is (world setup (e ∷ past)).store.rows on.now now.volume now.there now.carries in
    record {
      key = h.key;
      claim = on.now;
      there = on.there;
      its = on.later.keeps.uid ∙ h.its;
      bound = bound;
      attached = ap (λ x. is_volume_attached x node att) own ∙ ap (λ x. is_uid_attached x node att) uid ∙ attached_own setup past inv att node u h before;
    }

-- ---- a mount that is new

-- a Mount changes no object
mount_keeps : (setup : Setup) (w : World) (kind : SeatKind) (node : List ℕ) (epoch : ℕ) (pod : Uid) (claims : List Uid)
    → (world_after w (effect setup w kind (requests.Mount node epoch pod claims))).store ≡ w.store
unfolding effect on_devices device_answer world_after after
mount_keeps setup w kind node epoch pod claims = by (is_user kind) _
  where
    by : (b : Bool) (a : DeviceAnswer) → (world_after w (if b then refused_rule else OnDevices a)).store ≡ w.store
    by true a = refl
    by false a = refl

record IsRead (recent : List Entry) (namespace : List ℕ) (u : Uid) : Type 0 where
  name : List ℕ
  ready : IsReadReady recent namespace name u

read_for : (recent : List Entry) (namespace : List ℕ) (names : List (List ℕ)) (uids : List Uid) → AreReadReady recent namespace names uids
    → (u : Uid) → IsIn u uids → IsRead recent namespace u
read_for recent namespace [] [] r u h = absurd h
read_for recent namespace [] (x ∷ xs) r u h = absurd r
read_for recent namespace (n ∷ ns) [] r u h = absurd r
read_for recent namespace (n ∷ ns) (x ∷ xs) r u h = elim h [
  | inl is ↦ record { name = n; ready = subst (IsReadReady recent namespace n) is r.0 }
  | inr more ↦ read_for recent namespace ns xs r.1 u more
]

mounted_now : (setup : Setup) → ImportsPass setup.imports → (e : Entry) (past : List Entry) → Good setup (e ∷ past) → Run setup (e ∷ past) → (att : List Attachment)
    → passes (world setup past).store.rows att e.request ≡ true → (m : MountAt) → MountedBy setup e past m → (u : Uid) → IsIn u m.row.claims → IsOnVolume setup past att m.node u
mounted_now setup pass e past g run att let_through m by_this u h = by (claim_with u rows) refl (all_here (λ x. is_claim_attached rows (claim_with x rows) m.node att) m.row.claims through u h)
  where
    rows : List Object
    rows = (world setup past).store.rows

    inv : Invariant setup past
    inv = invariant_of setup past g.0

    through : passes rows att (requests.Mount m.node by_this.epoch m.row.pod m.row.claims) ≡ true
    through = ap (passes rows att) (sym by_this.asked) ∙ let_through

    read : IsRead by_this.row.recent by_this.row.shown.meta.namespace u
    read = read_for by_this.row.recent by_this.row.shown.meta.namespace by_this.row.shown.claims m.row.claims by_this.row.ready u h

    was : Stood setup past (Claim read.ready.claim)
    was =
        let key = claim_key by_this.row.shown.meta.namespace read.name in
        let earlier = by_this.row.teller ∷ by_this.row.earlier in
        (read_was setup past g.0 e.seat m.node by_this.row.recent earlier by_this.row.since key (Claim read.ready.claim) read.ready.read).was

    by : (x : Option ClaimData) → claim_with u rows ≡ x → is_claim_attached rows x m.node att ≡ true → IsOnVolume setup past att m.node u
    by None e is = absurd (true≢false (sym is))
    by (Some c) e is =
        let f = found_claim u rows c e in
        let there = member_stands (Claim c) rows inv.order f.0 in
        let later = inv.later (Claim read.ready.claim) (key_of (Claim c)) (Claim c) was there (f.1 ∙ sym read.ready.same) in
        record {
          key = key_of (Claim c);
          claim = c;
          there = there;
          its = f.1;
          bound = from_later setup past inv read.ready.claim c later (shown_was_bound setup pass past g.0 run.0 read.ready.claim was read.ready.completed read.ready.bound);
          attached = is;
        }

step_world : (setup : Setup) → ImportsPass setup.imports → IsGoodStart setup → (e : Entry) (past : List Entry) → Good setup (e ∷ past) → Run setup (e ∷ past) → (att : List Attachment)
    → passes (world setup past).store.rows att e.request ≡ true → AreOnVolumes setup past att → AreOnVolumes setup (e ∷ past) att
step_world setup pass start e past g run att let_through held m u in_m in_u = elim (new_mount setup e past run m in_m) [
  | inl before ↦
      let h = held m u before in_u in
      held_on setup e past g att m.node u h (mounts_kept setup e past g run start.mountless start.loose h.key h.claim h.there (mounted m before in_u h.claim h.its))
  | inr by_this ↦
      let h = mounted_now setup pass e past g run att let_through m by_this u in_u in
      let same : (world setup (e ∷ past)).store ≡ (world setup past).store =
      ap (λ r. (world_after (world setup past) (effect setup (world setup past) e.kind r)).store) by_this.asked
      ∙ mount_keeps setup (world setup past) e.kind m.node by_this.epoch m.row.pod m.row.claims in
      held_on setup e past g att m.node u h (ap (λ (s : State). is_some (row_at h.key s.rows)) same ∙ ap is_some h.there)
]
  where
    mounted : (x : MountAt) → IsIn x (world setup past).devices.mounts → IsIn u x.row.claims → (c : ClaimData) → c.meta.uid ≡ Some u → is_mounted (world setup past).devices c ≡ true
    mounted x h k c its = mounted_has c.meta.uid its
      where
        mounted_has : (y : Option Uid) → y ≡ Some u → is_uid_mounted (world setup past).devices y ≡ true
        mounted_has y e =
            ap (is_uid_mounted (world setup past).devices) e
            ∙ any_here (λ z. list_any (same_uid u) z.row.claims) (world setup past).devices.mounts x h (any_here (same_uid u) x.row.claims u k (uid_test u))

-- ---- attach

-- what is attached more leaves a claim attached
attached_by : (rows : List Object) (c : ClaimData) (node : List ℕ) (att new : List Attachment) → ((x : Option Uid) → is_uid_attached x node att ≡ true → is_uid_attached x node new ≡ true)
    → is_claim_attached rows (Some c) node att ≡ true → is_claim_attached rows (Some c) node new ≡ true
attached_by rows c node att new on e = by (own_volume rows c) e
  where
    by : (x : Option VolumeData) → is_volume_attached x node att ≡ true → is_volume_attached x node new ≡ true
    by None e = e
    by (Some v) e = on v.meta.uid e

step_attach : (setup : Setup) (past : List Entry) (u : Uid) (node : List ℕ) (att : List Attachment) → AreOnVolumes setup past att
    → AreOnVolumes setup past (after_attach (world setup past).store.rows u node att)
step_attach setup past u node att held m x in_m in_x =
    let h = held m x in_m in_x in
    let rows = (world setup past).store.rows in
    let more : (y : Option Uid) → is_uid_attached y m.node att ≡ true → is_uid_attached y m.node (after_attach rows u node att) ≡ true =
    λ y. more_attached att (after_attach rows u node att) y m.node (attach_grows (volume_with u rows) u node att) in
    record {
      key = h.key;
      claim = h.claim;
      there = h.there;
      its = h.its;
      bound = h.bound;
      attached = attached_by rows h.claim m.node att (after_attach rows u node att) more h.attached;
    }

-- ---- detach

not_is : (b : Bool) → (b ≡ true → ⊥) → not b ≡ true
not_is true f = absurd (f refl)
not_is false f = refl

step_detach : (setup : Setup) (past : List Entry) → Invariant setup past → (u : Uid) (node : List ℕ) (att : List Attachment) → AreOnVolumes setup past att
    → AreOnVolumes setup past (after_detach (world setup past) u node att)
step_detach setup past inv u node att held = by (is_attached u node att)
  where
    w : World
    w = world setup past

    without : user_of w.store.rows u (rows_on node w.devices.mounts) ≡ None → AreOnVolumes setup past (without_attachment u node att)
    without free m x in_m in_x =
        let h = held m x in_m in_x in
        let b = bound_to setup past inv h.key h.claim h.there h.bound in
        let own = own_is w.store.rows h.claim b.volume b.there b.carries in
        record {
          key = h.key;
          claim = h.claim;
          there = h.there;
          its = h.its;
          bound = h.bound;
          attached = ap (λ y. is_volume_attached y m.node (without_attachment u node att)) own ∙ kept b.volume.meta.uid refl (attached_own setup past inv att m.node x h b);
        }
      where
        kept : (y : Option Uid) → (bound_to setup past inv (held m x in_m in_x).key (held m x in_m in_x).claim (held m x in_m in_x).there (held m x in_m in_x).bound).volume.meta.uid ≡ y
            → is_uid_attached y m.node att ≡ true → is_uid_attached y m.node (without_attachment u node att) ≡ true
        kept None known e = absurd (true≢false (sym e))
        kept (Some k) known e =
            let p = any_gives (is_of k m.node) att e in
            let kept_one = left_by (λ z. not (is_of u node z)) att p.it p.among (not_is (is_of u node p.it) (λ gone. used k known p.it p.test gone)) in
            any_here (is_of k m.node) (without_attachment u node att) p.it kept_one p.test
          where
            used : (k : Uid) → (bound_to setup past inv (held m x in_m in_x).key (held m x in_m in_x).claim (held m x in_m in_x).there (held m x in_m in_x).bound).volume.meta.uid ≡ Some k
                → (a : Attachment) → is_of k m.node a ≡ true → is_of u node a ≡ true → ⊥
            used k known a one_ two =
                let h = held m x in_m in_x in
                let b = bound_to setup past inv h.key h.claim h.there h.bound in
                let s = and_parts (same_uid a.volume k) (bytes_eq a.node m.node) one_ in
                let t = and_parts (same_uid a.volume u) (bytes_eq a.node node) two in
                let uid : k ≡ u = sym (uid_of a.volume k s.0) ∙ uid_of a.volume u t.0 in
                let at : m.node ≡ node = sym (same_text a.node m.node s.1) ∙ same_text a.node node t.1 in
                let its = known ∙ ap (λ z. Some z) uid in
                let volume : volume_with u w.store.rows ≡ Some b.volume = volume_is w.store.rows inv.order (once_in setup past inv) (volume_key h.claim.volume_name) b.volume u b.there its in
                let claim : claim_with x w.store.rows ≡ Some h.claim = claim_is w.store.rows inv.order (once_in setup past inv) h.key h.claim x h.there h.its in
                let carrying : carries_uid w.store.rows u x ≡ true = rw (volume, claim) b.carries in
                no_user w.store.rows u (rows_on node w.devices.mounts) m.row free (row_of_mount node m w.devices.mounts in_m at) (any_here (carries_uid w.store.rows u) m.row.claims x in_x carrying)

    free_or : (y : Option Uid) → user_of w.store.rows u (rows_on node w.devices.mounts) ≡ y → AreOnVolumes setup past (unless_refused (in_use y) (without_attachment u node att) att)
    free_or None e = without e
    free_or (Some pod) e = held

    by : (b : Bool) → AreOnVolumes setup past (unless_refused (if b then in_use (user_of w.store.rows u (rows_on node w.devices.mounts)) else Some NotAttached) (without_attachment u node att) att)
    by true = free_or (user_of w.store.rows u (rows_on node w.devices.mounts)) refl
    by false = held

-- ---- step by step

carried_well : (setup : Setup) (past : List Entry) → Invariant setup past → (att : List Attachment) → AreOnVolumes setup past att → AreCarried (world setup past) att
carried_well setup past inv att held m u in_m in_u =
    let h = held m u in_m in_u in
    ap (λ x. is_claim_attached (world setup past).store.rows x m.node att) (claim_is (world setup past).store.rows inv.order (once_in setup past inv) h.key h.claim u h.there h.its) ∙ h.attached

record AreWell (setup : Setup) (m : List Step) : Type 0 where
  held : AreOnVolumes setup (entries m) (attached setup m)
  apart : AreApart (attached setup m)
  each : AtEachPoint setup m

well_here : (setup : Setup) (m : List Step) → Invariant setup (entries m) → AreOnVolumes setup (entries m) (attached setup m) → AreApart (attached setup m) → IsAttachedWell setup m
well_here setup m inv held apart = record { apart = apart; carried = carried_well setup (entries m) inv (attached setup m) held }

all_well : (setup : Setup) → ImportsPass setup.imports → IsGoodStart setup → (m : List Step) → Good setup (entries m) → Run setup (entries m) → EachPassed setup m → AreWell setup m
all_well setup pass start [] g run passed =
    let apart : AreApart [] = λ a b in_a in_b same other. absurd in_a in
    let held : AreOnVolumes setup [] [] = λ m u in_m in_u. absurd (start.mountless m in_m) in
    record { held = held; apart = apart; each = well_here setup [] g held apart }
all_well setup pass start (OfWorld e ∷ m) g run passed =
    let before = all_well setup pass start m g.0 run.0 passed.0 in
    let held = step_world setup pass start e (entries m) g run (attached setup m) passed.1 before.held in
    record { held = held; apart = before.apart; each = (well_here setup (OfWorld e ∷ m) g.3 held before.apart, before.each) }
all_well setup pass start (Attaches u node ∷ m) g run passed =
    let before = all_well setup pass start m g run passed in
    let held = step_attach setup (entries m) u node (attached setup m) before.held in
    let apart = attach_apart (volume_with u (world setup (entries m)).store.rows) u node (attached setup m) before.apart in
    record { held = held; apart = apart; each = (well_here setup (Attaches u node ∷ m) (invariant_of setup (entries m) g) held apart, before.each) }
all_well setup pass start (Detaches u node ∷ m) g run passed =
    let before = all_well setup pass start m g run passed in
    let held = step_detach setup (entries m) (invariant_of setup (entries m) g) u node (attached setup m) before.held in
    let apart = detach_apart (world setup (entries m)) u node (attached setup m) before.apart in
    record { held = held; apart = apart; each = (well_here setup (Detaches u node ∷ m) (invariant_of setup (entries m) g) held apart, before.each) }

pub attachments_stand : AttachmentsStand
attachments_stand setup m run passed =
    let start = first_world_is_good setup run.imports in
    (all_well setup run.imports start m (run_good setup start.invariant (entries m) (room_for setup start (entries m) run.short) run.run) run.run passed).each
