-- How one call moves the mounts of a node, and what it tells of them.
use Rattle.std.proofs.Common.{◌≡◌, ◌∙◌, ◌⊎◌, ℕ, ◌+◌, List, [], ◌∷◌, ◌++◌, Bool, true, false, true≢false, Option, Some, None, inl, inr, refl, sym, ap, if◌then◌else◌}
use Rattle.std.specs.Prelude.{◌&&◌, ◌||◌, ◌==◌, bytes_eq, cond, nat_lt, not}
use Rattle.std.proofs.lemmas.Bool.{and_parts}
use Rattle.std.proofs.lemmas.Bool.Decides.{Decides-eqb}
use Rattle.std.proofs.lemmas.Slice.Eq.{bytes_eq-Decides}
use Rattle.plain_data.specs.Pairs.{Pair}
use Rattle.kube_parts.specs.declared.names.Field.TheVariants as fields
use Rattle.kube_parts.specs.declared.names.Rule.TheVariants as rules
use Rattle.kube_parts.specs.declared.uid.Uid.{Uid}
use Rattle.call_types.specs.declared.reply.MountRow.{MountRow}
use Rattle.call_types.specs.declared.reply.Refusal.TheVariants.{BackFault, Forbidden, Gone, Invalid}
use Rattle.call_types.specs.declared.reply.Reply.{Reply}
use Rattle.call_types.specs.declared.reply.Reply.TheVariants.{Events, Mounted, Refused}
use Rattle.call_types.specs.declared.request.Request.{Request}
use Rattle.call_types.specs.declared.request.Request.TheVariants as requests
use Rattle.call_types.specs.declared.request.SeatKind.{SeatKind}
use Rattle.call_types.specs.declared.setup.Setup.{Setup}
use Rattle.binder_model.specs.AgentLicence.{has_row, is_of_epoch}
use Rattle.binder_model.specs.Answers.{Outcome, Says, is_user, outcome, reply_of}
use Rattle.binder_model.specs.Devices.{
  Data,
  DeviceAnswer,
  Devices,
  MountAt,
  after_call,
  data_named,
  device_answer,
  epoch_if_stale,
  epoch_of,
  erase,
  first_fit,
  is_mounted_on,
  is_planned,
  provision,
  provision_new,
  put_mount,
  rows_on,
  take_node,
  unless_planned,
  unless_stale,
  with_mount,
  with_mounts,
  without_mount,
}
use Rattle.binder_model.specs.Same.{same_uid}
use Rattle.binder_model.specs.Watching.{oldest, told_events}
use Rattle.binder_model.specs.World.{Effect, OnDevices, OnStore, SetsMoment, World, base, effect, is_time, on_devices, refused_rule, reply_to, set_time, stale_epoch, watch, world_after}
use Rattle.binder_model.proofs.Mounts.{rows_on_put, rows_on_put_other}
use Rattle.safety_law.proofs.Invariant.DeviceMoves.{stale_none}

-- the rows of a node after a mount and after an unmount

same_pod : (a b : Uid) → same_uid a b ≡ true → a ≡ b
same_pod a b e = ap (λ (n : ℕ). record { 0 = n }) ((Decides-eqb a.0 b.0).0 e)

row_join : (q : Uid) (xs ys : List MountRow) → has_row q (xs ++ ys) ≡ (has_row q xs || has_row q ys)
row_join q [] ys = refl
row_join q (x ∷ xs) ys = by (same_uid x.pod q) (row_join q xs ys)
  where
    by : (b : Bool) → has_row q (xs ++ ys) ≡ (has_row q xs || has_row q ys) → (b || has_row q (xs ++ ys)) ≡ ((b || has_row q xs) || has_row q ys)
    by true h = refl
    by false h = h

module _ (node : List ℕ) (pod : Uid) (claims : List Uid) (ms : List MountAt) where
  own : bytes_eq node node ≡ true
  own = (bytes_eq-Decides node node).1 refl

  put_rows : rows_on node (put_mount (record { node = node; row = record { pod = pod; claims = claims } }) ms) ≡ rows_on node ms ++ record { pod = pod; claims = claims } ∷ []
  put_rows = rows_on_put (record { node = node; row = record { pod = pod; claims = claims } }) ms

  put_row : (q : Uid) → has_row q (rows_on node (put_mount (record { node = node; row = record { pod = pod; claims = claims } }) ms)) ≡ (has_row q (rows_on node ms) || (same_uid pod q || false))
  put_row q = ap (has_row q) put_rows ∙ row_join q (rows_on node ms) (record { pod = pod; claims = claims } ∷ [])

  -- who was mounted is, and no other but the pod
  pub mount_keeps : (q : Uid) → has_row q (rows_on node ms) ≡ true → has_row q (rows_on node (with_mount node pod claims ms)) ≡ true
  mount_keeps q there = by (is_mounted_on node pod ms)
    where
      by : (b : Bool) → has_row q (rows_on node (if b then ms else put_mount (record { node = node; row = record { pod = pod; claims = claims } }) ms)) ≡ true
      by true = there
      by false = put_row q ∙ rw there refl

  pub mount_adds : (q : Uid) → has_row q (rows_on node (with_mount node pod claims ms)) ≡ true → (has_row q (rows_on node ms) ≡ true) ⊎ (same_uid pod q ≡ true)
  mount_adds q there = by (is_mounted_on node pod ms) there
    where
      either : (a b : Bool) → (a || (b || false)) ≡ true → (a ≡ true) ⊎ (b ≡ true)
      either true b e = inl refl
      either false true e = inr refl
      either false false e = absurd (true≢false (sym e))

      by : (b : Bool) → has_row q (rows_on node
          (if b then ms else put_mount (record { node = node; row = record { pod = pod; claims = claims } }) ms)) ≡ true → (has_row q (rows_on node ms) ≡ true) ⊎ (same_uid pod q ≡ true)
      by true e = inl e
      by false e = either (has_row q (rows_on node ms)) (same_uid pod q) (sym (put_row q) ∙ e)

-- a pod that was not mounted is
pub mounted_after : (node : List ℕ) (pod : Uid) (claims : List Uid) (ms : List MountAt) → is_mounted_on node pod ms ≡ false → is_mounted_on node pod (with_mount node pod claims ms) ≡ true
mounted_after node pod claims ms none = rw none (put_row node pod claims ms pod ∙ by (has_row pod (rows_on node ms)))
  where
    itself : same_uid pod pod ≡ true
    itself = (Decides-eqb pod.0 pod.0).1 refl

    by : (a : Bool) → (a || (same_uid pod pod || false)) ≡ true
    by true = refl
    by false = rw itself refl

-- the rows of other nodes stay
mount_other : (name : List ℕ) (pod : Uid) (claims : List Uid) (ms : List MountAt) (node : List ℕ) → bytes_eq name node ≡ false → rows_on node (with_mount name pod claims ms) ≡ rows_on node ms
mount_other name pod claims ms node other = by (is_mounted_on name pod ms)
  where
    by : (b : Bool) → rows_on node (if b then ms else put_mount (record { node = name; row = record { pod = pod; claims = claims } }) ms) ≡ rows_on node ms
    by true = refl
    by false = rows_on_put_other (record { node = name; row = record { pod = pod; claims = claims } }) ms node other

unmount_other : (name : List ℕ) (pod : Uid) (ms : List MountAt) (node : List ℕ) → bytes_eq name node ≡ false → rows_on node (without_mount name pod ms) ≡ rows_on node ms
unmount_other name pod [] node other = refl
unmount_other name pod (m ∷ ms) node other = by (bytes_eq m.node node) (bytes_eq m.node name) (same_uid m.row.pod pod) refl refl (unmount_other name pod ms node other)
  where
    apart : bytes_eq m.node node ≡ true → bytes_eq m.node name ≡ true → ⊥
    apart en em = true≢false (sym ((bytes_eq-Decides name node).1 (sym ((bytes_eq-Decides m.node name).0 em) ∙ (bytes_eq-Decides m.node node).0 en)) ∙ other)

    by : (n k u : Bool) → bytes_eq m.node node ≡ n → bytes_eq m.node name ≡ k → rows_on node (without_mount name pod ms) ≡ rows_on node ms
        → rows_on node (cond (not (k && u)) (m ∷ without_mount name pod ms) (without_mount name pod ms)) ≡ (if n then m.row ∷ rows_on node ms else rows_on node ms)
    by true true u en ek rest = absurd (apart en ek)
    by true false u en ek rest = rw en (ap (λ rows. m.row ∷ rows) rest)
    by false true true en ek rest = rest
    by false true false en ek rest = rw en rest
    by false false u en ek rest = rw en rest

-- no other pod is unmounted, and this one is
module _ (node : List ℕ) (pod : Uid) where
  pub unmounted_row : (q : Uid) (ms : List MountAt) → has_row q (rows_on node (without_mount node pod ms)) ≡ (has_row q (rows_on node ms) && not (same_uid q pod))
  unmounted_row q [] = refl
  unmounted_row q (m ∷ ms) = by (bytes_eq m.node node) (same_uid m.row.pod pod) (same_uid m.row.pod q) (same_uid q pod) refl refl refl refl (unmounted_row q ms)
    where
      same_three : same_uid m.row.pod pod ≡ true → same_uid m.row.pod q ≡ true → same_uid q pod ≡ true
      same_three a b = (Decides-eqb q.0 pod.0).1 (sym ((Decides-eqb m.row.pod.0 q.0).0 b) ∙ (Decides-eqb m.row.pod.0 pod.0).0 a)

      other_three : same_uid m.row.pod pod ≡ false → same_uid m.row.pod q ≡ true → same_uid q pod ≡ true → ⊥
      other_three a b c = true≢false (sym ((Decides-eqb m.row.pod.0 pod.0).1 ((Decides-eqb m.row.pod.0 q.0).0 b ∙ (Decides-eqb q.0 pod.0).0 c)) ∙ a)

      none : (x : Bool) → (x && false) ≡ false
      none true = refl
      none false = refl

      by : (n u v t : Bool) → bytes_eq m.node node ≡ n → same_uid m.row.pod pod ≡ u → same_uid m.row.pod q ≡ v → same_uid q pod ≡ t
          → has_row q (rows_on node (without_mount node pod ms)) ≡ (has_row q (rows_on node ms) && not t)
          → has_row q (rows_on node (cond (not (n && u)) (m ∷ without_mount node pod ms) (without_mount node pod ms))) ≡ (has_row q (if n then m.row ∷ rows_on node ms else rows_on node ms) && not t)
      by false u v t en eu ev et rest = rw en rest
      by true true true true en eu ev et rest = rest ∙ (none (has_row q (rows_on node ms)) ∙ sym (none (has_row q (m.row ∷ rows_on node ms))))
      by true true true false en eu ev et rest = absurd (true≢false (sym (same_three eu ev) ∙ et))
      by true true false t en eu ev et rest = rest ∙ rw ev refl
      by true false true true en eu ev et rest = absurd (other_three eu ev et)
      by true false true false en eu ev et rest = rw (en, ev) refl
      by true false false t en eu ev et rest = rw (en, ev) rest

  pub unmounted_after : (ms : List MountAt) → has_row pod (rows_on node (without_mount node pod ms)) ≡ false
  unmounted_after ms = unmounted_row pod ms ∙ rw itself (none (has_row pod (rows_on node ms)))
    where
      itself : same_uid pod pod ≡ true
      itself = (Decides-eqb pod.0 pod.0).1 refl

      none : (x : Bool) → (x && false) ≡ false
      none true = refl
      none false = refl

  pub unmount_keeps : (q : Uid) (ms : List MountAt) → has_row q (rows_on node ms) ≡ true → (has_row q (rows_on node (without_mount node pod ms)) ≡ true) ⊎ (same_uid pod q ≡ true)
  unmount_keeps q ms there = by (same_uid q pod) refl
    where
      by : (b : Bool) → same_uid q pod ≡ b → (has_row q (rows_on node (without_mount node pod ms)) ≡ true) ⊎ (same_uid pod q ≡ true)
      by true e = inr ((Decides-eqb pod.0 q.0).1 (sym ((Decides-eqb q.0 pod.0).0 e)))
      by false e = inl (unmounted_row q ms ∙ rw (there, e) refl)

  pub unmount_drops : (q : Uid) (ms : List MountAt) → has_row q (rows_on node (without_mount node pod ms)) ≡ true → has_row q (rows_on node ms) ≡ true
  unmount_drops q ms there = (and_parts (has_row q (rows_on node ms)) (not (same_uid q pod)) (sym (unmounted_row q ms) ∙ there)).0

-- one call: the mounts of the node stay, or the call mounted a pod there or unmounted one, at the node's epoch, and told the
-- rows that then are

pub data MountsMove (node : List ℕ) (d new : Devices) (request : Request) (reply : Reply) : Type 0 where
  Stays : rows_on node new.mounts ≡ rows_on node d.mounts → MountsMove node d new request reply
  Adds : (epoch : ℕ) (pod : Uid) (claims : List Uid) → request ≡ requests.Mount node epoch pod claims → epoch ≡ epoch_of node d.epochs → new.mounts ≡ with_mount node pod claims d.mounts
      → reply ≡ Mounted (rows_on node new.mounts) → MountsMove node d new request reply
  Drops : (epoch : ℕ) (pod : Uid) → request ≡ requests.Unmount node epoch pod → epoch ≡ epoch_of node d.epochs
      → new.mounts ≡ without_mount node pod d.mounts → reply ≡ Mounted (rows_on node new.mounts)
      → MountsMove node d new request reply

-- a list of mounts that is told, of the node at an epoch, is the one that then stands
abbrev pub TellsRows : List ℕ → Devices → Request → Reply → Type 0
TellsRows node new request reply = (epoch : ℕ) (rows : List MountRow) → is_of_epoch node epoch request ≡ true → reply ≡ Mounted rows → rows ≡ rows_on node new.mounts

pub record MountsAfter (node : List ℕ) (d new : Devices) (request : Request) (reply : Reply) : Type 0 where
  pub move : MountsMove node d new request reply
  pub tells : TellsRows node new request reply

abbrev is_mounts : Reply → Bool
is_mounts (Mounted rows) = true
is_mounts reply = false

abbrev rows_in : Reply → List MountRow
rows_in (Mounted rows) = rows
rows_in reply = []

module _ (node : List ℕ) where
  quiet : (d new : Devices) (request : Request) (reply : Reply) → new.mounts ≡ d.mounts → is_mounts reply ≡ false → MountsAfter node d new request reply
  quiet d new request reply same none = record { move = Stays (ap (rows_on node) same); tells = λ epoch rows of is. absurd (true≢false (sym (ap is_mounts is) ∙ none)) }

  untold : (d new : Devices) (request : Request) (reply : Reply) → new.mounts ≡ d.mounts → ((epoch : ℕ) → is_of_epoch node epoch request ≡ false) → MountsAfter node d new request reply
  untold d new request reply same none = record { move = Stays (ap (rows_on node) same); tells = λ epoch rows of is. absurd (true≢false (sym of ∙ none epoch)) }

  abbrev IsAnswered : Devices → Request → Option DeviceAnswer → Type 0
  IsAnswered d request None = (epoch : ℕ) → is_of_epoch node epoch request ≡ false
  IsAnswered d request (Some a) = MountsAfter node d a.devices request a.reply

  test : (d : Devices) (request : Request) (b : Bool) (x y : DeviceAnswer) → IsAnswered d request (Some x) → IsAnswered d request (Some y) → IsAnswered d request (Some (if b then x else y))
  test d request true x y kx ky = kx
  test d request false x y kx ky = ky

  planned : (setup : Setup) (d : Devices) (request : Request) (next : DeviceAnswer) → IsAnswered d request (Some next) → IsAnswered d request (Some (unless_planned setup d next))
  unfolding unless_planned
  planned setup d request next k = test d request (is_planned (d.calls + 1) setup.faults) (after_call d (Refused (BackFault (d.calls + 1)))) next (quiet d _ request _ refl refl) k

  stale : (d : Devices) (request : Request) (s : Option ℕ) (next : DeviceAnswer) → (s ≡ None → IsAnswered d request (Some next)) → IsAnswered d request (Some (unless_stale d s next))
  unfolding unless_stale
  stale d request None next k = k refl
  stale d request (Some current) next k = quiet d d request _ refl refl

  provisioned : (setup : Setup) (d : Devices) (request : Request) (name provisioner : List ℕ) (bytes : ℕ) (labels : Option (List Pair))
      (x : Option Data) → IsAnswered d request (Some (provision setup.pools d name provisioner bytes labels x))
  unfolding provision provision_new
  provisioned setup d request name provisioner bytes labels (Some x) = quiet d _ request _ refl refl
  provisioned setup d request name provisioner bytes labels None = by (first_fit provisioner bytes labels d.stored 0 setup.pools)
    where
      by : (place : Option ℕ) → IsAnswered d request (Some (provision_new setup.pools d name provisioner bytes labels place))
      by None = quiet d _ request _ refl refl
      by (Some place) = quiet d _ request _ refl refl

  -- what lists the mounts of a node tells them as they then are
  listed : (d : Devices) (name : List ℕ) (given : ℕ) (ms : List MountAt) (epoch : ℕ) (rows : List MountRow)
      → (bytes_eq name node && given == epoch) ≡ true → (with_mounts d name ms).reply ≡ Mounted rows → rows ≡ rows_on node ms
  unfolding with_mounts
  listed d name given ms epoch rows of is = sym (ap rows_in is) ∙ ap (λ n. rows_on n ms) ((bytes_eq-Decides name node).0 (and_parts (bytes_eq name node) (given == epoch) of).0)

  mounting : (d : Devices) (name : List ℕ) (epoch : ℕ) (pod : Uid) (claims : List Uid) → epoch ≡ epoch_of name d.epochs
      → IsAnswered d (requests.Mount name epoch pod claims) (Some (with_mounts d name (with_mount name pod claims d.mounts)))
  unfolding with_mounts
  mounting d name epoch pod claims current = record { move = by (bytes_eq name node) refl; tells = listed d name epoch (with_mount name pod claims d.mounts) }
    where
      by : (b : Bool) → bytes_eq name node ≡ b
          → MountsMove node d (record d { mounts = with_mount name pod claims d.mounts }) (requests.Mount name epoch pod claims) (Mounted (rows_on name (with_mount name pod claims d.mounts)))
      by true e =
          let same : name ≡ node = (bytes_eq-Decides name node).0 e in
          Adds epoch pod claims (ap (λ n. requests.Mount n epoch pod claims) same) (current ∙ ap (λ n. epoch_of n d.epochs) same) (ap (λ n. with_mount n pod claims d.mounts) same)
          (ap (λ n. Mounted (rows_on n (with_mount name pod claims d.mounts))) same)
      by false e = Stays (mount_other name pod claims d.mounts node e)

  unmounting : (d : Devices) (name : List ℕ) (epoch : ℕ) (pod : Uid) → epoch ≡ epoch_of name d.epochs
      → IsAnswered d (requests.Unmount name epoch pod) (Some (with_mounts d name (without_mount name pod d.mounts)))
  unfolding with_mounts
  unmounting d name epoch pod current = record { move = by (bytes_eq name node) refl; tells = listed d name epoch (without_mount name pod d.mounts) }
    where
      by : (b : Bool) → bytes_eq name node ≡ b
          → MountsMove node d (record d { mounts = without_mount name pod d.mounts }) (requests.Unmount name epoch pod) (Mounted (rows_on name (without_mount name pod d.mounts)))
      by true e =
          let same : name ≡ node = (bytes_eq-Decides name node).0 e in
          Drops epoch pod (ap (λ n. requests.Unmount n epoch pod) same) (current ∙ ap (λ n. epoch_of n d.epochs) same) (ap (λ n. without_mount n pod d.mounts) same)
          (ap (λ n. Mounted (rows_on n (without_mount name pod d.mounts))) same)
      by false e = Stays (unmount_other name pod d.mounts node e)

  reading : (d : Devices) (name : List ℕ) (epoch : ℕ) → IsAnswered d (requests.Mounts name epoch) (Some (with_mounts d name d.mounts))
  unfolding with_mounts
  reading d name epoch = record { move = Stays refl; tells = listed d name epoch d.mounts }

  -- the walk over the devices' verbs
  answered : (setup : Setup) (d : Devices) (request : Request) → IsAnswered d request (device_answer setup d request)
  unfolding device_answer erase take_node
  answered setup d (requests.Provision name provisioner bytes labels) = planned setup d _ _ (provisioned setup d _ name provisioner bytes labels (data_named name d.stored))
  answered setup d (requests.Erase id) = planned setup d _ _ (quiet d _ _ _ refl refl)
  answered setup d (requests.TakeNode name) = quiet d _ _ _ refl refl
  answered setup d (requests.Mounts name epoch) = stale d _ (epoch_if_stale d name epoch) _ (λ e. reading d name epoch)
  answered setup d (requests.Mount name epoch pod claims) = stale d _ (epoch_if_stale d name epoch) _ (λ e. mounting d name epoch pod claims (stale_none d name epoch e))
  answered setup d (requests.Unmount name epoch pod) = stale d _ (epoch_if_stale d name epoch) _ (λ e. unmounting d name epoch pod (stale_none d name epoch e))
  answered setup d _ = λ epoch. refl

  abbrev pub MountsAfterEffect : World → Request → Effect → Type 0
  MountsAfterEffect w request x = MountsAfter node w.devices (world_after w x).devices request (reply_to x)

  on_store : (w : World) (request : Request) (o : Outcome) → MountsAfter node w.devices w.devices request (reply_of o) → MountsAfterEffect w request (OnStore o)
  unfolding world_after reply_to
  on_store w request o k = k

  on_device : (w : World) (request : Request) (a : DeviceAnswer) → MountsAfter node w.devices a.devices request a.reply → MountsAfterEffect w request (OnDevices a)
  unfolding world_after reply_to
  on_device w request a k = k

  asked : (w : World) (kind : SeatKind) (request : Request) (a : Option DeviceAnswer) → IsAnswered w.devices request a → MountsAfterEffect w request (on_devices w kind request a)
  unfolding on_devices reply_of
  asked w kind request (Some a) k = by (is_user kind)
    where
      by : (b : Bool) → MountsAfterEffect w request (if b then refused_rule else OnDevices a)
      by true = on_store w request (Says (Refused (Forbidden rules.Verb))) (quiet w.devices w.devices request _ refl refl)
      by false = on_device w request a k
  asked w kind request None none =
      let o = outcome w.store kind request w.moment (stale_epoch w.devices request) in
      on_store w request o (untold w.devices w.devices request (reply_of o) refl none)

  away : (w : World) (request : Request) (x : Effect) → (world_after w x).devices ≡ w.devices → ((epoch : ℕ) → is_of_epoch node epoch request ≡ false) → MountsAfterEffect w request x
  away w request x same none = untold w.devices _ request (reply_to x) (ap (λ (d : Devices). d.mounts) same) none

-- every call
pub mounts_after : (setup : Setup) (w : World) (kind : SeatKind) (request : Request) (node : List ℕ) → MountsAfterEffect node w request (effect setup w kind request)
unfolding effect set_time watch world_after
mounts_after setup w kind (requests.SetTime at) node = by (is_time at)
  where
    by : (b : Bool) → MountsAfterEffect node w (requests.SetTime at) (if b then SetsMoment at else OnStore (Says (Refused (Invalid fields.Time))))
    by true = away node w (requests.SetTime at) (SetsMoment at) refl (λ epoch. refl)
    by false = away node w (requests.SetTime at) (OnStore _) refl (λ epoch. refl)
mounts_after setup w kind (requests.Watch k from) node = by (nat_lt w.store.version from) (nat_lt from (oldest (base setup) w.store.version))
  where
    by : (a b : Bool)
        → MountsAfterEffect node w (requests.Watch k from)
        (if a then OnStore (Says (Refused (Invalid fields.From))) else if b then OnStore
        (Says (Refused (Gone (oldest (base setup) w.store.version)))) else OnStore (Says (Events (told_events k from w.store.version w.log))))
    by true b = away node w (requests.Watch k from) (OnStore _) refl (λ epoch. refl)
    by false true = away node w (requests.Watch k from) (OnStore _) refl (λ epoch. refl)
    by false false = away node w (requests.Watch k from) (OnStore _) refl (λ epoch. refl)
mounts_after setup w kind request node = asked node w kind request _ (answered node setup w.devices request)
