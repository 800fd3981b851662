-- Pods: bound to a node, mounted, unmounted, finished.
use Rattle.std.proofs.Common.{◌≡◌, ◌∙◌, ◌⊎◌, ℕ, ◌+◌, ◌≤◌, List, [], ◌∷◌, ◌++◌, Bool, true, false, true≢false, Option, Some, None, inl, inr, refl, sym, ap, subst, arith}
use Rattle.std.specs.Prelude.{bytes_eq, cond, not, ◌&&◌, ◌||◌, filter}
use Rattle.std.specs.List.{list_any}
use Rattle.std.proofs.lemmas.Bool.{and_from, and_parts, or_left, and_right}
use Rattle.std.proofs.lemmas.Bool.Decides.{nat_tests}
use Rattle.std.proofs.lemmas.Slice.Eq.{bytes_eq-Decides}
use Rattle.kube_parts.specs.declared.uid.Uid.{Uid}
use Rattle.kube_objects.specs.declared.objects.Pod.{Pod as PodData}
use Rattle.kube_objects.specs.declared.objects.Object.{Object}
use Rattle.kube_objects.specs.declared.objects.Object.TheVariants.{Class, Node, Volume, Claim, Pod}
use Rattle.kube_objects.specs.Bindings.{is_deleting, is_scheduled}
use Rattle.kube_objects.specs.Keys.{AreRows, key_of, put_row, row_at, same_key, without_row}
use Rattle.kube_objects.proofs.SameKeys.{same_key-Decides}
use Rattle.call_types.specs.declared.request.Request.TheVariants.{BindPod, FinishPod, Mount, Unmount}
use Rattle.call_types.specs.declared.reply.Reply.{Reply}
use Rattle.call_types.specs.declared.reply.Reply.TheVariants.{Mounted}
use Rattle.call_types.specs.declared.setup.Setup.{Setup}
use Rattle.binder_model.specs.Answers.{after}
use Rattle.binder_model.specs.Devices.{DeviceAnswer, Devices, MountAt, device_answer, epoch_if_stale, is_mounted_on, is_up_to, put_mount, rows_on, unless_stale, with_mount, with_mounts, without_mount}
use Rattle.binder_model.specs.Due.{is_pod_mounted, is_pod_uid_mounted}
use Rattle.binder_model.specs.Same.{same_uid}
use Rattle.binder_model.specs.Store.{at_version, with_meta}
use Rattle.binder_model.specs.World.{World, effect, world_after}
use Rattle.model_laws.proofs.Lists.{IsIn, one}
use Rattle.safety_law.specs.Invariant.Writes.{IsBind, IsLeaving}
use Rattle.settle_measure.specs.Left.Measure.{left_of, left_on, mount_left, object_left, pod_left}
use Rattle.settle_measure.specs.Upkeep.Pays.{AssignPays, FinishPays, IsOnePod, MountPays, UnmountPays, is_pod_uid}
use Rattle.settle_measure.proofs.Left.Aside.{pod_gone, pod_put}
use Rattle.settle_measure.proofs.Left.Entries.{Put, Took, came}
use Rattle.settle_measure.proofs.Left.Others.{claim_less, volume_less}
use Rattle.settle_measure.proofs.Upkeep.Provisions.{same_rows}
use Rattle.settle_measure.proofs.Left.Sums.{Pays, falls, one_pays, paid_at, stands}

pod_of : (a b : PodData) → Pod a ≡ Pod b → a ≡ b
pod_of a b e = ap (λ o. taken_out o) e
  where
    taken_out : Object → PodData
    taken_out (Pod p) = p
    taken_out o = a

scheduled_most : (a b : Bool) → mount_left a b ≤ 3
scheduled_most a true = omega arith
scheduled_most true false = omega arith
scheduled_most false false = omega arith

pub assign_pays : AssignPays
unfolding at_version with_meta
assign_pays setup w kind p uid node order there free named o e =
    let c = came setup w kind (BindPod (key_of (Pod p)) uid node) o order e in
    by c.write c.store
  where
    is_new : IsBind w.store kind (key_of (Pod p)) uid node o → o ≡ Pod (record p { node = node; meta = record p.meta { version = w.store.version + 1 } })
    is_new i = i.is ∙ ap (λ q. at_version (Pod (record q { node = node })) (w.store.version + 1)) (pod_of i.pod p (one (Pod i.pod) (Pod p) (sym i.there ∙ there)))

    by : IsBind w.store kind (key_of (Pod p)) uid node o
        → Put w (effect setup w kind (BindPod (key_of (Pod p)) uid node)) o ⊎ Took w (effect setup w kind (BindPod (key_of (Pod p)) uid node)) (BindPod (key_of (Pod p)) uid node) o
        → left_of (world_after w (effect setup w kind (BindPod (key_of (Pod p)) uid node))) + 1 ≤ left_of w
    by i (inl put) =
        let new : PodData = record p { node = node; meta = record p.meta { version = w.store.version + 1 } } in
        let t : Put w (effect setup w kind (BindPod (key_of (Pod p)) uid node))
        (Pod (record p { node = node; meta = record p.meta { version = w.store.version + 1 } })) = subst (Put w _) (is_new i) put in
        let is : left_of (world_after w (effect setup w kind (BindPod (key_of (Pod p)) uid node))) ≡ left_on (put_row (Pod new) w.store.rows) w.devices =
        ap (λ rows. left_on rows (world_after w (effect setup w kind (BindPod (key_of (Pod p)) uid node))).devices) t.rows ∙ ap (left_on (put_row (Pod new) w.store.rows)) t.devices in
        let h = pod_put w.store.rows w.devices p new order refl there in
        let was : pod_left w.devices p ≡ 4 = rw free refl in
        let now : pod_left w.devices new ≡ mount_left (is_deleting p.meta) (is_pod_mounted w.devices new) = rw named refl in
        let small = scheduled_most (is_deleting p.meta) (is_pod_mounted w.devices new) in
        omega (arith, is, h, was, now, small)
    by i (inr took) = absurd (subst (IsLeaving (BindPod (key_of (Pod p)) uid node)) (is_new i) took.leaves)

pod_some : (d : Devices) (p : PodData) → 1 ≤ pod_left d p
pod_some d p = by (is_scheduled p) (is_deleting p.meta) (is_pod_mounted d p)
  where
    by : (a b c : Bool) → 1 ≤ cond a (mount_left b c) 4
    by true b true = omega arith
    by true true false = omega arith
    by true false false = omega arith
    by false b c = omega arith

pub finish_pays : FinishPays
unfolding world_after after at_version with_meta
finish_pays setup w kind p uid node epoch order there is =
    let h = pod_gone w.store.rows w.devices p order there in
    let s = pod_some w.devices p in
    let e : left_of (world_after w (effect setup w kind (FinishPod (key_of (Pod p)) uid node epoch))) ≡ left_on
    (without_row (key_of (Pod p)) w.store.rows) w.devices = ap (λ x. left_of (world_after w x)) is in
    omega (arith, h, s, e)

-- mounts

abbrev is_of : List ℕ → Uid → MountAt → Bool
is_of node uid m = bytes_eq m.node node && same_uid m.row.pod uid

mounted_any : (node : List ℕ) (uid : Uid) (ms : List MountAt) → is_mounted_on node uid ms ≡ list_any (is_of node uid) ms
mounted_any node uid [] = refl
mounted_any node uid (m ∷ ms) = by (bytes_eq m.node node) (mounted_any node uid ms)
  where
    by : (b : Bool) → is_mounted_on node uid ms ≡ list_any (is_of node uid) ms
        → list_any (λ r. same_uid r.pod uid) (cond b (m.row ∷ rows_on node ms) (rows_on node ms)) ≡ ((b && same_uid m.row.pod uid) || list_any (is_of node uid) ms)
    by true h = ap (λ x. same_uid m.row.pod uid || x) h
    by false h = h

any_join : (p : MountAt → Bool) (xs ys : List MountAt) → list_any p (xs ++ ys) ≡ (list_any p xs || list_any p ys)
any_join p [] ys = refl
any_join p (x ∷ xs) ys = by (p x) (any_join p xs ys)
  where
    by : (b : Bool) → list_any p (xs ++ ys) ≡ (list_any p xs || list_any p ys) → (b || list_any p (xs ++ ys)) ≡ ((b || list_any p xs) || list_any p ys)
    by true h = refl
    by false h = h

-- split by a test and joined with one more
any_split : (p q : MountAt → Bool) (new : MountAt) (ms : List MountAt) → list_any p (filter q ms ++ new ∷ filter (λ m. not (q m)) ms) ≡ (p new || list_any p ms)
any_split p q new ms = any_join p (filter q ms) (new ∷ filter (λ m. not (q m)) ms) ∙ parts ms
  where
    step : (a b c d e : Bool) → (a || (b || c)) ≡ (b || d) → ((e || a) || (b || c)) ≡ (b || (e || d))
    step a b c d true h = by b
      where
        by : (b : Bool) → true ≡ (b || true)
        by true = refl
        by false = refl
    step a b c d false h = h

    steps : (a b c d e : Bool) → (a || (b || c)) ≡ (b || d) → (a || (b || (e || c))) ≡ (b || (e || d))
    steps a b c d true h = by a b
      where
        by : (a b : Bool) → (a || (b || true)) ≡ (b || true)
        by true true = refl
        by true false = refl
        by false true = refl
        by false false = refl
    steps a b c d false h = h

    parts : (ns : List MountAt) → (list_any p (filter q ns) || (p new || list_any p (filter (λ m. not (q m)) ns))) ≡ (p new || list_any p ns)
    parts [] = refl
    parts (m ∷ ns) = by (q m) (parts ns)
      where
        by : (b : Bool) → (list_any p (filter q ns) || (p new || list_any p (filter (λ m. not (q m)) ns))) ≡ (p new || list_any p ns)
            → (list_any p (cond b (m ∷ filter q ns) (filter q ns)) ||
            (p new || list_any p (cond (not b) (m ∷ filter (λ m. not (q m)) ns) (filter (λ m. not (q m)) ns)))) ≡ (p new || (p m || list_any p ns))
        by true h = step (list_any p (filter q ns)) (p new) (list_any p (filter (λ m. not (q m)) ns)) (list_any p ns) (p m) h
        by false h = steps (list_any p (filter q ns)) (p new) (list_any p (filter (λ m. not (q m)) ns)) (list_any p ns) (p m) h

put_any : (node : List ℕ) (uid : Uid) (new : MountAt) (ms : List MountAt) → is_mounted_on node uid (put_mount new ms) ≡ (is_of node uid new || is_mounted_on node uid ms)
put_any node uid new ms = mounted_any node uid (put_mount new ms) ∙ any_split (is_of node uid) (is_up_to new.node) new ms ∙ ap (λ x. is_of node uid new || x) (sym (mounted_any node uid ms))

abbrev is_mounts : Reply → Bool
is_mounts (Mounted rows) = true
is_mounts reply = false

stale_form : (d : Devices) (node : List ℕ) (stale : Option ℕ) (ms : List MountAt)
    → is_mounts (unless_stale d stale (with_mounts d node ms)).reply ≡ true → (unless_stale d stale (with_mounts d node ms)).devices ≡ record d { mounts = ms }
unfolding unless_stale with_mounts
stale_form d node None ms e = refl
stale_form d node (Some current) ms e = absurd (true≢false (sym e))

mount_is : (setup : Setup) (d : Devices) (node : List ℕ) (epoch : ℕ) (uid : Uid) (claims : List Uid) (a : DeviceAnswer)
    → device_answer setup d (Mount node epoch uid claims) ≡ Some a → is_mounts a.reply ≡ true → a.devices ≡ record d { mounts = with_mount node uid claims d.mounts }
unfolding device_answer
mount_is setup d node epoch uid claims a e reply =
    let is = one _ a e in
    ap (λ (x : DeviceAnswer). x.devices) (sym is) ∙ stale_form d node (epoch_if_stale d node epoch) (with_mount node uid claims d.mounts) (ap (λ (x : DeviceAnswer). is_mounts x.reply) is ∙ reply)

unmount_is : (setup : Setup) (d : Devices) (node : List ℕ) (epoch : ℕ) (uid : Uid) (a : DeviceAnswer)
    → device_answer setup d (Unmount node epoch uid) ≡ Some a → is_mounts a.reply ≡ true → a.devices ≡ record d { mounts = without_mount node uid d.mounts }
unfolding device_answer
unmount_is setup d node epoch uid a e reply =
    let is = one _ a e in
    ap (λ (x : DeviceAnswer). x.devices) (sym is) ∙ stale_form d node (epoch_if_stale d node epoch) (without_mount node uid d.mounts) (ap (λ (x : DeviceAnswer). is_mounts x.reply) is ∙ reply)

-- mounts alone have changed
module _ (w : World) (ms : List MountAt) (p : PodData) (uid : Uid) (order : AreRows w.store.rows) (there : row_at (key_of (Pod p)) w.store.rows ≡ Some (Pod p)) (only : IsOnePod w p uid)
    (others : (node : List ℕ) (u : Uid) → same_uid uid u ≡ false → is_mounted_on node u ms ≡ is_mounted_on node u w.devices.mounts)
    (pay : pod_left (record w.devices { mounts = ms }) p + 1 ≤ pod_left w.devices p) where
  new : Devices
  new = record w.devices { mounts = ms }

  same_pod : (q : PodData) → is_pod_uid uid q.meta.uid ≡ false → pod_left (record w.devices { mounts = ms }) q ≡ pod_left w.devices q
  same_pod q e = by q.meta.uid e
    where
      by : (u : Option Uid) → is_pod_uid uid u ≡ false
          → cond (is_scheduled q) (mount_left (is_deleting q.meta) (is_pod_uid_mounted (record w.devices { mounts = ms }) q.node u)) 4 ≡ cond
          (is_scheduled q) (mount_left (is_deleting q.meta) (is_pod_uid_mounted w.devices q.node u)) 4
      by None e = refl
      by (Some u) e = ap (λ b. cond (is_scheduled q) (mount_left (is_deleting q.meta) b) 4) (others q.node u e)

  pod_pays : (q : PodData) → IsIn (Pod q) w.store.rows → pod_left (record w.devices { mounts = ms }) q + paid_at (key_of (Pod p)) 1 (Pod q) ≤ pod_left w.devices q
  pod_pays q i = by (is_pod_uid uid q.meta.uid) refl (same_key (key_of (Pod q)) (key_of (Pod p))) refl
    where
      small : (b : Bool) → cond b 1 0 ≤ 1
      small true = omega arith
      small false = omega arith

      by : (b : Bool) → is_pod_uid uid q.meta.uid ≡ b → (k : Bool) → same_key (key_of (Pod q)) (key_of (Pod p)) ≡ k → pod_left (record w.devices { mounts = ms }) q + cond k 1 0 ≤ pod_left w.devices q
      by true e k ek =
          let is : q ≡ p = only q (stands w.store.rows order (Pod q) i) e in
          let h = subst (λ r. pod_left (record w.devices { mounts = ms }) r + 1 ≤ pod_left w.devices r) (sym is) pay in
          let s = small k in
          omega (arith, h, s)
      by false e false ek = let h = same_pod q e in omega (arith, h)
      by false e true ek =
          let is : q ≡ p = pod_of q p (one (Pod q) (Pod p)
          (sym (stands w.store.rows order (Pod q) i) ∙ ap (λ j. row_at j w.store.rows) ((same_key-Decides (key_of (Pod q)) (key_of (Pod p))).0 ek) ∙ there)) in
          subst (λ r. pod_left (record w.devices { mounts = ms }) r + 1 ≤ pod_left w.devices r) (sym is) pay

  each : (o : Object) → IsIn o w.store.rows → Pays (object_left w.store.rows w.devices) (object_left w.store.rows (record w.devices { mounts = ms })) (paid_at (key_of (Pod p)) 1) o
  each (Class y) i = omega arith
  each (Node y) i = omega arith
  each (Volume u) i = let h = volume_less w.store.rows w.store.rows w.devices (record w.devices { mounts = ms }) u (λ namespace n h. h) (λ h. h) in omega (arith, h)
  each (Claim c) i = let h = claim_less w.store.rows w.store.rows w.devices (record w.devices { mounts = ms }) c (λ n h. h) (same_rows w.store.rows c) in omega (arith, h)
  each (Pod q) i = pod_pays q i

  pub mounts_lower : left_on w.store.rows (record w.devices { mounts = ms }) + 1 ≤ left_of w
  mounts_lower =
      let sums = falls (object_left w.store.rows w.devices) (object_left w.store.rows (record w.devices { mounts = ms })) (paid_at (key_of (Pod p)) 1) w.store.rows each in
      let mine = one_pays (key_of (Pod p)) 1 (Pod p) w.store.rows there in
      omega (arith, sums, mine)

mount_weight : (w : World) (ms : List MountAt) (p : PodData) (uid : Uid) → p.meta.uid ≡ Some uid → is_scheduled p ≡ true → is_deleting p.meta ≡ false
    → is_pod_mounted w.devices p ≡ false → is_mounted_on p.node uid ms ≡ true
    → pod_left (record w.devices { mounts = ms }) p + 1 ≤ pod_left w.devices p
mount_weight w ms p uid has on staying before now =
    let after : is_pod_mounted (record w.devices { mounts = ms }) p ≡ true = ap (is_pod_uid_mounted (record w.devices { mounts = ms }) p.node) has ∙ now in
    let was : pod_left w.devices p ≡ 3 = ap (λ b. cond b (mount_left (is_deleting p.meta) (is_pod_mounted w.devices p)) 4) on
    ∙ ap (λ b. mount_left b (is_pod_mounted w.devices p)) staying ∙ ap (mount_left false) before in
    let is : pod_left (record w.devices { mounts = ms }) p ≡ 2 =
    ap (λ b. cond b (mount_left (is_deleting p.meta) (is_pod_mounted (record w.devices { mounts = ms }) p)) 4) on ∙ ap (mount_left (is_deleting p.meta)) after in
    omega (arith, was, is)

unmount_weight : (w : World) (ms : List MountAt) (p : PodData) (uid : Uid) → p.meta.uid ≡ Some uid → is_scheduled p ≡ true
    → is_deleting p.meta ≡ true → is_pod_mounted w.devices p ≡ true → is_mounted_on p.node uid ms ≡ false
    → pod_left (record w.devices { mounts = ms }) p + 1 ≤ pod_left w.devices p
unmount_weight w ms p uid has on going before now =
    let after : is_pod_mounted (record w.devices { mounts = ms }) p ≡ false = ap (is_pod_uid_mounted (record w.devices { mounts = ms }) p.node) has ∙ now in
    let was : pod_left w.devices p ≡ 2 = ap (λ b. cond b (mount_left (is_deleting p.meta) (is_pod_mounted w.devices p)) 4) on ∙ ap (mount_left (is_deleting p.meta)) before in
    let is : pod_left (record w.devices { mounts = ms }) p ≡ 1 =
    ap (λ b. cond b (mount_left (is_deleting p.meta) (is_pod_mounted (record w.devices { mounts = ms }) p)) 4) on
    ∙ ap (λ b. mount_left b (is_pod_mounted (record w.devices { mounts = ms }) p)) going ∙ ap (mount_left true) after in
    omega (arith, was, is)

same_itself : (u : Uid) → same_uid u u ≡ true
same_itself u = grind (arith, nat_tests)

pub mount_pays : MountPays
mount_pays setup w p uid epoch claims a rows order there has on staying before only e reply =
    let is = mount_is setup w.devices p.node epoch uid claims a e (ap is_mounts reply) in
    let bare : is_mounted_on p.node uid w.devices.mounts ≡ false = sym (ap (is_pod_uid_mounted w.devices p.node) has) ∙ before in
    let ms : with_mount p.node uid claims w.devices.mounts ≡ put_mount (record { node = p.node; row = record { pod = uid; claims = claims } }) w.devices.mounts = rw bare refl in
    let here : is_of p.node uid (record { node = p.node; row = record { pod = uid; claims = claims } }) ≡ true =
    and_from (bytes_eq p.node p.node) (same_uid uid uid) ((bytes_eq-Decides p.node p.node).1 refl) (same_itself uid) in
    let now : is_mounted_on p.node uid (with_mount p.node uid claims w.devices.mounts) ≡ true = ap (is_mounted_on p.node uid) ms
    ∙ put_any p.node uid _ w.devices.mounts ∙ or_left _ (is_mounted_on p.node uid w.devices.mounts) here in
    let low = mounts_lower w (with_mount p.node uid claims w.devices.mounts) p uid order there only
    (λ node u differs. ap (is_mounted_on node u) ms ∙ put_any node u _ w.devices.mounts
    ∙ ap (λ b. b || is_mounted_on node u w.devices.mounts) (and_right (bytes_eq p.node node) (same_uid uid u) differs))
    (mount_weight w (with_mount p.node uid claims w.devices.mounts) p uid has on staying before now) in
    subst (λ d. left_on w.store.rows d + 1 ≤ left_of w) (sym is) low

-- what is not of this mount stays, and this one goes
none_after : (node : List ℕ) (uid : Uid) (ms : List MountAt) → list_any (is_of node uid) (filter (λ m. not (is_of node uid m)) ms) ≡ false
none_after node uid [] = refl
none_after node uid (m ∷ ms) = by (is_of node uid m) refl (none_after node uid ms)
  where
    by : (b : Bool) → is_of node uid m ≡ b → list_any (is_of node uid) (filter (λ n. not (is_of node uid n)) ms) ≡ false
        → list_any (is_of node uid) (cond (not b) (m ∷ filter (λ n. not (is_of node uid n)) ms) (filter (λ n. not (is_of node uid n)) ms)) ≡ false
    by true e h = h
    by false e h = ap (λ b. b || list_any (is_of node uid) (filter (λ n. not (is_of node uid n)) ms)) e ∙ h

two_uids : (u v x : Uid) → same_uid x u ≡ true → same_uid x v ≡ true → same_uid u v ≡ true
two_uids u v x a b = grind (arith, nat_tests, a, b)

others_after : (node : List ℕ) (uid : Uid) (on : List ℕ) (u : Uid) (ms : List MountAt) → same_uid uid u ≡ false
    → list_any (is_of on u) (filter (λ m. not (is_of node uid m)) ms) ≡ list_any (is_of on u) ms
others_after node uid on u [] differs = refl
others_after node uid on u (m ∷ ms) differs = by (is_of node uid m) refl (is_of on u m) refl (others_after node uid on u ms differs)
  where
    by : (b : Bool) → is_of node uid m ≡ b → (k : Bool) → is_of on u m ≡ k → list_any (is_of on u) (filter (λ n. not (is_of node uid n)) ms) ≡ list_any (is_of on u) ms
        → list_any (is_of on u) (cond (not b) (m ∷ filter (λ n. not (is_of node uid n)) ms) (filter (λ n. not (is_of node uid n)) ms)) ≡ (k || list_any (is_of on u) ms)
    by false e k ek h = (λ i. ek i || h i)
    by true e false ek h = h
    by true e true ek h =
        let x = (and_parts (bytes_eq m.node node) (same_uid m.row.pod uid) e).1 in
        let y = (and_parts (bytes_eq m.node on) (same_uid m.row.pod u) ek).1 in
        absurd (true≢false (sym (two_uids uid u m.row.pod x y) ∙ differs))

pub unmount_pays : UnmountPays
unmount_pays setup w p uid epoch a rows order there has on going before only e reply =
    let is = unmount_is setup w.devices p.node epoch uid a e (ap is_mounts reply) in
    let now : is_mounted_on p.node uid (without_mount p.node uid w.devices.mounts) ≡ false =
    mounted_any p.node uid (without_mount p.node uid w.devices.mounts) ∙ none_after p.node uid w.devices.mounts in
    let low = mounts_lower w (without_mount p.node uid w.devices.mounts) p uid order there only
    (λ node u differs. mounted_any node u (without_mount p.node uid w.devices.mounts) ∙ others_after p.node uid node u w.devices.mounts differs ∙ sym (mounted_any node u w.devices.mounts))
    (unmount_weight w (without_mount p.node uid w.devices.mounts) p uid has on going before now) in
    subst (λ d. left_on w.store.rows d + 1 ≤ left_of w) (sym is) low
