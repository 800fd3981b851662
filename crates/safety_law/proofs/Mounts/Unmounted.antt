-- A pod that a node's holder was told unmounted, after each Mount that it asked, is not mounted there.
use Rattle.std.proofs.Common.{sym, refl, subst, inl, inr, ap, ◌∙◌, true≢false, arith}
use Rattle.std.proofs.lemmas.Bool.Decides.{nat_tests}
use Rattle.std.specs.Prelude.{if◌then◌else◌, ℕ, ◌≡◌, ◌⊎◌, ◌==◌, Bool, true, false, ◌&&◌, List, [], ◌∷◌, Some}
use Rattle.kube_parts.specs.declared.uid.Uid.{Uid}
use Rattle.call_types.specs.declared.entry.Entry.{Entry}
use Rattle.call_types.specs.declared.setup.Setup.{Setup}
use Rattle.call_types.specs.declared.request.SeatKind.{SeatKind}
use Rattle.call_types.specs.declared.request.SeatKind.TheVariants as seats
use Rattle.call_types.specs.declared.request.Request.TheVariants as requests
use Rattle.binder_model.specs.Answers.{is_user}
use Rattle.binder_model.specs.Devices.{Devices, MountAt}
use Rattle.binder_model.specs.AgentLicence.{MayMount, since_epoch, was_told_unmounted, is_of_epoch, lacks_pod, is_mount_of}
use Rattle.binder_model.specs.Licence.{Licensed}
use Rattle.binder_model.specs.World.{world, effect, reply_to}
use Rattle.binder_model.specs.Told.{own}
use Rattle.binder_model.specs.Run.{Run}
use Rattle.safety_law.specs.Invariant.DeviceMoves.{MountIn, IsMounting}
use Rattle.safety_law.proofs.Invariant.DeviceMoves.{device_moves, has_row_of}
use Rattle.safety_law.specs.Invariant.Good.{Good}
use Rattle.safety_law.specs.Invariant.Holders.{Holds}
use Rattle.safety_law.proofs.Invariant.Holders.{HolderStep, Took, Mine, Other, holder_step, one_holder}
use Rattle.std.proofs.lemmas.Bool.{and_parts}
use Rattle.safety_law.proofs.Invariant.Tests.{uid_same}
use Rattle.model_laws.proofs.Mounting.{MountSplit, mount_split}

-- the row that allowed a mount
pub record MountedBy (setup : Setup) (e : Entry) (past : List Entry) (m : MountAt) : Type 0 where
  pub epoch : ℕ
  pub asked : e.request ≡ requests.Mount m.node epoch m.row.pod m.row.claims
  pub row : MountSplit (own e.seat past) m.node epoch m.row.pod m.row.claims
  pub holds : Holds setup past m.node e.seat
  pub controller : is_user e.kind ≡ false

mount_row : (mine : List Entry) (kind : SeatKind) (node : List ℕ) (epoch : ℕ) (pod : Uid) (claims : List Uid) → is_user kind ≡ false
    → Licensed kind mine (requests.Mount node epoch pod claims) → MayMount mine node epoch pod claims
mount_row mine seats.User node epoch pod claims c l = absurd (true≢false c)
mount_row mine seats.Agent node epoch pod claims c l = l.1
mount_row mine kind node epoch pod claims c l = absurd l.1

-- what is mounted now was mounted before, or was mounted by an allowed Mount of the node's holder
pub new_mount : (setup : Setup) (e : Entry) (past : List Entry) → Run setup (e ∷ past) → (m : MountAt)
    → MountIn m (world setup (e ∷ past)).devices.mounts → MountIn m (world setup past).devices.mounts ⊎ MountedBy setup e past m
new_mount setup e past run m h = by (is_user e.kind) refl
  where
    made : is_user e.kind ≡ false → IsMounting (world setup past).devices e.request m → MountedBy setup e past m
    made c i =
        let row = mount_split (own e.seat past) m.node i.epoch m.row.pod m.row.claims
        (mount_row (own e.seat past) e.kind m.node i.epoch m.row.pod m.row.claims c (subst (Licensed e.kind (own e.seat past)) i.asked run.2)) in
        record { epoch = i.epoch; asked = i.asked; row = row; holds = row.current ∙ ap (λ (n : ℕ). Some n) i.current; controller = c }

    by : (b : Bool) → is_user e.kind ≡ b → MountIn m (world setup past).devices.mounts ⊎ MountedBy setup e past m
    by true u = inl (subst (λ (x : Devices). MountIn m x.mounts) ((device_moves setup (world setup past) e.kind e.request).user u) h)
    by false u = elim ((device_moves setup (world setup past) e.kind e.request).move.mount m h) [ inl before ↦ inl before | inr i ↦ inr (made u i) ]

abbrev pub IsUnmounted : Setup → List Entry → List ℕ → Uid → Type 0
IsUnmounted setup past node pod = (m : MountAt) → MountIn m (world setup past).devices.mounts → m.node ≡ node → m.row.pod ≡ pod → ⊥

-- the flags of a told list of mounts, and of an asked Mount
abbrev tells_unmounted : List ℕ → ℕ → Uid → Entry → Bool
tells_unmounted node epoch pod e = e.told && is_of_epoch node epoch e.request && lacks_pod pod e.reply

unmounted_now : (setup : Setup) (e : Entry) (past : List Entry) → Good setup (e ∷ past) → (node : List ℕ) (epoch : ℕ) (pod : Uid)
    → tells_unmounted node epoch pod e ≡ true → IsUnmounted setup (e ∷ past) node pod
unmounted_now setup e past g node epoch pod t m h n p =
    let outer = and_parts (e.told && is_of_epoch node epoch e.request) (lacks_pod pod e.reply) t in
    let inner = and_parts e.told (is_of_epoch node epoch e.request) outer.0 in
    let lacks : lacks_pod pod (reply_to (effect setup (world setup past) e.kind e.request)) ≡ true = ap (lacks_pod pod) (sym g.2) ∙ outer.1 in
    let none = (device_moves setup (world setup past) e.kind e.request).move.listed node epoch pod inner.1 lacks in
    true≢false (sym (has_row_of m (world setup (e ∷ past)).devices.mounts node pod h n p) ∙ none)

pub unmounted : (setup : Setup) (past : List Entry) → Good setup past → Run setup past → (node : List ℕ) (seat : ℕ) (epoch : ℕ) (pod : Uid) → Holds setup past node seat
    → was_told_unmounted node epoch pod (since_epoch node (own seat past)) ≡ true → IsUnmounted setup past node pod
unmounted setup [] g run node seat epoch pod holds is = absurd (true≢false (sym is))
unmounted setup (e ∷ past) g run node seat epoch pod holds is = by (λ h w. unmounted setup past g.0 run.0 node seat epoch pod h w) (holder_step setup e past g node seat holds)
  where
    -- what was unmounted before is so where this entry did not mount it
    on : IsUnmounted setup past node pod → ((m : MountAt) → MountedBy setup e past m → m.node ≡ node → m.row.pod ≡ pod → ⊥) → IsUnmounted setup (e ∷ past) node pod
    on before new m h n p = elim (new_mount setup e past run m h) [ inl old ↦ before m old n p | inr by_this ↦ new m by_this n p ]

    mine : (Holds setup past node seat → was_told_unmounted node epoch pod (since_epoch node (own seat past)) ≡ true → IsUnmounted setup past node pod)
        → Holds setup past node seat
        → (a b : Bool) → tells_unmounted node epoch pod e ≡ a → is_mount_of pod e.request ≡ b
        → (if a then true else if b then false else was_told_unmounted node epoch pod (since_epoch node (own seat past))) ≡ true → IsUnmounted setup (e ∷ past) node pod
    mine f held true b t x w = unmounted_now setup e past g node epoch pod t
    mine f held false true t x w = absurd (true≢false (sym w))
    mine f held false false t x w = on (f held w) (λ m by_this n p. true≢false (sym (ap (is_mount_of pod) by_this.asked ∙ uid_same m.row.pod pod p) ∙ x))

    by : (Holds setup past node seat → was_told_unmounted node epoch pod (since_epoch node (own seat past)) ≡ true → IsUnmounted setup past node pod)
        → HolderStep setup e past node seat → IsUnmounted setup (e ∷ past) node pod
    by f (Took a flag none next) = absurd (true≢false (sym (ap (was_told_unmounted node epoch pod) (sym none) ∙ is)))
    by f (Mine a flag o since same held) = mine f held (tells_unmounted node epoch pod e) (is_mount_of pod e.request) refl refl (ap (was_told_unmounted node epoch pod) (sym since) ∙ is)
    by f (Other apart o same held) =
        on (f held (ap (λ (x : List Entry). was_told_unmounted node epoch pod (since_epoch node x)) (sym o) ∙ is))
        (λ m by_this n p.
        let one : e.seat ≡ seat = one_holder setup past g.0 node e.seat seat (subst (λ (x : List ℕ). Holds setup past x e.seat) n by_this.holds) held in
        let t : (e.seat == seat) ≡ true = grind (arith, nat_tests) in
        true≢false (sym t ∙ apart))
