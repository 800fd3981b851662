-- As long as its epoch is the node's, an agent remembers the mounts that the devices have, but for calls whose answers were lost.
use Rattle.std.proofs.Common.{◌≡◌, ◌∙◌, ℕ, List, [], ◌∷◌, Bool, true, false, true≢false, Option, Some, None, inl, inr, refl, sym, ap, subst, if◌then◌else◌}
use Rattle.std.specs.Prelude.{◌==◌, bytes_eq, is_some}
use Rattle.std.proofs.lemmas.Bool.Decides.{Decides-eqb}
use Rattle.std.proofs.lemmas.Slice.Eq.{bytes_eq-Decides}
use Rattle.kube_parts.specs.declared.uid.Uid.{Uid}
use Rattle.call_types.specs.declared.entry.Entry.{Entry}
use Rattle.call_types.specs.declared.reply.MountRow.{MountRow}
use Rattle.call_types.specs.declared.reply.Reply.{Reply}
use Rattle.call_types.specs.declared.reply.Reply.TheVariants.{Mounted}
use Rattle.call_types.specs.declared.request.Request.{Request}
use Rattle.call_types.specs.declared.request.Request.TheVariants as requests
use Rattle.call_types.specs.declared.request.SeatKind.{SeatKind}
use Rattle.call_types.specs.declared.request.SeatKind.TheVariants as seats
use Rattle.call_types.specs.declared.setup.Setup.{Setup}
use Rattle.binder_model.specs.AgentLicence.{epoch_in, epoch_told, has_row, is_mount_of, is_of_epoch, last_epoch}
use Rattle.binder_model.specs.Answers.{is_user}
use Rattle.binder_model.specs.Devices.{Devices, epoch_of, rows_on}
use Rattle.binder_model.specs.Licence.{Licensed}
use Rattle.binder_model.specs.Promises.{IsRunOf}
use Rattle.binder_model.specs.Run.{Run}
use Rattle.binder_model.specs.Told.{first_some, own}
use Rattle.binder_model.specs.World.{effect, reply_to, world}
use Rattle.model_laws.proofs.Evidence.{own_mine}
use Rattle.model_laws.proofs.Lists.{none_some, one}
use Rattle.safety_law.specs.Invariant.Good.{Good}
use Rattle.safety_law.specs.Invariant.Holders.{Holds, epoch_now}
use Rattle.safety_law.proofs.Invariant.DeviceMoves.{device_moves}
use Rattle.safety_law.proofs.Invariant.Holders.{HolderStep, Mine, Other, Took, holder_step, one_holder}
use Rattle.safety_law.proofs.Law.FirstWorld.{first_world_is_good}
use Rattle.safety_law.proofs.Law.Law.{room_for}
use Rattle.safety_law.proofs.Law.Runs.{run_good}
use Rattle.worker_core.specs.Memories.{Memory, memory_of, mounts_told}
use Rattle.worker_core.proofs.ByKind.{epoch_stands}
use Rattle.settle_progress.specs.Epochs.Remembered.{AreRemembered, MountsAreRemembered, is_unmount_of}
use Rattle.settle_progress.proofs.Epochs.Mounts.{Adds, Drops, MountsAfter, MountsMove, Stays, mount_adds, mount_keeps, mounts_after, unmount_drops, unmount_keeps}

-- a run keeps the invariant
pub good_of : (setup : Setup) (past : List Entry) → IsRunOf setup past → Good setup past
good_of setup past run = let start = first_world_is_good setup run.imports in run_good setup start.invariant past (room_for setup start past run.short) run.run

-- a list of mounts that counts was told, of the node at the epoch
told_list : (node : List ℕ) (epoch : ℕ) (request : Request) (reply : Reply) (rows : List MountRow)
    → mounts_told node (Some epoch) request reply ≡ Some rows → (reply ≡ Mounted rows) × (is_of_epoch node epoch request ≡ true)
told_list node epoch request (Mounted told) rows e = by (is_of_epoch node epoch request) refl e
  where
    by : (b : Bool) → is_of_epoch node epoch request ≡ b → (if b then Some told else None) ≡ Some rows → (Mounted told ≡ Mounted rows) × (is_of_epoch node epoch request ≡ true)
    by true of f = (ap (λ rs. Mounted rs) (one told rows f), of)
    by false of f = none_some f
told_list node epoch request reply rows e = none_some e

list_told : (node : List ℕ) (epoch : ℕ) (request : Request) (reply : Reply) (rows : List MountRow) → is_of_epoch node epoch request ≡ true
    → reply ≡ Mounted rows → mounts_told node (Some epoch) request reply ≡ Some rows
list_told node epoch request reply rows of is = ap (mounts_told node (Some epoch) request) is ∙ rw of refl

-- what is remembered after an entry of the seat that told no epoch

module _ (node : List ℕ) where
  abbrev memory : List Entry → Memory
  memory mine = memory_of (record { kind = seats.Agent; node = node }) mine

  told_mounts : (e : Entry) (mine : List Entry) → e.told ≡ true → epoch_told node e.request e.reply ≡ None
      → (memory (e ∷ mine)).mounts ≡ first_some (mounts_told node (memory mine).epoch e.request e.reply) (memory mine).mounts
  told_mounts e mine told none = rw (told, none) refl

  lost_mounts : (e : Entry) (mine : List Entry) → e.told ≡ false → (memory (e ∷ mine)).mounts ≡ (memory mine).mounts
  lost_mounts e mine lost = rw lost refl

  -- an epoch that was told begins with no mounts
  epoch_mounts : (e : Entry) (mine : List Entry) → is_some (epoch_in node e) ≡ true → (memory (e ∷ mine)).mounts ≡ None
  epoch_mounts e mine flag = by e.told refl flag
    where
      by : (t : Bool) → e.told ≡ t → is_some (if t then epoch_told node e.request e.reply else None) ≡ true → (memory (e ∷ mine)).mounts ≡ None
      by false told f = absurd (true≢false (sym f))
      by true told f = by_epoch (epoch_told node e.request e.reply) refl f
        where
          by_epoch : (x : Option ℕ) → epoch_told node e.request e.reply ≡ x → is_some x ≡ true → (memory (e ∷ mine)).mounts ≡ None
          by_epoch None is g = absurd (true≢false (sym g))
          by_epoch (Some k) is g = rw (told, is) refl

  -- rows that have not changed
  grown : (old new : Devices) (rows : List MountRow) (e : Entry) (mine : List Entry) → rows_on node new.mounts ≡ rows_on node old.mounts
      → AreRemembered node old.mounts rows mine → AreRemembered node new.mounts rows (e ∷ mine)
  grown old new rows e mine same r = record {
    mounted = λ pod h. elim (r.mounted pod h) [ inl there ↦ inl (ap (has_row pod) same ∙ there) | inr lost ↦ inr (inr lost) ];
    remembered = λ pod h. elim (r.remembered pod (sym (ap (has_row pod) same) ∙ h)) [ inl there ↦ inl there | inr lost ↦ inr (inr lost) ];
    whole = λ told. r.whole told.1 ∙ sym same;
  }

  -- rows that were told
  told_rows : (new : Devices) (rows : List MountRow) (mine : List Entry) → rows ≡ rows_on node new.mounts → AreRemembered node new.mounts rows mine
  told_rows new rows mine same = record { mounted = λ pod h. inl (ap (has_row pod) (sym same) ∙ h); remembered = λ pod h. inl (ap (has_row pod) same ∙ h); whole = λ told. same }

  -- the answer to a mount or to an unmount was lost
  lost_rows : (old new : Devices) (rows : List MountRow) (e : Entry) (mine : List Entry) → e.told ≡ false → MountsMove node old new e.request e.reply
      → AreRemembered node old.mounts rows mine → AreRemembered node new.mounts rows (e ∷ mine)
  lost_rows old new rows e mine lost (Stays same) r = grown old new rows e mine same r
  lost_rows old new rows e mine lost (Adds epoch pod claims asked current is reply) r = record {
    mounted = λ q h. elim (r.mounted q h) [ inl there ↦ inl (ap (λ ms. has_row q (rows_on node ms)) is ∙ mount_keeps node pod claims old.mounts q there) | inr gone ↦ inr (inr gone) ];
    remembered = λ q h. elim (mount_adds node pod claims old.mounts q (sym (ap (λ ms. has_row q (rows_on node ms)) is) ∙ h)) [
      | inl there ↦ elim (r.remembered q there) [ inl here ↦ inl here | inr gone ↦ inr (inr gone) ]
      | inr same ↦ inr (inl (lost, ap (is_mount_of q) asked ∙ same))
    ];
    whole = λ told. absurd (true≢false (sym told.0 ∙ lost));
  }
  lost_rows old new rows e mine lost (Drops epoch pod asked current is reply) r = record {
    mounted = λ q h. elim (r.mounted q h) [
      | inl there ↦ elim (unmount_keeps node pod q old.mounts there)
          [ inl here ↦ inl (ap (λ ms. has_row q (rows_on node ms)) is ∙ here) | inr same ↦ inr (inl (lost, ap (is_unmount_of q) asked ∙ same)) ]
      | inr gone ↦ inr (inr gone)
    ];
    remembered = λ q h. elim (r.remembered q (unmount_drops node pod q old.mounts (sym (ap (λ ms. has_row q (rows_on node ms)) is) ∙ h))) [ inl here ↦ inl here | inr gone ↦ inr (inr gone) ];
    whole = λ told. absurd (true≢false (sym told.0 ∙ lost));
  }

  itself : bytes_eq node node ≡ true
  itself = (bytes_eq-Decides node node).1 refl

  -- a mount or an unmount at the epoch that is remembered tells its rows
  moves_tell : (old new : Devices) (request : Request) (reply : Reply) → mounts_told node (Some (epoch_of node old.epochs)) request reply ≡ None
      → MountsMove node old new request reply → rows_on node new.mounts ≡ rows_on node old.mounts
  moves_tell old new request reply none (Stays same) = same
  moves_tell old new request reply none (Adds epoch pod claims asked current is answer) =
      let level : (epoch == epoch_of node old.epochs) ≡ true = (Decides-eqb epoch (epoch_of node old.epochs)).1 current in
      let of : is_of_epoch node (epoch_of node old.epochs) request ≡ true = ap (is_of_epoch node (epoch_of node old.epochs)) asked ∙ rw (itself, level) refl in
      none_some (sym none ∙ list_told node (epoch_of node old.epochs) request reply (rows_on node new.mounts) of answer)
  moves_tell old new request reply none (Drops epoch pod asked current is answer) =
      let level : (epoch == epoch_of node old.epochs) ≡ true = (Decides-eqb epoch (epoch_of node old.epochs)).1 current in
      let of : is_of_epoch node (epoch_of node old.epochs) request ≡ true = ap (is_of_epoch node (epoch_of node old.epochs)) asked ∙ rw (itself, level) refl in
      none_some (sym none ∙ list_told node (epoch_of node old.epochs) request reply (rows_on node new.mounts) of answer)

  own_entry : (old new : Devices) (rows : List MountRow) (e : Entry) (mine : List Entry) → is_some (epoch_in node e) ≡ false
      → (memory mine).epoch ≡ Some (epoch_of node old.epochs) → MountsAfter node old new e.request e.reply
      → ((rs : List MountRow) → (memory mine).mounts ≡ Some rs → AreRemembered node old.mounts rs mine) → (memory (e ∷ mine)).mounts ≡ Some rows → AreRemembered node new.mounts rows (e ∷ mine)
  own_entry old new rows e mine flag current after known is = by e.told refl flag
    where
      none_of : (x : Option ℕ) → is_some x ≡ false → x ≡ None
      none_of None f = refl
      none_of (Some k) f = absurd (true≢false f)

      by_list : (x : Option (List MountRow)) → mounts_told node (Some (epoch_of node old.epochs)) e.request e.reply ≡ x
          → first_some x (memory mine).mounts ≡ Some rows → AreRemembered node new.mounts rows (e ∷ mine)
      by_list (Some told) t f =
          let list = told_list node (epoch_of node old.epochs) e.request e.reply told t in
          told_rows new rows (e ∷ mine) (sym (one told rows f) ∙ after.tells (epoch_of node old.epochs) told list.1 list.0)
      by_list None t f = grown old new rows e mine (moves_tell old new e.request e.reply t after.move) (known rows f)

      by : (told : Bool) → e.told ≡ told → is_some (if told then epoch_told node e.request e.reply else None) ≡ false → AreRemembered node new.mounts rows (e ∷ mine)
      by false lost f = lost_rows old new rows e mine lost after.move (known rows (sym (lost_mounts e mine lost) ∙ is))
      by true told f =
          by_list (mounts_told node (Some (epoch_of node old.epochs)) e.request e.reply) refl
          (subst (λ x. first_some (mounts_told node x e.request e.reply) (memory mine).mounts ≡ Some rows) current (sym (told_mounts e mine told (none_of (epoch_told node e.request e.reply) f)) ∙ is))

-- entries of other seats

mount_epoch : (mine : List Entry) (kind : SeatKind) (node : List ℕ) (epoch : ℕ) (pod : Uid) (claims : List Uid) → is_user kind ≡ false
    → Licensed kind mine (requests.Mount node epoch pod claims) → last_epoch node mine ≡ Some epoch
mount_epoch mine seats.User node epoch pod claims c l = absurd (true≢false c)
mount_epoch mine seats.Agent node epoch pod claims c l = l.1.current
mount_epoch mine kind node epoch pod claims c l = absurd l.1

unmount_epoch : (mine : List Entry) (kind : SeatKind) (node : List ℕ) (epoch : ℕ) (pod : Uid) → is_user kind ≡ false
    → Licensed kind mine (requests.Unmount node epoch pod) → last_epoch node mine ≡ Some epoch
unmount_epoch mine seats.User node epoch pod c l = absurd (true≢false c)
unmount_epoch mine seats.Agent node epoch pod c l = l.1.current
unmount_epoch mine kind node epoch pod c l = absurd l.1

-- the mounts of a node move by calls of the seat that holds it
others_stay : (setup : Setup) (e : Entry) (past : List Entry) → Good setup past → Run setup (e ∷ past) → (seat : ℕ) (node : List ℕ) → Holds setup past node seat → (e.seat == seat) ≡ false
    → rows_on node (world setup (e ∷ past)).devices.mounts ≡ rows_on node (world setup past).devices.mounts
others_stay setup e past g run seat node holds apart = by (is_user e.kind) refl
  where
    -- another seat that mounts there would hold it
    not_held : {G : Type 0} (epoch : ℕ) → last_epoch node (own e.seat past) ≡ Some epoch → epoch ≡ epoch_now setup past node → G
    not_held epoch told current =
        let same : e.seat ≡ seat = one_holder setup past g node e.seat seat (told ∙ ap (λ (n : ℕ). Some n) current) holds in
        absurd (true≢false (sym ((Decides-eqb e.seat seat).1 same) ∙ apart))

    moved : is_user e.kind ≡ false → MountsMove node (world setup past).devices (world setup (e ∷ past)).devices e.request (reply_to (effect setup (world setup past) e.kind e.request))
        → rows_on node (world setup (e ∷ past)).devices.mounts ≡ rows_on node (world setup past).devices.mounts
    moved c (Stays same) = same
    moved c (Adds epoch pod claims asked current is answer) =
        not_held epoch (mount_epoch (own e.seat past) e.kind node epoch pod claims c (subst (Licensed e.kind (own e.seat past)) asked run.2)) current
    moved c (Drops epoch pod asked current is answer) = not_held epoch (unmount_epoch (own e.seat past) e.kind node epoch pod c (subst (Licensed e.kind (own e.seat past)) asked run.2)) current

    by : (b : Bool) → is_user e.kind ≡ b → rows_on node (world setup (e ∷ past)).devices.mounts ≡ rows_on node (world setup past).devices.mounts
    by true u = ap (λ (d : Devices). rows_on node d.mounts) ((device_moves setup (world setup past) e.kind e.request).user u)
    by false c = moved c (mounts_after setup (world setup past) e.kind e.request node).move

remembered_so : (setup : Setup) (past : List Entry) → Good setup past → Run setup past → (seat : ℕ) (node : List ℕ) (rows : List MountRow)
    → Holds setup past node seat → (memory_of (record { kind = seats.Agent; node = node }) (own seat past)).mounts ≡ Some rows
    → AreRemembered node (world setup past).devices.mounts rows (own seat past)
remembered_so setup [] g run seat node rows holds is = none_some is
remembered_so setup (e ∷ past) g run seat node rows holds is = by (λ rs h i. remembered_so setup past g.0 run.0 seat node rs h i) (holder_step setup e past g node seat holds)
  where
    by : ((rs : List MountRow) → Holds setup past node seat
        → (memory_of (record { kind = seats.Agent; node = node }) (own seat past)).mounts ≡ Some rs → AreRemembered node (world setup past).devices.mounts rs (own seat past))
        → HolderStep setup e past node seat → AreRemembered node (world setup (e ∷ past)).devices.mounts rows (own seat (e ∷ past))
    by known (Took mine flag none next) =
        let front : own seat (e ∷ past) ≡ e ∷ own seat past = own_mine e past seat mine in
        none_some (sym (epoch_mounts node e (own seat past) flag) ∙ (ap (λ m. (memory_of (record { kind = seats.Agent; node = node }) m).mounts) (sym front) ∙ is))
    by known (Mine mine flag front since same held) =
        let current : (memory_of (record { kind = seats.Agent; node = node }) (own seat past)).epoch ≡ Some (epoch_now setup past node) =
        epoch_stands (record { kind = seats.Agent; node = node }) (own seat past) ∙ held in
        let after : MountsAfter node (world setup past).devices (world setup (e ∷ past)).devices e.request e.reply =
        subst (λ r. MountsAfter node (world setup past).devices (world setup (e ∷ past)).devices e.request r) (sym run.1) (mounts_after setup (world setup past) e.kind e.request node) in
        subst (AreRemembered node (world setup (e ∷ past)).devices.mounts rows) (sym front)
        (own_entry node (world setup past).devices (world setup (e ∷ past)).devices rows e (own seat past) flag current after
        (λ rs i. known rs held i) (ap (λ m. (memory_of (record { kind = seats.Agent; node = node }) m).mounts) (sym front) ∙ is))
    by known (Other apart front same held) =
        let rows_same = others_stay setup e past g.0 run seat node held apart in
        let k = known rows held (ap (λ m. (memory_of (record { kind = seats.Agent; node = node }) m).mounts) (sym front) ∙ is) in
        subst (AreRemembered node (world setup (e ∷ past)).devices.mounts rows) (sym front) (moved_on rows_same k)
      where
        moved_on : rows_on node (world setup (e ∷ past)).devices.mounts ≡ rows_on node (world setup past).devices.mounts → AreRemembered node (world setup past).devices.mounts rows (own seat past)
            → AreRemembered node (world setup (e ∷ past)).devices.mounts rows (own seat past)
        moved_on rows_same k = record {
          mounted = λ pod h. elim (k.mounted pod h) [ inl there ↦ inl (ap (has_row pod) rows_same ∙ there) | inr lost ↦ inr lost ];
          remembered = λ pod h. k.remembered pod (sym (ap (has_row pod) rows_same) ∙ h);
          whole = λ told. k.whole told ∙ sym rows_same;
        }

pub mounts_are_remembered : MountsAreRemembered
mounts_are_remembered setup past seat node rows run holds is = remembered_so setup past (good_of setup past run) run.run seat node rows holds is
