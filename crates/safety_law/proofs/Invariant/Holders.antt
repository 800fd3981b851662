-- Who holds a node: the one seat that was told its current epoch. What an entry of a run does to that.
use Rattle.std.proofs.Common.{sym, refl, subst, inl, inr, ap, ◌∙◌, true≢false, arith}
use Rattle.std.proofs.lemmas.Bool.Decides.{nat_tests}
use Rattle.std.specs.Prelude.{if◌then◌else◌, ℕ, ◌≡◌, ◌≤◌, ◌+◌, ◌==◌, Bool, true, false, List, [], ◌∷◌, Option, Some, None, bytes_eq, is_some}
use Rattle.std.proofs.lemmas.Slice.Eq.{bytes_eq-Decides}
use Rattle.call_types.specs.declared.entry.Entry.{Entry}
use Rattle.call_types.specs.declared.setup.Setup.{Setup}
use Rattle.call_types.specs.declared.request.SeatKind.{SeatKind}
use Rattle.call_types.specs.declared.request.Request.{Request}
use Rattle.call_types.specs.declared.request.Request.TheVariants as requests
use Rattle.call_types.specs.declared.reply.Reply.{Reply}
use Rattle.call_types.specs.declared.reply.Reply.TheVariants as replies
use Rattle.binder_model.specs.Answers.{is_user, reply_of}
use Rattle.binder_model.specs.Devices.{epoch_of, take_node, device_answer}
use Rattle.binder_model.specs.Told.{first_some, own}
use Rattle.binder_model.specs.AgentLicence.{epoch_told, epoch_in, last_epoch, since_epoch}
use Rattle.binder_model.specs.World.{World, Effect, OnDevices, world, effect, reply_to, world_after, on_devices, refused_rule}
use Rattle.safety_law.proofs.Invariant.DeviceMoves.{device_moves}
use Rattle.safety_law.specs.Invariant.Good.{Good}
use Rattle.safety_law.specs.Invariant.Holders.{epoch_now, Holds}
use Rattle.std.proofs.lemmas.Option.{same_Some, none-some}

-- a TakeNode that tells an epoch tells the next one, and it is the node's from then on
pub record Takes (node : List ℕ) (w : World) (x : Effect) (epoch : ℕ) : Type 0 where
  pub next : epoch ≡ epoch_of node w.devices.epochs + 1
  pub stays : epoch_of node (world_after w x).devices.epochs ≡ epoch

epoch_one : (a b : ℕ) → replies.Epoch a ≡ replies.Epoch b → a ≡ b
epoch_one a b e = ap (λ r. of r) e
  where
    of : Reply → ℕ
    of (replies.Epoch n) = n
    of r = a

is_epoch : Reply → Bool
is_epoch (replies.Epoch n) = true
is_epoch r = false

taken : (w : World) (node : List ℕ) (epoch : ℕ) (b : Bool)
    → reply_to (if b then refused_rule else OnDevices (take_node w.devices node)) ≡ replies.Epoch epoch
    → Takes node w (if b then refused_rule else OnDevices (take_node w.devices node)) epoch
unfolding reply_to reply_of take_node world_after is_epoch
taken w node epoch true e = absurd (true≢false (sym (ap is_epoch e)))
taken w node epoch false e =
    let own_name : bytes_eq node node ≡ true = (bytes_eq-Decides node node).1 refl in
    record { next = sym (epoch_one _ _ e); stays = rw own_name (epoch_one _ _ e) }

takes : (setup : Setup) (w : World) (kind : SeatKind) (request : Request) (node : List ℕ) (epoch : ℕ) → request ≡ requests.TakeNode node
    → reply_to (effect setup w kind request) ≡ replies.Epoch epoch → Takes node w (effect setup w kind request) epoch
unfolding effect on_devices device_answer
takes setup w kind request node epoch is e =
    let P : Request → Type 0 = λ r. reply_to (effect setup w kind r) ≡ replies.Epoch epoch → Takes node w (effect setup w kind r) epoch in
    subst P (sym is) (λ f. taken w node epoch (is_user kind) f) e

-- what an epoch that is told was asked and answered as
record IsTold (node : List ℕ) (request : Request) (reply : Reply) (epoch : ℕ) : Type 0 where
  asked : request ≡ requests.TakeNode node
  answered : reply ≡ replies.Epoch epoch

is_told : (node : List ℕ) (request : Request) (reply : Reply) (epoch : ℕ) → epoch_told node request reply ≡ Some epoch → IsTold node request reply epoch
is_told node (requests.TakeNode name) (replies.Epoch n) epoch e = by (bytes_eq name node) refl e
  where
    by : (b : Bool) → bytes_eq name node ≡ b → (if b then Some n else None) ≡ Some epoch → IsTold node (requests.TakeNode name) (replies.Epoch n) epoch
    by true is f = record { asked = ap (λ (x : List ℕ). requests.TakeNode x) ((bytes_eq-Decides name node).0 is); answered = ap (λ (x : ℕ). replies.Epoch x) (same_Some n epoch f) }
    by false is f = absurd (none-some _ f)
is_told node request reply epoch e = absurd (none-some _ e)

entry_takes : (setup : Setup) (e : Entry) (past : List Entry) → e.reply ≡ reply_to (effect setup (world setup past) e.kind e.request)
    → (node : List ℕ) (epoch : ℕ) → epoch_in node e ≡ Some epoch
    → Takes node (world setup past) (effect setup (world setup past) e.kind e.request) epoch
entry_takes setup e past reply node epoch is = by e.told is
  where
    by : (b : Bool) → (if b then epoch_told node e.request e.reply else None) ≡ Some epoch
        → Takes node (world setup past) (effect setup (world setup past) e.kind e.request) epoch
    by true f = let t = is_told node e.request e.reply epoch f in takes setup (world setup past) e.kind e.request node epoch t.asked (sym reply ∙ t.answered)
    by false f = absurd (none-some _ f)

-- epochs do not fall
pub epoch_rises : (setup : Setup) (e : Entry) (past : List Entry) (node : List ℕ) → epoch_now setup past node ≤ epoch_now setup (e ∷ past) node
epoch_rises setup e past node = elim ((device_moves setup (world setup past) e.kind e.request).move.epoch node) [
  | inl same ↦ omega (arith, same)
  | inr t ↦ let n = t.next in omega (arith, n)
]

-- how the own entries of a seat, and what it holds, move at one entry
pub data OwnStep (seat : ℕ) (e : Entry) (past : List Entry) : Type 0 where
  Own : e.seat ≡ seat → own seat (e ∷ past) ≡ e ∷ own seat past → OwnStep seat e past
  Others : (e.seat == seat) ≡ false → own seat (e ∷ past) ≡ own seat past → OwnStep seat e past

pub own_step : (seat : ℕ) (e : Entry) (past : List Entry) → OwnStep seat e past
own_step seat e past = by (e.seat == seat) refl
  where
    by : (b : Bool) → (e.seat == seat) ≡ b → OwnStep seat e past
    by true is = Own (grind (arith, nat_tests)) (rw is refl)
    by false is = Others is (rw is refl)

-- no epoch that was told is above the current one
pub told_low : (setup : Setup) (past : List Entry) → Good setup past → (seat : ℕ) (node : List ℕ) (epoch : ℕ)
    → last_epoch node (own seat past) ≡ Some epoch → epoch ≤ epoch_now setup past node
told_low setup [] g seat node epoch is = absurd (none-some _ is)
told_low setup (e ∷ past) g seat node epoch is = by (told_low setup past g.0 seat node epoch) (own_step seat e past)
  where
    first : (last_epoch node (own seat past) ≡ Some epoch → epoch ≤ epoch_now setup past node) → (x : Option ℕ) → epoch_in node e ≡ x
        → first_some x (last_epoch node (own seat past)) ≡ Some epoch → epoch ≤ epoch_now setup (e ∷ past) node
    first before (Some k) told f =
        let t = entry_takes setup e past g.2 node k told in
        let same = same_Some k epoch f in
        let stays = t.stays in
        omega (arith, same, stays)
    first before None told f = let low = before f in let up = epoch_rises setup e past node in omega (arith, low, up)

    by : (last_epoch node (own seat past) ≡ Some epoch → epoch ≤ epoch_now setup past node) → OwnStep seat e past → epoch ≤ epoch_now setup (e ∷ past) node
    by before (Own seats same) = first before (epoch_in node e) refl (ap (last_epoch node) (sym same) ∙ is)
    by before (Others seats same) = let low = before (ap (last_epoch node) (sym same) ∙ is) in let up = epoch_rises setup e past node in omega (arith, low, up)

-- who holds the node after an entry took it with that, or held it before, by an own entry or another's
pub data HolderStep (setup : Setup) (e : Entry) (past : List Entry) (node : List ℕ) (seat : ℕ) : Type 0 where
  Took : e.seat ≡ seat → is_some (epoch_in node e) ≡ true → since_epoch node (own seat (e ∷ past)) ≡ []
      → epoch_now setup (e ∷ past) node ≡ epoch_now setup past node + 1 → HolderStep setup e past node seat
  Mine : e.seat ≡ seat → is_some (epoch_in node e) ≡ false → own seat (e ∷ past) ≡ e ∷ own seat past
      → since_epoch node (own seat (e ∷ past)) ≡ e ∷ since_epoch node (own seat past) → epoch_now setup (e ∷ past) node ≡ epoch_now setup past node
      → Holds setup past node seat → HolderStep setup e past node seat
  Other : (e.seat == seat) ≡ false → own seat (e ∷ past) ≡ own seat past → epoch_now setup (e ∷ past) node ≡ epoch_now setup past node
      → Holds setup past node seat → HolderStep setup e past node seat

pub holder_step : (setup : Setup) (e : Entry) (past : List Entry) → Good setup (e ∷ past) → (node : List ℕ) (seat : ℕ)
    → Holds setup (e ∷ past) node seat → HolderStep setup e past node seat
holder_step setup e past g node seat holds = by (own_step seat e past)
  where
    -- what was told before and is current now was current before
    same_epoch : last_epoch node (own seat past) ≡ Some (epoch_now setup (e ∷ past) node) → epoch_now setup (e ∷ past) node ≡ epoch_now setup past node
    same_epoch f = let low = told_low setup past g.0 seat node (epoch_now setup (e ∷ past) node) f in let up = epoch_rises setup e past node in omega (arith, low, up)

    held : last_epoch node (own seat past) ≡ Some (epoch_now setup (e ∷ past) node) → Holds setup past node seat
    held f = f ∙ ap (λ (n : ℕ). Some n) (same_epoch f)

    first : e.seat ≡ seat → own seat (e ∷ past) ≡ e ∷ own seat past → (x : Option ℕ) → epoch_in node e ≡ x
        → first_some x (last_epoch node (own seat past)) ≡ Some (epoch_now setup (e ∷ past) node) → HolderStep setup e past node seat
    first seats same (Some k) told f =
        let t = entry_takes setup e past g.2 node k told in
        let next = t.next in
        let stays = t.stays in
        let flag : is_some (epoch_in node e) ≡ true = ap is_some told in
        let since : since_epoch node (e ∷ own seat past) ≡ [] = rw flag refl in
        Took seats flag (ap (since_epoch node) same ∙ since) (omega (arith, next, stays))
    first seats same None told f =
        let flag : is_some (epoch_in node e) ≡ false = ap is_some told in
        let since : since_epoch node (e ∷ own seat past) ≡ e ∷ since_epoch node (own seat past) = rw flag refl in
        Mine seats flag same (ap (since_epoch node) same ∙ since) (same_epoch f) (held f)

    by : OwnStep seat e past → HolderStep setup e past node seat
    by (Own seats same) = first seats same (epoch_in node e) refl (ap (last_epoch node) (sym same) ∙ holds)
    by (Others seats same) = let f = ap (last_epoch node) (sym same) ∙ holds in Other seats same (same_epoch f) (held f)

-- an epoch was told to one seat
pub one_holder : (setup : Setup) (past : List Entry) → Good setup past → (node : List ℕ) (s t : ℕ) → Holds setup past node s → Holds setup past node t → s ≡ t
one_holder setup [] g node s t hs ht = absurd (none-some _ hs)
one_holder setup (e ∷ past) g node s t hs ht = by (one_holder setup past g.0 node s t) (holder_step setup e past g node s hs) (holder_step setup e past g node t ht)
  where
    by : (Holds setup past node s → Holds setup past node t → s ≡ t) → HolderStep setup e past node s → HolderStep setup e past node t → s ≡ t
    by before (Took a f x n) (Took b g' y m) = sym a ∙ b
    by before (Took a f x n) (Mine b g' o y m h) = sym a ∙ b
    by before (Took a f x n) (Other b o m h) = absurd (omega (arith, n, m))
    by before (Mine a f o x n h) (Took b g' y m) = sym a ∙ b
    by before (Mine a f o x n h) (Mine b g' p y m k) = sym a ∙ b
    by before (Mine a f o x n h) (Other b p m k) = before h k
    by before (Other a o n h) (Took b g' y m) = absurd (omega (arith, n, m))
    by before (Other a o n h) (Mine b g' p y m k) = before h k
    by before (Other a o n h) (Other b p m k) = before h k
