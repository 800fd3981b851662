-- What the binder has under way, call by call: what an answer makes of it, and which volume and claim then stand.
use Rattle.std.proofs.Common.{◌≡◌, ◌∙◌, ℕ, List, ◌∷◌, true, Option, Some, None, refl, sym, ap, subst}
use Rattle.std.specs.Prelude.{option_map}
use Rattle.kube_objects.specs.declared.key.Key.{Key}
use Rattle.kube_objects.specs.declared.objects.Claim.{Claim as ClaimData}
use Rattle.kube_objects.specs.declared.objects.Volume.{Volume as VolumeData}
use Rattle.kube_objects.specs.declared.objects.Object.{Object}
use Rattle.kube_objects.specs.declared.objects.Object.TheVariants.{Volume, Claim}
use Rattle.kube_parts.specs.declared.uid.Uid.{Uid}
use Rattle.kube_objects.specs.Keys.{key_of, put_row, row_at}
use Rattle.kube_objects.proofs.KeyOrder.{row_at-put_row, row_at-put_row_other}
use Rattle.call_types.specs.declared.entry.Entry.{Entry}
use Rattle.call_types.specs.declared.reply.Reply.{Reply}
use Rattle.call_types.specs.declared.request.Request.{Request}
use Rattle.call_types.specs.declared.request.Request.TheVariants.{Get}
use Rattle.call_types.specs.declared.request.SeatKind.TheVariants as seats
use Rattle.call_types.specs.declared.setup.Setup.{Setup}
use Rattle.binder_model.specs.Answers.{is_for_store}
use Rattle.binder_model.specs.ObjectKeys.{claim_key, volume_key}
use Rattle.binder_model.specs.World.{effect, reply_to, world}
use Rattle.model_laws.proofs.Histories.{rows_stand_in_order}
use Rattle.model_laws.proofs.Lists.{none_some, one}
use Rattle.binder_machines.specs.declared.machine.Machine.{Machine}
use Rattle.binder_machines.specs.Machines.{call_of, moved}
use Rattle.settle_measure.proofs.Binding.Stages.{key_is}
use Rattle.settle_measure.specs.Left.Lowers.{Lowers, StandsVolume, StandsClaim}
use Rattle.settle_measure.proofs.Left.Aside.{claim_key_differs}
use Rattle.worker_core.specs.declared.task.Task.TheVariants as tasks
use Rattle.worker_core.specs.declared.task.Under.{Under}
use Rattle.worker_core.specs.Tasks.{under_after, with_call, with_task}
use Rattle.settle_slot.specs.Slot.Slots.{own_entry}
use Rattle.settle_pays.specs.Pays.Pays.{EachPays, WillPay}
use Rattle.settle_pays.proofs.Pays.Calls.{get_never, lowering_pays}
use Rattle.settle_pays.proofs.Actors.Standing.{none_has_left}
use Rattle.settle_measure.proofs.Left.Others.{other_kind}

-- ---- machines

abbrev pub at : Key → Machine → Request → Under
at key machine call = record { key = key; task = tasks.Binder machine; call = call }

-- what is under way goes on with the machine that was moved
record GoesOn (key : Key) (machine : Machine) (reply : Reply) (next : Under) : Type 0 where
  then_ : Machine
  moves : moved machine reply ≡ Some then_
  asks : call_of then_ ≡ Some next.call
  is : next ≡ at key then_ next.call

goes_on : (key : Key) (machine : Machine) (call : Request) (reply : Reply) (next : Under) → under_after (at key machine call) reply ≡ Some next → GoesOn key machine reply next
goes_on key machine call reply next e = by (moved machine reply) refl e
  where
    asking : (n : Machine) → moved machine reply ≡ Some n → (q : Option Request) → call_of n ≡ q → with_call key (tasks.Binder n) q ≡ Some next → GoesOn key machine reply next
    asking n moves None asks found = none_some found
    asking n moves (Some q) asks found =
        let same : at key n q ≡ next = one (at key n q) next found in
        let own : q ≡ next.call = ap (λ (u : Under). u.call) same in
        record { then_ = n; moves = moves; asks = asks ∙ ap Some own; is = sym same ∙ ap (at key n) own }

    by : (x : Option Machine) → moved machine reply ≡ x → with_task key (option_map (λ n. tasks.Binder n) x) ≡ Some next → GoesOn key machine reply next
    by None moves found = none_some found
    by (Some n) moves found = asking n moves (call_of n) refl found

-- the history with the call
abbrev pub with_own : Setup → ℕ → List Entry → Request → List Entry
with_own setup seat h call = own_entry setup seat seats.Binder h call ∷ h

abbrev pub answer : Setup → List Entry → Request → Reply
answer setup h call = reply_to (effect setup (world setup h) seats.Binder call)

module _ (setup : Setup) (seat : ℕ) (key : Key) where
  -- the machine pays with this call, and with those to come
  abbrev pub PaysFrom : List Entry → Machine → Request → Type 0
  PaysFrom h machine call = WillPay setup seat seats.Binder h (at key machine call)

  -- with whichever call it has
  abbrev pub MachinePays : List Entry → Machine → Type 0
  MachinePays h machine = (call : Request) → call_of machine ≡ Some call → PaysFrom h machine call

  then_pays : (h : List Entry) (machine : Machine) (call : Request) → ((n : Machine) → moved machine (answer setup h call) ≡ Some n → MachinePays (with_own setup seat h call) n)
      → (next : Under) → under_after (at key machine call) (answer setup h call) ≡ Some next → WillPay setup seat seats.Binder (with_own setup seat h call) next
  then_pays h machine call on next e = let g = goes_on key machine call (answer setup h call) next e in
      subst (WillPay setup seat seats.Binder (with_own setup seat h call)) (sym g.is) (on g.then_ g.moves next.call g.asks)

  -- a write that lowers what is left to do, and what comes of it
  pub write_pays : (h : List Entry) (machine : Machine) (call : Request) → is_for_store call ≡ true → Lowers setup (world setup h) seats.Binder call 1
      → ((n : Machine) → moved machine (answer setup h call) ≡ Some n → MachinePays (with_own setup seat h call) n) → PaysFrom h machine call
  write_pays h machine call stored lowers on = EachPays (lowering_pays setup (world setup h) seats.Binder call stored lowers) (then_pays h machine call on)

  -- a read
  pub read_pays : (h : List Entry) (machine : Machine) (wanted : Key)
      → ((n : Machine) → moved machine (answer setup h (Get wanted)) ≡ Some n → MachinePays (with_own setup seat h (Get wanted)) n) → PaysFrom h machine (Get wanted)
  read_pays h machine wanted on = EachPays (λ lasts. absurd (get_never setup (world setup h) seats.Binder wanted lasts)) (then_pays h machine (Get wanted) on)

-- ---- what stands

-- the rows of the world
abbrev pub rows_in : Setup → List Entry → List Object
rows_in setup h = (world setup h).store.rows

pub volume_stands : (setup : Setup) (h : List Entry) (v : VolumeData) → row_at (volume_key v.meta.name) (rows_in setup h) ≡ Some (Volume v) → StandsVolume (world setup h) v
volume_stands setup h v there = record { order = rows_stand_in_order setup h; there = there; stays = none_has_left setup h (volume_key v.meta.name) (Volume v) there }

pub claim_stands : (setup : Setup) (h : List Entry) (c : ClaimData) (uid : Uid)
    → row_at (claim_key c.meta.namespace c.meta.name) (rows_in setup h) ≡ Some (Claim c) → c.meta.uid ≡ Some uid → StandsClaim (world setup h) c
claim_stands setup h c uid there has = record {
  order = rows_stand_in_order setup h;
  there = there;
  stays = none_has_left setup h
      (claim_key c.meta.namespace c.meta.name) (Claim c) there;
  uid = uid;
  has = has;
}

-- after the volume was written
module _ (setup : Setup) (seat : ℕ) (h : List Entry) (call : Request) (v new : VolumeData) (s : StandsVolume (world setup h) v)
    (same : key_of (Volume new) ≡ key_of (Volume v)) (put : rows_in setup (with_own setup seat h call) ≡ put_row (Volume new) (rows_in setup h)) where
  pub new_volume : StandsVolume (world setup (with_own setup seat h call)) new
  new_volume =
      let key : volume_key new.meta.name ≡ key_of (Volume new) = ap (λ (k : Key). volume_key k.name) same ∙ sym (same ∙ key_is setup (world setup h) seats.Binder v s) in
      volume_stands setup (with_own setup seat h call) new
      (ap (λ k. row_at k (rows_in setup (with_own setup seat h call))) key ∙ (ap (row_at (key_of (Volume new))) put ∙ row_at-put_row (Volume new) (rows_in setup h)))

  pub same_claim : (c : ClaimData) → StandsClaim (world setup h) c → StandsClaim (world setup (with_own setup seat h call)) c
  same_claim c sc =
      claim_stands setup (with_own setup seat h call) c sc.uid
      (ap (row_at (claim_key c.meta.namespace c.meta.name)) put
      ∙ (row_at-put_row_other (claim_key c.meta.namespace c.meta.name) (Volume new) (rows_in setup h) (other_kind new c.meta.namespace c.meta.name) ∙ sc.there)) sc.has

-- after the claim was written
module _ (setup : Setup) (seat : ℕ) (h : List Entry) (call : Request) (c new : ClaimData) (sc : StandsClaim (world setup h) c)
    (put : rows_in setup (with_own setup seat h call) ≡ put_row (Claim new) (rows_in setup h)) where
  pub new_claim : new.meta.uid ≡ c.meta.uid → StandsClaim (world setup (with_own setup seat h call)) new
  new_claim uid = claim_stands setup (with_own setup seat h call) new sc.uid (ap (row_at (key_of (Claim new))) put ∙ row_at-put_row (Claim new) (rows_in setup h)) (uid ∙ sc.has)

  pub same_volume : (v : VolumeData) → StandsVolume (world setup h) v → StandsVolume (world setup (with_own setup seat h call)) v
  same_volume v s =
      volume_stands setup (with_own setup seat h call) v
      (ap (row_at (volume_key v.meta.name)) put ∙ (row_at-put_row_other (volume_key v.meta.name) (Claim new) (rows_in setup h) (claim_key_differs new v.meta.name) ∙ s.there))
