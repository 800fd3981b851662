-- The points of a slot or of a round in which as much is left to do.
use Rattle.std.proofs.Common.{◌≡◌, ◌∙◌, ℕ, ◌-◌, ◌≤◌, List, [], ◌∷◌, ◌++◌, append_assoc, Bool, refl, sym, ap, subst, arith}
use Rattle.call_types.specs.declared.entry.Entry.{Entry}
use Rattle.call_types.specs.declared.request.SeatKind.{SeatKind}
use Rattle.call_types.specs.declared.setup.Setup.{Setup}
use Rattle.binder_model.specs.Promises.{IsRunOf}
use Rattle.binder_model.specs.World.{world}
use Rattle.model_laws.proofs.Growing.{runs_are_histories}
use Rattle.settle_measure.specs.Left.Measure.{work_left}
use Rattle.worker_core.specs.declared.turn.Next.TheVariants.{Call}
use Rattle.worker_core.specs.declared.turn.Outcome.TheVariants.{Lost, Told}
use Rattle.worker_core.specs.States.{ActorState}
use Rattle.actor_rounds.specs.Rounds.{Asks, IsHeld, IsIdle, IsSpent, Lets, Runs, told_entry}
use Rattle.actor_rounds.proofs.RunFacts.{still_role}
use Rattle.worker_core.proofs.Answered.{turn_role}
use Rattle.settle_pays.specs.Pays.Pays.{HavePaid, worth}
use Rattle.settle_writes.specs.Writes.Lasting.{Lasts}
use Rattle.settle_pays.proofs.Pays.Entries.{paid_is_less}
use Rattle.settle_progress.proofs.Epochs.Silent.{older_run}
use Rattle.settle_budget.specs.Drains.Budget.{AreAlwaysInOrder}
use Rattle.settle_alike.specs.Near.Near.{AreNear}
use Rattle.settle_tries.specs.Tries.Deciding.{IsWithin}
use Rattle.settle_tries.specs.Tries.Moving.{MovesBy}
use Rattle.settle_tries.proofs.Moves.Moving.{AreOfKind, in_order_before, kind_moves, paid_leave_near, paid_split, worth_falls}
use Rattle.std.proofs.lemmas.List.{append_cancel_right}
use Rattle.worker_core.specs.declared.role.Role.{Role}

-- ---- the entries of a slot are of its kind

pub record HaveKind (kind : SeatKind) (h past : List Entry) : Type 0 where
  pub newer : List Entry
  pub are : past ≡ newer ++ h
  pub kinds : AreOfKind kind newer

then_kind : (kind : SeatKind) (newer : List Entry) (e : Entry) → AreOfKind kind newer → e.kind ≡ kind → AreOfKind kind (newer ++ (e ∷ []))
then_kind kind [] e are is = (is, tt)
then_kind kind (x ∷ newer) e are is = (are.0, then_kind kind newer e are.1 is)

module _ (lets : Lets) (seat : ℕ) (kind : SeatKind) (after : ActorState) (past : List Entry) (left : ℕ) (idle : Bool) where
  pub run_kinds : (s : ActorState) (h : List Entry) (b : ℕ) → Runs lets seat after past left idle s h b → s.role.kind ≡ kind → HaveKind kind h past
  run_kinds s h b (IsSpent none state entries rest busy) is = record { newer = []; are = entries; kinds = tt }
  run_kinds s h b (IsIdle some ready turn entries rest calm) is = record { newer = []; are = entries; kinds = tt }
  run_kinds s h b (Asks given next request reply some ready turn passes absorbs more) is =
      let rest = run_kinds next (told_entry seat given request reply ∷ h) (b - 1) more (ap (λ (r : Role). r.kind) (still_role s given next (Call request) request (Told reply) turn absorbs) ∙ is) in
      record {
        newer = rest.newer ++ (told_entry seat given request reply ∷ []);
        are = rest.are ∙ sym (append_assoc rest.newer (told_entry seat given request reply ∷ []) h);
        kinds = then_kind kind rest.newer (told_entry seat given request reply) rest.kinds (ap (λ (r : Role). r.kind) (turn_role s given (Call request) turn) ∙ is);
      }
  run_kinds s h b (IsHeld given next request some ready turn held absorbs more) is =
      run_kinds next h (b - 1) more (ap (λ (r : Role). r.kind) (still_role s given next (Call request) request Lost turn absorbs) ∙ is)

kinds_ahead : (kind : SeatKind) (newer older : List Entry) → AreOfKind kind (newer ++ older) → AreOfKind kind newer
kinds_ahead kind [] older are = tt
kinds_ahead kind (e ∷ newer) older are = (are.0, kinds_ahead kind newer older are.1)

kinds_behind : (kind : SeatKind) (newer older : List Entry) → AreOfKind kind (newer ++ older) → AreOfKind kind older
kinds_behind kind [] older are = are
kinds_behind kind (e ∷ newer) older are = kinds_behind kind newer older are.1

-- ---- up to a point and from it on

pub record IsQuietAt (setup : Setup) (h x past : List Entry) : Type 0 where
  pub ahead : HavePaid setup x past
  pub behind : HavePaid setup h x
  pub up : work_left setup (world setup x) ≤ work_left setup (world setup past)
  pub down : work_left setup (world setup h) ≤ work_left setup (world setup x)

module _ (setup : Setup) (h past : List Entry) (run : IsRunOf setup past) (order : AreAlwaysInOrder setup past) (paid : HavePaid setup h past)
    (le : work_left setup (world setup h) ≤ work_left setup (world setup past)) where
  pub run_within : (x : List Entry) → IsWithin h x past → IsRunOf setup x
  run_within x w = older_run setup w.newer x (subst (IsRunOf setup) w.ahead run)

  pub order_within : (x : List Entry) → IsWithin h x past → AreAlwaysInOrder setup x
  order_within x w = in_order_before setup w.newer x (subst (AreAlwaysInOrder setup) w.ahead order)

  pub quiet_at : (x : List Entry) → IsWithin h x past → IsQuietAt setup h x past
  quiet_at x w =
      let p = paid_split setup h x past w.newer w.older w.ahead w.behind paid in
      let ahead = (paid_is_less setup x past (runs_are_histories setup past run.run) p.0).stays in
      let behind = (paid_is_less setup h x (runs_are_histories setup x (run_within x w).run) p.1).stays in
      record { ahead = p.0; behind = p.1; up = omega (arith, behind, le); down = omega (arith, ahead, le) }

  pub near_ahead : (x : List Entry) → IsWithin h x past → AreNear (world setup x) (world setup past)
  near_ahead x w = let q = quiet_at x w in paid_leave_near setup x past run order q.ahead q.up

  pub near_behind : (x : List Entry) → IsWithin h x past → AreNear (world setup h) (world setup x)
  near_behind x w = let q = quiet_at x w in paid_leave_near setup h x (run_within x w) (order_within x w) q.behind q.down

  -- an entry that lasts is worth nothing
  pub worth_none : {X : Type 0} (e : Entry) (at newer : List Entry) → past ≡ newer ++ (e ∷ at) → IsWithin h at past → Lasts setup (world setup at) e.kind e.request → worth e.kind e.request ≡ 1 → X
  worth_none e at newer are w lasts one_ =
      let q = quiet_at at w in
      let next : IsWithin h (e ∷ at) past = record { newer = newer; older = e ∷ w.older; ahead = are; behind = ap (λ es. e ∷ es) w.behind } in
      let r = quiet_at (e ∷ at) next in
      let p = paid_split setup at (e ∷ at) past newer (e ∷ []) are refl q.ahead in
      let less = worth_falls setup e at (runs_are_histories setup (e ∷ at) (run_within (e ∷ at) next).run) p.1 lasts one_ in
      let down = r.down in
      let up = q.up in
      let stays = (paid_is_less setup h at (runs_are_histories setup at (run_within at w).run) q.behind).stays in
      absurd (omega (arith, less, down, stays))

  -- where the entries are of one kind they move nodes in its way
  module _ (kind : SeatKind) (k : HaveKind kind h past) where
    kinds_at : (x : List Entry) (w : IsWithin h x past) → AreOfKind kind (w.newer ++ w.older)
    kinds_at x w = subst (AreOfKind kind) (append_cancel_right k.newer (w.newer ++ w.older) h
        (sym k.are ∙ (w.ahead ∙ (ap (λ es. w.newer ++ es) w.behind ∙ sym (append_assoc w.newer w.older h))))) k.kinds

    pub moves_ahead : (x : List Entry) → IsWithin h x past → MovesBy kind (world setup x) (world setup past)
    moves_ahead x w = let q = quiet_at x w in kind_moves setup kind x past w.newer w.ahead (kinds_ahead kind w.newer w.older (kinds_at x w)) run order q.ahead q.up

    pub moves_behind : (x : List Entry) → IsWithin h x past → MovesBy kind (world setup h) (world setup x)
    moves_behind x w = let q = quiet_at x w in kind_moves setup kind h x w.older w.behind (kinds_behind kind w.newer w.older (kinds_at x w)) (run_within x w) (order_within x w) q.behind q.down
