-- Entries of actors that pay lower what may still be written.
use Rattle.std.proofs.Common.{◌≡◌, ◌∙◌, ◌⊎◌, ℕ, ◌+◌, ◌*◌, ◌≤◌, List, [], ◌∷◌, ◌++◌, append_assoc, true, Some, inl, inr, refl, sym, ap, subst, arith}
use Rattle.std.proofs.lemmas.List.{append_cancel_right}
use Rattle.kube_objects.specs.declared.objects.Object.{Object}
use Rattle.kube_objects.specs.declared.objects.Object.TheVariants.{Class, Node, Volume, Claim, Pod}
use Rattle.call_types.specs.declared.entry.Entry.{Entry}
use Rattle.call_types.specs.declared.request.Request.{Request}
use Rattle.call_types.specs.declared.request.Request.TheVariants as requests
use Rattle.call_types.specs.declared.request.SeatKind.{SeatKind}
use Rattle.call_types.specs.declared.request.SeatKind.TheVariants as seats
use Rattle.call_types.specs.declared.setup.Setup.{Setup}
use Rattle.binder_model.specs.Answers.{Removes, Says, Stores, after, is_for_store}
use Rattle.binder_model.specs.Licence.{Licensed, RowAllows}
use Rattle.binder_model.specs.Promises.{IsRunOf}
use Rattle.binder_model.specs.Store.{at_version, with_meta}
use Rattle.binder_model.specs.Told.{own}
use Rattle.binder_model.specs.World.{Effect, IsHistory, OnDevices, OnStore, SetsMoment, World, effect, reply_to, world, world_after}
use Rattle.model_laws.proofs.Growing.{runs_are_histories}
use Rattle.model_laws.proofs.Histories.{rows_stand_in_order}
use Rattle.model_laws.proofs.Lists.{none_some, one}
use Rattle.safety_law.specs.Invariant.Moves.{written_by}
use Rattle.safety_law.specs.Invariant.Writes.{Writes}
use Rattle.safety_law.proofs.Invariant.Effects.{effect_form}
use Rattle.settle_measure.specs.Left.Measure.{total, work_left}
use Rattle.worker_core.specs.Roles.{IsBuiltKind}
use Rattle.settle_writes.specs.Writes.Lasting.{HasLasting, IsLasting, Lasts, LastsBetween}
use Rattle.settle_writes.proofs.Done.Doing.{write_asked}
use Rattle.settle_pays.specs.Pays.Pays.{AllPay, Pays, worth}
use Rattle.settle_pays.proofs.Pays.Calls.{lasting_writes, stored_effect}
use Rattle.settle_pays.proofs.Pays.Entries.{one_paid, paid_is_less}
use Rattle.settle_progress.proofs.Epochs.Silent.{older_run}
use Rattle.settle_write_counts.specs.Rounds.Counts.{nodes_in, nodes_on, to_write}
use Rattle.settle_write_counts.proofs.Rounds.Keeping.{other_nodes}
use Rattle.settle_write_counts.proofs.Rounds.Nodes.{IsMoved, no_node, ops_nodes, scheduled_nodes, taken_back, updated_none}
use Rattle.settle_write_counts.proofs.Rounds.Rounds.{is_plain, no_ops, no_scheduler}
use Rattle.settle_write_counts.proofs.Rounds.Slots.{ComesTo, Leaves, Wrote, comes_to}
use Rattle.settle_budget.specs.Drains.Rounds.{AreOfActors, PaidEntriesLower, selected_in, selects_node}

-- ---- kinds

-- what a call is that lasts: one that is worth something, one of ops that takes a node back, or one of the scheduler that selects a node
data IsOne (kind : SeatKind) (r : Request) : Type 0 where
  IsWorth : worth kind r ≡ 1 → IsOne kind r
  Takes : kind ≡ seats.Ops → is_for_store r ≡ true → taken_back r ≡ 1 → IsOne kind r
  Selects : selects_node kind r ≡ 1 → IsOne kind r

one_of : (kind : SeatKind) (r : Request) → IsOne kind r
one_of seats.Scheduler (requests.Update (Claim c) given) = Selects refl
one_of seats.Scheduler _ = IsWorth refl
one_of seats.Ops (requests.Update (Claim c) given) = Takes refl refl refl
one_of seats.Ops _ = IsWorth refl
one_of seats.User r = IsWorth refl
one_of seats.Binder r = IsWorth refl
one_of seats.ClaimProtect r = IsWorth refl
one_of seats.VolumeProtect r = IsWorth refl
one_of seats.Agent r = IsWorth refl

-- ---- nodes

-- a scheduler selects a node where it asks for it alone
module _ (setup : Setup) (seat : ℕ) (h : List Entry) (history : IsHistory setup h) (o : Object) (rows : List Object) (moved : IsMoved (world setup h).store.rows rows o) where
  scheduler_nodes : (r : Request) → RowAllows seats.Scheduler (own seat h) r → Writes (world setup h) seats.Scheduler r o
      → total nodes_on rows ≤ nodes_in (world setup h) + selects_node seats.Scheduler r
  unfolding at_version with_meta
  scheduler_nodes (requests.Update (Claim new) given) may u = scheduled_nodes setup seat h history o rows moved (requests.Update (Claim new) given) may u
  scheduler_nodes (requests.Update (Volume new) given) may i = let none =
      no_node setup seat h history o rows moved (ap nodes_on i.is ∙ updated_none i.old new ((world setup h).store.version + 1)) in omega (arith, none)
  scheduler_nodes (requests.Update (Class x) given) may i = absurd may
  scheduler_nodes (requests.Update (Node x) given) may i = absurd may
  scheduler_nodes (requests.Update (Pod x) given) may i = absurd may
  scheduler_nodes (requests.BindPod key uid node) may i = let none = no_node setup seat h history o rows moved (ap nodes_on i.is) in omega (arith, none)
  scheduler_nodes (requests.Create x) may i = absurd may
  scheduler_nodes (requests.UpdateStatus key status given) may i = absurd may
  scheduler_nodes (requests.Edit key change) may i = absurd may
  scheduler_nodes (requests.Delete key given) may i = absurd may
  scheduler_nodes (requests.FinishPod key uid node epoch) may i = absurd may
  scheduler_nodes _ may i = absurd i

  plain_nodes : (kind : SeatKind) (r : Request) → is_plain kind ≡ true → IsBuiltKind kind → Licensed kind (own seat h) r
      → Writes (world setup h) kind r o → total nodes_on rows ≤ nodes_in (world setup h) + selects_node kind r
  plain_nodes kind r plain built may writes = let few = other_nodes setup seat h history o rows moved kind r built (no_scheduler kind plain) (no_ops kind plain) may writes in omega (arith, few)

  kind_nodes : (kind : SeatKind) (r : Request) → IsBuiltKind kind → Licensed kind (own seat h) r → Writes (world setup h) kind r o
      → total nodes_on rows ≤ nodes_in (world setup h) + selects_node kind r
  kind_nodes seats.User r built may writes = absurd built
  kind_nodes seats.Scheduler r built may writes = scheduler_nodes r may.1 writes
  kind_nodes seats.Ops r built may writes = let few = ops_nodes setup seat h history o rows moved r may.1 writes in omega (arith, few)
  kind_nodes seats.Binder r built may writes = plain_nodes seats.Binder r refl built may writes
  kind_nodes seats.ClaimProtect r built may writes = plain_nodes seats.ClaimProtect r refl built may writes
  kind_nodes seats.VolumeProtect r built may writes = plain_nodes seats.VolumeProtect r refl built may writes
  kind_nodes seats.Agent r built may writes = plain_nodes seats.Agent r refl built may writes

-- ---- one entry

-- what is written moves the rows
pub moves_by : (w : World) (x : Effect) (o : Object) → written_by x ≡ Some o → IsMoved w.store.rows (world_after w x).store.rows o
unfolding world_after after
moves_by w (OnStore (Says reply)) o e = none_some e
moves_by w (OnStore (Stores change p)) o e = subst (IsMoved w.store.rows (world_after w (OnStore (Stores change p))).store.rows) (one p o e) (inl refl)
moves_by w (OnStore (Removes p)) o e = subst (IsMoved w.store.rows (world_after w (OnStore (Removes p))).store.rows) (one p o e) (inr refl)
moves_by w (OnDevices a) o e = none_some e
moves_by w (SetsMoment at) o e = none_some e

module _ (setup : Setup) (e : Entry) (h : List Entry) (run : IsRunOf setup (e ∷ h)) (built : IsBuiltKind e.kind) (pays : Pays setup (world setup h) e.kind e.request) where
  history : IsHistory setup (e ∷ h)
  history = runs_are_histories setup (e ∷ h) run.run

  may : Licensed e.kind (own e.seat h) e.request
  may = run.run.2

  wrote : (o : Object) → written_by (effect setup (world setup h) e.kind e.request) ≡ Some o → Writes (world setup h) e.kind e.request o
  wrote o written = write_asked setup (world setup h) e.kind e.request o (effect setup (world setup h) e.kind e.request)
      (effect_form setup (world setup h) e.kind e.request (rows_stand_in_order setup h)) written

  work_stays : work_left setup (world setup (e ∷ h)) ≤ work_left setup (world setup h)
  work_stays = (paid_is_less setup h (e ∷ h) history (one_paid setup e h pays)).stays

  nodes_stay : nodes_in (world setup (e ∷ h)) ≤ nodes_in (world setup h) + selects_node e.kind e.request
  nodes_stay = by (comes_to (world setup h) (effect setup (world setup h) e.kind e.request))
    where
      by : ComesTo (world setup h) (effect setup (world setup h) e.kind e.request) → nodes_in (world setup (e ∷ h)) ≤ nodes_in (world setup h) + selects_node e.kind e.request
      by (Leaves same) =
          let nodes : nodes_in (world setup (e ∷ h)) ≡ nodes_in (world setup h) = ap (λ s. total nodes_on s.rows) same in
          omega (arith, nodes)
      by (Wrote o written version moved) = kind_nodes setup e.seat h history.0 o (world setup (e ∷ h)).store.rows moved e.kind e.request built may (wrote o written)

  entry_stays : to_write setup (world setup (e ∷ h)) ≤ to_write setup (world setup h) + selects_node e.kind e.request
  entry_stays = let work = work_stays in let nodes = nodes_stay in omega (arith, work, nodes)

  entry_falls : IsLasting setup e h → to_write setup (world setup (e ∷ h)) + 1 ≤ to_write setup (world setup h) + 2 * selects_node e.kind e.request
  entry_falls is = by (one_of e.kind e.request)
    where
      lasts : Lasts setup (world setup h) e.kind e.request
      lasts = subst (λ r. LastsBetween (world setup h) (world setup (e ∷ h)) r) history.1 is

      -- ops has written the claim
      taken : e.kind ≡ seats.Ops → is_for_store e.request ≡ true → taken_back e.request ≡ 1 → nodes_in (world setup (e ∷ h)) + 1 ≤ nodes_in (world setup h)
      taken kind stored back =
          let x = stored_effect setup (world setup h) e.kind e.request stored in
          let writes = lasting_writes (world setup h) x.0 x.1.1 (subst (λ y. LastsBetween (world setup h) (world_after (world setup h) y) (reply_to y)) x.1.0 lasts) in
          let written = ap written_by x.1.0 ∙ writes.written in
          let moved = moves_by (world setup h) (effect setup (world setup h) e.kind e.request) writes.object written in
          let few = ops_nodes setup e.seat h history.0 writes.object (world setup (e ∷ h)).store.rows moved e.request
          (subst (λ k. Licensed k (own e.seat h) e.request) kind may).1 (subst (λ k. Writes (world setup h) k e.request writes.object) kind (wrote writes.object written)) in
          omega (arith, few, back)

      by : IsOne e.kind e.request → to_write setup (world setup (e ∷ h)) + 1 ≤ to_write setup (world setup h) + 2 * selects_node e.kind e.request
      by (IsWorth one_) = let less = pays lasts in let nodes = nodes_stay in omega (arith, less, one_, nodes)
      by (Takes kind stored back) = let less = taken kind stored back in let work = work_stays in omega (arith, less, work)
      by (Selects one_) = let less = entry_stays in omega (arith, less, one_)

-- ---- all of them

-- one of these entries lasts
abbrev SomeLasts : Setup → List Entry → List Entry → Type 0
SomeLasts setup [] earlier = ⊥
SomeLasts setup (e ∷ newer) earlier = IsLasting setup e (newer ++ earlier) ⊎ SomeLasts setup newer earlier

module _ (setup : Setup) (earlier : List Entry) where
  all_stay : (newer : List Entry) → IsRunOf setup (newer ++ earlier) → AreOfActors newer → AllPay setup newer earlier
      → to_write setup (world setup (newer ++ earlier)) ≤ to_write setup (world setup earlier) + selected_in newer
  all_stay [] run actors each = omega arith
  all_stay (e ∷ newer) run actors each =
      let now = entry_stays setup e (newer ++ earlier) run actors.0 each.0 in
      let before = all_stay newer (older_run setup (e ∷ []) (newer ++ earlier) run) actors.1 each.1 in
      omega (arith, now, before)

  all_fall : (newer : List Entry) → IsRunOf setup (newer ++ earlier) → AreOfActors newer → AllPay setup newer earlier → SomeLasts setup newer earlier
      → to_write setup (world setup (newer ++ earlier)) + 1 ≤ to_write setup (world setup earlier) + 2 * selected_in newer
  all_fall [] run actors each some = absurd some
  all_fall (e ∷ newer) run actors each (inl lasts) =
      let now = entry_falls setup e (newer ++ earlier) run actors.0 each.0 lasts in
      let before = all_stay newer (older_run setup (e ∷ []) (newer ++ earlier) run) actors.1 each.1 in
      omega (arith, now, before)
  all_fall (e ∷ newer) run actors each (inr some) =
      let now = entry_stays setup e (newer ++ earlier) run actors.0 each.0 in
      let before = all_fall newer (older_run setup (e ∷ []) (newer ++ earlier) run) actors.1 each.1 some in
      omega (arith, now, before)

  -- the one that lasts is among them
  lasts_at : (newer : List Entry) (e : Entry) (old : List Entry) → IsLasting setup e (old ++ earlier) → SomeLasts setup (newer ++ (e ∷ old)) earlier
  lasts_at [] e old lasts = inl lasts
  lasts_at (x ∷ newer) e old lasts = inr (lasts_at newer e old lasts)

  some_lasts : (newer : List Entry) → HasLasting setup earlier (newer ++ earlier) → SomeLasts setup newer earlier
  some_lasts newer has =
      let same : newer ≡ has.newer ++ (has.entry ∷ has.older) =
      append_cancel_right newer (has.newer ++ (has.entry ∷ has.older)) earlier (has.are ∙ sym (append_assoc has.newer (has.entry ∷ has.older) earlier)) in
      subst (λ es. SomeLasts setup es earlier) (sym same) (lasts_at has.newer has.entry has.older has.lasts)

pub paid_entries_lower : PaidEntriesLower
paid_entries_lower setup newer earlier run actors each =
    record { stays = all_stay setup earlier newer run actors each; falls = λ has. all_fall setup earlier newer run actors each (some_lasts setup earlier newer has) }
