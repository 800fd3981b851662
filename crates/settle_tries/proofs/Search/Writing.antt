-- The writes for a pod for which a node was searched are made one after the other, and then each of its claims that needs a volume has the node.
use Rattle.std.proofs.Common.{◌≡◌, ◌≢◌, ◌∙◌, ℕ, ◌+◌, List, [], ◌∷◌, ◌++◌, append_assoc, true, false, Some, None, refl, sym, ap, arith, length}
use Rattle.std.specs.Prelude.{map, nat_lt, slice_get}
use Rattle.std.proofs.lemmas.Bool.Decides.{nat_tests}
use Rattle.std.proofs.lemmas.Option.{slice_get_within}
use Rattle.plain_data.specs.Pairs.{value_at}
use Rattle.kube_objects.specs.declared.key.Key.{Key}
use Rattle.kube_objects.specs.declared.objects.Claim.{Claim as ClaimData}
use Rattle.kube_objects.specs.declared.objects.Object.TheVariants.{Claim}
use Rattle.kube_objects.specs.Bindings.{selected_node}
use Rattle.kube_objects.specs.Keys.{key_of, row_at}
use Rattle.kube_objects.proofs.KeyOrder.{row_at-put_row}
use Rattle.call_types.specs.declared.entry.Entry.{Entry}
use Rattle.call_types.specs.declared.reply.Reply.TheVariants.{Done}
use Rattle.call_types.specs.declared.request.Request.{Request}
use Rattle.call_types.specs.declared.request.SeatKind.TheVariants as seats
use Rattle.call_types.specs.declared.setup.Setup.{Setup}
use Rattle.binder_model.specs.Answers.{after}
use Rattle.binder_model.specs.Imports.{ImportsPass}
use Rattle.binder_model.specs.Store.{leaves, updated_object, with_meta, with_status_of}
use Rattle.binder_model.specs.World.{Effect, IsHistory, effect, log_after, reply_to, world, world_after}
use Rattle.delayed_binding.proofs.Known.{AreApart, Each, IsStored as Stands, each_map}
use Rattle.pod_scheduler.specs.Schedules.{schedule_call, schedule_moved}
use Rattle.worker_core.specs.declared.role.Role.{Role}
use Rattle.worker_core.specs.States.{ActorState}
use Rattle.worker_core.specs.Tasks.{under_after}
use Rattle.settle_writes.specs.Writes.Writes.{IsStored}
use Rattle.settle_due.proofs.Upkeep.Deciding.{stored}
use Rattle.settle_measure.proofs.Left.Words.{value_put}
use Rattle.settle_pays.proofs.Actors.Standing.{none_has_left}
use Rattle.settle_slot.specs.Slot.Slots.{own_entry}
use Rattle.settle_due.specs.Scheduling.Writes.{placing}
use Rattle.settle_due.proofs.Scheduling.Placing.{AreFrom, at_from, at_place, comes_to, goes_on, later_from, others_stay, placed, staying, still_stand}
use Rattle.settle_tries.proofs.Slots.Walking.{Asked, OnRun, asked_next}

module _ (setup : Setup) (seat : ℕ) (role : Role) (kind : role.kind ≡ seats.Scheduler) (key : Key) (pass : ImportsPass setup.imports) (name : List ℕ) where
  -- the claim stands there with the node
  pub record NodeAt (x : List Entry) (c : ClaimData) : Type 0 where
    pub claim : ClaimData
    pub there : row_at (key_of (Claim c)) (world setup x).store.rows ≡ Some (Claim claim)
    pub node : value_at selected_node claim.meta.annotations ≡ Some name

  -- ---- one write

  module _ (g : List Entry) (c : ClaimData) (stands : row_at (key_of (Claim c)) (world setup g).store.rows ≡ Some (Claim c)) where
    on_store : IsStored (world setup g) (Claim c)
    on_store = stored setup g (key_of (Claim c)) (Claim c) pass stands

    stays : leaves (placed setup (world setup g) name c on_store) ≡ false
    unfolding updated_object with_meta with_status_of leaves
    stays = none_has_left setup g (key_of (Claim c)) (Claim c) stands

    said : (new : ClaimData) × (reply_to (effect setup (world setup g) role.kind (placing name c)) ≡ Done (Claim new))
    said = staying setup (world setup g) name c on_store role.kind kind stays

    node_there : NodeAt (own_entry setup seat role.kind g (placing name c) ∷ g) c
    unfolding world_after after log_after updated_object with_meta with_status_of
    node_there = record {
      claim = _;
      there = ap (λ (x : Effect). row_at (key_of (Claim c)) (world_after (world setup g) x).store.rows)
          (comes_to setup (world setup g) name c on_store role.kind kind false stays) ∙ row_at-put_row (placed setup (world setup g) name c on_store) (world setup g).store.rows;
      node = value_put selected_node name c.meta.annotations;
    }

    others_there : (k : Key) → key_of (Claim c) ≢ k → row_at k (world setup (own_entry setup seat role.kind g (placing name c) ∷ g)).store.rows ≡ row_at k (world setup g).store.rows
    others_there k other = others_stay setup (world setup g) name c on_store role.kind kind stays k other

  -- ---- one after the other

  module _ (writes : List Request) where
    -- the last one to nothing
    ends_on : (place : ℕ) (c new : ClaimData) → slice_get writes place ≡ Some (placing name c) → slice_get writes (place + 1) ≡ None
        → under_after (at_place key name writes place c) (Done (Claim new)) ≡ None
    unfolding schedule_call schedule_moved
    ends_on place c new here next =
        let within = slice_get_within writes place (placing name c) here in
        let below : nat_lt place (length writes) ≡ true = grind (arith, nat_tests, within) in
        rw (below, next) refl

    module _ (after_ : ActorState) (past : List Entry) (left : ℕ) (history : IsHistory setup past) (fresh : after_.memory.stale ≡ false) where
      -- nothing is under way then, and each claim has the node
      pub record EndsAt (g : List Entry) (cs : List ClaimData) : Type 0 where
        pub state : ActorState
        pub at : List Entry
        pub on : OnRun setup seat role kind key after_ past left history fresh state at
        pub idle : state.under ≡ None
        pub older : List Entry
        pub behind : at ≡ older ++ g
        pub placed : Each (NodeAt at) cs
        pub others : (k : Key) → Each (λ c. key_of (Claim c) ≢ k) cs → row_at k (world setup at).store.rows ≡ row_at k (world setup g).store.rows

      pub through : (c : ClaimData) (cs : List ClaimData) (place : ℕ) (g : List Entry)
          → Asked setup seat role kind key after_ past left history fresh g (at_place key name writes place c)
          → AreFrom writes place (map (placing name) (c ∷ cs)) → Each (Stands (world setup g).store.rows) (c ∷ cs) → AreApart (c ∷ cs) → EndsAt g (c ∷ cs)
      through c [] place g asked are stand apart =
          let s = said g c stand.0 in
          let e = own_entry setup seat role.kind g (placing name c) in
          record {
            state = asked.next;
            at = e ∷ g;
            on = asked.on;
            idle = asked.follows ∙ (ap (under_after (at_place key name writes place c)) s.1 ∙ ends_on place c s.0
                (at_from writes place (placing name c ∷ []) are) (at_from writes (place + 1) [] (later_from writes place (placing name c) [] are)));
            older = e ∷ [];
            behind = refl;
            placed = (node_there g c stand.0, tt);
            others = λ k other. others_there g c stand.0 k other.0;
          }
      through c (d ∷ ds) place g asked are stand apart =
          let s = said g c stand.0 in
          let e = own_entry setup seat role.kind g (placing name c) in
          let next_are = later_from writes place (placing name c) (map (placing name) (d ∷ ds)) are in
          let under : asked.next.under ≡ Some (at_place key name writes (place + 1) d) = asked.follows
          ∙ (ap (under_after (at_place key name writes place c)) s.1
          ∙ goes_on key name writes place c d s.0 (at_from writes place (map (placing name) (c ∷ d ∷ ds)) are) (at_from writes (place + 1) (map (placing name) (d ∷ ds)) next_are)) in
          let next = asked_next setup seat role kind key after_ past left history fresh asked.next (e ∷ g) (at_place key name writes (place + 1) d) asked.on under in
          let stands_next = still_stand (world setup g).store.rows (world setup (e ∷ g)).store.rows c (d ∷ ds) (others_there g c stand.0) apart.0 stand.1 in
          let rest = through d ds (place + 1) (e ∷ g) next next_are stands_next apart.1 in
          let n = node_there g c stand.0 in
          record {
            state = rest.state;
            at = rest.at;
            on = rest.on;
            idle = rest.idle;
            older = rest.older ++ (e ∷ []);
            behind = rest.behind ∙ sym (append_assoc rest.older (e ∷ []) g);
            placed = (record { claim = n.claim; there = rest.others (key_of (Claim c)) (each_map (λ x differs same. differs (sym same)) (d ∷ ds) apart.0) ∙ n.there; node = n.node }, rest.placed);
            others = λ k other. rest.others k other.1 ∙ others_there g c stand.0 k other.0;
          }
