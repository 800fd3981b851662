-- An entry that pays and leaves as much to do moves the nodes of claims, and nothing else.
use Rattle.std.proofs.Common.{◌≡◌, ◌∙◌, ◌⊎◌, ℕ, ◌+◌, ◌≤◌, List, [], ◌∷◌, ◌++◌, append_assoc, Bool, true, false, true≢false, Option, Some, None, inl, inr, refl, sym, ap, subst, arith}
use Rattle.std.proofs.lemmas.List.{append_cancel_right}
use Rattle.std.specs.Prelude.{cond, filter, is_some, option_map}
use Rattle.std.specs.declared.cmp.Ordering.{Ordering}
use Rattle.std.specs.declared.cmp.Ordering.TheVariants.{Less, Equal, Greater}
use Rattle.std.specs.Ordering.{is_eq, match_ordering}
use Rattle.std.proofs.lemmas.Cmp.{nat_list_cmp_total}
use Rattle.plain_data.specs.Pairs.{Pair, pair_key, put_pair, value_at, without_key}
use Rattle.plain_data.proofs.RowFacts.{find_gap}
use Rattle.plain_data.proofs.RowLookups.{find-without}
use Rattle.kube_objects.specs.declared.key.Key.{Key}
use Rattle.kube_objects.specs.declared.objects.Claim.{Claim as ClaimData}
use Rattle.kube_objects.specs.declared.objects.Object.{Object}
use Rattle.kube_objects.specs.declared.objects.Object.TheVariants.{Class, Node, Volume, Claim, Pod}
use Rattle.kube_objects.specs.Bindings.{has_key, selected_node}
use Rattle.kube_objects.specs.Keys.{AreRows, key_cmp, key_of, meta_of, put_row, row_at}
use Rattle.kube_objects.proofs.KeyOrder.{key_cmp_total, row_at-put_row, row_at-put_row_other}
use Rattle.kube_objects.proofs.SameKeys.{key_tells}
use Rattle.call_types.specs.declared.entry.Entry.{Entry}
use Rattle.call_types.specs.declared.request.Request.{Request}
use Rattle.call_types.specs.declared.request.Request.TheVariants as requests
use Rattle.call_types.specs.declared.request.SeatKind.{SeatKind}
use Rattle.call_types.specs.declared.request.SeatKind.TheVariants as seats
use Rattle.call_types.specs.declared.setup.Setup.{Setup}
use Rattle.binder_model.specs.Answers.{Removes, Says, Stores, after, is_other_version}
use Rattle.binder_model.specs.At.{IsWrittenAt}
use Rattle.binder_model.specs.Devices.{Devices, device_answer}
use Rattle.binder_model.specs.Licence.{Licensed, RowAllows}
use Rattle.binder_model.specs.ObjectKeys.{claim_key}
use Rattle.binder_model.specs.OpsLicence.{MayClearNode}
use Rattle.binder_model.specs.Promises.{IsRunOf}
use Rattle.binder_model.specs.SchedulerLicence.{MaySelectNode}
use Rattle.binder_model.specs.Store.{leaves, updated_object, with_meta, with_status_of}
use Rattle.binder_model.specs.Told.{IsClaimWith, ToldClaim, ToldObject, own}
use Rattle.binder_model.specs.World.{Effect, IsHistory, OnDevices, OnStore, SetsMoment, World, effect, log_after, world, world_after}
use Rattle.model_laws.proofs.Growing.{runs_are_histories}
use Rattle.model_laws.proofs.Histories.{rows_stand_in_order}
use Rattle.model_laws.proofs.Lists.{none_some, one}
use Rattle.model_laws.proofs.Truths.{told_is_true}
use Rattle.safety_law.specs.Invariant.Writes.{EffectOf, IsLeaving, IsUpdate, Writes}
use Rattle.safety_law.proofs.Invariant.Effects.{effect_form}
use Rattle.settle_measure.specs.Left.Measure.{work_left}
use Rattle.settle_measure.proofs.Left.Words.{value_put}
use Rattle.settle_writes.specs.Writes.Lasting.{Lasts, LastsBetween, content_of}
use Rattle.settle_writes.proofs.Done.Doing.{stands_it, told_one}
use Rattle.settle_alike.specs.Alike.Alike.{AreAlike}
use Rattle.settle_alike.proofs.Alike.Calls.{LastsOrAlike, calls_last_or_leave_alike, then_alike}
use Rattle.settle_alike.proofs.Alike.Rows.{row_plain}
use Rattle.settle_pays.specs.Pays.Pays.{AllPay, HavePaid, Pays, worth}
use Rattle.settle_pays.proofs.Pays.Entries.{paid_is_less}
use Rattle.settle_progress.proofs.Epochs.Silent.{older_run}
use Rattle.settle_pays.proofs.Actors.Standing.{none_has_left}
use Rattle.settle_write_counts.specs.Rounds.Counts.{AnnotationsAreInOrder}
use Rattle.settle_budget.specs.Drains.Budget.{AreAlwaysInOrder}
use Rattle.settle_alike.specs.Near.Near.{AreNear, is_no_node, rest_of, rests_of}
use Rattle.settle_alike.proofs.Near.Annotations.{rest_put, rest_without}
use Rattle.settle_alike.proofs.Near.Near.{alike_are_near, no_nearer, then_near}
use Rattle.settle_tries.specs.Tries.Moving.{EntriesMoveNodes, MovesBy, MovesNodes, PaidLeaveNear, StoodSo}
use Rattle.std.specs.Prelude.{⊤}

-- ---- moves of nodes join

-- what stands in a world that is alike stood so
pub stood_alike : (old new : World) (key : Key) (c : ClaimData) → AreAlike old new → row_at key new.store.rows ≡ Some (Claim c) → StoodSo old key c
stood_alike old new key c alike there = by (row_at key old.store.rows) refl
  where
    met : option_map content_of (row_at key old.store.rows) ≡ Some (content_of (Claim c))
    met = sym (row_plain key old.store.rows) ∙ (ap (row_at key) alike.rows ∙ (row_plain key new.store.rows ∙ ap (option_map content_of) there))

    is_claim : Object → Bool
    is_claim (Claim x) = true
    is_claim o = false

    by_object : (o : Object) → row_at key old.store.rows ≡ Some o → content_of o ≡ content_of (Claim c) → StoodSo old key c
    by_object (Claim d) e same = record { claim = d; there = e; same = same }
    by_object (Class x) e same = absurd (true≢false (sym (ap is_claim same)))
    by_object (Node x) e same = absurd (true≢false (sym (ap is_claim same)))
    by_object (Volume x) e same = absurd (true≢false (sym (ap is_claim same)))
    by_object (Pod x) e same = absurd (true≢false (sym (ap is_claim same)))

    by : (x : Option Object) → row_at key old.store.rows ≡ x → StoodSo old key c
    by None e = none_some (sym (ap (option_map content_of) e) ∙ met)
    by (Some o) e = by_object o e (one (content_of o) (content_of (Claim c)) (sym (ap (option_map content_of) e) ∙ met))

pub alike_moves : (has : Bool) (old new : World) → AreAlike old new → MovesNodes has old new
alike_moves has old new alike = record { near = alike_are_near old new alike; claims = λ key c there. inl (stood_alike old new key c alike there) }

pub none_moves : (has : Bool) (w : World) → MovesNodes has w w
none_moves has w = alike_moves has w w (record { rows = refl; stored = refl; mounts = refl })

abbrev node_of_content : Object → Option (List ℕ)
node_of_content (Claim c) = value_at selected_node c.meta.annotations
node_of_content o = None

-- claims of one content have one node
pub one_node_so : (c d : ClaimData) → content_of (Claim c) ≡ content_of (Claim d) → value_at selected_node c.meta.annotations ≡ value_at selected_node d.meta.annotations
one_node_so c d same = ap node_of_content same

pub then_moves : (has : Bool) (a b c : World) → MovesNodes has a b → MovesNodes has b c → MovesNodes has a c
then_moves has a b c ab bc = record { near = then_near a b c ab.near bc.near; claims = claims }
  where
    on : (key : Key) (x : ClaimData) → (s : StoodSo b key x) → StoodSo a key s.claim ⊎ (has_key selected_node s.claim.meta.annotations ≡ has)
        → StoodSo a key x ⊎ (has_key selected_node x.meta.annotations ≡ has)
    on key x s (inl t) = inl (record { claim = t.claim; there = t.there; same = t.same ∙ s.same })
    on key x s (inr node) = inr (sym (ap is_some (one_node_so s.claim x s.same)) ∙ node)

    by : (key : Key) (x : ClaimData) → StoodSo b key x ⊎ (has_key selected_node x.meta.annotations ≡ has) → StoodSo a key x ⊎ (has_key selected_node x.meta.annotations ≡ has)
    by key x (inl s) = on key x s (ab.claims key s.claim s.there)
    by key x (inr node) = inr node

    claims : (key : Key) (x : ClaimData) → row_at key c.store.rows ≡ Some (Claim x) → StoodSo a key x ⊎ (has_key selected_node x.meta.annotations ≡ has)
    claims key x there = by key x (bc.claims key x there)

-- ---- a claim is written over the one that was told

pub record Rewrites (w : World) (new : ClaimData) (o : Object) (Row : ClaimData → Type 0) : Type 0 where
  pub on : ClaimData
  pub row : Row on
  pub there : row_at (key_of o) w.store.rows ≡ Some (Claim on)
  pub is : o ≡ updated_object (Claim on) (Claim new) (w.store.version + 1)

module _ (setup : Setup) (seat : ℕ) (h : List Entry) (history : IsHistory setup h) where
  pub rewrites : (kind : SeatKind) (new : ClaimData) (given : Option ℕ) (o : Object) (Row : ClaimData → Type 0)
      → ToldClaim (λ c. IsWrittenAt given new.meta.namespace new.meta.name c.meta × Row c) (own seat h)
      → IsUpdate (world setup h).store kind (Claim new) given o → Rewrites (world setup h) new o Row
  unfolding updated_object with_meta with_status_of
  rewrites kind new given o Row told u = by t.0 t.1 t.2
    where
      t : (x : Object) × ToldObject (λ y. y ≡ x) (own seat h) × IsClaimWith (λ c. IsWrittenAt given new.meta.namespace new.meta.name c.meta × Row c) x
      t = told_one (IsClaimWith (λ c. IsWrittenAt given new.meta.namespace new.meta.name c.meta × Row c)) (own seat h) told

      by : (x : Object) → ToldObject (λ y. y ≡ x) (own seat h) → IsClaimWith (λ c. IsWrittenAt given new.meta.namespace new.meta.name c.meta × Row c) x → Rewrites (world setup h) new o Row
      by (Claim c) it is =
          let keyed : key_of (Claim c) ≡ key_of (Claim new) = λ i. claim_key (is.0.placed i) (is.0.named i) in
          let same : u.old ≡ Claim c = stands_it setup h (Claim c) u.old (key_of (Claim new)) (told_is_true setup h seat (Claim c) history it) keyed
          u.there (subst (λ g. is_other_version g (meta_of u.old).version ≡ false) is.0.version u.version) in
          let is_o : o ≡ updated_object (Claim c) (Claim new) ((world setup h).store.version + 1) = u.is ∙ ap (λ y. updated_object y (Claim new) ((world setup h).store.version + 1)) same in
          record { on = c; row = is.1; there = ap (λ y. row_at (key_of y) (world setup h).store.rows) is_o ∙ (u.there ∙ ap Some same); is = is_o }
      by (Class x) it is = absurd is
      by (Node x) it is = absurd is
      by (Volume x) it is = absurd is
      by (Pod x) it is = absurd is

-- ---- a write of the node alone

abbrev pub with_annotations : ClaimData → List Pair → ClaimData
with_annotations c ps = record c { meta = record c.meta { annotations = ps } }

-- a row put in place of one that is the same but for its node
put_rest : (new old : Object) (rows : List Object) → AreRows rows → row_at (key_of new) rows ≡ Some old → rest_of old ≡ rest_of new → rests_of (put_row new rows) ≡ rests_of rows
put_rest new old [] order there same = none_some there
put_rest new old (x ∷ xs) order there same = by (key_cmp (key_of x) (key_of new)) refl there (λ found. put_rest new old xs order.1 found same)
  where
    by : (r : Ordering) → key_cmp (key_of x) (key_of new) ≡ r → cond (is_eq r) (Some x) (row_at (key_of new) xs) ≡ Some old
        → (row_at (key_of new) xs ≡ Some old → rests_of (put_row new xs) ≡ rests_of xs)
        → rests_of (match_ordering r (x ∷ put_row new xs) (new ∷ xs) (new ∷ x ∷ xs)) ≡ rests_of (x ∷ xs)
    by Less r found later = ap (λ ys. rest_of x ∷ ys) (later found)
    by Equal r found later = ap (λ c. c ∷ rests_of xs) (sym same ∙ ap rest_of (sym (one x old found)))
    by Greater r found later = none_some (sym (find_gap key_cmp_total key_of (key_of new) (x ∷ xs) 0 order r) ∙ there)

-- what is written is the claim that stood with other annotations, which are the same but for the node
pub record WritesNode (has : Bool) (w : World) (o : Object) : Type 0 where
  pub on : ClaimData
  pub annotations : List Pair
  pub there : row_at (key_of o) w.store.rows ≡ Some (Claim on)
  pub is : o ≡ updated_object (Claim on) (Claim (with_annotations on annotations)) (w.store.version + 1)
  pub others : filter is_no_node annotations ≡ filter is_no_node on.meta.annotations
  pub node : has_key selected_node annotations ≡ has

module _ (has : Bool) (w : World) (order : AreRows w.store.rows) (o : Object) (x : WritesNode has w o) where
  rest_same : rest_of (Claim x.on) ≡ rest_of o
  unfolding updated_object with_meta with_status_of
  rest_same = ap (λ ps. Claim (record x.on { meta = record x.on.meta { version = 0; annotations = ps } })) (sym x.others) ∙ sym (ap rest_of x.is)

  pub node_is : (c : ClaimData) → o ≡ Claim c → has_key selected_node c.meta.annotations ≡ has
  unfolding updated_object with_meta with_status_of
  node_is c e = ap (λ y. is_some (node_of_content y)) (sym e ∙ x.is) ∙ x.node

  put_moves : (new : World) → new.store.rows ≡ put_row o w.store.rows → new.devices ≡ w.devices → MovesNodes has w new
  put_moves new rows devices = record {
    near = record {
      rows = sym (put_rest o (Claim x.on) w.store.rows order x.there rest_same) ∙ ap rests_of (sym rows);
      stored =
          ap (λ (d : Devices). d.stored) (sym devices);
      mounts = ap (λ (d : Devices). d.mounts) (sym devices);
    };
    claims = λ key c there. elim (key_tells (key_of o) key) [
      | inl same ↦ inr (node_is c (one o (Claim c) (sym (row_at-put_row o w.store.rows) ∙ (ap (λ k. row_at k (put_row o w.store.rows)) same ∙ (ap (row_at key) (sym rows) ∙ there)))))
      | inr other ↦ inl (record { claim = c; there = sym (row_at-put_row_other key o w.store.rows other) ∙ (ap (row_at key) (sym rows) ∙ there); same = refl })
    ];
  }

  -- it does not leave
  stays_there : (request : Request) → leaves (Claim x.on) ≡ false → IsLeaving request o → ⊥
  unfolding updated_object with_meta with_status_of leaves
  stays_there request stays leaving = true≢false (sym (subst (IsLeaving request) x.is leaving) ∙ stays)

-- a call that writes the node of a claim, if anything
module _ (has : Bool) (setup : Setup) (h : List Entry) (kind : SeatKind) (request : Request)
    (none : device_answer setup (world setup h).devices request ≡ None) (writes : (o : Object) → Writes (world setup h) kind request o → WritesNode has (world setup h) o) where
  effect_moves : (y : Effect) → EffectOf setup (world setup h) kind request y → MovesNodes has (world setup h) (world_after (world setup h) y)
  unfolding world_after after log_after
  effect_moves (OnStore (Says reply)) form = record { near = record { rows = refl; stored = refl; mounts = refl }; claims = λ key c there. inl (record { claim = c; there = there; same = refl }) }
  effect_moves (OnStore (Stores change o)) form = put_moves has (world setup h) (rows_stand_in_order setup h) o (writes o form) (world_after (world setup h) (OnStore (Stores change o))) refl refl
  effect_moves (OnStore (Removes o)) form =
      let x = writes o form.0 in
      absurd (stays_there has (world setup h) (rows_stand_in_order setup h) o x request (none_has_left setup h (key_of o) (Claim x.on) x.there) form.1)
  effect_moves (OnDevices a) form = none_some (sym none ∙ form.1)
  effect_moves (SetsMoment at) form = record { near = record { rows = refl; stored = refl; mounts = refl }; claims = λ key c there. inl (record { claim = c; there = there; same = refl }) }

  call_moves : MovesNodes has (world setup h) (world_after (world setup h) (effect setup (world setup h) kind request))
  call_moves = effect_moves (effect setup (world setup h) kind request) (effect_form setup (world setup h) kind request (rows_stand_in_order setup h))

-- ---- one entry

pub alike_by : (kind : SeatKind) (old new : World) → AreAlike old new → MovesBy kind old new
alike_by seats.Scheduler old new alike = alike_moves true old new alike
alike_by seats.Ops old new alike = alike_moves false old new alike
alike_by seats.User old new alike = alike
alike_by seats.Binder old new alike = alike
alike_by seats.ClaimProtect old new alike = alike
alike_by seats.VolumeProtect old new alike = alike
alike_by seats.Agent old new alike = alike

pub near_by : (kind : SeatKind) (old new : World) → MovesBy kind old new → AreNear old new
near_by seats.Scheduler old new moves = moves.near
near_by seats.Ops old new moves = moves.near
near_by seats.User old new moves = alike_are_near old new moves
near_by seats.Binder old new moves = alike_are_near old new moves
near_by seats.ClaimProtect old new moves = alike_are_near old new moves
near_by seats.VolumeProtect old new moves = alike_are_near old new moves
near_by seats.Agent old new moves = alike_are_near old new moves

pub then_by : (kind : SeatKind) (a b c : World) → MovesBy kind a b → MovesBy kind b c → MovesBy kind a c
then_by seats.Scheduler a b c ab bc = then_moves true a b c ab bc
then_by seats.Ops a b c ab bc = then_moves false a b c ab bc
then_by seats.User a b c ab bc = then_alike a b c ab bc
then_by seats.Binder a b c ab bc = then_alike a b c ab bc
then_by seats.ClaimProtect a b c ab bc = then_alike a b c ab bc
then_by seats.VolumeProtect a b c ab bc = then_alike a b c ab bc
then_by seats.Agent a b c ab bc = then_alike a b c ab bc

module _ (setup : Setup) (seat : ℕ) (h : List Entry) (history : IsHistory setup h) (in_order : AnnotationsAreInOrder (world setup h)) where
  pub selects : (new : ClaimData) (given : Option ℕ) (o : Object) → RowAllows seats.Scheduler (own seat h) (requests.Update (Claim new) given)
      → Writes (world setup h) seats.Scheduler (requests.Update (Claim new) given) o → WritesNode true (world setup h) o
  selects new given o may u =
      let r = rewrites setup seat h history seats.Scheduler new given o (λ c. MaySelectNode (own seat h) c new) may u in
      record {
        on = r.on;
        annotations = put_pair selected_node r.row.node.meta.name r.on.meta.annotations;
        there = r.there;
        is = r.is ∙ ap (λ c. updated_object (Claim r.on) (Claim c) ((world setup h).store.version + 1)) r.row.change;
        others = rest_put r.row.node.meta.name r.on.meta.annotations;
        node = ap is_some (value_put selected_node r.row.node.meta.name r.on.meta.annotations);
      }

  pub clears : (new : ClaimData) (given : Option ℕ) (o : Object) → RowAllows seats.Ops (own seat h) (requests.Update (Claim new) given)
      → Writes (world setup h) seats.Ops (requests.Update (Claim new) given) o → WritesNode false (world setup h) o
  clears new given o may u =
      let r = rewrites setup seat h history seats.Ops new given o (λ c. MayClearNode (own seat h) c new) may u in
      record {
        on = r.on;
        annotations = without_key selected_node r.on.meta.annotations;
        there = r.there;
        is = r.is ∙ ap (λ c. updated_object (Claim r.on) (Claim c) ((world setup h).store.version + 1)) r.row.change;
        others = rest_without r.on.meta.annotations;
        node = ap (λ (x : Option Pair). is_some (option_map (λ (p : Pair). p.1) x)) (find-without nat_list_cmp_total pair_key selected_node r.on.meta.annotations (in_order (key_of o) r.on r.there));
      }

  -- a call is worth something, or moves nodes where it lasts
  worth_or_moves : (kind : SeatKind) (r : Request) → Licensed kind (own seat h) r → (worth kind r ≡ 1)
      ⊎ MovesBy kind (world setup h) (world_after (world setup h) (effect setup (world setup h) kind r))
  unfolding device_answer
  worth_or_moves seats.Scheduler (requests.Update (Claim new) given) may = inr (call_moves true setup h seats.Scheduler (requests.Update (Claim new) given) refl (λ o w. selects new given o may.1 w))
  worth_or_moves seats.Ops (requests.Update (Claim new) given) may = inr (call_moves false setup h seats.Ops (requests.Update (Claim new) given) refl (λ o w. clears new given o may.1 w))
  worth_or_moves seats.Scheduler _ may = inl refl
  worth_or_moves seats.Ops _ may = inl refl
  worth_or_moves seats.User r may = inl refl
  worth_or_moves seats.Binder r may = inl refl
  worth_or_moves seats.ClaimProtect r may = inl refl
  worth_or_moves seats.VolumeProtect r may = inl refl
  worth_or_moves seats.Agent r may = inl refl

-- the annotations are in order in each world before
pub in_order_before : (setup : Setup) (newer h : List Entry) → AreAlwaysInOrder setup (newer ++ h) → AreAlwaysInOrder setup h
in_order_before setup newer h order more older same = order (newer ++ more) older (ap (λ es. newer ++ es) same ∙ sym (append_assoc newer more older))

-- an entry that is worth something and lasts leaves less to do
pub worth_falls : (setup : Setup) (e : Entry) (h : List Entry) → IsHistory setup (e ∷ h) → HavePaid setup h (e ∷ h)
    → Lasts setup (world setup h) e.kind e.request → worth e.kind e.request ≡ 1 → work_left setup (world setup (e ∷ h)) + 1 ≤ work_left setup (world setup h)
worth_falls setup e h history paid lasts one_ =
    (paid_is_less setup h (e ∷ h) history paid).falls
    (record { lasting = record { entry = e; newer = []; older = []; are = refl; lasts = subst (λ r. LastsBetween (world setup h) (world setup (e ∷ h)) r) (sym history.1) lasts }; worth_is = one_ })

pub entries_move_nodes : EntriesMoveNodes
entries_move_nodes setup e h run order paid le = by (calls_last_or_leave_alike setup (world setup h) e.kind e.request (rows_stand_in_order setup h))
  where
    history : IsHistory setup (e ∷ h)
    history = runs_are_histories setup (e ∷ h) run.run

    by : LastsOrAlike (world setup h) (effect setup (world setup h) e.kind e.request) → MovesBy e.kind (world setup h) (world setup (e ∷ h))
    by (inr alike) = alike_by e.kind (world setup h) (world setup (e ∷ h)) alike
    by (inl lasts) = elim (worth_or_moves setup e.seat h history.0 (order [] h refl) e.kind e.request run.run.2) [
      | inl one_ ↦ let less = worth_falls setup e h history paid lasts one_ in absurd (omega (arith, less, le))
      | inr moves ↦ moves
    ]

-- ---- all of them

abbrev pub AreOfKind : SeatKind → List Entry → Type 0
AreOfKind kind [] = ⊤
AreOfKind kind (e ∷ es) = (e.kind ≡ kind) × AreOfKind kind es

module _ (setup : Setup) (h : List Entry) where
  -- how the entries of one kind and those of any move nodes
  record Moved (newer : List Entry) : Type 0 where
    near : AreNear (world setup h) (world setup (newer ++ h))
    kinds : (kind : SeatKind) → AreOfKind kind newer → MovesBy kind (world setup h) (world setup (newer ++ h))

  all_move : (newer : List Entry) → IsRunOf setup (newer ++ h) → AreAlwaysInOrder setup (newer ++ h) → AllPay setup newer h
      → work_left setup (world setup h) ≤ work_left setup (world setup (newer ++ h)) → Moved newer
  all_move [] run order each le = record { near = no_nearer (world setup h); kinds = λ kind are. alike_by kind (world setup h) (world setup h) (record { rows = refl; stored = refl; mounts = refl }) }
  all_move (e ∷ newer) run order each le =
      let before = older_run setup (e ∷ []) (newer ++ h) run in
      let hist = runs_are_histories setup (e ∷ newer ++ h) run.run in
      let one_paid : HavePaid setup (newer ++ h) (e ∷ newer ++ h) = record { newer = e ∷ []; are = refl; each = (each.0, tt) } in
      let falls = (paid_is_less setup (newer ++ h) (e ∷ newer ++ h) hist one_paid).stays in
      let fell = (paid_is_less setup h (newer ++ h) hist.0 (record { newer = newer; are = refl; each = each.1 })).stays in
      let rest = all_move newer before (in_order_before setup (e ∷ []) (newer ++ h) order) each.1 (omega (arith, falls, le)) in
      let here = entries_move_nodes setup e (newer ++ h) run (in_order_before setup (e ∷ []) (newer ++ h) order) one_paid (omega (arith, fell, le)) in
      record {
        near = then_near (world setup h) (world setup (newer ++ h)) (world setup (e ∷ newer ++ h)) rest.near (near_by e.kind (world setup (newer ++ h)) (world setup (e ∷ newer ++ h)) here);
        kinds = λ kind are. then_by kind (world setup h) (world setup (newer ++ h)) (world setup (e ∷ newer ++ h)) (rest.kinds kind are.1)
            (subst (λ k. MovesBy k (world setup (newer ++ h)) (world setup (e ∷ newer ++ h))) are.0 here);
      }

pub paid_leave_near : PaidLeaveNear
paid_leave_near setup h past run order paid le =
    subst (λ es. AreNear (world setup h) (world setup es)) (sym paid.are)
    (all_move setup h paid.newer (subst (IsRunOf setup) paid.are run) (subst (AreAlwaysInOrder setup) paid.are order) paid.each
    (subst (λ es. work_left setup (world setup h) ≤ work_left setup (world setup es)) paid.are le)).near

-- those of one kind move nodes in its way
pub kind_moves : (setup : Setup) (kind : SeatKind) (h past newer : List Entry) → past ≡ newer ++ h → AreOfKind kind newer → IsRunOf setup past
    → AreAlwaysInOrder setup past → HavePaid setup h past → work_left setup (world setup h) ≤ work_left setup (world setup past)
    → MovesBy kind (world setup h) (world setup past)
kind_moves setup kind h past newer are kinds run order paid le =
    let same : paid.newer ≡ newer = append_cancel_right paid.newer newer h (sym paid.are ∙ are) in
    subst (λ es. MovesBy kind (world setup h) (world setup es)) (sym paid.are)
    ((all_move setup h paid.newer (subst (IsRunOf setup) paid.are run) (subst (AreAlwaysInOrder setup) paid.are order) paid.each
    (subst (λ es. work_left setup (world setup h) ≤ work_left setup (world setup es)) paid.are le)).kinds kind (subst (AreOfKind kind) (sym same) kinds))

-- ---- a part of entries that pay

all_split : (setup : Setup) (newer older h : List Entry) → AllPay setup (newer ++ older) h → AllPay setup newer (older ++ h) × AllPay setup older h
all_split setup [] older h each = (tt, each)
all_split setup (x ∷ newer) older h each = let r = all_split setup newer older h each.1 in ((subst (λ es. Pays setup (world setup es) x.kind x.request) (append_assoc newer older h) each.0, r.0), r.1)

-- up to a point, and from it on
pub paid_split : (setup : Setup) (h middle past newer older : List Entry) → past ≡ newer ++ middle → middle ≡ older ++ h → HavePaid setup h past → HavePaid setup middle past × HavePaid setup h middle
paid_split setup h middle past newer older are were paid =
    let same : paid.newer ≡ newer ++ older = append_cancel_right paid.newer (newer ++ older) h (sym paid.are ∙ (are ∙ (ap (λ es. newer ++ es) were ∙ sym (append_assoc newer older h)))) in
    let r = all_split setup newer older h (subst (λ es. AllPay setup es h) same paid.each) in
    (record { newer = newer; are = are; each = subst (AllPay setup newer) (sym were) r.0 }, record { newer = older; are = were; each = r.1 })
