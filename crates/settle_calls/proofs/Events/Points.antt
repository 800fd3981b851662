-- A point of a slot, and what one call of the actor does to what is still to come there: a write is one of those that are still ahead.
use Rattle.std.proofs.Common.{◌≡◌, ◌≢◌, ◌∙◌, ◌⊎◌, ℕ, ◌+◌, ◌*◌, ◌-◌, ◌≤◌, ◌<◌, List, [], ◌∷◌, ◌++◌, Bool, true, false, true≢false, Option, Some, None, inl, inr, refl, sym, ap, subst, arith}
use Rattle.std.specs.Prelude.{◌/◌, ◌||◌, map}
use Rattle.std.specs.List.{list_any}
use Rattle.kube_objects.specs.declared.key.Key.{Key}
use Rattle.kube_parts.specs.declared.parts.Kind.{Kind}
use Rattle.kube_objects.specs.declared.objects.Object.{Object}
use Rattle.kube_objects.specs.Keys.{key_of, kind_of, put_row, row_at, same_key, without_row}
use Rattle.kube_objects.proofs.KeyOrder.{row_at-put_row, row_at-put_row_other, row_at-without_row, row_at-without_row_other}
use Rattle.kube_objects.proofs.SameKeys.{key_tells}
use Rattle.call_types.specs.declared.entry.Entry.{Entry}
use Rattle.call_types.specs.declared.reply.Event.{Event}
use Rattle.call_types.specs.declared.reply.Reply.{Reply}
use Rattle.call_types.specs.declared.reply.Reply.TheVariants as replies
use Rattle.call_types.specs.declared.request.SeatKind.{SeatKind}
use Rattle.call_types.specs.declared.setup.Setup.{Setup}
use Rattle.call_types.specs.Kinds.{reads_kind}
use Rattle.binder_model.specs.World.{World, world}
use Rattle.model_laws.proofs.Histories.{rows_stand_in_order}
use Rattle.model_laws.proofs.Lists.{IsIn}
use Rattle.settle_measure.specs.Left.Measure.{total}
use Rattle.sync_queue.specs.Work.{AreOnce, StandsOnce, Taken, Work}
use Rattle.sync_queue.proofs.LaneFacts.{any-append}
use Rattle.worker_core.specs.Roles.{kinds_of}
use Rattle.settle_calls.specs.Tasks.Costs.{calls_for, calls_if, key_cost, work_cost}
use Rattle.settle_calls.specs.Events.Counts.{pending}
use Rattle.settle_calls.proofs.Events.Calls.{Stays, Wrote, unread_from}
use Rattle.settle_calls.proofs.Events.Events.{one_more}
use Rattle.settle_calls.proofs.Events.Rows.{put_total, without_total}
use Rattle.settle_calls.proofs.Events.Sums.{at_kind, div_less, mul_less, once, sum_less, sum_more}
use Rattle.settle_calls.proofs.Tasks.Works.{changed_again, changed_cost}
use Rattle.settle_calls.specs.Events.Ahead.{Point, cost_at, from_of, kind_cost, kinds_cost}
use Rattle.settle_calls.specs.Tasks.Ends.{done_by}

-- what is written costs little
abbrev pub WritesLight : SeatKind → Reply → Type 0
WritesLight kind reply = (o : Object) → reply ≡ replies.Done o → calls_for kind o ≤ 3

or_false : (a b : Bool) → (a || b) ≡ false → a ≡ false
or_false true b e = absurd (true≢false e)
or_false false b e = refl

or_rest : (a b : Bool) → (a || b) ≡ false → b ≡ false
or_rest true b e = absurd (true≢false e)
or_rest false b e = e

once_left : (xs ys : List Key) → AreOnce (xs ++ ys) → AreOnce xs
once_left [] ys o = tt
once_left (x ∷ xs) ys o = (or_false (list_any (same_key x) xs) (list_any (same_key x) ys) (sym (any-append (same_key x) xs ys) ∙ o.0), once_left xs ys o.1)

once_right : (xs ys : List Key) → AreOnce (xs ++ ys) → AreOnce ys
once_right [] ys o = o
once_right (x ∷ xs) ys o = once_right xs ys o.1

pub waiting_once : (w : Work) → StandsOnce w → AreOnce w.waiting
waiting_once w o = once_left w.waiting (map (λ (t : Taken). t.key) w.taken) (once_left (w.waiting ++ map (λ (t : Taken). t.key) w.taken) w.parked o)

pub taken_once : (w : Work) → StandsOnce w → AreOnce (map (λ (t : Taken). t.key) w.taken)
taken_once w o = once_right w.waiting (map (λ (t : Taken). t.key) w.taken) (once_left (w.waiting ++ map (λ (t : Taken). t.key) w.taken) w.parked o)

-- one call
module _ (setup : Setup) (kind : SeatKind) (base m high : ℕ) (e : Entry) (h : List Entry) (at : Point setup kind base m high h)
    (short : (world setup (e ∷ h)).store.version ≤ high) (write_light : WritesLight kind e.reply) where
  abbrev w : World
  w = world setup h

  abbrev v : World
  v = world setup (e ∷ h)

  -- where an object was written
  module _ (wrote : Wrote (world setup h) (world setup (e ∷ h)) e.reply) where
    own_cost : cost_at kind (world setup (e ∷ h)) (key_of wrote.event.object) ≤ 3
    own_cost = by wrote.rows
      where
        by : ((e.reply ≡ replies.Done wrote.event.object)
            × ((world setup (e ∷ h)).store.rows ≡ put_row wrote.event.object (world setup h).store.rows))
            ⊎ ((e.reply ≡ replies.Left wrote.event.object) × ((world setup (e ∷ h)).store.rows ≡ without_row (key_of wrote.event.object) (world setup h).store.rows))
            → cost_at kind (world setup (e ∷ h)) (key_of wrote.event.object) ≤ 3
        by (inl put) =
            let is : cost_at kind (world setup (e ∷ h)) (key_of wrote.event.object) ≡ calls_for kind wrote.event.object =
            ap (λ rows. calls_if kind (row_at (key_of wrote.event.object) rows)) put.1 ∙ ap (calls_if kind) (row_at-put_row wrote.event.object (world setup h).store.rows) in
            let light = write_light wrote.event.object put.0 in
            omega (arith, is, light)
        by (inr gone) =
            let is : cost_at kind (world setup (e ∷ h)) (key_of wrote.event.object) ≡ 0 =
            ap (λ rows. calls_if kind (row_at (key_of wrote.event.object) rows)) gone.1
            ∙ ap (calls_if kind) (row_at-without_row (key_of wrote.event.object) (world setup h).store.rows (rows_stand_in_order setup h)) in
            omega (arith, is)

    other_cost : (key : Key) → key ≢ key_of wrote.event.object → cost_at kind (world setup (e ∷ h)) key ≡ cost_at kind (world setup h) key
    other_cost key other = ap (calls_if kind) (by wrote.rows)
      where
        by : ((e.reply ≡ replies.Done wrote.event.object)
            × ((world setup (e ∷ h)).store.rows ≡ put_row wrote.event.object (world setup h).store.rows))
            ⊎ ((e.reply ≡ replies.Left wrote.event.object) × ((world setup (e ∷ h)).store.rows ≡ without_row (key_of wrote.event.object) (world setup h).store.rows))
            → row_at key (world setup (e ∷ h)).store.rows ≡ row_at key (world setup h).store.rows
        by (inl put) = ap (row_at key) put.1 ∙ row_at-put_row_other key wrote.event.object (world setup h).store.rows (λ s. other (sym s))
        by (inr gone) = ap (row_at key) gone.1 ∙ row_at-without_row_other (key_of wrote.event.object) key (world setup h).store.rows (λ s. other (sym s))

    more_total : total (calls_for kind) (world setup (e ∷ h)).store.rows ≤ total (calls_for kind) (world setup h).store.rows + 3
    more_total = by wrote.rows
      where
        by : ((e.reply ≡ replies.Done wrote.event.object)
            × ((world setup (e ∷ h)).store.rows ≡ put_row wrote.event.object (world setup h).store.rows))
            ⊎ ((e.reply ≡ replies.Left wrote.event.object) × ((world setup (e ∷ h)).store.rows ≡ without_row (key_of wrote.event.object) (world setup h).store.rows))
            → total (calls_for kind) (world setup (e ∷ h)).store.rows ≤ total (calls_for kind) (world setup h).store.rows + 3
        by (inl put) =
            let is = ap (total (calls_for kind)) put.1 in
            let h2 = put_total (calls_for kind) wrote.event.object (world setup h).store.rows in
            let light = write_light wrote.event.object put.0 in
            omega (arith, is, h2, light)
        by (inr gone) =
            let is = ap (total (calls_for kind)) gone.1 in
            let h2 = without_total (calls_for kind) (key_of wrote.event.object) (world setup h).store.rows in
            omega (arith, is, h2)

    wrote_light : (x : Event) → IsIn x (world setup (e ∷ h)).log → base < x.version → cost_at kind (world setup (e ∷ h)) (key_of x.object) ≤ 3
    wrote_light x i lt = by (subst (IsIn x) wrote.log i)
      where
        old : IsIn x (world setup h).log → (key_of x.object ≡ key_of wrote.event.object) ⊎ (key_of x.object ≢ key_of wrote.event.object) → cost_at kind (world setup (e ∷ h)) (key_of x.object) ≤ 3
        old j (inl same) = subst (λ k. cost_at kind (world setup (e ∷ h)) k ≤ 3) (sym same) own_cost
        old j (inr other) = let c = other_cost (key_of x.object) other in let l = at.light x j lt in omega (arith, c, l)

        by : IsIn x (wrote.event ∷ (world setup h).log) → cost_at kind (world setup (e ∷ h)) (key_of x.object) ≤ 3
        by (inl is) = subst (λ (y : Event). cost_at kind (world setup (e ∷ h)) (key_of y.object) ≤ 3) is own_cost
        by (inr j) = old j (key_tells (key_of x.object) (key_of wrote.event.object))

    wrote_work : (work : Work) → StandsOnce work → work_cost (cost_at kind (world setup (e ∷ h))) work ≤ work_cost (cost_at kind (world setup h)) work + 6
    wrote_work work o =
        let others = λ (k : Key) (other : k ≢ key_of wrote.event.object). same k other in
        let own = own_more in
        let a = changed_cost (cost_at kind (world setup h)) (cost_at kind (world setup (e ∷ h))) (key_of wrote.event.object) 3 others own work.waiting (waiting_once work o) in
        let b = changed_again (cost_at kind (world setup h)) (cost_at kind (world setup (e ∷ h))) (key_of wrote.event.object) 3 others own work.taken (taken_once work o) in
        omega (arith, a, b)
      where
        same : (k : Key) → k ≢ key_of wrote.event.object → cost_at kind (world setup (e ∷ h)) k ≤ cost_at kind (world setup h) k
        same k other = let c = other_cost k other in omega (arith, c)

        own_more : cost_at kind (world setup (e ∷ h)) (key_of wrote.event.object) ≤ cost_at kind (world setup h) (key_of wrote.event.object) + 3
        own_more = let c = own_cost in omega (arith, c)

    wrote_point : Point setup kind base m high (e ∷ h)
    wrote_point =
        let version = wrote.version in let begun = at.begun in let heavy = at.heavy in let more = more_total in
        record { begun = omega (arith, version, begun); light = wrote_light; heavy = omega (arith, version, heavy, more, short) }

  pub point_on : Stays (world setup h) (world setup (e ∷ h)) e.request e.reply ⊎ Wrote (world setup h) (world setup (e ∷ h)) e.reply → Point setup kind base m high (e ∷ h)
  point_on (inr wrote) = wrote_point wrote
  point_on (inl stays) =
      let version = stays.version in let begun = at.begun in let heavy = at.heavy in let same = ap (total (calls_for kind)) stays.rows in
      record {
        begun = omega (arith, version, begun);
        light = λ x i lt. subst (λ rows. calls_if kind (row_at (key_of x.object) rows) ≤ 3) (sym stays.rows) (at.light x (subst (IsIn x) stays.log i) lt);
        heavy = omega (arith, version, heavy, same);
      }

  -- a call that reads no whole kind
  module _ (seat : ℕ) (mine : e.seat ≡ seat) (told : e.told ≡ true) (unread : (k : Kind) → reads_kind k e.request ≡ false) where
    wrote_kinds : Wrote (world setup h) (world setup (e ∷ h)) e.reply → kinds_cost setup seat kind m high (e ∷ h) ≤ kinds_cost setup seat kind m high h + 9
    wrote_kinds wrote =
        let sum = sum_more (λ k. kind_cost m high (world setup h) k (from_of seat h k))
        (λ k. kind_cost m high (world setup (e ∷ h)) k (from_of seat (e ∷ h) k)) (at_kind (kind_of wrote.event.object)) (kinds_of kind) each in
        let one = once kind (kind_of wrote.event.object) in
        omega (arith, sum, one)
      where
        by : (k : Kind) (x : Option ℕ) → kind_cost m high (world setup (e ∷ h)) k x ≤ kind_cost m high (world setup h) k x + at_kind (kind_of wrote.event.object) k
        by k None =
            let version = wrote.version in
            let less = mul_less (m + 7) ((high - (world setup (e ∷ h)).store.version) / 513) ((high - (world setup h).store.version) / 513)
            (div_less (high - (world setup (e ∷ h)).store.version) (high - (world setup h).store.version) (omega (arith, version))) in
            omega (arith, less)
        by k (Some from) =
            let more = one_more k from wrote.event (world setup h).log in
            let log : pending k from (world setup (e ∷ h)).log ≡ pending k from (wrote.event ∷ (world setup h).log) = ap (pending k from) wrote.log in
            omega (arith, more, log)

        each : (k : Kind) → kind_cost m high (world setup (e ∷ h)) k (from_of seat (e ∷ h) k) ≤ kind_cost m high (world setup h) k (from_of seat h k) + at_kind (kind_of wrote.event.object) k
        each k = subst (λ x. kind_cost m high (world setup (e ∷ h)) k x ≤ kind_cost m high (world setup h) k (from_of seat h k) + at_kind
            (kind_of wrote.event.object) k) (sym (unread_from seat e h mine told k (unread k))) (by k (from_of seat h k))

    stays_kinds : Stays (world setup h) (world setup (e ∷ h)) e.request e.reply → kinds_cost setup seat kind m high (e ∷ h) ≤ kinds_cost setup seat kind m high h
    stays_kinds stays = sum_less (λ k. kind_cost m high (world setup h) k (from_of seat h k)) (λ k. kind_cost m high (world setup (e ∷ h)) k (from_of seat (e ∷ h) k)) (kinds_of kind) each
      where
        by : (k : Kind) (x : Option ℕ) → kind_cost m high (world setup (e ∷ h)) k x ≤ kind_cost m high (world setup h) k x
        by k None = let same : kind_cost m high (world setup (e ∷ h)) k None ≡ kind_cost m high (world setup h) k None =
            ap (λ n. (m + 1) + (m + 7) * ((high - n) / 513)) stays.version in omega (arith, same)
        by k (Some from) = let same : kind_cost m high (world setup (e ∷ h)) k (Some from) ≡ kind_cost m high (world setup h) k (Some from) =
            ap (λ l. 9 * pending k from l + (m + 7) * ((high - from) / 513)) stays.log in omega (arith, same)

        each : (k : Kind) → kind_cost m high (world setup (e ∷ h)) k (from_of seat (e ∷ h) k) ≤ kind_cost m high (world setup h) k (from_of seat h k)
        each k = subst (λ x. kind_cost m high (world setup (e ∷ h)) k x ≤ kind_cost m high (world setup h) k (from_of seat h k))
            (sym (unread_from seat e h mine told k (unread k))) (by k (from_of seat h k))

    -- a write is one of those ahead, and pays for what it brings
    pub call_pays : (work : Work) → StandsOnce work → done_by e.request e.reply ≤ 1 → Stays (world setup h) (world setup (e ∷ h)) e.request e.reply
        ⊎ Wrote (world setup h) (world setup (e ∷ h)) e.reply
        → 16 * (high - (world setup (e ∷ h)).store.version) + work_cost (cost_at kind (world setup (e ∷ h))) work + kinds_cost setup seat kind m high (e ∷ h) + done_by e.request e.reply
        ≤ 16 * (high - (world setup h).store.version) + work_cost (cost_at kind (world setup h)) work + kinds_cost setup seat kind m high h
    call_pays work o few (inr wrote) =
        let a = wrote_work wrote work o in let b = wrote_kinds wrote in let version = wrote.version in
        omega (arith, a, b, version, short, few)
    call_pays work o few (inl stays) =
        let b = stays_kinds stays in let version = stays.version in let none = stays.none in
        let a : work_cost (cost_at kind (world setup (e ∷ h))) work ≡ work_cost (cost_at kind (world setup h)) work = ap (λ rows. work_cost (key_cost kind rows) work) stays.rows in
        omega (arith, a, b, version, none)
