-- Entries that pay lower what is left to do.
use Rattle.std.proofs.Common.{◌≡◌, ◌∙◌, ◌⊎◌, ◌+◌, ◌≤◌, List, [], ◌∷◌, ◌++◌, append_assoc, inl, inr, refl, sym, ap, subst, arith}
use Rattle.std.proofs.lemmas.List.{append_cancel_right}
use Rattle.kube_objects.specs.Keys.{AreRows}
use Rattle.call_types.specs.declared.entry.Entry.{Entry}
use Rattle.call_types.specs.declared.request.Request.{Request}
use Rattle.call_types.specs.declared.request.SeatKind.{SeatKind}
use Rattle.call_types.specs.declared.setup.Setup.{Setup}
use Rattle.binder_model.specs.World.{IsHistory, World, effect, world, world_after}
use Rattle.model_laws.proofs.Histories.{rows_stand_in_order}
use Rattle.settle_measure.specs.Left.Measure.{work_left}
use Rattle.settle_writes.specs.Writes.Lasting.{Lasts, LastsBetween}
use Rattle.settle_alike.specs.Alike.Alike.{AreAlike}
use Rattle.settle_alike.proofs.Alike.Calls.{calls_last_or_leave_alike}
use Rattle.settle_slot.proofs.Slot.Slots.{older}
use Rattle.settle_pays.specs.Pays.Pays.{AllPay, HasWorth, HavePaid, PaidIsLess, Pays, worth}
use Rattle.settle_pays.proofs.Pays.Calls.{alike_is_left}

-- ---- more entries

pub all_more : (setup : Setup) (newer middle earlier : List Entry) → AllPay setup newer (middle ++ earlier) → AllPay setup middle earlier → AllPay setup (newer ++ middle) earlier
all_more setup [] middle earlier new old = old
all_more setup (e ∷ newer) middle earlier new old =
    (subst (λ es. Pays setup (world setup es) e.kind e.request) (sym (append_assoc newer middle earlier)) new.0, all_more setup newer middle earlier new.1 old)

pub none_paid : (setup : Setup) (h past : List Entry) → past ≡ h → HavePaid setup h past
none_paid setup h past same = record { newer = []; are = same; each = tt }

pub one_paid : (setup : Setup) (e : Entry) (h : List Entry) → Pays setup (world setup h) e.kind e.request → HavePaid setup h (e ∷ h)
one_paid setup e h pays = record { newer = e ∷ []; are = refl; each = (pays, tt) }

pub then_paid : (setup : Setup) (h middle past : List Entry) → HavePaid setup h middle → HavePaid setup middle past → HavePaid setup h past
then_paid setup h middle past first then_ = record {
  newer = then_.newer ++ first.newer;
  are = then_.are ∙ (ap (λ es. then_.newer ++ es) first.are ∙ sym (append_assoc then_.newer first.newer h));
  each = all_more setup then_.newer first.newer h (subst (AllPay setup then_.newer) first.are then_.each) first.each;
}

-- ---- one that pays

module _ (setup : Setup) (w : World) (kind : SeatKind) (request : Request) (order : AreRows w.store.rows) (pays : Pays setup w kind request) where
  one_stays : work_left setup (world_after w (effect setup w kind request)) ≤ work_left setup w
  one_stays = by (calls_last_or_leave_alike setup w kind request order)
    where
      by : Lasts setup w kind request ⊎ AreAlike w (world_after w (effect setup w kind request)) → work_left setup (world_after w (effect setup w kind request)) ≤ work_left setup w
      by (inl lasts) = let less = pays lasts in omega (arith, less)
      by (inr alike) = alike_is_left setup w kind request alike

-- ---- all of them

all_stay : (setup : Setup) (newer earlier : List Entry) → AllPay setup newer earlier → work_left setup (world setup (newer ++ earlier)) ≤ work_left setup (world setup earlier)
all_stay setup [] earlier each = omega arith
all_stay setup (e ∷ newer) earlier each =
    let here = one_stays setup (world setup (newer ++ earlier)) e.kind e.request (rows_stand_in_order setup (newer ++ earlier)) each.0 in
    let before = all_stay setup newer earlier each.1 in
    omega (arith, here, before)

-- those before and behind an entry
pays_at : (setup : Setup) (newer : List Entry) (e : Entry) (old earlier : List Entry) → AllPay setup (newer ++ (e ∷ old)) earlier
    → (work_left setup (world setup (newer ++ (e ∷ old ++ earlier))) ≤ work_left setup (world setup (e ∷ old ++ earlier)))
    × (Pays setup (world setup (old ++ earlier)) e.kind e.request × (work_left setup (world setup (old ++ earlier)) ≤ work_left setup (world setup earlier)))
pays_at setup [] e old earlier each = (omega arith, (each.0, all_stay setup old earlier each.1))
pays_at setup (x ∷ newer) e old earlier each =
    let more = pays_at setup newer e old earlier each.1 in
    let same : (newer ++ (e ∷ old)) ++ earlier ≡ newer ++ (e ∷ old ++ earlier) = append_assoc newer (e ∷ old) earlier in
    let here = one_stays setup (world setup (newer ++ (e ∷ old ++ earlier))) x.kind x.request
    (rows_stand_in_order setup (newer ++ (e ∷ old ++ earlier))) (subst (λ es. Pays setup (world setup es) x.kind x.request) same each.0) in
    let before = more.0 in
    (omega (arith, here, before), more.1)

-- two ways to name the entries that came since are one
same_newer : (xs ys earlier : List Entry) → xs ++ earlier ≡ ys ++ earlier → xs ≡ ys
same_newer xs ys earlier same = append_cancel_right xs ys earlier same

pub paid_is_less : PaidIsLess
paid_is_less setup earlier past history paid = record { stays = stays; falls = falls }
  where
    stays : work_left setup (world setup past) ≤ work_left setup (world setup earlier)
    stays = subst (λ es. work_left setup (world setup es) ≤ work_left setup (world setup earlier)) (sym paid.are) (all_stay setup paid.newer earlier paid.each)

    falls : HasWorth setup earlier past → work_left setup (world setup past) + 1 ≤ work_left setup (world setup earlier)
    falls has =
        let l = has.lasting in
        let e = l.entry in
        let w = world setup (l.older ++ earlier) in
        let whole : IsHistory setup (e ∷ l.older ++ earlier) = older setup l.newer _ (subst (IsHistory setup) l.are history) in
        let lasts : Lasts setup w e.kind e.request = subst (λ r. LastsBetween w (world setup (e ∷ l.older ++ earlier)) r) whole.1 l.lasts in
        let same : paid.newer ≡ l.newer ++ (e ∷ l.older) = same_newer paid.newer (l.newer ++ (e ∷ l.older)) earlier (sym paid.are ∙ (l.are ∙ sym (append_assoc l.newer (e ∷ l.older) earlier))) in
        let p = pays_at setup l.newer e l.older earlier (subst (λ xs. AllPay setup xs earlier) same paid.each) in
        let behind = p.0 in
        let before = p.1.1 in
        let here = p.1.0 lasts in
        let one : worth e.kind e.request ≡ 1 = has.worth_is in
        let less : work_left setup (world setup (l.newer ++ (e ∷ l.older ++ earlier))) + 1 ≤ work_left setup (world setup earlier) = omega (arith, behind, before, here, one) in
        subst (λ es. work_left setup (world setup es) + 1 ≤ work_left setup (world setup earlier)) (sym l.are) less
