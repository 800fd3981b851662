-- A life is diligent where the fourth watch of a kind comes right after a call that the rules give for each key that is due.
use Rattle.std.proofs.Common.{◌≡◌, ◌+◌, ◌≤◌, List, [], ◌∷◌, ◌++◌, Bool, true, false, Option, Some, None, inl, sym, ◌∙◌, ap, subst, arith, if◌then◌else◌}
use Rattle.kube_objects.specs.declared.key.Key.{Key}
use Rattle.kube_parts.specs.declared.parts.Kind.{Kind}
use Rattle.call_types.specs.declared.entry.Entry.{Entry}
use Rattle.model_laws.proofs.Lists.{one}
use Rattle.worker_core.specs.declared.role.Role.{Role}
use Rattle.attention_law.specs.Diligence.{AreFourWatches, Call, IsAskedFor, IsDiligent, IsKeyDue, IsDueThroughout, WasAskedSince, entries, watches, watches_kind}
use Rattle.attention_law.proofs.Following.{due_now}

-- four watches are four of the calls

sum_watches : (kind : Kind) (xs ys : List Call) → watches kind (xs ++ ys) ≡ watches kind xs + watches kind ys
sum_watches kind [] ys = omega arith
sum_watches kind (None ∷ xs) ys = sum_watches kind xs ys
sum_watches kind (Some e ∷ xs) ys = by (watches_kind kind e.request) (sum_watches kind xs ys)
  where
    by : (b : Bool) → watches kind (xs ++ ys) ≡ watches kind xs + watches kind ys
        → (if b then watches kind (xs ++ ys) + 1 else watches kind (xs ++ ys)) ≡ (if b then watches kind xs + 1 else watches kind xs) + watches kind ys
    by true h = omega (arith, h)
    by false h = h

one_more : (kind : Kind) (e : Entry) (calls : List Call) → watches_kind kind e.request ≡ true → watches kind (Some e ∷ calls) ≡ watches kind calls + 1
one_more kind e calls is = ap (λ b. if b then watches kind calls + 1 else watches kind calls) is

four_of : (kind : Kind) (first fourth : Entry) (earlier between later calls : List Call)
    → calls ≡ later ++ (Some fourth ∷ between ++ Some first ∷ earlier) → AreFourWatches kind first fourth between → 4 ≤ watches kind calls
four_of kind first fourth earlier between later calls e four =
    let all = ap (watches kind) e ∙ sum_watches kind later (Some fourth ∷ between ++ Some first ∷ earlier) in
    let last = one_more kind fourth (between ++ Some first ∷ earlier) four.closes in
    let middle = sum_watches kind between (Some first ∷ earlier) in
    let opening = one_more kind first earlier four.opens in
    let many = four.many in
    omega (arith, all, last, middle, opening, many)

abbrev pub head_in : List Call → Option Call
head_in [] = None
head_in (c ∷ calls) = Some c

abbrev pub tail_in : List Call → List Call
tail_in [] = []
tail_in (c ∷ calls) = calls

-- before the last call the read came, and before the read each kind was watched three times at most
module _ (role : Role) (last read : Entry) (before : List Call) (few : (kind : Kind) → watches kind (Some read ∷ before) ≤ 3)
    (asks : (key : Key) → IsKeyDue role key (entries before) → IsAskedFor role key (entries before) read.request) where
  module _ (key : Key) (first : Entry) (earlier : List Call) where
    abbrev start : List Call
    start = Some first ∷ earlier

    asked_by_read : (e : Entry) (between : List Call) → Some read ∷ before ≡ Some e ∷ between ++ start → IsDueThroughout role key start between
        → IsAskedFor role key (entries (between ++ start)) e.request
    asked_by_read e between split due =
        let rest : before ≡ between ++ start = ap tail_in split in
        let same : read ≡ e = one read e (one (Some read) (Some e) (ap head_in split)) in
        let here : IsKeyDue role key (entries before) = subst (λ calls. IsKeyDue role key (entries calls)) (sym rest) (due_now role key start between due) in
        subst (λ (x : Entry). IsAskedFor role key (entries (between ++ start)) x.request) same (subst (λ calls. IsAskedFor role key (entries calls) read.request) rest (asks key here))

    asked_since : (kind : Kind) (fourth : Entry) (between : List Call) → Some read ∷ before ≡ between ++ start
        → AreFourWatches kind first fourth between → IsDueThroughout role key start between → WasAskedSince role key start between
    asked_since kind fourth [] split four due = let many : 2 ≤ 0 = four.many in absurd (omega (arith, many))
    asked_since kind fourth (None ∷ between) split four due = absurd four.quiet.1
    asked_since kind fourth (Some e ∷ between) split four due = inl (asked_by_read e between split due.1)

  pub read_in_time : IsDiligent role (Some last ∷ Some read ∷ before)
  read_in_time kind first fourth earlier between [] e four key due = asked_since key first earlier kind fourth between (ap tail_in e) four due
  read_in_time kind first fourth earlier between (c ∷ later) e four key due =
      let four_there = four_of kind first fourth earlier between later (Some read ∷ before) (ap tail_in e) four in
      let three = few kind in
      absurd (omega (arith, four_there, three))
