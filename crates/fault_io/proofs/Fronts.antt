-- What pieces that were taken or written one after another make together.
use Rattle.std.proofs.Common.{
  ◌≡◌,
  ℕ,
  ◌+◌,
  ◌-◌,
  ◌<◌,
  ◌≤◌,
  List,
  [],
  ◌++◌,
  length,
  take,
  drop,
  Some,
  None,
  refl,
  sym,
  ◌∙◌,
  ap,
  subst,
  arith,
  append_assoc,
  append-nil,
  length-append,
  take_all,
  length-drop,
  take-append-drop,
}
use Rattle.std.specs.declared.option.Option.{Option}
use Rattle.std.proofs.Math.Seq.{take-add, take-append-add}
use Rattle.std.proofs.lemmas.List.{drop-drop, take-append-le, length-take-le, take-take}
use Rattle.fault_io.specs.Reading.{Takes, IsLeft, IsLongerThan, TakesFront, TakesPast}
use Rattle.fault_io.specs.Writing.{Appends, WritesFront}

-- ---- reading

pub takes_none : (a : Option (List ℕ)) → Takes a a []
takes_none None = tt
takes_none (Some xs) = refl

pub takes_more : (a b c : Option (List ℕ)) (xs ys : List ℕ) → Takes a b xs → Takes b c ys → Takes a c (xs ++ ys)
takes_more None None None xs ys p q = tt
takes_more None None (Some z) xs ys p q = absurd q
takes_more None (Some y) c xs ys p q = absurd p
takes_more (Some x) None c xs ys p q = absurd p
takes_more (Some x) (Some y) None xs ys p q = absurd q
takes_more (Some x) (Some y) (Some z) xs ys p q = p ∙ ap (λ l. xs ++ l) q ∙ sym (append_assoc xs ys z)

pub takes_front : (a b c : Option (List ℕ)) (xs ys : List ℕ) → Takes a b xs → Takes b c ys → TakesFront a c
takes_front a b c xs ys p q = record { front = xs ++ ys; taken = takes_more a b c xs ys p q }

-- what was taken up to the end is all
pub takes_all : (a b : Option (List ℕ)) (xs : List ℕ) → Takes a b xs → IsLeft b [] → IsLeft a xs
takes_all None b xs p q = tt
takes_all (Some x) None xs p q = absurd p
takes_all (Some x) (Some y) xs p q = p ∙ ap (λ l. xs ++ l) q ∙ append-nil xs

-- where more was taken, more was left
pub takes_longer : (a b : Option (List ℕ)) (xs : List ℕ) (most : ℕ) → Takes a b xs → most < length xs → IsLongerThan most a
takes_longer None b xs most p q = tt
takes_longer (Some x) None xs most p q = absurd p
takes_longer (Some x) (Some y) xs most p q = omega (arith, ap length p, length-append xs y, q)

-- where more was taken, a front past the limit was
pub takes_past : (a b : Option (List ℕ)) (xs : List ℕ) (most : ℕ) → Takes a b xs → most < length xs → TakesPast most a b
takes_past a b xs most taken past = record { front = xs; taken = taken; past = past }

-- ---- writing

pub appends_none : (a : Option (List ℕ)) → Appends a a []
appends_none None = tt
appends_none (Some xs) = sym (append-nil xs)

pub appends_more : (a b c : Option (List ℕ)) (xs ys : List ℕ) → Appends a b xs → Appends b c ys → Appends a c (xs ++ ys)
appends_more None None None xs ys p q = tt
appends_more None None (Some z) xs ys p q = absurd q
appends_more None (Some y) c xs ys p q = absurd p
appends_more (Some x) None c xs ys p q = absurd p
appends_more (Some x) (Some y) None xs ys p q = absurd q
appends_more (Some x) (Some y) (Some z) xs ys p q = q ∙ ap (λ l. l ++ ys) p ∙ append_assoc x xs ys

-- all of some bytes, and then a front of more, is a front of both
pub front_after : (a b c : Option (List ℕ)) (xs ys : List ℕ) → Appends a b xs → WritesFront b c ys → WritesFront a c (xs ++ ys)
front_after a b c xs ys p q =
    let n = length xs + q.count in
    record {
      count = n;
      within = omega (arith, length-append xs ys, q.within);
      appended = subst (Appends a c) (sym (take-append-add xs ys q.count)) (appends_more a b c xs (take q.count ys) p q.appended);
    }

-- a front of some bytes is a front of those and more
pub front_longer : (a b : Option (List ℕ)) (xs ys : List ℕ) → WritesFront a b xs → WritesFront a b (xs ++ ys)
front_longer a b xs ys q = record {
  count = q.count;
  within = omega (arith, length-append xs ys, q.within);
  appended = subst (Appends a b) (sym (take-append-le q.count xs ys (omega (arith, q.within)))) q.appended;
}

-- the slice from a place on
rest_slice : (xs : List ℕ) (at : ℕ) → take (length xs - at) (drop at xs) ≡ drop at xs
rest_slice xs at = take_all (length xs - at) (drop at xs) (omega (arith, length-drop at xs))

-- a front, and then a front of the rest
pub appends_rest : (a b c : Option (List ℕ)) (xs : List ℕ) (at n : ℕ) → Appends a b (take at xs) → Appends b c (take n (take (length xs - at) (drop at xs))) → Appends a c (take (at + n) xs)
appends_rest a b c xs at n p q =
    let rest = subst (λ ys. Appends b c (take n ys)) (rest_slice xs at) q in
    subst (Appends a c) (sym (take-add at n xs)) (appends_more a b c (take at xs) (take n (drop at xs)) p rest)

pub rest_length : (xs : List ℕ) (at n : ℕ) → n ≤ length (take (length xs - at) (drop at xs)) → at ≤ length xs → at + n ≤ length xs
rest_length xs at n le within = omega (arith, ap length (rest_slice xs at), length-drop at xs)

-- a front of what is left is taken, and the rest stays
pub front_taken : (bytes piece buf : List ℕ) (at n : ℕ) → at + n ≤ length bytes → piece ≡ take (at + n - at) (drop at bytes) → drop at bytes ≡ take n (piece ++ drop n buf) ++ drop (at + n) bytes
front_taken bytes piece buf at n le is =
    let same : at + n - at ≡ n = omega arith in
    let piece_is : piece ≡ take n (drop at bytes) = is ∙ ap (λ k. take k (drop at bytes)) same in
    let room : n ≤ length (drop at bytes) = omega (arith, length-drop at bytes) in
    let long : n ≤ length piece = omega (arith, ap length piece_is, length-take-le n (drop at bytes) room) in
    let front : take n (piece ++ drop n buf) ≡ take n (drop at bytes) = take-append-le n piece (drop n buf) long ∙ ap (take n) piece_is ∙ take-take n n (drop at bytes) (omega arith) in
    sym (ap (λ ys. ys ++ drop (at + n) bytes) front ∙ ap (λ ys. take n (drop at bytes) ++ ys) (sym (drop-drop n at bytes)) ∙ take-append-drop n (drop at bytes))
