-- What was put to a sink through a buffer, one thing after another.
use Rattle.std.proofs.Common.{◌≡◌, ℕ, ◌≤◌, List, [], ◌++◌, length, take, drop, refl, sym, ap, ◌∙◌, subst, append_assoc, append-nil, Ok, Err, IfOk, OnErr}
use Rattle.std.specs.declared.result.Result.{Result}
use Rattle.std.specs.declared.option.Option.{Option}
use Rattle.fault_io.specs.Writing.{Appends, WritesFront}
use Rattle.fault_io.proofs.Fronts.{appends_none, appends_more, front_after, front_longer}
use Rattle.piece_print.specs.Writing.{Passes}

pub on_any : {T E : Type 0} {Q : Type 0} (r : Result T E) → Q → OnErr r Q
on_any (Ok x) q = tt
on_any (Err e) q = q

pub on_err : {T E : Type 0} {P Q : Type 0} (r : Result T E) → (P → Q) → OnErr r P → OnErr r Q
on_err (Ok x) f h = tt
on_err (Err e) f h = f h

pub if_ok : {T E : Type 0} {P Q : T → Type 0} (r : Result T E) → ((x : T) → P x → Q x) → IfOk r P → IfOk r Q
if_ok (Ok x) f h = f x h
if_ok (Err e) f h = tt

-- all stays in the buffer
pub kept_only : (a : Option (List ℕ)) (held holds bytes : List ℕ) → holds ≡ held ++ bytes → Passes a a held holds bytes
kept_only a held holds bytes is = record { passed = []; appended = appends_none a; kept = is }

-- what the buffer held was written, and the bytes stay there
pub kept_after : (a b : Option (List ℕ)) (held holds bytes : List ℕ) → Appends a b held → holds ≡ bytes → Passes a b held holds bytes
kept_after a b held holds bytes p is = record { passed = held; appended = p; kept = ap (λ x. held ++ x) is }

-- both were written
pub passed_all : (a b c : Option (List ℕ)) (held bytes : List ℕ) → Appends a b held → Appends b c bytes → Passes a c held [] bytes
passed_all a b c held bytes p q = record { passed = held ++ bytes; appended = appends_more a b c held bytes p q; kept = append-nil (held ++ bytes) }

pub passes_more : (a b c : Option (List ℕ)) (k l m xs ys : List ℕ) → Passes a b k l xs → Passes b c l m ys → Passes a c k m (xs ++ ys)
passes_more a b c k l m xs ys p q = record {
  passed = p.passed ++ q.passed;
  appended = appends_more a b c p.passed q.passed p.appended q.appended;
  kept = append_assoc p.passed q.passed m ∙ ap (λ z. p.passed ++ z) q.kept ∙ sym (append_assoc p.passed l ys) ∙ ap (λ z. z ++ ys) p.kept ∙ append_assoc k xs ys;
}

-- a front of what the buffer holds and of what comes then
pub front_more : (a b c : Option (List ℕ)) (k l xs ys : List ℕ) → Passes a b k l xs → WritesFront b c (l ++ ys) → WritesFront a c (k ++ (xs ++ ys))
front_more a b c k l xs ys p q =
    subst (WritesFront a c) (sym (append_assoc p.passed l ys) ∙ ap (λ z. z ++ ys) p.kept ∙ append_assoc k xs ys) (front_after a b c p.passed (l ++ ys) p.appended q)

pub front_longer_held : (a b : Option (List ℕ)) (k xs ys : List ℕ) → WritesFront a b (k ++ xs) → WritesFront a b (k ++ (xs ++ ys))
front_longer_held a b k xs ys q = subst (WritesFront a b) (append_assoc k xs ys) (front_longer a b (k ++ xs) ys q)

pub front_more_first : (a b c : Option (List ℕ)) (l xs ys : List ℕ) → Passes a b [] l xs → WritesFront b c (l ++ ys) → WritesFront a c (xs ++ ys)
front_more_first a b c l xs ys p q = front_more a b c [] l xs ys p q

-- what the buffer holds is written in the end, or a front of it

pub passed_on : (a b c : Option (List ℕ)) (m xs : List ℕ) → Passes a b [] m xs → Appends b c m → Appends a c xs
passed_on a b c m xs p q = subst (Appends a c) p.kept (appends_more a b c p.passed m p.appended q)

pub front_passed : (a b c : Option (List ℕ)) (m xs : List ℕ) → Passes a b [] m xs → WritesFront b c m → WritesFront a c xs
front_passed a b c m xs p q = subst (WritesFront a c) p.kept (front_after a b c p.passed m p.appended q)

-- ---- a text that is put piece by piece

-- a front of the whole was put, and the rest is left
pub record PassesFront (old new : Option (List ℕ)) (holds rest text : List ℕ) : Type 0 where
  pub done : List ℕ
  pub put : Passes old new [] holds done
  pub left : done ++ rest ≡ text

pub put_none : (a : Option (List ℕ)) (text : List ℕ) → PassesFront a a [] text text
put_none a text = record { done = []; put = kept_only a [] [] [] refl; left = refl }

pub put_next : (a b c : Option (List ℕ)) (k m xs rest left text : List ℕ) → PassesFront a b k rest text → rest ≡ xs ++ left → Passes b c k m xs → PassesFront a c m left text
put_next a b c k m xs rest left text p is q = record {
  done = p.done ++ xs;
  put = passes_more a b c [] k m p.done xs p.put q;
  left = append_assoc p.done xs left ∙ ap (λ z. p.done ++ z) (sym is) ∙ p.left;
}

pub put_cut : (a b c : Option (List ℕ)) (k xs rest left text : List ℕ) → PassesFront a b k rest text → rest ≡ xs ++ left → WritesFront b c (k ++ xs) → WritesFront a c text
put_cut a b c k xs rest left text p is q =
    let whole : (p.done ++ xs) ++ left ≡ text = append_assoc p.done xs left ∙ ap (λ z. p.done ++ z) (sym is) ∙ p.left in
    subst (WritesFront a c) whole (front_longer a c (p.done ++ xs) left (front_more a b c [] k p.done xs p.put q))

pub put_last : (a b c : Option (List ℕ)) (k m xs rest text : List ℕ) → PassesFront a b k rest text → xs ≡ rest → Passes b c k m xs → Passes a c [] m text
put_last a b c k m xs rest text p is q =
    subst (Passes a c [] m) (ap (λ z. p.done ++ z) is ∙ p.left) (passes_more a b c [] k m p.done xs p.put q)

pub put_last_cut : (a b c : Option (List ℕ)) (k xs rest text : List ℕ) → PassesFront a b k rest text → xs ≡ rest → WritesFront b c (k ++ xs) → WritesFront a c text
put_last_cut a b c k xs rest text p is q =
    subst (WritesFront a c) (ap (λ z. p.done ++ z) is ∙ p.left) (front_more a b c [] k p.done xs p.put q)
