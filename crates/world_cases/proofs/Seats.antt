-- A seat's entries so far, and imports that pass after those before them.
use Rattle.std.proofs.Common.{◌≡◌, ◌<◌, ◌+◌, ℕ, suc, List, [], ◌∷◌, ◌++◌, None, length, get_or, take, drop, drop-cons, reverse, refl, sym, ◌∙◌, ap, subst, arith}
use Rattle.std.proofs.lemmas.List.{reverse-append, take_more}
use Rattle.kube_objects.specs.declared.objects.Object.{Object}
use Rattle.binder_model.specs.Imports.{ImportsPass, PassAfter, import_fault}

pub pushed : {X : Type 0} (xs : List X) (x : X) → reverse (xs ++ x ∷ []) ≡ x ∷ reverse xs
pushed xs x = reverse-append xs (x ∷ [])

-- one more of the imports passes
pub pass_more : (imports : List Object) (i : ℕ) (o : Object) → i < length imports → o ≡ get_or imports i o → import_fault (take i imports) o ≡ None
    → (PassAfter (take i imports) (drop i imports) → ImportsPass imports) → PassAfter (take (i + 1) imports) (drop (i + 1) imports) → ImportsPass imports
pass_more imports i o h is passes goes rest =
    let next : suc i ≡ i + 1 = omega arith in
    let front : take (i + 1) imports ≡ take i imports ++ o ∷ [] = take_more imports i o h ∙ ap (λ x. take i imports ++ x ∷ []) (sym is) in
    let back : drop i imports ≡ o ∷ drop (i + 1) imports = drop-cons imports i o h ∙ ap (λ x. x ∷ drop (suc i) imports) (sym is) ∙ ap (λ n. o ∷ drop n imports) next in
    goes (subst (PassAfter (take i imports)) (sym back) (passes, subst (λ b. PassAfter b (drop (i + 1) imports)) front rest))
