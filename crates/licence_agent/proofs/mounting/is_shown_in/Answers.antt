use Rattle.std.proofs.Common.{◌≡◌, ◌+◌, ◌∷◌, ◌++◌, [], take, drop, reverse, refl, sym, ◌∙◌, ap, subst, true≢false, arith}
use Rattle.binder_model.specs.Told.{IsPodWith, TellsObject}
use Rattle.licence_scans.proofs.Fronts.{cut_at, newer}
use Rattle.model_laws.proofs.Evidence.{newest_first}
use Rattle.licence_agent.specs.Mounting.{IsFirstReady, IsShownIn}
use Rattle.licence_agent.proofs.Shown.{none_shown, shown_at}
use Rattle.licence_agent.proofs.mounting.is_shown_in.Goals as goal

pub returns-then-is_shown_first : goal.returns-then-is_shown_first
returns-then-is_shown_first c =
    let a = c.args in
    let mine = reverse a.mine.now in
    let i = c.loop-place.place in
    let e = c.index-listed-place.result in
    let recent = reverse (drop (i + 1) a.listed.now) in
    let older = reverse (take i a.listed.now) in
    let told : TellsObject (IsPodWith (IsFirstReady mine recent older a.node.now a.uid a.claims.now)) e = c.if-is_shown_first.ensures.0 refl in
    let cut : reverse a.listed.now ≡ recent ++ e ∷ older = cut_at a.listed.now i e c.loop-place-test.true ∙ ap (λ x. recent ++ x ∷ older) (sym c.index-listed-place.is) in
    ((λ _. subst (IsShownIn mine a.node.now a.uid a.claims.now []) (sym cut) (shown_at mine a.node.now a.uid a.claims.now recent older e told)), (λ _. refl))

pub loop-place-preserved : goal.loop-place-preserved
loop-place-preserved c =
    let a = c.args in
    let mine = reverse a.mine.now in
    let i = c.loop-place.place in
    let e = c.index-listed-place.result in
    let recent = reverse (drop (i + 1) a.listed.now) in
    let older = reverse (take i a.listed.now) in
    let next : reverse (take (i + 1) a.listed.now) ≡ e ∷ older = newest_first a.listed.now i e c.loop-place-test.true ∙ ap (λ x. x ∷ older) (sym c.index-listed-place.is) in
    let goes : reverse (drop i a.listed.now) ≡ recent ++ e ∷ [] = newer a.listed.now i (i + 1) e c.loop-place-test.true refl ∙ ap (λ x. recent ++ x ∷ []) (sym c.index-listed-place.is) in
    let none : IsShownIn mine a.node.now a.uid a.claims.now (recent ++ e ∷ []) older → ⊥ =
    λ h. c.loop-place.invariant.none (subst (λ r. IsShownIn mine a.node.now a.uid a.claims.now r older) (sym goes) h) in
    let not : TellsObject (IsPodWith (IsFirstReady mine recent older a.node.now a.uid a.claims.now)) e → ⊥ =
    λ told. absurd (true≢false (sym (c.if-is_shown_first.ensures.1 told))) in
    record {
      within = omega (arith, c.loop-place-test.true);
      none = λ h. none_shown mine a.node.now a.uid a.claims.now recent older e none not (subst (IsShownIn mine a.node.now a.uid a.claims.now recent) next h);
    }
