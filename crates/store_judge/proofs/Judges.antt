-- What one entry more is found to break.
use Rattle.std.proofs.Common.{◌≡◌, ℕ, ◌+◌, ◌<◌, ◌≤◌, ◌==◌, ◌↔◌, Bool, true, false, List, [], ◌∷◌, ◌++◌, Option, Ok, Err, Result, MatchResult, reverse, take, length, get_or}
use Rattle.std.proofs.Common.{refl, ap, sym, ◌∙◌, subst, if◌then◌else◌, take_all, arith}
use Rattle.std.proofs.lemmas.Bool.{iff_false}
use Rattle.std.proofs.lemmas.List.{length-reverse, length-take-le}
use Rattle.kube_parts.specs.declared.names.LicenceRule.{LicenceRule}
use Rattle.call_types.specs.declared.entry.Entry.{Entry}
use Rattle.call_types.specs.declared.reply.Reply.{Reply}
use Rattle.call_types.specs.declared.setup.Setup.{Setup}
use Rattle.binder_model.specs.World.{World, world, world_after, effect, reply_to}
use Rattle.binder_model.specs.Licence.{IsRefusedBy, Licensed}
use Rattle.model_laws.proofs.Evidence.{newest_first}
use Rattle.world_core.specs.Kept.{reply_in}
use Rattle.audit_check.specs.Verdicts.{HasItsAnswer}
use Rattle.audit_check.specs.Steps.Noted.{IsNoted, noted}
use Rattle.store_judge.specs.declared.faults.EntryFault.{EntryFault}
use Rattle.store_judge.specs.declared.faults.Judged.{Judged}
use Rattle.store_judge.specs.declared.judging.Judge.{Judge}
use Rattle.store_judge.specs.Faults.{BreaksRules, FaultsIn, WasAllowed, WasRefused, at_entry}
use Rattle.store_judge.specs.Steps.Judged.{AskAlike, JudgeStands, JudgesEntry, refusing, rules_in}

-- replies and seats do not move a world
same_world : (setup : Setup) (p q : List Entry) → AskAlike p q → world setup p ≡ world setup q
same_world setup [] [] alike = refl
same_world setup [] (f ∷ q) alike = absurd alike
same_world setup (e ∷ p) [] alike = absurd alike
same_world setup (e ∷ p) (f ∷ q) alike =
    let before : world setup p ≡ world setup q = same_world setup p q alike.2 in
    λ i. world_after (before i) (effect setup (before i) (alike.0 i) (alike.1 i))

-- what the judge's world answers is the answer of the entries before
answer_is : (old : Judge) (setup : Setup) (past : List Entry) (e : Entry) → JudgeStands old setup past
    → reply_in old.world e.kind e.request ≡ reply_to (effect setup (world setup past) e.kind e.request)
answer_is old setup past e stands =
    (λ i. reply_to (effect (stands.begun i) (world (stands.begun i) old.world.past) e.kind e.request))
    ∙ ap (λ (w : World). reply_to (effect setup w e.kind e.request)) (same_world setup old.world.past past stands.alike)

breaks : (old : Judge) (e : Entry) (reply : Reply) (answered : Bool) (allowed : Result Unit LicenceRule)
    → ((answered ≡ true) ↔ (reply ≡ e.reply))
    → MatchResult allowed (λ _. Licensed e.kind (noted old.seats e.seat) e.request) (IsRefusedBy e.kind (noted old.seats e.seat) e.request)
    → reply ≡ reply_in old.world e.kind e.request
    → (setup : Setup) (past : List Entry) → JudgeStands old setup past
    → BreaksRules setup past e (rules_in (record { answered = answered; refused = refusing allowed }))
breaks old e reply true (Ok u) same may is setup past stands =
    let right : HasItsAnswer setup past e = sym (same.0 refl) ∙ is ∙ answer_is old setup past e stands in
    let allowed : WasAllowed past e = subst (λ (mine : List Entry). Licensed e.kind mine e.request) (stands.owned e.seat) may in
    (right, allowed)
breaks old e reply true (Err rule) same may is setup past stands =
    let right : HasItsAnswer setup past e = sym (same.0 refl) ∙ is ∙ answer_is old setup past e stands in
    let refused : WasRefused past e rule = subst (λ (mine : List Entry). IsRefusedBy e.kind mine e.request rule) (stands.owned e.seat) may in
    (right, refused)
breaks old e reply false (Ok u) same may is setup past stands =
    let wrong : HasItsAnswer setup past e → ⊥ = λ h. iff_false same refl (is ∙ answer_is old setup past e stands ∙ sym h) in
    let allowed : WasAllowed past e = subst (λ (mine : List Entry). Licensed e.kind mine e.request) (stands.owned e.seat) may in
    (wrong, allowed)
breaks old e reply false (Err rule) same may is setup past stands =
    let wrong : HasItsAnswer setup past e → ⊥ = λ h. iff_false same refl (is ∙ answer_is old setup past e stands ∙ sym h) in
    let refused : WasRefused past e rule = subst (λ (mine : List Entry). IsRefusedBy e.kind mine e.request rule) (stands.owned e.seat) may in
    (wrong, refused)

pub judges : (old new : Judge) (e : Entry) (reply : Reply) (answered : Bool) (allowed : Result Unit LicenceRule) (refused : Option LicenceRule)
    → ((answered ≡ true) ↔ (reply ≡ e.reply))
    → MatchResult allowed (λ _. Licensed e.kind (noted old.seats e.seat) e.request) (IsRefusedBy e.kind (noted old.seats e.seat) e.request)
    → reply ≡ reply_in old.world e.kind e.request
    → refused ≡ refusing allowed
    → new.world.setup ≡ old.world.setup
    → new.world.past ≡ (record { seat = e.seat; kind = e.kind; request = e.request; reply = reply; told = e.told }) ∷ old.world.past
    → IsNoted old.seats new.seats e
    → (setup : Setup) (past : List Entry) → JudgeStands old setup past → JudgesEntry new setup past e (record { answered = answered; refused = refused })
judges old new e reply answered allowed refused same may is gives kept put is_noted setup past stands = record {
  stands = record {
    begun = kept ∙ stands.begun;
    alike = subst (λ (asked : List Entry). AskAlike asked (e ∷ past)) (sym put) (refl, refl, stands.alike);
    owned = λ seat. is_noted seat ∙ ap (λ (xs : List Entry). if e.seat == seat then e ∷ xs else xs) (stands.owned seat);
  };
  breaks =
      subst (λ (o : Option LicenceRule). BreaksRules setup past e (rules_in (record { answered = answered; refused = o }))) (sym gives)
      (breaks old e reply answered allowed same may is setup past stands);
}

-- ---- entries in their order

pub next_stands : (j : Judge) (setup : Setup) (xs : List Entry) (i : ℕ) (d : Entry) → i < length xs
    → JudgeStands j setup (get_or xs i d ∷ reverse (take i xs)) → JudgeStands j setup (reverse (take (i + 1) xs))
next_stands j setup xs i d h stands = subst (λ (past : List Entry). JudgeStands j setup past) (sym (newest_first xs i d h)) stands

pub next_faults : (setup : Setup) (xs : List Entry) (i : ℕ) (d : Entry) (earlier faults : List EntryFault) (judged : Judged) → i < length xs
    → FaultsIn setup (reverse (take i xs)) earlier → BreaksRules setup (reverse (take i xs)) (get_or xs i d) (rules_in judged)
    → faults ≡ earlier ++ at_entry (i + 1) (rules_in judged) → FaultsIn setup (reverse (take (i + 1) xs)) faults
next_faults setup xs i d earlier faults judged h found broken is =
    let within : i ≤ length xs = omega (arith, h) in
    let long : length (reverse (take i xs)) ≡ i = length-reverse (take i xs) ∙ length-take-le i xs within in
    let placed : faults ≡ earlier ++ at_entry (length (reverse (take i xs)) + 1) (rules_in judged) =
    is ∙ ap (λ (n : ℕ). earlier ++ at_entry (n + 1) (rules_in judged)) (sym long) in
    subst (λ (past : List Entry). FaultsIn setup past faults) (sym (newest_first xs i d h)) (earlier, rules_in judged, found, broken, placed)

pub all_faults : (setup : Setup) (xs : List Entry) (i : ℕ) (faults : List EntryFault) → length xs ≤ i → FaultsIn setup (reverse (take i xs)) faults → FaultsIn setup (reverse xs) faults
all_faults setup xs i faults h found = subst (λ (ys : List Entry). FaultsIn setup (reverse ys) faults) (take_all i xs h) found
