-- Lives that have been told nothing, or only what was called for.
use Rattle.std.proofs.Common.{◌≡◌, ℕ, ◌<◌, ◌≤◌, ◌+◌, List, [], ◌∷◌, ◌++◌, true≢false, Some, None, sym, ◌∙◌, ap, subst, append-nil, append_assoc, arith}
use Rattle.std.specs.Bool.{⊤}
use Rattle.kube_objects.specs.declared.key.Key.{Key}
use Rattle.kube_parts.specs.declared.parts.Kind.{Kind}
use Rattle.call_types.specs.declared.entry.Entry.{Entry}
use Rattle.call_types.specs.declared.request.SeatKind.TheVariants as seats
use Rattle.worker_core.specs.declared.role.Role.{Role}
use Rattle.attention_law.specs.Diligence.{Call, IsDueThroughout, entries}
use Rattle.attention_law.specs.Resting.{Brings, IsSilentOnceStale, WasCalledSince, WasToldStale}
use Rattle.attention_law.proofs.Following.{same_head, same_tail}
use Rattle.model_laws.proofs.Lists.{none_some, one}
use Rattle.run_examples.specs.Replay.Calls.{watches}
use Rattle.attention_law.proofs.Resting.{never_empty}

-- the one life of an actor that is never restarted
pub only_life : (seat : ℕ) → 5 ≤ seat → seat < 5 + 1 → 5 ≡ seat
only_life seat low high = omega (arith, low, high)

pub no_binder_is_stale : (mine : List Entry) → WasToldStale seats.Binder mine → ⊥
no_binder_is_stale mine told = let agent : seats.Binder ≡ seats.Agent = told.0 in absurd (cc)

pub silent_binder : (calls : List Call) → IsSilentOnceStale seats.Binder calls
silent_binder [] = tt
silent_binder (call ∷ calls) = (silent_binder calls, no_binder_is_stale (entries calls))

-- ---- which keys are brought

-- each key that is brought here, and was due since, was called for; the calls `newer` came later
abbrev pub AreBrought : Role → List Call → List Call → List Call → Type 0
AreBrought role before newer [] = ⊤
AreBrought role before newer (None ∷ calls) = AreBrought role before (newer ++ None ∷ []) calls
AreBrought role before newer (Some e ∷ calls) =
    ((key : Key) → Brings key e → IsDueThroughout role key (Some e ∷ (calls ++ before)) newer
    → WasCalledSince role key (Some e ∷ (calls ++ before)) newer) × AreBrought role before (newer ++ Some e ∷ []) calls

pub brought_at : (role : Role) (before newer calls : List Call) → AreBrought role before newer calls
    → (key : Key) (e : Entry) (later earlier : List Call) → calls ≡ later ++ (Some e ∷ earlier) → Brings key e
    → IsDueThroughout role key (Some e ∷ (earlier ++ before)) (newer ++ later) → WasCalledSince role key (Some e ∷ (earlier ++ before)) (newer ++ later)
brought_at role before newer [] all key e later earlier at brings due = absurd (never_empty later earlier e at)
brought_at role before newer (None ∷ calls) all key e [] earlier at brings due = none_some (same_head _ _ _ _ at)
brought_at role before newer (None ∷ calls) all key e (c ∷ later) earlier at brings due =
    let joined : (newer ++ None ∷ []) ++ later ≡ newer ++ (c ∷ later) = append_assoc newer (None ∷ []) later ∙ ap (λ d. newer ++ (d ∷ later)) (same_head _ _ _ _ at) in
    subst (WasCalledSince role key (Some e ∷ (earlier ++ before))) joined
    (brought_at role before (newer ++ None ∷ []) calls all key e later earlier (same_tail _ _ _ _ at) brings (subst (IsDueThroughout role key (Some e ∷ (earlier ++ before))) (sym joined) due))
brought_at role before newer (Some x ∷ calls) all key e [] earlier at brings due =
    let same : x ≡ e = one x e (same_head _ _ _ _ at) in
    let rest : calls ≡ earlier = same_tail _ _ _ _ at in
    let start : Some x ∷ (calls ++ before) ≡ Some e ∷ (earlier ++ before) = ap (λ y. Some y ∷ (calls ++ before)) same ∙ ap (λ c. Some e ∷ (c ++ before)) rest in
    subst (λ c. WasCalledSince role key (Some e ∷ (earlier ++ before)) c) (sym (append-nil newer))
    (subst (λ c. WasCalledSince role key c newer) start
    (all.0 key (subst (Brings key) (sym same) brings)
    (subst (λ c. IsDueThroughout role key c newer) (sym start) (subst (λ c. IsDueThroughout role key (Some e ∷ (earlier ++ before)) c) (append-nil newer) due))))
brought_at role before newer (Some x ∷ calls) all key e (c ∷ later) earlier at brings due =
    let joined : (newer ++ Some x ∷ []) ++ later ≡ newer ++ (c ∷ later) = append_assoc newer (Some x ∷ []) later ∙ ap (λ d. newer ++ (d ∷ later)) (same_head _ _ _ _ at) in
    subst (WasCalledSince role key (Some e ∷ (earlier ++ before))) joined
    (brought_at role before (newer ++ Some x ∷ []) calls all.1 key e later earlier (same_tail _ _ _ _ at) brings (subst (IsDueThroughout role key (Some e ∷ (earlier ++ before))) (sym joined) due))

-- a watch without events brings no key
pub watch_brings_none : (kind : Kind) (key : Key) → Brings key (watches kind) → ⊥
watch_brings_none kind key brings = true≢false (sym brings.has)
