-- Agents that were told that their epoch is stale, and what they remember.
use Rattle.std.proofs.Common.{◌≡◌, ◌⊎◌, ℕ, List, [], ◌∷◌, Bool, true, false, true≢false, inl, inr, refl, sym, ◌∙◌, ap, subst, if◌then◌else◌}
use Rattle.std.specs.Prelude.{◌||◌}
use Rattle.call_types.specs.declared.entry.Entry.{Entry}
use Rattle.call_types.specs.declared.request.SeatKind.{SeatKind}
use Rattle.call_types.specs.declared.request.SeatKind.TheVariants as seats
use Rattle.binder_model.specs.Told.{SomeOf}
use Rattle.worker_core.specs.declared.role.Role.{Role}
use Rattle.worker_core.specs.Memories.{Memory, agent_remembers, is_stale_told, memory_after, memory_of, remembers}
use Rattle.worker_core.specs.Roles.{IsBuiltKind}
use Rattle.worker_core.specs.States.{ActorState}
use Rattle.attention_law.specs.Diligence.{Call, entries}
use Rattle.attention_law.specs.Played.{Begins, IsPlayed, LostAfter, LostBefore, Told, Wakes}
use Rattle.attention_law.specs.Resting.{IsSilentOnceStale, PlayedIsSilent, TellsStale, WasToldStale}
use Rattle.attention_law.proofs.Following.{remembered}
use Rattle.attention_law.proofs.Turned.{calls_fresh}

-- what makes a memory stale: it was so before, or an agent was told
newly_stale : (kind : SeatKind) (node : List ℕ) (e : Entry) (m : Memory) → IsBuiltKind kind → (remembers kind node e.request e.reply m).stale ≡ true
    → (m.stale ≡ true) ⊎ ((kind ≡ seats.Agent) × (is_stale_told e.reply ≡ true))
newly_stale seats.Binder node e m built stale = inl stale
newly_stale seats.ClaimProtect node e m built stale = inl stale
newly_stale seats.VolumeProtect node e m built stale = inl stale
newly_stale seats.User node e m built stale = absurd built
newly_stale seats.Ops node e m built stale = inl stale
newly_stale seats.Scheduler node e m built stale = inl stale
newly_stale seats.Agent node e m built stale = by m.stale (is_stale_told e.reply) stale
  where
    by : (before told : Bool) → (before || told) ≡ true → (before ≡ true) ⊎ ((seats.Agent ≡ seats.Agent) × (told ≡ true))
    by true told is = inl refl
    by false true is = inr (refl, refl)
    by false false is = absurd (true≢false (sym is))

-- an actor whose epoch is stale is an agent that was told so
pub told_stale : (role : Role) (mine : List Entry) → IsBuiltKind role.kind → (memory_of role mine).stale ≡ true → WasToldStale role.kind mine
told_stale role [] built stale = absurd (true≢false (sym stale))
told_stale role (e ∷ mine) built stale = by e.told refl stale (told_stale role mine built)
  where
    before : ((memory_of role mine).stale ≡ true → WasToldStale role.kind mine) → (memory_of role mine).stale ≡ true → WasToldStale role.kind (e ∷ mine)
    before rest is = let told = rest is in (told.0, inr told.1)

    by : (told : Bool) → e.told ≡ told → (if told then memory_after role e.request e.reply (memory_of role mine) else memory_of role mine).stale ≡
        true → ((memory_of role mine).stale ≡ true → WasToldStale role.kind mine) → WasToldStale role.kind (e ∷ mine)
    by true is stale rest = elim (newly_stale role.kind role.node e (memory_of role mine) built stale) [ inl was ↦ before rest was | inr told ↦ (told.0, inl (is, told.1)) ]
    by false is stale rest = before rest stale

-- and an agent that was told so has a stale epoch
agent_stale : (node : List ℕ) (mine : List Entry) → SomeOf TellsStale mine → (memory_of (record { kind = seats.Agent; node = node }) mine).stale ≡ true
agent_stale node [] some = absurd some
agent_stale node (e ∷ mine) some = by e.told refl some (agent_stale node mine)
  where
    before : Memory
    before = memory_of (record { kind = seats.Agent; node = node }) mine

    or_true : (b : Bool) → (b || true) ≡ true
    or_true true = refl
    or_true false = refl

    by : (told : Bool) → e.told ≡ told → TellsStale e ⊎ SomeOf TellsStale mine → (SomeOf TellsStale mine → before.stale ≡ true)
        → (if told then agent_remembers node e.request e.reply before else before).stale ≡ true
    by true is (inl tells) rest = ap (λ b. before.stale || b) tells.1 ∙ or_true before.stale
    by true is (inr earlier) rest = ap (λ b. b || is_stale_told e.reply) (rest earlier)
    by false is (inl tells) rest = absurd (true≢false (sym tells.0 ∙ is))
    by false is (inr earlier) rest = rest earlier

pub stale_told : (role : Role) (mine : List Entry) → WasToldStale role.kind mine → (memory_of role mine).stale ≡ true
stale_told role mine told = subst (λ k. (memory_of (record { kind = k; node = role.node }) mine).stale ≡ true) (sym told.0) (agent_stale role.node mine told.1)

-- no call of an agent comes after it was told so
fresh_calls : (role : Role) (s : ActorState) (calls : List Call) → IsPlayed role s calls → s.memory.stale ≡ false → WasToldStale role.kind (entries calls) → ⊥
fresh_calls role s calls played fresh told = true≢false (sym (stale_told role (entries calls) told) ∙ sym (ap (λ (m : Memory). m.stale) (remembered role s calls played)) ∙ fresh)

pub played_is_silent : PlayedIsSilent
played_is_silent role s calls (Begins none new stands) = subst (IsSilentOnceStale role.kind) (sym none) tt
played_is_silent role s calls (Told old before e request reply played is told gives stands) =
    subst (IsSilentOnceStale role.kind) (sym is) (played_is_silent role old before played, fresh_calls role old before played (calls_fresh old gives.turned request gives.turns.turn))
played_is_silent role s calls (LostBefore old before request played is gives stands) =
    subst (IsSilentOnceStale role.kind) (sym is) (played_is_silent role old before played, fresh_calls role old before played (calls_fresh old gives.turned request gives.turns.turn))
played_is_silent role s calls (LostAfter old before e request played is lost own gives stands) =
    subst (IsSilentOnceStale role.kind) (sym is) (played_is_silent role old before played, fresh_calls role old before played (calls_fresh old gives.turned request gives.turns.turn))
played_is_silent role s calls (Wakes old turned played turns wakes stands) = played_is_silent role old calls played
