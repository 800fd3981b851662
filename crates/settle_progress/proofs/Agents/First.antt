-- Of the agents of a node in a round, the first that may still take it, or the one that is at hand. Those before it take the node no more.
use Rattle.std.proofs.Common.{◌≡◌, ◌≢◌, ◌∙◌, ◌⊎◌, ℕ, zero, suc, ◌<◌, List, [], ◌∷◌, Bool, true, false, true≢false, Option, Some, None, inl, inr, refl, sym, ap, subst, arith}
use Rattle.std.specs.Prelude.{bytes_eq, is_some, slice_get}
use Rattle.std.proofs.lemmas.Slice.Eq.{bytes_eq-Decides}
use Rattle.call_types.specs.declared.entry.Entry.{Entry}
use Rattle.call_types.specs.declared.request.SeatKind.{SeatKind}
use Rattle.call_types.specs.declared.request.SeatKind.TheVariants as seats
use Rattle.call_types.specs.declared.setup.Setup.{Setup}
use Rattle.binder_model.specs.AgentLicence.{last_epoch}
use Rattle.binder_model.specs.Told.{own}
use Rattle.model_laws.proofs.Lists.{none_some, one}
use Rattle.worker_core.specs.declared.role.Role.{Role}
use Rattle.actor_rounds.specs.declared.drainers.Drainer.{Drainer}
use Rattle.actor_rounds.specs.Drainers.{agent_of}
use Rattle.settle_progress.specs.Epochs.Awake.{IsAwake}
use Rattle.settle_progress.specs.Epochs.Epochs.{TakesNoMore}
use Rattle.settle_progress.proofs.Epochs.Epochs.{is_agent}

agent_kind : (kind : SeatKind) → is_agent kind ≡ true → kind ≡ seats.Agent
agent_kind seats.Agent e = refl
agent_kind seats.User e = absurd (true≢false (sym e))
agent_kind seats.Binder e = absurd (true≢false (sym e))
agent_kind seats.Ops e = absurd (true≢false (sym e))
agent_kind seats.Scheduler e = absurd (true≢false (sym e))
agent_kind seats.ClaimProtect e = absurd (true≢false (sym e))
agent_kind seats.VolumeProtect e = absurd (true≢false (sym e))

role_known : (node : List ℕ) (r : Role) → (r ≡ agent_of node) ⊎ (r ≢ agent_of node)
role_known node r = by (is_agent r.kind) (bytes_eq r.node node) refl refl
  where
    by : (a b : Bool) → is_agent r.kind ≡ a → bytes_eq r.node node ≡ b → (r ≡ agent_of node) ⊎ (r ≢ agent_of node)
    by true true ea eb = inl (λ i. record { kind = (agent_kind r.kind ea) i; node = ((bytes_eq-Decides r.node node).0 eb) i })
    by true false ea eb = inr (λ same. true≢false (sym ((bytes_eq-Decides r.node node).1 (ap (λ (x : Role). x.node) same)) ∙ eb))
    by false b ea eb = inr (λ same. true≢false (sym (ap (λ (x : Role). is_agent x.kind) same) ∙ ea))

-- an agent may still take its node where it was told neither an epoch nor that it is stale; so it is awake
may_take : (setup : Setup) (start : List Entry) (node : List ℕ) (d : Drainer) → IsAwake setup start node d ⊎ TakesNoMore node d.seat d.actor start
may_take setup start node d = by d.actor.memory.stale (last_epoch node (own d.seat start)) refl refl
  where
    by : (b : Bool) (x : Option ℕ) → d.actor.memory.stale ≡ b → last_epoch node (own d.seat start) ≡ x → IsAwake setup start node d ⊎ TakesNoMore node d.seat d.actor start
    by true x stale told = inr (inl stale)
    by false None fresh none = inl (record { fresh = fresh; current = λ epoch is. none_some (sym none ∙ is) })
    by false (Some k) fresh told = inr (inr (ap is_some told))

-- an agent of the node that is no stale one, and those before it take the node no more
pub record IsFirstAwake (setup : Setup) (start : List Entry) (node : List ℕ) (ds : List Drainer) : Type 0 where
  pub place : ℕ
  pub drainer : Drainer
  pub there : slice_get ds place ≡ Some drainer
  pub role : drainer.actor.role ≡ agent_of node
  pub awake : IsAwake setup start node drainer
  pub before : (i : ℕ) (other : Drainer) → i < place → slice_get ds i ≡ Some other → other.actor.role ≡ agent_of node → TakesNoMore node other.seat other.actor start

pub first_awake : (setup : Setup) (start : List Entry) (node : List ℕ) (ds : List Drainer) (place : ℕ) (d : Drainer) → slice_get ds place ≡ Some d
    → d.actor.role ≡ agent_of node → IsAwake setup start node d → IsFirstAwake setup start node ds
first_awake setup start node [] place d there role awake = none_some there
first_awake setup start node (x ∷ xs) zero d there role awake = record { place = 0; drainer = d; there = there; role = role; awake = awake; before = λ i other lt at is. absurd (omega (arith, lt)) }
first_awake setup start node (x ∷ xs) (suc place) d there role awake = by (role_known node x.actor.role) (may_take setup start node x) (first_awake setup start node xs place d there role awake)
  where
    shift : (x.actor.role ≡ agent_of node → TakesNoMore node x.seat x.actor start) → IsFirstAwake setup start node xs → IsFirstAwake setup start node (x ∷ xs)
    shift none f = record { place = suc f.place; drainer = f.drainer; there = f.there; role = f.role; awake = f.awake; before = before }
      where
        before : (i : ℕ) (other : Drainer) → i < suc f.place → slice_get (x ∷ xs) i ≡ Some other → other.actor.role ≡ agent_of node → TakesNoMore node other.seat other.actor start
        before zero other lt at is = let same : x ≡ other = one x other at in subst (λ (y : Drainer). TakesNoMore node y.seat y.actor start) same (none (ap (λ (y : Drainer). y.actor.role) same ∙ is))
        before (suc i) other lt at is = f.before i other (omega (arith, lt)) at is

    by : (x.actor.role ≡ agent_of node) ⊎ (x.actor.role ≢ agent_of node) → IsAwake setup start node x ⊎ TakesNoMore node x.seat x.actor start
        → IsFirstAwake setup start node xs → IsFirstAwake setup start node (x ∷ xs)
    by (inl is) (inl wakes) f = record { place = 0; drainer = x; there = refl; role = is; awake = wakes; before = λ i other lt at own_role. absurd (omega (arith, lt)) }
    by (inl is) (inr none) f = shift (λ own_role. none) f
    by (inr other) wakes f = shift (λ own_role. absurd (other own_role)) f
