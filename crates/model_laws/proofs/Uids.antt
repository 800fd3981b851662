-- A UID is that of the write that gave it, and versions rise.
use Rattle.std.proofs.Common.{sym, refl, inl, inr, ap, ◌∙◌, true≢false, arith}
use Rattle.std.specs.Prelude.{◌≡◌, ◌⊎◌, ◌+◌, ◌≤◌, List, [], ◌∷◌, ◌++◌, Option, Some, None, is_some, unwrap_or}
use Rattle.kube_parts.specs.declared.uid.Uid.{Uid}
use Rattle.kube_parts.specs.Uids.{uid_of_serial}
use Rattle.kube_parts.proofs.UidTexts.{serials_apart}
use Rattle.call_types.specs.declared.setup.Setup.{Setup}
use Rattle.call_types.specs.declared.entry.Entry.{Entry}
use Rattle.call_types.specs.declared.request.SeatKind.{SeatKind}
use Rattle.call_types.specs.declared.request.Request.{Request}
use Rattle.call_types.specs.declared.reply.Change.TheVariants.{Added}
use Rattle.binder_model.specs.Answers.{Stores, after}
use Rattle.binder_model.specs.World.{World, Effect, OnStore, world, effect, reply_to, world_after}
use Rattle.model_laws.specs.Histories.{given_by, given_uid, UidsAreGivenOnce}
use Rattle.model_laws.specs.Steps.{KeepsStore, WritesOnce}
use Rattle.model_laws.proofs.Versions.{versions_count_writes}
use Rattle.model_laws.proofs.Givings.{Gives, outcome_gives}
use Rattle.model_laws.proofs.Effects.{OfStore, on_effects}

-- one call does not lower the version
not_lower : (setup : Setup) (w : World) (kind : SeatKind) (request : Request) → w.store.version ≤ (world_after w (effect setup w kind request)).store.version
not_lower setup w kind request = by (versions_count_writes setup w kind request)
  where
    by : KeepsStore w (world_after w (effect setup w kind request)) ⊎ WritesOnce w (world_after w (effect setup w kind request)) (reply_to (effect setup w kind request))
        → w.store.version ≤ (world_after w (effect setup w kind request)).store.version
    by (inl k) = let e = ap (λ s. s.version) k.store in omega (arith, e)
    by (inr k) = let e = k.version in omega (arith, e)

-- nor do more
pub rises : (setup : Setup) (newer past : List Entry) → (world setup past).store.version ≤ (world setup (newer ++ past)).store.version
rises setup [] past = omega arith
rises setup (e ∷ newer) past =
    let low = rises setup newer past in
    let step = not_lower setup (world setup (newer ++ past)) e.kind e.request in
    omega (arith, low, step)

one : (a b : Uid) → Some a ≡ Some b → a ≡ b
one a b e = ap (λ x. unwrap_or x a) e

not_given : {G : Type 0} (uid : Uid) → ◌≡◌ {A = Option Uid} None (Some uid) → G
not_given uid e = absurd (true≢false (sym (ap is_some e)))

-- an effect that gives a UID gives that of its write, and raises the version
pub record GivesAt (w : World) (x : Effect) (uid : Uid) : Type 0 where
  pub own : uid ≡ uid_of_serial (w.store.version + 1)
  pub raised : (world_after w x).store.version ≡ w.store.version + 1

gives_at : (w : World) (x : Effect) (uid : Uid) → OfStore (Gives (w.store.version + 1)) x → given_by x ≡ Some uid → GivesAt w x uid
unfolding world_after after
gives_at w (OnStore (Stores Added o)) uid g e = record { own = one _ _ (sym e ∙ g); raised = refl }
gives_at w x uid g e = not_given uid e

given_at : (setup : Setup) (e : Entry) (past : List Entry) (uid : Uid) → given_uid setup e past ≡ Some uid
    → GivesAt (world setup past) (effect setup (world setup past) e.kind e.request) uid
given_at setup e past uid is =
    let w = world setup past in
    gives_at w _ uid (on_effects (λ r. tt) setup w e.kind e.request (outcome_gives w.store e.kind e.request w.moment)).on is

pub uids_are_given_once : UidsAreGivenOnce
uids_are_given_once setup newer between older past uid first second =
    let f = given_at setup older past uid first in
    let s = given_at setup newer (between ++ older ∷ past) uid second in
    let same = serials_apart _ _ (sym f.own ∙ s.own) in
    let low = rises setup between (older ∷ past) in
    let raised = f.raised in
    absurd (omega (arith, same, low, raised))
