-- Drainers whose seats have no entries remember nothing: none is silent, and each agent may take its node.
use Rattle.std.proofs.Common.{◌≡◌, ◌∙◌, ℕ, zero, suc, List, [], ◌∷◌, true, false, true≢false, Some, inl, inr, sym, ap, subst}
use Rattle.std.specs.Prelude.{option_map, slice_get}
use Rattle.call_types.specs.declared.entry.Entry.{Entry}
use Rattle.call_types.specs.declared.setup.Setup.{Setup}
use Rattle.binder_model.specs.AgentLicence.{last_epoch}
use Rattle.binder_model.specs.Told.{SomeOf, own}
use Rattle.model_laws.proofs.Lists.{none_some, one}
use Rattle.worker_core.specs.Memories.{memory_of}
use Rattle.actor_rounds.specs.declared.drainers.Drainer.{Drainer}
use Rattle.actor_rounds.specs.Drainers.{AreStanding, HaveNoEntries, agent_of, seats_of}
use Rattle.settle_alike.proofs.Alike.Rows.{get_mapped}
use Rattle.settle_progress.specs.Epochs.Silent.{OnlyOvertakenAreSilent}
use Rattle.settle_progress.specs.Drains.Fresh.{FreshDrainersServe}
use Rattle.settle_progress.specs.Drains.Rounds.{HasCurrent}
use Rattle.settle_progress.proofs.Drains.Rounds.{HasRole, role_at}

none_at : (ds : List Drainer) (past : List Entry) → HaveNoEntries (seats_of ds) past → (place : ℕ) (d : Drainer) → slice_get ds place ≡ Some d → own d.seat past ≡ []
none_at [] past none place d at = none_some at
none_at (x ∷ xs) past none zero d at = subst (λ (y : Drainer). own y.seat past ≡ []) (one x d at) none.0
none_at (x ∷ xs) past none (suc place) d at = none_at xs past none.1 place d at

-- where a node stands among these
record IsPlaced (nodes : List (List ℕ)) (node : List ℕ) : Type 0 where
  place : ℕ
  at : slice_get nodes place ≡ Some node

placed : (nodes : List (List ℕ)) (node : List ℕ) → SomeOf (λ n. n ≡ node) nodes → IsPlaced nodes node
placed [] node some = absurd some
placed (n ∷ nodes) node (inl is) = record { place = 0; at = ap Some is }
placed (n ∷ nodes) node (inr more) = let p = placed nodes node more in record { place = suc p.place; at = p.at }

module _ (setup : Setup) (ds : List Drainer) (past : List Entry) (stand : AreStanding ds past) (none : HaveNoEntries (seats_of ds) past) where
  none_silent : OnlyOvertakenAreSilent setup ds past
  none_silent place d node there role silent =
      absurd (true≢false (sym silent ∙ (ap (λ m. m.stale) (stand.each place d there).told.memory ∙ ap (λ es. (memory_of d.actor.role es).stale) (none_at ds past none place d there))))

  serves : (node : List ℕ) → SomeOf (λ n. n ≡ node) stand.roles.nodes → HasCurrent setup ds past node
  serves node some = record {
    place = at.place;
    drainer = at.drainer;
    there = at.there;
    role = at.role_is;
    current = λ epoch told. none_some
        (sym (ap (last_epoch node) (none_at ds past none at.place at.drainer at.there)) ∙ told);
  }
    where
      p : IsPlaced stand.roles.nodes node
      p = placed stand.roles.nodes node some

      at : HasRole ds (agent_of node)
      at =
          role_at ds (suc (suc (suc (suc (suc p.place))))) (agent_of node)
          (ap (λ roles. slice_get roles (suc (suc (suc (suc (suc p.place)))))) stand.roles.are ∙ (get_mapped agent_of stand.roles.nodes p.place ∙ ap (option_map agent_of) p.at))

pub fresh_drainers_serve : FreshDrainersServe
fresh_drainers_serve setup ds past stand none = (none_silent setup ds past stand none, serves setup ds past stand none)
