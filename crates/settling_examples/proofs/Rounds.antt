-- Rounds that make few calls, what is due for an actor, and rounds in which an entry lasts, computed.
use Rattle.std.proofs.Common.{ℕ, zero, suc, ◌≡◌, ◌∙◌, Bool, true, true≢false, List, [], ◌∷◌, Some, inl, inr, codes, refl, sym, ap, subst, arith}
use Rattle.std.specs.Prelude.{slice_get}
use Rattle.kube_objects.specs.declared.objects.Object.{Object}
use Rattle.kube_objects.specs.declared.objects.Object.TheVariants.{Class, Pod, Volume}
use Rattle.kube_objects.specs.Bindings.{no_provisioner}
use Rattle.kube_objects.specs.Keys.{key_of, row_at}
use Rattle.kube_parts.specs.declared.names.Due.TheVariants as dues
use Rattle.kube_parts.specs.declared.parts.VolumePhase.TheVariants as volumes
use Rattle.call_types.specs.declared.entry.Entry.{Entry}
use Rattle.call_types.specs.declared.setup.Setup.{Setup}
use Rattle.binder_model.specs.BindWrites.{claim_write, next_write}
use Rattle.binder_model.specs.BinderDue.{claim_due, claim_with, completed_due, named_due, reference_due, referred_due, volume_due}
use Rattle.binder_model.specs.Devices.{device_answer, take_node}
use Rattle.binder_model.specs.Due.{IsDue, or_due}
use Rattle.binder_model.specs.Imports.{imported_meta, imported_object}
use Rattle.binder_model.specs.Store.{leaves}
use Rattle.binder_model.specs.World.{effect, on_devices, world, world_after}
use Rattle.model_laws.proofs.Lists.{none_some, one}
use Rattle.model_laws.proofs.Readings.{found_stands}
use Rattle.settle_measure.specs.Left.Small.{free}
use Rattle.worker_core.specs.declared.role.Role.{Role}
use Rattle.actor_rounds.specs.declared.drainers.Drainer.{Drainer}
use Rattle.settle_progress.specs.Drains.Rounds.{HasCurrent, HasDue, doer_of}
use Rattle.settle_progress.specs.Epochs.Epochs.{IsCurrent}
use Rattle.settle_progress.proofs.Drains.Rounds.{is_agent}
use Rattle.settle_round_calls.proofs.Rest.Short.{small_worlds_have_short_rounds}
use Rattle.settling_examples.specs.Ending.{class_of, setup_with, takes}
use Rattle.settling_examples.specs.Rounds.{DueExamples, IsItsAgent, RoundExamples, StepExamples, placed_pod, pod_waits, volume_waits}

pub round_examples : RoundExamples
round_examples = record {
  few = λ g rest. ((λ small. omega (arith, g.two, g.none)), rest);
  one_more = λ g short. let most = short.0 (small_worlds_have_short_rounds (world g.setup g.h) (omega (arith, g.two))) in omega (arith, most, g.two, g.none);
}

-- ---- what is due

abbrev is_agents : Role → Bool
is_agents r = is_agent r.kind

-- the pod as it stands
abbrev pod_there : Object
pod_there = Pod (record placed_pod { meta = imported_meta placed_pod.meta })

abbrev pod_rows : List Object
pod_rows = pod_there ∷ []

volume_due_there : (ds : List Drainer) → HasDue volume_waits ds []
unfolding imported_object leaves or_due volume_due reference_due referred_due claim_with claim_due named_due completed_due next_write claim_write
volume_due_there ds = record {
  key = key_of (Volume (free volumes.Pending));
  object = imported_object (Volume (free volumes.Pending) ∷ []) (Volume (free volumes.Pending));
  action = dues.Available;
  stands = refl;
  due = refl;
  doer = λ node is. absurd (true≢false (sym (ap is_agents is)));
}

-- no agent takes the node's place among the rows
none_taken : (world pod_waits []).store.rows ≡ pod_rows
unfolding imported_object leaves
none_taken = refl

took_last : (world pod_waits (takes 10 2 ∷ takes 4 1 ∷ [])).store.rows ≡ pod_rows
unfolding imported_object leaves world_after effect on_devices device_answer take_node
took_last = refl

overtaken : (world pod_waits (takes 4 2 ∷ takes 10 1 ∷ [])).store.rows ≡ pod_rows
unfolding imported_object leaves world_after effect on_devices device_answer take_node
overtaken = refl

-- whatever is due there is the agent's
its_agent : (ds : List Drainer) (h : List Entry) → (world pod_waits h).store.rows ≡ pod_rows → HasDue pod_waits ds h → HasCurrent pod_waits ds h (codes "n")
its_agent ds h are x = elim (found_stands x.key x.object pod_rows (sym (ap (row_at x.key) are) ∙ x.stands)) [
  | inl is ↦ x.doer (codes "n") (ap (λ o. doer_of o x.action) (sym is))
  | inr more ↦ elim more [ ]
]

-- the one drainer is at the place
the_one : (d found : Drainer) (place : ℕ) → slice_get (d ∷ []) place ≡ Some found → d ≡ found
the_one d found zero at = one d found at
the_one d found (suc place) at = none_some at

last_is_current : (seat : ℕ) → 10 ≡ seat → IsCurrent pod_waits (takes 10 2 ∷ takes 4 1 ∷ []) (codes "n") seat
unfolding world_after effect on_devices device_answer take_node
last_is_current seat is = subst (IsCurrent pod_waits (takes 10 2 ∷ takes 4 1 ∷ []) (codes "n")) is (λ epoch told. sym (one 2 epoch told))

first_is_stale : (seat : ℕ) → seat ≡ 10 → IsCurrent pod_waits (takes 4 2 ∷ takes 10 1 ∷ []) (codes "n") seat → ⊥
unfolding world_after effect on_devices device_answer take_node
first_is_stale seat is current = let same : 1 ≡ 2 = subst (IsCurrent pod_waits (takes 4 2 ∷ takes 10 1 ∷ []) (codes "n")) is current 1 refl in omega (arith, same)

pod_due : (d : Drainer) → IsItsAgent d → HasDue pod_waits (d ∷ []) (takes 10 2 ∷ takes 4 1 ∷ [])
unfolding world_after effect on_devices device_answer take_node
pod_due d its = record {
  key = key_of pod_there;
  object = pod_there;
  action = dues.Mount;
  stands = ap (row_at (key_of pod_there)) took_last;
  due = refl;
  doer = λ node is. record {
    place = 0;
    drainer = d;
    there = refl;
    role = its.1 ∙ is;
    current = subst (λ n. IsCurrent pod_waits (takes 10 2 ∷ takes 4 1 ∷ []) n d.seat) (ap (λ (r : Role). r.node) is) (last_is_current d.seat (sym its.0));
  };
}

stale : (d : Drainer) → IsItsAgent d → HasDue pod_waits (d ∷ []) (takes 4 2 ∷ takes 10 1 ∷ []) → ⊥
stale d its x =
    let c = its_agent (d ∷ []) (takes 4 2 ∷ takes 10 1 ∷ []) overtaken x in
    first_is_stale c.drainer.seat (sym (ap (λ (y : Drainer). y.seat) (the_one d c.drainer c.place c.there)) ∙ its.0) c.current

-- a class alone
abbrev class_stands : Setup
class_stands = setup_with [] (Class (class_of true no_provisioner) ∷ [])

pub due_examples : DueExamples
unfolding imported_object leaves
due_examples = record {
  volume = volume_due_there;
  with_its_agent = pod_due;
  without_its_agent = λ x. none_some (its_agent [] [] none_taken x).there;
  with_a_stale_one = stale;
  nothing = λ ds x. none_some x.stands;
  class = λ ds x. elim (found_stands x.key x.object (world class_stands []).store.rows x.stands) [
    | inl is ↦ none_some (sym (subst (λ o. IsDue class_stands (world class_stands []) o (Some x.action)) (sym is) x.due))
    | inr more ↦ elim more [ ]
  ];
}

-- ---- rounds in which an entry lasts

pub step_examples : StepExamples
step_examples = record {
  lasting = λ g lasts rest. ((λ whole due. lasts), rest);
  part = λ g not rest. ((λ whole due. absurd (true≢false (sym whole ∙ not))), rest);
  none_due = λ g none rest. ((λ whole due. absurd (none due)), rest);
  none_lasting = λ g whole due none all. none (all.0 whole due);
  later = λ g none all. none all.1;
}
