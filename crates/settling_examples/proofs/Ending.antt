-- Budgets, classes, shared claims, nodes of scripts and numbers of volumes, computed.
use Rattle.std.specs.Prelude.{slice_get}
use Rattle.std.proofs.Common.{ℕ, zero, suc, ◌≡◌, ◌≢◌, ◌∙◌, Bool, true, false, true≢false, not, List, [], ◌∷◌, Some, None, arith, inl, inr, bytes_eq, codes, length, refl, sym, ap, subst}
use Rattle.kube_objects.specs.declared.key.Key.{Key}
use Rattle.kube_parts.specs.declared.parts.VolumePhase.TheVariants as volumes
use Rattle.kube_objects.specs.declared.objects.Claim.{Claim as ClaimData}
use Rattle.kube_objects.specs.declared.objects.Object.{Object}
use Rattle.kube_objects.specs.declared.objects.Object.TheVariants.{Claim, Class, Pod, Volume}
use Rattle.kube_objects.specs.Bindings.{class_of_claim, is_completed, is_scheduled, no_provisioner}
use Rattle.kube_objects.specs.Keys.{key_of, row_at}
use Rattle.kube_objects.proofs.KeyOrder.{row_at_key}
use Rattle.binder_model.specs.BindWrites.{completed_with}
use Rattle.binder_model.specs.Choice.{claim_named}
use Rattle.binder_model.specs.Devices.{device_answer, take_node}
use Rattle.binder_model.specs.Imports.{imported_meta, imported_object}
use Rattle.binder_model.specs.ObjectKeys.{claim_key, class_key}
use Rattle.binder_model.specs.Provisioning.{provisions}
use Rattle.binder_model.specs.Store.{leaves}
use Rattle.binder_model.specs.World.{effect, on_devices, world, world_after}
use Rattle.model_laws.proofs.Lists.{none_some, one}
use Rattle.model_laws.proofs.Readings.{found_stands}
use Rattle.settle_measure.specs.Left.Measure.{faults_left}
use Rattle.settle_measure.specs.Left.Small.{completed, open_claim, volume_of}
use Rattle.worker_core.specs.declared.role.Role.{Role}
use Rattle.actor_rounds.specs.Drainers.{agent_of, seats_for}
use Rattle.settle_progress.specs.Epochs.Epochs.{IsCurrent}
use Rattle.settle_progress.proofs.Drains.Rounds.{is_agent}
use Rattle.script_runs.specs.Parts.{drain_roles}
use Rattle.volume_index.specs.VolumePlaces.{count_before, has_size, those_in}
use Rattle.settle_budget.specs.Drains.Measured.{SharesWell, WaitingPodNames, is_immediate}
use Rattle.settling_examples.specs.Ending.{
  AgentExamples,
  AllowanceExamples,
  BudgetExamples,
  CallExamples,
  ClassExamples,
  LineExamples,
  NamingExamples,
  NumberExamples,
  SharingExamples,
  SizeExamples,
  class_of,
  copies,
  faults_upto,
  one_node,
  pod_on,
  script_naming,
  setup_with,
  shared_rows,
  takes,
  three_volumes,
  unclassed_rows,
  world_with,
}
use Rattle.delayed_binding.proofs.Known.{claim_of_row}

abbrev is_agent_role : Role → Bool
is_agent_role r = is_agent r.kind

pub budget_examples : BudgetExamples
unfolding faults_upto
budget_examples = record {
  nothing = refl;
  pair = refl;
  fault = refl;
  few = let left : faults_left (setup_with (faults_upto 508) []) (world_with (Claim open_claim ∷ Claim open_claim ∷ [])).devices ≡ 508 = refl in omega (arith, left);
  many = λ h. let left : faults_left (setup_with (faults_upto 509) []) (world_with (Claim open_claim ∷ Claim open_claim ∷ [])).devices ≡ 509 = refl in absurd (omega (arith, h, left));
}

-- ---- classes

abbrev is_delayed : Object → Bool
is_delayed (Class x) = x.delayed
is_delayed o = false

abbrev is_provisioning : Object → Bool
is_provisioning (Class x) = provisions x
is_provisioning o = false

pub class_examples : ClassExamples
unfolding imported_object leaves
class_examples = record {
  by_hand = λ class stood late. elim (found_stands (key_of (Class class)) (Class class) (world (setup_with [] (Class (class_of true no_provisioner) ∷ [])) []).store.rows stood) [
    | inl is ↦ sym (ap is_provisioning is)
    | inr more ↦ elim more [ ]
  ];
  at_once = λ class stood late. elim (found_stands (key_of (Class class)) (Class class) (world (setup_with [] (Class (class_of false (codes "d")) ∷ [])) []).store.rows stood) [
    | inl is ↦ absurd (true≢false (sym late ∙ sym (ap is_delayed is)))
    | inr more ↦ elim more [ ]
  ];
  late = λ none. true≢false (none (record (class_of true (codes "d")) { meta = imported_meta (class_of true (codes "d")).meta }) refl refl);
}

-- ---- shared claims

abbrev is_waiting : Object → Bool
is_waiting (Pod p) = not (is_scheduled p)
is_waiting o = false

abbrev claim_or : ClaimData → Object → ClaimData
claim_or d (Claim c) = c
claim_or d o = d

-- the only claim of these rows is this one
only_claim : (delayed : Bool) (d c : ClaimData) (node namespace name : List ℕ) → claim_named (shared_rows delayed d node) namespace name ≡ Some c → d ≡ c
only_claim delayed d c node namespace name e =
    elim (found_stands (claim_key namespace name) (Claim c) (shared_rows delayed d node) (claim_of_row (row_at (claim_key namespace name) (shared_rows delayed d node)) c e)) [
      | inl is ↦ cc
      | inr (inl is) ↦ ap (claim_or d) is
      | inr (inr (inl is)) ↦ cc
      | inr (inr (inr (inl is))) ↦ cc
      | inr (inr (inr (inr more))) ↦ elim more [ ]
    ]

-- where one of the pods has a node, only the other waits
only_waiting : (delayed : Bool) (d : ClaimData) (key : Key) (namespace name : List ℕ)
    → WaitingPodNames (world_with (shared_rows delayed d (codes "n"))) key namespace name → key_of (Pod (pod_on (codes "q") [])) ≡ key
only_waiting delayed d key namespace name p =
    elim (found_stands key (Pod p.pod) (shared_rows delayed d (codes "n")) p.there) [
      | inl is ↦ cc
      | inr (inl is) ↦ cc
      | inr (inr (inl is)) ↦ absurd (true≢false (ap not (sym p.waits) ∙ sym (ap is_waiting is)))
      | inr (inr (inr (inl is))) ↦ ap key_of is ∙ row_at_key key (Pod p.pod) (shared_rows delayed d (codes "n")) p.there
      | inr (inr (inr (inr more))) ↦ elim more [ ]
    ]

abbrev key_named : List ℕ → Key
key_named name = key_of (Pod (pod_on name []))

two_keys : key_named (codes "p") ≢ key_named (codes "q")
two_keys e = true≢false (ap (λ (k : Key). bytes_eq k.name (codes "p")) e)

names_it : (rows : List Object) (name : List ℕ) → row_at (key_named name) rows ≡ Some (Pod (pod_on name [])) → WaitingPodNames (world_with rows) (key_named name) (codes "ns") (codes "c")
names_it rows name there = record { pod = pod_on name []; there = there; waits = refl; same = refl; names = inl refl }

-- the same where no class stands

only_unclassed : (d c : ClaimData) (node namespace name : List ℕ) → claim_named (unclassed_rows d node) namespace name ≡ Some c → d ≡ c
only_unclassed d c node namespace name e =
    elim (found_stands (claim_key namespace name) (Claim c) (unclassed_rows d node) (claim_of_row (row_at (claim_key namespace name) (unclassed_rows d node)) c e)) [
      | inl is ↦ ap (claim_or d) is
      | inr (inl is) ↦ cc
      | inr (inr (inl is)) ↦ cc
      | inr (inr (inr more)) ↦ elim more [ ]
    ]

one_unclassed : (d : ClaimData) (key : Key) (namespace name : List ℕ)
    → WaitingPodNames (world_with (unclassed_rows d (codes "n"))) key namespace name → key_of (Pod (pod_on (codes "q") [])) ≡ key
one_unclassed d key namespace name p =
    elim (found_stands key (Pod p.pod) (unclassed_rows d (codes "n")) p.there) [
      | inl is ↦ cc
      | inr (inl is) ↦ absurd (true≢false (ap not (sym p.waits) ∙ sym (ap is_waiting is)))
      | inr (inr (inl is)) ↦ ap key_of is ∙ row_at_key key (Pod p.pod) (unclassed_rows d (codes "n")) p.there
      | inr (inr (inr more)) ↦ elim more [ ]
    ]

pub sharing_examples : SharingExamples
unfolding completed_with
sharing_examples = record {
  of_completed = λ first second namespace name c a b differ e. inl (subst (λ d. is_completed d ≡ true) (only_claim true completed c [] namespace name e) refl);
  of_immediate = λ first second namespace name c a b differ e. inr
      (subst (λ d. is_immediate (row_at (class_key (class_of_claim d)) (shared_rows false open_claim [])) ≡ true) (only_claim false open_claim c [] namespace name e) refl);
  of_one = λ first second namespace name c a b differ e. absurd (differ (sym (only_waiting true open_claim first namespace name a) ∙ only_waiting true open_claim second namespace name b));
  of_late = λ shares. elim (shares (key_named (codes "p")) (key_named (codes "q")) (codes "ns") (codes "c") open_claim
      (names_it (shared_rows true open_claim []) (codes "p") refl) (names_it (shared_rows true open_claim []) (codes "q") refl) two_keys refl) [
        | inl done ↦ true≢false (sym done)
        | inr at_once ↦ true≢false (sym at_once)
      ];
  completed_without_a_class = λ first second namespace name c a b differ e.
      inl (subst (λ d. is_completed d ≡ true) (only_unclassed completed c [] namespace name e) refl);
  one_waits_without_a_class = λ first second namespace name c a b differ e.
      absurd (differ (sym (one_unclassed open_claim first namespace name a) ∙ one_unclassed open_claim second namespace name b));
  open_without_a_class = λ shares. elim (shares (key_named (codes "p")) (key_named (codes "q")) (codes "ns") (codes "c") open_claim
      (names_it (unclassed_rows open_claim []) (codes "p") refl) (names_it (unclassed_rows open_claim []) (codes "q") refl) two_keys refl) [
        | inl done ↦ true≢false (sym done)
        | inr at_once ↦ true≢false (sym at_once)
      ];
}

-- ---- nodes

abbrev node_of : Object → List ℕ
node_of (Pod p) = p.node
node_of o = []

abbrev is_placed : Object → Bool
is_placed (Pod p) = is_scheduled p
is_placed o = false

pub naming_examples : NamingExamples
unfolding imported_object leaves
naming_examples = record {
  named = λ key p there placed. elim (found_stands key (Pod p) (world (script_naming (codes "n") (codes "m" ∷ codes "n" ∷ [])).setup []).store.rows there) [
    | inl is ↦ inr (inl (ap node_of is))
    | inr more ↦ elim more [ ]
  ];
  waiting = λ key p there placed. elim (found_stands key (Pod p) (world (script_naming [] []).setup []).store.rows there) [
    | inl is ↦ absurd (true≢false (sym placed ∙ sym (ap is_placed is)))
    | inr more ↦ elim more [ ]
  ];
  unnamed = λ are. elim (are (key_named (codes "p")) _ refl refl) [
    | inl is ↦ true≢false (ap (bytes_eq (codes "m")) is)
    | inr more ↦ elim more [ ]
  ];
}

-- ---- agents

-- the only agent of these drains has the seat 10
only_agent : (place seat : ℕ) (node : List ℕ) → slice_get (seats_for 5 (codes "n" ∷ [])) place ≡ Some seat
    → slice_get (drain_roles one_node) place ≡ Some (agent_of node) → (10 ≡ seat) × (codes "n" ≡ node)
only_agent zero seat node at role = absurd (true≢false (sym (ap is_agent_role (one _ _ role))))
only_agent (suc zero) seat node at role = absurd (true≢false (sym (ap is_agent_role (one _ _ role))))
only_agent (suc (suc zero)) seat node at role = absurd (true≢false (sym (ap is_agent_role (one _ _ role))))
only_agent (suc (suc (suc zero))) seat node at role = absurd (true≢false (sym (ap is_agent_role (one _ _ role))))
only_agent (suc (suc (suc (suc zero)))) seat node at role = absurd (true≢false (sym (ap is_agent_role (one _ _ role))))
only_agent (suc (suc (suc (suc (suc zero))))) seat node at role = (one 10 seat at, ap (λ (r : Role). r.node) (one _ (agent_of node) role))
only_agent (suc (suc (suc (suc (suc (suc place)))))) seat node at role = none_some at

pub agent_examples : AgentExamples
unfolding world_after effect on_devices device_answer take_node
agent_examples = record {
  none_taken = λ place seat node at role epoch told. none_some told;
  took_last = λ place seat node at role.
      let is = only_agent place seat node at role in
      subst (λ n. IsCurrent one_node.setup (takes 10 2 ∷ takes 4 1 ∷ []) n seat) is.1
      (subst (λ s. IsCurrent one_node.setup (takes 10 2 ∷ takes 4 1 ∷ []) (codes "n") s) is.0 (λ epoch told. sym (one 2 epoch told)));
  overtaken = λ none. let same : 1 ≡ 2 = none 5 10 (codes "n") refl refl 1 refl in omega (arith, same);
}

-- ---- calls

pub call_examples : CallExamples
call_examples = record { nothing = refl; pair = refl; fault = refl; named = refl }

-- ---- worlds whose rounds are short

-- so many are so many
many : (o : Object) (n : ℕ) → length (copies n o) ≡ n
unfolding copies
many o zero = refl
many o (suc n) = ap suc (many o n)

pub size_examples : SizeExamples
size_examples = record {
  largest = let all = many (Claim open_claim) 8192 in omega (arith, all);
  too_large = λ h. let all = many (Claim open_claim) 8193 in absurd (omega (arith, h, all));
  naming = let all = many (Pod (pod_on (codes "p") [])) 8192 in omega (arith, all);
  placed = let all = many (Pod (pod_on (codes "p") (codes "n"))) 8192 in omega (arith, all);
}

-- ---- lines

pub line_examples : LineExamples
line_examples = record {
  before_it = (refl, tt);
  no_drain = tt;
  behind_it = λ left. true≢false left.0;
  between = λ left. true≢false left.0;
}

-- ---- allowances

pub allowance_examples : AllowanceExamples
unfolding imported_object leaves
allowance_examples = record {
  enough = record { shared = inr (λ class stood late. none_some stood); small = omega arith; enough = omega arith };
  too_little = λ a. let much = a.enough in omega (arith, much);
  with_a_fault = λ a. let much = a.enough in omega (arith, much);
  late = record { shared = inl none_waits; small = omega arith; enough = omega arith };
  badly_shared = λ a. elim a.shared [
    | inl shares ↦ elim (shares (key_named (codes "p")) (key_named (codes "q")) (codes "ns") (codes "c") _ (record { pod = _; there = refl; waits = refl; same = refl; names = inl refl })
        (record { pod = _; there = refl; waits = refl; same = refl; names = inl refl }) two_keys refl) [
          | inl done ↦ true≢false (sym done)
          | inr at_once ↦ true≢false (sym at_once)
        ]
    | inr none ↦ true≢false (none (record (class_of true (codes "d")) { meta = imported_meta (class_of true (codes "d")).meta }) refl refl)
  ];
}
  where
    none_waits : SharesWell (world (setup_with [] (Class (class_of true (codes "d")) ∷ [])) [])
    none_waits first second namespace name c a b differ e = elim (found_stands first (Pod a.pod) (world (setup_with [] (Class (class_of true (codes "d")) ∷ [])) []).store.rows a.there) [
      | inl is ↦ cc
      | inr more ↦ elim more [ ]
    ]

-- ---- numbers

abbrev number_of : Object → ℕ
number_of (Volume v) = count_before v (those_in (has_size false (codes "slow")) three_volumes)
number_of o = 0

abbrev has_mode : Object → Bool
has_mode (Volume v) = has_size true (codes "slow") v
has_mode o = false

pub number_examples : NumberExamples
number_examples = record {
  smallest = record { volume = volume_of (codes "b") 5 None volumes.Available; there = refl; passes = refl; before = refl; within = omega arith };
  middle = record { volume = volume_of (codes "c") 7 None volumes.Available; there = refl; passes = refl; before = refl; within = omega arith };
  largest = record { volume = volume_of (codes "a") 9 None volumes.Available; there = refl; passes = refl; before = refl; within = omega arith };
  no_more = omega arith;
  no_block = omega arith;
  by_name = λ r. absurd (omega (arith, ap number_of (one (Volume (volume_of (codes "a") 9 None volumes.Available)) (Volume r.volume) r.there) ∙ r.before));
  other_mode = λ r. true≢false (sym r.passes ∙ sym (ap has_mode (one (Volume (volume_of (codes "b") 5 None volumes.Available)) (Volume r.volume) r.there)));
  missing = λ h. absurd (omega (arith, h));
}
