-- The binder acts on what is due for a claim.
use Rattle.std.proofs.Common.{◌≡◌, ◌∙◌, ℕ, zero, suc, List, [], ◌∷◌, Bool, true, false, true≢false, Option, Some, None, inl, inr, refl, sym, ap, subst, arith, if◌then◌else◌}
use Rattle.std.specs.Prelude.{◌&&◌, ◌||◌, bytes_eq, is_none, is_some, not, slice_get}
use Rattle.std.specs.List.{list_any}
use Rattle.std.proofs.lemmas.Bool.{and_from, or_right}
use Rattle.std.proofs.lemmas.Slice.Eq.{bytes_eq-Decides}
use Rattle.kube_objects.specs.declared.key.Key.{Key}
use Rattle.kube_parts.specs.declared.names.Due.{Due}
use Rattle.kube_parts.specs.declared.names.Due.TheVariants as dues
use Rattle.kube_types.specs.declared.lookup.Live.TheVariants.{NotAsked}
use Rattle.kube_parts.specs.declared.parts.Kind.TheVariants as kinds
use Rattle.kube_objects.specs.declared.objects.Class.{Class as ClassData}
use Rattle.kube_objects.specs.declared.objects.Claim.{Claim as ClaimData}
use Rattle.kube_objects.specs.declared.objects.Volume.{Volume as VolumeData}
use Rattle.kube_objects.specs.declared.objects.Object.{Object}
use Rattle.kube_objects.specs.declared.objects.Object.TheVariants.{Class, Node, Volume, Claim, Pod}
use Rattle.kube_objects.specs.Bindings.{carries, is_available, is_completed, is_deleting, is_empty, is_ended, is_for, is_lost, is_protected_volume, lacks_class}
use Rattle.kube_objects.specs.Keys.{is_of_kind, key_of, kind_index, row_at, rows_of}
use Rattle.kube_objects.proofs.KeyOrder.{row_at_key}
use Rattle.call_types.specs.declared.entry.Entry.{Entry}
use Rattle.call_types.specs.declared.request.Request.{Request}
use Rattle.call_types.specs.declared.request.Request.TheVariants.{Get}
use Rattle.call_types.specs.declared.request.SeatKind.TheVariants as seats
use Rattle.call_types.specs.declared.setup.Setup.{Setup}
use Rattle.binder_model.specs.Answers.{is_user}
use Rattle.binder_model.specs.BinderDue.{claim_due, class_due, completed_due, has_other_uid, is_default_row, lost_due, named_due}
use Rattle.binder_model.specs.BindWrites.{next_write}
use Rattle.kube_parts.specs.declared.names.Field.{Field}
use Rattle.kube_parts.specs.declared.names.Field.TheVariants as fields
use Rattle.binder_model.specs.Fields.{class_fault, create_fault, faulty, has_twice, is_subdomain, kind_fault}
use Rattle.binder_model.specs.Imports.{ImportsPass}
use Rattle.binder_model.specs.Matching.{IsBestAt, eligible, fits, has_match, is_selected, waits_for_pod}
use Rattle.binder_model.specs.ObjectKeys.{volume_key}
use Rattle.binder_model.specs.Reading.{follows}
use Rattle.binder_model.specs.World.{world}
use Rattle.informer_cache.specs.All.{all_objects}
use Rattle.model_laws.proofs.Histories.{rows_stand_in_order}
use Rattle.model_laws.proofs.Lists.{IsIn, none_some, one, some_filter}
use Rattle.model_laws.proofs.Readings.{member_stands}
use Rattle.volume_index.specs.VolumeIndex.{as_volume}
use Rattle.claim_sync.specs.declared.action.ClaimStep.{ClaimStep}
use Rattle.claim_sync.specs.declared.action.ClaimStep.TheVariants as claim_steps
use Rattle.claim_sync.specs.ClaimDecision.{IsVolumeFor, claim_decision, completed_step, may_assign, named_step, named_volume, read_step, unless_lost, unnamed_step}
use Rattle.binder_machines.specs.declared.decide.FirstMachine.{FirstMachine as BinderFirst}
use Rattle.binder_machines.specs.declared.decide.FirstMachine.TheVariants as binder_firsts
use Rattle.binder_machines.specs.declared.machine.Machine.{Machine}
use Rattle.binder_machines.specs.declared.machine.Machine.TheVariants as machines
use Rattle.binder_machines.specs.FirstSteps.{IsAssignmentOf, IsBindingTo, IsClaimFirst, IsFirst, lost_for}
use Rattle.binder_machines.specs.Machines.{call_of, claim_read, moved, write_class, write_lost}
use Rattle.worker_core.specs.declared.role.Role.{Role}
use Rattle.worker_core.specs.declared.task.First.{First}
use Rattle.worker_core.specs.declared.task.First.TheVariants as firsts
use Rattle.worker_core.specs.declared.task.Task.TheVariants as tasks
use Rattle.worker_core.specs.declared.task.Under.{Under}
use Rattle.worker_core.specs.States.{ActorState}
use Rattle.worker_core.specs.Tasks.{IsBinderFirst, IsDecision, IsFirstOf, under_after}
use Rattle.settle_writes.specs.Writes.Valid.{IsValid}
use Rattle.settle_writes.specs.Writes.Writes.{IsStored}
use Rattle.settle_writes.proofs.Writes.Claims.{class_lasts, lost_lasts}
use Rattle.settle_writes.proofs.Writes.Fitting.{no_namespace}
use Rattle.settle_alike.specs.Alike.Alike.{AreAlike}
use Rattle.settle_alike.proofs.Alike.Binding.{claim_due_plain}
use Rattle.settle_alike.proofs.Alike.Rows.{plain_claim}
use Rattle.settle_slot.specs.Slot.Slots.{IsDecisionPoint, own_entry}
use Rattle.settle_slot.specs.Slot.Would.{AtOnce, Later, WouldLast}
use Rattle.settle_due.specs.Binding.Claims.{ClaimsAct}
use Rattle.settle_due.proofs.Upkeep.Claims.{or_true}
use Rattle.settle_due.proofs.Upkeep.Deciding.{DecisionLasts, acts_each, claim_alike, stored, volume_in}
use Rattle.settle_due.proofs.Upkeep.Known.{rows_known}
use Rattle.settle_due.proofs.Binding.Matches.{AgreeForBinder, goes_over, match_same, some_among}
use Rattle.settle_due.proofs.Binding.NextWrites.{IsOpenTo, next_lasts, next_some}
use Rattle.settle_due.proofs.Upkeep.Reclaims.{HasUid, has_uid}
use Rattle.settle_due.proofs.Upkeep.Volumes.{begins_one, get_said, get_stays, got, machine_in}
use Rattle.model_laws.proofs.References.{available_lives as available_stays}
use Rattle.binder_machines.proofs.Calling.{written_reference as carried_open}

-- the machine has a call, and will make one that lasts
record MachineLasts (setup : Setup) (seat : ℕ) (role : Role) (start : List Entry) (key : Key) (h : List Entry) (f : BinderFirst) : Type 0 where
  machine : Machine
  is : f ≡ binder_firsts.Begins machine
  call : Request
  asks : call_of machine ≡ Some call
  will : WouldLast setup seat role.kind start h (record { key = key; task = tasks.Binder machine; call = call })

-- a decision of the binder is one of a machine
by_machine : (setup : Setup) (seat : ℕ) (role : Role) (start : List Entry) (key : Key) (h : List Entry) (rows : List Object)
    → ((f : BinderFirst) → IsFirst rows (row_at key rows) f → MachineLasts setup seat role start key h f)
    → (first : First) → IsBinderFirst rows key first → DecisionLasts setup seat role start key h first
by_machine setup seat role start key h rows each firsts.Drops i = let m = each binder_firsts.Drops i in absurd (true≢false (sym (ap begins_one m.is)))
by_machine setup seat role start key h rows each (firsts.Queues other) i = let m = each (binder_firsts.Queues other) i in absurd (true≢false (sym (ap begins_one m.is)))
by_machine setup seat role start key h rows each (firsts.Begins (tasks.Binder machine)) i =
    let m = each (binder_firsts.Begins machine) i in
    let same : machine ≡ m.machine = ap (machine_in machine) m.is in
    record { task = tasks.Binder m.machine; call = m.call; is = ap (λ x. firsts.Begins (tasks.Binder x)) same; asks = m.asks; will = m.will }
by_machine setup seat role start key h rows each (firsts.Begins (tasks.ClaimProtect op)) i = absurd i
by_machine setup seat role start key h rows each (firsts.Begins (tasks.VolumeProtect op)) i = absurd i
by_machine setup seat role start key h rows each (firsts.Begins (tasks.Agent op)) i = absurd i
by_machine setup seat role start key h rows each (firsts.Begins (tasks.Provision op)) i = absurd i
by_machine setup seat role start key h rows each (firsts.Begins (tasks.Erase op)) i = absurd i
by_machine setup seat role start key h rows each (firsts.Begins (tasks.Schedule op)) i = absurd i

lost_open : (c : ClaimData) (due : Due) → lost_due c ≡ Some due → is_lost c.phase ≡ false
lost_open c due e = by (is_lost c.phase) refl e
  where
    by : (b : Bool) → is_lost c.phase ≡ b → (if b then None else Some dues.Lost) ≡ Some due → is_lost c.phase ≡ false
    by true is e = none_some e
    by false is e = is

abbrev is_fault : Option Field → Bool
is_fault None = false
is_fault (Some field) = true

fault_not : {G : Type 0} (field : Field) (next : Option Field) → faulty true field next ≡ None → G
unfolding faulty
fault_not field next e = absurd (true≢false (ap is_fault e))

-- a test that holds not, and what comes after it
fault_next : (field : Field) (next : Option Field) → faulty false field next ≡ None → next ≡ None
unfolding faulty
fault_next field next e = e

record HasRequest (x : Option Request) : Type 0 where
  request : Request
  is : x ≡ Some request

has_request : (x : Option Request) → is_some x ≡ true → HasRequest x
has_request None e = absurd (true≢false (sym e))
has_request (Some r) e = record { request = r; is = refl }

-- an element at a place is among the elements
pub at_place_in : (xs : List Object) (place : ℕ) (o : Object) → slice_get xs place ≡ Some o → IsIn o xs
at_place_in [] place o e = none_some e
at_place_in (x ∷ xs) zero o e = inl (one x o e)
at_place_in (x ∷ xs) (suc place) o e = inr (at_place_in xs place o e)

-- only classes are default ones
pub default_class_row : (o : Object) → is_default_row o ≡ true → (key_of o).kind ≡ kinds.StorageClass
default_class_row (Class x) e = refl
default_class_row (Volume v) e = absurd (true≢false (sym e))
default_class_row (Node x) e = absurd (true≢false (sym e))
default_class_row (Claim x) e = absurd (true≢false (sym e))
default_class_row (Pod x) e = absurd (true≢false (sym e))

-- under a volume's key stands a volume or nothing
pub data VolumeOr (x : Option Object) : Type 0 where
  IsNone : x ≡ None → VolumeOr x
  IsOne : (v : VolumeData) → x ≡ Some (Volume v) → VolumeOr x

pub volume_or : (name : List ℕ) (rows : List Object) (x : Option Object) → row_at (volume_key name) rows ≡ x → VolumeOr x
volume_or name rows None e = IsNone refl
volume_or name rows (Some (Volume v)) e = IsOne v refl
volume_or name rows (Some (Class o)) e = let k = ap (λ (k : Key). kind_index k.kind) (row_at_key (volume_key name) (Class o) rows e) in absurd (omega (arith, k))
volume_or name rows (Some (Node o)) e = let k = ap (λ (k : Key). kind_index k.kind) (row_at_key (volume_key name) (Node o) rows e) in absurd (omega (arith, k))
volume_or name rows (Some (Claim o)) e = let k = ap (λ (k : Key). kind_index k.kind) (row_at_key (volume_key name) (Claim o) rows e) in absurd (omega (arith, k))
volume_or name rows (Some (Pod o)) e = let k = ap (λ (k : Key). kind_index k.kind) (row_at_key (volume_key name) (Pod o) rows e) in absurd (omega (arith, k))

-- a valid class has no namespace
class_unplaced : (x : ClassData) → IsValid (Class x) → is_empty x.meta.namespace ≡ true
unfolding create_fault kind_fault class_fault
class_unplaced x e = by (not (is_subdomain x.meta.name)) (is_empty x.meta.namespace) e
  where
    by : (a b : Bool) → faulty a fields.Name
        (faulty (not b) fields.Namespace (faulty (is_empty x.provisioner) fields.Provisioner (faulty (has_twice x.meta.finalizers) fields.Finalizers None))) ≡ None → b ≡ true
    by true b e = fault_not _ _ e
    by false true e = refl
    by false false e = fault_not _ _ (fault_next _ _ e)

-- what an eligible volume is
record IsFitting (v : VolumeData) (c : ClaimData) : Type 0 where
  guarded : is_protected_volume v ≡ true
  staying : is_ended v.phase ≡ false
  open_to : (is_none v.claim_ref || is_for v c) ≡ true

fitting : (v : VolumeData) (c : ClaimData) → eligible v c None ≡ true → IsFitting v c
fitting v c e = by (is_deleting v.meta) (is_protected_volume v) (fits v c) (is_selected c.selector v.meta.labels) (is_for v c) (is_ended v.phase)
    (is_available v.phase) (is_none v.claim_ref) refl refl refl refl refl e
  where
    by : (deleting guarded fit selected own ended available free : Bool) → is_protected_volume v ≡ guarded → is_for v c ≡ own
        → is_ended v.phase ≡ ended → is_available v.phase ≡ available → is_none v.claim_ref ≡ free
        → (not deleting && guarded && fit && selected && true && ((own && not ended) || (available && free))) ≡ true → IsFitting v c
    by false true true true true false available free eg eo ee ea ef h = record { guarded = eg; staying = ee; open_to = rw eo (or_true (is_none v.claim_ref)) }
    by false true true true false ended true true eg eo ee ea ef h = record { guarded = eg; staying = available_stays v.phase ea; open_to = rw ef refl }
    by false true true true true true true true eg eo ee ea ef h = record { guarded = eg; staying = available_stays v.phase ea; open_to = rw ef refl }
    by false true true true true true true false eg eo ee ea ef h = absurd (true≢false (sym h))
    by false true true true true true false free eg eo ee ea ef h = absurd (true≢false (sym h))
    by false true true true false ended true false eg eo ee ea ef h = absurd (true≢false (sym h))
    by false true true true false ended false free eg eo ee ea ef h = absurd (true≢false (sym h))
    by true guarded fit selected own ended available free eg eo ee ea ef h = absurd (true≢false (sym h))
    by false false fit selected own ended available free eg eo ee ea ef h = absurd (true≢false (sym h))
    by false true false selected own ended available free eg eo ee ea ef h = absurd (true≢false (sym h))
    by false true true false own ended available free eg eo ee ea ef h = absurd (true≢false (sym h))

module _ (setup : Setup) (seat : ℕ) (role : Role) (start : List Entry) (key : Key) (c : ClaimData) (action : Due) (pass : ImportsPass setup.imports) (kind : role.kind ≡ seats.Binder)
    (there : row_at key (world setup start).store.rows ≡ Some (Claim c)) (due : claim_due (world setup start).store.rows c ≡ Some action) where
  controller : is_user role.kind ≡ false
  controller = ap is_user kind

  module _ (s : ActorState) (h : List Entry) (p : IsDecisionPoint setup seat role start s h) (d : ClaimData)
      (is : row_at key (world setup h).store.rows ≡ Some (Claim d)) (same : plain_claim d ≡ plain_claim c) where
    abbrev rows : List Object
    rows = (world setup h).store.rows

    abbrev cached : List Object
    cached = all_objects s.caches

    abbrev LastsFor : BinderFirst → Type 0
    LastsFor f = MachineLasts setup seat role start key h f

    s_kind : s.role.kind ≡ seats.Binder
    s_kind = ap (λ (r : Role). r.kind) p.role_is ∙ kind

    follows_it : (k : Key) → follows seats.Binder k.kind ≡ true → follows s.role.kind k.kind ≡ true
    follows_it k f = ap (λ x. follows x k.kind) s_kind ∙ f

    seen : row_at key cached ≡ Some (Claim d)
    seen = p.sees key (follows_it key (ap (λ (k : Key). follows seats.Binder k.kind) (sym (row_at_key key (Claim d) rows is)))) ∙ is

    volume_seen : (name : List ℕ) → row_at (volume_key name) cached ≡ row_at (volume_key name) rows
    volume_seen name = p.sees (volume_key name) (follows_it (volume_key name) refl)

    due_here : claim_due rows d ≡ Some action
    due_here = sym (claim_due_plain rows d) ∙ ((λ i. claim_due ((sym p.alike.rows) i) (same i)) ∙ (claim_due_plain (world setup start).store.rows c ∙ due))

    on_store : IsStored (world setup h) (Claim d)
    on_store = stored setup h key (Claim d) pass is

    known_some : is_some d.meta.uid ≡ true
    known_some = rows_known setup h pass key (Claim d) is

    known : HasUid d.meta.uid
    known = has_uid d.meta.uid known_some

    -- the machines

    loses : is_lost d.phase ≡ false → LastsFor (binder_firsts.Begins (machines.Loses d))
    unfolding call_of
    loses open_ = record {
      machine = machines.Loses d;
      is = refl;
      call = write_lost d;
      asks = refl;
      will = AtOnce p.alike
          (lost_lasts setup (world setup h) role.kind d d.got_modes d.got controller on_store open_);
    }

    abbrev reading : Under
    reading = record { key = key; task = tasks.Binder (machines.ReadsVolume d); call = Get (volume_key d.volume_name) }

    abbrev losing : Under
    losing = record { key = key; task = tasks.Binder (machines.Loses d); call = write_lost d }

    read_so : (x : Option Object) → is_completed d ≡ true → is_empty d.volume_name ≡ false → read_step d (as_volume x) ≡ claim_steps.Lost → under_after reading (got x) ≡ Some losing
    unfolding call_of moved claim_read
    read_so None completed named step = rw (completed, named, step) refl
    read_so (Some o) completed named step = rw (completed, named, step) refl

    reads_volume : is_completed d ≡ true → is_empty d.volume_name ≡ false → is_lost d.phase ≡ false
        → read_step d (as_volume (row_at (volume_key d.volume_name) rows)) ≡ claim_steps.Lost → LastsFor (binder_firsts.Begins (machines.ReadsVolume d))
    unfolding call_of
    reads_volume completed named open_ step = record {
      machine = machines.ReadsVolume d;
      is = refl;
      call = Get (volume_key d.volume_name);
      asks = rw known_some refl;
      will = Later p.alike losing (ap (under_after reading) (get_said setup (world setup h) role.kind (volume_key d.volume_name)) ∙ read_so
          (row_at (volume_key d.volume_name) rows) completed named step)
          (AtOnce (subst (AreAlike (world setup start)) (sym same_world) p.alike)
          (lost_lasts setup _ role.kind d d.got_modes d.got controller (subst (λ w. IsStored w (Claim d)) (sym same_world) on_store) open_));
    }
      where
        same_world : world setup (own_entry setup seat role.kind h (Get (volume_key d.volume_name)) ∷ h) ≡ world setup h
        same_world = get_stays setup (world setup h) role.kind (volume_key d.volume_name)

    binds : (v : VolumeData) → IsStored (world setup h) (Volume v) → (is_none v.claim_ref || is_for v d) ≡ true
        → (is_empty d.volume_name || bytes_eq d.volume_name v.meta.name) ≡ true → is_some (next_write v d) ≡ true → IsOpenTo v d → LastsFor (binder_firsts.Begins (machines.Binds v d))
    unfolding call_of
    binds v sv open_to named writes open_ =
        let r = has_request (next_write v d) writes in
        record {
          machine = machines.Binds v d;
          is = refl;
          call = r.request;
          asks = rw (known_some, ap is_empty (no_namespace v sv.valid), open_to, named) r.is;
          will = AtOnce p.alike (next_lasts setup (world setup h) role.kind controller v d sv on_store known.uid known.is open_ r.request r.is);
        }

    assigns : (x : ClassData) → row_at (key_of (Class x)) cached ≡ Some (Class x) → lacks_class d ≡ true → is_completed d ≡ false → LastsFor (binder_firsts.Begins (machines.AssignsClass d x))
    unfolding call_of
    assigns x there_ lacks open_ =
        let on : row_at (key_of (Class x)) rows ≡ Some (Class x) = sym (p.sees (key_of (Class x)) (follows_it (key_of (Class x)) refl)) ∙ there_ in
        let sx = stored setup h (key_of (Class x)) (Class x) pass on in
        record {
          machine = machines.AssignsClass d x;
          is = refl;
          call = write_class d x;
          asks = rw (known_some, class_unplaced x sx.valid) refl;
          will = AtOnce p.alike (class_lasts setup (world setup h) role.kind d x.meta.name controller on_store lacks open_);
        }

    -- the decision

    of_one : (f g : BinderFirst) → f ≡ g → LastsFor g → LastsFor f
    of_one f g e l = subst LastsFor (sym e) l

    stays_lost : (step : ClaimStep) → is_lost d.phase ≡ false → unless_lost d step ≡ step
    stays_lost step open_ = ap (λ b. if b then claim_steps.Nothing else step) open_

    -- the volume that the claim names
    named_by : (v : VolumeData) → row_at (volume_key d.volume_name) rows ≡ Some (Volume v) → d.volume_name ≡ v.meta.name
    named_by v on = ap (λ (k : Key). k.name) (sym (row_at_key (volume_key d.volume_name) (Volume v) rows on))

    named_so : (v : VolumeData) → row_at (volume_key d.volume_name) rows ≡ Some (Volume v) → (is_empty d.volume_name || bytes_eq d.volume_name v.meta.name) ≡ true
    named_so v on = or_right (is_empty d.volume_name) (bytes_eq d.volume_name v.meta.name) ((bytes_eq-Decides d.volume_name v.meta.name).1 (named_by v on))

    -- a binding to the volume that the claim names
    binds_named : (f : BinderFirst) → is_empty d.volume_name ≡ false → IsBindingTo cached d f
        → ((v : VolumeData) → row_at (volume_key d.volume_name) rows ≡ Some (Volume v) → LastsFor (binder_firsts.Begins (machines.Binds v d))) → LastsFor f
    binds_named f named b each =
        let choice : IsVolumeFor false cached d (Some b.place) = subst (λ x. IsVolumeFor x cached d (Some b.place)) named b.choice in
        of_one f _ b.begins (each b.volume (sym (volume_seen d.volume_name) ∙ (sym choice ∙ b.there)))

    -- completed, and not with a volume that has it
    completed_away : (f : BinderFirst) → row_at (volume_key d.volume_name) rows ≡ None → is_completed d ≡ true → is_empty d.volume_name ≡ false → lost_due d ≡ Some action
        → IsClaimFirst cached d (unless_lost d claim_steps.ReadVolume) f → LastsFor f
    completed_away f on completed named e i =
        let open_ = lost_open d action e in
        of_one f _ (subst (λ st. IsClaimFirst cached d st f) (stays_lost claim_steps.ReadVolume open_) i)
        (reads_volume completed named open_ (ap (λ x. read_step d (as_volume x)) on ∙ stays_lost claim_steps.Lost open_))

    completed_on : (v : VolumeData) (f : BinderFirst) → row_at (volume_key d.volume_name) rows ≡ Some (Volume v) → is_completed d ≡ true
        → is_empty d.volume_name ≡ false → completed_due d (Some (Volume v)) ≡ Some action
        → IsClaimFirst cached d (completed_step d NotAsked (Some v)) f → LastsFor f
    unfolding completed_due
    completed_on v f on completed named e i = by (has_other_uid v d) (is_none v.claim_ref || carries v d) (is_some (next_write v d)) refl refl refl e i
      where
        by : (other carried writes : Bool) → has_other_uid v d ≡ other → (is_none v.claim_ref || carries v d) ≡ carried
            → is_some (next_write v d) ≡ writes → (if other then lost_due d else if carried && writes then Some dues.Bind else None) ≡ Some action
            → IsClaimFirst cached d (if other then unless_lost d claim_steps.Lost else if carried && writes then claim_steps.Bind else claim_steps.Nothing) f → LastsFor f
        by true carried writes eo ec ew e i =
            let open_ = lost_open d action e in
            of_one f _ (subst (λ st. IsClaimFirst cached d st f) (stays_lost claim_steps.Lost open_) i ∙ ap (λ b. binder_firsts.Begins (lost_for b d)) named)
            (reads_volume completed named open_ (ap (λ x. read_step d (as_volume x)) on ∙
            (ap (λ b. if b then unless_lost d claim_steps.Lost else claim_steps.Nothing) eo ∙ stays_lost claim_steps.Lost open_)))
        by false true true eo ec ew e i = binds_named f named i (λ u at.
            let is_v : u ≡ v = ap (volume_in v) (sym at ∙ on) in
            subst (λ x. LastsFor (binder_firsts.Begins (machines.Binds x d))) (sym is_v)
            (binds v (stored setup h (volume_key d.volume_name) (Volume v) pass on) (carried_open v d ec) (named_so v on) ew
            (inr (and_from (is_completed d) (bytes_eq d.volume_name v.meta.name) completed ((bytes_eq-Decides d.volume_name v.meta.name).1 (named_by v on))))))
        by false true false eo ec ew e i = none_some e
        by false false writes eo ec ew e i = none_some e

    completed_so : (f : BinderFirst) → is_completed d ≡ true → is_empty d.volume_name ≡ false
        → completed_due d (row_at (volume_key d.volume_name) rows) ≡ Some action → IsClaimFirst cached d (completed_step d NotAsked (named_volume cached d)) f → LastsFor f
    unfolding completed_due
    completed_so f completed named e i = by (volume_or d.volume_name rows (row_at (volume_key d.volume_name) rows) refl)
      where
        seen_step : (x : Option Object) → row_at (volume_key d.volume_name) rows ≡ x → IsClaimFirst cached d (completed_step d NotAsked (as_volume x)) f
        seen_step x on = subst (λ y. IsClaimFirst cached d (completed_step d NotAsked (as_volume y)) f) (volume_seen d.volume_name ∙ on) i

        by : VolumeOr (row_at (volume_key d.volume_name) rows) → LastsFor f
        by (IsNone on) = completed_away f on completed named (sym (ap (completed_due d) on) ∙ e) (seen_step None on)
        by (IsOne v on) = completed_on v f on completed named (sym (ap (completed_due d) on) ∙ e) (seen_step (Some (Volume v)) on)

    -- open, and it names a volume
    named_on : (v : VolumeData) (f : BinderFirst) → row_at (volume_key d.volume_name) rows ≡ Some (Volume v) → is_completed d ≡ false
        → is_empty d.volume_name ≡ false → named_due d (Some (Volume v)) ≡ Some action → IsClaimFirst cached d (named_step d (Some v)) f → LastsFor f
    unfolding named_due
    named_on v f on open_ named e i = by (is_deleting v.meta) (is_protected_volume v) (is_ended v.phase) (is_none v.claim_ref) (fits v d) (is_for v d) refl refl refl refl refl e i
      where
        go : is_protected_volume v ≡ true → is_ended v.phase ≡ false → (is_none v.claim_ref || is_for v d) ≡ true → IsBindingTo cached d f → LastsFor f
        go guarded staying open_to b = binds_named f named b (λ u at.
            let is_v : u ≡ v = ap (volume_in v) (sym at ∙ on) in
            subst (λ x. LastsFor (binder_firsts.Begins (machines.Binds x d))) (sym is_v)
            (binds v (stored setup h (volume_key d.volume_name) (Volume v) pass on) open_to (named_so v on)
            (next_some v d staying guarded (ap (λ b. b && bytes_eq d.volume_name v.meta.name) open_)) (inl (open_, inr (named_by v on)))))

        by : (deleting guarded ended free fit own : Bool) → is_protected_volume v ≡ guarded → is_ended v.phase ≡ ended → is_none v.claim_ref ≡ free → fits v d ≡ fit → is_for v d ≡ own
            → (if deleting || not guarded || ended then None else if free then (if fit then Some dues.Bind else None) else if own then Some dues.Bind else None) ≡ Some action
            → IsClaimFirst cached d (if deleting || not guarded || ended then claim_steps.Nothing else if (if free then fit else own) then claim_steps.Bind else claim_steps.Nothing) f → LastsFor f
        by true guarded ended free fit own eg ee ef et eo e i = none_some e
        by false false ended free fit own eg ee ef et eo e i = none_some e
        by false true true free fit own eg ee ef et eo e i = none_some e
        by false true false true true own eg ee ef et eo e i = go eg ee (ap (λ b. b || is_for v d) ef) i
        by false true false true false own eg ee ef et eo e i = none_some e
        by false true false false fit true eg ee ef et eo e i = go eg ee (rw (ef, eo) refl) i
        by false true false false fit false eg ee ef et eo e i = none_some e

    named_rest : (f : BinderFirst) → is_completed d ≡ false → is_empty d.volume_name ≡ false
        → named_due d (row_at (volume_key d.volume_name) rows) ≡ Some action → IsClaimFirst cached d (named_step d (named_volume cached d)) f → LastsFor f
    unfolding named_due
    named_rest f open_ named e i = by (volume_or d.volume_name rows (row_at (volume_key d.volume_name) rows) refl)
      where
        by : VolumeOr (row_at (volume_key d.volume_name) rows) → LastsFor f
        by (IsNone on) = none_some (sym (ap (named_due d) on) ∙ e)
        by (IsOne v on) = named_on v f on open_ named (sym (ap (named_due d) on) ∙ e) (subst (λ y. IsClaimFirst cached d (named_step d (as_volume y)) f) (volume_seen d.volume_name ∙ on) i)

    -- open, and it names none

    agree : AgreeForBinder cached rows
    agree k f = p.sees k (follows_it k f)

    -- what stands in the store is cached, and the other way round, of a kind that is followed
    to_cache : (o : Object) → follows seats.Binder (key_of o).kind ≡ true → IsIn o rows → IsIn o cached
    to_cache o f i = goes_over rows cached (rows_stand_in_order setup h) (λ k g. sym (agree k g)) o f i

    of_cache : (o : Object) → follows seats.Binder (key_of o).kind ≡ true → IsIn o cached → IsIn o rows
    of_cache o f i = goes_over cached rows p.ready.rows agree o f i

    match_seen : has_match cached d ≡ has_match rows d
    match_seen = match_same cached rows d p.ready.rows (rows_stand_in_order setup h) agree

    default_seen : list_any is_default_row rows ≡ true → list_any is_default_row cached ≡ true
    default_seen e = some_among is_default_row rows cached (λ o i t. to_cache o (ap (λ k. follows seats.Binder k) (default_class_row o t)) i) e

    matched : (f : BinderFirst) → is_completed d ≡ false → is_empty d.volume_name ≡ true → IsBindingTo cached d f → LastsFor f
    matched f open_ empty b =
        let best : IsBestAt cached d None (waits_for_pod cached d) [] b.place = subst (λ x. IsVolumeFor x cached d (Some b.place)) empty b.choice in
        let is_v : b.volume ≡ best.volume = ap (volume_in b.volume) (sym b.there ∙ best.candidate.there) in
        let fit = fitting b.volume d (ap (λ v. eligible v d None) is_v ∙ best.candidate.eligible) in
        let there_ : IsIn (Volume b.volume) cached =
        some_filter (λ z. z ≡ Volume b.volume) (is_of_kind kinds.PersistentVolume) cached (at_place_in (rows_of kinds.PersistentVolume cached) b.place (Volume b.volume) b.there) in
        let on : row_at (key_of (Volume b.volume)) rows ≡ Some (Volume b.volume) = member_stands (Volume b.volume) rows (rows_stand_in_order setup h) (of_cache (Volume b.volume) refl there_) in
        of_one f _ b.begins
        (binds b.volume (stored setup h (key_of (Volume b.volume)) (Volume b.volume) pass on) fit.open_to
        (ap (λ x. x || bytes_eq d.volume_name b.volume.meta.name) empty)
        (next_some b.volume d fit.staying fit.guarded (ap (λ x. x && bytes_eq d.volume_name b.volume.meta.name) open_)) (inl (open_, inl empty)))

    unnamed_so : (f : BinderFirst) → is_completed d ≡ false → is_empty d.volume_name ≡ true
        → (if has_match rows d then Some dues.Bind else class_due rows d) ≡ Some action → IsClaimFirst cached d (unnamed_step cached d) f → LastsFor f
    unnamed_so f open_ empty e i = by (has_match rows d) (lacks_class d) (list_any is_default_row rows) refl refl refl e
      where
        by : (found lacks marked : Bool) → has_match rows d ≡ found → lacks_class d ≡ lacks → list_any is_default_row rows ≡ marked
            → (if found then Some dues.Bind else if lacks && marked then Some dues.AssignClass else None) ≡ Some action → LastsFor f
        by true lacks marked ef el em e = matched f open_ empty (subst
            (λ b. IsClaimFirst cached d (if b then claim_steps.Bind else if may_assign cached d then claim_steps.AssignClass else claim_steps.Nothing) f) (match_seen ∙ ef) i)
        by false true true ef el em e =
            let none : has_match cached d ≡ false = match_seen ∙ ef in
            let may : may_assign cached d ≡ true = and_from (lacks_class d) (list_any is_default_row cached) el (default_seen em) in
            let a : IsAssignmentOf cached d f = subst (λ b. IsClaimFirst cached d (if b then claim_steps.AssignClass else claim_steps.Nothing) f) may
            (subst (λ b. IsClaimFirst cached d (if b then claim_steps.Bind else if may_assign cached d then claim_steps.AssignClass else claim_steps.Nothing) f) none i) in
            of_one f _ a.begins (assigns a.class a.default.there el open_)
        by false true false ef el em e = none_some e
        by false false marked ef el em e = none_some e

    each : (f : BinderFirst) → IsFirst cached (row_at key cached) f → LastsFor f
    unfolding claim_due claim_decision
    each f i = by (is_completed d) (is_empty d.volume_name) (is_deleting d.meta) refl refl due_here (subst (λ x. IsFirst cached x f) seen i)
      where
        by : (completed empty deleting : Bool) → is_completed d ≡ completed → is_empty d.volume_name ≡ empty
            → (if completed then (if empty then lost_due d else completed_due d (row_at (volume_key d.volume_name) rows)) else if deleting then None
            else if empty then (if has_match rows d then Some dues.Bind else class_due rows d) else named_due d (row_at (volume_key d.volume_name) rows)) ≡ Some action
            → IsClaimFirst cached d (if completed then
            (if empty then unless_lost d claim_steps.Lost else completed_step d NotAsked (named_volume cached d)) else if deleting then
            claim_steps.Nothing else if empty then unnamed_step cached d else named_step d (named_volume cached d)) f
            → LastsFor f
        by true true deleting ec ee e i =
            let open_ = lost_open d action e in
            of_one f _ (subst (λ st. IsClaimFirst cached d st f) (stays_lost claim_steps.Lost open_) i ∙ ap (λ b. binder_firsts.Begins (lost_for b d)) ee) (loses open_)
        by true false deleting ec ee e i = completed_so f ec ee e i
        by false empty true ec ee e i = none_some e
        by false true false ec ee e i = unnamed_so f ec ee e i
        by false false false ec ee e i = named_rest f ec ee e i

    decides : (first : First) → IsDecision s.role s.memory (all_objects s.caches) key first → DecisionLasts setup seat role start key h first
    decides first x = by_machine setup seat role start key h cached each first (subst (λ k. IsFirstOf k s.role.node s.memory cached key first) s_kind x)

  at_point : (s : ActorState) (h : List Entry) → IsDecisionPoint setup seat role start s h → (first : First)
      → IsDecision s.role s.memory (all_objects s.caches) key first → DecisionLasts setup seat role start key h first
  at_point s h p first x = let at = claim_alike (world setup start) (world setup h) key c p.alike there in decides s h p at.claim at.is at.same first x

pub claims_act : ClaimsAct
claims_act setup seat role start key c action pass kind there due = acts_each setup seat role start key (at_point setup seat role start key c action pass kind there due)
