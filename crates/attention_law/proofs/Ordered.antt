-- Rows in order are enough to know that a key is due.
use Rattle.std.proofs.Common.{◌≡◌, ℕ, List, [], ◌∷◌, ◌++◌, Bool, true, false, true≢false, Option, Some, None, inl, inr, refl, sym, ◌∙◌, ap, subst, slice_get, is_some, arith, if◌then◌else◌}
use Rattle.std.specs.Prelude.{◌&&◌, ◌||◌, is_none, bytes_eq}
use Rattle.kube_objects.specs.declared.key.Key.{Key}
use Rattle.kube_types.specs.declared.lookup.Live.TheVariants.{NotAsked}
use Rattle.kube_parts.specs.declared.parts.Kind.TheVariants as kinds
use Rattle.kube_objects.specs.declared.objects.Object.{Object}
use Rattle.kube_objects.specs.declared.objects.Object.TheVariants.{Class, Node, Volume, Claim, Pod}
use Rattle.kube_objects.specs.declared.objects.Volume.{Volume as VolumeData}
use Rattle.kube_objects.specs.declared.objects.Claim.{Claim as ClaimData}
use Rattle.kube_objects.specs.Bindings.{class_of_claim, is_completed, is_deleting, is_empty, is_for}
use Rattle.kube_objects.specs.Keys.{AreRows, key_of, kind_index, kind_of, row_at, rows_of}
use Rattle.kube_objects.proofs.KeyOrder.{row_at_key}
use Rattle.kube_objects.proofs.RowPlaces.{row_at_place}
use Rattle.call_types.specs.declared.entry.Entry.{Entry}
use Rattle.call_types.specs.declared.request.Request.{Request}
use Rattle.call_types.specs.declared.request.SeatKind.{SeatKind}
use Rattle.call_types.specs.declared.request.SeatKind.TheVariants as seats
use Rattle.call_types.specs.declared.request.SeatKind.TheVariants.{Binder}
use Rattle.binder_model.specs.BindWrites.{next_write}
use Rattle.binder_model.specs.Matching.{IsBestAt, binder_takes, eligible, has_match, is_delayed, only_own_passes, waits_for_pod}
use Rattle.binder_model.specs.ObjectKeys.{class_key}
use Rattle.volume_index.specs.VolumeIndex.{as_volume}
use Rattle.claim_sync.specs.ClaimDecision.{IsVolumeFor, claim_decision, may_assign}
use Rattle.claim_sync.specs.declared.action.ClaimStep.{ClaimStep}
use Rattle.claim_sync.specs.declared.action.ClaimStep.TheVariants as steps
use Rattle.binder_machines.specs.declared.decide.FirstMachine.{FirstMachine as BinderFirst}
use Rattle.binder_machines.specs.declared.decide.FirstMachine.TheVariants as binder_firsts
use Rattle.binder_machines.specs.declared.machine.Machine.{Machine}
use Rattle.binder_machines.specs.declared.machine.Machine.TheVariants.{Binds}
use Rattle.binder_machines.specs.FirstSteps.{IsBindingTo, IsClaimFirst, IsFirst}
use Rattle.binder_machines.specs.Machines.{bind_call, call_of, may_bind}
use Rattle.model_laws.proofs.Lists.{none_some, one}
use Rattle.worker_core.specs.declared.role.Role.{Role}
use Rattle.worker_core.specs.declared.task.First.{First}
use Rattle.worker_core.specs.declared.task.First.TheVariants as firsts
use Rattle.worker_core.specs.declared.task.Task.TheVariants as tasks
use Rattle.worker_core.specs.declared.task.Under.{Under}
use Rattle.worker_core.specs.Memories.{memory_of}
use Rattle.worker_core.specs.Roles.{IsBuiltKind}
use Rattle.worker_core.specs.Tasks.{GivesCall, IsBinderFirst, IsFirstOf, task_call}
use Rattle.attention_law.specs.Diligence.{BeginsCall, Call, IsKeyDue, IsDueThroughout, Shows, entries}
use Rattle.attention_law.specs.Showing.{HaveNoNamespace, IsDueInOrderThroughout, IsLookedUp, PlayedIsDiligentInOrder, RowsInOrderAreEnough}
use Rattle.attention_law.proofs.Following.{played_is_diligent}
use Rattle.attention_law.proofs.Seeking.{binds, found_any, placed_row, serves}
use Rattle.attention_law.proofs.Alike.{rows_alike}
use Rattle.attention_law.proofs.Showings.{begins_binder, binder_only, claim_same, machine_in, one_showing}

bind_is : (v : VolumeData) (c : ClaimData) → call_of (Binds v c) ≡ bind_call v c
unfolding call_of
bind_is v c = refl

-- a binding that has a call is one of a claim with a UID
known_claim : (v : VolumeData) (c : ClaimData) (r : Request) → bind_call v c ≡ Some r → is_some c.meta.uid ≡ true
known_claim v c r e = by (is_some c.meta.uid) refl
  where
    by : (b : Bool) → is_some c.meta.uid ≡ b → is_some c.meta.uid ≡ true
    by true f = f
    by false f =
        let none : may_bind v c ≡ false = ap (λ b. b && is_empty v.meta.namespace && (is_none v.claim_ref || is_for v c) && (is_empty c.volume_name || bytes_eq c.volume_name v.meta.name)) f in
        none_some (sym (ap (λ b. if b then next_write v c else None) none) ∙ e)

-- a claim for which a volume is sought, and found
module _ (rows : List Object) (order : AreRows rows) (spaceless : HaveNoNamespace rows) (c : ClaimData) (open_ : is_completed c ≡ false)
    (unnamed : is_empty c.volume_name ≡ true) (matches : has_match rows c ≡ true) (m : Machine) (call : Request) (asks : call_of m ≡ Some call)
    (begins : IsFirst rows (Some (Claim c)) (binder_firsts.Begins m)) where
  sought : Bool → ClaimStep
  sought deleting = if deleting then steps.Nothing else steps.Bind

  sought_is : (rs : List Object) → has_match rs c ≡ true → claim_decision rs c NotAsked ≡ sought (is_deleting c.meta)
  unfolding claim_decision sought
  sought_is rs found = rw (open_, unnamed, found) refl

  record Sought : Type 0 where
    staying : is_deleting c.meta ≡ false
    binding : IsBindingTo rows c (binder_firsts.Begins m)

  sought_here : Sought
  unfolding sought
  sought_here = by (is_deleting c.meta) refl (subst (λ s. IsClaimFirst rows c s (binder_firsts.Begins m)) (sought_is rows matches) begins)
    where
      by : (a : Bool) → is_deleting c.meta ≡ a → IsClaimFirst rows c (sought a) (binder_firsts.Begins m) → Sought
      by true ea d = none_some (sym (ap machine_in d))
      by false ea d = record { staying = ea; binding = d }

  best_in : (rs : List Object) (first : BinderFirst) (b : IsBindingTo rs c first) → IsBestAt rs c None (waits_for_pod rs c) [] b.place
  best_in rs first b = subst (λ e. IsVolumeFor e rs c (Some b.place)) unnamed b.choice

  best : IsBestAt rows c None (waits_for_pod rows c) [] sought_here.binding.place
  best = best_in rows (binder_firsts.Begins m) sought_here.binding

  known : is_some c.meta.uid ≡ true
  known =
      let is : m ≡ Binds sought_here.binding.volume c = one m _ (ap machine_in sought_here.binding.begins) in
      known_claim sought_here.binding.volume c call (sym (bind_is sought_here.binding.volume c) ∙ ap call_of (sym is) ∙ asks)

  module _ (other : List Object) (same : (k : Key) → row_at k other ≡ row_at k rows) where
    matched : has_match other c ≡ true
    matched = found_any (binder_takes other c) (key_of (Volume best.volume)) (Volume best.volume) other
        (same (key_of (Volume best.volume)) ∙ row_at_place kinds.PersistentVolume sought_here.binding.place (Volume best.volume) rows order best.candidate.there)
        (ap (λ b. b && only_own_passes (waits_for_pod other c) best.volume c) best.candidate.eligible
        ∙ ap (λ o. only_own_passes (is_delayed o) best.volume c) (same (class_key (class_of_claim c))) ∙ best.candidate.own)

    -- the volume under a key has no namespace
    no_space : (w : VolumeData) (i : ℕ) → slice_get (rows_of kinds.PersistentVolume other) i ≡ Some (Volume w) → w.meta.namespace ≡ []
    no_space w i there = by (row_at (key_of (Volume w)) other) refl (placed_row kinds.PersistentVolume i (Volume w) other there)
      where
        wrong : (x : Object) → row_at (key_of (Volume w)) other ≡ Some x → kind_index (kind_of x) ≡ 2
        wrong x e = ap (λ (k : Key). kind_index k.kind) (row_at_key (key_of (Volume w)) x other e)

        by : (r : Option Object) → row_at (key_of (Volume w)) other ≡ r → is_some r ≡ true → w.meta.namespace ≡ []
        by None e some = absurd (true≢false (sym some))
        by (Some (Volume x)) e some = sym (ap (λ (k : Key). k.namespace) (row_at_key (key_of (Volume w)) (Volume x) other e)) ∙ spaceless (key_of (Volume w)) x (sym (same (key_of (Volume w))) ∙ e)
        by (Some (Class x)) e some = let h : 0 ≡ 2 = wrong (Class x) e in absurd (omega (arith, h))
        by (Some (Node x)) e some = let h : 1 ≡ 2 = wrong (Node x) e in absurd (omega (arith, h))
        by (Some (Claim x)) e some = let h : 3 ≡ 2 = wrong (Claim x) e in absurd (omega (arith, h))
        by (Some (Pod x)) e some = let h : 4 ≡ 2 = wrong (Pod x) e in absurd (omega (arith, h))

    record Bound (g : BinderFirst) : Type 0 where
      volume : VolumeData
      is : g ≡ binder_firsts.Begins (Binds volume c)
      some : is_some (bind_call volume c) ≡ true

    bound : (g : BinderFirst) → IsFirst other (Some (Claim c)) g → Bound g
    unfolding sought
    bound g d = record {
      volume = b.volume;
      is = b.begins;
      some = binds b.volume c (serves b.volume c eligible_) open_ unnamed known (no_space b.volume b.place b.there);
    }
      where
        decided : claim_decision other c NotAsked ≡ steps.Bind
        decided = sought_is other matched ∙ ap sought sought_here.staying

        b : IsBindingTo other c g
        b = subst (λ s. IsClaimFirst other c s g) decided d

        best_there : IsBestAt other c None (waits_for_pod other c) [] b.place
        best_there = best_in other g b

        eligible_ : eligible b.volume c None ≡ true
        eligible_ = subst (λ v. eligible v c None ≡ true) (one best_there.volume b.volume (ap as_volume (sym best_there.candidate.there ∙ b.there))) best_there.candidate.eligible

    begins_call : (first : First) (key : Key) → row_at key other ≡ Some (Claim c) → IsBinderFirst other key first → BeginsCall first
    begins_call first key row d = by first d
      where
        on : (g : BinderFirst) → IsFirst other (row_at key other) g → Bound g
        on g h = bound g (subst (λ r. IsFirst other r g) row h)

        begins_by : (n : Machine) (x : Bound (binder_firsts.Begins n)) → BeginsCall (firsts.Begins (tasks.Binder n))
        begins_by n x = with_call (bind_call x.volume c) refl x.some
          where
            with_call : (r : Option Request) → bind_call x.volume c ≡ r → is_some r ≡ true → BeginsCall (firsts.Begins (tasks.Binder n))
            with_call None e some = absurd (true≢false (sym some))
            with_call (Some r) e some = record { task = tasks.Binder n; request = r; begins = refl; call = ap call_of (one n (Binds x.volume c) (ap machine_in x.is)) ∙ bind_is x.volume c ∙ e }

        by : (f : First) → IsBinderFirst other key f → BeginsCall f
        by firsts.Drops h = none_some (ap machine_in (on binder_firsts.Drops h).is)
        by (firsts.Queues k) h = none_some (ap machine_in (on (binder_firsts.Queues k) h).is)
        by (firsts.Begins (tasks.Binder n)) h = begins_by n (on (binder_firsts.Begins n) h)
        by (firsts.Begins _) h = absurd h

abbrev is_bind : ClaimStep → Bool
is_bind steps.Bind = true
is_bind step = false

-- where no volume is found none is bound
unmatched : (rows : List Object) (c : ClaimData) → is_completed c ≡ false → is_empty c.volume_name ≡ true → has_match rows c ≡ false → claim_decision rows c NotAsked ≡ steps.Bind → ⊥
unfolding claim_decision
unmatched rows c open_ unnamed none e = by (is_deleting c.meta) (may_assign rows c) (rw (open_, unnamed, none) at e)
  where
    by : (deleting assignable : Bool) → (if deleting then steps.Nothing else if assignable then steps.AssignClass else steps.Nothing) ≡ steps.Bind → ⊥
    by true assignable n = true≢false (sym (ap is_bind n))
    by false true n = true≢false (sym (ap is_bind n))
    by false false n = true≢false (sym (ap is_bind n))

in_order : (role : Role) (key : Key) (mine : List Entry) (rows : List Object) (u : Under) → role.kind ≡ Binder → Shows mine rows
    → HaveNoNamespace rows → u.key ≡ key → GivesCall role (memory_of role mine) rows u → IsKeyDue role key mine
in_order role key mine rows u binder shows spaceless own gives = by (row_at key rows) refl
  where
    looked : IsLookedUp Binder (row_at key rows) → IsKeyDue role key mine
    looked l = one_showing role key mine rows u (subst IsBuiltKind (sym binder) tt) shows (subst (λ seat. IsLookedUp seat (row_at key rows)) (sym binder) l) own gives

    decided : IsBinderFirst rows key (firsts.Begins u.task)
    decided = subst (λ k. IsBinderFirst rows k (firsts.Begins u.task)) own (subst (λ x. IsFirstOf x role.node (memory_of role mine) rows u.key (firsts.Begins u.task)) binder gives.decided)

    begun : (m : Machine) × ((u.task ≡ tasks.Binder m) × IsFirst rows (row_at key rows) (binder_firsts.Begins m))
    begun = begins_binder rows key u.task decided

    nothing : binder_firsts.Begins begun.0 ≡ binder_firsts.Drops → IsKeyDue role key mine
    nothing e = none_some (sym (ap machine_in e))

    at : (r : Option Object) → row_at key rows ≡ r → IsFirst rows r (binder_firsts.Begins begun.0)
    at r e = subst (λ x. IsFirst rows x (binder_firsts.Begins begun.0)) e begun.1.1

    finds : (c : ClaimData) → row_at key rows ≡ Some (Claim c) → is_completed c ≡ false → is_empty c.volume_name ≡ true → has_match rows c ≡ true → IsKeyDue role key mine
    finds c e open_ unnamed matches = record {
      rows = rows;
      shows = shows;
      under = u;
      own = own;
      gives = gives;
      only = λ other others first d.
          begins_call rows shows.order spaceless c open_ unnamed matches begun.0 u.call (ap task_call (sym begun.1.0) ∙ gives.call)
          (at (Some (Claim c)) e) other (λ k. others.shown k ∙ sym (shows.shown k)) first key
          (others.shown key ∙ sym (shows.shown key) ∙ e) (subst (λ x. IsFirstOf x role.node (memory_of role mine) other key first) binder d);
    }

    -- where no volume is found the decision is one
    same : (c : ClaimData) → row_at key rows ≡ Some (Claim c) → is_completed c ≡ false → is_empty c.volume_name ≡ true → has_match rows c ≡ false
        → (f g : BinderFirst) → IsFirst rows (row_at key rows) f → IsFirst rows (row_at key rows) g → g ≡ f
    same c e open_ unnamed none f g d h =
        claim_same rows c (claim_decision rows c NotAsked) f g (λ binds. absurd (unmatched rows c open_ unnamed none binds)) (subst (λ r. IsFirst rows r f) e d) (subst (λ r. IsFirst rows r g) e h)

    finds_none : (c : ClaimData) → row_at key rows ≡ Some (Claim c) → is_completed c ≡ false → is_empty c.volume_name ≡ true → has_match rows c ≡ false → IsKeyDue role key mine
    finds_none c e open_ unnamed none = record {
      rows = rows;
      shows = shows;
      under = u;
      own = own;
      gives = gives;
      only = λ other others first d.
          binder_only key rows u shows.order gives.call (same c e open_ unnamed none) decided first
          (subst (λ rs. IsBinderFirst rs key first) (rows_alike rows other shows.order others.order (λ k. others.shown k ∙ sym (shows.shown k)))
          (subst (λ x. IsFirstOf x role.node (memory_of role mine) other key first) binder d));
    }

    seeks : (c : ClaimData) → row_at key rows ≡ Some (Claim c) → is_completed c ≡ false → is_empty c.volume_name ≡ true → (b : Bool) → has_match rows c ≡ b → IsKeyDue role key mine
    seeks c e open_ unnamed true matches = finds c e open_ unnamed matches
    seeks c e open_ unnamed false matches = finds_none c e open_ unnamed matches

    claim : (c : ClaimData) → row_at key rows ≡ Some (Claim c) → (a b : Bool) → is_completed c ≡ a → is_empty c.volume_name ≡ b → IsKeyDue role key mine
    claim c e true b ea eb = looked (subst (λ r. IsLookedUp Binder r) (sym e) (inl ea))
    claim c e false false ea eb = looked (subst (λ r. IsLookedUp Binder r) (sym e) (inr eb))
    claim c e false true ea eb = seeks c e ea eb (has_match rows c) refl

    by : (r : Option Object) → row_at key rows ≡ r → IsKeyDue role key mine
    by None e = nothing (at None e)
    by (Some (Class x)) e = nothing (at (Some (Class x)) e)
    by (Some (Node x)) e = nothing (at (Some (Node x)) e)
    by (Some (Pod x)) e = nothing (at (Some (Pod x)) e)
    by (Some (Volume v)) e = looked (subst (λ r. IsLookedUp Binder r) (sym e) tt)
    by (Some (Claim c)) e = claim c e (is_completed c) (is_empty c.volume_name) refl refl

pub rows_in_order : RowsInOrderAreEnough
rows_in_order role key mine built due = by role.kind refl built
  where
    looked : IsLookedUp role.kind (row_at key due.rows) → IsKeyDue role key mine
    looked l = one_showing role key mine due.rows due.under built due.shows l due.own due.gives

    by : (seat : SeatKind) → role.kind ≡ seat → IsBuiltKind seat → IsKeyDue role key mine
    by seats.Binder is b = in_order role key mine due.rows due.under is due.shows (due.spaceless is) due.own due.gives
    by seats.ClaimProtect is b = looked (subst (λ seat. IsLookedUp seat (row_at key due.rows)) (sym is) tt)
    by seats.VolumeProtect is b = looked (subst (λ seat. IsLookedUp seat (row_at key due.rows)) (sym is) tt)
    by seats.Ops is b = looked (subst (λ seat. IsLookedUp seat (row_at key due.rows)) (sym is) tt)
    by seats.User is b = absurd b
    by seats.Scheduler is b = looked (subst (λ seat. IsLookedUp seat (row_at key due.rows)) (sym is) tt)
    by seats.Agent is b = looked (subst (λ seat. IsLookedUp seat (row_at key due.rows)) (sym is) tt)

-- lives

throughout : (role : Role) (key : Key) (before since : List Call) → IsBuiltKind role.kind → IsDueInOrderThroughout role key before since → IsDueThroughout role key before since
throughout role key before [] built due = rows_in_order role key (entries before) built due
throughout role key before (c ∷ since) built due = (rows_in_order role key (entries (c ∷ since ++ before)) built due.0, throughout role key before since built due.1)

pub played_in_order : PlayedIsDiligentInOrder
played_in_order role s calls built played kind first fourth earlier between later e four key due =
    played_is_diligent role s calls built played kind first fourth earlier between later e four key (throughout role key (Some first ∷ earlier) between built due)
