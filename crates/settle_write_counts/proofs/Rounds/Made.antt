-- In a slot that begins with nothing under way each new object is the volume of a claim that stands.
use Rattle.std.proofs.Common.{◌≡◌, ◌∙◌, ℕ, ◌+◌, ◌-◌, ◌≤◌, List, ◌∷◌, Bool, true, false, true≢false, Option, Some, None, inl, inr, refl, sym, ap, subst, arith}
use Rattle.std.specs.Prelude.{option_map}
use Rattle.kube_objects.specs.declared.key.Key.{Key}
use Rattle.kube_parts.specs.declared.parts.Kind.{Kind}
use Rattle.kube_parts.specs.declared.parts.Kind.TheVariants as kinds
use Rattle.kube_objects.specs.declared.objects.Class.{Class as ClassData}
use Rattle.kube_objects.specs.declared.objects.Claim.{Claim as ClaimData}
use Rattle.kube_objects.specs.declared.objects.DataId.{DataId}
use Rattle.kube_objects.specs.declared.objects.Volume.{Volume as VolumeData}
use Rattle.kube_objects.specs.declared.objects.Object.{Object}
use Rattle.kube_objects.specs.declared.objects.Object.TheVariants.{Class, Node, Volume, Claim, Pod}
use Rattle.kube_parts.specs.declared.uid.Uid.{Uid}
use Rattle.kube_objects.specs.Keys.{key_of, kind_of, meta_of, row_at}
use Rattle.kube_objects.proofs.KeyOrder.{row_at_key}
use Rattle.call_types.specs.declared.edit.Edit.{Edit}
use Rattle.call_types.specs.declared.entry.Entry.{Entry}
use Rattle.call_types.specs.declared.reply.Reply.{Reply}
use Rattle.call_types.specs.declared.request.NewStatus.{NewStatus}
use Rattle.call_types.specs.declared.request.NewStatus.TheVariants as statuses
use Rattle.call_types.specs.declared.request.Request.{Request}
use Rattle.call_types.specs.declared.request.Request.TheVariants as requests
use Rattle.call_types.specs.declared.request.SeatKind.{SeatKind}
use Rattle.call_types.specs.declared.request.SeatKind.TheVariants as seats
use Rattle.call_types.specs.declared.setup.Setup.{Setup}
use Rattle.binder_model.specs.Answers.{with_status}
use Rattle.binder_model.specs.Licence.{Licensed}
use Rattle.binder_model.specs.ObjectKeys.{claim_key, volume_key}
use Rattle.binder_model.specs.OpsLicence.{MayCreate}
use Rattle.binder_model.specs.Promises.{IsRunOf}
use Rattle.binder_model.specs.Provisioning.{data_name, provisioned_volume}
use Rattle.binder_model.specs.Reading.{follows}
use Rattle.binder_model.specs.Store.{at_version, marked_object, with_meta}
use Rattle.binder_model.specs.Told.{IsNewest, own}
use Rattle.binder_model.specs.World.{IsHistory, World, effect, world}
use Rattle.informer_cache.specs.declared.cache.NextRead.{NextRead}
use Rattle.informer_cache.specs.declared.cache.NextRead.TheVariants as asks
use Rattle.informer_cache.specs.All.{AllKnown, cache_of}
use Rattle.informer_cache.specs.Cache.{ask_of}
use Rattle.model_laws.proofs.Growing.{runs_are_histories}
use Rattle.model_laws.proofs.Histories.{rows_stand_in_order}
use Rattle.model_laws.proofs.Identity.{IsVersionOf, at_version_keeps, key-at_version, key-created, key-marked, key-updated, status_kept, updated_keeps}
use Rattle.model_laws.proofs.Lists.{none_some, one}
use Rattle.safety_law.specs.Invariant.Writes.{Writes}
use Rattle.safety_law.proofs.Invariant.Effects.{effect_form}
use Rattle.sync_queue.specs.Work.{Work}
use Rattle.worker_core.specs.declared.role.Role.{Role}
use Rattle.worker_core.specs.declared.task.Under.{Under}
use Rattle.worker_core.specs.declared.turn.Given.{Given}
use Rattle.worker_core.specs.declared.turn.Given.TheVariants as givens
use Rattle.worker_core.specs.declared.turn.Next.TheVariants.{Call}
use Rattle.worker_core.specs.declared.turn.Outcome.TheVariants.{Lost, Told}
use Rattle.worker_core.specs.Absorbs.{given_told, learned, lost_given, lost_to, lost_under, task_told, told_to, woken}
use Rattle.worker_core.specs.Roles.{IsBuiltKind}
use Rattle.worker_core.specs.Stands.{GivenStands}
use Rattle.worker_core.specs.States.{ActorState, call_in, call_under, given_call, read_of_kind, read_request, start_call, start_of}
use Rattle.worker_core.specs.Turns.{AfterKeys, IsTurn, TurnBy, passing, unlisted}
use Rattle.actor_rounds.specs.Rounds.{Asks, IsHeld, IsIdle, IsSpent, Lets, Runs, told_entry}
use Rattle.actor_rounds.proofs.RunFacts.{still_role}
use Rattle.worker_core.proofs.Answered.{turn_role}
use Rattle.settle_slot.specs.Slot.Slots.{KnowsBehind}
use Rattle.settle_slot.proofs.Slot.Knowing.{lost_knows, sees, told_knows, turned_knows}
use Rattle.settle_slot.proofs.Slot.Slots.{nothing_behind}
use Rattle.settle_calls.specs.Slots.Rounds.{names_in}
use Rattle.settle_writes.proofs.Done.Doing.{write_asked}
use Rattle.settle_write_counts.proofs.Rounds.Nodes.{IsMoved}
use Rattle.settle_write_counts.proofs.Rounds.Runs.{IsCalled, called_at, run_at, silent_run}
use Rattle.settle_write_counts.proofs.Rounds.Slots.{ComesTo, Leaves, Wrote, comes_to}
use Rattle.settle_write_counts.proofs.Rounds.Growth.{AreGiven, Comes, IsFor, IsOver, moved_given}

-- ---- what a controller may write

abbrev is_pod : Kind → Bool
is_pod kinds.Pod = true
is_pod kind = false

pub no_edit : (kind : SeatKind) (mine : List Entry) (key : Key) (change : Edit) → IsBuiltKind kind → Licensed kind mine (requests.Edit key change) → ⊥
no_edit seats.User mine key change built may = built
no_edit seats.Binder mine key change built may = may.1
no_edit seats.Ops mine key change built may = may.1
no_edit seats.Scheduler mine key change built may = may.1
no_edit seats.ClaimProtect mine key change built may = may.1
no_edit seats.VolumeProtect mine key change built may = may.1
no_edit seats.Agent mine key change built may = may.1

no_pod : (kind : SeatKind) (mine : List Entry) (x : Object) (given : Option ℕ) → IsBuiltKind kind → Licensed kind mine (requests.Update x given) → is_pod (kind_of x) ≡ false
no_pod kind mine (Class x) given built may = refl
no_pod kind mine (Node x) given built may = refl
no_pod kind mine (Volume x) given built may = refl
no_pod kind mine (Claim x) given built may = refl
no_pod seats.User mine (Pod x) given built may = absurd built
no_pod seats.Binder mine (Pod x) given built may = absurd may.1
no_pod seats.Ops mine (Pod x) given built may = absurd may.1
no_pod seats.Scheduler mine (Pod x) given built may = absurd may.1
no_pod seats.ClaimProtect mine (Pod x) given built may = absurd may.1
no_pod seats.VolumeProtect mine (Pod x) given built may = absurd may.1
no_pod seats.Agent mine (Pod x) given built may = absurd may.1

-- only ops creates, and only volumes
record CreatesVolume (kind : SeatKind) (mine : List Entry) (x : Object) : Type 0 where
  volume : VolumeData
  is : x ≡ Volume volume
  of_kind : kind ≡ seats.Ops
  may : MayCreate mine volume

creates : (kind : SeatKind) (mine : List Entry) (x : Object) → IsBuiltKind kind → Licensed kind mine (requests.Create x) → CreatesVolume kind mine x
creates seats.Ops mine (Volume v) built may = record { volume = v; is = refl; of_kind = refl; may = may.1 }
creates seats.Ops mine (Class x) built may = absurd may.1
creates seats.Ops mine (Node x) built may = absurd may.1
creates seats.Ops mine (Claim x) built may = absurd may.1
creates seats.Ops mine (Pod x) built may = absurd may.1
creates seats.User mine x built may = absurd built
creates seats.Binder mine x built may = absurd may.1
creates seats.Scheduler mine x built may = absurd may.1
creates seats.ClaimProtect mine x built may = absurd may.1
creates seats.VolumeProtect mine x built may = absurd may.1
creates seats.Agent mine x built may = absurd may.1

pub volume_created : (kind : SeatKind) (mine : List Entry) (x : Object) → IsBuiltKind kind → Licensed kind mine (requests.Create x) → kind_of x ≡ kinds.PersistentVolume
volume_created kind mine x built may = ap kind_of (creates kind mine x built may).is

no_names : (o : Object) → is_pod (kind_of o) ≡ false → names_in o ≡ 0
no_names (Class x) e = refl
no_names (Node x) e = refl
no_names (Volume x) e = refl
no_names (Claim x) e = refl
no_names (Pod x) e = absurd (true≢false e)

pub made_name : (v : VolumeData) (c : ClaimData) (uid : Uid) (class : ClassData) (id : DataId) (topology : Option (List ℕ × List ℕ))
    → v ≡ provisioned_volume c uid class id topology → key_of (Volume v) ≡ volume_key (data_name uid)
unfolding provisioned_volume
made_name v c uid class id topology is = ap (λ (x : VolumeData). key_of (Volume x)) is

status_names : (status : NewStatus) (old new : Object) (n : ℕ) → with_status status old ≡ Some new → names_in (at_version new n) ≡ 0
unfolding with_status at_version with_meta
status_names (statuses.Volume phase) (Volume v) new n e = subst (λ o. names_in (at_version o n) ≡ 0) (one _ new e) refl
status_names (statuses.Claim phase modes amount) (Claim c) new n e = subst (λ o. names_in (at_version o n) ≡ 0) (one _ new e) refl
status_names (statuses.Volume phase) (Class x) new n e = none_some e
status_names (statuses.Volume phase) (Node x) new n e = none_some e
status_names (statuses.Volume phase) (Claim x) new n e = none_some e
status_names (statuses.Volume phase) (Pod x) new n e = none_some e
status_names (statuses.Claim phase modes amount) (Class x) new n e = none_some e
status_names (statuses.Claim phase modes amount) (Node x) new n e = none_some e
status_names (statuses.Claim phase modes amount) (Volume x) new n e = none_some e
status_names (statuses.Claim phase modes amount) (Pod x) new n e = none_some e

marked_same : (old : Object) (n : ℕ) (moment : List ℕ) → (names_in (marked_object old n moment) ≡ names_in old) × ((meta_of (marked_object old n moment)).uid ≡ (meta_of old).uid)
unfolding marked_object with_meta
marked_same (Class x) n moment = (refl, refl)
marked_same (Node x) n moment = (refl, refl)
marked_same (Volume x) n moment = (refl, refl)
marked_same (Claim x) n moment = (refl, refl)
marked_same (Pod x) n moment = (refl, refl)

abbrev pub is_create : Request → Bool
is_create (requests.Create x) = true
is_create request = false

-- ---- what it writes stands over what stood, or is the volume of a claim that stands, where the seat knows the claims

module _ (w : World) (mine : List Entry) (kind : SeatKind) (built : IsBuiltKind kind) where
  abbrev KnowsClaims : Type 0
  KnowsClaims = (c : ClaimData) → IsNewest mine (claim_key c.meta.namespace c.meta.name) (Claim c) → row_at (claim_key c.meta.namespace c.meta.name) w.store.rows ≡ Some (Claim c)

  same_place : (key : Key) (old o : Object) → row_at key w.store.rows ≡ Some old → key_of o ≡ key_of old → row_at (key_of o) w.store.rows ≡ Some old
  same_place key old o there keyed = ap (λ k. row_at k w.store.rows) (keyed ∙ row_at_key key old w.store.rows there) ∙ there

  over : (key : Key) (old o : Object) → row_at key w.store.rows ≡ Some old → key_of o ≡ key_of old → names_in o ≤ names_in old → (meta_of o).uid ≡ (meta_of old).uid → Comes w.store.rows o
  over key old o there keyed names uid = IsOver old (same_place key old o there keyed) names uid

  pub comes : (r : Request) (o : Object) → Licensed kind mine r → Writes w kind r o → (is_create r ≡ true → kind ≡ seats.Ops → KnowsClaims) → Comes w.store.rows o
  unfolding at_version with_meta
  comes (requests.Create x) o may i knows =
      let c = creates kind mine x built may in
      let m = c.may in
      let keyed : key_of o ≡ volume_key (data_name m.uid) = ap key_of i.is ∙ (key-created _ x _ _ ∙ (ap key_of c.is ∙ made_name c.volume m.claim m.uid m.class m.id m.topology m.object)) in
      IsFor m.claim m.uid (knows refl c.of_kind m.claim m.newest) m.known keyed (no_names o (ap (λ (k : Key). is_pod k.kind) keyed))
  comes (requests.Update x given) o may u knows =
      let plain = no_pod kind mine x given built may in
      let keyed : key_of o ≡ key_of x = ap key_of u.is ∙ key-updated u.old x (w.store.version + 1) in
      let none = no_names o (ap (λ (k : Key). is_pod k.kind) keyed ∙ plain) in
      IsOver u.old (ap (λ k. row_at k w.store.rows) keyed ∙ u.there) (omega (arith, none)) (ap (λ y. (meta_of y).uid) u.is ∙ (updated_keeps u.old x (w.store.version + 1) u.fault).uid)
  comes (requests.UpdateStatus key status given) o may i knows =
      let v : IsVersionOf i.old (Some i.new) = subst (IsVersionOf i.old) i.fits (status_kept status i.old) in
      let none : names_in o ≡ 0 = ap names_in i.is ∙ status_names status i.old i.new (w.store.version + 1) i.fits in
      over key i.old o i.there (ap key_of i.is ∙ (key-at_version i.new (w.store.version + 1) ∙ v.1)) (omega (arith, none))
      (ap (λ y. (meta_of y).uid) i.is ∙ (at_version_keeps i.old i.new (w.store.version + 1) v.0 v.2).uid)
  comes (requests.Edit key change) o may i knows = absurd (no_edit kind mine key change built may)
  comes (requests.Delete key given) o may i knows =
      let same = marked_same i.old (w.store.version + 1) w.moment in
      let names : names_in o ≡ names_in i.old = ap names_in i.is ∙ same.0 in
      over key i.old o i.there (ap key_of i.is ∙ key-marked i.old (w.store.version + 1) w.moment) (omega (arith, names)) (ap (λ y. (meta_of y).uid) i.is ∙ same.1)
  comes (requests.BindPod key uid node) o may i knows =
      let names : names_in o ≡ names_in (Pod i.pod) = ap names_in i.is in
      over key (Pod i.pod) o i.there (ap key_of i.is) (omega (arith, names)) (ap (λ y. (meta_of y).uid) i.is)
  comes (requests.FinishPod key uid node epoch) o may i knows =
      let names : names_in o ≡ names_in (Pod i.pod) = ap names_in i.is in
      over key (Pod i.pod) o i.there (ap key_of i.is) (omega (arith, names)) (ap (λ y. (meta_of y).uid) i.is)
  comes _ o may i knows = absurd i

-- ---- what is under way is so past the pass

pub data IsOrdered (s : ActorState) : Type 0 where
  NothingUnder : s.under ≡ None → IsOrdered s
  PassIsOver : passing s ≡ None → IsOrdered s

pub turned_ordered : (s given : ActorState) (request : Request) → IsTurn s given (Call request) → IsOrdered s → IsOrdered given
turned_ordered s given request turn ordered = by s.memory.stale s.under (start_call s.role s.memory) (unlisted s) (passing s) refl refl turn ordered
  where
    same : (g : Option Given) → given ≡ record s { given = g } → IsOrdered s → IsOrdered given
    same g e (NothingUnder none) = NothingUnder (ap (λ (x : ActorState). x.under) e ∙ none)
    same g e (PassIsOver over_) = PassIsOver (ap passing e ∙ over_)

    keys : (work : Work) (under : Option Under) → s.under ≡ None → passing s ≡ None → AfterKeys s given (Call request) work under → IsOrdered given
    keys work (Some u) none over_ b = PassIsOver (ap passing b.state ∙ over_)
    keys work None none over_ (inl b) = NothingUnder (ap (λ (x : ActorState). x.under) b.state ∙ none)
    keys work None none over_ (inr b) = none_some (sym (ap call_in b.idle))

    by : (stale : Bool) (u : Option Under) (start : Option Request) (l p : Option Kind) → s.under ≡ u → passing s ≡ p → TurnBy s given (Call request) stale u start l p → IsOrdered s → IsOrdered given
    by true u start l p eu ep t o = none_some (sym (ap call_in t.idle))
    by false (Some u) start l p eu ep t o = same (Some givens.Task) t.state o
    by false None (Some r) l p eu ep t o = same (Some givens.Start) t.state o
    by false None None (Some k) p eu ep t o = same (Some (givens.Read k)) t.state o
    by false None None None (Some k) eu ep t o = same (Some (givens.Read k)) t.state o
    by false None None None None eu ep t o = keys t.work t.under eu ep t.then_

pub lost_ordered : (x : ActorState) → IsOrdered x → IsOrdered (lost_to x)
lost_ordered x ordered = by x.given ordered
  where
    task : (u : Option Under) → IsOrdered x → IsOrdered (lost_under x u)
    task None (NothingUnder none) = NothingUnder none
    task None (PassIsOver over_) = PassIsOver over_
    task (Some u) o = NothingUnder refl

    by : (g : Option Given) → IsOrdered x → IsOrdered (lost_given x g)
    by (Some givens.Task) o = task x.under o
    by None (NothingUnder none) = NothingUnder none
    by None (PassIsOver over_) = PassIsOver over_
    by (Some givens.Start) (NothingUnder none) = NothingUnder none
    by (Some givens.Start) (PassIsOver over_) = PassIsOver over_
    by (Some (givens.Read k)) (NothingUnder none) = NothingUnder none
    by (Some (givens.Read k)) (PassIsOver over_) = PassIsOver over_

module _ (setup : Setup) (seat : ℕ) (x : ActorState) (request : Request) (reply : Reply) (h : List Entry) (called : IsCalled setup seat x request reply h) where
  pub told_ordered : (caches : AllKnown) → IsOrdered x → IsOrdered (told_to x caches request reply)
  told_ordered caches ordered = by x.given called.stands.given ordered
    where
      task : (u : Option Under) → IsOrdered x → x.under ≡ u → IsOrdered (task_told (learned x caches request reply) reply u)
      task None (NothingUnder none) e = NothingUnder none
      task None (PassIsOver over_) e = PassIsOver over_
      task (Some u) (NothingUnder none) e = none_some (sym none ∙ e)
      task (Some u) (PassIsOver over_) e = PassIsOver over_

      by : (g : Option Given) → GivenStands x.role x.memory g x.under → IsOrdered x → IsOrdered (given_told (learned x caches request reply) request reply g)
      by None stands (NothingUnder none) = NothingUnder none
      by None stands (PassIsOver over_) = PassIsOver over_
      by (Some givens.Start) stands (NothingUnder none) = NothingUnder none
      by (Some givens.Start) stands (PassIsOver over_) = PassIsOver over_
      by (Some givens.Task) stands o = task x.under o refl
      by (Some (givens.Read k)) stands o = NothingUnder stands.1

  -- a Create is a task's
  create_over : x.role.kind ≡ seats.Ops → is_create request ≡ true → IsOrdered x → passing x ≡ None
  create_over kind is ordered = by x.given refl ordered
    where
      read : (k : Kind) (a : NextRead) → read_request k a ≡ request → passing x ≡ None
      read k asks.List e = absurd (true≢false (sym (ap is_create e ∙ is)))
      read k (asks.Watch from) e = absurd (true≢false (sym (ap is_create e ∙ is)))

      by : (g : Option Given) → x.given ≡ g → IsOrdered x → passing x ≡ None
      by None e o = none_some (ap (given_call x) (sym e) ∙ called.ask)
      by (Some givens.Start) e o = none_some (ap (λ k. start_of k x.role.node x.memory) (sym kind) ∙ (ap (given_call x) (sym e) ∙ called.ask))
      by (Some givens.Task) e (NothingUnder none) = none_some (sym (ap (option_map call_under) none) ∙ (ap (given_call x) (sym e) ∙ called.ask))
      by (Some givens.Task) e (PassIsOver over_) = over_
      by (Some (givens.Read k)) e o = read k (ask_of (cache_of k x.caches)) (one (read_of_kind x.caches k) request (ap (given_call x) (sym e) ∙ called.ask))

  -- what a call writes comes so
  pub data Writing : Type 0 where
    WritesNone : (world setup (told_entry seat x request reply ∷ h)).store.rows ≡ (world setup h).store.rows → Writing
    WritesOne : (o : Object) → Writes (world setup h) x.role.kind request o → Comes (world setup h).store.rows o
        → IsMoved (world setup h).store.rows (world setup (told_entry seat x request reply ∷ h)).store.rows o → Writing

  pub call_writes : IsBuiltKind x.role.kind → KnowsBehind setup seat x.role x.pass h → IsOrdered x → Writing
  call_writes built knows ordered = by (comes_to (world setup h) (effect setup (world setup h) x.role.kind request))
    where
      history : IsHistory setup (told_entry seat x request reply ∷ h)
      history = runs_are_histories setup (told_entry seat x request reply ∷ h) called.run.run

      claims : is_create request ≡ true → x.role.kind ≡ seats.Ops → (c : ClaimData)
          → IsNewest (own seat h) (claim_key c.meta.namespace c.meta.name) (Claim c) → row_at (claim_key c.meta.namespace c.meta.name) (world setup h).store.rows ≡ Some (Claim c)
      claims is kind c newest =
          let shown = sees setup seat x h history.0 called.stands knows (create_over kind is ordered) (claim_key c.meta.namespace c.meta.name) (ap (λ k. follows k kinds.PersistentVolumeClaim) kind) in
          sym shown ∙ (called.stands.caches.rows (claim_key c.meta.namespace c.meta.name) ∙ newest)

      by : ComesTo (world setup h) (effect setup (world setup h) x.role.kind request) → Writing
      by (Leaves same) = WritesNone (ap (λ s. s.rows) same)
      by (Wrote o written version moved) =
          let writes = write_asked setup (world setup h) x.role.kind request o (effect setup (world setup h) x.role.kind request)
          (effect_form setup (world setup h) x.role.kind request (rows_stand_in_order setup h)) written in
          WritesOne o writes (comes (world setup h) (own seat h) x.role.kind built request o called.may writes claims) moved

  -- so each call keeps what is given
  given_on : (first : List Object) → IsBuiltKind x.role.kind → KnowsBehind setup seat x.role x.pass h → IsOrdered x
      → AreGiven first (world setup h).store.rows → AreGiven first (world setup (told_entry seat x request reply ∷ h)).store.rows
  given_on first built knows ordered given = by (call_writes built knows ordered)
    where
      by : Writing → AreGiven first (world setup (told_entry seat x request reply ∷ h)).store.rows
      by (WritesNone same) = subst (AreGiven first) (sym same) given
      by (WritesOne o writes come moved) = moved_given first (world setup h).store.rows given (rows_stand_in_order setup h) (world setup (told_entry seat x request reply ∷ h)).store.rows o come moved

-- ---- a slot

module _ (setup : Setup) (lets : Lets) (seat : ℕ) (after : ActorState) (past : List Entry) (left : ℕ) (idle : Bool) (run : IsRunOf setup past) (first : List Object) where
  run_given : (s : ActorState) (h : List Entry) (b : ℕ) → Runs lets seat after past left idle s h b → IsBuiltKind s.role.kind
      → KnowsBehind setup seat s.role s.pass h → IsOrdered s → AreGiven first (world setup h).store.rows → AreGiven first (world setup past).store.rows
  run_given s h b (IsSpent none state entries rest busy) built knows ordered given = subst (λ es. AreGiven first (world setup es).store.rows) (sym entries) given
  run_given s h b (IsIdle some ready turn entries rest calm) built knows ordered given = subst (λ es. AreGiven first (world setup es).store.rows) (sym entries) given
  run_given s h b (Asks given next request reply some ready turn lets_it absorbs more) built knows ordered so =
      run_given next (told_entry seat given request reply ∷ h) (b - 1) more
      (subst (λ (r : Role). IsBuiltKind r.kind) (sym (still_role s given next (Call request) request (Told reply) turn absorbs)) built)
      (told_knows setup seat s given request reply h built ready turn whole knows next absorbs)
      (subst IsOrdered (sym absorbs) (told_ordered setup seat given request reply h called next.caches turned))
      (given_on setup seat given request reply h called first
      (subst (λ (r : Role). IsBuiltKind r.kind) (sym (turn_role s given (Call request) turn)) built) (turned_knows setup seat s given (Call request) h turn knows) turned so)
    where
      whole_run : IsRunOf setup (told_entry seat given request reply ∷ h)
      whole_run = run_at setup lets seat after past left idle run next (told_entry seat given request reply ∷ h) (b - 1) more

      whole : IsHistory setup (told_entry seat given request reply ∷ h)
      whole = runs_are_histories setup (told_entry seat given request reply ∷ h) (run_at setup lets seat after past left idle run next (told_entry seat given request reply ∷ h) (b - 1) more).run

      called : IsCalled setup seat given request reply h
      called = called_at setup lets seat after past left idle run s given h request reply built ready turn
          (run_at setup lets seat after past left idle run next (told_entry seat given request reply ∷ h) (b - 1) more)

      turned : IsOrdered given
      turned = turned_ordered s given request turn ordered
  run_given s h b (IsHeld given next request some ready turn held absorbs more) built knows ordered so =
      run_given next h (b - 1) more (subst (λ (r : Role). IsBuiltKind r.kind) (sym (still_role s given next (Call request) request Lost turn absorbs)) built)
      (lost_knows setup seat given next request h (turned_knows setup seat s given (Call request) h turn knows) absorbs)
      (subst IsOrdered (sym absorbs) (lost_ordered given (turned_ordered s given request turn ordered)))
      so

pub slot_given : (setup : Setup) (lets : Lets) (seat : ℕ) (old after : ActorState) (h past : List Entry) (b left : ℕ) (idle : Bool)
    (first : List Object) → IsRunOf setup past → IsBuiltKind old.role.kind → (old.memory.stale ≡ false → old.under ≡ None)
    → Runs lets seat after past left idle (woken old) h b → AreGiven first (world setup h).store.rows → AreGiven first (world setup past).store.rows
slot_given setup lets seat old after h past b left idle first run built rests runs given = by old.memory.stale refl
  where
    by : (stale : Bool) → old.memory.stale ≡ stale → AreGiven first (world setup past).store.rows
    by true e = subst (λ es. AreGiven first (world setup es).store.rows) (sym (silent_run setup lets seat after past left idle run (woken old) h b runs e).0) given
    by false e = run_given setup lets seat after past left idle run first (woken old) h b runs built (nothing_behind setup seat old h) (NothingUnder (rests e)) given
