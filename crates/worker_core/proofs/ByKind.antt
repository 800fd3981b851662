-- What holds by the kind of the actor: its start, what it remembers, the kinds that it follows, and the row of its licence.
use Rattle.std.proofs.Common.{◌≡◌, ◌≢◌, ℕ, ◌<◌, List, [], ◌∷◌, length, Bool, true, false, true≢false, Option, Some, None, refl, sym, ◌∙◌, ap, subst, arith, if◌then◌else◌}
use Rattle.std.specs.Prelude.{is_some, slice_get, ⊤}
use Rattle.kube_parts.specs.declared.parts.Kind.{Kind}
use Rattle.kube_parts.specs.declared.parts.Kind.TheVariants as kinds
use Rattle.call_types.specs.declared.entry.Entry.{Entry}
use Rattle.call_types.specs.declared.request.Request.{Request}
use Rattle.call_types.specs.declared.request.Request.TheVariants as requests
use Rattle.call_types.specs.declared.request.SeatKind.{SeatKind}
use Rattle.call_types.specs.declared.request.SeatKind.TheVariants as seats
use Rattle.call_types.specs.declared.reply.Reply.{Reply}
use Rattle.call_types.specs.Kinds.{reads_kind}
use Rattle.binder_model.specs.AgentLicence.{epoch_told, last_epoch}
use Rattle.binder_model.specs.Licence.{Licensed, RowAllows}
use Rattle.binder_model.specs.Reading.{IsFrom, MayRead, following_of, follows}
use Rattle.binder_model.specs.Told.{first_some}
use Rattle.informer_cache.specs.declared.cache.NextRead.{NextRead}
use Rattle.informer_cache.specs.declared.cache.NextRead.TheVariants as asks
use Rattle.model_laws.proofs.Lists.{none_some, one}
use Rattle.pod_scheduler.specs.Tries.{tries_after, tries_of}
use Rattle.worker_core.specs.declared.role.Role.{Role}
use Rattle.worker_core.specs.Memories.{Memory, agent_remembers, memory_after, memory_of, remembers, scheduler_remembers}
use Rattle.worker_core.specs.Roles.{IsBuiltKind, kinds_of}
use Rattle.worker_core.specs.Rules.{TriesAreTold}
use Rattle.worker_core.specs.Stands.{StandsFor}
use Rattle.worker_core.specs.States.{ActorState, agent_start, read_request, start_of}

-- a user is no actor
pub no_user : (kind : SeatKind) → IsBuiltKind kind → kind ≢ seats.User
no_user kind built is = subst IsBuiltKind is built

-- the start

-- the epoch that an agent remembers is the last that it was told

abbrev pub EpochStands : SeatKind → List ℕ → Memory → List Entry → Type 0
EpochStands seats.Agent node m mine = m.epoch ≡ last_epoch node mine
EpochStands _ node m mine = ⊤

agent_epoch : (node : List ℕ) (mine : List Entry) → (memory_of (record { kind = seats.Agent; node = node }) mine).epoch ≡ last_epoch node mine
agent_epoch node [] = refl
agent_epoch node (e ∷ mine) = by e.told (agent_epoch node mine)
  where
    before : Memory
    before = memory_of (record { kind = seats.Agent; node = node }) mine

    by : (told : Bool) → before.epoch ≡ last_epoch node mine
        → (if told then agent_remembers node e.request e.reply before else before).epoch ≡ first_some (if told then epoch_told node e.request e.reply else None) (last_epoch node mine)
    by true h = ap (first_some (epoch_told node e.request e.reply)) h
    by false h = h

epoch_by : (kind : SeatKind) (node : List ℕ) (mine : List Entry) → EpochStands kind node (memory_of (record { kind = kind; node = node }) mine) mine
epoch_by seats.Agent node mine = agent_epoch node mine
epoch_by seats.User node mine = tt
epoch_by seats.Binder node mine = tt
epoch_by seats.Ops node mine = tt
epoch_by seats.Scheduler node mine = tt
epoch_by seats.ClaimProtect node mine = tt
epoch_by seats.VolumeProtect node mine = tt

pub epoch_stands : (role : Role) (mine : List Entry) → EpochStands role.kind role.node (memory_of role mine) mine
epoch_stands role mine = epoch_by role.kind role.node mine

-- a call of the start that is to be made is allowed

agent_start_allowed : (node : List ℕ) (epoch : Option ℕ) (told : Bool) (mine : List Entry) (r : Request) → epoch ≡ last_epoch node mine
    → agent_start node epoch told ≡ Some r → RowAllows seats.Agent mine r
agent_start_allowed node None told mine r is e = subst (RowAllows seats.Agent mine) (one (requests.TakeNode node) r e) tt
agent_start_allowed node (Some epoch) false mine r is e = subst (RowAllows seats.Agent mine) (one (requests.Mounts node epoch) r e) (sym is)
agent_start_allowed node (Some epoch) true mine r is e = none_some e

pub start_allowed : (kind : SeatKind) (node : List ℕ) (m : Memory) (mine : List Entry) (r : Request) → IsBuiltKind kind
    → EpochStands kind node m mine → start_of kind node m ≡ Some r → RowAllows kind mine r
start_allowed seats.Binder node m mine r built is e = none_some e
start_allowed seats.ClaimProtect node m mine r built is e = none_some e
start_allowed seats.VolumeProtect node m mine r built is e = none_some e
start_allowed seats.Agent node m mine r built is e = agent_start_allowed node m.epoch (is_some m.mounts) mine r is e
start_allowed seats.User node m mine r built is e = absurd built
start_allowed seats.Ops node m mine r built is e = none_some e
start_allowed seats.Scheduler node m mine r built is e = none_some e

agent_reads_none : (node : List ℕ) (epoch : Option ℕ) (told : Bool) (r : Request) (k : Kind) → agent_start node epoch told ≡ Some r → reads_kind k r ≡ false
agent_reads_none node None told r k e = ap (reads_kind k) (sym (one _ r e))
agent_reads_none node (Some epoch) false r k e = ap (reads_kind k) (sym (one _ r e))
agent_reads_none node (Some epoch) true r k e = none_some e

-- no call of the start reads a whole kind
pub start_reads_none : (kind : SeatKind) (node : List ℕ) (m : Memory) (r : Request) (k : Kind) → start_of kind node m ≡ Some r → reads_kind k r ≡ false
start_reads_none seats.Agent node m r k e = agent_reads_none node m.epoch _ r k e
start_reads_none seats.Binder node m r k e = none_some e
start_reads_none seats.ClaimProtect node m r k e = none_some e
start_reads_none seats.VolumeProtect node m r k e = none_some e
start_reads_none seats.User node m r k e = none_some e
start_reads_none seats.Ops node m r k e = none_some e
start_reads_none seats.Scheduler node m r k e = none_some e

-- the memory

-- only an agent is told that its epoch is stale

pub keeps_fresh : (kind : SeatKind) (node : List ℕ) (request : Request) (reply : Reply) (m : Memory) → kind ≢ seats.Agent → (remembers kind node request reply m).stale ≡ m.stale
keeps_fresh seats.User node request reply m other = refl
keeps_fresh seats.Binder node request reply m other = refl
keeps_fresh seats.Ops node request reply m other = refl
keeps_fresh seats.Scheduler node request reply m other = refl
keeps_fresh seats.ClaimProtect node request reply m other = refl
keeps_fresh seats.VolumeProtect node request reply m other = refl
keeps_fresh seats.Agent node request reply m other = absurd (other refl)

pub fresh : (role : Role) (mine : List Entry) → role.kind ≢ seats.Agent → (memory_of role mine).stale ≡ false
fresh role [] other = refl
fresh role (e ∷ mine) other = by e.told (fresh role mine other)
  where
    by : (told : Bool) → (memory_of role mine).stale ≡ false → (if told then memory_after role e.request e.reply (memory_of role mine) else memory_of role mine).stale ≡ false
    by true rest = keeps_fresh role.kind role.node e.request e.reply (memory_of role mine) other ∙ rest
    by false rest = rest

pub built_fresh : (s : ActorState) (mine : List Entry) → IsBuiltKind s.role.kind → s.role.kind ≢ seats.Agent → StandsFor s mine → s.memory.stale ≡ false
built_fresh s mine built other stands = ap (λ (m : Memory). m.stale) stands.memory ∙ fresh s.role mine other

-- the nodes that a scheduler remembers are those that its entries tell

scheduler_tries : (node : List ℕ) (mine : List Entry) → (memory_of (record { kind = seats.Scheduler; node = node }) mine).tries ≡ tries_of mine
scheduler_tries node [] = refl
scheduler_tries node (e ∷ mine) = by e.told (scheduler_tries node mine)
  where
    before : Memory
    before = memory_of (record { kind = seats.Scheduler; node = node }) mine

    by : (told : Bool) → before.tries ≡ tries_of mine
        → (if told then scheduler_remembers e.request e.reply before else before).tries ≡ (if told then tries_after e.request e.reply (tries_of mine) else tries_of mine)
    by true h = ap (tries_after e.request e.reply) h
    by false h = h

tries_by : (kind : SeatKind) (node : List ℕ) (mine : List Entry) → kind ≡ seats.Scheduler → (memory_of (record { kind = kind; node = node }) mine).tries ≡ tries_of mine
tries_by kind node mine is = subst (λ k. (memory_of (record { kind = k; node = node }) mine).tries ≡ tries_of mine) (sym is) (scheduler_tries node mine)

pub tries_are_told : TriesAreTold
tries_are_told role mine is = tries_by role.kind role.node mine is

-- the licence

-- the row of a read
pub read_row : (kind : SeatKind) (mine : List Entry) (k : Kind) (ask : NextRead) → MayRead kind mine (read_request k ask) → RowAllows kind mine (read_request k ask)
read_row seats.User mine k ask may = tt
read_row seats.Binder mine k asks.List may = may
read_row seats.Binder mine k (asks.Watch from) may = may
read_row seats.Ops mine k asks.List may = may
read_row seats.Ops mine k (asks.Watch from) may = may
read_row seats.Scheduler mine k asks.List may = may
read_row seats.Scheduler mine k (asks.Watch from) may = may
read_row seats.ClaimProtect mine k asks.List may = may
read_row seats.ClaimProtect mine k (asks.Watch from) may = may
read_row seats.VolumeProtect mine k asks.List may = may
read_row seats.VolumeProtect mine k (asks.Watch from) may = may
read_row seats.Agent mine k asks.List may = may
read_row seats.Agent mine k (asks.Watch from) may = may

-- a watch that is allowed is from a version that the seat reached
pub watch_row : (kind : SeatKind) (mine : List Entry) (k : Kind) (from : ℕ) → IsBuiltKind kind → RowAllows kind mine (requests.Watch k from) → IsFrom from (following_of mine k)
watch_row seats.Binder mine k from built row = row.1
watch_row seats.ClaimProtect mine k from built row = row.1
watch_row seats.VolumeProtect mine k from built row = row.1
watch_row seats.User mine k from built row = absurd built
watch_row seats.Ops mine k from built row = row.1
watch_row seats.Scheduler mine k from built row = row.1
watch_row seats.Agent mine k from built row = row.1

pub watch_licensed : (kind : SeatKind) (mine : List Entry) (k : Kind) (from : ℕ) → IsBuiltKind kind → Licensed kind mine (requests.Watch k from) → IsFrom from (following_of mine k)
watch_licensed seats.Binder mine k from built l = l.1.1
watch_licensed seats.ClaimProtect mine k from built l = l.1.1
watch_licensed seats.VolumeProtect mine k from built l = l.1.1
watch_licensed seats.User mine k from built l = absurd built
watch_licensed seats.Ops mine k from built l = l.1.1
watch_licensed seats.Scheduler mine k from built l = l.1.1
watch_licensed seats.Agent mine k from built l = l.1.1

-- each kind that is followed has its place in a pass

pub record IsPlaced (kind : SeatKind) (k : Kind) : Type 0 where
  pub place : ℕ
  pub within : place < length (kinds_of kind)
  pub at : slice_get (kinds_of kind) place ≡ Some k

pub placed : (kind : SeatKind) (k : Kind) → follows kind k ≡ true → IsPlaced kind k
placed seats.Binder kinds.PersistentVolume f = record { place = 0; within = omega arith; at = refl }
placed seats.Binder kinds.PersistentVolumeClaim f = record { place = 1; within = omega arith; at = refl }
placed seats.Binder kinds.StorageClass f = record { place = 2; within = omega arith; at = refl }
placed seats.Binder kinds.Node f = absurd (true≢false (sym f))
placed seats.Binder kinds.Pod f = absurd (true≢false (sym f))
placed seats.Ops kinds.PersistentVolume f = record { place = 0; within = omega arith; at = refl }
placed seats.Ops kinds.PersistentVolumeClaim f = record { place = 1; within = omega arith; at = refl }
placed seats.Ops kinds.StorageClass f = record { place = 2; within = omega arith; at = refl }
placed seats.Ops kinds.Node f = record { place = 3; within = omega arith; at = refl }
placed seats.Ops kinds.Pod f = absurd (true≢false (sym f))
placed seats.Scheduler kinds.PersistentVolume f = record { place = 0; within = omega arith; at = refl }
placed seats.Scheduler kinds.PersistentVolumeClaim f = record { place = 1; within = omega arith; at = refl }
placed seats.Scheduler kinds.StorageClass f = record { place = 2; within = omega arith; at = refl }
placed seats.Scheduler kinds.Node f = record { place = 3; within = omega arith; at = refl }
placed seats.Scheduler kinds.Pod f = record { place = 4; within = omega arith; at = refl }
placed seats.ClaimProtect kinds.PersistentVolumeClaim f = record { place = 0; within = omega arith; at = refl }
placed seats.ClaimProtect kinds.Pod f = record { place = 1; within = omega arith; at = refl }
placed seats.ClaimProtect kinds.PersistentVolume f = absurd (true≢false (sym f))
placed seats.ClaimProtect kinds.StorageClass f = absurd (true≢false (sym f))
placed seats.ClaimProtect kinds.Node f = absurd (true≢false (sym f))
placed seats.VolumeProtect kinds.PersistentVolume f = record { place = 0; within = omega arith; at = refl }
placed seats.VolumeProtect kinds.PersistentVolumeClaim f = absurd (true≢false (sym f))
placed seats.VolumeProtect kinds.StorageClass f = absurd (true≢false (sym f))
placed seats.VolumeProtect kinds.Node f = absurd (true≢false (sym f))
placed seats.VolumeProtect kinds.Pod f = absurd (true≢false (sym f))
placed seats.Agent kinds.Pod f = record { place = 0; within = omega arith; at = refl }
placed seats.Agent kinds.PersistentVolume f = absurd (true≢false (sym f))
placed seats.Agent kinds.PersistentVolumeClaim f = absurd (true≢false (sym f))
placed seats.Agent kinds.StorageClass f = absurd (true≢false (sym f))
placed seats.Agent kinds.Node f = absurd (true≢false (sym f))
placed seats.User k f = absurd (true≢false (sym f))
