-- What is said of the rounds of a drain, in which no request is held back.
-- A choice of this project.
use Rattle.std.specs.Prelude.{ℕ, ◌≡◌, true, List, Some, ⊤}
use Rattle.kube_objects.specs.declared.key.Key.{Key}
use Rattle.kube_parts.specs.declared.names.Due.{Due}
use Rattle.kube_objects.specs.declared.objects.Pod.{Pod as PodData}
use Rattle.kube_objects.specs.declared.objects.Object.{Object}
use Rattle.kube_objects.specs.declared.objects.Object.TheVariants.{Pod}
use Rattle.kube_objects.specs.Bindings.{is_scheduled}
use Rattle.kube_objects.specs.Keys.{row_at}
use Rattle.call_types.specs.declared.entry.Entry.{Entry}
use Rattle.call_types.specs.declared.setup.Setup.{Setup}
use Rattle.binder_model.specs.Due.{IsDue}
use Rattle.binder_model.specs.Promises.{IsRunOf}
use Rattle.binder_model.specs.World.{world}
use Rattle.actor_rounds.specs.declared.drainers.Drainer.{Drainer}
use Rattle.actor_rounds.specs.Rounds.{Drains, Goes, IsRound, IsSpent, Lets, NothingDue, all_pass}
use Rattle.settle_writes.specs.Writes.Lasting.{HasLasting}
use Rattle.settle_progress.specs.Epochs.Silent.{OnlyOvertakenAreSilent}
use Rattle.settle_progress.specs.Drains.Rounds.{HasCurrent, HasDoer, HasDue, doer_of}
use Rattle.settle_progress.specs.Drains.Settling.{MayDrain}

-- each pod that a node runs has an agent of its node among these that is no stale one
abbrev pub ArePodsServed : Setup → List Drainer → List Entry → Type 0
ArePodsServed setup ds h = (key : Key) (p : PodData) → row_at key (world setup h).store.rows ≡ Some (Pod p) → is_scheduled p ≡ true → HasCurrent setup ds h p.node

-- so whatever is due is due for an actor that is no stale agent
abbrev pub ServedHaveDoers : Type 0
ServedHaveDoers =
    (setup : Setup) (ds : List Drainer) (h : List Entry) (key : Key) (o : Object) (action : Due) → ArePodsServed setup ds h
    → row_at key (world setup h).store.rows ≡ Some o → IsDue setup (world setup h) o (Some action) → HasDoer setup ds h (doer_of o action)

-- a whole round in which nothing is held back
abbrev pub PassedRoundsLast : Type 0
PassedRoundsLast = (setup : Setup) (ds after : List Drainer) (h past : List Entry) (b left : ℕ) → MayDrain setup h ds
    → OnlyOvertakenAreSilent setup ds h → IsRunOf setup past → IsRound all_pass past left ds h b after true → HasDue setup ds h → HasLasting setup h past

-- each whole round of the drain that begins with something due, for an actor that is no stale agent, has an entry that lasts
abbrev pub EachRoundLasts : (lets : Lets) (setup : Setup) (after : List Drainer) (past : List Entry) (left : ℕ) (ds : List Drainer) (h : List Entry)
    (b : ℕ) → Drains lets setup after past left ds h b → Type 0
EachRoundLasts lets setup after past left ds h b (NothingDue settled same entries rest) = ⊤
EachRoundLasts lets setup after past left ds h b (IsSpent first due none same entries rest) = ⊤
EachRoundLasts lets setup after past left ds h b (Goes first due some between middle rest whole round more) =
    (whole ≡ true → HasDue setup ds h → HasLasting setup h middle) × EachRoundLasts lets setup after past left between middle rest more

-- so of any drain in which nothing is held back
abbrev pub DrainedRoundsLast : Type 0
DrainedRoundsLast =
    (setup : Setup) (ds after : List Drainer) (h past : List Entry) (b left : ℕ) → MayDrain setup h ds → OnlyOvertakenAreSilent setup ds h
    → IsRunOf setup past → (drained : Drains all_pass setup after past left ds h b) → EachRoundLasts all_pass setup after past left ds h b drained
