-- A drain makes few writes and calls beside its rounds: the sum of these, each by the world with which the drain begins.
use Rattle.std.proofs.Common.{◌≡◌, ◌∙◌, ◌⊎◌, ℕ, ◌+◌, ◌≤◌, List, [], ◌∷◌, length, true, false, inl, inr, sym, subst, arith, if◌then◌else◌, Bool}
use Rattle.kube_objects.specs.declared.objects.Object.{Object}
use Rattle.kube_objects.specs.declared.objects.Object.TheVariants.{Class, Node, Volume, Claim, Pod}
use Rattle.kube_objects.specs.Bindings.{is_scheduled}
use Rattle.call_types.specs.declared.entry.Entry.{Entry}
use Rattle.call_types.specs.declared.setup.Setup.{Setup}
use Rattle.binder_model.specs.Due.{IsSettled}
use Rattle.binder_model.specs.World.{world}
use Rattle.settle_measure.specs.Left.Measure.{total}
use Rattle.actor_rounds.specs.declared.drainers.Drainer.{Drainer}
use Rattle.actor_rounds.specs.Rounds.{Drains, Goes, IsSpent, Lets, NothingDue}
use Rattle.settle_write_counts.specs.Scheduler.Pods.{pod_writes}
use Rattle.settle_write_counts.specs.Rounds.Rounds.{pod_size}

-- what a scheduler may write is no more than the pods and the claims that they name
pub writes_few : (rows : List Object) → total pod_writes rows ≤ total pod_size rows
writes_few [] = omega arith
writes_few (Class x ∷ os) = let rest = writes_few os in omega (arith, rest)
writes_few (Node x ∷ os) = let rest = writes_few os in omega (arith, rest)
writes_few (Volume x ∷ os) = let rest = writes_few os in omega (arith, rest)
writes_few (Claim x ∷ os) = let rest = writes_few os in omega (arith, rest)
writes_few (Pod p ∷ os) = by (is_scheduled p) (writes_few os)
  where
    by : (b : Bool) → total pod_writes os ≤ total pod_size os → (if b then 0 else 1 + length p.claims) + total pod_writes os ≤ 1 + length p.claims + total pod_size os
    by true rest = omega (arith, rest)
    by false rest = omega (arith, rest)

-- a drain ends settled, or with no call left
pub ends_so : (setup : Setup) (lets : Lets) (after : List Drainer) (past : List Entry) (left : ℕ) (ds : List Drainer) (h : List Entry) (b : ℕ)
    → Drains lets setup after past left ds h b → IsSettled setup (world setup past) ⊎ (left ≡ 0)
ends_so setup lets after past left ds h b (NothingDue settled same entries rest) = inl (subst (λ es. IsSettled setup (world setup es)) (sym entries) settled)
ends_so setup lets after past left ds h b (IsSpent first due none same entries rest) = inr (rest ∙ none)
ends_so setup lets after past left ds h b (Goes first due some between middle rest whole round drained) = ends_so setup lets after past left between middle rest drained
