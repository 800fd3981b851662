-- A list of the side tells its rows in order, and no other answer is a list.
use Rattle.std.specs.Prelude.{ℕ, ◌+◌, ◌==◌, Bool, true, false, List, Option, Some, None, Ok, Err, if◌then◌else◌}
use Rattle.kube_objects.specs.declared.objects.DataId.{DataId}
use Rattle.kube_objects.specs.declared.objects.Object.{Object}
use Rattle.snapshot_bind.specs.declared.rows.Snapshot.{Snapshot as SnapshotData}
use Rattle.snapshot_bind.specs.declared.rows.Content.{Content as ContentData}
use Rattle.snapshot_bind.specs.declared.rows.SnapRow.TheVariants as rows
use Rattle.snapshot_bind.specs.declared.calls.SnapAsk.{SnapAsk}
use Rattle.snapshot_bind.specs.declared.calls.SnapAsk.TheVariants as asks
use Rattle.snapshot_bind.specs.declared.calls.SnapReply.TheVariants.{Made}
use Rattle.snapshot_bind.specs.declared.calls.SnapRefusal.{SnapRefusal}
use Rattle.snapshot_bind.specs.declared.calls.SnapRefusal.TheVariants.{Conflict, NotFound}
use Rattle.snapshot_bind.specs.declared.effect.Effect.{Effect}
use Rattle.snapshot_bind.specs.declared.effect.Effect.TheVariants.{Answers, PutsSnapshot}
use Rattle.snapshot_bind.specs.Rules.{side_after}
use Rattle.snapshot_bind.specs.SideStore.{
  AreContents,
  AreSnapshots,
  Side,
  content_at,
  content_of_version,
  cut,
  cut_from,
  effect_of,
  get,
  refuse,
  refused,
  release,
  reply_of,
  snapshot_at,
  snapshot_of_version,
  source_of,
  uncontent,
  unsnap,
  worker_effect,
  write,
}
use Rattle.snapshot_law.proofs.Law.{known_of}
use Rattle.snapshot_worker.specs.Workers.{ListsInOrder}
use Rattle.snapshot_drain.specs.Orders.{EachListIsInOrder}

-- the answer of this effect is a list in order, or none
abbrev IsOrdered : Effect → Type 0
IsOrdered effect = ListsInOrder (reply_of effect)

ordered_refuse : (b : Bool) (why : SnapRefusal) (next : Effect) → IsOrdered next → IsOrdered (refuse b why next)
unfolding refuse
ordered_refuse true why next is = tt
ordered_refuse false why next is = is

ordered_snapshot_write : (version : ℕ) (o : Option SnapshotData) (change : SnapshotData → Effect) → ((s : SnapshotData) → IsOrdered (change s))
    → IsOrdered (write (snapshot_of_version version o) change)
unfolding write snapshot_of_version
ordered_snapshot_write version None change is = tt
ordered_snapshot_write version (Some s) change is = by (s.version == version)
  where
    by : (b : Bool) → IsOrdered (write (if b then Ok s else Err (Conflict s.version)) change)
    by true = is s
    by false = tt

ordered_content_write : (version : ℕ) (o : Option ContentData) (change : ContentData → Effect) → ((c : ContentData) → IsOrdered (change c)) → IsOrdered (write (content_of_version version o) change)
unfolding write content_of_version
ordered_content_write version None change is = tt
ordered_content_write version (Some c) change is = by (c.version == version)
  where
    by : (b : Bool) → IsOrdered (write (if b then Ok c else Err (Conflict c.version)) change)
    by true = is c
    by false = tt

ordered_unsnap : (number : ℕ) (o : Option SnapshotData) → IsOrdered (unsnap number o)
unfolding unsnap
ordered_unsnap number None = tt
ordered_unsnap number (Some s) = by s.deleting
  where
    by : (b : Bool) → IsOrdered (if b then Answers (Made (rows.Snapshot s)) else PutsSnapshot (record s { version = number; deleting = true }))
    by true = tt
    by false = tt

ordered_release : (ss : List SnapshotData) (c : ContentData) (o : Option ℕ) → IsOrdered (release ss c o)
unfolding release
ordered_release ss c None = tt
ordered_release ss c (Some uid) = ordered_refuse _ _ _ tt

ordered_uncontent : (ss : List SnapshotData) (o : Option ContentData) → IsOrdered (uncontent ss o)
unfolding uncontent
ordered_uncontent ss None = tt
ordered_uncontent ss (Some c) = ordered_release ss c c.uid

ordered_get : (o : Option SnapshotData) → IsOrdered (get o)
unfolding get
ordered_get None = tt
ordered_get (Some s) = tt

ordered_cut_from : (number : ℕ) (s : SnapshotData) (source : Option DataId) → IsOrdered (cut_from number s source)
unfolding cut_from
ordered_cut_from number s None = tt
ordered_cut_from number s (Some source) = tt

ordered_cut : (σ : Side) (uid : ℕ) (world : List Object) (o : Option SnapshotData) → IsOrdered (cut σ uid world o)
unfolding cut
ordered_cut σ uid world None = tt
ordered_cut σ uid world (Some s) = by (s.uid == uid) _ (ordered_refuse _ _ _ (ordered_cut_from (σ.number + 1) s (source_of world s.namespace s.claim)))
  where
    by : (b : Bool) (next : Effect) → IsOrdered next → IsOrdered (if b then next else refused NotFound)
    by true next is = is
    by false next is = tt

ordered_by : (world : List Object) (σ : Side) → AreSnapshots σ.snapshots → AreContents σ.contents → (ask : SnapAsk) → IsOrdered (effect_of world σ ask)
unfolding effect_of worker_effect
ordered_by world σ ss cs (asks.Snapshot namespace name claim policy) = ordered_refuse _ _ _ tt
ordered_by world σ ss cs (asks.Content name namespace snapshot policy source) = ordered_refuse _ _ _ tt
ordered_by world σ ss cs (asks.Unsnap namespace name) = ordered_unsnap (σ.number + 1) (snapshot_at (namespace, name) σ.snapshots)
ordered_by world σ ss cs (asks.Uncontent name) = ordered_uncontent σ.snapshots (content_at name σ.contents)
ordered_by world σ ss cs asks.SnapList = (ss, cs)
ordered_by world σ ss cs (asks.SnapGet namespace name) = ordered_get (snapshot_at (namespace, name) σ.snapshots)
ordered_by world σ ss cs (asks.Cut namespace name uid) = ordered_cut σ uid world (snapshot_at (namespace, name) σ.snapshots)
ordered_by world σ ss cs (asks.BindContent name version uid) = ordered_content_write version _ _ (λ c. tt)
ordered_by world σ ss cs (asks.BindSnapshot namespace name version content) = ordered_snapshot_write version _ _ (λ s. tt)
ordered_by world σ ss cs (asks.DropSnapshot namespace name version) = ordered_snapshot_write version _ _ (λ s. tt)
ordered_by world σ ss cs (asks.EraseSnap name version) = ordered_content_write version _ _ (λ c. tt)
ordered_by world σ ss cs (asks.DropContent name version) = ordered_content_write version _ _ (λ c. tt)

pub each_list_is_in_order : EachListIsInOrder
each_list_is_in_order past run world ask = let good = (known_of past run).good in ordered_by world (side_after past) good.snapshots_rise good.contents_rise ask
