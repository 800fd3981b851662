-- No content gets the empty name: a name is that of a content which a user hands in, or begins as those of contents that are cut do.
use Rattle.std.specs.Prelude.{ℕ, ◌+◌, ◌==◌, ◌≡◌, ◌≢◌, Bool, true, false, List, [], ◌∷◌, Option, Some, None, Ok, Err, ⊤, if◌then◌else◌}
use Rattle.std.specs.Ordering.{is_eq}
use Rattle.std.proofs.Common.{refl, sym, ap, subst, true≢false}
use Rattle.std.proofs.lemmas.Option.{same_Some, none-some}
use Rattle.plain_data.specs.Pairs.{text_cmp}
use Rattle.kube_objects.specs.declared.objects.DataId.{DataId}
use Rattle.kube_objects.specs.declared.objects.Object.{Object}
use Rattle.kube_objects.specs.Bindings.{is_empty}
use Rattle.snapshot_bind.specs.declared.rows.Snapshot.{Snapshot as SnapshotData}
use Rattle.snapshot_bind.specs.declared.rows.Content.{Content as ContentData}
use Rattle.snapshot_bind.specs.declared.calls.SnapAsk.{SnapAsk}
use Rattle.snapshot_bind.specs.declared.calls.SnapAsk.TheVariants as asks
use Rattle.snapshot_bind.specs.declared.calls.SnapRefusal.{SnapRefusal}
use Rattle.snapshot_bind.specs.declared.calls.SnapRefusal.TheVariants.{Conflict, NotFound}
use Rattle.snapshot_bind.specs.declared.calls.SnapReply.TheVariants.{Made}
use Rattle.snapshot_bind.specs.declared.rows.SnapRow.TheVariants as rows
use Rattle.snapshot_bind.specs.declared.effect.Effect.{Effect}
use Rattle.snapshot_bind.specs.declared.effect.Effect.TheVariants.{Answers, PutsSnapshot, PutsContent, TakesSnapshot, TakesContent}
use Rattle.snapshot_bind.specs.Rules.{EachOf, side_after}
use Rattle.snapshot_bind.specs.SideStore.{
  Side,
  after,
  content_at,
  content_key,
  content_of_version,
  cut,
  cut_from,
  effect_of,
  get,
  refuse,
  refused,
  release,
  snapshot_at,
  snapshot_of_version,
  source_of,
  uncontent,
  unsnap,
  worker_effect,
  write,
}
use Rattle.snapshot_worker.proofs.Lives.{each_put, each_without}
use Rattle.snapshot_drain.specs.Drains.{HaveNames, NamesAreKept, NamesContent}

-- the content has a name
abbrev HasName : ContentData → Type 0
HasName c = c.name ≢ []

-- a content that is put has a name
abbrev IsNamed : Effect → Type 0
IsNamed (PutsContent c) = HasName c
IsNamed effect = ⊤

found_is : (P : ContentData → Type 0) (name : List ℕ) (cs : List ContentData) (c : ContentData) → content_at name cs ≡ Some c → EachOf P cs → P c
found_is P name [] c e each = absurd (none-some c e)
found_is P name (d ∷ ds) c e each = by (is_eq (text_cmp (content_key d) name)) e (λ e. found_is P name ds c e each.1)
  where
    by : (b : Bool) → (if b then Some d else content_at name ds) ≡ Some c → (content_at name ds ≡ Some c → P c) → P c
    by true e rest = subst P (same_Some d c e) each.0
    by false e rest = rest e

names_after : (σ : Side) (effect : Effect) → HaveNames σ → IsNamed effect → HaveNames (after σ effect)
names_after σ (Answers reply) have named = have
names_after σ (PutsSnapshot s) have named = have
names_after σ (PutsContent c) have named = each_put text_cmp content_key HasName c σ.contents named have
names_after σ (TakesSnapshot s) have named = have
names_after σ (TakesContent c) have named = each_without text_cmp content_key HasName (content_key c) σ.contents have

named_refuse : (b : Bool) (why : SnapRefusal) (next : Effect) → IsNamed next → IsNamed (refuse b why next)
unfolding refuse
named_refuse true why next named = tt
named_refuse false why next named = named

named_snapshot_write : (version : ℕ) (o : Option SnapshotData) (change : SnapshotData → Effect) → ((s : SnapshotData) → IsNamed (change s)) → IsNamed (write (snapshot_of_version version o) change)
unfolding write snapshot_of_version
named_snapshot_write version None change named = tt
named_snapshot_write version (Some s) change named = by (s.version == version)
  where
    by : (b : Bool) → IsNamed (write (if b then Ok s else Err (Conflict s.version)) change)
    by true = named s
    by false = tt

named_content_write : (version : ℕ) (o : Option ContentData) (change : ContentData → Effect) → ((c : ContentData) → o ≡ Some c → IsNamed (change c))
    → IsNamed (write (content_of_version version o) change)
unfolding write content_of_version
named_content_write version None change named = tt
named_content_write version (Some c) change named = by (c.version == version)
  where
    by : (b : Bool) → IsNamed (write (if b then Ok c else Err (Conflict c.version)) change)
    by true = named c refl
    by false = tt

named_unsnap : (number : ℕ) (o : Option SnapshotData) → IsNamed (unsnap number o)
unfolding unsnap
named_unsnap number None = tt
named_unsnap number (Some s) = by s.deleting
  where
    by : (b : Bool) → IsNamed (if b then Answers (Made (rows.Snapshot s)) else PutsSnapshot (record s { version = number; deleting = true }))
    by true = tt
    by false = tt

named_release : (ss : List SnapshotData) (c : ContentData) (o : Option ℕ) → IsNamed (release ss c o)
unfolding release
named_release ss c None = tt
named_release ss c (Some uid) = named_refuse _ _ (TakesContent c) tt

named_uncontent : (ss : List SnapshotData) (o : Option ContentData) → IsNamed (uncontent ss o)
unfolding uncontent
named_uncontent ss None = tt
named_uncontent ss (Some c) = named_release ss c c.uid

named_get : (o : Option SnapshotData) → IsNamed (get o)
unfolding get
named_get None = tt
named_get (Some s) = tt

named_cut_from : (number : ℕ) (s : SnapshotData) (source : Option DataId) → IsNamed (cut_from number s source)
unfolding cut_from
named_cut_from number s None = tt
named_cut_from number s (Some source) = λ e. true≢false (sym (ap is_empty e))

named_cut : (σ : Side) (uid : ℕ) (world : List Object) (o : Option SnapshotData) → IsNamed (cut σ uid world o)
unfolding cut
named_cut σ uid world None = tt
named_cut σ uid world (Some s) = by (s.uid == uid) _ (named_refuse _ _ _ (named_cut_from (σ.number + 1) s (source_of world s.namespace s.claim)))
  where
    by : (b : Bool) (next : Effect) → IsNamed next → IsNamed (if b then next else refused NotFound)
    by true next named = named
    by false next named = tt

named_by : (world : List Object) (σ : Side) (ask : SnapAsk) → HaveNames σ → NamesContent ask → IsNamed (effect_of world σ ask)
unfolding effect_of worker_effect
named_by world σ (asks.Snapshot namespace name claim policy) have named = named_refuse _ _ _ tt
named_by world σ (asks.Content name namespace snapshot policy source) have named = named_refuse _ _ _ named
named_by world σ (asks.Unsnap namespace name) have named = named_unsnap (σ.number + 1) (snapshot_at (namespace, name) σ.snapshots)
named_by world σ (asks.Uncontent name) have named = named_uncontent σ.snapshots (content_at name σ.contents)
named_by world σ asks.SnapList have named = tt
named_by world σ (asks.SnapGet namespace name) have named = named_get (snapshot_at (namespace, name) σ.snapshots)
named_by world σ (asks.Cut namespace name uid) have named = named_cut σ uid world (snapshot_at (namespace, name) σ.snapshots)
named_by world σ (asks.BindContent name version uid) have named = named_content_write version _ _ (λ c e. found_is HasName name σ.contents c e have)
named_by world σ (asks.BindSnapshot namespace name version content) have named = named_snapshot_write version _ _ (λ s. tt)
named_by world σ (asks.DropSnapshot namespace name version) have named = named_snapshot_write version _ _ (λ s. tt)
named_by world σ (asks.EraseSnap name version) have named = named_content_write version _ _ (λ c e. found_is HasName name σ.contents c e have)
named_by world σ (asks.DropContent name version) have named = named_content_write version _ _ (λ c e. tt)

pub names_are_kept : NamesAreKept
names_are_kept [] each = tt
names_are_kept (c ∷ past) each =
    let have = names_are_kept past each.1 in
    names_after (side_after past) (effect_of c.world (side_after past) c.entry.ask) have (named_by c.world (side_after past) c.entry.ask have each.0)
