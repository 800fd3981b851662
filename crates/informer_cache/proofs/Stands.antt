-- A cache stands for what its seat was told.
use Rattle.std.proofs.Common.{◌≡◌, ℕ, List, ◌∷◌, false, Option, Some, None, refl, sym, ◌∙◌, ap, if◌then◌else◌}
use Rattle.std.specs.Prelude.{option_map}
use Rattle.kube_parts.specs.declared.parts.Kind.{Kind}
use Rattle.kube_objects.specs.declared.key.Key.{Key}
use Rattle.kube_objects.specs.declared.objects.Object.{Object}
use Rattle.kube_objects.specs.Keys.{meta_of, row_at}
use Rattle.call_types.specs.declared.entry.Entry.{Entry}
use Rattle.call_types.specs.declared.request.Request.{Request}
use Rattle.call_types.specs.declared.request.Request.TheVariants as requests
use Rattle.call_types.specs.declared.reply.Reply.{Reply}
use Rattle.call_types.specs.declared.reply.Reply.TheVariants.{Done, Left}
use Rattle.binder_model.specs.Told.{Telling, later, first_some, newest, object_of, told_of, tells_of}
use Rattle.binder_model.specs.Reading.{Following, follow_on, following_of}
use Rattle.informer_cache.specs.declared.marks.Mark.{Mark}
use Rattle.informer_cache.specs.Marks.{mark_at}
use Rattle.informer_cache.specs.Knowledge.{RowState, ListState, AreKept, absence, lacked, telling_in, told_at, tells_key}
use Rattle.kube_parts.specs.declared.parts.Kind.TheVariants as kinds
use Rattle.informer_cache.specs.All.{AllKnown, AllStandFor, AreCaches, EachStandsFor, all_objects, cache_of}
use Rattle.informer_cache.specs.Cache.{Known, IsDone, IsLeft, IsQuiet, IsTold, Learns, CacheStandsFor, kind_known, known_of, objects_of, tells_done, tells_left, watch_from}

-- the rows have the objects that are known
row_known : (rows : RowState) (lists : ListState) (key : Key) → AreKept rows.kind rows.marks rows.objects → row_at key rows.objects ≡ object_of (telling_in rows lists key)
row_known rows lists key kept = by (mark_at key rows.marks) (lacked lists key) (kept.covered key)
  where
    by : (m : Option Mark) (l : Option ℕ) → (m ≡ None → row_at key rows.objects ≡ None)
        → row_at key rows.objects ≡ object_of (first_some (option_map (λ (x : Mark). told_at x.version (row_at key rows.objects)) m) (absence l))
    by None None h = h refl
    by None (Some v) h = h refl
    by (Some m) l h = refl

-- a cache that learned what an entry tells stands for the entries with it
module _ (before after : Known) (tells : Key → Option Telling) (learns : Learns before after tells)
    (kept : AreKept after.rows.kind after.rows.marks after.rows.objects) (mine : List Entry) (e : Entry) (stands : CacheStandsFor before mine) where
  pub stands_on : ((key : Key) → told_of e key ≡ tells key) → after.from ≡ watch_from (following_of (e ∷ mine) (kind_known before)) → CacheStandsFor after (e ∷ mine)
  stands_on told from =
      let known : (key : Key) → key.kind ≡ kind_known after → known_of after key ≡ newest (e ∷ mine) key = λ key of.
      let own : key.kind ≡ kind_known before = of ∙ learns.kind in
      learns.known key own ∙ ap (later (tells key)) (stands.known key own) ∙ ap (λ t. later t (newest mine key)) (sym (told key)) in
      record {
        known = known;
        rows = λ key of. row_known after.rows after.lists key kept ∙ ap object_of (known key of);
        from = from ∙ ap (λ kind. watch_from (following_of (e ∷ mine) kind)) (sym learns.kind);
      }

told_is : (e : Entry) (request : Request) (reply : Reply) → IsTold e request reply → (key : Key) → told_of e key ≡ tells_of request reply key
told_is e request reply is key =
    ap (λ b. if b then tells_of e.request e.reply key else None) is.told ∙ ap (λ r. tells_of r e.reply key) is.asked ∙ ap (λ r. tells_of request r key) is.answered

followed_is : (e : Entry) (request : Request) (reply : Reply) (mine : List Entry) (kind : Kind) → IsTold e request reply
    → following_of (e ∷ mine) kind ≡ follow_on request reply kind (following_of mine kind)
followed_is e request reply mine kind is =
    ap (λ b. if b then follow_on e.request e.reply kind (following_of mine kind) else following_of mine kind) is.told
    ∙ ap (λ r. follow_on r e.reply kind (following_of mine kind)) is.asked ∙ ap (λ r. follow_on request r kind (following_of mine kind)) is.answered

pub absorbs : (before after : Known) (request : Request) (reply : Reply) → Learns before after (tells_of request reply)
    → AreKept after.rows.kind after.rows.marks after.rows.objects
    → ((f : Following) → before.from ≡ watch_from f → after.from ≡ watch_from (follow_on request reply (kind_known before) f))
    → (mine : List Entry) (e : Entry) → IsTold e request reply → CacheStandsFor before mine → CacheStandsFor after (e ∷ mine)
absorbs before after request reply learns kept from mine e is stands =
    stands_on before after (tells_of request reply) learns kept mine e stands (told_is e request reply is)
    (from (following_of mine (kind_known before)) stands.from ∙ ap watch_from (sym (followed_is e request reply mine (kind_known before) is)))

-- writes leave where the seat stands with a kind

follow_done : (request : Request) (o : Object) (kind : Kind) (f : Following) → follow_on request (Done o) kind f ≡ f
follow_done (requests.List k None) o kind f = refl
follow_done (requests.List k (Some namespace)) o kind f = refl
follow_done (requests.Watch k from) o kind f = refl
follow_done _ o kind f = refl

follow_left : (request : Request) (o : Object) (kind : Kind) (f : Following) → follow_on request (Left o) kind f ≡ f
follow_left (requests.List k None) o kind f = refl
follow_left (requests.List k (Some namespace)) o kind f = refl
follow_left (requests.Watch k from) o kind f = refl
follow_left _ o kind f = refl

pub notes : (before after : Known) (o : Object) → Learns before after (tells_done o) → AreKept after.rows.kind after.rows.marks after.rows.objects
    → after.from ≡ before.from → (mine : List Entry) (e : Entry) → IsDone e o → CacheStandsFor before mine → CacheStandsFor after (e ∷ mine)
notes before after o learns kept from mine e is stands =
    let whole : IsTold e e.request (Done o) = record { told = is.told; asked = refl; answered = is.answered } in
    stands_on before after (tells_done o) learns kept mine e stands (told_is e e.request (Done o) whole)
    (from ∙ stands.from ∙ ap watch_from (sym (followed_is e e.request (Done o) mine (kind_known before) whole ∙ follow_done e.request o (kind_known before) (following_of mine (kind_known before)))))

pub forgets : (before after : Known) (gone : Key) (version : ℕ) → Learns before after (tells_left gone version)
    → AreKept after.rows.kind after.rows.marks after.rows.objects → after.from ≡ before.from → (mine : List Entry) (e : Entry)
    → IsLeft e gone version → CacheStandsFor before mine → CacheStandsFor after (e ∷ mine)
forgets before after gone version learns kept from mine e is stands =
    let whole : IsTold e e.request (Left is.object) = record { told = is.told; asked = refl; answered = is.answered } in
    stands_on before after (tells_left gone version) learns kept mine e stands
    (λ key. told_is e e.request (Left is.object) whole key ∙ ap (λ g. tells_key g (told_at (meta_of is.object).version None) key) is.own ∙ ap (λ v. tells_key gone (told_at v None) key) is.at)
    (from ∙ stands.from ∙ ap watch_from (sym
    (followed_is e e.request (Left is.object) mine (kind_known before) whole ∙ follow_left e.request is.object (kind_known before) (following_of mine (kind_known before)))))

pub quiet_stands : (c : Known) (mine : List Entry) (e : Entry) → IsQuiet (kind_known c) e → CacheStandsFor c mine → CacheStandsFor c (e ∷ mine)
quiet_stands c mine e quiet stands = record {
  known = λ key of. stands.known key of ∙ ap (λ t. later t (newest mine key)) (sym (quiet.tells key of));
  rows = λ key of. stands.rows key of ∙ ap (λ t. object_of (later t (newest mine key))) (sym (quiet.tells key of));
  from = stands.from ∙ ap watch_from (sym (quiet.follows (following_of mine (kind_known c))));
}

pub untold_quiet : (kind : Kind) (e : Entry) → e.told ≡ false → IsQuiet kind e
untold_quiet kind e lost = record {
  tells = λ key of. ap (λ b. if b then tells_of e.request e.reply key else None) lost;
  follows = λ f. ap (λ b. if b then follow_on e.request e.reply kind f else f) lost;
}

-- the caches of all kinds, each of which stands for the entries
pub each_stands : (a b c d e : Known) (mine : List Entry) → CacheStandsFor a mine → CacheStandsFor b mine → CacheStandsFor c mine
    → CacheStandsFor d mine → CacheStandsFor e mine → EachStandsFor (record { classes = a; nodes = b; volumes = c; claims = d; pods = e }) mine
each_stands a b c d e mine sa sb sc sd se kinds.StorageClass = sa
each_stands a b c d e mine sa sb sc sd se kinds.Node = sb
each_stands a b c d e mine sa sb sc sd se kinds.PersistentVolume = sc
each_stands a b c d e mine sa sb sc sd se kinds.PersistentVolumeClaim = sd
each_stands a b c d e mine sa sb sc sd se kinds.Pod = se

-- and all together, where the row of a key among all objects is that of its kind's cache
pub all_stand : (c : AllKnown) → AreCaches c → ((key : Key) → row_at key (all_objects c) ≡ row_at key (objects_of (cache_of key.kind c)))
    → (mine : List Entry) → EachStandsFor c mine → AllStandFor c mine
all_stand c kinds joined mine each = record {
  kinds = kinds;
  each = each;
  rows = λ key. joined key ∙ (each key.kind).rows key (sym (kinds key.kind));
}
