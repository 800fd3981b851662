-- Each row that a worker keeps was told to it, as it stands; so what a row asks for is licensed.
use Rattle.std.specs.Prelude.{ℕ, ◌≡◌, ◌⊎◌, ◌&&◌, not, Bool, true, false, List, [], ◌∷◌, Option, Some, None, map, is_some, is_none, if◌then◌else◌}
use Rattle.std.proofs.Common.{refl, sym, ◌∙◌, ap, subst, inl, inr, true≢false, eqb-true}
use Rattle.std.proofs.lemmas.Bool.{eq-eqb}
use Rattle.std.proofs.lemmas.Option.{same_Some, none-some}
use Rattle.std.proofs.lemmas.Slice.Eq.{bytes_eq-Decides}
use Rattle.std.specs.declared.cmp.Ordering.{Ordering}
use Rattle.std.specs.declared.cmp.Ordering.TheVariants.{Less, Equal, Greater}
use Rattle.std.specs.Ordering.{is_eq, match_ordering}
use Rattle.plain_data.specs.Pairs.{text_cmp}
use Rattle.plain_data.specs.Rows.{put, without}
use Rattle.kube_parts.specs.declared.parts.Policy.{Policy}
use Rattle.kube_parts.specs.declared.parts.Policy.TheVariants as policies
use Rattle.kube_objects.specs.Bindings.{is_empty, is_delete}
use Rattle.snapshot_bind.specs.declared.rows.Snapshot.{Snapshot as SnapshotData}
use Rattle.snapshot_bind.specs.declared.rows.Content.{Content as ContentData}
use Rattle.snapshot_bind.specs.declared.rows.SnapRow.{SnapRow}
use Rattle.snapshot_bind.specs.declared.rows.SnapRow.TheVariants as rows
use Rattle.snapshot_worker.specs.declared.seen.SeenSnapshot.{SeenSnapshot}
use Rattle.snapshot_worker.specs.declared.seen.SeenContent.{SeenContent}
use Rattle.snapshot_bind.specs.declared.calls.SnapAsk.{SnapAsk}
use Rattle.snapshot_bind.specs.declared.calls.SnapAsk.TheVariants as asks
use Rattle.snapshot_bind.specs.declared.calls.SnapEntry.{SnapEntry}
use Rattle.snapshot_bind.specs.declared.calls.SnapReply.{SnapReply}
use Rattle.snapshot_bind.specs.declared.calls.SnapReply.TheVariants.{Listed, Found, Made, Left, Refused}
use Rattle.snapshot_bind.specs.declared.calls.SnapRefusal.TheVariants.{NotFound, AlreadyExists, Conflict, SnapshotBound, NoSource}
use Rattle.snapshot_bind.specs.Licences.{SomeOf, snapshots_in, contents_in, ToldSnapshot, ToldContent, ToldGone, HasSome, IsOther, LacksOwner, SnapLicensed}
use Rattle.snapshot_bind.specs.Rules.{EachOf}
use Rattle.snapshot_bind.specs.SideStore.{snap_cmp, snapshot_key}
use Rattle.snapshot_worker.specs.Workers.{
  Worker,
  first_ask,
  first_content,
  is_same_uid,
  has_this_uid,
  is_free_for,
  waiting_ask,
  staying_ask,
  told_ask,
  left_ask,
  snapshot_ask,
  content_ask_by,
  content_ask,
  or_else,
  next_of,
  change_first,
  dropped_content,
  erasing_ask,
  is_among,
  rows_ask,
  after_row,
  after_call,
  seen_key,
  seen_name,
  fresh_snapshot,
  fresh_content,
  keep_row,
  take_row,
  listed_from,
  drop_snapshot,
  drop_content,
  lacks_uid,
  looked_for,
  after_get,
  after_content,
  is_look,
  absorb_of,
  Lives,
  Begins,
  Wakes,
  Asks,
  EachAskIsLicensed,
}
use Rattle.snapshot_law.proofs.Fair.{each_map}

-- this snapshot was told, as it stands
abbrev TellsSnapshot : List SnapEntry → SnapshotData → Type 0
TellsSnapshot mine s = ToldSnapshot (λ (t : SnapshotData). t ≡ s) mine

-- and so was this content
abbrev TellsContent : List SnapEntry → ContentData → Type 0
TellsContent mine c = ToldContent (λ (d : ContentData). d ≡ c) mine

-- this content was told, and a later look did not find its snapshot
abbrev TellsGone : List SnapEntry → ContentData → Type 0
TellsGone [] c = ⊥
TellsGone (e ∷ mine) c = (LacksOwner c e.ask e.reply × TellsContent mine c) ⊎ TellsGone mine c

-- what is known of a content that the worker keeps
record KnowsSeen (mine : List SnapEntry) (x : SeenContent) : Type 0 where
  told : TellsContent mine x.row
  gone : x.gone ≡ true → TellsGone mine x.row

-- and of a snapshot
abbrev KnowsSnap : List SnapEntry → SeenSnapshot → Type 0
KnowsSnap mine x = TellsSnapshot mine x.row

-- all that it keeps was told
record IsTold (mine : List SnapEntry) (w : Worker) : Type 0 where
  snapshots : EachOf (KnowsSnap mine) w.snapshots
  contents : EachOf (KnowsSeen mine) w.contents

some_map : {X : Type 0} (P Q : X → Type 0) (xs : List X) → ((x : X) → P x → Q x) → SomeOf P xs → SomeOf Q xs
some_map P Q [] f some = absurd some
some_map P Q (x ∷ xs) f (inl here) = inl (f x here)
some_map P Q (x ∷ xs) f (inr later) = inr (some_map P Q xs f later)

told_snapshot_as : (P : SnapshotData → Type 0) (mine : List SnapEntry) (s : SnapshotData) → TellsSnapshot mine s → P s → ToldSnapshot P mine
told_snapshot_as P mine s told p = some_map _ _ mine (λ (e : SnapEntry) some. some_map _ _ (snapshots_in e.reply) (λ t e. subst P (sym e) p) some) told

told_content_as : (P : ContentData → Type 0) (mine : List SnapEntry) (c : ContentData) → TellsContent mine c → P c → ToldContent P mine
told_content_as P mine c told p = some_map _ _ mine (λ (e : SnapEntry) some. some_map _ _ (contents_in e.reply) (λ d e. subst P (sym e) p) some) told

module _ {X : Type 0} (f : X → Option SnapAsk) where
  -- a row of which this holds asks for this
  pub record Asking (P : X → Type 0) (ask : SnapAsk) : Type 0 where
    pub row : X
    pub is : P row
    pub asks_it : f row ≡ Some ask

  pub asking : (P : X → Type 0) (xs : List X) (ask : SnapAsk) → EachOf P xs → first_ask f xs ≡ Some ask → Asking P ask
  asking P [] ask each e = absurd (none-some ask e)
  asking P (x ∷ xs) ask each e = by (is_some (f x)) e (asking P xs ask each.1)
    where
      by : (b : Bool) → (if b then f x else first_ask f xs) ≡ Some ask → (first_ask f xs ≡ Some ask → Asking P ask) → Asking P ask
      by true e rest = record { row = x; is = each.0; asks_it = e }
      by false e rest = rest e

  -- what holds of the rows when the one that asked is changed
  each_change : (P Q : X → Type 0) (g : X → X) (ask : SnapAsk) (xs : List X) → first_ask f xs ≡ Some ask → ((x : X) → P x → Q x) → ((x : X) → P x → f x ≡ Some ask → Q (g x)) → EachOf P xs
      → EachOf Q (change_first f g xs)
  each_change P Q g ask [] e k h each = tt
  each_change P Q g ask (x ∷ xs) e k h each = by (is_some (f x)) e (λ e. each_change P Q g ask xs e k h each.1)
    where
      by : (b : Bool) → (if b then f x else first_ask f xs) ≡ Some ask → (first_ask f xs ≡ Some ask → EachOf Q (change_first f g xs)) → EachOf Q (if b then g x ∷ xs else x ∷ change_first f g xs)
      by true e rest = (h x each.0 e, each_map P Q xs k each.1)
      by false e rest = (k x each.0, rest e)

module _ {K X : Type 0} (cmp : K → K → Ordering) (key : X → K) (P : X → Type 0) where
  pub each_put : (x : X) (xs : List X) → P x → EachOf P xs → EachOf P (put cmp key x xs)
  each_put x [] p each = (p, tt)
  each_put x (y ∷ ys) p each = by (cmp (key y) (key x)) (each_put x ys p each.1)
    where
      by : (r : Ordering) → EachOf P (put cmp key x ys) → EachOf P (match_ordering r (y ∷ put cmp key x ys) (x ∷ ys) (x ∷ y ∷ ys))
      by Less rest = (each.0, rest)
      by Equal rest = (p, each.1)
      by Greater rest = (p, each)

  pub each_without : (k : K) (xs : List X) → EachOf P xs → EachOf P (without cmp key k xs)
  each_without k [] each = tt
  each_without k (y ∷ ys) each = by (is_eq (cmp (key y) k)) (each_without k ys each.1)
    where
      by : (b : Bool) → EachOf P (without cmp key k ys) → EachOf P (if b then ys else y ∷ without cmp key k ys)
      by true rest = each.1
      by false rest = (each.0, rest)

each_of_map : {X Y : Type 0} (P : Y → Type 0) (f : X → Y) (xs : List X) → EachOf (λ x. P (f x)) xs → EachOf P (map f xs)
each_of_map P f [] each = tt
each_of_map P f (x ∷ xs) each = (each.0, each_of_map P f xs each.1)

each_among : {X : Type 0} (xs : List X) → EachOf (λ x. SomeOf (λ y. y ≡ x) xs) xs
each_among [] = tt
each_among (x ∷ xs) = (inl refl, each_map _ _ xs (λ y some. inr some) (each_among xs))

-- another call takes nothing back
more : (e : SnapEntry) (mine : List SnapEntry) (w : Worker) → IsTold mine w → IsTold (e ∷ mine) w
more e mine w t = record {
  snapshots = each_map _ _ w.snapshots (λ x told. inr told) t.snapshots;
  contents = each_map _ _ w.contents (λ x k. record { told = inr k.told; gone = λ g. inr (k.gone g) }) t.contents;
}

kept : (ask : SnapAsk) (row : SnapRow) (mine : List SnapEntry) (w : Worker) → IsTold mine w → IsTold (record { ask = ask; reply = Made row } ∷ mine) (keep_row w row)
kept ask (rows.Snapshot s) mine w t =
    let m = more (record { ask = ask; reply = Made (rows.Snapshot s) }) mine w t in
    record { snapshots = each_put snap_cmp seen_key _ (fresh_snapshot s) w.snapshots (inl (inl refl)) m.snapshots; contents = m.contents }
kept ask (rows.Content c) mine w t =
    let m = more (record { ask = ask; reply = Made (rows.Content c) }) mine w t in
    record { snapshots = m.snapshots; contents = each_put text_cmp seen_name _ (fresh_content c) w.contents (record { told = inl (inl refl); gone = λ g. absurd (true≢false (sym g)) }) m.contents }

taken : (row : SnapRow) (mine : List SnapEntry) (w : Worker) → IsTold mine w → IsTold mine (take_row w row)
taken (rows.Snapshot s) mine w t = record { snapshots = each_without snap_cmp seen_key _ (snapshot_key s) w.snapshots t.snapshots; contents = t.contents }
taken (rows.Content c) mine w t = record { snapshots = t.snapshots; contents = each_without text_cmp seen_name _ c.name w.contents t.contents }

snapshot_dropped : (ask : SnapAsk) (mine : List SnapEntry) (w : Worker) → first_ask (snapshot_ask w.contents) w.snapshots ≡ Some ask → IsTold mine w → IsTold mine (drop_snapshot w)
snapshot_dropped ask mine w e t =
    record { snapshots = each_change (snapshot_ask w.contents) (KnowsSnap mine) (KnowsSnap mine) _ ask w.snapshots e (λ x p. p) (λ x p is. p) t.snapshots; contents = t.contents }

content_dropped : (ask : SnapAsk) (mine : List SnapEntry) (w : Worker) → first_ask (content_ask w.uids) w.contents ≡ Some ask → IsTold mine w → IsTold mine (drop_content w)
content_dropped ask mine w e t = record {
  snapshots = t.snapshots;
  contents = each_change (content_ask w.uids) (KnowsSeen mine) (KnowsSeen mine) _ ask w.contents e (λ x p. p)
      (λ x p is. record { told = p.told; gone = p.gone }) t.contents;
}

-- a look that a content asks for is for its own snapshot
record IsGetOf (c : ContentData) (ask : SnapAsk) : Type 0 where
  is : ask ≡ asks.SnapGet c.namespace c.snapshot

get_of : (uids : List ℕ) (x : SeenContent) (ask : SnapAsk) → content_ask uids x ≡ Some ask → is_look ask ≡ true → IsGetOf x.row ask
get_of uids x ask e g = by_dropped x.dropped e
  where
    none : None ≡ Some ask → IsGetOf x.row ask
    none e = absurd (none-some ask e)

    other : (a : SnapAsk) → is_look a ≡ false → Some a ≡ Some ask → IsGetOf x.row ask
    other a not e = absurd (true≢false (sym g ∙ ap is_look (sym (same_Some a ask e)) ∙ not))

    by_gone : (b : Bool) → (if b then Some (asks.EraseSnap x.row.name x.row.version) else Some (asks.SnapGet x.row.namespace x.row.snapshot)) ≡ Some ask → IsGetOf x.row ask
    by_gone true e = other _ refl e
    by_gone false e = record { is = sym (same_Some _ ask e) }

    by_policy : (b : Bool) → (if b then erasing_ask x else None) ≡ Some ask → IsGetOf x.row ask
    by_policy true e = by_gone x.gone e
    by_policy false e = none e

    by_there : (uid : ℕ) (b : Bool) → (if b then left_ask uids x uid else Some (asks.DropContent x.row.name x.row.version)) ≡ Some ask → IsGetOf x.row ask
    by_there uid true e = by_policy (is_delete x.row.policy && not (is_among uid uids)) e
    by_there uid false e = other _ refl e

    by_uid : (o : Option ℕ) → content_ask_by uids x o ≡ Some ask → IsGetOf x.row ask
    by_uid None e = none e
    by_uid (Some uid) e = by_there uid x.row.there e

    by_dropped : (b : Bool) → (if b then None else content_ask_by uids x x.row.uid) ≡ Some ask → IsGetOf x.row ask
    by_dropped true e = none e
    by_dropped false e = by_uid x.row.uid e

other_uid : (own : Option ℕ) (uid : ℕ) → HasSome own → not (is_same_uid own uid) ≡ true → IsOther own uid
other_uid None uid h e = absurd h
other_uid (Some v) uid h e = λ same. true≢false (sym e ∙ ap not (eq-eqb v uid (sym same)))

has_uid_of : (uids : List ℕ) (x : SeenContent) (ask : SnapAsk) → content_ask uids x ≡ Some ask → HasSome x.row.uid
has_uid_of uids x ask e = by_dropped x.dropped e
  where
    by_uid : (o : Option ℕ) → content_ask_by uids x o ≡ Some ask → HasSome o
    by_uid None e = absurd (none-some ask e)
    by_uid (Some uid) e = tt

    by_dropped : (b : Bool) → (if b then None else content_ask_by uids x x.row.uid) ≡ Some ask → HasSome x.row.uid
    by_dropped true e = absurd (none-some ask e)
    by_dropped false e = by_uid x.row.uid e

lacks_owner : (c : ContentData) (reply : SnapReply) → HasSome c.uid → lacks_uid c.uid reply ≡ true → LacksOwner c (asks.SnapGet c.namespace c.snapshot) reply
lacks_owner c (Refused NotFound) h e = (refl, refl)
lacks_owner c (Refused AlreadyExists) h e = absurd (true≢false (sym e))
lacks_owner c (Refused (Conflict n)) h e = absurd (true≢false (sym e))
lacks_owner c (Refused (SnapshotBound n)) h e = absurd (true≢false (sym e))
lacks_owner c (Refused NoSource) h e = absurd (true≢false (sym e))
lacks_owner c (Found s) h e = (refl, refl, other_uid c.uid s.uid h e)
lacks_owner c (Listed ss cs n) h e = absurd (true≢false (sym e))
lacks_owner c (Made row) h e = absurd (true≢false (sym e))
lacks_owner c (Left row) h e = absurd (true≢false (sym e))

got_gone : (e : SnapEntry) (mine : List SnapEntry) (w : Worker) → first_ask (content_ask w.uids) w.contents ≡ Some e.ask → is_look e.ask ≡ true → IsTold mine w
    → IsTold (e ∷ mine) (after_get w e.reply)
got_gone e mine w is get t = record {
  snapshots = (more e mine w t).snapshots;
  contents = each_change (content_ask w.uids) (KnowsSeen mine) (KnowsSeen (e ∷ mine)) (looked_for e.reply) e.ask w.contents is
      (λ x k. record { told = inr k.told; gone = λ g. inr (k.gone g) }) (λ x k asks_it. change x k asks_it (lacks_uid x.row.uid e.reply) refl) t.contents;
}
  where
    change : (x : SeenContent) → KnowsSeen mine x → content_ask w.uids x ≡ Some e.ask → (b : Bool) → lacks_uid x.row.uid e.reply ≡ b
        → KnowsSeen (e ∷ mine) (if b then record x { gone = true } else dropped_content x)
    change x k asks_it true lacks = record {
      told = inr k.told;
      gone =
          λ g. inl (subst (λ (ask : SnapAsk). LacksOwner x.row ask e.reply) (sym (get_of w.uids x e.ask asks_it get).is) (lacks_owner x.row e.reply (has_uid_of w.uids x e.ask asks_it) lacks), k.told);
    }
    change x k asks_it false lacks = record { told = inr k.told; gone = λ g. inr (k.gone g) }

listed : (e : SnapEntry) (mine : List SnapEntry) (w : Worker) (reply : SnapReply) → e.reply ≡ reply → IsTold mine w → IsTold (e ∷ mine) (listed_from w reply)
listed e mine w (Listed ss cs n) is t = record {
  snapshots = each_of_map _ fresh_snapshot ss (each_map _ _ ss (λ s some. inl (subst (λ (r : SnapReply). SomeOf (λ (t : SnapshotData). t ≡ s) (snapshots_in r)) (sym is) some)) (each_among ss));
  contents = each_of_map _ fresh_content cs (each_map _ _ cs (λ c some. record {
    told = inl
        (subst (λ (r : SnapReply). SomeOf (λ (d : ContentData). d ≡ c) (contents_in r)) (sym is) some);
    gone = λ g. absurd (true≢false (sym g));
  }) (each_among cs));
}
listed e mine w (Found s) is t = more e mine w t
listed e mine w (Made row) is t = more e mine w t
listed e mine w (Left row) is t = more e mine w t
listed e mine w (Refused why) is t = more e mine w t

pub or_first : (a b : Option SnapAsk) (ask : SnapAsk) → or_else a b ≡ Some ask → is_some a ≡ true → a ≡ Some ask
or_first None b ask e some = absurd (true≢false (sym some))
or_first (Some x) b ask e some = e

pub or_second : (a b : Option SnapAsk) (ask : SnapAsk) → or_else a b ≡ Some ask → is_some a ≡ false → b ≡ Some ask
or_second None b ask e none = e
or_second (Some x) b ask e none = absurd (true≢false none)

by_snapshot : (e : SnapEntry) (mine : List SnapEntry) (w : Worker) (reply : SnapReply) → e.reply ≡ reply → first_ask (snapshot_ask w.contents) w.snapshots ≡ Some e.ask → IsTold mine w
    → IsTold (e ∷ mine) (after_call w reply (drop_snapshot w))
by_snapshot e mine w (Made row) is asks_it t = subst (λ (x : SnapEntry). IsTold (x ∷ mine) (keep_row w row)) (λ i. record { ask = e.ask; reply = sym is i }) (kept e.ask row mine w t)
by_snapshot e mine w (Left row) is asks_it t = taken row (e ∷ mine) w (more e mine w t)
by_snapshot e mine w (Listed ss cs n) is asks_it t = snapshot_dropped e.ask (e ∷ mine) w asks_it (more e mine w t)
by_snapshot e mine w (Found s) is asks_it t = snapshot_dropped e.ask (e ∷ mine) w asks_it (more e mine w t)
by_snapshot e mine w (Refused why) is asks_it t = snapshot_dropped e.ask (e ∷ mine) w asks_it (more e mine w t)

by_content : (e : SnapEntry) (mine : List SnapEntry) (w : Worker) (reply : SnapReply) → e.reply ≡ reply → first_ask (content_ask w.uids) w.contents ≡ Some e.ask → IsTold mine w
    → IsTold (e ∷ mine) (after_call w reply (drop_content w))
by_content e mine w (Made row) is asks_it t = subst (λ (x : SnapEntry). IsTold (x ∷ mine) (keep_row w row)) (λ i. record { ask = e.ask; reply = sym is i }) (kept e.ask row mine w t)
by_content e mine w (Left row) is asks_it t = taken row (e ∷ mine) w (more e mine w t)
by_content e mine w (Listed ss cs n) is asks_it t = content_dropped e.ask (e ∷ mine) w asks_it (more e mine w t)
by_content e mine w (Found s) is asks_it t = content_dropped e.ask (e ∷ mine) w asks_it (more e mine w t)
by_content e mine w (Refused why) is asks_it t = content_dropped e.ask (e ∷ mine) w asks_it (more e mine w t)

absorbed : (e : SnapEntry) (mine : List SnapEntry) (w : Worker) → next_of w ≡ Some e.ask → IsTold mine w → IsTold (e ∷ mine) (absorb_of w e.ask e.reply)
absorbed e mine w is t = by_listed w.listed is
  where
    by_get : (b : Bool) → is_look e.ask ≡ b → first_ask (content_ask w.uids) w.contents ≡ Some e.ask → IsTold (e ∷ mine) (if b then after_get w e.reply else after_call w e.reply (drop_content w))
    by_get true get asks_it = got_gone e mine w asks_it get t
    by_get false get asks_it = by_content e mine w e.reply refl asks_it t

    by_first : (b : Bool) → is_some (first_ask (snapshot_ask w.contents) w.snapshots) ≡ b
        → or_else (first_ask (snapshot_ask w.contents) w.snapshots) (first_ask (content_ask w.uids) w.contents) ≡ Some e.ask
        → IsTold (e ∷ mine) (if b then after_call w e.reply (drop_snapshot w) else after_content w e.ask e.reply)
    by_first true some asks_it = by_snapshot e mine w e.reply refl (or_first _ _ e.ask asks_it some) t
    by_first false none asks_it = by_get (is_look e.ask) refl (or_second _ _ e.ask asks_it none)

    by_listed : (b : Bool) → (if b then rows_ask w else Some asks.SnapList) ≡ Some e.ask → IsTold (e ∷ mine) (if b then after_row w e.ask e.reply else listed_from w e.reply)
    by_listed true asks_it = by_first (is_some (first_ask (snapshot_ask w.contents) w.snapshots)) refl asks_it
    by_listed false asks_it = listed e mine w e.reply refl t

told_by_life : (mine : List SnapEntry) (w : Worker) → Lives mine w → IsTold mine w
told_by_life _ _ Begins = record { snapshots = tt; contents = tt }
told_by_life _ _ (Wakes mine w life) = let t = told_by_life mine w life in record { snapshots = t.snapshots; contents = t.contents }
told_by_life _ _ (Asks e mine w life is) = absorbed e mine w is (told_by_life mine w life)

pub is_nil : (xs : List ℕ) → is_empty xs ≡ true → xs ≡ []
is_nil [] e = refl
is_nil (x ∷ xs) e = absurd (true≢false (sym e))

module _ (mine : List SnapEntry) where
  -- the content was told, and is one that is looked for
  record FirstIs (p : ContentData → Bool) (c : ContentData) : Type 0 where
    told : TellsContent mine c
    holds : p c ≡ true

  first_is : (p : ContentData → Bool) (xs : List SeenContent) (c : ContentData) → EachOf (KnowsSeen mine) xs → first_content p xs ≡ Some c → FirstIs p c
  first_is p [] c each e = absurd (none-some c e)
  first_is p (x ∷ xs) c each e = by (p x.row) refl e (first_is p xs c each.1)
    where
      by : (b : Bool) → p x.row ≡ b → (if b then Some x.row else first_content p xs) ≡ Some c → (first_content p xs ≡ Some c → FirstIs p c) → FirstIs p c
      by true holds e rest =
          let one = same_Some x.row c e in record { told = subst (λ (d : ContentData). TellsContent mine d) one each.0.told; holds = subst (λ (d : ContentData). p d ≡ true) one holds }
      by false holds e rest = rest e

  is_own : (o : Option ℕ) (uid : ℕ) → is_same_uid o uid ≡ true → o ≡ Some uid
  is_own None uid h = absurd (true≢false (sym h))
  is_own (Some v) uid h = ap (λ n. Some n) (eqb-true v uid h)

  both : (a b : Bool) → (a && b) ≡ true → (a ≡ true) × (b ≡ true)
  both true true e = (refl, refl)
  both true false e = absurd (true≢false (sym e))
  both false b e = absurd (true≢false (sym e))

  free_is : (s : SnapshotData) (c : ContentData) → is_free_for s c ≡ true → (c.uid ≡ None) × (s.namespace ≡ c.namespace) × (s.name ≡ c.snapshot)
  free_is s c e =
      let outer = both _ _ e in
      let inner = both _ _ outer.0 in
      (no_uid c.uid inner.0, sym ((bytes_eq-Decides c.namespace s.namespace).0 inner.1), sym ((bytes_eq-Decides c.snapshot s.name).0 outer.1))
    where
      no_uid : (o : Option ℕ) → is_none o ≡ true → o ≡ None
      no_uid None e = refl
      no_uid (Some u) e = absurd (true≢false (sym e))

  waiting_licensed : (cs : List SeenContent) (s : SnapshotData) → EachOf (KnowsSeen mine) cs → TellsSnapshot mine s → s.deleting ≡ false → s.content ≡ [] → (bound free : Option ContentData)
      → first_content (has_this_uid s.uid) cs ≡ bound → first_content (is_free_for s) cs ≡ free → (ask : SnapAsk) → waiting_ask s bound free ≡ Some ask → SnapLicensed mine ask
  unfolding SnapLicensed
  waiting_licensed cs s each told stays empty (Some c) free eb ef ask e =
      let f = first_is (has_this_uid s.uid) cs c each eb in
      subst (λ (a : SnapAsk). SnapLicensed mine a) (same_Some (asks.BindSnapshot s.namespace s.name s.version c.name) ask e)
      (told_snapshot_as _ mine s told (record {
        snapshot = record { placed = refl; named = refl; at = refl };
        waits = record { stays = stays; unbound = empty };
        bound = told_content_as _ mine c f.told (record { named = refl; own = is_own c.uid s.uid f.holds });
      }))
  waiting_licensed cs s each told stays empty None (Some c) eb ef ask e =
      let f = first_is (is_free_for s) cs c each ef in
      let free = free_is s c f.holds in
      subst (λ (a : SnapAsk). SnapLicensed mine a) (same_Some (asks.BindContent c.name c.version s.uid) ask e)
      (told_content_as _ mine c f.told (record {
        content = record { named = refl; at = refl };
        free = free.0;
        owner = told_snapshot_as _ mine s told (record { own = refl; placed = free.1; named = free.2 });
      }))
  waiting_licensed cs s each told stays empty None None eb ef ask e = by (is_empty s.claim) e
    where
      by : (b : Bool) → (if b then None else Some (asks.Cut s.namespace s.name s.uid)) ≡ Some ask → SnapLicensed mine ask
      by true e = absurd (none-some ask e)
      by false e = subst (λ (a : SnapAsk). SnapLicensed mine a) (same_Some (asks.Cut s.namespace s.name s.uid) ask e)
          (told_snapshot_as _ mine s told (record { placed = refl; named = refl; own = refl; waits = record { stays = stays; unbound = empty } }))

  snapshot_licensed : (cs : List SeenContent) (x : SeenSnapshot) → EachOf (KnowsSeen mine) cs → KnowsSnap mine x → (ask : SnapAsk) → snapshot_ask cs x ≡ Some ask → SnapLicensed mine ask
  unfolding SnapLicensed
  snapshot_licensed cs x each told ask e = by_dropped x.dropped e
    where
      by_empty : (b : Bool) → is_empty x.row.content ≡ b → x.row.deleting ≡ false
          → (if b then waiting_ask x.row (first_content (has_this_uid x.row.uid) cs) (first_content (is_free_for x.row) cs) else None) ≡ Some ask → SnapLicensed mine ask
      by_empty true empty stays e = waiting_licensed cs x.row each told stays (is_nil x.row.content empty) _ _ refl refl ask e
      by_empty false empty stays e = absurd (none-some ask e)

      by_deleting : (b : Bool) → x.row.deleting ≡ b → (if b then Some (asks.DropSnapshot x.row.namespace x.row.name x.row.version) else staying_ask cs x.row) ≡ Some ask → SnapLicensed mine ask
      by_deleting true leaves e = subst (λ (a : SnapAsk). SnapLicensed mine a) (same_Some (asks.DropSnapshot x.row.namespace x.row.name x.row.version) ask e)
          (told_snapshot_as _ mine x.row told (record { snapshot = record { placed = refl; named = refl; at = refl }; leaves = leaves }))
      by_deleting false stays e = by_empty (is_empty x.row.content) refl stays e

      by_dropped : (b : Bool) → (if b then None else told_ask cs x.row) ≡ Some ask → SnapLicensed mine ask
      by_dropped true e = absurd (none-some ask e)
      by_dropped false e = by_deleting x.row.deleting refl e

  delete_is : (p : Policy) → is_delete p ≡ true → p ≡ policies.Delete
  delete_is policies.Delete e = refl
  delete_is policies.Retain e = absurd (true≢false (sym e))
  delete_is policies.Recycle e = absurd (true≢false (sym e))

  some_uid : (o : Option ℕ) (uid : ℕ) → o ≡ Some uid → HasSome o
  some_uid None uid e = absurd (none-some uid e)
  some_uid (Some v) uid e = tt

  gone_told : (past : List SnapEntry) (c : ContentData) → HasSome c.uid → c.policy ≡ policies.Delete → c.there ≡ true → TellsGone past c → ToldGone c.name c.version past
  gone_told [] c h p t gone = absurd gone
  gone_told (e ∷ past) c h p t (inl now) = inl (told_content_as _ past c now.1 (record { content = record { named = refl; at = refl }; bound = h; policy = p; stands = t; lacks = now.0 }))
  gone_told (e ∷ past) c h p t (inr before) = inr (gone_told past c h p t before)

  content_licensed : (uids : List ℕ) (x : SeenContent) → KnowsSeen mine x → (ask : SnapAsk) → content_ask uids x ≡ Some ask → SnapLicensed mine ask
  unfolding SnapLicensed
  content_licensed uids x k ask e = by_dropped x.dropped e
    where
      by_gone : (b : Bool) → x.gone ≡ b → HasSome x.row.uid → x.row.there ≡ true → x.row.policy ≡ policies.Delete
          → (if b then Some (asks.EraseSnap x.row.name x.row.version) else Some (asks.SnapGet x.row.namespace x.row.snapshot)) ≡ Some ask → SnapLicensed mine ask
      by_gone true gone h t p e = subst (λ (a : SnapAsk). SnapLicensed mine a) (same_Some (asks.EraseSnap x.row.name x.row.version) ask e) (gone_told mine x.row h p t (k.gone gone))
      by_gone false gone h t p e = subst (λ (a : SnapAsk). SnapLicensed mine a) (same_Some (asks.SnapGet x.row.namespace x.row.snapshot) ask e)
          (told_content_as _ mine x.row k.told (record { placed = refl; named = refl; bound = h }))

      by_policy : (uid : ℕ) (b : Bool) → (is_delete x.row.policy && not (is_among uid uids)) ≡ b → HasSome x.row.uid → x.row.there ≡ true → (if b then erasing_ask x else None) ≡ Some ask
          → SnapLicensed mine ask
      by_policy uid true p h t e = by_gone x.gone refl h t (delete_is x.row.policy (both _ _ p).0) e
      by_policy uid false p h t e = absurd (none-some ask e)

      by_there : (uid : ℕ) (b : Bool) → x.row.there ≡ b → HasSome x.row.uid → (if b then left_ask uids x uid else Some (asks.DropContent x.row.name x.row.version)) ≡ Some ask → SnapLicensed mine ask
      by_there uid true t h e = by_policy uid (is_delete x.row.policy && not (is_among uid uids)) refl h t e
      by_there uid false t h e = subst (λ (a : SnapAsk). SnapLicensed mine a) (same_Some (asks.DropContent x.row.name x.row.version) ask e)
          (told_content_as _ mine x.row k.told (record { content = record { named = refl; at = refl }; bound = h; gone = t }))

      by_uid : (o : Option ℕ) → x.row.uid ≡ o → content_ask_by uids x o ≡ Some ask → SnapLicensed mine ask
      by_uid None own e = absurd (none-some ask e)
      by_uid (Some uid) own e = by_there uid x.row.there refl (some_uid x.row.uid uid own) e

      by_dropped : (b : Bool) → (if b then None else content_ask_by uids x x.row.uid) ≡ Some ask → SnapLicensed mine ask
      by_dropped true e = absurd (none-some ask e)
      by_dropped false e = by_uid x.row.uid refl e

  next_licensed : (w : Worker) → IsTold mine w → (ask : SnapAsk) → next_of w ≡ Some ask → SnapLicensed mine ask
  unfolding SnapLicensed
  next_licensed w t ask e = by_listed w.listed e
    where
      by_first : (b : Bool) → is_some (first_ask (snapshot_ask w.contents) w.snapshots) ≡ b
          → or_else (first_ask (snapshot_ask w.contents) w.snapshots) (first_ask (content_ask w.uids) w.contents) ≡ Some ask → SnapLicensed mine ask
      by_first true some e =
          let a = asking (snapshot_ask w.contents) (KnowsSnap mine) w.snapshots ask t.snapshots (or_first _ _ ask e some) in
          snapshot_licensed w.contents a.row t.contents a.is ask a.asks_it
      by_first false none e =
          let a = asking (content_ask w.uids) (KnowsSeen mine) w.contents ask t.contents (or_second _ _ ask e none) in
          content_licensed w.uids a.row a.is ask a.asks_it

      by_listed : (b : Bool) → (if b then rows_ask w else Some asks.SnapList) ≡ Some ask → SnapLicensed mine ask
      by_listed true e = by_first (is_some (first_ask (snapshot_ask w.contents) w.snapshots)) refl e
      by_listed false e = subst (λ (a : SnapAsk). SnapLicensed mine a) (same_Some asks.SnapList ask e) tt

pub each_ask_is_licensed : EachAskIsLicensed
each_ask_is_licensed mine w life ask e = next_licensed mine w (told_by_life mine w life) ask e
