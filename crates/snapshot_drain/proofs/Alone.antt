-- A worker that is alone with the side stays so, and each of its asks after its list lowers the measure.
use Rattle.std.specs.Prelude.{ℕ, ◌+◌, ◌≤◌, ◌<◌, ◌==◌, ◌≡◌, ◌≢◌, ◌&&◌, ◌||◌, not, Bool, true, false, List, [], ◌∷◌, Option, Some, None, Ok, Err, ⊤, map, bytes_eq, is_some, is_none, if◌then◌else◌}
use Rattle.std.proofs.Common.{refl, sym, ◌∙◌, ap, subst, arith, true≢false}
use Rattle.std.proofs.lemmas.Cmp.{nat_list_cmp_total}
use Rattle.std.proofs.lemmas.Map.Lookups.{exact_bytes}
use Rattle.std.proofs.lemmas.Option.{same_Some, none-some}
use Rattle.std.specs.declared.cmp.Ordering.{Ordering}
use Rattle.std.specs.declared.cmp.Ordering.TheVariants.{Less, Equal, Greater}
use Rattle.std.specs.Ordering.{is_eq, match_ordering}
use Rattle.plain_data.specs.Pairs.{text_cmp}
use Rattle.plain_data.specs.Rows.{put, without}
use Rattle.kube_objects.specs.declared.objects.Object.{Object}
use Rattle.kube_objects.specs.declared.objects.DataId.{DataId}
use Rattle.kube_objects.specs.Bindings.{is_empty, is_delete}
use Rattle.snapshot_bind.specs.declared.rows.Snapshot.{Snapshot as SnapshotData}
use Rattle.snapshot_bind.specs.declared.rows.Content.{Content as ContentData}
use Rattle.snapshot_bind.specs.declared.rows.SnapRow.TheVariants as rows
use Rattle.snapshot_worker.specs.declared.seen.SeenSnapshot.{SeenSnapshot}
use Rattle.snapshot_worker.specs.declared.seen.SeenContent.{SeenContent}
use Rattle.snapshot_bind.specs.declared.calls.SnapAsk.{SnapAsk}
use Rattle.snapshot_bind.specs.declared.calls.SnapAsk.TheVariants as asks
use Rattle.snapshot_bind.specs.declared.calls.SnapReply.{SnapReply}
use Rattle.snapshot_bind.specs.declared.calls.SnapReply.TheVariants.{Listed, Found, Made, Left, Refused}
use Rattle.snapshot_bind.specs.declared.calls.SnapRefusal.{SnapRefusal}
use Rattle.snapshot_bind.specs.declared.calls.SnapRefusal.TheVariants.{Conflict}
use Rattle.snapshot_bind.specs.declared.effect.Effect.{Effect}
use Rattle.snapshot_bind.specs.declared.effect.Effect.TheVariants.{Answers, PutsSnapshot, PutsContent, TakesSnapshot, TakesContent}
use Rattle.snapshot_bind.specs.Rules.{EachOf, IsSideRun, SideCall, side_after}
use Rattle.snapshot_bind.specs.SideStore.{
  Side,
  snap_cmp,
  snapshot_key,
  content_key,
  snapshot_at,
  refuse,
  cut,
  cut_from,
  snapshot_of_version,
  content_of_version,
  write,
  get,
  worker_effect,
  effect_of,
  after,
  reply_of,
}
use Rattle.snapshot_drain.specs.Drains.{HaveNames, Lowers, total, has_content, weight, IsWrite, AsksByRules}
use Rattle.snapshot_worker.specs.Workers.{
  Worker,
  first_ask,
  first_content,
  has_this_uid,
  is_free_for,
  waiting_ask,
  snapshot_ask,
  content_ask_by,
  content_ask,
  or_else,
  next_of,
  change_first,
  seen_key,
  seen_name,
  fresh_snapshot,
  fresh_content,
  keep_row,
  take_row,
  listed_from,
  drop_snapshot,
  drop_content,
  lacks_uid,
  looked_for,
  after_get,
  after_content,
  is_same_uid,
  dropped_snapshot,
  dropped_content,
  erasing_ask,
  is_among,
  rows_ask,
  after_row,
  after_call,
  staying_ask,
  told_ask,
  left_ask,
  is_look,
  absorb_of,
}
use Rattle.snapshot_drain.specs.Alone.{IsAlone, snapshot_load, content_load, IsLowered, EachStepLowers, ListsMakeAlone}
use Rattle.snapshot_bind.proofs.Orders.{snap_cmp_total}
use Rattle.snapshot_law.proofs.Finds.{equal_keys, each_found}
use Rattle.snapshot_law.proofs.Known.{StandsAt, HoldsAt, IsGood}
use Rattle.snapshot_law.proofs.Law.{known_of}
use Rattle.snapshot_law.proofs.Fair.{each_with}
use Rattle.snapshot_drain.proofs.Weights.{lower_by_rules}
use Rattle.snapshot_worker.proofs.Lives.{asking, or_first, or_second, is_nil}

-- what is done to the kept rows is done to the rows in them

module _ {K X Y : Type 0} (cmp : K → K → Ordering) (key : Y → K) (row : X → Y) where
  map_put : (x : X) (xs : List X) → map row (put cmp (λ z. key (row z)) x xs) ≡ put cmp key (row x) (map row xs)
  map_put x [] = refl
  map_put x (y ∷ ys) = by (cmp (key (row y)) (key (row x))) (map_put x ys)
    where
      by : (r : Ordering) → map row (put cmp (λ z. key (row z)) x ys) ≡ put cmp key (row x) (map row ys)
          → map row (match_ordering r (y ∷ put cmp (λ z. key (row z)) x ys) (x ∷ ys) (x ∷ y ∷ ys)) ≡ match_ordering r (row y ∷ put cmp key (row x) (map row ys)) (row x ∷ map row ys)
          (row x ∷ row y ∷ map row ys)
      by Less rest = ap (λ zs. row y ∷ zs) rest
      by Equal rest = refl
      by Greater rest = refl

  map_without : (k : K) (xs : List X) → map row (without cmp (λ z. key (row z)) k xs) ≡ without cmp key k (map row xs)
  map_without k [] = refl
  map_without k (y ∷ ys) = by (is_eq (cmp (key (row y)) k)) (map_without k ys)
    where
      by : (b : Bool) → map row (without cmp (λ z. key (row z)) k ys) ≡ without cmp key k (map row ys)
          → map row (if b then ys else y ∷ without cmp (λ z. key (row z)) k ys) ≡ (if b then map row ys else row y ∷ without cmp key k (map row ys))
      by true rest = refl
      by false rest = ap (λ zs. row y ∷ zs) rest

map_change : {X Y : Type 0} (f : X → Option SnapAsk) (g : X → X) (row : X → Y) (xs : List X) → ((x : X) → row (g x) ≡ row x) → map row (change_first f g xs) ≡ map row xs
map_change f g row [] h = refl
map_change f g row (x ∷ xs) h = by (is_some (f x)) (map_change f g row xs h)
  where
    by : (b : Bool) → map row (change_first f g xs) ≡ map row xs → map row (if b then g x ∷ xs else x ∷ change_first f g xs) ≡ row x ∷ map row xs
    by true rest = ap (λ y. y ∷ map row xs) (h x)
    by false rest = ap (λ ys. row x ∷ ys) rest

map_fresh : {X Y : Type 0} (row : X → Y) (fresh : Y → X) (ys : List Y) → ((y : Y) → row (fresh y) ≡ y) → map row (map fresh ys) ≡ ys
map_fresh row fresh [] h = refl
map_fresh row fresh (y ∷ ys) h = ap (λ z. z ∷ map row (map fresh ys)) (h y) ∙ ap (λ zs. y ∷ zs) (map_fresh row fresh ys h)

-- and their loads

module _ {K X : Type 0} (cmp : K → K → Ordering) (key : X → K) (f : X → ℕ) where
  put_load : (x : X) (xs : List X) → total f (put cmp key x xs) ≤ total f xs + f x
  put_load x [] = omega arith
  put_load x (y ∷ ys) = by (cmp (key y) (key x)) (put_load x ys)
    where
      by : (r : Ordering) → total f (put cmp key x ys) ≤ total f ys + f x → total f (match_ordering r (y ∷ put cmp key x ys) (x ∷ ys) (x ∷ y ∷ ys)) ≤ (f y + total f ys) + f x
      by Less rest = omega (arith, rest)
      by Equal rest = omega arith
      by Greater rest = omega arith

  without_load : (k : K) (xs : List X) → total f (without cmp key k xs) ≤ total f xs
  without_load k [] = omega arith
  without_load k (y ∷ ys) = by (is_eq (cmp (key y) k)) (without_load k ys)
    where
      by : (b : Bool) → total f (without cmp key k ys) ≤ total f ys → total f (if b then ys else y ∷ without cmp key k ys) ≤ f y + total f ys
      by true rest = omega arith
      by false rest = omega (arith, rest)

change_load : {X : Type 0} (f : X → Option SnapAsk) (g : X → X) (n : X → ℕ) (ask : SnapAsk) (xs : List X) → first_ask f xs ≡ Some ask → ((x : X) → f x ≡ Some ask → n (g x) < n x)
    → total n (change_first f g xs) < total n xs
change_load f g n ask [] e h = absurd (none-some ask e)
change_load f g n ask (x ∷ xs) e h = by (is_some (f x)) e (λ e. change_load f g n ask xs e h)
  where
    by : (b : Bool) → (if b then f x else first_ask f xs) ≡ Some ask → (first_ask f xs ≡ Some ask → total n (change_first f g xs) < total n xs)
        → total n (if b then g x ∷ xs else x ∷ change_first f g xs) < n x + total n xs
    by true e rest = let low = h x e in omega (arith, low)
    by false e rest = let low = rest e in omega (arith, low)

snapshot_waits : (cs : List SeenContent) (x : SeenSnapshot) (ask : SnapAsk) → snapshot_ask cs x ≡ Some ask → x.dropped ≡ false
snapshot_waits cs x ask e = by x.dropped refl e
  where
    by : (b : Bool) → x.dropped ≡ b → (if b then None else told_ask cs x.row) ≡ Some ask → x.dropped ≡ false
    by true d e = absurd (none-some ask e)
    by false d e = d

content_waits : (uids : List ℕ) (x : SeenContent) (ask : SnapAsk) → content_ask uids x ≡ Some ask → x.dropped ≡ false
content_waits uids x ask e = by x.dropped refl e
  where
    by : (b : Bool) → x.dropped ≡ b → (if b then None else content_ask_by uids x x.row.uid) ≡ Some ask → x.dropped ≡ false
    by true d e = absurd (none-some ask e)
    by false d e = d

-- a content asks for a look while its snapshot was not told gone
not_gone : (uids : List ℕ) (x : SeenContent) (ask : SnapAsk) → content_ask uids x ≡ Some ask → is_look ask ≡ true → x.gone ≡ false
not_gone uids x ask e get = by_dropped x.dropped e
  where
    none : None ≡ Some ask → x.gone ≡ false
    none e = absurd (none-some ask e)

    other : (a : SnapAsk) → is_look a ≡ false → Some a ≡ Some ask → x.gone ≡ false
    other a not e = absurd (true≢false (sym get ∙ ap is_look (sym (same_Some a ask e)) ∙ not))

    by_gone : (b : Bool) → x.gone ≡ b → (if b then Some (asks.EraseSnap x.row.name x.row.version) else Some (asks.SnapGet x.row.namespace x.row.snapshot)) ≡ Some ask → x.gone ≡ false
    by_gone true g e = other _ refl e
    by_gone false g e = g

    by_policy : (b : Bool) → (if b then erasing_ask x else None) ≡ Some ask → x.gone ≡ false
    by_policy true e = by_gone x.gone refl e
    by_policy false e = none e

    by_there : (uid : ℕ) (b : Bool) → (if b then left_ask uids x uid else Some (asks.DropContent x.row.name x.row.version)) ≡ Some ask → x.gone ≡ false
    by_there uid true e = by_policy (is_delete x.row.policy && not (is_among uid uids)) e
    by_there uid false e = other _ refl e

    by_uid : (o : Option ℕ) → content_ask_by uids x o ≡ Some ask → x.gone ≡ false
    by_uid None e = none e
    by_uid (Some uid) e = by_there uid x.row.there e

    by_dropped : (b : Bool) → (if b then None else content_ask_by uids x x.row.uid) ≡ Some ask → x.gone ≡ false
    by_dropped true e = none e
    by_dropped false e = by_uid x.row.uid e

one_of : (b : Bool) → b ≡ false → ◌≡◌ {A = ℕ} (if b then 0 else 1) 1
one_of true e = absurd (true≢false e)
one_of false e = refl

gone_load : (reply : SnapReply) (x : SeenContent) → x.dropped ≡ false → x.gone ≡ false → content_load (looked_for reply x) < content_load x
gone_load reply x d g = by (lacks_uid x.row.uid reply)
  where
    by : (b : Bool) → content_load (if b then record x { gone = true } else dropped_content x) < content_load x
    by true = let one = one_of x.gone g in omega (arith, one)
    by false = let one = one_of x.dropped d in omega (arith, one)

-- an ask that is no look and no list is refused, or writes
abbrev IsQuiet : Effect → Type 0
IsQuiet (Answers (Refused why)) = ⊤
IsQuiet (Answers reply) = ⊥
IsQuiet o = ⊤

quiet_refuse : (b : Bool) (why : SnapRefusal) (next : Effect) → IsQuiet next → IsQuiet (refuse b why next)
unfolding refuse
quiet_refuse true why next q = tt
quiet_refuse false why next q = q

quiet_if : (b : Bool) (next : Effect) (why : SnapRefusal) → IsQuiet next → IsQuiet (if b then next else Answers (Refused why))
quiet_if true next why q = q
quiet_if false next why q = tt

quiet_snapshot_write : (version : ℕ) (o : Option SnapshotData) (change : SnapshotData → Effect) → ((s : SnapshotData) → IsQuiet (change s)) → IsQuiet (write (snapshot_of_version version o) change)
unfolding write snapshot_of_version
quiet_snapshot_write version None change q = tt
quiet_snapshot_write version (Some s) change q = by (s.version == version)
  where
    by : (b : Bool) → IsQuiet (write (if b then Ok s else Err (Conflict s.version)) change)
    by true = q s
    by false = tt

quiet_content_write : (version : ℕ) (o : Option ContentData) (change : ContentData → Effect) → ((c : ContentData) → IsQuiet (change c)) → IsQuiet (write (content_of_version version o) change)
unfolding write content_of_version
quiet_content_write version None change q = tt
quiet_content_write version (Some c) change q = by (c.version == version)
  where
    by : (b : Bool) → IsQuiet (write (if b then Ok c else Err (Conflict c.version)) change)
    by true = q c
    by false = tt

quiet_cut_from : (number : ℕ) (s : SnapshotData) (source : Option DataId) → IsQuiet (cut_from number s source)
unfolding cut_from
quiet_cut_from number s None = tt
quiet_cut_from number s (Some source) = tt

quiet_cut : (σ : Side) (uid : ℕ) (world : List Object) (o : Option SnapshotData) → IsQuiet (cut σ uid world o)
unfolding cut
quiet_cut σ uid world None = tt
quiet_cut σ uid world (Some s) = quiet_if (s.uid == uid) _ _ (quiet_refuse _ _ _ (quiet_cut_from _ s _))

quiet_of : (world : List Object) (σ : Side) (ask : SnapAsk) → AsksByRules σ ask → is_look ask ≡ false → (ask ≡ asks.SnapList → ⊥) → IsQuiet (effect_of world σ ask)
unfolding effect_of worker_effect
quiet_of world σ (asks.Snapshot namespace name claim policy) rules get list = absurd rules
quiet_of world σ (asks.Content name namespace snapshot policy source) rules get list = absurd rules
quiet_of world σ (asks.Unsnap namespace name) rules get list = absurd rules
quiet_of world σ (asks.Uncontent name) rules get list = absurd rules
quiet_of world σ asks.SnapList rules get list = absurd (list refl)
quiet_of world σ (asks.SnapGet namespace name) rules get list = absurd (true≢false get)
quiet_of world σ (asks.Cut namespace name uid) rules get list = quiet_cut σ uid world _
quiet_of world σ (asks.BindContent name version uid) rules get list = quiet_content_write version _ _ (λ c. tt)
quiet_of world σ (asks.BindSnapshot namespace name version content) rules get list = quiet_snapshot_write version _ _ (λ s. tt)
quiet_of world σ (asks.DropSnapshot namespace name version) rules get list = quiet_snapshot_write version _ _ (λ s. tt)
quiet_of world σ (asks.EraseSnap name version) rules get list = quiet_content_write version _ _ (λ c. tt)
quiet_of world σ (asks.DropContent name version) rules get list = quiet_content_write version _ _ (λ c. tt)

each_from_map : {X Y : Type 0} (P : Y → Type 0) (f : X → Y) (xs : List X) → EachOf P (map f xs) → EachOf (λ x. P (f x)) xs
each_from_map P f [] each = tt
each_from_map P f (x ∷ xs) each = (each.0, each_from_map P f xs each.1)

module _ (σ : Side) (g : IsGood σ) (named : HaveNames σ) (w : Worker) (alone : IsAlone σ w) where
  -- the snapshot stands
  abbrev Stood : SnapshotData → Type 0
  Stood s = StandsAt σ (snapshot_key s) s

  -- the content stands, and has a name
  abbrev Held : ContentData → Type 0
  Held c = HoldsAt σ (content_key c) c × (c.name ≢ [])

  all_stand : EachOf (λ (x : SeenSnapshot). Stood x.row) w.snapshots
  all_stand = each_from_map Stood (λ (x : SeenSnapshot). x.row) w.snapshots (subst (λ ss. EachOf Stood ss) (sym alone.snapshots)
      (each_found snap_cmp_total equal_keys snapshot_key σ.snapshots g.snapshots_rise Stood (λ s h. h)))

  all_hold : EachOf (λ (x : SeenContent). Held x.row) w.contents
  all_hold = each_from_map Held (λ (x : SeenContent). x.row) w.contents (subst (λ cs. EachOf Held cs) (sym alone.contents)
      (each_with _ _ σ.contents (each_found nat_list_cmp_total exact_bytes content_key σ.contents g.contents_rise (λ c. HoldsAt σ (content_key c) c) (λ c h. h)) named))

  -- a content that stands, and is one that is looked for
  record FirstIs (p : ContentData → Bool) (c : ContentData) : Type 0 where
    held : Held c
    holds : p c ≡ true

  first_is : (p : ContentData → Bool) (xs : List SeenContent) (c : ContentData) → EachOf (λ (x : SeenContent). Held x.row) xs → first_content p xs ≡ Some c → FirstIs p c
  first_is p [] c each e = absurd (none-some c e)
  first_is p (x ∷ xs) c each e = by (p x.row) refl e (first_is p xs c each.1)
    where
      by : (b : Bool) → p x.row ≡ b → (if b then Some x.row else first_content p xs) ≡ Some c → (first_content p xs ≡ Some c → FirstIs p c) → FirstIs p c
      by true holds e rest = let one = same_Some x.row c e in record { held = subst Held one each.0; holds = subst (λ (d : ContentData). p d ≡ true) one holds }
      by false holds e rest = rest e

  none_has : (uid : ℕ) (xs : List SeenContent) → first_content (has_this_uid uid) xs ≡ None → has_content uid (map (λ (x : SeenContent). x.row) xs) ≡ false
  none_has uid [] e = refl
  none_has uid (x ∷ xs) e = by (is_same_uid x.row.uid uid) e (none_has uid xs)
    where
      by : (b : Bool) → (if b then Some x.row else first_content (has_this_uid uid) xs) ≡ None
          → (first_content (has_this_uid uid) xs ≡ None → has_content uid (map (λ (x : SeenContent). x.row) xs) ≡ false) → (b || has_content uid (map (λ (x : SeenContent). x.row) xs)) ≡ false
      by true e rest = absurd (none-some x.row (sym e))
      by false e rest = rest e

  no_uid : (s : SnapshotData) (c : ContentData) → is_free_for s c ≡ true → c.uid ≡ None
  no_uid s c e = by c.uid e
    where
      by : (o : Option ℕ) → ((is_none o && bytes_eq c.namespace s.namespace) && bytes_eq c.snapshot s.name) ≡ true → o ≡ None
      by None e = refl
      by (Some u) e = absurd (true≢false (sym e))

  waiting_rules : (s : SnapshotData) → Stood s → s.content ≡ [] → (bound free : Option ContentData) → first_content (has_this_uid s.uid) w.contents ≡ bound
      → first_content (is_free_for s) w.contents ≡ free → (ask : SnapAsk) → waiting_ask s bound free ≡ Some ask → AsksByRules σ ask
  waiting_rules s stood empty (Some c) free eb ef ask e =
      let f = first_is (has_this_uid s.uid) w.contents c all_hold eb in
      subst (λ (a : SnapAsk). AsksByRules σ a) (same_Some (asks.BindSnapshot s.namespace s.name s.version c.name) ask e) (record { snapshot = s; stands = stood; unbound = empty; named = f.held.1 })
  waiting_rules s stood empty None (Some c) eb ef ask e =
      let f = first_is (is_free_for s) w.contents c all_hold ef in
      subst (λ (a : SnapAsk). AsksByRules σ a) (same_Some (asks.BindContent c.name c.version s.uid) ask e) (record { content = c; stands = f.held.0; free = no_uid s c f.holds })
  waiting_rules s stood empty None None eb ef ask e = by (is_empty s.claim) e
    where
      by : (b : Bool) → (if b then None else Some (asks.Cut s.namespace s.name s.uid)) ≡ Some ask → AsksByRules σ ask
      by true e = absurd (none-some ask e)
      by false e = subst (λ (a : SnapAsk). AsksByRules σ a) (same_Some (asks.Cut s.namespace s.name s.uid) ask e)
          (record { snapshot = s; stands = stood; unbound = empty; none = subst (λ cs. has_content s.uid cs ≡ false) alone.contents (none_has s.uid w.contents eb) })

  -- what a snapshot asks for: by the rules, no look and no list
  record FromSnapshot (ask : SnapAsk) : Type 0 where
    rules : AsksByRules σ ask
    get : is_look ask ≡ false
    list : ask ≡ asks.SnapList → ⊥

  is_list : SnapAsk → Bool
  is_list asks.SnapList = true
  is_list _ = false

  waiting_kind : (s : SnapshotData) (bound free : Option ContentData) (ask : SnapAsk) → waiting_ask s bound free ≡ Some ask → (is_look ask ≡ false) × (is_list ask ≡ false)
  unfolding is_list
  waiting_kind s (Some c) free ask e = subst (λ (a : SnapAsk). (is_look a ≡ false) × (is_list a ≡ false)) (same_Some (asks.BindSnapshot s.namespace s.name s.version c.name) ask e) (refl, refl)
  waiting_kind s None (Some c) ask e = subst (λ (a : SnapAsk). (is_look a ≡ false) × (is_list a ≡ false)) (same_Some (asks.BindContent c.name c.version s.uid) ask e) (refl, refl)
  waiting_kind s None None ask e = by (is_empty s.claim) e
    where
      by : (b : Bool) → (if b then None else Some (asks.Cut s.namespace s.name s.uid)) ≡ Some ask → (is_look ask ≡ false) × (is_list ask ≡ false)
      by true e = absurd (none-some ask e)
      by false e = subst (λ (a : SnapAsk). (is_look a ≡ false) × (is_list a ≡ false)) (same_Some (asks.Cut s.namespace s.name s.uid) ask e) (refl, refl)

  not_list : (ask : SnapAsk) → is_list ask ≡ false → ask ≡ asks.SnapList → ⊥
  unfolding is_list
  not_list ask e is = true≢false (sym (ap is_list is) ∙ e)

  snapshot_rules : (x : SeenSnapshot) → Stood x.row → (ask : SnapAsk) → snapshot_ask w.contents x ≡ Some ask → FromSnapshot ask
  unfolding is_list
  snapshot_rules x stood ask e = by_dropped x.dropped e
    where
      by_empty : (b : Bool) → is_empty x.row.content ≡ b → (if b then waiting_ask x.row (first_content (has_this_uid x.row.uid) w.contents)
          (first_content (is_free_for x.row) w.contents) else None) ≡ Some ask → FromSnapshot ask
      by_empty true empty e =
          let kind = waiting_kind x.row _ _ ask e in
          record { rules = waiting_rules x.row stood (is_nil x.row.content empty) _ _ refl refl ask e; get = kind.0; list = not_list ask kind.1 }
      by_empty false empty e = absurd (none-some ask e)

      by_deleting : (b : Bool) → (if b then Some (asks.DropSnapshot x.row.namespace x.row.name x.row.version) else staying_ask w.contents x.row) ≡ Some ask → FromSnapshot ask
      by_deleting true e =
          let one = same_Some (asks.DropSnapshot x.row.namespace x.row.name x.row.version) ask e in
          record { rules = subst (λ (a : SnapAsk). AsksByRules σ a) one tt; get = ap is_look (sym one); list = not_list ask (ap is_list (sym one)) }
      by_deleting false e = by_empty (is_empty x.row.content) refl e

      by_dropped : (b : Bool) → (if b then None else told_ask w.contents x.row) ≡ Some ask → FromSnapshot ask
      by_dropped true e = absurd (none-some ask e)
      by_dropped false e = by_deleting x.row.deleting e

  -- what a content asks for: by the rules, and no list
  record FromContent (ask : SnapAsk) : Type 0 where
    rules : AsksByRules σ ask
    list : ask ≡ asks.SnapList → ⊥

  content_rules : (x : SeenContent) → Held x.row → (ask : SnapAsk) → content_ask w.uids x ≡ Some ask → FromContent ask
  unfolding is_list
  content_rules x held ask e = by_dropped x.dropped e
    where
      by_gone : x.row.there ≡ true → (b : Bool) → (if b then Some (asks.EraseSnap x.row.name x.row.version) else Some (asks.SnapGet x.row.namespace x.row.snapshot)) ≡ Some ask → FromContent ask
      by_gone t true e = let one = same_Some (asks.EraseSnap x.row.name x.row.version) ask e in record {
        rules = subst (λ (a : SnapAsk). AsksByRules σ a) one
            (record { content = x.row; stands = held.0; there = t });
        list = not_list ask (ap is_list (sym one));
      }
      by_gone t false e =
          let one = same_Some (asks.SnapGet x.row.namespace x.row.snapshot) ask e in record { rules = subst (λ (a : SnapAsk). AsksByRules σ a) one tt; list = not_list ask (ap is_list (sym one)) }

      by_policy : x.row.there ≡ true → (b : Bool) → (if b then erasing_ask x else None) ≡ Some ask → FromContent ask
      by_policy t true e = by_gone t x.gone e
      by_policy t false e = absurd (none-some ask e)

      by_there : (uid : ℕ) (b : Bool) → x.row.there ≡ b → (if b then left_ask w.uids x uid else Some (asks.DropContent x.row.name x.row.version)) ≡ Some ask → FromContent ask
      by_there uid true t e = by_policy t (is_delete x.row.policy && not (is_among uid w.uids)) e
      by_there uid false t e = let one = same_Some (asks.DropContent x.row.name x.row.version) ask e in record {
        rules = subst (λ (a : SnapAsk). AsksByRules σ a) one
            (record { content = x.row; stands = held.0; gone = t });
        list = not_list ask (ap is_list (sym one));
      }

      by_uid : (o : Option ℕ) → content_ask_by w.uids x o ≡ Some ask → FromContent ask
      by_uid None e = absurd (none-some ask e)
      by_uid (Some uid) e = by_there uid x.row.there refl e

      by_dropped : (b : Bool) → (if b then None else content_ask_by w.uids x x.row.uid) ≡ Some ask → FromContent ask
      by_dropped true e = absurd (none-some ask e)
      by_dropped false e = by_uid x.row.uid e

  -- after a write
  kept_snapshot : (s : SnapshotData) → weight (after σ (PutsSnapshot s)) < weight σ → IsLowered σ (after σ (PutsSnapshot s)) w (keep_row w (rows.Snapshot s))
  kept_snapshot s low =
      let more = put_load snap_cmp seen_key snapshot_load (fresh_snapshot s) w.snapshots in
      record {
        alone = record {
          listed = alone.listed;
          snapshots = map_put snap_cmp snapshot_key (λ (x : SeenSnapshot). x.row) (fresh_snapshot s) w.snapshots ∙ ap
              (λ ss. put snap_cmp snapshot_key s ss) alone.snapshots;
          contents = alone.contents;
        };
        lower = omega (arith, low, more);
      }

  kept_content : (c : ContentData) → weight (after σ (PutsContent c)) < weight σ → IsLowered σ (after σ (PutsContent c)) w (keep_row w (rows.Content c))
  kept_content c low =
      let more = put_load text_cmp seen_name content_load (fresh_content c) w.contents in
      record {
        alone = record {
          listed = alone.listed;
          snapshots = alone.snapshots;
          contents = map_put text_cmp content_key (λ (x : SeenContent). x.row) (fresh_content c) w.contents ∙ ap
              (λ cs. put text_cmp content_key c cs) alone.contents;
        };
        lower = omega (arith, low, more);
      }

  took_snapshot : (s : SnapshotData) → weight (after σ (TakesSnapshot s)) < weight σ → IsLowered σ (after σ (TakesSnapshot s)) w (take_row w (rows.Snapshot s))
  took_snapshot s low =
      let less = without_load snap_cmp seen_key snapshot_load (snapshot_key s) w.snapshots in
      record {
        alone = record {
          listed = alone.listed;
          snapshots = map_without snap_cmp snapshot_key (λ (x : SeenSnapshot). x.row) (snapshot_key s) w.snapshots ∙ ap
              (λ ss. without snap_cmp snapshot_key (snapshot_key s) ss) alone.snapshots;
          contents = alone.contents;
        };
        lower = omega (arith, low, less);
      }

  took_content : (c : ContentData) → weight (after σ (TakesContent c)) < weight σ → IsLowered σ (after σ (TakesContent c)) w (take_row w (rows.Content c))
  took_content c low =
      let less = without_load text_cmp seen_name content_load (content_key c) w.contents in
      record {
        alone = record {
          listed = alone.listed;
          snapshots = alone.snapshots;
          contents = map_without text_cmp content_key (λ (x : SeenContent). x.row) (content_key c) w.contents ∙ ap
              (λ cs. without text_cmp content_key (content_key c) cs) alone.contents;
        };
        lower = omega (arith, low, less);
      }

  dropped_one : (ask : SnapAsk) → first_ask (snapshot_ask w.contents) w.snapshots ≡ Some ask → IsLowered σ σ w (drop_snapshot w)
  dropped_one ask e =
      let less =
      change_load (snapshot_ask w.contents) dropped_snapshot snapshot_load ask w.snapshots e (λ x is. let one = one_of x.dropped (snapshot_waits w.contents x ask is) in omega (arith, one)) in
      record {
        alone = record {
          listed = alone.listed;
          snapshots = map_change (snapshot_ask w.contents) dropped_snapshot (λ (x : SeenSnapshot). x.row) w.snapshots (λ x. refl)
              ∙ alone.snapshots;
          contents = alone.contents;
        };
        lower = omega (arith, less);
      }

  dropped_other : (ask : SnapAsk) → first_ask (content_ask w.uids) w.contents ≡ Some ask → IsLowered σ σ w (drop_content w)
  dropped_other ask e =
      let less = change_load (content_ask w.uids) dropped_content content_load ask w.contents e (λ x is. let one = one_of x.dropped (content_waits w.uids x ask is) in omega (arith, one)) in
      record {
        alone = record {
          listed = alone.listed;
          snapshots = alone.snapshots;
          contents = map_change (content_ask w.uids) dropped_content (λ (x : SeenContent). x.row) w.contents (λ x. refl)
              ∙ alone.contents;
        };
        lower = omega (arith, less);
      }

  gone_row : (reply : SnapReply) (x : SeenContent) → (looked_for reply x).row ≡ x.row
  gone_row reply x = by (lacks_uid x.row.uid reply)
    where
      by : (b : Bool) → (if b then record x { gone = true } else dropped_content x).row ≡ x.row
      by true = refl
      by false = refl

  got_one : (ask : SnapAsk) (reply : SnapReply) → first_ask (content_ask w.uids) w.contents ≡ Some ask → is_look ask ≡ true → IsLowered σ σ w (after_get w reply)
  got_one ask reply e get =
      let less = change_load (content_ask w.uids) (looked_for reply) content_load ask w.contents e (λ x is. gone_load reply x (content_waits w.uids x ask is) (not_gone w.uids x ask is get)) in
      record {
        alone = record {
          listed = alone.listed;
          snapshots = alone.snapshots;
          contents = map_change (content_ask w.uids) (looked_for reply) (λ (x : SeenContent). x.row) w.contents
              (gone_row reply) ∙ alone.contents;
        };
        lower = omega (arith, less);
      }

  by_snapshot : (ask : SnapAsk) → first_ask (snapshot_ask w.contents) w.snapshots ≡ Some ask → (o : Effect) → IsQuiet o → (IsWrite o → weight (after σ o) < weight σ)
      → IsLowered σ (after σ o) w (after_call w (reply_of o) (drop_snapshot w))
  by_snapshot ask e (Answers (Refused why)) q low = dropped_one ask e
  by_snapshot ask e (Answers (Listed ss cs n)) q low = absurd q
  by_snapshot ask e (Answers (Found s)) q low = absurd q
  by_snapshot ask e (Answers (Made row)) q low = absurd q
  by_snapshot ask e (Answers (Left row)) q low = absurd q
  by_snapshot ask e (PutsSnapshot s) q low = kept_snapshot s (low tt)
  by_snapshot ask e (PutsContent c) q low = kept_content c (low tt)
  by_snapshot ask e (TakesSnapshot s) q low = took_snapshot s (low tt)
  by_snapshot ask e (TakesContent c) q low = took_content c (low tt)

  by_content : (ask : SnapAsk) → first_ask (content_ask w.uids) w.contents ≡ Some ask → (o : Effect) → IsQuiet o → (IsWrite o → weight (after σ o) < weight σ)
      → IsLowered σ (after σ o) w (after_call w (reply_of o) (drop_content w))
  by_content ask e (Answers (Refused why)) q low = dropped_other ask e
  by_content ask e (Answers (Listed ss cs n)) q low = absurd q
  by_content ask e (Answers (Found s)) q low = absurd q
  by_content ask e (Answers (Made row)) q low = absurd q
  by_content ask e (Answers (Left row)) q low = absurd q
  by_content ask e (PutsSnapshot s) q low = kept_snapshot s (low tt)
  by_content ask e (PutsContent c) q low = kept_content c (low tt)
  by_content ask e (TakesSnapshot s) q low = took_snapshot s (low tt)
  by_content ask e (TakesContent c) q low = took_content c (low tt)

  look_says : (world : List Object) (ask : SnapAsk) → is_look ask ≡ true → after σ (effect_of world σ ask) ≡ σ
  unfolding effect_of worker_effect get
  look_says world (asks.SnapGet namespace name) looks = by (snapshot_at (namespace, name) σ.snapshots)
    where
      by : (o : Option SnapshotData) → after σ (get o) ≡ σ
      by None = refl
      by (Some s) = refl
  look_says world (asks.Snapshot namespace name claim policy) looks = absurd (true≢false (sym looks))
  look_says world (asks.Content name namespace snapshot policy source) looks = absurd (true≢false (sym looks))
  look_says world (asks.Unsnap namespace name) looks = absurd (true≢false (sym looks))
  look_says world (asks.Uncontent name) looks = absurd (true≢false (sym looks))
  look_says world asks.SnapList looks = absurd (true≢false (sym looks))
  look_says world (asks.Cut namespace name uid) looks = absurd (true≢false (sym looks))
  look_says world (asks.BindContent name version uid) looks = absurd (true≢false (sym looks))
  look_says world (asks.BindSnapshot namespace name version content) looks = absurd (true≢false (sym looks))
  look_says world (asks.DropSnapshot namespace name version) looks = absurd (true≢false (sym looks))
  look_says world (asks.EraseSnap name version) looks = absurd (true≢false (sym looks))
  look_says world (asks.DropContent name version) looks = absurd (true≢false (sym looks))

  pub rules_of : (ask : SnapAsk) → next_of w ≡ Some ask → AsksByRules σ ask
  rules_of ask e = by_listed w.listed alone.listed e
    where
      by_first : (b : Bool) → is_some (first_ask (snapshot_ask w.contents) w.snapshots) ≡ b → rows_ask w ≡ Some ask → AsksByRules σ ask
      by_first true some e =
          let a = asking (snapshot_ask w.contents) (λ (x : SeenSnapshot). Stood x.row) w.snapshots ask all_stand (or_first _ _ ask e some) in
          (snapshot_rules a.row a.is ask a.asks_it).rules
      by_first false none e =
          let a = asking (content_ask w.uids) (λ (x : SeenContent). Held x.row) w.contents ask all_hold (or_second _ _ ask e none) in
          (content_rules a.row a.is ask a.asks_it).rules

      by_listed : (b : Bool) → b ≡ true → (if b then rows_ask w else Some asks.SnapList) ≡ Some ask → AsksByRules σ ask
      by_listed true t e = by_first (is_some (first_ask (snapshot_ask w.contents) w.snapshots)) refl e
      by_listed false t e = absurd (true≢false (sym t))

  pub step_lowers : (world : List Object) (ask : SnapAsk) → next_of w ≡ Some ask → IsLowered σ (after σ (effect_of world σ ask)) w (absorb_of w ask (reply_of (effect_of world σ ask)))
  step_lowers world ask e = by_listed w.listed alone.listed e
    where
      goal : Worker → Type 0
      goal v = IsLowered σ (after σ (effect_of world σ ask)) w v

      by_get : first_ask (content_ask w.uids) w.contents ≡ Some ask → (b : Bool) → is_look ask ≡ b
          → IsLowered σ (after σ (effect_of world σ ask)) w (if b then after_get w (reply_of (effect_of world σ ask)) else after_call w (reply_of (effect_of world σ ask)) (drop_content w))
      by_get asks_it true get =
          subst (λ (τ : Side). IsLowered σ τ w (after_get w (reply_of (effect_of world σ ask)))) (sym (look_says world ask get)) (got_one ask (reply_of (effect_of world σ ask)) asks_it get)
      by_get asks_it false get =
          let a = asking (content_ask w.uids) (λ (x : SeenContent). Held x.row) w.contents ask all_hold asks_it in
          let r = content_rules a.row a.is ask a.asks_it in
          by_content ask asks_it (effect_of world σ ask) (quiet_of world σ ask r.rules get r.list) (lower_by_rules σ g world ask r.rules)

      by_first : (b : Bool) → is_some (first_ask (snapshot_ask w.contents) w.snapshots) ≡ b
          → or_else (first_ask (snapshot_ask w.contents) w.snapshots) (first_ask (content_ask w.uids) w.contents) ≡ Some ask
          → IsLowered σ (after σ (effect_of world σ ask)) w (if b then after_call w (reply_of (effect_of world σ ask)) (drop_snapshot w) else after_content w ask (reply_of (effect_of world σ ask)))
      by_first true some e =
          let first = or_first _ _ ask e some in
          let a = asking (snapshot_ask w.contents) (λ (x : SeenSnapshot). Stood x.row) w.snapshots ask all_stand first in
          let r = snapshot_rules a.row a.is ask a.asks_it in
          by_snapshot ask first (effect_of world σ ask) (quiet_of world σ ask r.rules r.get r.list) (lower_by_rules σ g world ask r.rules)
      by_first false none e = by_get (or_second _ _ ask e none) (is_look ask) refl

      by_listed : (b : Bool) → b ≡ true → (if b then rows_ask w else Some asks.SnapList) ≡ Some ask
          → IsLowered σ (after σ (effect_of world σ ask)) w (if b then after_row w ask (reply_of (effect_of world σ ask)) else listed_from w (reply_of (effect_of world σ ask)))
      by_listed true t e = by_first (is_some (first_ask (snapshot_ask w.contents) w.snapshots)) refl e
      by_listed false t e = absurd (true≢false (sym t))

pub each_step_lowers : EachStepLowers
each_step_lowers past run named w alone world ask e = step_lowers (side_after past) (known_of past run).good named w alone world ask e

pub lists_make_alone : ListsMakeAlone
unfolding effect_of worker_effect
lists_make_alone σ world w e = by w.listed e
  where
    by : (b : Bool) → b ≡ false → IsAlone σ (if b then after_row w asks.SnapList (Listed σ.snapshots σ.contents σ.number) else listed_from w (Listed σ.snapshots σ.contents σ.number))
    by true e = absurd (true≢false e)
    by false e = record {
      listed = refl;
      snapshots = map_fresh (λ (x : SeenSnapshot). x.row) fresh_snapshot σ.snapshots (λ s. refl);
      contents = map_fresh
          (λ (x : SeenContent). x.row) fresh_content σ.contents (λ c. refl);
    }

-- an ask of a worker that is alone lowers the weight if it writes
pub lower_alone : (past : List SideCall) → IsSideRun past → HaveNames (side_after past) → (w : Worker) → IsAlone (side_after past) w → (world : List Object) (ask : SnapAsk) → next_of w ≡ Some ask
    → Lowers past world ask
lower_alone past run named w alone world ask e = lower_by_rules (side_after past) (known_of past run).good world ask (rules_of (side_after past) (known_of past run).good named w alone ask e)
