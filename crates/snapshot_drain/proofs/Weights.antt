-- An ask that the rules give, where the worker's rows are those that stand, lowers the weight if it writes.
use Rattle.std.specs.Prelude.{ℕ, ◌+◌, ◌*◌, ◌≤◌, ◌<◌, ◌==◌, ◌≡◌, ◌⊎◌, ◌||◌, Bool, true, false, List, [], ◌∷◌, Option, Some, None, Ok, Err, length, is_some, if◌then◌else◌}
use Rattle.std.proofs.Common.{refl, sym, ◌∙◌, ap, inl, inr, arith, true≢false, eqb-true}
use Rattle.std.proofs.lemmas.Bool.{eq-eqb}
use Rattle.std.proofs.lemmas.Option.{same_Some, none-some}
use Rattle.std.proofs.lemmas.Cmp.{nat_list_cmp_total}
use Rattle.std.proofs.lemmas.Map.Lookups.{exact_bytes}
use Rattle.std.specs.declared.cmp.Ordering.{Ordering}
use Rattle.std.specs.declared.cmp.Ordering.TheVariants.{Less, Equal, Greater}
use Rattle.std.specs.Ordering.{is_eq, is_lt, match_ordering}
use Rattle.plain_data.specs.Pairs.{text_cmp}
use Rattle.std.specs.Cmp.{IsTotalOrder}
use Rattle.plain_data.specs.Rows.{IsRising, put, find, without}
use Rattle.kube_objects.specs.declared.objects.Object.{Object}
use Rattle.kube_objects.specs.declared.objects.DataId.{DataId}
use Rattle.kube_objects.specs.Bindings.{is_empty}
use Rattle.snapshot_bind.specs.declared.rows.Snapshot.{Snapshot as SnapshotData}
use Rattle.snapshot_bind.specs.declared.rows.Content.{Content as ContentData}
use Rattle.snapshot_bind.specs.declared.calls.SnapAsk.{SnapAsk}
use Rattle.snapshot_bind.specs.declared.calls.SnapAsk.TheVariants as asks
use Rattle.snapshot_bind.specs.declared.calls.SnapRefusal.{SnapRefusal}
use Rattle.snapshot_bind.specs.declared.calls.SnapReply.TheVariants.{Refused}
use Rattle.snapshot_bind.specs.declared.calls.SnapRefusal.TheVariants.{NotFound, AlreadyExists, Conflict}
use Rattle.snapshot_bind.specs.declared.effect.Effect.{Effect}
use Rattle.snapshot_bind.specs.declared.effect.Effect.TheVariants.{Answers, PutsSnapshot, PutsContent, TakesSnapshot, TakesContent}
use Rattle.snapshot_bind.specs.Rules.{EachOf, side_after}
use Rattle.snapshot_bind.specs.SideStore.{
  Side,
  SnapKey,
  snap_cmp,
  snapshot_key,
  content_key,
  snapshot_at,
  content_at,
  refuse,
  cut,
  cut_from,
  cut_name,
  cut_content,
  source_of,
  snapshot_of_version,
  content_of_version,
  write,
  get,
  worker_effect,
  effect_of,
  after,
}
use Rattle.snapshot_worker.specs.Workers.{is_same_uid}
use Rattle.snapshot_drain.specs.Drains.{total, has_content, snapshot_weight, free_weight, content_weight, weight, IsWrite, AsksByRules, EachWriteLowers}
use Rattle.snapshot_bind.proofs.Orders.{snap_cmp_total}
use Rattle.snapshot_law.proofs.Finds.{equal_keys, each_found, after_less, found_at, kept_put, put_itself, kept_without}
use Rattle.snapshot_law.proofs.Known.{StandsAt, HoldsAt, IsGood}
use Rattle.snapshot_law.proofs.Steps.{keyed_at, named_at}
use Rattle.snapshot_law.proofs.Law.{known_of}

total_le : {X : Type 0} (f g : X → ℕ) (xs : List X) → EachOf (λ x. f x ≤ g x) xs → total f xs ≤ total g xs
total_le f g [] each = omega arith
total_le f g (x ∷ xs) each = let rest = total_le f g xs each.1 in let first = each.0 in omega (arith, first, rest)

total_most : {X : Type 0} (f : X → ℕ) (n : ℕ) (xs : List X) → ((x : X) → f x ≤ n) → total f xs ≤ n * length xs
total_most f n [] h = omega arith
total_most f n (x ∷ xs) h = let rest = total_most f n xs h in let first = h x in omega (arith, first, rest)

module _ {K X : Type 0} {cmp : K → K → Ordering} (o : IsTotalOrder cmp) (exact : (a b : K) → cmp a b ≡ Equal → a ≡ b) (key : X → K) (f : X → ℕ) where
  not_greater : (x old y : X) (ys : List X) → IsRising cmp key (y ∷ ys) → cmp (key y) (key x) ≡ Greater → find cmp key (key x) ys ≡ Some old → ⊥
  not_greater x old y ys r g h =
      let less = after_less o exact key y ys (key x) old r.0 h in
      let same = found_at o exact key (key x) old ys h in
      let both : Less ≡ Greater = sym less ∙ ap (λ k. cmp (key y) k) same ∙ g in
      true≢false (ap is_lt both)

  total_put : (x old : X) (xs : List X) → IsRising cmp key xs → find cmp key (key x) xs ≡ Some old → total f (put cmp key x xs) + f old ≡ total f xs + f x
  total_put x old [] r h = absurd (none-some old h)
  total_put x old (y ∷ ys) r h = by (cmp (key y) (key x)) refl h (total_put x old ys r.1)
    where
      by : (a : Ordering) → cmp (key y) (key x) ≡ a → (if is_eq a then Some y else find cmp key (key x) ys) ≡ Some old
          → (find cmp key (key x) ys ≡ Some old → total f (put cmp key x ys) + f old ≡ total f ys + f x)
          → total f (match_ordering a (y ∷ put cmp key x ys) (x ∷ ys) (x ∷ y ∷ ys)) + f old ≡ (f y + total f ys) + f x
      by Less e found rest = let ih = rest found in omega (arith, ih)
      by Equal e found rest = let same : f y ≡ f old = ap f (same_Some y old found) in omega (arith, same)
      by Greater e found rest = absurd (not_greater x old y ys r e found)

  total_new : (x : X) (xs : List X) → find cmp key (key x) xs ≡ None → total f (put cmp key x xs) ≡ total f xs + f x
  total_new x [] h = omega arith
  total_new x (y ∷ ys) h = by (cmp (key y) (key x)) refl h (total_new x ys)
    where
      by : (a : Ordering) → cmp (key y) (key x) ≡ a → (if is_eq a then Some y else find cmp key (key x) ys) ≡ None → (find cmp key (key x) ys ≡ None → total f (put cmp key x ys) ≡ total f ys + f x)
          → total f (match_ordering a (y ∷ put cmp key x ys) (x ∷ ys) (x ∷ y ∷ ys)) ≡ (f y + total f ys) + f x
      by Less e found rest = let ih = rest found in omega (arith, ih)
      by Equal e found rest = absurd (none-some y (sym found))
      by Greater e found rest = omega arith

  total_without : (k : K) (old : X) (xs : List X) → find cmp key k xs ≡ Some old → total f (without cmp key k xs) + f old ≡ total f xs
  total_without k old [] h = absurd (none-some old h)
  total_without k old (y ∷ ys) h = by (is_eq (cmp (key y) k)) h (total_without k old ys)
    where
      by : (b : Bool) → (if b then Some y else find cmp key k ys) ≡ Some old → (find cmp key k ys ≡ Some old → total f (without cmp key k ys) + f old ≡ total f ys)
          → total f (if b then ys else y ∷ without cmp key k ys) + f old ≡ f y + total f ys
      by true found rest = let same : f y ≡ f old = ap f (same_Some y old found) in omega (arith, same)
      by false found rest = let ih = rest found in omega (arith, ih)

-- where no UID is lost a snapshot weighs no more than before
weighs_less : (s : SnapshotData) (cs ds : List ContentData) → (has_content s.uid cs ≡ true → has_content s.uid ds ≡ true) → snapshot_weight ds s ≤ snapshot_weight cs s
weighs_less s cs ds h = by (is_empty s.content) (has_content s.uid cs) (has_content s.uid ds) h
  where
    by : (e b d : Bool) → (b ≡ true → d ≡ true) → (if e then (if d then 2 else 5) else 1) ≤ (if e then (if b then 2 else 5) else 1)
    by true true true h = omega arith
    by true true false h = absurd (true≢false (sym (h refl)))
    by true false true h = omega arith
    by true false false h = omega arith
    by false b d h = omega arith

-- a content with this UID, found by its name
pub record HasOne (cs : List ContentData) (uid : ℕ) : Type 0 where
  pub name : List ℕ
  pub content : ContentData
  pub stands : content_at name cs ≡ Some content
  pub own : content.uid ≡ Some uid

is_own : (o : Option ℕ) (uid : ℕ) → is_same_uid o uid ≡ true → o ≡ Some uid
is_own None uid h = absurd (true≢false (sym h))
is_own (Some v) uid h = ap (λ n. Some n) (eqb-true v uid h)

has_by : (cs : List ContentData) (uid : ℕ) (n : List ℕ) (c : ContentData) → content_at n cs ≡ Some c → c.uid ≡ Some uid → has_content uid cs ≡ true
has_by [] uid n c h own = absurd (none-some c h)
has_by (d ∷ ds) uid n c h own = by (is_eq (text_cmp (content_key d) n)) (is_same_uid d.uid uid) refl h (λ rest. has_by ds uid n c rest own)
  where
    by : (b t : Bool) → is_same_uid d.uid uid ≡ t → (if b then Some d else content_at n ds) ≡ Some c → (content_at n ds ≡ Some c → has_content uid ds ≡ true) → (t || has_content uid ds) ≡ true
    by b true e found rest = refl
    by true false e found rest =
        let one : d.uid ≡ Some uid = ap (λ (x : ContentData). x.uid) (same_Some d c found) ∙ own in
        absurd (true≢false (sym (eq-eqb uid uid refl) ∙ ap (λ o. is_same_uid o uid) (sym one) ∙ e))
    by false false e found rest = rest found

-- some row has the UID, and rows in order are found by their names
has_some : (all : List ContentData) (uid : ℕ) (cs : List ContentData) → EachOf (λ (c : ContentData). content_at (content_key c) all ≡ Some c) cs → has_content uid cs ≡ true → HasOne all uid
has_some all uid [] each h = absurd (true≢false (sym h))
has_some all uid (c ∷ cs) each h = by (is_same_uid c.uid uid) refl h (has_some all uid cs each.1)
  where
    by : (b : Bool) → is_same_uid c.uid uid ≡ b → (b || has_content uid cs) ≡ true → (has_content uid cs ≡ true → HasOne all uid) → HasOne all uid
    by true e h rest = record { name = content_key c; content = c; stands = each.0; own = is_own c.uid uid e }
    by false e h rest = rest h

module _ (σ : Side) (g : IsGood σ) where
  has_one : (uid : ℕ) → has_content uid σ.contents ≡ true → HasOne σ.contents uid
  has_one uid h = has_some σ.contents uid σ.contents (each_found nat_list_cmp_total exact_bytes content_key σ.contents g.contents_rise _ (λ c e. e)) h

  -- if each UID of a snapshot that a content had is one of these contents still, the snapshots weigh no more
  pub snapshots_less : (ds : List ContentData) → ((k : SnapKey) (s : SnapshotData) → StandsAt σ k s → (n : List ℕ) (c : ContentData) → HoldsAt σ n c → c.uid ≡ Some s.uid → has_content s.uid ds ≡ true)
      → total (snapshot_weight ds) σ.snapshots ≤ total (snapshot_weight σ.contents) σ.snapshots
  snapshots_less ds keeps = total_le (snapshot_weight ds) (snapshot_weight σ.contents) σ.snapshots
      (each_found snap_cmp_total equal_keys snapshot_key σ.snapshots g.snapshots_rise _
      (λ s h. weighs_less s σ.contents ds (λ has. let one = has_one s.uid has in keeps (snapshot_key s) s h one.name one.content one.stands one.own)))

  is_empty_some : (xs : List ℕ) → (xs ≡ [] → ⊥) → is_empty xs ≡ false
  is_empty_some [] h = absurd (h refl)
  is_empty_some (x ∷ xs) h = refl

  unbound_weight : (s : SnapshotData) (cs : List ContentData) → s.content ≡ [] → 2 ≤ snapshot_weight cs s
  unbound_weight s cs e = by (is_empty s.content) (ap is_empty e) (has_content s.uid cs)
    where
      by : (b : Bool) → b ≡ true → (d : Bool) → 2 ≤ (if b then (if d then 2 else 5) else 1)
      by true h true = omega arith
      by true h false = omega arith
      by false h d = absurd (true≢false (sym h))

  waiting_weight : (s : SnapshotData) (cs : List ContentData) → s.content ≡ [] → has_content s.uid cs ≡ false → snapshot_weight cs s ≡ 5
  waiting_weight s cs e none = rw (ap is_empty e, none) refl

  found_weight : (s : SnapshotData) (cs : List ContentData) → s.content ≡ [] → has_content s.uid cs ≡ true → snapshot_weight cs s ≡ 2
  found_weight s cs e has = rw (ap is_empty e, has) refl

  bound_weight : (s : SnapshotData) (cs : List ContentData) → is_empty s.content ≡ false → snapshot_weight cs s ≡ 1
  bound_weight s cs e = rw e refl

  some_weight : (s : SnapshotData) (cs : List ContentData) → 1 ≤ snapshot_weight cs s
  some_weight s cs = by (is_empty s.content) (has_content s.uid cs)
    where
      by : (b d : Bool) → 1 ≤ (if b then (if d then 2 else 5) else 1)
      by true true = omega arith
      by true false = omega arith
      by false d = omega arith

  -- a snapshot leaves
  falls_drop : (k : SnapKey) (s : SnapshotData) → StandsAt σ k s → weight (after σ (TakesSnapshot s)) < weight σ
  falls_drop k s h =
      let at : StandsAt σ (snapshot_key s) s = ap (λ j. snapshot_at j σ.snapshots) (keyed_at σ k s h) ∙ h in
      let sum = total_without snap_cmp_total equal_keys snapshot_key (snapshot_weight σ.contents) (snapshot_key s) s σ.snapshots at in
      let one = some_weight s σ.contents in
      omega (arith, sum, one)

  -- a snapshot names a content
  falls_bind : (k : SnapKey) (s t : SnapshotData) → StandsAt σ k s → snapshot_key t ≡ k → s.content ≡ [] → is_empty t.content ≡ false → weight (after σ (PutsSnapshot t)) < weight σ
  falls_bind k s t h key empty named =
      let at : StandsAt σ (snapshot_key t) s = ap (λ j. snapshot_at j σ.snapshots) key ∙ h in
      let sum = total_put snap_cmp_total equal_keys snapshot_key (snapshot_weight σ.contents) t s σ.snapshots g.snapshots_rise at in
      let two = unbound_weight s σ.contents empty in
      let one = bound_weight t σ.contents named in
      omega (arith, sum, two, one)

  -- a content gets a UID, or its data are erased
  falls_content : (n : List ℕ) (c d : ContentData) → HoldsAt σ n c → content_key d ≡ n → content_weight d < content_weight c → ((uid : ℕ) → c.uid ≡ Some uid → d.uid ≡ Some uid)
      → weight (after σ (PutsContent d)) < weight σ
  falls_content n c d h key less keeps =
      let at : HoldsAt σ (content_key d) c = ap (λ j. content_at j σ.contents) key ∙ h in
      let sum = total_put nat_list_cmp_total exact_bytes content_key content_weight d c σ.contents g.contents_rise at in
      let snapshots = snapshots_less (after σ (PutsContent d)).contents still in
      omega (arith, sum, less, snapshots)
    where
      still : (k : SnapKey) (s : SnapshotData) → StandsAt σ k s → (m : List ℕ) (x : ContentData) → HoldsAt σ m x → x.uid ≡ Some s.uid → has_content s.uid (after σ (PutsContent d)).contents ≡ true
      still k s hs m x hx own = by (kept_put nat_list_cmp_total exact_bytes content_key d σ.contents m x hx)
        where
          by : (content_key d ≡ m) ⊎ HoldsAt (after σ (PutsContent d)) m x → has_content s.uid (after σ (PutsContent d)).contents ≡ true
          by (inr stays) = has_by (after σ (PutsContent d)).contents s.uid m x stays own
          by (inl e) =
              let one : x ≡ c = same_Some x c (sym hx ∙ ap (λ j. content_at j σ.contents) (sym e ∙ key) ∙ h) in
              has_by (after σ (PutsContent d)).contents s.uid m d (put_itself nat_list_cmp_total exact_bytes content_key d σ.contents m e)
              (keeps s.uid (ap (λ (y : ContentData). y.uid) (sym one) ∙ own))

  -- a content without data leaves, and no snapshot has its UID
  falls_leave : (n : List ℕ) (c : ContentData) → HoldsAt σ n c → c.there ≡ false → weight (after σ (TakesContent c)) < weight σ
  falls_leave n c h gone =
      let at : HoldsAt σ (content_key c) c = ap (λ j. content_at j σ.contents) (named_at σ n c h) ∙ h in
      let sum = total_without nat_list_cmp_total exact_bytes content_key content_weight (content_key c) c σ.contents at in
      let snapshots = snapshots_less (after σ (TakesContent c)).contents still in
      omega (arith, sum, snapshots)
    where
      still : (k : SnapKey) (s : SnapshotData) → StandsAt σ k s → (m : List ℕ) (x : ContentData) → HoldsAt σ m x → x.uid ≡ Some s.uid → has_content s.uid (after σ (TakesContent c)).contents ≡ true
      still k s hs m x hx own = by (kept_without nat_list_cmp_total exact_bytes content_key (content_key c) σ.contents m x hx)
        where
          by : (content_key c ≡ m) ⊎ HoldsAt (after σ (TakesContent c)) m x → has_content s.uid (after σ (TakesContent c)).contents ≡ true
          by (inr stays) = has_by (after σ (TakesContent c)).contents s.uid m x stays own
          by (inl e) =
              let one : x ≡ c = same_Some x c (sym hx ∙ ap (λ j. content_at j σ.contents) (sym e ∙ named_at σ n c h) ∙ h) in
              let kept = (g.contents n c h).kept s.uid (ap (λ (y : ContentData). y.uid) (sym one) ∙ own) k s hs refl in
              absurd (true≢false (sym kept.there ∙ gone))

  -- a content is cut: its snapshot weighs 3 less, and it weighs 2
  falls_cut : (k : SnapKey) (s : SnapshotData) (source : DataId) → StandsAt σ k s → s.content ≡ [] → has_content s.uid σ.contents ≡ false
      → is_some (content_at (cut_name s.uid) σ.contents) ≡ false → weight (after σ (PutsContent (cut_content (σ.number + 1) s source))) < weight σ
  falls_cut k s source h empty none free =
      let d : ContentData = cut_content (σ.number + 1) s source in
      let ds : List ContentData = (after σ (PutsContent d)).contents in
      let at : StandsAt σ (snapshot_key s) s = ap (λ j. snapshot_at j σ.snapshots) (keyed_at σ k s h) ∙ h in
      let contents = total_new nat_list_cmp_total exact_bytes content_key content_weight d σ.contents (none_of _ free) in
      let before = total_without snap_cmp_total equal_keys snapshot_key (snapshot_weight σ.contents) (snapshot_key s) s σ.snapshots at in
      let now = total_without snap_cmp_total equal_keys snapshot_key (snapshot_weight ds) (snapshot_key s) s σ.snapshots at in
      let others = total_le (snapshot_weight ds) (snapshot_weight σ.contents) (without snap_cmp snapshot_key (snapshot_key s) σ.snapshots)
      (each_any _ (λ t. weighs_less t σ.contents ds (λ has. grows t.uid has)) _) in
      let five = waiting_weight s σ.contents empty none in
      let two = found_weight s ds empty (has_by ds s.uid (content_key d) d (put_itself nat_list_cmp_total exact_bytes content_key d σ.contents (content_key d) refl) refl) in
      omega (arith, contents, before, now, others, five, two)
    where
      none_of : {X : Type 0} (o : Option X) → is_some o ≡ false → o ≡ None
      none_of None e = refl
      none_of (Some x) e = absurd (true≢false e)

      each_any : {X : Type 0} (P : X → Type 0) → ((x : X) → P x) → (xs : List X) → EachOf P xs
      each_any P f [] = tt
      each_any P f (x ∷ xs) = (f x, each_any P f xs)

      grows : (uid : ℕ) → has_content uid σ.contents ≡ true → has_content uid (after σ (PutsContent (cut_content (σ.number + 1) s source))).contents ≡ true
      grows uid has =
          let one = has_one uid has in
          by one (kept_put nat_list_cmp_total exact_bytes content_key (cut_content (σ.number + 1) s source) σ.contents one.name one.content one.stands)
        where
          by : (one : HasOne σ.contents uid) → (content_key (cut_content (σ.number + 1) s source) ≡ one.name) ⊎ HoldsAt
              (after σ (PutsContent (cut_content (σ.number + 1) s source))) one.name one.content
              → has_content uid (after σ (PutsContent (cut_content (σ.number + 1) s source))).contents ≡ true
          by one (inr stays) = has_by (after σ (PutsContent (cut_content (σ.number + 1) s source))).contents uid one.name one.content stays one.own
          by one (inl e) = absurd (none-some one.content (sym (none_of _ free) ∙ ap (λ j. content_at j σ.contents) e ∙ one.stands))

  -- the effect, if it is a write, lowers the weight
  IsLower : Effect → Type 0
  IsLower o = IsWrite o → weight (after σ o) < weight σ

  lower_refuse : (b : Bool) (why : SnapRefusal) (next : Effect) → (b ≡ false → IsLower next) → IsLower (refuse b why next)
  unfolding refuse IsLower
  lower_refuse true why next h w = absurd w
  lower_refuse false why next h w = h refl w

  lower_snapshot_write : (version : ℕ) (o : Option SnapshotData) (change : SnapshotData → Effect) → ((s : SnapshotData) → o ≡ Some s → IsLower (change s))
      → IsLower (write (snapshot_of_version version o) change)
  unfolding write snapshot_of_version IsLower
  lower_snapshot_write version None change h w = absurd w
  lower_snapshot_write version (Some s) change h w = by (s.version == version) w
    where
      by : (b : Bool) → IsWrite (write (if b then Ok s else Err (Conflict s.version)) change) → weight (after σ (write (if b then Ok s else Err (Conflict s.version)) change)) < weight σ
      by true w = h s refl w
      by false w = absurd w

  lower_content_write : (version : ℕ) (o : Option ContentData) (change : ContentData → Effect) → ((c : ContentData) → o ≡ Some c → IsLower (change c))
      → IsLower (write (content_of_version version o) change)
  unfolding write content_of_version IsLower
  lower_content_write version None change h w = absurd w
  lower_content_write version (Some c) change h w = by (c.version == version) w
    where
      by : (b : Bool) → IsWrite (write (if b then Ok c else Err (Conflict c.version)) change) → weight (after σ (write (if b then Ok c else Err (Conflict c.version)) change)) < weight σ
      by true w = h c refl w
      by false w = absurd w

  lower_cut_from : (k : SnapKey) (s : SnapshotData) → StandsAt σ k s → s.content ≡ [] → has_content s.uid σ.contents ≡ false → is_some (content_at (cut_name s.uid) σ.contents) ≡ false
      → (source : Option DataId) → IsLower (cut_from (σ.number + 1) s source)
  unfolding cut_from IsLower
  lower_cut_from k s h empty none free None w = absurd w
  lower_cut_from k s h empty none free (Some source) w = falls_cut k s source h empty none free

  lower_cut : (world : List Object) (uid : ℕ) (k : SnapKey) (t : SnapshotData) → StandsAt σ k t → t.content ≡ [] → has_content t.uid σ.contents ≡ false → (o : Option SnapshotData)
      → snapshot_at k σ.snapshots ≡ o → IsLower (cut σ uid world o)
  unfolding cut IsLower
  lower_cut world uid k t h empty none None e w = absurd w
  lower_cut world uid k t h empty none (Some s) e w = by _ next (s.uid == uid) w
    where
      one : s ≡ t
      one = same_Some s t (sym e ∙ h)

      next : IsLower (refuse (is_some (content_at (cut_name s.uid) σ.contents)) AlreadyExists (cut_from (σ.number + 1) s (source_of world s.namespace s.claim)))
      next = lower_refuse _ _ _ (λ free. lower_cut_from k s e (ap (λ (x : SnapshotData). x.content) one ∙ empty)
          (ap (λ (x : SnapshotData). has_content x.uid σ.contents) one ∙ none) free (source_of world s.namespace s.claim))

      by : (next : Effect) → IsLower next → (b : Bool) → IsWrite (if b then next else Answers (Refused NotFound)) → weight (after σ (if b then next else Answers (Refused NotFound))) < weight σ
      by next low true w = low w
      by next low false w = absurd w

  lower_get : (o : Option SnapshotData) → IsLower (get o)
  unfolding get IsLower
  lower_get None w = absurd w
  lower_get (Some s) w = absurd w

  bound_less : (c : ContentData) (uid number : ℕ) → c.uid ≡ None → content_weight (record c { version = number; uid = Some uid }) < content_weight c
  bound_less c uid number e = let free : free_weight c.uid ≡ 1 = ap free_weight e in omega (arith, free)

  erased_less : (c : ContentData) (number : ℕ) → c.there ≡ true → content_weight (record c { version = number; there = false }) < content_weight c
  erased_less c number e = by c.there e
    where
      by : (b : Bool) → b ≡ true → 1 + (if false then 1 else 0) + free_weight c.uid < 1 + (if b then 1 else 0) + free_weight c.uid
      by true h = omega arith
      by false h = absurd (true≢false (sym h))

  pub lower_by_rules : (world : List Object) (ask : SnapAsk) → AsksByRules σ ask → IsWrite (effect_of world σ ask) → weight (after σ (effect_of world σ ask)) < weight σ
  unfolding effect_of worker_effect IsLower
  lower_by_rules world (asks.Snapshot namespace name claim policy) rules w = absurd rules
  lower_by_rules world (asks.Content name namespace snapshot policy source) rules w = absurd rules
  lower_by_rules world (asks.Unsnap namespace name) rules w = absurd rules
  lower_by_rules world (asks.Uncontent name) rules w = absurd rules
  lower_by_rules world asks.SnapList rules w = absurd w
  lower_by_rules world (asks.SnapGet namespace name) rules w = lower_get (snapshot_at (namespace, name) σ.snapshots) w
  lower_by_rules world (asks.Cut namespace name uid) rules w =
      lower_cut world uid (namespace, name) rules.snapshot rules.stands rules.unbound rules.none (snapshot_at (namespace, name) σ.snapshots) refl w
  lower_by_rules world (asks.BindContent name version uid) rules w =
      lower_content_write version (content_at name σ.contents) _ (λ c h x.
      let free : c.uid ≡ None = ap (λ (y : ContentData). y.uid) (same_Some c rules.content (sym h ∙ rules.stands)) ∙ rules.free in
      falls_content name c (record c { version = σ.number + 1; uid = Some uid }) h (named_at σ name c h) (bound_less c uid (σ.number + 1) free) (λ u is. absurd (none-some u (sym free ∙ is)))) w
  lower_by_rules world (asks.BindSnapshot namespace name version content) rules w =
      lower_snapshot_write version (snapshot_at (namespace, name) σ.snapshots) _ (λ s h x.
      falls_bind (namespace, name) s (record s { version = σ.number + 1; content = content }) h (keyed_at σ (namespace, name) s h)
      (ap (λ (y : SnapshotData). y.content) (same_Some s rules.snapshot (sym h ∙ rules.stands)) ∙ rules.unbound) (is_empty_some content rules.named)) w
  lower_by_rules world (asks.DropSnapshot namespace name version) rules w = lower_snapshot_write version (snapshot_at (namespace, name) σ.snapshots) _ (λ s h x. falls_drop (namespace, name) s h) w
  lower_by_rules world (asks.EraseSnap name version) rules w =
      lower_content_write version (content_at name σ.contents) _ (λ c h x.
      let there : c.there ≡ true = ap (λ (y : ContentData). y.there) (same_Some c rules.content (sym h ∙ rules.stands)) ∙ rules.there in
      falls_content name c (record c { version = σ.number + 1; there = false }) h (named_at σ name c h) (erased_less c (σ.number + 1) there) (λ u is. is)) w
  lower_by_rules world (asks.DropContent name version) rules w =
      lower_content_write version (content_at name σ.contents) _ (λ c h x. falls_leave name c h (ap (λ (y : ContentData). y.there) (same_Some c rules.content (sym h ∙ rules.stands)) ∙ rules.gone)) w

snapshot_most : (cs : List ContentData) (s : SnapshotData) → snapshot_weight cs s ≤ 5
snapshot_most cs s = by (is_empty s.content) (has_content s.uid cs)
  where
    by : (b d : Bool) → (if b then (if d then 2 else 5) else 1) ≤ 5
    by true true = omega arith
    by true false = omega arith
    by false d = omega arith

content_most : (c : ContentData) → content_weight c ≤ 3
content_most c = by c.there c.uid
  where
    by : (b : Bool) (o : Option ℕ) → 1 + (if b then 1 else 0) + free_weight o ≤ 3
    by true None = omega arith
    by true (Some u) = omega arith
    by false None = omega arith
    by false (Some u) = omega arith

pub each_write_lowers : EachWriteLowers
each_write_lowers = record {
  falls = λ past run world ask rules w. lower_by_rules (side_after past) (known_of past run).good world ask rules w;
  most = λ σ. let ss = total_most (snapshot_weight σ.contents) 5 σ.snapshots (snapshot_most σ.contents) in let cs = total_most content_weight 3 σ.contents content_most in omega (arith, ss, cs);
}
