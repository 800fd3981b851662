-- Each step of a fair run keeps the quotas.
use Rattle.std.proofs.Common.{◌≡◌, ℕ, ◌+◌, ◌≤◌, List, [], ◌∷◌, Bool, true, false, cond, Option, Some, None, inl, inr, refl, sym, subst, ap, ◌∙◌, arith}
use Rattle.std.proofs.lemmas.Bool.Decides.{nat_tests}
use Rattle.std.proofs.lemmas.Slice.Eq.{bytes_eq-Decides}
use Rattle.std.specs.Prelude.{◌-◌, nat_lt, bytes_eq}
use Rattle.plain_data.specs.Rows.{put}
use Rattle.plain_data.proofs.RowLookups.{found_key}
use Rattle.kube_objects.specs.declared.key.Key.{Key}
use Rattle.kube_parts.specs.declared.uid.Uid.{Uid}
use Rattle.kube_objects.specs.declared.objects.Amount.{Amount}
use Rattle.kube_objects.specs.declared.objects.Claim.{Claim as ClaimData}
use Rattle.kube_objects.specs.declared.objects.Volume.{Volume as VolumeData}
use Rattle.kube_objects.specs.declared.objects.Object.{Object}
use Rattle.kube_objects.specs.declared.objects.Object.TheVariants.{Claim}
use Rattle.kube_objects.specs.Keys.{AreRows, key_cmp, key_of, row_at}
use Rattle.kube_objects.proofs.KeyOrder.{equal_keys, key_cmp_total, row_at_key}
use Rattle.call_types.specs.declared.entry.Entry.{Entry}
use Rattle.call_types.specs.declared.reply.Reply.{Reply}
use Rattle.call_types.specs.declared.setup.Setup.{Setup}
use Rattle.binder_model.specs.Choice.{claim_in}
use Rattle.binder_model.specs.ObjectKeys.{volume_key}
use Rattle.binder_model.specs.World.{effect, world, world_after}
use Rattle.side_calls.specs.declared.asks.SideAsk.{SideAsk}
use Rattle.side_calls.specs.declared.asks.SideAsk.TheVariants.{Create, Grow, Step as StepAsk}
use Rattle.side_calls.specs.declared.asks.SideEntry.{SideEntry}
use Rattle.side_calls.specs.declared.quotas.Quota.{Quota}
use Rattle.side_calls.specs.declared.quotas.Used.{Used}
use Rattle.side_calls.specs.declared.sizes.GrowError.{GrowError}
use Rattle.side_calls.specs.declared.sizes.GrowError.TheVariants as errors
use Rattle.side_calls.specs.declared.sizes.Why.TheVariants.{Smaller}
use Rattle.side_calls.specs.declared.sizes.SizeRow.{SizeRow}
use Rattle.quota_rules.specs.declared.counted.Counted.{Counted}
use Rattle.quota_rules.specs.Counting.{noted}
use Rattle.quota_rules.specs.Using.{Tally, bytes_by, claims_by, if_in, over_bytes, quota_of, used_by}
use Rattle.expand_ops.specs.Growing.{asked_by, asked_now, fault_by, first_row, grow_fault, grown_if, grown_row, grown_rows, over_by, over_error, row_from, sizes_grown, volume_in}
use Rattle.expand_ops.specs.Sizes.{kept_after, next_step, size_at, size_key}
use Rattle.side_model.specs.Answers.{after_ask, side}
use Rattle.side_model.specs.Sides.{Side, SideSetup, counted_in, growth_of, tally_of}
use Rattle.side_model.specs.Merged.{AtEach, Step, OfWorld, OfSide, entries}
use Rattle.side_model.specs.Within.{IsWithin, KeepsQuota, used_at}
use Rattle.side_laws.specs.Fair.{FairRunsKeepQuotas, IsFair, IsFairCall, IsMirrored}
use Rattle.side_laws.proofs.Mirrors.{none_some, notes_mirror}
use Rattle.expand_ops.proofs.Grown.{fault_parts}
use Rattle.side_laws.proofs.Growths.{claim_stands, no_smaller}
use Rattle.side_laws.proofs.Quotas.{Kept, claims_same, grown_bytes, no_less, noted_kept, step_alike}

-- nothing stands against so many bytes more
fits_bytes : (q : Quota) (used : Used) (more : ℕ) → over_error (over_bytes (Some q) used more) ≡ None → used.bytes + more ≤ q.bytes
fits_bytes q used more e = by (nat_lt q.bytes (used.bytes + more)) refl e
  where
    by : (b : Bool) → nat_lt q.bytes (used.bytes + more) ≡ b → over_error (cond b (Some (used.bytes, q.bytes)) None) ≡ None → used.bytes + more ≤ q.bytes
    by true l f = none_some _ (sym f)
    by false l f = grind (arith, nat_tests)

not_over : (t : Tally) (key : Key) (bytes asked : ℕ) → fault_by t key bytes asked ≡ None → over_by t key.namespace (bytes - asked) ≡ None
not_over t key bytes asked e = by (nat_lt bytes asked) e
  where
    by : (b : Bool) → cond b (Some (errors.NotGrowable Smaller)) (over_by t key.namespace (bytes - asked)) ≡ None → over_by t key.namespace (bytes - asked) ≡ None
    by true f = none_some _ (sym f)
    by false f = f

module _ (q : Quota) (s : Side) (rows : List Object) (order : AreRows rows) (has : quota_of q.namespace s.quotas ≡ Some q) (first_bytes first_claims : ℕ) where
  abbrev KeptIn : List SizeRow → Type 0
  KeptIn sizes = Kept q (tally_of s rows) has first_bytes first_claims (counted_in sizes rows)

  -- a row that asks for more, where nothing stands against it
  row_kept : (row : SizeRow) (c : ClaimData) (bytes : ℕ) → row_at row.key rows ≡ Some (Claim c) → key_of (Claim c) ≡ row.key → row.asked ≡ bytes
      → asked_by (size_at (key_of (Claim c)) s.sizes) c ≤ bytes → over_by (tally_of s rows) c.meta.namespace (bytes - asked_by (size_at (key_of (Claim c)) s.sizes) c) ≡ None
      → KeptIn s.sizes → KeptIn (put key_cmp size_key row s.sizes)
  row_kept row c bytes is at asks low over kept =
      by (bytes_eq c.meta.namespace q.namespace) refl (grown_bytes q.namespace s.sizes row c at (bytes - old) (omega (arith, asks, low)) rows order is)
    where
      old : ℕ
      old = asked_by (size_at (key_of (Claim c)) s.sizes) c

      claims : claims_by q.namespace (counted_in (put key_cmp size_key row s.sizes) rows) ≡ claims_by q.namespace (counted_in s.sizes rows)
      claims = claims_same q.namespace (put key_cmp size_key row s.sizes) s.sizes rows

      by : (b : Bool) → bytes_eq c.meta.namespace q.namespace ≡ b
          → bytes_by q.namespace (counted_in (put key_cmp size_key row s.sizes) rows) ≤ bytes_by q.namespace (counted_in s.sizes rows) + if_in q.namespace c.meta.namespace (bytes - old)
          → KeptIn (put key_cmp size_key row s.sizes)
      by false e more =
          let z : if_in q.namespace c.meta.namespace (bytes - old) ≡ 0 = ap (λ (b : Bool). cond b (bytes - old) 0) e in (
            no_less (bytes_by q.namespace (counted_in s.sizes rows)) _ q.bytes first_bytes (omega (arith, more, z)) kept.0,
            no_less (claims_by q.namespace (counted_in s.sizes rows)) _ q.claims first_claims (omega (arith, claims)) kept.1,
          )
      by true e more =
          let same : c.meta.namespace ≡ q.namespace = (bytes_eq-Decides c.meta.namespace q.namespace).0 e in
          let f : over_by (tally_of s rows) q.namespace (bytes - old) ≡ None = ap (λ (n : List ℕ). over_by (tally_of s rows) n (bytes - old)) (sym same) ∙ over in
          let g : over_error (over_bytes (Some q) (used_by q.namespace (counted_in s.sizes rows)) (bytes - old)) ≡ None =
          ap (λ (x : Option Quota). over_error (over_bytes x (used_by q.namespace (counted_in s.sizes rows)) (bytes - old))) (sym has) ∙ f in
          let few = fits_bytes q (used_by q.namespace (counted_in s.sizes rows)) (bytes - old) g in
          let z : if_in q.namespace c.meta.namespace (bytes - old) ≡ (bytes - old) = ap (λ (b : Bool). cond b (bytes - old) 0) e in
          (inl (omega (arith, more, z, few)), no_less (claims_by q.namespace (counted_in s.sizes rows)) _ q.claims first_claims (omega (arith, claims)) kept.1)

  grown_kept : (key : Key) (bytes : ℕ) → KeptIn s.sizes
      → KeptIn (grown_if (grow_fault (tally_of s rows) s.sizes rows key bytes) (sizes_grown s.sizes rows key bytes (claim_in (row_at key rows))) s.sizes)
  grown_kept key bytes kept = by (grow_fault (tally_of s rows) s.sizes rows key bytes) refl
    where
      from : (c : ClaimData) (uid : Option Uid) (got : Option Amount) (v : Option VolumeData) → row_at key rows ≡ Some (Claim c)
          → asked_by (size_at key s.sizes) c ≤ bytes → over_by (tally_of s rows) key.namespace (bytes - asked_by (size_at key s.sizes) c) ≡ None
          → KeptIn (row_from s.sizes key bytes uid got v)
      from c None got v is low over = kept
      from c (Some uid) None v is low over = kept
      from c (Some uid) (Some got) None is low over = kept
      from c (Some uid) (Some got) (Some v) is low over = put_one (size_at key s.sizes) refl
        where
          at : key_of (Claim c) ≡ key
          at = row_at_key key (Claim c) rows is

          less : asked_by (size_at (key_of (Claim c)) s.sizes) c ≤ bytes
          less = subst (λ (k : Key). asked_by (size_at k s.sizes) c ≤ bytes) (sym at) low

          none : over_by (tally_of s rows) c.meta.namespace (bytes - asked_by (size_at (key_of (Claim c)) s.sizes) c) ≡ None
          none = subst (λ (k : Key). over_by (tally_of s rows) k.namespace (bytes - asked_by (size_at k s.sizes) c) ≡ None) (sym at) over

          put_one : (o : Option SizeRow) → size_at key s.sizes ≡ o → KeptIn (grown_rows (grown_row o (first_row key uid got v bytes) bytes) s.sizes)
          put_one None e = row_kept (first_row key uid got v bytes) c bytes is at refl less none kept
          put_one (Some x) e =
              let k : x.key ≡ key = equal_keys x.key key (found_key key_cmp_total size_key key x s.sizes e) in
              row_kept (record x { asked = bytes }) c bytes (ap (λ (j : Key). row_at j rows) k ∙ is) (at ∙ sym k) refl less none kept

      claimed : (c : Option ClaimData) → claim_in (row_at key rows) ≡ c → fault_by (tally_of s rows) key bytes (asked_now s.sizes key c) ≡ None
          → KeptIn (sizes_grown s.sizes rows key bytes c)
      claimed None e f = kept
      claimed (Some c) e f =
          from c c.meta.uid c.got (volume_in (row_at (volume_key c.volume_name) rows)) (claim_stands key rows c e)
          (no_smaller (tally_of s rows) key bytes (asked_now s.sizes key (Some c)) f) (not_over (tally_of s rows) key bytes (asked_now s.sizes key (Some c)) f)

      by : (f : Option GrowError) → grow_fault (tally_of s rows) s.sizes rows key bytes ≡ f → KeptIn (grown_if f (sizes_grown s.sizes rows key bytes (claim_in (row_at key rows))) s.sizes)
      by None e = claimed (claim_in (row_at key rows)) refl (fault_parts _ _ e).1
      by (Some error) e = kept

  ask_kept : (ask : SideAsk) → KeptIn s.sizes → KeptIn (after_ask s rows ask).sizes
  ask_kept (Create user object) kept = kept
  ask_kept (Grow user key bytes) kept = grown_kept key bytes kept
  ask_kept (StepAsk kind key) kept = subst (λ (xs : List Counted). Kept q (tally_of s rows) has first_bytes first_claims xs) (sym (step_alike (next_step (growth_of s)) s.sizes rows)) kept

asked_quotas : (s : Side) (rows : List Object) (ask : SideAsk) → (after_ask s rows ask).quotas ≡ s.quotas
asked_quotas s rows (Create user object) = refl
asked_quotas s rows (Grow user key bytes) = refl
asked_quotas s rows (StepAsk kind key) = refl

module _ (setup : Setup) (given : SideSetup) where
  quotas_stay : (m : List Step) → (side setup given m).quotas ≡ given.quotas
  quotas_stay [] = refl
  quotas_stay (OfWorld e ∷ m) = quotas_stay m
  quotas_stay (OfSide s ∷ m) = asked_quotas (side setup given m) (world setup (entries m)).store.rows s.ask ∙ quotas_stay m

  -- a call of the world
  call_within : (e : Entry) (m : List Step) (q : Quota) → quota_of q.namespace given.quotas ≡ Some q → IsFairCall setup given m e → KeepsQuota setup given m q
      → KeepsQuota setup given (OfWorld e ∷ m) q
  call_within e m q has fair before =
      let s : Side = side setup given m in
      let w = world setup (entries m) in
      let own : quota_of q.namespace s.quotas ≡ Some q = ap (λ (qs : List Quota). quota_of q.namespace qs) (quotas_stay m) ∙ has in
      let mirror : noted e.reply (counted_in s.sizes w.store.rows) ≡ counted_in (kept_after e.reply s.sizes) (world_after w (effect setup w e.kind e.request)).store.rows =
      subst (λ (r : Reply). noted r (counted_in s.sizes w.store.rows) ≡ counted_in (kept_after r s.sizes) (world_after w (effect setup w e.kind e.request)).store.rows) (sym fair.told)
      (notes_mirror setup w e.kind e.request s.sizes fair.mirrored.order fair.mirrored.uids fair.mirrored.stand) in
      let kept = noted_kept q (tally_of s w.store.rows) own (used_at setup given [] q.namespace).bytes (used_at setup given [] q.namespace).claims e.reply fair.passes (before.bytes, before.claims) in
      let now = subst (λ (xs : List Counted). Kept q (tally_of s w.store.rows) own (used_at setup given [] q.namespace).bytes (used_at setup given [] q.namespace).claims xs) mirror kept in
      record { bytes = now.0; claims = now.1 }

  -- a call of the side
  ask_within : (a : SideEntry) (m : List Step) (q : Quota) → quota_of q.namespace given.quotas ≡ Some q → IsMirrored setup given m → KeepsQuota setup given m q
      → KeepsQuota setup given (OfSide a ∷ m) q
  ask_within a m q has mirrored before =
      let s : Side = side setup given m in
      let rows = (world setup (entries m)).store.rows in
      let own : quota_of q.namespace s.quotas ≡ Some q = ap (λ (qs : List Quota). quota_of q.namespace qs) (quotas_stay m) ∙ has in
      let now = ask_kept q s rows mirrored.order own (used_at setup given [] q.namespace).bytes (used_at setup given [] q.namespace).claims a.ask (before.bytes, before.claims) in
      record { bytes = now.0; claims = now.1 }

  within_at : (m : List Step) → IsFair setup given m → IsWithin setup given m
  within_at [] fair q has = record { bytes = inr (omega arith); claims = inr (omega arith) }
  within_at (OfWorld e ∷ m) fair q has = call_within e m q has fair.1 (within_at m fair.0 q has)
  within_at (OfSide a ∷ m) fair q has = ask_within a m q has fair.1 (within_at m fair.0 q has)

  each_within : (m : List Step) → IsFair setup given m → AtEach (IsWithin setup given) m
  each_within [] fair = within_at [] fair
  each_within (OfWorld e ∷ m) fair = (within_at (OfWorld e ∷ m) fair, each_within m fair.0)
  each_within (OfSide a ∷ m) fair = (within_at (OfSide a ∷ m) fair, each_within m fair.0)

pub fair_runs_keep_quotas : FairRunsKeepQuotas
fair_runs_keep_quotas setup given m fair = each_within setup given m fair
