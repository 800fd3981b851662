-- An effect that breaks nothing makes a step, and after it the rows that stand are known.
use Rattle.std.specs.Prelude.{ℕ, ◌+◌, ◌≤◌, ◌≡◌, ◌≢◌, ◌⊎◌, true, List, [], Some, None, ⊤}
use Rattle.std.proofs.Common.{refl, sym, ◌∙◌, ap, subst, inl, inr, arith}
use Rattle.std.proofs.lemmas.Cmp.{nat_list_cmp_total}
use Rattle.std.proofs.lemmas.Map.Lookups.{exact_bytes}
use Rattle.std.proofs.lemmas.Option.{same_Some}
use Rattle.plain_data.proofs.RowFacts.{rising_put, rising_without}
use Rattle.snapshot_bind.specs.declared.rows.Snapshot.{Snapshot as SnapshotData}
use Rattle.snapshot_bind.specs.declared.rows.Content.{Content as ContentData}
use Rattle.snapshot_bind.specs.Licences.{snapshots_in, contents_in}
use Rattle.snapshot_bind.specs.Rules.{EachOf}
use Rattle.snapshot_bind.specs.declared.effect.Effect.{Effect}
use Rattle.snapshot_bind.specs.declared.effect.Effect.TheVariants.{Answers, PutsSnapshot, PutsContent, TakesSnapshot, TakesContent}
use Rattle.snapshot_bind.specs.SideStore.{Side, SnapKey, after, snapshot_key, content_key, owner_key, snapshot_at, content_at, AreSnapshots, AreContents}
use Rattle.snapshot_bind.proofs.Orders.{snap_cmp_total}
use Rattle.snapshot_law.proofs.Finds.{equal_keys, found_at, after_put, kept_put, put_itself, after_without, kept_without}
use Rattle.snapshot_law.proofs.Known.{StandsAt, HoldsAt, KnowsSnapshot, IsHeld, KnowsContent, IsGood, WasHere, IsNewSnapshot, IsNewContent, IsStep, back, snapshot_stays, content_stays}

-- the rows stand as they are told
pub record TellsOwn (σ : Side) (ss : List SnapshotData) (cs : List ContentData) : Type 0 where
  pub snapshots : EachOf (λ (s : SnapshotData). StandsAt σ (snapshot_key s) s) ss
  pub contents : EachOf (λ (c : ContentData). HoldsAt σ (content_key c) c) cs

-- the snapshot may be written: it is new or keeps its UID, and what it names has this UID
pub record FairSnapshot (σ : Side) (s : SnapshotData) : Type 0 where
  pub version : s.version ≡ σ.number + 1
  pub uid : (s.uid ≡ σ.number + 1) ⊎ WasHere σ (snapshot_key s) s.uid
  pub bound : s.content ≢ [] → IsHeld σ s.content s.uid

-- the content may be written: no UID is lost, and while a snapshot has its UID its data stay
pub record FairContent (σ : Side) (c : ContentData) : Type 0 where
  pub version : c.version ≡ σ.number + 1
  pub was : (d : ContentData) → HoldsAt σ (content_key c) d → (uid : ℕ) → d.uid ≡ Some uid → c.uid ≡ Some uid
  pub free : c.uid ≡ None → c.there ≡ true
  pub given : (uid : ℕ) → c.uid ≡ Some uid → uid ≤ σ.number
  pub owner : (uid : ℕ) → c.uid ≡ Some uid → (k : SnapKey) (t : SnapshotData) → StandsAt σ k t → t.uid ≡ uid → (k ≡ owner_key c) × (c.there ≡ true)

-- the content may leave: no snapshot has its UID
pub record FairLeave (σ : Side) (c : ContentData) : Type 0 where
  pub stands : HoldsAt σ (content_key c) c
  pub none : (uid : ℕ) → c.uid ≡ Some uid → (k : SnapKey) (t : SnapshotData) → StandsAt σ k t → t.uid ≢ uid

-- the effect breaks nothing: an answer tells rows that stand, and a write is one of these
abbrev pub IsFair : Side → Effect → Type 0
IsFair σ (Answers reply) = TellsOwn σ (snapshots_in reply) (contents_in reply)
IsFair σ (PutsSnapshot s) = FairSnapshot σ s
IsFair σ (PutsContent c) = FairContent σ c
IsFair σ (TakesSnapshot s) = ⊤
IsFair σ (TakesContent c) = FairLeave σ c

held_there : (σ τ : Side) → τ.contents ≡ σ.contents → (n : List ℕ) (uid : ℕ) → IsHeld σ n uid → IsHeld τ n uid
held_there σ τ e n uid h = record { content = h.content; stands = ap (λ cs. content_at n cs) e ∙ h.stands; own = h.own }

pub step_of : (σ : Side) → IsGood σ → (o : Effect) → IsFair σ o → IsStep σ (after σ o)
step_of σ g (Answers reply) fair = record {
  here = ([], []);
  number = omega arith;
  snapshot = λ k t h. inl h;
  content = λ n d h. inl h;
  keeps = λ n d uid h own k t stands is. record { content = d; stands = h; own = own };
}
step_of σ g (PutsSnapshot s) fair = record {
  here = snapshot_key s;
  number = omega arith;
  snapshot = λ k t h. by k t h (after_put snap_cmp_total equal_keys snapshot_key s σ.snapshots k t h);
  content = λ n d h. inl h;
  keeps = λ n d uid h own k t stands is. record { content = d; stands = h; own = own };
}
  where
    by : (k : SnapKey) (t : SnapshotData) → StandsAt (after σ (PutsSnapshot s)) k t → ((t ≡ s) × (snapshot_key s ≡ k)) ⊎ StandsAt σ k t
        → StandsAt σ k t ⊎ IsNewSnapshot σ (after σ (PutsSnapshot s)) (snapshot_key s) k t
    by k t h (inr old) = inl old
    by k t h (inl new) = inr (record {
      at = sym new.1;
      raised = omega arith;
      version = ap (λ (x : SnapshotData). x.version) new.0 ∙ fair.version;
      uid = subst (λ (x : SnapshotData). (x.uid ≡ σ.number + 1) ⊎ WasHere σ k x.uid) (sym new.0) (subst (λ j. (s.uid ≡ σ.number + 1) ⊎ WasHere σ j s.uid) new.1 fair.uid);
      bound = subst (λ (x : SnapshotData). x.content ≢ [] → IsHeld (after σ (PutsSnapshot s)) x.content x.uid) (sym new.0)
          (λ ne. held_there σ (after σ (PutsSnapshot s)) refl s.content s.uid (fair.bound ne));
    })
step_of σ g (PutsContent c) fair = record {
  here = ([], []);
  number = omega arith;
  snapshot = λ k t h. inl h;
  content = λ n d h. by n d (after_put nat_list_cmp_total exact_bytes content_key c σ.contents n d h);
  keeps = λ n d uid h own k t stands is. keep n d uid h own (kept_put nat_list_cmp_total exact_bytes content_key c σ.contents n d h);
}
  where
    by : (n : List ℕ) (d : ContentData) → ((d ≡ c) × (content_key c ≡ n)) ⊎ HoldsAt σ n d → HoldsAt σ n d ⊎ IsNewContent σ (after σ (PutsContent c)) d
    by n d (inr old) = inl old
    by n d (inl new) = inr (subst (λ (x : ContentData). IsNewContent σ (after σ (PutsContent c)) x) (sym new.0) (record {
      raised = omega arith;
      version = fair.version;
      free = fair.free;
      given = λ uid e. let low = fair.given uid e in omega (arith, low);
      owner = fair.owner;
    }))

    keep : (n : List ℕ) (d : ContentData) (uid : ℕ) → HoldsAt σ n d → d.uid ≡ Some uid → (content_key c ≡ n) ⊎ HoldsAt (after σ (PutsContent c)) n d → IsHeld (after σ (PutsContent c)) n uid
    keep n d uid h own (inr stays) = record { content = d; stands = stays; own = own }
    keep n d uid h own (inl e) = record {
      content = c;
      stands = put_itself nat_list_cmp_total exact_bytes content_key c σ.contents n e;
      own = fair.was d (subst (λ j. HoldsAt σ j d) (sym e) h) uid own;
    }
step_of σ g (TakesSnapshot s) fair = record {
  here = ([], []);
  number = omega arith;
  snapshot = λ k t h. inl (after_without snap_cmp_total equal_keys snapshot_key (snapshot_key s) σ.snapshots k t g.snapshots_rise h);
  content = λ n d h. inl h;
  keeps = λ n d uid h own k t stands is. record { content = d; stands = h; own = own };
}
step_of σ g (TakesContent c) fair = record {
  here = ([], []);
  number = omega arith;
  snapshot = λ k t h. inl h;
  content = λ n d h. inl (after_without nat_list_cmp_total exact_bytes content_key (content_key c) σ.contents n d g.contents_rise h);
  keeps = λ n d uid h own k t stands is. keep n d uid h own k t stands is (kept_without nat_list_cmp_total exact_bytes content_key (content_key c) σ.contents n d h);
}
  where
    keep : (n : List ℕ) (d : ContentData) (uid : ℕ) → HoldsAt σ n d → d.uid ≡ Some uid → (k : SnapKey) (t : SnapshotData) → StandsAt σ k t → t.uid ≡ uid
        → (content_key c ≡ n) ⊎ HoldsAt (after σ (TakesContent c)) n d → IsHeld (after σ (TakesContent c)) n uid
    keep n d uid h own k t stands is (inr stays) = record { content = d; stands = stays; own = own }
    keep n d uid h own k t stands is (inl e) =
        let one : d ≡ c = same_Some d c (sym h ∙ ap (λ j. content_at j σ.contents) (sym e) ∙ fair.stands) in
        absurd (fair.none uid (ap (λ (x : ContentData). x.uid) (sym one) ∙ own) k t stands is)

rises : (σ : Side) → IsGood σ → (o : Effect) → AreSnapshots (after σ o).snapshots × AreContents (after σ o).contents
rises σ g (Answers reply) = (g.snapshots_rise, g.contents_rise)
rises σ g (PutsSnapshot s) = (rising_put snap_cmp_total snapshot_key s σ.snapshots g.snapshots_rise, g.contents_rise)
rises σ g (PutsContent c) = (g.snapshots_rise, rising_put nat_list_cmp_total content_key c σ.contents g.contents_rise)
rises σ g (TakesSnapshot s) = (rising_without snap_cmp_total snapshot_key (snapshot_key s) σ.snapshots g.snapshots_rise, g.contents_rise)
rises σ g (TakesContent c) = (g.snapshots_rise, rising_without nat_list_cmp_total content_key (content_key c) σ.contents g.contents_rise)

pub keyed_at : (σ : Side) (k : SnapKey) (s : SnapshotData) → StandsAt σ k s → snapshot_key s ≡ k
keyed_at σ k s h = found_at snap_cmp_total equal_keys snapshot_key k s σ.snapshots h

pub named_at : (σ : Side) (n : List ℕ) (c : ContentData) → HoldsAt σ n c → content_key c ≡ n
named_at σ n c h = found_at nat_list_cmp_total exact_bytes content_key n c σ.contents h

module _ (σ τ : Side) (g : IsGood σ) (step : IsStep σ τ) where
  old_uid : (k : SnapKey) (uid : ℕ) → WasHere σ k uid → uid ≤ σ.number
  old_uid k uid w = let low = (g.snapshots k w.old w.stood).uid in subst (λ n. n ≤ σ.number) w.own low

  new_snapshot_known : (k : SnapKey) (s : SnapshotData) → StandsAt τ k s → IsNewSnapshot σ τ step.here k s → KnowsSnapshot τ s
  new_snapshot_known k s h new = record {
    version = omega (arith, new.version);
    uid = low new.uid;
    same = λ t stands e. same_Some t s (sym stands ∙ ap (λ j. snapshot_at j τ.snapshots) (keyed_at τ k s h) ∙ h);
    keyed = λ j t stands e. one new.uid j t stands e ∙ sym (keyed_at τ k s h);
  }
    where
      low : (s.uid ≡ τ.number) ⊎ WasHere σ k s.uid → s.uid ≤ τ.number
      low (inl e) = omega (arith, e)
      low (inr w) = let u = old_uid k s.uid w in omega (arith, u, step.number)

      newest : (j : SnapKey) (t : SnapshotData) → s.uid ≡ τ.number → t.uid ≡ s.uid → StandsAt σ j t ⊎ IsNewSnapshot σ τ step.here j t → j ≡ k
      newest j t e is (inl old) = let u = (g.snapshots j t old).uid in absurd (omega (arith, u, e, is, new.raised))
      newest j t e is (inr other) = other.at ∙ sym new.at

      one : (s.uid ≡ τ.number) ⊎ WasHere σ k s.uid → (j : SnapKey) (t : SnapshotData) → StandsAt τ j t → t.uid ≡ s.uid → j ≡ k
      one (inl e) j t stands is = newest j t e is (step.snapshot j t stands)
      one (inr w) j t stands is =
          let b = back σ τ step s.uid (old_uid k s.uid w) j t stands is in
          (g.snapshots k w.old w.stood).keyed j b.old b.stood (b.own ∙ sym w.own) ∙ keyed_at σ k w.old w.stood

  new_content_known : (n : List ℕ) (d : ContentData) → HoldsAt τ n d → IsNewContent σ τ d → KnowsContent τ d
  new_content_known n d h new = record {
    version = omega (arith, new.version);
    same = λ x stands e. same_Some x d (sym stands ∙ ap (λ j. content_at j τ.contents) (named_at τ n d h) ∙ h);
    free = new.free;
    given = new.given;
    kept = λ uid e k t stands is.
        let o = new.owner uid e k t stands is in
        record { owner = o.0; there = o.1; held = record { content = d; stands = ap (λ j. content_at j τ.contents) (named_at τ n d h) ∙ h; own = e } };
  }

  snapshots_known : (k : SnapKey) (s : SnapshotData) → StandsAt τ k s → KnowsSnapshot τ s
  snapshots_known k s h = by (step.snapshot k s h)
    where
      by : StandsAt σ k s ⊎ IsNewSnapshot σ τ step.here k s → KnowsSnapshot τ s
      by (inl old) = snapshot_stays σ τ step s (g.snapshots k s old)
      by (inr new) = new_snapshot_known k s h new

  contents_known : (n : List ℕ) (d : ContentData) → HoldsAt τ n d → KnowsContent τ d
  contents_known n d h = by (step.content n d h)
    where
      by : HoldsAt σ n d ⊎ IsNewContent σ τ d → KnowsContent τ d
      by (inl old) = content_stays σ τ step d (g.contents n d old)
      by (inr new) = new_content_known n d h new

  still_bound : (k : SnapKey) (s : SnapshotData) → StandsAt τ k s → s.content ≢ [] → IsHeld τ s.content s.uid
  still_bound k s h ne = by (step.snapshot k s h)
    where
      by : StandsAt σ k s ⊎ IsNewSnapshot σ τ step.here k s → IsHeld τ s.content s.uid
      by (inl old) = let held = g.bound k s old ne in step.keeps s.content held.content s.uid held.stands held.own k s old refl
      by (inr new) = new.bound ne

  pub good_by : AreSnapshots τ.snapshots × AreContents τ.contents → IsGood τ
  good_by rise = record { snapshots_rise = rise.0; contents_rise = rise.1; snapshots = snapshots_known; contents = contents_known; bound = still_bound }

pub good_after : (σ : Side) → IsGood σ → (o : Effect) → IsFair σ o → IsGood (after σ o)
good_after σ g o fair = good_by σ (after σ o) g (step_of σ g o fair) (rises σ g o)
