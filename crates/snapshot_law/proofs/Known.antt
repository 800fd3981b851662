-- What a told row says of the rows that stand, then and after each later step.
use Rattle.std.specs.Prelude.{ℕ, ◌≤◌, ◌<◌, ◌≡◌, ◌≢◌, ◌⊎◌, true, List, [], Some, None}
use Rattle.std.proofs.Common.{◌∙◌, inl, inr, arith}
use Rattle.snapshot_bind.specs.declared.rows.Snapshot.{Snapshot as SnapshotData}
use Rattle.snapshot_bind.specs.declared.rows.Content.{Content as ContentData}
use Rattle.snapshot_bind.specs.SideStore.{Side, SnapKey, snapshot_key, owner_key, snapshot_at, content_at, AreSnapshots, AreContents}

-- the snapshot is the one that stands at the key
abbrev pub StandsAt : Side → SnapKey → SnapshotData → Type 0
StandsAt σ k s = snapshot_at k σ.snapshots ≡ Some s

-- the content is the one that stands at the name
abbrev pub HoldsAt : Side → List ℕ → ContentData → Type 0
HoldsAt σ n c = content_at n σ.contents ≡ Some c

-- the UID was given to a snapshot, and none has it now
pub record IsGone (σ : Side) (uid : ℕ) : Type 0 where
  pub given : uid ≤ σ.number
  pub none : (k : SnapKey) (t : SnapshotData) → StandsAt σ k t → t.uid ≢ uid

-- what is known of a snapshot that was told once
pub record KnowsSnapshot (σ : Side) (s : SnapshotData) : Type 0 where
  pub version : s.version ≤ σ.number
  pub uid : s.uid ≤ σ.number
  -- what stands at its key and its version is this row
  pub same : (t : SnapshotData) → StandsAt σ (snapshot_key s) t → t.version ≡ s.version → t ≡ s
  -- what has its UID stands at its key
  pub keyed : (k : SnapKey) (t : SnapshotData) → StandsAt σ k t → t.uid ≡ s.uid → k ≡ snapshot_key s

-- a content stands at the name, with this UID
pub record IsHeld (σ : Side) (name : List ℕ) (uid : ℕ) : Type 0 where
  pub content : ContentData
  pub stands : HoldsAt σ name content
  pub own : content.uid ≡ Some uid

-- a content that was told with the UID of a snapshot which stands at this key: it is for that snapshot, its data were there,
-- and what stands at its name has this UID still
pub record IsKept (σ : Side) (c : ContentData) (uid : ℕ) (k : SnapKey) : Type 0 where
  pub owner : k ≡ owner_key c
  pub there : c.there ≡ true
  pub held : IsHeld σ c.name uid

-- what is known of a content that was told once
pub record KnowsContent (σ : Side) (c : ContentData) : Type 0 where
  pub version : c.version ≤ σ.number
  pub same : (d : ContentData) → HoldsAt σ c.name d → d.version ≡ c.version → d ≡ c
  pub free : c.uid ≡ None → c.there ≡ true
  pub given : (uid : ℕ) → c.uid ≡ Some uid → uid ≤ σ.number
  pub kept : (uid : ℕ) → c.uid ≡ Some uid → (k : SnapKey) (t : SnapshotData) → StandsAt σ k t → t.uid ≡ uid → IsKept σ c uid k

-- each row that stands is known, and what a snapshot names stands with its UID
pub record IsGood (σ : Side) : Type 0 where
  pub snapshots_rise : AreSnapshots σ.snapshots
  pub contents_rise : AreContents σ.contents
  pub snapshots : (k : SnapKey) (s : SnapshotData) → StandsAt σ k s → KnowsSnapshot σ s
  pub contents : (n : List ℕ) (c : ContentData) → HoldsAt σ n c → KnowsContent σ c
  pub bound : (k : SnapKey) (s : SnapshotData) → StandsAt σ k s → s.content ≢ [] → IsHeld σ s.content s.uid

-- some snapshot at the key had this UID before
pub record WasHere (σ : Side) (k : SnapKey) (uid : ℕ) : Type 0 where
  pub old : SnapshotData
  pub stood : StandsAt σ k old
  pub own : old.uid ≡ uid

-- the snapshot was written by the step, which writes at one key alone
pub record IsNewSnapshot (σ τ : Side) (here k : SnapKey) (t : SnapshotData) : Type 0 where
  pub at : k ≡ here
  pub raised : σ.number < τ.number
  pub version : t.version ≡ τ.number
  pub uid : (t.uid ≡ τ.number) ⊎ WasHere σ k t.uid
  pub bound : t.content ≢ [] → IsHeld τ t.content t.uid

-- the content was written by the step
pub record IsNewContent (σ τ : Side) (d : ContentData) : Type 0 where
  pub raised : σ.number < τ.number
  pub version : d.version ≡ τ.number
  pub free : d.uid ≡ None → d.there ≡ true
  pub given : (uid : ℕ) → d.uid ≡ Some uid → uid ≤ τ.number
  pub owner : (uid : ℕ) → d.uid ≡ Some uid → (k : SnapKey) (t : SnapshotData) → StandsAt τ k t → t.uid ≡ uid → (k ≡ owner_key d) × (d.there ≡ true)

-- from one side to the next by at most one write, as far as look-ups tell
pub record IsStep (σ τ : Side) : Type 0 where
  pub here : SnapKey
  pub number : σ.number ≤ τ.number
  pub snapshot : (k : SnapKey) (t : SnapshotData) → StandsAt τ k t → StandsAt σ k t ⊎ IsNewSnapshot σ τ here k t
  pub content : (n : List ℕ) (d : ContentData) → HoldsAt τ n d → HoldsAt σ n d ⊎ IsNewContent σ τ d
  pub keeps : (n : List ℕ) (d : ContentData) (uid : ℕ) → HoldsAt σ n d → d.uid ≡ Some uid → (k : SnapKey) (t : SnapshotData) → StandsAt σ k t → t.uid ≡ uid → IsHeld τ n uid

module _ (σ τ : Side) (step : IsStep σ τ) where
  -- no snapshot gets a UID that was given before, but the one that had it
  pub back : (uid : ℕ) → uid ≤ σ.number → (k : SnapKey) (t : SnapshotData) → StandsAt τ k t → t.uid ≡ uid → WasHere σ k uid
  back uid given k t stands own = by (step.snapshot k t stands)
    where
      from : σ.number < τ.number → (t.uid ≡ τ.number) ⊎ WasHere σ k t.uid → WasHere σ k uid
      from up (inl e) = absurd (omega (arith, given, e, own, up))
      from up (inr o) = record { old = o.old; stood = o.stood; own = o.own ∙ own }

      by : StandsAt σ k t ⊎ IsNewSnapshot σ τ step.here k t → WasHere σ k uid
      by (inl old) = record { old = t; stood = old; own = own }
      by (inr new) = from new.raised new.uid

  pub gone_stays : (uid : ℕ) → IsGone σ uid → IsGone τ uid
  gone_stays uid g = record {
    given = omega (arith, g.given, step.number);
    none = λ k t stands own. let w = back uid g.given k t stands own in g.none k w.old w.stood w.own;
  }

  pub snapshot_stays : (s : SnapshotData) → KnowsSnapshot σ s → KnowsSnapshot τ s
  snapshot_stays s h = record {
    version = omega (arith, h.version, step.number);
    uid = omega (arith, h.uid, step.number);
    same = λ t stands e. by t e (step.snapshot (snapshot_key s) t stands);
    keyed = λ k t stands e. let w = back s.uid h.uid k t stands e in h.keyed k w.old w.stood w.own;
  }
    where
      by : (t : SnapshotData) → t.version ≡ s.version → StandsAt σ (snapshot_key s) t ⊎ IsNewSnapshot σ τ step.here (snapshot_key s) t → t ≡ s
      by t e (inl old) = h.same t old e
      by t e (inr new) = absurd (omega (arith, h.version, new.version, new.raised, e))

  pub content_stays : (c : ContentData) → KnowsContent σ c → KnowsContent τ c
  content_stays c h = record {
    version = omega (arith, h.version, step.number);
    same = λ d stands e. by d e (step.content c.name d stands);
    free = h.free;
    given = λ uid e. let g = h.given uid e in omega (arith, g, step.number);
    kept = λ uid e k t stands own.
        let w = back uid (h.given uid e) k t stands own in
        let kept = h.kept uid e k w.old w.stood w.own in
        record { owner = kept.owner; there = kept.there; held = step.keeps c.name kept.held.content uid kept.held.stands kept.held.own k w.old w.stood w.own };
  }
    where
      by : (d : ContentData) → d.version ≡ c.version → HoldsAt σ c.name d ⊎ IsNewContent σ τ d → d ≡ c
      by d e (inl old) = h.same d old e
      by d e (inr new) = absurd (omega (arith, h.version, new.version, new.raised, e))
