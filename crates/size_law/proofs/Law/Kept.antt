-- What a volume and the claim that it refers to have of each other: kept where the store moves as a fitting run lets it.
use Rattle.std.proofs.Common.{true≢false, sym, refl, subst, inl, inr, ap, ◌∙◌, arith}
use Rattle.std.proofs.lemmas.Option.{same_Some}
use Rattle.std.specs.Prelude.{Bool, ◌≡◌, ◌≢◌, ◌⊎◌, true, false, ◌&&◌, List, [], ◌∷◌, Some, None, bytes_eq, is_some}
use Rattle.kube_parts.specs.declared.uid.Uid.{Uid}
use Rattle.kube_objects.specs.declared.key.Key.{Key}
use Rattle.kube_objects.specs.declared.objects.Ref.{Ref}
use Rattle.kube_objects.specs.declared.objects.Volume.{Volume as VolumeData}
use Rattle.kube_objects.specs.declared.objects.Claim.{Claim as ClaimData}
use Rattle.kube_objects.specs.declared.objects.Object.{Object}
use Rattle.kube_objects.specs.declared.objects.Object.TheVariants.{Volume, Claim}
use Rattle.kube_objects.specs.Keys.{key_of, kind_index, row_at}
use Rattle.kube_objects.specs.Bindings.{is_completed, ref_uid}
use Rattle.kube_objects.proofs.KeyOrder.{row_at_key}
use Rattle.call_types.specs.declared.entry.Entry.{Entry}
use Rattle.call_types.specs.declared.setup.Setup.{Setup}
use Rattle.binder_model.specs.ObjectKeys.{volume_key}
use Rattle.binder_model.specs.Safe.{was_imported_as_lost}
use Rattle.binder_model.specs.World.{World, world, effect}
use Rattle.model_laws.specs.Stood.{Stood}
use Rattle.model_laws.proofs.Lists.{none_some}
use Rattle.safety_law.specs.Invariant.Moves.{Moves}
use Rattle.safety_law.proofs.Invariant.Objects.{same_claim}
use Rattle.volume_index.proofs.PlacesBehind.{some_volume}
use Rattle.safety_law.specs.Invariant.Was.{Made, Refers}
use Rattle.safety_law.specs.Invariant.Invariant.{Invariant}
use Rattle.safety_law.proofs.Invariant.Came.{row_stands, row_was, fresh, old_stood, volume_came, claim_came}
use Rattle.safety_law.proofs.Invariant.Carried.{carried}
use Rattle.safety_law.proofs.Invariant.KeptBindings.{by_name}
use Rattle.size_law.specs.Law.Fitting.{Fits, is_marked}
use Rattle.size_law.specs.Law.Enough.{ImportsFit, IsMarkedLate, ArePair, WerePair}
use Rattle.size_law.proofs.Law.Writes.{WasGiven, VolumeMoves, ClaimMoves, Fitted}

-- how the store moves at an entry of a fitting run
abbrev pub Writable : Setup → List Entry → Object → Type 0
Writable setup past o = Made setup past o × Fitted setup past o

abbrev pub FittingMoves : Setup → Entry → List Entry → Type 0
FittingMoves setup e past = Moves (world setup past) e.request (effect setup (world setup past) e.kind e.request) (Writable setup past)

-- a claim and a later version of it
pub record IsLaterClaim (a b : ClaimData) : Type 0 where
  pub bytes : b.amount.bytes ≡ a.amount.bytes
  pub mode : b.block ≡ a.block
  pub completed : is_completed a ≡ true → is_completed b ≡ true

-- they were bound by hand, and are marked only where they were so then
pub record AreByHand (setup : Setup) (past : List Entry) (v : VolumeData) (c : ClaimData) : Type 0 where
  pub pair : WerePair setup past v c
  pub volume : VolumeData
  pub volume_stood : Stood setup past (Volume volume)
  pub same_volume : volume.meta.uid ≡ v.meta.uid
  pub free : ref_uid volume.claim_ref ≡ None
  pub volume_marks : is_marked v.meta ≡ true → is_marked volume.meta ≡ true
  pub claim : ClaimData
  pub claim_stood : Stood setup past (Claim claim)
  pub same_claim : claim.meta.uid ≡ c.meta.uid
  pub named : claim.volume_name ≡ v.meta.name
  pub undone : is_completed claim ≡ false
  pub claim_marks : is_marked c.meta ≡ true → is_marked claim.meta ≡ true

pub record Suited (setup : Setup) (past : List Entry) : Type 0 where
  pub claims : (a : ClaimData) (k : Key) (b : ClaimData) → Stood setup past (Claim a) → row_at k (world setup past).store.rows ≡ Some (Claim b)
      → b.meta.uid ≡ a.meta.uid → IsLaterClaim a b
  -- a claim that is marked is completed, if it was not imported otherwise
  pub late : (c : ClaimData) → Stood setup past (Claim c) → IsMarkedLate setup c.meta.uid → is_marked c.meta ≡ true → is_completed c ≡ true
  -- a volume fits the claim that stands and that its reference has the UID of, or both were bound by hand
  pub given : (j k : Key) (v : VolumeData) (c : ClaimData) (r : Ref) (uid : Uid)
      → row_at j (world setup past).store.rows ≡ Some (Volume v) → row_at k (world setup past).store.rows ≡ Some (Claim c)
      → Refers v r uid → c.meta.uid ≡ Some uid → was_imported_as_lost setup (Some uid) ≡ false → ImportsFit setup (Some uid)
      → Fits v c ⊎ AreByHand setup past v c

-- claims in time

claim_itself : (c : ClaimData) → IsLaterClaim c c
claim_itself c = record { bytes = refl; mode = refl; completed = λ done. done }

claim_then : (a b c : ClaimData) → IsLaterClaim a b → ClaimMoves b c → IsLaterClaim a c
claim_then a b c l m = record { bytes = m.bytes ∙ l.bytes; mode = m.mode ∙ l.mode; completed = λ done. m.marks.completed (l.completed done) }

-- a claim that named a volume names it still
still_named : (setup : Setup) (past : List Entry) → Invariant setup past → (a b : ClaimData) (k : Key) → Stood setup past (Claim a)
    → row_at k (world setup past).store.rows ≡ Some (Claim b) → b.meta.uid ≡ a.meta.uid → a.volume_name ≢ [] → b.volume_name ≡ a.volume_name
still_named setup past inv a b k was is same named = elim (inv.later (Claim a) k (Claim b) was is same).keeps.named [
  | inl empty ↦ absurd (named empty)
  | inr once ↦ once
]

module _ (setup : Setup) (e : Entry) (past : List Entry) (inv : Invariant setup past) (after : Invariant setup (e ∷ past)) (m : FittingMoves setup e past) (s : Suited setup past) where
  -- of two that stand now, with one UID
  claims_now : (a b : ClaimData) (k : Key) → row_at (key_of (Claim a)) (world setup (e ∷ past)).store.rows ≡ Some (Claim a)
      → row_at k (world setup (e ∷ past)).store.rows ≡ Some (Claim b) → b.meta.uid ≡ a.meta.uid → IsLaterClaim a b
  claims_now a b k now is same =
      let keyed : key_of (Claim a) ≡ key_of (Claim b) = after.keyed (Claim a) (Claim b) (inr now) (row_was setup (e ∷ past) k (Claim b) is) (sym same) in
      let at : key_of (Claim a) ≡ k = keyed ∙ row_at_key k (Claim b) (world setup (e ∷ past)).store.rows is in
      let one : a ≡ b = same_claim a b (same_Some (Claim a) (Claim b) (sym now ∙ ap (λ j. row_at j (world setup (e ∷ past)).store.rows) at ∙ is)) in
      subst (IsLaterClaim a) one (claim_itself a)

  pub kept_claims : (a : ClaimData) (k : Key) (b : ClaimData) → Stood setup (e ∷ past) (Claim a) → row_at k (world setup (e ∷ past)).store.rows ≡ Some (Claim b)
      → b.meta.uid ≡ a.meta.uid → IsLaterClaim a b
  kept_claims a k b was is same = elim was [
    | inr now ↦ claims_now a b k now is same
    | inl before ↦ elim (m.row k (Claim b) is) [
      | inl there ↦ s.claims a k b before there same
      | inr new ↦ elim (claim_came setup past b new.write.0) [
        | inl began ↦ fresh began.room a.meta.uid (old_stood setup past (Claim a) before) (sym same ∙ began.first.uid)
        | inr came ↦
            let its : came.old.meta.uid ≡ a.meta.uid = sym came.next.keeps.uid ∙ same in
            claim_then a came.old b (s.claims a (key_of (Claim b)) came.old before came.next.there its) (new.write.1.moves (Claim came.old) came.next.there)
      ]
    ]
  ]

  pub kept_late : (c : ClaimData) → Stood setup (e ∷ past) (Claim c) → IsMarkedLate setup c.meta.uid → is_marked c.meta ≡ true → is_completed c ≡ true
  kept_late c was late marked = elim was [
    | inl before ↦ s.late c before late marked
    | inr now ↦ elim (m.row (key_of (Claim c)) (Claim c) now) [
      | inl there ↦ s.late c (row_was setup past (key_of (Claim c)) (Claim c) there) late marked
      | inr new ↦ elim (claim_came setup past c new.write.0) [
        | inl began ↦ absurd (true≢false (sym marked ∙ new.write.1.begins began.first.free))
        | inr came ↦
            let moved : ClaimMoves came.old c = new.write.1.moves (Claim came.old) came.next.there in
            let old_late : IsMarkedLate setup came.old.meta.uid = subst (IsMarkedLate setup) came.next.keeps.uid late in
            elim (moved.marks.marks marked) [
              | inl before ↦ moved.marks.completed (s.late came.old (row_was setup past (key_of (Claim c)) (Claim came.old) came.next.there) old_late before)
              | inr done ↦ done.1
            ]
      ]
    ]
  ]

-- what fits

fits_later : (v : VolumeData) (a b : ClaimData) → b.amount.bytes ≡ a.amount.bytes → b.block ≡ a.block → Fits v a → Fits v b
fits_later v a b bytes mode f = let low = f.bytes in record { bytes = omega (arith, low, bytes); mode = f.mode ∙ sym mode }

fits_moved : (v w : VolumeData) (c : ClaimData) → w.amount.bytes ≡ v.amount.bytes → w.block ≡ v.block → Fits v c → Fits w c
fits_moved v w c bytes mode f = let low = f.bytes in record { bytes = omega (arith, low, bytes); mode = mode ∙ f.mode }

-- who were a pair

pair_now : (setup : Setup) (past : List Entry) (v : VolumeData) (c : ClaimData) → ArePair (world setup past) v c → WerePair setup past v c
pair_now setup [] v c p = p
pair_now setup (e ∷ past) v c p = inr p

are_pair_still : (x : World) (v w : VolumeData) (c d : ClaimData) → w.meta.uid ≡ v.meta.uid → d.meta.uid ≡ c.meta.uid → ArePair x v c → ArePair x w d
are_pair_still x v w c d same_v same_c p = record {
  volume = p.volume;
  volume_there = p.volume_there;
  same_volume = p.same_volume ∙ sym same_v;
  claim = p.claim;
  claim_there = p.claim_there;
  same_claim = p.same_claim ∙ sym same_c;
  pair = p.pair;
}

were_pair_still : (setup : Setup) (past : List Entry) (v w : VolumeData) (c d : ClaimData) → w.meta.uid ≡ v.meta.uid → d.meta.uid ≡ c.meta.uid
    → WerePair setup past v c → WerePair setup past w d
were_pair_still setup [] v w c d same_v same_c p = are_pair_still (world setup []) v w c d same_v same_c p
were_pair_still setup (e ∷ past) v w c d same_v same_c p = elim p [
  | inl before ↦ inl (were_pair_still setup past v w c d same_v same_c before)
  | inr now ↦ inr (are_pair_still (world setup (e ∷ past)) v w c d same_v same_c now)
]

-- who were bound by hand stay so
hand_later : (setup : Setup) (e : Entry) (past : List Entry) (v w : VolumeData) (c d : ClaimData) → AreByHand setup past v c
    → w.meta.uid ≡ v.meta.uid → w.meta.name ≡ v.meta.name → d.meta.uid ≡ c.meta.uid
    → (is_marked w.meta ≡ true → is_marked v.meta ≡ true) → (is_marked d.meta ≡ true → is_marked c.meta ≡ true)
    → AreByHand setup (e ∷ past) w d
hand_later setup e past v w c d h same_v name same_c mark_v mark_c = record {
  pair = inl (were_pair_still setup past v w c d same_v same_c h.pair);
  volume = h.volume;
  volume_stood = inl h.volume_stood;
  same_volume = h.same_volume ∙ sym same_v;
  free = h.free;
  volume_marks = λ marked. h.volume_marks (mark_v marked);
  claim = h.claim;
  claim_stood = inl h.claim_stood;
  same_claim = h.same_claim ∙ sym same_c;
  named = h.named ∙ sym name;
  undone = h.undone;
  claim_marks = λ marked. h.claim_marks (mark_c marked);
}

-- a volume without a UID in its reference is not that of a completed claim, if this was not imported as Lost
module _ (setup : Setup) (past : List Entry) (inv : Invariant setup past) where
  not_restored : {G : Type 0} (o : VolumeData) (c : ClaimData) (j k : Key) → row_at j (world setup past).store.rows ≡ Some (Volume o)
      → row_at k (world setup past).store.rows ≡ Some (Claim c) → is_completed c ≡ true → was_imported_as_lost setup c.meta.uid ≡ false
      → c.volume_name ≡ o.meta.name → ref_uid o.claim_ref ≡ None → G
  not_restored o c j k there is done lost named free =
      let b = inv.completed k c is done lost in
      let t = carried b.volume c b.carries in
      let x = inv.binding b.volume t.reference t.uid k c b.was b.bound t.refers is t.its (inr b.names) in
      let at : j ≡ volume_key b.volume.meta.name =
      sym (row_at_key j (Volume o) (world setup past).store.rows there) ∙ by_name o (inv.placed o (row_was setup past j (Volume o) there)) ∙ ap volume_key (sym named ∙ b.names) in
      let one : o ≡ x.volume = some_volume o x.volume (sym there ∙ ap (λ i. row_at i (world setup past).store.rows) at ∙ x.there) in
      none_some (sym free ∙ ap (λ (y : VolumeData). ref_uid y.claim_ref) one ∙ ap ref_uid x.refers ∙ t.refers.known)

  -- so the claim that such a volume's name stands in is not completed
  not_done : (o : VolumeData) (c : ClaimData) (j k : Key) → row_at j (world setup past).store.rows ≡ Some (Volume o)
      → row_at k (world setup past).store.rows ≡ Some (Claim c) → was_imported_as_lost setup c.meta.uid ≡ false
      → c.volume_name ≡ o.meta.name → ref_uid o.claim_ref ≡ None → is_completed c ≡ false
  not_done o c j k there is lost named free = by (is_completed c) refl
    where
      by : (b : Bool) → is_completed c ≡ b → is_completed c ≡ false
      by true done = not_restored o c j k there is done lost named free
      by false undone = undone

module _ (setup : Setup) (e : Entry) (past : List Entry) (inv : Invariant setup past) (s : Suited setup past) where
  -- the volume was given to the claim by this entry
  given_now : (v w : VolumeData) (c : ClaimData) (k j : Key) (uid : Uid) → row_at j (world setup past).store.rows ≡ Some (Volume v)
      → row_at k (world setup past).store.rows ≡ Some (Claim c) → c.meta.uid ≡ Some uid → was_imported_as_lost setup (Some uid) ≡ false
      → w.meta.uid ≡ v.meta.uid → w.meta.name ≡ v.meta.name → w.amount.bytes ≡ v.amount.bytes → w.block ≡ v.block → WasGiven setup past v w uid
      → Fits w c ⊎ AreByHand setup (e ∷ past) w c
  given_now v w c k j uid there is its lost same name bytes mode g =
      let later = s.claims g.claim k c g.was is (its ∙ sym g.its) in
      let placed = inv.placed v (row_was setup past j (Volume v) there) in
      elim g.suits [
        | inl f ↦ inl (fits_moved v w c bytes mode (fits_later v g.claim c later.bytes later.mode f))
        | inr hand ↦ elim hand [
          | inl p ↦
              let keyed : key_of (Claim c) ≡ key_of (Claim g.claim) = inv.keyed (Claim c) (Claim g.claim) (row_was setup past k (Claim c) is) g.was (its ∙ sym g.its) in
              let titled : g.claim.volume_name ≢ [] = λ none. placed.titled (sym p.named ∙ none) in
              let named : c.volume_name ≡ v.meta.name = still_named setup past inv g.claim c k g.was is (its ∙ sym g.its) titled ∙ p.named in
              let free : ref_uid v.claim_ref ≡ None = ap ref_uid p.reserved.is ∙ p.reserved.free in
              let undone = not_done setup past inv v c j k there is (ap (was_imported_as_lost setup) its ∙ lost) named free in
              inr (record {
                pair = inl (pair_now setup past w c (record {
                  volume = v;
                  volume_there = row_stands (world setup past) j (Volume v) there;
                  same_volume = sym same;
                  claim = c;
                  claim_there = row_stands (world setup past) k (Claim c) is;
                  same_claim = refl;
                  pair = record {
                    reserved = record {
                      reference = p.reserved.reference;
                      is = p.reserved.is;
                      names = (λ i. bytes_eq p.reserved.reference.namespace (keyed i).namespace && bytes_eq p.reserved.reference.name (keyed i).name) ∙ p.reserved.names;
                      free = p.reserved.free;
                    };
                    named = named;
                    undone = undone;
                  };
                }));
                volume = v;
                volume_stood = inl (row_was setup past j (Volume v) there);
                same_volume = sym same;
                free = free;
                volume_marks = g.marks (ap is_some p.reserved.is);
                claim = c;
                claim_stood = inl (row_was setup past k (Claim c) is);
                same_claim = refl;
                named = named ∙ sym name;
                undone = undone;
                claim_marks = λ marked. marked;
              })
          | inr back ↦
              let named : g.claim.volume_name ≢ [] = λ none. placed.titled (sym back.named ∙ none) in
              not_restored setup past inv v c j k there is (later.completed back.completed) (ap (was_imported_as_lost setup) its ∙ lost)
              (still_named setup past inv g.claim c k g.was is (its ∙ sym g.its) named ∙ back.named) (ap ref_uid back.free)
        ]
      ]

module _ (setup : Setup) (e : Entry) (past : List Entry) (inv : Invariant setup past) (m : FittingMoves setup e past) (s : Suited setup past) where
  -- the volume was written, and the claim stood before
  volume_new : (v : VolumeData) (c : ClaimData) (k : Key) (r : Ref) (uid : Uid) → Writable setup past (Volume v)
      → row_at k (world setup past).store.rows ≡ Some (Claim c) → Refers v r uid → c.meta.uid ≡ Some uid → was_imported_as_lost setup (Some uid) ≡ false
      → ImportsFit setup (Some uid) → Fits v c ⊎ AreByHand setup (e ∷ past) v c
  volume_new v c k r uid w is h its lost fit = elim (volume_came setup past v w.0) [
    | inl began ↦
        let n = w.1.begins began.first.free r uid h in
        let later = s.claims n.0 k c n.1.0 is (its ∙ sym n.1.1.0) in
        inl (fits_later v n.0 c later.bytes later.mode n.1.1.1)
    | inr came ↦
        let moved : VolumeMoves setup past came.old v = w.1.moves (Volume came.old) came.next.there in
        let name : v.meta.name ≡ came.old.meta.name = ap (λ (x : Key). x.name) came.next.key in
        elim (moved.refers r uid h) [
          | inl same ↦ elim (s.given (key_of (Volume v)) k came.old c r uid came.next.there is same.0 its lost fit) [
            | inl f ↦ inl (fits_moved came.old v c moved.bytes moved.mode f)
            | inr hand ↦ inr (hand_later setup e past came.old v c c hand came.next.keeps.uid name refl same.1 (λ marked. marked))
          ]
          | inr given ↦ given_now setup e past inv s came.old v c k (key_of (Volume v)) uid came.next.there is its lost came.next.keeps.uid name moved.bytes moved.mode given
        ]
  ]

  -- the claim was written, and the volume stood before
  claim_new : (v : VolumeData) (c : ClaimData) (j : Key) (r : Ref) (uid : Uid) → Writable setup past (Claim c)
      → row_at j (world setup past).store.rows ≡ Some (Volume v) → Refers v r uid → c.meta.uid ≡ Some uid → was_imported_as_lost setup (Some uid) ≡ false
      → ImportsFit setup (Some uid) → Fits v c ⊎ AreByHand setup (e ∷ past) v c
  claim_new v c j r uid w is h its lost fit = elim (claim_came setup past c w.0) [
    | inl began ↦ fresh began.room (Some uid) (inv.refers v r uid (row_was setup past j (Volume v) is) h).old (sym its ∙ began.first.uid)
    | inr came ↦
        let moved : ClaimMoves came.old c = w.1.moves (Claim came.old) came.next.there in
        elim (s.given j (key_of (Claim c)) v came.old r uid is came.next.there h (sym came.next.keeps.uid ∙ its) lost fit) [
          | inl f ↦ inl (fits_later v came.old c moved.bytes moved.mode f)
          | inr hand ↦ inr (hand_later setup e past v v came.old c hand refl refl came.next.keeps.uid (λ marked. marked) (λ marked. elim (moved.marks.marks marked) [
            | inl before ↦ before
            | inr new ↦
                let titled = (inv.placed v (row_was setup past j (Volume v) is)).titled in
                let once = still_named setup past inv hand.claim came.old (key_of (Claim c)) hand.claim_stood came.next.there (sym hand.same_claim) (λ empty. titled (sym hand.named ∙ empty)) in
                absurd (titled (sym (once ∙ hand.named) ∙ new.0))
          ]))
        ]
  ]

  kept_given : (j k : Key) (v : VolumeData) (c : ClaimData) (r : Ref) (uid : Uid)
      → row_at j (world setup (e ∷ past)).store.rows ≡ Some (Volume v) → row_at k (world setup (e ∷ past)).store.rows ≡ Some (Claim c)
      → Refers v r uid → c.meta.uid ≡ Some uid → was_imported_as_lost setup (Some uid) ≡ false → ImportsFit setup (Some uid)
      → Fits v c ⊎ AreByHand setup (e ∷ past) v c
  kept_given j k v c r uid at_j at_k h its lost fit = elim (m.row j (Volume v) at_j) [
    | inl v_there ↦ elim (m.row k (Claim c) at_k) [
      | inl c_there ↦ elim (s.given j k v c r uid v_there c_there h its lost fit) [
        | inl f ↦ inl f
        | inr hand ↦ inr (hand_later setup e past v v c c hand refl refl refl (λ marked. marked) (λ marked. marked))
      ]
      | inr c_new ↦ claim_new v c j r uid c_new.write v_there h its lost fit
    ]
    | inr v_new ↦ elim (m.row k (Claim c) at_k) [
      | inl c_there ↦ volume_new v c k r uid v_new.write c_there h its lost fit
      | inr c_new ↦ absurd (omega (arith, ap (λ o. kind_index (key_of o).kind) (same_Some (Volume v) (Claim c) (sym v_new.is ∙ c_new.is))))
    ]
  ]

pub kept : (setup : Setup) (e : Entry) (past : List Entry) → Invariant setup past → Invariant setup (e ∷ past) → FittingMoves setup e past → Suited setup past → Suited setup (e ∷ past)
kept setup e past inv after m s = record { claims = kept_claims setup e past inv after m s; late = kept_late setup e past inv after m s; given = kept_given setup e past inv m s }
