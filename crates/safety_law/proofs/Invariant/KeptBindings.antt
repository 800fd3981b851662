-- References, bindings and ended volumes: each part is kept where the store moves.
use Rattle.std.proofs.Common.{sym, refl, subst, inl, inr, ap, ◌∙◌, true≢false}
use Rattle.std.specs.Prelude.{ℕ, ◌≡◌, Bool, true, false, List, [], ◌∷◌, Option, Some, None, bytes_eq, ◌&&◌}
use Rattle.kube_parts.specs.declared.uid.Uid.{Uid}
use Rattle.kube_objects.specs.declared.key.Key.{Key}
use Rattle.kube_parts.specs.declared.parts.Kind.TheVariants as kinds
use Rattle.kube_objects.specs.declared.objects.Ref.{Ref}
use Rattle.kube_parts.specs.declared.parts.VolumePhase.TheVariants as volumes
use Rattle.kube_parts.specs.declared.parts.VolumePhase.{VolumePhase}
use Rattle.kube_objects.specs.declared.objects.Volume.{Volume as VolumeData}
use Rattle.kube_objects.specs.declared.objects.Claim.{Claim as ClaimData}
use Rattle.kube_objects.specs.declared.objects.Object.{Object}
use Rattle.kube_objects.specs.declared.objects.Object.TheVariants.{Volume, Claim}
use Rattle.kube_objects.specs.Keys.{key_of, row_at}
use Rattle.kube_objects.specs.Bindings.{is_ended, is_bound, is_completed, is_protected_volume, pv_protection, has_name, is_deleting, carries, refers_carrying, uid_carries, is_uid}
use Rattle.kube_objects.proofs.KeyOrder.{row_at_key}
use Rattle.call_types.specs.declared.entry.Entry.{Entry}
use Rattle.call_types.specs.declared.setup.Setup.{Setup}
use Rattle.binder_model.specs.ObjectKeys.{volume_key}
use Rattle.binder_model.specs.World.{world}
use Rattle.binder_model.specs.Store.{leaves}
use Rattle.safety_law.specs.Invariant.Writes.{IsLeaving}
use Rattle.safety_law.specs.Invariant.Whence.{Keeps}
use Rattle.safety_law.proofs.Invariant.KeptObjects.{kept_placed, kept_later}
use Rattle.safety_law.specs.Invariant.Was.{IsPlaced, Made, NamesOther, OfThoseWith, IsAway, IsNotThere, Refers, WasNamed, WasBound, IsFinal, VolumeStep}
use Rattle.safety_law.specs.Invariant.Invariant.{Invariant, IsReferred, IsOld, NamesAtMost, StillBound}
use Rattle.safety_law.specs.Invariant.Good.{MovesAt}
use Rattle.safety_law.proofs.Invariant.Came.{older, row_was, new_or, fresh, VolumeCame, volume_came, ClaimCame, claim_came}
use Rattle.call_types.specs.declared.request.Request.{Request}
use Rattle.std.proofs.lemmas.Option.{none-some}
use Rattle.safety_law.proofs.Invariant.Objects.{volume_keyed}
use Rattle.volume_index.proofs.PlacesBehind.{some_volume}
use Rattle.binder_model.specs.Safe.{was_imported_as_lost}
use Rattle.model_laws.specs.Stood.{Stood}
use Rattle.safety_law.proofs.Invariant.Came.{old_stood}

-- the claims of an old UID

-- what held of those with an old UID holds on, if it stays when a claim is written
pub kept_of : (setup : Setup) (e : Entry) (past : List Entry) → MovesAt setup e past → (Q : ClaimData → Type 0)
    → ((a b : ClaimData) → Keeps (Claim a) (Claim b) → Q a → Q b)
    → (uid : Uid) → IsOld (world setup past).store.version (Some uid) → OfThoseWith (world setup past) uid Q → OfThoseWith (world setup (e ∷ past)) uid Q
kept_of setup e past m Q stable uid old holds k c is its = elim (m.row k (Claim c) is) [
  | inl there ↦ holds k c there its
  | inr new ↦ elim (claim_came setup past c new.write) [
    | inl began ↦ fresh began.room (Some uid) old (sym its ∙ began.first.uid)
    | inr came ↦ stable came.old c came.next.keeps (holds (key_of (Claim c)) came.old came.next.there (sym came.next.keeps.uid ∙ its))
  ]
]

pub other_stays : (name : List ℕ) (a b : ClaimData) → Keeps (Claim a) (Claim b) → NamesOther name a → NamesOther name b
other_stays name a b keeps o = elim keeps.named [
  | inl none ↦ absurd (o.named none)
  | inr same ↦ record { named = λ none. o.named (sym same ∙ none); other = λ is. o.other (sym same ∙ is) }
]

pub kept_away : (setup : Setup) (e : Entry) (past : List Entry) → MovesAt setup e past → (uid : Uid) (name : List ℕ)
    → IsOld (world setup past).store.version (Some uid) → IsAway (world setup past) uid name → IsAway (world setup (e ∷ past)) uid name
kept_away setup e past m uid name old away = kept_of setup e past m (NamesOther name) (other_stays name) uid old away

pub kept_not_there : (setup : Setup) (e : Entry) (past : List Entry) → MovesAt setup e past → (uid : Uid)
    → IsOld (world setup past).store.version (Some uid) → IsNotThere (world setup past) uid → IsNotThere (world setup (e ∷ past)) uid
kept_not_there setup e past m uid old gone = kept_of setup e past m (λ c. ⊥) (λ a b k no. no) uid old gone

-- references

named_referred : (setup : Setup) (past : List Entry) → Invariant setup past → (r : Ref) (uid : Uid) → WasNamed setup past r uid → IsReferred setup past r uid
named_referred setup past inv r uid n = record {
  old = subst (IsOld (world setup past).store.version) n.its (old_stood setup past (Claim n.claim) n.was);
  named = λ c was its. inv.keyed (Claim c) (Claim n.claim) was n.was (its ∙ sym n.its) ∙ (λ i. record { kind = kinds.PersistentVolumeClaim; namespace = n.placed i; name = n.named i });
}

later_referred : (setup : Setup) (e : Entry) (past : List Entry) → MovesAt setup e past → (r : Ref) (uid : Uid) → IsReferred setup past r uid
    → IsReferred setup (e ∷ past) r uid
later_referred setup e past m r uid x = record {
  old = older _ _ (Some uid) m.rises x.old;
  named = λ c was its. elim (new_or setup e past m (Claim c) was) [
    | inl before ↦ x.named c before its
    | inr new ↦ elim (claim_came setup past c new.written.write) [
      | inl began ↦ fresh began.room (Some uid) x.old (sym its ∙ began.first.uid)
      | inr came ↦ came.next.key ∙ x.named came.old (row_was setup past (key_of (Claim c)) (Claim came.old) came.next.there) (sym came.next.keeps.uid ∙ its)
    ]
  ];
}

module _ (setup : Setup) (e : Entry) (past : List Entry) (inv : Invariant setup past) (m : MovesAt setup e past) where
  pub kept_refers : (v : VolumeData) (r : Ref) (uid : Uid) → Stood setup (e ∷ past) (Volume v) → Refers v r uid → IsReferred setup (e ∷ past) r uid
  kept_refers v r uid was is = later_referred setup e past m r uid (elim (new_or setup e past m (Volume v) was) [
    | inl before ↦ inv.refers v r uid before is
    | inr new ↦ elim (volume_came setup past v new.written.write) [
      | inl began ↦ named_referred setup past inv r uid (began.start.refers r uid is)
      | inr came ↦ elim (came.step.refers r uid is) [
        | inl same ↦ inv.refers came.old r uid (row_was setup past (key_of (Volume v)) (Volume came.old) came.next.there) same
        | inr named ↦ named_referred setup past inv r uid named
      ]
    ]
  ])

pub refers_old : (setup : Setup) (past : List Entry) → Invariant setup past → (v : VolumeData) (r : Ref) (uid : Uid) → Stood setup past (Volume v)
    → Refers v r uid → IsOld (world setup past).store.version (Some uid)
refers_old setup past inv v r uid was is = (inv.refers v r uid was is).old

came_was : (setup : Setup) (past : List Entry) (v : VolumeData) → (came : VolumeCame setup past v) → Stood setup past (Volume came.old)
came_was setup past v came = row_was setup past (key_of (Volume v)) (Volume came.old) came.next.there

step_old : (setup : Setup) (past : List Entry) → Invariant setup past → (v : VolumeData) → VolumeCame setup past v → (r : Ref) (uid : Uid)
    → Refers v r uid → IsOld (world setup past).store.version (Some uid)
step_old setup past inv v came r uid is = elim (came.step.refers r uid is) [
  | inl same ↦ refers_old setup past inv came.old r uid (came_was setup past v came) same
  | inr named ↦ (named_referred setup past inv r uid named).old
]

-- phases

pub no_phase : {G : Type 0} (p : VolumePhase) → p ≡ volumes.Pending → is_bound p ≡ true → G
no_phase p pending bound = absurd (true≢false (sym bound ∙ ap is_bound pending))

module _ (setup : Setup) (e : Entry) (past : List Entry) (inv : Invariant setup past) (m : MovesAt setup e past) where
  pub kept_guarded : (k : Key) (v : VolumeData) → row_at k (world setup (e ∷ past)).store.rows ≡ Some (Volume v) → is_bound v.phase ≡ true → is_protected_volume v ≡ true
  kept_guarded k v is bound = elim (m.row k (Volume v) is) [
    | inl there ↦ inv.guarded k v there bound
    | inr new ↦ elim (volume_came setup past v new.write) [
      | inl began ↦ no_phase v.phase began.start.pending bound
      | inr came ↦ came.step.guarded bound
    ]
  ]

-- the name of the volume in the store at the key of the volume that was written
name_of : (v old : VolumeData) → key_of (Volume v) ≡ key_of (Volume old) → v.meta.name ≡ old.meta.name
name_of v old e = ap (λ k. k.name) e

module _ (setup : Setup) (e : Entry) (past : List Entry) (inv : Invariant setup past) (m : MovesAt setup e past) where
  pub kept_released : (k : Key) (v : VolumeData) (r : Ref) (uid : Uid) → row_at k (world setup (e ∷ past)).store.rows ≡ Some (Volume v)
      → is_ended v.phase ≡ true → Refers v r uid → IsAway (world setup (e ∷ past)) uid v.meta.name
  kept_released k v r uid is ended refers = elim (m.row k (Volume v) is) [
    | inl there ↦ kept_away setup e past m uid v.meta.name (refers_old setup past inv v r uid (row_was setup past k (Volume v) there) refers) (inv.released k v r uid there ended refers)
    | inr new ↦ elim (volume_came setup past v new.write) [
      | inl began ↦ absurd (true≢false (sym ended ∙ ap is_ended began.start.pending))
      | inr came ↦
          let at = name_of v came.old came.next.key in
          let old = step_old setup past inv v came r uid refers in
          elim (came.step.released r uid ended refers) [
            | inl before ↦ kept_away setup e past m uid v.meta.name old
                (subst (IsAway (world setup past) uid) (sym at) (inv.released (key_of (Volume v)) came.old r uid came.next.there before.0 before.1))
            | inr away ↦ kept_away setup e past m uid v.meta.name old (subst (IsAway (world setup past) uid) (sym at) away)
          ]
    ]
  ]
  -- completed claims

pub later_bound : (setup : Setup) (e : Entry) (past : List Entry) (c : ClaimData) → WasBound setup past c → WasBound setup (e ∷ past) c
later_bound setup e past c b = record { volume = b.volume; was = inl b.was; bound = b.bound; carries = b.carries; names = b.names }

-- carrying is by namespace, name and UID alone
pub carries_on : (v : VolumeData) (a b : ClaimData) → key_of (Claim b) ≡ key_of (Claim a) → b.meta.uid ≡ a.meta.uid → carries v b ≡ carries v a
carries_on v a b k u = by v.claim_ref
  where
    on : (x : Option Uid) → uid_carries x b ≡ uid_carries x a
    on None = refl
    on (Some w) = ap (λ z. is_uid z w) u

    by : (x : Option Ref) → refers_carrying x b ≡ refers_carrying x a
    by None = refl
    by (Some r) = λ i. bytes_eq r.namespace (k i).namespace && bytes_eq r.name (k i).name && on r.uid i

-- a claim that was carried by a volume that it names is so after it was written
from_old : (setup : Setup) (past : List Entry) → Invariant setup past → (c : ClaimData) (came : ClaimCame setup past c) → WasBound setup past came.old
    → WasBound setup past c
from_old setup past inv c came b = record {
  volume = b.volume;
  was = b.was;
  bound = b.bound;
  carries = carries_on b.volume came.old c came.next.key came.next.keeps.uid ∙ b.carries;
  names = elim came.next.keeps.named [
    | inl none ↦ absurd ((inv.placed b.volume b.was).titled (sym b.names ∙ none))
    | inr same ↦ same ∙ b.names
  ];
}

module _ (setup : Setup) (e : Entry) (past : List Entry) (inv : Invariant setup past) (m : MovesAt setup e past) where
  pub kept_completed : (k : Key) (c : ClaimData) → row_at k (world setup (e ∷ past)).store.rows ≡ Some (Claim c) → is_completed c ≡ true
      → was_imported_as_lost setup c.meta.uid ≡ false → WasBound setup (e ∷ past) c
  kept_completed k c is done found = later_bound setup e past c (elim (m.row k (Claim c) is) [
    | inl there ↦ inv.completed k c there done found
    | inr new ↦ elim (claim_came setup past c new.write) [
      | inl began ↦ absurd (true≢false (sym done ∙ began.start.fresh))
      | inr came ↦ elim (came.step.completed done) [
        | inl before ↦ from_old setup past inv c came (inv.completed (key_of (Claim c)) came.old came.next.there before (ap (was_imported_as_lost setup) (sym came.next.keeps.uid) ∙ found))
        | inr bound ↦ bound
      ]
    ]
  ])
  -- bindings

-- a volume's key is that of its name
pub by_name : (v : VolumeData) → IsPlaced (key_of (Volume v)) → key_of (Volume v) ≡ volume_key v.meta.name
by_name v placed = λ i. record { kind = kinds.PersistentVolume; namespace = placed.global i; name = v.meta.name }

-- the claim named at most the volume before it was written
pub at_most_before : (name : List ℕ) (a b : ClaimData) → Keeps (Claim a) (Claim b) → NamesAtMost name b → NamesAtMost name a
at_most_before name a b keeps most = elim keeps.named [
  | inl none ↦ inl none
  | inr same ↦ elim most [ inl none ↦ inl (sym same ∙ none) | inr is ↦ inr (sym same ∙ is) ]
]

-- what leaves has no finalizers
pub unguarded : (v : VolumeData) → leaves (Volume v) ≡ true → is_protected_volume v ≡ false
unfolding leaves
unguarded v l = by v.meta.finalizers refl
  where
    no_and : {G : Type 0} (b : Bool) → (b && false) ≡ true → G
    no_and true e = absurd (true≢false (sym e))
    no_and false e = absurd (true≢false (sym e))

    by : (fs : List (List ℕ)) → v.meta.finalizers ≡ fs → has_name pv_protection v.meta.finalizers ≡ false
    by [] e = rw e refl
    by (f ∷ fs) e = let no : (is_deleting v.meta && false) ≡ true = rw e at l in no_and (is_deleting v.meta) no

module _ (setup : Setup) (e : Entry) (past : List Entry) (inv : Invariant setup past) (m : MovesAt setup e past) where
  -- a Bound volume has not left
  pub bound_stays : (k : Key) (v : VolumeData) → row_at k (world setup past).store.rows ≡ Some (Volume v) → is_bound v.phase ≡ true
      → (x : Option Object) → row_at k (world setup (e ∷ past)).store.rows ≡ x → (o : Object) × (x ≡ Some o)
  bound_stays k v is bound (Some o) now = (o, refl)
  bound_stays k v is bound None now =
      let h = m.left k (Volume v) is now in
      let same : key_of (Volume v) ≡ key_of h.last = row_at_key k (Volume v) _ is ∙ sym h.key in
      let l = volume_keyed h.last v same in
      gone e.request h.last h.written.write h.key h.leaving l.0 l.1
    where
      gone : (request : Request) (last : Object) → Made setup past last → key_of last ≡ k → IsLeaving request last → (l : VolumeData)
          → last ≡ Volume l → (o : Object) × (None ≡ Some o)
      gone request last made at leaving l e = absurd (true≢false (sym (protected (subst (Made setup past) e made) (sym (ap key_of e) ∙ at)) ∙ unguarded l (subst (IsLeaving request) e leaving)))
        where
          protected : Made setup past (Volume l) → key_of (Volume l) ≡ k → is_protected_volume l ≡ true
          protected made at = elim (volume_came setup past l made) [
            | inl began ↦ absurd (none-some _ (sym began.first.free ∙ ap (λ j. row_at j (world setup past).store.rows) at ∙ is))
            | inr came ↦
                let old : v ≡ came.old = some_volume v came.old (sym is ∙ ap (λ j. row_at j (world setup past).store.rows) (sym at) ∙ came.next.there) in
                came.step.stays (subst (λ (x : VolumeData). is_bound x.phase ≡ true) old bound)
          ]

-- what is at most this name is not elsewhere
at_most_not_other : (name : List ℕ) (c : ClaimData) → NamesAtMost name c → NamesOther name c → ⊥
at_most_not_other name c most o = elim most [ inl none ↦ o.named none | inr is ↦ o.other is ]

module _ (setup : Setup) (e : Entry) (past : List Entry) (inv : Invariant setup past) (m : MovesAt setup e past) where
  -- a volume that is Bound to a claim which is there and not elsewhere stays so
  kept_bound : (name : List ℕ) (r : Ref) (uid : Uid) (k : Key) (c : ClaimData) → r.uid ≡ Some uid → IsOld (world setup past).store.version (Some uid)
      → StillBound (world setup past) name r → row_at k (world setup (e ∷ past)).store.rows ≡ Some (Claim c) → c.meta.uid ≡ Some uid
      → NamesAtMost name c → StillBound (world setup (e ∷ past)) name r
  kept_bound name r uid k c known old s there its most =
      let x = bound_stays setup e past inv m (volume_key name) s.volume s.there s.bound _ refl in
      now x.0 x.1
    where
      written : (u : VolumeData) → row_at (volume_key name) (world setup (e ∷ past)).store.rows ≡ Some (Volume u) → VolumeCame setup past u
          → StillBound (world setup (e ∷ past)) name r
      written u is came =
          let at = row_at_key (volume_key name) (Volume u) (world setup (e ∷ past)).store.rows is in
          let same : s.volume ≡ came.old = some_volume s.volume came.old (sym s.there ∙ ap (λ j. row_at j (world setup past).store.rows) (sym at) ∙ came.next.there) in
          let called : s.volume.meta.name ≡ name = ap (λ j. j.name) (row_at_key (volume_key name) (Volume s.volume) (world setup past).store.rows s.there) in
          let step : VolumeStep setup past s.volume u = subst (λ (x : VolumeData). VolumeStep setup past x u) (sym same) came.step in
          elim (step.keeps r uid s.bound (record { is = s.refers; known = known })) [
            | inl kept ↦ record { volume = u; there = is; bound = kept.0; refers = kept.1.is }
            | inr away ↦ absurd (at_most_not_other name c most (kept_away setup e past m uid name old (subst (IsAway (world setup past) uid) called away) k c there its))
          ]

      volume : (u : VolumeData) → row_at (volume_key name) (world setup (e ∷ past)).store.rows ≡ Some (Volume u) → StillBound (world setup (e ∷ past)) name r
      volume u is = elim (m.row (volume_key name) (Volume u) is) [
        | inl same ↦ let one_v : s.volume ≡ u = some_volume s.volume u (sym s.there ∙ same) in
            record { volume = u; there = is; bound = subst (λ (x : VolumeData). is_bound x.phase ≡ true) one_v s.bound; refers = subst (λ (x : VolumeData). x.claim_ref ≡ Some r) one_v s.refers }
        | inr new ↦ elim (volume_came setup past u new.write) [
          | inl began ↦ absurd (none-some _
              (sym began.first.free ∙ ap (λ j. row_at j (world setup past).store.rows) (row_at_key (volume_key name) (Volume u) (world setup (e ∷ past)).store.rows is) ∙ s.there))
          | inr came ↦ written u is came
        ]
      ]

      now : (o : Object) → row_at (volume_key name) (world setup (e ∷ past)).store.rows ≡ Some o → StillBound (world setup (e ∷ past)) name r
      now o is =
          let l = volume_keyed o s.volume (row_at_key (volume_key name) (Volume s.volume) (world setup past).store.rows s.there ∙ sym
          (row_at_key (volume_key name) o (world setup (e ∷ past)).store.rows is)) in
          volume l.0 (is ∙ ap (λ z. Some z) l.1)

  pub kept_binding : (v : VolumeData) (r : Ref) (uid : Uid) (k : Key) (c : ClaimData) → Stood setup (e ∷ past) (Volume v) → is_bound v.phase ≡ true → Refers v r uid
      → row_at k (world setup (e ∷ past)).store.rows ≡ Some (Claim c) → c.meta.uid ≡ Some uid → NamesAtMost v.meta.name c
      → StillBound (world setup (e ∷ past)) v.meta.name r
  kept_binding v r uid k c was bound refers there its most = elim (new_or setup e past m (Volume v) was) [
    | inr new ↦ record {
      volume = v;
      there =
          ap (λ j. row_at j (world setup (e ∷ past)).store.rows) (sym (by_name v (kept_placed setup e past inv m v was))) ∙ new.stands;
      bound = bound;
      refers = refers.is;
    }
    | inl before ↦
        let old = refers_old setup past inv v r uid before refers in
        kept_bound v.meta.name r uid k c refers.known old (elim (m.row k (Claim c) there) [
          | inl same ↦ inv.binding v r uid k c before bound refers same its most
          | inr new ↦ elim (claim_came setup past c new.write) [
            | inl began ↦ fresh began.room (Some uid) old (sym its ∙ began.first.uid)
            | inr came ↦ inv.binding v r uid (key_of (Claim c)) came.old before bound refers came.next.there (sym came.next.keeps.uid ∙ its)
                (at_most_before v.meta.name came.old c came.next.keeps most)
          ]
        ]) there its most
  ]

  -- ended volumes

  -- what was ended with policy Delete before is so while it stands
  lasts_before : (v : VolumeData) (r : Ref) (uid : Uid) (k : Key) (x : VolumeData) → Stood setup past (Volume v) → Refers v r uid → IsFinal r v
      → row_at k (world setup (e ∷ past)).store.rows ≡ Some (Volume x) → x.meta.uid ≡ v.meta.uid → IsFinal r x
  lasts_before v r uid k x was refers final is same = elim (m.row k (Volume x) is) [
    | inl there ↦ inv.lasts v r uid k x was refers final there same
    | inr new ↦ elim (volume_came setup past x new.write) [
      | inl began ↦ fresh began.room v.meta.uid (old_stood setup past (Volume v) was) (sym same ∙ began.first.uid)
      | inr came ↦
          let f = inv.lasts v r uid (key_of (Volume x)) came.old was refers final came.next.there (sym came.next.keeps.uid ∙ same) in
          came.step.lasts r uid (record { is = f.refers; known = refers.known }) f.released f.policy
    ]
  ]

  pub kept_lasts : (v : VolumeData) (r : Ref) (uid : Uid) (k : Key) (x : VolumeData) → Stood setup (e ∷ past) (Volume v) → Refers v r uid → IsFinal r v
      → row_at k (world setup (e ∷ past)).store.rows ≡ Some (Volume x) → x.meta.uid ≡ v.meta.uid → IsFinal r x
  kept_lasts v r uid k x was refers final is same = elim (new_or setup e past m (Volume v) was) [
    | inl before ↦ lasts_before v r uid k x before refers final is same
    | inr new ↦
        -- the new one and the one that stands are one object
        let l = kept_later setup e past inv m (Volume v) k (Volume x) was is same in
        let at : key_of (Volume v) ≡ k = sym l.key ∙ row_at_key k (Volume x) _ is in
        let e : v ≡ x = some_volume v x (sym new.stands ∙ ap (λ j. row_at j (world setup (e ∷ past)).store.rows) at ∙ is) in
        subst (IsFinal r) e final
  ]
