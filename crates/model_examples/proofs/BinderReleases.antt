-- The binder's rows that take a binding back, computed.
use Rattle.std.proofs.Common.{sym, refl, ap, inl, inr, true≢false, ◌∙◌}
use Rattle.std.specs.Prelude.{ℕ, ◌≡◌, ◌⊎◌, Bool, true, false, not, List, [], ◌∷◌, Option, Some, None, is_none, codes, bytes_eq}
use Rattle.kube_parts.specs.declared.parts.Kind.TheVariants as kinds
use Rattle.kube_parts.specs.declared.parts.Modes.{Modes}
use Rattle.kube_objects.specs.declared.key.Key.{Key}
use Rattle.kube_parts.specs.declared.uid.Uid.{Uid}
use Rattle.kube_objects.specs.declared.objects.Amount.{Amount}
use Rattle.kube_objects.specs.declared.objects.Ref.{Ref}
use Rattle.kube_objects.specs.declared.objects.Volume.{Volume as VolumeData}
use Rattle.kube_objects.specs.declared.objects.Claim.{Claim as ClaimData}
use Rattle.kube_objects.specs.declared.objects.Object.TheVariants.{Volume, Claim}
use Rattle.kube_parts.specs.Uids.{uid_of_serial}
use Rattle.kube_objects.specs.Bindings.{is_empty, is_uid, ref_uid}
use Rattle.call_types.specs.declared.entry.Entry.{Entry}
use Rattle.call_types.specs.declared.request.SeatKind.TheVariants as seats
use Rattle.binder_model.specs.At.{IsWrittenAt, IsElsewhere, IsSameObject}
use Rattle.binder_model.specs.ObjectKeys.{volume_key, claim_key}
use Rattle.binder_model.specs.BindWrites.{unbound_volume}
use Rattle.binder_model.specs.BinderDue.{is_reclaimed}
use Rattle.binder_model.specs.Told.{SomeOf, ToldVolume, ToldClaim, TellsLive}
use Rattle.binder_model.specs.BinderLicence.{MayRelease, WasReadGone, IsReferring, IsGone, MayUnbind, MayLose, WasReadLost, IsNotCarrying, IsCompletedVersion}
use Rattle.binder_model.specs.Licence.{AtVolume, AtVolumeKey, AtClaimKey}
use Rattle.model_examples.specs.Samples.{
  Exchange,
  entry_of,
  seat_of,
  unheard,
  lists,
  tells_volume,
  tells_claim,
  tells_both,
  finds,
  finds_none,
  once,
  amount,
  a,
  c,
  d,
  other_c,
  naming,
  with_reference,
  key_a,
  key_c,
  uid_c,
  name_c,
  ref_c,
  taken_a,
  bound_a,
  bound_c,
  key_d,
  elsewhere_c,
  key_b,
  nameless_c,
  bound_for_other,
}
use Rattle.model_examples.specs.BinderReleases.{
  ReleasedExamples,
  prebound_a,
  failed_a,
  earlier_a,
  provisioned_a,
  reclaimed_a,
  deleted_with_claim,
  UnbindExamples,
  taken_prebound,
  LostExamples,
  uncompleted_c,
  earlier_c,
}
use Rattle.model_examples.proofs.Tellings.{
  differ,
  neither,
  sole,
  own_kind,
  told_volumes,
  told_claims,
  volume_row,
  volume_status_row,
  claim_status_row,
  volumes_in,
  claims_in,
  told_objects,
  never_read,
  has_get,
  key_read,
  not_get,
  is_version,
  name_of,
}
use Rattle.model_laws.proofs.AfterEntries.{after_some as after_tells}

abbrev mine : List Exchange → List Entry
mine xs = seat_of seats.Binder xs

abbrev name_read : Option Key → List ℕ
name_read None = []
name_read (Some key) = key.name

not_none : codes "b" ≡ [] → ⊥
not_none e = differ (λ n. not (is_empty n)) e refl refl

b_is_not_a : codes "b" ≡ codes "a" → ⊥
b_is_not_a e = differ (λ n. bytes_eq n (codes "b")) e refl refl

same_a : IsSameObject taken_a.meta taken_a.meta
same_a = record { uid = uid_of_serial 1; first = refl; second = refl }

-- Released

release_at : (xs : List Exchange) (given : Option ℕ) → AtVolumeKey (mine xs) key_a given (λ o. MayRelease (mine xs) o)
    → SomeOf (λ o. IsWrittenAt given [] (codes "a") o.meta × MayRelease (mine xs) o) (volumes_in (told_objects (mine xs)))
release_at xs given h = volume_status_row (λ o. MayRelease (mine xs) o) (mine xs) key_a given h

-- the UID of the reference
uid_in : (xs : List Exchange) (o : VolumeData) (row : MayRelease (mine xs) o) → ref_uid o.claim_ref ≡ Some row.uid
uid_in xs o row = ap ref_uid row.refers ∙ row.known

elsewhere : (xs : List Exchange) (o : VolumeData) (uid : Uid) → ToldClaim (IsElsewhere o.meta.name uid) (mine xs) → SomeOf (IsElsewhere o.meta.name uid) (claims_in (told_objects (mine xs)))
elsewhere xs o uid h = told_claims (IsElsewhere o.meta.name uid) (mine xs) h

unread : (xs : List Exchange) (o : VolumeData) (r : Ref) (uid : Uid) → has_get (mine xs) ≡ false → WasReadGone (mine xs) o r uid → ⊥
unread xs o r uid none h =
    never_read (claim_key r.namespace r.name) (IsGone uid) (mine xs) none
    (after_tells (ToldVolume (IsReferring o r)) (TellsLive (claim_key r.namespace r.name) (IsGone uid)) (mine xs) h)

-- a row where no claim was told has a read; a row where nothing was read has a claim elsewhere
read_of : (xs : List Exchange) (o : VolumeData) (row : MayRelease (mine xs) o)
    → (SomeOf (IsElsewhere o.meta.name row.uid) (claims_in (told_objects (mine xs))) → ⊥) → WasReadGone (mine xs) o row.reference row.uid
read_of xs o row none = by row.why
  where
    by : WasReadGone (mine xs) o row.reference row.uid ⊎ (ToldClaim (IsElsewhere o.meta.name row.uid) (mine xs) × (is_reclaimed o ≡ true)) → WasReadGone (mine xs) o row.reference row.uid
    by (inl h) = h
    by (inr h) = absurd (none (elsewhere xs o row.uid h.0))

claim_of : (xs : List Exchange) (o : VolumeData) (row : MayRelease (mine xs) o) → has_get (mine xs) ≡ false
    → SomeOf (IsElsewhere o.meta.name row.uid) (claims_in (told_objects (mine xs))) × (is_reclaimed o ≡ true)
claim_of xs o row none = by row.why
  where
    by : WasReadGone (mine xs) o row.reference row.uid ⊎ (ToldClaim (IsElsewhere o.meta.name row.uid) (mine xs) × (is_reclaimed o ≡ true))
        → SomeOf (IsElsewhere o.meta.name row.uid) (claims_in (told_objects (mine xs))) × (is_reclaimed o ≡ true)
    by (inl h) = absurd (unread xs o row.reference row.uid none h)
    by (inr h) = (elsewhere xs o row.uid h.0, h.1)

pub record Away (x : ClaimData) (v : VolumeData) : Type 0 where
  pub row : MayRelease (mine (tells_both x v)) v
  pub claim : IsElsewhere v.meta.name row.uid x
  pub reclaimed : is_reclaimed v ≡ true

away : (x : ClaimData) (v : VolumeData) → AtVolumeKey (mine (tells_both x v)) key_a (Some 4) (λ o. MayRelease (mine (tells_both x v)) o) → Away x v
away x v l =
    let row = (sole (release_at (tells_both x v) (Some 4) l)).1 in
    let why = claim_of (tells_both x v) v row refl in
    record { row = row; claim = sole why.0; reclaimed = why.1 }

-- a sole read after the volume was told
abbrev read_after : Exchange → VolumeData → List Exchange
read_after x v = x ∷ tells_volume v ∷ []

pub record Read (x : Exchange) (v : VolumeData) : Type 0 where
  pub row : MayRelease (mine (read_after x v)) v
  pub live : TellsLive (claim_key row.reference.namespace row.reference.name) (IsGone row.uid) (entry_of seats.Binder x)

read_first : (x : Exchange) (v : VolumeData) (row : MayRelease (mine (read_after x v)) v) → WasReadGone (mine (read_after x v)) v row.reference row.uid → Read x v
read_first x v row (inl h) = record { row = row; live = h.0 }
read_first x v row (inr (inl h)) = absurd (not_get h.0.1 refl)
read_first x v row (inr (inr h)) = absurd h

read : (x : Exchange) (v : VolumeData) (row : MayRelease (mine (read_after x v)) v) → (SomeOf (IsElsewhere v.meta.name row.uid) (claims_in (told_objects (mine (read_after x v)))) → ⊥) → Read x v
read x v row none = read_first x v row (read_of (read_after x v) v row none)

pub released_examples : ReleasedExamples
released_examples = record {
  releases_after_reading_none = (own_kind seats.Binder (read_after (finds_none key_c) taken_a), (refl, inr (inl (refl, inl (record { version = refl; placed = refl; named = refl }, none)))));
  releases_after_reading_other_uid = (
    own_kind seats.Binder (read_after (finds key_c (Claim other_c)) taken_a),
    (refl, inr (inl (refl, inl (record { version = refl; placed = refl; named = refl }, other)))),
  );
  releases_reclaimed_of_claim_elsewhere =
      (own_kind seats.Binder (tells_both elsewhere_c reclaimed_a), (refl, inr (inl (refl, inl (record { version = refl; placed = refl; named = refl }, reclaimed)))));
  releases_with_other_calls_since = (
    own_kind seats.Binder (tells_claim d ∷ read_after (finds_none key_c) taken_a),
    (refl, inr (inr (inl (refl, inl (record { version = refl; placed = refl; named = refl }, since))))),
  );
  releases_ended_is_refused = λ l. true≢false (sole (release_at (read_after (finds_none key_c) failed_a) (Some 4) l.1)).1.live;
  releases_without_uid_is_refused = λ l. differ is_none (uid_in (read_after (finds_none key_c) prebound_a) prebound_a
      (sole (release_at (read_after (finds_none key_c) prebound_a) (Some 4) l.1)).1) refl refl;
  releases_without_reference_is_refused = λ l. differ is_none (sole (release_at (read_after (finds_none key_c) a) (Some 3) l.1)).1.refers refl refl;
  read_before_told_is_refused = λ l. too_early (sole (release_at (tells_volume taken_a ∷ finds_none key_c ∷ []) (Some 4) l.1)).1;
  read_that_found_the_claim_is_refused = λ l. found (read (finds key_c (Claim c)) taken_a (sole (release_at (read_after (finds key_c (Claim c)) taken_a) (Some 4) l.1)).1 (λ h. (sole h).named refl));
  read_of_other_key_is_refused = λ l. other_key (read (finds_none key_d) taken_a (sole (release_at (read_after (finds_none key_d) taken_a) (Some 4) l.1)).1 (λ h. h));
  read_without_answer_is_refused = λ l. true≢false (sym
      (read (unheard (finds_none key_c)) taken_a (sole (release_at (read_after (unheard (finds_none key_c)) taken_a) (Some 4) l.1)).1 (λ h. h)).live.0);
  absence_in_a_list_is_refused = λ l. (claim_of (read_after (lists kinds.PersistentVolumeClaim [] 9) taken_a) taken_a
      (sole (release_at (read_after (lists kinds.PersistentVolumeClaim [] 9) taken_a) (Some 4) l.1)).1 refl).0;
  read_before_told_with_uid_is_refused = λ l. neither (λ o. uid_too_late o.1) (neither (λ o. differ (is_version 4) o.0.version refl refl) (λ h. h))
      (release_at (tells_volume taken_a ∷ finds_none key_c ∷ tells_volume a ∷ []) (Some 4) l.1);
  read_after_other_volume_is_refused = λ l. neither (λ o. after_other o.1) (neither (λ o. differ (is_version 4) o.0.version refl refl) (λ h. h))
      (release_at (tells_volume taken_a ∷ finds_none key_c ∷ tells_volume earlier_a ∷ []) (Some 4) l.1);
  elsewhere_without_provisioner_is_refused = λ l. true≢false (sym (away elsewhere_c deleted_with_claim l.1).reclaimed);
  elsewhere_with_policy_retain_is_refused = λ l. true≢false (sym (away elsewhere_c provisioned_a l.1).reclaimed);
  claim_without_volume_is_refused = λ l. (away c reclaimed_a l.1).claim.named refl;
  claim_of_this_volume_is_refused = λ l. (away (naming (codes "a") c) reclaimed_a l.1).claim.other refl;
  other_claim_elsewhere_is_refused = λ l. other_uid (away (naming (codes "b") other_c) reclaimed_a l.1);
  no_claim_told_is_refused = λ l. (claim_of (tells_volume reclaimed_a ∷ []) reclaimed_a (sole (release_at (tells_volume reclaimed_a ∷ []) (Some 4) l.1)).1 refl).0;
  other_version_is_refused = λ l. differ (is_version 3) (sole (release_at (read_after (finds_none key_c) taken_a) (Some 3) l.1)).0.version refl refl;
}
  where
    referring : IsReferring taken_a ref_c taken_a
    referring = record { same = same_a; refers = refl }

    none : MayRelease (mine (read_after (finds_none key_c) taken_a)) taken_a
    none = record { live = refl; reference = ref_c; uid = uid_c; refers = refl; known = refl; why = inl (inl ((refl, refl, tt), inl (refl, inl referring))) }

    since : MayRelease (mine (tells_claim d ∷ read_after (finds_none key_c) taken_a)) taken_a
    since = record { live = refl; reference = ref_c; uid = uid_c; refers = refl; known = refl; why = inl (inr (inl ((refl, refl, tt), inl (refl, inl referring)))) }

    other : MayRelease (mine (read_after (finds key_c (Claim other_c)) taken_a)) taken_a
    other = record {
      live = refl;
      reference = ref_c;
      uid = uid_c;
      refers = refl;
      known = refl;
      why =
          inl (inl ((refl, refl, λ e. differ (λ u. is_uid u uid_c) (sym e) refl refl), inl (refl, inl referring)));
    }

    reclaimed : MayRelease (mine (tells_both elsewhere_c reclaimed_a)) reclaimed_a
    reclaimed = record { live = refl; reference = ref_c; uid = uid_c; refers = refl; known = refl; why = inr (inl (refl, inl (record { claim = refl; named = not_none; other = b_is_not_a })), refl) }

    too_early : MayRelease (mine (tells_volume taken_a ∷ finds_none key_c ∷ [])) taken_a → ⊥
    too_early row = neither (λ h. not_get h.0.1 refl) (neither (λ h. h.1) (λ h. h)) (read_of (tells_volume taken_a ∷ finds_none key_c ∷ []) taken_a row (λ h. h))

    found : Read (finds key_c (Claim c)) taken_a → ⊥
    found r = r.live.2 (uid_in (read_after (finds key_c (Claim c)) taken_a) taken_a r.row)

    other_key : Read (finds_none key_d) taken_a → ⊥
    other_key r = differ (λ n. bytes_eq n (codes "d")) (ap (λ q. name_read (key_read q)) r.live.1 ∙ sym (ap name_of r.row.refers)) refl refl

    uid_too_late : MayRelease (mine (tells_volume taken_a ∷ finds_none key_c ∷ tells_volume a ∷ [])) taken_a → ⊥
    uid_too_late row = neither (λ h. not_get h.0.1 refl)
        (neither (λ h. differ is_none (sole (told_volumes (IsReferring taken_a row.reference) (mine (tells_volume a ∷ [])) h.1)).refers refl refl) (neither (λ h. h.1) (λ h. h)))
        (read_of (tells_volume taken_a ∷ finds_none key_c ∷ tells_volume a ∷ []) taken_a row (λ h. h))

    not_same : IsSameObject taken_a.meta earlier_a.meta → ⊥
    not_same s = differ (λ u. is_uid u (uid_of_serial 1)) (s.first ∙ sym s.second) refl refl

    after_other : MayRelease (mine (tells_volume taken_a ∷ finds_none key_c ∷ tells_volume earlier_a ∷ [])) taken_a → ⊥
    after_other row = neither (λ h. not_get h.0.1 refl)
        (neither (λ h. not_same (sole (told_volumes (IsReferring taken_a row.reference) (mine (tells_volume earlier_a ∷ [])) h.1)).same) (neither (λ h. h.1) (λ h. h)))
        (read_of (tells_volume taken_a ∷ finds_none key_c ∷ tells_volume earlier_a ∷ []) taken_a row (λ h. h))

    other_uid : Away (naming (codes "b") other_c) reclaimed_a → ⊥
    other_uid w = differ (λ u. is_uid u uid_c) (uid_in (tells_both (naming (codes "b") other_c) reclaimed_a) reclaimed_a w.row ∙ sym w.claim.claim) refl refl

-- Unbind

unbind_at : (xs : List Exchange) (new : VolumeData) (given : Option ℕ) → AtVolume (mine xs) new given (λ o. MayUnbind (mine xs) o new)
    → SomeOf (λ o. IsWrittenAt given new.meta.namespace new.meta.name o.meta × MayUnbind (mine xs) o new) (volumes_in (told_objects (mine xs)))
unbind_at xs new given h = volume_row (λ o. MayUnbind (mine xs) o new) (mine xs) new given h

unbinding : (xs : List Exchange) (o new : VolumeData) (row : MayUnbind (mine xs) o new) → SomeOf (IsElsewhere o.meta.name row.uid) (claims_in (told_objects (mine xs)))
unbinding xs o new row = told_claims (IsElsewhere o.meta.name row.uid) (mine xs) row.elsewhere

pub record Unbinds (x : ClaimData) (v new : VolumeData) (given : Option ℕ) : Type 0 where
  pub written : IsWrittenAt given new.meta.namespace new.meta.name v.meta
  pub row : MayUnbind (mine (tells_both x v)) v new
  pub claim : IsElsewhere v.meta.name row.uid x

unbind : (x : ClaimData) (v new : VolumeData) (given : Option ℕ) → AtVolume (mine (tells_both x v)) new given (λ o. MayUnbind (mine (tells_both x v)) o new) → Unbinds x v new given
unbind x v new given l = let o = sole (unbind_at (tells_both x v) new given l) in record { written = o.0; row = o.1; claim = sole (unbinding (tells_both x v) v new o.1) }

abbrev is_unreferred : VolumeData → Bool
is_unreferred v = is_none v.claim_ref

pub unbind_examples : UnbindExamples
unfolding unbound_volume
unbind_examples = record {
  unbinds_controllers_reference = (own_kind seats.Binder (tells_both elsewhere_c taken_a), inr (inl (refl, inl (record { version = refl; placed = refl; named = refl }, controllers))));
  unbinds_users_reference = (own_kind seats.Binder (tells_both elsewhere_c taken_prebound), inr (inl (refl, inl (record { version = refl; placed = refl; named = refl }, users))));
  unbinds_ended_is_refused = λ l. true≢false (unbind elsewhere_c failed_a (unbound_volume failed_a) (Some 4) l.1).row.live;
  unbinds_without_uid_is_refused = λ l. differ is_none (unbind elsewhere_c prebound_a (unbound_volume prebound_a) (Some 4) l.1).row.refers refl refl;
  unbinds_reclaimed_is_refused = λ l. true≢false (unbind elsewhere_c reclaimed_a (unbound_volume reclaimed_a) (Some 4) l.1).row.kept;
  unbinds_from_claim_without_volume_is_refused = λ l. (unbind c taken_a (unbound_volume taken_a) (Some 4) l.1).claim.named refl;
  unbinds_from_claim_of_this_volume_is_refused = λ l. (unbind (naming (codes "a") c) taken_a (unbound_volume taken_a) (Some 4) l.1).claim.other refl;
  unbinds_from_other_claim_is_refused = λ l. other_uid (unbind (naming (codes "b") other_c) taken_a (unbound_volume taken_a) (Some 4) l.1);
  unbinds_from_claim_never_told_is_refused =
      λ l. unbinding (tells_volume taken_a ∷ []) taken_a (unbound_volume taken_a) (sole (unbind_at (tells_volume taken_a ∷ []) (unbound_volume taken_a) (Some 4) l.1)).1;
  keeps_controllers_name_is_refused = λ l. differ (λ v. not (is_unreferred v)) (unbind elsewhere_c taken_a (with_reference (Some name_c) taken_a) (Some 4) l.1).row.change refl refl;
  drops_users_name_is_refused = λ l. differ is_unreferred (unbind elsewhere_c taken_prebound (with_reference None taken_prebound) (Some 3) l.1).row.change refl refl;
  unbinds_at_other_version_is_refused = λ l. differ (is_version 3) (unbind elsewhere_c taken_a (unbound_volume taken_a) (Some 3) l.1).written.version refl refl;
}
  where
    controllers : MayUnbind (mine (tells_both elsewhere_c taken_a)) taken_a (unbound_volume taken_a)
    controllers = record { live = refl; uid = uid_c; refers = refl; elsewhere = inl (refl, inl (record { claim = refl; named = not_none; other = b_is_not_a })); kept = refl; change = refl }

    users : MayUnbind (mine (tells_both elsewhere_c taken_prebound)) taken_prebound (with_reference (Some name_c) taken_prebound)
    users = record { live = refl; uid = uid_c; refers = refl; elsewhere = inl (refl, inl (record { claim = refl; named = not_none; other = b_is_not_a })); kept = refl; change = refl }

    other_uid : Unbinds (naming (codes "b") other_c) taken_a (unbound_volume taken_a) (Some 4) → ⊥
    other_uid u = differ (λ x. is_uid x uid_c) (u.row.refers ∙ sym u.claim.claim) refl refl

-- Lost

abbrev MayLoseAt : List Exchange → Modes → Option Amount → Option ℕ → Type 0
MayLoseAt xs modes got given = AtClaimKey (mine xs) key_c given (λ o. MayLose (mine xs) o modes got)

lose_at : (xs : List Exchange) (modes : Modes) (got : Option Amount) (given : Option ℕ) → MayLoseAt xs modes got given
    → SomeOf (λ o. IsWrittenAt given (codes "default") (codes "c") o.meta × MayLose (mine xs) o modes got) (claims_in (told_objects (mine xs)))
lose_at xs modes got given h = claim_status_row (λ o. MayLose (mine xs) o modes got) (mine xs) key_c given h

-- a row of a claim that names a volume
lost_read : (xs : List Exchange) (o : ClaimData) (row : MayLose (mine xs) o once (Some (amount 5))) → is_empty o.volume_name ≡ false → WasReadLost (mine xs) o
lost_read xs o row named = by row.why
  where
    by : (o.volume_name ≡ []) ⊎ WasReadLost (mine xs) o → WasReadLost (mine xs) o
    by (inl e) = absurd (true≢false (sym (ap is_empty e) ∙ named))
    by (inr h) = h

no_lost_read : (xs : List Exchange) (o : ClaimData) → has_get (mine xs) ≡ false → WasReadLost (mine xs) o → ⊥
no_lost_read xs o none h = never_read (volume_key o.volume_name) (IsNotCarrying o) (mine xs) none (after_tells (ToldClaim (IsCompletedVersion o))
    (TellsLive (volume_key o.volume_name) (IsNotCarrying o)) (mine xs) h)

abbrev reads_after : Exchange → ClaimData → List Exchange
reads_after x o = x ∷ tells_claim o ∷ []

lost_live : (x : Exchange) → WasReadLost (mine (reads_after x bound_c)) bound_c → TellsLive key_a (IsNotCarrying bound_c) (entry_of seats.Binder x)
lost_live x (inl h) = h.0
lost_live x (inr (inl h)) = absurd (not_get h.0.1 refl)
lost_live x (inr (inr h)) = absurd h

lost_by : (x : Exchange) → SomeOf (λ o. IsWrittenAt (Some 7) (codes "default") (codes "c") o.meta × MayLose (mine (reads_after x bound_c)) o once
    (Some (amount 5))) (bound_c ∷ []) → TellsLive key_a (IsNotCarrying bound_c) (entry_of seats.Binder x)
lost_by x h = lost_live x (lost_read (reads_after x bound_c) bound_c (sole h).1 refl)

pub lost_examples : LostExamples
lost_examples = record {
  loses_claim_without_volume = (
    own_kind seats.Binder (tells_claim nameless_c ∷ []),
    (refl, inl (refl, inl (record { version = refl; placed = refl; named = refl }, record { completed = refl; why = inl refl; same_modes = refl; same_amount = refl }))),
  );
  loses_after_reading_none = (own_kind seats.Binder (reads_after (finds_none key_a) bound_c), (refl, inr (inl (refl, inl (record { version = refl; placed = refl; named = refl }, none)))));
  loses_after_reading_other_uid = (
    own_kind seats.Binder (reads_after (finds key_a (Volume bound_for_other)) bound_c),
    (refl, inr (inl (refl, inl (record { version = refl; placed = refl; named = refl }, other)))),
  );
  loses_before_completion_is_refused = λ l. true≢false (sym (sole (lose_at (tells_claim (naming [] uncompleted_c) ∷ []) once (Some (amount 5)) (Some 7) l.1)).1.completed);
  loses_unread_is_refused = λ l. no_lost_read (tells_claim bound_c ∷ []) bound_c refl (lost_read (tells_claim bound_c ∷ []) bound_c
      (sole (lose_at (tells_claim bound_c ∷ []) once (Some (amount 5)) (Some 7) l.1)).1 refl);
  read_that_found_it_carrying_is_refused = λ l. carrying (lost_by (finds key_a (Volume bound_a)) (lose_at (reads_after (finds key_a (Volume bound_a)) bound_c) once (Some (amount 5)) (Some 7) l.1));
  read_that_found_it_free_is_refused = λ l. free (lost_by (finds key_a (Volume a)) (lose_at (reads_after (finds key_a (Volume a)) bound_c) once (Some (amount 5)) (Some 7) l.1));
  read_before_told_is_refused = λ l. too_early (sole (lose_at (tells_claim bound_c ∷ finds_none key_a ∷ []) once (Some (amount 5)) (Some 7) l.1)).1;
  read_before_told_completed_is_refused =
      λ l. neither (λ o. uncompleted o.1) (neither (λ o. true≢false (sym o.1.completed)) (λ h. h))
      (lose_at (tells_claim bound_c ∷ finds_none key_a ∷ tells_claim uncompleted_c ∷ []) once (Some (amount 5)) (Some 7) l.1);
  read_after_other_claim_is_refused = λ l. neither (λ o. after_other o.1) (neither (λ o. differ (is_version 7) o.0.version refl refl) (λ h. h))
      (lose_at (tells_claim bound_c ∷ finds_none key_a ∷ tells_claim earlier_c ∷ []) once (Some (amount 5)) (Some 7) l.1);
  read_of_other_key_is_refused = λ l. differ (λ q. bytes_eq (name_read (key_read q)) (codes "b")) (lost_by (finds_none key_b)
      (lose_at (reads_after (finds_none key_b) bound_c) once (Some (amount 5)) (Some 7) l.1)).1 refl refl;
  read_without_answer_is_refused = λ l. true≢false (sym (lost_by (unheard (finds_none key_a)) (lose_at (reads_after (unheard (finds_none key_a)) bound_c) once (Some (amount 5)) (Some 7) l.1)).0);
  absence_in_a_list_is_refused = λ l. not_get (lost_by (lists kinds.PersistentVolume [] 9)
      (lose_at (reads_after (lists kinds.PersistentVolume [] 9) bound_c) once (Some (amount 5)) (Some 7) l.1)).1 refl;
  other_modes_is_refused = λ l. differ (λ m. m.rox) (sole (lose_at (reads_after (finds_none key_a) bound_c) (record once { rox = true }) (Some (amount 5)) (Some 7) l.1)).1.same_modes refl refl;
  other_amount_is_refused = λ l. differ is_none (sole (lose_at (reads_after (finds_none key_a) bound_c) once None (Some 7) l.1)).1.same_amount refl refl;
  other_version_is_refused = λ l. differ (is_version 6) (sole (lose_at (reads_after (finds_none key_a) bound_c) once (Some (amount 5)) (Some 6) l.1)).0.version refl refl;
}
  where
    itself : IsCompletedVersion bound_c bound_c
    itself = record { same = record { uid = uid_c; first = refl; second = refl }; completed = refl }

    none : MayLose (mine (reads_after (finds_none key_a) bound_c)) bound_c once (Some (amount 5))
    none = record { completed = refl; why = inr (inl ((refl, refl, tt), inl (refl, inl itself))); same_modes = refl; same_amount = refl }

    other : MayLose (mine (reads_after (finds key_a (Volume bound_for_other)) bound_c)) bound_c once (Some (amount 5))
    other = record {
      completed = refl;
      why =
          inr (inl ((refl, refl, (uid_of_serial 9, refl, λ e. differ (λ u. is_uid u uid_c) e refl refl)), inl (refl, inl itself)));
      same_modes = refl;
      same_amount = refl;
    }

    carrying : TellsLive key_a (IsNotCarrying bound_c) (entry_of seats.Binder (finds key_a (Volume bound_a))) → ⊥
    carrying t = t.2.2 t.2.1

    free : TellsLive key_a (IsNotCarrying bound_c) (entry_of seats.Binder (finds key_a (Volume a))) → ⊥
    free t = differ is_none t.2.1 refl refl

    too_early : MayLose (mine (tells_claim bound_c ∷ finds_none key_a ∷ [])) bound_c once (Some (amount 5)) → ⊥
    too_early row = neither (λ h. not_get h.0.1 refl) (neither (λ h. h.1) (λ h. h)) (lost_read (tells_claim bound_c ∷ finds_none key_a ∷ []) bound_c row refl)

    uncompleted : MayLose (mine (tells_claim bound_c ∷ finds_none key_a ∷ tells_claim uncompleted_c ∷ [])) bound_c once (Some (amount 5)) → ⊥
    uncompleted row = neither (λ h. not_get h.0.1 refl)
        (neither (λ h. true≢false (sym (sole (told_claims (IsCompletedVersion bound_c) (mine (tells_claim uncompleted_c ∷ [])) h.1)).completed)) (neither (λ h. h.1) (λ h. h)))
        (lost_read (tells_claim bound_c ∷ finds_none key_a ∷ tells_claim uncompleted_c ∷ []) bound_c row refl)

    not_same : IsSameObject bound_c.meta earlier_c.meta → ⊥
    not_same s = differ (λ u. is_uid u uid_c) (s.first ∙ sym s.second) refl refl

    after_other : MayLose (mine (tells_claim bound_c ∷ finds_none key_a ∷ tells_claim earlier_c ∷ [])) bound_c once (Some (amount 5)) → ⊥
    after_other row = neither (λ h. not_get h.0.1 refl)
        (neither (λ h. not_same (sole (told_claims (IsCompletedVersion bound_c) (mine (tells_claim earlier_c ∷ [])) h.1)).same) (neither (λ h. h.1) (λ h. h)))
        (lost_read (tells_claim bound_c ∷ finds_none key_a ∷ tells_claim earlier_c ∷ []) bound_c row refl)
