-- The protection controllers' rows, computed.
use Rattle.std.proofs.Common.{sym, refl, subst, inl, inr, true≢false, ◌∙◌}
use Rattle.std.specs.Prelude.{ℕ, ◌≡◌, Bool, not, List, [], ◌∷◌, Option, Some, None, is_none, codes, bytes_eq}
use Rattle.kube_parts.specs.declared.parts.Kind.TheVariants as kinds
use Rattle.kube_objects.specs.declared.objects.Meta.{Meta}
use Rattle.kube_objects.specs.declared.objects.Claim.{Claim as ClaimData}
use Rattle.kube_objects.specs.declared.objects.Volume.{Volume as VolumeData}
use Rattle.kube_objects.specs.Bindings.{has_name, pv_protection, pvc_protection, is_delete, is_empty, is_uid}
use Rattle.call_types.specs.declared.entry.Entry.{Entry}
use Rattle.call_types.specs.declared.request.SeatKind.TheVariants as seats
use Rattle.binder_model.specs.At.{IsWrittenAt, IsSameObject}
use Rattle.binder_model.specs.Told.{SomeOf, ToldClaim, After}
use Rattle.binder_model.specs.GuardLicence.{MayUnguardVolume, MayUnguardClaim, IsDeletingVersion, TellsUnused}
use Rattle.binder_model.specs.Licence.{AtVolume, AtClaim, GuardsVolume, GuardsClaim}
use Rattle.model_examples.specs.Samples.{Exchange, entry_of, seat_of, unheard, lists, lists_in, tells_volume, tells_claim, a, c, uid_c, p, waiting_p, leaving_bound_a}
use Rattle.model_examples.specs.ProtectionRows.{
  lists_claims,
  own_mark,
  volume_with,
  claim_with,
  AddVolumeGuardExamples,
  bare_a,
  guarded_a,
  leaving_bare_a,
  leaving_guarded_a,
  guarded_and_changed,
  AddClaimGuardExamples,
  bare_c,
  guarded_c,
  leaving_bare_c,
  leaving_guarded_c,
  guarded_and_named,
  DropVolumeGuardExamples,
  leaving_a,
  loose_a,
  DropClaimGuardExamples,
  leaving_c,
  loose_c,
  pods,
  other_p,
  foreign_p,
  earlier_leaving_c,
  staying_c,
  watches_it_go,
}
use Rattle.model_examples.proofs.Tellings.{differ, neither, sole, own_kind, volume_row, claim_row, volumes_in, claims_in, told_claims, told_objects, is_version}

abbrev marked : Meta → Bool
marked m = has_name own_mark m.finalizers

-- volumes

abbrev of_volumes : List Exchange → List Entry
of_volumes xs = seat_of seats.VolumeProtect xs

add_volume : (xs : List Exchange) (new : VolumeData) (given : Option ℕ) → AtVolume (of_volumes xs) new given (λ o. GuardsVolume o new)
    → SomeOf (λ o. IsWrittenAt given new.meta.namespace new.meta.name o.meta × GuardsVolume o new) (volumes_in (told_objects (of_volumes xs)))
add_volume xs new given h = volume_row (λ o. GuardsVolume o new) (of_volumes xs) new given h

pub add_volume_guard_examples : AddVolumeGuardExamples
add_volume_guard_examples = record {
  adds_guard = (
    own_kind seats.VolumeProtect (tells_volume bare_a ∷ []),
    inl (refl, inl (record { version = refl; placed = refl; named = refl }, record { guard = record { staying = refl; lacks = refl; change = refl }; rest = refl })),
  );
  deleting_volume_is_refused = λ l. true≢false (sole (add_volume (tells_volume leaving_bare_a ∷ []) leaving_guarded_a (Some 3) l.1)).1.guard.staying;
  guarded_volume_is_refused = λ l. true≢false (sole (add_volume (tells_volume a ∷ []) (volume_with (pv_protection ∷ pv_protection ∷ []) a) (Some 3) l.1)).1.guard.lacks;
  drops_another_finalizer_is_refused = λ l. differ (λ m. not (marked m)) (sole (add_volume (tells_volume bare_a ∷ []) a (Some 3) l.1)).1.guard.change refl refl;
  changes_policy_too_is_refused = λ l. differ (λ v. is_delete v.policy) (sole (add_volume (tells_volume bare_a ∷ []) guarded_and_changed (Some 3) l.1)).1.rest refl refl;
  volume_never_told_is_refused = λ l. add_volume [] guarded_a (Some 3) l.1;
  other_version_is_refused = λ l. differ (is_version 2) (sole (add_volume (tells_volume bare_a ∷ []) guarded_a (Some 2) l.1)).0.version refl refl;
}

drop_volume : (xs : List Exchange) (new : VolumeData) (given : Option ℕ) → AtVolume (of_volumes xs) new given (λ o. MayUnguardVolume o new)
    → SomeOf (λ o. IsWrittenAt given new.meta.namespace new.meta.name o.meta × MayUnguardVolume o new) (volumes_in (told_objects (of_volumes xs)))
drop_volume xs new given h = volume_row (λ o. MayUnguardVolume o new) (of_volumes xs) new given h

pub drop_volume_guard_examples : DropVolumeGuardExamples
drop_volume_guard_examples = record {
  drops_guard = (
    own_kind seats.VolumeProtect (tells_volume leaving_a ∷ []),
    inl (refl, inl (record { version = refl; placed = refl; named = refl }, record { deleting = refl; loose = refl; change = refl })),
  );
  staying_volume_is_refused = λ l. true≢false (sym (sole (drop_volume (tells_volume a ∷ []) (volume_with [] a) (Some 3) l.1)).1.deleting);
  bound_volume_is_refused = λ l. true≢false (sole (drop_volume (tells_volume leaving_bound_a ∷ []) (volume_with [] leaving_bound_a) (Some 5) l.1)).1.loose;
  drops_another_finalizer_is_refused = λ l. differ (λ v. not (marked v.meta)) (sole (drop_volume (tells_volume leaving_a ∷ []) (volume_with [] leaving_a) (Some 3) l.1)).1.change refl refl;
  volume_never_told_is_refused = λ l. drop_volume [] loose_a (Some 3) l.1;
  other_version_is_refused = λ l. differ (is_version 2) (sole (drop_volume (tells_volume leaving_a ∷ []) loose_a (Some 2) l.1)).0.version refl refl;
  no_version_is_refused = λ l. differ is_none (sole (drop_volume (tells_volume leaving_a ∷ []) loose_a None l.1)).0.version refl refl;
}

-- claims

abbrev of_claims : List Exchange → List Entry
of_claims xs = seat_of seats.ClaimProtect xs

add_claim : (xs : List Exchange) (new : ClaimData) (given : Option ℕ) → AtClaim (of_claims xs) new given (λ o. GuardsClaim o new)
    → SomeOf (λ o. IsWrittenAt given new.meta.namespace new.meta.name o.meta × GuardsClaim o new) (claims_in (told_objects (of_claims xs)))
add_claim xs new given h = claim_row (λ o. GuardsClaim o new) (of_claims xs) new given h

pub add_claim_guard_examples : AddClaimGuardExamples
add_claim_guard_examples = record {
  adds_guard = (
    own_kind seats.ClaimProtect (tells_claim bare_c ∷ []),
    inl (refl, inl (record { version = refl; placed = refl; named = refl }, record { guard = record { staying = refl; lacks = refl; change = refl }; rest = refl })),
  );
  deleting_claim_is_refused = λ l. true≢false (sole (add_claim (tells_claim leaving_bare_c ∷ []) leaving_guarded_c (Some 2) l.1)).1.guard.staying;
  guarded_claim_is_refused = λ l. true≢false (sole (add_claim (tells_claim c ∷ []) (claim_with (pvc_protection ∷ pvc_protection ∷ []) c) (Some 2) l.1)).1.guard.lacks;
  drops_another_finalizer_is_refused = λ l. differ (λ m. not (marked m)) (sole (add_claim (tells_claim bare_c ∷ []) c (Some 2) l.1)).1.guard.change refl refl;
  names_a_volume_too_is_refused = λ l. differ (λ x. not (is_empty x.volume_name)) (sole (add_claim (tells_claim bare_c ∷ []) guarded_and_named (Some 2) l.1)).1.rest refl refl;
  claim_never_told_is_refused = λ l. add_claim [] guarded_c (Some 2) l.1;
  other_version_is_refused = λ l. differ (is_version 1) (sole (add_claim (tells_claim bare_c ∷ []) guarded_c (Some 1) l.1)).0.version refl refl;
}

drop_claim : (xs : List Exchange) (new : ClaimData) (given : Option ℕ) → AtClaim (of_claims xs) new given (λ o. MayUnguardClaim (of_claims xs) o new)
    → SomeOf (λ o. IsWrittenAt given new.meta.namespace new.meta.name o.meta × MayUnguardClaim (of_claims xs) o new) (claims_in (told_objects (of_claims xs)))
drop_claim xs new given h = claim_row (λ o. MayUnguardClaim (of_claims xs) o new) (of_claims xs) new given h

-- one exchange after the claim was told deleting
abbrev after_leaving : Exchange → List Exchange
after_leaving x = x ∷ tells_claim leaving_c ∷ []

abbrev WasUnused : List Exchange → Type 0
WasUnused xs = After (ToldClaim (IsDeletingVersion leaving_c)) (TellsUnused leaving_c) (of_claims xs)

unused : (x : Exchange) → WasUnused (after_leaving x) → TellsUnused leaving_c (entry_of seats.ClaimProtect x)
unused x (inl h) = h.0
unused x (inr (inl h)) = absurd h.0.1
unused x (inr (inr h)) = absurd h

drops : (x : Exchange) → AtClaim (of_claims (after_leaving x)) loose_c (Some 6) (λ o. MayUnguardClaim (of_claims (after_leaving x)) o loose_c)
    → claims_in (told_objects (of_claims (after_leaving x))) ≡ leaving_c ∷ [] → TellsUnused leaving_c (entry_of seats.ClaimProtect x)
drops x l e = unused x (sole
    (subst (λ os. SomeOf (λ o. IsWrittenAt (Some 6) (codes "default") (codes "c") o.meta × MayUnguardClaim (of_claims (after_leaving x)) o loose_c)
    os) e (drop_claim (after_leaving x) loose_c (Some 6) l))).1.unused

pub drop_claim_guard_examples : DropClaimGuardExamples
drop_claim_guard_examples = record {
  drops_guard_where_no_pod_is = (
    own_kind seats.ClaimProtect (after_leaving (pods [])),
    inr
        (inl (refl, inl (record { version = refl; placed = refl; named = refl }, record { deleting = refl; unused = inl ((refl, (refl, refl)), inl (refl, inl itself)); change = refl }))),
  );
  drops_guard_beside_waiting_pod = (
    own_kind seats.ClaimProtect (after_leaving (pods (waiting_p ∷ []))),
    inr
        (inl (refl, inl (record { version = refl; placed = refl; named = refl }, record { deleting = refl; unused = inl ((refl, (refl, refl)), inl (refl, inl itself)); change = refl }))),
  );
  drops_guard_beside_pod_of_other_claim = (
    own_kind seats.ClaimProtect (after_leaving (pods (other_p ∷ []))),
    inr (inl (refl, inl (record { version = refl; placed = refl; named = refl }, record { deleting = refl; unused = inl ((refl, (refl, refl)), inl (refl, inl itself)); change = refl }))),
  );
  drops_guard_beside_pod_of_other_namespace = (
    own_kind seats.ClaimProtect (after_leaving (pods (foreign_p ∷ []))),
    inr (inl (refl, inl (record { version = refl; placed = refl; named = refl }, record { deleting = refl; unused = inl ((refl, (refl, refl)), inl (refl, inl itself)); change = refl }))),
  );
  pod_that_uses_it_is_refused = λ l. true≢false (drops (pods (waiting_p ∷ p ∷ [])) l.1 refl).1.1;
  staying_claim_is_refused = λ l. neither (λ o. differ (is_version 2) o.0.version refl refl) (neither (λ o. true≢false (sym o.1.deleting)) (λ h. h))
      (drop_claim (pods [] ∷ tells_claim leaving_c ∷ tells_claim staying_c ∷ []) bare_c (Some 2) l.1);
  no_list_is_refused = λ l. neither (λ h. h.0.1) (λ h. h) (sole (drop_claim (tells_claim leaving_c ∷ []) loose_c (Some 6) l.1)).1.unused;
  list_of_all_pods_is_refused = λ l. (drops (lists kinds.Pod [] 9) l.1 refl).1;
  list_of_other_namespace_is_refused = λ l. differ (λ n. bytes_eq n (codes "x")) (drops (lists_in (codes "x") [] 9) l.1 refl).1.0 refl refl;
  list_of_claims_is_refused = λ l. (drops lists_claims l.1 refl).1;
  watched_pods_alone_is_refused = λ l. (drops watches_it_go l.1 refl).1;
  answer_lost_is_refused = λ l. true≢false (sym (drops (unheard (pods [])) l.1 refl).0);
  list_before_told_is_refused = λ l. neither (λ h. h.0.1) (neither (λ h. h.1) (λ h. h)) (sole (drop_claim (tells_claim leaving_c ∷ pods [] ∷ []) loose_c (Some 6) l.1)).1.unused;
  list_before_told_deleting_is_refused = λ l. neither (λ o. not_deleting o.1.unused) (neither (λ o. differ (is_version 6) o.0.version refl refl)
      (λ h. h)) (drop_claim (tells_claim leaving_c ∷ pods [] ∷ tells_claim staying_c ∷ []) loose_c (Some 6) l.1);
  list_after_other_claim_is_refused = λ l. neither (λ o. after_other o.1.unused) (neither (λ o. differ (is_version 6) o.0.version refl refl)
      (λ h. h)) (drop_claim (tells_claim leaving_c ∷ pods [] ∷ tells_claim earlier_leaving_c ∷ []) loose_c (Some 6) l.1);
  drops_another_finalizer_is_refused = λ l. differ (λ x. not (marked x.meta)) (sole (drop_claim (after_leaving (pods [])) (claim_with [] leaving_c) (Some 6) l.1)).1.change refl refl;
  other_version_is_refused = λ l. differ (is_version 5) (sole (drop_claim (after_leaving (pods [])) loose_c (Some 5) l.1)).0.version refl refl;
}
  where
    itself : IsDeletingVersion leaving_c leaving_c
    itself = record { same = record { uid = uid_c; first = refl; second = refl }; deleting = refl }

    not_deleting : WasUnused (tells_claim leaving_c ∷ pods [] ∷ tells_claim staying_c ∷ []) → ⊥
    not_deleting w = neither (λ h. h.0.1) (neither
        (λ h. true≢false (sym (sole (told_claims (IsDeletingVersion leaving_c) (of_claims (tells_claim staying_c ∷ [])) h.1)).deleting)) (neither (λ h. h.0.1) (λ h. h))) w

    not_same : IsSameObject leaving_c.meta earlier_leaving_c.meta → ⊥
    not_same s = differ (λ u. is_uid u uid_c) (s.first ∙ sym s.second) refl refl

    after_other : WasUnused (tells_claim leaving_c ∷ pods [] ∷ tells_claim earlier_leaving_c ∷ []) → ⊥
    after_other w = neither (λ h. h.0.1) (neither
        (λ h. not_same (sole (told_claims (IsDeletingVersion leaving_c) (of_claims (tells_claim earlier_leaving_c ∷ [])) h.1)).same) (neither (λ h. h.0.1) (λ h. h))) w
