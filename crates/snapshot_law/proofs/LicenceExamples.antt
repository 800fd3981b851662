-- What a worker may ask, computed.
use Rattle.std.specs.Prelude.{ℕ, ◌≡◌, ◌==◌, ◌⊎◌, Bool, false, Option, Some, None, codes, bytes_eq, is_some}
use Rattle.std.proofs.Common.{refl, sym, ap, inl, inr, arith, true≢false}
use Rattle.kube_objects.specs.Bindings.{is_delete, is_empty}
use Rattle.snapshot_bind.specs.Licences.{SnapLicensed}
use Rattle.snapshot_law.specs.LicenceExamples.{BindContentLicences, BindSnapshotLicences, CutLicences, EraseLicences, LeaveLicences, LookLicences}

-- what holds of some row of one list that told one row holds of that row
pub sole : {A : Type 0} → (A ⊎ ⊥) ⊎ ⊥ → A
sole (inl (inl a)) = a
sole (inl (inr none)) = absurd none
sole (inr none) = absurd none

-- and of one that told none, of nothing
pub nothing : ⊥ ⊎ ⊥ → ⊥
nothing (inl none) = none
nothing (inr none) = none

-- the UID is this one
abbrev pub is_this : ℕ → Option ℕ → Bool
is_this n None = false
is_this n (Some m) = m == n

pub look_licences : LookLicences
unfolding SnapLicensed
look_licences = record {
  list = tt;
  of_a_bound_content = inl (inl (record { placed = refl; named = refl; bound = tt }));
  of_a_free_content = λ l. (sole l).bound;
  of_no_content = nothing;
  of_another_key = λ l. true≢false (ap (bytes_eq (codes "ns")) (sole l).placed);
  a_users_ask = λ l. l;
}

pub cut_licences : CutLicences
unfolding SnapLicensed
cut_licences = record {
  waits = inl (inl (record { placed = refl; named = refl; own = refl; waits = record { stays = refl; unbound = refl } }));
  other_uid = λ l. let e : 1 ≡ 2 = (sole l).own in omega (arith, e);
  is_bound = λ l. true≢false (sym (ap is_empty (sole l).waits.unbound));
  is_deleting = λ l. true≢false (sole l).waits.stays;
  other_name = λ l. true≢false (ap (bytes_eq (codes "s")) (sole l).named);
  left = nothing;
}

pub bind_content_licences : BindContentLicences
unfolding SnapLicensed
bind_content_licences = record {
  free = inl (inl (record { content = record { named = refl; at = refl }; free = refl; owner = inl (inl (record { own = refl; placed = refl; named = refl })) }));
  other_uid = λ l. let e : 1 ≡ 3 = (sole (sole l).owner).own in omega (arith, e);
  for_another = λ l. true≢false (ap (bytes_eq (codes "t")) (sole (sole l).owner).named);
  has_uid_already = λ l. true≢false (ap is_some (sole l).free);
  other_version = λ l. let e : 2 ≡ 3 = (sole l).content.at in omega (arith, e);
}

pub bind_snapshot_licences : BindSnapshotLicences
unfolding SnapLicensed
bind_snapshot_licences = record {
  has_its_uid = inl (inl (record {
    snapshot = record { placed = refl; named = refl; at = refl };
    waits = record { stays = refl; unbound = refl };
    bound = inl (inl (record { named = refl; own = refl }));
  }));
  has_none = λ l. true≢false (sym (ap is_some (sole (sole l).bound).own));
  of_another_uid = λ l. true≢false (ap (is_this 1) (sole (sole l).bound).own);
  is_bound = λ l. true≢false (sym (ap is_empty (sole l).waits.unbound));
  other_version = λ l. let e : 1 ≡ 2 = (sole l).snapshot.at in omega (arith, e);
}

pub leave_licences : LeaveLicences
unfolding SnapLicensed
leave_licences = record {
  deleted = inl (inl (record { snapshot = record { placed = refl; named = refl; at = refl }; leaves = refl }));
  not_deleted = λ l. true≢false (sym (sole l).leaves);
  deleted_later = λ l. let e : 4 ≡ 3 = (sole l).snapshot.at in omega (arith, e);
  erased = inl (inl (record { content = record { named = refl; at = refl }; bound = tt; gone = refl }));
  with_data = λ l. true≢false (sole l).gone;
}

pub erase_licences : EraseLicences
unfolding SnapLicensed
erase_licences = record {
  gone = inl (inl (inl (record { content = record { named = refl; at = refl }; bound = tt; policy = refl; stands = refl; lacks = (refl, refl) })));
  of_another_uid = inl (inl (inl (record {
    content = record { named = refl; at = refl };
    bound = tt;
    policy = refl;
    stands = refl;
    lacks = (refl, refl, λ same. let e : 7 ≡ 1 = same in omega (arith, e));
  })));
  stands_still = λ l. (first l).lacks.2 refl;
  without_a_look = nothing;
  by_an_earlier_look = swapped;
  of_another_ask = λ l. (first l).lacks;
  for_want_of_a_source = λ l. (first l).lacks;
  retained = λ l. true≢false (sym (ap is_delete (first l).policy));
  unbound = λ l. (first l).bound;
  erased_before = λ l. true≢false (sym (first l).stands);
}
  where
    -- of two calls the older told one content
    first : {A : Type 0} → ((A ⊎ ⊥) ⊎ ⊥) ⊎ (⊥ ⊎ ⊥) → A
    first (inl some) = sole some
    first (inr none) = absurd (nothing none)

    -- of two calls the newer told one, and the older none
    swapped : (⊥ ⊎ ⊥) ⊎ (⊥ ⊎ ⊥) → ⊥
    swapped (inl none) = nothing none
    swapped (inr none) = nothing none
