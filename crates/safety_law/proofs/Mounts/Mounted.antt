-- No mounted claim leaves: the fourth part.
use Rattle.std.proofs.Common.{sym, refl, subst, inl, inr, ap, ◌∙◌, true≢false, arith}
use Rattle.std.proofs.lemmas.Bool.Decides.{nat_tests}
use Rattle.std.specs.Prelude.{ℕ, ◌≡◌, Bool, true, false, ◌&&◌, ◌||◌, List, [], ◌∷◌, Option, Some, None, is_some}
use Rattle.std.specs.List.{list_any}
use Rattle.kube_parts.specs.declared.uid.Uid.{Uid}
use Rattle.kube_objects.specs.declared.objects.Claim.{Claim as ClaimData}
use Rattle.kube_objects.specs.declared.objects.Object.{Object}
use Rattle.kube_objects.specs.declared.objects.Object.TheVariants.{Claim}
use Rattle.kube_objects.specs.Keys.{key_of, row_at}
use Rattle.kube_objects.specs.Bindings.{has_name, pvc_protection, is_deleting, is_protected_claim}
use Rattle.kube_objects.proofs.KeyOrder.{row_at_key}
use Rattle.call_types.specs.declared.entry.Entry.{Entry}
use Rattle.call_types.specs.declared.setup.Setup.{Setup}
use Rattle.binder_model.specs.Store.{leaves}
use Rattle.binder_model.specs.Devices.{Devices, MountAt}
use Rattle.binder_model.specs.Same.{same_uid}
use Rattle.binder_model.specs.Safe.{is_mounted, KeepsMounted}
use Rattle.binder_model.specs.World.{world}
use Rattle.binder_model.specs.Run.{Run}
use Rattle.safety_law.specs.Invariant.Writes.{IsLeaving}
use Rattle.safety_law.specs.Invariant.DeviceMoves.{MountIn}
use Rattle.safety_law.specs.Invariant.Was.{Made}
use Rattle.safety_law.proofs.Invariant.Came.{claim_came, row_was}
use Rattle.safety_law.specs.Invariant.Good.{Good}
use Rattle.safety_law.proofs.Invariant.Known.{invariant_of}
use Rattle.safety_law.specs.Mounts.Mounts.{UidIn, Mountless, IsGoing, LooseMayGo}
use Rattle.safety_law.proofs.Mounts.Loose.{loose, step_going}
use Rattle.std.proofs.lemmas.Option.{none-some}
use Rattle.safety_law.proofs.Invariant.Objects.{claim_keyed, some_claim}
use Rattle.safety_law.proofs.Invariant.Tests.{known_uid}
use Rattle.model_laws.specs.Stood.{Stood}

-- what leaves has no finalizers
unguarded_claim : (c : ClaimData) → leaves (Claim c) ≡ true → is_protected_claim c ≡ false
unfolding leaves
unguarded_claim c l = by c.meta.finalizers refl
  where
    no_and : {G : Type 0} (b : Bool) → (b && false) ≡ true → G
    no_and true e = absurd (true≢false (sym e))
    no_and false e = absurd (true≢false (sym e))

    by : (fs : List (List ℕ)) → c.meta.finalizers ≡ fs → has_name pvc_protection c.meta.finalizers ≡ false
    by [] e = rw e refl
    by (f ∷ fs) e = let none : (is_deleting c.meta && false) ≡ true = rw e at l in no_and (is_deleting c.meta) none

uid_of_same : (a b : Uid) → same_uid a b ≡ true → b ≡ a
uid_of_same a b e = let n : b.0 ≡ a.0 = grind (arith, nat_tests) in ap (λ (k : ℕ). record { 0 = k }) n

uids_in : (u : Uid) (us : List Uid) → list_any (same_uid u) us ≡ true → UidIn u us
uids_in u [] e = absurd (true≢false (sym e))
uids_in u (x ∷ xs) e = by (same_uid u x) refl e (uids_in u xs)
  where
    by : (b : Bool) → same_uid u x ≡ b → (b || list_any (same_uid u) xs) ≡ true → (list_any (same_uid u) xs ≡ true → UidIn u xs) → UidIn u (x ∷ xs)
    by true t e f = inl (uid_of_same u x t)
    by false t e f = inr (f e)

-- a mount that has the UID
record HasMount (ms : List MountAt) (u : Uid) : Type 0 where
  mount : MountAt
  is_in : MountIn mount ms
  has : UidIn u mount.row.claims

mount_of : (u : Uid) (ms : List MountAt) → list_any (λ m. list_any (same_uid u) m.row.claims) ms ≡ true → HasMount ms u
mount_of u [] e = absurd (true≢false (sym e))
mount_of u (m ∷ ms) e = by (list_any (same_uid u) m.row.claims) refl e (mount_of u ms)
  where
    by : (b : Bool) → list_any (same_uid u) m.row.claims ≡ b → (b || list_any (λ x. list_any (same_uid u) x.row.claims) ms) ≡ true
        → (list_any (λ x. list_any (same_uid u) x.row.claims) ms ≡ true → HasMount ms u) → HasMount (m ∷ ms) u
    by true t e f = record { mount = m; is_in = inl refl; has = uids_in u m.row.claims t }
    by false t e f = let r = f e in record { mount = r.mount; is_in = inr r.is_in; has = r.has }

mounted_uid : (d : Devices) (c : ClaimData) (u : Uid) → c.meta.uid ≡ Some u → is_mounted d c ≡ true → HasMount d.mounts u
mounted_uid d c u known is = mount_of u d.mounts (let t : list_any (λ m. list_any (same_uid u) m.row.claims) d.mounts ≡ true = rw known at is in t)

pub mounts_kept : (setup : Setup) (e : Entry) (past : List Entry) → Good setup (e ∷ past) → Run setup (e ∷ past) → Mountless setup
    → LooseMayGo setup [] → KeepsMounted (world setup past) (world setup (e ∷ past)).store.rows
mounts_kept setup e past g run start first key c is mounted = by (row_at key (world setup (e ∷ past)).store.rows) refl
  where
    -- the claim that left may go, so it was not mounted
    gone : (u : Uid) → c.meta.uid ≡ Some u → IsGoing setup past u → ⊥
    gone u known i = let m = mounted_uid (world setup past).devices c u known mounted in i.go.unmounted m.mount m.is_in m.has

    left : (l : ClaimData) → Made setup past (Claim l) → key_of (Claim l) ≡ key → IsLeaving e.request (Claim l) → ⊥
    left l made at leaving = elim (claim_came setup past l made) [
      | inl began ↦ none-some _ (sym began.first.free ∙ ap (λ j. row_at j (world setup past).store.rows) at ∙ is)
      | inr came ↦
          let there : row_at key (world setup past).store.rows ≡ Some (Claim came.old) = ap (λ j. row_at j (world setup past).store.rows) (sym at) ∙ came.next.there in
          let old : came.old ≡ c = some_claim came.old c (sym there ∙ is) in
          let was : Stood setup past (Claim came.old) = row_was setup past key (Claim came.old) there in
          let u = known_uid came.old.meta.uid ((invariant_of setup past g.0).has (Claim came.old) was) in
          let known : c.meta.uid ≡ Some u.0 = ap (λ (x : ClaimData). x.meta.uid) (sym old) ∙ u.1 in
          gone u.0 known (elim (came.step.loose (unguarded_claim l leaving)) [
            | inl before ↦ loose setup past g.0 run.0 start first key came.old u.0 there before u.1
            | inr un ↦ step_going setup past g.0 run.0 start came.old u.0 was u.1 un
          ])
    ]

    by : (x : Option Object) → row_at key (world setup (e ∷ past)).store.rows ≡ x → is_some x ≡ true
    by (Some o) now = refl
    by None now =
        let h = g.1.left key (Claim c) is now in
        let l = claim_keyed h.last c (row_at_key key (Claim c) (world setup past).store.rows is ∙ sym h.key) in
        absurd (left l.0 (subst (Made setup past) l.1 h.written.write) (sym (ap key_of l.1) ∙ h.key) (subst (IsLeaving e.request) l.1 h.leaving))
