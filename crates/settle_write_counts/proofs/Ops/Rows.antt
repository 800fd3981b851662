-- What each write of ops does to the volumes that are to be made and to be deleted.
use Rattle.std.proofs.Common.{◌≡◌, ◌≢◌, ◌∙◌, ◌⊎◌, ℕ, ◌+◌, ◌≤◌, List, Bool, true, false, true≢false, Option, Some, None, inl, inr, refl, sym, ap, subst, arith, if◌then◌else◌}
use Rattle.std.specs.Prelude.{not, ◌||◌}
use Rattle.kube_objects.specs.declared.key.Key.{Key}
use Rattle.kube_parts.specs.declared.parts.VolumePhase.TheVariants as phases
use Rattle.kube_parts.specs.declared.uid.Uid.{Uid}
use Rattle.kube_objects.specs.declared.objects.Class.{Class as ClassData}
use Rattle.kube_objects.specs.declared.objects.Claim.{Claim as ClaimData}
use Rattle.kube_objects.specs.declared.objects.DataId.{DataId}
use Rattle.kube_objects.specs.declared.objects.Volume.{Volume as VolumeData}
use Rattle.kube_objects.specs.declared.objects.Object.{Object}
use Rattle.kube_objects.specs.declared.objects.Object.TheVariants.{Class, Node, Volume, Claim, Pod}
use Rattle.kube_objects.specs.Bindings.{is_deleting, is_ended}
use Rattle.kube_objects.specs.Keys.{AreRows, key_of, put_row, row_at, same_key, without_row}
use Rattle.kube_objects.proofs.KeyOrder.{row_at-put_row, row_at-put_row_other, row_at-without_row_other}
use Rattle.kube_objects.proofs.SameKeys.{key_tells, same_key-Decides}
use Rattle.call_types.specs.declared.request.NewStatus.TheVariants as statuses
use Rattle.call_types.specs.declared.request.SeatKind.{SeatKind}
use Rattle.binder_model.specs.Answers.{with_status}
use Rattle.binder_model.specs.ObjectKeys.{volume_key}
use Rattle.binder_model.specs.Provisioning.{data_name, provisioned_volume}
use Rattle.binder_model.specs.Store.{State, admitted_object, at_version, class_name, created_object, default_class, marked_object, updated_object, with_meta, with_status_of, without_status}
use Rattle.model_laws.proofs.Lists.{IsIn, one}
use Rattle.safety_law.specs.Invariant.Writes.{IsCreate, IsMark, IsStatus, IsUpdate}
use Rattle.settle_measure.specs.Left.Measure.{total, unless}
use Rattle.settle_measure.proofs.Left.Others.{unless_less}
use Rattle.settle_measure.proofs.Left.Sums.{gone_falls, new_falls, none_paid, none_pays, one_pays, paid_at, put_falls, stands}
use Rattle.settle_write_counts.proofs.Rounds.Nodes.{IsMoved}
use Rattle.settle_write_counts.specs.Ops.Ops.{is_open, ops_left, to_make}

abbrev pub sum : List Object → ℕ
sum rows = total (ops_left rows) rows

-- ---- volumes that have not ended

-- where such a volume stands, one stands after it
abbrev StayOpen : List Object → List Object → Type 0
StayOpen rows after = (k : Key) → is_open (row_at k rows) ≡ true → is_open (row_at k after) ≡ true

put_open : (o : Object) (rows : List Object) → (is_open (row_at (key_of o) rows) ≡ true → is_open (Some o) ≡ true) → StayOpen rows (put_row o rows)
put_open o rows here k e = by (key_tells (key_of o) k)
  where
    by : (key_of o ≡ k) ⊎ (key_of o ≢ k) → is_open (row_at k (put_row o rows)) ≡ true
    by (inl is) = ap (λ j. is_open (row_at j (put_row o rows))) (sym is) ∙ (ap is_open (row_at-put_row o rows) ∙ here (ap (λ j. is_open (row_at j rows)) is ∙ e))
    by (inr other) = ap is_open (row_at-put_row_other k o rows other) ∙ e

gone_open : (k : Key) (rows : List Object) → is_open (row_at k rows) ≡ false → StayOpen rows (without_row k rows)
gone_open k rows closed j e = by (key_tells k j)
  where
    by : (k ≡ j) ⊎ (k ≢ j) → is_open (row_at j (without_row k rows)) ≡ true
    by (inl is) = absurd (true≢false (sym e ∙ (ap (λ i. is_open (row_at i rows)) (sym is) ∙ closed)))
    by (inr other) = ap is_open (row_at-without_row_other k j rows other) ∙ e

-- then no object has more to be done for it
less : (rows after : List Object) → StayOpen rows after → (o : Object) → ops_left after o ≤ ops_left rows o
less rows after stay (Class x) = omega arith
less rows after stay (Node x) = omega arith
less rows after stay (Volume v) = omega arith
less rows after stay (Pod p) = omega arith
less rows after stay (Claim c) = by c.meta.uid
  where
    by : (u : Option Uid) → to_make after u ≤ to_make rows u
    by None = omega arith
    by (Some uid) = unless_less (is_open (row_at (volume_key (data_name uid)) rows)) (is_open (row_at (volume_key (data_name uid)) after)) 1 (stay (volume_key (data_name uid)))

-- ---- an object is written over another that is no such volume, or leaves

module _ (rows : List Object) (order : AreRows rows) (o old : Object) (there : row_at (key_of o) rows ≡ Some old) (closed : is_open (Some old) ≡ false) where
  open_put : StayOpen rows (put_row o rows)
  open_put = put_open o rows (λ e. absurd (true≢false (sym e ∙ (ap is_open there ∙ closed))))

  put_over : sum (put_row o rows) + ops_left rows old ≤ sum rows + ops_left (put_row o rows) o
  put_over =
      let h = put_falls (ops_left rows) (ops_left (put_row o rows)) none_paid o old rows order there (λ x i other. let l = less rows (put_row o rows) open_put x in omega (arith, l)) in
      let z = none_pays rows in
      omega (arith, h, z)

  took_over : sum (without_row (key_of o) rows) + ops_left rows old ≤ sum rows
  took_over =
      let stay = gone_open (key_of o) rows (ap is_open there ∙ closed) in
      let h = gone_falls (ops_left rows) (ops_left (without_row (key_of o) rows)) none_paid (key_of o) old rows order there
      (λ x i other. let l = less rows (without_row (key_of o) rows) stay x in omega (arith, l)) in
      let z = none_pays rows in
      omega (arith, h, z)

-- ---- the writes of ops, but for the creation of a volume

module _ (s : State) (order : AreRows s.rows) (kind : SeatKind) (o : Object) (after : List Object) (moved : IsMoved s.rows after o) where
  -- a claim is written anew
  pub update_stays : (c new : ClaimData) (given : Option ℕ) → row_at (key_of (Claim new)) s.rows ≡ Some (Claim c) → IsUpdate s kind (Claim new) given o → sum after ≤ sum s.rows
  unfolding updated_object with_meta with_status_of
  update_stays c new given there u = by (subst (IsMoved s.rows after) (u.is ∙ ap (λ p. updated_object p (Claim new) (s.version + 1)) (one u.old (Claim c) (sym u.there ∙ there))) moved)
    where
      written : Object
      written = updated_object (Claim c) (Claim new) (s.version + 1)

      by : IsMoved s.rows after written → sum after ≤ sum s.rows
      by (inl put) =
          let e = ap sum put in
          let h = put_over s.rows order written (Claim c) there refl in
          let l : ops_left (put_row written s.rows) written ≤ ops_left s.rows (Claim c) = less s.rows (put_row written s.rows) (open_put s.rows order written (Claim c) there refl) (Claim c) in
          omega (arith, e, h, l)
      by (inr gone) =
          let e = ap sum gone in
          let h = took_over s.rows order written (Claim c) there refl in
          omega (arith, e, h)

  module _ (v : VolumeData) (there : row_at (key_of (Volume v)) s.rows ≡ Some (Volume v)) (ended : is_ended v.phase ≡ true) where
    closed : is_open (Some (Volume v)) ≡ false
    closed = ap not ended

    -- phase Failed is written over a volume that has ended
    pub failed_stays : (given : Option ℕ) → IsStatus s kind (key_of (Volume v)) (statuses.Volume phases.Failed) given o → sum after ≤ sum s.rows
    unfolding with_status at_version with_meta
    failed_stays given i = by (subst (IsMoved s.rows after)
        (i.is ∙ ap (λ p. at_version p (s.version + 1)) (sym (one _ i.new (ap (with_status (statuses.Volume phases.Failed)) (sym (one i.old (Volume v) (sym i.there ∙ there))) ∙ i.fits)))) moved)
      where
        written : Object
        written = at_version (Volume (record v { phase = phases.Failed })) (s.version + 1)

        was : ops_left s.rows (Volume v) ≡ unless (is_deleting v.meta) 1
        was = ap (λ b. unless (not b || is_deleting v.meta) 1) ended

        by : IsMoved s.rows after written → sum after ≤ sum s.rows
        by (inl put) =
            let e = ap sum put in
            let h = put_over s.rows order written (Volume v) there closed in
            let a = was in
            let b : ops_left (put_row written s.rows) written ≡ unless (is_deleting v.meta) 1 = refl in
            omega (arith, e, h, a, b)
        by (inr gone) =
            let e = ap sum gone in
            let h = took_over s.rows order written (Volume v) there closed in
            omega (arith, e, h)

    -- a volume that has ended and stays is deleted
    pub deleted_falls : (moment : List ℕ) (given : Option Uid) → is_deleting v.meta ≡ false → IsMark s moment (key_of (Volume v)) given o → sum after + 1 ≤ sum s.rows
    unfolding marked_object with_meta
    deleted_falls moment given staying i = by (subst (IsMoved s.rows after) (i.is ∙ ap (λ p. marked_object p (s.version + 1) moment) (one i.old (Volume v) (sym i.there ∙ there))) moved)
      where
        written : Object
        written = marked_object (Volume v) (s.version + 1) moment

        was : ops_left s.rows (Volume v) ≡ 1
        was = ap (λ b. unless (not b || is_deleting v.meta) 1) ended ∙ ap (λ b. unless b 1) staying

        by : IsMoved s.rows after written → sum after + 1 ≤ sum s.rows
        by (inl put) =
            let e = ap sum put in
            let h = put_over s.rows order written (Volume v) there closed in
            let a = was in
            let b : ops_left (put_row written s.rows) written ≡ 0 = ap (λ b. unless (not b || true) 1) ended in
            omega (arith, e, h, a, b)
        by (inr gone) =
            let e = ap sum gone in
            let h = took_over s.rows order written (Volume v) there closed in
            let a = was in
            omega (arith, e, h, a)

-- ---- a volume is made for a claim

module _ (s : State) (order : AreRows s.rows) (kind : SeatKind) (c : ClaimData) (uid : Uid) (there : row_at (key_of (Claim c)) s.rows ≡ Some (Claim c)) (known : c.meta.uid ≡ Some uid) where
  module _ (o : Object) (free : row_at (key_of o) s.rows ≡ None) (named : key_of o ≡ volume_key (data_name uid)) (fresh : is_open (Some o) ≡ true) (done : ops_left (put_row o s.rows) o ≡ 0) where
    stay : StayOpen s.rows (put_row o s.rows)
    stay = put_open o s.rows (λ e. fresh)

    for_claim : ops_left (put_row o s.rows) (Claim c) + 1 ≤ ops_left s.rows (Claim c)
    for_claim =
        let now : ops_left (put_row o s.rows) (Claim c) ≡ 0 = ap (to_make (put_row o s.rows)) known
        ∙ ap (λ b. unless b 1) (ap (λ k. is_open (row_at k (put_row o s.rows))) (sym named) ∙ (ap is_open (row_at-put_row o s.rows) ∙ fresh)) in
        let was : ops_left s.rows (Claim c) ≡ 1 = ap (to_make s.rows) known ∙ ap (λ b. unless b 1) (ap (λ k. is_open (row_at k s.rows)) (sym named) ∙ ap is_open free) in
        omega (arith, now, was)

    each : (x : Object) → IsIn x s.rows → ops_left (put_row o s.rows) x + paid_at (key_of (Claim c)) 1 x ≤ ops_left s.rows x
    each x i = by (same_key (key_of x) (key_of (Claim c))) refl
      where
        by : (b : Bool) → same_key (key_of x) (key_of (Claim c)) ≡ b → ops_left (put_row o s.rows) x + (if b then 1 else 0) ≤ ops_left s.rows x
        by true e =
            let is : x ≡ Claim c = one x (Claim c) (sym (stands s.rows order x i) ∙ (ap (λ k. row_at k s.rows) ((same_key-Decides (key_of x) (key_of (Claim c))).0 e) ∙ there)) in
            subst (λ y. ops_left (put_row o s.rows) y + 1 ≤ ops_left s.rows y) (sym is) for_claim
        by false e = let l = less s.rows (put_row o s.rows) stay x in omega (arith, l)

    made_over : sum (put_row o s.rows) + 1 ≤ sum s.rows
    made_over =
        let h = new_falls (ops_left s.rows) (ops_left (put_row o s.rows)) (paid_at (key_of (Claim c)) 1) o s.rows free each in
        let p = one_pays (key_of (Claim c)) 1 (Claim c) s.rows there in
        let z = done in
        omega (arith, h, p, z)

  pub made_falls : (moment : List ℕ) (x : ClassData) (id : DataId) (topology : Option (List ℕ × List ℕ)) (o : Object)
      → IsCreate s kind moment (Volume (provisioned_volume c uid x id topology)) o → sum (put_row o s.rows) + 1 ≤ sum s.rows
  unfolding provisioned_volume created_object admitted_object without_status with_meta
  made_falls moment x id topology o i = subst (λ y. sum (put_row y s.rows) + 1 ≤ sum s.rows) (sym i.is) (made_over
      (created_object (class_name (default_class s.rows)) (Volume (provisioned_volume c uid x id topology)) (s.version + 1) moment) i.free refl refl refl)
