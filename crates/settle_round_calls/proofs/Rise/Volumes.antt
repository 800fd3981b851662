-- A volume is written, is created or leaves: the claim that it carried may have more to do, and nothing else.
use Rattle.std.proofs.Common.{◌≡◌, ◌∙◌, ℕ, ◌+◌, ◌≤◌, List, [], Bool, true, false, true≢false, Option, Some, None, refl, sym, ap, subst, arith}
use Rattle.std.specs.Prelude.{bytes_eq, cond}
use Rattle.std.proofs.lemmas.Bool.{and_parts, false_from_ne_true}
use Rattle.std.proofs.lemmas.Slice.Eq.{bytes_eq-Decides}
use Rattle.kube_objects.specs.declared.key.Key.{Key}
use Rattle.kube_objects.specs.declared.objects.Claim.{Claim as ClaimData}
use Rattle.kube_objects.specs.declared.objects.Ref.{Ref}
use Rattle.kube_objects.specs.declared.objects.Volume.{Volume as VolumeData}
use Rattle.kube_objects.specs.declared.objects.Object.{Object}
use Rattle.kube_objects.specs.declared.objects.Object.TheVariants.{Class, Node, Volume, Claim, Pod}
use Rattle.kube_objects.specs.Bindings.{carries, names_claim, refers_carrying, uid_carries}
use Rattle.kube_objects.specs.Keys.{AreRows, key_of, put_row, row_at, same_key, without_row}
use Rattle.kube_objects.proofs.KeyOrder.{row_at-put_row, row_at-without_row}
use Rattle.kube_objects.proofs.SameKeys.{same_key-Decides}
use Rattle.binder_model.specs.Devices.{Devices}
use Rattle.binder_model.specs.ObjectKeys.{claim_key}
use Rattle.model_laws.proofs.Lists.{none_some, one}
use Rattle.settle_measure.specs.Left.Measure.{claim_left, completed_left, is_held_by, is_lost, left_on, object_left, offers_claim, total, unless}
use Rattle.settle_measure.proofs.Left.Aside.{Agree, AllStay, Useless, as_good, each_less, put_agrees, without_agrees}
use Rattle.settle_measure.proofs.Left.Bounds.{claim_most, volume_most}
use Rattle.settle_measure.proofs.Left.Others.{NoneSeeks, away_most, claim_less, volume_less, volume_puts_no_claim, volume_takes_no_claim}
use Rattle.settle_measure.proofs.Left.Sums.{Pays, gone_falls, new_falls, none_paid, none_pays, one_at_most, paid_at, put_falls, total_sum}

-- ---- the claim that a volume carries

-- its key; where no claim is named, any
abbrev named_key : Option Ref → Key
named_key None = claim_key [] []
named_key (Some r) = claim_key r.namespace r.name

carried_key : (v : VolumeData) (c : ClaimData) → carries v c ≡ true → key_of (Claim c) ≡ named_key v.claim_ref
carried_key v c e = by v.claim_ref e
  where
    by : (r : Option Ref) → refers_carrying r c ≡ true → key_of (Claim c) ≡ named_key r
    by None is = absurd (true≢false (sym is))
    by (Some r) is =
        let p = and_parts (names_claim r c) (uid_carries r.uid c) is in
        let q = and_parts (bytes_eq r.namespace c.meta.namespace) (bytes_eq r.name c.meta.name) p.0 in
        let a : r.namespace ≡ c.meta.namespace = (bytes_eq-Decides r.namespace c.meta.namespace).0 q.0 in
        let b : r.name ≡ c.meta.name = (bytes_eq-Decides r.name c.meta.name).0 q.1 in
        λ i. claim_key ((sym a) i) ((sym b) i)

away : (c : ClaimData) (v : VolumeData) → carries v c ≡ false → completed_left c (Some (Volume v)) ≡ 5 + unless (is_lost c.phase) 1
away c v free = rw free refl

-- ---- what a change at the volume's key costs

module _ (rows rows_after : List Object) (d : Devices) (order : AreRows rows) (v : VolumeData) (there : row_at (key_of (Volume v)) rows ≡ Some (Volume v)) where
  useless : (c : ClaimData) → carries v c ≡ false → completed_left c (row_at (key_of (Volume v)) rows_after) ≤ 5 + unless (is_lost c.phase) 1 → Useless rows rows_after (key_of (Volume v)) c
  useless c free most = record {
    held = λ open_ staying. ap (is_held_by c) there ∙ rw free refl;
    offered = λ open_ staying o at. ap (offers_claim c) (one o (Volume v) (sym at ∙ there)) ∙ rw free refl;
    done = λ completed named.
        let was : completed_left c (row_at (key_of (Volume v)) rows) ≡ 5 + unless (is_lost c.phase) 1 = ap (completed_left c) there ∙ away c v free in
        omega (arith, was, most);
  }

  -- what an object has to do, with the room for the claim that is carried
  abbrev with_room : Object → ℕ
  with_room o = object_left rows d o + paid_at (named_key v.claim_ref) 18 o

  each_costs : Agree rows rows_after (key_of (Volume v)) → NoneSeeks rows rows_after → ((c : ClaimData) → completed_left c (row_at (key_of (Volume v)) rows_after) ≤ 5 + unless (is_lost c.phase) 1)
      → (o : Object) → Pays with_room (object_left rows_after d) none_paid o
  each_costs agree none most (Class x) = omega arith
  each_costs agree none most (Node x) = omega arith
  each_costs agree none most (Volume u) = let h = volume_less rows rows_after d d u none (λ e. e) in omega (arith, h)
  each_costs agree none most (Pod p) = omega arith
  each_costs agree none most (Claim c) = by (same_key (key_of (Claim c)) (named_key v.claim_ref)) refl
    where
      by : (b : Bool) → same_key (key_of (Claim c)) (named_key v.claim_ref) ≡ b → claim_left rows_after d c + 0 ≤ claim_left rows d c + cond b 18 0
      by true is = let h = claim_most rows_after d c in omega (arith, h)
      by false is =
          let free : carries v c ≡ false = false_from_ne_true (carries v c) (λ e. true≢false (sym ((same_key-Decides (key_of (Claim c)) (named_key v.claim_ref)).1 (carried_key v c e)) ∙ is)) in
          let h = claim_less rows rows_after d d c (λ name e. e) (as_good rows rows_after (key_of (Volume v)) order agree c (useless c free (most c))) in
          omega (arith, h)

  room : total with_room rows ≤ left_on rows d + 18
  room =
      let split = total_sum (object_left rows d) (paid_at (named_key v.claim_ref) 18) rows in
      let most = one_at_most (named_key v.claim_ref) 18 rows order in
      omega (arith, split, most)

module _ (rows : List Object) (d : Devices) (order : AreRows rows) (v : VolumeData) (there : row_at (key_of (Volume v)) rows ≡ Some (Volume v)) where
  -- it is written anew
  pub put_costs : (new : VolumeData) → key_of (Volume new) ≡ key_of (Volume v) → left_on (put_row (Volume new) rows) d ≤ left_on rows d + 28
  put_costs new same =
      let agree : Agree rows (put_row (Volume new) rows) (key_of (Volume v)) = subst (Agree rows (put_row (Volume new) rows)) same (put_agrees (Volume new) rows) in
      let now : row_at (key_of (Volume v)) (put_row (Volume new) rows) ≡ Some (Volume new) = ap (λ k. row_at k (put_row (Volume new) rows)) (sym same) ∙ row_at-put_row (Volume new) rows in
      let sums = put_falls (with_room rows (put_row (Volume new) rows) d order v there) (object_left (put_row (Volume new) rows) d) none_paid
      (Volume new) (Volume v) rows order (ap (λ k. row_at k rows) same ∙ there)
      (λ o i differs. each_costs rows (put_row (Volume new) rows) d order v there agree (volume_puts_no_claim new rows)
      (λ c. let e = ap (completed_left c) now in let m = away_most c new in omega (arith, e, m)) o) in
      let none = none_pays rows in
      let most = room rows (put_row (Volume new) rows) d order v there in
      let new_most = volume_most (put_row (Volume new) rows) d new in
      omega (arith, sums, none, most, new_most)

  -- it leaves
  pub gone_costs : left_on (without_row (key_of (Volume v)) rows) d ≤ left_on rows d + 18
  gone_costs =
      let now : row_at (key_of (Volume v)) (without_row (key_of (Volume v)) rows) ≡ None = row_at-without_row (key_of (Volume v)) rows order in
      let sums = gone_falls (with_room rows (without_row (key_of (Volume v)) rows) d order v there)
      (object_left (without_row (key_of (Volume v)) rows) d) none_paid (key_of (Volume v)) (Volume v) rows order there
      (λ o i differs. each_costs rows (without_row (key_of (Volume v)) rows) d order v there (without_agrees (key_of (Volume v)) rows)
      (volume_takes_no_claim v rows) (λ c. let e = ap (completed_left c) now in omega (arith, e)) o) in
      let none = none_pays rows in
      let most = room rows (without_row (key_of (Volume v)) rows) d order v there in
      omega (arith, sums, none, most)

-- it is created
pub new_costs : (rows : List Object) (d : Devices) (new : VolumeData) → AreRows rows → row_at (key_of (Volume new)) rows ≡ None → left_on (put_row (Volume new) rows) d ≤ left_on rows d + 10
new_costs rows d new order free =
    let sums = new_falls (object_left rows d) (object_left (put_row (Volume new) rows) d) none_paid (Volume new) rows free
    (λ o i. let h = each_less rows (put_row (Volume new) rows) d d all o i in omega (arith, h)) in
    let none = none_pays rows in
    let most = volume_most (put_row (Volume new) rows) d new in
    omega (arith, sums, none, most)
  where
    idle : (c : ClaimData) → Useless rows (put_row (Volume new) rows) (key_of (Volume new)) c
    idle c = record {
      held = λ open_ staying. ap (is_held_by c) free;
      offered = λ open_ staying o at. none_some (sym free ∙ at);
      done = λ completed named.
          let was : completed_left c (row_at (key_of (Volume new)) rows) ≡ 5 + unless (is_lost c.phase) 1 = ap (completed_left c) free in
          let now : completed_left c (row_at (key_of (Volume new)) (put_row (Volume new) rows)) ≡ completed_left c (Some (Volume new)) = ap (completed_left c) (row_at-put_row (Volume new) rows) in
          let less = away_most c new in
          omega (arith, was, now, less);
    }

    all : AllStay rows (put_row (Volume new) rows) d d
    all = record {
      seeks = volume_puts_no_claim new rows;
      datum = λ name e. e;
      erased = λ v e. e;
      pods = λ p i. omega arith;
      claims = λ c i. as_good rows (put_row (Volume new) rows) (key_of (Volume new)) order (put_agrees (Volume new) rows) c (idle c);
    }
