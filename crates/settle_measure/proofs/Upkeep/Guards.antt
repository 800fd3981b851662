-- Protection: the finalizer is added, and dropped; and what the reclaimer writes.
use Rattle.std.proofs.Common.{◌≡◌, ◌≢◌, ◌∙◌, ◌⊎◌, ℕ, ◌+◌, ◌≤◌, List, [], ◌∷◌, ◌++◌, Bool, true, false, true≢false, Option, Some, None, inl, inr, refl, sym, ap, subst, arith}
use Rattle.std.specs.Prelude.{cond, not, ◌&&◌, is_some}
use Rattle.std.specs.List.{list_any}
use Rattle.std.proofs.lemmas.Bool.{and_parts}
use Rattle.kube_parts.specs.declared.uid.Uid.{Uid}
use Rattle.kube_parts.specs.declared.names.Due.{Due}
use Rattle.kube_parts.specs.declared.names.Due.TheVariants as dues
use Rattle.kube_parts.specs.declared.parts.VolumePhase.{VolumePhase}
use Rattle.kube_parts.specs.declared.parts.VolumePhase.TheVariants as volumes
use Rattle.kube_objects.specs.declared.objects.Ref.{Ref}
use Rattle.kube_objects.specs.declared.objects.Claim.{Claim as ClaimData}
use Rattle.kube_objects.specs.declared.objects.Volume.{Volume as VolumeData}
use Rattle.kube_objects.specs.declared.objects.Object.TheVariants.{Volume, Claim}
use Rattle.kube_objects.specs.Bindings.{
  carries,
  has_name,
  is_bound,
  is_completed,
  is_deleting,
  is_delete,
  is_ended,
  is_protected_claim,
  is_protected_volume,
  pv_protection,
  pvc_protection,
  ref_uid,
  refers_carrying,
  uses,
}
use Rattle.kube_objects.specs.Keys.{key_of, row_at, without_row}
use Rattle.kube_objects.proofs.KeyOrder.{row_at-without_row}
use Rattle.kube_objects.proofs.SameKeys.{key_tells, same_key-Decides}
use Rattle.call_types.specs.declared.request.Request.{Request}
use Rattle.call_types.specs.declared.request.Request.TheVariants.{Delete, Update}
use Rattle.call_types.specs.declared.request.SeatKind.{SeatKind}
use Rattle.call_types.specs.declared.setup.Setup.{Setup}
use Rattle.binder_model.specs.Due.{guard_due, reclaim_due}
use Rattle.binder_model.specs.Edits.{without_name}
use Rattle.binder_model.specs.GuardLicence.{guarded_meta, unguarded_meta}
use Rattle.binder_model.specs.Matching.{fits, is_selected}
use Rattle.binder_model.specs.ObjectKeys.{claim_key, volume_key}
use Rattle.binder_model.specs.Store.{leaves, marked_object, updated_object, with_meta, with_status_of}
use Rattle.binder_model.specs.World.{Effect, World, effect, world_after}
use Rattle.kube_objects.specs.Sources.{data_id_of}
use Rattle.model_laws.proofs.Lists.{IsIn, one}
use Rattle.safety_law.specs.Invariant.Writes.{IsMark, IsUpdate}
use Rattle.settle_measure.specs.Left.Measure.{
  claim_left,
  completed_left,
  guard_left,
  holds,
  is_awaited,
  is_fit,
  is_held_by,
  is_lost,
  is_over,
  left_of,
  left_on,
  life_left,
  offers,
  offers_claim,
  phase_left,
  unless,
  volume_left,
  was_erased,
}
use Rattle.settle_measure.specs.Left.Lowers.{Lowers, StandsVolume}
use Rattle.settle_measure.specs.Upkeep.Pays.{ClaimGuardPays, ClaimUnguardPays, DeletePays, FailedPays, VolumeGuardPays, VolumeUnguardPays}
use Rattle.settle_measure.proofs.Binding.Alike.{MetaAlike, binding_same, seeking_same}
use Rattle.settle_measure.proofs.Left.Aside.{Useless, claim_gone, as_good, gone_costs, gone_total, without_agrees}
use Rattle.settle_measure.proofs.Binding.Claims.{claim_update_lowers, lowered_claim, rewritten_claim}
use Rattle.settle_measure.proofs.Left.Entries.{Put, Took, came}
use Rattle.settle_measure.proofs.Left.Others.{Harmless, away_most, claim_less, volume_takes_no_claim}
use Rattle.settle_measure.proofs.Binding.Stages.{at_key, false_not, lowered, no_carrier, not_over, phased, rewritten, same_ref, status_lowers, unbound_left, update_lowers, with_uid}
use Rattle.settle_measure.proofs.Left.Sums.{paid_at}
use Rattle.model_laws.proofs.FinalizerNames.{without_lacks}
use Rattle.model_laws.proofs.FinalizerNames.{has_appended as named_last}

abbrev is_guard_due : Option Due → Bool
is_guard_due (Some dues.Guard) = true
is_guard_due x = false

abbrev is_unguard_due : Option Due → Bool
is_unguard_due (Some dues.Unguard) = true
is_unguard_due x = false

no : {G : Type 0} → false ≡ true → G
no e = absurd (true≢false (sym e))

guard_facts : (a b c : Bool) → is_guard_due (guard_due a b c) ≡ true → (a ≡ false) × (b ≡ false)
guard_facts false false c e = (refl, refl)
guard_facts true true false e = no e
guard_facts true true true e = no e
guard_facts true false c e = no e
guard_facts false true c e = no e

unguard_facts : (a b c : Bool) → is_unguard_due (guard_due a b c) ≡ true → (a ≡ true) × (b ≡ true)
unguard_facts false false c e = no e
unguard_facts true true false e = (refl, refl)
unguard_facts true true true e = no e
unguard_facts true false c e = no e
unguard_facts false true c e = no e

pub volume_guard_pays : VolumeGuardPays
unfolding leaves
volume_guard_pays setup w kind v s due =
    let f = guard_facts (is_deleting v.meta) (is_protected_volume v) (is_bound v.phase) (ap is_guard_due due) in
    let staying = f.0 in let bare = f.1 in
    let new : VolumeData = rewritten v (record v { meta = guarded_meta pv_protection v.meta }) (w.store.version + 1) in
    let last : is_protected_volume new ≡ true = named_last pv_protection v.meta.finalizers in
    let before : guard_left (is_deleting v.meta) (is_protected_volume v) ≡ 2 = rw (staying, bare) refl in
    let after : guard_left (is_deleting new.meta) (is_protected_volume new) ≡ 1 = rw last refl in
    update_lowers setup w kind v s (record v { meta = guarded_meta pv_protection v.meta }) (Some v.meta.version) 1 refl (rw staying refl)
    (λ c i. record {
      held = λ open_ here which h. h;
      offered = λ open_ here empty h. let q = and_parts (carries v c) (is_fit v c && not (is_ended v.phase)) h in
          false_not (is_fit v c) (unfit v c bare) (and_parts (is_fit v c) (not (is_ended v.phase)) q.1).0;
      done = λ completed named. omega arith;
    })
    (omega (arith, before, after))
  where
    unfit : (v : VolumeData) (c : ClaimData) → is_protected_volume v ≡ false → is_fit v c ≡ false
    unfit v c bare = by (is_deleting v.meta) (is_protected_volume v) bare
      where
        by : (a b : Bool) → b ≡ false → (not a && b && fits v c && is_selected c.selector v.meta.labels) ≡ false
        by true b e = refl
        by false true e = absurd (true≢false e)
        by false false e = refl

never_and : (a b : Bool) → b ≡ false → (a && b) ≡ false
never_and true b e = e
never_and false b e = refl

and_never : (a b : Bool) → a ≡ false → (a && b) ≡ false
and_never true b e = absurd (true≢false e)
and_never false b e = refl

deleting_holds : (v : VolumeData) → is_deleting v.meta ≡ true → (c : ClaimData) → holds v c ≡ false
deleting_holds v e c = and_never (carries v c && not (is_deleting v.meta)) (not (is_ended v.phase)) (never_and (carries v c) (not (is_deleting v.meta)) (ap not e))

deleting_offers : (v : VolumeData) → is_deleting v.meta ≡ true → (c : ClaimData) → offers v c ≡ false
deleting_offers v e c = never_and (carries v c) (is_fit v c && not (is_ended v.phase)) (and_never (is_fit v c) (not (is_ended v.phase)) (rw e refl))

ended_holds : (v : VolumeData) → is_ended v.phase ≡ true → (c : ClaimData) → holds v c ≡ false
ended_holds v e c = never_and (carries v c && not (is_deleting v.meta)) (not (is_ended v.phase)) (ap not e)

ended_offers : (v : VolumeData) → is_ended v.phase ≡ true → (c : ClaimData) → offers v c ≡ false
ended_offers v e c = never_and (carries v c) (is_fit v c && not (is_ended v.phase)) (never_and (is_fit v c) (not (is_ended v.phase)) (ap not e))

-- the finalizer is dropped

module _ (setup : Setup) (w : World) (kind : SeatKind) (v : VolumeData) (s : StandsVolume w v) where
  -- an update of the volume that stays or leaves
  pub update_either : (x : VolumeData) (given : Option ℕ) (n : ℕ) → key_of (Volume x) ≡ key_of (Volume v)
      → ((y : Effect) → Put w y (Volume (rewritten v x (w.store.version + 1))) → left_of (world_after w y) + n ≤ left_of w)
      → ((y : Effect) → Took w y (Update (Volume x) given) (Volume (rewritten v x (w.store.version + 1))) → left_of (world_after w y) + n ≤ left_of w)
      → Lowers setup w kind (Update (Volume x) given) n
  unfolding updated_object with_meta with_status_of
  update_either x given n same fall go o e =
      let c = came setup w kind (Update (Volume x) given) o s.order e in
      by c.write c.store
    where
      is_new : IsUpdate w.store kind (Volume x) given o → o ≡ Volume (rewritten v x (w.store.version + 1))
      is_new i =
          let old : i.old ≡ Volume v = one i.old (Volume v) (sym i.there ∙ ap (λ k. row_at k w.store.rows) same ∙ at_key setup w kind v s) in
          i.is ∙ ap (λ p. updated_object p (Volume x) (w.store.version + 1)) old

      by : IsUpdate w.store kind (Volume x) given o
          → Put w (effect setup w kind (Update (Volume x) given)) o ⊎ Took w (effect setup w kind (Update (Volume x) given)) (Update (Volume x) given) o
          → left_of (world_after w (effect setup w kind (Update (Volume x) given))) + n ≤ left_of w
      by i (inl put) = fall _ (subst (Put w _) (is_new i) put)
      by i (inr took) = go _ (subst (Took w _ (Update (Volume x) given)) (is_new i) took)

  pub left_without : (y : Effect) (request : Request) (new : VolumeData) → key_of (Volume new) ≡ key_of (Volume v) → Took w y request (Volume new)
      → left_of (world_after w y) ≡ left_on (without_row (key_of (Volume v)) w.store.rows) w.devices
  left_without y request new same took =
      ap (λ rows. left_on rows (world_after w y).devices) (took.rows ∙ ap (λ k. without_row k w.store.rows) same) ∙ ap (left_on (without_row (key_of (Volume v)) w.store.rows)) took.devices

  -- what held no claim leaves
  pub volume_gone : ((c : ClaimData) → IsIn (Claim c) w.store.rows → Useless w.store.rows (without_row (key_of (Volume v)) w.store.rows) (key_of (Volume v)) c)
      → left_on (without_row (key_of (Volume v)) w.store.rows) w.devices + volume_left w.store.rows w.devices v ≤ left_of w
  volume_gone useless =
      gone_total w.store.rows w.devices (key_of (Volume v)) (Volume v) s.order (at_key setup w kind v s) (record {
        seeks = volume_takes_no_claim v w.store.rows;
        datum = λ name e. e;
        erased = λ u e. e;
        pods = λ p i. omega arith;
        claims = λ c i. as_good w.store.rows (without_row (key_of (Volume v)) w.store.rows) (key_of (Volume v)) s.order (without_agrees (key_of (Volume v)) w.store.rows) c (useless c i);
      })

  -- nothing stands at the key of what has left
  nothing : row_at (key_of (Volume v)) (without_row (key_of (Volume v)) w.store.rows) ≡ None
  nothing = row_at-without_row (key_of (Volume v)) w.store.rows s.order

  -- a claim that it neither holds nor offers itself to, and that it does not carry where it is completed
  pub useless_gone : (c : ClaimData) → holds v c ≡ false → offers v c ≡ false → (is_completed c ≡ true → (carries v c && not (is_ended v.phase)) ≡ false)
      → Useless w.store.rows (without_row (key_of (Volume v)) w.store.rows) (key_of (Volume v)) c
  useless_gone c held offered away = record {
    held = λ open_ staying. ap (is_held_by c) (at_key setup w kind v s) ∙ held;
    offered = λ open_ staying o at. ap (offers_claim c) (one o (Volume v) (sym at ∙ at_key setup w kind v s)) ∙ offered;
    done = λ completed named.
        let e = away completed in
        let was : completed_left c (row_at (key_of (Volume v)) w.store.rows) ≡ 5 + unless (is_lost c.phase) 1 = ap (completed_left c) (at_key setup w kind v s) ∙ rw e refl in
        let now : completed_left c (row_at (key_of (Volume v)) (without_row (key_of (Volume v)) w.store.rows)) ≡ 5 + unless (is_lost c.phase) 1 = ap (completed_left c) nothing in
        omega (arith, was, now);
  }

  -- what carried a completed claim and was not Bound leaves: this claim alone rises, by four
  module _ (r : Ref) (is : v.claim_ref ≡ Some r) (unbound : is_bound v.phase ≡ false) (gone : is_deleting v.meta ≡ true) where
    rises : (c : ClaimData) → is_completed c ≡ true → carries v c ≡ true → is_ended v.phase ≡ false
        → claim_left (without_row (key_of (Volume v)) w.store.rows) w.devices c ≤ claim_left w.store.rows w.devices c + 4
    rises c completed carried going = by (key_tells (key_of (Volume v)) (volume_key c.volume_name))
      where
        here : completed_left c (Some (Volume v)) ≡ 1 + unless (is_lost c.phase) 1
        here = rw (carried, going, unbound) refl

        by : (key_of (Volume v) ≡ volume_key c.volume_name) ⊎ (key_of (Volume v) ≢ volume_key c.volume_name)
            → claim_left (without_row (key_of (Volume v)) w.store.rows) w.devices c ≤ claim_left w.store.rows w.devices c + 4
        by (inl named) =
            let was : completed_left c (row_at (volume_key c.volume_name) w.store.rows) ≡ 1 + unless (is_lost c.phase) 1 =
            ap (λ k. completed_left c (row_at k w.store.rows)) (sym named) ∙ (ap (completed_left c) (at_key setup w kind v s) ∙ here) in
            let now : completed_left c (row_at (volume_key c.volume_name) (without_row (key_of (Volume v)) w.store.rows)) ≡ 5 + unless
            (is_lost c.phase) 1 = ap (λ k. completed_left c (row_at k (without_row (key_of (Volume v)) w.store.rows))) (sym named) ∙ ap (completed_left c) nothing in
            rw completed (omega (arith, was, now))
        by (inr differs) =
            let same : completed_left c (row_at (volume_key c.volume_name) (without_row (key_of (Volume v)) w.store.rows)) ≡ completed_left c
            (row_at (volume_key c.volume_name) w.store.rows) = ap (completed_left c) (without_agrees (key_of (Volume v)) w.store.rows (volume_key c.volume_name) differs) in
            rw completed (omega (arith, same))

    costs : (c : ClaimData) → IsIn (Claim c) w.store.rows
        → claim_left (without_row (key_of (Volume v)) w.store.rows) w.devices c ≤ claim_left w.store.rows w.devices c + paid_at (claim_key r.namespace r.name) 4 (Claim c)
    costs c i = by (is_completed c) (carries v c) (is_ended v.phase) refl refl refl
      where
        stays : (is_completed c ≡ true → (carries v c && not (is_ended v.phase)) ≡ false) → claim_left (without_row (key_of (Volume v)) w.store.rows) w.devices c ≤ claim_left w.store.rows w.devices c
        stays away =
            claim_less w.store.rows (without_row (key_of (Volume v)) w.store.rows) w.devices w.devices c (λ name e. e)
            (as_good w.store.rows (without_row (key_of (Volume v)) w.store.rows) (key_of (Volume v)) s.order
            (without_agrees (key_of (Volume v)) w.store.rows) c (useless_gone c (deleting_holds v gone c) (deleting_offers v gone c) away))

        by : (a b d : Bool) → is_completed c ≡ a → carries v c ≡ b → is_ended v.phase ≡ d
            → claim_left (without_row (key_of (Volume v)) w.store.rows) w.devices c ≤ claim_left w.store.rows w.devices c + paid_at (claim_key r.namespace r.name) 4 (Claim c)
        by false b d ea eb ed = let h = stays (λ completed. false_not _ ea completed) in omega (arith, h)
        by true false d ea eb ed = let h = stays (λ completed. ap (λ x. x && not (is_ended v.phase)) eb) in omega (arith, h)
        by true true true ea eb ed = let h = stays (λ completed. never_and (carries v c) (not (is_ended v.phase)) (ap not ed)) in omega (arith, h)
        by true true false ea eb ed =
            let own : claim_key r.namespace r.name ≡ claim_key c.meta.namespace c.meta.name = (same_ref r c (ap (λ x. refers_carrying x c) (sym is) ∙ eb)).0 in
            let key : key_of (Claim c) ≡ claim_key r.namespace r.name = sym own in
            let pays : paid_at (claim_key r.namespace r.name) 4 (Claim c) ≡ 4 = ap (λ b. cond b 4 0) ((same_key-Decides (key_of (Claim c)) (claim_key r.namespace r.name)).1 key) in
            let h = rises c ea eb ed in
            omega (arith, h, pays)

    pub carrier_gone : left_on (without_row (key_of (Volume v)) w.store.rows) w.devices + volume_left w.store.rows w.devices v ≤ left_of w + 4
    carrier_gone = gone_costs w.store.rows w.devices (key_of (Volume v)) (Volume v) r.namespace r.name 4 s.order (at_key setup w kind v s) (volume_takes_no_claim v w.store.rows) costs

-- nothing is lost where nothing was held
useless_safe : (v new : VolumeData) (c : ClaimData) → holds v c ≡ false → offers v c ≡ false → completed_left c (Some (Volume new)) ≤ completed_left c (Some (Volume v)) → Harmless v new c
useless_safe v new c held offered less = record {
  held = λ open_ staying which h. false_not _ held h;
  offered = λ open_ staying empty h. false_not _ offered h;
  done = λ completed named. less;
}

unguard_unbound : (a b c : Bool) → is_unguard_due (guard_due a b c) ≡ true → c ≡ false
unguard_unbound true true false e = refl
unguard_unbound true true true e = no e
unguard_unbound true false c e = no e
unguard_unbound false true c e = no e
unguard_unbound false false c e = no e

-- a protected volume that is deleting and not Bound leaves
unguarded_goes : (setup : Setup) (w : World) (kind : SeatKind) (v : VolumeData) (s : StandsVolume w v) → is_deleting v.meta ≡ true → is_protected_volume v ≡ true → is_bound v.phase ≡ false
    → left_on (without_row (key_of (Volume v)) w.store.rows) w.devices + 1 ≤ left_of w
unguarded_goes setup w kind v s gone kept unbound = by v.claim_ref refl (ref_uid v.claim_ref) refl (is_ended v.phase) refl
  where
    guard : guard_left (is_deleting v.meta) (is_protected_volume v) ≡ 1
    guard = rw (gone, kept) refl

    free : ((c : ClaimData) → (carries v c && not (is_ended v.phase)) ≡ false) → left_on (without_row (key_of (Volume v)) w.store.rows) w.devices + 1 ≤ left_of w
    free away =
        let g = volume_gone setup w kind v s (λ c i. useless_gone setup w kind v s c (deleting_holds v gone c) (deleting_offers v gone c) (λ completed. away c)) in
        let one_unit = guard in
        omega (arith, g, one_unit)

    by : (r : Option Ref) → v.claim_ref ≡ r → (u : Option Uid) → ref_uid v.claim_ref ≡ u → (d : Bool) → is_ended v.phase ≡ d
        → left_on (without_row (key_of (Volume v)) w.store.rows) w.devices + 1 ≤ left_of w
    by None er u eu d ed = free (λ c. ap (λ x. refers_carrying x c && not (is_ended v.phase)) er)
    by (Some r) er None eu d ed = free (λ c. ap (λ b. b && not (is_ended v.phase)) (no_carrier v.claim_ref c eu))
    by (Some r) er (Some uid) eu true ed = free (λ c. never_and (carries v c) (not (is_ended v.phase)) (ap not ed))
    by (Some r) er (Some uid) eu false ed =
        let g = carrier_gone setup w kind v s r er unbound gone in
        let stage = with_uid (is_awaited w.store.rows v.claim_ref) (ref_uid v.claim_ref) uid v.phase eu in
        let three = unbound_left v.phase ed unbound in
        let one_unit = guard in
        let life : life_left (is_deleting v.meta) (is_over (ref_uid v.claim_ref) v.phase) (was_erased (data_id_of v.source) w.devices.stored) ≡ 1 =
        ap (λ b. life_left b (is_over (ref_uid v.claim_ref) v.phase) (was_erased (data_id_of v.source) w.devices.stored)) gone
        ∙ ap (λ b. unless b 1) (not_over (ref_uid v.claim_ref) v.phase (inr ed)) in
        omega (arith, g, stage, three, one_unit, life)

pub volume_unguard_pays : VolumeUnguardPays
volume_unguard_pays setup w kind v s due =
    let f = unguard_facts (is_deleting v.meta) (is_protected_volume v) (is_bound v.phase) (ap is_unguard_due due) in
    let gone = f.0 in let kept = f.1 in
    let x : VolumeData = record v { meta = unguarded_meta pv_protection v.meta } in
    let new : VolumeData = rewritten v x (w.store.version + 1) in
    let bare : is_protected_volume new ≡ false = without_lacks pv_protection v.meta.finalizers in
    let before : guard_left (is_deleting v.meta) (is_protected_volume v) ≡ 1 = rw (gone, kept) refl in
    let after : guard_left (is_deleting new.meta) (is_protected_volume new) ≡ 0 = rw (gone, bare) refl in
    let unbound = unguard_unbound (is_deleting v.meta) (is_protected_volume v) (is_bound v.phase) (ap is_unguard_due due) in
    let h = deleting_holds v gone in let o = deleting_offers v gone in
    update_either setup w kind v s x (Some v.meta.version) 1 refl
    (λ y put. lowered setup w kind v s y new 1 refl put (λ c i. useless_safe v new c (h c) (o c) (omega arith)) (omega (arith, before, after)))
    (λ y took.
    let g = unguarded_goes setup w kind v s gone kept unbound in
    let e = left_without setup w kind v s y (Update (Volume x) (Some v.meta.version)) new refl took in
    omega (arith, g, e))

-- phase Failed

released_ended : (p : VolumePhase) → p ≡ volumes.Released → is_ended p ≡ true
released_ended p e = ap is_ended e

pub failed_pays : FailedPays
failed_pays setup w kind v uid s has released =
    let ended = ap is_ended released in
    let before = with_uid (is_awaited w.store.rows v.claim_ref) (ref_uid v.claim_ref) uid v.phase has in
    let after = with_uid (is_awaited w.store.rows v.claim_ref) (ref_uid v.claim_ref) uid volumes.Failed has in
    let one_unit : phase_left v.phase ≡ 1 = ap phase_left released in
    let is_zero : phase_left volumes.Failed ≡ 0 = refl in
    let life : life_left (is_deleting v.meta) (is_over (ref_uid v.claim_ref) volumes.Failed)
    (was_erased (data_id_of v.source) w.devices.stored) ≡ life_left (is_deleting v.meta) (is_over (ref_uid v.claim_ref) v.phase) (was_erased (data_id_of v.source) w.devices.stored) =
    ap (λ b. life_left (is_deleting v.meta) (is_some (ref_uid v.claim_ref) && b) (was_erased (data_id_of v.source) w.devices.stored)) (sym ended) in
    status_lowers setup w kind v s volumes.Failed (Some v.meta.version) 1
    (λ c i. useless_safe v (phased v volumes.Failed (w.store.version + 1)) c (ended_holds v ended c) (ended_offers v ended c)
    (still_away c ended)) (omega (arith, before, after, one_unit, is_zero, life))
  where
    still_away : (c : ClaimData) → is_ended v.phase ≡ true → completed_left c (Some (Volume (phased v volumes.Failed (w.store.version + 1)))) ≤ completed_left c (Some (Volume v))
    still_away c ended =
        let away = never_and (carries v c) (not (is_ended v.phase)) (ap not ended) in
        let was : completed_left c (Some (Volume v)) ≡ 5 + unless (is_lost c.phase) 1 = rw away refl in
        let h = away_most c (phased v volumes.Failed (w.store.version + 1)) in
        omega (arith, was, h)

-- the deletion of an ended volume

record IsReclaimed (v : VolumeData) : Type 0 where
  ended : is_ended v.phase ≡ true
  over : is_over (ref_uid v.claim_ref) v.phase ≡ true
  staying : is_deleting v.meta ≡ false

reclaim_facts : (v : VolumeData) → reclaim_due v ≡ Some dues.Reclaim → IsReclaimed v
reclaim_facts v e = by (is_ended v.phase) (is_delete v.policy) (is_some (ref_uid v.claim_ref)) (is_deleting v.meta) refl refl refl (ap is_some e)
  where
    by : (a b c d : Bool) → is_ended v.phase ≡ a → is_some (ref_uid v.claim_ref) ≡ c → is_deleting v.meta ≡ d → is_some (cond (a && b && c && not d) (Some dues.Reclaim) None) ≡ true → IsReclaimed v
    by true true true false ea ec ed e = record { ended = ea; over = rw (ec, ea) refl; staying = ed }
    by true true true true ea ec ed e = no e
    by true true false d ea ec ed e = no e
    by true false c d ea ec ed e = no e
    by false b c d ea ec ed e = no e

-- the volume as it is marked
abbrev marked : VolumeData → ℕ → List ℕ → VolumeData
marked v version moment = record v { meta = record v.meta { version = version; deleted = Some moment } }

gone_guard : (b : Bool) → guard_left true b ≤ guard_left false b
gone_guard true = omega arith
gone_guard false = omega arith

life_some : (o b : Bool) → 1 ≤ life_left false o b
life_some o true = omega arith
life_some o false = omega arith

pub delete_pays : DeletePays
unfolding marked_object with_meta
delete_pays setup w kind v given s due o e =
    let c = came setup w kind (Delete (volume_key v.meta.name) given) o s.order e in
    by c.write c.store
  where
    f : IsReclaimed v
    f = reclaim_facts v due

    is_new : IsMark w.store w.moment (volume_key v.meta.name) given o → o ≡ Volume (marked v (w.store.version + 1) w.moment)
    is_new i = i.is ∙ ap (λ p. marked_object p (w.store.version + 1) w.moment) (one i.old (Volume v) (sym i.there ∙ s.there))

    before : volume_left w.store.rows w.devices (marked v (w.store.version + 1) w.moment) + 1 ≤ volume_left w.store.rows w.devices v
    before =
        let l = life_some (is_over (ref_uid v.claim_ref) v.phase) (was_erased (data_id_of v.source) w.devices.stored) in
        let g = gone_guard (is_protected_volume v) in
        let staying = f.staying in
        let was : life_left (is_deleting v.meta) (is_over (ref_uid v.claim_ref) v.phase)
        (was_erased (data_id_of v.source) w.devices.stored) ≡ life_left false (is_over (ref_uid v.claim_ref) v.phase)
        (was_erased (data_id_of v.source) w.devices.stored) = ap (λ b. life_left b (is_over (ref_uid v.claim_ref) v.phase) (was_erased (data_id_of v.source) w.devices.stored)) staying in
        let now : unless (is_over (ref_uid v.claim_ref) v.phase) 1 ≡ 0 = ap (λ b. unless b 1) f.over in
        let guard : guard_left (is_deleting v.meta) (is_protected_volume v) ≡ guard_left false (is_protected_volume v) = ap (λ b. guard_left b (is_protected_volume v)) staying in
        omega (arith, l, g, was, now, guard)

    some_life : 1 ≤ volume_left w.store.rows w.devices v
    some_life = let b = before in omega (arith, b)

    by : IsMark w.store w.moment (volume_key v.meta.name) given o
        → Put w (effect setup w kind (Delete (volume_key v.meta.name) given)) o ⊎ Took w (effect setup w kind (Delete (volume_key v.meta.name) given)) (Delete (volume_key v.meta.name) given) o
        → left_of (world_after w (effect setup w kind (Delete (volume_key v.meta.name) given))) + 1 ≤ left_of w
    by i (inl put) = lowered setup w kind v s _ (marked v (w.store.version + 1) w.moment) 1 refl (subst (Put w _) (is_new i) put)
        (λ c j. useless_safe v (marked v (w.store.version + 1) w.moment) c (ended_holds v f.ended c) (ended_offers v f.ended c) (omega arith)) before
    by i (inr took) =
        let g = volume_gone setup w kind v s (λ c j. useless_gone setup w kind v s c (ended_holds v f.ended c) (ended_offers v f.ended c)
        (λ completed. never_and (carries v c) (not (is_ended v.phase)) (ap not f.ended))) in
        let e = left_without setup w kind v s _ (Delete (volume_key v.meta.name) given) (marked v (w.store.version + 1) w.moment) refl
        (subst (Took w _ (Delete (volume_key v.meta.name) given)) (is_new i) took) in
        let l = some_life in
        omega (arith, g, e, l)

-- claims

claim_alike : (c : ClaimData) (names : List (List ℕ)) (n : ℕ) → MetaAlike c.meta (record c.meta { finalizers = names; version = n })
claim_alike c names n = record { namespace = refl; name = refl; uid = refl; deleted = refl; completed = refl; beta = refl }

pub claim_guard_pays : ClaimGuardPays
unfolding leaves
claim_guard_pays setup w kind c s due =
    let f = guard_facts (is_deleting c.meta) (is_protected_claim c) (list_any (uses c) w.store.rows) (ap is_guard_due due) in
    let staying = f.0 in let bare = f.1 in
    let b = binding_same c (record c.meta { finalizers = c.meta.finalizers ++ pvc_protection ∷ []; version = w.store.version + 1 })
    (claim_alike c (c.meta.finalizers ++ pvc_protection ∷ []) (w.store.version + 1)) w.store.rows w.devices in
    let new : ClaimData = rewritten_claim c (record c { meta = guarded_meta pvc_protection c.meta }) (w.store.version + 1) in
    let last : is_protected_claim new ≡ true = named_last pvc_protection c.meta.finalizers in
    let before : guard_left (is_deleting c.meta) (is_protected_claim c) ≡ 2 = rw (staying, bare) refl in
    let after : guard_left (is_deleting new.meta) (is_protected_claim new) ≡ 1 = rw last refl in
    claim_update_lowers setup w kind c s (record c { meta = guarded_meta pvc_protection c.meta }) (Some c.meta.version) 1 refl (rw staying refl)
    (λ h. sym (seeking_same c (record c.meta { finalizers = c.meta.finalizers ++ pvc_protection ∷ []; version = w.store.version + 1 })
    (claim_alike c (c.meta.finalizers ++ pvc_protection ∷ []) (w.store.version + 1))) ∙ h)
    (omega (arith, b, before, after))

pub claim_unguard_pays : ClaimUnguardPays
unfolding updated_object with_meta with_status_of
claim_unguard_pays setup w kind c s due o e =
    let m = came setup w kind (Update (Claim (record c { meta = unguarded_meta pvc_protection c.meta })) (Some c.meta.version)) o s.order e in
    by m.write m.store
  where
    f : (is_deleting c.meta ≡ true) × (is_protected_claim c ≡ true)
    f = unguard_facts (is_deleting c.meta) (is_protected_claim c) (list_any (uses c) w.store.rows) (ap is_unguard_due due)

    before : guard_left (is_deleting c.meta) (is_protected_claim c) ≡ 1
    before = let gone = f.0 in let kept = f.1 in rw (gone, kept) refl

    after : guard_left (is_deleting c.meta) (has_name pvc_protection (without_name pvc_protection c.meta.finalizers)) ≡ 0
    after = let gone = f.0 in let bare = without_lacks pvc_protection c.meta.finalizers in rw (gone, bare) refl

    is_new : IsUpdate w.store kind (Claim (record c { meta = unguarded_meta pvc_protection c.meta })) (Some c.meta.version) o
        → o ≡ Claim (rewritten_claim c (record c { meta = unguarded_meta pvc_protection c.meta }) (w.store.version + 1))
    is_new i =
        let old : i.old ≡ Claim c = one i.old (Claim c) (sym i.there ∙ s.there) in
        i.is ∙ ap (λ p. updated_object p (Claim (record c { meta = unguarded_meta pvc_protection c.meta })) (w.store.version + 1)) old

    by : IsUpdate w.store kind (Claim (record c { meta = unguarded_meta pvc_protection c.meta })) (Some c.meta.version) o
        → Put w (effect setup w kind (Update (Claim (record c { meta = unguarded_meta pvc_protection c.meta })) (Some c.meta.version))) o
        ⊎ Took w (effect setup w kind (Update (Claim (record c { meta = unguarded_meta pvc_protection c.meta })) (Some c.meta.version)))
        (Update (Claim (record c { meta = unguarded_meta pvc_protection c.meta })) (Some c.meta.version)) o
        → left_of (world_after w (effect setup w kind (Update (Claim (record c { meta = unguarded_meta pvc_protection c.meta })) (Some c.meta.version)))) + 1 ≤ left_of w
    by i (inl put) =
        let a = claim_alike c (without_name pvc_protection c.meta.finalizers) (w.store.version + 1) in
        let b = binding_same c (record c.meta { finalizers = without_name pvc_protection c.meta.finalizers; version = w.store.version + 1 }) a w.store.rows w.devices in
        let p = before in let q = after in
        lowered_claim setup w kind c s _ (rewritten_claim c (record c { meta = unguarded_meta pvc_protection c.meta }) (w.store.version + 1)) 1 refl (subst (Put w _) (is_new i) put)
        (λ h. sym (seeking_same c (record c.meta { finalizers = without_name pvc_protection c.meta.finalizers; version = w.store.version + 1 }) a) ∙ h) (omega (arith, b, p, q))
    by i (inr took) =
        let g = claim_gone w.store.rows w.devices c s.order s.there in
        let t : Took w (effect setup w kind (Update (Claim (record c { meta = unguarded_meta pvc_protection c.meta })) (Some c.meta.version)))
        (Update (Claim (record c { meta = unguarded_meta pvc_protection c.meta })) (Some c.meta.version))
        (Claim (rewritten_claim c (record c { meta = unguarded_meta pvc_protection c.meta }) (w.store.version + 1))) = subst (Took w _ _) (is_new i) took in
        let e : left_of (world_after w (effect setup w kind
        (Update (Claim (record c { meta = unguarded_meta pvc_protection c.meta })) (Some c.meta.version)))) ≡ left_on (without_row (key_of (Claim c)) w.store.rows) w.devices =
        ap (λ rows. left_on rows (world_after w
        (effect setup w kind (Update (Claim (record c { meta = unguarded_meta pvc_protection c.meta })) (Some c.meta.version)))).devices) t.rows
        ∙ ap (left_on (without_row (key_of (Claim c)) w.store.rows)) t.devices in
        let p = before in
        omega (arith, g, e, p)
