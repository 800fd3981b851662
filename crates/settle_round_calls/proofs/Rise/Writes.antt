-- What a controller that is no scheduler writes: a volume over a volume, a new volume, or a claim over one that waited for a volume where
-- the new one does.
use Rattle.std.proofs.Common.{◌≡◌, ◌∙◌, ◌⊎◌, ℕ, ◌+◌, ◌≤◌, List, Bool, true, false, true≢false, Option, Some, None, inl, inr, refl, sym, ap, subst, arith}
use Rattle.std.specs.Prelude.{not, ◌&&◌, is_some, ⊤}
use Rattle.kube_objects.specs.declared.key.Key.{Key}
use Rattle.kube_objects.specs.declared.objects.Claim.{Claim as ClaimData}
use Rattle.kube_objects.specs.declared.objects.Meta.{Meta}
use Rattle.kube_objects.specs.declared.objects.Volume.{Volume as VolumeData}
use Rattle.kube_objects.specs.declared.objects.Object.{Object}
use Rattle.kube_objects.specs.declared.objects.Object.TheVariants.{Class, Node, Volume, Claim, Pod}
use Rattle.kube_objects.specs.Bindings.{bind_completed, has_key, is_completed, is_deleting, is_empty, is_protected_claim, selected_node}
use Rattle.kube_objects.specs.Keys.{AreRows, key_of, kind_index, kind_of, meta_of, put_row, row_at, without_row}
use Rattle.kube_objects.proofs.KeyOrder.{row_at_key}
use Rattle.call_types.specs.declared.entry.Entry.{Entry}
use Rattle.call_types.specs.declared.request.NewStatus.{NewStatus}
use Rattle.call_types.specs.declared.request.NewStatus.TheVariants as statuses
use Rattle.call_types.specs.declared.request.Request.{Request}
use Rattle.call_types.specs.declared.request.Request.TheVariants as requests
use Rattle.call_types.specs.declared.request.SeatKind.{SeatKind}
use Rattle.call_types.specs.declared.request.SeatKind.TheVariants as seats
use Rattle.call_types.specs.declared.setup.Setup.{Setup}
use Rattle.binder_model.specs.Answers.{is_other_version, with_status}
use Rattle.binder_model.specs.At.{IsWrittenAt}
use Rattle.binder_model.specs.Licence.{ClaimMay, Licensed, binder_claim, claim_guard}
use Rattle.binder_model.specs.ObjectKeys.{claim_key}
use Rattle.binder_model.specs.OpsLicence.{MayClearNode}
use Rattle.binder_model.specs.Store.{admitted_object, at_version, class_name, created_object, default_class, leaves, updated_object, with_meta, with_status_of, without_status}
use Rattle.binder_model.specs.Told.{IsClaimWith, ToldClaim, ToldObject, own}
use Rattle.binder_model.specs.World.{Effect, IsHistory, World, world, world_after}
use Rattle.model_laws.proofs.Identity.{key-created, key-marked, key-updated}
use Rattle.model_laws.proofs.Lists.{none_some, one}
use Rattle.model_laws.proofs.Truths.{told_is_true}
use Rattle.safety_law.specs.Invariant.Writes.{IsCreate, IsLeaving, IsStatus, IsUpdate, Writes}
use Rattle.safety_law.proofs.Invariant.Whence.{marked_next, updated_next}
use Rattle.settle_measure.specs.Left.Measure.{is_seeking, left_of, left_on}
use Rattle.settle_measure.proofs.Left.Aside.{claim_gone, claim_put}
use Rattle.settle_measure.proofs.Left.Bounds.{claim_most}
use Rattle.settle_measure.proofs.Left.Entries.{Put, Took}
use Rattle.settle_measure.proofs.Left.Words.{value_without}
use Rattle.settle_measure.proofs.Binding.Binding.{seeking_parts}
use Rattle.settle_measure.proofs.Binding.Claims.{rewritten_claim}
use Rattle.settle_writes.proofs.Done.Doing.{stands_it, told_one}
use Rattle.settle_round_calls.proofs.Rise.Volumes.{gone_costs, new_costs, put_costs}

-- the binder, the provisioner and reclaimer, and the protection controllers
abbrev pub IsPlain : SeatKind → Type 0
IsPlain seats.User = ⊥
IsPlain seats.Binder = ⊤
IsPlain seats.Ops = ⊤
IsPlain seats.Scheduler = ⊥
IsPlain seats.ClaimProtect = ⊤
IsPlain seats.VolumeProtect = ⊤
IsPlain seats.Agent = ⊥

-- ---- what is written

pub data Writing (w : World) (o : Object) : Type 0 where
  OverVolume : (v new : VolumeData) → o ≡ Volume new → row_at (key_of (Volume new)) w.store.rows ≡ Some (Volume v) → Writing w o
  NewVolume : (new : VolumeData) → o ≡ Volume new → row_at (key_of (Volume new)) w.store.rows ≡ None → leaves (Volume new) ≡ false → Writing w o
  OverClaim : (c new : ClaimData) → o ≡ Claim new → row_at (key_of (Claim new)) w.store.rows ≡ Some (Claim c) → (is_seeking new ≡ true → is_seeking c ≡ true) → Writing w o

over_volume : (w : World) (o old : Object) → row_at (key_of o) w.store.rows ≡ Some old → kind_index (kind_of o) ≡ 2 → Writing w o
over_volume w (Volume new) old there kind = by old there (ap (λ (k : Key). kind_index k.kind) (row_at_key (key_of (Volume new)) old w.store.rows there))
  where
    by : (x : Object) → row_at (key_of (Volume new)) w.store.rows ≡ Some x → kind_index (kind_of x) ≡ 2 → Writing w (Volume new)
    by (Volume v) at is = OverVolume v new refl at
    by (Class x) at is = absurd (omega (arith, is))
    by (Node x) at is = absurd (omega (arith, is))
    by (Claim x) at is = absurd (omega (arith, is))
    by (Pod x) at is = absurd (omega (arith, is))
over_volume w (Class x) old there kind = absurd (omega (arith, kind))
over_volume w (Node x) old there kind = absurd (omega (arith, kind))
over_volume w (Claim x) old there kind = absurd (omega (arith, kind))
over_volume w (Pod x) old there kind = absurd (omega (arith, kind))

-- ---- what a row of the licence makes of a claim

-- the claim as it is then written waits for a volume only where this one does
abbrev Seeks : ClaimData → ClaimData → ℕ → Type 0
Seeks c new n = is_seeking (rewritten_claim c new n) ≡ true → is_seeking c ≡ true

module _ (mine : List Entry) (new c : ClaimData) (n : ℕ) where
  so : is_completed new ≡ is_completed c → is_empty new.volume_name ≡ is_empty c.volume_name → Seeks c new n
  so a e h = (λ i. (not ((sym a) i) && not (is_deleting c.meta)) && (sym e) i) ∙ h

  binder_seeks : (b : Bool) → is_completed new ≡ b → ClaimMay (binder_claim b) mine new c → Seeks c new n
  binder_seeks true completed row h = absurd (true≢false (sym completed ∙ (seeking_parts (rewritten_claim c new n) h).open_))
  binder_seeks false completed row h =
      let undone = row.undone in
      let staying = row.staying in
      rw (undone, staying) (ap is_empty row.unnamed)

  guard_seeks : (b : Bool) → ClaimMay (claim_guard b) mine new c → Seeks c new n
  guard_seeks true row = so (ap (λ (m : Meta). has_key bind_completed m.annotations) row.guard.change) (ap (λ (x : ClaimData). is_empty x.volume_name) row.rest)
  guard_seeks false row = so (ap (λ (x : ClaimData). is_completed x) row.change) (ap (λ (x : ClaimData). is_empty x.volume_name) row.change)

  cleared_seeks : MayClearNode mine c new → Seeks c new n
  cleared_seeks row = so (ap (λ (x : ClaimData). is_completed x) row.change ∙ ap is_some
      (value_without bind_completed selected_node c.meta.annotations refl)) (ap (λ (x : ClaimData). is_empty x.volume_name) row.change)

-- ---- a claim is written over the one that was told

pub record Rewrites (w : World) (new : ClaimData) (o : Object) (Row : ClaimData → Type 0) : Type 0 where
  pub on : ClaimData
  pub row : Row on
  pub there : row_at (key_of o) w.store.rows ≡ Some (Claim on)
  pub is : o ≡ Claim (rewritten_claim on new (w.store.version + 1))

module _ (setup : Setup) (seat : ℕ) (h : List Entry) (history : IsHistory setup h) where
  pub rewrites : (kind : SeatKind) (new : ClaimData) (given : Option ℕ) (o : Object) (Row : ClaimData → Type 0)
      → ToldClaim (λ c. IsWrittenAt given new.meta.namespace new.meta.name c.meta × Row c) (own seat h)
      → IsUpdate (world setup h).store kind (Claim new) given o → Rewrites (world setup h) new o Row
  unfolding updated_object with_meta with_status_of
  rewrites kind new given o Row told u = by t.0 t.1 t.2
    where
      t : (x : Object) × ToldObject (λ y. y ≡ x) (own seat h) × IsClaimWith (λ c. IsWrittenAt given new.meta.namespace new.meta.name c.meta × Row c) x
      t = told_one (IsClaimWith (λ c. IsWrittenAt given new.meta.namespace new.meta.name c.meta × Row c)) (own seat h) told

      by : (x : Object) → ToldObject (λ y. y ≡ x) (own seat h) → IsClaimWith (λ c. IsWrittenAt given new.meta.namespace new.meta.name c.meta × Row c) x → Rewrites (world setup h) new o Row
      by (Claim c) it is =
          let keyed : key_of (Claim c) ≡ key_of (Claim new) = λ i. claim_key (is.0.placed i) (is.0.named i) in
          let same : u.old ≡ Claim c = stands_it setup h (Claim c) u.old (key_of (Claim new)) (told_is_true setup h seat (Claim c) history it) keyed
          u.there (subst (λ g. is_other_version g (meta_of u.old).version ≡ false) is.0.version u.version) in
          let is_o : o ≡ Claim (rewritten_claim c new ((world setup h).store.version + 1)) = u.is ∙ ap (λ y. updated_object y (Claim new) ((world setup h).store.version + 1)) same in
          record { on = c; row = is.1; there = ap (λ y. row_at (key_of y) (world setup h).store.rows) is_o ∙ (u.there ∙ ap Some same); is = is_o }
      by (Class x) it is = absurd is
      by (Node x) it is = absurd is
      by (Volume x) it is = absurd is
      by (Pod x) it is = absurd is

  module _ (o : Object) where
    abbrev w : World
    w = world setup h

    claim_over : (new : ClaimData) (Row : ClaimData → Type 0) → ((c : ClaimData) → Row c → Seeks c new (w.store.version + 1)) → Rewrites w new o Row → Writing w o
    claim_over new Row seeks r =
        OverClaim r.on (rewritten_claim r.on new (w.store.version + 1)) r.is (ap (λ x. row_at (key_of x) w.store.rows) (sym r.is) ∙ r.there) (seeks r.on r.row)

    volume_over : (kind : SeatKind) (new : VolumeData) (given : Option ℕ) → Writes w kind (requests.Update (Volume new) given) o → Writing w o
    volume_over kind new given u = over_volume w o u.old (updated_next w.store kind (Volume new) given o u).there (ap
        (λ (k : Key). kind_index k.kind) (ap key_of u.is ∙ key-updated u.old (Volume new) (w.store.version + 1)))

    status_over : (kind : SeatKind) (key : Key) (status : NewStatus) (given : Option ℕ) → IsStatus w.store kind key status given o → Writing w o
    unfolding with_status at_version with_meta
    status_over kind key (statuses.Volume phase) given i = by i.old i.there i.fits
      where
        by : (old : Object) → row_at key w.store.rows ≡ Some old → with_status (statuses.Volume phase) old ≡ Some i.new → Writing w o
        by (Volume v) there e =
            let is : o ≡ Volume (record v { phase = phase; meta = record v.meta { version = w.store.version + 1 } }) = i.is ∙ ap (λ x. at_version x (w.store.version + 1)) (sym (one _ i.new e)) in
            OverVolume v (record v { phase = phase; meta = record v.meta { version = w.store.version + 1 } }) is
            (ap (λ k. row_at k w.store.rows) (row_at_key key (Volume v) w.store.rows there) ∙ there)
        by (Class x) there e = none_some e
        by (Node x) there e = none_some e
        by (Claim x) there e = none_some e
        by (Pod x) there e = none_some e
    status_over kind key (statuses.Claim phase modes amount) given i = by i.old i.there i.fits
      where
        by : (old : Object) → row_at key w.store.rows ≡ Some old → with_status (statuses.Claim phase modes amount) old ≡ Some i.new → Writing w o
        by (Claim c) there e =
            let new : ClaimData = record c { phase = phase; got_modes = modes; got = amount; meta = record c.meta { version = w.store.version + 1 } } in
            let is : o ≡ Claim new = i.is ∙ ap (λ x. at_version x (w.store.version + 1)) (sym (one _ i.new e)) in
            OverClaim c new is (ap (λ k. row_at k w.store.rows) (row_at_key key (Claim c) w.store.rows there) ∙ there) (λ e. e)
        by (Class x) there e = none_some e
        by (Node x) there e = none_some e
        by (Volume x) there e = none_some e
        by (Pod x) there e = none_some e

    made : (kind : SeatKind) (v : VolumeData) → IsCreate w.store kind w.moment (Volume v) o → Writing w o
    unfolding created_object admitted_object without_status with_meta leaves
    made kind v i = NewVolume _ i.is (ap (λ k. row_at k w.store.rows) (key-created (class_name (default_class w.store.rows)) (Volume v) (w.store.version + 1) w.moment) ∙ i.free) refl

    -- by the kind of the controller
    pub writing : (kind : SeatKind) (r : Request) → IsPlain kind → Licensed kind (own seat h) r → Writes w kind r o → Writing w o
    writing seats.User r plain may i = absurd plain
    writing seats.Scheduler r plain may i = absurd plain
    writing seats.Agent r plain may i = absurd plain
    writing kind (requests.Update (Volume new) given) plain may u = volume_over kind new given u
    writing kind (requests.UpdateStatus key status given) plain may i = status_over kind key status given i
    writing seats.Binder (requests.Update (Claim new) given) plain may u =
        claim_over new (λ c. ClaimMay (binder_claim (is_completed new)) (own seat h) new c) (λ c row. binder_seeks (own seat h) new c (w.store.version + 1) (is_completed new) refl row)
        (rewrites seats.Binder new given o (λ c. ClaimMay (binder_claim (is_completed new)) (own seat h) new c) may.1 u)
    writing seats.ClaimProtect (requests.Update (Claim new) given) plain may u =
        claim_over new (λ c. ClaimMay (claim_guard (is_protected_claim new)) (own seat h) new c) (λ c row. guard_seeks (own seat h) new c (w.store.version + 1) (is_protected_claim new) row)
        (rewrites seats.ClaimProtect new given o (λ c. ClaimMay (claim_guard (is_protected_claim new)) (own seat h) new c) may.1 u)
    writing seats.Ops (requests.Update (Claim new) given) plain may u =
        claim_over new (λ c. MayClearNode (own seat h) c new) (λ c row. cleared_seeks (own seat h) new c (w.store.version + 1) row)
        (rewrites seats.Ops new given o (λ c. MayClearNode (own seat h) c new) may.1 u)
    writing seats.Ops (requests.Create (Volume v)) plain may i = made seats.Ops v i
    writing seats.Ops (requests.Delete key (Some uid)) plain may i =
        over_volume w o i.old (marked_next w.store w.moment key (Some uid) o i).there
        (ap (λ (k : Key). kind_index k.kind) (ap key_of i.is ∙ (key-marked i.old (w.store.version + 1) w.moment ∙ row_at_key key i.old w.store.rows i.there)) ∙ ap kind_index may.1.0)
    writing seats.Ops (requests.Delete key None) plain may i = absurd may.1
    writing seats.Ops (requests.Create (Class x)) plain may i = absurd may.1
    writing seats.Ops (requests.Create (Node x)) plain may i = absurd may.1
    writing seats.Ops (requests.Create (Claim x)) plain may i = absurd may.1
    writing seats.Ops (requests.Create (Pod x)) plain may i = absurd may.1
    writing seats.Ops (requests.Update (Class x) given) plain may i = absurd may.1
    writing seats.Ops (requests.Update (Node x) given) plain may i = absurd may.1
    writing seats.Ops (requests.Update (Pod x) given) plain may i = absurd may.1
    writing seats.Ops (requests.Edit key change) plain may i = absurd may.1
    writing seats.Ops (requests.BindPod key uid node) plain may i = absurd may.1
    writing seats.Ops (requests.FinishPod key uid node epoch) plain may i = absurd may.1
    writing seats.Binder (requests.Create x) plain may i = absurd may.1
    writing seats.Binder (requests.Update (Class x) given) plain may i = absurd may.1
    writing seats.Binder (requests.Update (Node x) given) plain may i = absurd may.1
    writing seats.Binder (requests.Update (Pod x) given) plain may i = absurd may.1
    writing seats.Binder (requests.Edit key change) plain may i = absurd may.1
    writing seats.Binder (requests.Delete key given) plain may i = absurd may.1
    writing seats.Binder (requests.BindPod key uid node) plain may i = absurd may.1
    writing seats.Binder (requests.FinishPod key uid node epoch) plain may i = absurd may.1
    writing seats.ClaimProtect (requests.Create x) plain may i = absurd may.1
    writing seats.ClaimProtect (requests.Update (Class x) given) plain may i = absurd may.1
    writing seats.ClaimProtect (requests.Update (Node x) given) plain may i = absurd may.1
    writing seats.ClaimProtect (requests.Update (Pod x) given) plain may i = absurd may.1
    writing seats.ClaimProtect (requests.Edit key change) plain may i = absurd may.1
    writing seats.ClaimProtect (requests.Delete key given) plain may i = absurd may.1
    writing seats.ClaimProtect (requests.BindPod key uid node) plain may i = absurd may.1
    writing seats.ClaimProtect (requests.FinishPod key uid node epoch) plain may i = absurd may.1
    writing seats.VolumeProtect (requests.Create x) plain may i = absurd may.1
    writing seats.VolumeProtect (requests.Update (Claim new) given) plain may i = absurd may.1
    writing seats.VolumeProtect (requests.Update (Class x) given) plain may i = absurd may.1
    writing seats.VolumeProtect (requests.Update (Node x) given) plain may i = absurd may.1
    writing seats.VolumeProtect (requests.Update (Pod x) given) plain may i = absurd may.1
    writing seats.VolumeProtect (requests.Edit key change) plain may i = absurd may.1
    writing seats.VolumeProtect (requests.Delete key given) plain may i = absurd may.1
    writing seats.VolumeProtect (requests.BindPod key uid node) plain may i = absurd may.1
    writing seats.VolumeProtect (requests.FinishPod key uid node epoch) plain may i = absurd may.1
    writing kind _ plain may i = absurd i

-- ---- what that costs

module _ (w : World) (x : Effect) (request : Request) where
  pub after_put : (o : Object) → Put w x o → left_of (world_after w x) ≡ left_on (put_row o w.store.rows) w.devices
  after_put o put = ap (λ rows. left_on rows (world_after w x).devices) put.rows ∙ ap (left_on (put_row o w.store.rows)) put.devices

  pub after_took : (o : Object) → Took w x request o → left_of (world_after w x) ≡ left_on (without_row (key_of o) w.store.rows) w.devices
  after_took o took = ap (λ rows. left_on rows (world_after w x).devices) took.rows ∙ ap (left_on (without_row (key_of o) w.store.rows)) took.devices

  pub write_costs : (o : Object) → AreRows w.store.rows → Writing w o → Put w x o ⊎ Took w x request o → left_of (world_after w x) ≤ left_of w + 28
  write_costs o order (OverVolume v new is at) (inl put) =
      let same : key_of (Volume v) ≡ key_of (Volume new) = row_at_key (key_of (Volume new)) (Volume v) w.store.rows at in
      let now = after_put (Volume new) (subst (Put w x) is put) in
      let costs = put_costs w.store.rows w.devices order v (ap (λ k. row_at k w.store.rows) same ∙ at) new (sym same) in
      omega (arith, now, costs)
  write_costs o order (OverVolume v new is at) (inr took) =
      let same : key_of (Volume v) ≡ key_of (Volume new) = row_at_key (key_of (Volume new)) (Volume v) w.store.rows at in
      let now = after_took (Volume new) (subst (Took w x request) is took) in
      let key : left_on (without_row (key_of (Volume v)) w.store.rows) w.devices ≡ left_on
      (without_row (key_of (Volume new)) w.store.rows) w.devices = ap (λ k. left_on (without_row k w.store.rows) w.devices) same in
      let costs = gone_costs w.store.rows w.devices order v (ap (λ k. row_at k w.store.rows) same ∙ at) in
      omega (arith, now, key, costs)
  write_costs o order (NewVolume new is free stays) (inl put) =
      let now = after_put (Volume new) (subst (Put w x) is put) in
      let costs = new_costs w.store.rows w.devices new order free in
      omega (arith, now, costs)
  write_costs o order (NewVolume new is free stays) (inr took) = absurd (true≢false (sym (subst (IsLeaving request) is took.leaves) ∙ stays))
  write_costs o order (OverClaim c new is at seeks) (inl put) =
      let same : key_of (Claim c) ≡ key_of (Claim new) = row_at_key (key_of (Claim new)) (Claim c) w.store.rows at in
      let now = after_put (Claim new) (subst (Put w x) is put) in
      let costs = claim_put w.store.rows w.devices c new order (sym same) (ap (λ k. row_at k w.store.rows) same ∙ at) seeks in
      let most = claim_most w.store.rows w.devices new in
      omega (arith, now, costs, most)
  write_costs o order (OverClaim c new is at seeks) (inr took) =
      let same : key_of (Claim c) ≡ key_of (Claim new) = row_at_key (key_of (Claim new)) (Claim c) w.store.rows at in
      let now = after_took (Claim new) (subst (Took w x request) is took) in
      let key : left_on (without_row (key_of (Claim c)) w.store.rows) w.devices ≡ left_on (without_row (key_of (Claim new)) w.store.rows) w.devices =
      ap (λ k. left_on (without_row k w.store.rows) w.devices) same in
      let costs = claim_gone w.store.rows w.devices c order (ap (λ k. row_at k w.store.rows) same ∙ at) in
      omega (arith, now, key, costs)
