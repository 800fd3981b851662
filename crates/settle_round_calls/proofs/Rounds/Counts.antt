-- What stands never becomes more by the calls of controllers and agents, but for a volume at each write; whatever a call was decided on.
use Rattle.std.proofs.Common.{◌≡◌, ◌∙◌, ℕ, ◌+◌, ◌≤◌, List, [], ◌∷◌, ◌++◌, Bool, false, true≢false, Some, inl, inr, refl, sym, ap, subst, arith}
use Rattle.kube_objects.specs.declared.key.Key.{Key}
use Rattle.kube_parts.specs.declared.parts.Kind.TheVariants as kinds
use Rattle.kube_objects.specs.declared.objects.Object.{Object}
use Rattle.kube_objects.specs.declared.objects.Object.TheVariants.{Class, Node, Volume, Claim, Pod}
use Rattle.kube_objects.specs.Keys.{AreRows, key_of, kind_index, kind_of, row_at}
use Rattle.kube_objects.proofs.KeyOrder.{row_at_key}
use Rattle.call_types.specs.declared.entry.Entry.{Entry}
use Rattle.call_types.specs.declared.reply.Reply.{Reply}
use Rattle.call_types.specs.declared.request.Request.{Request}
use Rattle.call_types.specs.declared.request.Request.TheVariants as requests
use Rattle.call_types.specs.declared.request.SeatKind.{SeatKind}
use Rattle.call_types.specs.declared.setup.Setup.{Setup}
use Rattle.binder_model.specs.Licence.{Licensed}
use Rattle.binder_model.specs.Promises.{IsRunOf}
use Rattle.binder_model.specs.Store.{State}
use Rattle.binder_model.specs.Told.{own}
use Rattle.binder_model.specs.World.{World, effect, world}
use Rattle.model_laws.proofs.Histories.{rows_stand_in_order}
use Rattle.model_laws.proofs.Identity.{key-created}
use Rattle.safety_law.specs.Invariant.Writes.{Writes}
use Rattle.safety_law.proofs.Invariant.Effects.{effect_form}
use Rattle.settle_measure.specs.Left.Measure.{claims_in, faults_left, total, volumes_in}
use Rattle.worker_core.specs.declared.role.Role.{Role}
use Rattle.worker_core.specs.Absorbs.{woken}
use Rattle.worker_core.specs.Roles.{IsBuiltKind}
use Rattle.worker_core.specs.States.{ActorState}
use Rattle.actor_rounds.specs.Rounds.{Lets, Runs, told_entry}
use Rattle.settle_calls.proofs.Events.Rows.{put_total, without_total}
use Rattle.settle_writes.proofs.Done.Doing.{write_asked}
use Rattle.settle_calls.specs.Slots.Rounds.{names_in}
use Rattle.settle_progress.proofs.Epochs.Silent.{older_run}
use Rattle.settle_write_counts.specs.Rounds.Rounds.{pod_size}
use Rattle.settle_write_counts.proofs.Rounds.Growth.{Comes, IsFor, IsOver, of_pod}
use Rattle.settle_write_counts.proofs.Rounds.Made.{comes, is_create, volume_created}
use Rattle.settle_write_counts.proofs.Rounds.Nodes.{IsMoved}
use Rattle.settle_write_counts.proofs.Rounds.Runs.{IsCalled, run_moves}
use Rattle.settle_write_counts.proofs.Rounds.Slots.{ComesTo, Leaves, Wrote, comes_to}
use Rattle.settle_round_calls.proofs.Rest.Kept.{claims_are, is_claim, is_volume, of_kind, over_less, over_stays, volumes_are}
use Rattle.settle_round_calls.proofs.Rise.Rising.{faults_stay}
use Rattle.settle_round_calls.specs.UnderWay.Ends.{AreBy}

-- ---- what is written

-- it stands over what stood, or is a volume
data IsPut (rows : List Object) (o : Object) : Type 0 where
  OverOld : (old : Object) → row_at (key_of o) rows ≡ Some old → names_in o ≤ names_in old → IsPut rows o
  OfVolume : kind_of o ≡ kinds.PersistentVolume → IsPut rows o

module _ (w : World) (mine : List Entry) (kind : SeatKind) (built : IsBuiltKind kind) (o : Object) where
  of_comes : Comes w.store.rows o → IsPut w.store.rows o
  of_comes (IsOver old there names uid) = OverOld old there names
  of_comes (IsFor c uid there has keyed none) = OfVolume (ap (λ (k : Key). k.kind) keyed)

  stands_over : (r : Request) → is_create r ≡ false → Licensed kind mine r → Writes w kind r o → IsPut w.store.rows o
  stands_over r none may i = of_comes (comes w mine kind built r o may i (λ is. absurd (true≢false (sym is ∙ none))))

  is_put : (r : Request) → Licensed kind mine r → Writes w kind r o → IsPut w.store.rows o
  is_put (requests.Create x) may i = OfVolume (ap (λ (k : Key). k.kind) (ap key_of i.is ∙ key-created _ x _ _) ∙ volume_created kind mine x built may)
  is_put (requests.Update x given) may i = stands_over (requests.Update x given) refl may i
  is_put (requests.UpdateStatus key status given) may i = stands_over (requests.UpdateStatus key status given) refl may i
  is_put (requests.Edit key change) may i = stands_over (requests.Edit key change) refl may i
  is_put (requests.Delete key given) may i = stands_over (requests.Delete key given) refl may i
  is_put (requests.BindPod key uid node) may i = stands_over (requests.BindPod key uid node) refl may i
  is_put (requests.FinishPod key uid node epoch) may i = stands_over (requests.FinishPod key uid node epoch) refl may i
  is_put _ may i = absurd i

-- ---- rows

-- claims, pods and the claims that they name are no more, and volumes by one at most
record RowsFewer (old new : List Object) : Type 0 where
  claims : claims_in new ≤ claims_in old
  pods : total pod_size new ≤ total pod_size old
  volumes : volumes_in new ≤ volumes_in old + 1

names_less : (o was : Object) → kind_index (kind_of was) ≡ kind_index (kind_of o) → names_in o ≤ names_in was → pod_size o ≤ pod_size was
names_less (Pod p) was kind few = of_pod p was kind few
names_less (Class x) was kind few = omega arith
names_less (Node x) was kind few = omega arith
names_less (Volume x) was kind few = omega arith
names_less (Claim x) was kind few = omega arith

no_pods : (o : Object) → kind_index (kind_of o) ≡ 2 → pod_size o ≡ 0
no_pods (Pod p) kind = absurd (omega (arith, kind))
no_pods (Class x) kind = refl
no_pods (Node x) kind = refl
no_pods (Volume x) kind = refl
no_pods (Claim x) kind = refl

-- what is put adds itself at most
put_more : (f : Object → ℕ) (old new : List Object) (o : Object) → IsMoved old new o → total f new ≤ total f old + f o
put_more f old new o (inl put) = let e = ap (total f) put in let h = put_total f o old in omega (arith, e, h)
put_more f old new o (inr gone) = let e = ap (total f) gone in let h = without_total f (key_of o) old in omega (arith, e, h)

rows_fewer : (old new : List Object) → AreRows old → (o : Object) → IsMoved old new o → IsPut old o → RowsFewer old new
rows_fewer old new order o moved put =
    let co = claims_are old in
    let cn = claims_are new in
    let vo = volumes_are old in
    let vn = volumes_are new in
    by put co cn vo vn
  where
    by : IsPut old o → claims_in old ≡ total (of_kind is_claim) old → claims_in new ≡ total (of_kind is_claim) new
        → volumes_in old ≡ total (of_kind is_volume) old → volumes_in new ≡ total (of_kind is_volume) new → RowsFewer old new
    by (OverOld was there names) co cn vo vn =
        let c = over_stays is_claim old new order o was there moved in
        let v = over_stays is_volume old new order o was there moved in
        let same : kind_index (kind_of was) ≡ kind_index (kind_of o) = ap (λ (k : Key). kind_index k.kind) (row_at_key (key_of o) was old there) in
        record {
          claims = omega (arith, c, co, cn);
          pods = over_less pod_size old new order o was there (names_less o was same names) moved;
          volumes = omega (arith, v, vo, vn);
        }
    by (OfVolume kind) co cn vo vn =
        let c = put_more (of_kind is_claim) old new o moved in
        let v = put_more (of_kind is_volume) old new o moved in
        let p = put_more pod_size old new o moved in
        let of_claims : of_kind is_claim o ≡ 0 = ap is_claim kind in
        let of_volumes : of_kind is_volume o ≡ 1 = ap is_volume kind in
        let of_pods = no_pods o (ap kind_index kind) in
        record {
          claims = omega (arith, c, co, cn, of_claims);
          pods = omega (arith, p, of_pods);
          volumes = omega (arith, v, vo, vn, of_volumes);
        }

-- ---- worlds

-- so of worlds; volumes are more by the writes at most, and planned faults that are ahead are no more
pub record Fewer (setup : Setup) (w v : World) : Type 0 where
  pub claims : claims_in v.store.rows ≤ claims_in w.store.rows
  pub pods : total pod_size v.store.rows ≤ total pod_size w.store.rows
  pub volumes : volumes_in v.store.rows + w.store.version ≤ volumes_in w.store.rows + v.store.version
  pub faults : faults_left setup v.devices ≤ faults_left setup w.devices

no_more : (setup : Setup) (w : World) → Fewer setup w w
no_more setup w = record { claims = omega arith; pods = omega arith; volumes = omega arith; faults = omega arith }

joins : (setup : Setup) (u v w : World) → Fewer setup u v → Fewer setup v w → Fewer setup u w
joins setup u v w first then_ =
    let a = first.claims in
    let b = then_.claims in
    let c = first.pods in
    let d = then_.pods in
    let e = first.volumes in
    let f = then_.volumes in
    let g = first.faults in
    let h = then_.faults in
    record { claims = omega (arith, a, b); pods = omega (arith, c, d); volumes = omega (arith, e, f); faults = omega (arith, g, h) }

call_fewer : (setup : Setup) (e : Entry) (h : List Entry) → IsBuiltKind e.kind → IsRunOf setup (e ∷ h) → Fewer setup (world setup h) (world setup (e ∷ h))
call_fewer setup e h built run = by (comes_to (world setup h) (effect setup (world setup h) e.kind e.request))
  where
    order : AreRows (world setup h).store.rows
    order = rows_stand_in_order setup h

    ahead : faults_left setup (world setup (e ∷ h)).devices ≤ faults_left setup (world setup h).devices
    ahead = faults_stay setup (world setup h) e.kind e.request

    by : ComesTo (world setup h) (effect setup (world setup h) e.kind e.request) → Fewer setup (world setup h) (world setup (e ∷ h))
    by (Leaves same) =
        let c = ap (λ (s : State). claims_in s.rows) same in
        let p = ap (λ (s : State). total pod_size s.rows) same in
        let v = ap (λ (s : State). volumes_in s.rows) same in
        let n = ap (λ (s : State). s.version) same in
        record { claims = omega (arith, c); pods = omega (arith, p); volumes = omega (arith, v, n); faults = ahead }
    by (Wrote o written version moved) =
        let asked = write_asked setup (world setup h) e.kind e.request o (effect setup (world setup h) e.kind e.request) (effect_form setup (world setup h) e.kind e.request order) written in
        let few = rows_fewer (world setup h).store.rows (world setup (e ∷ h)).store.rows order o moved (is_put (world setup h) (own e.seat h) e.kind built o e.request run.run.2 asked) in
        let v = few.volumes in
        record { claims = few.claims; pods = few.pods; volumes = omega (arith, v, version); faults = ahead }

-- ---- entries of one kind, and slots

pub entries_fewer : (setup : Setup) (seat : ℕ) (kind : SeatKind) (newer h : List Entry) → IsBuiltKind kind → AreBy seat kind newer
    → IsRunOf setup (newer ++ h) → Fewer setup (world setup h) (world setup (newer ++ h))
entries_fewer setup seat kind [] h built each run = no_more setup (world setup h)
entries_fewer setup seat kind (e ∷ newer) h built each run =
    joins setup (world setup h) (world setup (newer ++ h)) (world setup (e ∷ newer ++ h)) (entries_fewer setup seat kind newer h built each.0 (older_run setup (e ∷ []) (newer ++ h) run))
    (call_fewer setup e (newer ++ h) (subst IsBuiltKind (sym each.1.of_kind) built) run)

pub slot_fewer : (setup : Setup) (lets : Lets) (seat : ℕ) (old after : ActorState) (h past : List Entry) (b left : ℕ) (idle : Bool)
    → IsBuiltKind old.role.kind → IsRunOf setup past → Runs lets seat after past left idle (woken old) h b
    → Fewer setup (world setup h) (world setup past)
slot_fewer setup lets seat old after h past b left idle built run runs =
    run_moves setup lets seat after past left idle run old.role built (Fewer setup) (no_more setup) (joins setup) calls (woken old) h b runs refl
  where
    calls : (x : ActorState) (request : Request) (reply : Reply) (g : List Entry) → x.role ≡ old.role → IsCalled setup seat x request reply g
        → Fewer setup (world setup g) (world setup (told_entry seat x request reply ∷ g))
    calls x request reply g is called = call_fewer setup (told_entry seat x request reply) g (subst (λ (r : Role). IsBuiltKind r.kind) (sym is) built) called.run
