-- A pod that stood on a node since its holder took it stands until the holder asks to finish it.
use Rattle.std.proofs.Common.{sym, refl, subst, inl, inr, ap, ◌∙◌, true≢false, arith}
use Rattle.std.proofs.lemmas.Bool.Decides.{nat_tests}
use Rattle.std.specs.Prelude.{ℕ, ◌≡◌, ◌==◌, Bool, true, false, not, ◌||◌, List, [], ◌∷◌, Option, Some, None, unwrap_or}
use Rattle.std.specs.List.{list_any}
use Rattle.kube_parts.specs.declared.uid.Uid.{Uid}
use Rattle.kube_objects.specs.declared.key.Key.{Key}
use Rattle.kube_objects.specs.declared.objects.Pod.{Pod as PodData}
use Rattle.kube_objects.specs.declared.objects.Object.{Object}
use Rattle.kube_objects.specs.declared.objects.Object.TheVariants.{Class, Node, Volume, Claim, Pod}
use Rattle.kube_objects.specs.Keys.{key_of, kind_index, row_at}
use Rattle.kube_objects.specs.Bindings.{is_scheduled, is_empty}
use Rattle.kube_objects.proofs.KeyOrder.{row_at_key}
use Rattle.call_types.specs.declared.entry.Entry.{Entry}
use Rattle.call_types.specs.declared.setup.Setup.{Setup}
use Rattle.call_types.specs.declared.request.SeatKind.{SeatKind}
use Rattle.call_types.specs.declared.request.SeatKind.TheVariants as seats
use Rattle.call_types.specs.declared.request.Request.{Request}
use Rattle.call_types.specs.declared.request.Request.TheVariants as requests
use Rattle.binder_model.specs.Answers.{is_user}
use Rattle.binder_model.specs.Devices.{epoch_of}
use Rattle.binder_model.specs.AgentLicence.{MayFinish, never_finished, is_finish_of}
use Rattle.binder_model.specs.Licence.{Licensed}
use Rattle.binder_model.specs.World.{World, world}
use Rattle.binder_model.specs.Told.{own}
use Rattle.binder_model.specs.Run.{Run}
use Rattle.binder_model.specs.Store.{at_version}
use Rattle.model_laws.proofs.Identity.{key-at_version}
use Rattle.safety_law.specs.Invariant.Writes.{IsLeaving, Writes, PodGoes}
use Rattle.safety_law.specs.Invariant.Whence.{IsNext}
use Rattle.safety_law.proofs.Invariant.Moves.{moves}
use Rattle.safety_law.proofs.Invariant.DeviceMoves.{stale_none}
use Rattle.safety_law.proofs.Invariant.Tests.{same_text, uid_is}
use Rattle.safety_law.specs.Invariant.Was.{KindStep, PodStep, Made}
use Rattle.safety_law.specs.Invariant.Good.{Good}
use Rattle.safety_law.proofs.Invariant.Known.{invariant_of}
use Rattle.safety_law.specs.Invariant.Holders.{Holds}
use Rattle.safety_law.proofs.Invariant.Holders.{HolderStep, Took, Mine, Other, holder_step, one_holder}
use Rattle.safety_law.proofs.Mounts.Since.{takes_node, Unless, WasSince}
use Rattle.safety_law.specs.Mounts.Mounts.{StandsOn}
use Rattle.std.proofs.lemmas.Option.{same_Some, none-some}
use Rattle.safety_law.proofs.Invariant.Objects.{pod_keyed, some_pod}
use Rattle.safety_law.proofs.Invariant.Tests.{uid_same}
use Rattle.model_laws.specs.Stood.{Stands}

pub itself_on : (w : World) (p : PodData) → Stands w (Pod p) → StandsOn w p
itself_on w p is = record { pod = p; there = is; uid = refl; node = refl; claims = refl }

-- a pod that was made of one that stands
record PodCame (setup : Setup) (past : List Entry) (q p : PodData) : Type 0 where
  next : IsNext (world setup past).store (Pod q) (Pod p)
  step : PodStep q p

pod_came : (setup : Setup) (past : List Entry) (q p : PodData) → row_at (key_of (Pod p)) (world setup past).store.rows ≡ Some (Pod q)
    → Made setup past (Pod p) → PodCame setup past q p
pod_came setup past q p is (inl s) = absurd (none-some _ (sym s.first.free ∙ is))
pod_came setup past q p is (inr f) = by f.old f.next f.step (same_Some f.old (Pod q) (sym f.next.there ∙ is))
  where
    by : (old : Object) → IsNext (world setup past).store old (Pod p) → KindStep setup past old (Pod p) → old ≡ Pod q → PodCame setup past q p
    by (Pod a) n s e =
        let same : a ≡ q = some_pod a q (ap (λ (o : Object). Some o) e) in
        subst (λ (x : PodData). PodCame setup past x p) same (record { next = n; step = s })
    by (Class a) n s e = absurd (omega (arith, ap (λ o. kind_index (key_of o).kind) e))
    by (Node a) n s e = absurd (omega (arith, ap (λ o. kind_index (key_of o).kind) e))
    by (Volume a) n s e = absurd (omega (arith, ap (λ o. kind_index (key_of o).kind) e))
    by (Claim a) n s e = absurd (omega (arith, ap (λ o. kind_index (key_of o).kind) e))

-- the pod was finished by an allowed FinishPod of the holder of its node
pub record IsFinished (setup : Setup) (e : Entry) (past : List Entry) (node : List ℕ) (uid : Uid) : Type 0 where
  pub key : Key
  pub epoch : ℕ
  pub asked : e.request ≡ requests.FinishPod key uid node epoch
  pub row : MayFinish (own e.seat past) key uid node epoch
  pub holds : Holds setup past node e.seat

finish_row : (mine : List Entry) (kind : SeatKind) (key : Key) (uid : Uid) (node : List ℕ) (epoch : ℕ) → is_user kind ≡ false
    → Licensed kind mine (requests.FinishPod key uid node epoch) → MayFinish mine key uid node epoch
finish_row mine seats.User key uid node epoch c l = absurd (true≢false c)
finish_row mine seats.Agent key uid node epoch c l = l.1
finish_row mine kind key uid node epoch c l = absurd l.1

-- the pod of a FinishPod is the one at the key of what is written
finished_is : (rows : List Object) (q : PodData) (k : Key) → row_at k rows ≡ Some (Pod q) → (p : PodData) → key_of (Pod p) ≡ k
    → (f : PodData) (key : Key) (n : ℕ) → row_at key rows ≡ Some (Pod f) → Pod p ≡ at_version (Pod f) n → f ≡ q
finished_is rows q k is p at f key n there e =
    let same : key_of (Pod f) ≡ k = sym (key-at_version (Pod f) n) ∙ ap key_of (sym e) ∙ at in
    let here : row_at k rows ≡ Some (Pod f) = ap (λ j. row_at j rows) (sym same ∙ row_at_key key (Pod f) rows there) ∙ there in
    some_pod f q (sym here ∙ is)

-- a scheduled pod that stood and stands no more was finished
pod_finished : (setup : Setup) (e : Entry) (past : List Entry) → Good setup (e ∷ past) → Run setup (e ∷ past) → (q : PodData) (k : Key) (uid : Uid)
    → row_at k (world setup past).store.rows ≡ Some (Pod q) → is_scheduled q ≡ true → q.meta.uid ≡ Some uid
    → row_at k (world setup (e ∷ past)).store.rows ≡ None → IsFinished setup e past q.node uid
pod_finished setup e past g run q k uid is scheduled known none =
    let w = world setup past in
    let a = g.1.left k (Pod q) is none in
    let b = (moves setup w e.kind e.request (invariant_of setup past g.0).order).left k (Pod q) is none in
    let p = pod_keyed a.last q (row_at_key k (Pod q) _ is ∙ sym a.key) in
    let same : b.last ≡ a.last = same_Some b.last a.last (sym b.written.is ∙ a.written.is) in
    by e.request refl p.0 (subst (Made setup past) p.1 a.written.write) (sym (ap key_of p.1) ∙ a.key)
    (subst (IsLeaving e.request) p.1 a.leaving)
    (subst (λ (o : Object). Writes w e.kind e.request o) (same ∙ p.1) b.written.write)
  where
    by : (request : Request) → e.request ≡ request → (p : PodData) → Made setup past (Pod p) → key_of (Pod p) ≡ k → PodGoes request p
        → Writes (world setup past) e.kind request (Pod p) → IsFinished setup e past q.node uid
    by (requests.FinishPod key u node epoch) r p made at goes f =
        let n : f.pod.node ≡ node = same_text f.pod.node node f.placed in
        let pod_is : f.pod ≡ q = finished_is (world setup past).store.rows q k is p at f.pod key _ f.there f.is in
        let q_node : q.node ≡ node = ap (λ (x : PodData). x.node) (sym pod_is) ∙ n in
        let u_is : Some u ≡ Some uid = sym (uid_is f.pod.meta.uid u f.same) ∙ ap (λ (x : PodData). x.meta.uid) pod_is ∙ known in
        let one_u : u ≡ uid = ap (λ x. unwrap_or x u) u_is in
        let now : epoch ≡ epoch_of node (world setup past).devices.epochs = stale_none (world setup past).devices node epoch f.current in
        let row = finish_row (own e.seat past) e.kind key u node epoch f.controller (subst (Licensed e.kind (own e.seat past)) r run.2) in
        subst (λ (x : List ℕ). IsFinished setup e past x uid) (sym q_node)
        (subst (IsFinished setup e past node) one_u (record { key = key; epoch = epoch; asked = r; row = row; holds = row.current ∙ ap (λ (z : ℕ). Some z) now }))
    by (requests.Delete key given) r p made at goes f =
        let there : row_at (key_of (Pod p)) (world setup past).store.rows ≡ Some (Pod q) = ap (λ j. row_at j (world setup past).store.rows) at ∙ is in
        let c = pod_came setup past q p there made in
        absurd (true≢false (sym scheduled ∙ ap (λ (x : List ℕ). not (is_empty x)) (sym (c.step.placed scheduled)) ∙ goes))
    by request r p made at goes f = absurd goes

-- what stood on stands on, or was finished
pub pod_next : (setup : Setup) (e : Entry) (past : List Entry) → Good setup (e ∷ past) → Run setup (e ∷ past) → (p : PodData) (uid : Uid)
    → is_scheduled p ≡ true → p.meta.uid ≡ Some uid → StandsOn (world setup past) p
    → (IsFinished setup e past p.node uid → ⊥) → StandsOn (world setup (e ∷ past)) p
pod_next setup e past g run p uid scheduled known s not_finished = by (row_at (key_of (Pod p)) (world setup (e ∷ past)).store.rows) refl
  where
    q_scheduled : is_scheduled s.pod ≡ true
    q_scheduled = ap (λ (x : List ℕ). not (is_empty x)) s.node ∙ scheduled

    stands : (q : PodData) → row_at (key_of (Pod p)) (world setup (e ∷ past)).store.rows ≡ Some (Pod q) → StandsOn (world setup (e ∷ past)) p
    stands q is = elim (g.1.row (key_of (Pod p)) (Pod q) is) [
      | inl same ↦
          let e1 : s.pod ≡ q = some_pod s.pod q (sym s.there ∙ same) in
          record {
            pod = q;
            there = is;
            uid = ap (λ (x : PodData). x.meta.uid) (sym e1) ∙ s.uid;
            node = ap (λ (x : PodData). x.node) (sym e1)
                ∙ s.node;
            claims = ap (λ (x : PodData). x.claims) (sym e1) ∙ s.claims;
          }
      | inr new ↦
          let at = row_at_key (key_of (Pod p)) (Pod q) (world setup (e ∷ past)).store.rows is in
          let c = pod_came setup past s.pod q (ap (λ j. row_at j (world setup past).store.rows) at ∙ s.there) new.write in
          record { pod = q; there = is; uid = c.next.keeps.uid ∙ s.uid; node = c.step.placed q_scheduled ∙ s.node; claims = c.step.claims ∙ s.claims }
    ]

    by : (x : Option Object) → row_at (key_of (Pod p)) (world setup (e ∷ past)).store.rows ≡ x → StandsOn (world setup (e ∷ past)) p
    by None is = absurd (not_finished (subst (λ (x : List ℕ). IsFinished setup e past x uid) s.node
        (pod_finished setup e past g run s.pod (key_of (Pod p)) uid s.there q_scheduled (s.uid ∙ known) is)))
    by (Some o) is =
        let q = pod_keyed o p (sym (row_at_key (key_of (Pod p)) o (world setup (e ∷ past)).store.rows is)) in
        stands q.0 (is ∙ ap (λ (x : Object). Some x) q.1)

or_none : (a b : Bool) → not (a || b) ≡ true → (a ≡ false) × (not b ≡ true)
or_none true b e = absurd (true≢false (sym e))
or_none false b e = (refl, e)

-- a pod on the node that was since the holder took it stands, if the holder never asked to finish it
pub pods_stay : (setup : Setup) (past : List Entry) → Good setup past → Run setup past → (node : List ℕ) (seat : ℕ) → Holds setup past node seat
    → (p : PodData) (uid : Uid) → p.node ≡ node → is_scheduled p ≡ true → p.meta.uid ≡ Some uid
    → WasSince setup seat node past (Pod p) → never_finished uid (own seat past) ≡ true → StandsOn (world setup past) p
pods_stay setup [] g run node seat holds p uid on scheduled known since never = itself_on (world setup []) p since
pods_stay setup (e ∷ past) g run node seat holds p uid on scheduled known since never =
    elim since [
      | inl now ↦ itself_on (world setup (e ∷ past)) p now
      | inr before ↦ by (λ h w n. pods_stay setup past g.0 run.0 node seat h p uid on scheduled known w n) before (holder_step setup e past g node seat holds)
    ]
  where
    was : (b : Bool) → takes_node seat node e ≡ b → b ≡ false → Unless (takes_node seat node e) (WasSince setup seat node past (Pod p))
        → WasSince setup seat node past (Pod p)
    was b e1 f u = subst (λ (x : Bool). Unless x (WasSince setup seat node past (Pod p))) (e1 ∙ f) u

    by : (Holds setup past node seat → WasSince setup seat node past (Pod p) → never_finished uid (own seat past) ≡ true → StandsOn (world setup past) p)
        → Unless (takes_node seat node e) (WasSince setup seat node past (Pod p)) → HolderStep setup e past node seat
        → StandsOn (world setup (e ∷ past)) p
    by f u (Took at flag none next) =
        let own_seat : (e.seat == seat) ≡ true = grind (arith, nat_tests) in
        let taken : takes_node seat node e ≡ true = rw (own_seat, flag) refl in
        absurd (subst (λ (x : Bool). Unless x (WasSince setup seat node past (Pod p))) taken u)
    by f u (Mine at flag o s same held) =
        let own_seat : (e.seat == seat) ≡ true = grind (arith, nat_tests) in
        let not_taken : takes_node seat node e ≡ false = rw (own_seat, flag) refl in
        let both_not = or_none (is_finish_of uid e.request) (list_any (λ x. is_finish_of uid x.request) (own seat past)) (ap (never_finished uid) (sym o) ∙ never) in
        pod_next setup e past g run p uid scheduled known (f held (was false not_taken refl u) both_not.1)
        (λ fin. true≢false (sym (ap (is_finish_of uid) fin.asked ∙ uid_same uid uid refl) ∙ both_not.0))
    by f u (Other apart o same held) =
        let not_taken : takes_node seat node e ≡ false = rw apart refl in
        pod_next setup e past g run p uid scheduled known (f held (was false not_taken refl u) (ap (never_finished uid) (sym o) ∙ never))
        (λ fin.
        let hold : Holds setup past node e.seat = subst (λ (x : List ℕ). Holds setup past x e.seat) on fin.holds in
        let one_seat : e.seat ≡ seat = one_holder setup past g.0 node e.seat seat hold held in
        let t : (e.seat == seat) ≡ true = grind (arith, nat_tests) in
        true≢false (sym t ∙ apart))
