-- A claim without its guard is not mounted, and nobody can mount it.
use Rattle.std.proofs.Common.{sym, refl, subst, inl, inr, ap, ◌∙◌, true≢false}
use Rattle.std.specs.Prelude.{if◌then◌else◌, ℕ, ◌≡◌, Bool, true, false, not, ◌&&◌, ◌||◌, List, [], ◌∷◌, ◌++◌, Some, bytes_eq, unwrap_or}
use Rattle.std.specs.List.{list_any}
use Rattle.kube_parts.specs.declared.uid.Uid.{Uid}
use Rattle.kube_parts.specs.declared.parts.Kind.TheVariants as kinds
use Rattle.kube_objects.specs.declared.objects.Claim.{Claim as ClaimData}
use Rattle.kube_objects.specs.declared.objects.Pod.{Pod as PodData}
use Rattle.kube_objects.specs.declared.objects.Object.{Object}
use Rattle.kube_objects.specs.declared.objects.Object.TheVariants.{Claim, Pod}
use Rattle.kube_objects.specs.Keys.{key_of, row_at}
use Rattle.kube_objects.specs.Bindings.{is_empty, has_name, is_scheduled, is_deleting, uses}
use Rattle.kube_objects.proofs.KeyOrder.{row_at_key}
use Rattle.call_types.specs.declared.entry.Entry.{Entry}
use Rattle.call_types.specs.declared.setup.Setup.{Setup}
use Rattle.call_types.specs.declared.request.Request.{Request}
use Rattle.call_types.specs.declared.request.Request.TheVariants as requests
use Rattle.call_types.specs.declared.reply.Reply.{Reply}
use Rattle.call_types.specs.declared.reply.Reply.TheVariants.{Found, Listed}
use Rattle.binder_model.specs.ObjectKeys.{claim_key}
use Rattle.binder_model.specs.Told.{ToldClaim, After, own}
use Rattle.binder_model.specs.GuardLicence.{IsDeletingVersion, TellsUnused, IsPodList}
use Rattle.binder_model.specs.AgentLicence.{is_get_of, last_get, never_finished, since_epoch, is_finish_of}
use Rattle.binder_model.specs.World.{world, effect, reply_to}
use Rattle.binder_model.specs.Run.{Run}
use Rattle.model_laws.proofs.Readings.{lists_tell_what_stands}
use Rattle.safety_law.specs.Invariant.Writes.{IsIn}
use Rattle.safety_law.specs.Invariant.Was.{Unguards}
use Rattle.safety_law.specs.Invariant.Invariant.{IsOld}
use Rattle.safety_law.proofs.Invariant.Came.{row_was, older, claim_came}
use Rattle.safety_law.proofs.Invariant.KeptBindings.{kept_of}
use Rattle.safety_law.specs.Invariant.Good.{Good}
use Rattle.safety_law.proofs.Invariant.Known.{invariant_of, told_was, told_claim}
use Rattle.safety_law.specs.Invariant.Holders.{Holds}
use Rattle.safety_law.proofs.Invariant.Holders.{HolderStep, Took, Mine, Other, holder_step, OwnStep, Own, Others, own_step}
use Rattle.safety_law.proofs.Mounts.Unmounted.{new_mount}
use Rattle.safety_law.specs.Mounts.Mounts.{StandsOn, IsHalfReady, Mountless, MayGo, AreDeleting, IsGoing, LooseMayGo}
use Rattle.safety_law.proofs.Mounts.Since.{no_split, head_of, tail_of}
use Rattle.safety_law.proofs.Mounts.Ready.{found_row, read_was}
use Rattle.safety_law.proofs.Mounts.Mounts.{half_ready, mount_is_agents, shown_stands, mounted}
use Rattle.std.proofs.lemmas.Bool.{and_parts}
use Rattle.std.proofs.lemmas.Option.{none-some}
use Rattle.safety_law.proofs.Invariant.Tests.{text_same}
use Rattle.binder_model.specs.Licence.{AreOfKind}
use Rattle.call_types.specs.declared.request.SeatKind.TheVariants as seats
use Rattle.model_laws.specs.Stood.{Stood}
use Rattle.safety_law.proofs.Invariant.Came.{old_stood}

pub kept_deleting : (setup : Setup) (e : Entry) (past : List Entry) → Good setup (e ∷ past) → (u : Uid)
    → IsOld (world setup past).store.version (Some u) → AreDeleting setup past u → AreDeleting setup (e ∷ past) u
kept_deleting setup e past g u old d = kept_of setup e past g.1 (λ c. is_deleting c.meta ≡ true) (λ a b keeps x. keeps.deleting x) u old d

-- being half ready is no news of an entry, but for a read of the claim
half_before : (setup : Setup) (e : Entry) (past : List Entry) → Good setup (e ∷ past) → (u : Uid) → AreDeleting setup past u
    → (seat : ℕ) (node : List ℕ) → HolderStep setup e past node seat → IsHalfReady setup (e ∷ past) seat node u → IsHalfReady setup past seat node u
half_before setup e past g u deleting seat node (Took at flag none next) h = absurd (no_split h.recent h.teller h.earlier (sym none ∙ h.split.since))
half_before setup e past g u deleting seat node (Other apart o same held) h = record {
  recent = h.recent;
  teller = h.teller;
  earlier = h.earlier;
  split = record { since = ap (since_epoch node) (sym o) ∙ h.split.since; listed = h.split.listed };
  pod = h.pod;
  told = h.told;
  node_is = h.node_is;
  scheduled = h.scheduled;
  uid = h.uid;
  known = h.known;
  unfinished = ap (never_finished h.uid) (sym o) ∙ h.unfinished;
  name = h.name;
  named = h.named;
  claim = h.claim;
  read = h.read;
  its = h.its;
  staying = h.staying;
}
half_before setup e past g u deleting seat node (Mine at flag o since same held) h = by h.recent (sym since ∙ h.split.since) h.read
  where
    never : (a b : Bool) → not (a || b) ≡ true → not b ≡ true
    never true b x = absurd (true≢false (sym x))
    never false b x = x

    read : (rest : List Entry) → since_epoch node (own seat past) ≡ rest ++ h.teller ∷ h.earlier → (b : Bool)
        → (e.told && is_get_of (claim_key h.pod.meta.namespace h.name) e.request) ≡ b
        → (if b then Some e.reply else last_get (claim_key h.pod.meta.namespace h.name) rest) ≡ Some (Found (Claim h.claim)) → IsHalfReady setup past seat node u
    read rest eq true t r =
        let asked = (and_parts e.told (is_get_of (claim_key h.pod.meta.namespace h.name) e.request) t).1 in
        let reply : e.reply ≡ Found (Claim h.claim) = ap (λ z. unwrap_or z e.reply) r in
        let there = found_row setup e past g (claim_key h.pod.meta.namespace h.name) (Claim h.claim) asked reply in
        absurd (true≢false (sym (deleting (claim_key h.pod.meta.namespace h.name) h.claim there h.its) ∙ h.staying))
    read rest eq false t r = record {
      recent = rest;
      teller = h.teller;
      earlier = h.earlier;
      split = record { since = eq; listed = h.split.listed };
      pod = h.pod;
      told = h.told;
      node_is = h.node_is;
      scheduled = h.scheduled;
      uid = h.uid;
      known = h.known;
      unfinished = never (is_finish_of h.uid e.request) (list_any (λ x. is_finish_of h.uid x.request) (own seat past)) (ap (never_finished h.uid) (sym o) ∙ h.unfinished);
      name = h.name;
      named = h.named;
      claim = h.claim;
      read = r;
      its = h.its;
      staying = h.staying;
    }

    by : (recent : List Entry) → e ∷ since_epoch node (own seat past) ≡ recent ++ h.teller ∷ h.earlier
        → last_get (claim_key h.pod.meta.namespace h.name) recent ≡ Some (Found (Claim h.claim)) → IsHalfReady setup past seat node u
    by [] eq r = absurd (none-some _ r)
    by (x ∷ rest) eq r =
        let is_e : x ≡ e = ap (head_of e) (sym eq) in
        let r2 = subst (λ (y : Entry). last_get (claim_key h.pod.meta.namespace h.name) (y ∷ rest) ≡ Some (Found (Claim h.claim))) is_e r in
        read rest (ap tail_of eq) (e.told && is_get_of (claim_key h.pod.meta.namespace h.name) e.request) refl r2

agents_before : (setup : Setup) (e : Entry) (past : List Entry) (seat : ℕ) → AreOfKind seats.Agent (own seat (e ∷ past)) → AreOfKind seats.Agent (own seat past)
agents_before setup e past seat a = by (own_step seat e past)
  where
    by : OwnStep seat e past → AreOfKind seats.Agent (own seat past)
    by (Own at same) = (let b : AreOfKind seats.Agent (e ∷ own seat past) = subst (AreOfKind seats.Agent) same a in b.1)
    by (Others apart same) = subst (AreOfKind seats.Agent) same a

held_before : (setup : Setup) (e : Entry) (past : List Entry) (node : List ℕ) (seat : ℕ) (u : Uid) → HolderStep setup e past node seat
    → IsHalfReady setup (e ∷ past) seat node u → Holds setup past node seat
held_before setup e past node seat u (Took at flag none next) h = absurd (no_split h.recent h.teller h.earlier (sym none ∙ h.split.since))
held_before setup e past node seat u (Mine at flag o since same held) h = held
held_before setup e past node seat u (Other apart o same held) h = held

pub go_on : (setup : Setup) (e : Entry) (past : List Entry) → Good setup (e ∷ past) → Run setup (e ∷ past) → (u : Uid) → AreDeleting setup past u
    → MayGo setup past u → MayGo setup (e ∷ past) u
go_on setup e past g run u deleting go = record {
  unmounted = λ m h x. elim (new_mount setup e past run m h) [
    | inl before ↦ go.unmounted m before x
    | inr b ↦ go.unready e.seat m.node b.holds (mount_is_agents setup e past run m b) (half_ready setup e past run m b u x)
  ];
  unready = λ seat node holds ag h.
      let s = holder_step setup e past g node seat holds in
      go.unready seat node (held_before setup e past node seat u s h) (agents_before setup e past seat ag) (half_before setup e past g u deleting seat node s h);
}

-- a list that tells no user of the claim

record IsListing (o : ClaimData) (request : Request) (reply : Reply) : Type 0 where
  namespace : List ℕ
  items : List Object
  version : ℕ
  asked : request ≡ requests.List kinds.Pod (Some namespace)
  answer : reply ≡ Listed items version
  placed : namespace ≡ o.meta.namespace
  unused : list_any (uses o) items ≡ false

listing_of : (o : ClaimData) (request : Request) (reply : Reply) → IsPodList o request reply → IsListing o request reply
listing_of o (requests.List kinds.Pod (Some namespace)) (Listed items version) h =
    record { namespace = namespace; items = items; version = version; asked = refl; answer = refl; placed = h.0; unused = h.1 }
listing_of o request reply h = absurd h

pub any_in : (f : Object → Bool) (x : Object) (xs : List Object) → IsIn x xs → f x ≡ true → list_any f xs ≡ true
any_in f x [] h e = absurd h
any_in f x (y ∷ ys) (inl is) e = let t : f y ≡ true = ap f is ∙ e in rw t refl
any_in f x (y ∷ ys) (inr more) e = by (f y) (any_in f x ys more e)
  where
    by : (b : Bool) → list_any f ys ≡ true → (b || list_any f ys) ≡ true
    by true t = refl
    by false t = t

abbrev items_of : List Object → Reply → List Object
items_of none (Listed items version) = items
items_of none r = none

-- a scheduled pod that stands and names the claim would have been listed
pod_listed : (setup : Setup) (e : Entry) (past : List Entry) → Good setup (e ∷ past) → (o : ClaimData) → IsListing o e.request e.reply → (p : PodData)
    → StandsOn (world setup past) p → is_scheduled p ≡ true → (name : List ℕ) → has_name name p.claims ≡ true
    → key_of (Claim o) ≡ claim_key p.meta.namespace name → ⊥
pod_listed setup e past g o l p s scheduled name named keyed =
    let q = s.pod in
    let at : key_of (Pod q) ≡ key_of (Pod p) = row_at_key (key_of (Pod p)) (Pod q) (world setup past).store.rows s.there in
    let stands : row_at (key_of (Pod q)) (world setup past).store.rows ≡ Some (Pod q) = ap (λ k. row_at k (world setup past).store.rows) at ∙ s.there in
    let space : q.meta.namespace ≡ o.meta.namespace = ap (λ k. k.namespace) at ∙ sym (ap (λ k. k.namespace) keyed) in
    let r = lists_tell_what_stands setup (world setup past) e.kind kinds.Pod (Some l.namespace) (invariant_of setup past g.0).order in
    let reply : reply_to (effect setup (world setup past) e.kind (requests.List kinds.Pod (Some l.namespace))) ≡ Listed l.items l.version =
    ap (λ x. reply_to (effect setup (world setup past) e.kind x)) (sym l.asked) ∙ sym g.2 ∙ l.answer in
    let same : r.0 ≡ l.items = ap (items_of l.items) (sym r.1.1.0 ∙ reply) in
    let listed : IsIn (Pod q) r.0 = r.1.1.1.listed (Pod q) stands refl (text_same q.meta.namespace l.namespace (space ∙ sym l.placed)) in
    let t1 : is_scheduled q ≡ true = ap (λ (x : List ℕ). not (is_empty x)) s.node ∙ scheduled in
    let t2 : bytes_eq q.meta.namespace o.meta.namespace ≡ true = text_same _ _ space in
    let t3 : has_name o.meta.name q.claims ≡ true = ap (λ (n : List ℕ). has_name n q.claims) (ap (λ k. k.name) keyed) ∙ ap (has_name name) s.claims ∙ named in
    let u : uses o (Pod q) ≡ true = rw (t1, t2, t3) refl in
    true≢false (sym (any_in (uses o) (Pod q) l.items (subst (IsIn (Pod q)) same listed) u) ∙ l.unused)

pub going_on : (setup : Setup) (e : Entry) (past : List Entry) → Good setup (e ∷ past) → Run setup (e ∷ past) → (u : Uid) → IsGoing setup past u
    → IsGoing setup (e ∷ past) u
going_on setup e past g run u i = record { go = go_on setup e past g run u i.deleting i.go; deleting = kept_deleting setup e past g u i.old i.deleting; old = older _ _ (Some u) g.1.rises i.old }

-- a seat's evidence holds of the world
pub unguards : (setup : Setup) (past : List Entry) → Good setup past → Run setup past → Mountless setup → (seat : ℕ) (o : ClaimData) (u : Uid)
    → o.meta.uid ≡ Some u → ((c : ClaimData) → Stood setup past (Claim c) → c.meta.uid ≡ Some u → key_of (Claim c) ≡ key_of (Claim o))
    → After (ToldClaim (IsDeletingVersion o)) (TellsUnused o) (own seat past) → IsGoing setup past u
unguards setup [] g run start seat o u known keyed h = absurd h
unguards setup (e ∷ past) g run start seat o u known keyed h = by (unguards setup past g.0 run.0 start seat o u known (λ c was its. keyed c (inl was) its)) (own_step seat e past)
  where
    here : TellsUnused o e → ToldClaim (IsDeletingVersion o) (own seat past) → IsGoing setup past u
    here q p =
        let inv = invariant_of setup past g.0 in
        let t = told_claim setup past (own seat past) (told_was setup past g.0 seat) (IsDeletingVersion o) p in
        let its : t.0.meta.uid ≡ Some u = t.2.same.second ∙ sym t.2.same.first ∙ known in
        let l = listing_of o e.request e.reply q.1 in
        record {
          go = record {
            unmounted = λ m there x.
                let i = mounted setup past g.0 run.0 start m there in
                let n = i.names u x in
                let k : key_of (Claim o) ≡ claim_key i.pod.meta.namespace n.name = sym (keyed n.claim (inl n.was) n.its)
                ∙ (λ j. record { kind = kinds.PersistentVolumeClaim; namespace = n.placed j; name = n.called j }) in
                pod_listed setup e past g o l i.pod i.stands i.scheduled n.name n.named k;
            unready = λ s node holds ag r.
                let stands = shown_stands setup past g.0 run.0 node s holds ag r.recent r.teller r.earlier r.split r.pod r.uid r.told r.node_is r.scheduled r.known r.unfinished in
                let w = read_was setup past g.0 s node r.recent (r.teller ∷ r.earlier) r.split.since (claim_key r.pod.meta.namespace r.name) (Claim r.claim) r.read in
                pod_listed setup e past g o l r.pod stands r.scheduled r.name r.named (sym (keyed r.claim (inl w.was) r.its) ∙ w.keyed);
          };
          deleting = λ k c there same. (inv.later (Claim t.0) k (Claim c) t.1 there (same ∙ sym its)).keeps.deleting t.2.deleting;
          old = subst (IsOld (world setup past).store.version) its (old_stood setup past (Claim t.0) t.1);
        }

    by : (After (ToldClaim (IsDeletingVersion o)) (TellsUnused o) (own seat past) → IsGoing setup past u) → OwnStep seat e past → IsGoing setup (e ∷ past) u
    by f (Own at same) = going_on setup e past g run u (elim (subst (After (ToldClaim (IsDeletingVersion o)) (TellsUnused o)) same h) [ inl now ↦ here now.0 now.1 | inr more ↦ f more ])
    by f (Others apart same) = going_on setup e past g run u (f (subst (After (ToldClaim (IsDeletingVersion o)) (TellsUnused o)) same h))

-- the evidence of a step
pub step_going : (setup : Setup) (past : List Entry) → Good setup past → Run setup past → Mountless setup → (o : ClaimData) (u : Uid)
    → Stood setup past (Claim o) → o.meta.uid ≡ Some u → Unguards past o → IsGoing setup past u
step_going setup past g run start o u was known un =
    unguards setup past g run start un.seat o u known (λ c w its. (invariant_of setup past g).keyed (Claim c) (Claim o) w was (its ∙ sym known)) un.unused

pub loose : (setup : Setup) (past : List Entry) → Good setup past → Run setup past → Mountless setup → LooseMayGo setup [] → LooseMayGo setup past
loose setup [] g run start first k c u is none known = first k c u is none known
loose setup (e ∷ past) g run start first k c u is none known = going_on setup e past g run u (by (loose setup past g.0 run.0 start first))
  where
    by : LooseMayGo setup past → IsGoing setup past u
    by before = elim (g.1.row k (Claim c) is) [
      | inl there ↦ before k c u there none known
      | inr new ↦ elim (claim_came setup past c new.write) [
        | inl began ↦ absurd (true≢false (sym began.start.guarded ∙ none))
        | inr came ↦
            let its = sym came.next.keeps.uid ∙ known in
            elim (came.step.loose none) [
              | inl was ↦ before (key_of (Claim c)) came.old u came.next.there was its
              | inr un ↦ step_going setup past g.0 run.0 start came.old u (row_was setup past (key_of (Claim c)) (Claim came.old) came.next.there) its un
            ]
      ]
    ]
