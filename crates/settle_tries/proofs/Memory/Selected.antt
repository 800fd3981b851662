-- A claim that the scheduler wrote stands selected in its memory as long as it stands so in the store.
use Rattle.std.proofs.Common.{ℕ, ◌≡◌, ◌∙◌, ◌⊎◌, ◌≤◌, ◌+◌, Bool, true, false, true≢false, List, [], ◌∷◌, ◌++◌, append_assoc, Option, Some, inl, inr, refl, sym, ap, subst, arith, if◌then◌else◌}
use Rattle.std.specs.Prelude.{◌==◌}
use Rattle.std.proofs.lemmas.Bool.Decides.{nat_tests}
use Rattle.kube_objects.specs.declared.key.Key.{Key}
use Rattle.kube_parts.specs.declared.uid.Uid.{Uid}
use Rattle.kube_objects.specs.declared.objects.Claim.{Claim as ClaimData}
use Rattle.kube_objects.specs.declared.objects.Object.TheVariants.{Class, Node, Volume, Claim, Pod}
use Rattle.kube_parts.specs.declared.parts.Kind.{Kind}
use Rattle.kube_parts.specs.declared.parts.Kind.TheVariants as kinds
use Rattle.kube_objects.specs.Keys.{key_of, kind_of, row_at}
use Rattle.call_types.specs.declared.entry.Entry.{Entry}
use Rattle.call_types.specs.declared.request.Request.{Request}
use Rattle.call_types.specs.declared.request.Request.TheVariants as requests
use Rattle.call_types.specs.declared.request.SeatKind.{SeatKind}
use Rattle.call_types.specs.declared.request.SeatKind.TheVariants as seats
use Rattle.call_types.specs.declared.reply.Reply.{Reply}
use Rattle.call_types.specs.declared.reply.Reply.TheVariants.{Done}
use Rattle.call_types.specs.declared.setup.Setup.{Setup}
use Rattle.binder_model.specs.Licence.{Licensed}
use Rattle.binder_model.specs.Promises.{IsRunOf}
use Rattle.binder_model.specs.Run.{Run}
use Rattle.binder_model.specs.Store.{at_version, with_meta}
use Rattle.binder_model.specs.Told.{objects_in, own}
use Rattle.binder_model.specs.World.{IsHistory, World, effect, reply_to, world}
use Rattle.model_laws.specs.Stood.{Stood}
use Rattle.model_laws.proofs.Growing.{older_parts_are_runs, runs_are_histories}
use Rattle.model_laws.proofs.Histories.{rows_stand_in_order}
use Rattle.model_laws.proofs.Identity.{key-updated}
use Rattle.model_laws.proofs.Lists.{IsIn, one}
use Rattle.model_laws.proofs.Stood.{one_uid_one_key, stood, version_stood}
use Rattle.model_laws.proofs.Truths.{entry_stood}
use Rattle.pod_scheduler.specs.declared.tries.Tried.{Tried}
use Rattle.pod_scheduler.specs.declared.tries.Tries.{Tries}
use Rattle.pod_scheduler.specs.Tries.{is_refusal, node_selected_for, see_all, select, select_if, tried_of, tries_after, tries_of, without_tried}
use Rattle.pod_scheduler.specs.TryLaw.{Selecting}
use Rattle.safety_law.specs.Invariant.Writes.{EffectOf, Writes}
use Rattle.safety_law.proofs.Invariant.Effects.{effect_form}
use Rattle.settle_tries.proofs.Memory.Memory.{Stands, all_stay, select_finds, select_stands, uid_same}
use Rattle.settle_tries.proofs.Memory.Told.{IsPut, done_version, never_newer, row_step, stood_low}
use Rattle.settle_budget.proofs.Drains.Static.{stood_still as stood_grows}
use Rattle.settle_slot.proofs.Slot.Slots.{older as older_history}

-- ---- a claim that the scheduler wrote was updated

abbrev is_claim_kind : Kind → Bool
is_claim_kind kinds.PersistentVolumeClaim = true
is_claim_kind k = false

pub record Updates (r : Request) : Type 0 where
  pub asked : ClaimData
  pub given : Option ℕ
  pub is : r ≡ requests.Update (Claim asked) given

pub scheduler_updates : (w : World) (mine : List Entry) (r : Request) (c : ClaimData) → Licensed seats.Scheduler mine r → Writes w seats.Scheduler r (Claim c) → Updates r
unfolding at_version with_meta
scheduler_updates w mine (requests.Update (Claim new) given) c may u = record { asked = new; given = given; is = refl }
scheduler_updates w mine (requests.Update (Volume new) given) c may u =
    absurd (true≢false (ap (λ (k : Key). is_claim_kind k.kind) (ap key_of u.is ∙ key-updated u.old (Volume new) (w.store.version + 1))))
scheduler_updates w mine (requests.Update (Class x) given) c may u = absurd may.1
scheduler_updates w mine (requests.Update (Node x) given) c may u = absurd may.1
scheduler_updates w mine (requests.Update (Pod x) given) c may u = absurd may.1
scheduler_updates w mine (requests.BindPod key uid node) c may u = absurd (true≢false (ap (λ x. is_claim_kind (kind_of x)) u.is))
scheduler_updates w mine (requests.Create x) c may u = absurd may.1
scheduler_updates w mine (requests.UpdateStatus key status given) c may u = absurd may.1
scheduler_updates w mine (requests.Edit key change) c may u = absurd may.1
scheduler_updates w mine (requests.Delete key given) c may u = absurd may.1
scheduler_updates w mine (requests.FinishPod key uid node epoch) c may u = absurd may.1
scheduler_updates w mine _ c may u = absurd u

-- ---- the entry that put what stands

pub record WasPut (setup : Setup) (newer h : List Entry) (c : ClaimData) : Type 0 where
  pub ahead : List Entry
  pub entry : Entry
  pub behind : List Entry
  pub are : newer ≡ ahead ++ (entry ∷ behind)
  pub put : IsPut (world setup (behind ++ h)) (effect setup (world setup (behind ++ h)) entry.kind entry.request) (Claim c)

pub was_put : (setup : Setup) (k : Key) (c : ClaimData) (newer h : List Entry) → row_at k (world setup (newer ++ h)).store.rows ≡ Some (Claim c)
    → (row_at k (world setup h).store.rows ≡ Some (Claim c)) ⊎ WasPut setup newer h c
was_put setup k c [] h at = inl at
was_put setup k c (e ∷ newer) h at = elim (row_step setup e (newer ++ h) k (Claim c) at) [
  | inr new ↦ inr (record { ahead = []; entry = e; behind = newer; are = refl; put = new })
  | inl same ↦ elim (was_put setup k c newer h same) [
    | inl first ↦ inl first
    | inr w ↦ inr (record { ahead = e ∷ w.ahead; entry = w.entry; behind = w.behind; are = ap (λ es. e ∷ es) w.are; put = w.put })
  ]
]

-- ---- from that entry on it stands selected

module _ (setup : Setup) (seat : ℕ) (uid : Uid) (c : ClaimData) (known : c.meta.uid ≡ Some uid) where
  pub record StandsSince (m : Tries) : Type 0 where
    pub tried : Tried
    pub at : tried_of uid m.selected ≡ Some tried
    pub since : c.meta.version ≤ tried.version

  abbrev of_uid : (t u : Tried) → Bool → Option Tried
  of_uid t u b = if b then Some t else Some u

  -- the entry selects it
  selected_then : (m : Tries) (asked : ClaimData) (given : Option ℕ) (node : List ℕ) → node_selected_for c ≡ Some node
      → StandsSince (select_if (requests.Update (Claim asked) given) (Done (Claim c)) m)
  selected_then m asked given node on = subst (λ u. StandsSince (select u (node_selected_for c) c m)) (sym known) (subst (λ n. StandsSince (select (Some uid) n c m)) (sym on) here)
    where
      new : Tried
      new = record { claim = uid; node = node; version = c.meta.version }

      here : StandsSince (select (Some uid) (Some node) c m)
      here = record { tried = new; at = ap (λ b. if b then Some new else tried_of uid (without_tried uid m.selected)) (uid_same uid); since = omega arith }

  select_since : (w : World) (kind : SeatKind) (request : Request) (reply : Reply) (m : Tries) → reply ≡ reply_to (effect setup w kind request)
      → c.meta.version ≤ w.store.version → StandsSince m → StandsSince (select_if request reply m)
  select_since w kind request reply m said low s = let after = select_stands request reply m uid (s.tried, s.at) in
      record { tried = after.0; at = after.1; since = by after.0 (select_finds request reply m uid after.0 after.1) }
    where
      newly : (r : Request) (a : Reply) (t : Tried) → request ≡ r → reply ≡ a → Selecting t r a → c.meta.version ≤ t.version
      newly (requests.Update (Claim asked) given) (Done (Claim d)) t er ea x =
          let v = done_version setup w kind (Claim asked) given (Claim d) (sym (ap (λ r. reply_to (effect setup w kind r)) er) ∙ (sym said ∙ ea)) in
          let at = v.0 in
          let version = x.version in
          omega (arith, low, at, version)
      newly _ _ t er ea x = absurd x

      by : (t : Tried) → (tried_of uid m.selected ≡ Some t) ⊎ (Selecting t request reply × (t.claim ≡ uid)) → c.meta.version ≤ t.version
      by t (inl before) = subst (λ (y : Tried). c.meta.version ≤ y.version) (one s.tried t (sym s.at ∙ before)) s.since
      by t (inr new) = newly request reply t refl refl new.0

  module _ (past : List Entry) (run : IsRunOf setup past) (there : row_at (key_of (Claim c)) (world setup past).store.rows ≡ Some (Claim c)) where
    abbrev history : IsHistory setup past
    history = runs_are_histories setup past run.run

    -- no row of it was newer
    told_low : (d : ClaimData) → Stood setup past (Claim d) → d.meta.uid ≡ Some uid → d.meta.version ≤ c.meta.version
    told_low d stood_ its =
        let key = one_uid_one_key setup past run.imports run.short (Claim d) (Claim c) uid stood_ (stood setup past (Claim c) there) its known in
        stood_low setup past (Claim d) (Claim c) stood_ (ap (λ k. row_at k (world setup past).store.rows) key ∙ there)

    since_on : (newer h : List Entry) → (ahead : List Entry) → past ≡ ahead ++ (newer ++ h) → Stood setup h (Claim c)
        → StandsSince (tries_of (own seat h)) → StandsSince (tries_of (own seat (newer ++ h)))
    since_on [] h ahead are stood_ s = s
    since_on (e ∷ newer) h ahead are stood_ s = by (e.seat == seat) refl (since_on newer h (ahead ++ (e ∷ [])) (are ∙ sym (append_assoc ahead (e ∷ []) (newer ++ h))) stood_ s)
      where
        whole : IsHistory setup (e ∷ newer ++ h)
        whole = older_history setup ahead (e ∷ newer ++ h) (subst (IsHistory setup) are history)

        spares : (t : Tried) → c.meta.version ≤ t.version → (d : ClaimData) → IsIn (Claim d) (objects_in e.reply) → d.meta.uid ≡ Some uid → is_refusal t d ≡ false
        spares t since d told its =
            let here : Stood setup (e ∷ newer ++ h) (Claim d) = entry_stood setup e (newer ++ h) (Claim d) (subst (λ r. IsIn (Claim d) (objects_in r)) whole.1 told) in
            let low = told_low d (subst (λ es. Stood setup es (Claim d)) (sym are) (stood_grows setup ahead (e ∷ newer ++ h) (Claim d) here)) its in
            never_newer t d (omega (arith, low, since))

        told : (b : Bool) → StandsSince (tries_of (own seat (newer ++ h)))
            → StandsSince (if b then tries_after e.request e.reply (tries_of (own seat (newer ++ h))) else tries_of (own seat (newer ++ h)))
        told true x =
            select_since (world setup (newer ++ h)) e.kind e.request e.reply
            (see_all (objects_in e.reply) (tries_of (own seat (newer ++ h)))) whole.1 (version_stood setup (newer ++ h) (Claim c) (stood_grows setup newer h (Claim c) stood_))
            (record { tried = x.tried; at = all_stay (objects_in e.reply) (tries_of (own seat (newer ++ h))) uid x.tried x.at (spares x.tried x.since); since = x.since })
        told false x = x

        by : (b : Bool) → (e.seat == seat) ≡ b → StandsSince (tries_of (own seat (newer ++ h))) → StandsSince (tries_of (if b then e ∷ own seat (newer ++ h) else own seat (newer ++ h)))
        by true is x = told e.told x
        by false is x = x

    -- so where it was put by an entry of the scheduler that was told
    pub stands_selected : (ahead behind : List Entry) (e : Entry) → past ≡ ahead ++ (e ∷ behind) → e.seat ≡ seat → e.told ≡ true
        → e.kind ≡ seats.Scheduler → IsPut (world setup behind) (effect setup (world setup behind) e.kind e.request) (Claim c) → (node : List ℕ) → node_selected_for c ≡ Some node
        → Stands uid (tries_of (own seat past))
    stands_selected ahead behind e are seat_same is_told kind put node on = let s = all in (s.tried, s.at)
      where
        whole : IsHistory setup (e ∷ behind)
        whole = older_history setup ahead (e ∷ behind) (subst (IsHistory setup) are history)

        may : Licensed e.kind (own e.seat behind) e.request
        may = (older_parts_are_runs setup ahead (e ∷ behind) (subst (Run setup) are run.run)).2

        written : Writes (world setup behind) e.kind e.request (Claim c)
        written = subst (EffectOf setup (world setup behind) e.kind e.request) put.is (effect_form setup (world setup behind) e.kind e.request (rows_stand_in_order setup behind))

        u : Updates e.request
        u = scheduler_updates (world setup behind) (own e.seat behind) e.request c (subst (λ k. Licensed k (own e.seat behind) e.request) kind may)
            (subst (λ k. Writes (world setup behind) k e.request (Claim c)) kind written)

        reply : e.reply ≡ Done (Claim c)
        reply = whole.1 ∙ put.done

        same_seat : (e.seat == seat) ≡ true
        same_seat = grind (arith, nat_tests, seat_same)

        first : StandsSince (tries_of (own seat (e ∷ behind)))
        first =
            let x = selected_then (see_all (objects_in e.reply) (tries_of (own seat behind))) u.asked u.given node on in
            let y : StandsSince (tries_after e.request e.reply (tries_of (own seat behind))) =
            subst (λ r. StandsSince (select_if r e.reply (see_all (objects_in e.reply) (tries_of (own seat behind))))) (sym u.is)
            (subst (λ a. StandsSince (select_if (requests.Update (Claim u.asked) u.given) a (see_all (objects_in e.reply) (tries_of (own seat behind))))) (sym reply) x) in
            subst (λ b. StandsSince (tries_of (if b then e ∷ own seat behind else own seat behind))) (sym same_seat)
            (subst (λ b. StandsSince (if b then tries_after e.request e.reply (tries_of (own seat behind)) else tries_of (own seat behind))) (sym is_told) y)

        here : Stood setup (e ∷ behind) (Claim c)
        here = entry_stood setup e behind (Claim c) (subst (λ r. IsIn (Claim c) (objects_in r)) (sym put.done) (inl refl))

        all : StandsSince (tries_of (own seat past))
        all = subst (λ es. StandsSince (tries_of (own seat es))) (sym are) (since_on ahead (e ∷ behind) [] are here first)
