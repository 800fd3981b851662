-- What is written in a slot of the scheduler for other pods leaves the claims of a pod as they stand.
use Rattle.std.proofs.Common.{◌≡◌, ◌≢◌, ◌∙◌, ◌⊎◌, ℕ, ◌+◌, ◌≤◌, List, [], ◌∷◌, ◌++◌, append_assoc, Bool, true, false, true≢false, Some, inl, inr, refl, sym, ap, subst}
use Rattle.std.proofs.lemmas.List.{append_cancel_right}
use Rattle.kube_objects.specs.declared.key.Key.{Key}
use Rattle.kube_parts.specs.declared.parts.Kind.{Kind}
use Rattle.kube_parts.specs.declared.parts.Kind.TheVariants as kinds
use Rattle.kube_parts.specs.declared.uid.Uid.{Uid}
use Rattle.kube_objects.specs.declared.objects.Claim.{Claim as ClaimData}
use Rattle.kube_objects.specs.declared.objects.Object.{Object}
use Rattle.kube_objects.specs.declared.objects.Object.TheVariants.{Claim, Pod}
use Rattle.kube_objects.specs.declared.objects.Pod.{Pod as PodData}
use Rattle.kube_objects.specs.Bindings.{is_scheduled}
use Rattle.kube_objects.specs.Keys.{key_of, row_at}
use Rattle.kube_objects.proofs.KeyOrder.{row_at-put_row_other, row_at-without_row_other}
use Rattle.call_types.specs.declared.entry.Entry.{Entry}
use Rattle.call_types.specs.declared.request.Request.TheVariants.{BindPod}
use Rattle.call_types.specs.declared.request.SeatKind.TheVariants as seats
use Rattle.call_types.specs.declared.setup.Setup.{Setup}
use Rattle.binder_model.specs.ObjectKeys.{claim_key}
use Rattle.binder_model.specs.Promises.{IsRunOf}
use Rattle.binder_model.specs.Store.{State}
use Rattle.binder_model.specs.Told.{SomeOf}
use Rattle.binder_model.specs.World.{effect, world}
use Rattle.model_laws.proofs.Histories.{rows_stand_in_order}
use Rattle.model_laws.proofs.Identity.{key-at_version, key-updated}
use Rattle.safety_law.specs.Invariant.Writes.{Writes}
use Rattle.safety_law.proofs.Invariant.Effects.{effect_form}
use Rattle.settle_writes.proofs.Done.Doing.{write_asked}
use Rattle.settle_write_counts.proofs.Rounds.Nodes.{IsMoved}
use Rattle.settle_write_counts.proofs.Rounds.Slots.{ComesTo, Leaves, Wrote, comes_to}
use Rattle.delayed_binding.specs.Writes.{placed_on}
use Rattle.settle_measure.specs.Left.Measure.{work_left}
use Rattle.worker_core.specs.declared.role.Role.{Role}
use Rattle.settle_slot.specs.Slot.Slots.{own_entry}
use Rattle.settle_due.specs.Scheduling.Writes.{placing}
use Rattle.settle_pays.specs.Pays.Pays.{HavePaid}
use Rattle.settle_budget.specs.Drains.Budget.{AreAlwaysInOrder}
use Rattle.settle_budget.specs.Drains.Measured.{SharesWell}
use Rattle.settle_tries.specs.Tries.Deciding.{IsWithin}
use Rattle.settle_tries.proofs.Moves.Points.{near_behind, run_within}
use Rattle.settle_tries.proofs.Search.Calling.{IsBinding, IsPlacing, calls_are, decided_within, own_claim}
use Rattle.settle_tries.proofs.Slots.Walking.{Calls, EntrySo, Reads}

-- ---- an entry writes one row

module _ (setup : Setup) (e : Entry) (g : List Entry) (k : Key) where
  abbrev Unwritten : Type 0
  Unwritten = row_at k (world setup (e ∷ g)).store.rows ≡ row_at k (world setup g).store.rows

  unwritten : ((o : Object) → Writes (world setup g) e.kind e.request o → key_of o ≢ k) → Unwritten
  unwritten apart = by (comes_to (world setup g) (effect setup (world setup g) e.kind e.request))
    where
      by_move : (o : Object) → key_of o ≢ k → IsMoved (world setup g).store.rows (world setup (e ∷ g)).store.rows o → Unwritten
      by_move o other (inl put) = ap (row_at k) put ∙ row_at-put_row_other k o (world setup g).store.rows other
      by_move o other (inr gone) = ap (row_at k) gone ∙ row_at-without_row_other (key_of o) k (world setup g).store.rows other

      by : ComesTo (world setup g) (effect setup (world setup g) e.kind e.request) → Unwritten
      by (Leaves same) = ap (λ (s : State). row_at k s.rows) same
      by (Wrote o written version moved) = by_move o (apart o
          (write_asked setup (world setup g) e.kind e.request o (effect setup (world setup g) e.kind e.request)
          (effect_form setup (world setup g) e.kind e.request (rows_stand_in_order setup g)) written)) moved

  -- a claim that gets a node leaves the others
  pub place_keeps : (name : List ℕ) (c : ClaimData) → e.request ≡ placing name c → key_of (Claim c) ≢ k → Unwritten
  place_keeps name c is other = unwritten apart
    where
      apart : (o : Object) → Writes (world setup g) e.kind e.request o → key_of o ≢ k
      apart o writes same =
          let u : Writes (world setup g) e.kind (placing name c) o = subst (λ r. Writes (world setup g) e.kind r o) is writes in
          other (sym (ap key_of u.is ∙ key-updated u.old (Claim (placed_on name c)) ((world setup g).store.version + 1)) ∙ same)

  abbrev is_pod_kind : Kind → Bool
  is_pod_kind kinds.Pod = true
  is_pod_kind x = false

  -- a pod that is bound leaves what is no pod
  pub bind_keeps : (key : Key) (uid : Uid) (node : List ℕ) → e.request ≡ BindPod key uid node → is_pod_kind k.kind ≡ false → Unwritten
  bind_keeps key uid node is other = unwritten apart
    where
      apart : (o : Object) → Writes (world setup g) e.kind e.request o → key_of o ≢ k
      apart o writes same =
          let b : Writes (world setup g) e.kind (BindPod key uid node) o = subst (λ r. Writes (world setup g) e.kind r o) is writes in
          let keyed : key_of o ≡ key_of (Pod (record b.pod { node = node })) = ap key_of b.is ∙ key-at_version (Pod (record b.pod { node = node })) ((world setup g).store.version + 1) in
          true≢false (ap (λ (x : Key). is_pod_kind x.kind) (sym keyed ∙ same) ∙ other)

-- ---- the claims of a pod

-- they stand as they stood then
abbrev pub RowsStay : Setup → PodData → List Entry → List Entry → Type 0
RowsStay setup pod start x = (name : List ℕ) → SomeOf (λ n. n ≡ name) pod.claims
    → row_at (claim_key pod.meta.namespace name) (world setup x).store.rows ≡ row_at (claim_key pod.meta.namespace name) (world setup start).store.rows

-- at each point from then on
abbrev pub StayUpTo : Setup → PodData → List Entry → List Entry → Type 0
StayUpTo setup pod start g = (x : List Entry) → IsWithin start x g → RowsStay setup pod start x

abbrev is_empty_entries : List Entry → Bool
is_empty_entries [] = true
is_empty_entries (e ∷ es) = false

abbrev rest_of_list : List Entry → List Entry
rest_of_list [] = []
rest_of_list (e ∷ es) = es

within_step : (e : Entry) (g start x : List Entry) → IsWithin start x (e ∷ g) → (x ≡ e ∷ g) ⊎ IsWithin start x g
within_step e g start x w = by w.newer w.ahead
  where
    by : (newer : List Entry) → e ∷ g ≡ newer ++ x → (x ≡ e ∷ g) ⊎ IsWithin start x g
    by [] ahead = inl (sym ahead)
    by (f ∷ newer) ahead = inr (record { newer = newer; older = w.older; ahead = ap rest_of_list ahead; behind = w.behind })

pub stay_here : (setup : Setup) (pod : PodData) (start : List Entry) → StayUpTo setup pod start start
stay_here setup pod start x w name among =
    ap (λ es. row_at (claim_key pod.meta.namespace name) (world setup es).store.rows) (same w.newer w.older (w.ahead ∙ ap (λ es. w.newer ++ es) w.behind) w.behind)
  where
    same : (newer older : List Entry) → start ≡ newer ++ (older ++ start) → x ≡ older ++ start → x ≡ start
    same newer older are behind = behind ∙ ap (λ es. es ++ start) (none older (append_cancel_right [] (newer ++ older) start (are ∙ sym (append_assoc newer older start))))
      where
        none : (os : List Entry) → [] ≡ newer ++ os → os ≡ []
        none os e = by_newer newer e
          where
            by_newer : (ns : List Entry) → [] ≡ ns ++ os → os ≡ []
            by_newer [] f = sym f
            by_newer (n ∷ ns) f = absurd (true≢false (ap is_empty_entries f))

module _ (setup : Setup) (seat : ℕ) (role : Role) (kind : role.kind ≡ seats.Scheduler) (h past : List Entry) (run : IsRunOf setup past)
    (order : AreAlwaysInOrder setup past) (paid : HavePaid setup h past) (le : work_left setup (world setup h) ≤ work_left setup (world setup past))
    (shares : SharesWell (world setup h)) (key : Key) (pod : PodData) (there : row_at key (world setup h).store.rows ≡ Some (Pod pod)) (waits : is_scheduled pod ≡ false) where
  -- an entry that is for no decision of the pod
  rows_keep : (start g newer older : List Entry) (e : Entry) → start ≡ older ++ h → past ≡ newer ++ (e ∷ g)
      → EntrySo setup seat role kind key start e g → RowsStay setup pod start g → RowsStay setup pod start (e ∷ g)
  rows_keep start g newer older e since are (Reads same) stay name among = ap (λ (s : State). row_at (claim_key pod.meta.namespace name) s.rows) same ∙ stay name among
  rows_keep start g newer older e since are (Calls c other) stay name among =
      by (calls_are setup seat role kind h past run order paid le start g newer older c.under since c.decided made) ∙ stay name among
    where
      made : past ≡ newer ++ (own_entry setup seat role.kind g c.under.call ∷ g)
      made = are ∙ ap (λ x. newer ++ (x ∷ g)) (sym c.is)

      within : IsWithin h c.decided.point past
      within = decided_within setup seat role kind h past run order paid le start g newer older c.under since c.decided made

      asked : e.request ≡ c.under.call
      asked = ap (λ (x : Entry). x.request) (sym c.is)

      by : IsBinding c.under.call ⊎ IsPlacing setup c.decided.point c.decided.state c.decided.first.key c.under.call
          → row_at (claim_key pod.meta.namespace name) (world setup (e ∷ g)).store.rows ≡ row_at (claim_key pod.meta.namespace name) (world setup g).store.rows
      by (inl b) = bind_keeps setup e g (claim_key pod.meta.namespace name) b.key b.uid b.name (asked ∙ b.is) refl
      by (inr x) =
          place_keeps setup e g (claim_key pod.meta.namespace name) x.searched.name x.claim (asked ∙ x.is)
          (λ keyed. other (own_claim setup h c.decided.point (run_within setup h past run order paid le c.decided.point within) shares
          (near_behind setup h past run order paid le c.decided.point within) key pod there waits c.decided.state c.decided.first.key c.under.call x name among keyed))

  pub keep : (start before : List Entry) → start ≡ before ++ h → (e : Entry) (g newer older : List Entry) → past ≡ newer ++ (e ∷ g)
      → g ≡ older ++ start → EntrySo setup seat role kind key start e g → StayUpTo setup pod start g → StayUpTo setup pod start (e ∷ g)
  keep start before since e g newer older are behind so stay x w = by (within_step e g start x w)
    where
      here : IsWithin start g g
      here = record { newer = []; older = older; ahead = refl; behind = behind }

      by : (x ≡ e ∷ g) ⊎ IsWithin start x g → RowsStay setup pod start x
      by (inl same) = subst (RowsStay setup pod start) (sym same) (rows_keep start g newer before e since are so (stay g here))
      by (inr w_) = stay x w_
