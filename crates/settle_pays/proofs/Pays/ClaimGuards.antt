-- Claim protection pays.
use Rattle.std.proofs.Common.{◌≡◌, ◌∙◌, ℕ, List, [], ◌∷◌, Bool, true, false, true≢false, Option, Some, None, refl, sym, ap, subst}
use Rattle.std.specs.Prelude.{◌&&◌, ◌≢◌, is_some, if◌then◌else◌}
use Rattle.std.specs.List.{list_any}
use Rattle.kube_objects.specs.declared.key.Key.{Key}
use Rattle.kube_parts.specs.declared.names.Due.{Due}
use Rattle.kube_parts.specs.declared.names.Due.TheVariants as dues
use Rattle.kube_parts.specs.declared.parts.Kind.TheVariants as kinds
use Rattle.kube_objects.specs.declared.objects.Claim.{Claim as ClaimData}
use Rattle.kube_objects.specs.declared.objects.Object.{Object}
use Rattle.kube_objects.specs.declared.objects.Object.TheVariants.{Class, Node, Volume, Claim, Pod}
use Rattle.kube_objects.specs.Bindings.{has_name, is_deleting, is_protected_claim, pvc_protection, uses}
use Rattle.kube_objects.specs.Keys.{key_of, row_at}
use Rattle.kube_objects.proofs.KeyOrder.{row_at_key}
use Rattle.call_types.specs.declared.entry.Entry.{Entry}
use Rattle.call_types.specs.declared.reply.Reply.{Reply}
use Rattle.call_types.specs.declared.reply.Reply.TheVariants as replies
use Rattle.call_types.specs.declared.request.Request.{Request}
use Rattle.call_types.specs.declared.request.Request.TheVariants as requests
use Rattle.call_types.specs.declared.request.SeatKind.TheVariants as seats
use Rattle.call_types.specs.declared.setup.Setup.{Setup}
use Rattle.binder_model.specs.Due.{claim_guard_due}
use Rattle.binder_model.specs.Promises.{IsRunOf}
use Rattle.binder_model.specs.Reading.{follows}
use Rattle.binder_model.specs.Store.{has_no_names, leaves}
use Rattle.binder_model.specs.World.{World, effect, reply_to, world}
use Rattle.informer_cache.specs.All.{all_objects}
use Rattle.model_laws.proofs.Histories.{rows_stand_in_order}
use Rattle.model_laws.proofs.Lists.{none_some, one}
use Rattle.protect_sync.specs.ClaimGuards.{claim_guard_call, claim_guard_call_at, claim_moved, claim_write_over, guarded_claim, unguarded_claim}
use Rattle.protect_sync.specs.Decisions.{claim_guard_begins, claim_guard_for}
use Rattle.protect_sync.specs.declared.claims.ClaimGuardStep.{ClaimGuardStep}
use Rattle.protect_sync.specs.declared.claims.ClaimGuardStep.TheVariants as steps
use Rattle.settle_measure.specs.Left.Lowers.{StandsClaim}
use Rattle.settle_measure.proofs.Upkeep.Guards.{claim_guard_pays, claim_unguard_pays}
use Rattle.worker_core.specs.declared.role.Role.{Role}
use Rattle.worker_core.specs.declared.task.First.TheVariants as firsts
use Rattle.worker_core.specs.declared.task.Task.TheVariants as tasks
use Rattle.worker_core.specs.declared.task.Under.{Under}
use Rattle.worker_core.specs.States.{ActorState}
use Rattle.worker_core.specs.Tasks.{GivesCall, IsFirstOf, claim_guard_first, task_call, under_after, with_call}
use Rattle.settle_writes.specs.Writes.Writes.{IsStored}
use Rattle.settle_slot.specs.Slot.Slots.{IsDecisionPoint, own_entry}
use Rattle.settle_due.proofs.Upkeep.Claims.{list_stays, none_among, uses_pod}
use Rattle.model_laws.proofs.Readings.{found_stands, member_stands}
use Rattle.settle_due.proofs.Upkeep.Deciding.{stored, task_in}
use Rattle.settle_due.proofs.Upkeep.Known.{rows_known}
use Rattle.settle_due.proofs.Upkeep.Reclaims.{has_uid}
use Rattle.settle_pays.specs.Pays.Guards.{ClaimGuardsPay}
use Rattle.settle_pays.specs.Pays.Pays.{EachPays, Pays, WillPay}
use Rattle.settle_pays.proofs.Pays.Calls.{list_never, lowering_pays}
use Rattle.settle_pays.proofs.Pays.VolumeGuards.{Adds, Drops, Guarding, Rests, guarding, is_drop}

-- ---- the machine

abbrev at_step : Key → ClaimData → ClaimGuardStep → Request → Under
at_step key c step call = record { key = key; task = tasks.ClaimProtect (record { claim = c; step = step }); call = call }

-- a write is its last call
ends : (key : Key) (c : ClaimData) (step : ClaimGuardStep) (call : Request) (reply : Reply) → step ≢ steps.ListsPods → under_after (at_step key c step call) reply ≡ None
unfolding claim_guard_call claim_moved
ends key c steps.ListsPods call reply other = absurd (other refl)
ends key c steps.Adds call (replies.Refused refusal) other = refl
ends key c steps.Adds call _ other = refl
ends key c steps.Drops call (replies.Refused refusal) other = refl
ends key c steps.Drops call _ other = refl
ends key c steps.Done call reply other = refl
ends key c steps.Parked call reply other = refl

abbrev is_listing : ClaimGuardStep → Bool
is_listing steps.ListsPods = true
is_listing step = false

not_listing : (step : ClaimGuardStep) → is_listing step ≡ false → step ≢ steps.ListsPods
not_listing step e is = true≢false (sym (ap is_listing is) ∙ e)

-- after the list the finalizer is dropped, if at all
drops_next : (key : Key) (c : ClaimData) (call : Request) (reply : Reply) (next : Under)
    → under_after (at_step key c steps.ListsPods call) reply ≡ Some next → next ≡ at_step key c steps.Drops (claim_write_over c (unguarded_claim c))
unfolding claim_guard_call claim_moved
drops_next key c call (replies.Listed items version) next e = by (list_any (uses c) items) e
  where
    by : (b : Bool) → with_call key (tasks.ClaimProtect (record { claim = c; step = if b then steps.Done else steps.Drops }))
        (claim_guard_call_at (if b then steps.Done else steps.Drops) c) ≡ Some next
        → next ≡ at_step key c steps.Drops (claim_write_over c (unguarded_claim c))
    by true is = none_some is
    by false is = sym (one _ next is)
drops_next key c call (replies.Refused refusal) next e = none_some e
drops_next key c call _ next e = none_some e

-- ---- a decision

module _ (setup : Setup) (seat : ℕ) (role : Role) (kind : role.kind ≡ seats.ClaimProtect) (s : ActorState) (h : List Entry) (u : Under)
    (run : IsRunOf setup h) (p : IsDecisionPoint setup seat role h s h) (gives : GivesCall s.role s.memory (all_objects s.caches) u) where
  s_kind : s.role.kind ≡ seats.ClaimProtect
  s_kind = ap (λ (r : Role). r.kind) p.role_is ∙ kind

  follows_it : (k : Key) → follows seats.ClaimProtect k.kind ≡ true → follows s.role.kind k.kind ≡ true
  follows_it k f = ap (λ x. follows x k.kind) s_kind ∙ f

  decided : firsts.Begins u.task ≡ claim_guard_first (claim_guard_begins (all_objects s.caches) (row_at u.key (all_objects s.caches)))
  decided = subst (λ k. IsFirstOf k s.role.node s.memory (all_objects s.caches) u.key (firsts.Begins u.task)) s_kind gives.decided

  not_dropped : {X : Type 0} → firsts.Begins u.task ≡ firsts.Drops → X
  not_dropped e = absurd (true≢false (sym (ap is_drop e)))

  module _ (c : ClaimData) (row : row_at u.key (all_objects s.caches) ≡ Some (Claim c)) where
    abbrev w : World
    w = world setup h

    there : row_at u.key w.store.rows ≡ Some (Claim c)
    there = sym (p.sees u.key (follows_it u.key (ap (λ (k : Key). follows seats.ClaimProtect k.kind) (sym (row_at_key u.key (Claim c) (all_objects s.caches) row))))) ∙ row

    on_store : IsStored w (Claim c)
    on_store = stored setup h u.key (Claim c) run.imports there

    stands : leaves (Claim c) ≡ false → StandsClaim w c
    stands stays = let known = has_uid c.meta.uid (rows_known setup h run.imports u.key (Claim c) there) in
        record { order = rows_stand_in_order setup h; there = on_store.there; stays = stays; uid = known.uid; has = known.is }

    -- the pods of the store are those that the caches show
    unused : list_any (uses c) (all_objects s.caches) ≡ false → list_any (uses c) w.store.rows ≡ false
    unused none = none_among (uses c) w.store.rows (all_objects s.caches)
        (λ o i e. found_stands (key_of o) o (all_objects s.caches)
        (p.sees (key_of o) (follows_it (key_of o) (ap (λ k. follows seats.ClaimProtect k) (uses_pod c o e))) ∙ member_stands o w.store.rows (rows_stand_in_order setup h) i)) none

    begun : (action : Option Due) → claim_guard_due (all_objects s.caches) c ≡ action → firsts.Begins u.task ≡ claim_guard_first (claim_guard_for c action)
    begun action e = decided ∙ (ap (λ x. claim_guard_first (claim_guard_begins (all_objects s.caches) x)) row ∙ ap (λ x. claim_guard_first (claim_guard_for c x)) e)

    will : (step : ClaimGuardStep) (call : Request) → firsts.Begins u.task ≡ firsts.Begins (tasks.ClaimProtect (record { claim = c; step = step }))
        → task_call (tasks.ClaimProtect (record { claim = c; step = step })) ≡ Some call
        → WillPay setup seat seats.ClaimProtect h (at_step u.key c step call) → WillPay setup seat seats.ClaimProtect h u
    will step call begins asks pays =
        let task : u.task ≡ tasks.ClaimProtect (record { claim = c; step = step }) = ap (task_in u.task) begins in
        let same : u.call ≡ call = one u.call call (sym gives.call ∙ (ap task_call task ∙ asks)) in
        subst (WillPay setup seat seats.ClaimProtect h) (λ i. record { key = u.key; task = (sym task) i; call = (sym same) i }) pays

    stays_new : is_deleting c.meta ≡ false → leaves (Claim c) ≡ false
    unfolding leaves
    stays_new e = ap (λ b. b && has_no_names c.meta.finalizers) e

    stays_guarded : is_protected_claim c ≡ true → leaves (Claim c) ≡ false
    unfolding leaves
    stays_guarded guarded_ = by c.meta.finalizers refl
      where
        by : (fs : List (List ℕ)) → c.meta.finalizers ≡ fs → (is_deleting c.meta && has_no_names c.meta.finalizers) ≡ false
        by [] e = absurd (true≢false (sym guarded_ ∙ ap (has_name pvc_protection) e))
        by (f ∷ fs) e = ap (λ xs. is_deleting c.meta && has_no_names xs) e ∙ no_and (is_deleting c.meta)
          where
            no_and : (b : Bool) → (b && false) ≡ false
            no_and true = refl
            no_and false = refl

    abbrev listing : Request
    listing = requests.List kinds.Pod (Some c.meta.namespace)

    abbrev h_listed : List Entry
    h_listed = own_entry setup seat seats.ClaimProtect h listing ∷ h

    same_world : world setup h_listed ≡ w
    same_world = list_stays setup w seats.ClaimProtect c.meta.namespace

    -- the finalizer is dropped after the list
    dropping : is_deleting c.meta ≡ true → is_protected_claim c ≡ true → list_any (uses c) (all_objects s.caches) ≡ false
        → WillPay setup seat seats.ClaimProtect h_listed (at_step u.key c steps.Drops (claim_write_over c (unguarded_claim c)))
    dropping deleting guarded_ free =
        let due : claim_guard_due w.store.rows c ≡ Some dues.Unguard = rw (deleting, guarded_, unused free) refl in
        EachPays (subst (λ x. Pays setup x seats.ClaimProtect (claim_write_over c (unguarded_claim c))) (sym same_world)
        (lowering_pays setup w seats.ClaimProtect (claim_write_over c (unguarded_claim c)) refl (claim_unguard_pays setup w seats.ClaimProtect c (stands (stays_guarded guarded_)) due)))
        (λ next is. none_some (sym (ends u.key c steps.Drops (claim_write_over c (unguarded_claim c)) _ (not_listing steps.Drops refl)) ∙ is))

    of_guarding : Guarding (is_deleting c.meta) (is_protected_claim c) (list_any (uses c) (all_objects s.caches)) → WillPay setup seat seats.ClaimProtect h u
    unfolding claim_guard_call
    of_guarding (Adds staying lacking e) =
        let due : claim_guard_due w.store.rows c ≡ Some dues.Guard = rw (staying, lacking) refl in
        will steps.Adds (claim_write_over c (guarded_claim c)) (begun _ e) refl
        (EachPays (lowering_pays setup w seats.ClaimProtect (claim_write_over c (guarded_claim c)) refl
        (claim_guard_pays setup w seats.ClaimProtect c (stands (stays_new staying)) due))
        (λ next is. none_some (sym (ends u.key c steps.Adds (claim_write_over c (guarded_claim c)) _ (not_listing steps.Adds refl)) ∙ is)))
    of_guarding (Drops deleting guarded_ free e) =
        let known : is_some c.meta.uid ≡ true = rows_known setup h run.imports u.key (Claim c) there in
        will steps.ListsPods listing (begun _ e) (rw known refl)
        (EachPays (λ lasts. absurd (list_never setup w seats.ClaimProtect kinds.Pod (Some c.meta.namespace) lasts))
        (λ next is. subst (WillPay setup seat seats.ClaimProtect h_listed)
        (sym (drops_next u.key c listing (reply_to (effect setup w seats.ClaimProtect listing)) next is)) (dropping deleting guarded_ free)))
    of_guarding (Rests e) = not_dropped (begun _ e)

  by_row : (row : Option Object) → row_at u.key (all_objects s.caches) ≡ row → WillPay setup seat seats.ClaimProtect h u
  by_row None e = not_dropped (decided ∙ ap (λ x. claim_guard_first (claim_guard_begins (all_objects s.caches) x)) e)
  by_row (Some (Claim c)) e = of_guarding c e (guarding (is_deleting c.meta) (is_protected_claim c) (list_any (uses c) (all_objects s.caches)))
  by_row (Some (Class x)) e = not_dropped (decided ∙ ap (λ x. claim_guard_first (claim_guard_begins (all_objects s.caches) x)) e)
  by_row (Some (Node x)) e = not_dropped (decided ∙ ap (λ x. claim_guard_first (claim_guard_begins (all_objects s.caches) x)) e)
  by_row (Some (Volume x)) e = not_dropped (decided ∙ ap (λ x. claim_guard_first (claim_guard_begins (all_objects s.caches) x)) e)
  by_row (Some (Pod x)) e = not_dropped (decided ∙ ap (λ x. claim_guard_first (claim_guard_begins (all_objects s.caches) x)) e)

pub claim_guards_pay : ClaimGuardsPay
claim_guards_pay setup seat role kind s h u run p gives = subst (λ k. WillPay setup seat k h u) (sym kind) (by_row setup seat role kind s h u run p gives (row_at u.key (all_objects s.caches)) refl)
