-- Only ops creates objects, and only volumes: all else that stands stood before.
use Rattle.std.proofs.Common.{◌≡◌, ◌∙◌, ℕ, List, [], ◌∷◌, Bool, true, false, true≢false, Some, inl, inr, refl, sym, ap, subst}
use Rattle.kube_objects.specs.declared.key.Key.{Key}
use Rattle.kube_parts.specs.declared.parts.Kind.{Kind}
use Rattle.kube_parts.specs.declared.parts.Kind.TheVariants as kinds
use Rattle.kube_objects.specs.declared.objects.Object.{Object}
use Rattle.kube_objects.specs.declared.objects.Object.TheVariants.{Class, Node, Volume, Claim, Pod}
use Rattle.kube_objects.specs.Keys.{key_of, row_at}
use Rattle.kube_objects.proofs.KeyOrder.{row_at-put_row_other, row_at-without_row, row_at-without_row_other, row_at_key}
use Rattle.kube_objects.proofs.SameKeys.{key_tells}
use Rattle.call_types.specs.declared.entry.Entry.{Entry}
use Rattle.call_types.specs.declared.reply.Reply.{Reply}
use Rattle.call_types.specs.declared.request.Request.{Request}
use Rattle.call_types.specs.declared.request.Request.TheVariants as requests
use Rattle.call_types.specs.declared.request.SeatKind.{SeatKind}
use Rattle.call_types.specs.declared.request.SeatKind.TheVariants as seats
use Rattle.call_types.specs.declared.setup.Setup.{Setup}
use Rattle.binder_model.specs.Licence.{Licensed}
use Rattle.binder_model.specs.Promises.{IsRunOf}
use Rattle.binder_model.specs.Store.{at_version, with_meta}
use Rattle.binder_model.specs.Told.{own}
use Rattle.binder_model.specs.World.{World, effect, world}
use Rattle.model_laws.proofs.Histories.{rows_stand_in_order}
use Rattle.model_laws.proofs.Identity.{IsVersionOf, key-at_version, key-created, key-marked, key-updated, status_kept}
use Rattle.model_laws.proofs.Lists.{none_some}
use Rattle.safety_law.specs.Invariant.Writes.{Writes}
use Rattle.safety_law.proofs.Invariant.Effects.{effect_form}
use Rattle.worker_core.specs.declared.role.Role.{Role}
use Rattle.worker_core.specs.Absorbs.{woken}
use Rattle.worker_core.specs.Roles.{IsBuiltKind}
use Rattle.worker_core.specs.States.{ActorState}
use Rattle.actor_rounds.specs.declared.drainers.Drainer.{Drainer}
use Rattle.actor_rounds.specs.Drainers.{roles_of}
use Rattle.actor_rounds.specs.Rounds.{Ends, IsRound, Lets, Runs, Turns, told_entry}
use Rattle.actor_rounds.proofs.RoundFacts.{round_grows}
use Rattle.settle_writes.proofs.Done.Doing.{write_asked}
use Rattle.settle_progress.proofs.Epochs.Silent.{older_run}
use Rattle.settle_write_counts.proofs.Rounds.Nodes.{IsMoved}
use Rattle.settle_write_counts.proofs.Rounds.Runs.{IsCalled, run_moves}
use Rattle.settle_write_counts.proofs.Rounds.Slots.{ComesTo, Leaves, Wrote, comes_to}
use Rattle.std.specs.Prelude.{⊤}
use Rattle.binder_model.specs.Store.{State}
use Rattle.kube_objects.specs.Keys.{without_row}
use Rattle.std.proofs.Common.{◌+◌}
use Rattle.settle_write_counts.proofs.Rounds.Made.{no_edit}

-- the key is a volume's
abbrev pub is_volume_kind : Kind → Bool
is_volume_kind kinds.PersistentVolume = true
is_volume_kind kind = false

-- it is made by such an actor
abbrev pub makes : SeatKind → Kind → Bool
makes seats.Ops kind = is_volume_kind kind
makes seat kind = false

pub record StandsIn (w : World) (key : Key) : Type 0 where
  pub object : Object
  pub there : row_at key w.store.rows ≡ Some object

-- each key that stands in the new world, but for those that may be made, stood in the old
abbrev pub KeysStood : SeatKind → World → World → Type 0
KeysStood kind old new = (key : Key) (o : Object) → makes kind key.kind ≡ false → row_at key new.store.rows ≡ Some o → StandsIn old key

-- ---- one call

pub creates : (kind : SeatKind) (mine : List Entry) (x : Object) → IsBuiltKind kind → Licensed kind mine (requests.Create x) → makes kind (key_of x).kind ≡ true
creates seats.Ops mine (Volume v) built may = refl
creates seats.Ops mine (Class x) built may = absurd may.1
creates seats.Ops mine (Node x) built may = absurd may.1
creates seats.Ops mine (Claim x) built may = absurd may.1
creates seats.Ops mine (Pod x) built may = absurd may.1
creates seats.User mine x built may = absurd built
creates seats.Binder mine x built may = absurd may.1
creates seats.Scheduler mine x built may = absurd may.1
creates seats.ClaimProtect mine x built may = absurd may.1
creates seats.VolumeProtect mine x built may = absurd may.1
creates seats.Agent mine x built may = absurd may.1

module _ (w : World) (mine : List Entry) (kind : SeatKind) (built : IsBuiltKind kind) where
  over : (key : Key) (old o : Object) → row_at key w.store.rows ≡ Some old → key_of o ≡ key_of old → StandsIn w (key_of o)
  over key old o there keyed = record { object = old; there = ap (λ k. row_at k w.store.rows) (keyed ∙ row_at_key key old w.store.rows there) ∙ there }

  stood : (r : Request) (o : Object) → Licensed kind mine r → Writes w kind r o → makes kind (key_of o).kind ≡ false → StandsIn w (key_of o)
  unfolding at_version with_meta
  stood (requests.Create x) o may i none =
      let keyed : key_of o ≡ key_of x = ap key_of i.is ∙ key-created _ x _ _ in
      absurd (true≢false (sym (ap (λ (k : Key). makes kind k.kind) keyed ∙ creates kind mine x built may) ∙ none))
  stood (requests.Update x given) o may u none =
      let keyed : key_of o ≡ key_of x = ap key_of u.is ∙ key-updated u.old x (w.store.version + 1) in
      record { object = u.old; there = ap (λ k. row_at k w.store.rows) keyed ∙ u.there }
  stood (requests.UpdateStatus key status given) o may i none =
      let v : IsVersionOf i.old (Some i.new) = subst (IsVersionOf i.old) i.fits (status_kept status i.old) in
      over key i.old o i.there (ap key_of i.is ∙ (key-at_version i.new (w.store.version + 1) ∙ v.1))
  stood (requests.Edit key change) o may i none = absurd (no_edit kind mine key change built may)
  stood (requests.Delete key given) o may i none = over key i.old o i.there (ap key_of i.is ∙ key-marked i.old (w.store.version + 1) w.moment)
  stood (requests.BindPod key uid node) o may i none = over key (Pod i.pod) o i.there (ap key_of i.is)
  stood (requests.FinishPod key uid node epoch) o may i none = over key (Pod i.pod) o i.there (ap key_of i.is)
  stood _ o may i none = absurd i

call_stood : (setup : Setup) (seat : ℕ) (x : ActorState) (request : Request) (reply : Reply) (h : List Entry) (kind : SeatKind) → x.role.kind ≡ kind
    → IsBuiltKind kind → IsCalled setup seat x request reply h → KeysStood kind (world setup h) (world setup (told_entry seat x request reply ∷ h))
call_stood setup seat x request reply h kind of_kind built called key p none there = by (comes_to (world setup h) (effect setup (world setup h) x.role.kind request))
  where
    by_move : (o : Object) → Writes (world setup h) x.role.kind request o
        → IsMoved (world setup h).store.rows (world setup (told_entry seat x request reply ∷ h)).store.rows o → StandsIn (world setup h) key
    by_move o writes (inl put) = elim (key_tells (key_of o) key) [
      | inl same ↦ subst (StandsIn (world setup h)) same
          (stood (world setup h) (own seat h) kind built request o (subst (λ k. Licensed k (own seat h) request) of_kind called.may)
          (subst (λ k. Writes (world setup h) k request o) of_kind writes) (ap (λ (k : Key). makes kind k.kind) same ∙ none))
      | inr other ↦ record { object = p; there = sym (row_at-put_row_other key o (world setup h).store.rows other) ∙ (ap (row_at key) (sym put) ∙ there) }
    ]
    by_move o writes (inr gone) = elim (key_tells (key_of o) key) [
      | inl same ↦ none_some (sym (row_at-without_row (key_of o) (world setup h).store.rows (rows_stand_in_order setup h)) ∙
          (ap (λ k. row_at k (without_row (key_of o) (world setup h).store.rows)) same ∙ (ap (row_at key) (sym gone) ∙ there)))
      | inr other ↦ record { object = p; there = sym (row_at-without_row_other (key_of o) key (world setup h).store.rows other) ∙ (ap (row_at key) (sym gone) ∙ there) }
    ]

    by : ComesTo (world setup h) (effect setup (world setup h) x.role.kind request) → StandsIn (world setup h) key
    by (Leaves same) = record { object = p; there = ap (λ (s : State). row_at key s.rows) (sym same) ∙ there }
    by (Wrote o written version moved) =
        by_move o (write_asked setup (world setup h) x.role.kind request o (effect setup (world setup h) x.role.kind request)
        (effect_form setup (world setup h) x.role.kind request (rows_stand_in_order setup h)) written) moved

-- ---- slots and rounds

pub slot_stood : (setup : Setup) (lets : Lets) (seat : ℕ) (old after : ActorState) (h past : List Entry) (b left : ℕ) (idle : Bool)
    → IsBuiltKind old.role.kind → IsRunOf setup past → Runs lets seat after past left idle (woken old) h b → KeysStood old.role.kind (world setup h) (world setup past)
slot_stood setup lets seat old after h past b left idle built run runs =
    run_moves setup lets seat after past left idle run old.role built (KeysStood old.role.kind) (λ w key o none there. record { object = o; there = there })
    (λ a b c ab bc key o none there. let s = bc key o none there in ab key s.object none s.there)
    (λ x request reply g is called. call_stood setup seat x request reply g old.role.kind (ap (λ (r : Role). r.kind) is) built called) (woken old) h b runs refl

-- those that make nothing
abbrev pub MakeNone : List Role → Type 0
MakeNone [] = ⊤
MakeNone (role ∷ roles) = (IsBuiltKind role.kind × ((kind : Kind) → makes role.kind kind ≡ false)) × MakeNone roles

pub round_stood : (setup : Setup) (lets : Lets) (past : List Entry) (left : ℕ) (run : IsRunOf setup past) (ds : List Drainer) (h : List Entry)
    (b : ℕ) (after : List Drainer) (whole : Bool) → IsRound lets past left ds h b after whole → MakeNone (roles_of ds)
    → (key : Key) (o : Object) → row_at key (world setup past).store.rows ≡ Some o → StandsIn (world setup h) key
round_stood setup lets past left run _ h b _ _ (Ends entries rest) none key o there = record { object = o; there = ap (λ es. row_at key (world setup es).store.rows) (sym entries) ∙ there }
round_stood setup lets past left run _ h b _ _ (Turns {ds = ds} {after = after} {whole = whole} d ran middle rest idle seat runs more) none key o there =
    let g = round_grows lets past left ds middle rest after whole more in
    let here = older_run setup g.longer.added middle (subst (IsRunOf setup) g.longer.are run) in
    let later = round_stood setup lets past left run ds middle rest after whole more none.1 key o there in
    slot_stood setup lets d.seat d.actor ran.actor h middle b rest idle none.0.0 here runs key later.object (none.0.1 key.kind) later.there
