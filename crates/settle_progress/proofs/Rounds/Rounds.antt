-- A round with an actor that acts has an entry that lasts.
use Rattle.std.proofs.Common.{◌≡◌, ◌∙◌, ◌⊎◌, ℕ, zero, suc, List, [], ◌∷◌, ◌++◌, append_assoc, Bool, true, false, Some, inl, inr, refl, sym, ap, subst, ◌-◌, ◌<◌, arith}
use Rattle.std.specs.Prelude.{slice_get, ⊤}
use Rattle.std.proofs.lemmas.Bool.{and_parts}
use Rattle.call_types.specs.declared.entry.Entry.{Entry}
use Rattle.call_types.specs.declared.setup.Setup.{Setup}
use Rattle.binder_model.specs.World.{IsHistory, world}
use Rattle.model_laws.proofs.Lists.{none_some, one}
use Rattle.worker_core.specs.Absorbs.{woken}
use Rattle.worker_core.specs.States.{ActorState}
use Rattle.actor_rounds.specs.declared.drainers.Drainer.{Drainer}
use Rattle.actor_rounds.specs.Drainers.{seats_of}
use Rattle.actor_rounds.specs.Longer.{GrowsWithin}
use Rattle.actor_rounds.specs.Rounds.{Ends, IsRound, Lets, Runs, Turns}
use Rattle.actor_rounds.proofs.RoundFacts.{round_grows}
use Rattle.actor_rounds.proofs.RunFacts.{run_grows}
use Rattle.settle_writes.specs.Writes.Lasting.{HasLasting, LastsBetween}
use Rattle.settle_alike.specs.Alike.Alike.{AreAlike}
use Rattle.settle_alike.proofs.Alike.Calls.{entries_last_or_leave_alike, then_alike}
use Rattle.settle_slot.proofs.Slot.Slots.{older}
use Rattle.settle_progress.proofs.Wakes.Decided.{keys_are_decided}
use Rattle.settle_progress.specs.Rounds.Rounds.{RoundsLast}

-- more entries behind, and more before
lasting_behind : (setup : Setup) (newer h middle : List Entry) → HasLasting setup h middle → HasLasting setup h (newer ++ middle)
lasting_behind setup newer h middle l =
    record { entry = l.entry; newer = newer ++ l.newer; older = l.older; are = ap (λ es. newer ++ es) l.are ∙ sym (append_assoc newer l.newer (l.entry ∷ l.older ++ h)); lasts = l.lasts }

lasting_before : (setup : Setup) (added h past : List Entry) → HasLasting setup (added ++ h) past → HasLasting setup h past
lasting_before setup added h past l = record {
  entry = l.entry;
  newer = l.newer;
  older = l.older ++ added;
  are = l.are ∙ ap (λ es. l.newer ++ (l.entry ∷ es)) (sym (append_assoc l.older added h));
  lasts = subst (λ es. LastsBetween (world setup es) (world setup (l.entry ∷ es)) l.entry.reply) (sym (append_assoc l.older added h)) l.lasts;
}

-- with what is kept at each point of the round until the actor has its turn: entries of those before it keep it, and in its own
-- slot the key is decided by `decided`
module _ (setup : Setup) (lets : Lets) (past : List Entry) (left : ℕ) (history : IsHistory setup past) (start : List Entry) (d : Drainer)
    (Kept : List Entry → Type 0) (Other : Drainer → Type 0) (Awake : Drainer → Type 0)
    (passed : (other : Drainer) (ran : ActorState) (h middle newer : List Entry) (b rest : ℕ) (idle : Bool) → Other other
    → Runs lets other.seat ran middle rest idle (woken other.actor) h b → past ≡ newer ++ middle → Kept h → Kept middle)
    (decided : (ran : Drainer) (h middle newer : List Entry) (b rest : ℕ) → past ≡ newer ++ middle → AreAlike (world setup start) (world setup h)
    → Kept h → Runs lets d.seat ran.actor middle rest true (woken d.actor) h b → Awake ran → HasLasting setup h middle) where
  pub rounds_kept : (ds : List Drainer) (h : List Entry) (b : ℕ) (after : List Drainer) (whole : Bool) → IsRound lets past left ds h b after whole
      → whole ≡ true → AreAlike (world setup start) (world setup h) → Kept h
      → (place : ℕ) → slice_get ds place ≡ Some d → ((i : ℕ) (other : Drainer) → i < place → slice_get ds i ≡ Some other → Other other)
      → ((x : Drainer) → slice_get after place ≡ Some x → Awake x) → HasLasting setup h past
  rounds_kept _ h b _ _ (Ends entries rest) is_whole alike kept place there apart awake = none_some there
  rounds_kept _ h b _ _ (Turns {ds = ds} {after = after} {whole = whole} first ran middle rest idle seat run more) is_whole alike kept zero there apart awake =
      let parts = and_parts idle whole is_whole in
      let g = round_grows lets past left ds middle rest after whole more in
      let same : first ≡ d = one first d there in
      let ran_idle : Runs lets d.seat ran.actor middle rest true (woken d.actor) h b =
      subst (λ i. Runs lets d.seat ran.actor middle rest i (woken d.actor) h b) parts.0 (subst (λ x. Runs lets x.seat ran.actor middle rest idle (woken x.actor) h b) same run) in
      let l = decided ran h middle g.longer.added b rest g.longer.are alike kept ran_idle (awake ran refl) in
      subst (HasLasting setup h) (sym g.longer.are) (lasting_behind setup g.longer.added h middle l)
  rounds_kept _ h b _ _ (Turns {ds = ds} {after = after} {whole = whole} first ran middle rest idle seat run more) is_whole alike kept (suc place) there apart awake =
      by (entries_last_or_leave_alike setup slot.longer.added h (subst (IsHistory setup) slot.longer.are before))
      (λ a. rounds_kept ds middle rest after whole more (and_parts idle whole is_whole).1 a kept_on place there (λ i other lt at. apart (suc i) other (omega (arith, lt)) at) awake)
    where
      slot : GrowsWithin (first.seat ∷ []) (b - rest) h middle
      slot = run_grows lets first.seat ran.actor middle rest idle (woken first.actor) h b run

      g : GrowsWithin (seats_of ds) (rest - left) middle past
      g = round_grows lets past left ds middle rest after whole more

      before : IsHistory setup middle
      before = older setup g.longer.added middle (subst (IsHistory setup) g.longer.are history)

      kept_on : Kept middle
      kept_on = passed first ran.actor h middle g.longer.added b rest idle (apart 0 first (omega arith) refl) run g.longer.are kept

      by : HasLasting setup h (slot.longer.added ++ h) ⊎ AreAlike (world setup h) (world setup (slot.longer.added ++ h))
          → (AreAlike (world setup start) (world setup middle) → HasLasting setup middle past) → HasLasting setup h past
      by (inl l) later = subst (HasLasting setup h) (sym g.longer.are) (lasting_behind setup g.longer.added h middle (subst (HasLasting setup h) (sym slot.longer.are) l))
      by (inr same) later =
          let on : AreAlike (world setup h) (world setup middle) = subst (λ es. AreAlike (world setup h) (world setup es)) (sym slot.longer.are) same in
          lasting_before setup slot.longer.added h past (subst (λ es. HasLasting setup es past) slot.longer.are (later (then_alike _ _ _ alike on)))

-- with nothing kept beside
pub rounds_last : RoundsLast
rounds_last setup lets ds after h past b left history round a =
    rounds_kept setup lets past left history h a.drainer (λ x. ⊤) (λ x. ⊤) (λ x. x.actor.memory.stale ≡ false) (λ other ran x middle newer n rest idle o run are k. tt)
    (λ ran x middle newer n rest are alike k run awake.
    keys_are_decided setup lets a.drainer.seat h a.key a.object a.drainer.actor ran.actor x middle n rest a.built
    (older setup newer middle (subst (IsHistory setup) are history)) alike run awake a.acts a.followed a.stands)
    ds h b after true round refl (record { rows = refl; stored = refl; mounts = refl }) tt a.place a.there (λ i other lt at. tt) a.awake
