-- Each entry of a round of actors whose decisions pay pays.
use Rattle.std.proofs.Common.{◌≡◌, ℕ, suc, List, Bool, Some, refl, subst}
use Rattle.std.specs.Prelude.{slice_get}
use Rattle.call_types.specs.declared.entry.Entry.{Entry}
use Rattle.call_types.specs.declared.setup.Setup.{Setup}
use Rattle.binder_model.specs.Promises.{IsRunOf}
use Rattle.actor_rounds.specs.declared.drainers.Drainer.{Drainer}
use Rattle.actor_rounds.specs.Rounds.{Ends, IsRound, Lets, Turns}
use Rattle.actor_rounds.proofs.RoundFacts.{round_grows}
use Rattle.settle_pays.specs.Pays.Pays.{HavePaid, IsPayer, RoundsOfPayersPay}
use Rattle.settle_pays.proofs.Pays.Entries.{none_paid, then_paid}
use Rattle.settle_pays.proofs.Pays.Slots.{slots_pay}
use Rattle.settle_progress.proofs.Epochs.Silent.{older_run}

module _ (setup : Setup) (lets : Lets) (past : List Entry) (left : ℕ) (run : IsRunOf setup past) where
  rounds_pay : (ds : List Drainer) (h : List Entry) (b : ℕ) (after : List Drainer) (whole : Bool) → IsRound lets past left ds h b after whole
      → ((place : ℕ) (d : Drainer) → slice_get ds place ≡ Some d → IsPayer setup d) → HavePaid setup h past
  rounds_pay _ h b _ _ (Ends entries rest) payers = none_paid setup h past entries
  rounds_pay _ h b _ _ (Turns {ds = ds} {after = after} {whole = whole} d ran middle rest idle seat runs more) payers =
      let p = payers 0 d refl in
      let g = round_grows lets past left ds middle rest after whole more in
      let before : IsRunOf setup middle = older_run setup g.longer.added middle (subst (IsRunOf setup) g.longer.are run) in
      then_paid setup h middle past (slots_pay setup lets d.seat d.actor ran.actor h middle b rest idle p.built before runs p.rests p.pays)
      (rounds_pay ds middle rest after whole more (λ place x at. payers (suc place) x at))

pub rounds_of_payers_pay : RoundsOfPayersPay
rounds_of_payers_pay setup lets round run payers = rounds_pay setup lets round.past round.left run round.drainers round.start round.budget round.after round.whole round.is_round payers
