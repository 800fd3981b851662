-- What a scheduler writes gives a volume only to a claim that it suits: it was chosen on rows that show what was told newest, and what
-- was told once was told at each later write too.
use Rattle.std.proofs.Common.{◌≡◌, ◌∙◌, ℕ, zero, suc, Bool, true, false, List, [], ◌∷◌, Option, Some, None, inl, inr, refl, sym, subst, if◌then◌else◌}
use Rattle.std.specs.Prelude.{slice_get}
use Rattle.std.specs.List.{AllByRecursion}
use Rattle.kube_parts.specs.declared.uid.Uid.{Uid}
use Rattle.kube_objects.specs.declared.objects.Volume.{Volume as VolumeData}
use Rattle.kube_objects.specs.declared.objects.Pod.{Pod as PodData}
use Rattle.kube_objects.specs.declared.objects.Object.{Object}
use Rattle.kube_objects.specs.declared.objects.Object.TheVariants.{Class, Node, Volume, Claim, Pod}
use Rattle.kube_objects.specs.Bindings.{is_scheduled, ref_uid}
use Rattle.kube_objects.specs.Keys.{AreRows, key_of}
use Rattle.call_types.specs.declared.entry.Entry.{Entry}
use Rattle.call_types.specs.declared.request.Request.{Request}
use Rattle.call_types.specs.declared.request.Request.TheVariants as requests
use Rattle.call_types.specs.declared.reply.Reply.{Reply}
use Rattle.binder_model.specs.At.{IsWrittenAt}
use Rattle.binder_model.specs.Told.{ToldClaim}
use Rattle.binder_machines.specs.Evidence.{ToldThis, ToldThisClaim}
use Rattle.model_laws.proofs.Evidence.{told_map, volume_map}
use Rattle.model_laws.proofs.Lists.{none_some, one}
use Rattle.model_laws.proofs.Newest.{newest_claim, newest_volume}
use Rattle.delayed_binding.specs.declared.choice.Choice.{Choice}
use Rattle.delayed_binding.specs.declared.choice.Choice.TheVariants.{Assign, Prepare, Wait, NoNode}
use Rattle.delayed_binding.specs.Choices.{IsChoice}
use Rattle.delayed_binding.specs.Writes.{joined, writes_of}
use Rattle.delayed_binding.specs.WriteLaw.{FitsIfReference, IsFitting, ShowsNewest}
use Rattle.delayed_binding.proofs.Fitting.{references_fit}
use Rattle.pod_scheduler.specs.declared.schedule.ScheduleOp.{ScheduleOp}
use Rattle.pod_scheduler.specs.declared.schedule.ScheduleStep.{ScheduleStep}
use Rattle.pod_scheduler.specs.declared.schedule.ScheduleStep.TheVariants as steps
use Rattle.pod_scheduler.specs.declared.tries.Tried.{Tried}
use Rattle.pod_scheduler.specs.Decisions.{BeginsIf, BeginsOn, are_known, begun_with, binding, last_refused, present, writes_for}
use Rattle.pod_scheduler.specs.Schedules.{schedule_call_at, schedule_call, schedule_moved}
use Rattle.pod_scheduler.proofs.Allowed.{write_of_is}
use Rattle.pod_scheduler.proofs.Present.{each_present, prepare_is}
use Rattle.size_law.specs.Law.Fitting.{GivesSo, GivesTo, IsGiven}
use Rattle.size_law.proofs.Calls.Asked.{reference_gives}
use Rattle.size_law.proofs.Calls.Decided.{fits_is}

-- each of these writes gives a volume only so
abbrev pub AllGive : List Entry → List Request → Type 0
AllGive mine writes = AllByRecursion (GivesSo mine) writes

-- on the rows that show what was told newest
module _ (rows : List Object) (mine : List Entry) (shows : ShowsNewest rows mine) where
  -- a reference of a volume of the rows to a claim of the rows that it fits
  fitting_gives : (request : Request) → IsFitting rows request → GivesSo mine request
  fitting_gives request f =
      let volume : ToldThis f.volume mine = newest_volume (λ v. v ≡ f.volume) mine (key_of (Volume f.volume)) f.volume (sym (shows (key_of (Volume f.volume))) ∙ f.volume_there) refl in
      let claim : ToldThisClaim f.claim mine = newest_claim (λ c. c ≡ f.claim) mine (key_of (Claim f.claim)) f.claim (sym (shows (key_of (Claim f.claim))) ∙ f.claim_there) refl in
      subst (GivesSo mine) (sym f.is) (reference_gives f.volume f.claim mine volume claim (inl (fits_is f.volume f.claim f.fits)))

  fit_gives : (request : Request) → FitsIfReference rows request → GivesSo mine request
  fit_gives (requests.Update (Volume new) given) fit = fitting_gives (requests.Update (Volume new) given) fit
  fit_gives request fit = tt

  module _ (order : AreRows rows) (p : PodData) (last : Option (List ℕ)) where
    -- each write that is made for a choice
    writes_give : (choice : Choice) → IsChoice rows p last choice → AllGive mine (writes_for rows p choice)
    writes_give (Assign name) f = by p.meta.uid
      where
        by : (uid : Option Uid) → AllGive mine (binding p uid name)
        by None = tt
        by (Some uid) = (tt, tt)
    writes_give (Prepare node binds provisions) f = by (are_known rows p)
      where
        choice : Choice
        choice = Prepare node binds provisions

        each : (n : ℕ) (w : Request) → joined (slice_get (writes_of rows choice) n) ≡ Some w → GivesSo mine w
        each n w e = fit_gives w (references_fit rows p last choice n w order f (prepare_is rows choice n ∙ e))

        by : (known : Bool) → AllGive mine (if known then present (writes_of rows choice) else [])
        by true = each_present (writes_of rows choice) each
        by false = tt
    writes_give Wait f = tt
    writes_give NoNode f = tt

    begun_give : (writes : List Request) (op : ScheduleOp) → Some op ≡ begun_with writes → AllGive mine writes → AllGive mine op.writes
    begun_give [] op e all = none_some (sym e)
    begun_give (w ∷ writes) op e all = subst (λ (x : ScheduleOp). AllGive mine x.writes) (sym (one op _ e)) all

  -- each write of what begins
  pub begun_gives : AreRows rows → (refused : List Tried) (row : Option Object) (op : ScheduleOp) → BeginsOn rows refused row (Some op) → AllGive mine op.writes
  begun_gives order refused (Some (Pod p)) op b = by (is_scheduled p) b
    where
      by : (scheduled : Bool) → BeginsIf scheduled rows refused p (Some op) → AllGive mine op.writes
      by true f = none_some (sym f)
      by false f = begun_give order p (last_refused rows p refused) (writes_for rows p f.choice) op f.begins (writes_give order p (last_refused rows p refused) f.choice f.chosen)
  begun_gives order refused (Some (Class x)) op b = none_some (sym b)
  begun_gives order refused (Some (Node x)) op b = none_some (sym b)
  begun_gives order refused (Some (Volume x)) op b = none_some (sym b)
  begun_gives order refused (Some (Claim x)) op b = none_some (sym b)
  begun_gives order refused None op b = none_some (sym b)

-- what was told stays told

module _ (mine : List Entry) (e : Entry) where
  gives_on : (request : Request) → GivesSo mine request → GivesSo (e ∷ mine) request
  gives_on (requests.Update (Volume new) given) g = by (ref_uid new.claim_ref) g
    where
      by : (uid : Option Uid) → GivesTo uid mine new given → GivesTo uid (e ∷ mine) new given
      by None g = tt
      by (Some uid) g =
          inr (told_map (volume_map {P = λ o. IsWrittenAt given new.meta.namespace new.meta.name o.meta × ToldClaim (IsGiven o new) mine}
          {Q = λ o. IsWrittenAt given new.meta.namespace new.meta.name o.meta × ToldClaim (IsGiven o new) (e ∷ mine)} (λ o h. (h.0, inr h.1))) mine g)
  gives_on request g = tt

  each_on : (writes : List Request) → AllGive mine writes → AllGive (e ∷ mine) writes
  each_on [] all = tt
  each_on (w ∷ writes) all = (gives_on w all.0, each_on writes all.1)

-- an answer leaves the writes as they are
pub moved_gives : (op : ScheduleOp) (mine : List Entry) (e : Entry) (reply : Reply) → AllGive mine op.writes → AllGive (e ∷ mine) (schedule_moved op reply).writes
unfolding schedule_moved
moved_gives op mine e reply all = each_on mine e op.writes all

-- the next call is one of the writes

gives_at : (mine : List Entry) (writes : List Request) (place : ℕ) (request : Request) → AllGive mine writes → slice_get writes place ≡ Some request → GivesSo mine request
gives_at mine [] place request all e = none_some e
gives_at mine (w ∷ writes) zero request all e = subst (GivesSo mine) (one w request e) all.0
gives_at mine (w ∷ writes) (suc place) request all e = gives_at mine writes place request all.1 e

step_gives : (mine : List Entry) (writes : List Request) (step : ScheduleStep) (request : Request) → AllGive mine writes → schedule_call_at writes step ≡ Some request → GivesSo mine request
step_gives mine writes (steps.Writes place) request all e = gives_at mine writes place request all (write_of_is (slice_get writes place) request e).is
step_gives mine writes steps.Done request all e = none_some e
step_gives mine writes steps.Parked request all e = none_some e

pub schedule_gives : (op : ScheduleOp) (mine : List Entry) (request : Request) → AllGive mine op.writes → schedule_call op ≡ Some request → GivesSo mine request
unfolding schedule_call
schedule_gives op mine request all e = step_gives mine op.writes op.step request all e
