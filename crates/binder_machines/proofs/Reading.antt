-- After a read the machines decide anew by the tables of the decisions.
use Rattle.std.proofs.Common.{◌≡◌, ◌∙◌, Bool, true, false, true≢false, Option, Some, None, refl, sym, ap}
use Rattle.kube_types.specs.declared.lookup.Live.{Live}
use Rattle.kube_types.specs.declared.lookup.Live.TheVariants.{NotAsked, Absent, Present}
use Rattle.kube_objects.specs.declared.objects.Ref.{Ref}
use Rattle.kube_objects.specs.declared.objects.Volume.{Volume as VolumeData}
use Rattle.kube_objects.specs.declared.objects.Claim.{Claim as ClaimData}
use Rattle.call_types.specs.declared.reply.Refusal.TheVariants as refusals
use Rattle.call_types.specs.declared.reply.Reply.{Reply}
use Rattle.call_types.specs.declared.reply.Reply.TheVariants as replies
use Rattle.claim_sync.specs.ClaimDecision.{claim_decision}
use Rattle.claim_sync.specs.declared.action.ClaimStep.{ClaimStep}
use Rattle.claim_sync.specs.declared.action.ClaimStep.TheVariants as steps
use Rattle.volume_sync.specs.VolumeDecision.{seen_claim, volume_decision}
use Rattle.volume_sync.specs.declared.action.VolumeAction.{VolumeAction}
use Rattle.volume_sync.specs.declared.action.VolumeAction.TheVariants as actions
use Rattle.binder_machines.specs.declared.decide.FirstMachine.{FirstMachine}
use Rattle.binder_machines.specs.declared.decide.FirstMachine.TheVariants.{Begins}
use Rattle.binder_machines.specs.declared.machine.Machine.TheVariants as machines
use Rattle.binder_machines.specs.FirstSteps.{claim_first, queue_of, volume_first}
use Rattle.binder_machines.specs.Machines.{confirmed_for, machine_for, moved, parks_at, volume_read, claim_read}
use Rattle.binder_machines.specs.ReadLaw.{ClaimReadDecides, IsAnswer, ParkedHaveEnded, VolumeReadDecides}
use Rattle.binder_machines.proofs.Shown.{claim_reads, is_for_completed, unseen, volume_reads}

-- whether a read begins

abbrev reads_claim : FirstMachine → Bool
reads_claim (Begins (machines.ReadsClaim v)) = true
reads_claim _ = false

to_read : (v : VolumeData) (a : VolumeAction) → reads_claim (volume_first v a) ≡ true → a ≡ actions.ReadClaim
to_read v actions.ReadClaim e = refl
to_read v actions.QueueClaim e = absurd (by v.claim_ref e)
  where
    by : (r : Option Ref) → reads_claim (queue_of r) ≡ true → ⊥
    by None e = true≢false (sym e)
    by (Some r) e = true≢false (sym e)
to_read v actions.Nothing e = absurd (true≢false (sym e))
to_read v actions.Available e = absurd (true≢false (sym e))
to_read v actions.Bound e = absurd (true≢false (sym e))
to_read v actions.Release e = absurd (true≢false (sym e))
to_read v actions.Unbind e = absurd (true≢false (sym e))

pub claim_read_decides : ClaimReadDecides
unfolding moved
claim_read_decides rows v reply live first = by reply live
  where
    none : seen_claim rows v NotAsked ≡ None
    none = unseen rows v (to_read v (volume_decision rows v NotAsked) (ap reads_claim first))

    by : (reply : Reply) (live : Live) → IsAnswer reply live → moved (machines.ReadsClaim v) reply ≡ machine_for v (volume_decision rows v live)
    by (replies.Found o) (Present p) is = ap (λ x. machine_for v (volume_read v (Some x))) (sym is) ∙ ap (machine_for v) (sym (volume_reads rows v (Present p) refl none))
    by (replies.Refused refusals.NotFound) Absent is = ap (machine_for v) (sym (volume_reads rows v Absent refl none))
    by _ _ is = absurd is

abbrev reads_volume : FirstMachine → Bool
reads_volume (Begins (machines.ReadsVolume c)) = true
reads_volume _ = false

for_completed : (c : ClaimData) (s : ClaimStep) → reads_volume (claim_first c s) ≡ true → is_for_completed s ≡ true
for_completed c steps.ReadVolume e = refl
for_completed c steps.Lost e = refl
for_completed c steps.Nothing e = absurd (true≢false (sym e))
for_completed c steps.Bind e = absurd (true≢false (sym e))
for_completed c steps.AssignClass e = absurd (true≢false (sym e))

pub volume_read_decides : VolumeReadDecides
unfolding moved
volume_read_decides rows c reply live first = by reply live
  where
    done : is_for_completed (claim_decision rows c NotAsked) ≡ true
    done = for_completed c (claim_decision rows c NotAsked) (ap reads_volume first)

    by : (reply : Reply) (live : Live) → IsAnswer reply live → moved (machines.ReadsVolume c) reply ≡ confirmed_for c (claim_decision rows c live)
    by (replies.Found o) (Present p) is = ap (λ x. confirmed_for c (claim_read c (Some x))) (sym is) ∙ ap (confirmed_for c) (sym (claim_reads rows c (Present p) refl done))
    by (replies.Refused refusals.NotFound) Absent is = ap (confirmed_for c) (sym (claim_reads rows c Absent refl done))
    by _ _ is = absurd is

pub parked_have_ended : ParkedHaveEnded
unfolding moved parks_at
parked_have_ended (machines.ReadsClaim v) (replies.Refused refusals.NotFound) e = absurd (true≢false (sym e))
parked_have_ended (machines.ReadsVolume c) (replies.Refused refusals.NotFound) e = absurd (true≢false (sym e))
parked_have_ended (machines.Frees v) (replies.Refused r) e = refl
parked_have_ended (machines.Binds v c) (replies.Refused r) e = refl
parked_have_ended (machines.MarksBound v) (replies.Refused r) e = refl
parked_have_ended (machines.ReadsClaim v) (replies.Refused _) e = refl
parked_have_ended (machines.Releases v) (replies.Refused r) e = refl
parked_have_ended (machines.Unbinds v) (replies.Refused r) e = refl
parked_have_ended (machines.ReadsVolume c) (replies.Refused _) e = refl
parked_have_ended (machines.AssignsClass c x) (replies.Refused r) e = refl
parked_have_ended (machines.Loses c) (replies.Refused r) e = refl
parked_have_ended _ _ e = absurd (true≢false (sym e))
