-- What a scheduler begins selects no node, where no class of the rows both binds late and provisions.
use Rattle.std.proofs.Common.{◌≡◌, ◌∙◌, ℕ, zero, suc, List, [], ◌∷◌, ◌++◌, Bool, true, false, true≢false, Option, Some, None, refl, sym, subst, if◌then◌else◌}
use Rattle.std.specs.Prelude.{is_none, map, slice_get, ⊤}
use Rattle.std.proofs.lemmas.Bool.{and_right}
use Rattle.kube_objects.specs.declared.key.Key.{Key}
use Rattle.kube_parts.specs.declared.uid.Uid.{Uid}
use Rattle.kube_objects.specs.declared.objects.Claim.{Claim as ClaimData}
use Rattle.kube_objects.specs.declared.objects.Class.{Class as ClassData}
use Rattle.kube_objects.specs.declared.objects.Node.{Node as NodeData}
use Rattle.kube_objects.specs.declared.objects.Pod.{Pod as PodData}
use Rattle.kube_objects.specs.declared.objects.Volume.{Volume as VolumeData}
use Rattle.kube_objects.specs.declared.objects.Object.{Object}
use Rattle.kube_objects.specs.declared.objects.Object.TheVariants.{Class, Node, Volume, Claim, Pod}
use Rattle.kube_objects.specs.Bindings.{class_of_claim, is_scheduled}
use Rattle.kube_objects.specs.Keys.{row_at}
use Rattle.volume_index.specs.VolumeIndex.{as_volume}
use Rattle.call_types.specs.declared.request.Request.{Request}
use Rattle.call_types.specs.declared.request.SeatKind.TheVariants as seats
use Rattle.binder_model.specs.Choice.{AreShares, IsProvisioned, Share, TakesVolume, can_provision, claim_in, claims_of, class_provisions}
use Rattle.binder_model.specs.Matching.{is_delayed}
use Rattle.binder_model.specs.ObjectKeys.{class_key}
use Rattle.binder_model.specs.Provisioning.{provisions}
use Rattle.model_laws.proofs.Lists.{none_some, one}
use Rattle.delayed_binding.specs.declared.choice.Choice.{Choice}
use Rattle.delayed_binding.specs.declared.choice.Choice.TheVariants.{Assign, NoNode, Prepare, Wait}
use Rattle.delayed_binding.specs.Choices.{IsChoice, others_in, provisions_of, set_aside}
use Rattle.delayed_binding.specs.Writes.{bind_write, reference_write, writes_of}
use Rattle.delayed_binding.proofs.Known.{Each, IsSought, each_map, others_sought}
use Rattle.pod_scheduler.specs.declared.schedule.ScheduleOp.{ScheduleOp}
use Rattle.pod_scheduler.specs.declared.tries.Tried.{Tried}
use Rattle.pod_scheduler.specs.Decisions.{BeginsIf, BeginsOn, are_known, begun_with, binding, last_refused, present, writes_for}
use Rattle.pod_scheduler.proofs.Begun.{all_known}
use Rattle.settle_due.proofs.Scheduling.Choosing.{search_of}
use Rattle.settle_budget.specs.Drains.Rounds.{selects_node}

-- none of these selects a node
abbrev pub SelectNone : List Request → Type 0
SelectNone [] = ⊤
SelectNone (r ∷ rs) = (selects_node seats.Scheduler r ≡ 0) × SelectNone rs

pub select_none_at : (writes : List Request) → SelectNone writes → (place : ℕ) (r : Request) → slice_get writes place ≡ Some r → selects_node seats.Scheduler r ≡ 0
select_none_at [] none place r at = none_some at
select_none_at (w ∷ writes) none zero r at = subst (λ x. selects_node seats.Scheduler x ≡ 0) (one w r at) none.0
select_none_at (w ∷ writes) none (suc place) r at = select_none_at writes none.1 place r at

-- a class of these rows that binds late provisions nothing
abbrev pub NoneIsLate : List Object → Type 0
NoneIsLate rows = (key : Key) (x : ClassData) → row_at key rows ≡ Some (Class x) → x.delayed ≡ true → provisions x ≡ false

module _ (rows : List Object) (late : NoneIsLate rows) where
  -- a claim that waits for a node is not to be provisioned
  never_provisioned : (c : ClaimData) → IsSought rows c → can_provision rows c ≡ false
  never_provisioned c sought = and_right (is_none c.selector) (class_provisions (row_at (class_key (class_of_claim c)) rows)) (by (row_at (class_key (class_of_claim c)) rows) refl sought.delayed)
    where
      by : (o : Option Object) → row_at (class_key (class_of_claim c)) rows ≡ o → is_delayed o ≡ true → class_provisions o ≡ false
      by None there delayed = refl
      by (Some (Class x)) there delayed = late (class_key (class_of_claim c)) x there delayed
      by (Some (Node x)) there delayed = refl
      by (Some (Volume x)) there delayed = refl
      by (Some (Claim x)) there delayed = refl
      by (Some (Pod x)) there delayed = refl

  none_provisioned : (n : NodeData) (taken : List ℕ) (cs : List ClaimData) (shares : List Share) → Each (λ c. can_provision rows c ≡ false) cs
      → AreShares rows n taken cs shares → provisions_of cs shares ≡ []
  none_provisioned n taken [] [] each are = refl
  none_provisioned n taken [] (share ∷ shares) each are = refl
  none_provisioned n taken (c ∷ cs) [] each are = refl
  none_provisioned n taken (c ∷ cs) (TakesVolume place ∷ shares) each are = none_provisioned n (place ∷ taken) cs shares each.1 are.1
  none_provisioned n taken (c ∷ cs) (IsProvisioned ∷ shares) each are = absurd (true≢false (sym are.1 ∙ each.0))

  binds_select_none : (binds : List (Key × Key)) → SelectNone (present (map (bind_write rows) binds ++ []))
  binds_select_none [] = tt
  binds_select_none (pair ∷ binds) = by (claim_in (row_at pair.0 rows)) (as_volume (row_at pair.1 rows)) (binds_select_none binds)
    where
      by : (c : Option ClaimData) (v : Option VolumeData) → SelectNone (present (map (bind_write rows) binds ++ [])) → SelectNone (present (reference_write c v ∷ map (bind_write rows) binds ++ []))
      by None v rest = rest
      by (Some c) None rest = rest
      by (Some c) (Some v) rest = (refl, rest)

  module _ (p : PodData) (last : Option (List ℕ)) where
    prepared_none : (name : List ℕ) (binds : List (Key × Key)) (keys : List Key) → IsChoice rows p last (Prepare name binds keys)
        → are_known rows p ≡ true → SelectNone (present (writes_of rows (Prepare name binds keys)))
    prepared_none name binds keys chosen known =
        let s = search_of rows p last name binds keys chosen in
        let each = each_map never_provisioned (others_in rows (claims_of rows p)) (others_sought rows p (all_known rows p known) s.here) in
        let prepares = s.prepared.prepares in
        let none : keys ≡ [] = prepares.provisions_are ∙ none_provisioned s.prepared.node (set_aside rows) (others_in rows (claims_of rows p)) prepares.shares each prepares.serves.shared in
        subst (λ ks. SelectNone (present (writes_of rows (Prepare name binds ks)))) (sym none) (binds_select_none binds)

    choice_none : (choice : Choice) → IsChoice rows p last choice → SelectNone (writes_for rows p choice)
    choice_none (Assign node) chosen = by p.meta.uid
      where
        by : (uid : Option Uid) → SelectNone (binding p uid node)
        by None = tt
        by (Some uid) = (refl, tt)
    choice_none (Prepare name binds keys) chosen = by (are_known rows p) refl
      where
        by : (b : Bool) → are_known rows p ≡ b → SelectNone (if b then present (writes_of rows (Prepare name binds keys)) else [])
        by true known = prepared_none name binds keys chosen known
        by false known = tt
    choice_none Wait chosen = tt
    choice_none NoNode chosen = tt

  pub begun_none : (refused : List Tried) (row : Option Object) (op : ScheduleOp) → BeginsOn rows refused row (Some op) → SelectNone op.writes
  begun_none refused (Some (Pod p)) op begins = by (is_scheduled p) begins
    where
      of : (writes : List Request) → SelectNone writes → Some op ≡ begun_with writes → SelectNone op.writes
      of [] none e = none_some (sym e)
      of (w ∷ writes) none e = subst (λ (x : ScheduleOp). SelectNone x.writes) (sym (one op _ e)) none

      by : (b : Bool) → BeginsIf b rows refused p (Some op) → SelectNone op.writes
      by true none = none_some (sym none)
      by false f = of (writes_for rows p f.choice) (choice_none p (last_refused rows p refused) f.choice f.chosen) f.begins
  begun_none refused None op begins = none_some (sym begins)
  begun_none refused (Some (Class x)) op begins = none_some (sym begins)
  begun_none refused (Some (Node x)) op begins = none_some (sym begins)
  begun_none refused (Some (Volume x)) op begins = none_some (sym begins)
  begun_none refused (Some (Claim x)) op begins = none_some (sym begins)
