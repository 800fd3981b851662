-- What a row of the licence allows by a part of the entries, it allows by the entries.
use Rattle.std.proofs.Common.{ℕ, List, Option, Some, inl, inr, subst}
use Rattle.kube_objects.specs.declared.key.Key.{Key}
use Rattle.kube_parts.specs.declared.parts.Modes.{Modes}
use Rattle.kube_parts.specs.declared.parts.Kind.TheVariants as kinds
use Rattle.kube_objects.specs.declared.objects.Amount.{Amount}
use Rattle.kube_objects.specs.declared.objects.Volume.{Volume as VolumeData}
use Rattle.kube_objects.specs.declared.objects.Claim.{Claim as ClaimData}
use Rattle.kube_objects.specs.declared.objects.Object.{Object}
use Rattle.kube_objects.specs.declared.objects.Object.TheVariants.{Class, Node, Volume, Claim, Pod}
use Rattle.call_types.specs.declared.entry.Entry.{Entry}
use Rattle.call_types.specs.declared.reply.Reply.TheVariants.{Done}
use Rattle.call_types.specs.declared.request.Request.{Request}
use Rattle.call_types.specs.declared.request.Request.TheVariants as requests
use Rattle.binder_model.specs.At.{IsElsewhere, IsWrittenAt}
use Rattle.binder_model.specs.ObjectKeys.{claim_key, volume_key}
use Rattle.binder_model.specs.BinderLicence.{
  IsBoundFor,
  IsCompletedVersion,
  IsGone,
  IsHere,
  IsNotCarrying,
  IsReferring,
  IsShown,
  IsTaken,
  MayBind,
  MayComplete,
  MayLose,
  MayRelease,
  MayShow,
  MayTake,
  MayUnbind,
}
use Rattle.binder_model.specs.GuardLicence.{IsDeletingVersion, IsPodList, MayUnguardClaim, TellsUnused}
use Rattle.binder_model.specs.Told.{IsClaimWith, IsLiveAnswer, IsVolumeWith, TellsLive, ToldClaim, ToldVolume}
use Rattle.model_laws.proofs.Evidence.{told_map}
use Rattle.evidence_pages.specs.Parts.{IsPart}
use Rattle.evidence_pages.proofs.Growing.{IsOfReads, after_grows, told_grows}

live_reads : (key : Key) (P : Option Object → Type 0) → IsOfReads (TellsLive key P)
live_reads key P t o is h = subst (λ r. IsLiveAnswer r P) is h.2

-- the binder

pub take_grows : (small mine : List Entry) → IsPart small mine → (new o : VolumeData) → MayTake small o new → MayTake mine o new
take_grows small mine part new o row = record { live = row.live; told = told_grows (IsClaimWith (IsTaken o new)) small mine part row.told }

pub bind_grows : (small mine : List Entry) → IsPart small mine → (o : VolumeData) → MayBind small o → MayBind mine o
bind_grows small mine part o row = record {
  live = row.live;
  guarded = row.guarded;
  uid = row.uid;
  refers = row.refers;
  told = told_grows
      (IsClaimWith (IsHere o.meta.name row.uid)) small mine part row.told;
}

pub complete_grows : (small mine : List Entry) → IsPart small mine → (new o : ClaimData) → MayComplete small o new → MayComplete mine o new
complete_grows small mine part new o row = told_grows (IsVolumeWith (IsBoundFor o new)) small mine part row

pub show_grows : (small mine : List Entry) → IsPart small mine → (modes : Modes) (amount : Option Amount) (o : ClaimData) → MayShow small o modes amount → MayShow mine o modes amount
show_grows small mine part modes amount o row = record { completed = row.completed; told = told_grows (IsVolumeWith (IsShown o modes amount)) small mine part row.told }

pub release_grows : (small mine : List Entry) → IsPart small mine → (o : VolumeData) → MayRelease small o → MayRelease mine o
release_grows small mine part o row = record {
  live = row.live;
  reference = row.reference;
  uid = row.uid;
  refers = row.refers;
  known = row.known;
  why = elim row.why [
    | inl gone ↦ inl (after_grows (IsVolumeWith (IsReferring o row.reference))
        (TellsLive (claim_key row.reference.namespace row.reference.name) (IsGone row.uid)) (live_reads _ (IsGone row.uid)) small mine part gone)
    | inr elsewhere ↦ inr (told_grows (IsClaimWith (IsElsewhere o.meta.name row.uid)) small mine part elsewhere.0, elsewhere.1)
  ];
}

pub unbind_grows : (small mine : List Entry) → IsPart small mine → (new o : VolumeData) → MayUnbind small o new → MayUnbind mine o new
unbind_grows small mine part new o row =
    record {
      live = row.live;
      uid = row.uid;
      refers = row.refers;
      elsewhere =
          told_grows (IsClaimWith (IsElsewhere o.meta.name row.uid)) small mine part row.elsewhere;
      kept = row.kept;
      change = row.change;
    }

pub lose_grows : (small mine : List Entry) → IsPart small mine → (modes : Modes) (amount : Option Amount) (o : ClaimData) → MayLose small o modes amount → MayLose mine o modes amount
lose_grows small mine part modes amount o row = record {
  completed = row.completed;
  why = elim row.why [
    | inl unnamed ↦ inl unnamed
    | inr lost ↦ inr (after_grows (IsClaimWith (IsCompletedVersion o)) (TellsLive (volume_key o.volume_name) (IsNotCarrying o)) (live_reads _ (IsNotCarrying o)) small mine part lost)
  ];
  same_modes = row.same_modes;
  same_amount = row.same_amount;
}

-- protection

no_list : (o : ClaimData) (x : Object) (request : Request) → IsPodList o request (Done x) → ⊥
no_list o x (requests.List kinds.Pod (Some namespace)) h = h
no_list o x request h = absurd h

unused_reads : (o : ClaimData) → IsOfReads (TellsUnused o)
unused_reads o t x is h = no_list o x t.request (subst (λ r. IsPodList o t.request r) is h.1)

pub unguard_grows : (small mine : List Entry) → IsPart small mine → (new o : ClaimData) → MayUnguardClaim small o new → MayUnguardClaim mine o new
unguard_grows small mine part new o row =
    record { deleting = row.deleting; unused = after_grows (IsClaimWith (IsDeletingVersion o)) (TellsUnused o) (unused_reads o) small mine part row.unused; change = row.change }

-- writes at a told object

volume_one : (given : Option ℕ) (namespace name : List ℕ) (R S : VolumeData → Type 0) → ((o : VolumeData) → R o → S o) → (o : Object)
    → IsVolumeWith (λ v. IsWrittenAt given namespace name v.meta × R v) o → IsVolumeWith (λ v. IsWrittenAt given namespace name v.meta × S v) o
volume_one given namespace name R S f (Volume v) h = (h.0, f v h.1)
volume_one given namespace name R S f (Class x) h = absurd h
volume_one given namespace name R S f (Node x) h = absurd h
volume_one given namespace name R S f (Claim x) h = absurd h
volume_one given namespace name R S f (Pod x) h = absurd h

pub at_volume : (given : Option ℕ) (namespace name : List ℕ) (R S : VolumeData → Type 0) (mine : List Entry) → ((o : VolumeData) → R o → S o)
    → ToldVolume (λ v. IsWrittenAt given namespace name v.meta × R v) mine → ToldVolume (λ v. IsWrittenAt given namespace name v.meta × S v) mine
at_volume given namespace name R S mine f h =
    told_map {P = IsVolumeWith (λ v. IsWrittenAt given namespace name v.meta × R v)}
    {Q = IsVolumeWith (λ v. IsWrittenAt given namespace name v.meta × S v)} (volume_one given namespace name R S f) mine h

claim_one : (given : Option ℕ) (namespace name : List ℕ) (R S : ClaimData → Type 0) → ((o : ClaimData) → R o → S o) → (o : Object)
    → IsClaimWith (λ v. IsWrittenAt given namespace name v.meta × R v) o → IsClaimWith (λ v. IsWrittenAt given namespace name v.meta × S v) o
claim_one given namespace name R S f (Claim v) h = (h.0, f v h.1)
claim_one given namespace name R S f (Class x) h = absurd h
claim_one given namespace name R S f (Node x) h = absurd h
claim_one given namespace name R S f (Volume x) h = absurd h
claim_one given namespace name R S f (Pod x) h = absurd h

pub at_claim : (given : Option ℕ) (namespace name : List ℕ) (R S : ClaimData → Type 0) (mine : List Entry) → ((o : ClaimData) → R o → S o)
    → ToldClaim (λ v. IsWrittenAt given namespace name v.meta × R v) mine → ToldClaim (λ v. IsWrittenAt given namespace name v.meta × S v) mine
at_claim given namespace name R S mine f h =
    told_map {P = IsClaimWith (λ v. IsWrittenAt given namespace name v.meta × R v)} {Q = IsClaimWith (λ v. IsWrittenAt given namespace name v.meta × S v)} (claim_one given namespace name R S f) mine h
