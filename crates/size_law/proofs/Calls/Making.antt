-- What ops creates is made to the measure of a claim, and nothing else that it asks gives a volume.
use Rattle.std.proofs.Common.{◌≡◌, ℕ, List, [], ◌∷◌, Bool, true, false, Option, refl, sym, ◌∙◌, ap, subst, arith}
use Rattle.std.specs.Prelude.{◌||◌, not, bytes_eq, is_some, nat_le}
use Rattle.std.specs.Bool.{beq}
use Rattle.std.proofs.lemmas.Bool.Decides.{nat_tests}
use Rattle.std.proofs.lemmas.Slice.Eq.{bytes_eq-Decides}
use Rattle.std.proofs.lemmas.Bool.{and_from}
use Rattle.kube_parts.specs.declared.uid.Uid.{Uid}
use Rattle.kube_objects.specs.declared.key.Key.{Key}
use Rattle.kube_parts.specs.declared.parts.Modes.{Modes}
use Rattle.kube_objects.specs.declared.objects.Amount.{Amount}
use Rattle.kube_objects.specs.declared.objects.DataId.{DataId}
use Rattle.kube_objects.specs.declared.objects.Class.{Class as ClassData}
use Rattle.kube_objects.specs.declared.objects.Claim.{Claim as ClaimData}
use Rattle.kube_objects.specs.declared.objects.Volume.{Volume as VolumeData}
use Rattle.kube_objects.specs.declared.objects.Object.TheVariants.{Class, Volume}
use Rattle.kube_objects.specs.Bindings.{class_of_claim, class_of_volume}
use Rattle.call_types.specs.declared.entry.Entry.{Entry}
use Rattle.call_types.specs.declared.request.Request.TheVariants as requests
use Rattle.call_types.specs.declared.request.SeatKind.{SeatKind}
use Rattle.call_types.specs.declared.request.SeatKind.TheVariants as seats
use Rattle.binder_model.specs.At.{HasUid}
use Rattle.binder_model.specs.Licence.{Licensed}
use Rattle.binder_model.specs.Matching.{covers}
use Rattle.binder_model.specs.ObjectKeys.{class_key}
use Rattle.binder_model.specs.OpsLicence.{MayCreate}
use Rattle.binder_model.specs.Provisioning.{provisioned_volume}
use Rattle.binder_model.specs.Told.{own}
use Rattle.licence_rows.proofs.NewestKeys.{newest_keyed}
use Rattle.worker_core.specs.declared.role.Role.{Role}
use Rattle.worker_core.specs.Roles.{IsBuiltKind}
use Rattle.worker_core.proofs.Licensed.{licensed}
use Rattle.size_law.specs.Calls.Makes.{CallsMakeFitting, HistoriesMakeFitting, IsMadeFor, LicensedMakeFitting, MadeFits, MakesFitting}
use Rattle.size_law.proofs.Calls.Answered.{reference_carries}
use Rattle.size_law.proofs.Calls.Turns.{turn_asks}

-- what is made for a claim fits it

given_if : (b : Bool) → (not b || b) ≡ true
given_if true = refl
given_if false = refl

covers_itself : (m : Modes) → covers m m ≡ true
covers_itself m = and_from _ _ (and_from _ _ (and_from _ _ (given_if m.rwo) (given_if m.rox)) (given_if m.rwx)) (given_if m.rwop)

block_itself : (b : Bool) → beq b b ≡ true
block_itself true = refl
block_itself false = refl

bytes_itself : (n : ℕ) → nat_le n n ≡ true
bytes_itself n = grind (arith, nat_tests)

pub made_fits : MadeFits
made_fits v c made =
    let same : v.amount.bytes ≡ c.amount.bytes = ap (λ (a : Amount). a.bytes) made.amount in
    let size : nat_le c.amount.bytes v.amount.bytes ≡ true = ap (λ n. nat_le c.amount.bytes n) same ∙ bytes_itself c.amount.bytes in
    let classes : bytes_eq (class_of_volume v) (class_of_claim c) ≡ true = (bytes_eq-Decides (class_of_volume v) (class_of_claim c)).1 made.class_name in
    let blocks : beq v.block c.block ≡ true = ap (λ b. beq b c.block) made.mode ∙ block_itself c.block in
    let access : covers c.modes v.modes ≡ true = ap (λ m. covers c.modes m) made.modes ∙ covers_itself c.modes in
    (record { bytes = omega (arith, same); mode = made.mode }, and_from _ _ (and_from _ _ (and_from _ _ size classes) blocks) access)

-- the volume over the data that were given for a claim

made_for : (c : ClaimData) (uid : Uid) (x : ClassData) (id : DataId) (topology : Option (List ℕ × List ℕ)) → HasUid uid c
    → x.meta.name ≡ class_of_claim c → IsMadeFor (provisioned_volume c uid x id topology) c
unfolding provisioned_volume
made_for c uid x id topology known named = record { given = reference_carries c (ap is_some known); amount = refl; modes = refl; mode = refl; class_name = named }

created : (mine : List Entry) (new : VolumeData) → MayCreate mine new → MakesFitting mine (requests.Create (Volume new))
created mine new row =
    let named : row.class.meta.name ≡ class_of_claim row.claim = ap (λ (k : Key). k.name) (newest_keyed mine (class_key (class_of_claim row.claim)) (Class row.class) row.class_newest) in
    record {
      claim = row.claim;
      newest = row.newest;
      made = subst (λ (v : VolumeData). IsMadeFor v row.claim) (sym row.object) (made_for row.claim row.uid row.class row.id row.topology row.known named);
    }

pub licensed_make : LicensedMakeFitting
licensed_make mine (requests.Create (Volume new)) l = created mine new l.1
licensed_make mine (requests.Update (Volume new) given) l = absurd l.1
licensed_make mine (requests.Edit key change) l = absurd l.1
licensed_make mine request l = refl

-- calls of an actor, and whole histories

pub calls_make : CallsMakeFitting
calls_make s given mine request is stands turn =
    let a = turn_asks s given request turn in
    let kind : given.role.kind ≡ seats.Ops = ap (λ (r : Role). r.kind) a.role ∙ is in
    licensed_make mine request (subst (λ k. Licensed k mine request) kind (licensed given mine request (subst IsBuiltKind (sym kind) tt) stands a.asked))

pub histories_make : HistoriesMakeFitting
histories_make [] all = tt
histories_make (e ∷ past) all = (histories_make past all.0, λ is. licensed_make (own e.seat past) e.request (subst (λ (k : SeatKind). Licensed k (own e.seat past) e.request) is all.1))
