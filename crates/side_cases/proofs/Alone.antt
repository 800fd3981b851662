-- A claim that is counted alone has room to grow, where it would ask for fewer than 2^64 bytes.
use Rattle.std.proofs.Common.{◌≡◌, ℕ, ◌+◌, ◌<◌, [], Some, true, refl, arith}
use Rattle.std.specs.Prelude.{◌^◌, ◌==◌, bytes_eq}
use Rattle.std.proofs.lemmas.Bool.Decides.{nat_tests}
use Rattle.std.proofs.lemmas.Slice.Eq.{bytes_eq-Decides}
use Rattle.kube_parts.specs.declared.uid.Uid.{Uid}
use Rattle.kube_objects.specs.declared.objects.Claim.{Claim as ClaimData}
use Rattle.kube_objects.specs.declared.objects.Object.TheVariants.{Claim}
use Rattle.kube_objects.specs.Bindings.{is_uid}
use Rattle.call_types.specs.declared.reply.Reply.TheVariants.{Done}
use Rattle.quota_rules.specs.Counting.{HasRoom, claims_in, noted}

pub room_alone : (c : ClaimData) (uid : Uid) (more : ℕ) → c.meta.uid ≡ Some uid → c.amount.bytes + more < 2 ^ 64
    → HasRoom c.meta.namespace uid more (noted (Done (Claim c)) (claims_in []))
room_alone c uid more has low =
    let name : bytes_eq c.meta.namespace c.meta.namespace ≡ true = (bytes_eq-Decides c.meta.namespace c.meta.namespace).1 refl in
    let itself : (uid.0 == uid.0) ≡ true = grind (arith, nat_tests) in
    let id : is_uid c.meta.uid uid ≡ true = rw (has, itself) refl in
    rw (name, id) low
