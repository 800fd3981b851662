-- The pods of generated scripts: their volumes, kept as they are written, are canonical and name their claim.
use Rattle.std.proofs.Common.{◌≡◌, ℕ, zero, suc, ◌<◌, ◌≤◌, Bool, true, ◌&&◌, List, [], ◌∷◌, Some, Ok, codes, bytes_eq, refl, sym, subst, arith, inl, inr}
use Rattle.std.proofs.lemmas.Bool.{cases_eq, and_parts}
use Rattle.std.specs.Cmp.Lexicographic.{bytes_decides}
use Rattle.std.specs.Fmt.{digits}
use Rattle.json.specs.Print.{escape_byte}
use Rattle.serde_json.specs.Data.{Data, Members, no_members, member, no_items, item, string, array, object}
use Rattle.json_text.specs.Build.{Good, GoodMembers}
use Rattle.json_text.proofs.Good.{good_object, good_string, good_item, good_items, good_array}
use Rattle.kube_objects.specs.declared.objects.Object.TheVariants.{Pod}
use Rattle.object_text.specs.declared.extra.Listed.TheVariants as listed
use Rattle.object_text.specs.ExtraMembers.{extra_text}
use Rattle.object_text.specs.PartReaders.{claims_at, claim_name_of}
use Rattle.object_laws.specs.Given.{AreExtra}
use Rattle.object_laws.proofs.ExtraBack.{extra_back}
use Rattle.script_laws.specs.Read.Given.{IsLineObject}
use Rattle.script_laws.proofs.Read.Kept.{Keeps}
use Rattle.script_laws.proofs.Read.Shallow.{object_less}
use Rattle.script_gen.specs.Objects.{numbered, volumes_of, pod_with}
use Rattle.script_laws.proofs.Generated.Objects.{meta_given}

-- the members that a pod keeps
abbrev volumes_members : List ℕ → Members
volumes_members claim =
    member (codes "volumes")
    (array (item (object (member (codes "persistentVolumeClaim") (object (member (codes "claimName") (string claim) no_members)) no_members)) no_items))
    no_members

abbrev late : ℕ → List ℕ
late i = numbered (codes "l") i

-- ---- their text, for each number below 64

unfoldable is_written : ℕ → Bool
is_written i = bytes_eq (volumes_of (late i)) (extra_text (volumes_members (late i)))

unfoldable are_written : ℕ → Bool
are_written zero = true
are_written (suc n) = is_written n && are_written n

computed : are_written 64 ≡ true
unfolding are_written is_written digits escape_byte
computed = refl

each_written : (n i : ℕ) → are_written n ≡ true → i < n → is_written i ≡ true
unfolding are_written
each_written zero i h below = absurd (omega arith)
each_written (suc n) i h below =
    let parts = and_parts (is_written n) (are_written n) h in
    elim (cases_eq i n) [
      | inl same ↦ subst (λ (k : ℕ). is_written k ≡ true) (sym same) parts.0
      | inr other ↦ each_written n i parts.1 (omega arith)
    ]

text_is : (i : ℕ) → i < 64 → volumes_of (late i) ≡ extra_text (volumes_members (late i))
unfolding is_written
text_is i h = (bytes_decides (volumes_of (late i)) (extra_text (volumes_members (late i)))).0 (each_written 64 i computed h)

-- ---- they are canonical

one_member : {n : ℕ} (k : List ℕ) (d : Data) → Good n d → GoodMembers n (member k d no_members)
one_member k d g = record { canonical = (g.canonical, tt, tt); shallow = omega (arith, g.shallow) }

good_volumes : (claim : List ℕ) → GoodMembers 123 (volumes_members claim)
good_volumes claim =
    let name : Good 121 (object (member (codes "claimName") (string claim) no_members)) = good_object (one_member {n = 120} (codes "claimName") (string claim) good_string) in
    let volume : Good 122 (object (member (codes "persistentVolumeClaim") (object (member (codes "claimName") (string claim) no_members)) no_members)) =
    good_object (one_member {n = 121} (codes "persistentVolumeClaim") (object (member (codes "claimName") (string claim) no_members)) name) in
    one_member {n = 123} (codes "volumes") _ (good_array (good_item volume (good_items {n = 122})))

deeper : {n : ℕ} (m : ℕ) (ms : Members) → n ≤ m → GoodMembers n ms → GoodMembers m ms
deeper m ms h g = record { canonical = g.canonical; shallow = omega (arith, g.shallow) }

-- ---- they name the claim

names_claim : (claim : List ℕ) → claims_at (Some (object (volumes_members claim))) ≡ Ok (claim ∷ [])
unfolding claims_at claim_name_of
names_claim claim = refl

kept : (i : ℕ) → i < 64 → AreExtra 125 listed.Pod (volumes_of (late i)) (volumes_members (late i))
kept i h = record { text = text_is i h; others = (refl, tt, tt); good = deeper 125 (volumes_members (late i)) (omega arith) (good_volumes (late i)) }

keeps : (i : ℕ) → i < 64 → Keeps 124 (volumes_of (late i))
keeps i h =
    subst (λ (ms : Members). GoodMembers 124 ms)
    (sym (extra_back 125 listed.Pod (volumes_of (late i)) (volumes_members (late i)) (omega arith) (kept i h)))
    (deeper 124 (volumes_members (late i)) (omega arith) (good_volumes (late i)))

pub pod_given : (i : ℕ) → i < 64 → IsLineObject (Pod (pod_with (numbered (codes "p") i) (numbered (codes "l") i)))
pod_given i h = record {
  given = record {
    meta = meta_given true (codes "default") (numbered (codes "p") i) tt;
    extra = (volumes_members (late i), record { extra = kept i h; claims = names_claim (late i) });
  };
  levels = (object_less (Pod (pod_with (numbered (codes "p") i) (late i))) (keeps i h)).shallow;
}
