-- What a volume that fits a claim has, and where it stands in the orders of an index.
use Rattle.std.proofs.Common.{ℕ, ◌≡◌, ◌≢◌, ◌≤◌, ◌<◌, ◌⊎◌, inl, inr, Bool, true, false, true≢false, not, ◌&&◌, bytes_eq, nat_le, Option, Some, None, arith, ◌∙◌, refl, sym, ap, subst, if◌then◌else◌}
use Rattle.std.specs.Prelude.{is_none, is_some}
use Rattle.std.specs.Bool.{beq}
use Rattle.std.specs.declared.cmp.Ordering.{Ordering}
use Rattle.std.specs.declared.cmp.Ordering.TheVariants.{Less, Equal, Greater}
use Rattle.std.specs.Ordering.{MatchOrdering, is_eq, is_gt, is_lt, nat_cmp, ordering_then}
use Rattle.std.proofs.lemmas.Bool.{leb-true, and_from, and_parts, or_cases}
use Rattle.std.proofs.lemmas.Cmp.{nat_cmp_total, nat_list_cmp_total, ranked, tied_itself}
use Rattle.std.proofs.lemmas.Map.Lookups.{exact_bytes, exact_unsigned}
use Rattle.std.proofs.lemmas.Slice.Eq.{bytes_eq-Decides}
use Rattle.plain_data.specs.Pairs.{text_cmp}
use Rattle.kube_objects.specs.declared.objects.Node.{Node as NodeData}
use Rattle.kube_objects.specs.declared.objects.Ref.{Ref}
use Rattle.kube_objects.specs.declared.objects.Volume.{Volume as VolumeData}
use Rattle.kube_objects.specs.declared.objects.Claim.{Claim as ClaimData}
use Rattle.kube_objects.specs.Bindings.{class_of_claim, class_of_volume, is_available, is_deleting, is_ended, is_for, is_protected_volume, refers_for, uid_fits}
use Rattle.binder_model.specs.Matching.{covers, eligible, fits, for_last, is_admitted_on, is_selected, match_cmp, may_serve}
use Rattle.kube_objects.specs.Bindings.{count_one, mode_count}
use Rattle.volume_index.specs.VolumeIndex.{is_free, is_owned}
use Rattle.volume_index.specs.VolumeOrders.{Owner, Size, by_owner, by_size, group_cmp, name_cmp, need_cmp, owner_cmp, owner_in, owner_of, size_cmp, size_of}
use Rattle.volume_match.specs.Steps.Choices.{claim_owner, is_grouped, ref_is_to, wanted}
use Rattle.volume_index.proofs.VolumeOrders.{both_equal, first_no_greater, owner_total}

same_bool : (a b : Bool) → beq a b ≡ true → a ≡ b
same_bool true true e = refl
same_bool true false e = absurd (true≢false (sym e))
same_bool false true e = absurd (true≢false (sym e))
same_bool false false e = refl

itself : (a : Bool) → beq a a ≡ true
itself true = refl
itself false = refl

counted : (a b : Bool) → count_one a ≡ count_one b → a ≡ b
counted true true e = refl
counted true false e = absurd (omega (arith, e))
counted false true e = absurd (omega (arith, e))
counted false false e = refl

eligible_parts : (a b f s ad m : Bool) → (a && b && f && s && ad && m) ≡ true → (f ≡ true) × (m ≡ true)
eligible_parts a b f s ad m e =
    let x = and_parts (a && b && f && s && ad) m e in
    let y = and_parts (a && b && f && s) ad x.0 in
    let z = and_parts (a && b && f) s y.0 in
    ((and_parts (a && b) f z.0).1, x.1)

-- what the eligible volume has of the claim
pub record Fit (v : VolumeData) (c : ClaimData) : Type 0 where
  pub bytes : c.amount.bytes ≤ v.amount.bytes
  pub class : class_of_volume v ≡ class_of_claim c
  pub block : v.block ≡ c.block

module _ (c : ClaimData) (on : Option NodeData) where
  parts : (v : VolumeData) → eligible v c on ≡ true → (fits v c ≡ true) × (may_serve v c ≡ true)
  parts v e = eligible_parts (not (is_deleting v.meta)) (is_protected_volume v) (fits v c) (is_selected c.selector v.meta.labels) (is_admitted_on v on) (may_serve v c) e

  pub fit_of : (v : VolumeData) → eligible v c on ≡ true → Fit v c
  fit_of v e =
      let le = nat_le c.amount.bytes v.amount.bytes in
      let class = bytes_eq (class_of_volume v) (class_of_claim c) in
      let block = beq v.block c.block in
      let x = and_parts (le && class && block) (covers c.modes v.modes) (parts v e).0 in
      let y = and_parts (le && class) block x.0 in
      let z = and_parts le class y.0 in
      record {
        bytes = leb-true c.amount.bytes v.amount.bytes z.0;
        class = (bytes_eq-Decides (class_of_volume v) (class_of_claim c)).0 z.1;
        block = same_bool v.block c.block y.1;
      }

  -- the claim's, or free
  pub served : (v : VolumeData) → eligible v c on ≡ true → (is_for v c ≡ true) ⊎ (is_free v ≡ true)
  served v e = elim (or_cases (is_for v c && not (is_ended v.phase)) (is_available v.phase && is_none v.claim_ref) (parts v e).1) [
    | inl h ↦ inl (and_parts (is_for v c) (not (is_ended v.phase)) h).0
    | inr h ↦ inr h
  ]

  referred : (r : Option Ref) → refers_for r c ≡ true → is_some r ≡ true
  referred None e = absurd (true≢false (sym e))
  referred (Some r) e = refl

  unreferred : (r : Option Ref) → is_none r ≡ true → refers_for r c ≡ false
  unreferred None e = refl
  unreferred (Some r) e = absurd (true≢false (sym e))

  some_none : (r : Option Ref) → is_some r ≡ true → is_none r ≡ true → ⊥
  some_none None e f = true≢false (sym e)
  some_none (Some r) e f = true≢false (sym f)

  pub for_owned : (v : VolumeData) → is_for v c ≡ true → is_owned v ≡ true
  for_owned v e = referred v.claim_ref e

  pub free_other : (v : VolumeData) → is_free v ≡ true → is_for v c ≡ false
  free_other v e = unreferred v.claim_ref (and_parts (is_available v.phase) (is_none v.claim_ref) e).1

  -- a volume that refers to a claim is eligible for that one alone
  pub owned_for : (v : VolumeData) → eligible v c on ≡ true → is_owned v ≡ true → is_for v c ≡ true
  owned_for v e owned = elim (served v e) [
    | inl h ↦ h
    | inr h ↦ absurd (some_none v.claim_ref owned (and_parts (is_available v.phase) (is_none v.claim_ref) h).1)
  ]

  abbrev the_owner : Owner
  the_owner = claim_owner c

  pub names_owner : (r : Option Ref) → ref_is_to c r ≡ true → owner_in r ≡ the_owner
  names_owner None e = absurd (true≢false (sym e))
  names_owner (Some r) e =
      let p = and_parts (bytes_eq r.namespace c.meta.namespace) (bytes_eq r.name c.meta.name) e in
      let namespace = (bytes_eq-Decides r.namespace c.meta.namespace).0 p.0 in
      let name = (bytes_eq-Decides r.name c.meta.name).0 p.1 in
      λ i. record { namespace = namespace i; name = name i }

  pub owner_named : (r : Option Ref) → is_some r ≡ true → owner_in r ≡ the_owner → ref_is_to c r ≡ true
  owner_named None e is = absurd (true≢false (sym e))
  owner_named (Some r) e is =
      and_from (bytes_eq r.namespace c.meta.namespace) (bytes_eq r.name c.meta.name)
      ((bytes_eq-Decides r.namespace c.meta.namespace).1 (ap (λ (w : Owner). w.namespace) is))
      ((bytes_eq-Decides r.name c.meta.name).1 (ap (λ (w : Owner). w.name) is))

  pub referring_owned : (r : Option Ref) → ref_is_to c r ≡ true → is_some r ≡ true
  referring_owned None e = absurd (true≢false (sym e))
  referring_owned (Some r) e = refl

  for_names : (r : Option Ref) → refers_for r c ≡ true → ref_is_to c r ≡ true
  for_names None e = absurd (true≢false (sym e))
  for_names (Some r) e = (and_parts (ref_is_to c (Some r)) (uid_fits r.uid c) e).0

  pub owner_is : (v : VolumeData) → eligible v c on ≡ true → is_owned v ≡ true → owner_of v ≡ the_owner
  owner_is v e owned = names_owner v.claim_ref (for_names v.claim_ref (owned_for v e owned))

  -- before the claim's place among claims no eligible volume stands
  pub before_owner : (v : VolumeData) → is_owned v ≡ true → is_lt (owner_cmp (owner_of v) the_owner) ≡ true → eligible v c on ≡ true → ⊥
  before_owner v owned lt e =
      true≢false (sym lt ∙ ap (λ w. is_lt (owner_cmp w the_owner)) (owner_is v e owned) ∙ ap is_lt (tied_itself owner_total the_owner))

  pub exact_owner : (a b : Owner) → owner_cmp a b ≡ Equal → a ≡ b
  exact_owner a b e =
      let p = both_equal (text_cmp a.namespace b.namespace) (text_cmp a.name b.name) (ap is_eq e) in
      let namespace : a.namespace ≡ b.namespace = exact_bytes _ _ p.0 in
      let name : a.name ≡ b.name = exact_bytes _ _ p.1 in
      λ i. record { namespace = namespace i; name = name i }

  -- after a volume that refers to a later claim none stands that refers to this one
  pub past_owner : (v u : VolumeData) → is_owned v ≡ true → is_lt (owner_cmp (owner_of v) the_owner) ≡ false → ref_is_to c v.claim_ref ≡ false
      → owner_of u ≡ the_owner → is_gt (owner_cmp (owner_of v) (owner_of u)) ≡ false → ⊥
  past_owner v u owned ge other is le =
      by (owner_cmp (owner_of v) the_owner) refl ge (ap (λ w. is_gt (owner_cmp (owner_of v) w)) (sym is) ∙ le)
    where
      by : (r : Ordering) → owner_cmp (owner_of v) the_owner ≡ r → is_lt r ≡ false → is_gt (owner_cmp (owner_of v) the_owner) ≡ false → ⊥
      by Less is ge le = true≢false ge
      by Equal is ge le = true≢false (sym (owner_named v.claim_ref owned (exact_owner (owner_of v) the_owner is)) ∙ other)
      by Greater is ge le = true≢false (sym (ap is_gt is) ∙ le)

  -- so no eligible one either
  pub after_owner : (v u : VolumeData) → is_owned v ≡ true → is_owned u ≡ true → is_lt (owner_cmp (owner_of v) the_owner) ≡ false
      → ref_is_to c v.claim_ref ≡ false → is_gt (owner_cmp (owner_of v) (owner_of u)) ≡ false → eligible u c on ≡ true → ⊥
  after_owner v u owned owned_too ge other le e = past_owner v u owned ge other (owner_is u e owned_too) le

-- two sizes of one class and volume mode
grouped : (a b : Size) → a.class ≡ b.class → a.block ≡ b.block → group_cmp a b ≡ Equal
grouped a b e f =
    let class : text_cmp a.class b.class ≡ Equal = ap (λ t. text_cmp t b.class) e ∙ tied_itself nat_list_cmp_total b.class in
    let block : nat_cmp (count_one a.block) (count_one b.block) ≡ Equal = ap (λ t. nat_cmp (count_one t) (count_one b.block)) f ∙ tied_itself nat_cmp_total (count_one b.block) in
    ap (λ r. ordering_then r (nat_cmp (count_one a.block) (count_one b.block))) class ∙ block

in_group : (a b : Size) → group_cmp a b ≡ Equal → size_cmp a b ≡ ordering_then (nat_cmp a.modes b.modes) (nat_cmp a.bytes b.bytes)
in_group a b e = ap (λ r. ordering_then (ordering_then r (nat_cmp a.modes b.modes)) (nat_cmp a.bytes b.bytes)) e

fewer_modes : (m n b d : ℕ) → d ≤ b → is_lt (ordering_then (nat_cmp m n) (nat_cmp b d)) ≡ true → m < n
fewer_modes m n b d le = by (nat_cmp m n) (ranked m n _ refl) (nat_cmp b d) (ranked b d _ refl)
  where
    by : (r : Ordering) → MatchOrdering r (m < n) (m ≡ n) (n < m) → (s : Ordering) → MatchOrdering s (b < d) (b ≡ d) (d < b) → is_lt (ordering_then r s) ≡ true → m < n
    by Less h s k e = h
    by Equal h Less k e = absurd (omega (arith, k, le))
    by Equal h Equal k e = absurd (true≢false (sym e))
    by Equal h Greater k e = absurd (true≢false (sym e))
    by Greater h s k e = absurd (true≢false (sym e))

lt_is : (b d : ℕ) → b < d → is_lt (nat_cmp b d) ≡ true
lt_is b d less = by (nat_cmp b d) (ranked b d _ refl)
  where
    by : (s : Ordering) → MatchOrdering s (b < d) (b ≡ d) (d < b) → is_lt s ≡ true
    by Less h = refl
    by Equal h = absurd (omega (arith, h, less))
    by Greater h = absurd (omega (arith, h, less))

no_more_modes : (m n : ℕ) (s : Ordering) → is_gt (ordering_then (nat_cmp m n) s) ≡ false → m ≤ n
no_more_modes m n s = by (nat_cmp m n) (ranked m n _ refl)
  where
    by : (r : Ordering) → MatchOrdering r (m < n) (m ≡ n) (n < m) → is_gt (ordering_then r s) ≡ false → m ≤ n
    by Less h e = omega (arith, h)
    by Equal h e = omega (arith, h)
    by Greater h e = absurd (true≢false e)

-- in one group what is less is preferred
alike_tail : (x n s : Ordering) → ordering_then x (ordering_then n s) ≡ Less → is_gt (ordering_then x n) ≡ false
alike_tail Less n s e = refl
alike_tail Equal n s e = first_no_greater n s e
alike_tail Greater n s e = absurd (true≢false (sym (ap is_lt e)))

pub not_after : (o : Ordering) → is_gt o ≡ false → o ≢ Greater
not_after o e g = true≢false (sym (ap is_gt g) ∙ e)

module _ (c : ClaimData) (on : Option NodeData) where
  with_modes : (u : VolumeData) (m : ℕ) → eligible u c on ≡ true → is_lt (size_cmp (size_of u) (wanted c m)) ≡ true → mode_count u.modes < m
  with_modes u m e lt =
      let f = fit_of c on u e in
      fewer_modes (mode_count u.modes) m u.amount.bytes c.amount.bytes f.bytes
      (ap is_lt (sym (in_group (size_of u) (wanted c m) (grouped (size_of u) (wanted c m) f.class f.block))) ∙ lt)

  -- before the size of the claim no eligible volume stands
  pub before_size : (u : VolumeData) → eligible u c on ≡ true → is_lt (size_cmp (size_of u) (wanted c 0)) ≡ true → ⊥
  before_size u e lt = let h = with_modes u 0 e lt in absurd (omega (arith, h))

  -- nor between one of its class and volume mode and the volumes with as many modes and enough bytes
  pub before_jump : (v u : VolumeData) → is_grouped v c ≡ true → is_gt (size_cmp (size_of v) (size_of u)) ≡ false
      → is_lt (size_cmp (size_of u) (wanted c (mode_count v.modes))) ≡ true → eligible u c on ≡ true → ⊥
  before_jump v u group le lt e =
      let f = fit_of c on u e in
      let g = and_parts (bytes_eq (class_of_volume v) (class_of_claim c)) (beq v.block c.block) group in
      let class = (bytes_eq-Decides (class_of_volume v) (class_of_claim c)).0 g.0 ∙ sym f.class in
      let block = same_bool v.block c.block g.1 ∙ sym f.block in
      let fewer = with_modes u (mode_count v.modes) e lt in
      let upto = no_more_modes (mode_count v.modes) (mode_count u.modes) (nat_cmp v.amount.bytes u.amount.bytes)
      (ap is_gt (sym (in_group (size_of v) (size_of u) (grouped (size_of v) (size_of u) class block))) ∙ le) in
      absurd (omega (arith, fewer, upto))

  -- a volume of the class and volume mode that is too small is before all with as many modes that are not
  pub too_small : (v : VolumeData) → is_grouped v c ≡ true → v.amount.bytes < c.amount.bytes → is_lt (size_cmp (size_of v) (wanted c (mode_count v.modes))) ≡ true
  too_small v group less =
      let g = and_parts (bytes_eq (class_of_volume v) (class_of_claim c)) (beq v.block c.block) group in
      let class = (bytes_eq-Decides (class_of_volume v) (class_of_claim c)).0 g.0 in
      let block = same_bool v.block c.block g.1 in
      let alike : nat_cmp (mode_count v.modes) (mode_count v.modes) ≡ Equal = tied_itself nat_cmp_total (mode_count v.modes) in
      ap is_lt (in_group (size_of v) (wanted c (mode_count v.modes)) (grouped (size_of v) (wanted c (mode_count v.modes)) class block))
      ∙ ap (λ r. is_lt (ordering_then r (nat_cmp v.amount.bytes c.amount.bytes))) alike
      ∙ lt_is v.amount.bytes c.amount.bytes less

  -- nor after one that is not before the size, and has another class or volume mode
  pub after_group : (v u : VolumeData) → is_grouped v c ≡ false → is_lt (size_cmp (size_of v) (wanted c 0)) ≡ false → is_gt (size_cmp (size_of v) (size_of u)) ≡ false → eligible u c on ≡ true → ⊥
  after_group v u other ge le e =
      let f = fit_of c on u e in
      let same : group_cmp (size_of v) (size_of u) ≡ group_cmp (size_of v) (wanted c 0) =
      λ i. ordering_then (text_cmp (class_of_volume v) (f.class i)) (nat_cmp (count_one v.block) (count_one (f.block i))) in
      by (group_cmp (size_of v) (wanted c 0)) refl ge
      (ap (λ r. is_gt (ordering_then (ordering_then r (nat_cmp (mode_count v.modes) (mode_count u.modes))) (nat_cmp v.amount.bytes u.amount.bytes))) (sym same) ∙ le)
    where
      by : (r : Ordering) → group_cmp (size_of v) (wanted c 0) ≡ r
          → is_lt (ordering_then (ordering_then r (nat_cmp (mode_count v.modes) 0)) (nat_cmp v.amount.bytes c.amount.bytes)) ≡ false
          → is_gt (ordering_then (ordering_then (group_cmp (size_of v) (wanted c 0)) (nat_cmp (mode_count v.modes) (mode_count u.modes))) (nat_cmp v.amount.bytes u.amount.bytes)) ≡ false → ⊥
      by Less is ge le = true≢false ge
      by Equal is ge le =
          let p = both_equal (text_cmp (class_of_volume v) (class_of_claim c)) (nat_cmp (count_one v.block) (count_one c.block)) (ap is_eq is) in
          let block : v.block ≡ c.block = counted v.block c.block (exact_unsigned _ _ p.1) in
          let here = and_from (bytes_eq (class_of_volume v) (class_of_claim c)) (beq v.block c.block)
          ((bytes_eq-Decides (class_of_volume v) (class_of_claim c)).1 (exact_bytes _ _ p.0)) (subst (λ b. beq v.block b ≡ true) block (itself v.block)) in
          true≢false (sym here ∙ other)
      by Greater is ge le = true≢false (sym (ap (λ r. is_gt (ordering_then (ordering_then r (nat_cmp (mode_count v.modes) (mode_count u.modes))) (nat_cmp v.amount.bytes u.amount.bytes))) is) ∙ le)

  abbrev needs : VolumeData → VolumeData → Ordering
  needs v u = ordering_then (nat_cmp (mode_count v.modes) (mode_count u.modes)) (nat_cmp v.amount.bytes u.amount.bytes)

  -- the order in which a claim prefers two volumes that are both for it, or both not
  even : (v u : VolumeData) (b : Bool) → is_for v c ≡ b → is_for u c ≡ b → match_cmp c v u ≡ ordering_then (needs v u) (text_cmp v.meta.name u.meta.name)
  even v u b e f =
      ap (λ t. ordering_then (ordering_then
      (ordering_then (nat_cmp (if t then 0 else 1) (for_last u c)) (nat_cmp (mode_count v.modes) (mode_count u.modes)))
      (nat_cmp v.amount.bytes u.amount.bytes)) (text_cmp v.meta.name u.meta.name)) e
      ∙ ap (λ t. ordering_then (ordering_then
      (ordering_then (nat_cmp (if b then 0 else 1) (if t then 0 else 1)) (nat_cmp (mode_count v.modes) (mode_count u.modes)))
      (nat_cmp v.amount.bytes u.amount.bytes)) (text_cmp v.meta.name u.meta.name)) f
      ∙ both b
    where
      both : (t : Bool) → ordering_then (ordering_then
          (ordering_then (nat_cmp (if t then 0 else 1) (if t then 0 else 1)) (nat_cmp (mode_count v.modes) (mode_count u.modes)))
          (nat_cmp v.amount.bytes u.amount.bytes)) (text_cmp v.meta.name u.meta.name) ≡ ordering_then (needs v u) (text_cmp v.meta.name u.meta.name)
      both true = refl
      both false = refl

  pub prefers_free : (v u : VolumeData) → is_free v ≡ true → is_free u ≡ true → eligible v c on ≡ true → eligible u c on ≡ true → by_size v u ≡ Less → match_cmp c v u ≢ Greater
  prefers_free v u free free_too e f less =
      let a = fit_of c on v e in
      let b = fit_of c on u f in
      let group = grouped (size_of v) (size_of u) (a.class ∙ sym b.class) (a.block ∙ sym b.block) in
      let tail : ordering_then (needs v u) (name_cmp v u) ≡ Less =
      ap (λ r. ordering_then (ordering_then (ordering_then r (nat_cmp (mode_count v.modes) (mode_count u.modes))) (nat_cmp v.amount.bytes u.amount.bytes)) (name_cmp v u)) (sym group) ∙ less in
      not_after (match_cmp c v u) (ap is_gt (even v u false (free_other c on v free) (free_other c on u free_too)) ∙ alike_tail (needs v u)
      (text_cmp v.meta.name u.meta.name) (text_cmp v.meta.namespace u.meta.namespace) tail)

  pub prefers_owned : (v u : VolumeData) → is_owned v ≡ true → is_owned u ≡ true → eligible v c on ≡ true → eligible u c on ≡ true → by_owner v u ≡ Less → match_cmp c v u ≢ Greater
  prefers_owned v u owned owned_too e f less =
      let same : owner_cmp (owner_of v) (owner_of u) ≡ Equal =
      ap (λ w. owner_cmp w (owner_of u)) (owner_is c on v e owned ∙ sym (owner_is c on u f owned_too)) ∙ tied_itself owner_total (owner_of u) in
      let tail : need_cmp v u ≡ Less = ap (λ r. ordering_then r (need_cmp v u)) (sym same) ∙ less in
      not_after (match_cmp c v u) (ap is_gt (even v u true (owned_for c on v e owned) (owned_for c on u f owned_too)) ∙ alike_tail (needs v u)
      (text_cmp v.meta.name u.meta.name) (text_cmp v.meta.namespace u.meta.namespace) tail)

  -- those for the claim come first
  pub prefers_own : (v u : VolumeData) → is_for v c ≡ true → is_for u c ≡ false → match_cmp c v u ≢ Greater
  prefers_own v u e f = not_after (match_cmp c v u) (
      ap (λ t. is_gt (ordering_then (ordering_then
      (ordering_then (nat_cmp (if t then 0 else 1) (for_last u c)) (nat_cmp (mode_count v.modes) (mode_count u.modes)))
      (nat_cmp v.amount.bytes u.amount.bytes)) (text_cmp v.meta.name u.meta.name))) e
      ∙ ap (λ t. is_gt (ordering_then (ordering_then
      (ordering_then (nat_cmp 0 (if t then 0 else 1)) (nat_cmp (mode_count v.modes) (mode_count u.modes))) (nat_cmp v.amount.bytes u.amount.bytes)) (text_cmp v.meta.name u.meta.name))) f)
