-- Updates of a valid volume and of a valid claim whose fields fit.
use Rattle.std.proofs.Common.{◌≡◌, ◌∙◌, ℕ, List, [], ◌∷◌, Bool, true, false, true≢false, Option, Some, None, refl, sym, ap}
use Rattle.std.specs.Prelude.{◌==◌, ◌&&◌, ◌||◌, not, cond, bytes_eq}
use Rattle.std.specs.Bool.{beq}
use Rattle.std.proofs.lemmas.Bool.{or_parts, or_right}
use Rattle.std.proofs.lemmas.Slice.Eq.{bytes_eq-Decides}
use Rattle.kube_parts.specs.declared.names.Field.{Field}
use Rattle.kube_objects.specs.declared.objects.Meta.{Meta}
use Rattle.kube_objects.specs.declared.objects.Ref.{Ref}
use Rattle.kube_objects.specs.declared.objects.Claim.{Claim as ClaimData}
use Rattle.kube_objects.specs.declared.objects.Volume.{Volume as VolumeData}
use Rattle.kube_objects.specs.declared.objects.Object.TheVariants.{Volume, Claim}
use Rattle.kube_objects.specs.Bindings.{has_name, is_deleting, is_empty}
use Rattle.binder_model.specs.Edits.{without_name}
use Rattle.binder_model.specs.Fields.{
  adds_finalizer,
  changed_field,
  claim_fault,
  create_fault,
  faulty,
  has_no_mode,
  has_twice,
  is_nameless,
  is_namespace,
  is_subdomain,
  keeps_class,
  kind_fault,
  update_fault,
  volume_fault,
}
use Rattle.binder_model.specs.Same.{same_amount, same_modes, same_option, same_selector, same_source, same_terms}
use Rattle.field_rules.proofs.Equalities.{same_amount-Decides, same_modes-Decides, same_option-Decides, same_selector-Decides, same_source-Decides, same_terms-Decides}
use Rattle.settle_writes.specs.Writes.Valid.{IsValid}

-- the tests of a fault, one by one

abbrev is_fault : Option Field → Bool
is_fault None = false
is_fault (Some field) = true

next_none : (b : Bool) (field : Field) (next : Option Field) → faulty b field next ≡ None → next ≡ None
unfolding faulty
next_none true field next e = absurd (true≢false (ap is_fault e))
next_none false field next e = e

test_false : (b : Bool) (field : Field) (next : Option Field) → faulty b field next ≡ None → b ≡ false
unfolding faulty
test_false true field next e = absurd (true≢false (ap is_fault e))
test_false false field next e = refl

-- what is known of a valid volume
pub record VolumeFacts (v : VolumeData) : Type 0 where
  pub named : not (is_subdomain v.meta.name) ≡ false
  pub placed : not (is_empty v.meta.namespace) ≡ false
  pub sized : (v.amount.bytes == 0) ≡ false
  pub moded : has_no_mode v.modes ≡ false
  pub refers : is_nameless v.claim_ref ≡ false
  pub once : has_twice v.meta.finalizers ≡ false

pub volume_facts : (v : VolumeData) → IsValid (Volume v) → VolumeFacts v
unfolding create_fault kind_fault volume_fault
volume_facts v e =
    let a = next_none _ _ _ e in
    let b = next_none _ _ _ a in
    let c = next_none _ _ _ b in
    let d = next_none _ _ _ c in
    let f = next_none _ _ _ d in
    record { named = test_false _ _ _ e; placed = test_false _ _ _ a; sized = test_false _ _ _ b; moded = test_false _ _ _ c; refers = test_false _ _ _ d; once = test_false _ _ _ f }

-- and of a valid claim
pub record ClaimFacts (c : ClaimData) : Type 0 where
  pub named : not (is_subdomain c.meta.name) ≡ false
  pub placed : not (is_namespace c.meta.namespace) ≡ false
  pub sized : (c.amount.bytes == 0) ≡ false
  pub moded : has_no_mode c.modes ≡ false
  pub once : has_twice c.meta.finalizers ≡ false

pub claim_facts : (c : ClaimData) → IsValid (Claim c) → ClaimFacts c
unfolding create_fault kind_fault claim_fault
claim_facts c e =
    let a = next_none _ _ _ e in
    let b = next_none _ _ _ a in
    let d = next_none _ _ _ b in
    let f = next_none _ _ _ d in
    record { named = test_false _ _ _ e; placed = test_false _ _ _ a; sized = test_false _ _ _ b; moded = test_false _ _ _ d; once = test_false _ _ _ f }

-- a name that is valid is not empty
not_empty : (name : List ℕ) → not (is_subdomain name) ≡ false → is_empty name ≡ false
not_empty [] e = absurd (true≢false e)
not_empty (x ∷ xs) e = refl

no_empty_place : (name : List ℕ) → not (is_namespace name) ≡ false → is_empty name ≡ false
no_empty_place [] e = absurd (true≢false e)
no_empty_place (x ∷ xs) e = refl

-- a reference to a valid claim has its name and namespace
pub refers_well : (c : ClaimData) → IsValid (Claim c) → (is_empty c.meta.name || is_empty c.meta.namespace) ≡ false
refers_well c valid = let f = claim_facts c valid in rw (not_empty c.meta.name f.named, no_empty_place c.meta.namespace f.placed) refl

-- a volume has no namespace
pub no_namespace : (v : VolumeData) → IsValid (Volume v) → v.meta.namespace ≡ []
no_namespace v valid = by v.meta.namespace (volume_facts v valid).placed
  where
    by : (name : List ℕ) → not (is_empty name) ≡ false → name ≡ []
    by [] e = refl
    by (x ∷ xs) e = absurd (true≢false e)

-- finalizers that stay, or of which one goes

bytes_itself : (x : List ℕ) → bytes_eq x x ≡ true
bytes_itself x = (bytes_eq-Decides x x).1 refl

none_new : (old xs : List (List ℕ)) → ((f : List ℕ) → has_name f xs ≡ true → has_name f old ≡ true) → adds_finalizer old xs ≡ false
none_new old [] there = refl
none_new old (x ∷ xs) there =
    let here : has_name x (x ∷ xs) ≡ true = rw (bytes_itself x) refl in
    rw (there x here, none_new old xs (λ f h. there f (or_right (bytes_eq x f) (has_name f xs) h))) refl

pub adds_none : (xs : List (List ℕ)) → adds_finalizer xs xs ≡ false
adds_none xs = none_new xs xs (λ f h. h)

-- a name among those that are left was among all
left_named : (f name : List ℕ) (xs : List (List ℕ)) → has_name f (without_name name xs) ≡ true → has_name f xs ≡ true
left_named f name [] h = h
left_named f name (x ∷ xs) h = by (not (bytes_eq x name)) h (left_named f name xs)
  where
    by : (b : Bool) → has_name f (cond b (x ∷ without_name name xs) (without_name name xs)) ≡ true
        → (has_name f (without_name name xs) ≡ true → has_name f xs ≡ true) → (bytes_eq x f || has_name f xs) ≡ true
    by true h rest = front (bytes_eq x f) h
      where
        front : (b : Bool) → (b || has_name f (without_name name xs)) ≡ true → (b || has_name f xs) ≡ true
        front true e = refl
        front false e = rest e
    by false h rest = or_right (bytes_eq x f) (has_name f xs) (rest h)

pub drops_add_none : (name : List ℕ) (xs : List (List ℕ)) → adds_finalizer xs (without_name name xs) ≡ false
drops_add_none name xs = none_new xs (without_name name xs) (λ f h. left_named f name xs h)

left_unnamed : (f name : List ℕ) (xs : List (List ℕ)) → has_name f xs ≡ false → has_name f (without_name name xs) ≡ false
left_unnamed f name xs e = by (has_name f (without_name name xs)) refl
  where
    by : (b : Bool) → has_name f (without_name name xs) ≡ b → has_name f (without_name name xs) ≡ false
    by true is = absurd (true≢false (sym (left_named f name xs is) ∙ e))
    by false is = is

pub drops_once : (name : List ℕ) (xs : List (List ℕ)) → has_twice xs ≡ false → has_twice (without_name name xs) ≡ false
drops_once name [] e = refl
drops_once name (x ∷ xs) e = let p = or_parts (has_name x xs) (has_twice xs) e in by (not (bytes_eq x name)) p.0 (drops_once name xs p.1)
  where
    by : (b : Bool) → has_name x xs ≡ false → has_twice (without_name name xs) ≡ false → has_twice (cond b (x ∷ without_name name xs) (without_name name xs)) ≡ false
    by true new rest = rw (left_unnamed x name xs new, rest) refl
    by false new rest = rest

-- updates that fit

beq_itself : (b : Bool) → beq b b ≡ true
beq_itself true = refl
beq_itself false = refl

and_false : (b : Bool) → (b && false) ≡ false
and_false true = refl
and_false false = refl

pub volume_fits : (v : VolumeData) (m : Meta) (r : Option Ref) → IsValid (Volume v) → m.name ≡ v.meta.name → m.namespace ≡ v.meta.namespace → is_nameless r ≡ false → has_twice m.finalizers ≡ false
    → (is_deleting v.meta && adds_finalizer v.meta.finalizers m.finalizers) ≡ false → update_fault (Volume v) (Volume (record v { meta = m; claim_ref = r })) ≡ None
unfolding update_fault changed_field create_fault kind_fault volume_fault faulty
volume_fits v m r valid named placed refers once adds =
    let f = volume_facts v valid in
    let s : same_source v.source v.source ≡ true = (same_source-Decides v.source v.source).1 refl in
    let b : beq v.block v.block ≡ true = beq_itself v.block in
    let a : same_amount v.amount v.amount ≡ true = (same_amount-Decides v.amount v.amount).1 refl in
    let t : same_option same_terms v.terms v.terms ≡ true = (same_option-Decides same_terms same_terms-Decides v.terms v.terms).1 refl in
    let n : not (is_subdomain m.name) ≡ false = ap (λ x. not (is_subdomain x)) named ∙ f.named in
    let p : not (is_empty m.namespace) ≡ false = ap (λ x. not (is_empty x)) placed ∙ f.placed in
    let z : (v.amount.bytes == 0) ≡ false = f.sized in
    let o : has_no_mode v.modes ≡ false = f.moded in
    rw (s, b, a, t, adds, once, n, p, z, o, refers) refl

pub claim_fits : (c : ClaimData) (m : Meta) (name : List ℕ) (class : Option (List ℕ)) → IsValid (Claim c) → m.name ≡ c.meta.name → m.namespace ≡ c.meta.namespace
    → keeps_class c (record c { meta = m; volume_name = name; class = class }) ≡ true → (not (is_empty c.volume_name) && not (bytes_eq c.volume_name name)) ≡ false → has_twice m.finalizers ≡ false
    → (is_deleting c.meta && adds_finalizer c.meta.finalizers m.finalizers) ≡ false → update_fault (Claim c) (Claim (record c { meta = m; volume_name = name; class = class })) ≡ None
unfolding update_fault changed_field create_fault kind_fault claim_fault faulty
claim_fits c m name class valid named placed keeps names once adds =
    let f = claim_facts c valid in
    let d : same_modes c.modes c.modes ≡ true = (same_modes-Decides c.modes c.modes).1 refl in
    let a : same_amount c.amount c.amount ≡ true = (same_amount-Decides c.amount c.amount).1 refl in
    let b : beq c.block c.block ≡ true = beq_itself c.block in
    let s : same_option same_selector c.selector c.selector ≡ true = (same_option-Decides same_selector same_selector-Decides c.selector c.selector).1 refl in
    let x : bytes_eq c.extra c.extra ≡ true = bytes_itself c.extra in
    let n : not (is_subdomain m.name) ≡ false = ap (λ y. not (is_subdomain y)) named ∙ f.named in
    let p : not (is_namespace m.namespace) ≡ false = ap (λ y. not (is_namespace y)) placed ∙ f.placed in
    let z : (c.amount.bytes == 0) ≡ false = f.sized in
    let o : has_no_mode c.modes ≡ false = f.moded in
    rw (d, a, b, s, x, keeps, names, adds, once, n, p, z, o) refl

-- a claim that keeps its class
pub class_kept : (c : ClaimData) (m : Meta) (name : List ℕ) → keeps_class c (record c { meta = m; volume_name = name }) ≡ true
class_kept c m name = let same : same_option bytes_eq c.class c.class ≡ true = (same_option-Decides bytes_eq bytes_eq-Decides c.class c.class).1 refl in rw same refl
