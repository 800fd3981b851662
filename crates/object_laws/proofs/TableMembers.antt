-- What a reader of one member refuses is what its row of the table of manifests says.
use Rattle.std.proofs.Common.{◌≡◌, ℕ, List, [], ◌∷◌, map, bytes_eq, codes, Bool, true, false, ◌||◌, if◌then◌else◌, Option, Some, None, Result, Ok, Err, refl, ◌∙◌}
use Rattle.std.specs.Prelude.{unwrap_or}
use Rattle.std.specs.List.{list_any}
use Rattle.serde_json.specs.Data.{Data}
use Rattle.json_text.specs.Look.{unless_null}
use Rattle.kube_parts.specs.Words.{policy_word, volume_mode, binding_mode, volume_phase_word, claim_phase_word}
use Rattle.kube_parts.specs.Named.{value_named, both, all_policies, all_volume_phases, all_claim_phases}
use Rattle.kube_parts.specs.declared.parts.Policy.TheVariants.{Retain, Delete}
use Rattle.kube_parts.specs.declared.parts.VolumePhase.TheVariants as volume_phases
use Rattle.kube_parts.specs.declared.parts.ClaimPhase.TheVariants as claim_phases
use Rattle.object_text.specs.declared.errors.Member.{Member}
use Rattle.object_text.specs.declared.errors.Member.TheVariants as members
use Rattle.object_text.specs.declared.errors.ObjectError.{ObjectError}
use Rattle.object_text.specs.declared.errors.ObjectError.TheVariants.{Missing, WrongType}
use Rattle.object_text.specs.Answers.{◌>>=◌}
use Rattle.object_text.specs.MemberReaders.{
  at,
  as_text,
  as_items,
  as_object,
  needed_from,
  needed_text,
  needed_object,
  way_from,
  text_from,
  text_or,
  optional_from,
  optional_text,
  optional_items_from,
  texts_or_none,
  texts_at,
  pairs_or_none,
  pairs_at,
  uid_or_none,
  uid_named,
  uid_at,
  stamp_from,
  stamp_named,
  stamp_at,
  stamp_or_empty,
  version_named,
  version_at,
}
use Rattle.object_text.specs.MetaReaders.{kept_namespace, namespace_at}
use Rattle.object_text.specs.PartReaders.{
  amount_in,
  quantity_at,
  amount_or_none,
  optional_quantity,
  no_modes,
  modes_from,
  modes_at,
  modes_or_none,
  optional_modes,
  known,
  block_at,
  policy_at,
  class_policies,
  class_policy_at,
  delayed_at,
  volume_phase_at,
  claim_phase_at,
  ref_at,
  ref_or_none,
  claim_ref_at,
  terms_from,
  terms_or_none,
  selector_of,
  selector_or_none,
  selector_at,
  claims_or_none,
  claims_at,
}
use Rattle.object_laws.specs.Manifests.{
  Text,
  OneOf,
  Uuid,
  Version,
  Moment,
  Quantity,
  Modes,
  Texts,
  TextMap,
  Members,
  Reference,
  Terms,
  Selector,
  PodVolumes,
  Required,
  Optional,
  Default,
  Nullable,
  fault,
  one_of,
  on,
  shape_fault,
  member_fault,
}

-- ---- results and their faults

pub mapped : {A B : Type 0} (r : Result A ObjectError) (g : A → B) → fault (r >>= λ a. Ok (g a)) ≡ fault r
mapped (Ok a) g = refl
mapped (Err e) g = refl

-- one step after another, whose faults are alike
pub alike : {A B C : Type 0} (r : Result A ObjectError) (f : A → Result B ObjectError) (g : A → Result C ObjectError) → ((a : A) → fault (f a) ≡ fault (g a)) → fault (r >>= f) ≡ fault (r >>= g)
alike (Ok a) f g h = h a
alike (Err e) f g h = refl

-- a step that only wraps the value leaves no trace
wrapped : {A B C D : Type 0} (r : Result A ObjectError) (w : A → B) (f : B → Result C ObjectError) (g : A → Result D ObjectError)
    → ((a : A) → fault (f (w a)) ≡ fault (g a)) → fault ((r >>= λ a. Ok (w a)) >>= f) ≡ fault (r >>= g)
wrapped (Ok a) w f g h = h a
wrapped (Err e) w f g h = refl

joined : {A B C : Type 0} (r : Result A ObjectError) (f : A → Result B ObjectError) (g : B → Result C ObjectError) → fault ((r >>= f) >>= g) ≡ fault (r >>= λ a. f a >>= g)
joined (Ok a) f g = refl
joined (Err e) f g = refl

-- ---- members that have to be there

needed_fault : {X : Type 0} (m : Member) (f : Data → Result X ObjectError) (o : Option Data) → fault (needed_from m o >>= f) ≡ on (Some (Missing m)) (λ d. fault (f d)) o
needed_fault m f None = refl
needed_fault m f (Some d) = refl

pub needed_object_fault : (m : Member) (place : Option Data) → fault (needed_object m place) ≡ member_fault Required Members m (at m place)
needed_object_fault m place = needed_fault m (as_object m) (unless_null (at m place))

pub needed_text_fault : (m : Member) (place : Option Data) → fault (needed_text m place) ≡ member_fault Required Text m (at m place)
needed_text_fault m place = needed_fault m (as_text m) (unless_null (at m place))

pub quantity_fault : (m : Member) (place : Option Data) → fault (quantity_at m place) ≡ member_fault Required Quantity m (at m place)
unfolding quantity_at
quantity_fault m place = needed_fault m (amount_in m) (unless_null (at m place))

pub modes_fault : (place : Option Data) → fault (modes_at place) ≡ member_fault Required Modes members.AccessModes (at members.AccessModes place)
unfolding modes_at
modes_fault place = by (unless_null (at members.AccessModes place))
  where
    by : (o : Option Data) → fault ((needed_from members.AccessModes o >>= λ d. as_items members.AccessModes d) >>= λ ds. modes_from ds no_modes) ≡
        on (Some (Missing members.AccessModes)) (shape_fault Modes members.AccessModes) o
    by None = refl
    by (Some d) = refl

-- ---- texts that may be left out

pub text_fault : (m : Member) (s : List ℕ) (place : Option Data) → fault (text_or m s place) ≡ member_fault (Default s) Text m (at m place)
text_fault m s place = by (at m place)
  where
    by : (o : Option Data) → fault (text_from m s o) ≡ on None (shape_fault Text m) o
    by None = refl
    by (Some d) = refl

-- a text with a further test
tested_fault : {X : Type 0} (m : Member) (s : List ℕ) (f : List ℕ → Result X ObjectError) (o : Option Data) → fault (text_from m s o >>= f) ≡ on (fault (f s)) (λ d. fault (as_text m d >>= f)) o
tested_fault m s f None = refl
tested_fault m s f (Some d) = refl

pub namespace_fault : (namespaced : Bool) (place : Option Data) → fault (namespace_at namespaced place) ≡ member_fault (Default (codes "default")) Text members.Namespace (at members.Namespace place)
namespace_fault namespaced place = mapped (text_or members.Namespace (codes "default") place) (kept_namespace namespaced) ∙ text_fault members.Namespace (codes "default") place

pub version_fault : (place : Option Data) → fault (version_at members.ResourceVersion place) ≡ member_fault (Default (codes "0")) Version members.ResourceVersion (at members.ResourceVersion place)
version_fault place = tested_fault members.ResourceVersion (codes "0") (version_named members.ResourceVersion) (at members.ResourceVersion place)

pub optional_text_fault : (m : Member) (place : Option Data) → fault (optional_text m place) ≡ member_fault Optional Text m (at m place)
optional_text_fault m place = by (at m place)
  where
    by : (o : Option Data) → fault (optional_from m o) ≡ on None (shape_fault Text m) o
    by None = refl
    by (Some d) = mapped (as_text m d) Some

pub uid_fault : (m : Member) (place : Option Data) → fault (uid_at m place) ≡ member_fault Optional Uuid m (at m place)
uid_fault m place = by (at m place)
  where
    by : (o : Option Data) → fault (optional_from m o >>= λ t. uid_or_none m t) ≡ on None (shape_fault Uuid m) o
    by None = refl
    by (Some d) = wrapped (as_text m d) Some (uid_or_none m) (uid_named m) (λ s. mapped (uid_named m s) Some)

pub stamp_fault : (m : Member) (place : Option Data) → fault (stamp_at m place) ≡ member_fault Nullable Moment m (at m place)
stamp_fault m place = by (unless_null (at m place))
  where
    by : (o : Option Data) → fault (stamp_from m o) ≡ on None (shape_fault Moment m) o
    by None = refl
    by (Some d) = alike (as_text m d) (λ s. stamp_named m s >>= λ t. Ok (Some t)) (stamp_named m) (λ s. mapped (stamp_named m s) Some)

pub stamp_or_empty_fault : (m : Member) (place : Option Data) → fault (stamp_or_empty m place) ≡ member_fault Nullable Moment m (at m place)
stamp_or_empty_fault m place = mapped (stamp_at m place) (λ o. unwrap_or o []) ∙ stamp_fault m place

-- ---- words

word_fault : {X : Type 0} (m : Member) (word : X → List ℕ) (xs : List X) (s : List ℕ) → fault (known m (value_named word xs s)) ≡ fault (one_of m (map word xs) s)
word_fault m word [] s = refl
word_fault m word (x ∷ xs) s = by (bytes_eq s (word x)) (word_fault m word xs s)
  where
    by : (b : Bool) → fault (known m (value_named word xs s)) ≡ fault (one_of m (map word xs) s)
        → fault (known m (if b then Some x else value_named word xs s)) ≡ fault (if (b || list_any (bytes_eq s) (map word xs)) then Ok s else Err (WrongType m))
    by true rest = refl
    by false rest = rest

words_fault : {X : Type 0} (m : Member) (other : List ℕ) (word : X → List ℕ) (xs : List X) (place : Option Data)
    → fault (text_or m other place >>= λ s. known m (value_named word xs s)) ≡ member_fault (Default other) (OneOf (map word xs)) m (at m place)
words_fault {X} m other word xs place = by (at m place)
  where
    by : (o : Option Data) → fault (text_from m other o >>= λ s. known m (value_named word xs s)) ≡ on (fault (one_of m (map word xs) other)) (λ d.
        fault (as_text m d >>= λ s. one_of m (map word xs) s)) o
    by None = word_fault m word xs other
    by (Some d) = alike (as_text m d) (λ s. known m (value_named word xs s)) (one_of m (map word xs)) (word_fault m word xs)

pub block_fault : (place : Option Data) → fault (block_at place) ≡ member_fault (Default (volume_mode false)) (OneOf (map volume_mode both)) members.VolumeMode (at members.VolumeMode place)
unfolding block_at
block_fault place = words_fault members.VolumeMode (volume_mode false) volume_mode both place

pub policy_fault : (place : Option Data)
    → fault (policy_at place) ≡ member_fault (Default (policy_word Retain))
    (OneOf (map policy_word all_policies)) members.PersistentVolumeReclaimPolicy (at members.PersistentVolumeReclaimPolicy place)
unfolding policy_at
policy_fault place = words_fault members.PersistentVolumeReclaimPolicy (policy_word Retain) policy_word all_policies place

pub class_policy_fault : (place : Option Data)
    → fault (class_policy_at place) ≡ member_fault (Default (policy_word Delete)) (OneOf (map policy_word class_policies)) members.ReclaimPolicy (at members.ReclaimPolicy place)
unfolding class_policy_at
class_policy_fault place = words_fault members.ReclaimPolicy (policy_word Delete) policy_word class_policies place

pub delayed_fault : (place : Option Data)
    → fault (delayed_at place) ≡ member_fault (Default (binding_mode false)) (OneOf (map binding_mode both)) members.VolumeBindingMode (at members.VolumeBindingMode place)
unfolding delayed_at
delayed_fault place = words_fault members.VolumeBindingMode (binding_mode false) binding_mode both place

pub volume_phase_fault : (place : Option Data)
    → fault (volume_phase_at place) ≡ member_fault (Default (volume_phase_word volume_phases.Pending)) (OneOf (map volume_phase_word all_volume_phases)) members.Phase (at members.Phase place)
unfolding volume_phase_at
volume_phase_fault place = words_fault members.Phase (volume_phase_word volume_phases.Pending) volume_phase_word all_volume_phases place

pub claim_phase_fault : (place : Option Data)
    → fault (claim_phase_at place) ≡ member_fault (Default (claim_phase_word claim_phases.Pending)) (OneOf (map claim_phase_word all_claim_phases)) members.Phase (at members.Phase place)
unfolding claim_phase_at
claim_phase_fault place = words_fault members.Phase (claim_phase_word claim_phases.Pending) claim_phase_word all_claim_phases place

-- ---- lists and objects that may be left out

pub texts_fault : (m : Member) (place : Option Data) → fault (texts_at m place) ≡ member_fault Optional Texts m (at m place)
texts_fault m place = by (at m place)
  where
    by : (o : Option Data) → fault (optional_items_from m o >>= λ i. texts_or_none m i) ≡ on None (shape_fault Texts m) o
    by None = refl
    by (Some d) = wrapped (as_items m d) Some (texts_or_none m) (λ ds. texts_or_none m (Some ds)) (λ ds. refl)

pub pairs_fault : (m : Member) (place : Option Data) → fault (pairs_at m place) ≡ member_fault Optional TextMap m (at m place)
pairs_fault m place = by (at m place)
  where
    by : (o : Option Data) → fault (pairs_or_none m o) ≡ on None (shape_fault TextMap m) o
    by None = refl
    by (Some d) = refl

pub optional_quantity_fault : (m : Member) (place : Option Data) → fault (optional_quantity m place) ≡ member_fault Optional Quantity m (at m place)
unfolding optional_quantity
optional_quantity_fault m place = by (at m place)
  where
    by : (o : Option Data) → fault (amount_or_none m o) ≡ on None (shape_fault Quantity m) o
    by None = refl
    by (Some d) = mapped (amount_in m d) Some

pub optional_modes_fault : (place : Option Data) → fault (optional_modes place) ≡ member_fault Optional Modes members.AccessModes (at members.AccessModes place)
unfolding optional_modes
optional_modes_fault place = by (at members.AccessModes place)
  where
    by : (o : Option Data) → fault (optional_items_from members.AccessModes o >>= λ i. modes_or_none i) ≡ on None (shape_fault Modes members.AccessModes) o
    by None = refl
    by (Some d) = wrapped (as_items members.AccessModes d) Some modes_or_none (λ ds. modes_or_none (Some ds)) (λ ds. refl)

pub claim_ref_fault : (place : Option Data) → fault (claim_ref_at place) ≡ member_fault Optional Reference members.ClaimRef (at members.ClaimRef place)
unfolding claim_ref_at
claim_ref_fault place = by (at members.ClaimRef place)
  where
    by : (o : Option Data) → fault (way_from members.ClaimRef o >>= λ r. ref_or_none r) ≡ on None (shape_fault Reference members.ClaimRef) o
    by None = refl
    by (Some d) = wrapped (as_object members.ClaimRef d) Some ref_or_none (λ x. ref_at (Some x)) (λ x. mapped (ref_at (Some x)) Some)

pub selector_fault : (place : Option Data) → fault (selector_at place) ≡ member_fault Optional Selector members.Selector (at members.Selector place)
unfolding selector_at
selector_fault place = by (at members.Selector place)
  where
    by : (o : Option Data) → fault (way_from members.Selector o >>= λ s. selector_or_none s) ≡ on None (shape_fault Selector members.Selector) o
    by None = refl
    by (Some d) = wrapped (as_object members.Selector d) Some selector_or_none (λ x. selector_of (Some x)) (λ x. mapped (selector_of (Some x)) Some)

pub claims_fault : (place : Option Data) → fault (claims_at place) ≡ member_fault Optional PodVolumes members.Volumes (at members.Volumes place)
unfolding claims_at
claims_fault place = by (at members.Volumes place)
  where
    by : (o : Option Data) → fault (optional_items_from members.Volumes o >>= λ i. claims_or_none i) ≡ on None (shape_fault PodVolumes members.Volumes) o
    by None = refl
    by (Some d) = wrapped (as_items members.Volumes d) Some claims_or_none (λ ds. claims_or_none (Some ds)) (λ ds. refl)

-- the terms, below the objects on the way to them
pub terms_fault : (place : Option Data)
    → fault (optional_items_from members.NodeSelectorTerms (at members.NodeSelectorTerms place) >>= λ i. terms_or_none i)
    ≡ member_fault Optional Terms members.NodeSelectorTerms (at members.NodeSelectorTerms place)
terms_fault place = by (at members.NodeSelectorTerms place)
  where
    by : (o : Option Data) → fault (optional_items_from members.NodeSelectorTerms o >>= λ i. terms_or_none i) ≡ on None (shape_fault Terms members.NodeSelectorTerms) o
    by None = refl
    by (Some d) = wrapped (as_items members.NodeSelectorTerms d) Some terms_or_none (λ ds. terms_from ds []) (λ ds. mapped (terms_from ds []) (λ ts. Some (record { terms = ts })))
