-- Parts of the specs of objects from values.
-- Source: Kubernetes API, PersistentVolumeSpec, PersistentVolumeClaimSpec, LabelSelector, NodeSelector.
use Rattle.std.specs.Prelude.{ℕ, List, [], ◌∷◌, ◌++◌, Bool, true, false, if◌then◌else◌, Ok, Err, Option, Some, None, codes, bytes_eq, decimal}
use Rattle.std.specs.declared.result.Result.{Result}
use Rattle.serde_json.specs.Data.{Num, unsigned, negative, float, Data, null, boolean, number, string, array, object, Items, no_items, item}
use Rattle.json_text.specs.Look.{unless_null}
use Rattle.quantity_text.specs.declared.errors.AmountError.{AmountError}
use Rattle.quantity_text.specs.Quantity.{amount_of}
use Rattle.kube_parts.specs.declared.parts.Modes.{Modes}
use Rattle.kube_parts.specs.declared.parts.Policy.{Policy}
use Rattle.kube_parts.specs.declared.parts.Policy.TheVariants.{Retain, Delete}
use Rattle.kube_parts.specs.declared.parts.VolumePhase.{VolumePhase}
use Rattle.kube_parts.specs.declared.parts.VolumePhase.TheVariants as volume_phases
use Rattle.kube_parts.specs.declared.parts.ClaimPhase.{ClaimPhase}
use Rattle.kube_parts.specs.declared.parts.ClaimPhase.TheVariants as claim_phases
use Rattle.kube_parts.specs.declared.parts.SourceKind.{SourceKind}
use Rattle.kube_parts.specs.declared.parts.SourceKind.TheVariants as sources
use Rattle.kube_parts.specs.declared.parts.Op.{Op}
use Rattle.kube_parts.specs.Words.{policy_word, volume_mode, binding_mode, volume_phase_word, claim_phase_word}
use Rattle.kube_parts.specs.Named.{value_named, policy_named, block_named, delayed_named, volume_phase_named, claim_phase_named, op_named}
use Rattle.kube_objects.specs.declared.objects.Amount.{Amount}
use Rattle.kube_objects.specs.declared.objects.Ref.{Ref}
use Rattle.kube_objects.specs.declared.objects.Source.{Source}
use Rattle.kube_objects.specs.declared.objects.Expr.{Expr}
use Rattle.kube_objects.specs.declared.objects.Selector.{Selector}
use Rattle.kube_objects.specs.declared.objects.NodeTerms.{NodeTerms}
use Rattle.object_text.specs.declared.errors.Member.{Member}
use Rattle.object_text.specs.declared.errors.Member.TheVariants as members
use Rattle.object_text.specs.declared.errors.ObjectError.{ObjectError}
use Rattle.object_text.specs.declared.errors.ObjectError.TheVariants.{Missing, WrongType, BadQuantity, NotWhole}
use Rattle.object_text.specs.Answers.{◌>>=◌}
use Rattle.object_text.specs.MemberReaders.{at, as_text, as_object, needed, needed_text, needed_items, some_object_at, text_or, optional_text, optional_items, texts_at, pairs_at, uid_at}

-- ---- quantities: a text, or a whole number that stands for its digits

-- the digits of a whole number; a negative one is of the wrong type, and a float is refused as not whole
abbrev pub number_digits : Member → Num → Result (List ℕ) ObjectError
number_digits m (unsigned n) = Ok (decimal n)
number_digits m (negative z) = Err (WrongType m)
number_digits m (float x) = Err NotWhole

-- the text of a quantity: a string as it is, or the digits of a number
abbrev pub quantity_text : Member → Data → Result (List ℕ) ObjectError
quantity_text m null = Err (WrongType m)
quantity_text m (boolean b) = Err (WrongType m)
quantity_text m (number n) = number_digits m n
quantity_text m (string s) = Ok s
quantity_text m (array ds) = Err (WrongType m)
quantity_text m (object ms) = Err (WrongType m)

-- the amount: the text as it was written and its bytes, or that the quantity is bad
abbrev pub amount_from : Member → List ℕ → Result ℕ AmountError → Result Amount ObjectError
amount_from m s (Ok n) = Ok (record { text = s; bytes = n })
amount_from m s (Err e) = Err (BadQuantity m)

-- the amount that a value gives
abbrev pub amount_in : Member → Data → Result Amount ObjectError
amount_in m d = quantity_text m d >>= λ s. amount_from m s (amount_of s)

-- the amount of a member that must be there
unfoldable pub quantity_at : Member → Option Data → Result Amount ObjectError
quantity_at m place = needed m place >>= λ d. amount_in m d

-- the amount of a value that may be absent
abbrev pub amount_or_none : Member → Option Data → Result (Option Amount) ObjectError
amount_or_none m None = Ok None
amount_or_none m (Some d) = amount_in m d >>= λ a. Ok (Some a)

-- the amount of a member that may be absent
unfoldable pub optional_quantity : Member → Option Data → Result (Option Amount) ObjectError
optional_quantity m place = amount_or_none m (at m place)

-- ---- texts that are listed

-- with the access mode of a word; a word that names none is of the wrong type
abbrev pub with_mode : List ℕ → Modes → Result Modes ObjectError
with_mode s m =
    if bytes_eq s (codes "ReadWriteOnce") then Ok (record m { rwo = true }) else (
    if bytes_eq s (codes "ReadOnlyMany") then Ok (record m { rox = true }) else (
    if bytes_eq s (codes "ReadWriteMany") then Ok (record m { rwx = true }) else (
    if bytes_eq s (codes "ReadWriteOncePod") then Ok (record m { rwop = true }) else Err (WrongType members.AccessModes))))

-- no access mode at all
abbrev pub no_modes : Modes
no_modes = record { rwo = false; rox = false; rwx = false; rwop = false }

-- with the access modes of items; one that is named twice counts once
abbrev pub modes_from : Items → Modes → Result Modes ObjectError
modes_from no_items m = Ok m
modes_from (item d ds) m = as_text members.AccessModes d >>= λ s. with_mode s m >>= λ n. modes_from ds n

-- the access modes of a spec, which must be there
unfoldable pub modes_at : Option Data → Result Modes ObjectError
modes_at place = needed_items members.AccessModes place >>= λ ds. modes_from ds no_modes

-- the access modes of items that may be absent
abbrev pub modes_or_none : Option Items → Result Modes ObjectError
modes_or_none None = Ok no_modes
modes_or_none (Some ds) = modes_from ds no_modes

-- the access modes of a member that may be absent
unfoldable pub optional_modes : Option Data → Result Modes ObjectError
optional_modes place = optional_items members.AccessModes place >>= λ o. modes_or_none o

-- the value that a word names; a word that is none of those listed is of the wrong type
abbrev pub known : {X : Type 0} → Member → Option X → Result X ObjectError
known m None = Err (WrongType m)
known m (Some x) = Ok x

-- whether the volume mode is Block; it is Filesystem where it is absent
unfoldable pub block_at : Option Data → Result Bool ObjectError
block_at place = text_or members.VolumeMode (volume_mode false) place >>= λ s. known members.VolumeMode (block_named s)

-- the reclaim policy of a volume; Retain where it is absent
unfoldable pub policy_at : Option Data → Result Policy ObjectError
policy_at place = text_or members.PersistentVolumeReclaimPolicy (policy_word Retain) place >>= λ s. known members.PersistentVolumeReclaimPolicy (policy_named s)

-- volumes of a class are never to be recycled
abbrev pub class_policies : List Policy
class_policies = Delete ∷ Retain ∷ []

-- the reclaim policy of a class, Delete or Retain; Delete where it is absent
unfoldable pub class_policy_at : Option Data → Result Policy ObjectError
class_policy_at place = text_or members.ReclaimPolicy (policy_word Delete) place >>= λ s. known members.ReclaimPolicy (value_named policy_word class_policies s)

-- whether a class binds for the first consumer; it binds at once where that is absent
unfoldable pub delayed_at : Option Data → Result Bool ObjectError
delayed_at place = text_or members.VolumeBindingMode (binding_mode false) place >>= λ s. known members.VolumeBindingMode (delayed_named s)

-- the phase of a volume; Pending where it is absent
unfoldable pub volume_phase_at : Option Data → Result VolumePhase ObjectError
volume_phase_at place = text_or members.Phase (volume_phase_word volume_phases.Pending) place >>= λ s. known members.Phase (volume_phase_named s)

-- the phase of a claim; Pending where it is absent
unfoldable pub claim_phase_at : Option Data → Result ClaimPhase ObjectError
claim_phase_at place = text_or members.Phase (claim_phase_word claim_phases.Pending) place >>= λ s. known members.Phase (claim_phase_named s)

-- the operator of a requirement, which must be there
unfoldable pub op_at : Option Data → Result Op ObjectError
op_at place = needed_text members.Operator place >>= λ s. known members.Operator (op_named s)

-- ---- the claim of a volume

-- the claim that a volume is for: namespace and name must be there, the UID may be absent
unfoldable pub ref_at : Option Data → Result Ref ObjectError
ref_at place = do
  namespace ← needed_text members.Namespace place
  name ← needed_text members.Name place
  uid ← uid_at members.Uid place
  Ok (record { namespace = namespace; name = name; uid = uid })

-- the same of a value that may be absent
abbrev pub ref_or_none : Option Data → Result (Option Ref) ObjectError
ref_or_none None = Ok None
ref_or_none (Some d) = ref_at (Some d) >>= λ r. Ok (Some r)

-- the claimRef of a volume, if it has one
unfoldable pub claim_ref_at : Option Data → Result (Option Ref) ObjectError
claim_ref_at place = some_object_at members.ClaimRef place >>= λ o. ref_or_none o

-- ---- the source of a volume

-- a source of two texts, as a CSI driver with its handle
abbrev pub two_texts : SourceKind → Member → Member → Member → Data → Result Source ObjectError
two_texts kind m one two d = do
  source ← as_object m d
  first ← needed_text one (Some source)
  second ← needed_text two (Some source)
  Ok (record { kind = kind; first = first; second = second })

-- a source that is a path alone
abbrev pub one_text : SourceKind → Member → Data → Result Source ObjectError
one_text kind m d = do
  source ← as_object m d
  first ← needed_text members.Path (Some source)
  Ok (record { kind = kind; first = first; second = [] })

-- the first that is there counts
abbrev pub source_from : Option Data → Option Data → Option Data → Option Data → Result Source ObjectError
source_from (Some d) nfs local host = two_texts sources.Csi members.Csi members.Driver members.VolumeHandle d
source_from None (Some d) local host = two_texts sources.Nfs members.Nfs members.Server members.Path d
source_from None None (Some d) host = one_text sources.Local members.Local d
source_from None None None (Some d) = one_text sources.HostPath members.HostPath d
source_from None None None None = Err (Missing members.Source)

-- the member, where it is there and not null
abbrev pub there : Member → Option Data → Option Data
there m place = unless_null (at m place)

-- the source of a volume: CSI, NFS, a local path or a host path; where none is there, it is missing
unfoldable pub source_at : Option Data → Result Source ObjectError
source_at place = source_from (there members.Csi place) (there members.Nfs place) (there members.Local place) (there members.HostPath place)

-- ---- expressions

-- one requirement of a selector: key, operator and values
unfoldable pub expr_of : Data → Result Expr ObjectError
expr_of d = do
  expr ← as_object members.MatchExpressions d
  key ← needed_text members.Key (Some expr)
  op ← op_at (Some expr)
  values ← texts_at members.Values (Some expr)
  Ok (record { key = key; op = op; values = values })

-- the requirements of items, behind those that were found
abbrev pub exprs_from : Items → List Expr → Result (List Expr) ObjectError
exprs_from no_items found = Ok found
exprs_from (item d ds) found = expr_of d >>= λ e. exprs_from ds (found ++ e ∷ [])

-- the requirements of items that may be absent; none where they are
abbrev pub exprs_or_none : Option Items → Result (List Expr) ObjectError
exprs_or_none None = Ok []
exprs_or_none (Some ds) = exprs_from ds []

-- the requirements under `matchExpressions`; none where it is absent
unfoldable pub exprs_at : Option Data → Result (List Expr) ObjectError
exprs_at place = optional_items members.MatchExpressions place >>= λ o. exprs_or_none o

-- a term of a node selector; without expressions it is empty
unfoldable pub term_of : Data → Result (List Expr) ObjectError
term_of d = as_object members.NodeSelectorTerms d >>= λ t. exprs_at (Some t)

-- the node selector terms of items, behind those that were found
abbrev pub terms_from : Items → List (List Expr) → Result (List (List Expr)) ObjectError
terms_from no_items found = Ok found
terms_from (item d ds) found = term_of d >>= λ t. terms_from ds (found ++ t ∷ [])

-- the node selector of items that may be absent; no selector where they are
abbrev pub terms_or_none : Option Items → Result (Option NodeTerms) ObjectError
terms_or_none None = Ok None
terms_or_none (Some ds) = terms_from ds [] >>= λ ts. Ok (Some (record { terms = ts }))

-- the node affinity of a volume: the terms that are required of a node, if any
unfoldable pub terms_at : Option Data → Result (Option NodeTerms) ObjectError
terms_at place = do
  affinity ← some_object_at members.NodeAffinity place
  required ← some_object_at members.Required affinity
  listed ← optional_items members.NodeSelectorTerms required
  terms_or_none listed

-- ---- the selector of a claim

-- a label selector: its labels and its requirements
unfoldable pub selector_of : Option Data → Result Selector ObjectError
selector_of place = do
  labels ← pairs_at members.MatchLabels place
  exprs ← exprs_at place
  Ok (record { labels = labels; exprs = exprs })

-- the same of a value that may be absent
abbrev pub selector_or_none : Option Data → Result (Option Selector) ObjectError
selector_or_none None = Ok None
selector_or_none (Some d) = selector_of (Some d) >>= λ s. Ok (Some s)

-- the label selector of a claim, if it has one
unfoldable pub selector_at : Option Data → Result (Option Selector) ObjectError
selector_at place = some_object_at members.Selector place >>= λ o. selector_or_none o

-- ---- the claims of a pod

-- the claim of one of its volumes, if it names one
unfoldable pub claim_name_of : Data → Result (Option (List ℕ)) ObjectError
claim_name_of d = do
  volume ← as_object members.Volumes d
  claim ← some_object_at members.PersistentVolumeClaim (Some volume)
  optional_text members.ClaimName claim

-- with the name of one more claim, if there is one
abbrev pub with_name : List (List ℕ) → Option (List ℕ) → List (List ℕ)
with_name found None = found
with_name found (Some s) = found ++ s ∷ []

-- the names of the claims that the volumes of a pod name, behind those that were found
abbrev pub claims_from : Items → List (List ℕ) → Result (List (List ℕ)) ObjectError
claims_from no_items found = Ok found
claims_from (item d ds) found = claim_name_of d >>= λ o. claims_from ds (with_name found o)

-- the same of volumes that may be absent
abbrev pub claims_or_none : Option Items → Result (List (List ℕ)) ObjectError
claims_or_none None = Ok []
claims_or_none (Some ds) = claims_from ds []

-- the names of the claims that a pod uses, in the order of its volumes
unfoldable pub claims_at : Option Data → Result (List (List ℕ)) ObjectError
claims_at place = optional_items members.Volumes place >>= λ o. claims_or_none o
