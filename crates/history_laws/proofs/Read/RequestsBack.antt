-- What is printed of a request is read again.
use Rattle.std.proofs.Common.{◌≡◌, ℕ, List, ◌∷◌, Option, Some, codes, refl, ap, ◌∙◌}
use Rattle.json_text.specs.Members.{MemberList, text}
use Rattle.kube_parts.proofs.NamedWords.{kinds_inverse, policies_inverse, volume_phases_inverse, claim_phases_inverse}
use Rattle.kube_objects.specs.declared.key.Key.{Key}
use Rattle.call_types.specs.declared.edit.Edit.{Edit}
use Rattle.call_types.specs.declared.edit.Edit.TheVariants as edits
use Rattle.call_types.specs.declared.request.NewStatus.{NewStatus}
use Rattle.call_types.specs.declared.request.NewStatus.TheVariants as statuses
use Rattle.call_types.specs.declared.request.Request.{Request}
use Rattle.call_types.specs.declared.request.Request.TheVariants as asks
use Rattle.object_print.specs.Metadata.{uid_data}
use Rattle.object_laws.specs.Given.{IsUid}
use Rattle.history_text.specs.Requests.{two_texts, label_data, claim_name_data, ask_word, argument_pairs, request_data}
use Rattle.history_lines.specs.Answers.{◌>>=◌}
use Rattle.history_lines.specs.Members.{Look, look_in, some_number_at, key_at, uid_in}
use Rattle.history_lines.specs.Requests.{two_texts_in, edit_at, edit_request_at, status_at, update_status_at, request_at, request_in}
use Rattle.history_laws.specs.Read.Given.{IsStatus, IsRequest}
use Rattle.history_laws.proofs.Read.Members.{
  shown,
  looked,
  next,
  some_text_back,
  some_number_back,
  uid_back,
  some_uid_back,
  some_amount_back,
  object_again,
  list_back,
  modes_again,
  some_labels_back,
  key_back,
}

-- the members of a request
abbrev ask_pairs : Request → MemberList
ask_pairs r = (codes "do", text (ask_word r)) ∷ argument_pairs r

abbrev asked : Request → Look
asked r = shown (ask_pairs r)

-- ---- edits

label_back : (key value : List ℕ) → two_texts_in (codes "key") (codes "value") (look_in (label_data key value)) ≡ Some (key, value)
label_back key value = ap (two_texts_in (codes "key") (codes "value")) (looked (two_texts (codes "key") key (codes "value") value))

claim_back : (namespace name : List ℕ) → two_texts_in (codes "namespace") (codes "name") (look_in (claim_name_data namespace name)) ≡ Some (namespace, name)
claim_back namespace name = ap (two_texts_in (codes "namespace") (codes "name")) (looked (two_texts (codes "name") name (codes "namespace") namespace))

edit_back : (key : Key) (edit : Edit) → edit_at (asked (asks.Edit key edit)) ≡ Some edit
edit_back key (edits.AddFinalizer s) = refl
edit_back key (edits.DropFinalizer s) = refl
edit_back key (edits.DropLabel s) = refl
edit_back key (edits.DropAnnotation s) = refl
edit_back key (edits.SetLabel k v) = next (λ p. Some (edits.SetLabel p.0 p.1)) (label_back k v)
edit_back key (edits.SetAnnotation k v) = next (λ p. Some (edits.SetAnnotation p.0 p.1)) (label_back k v)
edit_back key (edits.SetVolumeName s) = refl
edit_back key (edits.SetPolicy policy) = next (λ p. Some (edits.SetPolicy p)) (policies_inverse.back policy)
edit_back key (edits.SetClaimRef namespace name) = next (λ p. Some (edits.SetClaimRef p.0 p.1)) (claim_back namespace name)
edit_back key edits.ClearClaimRef = refl

-- an edit is no member of a key
edit_key : (key : Key) (edit : Edit) → key_at (asked (asks.Edit key edit)) ≡ Some key
edit_key key (edits.AddFinalizer s) = key_back (asked (asks.Edit key (edits.AddFinalizer s))) key refl refl refl
edit_key key (edits.DropFinalizer s) = key_back (asked (asks.Edit key (edits.DropFinalizer s))) key refl refl refl
edit_key key (edits.DropLabel s) = key_back (asked (asks.Edit key (edits.DropLabel s))) key refl refl refl
edit_key key (edits.DropAnnotation s) = key_back (asked (asks.Edit key (edits.DropAnnotation s))) key refl refl refl
edit_key key (edits.SetLabel k v) = key_back (asked (asks.Edit key (edits.SetLabel k v))) key refl refl refl
edit_key key (edits.SetAnnotation k v) = key_back (asked (asks.Edit key (edits.SetAnnotation k v))) key refl refl refl
edit_key key (edits.SetVolumeName s) = key_back (asked (asks.Edit key (edits.SetVolumeName s))) key refl refl refl
edit_key key (edits.SetPolicy policy) = key_back (asked (asks.Edit key (edits.SetPolicy policy))) key refl refl refl
edit_key key (edits.SetClaimRef namespace name) = key_back (asked (asks.Edit key (edits.SetClaimRef namespace name))) key refl refl refl
edit_key key edits.ClearClaimRef = key_back (asked (asks.Edit key edits.ClearClaimRef)) key refl refl refl

edit_asked : (key : Key) (edit : Edit) → request_at (asked (asks.Edit key edit)) ≡ edit_request_at (asked (asks.Edit key edit))
edit_asked key (edits.AddFinalizer s) = refl
edit_asked key (edits.DropFinalizer s) = refl
edit_asked key (edits.DropLabel s) = refl
edit_asked key (edits.DropAnnotation s) = refl
edit_asked key (edits.SetLabel k v) = refl
edit_asked key (edits.SetAnnotation k v) = refl
edit_asked key (edits.SetVolumeName s) = refl
edit_asked key (edits.SetPolicy policy) = refl
edit_asked key (edits.SetClaimRef namespace name) = refl
edit_asked key edits.ClearClaimRef = refl

-- ---- new statuses

abbrev status_ask : Key → NewStatus → Option ℕ → Look
status_ask key status version = asked (asks.UpdateStatus key status version)

status_back : (key : Key) (status : NewStatus) (version : Option ℕ) → IsStatus status → status_at (status_ask key status version) ≡ Some status
status_back key (statuses.Volume phase) version is = next (λ p. Some (statuses.Volume p)) (volume_phases_inverse.back phase)
status_back key (statuses.Claim phase modes amount) version is =
    rw (claim_phases_inverse.back phase, modes_again modes (codes "modes") (status_ask key (statuses.Claim phase modes amount) version) refl, some_amount_back amount is) refl

status_key : (key : Key) (status : NewStatus) (version : Option ℕ) → key_at (status_ask key status version) ≡ Some key
status_key key (statuses.Volume phase) version = key_back (status_ask key (statuses.Volume phase) version) key refl refl refl
status_key key (statuses.Claim phase modes amount) version = key_back (status_ask key (statuses.Claim phase modes amount) version) key refl refl refl

status_version : (key : Key) (status : NewStatus) (version : Option ℕ) → some_number_at (codes "version") (status_ask key status version) ≡ Some version
status_version key (statuses.Volume phase) version = some_number_back version
status_version key (statuses.Claim phase modes amount) version = some_number_back version

status_asked : (key : Key) (status : NewStatus) (version : Option ℕ) → request_at (status_ask key status version) ≡ update_status_at (status_ask key status version)
status_asked key (statuses.Volume phase) version = refl
status_asked key (statuses.Claim phase modes amount) version = refl

-- ---- requests

request_found : (r : Request) → IsRequest r → request_at (asked r) ≡ Some r
request_found (asks.Create o) is = next (λ x. Some (asks.Create x)) (object_again o is)
request_found (asks.Update o version) is = rw (object_again o is.0, some_number_back version) refl
request_found (asks.UpdateStatus key status version) is =
    let m : Look = status_ask key status version in
    status_asked key status version
    ∙ next (λ k. status_at m >>= λ x. some_number_at (codes "version") m >>= λ v. Some (asks.UpdateStatus k x v)) (status_key key status version)
    ∙ next (λ x. some_number_at (codes "version") m >>= λ v. Some (asks.UpdateStatus key x v)) (status_back key status version is.0)
    ∙ next (λ v. Some (asks.UpdateStatus key status v)) (status_version key status version)
request_found (asks.Edit key edit) is =
    edit_asked key edit
    ∙ next (λ k. edit_at (asked (asks.Edit key edit)) >>= λ x. Some (asks.Edit k x)) (edit_key key edit)
    ∙ next (λ x. Some (asks.Edit key x)) (edit_back key edit)
request_found (asks.Delete key uid) is = rw (key_back (asked (asks.Delete key uid)) key refl refl refl, some_uid_back uid is) refl
request_found (asks.Get key) is = rw (key_back (asked (asks.Get key)) key refl refl refl) refl
request_found (asks.List kind namespace) is = rw (kinds_inverse.back kind, some_text_back namespace) refl
request_found (asks.Watch kind from) is = rw (kinds_inverse.back kind) refl
request_found (asks.BindPod key uid node) is = rw (key_back (asked (asks.BindPod key uid node)) key refl refl refl, uid_back uid is) refl
request_found (asks.FinishPod key uid node epoch) is = rw (key_back (asked (asks.FinishPod key uid node epoch)) key refl refl refl, uid_back uid is.0) refl
request_found (asks.Provision name provisioner bytes labels) is = rw (some_labels_back labels is.1) refl
request_found (asks.Erase id) is = refl
request_found (asks.TakeNode node) is = refl
request_found (asks.Mounts node epoch) is = refl
request_found (asks.Mount node epoch pod claims) is = rw (uid_back pod is.1, list_back uid_in uid_data IsUid uid_back claims is.2) refl
request_found (asks.Unmount node epoch pod) is = rw (uid_back pod is.1) refl
request_found (asks.SetTime moment) is = refl

pub request_back : (r : Request) → IsRequest r → request_in (request_data r) ≡ Some r
unfolding request_in request_data
request_back r is = ap request_at (looked (ask_pairs r)) ∙ request_found r is
