-- What is printed of an edit is read again.
use Rattle.std.proofs.Common.{◌≡◌, ℕ, List, [], ◌∷◌, ◌++◌, Bool, true, false, is_some, if◌then◌else◌, Option, Some, None, Ok, codes, refl, ap, ◌∙◌}
use Rattle.std.specs.Prelude.{filter}
use Rattle.serde_json.specs.Data.{Data, boolean, string}
use Rattle.serde_json.specs.Find.{get}
use Rattle.json_text.specs.Build.{pick}
use Rattle.json_text.specs.Members.{MemberList, text, object_of}
use Rattle.json_text.proofs.Good.{good_string, no_float_good, good_object_of}
use Rattle.kube_parts.specs.Words.{policy_word}
use Rattle.kube_parts.proofs.NamedWords.{policies_inverse}
use Rattle.kube_objects.specs.declared.key.Key.{Key}
use Rattle.call_types.specs.declared.edit.Edit.{Edit}
use Rattle.call_types.specs.declared.edit.Edit.TheVariants as edits
use Rattle.object_text.specs.declared.errors.Member.TheVariants as manifests
use Rattle.history_text.specs.Requests.{two_texts, label_data, claim_name_data, edit_pairs}
use Rattle.script_lines.specs.declared.line_member.LineMember.{LineMember}
use Rattle.script_lines.specs.declared.line_member.LineMember.TheVariants as members
use Rattle.script_lines.specs.declared.edit_members.EditMember.{EditMember}
use Rattle.script_lines.specs.declared.edit_members.EditMember.TheVariants.{
  AddFinalizer,
  DropFinalizer,
  DropLabel,
  DropAnnotation,
  SetLabel,
  SetAnnotation,
  SetVolumeName,
  SetPolicy,
  SetClaimRef,
  ClearClaimRef,
}
use Rattle.script_lines.specs.MemberWords.{line_word}
use Rattle.script_lines.specs.Answers.{◌>>=◌}
use Rattle.script_lines.specs.Members.{at, edit_member, all_edits, stands, the_one, edit_member_at, two_texts_in, policy_from, edit_of, edit_from, edit_at}
use Rattle.script_print.specs.Printing.{line_key_pairs, user_pairs}
use Rattle.script_laws.proofs.Read.MembersBack.{has, text_back}

-- ---- two texts of an object

label_back : (m : LineMember) (key value : List ℕ) → two_texts_in m (members.Of manifests.Key) members.Value (label_data key value) ≡ Ok (key, value)
unfolding two_texts_in
label_back m key value =
    let ps : MemberList = two_texts (codes "key") key (codes "value") value in
    let good = good_object_of 1 ps (good_string, (good_string, tt)) in
    rw (text_back (members.Of manifests.Key) (object_of ps) key (has (codes "key") ps), text_back members.Value (object_of ps) value (has (codes "value") ps), no_float_good good) refl

claim_back : (m : LineMember) (namespace name : List ℕ) → two_texts_in m (members.Of manifests.Namespace) (members.Of manifests.Name) (claim_name_data namespace name) ≡ Ok (namespace, name)
unfolding two_texts_in
claim_back m namespace name =
    let ps : MemberList = two_texts (codes "name") name (codes "namespace") namespace in
    let good = good_object_of 1 ps (good_string, (good_string, tt)) in
    rw (
      text_back (members.Of manifests.Namespace) (object_of ps) namespace (has (codes "namespace") ps),
      text_back (members.Of manifests.Name) (object_of ps) name (has (codes "name") ps),
      no_float_good good,
    ) refl

-- ---- the one edit member

stands_in : (ps : MemberList) (e : EditMember) → stands (object_of ps) e ≡ is_some (pick (line_word (edit_member e)) ps None)
stands_in ps e = ap is_some (has (line_word (edit_member e)) ps)

filter_same : (f g : EditMember → Bool) (es : List EditMember) → ((e : EditMember) → f e ≡ g e) → filter f es ≡ filter g es
filter_same f g [] h = refl
filter_same f g (e ∷ es) h = by (f e) (g e) (h e) (filter_same f g es h)
  where
    by : (b c : Bool) → b ≡ c → filter f es ≡ filter g es → (if b then e ∷ filter f es else filter f es) ≡ (if c then e ∷ filter g es else filter g es)
    by true true is rest = ap (λ l. e ∷ l) rest
    by true false is rest = absurd (cc)
    by false true is rest = absurd (cc)
    by false false is rest = rest

abbrev shown : MemberList → EditMember → Bool
shown ps e = is_some (pick (line_word (edit_member e)) ps None)

at_back : (ps : MemberList) (e : EditMember) (d : Data) (edit : Edit) → the_one (filter (shown ps) all_edits) ≡ Ok e
    → pick (line_word (edit_member e)) ps None ≡ Some d → edit_of e d ≡ Ok edit → edit_at (object_of ps) ≡ Ok edit
unfolding edit_at
at_back ps e d edit one there is =
    let found : edit_member_at (object_of ps) ≡ Ok e = ap the_one (filter_same (stands (object_of ps)) (shown ps) all_edits (stands_in ps)) ∙ one in
    ap (λ r. r >>= λ f. edit_from f (at (edit_member f) (object_of ps))) found ∙ ap (edit_from e) (has (line_word (edit_member e)) ps ∙ there) ∙ is

abbrev pub edit_line_pairs : Key → Edit → ℕ → MemberList
edit_line_pairs key edit user = (codes "do", text (codes "edit")) ∷ ((line_key_pairs key ++ edit_pairs edit) ++ user_pairs user)

pub edit_back : (key : Key) (edit : Edit) (user : ℕ) → edit_at (object_of (edit_line_pairs key edit user)) ≡ Ok edit
edit_back key (edits.AddFinalizer s) user = at_back (edit_line_pairs key (edits.AddFinalizer s) user) AddFinalizer (string s) (edits.AddFinalizer s) refl refl refl
edit_back key (edits.DropFinalizer s) user = at_back (edit_line_pairs key (edits.DropFinalizer s) user) DropFinalizer (string s) (edits.DropFinalizer s) refl refl refl
edit_back key (edits.DropLabel s) user = at_back (edit_line_pairs key (edits.DropLabel s) user) DropLabel (string s) (edits.DropLabel s) refl refl refl
edit_back key (edits.DropAnnotation s) user = at_back (edit_line_pairs key (edits.DropAnnotation s) user) DropAnnotation (string s) (edits.DropAnnotation s) refl refl refl
edit_back key (edits.SetLabel k v) user =
    at_back (edit_line_pairs key (edits.SetLabel k v) user) SetLabel (label_data k v) (edits.SetLabel k v) refl refl
    (ap (λ r. r >>= λ p. Ok (edits.SetLabel p.0 p.1)) (label_back members.SetLabel k v))
edit_back key (edits.SetAnnotation k v) user =
    at_back (edit_line_pairs key (edits.SetAnnotation k v) user) SetAnnotation (label_data k v) (edits.SetAnnotation k v) refl refl
    (ap (λ r. r >>= λ p. Ok (edits.SetAnnotation p.0 p.1)) (label_back members.SetAnnotation k v))
edit_back key (edits.SetVolumeName s) user = at_back (edit_line_pairs key (edits.SetVolumeName s) user) SetVolumeName (string s) (edits.SetVolumeName s) refl refl refl
edit_back key (edits.SetPolicy p) user =
    at_back (edit_line_pairs key (edits.SetPolicy p) user) SetPolicy (string (policy_word p)) (edits.SetPolicy p) refl refl (ap policy_from (policies_inverse.back p))
edit_back key (edits.SetClaimRef namespace name) user =
    at_back (edit_line_pairs key (edits.SetClaimRef namespace name) user) SetClaimRef (claim_name_data namespace name)
    (edits.SetClaimRef namespace name) refl refl (ap (λ r. r >>= λ p. Ok (edits.SetClaimRef p.0 p.1)) (claim_back members.SetClaimRef namespace name))
edit_back key edits.ClearClaimRef user = at_back (edit_line_pairs key edits.ClearClaimRef user) ClearClaimRef (boolean true) edits.ClearClaimRef refl refl refl

-- ---- the other members of the line

pick_append : (k : List ℕ) (ps qs : MemberList) (o : Option Data) → pick k (ps ++ qs) o ≡ pick k qs (pick k ps o)
pick_append k [] qs o = refl
pick_append k (p ∷ ps) qs o = pick_append k ps qs _

-- no edit is a member of this name
abbrev pub IsNoEdit : List ℕ → Edit → Type 0
IsNoEdit k edit = (o : Option Data) → pick k (edit_pairs edit) o ≡ o

pub record NoEdits (edit : Edit) : Type 0 where
  pub verb : IsNoEdit (codes "do") edit
  pub kind : IsNoEdit (codes "kind") edit
  pub name : IsNoEdit (codes "name") edit
  pub namespace : IsNoEdit (codes "namespace") edit
  pub user : IsNoEdit (codes "user") edit

pub no_edits : (edit : Edit) → NoEdits edit
no_edits (edits.AddFinalizer s) = record { verb = λ o. refl; kind = λ o. refl; name = λ o. refl; namespace = λ o. refl; user = λ o. refl }
no_edits (edits.DropFinalizer s) = record { verb = λ o. refl; kind = λ o. refl; name = λ o. refl; namespace = λ o. refl; user = λ o. refl }
no_edits (edits.DropLabel s) = record { verb = λ o. refl; kind = λ o. refl; name = λ o. refl; namespace = λ o. refl; user = λ o. refl }
no_edits (edits.DropAnnotation s) = record { verb = λ o. refl; kind = λ o. refl; name = λ o. refl; namespace = λ o. refl; user = λ o. refl }
no_edits (edits.SetLabel k v) = record { verb = λ o. refl; kind = λ o. refl; name = λ o. refl; namespace = λ o. refl; user = λ o. refl }
no_edits (edits.SetAnnotation k v) = record { verb = λ o. refl; kind = λ o. refl; name = λ o. refl; namespace = λ o. refl; user = λ o. refl }
no_edits (edits.SetVolumeName s) = record { verb = λ o. refl; kind = λ o. refl; name = λ o. refl; namespace = λ o. refl; user = λ o. refl }
no_edits (edits.SetPolicy p) = record { verb = λ o. refl; kind = λ o. refl; name = λ o. refl; namespace = λ o. refl; user = λ o. refl }
no_edits (edits.SetClaimRef a b) = record { verb = λ o. refl; kind = λ o. refl; name = λ o. refl; namespace = λ o. refl; user = λ o. refl }
no_edits edits.ClearClaimRef = record { verb = λ o. refl; kind = λ o. refl; name = λ o. refl; namespace = λ o. refl; user = λ o. refl }

abbrev pub other_pairs : Key → ℕ → MemberList
other_pairs key user = (codes "do", text (codes "edit")) ∷ (line_key_pairs key ++ user_pairs user)

pick_other : (k : List ℕ) (key : Key) (edit : Edit) (user : ℕ) → IsNoEdit k edit → pick k (edit_line_pairs key edit user) None ≡ pick k (other_pairs key user) None
pick_other k key edit user none = pick_append k (edit_pairs edit) (user_pairs user) _ ∙ ap (pick k (user_pairs user)) (none _)

pub edit_has : (k : List ℕ) (key : Key) (edit : Edit) (user : ℕ) → IsNoEdit k edit → get k (object_of (edit_line_pairs key edit user)) ≡ pick k (other_pairs key user) None
edit_has k key edit user none = has k (edit_line_pairs key edit user) ∙ pick_other k key edit user none
