-- What the readers of lines give are lines that a text can give, and their JSON is UTF-8.
use Rattle.std.proofs.Common.{
  ℕ,
  ◌<◌,
  ◌≤◌,
  ◌^◌,
  ◌==◌,
  nat_le,
  List,
  [],
  ◌∷◌,
  ◌++◌,
  Bool,
  true,
  false,
  if◌then◌else◌,
  Option,
  Some,
  None,
  IfSome,
  Result,
  Ok,
  IfOk,
  IsUtf8,
  codes,
  decimal,
  option_map,
  refl,
  arith,
}
use Rattle.std.specs.Bool.{⊤}
use Rattle.std.proofs.lemmas.Bool.{and_parts, leb-true}
use Rattle.std.proofs.lemmas.Str.{IsUtf8-from_ascii}
use Rattle.std.proofs.lemmas.Fmt.{IsAscii-decimal}
use Rattle.json.proofs.Printed.Utf8.{IsUtf8-are_ascii}
use Rattle.serde_json.specs.Written.{has_float}
use Rattle.serde_json.specs.Data.{Data, null, boolean, number, string, array, object, Members, no_members}
use Rattle.json_text.specs.Build.{number_data, put_some, put_all}
use Rattle.json_text.specs.Members.{MemberList, text, whole, object_of}
use Rattle.plain_data.specs.Pairs.{Pair}
use Rattle.kube_parts.specs.Named.{policy_named}
use Rattle.kube_parts.specs.Words.{kind_word}
use Rattle.kube_parts.specs.declared.parts.Kind.{Kind}
use Rattle.kube_parts.specs.declared.parts.Kind.TheVariants as kinds
use Rattle.kube_parts.specs.declared.parts.Policy.{Policy}
use Rattle.kube_parts.specs.declared.parts.Policy.TheVariants as policies
use Rattle.kube_objects.specs.declared.key.Key.{Key}
use Rattle.kube_objects.specs.declared.objects.Object.{Object}
use Rattle.call_types.specs.declared.edit.Edit.{Edit}
use Rattle.call_types.specs.declared.edit.Edit.TheVariants as edits
use Rattle.call_types.specs.declared.request.Request.TheVariants as asks
use Rattle.object_print.specs.Metadata.{uid_data}
use Rattle.object_print.specs.Objects.{object_data, object_line}
use Rattle.object_text.specs.declared.errors.Member.TheVariants as manifests
use Rattle.object_text.specs.Reading.{value_of}
use Rattle.object_laws.specs.Given.{IsUid}
use Rattle.object_laws.proofs.GivesParts.{of_ok}
use Rattle.object_laws.proofs.Utf8Texts.{HasUtf8, MembersUtf8}
use Rattle.object_laws.proofs.Utf8Objects.{line_utf8, policy_utf8, put_some_utf8, uid_option_utf8}
use Rattle.object_laws.proofs.Utf8Kinds.{value_read_utf8}
use Rattle.object_laws.proofs.Canonical.{object_good}
use Rattle.json_text.proofs.ReadBack.{read-compact_text}
use Rattle.history_text.specs.Requests.{two_texts, edit_pairs}
use Rattle.script_lines.specs.declared.errors.Reason.{Reason}
use Rattle.script_lines.specs.declared.line_member.LineMember.{LineMember}
use Rattle.script_lines.specs.declared.line_member.LineMember.TheVariants as members
use Rattle.script_lines.specs.declared.errors.Reason.TheVariants.{NotWhole}
use Rattle.script_lines.specs.declared.edit_members.EditMember.{EditMember}
use Rattle.script_lines.specs.declared.edit_members.EditMember.TheVariants.{
  AddFinalizer,
  DropFinalizer,
  DropLabel,
  DropAnnotation,
  SetLabel,
  SetAnnotation,
  SetVolumeName,
  SetPolicy,
  SetClaimRef,
  ClearClaimRef,
}
use Rattle.script_lines.specs.Answers.{◌>>=◌}
use Rattle.script_lines.specs.Actors.{actor_word}
use Rattle.script_lines.specs.Members.{
  at,
  text_of,
  text_at,
  count_at,
  object_value_of,
  is_namespaced,
  most_call,
  most_turn,
  new_call_at,
  user_at,
  kind_at,
  key_at,
  condition_at,
  object_at,
  actor_at,
  when_at,
  edit_member,
  edit_member_at,
  two_texts_in,
  policy_from,
  cleared,
  edit_of,
  edit_from,
  edit_at,
}
use Rattle.script_text.specs.LineReaders.{condition_of, create_line, update_line, edit_line, delete_line, get_line, list_line, time_line, lose_line, restart_line, turn_line}
use Rattle.script_text.specs.Said.{losses_of, restarts_of}
use Rattle.script_text.specs.declared.script.Line.{Line}
use Rattle.script_text.specs.declared.script.Line.TheVariants.{Call, Lose, Restart, Turn, Drain}
use Rattle.script_print.specs.Printing.{user_pairs, line_key_pairs, when_word, line_pairs, line_data}
use Rattle.script_laws.specs.Read.Given.{IsCount, IsNewCall, IsLineAfter}
use Rattle.script_laws.proofs.Read.Values.{step, past, unless_gives, WasRead, at_read}
use Rattle.script_laws.proofs.Read.MembersGive.{
  text_of_gives,
  text_gives,
  count_gives,
  new_call_gives,
  user_gives,
  KeyGiven,
  key_gives,
  condition_gives,
  ObjectGiven,
  object_gives,
  AreAgents,
  ActorGiven,
  actor_gives,
}

-- ---- members that are UTF-8

abbrev pub PairsUtf8 : MemberList → Type 0
PairsUtf8 [] = ⊤
PairsUtf8 (p ∷ ps) = IsUtf8 p.0 × IfSome p.1 HasUtf8 × PairsUtf8 ps

put_all_utf8 : (ps : MemberList) (ms : Members) → PairsUtf8 ps → MembersUtf8 ms → MembersUtf8 (put_all ps ms)
put_all_utf8 [] ms h hm = hm
put_all_utf8 (p ∷ ps) ms h hm = put_all_utf8 ps (put_some p.0 p.1 ms) h.2 (put_some_utf8 p.0 p.1 ms h.0 h.1 hm)

pub object_of_utf8 : (ps : MemberList) → PairsUtf8 ps → HasUtf8 (object_of ps)
object_of_utf8 ps h = put_all_utf8 ps no_members h tt

pub append_utf8 : (ps qs : MemberList) → PairsUtf8 ps → PairsUtf8 qs → PairsUtf8 (ps ++ qs)
append_utf8 [] qs h k = k
append_utf8 (p ∷ ps) qs h k = (h.0, h.1, append_utf8 ps qs h.2 k)

number_utf8 : (n : ℕ) → n < 2 ^ 64 → HasUtf8 (number_data n)
number_utf8 n small = IsUtf8-from_ascii (decimal n) (IsAscii-decimal n small)

pub count_utf8 : (most n : ℕ) → most < 2 ^ 64 → IsCount most n → HasUtf8 (number_data n)
count_utf8 most n small is = let le : n ≤ most = leb-true n most (and_parts (nat_le 1 n) (nat_le n most) is).1 in number_utf8 n (omega arith)

pub user_utf8 : (user : ℕ) → IsCount 4 user → PairsUtf8 (user_pairs user)
user_utf8 user is = (IsUtf8-are_ascii _ refl, by (user == 1), tt)
  where
    by : (b : Bool) → IfSome (if b then None else whole user) HasUtf8
    by true = tt
    by false = count_utf8 4 user (omega arith) is

kind_utf8 : (kind : Kind) → IsUtf8 (kind_word kind)
kind_utf8 kinds.StorageClass = IsUtf8-are_ascii _ refl
kind_utf8 kinds.Node = IsUtf8-are_ascii _ refl
kind_utf8 kinds.PersistentVolume = IsUtf8-are_ascii _ refl
kind_utf8 kinds.PersistentVolumeClaim = IsUtf8-are_ascii _ refl
kind_utf8 kinds.Pod = IsUtf8-are_ascii _ refl

if_text_utf8 : (b : Bool) (s : List ℕ) → IsUtf8 s → IfSome (if b then text s else None) HasUtf8
if_text_utf8 true s h = h
if_text_utf8 false s h = tt

pub key_utf8 : (k : Key) → KeyGiven k → PairsUtf8 (line_key_pairs k)
key_utf8 k h = (IsUtf8-are_ascii _ refl, kind_utf8 k.kind, (IsUtf8-are_ascii _ refl, h.name, (IsUtf8-are_ascii _ refl, if_text_utf8 (is_namespaced k.kind) k.namespace h.namespace, tt)))

-- the texts of an edit
abbrev pub EditUtf8 : Edit → Type 0
EditUtf8 (edits.AddFinalizer s) = IsUtf8 s
EditUtf8 (edits.DropFinalizer s) = IsUtf8 s
EditUtf8 (edits.DropLabel s) = IsUtf8 s
EditUtf8 (edits.DropAnnotation s) = IsUtf8 s
EditUtf8 (edits.SetLabel k v) = IsUtf8 k × IsUtf8 v
EditUtf8 (edits.SetAnnotation k v) = IsUtf8 k × IsUtf8 v
EditUtf8 (edits.SetVolumeName s) = IsUtf8 s
EditUtf8 (edits.SetPolicy p) = ⊤
EditUtf8 (edits.SetClaimRef namespace name) = IsUtf8 namespace × IsUtf8 name
EditUtf8 edits.ClearClaimRef = ⊤

pub edit_utf8 : (edit : Edit) → EditUtf8 edit → PairsUtf8 (edit_pairs edit)
edit_utf8 (edits.AddFinalizer s) h = (IsUtf8-are_ascii _ refl, h, tt)
edit_utf8 (edits.DropFinalizer s) h = (IsUtf8-are_ascii _ refl, h, tt)
edit_utf8 (edits.DropLabel s) h = (IsUtf8-are_ascii _ refl, h, tt)
edit_utf8 (edits.DropAnnotation s) h = (IsUtf8-are_ascii _ refl, h, tt)
edit_utf8 (edits.SetLabel k v) h = (IsUtf8-are_ascii _ refl, object_of_utf8 (two_texts (codes "key") k (codes "value") v) (IsUtf8-are_ascii _ refl, h.0, (IsUtf8-are_ascii _ refl, h.1, tt)), tt)
edit_utf8 (edits.SetAnnotation k v) h = (IsUtf8-are_ascii _ refl, object_of_utf8 (two_texts (codes "key") k (codes "value") v) (IsUtf8-are_ascii _ refl, h.0, (IsUtf8-are_ascii _ refl, h.1, tt)), tt)
edit_utf8 (edits.SetVolumeName s) h = (IsUtf8-are_ascii _ refl, h, tt)
edit_utf8 (edits.SetPolicy p) h = (IsUtf8-are_ascii _ refl, policy_utf8 p, tt)
edit_utf8 (edits.SetClaimRef namespace name) h =
    (IsUtf8-are_ascii _ refl, object_of_utf8 (two_texts (codes "name") name (codes "namespace") namespace) (IsUtf8-are_ascii _ refl, h.1, (IsUtf8-are_ascii _ refl, h.0, tt)), tt)
edit_utf8 edits.ClearClaimRef h = (IsUtf8-are_ascii _ refl, tt, tt)

pub object_utf8 : (o : Object) → ObjectGiven o → HasUtf8 (object_data o)
unfolding object_line
object_utf8 o h =
    let good = object_good o h.given.given in
    of_ok HasUtf8 (value_of (object_line o)) (object_data o) (value_read_utf8 (object_line o))
    (rw (line_utf8 o h.given.given h.utf8, read-compact_text (object_data o) good.canonical good.shallow) refl)

-- ---- edits

object_value_gives : (m : LineMember) (d : Data) → WasRead 126 d → IfOk (object_value_of m d) (WasRead 126)
object_value_gives m null h = tt
object_value_gives m (boolean b) h = tt
object_value_gives m (number n) h = tt
object_value_gives m (string s) h = tt
object_value_gives m (array ds) h = tt
object_value_gives m (object ms) h = h

abbrev BothUtf8 : List ℕ × List ℕ → Type 0
BothUtf8 p = IsUtf8 p.0 × IsUtf8 p.1

two_texts_give : (m one two : LineMember) (d : Data) → WasRead 126 d → IfOk (two_texts_in m one two d) BothUtf8
unfolding two_texts_in
two_texts_give m one two d h =
    step (WasRead 126) BothUtf8 (object_value_of m d) _ (object_value_gives m d h) (λ o k.
    step IsUtf8 BothUtf8 (text_at one o) _ (text_gives 125 one o k) (λ first a.
    step IsUtf8 BothUtf8 (text_at two o) _ (text_gives 125 two o k) (λ second b.
    unless_gives BothUtf8 (has_float o) NotWhole (first, second) (λ e. (a, b)))))

text_edit : (m : LineMember) (made : List ℕ → Edit) (d : Data) → ((s : List ℕ) → IsUtf8 s → EditUtf8 (made s)) → WasRead 126 d → IfOk (text_of m d >>= λ s. Ok (made s)) EditUtf8
text_edit m made d f h = step IsUtf8 EditUtf8 (text_of m d) _ (text_of_gives m d h.utf8) (λ s u. f s u)

policy_edit : (o : Option Policy) → IfOk (policy_from o) EditUtf8
policy_edit None = tt
policy_edit (Some p) = tt

clear_edit : (d : Data) → IfOk (cleared d) EditUtf8
clear_edit null = tt
clear_edit (boolean true) = tt
clear_edit (boolean false) = tt
clear_edit (number n) = tt
clear_edit (string s) = tt
clear_edit (array ds) = tt
clear_edit (object ms) = tt

edit_of_gives : (e : EditMember) (d : Data) → WasRead 126 d → IfOk (edit_of e d) EditUtf8
edit_of_gives AddFinalizer d h = text_edit members.AddFinalizer (λ s. edits.AddFinalizer s) d (λ s u. u) h
edit_of_gives DropFinalizer d h = text_edit members.DropFinalizer (λ s. edits.DropFinalizer s) d (λ s u. u) h
edit_of_gives DropLabel d h = text_edit members.DropLabel (λ s. edits.DropLabel s) d (λ s u. u) h
edit_of_gives DropAnnotation d h = text_edit members.DropAnnotation (λ s. edits.DropAnnotation s) d (λ s u. u) h
edit_of_gives SetLabel d h = step BothUtf8 EditUtf8 (two_texts_in members.SetLabel (members.Of manifests.Key) members.Value d) _ (two_texts_give
    members.SetLabel (members.Of manifests.Key) members.Value d h) (λ p u. u)
edit_of_gives SetAnnotation d h = step BothUtf8 EditUtf8 (two_texts_in members.SetAnnotation (members.Of manifests.Key) members.Value d) _
    (two_texts_give members.SetAnnotation (members.Of manifests.Key) members.Value d h) (λ p u. u)
edit_of_gives SetVolumeName d h = text_edit members.SetVolumeName (λ s. edits.SetVolumeName s) d (λ s u. u) h
edit_of_gives SetPolicy d h = past EditUtf8 (text_of members.SetPolicy d) _ (λ s. policy_edit (policy_named s))
edit_of_gives SetClaimRef d h = step BothUtf8 EditUtf8 (two_texts_in members.SetClaimRef (members.Of manifests.Namespace) (members.Of manifests.Name)
    d) _ (two_texts_give members.SetClaimRef (members.Of manifests.Namespace) (members.Of manifests.Name) d h) (λ p u. u)
edit_of_gives ClearClaimRef d h = clear_edit d

edit_read : (d : Data) → WasRead 127 d → IfOk (edit_at d) EditUtf8
unfolding edit_at
edit_read d h = past EditUtf8 (edit_member_at d) _ (λ e. by e (at (edit_member e) d) (at_read 126 (edit_member e) d h))
  where
    by : (e : EditMember) (o : Option Data) → IfSome o (WasRead 126) → IfOk (edit_from e o) EditUtf8
    by e None k = tt
    by e (Some v) k = edit_of_gives e v k

-- ---- lines

-- a line that a text can give after these lines, and whose JSON is UTF-8
pub record LineGiven (agents : List Pair) (before : List Line) (line : Line) : Type 0 where
  pub given : IsLineAfter agents before line
  pub utf8 : HasUtf8 (line_data line)

abbrev Gives : List Pair → List Line → Result Line Reason → Type 0
Gives agents before r = IfOk r (LineGiven agents before)

object_values : (user : ℕ) (o : Object) → IsCount 4 user → ObjectGiven o → PairsUtf8 ((codes "object", Some (object_data o)) ∷ user_pairs user)
object_values user o u is = (IsUtf8-are_ascii _ refl, object_utf8 o is, user_utf8 user u)

pub create_gives : (agents : List Pair) (before : List Line) (d : Data) → WasRead 127 d → Gives agents before (create_line d)
unfolding create_line line_data
create_gives agents before d h =
    step ObjectGiven (LineGiven agents before) (object_at d) _ (object_gives d h) (λ o is.
    step (IsCount 4) (LineGiven agents before) (user_at d) _ (user_gives d) (λ user u.
    record { given = (u, is.given); utf8 = object_of_utf8 (line_pairs (Call user (asks.Create o))) (IsUtf8-are_ascii _ refl, IsUtf8-are_ascii _ refl, object_values user o u is) }))

pub update_gives : (agents : List Pair) (before : List Line) (d : Data) → WasRead 127 d → Gives agents before (update_line d)
unfolding update_line line_data
update_gives agents before d h =
    step ObjectGiven (LineGiven agents before) (object_at d) _ (object_gives d h) (λ o is.
    step (IsCount 4) (LineGiven agents before) (user_at d) _ (user_gives d) (λ user u.
    record {
      given = (u, (is.given, refl));
      utf8 =
          object_of_utf8 (line_pairs (Call user (asks.Update o (condition_of o)))) (IsUtf8-are_ascii _ refl, IsUtf8-are_ascii _ refl, object_values user o u is);
    }))

pub edit_gives : (agents : List Pair) (before : List Line) (d : Data) → WasRead 127 d → Gives agents before (edit_line d)
unfolding edit_line line_data
edit_gives agents before d h =
    step KeyGiven (LineGiven agents before) (key_at d) _ (key_gives 126 d h) (λ key is.
    step EditUtf8 (LineGiven agents before) (edit_at d) _ (edit_read d h) (λ edit e.
    step (IsCount 4) (LineGiven agents before) (user_at d) _ (user_gives d) (λ user u.
    record {
      given = (u, is.named);
      utf8 = object_of_utf8 (line_pairs (Call user (asks.Edit key edit))) (
        IsUtf8-are_ascii _ refl,
        IsUtf8-are_ascii _
            refl,
        append_utf8 (line_key_pairs key ++ edit_pairs edit) (user_pairs user) (append_utf8 (line_key_pairs key) (edit_pairs edit) (key_utf8 key is) (edit_utf8 edit e)) (user_utf8 user u),
      );
    })))

pub delete_gives : (agents : List Pair) (before : List Line) (d : Data) → WasRead 127 d → Gives agents before (delete_line d)
unfolding delete_line line_data
delete_gives agents before d h =
    step KeyGiven (LineGiven agents before) (key_at d) _ (key_gives 126 d h) (λ key is.
    step (λ o. IfSome o IsUid) (LineGiven agents before) (condition_at d) _ (condition_gives d) (λ uid are.
    step (IsCount 4) (LineGiven agents before) (user_at d) _ (user_gives d) (λ user u.
    record {
      given = (u, (is.named, are));
      utf8 =
          object_of_utf8 (line_pairs (Call user (asks.Delete key uid))) (
            IsUtf8-are_ascii _ refl,
            IsUtf8-are_ascii _ refl,
            append_utf8 (line_key_pairs key ++ (codes "uid", option_map uid_data uid) ∷ []) (user_pairs user)
                (append_utf8 (line_key_pairs key) ((codes "uid", option_map uid_data uid) ∷ []) (key_utf8 key is) (IsUtf8-are_ascii _ refl, uid_option_utf8 uid, tt)) (user_utf8 user u),
          );
    })))

pub get_gives : (agents : List Pair) (before : List Line) (d : Data) → WasRead 127 d → Gives agents before (get_line d)
unfolding get_line line_data
get_gives agents before d h =
    step KeyGiven (LineGiven agents before) (key_at d) _ (key_gives 126 d h) (λ key is.
    step (IsCount 4) (LineGiven agents before) (user_at d) _ (user_gives d) (λ user u.
    record {
      given = (u, is.named);
      utf8 = object_of_utf8 (line_pairs (Call user (asks.Get key))) (
        IsUtf8-are_ascii _ refl,
        IsUtf8-are_ascii _ refl,
        append_utf8 (line_key_pairs key) (user_pairs user) (key_utf8 key is) (user_utf8 user u),
      );
    }))

pub list_gives : (agents : List Pair) (before : List Line) (d : Data) → WasRead 127 d → Gives agents before (list_line d)
unfolding list_line line_data
list_gives agents before d h =
    past (LineGiven agents before) (kind_at d) _ (λ kind.
    step (IsCount 4) (LineGiven agents before) (user_at d) _ (user_gives d) (λ user u.
    record {
      given = (u, refl);
      utf8 = object_of_utf8 (line_pairs (Call user (asks.List kind None))) (
        IsUtf8-are_ascii _ refl,
        IsUtf8-are_ascii _
            refl,
        (IsUtf8-are_ascii _ refl, kind_utf8 kind, (IsUtf8-are_ascii _ refl, tt, user_utf8 user u)),
      );
    }))

pub time_gives : (agents : List Pair) (before : List Line) (d : Data) → WasRead 127 d → Gives agents before (time_line d)
unfolding time_line line_data
time_gives agents before d h =
    step IsUtf8 (LineGiven agents before) (text_at members.At d) _ (text_gives 126 members.At d h) (λ moment m.
    step (IsCount 4) (LineGiven agents before) (user_at d) _ (user_gives d) (λ user u.
    record {
      given = (u, tt);
      utf8 = object_of_utf8 (line_pairs (Call user (asks.SetTime moment))) (
        IsUtf8-are_ascii _ refl,
        IsUtf8-are_ascii _ refl,
        (IsUtf8-are_ascii _ refl, m, user_utf8 user u),
      );
    }))

when_utf8 : (after : Bool) → IsUtf8 (when_word after)
when_utf8 false = IsUtf8-are_ascii _ refl
when_utf8 true = IsUtf8-are_ascii _ refl

pub lose_gives : (agents : List Pair) (before : List Line) (d : Data) → AreAgents agents → WasRead 127 d → Gives agents before (lose_line agents before d)
unfolding lose_line line_data
lose_gives agents before d are h =
    step (ActorGiven agents) (LineGiven agents before) (actor_at agents d) _ (actor_gives 126 agents d are h) (λ actor a.
    step (IsNewCall (losses_of (actor_word actor) before)) (LineGiven agents before)
    (new_call_at members.Call (losses_of (actor_word actor) before) d) _ (new_call_gives members.Call (losses_of (actor_word actor) before) d) (λ call is.
    past (LineGiven agents before) (when_at d) _ (λ after.
    record {
      given = (a.named, is);
      utf8 = object_of_utf8 (line_pairs (Lose actor call after)) (
        IsUtf8-are_ascii _ refl,
        IsUtf8-are_ascii _ refl,
        (IsUtf8-are_ascii _ refl, a.utf8, (IsUtf8-are_ascii _ refl, count_utf8 most_call call (omega arith) is.counted, (IsUtf8-are_ascii _ refl, when_utf8 after, tt))),
      );
    })))

pub restart_gives : (agents : List Pair) (before : List Line) (d : Data) → AreAgents agents → WasRead 127 d → Gives agents before (restart_line agents before d)
unfolding restart_line line_data
restart_gives agents before d are h =
    step (ActorGiven agents) (LineGiven agents before) (actor_at agents d) _ (actor_gives 126 agents d are h) (λ actor a.
    step (IsNewCall (restarts_of (actor_word actor) before)) (LineGiven agents before)
    (new_call_at members.After (restarts_of (actor_word actor) before) d) _ (new_call_gives members.After (restarts_of (actor_word actor) before) d) (λ after is.
    record {
      given = (a.named, is);
      utf8 = object_of_utf8 (line_pairs (Restart actor after)) (
        IsUtf8-are_ascii _ refl,
        IsUtf8-are_ascii _ refl,
        (IsUtf8-are_ascii _ refl, a.utf8, (IsUtf8-are_ascii _ refl, count_utf8 most_call after (omega arith) is.counted, tt)),
      );
    }))

pub turn_gives : (agents : List Pair) (before : List Line) (d : Data) → AreAgents agents → WasRead 127 d → Gives agents before (turn_line agents d)
unfolding turn_line line_data
turn_gives agents before d are h =
    step (ActorGiven agents) (LineGiven agents before) (actor_at agents d) _ (actor_gives 126 agents d are h) (λ actor a.
    step (IsCount most_turn) (LineGiven agents before) (count_at members.Calls most_turn d) _ (count_gives members.Calls most_turn d) (λ calls is.
    record {
      given = (a.named, is);
      utf8 = object_of_utf8 (line_pairs (Turn actor calls)) (
        IsUtf8-are_ascii _ refl,
        IsUtf8-are_ascii _ refl,
        (IsUtf8-are_ascii _ refl, a.utf8, (IsUtf8-are_ascii _ refl, count_utf8 most_turn calls (omega arith) is, tt)),
      );
    }))

pub drain_given : (agents : List Pair) (before : List Line) → LineGiven agents before Drain
unfolding line_data
drain_given agents before = record { given = tt; utf8 = object_of_utf8 (line_pairs Drain) (IsUtf8-are_ascii _ refl, IsUtf8-are_ascii _ refl, tt) }
