-- What the readers of members give meets what is asked of lines that a text can give.
use Rattle.std.proofs.Common.{
  ◌≡◌,
  ℕ,
  suc,
  ◌&&◌,
  nat_le,
  List,
  [],
  ◌∷◌,
  Bool,
  true,
  false,
  not,
  if◌then◌else◌,
  Option,
  Some,
  None,
  IfSome,
  Result,
  Ok,
  Err,
  IfOk,
  IsUtf8,
  bytes_eq,
  codes,
  option_map,
  refl,
  sym,
  ap,
  ◌∙◌,
  subst,
  arith,
}
use Rattle.std.proofs.lemmas.Slice.Eq.{bytes_eq-Decides}
use Rattle.std.proofs.lemmas.Map.Text.{is_eq-slice_cmp}
use Rattle.std.specs.Bool.{⊤}
use Rattle.std.specs.Ordering.{is_eq}
use Rattle.std.proofs.lemmas.Bool.{not-false}
use Rattle.serde_json.specs.Data.{unsigned, negative, float, Data, null, boolean, number, string, array, object}
use Rattle.json.proofs.Printed.Utf8.{IsUtf8-are_ascii}
use Rattle.plain_data.specs.Pairs.{Pair, text_cmp, pair_key}
use Rattle.plain_data.specs.Rows.{find}
use Rattle.kube_parts.specs.Uids.{uid_of_text}
use Rattle.kube_parts.proofs.UidFits.{uid_fits}
use Rattle.kube_parts.specs.Named.{value_named}
use Rattle.kube_objects.specs.declared.key.Key.{Key}
use Rattle.kube_parts.specs.declared.uid.Uid.{Uid}
use Rattle.kube_objects.specs.declared.objects.Object.{Object}
use Rattle.object_text.specs.declared.errors.ObjectError.{ObjectError}
use Rattle.object_text.specs.declared.errors.ObjectError.TheVariants.{TooLong}
use Rattle.object_text.specs.declared.errors.Member.TheVariants as manifests
use Rattle.object_text.specs.MemberReaders.{optional_text, text_or, uid_from, uid_named, uid_or_none, uid_at}
use Rattle.object_text.specs.Reading.{object_of}
use Rattle.object_text.specs.Listing.{is_long, item_of}
use Rattle.object_laws.specs.Given.{IsGivenObject, IsNamespace, IsUid}
use Rattle.object_laws.proofs.Gives.{sound_given}
use Rattle.object_laws.proofs.GivesParts.{if_ok, step as object_step, past as object_past}
use Rattle.object_laws.proofs.Utf8Texts.{HasUtf8}
use Rattle.object_laws.proofs.Utf8Objects.{ObjectUtf8}
use Rattle.object_laws.proofs.Utf8Readers.{text_or_read_utf8}
use Rattle.object_laws.proofs.Utf8Kinds.{object_read_utf8}
use Rattle.script_lines.specs.declared.actors.Actor.{Actor}
use Rattle.script_lines.specs.declared.actors.Actor.TheVariants as actors
use Rattle.script_lines.specs.declared.actors.Worker.{Worker}
use Rattle.script_lines.specs.declared.line_member.LineMember.{LineMember}
use Rattle.script_lines.specs.declared.line_member.LineMember.TheVariants as members
use Rattle.script_lines.specs.declared.errors.Reason.TheVariants.{BadValue}
use Rattle.script_lines.specs.Answers.{taken_in_line}
use Rattle.script_lines.specs.Actors.{worker_word, agent_word, actor_word, all_workers, agent_named, worker_or, actor_named}
use Rattle.script_lines.specs.Members.{
  at,
  needed,
  text_of,
  text_at,
  count_of,
  count_at,
  most_call,
  is_given,
  new_call_at,
  user_from,
  user_at,
  kind_at,
  is_namespaced,
  namespace_at,
  condition_at,
  key_at,
  object_taken,
  object_at,
  actor_from,
  actor_at,
}
use Rattle.script_laws.specs.Read.Given.{IsCount, IsNewCall, IsLineObject, IsLineKey, IsActor}
use Rattle.script_laws.proofs.Read.Values.{step, past, unless_gives, WasRead, sound, sound_less, needed_read}
use Rattle.script_laws.proofs.Read.Kept.{KeepsLess, object_keeps}
use Rattle.script_laws.proofs.Read.Shallow.{object_less}

-- ---- texts and numbers

pub text_of_gives : (m : LineMember) (d : Data) → HasUtf8 d → IfOk (text_of m d) IsUtf8
text_of_gives m null h = tt
text_of_gives m (boolean b) h = tt
text_of_gives m (number n) h = tt
text_of_gives m (string s) h = h
text_of_gives m (array ds) h = tt
text_of_gives m (object ms) h = tt

pub text_gives : (n : ℕ) (m : LineMember) (d : Data) → WasRead (suc n) d → IfOk (text_at m d) IsUtf8
text_gives n m d h = step (WasRead n) IsUtf8 (needed m d) _ (needed_read n m d h) (λ e k. text_of_gives m e k.utf8)

count_of_gives : (m : LineMember) (most : ℕ) (d : Data) → IfOk (count_of m most d) (IsCount most)
count_of_gives m most null = tt
count_of_gives m most (boolean b) = tt
count_of_gives m most (number (unsigned n)) = unless_gives (IsCount most) (not (nat_le 1 n && nat_le n most)) (BadValue m) n (not-false (nat_le 1 n && nat_le n most))
count_of_gives m most (number (negative z)) = tt
count_of_gives m most (number (float x)) = tt
count_of_gives m most (string s) = tt
count_of_gives m most (array ds) = tt
count_of_gives m most (object ms) = tt

pub count_gives : (m : LineMember) (most : ℕ) (d : Data) → IfOk (count_at m most d) (IsCount most)
count_gives m most d = past (IsCount most) (needed m d) _ (λ e. count_of_gives m most e)

pub new_call_gives : (m : LineMember) (given : List ℕ) (d : Data) → IfOk (new_call_at m given d) (IsNewCall given)
new_call_gives m given d =
    step (IsCount most_call) (IsNewCall given) (count_at m most_call d) _ (count_gives m most_call d) (λ n is.
    unless_gives (IsNewCall given) (is_given n given) (BadValue m) n (λ e. record { counted = is; fresh = e }))

pub user_gives : (d : Data) → IfOk (user_at d) (IsCount 4)
user_gives d = by (at members.User d)
  where
    by : (o : Option Data) → IfOk (user_from o) (IsCount 4)
    by None = refl
    by (Some e) = count_of_gives members.User 4 e

-- ---- keys

pub taken_gives : {X : Type 0} (P : X → Type 0) (r : Result X ObjectError) → IfOk r P → IfOk (taken_in_line r) P
taken_gives P (Ok x) h = h
taken_gives P (Err e) h = tt

namespace_gives : (namespaced : Bool) (d : Data) → HasUtf8 d → IfOk (namespace_at namespaced d) (λ s. IsNamespace namespaced s × IsUtf8 s)
namespace_gives true d u =
    step IsUtf8 (λ s. IsNamespace true s × IsUtf8 s) (taken_in_line (text_or manifests.Namespace (codes "default") (Some d))) _
    (taken_gives IsUtf8 (text_or manifests.Namespace (codes "default") (Some d))
    (text_or_read_utf8 manifests.Namespace (codes "default") (Some d) (IsUtf8-are_ascii (codes "default") refl) u)) (λ s k. (tt, k))
namespace_gives false d u =
    past (λ s. IsNamespace false s × IsUtf8 s) (taken_in_line (text_or manifests.Namespace (codes "default") (Some d))) _ (λ s. (refl, IsUtf8-are_ascii [] refl))

-- a key of UTF-8, with a namespace where it has one
pub record KeyGiven (k : Key) : Type 0 where
  pub named : IsLineKey k
  pub namespace : IsUtf8 k.namespace
  pub name : IsUtf8 k.name

pub key_gives : (n : ℕ) (d : Data) → WasRead (suc n) d → IfOk (key_at d) KeyGiven
unfolding key_at
key_gives n d h =
    past KeyGiven (kind_at d) _ (λ kind.
    step (λ s. IsNamespace (is_namespaced kind) s × IsUtf8 s) KeyGiven (namespace_at (is_namespaced kind) d) _ (namespace_gives (is_namespaced kind) d h.utf8) (λ namespace is.
    step IsUtf8 KeyGiven (text_at (members.Of manifests.Name) d) _ (text_gives n (members.Of manifests.Name) d h) (λ name u.
    record { named = is.0; namespace = is.1; name = u })))

uid_given : (d : Data) → IfOk (uid_at manifests.Uid (Some d)) (λ u. IfSome u IsUid)
uid_given d = object_past (λ u. IfSome u IsUid) (optional_text manifests.Uid (Some d)) _ or_none
  where
    from : (o : Option Uid) → IfSome o IsUid → IfOk (uid_from manifests.Uid o) IsUid
    from None h = tt
    from (Some u) h = h

    or_none : (o : Option (List ℕ)) → IfOk (uid_or_none manifests.Uid o) (λ u. IfSome u IsUid)
    or_none None = tt
    or_none (Some s) = object_step IsUid (λ u. IfSome u IsUid) (uid_named manifests.Uid s) _ (from (uid_of_text s) (uid_fits s)) (λ u h. h)

pub condition_gives : (d : Data) → IfOk (condition_at d) (λ u. IfSome u IsUid)
condition_gives d = taken_gives (λ u. IfSome u IsUid) (uid_at manifests.Uid (Some d)) (uid_given d)

-- ---- objects

pub record ObjectGiven (o : Object) : Type 0 where
  pub given : IsLineObject o
  pub utf8 : ObjectUtf8 o

all_known : (r : Result Object ObjectError) → IfOk r IsGivenObject → IfOk r KeepsLess → IfOk r ObjectUtf8 → IfOk r ObjectGiven
all_known (Ok o) h k u = let good = object_less o k in record { given = record { given = h; levels = good.shallow }; utf8 = u }
all_known (Err e) h k u = tt

item_gives : (d : Data) → WasRead 126 d → IfOk (item_of d) ObjectGiven
unfolding item_of
item_gives d h =
    if_ok ObjectGiven (is_long d) (Err TooLong) (object_of d) (λ e. tt) (λ e.
    all_known (object_of d) (sound_given d (sound 126 d (omega arith) h)) (object_keeps d (sound_less d h)) (object_read_utf8 d h.utf8))

object_taken_gives : (r : Result Object ObjectError) → IfOk r ObjectGiven → IfOk (object_taken r) ObjectGiven
object_taken_gives (Ok o) h = h
object_taken_gives (Err e) h = tt

pub object_gives : (d : Data) → WasRead 127 d → IfOk (object_at d) ObjectGiven
object_gives d h = step (WasRead 126) ObjectGiven (needed members.Object d) _ (needed_read 126 members.Object d h) (λ e k. object_taken_gives (item_of e) (item_gives e k))

-- ---- actors

-- each agent is named after its node
abbrev pub AreAgents : List Pair → Type 0
AreAgents [] = ⊤
AreAgents (p ∷ ps) = (p.0 ≡ agent_word p.1) × AreAgents ps

worker_named : (ws : List Worker) (s : List ℕ) → IfSome (value_named worker_word ws s) (λ w. worker_word w ≡ s)
worker_named [] s = tt
worker_named (w ∷ ws) s = by (bytes_eq s (worker_word w)) refl (worker_named ws s)
  where
    by : (b : Bool) → bytes_eq s (worker_word w) ≡ b → IfSome (value_named worker_word ws s) (λ v. worker_word v ≡ s)
        → IfSome (if b then Some w else value_named worker_word ws s) (λ v. worker_word v ≡ s)
    by true e rest = sym ((bytes_eq-Decides s (worker_word w)).0 e)
    by false e rest = rest

agent_found : (ps : List Pair) (s : List ℕ) → AreAgents ps → IfSome (agent_named ps s) (λ a. actor_word a ≡ s)
agent_found [] s h = tt
agent_found (p ∷ ps) s h = by (is_eq (text_cmp p.0 s)) (is_eq-slice_cmp p.0 s) (agent_found ps s h.1)
  where
    by : (b : Bool) → b ≡ bytes_eq p.0 s → IfSome (agent_named ps s) (λ a. actor_word a ≡ s)
        → IfSome (option_map (λ node. actors.Agent node) (option_map (λ (q : Pair). q.1) (if b then Some p else find text_cmp pair_key s ps))) (λ a. actor_word a ≡ s)
    by true e rest = sym h.0 ∙ (bytes_eq-Decides p.0 s).0 (sym e)
    by false e rest = rest

word_named : (agents : List Pair) (s : List ℕ) → AreAgents agents → IfSome (actor_named agents s) (λ a. actor_word a ≡ s)
word_named agents s h = by (value_named worker_word all_workers s) (worker_named all_workers s)
  where
    by : (o : Option Worker) → IfSome o (λ w. worker_word w ≡ s) → IfSome (worker_or o (agent_named agents s)) (λ a. actor_word a ≡ s)
    by None k = agent_found agents s h
    by (Some w) k = k

-- an actor that its name names, which is UTF-8
pub record ActorGiven (agents : List Pair) (a : Actor) : Type 0 where
  pub named : IsActor agents a
  pub utf8 : IsUtf8 (actor_word a)

pub actor_gives : (n : ℕ) (agents : List Pair) (d : Data) → AreAgents agents → WasRead (suc n) d → IfOk (actor_at agents d) (ActorGiven agents)
actor_gives n agents d are h = step IsUtf8 (ActorGiven agents) (text_at members.Actor d) _ (text_gives n members.Actor d h) named
  where
    from : (s : List ℕ) (o : Option Actor) → IsUtf8 s → actor_named agents s ≡ o → IfSome o (λ a. actor_word a ≡ s) → IfOk (actor_from o) (ActorGiven agents)
    from s None u e k = tt
    from s (Some a) u e k = record { named = ap (actor_named agents) k ∙ e; utf8 = subst IsUtf8 (sym k) u }

    named : (s : List ℕ) → IsUtf8 s → IfOk (actor_from (actor_named agents s)) (ActorGiven agents)
    named s u = from s (actor_named agents s) u refl (word_named agents s are)
