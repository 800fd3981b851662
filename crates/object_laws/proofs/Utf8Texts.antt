-- The text of a value is UTF-8 where every text in the value is.
use Rattle.std.proofs.Common.{ℕ, List, [], ◌∷◌, Bool, true, false, IsUtf8, refl}
use Rattle.std.specs.Bool.{⊤}
use Rattle.std.specs.declared.cmp.Ordering.{Ordering}
use Rattle.std.specs.declared.cmp.Ordering.TheVariants.{Less, Equal, Greater}
use Rattle.std.specs.Ordering.{nat_cmp, match_ordering}
use Rattle.std.specs.Cmp.Lexicographic.{slice_cmp}
use Rattle.std.proofs.lemmas.Str.{IsUtf8-append, IsUtf8-nil}
use Rattle.json.specs.Print.{quoted}
use Rattle.json.proofs.Printed.Utf8.{IsUtf8-are_ascii, IsUtf8-quoted, IsUtf8-boolean}
use Rattle.serde_json.specs.Data.{Data, null, boolean, number, string, array, object, Items, no_items, item, Members, no_members, member, put}
use Rattle.serde_json.specs.Written.{compact_text, items_text, members_text, comma_if, number_text}

-- every text in the value is UTF-8, and so is that of every number
abbrev mutual
  pub HasUtf8 : Data → Type 0
  HasUtf8 null = ⊤
  HasUtf8 (boolean b) = ⊤
  HasUtf8 (number n) = IsUtf8 (number_text n)
  HasUtf8 (string s) = IsUtf8 s
  HasUtf8 (array ds) = ItemsUtf8 ds
  HasUtf8 (object ms) = MembersUtf8 ms

  pub ItemsUtf8 : Items → Type 0
  ItemsUtf8 no_items = ⊤
  ItemsUtf8 (item d ds) = HasUtf8 d × ItemsUtf8 ds

  pub MembersUtf8 : Members → Type 0
  MembersUtf8 no_members = ⊤
  MembersUtf8 (member k d ms) = IsUtf8 k × HasUtf8 d × MembersUtf8 ms

comma_utf8 : (b : Bool) → IsUtf8 (comma_if b)
comma_utf8 true = IsUtf8-are_ascii (44 ∷ []) refl
comma_utf8 false = IsUtf8-nil

mutual
  pub text_utf8 : (d : Data) → HasUtf8 d → IsUtf8 (compact_text d)
  text_utf8 null u = IsUtf8-are_ascii _ refl
  text_utf8 (boolean b) u = IsUtf8-boolean b
  text_utf8 (number n) u = u
  text_utf8 (string s) u = IsUtf8-quoted s u
  text_utf8 (array ds) u = IsUtf8-append (91 ∷ []) _ (IsUtf8-are_ascii (91 ∷ []) refl) (items_utf8 false ds u)
  text_utf8 (object ms) u = IsUtf8-append (123 ∷ []) _ (IsUtf8-are_ascii (123 ∷ []) refl) (members_utf8 false ms u)

  items_utf8 : (b : Bool) (ds : Items) → ItemsUtf8 ds → IsUtf8 (items_text b ds)
  items_utf8 b no_items u = IsUtf8-are_ascii (93 ∷ []) refl
  items_utf8 b (item d ds) u = IsUtf8-append (comma_if b) _ (comma_utf8 b) (IsUtf8-append (compact_text d) _ (text_utf8 d u.0) (items_utf8 true ds u.1))

  members_utf8 : (b : Bool) (ms : Members) → MembersUtf8 ms → IsUtf8 (members_text b ms)
  members_utf8 b no_members u = IsUtf8-are_ascii (125 ∷ []) refl
  members_utf8 b (member k d ms) u =
      IsUtf8-append (comma_if b) _ (comma_utf8 b) (IsUtf8-append (quoted k) _ (IsUtf8-quoted k u.0)
      (IsUtf8-append (58 ∷ []) _ (IsUtf8-are_ascii (58 ∷ []) refl) (IsUtf8-append (compact_text d) _ (text_utf8 d u.1) (members_utf8 true ms u.2))))

-- ---- members

pub put_utf8 : (k : List ℕ) (d : Data) (ms : Members) → IsUtf8 k → HasUtf8 d → MembersUtf8 ms → MembersUtf8 (put k d ms)
put_utf8 k d no_members hk hd h = (hk, hd, tt)
put_utf8 k d (member l e ms) hk hd h = placed (slice_cmp nat_cmp k l) (put_utf8 k d ms hk hd h.2)
  where
    placed : (o : Ordering) → MembersUtf8 (put k d ms) → MembersUtf8 (match_ordering o (member k d (member l e ms)) (member l d ms) (member l e (put k d ms)))
    placed Less rest = (hk, hd, h)
    placed Equal rest = (h.0, hd, h.2)
    placed Greater rest = (h.0, h.1, rest)
