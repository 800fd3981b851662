-- Texts that begin with a canonical value, or with what stands behind an opening bracket, and then have a rest.
-- A choice of this project.
use Rattle.std.specs.Prelude.{◌≡◌, ℕ, List, ◌∷◌, ◌++◌, Bool, true}
use Rattle.std.specs.declared.cmp.Ordering.TheVariants.{Less}
use Rattle.std.specs.Ordering.{nat_cmp}
use Rattle.std.specs.Cmp.Lexicographic.{slice_cmp}
use Rattle.json.specs.Print.{quoted}
use Rattle.serde_json.specs.Data.{Data, Items, Members}
use Rattle.serde_json.specs.Written.{comma_if, compact_text, items_text, members_text}
use Rattle.plain_data.specs.Pairs.{Pair}
use Rattle.json_text.specs.Build.{Good, GoodItems, GoodMembers}
use Rattle.json_text.specs.Canonical.{IsBefore}
use Rattle.json_text.specs.Members.{member_texts}

-- a canonical value that nests at most so deep
pub record ValueThen (n : ℕ) (rest text : List ℕ) : Type 0 where
  pub value : Data
  pub good : Good n value
  pub parts : text ≡ compact_text value ++ rest

-- items up to the closing bracket
pub record ItemsThen (n : ℕ) (later : Bool) (rest text : List ℕ) : Type 0 where
  pub items : Items
  pub good : GoodItems n items
  pub parts : text ≡ items_text later items ++ rest

-- a name that may come next: where one stood before, it comes after that
abbrev pub Rises : Bool → Bool → List ℕ → List ℕ → Type 0
Rises may later last name = may ≡ true → later ≡ true → slice_cmp nat_cmp last name ≡ Less

-- one member, whose name comes after the last one
pub record MemberThen (n : ℕ) (later : Bool) (last name own rest text : List ℕ) : Type 0 where
  pub value : Data
  pub good : Good n value
  pub is_own : own ≡ compact_text value
  pub rises : later ≡ true → slice_cmp nat_cmp last name ≡ Less
  pub parts : text ≡ comma_if later ++ (quoted name ++ 58 ∷ (own ++ rest))

-- members up to the closing bracket, whose names come after the last one
pub record MembersThen (n : ℕ) (later : Bool) (last rest text : List ℕ) : Type 0 where
  pub members : Members
  pub good : GoodMembers n members
  pub rises : later ≡ true → IsBefore last members
  pub parts : text ≡ members_text later members ++ rest

-- the same, with the members as names and texts
pub record RowsThen (n : ℕ) (later : Bool) (last : List ℕ) (rows : List Pair) (rest text : List ℕ) : Type 0 where
  pub taken : MembersThen n later last rest text
  pub are_rows : rows ≡ member_texts taken.members
