-- Parts of a value with whole numbers alone have whole numbers alone.
use Rattle.std.proofs.Common.{◌≡◌, ℕ, List, false, Option, Some, None}
use Rattle.std.specs.declared.cmp.Ordering.{Ordering}
use Rattle.std.specs.declared.cmp.Ordering.TheVariants.{Less, Equal, Greater}
use Rattle.std.specs.Ordering.{nat_cmp, match_ordering}
use Rattle.std.specs.Cmp.Lexicographic.{slice_cmp}
use Rattle.std.proofs.lemmas.Bool.{or_parts}
use Rattle.serde_json.specs.Data.{Data, null, boolean, number, string, array, object, Members, no_members, member}
use Rattle.serde_json.specs.Find.{get_member, get}
use Rattle.serde_json.specs.Written.{has_float, members_have_float}
use Rattle.object_text.specs.declared.errors.Member.{Member}
use Rattle.object_text.specs.MemberWords.{member_word}
use Rattle.object_text.specs.MemberReaders.{at}
use Rattle.object_text.specs.Steps.Whole.{IsWholePlace}

get_member_whole : (k : List ℕ) (ms : Members) → members_have_float ms ≡ false → IsWholePlace (get_member k ms)
get_member_whole k no_members h = tt
get_member_whole k (member l e ms) h =
    let parts = or_parts (has_float e) (members_have_float ms) h in
    placed (slice_cmp nat_cmp k l) parts.0 (get_member_whole k ms parts.1)
  where
    placed : (o : Ordering) → has_float e ≡ false → IsWholePlace (get_member k ms) → IsWholePlace (match_ordering o (get_member k ms) (Some e) (get_member k ms))
    placed Less he rest = rest
    placed Equal he rest = he
    placed Greater he rest = rest

get_whole : (k : List ℕ) (d : Data) → has_float d ≡ false → IsWholePlace (get k d)
get_whole k null h = tt
get_whole k (boolean b) h = tt
get_whole k (number n) h = tt
get_whole k (string s) h = tt
get_whole k (array ds) h = tt
get_whole k (object ms) h = get_member_whole k ms h

-- a member
pub at_whole : (m : Member) (place : Option Data) → IsWholePlace place → IsWholePlace (at m place)
at_whole m None h = tt
at_whole m (Some d) h = get_whole (member_word m) d h
