-- The versions at which keys, and the lists of namespaces, were told, in order. A choice of this project.
use Rattle.std.specs.Prelude.{ℕ, nat_lt, List, Option, Some, None, option_map, if◌then◌else◌}
use Rattle.plain_data.specs.Pairs.{text_cmp}
use Rattle.plain_data.specs.Rows.{IsRising, IsAt, IsGap, put, find}
use Rattle.kube_objects.specs.declared.key.Key.{Key}
use Rattle.kube_objects.specs.Keys.{key_cmp}
use Rattle.informer_cache.specs.declared.marks.Mark.{Mark}
use Rattle.informer_cache.specs.declared.lists.Space.{Space}

-- each key with the version at which it was told, no key twice

-- the key of a mark
abbrev pub mark_key : Mark → Key
mark_key m = m.key

-- the marks stand in the order of their keys, each key once
abbrev pub AreMarks : List Mark → Type 0
AreMarks ms = IsRising key_cmp mark_key ms

-- the mark of a key, if there is one
abbrev pub mark_at : Key → List Mark → Option Mark
mark_at k ms = find key_cmp mark_key k ms

-- the marks with this one in place of that of its key
abbrev pub put_mark : Mark → List Mark → List Mark
put_mark m ms = put key_cmp mark_key m ms

-- the mark of the key stands at this place
abbrev pub IsMarkAt : List Mark → Key → ℕ → Type 0
IsMarkAt ms k i = IsAt key_cmp mark_key k ms i

-- the key has no mark, and its mark would stand at this place
abbrev pub IsMarkGap : List Mark → Key → ℕ → Type 0
IsMarkGap ms k i = IsGap key_cmp mark_key k ms i

-- each namespace with the version of its newest list, none twice

-- the namespace of a list
abbrev pub space_name : Space → List ℕ
space_name s = s.namespace

-- the namespaces stand in order, each once
abbrev pub AreSpaces : List Space → Type 0
AreSpaces ss = IsRising text_cmp space_name ss

-- the list of a namespace, if there was one
abbrev pub space_at : List ℕ → List Space → Option Space
space_at n ss = find text_cmp space_name n ss

-- the lists with this one in place of that of its namespace
abbrev pub put_space : Space → List Space → List Space
put_space s ss = put text_cmp space_name s ss

-- the list of the namespace stands at this place
abbrev pub IsSpaceAt : List Space → List ℕ → ℕ → Type 0
IsSpaceAt ss n i = IsAt text_cmp space_name n ss i

-- the namespace was not listed, and its list would stand at this place
abbrev pub IsSpaceGap : List Space → List ℕ → ℕ → Type 0
IsSpaceGap ss n i = IsGap text_cmp space_name n ss i

-- the version of the newest list of a namespace
abbrev pub space_version : List ℕ → List Space → Option ℕ
space_version n ss = option_map (λ s. s.version) (space_at n ss)

-- the greater of two versions that may be absent
abbrev pub greater : Option ℕ → Option ℕ → Option ℕ
greater None b = b
greater (Some a) None = Some a
greater (Some a) (Some b) = if nat_lt a b then Some b else Some a
