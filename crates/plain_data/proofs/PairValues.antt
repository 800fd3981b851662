-- The value that was put is the value there.
use Rattle.std.proofs.Common.{◌≡◌, ℕ, List, Some, refl}
use Rattle.std.proofs.lemmas.Cmp.{nat_list_cmp_total}
use Rattle.plain_data.specs.Pairs.{Pair, pair_key, put_pair, value_at}
use Rattle.plain_data.proofs.RowLookups.{find-put}

pub value_put : (key value : List ℕ) (pairs : List Pair) → value_at key (put_pair key value pairs) ≡ Some value
value_put key value pairs = rw (find-put nat_list_cmp_total pair_key (key, value) pairs) refl
