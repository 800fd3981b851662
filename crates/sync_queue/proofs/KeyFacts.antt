-- Keys that are the same by their test are equal.
use Rattle.std.proofs.Common.{◌≡◌, true}
use Rattle.kube_objects.specs.declared.key.Key.{Key}
use Rattle.kube_objects.specs.Keys.{same_key}
use Rattle.kube_objects.proofs.SameKeys.{same_key-Decides}

pub key_is : (k q : Key) → same_key k q ≡ true → k ≡ q
key_is k q h = (same_key-Decides k q).0 h
