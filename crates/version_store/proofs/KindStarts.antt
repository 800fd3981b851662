-- The first kind begins at once, and none begins after the last. Each kind begins where it began after an object took the place of the one of its key.
use Rattle.std.proofs.Common.{◌≡◌, ◌<◌, ℕ, zero, suc, List, [], ◌∷◌, length, get_or, set, refl, sym, ap, arith, length-set}
use Rattle.kube_objects.specs.declared.key.Key.{Key}
use Rattle.kube_parts.specs.declared.parts.Kind.{Kind}
use Rattle.kube_parts.specs.declared.parts.Kind.TheVariants as kinds
use Rattle.kube_objects.specs.declared.objects.Object.{Object}
use Rattle.kube_objects.specs.Keys.{IsKindStart, IsRowAt, key_of, kind_index, kind_of}
use Rattle.kube_objects.proofs.KeyOrder.{equal_keys}
use Rattle.version_store.specs.declared.starts.Starts.{Starts}
use Rattle.version_store.specs.Steps.Starts.{AreStarts, BeginsAt}

pub first_start : (rows : List Object) → IsKindStart 0 rows 0
first_start rows = (λ j d ge lt. absurd (omega arith), λ j d ge lt. omega arith)

kind_below : (kind : Kind) → kind_index kind < 5
kind_below kinds.StorageClass = omega arith
kind_below kinds.Node = omega arith
kind_below kinds.PersistentVolume = omega arith
kind_below kinds.PersistentVolumeClaim = omega arith
kind_below kinds.Pod = omega arith

pub last_start : (rows : List Object) → IsKindStart 5 rows (length rows)
last_start rows = (λ j d ge lt. kind_below (kind_of (get_or rows j d)), λ j d ge lt. absurd (omega arith))

-- at each place stands an object of the kind that stood there
same_kinds : (rows : List Object) (o : Object) (at : ℕ) → IsRowAt rows (key_of o) at → (j : ℕ) (d : Object) → kind_of (get_or (set rows at o) j d) ≡ kind_of (get_or rows j d)
same_kinds [] o at stands j d = absurd stands
same_kinds (x ∷ xs) o zero stands zero d = sym (ap (λ (k : Key). k.kind) (equal_keys (key_of x) (key_of o) stands))
same_kinds (x ∷ xs) o zero stands (suc j) d = refl
same_kinds (x ∷ xs) o (suc at) stands zero d = refl
same_kinds (x ∷ xs) o (suc at) stands (suc j) d = same_kinds xs o at stands.1 j d

begins_replaced : (index : ℕ) (rows : List Object) (start : ℕ) (o : Object) (at : ℕ) → IsRowAt rows (key_of o) at → BeginsAt index rows start → BeginsAt index (set rows at o) start
begins_replaced index rows start o at stands b =
    let same : length (set rows at o) ≡ length rows = length-set rows at o in
    record {
      within = rw same b.within;
      begins = (
        λ j d ge lt. rw (same_kinds rows o at stands j d) (b.begins.0 j d ge lt),
        λ j d ge lt. rw (same_kinds rows o at stands j d) (b.begins.1 j d ge (omega (arith, same, lt))),
      );
    }

pub starts_replaced : (rows : List Object) (s : Starts) (o : Object) (at : ℕ) → IsRowAt rows (key_of o) at → AreStarts rows s → AreStarts (set rows at o) s
starts_replaced rows s o at stands are = record {
  nodes = begins_replaced 1 rows s.nodes o at stands are.nodes;
  volumes = begins_replaced 2 rows s.volumes o at stands are.volumes;
  claims = begins_replaced 3 rows s.claims o at stands are.claims;
  pods = begins_replaced 4 rows s.pods o at stands are.pods;
}
