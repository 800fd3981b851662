-- The writes of a choice that are there, and that each is an update.
use Rattle.std.proofs.Common.{ℕ, zero, suc, ◌≡◌, ◌+◌, Bool, true, false, List, [], ◌∷◌, ◌++◌, length, map, take, Option, Some, None, refl, sym, ap, subst, arith}
use Rattle.std.specs.Prelude.{slice_get}
use Rattle.std.specs.List.{AllByRecursion}
use Rattle.std.proofs.lemmas.List.{length-append, length-map}
use Rattle.kube_objects.specs.declared.key.Key.{Key}
use Rattle.kube_objects.specs.declared.objects.Claim.{Claim as ClaimData}
use Rattle.kube_objects.specs.declared.objects.Volume.{Volume as VolumeData}
use Rattle.kube_objects.specs.declared.objects.Object.{Object}
use Rattle.kube_objects.specs.Keys.{row_at}
use Rattle.call_types.specs.declared.request.Request.{Request}
use Rattle.call_types.specs.declared.request.Request.TheVariants as requests
use Rattle.binder_model.specs.Choice.{claim_in}
use Rattle.volume_index.specs.VolumeIndex.{as_volume}
use Rattle.model_laws.proofs.Lists.{none_some, one}
use Rattle.delayed_binding.specs.declared.choice.Choice.{Choice}
use Rattle.delayed_binding.specs.declared.choice.Choice.TheVariants.{Assign, Prepare, Wait, NoNode}
use Rattle.delayed_binding.specs.Writes.{bind_write, joined, node_write, prepare_write, reference_write, selecting_write, writes_of}
use Rattle.pod_scheduler.specs.Decisions.{present}
use Rattle.pod_scheduler.specs.Steps.Listed.{listed}

-- one more

present_suc : {X : Type 0} (xs : List (Option X)) (n : ℕ) → present (take (suc n) xs) ≡ present (take n xs) ++ listed (joined (slice_get xs n))
present_suc [] zero = refl
present_suc [] (suc n) = refl
present_suc (None ∷ xs) zero = refl
present_suc (Some x ∷ xs) zero = refl
present_suc (None ∷ xs) (suc n) = present_suc xs n
present_suc (Some x ∷ xs) (suc n) = ap (λ ys. x ∷ ys) (present_suc xs n)

pub present_more : {X : Type 0} (xs : List (Option X)) (n : ℕ) → present (take (n + 1) xs) ≡ present (take n xs) ++ listed (joined (slice_get xs n))
present_more xs n = subst (λ m. present (take m xs) ≡ present (take n xs) ++ listed (joined (slice_get xs n))) (next n) (present_suc xs n)
  where
    next : (k : ℕ) → suc k ≡ k + 1
    next k = omega arith

pub prepare_is : (rows : List Object) (choice : Choice) (n : ℕ) → prepare_write rows choice n ≡ joined (slice_get (writes_of rows choice) n)
unfolding prepare_write
prepare_is rows choice n = refl

pub take_whole : {X : Type 0} (xs : List X) (n : ℕ) → n ≡ length xs → take n xs ≡ xs
take_whole [] zero e = refl
take_whole [] (suc n) e = refl
take_whole (x ∷ xs) zero e = absurd (omega (arith, e))
take_whole (x ∷ xs) (suc n) e = ap (λ ys. x ∷ ys) (take_whole xs n (omega (arith, e)))

-- how many writes prepare a node
pub count_is : (rows : List Object) (node : List ℕ) (bs : List (Key × Key)) (ps : List Key) → length (writes_of rows (Prepare node bs ps)) ≡ length bs + length ps
count_is rows node bs ps =
    let a = length-append (map (bind_write rows) bs) (map (node_write rows node) ps) in
    let b = length-map bs (bind_write rows) in
    let c = length-map ps (node_write rows node) in
    omega (arith, a, b, c)

-- what holds of each write that is there
pub each_present : {X : Type 0} {P : X → Type 0} (xs : List (Option X)) → ((n : ℕ) (x : X) → joined (slice_get xs n) ≡ Some x → P x) → AllByRecursion P (present xs)
each_present [] h = tt
each_present (None ∷ xs) h = each_present xs (λ n x e. h (suc n) x e)
each_present (Some x ∷ xs) h = (h zero x refl, each_present xs (λ n y e. h (suc n) y e))

-- updates

abbrev pub is_update : Request → Bool
is_update (requests.Update new given) = true
is_update request = false

reference_is : (c : Option ClaimData) (v : Option VolumeData) (w : Request) → reference_write c v ≡ Some w → is_update w ≡ true
reference_is (Some c) (Some v) w e = ap is_update (sym (one _ w e))
reference_is (Some c) None w e = none_some e
reference_is None v w e = none_some e

selecting_is : (node : List ℕ) (c : Option ClaimData) (w : Request) → selecting_write node c ≡ Some w → is_update w ≡ true
selecting_is node None w e = none_some e
selecting_is node (Some c) w e = ap is_update (sym (one _ w e))

module _ (rows : List Object) (node : List ℕ) where
  nodes_are : (ps : List Key) (n : ℕ) (w : Request) → joined (slice_get (map (node_write rows node) ps) n) ≡ Some w → is_update w ≡ true
  nodes_are [] n w e = none_some e
  nodes_are (p ∷ ps) zero w e = selecting_is node (claim_in (row_at p rows)) w e
  nodes_are (p ∷ ps) (suc n) w e = nodes_are ps n w e

  both_are : (bs : List (Key × Key)) (ps : List Key) (n : ℕ) (w : Request) → joined (slice_get (map (bind_write rows) bs ++ map (node_write rows node) ps) n) ≡ Some w → is_update w ≡ true
  both_are [] ps n w e = nodes_are ps n w e
  both_are (b ∷ bs) ps zero w e = reference_is (claim_in (row_at b.0 rows)) (as_volume (row_at b.1 rows)) w e
  both_are (b ∷ bs) ps (suc n) w e = both_are bs ps n w e

pub writes_are_updates : (rows : List Object) (choice : Choice) (n : ℕ) (w : Request) → joined (slice_get (writes_of rows choice) n) ≡ Some w → is_update w ≡ true
writes_are_updates rows (Prepare node bs ps) n w e = both_are rows node bs ps n w e
writes_are_updates rows (Assign node) n w e = none_some e
writes_are_updates rows Wait n w e = none_some e
writes_are_updates rows NoNode n w e = none_some e
