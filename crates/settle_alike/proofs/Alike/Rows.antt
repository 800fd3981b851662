-- Rows without their versions: look-ups and tests see the same.
use Rattle.std.proofs.Common.{◌≡◌, ◌∙◌, ℕ, zero, suc, List, [], ◌∷◌, Bool, true, false, Option, Some, None, refl, ap}
use Rattle.std.specs.Prelude.{cond, filter, map, option_map, slice_get}
use Rattle.std.specs.List.{cons_option, filter_map, list_all, list_any}
use Rattle.std.specs.Ordering.{is_eq}
use Rattle.kube_objects.specs.declared.key.Key.{Key}
use Rattle.kube_objects.specs.declared.objects.Class.{Class as ClassData}
use Rattle.kube_objects.specs.declared.objects.Node.{Node as NodeData}
use Rattle.kube_objects.specs.declared.objects.Claim.{Claim as ClaimData}
use Rattle.kube_objects.specs.declared.objects.Volume.{Volume as VolumeData}
use Rattle.kube_objects.specs.declared.objects.Pod.{Pod as PodData}
use Rattle.kube_objects.specs.declared.objects.Object.{Object}
use Rattle.kube_objects.specs.declared.objects.Object.TheVariants.{Class, Node, Volume, Claim, Pod}
use Rattle.kube_objects.specs.Keys.{key_cmp, key_of, row_at}
use Rattle.binder_model.specs.Choice.{claim_in, claim_named}
use Rattle.binder_model.specs.ObjectKeys.{claim_key}
use Rattle.binder_model.specs.World.{World}
use Rattle.settle_writes.specs.Writes.Lasting.{content_of, without_version}
use Rattle.settle_alike.specs.Alike.Alike.{contents_of}

abbrev pub plain_class : ClassData → ClassData
plain_class x = record x { meta = without_version x.meta }

abbrev pub plain_node : NodeData → NodeData
plain_node x = record x { meta = without_version x.meta }

abbrev pub plain_volume : VolumeData → VolumeData
plain_volume x = record x { meta = without_version x.meta }

abbrev pub plain_claim : ClaimData → ClaimData
plain_claim x = record x { meta = without_version x.meta }

abbrev pub plain_pod : PodData → PodData
plain_pod x = record x { meta = without_version x.meta }

-- the world without versions, epochs, the count of device calls, moment and log
abbrev pub plain_world : World → World
plain_world w = record {
  store = record { rows = contents_of w.store.rows; version = 0 };
  moment = [];
  log = [];
  devices = record
      { stored = w.devices.stored; epochs = []; mounts = w.devices.mounts; calls = 0 };
}

-- lists that are mapped

pub any_mapped : {X Y : Type 0} (f : X → Y) (p : Y → Bool) (q : X → Bool) → ((x : X) → p (f x) ≡ q x) → (xs : List X) → list_any p (map f xs) ≡ list_any q xs
any_mapped f p q same [] = refl
any_mapped f p q same (x ∷ xs) = rw (same x, any_mapped f p q same xs) refl

pub all_mapped : {X Y : Type 0} (f : X → Y) (p : Y → Bool) (q : X → Bool) → ((x : X) → p (f x) ≡ q x) → (xs : List X) → list_all p (map f xs) ≡ list_all q xs
all_mapped f p q same [] = refl
all_mapped f p q same (x ∷ xs) = rw (same x, all_mapped f p q same xs) refl

pub filter_mapped : {X Y : Type 0} (f : X → Y) (p : Y → Bool) (q : X → Bool) → ((x : X) → p (f x) ≡ q x) → (xs : List X) → filter p (map f xs) ≡ map f (filter q xs)
filter_mapped f p q same [] = refl
filter_mapped f p q same (x ∷ xs) = rw (same x) (by (q x) (filter_mapped f p q same xs))
  where
    by : (b : Bool) → filter p (map f xs) ≡ map f (filter q xs) → cond b (f x ∷ filter p (map f xs)) (filter p (map f xs)) ≡ map f (cond b (x ∷ filter q xs) (filter q xs))
    by true rest = ap (λ ys. f x ∷ ys) rest
    by false rest = rest

-- the same tests on the same list
pub any_same : {X : Type 0} (p q : X → Bool) → ((x : X) → p x ≡ q x) → (xs : List X) → list_any p xs ≡ list_any q xs
any_same p q same [] = refl
any_same p q same (x ∷ xs) = rw (same x, any_same p q same xs) refl

pub all_same : {X : Type 0} (p q : X → Bool) → ((x : X) → p x ≡ q x) → (xs : List X) → list_all p xs ≡ list_all q xs
all_same p q same [] = refl
all_same p q same (x ∷ xs) = rw (same x, all_same p q same xs) refl

pub chosen_mapped : {X Y Z : Type 0} (f : Y → Z) (h : X → Option Y) (k : X → Option Z) → ((x : X) → k x ≡ option_map f (h x)) → (xs : List X) → filter_map k xs ≡ map f (filter_map h xs)
chosen_mapped f h k same [] = refl
chosen_mapped {Y = Y} f h k same (x ∷ xs) = rw (same x) (by (h x) (chosen_mapped f h k same xs))
  where
    by : (o : Option Y) → filter_map k xs ≡ map f (filter_map h xs) → cons_option (option_map f o) (filter_map k xs) ≡ map f (cons_option o (filter_map h xs))
    by None rest = rest
    by (Some y) rest = ap (λ ys. f y ∷ ys) rest

pub get_mapped : {X Y : Type 0} (f : X → Y) (xs : List X) (i : ℕ) → slice_get (map f xs) i ≡ option_map f (slice_get xs i)
get_mapped f [] i = refl
get_mapped f (x ∷ xs) zero = refl
get_mapped f (x ∷ xs) (suc i) = get_mapped f xs i

-- rows

pub key_plain : (o : Object) → key_of (content_of o) ≡ key_of o
key_plain (Class x) = refl
key_plain (Node x) = refl
key_plain (Volume x) = refl
key_plain (Claim x) = refl
key_plain (Pod x) = refl

pub row_plain : (k : Key) (rows : List Object) → row_at k (contents_of rows) ≡ option_map content_of (row_at k rows)
row_plain k [] = refl
row_plain k (x ∷ xs) = ap (λ j. cond (is_eq (key_cmp j k)) (Some (content_of x)) (row_at k (contents_of xs))) (key_plain x) ∙ by (is_eq (key_cmp (key_of x) k)) (row_plain k xs)
  where
    by : (b : Bool) → row_at k (contents_of xs) ≡ option_map content_of (row_at k xs) → cond b (Some (content_of x)) (row_at k (contents_of xs)) ≡ option_map content_of (cond b (Some x) (row_at k xs))
    by true rest = refl
    by false rest = rest

claim_in_plain : (x : Option Object) → claim_in (option_map content_of x) ≡ option_map plain_claim (claim_in x)
claim_in_plain None = refl
claim_in_plain (Some (Class x)) = refl
claim_in_plain (Some (Node x)) = refl
claim_in_plain (Some (Volume x)) = refl
claim_in_plain (Some (Claim x)) = refl
claim_in_plain (Some (Pod x)) = refl

pub named_plain : (rows : List Object) (namespace name : List ℕ) → claim_named (contents_of rows) namespace name ≡ option_map plain_claim (claim_named rows namespace name)
named_plain rows namespace name = ap claim_in (row_plain (claim_key namespace name) rows) ∙ claim_in_plain (row_at (claim_key namespace name) rows)
