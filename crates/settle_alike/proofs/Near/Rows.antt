-- Rows but for versions and the nodes of claims: what is looked up there.
use Rattle.std.proofs.Common.{◌≡◌, ◌∙◌, ℕ, List, [], ◌∷◌, Bool, true, false, Option, Some, None, refl, ap}
use Rattle.std.specs.Prelude.{cond, option_map}
use Rattle.std.specs.Ordering.{is_eq}
use Rattle.kube_objects.specs.declared.key.Key.{Key}
use Rattle.kube_parts.specs.declared.parts.Kind.{Kind}
use Rattle.kube_objects.specs.declared.objects.Claim.{Claim as ClaimData}
use Rattle.kube_objects.specs.declared.objects.Volume.{Volume as VolumeData}
use Rattle.kube_objects.specs.declared.objects.Object.{Object}
use Rattle.kube_objects.specs.declared.objects.Object.TheVariants.{Class, Node, Volume, Claim, Pod}
use Rattle.kube_objects.specs.Bindings.{carries, is_for, refers_for, uid_fits, names_claim}
use Rattle.kube_objects.specs.Keys.{is_of_kind, key_cmp, key_of, row_at, rows_of}
use Rattle.binder_model.specs.Choice.{claim_in, claim_named}
use Rattle.binder_model.specs.Matching.{is_delayed}
use Rattle.binder_model.specs.ObjectKeys.{claim_key, class_key}
use Rattle.binder_model.specs.World.{World}
use Rattle.settle_measure.proofs.Left.Words.{carries_alike}
use Rattle.settle_alike.proofs.Alike.Rows.{filter_mapped, plain_volume}
use Rattle.settle_alike.specs.Near.Near.{rest_of, rests_of}
use Rattle.settle_alike.proofs.Near.Annotations.{rest_claim}
use Rattle.kube_parts.specs.declared.uid.Uid.{Uid}
use Rattle.kube_objects.specs.declared.objects.Ref.{Ref}
use Rattle.std.specs.Prelude.{◌&&◌}

-- the world without versions, the nodes of claims, epochs, the count of device calls, moment and log
abbrev pub rest_world : World → World
rest_world w = record {
  store = record { rows = rests_of w.store.rows; version = 0 };
  moment = [];
  log = [];
  devices = record
      { stored = w.devices.stored; epochs = []; mounts = w.devices.mounts; calls = 0 };
}

key_rest : (o : Object) → key_of (rest_of o) ≡ key_of o
key_rest (Class x) = refl
key_rest (Node x) = refl
key_rest (Volume x) = refl
key_rest (Claim x) = refl
key_rest (Pod x) = refl

pub row_rest : (k : Key) (rows : List Object) → row_at k (rests_of rows) ≡ option_map rest_of (row_at k rows)
row_rest k [] = refl
row_rest k (x ∷ xs) = ap (λ j. cond (is_eq (key_cmp j k)) (Some (rest_of x)) (row_at k (rests_of xs))) (key_rest x) ∙ by (is_eq (key_cmp (key_of x) k)) (row_rest k xs)
  where
    by : (b : Bool) → row_at k (rests_of xs) ≡ option_map rest_of (row_at k xs) → cond b (Some (rest_of x)) (row_at k (rests_of xs)) ≡ option_map rest_of (cond b (Some x) (row_at k xs))
    by true rest = refl
    by false rest = rest

kind_rest : (kind : Kind) (o : Object) → is_of_kind kind (rest_of o) ≡ is_of_kind kind o
kind_rest kind (Class x) = refl
kind_rest kind (Node x) = refl
kind_rest kind (Volume x) = refl
kind_rest kind (Claim x) = refl
kind_rest kind (Pod x) = refl

pub rows_rest : (kind : Kind) (rows : List Object) → rows_of kind (rests_of rows) ≡ rests_of (rows_of kind rows)
rows_rest kind rows = filter_mapped rest_of (is_of_kind kind) (is_of_kind kind) (kind_rest kind) rows

claim_in_rest : (x : Option Object) → claim_in (option_map rest_of x) ≡ option_map rest_claim (claim_in x)
claim_in_rest None = refl
claim_in_rest (Some (Class x)) = refl
claim_in_rest (Some (Node x)) = refl
claim_in_rest (Some (Volume x)) = refl
claim_in_rest (Some (Claim x)) = refl
claim_in_rest (Some (Pod x)) = refl

pub named_rest : (rows : List Object) (namespace name : List ℕ) → claim_named (rests_of rows) namespace name ≡ option_map rest_claim (claim_named rows namespace name)
named_rest rows namespace name = ap claim_in (row_rest (claim_key namespace name) rows) ∙ claim_in_rest (row_at (claim_key namespace name) rows)

delayed_rest : (x : Option Object) → is_delayed (option_map rest_of x) ≡ is_delayed x
delayed_rest None = refl
delayed_rest (Some (Class x)) = refl
delayed_rest (Some (Node x)) = refl
delayed_rest (Some (Volume x)) = refl
delayed_rest (Some (Claim x)) = refl
delayed_rest (Some (Pod x)) = refl

-- whether the class under a key is a delayed one
pub delayed_at_rest : (rows : List Object) (name : List ℕ) → is_delayed (row_at (class_key name) (rests_of rows)) ≡ is_delayed (row_at (class_key name) rows)
delayed_at_rest rows name = ap is_delayed (row_rest (class_key name) rows) ∙ delayed_rest (row_at (class_key name) rows)

-- references see names and UIDs

pub carries_rest : (v : VolumeData) (c : ClaimData) → carries (plain_volume v) (rest_claim c) ≡ carries v c
carries_rest v c = carries_alike v c (rest_claim c) refl refl refl

pub for_rest : (v : VolumeData) (c : ClaimData) → is_for (plain_volume v) (rest_claim c) ≡ is_for v c
for_rest v c = by v.claim_ref
  where
    by_uid : (u : Option Uid) → uid_fits u (rest_claim c) ≡ uid_fits u c
    by_uid None = refl
    by_uid (Some u) = refl

    by : (r : Option Ref) → refers_for r (rest_claim c) ≡ refers_for r c
    by None = refl
    by (Some r) = ap (λ b. names_claim r c && b) (by_uid r.uid)
