-- What the devices can give on a node: a claim that is to lose its node is not served there, and so the shares of its pod cannot be given.
use Rattle.std.proofs.Common.{◌≡◌, ◌∙◌, ℕ, List, [], ◌∷◌, ◌++◌, Bool, true, false, true≢false, Option, Some, None, refl, sym, ap, if◌then◌else◌}
use Rattle.std.specs.Prelude.{◌&&◌, not, is_none, ⊤}
use Rattle.std.proofs.lemmas.Bool.{and_parts}
use Rattle.plain_data.specs.Pairs.{value_at}
use Rattle.kube_parts.specs.declared.uid.Uid.{Uid}
use Rattle.kube_parts.specs.declared.names.Due.{Due}
use Rattle.kube_parts.specs.declared.names.Due.TheVariants as dues
use Rattle.kube_objects.specs.declared.objects.Class.{Class as ClassData}
use Rattle.kube_objects.specs.declared.objects.Claim.{Claim as ClaimData}
use Rattle.kube_objects.specs.declared.objects.Node.{Node as NodeData}
use Rattle.kube_objects.specs.declared.objects.Object.{Object}
use Rattle.kube_objects.specs.declared.objects.Object.TheVariants.{Class, Node, Volume, Claim, Pod}
use Rattle.kube_objects.specs.Bindings.{class_of_claim, selected_node}
use Rattle.kube_objects.specs.Keys.{key_of, row_at}
use Rattle.volume_index.specs.VolumeIndex.{as_volume}
use Rattle.call_types.specs.declared.setup.Setup.{Setup}
use Rattle.binder_model.specs.Choice.{AreShares, IsProvisioned, Share, TakesVolume}
use Rattle.binder_model.specs.Due.{by_class_due, delayed_due, immediate_due, is_served, is_served_on, on_node_due, provision_due, provision_if_new, shares_are_served}
use Rattle.binder_model.specs.Matching.{has_match}
use Rattle.binder_model.specs.ObjectKeys.{class_key, node_key, volume_key}
use Rattle.binder_model.specs.Provisioning.{data_name, is_wanting, provisions}
use Rattle.binder_model.specs.World.{World}
use Rattle.volume_match.specs.Volumes.{volume_at}
use Rattle.model_laws.proofs.Lists.{none_some}
use Rattle.settle_alike.proofs.Alike.Rows.{plain_node}
use Rattle.delayed_binding.specs.Choices.{binds_of, pair_of}
use Rattle.delayed_binding.proofs.Known.{Each}
use Rattle.settle_alike.specs.Near.Near.{AreNear, rest_of}
use Rattle.settle_alike.proofs.Near.Near.{one_rest, one_rest_claim}
use Rattle.settle_alike.proofs.Near.Serving.{share_rest}
use Rattle.settle_due.proofs.Scheduling.Choosing.{is_empty_list}

-- ---- a claim on a node

abbrev pub IsServedOn : Setup → World → NodeData → ClaimData → Bool → Type 0
IsServedOn setup w n c given = is_served_on setup w n c c.meta.uid (row_at (class_key (class_of_claim c)) w.store.rows) ≡ given

abbrev is_clearing : Option Due → Bool
is_clearing (Some dues.ClearNode) = true
is_clearing x = false

never_clears : (rows : List Object) (uid : Uid) → provision_if_new rows uid ≡ Some dues.ClearNode → ⊥
never_clears rows uid e = by (is_none (row_at (volume_key (data_name uid)) rows)) e
  where
    by : (b : Bool) → (if b then Some dues.Provision else None) ≡ Some dues.ClearNode → ⊥
    by true f = true≢false (sym (ap is_clearing f))
    by false f = none_some f

module _ (setup : Setup) (w : World) (c : ClaimData) (n : NodeData) where
  by_real : (uid : Uid) (x : ClassData) → row_at (node_key n.meta.name) w.store.rows ≡ Some (Node n) → value_at selected_node c.meta.annotations ≡ Some n.meta.name → (real late : Bool)
      → (if not real then None else if late then delayed_due setup w c uid x
      (value_at selected_node c.meta.annotations) else immediate_due setup w c uid x) ≡ Some dues.ClearNode → is_served setup w.devices c uid x (Some n.meta.labels) ≡ false
  by_real uid x there node false late e = none_some e
  by_real uid x there node true true e = by (is_served setup w.devices c uid x (Some n.meta.labels)) (sym (ap (delayed_due setup w c uid x) node ∙ ap (on_node_due setup w c uid x) there) ∙ e)
    where
      by : (served : Bool) → (if served then provision_if_new w.store.rows uid else Some dues.ClearNode) ≡ Some dues.ClearNode → served ≡ false
      by false f = refl
      by true f = absurd (never_clears w.store.rows uid f)
  by_real uid x there node true false e = by (is_served setup w.devices c uid x None) e
    where
      by : (served : Bool) → (if served then provision_if_new w.store.rows uid else None) ≡ Some dues.ClearNode → is_served setup w.devices c uid x (Some n.meta.labels) ≡ false
      by false f = none_some f
      by true f = absurd (never_clears w.store.rows uid f)

  -- one that is to lose the node is not served there
  pub unserved : row_at (node_key n.meta.name) w.store.rows ≡ Some (Node n) → value_at selected_node c.meta.annotations ≡ Some n.meta.name
      → provision_due setup w c ≡ Some dues.ClearNode → IsServedOn setup w n c false
  unserved there node due = by (is_wanting c && not (has_match w.store.rows c)) c.meta.uid (row_at (class_key (class_of_claim c)) w.store.rows) due
    where
      by : (b : Bool) (u : Option Uid) (row : Option Object) → (if b then by_class_due setup w c u row else None) ≡ Some dues.ClearNode → is_served_on setup w n c u row ≡ false
      by false u row e = none_some e
      by true None row e = none_some e
      by true (Some uid) None e = none_some e
      by true (Some uid) (Some (Class x)) e = by_real uid x there node (provisions x) x.delayed e
      by true (Some uid) (Some (Node x)) e = none_some e
      by true (Some uid) (Some (Volume x)) e = none_some e
      by true (Some uid) (Some (Claim x)) e = none_some e
      by true (Some uid) (Some (Pod x)) e = none_some e

-- ---- in worlds that are near

pub served_near : (setup : Setup) (old new : World) (n m : NodeData) (c d : ClaimData) (given : Bool) → AreNear old new → plain_node n ≡ plain_node m
    → rest_of (Claim c) ≡ rest_of (Claim d) → IsServedOn setup old n c given → IsServedOn setup new m d given
served_near setup old new n m c d given near node claim served =
    let world = one_rest old new near in
    let same = one_rest_claim c d claim in
    let moved = ap (λ (x : World × (NodeData × ClaimData)). is_served_on setup x.0 x.1.0 x.1.1 x.1.1.meta.uid
    (row_at (class_key (class_of_claim x.1.1)) x.0.store.rows)) (λ i. (world i, (node i, same i))) in
    sym (share_rest setup new m d IsProvisioned) ∙ (sym moved ∙ (share_rest setup old n c IsProvisioned ∙ served))

-- ---- the shares of a pod

-- each claim is to be provisioned
abbrev pub AreProvisioned : List ClaimData → List Share → Type 0
AreProvisioned [] [] = ⊤
AreProvisioned (c ∷ cs) (IsProvisioned ∷ shares) = AreProvisioned cs shares
AreProvisioned _ _ = ⊥

-- so it is where no volume is taken
pub all_provisioned : (rows : List Object) (n : NodeData) (cs : List ClaimData) (shares : List Share) (taken : List ℕ)
    → AreShares rows n taken cs shares → binds_of rows cs shares ≡ [] → AreProvisioned cs shares
all_provisioned rows n [] [] taken are none = tt
all_provisioned rows n [] (TakesVolume place ∷ shares) taken are none = absurd are
all_provisioned rows n [] (IsProvisioned ∷ shares) taken are none = absurd are
all_provisioned rows n (c ∷ cs) [] taken are none = absurd are
all_provisioned rows n (c ∷ cs) (TakesVolume place ∷ shares) taken are none =
    let pair : pair_of c (volume_at rows place) ≡ (key_of (Claim c), key_of (Volume are.0.volume)) ∷ [] = ap (λ o. pair_of c (as_volume o)) are.0.candidate.there in
    absurd (true≢false (sym (ap is_empty_list none) ∙ ap (λ ps. is_empty_list (ps ++ binds_of rows cs shares)) pair))
all_provisioned rows n (c ∷ cs) (IsProvisioned ∷ shares) taken are none = all_provisioned rows n cs shares taken are.2 none

pub each_served : (setup : Setup) (w : World) (n : NodeData) (cs : List ClaimData) (shares : List Share) → AreProvisioned cs shares
    → shares_are_served setup w n cs shares ≡ true → Each (λ c. IsServedOn setup w n c true) cs
each_served setup w n [] [] are given = tt
each_served setup w n [] (TakesVolume place ∷ shares) are given = absurd are
each_served setup w n [] (IsProvisioned ∷ shares) are given = absurd are
each_served setup w n (c ∷ cs) [] are given = absurd are
each_served setup w n (c ∷ cs) (TakesVolume place ∷ shares) are given = absurd are
each_served setup w n (c ∷ cs) (IsProvisioned ∷ shares) are given =
    let parts = and_parts (is_served_on setup w n c c.meta.uid (row_at (class_key (class_of_claim c)) w.store.rows)) (shares_are_served setup w n cs shares) given in
    (parts.0, each_served setup w n cs shares are parts.1)
