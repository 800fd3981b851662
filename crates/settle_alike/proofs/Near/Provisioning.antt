-- What is to be provisioned for a claim does not rest on the nodes of other claims.
use Rattle.std.proofs.Common.{◌≡◌, ◌∙◌, ℕ, List, Bool, true, false, true≢false, Option, Some, None, refl, ap, if◌then◌else◌}
use Rattle.std.specs.Prelude.{◌&&◌, ◌||◌, not, is_none, option_map}
use Rattle.plain_data.specs.Pairs.{value_at}
use Rattle.kube_parts.specs.declared.uid.Uid.{Uid}
use Rattle.kube_parts.specs.declared.names.Due.TheVariants as dues
use Rattle.kube_objects.specs.declared.objects.Class.{Class as ClassData}
use Rattle.kube_objects.specs.declared.objects.Claim.{Claim as ClaimData}
use Rattle.kube_objects.specs.declared.objects.Volume.{Volume as VolumeData}
use Rattle.kube_objects.specs.declared.objects.Object.{Object}
use Rattle.kube_objects.specs.declared.objects.Object.TheVariants.{Class, Node, Volume, Claim, Pod}
use Rattle.kube_objects.specs.Bindings.{class_of_claim, class_of_volume, is_available, is_deleting, is_empty, is_ended, is_protected_volume, selected_node}
use Rattle.kube_objects.specs.Keys.{row_at}
use Rattle.call_types.specs.declared.setup.Setup.{Setup}
use Rattle.binder_model.specs.Due.{by_class_due, delayed_due, immediate_due, is_served, on_node_due, provision_due, provision_if_new}
use Rattle.binder_model.specs.Matching.{binder_takes, covers, eligible, has_match, is_delayed, is_selected, only_own_passes, waits_for_pod}
use Rattle.binder_model.specs.ObjectKeys.{class_key, node_key, volume_key}
use Rattle.binder_model.specs.Provisioning.{data_name, is_wanting, provisions}
use Rattle.binder_model.specs.World.{World}
use Rattle.settle_alike.proofs.Alike.Binding.{eligible_plain, own_plain}
use Rattle.settle_alike.proofs.Alike.Rows.{any_mapped, plain_class, plain_claim, plain_volume}
use Rattle.settle_alike.specs.Near.Near.{rest_of, rests_of}
use Rattle.settle_alike.proofs.Near.Annotations.{class_rest, completed_rest, rest_claim}
use Rattle.settle_alike.proofs.Near.Rows.{delayed_at_rest, for_rest, rest_world, row_rest}
use Rattle.settle_alike.proofs.Near.Serving.{class_row_rest}
use Rattle.std.specs.Bool.{beq}
use Rattle.std.specs.Prelude.{bytes_eq, nat_le}

takes_rest : (rows : List Object) (c : ClaimData) (o : Object) → binder_takes (rests_of rows) (plain_claim c) (rest_of o) ≡ binder_takes rows c o
takes_rest rows c (Class x) = refl
takes_rest rows c (Node x) = refl
takes_rest rows c (Claim x) = refl
takes_rest rows c (Pod x) = refl
takes_rest rows c (Volume v) =
    let fit = eligible_plain v c in
    let own = ap (λ b. only_own_passes b (plain_volume v) (plain_claim c)) (delayed_at_rest rows (class_of_claim c)) ∙ own_plain (waits_for_pod rows c) v c in
    λ i. fit i && own i

match_rest : (rows : List Object) (c : ClaimData) → has_match (rests_of rows) (plain_claim c) ≡ has_match rows c
match_rest rows c = any_mapped rest_of (binder_takes (rests_of rows) (plain_claim c)) (binder_takes rows c) (takes_rest rows c) rows

none_rest : (x : Option Object) → is_none (option_map rest_of x) ≡ is_none x
none_rest None = refl
none_rest (Some o) = refl

new_rest : (rows : List Object) (uid : Uid) → provision_if_new (rests_of rows) uid ≡ provision_if_new rows uid
new_rest rows uid = ap (λ b. if b then Some dues.Provision else None) (ap is_none (row_rest (volume_key (data_name uid)) rows) ∙ none_rest (row_at (volume_key (data_name uid)) rows))

module _ (setup : Setup) (w : World) (c : ClaimData) where
  on_node_rest : (uid : Uid) (x : ClassData) (o : Option Object) → on_node_due setup (rest_world w) (plain_claim c) uid (plain_class x) (option_map rest_of o) ≡ on_node_due setup w c uid x o
  on_node_rest uid x None = refl
  on_node_rest uid x (Some (Class o)) = refl
  on_node_rest uid x (Some (Volume o)) = refl
  on_node_rest uid x (Some (Claim o)) = refl
  on_node_rest uid x (Some (Pod o)) = refl
  on_node_rest uid x (Some (Node n)) = ap (λ d. if is_served setup w.devices c uid x (Some n.meta.labels) then d else Some dues.ClearNode) (new_rest w.store.rows uid)

  delayed_due_rest : (uid : Uid) (x : ClassData) (node : Option (List ℕ)) → delayed_due setup (rest_world w) (plain_claim c) uid (plain_class x) node ≡ delayed_due setup w c uid x node
  delayed_due_rest uid x None = refl
  delayed_due_rest uid x (Some node) = ap (on_node_due setup (rest_world w) (plain_claim c) uid (plain_class x)) (row_rest (node_key node)
      w.store.rows) ∙ on_node_rest uid x (row_at (node_key node) w.store.rows)

  by_class_rest : (u : Option Uid) (o : Option Object) → by_class_due setup (rest_world w) (plain_claim c) u (option_map rest_of o) ≡ by_class_due setup w c u o
  by_class_rest None o = refl
  by_class_rest (Some uid) None = refl
  by_class_rest (Some uid) (Some (Node o)) = refl
  by_class_rest (Some uid) (Some (Volume o)) = refl
  by_class_rest (Some uid) (Some (Claim o)) = refl
  by_class_rest (Some uid) (Some (Pod o)) = refl
  by_class_rest (Some uid) (Some (Class x)) =
      let delayed = delayed_due_rest uid x (value_at selected_node c.meta.annotations) in
      let immediate = ap (λ d. if is_served setup w.devices c uid x None then d else None) (new_rest w.store.rows uid) in
      λ i. if not (provisions x) then None else if x.delayed then delayed i else immediate i

  pub provision_rest : provision_due setup (rest_world w) (plain_claim c) ≡ provision_due setup w c
  provision_rest =
      let found = match_rest w.store.rows c in
      let due = ap (by_class_due setup (rest_world w) (plain_claim c) c.meta.uid) (row_rest (class_key (class_of_claim c)) w.store.rows)
      ∙ by_class_rest c.meta.uid (row_at (class_key (class_of_claim c)) w.store.rows) in
      λ i. if is_wanting c && not (found i) then due i else None

-- ---- a claim whose class does not wait for a pod

eligible_any : (v : VolumeData) (c : ClaimData) → eligible (plain_volume v) (rest_claim c) None ≡ eligible v c None
eligible_any v c =
    let class = class_rest c in
    let own = for_rest v c in
    λ i. not (is_deleting v.meta) && is_protected_volume v && (nat_le c.amount.bytes v.amount.bytes && bytes_eq (class_of_volume v) (class i) && beq v.block c.block && covers c.modes v.modes)
    && is_selected c.selector v.meta.labels && true && ((own i && not (is_ended v.phase)) || (is_available v.phase && is_none v.claim_ref))

own_any : (b : Bool) (v : VolumeData) (c : ClaimData) → only_own_passes b (plain_volume v) (rest_claim c) ≡ only_own_passes b v c
own_any true v c = for_rest v c
own_any false v c = refl

-- whether its class waits
pub late_rest : (rows : List Object) (c : ClaimData) → is_delayed (row_at (class_key (class_of_claim (rest_claim c))) (rests_of rows)) ≡ is_delayed (row_at (class_key (class_of_claim c)) rows)
late_rest rows c = ap (λ name. is_delayed (row_at (class_key name) (rests_of rows))) (class_rest c) ∙ delayed_at_rest rows (class_of_claim c)

taken_any : (rows : List Object) (c : ClaimData) (o : Object) → binder_takes (rests_of rows) (rest_claim c) (rest_of o) ≡ binder_takes rows c o
taken_any rows c (Class x) = refl
taken_any rows c (Node x) = refl
taken_any rows c (Claim x) = refl
taken_any rows c (Pod x) = refl
taken_any rows c (Volume v) =
    let fit = eligible_any v c in
    let own = ap (λ b. only_own_passes b (plain_volume v) (rest_claim c)) (late_rest rows c) ∙ own_any (waits_for_pod rows c) v c in
    λ i. fit i && own i

match_any : (rows : List Object) (c : ClaimData) → has_match (rests_of rows) (rest_claim c) ≡ has_match rows c
match_any rows c = any_mapped rest_of (binder_takes (rests_of rows) (rest_claim c)) (binder_takes rows c) (taken_any rows c) rows

module _ (setup : Setup) (w : World) (c : ClaimData) where
  immediate_class : (u : Option Uid) (o : Option Object) → is_delayed o ≡ false → by_class_due setup (rest_world w) (rest_claim c) u (option_map rest_of o) ≡ by_class_due setup w c u o
  immediate_class None o e = refl
  immediate_class (Some uid) None e = refl
  immediate_class (Some uid) (Some (Node o)) e = refl
  immediate_class (Some uid) (Some (Volume o)) e = refl
  immediate_class (Some uid) (Some (Claim o)) e = refl
  immediate_class (Some uid) (Some (Pod o)) e = refl
  immediate_class (Some uid) (Some (Class x)) e = by x.delayed e
    where
      immediate : immediate_due setup (rest_world w) (rest_claim c) uid (plain_class x) ≡ immediate_due setup w c uid x
      immediate = ap (λ d. if is_served setup w.devices c uid x None then d else None) (new_rest w.store.rows uid)

      by : (late : Bool) → late ≡ false
          → (if not (provisions x) then None else if late then delayed_due setup (rest_world w) (rest_claim c) uid (plain_class x)
          (value_at selected_node (rest_claim c).meta.annotations) else immediate_due setup (rest_world w) (rest_claim c) uid (plain_class x))
          ≡ (if not (provisions x) then None else if late then delayed_due setup w c uid x (value_at selected_node c.meta.annotations) else immediate_due setup w c uid x)
      by true l = absurd (true≢false l)
      by false l = ap (λ d. if not (provisions x) then None else d) immediate

  pub immediate_rest : is_delayed (row_at (class_key (class_of_claim c)) w.store.rows) ≡ false → provision_due setup (rest_world w) (rest_claim c) ≡ provision_due setup w c
  immediate_rest at_once =
      let completed = completed_rest c in
      let found = match_any w.store.rows c in
      let due = ap (by_class_due setup (rest_world w) (rest_claim c) c.meta.uid) (class_row_rest w.store.rows c)
      ∙ immediate_class c.meta.uid (row_at (class_key (class_of_claim c)) w.store.rows) at_once in
      λ i. if (not (completed i) && not (is_deleting c.meta) && is_empty c.volume_name && is_none c.selector) && not (found i) then due i else None
