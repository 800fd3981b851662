-- The provisioner's rows, computed.
use Rattle.std.proofs.Common.{arith, sym, refl, ap, subst, inl, inr, true≢false, ◌∙◌}
use Rattle.std.specs.Prelude.{ℕ, ◌^◌, ◌<◌, ◌≡◌, ◌==◌, Bool, true, false, not, List, [], ◌∷◌, Option, Some, None, is_none, is_some, codes, bytes_eq, unwrap_or}
use Rattle.plain_data.specs.Pairs.{Pair, value_at}
use Rattle.kube_parts.specs.declared.parts.Kind.TheVariants as kinds
use Rattle.kube_parts.specs.declared.uid.Uid.{Uid}
use Rattle.kube_objects.specs.declared.objects.DataId.{DataId}
use Rattle.kube_objects.specs.declared.objects.Class.{Class as ClassData}
use Rattle.kube_objects.specs.declared.objects.Claim.{Claim as ClaimData}
use Rattle.kube_objects.specs.declared.objects.Volume.{Volume as VolumeData}
use Rattle.kube_parts.specs.Uids.{uid_text, uid_of_text}
use Rattle.kube_parts.proofs.UidTexts.{reads_back}
use Rattle.kube_objects.specs.declared.objects.Object.TheVariants.{Class, Node, Claim}
use Rattle.kube_parts.specs.Uids.{uid_of_serial}
use Rattle.kube_objects.specs.Bindings.{class_of_claim, is_uid, no_provisioner, is_delete, provisioned_by}
use Rattle.call_types.specs.declared.entry.Entry.{Entry}
use Rattle.call_types.specs.declared.request.SeatKind.TheVariants as seats
use Rattle.binder_model.specs.ObjectKeys.{node_key, class_key, claim_key}
use Rattle.binder_model.specs.At.{HasUid}
use Rattle.binder_model.specs.Provisioning.{data_name, provisioned_volume, is_wanting, provisions, terms_for}
use Rattle.binder_model.specs.Told.{SomeOf, ToldClaim, After, IsNewest}
use Rattle.binder_model.specs.OpsLicence.{AreLabels, MayProvision, MayCreate, TellsData}
use Rattle.model_examples.specs.Samples.{
  Exchange,
  entry_of,
  seat_of,
  unheard,
  lists,
  tells_claim,
  tells_class,
  amount,
  c,
  naming,
  uid_c,
  fast,
  late,
  zone,
  n1,
  chosen_c,
  tells_three,
  no_uid_c,
  selecting_c,
  idle_class,
}
use Rattle.model_examples.specs.OpsRows.{next_c, ProvisionExamples, deleting_c, undone_c, other_class, moved_class, CreateVolumeExamples, id_1, id_2, gives, pool_pair, kept_volume, exhausted}
use Rattle.model_examples.proofs.Tellings.{differ, neither, sole, own_kind, newest_claim, newest_class, newest_node, told_claims, claims_in, classes_in, told_objects, has_version}

abbrev mine : List Exchange → List Entry
mine xs = seat_of seats.Ops xs

abbrev has_zone : Option (List Pair) → Bool
has_zone None = false
has_zone (Some ls) = is_some (value_at (codes "zone") ls)

-- the names of data for two claims
abbrev rest : List ℕ → List ℕ
rest [] = []
rest (x ∷ xs) = xs

nine_fits : (uid_of_serial 9).0 < 2 ^ 128
nine_fits = omega arith

two_fits : uid_c.0 < 2 ^ 128
two_fits = omega arith

pub names_apart : data_name (uid_of_serial 9) ≡ data_name uid_c → ⊥
names_apart e =
    let texts : uid_text (uid_of_serial 9) ≡ uid_text uid_c = ap (λ n. rest (rest (rest (rest n)))) e in
    differ (λ u. is_uid u (uid_of_serial 9)) (sym (reads_back (uid_of_serial 9) nine_fits) ∙ ap uid_of_text texts ∙ reads_back uid_c two_fits) refl refl

-- Provision

-- the row, with the claim and the class that it is by
pub record Asks (told : List Entry) (name provisioner : List ℕ) (bytes : ℕ) (labels : Option (List Pair)) (x : ClaimData) (k : ClassData) : Type 0 where
  pub uid : Uid
  pub known : HasUid uid x
  pub newest : IsNewest told (claim_key x.meta.namespace x.meta.name) (Claim x)
  pub wanting : is_wanting x ≡ true
  pub class_newest : IsNewest told (class_key (class_of_claim x)) (Class k)
  pub by_class : provisioner ≡ k.provisioner
  pub real : provisions k ≡ true
  pub named : name ≡ data_name uid
  pub sized : bytes ≡ x.amount.bytes
  pub placed : AreLabels told x k.delayed labels

asks_with : (told : List Entry) (name provisioner : List ℕ) (bytes : ℕ) (labels : Option (List Pair))
    (row : MayProvision told name provisioner bytes labels) → Asks told name provisioner bytes labels row.claim row.class
asks_with told name provisioner bytes labels row =
    record {
      uid = row.uid;
      known = row.known;
      newest = row.newest;
      wanting = row.wanting;
      class_newest = row.class_newest;
      by_class =
          row.by_class;
      real = row.real;
      named = row.named;
      sized = row.sized;
      placed = row.placed;
    }

-- a claim and a class that were told
asks_of : (told : List Entry) (name provisioner : List ℕ) (bytes : ℕ) (labels : Option (List Pair))
    (row : MayProvision told name provisioner bytes labels) (x : ClaimData) (k : ClassData) → x ≡ row.claim → k ≡ row.class → Asks told name provisioner bytes labels x k
asks_of told name provisioner bytes labels row x k e f =
    subst (λ k. Asks told name provisioner bytes labels x k) (sym f) (subst (λ x. Asks told name provisioner bytes labels x row.class) (sym e) (asks_with told name provisioner bytes labels row))

claims_asked : (xs : List Exchange) (name provisioner : List ℕ) (bytes : ℕ) (labels : Option (List Pair))
    (row : MayProvision (mine xs) name provisioner bytes labels) → SomeOf (λ x. x ≡ row.claim) (claims_in (told_objects (mine xs)))
claims_asked xs name provisioner bytes labels row = newest_claim (mine xs) (claim_key row.claim.meta.namespace row.claim.meta.name) row.claim row.newest

classes_asked : (xs : List Exchange) (name provisioner : List ℕ) (bytes : ℕ) (labels : Option (List Pair))
    (row : MayProvision (mine xs) name provisioner bytes labels) → SomeOf (λ k. k ≡ row.class) (classes_in (told_objects (mine xs)))
classes_asked xs name provisioner bytes labels row = newest_class (mine xs) (class_key (class_of_claim row.claim)) row.class row.class_newest

-- of a claim of 3 gibibytes, where one claim, one class and one node were told
abbrev AsksFor : ClaimData → ClassData → List ℕ → Option (List Pair) → Type 0
AsksFor x k provisioner labels = Asks (mine (tells_three x k n1)) (data_name uid_c) provisioner (amount 3).bytes labels x k

asked : (x : ClaimData) (k : ClassData) (provisioner : List ℕ) (labels : Option (List Pair))
    → MayProvision (mine (tells_three x k n1)) (data_name uid_c) provisioner (amount 3).bytes labels → AsksFor x k provisioner labels
asked x k provisioner labels row =
    asks_of (mine (tells_three x k n1)) (data_name uid_c) provisioner (amount 3).bytes labels row x k
    (sole (claims_asked (tells_three x k n1) (data_name uid_c) provisioner (amount 3).bytes labels row))
    (sole (classes_asked (tells_three x k n1) (data_name uid_c) provisioner (amount 3).bytes labels row))

pub provision_examples : ProvisionExamples
provision_examples = record {
  asks_at_once = (
    own_kind seats.Ops (tells_three c fast n1),
    record { claim = c; uid = uid_c; known = refl; newest = refl; wanting = refl; class = fast; class_newest = refl; by_class = refl; real = refl; named = refl; sized = refl; placed = refl },
  );
  asks_on_chosen_node = (
    own_kind seats.Ops (tells_three chosen_c late n1),
    record {
      claim = chosen_c;
      uid = uid_c;
      known = refl;
      newest = refl;
      wanting = refl;
      class = late;
      class_newest = refl;
      by_class = refl;
      real =
          refl;
      named = refl;
      sized = refl;
      placed = (codes "n1", refl, (n1, (refl, refl)));
    },
  );
  claim_without_uid_is_refused = λ l. differ is_none (asked no_uid_c fast (codes "x/y") None l.1).known refl refl;
  claim_never_told_is_refused = λ l. claims_asked (tells_class fast ∷ []) (data_name uid_c) (codes "x/y") (amount 3).bytes None l.1;
  older_telling_of_the_claim_is_refused = λ l. older_claim l.1;
  claim_told_gone_is_refused = λ l. gone_claim l.1;
  completed_claim_is_refused = λ l. true≢false (sym (asked undone_c fast (codes "x/y") None l.1).wanting);
  deleting_claim_is_refused = λ l. true≢false (sym (asked deleting_c fast (codes "x/y") None l.1).wanting);
  claim_that_names_a_volume_is_refused = λ l. true≢false (sym (asked (naming (codes "a") c) fast (codes "x/y") None l.1).wanting);
  claim_with_selector_is_refused = λ l. true≢false (sym (asked selecting_c fast (codes "x/y") None l.1).wanting);
  class_never_told_is_refused = λ l. classes_asked (tells_claim c ∷ []) (data_name uid_c) (codes "x/y") (amount 3).bytes None l.1;
  class_of_other_name_is_refused = λ l. differ is_none (asked c other_class (codes "x/y") None l.1).class_newest refl refl;
  older_telling_of_the_class_is_refused = λ l. older_class l.1;
  other_provisioner_is_refused = λ l. differ (λ p. bytes_eq p (codes "y/z")) (asked c fast (codes "y/z") None l.1).by_class refl refl;
  class_that_provisions_nothing_is_refused = λ l. true≢false (sym (asked c idle_class no_provisioner None l.1).real);
  name_of_other_claim_is_refused = λ l. other_name l.1;
  other_bytes_is_refused = λ l. other_bytes l.1;
  labels_without_delay_is_refused = λ l. differ is_some (asked chosen_c fast (codes "x/y") (Some zone) l.1).placed refl refl;
  no_labels_under_delay_is_refused = λ l. differ is_none (asked chosen_c late (codes "x/y") None l.1).placed.2.1.1 refl refl;
  other_labels_is_refused = λ l. other_labels (asked chosen_c late (codes "x/y") (Some []) l.1);
  no_node_chosen_is_refused = λ l. differ is_none (asked c late (codes "x/y") (Some zone) l.1).placed.1 refl refl;
  chosen_node_never_told_is_refused = λ l. node_never_told l.1;
  chosen_node_told_gone_is_refused = λ l. node_gone l.1;
}
  where
    older_claim : MayProvision (mine (tells_claim undone_c ∷ tells_three c fast n1)) (data_name uid_c) (codes "x/y") (amount 3).bytes None → ⊥
    older_claim row =
        let k = sole (classes_asked (tells_claim undone_c ∷ tells_three c fast n1) (data_name uid_c) (codes "x/y") (amount 3).bytes None row) in
        neither (λ e. true≢false (sym (asks_of (mine (tells_claim undone_c ∷ tells_three c fast n1)) (data_name uid_c) (codes "x/y") (amount 3).bytes None row undone_c fast e k).wanting))
        (neither (λ e. differ (has_version 6) (asks_of (mine (tells_claim undone_c ∷ tells_three c fast n1)) (data_name uid_c) (codes "x/y")
        (amount 3).bytes None row c fast e k).newest refl refl) (λ h. h))
        (claims_asked (tells_claim undone_c ∷ tells_three c fast n1) (data_name uid_c) (codes "x/y") (amount 3).bytes None row)

    gone_claim : MayProvision (mine (lists kinds.PersistentVolumeClaim [] 9 ∷ tells_three c fast n1)) (data_name uid_c) (codes "x/y") (amount 3).bytes None → ⊥
    gone_claim row = differ is_none (asks_of (mine (lists kinds.PersistentVolumeClaim [] 9 ∷ tells_three c fast n1)) (data_name uid_c) (codes "x/y") (amount 3).bytes None row c fast
        (sole (claims_asked (lists kinds.PersistentVolumeClaim [] 9 ∷ tells_three c fast n1) (data_name uid_c) (codes "x/y") (amount 3).bytes None row))
        (sole (classes_asked (lists kinds.PersistentVolumeClaim [] 9 ∷ tells_three c fast n1) (data_name uid_c) (codes "x/y") (amount 3).bytes None row))).newest refl refl

    older_class : MayProvision (mine (tells_class moved_class ∷ tells_three c fast n1)) (data_name uid_c) (codes "x/y") (amount 3).bytes None → ⊥
    older_class row =
        let x = sole (claims_asked (tells_class moved_class ∷ tells_three c fast n1) (data_name uid_c) (codes "x/y") (amount 3).bytes None row) in
        neither (λ e. differ (λ p. bytes_eq p (codes "x/y"))
        (asks_of (mine (tells_class moved_class ∷ tells_three c fast n1)) (data_name uid_c) (codes "x/y") (amount 3).bytes None row c moved_class x e).by_class refl refl)
        (neither (λ e. differ (has_version 9) (asks_of (mine (tells_class moved_class ∷ tells_three c fast n1)) (data_name uid_c) (codes "x/y")
        (amount 3).bytes None row c fast x e).class_newest refl refl) (λ h. h))
        (classes_asked (tells_class moved_class ∷ tells_three c fast n1) (data_name uid_c) (codes "x/y") (amount 3).bytes None row)

    other_name : MayProvision (mine (tells_three c fast n1)) (data_name (uid_of_serial 9)) (codes "x/y") (amount 3).bytes None → ⊥
    other_name row =
        let r = asks_of (mine (tells_three c fast n1)) (data_name (uid_of_serial 9)) (codes "x/y") (amount 3).bytes None row c fast
        (sole (claims_asked (tells_three c fast n1) (data_name (uid_of_serial 9)) (codes "x/y") (amount 3).bytes None row))
        (sole (classes_asked (tells_three c fast n1) (data_name (uid_of_serial 9)) (codes "x/y") (amount 3).bytes None row)) in
        names_apart (r.named ∙ ap (λ u. data_name (unwrap_or u uid_c)) (sym r.known))

    other_bytes : MayProvision (mine (tells_three c fast n1)) (data_name uid_c) (codes "x/y") (amount 5).bytes None → ⊥
    other_bytes row =
        let r = asks_of (mine (tells_three c fast n1)) (data_name uid_c) (codes "x/y") (amount 5).bytes None row c fast
        (sole (claims_asked (tells_three c fast n1) (data_name uid_c) (codes "x/y") (amount 5).bytes None row))
        (sole (classes_asked (tells_three c fast n1) (data_name uid_c) (codes "x/y") (amount 5).bytes None row)) in
        differ (λ n. n == (amount 5).bytes) r.sized refl refl

    other_labels : AsksFor chosen_c late (codes "x/y") (Some []) → ⊥
    other_labels r =
        let e = sole (newest_node (mine (tells_three chosen_c late n1)) (node_key r.placed.0) r.placed.2.0 r.placed.2.1.0) in
        differ (λ ls. has_zone ls) (sym (r.placed.2.1.1 ∙ ap (λ n. Some n.meta.labels) (sym e))) refl refl

    node_never_told : MayProvision (mine (tells_claim chosen_c ∷ tells_class late ∷ [])) (data_name uid_c) (codes "x/y") (amount 3).bytes (Some zone) → ⊥
    node_never_told row =
        let r = asks_of (mine (tells_claim chosen_c ∷ tells_class late ∷ [])) (data_name uid_c) (codes "x/y") (amount 3).bytes (Some zone) row chosen_c late
        (sole (claims_asked (tells_claim chosen_c ∷ tells_class late ∷ []) (data_name uid_c) (codes "x/y") (amount 3).bytes (Some zone) row))
        (sole (classes_asked (tells_claim chosen_c ∷ tells_class late ∷ []) (data_name uid_c) (codes "x/y") (amount 3).bytes (Some zone) row)) in
        newest_node (mine (tells_claim chosen_c ∷ tells_class late ∷ [])) (node_key r.placed.0) r.placed.2.0 r.placed.2.1.0

    node_gone : MayProvision (mine (lists kinds.Node [] 9 ∷ tells_three chosen_c late n1)) (data_name uid_c) (codes "x/y") (amount 3).bytes (Some zone) → ⊥
    node_gone row =
        let r = asks_of (mine (lists kinds.Node [] 9 ∷ tells_three chosen_c late n1)) (data_name uid_c) (codes "x/y") (amount 3).bytes (Some zone) row chosen_c late
        (sole (claims_asked (lists kinds.Node [] 9 ∷ tells_three chosen_c late n1) (data_name uid_c) (codes "x/y") (amount 3).bytes (Some zone) row))
        (sole (classes_asked (lists kinds.Node [] 9 ∷ tells_three chosen_c late n1) (data_name uid_c) (codes "x/y") (amount 3).bytes (Some zone) row)) in
        differ is_none (subst (λ o. IsNewest (mine (lists kinds.Node [] 9 ∷ tells_three chosen_c late n1)) (node_key (unwrap_or o [])) (Node r.placed.2.0)) (sym r.placed.1) r.placed.2.1.0) refl refl

-- CreateVolume

-- the row, with the claim and the class that it is by
pub record Makes (told : List Entry) (new : VolumeData) (x : ClaimData) (k : ClassData) : Type 0 where
  pub uid : Uid
  pub known : HasUid uid x
  pub newest : IsNewest told (claim_key x.meta.namespace x.meta.name) (Claim x)
  pub class_newest : IsNewest told (class_key (class_of_claim x)) (Class k)
  pub id : DataId
  pub topology : Option (List ℕ × List ℕ)
  pub given : After (ToldClaim (HasUid uid)) (TellsData (data_name uid) id topology) told
  pub object : new ≡ provisioned_volume x uid k id topology

makes_with : (told : List Entry) (new : VolumeData) (row : MayCreate told new) → Makes told new row.claim row.class
makes_with told new row = record {
  uid = row.uid;
  known = row.known;
  newest = row.newest;
  class_newest = row.class_newest;
  id = row.id;
  topology =
      row.topology;
  given = row.given;
  object = row.object;
}

makes_of : (told : List Entry) (new : VolumeData) (row : MayCreate told new) (x : ClaimData) (k : ClassData) → x ≡ row.claim → k ≡ row.class → Makes told new x k
makes_of told new row x k e f = subst (λ k. Makes told new x k) (sym f) (subst (λ x. Makes told new x row.class) (sym e) (makes_with told new row))

claims_made : (xs : List Exchange) (new : VolumeData) (row : MayCreate (mine xs) new) → SomeOf (λ x. x ≡ row.claim) (claims_in (told_objects (mine xs)))
claims_made xs new row = newest_claim (mine xs) (claim_key row.claim.meta.namespace row.claim.meta.name) row.claim row.newest

classes_made : (xs : List Exchange) (new : VolumeData) (row : MayCreate (mine xs) new) → SomeOf (λ k. k ≡ row.class) (classes_in (told_objects (mine xs)))
classes_made xs new row = newest_class (mine xs) (class_key (class_of_claim row.claim)) row.class row.class_newest

abbrev made_by : DataId → Option (List ℕ × List ℕ) → VolumeData
made_by id where_ = provisioned_volume c uid_c fast id where_

-- after one answer, where the claim, the class and the node were told
abbrev after_three : Exchange → List Exchange
after_three x = x ∷ tells_three c fast n1

pub record Given (x : Exchange) (new : VolumeData) : Type 0 where
  pub row : Makes (mine (after_three x)) new c fast
  pub gave : TellsData (data_name row.uid) row.id row.topology (entry_of seats.Ops x)

given_first : (x : Exchange) (new : VolumeData) (row : Makes (mine (after_three x)) new c fast)
    → After (ToldClaim (HasUid row.uid)) (TellsData (data_name row.uid) row.id row.topology) (mine (after_three x)) → Given x new
given_first x new row (inl h) = record { row = row; gave = h.0 }
given_first x new row (inr (inl h)) = absurd h.0.1
given_first x new row (inr (inr (inl h))) = absurd h.0.1
given_first x new row (inr (inr (inr (inl h)))) = absurd h.0.1
given_first x new row (inr (inr (inr (inr h)))) = absurd h

-- where the claim and the class are those told
makes : (xs : List Exchange) (new : VolumeData) (row : MayCreate (mine xs) new) (e : claims_in (told_objects (mine xs)) ≡ c ∷ [])
    (f : classes_in (told_objects (mine xs)) ≡ fast ∷ []) → Makes (mine xs) new c fast
makes xs new row e f = makes_of (mine xs) new row c fast (sole (subst (λ ys. SomeOf (λ x. x ≡ row.claim) ys) e (claims_made xs new row))) (sole
    (subst (λ ys. SomeOf (λ k. k ≡ row.class) ys) f (classes_made xs new row)))

given : (x : Exchange) (new : VolumeData) (row : MayCreate (mine (after_three x)) new) (e : claims_in (told_objects (mine (after_three x))) ≡ c ∷ [])
    (f : classes_in (told_objects (mine (after_three x))) ≡ fast ∷ []) → Given x new
given x new row e f = let r = makes (after_three x) new row e f in given_first x new r r.given

abbrev is_by : List ℕ → VolumeData → Bool
is_by provisioner v = is_text (value_at provisioned_by v.meta.annotations)
  where
    is_text : Option (List ℕ) → Bool
    is_text None = false
    is_text (Some p) = bytes_eq p provisioner

pub create_volume_examples : CreateVolumeExamples
unfolding provisioned_volume
create_volume_examples = record {
  makes_volume = (
    own_kind seats.Ops (after_three (gives uid_c id_1 None)),
    record {
      claim = c;
      uid = uid_c;
      known = refl;
      newest = refl;
      class = fast;
      class_newest = refl;
      id = id_1;
      topology = None;
      given =
          inl ((refl, (refl, refl, refl)), inl (refl, inl refl));
      object = refl;
    },
  );
  makes_volume_of_a_pool_with_label = (
    own_kind seats.Ops (after_three (gives uid_c id_1 pool_pair)),
    record {
      claim = c;
      uid = uid_c;
      known = refl;
      newest = refl;
      class = fast;
      class_newest = refl;
      id = id_1;
      topology = pool_pair;
      given =
          inl ((refl, (refl, refl, refl)), inl (refl, inl refl));
      object = refl;
    },
  );
  data_never_given_is_refused = λ l. never_given (makes (tells_three c fast n1) (made_by id_1 None) l.1 refl refl);
  answer_lost_is_refused = λ l. true≢false (sym (given (unheard (gives uid_c id_1 None)) (made_by id_1 None) l.1 refl refl).gave.0);
  other_answer_is_refused = λ l. (given exhausted (made_by id_1 None) l.1 refl refl).gave.1;
  given_before_told_is_refused = λ l. given_before (makes (tells_claim c ∷ gives uid_c id_1 None ∷ tells_class fast ∷ []) (made_by id_1 None) l.1 refl refl);
  given_for_other_claim_is_refused = λ l. other_claim (given (gives (uid_of_serial 9) id_1 None) (made_by id_1 None) l.1 refl refl);
  other_data_is_refused = λ l. other_data (given (gives uid_c id_1 None) (made_by id_2 None) l.1 refl refl);
  other_topology_is_refused = λ l. other_topology (given (gives uid_c id_1 None) (made_by id_1 pool_pair) l.1 refl refl);
  other_policy_is_refused = λ l. differ (λ v. not (is_delete v.policy)) (given (gives uid_c id_1 None) kept_volume l.1 refl refl).row.object refl refl;
  claim_without_uid_is_refused = λ l. differ is_none (makes_no_uid l.1).known refl refl;
  claim_of_other_uid_now_is_refused = λ l. replaced l.1;
  claim_told_gone_is_refused = λ l. differ is_none (makes (gives uid_c id_1 None ∷ lists kinds.PersistentVolumeClaim [] 9 ∷ tells_three c fast n1) (made_by id_1 None) l.1 refl refl).newest refl refl;
  class_never_told_is_refused = λ l. classes_made (gives uid_c id_1 None ∷ tells_claim c ∷ []) (made_by id_1 None) l.1;
  older_telling_of_the_class_is_refused = λ l. older_class l.1;
}
  where
    never_given : Makes (mine (tells_three c fast n1)) (made_by id_1 None) c fast → ⊥
    never_given r = neither (λ h. h.0.1) (neither (λ h. h.0.1) (neither (λ h. h.0.1) (λ h. h))) r.given

    given_before : Makes (mine (tells_claim c ∷ gives uid_c id_1 None ∷ tells_class fast ∷ [])) (made_by id_1 None) c fast → ⊥
    given_before r = neither (λ h. h.0.1) (neither (λ h. told_claims (HasUid r.uid) (mine (tells_class fast ∷ [])) h.1) (neither (λ h. h.0.1) (λ h. h))) r.given

    other_claim : Given (gives (uid_of_serial 9) id_1 None) (made_by id_1 None) → ⊥
    other_claim g = names_apart (g.gave.1.0 ∙ ap (λ u. data_name (unwrap_or u uid_c)) (sym g.row.known))

    other_data : Given (gives uid_c id_1 None) (made_by id_2 None) → ⊥
    other_data g = differ (λ n. bytes_eq n (codes "data-2")) (ap (λ v. v.source.second) g.row.object ∙ sym (ap (λ i. i.id) g.gave.1.1)) refl refl

    other_topology : Given (gives uid_c id_1 None) (made_by id_1 pool_pair) → ⊥
    other_topology g = differ is_some (ap (λ v. v.terms) g.row.object ∙ sym (ap terms_for g.gave.1.2)) refl refl

    makes_no_uid : MayCreate (mine (gives uid_c id_1 None ∷ tells_three no_uid_c fast n1)) (provisioned_volume no_uid_c uid_c fast id_1 None)
        → Makes (mine (gives uid_c id_1 None ∷ tells_three no_uid_c fast n1)) (provisioned_volume no_uid_c uid_c fast id_1 None) no_uid_c fast
    makes_no_uid row = makes_of (mine (gives uid_c id_1 None ∷ tells_three no_uid_c fast n1)) (provisioned_volume no_uid_c uid_c fast id_1 None) row no_uid_c fast
        (sole (claims_made (gives uid_c id_1 None ∷ tells_three no_uid_c fast n1) (provisioned_volume no_uid_c uid_c fast id_1 None) row))
        (sole (classes_made (gives uid_c id_1 None ∷ tells_three no_uid_c fast n1) (provisioned_volume no_uid_c uid_c fast id_1 None) row))

    replaced : MayCreate (mine (gives uid_c id_1 None ∷ tells_claim next_c ∷ tells_three c fast n1)) (provisioned_volume next_c uid_c fast id_1 None) → ⊥
    replaced row =
        let k = sole (classes_made (gives uid_c id_1 None ∷ tells_claim next_c ∷ tells_three c fast n1) (provisioned_volume next_c uid_c fast id_1 None) row) in
        neither (λ e. other_uid (makes_of (mine (gives uid_c id_1 None ∷ tells_claim next_c ∷ tells_three c fast n1)) (provisioned_volume next_c uid_c fast id_1 None) row next_c fast e k))
        (neither (λ e. differ (has_version 9) (makes_of (mine (gives uid_c id_1 None ∷ tells_claim next_c ∷ tells_three c fast n1))
        (provisioned_volume next_c uid_c fast id_1 None) row c fast e k).newest refl refl) (λ h. h))
        (claims_made (gives uid_c id_1 None ∷ tells_claim next_c ∷ tells_three c fast n1) (provisioned_volume next_c uid_c fast id_1 None) row)
      where
        other_uid : Makes (mine (gives uid_c id_1 None ∷ tells_claim next_c ∷ tells_three c fast n1)) (provisioned_volume next_c uid_c fast id_1 None) next_c fast → ⊥
        other_uid r = neither (λ h. names_apart (sym (h.0.1.0 ∙ ap (λ u. data_name (unwrap_or u uid_c)) (sym r.known))))
            (neither (λ h. h.0.1) (neither (λ h. h.0.1) (neither (λ h. h.0.1) (neither (λ h. h.0.1) (λ h. h))))) r.given

    older_class : MayCreate (mine (gives uid_c id_1 None ∷ tells_class moved_class ∷ tells_three c fast n1)) (made_by id_1 None) → ⊥
    older_class row =
        let x = sole (claims_made (gives uid_c id_1 None ∷ tells_class moved_class ∷ tells_three c fast n1) (made_by id_1 None) row) in
        neither (λ e. differ (λ v. is_by (codes "x/y") v)
        (makes_of (mine (gives uid_c id_1 None ∷ tells_class moved_class ∷ tells_three c fast n1)) (made_by id_1 None) row c moved_class x e).object refl refl)
        (neither (λ e. differ (has_version 9) (makes_of (mine (gives uid_c id_1 None ∷ tells_class moved_class ∷ tells_three c fast n1))
        (made_by id_1 None) row c fast x e).class_newest refl refl) (λ h. h))
        (classes_made (gives uid_c id_1 None ∷ tells_class moved_class ∷ tells_three c fast n1) (made_by id_1 None) row)
