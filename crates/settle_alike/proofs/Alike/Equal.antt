-- Whether two contents are one is decided, so a call lasts or leaves the world alike.
use Rattle.std.proofs.Common.{◌≡◌, ◌≢◌, ◌⊎◌, ℕ, zero, suc, List, [], ◌∷◌, Bool, true, false, true≢false, inl, inr, refl, sym, ap, ◌∙◌, arith}
use Rattle.std.specs.Prelude.{bytes_eq}
use Rattle.std.specs.Bool.{Decides}
use Rattle.std.specs.Cmp.{booleans_Decides}
use Rattle.std.proofs.lemmas.Bool.Decides.{Decides-eqb}
use Rattle.std.proofs.lemmas.Slice.Eq.{bytes_eq-Decides}
use Rattle.kube_parts.specs.declared.parts.ClaimPhase.{ClaimPhase}
use Rattle.kube_parts.specs.declared.parts.ClaimPhase.TheVariants as claims
use Rattle.kube_parts.specs.declared.parts.VolumePhase.{VolumePhase}
use Rattle.kube_parts.specs.declared.parts.VolumePhase.TheVariants as volumes
use Rattle.kube_objects.specs.declared.objects.DataId.{DataId}
use Rattle.kube_objects.specs.declared.objects.Meta.{Meta}
use Rattle.kube_objects.specs.declared.objects.Class.{Class as ClassData}
use Rattle.kube_objects.specs.declared.objects.Node.{Node as NodeData}
use Rattle.kube_objects.specs.declared.objects.Claim.{Claim as ClaimData}
use Rattle.kube_objects.specs.declared.objects.Volume.{Volume as VolumeData}
use Rattle.kube_objects.specs.declared.objects.Pod.{Pod as PodData}
use Rattle.kube_objects.specs.declared.objects.Object.{Object}
use Rattle.kube_objects.specs.declared.objects.Object.TheVariants.{Class, Node, Volume, Claim, Pod}
use Rattle.call_types.specs.declared.reply.MountRow.{MountRow}
use Rattle.binder_model.specs.Devices.{Data, MountAt}
use Rattle.binder_model.specs.Same.{same_amount, same_ref, same_selector, same_terms, same_uid}
use Rattle.field_rules.proofs.Equalities.{
  same_amount-Decides,
  same_modes-Decides,
  same_names-Decides,
  same_option-Decides,
  same_pairs-Decides,
  same_policy-Decides,
  same_ref-Decides,
  same_selector-Decides,
  same_source-Decides,
  same_terms-Decides,
  same_uid-Decides,
}

-- it holds, or it does not
abbrev pub Known : Type 0 → Type 0
Known P = P ⊎ (P → ⊥)

known : {P : Type 0} {test : Bool} → Decides test P → Known P
known {test = true} d = inl (d.0 refl)
known {test = false} d = inr (λ p. true≢false (sym (d.1 p)))

both : {P Q : Type 0} → Known P → Known Q → Known (P × Q)
both (inl p) (inl q) = inl (p, q)
both (inl p) (inr not) = inr (λ h. not h.1)
both (inr not) k = inr (λ h. not h.0)

alike : {P Q : Type 0} → (P → Q) → (Q → P) → Known P → Known Q
alike f g (inl p) = inl (f p)
alike f g (inr not) = inr (λ q. not (g q))

-- two lists, where two elements are known
abbrev head_or : {X : Type 0} → X → List X → X
head_or x [] = x
head_or x (y ∷ ys) = y

abbrev tail_of : {X : Type 0} → List X → List X
tail_of [] = []
tail_of (y ∷ ys) = ys

abbrev is_some_list : {X : Type 0} → List X → Bool
is_some_list [] = false
is_some_list (x ∷ xs) = true

pub list_known : {X : Type 0} → ((a b : X) → Known (a ≡ b)) → (xs ys : List X) → Known (xs ≡ ys)
list_known each [] [] = inl refl
list_known each [] (y ∷ ys) = inr (λ e. true≢false (sym (ap is_some_list e)))
list_known each (x ∷ xs) [] = inr (λ e. true≢false (ap is_some_list e))
list_known each (x ∷ xs) (y ∷ ys) = alike (λ e i. e.0 i ∷ e.1 i) (λ e. (ap (head_or x) e, ap tail_of e)) (both (each x y) (list_known each xs ys))

-- phases
abbrev volume_index : VolumePhase → ℕ
volume_index volumes.Pending = 0
volume_index volumes.Available = 1
volume_index volumes.Bound = 2
volume_index volumes.Released = 3
volume_index volumes.Failed = 4

abbrev volume_at : ℕ → VolumePhase
volume_at zero = volumes.Pending
volume_at (suc zero) = volumes.Available
volume_at (suc (suc zero)) = volumes.Bound
volume_at (suc (suc (suc zero))) = volumes.Released
volume_at n = volumes.Failed

volume_back : (p : VolumePhase) → volume_at (volume_index p) ≡ p
volume_back volumes.Pending = refl
volume_back volumes.Available = refl
volume_back volumes.Bound = refl
volume_back volumes.Released = refl
volume_back volumes.Failed = refl

volume_phase_known : (a b : VolumePhase) → Known (a ≡ b)
volume_phase_known a b = alike (λ e. sym (volume_back a) ∙ (ap volume_at e ∙ volume_back b)) (λ e. ap volume_index e) (known (Decides-eqb (volume_index a) (volume_index b)))

abbrev claim_index : ClaimPhase → ℕ
claim_index claims.Pending = 0
claim_index claims.Bound = 1
claim_index claims.Lost = 2

abbrev claim_at : ℕ → ClaimPhase
claim_at zero = claims.Pending
claim_at (suc zero) = claims.Bound
claim_at n = claims.Lost

claim_back : (p : ClaimPhase) → claim_at (claim_index p) ≡ p
claim_back claims.Pending = refl
claim_back claims.Bound = refl
claim_back claims.Lost = refl

claim_phase_known : (a b : ClaimPhase) → Known (a ≡ b)
claim_phase_known a b = alike (λ e. sym (claim_back a) ∙ (ap claim_at e ∙ claim_back b)) (λ e. ap claim_index e) (known (Decides-eqb (claim_index a) (claim_index b)))

-- objects

pub meta_known : (a b : Meta) → Known (a ≡ b)
meta_known a b =
    alike (λ e i. record {
      namespace = e.0.0.0.0.0.0.0.0 i;
      name = e.0.0.0.0.0.0.0.1 i;
      uid = e.0.0.0.0.0.0.1 i;
      version = e.0.0.0.0.0.1 i;
      created =
          e.0.0.0.0.1 i;
      deleted = e.0.0.0.1 i;
      labels = e.0.0.1 i;
      annotations = e.0.1 i;
      finalizers = e.1 i;
    })
    (λ e. (
      (
        (
          (
            (
              (((ap (λ (x : Meta). x.namespace) e, ap (λ (x : Meta). x.name) e), ap (λ (x : Meta). x.uid) e), ap (λ (x : Meta). x.version) e),
              ap (λ (x : Meta). x.created) e,
            ),
            ap (λ (x : Meta). x.deleted) e,
          ),
          ap (λ (x : Meta). x.labels) e,
        ),
        ap (λ (x : Meta). x.annotations) e,
      ),
      ap (λ (x : Meta). x.finalizers) e,
    ))
    (both (both (both (both (both
    (both (both (both (known (bytes_eq-Decides a.namespace b.namespace)) (known (bytes_eq-Decides a.name b.name)))
    (known (same_option-Decides same_uid same_uid-Decides a.uid b.uid))) (known (Decides-eqb a.version b.version)))
    (known (bytes_eq-Decides a.created b.created))) (known (same_option-Decides bytes_eq bytes_eq-Decides a.deleted b.deleted)))
    (known (same_pairs-Decides a.labels b.labels))) (known (same_pairs-Decides a.annotations b.annotations))) (known (same_names-Decides a.finalizers b.finalizers)))

pub class_known : (a b : ClassData) → Known (a ≡ b)
class_known a b =
    alike (λ e i. record { meta = e.0.0.0.0.0 i; provisioner = e.0.0.0.0.1 i; policy = e.0.0.0.1 i; delayed = e.0.0.1 i; parameters = e.0.1 i; extra = e.1 i })
    (λ e. (
      (
        (
          ((ap (λ (x : ClassData). x.meta) e, ap (λ (x : ClassData). x.provisioner) e), ap (λ (x : ClassData). x.policy) e),
          ap (λ (x : ClassData). x.delayed) e,
        ),
        ap (λ (x : ClassData). x.parameters) e,
      ),
      ap (λ (x : ClassData). x.extra) e,
    ))
    (both (both (both (both (both (meta_known a.meta b.meta) (known (bytes_eq-Decides a.provisioner b.provisioner)))
    (known (same_policy-Decides a.policy b.policy))) (known (booleans_Decides a.delayed b.delayed)))
    (known (same_pairs-Decides a.parameters b.parameters))) (known (bytes_eq-Decides a.extra b.extra)))

pub node_known : (a b : NodeData) → Known (a ≡ b)
node_known a b =
    alike (λ e i. record { meta = e.0 i; extra = e.1 i })
    (λ e. (ap (λ (x : NodeData). x.meta) e, ap (λ (x : NodeData). x.extra) e))
    (both (meta_known a.meta b.meta) (known (bytes_eq-Decides a.extra b.extra)))

pub volume_known : (a b : VolumeData) → Known (a ≡ b)
volume_known a b =
    alike (λ e i. record {
      meta = e.0.0.0.0.0.0.0.0.0.0 i;
      amount = e.0.0.0.0.0.0.0.0.0.1 i;
      modes = e.0.0.0.0.0.0.0.0.1 i;
      block = e.0.0.0.0.0.0.0.1
          i;
      class = e.0.0.0.0.0.0.1 i;
      policy = e.0.0.0.0.0.1 i;
      claim_ref = e.0.0.0.0.1 i;
      source = e.0.0.0.1 i;
      terms = e.0.0.1 i;
      extra = e.0.1 i;
      phase = e.1 i;
    })
    (λ e. (
      (
        (
          (
            (
              (
                (
                  (
                    ((ap (λ (x : VolumeData). x.meta) e, ap (λ (x : VolumeData). x.amount) e), ap (λ (x : VolumeData). x.modes) e),
                    ap (λ (x : VolumeData). x.block) e,
                  ),
                  ap (λ (x : VolumeData). x.class) e,
                ),
                ap (λ (x : VolumeData). x.policy) e,
              ),
              ap (λ (x : VolumeData). x.claim_ref) e,
            ),
            ap (λ (x : VolumeData). x.source) e,
          ),
          ap (λ (x : VolumeData). x.terms) e,
        ),
        ap (λ (x : VolumeData). x.extra) e,
      ),
      ap (λ (x : VolumeData). x.phase) e,
    ))
    (both (both (both (both (both
    (both (both (both (both (both (meta_known a.meta b.meta) (known (same_amount-Decides a.amount b.amount)))
    (known (same_modes-Decides a.modes b.modes))) (known (booleans_Decides a.block b.block))) (known (bytes_eq-Decides a.class b.class)))
    (known (same_policy-Decides a.policy b.policy))) (known (same_option-Decides same_ref same_ref-Decides a.claim_ref b.claim_ref)))
    (known (same_source-Decides a.source b.source))) (known (same_option-Decides same_terms same_terms-Decides a.terms b.terms)))
    (known (bytes_eq-Decides a.extra b.extra))) (volume_phase_known a.phase b.phase))

pub claim_known : (a b : ClaimData) → Known (a ≡ b)
claim_known a b =
    alike (λ e i. record {
      meta = e.0.0.0.0.0.0.0.0.0.0 i;
      modes = e.0.0.0.0.0.0.0.0.0.1 i;
      amount = e.0.0.0.0.0.0.0.0.1 i;
      block = e.0.0.0.0.0.0.0.1
          i;
      class = e.0.0.0.0.0.0.1 i;
      selector = e.0.0.0.0.0.1 i;
      volume_name = e.0.0.0.0.1 i;
      extra = e.0.0.0.1 i;
      phase = e.0.0.1 i;
      got_modes = e.0.1 i;
      got = e.1 i;
    })
    (λ e. (
      (
        (
          (
            (
              (
                (
                  (
                    ((ap (λ (x : ClaimData). x.meta) e, ap (λ (x : ClaimData). x.modes) e), ap (λ (x : ClaimData). x.amount) e),
                    ap (λ (x : ClaimData). x.block) e,
                  ),
                  ap (λ (x : ClaimData). x.class) e,
                ),
                ap (λ (x : ClaimData). x.selector) e,
              ),
              ap (λ (x : ClaimData). x.volume_name) e,
            ),
            ap (λ (x : ClaimData). x.extra) e,
          ),
          ap (λ (x : ClaimData). x.phase) e,
        ),
        ap (λ (x : ClaimData). x.got_modes) e,
      ),
      ap (λ (x : ClaimData). x.got) e,
    ))
    (both (both (both (both (both
    (both (both (both (both (both (meta_known a.meta b.meta) (known (same_modes-Decides a.modes b.modes)))
    (known (same_amount-Decides a.amount b.amount))) (known (booleans_Decides a.block b.block)))
    (known (same_option-Decides bytes_eq bytes_eq-Decides a.class b.class)))
    (known (same_option-Decides same_selector same_selector-Decides a.selector b.selector)))
    (known (bytes_eq-Decides a.volume_name b.volume_name))) (known (bytes_eq-Decides a.extra b.extra))) (claim_phase_known a.phase b.phase))
    (known (same_modes-Decides a.got_modes b.got_modes))) (known (same_option-Decides same_amount same_amount-Decides a.got b.got)))

pub pod_known : (a b : PodData) → Known (a ≡ b)
pod_known a b =
    alike (λ e i. record { meta = e.0.0.0 i; claims = e.0.0.1 i; node = e.0.1 i; extra = e.1 i })
    (λ e. (((ap (λ (x : PodData). x.meta) e, ap (λ (x : PodData). x.claims) e), ap (λ (x : PodData). x.node) e), ap (λ (x : PodData). x.extra) e))
    (both (both (both (meta_known a.meta b.meta) (known (same_names-Decides a.claims b.claims))) (known (bytes_eq-Decides a.node b.node))) (known (bytes_eq-Decides a.extra b.extra)))

abbrev kind_number : Object → ℕ
kind_number (Class x) = 0
kind_number (Node x) = 1
kind_number (Volume x) = 2
kind_number (Claim x) = 3
kind_number (Pod x) = 4

abbrev class_in : ClassData → Object → ClassData
class_in a (Class x) = x
class_in a o = a

abbrev node_in : NodeData → Object → NodeData
node_in a (Node x) = x
node_in a o = a

abbrev volume_in : VolumeData → Object → VolumeData
volume_in a (Volume x) = x
volume_in a o = a

abbrev claim_in : ClaimData → Object → ClaimData
claim_in a (Claim x) = x
claim_in a o = a

abbrev pod_in : PodData → Object → PodData
pod_in a (Pod x) = x
pod_in a o = a

-- objects of two kinds differ
apart : (a b : Object) → kind_number a ≢ kind_number b → Known (a ≡ b)
apart a b differ = inr (λ e. differ (ap kind_number e))

pub object_known : (a b : Object) → Known (a ≡ b)
object_known (Class a) (Class b) = alike (λ e. ap (λ x. Class x) e) (λ e. ap (class_in a) e) (class_known a b)
object_known (Class a) (Node b) = apart (Class a) (Node b) (λ e. omega (arith, e))
object_known (Class a) (Volume b) = apart (Class a) (Volume b) (λ e. omega (arith, e))
object_known (Class a) (Claim b) = apart (Class a) (Claim b) (λ e. omega (arith, e))
object_known (Class a) (Pod b) = apart (Class a) (Pod b) (λ e. omega (arith, e))
object_known (Node a) (Class b) = apart (Node a) (Class b) (λ e. omega (arith, e))
object_known (Node a) (Node b) = alike (λ e. ap (λ x. Node x) e) (λ e. ap (node_in a) e) (node_known a b)
object_known (Node a) (Volume b) = apart (Node a) (Volume b) (λ e. omega (arith, e))
object_known (Node a) (Claim b) = apart (Node a) (Claim b) (λ e. omega (arith, e))
object_known (Node a) (Pod b) = apart (Node a) (Pod b) (λ e. omega (arith, e))
object_known (Volume a) (Class b) = apart (Volume a) (Class b) (λ e. omega (arith, e))
object_known (Volume a) (Node b) = apart (Volume a) (Node b) (λ e. omega (arith, e))
object_known (Volume a) (Volume b) = alike (λ e. ap (λ x. Volume x) e) (λ e. ap (volume_in a) e) (volume_known a b)
object_known (Volume a) (Claim b) = apart (Volume a) (Claim b) (λ e. omega (arith, e))
object_known (Volume a) (Pod b) = apart (Volume a) (Pod b) (λ e. omega (arith, e))
object_known (Claim a) (Class b) = apart (Claim a) (Class b) (λ e. omega (arith, e))
object_known (Claim a) (Node b) = apart (Claim a) (Node b) (λ e. omega (arith, e))
object_known (Claim a) (Volume b) = apart (Claim a) (Volume b) (λ e. omega (arith, e))
object_known (Claim a) (Claim b) = alike (λ e. ap (λ x. Claim x) e) (λ e. ap (claim_in a) e) (claim_known a b)
object_known (Claim a) (Pod b) = apart (Claim a) (Pod b) (λ e. omega (arith, e))
object_known (Pod a) (Class b) = apart (Pod a) (Class b) (λ e. omega (arith, e))
object_known (Pod a) (Node b) = apart (Pod a) (Node b) (λ e. omega (arith, e))
object_known (Pod a) (Volume b) = apart (Pod a) (Volume b) (λ e. omega (arith, e))
object_known (Pod a) (Claim b) = apart (Pod a) (Claim b) (λ e. omega (arith, e))
object_known (Pod a) (Pod b) = alike (λ e. ap (λ x. Pod x) e) (λ e. ap (pod_in a) e) (pod_known a b)

-- devices

pub data_id_known : (a b : DataId) → Known (a ≡ b)
data_id_known a b =
    alike (λ e i. record { driver = e.0 i; id = e.1 i })
    (λ e. (ap (λ (x : DataId). x.driver) e, ap (λ (x : DataId). x.id) e))
    (both (known (bytes_eq-Decides a.driver b.driver)) (known (bytes_eq-Decides a.id b.id)))

pub datum_known : (a b : Data) → Known (a ≡ b)
datum_known a b =
    alike (λ e i. record { id = e.0.0.0.0 i; name = e.0.0.0.1 i; pool = e.0.0.1 i; bytes = e.0.1 i; there = e.1 i })
    (λ e. ((((ap (λ (x : Data). x.id) e, ap (λ (x : Data). x.name) e), ap (λ (x : Data). x.pool) e), ap (λ (x : Data). x.bytes) e), ap (λ (x : Data). x.there) e))
    (both (both (both (both (data_id_known a.id b.id) (known (bytes_eq-Decides a.name b.name))) (known (Decides-eqb a.pool b.pool)))
    (known (Decides-eqb a.bytes b.bytes))) (known (booleans_Decides a.there b.there)))

pub mount_row_known : (a b : MountRow) → Known (a ≡ b)
mount_row_known a b =
    alike (λ e i. record { pod = e.0 i; claims = e.1 i })
    (λ e. (ap (λ (x : MountRow). x.pod) e, ap (λ (x : MountRow). x.claims) e))
    (both (known (same_uid-Decides a.pod b.pod)) (list_known (λ x y. known (same_uid-Decides x y)) a.claims b.claims))

pub mount_known : (a b : MountAt) → Known (a ≡ b)
mount_known a b =
    alike (λ e i. record { node = e.0 i; row = e.1 i })
    (λ e. (ap (λ (x : MountAt). x.node) e, ap (λ (x : MountAt). x.row) e))
    (both (known (bytes_eq-Decides a.node b.node)) (mount_row_known a.row b.row))
