-- The order of topics is total, and tells all topics apart.
use Rattle.std.proofs.Common.{◌≡◌, ℕ, zero, suc, refl, sym, ◌∙◌, ap}
use Rattle.std.specs.declared.cmp.Ordering.TheVariants.{Equal}
use Rattle.std.specs.Cmp.{IsTotalOrder}
use Rattle.std.proofs.lemmas.Cmp.{nat_cmp_total, on_total, then_total}
use Rattle.std.proofs.lemmas.Map.Lookups.{exact_unsigned}
use Rattle.kube_objects.proofs.KeyOrder.{equal_keys, key_cmp_total}
use Rattle.evidence_agent.specs.declared.by_place.topics.Matter.{Matter}
use Rattle.evidence_agent.specs.declared.by_place.topics.Matter.TheVariants as matters
use Rattle.evidence_agent.specs.declared.by_place.topics.Topic.{Topic}
use Rattle.evidence_agent.specs.Places.Topics.{matter_index, topic_cmp}
use Rattle.kube_objects.proofs.KeyOrder.{both_equal}

pub topic_cmp_total : IsTotalOrder topic_cmp
topic_cmp_total = then_total (then_total (on_total (λ (t : Topic). matter_index t.matter) nat_cmp_total)
    (on_total (λ (t : Topic). t.key) key_cmp_total)) (on_total (λ (t : Topic). t.uid.0) nat_cmp_total)

abbrev matter_at : ℕ → Matter
matter_at zero = matters.Taken
matter_at (suc zero) = matters.Listed
matter_at (suc (suc zero)) = matters.Read
matter_at (suc (suc (suc zero))) = matters.Naming
matter_at (suc (suc (suc (suc zero)))) = matters.Finished
matter_at (suc (suc (suc (suc (suc zero))))) = matters.Mounted
matter_at (suc (suc (suc (suc (suc (suc zero)))))) = matters.Rows
matter_at n = matters.Over

matter_back : (m : Matter) → matter_at (matter_index m) ≡ m
matter_back matters.Taken = refl
matter_back matters.Listed = refl
matter_back matters.Read = refl
matter_back matters.Naming = refl
matter_back matters.Finished = refl
matter_back matters.Mounted = refl
matter_back matters.Rows = refl
matter_back matters.Over = refl

matters_alike : (a b : Matter) → matter_index a ≡ matter_index b → a ≡ b
matters_alike a b e = sym (matter_back a) ∙ ap matter_at e ∙ matter_back b

pub equal_topics : (a b : Topic) → topic_cmp a b ≡ Equal → a ≡ b
equal_topics a b e =
    let outer = both_equal _ _ e in
    let inner = both_equal _ _ outer.0 in
    let matter : a.matter ≡ b.matter = matters_alike a.matter b.matter (exact_unsigned _ _ inner.0) in
    let key : a.key ≡ b.key = equal_keys _ _ inner.1 in
    let uid : a.uid.0 ≡ b.uid.0 = exact_unsigned _ _ outer.1 in
    λ i. record { matter = matter i; key = key i; uid = record { 0 = uid i } }
