-- The last volume that a read found over the data.
use Rattle.std.proofs.Common.{◌≡◌, ℕ, ◌<◌, List, Option, Some, length, get_or, reverse, sym, ◌∙◌, subst}
use Rattle.kube_objects.specs.declared.objects.DataId.{DataId}
use Rattle.kube_objects.specs.declared.objects.Volume.{Volume as VolumeData}
use Rattle.call_types.specs.declared.entry.Entry.{Entry}
use Rattle.binder_model.specs.Told.{found_over, last_found}
use Rattle.evidence_agent.specs.declared.by_place.topics.Topic.{Topic}
use Rattle.evidence_agent.specs.declared.by_place.topics.Matter.TheVariants as matters
use Rattle.evidence_agent.specs.Places.Topics.{about_data, last_of}
use Rattle.evidence_agent.specs.Places.Steps.Since.{finds}
use Rattle.evidence_agent.proofs.Places.Hearing.{finds_heard}
use Rattle.evidence_agent.proofs.Places.Since.{last_since, read_stands}
use Rattle.evidence_agent.proofs.Places.Uses.{found_since}

pub found_by : (entries : List Entry) (id : DataId) (t : Topic) (answer : Option ℕ) (place : ℕ) (d : Entry) (v : VolumeData)
    → t ≡ about_data matters.Over id → answer ≡ last_of t (reverse entries) → answer ≡ Some place → place < length entries
    → Some v ≡ found_over id (get_or entries place d).told (get_or entries place d).reply → last_found id (reverse entries) ≡ Some v
found_by entries id t answer place d v about looked found within is =
    found_since id v (reverse entries) place (get_or entries place d)
    (last_since (about_data matters.Over id) (finds id) (finds_heard id) (reverse entries) place (get_or entries place d)
    (subst (λ (u : Topic). last_of u (reverse entries) ≡ Some place) about (sym looked ∙ found)) (read_stands entries place d within))
    (sym is)
