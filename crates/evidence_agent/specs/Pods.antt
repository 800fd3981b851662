-- Pods that were told, each at its place.
-- A choice of this project.
use Rattle.std.specs.Prelude.{List, [], ◌∷◌, ⊤}
use Rattle.kube_objects.specs.declared.objects.Object.TheVariants.{Pod}
use Rattle.call_types.specs.declared.entry.Entry.{Entry}
use Rattle.evidence_agent.specs.Places.Places.{TellsAt}
use Rattle.evidence_agent.specs.declared.pods.ToldPod.{ToldPod}
use Rattle.evidence_agent.specs.declared.pods.PodPage.{PodPage}

-- each was told at its place
abbrev pub AreTold : List ToldPod → List Entry → Type 0
AreTold [] mine = ⊤
AreTold (t ∷ ts) mine = TellsAt mine t.place (Pod t.pod) × AreTold ts mine

-- what the pages of pods were told of is what the entries told
abbrev pub ArePods : List PodPage → List Entry → Type 0
ArePods [] mine = ⊤
ArePods (p ∷ ps) mine = AreTold p.told mine × ArePods ps mine
