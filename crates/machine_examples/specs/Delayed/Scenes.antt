-- Small look-ups for the examples of delayed binding: two zones, their nodes, volumes and claims. A choice of this project.
use Rattle.std.specs.Prelude.{ℕ, false, List, [], ◌∷◌, Some, codes}
use Rattle.kube_objects.specs.declared.objects.Class.{Class as ClassData}
use Rattle.kube_objects.specs.declared.objects.Claim.{Claim as ClaimData}
use Rattle.kube_objects.specs.declared.objects.Node.{Node as NodeData}
use Rattle.kube_objects.specs.declared.objects.Pod.{Pod as PodData}
use Rattle.kube_objects.specs.declared.objects.Volume.{Volume as VolumeData}
use Rattle.kube_objects.specs.declared.objects.Object.{Object}
use Rattle.kube_objects.specs.declared.objects.Object.TheVariants.{Class, Node}
use Rattle.kube_objects.specs.Bindings.{bind_completed, pv_protection, pvc_protection, selected_node, yes}
use Rattle.binder_model.specs.Provisioning.{terms_for}
use Rattle.model_examples.specs.Samples.{a as free_a, amount, c as plain_c, deleting, idle_class, late as late_class, naming, standing, waiting_p}

-- classes that wait for the first pod: one whose provisioner gives volumes, and one that has none; and one that does not wait
abbrev pub late : ClassData
late = record late_class { meta = standing [] (codes "late") 1 1 [] [] }

abbrev pub local : ClassData
local = record late { provisioner = idle_class.provisioner }

abbrev pub prompt : ClassData
prompt = record late { delayed = false }

-- three nodes, the first and the third in one zone
abbrev pub node_in_zone : List ℕ → ℕ → List ℕ → NodeData
node_in_zone name serial zone = record { meta = record (standing [] name serial serial [] []) { labels = (codes "zone", zone) ∷ [] }; extra = [] }

abbrev pub n1 : NodeData
n1 = node_in_zone (codes "n1") 2 (codes "a")

abbrev pub n2 : NodeData
n2 = node_in_zone (codes "n2") 3 (codes "b")

abbrev pub n3 : NodeData
n3 = node_in_zone (codes "n3") 4 (codes "a")

-- volumes of 5 gibibytes that are free: one for the zone b, one for each zone
abbrev pub volume_of : List ℕ → ℕ → VolumeData
volume_of name serial = record free_a { meta = standing [] name serial serial (pv_protection ∷ []) []; class = codes "late" }

abbrev pub in_b : VolumeData → VolumeData
in_b v = record v { terms = terms_for (Some (codes "zone", codes "b")) }

abbrev pub a : VolumeData
a = in_b (volume_of (codes "a") 5)

abbrev pub e : VolumeData
e = volume_of (codes "e") 6

-- the same volume in a namespace
abbrev pub spaced : VolumeData → VolumeData
spaced v = record v { meta = record v.meta { namespace = codes "default" } }

-- a claim of 3 gibibytes, and one of 5 whose name comes first
abbrev pub claim_of : List ℕ → ℕ → ClaimData
claim_of name serial = record plain_c { meta = standing (codes "default") name serial serial (pvc_protection ∷ []) []; class = Some (codes "late") }

abbrev pub c : ClaimData
c = claim_of (codes "c") 7

abbrev pub b : ClaimData
b = record (claim_of (codes "b") 8) { amount = amount 5 }

abbrev pub leaving : ClaimData → ClaimData
leaving x = record x { meta = deleting x.meta }

abbrev pub chosen_on : List ℕ → ClaimData → ClaimData
chosen_on node x = record x { meta = record x.meta { annotations = (selected_node, node) ∷ [] } }

-- completed with a volume
abbrev pub completed : List ℕ → ClaimData → ClaimData
completed volume x = record (naming volume x) { meta = record x.meta { annotations = (bind_completed, yes) ∷ [] } }

abbrev pub selecting : ClaimData → ClaimData
selecting x = record x { selector = Some (record { labels = (codes "disk", codes "ssd") ∷ []; exprs = [] }) }

-- the volume refers to the claim with its UID
abbrev pub carrying : ClaimData → VolumeData → VolumeData
carrying x v = record v { claim_ref = Some (record { namespace = x.meta.namespace; name = x.meta.name; uid = x.meta.uid }) }

-- a pod that uses the claim c, one that uses both, and one that uses none
abbrev pub pod : PodData
pod = waiting_p

abbrev pub pod_of_two : PodData
pod_of_two = record waiting_p { claims = codes "c" ∷ codes "b" ∷ [] }

abbrev pub bare_pod : PodData
bare_pod = record waiting_p { claims = [] }

-- a look-up in the order of keys
abbrev pub classes : ClassData → List Object → List Object
classes x rest = Class x ∷ rest

abbrev pub three_nodes : List Object → List Object
three_nodes rest = Node n1 ∷ Node n2 ∷ Node n3 ∷ rest
