-- What is asked of a pod because of which a node agent reads a claim, part by part, as the code tests it.
-- A choice of this project, as the rows are.
use Rattle.std.specs.Prelude.{◌≡◌, List, is_some, true}
use Rattle.kube_objects.specs.declared.key.Key.{Key}
use Rattle.kube_parts.specs.declared.parts.Kind.TheVariants as kinds
use Rattle.kube_objects.specs.declared.objects.Pod.{Pod as PodData}
use Rattle.kube_objects.specs.declared.objects.Object.{Object}
use Rattle.kube_objects.specs.Bindings.{has_name, is_scheduled}
use Rattle.call_types.specs.declared.entry.Entry.{Entry}
use Rattle.binder_model.specs.AgentLicence.{last_epoch}
use Rattle.binder_model.specs.Told.{IsPodWith}

-- the pod is scheduled and names the claim of the key
pub record IsNaming (key : Key) (pod : PodData) : Type 0 where
  pub scheduled : is_scheduled pod ≡ true
  pub kind : key.kind ≡ kinds.PersistentVolumeClaim
  pub placed : key.namespace ≡ pod.meta.namespace
  pub named : has_name key.name pod.claims ≡ true

-- the pod stands on a node that the seat took
abbrev pub IsOnTaken : List Entry → PodData → Type 0
IsOnTaken mine pod = is_some (last_epoch pod.node mine) ≡ true

-- both are pods on one node
abbrev pub AreOnOneNode : Object → Object → Type 0
AreOnOneNode o x = IsPodWith (λ p. IsPodWith (λ q. p.node ≡ q.node) x) o
