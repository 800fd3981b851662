use Rattle.std.proofs.Common.{◌∙◌, sym}
use Rattle.kube_parts.specs.declared.parts.Kind.TheVariants as kinds
use Rattle.informer_cache.proofs.caches.Caches.cache.Goals as goal

pub returns-in-StorageClass-clause-kind : goal.returns-in-StorageClass-clause-kind
returns-in-StorageClass-clause-kind c = c.self.invariant kinds.StorageClass ∙ sym c.in-StorageClass.is

pub returns-in-Node-clause-kind : goal.returns-in-Node-clause-kind
returns-in-Node-clause-kind c = c.self.invariant kinds.Node ∙ sym c.in-Node.is

pub returns-in-PersistentVolume-clause-kind : goal.returns-in-PersistentVolume-clause-kind
returns-in-PersistentVolume-clause-kind c = c.self.invariant kinds.PersistentVolume ∙ sym c.in-PersistentVolume.is

pub returns-in-PersistentVolumeClaim-clause-kind : goal.returns-in-PersistentVolumeClaim-clause-kind
returns-in-PersistentVolumeClaim-clause-kind c = c.self.invariant kinds.PersistentVolumeClaim ∙ sym c.in-PersistentVolumeClaim.is

pub returns-in-Pod-clause-kind : goal.returns-in-Pod-clause-kind
returns-in-Pod-clause-kind c = c.self.invariant kinds.Pod ∙ sym c.in-Pod.is
