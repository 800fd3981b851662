-- The data of a volume.
-- Source: Kubernetes API, PersistentVolumeSource; for sources without a driver, what tells the data apart is a choice of this project.
use Rattle.std.specs.Prelude.{ℕ, List, ◌++◌, codes}
use Rattle.kube_parts.specs.declared.parts.SourceKind.{SourceKind}
use Rattle.kube_parts.specs.declared.parts.SourceKind.TheVariants.{Csi, Nfs, Local, HostPath}
use Rattle.kube_objects.specs.declared.objects.Source.{Source}
use Rattle.kube_objects.specs.declared.objects.DataId.{DataId}

-- the driver of a volume of a driver (Container Storage Interface), else the name of the kind of source
abbrev pub driver_by : SourceKind → List ℕ → List ℕ
driver_by Csi driver = driver
driver_by Nfs server = codes "nfs"
driver_by Local path = codes "local"
driver_by HostPath path = codes "hostPath"

-- the handle of a volume of a driver, else what tells the data apart: a choice of this project
abbrev pub handle_by : SourceKind → List ℕ → List ℕ → List ℕ
handle_by Csi driver handle = handle
handle_by Nfs server path = (server ++ codes ":") ++ path
handle_by Local path rest = path
handle_by HostPath path rest = path

-- the data that a volume stands for: two volumes of one data id share them
abbrev pub data_id_of : Source → DataId
data_id_of source = record { driver = driver_by source.kind source.first; id = handle_by source.kind source.first source.second }
