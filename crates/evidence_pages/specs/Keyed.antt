-- Keys by their parts.
-- A choice of this project.
use Rattle.kube_objects.specs.declared.key.Key.{Key}
use Rattle.evidence_pages.specs.declared.parts.KeyParts.{KeyParts}

-- the key that these parts make
abbrev pub key_by : KeyParts → Key
key_by p = record { kind = p.kind; namespace = p.namespace.now; name = p.name.now }
