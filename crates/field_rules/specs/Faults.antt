-- A test that finds a fault, followed by another, and names read byte by byte.
-- Source: Kubernetes documentation, "Object Names and IDs" (DNS subdomain names); that names are so read is a choice of this project.
use Rattle.std.specs.Prelude.{ℕ, ◌==◌, ◌&&◌, Bool, false, List, [], ◌∷◌, Option, Some, None, if◌then◌else◌}
use Rattle.std.specs.declared.result.Result.{Result}
use Rattle.std.specs.declared.result.Result.TheVariants.{Ok, Err}
use Rattle.kube_objects.specs.declared.objects.Object.{Object}
use Rattle.kube_objects.specs.declared.objects.Object.TheVariants.{Class, Node, Volume, Claim, Pod}
use Rattle.binder_model.specs.Fields.{is_lower_or_digit, is_name_byte}

-- the fault that the first test found, else that of the next
abbrev pub fault_or : {X E : Type 0} → Result X E → Option E → Option E
fault_or (Ok x) next = next
fault_or (Err e) next = Some e

-- bytes of names up to the last, which is a letter or digit
abbrev pub ends_well : ℕ → List ℕ → Bool
ends_well c [] = is_lower_or_digit c
ends_well c (d ∷ ds) = is_name_byte c && ends_well d ds

-- a letter or digit, and bytes that end well
abbrev pub reads_as_label : List ℕ → Bool
reads_as_label [] = false
reads_as_label (c ∷ cs) = is_lower_or_digit c && ends_well c cs

-- whether the byte may stand after the last byte of a part of a name, or at the start of a part; a dot ends a part
abbrev pub byte_fits : Option ℕ → ℕ → Bool
byte_fits None byte = is_lower_or_digit byte
byte_fits (Some last) byte = if byte == 46 then is_lower_or_digit last else is_name_byte last

-- the last byte of the part that the byte stands in
abbrev pub after_byte : ℕ → Option ℕ
after_byte byte = if byte == 46 then None else Some byte

-- the names of which none may stand twice: the claims of a pod, the finalizers of other objects
abbrev pub names_in : Object → List (List ℕ)
names_in (Pod p) = p.claims
names_in (Class x) = x.meta.finalizers
names_in (Node n) = n.meta.finalizers
names_in (Volume v) = v.meta.finalizers
names_in (Claim c) = c.meta.finalizers
