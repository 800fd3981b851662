-- The pods because of which a node agent reads a claim.
use Rattle.std.proofs.Common.{◌≡◌, ◌↔◌, IsTrue, Bool, true, List, subst}
use Rattle.std.specs.Prelude.{is_some}
use Rattle.kube_objects.specs.declared.key.Key.{Key}
use Rattle.kube_objects.specs.declared.objects.Object.{Object}
use Rattle.kube_objects.specs.declared.objects.Object.TheVariants.{Class, Node, Volume, Claim, Pod}
use Rattle.call_types.specs.declared.entry.Entry.{Entry}
use Rattle.binder_model.specs.AgentLicence.{last_epoch}
use Rattle.binder_model.specs.Reading.{NamesClaim}
use Rattle.binder_model.specs.Told.{IsPodWith, ToldObject, ToldPod}
use Rattle.model_laws.proofs.Evidence.{told_map}
use Rattle.licence_agent.specs.Naming.{AreOnOneNode, IsNaming, IsOnTaken}

-- pods on one node are on a taken one alike
pub taken_alike : (mine : List Entry) (o x : Object) → AreOnOneNode o x → IsPodWith (IsOnTaken mine) o → IsPodWith (IsOnTaken mine) x
taken_alike mine (Pod p) (Pod q) same taken = subst (λ node. is_some (last_epoch node mine) ≡ true) same taken
taken_alike mine (Pod p) (Class q) same taken = absurd same
taken_alike mine (Pod p) (Node q) same taken = absurd same
taken_alike mine (Pod p) (Volume q) same taken = absurd same
taken_alike mine (Pod p) (Claim q) same taken = absurd same
taken_alike mine (Class p) x same taken = absurd same
taken_alike mine (Node p) x same taken = absurd same
taken_alike mine (Volume p) x same taken = absurd same
taken_alike mine (Claim p) x same taken = absurd same

pub names_claim : (mine : List Entry) (key : Key) (b : Bool)
    → (IsTrue b ↔ ToldObject (λ o. IsPodWith (IsNaming key) o × IsPodWith (IsOnTaken mine) o) mine) → (IsTrue b ↔ ToldPod (NamesClaim mine key) mine)
names_claim mine key b is = (
  (λ t. told_map {P = λ o. IsPodWith (IsNaming key) o × IsPodWith (IsOnTaken mine) o} {Q = IsPodWith (NamesClaim mine key)} there mine (is.0 t)),
  (λ h. is.1 (told_map {P = IsPodWith (NamesClaim mine key)} {Q = λ o. IsPodWith (IsNaming key) o × IsPodWith (IsOnTaken mine) o} back mine h)),
)
  where
    there : (o : Object) → IsPodWith (IsNaming key) o × IsPodWith (IsOnTaken mine) o → IsPodWith (NamesClaim mine key) o
    there (Pod p) h = record { scheduled = h.0.scheduled; taken = h.1; placed = h.0.placed; kind = h.0.kind; named = h.0.named }
    there (Class x) h = absurd h.0
    there (Node x) h = absurd h.0
    there (Volume x) h = absurd h.0
    there (Claim x) h = absurd h.0

    back : (o : Object) → IsPodWith (NamesClaim mine key) o → IsPodWith (IsNaming key) o × IsPodWith (IsOnTaken mine) o
    back (Pod p) n = (record { scheduled = n.scheduled; kind = n.kind; placed = n.placed; named = n.named }, n.taken)
    back (Class x) n = absurd n
    back (Node x) n = absurd n
    back (Volume x) n = absurd n
    back (Claim x) n = absurd n
