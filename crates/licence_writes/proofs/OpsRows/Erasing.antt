-- What was erased after it was told ended, as the code looks for it.
use Rattle.std.proofs.Common.{◌↔◌, IsTrue, Bool, List, sym, subst}
use Rattle.kube_parts.specs.declared.uid.Uid.{Uid}
use Rattle.kube_objects.specs.declared.objects.DataId.{DataId}
use Rattle.kube_objects.specs.declared.objects.Object.{Object}
use Rattle.kube_objects.specs.declared.objects.Object.TheVariants.{Class, Node, Volume, Claim, Pod}
use Rattle.kube_objects.specs.Sources.{data_id_of}
use Rattle.call_types.specs.declared.entry.Entry.{Entry}
use Rattle.call_types.specs.declared.request.Request.{Request}
use Rattle.call_types.specs.declared.request.Request.TheVariants as requests
use Rattle.call_types.specs.declared.reply.Reply.{Reply}
use Rattle.call_types.specs.declared.reply.Reply.TheVariants.{Erased}
use Rattle.binder_model.specs.OpsLicence.{EraseDone, IsEndedOver, MayDelete, TellsErased}
use Rattle.binder_model.specs.Told.{After, IsVolumeWith, ToldObject, ToldVolume}
use Rattle.licence_scans.proofs.Afters.{after_told}
use Rattle.model_laws.proofs.Evidence.{told_map}
use Rattle.licence_rows.proofs.Asks.{told_gives}
use Rattle.licence_writes.specs.OpsRows.Providing.{IsEnded, IsOverSame, WasEnded, WasErased}

-- volumes over one source were erased alike
pub erased_alike : (mine : List Entry) (uid : Uid) (o x : Object) → IsOverSame o x → IsVolumeWith (WasErased mine uid) o → IsVolumeWith (WasErased mine uid) x
erased_alike mine uid (Volume v) (Volume w) same e = subst (λ s. After (ToldVolume (IsEndedOver uid (data_id_of s))) (TellsErased (data_id_of s)) mine) same e
erased_alike mine uid (Volume v) (Class w) same e = absurd same
erased_alike mine uid (Volume v) (Node w) same e = absurd same
erased_alike mine uid (Volume v) (Claim w) same e = absurd same
erased_alike mine uid (Volume v) (Pod w) same e = absurd same
erased_alike mine uid (Class v) x same e = absurd same
erased_alike mine uid (Node v) x same e = absurd same
erased_alike mine uid (Claim v) x same e = absurd same
erased_alike mine uid (Pod v) x same e = absurd same

pub delete_row : (mine : List Entry) (uid : Uid) (b : Bool) → (IsTrue b ↔ ToldObject (λ o. IsVolumeWith (IsEnded uid) o × IsVolumeWith (WasErased mine uid) o) mine) → (IsTrue b ↔ MayDelete mine uid)
delete_row mine uid b is = (
  (λ t. let o = told_gives (λ o. IsVolumeWith (IsEnded uid) o × IsVolumeWith (WasErased mine uid) o) mine (is.0 t) in there o.0 o.1.1),
  (λ row. is.1 (told_map {P = IsVolumeWith (IsEndedOver uid row.id)} {Q = λ o. IsVolumeWith (IsEnded uid) o × IsVolumeWith (WasErased mine uid) o} (back row) mine
      (after_told (IsVolumeWith (IsEndedOver uid row.id)) (TellsErased row.id) mine row.erased))),
)
  where
    there : (o : Object) → IsVolumeWith (WasErased mine uid) o → MayDelete mine uid
    there (Volume v) e = record { id = data_id_of v.source; erased = e }
    there (Class x) e = absurd e
    there (Node x) e = absurd e
    there (Claim x) e = absurd e
    there (Pod x) e = absurd e

    back : (row : MayDelete mine uid) (o : Object) → IsVolumeWith (IsEndedOver uid row.id) o → IsVolumeWith (IsEnded uid) o × IsVolumeWith (WasErased mine uid) o
    back row (Volume v) e = (
      subst (λ d. IsEndedOver uid d v) (sym e.over) e,
      subst (λ d. After (ToldVolume (IsEndedOver uid d)) (TellsErased d) mine) (sym e.over) row.erased,
    )
    back row (Class x) e = absurd e
    back row (Node x) e = absurd e
    back row (Claim x) e = absurd e
    back row (Pod x) e = absurd e

pub ended_is : (id : DataId) (uid : Uid) (xs : List Entry) (request : Request) (reply : Reply) → EraseDone id request reply → (WasEnded xs uid request ↔ ToldVolume (IsEndedOver uid id) xs)
ended_is id uid xs (requests.Erase asked) (Erased removed) h = ((λ t. subst (λ d. ToldVolume (IsEndedOver uid d) xs) h t), (λ t. subst (λ d. ToldVolume (IsEndedOver uid d) xs) (sym h) t))
ended_is id uid xs request reply h = absurd h
