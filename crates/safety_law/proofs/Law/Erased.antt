-- Data are erased only for what is ended with policy Delete: the fifth part.
use Rattle.std.proofs.Common.{sym, refl, subst, inl, inr, ap, ◌∙◌, true≢false}
use Rattle.std.specs.Prelude.{if◌then◌else◌, ◌≡◌, Bool, true, false, List, [], ◌∷◌, Option, Some, None, is_some}
use Rattle.kube_parts.specs.declared.uid.Uid.{Uid}
use Rattle.kube_objects.specs.declared.objects.DataId.{DataId}
use Rattle.kube_objects.specs.declared.objects.Ref.{Ref}
use Rattle.kube_objects.specs.declared.objects.Volume.{Volume as VolumeData}
use Rattle.kube_objects.specs.declared.objects.Object.TheVariants.{Volume}
use Rattle.kube_objects.specs.Bindings.{ref_uid}
use Rattle.kube_objects.specs.Sources.{data_id_of}
use Rattle.call_types.specs.declared.entry.Entry.{Entry}
use Rattle.call_types.specs.declared.setup.Setup.{Setup}
use Rattle.call_types.specs.declared.request.SeatKind.{SeatKind}
use Rattle.call_types.specs.declared.request.SeatKind.TheVariants as seats
use Rattle.call_types.specs.declared.request.Request.{Request}
use Rattle.call_types.specs.declared.request.Request.TheVariants as requests
use Rattle.call_types.specs.declared.reply.Reply.{Reply}
use Rattle.call_types.specs.declared.reply.Reply.TheVariants as replies
use Rattle.binder_model.specs.Devices.{same_id, device_answer}
use Rattle.binder_model.specs.Told.{SomeOf, objects_in, ToldObject, TellsObject, first_some, found_over, last_found}
use Rattle.binder_model.specs.Licence.{Licensed}
use Rattle.binder_model.specs.OpsLicence.{MayErase}
use Rattle.binder_model.specs.World.{world, effect, reply_to, on_devices}
use Rattle.binder_model.specs.Answers.{reply_of}
use Rattle.binder_model.specs.Safe.{ErasesEnded, ErasesWell}
use Rattle.safety_law.specs.Invariant.Was.{Refers, IsFinal}
use Rattle.safety_law.specs.Invariant.Invariant.{Invariant}
use Rattle.safety_law.specs.Invariant.Good.{IsTrue}
use Rattle.std.proofs.lemmas.Option.{same_Some, none-some}
use Rattle.safety_law.proofs.Invariant.Tests.{known_uid}
use Rattle.model_laws.specs.Stood.{Stood}

-- the volume that a Get found was told
found_told : (id : DataId) (e : Entry) (v : VolumeData) → found_over id e.told e.reply ≡ Some v → TellsObject (λ x. x ≡ Volume v) e
found_told id e v is = by e.told e.reply refl refl is
  where
    found : (told : Bool) (reply : Reply) (u : VolumeData) (b : Bool) → e.told ≡ true → e.reply ≡ replies.Found (Volume u)
        → (if b then Some u else None) ≡ Some v → TellsObject (λ x. x ≡ Volume v) e
    found told reply u true t r is = (t, subst (λ (x : Reply). SomeOf (λ y. y ≡ Volume v) (objects_in x)) (sym r) (inl (ap (λ (x : VolumeData). Volume x) (same_Some u v is))))
    found told reply u false t r is = absurd (none-some _ is)

    by : (told : Bool) (reply : Reply) → e.told ≡ told → e.reply ≡ reply → found_over id told reply ≡ Some v → TellsObject (λ x. x ≡ Volume v) e
    by true (replies.Found (Volume u)) t r is = found true (replies.Found (Volume u)) u (same_id (data_id_of u.source) id) t r is
    by told reply t r is = absurd (none-some _ is)

last_told : (id : DataId) (mine : List Entry) (v : VolumeData) → last_found id mine ≡ Some v → ToldObject (λ x. x ≡ Volume v) mine
last_told id [] v is = absurd (none-some _ is)
last_told id (e ∷ mine) v is = by (found_over id e.told e.reply) refl is (last_told id mine v)
  where
    by : (x : Option VolumeData) → found_over id e.told e.reply ≡ x → first_some x (last_found id mine) ≡ Some v
        → (last_found id mine ≡ Some v → ToldObject (λ o. o ≡ Volume v) mine) → ToldObject (λ o. o ≡ Volume v) (e ∷ mine)
    by (Some u) f is more = inl (found_told id e v (f ∙ is))
    by None f is more = inr (more is)

known_ref : (v : VolumeData) (x : Option Ref) → v.claim_ref ≡ x → is_some (ref_uid x) ≡ true → (r : Ref) × (uid : Uid) × Refers v r uid
known_ref v None is e = absurd (true≢false (sym e))
known_ref v (Some r) is e = let u = known_uid r.uid e in (r, u.0, record { is = is; known = u.1 })

erases_ended : (setup : Setup) (past mine : List Entry) → Invariant setup past → IsTrue setup past mine → (id : DataId) → MayErase mine id
    → ErasesEnded (world setup past).store.rows mine id
erases_ended setup past mine inv true_of id row =
    let t = true_of (λ x. x ≡ Volume row.volume) (last_told id mine row.volume row.last) in
    let was : Stood setup past (Volume row.volume) = subst (Stood setup past) t.2 t.1 in
    let u = known_uid row.volume.meta.uid (inv.has (Volume row.volume) was) in
    let r = known_ref row.volume row.volume.claim_ref refl row.ended.referring in
    let final : IsFinal r.0 row.volume = record { released = row.ended.ended; policy = row.ended.policy; refers = r.2.is } in
    record {
      volume = row.volume;
      last = row.last;
      uid = u.0;
      known = u.1;
      since = λ key v is same. let f = inv.lasts row.volume r.0 r.1 key v was r.2 final is (same ∙ sym u.1) in record { ended = f.released; policy = f.policy };
    }

-- an Erase is the reclaimer's
erase_row : (setup : Setup) (past mine : List Entry) → Invariant setup past → IsTrue setup past mine → (kind : SeatKind) (id : DataId) (removed : Bool)
    → Licensed kind mine (requests.Erase id) → reply_to (effect setup (world setup past) kind (requests.Erase id)) ≡ replies.Erased removed
    → ErasesEnded (world setup past).store.rows mine id
unfolding effect on_devices device_answer reply_to reply_of
erase_row setup past mine inv true_of seats.User id removed l is = absurd (true≢false (sym (ap is_erased is)))
  where
    is_erased : Reply → Bool
    is_erased (replies.Erased removed) = true
    is_erased reply = false
erase_row setup past mine inv true_of seats.Ops id removed l is = erases_ended setup past mine inv true_of id l.1
erase_row setup past mine inv true_of kind id removed l is = absurd l.1

pub erases_well : (setup : Setup) (past mine : List Entry) → Invariant setup past → IsTrue setup past mine
    → (kind : SeatKind) (request : Request) (reply : Reply) → Licensed kind mine request
    → reply ≡ reply_to (effect setup (world setup past) kind request) → ErasesWell (world setup past).store.rows mine request reply
erases_well setup past mine inv true_of kind (requests.Erase id) (replies.Erased removed) l is = erase_row setup past mine inv true_of kind id removed l (sym is)
erases_well setup past mine inv true_of kind request reply l is = tt
