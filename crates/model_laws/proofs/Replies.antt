-- What a Done and a Left come from: a write, or a second delete.
use Rattle.std.proofs.Common.{sym, refl, subst, inl, inr, ap, ◌∙◌, true≢false, arith}
use Rattle.std.specs.Prelude.{◌≡◌, ◌≢◌, Bool, true, false, Some, ⊤}
use Rattle.kube_objects.specs.declared.key.Key.{Key}
use Rattle.kube_objects.specs.declared.objects.Object.{Object}
use Rattle.kube_objects.specs.Keys.{key_of, row_at}
use Rattle.kube_objects.proofs.KeyOrder.{row_at_key, row_at-put_row, row_at-put_row_other, row_at-without_row, row_at-without_row_other}
use Rattle.call_types.specs.declared.setup.Setup.{Setup}
use Rattle.call_types.specs.declared.request.SeatKind.{SeatKind}
use Rattle.call_types.specs.declared.request.Request.{Request}
use Rattle.call_types.specs.declared.reply.Change.{Change}
use Rattle.call_types.specs.declared.reply.Reply.{Reply}
use Rattle.call_types.specs.declared.reply.Reply.TheVariants as replies
use Rattle.binder_model.specs.Answers.{Says, Stores, Removes, reply_of, after}
use Rattle.binder_model.specs.World.{World, Effect, OnStore, OnDevices, SetsMoment, effect, reply_to, world_after}
use Rattle.model_laws.proofs.Said.{IsOfDevices, Sayings, EffectSays, effect_said}
use Rattle.model_laws.specs.Calls.{IsSecondDelete, WritesLeaveOthers, DoneStands, LeftIsGone, DoneWritesOrDeletesAgain}

-- what a Done of an effect is: a write of the object, or the second delete
pub data DoneBy (w : World) (request : Request) (o : Object) : Effect → Type 0 where
  Wrote : (change : Change) → DoneBy w request o (OnStore (Stores change o))
  Again : IsSecondDelete w request o → DoneBy w request o (OnStore (Says (replies.Done o)))

pub record Writing (w : World) (request : Request) (x : Effect) : Type 0 where
  pub done : (o : Object) → reply_to x ≡ replies.Done o → DoneBy w request o x
  pub left : (o : Object) → reply_to x ≡ replies.Left o → x ≡ OnStore (Removes o)

done_of : (o p : Object) → replies.Done o ≡ replies.Done p → o ≡ p
done_of o p e = ap of e
  where
    of : Reply → Object
    of (replies.Done x) = x
    of r = o

left_of : (o p : Object) → replies.Left o ≡ replies.Left p → o ≡ p
left_of o p e = ap of e
  where
    of : Reply → Object
    of (replies.Left x) = x
    of r = o

-- what is said without a write: no Left, and a Done only for the second delete
abbrev NoWrite : World → Request → Reply → Type 0
NoWrite w request (replies.Done o) = IsSecondDelete w request o
NoWrite w request (replies.Left o) = ⊥
NoWrite w request reply = ⊤

of_devices : (w : World) (request : Request) (reply : Reply) → IsOfDevices reply → NoWrite w request reply
of_devices w request (replies.Done o) is = absurd is
of_devices w request (replies.Left o) is = absurd is
of_devices w request reply is = tt

sayings : (w : World) (request : Request) → Sayings w request (NoWrite w request)
sayings w request = record {
  refused = λ r. tt;
  again = λ o second. second;
  found = λ key o is. tt;
  listed = λ k namespace. tt;
  watched = λ k from. tt;
  timed = tt;
  device = of_devices w request;
}

is_done : Reply → Bool
is_done (replies.Done x) = true
is_done reply = false

says_done : (w : World) (request : Request) (reply : Reply) → NoWrite w request reply → (o : Object) → reply ≡ replies.Done o → IsSecondDelete w request o
says_done w request reply s o e = subst (NoWrite w request) e s

says_left : (w : World) (request : Request) (reply : Reply) → NoWrite w request reply → (o : Object) → reply ≡ replies.Left o → ⊥
says_left w request reply s o e = subst (NoWrite w request) e s

done_is : (w : World) (request : Request) (reply : Reply) → NoWrite w request reply → (o : Object) → reply ≡ replies.Done o → DoneBy w request o (OnStore (Says reply))
done_is w request reply s o e = subst (λ (r : Reply). DoneBy w request o (OnStore (Says r))) (sym e) (Again (says_done w request reply s o e))

on_effect : (w : World) (request : Request) (x : Effect) → EffectSays (NoWrite w request) x → Writing w request x
unfolding reply_to reply_of is_done
on_effect w request (OnStore (Says reply)) s = record { done = done_is w request reply s; left = λ o e. absurd (says_left w request reply s o e) }
on_effect w request (OnStore (Stores change p)) s = record {
  done = λ o e. subst (λ (z : Object). DoneBy w request z (OnStore (Stores change p))) (done_of p o e) (Wrote change);
  left = λ o e. absurd (true≢false (ap is_done e));
}
on_effect w request (OnStore (Removes p)) s = record {
  done = λ o e. absurd (true≢false (ap is_done (sym e)));
  left = λ o e. ap (λ z. OnStore (Removes z)) (left_of p o e);
}
on_effect w request (OnDevices a) s = record { done = λ o e. absurd (subst IsOfDevices e s.0); left = λ o e. absurd (says_left w request a.reply s.1 o e) }
on_effect w request (SetsMoment at) s = record { done = λ o e. absurd (true≢false (ap is_done (sym e))); left = λ o e. absurd (says_left w request replies.Timed tt o e) }

pub writing : (setup : Setup) (w : World) (kind : SeatKind) (request : Request) → Writing w request (effect setup w kind request)
writing setup w kind request = on_effect w request _ (effect_said setup w kind request (sayings w request)).said

-- the four laws

others_by : (w : World) (request : Request) (o : Object) (x : Effect) (key : Key) → DoneBy w request o x → key_of o ≢ key → row_at key (world_after w x).store.rows ≡ row_at key w.store.rows
unfolding world_after after
others_by w request o (OnStore _) key (Wrote change) other = row_at-put_row_other key o w.store.rows other
others_by w request o (OnStore _) key (Again second) other = refl
others_by w request o (OnDevices _) key by other = elim by [ ]
others_by w request o (SetsMoment _) key by other = elim by [ ]

others_left : (w : World) (o : Object) (x : Effect) (key : Key) → x ≡ OnStore (Removes o) → key_of o ≢ key → row_at key (world_after w x).store.rows ≡ row_at key w.store.rows
unfolding world_after after
others_left w o x key is other = ap (λ z. row_at key (world_after w z).store.rows) is ∙ row_at-without_row_other (key_of o) key w.store.rows other

pub writes_leave_others : WritesLeaveOthers
writes_leave_others setup w kind request o key tells other = elim tells [
  | inl done ↦ others_by w request o _ key ((writing setup w kind request).done o done) other
  | inr left ↦ others_left w o _ key ((writing setup w kind request).left o left) other
]

stands_by : (w : World) (request : Request) (o : Object) (x : Effect) → DoneBy w request o x → row_at (key_of o) (world_after w x).store.rows ≡ Some o
unfolding world_after after
stands_by w request o (OnStore _) (Wrote change) = row_at-put_row o w.store.rows
stands_by w request o (OnStore _) (Again second) = ap (λ k. row_at k w.store.rows) (row_at_key second.key o w.store.rows second.there) ∙ second.there
stands_by w request o (OnDevices _) by = elim by [ ]
stands_by w request o (SetsMoment _) by = elim by [ ]

pub done_stands : DoneStands
done_stands setup w kind request o done = stands_by w request o _ ((writing setup w kind request).done o done)

pub left_is_gone : LeftIsGone
unfolding world_after after
left_is_gone setup w kind request o rows left =
    ap (λ z. row_at (key_of o) (world_after w z).store.rows) ((writing setup w kind request).left o left) ∙ row_at-without_row (key_of o) w.store.rows rows

again_by : (w : World) (request : Request) (o : Object) (x : Effect) → DoneBy w request o x → (world_after w x).store.version ≡ w.store.version → IsSecondDelete w request o
unfolding world_after after
again_by w request o (OnStore _) (Wrote change) same = absurd (omega (arith, same))
again_by w request o (OnStore _) (Again second) same = second
again_by w request o (OnDevices _) by same = elim by [ ]
again_by w request o (SetsMoment _) by same = elim by [ ]

pub done_writes_or_deletes_again : DoneWritesOrDeletesAgain
done_writes_or_deletes_again setup w kind request o done same = again_by w request o _ ((writing setup w kind request).done o done) same
