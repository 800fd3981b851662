-- Which effects give a UID: creates, and they give that of their write.
use Rattle.std.proofs.Common.{refl, ap}
use Rattle.std.specs.Prelude.{ℕ, ◌≡◌, ◌+◌, Bool, true, false, List, Option, Some, None, ⊤}
use Rattle.kube_parts.specs.declared.uid.Uid.{Uid}
use Rattle.kube_objects.specs.declared.objects.Pod.{Pod as PodData}
use Rattle.kube_objects.specs.declared.objects.Object.{Object}
use Rattle.kube_objects.specs.Keys.{meta_of}
use Rattle.kube_parts.specs.Uids.{uid_of_serial}
use Rattle.call_types.specs.declared.edit.Edit.{Edit}
use Rattle.call_types.specs.declared.request.NewStatus.{NewStatus}
use Rattle.call_types.specs.declared.request.SeatKind.{SeatKind}
use Rattle.call_types.specs.declared.request.Request.{Request}
use Rattle.call_types.specs.declared.request.Request.TheVariants as requests
use Rattle.call_types.specs.declared.reply.Change.TheVariants.{Added}
use Rattle.binder_model.specs.Store.{State, created_object, admitted_object, without_status, leaves}
use Rattle.binder_model.specs.Answers.{Outcome, Stores, write_outcome, create, update, written_if_fits, update_status, edit_to, edit, delete_of, delete, get, list, bind, finish, outcome}
use Rattle.model_laws.proofs.OnOutcome.{OnOutcome, says, refused_or, field_or, rule_or, stale_or}
use Rattle.model_laws.proofs.Versions.{meta-with_meta}

-- a new object has the UID of this write
abbrev pub Gives : ℕ → Outcome → Type 0
Gives n (Stores Added o) = (meta_of o).uid ≡ Some (uid_of_serial n)
Gives n x = ⊤

wrote : (n : ℕ) (o : Object) → OnOutcome (Gives n) (write_outcome o)
wrote n o = by_leaving (leaves o) refl
  where
    by_leaving : (b : Bool) → leaves o ≡ b → OnOutcome (Gives n) (write_outcome o)
    by_leaving true e = rw e (record { holds = tt })
    by_leaving false e = rw e (record { holds = tt })

create_gives : (s : State) (kind : SeatKind) (o : Object) (moment : List ℕ) (x : Option Object) → OnOutcome (Gives (s.version + 1)) (create s kind o moment x)
unfolding create created_object
create_gives s kind o moment (Some old) = says (λ r. tt) _
create_gives s kind o moment None = rule_or (λ r. tt) _ _ (field_or (λ r. tt) _ _ (λ e. record { holds = ap (λ m. m.uid) (meta-with_meta (admitted_object _ (without_status o)) _) }))

update_gives : (n : ℕ) (s : State) (kind : SeatKind) (o : Object) (given : Option ℕ) (x : Option Object) → OnOutcome (Gives n) (update s kind o given x)
unfolding update
update_gives n s kind o given None = says (λ r. tt) _
update_gives n s kind o given (Some old) = refused_or (λ r. tt) _ _ _ (rule_or (λ r. tt) _ _ (field_or (λ r. tt) _ _ (λ e. wrote n _)))

if_fits : (n : ℕ) (s : State) (x : Option Object) → OnOutcome (Gives n) (written_if_fits s x)
unfolding written_if_fits
if_fits n s None = says (λ r. tt) _
if_fits n s (Some o) = wrote n _

status_gives : (n : ℕ) (s : State) (kind : SeatKind) (status : NewStatus) (given : Option ℕ) (x : Option Object) → OnOutcome (Gives n) (update_status s kind status given x)
unfolding update_status
status_gives n s kind status given None = refused_or (λ r. tt) _ _ _ (says (λ r. tt) _)
status_gives n s kind status given (Some old) = refused_or (λ r. tt) _ _ _ (refused_or (λ r. tt) _ _ _ (if_fits n s _))

edit_to_gives : (n : ℕ) (s : State) (kind : SeatKind) (old : Object) (x : Option Object) → OnOutcome (Gives n) (edit_to s kind old x)
unfolding edit_to
edit_to_gives n s kind old None = says (λ r. tt) _
edit_to_gives n s kind old (Some new) = rule_or (λ r. tt) _ _ (field_or (λ r. tt) _ _ (λ e. wrote n _))

edit_gives : (n : ℕ) (s : State) (kind : SeatKind) (change : Edit) (x : Option Object) → OnOutcome (Gives n) (edit s kind change x)
unfolding edit
edit_gives n s kind change None = says (λ r. tt) _
edit_gives n s kind change (Some old) = edit_to_gives n s kind old _

delete_of_gives : (n : ℕ) (s : State) (moment : List ℕ) (old : Object) (at_once deleting : Bool) → OnOutcome (Gives n) (delete_of s moment old at_once deleting)
unfolding delete_of
delete_of_gives n s moment old true deleting = record { holds = tt }
delete_of_gives n s moment old false true = says (λ r. tt) _
delete_of_gives n s moment old false false = wrote n _

delete_gives : (n : ℕ) (s : State) (moment : List ℕ) (given : Option Uid) (x : Option Object) → OnOutcome (Gives n) (delete s moment given x)
unfolding delete
delete_gives n s moment given None = says (λ r. tt) _
delete_gives n s moment given (Some old) = refused_or (λ r. tt) _ _ _ (delete_of_gives n s moment old _ _)

get_gives : (n : ℕ) (x : Option Object) → OnOutcome (Gives n) (get x)
unfolding get
get_gives n None = says (λ r. tt) _
get_gives n (Some o) = says (λ r. tt) _

bind_gives : (n : ℕ) (s : State) (node : List ℕ) (p : Option PodData) → OnOutcome (Gives n) (bind s node p)
unfolding bind
bind_gives n s node None = says (λ r. tt) _
bind_gives n s node (Some p) = refused_or (λ r. tt) _ _ _ (refused_or (λ r. tt) _ _ _ (record { holds = tt }))

finish_gives : (n : ℕ) (s : State) (stale : Option ℕ) (node : List ℕ) (p : Option PodData) → OnOutcome (Gives n) (finish s stale node p)
unfolding finish
finish_gives n s stale node None = says (λ r. tt) _
finish_gives n s stale node (Some p) = stale_or (λ r. tt) _ _ (refused_or (λ r. tt) _ _ _ (refused_or (λ r. tt) _ _ _ (record { holds = tt })))

pub outcome_gives : (s : State) (kind : SeatKind) (request : Request) (moment : List ℕ) (stale : Option ℕ) → OnOutcome (Gives (s.version + 1)) (outcome s kind request moment stale)
unfolding outcome list
outcome_gives s kind (requests.Create o) moment stale = create_gives s kind o moment _
outcome_gives s kind (requests.Update o given) moment stale = update_gives _ s kind o given _
outcome_gives s kind (requests.UpdateStatus key status given) moment stale = status_gives _ s kind status given _
outcome_gives s kind (requests.Edit key change) moment stale = edit_gives _ s kind change _
outcome_gives s kind (requests.Delete key given) moment stale = delete_gives _ s moment given _
outcome_gives s kind (requests.Get key) moment stale = get_gives _ _
outcome_gives s kind (requests.List k namespace) moment stale = says (λ r. tt) _
outcome_gives s kind (requests.BindPod key uid node) moment stale = refused_or (λ r. tt) _ _ _ (bind_gives _ s node _)
outcome_gives s kind (requests.FinishPod key uid node epoch) moment stale = refused_or (λ r. tt) _ _ _ (finish_gives _ s stale node _)
outcome_gives s kind _ moment stale = says (λ r. tt) _
