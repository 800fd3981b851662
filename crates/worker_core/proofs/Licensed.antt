-- What an actor gives is licensed, where it stands for the entries of its seat.
use Rattle.std.proofs.Common.{◌≡◌, List, true, Option, Some, None, inl, inr, refl, sym, ◌∙◌, ap, subst}
use Rattle.std.specs.Prelude.{option_map}
use Rattle.kube_parts.specs.declared.parts.Kind.{Kind}
use Rattle.call_types.specs.declared.entry.Entry.{Entry}
use Rattle.call_types.specs.declared.request.Request.{Request}
use Rattle.call_types.specs.declared.request.SeatKind.{SeatKind}
use Rattle.binder_model.specs.Licence.{AreOfKind, Licensed, RowAllows}
use Rattle.binder_model.specs.Reading.{Following, Unlisted, ListedAt, MayRead, following_of, follows}
use Rattle.informer_cache.specs.Cache.{ask_from, ask_of, watch_from}
use Rattle.informer_cache.specs.All.{AllKnown, AllStandFor, cache_of}
use Rattle.model_laws.proofs.Lists.{one, none_some}
use Rattle.worker_core.specs.declared.role.Role.{Role}
use Rattle.worker_core.specs.declared.task.Under.{Under}
use Rattle.worker_core.specs.declared.turn.Given.{Given}
use Rattle.worker_core.specs.declared.turn.Given.TheVariants as givens
use Rattle.worker_core.specs.Roles.{IsBuiltKind}
use Rattle.worker_core.specs.Stands.{AnyIsUnderWay, GivenStands, StandsFor}
use Rattle.worker_core.specs.States.{ActorState, asked, call_under, given_call, read_of_kind, read_request}
use Rattle.worker_core.proofs.ByKind.{EpochStands, epoch_stands, read_row, start_allowed}
use Rattle.model_laws.proofs.Licences.{licensed_by}
use Rattle.worker_core.proofs.Machines.{keeps_under, task_allowed}
use Rattle.worker_core.proofs.Owning.{Stood, all_of_kind, stood}

-- the read that a cache asks is licensed
read_licensed : (seat : SeatKind) (mine : List Entry) (kind : Kind) → follows seat kind ≡ true → MayRead seat mine (read_request kind (ask_from (watch_from (following_of mine kind))))
read_licensed seat mine kind of = by (following_of mine kind) refl
  where
    by : (f : Following) → following_of mine kind ≡ f → MayRead seat mine (read_request kind (ask_from (watch_from f)))
    by Unlisted is = (of, rw is tt)
    by (ListedAt version None) is = (of, rw is (inl refl))
    by (ListedAt version (Some upto)) is = (of, rw is (inr refl))

read_allowed : (seat : SeatKind) (c : AllKnown) (mine : List Entry) (kind : Kind) → AllStandFor c mine → follows seat kind ≡ true → RowAllows seat mine (read_of_kind c kind)
read_allowed seat c mine kind stand of =
    let from = (stand.each kind).from ∙ ap (λ k. watch_from (following_of mine k)) (stand.kinds kind) in
    read_row seat mine kind (ask_of (cache_of kind c)) (subst (λ f. MayRead seat mine (read_request kind (ask_from f))) (sym from) (read_licensed seat mine kind of))

under_allowed : (role : Role) (under : Option Under) (mine : List Entry) (r : Request) → Stood role mine → AnyIsUnderWay role under mine
    → option_map call_under under ≡ Some r → RowAllows role.kind mine r
under_allowed role None mine r stood way e = none_some e
under_allowed role (Some u) mine r stood way e =
    let k = keeps_under role u mine stood way in
    let own : AreOfKind role.kind mine = all_of_kind role.kind mine stood.licensed in
    subst (λ kind. RowAllows kind mine r) k.of_kind (task_allowed u.task mine r (subst (λ kind. AreOfKind kind mine) (sym k.of_kind) own) k.keeps (k.call ∙ e))

-- the call that was given is allowed
pub given_allowed : (s : ActorState) (mine : List Entry) (r : Request) → IsBuiltKind s.role.kind → StandsFor s mine → asked s ≡ Some r → RowAllows s.role.kind mine r
given_allowed s mine r built stands = by s.given stands.given
  where
    by : (g : Option Given) → GivenStands s.role s.memory g s.under → given_call s g ≡ Some r → RowAllows s.role.kind mine r
    by None f e = none_some e
    by (Some givens.Task) f e = under_allowed s.role s.under mine r (stood s mine stands) stands.under_way e
    by (Some givens.Start) f e = start_allowed s.role.kind s.role.node s.memory mine r built (subst (λ m. EpochStands s.role.kind s.role.node m mine) (sym stands.memory) (epoch_stands s.role mine)) e
    by (Some (givens.Read kind)) f e = subst (λ q. RowAllows s.role.kind mine q) (one _ r e) (read_allowed s.role.kind s.caches mine kind stands.caches f.0)

pub licensed : (s : ActorState) (mine : List Entry) (r : Request) → IsBuiltKind s.role.kind → StandsFor s mine → asked s ≡ Some r → Licensed s.role.kind mine r
licensed s mine r built stands e = licensed_by s.role.kind mine r (all_of_kind s.role.kind mine stands.licensed) (given_allowed s mine r built stands e)
