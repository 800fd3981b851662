-- What is begun where an actor decides, from what it does on the world as it stands there; and tests that are the same on the caches and on the store.
use Rattle.std.proofs.Common.{◌≡◌, ◌∙◌, ℕ, List, Bool, true, false, refl, sym}
use Rattle.std.specs.List.{list_any}
use Rattle.kube_objects.specs.declared.key.Key.{Key}
use Rattle.kube_objects.specs.declared.objects.Object.{Object}
use Rattle.kube_objects.specs.Keys.{AreRows, key_of, row_at}
use Rattle.call_types.specs.declared.entry.Entry.{Entry}
use Rattle.call_types.specs.declared.request.SeatKind.{SeatKind}
use Rattle.call_types.specs.declared.setup.Setup.{Setup}
use Rattle.binder_model.specs.Reading.{follows}
use Rattle.binder_model.specs.World.{world}
use Rattle.informer_cache.specs.All.{all_objects}
use Rattle.model_laws.proofs.Lists.{IsIn}
use Rattle.model_laws.proofs.Readings.{found_stands, member_stands}
use Rattle.worker_core.specs.declared.role.Role.{Role}
use Rattle.worker_core.specs.declared.task.Under.{Under}
use Rattle.worker_core.specs.States.{ActorState}
use Rattle.worker_core.specs.Tasks.{GivesCall}
use Rattle.settle_alike.specs.Alike.Alike.{AreAlike}
use Rattle.settle_alike.proofs.Alike.Calls.{then_alike}
use Rattle.settle_slot.specs.Slot.Slots.{IsDecisionPoint}
use Rattle.settle_slot.specs.Slot.Would.{AtOnce, Later, WouldActOn, WouldLast}
use Rattle.settle_due.proofs.Upkeep.Claims.{none_among}
use Rattle.settle_due.proofs.Binding.Matches.{some_among}

-- what would last from a world that is like that of the start would last from the start
from_start : (setup : Setup) (seat : ℕ) (kind : SeatKind) (start middle : List Entry) → AreAlike (world setup start) (world setup middle)
    → (h : List Entry) (u : Under) → WouldLast setup seat kind middle h u → WouldLast setup seat kind start h u
from_start setup seat kind start middle same h u (AtOnce alike lasts) = AtOnce (then_alike _ _ _ same alike) lasts
from_start setup seat kind start middle same h u (Later alike next follows more) = Later (then_alike _ _ _ same alike) next follows (from_start setup seat kind start middle same _ next more)

-- where the actor acts on the key, as the world stands, what it begins for it would last
pub by_acting : (setup : Setup) (seat : ℕ) (role : Role) (start : List Entry) (s : ActorState) (h : List Entry) (u : Under)
    → IsDecisionPoint setup seat role start s h → GivesCall s.role s.memory (all_objects s.caches) u
    → WouldActOn setup seat role h u.key → WouldLast setup seat role.kind start h u
by_acting setup seat role start s h u p gives acts = from_start setup seat role.kind start h p.alike h u (acts.lasts s h u here refl gives)
  where
    here : IsDecisionPoint setup seat role h s h
    here = record { role_is = p.role_is; history = p.history; alike = record { rows = refl; stored = refl; mounts = refl }; ready = p.ready; sees = p.sees }

-- what passes a test is cached where it stands, if the actor follows each kind of which such is
pub any_seen : (kind : SeatKind) (cached rows : List Object) → AreRows cached → AreRows rows → ((k : Key) → follows kind k.kind ≡ true → row_at k cached ≡ row_at k rows) → (p : Object → Bool)
    → ((o : Object) → p o ≡ true → follows kind (key_of o).kind ≡ true) → list_any p cached ≡ list_any p rows
any_seen kind cached rows ordered order same p followed = by (list_any p rows) refl
  where
    to_store : (o : Object) → IsIn o cached → p o ≡ true → IsIn o rows
    to_store o i e = found_stands (key_of o) o rows (sym (same (key_of o) (followed o e)) ∙ member_stands o cached ordered i)

    to_cache : (o : Object) → IsIn o rows → p o ≡ true → IsIn o cached
    to_cache o i e = found_stands (key_of o) o cached (same (key_of o) (followed o e) ∙ member_stands o rows order i)

    by : (b : Bool) → list_any p rows ≡ b → list_any p cached ≡ list_any p rows
    by true e = some_among p rows cached to_cache e ∙ sym e
    by false e = none_among p cached rows to_store e ∙ sym e
