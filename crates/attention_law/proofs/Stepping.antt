-- The calls of an actor are the steps of a life.
use Rattle.std.proofs.Common.{◌≡◌, List, [], ◌∷◌, false, Result, Ok, Err, IfOk, Some, None, refl}
use Rattle.call_types.specs.declared.entry.Entry.{Entry}
use Rattle.call_types.specs.declared.request.Request.{Request}
use Rattle.call_types.specs.declared.reply.Reply.{Reply}
use Rattle.informer_cache.specs.Cache.{IsTold}
use Rattle.worker_core.specs.declared.role.Role.{Role}
use Rattle.worker_core.specs.declared.turn.Next.TheVariants as nexts
use Rattle.worker_core.specs.declared.turn.Outcome.{Outcome}
use Rattle.worker_core.specs.declared.turn.Outcome.TheVariants as outcomes
use Rattle.worker_core.specs.Absorbs.{absorbed, woken}
use Rattle.worker_core.specs.Stands.{AreOwn, IsNew, StandsFor}
use Rattle.worker_core.specs.States.{ActorState}
use Rattle.attention_law.specs.Diligence.{Call, entries}
use Rattle.attention_law.specs.Played.{Begins, IsPlayed, LostAfter, LostBefore, Told, Turns, Wakes}

pub if_both : {X E : Type 0} (r : Result X E) (P Q R : X → Type 0) → ((x : X) → P x → Q x → R x) → IfOk r P → IfOk r Q → IfOk r R
if_both (Ok x) P Q R f p q = f x p q
if_both (Err e) P Q R f p q = tt

pub begun : (role : Role) (s : ActorState) → IsNew role s → StandsFor s [] → IsPlayed role s []
begun role s new stands = Begins refl new stands

-- what the clauses of the actor's methods give, and what follows of a life

module _ (old new : ActorState) (request : Request) where
  abbrev pub ToldStands : Outcome → Type 0
  ToldStands outcome = (mine : List Entry) (e : Entry) (reply : Reply) → outcome ≡ outcomes.Told reply → IsTold e request reply
      → e.kind ≡ old.role.kind → AreOwn (e ∷ mine) → StandsFor old mine → StandsFor new (e ∷ mine)

  abbrev pub LostStands : Type 0
  LostStands = (mine : List Entry) → outcomes.Lost ≡ outcomes.Lost → StandsFor old mine → StandsFor new mine

  abbrev pub UntoldStands : Type 0
  UntoldStands = (mine : List Entry) (e : Entry) → outcomes.Lost ≡ outcomes.Lost → e.told ≡ false → e.request ≡ request → e.kind ≡ old.role.kind
      → AreOwn (e ∷ mine) → StandsFor old mine → StandsFor new (e ∷ mine)

  pub told : (reply : Reply) → new ≡ absorbed old new.caches request (outcomes.Told reply) → ToldStands (outcomes.Told reply)
      → (role : Role) (s : ActorState) (calls : List Call) (e : Entry) → IsPlayed role s calls → Turns s old (nexts.Call request) (entries calls)
      → IsTold e request reply → e.kind ≡ old.role.kind → AreOwn (e ∷ entries calls) → IsPlayed role new (Some e ∷ calls)
  told reply takes stands role s calls e played turns tells kind own =
      Told s calls e request reply played refl tells (record { turned = old; turns = turns; takes = takes }) (stands (entries calls) e reply refl tells kind own turns.stands)

  pub lost_before : new ≡ absorbed old new.caches request outcomes.Lost → LostStands
      → (role : Role) (s : ActorState) (calls : List Call) → IsPlayed role s calls → Turns s old (nexts.Call request) (entries calls) → IsPlayed role new (None ∷ calls)
  lost_before takes stands role s calls played turns = LostBefore s calls request played refl (record { turned = old; turns = turns; takes = takes }) (stands (entries calls) refl turns.stands)

  pub lost_after : new ≡ absorbed old new.caches request outcomes.Lost → UntoldStands
      → (role : Role) (s : ActorState) (calls : List Call) (e : Entry) → IsPlayed role s calls → Turns s old (nexts.Call request) (entries calls)
      → e.told ≡ false → e.request ≡ request → e.kind ≡ old.role.kind → AreOwn (e ∷ entries calls) → IsPlayed role new (Some e ∷ calls)
  lost_after takes stands role s calls e played turns lost asks kind own =
      LostAfter s calls e request played refl lost asks (record { turned = old; turns = turns; takes = takes }) (stands (entries calls) e refl lost asks kind own turns.stands)

pub wakes : (old new : ActorState) → new ≡ woken old → ((mine : List Entry) → StandsFor old mine → StandsFor new mine)
    → (role : Role) (s : ActorState) (calls : List Call) → IsPlayed role s calls → Turns s old nexts.Idle (entries calls) → IsPlayed role new calls
wakes old new is stands role s calls played turns = Wakes s old played turns is (stands (entries calls) turns.stands)
