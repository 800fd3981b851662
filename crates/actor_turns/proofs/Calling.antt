-- What one call of an actor makes of the history, and of what the actor stands for.
use Rattle.std.proofs.Common.{◌≡◌, ◌≢◌, ℕ, List, ◌∷◌, ◌++◌, Bool, true, false, true≢false, Option, Some, None, refl, sym, ◌∙◌, ap, subst}
use Rattle.std.specs.Prelude.{◌&&◌, not}
use Rattle.call_types.specs.declared.entry.Entry.{Entry}
use Rattle.call_types.specs.declared.request.Request.{Request}
use Rattle.call_types.specs.declared.request.SeatKind.{SeatKind}
use Rattle.call_types.specs.declared.reply.Reply.{Reply}
use Rattle.binder_model.specs.Licence.{Licensed}
use Rattle.binder_model.specs.Told.{own}
use Rattle.attention_law.specs.Diligence.{entries}
use Rattle.attention_law.specs.Resting.{Drops, Hears, Misses}
use Rattle.attention_law.proofs.Turned.{answer_role}
use Rattle.informer_cache.specs.Cache.{IsTold}
use Rattle.model_laws.proofs.Evidence.{own_mine, own_other}
use Rattle.worker_core.specs.declared.turn.Outcome.TheVariants as outcomes
use Rattle.worker_core.specs.Absorbs.{absorbed}
use Rattle.worker_core.specs.Roles.{IsBuiltKind}
use Rattle.worker_core.specs.Stands.{AreOwn, StandsFor}
use Rattle.worker_core.specs.States.{ActorState, asked}
use Rattle.actor_rounds.specs.Answers.Answered.{IsAnswered, Lets, all_pass}
use Rattle.actor_turns.specs.declared.loss.Fate.{Fate}
use Rattle.actor_turns.specs.declared.loss.Fate.TheVariants.{Told, LostBefore, LostAfter}
use Rattle.actor_turns.specs.Calls.{IsCallBy, leaves_entry}
use Rattle.actor_turns.specs.Steps.Living.{GoesOn}
use Rattle.actor_turns.specs.Steps.Playing.{HasCalled, StandsSince}
use Rattle.actor_turns.proofs.Since.{lost_since, none_since, told_since}

abbrev entry_of : ℕ → SeatKind → Request → Reply → Bool → Entry
entry_of seat kind request reply told = record { seat = seat; kind = kind; request = request; reply = reply; told = told }

module _ (lets : Lets) (seat : ℕ) (before after : List Entry) (old new : ActorState) (kind : SeatKind) (request : Request) (reply : Reply)
    (of : kind ≡ old.role.kind) (own_is : AreOwn (own seat after)) (passes : lets before request ≡ true) where
  others : (told : Bool) → after ≡ entry_of seat kind request reply told ∷ before → (other : ℕ) → other ≢ seat → own other after ≡ own other before
  others told is other differs = ap (own other) is ∙ own_other (entry_of seat kind request reply told) before other differs

  front : (told : Bool) → after ≡ entry_of seat kind request reply told ∷ before → own seat after ≡ entry_of seat kind request reply told ∷ own seat before
  front told is = ap (own seat) is ∙ own_mine (entry_of seat kind request reply told) before seat refl

  are_own : (told : Bool) → after ≡ entry_of seat kind request reply told ∷ before → AreOwn (entry_of seat kind request reply told ∷ own seat before)
  are_own told is = subst AreOwn (front told is) own_is

  pub told_called : IsBuiltKind old.role.kind → asked old ≡ Some request → after ≡ entry_of seat kind request reply true ∷ before
      → new ≡ absorbed old new.caches request (outcomes.Told reply)
      → ((mine : List Entry) (e : Entry) (r : Reply) → outcomes.Told reply ≡ outcomes.Told r → IsTold e request r → e.kind ≡ old.role.kind
      → AreOwn (e ∷ mine) → StandsFor old mine → StandsFor new (e ∷ mine))
      → HasCalled seat (IsCallBy lets false Told seat kind) before after old new
  told_called built ask is state absorbs = record {
    call = record { request = request; reply = reply; passes = passes; is = is };
    role = ap (λ (x : ActorState). x.role) state ∙ answer_role old new.caches request (outcomes.Told reply);
    since = λ earlier since. subst (StandsSince new earlier) (sym (front true is))
        (told_since old new earlier (own seat before) (entry_of seat kind request reply true) request reply built ask answered state
        (absorbs (own seat before) (entry_of seat kind request reply true) reply refl answered of (are_own true is)) since);
    others = others true is;
  }
    where
      answered : IsTold (entry_of seat kind request reply true) request reply
      answered = record { told = refl; asked = refl; answered = refl }

  pub untold_called : after ≡ entry_of seat kind request reply false ∷ before
      → new ≡ absorbed old new.caches request outcomes.Lost
      → ((mine : List Entry) (e : Entry) → outcomes.Lost ≡ outcomes.Lost → e.told ≡ false → e.request ≡ request → e.kind ≡ old.role.kind
      → AreOwn (e ∷ mine) → StandsFor old mine → StandsFor new (e ∷ mine))
      → HasCalled seat (IsCallBy lets false LostAfter seat kind) before after old new
  untold_called is state absorbs = record {
    call = record { request = request; reply = reply; passes = passes; is = is };
    role = ap (λ (x : ActorState). x.role) state ∙ answer_role old new.caches request outcomes.Lost;
    since = λ earlier since. subst (StandsSince new earlier) (sym (front false is))
        (lost_since old new earlier (own seat before) (entry_of seat kind request reply false) request refl state
        (absorbs (own seat before) (entry_of seat kind request reply false) refl refl refl of (are_own false is)) since);
    others = others false is;
  }

  pub told_goes : after ≡ entry_of seat kind request reply true ∷ before
      → new ≡ absorbed old new.caches request (outcomes.Told reply)
      → ((mine : List Entry) (e : Entry) (r : Reply) → outcomes.Told reply ≡ outcomes.Told r → IsTold e request r → e.kind ≡ old.role.kind
      → AreOwn (e ∷ mine) → StandsFor old mine → StandsFor new (e ∷ mine))
      → GoesOn seat false Told request before after old new
  told_goes is state absorbs role s earlier since played turns mine = record {
    call = Some e;
    left = refl;
    own = ap (λ m. e ∷ m) mine ∙ sym (front true is);
    played = Hears s since e request reply played refl answered (record { turned = old; turns = turns; takes = state })
        (absorbs (entries (since ++ earlier)) e reply refl answered of (subst (λ m. AreOwn (e ∷ m)) (sym mine) (are_own true is)) turns.stands);
  }
    where
      e : Entry
      e = entry_of seat kind request reply true

      answered : IsTold (entry_of seat kind request reply true) request reply
      answered = record { told = refl; asked = refl; answered = refl }

  pub untold_goes : after ≡ entry_of seat kind request reply false ∷ before
      → new ≡ absorbed old new.caches request outcomes.Lost
      → ((mine : List Entry) (e : Entry) → outcomes.Lost ≡ outcomes.Lost → e.told ≡ false → e.request ≡ request → e.kind ≡ old.role.kind
      → AreOwn (e ∷ mine) → StandsFor old mine → StandsFor new (e ∷ mine))
      → GoesOn seat false LostAfter request before after old new
  untold_goes is state absorbs role s earlier since played turns mine = record {
    call = Some (entry_of seat kind request reply false);
    left = refl;
    own = ap (λ m. entry_of seat kind request reply false ∷ m) mine ∙ sym (front false is);
    played = Misses s since (entry_of seat kind request reply false) request played refl refl refl (record { turned = old; turns = turns; takes = state })
        (absorbs (entries (since ++ earlier)) (entry_of seat kind request reply false) refl refl refl of
        (subst (λ m. AreOwn (entry_of seat kind request reply false ∷ m)) (sym mine) (are_own false is)) turns.stands);
  }

-- a call that leaves no entry: one that is lost before its effect, or is held back

module _ (seat : ℕ) (past : List Entry) (old new : ActorState) (request : Request) (state : new ≡ absorbed old new.caches request outcomes.Lost)
    (absorbs : (mine : List Entry) → outcomes.Lost ≡ outcomes.Lost → StandsFor old mine → StandsFor new mine) where
  none_called : (Call : List Entry → List Entry → Type 0) → Call past past → HasCalled seat Call past past old new
  none_called Call call = record {
    call = call;
    role = ap (λ (x : ActorState). x.role) state ∙ answer_role old new.caches request outcomes.Lost;
    since = λ earlier since. none_since old new earlier (own seat past) request state (absorbs (own seat past) refl) since;
    others = λ other differs. refl;
  }

  none_goes : (held : Bool) (fate : Fate) → (not held && leaves_entry fate) ≡ false → GoesOn seat held fate request past past old new
  none_goes held fate left role s earlier since played turns mine = record {
    call = None;
    left = sym left;
    own = mine;
    played = Drops s since request played refl (record { turned = old; turns = turns; takes = state }) (absorbs (entries (since ++ earlier)) refl turns.stands);
  }

  pub lost_called : (lets : Lets) (kind : SeatKind) → HasCalled seat (IsCallBy lets false LostBefore seat kind) past past old new
  lost_called lets kind = none_called (IsCallBy lets false LostBefore seat kind) refl

  pub lost_goes : GoesOn seat false LostBefore request past past old new
  lost_goes = none_goes false LostBefore refl

  pub held_called : (lets : Lets) (kind : SeatKind) (fate : Fate) (after : List Entry) → Licensed kind (own seat past) request
      → lets past request ≡ false → after ≡ past → HasCalled seat (IsCallBy lets true fate seat kind) past after old new
  held_called lets kind fate after licensed held is =
      subst (λ p. HasCalled seat (IsCallBy lets true fate seat kind) past p old new) (sym is)
      (none_called (IsCallBy lets true fate seat kind) (record { request = request; licensed = licensed; held = held; is = refl }))

  pub held_goes : (fate : Fate) (after : List Entry) → after ≡ past → GoesOn seat true fate request past after old new
  held_goes fate after is = subst (λ p. GoesOn seat true fate request past p old new) (sym is) (none_goes true fate refl)

-- ---- what a call came to

-- it is what the answer says
pub came_as : (lets : Lets) (seat : ℕ) (kind : SeatKind) (request : Request) (told : Bool) (reply answer : Option Reply) (past new : List Entry)
    → reply ≡ answer → IsAnswered lets seat kind request told reply past new → IsAnswered lets seat kind request told answer past new
came_as lets seat kind request told reply answer past new is came = subst (λ r. IsAnswered lets seat kind request told r past new) is came

-- where all pass nothing is held back
pub never_held : {X : Type 0} (lets : Lets) (past : List Entry) (request : Request) → lets ≡ all_pass → lets past request ≡ false → X
never_held lets past request passes held = absurd (true≢false (sym (ap (λ (l : Lets). l past request) passes) ∙ held))
