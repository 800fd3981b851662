-- The crew of a run: what its workers need, and what they leave.
use Rattle.std.proofs.Common.{◌≡◌, ◌⊎◌, ℕ, zero, suc, ◌+◌, ◌<◌, ◌≤◌, Bool, true, false, List, [], ◌∷◌, ◌++◌, append-nil, append_assoc, map, reverse, inl, inr, refl, sym, ◌∙◌, ap, subst, subst₂, arith}
use Rattle.std.specs.Bool.{⊤}
use Rattle.std.specs.Prelude.{nat_lt}
use Rattle.std.proofs.lemmas.Bool.{ltb-true, ltb-false}
use Rattle.std.proofs.lemmas.List.{reverse-append, reverse-reverse}
use Rattle.call_types.specs.declared.entry.Entry.{Entry}
use Rattle.call_types.specs.declared.request.Request.{Request}
use Rattle.call_types.specs.declared.request.SeatKind.{SeatKind}
use Rattle.call_types.specs.declared.request.SeatKind.TheVariants.{User}
use Rattle.binder_model.specs.Told.{own}
use Rattle.shared_world.specs.Passes.{AddsNoSeats}
use Rattle.actor_work.proofs.Lives.Seats.{actors_by_seats}
use Rattle.size_law.specs.Calls.Calls.{AreByActors, IsByActor}
use Rattle.script_lines.specs.declared.actors.Actor.{Actor}
use Rattle.script_text.specs.declared.script.Line.{Line}
use Rattle.script_text.specs.declared.script.Script.{Script}
use Rattle.actor_turns.specs.declared.part.Part.{Part}
use Rattle.shared_work.specs.declared.crew.Hired.{Hired}
use Rattle.shared_work.specs.declared.lines.UserLines.{UserLines}
use Rattle.shared_work.specs.declared.worker.OneOf.{OneOf}
use Rattle.shared_work.specs.Crew.{Each, all_seats, numbers_from}
use Rattle.shared_work.specs.Kinds.{does_of, leaves_of, needs_of}
use Rattle.shared_work.specs.Lines.{AreOfLines, DoLines, asked_by, call_of, user_call}
use Rattle.shared_work.specs.Seats.{IsOneSeat, seats_at}
use Rattle.shared_work.proofs.Using.{did}
use Rattle.actor_work.specs.declared.members.actor.ActorCalls.{ActorCalls}
use Rattle.actor_work.specs.Crew.Acting.{HasActed, HasActedIn, MayAct}
use Rattle.actor_work.specs.Lives.Order.{AreInOrder}
use Rattle.actor_work.proofs.Crew.Histories.{actors_in_histories}
use Rattle.script_runs.specs.Limits.{IsReadable}
use Rattle.script_runs.specs.Parts.{first_actor_seat, role_of}
use Rattle.script_threads.specs.Started.{EachStarted, after_lives, drain_seat, seat_after, started, started_part}
use Rattle.script_threads.specs.Threads.{HasMadeCalls, IsThreadedWork}
use Rattle.script_threads.specs.Steps.Hired.{AreHired, HaveJoined, IsActorHired, IsCrew, IsUserHired}
use Rattle.script_threads.proofs.Counting.{few_seats, seats_rise}

-- ---- no user's call is a binder's or a scheduler's

abbrev AreUsers : List Entry → Type 0
AreUsers [] = ⊤
AreUsers (e ∷ es) = (e.kind ≡ User) × AreUsers es

abbrev first_kind : List (ℕ × SeatKind × Request × Bool) → SeatKind
first_kind [] = User
first_kind (c ∷ calls) = c.1

abbrev other_calls : List (ℕ × SeatKind × Request × Bool) → List (ℕ × SeatKind × Request × Bool)
other_calls [] = []
other_calls (c ∷ calls) = calls

users_asked : (user : ℕ) (asked : List Request) (es : List Entry) → map call_of es ≡ map (user_call user) asked → AreUsers es
users_asked user asked [] is = tt
users_asked user [] (e ∷ es) is = absurd cc
users_asked user (request ∷ asked) (e ∷ es) is = (ap first_kind is, users_asked user asked es (ap other_calls is))

users_both : (xs ys : List Entry) → AreUsers xs → AreUsers ys → AreUsers (xs ++ ys)
users_both [] ys a b = b
users_both (e ∷ xs) ys a b = (a.0, users_both xs ys a.1 b)

users_reversed : (es : List Entry) → AreUsers es → AreUsers (reverse es)
users_reversed [] are = tt
users_reversed (e ∷ es) are = subst AreUsers (sym (reverse-append (e ∷ []) es)) (users_both (reverse es) (e ∷ []) (users_reversed es are.1) (are.0, tt))

by_users : (es : List Entry) → AreUsers es → AreByActors es
by_users [] are = tt
by_users (e ∷ es) are = (by_users es are.1, subst (λ kind. IsByActor kind (own e.seat es) e.request) (sym are.0) tt)

lines_asked : (user : ℕ) (lines : List Line) (mine : List Entry) → AreOfLines user lines mine → AreByActors mine
lines_asked user lines mine of = by_users mine (subst AreUsers (reverse-reverse mine) (users_reversed (reverse mine) (users_asked user (asked_by user lines) (reverse mine) of)))

-- ---- what an actor has done

made_calls : (calls : ℕ) (past : List Entry) (actor : Actor) (part : Part) → HasActedIn (role_of actor) part calls past → AreInOrder part past → HasMadeCalls calls past actor part
made_calls calls past actor part acted order = record {
  made = acted.made;
  mine = acted.mine;
  calls_are = acted.calls_are;
  own_are = λ seat life. acted.own_is seat life.0 life.1;
  order = order;
  whole = acted.whole;
  lives = λ seat life. acted.lives seat life.0 life.1;
}

-- these actors have done their work, and each request of theirs that is a binder's or a scheduler's was given by an actor
pub record HaveDone (calls : ℕ) (past : List Entry) (lines : List Line) (first : ℕ) (actors : List Actor) : Type 0 where
  pub each : EachStarted (HasMadeCalls calls past) lines first actors
  pub asked : (seat : ℕ) → first ≤ seat → seat < seat_after lines first actors → AreByActors (own seat past)

done_first : (calls : ℕ) (past : List Entry) (lines : List Line) (first : ℕ) (actor : Actor) (actors : List Actor)
    → HasActedIn (role_of actor) (started_part lines actor first) calls past → AreInOrder (started_part lines actor first) past
    → HaveDone calls past lines (after_lives (started_part lines actor first)) actors → HaveDone calls past lines first (actor ∷ actors)
done_first calls past lines first actor actors acted order rest = record {
  each = (made_calls calls past actor (started_part lines actor first) acted order, rest.each);
  asked = λ seat low high. by seat low high (nat_lt seat (after_lives (started_part lines actor first))) refl;
}
  where
    by : (seat : ℕ) → first ≤ seat → seat < seat_after lines (after_lives (started_part lines actor first)) actors → (b : Bool)
        → nat_lt seat (after_lives (started_part lines actor first)) ≡ b → AreByActors (own seat past)
    by seat low high true e = acted.actors seat low (ltb-true seat (after_lives (started_part lines actor first)) e)
    by seat low high false e = rest.asked seat (ltb-false seat (after_lives (started_part lines actor first)) e) high

-- the seat after those of some actors and then of others
after_more : (lines : List Line) (first : ℕ) (ones others : List Actor) → seat_after lines first (ones ++ others) ≡ seat_after lines (seat_after lines first ones) others
after_more lines first [] others = refl
after_more lines first (actor ∷ ones) others = after_more lines (after_lives (started_part lines actor first)) ones others

module _ {L : Type 0} where
  -- ---- what workers need

  abbrev Needs : OneOf (UserLines L) (ActorCalls L) → List (ℕ × List Entry) → Type 0
  Needs worker before = needs_of (λ user seats. IsOneSeat seats) (λ actor seats. MayAct actor.player actor.calls seats) worker before

  user_needs : (script : Script) (first : ℕ) (h : Hired (OneOf (UserLines L) (ActorCalls L))) → IsUserHired script h → Needs h.worker (seats_at [] (numbers_from first h.seats))
  user_needs script first h user = subst (λ w. Needs w (seats_at [] (numbers_from first h.seats))) (sym user.is) ((first, []), ap (λ n. seats_at [] (numbers_from first n)) user.seats)

  actor_needs : (lines : List Line) (calls : ℕ) (actor : Actor) (first : ℕ) (h : Hired (OneOf (UserLines L) (ActorCalls L)))
      → IsActorHired lines calls actor first h → Needs h.worker (seats_at [] (numbers_from first h.seats))
  actor_needs lines calls actor first h a =
      subst (λ w. Needs w (seats_at [] (numbers_from first h.seats))) (sym a.is)
      (subst (λ n. MayAct a.worker.player a.worker.calls (seats_at [] (numbers_from first n))) (sym a.hired.seats) a.hired.may)

  actors_need : (lines : List Line) (calls first : ℕ) (actors : List Actor) (crew : List (Hired (OneOf (UserLines L) (ActorCalls L))))
      → AreHired lines calls first actors crew → Each (λ w seats. Needs w (seats_at [] seats)) first crew
  actors_need lines calls first [] crew hired = subst (Each (λ w seats. Needs w (seats_at [] seats)) first) (sym hired) tt
  actors_need lines calls first (actor ∷ actors) [] hired = absurd hired
  actors_need lines calls first (actor ∷ actors) (h ∷ crew) hired = (
    actor_needs lines calls actor first h hired.0,
    subst (λ n. Each (λ w seats. Needs w (seats_at [] seats)) (first + n) crew) (sym hired.0.hired.seats) (actors_need lines calls (after_lives (started_part lines actor first)) actors crew hired.1),
  )

  pub crew_needs : (script : Script) (workers calls : ℕ) (crew : List (Hired (OneOf (UserLines L) (ActorCalls L)))) (given : List Entry)
      → IsCrew script workers calls crew → given ≡ [] → Each (λ w seats. Needs w (seats_at given seats)) 1 crew
  crew_needs script workers calls crew given c none =
      let a = c.one_is.seats in
      let b = c.two_is.seats in
      let d = c.three_is.seats in
      let e = c.four_is.seats in
      let fifth : first_actor_seat ≡ 1 + c.one.seats + c.two.seats + c.three.seats + c.four.seats = omega (arith, a, b, d, e) in
      subst₂ (λ es ws. Each (λ w seats. Needs w (seats_at es seats)) 1 ws) (sym none) (sym c.are) (
        user_needs script 1 c.one c.one_is,
        (
          user_needs script (1 + c.one.seats) c.two c.two_is,
          (
            user_needs script (1 + c.one.seats + c.two.seats) c.three c.three_is,
            (
              user_needs script (1 + c.one.seats + c.two.seats + c.three.seats) c.four c.four_is,
              subst (λ n. Each (λ w seats. Needs w (seats_at [] seats)) n c.actors) fifth (actors_need script.lines calls first_actor_seat (started workers script) c.actors c.hired),
            ),
          ),
        ),
      )

  -- ---- how many seats they have

  actors_seats : (lines : List Line) (calls first : ℕ) (actors : List Actor) (crew : List (Hired (OneOf (UserLines L) (ActorCalls L))))
      → AreHired lines calls first actors crew → first + all_seats crew ≡ seat_after lines first actors
  actors_seats lines calls first [] crew hired = let none = ap (λ ws. all_seats ws) hired in omega (arith, none)
  actors_seats lines calls first (actor ∷ actors) [] hired = absurd hired
  actors_seats lines calls first (actor ∷ actors) (h ∷ crew) hired =
      let rest = actors_seats lines calls (after_lives (started_part lines actor first)) actors crew hired.1 in
      let here = hired.0.hired.seats in
      omega (arith, rest, here)

  pub crew_seats : (script : Script) (workers calls : ℕ) (crew : List (Hired (OneOf (UserLines L) (ActorCalls L)))) → IsCrew script workers calls crew → all_seats crew + 1 ≡ drain_seat workers script
  crew_seats script workers calls crew c =
      let a = c.one_is.seats in
      let b = c.two_is.seats in
      let d = c.three_is.seats in
      let e = c.four_is.seats in
      let all = ap (λ ws. all_seats ws) c.are in
      let rest = actors_seats script.lines calls first_actor_seat (started workers script) c.actors c.hired in
      omega (arith, a, b, d, e, all, rest)

  pub few_crew : (script : Script) (workers calls : ℕ) (crew : List (Hired (OneOf (UserLines L) (ActorCalls L)))) → IsReadable script
      → IsCrew script workers calls crew → (0 < all_seats crew) × (all_seats crew < 65536)
  few_crew script workers calls crew readable c =
      let seats = crew_seats script workers calls crew c in
      let few = few_seats script workers readable in
      let rise = seats_rise script.lines first_actor_seat (started workers script) in
      (omega (arith, seats, rise), omega (arith, seats, few))

  -- ---- what they leave

  abbrev Does : OneOf (UserLines L) (ActorCalls L) → List (ℕ × List Entry) → List (ℕ × List Entry) → Type 0
  Does worker before after = does_of (λ user seats then. DoLines user.script.now.lines seats then) (λ actor seats then. HasActed
      actor.player.actor.role actor.player.part actor.calls then) worker before after

  abbrev Leaves : OneOf (UserLines L) (ActorCalls L) → List Entry → Type 0
  Leaves worker past = leaves_of (λ user then. ⊤) (λ actor then. AreInOrder actor.player.part then) worker past

  module _ (given past : List Entry) (none : given ≡ []) where
    abbrev HasDone : Hired (OneOf (UserLines L) (ActorCalls L)) → ℕ → Type 0
    HasDone h first = Does h.worker (seats_at given (numbers_from first h.seats)) (seats_at past (numbers_from first h.seats))

    user_done : (script : Script) (user first : ℕ) (h : Hired (OneOf (UserLines L) (ActorCalls L))) → IsUserHired script h → first ≡ user
        → HasDone h first → AreOfLines user script.lines (own user past)
    user_done script user first h u here done =
        did given past script.lines u.user.script.now.lines user first h.seats none (ap (λ (s : Script). s.lines) u.of) here u.seats
        (subst (λ w. Does w (seats_at given (numbers_from first h.seats)) (seats_at past (numbers_from first h.seats))) u.is done)

    actor_done : (lines : List Line) (calls : ℕ) (actor : Actor) (first : ℕ) (h : Hired (OneOf (UserLines L) (ActorCalls L)))
        → IsActorHired lines calls actor first h → HasDone h first → HasActedIn (role_of actor) (started_part lines actor first) calls past
    actor_done lines calls actor first h a done =
        let acted : HasActed a.worker.player.actor.role a.worker.player.part a.worker.calls (seats_at past (numbers_from first h.seats))
        = subst (λ w. Does w (seats_at given (numbers_from first h.seats)) (seats_at past (numbers_from first h.seats))) a.is done in
        let of_role = subst (λ role. HasActed role a.worker.player.part a.worker.calls (seats_at past (numbers_from first h.seats))) a.hired.role acted in
        let of_part = subst (λ part. HasActed (role_of actor) part a.worker.calls (seats_at past (numbers_from first h.seats))) a.hired.part_is of_role in
        let so_many = subst (λ n. HasActed (role_of actor) (started_part lines actor first) n (seats_at past (numbers_from first h.seats))) a.hired.calls_are of_part in
        actors_in_histories (role_of actor) (started_part lines actor first) calls past refl
        (subst (λ n. HasActed (role_of actor) (started_part lines actor first) calls (seats_at past (numbers_from first n))) a.hired.seats so_many)

    actor_left : (lines : List Line) (calls : ℕ) (actor : Actor) (first : ℕ) (h : Hired (OneOf (UserLines L) (ActorCalls L)))
        → IsActorHired lines calls actor first h → Leaves h.worker past → AreInOrder (started_part lines actor first) past
    actor_left lines calls actor first h a left = subst (λ part. AreInOrder part past) a.hired.part_is (subst (λ w. Leaves w past) a.is left)

    actors_done : (lines : List Line) (calls first : ℕ) (actors : List Actor) (crew : List (Hired (OneOf (UserLines L) (ActorCalls L)))) → AreHired lines calls first actors crew
        → Each (λ w seats. Does w (seats_at given seats) (seats_at past seats)) first crew → Each (λ w seats. Leaves w past) first crew → HaveDone calls past lines first actors
    actors_done lines calls first [] crew hired done left = record { each = tt; asked = λ seat low high. absurd (omega (arith, low, high)) }
    actors_done lines calls first (actor ∷ actors) [] hired done left = absurd hired
    actors_done lines calls first (actor ∷ actors) (h ∷ crew) hired done left =
        let then_left = subst (λ n. Each (λ w seats. Leaves w past) (first + n) crew) hired.0.hired.seats left.1 in
        let rest = subst (λ n. Each (λ w seats. Does w (seats_at given seats) (seats_at past seats)) (first + n) crew) hired.0.hired.seats done.1 in
        done_first calls past lines first actor actors (actor_done lines calls actor first h hired.0 done.0) (actor_left lines calls actor first h hired.0 left.0)
        (actors_done lines calls (after_lives (started_part lines actor first)) actors crew hired.1 rest then_left)

    module _ (script : Script) (workers calls : ℕ) (crew : List (Hired (OneOf (UserLines L) (ActorCalls L)))) (c : IsCrew script workers calls crew)
        (does : Each (λ w seats. Does w (seats_at given seats) (seats_at past seats)) 1 crew) (leaves : Each (λ w seats. Leaves w past) 1 crew)
        (adds : AddsNoSeats (all_seats crew) given past) where
      each_left : Each (λ w seats. Leaves w past) 1 (c.one ∷ c.two ∷ c.three ∷ c.four ∷ c.actors)
      each_left = subst (Each (λ w seats. Leaves w past) 1) c.are leaves

      each_done : Each (λ w seats. Does w (seats_at given seats) (seats_at past seats)) 1 (c.one ∷ c.two ∷ c.three ∷ c.four ∷ c.actors)
      each_done = subst (Each (λ w seats. Does w (seats_at given seats) (seats_at past seats)) 1) c.are does

      users_done : (user : ℕ) → 0 < user → user < 5 → AreOfLines user script.lines (own user past)
      users_done zero some few = absurd (omega (arith, some))
      users_done (suc zero) some few = user_done script 1 1 c.one c.one_is refl each_done.0
      users_done (suc (suc zero)) some few = let a = c.one_is.seats in user_done script 2 (1 + c.one.seats) c.two c.two_is (omega (arith, a)) each_done.1.0
      users_done (suc (suc (suc zero))) some few = let a = c.one_is.seats in let b = c.two_is.seats in
          user_done script 3 (1 + c.one.seats + c.two.seats) c.three c.three_is (omega (arith, a, b)) each_done.1.1.0
      users_done (suc (suc (suc (suc zero)))) some few =
          let a = c.one_is.seats in
          let b = c.two_is.seats in
          let d = c.three_is.seats in
          user_done script 4 (1 + c.one.seats + c.two.seats + c.three.seats) c.four c.four_is (omega (arith, a, b, d)) each_done.1.1.1.0
      users_done (suc (suc (suc (suc (suc n))))) some few = absurd (omega (arith, few))

      others_done : HaveDone calls past script.lines first_actor_seat (started workers script)
      others_done =
          let a = c.one_is.seats in
          let b = c.two_is.seats in
          let d = c.three_is.seats in
          let e = c.four_is.seats in
          let fifth : 1 + c.one.seats + c.two.seats + c.three.seats + c.four.seats ≡ first_actor_seat = omega (arith, a, b, d, e) in
          actors_done script.lines calls first_actor_seat (started workers script) c.actors c.hired
          (subst (λ n. Each (λ w seats. Does w (seats_at given seats) (seats_at past seats)) n c.actors) fifth each_done.1.1.1.1)
          (subst (λ n. Each (λ w seats. Leaves w past) n c.actors) fifth each_left.1.1.1.1)

      beside : (seat : ℕ) → (seat ≡ 0) ⊎ (drain_seat workers script ≤ seat) → own seat past ≡ []
      beside seat (inl first) = adds seat (inl first) ∙ ap (own seat) none
      beside seat (inr last) = let seats = crew_seats script workers calls crew c in adds seat (inr (omega (arith, last, seats))) ∙ ap (own seat) none

      pub crew_done : IsThreadedWork script workers calls past
      crew_done = record { done = record { users = users_done; actors = others_done.each }; others = beside }

      asked_none : (seat : ℕ) → own seat past ≡ [] → AreByActors (own seat past)
      asked_none seat is = subst AreByActors (sym is) tt

      asked_at : (seat : ℕ) (a b : Bool) → nat_lt seat first_actor_seat ≡ a → nat_lt seat (drain_seat workers script) ≡ b → AreByActors (own seat past)
      asked_at zero a b ea eb = asked_none zero (beside zero (inl refl))
      asked_at (suc n) true b ea eb = lines_asked (suc n) script.lines (own (suc n) past) (users_done (suc n) (omega arith) (ltb-true (suc n) first_actor_seat ea))
      asked_at (suc n) false true ea eb = others_done.asked (suc n) (ltb-false (suc n) first_actor_seat ea) (ltb-true (suc n) (drain_seat workers script) eb)
      asked_at (suc n) false false ea eb = asked_none (suc n) (beside (suc n) (inr (ltb-false (suc n) (drain_seat workers script) eb)))

      pub crew_asked : AreByActors past
      crew_asked = (actors_by_seats past).1 (λ seat. asked_at seat (nat_lt seat first_actor_seat) (nat_lt seat (drain_seat workers script)) refl refl)

  -- ---- how they are hired

  hired_more : (lines : List Line) (calls first : ℕ) (ones others : List Actor) (xs ys : List (Hired (OneOf (UserLines L) (ActorCalls L))))
      → AreHired lines calls first ones xs → AreHired lines calls (seat_after lines first ones) others ys → AreHired lines calls first (ones ++ others) (xs ++ ys)
  hired_more lines calls first [] others xs ys a b = subst (λ zs. AreHired lines calls first others (zs ++ ys)) (sym a) b
  hired_more lines calls first (actor ∷ ones) others [] ys a b = absurd a
  hired_more lines calls first (actor ∷ ones) others (h ∷ xs) ys a b = (a.0, hired_more lines calls (after_lives (started_part lines actor first)) ones others xs ys a.1 b)

  pub none_joined : (lines : List Line) (calls first : ℕ) (crew : List (Hired (OneOf (UserLines L) (ActorCalls L)))) → HaveJoined lines calls first first [] crew crew
  none_joined lines calls first crew = record { joined = []; are = sym (append-nil crew); hired = refl; seat = refl }

  pub one_joins : (lines : List Line) (calls first seat : ℕ) (actors : List Actor) (actor : Actor) (h : Hired (OneOf (UserLines L) (ActorCalls L)))
      (before now after : List (Hired (OneOf (UserLines L) (ActorCalls L)))) → HaveJoined lines calls first seat actors before now → IsActorHired lines calls actor seat h → after ≡ now ++ h ∷ []
      → HaveJoined lines calls first (seat + h.seats) (actors ++ actor ∷ []) before after
  one_joins lines calls first seat actors actor h before now after a one is = record {
    joined = a.joined ++ h ∷ [];
    are = is ∙ ap (λ ws. ws ++ h ∷ []) a.are ∙ append_assoc before a.joined (h ∷ []);
    hired = hired_more lines calls first actors (actor ∷ []) a.joined (h ∷ []) a.hired (subst (λ n. IsActorHired lines calls actor n h) a.seat one, refl);
    seat = ap (λ n. seat + n) one.hired.seats ∙ ap (λ n. after_lives (started_part lines actor n)) a.seat ∙ sym (after_more lines first actors (actor ∷ []));
  }
