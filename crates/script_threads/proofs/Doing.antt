-- What users and actors have done stays so where other seats make calls; and the drain that comes after it.
use Rattle.std.proofs.Common.{◌≡◌, ℕ, ◌+◌, ◌-◌, ◌<◌, ◌≤◌, true, List, [], ◌∷◌, Option, Some, inl, inr, refl, sym, ◌∙◌, ap, subst, subst₂, arith, ◌++◌, append_assoc, length, length-append}
use Rattle.call_types.specs.declared.entry.Entry.{Entry}
use Rattle.binder_model.specs.Due.{IsFirstDue, IsSettled}
use Rattle.binder_model.specs.Told.{own}
use Rattle.binder_model.specs.World.{world}
use Rattle.attention_law.specs.Resting.{WasToldStale}
use Rattle.world_core.specs.Kept.{History}
use Rattle.world_core.specs.declared.drained.Drained.{Drained}
use Rattle.world_core.specs.declared.drained.Drained.TheVariants.{Settled, Spent}
use Rattle.actor_rounds.specs.declared.drainers.Drainer.{Drainer}
use Rattle.actor_rounds.specs.Drainers.{AreNew, AreStanding, HaveNoEntries, seats_of}
use Rattle.actor_rounds.specs.Longer.{IsLonger, IsOneOf}
use Rattle.actor_rounds.proofs.DrainFacts.{drains_longer}
use Rattle.actor_rounds.specs.Rounds.{Drains, EndsWith, all_pass, made_of}
use Rattle.actor_rounds.proofs.NewFacts.{new_seats_for}
use Rattle.script_lines.specs.declared.actors.Actor.{Actor}
use Rattle.script_text.specs.declared.script.Line.{Line}
use Rattle.script_text.specs.declared.script.Script.{Script}
use Rattle.actor_turns.specs.declared.part.Part.{Part}
use Rattle.actor_turns.specs.Calls.{seat_at}
use Rattle.actor_turns.proofs.Lives.{seat_within}
use Rattle.actor_work.specs.Lives.Order.{AreInOrder}
use Rattle.actor_work.specs.Work.Working.{HasWorked}
use Rattle.actor_work.proofs.Lives.Following.{own_both}
use Rattle.actor_work.proofs.Crew.Histories.{life_in}
use Rattle.shared_work.specs.Lines.{AreOfLines}
use Rattle.script_runs.specs.Budget.{first_budget, raised}
use Rattle.script_runs.specs.Parts.{first_actor_seat, role_of}
use Rattle.script_runs.specs.Replays.{EndsAs, Progress}
use Rattle.script_runs.proofs.Staging.{after_first}
use Rattle.script_threads.specs.Runs.{IsRun, progress_after}
use Rattle.script_threads.specs.Started.{EachStarted, after_lives, drain_seat, seat_after, started, started_part}
use Rattle.script_threads.specs.Threads.{AreDone, HasMadeCalls, IsOfLives, IsThreadedWork}
use Rattle.script_threads.proofs.Counting.{seats_rise}

-- ---- an actor

no_more : (a b : List Entry) → a ++ b ≡ b → a ≡ []
no_more [] b is = refl
no_more (e ∷ a) b is = absurd (let long = ap length is in let both = length-append (e ∷ a) b in omega (arith, long, both))

module _ (calls : ℕ) (h later more : List Entry) (grown : later ≡ more ++ h) (actor : Actor) (part : Part) (named : part.named ≡ true)
    (same : (seat : ℕ) → IsOfLives part seat → own seat later ≡ own seat h) where
  next_life : (n : ℕ) → IsOfLives part (seat_at part n)
  next_life n = (omega arith, seat_within part n named)

  worked_on : (made : ℕ) → HasWorked part calls made h → HasWorked part calls made later
  worked_on made (inl all) = inl all
  worked_on made (inr fewer) = inr (fewer.0, subst (WasToldStale part.kind) (sym (same (seat_at part (made + 1)) (next_life (made + 1)))) fewer.1)

  -- entries of others that come after leave the lives in their order
  order_on : AreInOrder part h → AreInOrder part later
  order_on order earlier after low lt high =
      let stands = order earlier after low lt high in
      let none : own earlier more ≡ [] = none_more earlier (low, omega (arith, lt, high)) in
      record {
        late = more ++ stands.late;
        early = stands.early;
        is = grown ∙ ap (λ (es : List Entry). more ++ es) stands.is ∙ sym (append_assoc more stands.late stands.early);
        all = own_both earlier more stands.late ∙ ap (λ (es : List Entry). es ++ own earlier stands.late) none ∙ stands.all;
        none = stands.none;
      }
    where
      none_more : (seat : ℕ) → IsOfLives part seat → own seat more ≡ []
      none_more seat life = no_more (own seat more) (own seat h) (sym (own_both seat more h) ∙ sym (ap (own seat) grown) ∙ same seat life)

  pub calls_on : HasMadeCalls calls h actor part → HasMadeCalls calls later actor part
  calls_on did = record {
    made = did.made;
    mine = did.mine;
    calls_are = did.calls_are;
    own_are = λ seat life. same seat life ∙ did.own_are seat life;
    order = order_on did.order;
    whole = worked_on did.made did.whole;
    lives = λ seat life. life_in [] (role_of actor) part seat did.made h later (same seat life) (did.lives seat life);
  }

-- ---- all of them

each_on : (calls : ℕ) (h later more : List Entry) (grown : later ≡ more ++ h) (lines : List Line) (first : ℕ) (actors : List Actor)
    → ((seat : ℕ) → first ≤ seat → seat < seat_after lines first actors → own seat later ≡ own seat h)
    → EachStarted (HasMadeCalls calls h) lines first actors → EachStarted (HasMadeCalls calls later) lines first actors
each_on calls h later more grown lines first [] same did = tt
each_on calls h later more grown lines first (actor ∷ actors) same did =
    let part = started_part lines actor first in
    let rise = seats_rise lines (after_lives part) actors in (
      calls_on calls h later more grown actor part refl (λ seat life. let low = life.0 in let high = life.1 in same seat low (omega (arith, high, rise))) did.0,
      each_on calls h later more grown lines (after_lives part) actors (λ seat low high. same seat (omega (arith, low)) high) did.1,
    )

pub done_on : (script : Script) (workers calls : ℕ) (h later more : List Entry) → later ≡ more ++ h
    → ((seat : ℕ) → seat < drain_seat workers script → own seat later ≡ own seat h) → AreDone script workers calls h → AreDone script workers calls later
done_on script workers calls h later more grown same done =
    let rise = seats_rise script.lines first_actor_seat (started workers script) in
    record {
      users = λ user some few. subst (AreOfLines user script.lines) (sym (same user (omega (arith, few, rise)))) (done.users user some few);
      actors = each_on calls h later more grown script.lines first_actor_seat (started workers script) (λ seat low high. same seat high) done.actors;
    }

-- ---- the drain

no_entries : (past : List Entry) (seats : List ℕ) → ((seat : ℕ) → IsOneOf seats seat → own seat past ≡ []) → HaveNoEntries seats past
no_entries past [] none = tt
no_entries past (seat ∷ seats) none = (none seat (inl refl), no_entries past seats (λ other one. none other (inr one)))

-- new drainers at the seats after those of the actors have no entries yet
pub none_yet : (script : Script) (workers calls first : ℕ) (past : List Entry) (ds : List Drainer) → IsThreadedWork script workers calls past
    → first ≡ drain_seat workers script → AreNew first script.node_names ds → HaveNoEntries (seats_of ds) past
none_yet script workers calls first past ds work is new =
    no_entries past (seats_of ds) (λ seat one.
    let low = after_first first script.node_names seat (subst (λ ss. IsOneOf ss seat) (new_seats_for first script.node_names ds new) one) in
    work.others seat (inr (omega (arith, low, is))))

-- a drain of new drainers at these seats was made
pub record HasDrained (script : Script) (first : ℕ) (option : Option ℕ) (before after : History) (old ran : List Drainer) (budget : ℕ) (d : Drained) : Type 0 where
  pub setup : before.setup ≡ script.setup
  pub kept : after.setup ≡ before.setup
  pub new : AreNew first script.node_names old
  pub stand : AreStanding old before.past
  pub raises : budget ≡ raised option before.setup before.past (first_budget option)
  pub rounds : Drains all_pass before.setup ran after.past (budget - made_of d) old before.past budget
  pub others : (seat : ℕ) → (IsOneOf (seats_of old) seat → ⊥) → own seat after.past ≡ own seat before.past
  pub few : made_of d ≤ budget
  pub ends : EndsWith after.setup after.past budget d

module _ (script : Script) (workers calls first : ℕ) (option : Option ℕ) (before after : History) (old ran : List Drainer) (budget : ℕ) (d : Drained)
    (drained : HasDrained script first option before after old ran budget d) (is : first ≡ drain_seat workers script) where
  abbrev end : Progress
  end = record (progress_after before.past option old) { past = after.past; drainers = ran; drained = 0 + made_of d; budget = budget }

  ends_as : (e : Drained) → made_of e ≡ made_of d → EndsWith after.setup after.past budget e → EndsAs script.setup end e
  ends_as (Settled made) same settled = (omega (arith, same), subst (λ s. IsSettled s (world s after.past)) (drained.kept ∙ drained.setup) settled)
  ends_as (Spent made key due) same spent =
      let all = spent.0 in
      (omega (arith, same), all, subst (λ s. IsFirstDue s (world s after.past) (Some (key, due))) (drained.kept ∙ drained.setup) spent.1)

  -- the drain has left all earlier seats as they were
  earlier : (seat : ℕ) → seat < drain_seat workers script → own seat after.past ≡ own seat before.past
  earlier seat low =
      drained.others seat (λ one.
      let high = after_first first script.node_names seat (subst (λ ss. IsOneOf ss seat) (new_seats_for first script.node_names old drained.new) one) in
      absurd (omega (arith, low, high, is)))

  pub is_run : IsThreadedWork script workers calls before.past → IsRun script workers calls option after.past d
  is_run work = record {
    worked = before.past;
    work = work;
    drainers = old;
    new = subst (λ n. AreNew n script.node_names old) is drained.new;
    end = end;
    last = record {
      past = after.past;
      made = made_of d;
      budget = budget;
      ran = ran;
      raises = drained.raises ∙ ap (λ s. raised option s before.past (first_budget option)) drained.setup;
      stand = drained.stand;
      few = let few = drained.few in omega (arith, few);
      rounds = rounds;
      is = refl;
    };
    history = refl;
    ends = ends_as d refl drained.ends;
    done = done_on script workers calls before.past after.past longer.added longer.are earlier work.done;
  }
    where
      longer : IsLonger (seats_of old) (budget - (budget - made_of d)) before.past after.past
      longer = drains_longer _ _ _ _ _ _ _ drained.rounds

      rounds : Drains all_pass script.setup ran after.past (budget - (0 + made_of d)) old before.past (budget - 0)
      rounds =
          let all : budget ≡ budget - 0 = omega arith in
          let rest : budget - made_of d ≡ budget - (0 + made_of d) = omega arith in
          subst₂ (λ m n. Drains all_pass script.setup ran after.past m old before.past n) rest all
          (subst (λ s. Drains all_pass s ran after.past (budget - made_of d) old before.past budget) drained.setup drained.rounds)
