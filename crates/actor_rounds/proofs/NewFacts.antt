-- New drainers: which seats and roles they have, that their seats differ, and that they stand where their seats have no entries.
use Rattle.std.proofs.Common.{◌≡◌, ◌∙◌, ◌+◌, ◌≤◌, ◌<◌, ℕ, zero, suc, List, [], ◌∷◌, ◌++◌, drop, length, get_or, add-one, Some, refl, sym, ap, subst, arith, append_assoc, append-nil}
use Rattle.std.specs.Bool.{⊤}
use Rattle.std.specs.Prelude.{map, slice_get}
use Rattle.std.proofs.lemmas.List.{drop_all}
use Rattle.std.proofs.Math.Seq.{drop-cons}
use Rattle.call_types.specs.declared.entry.Entry.{Entry}
use Rattle.call_types.specs.declared.request.SeatKind.{SeatKind}
use Rattle.call_types.specs.declared.request.SeatKind.TheVariants as seats
use Rattle.binder_model.specs.Told.{own}
use Rattle.model_laws.proofs.Lists.{none_some, one}
use Rattle.worker_core.specs.declared.role.Role.{Role}
use Rattle.attention_law.proofs.Kept.{new_queues}
use Rattle.actor_rounds.specs.declared.drainers.Drainer.{Drainer}
use Rattle.actor_rounds.specs.Drainers.{
  AreAdded,
  AreNew,
  AreNewAgents,
  AreSeats,
  AreStanding,
  HaveNoEntries,
  IsAdded,
  IsNewAt,
  StandsWhole,
  agent_of,
  of_kind,
  roles_for,
  roles_of,
  seats_for,
  seats_from,
  seats_of,
}

-- ---- the seats

-- seats that rise, from this one on
abbrev Rise : ℕ → List ℕ → Type 0
Rise low [] = ⊤
Rise low (seat ∷ seats) = (low ≤ seat) × Rise (seat + 1) seats

above : (low : ℕ) (seats : List ℕ) (i seat : ℕ) → Rise low seats → slice_get seats i ≡ Some seat → low ≤ seat
above low [] i seat rise at = none_some at
above low (s ∷ seats) zero seat rise at = let is = one s seat at in let least = rise.0 in omega (arith, is, least)
above low (s ∷ seats) (suc i) seat rise at = let rest = above (s + 1) seats i seat rise.1 at in let least = rise.0 in omega (arith, rest, least)

differ : (low : ℕ) (seats : List ℕ) (i j seat : ℕ) → Rise low seats → slice_get seats i ≡ Some seat → slice_get seats j ≡ Some seat → i ≡ j
differ low [] i j seat rise a b = none_some a
differ low (s ∷ seats) zero zero seat rise a b = refl
differ low (s ∷ seats) zero (suc j) seat rise a b = let is = one s seat a in let later = above (s + 1) seats j seat rise.1 b in absurd (omega (arith, is, later))
differ low (s ∷ seats) (suc i) zero seat rise a b = let is = one s seat b in let later = above (s + 1) seats i seat rise.1 a in absurd (omega (arith, is, later))
differ low (s ∷ seats) (suc i) (suc j) seat rise a b = ap suc (differ (s + 1) seats i j seat rise.1 a b)

agents_rise : (first : ℕ) (nodes : List (List ℕ)) (ds : List Drainer) → AreNewAgents first nodes ds → Rise first (seats_of ds)
agents_rise first [] ds new = subst (λ (xs : List Drainer). Rise first (seats_of xs)) (sym new) tt
agents_rise first (node ∷ nodes) [] new = absurd new
agents_rise first (node ∷ nodes) (d ∷ ds) new =
    let is = new.0.at in
    (omega (arith, is), subst (λ (s : ℕ). Rise (s + 1) (seats_of ds)) (sym is) (agents_rise (first + 1) nodes ds new.1))

-- a seat that is none of the others stands before them
one_before : (s : ℕ) (seats : List ℕ) → ((i : ℕ) → slice_get seats i ≡ Some s → ⊥)
    → ((i j seat : ℕ) → slice_get seats i ≡ Some seat → slice_get seats j ≡ Some seat → i ≡ j)
    → (i j seat : ℕ) → slice_get (s ∷ seats) i ≡ Some seat → slice_get (s ∷ seats) j ≡ Some seat → i ≡ j
one_before s seats other differ zero zero seat a b = refl
one_before s seats other differ zero (suc j) seat a b = absurd (other j (b ∙ ap (λ (n : ℕ). Some n) (sym (one s seat a))))
one_before s seats other differ (suc i) zero seat a b = absurd (other i (a ∙ ap (λ (n : ℕ). Some n) (sym (one s seat b))))
one_before s seats other differ (suc i) (suc j) seat a b = ap suc (differ i j seat a b)

-- a seat is none of those that begin higher, nor a lower one before these
not_higher : (s low : ℕ) (seats : List ℕ) → s < low → Rise low seats → (i : ℕ) → slice_get seats i ≡ Some s → ⊥
not_higher s low seats less rise i at = let high = above low seats i s rise at in absurd (omega (arith, less, high))

nor_lower : (s lower : ℕ) (seats : List ℕ) → lower < s → ((i : ℕ) → slice_get seats i ≡ Some s → ⊥) → (i : ℕ) → slice_get (lower ∷ seats) i ≡ Some s → ⊥
nor_lower s lower seats less other zero at = let is = one lower s at in absurd (omega (arith, less, is))
nor_lower s lower seats less other (suc i) at = other i at

-- the seats of new drainers
pub new_seats : (first : ℕ) (nodes : List (List ℕ)) (ds : List Drainer) (new : AreNew first nodes ds)
    → seats_of ds ≡ (first + 2) ∷ (first + 1) ∷ first ∷ (first + 3) ∷ (first + 4) ∷ seats_of new.agents
new_seats first nodes ds new =
    ap seats_of new.are
    ∙ ap (λ s. s ∷ new.ops.seat ∷ new.binder.seat ∷ new.claims.seat ∷ new.volumes.seat ∷ seats_of new.agents) new.scheduler_is.at
    ∙ ap (λ s. (first + 2) ∷ s ∷ new.binder.seat ∷ new.claims.seat ∷ new.volumes.seat ∷ seats_of new.agents) new.ops_is.at
    ∙ ap (λ s. (first + 2) ∷ (first + 1) ∷ s ∷ new.claims.seat ∷ new.volumes.seat ∷ seats_of new.agents) new.binder_is.at
    ∙ ap (λ s. (first + 2) ∷ (first + 1) ∷ first ∷ s ∷ new.volumes.seat ∷ seats_of new.agents) new.claims_is.at
    ∙ ap (λ s. (first + 2) ∷ (first + 1) ∷ first ∷ (first + 3) ∷ s ∷ seats_of new.agents) new.volumes_is.at

agents_seats : (first : ℕ) (nodes : List (List ℕ)) (ds : List Drainer) → AreNewAgents first nodes ds → seats_of ds ≡ seats_from first nodes
agents_seats first [] ds new = ap seats_of new
agents_seats first (node ∷ nodes) [] new = absurd new
agents_seats first (node ∷ nodes) (d ∷ ds) new = ap (λ (s : ℕ). s ∷ seats_of ds) new.0.at ∙ ap (λ (ss : List ℕ). first ∷ ss) (agents_seats (first + 1) nodes ds new.1)

pub new_seats_for : (first : ℕ) (nodes : List (List ℕ)) (ds : List Drainer) → AreNew first nodes ds → seats_of ds ≡ seats_for first nodes
new_seats_for first nodes ds new =
    new_seats first nodes ds new ∙ ap (λ (ss : List ℕ). (first + 2) ∷ (first + 1) ∷ first ∷ (first + 3) ∷ (first + 4) ∷ ss) (agents_seats (first + 5) nodes new.agents new.agents_are)

-- their roles

agents_roles : (first : ℕ) (nodes : List (List ℕ)) (ds : List Drainer) → AreNewAgents first nodes ds → roles_of ds ≡ map agent_of nodes
agents_roles first [] ds new = ap roles_of new
agents_roles first (node ∷ nodes) [] new = absurd new
agents_roles first (node ∷ nodes) (d ∷ ds) new = ap (λ (r : Role). r ∷ roles_of ds) new.0.is_new.is ∙ ap (λ (rs : List Role). agent_of node ∷ rs) (agents_roles (first + 1) nodes ds new.1)

pub new_roles_for : (first : ℕ) (nodes : List (List ℕ)) (ds : List Drainer) → AreNew first nodes ds → roles_of ds ≡ roles_for nodes
new_roles_for first nodes ds new =
    ap roles_of new.are
    ∙ ap (λ (r : Role). r ∷ new.ops.actor.role ∷ new.binder.actor.role ∷ new.claims.actor.role ∷ new.volumes.actor.role ∷ roles_of new.agents) new.scheduler_is.is_new.is
    ∙ ap (λ (r : Role). of_kind seats.Scheduler ∷ r ∷ new.binder.actor.role ∷ new.claims.actor.role ∷ new.volumes.actor.role ∷ roles_of new.agents) new.ops_is.is_new.is
    ∙ ap (λ (r : Role). of_kind seats.Scheduler ∷ of_kind seats.Ops ∷ r ∷ new.claims.actor.role ∷ new.volumes.actor.role ∷ roles_of new.agents) new.binder_is.is_new.is
    ∙ ap (λ (r : Role). of_kind seats.Scheduler ∷ of_kind seats.Ops ∷ of_kind seats.Binder ∷ r ∷ new.volumes.actor.role ∷ roles_of new.agents) new.claims_is.is_new.is
    ∙ ap (λ (r : Role). of_kind seats.Scheduler ∷ of_kind seats.Ops ∷ of_kind seats.Binder ∷ of_kind seats.ClaimProtect ∷ r ∷ roles_of new.agents) new.volumes_is.is_new.is
    ∙ ap (λ (rs : List Role). of_kind seats.Scheduler ∷ of_kind seats.Ops ∷ of_kind seats.Binder ∷ of_kind seats.ClaimProtect
    ∷ of_kind seats.VolumeProtect ∷ rs) (agents_roles (first + 5) nodes new.agents new.agents_are)

pub new_differ : (first : ℕ) (nodes : List (List ℕ)) (ds : List Drainer) → AreNew first nodes ds → AreSeats (seats_of ds)
new_differ first nodes ds new =
    let last : first + 5 ≡ first + 4 + 1 = omega arith in
    let agents = subst (λ (s : ℕ). Rise s (seats_of new.agents)) last (agents_rise (first + 5) nodes new.agents new.agents_are) in
    let later = (first + 3) ∷ (first + 4) ∷ seats_of new.agents in
    let low : Rise (first + 1) later = (omega arith, (omega arith, agents)) in
    let high : Rise (first + 3) later = (omega arith, (omega arith, agents)) in
    let second = nor_lower (first + 1) first later (omega arith) (not_higher (first + 1) (first + 3) later (omega arith) high) in
    let third = nor_lower (first + 2) first later (omega arith) (not_higher (first + 2) (first + 3) later (omega arith) high) in
    let two = one_before (first + 1) (first ∷ later) second (λ i j seat a b. differ first (first ∷ later) i j seat (omega arith, low) a b) in
    subst AreSeats (sym (new_seats first nodes ds new)) (record {
      some = omega arith;
      differ = one_before (first + 2) ((first + 1) ∷ first ∷ later) (nor_lower (first + 2) (first + 1) (first ∷ later) (omega arith) third) two;
    })

-- ---- what they stand for

-- a new drainer stands whole for nothing
new_whole : (kind : SeatKind) (node : List ℕ) (seat : ℕ) (d : Drainer) → IsNewAt kind node seat d → StandsWhole d.actor []
new_whole kind node seat d new = record { told = new.stands; queue = new_queues (record { kind = kind; node = node }) d.actor new.is_new }

-- drainers that stand for nothing
abbrev AllStand : List Drainer → Type 0
AllStand ds = (place : ℕ) (d : Drainer) → slice_get ds place ≡ Some d → StandsWhole d.actor []

one_more : (x : Drainer) (ds : List Drainer) → StandsWhole x.actor [] → AllStand ds → AllStand (x ∷ ds)
one_more x ds stands all zero d at = subst (λ (y : Drainer). StandsWhole y.actor []) (one x d at) stands
one_more x ds stands all (suc place) d at = all place d at

agents_stand : (first : ℕ) (nodes : List (List ℕ)) (ds : List Drainer) → AreNewAgents first nodes ds → AllStand ds
agents_stand first [] ds new = subst AllStand (sym new) (λ place d at. none_some at)
agents_stand first (node ∷ nodes) [] new = absurd new
agents_stand first (node ∷ nodes) (x ∷ ds) new = one_more x ds (new_whole seats.Agent node first x new.0) (agents_stand (first + 1) nodes ds new.1)

each_stands : (ds : List Drainer) → AllStand ds → (past : List Entry) → HaveNoEntries (seats_of ds) past → (place : ℕ) (d : Drainer)
    → slice_get ds place ≡ Some d → StandsWhole d.actor (own d.seat past)
each_stands [] all past none place d at = none_some at
each_stands (x ∷ ds) all past none zero d at = subst (λ (y : Drainer). StandsWhole y.actor (own y.seat past)) (one x d at) (subst (λ m. StandsWhole x.actor m) (sym none.0) (all 0 x refl))
each_stands (x ∷ ds) all past none (suc place) d at = each_stands ds (λ i y there. all (suc i) y there) past none.1 place d at

pub new_stand : (first : ℕ) (nodes : List (List ℕ)) (ds : List Drainer) → AreNew first nodes ds → (past : List Entry) → HaveNoEntries (seats_of ds) past → AreStanding ds past
new_stand first nodes ds new past none =
    let volumes = one_more new.volumes new.agents (new_whole seats.VolumeProtect [] (first + 4) new.volumes new.volumes_is) (agents_stand (first + 5) nodes new.agents new.agents_are) in
    let claims = one_more new.claims (new.volumes ∷ new.agents) (new_whole seats.ClaimProtect [] (first + 3) new.claims new.claims_is) volumes in
    let binder = one_more new.binder (new.claims ∷ new.volumes ∷ new.agents) (new_whole seats.Binder [] first new.binder new.binder_is) claims in
    let ops = one_more new.ops (new.binder ∷ new.claims ∷ new.volumes ∷ new.agents) (new_whole seats.Ops [] (first + 1) new.ops new.ops_is) binder in
    let all = one_more new.scheduler (new.ops ∷ new.binder ∷ new.claims ∷ new.volumes ∷ new.agents) (new_whole seats.Scheduler [] (first + 2) new.scheduler new.scheduler_is) ops in
    record { each = each_stands ds (subst AllStand (sym new.are) all) past none; roles = record { nodes = nodes; are = new_roles_for first nodes ds new } }

-- ---- how they are made

pub one_added : (kind : SeatKind) (seat : ℕ) (node : List ℕ) (before after : List Drainer) (d : Drainer) → node ≡ [] → IsNewAt kind node seat d
    → after ≡ before ++ d ∷ [] → IsAdded kind seat before after
one_added kind seat node before after d none new pushed = record { worker = d; are = pushed; new = subst (λ (n : List ℕ). IsNewAt kind n seat d) none new }

-- each pushed after those before it
five_items : (a b c d e : Drainer) (none ones two three four five : List Drainer) → none ≡ [] → ones ≡ none ++ a ∷ [] → two ≡ ones ++ b ∷ []
    → three ≡ two ++ c ∷ [] → four ≡ three ++ d ∷ [] → five ≡ four ++ e ∷ []
    → five ≡ a ∷ b ∷ c ∷ d ∷ e ∷ []
five_items a b c d e none ones two three four five is_none is_one is_two is_three is_four is_five =
    let first : ones ≡ a ∷ [] = is_one ∙ ap (λ xs. xs ++ a ∷ []) is_none in
    let second : two ≡ a ∷ b ∷ [] = is_two ∙ ap (λ xs. xs ++ b ∷ []) first in
    let third : three ≡ a ∷ b ∷ c ∷ [] = is_three ∙ ap (λ xs. xs ++ c ∷ []) second in
    let fourth : four ≡ a ∷ b ∷ c ∷ d ∷ [] = is_four ∙ ap (λ xs. xs ++ d ∷ []) third in
    is_five ∙ ap (λ xs. xs ++ e ∷ []) fourth

pub all_new : (first : ℕ) (nodes : List (List ℕ)) (none ones two three four five items : List Drainer) → none ≡ [] → IsAdded seats.Scheduler (first + 2) none ones
    → IsAdded seats.Ops (first + 1) ones two → IsAdded seats.Binder (first + 0) two three → IsAdded seats.ClaimProtect (first + 3) three four → IsAdded seats.VolumeProtect (first + 4) four five
    → AreAdded (first + 5) nodes five items → AreNew first nodes items
all_new first nodes none ones two three four five items is_none scheduler ops binder claims volumes agents = record {
  scheduler = scheduler.worker;
  ops = ops.worker;
  binder = binder.worker;
  claims = claims.worker;
  volumes = volumes.worker;
  agents = agents.agents;
  are = agents.are ∙ ap (λ xs. xs ++ agents.agents)
      (five_items scheduler.worker ops.worker binder.worker claims.worker volumes.worker none ones two three four five is_none scheduler.are ops.are binder.are claims.are volumes.are);
  scheduler_is = scheduler.new;
  ops_is = ops.new;
  binder_is = let here : first + 0 ≡ first = omega arith in subst (λ (n : ℕ). IsNewAt seats.Binder [] n binder.worker) here binder.new;
  claims_is = claims.new;
  volumes_is = volumes.new;
  agents_are = agents.new;
}

-- agents so far, and one more
pub added_more : (first seat : ℕ) (nodes items : List (List ℕ)) (index : ℕ) (initial before after : List Drainer) (node : List ℕ) (d : Drainer)
    → index < length items → node ≡ get_or items index node → IsNewAt seats.Agent node seat d → after ≡ before ++ d ∷ []
    → ((agents : List Drainer) → AreNewAgents seat (drop index items) agents → AreAdded first nodes initial (before ++ agents))
    → (agents : List Drainer) → AreNewAgents (seat + 1) (drop (index + 1) items) agents → AreAdded first nodes initial (after ++ agents)
added_more first seat nodes items index initial before after node d within read new pushed goes agents later =
    let here : drop index items ≡ node ∷ drop (index + 1) items = drop-cons items index node within ∙ ap (λ n. n ∷ drop (suc index) items) (sym read)
    ∙ ap (λ (k : ℕ). node ∷ drop k items) (sym (add-one index)) in
    subst (λ (xs : List Drainer). AreAdded first nodes initial xs) (sym (append_assoc before (d ∷ []) agents) ∙ ap (λ xs. xs ++ agents) (sym pushed))
    (goes (d ∷ agents) (subst (λ (rest : List (List ℕ)). AreNewAgents seat rest (d ∷ agents)) (sym here) (new, later)))

pub all_added : (first seat : ℕ) (nodes items : List (List ℕ)) (index : ℕ) (initial now : List Drainer) → length items ≤ index
    → ((agents : List Drainer) → AreNewAgents seat (drop index items) agents → AreAdded first nodes initial (now ++ agents)) → AreAdded first nodes initial now
all_added first seat nodes items index initial now over goes =
    subst (λ (xs : List Drainer). AreAdded first nodes initial xs) (append-nil now) (goes [] (subst (λ (rest : List (List ℕ)). AreNewAgents seat rest []) (sym (drop_all index items over)) refl))
