-- Lives of one call as an actor plays them: its first list, told or lost.
use Rattle.std.proofs.Common.{◌≡◌, ◌∙◌, ℕ, List, [], ◌∷◌, ◌++◌, Bool, true, false, true≢false, Option, Some, None, refl, sym, ap, subst, arith, if◌then◌else◌}
use Rattle.std.specs.Prelude.{is_some, map, slice_get}
use Rattle.kube_objects.specs.declared.key.Key.{Key}
use Rattle.kube_parts.specs.declared.parts.Kind.{Kind}
use Rattle.kube_parts.specs.declared.parts.Kind.TheVariants as kinds
use Rattle.call_types.specs.declared.entry.Entry.{Entry}
use Rattle.call_types.specs.declared.request.Request.{Request}
use Rattle.call_types.specs.declared.request.Request.TheVariants as requests
use Rattle.call_types.specs.declared.request.SeatKind.TheVariants as seats
use Rattle.binder_model.specs.Answers.{after, list, outcome, reply_of}
use Rattle.binder_model.specs.Devices.{device_answer}
use Rattle.binder_model.specs.Told.{newest, object_of}
use Rattle.binder_model.specs.World.{effect, on_devices, reply_to, world_after}
use Rattle.informer_cache.specs.All.{AllKnown, AllStandFor, cache_of}
use Rattle.informer_cache.specs.Cache.{CacheStandsFor, Known, kind_known, known_of}
use Rattle.worker_core.specs.declared.role.Role.{Role}
use Rattle.worker_core.specs.declared.turn.Given.{Given}
use Rattle.worker_core.specs.declared.turn.Given.TheVariants as givens
use Rattle.worker_core.specs.declared.task.Under.{Under}
use Rattle.worker_core.specs.declared.turn.Next.{Next}
use Rattle.worker_core.specs.declared.turn.Next.TheVariants as nexts
use Rattle.worker_core.specs.declared.turn.Outcome.{Outcome}
use Rattle.worker_core.specs.declared.turn.Outcome.TheVariants as outcomes
use Rattle.worker_core.specs.Absorbs.{absorbed}
use Rattle.worker_core.specs.Memories.{no_memory}
use Rattle.worker_core.specs.Roles.{IsBuiltKind, kinds_of}
use Rattle.worker_core.specs.Stands.{AnyIsUnderWay, AreOwn, Begun, GivenStands, IsUnderWay, StandsFor, WentOn}
use Rattle.worker_core.specs.States.{ActorState, call_in, read_of_kind, start_call}
use Rattle.worker_core.specs.Turns.{IsTurn, TurnBy, first_unlisted, passing, unlisted}
use Rattle.worker_core.proofs.ByKind.{built_fresh}
use Rattle.worker_core.proofs.Absorbing.{lost_after, lost_before, told_stands}
use Rattle.actor_rounds.specs.Drainers.{agent_of, of_kind}
use Rattle.attention_law.specs.Begun.{begun_as, knows_nothing, no_caches}
use Rattle.attention_law.specs.Diligence.{Call, entries}
use Rattle.attention_law.specs.Played.{Begins, IsPlayed, LostAfter, LostBefore, PlaysCall, Told, Wakes}
use Rattle.attention_law.specs.Resting.{Drops, Hears, IsPlayedSince, Misses, Starts}
use Rattle.attention_law.proofs.Begun.{begun_new, begun_stands}
use Rattle.attention_law.proofs.Following.{no_list, same_head, same_role, same_tail, stands_now}
use Rattle.attention_law.proofs.Needed.{played_on}
use Rattle.actor_turns.specs.declared.part.Part.{Part}
use Rattle.actor_turns.specs.Calls.{AreOfLife}
use Rattle.actor_turns.specs.Lives.{IsIdleLife, IsPlayedLife, WasPlayed}
use Rattle.model_laws.proofs.Lists.{none_some, one}
use Rattle.run_examples.specs.Replay.Calls.{first_list}
use Rattle.run_examples.proofs.Replay.Firsts.{asked_list, not_listed}

-- ---- the entries and the places of the lost calls say all

abbrev head_of : List Bool → Bool
head_of [] = true
head_of (b ∷ bs) = b

abbrev tail_of : List Bool → List Bool
tail_of [] = []
tail_of (b ∷ bs) = bs

pub same_calls : (calls others : List Call) → entries calls ≡ entries others → map is_some calls ≡ map is_some others → calls ≡ others
same_calls [] [] are left = refl
same_calls [] (other ∷ others) are left = absurd (cc)
same_calls (call ∷ calls) [] are left = absurd (cc)
same_calls (None ∷ calls) (None ∷ others) are left = ap (λ xs. None ∷ xs) (same_calls calls others are (ap tail_of left))
same_calls (None ∷ calls) (Some other ∷ others) are left = absurd (true≢false (sym (ap head_of left)))
same_calls (Some call ∷ calls) (None ∷ others) are left = absurd (true≢false (ap head_of left))
same_calls (Some call ∷ calls) (Some other ∷ others) are left =
    let first : call ≡ other = cc in
    let later : entries calls ≡ entries others = cc in
    ap (λ x. Some x ∷ calls) first ∙ ap (λ xs. Some other ∷ xs) (same_calls calls others later (ap tail_of left))

-- ---- the first turn of a life

abbrev pub given_as : Role → Given → ActorState
given_as role given = record (begun_as role) { given = Some given }

pub begins : (role : Role) → IsPlayedSince role (begun_as role) [] []
begins role = Starts refl refl (begun_new role) (begun_stands role)

given_stands : (role : Role) (given : Given) → GivenStands role no_memory (Some given) None → StandsFor (given_as role given) []
given_stands role given stands = let b = begun_stands role in record {
  caches = b.caches;
  under_way = b.under_way;
  pass = b.pass;
  memory = b.memory;
  licensed = b.licensed;
  own = b.own;
  start = b.start;
  given = stands;
}

-- a life whose first call was lost before its effect
abbrev pub lost_as : Role → Given → Request → ActorState
lost_as role given request = absorbed (given_as role given) no_caches request outcomes.Lost

pub lost_life : (role : Role) (given : Given) (request : Request) → IsTurn (begun_as role) (given_as role given) (nexts.Call request)
    → GivenStands role no_memory (Some given) None → IsPlayedSince role (lost_as role given request) [] (None ∷ [])
lost_life role given request turn gives =
    Drops (begun_as role) [] request (begins role) refl
    (record { turned = given_as role given; turns = record { order = tt; turn = turn; stands = given_stands role given gives }; takes = refl })
    (lost_before (given_as role given) [] (given_stands role given gives))

-- ---- a binder's, and those of the others

abbrev pub binder : Role
binder = of_kind seats.Binder

abbrev pub read_volumes : Given
read_volumes = givens.Read kinds.PersistentVolume

abbrev pub list_volumes : Request
list_volumes = requests.List kinds.PersistentVolume None

abbrev pub list_claims : Request
list_claims = requests.List kinds.PersistentVolumeClaim None

pub binder_turn : IsTurn (begun_as binder) (given_as binder read_volumes) (nexts.Call list_volumes)
binder_turn = record { call = refl; state = refl }

pub binder_lost : IsPlayedSince binder (lost_as binder read_volumes list_volumes) [] (None ∷ [])
binder_lost = lost_life binder read_volumes list_volumes binder_turn (refl, refl, refl)

pub ops_lost : IsPlayedSince (of_kind seats.Ops) (lost_as (of_kind seats.Ops) read_volumes list_volumes) [] (None ∷ [])
ops_lost = lost_life (of_kind seats.Ops) read_volumes list_volumes (record { call = refl; state = refl }) (refl, refl, refl)

pub scheduler_lost : IsPlayedSince (of_kind seats.Scheduler) (lost_as (of_kind seats.Scheduler) read_volumes list_volumes) [] (None ∷ [])
scheduler_lost = lost_life (of_kind seats.Scheduler) read_volumes list_volumes (record { call = refl; state = refl }) (refl, refl, refl)

pub claims_lost : IsPlayedSince (of_kind seats.ClaimProtect) (lost_as (of_kind seats.ClaimProtect) (givens.Read kinds.PersistentVolumeClaim) list_claims) [] (None ∷ [])
claims_lost = lost_life (of_kind seats.ClaimProtect) (givens.Read kinds.PersistentVolumeClaim) list_claims (record { call = refl; state = refl }) (refl, refl, refl)

pub volumes_lost : IsPlayedSince (of_kind seats.VolumeProtect) (lost_as (of_kind seats.VolumeProtect) read_volumes list_volumes) [] (None ∷ [])
volumes_lost = lost_life (of_kind seats.VolumeProtect) read_volumes list_volumes (record { call = refl; state = refl }) (refl, refl, refl)

pub agent_lost : (node : List ℕ) → IsPlayedSince (agent_of node) (lost_as (agent_of node) givens.Start (requests.TakeNode node)) [] (None ∷ [])
agent_lost node = lost_life (agent_of node) givens.Start (requests.TakeNode node) (record { call = refl; state = refl }) refl

-- ---- the list of a world without objects, told or lost after its effect

abbrev listed : Bool → Entry
listed told = record first_list { told = told }

-- the entry stands in a history
its_own : (told : Bool) → AreOwn (listed told ∷ [])
unfolding effect on_devices device_answer outcome list world_after after reply_to reply_of
its_own told = record {
  setup = record { pools = []; faults = []; imports = [] };
  past = listed told ∷ [];
  seat = 5;
  imports = tt;
  short = omega arith;
  history = (tt, refl);
  own = refl;
}

abbrev volumes_known : Known
volumes_known = record { rows = record { kind = kinds.PersistentVolume; marks = []; objects = [] }; lists = record { whole = Some 0; spaces = [] }; from = Some 0 }

abbrev pub listed_caches : AllKnown
listed_caches = record no_caches { volumes = volumes_known }

abbrev key_at : Kind → List ℕ → List ℕ → Key
key_at kind namespace name = record { kind = kind; namespace = namespace; name = name }

-- of a volume an absence was told, and of another kind's key nothing
known_there : (kind : Kind) (namespace name : List ℕ) → kind ≡ kinds.PersistentVolume → known_of volumes_known (key_at kind namespace name) ≡ newest (first_list ∷ []) (key_at kind namespace name)
known_there kinds.PersistentVolume namespace name is = refl
known_there kinds.PersistentVolumeClaim namespace name is = absurd (cc)
known_there kinds.StorageClass namespace name is = absurd (cc)
known_there kinds.Node namespace name is = absurd (cc)
known_there kinds.Pod namespace name is = absurd (cc)

known_other : (of kind : Kind) (namespace name : List ℕ) → kind ≡ of → (of ≡ kinds.PersistentVolume → ⊥)
    → known_of (knows_nothing of) (key_at kind namespace name) ≡ newest (first_list ∷ []) (key_at kind namespace name)
known_other of kinds.PersistentVolume namespace name is other = absurd (other (sym is))
known_other of kinds.PersistentVolumeClaim namespace name is other = refl
known_other of kinds.StorageClass namespace name is other = refl
known_other of kinds.Node namespace name is other = refl
known_other of kinds.Pod namespace name is other = refl

none_shown : (kind : Kind) (namespace name : List ℕ) → None ≡ object_of (newest (first_list ∷ []) (key_at kind namespace name))
none_shown kinds.PersistentVolume namespace name = refl
none_shown kinds.PersistentVolumeClaim namespace name = refl
none_shown kinds.StorageClass namespace name = refl
none_shown kinds.Node namespace name = refl
none_shown kinds.Pod namespace name = refl

other_stands : (of : Kind) → (of ≡ kinds.PersistentVolume → ⊥) → None ≡ (knows_nothing of).from → CacheStandsFor (knows_nothing of) (first_list ∷ [])
other_stands kinds.PersistentVolume other from = absurd (other refl)
other_stands kinds.PersistentVolumeClaim other from = record {
  known = λ key own. known_other kinds.PersistentVolumeClaim key.kind key.namespace key.name own other;
  rows = λ key own. none_shown key.kind key.namespace key.name;
  from = refl;
}
other_stands kinds.StorageClass other from = record {
  known = λ key own. known_other kinds.StorageClass key.kind key.namespace key.name own other;
  rows = λ key own. none_shown key.kind key.namespace key.name;
  from = refl;
}
other_stands kinds.Node other from = record {
  known = λ key own. known_other kinds.Node key.kind key.namespace key.name own other;
  rows = λ key own. none_shown key.kind key.namespace key.name;
  from = refl;
}
other_stands kinds.Pod other from = record {
  known = λ key own. known_other kinds.Pod key.kind key.namespace key.name own other;
  rows = λ key own. none_shown key.kind key.namespace key.name;
  from = refl;
}

listed_stand : AllStandFor listed_caches (first_list ∷ [])
listed_stand = record { kinds = kind_is; each = each; rows = λ key. none_shown key.kind key.namespace key.name }
  where
    kind_is : (kind : Kind) → kind_known (cache_of kind listed_caches) ≡ kind
    kind_is kinds.StorageClass = refl
    kind_is kinds.Node = refl
    kind_is kinds.PersistentVolume = refl
    kind_is kinds.PersistentVolumeClaim = refl
    kind_is kinds.Pod = refl

    each : (kind : Kind) → CacheStandsFor (cache_of kind listed_caches) (first_list ∷ [])
    each kinds.StorageClass = other_stands kinds.StorageClass (λ is. absurd (cc)) refl
    each kinds.Node = other_stands kinds.Node (λ is. absurd (cc)) refl
    each kinds.PersistentVolumeClaim = other_stands kinds.PersistentVolumeClaim (λ is. absurd (cc)) refl
    each kinds.Pod = other_stands kinds.Pod (λ is. absurd (cc)) refl
    each kinds.PersistentVolume = record {
      known = λ key own. known_there key.kind key.namespace key.name own;
      rows = λ key own. none_shown key.kind key.namespace key.name;
      from = refl;
    }

abbrev pub listed_as : ActorState
listed_as = absorbed (given_as binder read_volumes) listed_caches list_volumes (outcomes.Told first_list.reply)

plays : (new : ActorState) (came : Outcome) → new ≡ absorbed (given_as binder read_volumes) new.caches list_volumes came → PlaysCall (begun_as binder) new list_volumes came []
plays new came takes = record {
  turned = given_as binder read_volumes;
  turns = record { order = tt; turn = binder_turn; stands = given_stands binder read_volumes (refl, refl, refl) };
  takes = takes;
}

-- a binder that was told the list
pub binder_listed : IsPlayedSince binder listed_as [] (Some first_list ∷ [])
binder_listed =
    Hears (begun_as binder) [] first_list list_volumes first_list.reply (begins binder) refl (record { told = refl; asked = refl; answered = refl })
    (plays listed_as (outcomes.Told first_list.reply) refl)
    (told_stands (given_as binder read_volumes) [] first_list list_volumes tt (given_stands binder read_volumes (refl, refl, refl)) refl refl refl (its_own true)
    listed_caches first_list.reply (record { told = refl; asked = refl; answered = refl }) listed_stand)

-- one that was told it when it asked again
pub binder_relisted : IsPlayedSince binder listed_as [] (Some first_list ∷ None ∷ [])
binder_relisted =
    Hears (lost_as binder read_volumes list_volumes) (None ∷ []) first_list list_volumes first_list.reply binder_lost refl (record { told = refl; asked = refl; answered = refl })
    (plays listed_as (outcomes.Told first_list.reply) refl)
    (told_stands (given_as binder read_volumes) [] first_list list_volumes tt (given_stands binder read_volumes (refl, refl, refl)) refl refl refl (its_own true)
    listed_caches first_list.reply (record { told = refl; asked = refl; answered = refl }) listed_stand)

-- one that was not told it
pub binder_untold : IsPlayedSince binder (lost_as binder read_volumes list_volumes) [] (Some (listed false) ∷ [])
binder_untold =
    Misses (begun_as binder) [] (listed false) list_volumes (begins binder) refl refl refl
    (plays (lost_as binder read_volumes list_volumes) outcomes.Lost refl)
    (lost_after (given_as binder read_volumes) [] (listed false) list_volumes tt (given_stands binder read_volumes (refl, refl, refl)) refl refl refl (its_own false) refl)

-- ---- what a first call is

-- the turn of a binder that was told nothing lists the volumes
pub lists_first : (s given : ActorState) (answer : Next) → s.role ≡ binder → StandsFor s [] → IsTurn s given answer → answer ≡ nexts.Call list_volumes
lists_first s given answer is stands turn = by s.memory.stale s.under (start_call s.role s.memory) (unlisted s) (passing s) refl refl refl refl turn
  where
    kind_is : s.role.kind ≡ seats.Binder
    kind_is = ap (λ (r : Role). r.kind) is

    fresh : s.memory.stale ≡ false
    fresh = built_fresh s [] (subst IsBuiltKind (sym kind_is) tt) (λ agent. let two : seats.Binder ≡ seats.Agent = sym kind_is ∙ agent in absurd (cc)) stands

    lacks : (c : AllKnown) → AllStandFor c [] → first_unlisted c (kinds_of seats.Binder) ≡ Some kinds.PersistentVolume
    lacks c stand =
        ap (λ b. if b then first_unlisted c (kinds.PersistentVolumeClaim ∷ kinds.StorageClass ∷ []) else Some kinds.PersistentVolume) (not_listed kinds.PersistentVolume c [] stand refl)

    -- nothing is under way
    no_way : (role : Role) (u : Under) → role.kind ≡ seats.Binder → IsUnderWay role u [] → ⊥
    no_way role u kind (Begun c stand order listed gives) = none_some (sym listed ∙ ap (λ k. first_unlisted c (kinds_of k)) kind ∙ lacks c stand)
    no_way role u kind (WentOn before e past split way told asked moves) = none_some (ap (λ (es : List Entry). slice_get es 0) split)

    mine_lacks : unlisted s ≡ Some kinds.PersistentVolume
    mine_lacks = ap (λ k. first_unlisted s.caches (kinds_of k)) kind_is ∙ lacks s.caches stands.caches

    by : (stale : Bool) (u : Option Under) (start : Option Request) (l p : Option Kind) → s.memory.stale ≡ stale → s.under ≡ u
        → start_call s.role s.memory ≡ start → unlisted s ≡ l → TurnBy s given answer stale u start l p → answer ≡ nexts.Call list_volumes
    by true u start l p es eu et el t = absurd (true≢false (sym es ∙ fresh))
    by false (Some u) start l p es eu et el t = absurd (no_way s.role u kind_is (subst (λ (o : Option Under). AnyIsUnderWay s.role o []) eu stands.under_way))
    by false None (Some request) l p es eu et el t = none_some (ap (λ (r : Role). start_call r s.memory) (sym is) ∙ et)
    by false None None (Some k) p es eu et el t =
        let volumes : k ≡ kinds.PersistentVolume = one k kinds.PersistentVolume (sym el ∙ mine_lacks) in
        t.call ∙ ap (λ (x : Kind). nexts.Call (read_of_kind s.caches x)) volumes
        ∙ ap (λ (r : Request). nexts.Call r) (asked_list s.caches kinds.PersistentVolume (not_listed kinds.PersistentVolume s.caches [] stands.caches refl))
    by false None None None p es eu et el t = none_some (sym el ∙ mine_lacks)

-- so a life without calls is not idle
pub never_idle : (part : Part) (seat made : ℕ) (past : List Entry) (since : List Call) → since ≡ [] → IsIdleLife [] binder part seat made past [] since → ⊥
never_idle part seat made past since none idle =
    none_some (ap call_in (lists_first idle.state idle.turned nexts.Idle (same_role binder idle.state (since ++ []) played)
    (subst (λ c. StandsFor idle.state (entries (c ++ []))) none (stands_now binder idle.state (since ++ []) played)) idle.turns.turn))
  where
    played : IsPlayed binder idle.state (since ++ [])
    played = played_on binder idle.state [] since idle.played

-- as the turn says by which it is first told anything
asked_at : (old : ActorState) (before : List Call) (request : Request) → IsPlayed binder old before → entries before ≡ [] → (turned : ActorState)
    → IsTurn old turned (nexts.Call request) → request ≡ list_volumes
asked_at old before request played none turned turn =
    one request list_volumes (ap call_in (lists_first old turned (nexts.Call request) (same_role binder old before played) (subst (StandsFor old) none (stands_now binder old before played)) turn))

no_end : (newer : List Call) (c : Call) (older : List Call) → [] ≡ newer ++ c ∷ older → ⊥
no_end [] c older is = no_list c older is
no_end (x ∷ newer) c older is = no_list x (newer ++ c ∷ older) is

-- the first call of a binder's life that left an entry lists the volumes
pub oldest_asked : (s : ActorState) (newer : List Call) (e : Entry) (lost calls : List Call) → IsPlayed binder s calls
    → calls ≡ newer ++ Some e ∷ lost → entries lost ≡ [] → e.request ≡ list_volumes
oldest_asked s newer e lost calls (Begins none new stands) is left = absurd (no_end newer (Some e) lost (sym none ∙ is))
oldest_asked s newer e lost calls (Wakes old turned played turns woke stands) is left = oldest_asked old newer e lost calls played is left
oldest_asked s [] e lost calls (Told old before x request reply played call told plays stands) is left =
    let at : x ≡ e = one x e (same_head (Some x) (Some e) before lost (sym call ∙ is)) in
    let none : entries before ≡ [] = ap entries (same_tail (Some x) (Some e) before lost (sym call ∙ is)) ∙ left in
    sym (ap (λ (y : Entry). y.request) at) ∙ told.asked ∙ asked_at old before request played none plays.turned plays.turns.turn
oldest_asked s (c ∷ newer) e lost calls (Told old before x request reply played call told plays stands) is left =
    oldest_asked old newer e lost before played (same_tail (Some x) c before (newer ++ Some e ∷ lost) (sym call ∙ is)) left
oldest_asked s [] e lost calls (LostBefore old before request played call plays stands) is left = none_some (same_head None (Some e) before lost (sym call ∙ is))
oldest_asked s (c ∷ newer) e lost calls (LostBefore old before request played call plays stands) is left =
    oldest_asked old newer e lost before played (same_tail None c before (newer ++ Some e ∷ lost) (sym call ∙ is)) left
oldest_asked s [] e lost calls (LostAfter old before x request played call untold same plays stands) is left =
    let at : x ≡ e = one x e (same_head (Some x) (Some e) before lost (sym call ∙ is)) in
    let none : entries before ≡ [] = ap entries (same_tail (Some x) (Some e) before lost (sym call ∙ is)) ∙ left in
    sym (ap (λ (y : Entry). y.request) at) ∙ same ∙ asked_at old before request played none plays.turned plays.turns.turn
oldest_asked s (c ∷ newer) e lost calls (LostAfter old before x request played call untold same plays stands) is left =
    oldest_asked old newer e lost before played (same_tail (Some x) c before (newer ++ Some e ∷ lost) (sym call ∙ is)) left

-- as its calls stand in a history
pub last_lists : (part : Part) (seat made : ℕ) (past : List Entry) (newer before : List Call) (e : Entry) (lost : List Call)
    → AreOfLife [] part seat made past (newer ++ Some e ∷ lost) → entries lost ≡ [] → IsPlayedLife [] binder part seat made past before → e.request ≡ list_volumes
last_lists part seat made past newer before e lost of_it left life =
    oldest_asked life.state newer e lost (life.since ++ before) (played_on binder life.state before life.since life.played)
    (same_calls (life.since ++ before) (newer ++ Some e ∷ lost) (life.are.of_seat ∙ sym of_it.of_seat) (life.are.left ∙ sym of_it.left)) left

pub first_lists : (part : Part) (seat : ℕ) (past : List Entry) (e : Entry) → AreOfLife [] part seat 1 past (Some e ∷ []) → IsPlayedLife [] binder part seat 1 past [] → e.request ≡ list_volumes
first_lists part seat past e of_it life = last_lists part seat 1 past [] [] e [] of_it refl life

pub was_first : (part : Part) (seat : ℕ) (past : List Entry) (e : Entry) → AreOfLife [] part seat 1 past (Some e ∷ []) → WasPlayed [] binder part seat 1 past → e.request ≡ list_volumes
was_first part seat past e of_it was = last_lists part seat 1 past [] was.before e [] of_it refl was.life
