-- The examples of replays compute.
use Rattle.std.proofs.Common.{◌≡◌, ℕ, ◌+◌, ◌-◌, List, [], ◌∷◌, ◌++◌, length, Bool, true, false, true≢false, Some, None, inl, inr, refl, sym, ◌∙◌, ap, subst, arith}
use Rattle.kube_parts.specs.declared.names.Due.TheVariants as dues
use Rattle.call_types.specs.declared.entry.Entry.{Entry}
use Rattle.call_types.specs.declared.reply.Refusal.TheVariants.{NotFound}
use Rattle.call_types.specs.declared.reply.Reply.TheVariants.{Refused}
use Rattle.call_types.specs.declared.request.Request.{Request}
use Rattle.call_types.specs.declared.request.Request.TheVariants as requests
use Rattle.call_types.specs.declared.request.Request.TheVariants.{Get}
use Rattle.kube_parts.specs.declared.parts.Kind.TheVariants as kinds
use Rattle.actor_rounds.specs.Longer.{IsLonger}
use Rattle.model_laws.proofs.Evidence.{own_mine}
use Rattle.call_types.specs.declared.request.SeatKind.TheVariants as seats
use Rattle.binder_model.specs.Told.{own}
use Rattle.binder_model.specs.Answers.{after, get, list, outcome}
use Rattle.binder_model.specs.Devices.{device_answer}
use Rattle.binder_model.specs.World.{effect, on_devices, world, world_after}
use Rattle.world_core.specs.declared.drained.Drained.{Drained}
use Rattle.world_core.specs.declared.drained.Drained.TheVariants.{Settled, Spent}
use Rattle.binder_model.specs.Due.{IsSettled}
use Rattle.actor_rounds.specs.Drainers.{HaveNoEntries, seats_of}
use Rattle.actor_rounds.specs.Rounds.{NothingDue, all_pass}
use Rattle.script_text.specs.declared.script.Line.{Line}
use Rattle.script_text.specs.declared.script.Line.TheVariants as lines
use Rattle.script_text.specs.declared.script.Script.{Script}
use Rattle.actor_turns.specs.declared.part.Part.{Part}
use Rattle.script_runs.specs.Budget.{raised}
use Rattle.script_runs.specs.Examples.{binder_1}
use Rattle.script_runs.specs.Parts.{part_of, role_of}
use Rattle.actor_turns.specs.Calls.{AreOfLife, MayEnd, MoreCalls, NoCalls}
use Rattle.actor_turns.specs.Lives.{ArePlayedLives, IsPlayedLife}
use Rattle.actor_turns.proofs.Diligent.{idle_lives_may_end}
use Rattle.script_runs.specs.Replays.{AreMoves, IsDrain, IsMove, IsReplay, IsTurnLine, IsUserCall, MoreMoves, NoMoves, Progress, and_made, first_progress}
use Rattle.run_examples.specs.Replay.Calls.{first_list, reads, some_key, watches}
use Rattle.run_examples.specs.Replay.Replays.{EmptyExamples, TurnExamples, UserExamples, empty_script, turn_script, user_reads, user_script}
use Rattle.script_runs.proofs.Draining.{calls_leave_entries, drains_come_to}
use Rattle.actor_rounds.specs.declared.drainers.Drainer.{Drainer}
use Rattle.script_runs.specs.Parts.{drain_seat}
use Rattle.run_examples.proofs.Replay.Drainers.{drainers_new, drainers_of, drainers_stand}
use Rattle.run_examples.proofs.Replay.Firsts.{no_lines}
use Rattle.run_examples.proofs.Replay.Brought.{only_life}
use Rattle.run_examples.proofs.Replay.Played.{binder_listed, first_lists, list_volumes}
use Rattle.run_examples.proofs.Replay.Counted.{LeavesOne, end_cases, none_left, one_call}

-- ---- a replay whose last drain has nothing to do

abbrev pub settled_replay : (script : Script) (past : List Entry) (made : List ℕ → ℕ)
    → AreMoves script None (record (first_progress None (drainers_of script)) { past = past; made = made }) script.lines (first_progress None (drainers_of script))
    → 2048 ≡ raised None script.setup past 0 → IsSettled script.setup (world script.setup past)
    → HaveNoEntries (seats_of (drainers_of script)) past → IsReplay script None past (Settled 0)
settled_replay script past made moves budget settled none = record {
  drainers = drainers_of script;
  new = drainers_new (drain_seat script) script.node_names;
  lines_done = record (first_progress None (drainers_of script)) { past = past; made = made };
  end = record (first_progress None (drainers_of script)) { past = past; made = made; budget = 2048 };
  moves = moves;
  last = record {
    past = past;
    made = 0;
    budget = 2048;
    ran = drainers_of script;
    raises = budget;
    stand = drainers_stand script past none;
    few = omega arith;
    rounds = NothingDue settled refl refl refl;
    is = refl;
  };
  history = refl;
  ends = (refl, settled);
}

-- ---- the empty script

pub nothing_due : IsSettled empty_script.setup (world empty_script.setup [])
nothing_due key o there = absurd (cc)

settled_at : (past : List Entry) → past ≡ [] → IsSettled empty_script.setup (world empty_script.setup past)
settled_at [] none = nothing_due
settled_at (e ∷ past) none = absurd (cc)

none_added : (xs ys : List Entry) → [] ≡ xs ++ ys → length xs ≡ 0
none_added [] ys is = refl
none_added (x ∷ xs) ys is = absurd (cc)

-- what the last drain comes to where no line came before it

past_after : (ds : List Drainer) (before end : Progress) → before ≡ first_progress None ds → IsDrain all_pass empty_script None before end → end.past ≡ []
past_after ds before end is d =
    let first : before.past ≡ [] = ap (λ (p : Progress). p.past) is in
    (drains_come_to all_pass empty_script None before end d).none (settled_at before.past first) ∙ first

drained_after : (ds : List Drainer) (before end : Progress) → before ≡ first_progress None ds → IsDrain all_pass empty_script None before end → end.drained ≡ 0
drained_after ds before end is d =
    let l = calls_leave_entries empty_script None before end d in
    let none : [] ≡ l.added ++ before.past = sym (past_after ds before end is d) ∙ l.are in
    let long : length l.added ≡ 0 = none_added l.added before.past none in
    let count = l.count in
    let low = (drains_come_to all_pass empty_script None before end d).low in
    let first : before.drained ≡ 0 = ap (λ (p : Progress). p.drained) is in
    omega (arith, long, count, low, first)

budget_after : (ds : List Drainer) (before end : Progress) → before ≡ first_progress None ds → IsDrain all_pass empty_script None before end → end.budget ≡ 2048
budget_after ds before end is d = ap (λ (p : Progress). p.budget) d.is ∙ d.raises ∙ ap (λ (p : Progress). raised None empty_script.setup p.past p.budget) is

at_the_end : (ds : List Drainer) (done : Progress) → AreMoves empty_script None done [] (first_progress None ds) → done ≡ first_progress None ds
at_the_end ds done moves = no_lines empty_script None done (first_progress None ds) [] refl moves

makes_no_call : IsReplay empty_script None (reads 5 true ∷ []) (Settled 0) → ⊥
makes_no_call r =
    let none : reads 5 true ∷ [] ≡ [] = r.history ∙ past_after r.drainers r.lines_done r.end (at_the_end r.drainers r.lines_done r.moves) r.last in
    absurd (cc)

counts_no_call : IsReplay empty_script None [] (Settled 1) → ⊥
counts_no_call r =
    let one : 1 ≡ 0 = r.ends.0 ∙ drained_after r.drainers r.lines_done r.end (at_the_end r.drainers r.lines_done r.moves) r.last in
    absurd (omega (arith, one))

spends_nothing : IsReplay empty_script None [] (Spent 0 some_key dues.Available) → ⊥
spends_nothing r =
    let none : 0 ≡ 2048 = r.ends.1 ∙ budget_after r.drainers r.lines_done r.end (at_the_end r.drainers r.lines_done r.moves) r.last in
    absurd (omega (arith, none))

pub empty_cases : EmptyExamples
empty_cases = record {
  ends_settled = settled_replay empty_script [] (λ name. 0) (NoMoves refl refl) refl nothing_due (refl, (refl, (refl, (refl, (refl, tt)))));
  makes_no_call = makes_no_call;
  counts_no_call = counts_no_call;
  spends_nothing = spends_nothing;
}

-- ---- the first entry of a history

pub record BeginsWith (seat : ℕ) (past : List Entry) : Type 0 where
  pub later : List Entry
  pub entry : Entry
  pub are : past ≡ later ++ entry ∷ []
  pub of_seat : entry.seat ≡ seat
  pub was_told : entry.told ≡ true

begins_with : (script : Script) (seat : ℕ) (past : List Entry) (ending : Drained)
    → ((ds : List Drainer) (done : Progress) → AreMoves script None done script.lines (first_progress None ds) → LeavesOne seat done.past)
    → IsReplay script None past ending → BeginsWith seat past
begins_with script seat past ending leaves r =
    let one = leaves r.drainers r.lines_done r.moves in
    let drain = calls_leave_entries script None r.lines_done r.end r.last in
    record {
      later = drain.added;
      entry = one.entry;
      are = r.history ∙ drain.are ∙ ap (λ xs. drain.added ++ xs) one.are;
      of_seat = one.of_seat;
      was_told = one.was_told;
    }

never_empty : (e : Entry) (xs : List Entry) → [] ≡ xs ++ e ∷ [] → ⊥
never_empty e [] is = absurd (cc)
never_empty e (x ∷ xs) is = absurd (cc)

alone : (x e : Entry) (xs : List Entry) → x ∷ [] ≡ xs ++ e ∷ [] → x ≡ e
alone x e [] is = cc
alone x e (y ∷ xs) is = let rest : [] ≡ xs ++ e ∷ [] = cc in absurd (never_empty e xs rest)

not_empty : (seat : ℕ) → BeginsWith seat [] → ⊥
not_empty seat b = never_empty b.entry b.later b.are

its_seat : (seat : ℕ) (x : Entry) → BeginsWith seat (x ∷ []) → x.seat ≡ seat
its_seat seat x b = ap (λ (e : Entry). e.seat) (alone x b.entry b.later b.are) ∙ b.of_seat

its_answer : (seat : ℕ) (x : Entry) → BeginsWith seat (x ∷ []) → x.told ≡ true
its_answer seat x b = ap (λ (e : Entry). e.told) (alone x b.entry b.later b.are) ∙ b.was_told

-- ---- one line

one_move : (P : List Entry → Type 0) (script : Script) (line : Line) (ds : List Drainer) (done now : Progress) (ls : List Line) → ls ≡ line ∷ [] → now ≡ first_progress None ds
    → ((next : Progress) → IsMove script None line (first_progress None ds) next → P next.past) → AreMoves script None done ls now → P done.past
one_move P script line ds done now ls are start leaves (NoMoves none is) = absurd (cc)
one_move P script line ds done now ls are start leaves (MoreMoves first rest next is move more) =
    let same : first ≡ line = cc in
    let last : rest ≡ [] = cc in
    let begins : IsMove script None line (first_progress None ds) next = subst (λ p. IsMove script None line p next) start (subst (λ l. IsMove script None l now next) same move) in
    subst (λ (p : Progress). P p.past) (sym (no_lines script None done next rest last more)) (leaves next begins)

-- ---- a user's line

user_moved : (ds : List Drainer) (next : Progress) → IsUserCall 1 (Get some_key) (first_progress None ds) next → LeavesOne 1 next.past
user_moved ds next move = record { entry = _; are = ap (λ (p : Progress). p.past) move.is; of_seat = refl; was_told = refl }

user_begins : (past : List Entry) (ending : Drained) → IsReplay user_script None past ending → BeginsWith 1 past
user_begins past ending r = begins_with user_script 1 past ending (λ ds done moves. one_move (LeavesOne 1) user_script (lines.Call 1 (Get some_key)) ds done
    (first_progress None ds) user_script.lines refl refl (user_moved ds) moves) r

nothing_due_after : IsSettled user_script.setup (world user_script.setup (user_reads 1 ∷ []))
unfolding world_after effect on_devices device_answer after outcome get
nothing_due_after key o there = absurd (cc)

budget_after_user : 2048 ≡ raised None user_script.setup (user_reads 1 ∷ []) 0
unfolding world_after effect on_devices device_answer after outcome get
budget_after_user = refl

pub user_cases : UserExamples
user_cases = record {
  its_call_is_made = settled_replay user_script (user_reads 1 ∷ []) (λ name. 0)
      (MoreMoves (lines.Call 1 (Get some_key)) [] _ refl (record { reply = Refused NotFound; is = refl }) (NoMoves refl refl)) budget_after_user
      nothing_due_after (refl, (refl, (refl, (refl, (refl, tt)))));
  not_by_another_user = λ r. let e : 2 ≡ 1 = its_seat 1 (user_reads 2) (user_begins (user_reads 2 ∷ []) (Settled 0) r) in absurd (omega (arith, e));
  not_left_out = λ r. not_empty 1 (user_begins [] (Settled 0) r);
}

-- ---- a turn line

abbrev binder_part : Part
binder_part = part_of turn_script binder_1

turn_moved : (ds : List Drainer) (next : Progress) → IsTurnLine all_pass [] (role_of binder_1) binder_part 1 (first_progress None ds) next → LeavesOne 5 next.past
turn_moved ds next (inl all) = subst (LeavesOne 5) (sym (ap (λ (p : Progress). p.past) all.is)) (one_call binder_part all.past 1 1 [] refl refl refl refl all.made)
turn_moved ds next (inr fewer) =
    let few = fewer.few in
    let none : fewer.past ≡ [] = none_left binder_part fewer.past 1 fewer.count [] (omega (arith, few)) fewer.made in
    let ends = idle_lives_may_end [] (role_of binder_1) binder_part fewer.seat (0 + fewer.count) fewer.past [] fewer.since tt fewer.ends in
    absurd (end_cases.not_at_once (subst (λ h. MayEnd seats.Binder [] (own fewer.seat h)) none ends))

turn_begins : (past : List Entry) (ending : Drained) → IsReplay turn_script None past ending → BeginsWith 5 past
turn_begins past ending r = begins_with turn_script 5 past ending (λ ds done moves. one_move (LeavesOne 5) turn_script (lines.Turn binder_1 1) ds done
    (first_progress None ds) turn_script.lines refl refl (turn_moved ds) moves) r

pub nothing_due_in_turn : IsSettled turn_script.setup (world turn_script.setup (first_list ∷ []))
unfolding world_after effect on_devices device_answer after outcome list
nothing_due_in_turn key o there = absurd (cc)

pub budget_after_turn : 2048 ≡ raised None turn_script.setup (first_list ∷ []) 0
unfolding world_after effect on_devices device_answer after outcome list
budget_after_turn = refl

pub turned_lives : ArePlayedLives [] (role_of binder_1) binder_part 1 (first_list ∷ []) (λ seat. [])
turned_lives seat low high =
    subst (λ s. IsPlayedLife [] (role_of binder_1) binder_part s 1 (first_list ∷ []) []) (only_life seat low high)
    (record { since = Some first_list ∷ []; are = record { of_seat = refl; left = refl }; state = _; played = binder_listed })

abbrev pub turn_replay : IsReplay turn_script None (first_list ∷ []) (Settled 0)
turn_replay =
    settled_replay turn_script (first_list ∷ []) (and_made binder_part.name 1 (λ name. 0))
    (MoreMoves (lines.Turn binder_1 1) [] _ refl
    (inl (record {
      past = first_list ∷ [];
      made = MoreCalls 0 (first_list ∷ []) refl (record { request = first_list.request; reply = first_list.reply; passes = refl; is = refl }) (NoCalls refl refl);
      lives = turned_lives;
      is = refl;
    }))
    (NoMoves refl refl)) budget_after_turn nothing_due_in_turn (refl, (refl, (refl, (refl, (refl, tt)))))

-- its one call, which its actor gave

record ListsVolumes (past : List Entry) : Type 0 where
  entry : Entry
  are : past ≡ entry ∷ []
  asks : entry.request ≡ list_volumes

turn_lists : (ds : List Drainer) (next : Progress) → IsTurnLine all_pass [] (role_of binder_1) binder_part 1 (first_progress None ds) next → ListsVolumes next.past
turn_lists ds next (inl all) = subst ListsVolumes (sym (ap (λ (p : Progress). p.past) all.is)) (by (one_call binder_part all.past 1 1 [] refl refl refl refl all.made))
  where
    by : LeavesOne 5 all.past → ListsVolumes all.past
    by one_ =
        let its : AreOfLife [] binder_part 5 1 (one_.entry ∷ []) (Some one_.entry ∷ []) = record { of_seat = sym (own_mine one_.entry [] 5 one_.of_seat); left = refl } in
        record {
          entry = one_.entry;
          are = one_.are;
          asks = first_lists binder_part 5 all.past one_.entry (subst (λ h. AreOfLife [] binder_part 5 1 h (Some one_.entry ∷ [])) (sym one_.are) its) (all.lives 5 (omega arith) (omega arith));
        }
turn_lists ds next (inr fewer) =
    let few = fewer.few in
    let none : fewer.past ≡ [] = none_left binder_part fewer.past 1 fewer.count [] (omega (arith, few)) fewer.made in
    let ends = idle_lives_may_end [] (role_of binder_1) binder_part fewer.seat (0 + fewer.count) fewer.past [] fewer.since tt fewer.ends in
    absurd (end_cases.not_at_once (subst (λ h. MayEnd seats.Binder [] (own fewer.seat h)) none ends))

-- the one entry of such a replay
one_lists : (x : Entry) (ending : Drained) → IsReplay turn_script None (x ∷ []) ending → x.request ≡ list_volumes
one_lists x ending r = by (one_move ListsVolumes turn_script (lines.Turn binder_1 1) r.drainers r.lines_done (first_progress None r.drainers)
    turn_script.lines refl refl (turn_lists r.drainers) r.moves)
  where
    drain : IsLonger (seats_of r.lines_done.drainers) (r.end.drained - r.lines_done.drained) r.lines_done.past r.end.past
    drain = calls_leave_entries turn_script None r.lines_done r.end r.last

    by : ListsVolumes r.lines_done.past → x.request ≡ list_volumes
    by lists_ =
        let same : x ≡ lists_.entry = alone x lists_.entry drain.added (r.history ∙ drain.are ∙ ap (λ xs. drain.added ++ xs) lists_.are) in
        ap (λ (e : Entry). e.request) same ∙ lists_.asks

abbrev is_list : Request → Bool
is_list (requests.List kind namespace) = true
is_list request = false

pub turn_cases : TurnExamples
turn_cases = record {
  its_call_is_made = turn_replay;
  not_in_vain = λ ending r. absurd (true≢false (sym (ap is_list (one_lists (reads 5 true) ending r))));
  not_by_a_watch = λ ending r. absurd (true≢false (sym (ap is_list (one_lists (watches kinds.PersistentVolume) ending r))));
  not_by_another_seat = λ r. let e : 6 ≡ 5 = its_seat 5 (reads 6 true) (turn_begins (reads 6 true ∷ []) (Settled 0) r) in absurd (omega (arith, e));
  not_without_its_answer = λ r. absurd (true≢false (sym (its_answer 5 (reads 5 false) (turn_begins (reads 5 false ∷ []) (Settled 0) r))));
  it_does_not_end_at_once = λ r. not_empty 5 (turn_begins [] (Settled 0) r);
}
