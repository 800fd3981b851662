-- The examples of the actors of a drain, and of drains that are no rounds of them, compute.
use Rattle.std.proofs.Common.{◌≡◌, ◌≢◌, ◌<◌, ℕ, ◌+◌, suc, List, [], ◌∷◌, length, Bool, true, false, true≢false, Option, Some, None, inl, inr, refl, sym, ◌∙◌, ap, subst, arith}
use Rattle.std.specs.Prelude.{codes, slice_get}
use Rattle.std.specs.declared.cmp.Ordering.{Ordering}
use Rattle.std.specs.declared.cmp.Ordering.TheVariants.{Less}
use mathlib.Core.Bool.{xor}
use Rattle.kube_objects.specs.declared.key.Key.{Key}
use Rattle.kube_parts.specs.declared.names.Due.TheVariants as dues
use Rattle.kube_objects.specs.declared.objects.Object.{Object}
use Rattle.kube_objects.specs.declared.objects.Object.TheVariants.{Volume}
use Rattle.kube_objects.specs.Keys.{key_of, key_cmp, row_at}
use Rattle.kube_objects.proofs.KeyOrder.{row_at_key}
use Rattle.call_types.specs.declared.entry.Entry.{Entry}
use Rattle.call_types.specs.declared.reply.Reply.{Reply}
use Rattle.call_types.specs.declared.reply.Reply.TheVariants as replies
use Rattle.call_types.specs.declared.request.Request.{Request}
use Rattle.call_types.specs.declared.request.Request.TheVariants as requests
use Rattle.call_types.specs.declared.request.SeatKind.{SeatKind}
use Rattle.call_types.specs.declared.request.SeatKind.TheVariants as seats
use Rattle.binder_model.specs.Answers.{after, create, guard_on, list, outcome, refuse, refuse_field, refuse_rule}
use Rattle.binder_model.specs.BindWrites.{next_write, claim_write}
use Rattle.binder_model.specs.BinderDue.{volume_due, reference_due, referred_due, claim_with, claim_due, named_due, completed_due}
use Rattle.binder_model.specs.Devices.{device_answer}
use Rattle.binder_model.specs.Due.{IsFirstDue, or_due}
use Rattle.binder_model.specs.Fields.{claim_fault, create_fault, faulty, kind_fault, volume_fault}
use Rattle.binder_model.specs.Guard.{breaks, guard}
use Rattle.binder_model.specs.ObjectKeys.{volume_key}
use Rattle.binder_model.specs.Store.{admitted_object, at_version, created_object, lacks_node, leaves, with_meta, without_status}
use Rattle.binder_model.specs.Told.{own}
use Rattle.binder_model.specs.World.{effect, log_after, on_devices, world, world_after}
use Rattle.model_laws.proofs.Lists.{none_some}
use Rattle.model_laws.specs.Worked.{volume}
use Rattle.model_examples.proofs.Tellings.{IsIn, differ, one}
use Rattle.model_laws.proofs.Readings.{found_stands as found_in}
use Rattle.world_core.specs.declared.drained.Drained.{Drained}
use Rattle.world_core.specs.declared.drained.Drained.TheVariants.{Spent}
use Rattle.actor_rounds.specs.declared.drainers.Drainer.{Drainer}
use Rattle.actor_rounds.specs.Drainers.{AreNew, roles_for, roles_of, seats_for, seats_of}
use Rattle.actor_rounds.proofs.NewFacts.{new_roles_for, new_seats_for}
use Rattle.script_text.specs.declared.script.Line.{Line}
use Rattle.script_text.specs.declared.script.Line.TheVariants as lines
use Rattle.script_text.specs.declared.script.Script.{Script}
use Rattle.script_runs.specs.Parts.{drain_roles, drain_seat}
use Rattle.script_runs.specs.Replays.{AreMoves, IsMove, IsReplay, IsUserCall, MoreMoves, NoMoves, Progress, first_progress}
use Rattle.worker_core.specs.declared.role.Role.{Role}
use Rattle.run_examples.specs.Replay.Drains.{ActorExamples, RoundExamples, lists_made, made, made_a, made_script, node_script, only_watched, watches_made}
use Rattle.run_examples.proofs.Replay.Firsts.{FirstCall, ends_so, first_call, last_drainers, no_lines, second_call}
use Rattle.run_examples.proofs.Replay.Drainers.{drainers_new, drainers_of}
use Rattle.run_examples.proofs.Replay.Scheduled.{one_call_drain, ran_all}

abbrev is_list : Request → Bool
is_list (requests.List kind namespace) = true
is_list request = false

abbrev is_scheduler : SeatKind → Bool
is_scheduler seats.Scheduler = true
is_scheduler kind = false

-- ---- the actors

abbrev sixth : List Role → Option Role
sixth (a ∷ b ∷ c ∷ d ∷ e ∷ role ∷ roles) = Some role
sixth roles = None

-- the roles of actors that were made for no node are not those of a script with one
no_agent : (ds : List Drainer) → AreNew (drain_seat node_script) [] ds → roles_of ds ≢ drain_roles node_script
no_agent ds new same =
    let five : roles_for [] ≡ drain_roles node_script = sym (new_roles_for (drain_seat node_script) [] ds new) ∙ same in
    none_some (ap sixth five)

-- nor are they at the seats after theirs

abbrev first_in : List ℕ → ℕ
first_in [] = 0
first_in (seat ∷ seats) = seat

not_later : (ds : List Drainer) → AreNew (drain_seat node_script + 1) node_script.node_names ds → seats_of ds ≡ seats_for (drain_seat node_script) node_script.node_names → ⊥
not_later ds new same =
    let both : seats_for (drain_seat node_script + 1) node_script.node_names ≡ seats_for (drain_seat node_script) node_script.node_names =
    sym (new_seats_for (drain_seat node_script + 1) node_script.node_names ds new) ∙ same in
    let first : 8 ≡ 7 = ap first_in both in omega (arith, first)

pub actor_cases : ActorExamples
actor_cases = record {
  no_replay_without_its_agent = λ past ending r new. no_agent r.drainers new (new_roles_for (drain_seat node_script) node_script.node_names r.drainers r.new);
  nor_at_any_drain = λ p new are. no_agent p.drainers new are.roles;
  no_stage_without_it = λ p s new stands. no_agent s.drainers new (ap roles_of stands.drainers ∙ stands.are.roles);
  no_replay_at_later_seats = λ past ending r new. not_later r.drainers new (new_seats_for (drain_seat node_script) node_script.node_names r.drainers r.new);
  nor_any_drain_there = λ p new are. not_later p.drainers new are.seats;
  with_it_they_are_its_actors = λ ds new. (new_seats_for (drain_seat node_script) node_script.node_names ds new, new_roles_for (drain_seat node_script) node_script.node_names ds new);
}

-- ---- what came before the drain

-- a user's line alone leaves the call of it
pub record UserAsked (done now : Progress) (user : ℕ) (request : Request) : Type 0 where
  pub reply : Reply
  pub is : done ≡ record now { past = (record { seat = user; kind = seats.User; request = request; reply = reply; told = true }) ∷ now.past }

one_line : (script : Script) (option : Option ℕ) (done now : Progress) (ls : List Line) (user : ℕ) (request : Request)
    → ls ≡ lines.Call user request ∷ [] → AreMoves script option done ls now → UserAsked done now user request
one_line script option done now ls user request are (NoMoves none is) = absurd (cc)
one_line script option done now ls user request are (MoreMoves line rest next is move more) =
    let same : line ≡ lines.Call user request = cc in
    let last : rest ≡ [] = cc in
    let call : IsUserCall user request now next = subst (λ l. IsMove script option l now next) same move in
    record { reply = call.reply; is = no_lines script option done next rest last more ∙ call.is }

-- ---- drains after it

module _ (n : ℕ) (past : List Entry) (ending : Drained) (r : IsReplay made_script (Some n) past ending) (long : 1 < length past) where
  asked : UserAsked r.lines_done (first_progress (Some n) r.drainers) 1 (requests.Create (Volume (volume (codes "a") 5)))
  asked = one_line made_script (Some n) r.lines_done (first_progress (Some n) r.drainers) made_script.lines 1 (requests.Create (Volume (volume (codes "a") 5))) refl r.moves

  abbrev user_entry : Entry
  user_entry = record { seat = 1; kind = seats.User; request = requests.Create (Volume (volume (codes "a") 5)); reply = asked.reply; told = true }

  before_is : r.lines_done.past ≡ user_entry ∷ []
  before_is = ap (λ (p : Progress). p.past) asked.is

  one_before : length r.lines_done.past ≡ 1
  one_before = ap length before_is

  more : r.end.past ≢ r.lines_done.past
  more same = let all : length past ≡ length r.end.past = ap length r.history in let one_ : length r.end.past ≡ length r.lines_done.past =
      ap length same in let b = one_before in absurd (omega (arith, long, all, one_, b))

  nothing_yet : own 7 r.lines_done.past ≡ []
  nothing_yet = ap (own 7) before_is

  pub first : FirstCall 7 r.lines_done.past r.end.past
  first = first_call made_script (Some n) r.lines_done r.end r.last (last_drainers made_script (Some n) past ending r) more nothing_yet

  -- the first call stands before the user's
  pub first_at : (place : ℕ) → length past ≡ place + 2 → slice_get past place ≡ Some first.entry
  first_at place is = let b = one_before in ends_so past first.later first.entry r.lines_done.past place (r.history ∙ first.are) (omega (arith, is, b))

  pub first_seat : (place : ℕ) (e : Entry) → length past ≡ place + 2 → slice_get past place ≡ Some e → e.seat ≡ 7
  first_seat place e is there = ap (λ (x : Entry). x.seat) (one e first.entry (sym there ∙ first_at place is)) ∙ first.of_seat

  pub first_kind : (place : ℕ) (e : Entry) → length past ≡ place + 2 → slice_get past place ≡ Some e → e.kind ≡ seats.Scheduler
  first_kind place e is there = ap (λ (x : Entry). x.kind) (one e first.entry (sym there ∙ first_at place is)) ∙ first.of_kind

  pub second_asks : (place : ℕ) (e : Entry) → 1 < n → length past ≡ place + 3 → slice_get past place ≡ Some e → is_list e.request ≡ true
  second_asks place e two is there =
      let budget : r.last.budget ≡ n = r.last.raises in
      let none : r.lines_done.drained ≡ 0 = ap (λ (p : Progress). p.drained) asked.is in
      let second = second_call made_script (Some n) r.lines_done r.end r.last (last_drainers made_script (Some n) past ending r) more nothing_yet (omega (arith, two, budget, none)) in
      let b = one_before in
      let two_before : length (second.first ∷ r.lines_done.past) ≡ 2 = ap suc b in
      let at : slice_get past place ≡ Some second.entry = ends_so past second.later second.entry (second.first ∷ r.lines_done.past) place (r.history ∙ second.are) (omega (arith, is, two_before)) in
      ap (λ (x : Entry). is_list x.request) (one e second.entry (sym there ∙ at)) ∙ ap is_list second.asks

-- ---- what is due where the volume stands alone

abbrev rows : List Object
rows = Volume made_a ∷ []

rows_made : (world made_script.setup made).store.rows ≡ rows
unfolding effect on_devices device_answer outcome create refuse refuse_field refuse_rule guard_on guard breaks create_fault kind_fault volume_fault
    claim_fault faulty lacks_node admitted_object without_status created_object at_version leaves with_meta world_after after log_after xor
rows_made = refl

rows_listed : (world made_script.setup (lists_made 7 seats.Scheduler ∷ made)).store.rows ≡ rows
unfolding effect on_devices device_answer outcome create list refuse refuse_field refuse_rule guard_on guard breaks create_fault kind_fault
    volume_fault claim_fault faulty lacks_node admitted_object without_status created_object at_version leaves with_meta world_after after log_after xor
rows_listed = refl

abbrev key : Key
key = volume_key (codes "a")

abbrev is_less : Ordering → Bool
is_less Less = true
is_less o = false

none_before : (earlier : Key) (o : Object) → key_of o ≡ earlier → key_cmp earlier key ≡ Less → IsIn o rows → ⊥
none_before earlier o k less (inl e) = differ is_less (sym (subst (λ j. key_cmp j key ≡ Less) (sym (ap key_of e ∙ k)) less)) refl refl
none_before earlier o k less (inr h) = h

due_first : (past : List Entry) → (world made_script.setup past).store.rows ≡ rows → IsFirstDue made_script.setup (world made_script.setup past) (Some (key, dues.Available))
unfolding or_due volume_due reference_due referred_due claim_with claim_due named_due completed_due next_write claim_write
due_first past are = record {
  object = Volume made_a;
  there = ap (row_at key) are;
  due = refl;
  first = λ earlier o e less. let there : row_at earlier rows ≡ Some o = sym (ap (row_at earlier) are) ∙ e in
      absurd (none_before earlier o (row_at_key earlier o rows there) less (found_in earlier o rows there));
}

pub round_cases : RoundExamples
round_cases = record {
  only_watches = λ r. let e : 5 ≡ 7 = first_seat 4 (only_watched 5 seats.Binder) (Spent 4 key dues.Available) r five 3 (lists_made 5 seats.Binder) refl refl in absurd (omega (arith, e));
  nor_does_the_scheduler = λ r. absurd (true≢false
      (sym (second_asks 4 (only_watched 7 seats.Scheduler) (Spent 4 key dues.Available) r five 2 (watches_made 7 seats.Scheduler) (omega arith) refl refl)));
  wrong_kinds = λ r. let e : 5 ≡ 7 = first_seat 1 (lists_made 5 seats.VolumeProtect ∷ made) (Spent 1 key dues.Available) r two 0 (lists_made 5
      seats.VolumeProtect) refl refl in absurd (omega (arith, e));
  nor_at_the_seat_of_the_scheduler = λ r. absurd (true≢false
      (sym (ap is_scheduler (first_kind 1 (lists_made 7 seats.VolumeProtect ∷ made) (Spent 1 key dues.Available) r two 0 (lists_made 7 seats.VolumeProtect) refl refl))));
  but_the_scheduler_lists_them = record {
    drainers = drainers_of made_script;
    new = drainers_new (drain_seat made_script) made_script.node_names;
    lines_done = record (first_progress (Some 1) (drainers_of made_script)) { past = made };
    end = record (first_progress (Some 1) (ran_all made_script made (lists_made 7 seats.Scheduler).reply (refl, (refl, (refl, (refl, (refl, tt))))) (key, dues.Available)
        (key, dues.Available) (due_first made rows_made) (due_first (lists_made 7 seats.Scheduler ∷ made) rows_listed))) { past = lists_made 7 seats.Scheduler ∷ made; drained = 1 };
    moves = MoreMoves (lines.Call 1 (requests.Create (Volume (volume (codes "a") 5)))) [] _ refl (record { reply = replies.Done (Volume made_a); is = refl }) (NoMoves refl refl);
    last = one_call_drain made_script made (lists_made 7 seats.Scheduler).reply (refl, (refl, (refl, (refl, (refl, tt))))) (key, dues.Available)
        (key, dues.Available) (due_first made rows_made) (due_first (lists_made 7 seats.Scheduler ∷ made) rows_listed);
    history = refl;
    ends = (refl, refl, due_first (lists_made 7 seats.Scheduler ∷ made) rows_listed);
  };
}
  where
    five : 1 < 5
    five = omega arith

    two : 1 < 2
    two = omega arith
