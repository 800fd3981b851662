-- What the lock says of a pass, in the words of worlds.
use Rattle.std.proofs.Common.{◌≡◌, ℕ, ◌+◌, List, ◌∷◌, All, slice_index_or, Option, Some, sym, ◌∙◌, ap, subst}
use Rattle.std.specs.Prelude.{IfSome}
use Rattle.call_types.specs.declared.entry.Entry.{Entry}
use Rattle.call_types.specs.declared.setup.Setup.{Setup}
use Rattle.call_types.specs.declared.reply.Reply.{Reply}
use Rattle.binder_model.specs.Promises.{IsRunOf}
use Rattle.binder_model.specs.Told.{own}
use Rattle.seat_lock.specs.declared.keeps.Entry.{Entry as Line}
use Rattle.seat_lock.specs.declared.keeps.Keeps.{Ghosts}
use Rattle.seat_lock.specs.declared.known.Known.{Known}
use Rattle.seat_lock.specs.declared.pass.Pass.{Pass}
use Rattle.seat_lock.specs.declared.pass.Sight.{Sight}
use Rattle.seat_lock.specs.Calls.{Enters}
use Rattle.seat_lock.specs.History.{AddsNoOthers, StartsWith, calls_of}
use Rattle.seat_lock.specs.Passes.{AreFirstPasses, Recalls, number_of, value_given, view_of}
use Rattle.seat_lock.specs.Passes.{HasLearnt as HasLearntLines, shown_by as lines_shown}
use Rattle.world_core.specs.Kept.{History}
use Rattle.shared_world.specs.declared.shared.SharedWorld.{SharedWorld}
use Rattle.call_types.specs.declared.ask.Ask.{Ask}
use Rattle.shared_world.specs.Lines.{Kept, entries, entry_of, kept_of, lines}
use Rattle.shared_world.specs.Passes.{AddsNoSeats, AreFirst, Begins, HasCalled, HasLearnt, IsIn, mine_of, past_given, seen_by, shown_by}
use Rattle.shared_world.proofs.Lining.{back, both_entries, longer_entries, own_entries, own_lines}

begins_so : (newer older : List (Line Ask Reply)) → StartsWith newer older → Begins (entries newer) (entries older)
begins_so newer older starts = (entries starts.0, ap entries starts.1 ∙ both_entries starts.0 older)

begun : (past : List Entry) (older : List (Line Ask Reply)) → StartsWith (lines past) older → Begins past (entries older)
begun past older starts = (entries starts.0, sym (back past) ∙ ap entries starts.1 ∙ both_entries starts.0 older)

-- a world that came from behind the lock, of which the lock says something
pub has_begun : (world : History) (value : Kept) (given : List Entry) → kept_of world ≡ value → StartsWith (lines value.past) (lines given) → Begins world.past given
has_begun world value given is starts = subst (λ (v : Kept). Begins v.past given) (sym is) (subst (Begins value.past) (back given) (begun value.past (lines given) starts))

pub no_seats : (made : ℕ) (world : History) (value : Kept) (given : List Entry) → kept_of world ≡ value → AddsNoOthers made (lines given) (lines value.past) → AddsNoSeats made given world.past
no_seats made world value given is none =
    subst (λ (v : Kept). AddsNoSeats made given v.past) (sym is) (λ seat beside. sym (own_lines seat value.past) ∙ ap entries (none seat beside) ∙ own_lines seat given)

module _ {k : Ghosts Kept Ask Reply Setup} where
  pub has_called : (setup : Setup) (p q : Pass Kept Ask Reply Setup k) (l : Line Ask Reply) → (view_of p).base ≡ Some setup
      → Enters (λ (s : Setup) (log : List (Line Ask Reply)). IsRunOf s (entries log)) (view_of p) l (view_of q) → HasCalled setup (entry_of l) p q
  has_called setup p q l base entered = record {
    mine = mine;
    between = entries entered.later.0;
    seen = seen ∙ ap (λ (es : List Entry). entry_of l ∷ es) (ap entries entered.later.1 ∙ both_entries entered.later.0 (view_of p).front);
    only =
        ap (own (number_of p)) seen
        ∙ sym (own_entries (number_of p) (l ∷ entered.seen))
        ∙ ap entries (ap (λ n. calls_of n (l ∷ entered.seen)) (sym p.number_is) ∙ entered.own)
        ∙ sym mine;
    made = ap (λ (w : Known Ask Reply Setup). w.made) entered.is;
    met = ap (λ (w : Known Ask Reply Setup). w.met) entered.is;
    found = ap (λ (w : Known Ask Reply Setup). w.found) entered.is;
    run = subst (IsRunOf setup) (sym seen) (subst (λ (b : Option Setup). IfSome b (λ s. IsRunOf s (entries (l ∷ entered.seen)))) base entered.lawful_is);
  }
    where
      mine : mine_of q ≡ entry_of l ∷ mine_of p
      mine = ap (λ (w : Known Ask Reply Setup). entries w.own) entered.is

      seen : seen_by q ≡ entry_of l ∷ entries entered.seen
      seen = ap (λ (w : Known Ask Reply Setup). entries w.front) entered.is

  pub has_learnt : (p q : Pass Kept Ask Reply Setup k) (sight : Sight Kept Ask Reply Setup k) → HasLearntLines (lines_shown sight) p q → HasLearnt (shown_by sight) p q
  has_learnt p q sight learnt = record {
    numbers = learnt.numbers;
    mine = ap (λ (w : Known Ask Reply Setup). entries w.own) learnt.view;
    seen = ap (λ (w : Known Ask Reply Setup). entries w.front) learnt.view ∙ longer_entries (view_of p).front (lines_shown sight);
    old = begins_so (view_of q).front (view_of p).front learnt.old;
    new = begins_so (view_of q).front (lines_shown sight) learnt.new;
    only = subst (Begins (mine_of q)) (own_entries (number_of q) (view_of q).front) (begins_so (view_of q).own (calls_of (number_of q) (view_of q).front) learnt.own);
    made = ap (λ (w : Known Ask Reply Setup). w.made) learnt.view;
    met = ap (λ (w : Known Ask Reply Setup). w.met) learnt.view;
    found = ap (λ (w : Known Ask Reply Setup). w.found) learnt.view;
  }

  -- a fork has the entries of its number in what was handed in
  pub forked : (shared : SharedWorld) (p q : Pass Kept Ask Reply Setup k) → k.history (value_given shared.lock) ≡ lines (past_given shared)
      → (view_of p).opening ≡ k.history (value_given shared.lock) → (view_of q).own ≡ calls_of (number_of q) (view_of p).opening → mine_of q ≡ own (number_of q) (past_given shared)
  forked shared p q history opening own_is = ap entries (own_is ∙ ap (calls_of (number_of q)) (opening ∙ history)) ∙ own_lines (number_of q) (past_given shared)

  is_in : (past : List Entry) (p : Pass Kept Ask Reply Setup k) → Recalls (lines past) p → IsIn past p
  is_in past p recalls = record {
    seen = begun past (view_of p).front recalls.0;
    mine = sym (own_lines (number_of p) past) ∙ ap entries (sym recalls.1);
    met = λ i d lt. sym (own_lines _ past) ∙ ap entries (sym (recalls.2 i d lt));
  }

  pub are_in : (world : History) (value : Kept) (passes : List (Pass Kept Ask Reply Setup k)) → kept_of world ≡ value → All (Recalls (lines value.past)) passes → All (IsIn world.past) passes
  are_in world value passes is recalls = subst (λ (v : Kept). All (IsIn v.past) passes) (sym is) (λ i d lt. is_in value.past (slice_index_or passes i d) (recalls i d lt))

  -- the passes of a new lock over a kept world
  pub are_first : (shared : SharedWorld) (passes : List (Pass Kept Ask Reply Setup k))
      → k.history (value_given shared.lock) ≡ lines (past_given shared) → AreFirstPasses shared.lock passes → AreFirst shared passes
  are_first shared passes history first i d lt =
      let f = (first i d lt).1 in
      record {
        of = (first i d lt).0;
        number = f.0;
        forks = f.1;
        met = f.2;
        made_is = f.3;
        mine = ap entries (f.4 ∙ ap (calls_of (i + 1)) history) ∙ own_lines (i + 1) (past_given shared);
        seen = ap entries (f.5 ∙ history) ∙ back (past_given shared);
      }
