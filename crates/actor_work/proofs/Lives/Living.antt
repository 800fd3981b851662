-- The entries of lives, and one more.
use Rattle.std.proofs.Common.{
  ◌≡◌,
  ◌≢◌,
  ℕ,
  zero,
  suc,
  ◌+◌,
  ◌-◌,
  ◌<◌,
  ◌≤◌,
  List,
  [],
  ◌∷◌,
  ◌++◌,
  length,
  slice_index_or,
  slice_set,
  Bool,
  true,
  false,
  refl,
  sym,
  ◌∙◌,
  ap,
  subst,
  arith,
  inl,
  inr,
  ◌⊎◌,
  map,
  ltb,
  ltb-true,
  ltb-false,
}
use Rattle.std.proofs.lemmas.List.{append-nil, get_or-map, length-map, length-set, map-set, set-get_or}
use Rattle.call_types.specs.declared.ask.Ask.{Ask}
use Rattle.call_types.specs.declared.entry.Entry.{Entry}
use Rattle.call_types.specs.declared.setup.Setup.{Setup}
use Rattle.call_types.specs.declared.reply.Reply.{Reply}
use Rattle.binder_model.specs.Told.{own}
use Rattle.seat_lock.specs.declared.keeps.Keeps.{Ghosts}
use Rattle.seat_lock.specs.declared.pass.Pass.{Pass}
use Rattle.shared_world.specs.declared.shared.SharedWorld.{SharedWorld}
use Rattle.shared_world.specs.Lines.{Kept}
use Rattle.model_laws.proofs.Evidence.{own_mine, own_other}
use Rattle.model_laws.proofs.Growing.{runs_are_histories}
use Rattle.actor_rounds.specs.Answers.Answered.{IsLatest}
use Rattle.worker_core.specs.Stands.{AreOwn}
use Rattle.seat_lock.specs.Passes.{KeepsNumbers, made_of, number_of, view_of}
use Rattle.shared_world.specs.Passes.{Begins, HasCalled, HasLearnt, IsOf, mine_of, seen_by, setup_of}
use Rattle.seat_lock.specs.declared.known.Known.{Known}
use Rattle.shared_world.specs.Lines.{entries}
use Rattle.actor_work.specs.Lives.Lived.{AreLives, EachLife, IsLife, IsServed, known_by, known_by_all, past_of}
use Rattle.actor_work.specs.Lives.Order.{AreOrdered, HasSeenEarlier, HasTold, IsReached, Knowledge, known_at}
use Rattle.actor_work.proofs.Lives.Following.{begins_both, begins_own, called_order, called_reached, learnt_order, own_both}

-- nothing before a list that is empty
none_late : (newer older : List Entry) → newer ≡ [] → newer ++ older ≡ older
none_late newer older is = ap (λ (es : List Entry). es ++ older) is

module _ {k : Ghosts Kept Ask Reply Setup} (shared : SharedWorld) (made : ℕ) where
  -- a life's pass has nothing of other seats, so what its list adds to another list is not seen there
  behind : (first s : ℕ) (p : Pass Kept Ask Reply Setup k) (newer : List Entry) → IsLife shared made first p → s ≢ first → own s (newer ++ mine_of p) ≡ own s newer
  behind first s p newer life other = own_both s newer (mine_of p) ∙ ap (λ (es : List Entry). own s newer ++ es) (life.none s other) ∙ append-nil (own s newer)

  none_before : (first s : ℕ) (passes : List (Pass Kept Ask Reply Setup k)) → EachLife shared made first passes → s < first → own s (past_of passes) ≡ []
  none_before first s [] lives lt = refl
  none_before first s (p ∷ passes) lives lt = behind first s p (past_of passes) lives.0 (λ is. absurd (omega (arith, is, lt))) ∙ none_before (first + 1) s passes lives.1 (omega (arith, lt))

  pub life_at : (first i : ℕ) (passes : List (Pass Kept Ask Reply Setup k)) (d : Pass Kept Ask Reply Setup k) → EachLife shared made first passes
      → i < length passes → IsLife shared made (first + i) (slice_index_or passes i d)
  life_at first i [] d lives lt = absurd (omega (arith, lt))
  life_at first zero (p ∷ passes) d lives lt = subst (λ s. IsLife shared made s p) (omega arith) lives.0
  life_at first (suc i) (p ∷ passes) d lives lt = subst (λ s. IsLife shared made s (slice_index_or passes i d)) (omega arith) (life_at (first + 1) i passes d lives.1 (omega (arith, lt)))

  -- the entries of a seat are those of its pass
  pub own_at : (first i : ℕ) (passes : List (Pass Kept Ask Reply Setup k)) (d : Pass Kept Ask Reply Setup k) → EachLife shared made first passes
      → i < length passes → own (first + i) (past_of passes) ≡ mine_of (slice_index_or passes i d)
  own_at first i [] d lives lt = absurd (omega (arith, lt))
  own_at first zero (p ∷ passes) d lives lt =
      let here : own first (past_of passes ++ mine_of p) ≡ mine_of p = own_both first (past_of passes) (mine_of p)
      ∙ none_late (own first (past_of passes)) (own first (mine_of p)) (none_before (first + 1) first passes lives.1 (omega arith)) ∙ lives.0.only in
      subst (λ s. own s (past_of passes ++ mine_of p) ≡ mine_of p) (omega arith) here
  own_at first (suc i) (p ∷ passes) d lives lt =
      behind first (first + suc i) p (past_of passes) lives.0 (λ is. absurd (omega (arith, is)))
      ∙ subst (λ s. own s (past_of passes) ≡ mine_of (slice_index_or passes i d)) (omega arith) (own_at (first + 1) i passes d lives.1 (omega (arith, lt)))

  -- lives without entries
  none_of : (first : ℕ) (passes : List (Pass Kept Ask Reply Setup k)) → EachLife shared made first passes
      → ((s : ℕ) → first ≤ s → s < first + length passes → own s (past_of passes) ≡ []) → past_of passes ≡ []
  none_of first [] lives none = refl
  none_of first (p ∷ passes) lives none =
      let mine : mine_of p ≡ [] = sym (own_at first 0 (p ∷ passes) p lives (omega arith)) ∙ none (first + 0) (omega arith) (omega arith) in
      let rest = none_of (first + 1) passes lives.1
      (λ s from below. sym (behind first s p (past_of passes) lives.0 (λ is. absurd (omega (arith, is, from)))) ∙ none s (omega (arith, from)) (omega (arith, below))) in
      none_late (past_of passes) (mine_of p) rest ∙ mine

  -- one entry more of the latest life that has any
  pub one_more : (first i : ℕ) (passes : List (Pass Kept Ask Reply Setup k)) (d q : Pass Kept Ask Reply Setup k) (e : Entry) → EachLife shared made first passes → i < length passes
      → ((s : ℕ) → first + i < s → s < first + length passes → own s (past_of passes) ≡ []) → mine_of q ≡ e ∷ mine_of (slice_index_or passes i d) → past_of (slice_set passes i q) ≡ e ∷ past_of passes
  one_more first i [] d q e lives lt none is = absurd (omega (arith, lt))
  one_more first zero (p ∷ passes) d q e lives lt none is =
      let rest : past_of passes ≡ [] = none_of (first + 1) passes lives.1 (λ s from below. sym
      (behind first s p (past_of passes) lives.0 (λ same. absurd (omega (arith, same, from)))) ∙ none s (omega (arith, from)) (omega (arith, below))) in
      none_late (past_of passes) (mine_of q) rest ∙ is ∙ ap (λ (es : List Entry). e ∷ es) (sym (none_late (past_of passes) (mine_of p) rest))
  one_more first (suc i) (p ∷ passes) d q e lives lt none is =
      ap (λ (es : List Entry). es ++ mine_of p)
      (one_more (first + 1) i passes d q e lives.1 (omega (arith, lt))
      (λ s from below. sym (behind first s p (past_of passes) lives.0 (λ same. absurd (omega (arith, same, from)))) ∙ none s (omega (arith, from)) (omega (arith, below))) is)

  -- another pass with the same entries
  pub as_many : (first i : ℕ) (passes : List (Pass Kept Ask Reply Setup k)) (d q : Pass Kept Ask Reply Setup k) → i < length passes
      → mine_of q ≡ mine_of (slice_index_or passes i d) → past_of (slice_set passes i q) ≡ past_of passes
  as_many first i [] d q lt is = absurd (omega (arith, lt))
  as_many first zero (p ∷ passes) d q lt is = ap (λ (es : List Entry). past_of passes ++ es) is
  as_many first (suc i) (p ∷ passes) d q lt is = ap (λ (es : List Entry). es ++ mine_of p) (as_many (first + 1) i passes d q (omega (arith, lt)) is)

  -- the passes stay lives where one of them is a life again
  pub still_lives : (first i : ℕ) (passes : List (Pass Kept Ask Reply Setup k)) (q : Pass Kept Ask Reply Setup k) → EachLife shared made first passes
      → i < length passes → IsLife shared made (first + i) q → EachLife shared made first (slice_set passes i q)
  still_lives first i [] q lives lt life = absurd (omega (arith, lt))
  still_lives first zero (p ∷ passes) q lives lt life = (subst (λ s. IsLife shared made s q) (omega arith) life, lives.1)
  still_lives first (suc i) (p ∷ passes) q lives lt life = (lives.0, still_lives (first + 1) i passes q lives.1 (omega (arith, lt)) (subst (λ s. IsLife shared made s q) (omega arith) life))

module _ {k : Ghosts Kept Ask Reply Setup} (shared : SharedWorld) (made : ℕ) where
  -- a life after a call is one again
  pub called_life : (seat : ℕ) (e : Entry) (p q : Pass Kept Ask Reply Setup k) → e.seat ≡ seat → IsLife shared made seat p → IsOf shared q
      → KeepsNumbers p q → HasCalled (setup_of shared) e p q → IsLife shared made seat q
  called_life seat e p q is life of keeps called = record {
    of = of;
    made_is = called.made ∙ life.made_is;
    met = keeps.2 ∙ life.met;
    number = keeps.0 ∙ life.number;
    only = ap (own seat) called.mine ∙ own_mine e (mine_of p) seat is ∙ ap (λ (es : List Entry). e ∷ es) life.only ∙ sym called.mine;
    none = λ other differs. ap (own other) called.mine ∙ own_other e (mine_of p) other (λ same. differs (same ∙ is)) ∙ life.none other differs;
  }

  -- its entries are those of one seat in a history
  pub called_own : (seat : ℕ) (e : Entry) (p q : Pass Kept Ask Reply Setup k) → IsLife shared made seat p → HasCalled (setup_of shared) e p q → AreOwn (mine_of q)
  called_own seat e p q life called = record {
    setup = setup_of shared;
    past = seen_by q;
    seat = number_of p;
    imports = called.run.imports;
    short = called.run.short;
    history = runs_are_histories (setup_of shared) (seen_by q) called.run.run;
    own = sym called.only;
  }

  -- so is one whose pass has learnt, or shown, what was seen
  same_life : (seat : ℕ) (p q : Pass Kept Ask Reply Setup k) → IsLife shared made seat p → IsOf shared q → KeepsNumbers p q
      → made_of q ≡ made_of p → mine_of q ≡ mine_of p → IsLife shared made seat q
  same_life seat p q life of keeps same_made mine = record {
    of = of;
    made_is = same_made ∙ life.made_is;
    met = keeps.2 ∙ life.met;
    number = keeps.0 ∙ life.number;
    only = subst (λ (es : List Entry). own seat es ≡ es) (sym mine) life.only;
    none = λ other differs. ap (own other) mine ∙ life.none other differs;
  }

-- what is known at a place is what its pass knows
module _ {k : Ghosts Kept Ask Reply Setup} (passes : List (Pass Kept Ask Reply Setup k)) where
  pub known_there : (i : ℕ) (d : Pass Kept Ask Reply Setup k) → i < length passes → known_at (known_by_all passes) i ≡ known_by (slice_index_or passes i d)
  known_there i d lt = get_or-map known_by passes i d ([], []) lt

  pub as_long : length (known_by_all passes) ≡ length passes
  as_long = length-map passes known_by

-- the entries of a seat are those that its life knows for its own
pub own_known : {k : Ghosts Kept Ask Reply Setup} (shared : SharedWorld) (made first i : ℕ) (passes : List (Pass Kept Ask Reply Setup k)) → EachLife shared made first passes
    → i < length passes → own (first + i) (past_of passes) ≡ (known_at (known_by_all passes) i).0
own_known shared made first i [] lives lt = absurd (omega (arith, lt))
own_known shared made first i (p ∷ passes) lives lt = own_at shared made first i (p ∷ passes) p lives lt ∙ ap (λ (x : Knowledge). x.0) (sym (known_there (p ∷ passes) i p lt))

-- the pass p that was found at a place of the passes is now q, which knows what it did
module _ {k : Ghosts Kept Ask Reply Setup} (passes : List (Pass Kept Ask Reply Setup k)) (place : ℕ) (p : Pass Kept Ask Reply Setup k)
    (lt : place < length passes) (found : p ≡ slice_index_or passes place p) where
  pub known_found : known_at (known_by_all passes) place ≡ known_by p
  known_found = known_there passes place p lt ∙ ap (λ (x : Pass Kept Ask Reply Setup k). known_by x) (sym found)

  pub known_set : (q : Pass Kept Ask Reply Setup k) → known_by_all (slice_set passes place q) ≡ slice_set (known_by_all passes) place (known_by q)
  known_set q = map-set known_by passes place q

  pub known_same : (q : Pass Kept Ask Reply Setup k) → known_by q ≡ known_by p → known_by_all (slice_set passes place q) ≡ known_by_all passes
  known_same q same = known_set q ∙ ap (λ (x : Knowledge). slice_set (known_by_all passes) place x) (same ∙ sym known_found) ∙ set-get_or (known_by_all passes) place ([], [])

-- the pass p that was found at the place of the passes that is reached, which is that of the seat; no later seat has an entry
module _ {k : Ghosts Kept Ask Reply Setup} (shared : SharedWorld) (made first seat at : ℕ) (passes : List (Pass Kept Ask Reply Setup k)) (p : Pass Kept Ask Reply Setup k)
    (at_is : first + at ≡ seat) (in_them : at < length passes) (found : p ≡ slice_index_or passes at p) (lives : AreLives shared made first passes)
    (latest : (other : ℕ) → seat < other → other < first + length passes → own other (past_of passes) ≡ []) where
  pub life_there : IsLife shared made seat p
  life_there = subst (λ s. IsLife shared made s p) at_is
      (subst (λ (x : Pass Kept Ask Reply Setup k). IsLife shared made (first + at) x) (sym found) (life_at shared made first at passes p lives.each in_them))

  pub own_there : own seat (past_of passes) ≡ mine_of p
  own_there = ap (λ s. own s (past_of passes)) (sym at_is) ∙ own_at shared made first at passes p lives.each in_them ∙ ap (λ (x : Pass Kept Ask Reply Setup k). mine_of x) (sym found)

  pub more_there : (q : Pass Kept Ask Reply Setup k) (e : Entry) → mine_of q ≡ e ∷ mine_of p → past_of (slice_set passes at q) ≡ e ∷ past_of passes
  more_there q e is = one_more shared made first at passes p q e lives.each in_them (λ s from below. latest s (omega (arith, from, at_is)) below)
      (is ∙ ap (λ (x : Pass Kept Ask Reply Setup k). e ∷ mine_of x) found)

  pub none_there : (q : Pass Kept Ask Reply Setup k) → mine_of q ≡ mine_of p → past_of (slice_set passes at q) ≡ past_of passes
  none_there q is = as_many shared made first at passes p q in_them (is ∙ ap (λ (x : Pass Kept Ask Reply Setup k). mine_of x) found)

  pub own_after : (q : Pass Kept Ask Reply Setup k) (e : Entry) → e.seat ≡ seat → HasCalled (setup_of shared) e p q → AreOwn (own seat (past_of (slice_set passes at q)))
  own_after q e is called =
      let mine : own seat (past_of (slice_set passes at q)) ≡ mine_of q = ap (own seat) (more_there q e called.mine)
      ∙ own_mine e (past_of passes) seat is ∙ ap (λ (es : List Entry). e ∷ es) own_there ∙ sym called.mine in
      subst AreOwn (sym mine) (called_own shared made seat e p q life_there called)

  -- no later life has an entry
  later : (j : ℕ) → at < j → j < length (known_by_all passes) → (known_at (known_by_all passes) j).0 ≡ []
  later j more below =
      let lt : j < length passes = let n = as_long passes in omega (arith, below, n) in
      sym (own_known shared made first j passes lives.each lt) ∙ latest (first + j) (omega (arith, more, at_is)) (omega (arith, lt))

  pub served_after : (q : Pass Kept Ask Reply Setup k) (e : Entry) → e.seat ≡ seat → HasSeenEarlier first at (known_by_all passes) → IsOf shared q → KeepsNumbers p q
      → HasCalled (setup_of shared) e p q → IsServed shared made first at (slice_set passes at q) seat
  served_after q e is seen of keeps called =
      let life = called_life shared made seat e p q is life_there of keeps called in
      let long = length-set passes at q in
      let all = known_by_all passes in
      let within : at < length all = let n = as_long passes in omega (arith, in_them, n) in
      let was = known_found passes at p in_them found in
      let mine : (known_by q).0 ≡ e ∷ (known_at all at).0 = called.mine ∙ ap (λ (x : Knowledge). e ∷ x.0) (sym was) in
      let more : Begins (known_by q).1 (known_at all at).1 = (e ∷ called.between, called.seen ∙ ap (λ (x : Knowledge). (e ∷ called.between) ++ x.1) (sym was)) in
      let only : own (first + at) (known_by q).1 ≡ (known_by q).0 = ap (λ (n : ℕ). own n (seen_by q)) (at_is ∙ sym life_there.number) ∙ called.only in (
        record {
          each = still_lives shared made first at passes q lives.each in_them (subst (λ s. IsLife shared made s q) (sym at_is) life);
          order = subst (AreOrdered first) (sym (known_set passes at p in_them found q)) (called_order all at (known_by q) within first e mine more only later lives.order seen);
        },
        subst (IsReached first at) (sym (known_set passes at p in_them found q)) (called_reached all at (known_by q) within first e mine more only later seen),
        omega (arith, at_is),
        omega (arith, at_is, long, in_them),
      )

-- a life that is called goes on, or comes after the one that is reached
pub goes_on : {k : Ghosts Kept Ask Reply Setup} (shared : SharedWorld) (made first at seat : ℕ) (passes : List (Pass Kept Ask Reply Setup k))
    → IsServed shared made first at passes seat → IsLatest (IsServed shared made first at passes) seat (past_of passes) → at ≤ seat - first
goes_on shared made first at seat passes served latest = by served.1.called
  where
    lives : AreLives shared made first passes
    lives = served.0

    in_them : at < length passes
    in_them = let n = as_long passes in let w = served.1.seen.within in omega (arith, n, w)

    none : seat < first + at → (known_at (known_by_all passes) at).0 ≡ []
    none lt = sym (own_known shared made first at passes lives.each in_them) ∙ latest (first + at) (lives, served.1, omega arith, omega (arith, in_them)) lt

    by_test : (b : Bool) → ltb (seat - first) at ≡ b → (known_at (known_by_all passes) at).0 ≢ [] → at ≤ seat - first
    by_test true is some = absurd (some (none (let lt = ltb-true (seat - first) at is in let low = served.2 in omega (arith, lt, low))))
    by_test false is some = let ge = ltb-false (seat - first) at is in omega (arith, ge)

    by : (at ≡ 0) ⊎ ((known_at (known_by_all passes) at).0 ≢ []) → at ≤ seat - first
    by (inl zero_is) = omega (arith, zero_is)
    by (inr some) = by_test (ltb (seat - first) at) refl some

pub of_found : {k : Ghosts Kept Ask Reply Setup} (shared : SharedWorld) (made first place : ℕ) (passes : List (Pass Kept Ask Reply Setup k)) (p : Pass Kept Ask Reply Setup k)
    → AreLives shared made first passes → place < length passes → p ≡ slice_index_or passes place p → IsOf shared p
of_found shared made first place passes p lives lt found =
    subst (λ (x : Pass _ _ _ _ _). IsOf shared x) (sym found) (life_at shared made first place passes p lives.each lt).of

-- ---- one life learns what another had seen

-- what the lives are after that
pub record AreTold {k : Ghosts Kept Ask Reply Setup} (shared : SharedWorld) (made first from to : ℕ) (before after : List (Pass Kept Ask Reply Setup k)) : Type 0 where
  pub lives : AreLives shared made first after
  pub long : length after ≡ length before
  pub past : past_of after ≡ past_of before
  pub told : HasTold from to (known_by_all before) (known_by_all after)

-- the pass p of one life showed what it had seen, and is now q
module _ {k : Ghosts Kept Ask Reply Setup} (shared : SharedWorld) (made first from : ℕ) (passes : List (Pass Kept Ask Reply Setup k)) (p q : Pass Kept Ask Reply Setup k)
    (lives : AreLives shared made first passes) (from_in : from < length passes) (found : p ≡ slice_index_or passes from p)
    (of_q : IsOf shared q) (keeps : KeepsNumbers p q) (same : view_of q ≡ view_of p) where
  abbrev shown : List (Pass Kept Ask Reply Setup k)
  shown = slice_set passes from q

  known_q : known_by q ≡ known_by p
  known_q = ap (λ (v : Known Ask Reply Setup). (entries v.own, entries v.front)) same

  life_p : IsLife shared made (first + from) p
  life_p = subst (λ (x : Pass Kept Ask Reply Setup k). IsLife shared made (first + from) x) (sym found) (life_at shared made first from passes p lives.each from_in)

  each_shown : EachLife shared made first shown
  each_shown = still_lives shared made first from passes q lives.each from_in
      (same_life shared made (first + from) p q life_p of_q keeps (ap (λ (v : Known Ask Reply Setup). v.made) same) (ap (λ (x : Knowledge). x.0) known_q))

  shown_long : length shown ≡ length passes
  shown_long = length-set passes from q

  known_shown : known_by_all shown ≡ known_by_all passes
  known_shown = known_same passes from p from_in found q known_q

  -- the pass r of another life
  module _ (to : ℕ) (r : Pass Kept Ask Reply Setup k) (to_in : to < length passes) (then_found : r ≡ slice_index_or shown to r) where
    to_there : to < length shown
    to_there = let n = shown_long in omega (arith, n, to_in)

    life_r : IsLife shared made (first + to) r
    life_r = subst (λ (x : Pass Kept Ask Reply Setup k). IsLife shared made (first + to) x) (sym then_found) (life_at shared made first to shown r each_shown to_there)

    pub of_shown : IsOf shared r
    of_shown = life_r.of

    was : known_at (known_by_all passes) to ≡ known_by r
    was = ap (λ (ks : List Knowledge). known_at ks to) (sym known_shown) ∙ known_found shown to r to_there then_found

    in_known : to < length (known_by_all passes)
    in_known = let n = as_long passes in omega (arith, n, to_in)

    -- it has learnt that, and is now t
    module _ (t : Pass Kept Ask Reply Setup k) (of_t : IsOf shared t) (learnt : HasLearnt (seen_by p) r t) where
      is : known_by_all (slice_set shown to t) ≡ slice_set (known_by_all passes) to (known_by t)
      is = known_set shown to r to_there then_found t ∙ ap (λ (ks : List Knowledge). slice_set ks to (known_by t)) known_shown

      mine : (known_by t).0 ≡ (known_at (known_by_all passes) to).0
      mine = learnt.mine ∙ ap (λ (x : Knowledge). x.0) (sym was)

      old : Begins (known_by t).1 (known_at (known_by_all passes) to).1
      old = subst (λ (x : Knowledge). Begins (seen_by t) x.1) (sym was) learnt.old

      -- of its seat it has seen its own entries, and no others
      only : own (first + to) (seen_by t) ≡ mine_of t
      only =
          let less : Begins (mine_of t) (own (first + to) (seen_by t)) = subst (λ (n : ℕ). Begins (mine_of t) (own n (seen_by t))) (learnt.numbers.0 ∙ life_r.number) learnt.only in
          let self : own (first + to) (seen_by r) ≡ mine_of r = subst (λ (x : Knowledge). own (first + to) x.1 ≡ x.0) was (lives.order.selves to in_known) in
          let more : Begins (own (first + to) (seen_by t)) (mine_of t) =
          subst (Begins (own (first + to) (seen_by t))) (self ∙ sym learnt.mine) (begins_own (first + to) (seen_by t) (seen_by r) learnt.old) in
          begins_both (own (first + to) (seen_by t)) (mine_of t) more less

      pub are_told : AreTold shared made first from to passes (slice_set shown to t)
      are_told = record {
        lives = record {
          each = still_lives shared made first to shown t each_shown to_there (same_life shared made (first + to) r t life_r of_t learnt.numbers learnt.made learnt.mine);
          order = subst (AreOrdered first) (sym is) (learnt_order (known_by_all passes) to (known_by t) in_known first mine old only lives.order);
        };
        long = length-set shown to t ∙ shown_long;
        past = as_many shared made first to shown r t to_there (learnt.mine ∙ ap (λ (x : Pass Kept Ask Reply Setup k). mine_of x) then_found)
            ∙ as_many shared made first from passes p q from_in (ap (λ (x : Knowledge). x.0) known_q ∙ ap (λ (x : Pass Kept Ask Reply Setup k). mine_of x) found);
        told = record {
          now = seen_by t;
          is = is ∙ ap (λ (es : List Entry). slice_set (known_by_all passes) to (es, seen_by t)) mine;
          old = old;
          new = subst (λ (x : Knowledge). Begins (seen_by t) x.1) (sym (known_found passes from p from_in found)) learnt.new;
        };
      }

-- the same lives, by other names of what they are of
pub same_lives : {k : Ghosts Kept Ask Reply Setup} (shared then_shared : SharedWorld) (made then_made first then_first : ℕ) (passes : List (Pass Kept Ask Reply Setup k))
    → then_shared ≡ shared → then_made ≡ made → then_first ≡ first → AreLives shared made first passes → AreLives then_shared then_made then_first passes
same_lives shared then_shared made then_made first then_first passes a b c lives =
    subst (λ (s : SharedWorld). AreLives s then_made then_first passes) (sym a)
    (subst (λ (m : ℕ). AreLives shared m then_first passes) (sym b) (subst (λ (f : ℕ). AreLives shared made f passes) (sym c) lives))

pub same_served : {k : Ghosts Kept Ask Reply Setup} (shared then_shared : SharedWorld) (made then_made first then_first at then_at : ℕ) (passes : List (Pass Kept Ask Reply Setup k)) (seat : ℕ)
    → then_shared ≡ shared → then_made ≡ made → then_first ≡ first → then_at ≡ at → IsServed shared made first at passes seat → IsServed then_shared then_made then_first then_at passes seat
same_served shared then_shared made then_made first then_first at then_at passes seat a b c d served =
    subst (λ (s : SharedWorld). IsServed s then_made then_first then_at passes seat) (sym a) (subst (λ (m : ℕ). IsServed shared m then_first then_at passes seat) (sym b)
    (subst (λ (f : ℕ). IsServed shared made f then_at passes seat) (sym c) (subst (λ (n : ℕ). IsServed shared made first n passes seat) (sym d) served)))
