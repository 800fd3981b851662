-- What a pass stands for after an entry.
use Rattle.std.proofs.Common.{◌≡◌, ◌⊎◌, ℕ, ◌<◌, ◌+◌, List, [], ◌∷◌, length, Bool, true, false, true≢false, Some, None, inl, inr, refl, sym, ◌∙◌, ap, subst, arith, if◌then◌else◌}
use Rattle.std.specs.Prelude.{◌==◌, ◌&&◌, nat_lt, not}
use Rattle.std.proofs.lemmas.Bool.Decides.{nat_tests}
use Rattle.std.proofs.lemmas.Bool.{not-false, or_parts}
use Rattle.kube_parts.specs.declared.parts.Kind.{Kind}
use Rattle.kube_objects.specs.Keys.{same_kind}
use Rattle.call_types.specs.declared.entry.Entry.{Entry}
use Rattle.call_types.specs.declared.reply.Event.{Event}
use Rattle.call_types.specs.declared.request.Request.TheVariants as requests
use Rattle.call_types.specs.declared.reply.Reply.{Reply}
use Rattle.call_types.specs.declared.reply.Reply.TheVariants as replies
use Rattle.binder_model.specs.Reading.{Unlisted, following_of}
use Rattle.binder_model.specs.Watching.{most_events}
use Rattle.worker_core.specs.declared.role.Role.{Role}
use Rattle.worker_core.specs.declared.turn.Pass.{Pass}
use Rattle.worker_core.specs.Absorbs.{is_none_of, is_passing, pass_after}
use Rattle.worker_core.specs.Roles.{IsBuiltKind, kind_in_order}
use Rattle.call_types.specs.Kinds.{reads_kind}
use Rattle.worker_core.specs.Stands.{AreLicensed, HasNoNews, IsEmptyWatch, PassStands}
use Rattle.worker_core.proofs.Quiet.{alike, itself, quiet_listed, quiet_now, quiet_on, unread}

at_or_before : (i n : ℕ) → i < n + 1 → (i < n) ⊎ (i ≡ n)
at_or_before i n h = by (nat_lt i n) refl
  where
    by : (b : Bool) → nat_lt i n ≡ b → (i < n) ⊎ (i ≡ n)
    by true e = inl (grind (arith, nat_tests))
    by false e = inr (grind (arith, nat_tests))

pub none_of : (es : List Event) → is_none_of es ≡ true → es ≡ []
none_of [] e = refl
none_of (x ∷ es) e = absurd (true≢false (sym e))

module _ (role : Role) (pass : Pass) (mine : List Entry) (e : Entry) (stands : PassStands role pass mine) where
  pub kept_pass : ((kind : Kind) → reads_kind kind e.request ≡ false) → PassStands role pass (e ∷ mine)
  kept_pass none = λ quiet place kind lt at. quiet_on kind mine e (unread kind e (none kind)) (stands quiet place kind lt at)

  -- an entry that was not told
  pub untold_pass : e.told ≡ false → PassStands role pass (e ∷ mine)
  untold_pass lost = λ quiet place kind lt at. quiet_on kind mine e (ap (λ t. t && reads_kind kind e.request) lost) (stands quiet place kind lt at)

  -- a list of a kind that is not listed
  pub list_pass : (kind : Kind) → IsBuiltKind role.kind → AreLicensed role.kind mine → following_of mine kind ≡ Unlisted → e.request ≡ requests.List kind None → PassStands role pass (e ∷ mine)
  list_pass kind built l none is = λ quiet place k lt at. by k (same_kind kind k) refl (stands quiet place k lt at)
    where
      by : (k : Kind) (b : Bool) → same_kind kind k ≡ b → HasNoNews k mine → HasNoNews k (e ∷ mine)
      by k true same q = absurd (quiet_listed role.kind kind mine built l (subst (λ x. HasNoNews x mine) (sym (alike kind k same)) q) none)
      by k false same q = quiet_on k mine e (unread k e (ap (reads_kind k) is ∙ same)) q

  -- a watch
  module _ (kind : Kind) (from : ℕ) (told : e.told ≡ true) (is : e.request ≡ requests.Watch kind from) where
    quiet_at : (k : Kind) → IsEmptyWatch e.request e.reply → (same_kind kind k ≡ false → HasNoNews k mine) → HasNoNews k (e ∷ mine)
    quiet_at k empty others = by (same_kind kind k) refl
      where
        by : (b : Bool) → same_kind kind k ≡ b → HasNoNews k (e ∷ mine)
        by true same = quiet_now k mine e (ap (λ t. t && reads_kind k e.request) told ∙ (ap (reads_kind k) is ∙ same)) empty
        by false same = quiet_on k mine e (unread k e (ap (reads_kind k) is ∙ same)) (others same)

    pub watch_pass : (reply : Reply) → e.reply ≡ reply → PassStands role (pass_after pass (is_passing (kind_in_order role pass.behind) kind) (requests.Watch kind from) reply) (e ∷ mine)
    watch_pass (replies.Events events) answered = λ quiet place k lt at.
        let parts = or_parts pass.event (not (is_none_of events.events)) quiet in
        let empty = none_of events.events (not-false _ parts.1) in
        let watch : IsEmptyWatch e.request e.reply = subst (λ r. IsEmptyWatch r e.reply) (sym is) (subst (λ r. IsEmptyWatch (requests.Watch kind from) r) (sym answered) empty) in
        quiet_at k watch (by parts.0 place k at (is_passing (kind_in_order role pass.behind) kind) (length events.events == most_events) refl lt)
      where
        other_kind : (place : ℕ) (k : Kind) → kind_in_order role place ≡ Some k → place ≡ pass.behind → is_passing (kind_in_order role pass.behind) kind ≡ true → same_kind kind k ≡ false → ⊥
        other_kind place k at own passing other =
            let here : kind_in_order role pass.behind ≡ Some k = ap (kind_in_order role) (sym own) ∙ at in
            let same : same_kind k kind ≡ true = sym (ap (λ o. is_passing o kind) here) ∙ passing in
            true≢false (sym (itself kind) ∙ (ap (λ x. same_kind kind x) (sym (alike k kind same)) ∙ other))

        by : pass.event ≡ false → (place : ℕ) (k : Kind) → kind_in_order role place ≡ Some k → (p full : Bool)
            → is_passing (kind_in_order role pass.behind) kind ≡ p → place < (if p && not full then pass.behind + 1 else pass.behind) → same_kind kind k ≡ false → HasNoNews k mine
        by quiet place k at true false passing lt other =
            elim (at_or_before place pass.behind lt) [ inl before ↦ stands quiet place k before at | inr own ↦ absurd (other_kind place k at own passing other) ]
        by quiet place k at true true passing lt other = stands quiet place k lt at
        by quiet place k at false full passing lt other = stands quiet place k lt at
    watch_pass _ answered = λ quiet. absurd (true≢false quiet)
