-- What a watch from an earlier version gives.
use Rattle.std.proofs.Common.{sym, refl, subst, ap, ◌∙◌, arith}
use Rattle.std.proofs.lemmas.Bool.Decides.{nat_tests}
use Rattle.std.proofs.lemmas.List.{append_assoc}
use Rattle.std.proofs.lemmas.List.Elements.{filter-append}
use Rattle.std.specs.Prelude.{ℕ, ◌≡◌, ◌≤◌, ◌<◌, ◌+◌, true, false, List, [], ◌∷◌, ◌++◌, nat_lt, filter, reverse, take, ⊤}
use Rattle.kube_parts.specs.declared.parts.Kind.{Kind}
use Rattle.kube_objects.specs.Keys.{is_of_kind}
use Rattle.call_types.specs.declared.entry.Entry.{Entry}
use Rattle.call_types.specs.declared.setup.Setup.{Setup}
use Rattle.call_types.specs.declared.reply.Event.{Event}
use Rattle.call_types.specs.declared.reply.Reply.TheVariants.{Events}
use Rattle.binder_model.specs.Answers.{Says, Stores, Removes, after, reply_of}
use Rattle.binder_model.specs.Watching.{oldest, is_later, reached_version, most_events}
use Rattle.binder_model.specs.World.{base, World, Effect, OnStore, OnDevices, SetsMoment, world, effect, reply_to, world_after, log_after, watch}
use Rattle.model_laws.specs.Reads.{effect_of, left_by, events_by, WatchesTellWhatCameAfter}
use Rattle.model_laws.proofs.Versions.{NextOf, outcome_next}
use Rattle.model_laws.proofs.Effects.{OfStore, on_effects}
use Rattle.model_laws.proofs.Uids.{rises}

-- the events lie above one version and up to another
abbrev pub AreBetween : ℕ → ℕ → List Event → Type 0
AreBetween low high [] = ⊤
AreBetween low high (e ∷ es) = (low < e.version) × (e.version ≤ high) × AreBetween low high es

-- what an effect leaves lies at the next version, and the log begins with it
record IsLeft (w : World) (x : Effect) : Type 0 where
  between : AreBetween w.store.version (world_after w x).store.version (left_by x)
  log : (world_after w x).log ≡ left_by x ++ w.log
  up : w.store.version ≤ (world_after w x).store.version

left : (w : World) (x : Effect) → OfStore (NextOf (w.store.version + 1)) x → IsLeft w x
unfolding world_after after log_after
left w (OnStore (Says reply)) k = record { between = tt; log = refl; up = omega arith }
left w (OnStore (Stores change o)) k = record { between = (omega (arith, k), omega (arith, k), tt); log = refl; up = omega arith }
left w (OnStore (Removes o)) k = record { between = (omega (arith, k), omega (arith, k), tt); log = refl; up = omega arith }
left w (OnDevices a) k = record { between = tt; log = refl; up = omega arith }
left w (SetsMoment at) k = record { between = tt; log = refl; up = omega arith }

left_of : (setup : Setup) (e : Entry) (past : List Entry) → IsLeft (world setup past) (effect_of setup e past)
left_of setup e past =
    let w = world setup past in
    left w _ (on_effects (λ r. tt) setup w e.kind e.request (outcome_next w.store e.kind e.request w.moment)).on

pub between_wider : (low lower high higher : ℕ) (es : List Event) → lower ≤ low → high ≤ higher → AreBetween low high es → AreBetween lower higher es
between_wider low lower high higher [] l h b = tt
between_wider low lower high higher (e ∷ es) l h b =
    let b0 = b.0 in let b1 = b.1 in
    (omega (arith, l, b0), omega (arith, h, b1), between_wider low lower high higher es l h b.2)

joined : (low high : ℕ) (xs ys : List Event) → AreBetween low high xs → AreBetween low high ys → AreBetween low high (xs ++ ys)
joined low high [] ys bx by = by
joined low high (x ∷ xs) ys bx by = (bx.0, bx.1, joined low high xs ys bx.2 by)

-- the events since an earlier world
pub record AreSince (setup : Setup) (newer past : List Entry) : Type 0 where
  pub between : AreBetween (world setup past).store.version (world setup (newer ++ past)).store.version (events_by setup newer past)
  pub log : (world setup (newer ++ past)).log ≡ events_by setup newer past ++ (world setup past).log

pub since : (setup : Setup) (newer past : List Entry) → AreSince setup newer past
since setup [] past = record { between = tt; log = refl }
since setup (e ∷ newer) past =
    let s = since setup newer past in
    let l = left_of setup e (newer ++ past) in
    record {
      between = joined _ _ _ _ (between_wider _ _ _ _ _ (rises setup newer past) (omega arith) l.between) (between_wider _ _ _ _ _ (omega arith) l.up s.between);
      log = l.log ∙ ap (λ xs. left_by (effect_of setup e (newer ++ past)) ++ xs) s.log
          ∙ sym (append_assoc (left_by (effect_of setup e (newer ++ past))) (events_by setup newer past) (world setup past).log);
    }

-- all events of a log are at most at the world's version
pub logs : (setup : Setup) (past : List Entry) → (low : ℕ) → AreBetween 0 (world setup past).store.version (world setup past).log
logs setup [] low = tt
logs setup (e ∷ past) low =
    let l = left_of setup e past in
    subst (AreBetween 0 (world setup (e ∷ past)).store.version) (sym l.log)
    (joined _ _ _ _ (between_wider _ _ _ _ _ (omega arith) (omega arith) l.between) (between_wider _ _ _ _ _ (omega arith) l.up (logs setup past low)))

pub lt_true : (a b : ℕ) → a < b → nat_lt a b ≡ true
lt_true a b h = grind (arith, nat_tests)

pub lt_false : (a b : ℕ) → b ≤ a → nat_lt a b ≡ false
lt_false a b h = grind (arith, nat_tests)

-- later ones are those of the kind, and older ones none
pub later_pass : (k : Kind) (low high : ℕ) (es : List Event) → AreBetween low high es → filter (is_later k low) es ≡ filter (λ e. is_of_kind k e.object) es
later_pass k low high [] b = refl
later_pass k low high (e ∷ es) b =
    let is : nat_lt low e.version ≡ true = lt_true low e.version b.0 in
    rw (is, later_pass k low high es b.2) refl

older_fail : (k : Kind) (from high : ℕ) (es : List Event) → high ≤ from → AreBetween 0 high es → filter (is_later k from) es ≡ []
older_fail k from high [] h b = refl
older_fail k from high (e ∷ es) h b =
    let b1 = b.1 in
    let is : nat_lt from e.version ≡ false = lt_false from e.version (omega (arith, h, b1)) in
    rw (is, older_fail k from high es h b.2) refl

append_none : (xs ys : List Event) → ys ≡ [] → xs ++ ys ≡ xs
append_none [] ys e = e
append_none (x ∷ xs) ys e = ap (λ l. x ∷ l) (append_none xs ys e)

-- the events of the kind after the earlier world, in a log
sifted : (setup : Setup) (newer past : List Entry) (k : Kind)
    → filter (is_later k (world setup past).store.version) (world setup (newer ++ past)).log ≡ filter (λ e. is_of_kind k e.object) (events_by setup newer past)
sifted setup newer past k =
    let from = (world setup past).store.version in
    let s = since setup newer past in
    let mine = later_pass k from _ (events_by setup newer past) s.between in
    let none = older_fail k from from (world setup past).log (omega arith) (logs setup past 0) in
    ap (filter (is_later k from)) s.log ∙ filter-append (is_later k from) _ _ ∙ append_none _ _ none ∙ mine

pub watches_tell_what_came_after : WatchesTellWhatCameAfter
unfolding effect watch reply_to reply_of
watches_tell_what_came_after setup newer past kind k near =
    let from = (world setup past).store.version in
    let version = (world setup (newer ++ past)).store.version in
    let not_ahead : nat_lt version from ≡ false = lt_false version from (rises setup newer past) in
    let not_gone : nat_lt from (oldest (base setup) version) ≡ false = lt_false from (oldest (base setup) version) near in
    rw (not_ahead, not_gone) (ap (λ l. Events (record { events = take most_events (reverse l); upto = reached_version version (take most_events (reverse l)) })) (sifted setup newer past k))
