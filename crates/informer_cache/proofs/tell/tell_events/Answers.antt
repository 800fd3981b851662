use Rattle.std.proofs.Common.{◌≡◌, ◌<◌, ◌-◌, ℕ, suc, List, ◌∷◌, length, get_or, drop, drop-cons, arith, ◌∙◌, ap, sym}
use Rattle.kube_objects.specs.declared.key.Key.{Key}
use Rattle.call_types.specs.declared.reply.Event.{Event}
use Rattle.binder_model.specs.Told.{later, told_by_events}
use Rattle.informer_cache.specs.Knowledge.{event_tells, telling_in}
use Rattle.informer_cache.proofs.Seen.{later_assoc}
use Rattle.informer_cache.proofs.tell.tell_events.Goals as goal

-- the events from a place on are the one there, and those after it
events_from : (events : List Event) (at i : ℕ) (e : Event) (k : Key) → i < length events → suc i ≡ at → e ≡ get_or events i e
    → told_by_events (drop i events) k ≡ later (event_tells e k) (told_by_events (drop at events) k)
events_from events at i e k lt next is =
    ap (λ es. told_by_events es k) (drop-cons events i e lt ∙ ap (λ j. get_or events i e ∷ drop j events) next)
    ∙ ap (λ (x : Event). later (event_tells x k) (told_by_events (drop at events) k)) (sym is)

pub loop-at-preserved : goal.loop-at-preserved
loop-at-preserved c =
    let at = c.loop-at.at in
    let within : at - 1 < length c.args.events.now = omega (arith, c.loop-at.invariant.within, c.loop-at-test.true) in
    let next : suc (at - 1) ≡ at = omega (arith, c.loop-at-test.true) in
    record {
      within = omega (arith, within);
      kind = c.in_ok-tell_event.ensures.kind ∙ c.loop-at.invariant.kind;
      told = λ k of.
          c.in_ok-tell_event.ensures.told k (of ∙ sym c.loop-at.invariant.kind)
          ∙ ap (later (event_tells c.index-events-at.result k)) (c.loop-at.invariant.told k of)
          ∙ later_assoc (event_tells c.index-events-at.result k) (told_by_events (drop at c.args.events.now) k) (telling_in c.args.rows.now c.args.lists.now k)
          ∙ ap (λ x. later x (telling_in c.args.rows.now c.args.lists.now k)) (sym (events_from c.args.events.now at (at - 1) c.index-events-at.result k within next c.index-events-at.is));
    }
