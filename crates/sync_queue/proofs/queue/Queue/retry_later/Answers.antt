use Rattle.std.proofs.Common.{true, false, refl, sym, ap, ◌∙◌}
use Rattle.sync_queue.specs.Steps.Lanes.{keys_in, stage_in, work_in}
use Rattle.sync_queue.specs.Work.{put_aside, put_off, queued, released}
use Rattle.sync_queue.proofs.Steps.{put_off-other, put_off-taken}
use Rattle.sync_queue.proofs.queue.Queue.retry_later.Goals as goal

pub returns-in-Some-default-false : goal.returns-in-Some-default-false
returns-in-Some-default-false c =
    let l = c.self.inside.lanes in
    let k = c.of.result in
    let e = c.in-Some-default-false in
    c.park.ensures.work ∙ (ap (λ j. put_aside j (released j (work_in l))) e.ensures.key ∙
    (sym (put_off-taken (stage_in l) k (keys_in l l.waiting.items) (keys_in l l.taken.items) (keys_in l l.parked.items) c.self.invariant.lanes
    (stage_in l k) refl false (sym e.ensures.taken) (sym e.ensures.again ∙ e.field-0-1-test)) ∙ (ap (put_off k) c.self.view_is ∙ ap (λ j. put_off j c.args.self.now) c.of.ensures)))

pub returns-in-Some-default-true : goal.returns-in-Some-default-true
returns-in-Some-default-true c =
    let l = c.self.inside.lanes in
    let k = c.of.result in
    let e = c.in-Some-default-true in
    c.requeue.ensures.work ∙ (ap (λ j. queued j (released j (work_in l))) e.ensures.key ∙
    (sym (put_off-taken (stage_in l) k (keys_in l l.waiting.items) (keys_in l l.taken.items) (keys_in l l.parked.items) c.self.invariant.lanes
    (stage_in l k) refl true (sym e.ensures.taken) (sym e.ensures.again ∙ e.field-0-1-test)) ∙ (ap (put_off k) c.self.view_is ∙ ap (λ j. put_off j c.args.self.now) c.of.ensures)))

pub returns-in-None : goal.returns-in-None
returns-in-None c =
    let l = c.self.inside.lanes in
    let k = c.of.result in
    sym c.self.view_is ∙ (sym
    (put_off-other (stage_in l) k (keys_in l l.waiting.items) (keys_in l l.taken.items) (keys_in l l.parked.items) c.self.invariant.lanes
    (stage_in l k) refl (sym c.in-None.ensures.taken)) ∙ (ap (put_off k) c.self.view_is ∙ ap (λ j. put_off j c.args.self.now) c.of.ensures))
