use Rattle.std.proofs.Common.{◌≡◌, Some, None, refl, sym, ap, ◌∙◌}
use Rattle.sync_queue.specs.declared.lanes.KeyStage.TheVariants.{Waiting, Taken, Again, Parked, Gone}
use Rattle.sync_queue.specs.Steps.Lanes.{keys_in, stage_in, work_in}
use Rattle.sync_queue.specs.Work.{added, marked, queued}
use Rattle.sync_queue.proofs.Steps.{added-at, unparked-none}
use Rattle.sync_queue.proofs.queue.Queue.add_asked.Goals as goal

pub returns-in_ok-admit-in-None-clause-ok : goal.returns-in_ok-admit-in-None-clause-ok
returns-in_ok-admit-in-None-clause-ok c =
    let l = c.self.inside.lanes in
    let k = c.args.key.now in
    let at : stage_in l k ≡ None = sym c.in-None.ensures.stage in
    let new = unparked-none (stage_in l) c.args.key.now (keys_in l l.waiting.items) (keys_in l l.taken.items) (keys_in l l.parked.items) c.self.invariant.lanes None at refl in
    c.in_ok-admit-in-None.ensures.ok ∙ (ap (queued k) (sym new) ∙
    (sym (added-at (stage_in l) c.args.key.now (keys_in l l.waiting.items) (keys_in l l.taken.items) (keys_in l l.parked.items) c.self.invariant.lanes None at) ∙ ap (added k) c.self.view_is))

pub returns-in_ok-readmit-in-Some-default-Gone-clause-ok : goal.returns-in_ok-readmit-in-Some-default-Gone-clause-ok
returns-in_ok-readmit-in-Some-default-Gone-clause-ok c =
    let l = c.self.inside.lanes in
    let k = c.args.key.now in
    let at : stage_in l k ≡ Some Gone = sym c.in-Some-default-Gone.ensures.stage ∙ ap Some c.in-Some-default-Gone.field-0-1-is in
    let new = unparked-none (stage_in l) c.args.key.now (keys_in l l.waiting.items) (keys_in l l.taken.items) (keys_in l l.parked.items) c.self.invariant.lanes (Some Gone) at refl in
    c.in_ok-readmit-in-Some-default-Gone.ensures.ok
    ∙ (ap (λ j. queued j (work_in l)) c.in-Some-default-Gone.ensures.key
    ∙ (ap (queued k) (sym new) ∙ (sym
    (added-at (stage_in l) c.args.key.now (keys_in l l.waiting.items) (keys_in l l.taken.items) (keys_in l l.parked.items) c.self.invariant.lanes (Some Gone) at) ∙ ap (added k) c.self.view_is)))

pub returns-in-Some-default-Waiting-clause-ok : goal.returns-in-Some-default-Waiting-clause-ok
returns-in-Some-default-Waiting-clause-ok c =
    let l = c.self.inside.lanes in
    let k = c.args.key.now in
    let at : stage_in l k ≡ Some Waiting = sym c.in-Some-default-Waiting.ensures.stage ∙ ap Some c.in-Some-default-Waiting.field-0-1-is in
    sym c.self.view_is ∙ (sym
    (added-at (stage_in l) c.args.key.now (keys_in l l.waiting.items) (keys_in l l.taken.items) (keys_in l l.parked.items) c.self.invariant.lanes (Some Waiting) at) ∙ ap (added k) c.self.view_is)

pub returns-in-Some-default-Taken-clause-ok : goal.returns-in-Some-default-Taken-clause-ok
returns-in-Some-default-Taken-clause-ok c =
    let l = c.self.inside.lanes in
    let k = c.args.key.now in
    let at : stage_in l k ≡ Some Taken = sym c.in-Some-default-Taken.ensures.stage ∙ ap Some c.in-Some-default-Taken.field-0-1-is in
    c.mark.ensures.work ∙ (ap (λ j. marked j (work_in l)) c.in-Some-default-Taken.ensures.key ∙
    (sym (added-at (stage_in l) c.args.key.now (keys_in l l.waiting.items) (keys_in l l.taken.items)
    (keys_in l l.parked.items) c.self.invariant.lanes (Some Taken) at) ∙ ap (added k) c.self.view_is))

pub returns-in-Some-default-Again-clause-ok : goal.returns-in-Some-default-Again-clause-ok
returns-in-Some-default-Again-clause-ok c =
    let l = c.self.inside.lanes in
    let k = c.args.key.now in
    let at : stage_in l k ≡ Some Again = sym c.in-Some-default-Again.ensures.stage ∙ ap Some c.in-Some-default-Again.field-0-1-is in
    c.mark-in-Some-default-Again.ensures.work
    ∙ (ap (λ j. marked j (work_in l)) c.in-Some-default-Again.ensures.key
    ∙ (sym (added-at (stage_in l) c.args.key.now (keys_in l l.waiting.items) (keys_in l l.taken.items)
    (keys_in l l.parked.items) c.self.invariant.lanes (Some Again) at) ∙ ap (added k) c.self.view_is))

pub returns-in-Some-default-Parked-clause-ok : goal.returns-in-Some-default-Parked-clause-ok
returns-in-Some-default-Parked-clause-ok c =
    let l = c.self.inside.lanes in
    let k = c.args.key.now in
    let at : stage_in l k ≡ Some Parked = sym c.in-Some-default-Parked.ensures.stage ∙ ap Some c.in-Some-default-Parked.field-0-1-is in
    c.unpark.ensures.work ∙ (sym
    (added-at (stage_in l) c.args.key.now (keys_in l l.waiting.items) (keys_in l l.taken.items) (keys_in l l.parked.items) c.self.invariant.lanes (Some Parked) at) ∙ ap (added k) c.self.view_is)
