use Rattle.std.proofs.Common.{sym, subst, ◌+◌, List}
use Rattle.call_types.specs.declared.entry.Entry.{Entry}
use Rattle.shared_world.specs.Passes.{HasLearnt}
use Rattle.actor_work.proofs.Lives.Living.{are_told, of_found, of_shown}
use Rattle.actor_work.proofs.passes.lives.Lives.tell.Goals as goal

pub sight-sight-requires : goal.sight-sight-requires
sight-sight-requires g c =
    let l = c.args.self.now in
    record { pass = of_found l.shared.now l.made l.first c.args.from l.passes.items c.index_mut.result.now c.requires.lives c.requires.places.0 c.index_mut.ensures.value }

pub learn-requires-clause-pass : goal.learn-requires-clause-pass
learn-requires-clause-pass g c =
    let l = c.args.self.now in
    of_shown l.shared.now l.made l.first c.args.from l.passes.items c.index_mut.result.now c.sight-sight.new.pass c.requires.lives c.requires.places.0 c.index_mut.ensures.value
    c.sight-sight.ensures.pass c.sight-sight.ensures.numbers c.sight-sight.ensures.view c.args.to c.index_mut-2.result.now c.requires.places.1 c.index_mut-2.ensures.value

pub returns-clause-lives : goal.returns-clause-lives
returns-clause-lives g c =
    let l = c.args.self.now in
    let all = are_told l.shared.now l.made l.first c.args.from l.passes.items c.index_mut.result.now c.sight-sight.new.pass c.requires.lives c.requires.places.0 c.index_mut.ensures.value
    c.sight-sight.ensures.pass c.sight-sight.ensures.numbers c.sight-sight.ensures.view c.args.to c.index_mut-2.result.now c.requires.places.1 c.index_mut-2.ensures.value c.learn.new.pass
    c.learn.ensures.pass (subst (λ (es : List Entry). HasLearnt es c.index_mut-2.result.now c.learn.new.pass) c.sight-sight.ensures.shown c.learn.ensures.learnt) in
    all.lives

pub returns-clause-past : goal.returns-clause-past
returns-clause-past g c =
    let l = c.args.self.now in
    let all = are_told l.shared.now l.made l.first c.args.from l.passes.items c.index_mut.result.now c.sight-sight.new.pass c.requires.lives c.requires.places.0 c.index_mut.ensures.value
    c.sight-sight.ensures.pass c.sight-sight.ensures.numbers c.sight-sight.ensures.view c.args.to c.index_mut-2.result.now c.requires.places.1 c.index_mut-2.ensures.value c.learn.new.pass
    c.learn.ensures.pass (subst (λ (es : List Entry). HasLearnt es c.index_mut-2.result.now c.learn.new.pass) c.sight-sight.ensures.shown c.learn.ensures.learnt) in
    all.past

pub returns-clause-told : goal.returns-clause-told
returns-clause-told g c =
    let l = c.args.self.now in
    let all = are_told l.shared.now l.made l.first c.args.from l.passes.items c.index_mut.result.now c.sight-sight.new.pass c.requires.lives c.requires.places.0 c.index_mut.ensures.value
    c.sight-sight.ensures.pass c.sight-sight.ensures.numbers c.sight-sight.ensures.view c.args.to c.index_mut-2.result.now c.requires.places.1 c.index_mut-2.ensures.value c.learn.new.pass
    c.learn.ensures.pass (subst (λ (es : List Entry). HasLearnt es c.index_mut-2.result.now c.learn.new.pass) c.sight-sight.ensures.shown c.learn.ensures.learnt) in
    all.told
