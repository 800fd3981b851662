use Rattle.std.proofs.Common.{◌≡◌, ◌∙◌, sym, ap, subst, arith, ℕ}
use Rattle.actor_work.specs.Lives.Lived.{known_by_all}
use Rattle.actor_work.proofs.Lives.Following.{IsTold, all_told, one_told}
use Rattle.actor_work.proofs.Lives.Living.{as_long, same_lives}
use Rattle.actor_work.proofs.passes.lives.Lives.take_over.Goals as goal

pub loop-earlier-preserved : goal.loop-earlier-preserved
loop-earlier-preserved g c =
    let l = c.args.self.now in
    let m = c.loop-earlier.self in
    let n = c.tell.new.self in
    let inv = c.loop-earlier.invariant in
    let lent = c.tell.ensures.lent in
    let long = inv.long in
    let high = c.requires.place.1 in
    let more = c.loop-earlier-test.true in
    let all = as_long m.passes.items in
    let low = inv.low in record {
      lent = (lent.0 ∙ inv.lent.0, lent.1 ∙ inv.lent.1, lent.2 ∙ inv.lent.2);
      lives = same_lives m.shared.now l.shared.now m.made l.made m.first l.first n.passes.items (sym (ap (λ s. s.now) inv.lent.0)) (sym inv.lent.1) (sym inv.lent.2) c.tell.ensures.lives;
      long = c.tell.ensures.long ∙ long;
      past = c.tell.ensures.past ∙ inv.past;
      low = omega (arith, low);
      told = one_told l.first l.at c.args.place c.loop-earlier.earlier (known_by_all m.passes.items) (known_by_all n.passes.items) inv.lives.order
          (omega (arith, all, long, high)) low more c.tell.ensures.told inv.told;
    }

pub returns-clause-reached : goal.returns-clause-reached
returns-clause-reached g c =
    let l = c.args.self.now in
    let m = c.loop-earlier.self in
    let inv = c.loop-earlier.invariant in
    let end = c.loop-earlier-test.false in
    let top = c.loop-earlier.auto.earlier-end in
    let place_is : c.loop-earlier.earlier ≡ c.args.place = omega (arith, end, top) in
    let long = inv.long in
    let high = c.requires.place.1 in
    let low = c.requires.place.0 in
    let all = as_long m.passes.items in
    all_told l.first l.at c.args.place (known_by_all m.passes.items) inv.lives.order (omega (arith, all, long, high)) low
    (subst (λ (n : ℕ). IsTold l.first l.at c.args.place n (known_by_all m.passes.items)) place_is inv.told)
