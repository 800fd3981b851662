use Rattle.std.proofs.Common.{rules, ap, sym, ◌∙◌, ◌++◌, []}
use Rattle.seat_lock.specs.declared.known.Known.{Known}
use Rattle.seat_lock.specs.History.{calls_of}
use Rattle.seat_lock.proofs.Numbers.{compares}
use Rattle.seat_lock.proofs.Showing.{learnt_both, sight_joins}
use Rattle.seat_lock.proofs.table.SeatLock.learn.Goals as goal

pub join_seat-requires : goal.join_seat-requires
join_seat-requires g c = (
  search rules,
  search rules,
  search rules,
  search rules,
  sight_joins g.V.Keeps.history g.V.Keeps.base _ _ _ _ _ c.args.pass.now.idle c.args.sight.spent c.args.sight.shareless,
)

pub load-requires : goal.load-requires
load-requires g c = (
  search rules,
  search rules,
  compares g.V.Keeps.history g.V.Keeps.base _ _ _ _ _ (ap (λ m. m.0.stage) c.join_seat.ensures.2 ∙ c.args.pass.now.idle),
)

pub returns-clause-learnt : goal.returns-clause-learnt
returns-clause-learnt g c =
    let joined = ap (λ m. m.0) c.join_seat.ensures.2 in
    let compared = c.load.ensures.2 in
    let front = ap (λ m. m.0.front) compared.0 in
    let both = learnt_both c.join_seat.new.seat.me.0 c.args.pass.now.seat.me.0 c.args.sight.seat.me.0 joined compared.1 in
    let number = ap (λ v. v.number) joined ∙ c.args.pass.now.number_is in record {
      numbers = search rules;
      view = ap (λ m. m.0) compared.0 ∙ ap (λ (v : Known g.row.V-Ask.Denot g.row.V-Answer.Denot g.row.V-Base.Denot). record v { fronts = [] }) joined;
      old = (both.0.0, front ∙ both.0.1);
      new = (both.1.0, front ∙ both.1.1);
      own = (compared.3.0, ap (λ m. m.0.own) compared.0 ∙ compared.3.1 ∙ (λ i. compared.3.0 ++ calls_of (number i) (sym front i)));
    }
