use Rattle.std.proofs.Common.{arith, sym, subst, ap, ◌∙◌, ◌+◌, List, drop}
use Rattle.std.proofs.lemmas.List.{drop_all}
use Rattle.script_text.specs.declared.script.Line.{Line}
use Rattle.shared_world.specs.Passes.{IsOf}
use Rattle.shared_work.specs.Lines.{HasDone, asked_in}
use Rattle.shared_work.specs.Seats.{lasting, seat_of}
use Rattle.shared_work.proofs.Asking.{no_call, none_done, other_line, over_line, own_line, with_line}
use Rattle.shared_work.proofs.lines.do_lines.Goals.{in-Call+then-user-number+in_ok-ask, in-Call+else-user-number, in_default}
use Rattle.shared_work.proofs.lines.do_lines.Goals as goal

pub loop-line-preserved : goal.loop-line-preserved
loop-line-preserved g c =
    let inv = c.loop-line.invariant in
    let pass = c.loop-line.pass in
    let here = over_line c.args.lines.now c.loop-line.line-index c.line-item.result c.loop-line-test.true c.line-item.is (seat_of pass) in
    elim c.match-line.branch [
      | in-Call+then-user-number+in_ok-ask w ↦ let asked = w.in_ok-ask.ensures in record {
        of = subst (λ p. IsOf c.args.shared.now p) (sym w.pass-is) asked.pass;
        kept = ap (λ p. lasting p) w.pass-is ∙ asked.kept ∙ inv.kept;
        few = omega (arith, w.made-is, inv.few);
        done = λ end done. inv.done end
            (with_line c.args.lines.now c.loop-line.line-index c.line-item.result c.loop-line-test.true c.line-item.is (seat_of pass) end w.in-Call.request (seat_of w.ask.new.pass)
            (ap (asked_in pass.number) w.in-Call.is ∙ own_line pass.number w.in-Call.user w.in-Call.request (w.if-user-number.true ∙ w.number.ensures))
            asked.asked
            (subst (λ p. HasDone (drop (c.loop-line.line-index + 1) c.args.lines.now) (seat_of p) end) w.pass-is done));
      }
      | in-Call+else-user-number w ↦ record {
        of = subst (λ p. IsOf c.args.shared.now p) (sym w.pass-is) inv.of;
        kept = ap (λ p. lasting p) w.pass-is ∙ inv.kept;
        few = omega (arith, w.made-is, inv.few);
        done = λ end done. inv.done end
            (here end (ap (asked_in pass.number) w.in-Call.is ∙ other_line pass.number w.in-Call.user w.in-Call.request (λ is. w.if-user-number.false (is ∙ sym w.number.ensures)))
            (subst (λ p. HasDone (drop (c.loop-line.line-index + 1) c.args.lines.now) (seat_of p) end) w.pass-is done));
      }
      | in_default w ↦ record {
        of = subst (λ p. IsOf c.args.shared.now p) (sym w.pass-is) inv.of;
        kept = ap (λ p. lasting p) w.pass-is ∙ inv.kept;
        few = omega (arith, w.made-is, inv.few);
        done = λ end done. inv.done end (here end (no_call pass.number c.line-item.result w.in_default.not-Call)
            (subst (λ p. HasDone (drop (c.loop-line.line-index + 1) c.args.lines.now) (seat_of p) end) w.pass-is done));
      }
    ]

pub returns-clause-done : goal.returns-clause-done
returns-clause-done g c =
    let seat = seat_of c.loop-line.pass in
    let none = drop_all c.loop-line.line-index c.args.lines.now (omega (arith, c.loop-line-test.false)) in
    c.loop-line.invariant.done seat (subst (λ (lines : List Line). HasDone lines seat seat) (sym none) (none_done seat))
