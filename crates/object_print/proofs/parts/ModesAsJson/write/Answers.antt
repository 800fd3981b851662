use Rattle.json_text.specs.Writing.{written}
use Rattle.object_print.proofs.Shapes.{closes_modes}
use Rattle.object_print.proofs.parts.ModesAsJson.write.Goals as goal

pub returns : goal.returns
returns c =
    record {
      ok = rw (
        c.in_ok-word_if-4.ensures.ok,
        c.in_ok-word_if-3.ensures.ok,
        c.in_ok-word_if-2.ensures.ok,
        c.in_ok-word_if.ensures.ok,
        c.in_ok-begin_array.ensures.ok,
        closes_modes c.args.self.now (written c.args.out.now),
      ) at c.end_array.ensures.ok;
    }
