use Rattle.json_text.specs.Writing.{written}
use Rattle.object_print.proofs.Shapes.{closes_selector}
use Rattle.object_print.proofs.parts.SelectorAsJson.write.Goals as goal

pub returns : goal.returns
returns c =
    record {
      ok = rw (
        c.in_ok-put_filled_pairs.ensures.ok,
        c.in_ok-put_filled_list.ensures.ok,
        c.as_slice.ensures,
        c.in_ok-begin_object.ensures.ok,
        closes_selector c.args.self.now (written c.args.out.now),
      ) at c.end_object.ensures.ok;
    }
