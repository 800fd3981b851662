use Rattle.std.proofs.Common.{refl, ◌++◌}
use Rattle.json_text.specs.Writing.{written}
use Rattle.json_text.proofs.Closing.{closes}
use Rattle.object_print.specs.Metadata.{meta_data, front_pairs, back_pairs}
use Rattle.object_print.proofs.metadata.MetaOfAsJson.write.Goals as goal

pub returns : goal.returns
unfolding meta_data
returns c =
    record {
      ok = rw (
        c.in_ok-put_back.ensures.ok,
        c.in_ok-put_front.ensures.ok,
        c.in_ok-begin_object.ensures.ok,
        closes (front_pairs c.args.self.now.meta.now ++ back_pairs c.args.self.now.namespaced c.args.self.now.meta.now) (written c.args.out.now) refl,
      ) at c.end_object.ensures.ok;
    }
