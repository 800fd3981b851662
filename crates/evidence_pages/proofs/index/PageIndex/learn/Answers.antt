use Rattle.std.proofs.Common.{refl}
use Rattle.evidence_pages.proofs.index.PageIndex.learn.Goals as goal

pub returns : goal.returns
returns c = λ mine firsts index. record {
  pages = c.in_ok-learn.ensures mine index.pages;
  known = λ k. c.in_ok-absorb.ensures mine (index.known k);
  kinds = λ k is. c.kind_after-self.ensures mine c.args.entry.now refl firsts index.kinds k is;
}
