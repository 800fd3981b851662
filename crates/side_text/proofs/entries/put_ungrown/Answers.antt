use Rattle.std.proofs.Common.{◌≡◌, OnOk, codes, subst}
use Rattle.json_text.specs.Members.{text, with_member_text, with_option}
use Rattle.side_text.proofs.entries.put_ungrown.Goals as goal

pub returns : goal.returns
returns c = record {
  ok = subst (λ before. OnOk c.put_text-2.result (c.put_text-2.new.self ≡ with_option with_member_text (codes "why") (text c.args.why.now) before)) c.in_ok-put_text.ensures.ok
      c.put_text-2.ensures.ok;
}
