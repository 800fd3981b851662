use Rattle.std.proofs.Common.{◌≡◌, OnOk, subst}
use Rattle.json_text.specs.Members.{with_member_text, with_options}
use Rattle.side_text.specs.Entries.{ungrown_pairs}
use Rattle.side_text.proofs.entries.put_error.Goals as goal

pub returns-in-NotGrowable : goal.returns-in-NotGrowable
returns-in-NotGrowable c = rw (c.in-NotGrowable.is) (record {
  ok = subst (λ why. OnOk c.put_ungrown.result (c.put_ungrown.new.out ≡ with_options with_member_text (ungrown_pairs why) c.args.out.now)) c.why_word.ensures c.put_ungrown.ensures.ok;
})

pub returns-in-OverBytes : goal.returns-in-OverBytes
returns-in-OverBytes c = rw c.in-OverBytes.is (record { ok = c.put_over.ensures.ok })
