use Rattle.std.proofs.Common.{◌≡◌, ◌∙◌, false, true, sym, true≢false}
use Rattle.clap.specs.declared.error.kind.ErrorKind.TheVariants.{OutOfMemory}
use Rattle.command_words.proofs.Parsing.{parsed, refused}
use Rattle.command_words.proofs.reading.matches_of.Goals as goal

pub returns-in-Ok : goal.returns-in-Ok
returns-in-Ok c = parsed c.in_ok-line.field-0 _ c.in_ok-line.ensures c.in-Ok.matches c.in-Ok.ensures.matches c.in-Ok.ensures.kinds

pub returns : goal.returns
returns c = refused c.in_ok-line.field-0 _ c.in_ok-line.ensures c.in-Err.error c.in-Err.ensures.kinds
    (λ memory. let is : c.kind.result ≡ OutOfMemory = c.kind.ensures ∙ memory in let bad : false ≡ true = rw is at c.if-eq.ensures in absurd (true≢false (sym bad)))
