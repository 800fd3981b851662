use Rattle.std.proofs.Common.{reverse, sym, true≢false}
use Rattle.licence_record.proofs.Defaulting.{named_none, named_row}
use Rattle.licence_record.proofs.classes.is_default_named.Goals as goal

pub returns-in-None : goal.returns-in-None
returns-in-None c = ((λ t. absurd (true≢false (sym t))), (λ d. absurd (named_none (reverse c.args.mine.now) c.args.name.now c.in-None.ensures.none d)))

pub returns-in-Some : goal.returns-in-Some
returns-in-Some c = named_row (reverse c.args.mine.now) c.args.name.now c.in-Some.class.now _ c.in-Some.ensures.some c.is_first_marked.ensures
