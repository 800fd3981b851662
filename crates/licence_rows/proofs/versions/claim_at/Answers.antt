use Rattle.std.proofs.Common.{reverse}
use Rattle.licence_rows.proofs.Versioned.{claim_found}
use Rattle.licence_rows.proofs.versions.claim_at.Goals as goal

pub returns-in-Some : goal.returns-in-Some
returns-in-Some c = claim_found c.args.given c.in-Some.found.now (reverse c.args.page.now) c.as_claim.result c.as_claim.ensures c.in-Some.ensures
