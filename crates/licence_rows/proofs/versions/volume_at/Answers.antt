use Rattle.std.proofs.Common.{reverse}
use Rattle.licence_rows.proofs.Versioned.{volume_found}
use Rattle.licence_rows.proofs.versions.volume_at.Goals as goal

pub returns-in-Some : goal.returns-in-Some
returns-in-Some c = volume_found c.args.given c.in-Some.found.now (reverse c.args.page.now) c.as_volume.result c.as_volume.ensures c.in-Some.ensures
