use Rattle.std.proofs.Common.{refl}
use Rattle.script_threads.proofs.crew.user.Goals as goal

pub returns : goal.returns
returns g c = record { user = record { alloc = c.args.alloc; listener = c.args.gate; script = c.args.script }; is = refl; of = refl; seats = refl }
