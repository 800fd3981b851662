-- A run: a history of one world in which each controller was allowed what it asked. The newest entry stands first.
-- A choice of this project.
use Rattle.std.specs.Prelude.{◌≡◌, List, [], ◌∷◌, ⊤}
use Rattle.call_types.specs.declared.entry.Entry.{Entry}
use Rattle.call_types.specs.declared.setup.Setup.{Setup}
use Rattle.binder_model.specs.World.{world, effect, reply_to}
use Rattle.binder_model.specs.Told.{own}
use Rattle.binder_model.specs.Licence.{Licensed}

-- each controller was allowed what it asked, by what it was told before
abbrev pub IsLicensed : List Entry → Type 0
IsLicensed [] = ⊤
IsLicensed (e ∷ past) = IsLicensed past × Licensed e.kind (own e.seat past) e.request

-- each reply is the world's, and each request was allowed
abbrev pub Run : Setup → List Entry → Type 0
Run setup [] = ⊤
Run setup (e ∷ past) =
    Run setup past
    × (e.reply ≡ reply_to (effect setup (world setup past) e.kind e.request))
    × Licensed e.kind (own e.seat past) e.request
